-- each piece is what its call answered
use Rattle.std.proofs.Common.{◌≡◌, ◌++◌, ◌∷◌, ◌∙◌, ℕ, List, [], append_assoc, append-nil}
use Rattle.std.specs.Prelude.{codes}
use Rattle.report_text.specs.Line.{spell_access}
use Rattle.report_text.proofs.SinkSteps.{writes_same}
use Rattle.report_text.proofs.trace.write_access.Goals as goal

-- the second half of the line
end_is : (s x m b e nl : List ℕ)
    → ((s ++ x) ++ (m ++ (s ++ (b ++ (s ++ (e ++ nl)))))) ++ []
    ≡ s ++ ((x ++ m) ++ (s ++ (b ++ (s ++ (e ++ nl)))))
end_is s x m b e nl = simp (append_assoc, append-nil)

-- the line, part by part
parts_are : (p n s l x a z t : List ℕ)
    → p ++ (n ++ (s ++ (l ++ (((s ++ x) ++ (a ++ (s ++ (z ++ [])))) ++ t))))
    ≡ p ++ (n ++ (s ++ (l ++ (s ++ ((x ++ a) ++ (s ++ (z ++ t)))))))
parts_are p n s l x a z t = simp (append_assoc, append-nil)

-- grouped from the left
grouped : (p n s l x a z m b e nl : List ℕ)
    → p ++ (n ++ (s ++ (l ++ (s ++ ((x ++ a) ++ (s ++ (z ++ (s ++ ((x ++ m) ++ (s ++ (b ++ (s ++ (e ++ nl)))))))))))))
    ≡ p ++ n ++ s ++ l ++ s ++ (x ++ a) ++ s ++ z ++ s ++ (x ++ m) ++ s ++ b ++ s ++ e ++ nl
grouped p n s l x a z m b e nl = simp append_assoc

spelled : (n l a z m b e : List ℕ)
    → codes "access " ++ (n ++ (codes " " ++ (l ++ ((codes " 0x" ++ (a ++ (codes " " ++ (z ++ []))))
    ++ ((codes " 0x" ++ (m ++ (codes " " ++ (b ++ (codes " " ++ (e ++ (10 ∷ []))))))) ++ [])))))
    ≡ codes "access " ++ n ++ codes " " ++ l ++ codes " " ++ (codes "0x" ++ a)
    ++ codes " " ++ z ++ codes " " ++ (codes "0x" ++ m) ++ codes " " ++ b ++ codes " " ++ e ++ 10 ∷ []
spelled n l a z m b e =
    let p = codes "access " in
    let s = codes " " in
    let x = codes "0x" in
    let nl : List ℕ = 10 ∷ [] in
    parts_are p n s l x a z (((s ++ x) ++ (m ++ (s ++ (b ++ (s ++ (e ++ nl)))))) ++ [])
    ∙ rw (end_is s x m b e nl) (grouped p n s l x a z m b e nl)

pub returns : goal.returns
unfolding spell_access
returns g c = writes_same g.K.Sink.written g.K.Sink.failures _ _ _ _ _
    (spelled _ _ _ _ _ _ _
    ∙ rw (
      c.name-name.ensures,
      c.letters-letters.ensures,
      c.task.ensures.value,
      c.site.ensures.value,
      c.rep.ensures.value,
      c.addr.ensures.value,
      c.size.ensures.value,
      c.unwrap_or.ensures,
      c.mask.ensures,
      c.begin.ensures,
      c.end.ensures,
      c.access-access.ensures,
    ))
    c.write_parts.ensures
