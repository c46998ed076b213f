-- a text that is cut has 62 signs
use Rattle.std.proofs.Common.{◌≡◌, ◌<◌, ◌≤◌, ◌++◌, ◌∙◌, ℕ, List, ap, arith, codes, inl, inr, length, length-append, take}
use Rattle.std.proofs.lemmas.Bool.Decides.{leb_tells}
use Rattle.std.proofs.lemmas.List.{length-take-le}
use Rattle.std.specs.Prelude.{if◌then◌else◌, min, nat_le}
use Rattle.timeline.specs.Texts.{shortened}
use Rattle.timeline.proofs.lengths.short_len.Goals as goal

length-shortened : (text : List ℕ) → length (shortened text) ≡ min (length text) 62
unfolding shortened
length-shortened text = elim (leb_tells (length text) 62) [
  | inl whole ↦
      let fits : length text ≤ 62 = whole.1 in
      ap (λ b. length (if b then text else take 60 text ++ codes "..")) whole.0 ∙ omega arith
  | inr cut ↦
      let long : 62 < length text = cut.1 in
      ap (λ b. length (if b then text else take 60 text ++ codes "..")) cut.0
      ∙ omega (arith, length-append (take 60 text) (codes ".."), length-take-le 60 text (omega arith))
]

pub returns : goal.returns
returns c = omega (arith, length-shortened c.args.text.now)
