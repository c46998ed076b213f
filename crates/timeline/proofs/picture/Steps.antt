-- one step of a loop, and its end
use Rattle.std.proofs.Common.{◌≡◌, ◌<◌, ◌≤◌, ◌+◌, ◌++◌, ◌∷◌, ◌∙◌, ℕ, List, [], Option, Some, None, Bor, ap, get_or, length, refl, subst, sym, take}
use Rattle.std.specs.Prelude.{IsSome}
use Rattle.std.specs.Option.{option_copied}
use Rattle.std.proofs.lemmas.List.{take_all, take_more}
use Rattle.report_text.specs.Standing.{accesses_of, arms_of, reports_of, takes_of}
use Rattle.report_text.specs.declared.line.Line.{Line}
use Rattle.report_text.proofs.TrueLines.{accesses-append, arms-append, reports-append, takes-append}
use Rattle.timeline.specs.picture.Parts.{ArePartsOf}
use Rattle.timeline.specs.declared.picture.parts.Parts.{Parts}

-- what holds of those so far and of the next holds of one more
pub next_too : {X : Type 0} (P : List X → Type 0) (xs : List X) (i : ℕ) (x : X) → i < length xs → x ≡ get_or xs i x → P (take i xs ++ x ∷ [])
    → P (take (i + 1) xs)
next_too P xs i x within is h = subst P (ap (λ y. take i xs ++ y ∷ []) is ∙ sym (take_more xs i x within)) h

-- what holds of those so far at the end holds of all
pub all_too : {X : Type 0} (P : List X → Type 0) (xs : List X) (i : ℕ) → length xs ≤ i → P (take i xs) → P xs
all_too P xs i past h = subst P (take_all i xs past) h

-- what is copied is there
pub is_there : {X : Type 0} (found : Option (Bor X)) → IsSome (option_copied found) → IsSome found
is_there None h = h
is_there (Some x) h = refl

-- one line more is kept
pub one_kept : (all : List Line) (line : Line) (before after : Parts) → ArePartsOf all before
    → after.accesses.items ≡ before.accesses.items ++ accesses_of (line ∷ [])
    → after.arms.items ≡ before.arms.items ++ arms_of (line ∷ [])
    → after.takes.items ≡ before.takes.items ++ takes_of (line ∷ [])
    → after.reports.items ≡ before.reports.items ++ reports_of (line ∷ []) → ArePartsOf (all ++ line ∷ []) after
one_kept all line before after h accesses arms takes reports = record {
  accesses = accesses ∙ ap (λ xs. xs ++ accesses_of (line ∷ [])) h.accesses ∙ sym (accesses-append all (line ∷ []));
  arms = arms ∙ ap (λ xs. xs ++ arms_of (line ∷ [])) h.arms ∙ sym (arms-append all (line ∷ []));
  takes = takes ∙ ap (λ xs. xs ++ takes_of (line ∷ [])) h.takes ∙ sym (takes-append all (line ∷ []));
  reports = reports ∙ ap (λ xs. xs ++ reports_of (line ∷ [])) h.reports ∙ sym (reports-append all (line ∷ []));
}
