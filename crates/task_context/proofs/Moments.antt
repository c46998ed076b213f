-- The marks of a task in moments that follow one another.
use Rattle.std.proofs.Common.{◌≡◌, ◌++◌, ◌==◌, ◌∙◌, ℕ, List, [], ◌∷◌, Bool, true, false, refl, ap}
use Rattle.std.proofs.lemmas.Bool.{eq-eqb}
use Rattle.std.proofs.lemmas.List.{append-nil}
use Rattle.access_types.specs.History.{History}
use Rattle.access_types.specs.Marked.{mark_before, marks_of}
use Rattle.access_types.specs.declared.history.Happening.{Happening}
use Rattle.access_types.specs.declared.history.Happening.TheVariants.{Begin, End, Read, Write, Lock}
use Rattle.access_types.specs.declared.history.Happening.TheVariants.{Unlock}
use Rattle.access_types.specs.declared.history.Happening.TheVariants as happenings
use Rattle.access_types.specs.declared.history.Mark.{Mark}
use Rattle.access_types.specs.declared.history.Moment.{Moment}

mark_before-append : (own : Bool) (happening : Happening) (xs ys : List Mark)
    → mark_before own happening (xs ++ ys) ≡ mark_before own happening xs ++ ys
mark_before-append true (Begin a) xs ys = refl
mark_before-append true (End a) xs ys = refl
mark_before-append true (Read bytes value) xs ys = refl
mark_before-append true (Write bytes value) xs ys = refl
mark_before-append true (Lock lock) xs ys = refl
mark_before-append true (Unlock lock) xs ys = refl
mark_before-append true (happenings.Mark mark) xs ys = refl
mark_before-append false happening xs ys = refl

-- the marks of moments are those of the earlier ones, and then those of the later ones
pub marks_of-append : (task : ℕ) (xs ys : History)
    → marks_of task (xs ++ ys) ≡ marks_of task xs ++ marks_of task ys
marks_of-append task [] ys = refl
marks_of-append task (moment ∷ xs) ys =
    ap (mark_before (moment.task == task) moment.happening) (marks_of-append task xs ys)
    ∙ mark_before-append (moment.task == task) moment.happening (marks_of task xs)
    (marks_of task ys)

-- a moment with no mark of the task adds none
pub marks_of-quiet : (task : ℕ) (xs : History) (moment : Moment) → marks_of task (moment ∷ []) ≡ []
    → marks_of task (xs ++ moment ∷ []) ≡ marks_of task xs
marks_of-quiet task xs moment quiet =
    marks_of-append task xs (moment ∷ []) ∙ ap (λ more. marks_of task xs ++ more) quiet
    ∙ append-nil (marks_of task xs)

-- a mark of the task comes first
pub marks_of-one : (task : ℕ) (mark : Mark) (xs : History)
    → marks_of task ((record { task = task; happening = happenings.Mark mark }) ∷ xs)
    ≡ mark ∷ marks_of task xs
marks_of-one task mark xs =
    ap (λ own. mark_before own (happenings.Mark mark) (marks_of task xs)) (eq-eqb task task refl)

-- a mark of the task comes last
pub marks_of-mark : (task : ℕ) (xs : History) (mark : Mark)
    → marks_of task (xs ++ (record { task = task; happening = happenings.Mark mark }) ∷ [])
    ≡ marks_of task xs ++ mark ∷ []
marks_of-mark task xs mark =
    marks_of-append task xs ((record { task = task; happening = happenings.Mark mark }) ∷ [])
    ∙ ap (λ more. marks_of task xs ++ more) (marks_of-one task mark [])
