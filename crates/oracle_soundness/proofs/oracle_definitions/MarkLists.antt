-- The marks of a history, moment by moment: each adds its own mark at the end.
use Rattle.std.proofs.Common.{◌≡◌, ◌<◌, ◌+◌, ◌++◌, ℕ, List, [], ◌∷◌, Bool, true, ap, get_or, length}
use Rattle.std.proofs.Common.{refl, sym, take}
use Rattle.std.proofs.lemmas.List.{take_more}
use Rattle.access_types.specs.History.{History}
use Rattle.access_types.specs.Marked.{mark_before, marks_of}
use Rattle.access_types.specs.declared.history.Happening.{Happening}
use Rattle.access_types.specs.declared.history.Happening.TheVariants as happenings
use Rattle.access_types.specs.declared.history.Mark.{Mark}
use Rattle.access_types.specs.declared.history.Moment.{Moment}

mark_before-append : (own : Bool) (happening : Happening) (marks others : List Mark)
    → mark_before own happening marks ++ others ≡ mark_before own happening (marks ++ others)
mark_before-append true (happenings.Mark mark) marks others = refl
mark_before-append own happening marks others = refl

-- the marks of some moments and of others after them
marks_of-append : (task : ℕ) (earlier later : History)
    → marks_of task (earlier ++ later) ≡ marks_of task earlier ++ marks_of task later
marks_of-append task [] later = refl
marks_of-append task (moment ∷ moments) later =
    let apart = mark_before-append _ moment.happening (marks_of task moments)
    (marks_of task later) in
    rw (marks_of-append task moments later) (sym apart)

-- the marks up to the next moment
marks_of-more : (task : ℕ) (history : History) (k : ℕ) (d : Moment) → k < length history
    → marks_of task (take (k + 1) history)
    ≡ marks_of task (take k history) ++ marks_of task (get_or history k d ∷ [])
marks_of-more task history k d within =
    rw (take_more history k d within)
    (marks_of-append task (take k history) (get_or history k d ∷ []))

-- the marks of k moments, and the one of the moment after them
pub marks_of-push : (task : ℕ) (history : History) (k : ℕ) (d : Moment) (marks : List Mark)
    → k < length history → d ≡ get_or history k d → marks ≡ marks_of task (take k history)
    → marks ++ marks_of task (d ∷ []) ≡ marks_of task (take (k + 1) history)
marks_of-push task history k d marks within is so_far =
    rw (marks_of-more task history k d within, so_far)
    (ap (λ moment. marks_of task (take k history) ++ marks_of task (moment ∷ [])) is)
