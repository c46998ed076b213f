-- An access that begins once begins after one list of moments only.
use Rattle.std.proofs.Common.{◌≡◌, ◌++◌, ◌↔◌, [], ◌∷◌, Bool, Contains, refl, sym, subst}
use Rattle.std.proofs.lemmas.List.Elements.{Contains-append_left, Contains-append_right}
use Rattle.std.proofs.lemmas.List.Elements.{Contains-push}
use Rattle.access_types.specs.Access.{Access}
use Rattle.access_types.specs.History.{History, beginning}
use Rattle.access_types.specs.Marked.{CountedAsMarked, CountsAfter, EndsRaised, Silenced}
use Rattle.access_types.specs.Marked.{is_disable, is_enable, marks_of}
use Rattle.access_types.specs.declared.history.Moment.{Moment}

has_first : (x : Moment) (xs : History) → Contains (x ∷ xs) x
has_first x xs = Contains-append_left (x ∷ []) xs x (Contains-push [] x)

has_later : (x y : Moment) (xs : History) → Contains xs x → Contains (y ∷ xs) x
has_later x y xs h = Contains-append_right (y ∷ []) xs x h

-- a moment that stands once in a history splits it in one way
one_split : (x : Moment) (before later earlier after : History) → ¬ Contains (before ++ later) x
    → before ++ x ∷ later ≡ earlier ++ x ∷ after → earlier ≡ before
one_split x [] later [] after once e = refl
one_split x [] later (y ∷ earlier) after once e =
    let rest : later ≡ earlier ++ x ∷ after = cc in
    let P : History → Type 0 = λ ys. Contains ys x in
    absurd
    (once (subst P (sym rest) (Contains-append_right earlier (x ∷ after) x (has_first x after))))
one_split x (y ∷ before) later [] after once e =
    let same : y ≡ x = cc in
    let P : Moment → Type 0 = λ z. Contains (z ∷ (before ++ later)) x in
    absurd (once (subst P (sym same) (has_first x (before ++ later))))
one_split x (y ∷ before) later (z ∷ earlier) after once e =
    let rest = one_split x before later earlier after
    (λ h. once (has_later x y (before ++ later) h)) (cc) in
    cc

-- what came before the begin decides
pub marked_at_begin : (plain_writes_atomic : Bool) (a : Access) (before later : History)
    → ¬ Contains (before ++ later) (beginning a)
    → CountedAsMarked plain_writes_atomic (before ++ beginning a ∷ later) a
    ↔ CountsAfter plain_writes_atomic a before
marked_at_begin plain_writes_atomic a before later once = (
  λ counted.
      let same = one_split
      (beginning a) before later counted.before counted.begins.later once counted.begins.split in
      rw (← same) counted.counts,
  λ counts. record
      { before = before; begins = record { later = later; split = refl }; counts = counts },
)

pub silenced_at_begin : (a : Access) (before later : History)
    → ¬ Contains (before ++ later) (beginning a)
    → Silenced (before ++ beginning a ∷ later) a
    ↔ EndsRaised is_disable is_enable (marks_of a.task before)
silenced_at_begin a before later once = (
  λ silenced.
      let same = one_split
      (beginning a) before later silenced.before silenced.begins.later once silenced.begins.split in
      rw (← same) silenced.disabled,
  λ raised. record
      { before = before; begins = record { later = later; split = refl }; disabled = raised },
)
