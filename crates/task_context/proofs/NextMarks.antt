-- There is one last next-mark, and what is left of it goes down with each countable begin.
use Rattle.std.proofs.Common.{◌≡◌, ◌<◌, ◌++◌, ◌+◌, ◌-◌, ◌∙◌, ℕ, [], ◌∷◌, Bool, cond, count_by, refl}
use Rattle.std.proofs.Common.{ap, arith, append_assoc, sym}
use Rattle.std.proofs.lemmas.List.Sums.{sum_by-append}
use Rattle.access_types.specs.History.{History}
use Rattle.access_types.specs.Marked.{IsWithinNext, begins_countable, is_next, marks_of, next_mark}
use Rattle.access_types.specs.declared.history.Mark.TheVariants.{Next}
use Rattle.access_types.specs.declared.history.Moment.{Moment}
use Rattle.task_context.specs.History.{IsLeft}
use Rattle.task_context.specs.History.IsLeft.{unset, set}
use Rattle.task_context.proofs.Moments.{marks_of-append, marks_of-one}
use Rattle.task_context.proofs.Surpluses.{one}

-- how many next-marks the task makes
abbrev nexts : ℕ → History → ℕ
nexts task moments = count_by is_next (marks_of task moments)

nexts-append : (task : ℕ) (xs ys : History) → nexts task (xs ++ ys) ≡ nexts task xs + nexts task ys
nexts-append task xs ys =
    ap (count_by is_next) (marks_of-append task xs ys)
    ∙ sum_by-append (one is_next) (marks_of task xs) (marks_of task ys)

nexts-one : (task count : ℕ) (xs : History)
    → nexts task (next_mark task count ∷ xs) ≡ 1 + nexts task xs
nexts-one task count xs =
    ap (count_by is_next) (marks_of-one task (Next count) xs)
    ∙ sum_by-append (one is_next) (Next count ∷ []) (marks_of task xs)

nexts-split : (task count : ℕ) (earlier later : History)
    → nexts task (earlier ++ next_mark task count ∷ later)
    ≡ nexts task earlier + (1 + nexts task later)
nexts-split task count earlier later =
    nexts-append task earlier (next_mark task count ∷ later)
    ∙ ap (λ n. nexts task earlier + n) (nexts-one task count later)

-- two splits at a last next-mark
record AreSame (n m : ℕ) (later after : History) : Type 0 where
  counts : n ≡ m
  moments : later ≡ after

one_last : (task n m : ℕ) (earlier before later after : History)
    → earlier ++ next_mark task n ∷ later ≡ before ++ next_mark task m ∷ after
    → nexts task later ≡ 0 → nexts task after ≡ 0 → AreSame n m later after
one_last task n m [] [] later after e last final =
    let marks : next_mark task n ≡ next_mark task m = cc in
    let happenings = ap (λ (moment : Moment). moment.happening) marks in
    record { counts = cc; moments = cc }
one_last task n m [] (y ∷ before) later after e last final =
    let rest : later ≡ before ++ next_mark task m ∷ after = cc in
    absurd (omega (arith, ap (nexts task) rest, nexts-split task m before after))
one_last task n m (x ∷ earlier) [] later after e last final =
    let rest : after ≡ earlier ++ next_mark task n ∷ later = cc in
    absurd (omega (arith, ap (nexts task) rest, nexts-split task n earlier later))
one_last task n m (x ∷ earlier) (y ∷ before) later after e last final =
    one_last task n m earlier before later after (cc) last final

-- at first none is left
pub IsLeft-nil : (plain_writes_atomic : Bool) (task : ℕ) → IsLeft plain_writes_atomic task [] 0
IsLeft-nil plain_writes_atomic task = unset refl refl

-- after next(n) n are left
pub IsLeft-next : (plain_writes_atomic : Bool) (task n : ℕ) (xs : History)
    → IsLeft plain_writes_atomic task (xs ++ next_mark task n ∷ []) n
IsLeft-next plain_writes_atomic task n xs = set n xs [] refl refl (omega arith)

-- how much a moment counts
abbrev pub begun : Bool → ℕ → Moment → ℕ
begun plain_writes_atomic task moment = cond (begins_countable plain_writes_atomic task moment) 1 0

-- a moment with no next-mark takes one where it begins a countable access
pub IsLeft-other : (plain_writes_atomic : Bool) (task left after : ℕ) (xs : History)
    (moment : Moment)
    → nexts task (moment ∷ []) ≡ 0 → after ≡ left - begun plain_writes_atomic task moment
    → IsLeft plain_writes_atomic task xs left
    → IsLeft plain_writes_atomic task (xs ++ moment ∷ []) after
IsLeft-other plain_writes_atomic task left after xs moment quiet takes (unset never is) =
    unset (omega (arith, nexts-append task xs (moment ∷ []))) (omega arith)
IsLeft-other plain_writes_atomic task left after xs moment quiet takes
    (set n earlier later split last is) =
    set n earlier (later ++ moment ∷ [])
    (ap (λ ys. ys ++ moment ∷ []) split
    ∙ append_assoc earlier (next_mark task n ∷ later) (moment ∷ []))
    (omega (arith, nexts-append task later (moment ∷ [])))
    (omega (arith, sum_by-append (begun plain_writes_atomic task) later (moment ∷ [])))

-- the task is within next exactly where some are left
pub left-IsWithinNext : (plain_writes_atomic : Bool) (task left : ℕ) (xs : History)
    → IsLeft plain_writes_atomic task xs left → 0 < left → IsWithinNext plain_writes_atomic task xs
left-IsWithinNext plain_writes_atomic task left xs (unset never is) some = absurd (omega arith)
left-IsWithinNext plain_writes_atomic task left xs (set n earlier later split last is) some =
    record
    { count = n; earlier = earlier; later = later; split = split; last = last; fewer = omega arith }

pub IsWithinNext-left : (plain_writes_atomic : Bool) (task left : ℕ) (xs : History)
    → IsLeft plain_writes_atomic task xs left → IsWithinNext plain_writes_atomic task xs → 0 < left
IsWithinNext-left plain_writes_atomic task left xs (unset never is) here =
    absurd
    (omega (arith, ap (nexts task) here.split, nexts-split task here.count here.earlier here.later))
IsWithinNext-left plain_writes_atomic task left xs (set n earlier later split last is) here =
    let same = one_last task n here.count earlier here.earlier later here.later
    (sym split ∙ here.split) last here.last in
    let fewer = here.fewer in
    omega
    (arith, same.counts, ap (count_by (begins_countable plain_writes_atomic task)) same.moments)

-- there is one number left
pub IsLeft-one : (plain_writes_atomic : Bool) (task n m : ℕ) (xs : History)
    → IsLeft plain_writes_atomic task xs n → IsLeft plain_writes_atomic task xs m → n ≡ m
IsLeft-one plain_writes_atomic task n m xs (unset never is) (unset nor also) = omega arith
IsLeft-one plain_writes_atomic task n m xs (unset never is)
    (set count earlier later split last also) =
    absurd (omega (arith, ap (nexts task) split, nexts-split task count earlier later))
IsLeft-one plain_writes_atomic task n m xs (set count earlier later split last is)
    (unset never also) =
    absurd (omega (arith, ap (nexts task) split, nexts-split task count earlier later))
IsLeft-one plain_writes_atomic task n m xs (set count earlier later split last is)
    (set number before after parts final also) =
    let same = one_last task count number earlier before later after
    (sym split ∙ parts) last final in
    omega
    (arith, same.counts, ap (count_by (begins_countable plain_writes_atomic task)) same.moments)
