-- What is counted of a list is counted of what it tells.
use Rattle.std.proofs.Common.{◌≡◌, ◌<◌, ◌+◌, ◌∷◌, ◌∙◌, [], zero, suc, Bool, All, List, Option, None, Some, ap, arith, cond, count_by, length, map, refl, slice_index_or, sym, ℕ}
use mathlib.Core.Path.{fun_ext}
use Rattle.std.specs.Option.{option_map}
use Rattle.std.proofs.lemmas.List.Sums.{length-filter, sum_by-cons}
use Rattle.access_types.specs.Access.{Access}
use Rattle.oracle_soundness.specs.oracle_headline_laws.Accounts.{account_of, armed_as, came_as}
use Rattle.oracle_soundness.specs.oracle_headline.Tried as given
use Rattle.soundness.specs.Totals as totals
use Rattle.executions.specs.execution.Answers as answers
use Rattle.executions.specs.execution.Run.{Run}
use Rattle.executions.specs.execution.Execution.{Execution}
use Rattle.executions.specs.execution.Observed.{Armed, OutcomeAt, outcomes_of}
use Rattle.soundness.specs.Takings as takings
use Rattle.soundness.specs.Takings.{HasOneAnswer}
use Rattle.setup_access.specs.declared.outcome.Outcome.{Outcome}
use Rattle.setup_access.specs.declared.outcome.Outcome.TheVariants as outcomes
use Rattle.slot_table.specs.declared.records.Record.{Record}
use Rattle.slot_table.specs.declared.step.Answer.{Answer}
use Rattle.slot_table.specs.declared.step.Step.{Step}
use Rattle.slot_table.specs.declared.step.Step.TheVariants.{TryConsume}
use Rattle.task_log.specs.Counters.{is_encoding, is_masked, is_same, is_two_sided, is_unknown}

-- what is true of all that stand for the items of a list
pub of_map : {X Y : Type 0} (P : Y → Type 0) (f : X → Y) (xs : List X) → All P (map f xs) → (k : ℕ) (d : X) → k < length xs
    → P (f (slice_index_or xs k d))
of_map P f [] all k d below = absurd (omega (arith, below))
of_map P f (x ∷ xs) all zero d below = all 0 (f d) (omega arith)
of_map P f (x ∷ xs) all (suc k) d below = of_map P f xs (λ i e lt. all (suc i) e (omega (arith, lt))) k d (omega (arith, below))

-- what is counted of the items of a list is counted of what stands for them
counts_same : {X Y : Type 0} (f : X → Y) (p : Y → Bool) (q : X → Bool) → ((x : X) → p (f x) ≡ q x) → (xs : List X)
    → count_by p (map f xs) ≡ count_by q xs
counts_same f p q same [] = refl
counts_same f p q same (x ∷ xs) =
    sum_by-cons (λ y. cond (p y) 1 0) (f x) (map f xs)
    ∙ (ap (λ (b : Bool). cond b 1 0 + count_by p (map f xs)) (same x)
    ∙ (ap (λ (n : ℕ). cond (q x) 1 0 + n) (counts_same f p q same xs)
    ∙ sym (sum_by-cons (λ y. cond (q y) 1 0) x xs)))

-- tries are counted alike
tries_same : (records : List Record) → given.made_so given.is_try records ≡ totals.made_so totals.is_try records
tries_same records = ap (λ (is : Record → Bool). count_by is records) (fun_ext (λ (made : Record). same made.step made.answer))
  where
    same : (step : Step) (answer : Answer) → given.is_try step answer ≡ totals.is_try step answer
    same (TryConsume index word) answer = refl
    same step answer = refl

-- an outcome answers the arming in both words
answer_same : (index number : ℕ) (came : OutcomeAt) → given.answers index number (came_as came) ≡ takings.answers index number came
answer_same index number came = rw (is_same_answer came.outcome, armed_same came.arming) refl
  where
    is_same_answer : (outcome : Outcome) → given.is_answer outcome ≡ answers.is_answer outcome
    is_same_answer (outcomes.Report pair seen) = refl
    is_same_answer (outcomes.Dropped reason) = refl
    is_same_answer outcome = refl

    armed_same : (arming : Option Armed)
        → given.is_armed index number (option_map armed_as arming) ≡ takings.is_armed index number arming
    armed_same None = refl
    armed_same (Some arming) = refl

module _ {run : Run} {records : List Record} (list : Execution run records) (accesses : List Access) (over : Bool) where
  -- the answers that are counted are those of the list
  answers_same : (index number : ℕ)
      → count_by (given.answers index number) (map came_as (outcomes_of list)) ≡ length (takings.answers_to list index number)
  answers_same index number =
      counts_same came_as (given.answers index number) (takings.answers index number) (answer_same index number) (outcomes_of list)
      ∙ sym (length-filter (takings.answers index number) (outcomes_of list))

  pub answered : (index number : ℕ) → HasOneAnswer list index number → given.Answered (account_of list accesses over) index number
  answered index number one =
      record { once = answers_same index number ∙ ap (λ (l : List OutcomeAt). length l) one.only }

  -- an answer that is counted once is the only one
  pub one_answer : (index number : ℕ) → given.Answered (account_of list accesses over) index number → HasOneAnswer list index number
  one_answer index number one =
      of_length (takings.answers_to list index number) (sym (answers_same index number) ∙ one.once) refl
    where
      of_length : (found : List OutcomeAt) → length found ≡ 1 → takings.answers_to list index number ≡ found
          → HasOneAnswer list index number
      of_length [] none is = absurd (omega (arith, none))
      of_length (answer ∷ []) one is = record { answer = answer; only = is }
      of_length (answer ∷ other ∷ more) two is = absurd (omega (arith, two))

  came_same : (is : Option Outcome → Bool)
      → given.came_so is (map came_as (outcomes_of list)) ≡ totals.came_so is (outcomes_of list)
  came_same is =
      counts_same came_as (λ came. is (Some came.outcome)) (λ came. is (Some came.outcome)) (λ came. refl) (outcomes_of list)

  pub totals_told : totals.Totals records (outcomes_of list) → given.Totals records (map came_as (outcomes_of list))
  totals_told agree = record {
    arms = agree.arms;
    tries = tries_same records ∙ agree.tries;
    taken = rw (came_same is_two_sided, came_same is_encoding, came_same is_same, came_same is_masked) agree.taken;
    unknown = rw (came_same is_unknown) agree.unknown;
  }

  pub totals_of_list : given.Totals records (map came_as (outcomes_of list)) → totals.Totals records (outcomes_of list)
  totals_of_list agree = record {
    arms = agree.arms;
    tries = sym (tries_same records) ∙ agree.tries;
    taken = rw (sym (came_same is_two_sided), sym (came_same is_encoding), sym (came_same is_same), sym (came_same is_masked))
        agree.taken;
    unknown = rw (sym (came_same is_unknown)) agree.unknown;
  }
