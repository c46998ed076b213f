-- What a failed try is, how many of them a task has made, and when it waits too long.
use Rattle.std.specs.Prelude.{◌+◌, ◌≤◌, ℕ, zero, suc, Bool, List, [], ◌∷◌, Option, None, Some, IsSomeAnd, true, false, not, if◌then◌else◌}
use Rattle.slot.specs.Pair.{Halves}
use Rattle.slot_table.specs.declared.records.Record.{Record}
use Rattle.slot_table.specs.declared.step.Answer.{Answer}
use Rattle.slot_table.specs.declared.step.Answer.TheVariants as answers
use Rattle.slot_table.specs.declared.step.Step.{Step}
use Rattle.slot_table.specs.declared.step.Step.TheVariants.{CellExchange, Consume, LockTry, PairLoad, TryConsume}
use Rattle.setup_access.specs.Found.{finder_half, setter_half}

-- an exchange that is refused answers the word that stands there
abbrev pub is_word : Answer → Bool
is_word (answers.Word word) = true
is_word answer = false

-- a try of a lock that is refused answers so
abbrev pub is_no : Answer → Bool
is_no (answers.Flag accepted) = not accepted
is_no answer = false

-- nobody stands in a half that is 0
abbrev pub is_empty : ℕ → Bool
is_empty zero = true
is_empty (suc _) = false

-- a load of a pair doesn't hear the half that is waited for, if one is
abbrev pub is_unheard : Option (Halves → ℕ) → Answer → Bool
is_unheard None answer = false
is_unheard (Some half) (answers.Halves setter finder) = is_empty (half (record { setter = setter; finder = finder }))
is_unheard (Some half) answer = false

-- A failed try, of a task that waits for this half of a pair or for none: an exchange of a cell that was refused, a try
-- of a lock that was refused, or a load of a pair whose half was empty. All that is said of failed tries, here and in
-- the crates above, is said by this.
abbrev pub is_failed : Option (Halves → ℕ) → Step → Answer → Bool
is_failed half (CellExchange cell seen new) answer = is_word answer
is_failed half (LockTry lock task) answer = is_no answer
is_failed half (PairLoad index) answer = is_unheard half answer
is_failed half step answer = false

-- the half that a task waits for after a step: who tries to take a watchpoint may have to hear its setter, who consumes
-- its own its finder
abbrev pub awaited : Option (Halves → ℕ) → Step → Option (Halves → ℕ)
awaited half (TryConsume index word) = Some setter_half
awaited half (Consume index) = Some finder_half
awaited half (PairLoad index) = half
awaited half step = None

-- how many failed tries a task has made at the end of these records, after so many before them, where it waits for this
-- half
abbrev pub failed_from : Option (Halves → ℕ) → ℕ → List Record → ℕ
failed_from half tries [] = tries
failed_from half tries (first ∷ later) =
    failed_from (awaited half first.step) (if is_failed half first.step first.answer then tries + 1 else 0) later

-- the same from its first record on
abbrev pub failed_tries : List Record → ℕ
failed_tries records = failed_from None 0 records

-- a wait for a half of a pair: whose half, and how many loads of the pair found it empty
pub record Wait : Type 0 where
  pub half : Halves → ℕ
  pub tries : ℕ

-- a wait begins
abbrev pub waits_for : (Halves → ℕ) → Option Wait
waits_for half = Some (record { half = half; tries = 0 })

-- a task that took a watchpoint waits for the setter's half
abbrev pub after_try : Answer → Option Wait
after_try (answers.Flag true) = waits_for setter_half
after_try _ = None

-- a setter that found its word taken waits for the finder's half
abbrev pub after_consume : Answer → Option Wait
after_consume (answers.Flag true) = None
after_consume (answers.Flag false) = waits_for finder_half
after_consume _ = None

-- a half that was heard ends the wait, and an empty one is a failed try
abbrev pub after_half : Wait → ℕ → Option Wait
after_half wait zero = Some (record wait { tries = wait.tries + 1 })
after_half wait (suc _) = None

abbrev pub after_load : Option Wait → Answer → Option Wait
after_load None answer = None
after_load (Some wait) (answers.Halves setter finder) = after_half wait (wait.half (record { setter = setter; finder = finder }))
after_load (Some wait) _ = None

-- the wait that a task is in, if it is in one, after one that it was in and an answer
abbrev pub wait_on : Option Wait → Step → Answer → Option Wait
wait_on wait (TryConsume index word) answer = after_try answer
wait_on wait (Consume index) answer = after_consume answer
wait_on wait (PairLoad index) answer = after_load wait answer
wait_on wait _ answer = None

-- the same after some records
abbrev pub wait_from : Option Wait → List Record → Option Wait
wait_from wait [] = wait
wait_from wait (first ∷ later) = wait_from (wait_on wait first.step first.answer) later

-- the wait that a task is in after the records of its check so far
abbrev pub wait_after : List Record → Option Wait
wait_after records = wait_from None records

-- that wait has had as many failed tries as are allowed
abbrev pub IsStuckBy : ℕ → List Record → Type 0
IsStuckBy turns records = IsSomeAnd (wait_after records) (λ wait. turns ≤ wait.tries)
