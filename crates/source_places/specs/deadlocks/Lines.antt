-- What is said of waits for locks.
use Rattle.std.specs.Prelude.{◌≡◌, ◌-◌, ◌==◌, ◌∷◌, [], ℕ, List, None, Option, Some, codes, if◌then◌else◌}
use Rattle.std.specs.Fmt.{decimal}
use Rattle.std.specs.List.{AllZip, concat}
use Rattle.source_places.specs.declared.deadlocks.waits.LockWait.{LockWait}
use Rattle.litmus_syntax.specs.declared.program.Variable.{Variable}
use Rattle.output_pieces.specs.Spots as spots
use Rattle.program_order.specs.Standing.{is_lock}
use Rattle.program_table.specs.text_pieces.Shown.{shown}

-- the name of the lock of a number, among the locks of these variables; none where there is no such lock
abbrev pub lock_name : List Variable → (lock : ℕ) → List ℕ
lock_name [] lock = []
lock_name (variable ∷ more) lock =
    if is_lock variable.contents then (if lock == 0 then variable.name else lock_name more (lock - 1)) else lock_name more lock

-- a place in a file
unfoldable pub spot_words : (file text : List ℕ) → (at : ℕ) → List ℕ
spot_words file text at = concat (codes " at " ∷ shown file ∷ codes ":" ∷ spots.spot_text text (Some at) ∷ [])

-- the same, if it is known
abbrev pub place_words : (file text : List ℕ) → Option ℕ → List ℕ
place_words file text None = []
place_words file text (Some at) = spot_words file text at

-- the line on a wait for a lock of this name, at a place that is told so
unfoldable pub wait_line : LockWait → (name place : List ℕ) → List ℕ
wait_line wait name place = concat
    (codes "task " ∷ decimal wait.task ∷ codes " waits for " ∷ name ∷ place ∷ codes ", held by task " ∷ decimal wait.holder ∷ codes "\n" ∷ [])

-- The line says of a wait for which lock of these variables the task waits, and who holds it. Where the task calls for the
-- lock no definition says.
pub record IsWaitLine (variables : List Variable) (file text : List ℕ) (wait : LockWait) (line : List ℕ) : Type 0 where
  pub at : Option ℕ
  pub spelled : line ≡ wait_line wait (lock_name variables wait.lock) (place_words file text at)

-- such lines say so of these waits, one after the other
pub record AreWaitLines (variables : List Variable) (file text : List ℕ) (waits : List LockWait) (said : List ℕ) : Type 0 where
  pub lines : List (List ℕ)
  pub each : AllZip (IsWaitLine variables file text) waits lines
  pub spelled : said ≡ concat lines
