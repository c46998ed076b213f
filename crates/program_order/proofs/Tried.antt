-- The records of small texts, for given answers.
use Rattle.std.proofs.Common.{◌≡◌, ◌<◌, ◌≤◌, ℕ, Bool, true, false, List, [], ◌∷◌, arith, lit<, lit≤, pos, refl}
use Rattle.access_types.specs.Sites.{map_of}
use Rattle.access_types.specs.declared.history.Happening.TheVariants as happenings
use Rattle.litmus_syntax.specs.Tree.{Block, Statement}
use Rattle.litmus_syntax.specs.Tree as tree
use Rattle.litmus_syntax.specs.declared.program.Contents.TheVariants.{Int, Lock}
use Rattle.litmus_syntax.specs.declared.statement.Call.TheVariants as calls
use Rattle.setup_access.specs.declared.rules.Rules.{Rules}
use Rattle.slot_table.specs.declared.records.Record.{Record}
use Rattle.slot_table.specs.declared.step.Answer.{Answer}
use Rattle.slot_table.specs.declared.step.Answer.TheVariants as answers
use Rattle.slot_table.specs.declared.step.Step.{Step}
use Rattle.slot_table.specs.declared.step.Step.TheVariants as steps
use Rattle.program_order.specs.Standing.{Setting, Standing, doing}
use Rattle.program_order.specs.Waits.{IsTooMuch, WithinTurns}
use Rattle.program_order.specs.WrittenOrder.{WrittenOrder, at_first, stands_after}

-- an int x, which stands at 0x10000, and two locks
abbrev setting : Rules → Setting
setting rules = record {
  text = record {
    task = 0;
    variables = record { name = 120 ∷ []; contents = Int (pos 0) } ∷ record { name = 97 ∷ []; contents = Lock } ∷ record { name = 98 ∷ []; contents = Lock } ∷ [];
    places = [];
  };
  rules = rules;
  sites = map_of [];
}

abbrev made : Step → Answer → Record
made step answer = record { task = 0; step = step; answer = answer }

abbrev locked : ℕ → Bool → Record
locked lock was_free = made (steps.LockTry lock 0) (answers.Flag was_free)

abbrev deadlock_text : Block
deadlock_text = tree.first (tree.call (calls.Lock 1)) (tree.first (tree.call (calls.Lock 2)) tree.empty)

abbrev deadlock_records : List Record
deadlock_records = locked 0 true ∷ locked 1 false ∷ locked 1 false ∷ locked 1 false ∷ []

-- spin_lock(a); spin_lock(b); where b isn't free: four steps, the last three without success
deadlock : (rules : Rules) → WrittenOrder (setting rules) 0 deadlock_text deadlock_records
deadlock rules =
    let last : List Record = locked 1 false ∷ locked 1 false ∷ locked 1 false ∷ locked 1 true ∷ [] in
    let one : Standing = doing (at_first 0) last (happenings.Lock 1 ∷ []) in
    let two : Standing = doing one [] (happenings.Lock 2 ∷ []) in
    record {
      more = locked 1 true ∷ [];
      whole = record {
        end = two;
        steps = (one, last, (refl, (refl, refl, refl), refl), (two, [], (refl, (refl, refl, (refl, refl, (refl, refl, (refl, refl, refl)))), refl), (refl, refl)));
      };
    }

-- by then it has the first lock, and not the second
has_one : (rules : Rules) → (stands_after (deadlock rules)).progress.did ≡ happenings.Lock 1 ∷ []
unfolding deadlock
has_one rules = refl

few : (tries : ℕ) → tries < 3 → ¬ (Unit {0} × (3 ≤ tries))
few tries fewer h = let enough : 3 ≤ tries = h.1 in omega arith

-- with three turns the task goes on no more: the step that would be the fourth try is one too much
within : WithinTurns 3 (locked 1 false ∷ locked 1 false ∷ locked 1 false ∷ locked 0 true ∷ [])
within = ((((tt, few 0 (lit< tt)), few 0 (lit< tt)), few 1 (lit< tt)), few 2 (lit< tt))

beyond : ¬ WithinTurns 3 (locked 1 true ∷ locked 1 false ∷ locked 1 false ∷ locked 1 false ∷ locked 0 true ∷ [])
beyond h = h.1 (tt, lit≤ tt)

-- with none not even a first try is made
none_tried : ¬ WithinTurns 0 (locked 0 true ∷ [])
none_tried h = h.1 (tt, lit≤ tt)

-- an exchange is a try of a wait once it was refused
first_exchange : ¬ IsTooMuch 0 (steps.CellExchange 0 3 7) (made (steps.CellLoad 0) (answers.Word 3) ∷ [])
first_exchange h = let some : 0 < 0 = h.0 in omega arith

next_exchange : IsTooMuch 1 (steps.CellExchange 0 4 7) (made (steps.CellExchange 0 3 7) (answers.Word 4) ∷ made (steps.CellLoad 0) (answers.Word 3) ∷ [])
next_exchange = (lit< tt, lit≤ tt)
