-- What follows on some records tells nothing of those before them.
use Rattle.std.proofs.Common.{◌<◌, ◌≤◌, ◌∷◌, [], ℕ, zero, suc, Bool, true, List, arith, length, replicate, subst, sym}
use Rattle.access_types.specs.declared.history.Happening.TheVariants as happenings
use Rattle.litmus_semantics.specs.Task as meaning
use Rattle.litmus_syntax.specs.Tree.{Block}
use Rattle.slot_table.specs.declared.records.Record.{Record}
use Rattle.slot_table.specs.declared.step.Step.TheVariants.{LockStore}
use Rattle.program_order.specs.Standing.{Setting, Standing, coming, counting, lock_number, registered}
use Rattle.program_order.specs.WrittenOrder.{StepsOfBlock, StepsOfTurns}
use Rattle.program_order.proofs.Induction.{Kept, by_block}
use Rattle.executions.proofs.observation_determinism.AccessGoes.{makes_low}
use Rattle.executions.proofs.observation_determinism.Cuts.{Low, low_coming, low_counting, low_on, low_same}
use Rattle.executions.proofs.observation_determinism.ScopeGoes.{closes_low, opens_low}
use Rattle.executions.proofs.observation_determinism.SureOperations.{lock_less, stores}

abbrev pub Lows : Standing → List Record → Standing → List Record → Type 0
Lows before records after rest = (length rest ≤ length records) × ((n : ℕ) → length records < n → Low n before after)

still_low : (before : Standing) (records : List Record) → Lows before records before records
still_low before records = (omega arith, λ n low. low_same n before)

joined_low : (before between after : Standing) (records later rest : List Record) → Lows before records between later → Lows between later after rest
    → Lows before records after rest
joined_low before between after records later rest p q =
    let one : length later ≤ length records = p.0 in
    let other : length rest ≤ length later = q.0 in
    (omega (arith, one, other), λ n low. low_on n before between after (p.1 n low) (q.1 n (omega (arith, one, low))))

computed_low : (before : Standing) (records : List Record) (progress : meaning.Progress) → Lows before records (coming before records progress) records
computed_low before records progress = (omega arith, λ n low. low_coming n before records progress low)

-- the same, at what is left
came_low : (before : Standing) (records rest : List Record) (progress : meaning.Progress) → length rest ≤ length records
    → Lows before records (coming before rest progress) rest
came_low before records rest progress less = (less, λ n low. low_coming n before rest progress (omega (arith, less, low)))

counted_low : (ends_nothing : Bool) (before : Standing) (records : List Record) (progress : meaning.Progress)
    → Lows before records (coming (counting ends_nothing before) records progress) records
counted_low ends_nothing before records progress = (
  omega arith,
  λ n low. low_on n before (counting ends_nothing before) (coming (counting ends_nothing before) records progress) (low_counting n ends_nothing before)
      (low_coming n (counting ends_nothing before) records progress low),
)

kept_low : (s : Setting) → Kept s Lows
kept_low s = record {
  still = still_low;
  joins = joined_low;
  marked = λ ends_nothing count m before records.
      counted_low ends_nothing before records (meaning.doing (counting ends_nothing before).progress (replicate count (happenings.Mark m)));
  lost = λ before records. counted_low true before records before.progress;
  assigned = λ before records register value. computed_low before records (meaning.assigning before.progress register value);
  makes = λ a operation effect before records after rest h.
      let low = makes_low s a operation before records effect after rest h in
      let less : length rest < length records = low.0 in
      (omega (arith, less), λ n few. low.1 n (omega (arith, few)));
  locks = λ lock before records rest is takes.
      let less : length rest < length records = lock_less s.text.task (lock_number s lock) records rest takes in
      came_low before records rest (meaning.doing before.progress (happenings.Lock lock ∷ [])) (omega (arith, less));
  unlocks = λ lock before records rest has frees.
      came_low before records rest (meaning.doing before.progress (happenings.Unlock lock ∷ []))
      ((stores s.text.task (LockStore (lock_number s lock))).shrinks records tt rest frees);
  scoped = λ a assertion begun before opened closing after records inside later rest opens inner closes.
      let first = opens_low s a before records begun opened inside opens in
      let less : length inside < length records = first.0 in
      let began : Lows before records opened inside = (omega (arith, less), λ n few. first.1 n (omega (arith, few))) in
      joined_low before opened after records inside rest began
      (joined_low opened closing after inside later rest inner (closes_low s closing begun before.scopes later after rest closes));
}

pub block_low : (s : Setting) (site : ℕ) (body : Block) (before : Standing) (records : List Record) (after : Standing) (rest : List Record)
    → StepsOfBlock s site body before records after rest → Lows before records after rest
block_low s site body before records after rest h = by_block s Lows (kept_low s) site body before records after rest h

pub turns_low : (s : Setting) (site : ℕ) (body : Block) (r turn left : ℕ) (before : Standing) (records : List Record) (after : Standing) (rest : List Record)
    → StepsOfTurns (λ b records a rest. StepsOfBlock s site body b records a rest) r turn left before records after rest → Lows before records after rest
turns_low s site body r turn zero before records after rest h =
    subst (λ (a : Standing). Lows before records a rest) (sym h.0)
    (subst (λ (l : List Record). Lows before records (registered before records r turn) l) (sym h.1)
    (computed_low before records (meaning.assigning before.progress r turn)))
turns_low s site body r turn (suc left) before records after rest h =
    let start : Standing = registered before records r turn in
    joined_low before start after records records rest (computed_low before records (meaning.assigning before.progress r turn))
    (joined_low start h.0 after records h.1 rest (block_low s site body start records h.0 h.1 h.2)
    (turns_low s site body r (suc turn) left h.0 h.1 after rest h.3))
