-- What a part of a text adds to where a task stands, and what is left of the text does.
use Rattle.std.proofs.Common.{◌≡◌, ◌∙◌, ◌<◌, ◌≤◌, ◌++◌, ◌∷◌, [], inl, inr, ℕ, zero, suc, Bool, true, false, List, None, MatchOption, Option, Some, ap, append_assoc, arith, drop, length, refl}
use Rattle.std.proofs.Common.{replicate, subst, sym}
use Rattle.std.proofs.lemmas.List.{append-nil}
use Rattle.access_types.specs.Access as access
use Rattle.access_types.specs.declared.history.Happening.{Happening}
use Rattle.access_types.specs.declared.history.Happening.TheVariants as happenings
use Rattle.access_types.specs.declared.history.Mark.TheVariants as marks
use Rattle.litmus_semantics.specs.Expressions.{loading_value}
use Rattle.litmus_semantics.specs.Meaning.{Chooses}
use Rattle.litmus_semantics.specs.Task as meaning
use Rattle.litmus_syntax.specs.Tree.{Block}
use Rattle.litmus_syntax.specs.Views.{block_of}
use Rattle.access_run.specs.memory_operation.Effects.{moments_of, read_moments, write_moments}
use Rattle.access_run.specs.memory_operation.Operations.{Operates}
use Rattle.access_run.specs.declared.memory_operation.effect.Effect.{Effect}
use Rattle.access_run.specs.declared.memory_operation.operation.Operation.{Operation}
use Rattle.access_run.specs.declared.memory_operation.operation.Operation.TheVariants as operations
use Rattle.setup_access.specs.Check.{Fallen}
use Rattle.setup_access.specs.declared.begun.Begun.{Begun}
use Rattle.slot_table.specs.declared.records.Record.{Record}
use Rattle.task_plan.specs.Follow.{Follow, Taker, assigned, condition, goes_on, loaded_by, marks_next, nobody, so_often, to_register}
use Rattle.task_run.specs.Part.{FollowLeft, TakerLeft}
use Rattle.task_run.proofs.FellLemmas.{AllShorter, Descends, check_descends, close_descends}
use Rattle.task_plan.specs.Left.{BlocksLeft, BodyLeft, Closes, EndLeft, NothingLeft, OpenLeft, OutsideLeft, TurnsLeft, WalkLeft}
use Rattle.task_plan.specs.declared.block.AtEnd.{AtEnd}
use Rattle.task_plan.specs.declared.block.AtEnd.TheVariants as ends
use Rattle.task_plan.specs.declared.block.Loop.{Loop}
use Rattle.task_plan.specs.declared.block.OpenBlock.{OpenBlock}
use Rattle.task_plan.specs.declared.block.Choice.{Choice}
use Rattle.task_plan.specs.declared.walk.Walk.{Walk}
use Rattle.program_order.specs.Access.{Makes, operated}
use Rattle.program_order.specs.Standing.{Point, Setting, Standing, checks_of, coming, counting, doing, lock_number, registered}
use Rattle.program_order.specs.WrittenOrder.{ClosesScope, OpensScope, Steps, StepsOfBlock, StepsOfTurns, marked_so_often}
use Rattle.program_order.proofs.Induction.{Kept, by_block}
use Rattle.executions.proofs.observation_determinism.CheckGoes.{check_low}
use Rattle.executions.proofs.observation_determinism.Falling.{AllUpTo}
use Rattle.executions.proofs.observation_determinism.ScopeGoes.{closes_low, opens_low}
use Rattle.executions.proofs.observation_determinism.SureOperations.{add_later, clocks, lock_less, operates, stores}

pub up_more : (n m : ℕ) (points : List Point) → n ≤ m → AllUpTo n points → AllUpTo m points
up_more n m [] more all = tt
up_more n m (point ∷ points) more all = (let here : point.to_come ≤ n = all.0 in omega (arith, here, more), up_more n m points more all.1)

up_both : (n : ℕ) (first later : List Point) → AllUpTo n first → AllUpTo n later → AllUpTo n (first ++ later)
up_both n [] later one two = two
up_both n (point ∷ first) later one two = (one.0, up_both n first later one.1 two)

shorter_more : (n m : ℕ) (fallen : List Fallen) → n ≤ m → AllShorter n fallen → AllShorter m fallen
shorter_more n m [] more all = tt
shorter_more n m (one ∷ others) more all = (
  let here : length one.later < n =
      all.0 in omega (arith, here, more),
  shorter_more n m others more all.1,
)

shorter_both : (n : ℕ) (first later : List Fallen) → AllShorter n first → AllShorter n later → AllShorter n (first ++ later)
shorter_both n [] later one two = two
shorter_both n (fallen ∷ first) later one two = (one.0, shorter_both n first later one.1 two)

descends_short : (n m : ℕ) (fallen : List Fallen) → n ≤ m → Descends n fallen → AllShorter m fallen
descends_short n m [] more down = tt
descends_short n m (one ∷ others) more down =
    let here : length one.later < n = down.0 in
    (omega (arith, here, more), descends_short (length one.later) m others (omega (arith, here, more)) down.1)

-- what is added: points at which no more records were to come, and outcomes on which fewer follow
pub record After (before : Standing) (records : List Record) (after : Standing) (rest : List Record) : Type 0 where
  pub points : List Point
  pub adds : after.way ≡ before.way ++ points
  pub low : AllUpTo (length records) points
  pub fallen : List Fallen
  pub falls : after.outcomes ≡ before.outcomes ++ fallen
  pub short : AllShorter (length records) fallen
  pub fewer : length rest ≤ length records

pub stays : (before : Standing) (records rest : List Record) → rest ≡ records → After before records before rest
stays before records rest is = record {
  points = [];
  adds = sym (append-nil before.way);
  low = tt;
  fallen = [];
  falls = sym (append-nil before.outcomes);
  short = tt;
  fewer = let same : length rest ≡ length records = ap (λ (l : List Record). length l) is in omega (arith, same);
}

pub after_from : (before : Standing) (records more : List Record) (after : Standing) (rest : List Record) → length records ≤ length more
    → After before records after rest → After before more after rest
after_from before records more after rest longer h = record {
  points = h.points;
  adds = h.adds;
  low = up_more (length records) (length more) h.points longer h.low;
  fallen = h.fallen;
  falls = h.falls;
  short = shorter_more (length records) (length more) h.fallen longer h.short;
  fewer = let few : length rest ≤ length records = h.fewer in omega (arith, few, longer);
}

pub after_both : (before between after : Standing) (records later rest : List Record) → After before records between later
    → After between later after rest
    → After before records after rest
after_both before between after records later rest p q = record {
  points = p.points ++ q.points;
  adds = q.adds ∙ (ap (λ (l : List Point). l ++ q.points) p.adds ∙ append_assoc before.way p.points q.points);
  low = up_both (length records) p.points q.points p.low (up_more (length later) (length records) q.points p.fewer q.low);
  fallen = p.fallen ++ q.fallen;
  falls = q.falls ∙ (ap (λ (l : List Fallen). l ++ q.fallen) p.falls ∙ append_assoc before.outcomes p.fallen q.fallen);
  short = shorter_both (length records) p.fallen q.fallen p.short (shorter_more (length later) (length records) q.fallen p.fewer q.short);
  fewer = let one : length later ≤ length records = p.fewer in let two : length rest ≤ length later = q.fewer in omega (arith, one, two);
}

-- a point more
pub comes : (before counted : Standing) (records later : List Record) (progress : meaning.Progress) → counted.way ≡ before.way
    → counted.outcomes ≡ before.outcomes → length later ≤ length records → After before records (coming counted later progress) later
comes before counted records later progress way outcomes fewer = record {
  points = record { to_come = length later; progress = progress; unbalanced = counted.unbalanced } ∷ [];
  adds = ap (λ (l : List Point). l ++ record { to_come = length later; progress = progress; unbalanced = counted.unbalanced } ∷ []) way;
  low = (fewer, tt);
  fallen = [];
  falls = outcomes ∙ sym (append-nil before.outcomes);
  short = tt;
  fewer = fewer;
}

counted_way : (ends_nothing : Bool) (before : Standing) → (counting ends_nothing before).way ≡ before.way
counted_way true before = refl
counted_way false before = refl

counted_outcomes : (ends_nothing : Bool) (before : Standing) → (counting ends_nothing before).outcomes ≡ before.outcomes
counted_outcomes true before = refl
counted_outcomes false before = refl

pub drop_less : (records : List Record) → length (drop 1 records) ≤ length records
drop_less [] = omega arith
drop_less (first ∷ later) = omega arith

pub below_drop : (records later : List Record) → length later < length records → length later ≤ length (drop 1 records)
below_drop [] later less = absurd (omega (arith, less))
below_drop (first ∷ more) later less = omega (arith, less)

module _ (s : Setting) where
  pub operated_after : (a : access.Access) (operation : Option Operation) (before : Standing) (records : List Record) (effect : Effect)
      (rest : List Record)
      → Operates (checks_of s) a operation records effect rest → After before records (operated a operation before records effect rest) rest
  operated_after a None before records effect rest h = stays before records rest h.1
  operated_after a (Some operations.Load) before records effect rest h =
      comes before before records rest (meaning.doing before.progress (moments_of a effect)) refl refl
      ((operates (checks_of s) a (Some operations.Load)).shrinks records effect rest h)
  operated_after a (Some (operations.Add amount)) before [] effect rest h = absurd h.2
  operated_after a (Some (operations.Add amount)) before (first ∷ later) effect rest h =
      let less : length rest ≤ length later = add_later s.text.task a h.0 amount first later effect rest h.2 in
      let read : Standing = doing before later (read_moments a effect.read) in
      after_both before read (doing read rest (write_moments a effect.written)) (first ∷ later) later rest
      (comes before before (first ∷ later) later (meaning.doing before.progress (read_moments a effect.read)) refl refl (omega arith))
      (comes read read later rest (meaning.doing read.progress (write_moments a effect.written)) refl refl less)
  operated_after a (Some (operations.Change change)) before records effect rest h =
      comes before before records rest (meaning.doing before.progress (moments_of a effect)) refl refl
      ((operates (checks_of s) a (Some (operations.Change change))).shrinks records effect rest h)

  -- the points of an access, and the outcomes of its check
  pub makes_after : (a : access.Access) (operation : Option Operation) (effect : Effect) (before : Standing) (records : List Record)
      (after : Standing)
      (rest : List Record) → Makes s before a operation records effect after rest → After before records after rest
  makes_after a operation effect before records after rest h =
      let began : Standing = doing before (drop 1 records) (happenings.Begin a ∷ []) in
      let made : Standing = operated a operation began h.checked effect h.done in
      let one : length h.checked < length records =
      (check_low (checks_of s) before.scopes h.begun before.asked records h.passes h.checked h.check).0 in
      let last : length rest ≤ length h.done = (clocks s.text.task).shrinks h.done tt rest h.ends in
      let all : After before records (doing made rest (happenings.End a ∷ [])) rest =
      after_both before began (doing made rest (happenings.End a ∷ [])) records (drop 1 records) rest
      (comes before before records (drop 1 records) (meaning.doing before.progress (happenings.Begin a ∷ [])) refl refl (drop_less records))
      (after_from began h.checked (drop 1 records) (doing made rest (happenings.End a ∷ [])) rest (below_drop records h.checked one)
      (after_both began made (doing made rest (happenings.End a ∷ [])) h.checked h.done rest
      (operated_after a operation began h.checked effect h.done h.operates)
      (comes made made h.done rest (meaning.doing made.progress (happenings.End a ∷ [])) refl refl last))) in
      record {
        points = all.points;
        adds = ap (λ (st : Standing). st.way) h.comes_to ∙ all.adds;
        low = all.low;
        fallen = h.passes.outcomes;
        falls = ap (λ (st : Standing). st.outcomes) h.comes_to;
        short = descends_short (length records) (length records) h.passes.outcomes (omega arith)
            (check_descends (checks_of s) before.scopes h.begun before.asked records h.passes h.checked h.check);
        fewer = all.fewer;
      }

  pub opens_after : (a : access.Access) (begun : Begun) (before : Standing) (records : List Record) (opened : Standing)
      (inside : List Record)
      → OpensScope s before a records begun opened inside → After before records opened inside
  opens_after a begun before records opened inside h =
      let less : length inside < length records = (opens_low s a before records begun opened inside h).0 in
      record {
        points = record {
          to_come = length (drop 1 records);
          progress =
              meaning.doing before.progress (happenings.Begin a ∷ []);
          unbalanced = before.unbalanced;
        } ∷ [];
        adds = ap (λ (st : Standing). st.way) h.comes_to;
        low = (drop_less records, tt);
        fallen = h.passes.outcomes;
        falls = ap (λ (st : Standing). st.outcomes) h.comes_to;
        short = descends_short (length records) (length records) h.passes.outcomes (omega arith)
            (check_descends (checks_of s) before.scopes begun before.asked records h.passes inside h.check);
        fewer = omega (arith, less);
      }

  pub closes_after : (begun : Begun) (scopes : List Begun) (before : Standing) (records : List Record) (after : Standing)
      (rest : List Record)
      → ClosesScope s before begun scopes records after rest → After before records after rest
  closes_after begun scopes before records after rest h =
      let less : length rest ≤ length records = (closes_low s before begun scopes records after rest h).0 in
      record {
        points = record {
          to_come = length rest;
          progress = meaning.doing before.progress (happenings.End begun.access ∷ []);
          unbalanced =
              before.unbalanced;
        } ∷ [];
        adds = ap (λ (st : Standing). st.way) h.comes_to;
        low = (less, tt);
        fallen = h.passes.outcomes;
        falls = ap (λ (st : Standing). st.outcomes) h.comes_to;
        short = descends_short (length records) (length records) h.passes.outcomes (omega arith)
            (close_descends (checks_of s) begun h.silenced before.asked records h.passes rest h.close);
        fewer = less;
      }

  kept_after : Kept s After
  kept_after = record {
    still = λ before records. stays before records records refl;
    joins = λ before between after records later rest p q. after_both before between after records later rest p q;
    marked = λ ends_nothing count m before records.
        comes before (counting ends_nothing before) records records (meaning.doing (counting ends_nothing before).progress
        (replicate count (happenings.Mark m)))
        (counted_way ends_nothing before) (counted_outcomes ends_nothing before) (omega arith);
    lost = λ before records. comes before (counting true before) records records before.progress refl refl (omega arith);
    assigned = λ before records register value. comes before before records records
        (meaning.assigning before.progress register value) refl refl (omega arith);
    makes = makes_after;
    locks = λ lock before records rest is takes.
        let less : length rest < length records = lock_less s.text.task (lock_number s lock) records rest takes in
        comes before before records rest (meaning.doing before.progress (happenings.Lock lock ∷ [])) refl refl (omega (arith, less));
    unlocks = λ lock before records rest has frees.
        comes before before records rest (meaning.doing before.progress (happenings.Unlock lock ∷ [])) refl refl
        ((stores s.text.task _).shrinks records tt rest frees);
    scoped = λ a assertion begun before opened closing after records inside later rest opens inner closes.
        after_both before opened after records inside rest (opens_after a begun before records opened inside opens)
        (after_both opened closing after inside later rest inner (closes_after begun before.scopes closing later after rest closes));
  }

  block_after : (site : ℕ) (body : Block) (before : Standing) (records : List Record) (after : Standing) (rest : List Record)
      → StepsOfBlock s site body before records after rest → After before records after rest
  block_after site body before records after rest h = by_block s After kept_after site body before records after rest h

  -- what is left of the text adds so too
  abbrev Adds : Steps → Type 0
  Adds P = (before : Standing) (records : List Record) (after : Standing) (rest : List Record) → P before records after rest
      → After before records after rest

  nothing_left : Adds NothingLeft
  nothing_left before records after rest h = subst (λ (st : Standing). After before records st rest) (sym h.0)
      (stays before records rest h.1)

  turns_after : (Body : Steps) → Adds Body → (register turn left : ℕ) → Adds (StepsOfTurns Body register turn left)
  turns_after Body each register turn zero before records after rest h =
      subst (λ (st : Standing). After before records st rest) (sym h.0)
      (subst (λ (r : List Record). After before records (registered before records register turn) r) (sym h.1)
      (comes before before records records (meaning.assigning before.progress register turn) refl refl (omega arith)))
  turns_after Body each register turn (suc left) before records after rest h =
      let start : Standing = registered before records register turn in
      after_both before start after records records rest
      (comes before before records records (meaning.assigning before.progress register turn) refl refl (omega arith))
      (after_both start h.0 after records h.1 rest (each start records h.0 h.1 h.2)
      (turns_after Body each register (suc turn) left h.0 h.1 after rest h.3))

  turns_left : (of : Loop) (number : ℕ) (Next : Steps) → Adds Next → Adds (TurnsLeft s of number Next)
  turns_left of number Next next before records after rest h =
      after_both before h.0 after records h.1 rest
      (turns_after (StepsOfBlock s of.site (block_of of.body.now)) (block_after of.site
      (block_of of.body.now)) of.register number _ before records h.0 h.1 h.2)
      (next h.0 h.1 after rest h.3)

  end_left : (at_end : AtEnd) (Next : Steps) → Adds Next → Adds (EndLeft s at_end Next)
  end_left ends.Leaves Next next before records after rest h = next before records after rest h
  end_left (ends.Repeats turn) Next next before records after rest h = turns_left turn.of _ Next next before records after rest h

  closes_left : (scopes : ℕ) (Next : Steps) → Adds Next → Adds (Closes s scopes Next)
  closes_left zero Next next before records after rest h = next before records after rest h
  closes_left (suc more) Next next before records after rest h =
      after_both before h.0 after records h.1 rest (closes_after h.2.1 h.2.0 before records h.0 h.1 h.2.3)
      (closes_left more Next next h.0 h.1 after rest h.3)

  open_left : (block : OpenBlock) (Next : Steps) → Adds Next → Adds (OpenLeft s block Next)
  open_left block Next next before records after rest h =
      after_both before h.0 after records h.1 rest (block_after block.site (block_of block.left.now) before records h.0 h.1 h.2)
      (closes_left block.scopes (EndLeft s block.at_end Next) (end_left block.at_end Next next) h.0 h.1 after rest h.3)

  blocks_left : (blocks : List OpenBlock) (Next : Steps) → Adds Next → Adds (BlocksLeft s blocks Next)
  blocks_left [] Next next before records after rest h = next before records after rest h
  blocks_left (outer ∷ inner) Next next before records after rest h =
      blocks_left inner (OpenLeft s outer Next) (open_left outer Next next) before records after rest h

  outside_left : (walk : Walk) → Adds (OutsideLeft s walk)
  outside_left walk = blocks_left walk.blocks.items NothingLeft nothing_left

  by_choice : (choice : Option Choice) (In : Choice → OpenBlock) (Next : Steps) → Adds Next
      → (before : Standing) (records : List Record) (after : Standing)
      (rest : List Record) → MatchOption choice (Next before records after rest) (λ c. OpenLeft s (In c) Next before records after rest)
      → After before records after rest
  by_choice None In Next next before records after rest h = next before records after rest h
  by_choice (Some c) In Next next before records after rest h = open_left (In c) Next next before records after rest h

  pub walk_left : (walk : Walk) → Adds (WalkLeft s walk)
  walk_left walk before records after rest h =
      by_choice walk.choice (λ c. c.otherwise) (OutsideLeft s walk) (outside_left walk) before records after rest h

  body_left : (walk : Walk) → Adds (BodyLeft s walk)
  body_left walk before records after rest h =
      by_choice walk.choice (λ c. c.body) (OutsideLeft s walk) (outside_left walk) before records after rest h

  marked_left : (count : ℕ) (mark : Happening) (P : Steps) → Adds P → (before : Standing) (records : List Record) (after : Standing)
      (rest : List Record)
      → P (marked_so_often count mark before records) records after rest → After before records after rest
  marked_left count mark P adds before records after rest h =
      let marked : Standing = marked_so_often count mark before records in
      after_both before marked after records records rest
      (comes before before records records (meaning.doing before.progress (replicate count mark)) refl refl (omega arith))
      (adds marked records after rest h)

  chosen : (value : ℕ) (Holds Fails Goal : Type 0) → Chooses value Holds Fails → (Holds → Goal) → (Fails → Goal) → Goal
  chosen value Holds Fails Goal h holds fails = elim h [ inl p ↦ holds p.1 | inr p ↦ fails p.1 ]

  taker_left : (walk : Walk) (taker : Taker) (loaded : ℕ) → Adds (TakerLeft s walk taker loaded)
  taker_left walk nobody loaded before records after rest h = walk_left walk before records after rest h
  taker_left walk (to_register register value data_race) loaded before records after rest h =
      let value_taken : ℕ = loading_value before.progress.registers loaded value in
      let given : Standing = registered before records register value_taken in
      after_both before given after records records rest
      (comes before before records records (meaning.assigning before.progress register value_taken) refl refl (omega arith))
      (marked_left (so_often data_race) (happenings.Mark marks.Enable) (WalkLeft s walk) (walk_left walk) given records after rest h)
  taker_left walk (condition value) loaded before records after rest h =
      chosen _ _ _ _ h (λ p. body_left walk before records after rest p) (λ p. walk_left walk before records after rest p)

  pub follow_left : (walk : Walk) (follow : Follow) (effect : Effect) → Adds (FollowLeft s walk follow effect)
  follow_left walk goes_on effect before records after rest h = walk_left walk before records after rest h
  follow_left walk marks_next effect before records after rest h =
      let next : List Happening = happenings.Mark (marks.Next 1) ∷ [] in
      let marked : Standing = doing before records next in
      after_both before marked after records records rest (comes before before records records
      (meaning.doing before.progress next) refl refl (omega arith))
      (walk_left walk marked records after rest h)
  follow_left walk (assigned data_race) effect before records after rest h =
      marked_left (so_often data_race) (happenings.Mark marks.Enable) (WalkLeft s walk) (walk_left walk) before records after rest h
  follow_left walk (loaded_by size data_races taker) effect before records after rest h =
      marked_left data_races (happenings.Mark marks.Enable) (TakerLeft s walk taker _)
      (taker_left walk taker _) before records after rest h.2
