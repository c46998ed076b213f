-- What is left of a text only adds to what its task did.
use Rattle.std.proofs.Common.{◌≡◌, ◌∙◌, ◌+◌, ◌-◌, ◌++◌, ℕ, zero, suc, Bool, true, false, List, [], ◌∷◌, MatchOption, None, Option, Some, ap, append_assoc, drop, inl, inr, refl, replicate, subst, sym}
use Rattle.std.proofs.lemmas.List.{append-nil}
use Rattle.access_types.specs.Access as access
use Rattle.access_types.specs.declared.history.Happening.{Happening}
use Rattle.access_types.specs.declared.history.Happening.TheVariants as happenings
use Rattle.litmus_semantics.specs.Meaning.{Chooses}
use Rattle.litmus_syntax.specs.Tree.{Block}
use Rattle.litmus_syntax.specs.Views.{block_of}
use Rattle.access_run.specs.memory_operation.Effects.{moments_of, read_moments, write_moments}
use Rattle.access_run.specs.declared.memory_operation.effect.Effect.{Effect}
use Rattle.access_run.specs.declared.memory_operation.operation.Operation.{Operation}
use Rattle.access_run.specs.declared.memory_operation.operation.Operation.TheVariants as operations
use Rattle.setup_access.specs.declared.begun.Begun.{Begun}
use Rattle.slot_table.specs.declared.records.Record.{Record}
use Rattle.task_plan.specs.Left.{BlocksLeft, BodyLeft, Closes, ClosesNewest, EndLeft, NothingLeft, OpenLeft, OutsideLeft, Then, WalkLeft}
use Rattle.task_plan.specs.declared.block.AtEnd.{AtEnd}
use Rattle.task_plan.specs.declared.block.AtEnd.TheVariants as ends
use Rattle.task_plan.specs.declared.block.Choice.{Choice}
use Rattle.task_plan.specs.declared.block.OpenBlock.{OpenBlock}
use Rattle.task_plan.specs.declared.walk.Walk.{Walk}
use Rattle.program_order.specs.Access.{Makes, operated}
use Rattle.program_order.specs.Standing.{Setting, Standing, counting, doing}
use Rattle.program_order.specs.WrittenOrder.{ClosesScope, OpensScope, Steps, StepsOfBlock, StepsOfTurns}
use Rattle.program_order.proofs.Induction.{Kept, by_block}
use Rattle.program_order.proofs.WayLemmas.{Begins}

pub begins_same : (did all : List Happening) → all ≡ did → Begins did all
begins_same did all is = ([], is ∙ sym (append-nil did))

pub begins_on : (first middle all : List Happening) → Begins first middle → Begins middle all → Begins first all
begins_on first middle all p q = (p.0 ++ q.0, q.1 ∙ (ap (λ (d : List Happening). d ++ q.0) p.1 ∙ append_assoc first p.0 q.0))

-- the task did no less afterwards
abbrev pub GoesOn : Standing → Standing → Type 0
GoesOn before after = Begins before.progress.did after.progress.did

-- by whatever records this part is made
abbrev pub Grows : Steps → Type 0
Grows P = (before : Standing) (records : List Record) (after : Standing) (rest : List Record) → P before records after rest → GoesOn before after

stays : (before after : Standing) → after ≡ before → GoesOn before after
stays before after is = begins_same before.progress.did after.progress.did (ap (λ (st : Standing). st.progress.did) is)

operation_grows : (a : access.Access) (operation : Option Operation) (before : Standing) (records : List Record) (effect : Effect) (rest : List Record)
    → GoesOn before (operated a operation before records effect rest)
operation_grows a None before records effect rest = stays before before refl
operation_grows a (Some operations.Load) before records effect rest = (moments_of a effect, refl)
operation_grows a (Some (operations.Add amount)) before records effect rest =
    (read_moments a effect.read ++ write_moments a effect.written, append_assoc before.progress.did (read_moments a effect.read) (write_moments a effect.written))
operation_grows a (Some (operations.Change change)) before records effect rest = (moments_of a effect, refl)

counting_grows : (b : Bool) (before : Standing) → GoesOn before (counting b before)
counting_grows true before = stays before before refl
counting_grows false before = stays before before refl

-- an access
pub makes_grow : (s : Setting) (before : Standing) (a : access.Access) (operation : Option Operation) (records : List Record) (effect : Effect) (after : Standing)
    (rest : List Record) → Makes s before a operation records effect after rest → GoesOn before after
makes_grow s before a operation records effect after rest h =
    let began : Standing = doing before (drop 1 records) (happenings.Begin a ∷ []) in
    let made : Standing = operated a operation began h.checked effect h.done in
    let at_begin : GoesOn before began = (happenings.Begin a ∷ [], refl) in
    let at_end : GoesOn made (doing made rest (happenings.End a ∷ [])) = (happenings.End a ∷ [], refl) in
    let whole : GoesOn before (doing made rest (happenings.End a ∷ [])) =
    begins_on _ _ _ at_begin (begins_on _ _ _ (operation_grows a operation began h.checked effect h.done) at_end) in
    subst (λ (st : Standing). GoesOn before st) (sym h.comes_to) whole

pub opens_grow : (s : Setting) (before : Standing) (a : access.Access) (records : List Record) (begun : Begun) (after : Standing) (rest : List Record)
    → OpensScope s before a records begun after rest → after.progress.did ≡ before.progress.did ++ happenings.Begin a ∷ []
opens_grow s before a records begun after rest h = ap (λ (st : Standing). st.progress.did) h.comes_to

pub closes_grow : (s : Setting) (before : Standing) (begun : Begun) (scopes : List Begun) (records : List Record) (after : Standing) (rest : List Record)
    → ClosesScope s before begun scopes records after rest → GoesOn before after
closes_grow s before begun scopes records after rest h = (happenings.End begun.access ∷ [], ap (λ (st : Standing). st.progress.did) h.comes_to)

kept_growth : (s : Setting) → Kept s (λ before records after rest. GoesOn before after)
kept_growth s = record {
  still = λ before records. stays before before refl;
  joins = λ before between after records later rest p q. begins_on _ _ _ p q;
  marked = λ ends_nothing count m before records.
      let own : GoesOn (counting ends_nothing before) (doing (counting ends_nothing before) records (replicate count (happenings.Mark m))) =
      (replicate count (happenings.Mark m), refl) in begins_on _ _ _ (counting_grows ends_nothing before) own;
  lost = λ before records. begins_same before.progress.did before.progress.did refl;
  assigned = λ before records register value. begins_same before.progress.did before.progress.did refl;
  makes = λ a operation effect before records after rest h. makes_grow s before a operation records effect after rest h;
  locks = λ lock before records rest is takes. (happenings.Lock lock ∷ [], refl);
  unlocks = λ lock before records rest has stores. (happenings.Unlock lock ∷ [], refl);
  scoped = λ a assertion begun before opened closing after records inside later rest opens inner closes.
      let first : GoesOn before opened = (happenings.Begin a ∷ [], opens_grow s before a records begun opened inside opens) in
      begins_on _ _ _ first (begins_on _ _ _ inner (closes_grow s closing begun before.scopes later after rest closes));
}

module _ (s : Setting) where
  pub block_grows : (site : ℕ) (body : Block) → Grows (StepsOfBlock s site body)
  block_grows site body before records after rest h =
      by_block s (λ b r a t. GoesOn b a) (kept_growth s) site body before records after rest h

  pub then_grows : (P Q : Steps) → Grows P → Grows Q → Grows (Then P Q)
  then_grows P Q first later before records after rest h =
      begins_on _ _ _ (first before records h.0 h.1 h.2) (later h.0 h.1 after rest h.3)

  nothing_grows : Grows NothingLeft
  nothing_grows before records after rest h = stays before after h.0

  turns_grow : (Body : Steps) (register turn left : ℕ) → Grows Body → Grows (StepsOfTurns Body register turn left)
  turns_grow Body register turn zero each before records after rest h =
      begins_same before.progress.did after.progress.did (ap (λ (st : Standing). st.progress.did) h.0)
  turns_grow Body register turn (suc left) each before records after rest h =
      begins_on _ _ _ (each _ records h.0 h.1 h.2) (turns_grow Body register (suc turn) left each h.0 h.1 after rest h.3)

  newest_grows : Grows (ClosesNewest s)
  newest_grows before records after rest h = closes_grow s before h.1 h.0 records after rest h.3

  closing_grows : (scopes : ℕ) (Next : Steps) → Grows Next → Grows (Closes s scopes Next)
  closing_grows zero Next next before records after rest h = next before records after rest h
  closing_grows (suc more) Next next before records after rest h =
      then_grows (ClosesNewest s) (Closes s more Next) newest_grows (closing_grows more Next next) before records after rest h

  end_grows : (at_end : AtEnd) (Next : Steps) → Grows Next → Grows (EndLeft s at_end Next)
  end_grows ends.Leaves Next next before records after rest h = next before records after rest h
  end_grows (ends.Repeats turn) Next next before records after rest h =
      then_grows (StepsOfTurns (StepsOfBlock s turn.of.site (block_of turn.of.body.now)) turn.of.register (turn.number + 1) (turn.of.turns - (turn.number + 1))) Next
      (turns_grow (StepsOfBlock s turn.of.site (block_of turn.of.body.now)) turn.of.register (turn.number + 1) (turn.of.turns - (turn.number + 1))
      (block_grows turn.of.site (block_of turn.of.body.now))) next before records after rest h

  open_grows : (block : OpenBlock) (Next : Steps) → Grows Next → Grows (OpenLeft s block Next)
  open_grows block Next next before records after rest h =
      then_grows (StepsOfBlock s block.site (block_of block.left.now)) (Closes s block.scopes (EndLeft s block.at_end Next))
      (block_grows block.site (block_of block.left.now))
      (closing_grows block.scopes (EndLeft s block.at_end Next) (end_grows block.at_end Next next)) before records after rest h

  blocks_grow : (blocks : List OpenBlock) (Next : Steps) → Grows Next → Grows (BlocksLeft s blocks Next)
  blocks_grow [] Next next before records after rest h = next before records after rest h
  blocks_grow (outer ∷ inner) Next next before records after rest h =
      blocks_grow inner (OpenLeft s outer Next) (open_grows outer Next next) before records after rest h

  outside_grows : (walk : Walk) → Grows (OutsideLeft s walk)
  outside_grows walk = blocks_grow walk.blocks.items NothingLeft nothing_grows

  chosen_grows : (chosen : Option Choice) (walk : Walk) (of : Choice → OpenBlock) (before : Standing) (records : List Record) (after : Standing) (rest : List Record)
      → MatchOption chosen (OutsideLeft s walk before records after rest) (λ choice. OpenLeft s (of choice) (OutsideLeft s walk) before records after rest)
      → GoesOn before after
  chosen_grows None walk of before records after rest h = outside_grows walk before records after rest h
  chosen_grows (Some choice) walk of before records after rest h =
      open_grows (of choice) (OutsideLeft s walk) (outside_grows walk) before records after rest h

  -- what is left of the text where a task stands in it
  pub walk_grows : (walk : Walk) → Grows (WalkLeft s walk)
  walk_grows walk before records after rest h = chosen_grows walk.choice walk (λ choice. choice.otherwise) before records after rest h

  pub body_grows : (walk : Walk) → Grows (BodyLeft s walk)
  body_grows walk before records after rest h = chosen_grows walk.choice walk (λ choice. choice.body) before records after rest h

  -- whichever is chosen
  pub choice_grows : (value : ℕ) (walk : Walk) (before : Standing) (records : List Record) (after : Standing) (rest : List Record)
      → Chooses value (BodyLeft s walk before records after rest) (WalkLeft s walk before records after rest) → GoesOn before after
  choice_grows value walk before records after rest h = elim h [
    | inl p ↦ body_grows walk before records after rest p.1
    | inr q ↦ walk_grows walk before records after rest q.1
  ]
