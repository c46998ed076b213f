-- At which records of a text the outcomes of its checks fall.
use Rattle.std.proofs.Common.{◌≡◌, ◌∙◌, ◌∷◌, ◌++◌, [], ℕ, List, Option, None, Some, ap, append_assoc, refl, subst, sym}
use Rattle.std.proofs.lemmas.List.{append-nil}
use Rattle.access_types.specs.Access as access
use Rattle.litmus_syntax.specs.Tree.{Block}
use Rattle.access_run.specs.declared.memory_operation.effect.Effect.{Effect}
use Rattle.access_run.specs.declared.memory_operation.operation.Operation.{Operation}
use Rattle.access_run.specs.declared.memory_operation.operation.Operation.TheVariants as operations
use Rattle.setup_access.specs.Check.{Fallen}
use Rattle.setup_access.specs.declared.begun.Begun.{Begun}
use Rattle.slot_table.specs.Discipline.{in_hand}
use Rattle.slot_table.specs.declared.records.Record.{Record}
use Rattle.slot_table.specs.declared.step.Step.{Step}
use Rattle.slot_table.specs.declared.step.Step.TheVariants.{CellExchange, CellLoad, Clear, Clock, Consume, Insert, Load, LockStore, LockTry, Name, PairLoad, Remove, Tell, TryConsume}
use Rattle.program_order.specs.Access.{Makes, operated}
use Rattle.program_order.specs.Standing.{Setting, Standing, checks_of, lock_number}
use Rattle.program_order.specs.WrittenOrder.{ClosesScope, OpensScope, SpellsAll, at_first}
use Rattle.program_order.proofs.Induction.{Kept, by_block}
use Rattle.executions.proofs.execution.TaskFacts.{IsPlain, counting_outcomes, done_step, operates, takes_lock, word_step}
use Rattle.soundness.specs.Settles.{Settles}
use Rattle.soundness.proofs.Falls.{Falls, check, close, nothing_here, unhit}

-- a step that is none of a check's changes nothing in the task's hand, and settles nothing
plain_hand : (first : Record) (step : Step) → first.step ≡ step → IsPlain step → (own : List Record) → in_hand (first ∷ own) ≡ in_hand own
plain_hand first (CellLoad cell) is ok own = subst (λ (st : Step). in_hand (record first { step = st } ∷ own) ≡ in_hand own) (sym is) refl
plain_hand first (CellExchange cell seen new) is ok own = subst (λ (st : Step). in_hand (record first { step = st } ∷ own) ≡ in_hand own) (sym is) refl
plain_hand first (LockTry lock task) is ok own = subst (λ (st : Step). in_hand (record first { step = st } ∷ own) ≡ in_hand own) (sym is) refl
plain_hand first (LockStore lock) is ok own = subst (λ (st : Step). in_hand (record first { step = st } ∷ own) ≡ in_hand own) (sym is) refl
plain_hand first Clock is ok own = subst (λ (st : Step). in_hand (record first { step = st } ∷ own) ≡ in_hand own) (sym is) refl
plain_hand first (Load index) is ok own = absurd ok
plain_hand first (Insert index word) is ok own = absurd ok
plain_hand first (TryConsume index word) is ok own = absurd ok
plain_hand first (Consume index) is ok own = absurd ok
plain_hand first (Remove index) is ok own = absurd ok
plain_hand first (PairLoad index) is ok own = absurd ok
plain_hand first (Name index ticket) is ok own = absurd ok
plain_hand first (Tell index ticket) is ok own = absurd ok
plain_hand first (Clear index) is ok own = absurd ok

plain_settles : (first : Record) (step : Step) → first.step ≡ step → IsPlain step → (own : List Record) → Settles (in_hand own) first.step first.answer []
plain_settles first (CellLoad cell) is ok own = subst (λ (st : Step). Settles (in_hand own) st first.answer []) (sym is) refl
plain_settles first (CellExchange cell seen new) is ok own = subst (λ (st : Step). Settles (in_hand own) st first.answer []) (sym is) refl
plain_settles first (LockTry lock task) is ok own = subst (λ (st : Step). Settles (in_hand own) st first.answer []) (sym is) refl
plain_settles first (LockStore lock) is ok own = subst (λ (st : Step). Settles (in_hand own) st first.answer []) (sym is) refl
plain_settles first Clock is ok own = subst (λ (st : Step). Settles (in_hand own) st first.answer []) (sym is) refl
plain_settles first (Load index) is ok own = absurd ok
plain_settles first (Insert index word) is ok own = absurd ok
plain_settles first (TryConsume index word) is ok own = absurd ok
plain_settles first (Consume index) is ok own = absurd ok
plain_settles first (Remove index) is ok own = absurd ok
plain_settles first (PairLoad index) is ok own = absurd ok
plain_settles first (Name index ticket) is ok own = absurd ok
plain_settles first (Tell index ticket) is ok own = absurd ok
plain_settles first (Clear index) is ok own = absurd ok

-- these outcomes fall at these records, where nothing is in hand before them
abbrev Then : List Record → List Fallen → Type 0
Then records outs = (own : List Record) → in_hand own ≡ None → Falls own records outs

plain_falls : (outs : List Fallen) (first : Record) (later : List Record) → IsPlain first.step → Then later outs → Then (first ∷ later) outs
plain_falls outs first later ok goes own idle =
    nothing_here own later first outs (plain_settles first first.step refl ok own)
    (unhit own first.step (let h : in_hand own ≡ None = idle in rw h refl))
    (goes (first ∷ own) (plain_hand first first.step refl ok own ∙ idle))

module _ (s : Setting) where
  -- these outcomes come of a part of a text, and fall at its records
  pub record Part (before : Standing) (records : List Record) (after : Standing) (rest : List Record) : Type 0 where
    pub new : List Fallen
    pub outcomes : after.outcomes ≡ before.outcomes ++ new
    pub falls : (more : List Fallen) → Then rest more → Then records (new ++ more)

  nothing_new : (before after : Standing) (records rest : List Record) → after.outcomes ≡ before.outcomes
      → ((more : List Fallen) → Then rest more → Then records more)
      → Part before records after rest
  nothing_new before after records rest same falls = record { new = []; outcomes = same ∙ sym (append-nil before.outcomes); falls = falls }

  both : (before between after : Standing) (records later rest : List Record) → Part before records between later → Part between later after rest
      → Part before records after rest
  both before between after records later rest p q = record {
    new = p.new ++ q.new;
    outcomes = q.outcomes ∙ (ap (λ (o : List Fallen). o ++ q.new) p.outcomes ∙ append_assoc before.outcomes p.new q.new);
    falls = λ more goes own idle. subst (λ (o : List Fallen). Falls own records o) (sym (append_assoc p.new q.new more))
        (p.falls (q.new ++ more) (q.falls more goes) own idle);
  }

  operated_outcomes : (a : access.Access) (operation : Option Operation) (before : Standing) (records : List Record) (effect : Effect) (rest : List Record)
      → (operated a operation before records effect rest).outcomes ≡ before.outcomes
  operated_outcomes a None before records effect rest = refl
  operated_outcomes a (Some operations.Load) before records effect rest = refl
  operated_outcomes a (Some (operations.Add amount)) before records effect rest = refl
  operated_outcomes a (Some (operations.Change change)) before records effect rest = refl

  makes_part : (a : access.Access) (operation : Option Operation) (effect : Effect) (before : Standing) (records : List Record) (after : Standing)
      (rest : List Record)
      → Makes s before a operation records effect after rest → Part before records after rest
  makes_part a operation effect before records after rest h = record {
    new = h.passes.outcomes;
    outcomes = ap (λ (st : Standing). st.outcomes) h.comes_to;
    falls = λ more goes own idle. check (checks_of s) more h.checked
        (operates (λ (r : List Record). Then r more) (plain_falls more) s a operation h.checked effect h.done h.operates
        (word_step (λ (r : List Record). Then r more) (plain_falls more) s.text.task Clock _ h.done tt h.ends
        (λ stamp later is. subst (λ (r : List Record). Then r more) is goes)))
        before.scopes h.begun before.asked records h.passes h.check own idle;
  }

  scoped_part : (a : access.Access) (begun : Begun) (before opened closing after : Standing) (records inside later rest : List Record)
      → OpensScope s before a records begun opened inside → Part opened inside closing later → ClosesScope s closing begun before.scopes later after rest
      → Part before records after rest
  scoped_part a begun before opened closing after records inside later rest opens inner closes =
      let opening : Part before records opened inside = record {
        new = opens.passes.outcomes;
        outcomes = ap (λ (st : Standing). st.outcomes) opens.comes_to;
        falls = λ more goes own idle. check (checks_of s) more inside goes before.scopes begun before.asked records opens.passes opens.check own idle;
      } in
      let ending : Part closing later after rest = record {
        new = closes.passes.outcomes;
        outcomes = ap (λ (st : Standing). st.outcomes) closes.comes_to;
        falls = λ more goes own idle. close (checks_of s) more rest goes begun closes.silenced closing.asked later closes.passes closes.close own idle;
      } in
      both before opened after records inside rest opening (both opened closing after inside later rest inner ending)

  kept_parts : Kept s Part
  kept_parts = record {
    still = λ before records. nothing_new before before records records refl (λ more goes. goes);
    joins = λ before between after records later rest p q. both before between after records later rest p q;
    marked = λ ends_nothing count m before records. nothing_new before _ records records (counting_outcomes ends_nothing before) (λ more goes. goes);
    lost = λ before records. nothing_new before _ records records refl (λ more goes. goes);
    assigned = λ before records register value. nothing_new before _ records records refl (λ more goes. goes);
    makes = makes_part;
    locks = λ lock before records rest is takes. nothing_new before _ records rest refl
        (λ more goes. takes_lock (λ (r : List Record). Then r more) (plain_falls more) s.text.task (lock_number s lock) records rest takes goes);
    unlocks = λ lock before records rest has stores. nothing_new before _ records rest refl
        (λ more goes. done_step (λ (r : List Record). Then r more) (plain_falls more) s.text.task (LockStore (lock_number s lock)) records rest tt stores goes);
    scoped = λ a assertion. scoped_part a;
  }

-- all outcomes of a text fall at its records
pub whole_falls : (s : Setting) (registers : ℕ) (body : Block) (records : List Record) (whole : SpellsAll s registers body records)
    → Falls [] records whole.end.outcomes
whole_falls s registers body records whole =
    let part = by_block s (Part s) (kept_parts s) 0 body (at_first registers) records whole.end [] whole.steps in
    subst (λ (o : List Fallen). Falls [] records o) (append-nil part.new ∙ sym part.outcomes) (part.falls [] (λ own idle. refl) [] refl)
