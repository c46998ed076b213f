-- Each outcome that falls of a task's checks is of an access of that task.
use Rattle.std.proofs.Common.{◌≡◌, ◌++◌, ◌||◌, ◌∷◌, [], ℕ, Bool, true, false, List, MatchBool, subst, sym}
use Rattle.litmus_syntax.specs.Tree.{Block}
use Rattle.setup_access.specs.Check.{Check, ChecksBegun, Close, Fallen, Passes, Rechecks, left_to_check}
use Rattle.setup_access.specs.OwnAccesses.{AreOwn}
use Rattle.setup_access.specs.Setting as checks
use Rattle.setup_access.specs.declared.begun.Begun.{Begun}
use Rattle.setup_access.proofs.DisciplineLemmas.{on_word}
use Rattle.slot_table.specs.declared.records.Record.{Record}
use Rattle.program_order.specs.Standing.{Setting, Standing, checks_of, counting}
use Rattle.program_order.specs.WrittenOrder.{SpellsAll, at_first}
use Rattle.program_order.proofs.Induction.{Kept, by_block}

-- each of these outcomes is of an access of the task
abbrev pub AllOfTask : ℕ → List Fallen → Type 0
AllOfTask task [] = Unit {0}
AllOfTask task (fallen ∷ others) = (fallen.access.task ≡ task) × AllOfTask task others

both_of : (task : ℕ) (first later : List Fallen) → AllOfTask task first → AllOfTask task later → AllOfTask task (first ++ later)
both_of task [] later one two = two
both_of task (fallen ∷ first) later one two = (one.0, both_of task first later one.1 two)

pick : (b : Bool) (Yes No Goal : Type 0) → MatchBool b Yes No → (Yes → Goal) → (No → Goal) → Goal
pick true Yes No Goal given at_true at_false = at_true given
pick false Yes No Goal given at_true at_false = at_false given

module _ (s : checks.Setting) where
  abbrev Of : List Fallen → Type 0
  Of fallen = AllOfTask s.task fallen

  rechecks_of : (scopes : List Begun) → AreOwn s scopes → (asked : ℕ) (records : List Record) (passes : Passes) (rest : List Record)
      → Rechecks s scopes asked records passes rest → Of passes.outcomes
  rechecks_of [] own asked records passes rest h = subst (λ (p : Passes). Of p.outcomes) (sym h.0) tt
  rechecks_of (scope ∷ scopes) own asked records passes rest h = pick scope.silenced _ _ (Of passes.outcomes) h
      (λ skips. rechecks_of scopes own.1 asked records passes rest skips)
      (λ now. subst Of (sym now.5)
      (own.0.task, rechecks_of scopes own.1 now.0.asked now.1 (record { outcomes = now.2; asked = passes.asked }) rest now.4))

  left_own : (settled : Bool) (scopes : List Begun) → AreOwn s scopes → AreOwn s (left_to_check settled scopes)
  left_own true scopes own = tt
  left_own false scopes own = own

  pub check_of : (scopes : List Begun) (begun : Begun) (asked : ℕ) (records : List Record) (passes : Passes) (rest : List Record)
      → Check s scopes begun asked records passes rest → Of passes.outcomes
  check_of scopes begun asked [] passes rest h = absurd h.2
  check_of scopes begun asked (first ∷ later) passes rest h =
      let got = on_word first.answer (λ stamp. ChecksBegun s scopes begun asked later passes rest) h.2.2 in
      pick begun.silenced _ _ (Of passes.outcomes) got.2
      (λ quiet. subst (λ (p : Passes). Of p.outcomes) (sym quiet.0) tt)
      (λ now. subst Of (sym now.5) (
        h.0.task,
        rechecks_of (left_to_check now.0.settled scopes) (left_own now.0.settled scopes h.1) now.0.asked now.1
            (record { outcomes = now.2; asked = passes.asked }) rest now.4,
      ))

  pub close_of : (scope : Begun) (silenced : Bool) (asked : ℕ) (records : List Record) (passes : Passes) (rest : List Record)
      → Close s scope silenced asked records passes rest → Of passes.outcomes
  close_of scope silenced asked records passes rest h =
      rechecks_of (record scope { silenced = scope.silenced || silenced } ∷ []) (h.0, tt) asked records passes h.1.0 h.1.1

module _ (s : Setting) where
  abbrev OwnOn : Standing → List Record → Standing → List Record → Type 0
  OwnOn before records after rest = AllOfTask s.text.task before.outcomes → AllOfTask s.text.task after.outcomes

  as_many : (ends_nothing : Bool) (before : Standing) → AllOfTask s.text.task before.outcomes → AllOfTask s.text.task (counting ends_nothing before).outcomes
  as_many true before h = h
  as_many false before h = h

  kept_own : Kept s OwnOn
  kept_own = record {
    still = λ before records h. h;
    joins = λ before between after records later rest p q h. q (p h);
    marked = λ ends_nothing count m before records h. as_many ends_nothing before h;
    lost = λ before records h. h;
    assigned = λ before records register value h. h;
    makes = λ a operation effect before records after rest made h.
        subst (λ (st : Standing). AllOfTask s.text.task st.outcomes) (sym made.comes_to)
        (both_of s.text.task before.outcomes made.passes.outcomes h
        (check_of (checks_of s) before.scopes made.begun before.asked records made.passes made.checked made.check));
    locks = λ lock before records rest is takes h. h;
    unlocks = λ lock before records rest has frees h. h;
    scoped = λ a assertion begun before opened closing after records inside later rest opens inner closes h.
        let began : AllOfTask s.text.task opened.outcomes =
        subst (λ (st : Standing). AllOfTask s.text.task st.outcomes) (sym opens.comes_to)
        (both_of s.text.task before.outcomes opens.passes.outcomes h
        (check_of (checks_of s) before.scopes begun before.asked records opens.passes inside opens.check)) in
        subst (λ (st : Standing). AllOfTask s.text.task st.outcomes) (sym closes.comes_to)
        (both_of s.text.task closing.outcomes closes.passes.outcomes (inner began)
        (close_of (checks_of s) begun closes.silenced closing.asked later closes.passes rest closes.close));
  }

pub whole_own : (s : Setting) (registers : ℕ) (body : Block) (records : List Record) (whole : SpellsAll s registers body records)
    → AllOfTask s.text.task whole.end.outcomes
whole_own s registers body records whole =
    by_block s (OwnOn s) (kept_own s) 0 body (at_first registers) records whole.end [] whole.steps tt
