-- An access that isn't a scoped assertion has one verdict at most.
use Rattle.std.proofs.Common.{◌+◌, ◌≡◌, ◌≤◌, ◌==◌, ◌&&◌, ◌∙◌, ◌∷◌, ◌++◌, ◌||◌, [], ℕ, Bool, true, false, List}
use Rattle.std.proofs.Common.{Option, MatchBool, ap, append-nil, append_assoc, arith, count_by, drop, if◌then◌else◌, refl, replicate, subst, sym}
use Rattle.std.specs.Prelude.{not}
use Rattle.access_types.specs.Access as access
use Rattle.access_types.specs.Kind.{is_scoped}
use Rattle.access_types.specs.Ticket.{ticket_number}
use Rattle.access_types.specs.declared.history.Happening.{Happening}
use Rattle.access_types.specs.declared.history.Happening.TheVariants as happenings
use Rattle.litmus_semantics.specs.Task as meaning
use Rattle.litmus_syntax.specs.Tree.{Block}
use Rattle.access_run.specs.declared.memory_operation.effect.Effect.{Effect}
use Rattle.access_run.specs.memory_operation.Effects.{moments_of}
use Rattle.access_run.specs.declared.memory_operation.operation.Operation.{Operation}
use Rattle.soundness.specs.Watches.{is_verdict}
use Rattle.setup_access.specs.Check.{Check, Fallen, Pass, Passes, Rechecks, fallen_of, left_to_check}
use Rattle.setup_access.specs.declared.begun.Begun.{Begun}
use Rattle.setup_access.proofs.DisciplineLemmas.{on_word}
use Rattle.slot_table.specs.declared.records.Record.{Record}
use Rattle.std.proofs.lemmas.List.Sums.{sum_by-cons}
use Rattle.program_order.specs.Access.{Makes}
use Rattle.program_order.specs.Standing.{Setting, Standing, checks_of, coming, counting, doing, registered}
use Rattle.program_order.specs.WrittenOrder.{ClosesScope, OpensScope, SpellsAll, at_first}
use Rattle.program_order.proofs.AccessLemmas.{access_does, counting_progress, makes_did}
use Rattle.program_order.proofs.ScopesLemmas.{counting_scopes, operated_scopes}
use Rattle.program_order.proofs.WayLemmas.{Begins}
use Rattle.log_correctness.proofs.Checked.{count_both, counted}
use Rattle.program_order.proofs.Induction.{Kept, by_block}

-- the verdict is on an access of this ticket, which is no scoped assertion
abbrev pub is_verdict_of : ℕ → Fallen → Bool
is_verdict_of ticket fallen = (is_verdict fallen.outcome && not (is_scoped fallen.access.kind)) && ticket_number fallen.access == ticket

-- an access of this ticket begins
abbrev pub begins_with : ℕ → Happening → Bool
begins_with ticket (happenings.Begin a) = ticket_number a == ticket
begins_with ticket happening = false

fallen_more : (ticket : ℕ) (f : Fallen) (outs : List Fallen)
    → count_by (is_verdict_of ticket) (f ∷ outs) ≡ (if is_verdict_of ticket f then 1 else 0) + count_by (is_verdict_of ticket) outs
fallen_more ticket f outs = sum_by-cons (λ (g : Fallen). if is_verdict_of ticket g then 1 else 0) f outs

fallen_both : (ticket : ℕ) (first second : List Fallen)
    → count_by (is_verdict_of ticket) (first ++ second) ≡ count_by (is_verdict_of ticket) first + count_by (is_verdict_of ticket) second
fallen_both ticket [] second = omega arith
fallen_both ticket (f ∷ first) second =
    omega (arith, fallen_more ticket f (first ++ second), fallen_more ticket f first, fallen_both ticket first second)

scoped_none : (ticket : ℕ) (f : Fallen) → is_scoped f.access.kind ≡ true → ◌≡◌ {A = ℕ} (if is_verdict_of ticket f then 1 else 0) 0
scoped_none ticket f is = rw is (by (is_verdict f.outcome))
  where
    by : (b : Bool) → ◌≡◌ {A = ℕ} (if (b && not true) && ticket_number f.access == ticket then 1 else 0) 0
    by true = refl
    by false = refl

one_at_most : (ticket : ℕ) (f : Fallen) → (if is_verdict_of ticket f then 1 else 0) ≤ (if ticket_number f.access == ticket then 1 else 0)
one_at_most ticket f = by (is_verdict f.outcome && not (is_scoped f.access.kind)) (ticket_number f.access == ticket)
  where
    by : (b c : Bool) → (if b && c then 1 else 0) ≤ (if c then 1 else 0)
    by true true = omega arith
    by true false = omega arith
    by false true = omega arith
    by false false = omega arith

pick : (b : Bool) (Yes No Goal : Type 0) → MatchBool b Yes No → (Yes → Goal) → (No → Goal) → Goal
pick true Yes No Goal given at_true at_false = at_true given
pick false Yes No Goal given at_true at_false = at_false given

module _ (s : Setting) (ticket : ℕ) where
  abbrev verdicts : List Fallen → ℕ
  verdicts outs = count_by (is_verdict_of ticket) outs

  abbrev begun : List Happening → ℕ
  begun did = count_by (begins_with ticket) did

  abbrev AllScoped : List Begun → Type 0
  AllScoped [] = Unit {0}
  AllScoped (scope ∷ scopes) = (is_scoped scope.access.kind ≡ true) × AllScoped scopes

  all_with : (scopes : List Begun) (one : Begun) → AllScoped scopes → is_scoped one.access.kind ≡ true → AllScoped (scopes ++ one ∷ [])
  all_with [] one all is = (is, tt)
  all_with (scope ∷ scopes) one all is = (all.0, all_with scopes one all.1 is)

  rechecks : (scopes : List Begun) → AllScoped scopes → (asked : ℕ) (records : List Record) (passes : Passes) (rest : List Record)
      → Rechecks (checks_of s) scopes asked records passes rest → verdicts passes.outcomes ≡ 0
  rechecks [] all asked records passes rest h = subst (λ (p : Passes). verdicts p.outcomes ≡ 0) (sym h.0) refl
  rechecks (scope ∷ scopes) all asked records passes rest h = pick scope.silenced _ _ _ h
      (λ skips. rechecks scopes all.1 asked records passes rest skips)
      (λ now.
      let more : verdicts now.2 ≡ 0 = rechecks scopes all.1 now.0.asked now.1 (record { outcomes = now.2; asked = passes.asked }) rest now.4 in
      let f : Fallen = fallen_of scope.access now.0 in
      subst (λ (o : List Fallen). verdicts o ≡ 0) (sym now.5) (omega (arith, fallen_more ticket f now.2, scoped_none ticket f all.0, more)))

  left_scoped : (settled : Bool) (scopes : List Begun) → AllScoped scopes → AllScoped (left_to_check settled scopes)
  left_scoped true scopes all = tt
  left_scoped false scopes all = all

  -- the check of an access has a verdict on it, if it has one
  checked : (scopes : List Begun) (one : Begun) (asked : ℕ) (records : List Record) (passes : Passes) (rest : List Record) → AllScoped scopes
      → Check (checks_of s) scopes one asked records passes rest → (most : ℕ)
      → ((pass : Pass) → (if is_verdict_of ticket (fallen_of one.access pass) then 1 else 0) ≤ most) → verdicts passes.outcomes ≤ most
  checked scopes one asked [] passes rest all h most each = absurd h.2
  checked scopes one asked (first ∷ later) passes rest all h most each =
      let got = on_word first.answer _ h.2.2 in
      pick one.silenced _ _ _ got.2
      (λ silenced. subst (λ (p : Passes). verdicts p.outcomes ≤ most) (sym silenced.0) (omega arith))
      (λ now.
      let more : verdicts now.2 ≡ 0 =
      rechecks (left_to_check now.0.settled scopes) (left_scoped now.0.settled scopes all) now.0.asked now.1
      (record { outcomes = now.2; asked = passes.asked }) rest now.4 in
      let f : Fallen = fallen_of one.access now.0 in
      subst (λ (o : List Fallen). verdicts o ≤ most) (sym now.5) (omega (arith, fallen_more ticket f now.2, each now.0, more)))

  record Part (before : Standing) (records : List Record) (after : Standing) (rest : List Record) : Type 0 where
    begins : Begins before.progress.did after.progress.did
    scopes : after.scopes ≡ before.scopes
    new : List Fallen
    outcomes : after.outcomes ≡ before.outcomes ++ new
    few : AllScoped before.scopes → verdicts new ≤ begun begins.0

  plainly : (before after : Standing) (records rest : List Record) (did : List Happening) → after.progress.did ≡ before.progress.did ++ did
      → after.scopes ≡ before.scopes → after.outcomes ≡ before.outcomes → Part before records after rest
  plainly before after records rest did is scopes same = record {
    begins = (did, is);
    scopes = scopes;
    new = [];
    outcomes = same ∙ sym (append-nil before.outcomes);
    few = λ all. omega arith;
  }

  counting_outcomes : (ends_nothing : Bool) (before : Standing) → (counting ends_nothing before).outcomes ≡ before.outcomes
  counting_outcomes true before = refl
  counting_outcomes false before = refl

  makes_part : (a : access.Access) (operation : Option Operation) (effect : Effect) (before : Standing) (records : List Record) (after : Standing) (rest : List Record)
      → Makes s before a operation records effect after rest → Part before records after rest
  makes_part a operation effect before records after rest h =
      let did = makes_did s a operation effect before records after rest h in
      let began : Standing = doing before (drop 1 records) (happenings.Begin a ∷ []) in
      let behind : List Happening = moments_of a effect ++ happenings.End a ∷ [] in
      record {
        begins = (access_does a effect, did);
        scopes = ap (λ (st : Standing). st.scopes) h.comes_to ∙ operated_scopes a operation began h.checked effect h.done;
        new = h.passes.outcomes;
        outcomes = ap (λ (st : Standing). st.outcomes) h.comes_to;
        few = λ all.
            let most : ℕ = if ticket_number a == ticket then 1 else 0 in
            let one : verdicts h.passes.outcomes ≤ most =
            checked before.scopes h.begun before.asked records h.passes h.checked all h.check most
            (λ pass. subst (λ (b : access.Access). (if is_verdict_of ticket (fallen_of h.begun.access pass) then 1 else 0) ≤ (if ticket_number b == ticket then 1 else 0))
            h.begins.access (one_at_most ticket (fallen_of h.begun.access pass))) in
            omega (arith, one, counted (begins_with ticket) (happenings.Begin a) behind);
      }

  scoped_part : (a : access.Access) → is_scoped a.kind ≡ true → (one : Begun) (before opened closing after : Standing) (records inside later rest : List Record)
      → OpensScope s before a records one opened inside → Part opened inside closing later → ClosesScope s closing one before.scopes later after rest
      → Part before records after rest
  scoped_part a is one before opened closing after records inside later rest opens inner closes =
      let opened_did : opened.progress.did ≡ before.progress.did ++ happenings.Begin a ∷ [] = ap (λ (st : Standing). st.progress.did) opens.comes_to in
      let last_did : after.progress.did ≡ closing.progress.did ++ happenings.End one.access ∷ [] = ap (λ (st : Standing). st.progress.did) closes.comes_to in
      let inner_did : closing.progress.did ≡ before.progress.did ++ happenings.Begin a ∷ inner.begins.0 =
      inner.begins.1 ∙ (ap (λ (d : List Happening). d ++ inner.begins.0) opened_did ∙ append_assoc before.progress.did (happenings.Begin a ∷ []) inner.begins.0) in
      let does_all : List Happening = happenings.Begin a ∷ (inner.begins.0 ++ happenings.End one.access ∷ []) in
      let did : after.progress.did ≡ before.progress.did ++ does_all =
      last_did ∙ (ap (λ (d : List Happening). d ++ happenings.End one.access ∷ []) inner_did
      ∙ append_assoc before.progress.did (happenings.Begin a ∷ inner.begins.0) (happenings.End one.access ∷ [])) in
      let opened_scopes : opened.scopes ≡ before.scopes ++ one ∷ [] = ap (λ (st : Standing). st.scopes) opens.comes_to in
      let opened_out : opened.outcomes ≡ before.outcomes ++ opens.passes.outcomes = ap (λ (st : Standing). st.outcomes) opens.comes_to in
      let last_out : after.outcomes ≡ closing.outcomes ++ closes.passes.outcomes = ap (λ (st : Standing). st.outcomes) closes.comes_to in
      let its : is_scoped one.access.kind ≡ true = ap (λ (b : access.Access). is_scoped b.kind) opens.begins.access ∙ is in
      record {
        begins = (does_all, did);
        scopes = ap (λ (st : Standing). st.scopes) closes.comes_to;
        new = (opens.passes.outcomes ++ inner.new) ++ closes.passes.outcomes;
        outcomes = last_out ∙ (ap (λ (o : List Fallen). o ++ closes.passes.outcomes)
            (inner.outcomes ∙ (ap (λ (o : List Fallen). o ++ inner.new) opened_out ∙ append_assoc before.outcomes opens.passes.outcomes inner.new))
            ∙ append_assoc before.outcomes (opens.passes.outcomes ++ inner.new) closes.passes.outcomes);
        few = λ all.
            let first : verdicts opens.passes.outcomes ≤ 0 = checked before.scopes one before.asked records opens.passes inside all opens.check 0
            (λ pass. omega (arith, scoped_none ticket (fallen_of one.access pass) its)) in
            let middle : verdicts inner.new ≤ begun inner.begins.0 = inner.few (subst AllScoped (sym opened_scopes) (all_with before.scopes one all its)) in
            let last : verdicts closes.passes.outcomes ≡ 0 =
            rechecks ((record one { silenced = one.silenced || closes.silenced }) ∷ []) (its, tt) closing.asked later closes.passes closes.close.1.0 closes.close.1.1 in
            omega (
              arith,
              first,
              middle,
              last,
              fallen_both ticket (opens.passes.outcomes ++ inner.new) closes.passes.outcomes,
              fallen_both ticket opens.passes.outcomes inner.new,
              counted (begins_with ticket) (happenings.Begin a) (inner.begins.0 ++ happenings.End one.access ∷ []),
              count_both (begins_with ticket) inner.begins.0 (happenings.End one.access ∷ []),
            );
      }

  kept_parts : Kept s Part
  kept_parts = record {
    still = λ before records. plainly before before records records [] (sym (append-nil before.progress.did)) refl refl;
    joins = λ before between after records later rest p q. record {
      begins = (
        p.begins.0 ++ q.begins.0,
        q.begins.1 ∙ (ap (λ (d : List Happening). d ++ q.begins.0) p.begins.1 ∙ append_assoc before.progress.did p.begins.0 q.begins.0),
      );
      scopes = q.scopes ∙ p.scopes;
      new = p.new ++ q.new;
      outcomes = q.outcomes ∙ (ap (λ (o : List Fallen). o ++ q.new) p.outcomes ∙ append_assoc before.outcomes p.new q.new);
      few = λ all.
          let one = p.few all in
          let two = q.few (subst AllScoped (sym p.scopes) all) in
          omega (arith, one, two, fallen_both ticket p.new q.new, count_both (begins_with ticket) p.begins.0 q.begins.0);
    };
    marked = λ ends_nothing count m before records.
        let counted_so : Standing = counting ends_nothing before in
        let marks : List Happening = replicate count (happenings.Mark m) in
        plainly before (doing counted_so records marks) records records marks
        (ap (λ (p : meaning.Progress). p.did ++ marks) (counting_progress ends_nothing before)) (counting_scopes ends_nothing before) (counting_outcomes ends_nothing before);
    lost = λ before records.
        plainly before (coming (counting true before) records before.progress) records records [] (sym (append-nil before.progress.did)) refl refl;
    assigned = λ before records register value.
        plainly before (registered before records register value) records records [] (sym (append-nil before.progress.did)) refl refl;
    makes = makes_part;
    locks = λ lock before records rest is takes.
        plainly before (doing before rest (happenings.Lock lock ∷ [])) records rest (happenings.Lock lock ∷ []) refl refl refl;
    unlocks = λ lock before records rest has stores.
        plainly before (doing before rest (happenings.Unlock lock ∷ [])) records rest (happenings.Unlock lock ∷ []) refl refl refl;
    scoped = scoped_part;
  }

-- in a whole text there are no more such verdicts than begins
pub few_verdicts : (s : Setting) (ticket registers : ℕ) (body : Block) (records : List Record) (whole : SpellsAll s registers body records)
    → count_by (is_verdict_of ticket) whole.end.outcomes ≤ count_by (begins_with ticket) whole.end.progress.did
few_verdicts s ticket registers body records whole =
    let part = by_block s (Part s ticket) (kept_parts s ticket) 0 body (at_first registers) records whole.end [] whole.steps in
    let few = part.few tt in
    omega (
      arith,
      few,
      ap (λ (o : List Fallen). count_by (is_verdict_of ticket) o) part.outcomes,
      ap (λ (d : List Happening). count_by (begins_with ticket) d) part.begins.1,
    )
