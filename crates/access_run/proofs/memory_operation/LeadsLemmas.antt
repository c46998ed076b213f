-- What is known of an operation under way, by its records.
use Rattle.std.proofs.Common.{◌≡◌, ◌↔◌, ◌∙◌, ◌⊎◌, ◌-◌, ◌^◌, ◌<◌, ◌≤◌, ◌++◌, ◌∷◌, [], ℕ, true, false}
use Rattle.std.proofs.Common.{List, Option, None, Some, IfSome, IsNone, ap, append_assoc, arith, inl, inr, min, refl, subst, sym}
use Rattle.std.proofs.lemmas.List.{append-nil}
use Rattle.access_types.specs.Access.{Access}
use Rattle.access_run.specs.memory_operation.Effects.{and_then, did, nothing}
use Rattle.access_run.specs.memory_operation.Leads.{GoesOn, IsComplete, IsDone, IsOperationOver, IsStuck, Leads, OnlyStep, Says}
use Rattle.access_run.specs.memory_operation.Operations.{Exchanges, OnExchange, OperatesIn}
use Rattle.access_run.specs.memory_operation.Stages.{Counts, Follow, IsReady, StageLeft, Turns, stage_did, stage_step}
use Rattle.access_run.specs.memory_operation.Values.{is_wanted, new_value, with_value}
use Rattle.access_run.specs.memory_operation.Waits.{failed_tries}
use Rattle.access_run.specs.declared.memory_operation.effect.Effect.{Effect}
use Rattle.access_run.specs.declared.memory_operation.operation.Change.{Change}
use Rattle.access_run.specs.declared.memory_operation.operation.Operation.{Operation}
use Rattle.access_run.specs.declared.memory_operation.operation.Operation.TheVariants as operations
use Rattle.access_run.specs.declared.memory_operation.run.OperationRun.{OperationRun}
use Rattle.access_run.specs.declared.memory_operation.stage.OperationStage.{OperationStage}
use Rattle.access_run.specs.declared.memory_operation.stage.OperationStage.TheVariants as stages
use Rattle.access_run.specs.declared.memory_operation.stage.Transition.{Transition}
use Rattle.setup_access.specs.Records.{MakesWord, OnWord}
use Rattle.setup_access.specs.Values.{value_in}
use Rattle.setup_access.specs.declared.source.Source.{Source}
use Rattle.slot_table.specs.Answer.{IsWord}
use Rattle.slot_table.specs.declared.records.Record.{Record}
use Rattle.slot_table.specs.declared.step.Answer.{Answer}
use Rattle.slot_table.specs.declared.step.Answer.TheVariants as answers
use Rattle.slot_table.specs.declared.step.Step.{Step}
use Rattle.slot_table.specs.declared.step.Step.TheVariants.{CellExchange, CellLoad}
use Rattle.access_run.proofs.memory_operation.EffectLemmas.{follow_map, follow_none, follow_on, nothing_did, then_assoc, then_nothing}
use Rattle.access_run.proofs.memory_operation.TurnLemmas.{none_end}

-- what an option has is one
some_are : (first second : Step) → Some first ≡ Some second → first ≡ second
some_are first second is = cc

none_is_over : (a : Access) (source : Source) (stage : OperationStage) → IsNone (stage_step a source stage) → stage ≡ stages.Over
none_is_over a source stages.Over h = refl
none_is_over a source (stages.Load operation) h = absurd (cc)
none_is_over a source (stages.Exchange change seen tries) h = absurd (cc)

-- an answer that is read as a word is one
word_answer : (answer : Answer) (P : ℕ → Type 0) → OnWord answer P → IsWord answer
word_answer (answers.Word word) P h = tt
word_answer (answers.Flag flag) P h = h
word_answer (answers.Halves setter finder) P h = h
word_answer answers.Done P h = h

exchange_answer : (answer : Answer) (A : Type 0) (R : ℕ → Type 0) → OnExchange answer A R
    → (answer ≡ answers.Flag true) ⊎ IsWord answer
exchange_answer (answers.Word word) A R h = inr tt
exchange_answer (answers.Flag true) A R h = inl refl
exchange_answer (answers.Flag false) A R h = absurd h
exchange_answer (answers.Halves setter finder) A R h = absurd h
exchange_answer answers.Done A R h = absurd h

-- what is left goes on with the step of its stage
makes_goes : (task cell : ℕ) (P : ℕ → List Record → Type 0) (later : List Record)
    → MakesWord task (CellLoad cell) P later → GoesOn task (CellLoad cell) later
makes_goes task cell P [] h = h
makes_goes task cell P (first ∷ later) h =
    (h.0, h.1, word_answer first.answer (λ word. P word later) h.2)

module _ (task : ℕ) (a : Access) (source : Source) where
  load_goes : (operation : Operation) (later : List Record) (effect : Effect)
      → OperatesIn task a source operation later effect [] → GoesOn task (CellLoad source.cell) later
  load_goes operations.Load later effect h = makes_goes task source.cell _ later h
  load_goes (operations.Add amount) later effect h = makes_goes task source.cell _ later h
  load_goes (operations.Change change) later effect h = makes_goes task source.cell _ later h

  load_has_more : (operation : Operation) (effect : Effect) → OperatesIn task a source operation [] effect [] → ⊥
  load_has_more operation effect h = load_goes operation [] effect h

  exchange_goes : (change : Change) (seen : ℕ) (later : List Record) (effect : Effect)
      → is_wanted a.size change (value_in a source seen) ≡ true → Exchanges task a source change seen later effect []
      → GoesOn task (CellExchange source.cell seen (with_value a source seen (new_value a.size change (value_in a source seen)))) later
  exchange_goes change seen [] effect ready h = none_end task a source change seen effect [] ready h
  exchange_goes change seen (first ∷ later) effect ready h =
      let tried = rw ready at h in
      (tried.0.0, tried.0.1, exchange_answer first.answer _ _ tried.1)

  stage_goes : (stage : OperationStage) (later : List Record) (effect : Effect) (step : Step) → IsReady a source stage
      → StageLeft task a source stage later effect → stage_step a source stage ≡ Some step → GoesOn task step later
  stage_goes stages.Over later effect step ready h says = absurd (let never : None ≡ Some step = says in cc)
  stage_goes (stages.Load operation) later effect step ready h says =
      subst (λ s. GoesOn task s later) (some_are (CellLoad source.cell) step says) (load_goes operation later effect h)
  stage_goes (stages.Exchange change seen tries) later effect step ready h says =
      subst (λ s. GoesOn task s later) (some_are _ step says) (exchange_goes change seen later effect ready h)

  -- only what is over has nothing left
  has_more : (stage : OperationStage) (effect : Effect) → IsReady a source stage → StageLeft task a source stage [] effect
      → stage ≡ stages.Over
  has_more stages.Over effect ready h = refl
  has_more (stages.Load operation) effect ready h = absurd (load_has_more operation effect h)
  has_more (stages.Exchange change seen tries) effect ready h = absurd (none_end task a source change seen effect [] ready h)

-- the step of a record's stage
module _ (task : ℕ) (a : Access) (source : Source) (operation : Operation) (records : List Record) (run : OperationRun)
    (leads : Leads task a source operation records run) where
  says_here : (step : Step) → Says run step → stage_step a source run.stage ≡ Some step
  says_here step says =
      subst (λ (x : Source). stage_step a x run.stage ≡ Some step) leads.in_source
      (subst (λ (x : Access). stage_step x run.source run.stage ≡ Some step) leads.of_access says)

  pub only_step : (step : Step) → Says run step → OnlyStep task a source operation records step
  only_step step says = λ later effect h.
      let left = (leads.left later effect).0 h in
      stage_goes task a source run.stage later left.0 step leads.ready left.1 (says_here step says)

  -- the records are all of it exactly where it is over
  pub done_is_over : IsDone task a source operation records → run.stage ≡ stages.Over
  done_is_over done =
      let whole : OperatesIn task a source operation (records ++ []) done.0 [] =
      subst (λ r. OperatesIn task a source operation r done.0 []) (sym (append-nil records)) done.1 in
      let left = (leads.left [] done.0).0 whole in
      has_more task a source run.stage left.0 leads.ready left.1

  pub over_is_whole : run.stage ≡ stages.Over → OperatesIn task a source operation records run.effect []
  over_is_whole over =
      let none : StageLeft task a source run.stage [] nothing = rw over (refl, refl) in
      subst (λ r. OperatesIn task a source operation r run.effect []) (append-nil records)
      ((leads.left [] run.effect).1 (nothing, none, sym (then_nothing run.effect)))

  pub whole : IsDone task a source operation records → IsComplete task a source operation records run.effect
  whole done =
      let over = done_is_over done in
      record {
        operates = over_is_whole over;
        alone = λ later other h.
            let left = (leads.left later other).0 h in
            let here : StageLeft task a source stages.Over later left.0 = subst (λ s. StageLeft task a source s later left.0) over left.1 in
            (sym here.1, left.2 ∙ (ap (and_then run.effect) here.0 ∙ then_nothing run.effect));
      }

  pub did_so_far : run.effect ≡ did a source operation records
  did_so_far =
      let here = follow_none run.stage _ leads.did in
      let nothing_more : and_then run.effect (stage_did a source run.stage []) ≡ run.effect =
      ap (and_then run.effect) (nothing_did a source run.stage) ∙ then_nothing run.effect in
      sym (ap (did a source operation) (sym (append-nil records)) ∙ (here ∙ nothing_more))

  -- stuck where an exchange was refused often enough
  pub stuck_at : (change : Change) (seen tries turns : ℕ) → run.stage ≡ stages.Exchange change seen tries → turns < 2 ^ 64
      → (((0 < tries) × (turns ≤ tries)) ↔ IsStuck turns task a source operation records)
  stuck_at change seen tries turns stage_is below =
      let counted : tries ≡ min (failed_tries records) (2 ^ 64 - 1) = subst (λ s. Counts s records) stage_is leads.counts in (
        λ h. (λ done. let over : stages.Exchange change seen tries ≡ stages.Over = sym stage_is ∙ done_is_over done in cc, omega arith, omega arith),
        λ h. let some : 0 < failed_tries records = h.1 in let enough : turns ≤ failed_tries records = h.2 in (omega arith, omega arith),
      )

  pub not_stuck_over : (turns : ℕ) → run.stage ≡ stages.Over → IsStuck turns task a source operation records → ⊥
  not_stuck_over turns over stuck = stuck.0 (run.effect, over_is_whole over)

  pub not_stuck_loading : (turns : ℕ) (of : Operation) → run.stage ≡ stages.Load of → IsStuck turns task a source operation records → ⊥
  not_stuck_loading turns of stage_is stuck =
      let none : failed_tries records ≡ 0 = subst (λ s. Counts s records) stage_is leads.counts in
      let some : 0 < failed_tries records = stuck.1 in omega arith

  -- no step is said exactly where the operation is over
  pub none_said : (turns : ℕ) (result : Option Step) → result ≡ stage_step run.access run.source run.stage
      → ¬ IsStuck turns task a source operation records
      → (IsNone result ↔ IsOperationOver turns task a source operation records)
  none_said turns result result_is going = (
    λ h. inl (run.effect, over_is_whole (none_is_over run.access run.source run.stage (subst (λ o. IsNone o) result_is h))),
    λ h. elim h [
      | inl done ↦ subst (λ o. IsNone o) (sym (result_is ∙ ap (λ s. stage_step run.access run.source s) (done_is_over done))) refl
      | inr stuck ↦ absurd (going stuck)
    ],
  )

-- one record more
pub leads_on : (task : ℕ) (a : Access) (source : Source) (operation : Operation) (records : List Record)
    (old new : OperationRun) (first : Record) (turn : Transition) (step : Step)
    → Leads task a source operation records old → Says old step
    → (IsReady old.access old.source old.stage → Turns task old.access old.source old.stage first turn)
    → new.access ≡ old.access → new.source ≡ old.source → new.effect ≡ and_then old.effect turn.effect
    → new.stage ≡ turn.stage
    → Leads task a source operation (records ++ first ∷ []) new
leads_on task a source operation records old new first turn step leads says turns access_is source_is effect_is stage_is =
    let old_ready : IsReady old.access old.source old.stage =
    subst (λ (x : Source). IsReady old.access x old.stage) (sym leads.in_source)
    (subst (λ (x : Access). IsReady x source old.stage) (sym leads.of_access) leads.ready) in
    let here : Turns task a source old.stage first turn =
    subst (λ (x : Source). Turns task a x old.stage first turn) leads.in_source
    (subst (λ (x : Access). Turns task x old.source old.stage first turn) leads.of_access (turns old_ready)) in
    let says_it = says_here task a source operation records old leads step says in
    record {
      of_access = access_is ∙ leads.of_access;
      in_source = source_is ∙ leads.in_source;
      left = λ later effect.
          let joined : (records ++ first ∷ []) ++ later ≡ records ++ (first ∷ later) = append_assoc records (first ∷ []) later in
          rw (joined, stage_is, effect_is) (
            λ h. let before = (leads.left (first ∷ later) effect).0 h in
                let after = (here.left later before.0).0 before.1 in
                (after.0, after.1, before.2 ∙ (ap (and_then old.effect) after.2 ∙ sym (then_assoc old.effect turn.effect after.0))),
            λ h. (leads.left (first ∷ later) effect).1 (
              and_then turn.effect h.0,
              (here.left later (and_then turn.effect h.0)).1 (h.0, h.1, refl),
              h.2 ∙ then_assoc old.effect turn.effect h.0,
            ),
          );
      did = subst (λ s. Follow s (λ later. did a source operation ((records ++ first ∷ []) ++ later) ≡ and_then new.effect (stage_did a source s later)))
          (sym stage_is)
          (follow_map turn.stage
          (λ later. stage_did a source old.stage (first ∷ later) ≡ and_then turn.effect (stage_did a source turn.stage later))
          (λ later. did a source operation ((records ++ first ∷ []) ++ later) ≡ and_then new.effect (stage_did a source turn.stage later))
          (λ later turned.
          ap (did a source operation) (append_assoc records (first ∷ []) later)
          ∙ (follow_on a source old.stage step (λ more. did a source operation (records ++ more) ≡ and_then old.effect (stage_did a source old.stage more)) (first ∷ later) says_it leads.did
          ∙ (ap (and_then old.effect) turned
          ∙ (sym (then_assoc old.effect turn.effect (stage_did a source turn.stage later))
          ∙ ap (λ e. and_then e (stage_did a source turn.stage later)) (sym effect_is)))))
          here.did);
      ready = subst (λ s. IsReady a source s) (sym stage_is) here.ready;
      counts = subst (λ s. Counts s (records ++ first ∷ [])) (sym stage_is) (here.counts records leads.counts);
    }

-- nothing was made yet
pub leads_first : (task : ℕ) (a : Access) (source : Source) (operation : Operation) (run : OperationRun)
    → run.access ≡ a → run.source ≡ source → run.effect ≡ nothing → run.stage ≡ stages.Load operation
    → Leads task a source operation [] run
leads_first task a source operation run access_is source_is effect_is stage_is = record {
  of_access = access_is;
  in_source = source_is;
  left = λ later effect. rw (stage_is, effect_is)
      (λ h. (effect, h, refl), λ h. subst (λ (e : Effect). OperatesIn task a source operation later e []) (sym h.2) h.1);
  did = subst (λ s. Follow s (λ later. did a source operation later ≡ and_then run.effect (stage_did a source s later))) (sym stage_is)
      (λ later. ap (λ e. and_then e (did a source operation later)) (sym effect_is));
  ready = subst (λ s. IsReady a source s) (sym stage_is) tt;
  counts = subst (λ s. Counts s []) (sym stage_is) refl;
}

-- what an option has, if it has something
pub if_some : {A : Type 0} (o : Option A) (P : A → Type 0) → ((x : A) → o ≡ Some x → P x) → IfSome o P
if_some None P h = tt
if_some (Some x) P h = h x refl
