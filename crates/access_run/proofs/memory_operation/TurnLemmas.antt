-- What each answer makes of what a stage has left.
use Rattle.std.proofs.Common.{◌≡◌, ◌↔◌, ◌∙◌, ◌+◌, ◌-◌, ◌^◌, ◌++◌, ◌∷◌, [], ℕ, Bool, true, false, List, Some, ap, arith, inl, inr, min, refl, subst, sym, if◌then◌else◌}
use Rattle.access_types.specs.Access.{Access}
use Rattle.access_run.specs.memory_operation.Effects.{and_then, change_did, changed, nothing, only_read, shown}
use Rattle.access_run.specs.memory_operation.Operations.{Exchanges}
use Rattle.access_run.specs.memory_operation.Stages.{Counts, Follow, IsReady, StageLeft, Turns, loaded_turn, shown_turn, stage_did, stage_step}
use Rattle.access_run.specs.memory_operation.Values.{is_wanted, new_value, with_value}
use Rattle.access_run.specs.memory_operation.Waits.{failed_tries}
use Rattle.access_run.specs.declared.memory_operation.effect.Effect.{Effect}
use Rattle.access_run.specs.declared.memory_operation.operation.Change.{Change}
use Rattle.access_run.specs.declared.memory_operation.operation.Operation.{Operation}
use Rattle.access_run.specs.declared.memory_operation.operation.Operation.TheVariants as operations
use Rattle.access_run.specs.declared.memory_operation.stage.OperationStage.{OperationStage}
use Rattle.access_run.specs.declared.memory_operation.stage.OperationStage.TheVariants as stages
use Rattle.access_run.specs.declared.memory_operation.stage.Transition.{Transition}
use Rattle.setup_access.specs.Parts.{made}
use Rattle.setup_access.specs.Values.{value_in}
use Rattle.setup_access.specs.declared.source.Source.{Source}
use Rattle.slot_table.specs.Answer.{Answers}
use Rattle.slot_table.specs.declared.records.Record.{Record}
use Rattle.slot_table.specs.declared.step.Answer.{Answer}
use Rattle.slot_table.specs.declared.step.Answer.TheVariants.{Flag, Word}
use Rattle.slot_table.specs.declared.step.Step.{Step}
use Rattle.slot_table.specs.declared.step.Step.TheVariants.{CellExchange, CellLoad}
use Rattle.access_run.proofs.memory_operation.EffectLemmas.{then_nothing, failed_none, failed_refused}

-- a choice by a test
pick : (b : Bool) (first other : Transition) (P : Transition → Type 0) → (b ≡ true → P first) → (b ≡ false → P other)
    → P (if b then first else other)
pick true first other P on off = on refl
pick false first other P on off = off refl

-- where a change that was shown a word is led, and what that did
record Shows (task : ℕ) (a : Access) (source : Source) (change : Change) (word tries : ℕ) (turn : Transition) : Type 0 where
  left : (later : List Record) (effect : Effect)
      → Exchanges task a source change word later effect []
      ↔ ((more : Effect) × StageLeft task a source turn.stage later more × (effect ≡ and_then turn.effect more))
  did : Follow turn.stage (λ later. and_then (shown a source change word) (change_did a source change later)
      ≡ and_then turn.effect (stage_did a source turn.stage later))
  ready : IsReady a source turn.stage
  counts : (records : List Record) → tries ≡ min (failed_tries records) (2 ^ 64 - 1) → Counts turn.stage records

module _ (task : ℕ) (a : Access) (source : Source) (change : Change) where
  -- a value that isn't wanted ends the change
  pub ends_now : (seen : ℕ) (later : List Record) (effect : Effect) (rest : List Record)
      → is_wanted a.size change (value_in a source seen) ≡ false
      → (Exchanges task a source change seen later effect rest
      ↔ ((effect ≡ only_read (value_in a source seen)) × (rest ≡ later)))
  ends_now seen [] effect rest fails = rw fails (λ h. h, λ h. h)
  ends_now seen (first ∷ later) effect rest fails = rw fails (λ h. h, λ h. h)

  -- one that is wanted goes on
  pub none_end : (seen : ℕ) (effect : Effect) (rest : List Record)
      → is_wanted a.size change (value_in a source seen) ≡ true
      → Exchanges task a source change seen [] effect rest → ⊥
  none_end seen effect rest holds h = rw holds at h

  shows_on : (word tries : ℕ) → is_wanted a.size change (value_in a source word) ≡ true
      → Shows task a source change word tries (record { stage = stages.Exchange change word tries; effect = nothing })
  shows_on word tries holds = record {
    left = λ later effect. (
      λ h. (effect, h, refl),
      λ h. subst (λ (e : Effect). Exchanges task a source change word later e []) (sym h.2) h.1,
    );
    did = λ later. rw holds refl;
    ready = holds;
    counts = λ records is. is;
  }

  shows_off : (word tries : ℕ) → is_wanted a.size change (value_in a source word) ≡ false
      → Shows task a source change word tries (record { stage = stages.Over; effect = only_read (value_in a source word) })
  shows_off word tries fails = record {
    left = λ later effect. (
      λ h. let over = (ends_now word later effect [] fails).0 h in (nothing, (refl, over.1), over.0),
      λ h. (ends_now word later effect [] fails).1
          (h.2 ∙ ap (and_then (only_read (value_in a source word))) h.1.0, h.1.1),
    );
    did = rw fails refl;
    ready = tt;
    counts = λ records is. tt;
  }

  shows : (word tries : ℕ) → Shows task a source change word tries (shown_turn a source change word tries)
  shows word tries =
      pick (is_wanted a.size change (value_in a source word))
      (record { stage = stages.Exchange change word tries; effect = nothing })
      (record { stage = stages.Over; effect = only_read (value_in a source word) })
      (λ turn. Shows task a source change word tries turn) (shows_on word tries) (shows_off word tries)

module _ (task : ℕ) (a : Access) (source : Source) where
  -- the cell was loaded
  load_turns : (operation : Operation) (word : ℕ)
      → Turns task a source (stages.Load operation) (made task (CellLoad source.cell) (Word word)) (loaded_turn a source operation word)
  load_turns operations.Load word = record {
    left = λ later effect. (
      λ h. (nothing, (refl, h.2.1), h.2.0),
      λ h. (refl, refl, (h.2 ∙ ap (and_then (only_read (value_in a source word))) h.1.0, h.1.1)),
    );
    did = refl;
    ready = tt;
    counts = λ records is. tt;
  }
  load_turns (operations.Add amount) word = record {
    left = λ later effect. (λ h. h.2, λ h. (refl, refl, h));
    did = λ later. refl;
    ready = tt;
    counts = λ records is. failed_none records (made task (CellLoad source.cell) (Word word)) refl;
  }
  load_turns (operations.Change change) word =
      let to = shows task a source change word 0 in
      record {
        left = λ later effect. (
          λ h. (to.left later effect).0 h.2,
          λ h. (refl, refl, (to.left later effect).1 h),
        );
        did = to.did;
        ready = to.ready;
        counts = λ records is. to.counts (records ++ made task (CellLoad source.cell) (Word word) ∷ [])
            (rw (failed_none records (made task (CellLoad source.cell) (Word word)) refl) refl);
      }

  -- the step of an exchange
  abbrev exchange : Change → ℕ → Step
  exchange change seen = CellExchange source.cell seen
      (with_value a source seen (new_value a.size change (value_in a source seen)))

  -- it was accepted
  accepted_turns : (change : Change) (seen tries : ℕ) → is_wanted a.size change (value_in a source seen) ≡ true
      → Turns task a source (stages.Exchange change seen tries) (made task (exchange change seen) (Flag true))
      (record { stage = stages.Over; effect = changed a.size change (value_in a source seen) })
  accepted_turns change seen tries holds = record {
    left = λ later effect. rw holds (
      λ h. (nothing, (refl, h.1.1), h.1.0 ∙ sym (then_nothing (changed a.size change (value_in a source seen)))),
      λ h. (
        (refl, refl),
        (
          h.2 ∙ (ap (and_then (changed a.size change (value_in a source seen))) h.1.0
              ∙ then_nothing (changed a.size change (value_in a source seen))),
          h.1.1,
        ),
      ),
    );
    did = refl;
    ready = tt;
    counts = λ records is. tt;
  }

  -- it was refused
  refused_turns : (change : Change) (seen tries word next : ℕ) → is_wanted a.size change (value_in a source seen) ≡ true
      → next ≡ min (tries + 1) (2 ^ 64 - 1)
      → Turns task a source (stages.Exchange change seen tries) (made task (exchange change seen) (Word word))
      (shown_turn a source change word next)
  refused_turns change seen tries word next holds counted =
      let to = shows task a source change word next in
      record {
        left = λ later effect. rw holds (
          λ h. (to.left later effect).0 h.1,
          λ h. ((refl, refl), (to.left later effect).1 h),
        );
        did = to.did;
        ready = to.ready;
        counts = λ records is. to.counts (records ++ made task (exchange change seen) (Word word) ∷ [])
            (rw (failed_refused records (made task (exchange change seen) (Word word)) refl)
            (let tries_are : tries ≡ min (failed_tries records) (2 ^ 64 - 1) = is in omega arith));
      }

-- a step that is there is the one
some_is : (first second : Step) → Some second ≡ Some first → first ≡ second
some_is first second is = cc

module _ (task : ℕ) (a : Access) (source : Source) (stage : OperationStage) (step : Step) (answer : Answer) (result : Transition) where
  pub load_on : (operation : Operation) (word : ℕ) → stage ≡ stages.Load operation → answer ≡ Word word
      → result ≡ loaded_turn a source operation word → stage_step a source stage ≡ Some step
      → Turns task a source stage (made task step answer) result
  load_on operation word stage_is answer_is result_is says =
      let step_is : step ≡ CellLoad source.cell =
      some_is step (CellLoad source.cell) (subst (λ s. stage_step a source s ≡ Some step) stage_is says) in
      rw (stage_is, answer_is, result_is, step_is) (load_turns task a source operation word)

  -- the step of an exchange is that of its stage
  exchange_step : (change : Change) (seen tries : ℕ) (other : Step) → stage ≡ stages.Exchange change seen tries
      → stage_step a source stage ≡ Some other → other ≡ exchange task a source change seen
  exchange_step change seen tries other stage_is says =
      some_is other (exchange task a source change seen) (subst (λ s. stage_step a source s ≡ Some other) stage_is says)

  pub accepted_on : (change : Change) (seen tries : ℕ) (accepted : Bool) → stage ≡ stages.Exchange change seen tries → answer ≡ Flag accepted
      → result ≡ record { stage = stages.Over; effect = changed a.size change (value_in a source seen) }
      → ((other : Step) × (stage_step a source stage ≡ Some other) × Answers other answer)
      → stage_step a source stage ≡ Some step → IsReady a source stage
      → Turns task a source stage (made task step answer) result
  accepted_on change seen tries accepted stage_is answer_is result_is kind says ready =
      let step_is = exchange_step change seen tries step stage_is says in
      let other_is = exchange_step change seen tries kind.0 stage_is kind.1 in
      let answers : Answers (exchange task a source change seen) (Flag accepted) =
      subst (λ x. Answers (exchange task a source change seen) x) answer_is (subst (λ s. Answers s answer) other_is kind.2) in
      let accepted_is : Flag accepted ≡ Flag true = elim answers [ inl is ↦ is | inr other ↦ absurd other ] in
      let ready_is : is_wanted a.size change (value_in a source seen) ≡ true = subst (λ s. IsReady a source s) stage_is ready in
      rw (stage_is, answer_is, accepted_is, result_is, step_is) (accepted_turns task a source change seen tries ready_is)

  pub refused_on : (change : Change) (seen tries word next : ℕ) → stage ≡ stages.Exchange change seen tries → answer ≡ Word word
      → result ≡ shown_turn a source change word next → next ≡ min (tries + 1) (2 ^ 64 - 1)
      → stage_step a source stage ≡ Some step → IsReady a source stage
      → Turns task a source stage (made task step answer) result
  refused_on change seen tries word next stage_is answer_is result_is counted says ready =
      let step_is = exchange_step change seen tries step stage_is says in
      let ready_is : is_wanted a.size change (value_in a source seen) ≡ true = subst (λ s. IsReady a source s) stage_is ready in
      rw (stage_is, answer_is, result_is, step_is) (refused_turns task a source change seen tries word next ready_is counted)
