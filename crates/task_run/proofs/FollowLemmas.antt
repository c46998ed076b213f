-- What is over at once: how it goes on from where the task stood.
use Rattle.std.proofs.Common.{◌≡◌, ◌≢◌, ◌↔◌, ◌∙◌, ℕ, Bool, List, [], ◌∷◌, None, Option, Some, inl, inr, refl, subst, sym}
use Rattle.access_types.specs.declared.history.Happening.TheVariants as happenings
use Rattle.access_types.specs.declared.history.Mark.TheVariants as marks
use Rattle.litmus_semantics.specs.Expressions.{loading_value}
use Rattle.litmus_semantics.specs.Meaning.{Chooses}
use Rattle.litmus_semantics.specs.Values.{sign_extended}
use Rattle.litmus_syntax.specs.Tree.{Loading}
use Rattle.access_run.specs.declared.memory_operation.effect.Effect.{Effect}
use Rattle.slot_table.specs.declared.records.Record.{Record}
use Rattle.task_plan.specs.Follow.{Taker, assigned, condition, goes_on, loaded_by, marks_next, nobody, so_often, to_register}
use Rattle.task_run.proofs.ToldLemmas.{computes_both, does_now, marks_more, marks_now, registers_more}
use Rattle.task_run.specs.Due.{EndsAtOnce, PartBegins}
use Rattle.task_run.specs.Part.{FollowLeft, TakerLeft, enabled}
use Rattle.task_run.specs.Stands.{Stands, StandsBy}
use Rattle.task_run.specs.Position.{ComputesBy, nothing}
use Rattle.task_run.specs.declared.machine.Machine.{Machine}
use Rattle.task_run.specs.declared.stage.TaskStage.{TaskStage}
use Rattle.task_plan.proofs.StepsLemmas.{through}
use Rattle.task_plan.specs.Left.{BodyLeft, Same, WalkLeft}
use Rattle.task_plan.specs.declared.walk.Walk.{Walk}
use Rattle.program_order.specs.Standing.{Setting, Standing, doing, registered}
use Rattle.program_order.specs.WrittenOrder.{Steps}

-- what is left is the same in another walk that is the same
pub walk_as : (s : Setting) (walk other : Walk) → other ≡ walk → (before : Standing) (records : List Record) (after : Standing) (rest : List Record)
    → WalkLeft s walk before records after rest ↔ WalkLeft s other before records after rest
walk_as s walk other is before records after rest =
    subst (λ (w : Walk). WalkLeft s walk before records after rest ↔ WalkLeft s w before records after rest) (sym is) (λ h. h, λ h. h)

-- only where the task stands has changed
pub ends_standing : (s : Setting) (P : Steps) (before now : List Record → Standing) (walk : Walk) (machine : Machine) → machine.walk ≡ walk
    → ((later : List Record) (end : Standing) → P (before later) later end [] ↔ WalkLeft s walk (now later) later end [])
    → StandsBy s now machine → ComputesBy before now → EndsAtOnce s P before machine
ends_standing s P before now walk machine is same stands computes =
    (now, stands, λ later end. through (same later end) (walk_as s walk machine.walk is (now later) later end []), computes)

-- a part that goes on as another is
pub begins_as : (s : Setting) (P Q : Steps) (old new : Machine) (stage : Option TaskStage)
    → ((before : List Record → Standing) → StandsBy s before old → (later : List Record) (end : Standing) → P (before later) later end [] ↔ Q (before later) later end [])
    → PartBegins s Q old new stage → PartBegins s P old new stage
begins_as s P Q old new None same begins = λ before stands. let goes = begins before stands in
    (goes.0, goes.1, λ later end. through (same before stands later end) (goes.2 later end), goes.3)
begins_as s P Q old new (Some stage) same begins = λ before stands. let goes = begins before stands in
    (goes.0, goes.1, goes.2, λ later end. through (same before stands later end) (goes.3 later end), goes.4)

-- whatever is over at once goes on as what follows on it
pub ends_on : (s : Setting) (P Q : Steps) (before now : List Record → Standing) (machine : Machine)
    → ((later : List Record) (end : Standing) → P (before later) later end [] ↔ Q (now later) later end []) → ComputesBy before now
    → EndsAtOnce s Q now machine → EndsAtOnce s P before machine
ends_on s P Q before now machine same computes ends =
    (ends.0, ends.1, λ later end. through (same later end) (ends.2 later end), λ later. computes_both (computes later) (ends.3 later))

-- what is chosen where a value is 0, and where it isn't
pub chosen_holds : (value : ℕ) (P Q : Type 0) → value ≢ 0 → Chooses value P Q ↔ P
chosen_holds value P Q holds = (
  λ h. elim h [ inl p ↦ p.1 | inr q ↦ absurd (holds q.0) ],
  λ p. inl (holds, p),
)

pub chosen_fails : (value : ℕ) (P Q : Type 0) → value ≡ 0 → Chooses value P Q ↔ Q
chosen_fails value P Q fails = (
  λ h. elim h [ inl p ↦ absurd (p.0 fails) | inr q ↦ q.1 ],
  λ q. inr (fails, q),
)

module _ (s : Setting) (walk : Walk) (before : List Record → Standing) (machine : Machine) where
  -- nobody takes a value, or nothing follows
  pub takes_nobody : (loaded : ℕ) → machine.walk ≡ walk → StandsBy s before machine → EndsAtOnce s (TakerLeft s walk nobody loaded) before machine
  takes_nobody loaded is stands =
      ends_standing s (TakerLeft s walk nobody loaded) before before walk machine is (λ later end. (λ h. h, λ h. h)) stands (λ later. nothing)

  pub follows_nothing : (effect : Effect) → machine.walk ≡ walk → StandsBy s before machine → EndsAtOnce s (FollowLeft s walk goes_on effect) before machine
  follows_nothing effect is stands =
      ends_standing s (FollowLeft s walk goes_on effect) before before walk machine is (λ later end. (λ h. h, λ h. h)) stands (λ later. nothing)

  pub follows_mark : (effect : Effect) → machine.walk ≡ walk
      → ((later : List Record) → Stands s (doing (before later) later (happenings.Mark (marks.Next 1) ∷ [])) machine)
      → EndsAtOnce s (FollowLeft s walk marks_next effect) before machine
  follows_mark effect is stands = ends_standing s (FollowLeft s walk marks_next effect) before
      (λ later. doing (before later) later (happenings.Mark (marks.Next 1) ∷ [])) walk machine is (λ later end. (λ h. h, λ h. h)) stands
      (λ later. does_now later (before later) (happenings.Mark (marks.Next 1) ∷ []) (refl, tt))

  pub follows_assignment : (data_race : Bool) (effect : Effect) → machine.walk ≡ walk
      → ((later : List Record) → Stands s (enabled (so_often data_race) (before later) later) machine)
      → EndsAtOnce s (FollowLeft s walk (assigned data_race) effect) before machine
  follows_assignment data_race effect is stands = ends_standing s (FollowLeft s walk (assigned data_race) effect) before
      (λ later. enabled (so_often data_race) (before later) later) walk machine is (λ later end. (λ h. h, λ h. h)) stands
      (λ later. marks_now later (before later) (so_often data_race) marks.Enable)

  -- a load's value is taken
  pub follows_load : (size data_races : ℕ) (taker : Taker) (effect : Effect) (old : ℕ) → effect.read ≡ Some old
      → EndsAtOnce s (TakerLeft s walk taker (sign_extended size old)) (λ later. enabled data_races (before later) later) machine
      → EndsAtOnce s (FollowLeft s walk (loaded_by size data_races taker) effect) before machine
  follows_load size data_races taker effect old read ends =
      ends_on s (FollowLeft s walk (loaded_by size data_races taker) effect) (TakerLeft s walk taker (sign_extended size old)) before
      (λ later. enabled data_races (before later) later) machine
      (λ later end. (
        λ h. let same : h.0 ≡ old = let both : Some h.0 ≡ Some old = sym h.1 ∙ read in cc in
            subst (λ (n : ℕ). TakerLeft s walk taker (sign_extended size n) (enabled data_races (before later) later) later end []) same h.2,
        λ t. (old, read, t),
      )) (λ later. marks_now later (before later) data_races marks.Enable) ends

  -- a register takes it
  pub takes_register : (register : ℕ) (value : Loading) (data_race : Bool) (loaded given : ℕ)
      → ((later : List Record) → given ≡ loading_value (before later).progress.registers loaded value) → machine.walk ≡ walk
      → ((later : List Record) → Stands s (enabled (so_often data_race) (registered (before later) later register given) later) machine)
      → EndsAtOnce s (TakerLeft s walk (to_register register value data_race) loaded) before machine
  takes_register register value data_race loaded given gives is stands =
      ends_standing s (TakerLeft s walk (to_register register value data_race) loaded) before
      (λ later. enabled (so_often data_race) (registered (before later) later register given) later) walk machine is
      (λ later end. subst (λ (g : ℕ). TakerLeft s walk (to_register register value data_race) loaded (before later) later end []
      ↔ WalkLeft s walk (enabled (so_often data_race) (registered (before later) later register g) later) later end []) (sym (gives later)) (λ h. h, λ h. h))
      stands (λ later. marks_more later (before later) _ (so_often data_race) marks.Enable (registers_more later (before later) _ register given nothing))

  -- a condition takes it
  pub takes_holding : (value : Loading) (loaded : ℕ) → ((later : List Record) → loading_value (before later).progress.registers loaded value ≢ 0)
      → Same (BodyLeft s walk) (WalkLeft s machine.walk) → StandsBy s before machine → EndsAtOnce s (TakerLeft s walk (condition value) loaded) before machine
  takes_holding value loaded holds chosen stands = (
    before,
    stands,
    λ later end. through (chosen_holds (loading_value (before later).progress.registers loaded value) _ _ (holds later)) (chosen (before later) later end []),
    λ later. nothing,
  )

  pub takes_failing : (value : Loading) (loaded : ℕ) → ((later : List Record) → loading_value (before later).progress.registers loaded value ≡ 0)
      → machine.walk ≡ walk → StandsBy s before machine → EndsAtOnce s (TakerLeft s walk (condition value) loaded) before machine
  takes_failing value loaded fails is stands =
      ends_standing s (TakerLeft s walk (condition value) loaded) before before walk machine is
      (λ later end. chosen_fails (loading_value (before later).progress.registers loaded value) _ _ (fails later)) stands
      (λ later. nothing)
