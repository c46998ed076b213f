-- Machines of one key have the same accesses in progress.
use Rattle.std.proofs.Common.{◌≡◌, ◌∙◌, ◌++◌, List, Option, ap, sym}
use Rattle.std.specs.Option.{option_to_list}
use Rattle.setup_access.specs.Shown.{begun_at, begun_of, closing_at, scoped_of}
use Rattle.setup_access.specs.declared.begun.Begun.{Begun}
use Rattle.setup_access.specs.declared.checker.Checker.{Checker}
use Rattle.setup_access.specs.declared.stage.CheckStage.{CheckStage}
use Rattle.task_run.specs.Accesses.{begun_in, in_progress_of}
use Rattle.task_run.specs.Keys.{AreInOnePart, HaveOneKey}
use Rattle.task_run.specs.declared.machine.Machine.{Machine}
use Rattle.task_run.specs.declared.run.TaskRun.{TaskRun}
use Rattle.task_run.specs.declared.stage.TaskStage.{TaskStage}
use Rattle.task_run.specs.declared.stage.TaskStage.TheVariants as stages

begun_same : (one other : Checker) → one.stage ≡ other.stage → one.last ≡ other.last → begun_of one ≡ begun_of other
begun_same one other stage last =
    ap (λ (x : CheckStage). begun_at x one.last) stage ∙ ap (λ (o : Option Begun). begun_at other.stage o) last

key_begun : (one other : Machine) (stage also : TaskStage) → one.checker.stage ≡ other.checker.stage → AreInOnePart one other stage also
    → begun_in one.checker stage ≡ begun_in other.checker also
key_begun one other stages.Over also checks part = ap (begun_in other.checker) (sym part)
key_begun one other stages.Stopped also checks part = ap (begun_in other.checker) (sym part)
key_begun one other (stages.Making access kept) also checks part =
    begun_same one.checker other.checker checks part.5 ∙ ap (begun_in other.checker) (sym part.2)
key_begun one other stages.Opening also checks part =
    begun_same one.checker other.checker checks part.1 ∙ ap (begun_in other.checker) (sym part.0)
key_begun one other stages.Closing also checks part =
    ap (λ (x : CheckStage). closing_at x) checks ∙ ap (begun_in other.checker) (sym part)
key_begun one other (stages.Locking wait variable) also checks part = ap (begun_in other.checker) (sym part)
key_begun one other (stages.Unlocking variable) also checks part = ap (begun_in other.checker) (sym part)

pub key_accesses : (one other : TaskRun) → HaveOneKey one other → in_progress_of one ≡ in_progress_of other
key_accesses one other same =
    ap (λ (l : List Begun). l ++ option_to_list (begun_in one.machine.checker one.stage)) same.scopes
    ∙ ap (λ (o : Option Begun). scoped_of other.machine.checker ++ option_to_list o)
    (key_begun one.machine other.machine one.stage other.stage same.checks same.part)
