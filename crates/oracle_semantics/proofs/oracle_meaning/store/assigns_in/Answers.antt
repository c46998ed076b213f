-- A mark comes before and after the assignment inside data_race( ), and none outside of it.
use Rattle.std.proofs.Common.{subst}
use Rattle.std.proofs.lemmas.Result.{IfOk-weaker}
use Rattle.access_types.specs.declared.history.Happening.TheVariants as happenings
use Rattle.access_types.specs.declared.history.Mark.TheVariants as marks
use Rattle.litmus_semantics.specs.Assignments.{Assigns}
use Rattle.litmus_semantics.specs.Task.{Progress}
use Rattle.litmus_syntax.specs.Views.{assignment_of}
use Rattle.oracle_semantics.proofs.oracle_meaning.StepLemmas.{once_if}
use Rattle.oracle_semantics.specs.oracle_meaning.Walks.{stands}
use Rattle.oracle_semantics.proofs.oracle_meaning.store.assigns_in.Goals as goal

pub returns-clause-means : goal.returns-clause-means
returns-clause-means c = λ s is.
    let a = assignment_of c.args.assignment.now in
    let disables = once_if c.args.data_race (happenings.Mark marks.Disable) in
    let enables = once_if c.args.data_race (happenings.Mark marks.Enable) in
    let silent = rw (c.one_if-count.ensures, disables) at c.in_ok-silent.ensures.comes in
    let last = rw (c.one_if-count.ensures, enables) at c.marks-2.ensures.comes in
    let assigned = subst (λ (p : Progress). Assigns s c.args.site a p (stands c.in_ok-made.made)) silent (c.in_ok-made.ensures.means s is) in
    IfOk-weaker c.marks-2.result _ _ (λ after comes. (stands c.in_ok-made.made, assigned, comes)) last
