-- Its variables have names of their own, so places that fit lay each at a multiple of its size.
use Rattle.std.proofs.Common.{◌<◌, ◌≡◌, arith, length, subst, sym}
use Rattle.litmus_semantics.specs.RunOfProgram.{setting_of}
use Rattle.litmus_semantics.specs.Task as meaning
use Rattle.prepared_program.specs.program_layout.Aligned.{AreAligned}
use Rattle.prepared_program.specs.program_layout.Places.{places_of}
use Rattle.task_plan.proofs.task_laws.PlacedLemmas.{aligned_placed}
use Rattle.task_plan.proofs.task_laws.spelled.law_variables_of_programs_are_placed.Goals as goal

pub returns : goal.returns
returns c =
    λ program places limits fit s number below is.
    let aligned = c.law_variables_are_aligned.ensures program.variables places fit limits.names limits.variables in
    let tasks = limits.tasks in
    let small : number < 16 = omega (arith, below, tasks) in
    let at : setting_of program (places_of places) number ≡ s.text = sym is in
    aligned_placed s (subst (λ (text : meaning.Setting). text.task < 16) at small)
    (subst (λ (text : meaning.Setting). AreAligned text.places text.variables) at aligned)
