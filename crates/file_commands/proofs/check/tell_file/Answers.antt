-- what was told is what is to be told of the file
use Rattle.std.proofs.Common.{ap, subst}
use Rattle.diagnostics.specs.check_output.Output.{IsMadeOf}
use Rattle.diagnostics.specs.declared.check_output.file.Comes.{Comes}
use Rattle.file_commands.proofs.CheckLemmas.{told_misplaced, told_read, told_refused}
use Rattle.file_commands.specs.Desks.{DeskState}
use Rattle.file_commands.proofs.check.tell_file.Goals as goal

pub returns-in-Read-clause-told : goal.returns-in-Read-clause-told
returns-in-Read-clause-told g c = λ files name text check made.
    told_read files name text check c.in-Read.text c.in-Read.warnings _ _
    (subst (λ (it : Comes). IsMadeOf files name check it) c.in-Read.is made) c.warn.ensures.told

pub returns-in-Misplaced-clause-told : goal.returns-in-Misplaced-clause-told
returns-in-Misplaced-clause-told g c = λ files name text check made.
    told_misplaced files name text check c.in-Misplaced.bytes _ _
    (subst (λ (it : Comes). IsMadeOf files name check it) c.in-Misplaced.is made) (ap (λ (at : DeskState). at.told) c.tell.ensures.told)

pub returns-clause-told : goal.returns-clause-told
returns-clause-told g c = λ files name text check made.
    told_refused files name text check c.in-Refused.error c.in-Refused.bytes _ _
    (subst (λ (it : Comes). IsMadeOf files name check it) c.in-Refused.is made)
    (ap (λ (at : DeskState). at.told) c.tell-in-Refused.ensures.told)
