-- Each answer leaves what the lemma of its stage says.
use Rattle.std.proofs.Common.{refl}
use Rattle.access_run.proofs.memory_operation.TurnLemmas.{accepted_on, load_on, refused_on}
use Rattle.access_run.proofs.memory_operation.stage.OperationStage.answer.Goals as goal

pub returns-in-Load-Word : goal.returns-in-Load-Word
returns-in-Load-Word c = λ task step says ready.
    load_on task c.args.access.now c.args.source c.args.self step c.args.answer c.loaded.result
    c.in-Load-Word.operation c.in-Load-Word.word c.in-Load-Word.is-0 c.in-Load-Word.is-1 c.loaded.ensures says

pub returns-in-Exchange-Flag : goal.returns-in-Exchange-Flag
returns-in-Exchange-Flag c = λ task step says ready.
    accepted_on task c.args.access.now c.args.source c.args.self step c.args.answer c.over.result
    c.in-Exchange-Flag.change c.in-Exchange-Flag.seen c.in-Exchange-Flag.tries-0 c.in-Exchange-Flag.field-0-1
    c.in-Exchange-Flag.is-0 c.in-Exchange-Flag.is-1
    (rw (c.over.ensures, c.changed.ensures, c.size.ensures.value, c.value_in-old.ensures) refl)
    c.requires says ready

pub returns-in-Exchange-Word : goal.returns-in-Exchange-Word
returns-in-Exchange-Word c = λ task step says ready.
    refused_on task c.args.access.now c.args.source c.args.self step c.args.answer c.shown.result _ _ _ _ _
    c.in-Exchange-Word.is-0 c.in-Exchange-Word.is-1 c.shown.ensures c.saturating_add.ensures says ready
