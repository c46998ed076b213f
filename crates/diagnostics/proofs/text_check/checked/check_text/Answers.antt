-- By what the parser says of a text that it reads, or refuses.
use Rattle.diagnostics.proofs.text_check.WhatComes.{refusal_check, told_check, told_stops}
use Rattle.diagnostics.proofs.text_check.checked.check_text.Goals as goal

pub returns-in-Ok-clause-check : goal.returns-in-Ok-clause-check
returns-in-Ok-clause-check c =
    told_check c.args.name.now c.args.text.now c.args.settings.now c.in-Ok.reading.program c.told.result
    (record { spelled = c.in-Ok.ensures.spelled; limits = c.in-Ok.ensures.keeps_limits }) c.told.ensures.told

pub returns-in-Ok-clause-stops : goal.returns-in-Ok-clause-stops
returns-in-Ok-clause-stops c =
    told_stops c.args.name.now c.args.text.now c.args.settings.now c.in-Ok.reading.program c.told.result
    (record { spelled = c.in-Ok.ensures.spelled; limits = c.in-Ok.ensures.keeps_limits }) c.told.ensures.stops

pub returns-in-Err-clause-check : goal.returns-in-Err-clause-check
returns-in-Err-clause-check c =
    refusal_check c.args.name.now c.args.text.now c.args.settings.now c.in-Err.refusal.error c.refused.result
    (λ program spelled. (c.in-Err.ensures.complete program spelled).1) c.refused.ensures.refusal
