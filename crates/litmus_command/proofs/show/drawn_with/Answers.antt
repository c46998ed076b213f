-- what is drawn is that of the trace's picture
use Rattle.std.proofs.Common.{inl, inr, refl}
use Rattle.std.proofs.lemmas.Result.{IfOk-weaker}
use Rattle.litmus_command.proofs.ResultLemmas.{map_err}
use Rattle.litmus_command.proofs.show.drawn_with.Goals as goal

pub returns-clause-drawn : goal.returns-clause-drawn
returns-clause-drawn c = IfOk-weaker c.drawn_text.result _ _
    (λ written is. record { picture = c.in_ok-picture.picture; drawn = c.in_ok-picture.ensures.drawn; with_source = is })
    c.drawn_text.ensures.drawn

pub returns-clause-undrawn : goal.returns-clause-undrawn
returns-clause-undrawn c = map_err c.drawn_text.result
    (λ why is. inr (record { picture = c.in_ok-picture.picture; drawn = c.in_ok-picture.ensures.drawn; unsuited = is }))
    c.drawn_text.ensures.undrawn
