-- The line of one state more stands behind the others.
use Rattle.std.proofs.Common.{◌∙◌, refl}
use Rattle.search_formats.proofs.Taken.{lines_more}
use Rattle.search_formats.proofs.herd.state_lines.Goals as goal
use Rattle.search_formats.specs.Herd.{state_line}
use Rattle.search_text.specs.Times.{Sighting}

pub loop-place-preserved : goal.loop-place-preserved
loop-place-preserved c =
    c.in_ok-add_state-in-Some.ensures
    ∙ lines_more (λ (sighting : Sighting). state_line sighting.0) c.args.states.now c.loop-place.place
    (c.in-Some.state.now, c.in-Some._seen.now) c.loop-place.text.items _ c.loop-place.invariant refl c.in-Some.ensures
