-- One line more.
use Rattle.std.proofs.Common.{◌≡◌, ◌++◌, ◌∙◌, ℕ, List, ap}
use Rattle.source_places.proofs.deadlocks.LineLemmas.{lines_step}
use Rattle.source_places.proofs.deadlocks.lines.wait_lines.Goals as goal

pub loop-wait-preserved : goal.loop-wait-preserved
loop-wait-preserved c =
    let sources = c.args.sources in
    let line = c.in_ok-line.line.items in
    let said = c.loop-wait.text.items in
    let added : c.extend_from_slice.new.self.items ≡ said ++ line =
    c.in_ok-extend_from_slice.ensures.items ∙ ap (λ (more : List ℕ). said ++ more) c.deref.ensures.value in
    lines_step sources.variables.now sources.file.now sources.text.now c.args.waits.now c.loop-wait.wait-index _ said line
    c.extend_from_slice.new.self.items c.loop-wait-test.true c.loop-wait.invariant c.in_ok-line.ensures added
