-- The line stands behind nothing.
use Rattle.std.proofs.Common.{◌∙◌, ◌++◌, ℕ, List, ap}
use Rattle.litmus_syntax.specs.Views.{program_of}
use Rattle.search_formats.proofs.herd.condition.Goals as goal
use Rattle.search_formats.specs.Herd.{condition}

pub returns : goal.returns
unfolding condition
returns c =
    ap (λ bytes. bytes.items) c.into_bytes.ensures.value
    ∙ (c.in_ok-append_condition.ensures ∙ ap (λ (text : List ℕ). text ++ condition (program_of c.args.program.now)) c.new-text.ensures.bytes)
