-- what came of the file is made of its check
use Rattle.std.proofs.Common.{ℕ, List, subst}
use Rattle.diagnostics.proofs.check_output.file.file_comes.Goals as goal
use Rattle.diagnostics.specs.text_check.Check.{IsCheckOf}

pub returns : goal.returns
returns c = (
  c.in-Ok.check,
  subst (λ (name : List ℕ). IsCheckOf name c.args.text.now c.args.settings.now c.in-Ok.check) c.as_bytes.ensures.value
      c.in-Ok.ensures.check,
  c.in_ok-comes.ensures,
)
