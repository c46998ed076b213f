-- the line is told
use Rattle.std.proofs.Common.{List, inl, inr, ℕ}
use Rattle.join_command.proofs.JoinLemmas.{said_so}
use Rattle.join_command.specs.Told.{IsFaultLine}
use Rattle.join_command.proofs.told.no_whole.Goals as goal

pub returns : goal.returns
returns c =
    let files = c.args.files.now in
    let parts = c.args.parts.now in
    elim (said_so (λ (text : List ℕ). IsFaultLine files parts c.args.fault text) c.fault_line.result c.said.result c.fault_line.ensures c.said.ensures) [
      | inl told ↦ inl (record { fault = c.args.fault; is_fault = c.requires.fault; line = told.0; line_is = told.1; told = told.2 })
      | inr out ↦ inr out
    ]
