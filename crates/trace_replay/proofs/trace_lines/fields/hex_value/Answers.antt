-- the digits by their bytes
use Rattle.std.proofs.Common.{arith}
use Rattle.trace_replay.proofs.trace_lines.Digits.{hex_decimal, hex_letter, hex_none}
use Rattle.trace_replay.proofs.trace_lines.fields.hex_value.Goals as goal

pub returns-in-48-to-57-clause-value : goal.returns-in-48-to-57-clause-value
returns-in-48-to-57-clause-value c = hex_decimal c.args.digit (omega arith) (omega arith)

pub returns-in-97-to-102-clause-value : goal.returns-in-97-to-102-clause-value
returns-in-97-to-102-clause-value c = hex_letter c.args.digit (omega arith) (omega arith)

pub returns-in_default-clause-value : goal.returns-in_default-clause-value
returns-in_default-clause-value c = hex_none c.args.digit (λ h. omega arith) (λ h. omega arith)

pub returns-in_default-2-clause-value : goal.returns-in_default-2-clause-value
returns-in_default-2-clause-value c = hex_none c.args.digit (λ h. omega arith) (λ h. omega arith)

pub returns-in_default-3-clause-value : goal.returns-in_default-3-clause-value
returns-in_default-3-clause-value c = hex_none c.args.digit (λ h. omega arith) (λ h. omega arith)
