-- The grammar of processes. Each relation is between symbols, what they spell at their front, and the symbols left
-- behind it.
use Rattle.std.specs.Prelude.{◌<◌, ◌++◌, ℕ, suc, List, [], ◌∷◌, codes}
use Rattle.std.specs.Fmt.{decimal}
use Rattle.litmus_lex.specs.declared.sign.Sign.TheVariants.{OpenBrace, OpenParen}
use Rattle.litmus_syntax.specs.Tree as tree
use Rattle.litmus_lex.specs.Words.{Symbol, identifier, sign}
use Rattle.litmus_syntax.specs.Limits.{BodyKeepsLimits, tasks_limit}
use Rattle.litmus_expression.specs.Names.{Names, Parameter}
use Rattle.litmus_body.specs.Statements.{Statements}
use Rattle.litmus_parse.specs.ProcessHeaders.{Parameters, Process}

-- the name of a process
abbrev pub process_name : ℕ → List ℕ
process_name task = codes "P" ++ decimal task

-- the process of a number, which keeps the limits
pub data IsProcess (task : ℕ) (before : Names) : List Symbol → Process → List Symbol → (after : Names) → Type 0 where
  process : {after registers : Names} {parameters : List Parameter} {symbols middle rest : List Symbol} {body : tree.Block}
      → Parameters before symbols parameters (sign OpenBrace ∷ middle) after
      → Statements parameters 1 [] [] middle body rest registers
      → BodyKeepsLimits body
      → IsProcess task before (identifier (process_name task) ∷ sign OpenParen ∷ symbols)
      (record { parameters = parameters; registers = registers; body = body }) rest after

-- processes from a number on, one at least
pub data Processes : (task : ℕ) (before : Names) → List Symbol → List Process → List Symbol → (after : Names) → Type 0 where
  last : {task : ℕ} {before after : Names} {process : Process} {symbols rest : List Symbol}
      → task < tasks_limit
      → IsProcess task before symbols process rest after
      → Processes task before symbols (process ∷ []) rest after
  more : {task : ℕ} {before between after : Names} {process : Process} {processes : List Process} {symbols middle rest : List Symbol}
      → task < tasks_limit
      → IsProcess task before symbols process middle between
      → Processes (suc task) between middle processes rest after
      → Processes task before symbols (process ∷ processes) rest after
