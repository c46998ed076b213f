-- What a refusal means.
use Rattle.std.specs.Prelude.{◌≡◌, All, Option, Some}
use Rattle.std.specs.Str.{IsUtf8}
use Rattle.litmus_syntax.specs.Tree as tree
use Rattle.litmus_lex.specs.declared.cursor.Refusal.{Refusal}
use Rattle.litmus_lex.specs.declared.cursor.Refusal.TheVariants.{OutOfMemory}

-- the names of variables and of registers are UTF-8
abbrev pub HasUtf8Names : tree.Program → Type 0
HasUtf8Names program =
    All (λ variable. IsUtf8 variable.name) program.variables × All (λ task. All IsUtf8 task.registers) program.tasks

-- memory aside, what is refused reads as no program whose names are UTF-8
abbrev pub Refuses : Refusal → Option tree.Program → Type 0
Refuses refusal read = (refusal ≡ OutOfMemory → ⊥) → (program : tree.Program) → read ≡ Some program → HasUtf8Names program → ⊥
