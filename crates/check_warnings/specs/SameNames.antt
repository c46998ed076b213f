-- What `check` warns of where a process has a register whose name a variable of the program has: without a parameter of
-- this name it isn't the variable.
use Rattle.std.specs.Prelude.{ℕ, Bool, List, [], ◌∷◌, Option, bytes_eq, codes, find}
use Rattle.std.specs.Fmt.{decimal}
use Rattle.std.specs.List.{concat}
use Rattle.litmus_syntax.specs.PrintedForm.{type_name}
use Rattle.litmus_syntax.specs.declared.program.Contents.{Contents}
use Rattle.litmus_syntax.specs.declared.program.Contents.TheVariants.{Atomic, Char, Int, Lock, Long, Short}
use Rattle.litmus_syntax.specs.declared.program.Variable.{Variable}
use Rattle.program_table.specs.text_pieces.Shown.{shown}

-- the variable has this name
abbrev pub has_name : List ℕ → Variable → Bool
has_name name variable = bytes_eq variable.name name

-- the variable of this name
abbrev pub named : List Variable → (name : List ℕ) → Option Variable
named variables name = find (has_name name) variables

-- how a variable of this type is accessed, before its name
abbrev pub access_front : Contents → List ℕ
access_front (Char n) = codes "*"
access_front (Short n) = codes "*"
access_front (Int n) = codes "*"
access_front (Long n) = codes "*"
access_front (Atomic n) = codes "atomic_read("
access_front Lock = codes "spin_lock("

-- and behind its name
abbrev pub access_end : Contents → List ℕ
access_end (Char n) = []
access_end (Short n) = []
access_end (Int n) = []
access_end (Long n) = []
access_end (Atomic n) = codes ")"
access_end Lock = codes ")"

-- how a variable is accessed
unfoldable pub access_text : Variable → List ℕ
access_text variable = concat (access_front variable.contents ∷ shown variable.name ∷ access_end variable.contents ∷ [])

-- how the process of a task begins where this variable is its parameter
unfoldable pub head_text : (task : ℕ) → Variable → List ℕ
head_text task variable = concat
    (codes "P" ∷ decimal task ∷ codes "(" ∷ type_name variable.contents ∷ codes " *" ∷ shown variable.name ∷ codes ")" ∷ [])

-- what is said of a register of a task whose name this variable has, behind the name of the register and the task
unfoldable pub same_name_words : (task : ℕ) → Variable → List ℕ
same_name_words task variable = concat
    (codes " is a register, and not the variable of this name: write `" ∷ head_text task variable ∷ codes "` and `"
    ∷ access_text variable ∷ codes "`\n" ∷ [])
