-- Which bytes a variable has.
use Rattle.std.specs.Prelude.{◌+◌, ◌-◌, ◌*◌, ◌%◌, ◌++◌, ◌==◌, ◌||◌, ℕ, suc, List, [], ◌∷◌, Option, bytes_eq, find, fold, map, option_map, slice_get, unwrap_or, if◌then◌else◌}
use Rattle.std.specs.List.{list_any}
use Rattle.std.specs.Int.{cast_unsigned, w8, w16, w32, w64}
use Rattle.access_types.specs.History.{Memory, initial_memory, value_from}
use Rattle.access_types.specs.declared.history.Bytes.{Bytes}
use Rattle.litmus_syntax.specs.declared.program.Contents.{Contents}
use Rattle.litmus_syntax.specs.declared.program.Contents.TheVariants.{Char, Short, Int, Long, Atomic, Lock}
use Rattle.litmus_syntax.specs.declared.program.Variable.{Variable}
use Rattle.litmus_semantics.specs.Values.{size_of}

-- the variable of a name is placed at an address
pub record VariablePlace : Type 0 where
  pub name : List ℕ
  pub addr : ℕ

-- the first place that is given for a name
abbrev pub place_of : List VariablePlace → List ℕ → Option VariablePlace
place_of places name = find (λ place. bytes_eq place.name name) places

-- where the variable of a number stands: at its place, or, where it has none, 64 bytes from 0x10000
-- on for each variable before it. Locks and placed variables count.
abbrev pub address_of : List VariablePlace → ℕ → Variable → ℕ
address_of places number variable =
    unwrap_or (option_map (λ place. place.addr) (place_of places variable.name))
    (0x10000 + 64 * number)

-- the bytes of the variable of a number
abbrev pub bytes_at : List VariablePlace → ℕ → Variable → Bytes
bytes_at places number variable = record {
  addr = address_of places number variable;
  size = size_of variable.contents;
}

-- the bytes of a number of which there is no variable
abbrev pub no_bytes : Bytes
no_bytes = record { addr = 0; size = 0 }

-- the bytes of the variable of a number, among these variables
abbrev pub bytes_of_variable : List VariablePlace → List Variable → ℕ → Bytes
bytes_of_variable places variables number =
    unwrap_or (option_map (bytes_at places number) (slice_get variables number)) no_bytes

-- the initial value of a variable, as its bytes hold it
abbrev pub initial_value : Contents → ℕ
initial_value (Char n) = cast_unsigned w8 n
initial_value (Short n) = cast_unsigned w16 n
initial_value (Int n) = cast_unsigned w32 n
initial_value (Long n) = cast_unsigned w64 n
initial_value (Atomic n) = cast_unsigned w32 n
initial_value Lock = 0

-- the bytes and the initial values of variables, from a number on, in order
abbrev pub initial_values : List VariablePlace → ℕ → List Variable → List (Bytes × ℕ)
initial_values places number [] = []
initial_values places number (variable ∷ more) =
    (bytes_at places number variable, initial_value variable.contents)
    ∷ initial_values places (suc number) more

-- what memory holds at first: the initial values, laid down in the order of the variables
abbrev pub memory_at_first : List VariablePlace → List Variable → Memory
memory_at_first places variables = initial_memory (initial_values places 0 variables)

-- the aligned block of 8 bytes that a byte lies in, by its address
abbrev pub block_of : ℕ → ℕ
block_of addr = addr - addr % 8

-- the block of these bytes is a cell, once; a variable never lies in two, and a lock lies in none
abbrev pub with_cell : List ℕ → Bytes × ℕ → List ℕ
with_cell cells value =
    let cell = block_of value.0.addr in
    if (value.0.size == 0) || list_any (λ other. other == cell) cells
    then cells
    else cells ++ cell ∷ []

-- the addresses of the cells: one for each block that a variable lies in, in the order of the
-- variables
abbrev pub cells_of : List VariablePlace → List Variable → List ℕ
cells_of places variables = fold with_cell [] (initial_values places 0 variables)

-- what the cells hold at first
abbrev pub cells_at_first : List VariablePlace → List Variable → List ℕ
cells_at_first places variables =
    map (λ cell. value_from (memory_at_first places variables) cell 8) (cells_of places variables)
