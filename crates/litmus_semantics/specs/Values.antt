-- Values of variables, in memory and in the 64 bits of a register.
use Rattle.std.specs.Prelude.{◌+◌, ◌-◌, ◌*◌, ◌%◌, ◌^◌, ℕ, nat_le, if◌then◌else◌}
use Rattle.litmus_syntax.specs.declared.program.Contents.{Contents}
use Rattle.litmus_syntax.specs.declared.program.Contents.TheVariants.{Char, Short, Int, Long, Atomic, Lock}

-- how many bytes a variable has; a lock has none
abbrev pub size_of : Contents → ℕ
size_of (Char n) = 1
size_of (Short n) = 2
size_of (Int n) = 4
size_of (Long n) = 8
size_of (Atomic n) = 4
size_of Lock = 0

-- what so many bytes hold of a value
abbrev pub cut : ℕ → ℕ → ℕ
cut size value = value % 256 ^ size

-- a number below a range, with its sign, in 64 bits: the higher half of the range is negative
abbrev pub with_sign : ℕ → ℕ → ℕ
with_sign range low = if nat_le range (2 * low) then low + (2 ^ 64 - range) else low

-- the value of so many bytes, with its sign, in 64 bits
abbrev pub sign_extended : ℕ → ℕ → ℕ
sign_extended size value = with_sign (256 ^ size) (cut size value)
