-- What one line of a kernel's configuration says of a setting, by the setting's name, as `CONFIG_KCSAN_SKIP_WATCH`.
use Rattle.std.specs.Prelude.{◌++◌, ℕ, List, Option, Some, None, bytes_eq, codes, drop, length, nat_eq, if◌then◌else◌}
use Rattle.std.specs.List.{starts_with}
use Rattle.std.specs.Option.{option_or}

-- the value of a line `NAME=VALUE`: what stands behind the `=`
abbrev pub assigned : (name line : List ℕ) → Option (List ℕ)
assigned name line =
    if starts_with nat_eq line (name ++ codes "=") then Some (drop (length (name ++ codes "=")) line) else None

-- the line `# NAME is not set`
abbrev pub unset_line : List ℕ → List ℕ
unset_line name = codes "# " ++ name ++ codes " is not set"

-- what a line says of a setting: the value of `NAME=VALUE`, and `n` where it is `# NAME is not set`; others say nothing
abbrev pub said : (name line : List ℕ) → Option (List ℕ)
said name line = option_or (assigned name line) (if bytes_eq line (unset_line name) then Some (codes "n") else None)
