-- What a kernel's whole configuration, its `.config`, says of a setting.
use Rattle.std.specs.Prelude.{ℕ, Bool, List, Option, Some, None, [], ◌∷◌, bytes_eq, codes, false, not, option_and_then, true, if◌then◌else◌}
use Rattle.std.specs.Option.{option_or}
use Rattle.std.specs.Str.Lines.{lines}
use Rattle.cli.specs.kernel_config.Line.{said}

-- what lines say of a setting: the last that says anything of it decides
abbrev pub last_said : (name : List ℕ) → List (List ℕ) → Option (List ℕ)
last_said name [] = None
last_said name (line ∷ later) = option_or (last_said name later) (said name line)

-- what a text says of a setting
unfoldable pub value_in : (name text : List ℕ) → Option (List ℕ)
value_in name text = last_said name (lines text)

-- whether a value is `y` or `n`; of others nothing
abbrev pub switch_of : List ℕ → Option Bool
switch_of value =
    if bytes_eq value (codes "y") then Some true else (if bytes_eq value (codes "n") then Some false else None)

-- whether a text says `y` or `n` of a setting
abbrev pub switch_in : (name text : List ℕ) → Option Bool
switch_in name text = option_and_then switch_of (value_in name text)

-- a value is there, and is not `n`
abbrev pub is_on : Option (List ℕ) → Bool
is_on None = false
is_on (Some value) = not (bytes_eq value (codes "n"))

-- a text gives a setting a value other than `n`
abbrev pub is_set : (name text : List ℕ) → Bool
is_set name text = is_on (value_in name text)
