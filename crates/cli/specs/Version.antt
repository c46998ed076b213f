-- What the program says of its version.
use Rattle.std.specs.Prelude.{ℕ, List, codes}

-- the line that says which version the program is
unfoldable pub version_line : List ℕ
version_line = codes "kcsan_litmus 1.0.0\n"
