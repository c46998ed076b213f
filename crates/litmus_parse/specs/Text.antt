-- Which bytes a litmus text may have, and how many of them.
use Rattle.std.specs.Prelude.{◌≡◌, ◌≤◌, ◌⊎◌, ℕ}
pub use Rattle.litmus_syntax.specs.Limits.{file_bytes}

-- a byte that a litmus text may have: tab, LF, CR, or a blank to `~`
abbrev pub IsTextByte : ℕ → Type 0
IsTextByte b = (b ≡ 9) ⊎ (b ≡ 10) ⊎ (b ≡ 13) ⊎ ((32 ≤ b) × (b ≤ 126))
