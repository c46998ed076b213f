-- The steps on a pair word: what each answers, and the two halves after it.
use Rattle.std.specs.Prelude.{ℕ, bit_or}
use Rattle.slot.specs.Line.{Line}

-- the two halves of a pair word: the setter's ticket and the finder's
pub record Halves : Type 0 where
  pub setter : ℕ
  pub finder : ℕ

-- both halves are read, and stay
abbrev pub halves_line : Halves → Line Halves Halves
halves_line old = record { answer = old; after = old }

-- the bits of the ticket are set in the setter's half
abbrev pub name_line : Halves → ℕ → Line (Unit {0}) Halves
name_line old ticket = record {
  answer = tt;
  after = record { setter = bit_or old.setter ticket; finder = old.finder };
}

-- the bits of the ticket are set in the finder's half
abbrev pub tell_line : Halves → ℕ → Line (Unit {0}) Halves
tell_line old ticket = record {
  answer = tt;
  after = record { setter = old.setter; finder = bit_or old.finder ticket };
}

-- neither half names anybody
abbrev pub unnamed : Halves
unnamed = record { setter = 0; finder = 0 }

-- both halves are emptied
abbrev pub clear_line : Halves → Line (Unit {0}) Halves
clear_line old = record { answer = tt; after = unnamed }
