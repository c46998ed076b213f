-- The steps on a watch word: what each answers, and the word after it.
use Rattle.std.specs.Prelude.{◌==◌, ◌||◌, ℕ, Bool, not, if◌then◌else◌}
use Rattle.slot.specs.Line.{Line}

-- the word is read, and stays
abbrev pub load_line : ℕ → Line ℕ ℕ
load_line old = record { answer = old; after = old }

-- a watchpoint is set up if there is none
abbrev pub insert_line : ℕ → ℕ → Line Bool ℕ
insert_line old word = record { answer = old == 0; after = if old == 0 then word else old }

-- the watchpoint is marked as hit if it is still this one
abbrev pub try_consume_line : ℕ → ℕ → Line Bool ℕ
try_consume_line old word = record { answer = old == word; after = if old == word then 1 else old }

-- whatever stands there is marked as hit: was it a watchpoint that nobody had hit?
abbrev pub consume_line : ℕ → Line Bool ℕ
consume_line old = record { answer = not (old == 0 || old == 1); after = 1 }

-- the watchpoint is taken away
abbrev pub remove_line : ℕ → Line (Unit {0}) ℕ
remove_line old = record { answer = tt; after = 0 }
