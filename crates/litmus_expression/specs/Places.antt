-- Where in a body a part stands, and where the parts in it stand.
use Rattle.std.specs.Prelude.{ℕ, ◌+◌, ◌*◌, ◌==◌, nat_lt, List, Option, Some, None, Bool, true, false, get_or, replicate, set, if◌then◌else◌}
use Rattle.litmus_syntax.specs.Limits.{nesting_limit, registers_limit, scoped_limit, turns_limit}
use Rattle.litmus_expression.specs.declared.process.Surroundings.{Surroundings}

pub record NestingPlace : Type 0 where
  -- blocks and parentheses that are open there
  pub depth : ℕ
  -- scoped assertions that are in force
  pub scopes : ℕ
  -- how often the loops round it repeat it
  pub turns : ℕ
  -- whether each register counts one of these loops
  pub counters : List Bool

abbrev pub place_of : Surroundings → NestingPlace
place_of around = record { depth = around.depth; scopes = around.scoped; turns = around.turns; counters = around.counters }

-- outside all blocks
abbrev pub outermost : NestingPlace
outermost = record { depth = 0; scopes = 0; turns = 1; counters = replicate registers_limit false }

-- inside one more block or parenthesis
abbrev pub deeper : NestingPlace → Option NestingPlace
deeper p = if p.depth == nesting_limit then None else Some (record p { depth = p.depth + 1 })

-- behind one more scoped assertion
abbrev pub asserting : NestingPlace → Option NestingPlace
asserting p = if p.scopes == scoped_limit then None else Some (record p { scopes = p.scopes + 1 })

-- how often a loop of so many turns repeats its body there
abbrev pub repeats_of : NestingPlace → (turns : ℕ) → Option ℕ
repeats_of p turns =
    if nat_lt turns_limit turns
    then None
    else (if nat_lt turns_limit (p.turns * turns) then None else Some (p.turns * turns))

-- in a loop that a register counts, where the loops repeat it so often
abbrev pub in_loop : NestingPlace → (register turns : ℕ) → NestingPlace
in_loop p register turns = record p { turns = turns; counters = set p.counters register true }

-- whether a register counts a loop
abbrev pub is_counter : List Bool → (register : ℕ) → Bool
is_counter counters register = get_or counters register false
