-- Mentions of names that have types.
use Rattle.std.specs.Prelude.{List, Contains}
use Rattle.litmus_lex.specs.declared.words.VariableType.{VariableType}
use Rattle.litmus_parse.specs.Mentions.{HasType, Mention}

-- mentions are among all, and by all of them each name has a type
abbrev pub AreTyped : (all mentions : List Mention) → Type 0
AreTyped all mentions = (m : Mention) → Contains mentions m → Contains all m × ((t : VariableType) × HasType all m.name t)
