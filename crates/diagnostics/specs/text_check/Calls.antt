-- The calls that are read in the bodies of processes: the words of the grammar that are called.
use Rattle.std.specs.Prelude.{◌++◌, ℕ, List, Bool, codes, false, filter, true}
use Rattle.std.specs.List.{flat_map}
use Rattle.litmus_lex.specs.Words.{table}
use Rattle.litmus_lex.specs.declared.words.Word.{Word}
use Rattle.litmus_lex.specs.declared.words.Word.TheVariants as words

-- the word is called
abbrev pub is_called : Word → Bool
is_called words.DataRace = true
is_called (words.Load form) = true
is_called (words.Store form) = true
is_called (words.Call call) = true
is_called word = false

-- their names, a line each
abbrev pub calls_text : List ℕ
calls_text = flat_map (λ entry. entry.0 ++ codes "\n") (filter (λ entry. is_called entry.1) table)
