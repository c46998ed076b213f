-- What a mention makes of what is known of its variable.
use Rattle.std.specs.Prelude.{◌≡◌, ℕ, List, [], ◌∷◌, Option, Some, None, is_some, if◌then◌else◌}
use Rattle.litmus_lex.specs.declared.words.VariableType.{VariableType}
use Rattle.litmus_lex.specs.Front.{◌>>=◌}
use Rattle.litmus_lex.specs.Words.{is_same}
use Rattle.litmus_expression.specs.NameReader.{index_of}
use Rattle.litmus_expression.specs.Names.{Names}
use Rattle.litmus_parse.specs.Entries.{Entry, changed, grown, named_item, named_parameter, valued}
use Rattle.litmus_parse.specs.Mentions.{Mention, Said, item, parameter}
use Rattle.litmus_parse.specs.VariableReader.{is_lock_type, number_at}

abbrev pub told_item : Option VariableType → Option ℕ → Entry → Option Entry
told_item type None e = named_item type e
told_item type (Some value) e = if is_lock_type type then None else (named_item type e >>= λ f. valued value (is_some type) f)

abbrev pub told : Said → Entry → Option Entry
told (item type value) e = told_item type value e
told (parameter type) e = named_parameter type e

-- what mentions make of what is known of a name
abbrev pub told_of : List ℕ → Mention → Entry → Option Entry
told_of name m e = if is_same m.name name then told m.said e else Some e

abbrev pub all_told : List Mention → List ℕ → Entry → Option Entry
all_told [] name e = Some e
all_told (m ∷ mentions) name e = told_of name m e >>= λ f. all_told mentions name f

-- what a mention makes of all names and of what is known of them
pub record Noted (m : Mention) (names : Names) (table : List Entry) (later : Names) (after : List Entry) : Type 0 where
  pub number : ℕ
  pub numbered : number_at names m.name ≡ Some (number, later)
  pub changes : changed (told m.said) (grown table (index_of names m.name)) number ≡ Some after
