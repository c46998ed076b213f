-- What the tables of the program's arguments say.
use Rattle.std.specs.Prelude.{◌∷◌, [], ℕ, List, Option, None, Some, fold}
use Rattle.std.specs.Borrow.{Bor}
use Rattle.clap.specs.Words.{App, Rule, Text, with_rule}
use Rattle.clap.specs.declared.builder.value_parser.ValueParser.{ValueParser}
use Rattle.clap.specs.declared.builder.value_parser.ValueParser.TheVariants as values
use Rattle.cli.specs.declared.arguments.Entry.{Entry}
use Rattle.cli.specs.declared.arguments.Entry.TheVariants as entries
use Rattle.cli.specs.declared.arguments.Kind.{Kind}
use Rattle.cli.specs.declared.arguments.Kind.TheVariants as kinds
use Rattle.cli.specs.declared.arguments.NameList.{NameList}
use Rattle.cli.specs.declared.arguments.NameList.TheVariants as lists
use Rattle.cli.specs.declared.arguments.Words.{Words}
use Rattle.cli.specs.declared.arguments.Words.TheVariants as counts
use Rattle.cli.specs.declared.program.Names.{Names}
use Rattle.cli.specs.Words.{flag_rule, some_words_rule, text_rule, word_rule, words_rule}

-- the rule of an argument that takes words: one, one at least, or any number
abbrev pub words_rule_of : Words → Text → Rule
words_rule_of counts.One = word_rule
words_rule_of counts.Several = some_words_rule
words_rule_of counts.Any = words_rule

-- the names of a list
abbrev pub listed : Names → NameList → Bor (List (Bor Text))
listed names lists.Sizes = names.sizes
listed names lists.Formats = names.formats
listed names lists.SearchFormats = names.search_formats
listed names lists.Choices = names.choices
listed names lists.Colors = names.colors

-- what checks a value of a kind, if something does
abbrev pub parser_of : Names → Kind → Option ValueParser
parser_of names (kinds.Text value) = None
parser_of names (kinds.Number bounds) = Some (values.Unsigned bounds.0 bounds.1)
parser_of names (kinds.Name list) = Some (values.Names (listed names list))

-- a rule with that
abbrev pub with_parser : Option ValueParser → Rule → Rule
with_parser None rule = rule
with_parser (Some parser) rule = record rule { parser = Some parser }

-- with what a value is where it isn't given
abbrev pub with_default : Option (Bor Text) → Rule → Rule
with_default None rule = rule
with_default (Some text) rule = record rule { defaults = text.now ∷ [] }

-- with the letter that an argument also goes by, if there is one
abbrev pub with_letter : Option ℕ → Rule → Rule
with_letter None rule = rule
with_letter (Some letter) rule = record rule { short = Some letter }

-- a command with an entry of its table
abbrev pub with_entry : Names → App → Entry → App
with_entry names app (entries.Heading heading) = app
with_entry names app (entries.Words name words help) = with_rule app (words_rule_of words name.now)
with_entry names app (entries.Flag name help) = with_rule app (flag_rule name.now)
with_entry names app (entries.Value name letter kind default help) =
    with_rule app (with_letter letter (with_default default (with_parser (parser_of names kind) (text_rule name.now))))

-- and with all of them
unfoldable pub with_entries : Names → App → List Entry → App
with_entries names app entries = fold (with_entry names) app entries
