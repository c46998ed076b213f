-- What words ask for: the commands that the program knows, with their options, and what is read of the words.
use Rattle.std.specs.Prelude.{◌≡◌, ◌==◌, ◌<◌, ◌^◌, ◌⊎◌, ◌∷◌, ◌↔◌, [], ℕ, Bool, IsTrue, List, Option, None, Some, bytes_eq, codes, length, map, not, option_map, true}
use Rattle.std.specs.Prelude.{false, if◌then◌else◌, unwrap_or}
use Rattle.std.specs.List.{after_first, before_first}
use Rattle.std.specs.Str.Parse.{IsNumeral, digits_value, without_leading_plus}
use Rattle.std.specs.Borrow.{Bor}
use Rattle.clap.specs.Words.{App, IsAmong, Row, Rule, Text, all_of, app_of, fault_of, first_of, new_app, new_rule, one_of, rule_of}
use Rattle.clap.specs.Words.{subcommand_of, with_rule, with_subcommand}
use Rattle.clap.specs.Simple.{on_top}
use Rattle.clap.specs.declared.builder.action.ArgAction.TheVariants.{Append, Set, SetTrue}
use Rattle.clap.specs.declared.builder.arg.Arg.{Arg}
use Rattle.clap.specs.declared.builder.command.Command.{Command}
use Rattle.clap.specs.declared.error.kind.ErrorKind.{ErrorKind}
use Rattle.clap.specs.declared.error.kind.ErrorKind.TheVariants as kinds
use Rattle.clap.specs.declared.builder.value_parser.ValueParser.TheVariants as values
use Rattle.cli.specs.Bounds.{MayBeAsked}
use Rattle.cli.specs.declared.program.Names.{Names}
use Rattle.cli.specs.declared.request.CheckRequest.{CheckRequest}
use Rattle.cli.specs.declared.request.Choices.{Choices}
use Rattle.cli.specs.declared.request.JoinRequest.{JoinRequest}
use Rattle.cli.specs.declared.request.RacesFormat.{RacesFormat}
use Rattle.cli.specs.declared.request.RacesFormat.TheVariants as race_formats
use Rattle.cli.specs.declared.request.RacesRequest.{RacesRequest}
use Rattle.cli.specs.declared.request.RunOptions.{RunOptions}
use Rattle.cli.specs.declared.request.ReplayRequest.{ReplayRequest}
use Rattle.cli.specs.declared.request.Request.{Request}
use Rattle.cli.specs.declared.request.Request.TheVariants as requests
use Rattle.cli.specs.declared.request.RunRequest.{RunRequest}
use Rattle.cli.specs.declared.request.SearchFormat.{SearchFormat}
use Rattle.cli.specs.declared.request.SearchFormat.TheVariants as search_formats
use Rattle.cli.specs.declared.request.SearchRequest.{SearchRequest}
use Rattle.cli.specs.declared.request.SearchesRequest.{SearchesRequest}
use Rattle.cli.specs.declared.request.ShowRequest.{ShowRequest}
use Rattle.cli.specs.declared.request.StepRequest.{StepRequest}
use Rattle.cli.specs.declared.request.Switches.{Switches}
use Rattle.cli.specs.declared.request.Switches.TheVariants as switches
use Rattle.watch_word.specs.declared.layout.Layout.{Layout}
use Rattle.watch_word.specs.declared.layout.Layout.TheVariants as layouts

-- a word that has to be there
abbrev pub word_rule : Text → Rule
word_rule name = record (new_rule name) { required = true; action = Some Set }

-- words of which there may be several, or none
abbrev pub words_rule : Text → Rule
words_rule name = record (new_rule name) { action = Some Append }

-- words of which there is one at least
abbrev pub some_words_rule : Text → Rule
some_words_rule name = record (words_rule name) { required = true }

-- an option that takes a text
abbrev pub text_rule : Text → Rule
text_rule name = record (new_rule name) { long = Some name; action = Some Set; value_names = 1 }

-- one that has a text where it isn't given
abbrev pub default_rule : Text → (text : Text) → Rule
default_rule name text = record (text_rule name) { defaults = text ∷ [] }

-- an option that takes a number within bounds, and has one where it isn't given
abbrev pub number_rule : Text → (low high : ℕ) → (text : Text) → Rule
number_rule name low high text = record (default_rule name text) { parser = Some (values.Unsigned low high) }

-- one that has none where it isn't given
abbrev pub free_number_rule : Text → (low high : ℕ) → Rule
free_number_rule name low high = record (text_rule name) { parser = Some (values.Unsigned low high) }

-- an option that stands alone
abbrev pub flag_rule : Text → Rule
flag_rule name = record (new_rule name) { long = Some name; action = Some SetTrue }

-- an option that takes one of some names, if it is given
abbrev pub free_name_rule : Text → Bor (List (Bor Text)) → Rule
free_name_rule name names = record (text_rule name) { parser = Some (values.Names names) }

-- one that has one of them where it isn't given
abbrev pub name_rule : Text → Bor (List (Bor Text)) → (text : Text) → Rule
name_rule name names text = record (free_name_rule name names) { defaults = text ∷ [] }

-- an option that also goes by a letter
abbrev pub short_rule : (letter : ℕ) → Rule → Rule
short_rule letter rule = record rule { short = Some letter }

-- a command, also with the settings of a run: the places, what a wait takes, and those of KCSAN
unfoldable pub with_settings : App → Names → App
with_settings app names =
    with_rule (with_rule (with_rule (with_rule (with_rule (with_rule (with_rule (with_rule (with_rule (with_rule (with_rule
    (with_rule app
    (default_rule (codes "place") []))
    (number_rule (codes "turns") 1 1000000000 (codes "1000000")))
    (number_rule (codes "slots") 3 1024 (codes "64")))
    (number_rule (codes "skip") 0 1000000 (codes "0")))
    (flag_rule (codes "randomize")))
    (number_rule (codes "seed") 0 18446744073709551615 (codes "1")))
    (free_name_rule (codes "value-change-only") names.choices))
    (free_name_rule (codes "plain-writes-atomic") names.choices))
    (flag_rule (codes "strict")))
    (free_name_rule (codes "unknown-origin") names.choices))
    (text_rule (codes "kconfig")))
    (name_rule (codes "word") names.sizes (codes "64"))

-- when the text that is printed is coloured
abbrev pub color_rule : Names → Rule
color_rule names = name_rule (codes "color") names.colors (codes "auto")

-- a command, also with the options that `step`, `run` and `search` all have: those settings, whether places are
-- wanted, the trace, and the colours
unfoldable pub with_options : App → Names → App
with_options app names =
    with_rule (with_rule (with_rule (with_settings app names) (flag_rule (codes "where"))) (short_rule 111 (text_rule (codes "trace")))) (color_rule names)

-- `step`, with its file, its schedule and those options
unfoldable pub step_app : Names → App
step_app names =
    with_options (with_rule (with_rule (new_app (codes "step"))
    (word_rule (codes "FILE")))
    (short_rule 115 (default_rule (codes "schedule") []))) names

-- `run`, with its file, how many runs there are, the delay of a watch, how many runs are made side by side, where they
-- end, and those options
unfoldable pub run_app : Names → App
run_app names =
    with_options (with_rule (with_rule (with_rule (with_rule (with_rule (with_rule (new_app (codes "run"))
    (word_rule (codes "FILE")))
    (short_rule 114 (number_rule (codes "runs") 1 100000 (codes "100"))))
    (number_rule (codes "delay") 0 1000000 (codes "64")))
    (number_rule (codes "jobs") 1 64 (codes "1")))
    (flag_rule (codes "stop-at-first")))
    (flag_rule (codes "keep-going"))) names

-- `search`, with its files, how what is found is printed, whether the settings are, how many preemptions a schedule has at
-- most, whether steps may be left out, which part is searched, after how many schedules or states and after how many seconds a search stops, how many
-- threads share the work, and those options; what `--switches` and `--part` take is said below
unfoldable pub search_app : Names → App
search_app names =
    with_options (with_rule (with_rule (with_rule (with_rule (with_rule (with_rule (with_rule (with_rule (with_rule (new_app (codes "search"))
    (some_words_rule (codes "FILE")))
    (free_name_rule (codes "format") names.search_formats))
    (flag_rule (codes "settings")))
    (default_rule (codes "switches") (codes "2")))
    (free_name_rule (codes "reduce") names.choices))
    (text_rule (codes "part")))
    (number_rule (codes "limit") 1 1000000000 (codes "1000000")))
    (free_number_rule (codes "seconds") 1 1000000))
    (number_rule (codes "jobs") 1 64 (codes "1"))) names

-- `join`, with its files, whether places are wanted, whether the settings are printed, and the colours
unfoldable pub join_app : Names → App
join_app names = with_rule (with_rule (with_rule (with_rule (new_app (codes "join"))
    (some_words_rule (codes "FILE")))
    (flag_rule (codes "where")))
    (flag_rule (codes "settings")))
    (color_rule names)

-- `races`, with its files, how races are printed, the file that a page goes to, the colours, after how many states or
-- schedules and after how many seconds a search stops, how many threads share the files, and those settings
unfoldable pub races_app : Names → App
races_app names =
    with_settings (with_rule (with_rule (with_rule (with_rule (with_rule (with_rule (with_rule (new_app (codes "races"))
    (some_words_rule (codes "FILE")))
    (name_rule (codes "format") names.formats (codes "text")))
    (text_rule (codes "html")))
    (color_rule names))
    (number_rule (codes "limit") 1 1000000000 (codes "1000000")))
    (free_number_rule (codes "seconds") 1 1000000))
    (number_rule (codes "jobs") 1 64 (codes "1"))) names

-- `replay`, with its file and the colours
unfoldable pub replay_app : Names → App
replay_app names = with_rule (with_rule (new_app (codes "replay")) (word_rule (codes "TRACE"))) (color_rule names)

-- `show`, with its file, the file that the trace is of, whether indices are told, the file that a picture goes to, and
-- whether the text is drawn with ASCII alone
unfoldable pub show_app : App
show_app = with_rule (with_rule (with_rule (with_rule (with_rule (new_app (codes "show"))
    (word_rule (codes "TRACE")))
    (text_rule (codes "source")))
    (flag_rule (codes "slots")))
    (short_rule 111 (text_rule (codes "svg"))))
    (flag_rule (codes "ascii"))

-- `check`, with its files, whether the printed form is wanted, whether the calls that are read are, the colours, and the
-- options by which accesses have addresses and watch words
unfoldable pub check_app : Names → App
check_app names =
    with_rule (with_rule (with_rule (with_rule (with_rule (with_rule (with_rule (with_rule (new_app (codes "check"))
    (words_rule (codes "FILE")))
    (flag_rule (codes "print")))
    (flag_rule (codes "calls")))
    (color_rule names))
    (short_rule 115 (default_rule (codes "schedule") [])))
    (default_rule (codes "place") []))
    (number_rule (codes "slots") 3 1024 (codes "64")))
    (name_rule (codes "word") names.sizes (codes "64"))

-- the program, which has a version, and one of whose commands has to be named
unfoldable pub program_app : Names → App
program_app names =
    with_subcommand (with_subcommand (with_subcommand (with_subcommand (with_subcommand (with_subcommand (with_subcommand
    (with_subcommand (on_top (λ shape. record shape { has_version = true; subcommand_required = true }) (new_app (codes "kcsan_litmus")))
    (step_app names).top) (run_app names).top) (search_app names).top) (join_app names).top) (races_app names).top)
    (replay_app names).top) show_app.top) (check_app names).top

-- an argument goes by a rule, and is of its own command alone
pub record IsArg (rule : Rule) (arg : Arg) : Type 0 where
  pub rule_is : rule_of arg ≡ rule
  pub own : arg.global ≡ false

-- these are the texts of names
abbrev pub AreTexts : Bor (List (Bor Text)) → (texts : List Text) → Type 0
AreTexts names texts = map (λ name. name.now) names.now ≡ texts

-- these are the names that options take
pub record AreNames (names : Names) : Type 0 where
  pub sizes : AreTexts names.sizes (codes "64" ∷ codes "32" ∷ [])
  pub formats : AreTexts names.formats (codes "text" ∷ codes "json" ∷ [])
  pub search_formats : AreTexts names.search_formats (codes "text" ∷ codes "json" ∷ codes "csv" ∷ codes "herd" ∷ [])
  pub choices : AreTexts names.choices (codes "yes" ∷ codes "no" ∷ [])
  pub colors : AreTexts names.colors (codes "auto" ∷ codes "always" ∷ codes "never" ∷ [])

-- a command is the whole program
pub record IsProgram (command : Command) : Type 0 where
  pub names : Names
  pub names_are : AreNames names
  pub is : app_of command ≡ program_app names

-- the words call this command, by its name, with these values of its options and words
pub record IsCall (words : List Text) (name : Text) (values : List Row) : Type 0 where
  pub names : Names
  pub names_are : AreNames names
  pub called : subcommand_of (program_app names) words ≡ Some (name, values)

-- the value of an option is a number of 64 bits, in decimal digits
pub record IsNumber (values : List Row) (option : Text) (number : ℕ) : Type 0 where
  pub text : Text
  pub given : one_of option values ≡ Some text
  pub numeral : IsNumeral 10 (without_leading_plus text)
  pub spelled : digits_value 10 (without_leading_plus text) ≡ number
  pub fits : number < 2 ^ 64

-- the number of an option, if it is given
abbrev pub IsNumberIfGiven : List Row → (option : Text) → Option ℕ → Type 0
IsNumberIfGiven values option None = first_of option values ≡ None
IsNumberIfGiven values option (Some number) = IsNumber values option number

-- whether an option that stands alone is set
pub record IsFlag (values : List Row) (option : Text) (set : Bool) : Type 0 where
  pub on : one_of option values ≡ Some (codes "true") → set ≡ true
  pub off : one_of option values ≡ Some (codes "false") → set ≡ false
  pub none : one_of option values ≡ None → set ≡ false

-- an option that stands alone is given
abbrev pub IsGiven : List Row → (option : Text) → Type 0
IsGiven values option = first_of option values ≡ Some (codes "true")

-- the words that are given for an argument
abbrev pub words_of : Text → List Row → List Text
words_of name values = unwrap_or (all_of name values) []

-- how many bits a watch word has, by the value of an option: 64, but for 32
pub record IsLayout (values : List Row) (option : Text) (layout : Layout) : Type 0 where
  pub bits : Text
  pub given : first_of option values ≡ Some bits
  pub is : layout ≡ (if bytes_eq bits (codes "32") then layouts.W32 else layouts.W64)

-- how races are printed, by the value of an option: as text, but for json
pub record IsFormat (values : List Row) (option : Text) (format : RacesFormat) : Type 0 where
  pub name : Text
  pub given : first_of option values ≡ Some name
  pub is : format ≡ (if bytes_eq name (codes "json") then race_formats.Json else race_formats.Text)

-- how what a search finds is printed, by the name of a format: as text, but for json, csv and herd
abbrev pub search_format_of : Text → SearchFormat
search_format_of name =
    if bytes_eq name (codes "json") then search_formats.Json
    else (if bytes_eq name (codes "csv") then search_formats.Csv
    else (if bytes_eq name (codes "herd") then search_formats.Herd else search_formats.Text))

-- the same, by the value of an option: as text where it isn't given
abbrev pub IsSearchFormat : List Row → (option : Text) → SearchFormat → Type 0
IsSearchFormat values option format = format ≡ search_format_of (unwrap_or (first_of option values) (codes "text"))

-- a text is a number of 64 bits, in decimal digits
pub record SpellsNumber (text : Text) (number : ℕ) : Type 0 where
  pub numeral : IsNumeral 10 (without_leading_plus text)
  pub spelled : digits_value 10 (without_leading_plus text) ≡ number
  pub fits : number < 2 ^ 64

-- a text names a part of a search: its number, a slash, and how many parts there are
pub record NamesPart (text : Text) (format : SearchFormat) : Type 0 where
  pub part : ℕ
  pub parts : ℕ
  pub is : format ≡ search_formats.Part part parts
  pub number : SpellsNumber (before_first (λ byte. byte == 47) text) part
  pub count : SpellsNumber (after_first (λ byte. byte == 47) text) parts

-- what a part goes with: one file, a number of `--switches`, no other format than JSON, and neither `--where` nor
-- `--settings`
pub record GoesWithPart (values : List Row) : Type 0 where
  pub one : length (words_of (codes "FILE") values) ≡ 1
  pub bounded : ¬ (first_of (codes "switches") values ≡ Some (codes "all"))
  pub unlocated : ¬ IsGiven values (codes "where")
  pub unsettled : ¬ IsGiven values (codes "settings")
  pub json : unwrap_or (first_of (codes "format") values) (codes "json") ≡ codes "json"

-- the values of `search` ask for this part: `--part` names it, and goes with the others
pub record AskPart (values : List Row) (format : SearchFormat) : Type 0 where
  pub text : Text
  pub given : first_of (codes "part") values ≡ Some text
  pub names : NamesPart text format
  pub goes : GoesWithPart values

-- the values of `search` ask for this format: the one that `--format` names, or, with `--part`, for a part
abbrev pub AskFormat : List Row → SearchFormat → Type 0
AskFormat values format =
    ((first_of (codes "part") values ≡ None) × IsSearchFormat values (codes "format") format) ⊎ AskPart values format

-- what a setting that is on or off is by the word of its option, if that is given: else it is on, or, with
-- `--strict`, off
abbrev pub choice_of : Option Text → (strict : Bool) → Bool
choice_of None strict = not strict
choice_of (Some word) strict = bytes_eq word (codes "yes")

-- the values ask for this of two such settings; `--strict` goes with neither option
pub record AskChoices (values : List Row) (choices : Choices) : Type 0 where
  pub strict : Bool
  pub strict_is : IsTrue strict ↔ IsGiven values (codes "strict")
  pub value_change_only : choices.value_change_only ≡ choice_of (first_of (codes "value-change-only") values) strict
  pub plain_writes_atomic : choices.plain_writes_atomic ≡ choice_of (first_of (codes "plain-writes-atomic") values) strict
  pub alone : IsTrue strict → (first_of (codes "value-change-only") values ≡ None) × (first_of (codes "plain-writes-atomic") values ≡ None)

-- the two of a run
abbrev pub choices_of : RunOptions → Choices
choices_of options = record {
  value_change_only = options.value_change_only;
  plain_writes_atomic = options.plain_writes_atomic;
}

-- the values ask for this of what `step`, `run`, `search` and `races` all have, and `--kconfig` isn't among them
pub record AskSettings (values : List Row) (options : RunOptions) : Type 0 where
  pub places : first_of (codes "place") values ≡ Some options.places.now
  pub slots : IsNumber values (codes "slots") options.slots
  pub skip : IsNumber values (codes "skip") options.skip
  pub randomize : IsFlag values (codes "randomize") options.randomize
  pub seed : IsNumber values (codes "seed") options.seed
  pub choices : AskChoices values (choices_of options)
  pub unread : first_of (codes "kconfig") values ≡ None
  pub layout : IsLayout values (codes "word") options.layout
  pub turns : IsNumber values (codes "turns") options.turns
  pub located : IsFlag values (codes "where") options.located
  pub unknown_origin : options.unknown_origin ≡ choice_of (first_of (codes "unknown-origin") values) false

-- the values ask for this of what `step`, `run` and `search` all have
pub record AskOptions (values : List Row) (options : RunOptions) : Type 0 where
  pub settings : AskSettings values options
  pub trace : first_of (codes "trace") values ≡ option_map (λ path. path.now) options.trace

-- the values of `step` ask for this
pub record AskStep (values : List Row) (request : StepRequest) : Type 0 where
  pub file : first_of (codes "FILE") values ≡ Some request.file.now
  pub schedule : first_of (codes "schedule") values ≡ Some request.schedule.now
  pub options : AskOptions values request.options

-- the values of `run` ask for this
pub record AskRun (values : List Row) (request : RunRequest) : Type 0 where
  pub file : first_of (codes "FILE") values ≡ Some request.file.now
  pub runs : IsNumber values (codes "runs") request.runs
  pub delay : IsNumber values (codes "delay") request.delay
  pub jobs : IsNumber values (codes "jobs") request.jobs
  pub stop_at_first : IsFlag values (codes "stop-at-first") request.stop_at_first
  pub keep_going : IsFlag values (codes "keep-going") request.keep_going
  pub options : AskOptions values request.options

-- the value of `--switches` asks for so many at most, or, as the word `all`, for all schedules
abbrev pub AskSwitches : List Row → Switches → Type 0
AskSwitches values (switches.AtMost number) = IsNumber values (codes "switches") number
AskSwitches values switches.All = first_of (codes "switches") values ≡ Some (codes "all")

-- the values of `search` ask for this of one file, where what is found is printed as text
pub record AskSearch (values : List Row) (request : SearchRequest) : Type 0 where
  pub file : words_of (codes "FILE") values ≡ request.file.now ∷ []
  pub switches : AskSwitches values request.switches
  pub limit : IsNumber values (codes "limit") request.limit
  pub seconds : IsNumberIfGiven values (codes "seconds") request.seconds
  pub reduces : request.reduces ≡ choice_of (first_of (codes "reduce") values) false
  pub jobs : IsNumber values (codes "jobs") request.jobs
  pub format : AskFormat values search_formats.Text
  pub settings_line : IsFlag values (codes "settings") request.settings
  pub options : AskOptions values request.options

-- the values of `search` ask for this of several files, or in a format for programs, or of a part, and for no trace
pub record AskSearches (values : List Row) (request : SearchesRequest) : Type 0 where
  pub files : map (λ file. file.now) request.files.items ≡ words_of (codes "FILE") values
  pub switches : AskSwitches values request.switches
  pub limit : IsNumber values (codes "limit") request.limit
  pub seconds : IsNumberIfGiven values (codes "seconds") request.seconds
  pub reduces : request.reduces ≡ choice_of (first_of (codes "reduce") values) false
  pub jobs : IsNumber values (codes "jobs") request.jobs
  pub format : AskFormat values request.format
  pub settings_line : IsFlag values (codes "settings") request.settings
  pub settings : AskSettings values request.options
  pub trace : first_of (codes "trace") values ≡ None
  pub untraced : request.options.trace ≡ None

-- the values of `join` ask for this
pub record AskJoin (values : List Row) (request : JoinRequest) : Type 0 where
  pub files : map (λ file. file.now) request.files.items ≡ words_of (codes "FILE") values
  pub located : IsFlag values (codes "where") request.located
  pub settings_line : IsFlag values (codes "settings") request.settings

-- the values of `races` ask for this
pub record AskRaces (values : List Row) (request : RacesRequest) : Type 0 where
  pub files : map (λ file. file.now) request.files.items ≡ words_of (codes "FILE") values
  pub limit : IsNumber values (codes "limit") request.limit
  pub seconds : IsNumberIfGiven values (codes "seconds") request.seconds
  pub jobs : IsNumber values (codes "jobs") request.jobs
  pub format : IsFormat values (codes "format") request.format
  pub html : first_of (codes "html") values ≡ option_map (λ path. path.now) request.html
  pub settings : AskSettings values request.options
  pub untraced : request.options.trace ≡ None

-- the values of `replay` ask for this
abbrev pub AskReplay : List Row → ReplayRequest → Type 0
AskReplay values request = first_of (codes "TRACE") values ≡ Some request.trace.now

-- the values of `show` ask for this
pub record AskShow (values : List Row) (request : ShowRequest) : Type 0 where
  pub trace : first_of (codes "TRACE") values ≡ Some request.trace.now
  pub source : first_of (codes "source") values ≡ option_map (λ path. path.now) request.source
  pub svg : first_of (codes "svg") values ≡ option_map (λ path. path.now) request.svg
  pub ascii : IsFlag values (codes "ascii") request.ascii
  pub slots : IsFlag values (codes "slots") request.slots

-- the values of `check` ask for this
pub record AskCheck (values : List Row) (request : CheckRequest) : Type 0 where
  pub files : map (λ file. file.now) request.files.items ≡ words_of (codes "FILE") values
  pub uncalled : ¬ IsGiven values (codes "calls")
  pub print : IsFlag values (codes "print") request.print
  pub schedule : first_of (codes "schedule") values ≡ Some request.schedule.now
  pub places : first_of (codes "place") values ≡ Some request.places.now
  pub slots : IsNumber values (codes "slots") request.slots
  pub layout : IsLayout values (codes "word") request.layout

-- the values of `check` ask for the calls that are read, and for no file
pub record AskCalls (values : List Row) : Type 0 where
  pub given : IsGiven values (codes "calls")
  pub alone : words_of (codes "FILE") values ≡ []

-- a command of this name with these values asks for this
abbrev pub IsAskedBy : Text → List Row → Request → Type 0
IsAskedBy name values (requests.Step request) = (name ≡ codes "step") × AskStep values request
IsAskedBy name values (requests.Run request) = (name ≡ codes "run") × AskRun values request
IsAskedBy name values (requests.Search request) = (name ≡ codes "search") × AskSearch values request
IsAskedBy name values (requests.Searches request) = (name ≡ codes "search") × AskSearches values request
IsAskedBy name values (requests.Join request) = (name ≡ codes "join") × AskJoin values request
IsAskedBy name values (requests.Races request) = (name ≡ codes "races") × AskRaces values request
IsAskedBy name values (requests.Replay request) = (name ≡ codes "replay") × AskReplay values request
IsAskedBy name values (requests.Show request) = (name ≡ codes "show") × AskShow values request
IsAskedBy name values (requests.Check request) = (name ≡ codes "check") × AskCheck values request
IsAskedBy name values requests.Calls = (name ≡ codes "check") × AskCalls values

-- the command that was called, with its values, if there is one, asks for this
abbrev pub IsAskedOf : Option (Text × List Row) → Request → Type 0
IsAskedOf None request = ⊥
IsAskedOf (Some call) request = IsAskedBy call.0 call.1 request

-- the words ask for this
pub record Ask (words : List Text) (request : Request) : Type 0 where
  pub name : Text
  pub values : List Row
  pub call : IsCall words name values
  pub asked : IsAskedBy name values request

-- the words ask for nothing, and this is said of them
pub record IsSaidOf (words : List Text) (kind : ErrorKind) : Type 0 where
  pub names : Names
  pub names_are : AreNames names
  pub said : IsAmong kind (fault_of (program_app names) words)

-- the words ask for help
abbrev pub AskForHelp : List Text → Type 0
AskForHelp words = IsSaidOf words kinds.DisplayHelp

-- the words ask for the version
abbrev pub AskForVersion : List Text → Type 0
AskForVersion words = IsSaidOf words kinds.DisplayVersion

-- nothing is to be said of the words, and yet no request, with numbers within their bounds, is asked for by the command
-- that they call
pub record AskForNothing (words : List Text) : Type 0 where
  pub names : Names
  pub names_are : AreNames names
  pub sound : fault_of (program_app names) words ≡ []
  pub nothing : (request : Request) → MayBeAsked request → IsAskedOf (subcommand_of (program_app names) words) request → ⊥

-- This may be said in place of a request: that memory ran out, what is to be said of the words, or, where nothing is
-- and yet they ask for nothing, that a value doesn't do. So it is said of no words that name a command that none is
-- named.
abbrev pub MayFail : List Text → ErrorKind → Type 0
MayFail words kind =
    (kind ≡ kinds.OutOfMemory) ⊎ (((kind ≡ kinds.ValueValidation) × AskForNothing words) ⊎ IsSaidOf words kind)

-- and this in place of what the command that was called, with its values, if there is one, asks for
abbrev pub MayBeSaid : Option (Text × List Row) → ErrorKind → Type 0
MayBeSaid called kind =
    (kind ≡ kinds.OutOfMemory)
    ⊎ ((kind ≡ kinds.ValueValidation) × ((request : Request) → MayBeAsked request → IsAskedOf called request → ⊥))
