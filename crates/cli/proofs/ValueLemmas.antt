-- What is read of the values of options.
use Rattle.std.proofs.Common.{◌≡◌, ◌∙◌, ◌<◌, ◌^◌, ℕ, Bool, true, false, List, Option, None, Some, Result, Ok, Err, IfErr, IfSome, ap, ap₂, is_some}
use Rattle.std.proofs.Common.{◌≤◌, not, option_map, refl, subst, sym, Bor, ◌&&◌}
use Rattle.std.proofs.lemmas.Option.{same_Some}
use Rattle.std.proofs.lemmas.Slice.Eq.{bytes_eq-Decides}
use Rattle.std.specs.Prelude.{◌↔◌, [], IsErrAnd, IsTrue, bytes_eq, codes, map, unwrap_or}
use Rattle.std.specs.Bool.{then_some}
use Rattle.std.specs.Str.Parse.{IsNumeral, digits_value, without_leading_plus}
use Rattle.clap.specs.Words.{ReadsOne, Row, Text, first_of, first_value, is_simple, is_simple_and_free, matched_of, one_text, raw_values, rows_of, subcommand_of}
use Rattle.clap.specs.declared.parser.matches.Found.{Found}
use Rattle.clap.proofs.WalkLemmas.{first_value-rows, one_text-rows, raw_values-rows}
use Rattle.cli.specs.Bounds.{KeepsPreemptions}
use Rattle.cli.specs.Words.{AreNames, Ask, AskSwitches, IsAskedOf, IsFlag, IsNumber, IsNumberIfGiven, check_app, join_app, program_app, races_app, replay_app, run_app}
use Rattle.cli.specs.Words.{search_app, show_app, step_app, with_options, with_settings, words_of}
use Rattle.cli.specs.declared.program.Names.{Names}
use Rattle.cli.specs.declared.request.Request.{Request}
use Rattle.cli.specs.declared.request.Switches.{Switches}
use Rattle.cli.specs.declared.request.Switches.TheVariants as switches

-- the text of an option that was read is its first value
pub text_read : (found : Found) (option : Text) (result : Option (Bor Text))
    → option_map (λ text. text.now) result ≡ first_value found option
    → first_of option (rows_of found) ≡ option_map (λ text. text.now) result
text_read found option result is = sym (first_value-rows found option) ∙ sym is

pub some_read : (found : Found) (option : Text) (result : Option (Bor Text)) (text : Bor Text)
    → option_map (λ text. text.now) result ≡ first_value found option → result ≡ Some text
    → first_of option (rows_of found) ≡ Some text.now
some_read found option result text is some = text_read found option result is ∙ ap (option_map (λ text. text.now)) some

-- what holds of a value holds of it where it is kept
pub kept : (P : ℕ → Type 0) (keeps : Bool) (number : ℕ) → P number → IfSome (then_some keeps number) P
kept P true number holds = holds
kept P false number holds = tt

pub never : (number : ℕ) → None ≡ Some number → ⊥
never number same = cc

-- a number that was read is spelled by the option's value
pub number_read : {E : Type 0} (gives : List ℕ → Result ℕ E → Type 0)
    → ((text : Text) (n : ℕ) → gives text (Ok n)
    → IsNumeral 10 (without_leading_plus text) × (digits_value 10 (without_leading_plus text) ≡ n) × (n < 2 ^ 64))
    → (found : Found) (option : Text) (result : Option ℕ) (number : ℕ) → result ≡ Some number
    → (one_text found option ≡ None → result ≡ None)
    → ((text : Text) → one_text found option ≡ Some text → ReadsOne gives text result)
    → IsNumber (rows_of found) option number
number_read {E} gives spelled found option result number some none value = by (one_text found option) refl where
  by : (text : Option Text) → one_text found option ≡ text → IsNumber (rows_of found) option number
  by None is = absurd (never number (sym (none is) ∙ some))
  by (Some text) is =
      let read = spelled text number (subst (ReadsOne gives text) some (value text is)) in
      record {
        text = text;
        given = sym (one_text-rows found option) ∙ is;
        numeral = read.0;
        spelled = read.1;
        fits = read.2;
      }

-- an option that has a first value is read
pub no_none : (text : Text) → Some text ≡ None → ⊥
no_none text same = cc

pub text_there : (found : Found) (option : Text) (result : Option (Bor Text)) (text : Text)
    → option_map (λ text. text.now) result ≡ first_value found option → first_of option (rows_of found) ≡ Some text
    → result ≡ None → ⊥
text_there found option result text is given none =
    no_none text (sym given ∙ (text_read found option result is ∙ ap (option_map (λ (text : Bor Text). text.now)) none))

-- what is there is not missing
pub not_missing : {X : Type 0} (result : Option X) → is_some result ≡ true → result ≡ None → ⊥
not_missing {X} result some none = let no : false ≡ true = sym (ap (λ (o : Option X). is_some o) none) ∙ some in cc

-- what is read is there
pub is_there : {X : Type 0} (result : Option X) → ((x : X) → result ≡ Some x → ⊥) → is_some result ≡ true → ⊥
is_there None other some = absurd (let no : false ≡ true = some in cc)
is_there (Some x) other some = other x refl

-- of nothing anything holds
pub none_holds : {X : Type 0} (P : X → Type 0) (result : Option X) → result ≡ None → IfSome result P
none_holds P None is = tt
none_holds P (Some x) is = absurd (cc)

-- an option that has no value is not given
pub none_read : (found : Found) (option : Text) (result : Option (Bor Text))
    → option_map (λ text. text.now) result ≡ first_value found option → result ≡ None → first_of option (rows_of found) ≡ None
none_read found option result is none =
    text_read found option result is ∙ ap (option_map (λ (text : Bor Text). text.now)) none

-- of one that has a value a number is asked for, if it may be asked for
pub number_asked : (found : Found) (option : Text) (result : Option (Bor Text)) (text : Bor Text) (given : Option ℕ)
    → option_map (λ text. text.now) result ≡ first_value found option → result ≡ Some text → (P : ℕ → Type 0) → IfSome given P
    → IsNumberIfGiven (rows_of found) option given → (number : ℕ) × P number × IsNumber (rows_of found) option number
number_asked found option result text None is some P keeps asks =
    absurd (no_none text.now (sym (some_read found option result text is some) ∙ asks))
number_asked found option result text (Some number) is some P keeps asks = (number, keeps, asks)

-- a number that an option's value spells is read, and no other
pub number_there : {E : Type 0} (gives : List ℕ → Result ℕ E → Type 0)
    → ((text : Text) (e : E) → gives text (Err e) → IsNumeral 10 (without_leading_plus text)
    → digits_value 10 (without_leading_plus text) < 2 ^ 64 → ⊥)
    → (found : Found) (option : Text) (result : Option ℕ) (number : ℕ)
    → ((text : Text) → one_text found option ≡ Some text → ReadsOne gives text result)
    → IsNumber (rows_of found) option number → result ≡ None → ⊥
number_there gives refuses found option result number value asks none =
    let read : one_text found option ≡ Some asks.text = one_text-rows found option ∙ asks.given in
    let error = subst (ReadsOne gives asks.text) none (value asks.text read) in
    refuses asks.text error.0 error.1 asks.numeral (subst (λ n. n < 2 ^ 64) (sym asks.spelled) asks.fits)

pub number_same : {E : Type 0} (gives : List ℕ → Result ℕ E → Type 0)
    → ((text : Text) (n : ℕ) → gives text (Ok n) → n ≡ digits_value 10 (without_leading_plus text))
    → (found : Found) (option : Text) (result : Option ℕ) (number other : ℕ) → result ≡ Some number
    → ((text : Text) → one_text found option ≡ Some text → ReadsOne gives text result)
    → IsNumber (rows_of found) option other → number ≡ other
number_same gives spelled found option result number other some value asks =
    let read : one_text found option ≡ Some asks.text = one_text-rows found option ∙ asks.given in
    spelled asks.text number (subst (ReadsOne gives asks.text) some (value asks.text read)) ∙ asks.spelled

-- where the value of `--switches` is neither a number within its bounds nor `all`, it asks for nothing
pub no_preemptions : (values : List Row) → ((number : ℕ) → number ≤ 64 → IsNumber values (codes "switches") number → ⊥)
    → (first_of (codes "switches") values ≡ Some (codes "all") → ⊥) → (asked : Switches) → KeepsPreemptions asked → AskSwitches values asked → ⊥
no_preemptions values no_number not_all (switches.AtMost number) bound asks = no_number number bound asks
no_preemptions values no_number not_all switches.All bound asks = not_all asks

-- whether an option that stands alone is set
pub flag_read : (found : Found) (option : Text) (set : Bool) → (one_text found option ≡ None → set ≡ false)
    → (one_text found option ≡ Some (codes "true") → set ≡ true) → (one_text found option ≡ Some (codes "false") → set ≡ false)
    → IsFlag (rows_of found) option set
flag_read found option set none on off = record {
  on = λ is. on (one_text-rows found option ∙ is);
  off = λ is. off (one_text-rows found option ∙ is);
  none = λ is. none (one_text-rows found option ∙ is);
}

-- an option has a word for its first value where that was read and is this word
pub value_read : (found : Found) (option word : Text) (result : Option (Bor Text)) (value : Bor Text) (same : Bool)
    → option_map (λ text. text.now) result ≡ first_value found option → result ≡ Some value
    → same ≡ bytes_eq value.now word → IsTrue same ↔ (first_of option (rows_of found) ≡ Some word)
value_read found option word result value same is some compared =
    let first = some_read found option result value is some in (
      λ yes. first ∙ ap Some ((bytes_eq-Decides value.now word).0 (sym compared ∙ yes)),
      λ given. compared ∙ (bytes_eq-Decides value.now word).1 (same_Some value.now word (sym first ∙ given)),
    )

pub value_unread : (found : Found) (option word : Text) (result : Option (Bor Text))
    → option_map (λ text. text.now) result ≡ first_value found option → result ≡ None
    → IsTrue false ↔ (first_of option (rows_of found) ≡ Some word)
value_unread found option word result is none = (λ yes. absurd (cc), λ given. absurd (text_there found option result word is given none))

-- the words of an argument are those that were read of it
pub words_read : (found : Found) (name : Text) (result : Option (Bor (List (Bor Text)))) (words : List (Bor Text)) (given : Option (List Text))
    → option_map (λ s. map (λ v. v.now) s.now) result ≡ option_map raw_values (matched_of found name)
    → option_map (λ s. map (λ v. v.now) s.now) result ≡ given
    → map (λ word. word.now) words ≡ unwrap_or given [] → map (λ word. word.now) words ≡ words_of name (rows_of found)
words_read found name result words given is read words_are =
    words_are ∙ ap (λ given. unwrap_or given []) (sym read ∙ (is ∙ raw_values-rows found name))

-- a name beside values
abbrev pub beside : {B : Type 0} → (B → Text) → (B → List Row) → B → Text × List Row
beside name values it = (name it, values it)

abbrev pair : Text → List Row → Text × List Row
pair text rows = (text, rows)

-- the name and the values of the command that was called, by each
pub both_read : {B : Type 0} (name : B → Text) (values : B → List Row) (called : Option B) (text : Text) (rows : List Row)
    → Some text ≡ option_map name called
    → Some rows ≡ option_map (λ (call : Text × List Row). call.1) (option_map (beside name values) called)
    → option_map (beside name values) called ≡ Some (text, rows)
both_read name values None text rows is are = absurd (cc)
both_read name values (Some it) text rows is are =
    ap Some (ap₂ pair (sym (same_Some text (name it) is)) (sym (same_Some rows (values it) are)))

-- a command whose fields are plain has no arguments but its own
pub third_is_not : (one other third rest : Bool) → (one && (other && (not third && rest))) ≡ true → third ≡ false
third_is_not true true true rest is = absurd (cc)
third_is_not true true false rest is = refl
third_is_not true false third rest is = absurd (cc)
third_is_not false other third rest is = absurd (cc)

-- the words ask for what the command that they call asks for
pub asked_by : (words : List Text) (names : Names) → AreNames names → (called : Option (Text × List Row)) (request : Request)
    → subcommand_of (program_app names) words ≡ called → IsAskedOf called request → Ask words request
asked_by words names are None request is asked = absurd asked
asked_by words names are (Some call) request is asked = record {
  name = call.0;
  values = call.1;
  call = record {
    names = names;
    names_are = are;
    called = is;
  };
  asked = asked;
}

pub program_is_simple : (names : Names) → is_simple (program_app names) ≡ true
unfolding program_app step_app with_options with_settings run_app search_app join_app races_app replay_app show_app check_app
program_is_simple names = refl

pub program_is_free : (names : Names) → is_simple_and_free (program_app names) ≡ true
unfolding program_app step_app with_options with_settings run_app search_app join_app races_app replay_app show_app check_app
program_is_free names = refl

-- what holds of an error holds of what is answered with it
pub err_holds : {X E : Type 0} (P : E → Type 0) (result : Result X E) (error : E) → IsErrAnd result (λ found. found ≡ error) → P error
    → IfErr result P
err_holds P (Ok x) error is holds = tt
err_holds P (Err found) error is holds = subst P (sym is) holds
