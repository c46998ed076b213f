-- What is read of `--part`, and of what it goes with.
use Rattle.std.proofs.Common.{◌≡◌, ◌∙◌, ◌⊎◌, Bool, Bor, IfSome, List, None, Option, Some, ap, codes, false, inl, inr, length, option_map, refl, subst, sym, true}
use Rattle.std.proofs.lemmas.Option.{same_Some}
use Rattle.std.proofs.lemmas.Slice.Eq.{bytes_eq-Decides}
use Rattle.std.specs.Prelude.{◌↔◌, IsTrue, bytes_eq, unwrap_or}
use Rattle.clap.specs.Words.{Row, Text, first_of, first_value, rows_of}
use Rattle.clap.specs.declared.parser.matches.Found.{Found}
use Rattle.cli.proofs.ValueLemmas.{no_none, text_read}
use Rattle.cli.specs.Words.{AskFormat, GoesWithPart, IsGiven, NamesPart, words_of}
use Rattle.cli.specs.declared.request.SearchFormat.{SearchFormat}

-- the text of an option that was read, or what stands for it, is its first value, or what stands for that
pub value_or : (found : Found) (option : Text) (result : Option (Bor Text)) (default value : Bor Text)
    → option_map (λ text. text.now) result ≡ first_value found option → value ≡ unwrap_or result default
    → value.now ≡ unwrap_or (first_of option (rows_of found)) default.now
value_or found option None default value is same =
    ap (λ (text : Bor Text). text.now) same ∙ sym (ap (λ (first : Option Text). unwrap_or first default.now) (text_read found option None is))
value_or found option (Some text) default value is same =
    ap (λ (text : Bor Text). text.now) same
    ∙ sym (ap (λ (first : Option Text). unwrap_or first default.now) (text_read found option (Some text) is))

-- an option that has no value is not given
pub not_there : (found : Found) (option : Text) (result : Option (Bor Text)) → option_map (λ text. text.now) result ≡ first_value found option
    → ((text : Bor Text) → result ≡ Some text → ⊥) → first_of option (rows_of found) ≡ None
not_there found option None is other = text_read found option None is
not_there found option (Some text) is other = absurd (other text refl)

-- what is false is not true
pub not_both : (b : Bool) → b ≡ false → b ≡ true → ⊥
not_both b off on = let both : false ≡ true = sym off ∙ on in cc

-- what a part goes with, by what is found of each
pub goes_by : (values : List Row) (all output json : Bool) (value : Text) → length (words_of (codes "FILE") values) ≡ 1
    → (IsTrue all ↔ (first_of (codes "switches") values ≡ Some (codes "all"))) → all ≡ false
    → (IsTrue output ↔ (IsGiven values (codes "where") ⊎ IsGiven values (codes "settings"))) → output ≡ false
    → json ≡ bytes_eq value (codes "json") → value ≡ unwrap_or (first_of (codes "format") values) (codes "json")
    → IsTrue json ↔ GoesWithPart values
goes_by values all output json value one all_is all_off output_is output_off json_is value_is = (
  λ yes. record {
    one = one;
    bounded = λ given. not_both all all_off (all_is.1 given);
    unlocated = λ given. not_both output output_off (output_is.1 (inl given));
    unsettled = λ given. not_both output output_off (output_is.1 (inr given));
    json = sym value_is ∙ (bytes_eq-Decides value (codes "json")).0 (sym json_is ∙ yes);
  },
  λ goes. json_is ∙ (bytes_eq-Decides value (codes "json")).1 (value_is ∙ goes.json),
)

-- where `--part` is given, what is asked for is the part that its value names
pub asked_part : (values : List Row) (text : Text) (format : SearchFormat) → first_of (codes "part") values ≡ Some text
    → AskFormat values format → NamesPart text format × GoesWithPart values
asked_part values text format given (inl asks) = absurd (no_none text (sym given ∙ asks.0))
asked_part values text format given (inr asks) =
    (subst (λ text. NamesPart text format) (same_Some asks.text text (sym asks.given ∙ given)) asks.names, asks.goes)

-- and the part that its value names is asked for, if it goes with the others
pub part_asked : (values : List Row) (text : Text) (format : Option SearchFormat) → first_of (codes "part") values ≡ Some text
    → GoesWithPart values → IfSome format (NamesPart text) → IfSome format (AskFormat values)
part_asked values text None given goes names = tt
part_asked values text (Some format) given goes names = inr (record { text = text; given = given; names = names; goes = goes })
