-- What `search` is asked for, by its files, its format and its trace.
use Rattle.std.proofs.Common.{◌≡◌, ◌∙◌, ◌≤◌, ◌<◌, ◌⊎◌, Bor, List, None, Option, Some, ap, ap₂, arith, codes, false, get_or, inl, inr, is_some, length, map, option_map, refl, subst, sym, true}
use Rattle.std.proofs.lemmas.List.{length-map}
use Rattle.std.proofs.lemmas.Option.{same_Some}
use Rattle.std.proofs.lemmas.Slice.Eq.{bytes_eq-Decides}
use Rattle.std.specs.Prelude.{Bool, bytes_eq}
use Rattle.clap.specs.Words.{Row, Text, first_of, first_value, rows_of}
use Rattle.clap.specs.declared.parser.matches.Found.{Found}
use Rattle.cli.proofs.ValueLemmas.{no_none, text_read}
use Rattle.cli.specs.Bounds.{KeepsPart, KeepsSearchBounds, KeepsSearchesBounds, MayBeAsked}
use Rattle.cli.specs.Words.{AskFormat, AskSearch, AskSearches, IsAskedBy, NamesPart, search_format_of, words_of}
use Rattle.cli.specs.declared.request.Request.{Request}
use Rattle.cli.specs.declared.request.Request.TheVariants as requests
use Rattle.cli.specs.declared.request.SearchFormat.{SearchFormat}
use Rattle.cli.specs.declared.request.SearchFormat.TheVariants as search_formats
use Rattle.cli.specs.declared.request.SearchRequest.{SearchRequest}
use Rattle.cli.specs.declared.request.SearchesRequest.{SearchesRequest}

-- `search` asks for one file as text, or for several or in a format for programs
abbrev pub OneOrSeveral : List Row → Type 0
OneOrSeveral values =
    ((one : SearchRequest) × (KeepsSearchBounds one × AskSearch values one))
    ⊎ ((several : SearchesRequest) × (KeepsSearchesBounds several × AskSearches values several))

pub asked_search : (values : List Row) (request : Request) → MayBeAsked request → IsAskedBy (codes "search") values request
    → OneOrSeveral values
asked_search values (requests.Step request) keeps asks =
    absurd (let long : 6 ≡ 4 = ap (λ (text : Text). length text) asks.0 in omega (arith, long))
asked_search values (requests.Run request) keeps asks =
    absurd (let long : 6 ≡ 3 = ap (λ (text : Text). length text) asks.0 in omega (arith, long))
asked_search values (requests.Search request) keeps asks = inl (request, (keeps, asks.1))
asked_search values (requests.Searches request) keeps asks = inr (request, (keeps, asks.1))
asked_search values (requests.Join request) keeps asks =
    absurd (let long : 6 ≡ 4 = ap (λ (text : Text). length text) asks.0 in omega (arith, long))
asked_search values (requests.Races request) keeps asks =
    absurd (let long : 6 ≡ 5 = ap (λ (text : Text). length text) asks.0 in omega (arith, long))
asked_search values (requests.Replay request) keeps asks =
    absurd (let first : 115 ≡ 114 = ap (λ (text : Text). get_or text 0 0) asks.0 in omega (arith, first))
asked_search values (requests.Show request) keeps asks =
    absurd (let long : 6 ≡ 4 = ap (λ (text : Text). length text) asks.0 in omega (arith, long))
asked_search values (requests.Check request) keeps asks =
    absurd (let long : 6 ≡ 5 = ap (λ (text : Text). length text) asks.0 in omega (arith, long))
asked_search values requests.Calls keeps asks =
    absurd (let long : 6 ≡ 5 = ap (λ (text : Text). length text) asks.0 in omega (arith, long))

-- what is asked for has a format
pub asked_format : (values : List Row) → OneOrSeveral values → (format : SearchFormat) × (KeepsPart format × AskFormat values format)
asked_format values (inl one) = (search_formats.Text, (tt, one.1.1.format))
asked_format values (inr several) = (several.0.format, (several.1.0.part, several.1.1.format))

-- a text names one part
one_part : (text other_text : Text) (one other : SearchFormat) → text ≡ other_text → NamesPart text one → NamesPart other_text other
    → one ≡ other
one_part text other_text one other same is are =
    let names = subst (λ text. NamesPart text one) same is in
    names.is ∙ (ap₂ search_formats.Part (sym names.number.spelled ∙ are.number.spelled) (sym names.count.spelled ∙ are.count.spelled) ∙ sym are.is)

-- the values ask for one format
pub one_format : (values : List Row) (one other : SearchFormat) → AskFormat values one → AskFormat values other → one ≡ other
one_format values one other (inl is) (inl are) = is.1 ∙ sym are.1
one_format values one other (inl is) (inr are) = absurd (no_none are.text (sym are.given ∙ is.0))
one_format values one other (inr is) (inl are) = absurd (no_none is.text (sym is.given ∙ are.0))
one_format values one other (inr is) (inr are) =
    one_part is.text are.text one other (same_Some is.text are.text (sym is.given ∙ are.given)) is.names are.names

-- as many files are asked for as are given
pub one_file : (values : List Row) (files : List (Bor Text)) (request : SearchRequest)
    → map (λ file. file.now) files ≡ words_of (codes "FILE") values → AskSearch values request → length files ≡ 1
one_file values files request given asks =
    sym (length-map files (λ (file : Bor Text). file.now)) ∙ ap (λ (texts : List Text). length texts) (given ∙ asks.file)

pub several_files : (values : List Row) (files : List (Bor Text)) (request : SearchesRequest)
    → map (λ file. file.now) files ≡ words_of (codes "FILE") values → AskSearches values request
    → length files ≡ length request.files.items
several_files values files request given asks =
    sym (length-map files (λ (file : Bor Text). file.now))
    ∙ (ap (λ (texts : List Text). length texts) (given ∙ sym asks.files) ∙ length-map request.files.items (λ (file : Bor Text). file.now))

-- without a file nothing is asked for
pub some_file : (values : List Row) (files : List (Bor Text)) → map (λ file. file.now) files ≡ words_of (codes "FILE") values
    → OneOrSeveral values → 0 < length files
some_file values files given (inl one) = let long = one_file values files one.0 given one.1.1 in omega arith
some_file values files given (inr several) =
    let long = several_files values files several.0 given several.1.1 in
    let some = several.1.0.some in
    omega arith

-- of one file, as text, one is asked for
pub asked_one : (values : List Row) (files : List (Bor Text)) → map (λ file. file.now) files ≡ words_of (codes "FILE") values
    → length files < 2 → AskFormat values search_formats.Text → OneOrSeveral values
    → (one : SearchRequest) × (KeepsSearchBounds one × AskSearch values one)
asked_one values files given few format (inl one) = one
asked_one values files given few format (inr several) =
    let long = several_files values files several.0 given several.1.1 in
    let most = several.1.0.several (one_format values several.0.format search_formats.Text several.1.1.format format) in
    absurd (omega arith)

-- and else several are, or they are in a format for programs
pub asked_several : (values : List Row) (files : List (Bor Text)) (format : SearchFormat)
    → map (λ file. file.now) files ≡ words_of (codes "FILE") values
    → (format ≡ search_formats.Text → 2 ≤ length files) → AskFormat values format → OneOrSeveral values
    → (several : SearchesRequest) × (KeepsSearchesBounds several × AskSearches values several)
asked_several values files format given several is (inl one) =
    let long = one_file values files one.0 given one.1.1 in
    let most = several (one_format values format search_formats.Text is one.1.1.format) in
    absurd (omega arith)
asked_several values files format given several is (inr asked) = asked

-- another word is not equal
other_word : (name word : Text) → (name ≡ word → ⊥) → bytes_eq name word ≡ false
other_word name word other = by (bytes_eq name word) (bytes_eq-Decides name word).0 where
  by : (same : Bool) → (same ≡ true → name ≡ word) → same ≡ false
  by true equal = absurd (other (equal refl))
  by false equal = refl

-- any other name is that of text
pub text_format : (name : Text) → (name ≡ codes "json" → ⊥) → (name ≡ codes "csv" → ⊥) → (name ≡ codes "herd" → ⊥)
    → search_format_of name ≡ search_formats.Text
text_format name json csv herd =
    let no_json = other_word name (codes "json") json in
    let no_csv = other_word name (codes "csv") csv in
    let no_herd = other_word name (codes "herd") herd in
    simp (no_json, no_csv, no_herd)

-- an option is not given where it has no first value, and is where it has one
pub unread : (found : Found) (option : Text) (result : Option (Bor Text))
    → option_map (λ text. text.now) result ≡ first_value found option → is_some result ≡ false → first_of option (rows_of found) ≡ None
unread found option None is none = text_read found option None is
unread found option (Some text) is none = absurd (cc)

pub not_unread : (found : Found) (option : Text) (result : Option (Bor Text))
    → option_map (λ text. text.now) result ≡ first_value found option → is_some result ≡ true → first_of option (rows_of found) ≡ None → ⊥
not_unread found option None is some none = cc
not_unread found option (Some text) is some none = no_none text.now (sym (text_read found option (Some text) is) ∙ none)
