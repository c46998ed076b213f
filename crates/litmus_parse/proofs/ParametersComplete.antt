-- What is spelled as parameters is read, where what is said of each name fits its type.
use Rattle.std.proofs.Common.{◌≡◌, ◌∙◌, ◌++◌, ◌==◌, ℕ, List, [], ◌∷◌, Bool, true, false, cond, Option, Some, None, map, refl, sym, ap, subst, append_assoc}
use Rattle.std.specs.Prelude.{Contains, slice_get}
use Rattle.std.proofs.lemmas.Bool.{eqb-true}
use Rattle.litmus_lex.specs.declared.sign.Sign.TheVariants.{OpenParen, CloseParen, Comma, Star}
use Rattle.litmus_lex.specs.declared.words.VariableType.{VariableType}
use Rattle.litmus_lex.specs.declared.words.Word.TheVariants as words
use Rattle.litmus_lex.specs.Front.{◌>>=◌, first, is_sign, others, take_sign}
use Rattle.litmus_lex.specs.Words.{Symbol, word, identifier, sign}
use Rattle.litmus_expression.specs.Followed.{Differ}
use Rattle.litmus_expression.specs.NameReader.{index_of}
use Rattle.litmus_expression.specs.Names.{Names, Numbered, Parameter}
use Rattle.litmus_expression.proofs.Named.{in_front, in_none, in_rest, index_there}
use Rattle.litmus_expression.proofs.Taken.{same_given}
use Rattle.litmus_parse.specs.Entries.{Entry, grown}
use Rattle.litmus_parse.specs.ProcessHeaders as grammar
use Rattle.litmus_parse.specs.ProcessHeaders.{Listed, Parameters, mention_of, name_of, parameter_of}
use Rattle.litmus_parse.specs.ItemReader.{Heading}
use Rattle.litmus_parse.specs.Mentions.{Mention}
use Rattle.litmus_parse.specs.ParameterReader.{behind_parameter, has_variable, listed_at, numbered_parameter, parameter_at}
use Rattle.litmus_parse.specs.ParameterReader.{parameter_of_type, parameters_at}
use Rattle.litmus_parse.specs.Mentioned.{Noted}
use Rattle.litmus_parse.specs.Turns.{turned}
use Rattle.litmus_parse.specs.Typed.{AreTyped}
use Rattle.litmus_parse.proofs.Fits.{Behind, Fits, Notes}
use Rattle.litmus_parse.proofs.ItemsComplete.{behind_more, behind_none, first_notes, heading, rest_typed}
use Rattle.litmus_parse.proofs.Listed.{Stand, before_or_last}
use Rattle.litmus_parse.proofs.Tidy.{keeps_number, noted_tells}
use Rattle.litmus_parse.proofs.Unrolled.{listed_unroll}

-- ---- one parameter

module _ (before : List Parameter) (type : VariableType) (name : List ℕ) (variable : ℕ) (symbols : List Symbol) (names later : Names)
    (table after : List Entry) where
  abbrev whole : List Symbol
  whole = word (words.Type type) ∷ sign Star ∷ identifier name ∷ symbols

  abbrev with_number : ℕ × Names → ℕ × Heading
  with_number n = (n.0, heading (identifier name ∷ symbols) n.1 (grown table (index_of names name)))

  abbrev unless_there : ℕ → Bool → Option (Parameter × Heading)
  unless_there n there = cond there None (Some (parameter_of name n type, heading symbols later after))

  parameter_reads : (noted : Noted (mention_of (parameter_of name variable type)) names table later after) → noted.number ≡ variable
      → has_variable before variable ≡ false
      → parameter_at before (heading whole names table) ≡ Some (parameter_of name variable type, heading symbols later after)
  unfolding parameter_at parameter_of_type take_sign
  parameter_reads noted number apart =
      ap (λ (o : Option (ℕ × Names)). (o >>= λ n. Some (with_number n)) >>= λ v. numbered_parameter before type name v) noted.numbered
      ∙ ap (λ (o : Option (List Entry)). o >>= λ t. cond (has_variable before noted.number) None
      (Some (parameter_of name noted.number type, heading symbols later t))) noted.changes
      ∙ ap (λ (n : ℕ). unless_there n (has_variable before n)) number
      ∙ ap (λ (b : Bool). unless_there variable b) apart

-- ---- no name stands twice

other_number : (a b : ℕ) (c : Bool) → (a == b) ≡ c → ¬ (a ≡ b) → c ≡ false
other_number a b true e apart = absurd (apart (eqb-true a b e))
other_number a b false e apart = refl

no_variable : (before : List Parameter) (variable : ℕ) → ((q : Parameter) → Contains before q → ¬ (q.variable ≡ variable))
    → has_variable before variable ≡ false
no_variable [] variable apart = refl
no_variable (p ∷ before) variable apart =
    ap (λ (b : Bool). cond b true (has_variable before variable))
    (other_number p.variable variable (p.variable == variable) refl (apart p (in_front p before)))
    ∙ no_variable before variable (λ q there. apart q (in_rest p q before there))

-- no parameter has a name of these
abbrev Apart : List Parameter → List Parameter → Type 0
Apart before ps = (q : Parameter) → Contains before q → ¬ Contains (map name_of ps) q.name

module _ (all : List Mention) (before ps : List Parameter) (p : Parameter) (names later : Names) (table : List Entry)
    (fits : Fits all names table) (stand : Stand before names) (numbered : Numbered 32 names p.name p.variable later)
    (one : Notes all (mention_of p) names table p.variable later) where
  found : index_of later p.name ≡ Some p.variable
  found = (noted_tells (mention_of p) names later table one.after one.numbered fits.tidy).found ∙ ap (λ (n : ℕ). Some n) one.number

  stay : (q : Parameter) → Contains before q → index_of later q.name ≡ Some q.variable
  stay q there = keeps_number names later p.name p.variable numbered one.fits.tidy.differ q.name q.variable (stand q there)

  no_number : Apart before (p ∷ ps) → (q : Parameter) → Contains before q → ¬ (q.variable ≡ p.variable)
  no_number apart q there same =
      let of_q = index_there later q.name q.variable (stay q there) in
      let of_p = index_there later p.name p.variable found in
      let named : p.name ≡ q.name = same_given p.name q.name (sym of_p ∙ ap (λ (n : ℕ). slice_get later n) (sym same) ∙ of_q) in
      apart q there (subst (λ (n : List ℕ). Contains (map name_of (p ∷ ps)) n) named (in_front p.name (map name_of ps)))

  not_there : Apart before (p ∷ ps) → has_variable before p.variable ≡ false
  not_there apart = no_variable before p.variable (no_number apart)

  stand_on : Stand (before ++ p ∷ []) later
  stand_on q there =
      before_or_last before p q (index_of later q.name ≡ Some q.variable) there (λ inside. stay q inside)
      (λ is. subst (λ (s : Parameter). index_of later s.name ≡ Some s.variable) is found)

apart_on : (before ps : List Parameter) (p : Parameter) → Apart before (p ∷ ps) → ¬ Contains (map name_of ps) p.name
    → Apart (before ++ p ∷ []) ps
apart_on before ps p apart alone q there inside =
    before_or_last before p q ⊥ there (λ earlier. apart q earlier (in_rest p.name q.name (map name_of ps) inside))
    (λ is. alone (subst (λ (s : Parameter). Contains (map name_of ps) s.name) (sym is) inside))

-- ---- one parameter behind the other

-- parameters that are read behind others
pub record ListedGo (all : List Mention) (before : List Parameter) (h : Heading) (ps : List Parameter) (rest : List Symbol) (later : Names)
    : Type 0 where
  pub behind : Behind all (map mention_of ps) h rest later
  pub reads : listed_at (before, h) ≡ Some (before ++ ps, heading rest later behind.table)
  pub differ : Differ (map name_of ps)

listed_then : (before : List Parameter) (h : Heading) (p : Parameter) (u : Heading) → parameter_at before h ≡ Some (p, u)
    → listed_at (before, h) ≡ (behind_parameter (before ++ p ∷ [], u) >>= λ t. turned listed_at t)
listed_then before h p u is =
    listed_unroll (before, h)
    ∙ ap (λ (o : Option (Parameter × Heading)). (o >>= λ x. behind_parameter (before ++ x.0 ∷ [], x.1)) >>= λ t. turned listed_at t) is

closed : (ps : List Parameter) (rest : List Symbol) (names : Names) (table : List Entry)
    → (behind_parameter (ps, heading (sign CloseParen ∷ rest) names table) >>= λ t. turned listed_at t) ≡ Some (ps, heading rest names table)
unfolding take_sign
closed ps rest names table = refl

listed_go : (all : List Mention) {symbols rest : List Symbol} {ps : List Parameter} {names later : Names} → Listed names symbols ps rest later
    → (before : List Parameter) (table : List Entry) → Fits all names table → Stand before names → Apart before ps
    → AreTyped all (map mention_of ps) → ListedGo all before (heading symbols names table) ps rest later
unfolding behind_none behind_more
listed_go all (grammar.last {before = names} {after = later} {type} {name} {variable} {rest} numbered) before table fits stand apart are =
    let p = parameter_of name variable type in
    let h = heading (word (words.Type type) ∷ sign Star ∷ identifier name ∷ sign CloseParen ∷ rest) names table in
    let one = first_notes all (mention_of p) [] names later table variable fits numbered are in
    let free = not_there all before [] p names later table fits stand numbered one apart in
    record {
      behind = behind_more all (mention_of p) [] h variable later later (sign CloseParen ∷ rest) rest fits one
          (behind_none all (heading (sign CloseParen ∷ rest) later one.after) rest one.fits);
      reads = listed_then before h p (heading (sign CloseParen ∷ rest) later one.after)
          (parameter_reads before type name variable (sign CloseParen ∷ rest) names later table one.after one.numbered one.number free)
          ∙ closed (before ++ p ∷ []) rest later one.after;
      differ = (in_none name, tt);
    }
listed_go all (grammar.more {before = names} {between} {after = later} {type} {name} {variable} {parameters = ps} {symbols} {rest} numbered others_are alone)
    before table fits stand apart are =
    let p = parameter_of name variable type in
    let h = heading (word (words.Type type) ∷ sign Star ∷ identifier name ∷ sign Comma ∷ symbols) names table in
    let one = first_notes all (mention_of p) (map mention_of ps) names between table variable fits numbered are in
    let free = not_there all before ps p names between table fits stand numbered one apart in
    let go = listed_go all others_are (before ++ p ∷ []) one.after one.fits
    (stand_on all before ps p names between table fits stand numbered one)
    (apart_on before ps p apart alone) (rest_typed all (mention_of p) (map mention_of ps) are) in
    record {
      behind = behind_more all (mention_of p) (map mention_of ps) h variable between later symbols rest fits one go.behind;
      reads = listed_then before h p (heading (sign Comma ∷ symbols) between one.after)
          (parameter_reads before type name variable (sign Comma ∷ symbols) names between table one.after one.numbered one.number free)
          ∙ go.reads
          ∙ ap (λ (l : List Parameter). Some (l, heading rest later go.behind.table)) (append_assoc before (p ∷ []) ps);
      differ = (alone, go.differ);
    }

listed_begins : {names later : Names} {symbols rest : List Symbol} {ps : List Parameter} → Listed names symbols ps rest later
    → is_sign CloseParen (first symbols) ≡ false
listed_begins (grammar.last numbered) = refl
listed_begins (grammar.more numbered others_are alone) = refl

-- ---- the parameters of a process

-- parameters that are read from their `(` on
pub record ParametersGo (all : List Mention) (h : Heading) (ps : List Parameter) (rest : List Symbol) (later : Names) : Type 0 where
  pub behind : Behind all (map mention_of ps) h rest later
  pub reads : parameters_at h ≡ Some (ps, heading rest later behind.table)
  pub differ : Differ (map name_of ps)

go_on : (all : List Mention) {names later : Names} {inside rest : List Symbol} {ps : List Parameter} → Parameters names inside ps rest later
    → (table : List Entry) → Fits all names table → AreTyped all (map mention_of ps)
    → ParametersGo all (heading (sign OpenParen ∷ inside) names table) ps rest later
unfolding parameters_at take_sign behind_none
go_on all {names} (grammar.none {rest}) table fits are = record {
  behind = behind_none all (heading (sign OpenParen ∷ sign CloseParen ∷ rest) names table) rest fits;
  reads = refl;
  differ = tt;
}
go_on all {names} {later} {inside} {rest} {ps} (grammar.some listed) table fits are =
    let go = listed_go all listed [] table fits (λ p there. absurd (in_none p there)) (λ p there. absurd (in_none p there)) are in
    record {
      behind = record { table = go.behind.table; fits = go.behind.fits; said = record { tidy = go.behind.said.tidy; tells = go.behind.said.tells } };
      reads = ap (λ (b : Bool). cond b (Some ([], heading (others inside) names table)) (listed_at ([], heading inside names table)))
          (listed_begins listed)
          ∙ go.reads;
      differ = go.differ;
    }

pub parameters_complete : (all : List Mention) (h : Heading) (inside rest : List Symbol) (ps : List Parameter) (later : Names)
    → h.symbols ≡ sign OpenParen ∷ inside → Parameters h.names inside ps rest later
    → Fits all h.names h.table → AreTyped all (map mention_of ps) → ParametersGo all h ps rest later
parameters_complete all h inside rest ps later opens spelled fits are =
    subst (λ (l : List Symbol). ParametersGo all (heading l h.names h.table) ps rest later) (sym opens) (go_on all spelled h.table fits are)
