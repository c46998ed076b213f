-- What is read as a parameter is spelled as one, and is noted.
use Rattle.std.proofs.Common.{◌≡◌, ◌∙◌, ℕ, ◌<◌, List, ◌∷◌, false, cond, Option, Some, None, length, refl, sym, ap, arith}
use Rattle.litmus_lex.specs.declared.sign.Sign.TheVariants.{Star}
use Rattle.litmus_lex.specs.declared.words.VariableType.{VariableType}
use Rattle.litmus_lex.specs.declared.words.Word.TheVariants as words
use Rattle.litmus_lex.specs.Front.{◌>>=◌, first, identifier_at, others, take_sign}
use Rattle.litmus_lex.specs.Words.{Symbol, word, identifier, sign}
use Rattle.litmus_expression.specs.NameReader.{index_of}
use Rattle.litmus_expression.specs.Names.{Parameter}
use Rattle.litmus_expression.proofs.Fewer.{at_last, behind_it, unless_it}
use Rattle.litmus_expression.proofs.Taken.{front, sign_taken}
use Rattle.litmus_parse.specs.Entries.{changed, grown, named_parameter}
use Rattle.litmus_parse.specs.HeaderReader.{type_at}
use Rattle.litmus_parse.specs.ProcessHeaders.{mention_of, parameter_of}
use Rattle.litmus_parse.specs.ItemReader.{Heading}
use Rattle.litmus_parse.specs.ParameterReader.{has_variable, numbered_parameter, parameter_at, parameter_named, parameter_of_type}
use Rattle.litmus_parse.specs.ParameterReader.{parameter_with}
use Rattle.litmus_parse.specs.Mentioned.{Noted}
use Rattle.litmus_parse.specs.VariableReader.{number_at}
use Rattle.litmus_parse.proofs.Items.{identifier_is, type_is}

-- a parameter behind its `*`
pub record Named (before : List Parameter) (type : VariableType) (g : Heading) (x : Parameter × Heading) : Type 0 where
  pub begins : g.symbols ≡ identifier x.0.name ∷ x.1.symbols
  pub type_is : x.0.type ≡ type
  pub noted : Noted (mention_of x.0) g.names g.table x.1.names x.1.table
  pub number : noted.number ≡ x.0.variable
  pub apart : has_variable before x.0.variable ≡ false

module _ (before : List Parameter) (type : VariableType) (g : Heading) (x : Parameter × Heading) (name : List ℕ)
    (next : g.symbols ≡ identifier name ∷ others g.symbols) where
  -- the heading that has the name with its number
  abbrev with_number : ℕ × List (List ℕ) → ℕ × Heading
  with_number n = (n.0, record { symbols = g.symbols; names = n.1; table = grown g.table (index_of g.names name) })

  numbered_is : (o : Option (ℕ × List (List ℕ))) → number_at g.names name ≡ o
      → ((o >>= λ n. Some (with_number n)) >>= λ v. numbered_parameter before type name v) ≡ Some x → Named before type g x
  numbered_is None is e = absurd cc
  numbered_is (Some n) is e =
      behind_it (changed (named_parameter type) (grown g.table (index_of g.names name)) n.0)
      (λ table. cond (has_variable before n.0) None (Some
      (parameter_of name n.0 type, record { symbols = others g.symbols; names = n.1; table = table })))
      (λ (y : Parameter × Heading). Named before type g y) x e
      (λ table changes e.
      unless_it (has_variable before n.0) (Some (
        parameter_of name n.0 type,
        record { symbols = others g.symbols; names = n.1; table = table },
      ))
      (λ (y : Parameter × Heading). Named before type g y) x e (λ apart e.
      at_last _ (λ (y : Parameter × Heading). Named before type g y) x e (record {
        begins = next;
        type_is = refl;
        noted = record { number = n.0; numbered = is; changes = changes };
        number = refl;
        apart = apart;
      })))

named_is : (before : List Parameter) (type : VariableType) (g : Heading) (x : Parameter × Heading) (o : Option (List ℕ))
    → identifier_at (first g.symbols) ≡ o
    → parameter_named before type g o ≡ Some x → Named before type g x
named_is before type g x None is e = absurd cc
named_is before type g x (Some name) is e =
    numbered_is before type g x name (front g.symbols (identifier name) (identifier_is (first g.symbols) name is) (λ never. cc))
    (number_at g.names name) refl e

pub named_read : (before : List Parameter) (type : VariableType) (g : Heading) (x : Parameter × Heading) → parameter_of_type before type g
    ≡ Some x
    → Named before type g x
unfolding parameter_of_type
named_read before type g x e = named_is before type g x (identifier_at (first g.symbols)) refl e

-- a parameter, and what it says
pub record ReadsParameter (before : List Parameter) (h : Heading) (x : Parameter × Heading) : Type 0 where
  pub begins : h.symbols ≡ word (words.Type x.0.type) ∷ sign Star ∷ identifier x.0.name ∷ x.1.symbols
  pub noted : Noted (mention_of x.0) h.names h.table x.1.names x.1.table
  pub number : noted.number ≡ x.0.variable
  pub apart : has_variable before x.0.variable ≡ false

parameter_is : (before : List Parameter) (h : Heading) (x : Parameter × Heading) (o : Option VariableType) → type_at (first h.symbols) ≡ o
    → parameter_with before h o ≡ Some x → ReadsParameter before h x
parameter_is before h x None is e = absurd cc
parameter_is before h x (Some type) is e =
    behind_it (take_sign Star (others h.symbols)) (λ l. parameter_of_type before type (record h { symbols = l }))
    (λ (y : Parameter × Heading). ReadsParameter before h y) x e (λ l starred e.
    let n = named_read before type (record h { symbols = l }) x e in
    record {
      begins = front h.symbols (word (words.Type type)) (type_is (first h.symbols) type is) (λ never. cc)
          ∙ ap (λ (j : List Symbol). word (words.Type type) ∷ j)
          (sign_taken Star (others h.symbols) l starred ∙ ap (λ (j : List Symbol). sign Star ∷ j) n.begins)
          ∙ ap (λ (t : VariableType). word (words.Type t) ∷ sign Star ∷ identifier x.0.name ∷ x.1.symbols) (sym n.type_is);
      noted = n.noted;
      number = n.number;
      apart = n.apart;
    })

pub parameter_read : (before : List Parameter) (h : Heading) (x : Parameter × Heading) → parameter_at before h ≡ Some x
    → ReadsParameter before h x
unfolding parameter_at
parameter_read before h x e = parameter_is before h x (type_at (first h.symbols)) refl e

-- a parameter takes symbols
pub parameter_fewer : (before : List Parameter) (h : Heading) (x : Parameter × Heading) → ReadsParameter before h x
    → length x.1.symbols < length h.symbols
parameter_fewer before h x r =
    let n : length h.symbols ≡ length (word (words.Type x.0.type) ∷ sign Star ∷ identifier x.0.name ∷ x.1.symbols) = ap
    (λ (l : List Symbol). length l) r.begins in
    omega arith
