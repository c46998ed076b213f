-- How a statement begins says with which symbol.
use Rattle.std.proofs.Common.{◌≡◌, ℕ, List, ◌∷◌, Option, Some, None, refl, ap, subst}
use Rattle.litmus_lex.specs.declared.sign.Sign.TheVariants.{OpenParen, Semicolon, Star}
use Rattle.litmus_lex.specs.declared.words.VariableType.{VariableType}
use Rattle.litmus_lex.specs.declared.words.VariableType.TheVariants as types
use Rattle.litmus_lex.specs.declared.words.Word.{Word}
use Rattle.litmus_lex.specs.declared.words.Word.TheVariants as words
use Rattle.litmus_lex.specs.Front.{begins_call, first, others}
use Rattle.litmus_lex.specs.Words.{Symbol, word, identifier, number, sign, fault}
use Rattle.litmus_expression.specs.NameReader.{parameter_named}
use Rattle.litmus_expression.specs.Names.{IsInteger, Parameter}
use Rattle.litmus_expression.specs.States.{State}
use Rattle.litmus_expression.proofs.Fewer.{unless_it}
use Rattle.litmus_expression.proofs.Taken.{front}
use Rattle.litmus_body.specs.declared.statement.Counted.{Counted}
use Rattle.litmus_body.specs.declared.statement.Counted.TheVariants as counteds
use Rattle.litmus_body.specs.declared.statement.Opening.{Opening}
use Rattle.litmus_body.specs.declared.statement.Opening.TheVariants as openings
use Rattle.litmus_body.specs.Statements.{IsNoDataRace}
use Rattle.litmus_body.specs.StatementReader.{opening_at, opening_of_name, opening_of_type, opening_of_word, opening_with}

same_opening : (a b : Opening) → Some a ≡ Some b → a ≡ b
same_opening a b e = cc

same_counted : (a b : Counted) → Some (openings.Counted a) ≡ Some (openings.Counted b) → a ≡ b
same_counted a b e = cc

-- ---- `;` alone

empty_with : (s : State) (y : Symbol) → opening_with s y ≡ Some openings.Empty → y ≡ sign Semicolon
empty_with s (word w) e = absurd (empty_word w e)
  where
    empty_word : (w : Word) → opening_of_word w ≡ Some openings.Empty → ⊥
    empty_word (words.Type types.Char) e = cc
    empty_word (words.Type types.Short) e = cc
    empty_word (words.Type types.Int) e = cc
    empty_word (words.Type types.Long) e = cc
    empty_word (words.Type types.Atomic) e = cc
    empty_word (words.Type types.Lock) e = cc
    empty_word words.If e = cc
    empty_word words.For e = cc
    empty_word words.DataRace e = cc
    empty_word (words.Call w) e = cc
    empty_word (words.Load w) e = cc
    empty_word (words.Store w) e = cc
    empty_word _ e = cc
empty_with s (identifier name) e =
    unless_it (begins_call s.symbols) (opening_of_name (parameter_named s.parameters name)) (λ o. identifier name ≡ sign Semicolon) openings.Empty e (λ no e.
    absurd (empty_name (parameter_named s.parameters name) e))
  where
    empty_name : (o : Option Parameter) → opening_of_name o ≡ Some openings.Empty → ⊥
    empty_name None e = cc
    empty_name (Some p) e = cc
empty_with s (number n) e = absurd cc
empty_with s (sign Semicolon) e = refl
empty_with s (sign Star) e = absurd cc
empty_with s (sign OpenParen) e = absurd cc
empty_with s (sign _) e = absurd cc
empty_with s fault e = absurd cc

pub opens_empty : (s : State) → opening_at s ≡ Some openings.Empty → s.symbols ≡ sign Semicolon ∷ others s.symbols
unfolding opening_at
opens_empty s e = front s.symbols (sign Semicolon) (empty_with s (first s.symbols) e) (λ never. cc)

-- ---- a declaration

pub record Declares (y : Symbol) : Type 0 where
  pub type : VariableType
  pub is : y ≡ word (words.Type type)
  pub integer : IsInteger type

declares_type : (type : VariableType) → opening_of_type type ≡ Some openings.Declaration → Declares (word (words.Type type))
declares_type types.Char e = record { type = types.Char; is = refl; integer = tt }
declares_type types.Short e = record { type = types.Short; is = refl; integer = tt }
declares_type types.Int e = record { type = types.Int; is = refl; integer = tt }
declares_type types.Long e = record { type = types.Long; is = refl; integer = tt }
declares_type types.Atomic e = absurd cc
declares_type types.Lock e = absurd cc

declares_word : (w : Word) → opening_of_word w ≡ Some openings.Declaration → Declares (word w)
declares_word (words.Type type) e = declares_type type e
declares_word words.If e = absurd cc
declares_word words.For e = absurd cc
declares_word words.DataRace e = absurd cc
declares_word (words.Call w) e = absurd cc
declares_word (words.Load w) e = absurd cc
declares_word (words.Store w) e = absurd cc
declares_word _ e = absurd cc

declares_with : (s : State) (y : Symbol) → opening_with s y ≡ Some openings.Declaration → Declares y
declares_with s (word w) e = declares_word w e
declares_with s (identifier name) e =
    unless_it (begins_call s.symbols) (opening_of_name (parameter_named s.parameters name)) (λ o. Declares (identifier name)) openings.Declaration e (λ no e.
    absurd (declares_name (parameter_named s.parameters name) e))
  where
    declares_name : (o : Option Parameter) → opening_of_name o ≡ Some openings.Declaration → ⊥
    declares_name None e = cc
    declares_name (Some p) e = cc
declares_with s (number n) e = absurd cc
declares_with s (sign Semicolon) e = absurd cc
declares_with s (sign Star) e = absurd cc
declares_with s (sign OpenParen) e = absurd cc
declares_with s (sign _) e = absurd cc
declares_with s fault e = absurd cc

pub opens_declaration : (s : State) → opening_at s ≡ Some openings.Declaration → Declares (first s.symbols)
unfolding opening_at
opens_declaration s e = declares_with s (first s.symbols) e

-- ---- a statement that counts

-- with which symbol it begins
abbrev pub Begins : Counted → Symbol → Type 0
Begins counteds.If y = y ≡ word words.If
Begins counteds.For y = y ≡ word words.For
Begins counteds.DataRace y = y ≡ word words.DataRace
Begins (counteds.Call w) y = y ≡ word (words.Call w)
Begins counteds.Simple y = ¬ (y ≡ word words.DataRace)

begins_as : (a b : Counted) (y : Symbol) → Some (openings.Counted a) ≡ Some (openings.Counted b) → Begins a y → Begins b y
begins_as a b y e is = subst (λ (c : Counted). Begins c y) (same_counted a b e) is

begins_type : (type : VariableType) (c : Counted) → opening_of_type type ≡ Some (openings.Counted c) → ⊥
begins_type types.Char c e = cc
begins_type types.Short c e = cc
begins_type types.Int c e = cc
begins_type types.Long c e = cc
begins_type types.Atomic c e = cc
begins_type types.Lock c e = cc

begins_word : (w : Word) (c : Counted) → opening_of_word w ≡ Some (openings.Counted c) → Begins c (word w)
begins_word (words.Type type) c e = absurd (begins_type type c e)
begins_word words.If c e = begins_as counteds.If c (word words.If) e refl
begins_word words.For c e = begins_as counteds.For c (word words.For) e refl
begins_word words.DataRace c e = begins_as counteds.DataRace c (word words.DataRace) e refl
begins_word (words.Call w) c e = begins_as (counteds.Call w) c (word (words.Call w)) e refl
begins_word (words.Load w) c e = begins_as counteds.Simple c (word (words.Load w)) e (λ never. cc)
begins_word (words.Store w) c e = begins_as counteds.Simple c (word (words.Store w)) e (λ never. cc)
begins_word _ c e = absurd cc

begins_name : (name : List ℕ) (o : Option Parameter) (c : Counted) → opening_of_name o ≡ Some (openings.Counted c) → Begins c (identifier name)
begins_name name None c e = begins_as counteds.Simple c (identifier name) e (λ never. cc)
begins_name name (Some p) c e = absurd cc

begins_with : (s : State) (y : Symbol) (c : Counted) → opening_with s y ≡ Some (openings.Counted c) → Begins c y
begins_with s (word w) c e = begins_word w c e
begins_with s (identifier name) c e =
    unless_it (begins_call s.symbols) (opening_of_name (parameter_named s.parameters name)) (λ o. Begins c (identifier name)) (openings.Counted c) e (λ no e.
    begins_name name (parameter_named s.parameters name) c e)
begins_with s (number n) c e = absurd cc
begins_with s (sign Semicolon) c e = absurd cc
begins_with s (sign Star) c e = begins_as counteds.Simple c (sign Star) e (λ never. cc)
begins_with s (sign OpenParen) c e = begins_as counteds.Simple c (sign OpenParen) e (λ never. cc)
begins_with s (sign _) c e = absurd cc
begins_with s fault c e = absurd cc

pub opens_counted : (s : State) (c : Counted) → opening_at s ≡ Some (openings.Counted c) → Begins c (first s.symbols)
unfolding opening_at
opens_counted s c e = begins_with s (first s.symbols) c e

pub no_data_race : (symbols : List Symbol) → Begins counteds.Simple (first symbols) → IsNoDataRace symbols
no_data_race symbols not rest is = not (ap first is)
