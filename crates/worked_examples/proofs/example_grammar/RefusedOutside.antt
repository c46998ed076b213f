-- What small lists of symbols outside process bodies don't spell: each relation is taken apart by its rules.
use Rattle.std.proofs.Common.{◌≡◌, ◌⊎◌, inl, inr, ⊎_elim, ◌∙◌, ℕ, zero, suc, List, [], ◌∷◌, Some, None, refl, sym, ap, subst, drop, arith, lit<}
use Rattle.std.specs.Prelude.{Contains, codes, map}
use Rattle.litmus_lex.specs.declared.sign.Sign.TheVariants.{CloseBrace, OpenParen}
use Rattle.litmus_syntax.specs.Tree.{Proposition}
use Rattle.litmus_lex.specs.declared.words.VariableType.{VariableType}
use Rattle.litmus_lex.specs.declared.words.VariableType.TheVariants.{Char, Lock}
use Rattle.litmus_lex.specs.Words.{Symbol, identifier, sign}
use Rattle.litmus_expression.specs.Names.{Names, Parameter}
use Rattle.litmus_parse.specs.Conditions.{IsKnown, Atom, Disjoined, Conjoined, Negation}
use Rattle.litmus_parse.specs.Conditions as conditions
use Rattle.litmus_parse.specs.Headers.{Listed, Parameters, Item, Items, Process, Value, name_of}
use Rattle.litmus_parse.specs.Headers as headers
use Rattle.litmus_parse.specs.Mentions.{Mention, item, parameter, HasType, Says}
use Rattle.worked_examples.specs.example_grammar.Examples.{x_twice, two_types, lock_asked, l_said}

-- the last of listed parameters has this name
one_x : {before after : Names} {symbols rest : List Symbol} {parameters : List Parameter}
    → Listed before symbols parameters rest after → symbols ≡ drop 4 x_twice → Contains (map name_of parameters) (codes "x")
one_x (headers.last n) is = (0, lit< tt, cc)
one_x (headers.more n l apart) is = cc

two_x : {before after : Names} {symbols rest : List Symbol} {parameters : List Parameter}
    → Listed before symbols parameters rest after → symbols ≡ x_twice → ⊥
two_x (headers.last n) is = cc
two_x (headers.more {name = name} {parameters = parameters} {symbols = symbols} n l apart) is =
    let same : name ≡ codes "x" = cc in
    let tail : symbols ≡ drop 4 x_twice = cc in
    apart (subst (Contains (map name_of parameters)) (sym same) (one_x l tail))

pub x_is_named_once : {before after : Names} {symbols rest : List Symbol} {parameters : List Parameter}
    → Parameters before symbols parameters rest after → symbols ≡ x_twice → ⊥
x_is_named_once headers.none is = cc
x_is_named_once (headers.some l) is = two_x l is

-- char x
char_item : {symbols rest : List Symbol} {mention : Mention}
    → Item symbols mention rest → symbols ≡ two_types → (mention ≡ record { name = codes "x"; said = item (Some Char) None }) × (rest ≡ drop 2 two_types)
char_item headers.bare is = cc
char_item (headers.given v) is = cc
char_item (headers.typed {type} {name} {rest}) is =
    let same : name ≡ codes "x" = cc in
    let char : type ≡ Char = cc in
    let tail : rest ≡ drop 2 two_types = cc in
    (mention_same same char, tail)
  where
    mention_same : {name : List ℕ} {type : VariableType} → name ≡ codes "x" → type ≡ Char
        → ◌≡◌ {A = Mention} (record { name = name; said = item (Some type) None }) (record { name = codes "x"; said = item (Some Char) None })
    mention_same e f = cc
char_item (headers.typed_given v) is = cc

-- 1 ; or 1 } ends a value
value_ends : {symbols rest : List Symbol} {value : ℕ} → Value symbols value rest → symbols ≡ drop 5 two_types → rest ≡ sign CloseBrace ∷ []
value_ends (headers.plain headers.positive) is = cc
value_ends (headers.plain headers.negative) is = cc
value_ends (headers.in_atomic_init v) is = cc

-- x = 1
bare_item : {symbols rest : List Symbol} {mention : Mention}
    → Item symbols mention rest → symbols ≡ drop 3 two_types
    → ((value : ℕ) × (mention ≡ record { name = codes "x"; said = item None (Some value) }) × (rest ≡ sign CloseBrace ∷ []))
    ⊎ (rest ≡ drop 4 two_types)
bare_item (headers.bare {name} {rest}) is = inr cc
bare_item (headers.given {name} {value} {symbols} v) is =
    let same : name ≡ codes "x" = cc in
    let tail : symbols ≡ drop 5 two_types = cc in
    inl (value, ap (λ (n : List ℕ). record { name = n; said = item None (Some value) }) same, value_ends v tail)
bare_item headers.typed is = cc
bare_item (headers.typed_given v) is = cc

-- what the items say of x: a char, and then a value without a type
abbrev both : ℕ → List Mention
both value = record { name = codes "x"; said = item (Some Char) None } ∷ record { name = codes "x"; said = item None (Some value) } ∷ []

second_item : {symbols rest : List Symbol} {mentions : List Mention}
    → Items symbols mentions rest → symbols ≡ drop 3 two_types → (value : ℕ) × (mentions ≡ record { name = codes "x"; said = item None (Some value) } ∷ [])
second_item headers.none is = cc
second_item (headers.last i) is =
    ⊎_elim (λ given. (given.0, ap (λ (m : Mention). m ∷ []) given.1)) (λ bare. let no : ⊥ = cc in absurd no) (bare_item i is)
second_item (headers.more i later) is =
    ⊎_elim (λ given. let no : ⊥ = cc (given.2) in absurd no) (λ bare. let no : ⊥ = cc in absurd no) (bare_item i is)

pub both_items : {symbols rest : List Symbol} {mentions : List Mention}
    → Items symbols mentions rest → symbols ≡ two_types → (value : ℕ) × (mentions ≡ both value)
both_items headers.none is = cc
both_items (headers.last i) is = let first = (char_item i is).1 in let no : ⊥ = cc in absurd no
both_items (headers.more {mentions = mentions} {middle = middle} i later) is =
    let first = char_item i is in
    let ends = first.1 in
    let tail : middle ≡ drop 3 two_types = cc in
    let second = second_item later tail in
    (second.0, ap (λ (m : Mention). m ∷ mentions) first.0 ∙ ap (λ (l : List Mention). record { name = codes "x"; said = item (Some Char) None } ∷ l) second.1)

no_parameter : (value : ℕ) (type : VariableType) → Says (both value) (codes "x") (parameter type) → ⊥
no_parameter value type (zero, lt, e) = let said = ap (λ (m : Mention). m.said) e in cc
no_parameter value type (suc zero, lt, e) = let said = ap (λ (m : Mention). m.said) e in cc
no_parameter value type (suc (suc k), lt, e) = omega arith

two_typed : (value : ℕ) (type : VariableType) → HasType (both value) (codes "x") type → ⊥
two_typed value type h =
    let char : type ≡ Char = h.items Char None (0, lit< tt, refl) in
    ⊎_elim (λ int. let no : ⊥ = cc in no) (no_parameter value type) (h.untyped (Some value) (1, lit< tt, refl))

pub x_has_two_types : {rest : List Symbol} {mentions : List Mention} {type : VariableType}
    → Items two_types mentions rest → HasType mentions (codes "x") type → ⊥
x_has_two_types {type = type} i h =
    let are = both_items i refl in
    two_typed are.0 type (subst (λ (m : List Mention). HasType m (codes "x") type) are.1 h)

-- l is a lock
lock_is_unknown : {names : Names} {name : List ℕ} {variable : ℕ} → IsKnown l_said names name variable → name ≡ codes "l" → ⊥
lock_is_unknown k is =
    k.no_lock (k.typed.parameters Lock (0, lit< tt, ap (λ (n : List ℕ). record { name = n; said = parameter Lock }) (sym is)))

no_lock_atom : {names : Names} {before after : List Process} {symbols rest more : List Symbol} {a : Proposition}
    → Atom l_said names before symbols a rest after → symbols ≡ identifier (codes "l") ∷ more → ⊥
no_lock_atom conditions.always is = cc
no_lock_atom conditions.never is = cc
no_lock_atom (conditions.register_is p r s) is = cc
no_lock_atom (conditions.variable_is {name = name} k s) is = let same : name ≡ codes "l" = cc in lock_is_unknown k same
no_lock_atom (conditions.in_brackets k s) is = cc

no_open_atom : {names : Names} {before after : List Process} {symbols rest more : List Symbol} {a : Proposition}
    → Atom l_said names before symbols a rest after → symbols ≡ sign OpenParen ∷ more → ⊥
no_open_atom conditions.always is = cc
no_open_atom conditions.never is = cc
no_open_atom (conditions.register_is p r s) is = cc
no_open_atom (conditions.variable_is k s) is = cc
no_open_atom (conditions.in_brackets k s) is = cc

mutual
  -- no proposition begins with l
  no_disjoined : {names : Names} {depth : ℕ} {before after : List Process} {symbols rest more : List Symbol} {a : Proposition}
      → Disjoined l_said names depth before symbols a rest after → symbols ≡ identifier (codes "l") ∷ more → ⊥
  no_disjoined (conditions.conjunction c) is = no_conjoined c is
  no_disjoined (conditions.or d c) is = no_disjoined d is

  no_conjoined : {names : Names} {depth : ℕ} {before after : List Process} {symbols rest more : List Symbol} {a : Proposition}
      → Conjoined l_said names depth before symbols a rest after → symbols ≡ identifier (codes "l") ∷ more → ⊥
  no_conjoined (conditions.negation n) is = no_negation n is
  no_conjoined (conditions.and c n) is = no_conjoined c is

  no_negation : {names : Names} {depth : ℕ} {before after : List Process} {symbols rest more : List Symbol} {a : Proposition}
      → Negation l_said names depth before symbols a rest after → symbols ≡ identifier (codes "l") ∷ more → ⊥
  no_negation (conditions.atom a) is = no_lock_atom a is
  no_negation (conditions.not n) is = cc
  no_negation (conditions.parenthesized lt d) is = cc

mutual
  -- nor in parentheses
  no_enclosed : {names : Names} {depth : ℕ} {before after : List Process} {symbols rest more : List Symbol} {a : Proposition}
      → Disjoined l_said names depth before symbols a rest after → symbols ≡ sign OpenParen ∷ identifier (codes "l") ∷ more → ⊥
  no_enclosed (conditions.conjunction c) is = no_enclosed_conjoined c is
  no_enclosed (conditions.or d c) is = no_enclosed d is

  no_enclosed_conjoined : {names : Names} {depth : ℕ} {before after : List Process} {symbols rest more : List Symbol} {a : Proposition}
      → Conjoined l_said names depth before symbols a rest after → symbols ≡ sign OpenParen ∷ identifier (codes "l") ∷ more → ⊥
  no_enclosed_conjoined (conditions.negation n) is = no_enclosed_negation n is
  no_enclosed_conjoined (conditions.and c n) is = no_enclosed_conjoined c is

  no_enclosed_negation : {names : Names} {depth : ℕ} {before after : List Process} {symbols rest more : List Symbol} {a : Proposition}
      → Negation l_said names depth before symbols a rest after → symbols ≡ sign OpenParen ∷ identifier (codes "l") ∷ more → ⊥
  no_enclosed_negation (conditions.atom a) is = no_open_atom a is
  no_enclosed_negation (conditions.not n) is = cc
  no_enclosed_negation {more = more} (conditions.parenthesized {symbols = symbols} lt d) is =
      let inner : symbols ≡ identifier (codes "l") ∷ more = cc in
      no_disjoined d inner

pub no_lock_is_asked : {names : Names} {depth : ℕ} {before after : List Process} {rest : List Symbol} {a : Proposition}
    → Disjoined l_said names depth before lock_asked a rest after → ⊥
no_lock_is_asked d = no_enclosed d refl
