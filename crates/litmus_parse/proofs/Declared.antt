-- What is known of a name in the end is the variable that the grammar gives it.
use Rattle.std.proofs.Common.{inl, inr, ◌≡◌, ◌⊎◌, ◌∙◌, ℕ, zero, suc, List, [], ◌∷◌, Bool, true, false, cond, get_or, Option, Some, None, length}
use Rattle.std.proofs.Common.{refl, sym, ap, subst, arith}
use Rattle.std.specs.Prelude.{Contains, slice_get, unwrap_or}
use Rattle.litmus_syntax.specs.declared.program.Contents.{Contents}
use Rattle.litmus_syntax.specs.declared.program.Variable.{Variable}
use Rattle.litmus_lex.specs.declared.words.VariableType.{VariableType}
use Rattle.litmus_lex.specs.declared.words.VariableType.TheVariants.{Int}
use Rattle.litmus_lex.specs.Front.{◌>>=◌}
use Rattle.litmus_lex.specs.Words.{is_same}
use Rattle.litmus_expression.specs.Names.{Names}
use Rattle.litmus_expression.proofs.Fewer.{at_last, behind_it, either_way, unless_it}
use Rattle.litmus_expression.proofs.Named.{among, in_none, in_rest, in_front, is_itself, same_name}
use Rattle.litmus_expression.proofs.Taken.{same_given}
use Rattle.litmus_parse.specs.Entries.{Entry, fresh, given, has_two_types, lock_given, named_parameter, named_typed, named_untyped, noted}
use Rattle.litmus_parse.specs.Entries.{settled, valued}
use Rattle.litmus_parse.specs.Mentions as mentions
use Rattle.litmus_parse.specs.Mentions.{AreDeclared, HasType, IsDeclared, Mention, Said, Says, contents_of, item, last_value, parameter}
use Rattle.litmus_parse.specs.Variables.{has_contradiction, variable_in, variables_in}
use Rattle.litmus_parse.specs.Mentioned.{all_told, told, told_of}
use Rattle.litmus_parse.specs.VariableReader.{is_lock_type}
use Rattle.litmus_parse.proofs.Fits.{Fit}
use Rattle.litmus_parse.proofs.Known.{Ended, has_type, not_both, settles, value_is}

-- ---- what one mention shows

record Shows (s : Said) (e f : Entry) : Type 0 where
  untyped : f.is_untyped ≡ true → (e.is_untyped ≡ true) ⊎ ((v : Option ℕ) × (s ≡ item None v))
  stays : e.is_parameter ≡ true → f.is_parameter ≡ true
  parameter : (t : VariableType) → s ≡ parameter t → f.is_parameter ≡ true

typed_shows : (t : VariableType) (e f : Entry) → named_typed t e ≡ Some f → Shows (item (Some t) None) e f
unfolding named_typed
typed_shows t e f is =
    behind_it (settled t e) (λ g. Some (noted g)) (λ (g : Entry). Shows (item (Some t) None) e g) f is (λ g set is.
    at_last (noted g) (λ (g : Entry). Shows (item (Some t) None) e g) f is
    (subst (λ (g : Entry). Shows (item (Some t) None) e (noted g)) (sym (settles t e g set).is) (record {
      untyped = λ is. inl is;
      stays = λ is. is;
      parameter = λ u same. absurd cc;
    })))

valued_shows : (t : VariableType) (v : ℕ) (e f : Entry) → Shows (item (Some t) None) e f → Shows (item (Some t) (Some v)) e (given v true f)
valued_shows t v e f s = record {
  untyped = λ is. elim (s.untyped is) [
    | inl before ↦ inl before
    | inr never ↦ absurd (no_untyped t never.0 never.1)
  ];
  stays = s.stays;
  parameter = λ u same. absurd cc;
}
  where
    no_untyped : (t : VariableType) (v : Option ℕ) → item (Some t) None ≡ item None v → ⊥
    no_untyped t v e = cc

parameter_shows : (t : VariableType) (e f : Entry) → named_parameter t e ≡ Some f → Shows (parameter t) e f
unfolding named_parameter
parameter_shows t e f is =
    behind_it (settled t e) (λ g. cond (lock_given t g.is_given) None (Some (record g { is_parameter = true })))
    (λ (g : Entry). Shows (parameter t) e g) f is (λ g set is.
    unless_it (lock_given t g.is_given) (Some (record g { is_parameter = true })) (λ (g : Entry). Shows (parameter t) e g) f is (λ free is.
    at_last (record g { is_parameter = true }) (λ (g : Entry). Shows (parameter t) e g) f is
    (subst (λ (g : Entry). Shows (parameter t) e (record g { is_parameter = true })) (sym (settles t e g set).is) (record {
      untyped = λ is. inl is;
      stays = λ is. refl;
      parameter = λ u same. refl;
    }))))

shows : (s : Said) (e f : Entry) → told s e ≡ Some f → Shows s e f
shows (item None None) e f is =
    at_last (named_untyped e) (λ (g : Entry). Shows (item None None) e g) f is
    (record { untyped = λ is. inr (None, refl); stays = λ is. is; parameter = λ u same. absurd cc })
shows (item None (Some v)) e f is =
    at_last (given v false (named_untyped e)) (λ (g : Entry). Shows (item None (Some v)) e g) f is
    (record { untyped = λ is. inr (Some v, refl); stays = λ is. is; parameter = λ u same. absurd cc })
shows (item (Some t) None) e f is = typed_shows t e f is
shows (item (Some t) (Some v)) e f is =
    unless_it (is_lock_type (Some t)) (named_typed t e >>= λ g. valued v true g) (λ (g : Entry). Shows (item (Some t) (Some v)) e g) f is
    (λ no_lock is.
    behind_it (named_typed t e) (λ g. valued v true g) (λ (g : Entry). Shows (item (Some t) (Some v)) e g) f is (λ g typed is.
    at_last (given v true g) (λ (g : Entry). Shows (item (Some t) (Some v)) e g) f is (valued_shows t v e g (typed_shows t e g typed))))
shows (parameter t) e f is = parameter_shows t e f is

-- ---- what all mentions show

pub record AllShow (ms : List Mention) (name : List ℕ) (e g : Entry) : Type 0 where
  pub untyped : g.is_untyped ≡ true → (e.is_untyped ≡ true) ⊎ ((v : Option ℕ) × Says ms name (item None v))
  pub stays : e.is_parameter ≡ true → g.is_parameter ≡ true
  pub parameter : (t : VariableType) → Says ms name (parameter t) → g.is_parameter ≡ true

abbrev mention : List ℕ → Said → Mention
mention name said = record { name = name; said = said }

here_shows : (m : Mention) (ms : List Mention) (name : List ℕ) (e f g : Entry) → is_same m.name name ≡ true → Shows m.said e f
    → AllShow ms name f g → AllShow (m ∷ ms) name e g
here_shows m ms name e f g same s later =
    let named : m.name ≡ name = same_name m.name name same in
    record {
      untyped = λ is. elim (later.untyped is) [
        | inl before ↦ elim (s.untyped before) [
          | inl first ↦ inl first
          | inr here ↦ inr (
            here.0,
            subst (λ (x : Mention). Contains (m ∷ ms) x) (ap (λ (x : List ℕ). mention x m.said) named ∙ ap (λ (x : Said). mention name x) here.1)
                (in_front m ms),
          )
        ]
        | inr there ↦ inr (there.0, in_rest m (mention name (item None there.0)) ms there.1)
      ];
      stays = λ is. later.stays (s.stays is);
      parameter = λ t says. among m (mention name (parameter t)) ms (g.is_parameter ≡ true) says
          (λ is. later.stays (s.parameter t (ap (λ (x : Mention). x.said) is)))
          (λ rest. later.parameter t rest);
    }

later_shows : (m : Mention) (ms : List Mention) (name : List ℕ) (e g : Entry) → is_same m.name name ≡ false → AllShow ms name e g
    → AllShow (m ∷ ms) name e g
later_shows m ms name e g other later = record {
  untyped = λ is. elim (later.untyped is) [
    | inl before ↦ inl before
    | inr there ↦ inr (there.0, in_rest m (mention name (item None there.0)) ms there.1)
  ];
  stays = later.stays;
  parameter = λ t says. among m (mention name (parameter t)) ms (g.is_parameter ≡ true) says
      (λ is. absurd (not_both (is_same m.name name) (ap (λ (x : Mention). is_same x.name name) is ∙ is_itself name) other))
      (λ rest. later.parameter t rest);
}

pub all_show : (ms : List Mention) (name : List ℕ) (e g : Entry) → all_told ms name e ≡ Some g → AllShow ms name e g
all_show [] name e g is =
    subst (λ (h : Entry). AllShow [] name e h) (same_given e g is) (record {
      untyped = λ is. inl is;
      stays = λ is. is;
      parameter = λ t says. absurd (in_none (mention name (parameter t)) says);
    })
all_show (m ∷ ms) name e g is =
    behind_it (told_of name m e) (λ f. all_told ms name f) (λ (h : Entry). AllShow (m ∷ ms) name e h) g is (λ f one is.
    let later = all_show ms name f g is in
    either_way (is_same m.name name) (told m.said e) (Some e) (λ (h : Entry). f ≡ h → AllShow (m ∷ ms) name e g) f one
    (λ same one is. here_shows m ms name e f g same (shows m.said e f one) later)
    (λ other one is. later_shows m ms name e g other (subst (λ (h : Entry). AllShow ms name h g) (sym (same_given e f one)) later))
    refl)

-- ---- no name has two types

two_types : (e : Entry) (b c : Bool) → e.is_parameter ≡ b → e.is_at_odds ≡ c → (b ≡ false → c ≡ false) → has_two_types e ≡ false
two_types e true c is odd only = ap (λ (b : Bool). cond b false e.is_at_odds) is
two_types e false c is odd only = ap (λ (b : Bool). cond b false e.is_at_odds) is ∙ odd ∙ only refl

module _ (all : List Mention) (name : List ℕ) (g : Entry) (told : all_told all name fresh ≡ Some g) (t : VariableType)
    (has : HasType all name t) (fit : Fit t g) where
  show : AllShow all name fresh g
  show = all_show all name fresh g told

  even_if : (c : Bool) → g.is_at_odds ≡ c → g.is_parameter ≡ false → c ≡ false
  even_if false odd none = refl
  even_if true odd none = elim (show.untyped (fit.odd odd)) [
    | inl never ↦ absurd cc
    | inr said ↦ elim (has.untyped said.0 said.1) [
      | inl int ↦ absurd (not_both g.is_at_odds odd (fit.even int))
      | inr says ↦ absurd (not_both g.is_parameter (show.parameter t says) none)
    ]
  ]

  pub one_type : has_two_types g ≡ false
  one_type = two_types g g.is_parameter g.is_at_odds refl refl (even_if g.is_at_odds refl)

-- a name that is mentioned has one type
pub same_type : (all : List Mention) (name : List ℕ) (t u : VariableType) → HasType all name t → HasType all name u → (s : Said)
    → Says all name s → t ≡ u
same_type all name t u one two (item (Some g) v) says = one.items g v says ∙ sym (two.items g v says)
same_type all name t u one two (parameter g) says = one.parameters g says ∙ sym (two.parameters g says)
same_type all name t u one two (item None v) says = elim (one.untyped v says) [
  | inr is ↦ sym (two.parameters t is)
  | inl int ↦ elim (two.untyped v says) [
    | inr is ↦ one.parameters u is
    | inl also ↦ int ∙ sym also
  ]
]

-- ---- variables

-- what is known of a name
pub record Ends (all : List Mention) (name : List ℕ) (e : Entry) : Type 0 where
  pub ended : Ended all name e
  pub peace : has_two_types e ≡ false
  pub said : Said
  pub says : Says all name said

abbrev pub EndsAt : List Mention → Names → List Entry → Type 0
EndsAt all names table = (k : ℕ) (name : List ℕ) → slice_get names k ≡ Some name → Ends all name (get_or table k fresh)

variable_is : (all : List Mention) (name : List ℕ) (e : Entry) (v : Variable) → IsDeclared all name v → Ends all name e → variable_in name e ≡ v
variable_is all name e v is ends =
    let typed = same_type all name (unwrap_or e.type Int) is.type (has_type all name e ends.ended ends.peace) is.typed ends.said ends.says in
    let contents : contents_of (unwrap_or e.type Int) (unwrap_or e.value 0) ≡ v.contents =
    ap (λ (t : VariableType). contents_of t (unwrap_or e.value 0)) typed
    ∙ ap (λ (n : ℕ). contents_of is.type n) (sym (value_is all name e ends.ended ends.peace))
    ∙ sym is.contents in
    ap (λ (n : List ℕ). record { name = n; contents = contents_of (unwrap_or e.type Int) (unwrap_or e.value 0) }) (sym is.name_is)
    ∙ ap (λ (c : Contents). record { name = v.name; contents = c }) contents

pub variables_are : (all : List Mention) {names : Names} {variables : List Variable} → AreDeclared all names variables → (table : List Entry)
    → length table ≡ length names → EndsAt all names table → variables_in names table ≡ variables
variables_are all mentions.none table sized ends = refl
variables_are all (mentions.more {names} {variables} is rest) [] sized ends = absurd (omega arith)
variables_are all (mentions.more {names} {variables} {name} {variable} is rest) (e ∷ table) sized ends =
    ap (λ (v : Variable). v ∷ variables_in names table) (variable_is all name e variable is (ends zero name refl))
    ∙ ap (λ (l : List Variable). variable ∷ l) (variables_are all rest table (omega arith) (λ k other there. ends (suc k) other there))

pub no_contradiction : (all : List Mention) (names : Names) (table : List Entry) → length table ≡ length names → EndsAt all names table
    → has_contradiction table ≡ false
no_contradiction all names [] sized ends = refl
no_contradiction all [] (e ∷ table) sized ends = absurd (omega arith)
no_contradiction all (name ∷ names) (e ∷ table) sized ends =
    ap (λ (b : Bool). cond b true (has_contradiction table)) (ends zero name refl).peace
    ∙ no_contradiction all names table (omega arith) (λ k other there. ends (suc k) other there)
