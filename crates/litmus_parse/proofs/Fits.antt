-- What is known of a name fits the type that it has, and a mention that the type allows is noted.
use Rattle.std.proofs.Common.{◌≡◌, ◌≢◌, ◌∙◌, ◌==◌, ℕ, List, Bool, true, false, cond, get_or, Option, Some, None, refl, sym, ap}
use Rattle.std.proofs.Common.{[], subst, arith, eq-eqb}
use Rattle.std.specs.Prelude.{Contains, set}
use Rattle.std.proofs.lemmas.Option.{slice_get-get_or}
use Rattle.litmus_lex.specs.declared.words.VariableType.{VariableType}
use Rattle.litmus_lex.specs.declared.words.VariableType.TheVariants.{Char, Short, Int, Long, Atomic, Lock}
use Rattle.litmus_lex.specs.Front.{◌>>=◌}
use Rattle.litmus_lex.specs.Words.{Symbol, is_same}
use Rattle.litmus_expression.specs.NameReader.{index_of}
use Rattle.litmus_expression.specs.Names.{Names, Numbered}
use Rattle.litmus_expression.proofs.Named.{in_none, nowhere, same_name}
use Rattle.litmus_expression.proofs.Taken.{same_given}
use Rattle.litmus_parse.specs.Entries.{Entry, changed, changed_from, fresh, given, grown, lock_given, named_parameter, named_typed}
use Rattle.litmus_parse.specs.Entries.{named_untyped, noted, odd_type, settled, settled_from, type_number, valued}
use Rattle.litmus_parse.specs.ItemReader.{Heading}
use Rattle.litmus_parse.specs.Mentions.{HasType, Mention, Said, Says, item, parameter}
use Rattle.litmus_parse.specs.Mentioned.{Noted, told}
use Rattle.litmus_parse.specs.VariableReader.{is_lock_type}
use Rattle.litmus_parse.proofs.Numbers.{number_read}
use Rattle.litmus_parse.proofs.Spelled as spelled
use Rattle.litmus_parse.proofs.Tidy.{Grows, TellsMention, Tidy, entry_at, entry_in, noted_tells, numbered_grows}

-- ---- what a type allows

-- what may be said of a name of a type
abbrev pub Allows : VariableType → Said → Type 0
Allows t (item None None) = Unit {0}
Allows t (item None (Some value)) = t ≢ Lock
Allows t (item (Some given) None) = t ≡ given
Allows t (item (Some given) (Some value)) = (t ≡ given) × (t ≢ Lock)
Allows t (parameter given) = t ≡ given

pub allows : (all : List Mention) (name : List ℕ) (t : VariableType) → HasType all name t → (s : Said) → Says all name s → Allows t s
allows all name t has (item None None) says = tt
allows all name t has (item None (Some value)) says = has.unvalued None value says
allows all name t has (item (Some given) None) says = has.items given None says
allows all name t has (item (Some given) (Some value)) says = (has.items given (Some value) says, has.unvalued (Some given) value says)
allows all name t has (parameter given) says = has.parameters given says

-- what is known of a name fits its type: it has no other, no value if it is a lock, and no second one if it is an int
pub record Fit (t : VariableType) (e : Entry) : Type 0 where
  pub type : (u : VariableType) → e.type ≡ Some u → u ≡ t
  pub free : t ≡ Lock → e.is_given ≡ false
  pub even : t ≡ Int → e.is_at_odds ≡ false
  pub odd : e.is_at_odds ≡ true → e.is_untyped ≡ true

pub fresh_fits : (t : VariableType) → Fit t fresh
fresh_fits t = record { type = λ u is. absurd cc; free = λ lock. refl; even = λ int. refl; odd = λ is. absurd cc }

-- a mention makes an entry that fits of one that fits
pub record Goes (t : VariableType) (s : Said) (e : Entry) : Type 0 where
  pub later : Entry
  pub tells : told s e ≡ Some later
  pub fit : Fit t later

neither : (b c : Bool) → b ≡ false → c ≡ false → cond b true c ≡ false
neither true c e f = absurd cc
neither false c e f = f

one_of : (b c : Bool) (P : Type 0) → cond b true c ≡ true → (b ≡ true → P) → (c ≡ true → P) → P
one_of true c P e f g = f refl
one_of false c P e f g = g e

odd_int : (o : Option VariableType) (b : Bool) → ((u : VariableType) → o ≡ Some u → u ≡ Int) → odd_type o b ≡ false
odd_int None b is = refl
odd_int (Some Int) b is = refl
odd_int (Some Char) b is = let e : Char ≡ Int = is Char refl in absurd cc
odd_int (Some Short) b is = let e : Short ≡ Int = is Short refl in absurd cc
odd_int (Some Long) b is = let e : Long ≡ Int = is Long refl in absurd cc
odd_int (Some Atomic) b is = let e : Atomic ≡ Int = is Atomic refl in absurd cc
odd_int (Some Lock) b is = let e : Lock ≡ Int = is Lock refl in absurd cc

odd_untyped : (o : Option VariableType) (b : Bool) → odd_type o b ≡ true → b ≡ true
odd_untyped None b is = absurd cc
odd_untyped (Some Int) b is = absurd cc
odd_untyped (Some Char) b is = is
odd_untyped (Some Short) b is = is
odd_untyped (Some Long) b is = is
odd_untyped (Some Atomic) b is = is
odd_untyped (Some Lock) b is = is

untyped_goes : (t : VariableType) (e : Entry) → Fit t e → Goes t (item None None) e
untyped_goes t e fit = record {
  later = named_untyped e;
  tells = refl;
  fit = record {
    type = fit.type;
    free = fit.free;
    even = λ int. neither e.is_at_odds (odd_type e.type true) (fit.even int) (odd_int e.type true (λ u is. fit.type u is ∙ int));
    odd = λ is. refl;
  };
}

given_goes : (t : VariableType) (e : Entry) (v : ℕ) → t ≢ Lock → Fit t e → Goes t (item None (Some v)) e
unfolding untyped_goes
given_goes t e v no_lock fit =
    let g = untyped_goes t e fit in
    record {
      later = given v false (named_untyped e);
      tells = refl;
      fit = record { type = fit.type; free = λ lock. absurd (no_lock lock); even = g.fit.even; odd = λ is. refl };
    }

-- a type is settled
abbrev with_type : Entry → VariableType → Entry
with_type e t = record e { type = Some t }

same_number : (g t : VariableType) → g ≡ t → (type_number g == type_number t) ≡ true
same_number g t same = eq-eqb (type_number g) (type_number t) (ap (λ (u : VariableType). type_number u) same)

settled_as : (t : VariableType) (e : Entry) (o : Option VariableType) → ((u : VariableType) → o ≡ Some u → u ≡ t)
    → settled_from o t e ≡ Some (with_type e t)
settled_as t e None is = refl
settled_as t e (Some g) is = ap (λ (b : Bool). cond b (Some (with_type e t)) None) (same_number g t (is g refl))

settles : (t : VariableType) (e : Entry) → Fit t e → settled t e ≡ Some (with_type e t)
unfolding settled
settles t e fit = settled_as t e e.type fit.type

typed_goes : (t : VariableType) (e : Entry) → Fit t e → Goes t (item (Some t) None) e
unfolding named_typed
typed_goes t e fit = record {
  later = noted (with_type e t);
  tells = ap (λ (o : Option Entry). o >>= λ f. Some (noted f)) (settles t e fit);
  fit = record {
    type = λ u is. sym (same_given t u is);
    free = fit.free;
    even = λ int. neither e.is_at_odds (odd_type (Some t) e.is_untyped) (fit.even int)
        (odd_int (Some t) e.is_untyped (λ u is. sym (same_given t u is) ∙ int));
    odd = λ is. one_of e.is_at_odds (odd_type (Some t) e.is_untyped) (e.is_untyped ≡ true) is fit.odd
        (odd_untyped (Some t) e.is_untyped);
  };
}

pub no_lock_type : (t : VariableType) → t ≢ Lock → is_lock_type (Some t) ≡ false
no_lock_type Char apart = refl
no_lock_type Short apart = refl
no_lock_type Int apart = refl
no_lock_type Long apart = refl
no_lock_type Atomic apart = refl
no_lock_type Lock apart = absurd (apart refl)

valued_goes : (t : VariableType) (e : Entry) (v : ℕ) → t ≢ Lock → Fit t e → Goes t (item (Some t) (Some v)) e
valued_goes t e v no_lock fit =
    let g = typed_goes t e fit in
    record {
      later = given v true g.later;
      tells = ap (λ (b : Bool). cond b None (named_typed t e >>= λ f. valued v true f)) (no_lock_type t no_lock)
          ∙ ap (λ (o : Option Entry). o >>= λ f. valued v true f) g.tells;
      fit = record { type = g.fit.type; free = g.fit.free; even = g.fit.even; odd = g.fit.odd };
    }

not_given : (t : VariableType) (b : Bool) → (t ≡ Lock → b ≡ false) → lock_given t b ≡ false
not_given Char b free = refl
not_given Short b free = refl
not_given Int b free = refl
not_given Long b free = refl
not_given Atomic b free = refl
not_given Lock b free = free refl

parameter_goes : (t : VariableType) (e : Entry) → Fit t e → Goes t (parameter t) e
unfolding named_parameter
parameter_goes t e fit = record {
  later = record (with_type e t) { is_parameter = true };
  tells = ap (λ (o : Option Entry). o >>= λ f. cond (lock_given t f.is_given) None (Some (record f { is_parameter = true }))) (settles t e fit)
      ∙ ap (λ (b : Bool). cond b None (Some (record (with_type e t) { is_parameter = true }))) (not_given t e.is_given fit.free);
  fit = record { type = λ u is. sym (same_given t u is); free = fit.free; even = fit.even; odd = fit.odd };
}

pub goes : (t : VariableType) (s : Said) (e : Entry) → Allows t s → Fit t e → Goes t s e
goes t (item None None) e is fit = untyped_goes t e fit
goes t (item None (Some v)) e is fit = given_goes t e v is fit
goes t (item (Some g) None) e is fit = subst (λ (u : VariableType). Goes t (item (Some u) None) e) is (typed_goes t e fit)
goes t (item (Some g) (Some v)) e is fit = subst (λ (u : VariableType). Goes t (item (Some u) (Some v)) e) is.0 (valued_goes t e v is.1 fit)
goes t (parameter g) e is fit = subst (λ (u : VariableType). Goes t (parameter u) e) is (parameter_goes t e fit)

-- ---- all names

-- names and a table where what is known of each name fits its types
pub record Fits (all : List Mention) (names : Names) (table : List Entry) : Type 0 where
  pub tidy : Tidy names table
  pub fit : (name : List ℕ) (t : VariableType) → HasType all name t → Fit t (entry_in names table name)

-- what mentions lead to
pub record Behind (all mentions : List Mention) (h : Heading) (rest : List Symbol) (later : Names) : Type 0 where
  pub table : List Entry
  pub fits : Fits all later table
  pub said : spelled.Said mentions h (record { symbols = rest; names = later; table = table })

-- one mention with its number
pub record Notes (all : List Mention) (m : Mention) (names : Names) (table : List Entry) (n : ℕ) (later : Names) : Type 0 where
  pub after : List Entry
  pub numbered : Noted m names table later after
  pub number : numbered.number ≡ n
  pub fits : Fits all later after

module _ (all : List Mention) (m : Mention) (names later : Names) (table : List Entry) (n : ℕ) (fits : Fits all names table)
    (numbered : Numbered 32 names m.name n later) (among : Contains all m) (t : VariableType) (has : HasType all m.name t) where
  abbrev mid : List Entry
  mid = grown table (index_of names m.name)

  grows : Grows names table m.name n later
  grows = numbered_grows names table m.name n later fits.tidy numbered

  entry_is : get_or mid n fresh ≡ entry_in names table m.name
  entry_is = sym (ap (λ (o : Option ℕ). entry_at mid o) grows.found) ∙ grows.same m.name

  go : Goes t m.said (get_or mid n fresh)
  go = goes t m.said (get_or mid n fresh) (allows all m.name t has m.said among)
      (subst (λ (e : Entry). Fit t e) (sym entry_is) (fits.fit m.name t has))

  changes : changed (told m.said) mid n ≡ Some (set mid n go.later)
  unfolding changed
  changes =
      ap (λ (o : Option Entry). changed_from (told m.said) mid n o) (slice_get-get_or mid n fresh grows.within)
      ∙ ap (λ (o : Option Entry). o >>= λ f. Some (set mid n f)) go.tells

  noted_so : Noted m names table later (set mid n go.later)
  noted_so = record { number = n; numbered = number_read m.name n names later fits.tidy.differ numbered; changes = changes }

  tells_so : TellsMention m names table n later (set mid n go.later)
  unfolding noted_so
  tells_so = noted_tells m names later table (set mid n go.later) noted_so fits.tidy

  -- what was known of a name, and what is known of it now
  still_fits : (name : List ℕ) (u : VariableType) → HasType all name u → (b : Bool) → is_same m.name name ≡ b
      → cond b (told m.said (entry_in names table name)) (Some (entry_in names table name))
      ≡ Some (entry_in later (set mid n go.later) name)
      → Fit u (entry_in later (set mid n go.later) name)
  still_fits name u of_name true same tells =
      let named : name ≡ m.name = sym (same_name m.name name same) in
      let g = goes u m.said (entry_in names table name)
      (allows all name u of_name m.said (subst (λ (x : List ℕ). Says all x m.said) (sym named) among)) (fits.fit name u of_name) in
      subst (λ (e : Entry). Fit u e) (same_given g.later (entry_in later (set mid n go.later) name) (sym g.tells ∙ tells)) g.fit
  still_fits name u of_name false other tells =
      subst (λ (e : Entry). Fit u e) (same_given (entry_in names table name) (entry_in later (set mid n go.later) name) tells)
      (fits.fit name u of_name)

  pub notes : Notes all m names table n later
  unfolding noted_so
  notes = record {
    after = set mid n go.later;
    numbered = noted_so;
    number = refl;
    fits = record {
      tidy = tells_so.tidy;
      fit = λ name u of_name. still_fits name u of_name (is_same m.name name) refl (tells_so.tells name);
    };
  }

-- before all mentions
pub fits_at_first : (all : List Mention) → Fits all [] []
fits_at_first all = record {
  tidy = record { differ = tt; few = omega arith; sized = refl };
  fit = λ name t has. subst (λ (o : Option ℕ). Fit t (entry_at [] o)) (sym (nowhere [] name (in_none name))) (fresh_fits t);
}
