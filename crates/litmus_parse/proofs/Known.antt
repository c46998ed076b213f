-- What mentions make of what is known of a name is what the grammar says of it.
use Rattle.std.proofs.Common.{inl, inr, ◌≡◌, ◌≢◌, ◌⊎◌, ◌∙◌, ◌++◌, ◌==◌, ℕ, List, [], ◌∷◌, Bool, true, false, cond, Option, Some, None, refl}
use Rattle.std.proofs.Common.{sym, ap, subst}
use Rattle.std.specs.Prelude.{Contains, unwrap_or}
use Rattle.std.proofs.lemmas.Bool.{eqb-true}
use Rattle.litmus_lex.specs.declared.words.VariableType.{VariableType}
use Rattle.litmus_lex.specs.declared.words.VariableType.TheVariants.{Char, Short, Int, Long, Atomic, Lock}
use Rattle.litmus_lex.specs.Front.{◌>>=◌}
use Rattle.litmus_lex.specs.Words.{is_same}
use Rattle.litmus_expression.proofs.Fewer.{at_last, behind_it, either_way, unless_it}
use Rattle.litmus_expression.proofs.Named.{among, in_front, in_none, in_rest, is_itself, same_name}
use Rattle.litmus_expression.proofs.Taken.{same_given}
use Rattle.litmus_parse.specs.Entries.{Entry, fresh, given, has_two_types, lock_given, named_parameter, named_typed, named_untyped, noted}
use Rattle.litmus_parse.specs.Entries.{odd_type, settled, settled_from, type_number, valued}
use Rattle.litmus_parse.specs.Mentions.{HasType, Mention, Said, Says, item, last_value, parameter, value_after}
use Rattle.litmus_parse.specs.Mentioned.{all_told, told, told_of}
use Rattle.litmus_parse.specs.VariableReader.{is_lock_type}

-- ---- one mention

-- what one mention says of an entry behind it
abbrev Of : Said → Entry → Type 0
Of (item None None) e = e.is_untyped ≡ true
Of (item None (Some value)) e = (e.is_untyped ≡ true) × (e.is_given ≡ true)
Of (item (Some type) None) e = e.type ≡ Some type
Of (item (Some type) (Some value)) e = (e.type ≡ Some type) × (type ≢ Lock)
Of (parameter type) e = e.type ≡ Some type

-- what stays of an entry
record Keeps (e f : Entry) : Type 0 where
  type : (t : VariableType) → e.type ≡ Some t → f.type ≡ Some t
  untyped : e.is_untyped ≡ true → f.is_untyped ≡ true
  given : e.is_given ≡ true → f.is_given ≡ true

of_later : (s : Said) (e f : Entry) → Keeps e f → Of s e → Of s f
of_later (item None None) e f keeps of = keeps.untyped of
of_later (item None (Some value)) e f keeps of = (keeps.untyped of.0, keeps.given of.1)
of_later (item (Some type) None) e f keeps of = keeps.type type of
of_later (item (Some type) (Some value)) e f keeps of = (keeps.type type of.0, of.1)
of_later (parameter type) e f keeps of = keeps.type type of

-- where its items contradict each other, this is known, or it is a parameter
abbrev Odd : Entry → Type 0
Odd e = (e.is_parameter ≡ true) ⊎ (e.is_at_odds ≡ false → odd_type e.type e.is_untyped ≡ false)

abbrev Parameters : Said → Entry → Type 0
Parameters (item type value) e = ⊥
Parameters (parameter type) e = e.type ≡ Some type

record Step (s : Said) (e f : Entry) : Type 0 where
  of : Of s f
  keeps : Keeps e f
  odd : Odd e → Odd f
  value : unwrap_or f.value 0 ≡ value_after s (unwrap_or e.value 0)
  parameters : f.is_parameter ≡ true → (e.is_parameter ≡ true) ⊎ Parameters s f

kept : (e : Entry) → Keeps e e
kept e = record { type = λ t is. is; untyped = λ is. is; given = λ is. is }

or_false : (b c : Bool) → cond b true c ≡ false → c ≡ false
or_false true c e = absurd cc
or_false false c e = e

-- a type is settled
type_there : (t : VariableType) → cond (type_number t == 0) Char (cond (type_number t == 1) Short (cond (type_number t == 2) Int
    (cond (type_number t == 3) Long (cond (type_number t == 4) Atomic Lock)))) ≡ t
type_there Char = refl
type_there Short = refl
type_there Int = refl
type_there Long = refl
type_there Atomic = refl
type_there Lock = refl

same_type : (g t : VariableType) → type_number g ≡ type_number t → g ≡ t
same_type g t e =
    sym (type_there g)
    ∙ ap (λ (n : ℕ). cond (n == 0) Char (cond (n == 1) Short (cond (n == 2) Int (cond (n == 3) Long (cond (n == 4) Atomic Lock))))) e
    ∙ type_there t

abbrev pub with_type : Entry → VariableType → Entry
with_type e t = record e { type = Some t }

pub record Settled (t : VariableType) (e f : Entry) : Type 0 where
  pub is : f ≡ with_type e t
  pub before : (u : VariableType) → e.type ≡ Some u → u ≡ t

settled_is : (t : VariableType) (e f : Entry) (o : Option VariableType) → e.type ≡ o → settled_from o t e ≡ Some f → Settled t e f
settled_is t e f None none s = record { is = sym (same_given (with_type e t) f s); before = λ u is. absurd (no_type u (sym none ∙ is)) }
  where
    no_type : (u : VariableType) → None ≡ Some u → ⊥
    no_type u e = cc
settled_is t e f (Some g) given s =
    either_way (type_number g == type_number t) (Some (with_type e t)) None (λ (h : Entry). Settled t e h) f s
    (λ same s. at_last (with_type e t) (λ (h : Entry). Settled t e h) f s (record {
      is = refl;
      before = λ u is. same_given u g (sym is ∙ given) ∙ same_type g t (eqb-true (type_number g) (type_number t) same);
    }))
    (λ other s. absurd cc)

pub settles : (t : VariableType) (e f : Entry) → settled t e ≡ Some f → Settled t e f
unfolding settled
settles t e f s = settled_is t e f e.type refl s

-- ---- each kind of mention

untyped_step : (e : Entry) → Step (item None None) e (named_untyped e)
untyped_step e = record {
  of = refl;
  keeps = record { type = λ t is. is; untyped = λ is. refl; given = λ is. is };
  odd = λ odd. inr (λ none. or_false e.is_at_odds (odd_type e.type true) none);
  value = refl;
  parameters = λ is. inl is;
}

given_step : (e : Entry) (v : ℕ) → Step (item None (Some v)) e (given v false (named_untyped e))
given_step e v = record {
  of = (refl, refl);
  keeps = record { type = λ t is. is; untyped = λ is. refl; given = λ is. refl };
  odd = λ odd. inr (λ none. or_false e.is_at_odds (odd_type e.type true) none);
  value = refl;
  parameters = λ is. inl is;
}

typed_step : (t : VariableType) (e f : Entry) → named_typed t e ≡ Some f → Step (item (Some t) None) e f
unfolding named_typed
typed_step t e f s =
    behind_it (settled t e) (λ g. Some (noted g)) (λ (g : Entry). Step (item (Some t) None) e g) f s (λ g is s.
    let set = settles t e g is in
    at_last (noted g) (λ (g : Entry). Step (item (Some t) None) e g) f s
    (subst (λ (g : Entry). Step (item (Some t) None) e (noted g)) (sym set.is) (record {
      of = refl;
      keeps = record { type = λ u is. ap (λ (v : VariableType). Some v) (sym (set.before u is)); untyped = λ is. is; given = λ is. is };
      odd = λ odd. inr (λ none. or_false e.is_at_odds (odd_type (Some t) e.is_untyped) none);
      value = refl;
      parameters = λ is. inl is;
    })))

-- a type with a value
valued_step : (t : VariableType) (v : ℕ) (e f : Entry) → t ≢ Lock → Step (item (Some t) None) e f
    → Step (item (Some t) (Some v)) e (given v true f)
valued_step t v e f no_lock s = record {
  of = (s.of, no_lock);
  keeps = record { type = s.keeps.type; untyped = s.keeps.untyped; given = s.keeps.given };
  odd = λ odd. s.odd odd;
  value = refl;
  parameters = λ is. s.parameters is;
}

lock_true : (t : VariableType) → t ≡ Lock → is_lock_type (Some t) ≡ true
lock_true t is = ap (λ (u : VariableType). is_lock_type (Some u)) is

pub not_both : (b : Bool) → b ≡ true → b ≡ false → ⊥
not_both b e f = cc

parameter_step : (t : VariableType) (e f : Entry) → named_parameter t e ≡ Some f → Step (parameter t) e f
unfolding named_parameter
parameter_step t e f s =
    behind_it (settled t e) (λ g. cond (lock_given t g.is_given) None (Some (record g { is_parameter = true })))
    (λ (g : Entry). Step (parameter t) e g) f s (λ g is s.
    let set = settles t e g is in
    unless_it (lock_given t g.is_given) (Some (record g { is_parameter = true })) (λ (g : Entry). Step (parameter t) e g) f s (λ free s.
    at_last (record g { is_parameter = true }) (λ (g : Entry). Step (parameter t) e g) f s
    (subst (λ (g : Entry). Step (parameter t) e (record g { is_parameter = true })) (sym set.is) (record {
      of = refl;
      keeps = record { type = λ u is. ap (λ (v : VariableType). Some v) (sym (set.before u is)); untyped = λ is. is; given = λ is. is };
      odd = λ odd. inl refl;
      value = refl;
      parameters = λ is. inr refl;
    }))))

step : (s : Said) (e f : Entry) → told s e ≡ Some f → Step s e f
step (item None None) e f is = at_last (named_untyped e) (λ (g : Entry). Step (item None None) e g) f is (untyped_step e)
step (item None (Some v)) e f is = at_last (given v false (named_untyped e)) (λ (g : Entry). Step (item None (Some v)) e g) f is
    (given_step e v)
step (item (Some t) None) e f is = typed_step t e f is
step (item (Some t) (Some v)) e f is =
    unless_it (is_lock_type (Some t)) (named_typed t e >>= λ g. valued v true g) (λ (g : Entry). Step (item (Some t) (Some v)) e g) f is
    (λ no_lock is.
    behind_it (named_typed t e) (λ g. valued v true g) (λ (g : Entry). Step (item (Some t) (Some v)) e g) f is (λ g typed is.
    at_last (given v true g) (λ (g : Entry). Step (item (Some t) (Some v)) e g) f is
    (valued_step t v e g (λ lock. not_both (is_lock_type (Some t)) (lock_true t lock) no_lock) (typed_step t e g typed))))
step (parameter t) e f is = parameter_step t e f is

-- ---- all mentions

-- what mentions make of an entry
pub record Made (mentions : List Mention) (name : List ℕ) (e g : Entry) : Type 0 where
  of : (s : Said) → Says mentions name s → Of s g
  keeps : Keeps e g
  odd : Odd e → Odd g
  value : last_value mentions name (unwrap_or e.value 0) ≡ unwrap_or g.value 0
  parameters : g.is_parameter ≡ true → (e.is_parameter ≡ true) ⊎ ((t : VariableType) × Says mentions name (parameter t) × (g.type ≡ Some t))

keeps_on : (e f g : Entry) → Keeps e f → Keeps f g → Keeps e g
keeps_on e f g one two = record {
  type = λ t is. two.type t (one.type t is);
  untyped = λ is. two.untyped (one.untyped is);
  given = λ is. two.given (one.given is);
}

abbrev mention : List ℕ → Said → Mention
mention name said = record { name = name; said = said }

parameter_said : (s : Said) (f g : Entry) (m : Mention) (name : List ℕ) (mentions : List Mention) → m ≡ mention name s → Keeps f g
    → Parameters s f
    → (t : VariableType) × Says (m ∷ mentions) name (parameter t) × (g.type ≡ Some t)
parameter_said (item type value) f g m name mentions is keeps none = absurd none
parameter_said (parameter t) f g m name mentions is keeps type =
    (t, subst (λ (x : Mention). Contains (m ∷ mentions) x) is (in_front m mentions), keeps.type t type)

made_here : (m : Mention) (mentions : List Mention) (name : List ℕ) (e f g : Entry) → m.name ≡ name → Step m.said e f
    → Made mentions name f g
    → is_same m.name name ≡ true → Made (m ∷ mentions) name e g
made_here m mentions name e f g named s later same = record {
  of = λ said says. among m (mention name said) mentions (Of said g) says
      (λ is. of_later said f g later.keeps (subst (λ (x : Said). Of x f) (ap (λ (x : Mention). x.said) is) s.of))
      (λ rest. later.of said rest);
  keeps = keeps_on e f g s.keeps later.keeps;
  odd = λ odd. later.odd (s.odd odd);
  value = ap (λ (b : Bool). last_value mentions name (cond b (value_after m.said (unwrap_or e.value 0)) (unwrap_or e.value 0))) same
      ∙ ap (λ (v : ℕ). last_value mentions name v) (sym s.value) ∙ later.value;
  parameters = λ is. elim (later.parameters is) [
    | inl before ↦ elim (s.parameters before) [
      | inl first ↦ inl first
      | inr here ↦ inr (parameter_said m.said f g m name mentions (ap (λ (n : List ℕ). mention n m.said) named) later.keeps here)
    ]
    | inr there ↦ inr (there.0, in_rest m (mention name (parameter there.0)) mentions there.1, there.2)
  ];
}

made_later : (m : Mention) (mentions : List Mention) (name : List ℕ) (e g : Entry) → is_same m.name name ≡ false → Made mentions name e g
    → Made (m ∷ mentions) name e g
made_later m mentions name e g other later = record {
  of = λ said says. among m (mention name said) mentions (Of said g) says
      (λ is. absurd (not_both (is_same m.name name) (ap (λ (x : Mention). is_same x.name name) is ∙ is_itself name) other))
      (λ rest. later.of said rest);
  keeps = later.keeps;
  odd = later.odd;
  value = ap (λ (b : Bool). last_value mentions name (cond b (value_after m.said (unwrap_or e.value 0)) (unwrap_or e.value 0))) other
      ∙ later.value;
  parameters = λ is. elim (later.parameters is) [
    | inl before ↦ inl before
    | inr there ↦ inr (there.0, in_rest m (mention name (parameter there.0)) mentions there.1, there.2)
  ];
}

pub made : (mentions : List Mention) (name : List ℕ) (e g : Entry) → all_told mentions name e ≡ Some g → Made mentions name e g
made [] name e g is =
    subst (λ (h : Entry). Made [] name e h) (same_given e g is) (record {
      of = λ said says. absurd (in_none (mention name said) says);
      keeps = kept e;
      odd = λ odd. odd;
      value = refl;
      parameters = λ is. inl is;
    })
made (m ∷ mentions) name e g is =
    behind_it (told_of name m e) (λ f. all_told mentions name f) (λ (h : Entry). Made (m ∷ mentions) name e h) g is (λ f one is.
    let later = made mentions name f g is in
    either_way (is_same m.name name) (told m.said e) (Some e) (λ (h : Entry). f ≡ h → Made (m ∷ mentions) name e g) f one
    (λ same one is. made_here m mentions name e f g (same_name m.name name same) (step m.said e f one) later same)
    (λ other one is. made_later m mentions name e g other (subst (λ (h : Entry). Made mentions name h g) (sym (same_given e f one)) later))
    refl)

-- ---- items come before parameters

abbrev pub IsItem : Said → Type 0
IsItem (item type value) = Unit {0}
IsItem (parameter type) = ⊥

abbrev pub IsParameter : Said → Type 0
IsParameter (item type value) = ⊥
IsParameter (parameter type) = Unit {0}

abbrev pub AreItems : List Mention → Type 0
AreItems [] = Unit {0}
AreItems (m ∷ mentions) = IsItem m.said × AreItems mentions

abbrev pub AreParameters : List Mention → Type 0
AreParameters [] = Unit {0}
AreParameters (m ∷ mentions) = IsParameter m.said × AreParameters mentions

-- no parameter is a lock that an item without a type gave a value
abbrev Free : Entry → Type 0
Free e = e.type ≡ Some Lock → e.is_given ≡ true → e.is_parameter ≡ false

no_item : (s : Said) (f : Entry) → IsItem s → Parameters s f → ⊥
no_item (item type value) f is here = here
no_item (parameter type) f is here = is

still_none : (s : Said) (e f : Entry) (b : Bool) → IsItem s → told s e ≡ Some f → e.is_parameter ≡ false → f.is_parameter ≡ b
    → f.is_parameter ≡ false
still_none s e f false is tells none_is now = now
still_none s e f true is tells none_is now =
    elim ((step s e f tells).parameters now) [
      | inl before ↦ absurd (not_both e.is_parameter before none_is)
      | inr here ↦ absurd (no_item s f is here)
    ]

item_stays : (s : Said) (e f : Entry) → IsItem s → told s e ≡ Some f → e.is_parameter ≡ false → f.is_parameter ≡ false
item_stays s e f is tells none_is = still_none s e f f.is_parameter is tells none_is refl

items_stay : (mentions : List Mention) (name : List ℕ) (e g : Entry) → AreItems mentions → all_told mentions name e ≡ Some g
    → e.is_parameter ≡ false
    → g.is_parameter ≡ false
items_stay [] name e g are is none_is = subst (λ (h : Entry). h.is_parameter ≡ false) (same_given e g is) none_is
items_stay (m ∷ mentions) name e g are is none_is =
    behind_it (told_of name m e) (λ f. all_told mentions name f) (λ (h : Entry). h.is_parameter ≡ false) g is (λ f one is.
    items_stay mentions name f g are.1 is
    (either_way (is_same m.name name) (told m.said e) (Some e) (λ (h : Entry). h.is_parameter ≡ false) f one
    (λ same one. item_stays m.said e f are.0 one none_is)
    (λ other one. subst (λ (h : Entry). h.is_parameter ≡ false) (same_given e f one) none_is)))

lock_free : (t : VariableType) (b : Bool) → lock_given t b ≡ false → t ≡ Lock → b ≡ false
lock_free Lock b e is = e
lock_free Char b e is = absurd cc
lock_free Short b e is = absurd cc
lock_free Int b e is = absurd cc
lock_free Long b e is = absurd cc
lock_free Atomic b e is = absurd cc

named_free : (t : VariableType) (e f : Entry) → named_parameter t e ≡ Some f → Free f
unfolding named_parameter
named_free t e f tells =
    behind_it (settled t e) (λ g. cond (lock_given t g.is_given) None (Some (record g { is_parameter = true }))) Free f tells (λ g is tells.
    let set = settles t e g is in
    unless_it (lock_given t g.is_given) (Some (record g { is_parameter = true })) Free f tells (λ free tells.
    at_last (record g { is_parameter = true }) Free f tells
    (λ lock given. absurd (not_both g.is_given given (lock_free t g.is_given free
    (same_given t Lock (sym (ap (λ (h : Entry). h.type) set.is) ∙ lock)))))))

parameter_free : (s : Said) (e f : Entry) → IsParameter s → told s e ≡ Some f → Free f
parameter_free (item type value) e f is tells = absurd is
parameter_free (parameter t) e f is tells = named_free t e f tells

parameters_free : (mentions : List Mention) (name : List ℕ) (e g : Entry) → AreParameters mentions → all_told mentions name e ≡ Some g
    → Free e → Free g
parameters_free [] name e g are is free = subst Free (same_given e g is) free
parameters_free (m ∷ mentions) name e g are is free =
    behind_it (told_of name m e) (λ f. all_told mentions name f) Free g is (λ f one is.
    parameters_free mentions name f g are.1 is
    (either_way (is_same m.name name) (told m.said e) (Some e) Free f one
    (λ same one. parameter_free m.said e f are.0 one)
    (λ other one. subst Free (same_given e f one) free)))

told_parts : (one two : List Mention) (name : List ℕ) (e g : Entry) → all_told (one ++ two) name e ≡ Some g
    → (f : Entry) × (all_told one name e ≡ Some f) × (all_told two name f ≡ Some g)
told_parts [] two name e g is = (e, refl, is)
told_parts (m ∷ one) two name e g is =
    behind_it (told_of name m e) (λ f. all_told (one ++ two) name f)
    (λ (h : Entry). (f : Entry) × (all_told (m ∷ one) name e ≡ Some f) × (all_told two name f ≡ Some h)) g is
    (λ h first is.
    let rest = told_parts one two name h g is in
    (rest.0, ap (λ (o : Option Entry). o >>= λ k. all_told one name k) first ∙ rest.1, rest.2))

-- what is known of a name in the end
pub record Ended (mentions : List Mention) (name : List ℕ) (g : Entry) : Type 0 where
  made : Made mentions name fresh g
  free : Free g

pub ended : (items parameters : List Mention) (name : List ℕ) (g : Entry) → AreItems items → AreParameters parameters
    → all_told (items ++ parameters) name fresh ≡ Some g → Ended (items ++ parameters) name g
ended items parameters name g are_items are_parameters is =
    let parts = told_parts items parameters name fresh g is in
    let none_is = items_stay items name fresh parts.0 are_items parts.1 refl in
    record {
      made = made (items ++ parameters) name fresh g is;
      free = parameters_free parameters name parts.0 g are_parameters parts.2 (λ lock given. none_is);
    }

-- ---- types

type_is : (o : Option VariableType) (t : VariableType) → o ≡ Some t → unwrap_or o Int ≡ t
type_is o t is = ap (λ (p : Option VariableType). unwrap_or p Int) is

pub lock_is : (o : Option VariableType) → unwrap_or o Int ≡ Lock → o ≡ Some Lock
lock_is None is = absurd cc
lock_is (Some t) is = ap (λ (u : VariableType). Some u) is

int_is : (o : Option VariableType) (u : Bool) → u ≡ true → odd_type o u ≡ false → unwrap_or o Int ≡ Int
int_is None u is odd = refl
int_is (Some Int) u is odd = refl
int_is (Some Char) u is odd = absurd (not_both u is odd)
int_is (Some Short) u is odd = absurd (not_both u is odd)
int_is (Some Long) u is odd = absurd (not_both u is odd)
int_is (Some Atomic) u is odd = absurd (not_both u is odd)
int_is (Some Lock) u is odd = absurd (not_both u is odd)

at_peace : (e : Entry) → has_two_types e ≡ false → e.is_parameter ≡ false → e.is_at_odds ≡ false
at_peace e peace none_is = ap (λ (b : Bool). cond b false e.is_at_odds) (sym none_is) ∙ peace

no_int : (t : VariableType) → t ≡ Int → t ≡ Lock → ⊥
no_int t a b = cc

-- its items without a type make it an int, where it is no parameter
module _ (mentions : List Mention) (name : List ℕ) (g : Entry) (e : Ended mentions name g) (peace : has_two_types g ≡ false) where
  abbrev the_type : VariableType
  the_type = unwrap_or g.type Int

  alone : g.is_parameter ≡ false → g.is_untyped ≡ true → the_type ≡ Int
  alone none_is untyped = elim (e.made.odd (inr (λ none. refl))) [
    | inl is ↦ absurd (not_both g.is_parameter is none_is)
    | inr odd ↦ int_is g.type g.is_untyped untyped (odd (at_peace g peace none_is))
  ]

  untyped_is : (b : Bool) → g.is_parameter ≡ b → g.is_untyped ≡ true → (the_type ≡ Int) ⊎ Says mentions name (parameter the_type)
  untyped_is false none_is untyped = inl (alone none_is untyped)
  untyped_is true is untyped = elim (e.made.parameters is) [
    | inl never ↦ absurd cc
    | inr there ↦ inr (subst (λ (t : VariableType). Says mentions name (parameter t)) (sym (type_is g.type there.0 there.2)) there.1)
  ]

  untyped_of : (value : Option ℕ) → Of (item None value) g → g.is_untyped ≡ true
  untyped_of None of = of
  untyped_of (Some v) of = of.0

  typed_of : (t : VariableType) (value : Option ℕ) → Of (item (Some t) value) g → g.type ≡ Some t
  typed_of t None of = of
  typed_of t (Some v) of = of.0

  unvalued_of : (given : Option VariableType) (v : ℕ) → Of (item given (Some v)) g → the_type ≢ Lock
  unvalued_of (Some t) v of lock = of.1 (sym (type_is g.type t of.0) ∙ lock)
  unvalued_of None v of lock =
      let free = e.free (lock_is g.type lock) of.1 in
      no_int the_type (alone free of.0) lock

  pub has_type : HasType mentions name the_type
  has_type = record {
    items = λ given value says. type_is g.type given (typed_of given value (e.made.of (item (Some given) value) says));
    parameters = λ given says. type_is g.type given (e.made.of (parameter given) says);
    untyped = λ value says. untyped_is g.is_parameter refl (untyped_of value (e.made.of (item None value) says));
    unvalued = λ given value says. unvalued_of given value (e.made.of (item given (Some value)) says);
  }

  pub value_is : last_value mentions name 0 ≡ unwrap_or g.value 0
  value_is = e.made.value
