-- The printed initialization block and the parameters of printed processes declare the variables that are printed.
use Rattle.std.proofs.Common.{◌≡◌, ◌≢◌, ◌∙◌, ℕ, List, [], ◌∷◌, ◌++◌, Bool, true, false, cond, Option, Some, None, map, refl, sym, ap, subst, zero, suc}
use Rattle.std.specs.Prelude.{Contains, flat_map, slice_get}
use Rattle.litmus_syntax.specs.declared.program.Contents.{Contents}
use Rattle.litmus_syntax.specs.declared.program.Contents.TheVariants as contents
use Rattle.litmus_syntax.specs.declared.program.Variable.{Variable}
use Rattle.litmus_lex.specs.declared.words.VariableType.{VariableType}
use Rattle.litmus_lex.specs.declared.words.VariableType.TheVariants.{Int, Lock}
use Rattle.litmus_lex.specs.Words.{is_same}
use Rattle.litmus_expression.specs.Followed.{Differ}
use Rattle.litmus_expression.specs.Names.{Names, Parameter}
use Rattle.litmus_expression.proofs.Named.{among, in_front, in_none, in_rest, is_itself, is_other}
use Rattle.litmus_parse.specs.Grammar.{mentions_of, said_by}
use Rattle.litmus_parse.specs.Headers as headers
use Rattle.litmus_parse.specs.Headers.{Process}
use Rattle.litmus_parse.specs.Mentions as mentions
use Rattle.litmus_parse.specs.Mentions.{AreDeclared, HasType, IsDeclared, Mention, Said, contents_of, item, last_value, parameter, value_after}
use Rattle.print_roundtrip.specs.printed_texts.PrintedNames.{IsOf}
use Rattle.print_roundtrip.specs.printed_texts.PrintedProcess.{type_of}
use Rattle.print_roundtrip.specs.printed_texts.PrintedProgram.{mention_of, said_of}
use Rattle.print_roundtrip.proofs.printed_texts.Items.{printed_value, value_printed}

-- ---- among lists

abbrev named : Variable → List ℕ
named v = v.name

name_among : (vs : List Variable) (v : Variable) → Contains vs v → Contains (map named vs) v.name
name_among [] v there = absurd (in_none v there)
name_among (x ∷ vs) v there =
    among x v vs (Contains (map named (x ∷ vs)) v.name) there
    (λ same. subst (λ (n : List ℕ). Contains (map named (x ∷ vs)) n) (ap named same) (in_front x.name (map named vs)))
    (λ later. in_rest x.name v.name (map named vs) (name_among vs v later))

-- variables of one name are one
unique : (vs : List Variable) → Differ (map named vs) → (v w : Variable) → Contains vs v → Contains vs w → v.name ≡ w.name → v ≡ w
unique [] differ v w at there same = absurd (in_none v at)
unique (x ∷ vs) differ v w at there same =
    among x v vs (v ≡ w) at
    (λ is. among x w vs (v ≡ w) there
    (λ also. sym is ∙ also)
    (λ later. absurd (differ.0 (subst (λ (n : List ℕ). Contains (map named vs) n) (sym same ∙ sym (ap named is)) (name_among vs w later)))))
    (λ later. among x w vs (v ≡ w) there
    (λ is. absurd (differ.0 (subst (λ (n : List ℕ). Contains (map named vs) n) (same ∙ sym (ap named is)) (name_among vs v later))))
    (λ also. unique vs differ.1 v w later also same))

pub split : {A : Type 0} (xs ys : List A) (m : A) (R : Type 0) → Contains (xs ++ ys) m → (Contains xs m → R) → (Contains ys m → R) → R
split [] ys m R there f g = g there
split (x ∷ xs) ys m R there f g =
    among x m (xs ++ ys) R there
    (λ same. f (subst (λ (y : _). Contains (x ∷ xs) y) same (in_front x xs)))
    (λ later. split xs ys m R later (λ first. f (in_rest x m xs first)) g)

mapped : {A B : Type 0} (f : A → B) (xs : List A) (m : B) → Contains (map f xs) m → (x : A) × Contains xs x × (f x ≡ m)
mapped f [] m there = absurd (in_none m there)
mapped f (x ∷ xs) m there =
    among (f x) m (map f xs) ((y : _) × Contains (x ∷ xs) y × (f y ≡ m)) there
    (λ same. (x, in_front x xs, same))
    (λ later. let r = mapped f xs m later in (r.0, in_rest x r.0 xs r.1, r.2))

pub got : {A : Type 0} (xs : List A) (k : ℕ) (x : A) → slice_get xs k ≡ Some x → Contains xs x
got [] k x is = absurd cc
got (y ∷ xs) zero x is = subst (λ (z : _). Contains (y ∷ xs) z) (given_is y x is) (in_front y xs)
  where
    given_is : {A : Type 0} (y x : A) → Some y ≡ Some x → y ≡ x
    given_is y x e = cc
got (y ∷ xs) (suc k) x is = in_rest y x xs (got xs k x is)

-- ---- what an item says

abbrev type_said : Said → VariableType
type_said (item None value) = Int
type_said (item (Some t) value) = t
type_said (parameter t) = t

says_type : (c : Contents) → type_of c ≡ type_said (said_of c)
says_type (contents.Char n) = refl
says_type (contents.Short n) = refl
says_type (contents.Int n) = refl
says_type (contents.Long n) = refl
says_type (contents.Atomic n) = refl
says_type contents.Lock = refl

no_parameter : (c : Contents) (t : VariableType) → said_of c ≡ parameter t → ⊥
no_parameter (contents.Char n) t e = absurd cc
no_parameter (contents.Short n) t e = absurd cc
no_parameter (contents.Int n) t e = absurd cc
no_parameter (contents.Long n) t e = absurd cc
no_parameter (contents.Atomic n) t e = absurd cc
no_parameter contents.Lock t e = absurd cc

no_untyped : (c : Contents) (value : Option ℕ) → said_of c ≡ item None value → ⊥
no_untyped (contents.Char n) value e = absurd cc
no_untyped (contents.Short n) value e = absurd cc
no_untyped (contents.Int n) value e = absurd cc
no_untyped (contents.Long n) value e = absurd cc
no_untyped (contents.Atomic n) value e = absurd cc
no_untyped contents.Lock value e = absurd cc

no_lock : (c : Contents) (given : Option VariableType) (value : ℕ) → said_of c ≡ item given (Some value) → type_of c ≢ Lock
no_lock (contents.Char n) given value e = λ same. absurd cc
no_lock (contents.Short n) given value e = λ same. absurd cc
no_lock (contents.Int n) given value e = λ same. absurd cc
no_lock (contents.Long n) given value e = λ same. absurd cc
no_lock (contents.Atomic n) given value e = λ same. absurd cc
no_lock contents.Lock given value e = absurd cc

no_item : (t : VariableType) (given : Option VariableType) (value : Option ℕ) → parameter t ≡ item given value → ⊥
no_item t given value e = absurd cc

gives : (c : Contents) → value_after (said_of c) 0 ≡ printed_value c
gives (contents.Char n) = refl
gives (contents.Short n) = refl
gives (contents.Int n) = refl
gives (contents.Long n) = refl
gives (contents.Atomic n) = refl
gives contents.Lock = refl

-- ---- the last value

either_same : (b : Bool) (n : ℕ) → cond b n n ≡ n
either_same true n = refl
either_same false n = refl

last_behind_parameters : (ps : List Parameter) (more : List Mention) (name : List ℕ) (b : ℕ)
    → last_value (map headers.mention_of ps ++ more) name b ≡ last_value more name b
last_behind_parameters [] more name b = refl
last_behind_parameters (p ∷ ps) more name b =
    ap (λ (n : ℕ). last_value (map headers.mention_of ps ++ more) name n) (either_same (is_same p.name name) b)
    ∙ last_behind_parameters ps more name b

last_of_processes : (ps : List Process) (name : List ℕ) (b : ℕ) → last_value (flat_map mentions_of ps) name b ≡ b
last_of_processes [] name b = refl
last_of_processes (p ∷ ps) name b =
    last_behind_parameters p.parameters (flat_map mentions_of ps) name b ∙ last_of_processes ps name b

last_elsewhere : (vs : List Variable) (more : List Mention) (name : List ℕ) (b : ℕ) → ¬ Contains (map named vs) name
    → last_value (map mention_of vs ++ more) name b ≡ last_value more name b
last_elsewhere [] more name b out = refl
last_elsewhere (v ∷ vs) more name b out =
    let other : is_same v.name name ≡ false = is_other v.name name
    (λ same. out (subst (λ (n : List ℕ). Contains (map named (v ∷ vs)) n) same (in_front v.name (map named vs)))) in
    ap (λ (c : Bool). last_value (map mention_of vs ++ more) name (cond c (value_after (said_of v.contents) b) b)) other
    ∙ last_elsewhere vs more name b (λ there. out (in_rest v.name name (map named vs) there))

last_of : (vs : List Variable) (more : List Mention) → Differ (map named vs) → (v : Variable) → Contains vs v
    → last_value (map mention_of vs ++ more) v.name 0 ≡ last_value more v.name (printed_value v.contents)
last_of [] more differ v there = absurd (in_none v there)
last_of (x ∷ vs) more differ v there =
    among x v vs (last_value (map mention_of (x ∷ vs) ++ more) v.name 0 ≡ last_value more v.name (printed_value v.contents)) there
    (λ is.
    subst (λ (w : Variable). last_value (map mention_of (x ∷ vs) ++ more) w.name 0 ≡ last_value more w.name (printed_value w.contents)) is
    (ap (λ (c : Bool). last_value (map mention_of vs ++ more) x.name (cond c (value_after (said_of x.contents) 0) 0)) (is_itself x.name)
    ∙ last_elsewhere vs more x.name (value_after (said_of x.contents) 0) differ.0
    ∙ ap (λ (n : ℕ). last_value more x.name n) (gives x.contents)))
    (λ later.
    let other : is_same x.name v.name ≡ false = is_other x.name v.name
    (λ same. differ.0 (subst (λ (n : List ℕ). Contains (map named vs) n) (sym same) (name_among vs v later))) in
    ap (λ (c : Bool). last_value (map mention_of vs ++ more) v.name (cond c (value_after (said_of x.contents) 0) 0)) other
    ∙ last_of vs more differ.1 v later)

-- ---- types

module _ (variables : List Variable) (names : Names) (differ : Differ (map named variables)) (ps : List Process)
    (are : (q : Process) → Contains ps q → (p : Parameter) → Contains q.parameters p → IsOf variables names p) where
  abbrev pub said : List Mention
  said = said_by (map mention_of variables) ps

  -- the parameter that a mention is
  parameter_among : (qs : List Process) (m : Mention) → ((q : Process) → Contains qs q → Contains ps q)
      → Contains (flat_map mentions_of qs) m
      → (p : Parameter) × IsOf variables names p × (headers.mention_of p ≡ m)
  parameter_among [] m in_all there = absurd (in_none m there)
  parameter_among (q ∷ qs) m in_all there =
      split (mentions_of q) (flat_map mentions_of qs) m ((p : Parameter) × IsOf variables names p × (headers.mention_of p ≡ m)) there
      (λ first. let r = mapped headers.mention_of q.parameters m first in (r.0, are q (in_all q (in_front q qs)) r.0 r.1, r.2))
      (λ later. parameter_among qs m (λ r at. in_all r (in_rest q r qs at)) later)

  -- what is said of a variable's name is said by its item or by a parameter that is of it
  told : (v : Variable) → Contains variables v → (s : Said) (R : Type 0) → Contains said (record { name = v.name; said = s })
      → (said_of v.contents ≡ s → R) → ((t : VariableType) → type_of v.contents ≡ t → parameter t ≡ s → R) → R
  told v at s R there f g =
      split (map mention_of variables) (flat_map mentions_of ps) (record { name = v.name; said = s }) R there
      (λ first.
      let r = mapped mention_of variables (record { name = v.name; said = s }) first in
      let same : r.0 ≡ v = unique variables differ r.0 v r.1 at (ap (λ (m : Mention). m.name) r.2) in
      f (ap (λ (w : Variable). said_of w.contents) (sym same) ∙ ap (λ (m : Mention). m.said) r.2))
      (λ later.
      let r = parameter_among ps (record { name = v.name; said = s }) (λ q here. here) later in
      let is = r.1 in
      let same : is.variable ≡ v = unique variables differ is.variable v (got variables r.0.variable is.variable is.there) at
      (is.named ∙ ap (λ (m : Mention). m.name) r.2) in
      g r.0.type (ap (λ (w : Variable). type_of w.contents) (sym same) ∙ is.typed) (ap (λ (m : Mention). m.said) r.2))

  pub typed : (v : Variable) → Contains variables v → HasType said v.name (type_of v.contents)
  typed v at = record {
    items = λ given value says. told v at (item (Some given) value) (type_of v.contents ≡ given) says
        (λ e. says_type v.contents ∙ ap type_said e) (λ t is e. absurd (no_item t (Some given) value e));
    parameters = λ given says. told v at (parameter given) (type_of v.contents ≡ given) says
        (λ e. absurd (no_parameter v.contents given e)) (λ t is e. is ∙ ap type_said e);
    untyped = λ value says. told v at (item None value) _ says
        (λ e. absurd (no_untyped v.contents value e)) (λ t is e. absurd (no_item t None value e));
    unvalued = λ given value says. told v at (item given (Some value)) (type_of v.contents ≢ Lock) says
        (λ e. no_lock v.contents given value e) (λ t is e. absurd (no_item t given (Some value) e));
  }

  valued : (v : Variable) → Contains variables v → last_value said v.name 0 ≡ printed_value v.contents
  valued v at = last_of variables (flat_map mentions_of ps) differ v at ∙ last_of_processes ps v.name (printed_value v.contents)

  declared_as : (all : List Mention) (name : List ℕ) (v : Variable) → Contains variables v → IsDeclared all name v → IsDeclared said name v
  declared_as all name v at is =
      let same : contents_of (type_of v.contents) (printed_value v.contents) ≡ v.contents =
      subst (λ (c : Contents). contents_of (type_of c) (printed_value c) ≡ c) (sym is.contents)
      (value_printed is.type (last_value all name 0)) in
      record {
        type = type_of v.contents;
        name_is = is.name_is;
        typed = subst (λ (n : List ℕ). HasType said n (type_of v.contents)) is.name_is (typed v at);
        contents = sym same ∙ ap (λ (n : ℕ). contents_of (type_of v.contents) n)
            (sym (valued v at) ∙ ap (λ (n : List ℕ). last_value said n 0) is.name_is);
      }

  pub declared_printed : {all : List Mention} {ns : Names} {vs : List Variable} → AreDeclared all ns vs
      → ((v : Variable) → Contains vs v → Contains variables v) → AreDeclared said ns vs
  declared_printed mentions.none in_all = mentions.none
  declared_printed {all} (mentions.more {variables = vs} {name = name} {variable = v} is later) in_all =
      mentions.more (declared_as all name v (in_all v (in_front v vs)) is)
      (declared_printed later (λ w there. in_all w (in_rest v w vs there)))
