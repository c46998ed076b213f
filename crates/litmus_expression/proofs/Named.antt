-- A name that is looked up stands where it is found, and is found where it stands, among names that differ.
use Rattle.std.proofs.Common.{inl, inr, ◌≡◌, ◌∙◌, ℕ, zero, suc, ◌+◌, ◌<◌, ◌≤◌, ◌==◌, nat_lt, not, List, [], ◌∷◌, ◌++◌, Bool, true, false, cond, get_or, Option, Some, None}
use Rattle.std.proofs.Common.{length, refl, sym, ap, subst, map, arith}
use Rattle.std.specs.Prelude.{Contains, find, position, slice_get}
use Rattle.std.specs.List.{position_or_len, prefix_len}
use Rattle.std.specs.Bool.{Decides}
use Rattle.std.proofs.lemmas.Bool.{cases_lt, le-ltb, lt-ltb}
use Rattle.std.proofs.lemmas.Bool.Decides.{Decides-eqb}
use Rattle.std.proofs.lemmas.Slice.Eq.{slice_eq-Decides}
use Rattle.litmus_lex.specs.Words.{is_same}
use Rattle.litmus_expression.specs.Followed.{Differ, name_of}
use Rattle.litmus_expression.specs.NameReader.{index_of, parameter_named}
use Rattle.litmus_expression.specs.Names.{Names, Parameter}

-- ---- names

pub names_decide : (a b : List ℕ) → Decides (is_same a b) (a ≡ b)
names_decide a b = slice_eq-Decides Decides-eqb a b (is_same a b) refl

pub same_name : (a b : List ℕ) → is_same a b ≡ true → a ≡ b
same_name a b e = (names_decide a b).0 e

pub is_itself : (a : List ℕ) → is_same a a ≡ true
is_itself a = (names_decide a a).1 refl

other_name : (b : Bool) (a c : List ℕ) → is_same a c ≡ b → ¬ (a ≡ c) → b ≡ false
other_name true a c e apart = absurd (apart (same_name a c e))
other_name false a c e apart = refl

pub is_other : (a c : List ℕ) → ¬ (a ≡ c) → is_same a c ≡ false
is_other a c apart = other_name (is_same a c) a c refl apart

-- ---- among lists

pub in_front : {A : Type 0} (x : A) (xs : List A) → Contains (x ∷ xs) x
in_front x xs = (0, omega arith, refl)

pub in_rest : {A : Type 0} (x y : A) (xs : List A) → Contains xs y → Contains (x ∷ xs) y
in_rest x y xs (k, lt, e) = (suc k, omega arith, e)

-- an element is the first or one of the rest
pub among : {A : Type 0} (x y : A) (xs : List A) (P : Type 0) → Contains (x ∷ xs) y → (x ≡ y → P) → (Contains xs y → P) → P
among x y xs P (zero, lt, e) f g = f e
among x y xs P (suc k, lt, e) f g = g (k, omega arith, e)

pub in_none : {A : Type 0} (y : A) → Contains [] y → ⊥
in_none y (k, lt, e) = omega arith

-- ---- parameters

find_step : (b : Bool) (p : Parameter) (rest : Option Parameter) (q : Parameter) (P : Type 0) → cond b (Some p) rest ≡ Some q → (b ≡ true → p ≡ q → P) → (rest ≡ Some q → P) → P
find_step true p rest q P e f g = f refl cc
find_step false p rest q P e f g = g e

pub parameter_there : (parameters : List Parameter) (name : List ℕ) (p : Parameter) → parameter_named parameters name ≡ Some p → Contains parameters p × (p.name ≡ name)
unfolding parameter_named
parameter_there [] name p e = absurd cc
parameter_there (q ∷ parameters) name p e =
    find_step (is_same q.name name) q (find (λ (r : Parameter). is_same r.name name) parameters) p (Contains (q ∷ parameters) p × (p.name ≡ name)) e
    (λ same is. (subst (λ (r : Parameter). Contains (q ∷ parameters) r) is (in_front q parameters), sym (ap name_of is) ∙ same_name q.name name same))
    (λ later. let rest = parameter_there parameters name p later in (in_rest q p parameters rest.0, rest.1))

find_none_step : (b : Bool) (p : Parameter) (rest : Option Parameter) → cond b (Some p) rest ≡ None → (b ≡ false) × (rest ≡ None)
find_none_step true p rest e = absurd cc
find_none_step false p rest e = (refl, e)

not_true : (b : Bool) → b ≡ true → b ≡ false → ⊥
not_true b e f = cc

pub no_parameter : (parameters : List Parameter) (name : List ℕ) → parameter_named parameters name ≡ None → (p : Parameter) → p.name ≡ name → ¬ Contains parameters p
unfolding parameter_named
no_parameter [] name e p is there = in_none p there
no_parameter (q ∷ parameters) name e p is there =
    let s = find_none_step (is_same q.name name) q (find (λ (r : Parameter). is_same r.name name) parameters) e in
    among q p parameters ⊥ there
    (λ same. not_true (is_same q.name name) ((names_decide q.name name).1 (ap name_of same ∙ is)) s.0)
    (λ later. no_parameter parameters name s.1 p is later)

none_named : (o : Option Parameter) (parameters : List Parameter) (name : List ℕ) → parameter_named parameters name ≡ o → ((p : Parameter) → p.name ≡ name → ¬ Contains parameters p) → o ≡ None
none_named None parameters name is free = refl
none_named (Some p) parameters name is free = let there = parameter_there parameters name p is in absurd (free p there.1 there.0)

pub free_named : (parameters : List Parameter) (name : List ℕ) → ((p : Parameter) → p.name ≡ name → ¬ Contains parameters p) → parameter_named parameters name ≡ None
free_named parameters name free = none_named (parameter_named parameters name) parameters name refl free

name_there : (parameters : List Parameter) (p : Parameter) → Contains parameters p → Contains (map name_of parameters) p.name
name_there [] p there = absurd (in_none p there)
name_there (q ∷ parameters) p there =
    among q p parameters (Contains (map name_of (q ∷ parameters)) p.name) there
    (λ same. subst (λ (n : List ℕ). Contains (map name_of (q ∷ parameters)) n) (ap name_of same) (in_front q.name (map name_of parameters)))
    (λ later. in_rest q.name p.name (map name_of parameters) (name_there parameters p later))

found_first : (b : Bool) (q p : Parameter) (rest : Option Parameter) → (b ≡ true → q ≡ p) → (b ≡ false → rest ≡ Some p) → cond b (Some q) rest ≡ Some p
found_first true q p rest f g = ap (λ (r : Parameter). Some r) (f refl)
found_first false q p rest f g = g refl

pub named_there : (parameters : List Parameter) (p : Parameter) → Differ (map name_of parameters) → Contains parameters p → parameter_named parameters p.name ≡ Some p
unfolding parameter_named
named_there [] p differ there = absurd (in_none p there)
named_there (q ∷ parameters) p differ there =
    found_first (is_same q.name p.name) q p (find (λ (r : Parameter). is_same r.name p.name) parameters)
    (λ same.
    among q p parameters (q ≡ p) there (λ is. is)
    (λ later. absurd (differ.0 (subst (λ (n : List ℕ). Contains (map name_of parameters) n) (sym (same_name q.name p.name same)) (name_there parameters p later)))))
    (λ other.
    among q p parameters (find (λ (r : Parameter). is_same r.name p.name) parameters ≡ Some p) there
    (λ is. absurd (not_true (is_same q.name p.name) ((names_decide q.name p.name).1 (ap name_of is)) other))
    (λ later. named_there parameters p differ.1 later))

-- ---- places of names

abbrev next_place : Option ℕ → Option ℕ
next_place None = None
next_place (Some i) = Some (suc i)

abbrev if_below : ℕ → ℕ → Option ℕ
if_below n len = cond (nat_lt n len) (Some n) None

place_after : (n len : ℕ) → if_below (1 + n) (suc len) ≡ next_place (if_below n len)
place_after n len =
    elim (cases_lt n len) [
      | inl lt ↦ rw (lt-ltb (1 + n) (suc len) (omega arith), lt-ltb n len lt) (let e : 1 + n ≡ suc n = omega arith in ap (λ (m : ℕ). Some m) e)
      | inr le ↦ rw (le-ltb (1 + n) (suc len) (omega arith), le-ltb n len le) refl
    ]

place_here : (len : ℕ) → if_below 0 (suc len) ≡ Some 0
place_here len = rw (lt-ltb 0 (suc len) (omega arith)) refl

place_step : (b : Bool) (n len : ℕ) → if_below (cond (not b) (1 + n) 0) (suc len) ≡ cond b (Some 0) (next_place (if_below n len))
place_step true n len = place_here len
place_step false n len = place_after n len

pub index_cons : (other : List ℕ) (names : Names) (name : List ℕ) → index_of (other ∷ names) name ≡ cond (is_same other name) (Some 0) (next_place (index_of names name))
unfolding index_of
index_cons other names name = place_step (is_same other name) (position_or_len (λ (o : List ℕ). is_same o name) names) (length names)

index_step : (b : Bool) (o : Option ℕ) (i : ℕ) (P : Type 0) → cond b (Some 0) (next_place o) ≡ Some i → (b ≡ true → 0 ≡ i → P) → ((j : ℕ) → o ≡ Some j → suc j ≡ i → P) → P
index_step true o i P e f g = f refl cc
index_step false None i P e f g = absurd cc
index_step false (Some j) i P e f g = g j refl cc

abbrev got : Names → ℕ → Option (List ℕ)
got names i = slice_get names i

pub index_there : (names : Names) (name : List ℕ) (i : ℕ) → index_of names name ≡ Some i → slice_get names i ≡ Some name
unfolding index_of
index_there [] name i e = absurd cc
index_there (other ∷ names) name i e =
    index_step (is_same other name) (index_of names name) i (slice_get (other ∷ names) i ≡ Some name) (sym (index_cons other names name) ∙ e)
    (λ same is. subst (λ (j : ℕ). got (other ∷ names) j ≡ Some name) is (ap (λ (n : List ℕ). Some n) (same_name other name same)))
    (λ j later is. subst (λ (k : ℕ). got (other ∷ names) k ≡ Some name) is (index_there names name j later))

index_none_step : (b : Bool) (o : Option ℕ) → cond b (Some 0) (next_place o) ≡ None → (b ≡ false) × (o ≡ None)
index_none_step true o e = absurd cc
index_none_step false None e = (refl, refl)
index_none_step false (Some j) e = absurd cc

pub index_nowhere : (names : Names) (name : List ℕ) → index_of names name ≡ None → ¬ Contains names name
index_nowhere [] name e there = in_none name there
index_nowhere (other ∷ names) name e there =
    let s = index_none_step (is_same other name) (index_of names name) (sym (index_cons other names name) ∙ e) in
    among other name names ⊥ there
    (λ same. not_true (is_same other name) ((names_decide other name).1 same) s.0)
    (λ later. index_nowhere names name s.1 later)

-- ---- the other way

index_first : (b : Bool) (o : Option ℕ) (i : ℕ) → (b ≡ true → 0 ≡ i) → (b ≡ false → next_place o ≡ Some i) → cond b (Some 0) (next_place o) ≡ Some i
index_first true o i f g = ap (λ (n : ℕ). Some n) (f refl)
index_first false o i f g = g refl

some_name : (names : Names) (name : List ℕ) (i : ℕ) → slice_get names i ≡ Some name → Contains names name
some_name [] name i e = absurd cc
some_name (other ∷ names) name zero e = let same : other ≡ name = cc in subst (λ (n : List ℕ). Contains (other ∷ names) n) same (in_front other names)
some_name (other ∷ names) name (suc i) e = in_rest other name names (some_name names name i e)

pub found_at : (names : Names) (name : List ℕ) (i : ℕ) → Differ names → slice_get names i ≡ Some name → index_of names name ≡ Some i
found_at [] name i differ e = absurd cc
found_at (other ∷ names) name zero differ e =
    let same : other ≡ name = cc in
    index_cons other names name ∙ index_first (is_same other name) (index_of names name) 0 (λ is. refl)
    (λ none. absurd (not_true (is_same other name) ((names_decide other name).1 same) none))
found_at (other ∷ names) name (suc i) differ e =
    index_cons other names name ∙ index_first (is_same other name) (index_of names name) (suc i)
    (λ is. absurd (differ.0 (subst (λ (n : List ℕ). Contains names n) (sym (same_name other name is)) (some_name names name i e))))
    (λ none. ap next_place (found_at names name i differ.1 e))

pub nowhere : (names : Names) (name : List ℕ) → ¬ Contains names name → index_of names name ≡ None
unfolding index_of
nowhere [] name none = refl
nowhere (other ∷ names) name none =
    index_cons other names name
    ∙ ap (λ (b : Bool). cond b (Some 0) (next_place (index_of names name))) (is_other other name (λ same. none (subst (λ (n : List ℕ). Contains (other ∷ names) n) same (in_front other names))))
    ∙ ap next_place (nowhere names name (λ there. none (in_rest other name names there)))

stays_out : (names : Names) (other name : List ℕ) → ¬ Contains names other → ¬ (other ≡ name) → ¬ Contains (names ++ name ∷ []) other
stays_out [] other name out apart there = among name other [] ⊥ there (λ same. apart (sym same)) (λ later. in_none other later)
stays_out (n ∷ names) other name out apart there =
    among n other (names ++ name ∷ []) ⊥ there
    (λ same. out (subst (λ (m : List ℕ). Contains (n ∷ names) m) same (in_front n names)))
    (λ later. stays_out names other name (λ inside. out (in_rest n other names inside)) apart later)

pub differ_more : (names : Names) (name : List ℕ) → Differ names → ¬ Contains names name → Differ (names ++ name ∷ [])
differ_more [] name differ out = (in_none name, tt)
differ_more (n ∷ names) name differ out = (
  stays_out names n name differ.0 (λ same. out (subst (λ (m : List ℕ). Contains (n ∷ names) m) same (in_front n names))),
  differ_more names name differ.1 (λ inside. out (in_rest n name names inside)),
)
