-- What is read as an item is spelled as one, and is noted; and the other way round.
use Rattle.std.proofs.Common.{◌≡◌, ◌∙◌, ℕ, zero, suc, ◌<◌, List, [], ◌∷◌, Bool, false, cond, Option, Some, None, length, refl, sym, ap}
use Rattle.std.proofs.Common.{subst, arith}
use Rattle.std.specs.Prelude.{is_some, set, slice_get}
use Rattle.litmus_lex.specs.declared.sign.Sign.TheVariants.{Assign}
use Rattle.litmus_lex.specs.declared.words.VariableType.{VariableType}
use Rattle.litmus_lex.specs.declared.words.Word.TheVariants as words
use Rattle.litmus_lex.specs.Front.{◌>>=◌, first, identifier_at, is_sign, others}
use Rattle.litmus_lex.specs.Words.{Symbol, word, identifier, sign}
use Rattle.litmus_expression.specs.NameReader.{index_of}
use Rattle.litmus_expression.proofs.Fewer.{at_last, behind_it, either_way, unless_it}
use Rattle.litmus_expression.proofs.Taken.{front, is_sign_is, same_given}
use Rattle.litmus_parse.specs.Entries.{Entry, changed, changed_from, grown, named_item, valued}
use Rattle.litmus_parse.specs.HeaderReader.{behind_type, type_at, value_at}
use Rattle.litmus_parse.specs.ProcessHeaders as grammar
use Rattle.litmus_parse.specs.ProcessHeaders.{Item, Value}
use Rattle.litmus_parse.specs.ItemReader.{Heading, behind_name, given_in, item_at, item_of, named_in, noted_in, variable_in}
use Rattle.litmus_parse.specs.Mentions.{Mention, item}
use Rattle.litmus_parse.specs.Mentioned.{Noted, told_item}
use Rattle.litmus_parse.specs.VariableReader.{is_lock_type, number_at}
use Rattle.litmus_parse.proofs.Values.{value_spelled}

-- ---- symbols

pub type_is : (y : Symbol) (type : VariableType) → type_at y ≡ Some type → y ≡ word (words.Type type)
type_is (word (words.Type found)) type e = ap (λ (t : VariableType). word (words.Type t)) (same_given found type e)
type_is _ type e = absurd cc

pub identifier_is : (y : Symbol) (name : List ℕ) → identifier_at y ≡ Some name → y ≡ identifier name
identifier_is (identifier found) name e = ap (λ (n : List ℕ). identifier n) (same_given found name e)
identifier_is _ name e = absurd cc

-- ---- a table that is changed

pub set_twice : (table : List Entry) (n : ℕ) (f g : Entry) → set (set table n f) n g ≡ set table n g
set_twice [] n f g = refl
set_twice (e ∷ table) zero f g = refl
set_twice (e ∷ table) (suc n) f g = ap (λ (t : List Entry). e ∷ t) (set_twice table n f g)

pub set_there : (table : List Entry) (n : ℕ) (e f : Entry) → slice_get table n ≡ Some e → slice_get (set table n f) n ≡ Some f
set_there [] n e f is = absurd cc
set_there (d ∷ table) zero e f is = refl
set_there (d ∷ table) (suc n) e f is = set_there table n e f is

set_all : (table : List Entry) (n : ℕ) (k : Entry) (o : Option Entry)
    → (o >>= λ l. Some (set (set table n k) n l)) ≡ (o >>= λ l. Some (set table n l))
set_all table n k None = refl
set_all table n k (Some l) = ap (λ (t : List Entry). Some t) (set_twice table n k l)

module _ (f g h : Entry → Option Entry) (same : (e : Entry) → h e ≡ (f e >>= g)) (table : List Entry) (n : ℕ) where
  made : (e : Entry) (u : Option Entry) (between after : List Entry) → slice_get table n ≡ Some e → f e ≡ u
      → (u >>= λ k. Some (set table n k)) ≡ Some between → changed g between n ≡ Some after → (h e >>= λ k. Some (set table n k))
      ≡ Some after
  unfolding changed
  made e None between after is makes one two = absurd cc
  made e (Some k) between after is makes one two =
      let mid : set table n k ≡ between = same_given (set table n k) between one in
      let there : slice_get between n ≡ Some k = subst (λ (t : List Entry). slice_get t n ≡ Some k) mid (set_there table n e k is) in
      let second : (g k >>= λ l. Some (set between n l)) ≡ Some after = ap (λ (o : Option Entry). changed_from g between n o) (sym there)
      ∙ two in
      ap (λ (o : Option Entry). o >>= λ l. Some (set table n l)) (same e ∙ ap (λ (o : Option Entry). o >>= g) makes)
      ∙ sym (set_all table n k (g k))
      ∙ subst (λ (t : List Entry). (g k >>= λ l. Some (set t n l)) ≡ Some after) (sym mid) second

  -- two changes of one entry are one
  pub changed_twice : (between after : List Entry) → changed f table n ≡ Some between → changed g between n ≡ Some after
      → changed h table n ≡ Some after
  unfolding changed
  changed_twice between after one two = from (slice_get table n) refl one
    where
      from : (o : Option Entry) → slice_get table n ≡ o → changed_from f table n o ≡ Some between
          → changed_from h table n (slice_get table n) ≡ Some after
      from None is one =
          let mid : table ≡ between = same_given table between one in
          let there : slice_get between n ≡ None = subst (λ (t : List Entry). slice_get t n ≡ None) mid is in
          let second : Some between ≡ Some after = ap (λ (o : Option Entry). changed_from g between n o) (sym there) ∙ two in
          ap (λ (o : Option Entry). changed_from h table n o) is ∙ ap (λ (t : List Entry). Some t) mid ∙ second
      from (Some e) is one =
          ap (λ (o : Option Entry). changed_from h table n o) is ∙ made e (f e) between after is refl one two

-- ---- what is read is spelled and noted

-- the value behind a name
abbrev pub Given : List Symbol → Option ℕ → List Symbol → Type 0
Given symbols None rest = symbols ≡ rest
Given symbols (Some value) rest = (inside : List Symbol) × (symbols ≡ sign Assign ∷ inside) × Value inside value rest

-- an item behind its type
pub record Body (type : Option VariableType) (g u : Heading) : Type 0 where
  pub name : List ℕ
  pub value : Option ℕ
  pub begins : g.symbols ≡ identifier name ∷ others g.symbols
  pub given : Given (others g.symbols) value u.symbols
  pub noted : Noted (record { name = name; said = item type value }) g.names g.table u.names u.table

told_given : (type : Option VariableType) (v : ℕ) → is_lock_type type ≡ false → (e : Entry)
    → told_item type (Some v) e ≡ (named_item type e >>= λ f. valued v (is_some type) f)
told_given type v no_lock e = ap (λ (b : Bool). cond b None (named_item type e >>= λ f. valued v (is_some type) f)) no_lock

module _ (type : Option VariableType) (g u : Heading) (name : List ℕ) (next : g.symbols ≡ identifier name ∷ others g.symbols) where
  abbrev grew : List Entry
  grew = grown g.table (index_of g.names name)

  behind_noted : (n : ℕ × List (List ℕ)) (t : List Entry) → number_at g.names name ≡ Some n → changed (named_item type) grew n.0 ≡ Some t
      → given_in type n.0 (record { symbols = others g.symbols; names = n.1; table = t }) ≡ Some u → Body type g u
  unfolding given_in
  behind_noted n t numbered notes e =
      let now : Heading = record { symbols = others g.symbols; names = n.1; table = t } in
      either_way (is_sign Assign (first (others g.symbols)))
      (cond (is_lock_type type) None (value_at (others (others g.symbols)) >>= λ v. changed (valued v.0 (is_some type)) t n.0 >>= λ table.
      Some (record { symbols = v.1; names = n.1; table = table })))
      (Some now) (λ (w : Heading). Body type g w) u e
      (λ assign e.
      unless_it (is_lock_type type) (value_at (others (others g.symbols)) >>= λ v. changed (valued v.0 (is_some type)) t n.0 >>= λ table.
      Some (record { symbols = v.1; names = n.1; table = table })) (λ (w : Heading). Body type g w) u e (λ no_lock e.
      behind_it (value_at (others (others g.symbols))) (λ v. changed (valued v.0 (is_some type)) t n.0 >>= λ table.
      Some (record { symbols = v.1; names = n.1; table = table })) (λ (w : Heading). Body type g w) u e (λ v value e.
      behind_it (changed (valued v.0 (is_some type)) t n.0) (λ table. Some (record { symbols = v.1; names = n.1; table = table }))
      (λ (w : Heading). Body type g w) u e (λ after gives e.
      at_last _ (λ (w : Heading). Body type g w) u e (record {
        name = name;
        value = Some v.0;
        begins = next;
        given = (
          others (others g.symbols),
          front (others g.symbols) (sign Assign) (is_sign_is Assign (first (others g.symbols)) assign) (λ never. cc),
          value_spelled (others (others g.symbols)) v value,
        );
        noted = record {
          number = n.0;
          numbered = numbered;
          changes = changed_twice (named_item type) (valued v.0 (is_some type)) (told_item type (Some v.0))
              (told_given type v.0 no_lock) grew n.0 t after notes gives;
        };
      })))))
      (λ none e.
      at_last now (λ (w : Heading). Body type g w) u e (record {
        name = name;
        value = None;
        begins = next;
        given = refl;
        noted = record { number = n.0; numbered = numbered; changes = notes };
      }))

  behind_number : (n : ℕ × List (List ℕ)) (o : Option (List Entry)) → number_at g.names name ≡ Some n → changed (named_item type) grew n.0
      ≡ o
      → ((o >>= λ t. Some (record { symbols = g.symbols; names = n.1; table = t })) >>= λ w. given_in type n.0 (behind_name w)) ≡ Some u
      → Body type g u
  behind_number n None numbered notes e = absurd cc
  behind_number n (Some t) numbered notes e = behind_noted n t numbered notes e

  -- the heading that has the name with its number
  abbrev with_number : ℕ × List (List ℕ) → ℕ × Heading
  with_number n = (n.0, record { symbols = g.symbols; names = n.1; table = grew })

  behind_named : (o : Option (ℕ × List (List ℕ))) → number_at g.names name ≡ o
      → ((o >>= λ n. Some (with_number n)) >>= λ v. noted_in type v.0 v.1 >>= λ w. given_in type v.0 (behind_name w)) ≡ Some u
      → Body type g u
  unfolding noted_in
  behind_named None is e = absurd cc
  behind_named (Some n) is e = behind_number n (changed (named_item type) grew n.0) is refl e

body_named : (type : Option VariableType) (g u : Heading) (o : Option (List ℕ)) → identifier_at (first g.symbols) ≡ o
    → (named_in g o >>= λ v. noted_in type v.0 v.1 >>= λ w. given_in type v.0 (behind_name w)) ≡ Some u → Body type g u
body_named type g u None is e = absurd cc
body_named type g u (Some name) is e =
    behind_named type g u name (front g.symbols (identifier name) (identifier_is (first g.symbols) name is) (λ never. cc))
    (number_at g.names name) refl e

pub body_read : (type : Option VariableType) (g u : Heading) → item_of type g ≡ Some u → Body type g u
unfolding variable_in
body_read type g u e = body_named type g u (identifier_at (first g.symbols)) refl e

-- an item, and what it says
pub record ReadsItem (h u : Heading) : Type 0 where
  pub mention : Mention
  pub spelled : Item h.symbols mention u.symbols
  pub noted : Noted mention h.names h.table u.names u.table

untyped_item : (g u : Heading) (value : Option ℕ) (name : List ℕ) → g.symbols ≡ identifier name ∷ others g.symbols
    → Given (others g.symbols) value u.symbols
    → Item g.symbols (record { name = name; said = item None value }) u.symbols
untyped_item g u None name next given =
    subst (λ (l : List Symbol). Item l (record { name = name; said = item None None }) u.symbols)
    (sym (next ∙ ap (λ (l : List Symbol). identifier name ∷ l) given)) grammar.bare
untyped_item g u (Some v) name next given =
    subst (λ (l : List Symbol). Item l (record { name = name; said = item None (Some v) }) u.symbols)
    (sym (next ∙ ap (λ (l : List Symbol). identifier name ∷ l) given.1)) (grammar.given given.2)

typed_item : (type : VariableType) (h : List Symbol) (g u : Heading) (value : Option ℕ) (name : List ℕ) → h
    ≡ word (words.Type type) ∷ g.symbols
    → g.symbols ≡ identifier name ∷ others g.symbols → Given (others g.symbols) value u.symbols
    → Item h (record { name = name; said = item (Some type) value }) u.symbols
typed_item type h g u None name opens next given =
    subst (λ (l : List Symbol). Item l (record { name = name; said = item (Some type) None }) u.symbols)
    (sym (opens ∙ ap (λ (l : List Symbol). word (words.Type type) ∷ l)
    (next ∙ ap (λ (l : List Symbol). identifier name ∷ l) given))) grammar.typed
typed_item type h g u (Some v) name opens next given =
    subst (λ (l : List Symbol). Item l (record { name = name; said = item (Some type) (Some v) }) u.symbols)
    (sym (opens ∙ ap (λ (l : List Symbol). word (words.Type type) ∷ l) (next ∙ ap (λ (l : List Symbol). identifier name ∷ l) given.1)))
    (grammar.typed_given given.2)

item_from : (h u : Heading) (o : Option VariableType) → type_at (first h.symbols) ≡ o
    → item_of o (record h { symbols = behind_type o h.symbols }) ≡ Some u
    → ReadsItem h u
item_from h u None is e =
    let b = body_read None h u e in
    record {
      mention = record { name = b.name; said = item None b.value };
      spelled = untyped_item h u b.value b.name b.begins b.given;
      noted = b.noted;
    }
item_from h u (Some type) is e =
    let g : Heading = record h { symbols = others h.symbols } in
    let b = body_read (Some type) g u e in
    record {
      mention = record { name = b.name; said = item (Some type) b.value };
      spelled = typed_item type h.symbols g u b.value b.name (front h.symbols (word (words.Type type)) (type_is (first h.symbols) type is)
          (λ never. cc)) b.begins b.given;
      noted = b.noted;
    }

pub item_read : (h u : Heading) → item_at h ≡ Some u → ReadsItem h u
unfolding item_at
item_read h u e = item_from h u (type_at (first h.symbols)) refl e

-- an item takes symbols
value_fewer : {symbols rest : List Symbol} {value : ℕ} → Value symbols value rest → length rest < length symbols
value_fewer (grammar.plain grammar.positive) = omega arith
value_fewer (grammar.plain grammar.negative) = omega arith
value_fewer (grammar.in_atomic_init (grammar.positive)) = omega arith
value_fewer (grammar.in_atomic_init (grammar.negative)) = omega arith

pub item_fewer : {symbols rest : List Symbol} {mention : Mention} → Item symbols mention rest → length rest < length symbols
item_fewer grammar.bare = omega arith
item_fewer (grammar.given v) = let lt = value_fewer v in omega arith
item_fewer grammar.typed = omega arith
item_fewer (grammar.typed_given v) = let lt = value_fewer v in omega arith
