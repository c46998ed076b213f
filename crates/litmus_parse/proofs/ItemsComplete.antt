-- What is spelled as items is read, where what is said of each name fits its type.
use Rattle.std.proofs.Common.{◌≡◌, ◌∙◌, ℕ, List, [], ◌∷◌, Bool, false, cond, Option, Some, None, refl, sym, ap}
use Rattle.std.specs.Prelude.{Contains, is_some, set, slice_get}
use Rattle.litmus_lex.specs.declared.sign.Sign.TheVariants.{OpenBrace, CloseBrace, Semicolon, Assign}
use Rattle.litmus_lex.specs.declared.words.VariableType.{VariableType}
use Rattle.litmus_lex.specs.Front.{◌>>=◌, first, is_sign, others, take_sign}
use Rattle.litmus_lex.specs.Words.{Symbol, identifier, sign}
use Rattle.litmus_expression.specs.NameReader.{index_of}
use Rattle.litmus_expression.specs.Names.{Names, Numbered}
use Rattle.litmus_expression.proofs.Named.{in_front, in_rest}
use Rattle.litmus_parse.specs.Entries.{Entry, changed, changed_from, grown, named_item, valued}
use Rattle.litmus_parse.specs.HeaderReader.{value_at}
use Rattle.litmus_parse.specs.ProcessHeaders as grammar
use Rattle.litmus_parse.specs.ProcessHeaders.{Item, Items, Value}
use Rattle.litmus_parse.specs.ItemReader.{Heading, behind_item, behind_name, given_in, initialization_at, item_at, item_of, items_at}
use Rattle.litmus_parse.specs.ItemReader.{noted_in, past, variable_in}
use Rattle.litmus_parse.specs.Mentions as mentions
use Rattle.litmus_parse.specs.Mentions.{AreNumbered, HasType, Mention, Said, item, parameter}
use Rattle.litmus_parse.specs.Mentioned.{Noted, told_item}
use Rattle.litmus_parse.specs.Turns.{done, turned}
use Rattle.litmus_parse.specs.Typed.{AreTyped}
use Rattle.litmus_parse.specs.VariableReader.{is_lock_type}
use Rattle.litmus_parse.proofs.Fits.{Allows, Behind, Fits, Notes, allows, no_lock_type, notes}
use Rattle.litmus_parse.proofs.Items.{set_there, set_twice}
use Rattle.litmus_parse.proofs.Spelled.{nothing_said, one_told}
use Rattle.litmus_parse.proofs.Tidy.{entry_in, noted_tells}
use Rattle.litmus_parse.proofs.Unrolled.{items_unroll}
use Rattle.litmus_parse.proofs.Values.{value_read}

-- ---- one change of an entry is two

-- what stands between two changes
pub record Parts (f g : Entry → Option Entry) (table : List Entry) (n : ℕ) (after : List Entry) : Type 0 where
  pub between : List Entry
  pub one : changed f table n ≡ Some between
  pub two : changed g between n ≡ Some after

module _ (f g h : Entry → Option Entry) (same : (e : Entry) → h e ≡ (f e >>= g)) (table : List Entry) (n : ℕ) (after : List Entry) where
  parts_put : (e k : Entry) (v : Option Entry) → slice_get table n ≡ Some e → f e ≡ Some k → g k ≡ v
      → (v >>= λ l. Some (set table n l)) ≡ Some after → Parts f g table n after
  unfolding changed
  parts_put e k None is one two ends = absurd cc
  parts_put e k (Some l) is one two ends = record {
    between = set table n k;
    one = ap (λ (o : Option Entry). changed_from f table n o) is ∙ ap (λ (o : Option Entry). o >>= λ m. Some (set table n m)) one;
    two = ap (λ (o : Option Entry). changed_from g (set table n k) n o) (set_there table n e k is)
        ∙ ap (λ (o : Option Entry). o >>= λ m. Some (set (set table n k) n m)) two
        ∙ ap (λ (t : List Entry). Some t) (set_twice table n k l)
        ∙ ends;
  }

  parts_made : (e : Entry) (u : Option Entry) → slice_get table n ≡ Some e → f e ≡ u
      → ((u >>= g) >>= λ l. Some (set table n l)) ≡ Some after → Parts f g table n after
  parts_made e None is one ends = absurd cc
  parts_made e (Some k) is one ends = parts_put e k (g k) is one refl ends

  parts_from : (o : Option Entry) → slice_get table n ≡ o → changed_from h table n o ≡ Some after → Parts f g table n after
  unfolding changed
  parts_from None is ends = record {
    between = table;
    one = ap (λ (o : Option Entry). changed_from f table n o) is;
    two = ap (λ (o : Option Entry). changed_from g table n o) is ∙ ends;
  }
  parts_from (Some e) is ends =
      parts_made e (f e) is refl (ap (λ (o : Option Entry). o >>= λ l. Some (set table n l)) (sym (same e)) ∙ ends)

  pub parts : changed h table n ≡ Some after → Parts f g table n after
  unfolding changed
  parts ends = parts_from (slice_get table n) refl ends

-- ---- an item behind its type

abbrev pub heading : List Symbol → Names → List Entry → Heading
heading symbols names table = record { symbols = symbols; names = names; table = table }

abbrev saying : List ℕ → Option VariableType → Option ℕ → Mention
saying name type value = record { name = name; said = item type value }

module _ (type : Option VariableType) (name : List ℕ) (names later : Names) (table after : List Entry) where
  abbrev mid : List Entry
  mid = grown table (index_of names name)

  abbrev with_number : List Symbol → ℕ × Names → ℕ × Heading
  with_number symbols n = (n.0, heading symbols n.1 mid)

  -- what is read behind the number of a name
  abbrev numbered_then : List Symbol → Option (ℕ × Names) → Option Heading
  numbered_then symbols o =
      (o >>= λ n. Some (with_number symbols n)) >>= λ v. noted_in type v.0 v.1 >>= λ u. given_in type v.0 (behind_name u)

  bare_read : (rest : List Symbol) → Noted (saying name type None) names table later after → is_sign Assign (first rest) ≡ false
      → item_of type (heading (identifier name ∷ rest) names table) ≡ Some (heading rest later after)
  unfolding variable_in noted_in given_in
  bare_read rest noted ends =
      ap (numbered_then (identifier name ∷ rest)) noted.numbered
      ∙ ap (λ (o : Option (List Entry)). (o >>= λ t. Some (heading (identifier name ∷ rest) later t)) >>= λ u.
      given_in type noted.number (behind_name u)) noted.changes
      ∙ ap (λ (b : Bool). cond b (cond (is_lock_type type) None (value_at (others rest) >>= λ v.
      changed (valued v.0 (is_some type)) after noted.number >>= λ t. Some (heading v.1 later t))) (Some (heading rest later after))) ends

  told_given : (v : ℕ) → is_lock_type type ≡ false → (e : Entry)
      → told_item type (Some v) e ≡ (named_item type e >>= λ f. valued v (is_some type) f)
  told_given v no_lock e = ap (λ (b : Bool). cond b None (named_item type e >>= λ f. valued v (is_some type) f)) no_lock

  given_read : (v : ℕ) (inside rest : List Symbol) → Value inside v rest → Noted (saying name type (Some v)) names table later after
      → is_lock_type type ≡ false
      → item_of type (heading (identifier name ∷ sign Assign ∷ inside) names table) ≡ Some (heading rest later after)
  unfolding variable_in noted_in given_in
  given_read v inside rest value noted no_lock =
      let p = parts (named_item type) (valued v (is_some type)) (told_item type (Some v)) (told_given v no_lock) mid noted.number after
      noted.changes in
      ap (numbered_then (identifier name ∷ sign Assign ∷ inside)) noted.numbered
      ∙ ap (λ (o : Option (List Entry)). (o >>= λ t. Some (heading (identifier name ∷ sign Assign ∷ inside) later t)) >>= λ u.
      given_in type noted.number (behind_name u)) p.one
      ∙ ap (λ (b : Bool). cond b None (value_at inside >>= λ w.
      changed (valued w.0 (is_some type)) p.between noted.number >>= λ t. Some (heading w.1 later t))) no_lock
      ∙ ap (λ (o : Option (ℕ × List Symbol)). o >>= λ w. changed (valued w.0 (is_some type)) p.between noted.number >>= λ t.
      Some (heading w.1 later t)) (value_read value)
      ∙ ap (λ (o : Option (List Entry)). o >>= λ t. Some (heading rest later t)) p.two

-- ---- an item

-- a lock has no value
abbrev pub NoLock : Said → Type 0
NoLock (item type None) = Unit {0}
NoLock (item type (Some value)) = is_lock_type type ≡ false
NoLock (parameter type) = Unit {0}

pub no_lock : (t : VariableType) (s : Said) → Allows t s → NoLock s
no_lock t (item type None) is = tt
no_lock t (item None (Some value)) is = refl
no_lock t (item (Some given) (Some value)) is = no_lock_type given (λ lock. is.1 (is.0 ∙ lock))
no_lock t (parameter type) is = tt

item_reads : {symbols rest : List Symbol} {m : Mention} → Item symbols m rest → (names later : Names) (table after : List Entry)
    → Noted m names table later after → NoLock m.said → is_sign Assign (first rest) ≡ false
    → item_at (heading symbols names table) ≡ Some (heading rest later after)
unfolding item_at
item_reads {rest} (grammar.bare {name}) names later table after noted free ends = bare_read None name names later table after rest noted ends
item_reads {rest} (grammar.given {name} {value} {symbols} is) names later table after noted free ends =
    given_read None name names later table after value symbols rest is noted free
item_reads {rest} (grammar.typed {type} {name}) names later table after noted free ends =
    bare_read (Some type) name names later table after rest noted ends
item_reads {rest} (grammar.typed_given {type} {name} {value} {symbols} is) names later table after noted free ends =
    given_read (Some type) name names later table after value symbols rest is noted free

-- an item begins with no `}`
item_begins : {symbols rest : List Symbol} {m : Mention} → Item symbols m rest → is_sign CloseBrace (first symbols) ≡ false
item_begins grammar.bare = refl
item_begins (grammar.given v) = refl
item_begins grammar.typed = refl
item_begins (grammar.typed_given v) = refl

-- ---- items

-- the mention in front is among all, and so are the rest
pub first_typed : (all : List Mention) (m : Mention) (ms : List Mention) → AreTyped all (m ∷ ms)
    → Contains all m × ((t : VariableType) × HasType all m.name t)
first_typed all m ms are = are m (in_front m ms)

pub rest_typed : (all : List Mention) (m : Mention) (ms : List Mention) → AreTyped all (m ∷ ms) → AreTyped all ms
rest_typed all m ms are other there = are other (in_rest m other ms there)

-- the mention in front is noted
pub first_notes : (all : List Mention) (m : Mention) (ms : List Mention) (names later : Names) (table : List Entry) (n : ℕ)
    → Fits all names table → Numbered 32 names m.name n later → AreTyped all (m ∷ ms) → Notes all m names table n later
first_notes all m ms names later table n fits numbered are =
    let is = first_typed all m ms are in
    notes all m names later table n fits numbered is.0 is.1.0 is.1.1

first_free : (all : List Mention) (m : Mention) (ms : List Mention) → AreTyped all (m ∷ ms) → NoLock m.said
first_free all m ms are =
    let is = first_typed all m ms are in
    no_lock is.1.0 m.said (allows all m.name is.1.0 is.1.1 m.said is.0)

-- one mention and those behind it
unfoldable pub behind_more : (all : List Mention) (m : Mention) (ms : List Mention) (h : Heading) (n : ℕ) (between later : Names) (middle rest : List Symbol)
    → Fits all h.names h.table → (one : Notes all m h.names h.table n between)
    → Behind all ms (record { symbols = middle; names = between; table = one.after }) rest later → Behind all (m ∷ ms) h rest later
behind_more all m ms h n between later middle rest fits one b =
    let t = noted_tells m h.names between h.table one.after one.numbered fits.tidy in
    record {
      table = b.table;
      fits = b.fits;
      said = record {
        tidy = b.said.tidy;
        tells = λ name. one_told m ms name (entry_in h.names h.table name) (entry_in between one.after name) (entry_in later b.table name)
            (t.tells name) (b.said.tells name);
      };
    }

unfoldable pub behind_none : (all : List Mention) (h : Heading) (rest : List Symbol) → Fits all h.names h.table → Behind all [] h rest h.names
behind_none all h rest fits = record { table = h.table; fits = fits; said = nothing_said h rest fits.tidy }

-- items that are read
pub record ItemsGo (all : List Mention) (h : Heading) (ms : List Mention) (rest : List Symbol) (later : Names) : Type 0 where
  pub behind : Behind all ms h rest later
  pub reads : items_at h ≡ Some (heading rest later behind.table)

-- an item is read, and what follows it
item_then : (h u : Heading) → is_sign CloseBrace (first h.symbols) ≡ false → item_at h ≡ Some u
    → items_at h ≡ (behind_item u >>= λ t. turned items_at t)
item_then h u none is =
    items_unroll h
    ∙ ap (λ (b : Bool). cond b (Some (done (past h))) (item_at h >>= λ v. behind_item v) >>= λ t. turned items_at t) none
    ∙ ap (λ (o : Option Heading). (o >>= λ v. behind_item v) >>= λ t. turned items_at t) is

closed : (rest : List Symbol) (names : Names) (table : List Entry)
    → (behind_item (heading (sign CloseBrace ∷ rest) names table) >>= λ t. turned items_at t) ≡ Some (heading rest names table)
unfolding take_sign
closed rest names table = refl

pub items_go : (all : List Mention) {symbols rest : List Symbol} {ms : List Mention} → Items symbols ms rest → {names later : Names}
    → AreNumbered names ms later → (table : List Entry) → Fits all names table → AreTyped all ms
    → ItemsGo all (heading symbols names table) ms rest later
unfolding behind_none behind_more
items_go all {rest} grammar.none {names} mentions.none table fits are = record {
  behind = behind_none all (heading (sign CloseBrace ∷ rest) names table) rest fits;
  reads = items_unroll (heading (sign CloseBrace ∷ rest) names table);
}
items_go all {symbols} {rest} (grammar.last {mention = m} is) {names} {later} (mentions.more {number} numbered mentions.none) table fits are =
    let h = heading symbols names table in
    let one = first_notes all m [] names later table number fits numbered are in
    record {
      behind = behind_more all m [] h number later later (sign CloseBrace ∷ rest) rest fits one
          (behind_none all (heading (sign CloseBrace ∷ rest) later one.after) rest one.fits);
      reads = item_then h (heading (sign CloseBrace ∷ rest) later one.after) (item_begins is)
          (item_reads is names later table one.after one.numbered (first_free all m [] are) refl)
          ∙ closed rest later one.after;
    }
items_go all {symbols} {rest} (grammar.more {mention = m} {mentions = ms} {middle} is others_are) {names} {later} (mentions.more {between} {number} numbered rest_numbered)
    table fits are =
    let h = heading symbols names table in
    let one = first_notes all m ms names between table number fits numbered are in
    let go = items_go all others_are rest_numbered one.after one.fits (rest_typed all m ms are) in
    record {
      behind = behind_more all m ms h number between later middle rest fits one go.behind;
      reads = item_then h (heading (sign Semicolon ∷ middle) between one.after) (item_begins is)
          (item_reads is names between table one.after one.numbered (first_free all m ms are) refl)
          ∙ go.reads;
    }

-- the initialization block is read
pub record BlockGoes (all : List Mention) (symbols : List Symbol) (ms : List Mention) (rest : List Symbol) (later : Names) : Type 0 where
  pub behind : Behind all ms (heading symbols [] []) rest later
  pub reads : initialization_at (heading (sign OpenBrace ∷ symbols) [] []) ≡ Some (heading rest later behind.table)

pub block_goes : (all : List Mention) (symbols rest : List Symbol) (ms : List Mention) (later : Names) → Items symbols ms rest
    → AreNumbered [] ms later → Fits all [] [] → AreTyped all ms → BlockGoes all symbols ms rest later
unfolding initialization_at take_sign
block_goes all symbols rest ms later is numbered fits are =
    let go = items_go all is numbered [] fits are in
    record { behind = go.behind; reads = go.reads }
