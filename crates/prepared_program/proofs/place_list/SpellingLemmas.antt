-- Which texts spell places.
use Rattle.std.proofs.Common.{◌≡◌, ◌≢◌, ◌<◌, ◌++◌, ◌↔◌, ◌∙◌, ℕ, List, [], ◌∷◌, Bor}
use Rattle.std.proofs.Common.{Option, None, Some, false, ap, arith, get_or, length}
use Rattle.std.proofs.Common.{refl, sym, subst}
use Rattle.std.specs.Prelude.{MatchOption, ◌==◌, option_map}
use Rattle.std.specs.List.{slice_split}
use Rattle.std.proofs.lemmas.Bool.{ne_eqb}
use Rattle.std.proofs.lemmas.List.{length-append}
use Rattle.std.proofs.lemmas.List.Elements.{All-append, All-cons, All-from_get_or}
use Rattle.std.proofs.lemmas.List.Folds.{list_all_at}
use Rattle.std.proofs.lemmas.List.Splits.{slice_split_at, slice_split_none}
use Rattle.std.proofs.lemmas.Str.Pattern.{IsSplitOnceResult, split_after, split_parts}
use Rattle.prepared_program.specs.place_list.Spelling.{SpellsName, SpellsNumber, SpellsPlace, is_part}
use Rattle.prepared_program.proofs.place_list.NumberLemmas.{number-lacks, number-one}
use Rattle.prepared_program.proofs.ListLemmas.{IsItem, NoComma}
use Rattle.prepared_program.specs.declared.program_layout.place.Place.{Place}

-- no byte of a name is one that none has
name-lacks : (name : List ℕ) (byte : ℕ) → SpellsName name → is_part byte ≡ false → (i : ℕ) → i < length name
    → get_or name i 0 ≢ byte
name-lacks name byte spelled other i within same =
    let none = list_all_at is_part name i 0 within (ap is_part same ∙ other) in
    let all = spelled.parts in
    cc

abbrev place_of : List ℕ → ℕ → Place
place_of name addr = record { name = name; addr = addr }

-- a place's parts are those round the first `=`
pub place-parts : (text : List ℕ) (parts : Option (Bor (List ℕ) × Bor (List ℕ)))
    → IsSplitOnceResult 61 text parts → (place : Place) → SpellsPlace text place
    → MatchOption parts ⊥ (λ x. (x.0.now ≡ place.name) × SpellsName x.0.now × SpellsNumber x.1.now place.addr)
place-parts text None split place spelled =
    split_after 61 text place.name spelled.address None split (omega arith) spelled.parts
    (name-lacks place.name 61 spelled.name refl)
place-parts text (Some x) split place spelled =
    let are = split_after 61 text place.name spelled.address (Some x) split (omega arith) spelled.parts
    (name-lacks place.name 61 spelled.name refl) in (
      are.0,
      subst SpellsName (sym are.0) spelled.name,
      subst (λ t. SpellsNumber t place.addr) (sym are.1) spelled.number,
    )

-- a name and a number round the first `=` are a place
place-made : (text : List ℕ) (parts : Option (Bor (List ℕ) × Bor (List ℕ))) (x : Bor (List ℕ) × Bor (List ℕ))
    → parts ≡ Some x → IsSplitOnceResult 61 text parts → (addr : ℕ) → SpellsName x.0.now → SpellsNumber x.1.now addr
    → SpellsPlace text (place_of x.0.now addr)
place-made text None x is split addr name number = absurd cc
place-made text (Some y) x is split addr name number =
    let same : y ≡ x = cc in
    let cut = split_parts 61 text (Some y) split (omega arith) in
    record {
      address = x.1.now;
      parts = subst (λ z. text ≡ z.0.now ++ 61 ∷ z.1.now) same cut.0;
      name = name;
      number = number;
    }

-- so they are where the parts are told so
told : (text : List ℕ) (parts : Option (Bor (List ℕ) × Bor (List ℕ))) (x : Bor (List ℕ) × Bor (List ℕ))
    → parts ≡ Some x → IsSplitOnceResult 61 text parts → (place : Place) → SpellsPlace text place
    → (x.0.now ≡ place.name) × SpellsName x.0.now × SpellsNumber x.1.now place.addr
told text None x is split place spelled = absurd cc
told text (Some y) x is split place spelled =
    let same : y ≡ x = cc in
    subst (λ z. (z.0.now ≡ place.name) × SpellsName z.0.now × SpellsNumber z.1.now place.addr) same
    (place-parts text (Some y) split place spelled)

-- a text without a `=` spells no place
pub place-uncut : (text : List ℕ) (parts : Option (Bor (List ℕ) × Bor (List ℕ))) → parts ≡ None
    → IsSplitOnceResult 61 text parts → (place : Place) → SpellsPlace text place → ⊥
place-uncut text None none split place spelled = place-parts text None split place spelled
place-uncut text (Some x) none split place spelled = absurd cc

-- a text with no number behind its first `=` spells no place
pub place-no_number : (text : List ℕ) (parts : Option (Bor (List ℕ) × Bor (List ℕ))) (x : Bor (List ℕ) × Bor (List ℕ))
    (number : Option ℕ) → parts ≡ Some x → IsSplitOnceResult 61 text parts
    → ((n : ℕ) → SpellsNumber x.1.now n ↔ (number ≡ Some n)) → number ≡ None → (place : Place)
    → SpellsPlace text place → ⊥
place-no_number text parts x number is split numbers none place spelled =
    let some = (numbers place.addr).0 ((told text parts x is split place spelled).2) in cc

-- nor does one with no name before it
pub place-no_name : (text : List ℕ) (parts : Option (Bor (List ℕ) × Bor (List ℕ))) (x : Bor (List ℕ) × Bor (List ℕ))
    → parts ≡ Some x → IsSplitOnceResult 61 text parts → (SpellsName x.0.now → ⊥) → (place : Place)
    → SpellsPlace text place → ⊥
place-no_name text parts x is split other place spelled = other ((told text parts x is split place spelled).1)

-- a name and a number round the first `=` are a place, and no other
pub place-read : (text : List ℕ) (parts : Option (Bor (List ℕ) × Bor (List ℕ))) (x : Bor (List ℕ) × Bor (List ℕ))
    (addr : ℕ) → parts ≡ Some x → IsSplitOnceResult 61 text parts → SpellsName x.0.now → SpellsNumber x.1.now addr
    → (place : Place) → SpellsPlace text place ↔ (Some (place_of x.0.now addr) ≡ Some place)
place-read text parts x addr is split name number place = (
  λ spelled. let are = told text parts x is split place spelled in
      ap Some (ap (λ n. place_of n addr) are.0 ∙ ap (place_of place.name) (number-one x.1.now addr place.addr number are.2)),
  λ e. let same : place_of x.0.now addr ≡ place = cc in
      subst (SpellsPlace text) same (place-made text parts x is split addr name number),
)

-- what is answered for a text that spells no place
pub reads-none : (text : List ℕ) (read : Option (Bor (List ℕ) × ℕ)) → read ≡ None
    → ((place : Place) → SpellsPlace text place → ⊥) → (place : Place)
    → SpellsPlace text place ↔ (option_map (λ parts. place_of parts.0.now parts.1) read ≡ Some place)
reads-none text None none nothing place = (λ spelled. absurd (nothing place spelled), λ e. absurd cc)
reads-none text (Some x) none nothing place = absurd cc

-- a text is cut at the `=` of its place
place-cut : (text : List ℕ) (place : Place) (spelled : SpellsPlace text place)
    → slice_split (λ byte. byte == 61) text ≡ place.name ∷ spelled.address ∷ []
place-cut text place spelled =
    let P : ℕ → Type 0 = λ byte. (byte == 61) ≡ false in
    ap (slice_split (λ byte. byte == 61)) spelled.parts
    ∙ slice_split_at (λ byte. byte == 61) place.name 61 spelled.address
    (All-from_get_or P place.name 0 (λ i within. ne_eqb (get_or place.name i 0) 61 (name-lacks place.name 61 spelled.name
    refl i within))) refl
    ∙ ap (λ rest. place.name ∷ rest) (slice_split_none (λ byte. byte == 61) spelled.address
    (number-lacks spelled.address place.addr 61 spelled.number (omega arith) (λ e. absurd cc) (λ e. absurd cc)))

-- it spells at most one place
place-one : (text : List ℕ) (one other : Place) → SpellsPlace text one → SpellsPlace text other → one ≡ other
place-one text one other s t =
    let cut : one.name ∷ s.address ∷ [] ≡ other.name ∷ t.address ∷ [] = sym (place-cut text one s)
    ∙ place-cut text other t in
    let name : one.name ≡ other.name = cc in
    let address : s.address ≡ t.address = cc in
    ap (λ n. place_of n one.addr) name
    ∙ ap (place_of other.name) (number-one t.address one.addr other.addr
    (subst (λ a. SpellsNumber a one.addr) address s.number) t.number)

place-no_comma : (text : List ℕ) (place : Place) → SpellsPlace text place → NoComma text
place-no_comma text place spelled =
    let P : ℕ → Type 0 = λ byte. (byte == 44) ≡ false in
    subst NoComma (sym spelled.parts)
    (All-append P place.name (61 ∷ spelled.address)
    (All-from_get_or P place.name 0 (λ i within. ne_eqb (get_or place.name i 0) 44 (name-lacks place.name 44 spelled.name
    refl i within)))
    (All-cons P 61 spelled.address refl
    (number-lacks spelled.address place.addr 44 spelled.number (omega arith) (λ e. absurd cc) (λ e. absurd cc))))

place-some : (text : List ℕ) (place : Place) → SpellsPlace text place → 0 < length text
place-some text place spelled =
    let long = spelled.name.some in
    omega (arith, ap length spelled.parts, length-append place.name (61 ∷ spelled.address))

pub place-item : IsItem SpellsPlace
place-item = record { no_comma = place-no_comma; some = place-some; one = place-one }
