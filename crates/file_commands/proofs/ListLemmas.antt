-- Where each item of a list reads, the list does.
use Rattle.std.proofs.Common.{◌≡◌, ◌∙◌, ◌<◌, ◌++◌, ◌∷◌, [], ℕ, suc, List, Some, ap, ap₂, append_assoc, arith, length, refl, slice_get, subst, sym}
use Rattle.std.proofs.lemmas.List.Splits.{join_with_byte-slice_split}
use Rattle.std.specs.List.{join_with_byte}
use Rattle.diagnostics.specs.option_diagnostics.Item.{items_of}
use Rattle.diagnostics.specs.option_diagnostics.Places as places
use Rattle.diagnostics.specs.option_diagnostics.Schedules as schedules
use Rattle.file_commands.specs.Lists.{SpellsNoPlaces, SpellsNoSchedule}
use Rattle.prepared_program.specs.Lists.{SpellEach}
use Rattle.prepared_program.specs.place_list.Spelling.{SpellsPlace}
use Rattle.prepared_program.specs.step_schedule.Spelling.{SpellsEntry}

join-append : (x : List ℕ) (xs : List (List ℕ)) (y : List ℕ) (ys : List (List ℕ))
    → join_with_byte 44 ((x ∷ xs) ++ y ∷ ys) ≡ join_with_byte 44 (x ∷ xs) ++ 44 ∷ join_with_byte 44 (y ∷ ys)
join-append x [] y ys = refl
join-append x (z ∷ xs) y ys =
    ap (λ (rest : List ℕ). x ++ 44 ∷ rest) (join-append z xs y ys)
    ∙ sym (append_assoc x (44 ∷ join_with_byte 44 (z ∷ xs)) (44 ∷ join_with_byte 44 (y ∷ ys)))

-- texts that spell items
module _ {A : Type 0} (SpellsItem : List ℕ → A → Type 0) where
  both : (xs ys : List (List ℕ)) (us vs : List A) → SpellEach SpellsItem xs us
      → SpellEach SpellsItem ys vs → SpellEach SpellsItem (xs ++ ys) (us ++ vs)
  both [] ys [] vs one other = other
  both [] ys (u ∷ us) vs one other = absurd one
  both (x ∷ xs) ys [] vs one other = absurd one
  both (x ∷ xs) ys (u ∷ us) vs one other = (one.0, both xs ys us vs one.1 other)

  -- the text is that of such texts, joined by commas, of which there are some
  pub record Joins (text : List ℕ) : Type 0 where
    pub values : List A
    pub first : List ℕ
    pub rest : List (List ℕ)
    pub joined : text ≡ join_with_byte 44 (first ∷ rest)
    pub each : SpellEach SpellsItem (first ∷ rest) values

  pub joins_one : (item : List ℕ) → 0 < length item → (items : List (List ℕ)) (values : List A) → item ≡ join_with_byte 44 items
      → SpellEach SpellsItem items values → Joins item
  joins_one item some [] values is each = absurd (let none : length item ≡ 0 = ap length is in omega (arith, some, none))
  joins_one item some (first ∷ rest) values is each =
      record { values = values; first = first; rest = rest; joined = is; each = each }

  joins_all : (item : List ℕ) (items : List (List ℕ)) → ((n : ℕ) (it : List ℕ) → slice_get (item ∷ items) n ≡ Some it → Joins it)
      → Joins (join_with_byte 44 (item ∷ items))
  joins_all item [] reads = reads 0 item refl
  joins_all item (next ∷ more) reads =
      let here = reads 0 item refl in
      let there = joins_all next more (λ n it at. reads (suc n) it at) in
      record {
        values = here.values ++ there.values;
        first = here.first;
        rest = here.rest ++ there.first ∷ there.rest;
        joined = ap₂ (λ (a b : List ℕ). a ++ 44 ∷ b) here.joined there.joined ∙ sym (join-append here.first here.rest there.first there.rest);
        each = both (here.first ∷ here.rest) (there.first ∷ there.rest) here.values there.values here.each there.each;
      }

  pub joins_text : (text : List ℕ) → 0 < length text → ((n : ℕ) (it : List ℕ) → slice_get (items_of text) n ≡ Some it → Joins it) → Joins text
  joins_text text some reads = go (items_of text) refl
    where
      go : (parts : List (List ℕ)) → items_of text ≡ parts → Joins text
      go [] is =
          absurd (let none : 0 ≡ length text = ap length (ap (join_with_byte 44) (sym is) ∙ join_with_byte-slice_split 44 text) in
          omega (arith, some, none))
      go (item ∷ items) is =
          subst Joins (ap (join_with_byte 44) (sym is) ∙ join_with_byte-slice_split 44 text)
          (joins_all item items (λ n it at. reads n it (ap (λ (parts : List (List ℕ)). slice_get parts n) is ∙ at)))

-- a schedule that doesn't read has an item that doesn't
pub some_item_is_no_entry : (text : List ℕ) → SpellsNoSchedule text → schedules.AllRead text → ⊥
some_item_is_no_entry [] none all = none [] (record { items = []; joined = refl; each = tt })
some_item_is_no_entry (byte ∷ bytes) none all =
    let made = joins_text SpellsEntry (byte ∷ bytes) (omega arith) (λ n it at.
    let read = all (omega arith) n it at in
    joins_one SpellsEntry it read.some read.spelled.items read.entries read.spelled.joined read.spelled.each) in
    none made.values (record { items = made.first ∷ made.rest; joined = made.joined; each = made.each })

-- and so it is of a place list
pub some_item_is_no_place : (text : List ℕ) → SpellsNoPlaces text → places.AllRead text → ⊥
some_item_is_no_place [] none all = none [] (record { items = []; joined = refl; each = tt })
some_item_is_no_place (byte ∷ bytes) none all =
    let made = joins_text SpellsPlace (byte ∷ bytes) (omega arith) (λ n it at.
    let read = all (omega arith) n it at in
    joins_one SpellsPlace it read.some read.spelled.items read.places read.spelled.joined read.spelled.each) in
    none made.values (record { items = made.first ∷ made.rest; joined = made.joined; each = made.each })
