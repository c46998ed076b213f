-- The groups that a map's entries show.
use Rattle.std.proofs.Common.{◌≡◌, ◌++◌, ◌∷◌, ◌∙◌, ℕ, List, [], Bool, true, false, ap, append_assoc, map, refl, sym, unwrap_or, Vec, Global}
use Rattle.std.specs.List.{flat_map}
use Rattle.indexmap.specs.IndexMap.{insert_entry}
use Rattle.std.specs.Map.{lookup}
use Rattle.report_text.specs.Groups.{Group, counted, group_text, is_text, one_more}

-- an entry of the map, without where it lies in memory
abbrev pub Entry : Type 0
Entry = Vec ℕ Global × ℕ

abbrev pub shown : List Entry → List Group
shown entries = map (λ entry. (entry.0.items, entry.1)) entries

-- the two keys are one text
abbrev pub is_key : Vec ℕ Global → Vec ℕ Global → Bool
is_key k l = is_text k.items l.items

-- a text that is counted once more, in the map and in the groups
pub counted_is : (entries : List Entry) (key : Vec ℕ Global) (count : ℕ)
    → count ≡ one_more (unwrap_or (lookup (is_key key) entries) 0)
    → shown (insert_entry is_key entries key count) ≡ counted (shown entries) key.items
counted_is [] key count e = ap (λ n. (key.items, n) ∷ []) e
counted_is (entry ∷ entries) key count e =
    by (is_key key entry.0) refl (λ p. counted_is entries key count (rw p at e))
  where
    by : (b : Bool) → is_key key entry.0 ≡ b
        → (is_key key entry.0 ≡ false → shown (insert_entry is_key entries key count) ≡ counted (shown entries) key.items)
        → shown (insert_entry is_key (entry ∷ entries) key count) ≡ counted (shown (entry ∷ entries)) key.items
    by true p rest = rw p (ap (λ n. (entry.0.items, n) ∷ shown entries) (rw p at e))
    by false p rest = rw p (ap (λ gs. (entry.0.items, entry.1) ∷ gs) (rest p))

-- one group more is written
pub one_group_more : (written : List ℕ) (entry : Entry) (before after : List Entry) (all : List ℕ)
    → before ≡ entry ∷ after
    → written ++ flat_map group_text (shown before) ≡ all
    → (written ++ group_text (entry.0.items, entry.1)) ++ flat_map group_text (shown after) ≡ all
one_group_more written entry before after all e h =
    append_assoc written (group_text (entry.0.items, entry.1)) (flat_map group_text (shown after))
    ∙ ap (λ es. written ++ flat_map group_text (shown es)) (sym e) ∙ h
