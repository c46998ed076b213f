-- The sightings that a map's entries show.
use Rattle.std.proofs.Common.{◌≡◌, ◌++◌, ◌∷◌, ◌∙◌, ℕ, List, [], Bool, None, Option, Some, true, false, ap, append_assoc, flat_map}
use Rattle.std.proofs.Common.{is_some, map, not, position, refl, slice_get, suc, sym, zero, Vec, Global}
use Rattle.std.specs.List.{filter, list_any}
use Rattle.std.specs.Option.{option_map}
use Rattle.std.specs.Map.{keys_of, lookup, values_of}
use Rattle.indexmap.specs.IndexMap.{insert_entry, set_value_at}
use Rattle.indexmap.proofs.MapLemmas.{Found-position, insert_entry-first}
use Rattle.report_text.specs.printed_reports.Texts.{is_hidden_text}
use Rattle.report_text.specs.Groups.{is_text}
use Rattle.search_text.specs.SearchFindings.{option_again}
use Rattle.search_text.specs.Counted.{with_count_at}
use Rattle.search_text.specs.Printed as printed
use Rattle.search_text.specs.Seen.{again, sighted}
use Rattle.search_text.specs.Times.{Sighting, Times}
use Rattle.prepared_program.specs.declared.step_schedule.schedule.Entry as schedules

-- an entry of the map, without where it lies in memory
abbrev pub Entry : Type 0
Entry = Vec ℕ Global × Times

abbrev pub shown : List Entry → List Sighting
shown entries = map (λ entry. (entry.0.items, entry.1)) entries

-- the two keys are one text
abbrev pub is_key : Vec ℕ Global → Vec ℕ Global → Bool
is_key k l = is_text k.items l.items

-- a text that is seen in one list more, in the map and among the sightings
pub sighted_is : (schedule : List schedules.Entry) (entries : List Entry) (key : Vec ℕ Global) (times : Times)
    → Some times ≡ option_again schedule (lookup (is_key key) entries)
    → shown (insert_entry is_key entries key times) ≡ sighted schedule (shown entries) key.items
sighted_is schedule [] key times e = ap (λ t. (key.items, t) ∷ []) (let is : times ≡ (1, schedule) = cc in is)
sighted_is schedule (entry ∷ entries) key times e =
    by (is_key key entry.0) refl (λ p. sighted_is schedule entries key times (rw p at e))
  where
    by : (b : Bool) → is_key key entry.0 ≡ b
        → (is_key key entry.0 ≡ false → shown (insert_entry is_key entries key times) ≡ sighted schedule (shown entries) key.items)
        → shown (insert_entry is_key (entry ∷ entries) key times) ≡ sighted schedule (shown (entry ∷ entries)) key.items
    by true p rest =
        let here : Some times ≡ Some (again entry.1) = rw p at e in
        let is : times ≡ again entry.1 = cc in
        rw p (ap (λ t. (entry.0.items, t) ∷ shown entries) is)
    by false p rest = rw p (ap (λ ss. (entry.0.items, entry.1) ∷ ss) (rest p))

-- the same of a text that stands at a place
pub again_is : (schedule : List schedules.Entry) (entries : List Entry) (key : Vec ℕ Global) (at : ℕ) (times : Times)
    → position (is_key key) (keys_of entries) ≡ Some at → slice_get (values_of entries) at ≡ Some times
    → shown (set_value_at entries at (again times)) ≡ sighted schedule (shown entries) key.items
again_is schedule entries key at times p value =
    let found = Found-position (is_key key) entries at p in
    ap shown (sym (insert_entry-first is_key key (again times) entries at found.first))
    ∙ sighted_is schedule entries key (again times) (sym (ap (option_again schedule) (found.value ∙ value)))

-- and of a new one
pub new_is : (schedule : List schedules.Entry) (entries : List Entry) (key : Vec ℕ Global) (times : Times)
    → times ≡ (1, schedule) → is_some (lookup (is_key key) entries) ≡ false
    → shown (insert_entry is_key entries key times) ≡ sighted schedule (shown entries) key.items
new_is schedule entries key times is none =
    sighted_is schedule entries key times (by (lookup (is_key key) entries) none)
  where
    by : (found : Option Times) → is_some found ≡ false → Some times ≡ option_again schedule found
    by None e = ap (λ t. Some t) is
    by (Some other) e = cc

-- a text at a place that is in so many lists, in the map and among the sightings
pub counted_is : (entries : List Entry) (place times : ℕ) (seen : Times) → slice_get (values_of entries) place ≡ Some seen
    → shown (set_value_at entries place (times, seen.1)) ≡ with_count_at (shown entries) place times
counted_is [] place times seen e = refl
counted_is (entry ∷ entries) zero times seen e =
    let is : seen ≡ entry.1 = cc in ap (λ (t : Times). (entry.0.items, (times, t.1)) ∷ shown entries) is
counted_is (entry ∷ entries) (suc place) times seen e = ap (λ ss. (entry.0.items, entry.1) ∷ ss) (counted_is entries place times seen e)

-- the text at a place
pub text_is : (entries : List Entry) (place : ℕ)
    → option_map (λ (entry : Entry). entry.0.items) (slice_get entries place)
    ≡ option_map (λ (sighting : Sighting). sighting.0) (slice_get (shown entries) place)
text_is [] place = refl
text_is (entry ∷ entries) zero = refl
text_is (entry ∷ entries) (suc place) = text_is entries place

-- the sighting at a place
pub one_is : (entries : List Entry) (place : ℕ)
    → option_map (λ (entry : Entry). (entry.0.items, entry.1)) (slice_get entries place) ≡ slice_get (shown entries) place
one_is [] place = refl
one_is (entry ∷ entries) zero = refl
one_is (entry ∷ entries) (suc place) = one_is entries place

-- one sighting more is written
pub one_more_text : (text : Sighting → List ℕ) (written : List ℕ) (entry : Entry) (before after : List Entry) (all : List ℕ)
    → before ≡ entry ∷ after
    → written ++ flat_map text (shown before) ≡ all
    → (written ++ text (entry.0.items, entry.1)) ++ flat_map text (shown after) ≡ all
one_more_text text written entry before after all e h =
    append_assoc written (text (entry.0.items, entry.1)) (flat_map text (shown after))
    ∙ ap (λ es. written ++ flat_map text (shown es)) (sym e) ∙ h

-- a text is among what is shown where a look-up finds it
pub found_is : (entries : List Entry) (text : List ℕ)
    → is_some (lookup (λ (key : Vec ℕ Global). is_text text key.items) entries)
    ≡ list_any (λ (sighting : Sighting). is_text text sighting.0) (shown entries)
found_is [] text = refl
found_is (entry ∷ entries) text = by (is_text text entry.0.items) refl (found_is entries text)
  where
    by : (b : Bool) → is_text text entry.0.items ≡ b
        → is_some (lookup (λ (key : Vec ℕ Global). is_text text key.items) entries)
        ≡ list_any (λ (sighting : Sighting). is_text text sighting.0) (shown entries)
        → is_some (lookup (λ (key : Vec ℕ Global). is_text text key.items) (entry ∷ entries))
        ≡ list_any (λ (sighting : Sighting). is_text text sighting.0) (shown (entry ∷ entries))
    by true p rest = rw p refl
    by false p rest = rw p rest

-- the sightings whose texts aren't hidden
pub shown_kept : (entries : List Entry)
    → shown (filter (λ (entry : Entry). not (is_hidden_text entry.0.items)) entries) ≡ printed.shown false (shown entries)
shown_kept [] = refl
shown_kept (entry ∷ entries) = by (not (is_hidden_text entry.0.items)) refl (shown_kept entries)
  where
    by : (b : Bool) → not (is_hidden_text entry.0.items) ≡ b
        → shown (filter (λ (entry : Entry). not (is_hidden_text entry.0.items)) entries) ≡ printed.shown false (shown entries)
        → shown (filter (λ (entry : Entry). not (is_hidden_text entry.0.items)) (entry ∷ entries)) ≡ printed.shown false (shown (entry ∷ entries))
    by true p rest = rw p (ap (λ ss. (entry.0.items, entry.1) ∷ ss) rest)
    by false p rest = rw p rest
