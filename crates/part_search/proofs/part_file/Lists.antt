-- Lists of values that are made of others, and that others are read of.
use Rattle.std.proofs.Common.{◌≡◌, ◌∷◌, [], ◌∙◌, ◌+◌, ◌<◌, ◌++◌, ℕ, List, ap, ap₂, get_or, length, map, refl, take}
use Rattle.std.proofs.lemmas.List.{map-append}
use Rattle.output_pieces.proofs.Grown.{grown}
use Rattle.part_search.specs.part_file.Reads.{data_list}
use Rattle.search_text.specs.Times.{Sighting}
use Rattle.search_text.specs.declared.joined.SeenText.{SeenText}
use Rattle.serde_json.specs.Data.{Data}
use Rattle.serde_json.specs.View.{items_of, items_view, view}
use Rattle.serde_json.specs.declared.value.Value.{Value}

-- the sighting that a text of plain data is
abbrev pub sighting_view : SeenText → Sighting
sighting_view one = (one.text.items, one.seen)

-- the items of an array are those that it was made of
pub list_back : (all : List Data) → data_list (items_of all) ≡ all
list_back [] = refl
list_back (first ∷ more) = ap (λ (rest : List Data). first ∷ rest) (list_back more)

-- what is read of each that was made of something is this again
pub each_back : {A : Type 0} (made : A → Data) (of : Data → A) → ((x : A) → of (made x) ≡ x) → (xs : List A)
    → map of (data_list (items_of (map made xs))) ≡ xs
each_back made of back [] = refl
each_back {A = A} made of back (x ∷ xs) = ap₂ (λ (y : A) (ys : List A). y ∷ ys) (back x) (each_back made of back xs)

-- of values the same is read as of what they stand for
pub read_each : {A : Type 0} (of : Data → A) (values : List Value)
    → map (λ value. of (view value)) values ≡ map of (data_list (items_view values))
read_each of [] = refl
read_each {A = A} of (first ∷ more) = ap (λ (rest : List A). of (view first) ∷ rest) (read_each of more)

-- what is read of values up to and with one more
pub read_more : {A : Type 0} (of : Data → A) (values : List Value) (i : ℕ) (value : Value) (before after : List A) → i < length values
    → value ≡ get_or values i value → after ≡ before ++ of (view value) ∷ [] → before ≡ map (λ one. of (view one)) (take i values)
    → after ≡ map (λ one. of (view one)) (take (i + 1) values)
read_more {A = A} of values i value before after within is more so_far =
    let each : Value → A = λ one. of (view one) in
    more ∙ grown (map each) (map-append each) values i value within is before so_far
