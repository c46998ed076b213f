-- Texts in groups: each once, in the order in which they were first seen, with how often it was seen.
use Rattle.std.specs.Prelude.{◌≡◌, ◌+◌, ◌-◌, ◌^◌, ◌++◌, ℕ, List, [], ◌∷◌, Bool, codes, count_by, fold, if◌then◌else◌, map, min, nat_eq}
use Rattle.std.specs.Cmp.Lexicographic.{pointwise}
use Rattle.std.specs.Fmt.{decimal}
use Rattle.std.specs.List.{list_any}
use Rattle.access_types.specs.ReportText.{line}

-- a text, and how often it was seen
abbrev pub Group : Type 0
Group = List ℕ × ℕ

-- the two texts are one
abbrev pub is_text : List ℕ → List ℕ → Bool
is_text text other = pointwise nat_eq text other

-- one more, where a count rests at its last value
abbrev pub one_more : ℕ → ℕ
one_more count = min (count + 1) (2 ^ 64 - 1)

-- the groups after a text was seen once more: a new text stands last
abbrev pub counted : List Group → List ℕ → List Group
counted [] text = (text, 1) ∷ []
counted (group ∷ groups) text = if is_text text group.0
    then (group.0, one_more group.1) ∷ groups
    else group ∷ counted groups text

-- what is written of a group
unfoldable pub group_text : Group → List ℕ
group_text group = group.0 ++ line (codes "seen " ++ decimal group.1 ++ codes " times")

-- a text stands last among those that were seen, unless it is one of them
abbrev pub seen_too : List (List ℕ) → List ℕ → List (List ℕ)
seen_too before text = if list_any (is_text text) before then before else before ++ text ∷ []

-- each text once, in the order in which they were first seen
abbrev pub first_seen : List (List ℕ) → List (List ℕ)
first_seen texts = fold seen_too [] texts

-- how often a text was seen, by the groups
abbrev pub count_in : List ℕ → List Group → ℕ
count_in text [] = 0
count_in text (group ∷ groups) = if is_text text group.0 then group.1 else count_in text groups

-- the groups of texts: each text once, in the order in which they were first seen, with how often it
-- is among them, where a count rests at its last value
pub record AreGroupsOf (texts : List (List ℕ)) (groups : List Group) : Type 0 where
  pub order : map (λ group. group.0) groups ≡ first_seen texts
  pub counts : (text : List ℕ) → count_in text groups ≡ min (count_by (is_text text) texts) (2 ^ 64 - 1)
