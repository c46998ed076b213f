-- Values that are read one part after the other.
use Rattle.std.proofs.Common.{◌≡◌, ◌++◌, ◌∙◌, ℕ, List, [], ◌∷◌, Some, ap, append_assoc, refl, remove, slice_get, sym}
use Rattle.access_types.specs.declared.history.Happening.{Happening}
use Rattle.oracle_semantics.specs.oracle_meaning.Walks.{value_read, values_read}

-- what is read in two parts
pub values_append : (first second : List Happening) → values_read (first ++ second) ≡ values_read first ++ values_read second
values_append [] second = refl
values_append (happening ∷ first) second =
    ap (λ (values : List ℕ). value_read happening ++ values) (values_append first second)
    ∙ sym (append_assoc (value_read happening) (values_read first) (values_read second))

-- a moment that is no read takes no value
pub takes_none : (did : List Happening) (happening : Happening) (values : List ℕ) → value_read happening ≡ []
    → values_read did ++ values ≡ values_read (did ++ happening ∷ []) ++ values
takes_none did happening values none = simp (values_append, none, append_assoc)

-- a read takes the first value that is left
pub takes_one : (did : List Happening) (happening : Happening) (value : ℕ) (values : List ℕ) → value_read happening ≡ value ∷ []
    → values_read did ++ value ∷ values ≡ values_read (did ++ happening ∷ []) ++ values
takes_one did happening value values one = simp (values_append, one, append_assoc)

-- the first of some values, and those after it
pub first_taken : (values later : List ℕ) (value : ℕ) → slice_get values 0 ≡ Some value → later ≡ remove values 0 → values ≡ value ∷ later
first_taken [] later value first rest = cc
first_taken (x ∷ xs) later value first rest = cc
