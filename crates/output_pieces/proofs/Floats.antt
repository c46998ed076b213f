-- What is written as JSON has no float.
use Rattle.std.proofs.Common.{◌≡◌, ◌∷◌, [], ℕ, List, None, Option, Some, false, map, refl}
use Rattle.output_pieces.specs.Values.{column_data, line_data, settings_data, statement_data}
use Rattle.prepared_program.specs.declared.program_sites.settings.Settings.{Settings}
use Rattle.serde_json.specs.Data.{Data}
use Rattle.serde_json.specs.View.{items_of}
use Rattle.serde_json.specs.Written.{has_float, items_have_float}

-- items that have none, each by itself
pub none_of : {A : Type 0} (f : A → Data) (xs : List A) → ((x : A) → has_float (f x) ≡ false)
    → items_have_float (items_of (map f xs)) ≡ false
none_of f [] none = refl
none_of f (x ∷ xs) none = rw none (none_of f xs none)

pub line_none : (text : List ℕ) (at : Option ℕ) → has_float (line_data text at) ≡ false
line_none text None = refl
line_none text (Some at) = refl

pub column_none : (text : List ℕ) (at : Option ℕ) → has_float (column_data text at) ≡ false
column_none text None = refl
column_none text (Some at) = refl

pub statement_none : (text : List ℕ) (at : Option ℕ) → has_float (statement_data text at) ≡ false
statement_none text None = refl
statement_none text (Some at) = refl

pub settings_none : (settings : Settings) → has_float (settings_data settings) ≡ false
unfolding settings_data
settings_none settings = refl
