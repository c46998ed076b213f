-- How many accesses a task began.
use Rattle.std.specs.Prelude.{ℕ, Bool, List, count_by, false, true}
use Rattle.access_types.specs.declared.history.Happening.{Happening}
use Rattle.access_types.specs.declared.history.Happening.TheVariants.{Begin}

abbrev pub is_begin : Happening → Bool
is_begin (Begin a) = true
is_begin happening = false

abbrev pub begins_in : List Happening → ℕ
begins_in did = count_by is_begin did
