-- How many scoped assertions are in force, by what a task did.
use Rattle.std.specs.Prelude.{◌≡◌, ◌+◌, ◌-◌, ℕ, Bool, true, false, List, [], ◌∷◌, fold, if◌then◌else◌}
use Rattle.access_types.specs.declared.history.Happening.{Happening}
use Rattle.access_types.specs.declared.history.Happening.TheVariants.{Begin, End, Lock, Mark, Read, Unlock, Write}
use Rattle.access_types.specs.declared.kind.Kind.{Kind}
use Rattle.access_types.specs.declared.kind.Kind.TheVariants.{Assert, AssertScoped, Marked, Plain}

-- it is a scoped assertion
abbrev pub is_scoped : Kind → Bool
is_scoped (Plain operation) = false
is_scoped (Marked operation) = false
is_scoped (Assert claim) = false
is_scoped (AssertScoped claim) = true

-- how many are in force after a happening, where so many were before: a scoped assertion is from its begin to its end
abbrev pub scopes_after : ℕ → Happening → ℕ
scopes_after scopes (Begin a) = if is_scoped a.kind then scopes + 1 else scopes
scopes_after scopes (End a) = if is_scoped a.kind then scopes - 1 else scopes
scopes_after scopes happening = scopes

-- how many are in force after what a task did
abbrev pub in_force : List Happening → ℕ
in_force did = fold scopes_after 0 did

-- a scoped assertion begins or ends
abbrev pub is_of_scope : Happening → Bool
is_of_scope (Begin a) = is_scoped a.kind
is_of_scope (End a) = is_scoped a.kind
is_of_scope (Read bytes value) = false
is_of_scope (Write bytes value) = false
is_of_scope (Lock lock) = false
is_of_scope (Unlock lock) = false
is_of_scope (Mark mark) = false

-- none begins or ends in what a task did
abbrev pub AreOfNoScope : List Happening → Type 0
AreOfNoScope [] = Unit {0}
AreOfNoScope (happening ∷ later) = (is_of_scope happening ≡ false) × AreOfNoScope later
