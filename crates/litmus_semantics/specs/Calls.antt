-- What a call that gives no value means.
use Rattle.std.specs.Prelude.{◌++◌, ◌==◌, ℕ, Bool, true, false, List, [], ◌∷◌, Option, None, Some, if◌then◌else◌}
use Rattle.access_types.specs.Access.{Access, proper_mask}
use Rattle.access_types.specs.declared.history.Bytes.{Bytes}
use Rattle.access_types.specs.declared.history.Happening.{Happening}
use Rattle.access_types.specs.declared.history.Happening.TheVariants as happenings
use Rattle.access_types.specs.declared.history.Mark.TheVariants as marks
use Rattle.access_types.specs.declared.kind.Claim.TheVariants.{NoAccesses, NoWrites}
use Rattle.access_types.specs.declared.kind.Kind.{Kind}
use Rattle.access_types.specs.declared.kind.Kind.TheVariants as kinds
use Rattle.access_types.specs.declared.kind.Operation.TheVariants as operations
use Rattle.litmus_syntax.specs.Tree.{Statement}
use Rattle.litmus_syntax.specs.Tree as tree
use Rattle.litmus_syntax.specs.declared.statement.Call.{Call}
use Rattle.litmus_syntax.specs.declared.statement.Call.TheVariants as calls
use Rattle.litmus_semantics.specs.Task.{Progress, Setting, access_now, bytes_in, has_lock}

-- an access that touches no memory
abbrev pub checking : Access → List Happening
checking a = happenings.Begin a ∷ happenings.End a ∷ []

-- kcsan_check_read and kcsan_check_write are plain
abbrev pub check_kind : Bool → Kind
check_kind is_write = kinds.Plain (if is_write then operations.Write else operations.Read)

-- the bytes of a check: so many from where a variable stands
abbrev pub checked_bytes : Setting → ℕ → ℕ → Bytes
checked_bytes s x size = record (bytes_in s x) { size = size }

-- what a call of a site does; a scoped assertion is in force to the end of its block, and its block
-- says what it does
abbrev pub call_does : Setting → ℕ → Call → Progress → List Happening
call_does s site (calls.Barrier b) before = []
call_does s site (calls.Lock l) before = happenings.Lock l ∷ []
-- a task that hasn't the lock doesn't unlock it
call_does s site (calls.Unlock l) before =
    if has_lock l before.did then happenings.Unlock l ∷ [] else []
call_does s site (calls.AssertWriter x scoped) before =
    checking (access_now s site before (bytes_in s x) (kinds.Assert NoWrites) None)
call_does s site (calls.AssertAccess x scoped) before =
    checking (access_now s site before (bytes_in s x) (kinds.Assert NoAccesses) None)
call_does s site (calls.AssertBits x mask) before =
    checking (access_now s site before (bytes_in s x) (kinds.Assert NoWrites)
    (proper_mask (Some mask)))
    ++ happenings.Mark (marks.Next 1) ∷ []
call_does s site (calls.Mark m) before = happenings.Mark m ∷ []
call_does s site (calls.Check is_write x size) before =
    if size == 0
    then []
    else checking (access_now s site before (checked_bytes s x size) (check_kind is_write) None)

-- a scoped assertion, by the kind of its access and its variable
pub record Scoped : Type 0 where
  pub kind : Kind
  pub variable : ℕ

abbrev pub scoped_by : Bool → Kind → ℕ → Option Scoped
scoped_by true kind x = Some (record { kind = kind; variable = x })
scoped_by false kind x = None

abbrev pub scoped_call : Call → Option Scoped
scoped_call (calls.AssertWriter x scoped) = scoped_by scoped (kinds.AssertScoped NoWrites) x
scoped_call (calls.AssertAccess x scoped) = scoped_by scoped (kinds.AssertScoped NoAccesses) x
scoped_call call = None

-- the statement is a scoped assertion
abbrev pub scoped_assertion : Statement → Option Scoped
scoped_assertion (tree.call c) = scoped_call c
scoped_assertion statement = None

-- the access of a scoped assertion, which begins now
abbrev pub scoped_access : Setting → ℕ → Progress → Scoped → Access
scoped_access s site before scoped =
    access_now s site before (bytes_in s scoped.variable) scoped.kind None
