-- What a kind of access does and claims: its flags, as KCSAN's access types have them, and its words in a report.
use Rattle.std.specs.Prelude.{◌≡◌, ◌&&◌, ◌||◌, ◌++◌, ℕ, List, Bool, true, false, not, codes}
use Rattle.access_types.specs.declared.kind.Operation.{Operation}
use Rattle.access_types.specs.declared.kind.Operation.TheVariants.{Read, Write, ReadWrite}
use Rattle.access_types.specs.declared.kind.Claim.{Claim}
use Rattle.access_types.specs.declared.kind.Claim.TheVariants.{NoWrites, NoAccesses}
use Rattle.access_types.specs.declared.kind.Kind.{Kind}
use Rattle.access_types.specs.declared.kind.Kind.TheVariants.{Plain, Marked, Assert, AssertScoped}

-- the operation writes
abbrev pub operation_writes : Operation → Bool
operation_writes Read = false
operation_writes Write = true
operation_writes ReadWrite = true

-- the operation reads and writes
abbrev pub operation_is_compound : Operation → Bool
operation_is_compound Read = false
operation_is_compound Write = false
operation_is_compound ReadWrite = true

-- it writes memory
abbrev pub writes : Kind → Bool
writes (Plain operation) = operation_writes operation
writes (Marked operation) = operation_writes operation
writes (Assert claim) = false
writes (AssertScoped claim) = false

-- it claims that no other task accesses the bytes
abbrev pub claims_no_accesses : Claim → Bool
claims_no_accesses NoWrites = false
claims_no_accesses NoAccesses = true

-- it asserts no accesses
abbrev pub asserts_no_accesses : Kind → Bool
asserts_no_accesses (Plain operation) = false
asserts_no_accesses (Marked operation) = false
asserts_no_accesses (Assert claim) = claims_no_accesses claim
asserts_no_accesses (AssertScoped claim) = claims_no_accesses claim

-- KCSAN's write flag: it writes or asserts no accesses
abbrev pub write_flag : Kind → Bool
write_flag kind = writes kind || asserts_no_accesses kind

-- it is compound: it reads and writes
abbrev pub is_compound : Kind → Bool
is_compound (Plain operation) = operation_is_compound operation
is_compound (Marked operation) = operation_is_compound operation
is_compound (Assert claim) = false
is_compound (AssertScoped claim) = false

-- it is declared marked
abbrev pub is_marked : Kind → Bool
is_marked (Plain operation) = false
is_marked (Marked operation) = true
is_marked (Assert claim) = false
is_marked (AssertScoped claim) = false

-- it is an assertion
abbrev pub is_assertion : Kind → Bool
is_assertion (Plain operation) = false
is_assertion (Marked operation) = false
is_assertion (Assert claim) = true
is_assertion (AssertScoped claim) = true

-- it is a scoped assertion
abbrev pub is_scoped : Kind → Bool
is_scoped (Plain operation) = false
is_scoped (Marked operation) = false
is_scoped (Assert claim) = false
is_scoped (AssertScoped claim) = true

-- the flags make no kind: compound without write, scoped without assert, an assertion that is
-- compound or marked
abbrev pub is_bad : Bool → Bool → Bool → Bool → Bool → Bool
is_bad write compound marked assert scoped =
    (compound && not write) || (scoped && not assert) || (assert && (compound || marked))

-- the kind has these flags
pub record HasFlags (write compound marked assert scoped : Bool) (kind : Kind) : Type 0 where
  pub write_is : write_flag kind ≡ write
  pub compound_is : is_compound kind ≡ compound
  pub marked_is : is_marked kind ≡ marked
  pub assert_is : is_assertion kind ≡ assert
  pub scoped_is : is_scoped kind ≡ scoped

-- what an operation is called
abbrev pub operation_words : Operation → List ℕ
operation_words Read = codes "read"
operation_words Write = codes "write"
operation_words ReadWrite = codes "read-write"

-- what a claim is called
abbrev pub claim_words : Claim → List ℕ
claim_words NoWrites = codes "assert no writes"
claim_words NoAccesses = codes "assert no accesses"

-- what a report calls the kind: a declared marked operation has a suffix, and a scope changes no
-- words
abbrev pub access_words : Kind → List ℕ
access_words (Plain operation) = operation_words operation
access_words (Marked operation) = operation_words operation ++ codes " (marked)"
access_words (Assert claim) = claim_words claim
access_words (AssertScoped claim) = claim_words claim
