-- Reading the fields of a line, as functions of bytes: each answers what stands at the front, and what is behind it.
use Rattle.std.specs.Prelude.{◌+◌, ◌*◌, ◌-◌, ◌<◌, ◌^◌, ◌==◌, ◌&&◌, ℕ, List, [], ◌∷◌, Option, Some, None, Bool, true, false, codes, drop, if◌then◌else◌, length, nat_lt, not, slice_index, take}
use Rattle.std.specs.Char.{digit_value, is_ascii_digit}
use Rattle.std.specs.Str.Parse.{digits_value}
use Rattle.access_types.specs.declared.arms.ArmOutcome.{ArmOutcome}
use Rattle.access_types.specs.declared.arms.ArmOutcome.TheVariants.{Quiet, Origin, Hit}
use Rattle.access_types.specs.declared.arms.HitResult.{HitResult}
use Rattle.access_types.specs.declared.arms.HitResult.TheVariants as results
use Rattle.access_types.specs.declared.kind.Claim.TheVariants.{NoWrites, NoAccesses}
use Rattle.access_types.specs.declared.kind.Kind.{Kind}
use Rattle.access_types.specs.declared.kind.Kind.TheVariants.{Plain, Marked, Assert}
use Rattle.access_types.specs.declared.kind.Operation.{Operation}
use Rattle.access_types.specs.declared.kind.Operation.TheVariants.{Read, Write, ReadWrite}
use Rattle.trace_replay.specs.declared.trace_lines.fields.AccessLetters.{AccessLetters}
use Rattle.trace_replay.specs.declared.trace_lines.fields.AccessName.{AccessName}
use Rattle.trace_replay.specs.trace_lines.Reading as reading

infixl 10 ◌>>=◌
-- one reader behind another
abbrev pub ◌>>=◌ : {A B : Type 0} → Option A → (A → Option B) → Option B
None >>= f = None
(Some x) >>= f = f x

-- the first of two readers that answers
abbrev pub either : {A : Type 0} → Option A → Option A → Option A
either None other = other
either (Some x) other = Some x

-- the bytes behind the text, where it stands at the front
unfoldable pub past : List ℕ → List ℕ → Option (List ℕ)
past [] bytes = Some bytes
past (c ∷ text) [] = None
past (c ∷ text) (b ∷ bytes) = if c == b then past text bytes else None

-- the same, where there are bytes
abbrev pub past_in : List ℕ → Option (List ℕ) → Option (List ℕ)
past_in text bytes = bytes >>= past text

-- one reader behind a text, and another where the text isn't there
abbrev pub behind : {V : Type 0} → Option (List ℕ) → (List ℕ → reading.Read V) → reading.Read V → reading.Read V
behind None reader other = other
behind (Some rest) reader other = reader rest

-- a value, where a text stood at the front
abbrev pub means : {V : Type 0} → V → Option (List ℕ) → reading.Read V
means value None = None
means value (Some rest) = Some (value, rest)

-- the digits at the front, and what is behind them
unfoldable pub digits_of : List ℕ → List ℕ
digits_of [] = []
digits_of (b ∷ bytes) = if is_ascii_digit b then b ∷ digits_of bytes else []

unfoldable pub behind_digits : List ℕ → List ℕ
behind_digits [] = []
behind_digits (b ∷ bytes) = if is_ascii_digit b then behind_digits bytes else b ∷ bytes

-- each byte is a digit
abbrev pub AreDigits : List ℕ → Type 0
AreDigits digits = (k : ℕ) → k < length digits → digit_value (slice_index digits k) < 10

-- there are digits, with no leading zero
abbrev pub is_number : List ℕ → Bool
is_number [] = false
is_number (d ∷ []) = true
is_number (d ∷ e ∷ digits) = not (d == 48)

-- the value of digits, where it is below 2^64
unfoldable pub small_value : List ℕ → Option ℕ
small_value digits = if nat_lt (digits_value 10 digits) (2 ^ 64) then Some (digits_value 10 digits) else None

abbrev pub number_of : List ℕ → List ℕ → reading.Read ℕ
number_of digits rest = if is_number digits then (small_value digits >>= λ value. Some (value, rest)) else None

-- a number in decimal
unfoldable pub decimal_at : List ℕ → reading.Read ℕ
decimal_at bytes = number_of (digits_of bytes) (behind_digits bytes)

-- the value of a lower-case hexadecimal digit
unfoldable pub hex_value : ℕ → Option ℕ
hex_value b =
    if nat_lt 47 b && nat_lt b 58 then Some (b - 48)
    else if nat_lt 96 b && nat_lt b 103 then Some (b - 87)
    else None

-- the number that digits spell behind a number, where all are hexadecimal digits
unfoldable pub hex_all : ℕ → List ℕ → Option ℕ
hex_all value [] = Some value
hex_all value (b ∷ bytes) = hex_value b >>= λ digit. hex_all (value * 16 + digit) bytes

-- `0x` and 16 digits
abbrev pub hex_behind : List ℕ → reading.Read ℕ
hex_behind rest = if nat_lt (length rest) 16 then None
    else (hex_all 0 (take 16 rest) >>= λ value. Some (value, drop 16 rest))

unfoldable pub hex_at : List ℕ → reading.Read ℕ
hex_at bytes = past (codes "0x") bytes >>= hex_behind

-- a number and what is behind it, where it was there
abbrev pub parted : reading.Read ℕ → ℕ × Option (List ℕ)
parted None = (0, None)
parted (Some found) = (found.0, Some found.1)

-- the number behind a blank, where all before it was there
unfoldable pub next : (List ℕ → reading.Read ℕ) → Option (List ℕ) → ℕ × Option (List ℕ)
next reader bytes = parted (bytes >>= past (codes " ") >>= reader)

-- a repetition above 0 behind a dot, or 0
abbrev pub repetition_by : Option (List ℕ) → List ℕ → reading.Read ℕ
repetition_by None bytes = Some (0, bytes)
repetition_by (Some rest) bytes = decimal_at rest >>= λ rep. if rep.0 == 0 then None else Some rep

unfoldable pub repetition_at : List ℕ → reading.Read ℕ
repetition_at bytes = repetition_by (past (codes ".") bytes) bytes

-- the name is within its limits
abbrev pub AreInLimits : AccessName → Type 0
AreInLimits name = (name.task < 16) × (name.site < 256) × (name.rep < 256)

-- the name of these numbers, where they are within their limits
abbrev pub name_of : ℕ → ℕ → ℕ → Option AccessName
name_of task site rep =
    if nat_lt task 16 && nat_lt site 256 && nat_lt rep 256
    then Some (record { task = task; site = site; rep = rep }) else None

-- a task, a site and a repetition
unfoldable pub name_at : List ℕ → reading.Read AccessName
name_at bytes =
    decimal_at bytes >>= λ task.
    let site = next decimal_at (Some task.1) in
    site.1 >>= λ behind. repetition_at behind >>= λ rep. name_of task.0 site.0 rep.0 >>= λ name. Some (name, rep.1)

-- a name, as a ticket
unfoldable pub ticket_at : List ℕ → reading.Read ℕ
ticket_at bytes = name_at bytes >>= λ name. Some (1 + name.0.task * 65536 + name.0.site * 256 + name.0.rep, name.1)

-- whether a letter stands at the front, and what is behind it
abbrev pub flag_by : Option (List ℕ) → List ℕ → Bool × List ℕ
flag_by None bytes = (false, bytes)
flag_by (Some rest) bytes = (true, rest)

unfoldable pub flag_at : List ℕ → List ℕ → Bool × List ℕ
flag_at letter bytes = flag_by (past letter bytes) bytes

-- the letter of an operation
unfoldable pub operation_at : List ℕ → reading.Read Operation
operation_at bytes =
    either (means Read (past (codes "r") bytes))
    (either (means Write (past (codes "w") bytes)) (means ReadWrite (past (codes "u") bytes)))

-- the kind of these letters
abbrev pub kind_of : Operation → Bool → Bool → Option Kind
kind_of operation false false = Some (Plain operation)
kind_of operation false true = Some (Marked operation)
kind_of Read true false = Some (Assert NoWrites)
kind_of Write true false = Some (Assert NoAccesses)
kind_of ReadWrite true false = None
kind_of operation true true = None

-- the letters of a kind
abbrev pub kind_declared : Operation → Bool → Bool × List ℕ → reading.Read Kind
kind_declared operation asserts declared = kind_of operation asserts declared.0 >>= λ kind. Some (kind, declared.1)

abbrev pub kind_asserted : Operation → Bool × List ℕ → reading.Read Kind
kind_asserted operation asserted = kind_declared operation asserted.0 (flag_at (codes "m") asserted.1)

unfoldable pub kind_at : List ℕ → reading.Read Kind
kind_at bytes = operation_at bytes >>= λ operation. kind_asserted operation.0 (flag_at (codes "a") operation.1)

-- the letters of an access
abbrev pub letters_silenced : Kind → Bool → Bool × List ℕ → reading.Read AccessLetters
letters_silenced kind marked silenced = Some (record { kind = kind; marked = marked; silenced = silenced.0 }, silenced.1)

abbrev pub letters_marked : Kind → Bool × List ℕ → reading.Read AccessLetters
letters_marked kind marked = letters_silenced kind marked.0 (flag_at (codes "s") marked.1)

unfoldable pub letters_at : List ℕ → reading.Read AccessLetters
letters_at bytes = kind_at bytes >>= λ kind. letters_marked kind.0 (flag_at (codes "c") kind.1)

-- what became of a hit
unfoldable pub result_at : List ℕ → reading.Read HitResult
result_at bytes =
    either (means results.Report (past (codes " report") bytes))
    (either (means results.Encoding (past (codes " encoding") bytes))
    (either (means results.Same (past (codes " same") bytes)) (means results.Masked (past (codes " masked") bytes))))

-- a hit, by its finder
unfoldable pub hit_at : List ℕ → reading.Read ArmOutcome
hit_at bytes = ticket_at bytes >>= λ finder. result_at finder.1 >>= λ result. Some (Hit finder.0 result.0, result.1)

-- what became of an arming
unfoldable pub outcome_at : List ℕ → reading.Read ArmOutcome
outcome_at bytes =
    either (means Quiet (past (codes "quiet") bytes))
    (either (means Origin (past (codes "origin") bytes)) (hit_at bytes))
