-- The check of an access as records: its look-up, what follows on it, and the scoped assertions after it.
use Rattle.std.specs.Prelude.{◌≡◌, ◌+◌, ◌||◌, ℕ, List, [], ◌∷◌, Bool, true, false, Option, None, Some, MatchBool}
use Rattle.access_types.specs.Access.{Access}
use Rattle.slot_table.specs.declared.records.Record.{Record}
use Rattle.slot_table.specs.declared.step.Step.TheVariants.{Clock}
use Rattle.watch_word.specs.Word.{Encodable, word_of}
use Rattle.setup_access.specs.Find.{Finds}
use Rattle.setup_access.specs.Found.{FoundWatchpoint}
use Rattle.setup_access.specs.OwnAccesses.{AreOwn, IsOwn}
use Rattle.setup_access.specs.Records.{MakesWord}
use Rattle.setup_access.specs.Setting.{IsWatched, Setting}
use Rattle.setup_access.specs.Setup.{Frees, Judged, SetsUp}
use Rattle.setup_access.specs.declared.begun.Begun.{Begun}
use Rattle.setup_access.specs.declared.outcome.Outcome.{Outcome}
use Rattle.setup_access.specs.declared.outcome.Outcome.TheVariants.{Capacity, Nothing, Unencodable}
use Rattle.setup_access.specs.declared.outcome.Watchpoint.{Watchpoint}

-- an outcome that has fallen: the access that it is of, what it is, and the records that follow on the one at which it
-- fell
pub record Fallen : Type 0 where
  pub access : Access
  pub outcome : Outcome
  pub later : List Record

-- what checking an access once comes to: its outcome, the records that follow on the one at which it falls, whether a
-- watchpoint was found or set up, and how often the task's sampler has been asked by then
pub record Pass : Type 0 where
  pub outcome : Outcome
  pub later : List Record
  pub settled : Bool
  pub asked : ℕ

-- what its outcome is, of this access
abbrev pub fallen_of : Access → Pass → Fallen
fallen_of a pass = record { access = a; outcome = pass.outcome; later = pass.later }

-- what follows on a watch: its verdict has fallen, and its index is given back; or there was none
abbrev pub Ends : Setting → ℕ → Option Judged → List Record → Pass → List Record → Type 0
Ends s asked None records pass rest = (pass ≡ record { outcome = Capacity; later = records; settled = false; asked = asked }) × (rest ≡ records)
Ends s asked (Some judged) records pass rest =
    (pass ≡ record { outcome = judged.outcome; later = records; settled = true; asked = asked }) × Frees s judged.index records rest

-- no watchpoint was found. An access that counts as marked asks nothing; another asks the sampler, and where it is
-- watched sets a watchpoint up, if a word can stand for it
pub data NoneFound (s : Setting) (a : Access) (marked : Bool) (asked : ℕ) (records : List Record) (pass : Pass) (rest : List Record) : Type 0 where
  counts_as_marked : marked ≡ true → pass ≡ record { outcome = Nothing; later = records; settled = false; asked = asked } → rest ≡ records
      → NoneFound s a marked asked records pass rest
  skipped : marked ≡ false → ¬ IsWatched s asked → pass ≡ record { outcome = Nothing; later = records; settled = false; asked = asked + 1 } → rest ≡ records
      → NoneFound s a marked asked records pass rest
  unencodable : marked ≡ false → IsWatched s asked → ¬ Encodable a
      → pass ≡ record { outcome = Unencodable; later = records; settled = false; asked = asked + 1 } → rest ≡ records → NoneFound s a marked asked records pass rest
  watched : (judged : Option Judged) (later : List Record) → marked ≡ false → IsWatched s asked → Encodable a
      → SetsUp s a (word_of s.rules.layout a) records judged later → Ends s (asked + 1) judged later pass rest → NoneFound s a marked asked records pass rest

-- what follows on a look-up
abbrev pub GoesOn : Setting → Access → Bool → ℕ → Option Watchpoint → List Record → Pass → List Record → Type 0
GoesOn s a marked asked (Some found) records pass rest =
    (pass.settled ≡ true) × (pass.asked ≡ asked) × (pass.later ≡ rest) × FoundWatchpoint s a found records pass.outcome rest
GoesOn s a marked asked None records pass rest = NoneFound s a marked asked records pass rest

-- the records begin with one check of an access: it looks a watchpoint up, and goes on from there
abbrev pub ChecksOnce : Setting → Access → Bool → ℕ → List Record → Pass → List Record → Type 0
ChecksOnce s a marked asked records pass rest =
    (found : Option Watchpoint) × (later : List Record) × Finds s a records found later × GoesOn s a marked asked found later pass rest

-- what a list of checks comes to: their outcomes, in the order in which they fall, and how often the sampler has been
-- asked by then
pub record Passes : Type 0 where
  pub outcomes : List Fallen
  pub asked : ℕ

-- the records begin with one check of each of these assertions, in order, but of those that are silenced
abbrev pub Rechecks : Setting → List Begun → ℕ → List Record → Passes → List Record → Type 0
Rechecks s [] asked records passes rest = (passes ≡ record { outcomes = []; asked = asked }) × (rest ≡ records)
Rechecks s (scope ∷ scopes) asked records passes rest =
    MatchBool scope.silenced
    (Rechecks s scopes asked records passes rest)
    ((pass : Pass) × (later : List Record) × (more : List Fallen)
    × ChecksOnce s scope.access scope.marked asked records pass later
    × Rechecks s scopes pass.asked later (record { outcomes = more; asked = passes.asked }) rest
    × (passes.outcomes ≡ fallen_of scope.access pass ∷ more))

-- the scoped assertions that are checked after an access: none if a watchpoint was found or set up
abbrev pub left_to_check : Bool → List Begun → List Begun
left_to_check true scopes = []
left_to_check false scopes = scopes

-- the records begin with a check of the access, and, if it neither found a watchpoint nor set one up, of the scoped
-- assertions in force
abbrev pub ChecksAll : Setting → List Begun → Begun → ℕ → List Record → Passes → List Record → Type 0
ChecksAll s scopes begun asked records passes rest =
    (pass : Pass) × (later : List Record) × (more : List Fallen)
    × ChecksOnce s begun.access begun.marked asked records pass later
    × Rechecks s (left_to_check pass.settled scopes) pass.asked later (record { outcomes = more; asked = passes.asked }) rest
    × (passes.outcomes ≡ fallen_of begun.access pass ∷ more)

-- a silenced access asks the sampler all the same, unless it counts as marked
abbrev pub asked_silenced : Bool → ℕ → ℕ
asked_silenced true asked = asked
asked_silenced false asked = asked + 1

-- an access that has begun is checked unless it is silenced
abbrev pub ChecksBegun : Setting → List Begun → Begun → ℕ → List Record → Passes → List Record → Type 0
ChecksBegun s scopes begun asked records passes rest =
    MatchBool begun.silenced
    ((passes ≡ record { outcomes = []; asked = asked_silenced begun.marked asked }) × (rest ≡ records))
    (ChecksAll s scopes begun asked records passes rest)

-- the clock gives the stamp of an access that begins, then it is checked
abbrev pub ChecksStamped : Setting → List Begun → Begun → ℕ → List Record → Passes → List Record → Type 0
ChecksStamped s scopes begun asked records passes rest =
    MakesWord s.task Clock (λ stamp later. ChecksBegun s scopes begun asked later passes rest) records

-- the records begin with the check of an access of the task, which begins while these scoped assertions are in force,
-- the oldest first
abbrev pub Check : Setting → List Begun → Begun → ℕ → List Record → Passes → List Record → Type 0
Check s scopes begun asked records passes rest =
    IsOwn s begun.access × AreOwn s scopes × ChecksStamped s scopes begun asked records passes rest

-- a scoped assertion is checked once more unless it, or its task by now, is silenced; then the clock gives its end
abbrev pub ChecksLast : Setting → Begun → Bool → ℕ → List Record → Passes → List Record → Type 0
ChecksLast s scope silenced asked records passes rest =
    (later : List Record)
    × Rechecks s ((record scope { silenced = scope.silenced || silenced }) ∷ []) asked records passes later
    × MakesWord s.task Clock (λ stamp after. rest ≡ after) later

-- the records begin with the close of a scoped assertion of the task
abbrev pub Close : Setting → Begun → Bool → ℕ → List Record → Passes → List Record → Type 0
Close s scope silenced asked records passes rest =
    IsOwn s scope.access × ChecksLast s scope silenced asked records passes rest
