-- How often each thing came of a task's checks.
use Rattle.std.specs.Prelude.{◌≡◌, ◌-◌, ◌^◌, ◌+◌, ℕ, Bool, true, false, List, Option, Some, count_by, min}
use Rattle.setup_access.specs.declared.outcome.Outcome.{Outcome}
use Rattle.setup_access.specs.declared.outcome.Outcome.TheVariants as outcomes
use Rattle.slot_table.specs.declared.step.Answer.{Answer}
use Rattle.slot_table.specs.declared.step.Answer.TheVariants.{Flag}
use Rattle.slot_table.specs.declared.step.Step.{Step}
use Rattle.slot_table.specs.declared.step.Step.TheVariants.{Insert, Consume, TryConsume}
use Rattle.task_log.specs.declared.counters.Counters.{Counters}
use Rattle.task_log.specs.declared.noted.Noted.{Noted}
use Rattle.value_filter.specs.declared.verdict.Reason.TheVariants.{Encoding, SameValue, MaskedBits}

-- a count rests at the largest number of 64 bits
abbrev pub resting : ℕ → ℕ
resting count = min count (2 ^ 64 - 1)

-- a watchpoint is set up
abbrev pub is_arming : Step → Answer → Bool
is_arming (Insert index word) (Flag true) = true
is_arming step answer = false

-- a watchpoint ends that nobody hit
abbrev pub is_quiet : Step → Answer → Bool
is_quiet (Consume index) (Flag true) = true
is_quiet step answer = false

-- a watchpoint ends that an access hit
abbrev pub is_taken : Step → Answer → Bool
is_taken (Consume index) (Flag false) = true
is_taken step answer = false

-- a watchpoint that was found is gone before it can be taken
abbrev pub is_lost : Step → Answer → Bool
is_lost (TryConsume index word) (Flag false) = true
is_lost step answer = false

-- a race of two accesses is reported
abbrev pub is_two_sided : Option Outcome → Bool
is_two_sided (Some (outcomes.Report pair seen)) = true
is_two_sided outcome = false

-- a change of unknown origin is reported
abbrev pub is_unknown : Option Outcome → Bool
is_unknown (Some (outcomes.Unknown old new)) = true
is_unknown outcome = false

-- a hit is dropped, since the two accesses share no byte
abbrev pub is_encoding : Option Outcome → Bool
is_encoding (Some (outcomes.Dropped Encoding)) = true
is_encoding outcome = false

-- a hit is dropped, since the value is the same
abbrev pub is_same : Option Outcome → Bool
is_same (Some (outcomes.Dropped SameValue)) = true
is_same outcome = false

-- a hit is dropped, since no bit of the mask changed
abbrev pub is_masked : Option Outcome → Bool
is_masked (Some (outcomes.Dropped MaskedBits)) = true
is_masked outcome = false

-- no place is free for a watchpoint
abbrev pub is_capacity : Option Outcome → Bool
is_capacity (Some outcomes.Capacity) = true
is_capacity outcome = false

-- no watch word can stand for the access
abbrev pub is_unencodable : Option Outcome → Bool
is_unencodable (Some outcomes.Unencodable) = true
is_unencodable outcome = false

-- a count with one more
abbrev pub more : ℕ → ℕ
more count = resting (count + 1)

-- a count with one more, or as it was
abbrev pub counting : Bool → ℕ → ℕ
counting true count = more count
counting false count = count

-- the counts are those of a task's steps, the latest first
pub record Count (own : List Noted) (counters : Counters) : Type 0 where
  pub arms : counters.arms ≡ resting (count_by (λ noted. is_arming noted.step noted.answer) own)
  pub quiet : counters.quiet ≡ resting (count_by (λ noted. is_quiet noted.step noted.answer) own)
  pub taken : counters.taken ≡ resting (count_by (λ noted. is_taken noted.step noted.answer) own)
  pub lost : counters.lost ≡ resting (count_by (λ noted. is_lost noted.step noted.answer) own)
  pub two_sided : counters.two_sided
      ≡ resting (count_by (λ noted. is_two_sided noted.outcome) own)
  pub unknown : counters.unknown
      ≡ resting (count_by (λ noted. is_unknown noted.outcome) own)
  pub encoding : counters.encoding
      ≡ resting (count_by (λ noted. is_encoding noted.outcome) own)
  pub same : counters.same
      ≡ resting (count_by (λ noted. is_same noted.outcome) own)
  pub masked : counters.masked
      ≡ resting (count_by (λ noted. is_masked noted.outcome) own)
  pub capacity : counters.capacity
      ≡ resting (count_by (λ noted. is_capacity noted.outcome) own)
  pub unencodable : counters.unencodable
      ≡ resting (count_by (λ noted. is_unencodable noted.outcome) own)

-- two counts together
abbrev pub together : ℕ → ℕ → ℕ
together one other = resting (one + other)
