-- The values of the reads of a history.
use Rattle.std.specs.Prelude.{◌≡◌, ℕ, IfSome, slice_get}
use Rattle.access_types.specs.History.{History, Memory, content}
use Rattle.access_types.specs.declared.history.Happening.{Happening}
use Rattle.access_types.specs.declared.history.Happening.TheVariants as happenings

-- a read holds the content of its bytes after so many moments
abbrev pub HoldsContent : Memory → History → ℕ → Happening → Type 0
HoldsContent initial history k (happenings.Read bytes value) = value ≡ content initial history k bytes
HoldsContent initial history k happening = Unit {0}

-- each read of the history holds it just before the read
abbrev pub ReadsHold : Memory → History → Type 0
ReadsHold initial history =
    (k : ℕ) → IfSome (slice_get history k) (λ moment. HoldsContent initial history k moment.happening)
