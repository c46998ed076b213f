-- The table of verdicts on a watch that is over: a report, a hit that is dropped, or quiet.
use Rattle.std.specs.Prelude.{◌≡◌, ◌≢◌, ◌<◌, ◌⊎◌, Bool, true, false, IsTrue}
use Rattle.access_types.specs.Access.{Access}
use Rattle.access_types.specs.Kind.{is_assertion}
use Rattle.value_filter.specs.declared.verdict.Change.{Change}
use Rattle.value_filter.specs.declared.verdict.Change.TheVariants.{Seen, Maybe, Ruled}
use Rattle.value_filter.specs.declared.verdict.Reason.TheVariants.{SameValue, MaskedBits}
use Rattle.value_filter.specs.declared.verdict.Verdict.{Verdict}
use Rattle.value_filter.specs.declared.verdict.Verdict.TheVariants.{Report, Drop, Quiet}

-- a hit matters although no change was seen: more than 8 bytes are taken to have changed, and an
-- assertion is not about values
abbrev pub MattersUnchanged : Access → Type 0
MattersUnchanged setter = (8 < setter.size) ⊎ IsTrue (is_assertion setter.kind)

-- the table of verdicts, for two sides that share a byte: the first row that fits decides
pub data VerdictOf (setter : Access) (taken : Bool) (change : Change)
    (value_change_only : Bool) (verdict : Verdict) : Type 0 where
  taken_seen : taken ≡ true → change ≡ Seen → verdict ≡ Report
      → VerdictOf setter taken change value_change_only verdict
  taken_ruled : taken ≡ true → change ≡ Ruled → verdict ≡ Drop MaskedBits
      → VerdictOf setter taken change value_change_only verdict
  taken_unseen : taken ≡ true → change ≡ Maybe → MattersUnchanged setter → verdict ≡ Report
      → VerdictOf setter taken change value_change_only verdict
  taken_same : taken ≡ true → change ≡ Maybe → ¬ MattersUnchanged setter → value_change_only ≡ true
      → verdict ≡ Drop SameValue → VerdictOf setter taken change value_change_only verdict
  taken_any : taken ≡ true → change ≡ Maybe → ¬ MattersUnchanged setter → value_change_only ≡ false
      → verdict ≡ Report → VerdictOf setter taken change value_change_only verdict
  untaken_seen : taken ≡ false → change ≡ Seen → verdict ≡ Report
      → VerdictOf setter taken change value_change_only verdict
  untaken : taken ≡ false → change ≢ Seen → verdict ≡ Quiet
      → VerdictOf setter taken change value_change_only verdict
