-- When accesses, armings, takings and reports are the parts of one true trace.
use Rattle.std.specs.Prelude.{◌≡◌, ◌≢◌, ◌<◌, ◌≤◌, ◌*◌, ◌+◌, ◌^◌, ◌==◌, ◌++◌, ℕ, List, ◌∷◌, All, Contains, count_by, length, unwrap_or}
use Rattle.std.specs.List.{flat_map}
use Rattle.access_types.specs.Access.{IsInLimits}
use Rattle.access_types.specs.Arms.{Arm}
use Rattle.access_types.specs.Stamped.{Stamped}
use Rattle.access_types.specs.Takes.{Take}
use Rattle.access_types.specs.Ticket.{ticket_number}
use Rattle.access_types.specs.declared.arms.ArmOutcome.{ArmOutcome}
use Rattle.access_types.specs.declared.arms.ArmOutcome.TheVariants.{Quiet, Origin, Hit}
use Rattle.access_types.specs.declared.report.Report.{Report}
use Rattle.access_types.specs.declared.report.Report.TheVariants.{Two, Unknown}
use Rattle.report_text.specs.Standing.{HaveOtherStamps, LettersAgree}
use Rattle.report_text.specs.Truth.{AreOneBag, MayHit, MaySee, MayWatch, RaceByStamps, hits_in, is_pair, is_take, origins_in, pairs_in, race_in, unknown_in}
use Rattle.watch_word.specs.Word.{watch_in}
use Rattle.watch_word.specs.declared.layout.Layout.{Layout}

-- the mask of an access is a number of 64 bits
abbrev pub HasLowMask : Stamped → Type 0
HasLowMask s = unwrap_or s.access.mask 0 < 2 ^ 64

-- an access of a trace has bytes, ends after it began, and has the letters of its kind
pub record AccessFits (s : Stamped) : Type 0 where
  pub limits : IsInLimits s.access
  pub has_bytes : 0 < s.access.size
  pub mask : unwrap_or s.access.mask 0 < 2 ^ 64
  pub letters : LettersAgree s
  pub ends_later : s.begin < s.end
  pub end_limit : s.end < 2 ^ 64

-- the two have no stamp in common, and not one ticket
pub record AreOther (s t : Stamped) : Type 0 where
  pub stamps : HaveOtherStamps s t
  pub name : ticket_number t.access ≢ ticket_number s.access

-- the ticket is that of this access, which is one of these
pub record IsNamed (accesses : List Stamped) (ticket : ℕ) (s : Stamped) : Type 0 where
  pub stands : Contains accesses s
  pub ticket_is : ticket_number s.access ≡ ticket

-- the ticket names one of these accesses, of which this holds
pub record OfNamed (accesses : List Stamped) (ticket : ℕ) (P : Stamped → Type 0) : Type 0 where
  pub access : Stamped
  pub named : IsNamed accesses ticket access
  pub holds : P access

-- what became of the arming of an access may have
abbrev pub OutcomeFits : ℕ → Layout → List Stamped → Arm → Stamped → ArmOutcome → Type 0
OutcomeFits slots layout accesses a s Quiet = Unit {0}
OutcomeFits slots layout accesses a s Origin = Unit {0}
OutcomeFits slots layout accesses a s (Hit finder result) =
    OfNamed accesses finder (λ f. MayHit slots layout (watch_in layout a.watch_word) a.index s f result)

-- an arming is of one of the accesses, which may have made it after so many of its earlier ones
pub record ArmFits (slots : ℕ) (layout : Layout) (accesses : List Stamped) (earlier : List Arm) (a : Arm) : Type 0 where
  pub number : a.number ≡ count_by (λ b. b.setter == a.setter) earlier
  pub watch_word : a.watch_word < 2 ^ 64
  pub setter : OfNamed accesses a.setter (λ s. MayWatch slots layout s a.number a.index a.watch_word × OutcomeFits slots layout accesses a s a.outcome)

-- a taking is of two of the accesses
pub record TakeFits (slots : ℕ) (accesses : List Stamped) (t : Take) : Type 0 where
  pub index : t.index ≤ slots + 1
  pub finder : OfNamed accesses t.finder (λ f. Unit {0})
  pub setter : OfNamed accesses t.setter (λ s. Unit {0})

-- a report is a race of two of the accesses, or a change that one of them may have seen
abbrev pub ReportFits : List Stamped → Report → Type 0
ReportFits accesses (Two setter finder seen) = OfNamed accesses setter (λ s. OfNamed accesses finder (λ f. RaceByStamps s f))
ReportFits accesses (Unknown setter old new) = OfNamed accesses setter (λ s. MaySee s old new)

-- All this is so of each of the accesses, armings, takings and reports, and armings, takings and reports tell
-- of the same. There are at most so many of each.
pub record AreParts (slots : ℕ) (layout : Layout) (accesses : List Stamped) (arms : List Arm) (takes : List Take)
    (reports : List Report) : Type 0 where
  pub few_slots : 3 ≤ slots
  pub slots_limit : slots ≤ 1024
  pub each_access : All AccessFits accesses
  pub others : (earlier later : List Stamped) (s : Stamped) → accesses ≡ earlier ++ s ∷ later → All (AreOther s) earlier
  pub each_arm : (earlier later : List Arm) (a : Arm) → arms ≡ earlier ++ a ∷ later → ArmFits slots layout accesses earlier a
  pub each_take : All (TakeFits slots accesses) takes
  pub each_report : All (ReportFits accesses) reports
  pub takings : AreOneBag is_take (hits_in arms) takes
  pub races : AreOneBag is_pair (pairs_in arms) (flat_map race_in reports)
  pub origins : AreOneBag (λ n m. n == m) (origins_in arms) (flat_map unknown_in reports)
  pub few_accesses : length accesses ≤ 16 * 1024
  pub few_arms : length arms ≤ 16 * 9216
  pub few_takes : length takes ≤ 16 * 9216
  pub few_reports : length reports ≤ 16 * 9216
