-- When a line is true of the accesses before it, and when armings, takings and reports tell of the same.
use Rattle.std.specs.Prelude.{◌≡◌, ◌≢◌, ◌<◌, ◌≤◌, ◌+◌, ◌*◌, ◌/◌, ◌%◌, ◌^◌, ◌==◌, ◌&&◌, ◌||◌, ◌⊎◌, ◌↔◌, ℕ, List, [], ◌∷◌, Bool, IsTrue, IsSome, None, count_by}
use Rattle.std.specs.List.{flat_map}
use Rattle.access_types.specs.Access.{Breaks, Overlap, proper_mask}
use Rattle.access_types.specs.Arms.{Arm}
use Rattle.access_types.specs.Kind.{is_assertion, write_flag}
use Rattle.access_types.specs.Race.{Differ}
use Rattle.access_types.specs.Stamped.{Stamped}
use Rattle.access_types.specs.Takes.{Take}
use Rattle.access_types.specs.declared.arms.ArmOutcome.{ArmOutcome}
use Rattle.access_types.specs.declared.arms.ArmOutcome.TheVariants.{Quiet, Origin, Hit}
use Rattle.access_types.specs.declared.arms.HitResult.{HitResult}
use Rattle.access_types.specs.declared.arms.HitResult.TheVariants as results
use Rattle.access_types.specs.declared.report.Report.{Report}
use Rattle.access_types.specs.declared.report.Report.TheVariants.{Two, Unknown}
use Rattle.watch_word.specs.Match.{Matches}
use Rattle.watch_word.specs.Word.{WordOf, watch_in}
use Rattle.watch_word.specs.declared.layout.Layout.{Layout}
use Rattle.watch_word.specs.declared.watch.Watch.{Watch}
use Rattle.report_text.specs.Standing.{Names, arms_of, reports_of, takes_of}
use Rattle.report_text.specs.TraceText.{Head, first, second}
use Rattle.report_text.specs.declared.line.Line.{Line}
use Rattle.report_text.specs.declared.line.Line.TheVariants as lines

-- each began before the other's end, by their stamps
pub record AreInProgressAtOnce (s f : Stamped) : Type 0 where
  pub setter_first : s.begin < f.end
  pub finder_first : f.begin < s.end

-- the two accesses race, by their stamps: of different tasks, with a common byte, conflicting, not
-- both marked, neither silenced, and in progress at one moment
pub record RaceByStamps (s f : Stamped) : Type 0 where
  pub tasks : s.access.task ≢ f.access.task
  pub overlap : Overlap s.access f.access
  pub breaks : Breaks s.access f.access
  pub unmarked : ¬ (IsTrue s.marked × IsTrue f.marked)
  pub setter_heard : ¬ IsTrue s.silenced
  pub finder_heard : ¬ IsTrue f.silenced
  pub at_once : AreInProgressAtOnce s f

-- values of so many bytes are loaded
abbrev pub IsLoadable : ℕ → Type 0
IsLoadable size = (size ≡ 1) ⊎ (size ≡ 2) ⊎ (size ≡ 4) ⊎ (size ≡ 8)

-- the access may have seen this change: it was watched, it has as many bytes as the values, and they
-- differ in a bit of its mask, or in any bit where it has none
pub record MaySee (s : Stamped) (old new : ℕ) : Type 0 where
  pub unmarked : ¬ IsTrue s.marked
  pub heard : ¬ IsTrue s.silenced
  pub size : IsLoadable s.access.size
  pub old_fits : old < 2 ^ (8 * s.access.size)
  pub new_fits : new < 2 ^ (8 * s.access.size)
  pub differ : Differ (proper_mask s.access.mask) old new

-- the index is one of the three that accesses to the address have: its page slot and the two after it
pub record IsIndexOf (slots addr index : ℕ) : Type 0 where
  pub from_page_slot : addr / 4096 % slots ≤ index
  pub two_after : index ≤ addr / 4096 % slots + 2

-- what became of a hit agrees with the setter and the finder
pub record ResultAgrees (s f : Stamped) (result : HitResult) : Type 0 where
  pub encoding : (result ≡ results.Encoding) ↔ (¬ Overlap s.access f.access)
  pub same_mask : result ≡ results.Same → proper_mask s.access.mask ≡ None
  pub same_kind : result ≡ results.Same → ¬ IsTrue (is_assertion s.access.kind)
  pub same_size : result ≡ results.Same → s.access.size ≤ 8
  pub masked : result ≡ results.Masked → IsSome (proper_mask s.access.mask)

-- the finder could take the setter's watchpoint, which says this, at this index and with this result
pub record MayHit (slots : ℕ) (layout : Layout) (watch : Watch) (index : ℕ) (s f : Stamped)
    (result : HitResult) : Type 0 where
  pub tasks : s.access.task ≢ f.access.task
  pub heard : ¬ IsTrue f.silenced
  pub unmasked : proper_mask f.access.mask ≡ None
  pub index_of_finder : IsIndexOf slots f.access.addr index
  pub breaks : IsTrue (watch.write || write_flag f.access.kind)
  pub meets : Matches layout watch f.access.addr f.access.size
  pub at_once : AreInProgressAtOnce s f
  pub result_agrees : ResultAgrees s f result

-- what became of the arming may have
abbrev pub OutcomeIsTrue : ℕ → Layout → List Line → Stamped → Arm → ArmOutcome → Type 0
OutcomeIsTrue slots layout before s a Quiet = Unit {0}
OutcomeIsTrue slots layout before s a Origin = Unit {0}
OutcomeIsTrue slots layout before s a (Hit finder result) =
    (f : Stamped) × Names before finder f × MayHit slots layout (watch_in layout a.watch_word) a.index s f result

-- the access may have set a watchpoint up with this word, at this index, after so many earlier ones:
-- only an assertion, which is checked again, sets up more than one
pub record MayWatch (slots : ℕ) (layout : Layout) (s : Stamped) (number index word : ℕ) : Type 0 where
  pub unmarked : ¬ IsTrue s.marked
  pub heard : ¬ IsTrue s.silenced
  pub word_is : WordOf layout s.access word
  pub index_of_setter : IsIndexOf slots s.access.addr index
  pub once : (number ≡ 0) ⊎ IsTrue (is_assertion s.access.kind)

-- an arming is true: its access may have made it, and what became of it may have
abbrev pub ArmIsTrue : ℕ → Layout → List Line → Arm → Type 0
ArmIsTrue slots layout before a = (s : Stamped) × Names before a.setter s
    × MayWatch slots layout s a.number a.index a.watch_word × OutcomeIsTrue slots layout before s a a.outcome

-- a report is true
abbrev pub ReportIsTrue : List Line → Report → Type 0
ReportIsTrue before (Two setter finder seen) = (s : Stamped) × (f : Stamped)
    × Names before setter s × Names before finder f × RaceByStamps s f
ReportIsTrue before (Unknown setter old new) =
    (s : Stamped) × Names before setter s × MaySee s old new

-- a line that may stand after these lines is true
abbrev pub IsTrueLine : Head → List Line → Line → Type 0
IsTrueLine head before (lines.Access s) = Unit {0}
IsTrueLine first before (lines.Arm a) = ⊥
IsTrueLine (second slots layout) before (lines.Arm a) = ArmIsTrue slots layout before a
IsTrueLine head before (lines.Take t) = Unit {0}
IsTrueLine head before (lines.Report r) = ReportIsTrue before r

-- the takings that an arming tells of: none, or the one of its finder
abbrev pub hit_in : ℕ → ℕ → ArmOutcome → List Take
hit_in setter index Quiet = []
hit_in setter index Origin = []
hit_in setter index (Hit finder result) = record { finder = finder; index = index; setter = setter } ∷ []

-- the takings that armings tell of
abbrev pub hits_in : List Arm → List Take
hits_in arms = flat_map (λ a. hit_in a.setter a.index a.outcome) arms

-- two accesses that a report names: the setter and the finder
abbrev pub Pair : Type 0
Pair = ℕ × ℕ

-- the reported pair of a hit
abbrev pub reported_pair : ℕ → ℕ → HitResult → List Pair
reported_pair setter finder results.Report = (setter, finder) ∷ []
reported_pair setter finder results.Encoding = []
reported_pair setter finder results.Same = []
reported_pair setter finder results.Masked = []

-- the reported pair of an arming
abbrev pub pair_in : ℕ → ArmOutcome → List Pair
pair_in setter Quiet = []
pair_in setter Origin = []
pair_in setter (Hit finder result) = reported_pair setter finder result

-- the pairs that armings say were reported
abbrev pub pairs_in : List Arm → List Pair
pairs_in arms = flat_map (λ a. pair_in a.setter a.outcome) arms

-- the pair of a race
abbrev pub race_in : Report → List Pair
race_in (Two setter finder seen) = (setter, finder) ∷ []
race_in (Unknown setter old new) = []

-- the access of an arming whose bytes changed with nobody hitting it
abbrev pub origin_of : ℕ → ArmOutcome → List ℕ
origin_of setter Quiet = []
origin_of setter Origin = setter ∷ []
origin_of setter (Hit finder result) = []

-- the accesses that armings say saw a change of unknown origin
abbrev pub origins_in : List Arm → List ℕ
origins_in arms = flat_map (λ a. origin_of a.setter a.outcome) arms

-- the access of a report of unknown origin
abbrev pub unknown_in : Report → List ℕ
unknown_in (Two setter finder seen) = []
unknown_in (Unknown setter old new) = setter ∷ []

-- the two takings are of the same access at the same index of the same setter
abbrev pub is_take : Take → Take → Bool
is_take t u = (t.finder == u.finder) && (t.index == u.index) && (t.setter == u.setter)

-- the two pairs are one
abbrev pub is_pair : Pair → Pair → Bool
is_pair p q = (p.0 == q.0) && (p.1 == q.1)

-- each stands as often in the one list as in the other
abbrev pub AreOneBag : {X : Type 0} → (X → X → Bool) → List X → List X → Type 0
AreOneBag {X} same xs ys = (x : X) → count_by (same x) xs ≡ count_by (same x) ys

-- in version 2 the armings, the takings and the reports tell of the same: each hit was taken, each
-- that was reported is a race line, and each arming of unknown origin is an origin line
pub record TellOfTheSame (all : List Line) : Type 0 where
  pub takings : AreOneBag is_take (hits_in (arms_of all)) (takes_of all)
  pub races : AreOneBag is_pair (pairs_in (arms_of all)) (flat_map race_in (reports_of all))
  pub origins : AreOneBag (λ n m. n == m) (origins_in (arms_of all)) (flat_map unknown_in (reports_of all))

-- the end of a trace of these lines is true
abbrev pub IsTrueEnd : Head → List Line → Type 0
IsTrueEnd first all = Unit {0}
IsTrueEnd (second slots layout) all = TellOfTheSame all

-- the tickets name two accesses among the lines that race
abbrev pub IsRaceOf : List Line → ℕ → ℕ → Type 0
IsRaceOf all setter finder = (s : Stamped) × (f : Stamped)
    × Names all setter s × Names all finder f × RaceByStamps s f
