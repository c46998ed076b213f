-- When something is read from the front of bytes, and what the lines and the head of a trace are there.
use Rattle.std.specs.Prelude.{◌≡◌, ◌*◌, ◌<◌, ◌≤◌, ◌^◌, ◌++◌, ◌↔◌, ℕ, List, Option, Some, None, false, unwrap_or}
use Rattle.std.specs.Borrow.{Bor}
use Rattle.access_types.specs.Access.{IsInLimits, proper_mask}
use Rattle.access_types.specs.Arms.{Arm}
use Rattle.access_types.specs.Kind.{is_scoped}
use Rattle.access_types.specs.Stamped.{Stamped}
use Rattle.access_types.specs.Takes.{Take}
use Rattle.access_types.specs.declared.arms.ArmOutcome.{ArmOutcome}
use Rattle.access_types.specs.declared.arms.ArmOutcome.TheVariants.{Quiet, Origin, Hit}
use Rattle.access_types.specs.declared.report.Report.{Report}
use Rattle.access_types.specs.declared.report.Report.TheVariants.{Two, Unknown}
use Rattle.report_text.specs.Line.{line_text}
use Rattle.report_text.specs.declared.line.Line.{Line}
use Rattle.report_text.specs.declared.line.Line.TheVariants as lines

-- what a reader answers: a value, and the bytes behind it
abbrev pub Read : Type 0 → Type 0
Read V = Option (V × List ℕ)

-- the same, as code has the bytes
abbrev pub seen : {V : Type 0} → Option (V × Bor (List ℕ)) → Read V
seen None = None
seen (Some found) = Some (found.0, found.1.now)

abbrev pub seen_rest : Option (Bor (List ℕ)) → Option (List ℕ)
seen_rest None = None
seen_rest (Some rest) = Some rest.now

-- a value, with the bytes behind it, is read exactly where this holds of them
abbrev pub Reads : {V : Type 0} → (V → List ℕ → Type 0) → Read V → Type 0
Reads {V} Is read = (value : V) → (rest : List ℕ) → Is value rest ↔ (read ≡ Some (value, rest))

-- the ticket names one of the accesses that there can be
pub record IsTicket (ticket : ℕ) : Type 0 where
  pub above_zero : 0 < ticket
  pub limit : ticket ≤ 16 * 65536

-- an access as its line has it: no scope and no mask without a bit is told
pub record AccessIsPlain (s : Stamped) : Type 0 where
  pub limits : IsInLimits s.access
  pub has_bytes : 0 < s.access.size
  pub unscoped : is_scoped s.access.kind ≡ false
  pub mask : proper_mask s.access.mask ≡ s.access.mask
  pub mask_limit : unwrap_or s.access.mask 0 < 2 ^ 64
  pub begin_limit : s.begin < 2 ^ 64
  pub end_limit : s.end < 2 ^ 64

abbrev pub FinderIsPlain : ArmOutcome → Type 0
FinderIsPlain Quiet = Unit {0}
FinderIsPlain Origin = Unit {0}
FinderIsPlain (Hit finder result) = IsTicket finder

pub record ArmIsPlain (a : Arm) : Type 0 where
  pub setter : IsTicket a.setter
  pub number : a.number < 2 ^ 64
  pub index : a.index < 2 ^ 64
  pub watch_word : a.watch_word < 2 ^ 64
  pub finder : FinderIsPlain a.outcome

pub record TakeIsPlain (t : Take) : Type 0 where
  pub finder : IsTicket t.finder
  pub index : t.index < 2 ^ 64
  pub setter : IsTicket t.setter

-- a report as its line has it: of a race, no change is told
abbrev pub ReportIsPlain : Report → Type 0
ReportIsPlain (Two setter finder change) = IsTicket setter × IsTicket finder × (change ≡ None)
ReportIsPlain (Unknown setter old new) = IsTicket setter × (old < 2 ^ 64) × (new < 2 ^ 64)

-- the numbers of the line are within their limits, and it has only what its text tells
abbrev pub IsPlain : Line → Type 0
IsPlain (lines.Access s) = AccessIsPlain s
IsPlain (lines.Arm a) = ArmIsPlain a
IsPlain (lines.Take t) = TakeIsPlain t
IsPlain (lines.Report r) = ReportIsPlain r

-- the bytes begin with the line, and these stand behind it
pub record IsLineAt (bytes : List ℕ) (line : Line) (rest : List ℕ) : Type 0 where
  pub plain : IsPlain line
  pub spelled : bytes ≡ line_text line ++ rest
