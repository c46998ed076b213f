-- What is written of a trace that is accepted.
use Rattle.std.specs.Prelude.{◌≡◌, ◌++◌, ℕ, List, codes}
use Rattle.std.specs.Fmt.{decimal}
use Rattle.access_types.specs.ReportText.{line}
use Rattle.trace_replay.specs.Answer.{IsAccepted}
use Rattle.trace_replay.specs.declared.accepted.Accepted.{Accepted}
use Rattle.trace_replay.specs.declared.accepted.Accepted.TheVariants as accepted

-- the line on a trace of version 1 with so many accesses and reports
unfoldable pub first_line : (accesses reports : ℕ) → List ℕ
first_line accesses reports = line (
    codes "trace accepted: " ++ decimal accesses ++ codes " accesses, " ++ decimal reports ++ codes " reports")

-- the line on a trace of version 2 with so many accesses, armings, takings and reports
unfoldable pub second_line : (accesses arms takes reports : ℕ) → List ℕ
second_line accesses arms takes reports = line (
    codes "trace accepted: " ++ decimal accesses ++ codes " accesses, " ++ decimal arms ++ codes " arms, "
    ++ decimal takes ++ codes " takes, " ++ decimal reports ++ codes " reports")

-- the line on a trace that is accepted
abbrev pub accepted_line : Accepted → List ℕ
accepted_line (accepted.First accesses reports) = first_line accesses reports
accepted_line (accepted.Second accesses arms takes reports) = second_line accesses arms takes reports

-- the bytes are a true trace, and this is the line on it
pub record IsLineOf (bytes text : List ℕ) : Type 0 where
  pub counts : Accepted
  pub accepted : IsAccepted bytes counts
  pub spelled : text ≡ accepted_line counts
