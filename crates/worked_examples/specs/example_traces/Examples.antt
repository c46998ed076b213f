-- Worked traces: a plain read and a marked write of the same four bytes, with and without what makes a race of them.
use Rattle.std.specs.Prelude.{◌++◌, ℕ, List, [], ◌∷◌, Bool, true, false, None, codes}
use Rattle.access_types.specs.Access.{Access}
use Rattle.access_types.specs.Arms.{Arm}
use Rattle.access_types.specs.Stamped.{Stamped}
use Rattle.access_types.specs.Takes.{Take}
use Rattle.access_types.specs.declared.arms.ArmOutcome.TheVariants.{Quiet, Hit}
use Rattle.access_types.specs.declared.arms.HitResult.TheVariants as results
use Rattle.access_types.specs.declared.kind.Kind.TheVariants.{Plain}
use Rattle.access_types.specs.declared.kind.Operation.{Operation}
use Rattle.access_types.specs.declared.kind.Operation.TheVariants.{Read, Write}
use Rattle.access_types.specs.declared.report.Report.TheVariants.{Two}
use Rattle.report_text.specs.declared.line.Line.{Line}
use Rattle.report_text.specs.declared.line.Line.TheVariants as lines

-- a plain access of a task to the four bytes from 0x10000 on
abbrev pub four_bytes : ℕ → ℕ → Operation → Access
four_bytes task rep operation = record {
  task = task;
  site = 0;
  rep = rep;
  addr = 65536;
  size = 4;
  kind = Plain operation;
  mask = None;
}

-- a read of task 0 that has ended
abbrev pub read_from : ℕ → ℕ → ℕ → Stamped
read_from rep begin end = record {
  access = four_bytes 0 rep Read;
  begin = begin;
  end = end;
  marked = false;
  silenced = false;
}

-- a write of task 1 that has ended and counted as marked, as plain writes assumed atomic do
abbrev pub write_from : ℕ → ℕ → Stamped
write_from begin end = record {
  access = four_bytes 1 0 Write;
  begin = begin;
  end = end;
  marked = true;
  silenced = false;
}

-- the race of these two, by their tickets
abbrev pub race_of : ℕ → Line
race_of setter = lines.Report (Two setter 65537 None)

-- a read and a write that were in progress at once
abbrev pub racing : List Line
racing = lines.Access (read_from 0 0 3) ∷ lines.Access (write_from 1 2) ∷ []

-- the read ended before the write began
abbrev pub apart : List Line
apart = lines.Access (read_from 0 0 1) ∷ lines.Access (write_from 2 3) ∷ []

-- the watchpoint of the read at an index with a watch word, which the write hit
abbrev pub hit_at : ℕ → ℕ → Line
hit_at index word = lines.Arm (record {
  setter = 1;
  number = 0;
  index = index;
  watch_word = word;
  outcome = Hit 65537 results.Report;
})

-- the taking of it
abbrev pub taken_at : ℕ → Line
taken_at index = lines.Take (record { finder = 65537; index = index; setter = 1 })

-- the two accesses, the watchpoint, its taking and the race
abbrev pub told : List Line
told = racing ++ hit_at 17 0x0008000000010000 ∷ taken_at 17 ∷ race_of 1 ∷ []

-- a loop's three reads, the third of which met the write
abbrev pub turns : List Line
turns = lines.Access (read_from 0 0 1) ∷ lines.Access (read_from 1 2 3) ∷ lines.Access (read_from 2 4 7)
    ∷ lines.Access (write_from 5 6) ∷ race_of 3 ∷ []
