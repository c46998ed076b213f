-- What is true of the accesses and lines of the examples.
use Rattle.std.proofs.Common.{◌≡◌, ◌≢◌, ◌+◌, ◌^◌, ◌<◌, ◌≤◌, ◌++◌, ◌∷◌, ◌∙◌, ℕ, List, [], Bool, false, true, arith, inl, inr, refl}
use Rattle.std.specs.Prelude.{All, Contains, IsTrue}
use Rattle.std.proofs.lemmas.List.Elements.{All-cons, All-nil}
use Rattle.access_types.specs.Access.{Breaks, IsInLimits, Overlap}
use Rattle.access_types.specs.Stamped.{Stamped}
use Rattle.access_types.specs.Ticket.{ticket_number}
use Rattle.access_types.specs.declared.kind.Operation.{Operation}
use Rattle.access_types.specs.declared.kind.Operation.TheVariants.{Read, Write}
use Rattle.report_text.specs.Standing.{AccessStands, HaveOtherStamps, LettersAgree, Names, Stands, accesses_of, kind_place}
use Rattle.report_text.specs.TraceText.{Head, first, second}
use Rattle.report_text.specs.Truth.{RaceByStamps}
use Rattle.report_text.specs.declared.line.Line.{Line}
use Rattle.report_text.specs.declared.line.Line.TheVariants as lines
use Rattle.worked_examples.specs.example_traces.Examples.{four_bytes, race_of, read_from, write_from}

pub limits : (task rep : ℕ) (operation : Operation) → task < 16 → rep < 256 → IsInLimits (four_bytes task rep operation)
limits task rep operation small few = record { task = small; site = omega arith; rep = few; range = omega arith }

pub read_letters : (rep begin end : ℕ) → LettersAgree (read_from rep begin end)
read_letters rep begin end = record { marked = λ h. absurd (cc); assertion = λ h. absurd (cc) }

pub write_letters : (begin end : ℕ) → LettersAgree (write_from begin end)
write_letters begin end = record { marked = λ h. refl; assertion = λ h. absurd (cc) }

-- a read may stand first
pub first_read : (begin end : ℕ) → begin < end → end < 1000 → AccessStands [] (read_from 0 begin end)
first_read begin end later few = record {
  limits = limits 0 0 Read (omega arith) (omega arith);
  has_bytes = omega arith;
  mask = omega arith;
  letters = read_letters 0 begin end;
  ends_later = later;
  end_limit = omega arith;
  new_stamps = All-nil _;
  new_name = All-nil _;
}

-- a write may stand after a read with other stamps
pub then_write : (begin end from to : ℕ) → from < to → to < 1000 → from ≢ begin → to ≢ end → from ≢ end → to ≢ begin
    → AccessStands (lines.Access (read_from 0 begin end) ∷ []) (write_from from to)
then_write begin end from to later few a b c d = record {
  limits = limits 1 0 Write (omega arith) (omega arith);
  has_bytes = omega arith;
  mask = omega arith;
  letters = write_letters from to;
  ends_later = later;
  end_limit = omega arith;
  new_stamps = All-cons (HaveOtherStamps (write_from from to)) (read_from 0 begin end) [] (record { begins = a; ends = b; begin_end = c; end_begin = d }) (All-nil _);
  new_name = All-cons (λ (t : Stamped). ticket_number t.access ≢ 65537) (read_from 0 begin end) [] (λ h. absurd (omega arith)) (All-nil _);
}

-- a line among accesses, which come first
pub first_of_all : (head : Head) (s : Stamped) → AccessStands [] s → Stands head [] (lines.Access s)
first_of_all head s h = record { in_order = All-nil _; content = h }

pub second_of_all : (head : Head) (s t : Stamped) → AccessStands (lines.Access s ∷ []) t
    → Stands head (lines.Access s ∷ []) (lines.Access t)
second_of_all head s t h = record { in_order = All-cons (λ (l : Line). kind_place l ≤ 0) (lines.Access s) [] (omega arith) (All-nil _); content = h }

-- the two accesses by their tickets
pub reads_name : (s t : Stamped) (more : List Line) → ticket_number s.access ≡ 1
    → Names (lines.Access s ∷ lines.Access t ∷ more) 1 s
reads_name s t more e = record { stands = (0, omega arith, refl); ticket_is = e }

pub writes_name : (s t : Stamped) (more : List Line) → ticket_number t.access ≡ 65537
    → Names (lines.Access s ∷ lines.Access t ∷ more) 65537 t
writes_name s t more e = record { stands = (1, omega arith, refl); ticket_is = e }

-- the read and the write race where each began before the other's end
pub they_race : (begin end from to : ℕ) → begin < to → from < end → RaceByStamps (read_from 0 begin end) (write_from from to)
they_race begin end from to a b = record {
  tasks = λ h. absurd (omega arith);
  overlap = (65536, ((omega arith, omega arith), (omega arith, omega arith)));
  breaks = inr refl;
  unmarked = λ h. absurd (cc);
  setter_heard = λ h. absurd (cc);
  finder_heard = λ h. absurd (cc);
  at_once = record { setter_first = a; finder_first = b };
}
