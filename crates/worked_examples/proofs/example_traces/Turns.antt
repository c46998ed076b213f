-- A loop's trace, line by line.
use Rattle.std.proofs.Common.{◌≡◌, ◌≢◌, ◌+◌, ◌^◌, ◌<◌, ◌≤◌, ◌++◌, ◌∷◌, ℕ, List, [], arith, inr, refl}
use Rattle.std.specs.Fmt.{char_count, digits, padded_integral}
use Rattle.std.specs.List.{AllByRecursion}
use Rattle.std.proofs.lemmas.List.Elements.{All-from_recursion}
use Rattle.access_types.specs.ReportText.{hex}
use Rattle.access_types.specs.Stamped.{Stamped}
use Rattle.access_types.specs.Ticket.{ticket_number}
use Rattle.access_types.specs.declared.kind.Operation.TheVariants.{Read, Write}
use Rattle.report_text.specs.Faults.{IsTrueTrace}
use Rattle.report_text.specs.Line.{spell_access, spell_arm, spell_origin, spell_race, spell_take}
use Rattle.report_text.specs.Standing.{AccessStands, HaveOtherStamps, Names, Stands, accesses_of, kind_place}
use Rattle.report_text.specs.TraceText.{end_line, first, first_version, second_version, shape_line, trace_text}
use Rattle.report_text.specs.Truth.{RaceByStamps}
use Rattle.report_text.specs.declared.line.Line.{Line}
use Rattle.report_text.specs.declared.line.Line.TheVariants as lines
use Rattle.worked_examples.specs.example_traces.Examples.{four_bytes, race_of, read_from, turns, write_from}
use Rattle.worked_examples.proofs.example_traces.Worked.{limits, read_letters, write_letters}

-- what ended before another began has other stamps
later : (s t : Stamped) → t.begin < t.end → t.end < s.begin → s.begin < s.end → HaveOtherStamps s t
later s t a b c = record {
  begins = λ h. absurd (omega arith);
  ends = λ h. absurd (omega arith);
  begin_end = λ h. absurd (omega arith);
  end_begin = λ h. absurd (omega arith);
}

-- a turn of the read may stand after other accesses
turn_stands : (before : List Line) (rep begin end : ℕ) → rep < 256 → begin < end → end < 1000
    → AllByRecursion (λ (l : Line). kind_place l ≤ 0) before
    → AllByRecursion (HaveOtherStamps (read_from rep begin end)) (accesses_of before)
    → AllByRecursion (λ (t : Stamped). ticket_number t.access ≢ ticket_number (four_bytes 0 rep Read)) (accesses_of before)
    → Stands first before (lines.Access (read_from rep begin end))
turn_stands before rep begin end few ends small order stamps names = record {
  in_order = All-from_recursion (λ (l : Line). kind_place l ≤ 0) before order;
  content = record {
    limits = limits 0 rep Read (omega arith) few;
    has_bytes = omega arith;
    mask = omega arith;
    letters = read_letters rep begin end;
    ends_later = ends;
    end_limit = omega arith;
    new_stamps = All-from_recursion (HaveOtherStamps (read_from rep begin end)) (accesses_of before) stamps;
    new_name = All-from_recursion (λ (t : Stamped). ticket_number t.access ≢ ticket_number (four_bytes 0 rep Read))
        (accesses_of before) names;
  };
}

-- the write may stand after the three turns
write_stands : Stands first (lines.Access (read_from 0 0 1) ∷ lines.Access (read_from 1 2 3) ∷ lines.Access (read_from 2 4 7) ∷ [])
    (lines.Access (write_from 5 6))
write_stands =
    let others : List Stamped = read_from 0 0 1 ∷ read_from 1 2 3 ∷ read_from 2 4 7 ∷ [] in
    record {
      in_order = All-from_recursion (λ (l : Line). kind_place l ≤ 0)
          (lines.Access (read_from 0 0 1) ∷ lines.Access (read_from 1 2 3) ∷ lines.Access (read_from 2 4 7) ∷ [])
          (omega arith, (omega arith, (omega arith, tt)));
      content = record {
        limits = limits 1 0 Write (omega arith) (omega arith);
        has_bytes = omega arith;
        mask = omega arith;
        letters = write_letters 5 6;
        ends_later = omega arith;
        end_limit = omega arith;
        new_stamps = All-from_recursion (HaveOtherStamps (write_from 5 6)) others (
          later (write_from 5 6) (read_from 0 0 1) (omega arith) (omega arith) (omega arith),
          (
            later (write_from 5 6) (read_from 1 2 3) (omega arith) (omega arith) (omega arith),
            (
              record {
                begins = λ h. absurd (omega arith);
                ends = λ h. absurd (omega arith);
                begin_end = λ h. absurd (omega arith);
                end_begin = λ h. absurd (omega arith);
              },
              tt,
            ),
          ),
        );
        new_name = All-from_recursion (λ (t : Stamped). ticket_number t.access ≢ 65537) others
            (λ h. absurd (omega arith), (λ h. absurd (omega arith), (λ h. absurd (omega arith), tt)));
      };
    }

-- the third turn and the write race
they_race_there : RaceByStamps (read_from 2 4 7) (write_from 5 6)
they_race_there = record {
  tasks = λ h. absurd (omega arith);
  overlap = (65536, ((omega arith, omega arith), (omega arith, omega arith)));
  breaks = inr refl;
  unmarked = λ h. absurd (cc);
  setter_heard = λ h. absurd (cc);
  finder_heard = λ h. absurd (cc);
  at_once = record { setter_first = omega arith; finder_first = omega arith };
}

-- the four accesses
abbrev four : List Line
four = lines.Access (read_from 0 0 1) ∷ lines.Access (read_from 1 2 3) ∷ lines.Access (read_from 2 4 7) ∷ lines.Access (write_from 5 6) ∷ []

third_named : Names four 3 (read_from 2 4 7)
third_named = record { stands = (2, omega arith, refl); ticket_is = refl }

write_named : Names four 65537 (write_from 5 6)
write_named = record { stands = (3, omega arith, refl); ticket_is = refl }

race_stands : Stands first four (race_of 3)
race_stands = record {
  in_order = All-from_recursion (λ (l : Line). kind_place l ≤ 3) four
      (omega arith, (omega arith, (omega arith, (omega arith, tt))));
  content = ((read_from 2 4 7, third_named), (write_from 5 6, write_named));
}

pub turns_true : IsTrueTrace (trace_text first turns) first turns
unfolding char_count digits padded_integral hex spell_access spell_arm spell_origin spell_race spell_take end_line first_version second_version shape_line
turns_true = record {
  begins = record {
    within = omega arith;
    head_stands = tt;
    spelled = refl;
    lines_true = (
      turn_stands [] 0 0 1 (omega arith) (omega arith) (omega arith) tt tt tt,
      tt,
      (
        turn_stands (lines.Access (read_from 0 0 1) ∷ []) 1 2 3 (omega arith) (omega arith) (omega arith) (omega arith, tt)
            (later (read_from 1 2 3) (read_from 0 0 1) (omega arith) (omega arith) (omega arith), tt)
            (λ h. absurd (omega arith), tt),
        tt,
        (
          turn_stands (lines.Access (read_from 0 0 1) ∷ lines.Access (read_from 1 2 3) ∷ []) 2 4 7
              (omega arith) (omega arith) (omega arith) (omega arith, (omega arith, tt)) (
                later (read_from 2 4 7) (read_from 0 0 1) (omega arith) (omega arith) (omega arith),
                (later (read_from 2 4 7) (read_from 1 2 3) (omega arith) (omega arith) (omega arith), tt),
              )
              (λ h. absurd (omega arith), (λ h. absurd (omega arith), tt)),
          tt,
          (
            write_stands,
            tt,
            (
              race_stands,
              (read_from 2 4 7, write_from 5 6, third_named, write_named, they_race_there),
              tt,
            ),
          ),
        ),
      ),
    );
  };
  end_true = tt;
}
