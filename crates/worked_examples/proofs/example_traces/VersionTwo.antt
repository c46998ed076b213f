-- The examples of version 2, line by line.
use Rattle.std.proofs.Common.{◌≡◌, ◌≢◌, ◌+◌, ◌^◌, ◌<◌, ◌≤◌, ◌++◌, ◌∷◌, ◌∙◌, ℕ, suc, zero, List, [], Bool, false, true, arith, ap, get_or, inl, inr, refl, subst, sym}
use Rattle.std.specs.Prelude.{All, Contains, IsTrue, None}
use Rattle.std.specs.Fmt.{char_count, digits, padded_integral}
use Rattle.std.proofs.lemmas.List.Elements.{All-cons, All-from_recursion, All-nil}
use Rattle.std.specs.List.{AllByRecursion}
use Rattle.access_types.specs.Access.{Overlap}
use Rattle.access_types.specs.ReportText.{hex}
use Rattle.access_types.specs.Stamped.{Stamped}
use Rattle.access_types.specs.Ticket.{ticket_number}
use Rattle.access_types.specs.declared.kind.Operation.TheVariants.{Read, Write}
use Rattle.access_types.specs.declared.arms.HitResult.TheVariants as results
use Rattle.watch_word.specs.Layout.{masked}
use Rattle.watch_word.specs.Word.{WordOf, watch_in, word_of}
use Rattle.watch_word.specs.declared.layout.Layout.TheVariants.{W64}
use Rattle.report_text.specs.Faults.{AreTrue, BeginsTruly, FalseReportAt, IsTrueTrace, false_end, false_line}
use Rattle.report_text.specs.Line.{spell_access, spell_arm, spell_origin, spell_race, spell_take}
use Rattle.report_text.specs.Standing.{Names, Stands, kind_place}
use Rattle.report_text.specs.TraceText.{Head, end_line, first, first_version, second, second_version, shape_line, trace_text}
use Rattle.report_text.specs.Truth.{IsTrueEnd, IsTrueLine, MayHit, MayWatch, TellOfTheSame}
use Rattle.report_text.specs.declared.line.Line.{Line}
use Rattle.report_text.specs.declared.line.Line.TheVariants as lines
use Rattle.worked_examples.specs.example_traces.Examples.{apart, four_bytes, hit_at, race_of, racing, read_from, taken_at, told, write_from}
use Rattle.worked_examples.proofs.example_traces.Traces.{apart_true, race_stands, racing_true}
use Rattle.worked_examples.proofs.example_traces.Worked.{reads_name, they_race, writes_name}

-- the word of the read
pub read_word : WordOf W64 (four_bytes 0 0 Read) 0x0008000000010000
unfolding word_of masked
read_word = record { encodable = record { address = omega arith; has_bytes = omega arith; size = omega arith }; is = refl }

-- the read may have set the watchpoint up
pub may_watch : MayWatch 64 W64 (read_from 0 0 3) 0 17 0x0008000000010000
may_watch = record {
  unmarked = λ h. absurd (cc);
  heard = λ h. absurd (cc);
  word_is = read_word;
  index_of_setter = record { from_page_slot = omega arith; two_after = omega arith };
  once = inl refl;
}

they_overlap : Overlap (four_bytes 0 0 Read) (four_bytes 1 0 Write)
they_overlap = (65536, ((omega arith, omega arith), (omega arith, omega arith)))

-- the write may have hit it
pub may_hit : MayHit 64 W64 (watch_in W64 0x0008000000010000) 17 (read_from 0 0 3) (write_from 1 2) results.Report
unfolding watch_in masked
may_hit = record {
  tasks = λ h. absurd (omega arith);
  heard = λ h. absurd (cc);
  unmasked = refl;
  index_of_finder = record { from_page_slot = omega arith; two_after = omega arith };
  breaks = refl;
  meets = record { watch_begins = omega arith; access_begins = omega arith };
  at_once = record { setter_first = omega arith; finder_first = omega arith };
  result_agrees = record {
    encoding = (λ e. absurd (cc), λ apart. absurd (apart they_overlap));
    same_mask = λ e. absurd (cc);
    same_kind = λ e. absurd (cc);
    same_size = λ e. absurd (cc);
    masked = λ e. absurd (cc);
  };
}

-- what the tickets name behind the two accesses
read_named : (more : List Line) → Names (racing ++ more) 1 (read_from 0 0 3)
read_named more = reads_name (read_from 0 0 3) (write_from 1 2) more refl

write_named : (more : List Line) → Names (racing ++ more) 65537 (write_from 1 2)
write_named more = writes_name (read_from 0 0 3) (write_from 1 2) more refl

-- a watchpoint of the read may stand after the two accesses
hit_stands : (index word : ℕ) → index ≤ 65 → word < 2 ^ 64 → Stands (second 64 W64) racing (hit_at index word)
hit_stands index word near small = record {
  in_order = All-cons (λ (l : Line). kind_place l ≤ 1) (lines.Access (read_from 0 0 3)) (lines.Access (write_from 1 2) ∷ []) (omega arith)
      (All-cons (λ (l : Line). kind_place l ≤ 1) (lines.Access (write_from 1 2)) [] (omega arith) (All-nil _));
  content = record {
    setter = (read_from 0 0 3, read_named []);
    number = refl;
    index = near;
    watch_word = small;
    finder = (write_from 1 2, write_named []);
  };
}

hit_true : IsTrueLine (second 64 W64) racing (hit_at 17 0x0008000000010000)
hit_true = (read_from 0 0 3, read_named [], may_watch, (write_from 1 2, write_named [], may_hit))

-- which ticket names which of two accesses
named_first : (s t u : Stamped) → ticket_number t.access ≡ 65537
    → Names (lines.Access s ∷ lines.Access t ∷ []) 1 u → s ≡ u
named_first s t u e h = by h.stands.0 h.stands.1 h.stands.2
  where
    by : (k : ℕ) → k < 2 → get_or (s ∷ t ∷ []) k u ≡ u → s ≡ u
    by zero within is = is
    by (suc zero) within is = absurd (let other : 65537 ≡ 1 = sym e ∙ ap (λ (a : Stamped). ticket_number a.access) is ∙ h.ticket_is in omega arith)
    by (suc (suc k)) within is = absurd (omega arith)

named_second : (s t u : Stamped) → ticket_number s.access ≡ 1
    → Names (lines.Access s ∷ lines.Access t ∷ []) 65537 u → t ≡ u
named_second s t u e h = by h.stands.0 h.stands.1 h.stands.2
  where
    by : (k : ℕ) → k < 2 → get_or (s ∷ t ∷ []) k u ≡ u → t ≡ u
    by zero within is = absurd (let other : 1 ≡ 65537 = sym e ∙ ap (λ (a : Stamped). ticket_number a.access) is ∙ h.ticket_is in omega arith)
    by (suc zero) within is = is
    by (suc (suc k)) within is = absurd (omega arith)

-- the read had ended before the write began
pub apart_false : FalseReportAt (trace_text first (apart ++ race_of 1 ∷ [])) 4
unfolding char_count digits padded_integral hex spell_access spell_arm spell_origin spell_race spell_take end_line first_version second_version shape_line
apart_false = false_line first apart (race_of 1) end_line
    (record { within = omega arith; head_stands = tt; spelled = refl; lines_true = apart_true first })
    (race_stands first 0 1 2 3)
    (λ h.
    let s = named_first (read_from 0 0 1) (write_from 2 3) h.0 refl h.2 in
    let f = named_second (read_from 0 0 1) (write_from 2 3) h.1 refl h.3 in
    let began : h.1.begin < h.0.end = h.4.at_once.finder_first in
    let begins : h.1.begin ≡ 2 = ap (λ (a : Stamped). a.begin) (sym f) in
    let ends : h.0.end ≡ 1 = ap (λ (a : Stamped). a.end) (sym s) in
    omega arith)
    refl

-- a watchpoint that may not have been set up there, or with that word
pub wrong_hit : (index word : ℕ) → index ≤ 65 → word < 2 ^ 64
    → (MayWatch 64 W64 (read_from 0 0 3) 0 index word → ⊥)
    → ¬ IsTrueLine (second 64 W64) racing (hit_at index word)
wrong_hit index word near small never h =
    let s = named_first (read_from 0 0 3) (write_from 1 2) h.0 refl h.1 in
    never (subst (λ (a : Stamped). MayWatch 64 W64 a 0 index word) (sym s) h.2)

-- no watchpoint of the read stands at index 19
pub far_index_false : FalseReportAt (trace_text (second 64 W64) (racing ++ hit_at 19 0x0008000000010000 ∷ taken_at 19 ∷ race_of 1 ∷ [])) 5
unfolding char_count digits padded_integral hex spell_access spell_arm spell_origin spell_race spell_take end_line first_version second_version shape_line
far_index_false = false_line (second 64 W64) racing (hit_at 19 0x0008000000010000)
    (spell_take (record { finder = 65537; index = 19; setter = 1 }) ++ spell_race 1 65537 ++ end_line)
    (record { within = omega arith; head_stands = (omega arith, omega arith); spelled = refl; lines_true = racing_true (second 64 W64) })
    (hit_stands 19 0x0008000000010000 (omega arith) (omega arith))
    (wrong_hit 19 0x0008000000010000 (omega arith) (omega arith) (λ h. let near : 19 ≤ 18 = h.index_of_setter.two_after in absurd (omega arith)))
    refl

-- the word with the write bit is not that of the read
pub other_word_false : FalseReportAt (trace_text (second 64 W64) (racing ++ hit_at 17 0x8008000000010000 ∷ taken_at 17 ∷ race_of 1 ∷ [])) 5
unfolding char_count digits padded_integral hex spell_access spell_arm spell_origin spell_race spell_take end_line first_version second_version shape_line word_of masked
other_word_false = false_line (second 64 W64) racing (hit_at 17 0x8008000000010000)
    (spell_take (record { finder = 65537; index = 17; setter = 1 }) ++ spell_race 1 65537 ++ end_line)
    (record { within = omega arith; head_stands = (omega arith, omega arith); spelled = refl; lines_true = racing_true (second 64 W64) })
    (hit_stands 17 0x8008000000010000 (omega arith) (omega arith))
    (wrong_hit 17 0x8008000000010000 (omega arith) (omega arith)
    (λ h. let same : 0x8008000000010000 ≡ 0x0008000000010000 = h.word_is.is in absurd (omega arith)))
    refl

-- a taking may stand after the watchpoint and other takings
take_stands : (index : ℕ) (more : List Line) → index ≤ 65 → AllByRecursion (λ (l : Line). kind_place l ≤ 2) (racing ++ more)
    → Stands (second 64 W64) (racing ++ more) (taken_at index)
take_stands index more near order = record {
  in_order = All-from_recursion (λ (l : Line). kind_place l ≤ 2) (racing ++ more) order;
  content = record {
    finder = (write_from 1 2, write_named more);
    index = near;
    setter = (read_from 0 0 3, read_named more);
  };
}

-- the race line may stand after all these, and is true
race_last : (more : List Line) → AllByRecursion (λ (l : Line). kind_place l ≤ 3) (racing ++ more)
    → Stands (second 64 W64) (racing ++ more) (race_of 1)
race_last more order = record {
  in_order = All-from_recursion (λ (l : Line). kind_place l ≤ 3) (racing ++ more) order;
  content = ((read_from 0 0 3, read_named more), (write_from 1 2, write_named more));
}

race_true : (more : List Line) → IsTrueLine (second 64 W64) (racing ++ more) (race_of 1)
race_true more = (read_from 0 0 3, write_from 1 2, read_named more, write_named more, they_race 0 3 1 2 (omega arith) (omega arith))

-- the two accesses, and lines after them
with_racing : (more : List Line) → AreTrue (second 64 W64) racing more → AreTrue (second 64 W64) [] (racing ++ more)
with_racing more h = let two = racing_true (second 64 W64) in (two.0, two.1, (two.2.0, two.2.1, h))

told_true : AreTrue (second 64 W64) [] told
told_true = with_racing (hit_at 17 0x0008000000010000 ∷ taken_at 17 ∷ race_of 1 ∷ []) (
  hit_stands 17 0x0008000000010000 (omega arith) (omega arith),
  hit_true,
  (
    take_stands 17 (hit_at 17 0x0008000000010000 ∷ []) (omega arith) (omega arith, (omega arith, (omega arith, tt))),
    tt,
    (
      race_last (hit_at 17 0x0008000000010000 ∷ taken_at 17 ∷ []) (omega arith, (omega arith, (omega arith, (omega arith, tt)))),
      race_true (hit_at 17 0x0008000000010000 ∷ taken_at 17 ∷ []),
      tt,
    ),
  ),
)

pub version_2_true : IsTrueTrace (trace_text (second 64 W64) told) (second 64 W64) told
unfolding char_count digits padded_integral hex spell_access spell_arm spell_origin spell_race spell_take end_line first_version second_version shape_line
version_2_true = record {
  begins = record { within = omega arith; head_stands = (omega arith, omega arith); spelled = refl; lines_true = told_true };
  end_true = record { takings = λ t. refl; races = λ p. refl; origins = λ n. refl };
}

-- the hit was never taken
pub hit_alone_false : FalseReportAt (trace_text (second 64 W64) (racing ++ hit_at 17 0x0008000000010000 ∷ race_of 1 ∷ [])) 7
unfolding char_count digits padded_integral hex spell_access spell_arm spell_origin spell_race spell_take end_line first_version second_version shape_line
hit_alone_false = false_end (second 64 W64) (racing ++ hit_at 17 0x0008000000010000 ∷ race_of 1 ∷ []) []
    (record {
      within = omega arith;
      head_stands = (omega arith, omega arith);
      spelled = refl;
      lines_true = with_racing (hit_at 17 0x0008000000010000 ∷ race_of 1 ∷ []) (
        hit_stands 17 0x0008000000010000 (omega arith) (omega arith),
        hit_true,
        (
          race_last (hit_at 17 0x0008000000010000 ∷ []) (omega arith, (omega arith, (omega arith, tt))),
          race_true (hit_at 17 0x0008000000010000 ∷ []),
          tt,
        ),
      );
    })
    (λ h. let same : 1 ≡ 0 = h.takings (record { finder = 65537; index = 17; setter = 1 }) in absurd (omega arith))
    refl

-- the hit was taken twice
pub taken_twice_false : FalseReportAt (trace_text (second 64 W64) (racing ++ hit_at 17 0x0008000000010000 ∷ taken_at 17 ∷ taken_at 17 ∷ race_of 1 ∷ [])) 9
unfolding char_count digits padded_integral hex spell_access spell_arm spell_origin spell_race spell_take end_line first_version second_version shape_line
taken_twice_false = false_end (second 64 W64) (racing ++ hit_at 17 0x0008000000010000 ∷ taken_at 17 ∷ taken_at 17 ∷ race_of 1 ∷ []) []
    (record {
      within = omega arith;
      head_stands = (omega arith, omega arith);
      spelled = refl;
      lines_true = with_racing (hit_at 17 0x0008000000010000 ∷ taken_at 17 ∷ taken_at 17 ∷ race_of 1 ∷ []) (
        hit_stands 17 0x0008000000010000 (omega arith) (omega arith),
        hit_true,
        (
          take_stands 17 (hit_at 17 0x0008000000010000 ∷ []) (omega arith) (omega arith, (omega arith, (omega arith, tt))),
          tt,
          (
            take_stands 17 (hit_at 17 0x0008000000010000 ∷ taken_at 17 ∷ []) (omega arith)
                (omega arith, (omega arith, (omega arith, (omega arith, tt)))),
            tt,
            (
              race_last (hit_at 17 0x0008000000010000 ∷ taken_at 17 ∷ taken_at 17 ∷ [])
                  (omega arith, (omega arith, (omega arith, (omega arith, (omega arith, tt))))),
              race_true (hit_at 17 0x0008000000010000 ∷ taken_at 17 ∷ taken_at 17 ∷ []),
              tt,
            ),
          ),
        ),
      );
    })
    (λ h. let same : 1 ≡ 2 = h.takings (record { finder = 65537; index = 17; setter = 1 }) in absurd (omega arith))
    refl
