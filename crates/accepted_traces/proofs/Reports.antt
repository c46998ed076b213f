-- The reports of an execution whose tasks have ended may stand in a trace, and are true there.
use Rattle.std.proofs.Common.{◌≡◌, ◌≢◌, ◌<◌, ◌+◌, ◌*◌, ◌^◌, ◌∙◌, ◌∷◌, ◌++◌, length, [], inl, inr, ℕ, suc, zero, All, Bool, Contains, IsTrue, List, None, Option}
use Rattle.std.proofs.Common.{Some, ap, arith, false, refl, subst, sym, take, true}
use Rattle.std.proofs.Math.Nat.{pow-suc}
use Rattle.std.proofs.lemmas.Bool.{ne_eqb}
use Rattle.std.proofs.lemmas.Bool.Decides.{eqb_tells}
use Rattle.std.proofs.lemmas.List.Elements.{All-contains}
use Rattle.access_types.specs.Access as access
use Rattle.access_types.specs.Access.{proper_mask}
use Rattle.access_types.specs.History.{History, InProgress, Memory, after_happening, after_moments, beginning, content, ending, laid, value_from}
use Rattle.access_types.specs.Race.{Differ, bytes_of}
use Rattle.access_types.specs.Stamped.{Stamped}
use Rattle.access_types.specs.Ticket.{ticket_number}
use Rattle.access_types.specs.declared.history.Bytes.{Bytes}
use Rattle.access_types.specs.declared.history.Happening.{Happening}
use Rattle.access_types.specs.declared.history.Happening.TheVariants as happenings
use Rattle.access_types.specs.declared.report.Report.{Report}
use Rattle.access_types.specs.declared.report.Report.TheVariants as reports
use Rattle.litmus_semantics.specs.Layout.{initial_values, memory_at_first}
use Rattle.litmus_semantics.specs.RunOfProgram.{setting_of}
use Rattle.litmus_semantics.specs.TextSites.{FitsTickets, block_sites}
use Rattle.access_run.proofs.memory_operation.WordLemmas.{range_is}
use Rattle.report_text.specs.Truth.{IsLoadable, MaySee, RaceByStamps}
use Rattle.soundness.specs.Reported.{IsOfOutcome}
use Rattle.soundness.specs.Watched.{ChangedInWatch, IfUnknownInWatch, NamesWatched}
use Rattle.soundness.proofs.Memories.{HoldsBytes, first_bytes}
use Rattle.executions.specs.execution.Reports.{reported, reports_of}
use Rattle.executions.specs.execution.Run.{Run, task_of, task_setting}
use Rattle.executions.specs.execution.Execution.{Execution}
use Rattle.executions.specs.execution.Observed.{OutcomeAt, history_of, outcomes_of}
use Rattle.executions.specs.execution.TwoSides.{IfTwoSided, NamesBoth, NamesTwoSides}
use Rattle.log_correctness.specs.Lists.{AreAccesses}
use Rattle.soundness.specs.Events.{AreMarks, EachDoesItsEvent}
use Rattle.soundness.specs.Watches.{is_verdict}
use Rattle.setup_access.specs.Setting as checks
use Rattle.setup_access.specs.Values.{has_value, source_of}
use Rattle.setup_access.specs.declared.outcome.Outcome.{Outcome}
use Rattle.setup_access.specs.declared.outcome.Outcome.TheVariants as outcomes
use Rattle.setup_access.specs.declared.source.Source.{Source}
use Rattle.slot.specs.Pair.{Halves}
use Rattle.slot_table.specs.declared.records.Record.{Record}
use Rattle.slot_table.specs.declared.step.Answer.TheVariants as answers
use Rattle.slot_table.specs.declared.step.Step.TheVariants as steps
use Rattle.log_correctness.specs.Stamps.{stamps_in}
use Rattle.log_correctness.specs.Watched.{IfWatched}
use Rattle.program_order.specs.Standing.{checks_of}
use Rattle.program_order.specs.TaskObserved.{did_by}
use Rattle.accepted_traces.specs.Parts.{OfNamed, ReportFits}
use Rattle.accepted_traces.proofs.Ended as ended
use Rattle.accepted_traces.proofs.Hits as hits

-- ---- values

laid_bytes : (memory : Memory) (bytes : Bytes) (value : ℕ) → HoldsBytes memory → HoldsBytes (laid memory bytes value)
laid_bytes memory bytes value holds address = let here = holds address in grind (arith, here)

after_bytes : (memory : Memory) (happening : Happening) → HoldsBytes memory → HoldsBytes (after_happening memory happening)
after_bytes memory (happenings.Begin a) holds = holds
after_bytes memory (happenings.End a) holds = holds
after_bytes memory (happenings.Read bytes value) holds = holds
after_bytes memory (happenings.Write bytes value) holds = laid_bytes memory bytes value holds
after_bytes memory (happenings.Lock lock) holds = holds
after_bytes memory (happenings.Unlock lock) holds = holds
after_bytes memory (happenings.Mark mark) holds = holds

moments_bytes : (memory : Memory) (history : History) → HoldsBytes memory → HoldsBytes (after_moments memory history)
moments_bytes memory [] holds = holds
moments_bytes memory (moment ∷ history) holds = moments_bytes (after_happening memory moment.happening) history (after_bytes memory moment.happening holds)

value_below : (memory : Memory) (address size : ℕ) → HoldsBytes memory → value_from memory address size < 256 ^ size
value_below memory address zero holds = omega arith
value_below memory address (suc size) holds =
    let low = holds address in
    let more = value_below memory (address + 1) size holds in
    let power : 256 ^ suc size ≡ 256 ^ size * 256 = pow-suc 256 size in
    omega (arith, low, more, power)

value_fits : (places_memory : Memory) (history : History) (k : ℕ) (a : access.Access) (value : ℕ) → HoldsBytes places_memory
    → content places_memory history k (bytes_of a) ≡ value → value < 2 ^ (8 * a.size)
value_fits memory history k a value holds is =
    subst (λ (n : ℕ). value < n) (range_is a.size)
    (subst (λ (v : ℕ). v < 256 ^ a.size) is (value_below (after_moments memory (take k history)) a.addr a.size (moments_bytes memory (take k history) holds)))

loadable : (size : ℕ) → has_value size ≡ true → IsLoadable size
loadable size is = elim (eqb_tells size 1) [
  | inl one ↦ inl one.1
  | inr a ↦ elim (eqb_tells size 2) [
    | inl two ↦ inr (inl two.1)
    | inr b ↦ elim (eqb_tells size 4) [
      | inl four ↦ inr (inr (inl four.1))
      | inr c ↦ elim (eqb_tells size 8) [
        | inl eight ↦ inr (inr (inr eight.1))
        | inr d ↦ absurd (let no : false ≡ true = rw (a.0, b.0, c.0, d.0) at is in cc)
      ]
    ]
  ]
]

has_source : (s : checks.Setting) (a : access.Access) (source : Source) → source_of s a ≡ Some source → has_value a.size ≡ true
has_source s a source is = by (has_value a.size) refl
  where
    by : (b : Bool) → has_value a.size ≡ b → has_value a.size ≡ true
    by true e = e
    by false e = absurd (let no : ◌≡◌ {A = Option Source} None (Some source) = rw e at is in cc)

differ_mask : (mask : Option ℕ) (old new : ℕ) → mask ≢ Some 0 → Differ mask old new → Differ (proper_mask mask) old new
differ_mask None old new not h = h
differ_mask (Some zero) old new not h = absurd (not refl)
differ_mask (Some (suc n)) old new not h = rw (ne_eqb (suc n) 0 (λ e. omega (arith, e))) h

module _ (run : Run) (records : List Record) (list : Execution run records) (each : EachDoesItsEvent list records)
    (stamps : (later earlier : List Record) (latest : Record) → records ≡ later ++ latest ∷ earlier → latest.step ≡ steps.Clock
    → latest.answer ≡ answers.Word (stamps_in earlier)) (few : stamps_in records < 2 ^ 64)
    (first : (task : ℕ) → AreMarks (did_by (list.tasks task) 0))
    (accesses : List Stamped) (are : AreAccesses list accesses)
    (below : (a : access.Access) → Contains (history_of list) (beginning a) → a.task < length run.program.tasks)
    (over : (a : access.Access) → Contains (history_of list) (beginning a) → Contains (history_of list) (ending a))
    (room : (task : ℕ) → task < length run.program.tasks → FitsTickets (block_sites (setting_of run.program run.places task) (task_of run task).body))
    (masks : (a : access.Access) → Contains (history_of list) (beginning a) → a.mask ≢ Some 0)
    (watched : All (IfWatched list) (outcomes_of list)) (both : All (NamesBoth list) (outcomes_of list)) (changed : All (NamesWatched list) (outcomes_of list)) where
  abbrev Among : access.Access → Type 0
  Among a = hits.Among run records list each stamps few first accesses are below over room masks a

  among : (a : access.Access) (moment : ℕ) → InProgress (history_of list) a moment → Among a
  among = hits.among run records list each stamps few first accesses are below over room masks

  race_fits : (came : OutcomeAt) (pair_setter pair_finder : ℕ) → (two : NamesTwoSides list came (record { setter = pair_setter; finder = pair_finder }))
      → OfNamed accesses pair_setter (λ s. OfNamed accesses pair_finder (λ f. RaceByStamps s f))
  race_fits came pair_setter pair_finder two =
      let a : access.Access = came.access in
      let b : access.Access = two.answer.finder in
      let race = two.race in
      let s : Among a = among a race.moment race.first_goes in
      let f : Among b = among b race.moment race.second_goes in
      let begun = ended.begun_in run records list each stamps few first a race.moment race.first_goes in
      let begun_f = ended.begun_in run records list each stamps few first b race.moment race.second_goes in
      let s_ticket : pair_setter ≡ ticket_number a = ap (λ (p : Halves). p.setter) two.is ∙ two.answer.setter_named in
      let f_ticket : pair_finder ≡ ticket_number b = ap (λ (p : Halves). p.finder) two.is ∙ two.answer.finder_named in
      let to_s : a ≡ s.stamped.access = sym s.is in
      let to_f : b ≡ f.stamped.access = sym f.is in
      let unmarked = hits.unmarked_so run records list each stamps few first accesses are below over room masks a s two.unmarked in
      record {
        access = s.stamped;
        named = hits.named_so run records list each stamps few first accesses are below over room masks a s pair_setter s_ticket;
        holds = record {
          access = f.stamped;
          named = hits.named_so run records list each stamps few first accesses are below over room masks b f pair_finder f_ticket;
          holds = record {
            tasks = λ same. race.tasks (ap (λ (x : access.Access). x.task) to_s ∙ (same ∙ ap (λ (x : access.Access). x.task) (sym to_f)));
            overlap = subst (λ x. access.Overlap x f.stamped.access) to_s (subst (λ y. access.Overlap a y) to_f race.overlap);
            breaks = subst (λ x. access.Breaks x f.stamped.access) to_s (subst (λ y. access.Breaks a y) to_f race.breaks);
            unmarked = λ marked. unmarked marked.0;
            setter_heard = hits.heard_so run records list each stamps few first accesses are below over room masks a s race.first_heard;
            finder_heard = hits.heard_so run records list each stamps few first accesses are below over room masks b f race.second_heard;
            at_once = ended.at_once run records list each stamps few first room a.task b.task s.stamped f.stamped race.moment
                (below a begun) (below b begun_f) s.span f.span
                (subst (λ (x : access.Access). InProgress (history_of list) x race.moment) to_s race.first_goes)
                (subst (λ (x : access.Access). InProgress (history_of list) x race.moment) to_f race.second_goes);
          };
        };
      }

  origin_fits : (came : OutcomeAt) (old new : ℕ) → Contains (outcomes_of list) came → came.outcome ≡ outcomes.Unknown old new → ChangedInWatch list came old new
      → OfNamed accesses (ticket_number came.access) (λ s. MaySee s old new)
  origin_fits came old new told is change =
      let a : access.Access = came.access in
      let seen = change.changed in
      let s : Among a = among a seen.first seen.goes_at_first in
      let begun = ended.begun_in run records list each stamps few first a seen.first seen.goes_at_first in
      let yes_verdict : IsTrue (is_verdict came.outcome) = subst (λ (o : Outcome). IsTrue (is_verdict o)) (sym is) refl in
      let may = All-contains (IfWatched list) (outcomes_of list) came watched told yes_verdict in
      let memory : Memory = memory_at_first run.places run.program.variables in
      let holds : HoldsBytes memory = first_bytes (initial_values run.places 0 run.program.variables) in
      let size : IsLoadable a.size = loadable a.size (has_source (checks_of (task_setting run a.task)) a change.source change.lies) in
      record {
        access = s.stamped;
        named = hits.named_so run records list each stamps few first accesses are below over room masks a s (ticket_number a) refl;
        holds = record {
          unmarked = hits.unmarked_so run records list each stamps few first accesses are below over room masks a s may.unmarked;
          heard = hits.heard_so run records list each stamps few first accesses are below over room masks a s may.heard;
          size = subst (λ (x : access.Access). IsLoadable x.size) (sym s.is) size;
          old_fits = subst (λ (x : access.Access). old < 2 ^ (8 * x.size)) (sym s.is) (value_fits memory (history_of list) seen.first a old holds seen.was);
          new_fits = subst (λ (x : access.Access). new < 2 ^ (8 * x.size)) (sym s.is) (value_fits memory (history_of list) seen.later a new holds seen.is);
          differ = subst (λ (x : access.Access). Differ (proper_mask x.mask) old new) (sym s.is) (differ_mask a.mask old new (masks a begun) seen.differ);
        };
      }

  report_fits : (came : OutcomeAt) (outcome : Outcome) (report : Report) → Contains (outcomes_of list) came → came.outcome ≡ outcome → reported came.access outcome ≡ Some report
      → ReportFits accesses report
  report_fits came (outcomes.Report pair seen) report told is e =
      let same : reports.Two pair.setter pair.finder seen ≡ report = cc in
      let two : NamesTwoSides list came pair =
      subst (λ (o : Outcome). IfTwoSided list came o) is (All-contains (NamesBoth list) (outcomes_of list) came both told) in
      subst (ReportFits accesses) same (race_fits came pair.setter pair.finder two)
  report_fits came (outcomes.Unknown old new) report told is e =
      let same : reports.Unknown (ticket_number came.access) old new ≡ report = cc in
      let change : ChangedInWatch list came old new =
      subst (λ (o : Outcome). IfUnknownInWatch list came o) is (All-contains (NamesWatched list) (outcomes_of list) came changed told) in
      subst (ReportFits accesses) same (origin_fits came old new told is change)
  report_fits came outcomes.Nothing report told is e = absurd cc
  report_fits came outcomes.Unencodable report told is e = absurd cc
  report_fits came outcomes.Capacity report told is e = absurd cc
  report_fits came outcomes.Lost report told is e = absurd cc
  report_fits came outcomes.Quiet report told is e = absurd cc
  report_fits came (outcomes.Told pair) report told is e = absurd cc
  report_fits came (outcomes.Dropped reason) report told is e = absurd cc

  pub reports_fit : All (IsOfOutcome list) (reports_of list) → All (ReportFits accesses) (reports_of list)
  reports_fit of_outcomes = λ k d within.
      let it = of_outcomes k d within in
      report_fits it.came it.came.outcome _ it.told refl it.is
