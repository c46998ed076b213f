-- With one step more all is kept still.
use Rattle.std.proofs.Common.{◌≡◌, ◌≢◌, ◌⊎◌, ◌++◌, ◌∙◌, ◌<◌, ◌≤◌, ◌+◌, ◌∷◌, [], ℕ, List, Option, None, Some, All, ap, append_assoc, arith}
use Rattle.std.proofs.Common.{inl, inr, length, refl, set, slice_get, subst, sym}
use Rattle.std.proofs.lemmas.List.{append-nil, length-append, length-set}
use Rattle.std.proofs.Math.ListN.{get_or-append}
use Rattle.std.specs.Option.{option_to_list}
use Rattle.access_types.specs.declared.report.Report.{Report}
use Rattle.executions.specs.execution.Reports.{reports_of}
use Rattle.executions.specs.execution.Run.{Run}
use Rattle.executions.specs.execution.Execution.{Execution}
use Rattle.executions.specs.execution.Observed.{made_by}
use Rattle.log_correctness.specs.Noted.{IsNoted, Notes}
use Rattle.slot_table.specs.declared.records.Record.{Record}
use Rattle.litmus_step.proofs.StepLemmas.{by_task, same_some, set_here, set_other}
use Rattle.litmus_step.specs.Kept.{Added, AreFirst, AreKept, IsKept, IsNotedIn, accesses_kept, watches_kept}
use Rattle.task_log.specs.Reports.{reported}
use Rattle.task_log.specs.declared.log.TaskLog.{TaskLog}
use Rattle.task_log.specs.declared.noted.Noted.{Noted}

abbrev pub OneMoreIsNoted : Type 0
OneMoreIsNoted = (run : Run) (latest : Record) (earlier : List Record) (before : List Noted) (noted : Noted)
    → (one : Execution run earlier) → (other : Execution run (latest ∷ earlier))
    → Notes one latest.task before → IsNoted (other.tasks latest.task) (made_by latest.task earlier) latest noted
    → Notes other latest.task (noted ∷ before)

abbrev pub OthersAreNoted : Type 0
OthersAreNoted = (run : Run) (latest : Record) (earlier : List Record) (task : ℕ) (before : List Noted)
    → (one : Execution run earlier) → (other : Execution run (latest ∷ earlier)) → latest.task ≢ task
    → Notes one task before → Notes other task before

abbrev pub OneMoreIsReported : Type 0
OneMoreIsReported = (run : Run) (latest : Record) (earlier : List Record) (before : List Noted) (noted : Noted)
    → (one : Execution run earlier) → (other : Execution run (latest ∷ earlier))
    → Notes one latest.task before → IsNoted (other.tasks latest.task) (made_by latest.task earlier) latest noted
    → reports_of other ≡ reports_of one ++ option_to_list (reported noted.outcome before)

-- what is added to the reports is what the list reports more
pub more_reports : (report : Option Report) (room : ℕ) (before after told all : List Report) → AreFirst before room told
    → all ≡ told ++ option_to_list report → Added report room before after → AreFirst after room all
more_reports None room before after told all so_far more added =
    subst (λ (rs : List Report). AreFirst rs room all) (sym added)
    (subst (λ (rs : List Report). AreFirst before room rs) (sym (more ∙ append-nil told)) so_far)
more_reports (Some report) room before after told all so_far more added =
    elim added [
      | inl pushed ↦
          let below = pushed.0 in
          let whole : before ≡ told = elim so_far.full [
            | inl none ↦ sym (append-nil before) ∙ ap (λ (rs : List Report). before ++ rs) (sym none) ∙ so_far.reported
            | inr over ↦ absurd (omega (arith, below, over))
          ] in
          record {
            later = [];
            reported = append-nil after ∙ pushed.1 ∙ ap (λ (rs : List Report). rs ++ report ∷ []) whole ∙ sym more;
            full = inl refl;
          }
      | inr over ↦
          record {
            later = so_far.later ++ report ∷ [];
            reported = ap (λ (rs : List Report). rs ++ (so_far.later ++ report ∷ [])) over.1
                ∙ sym (append_assoc before so_far.later (report ∷ []))
                ∙ ap (λ (rs : List Report). rs ++ report ∷ []) so_far.reported ∙ sym more;
            full = inr (subst (λ (rs : List Report). room ≤ length rs) (sym over.1) over.0);
          }
    ]

-- where there is room for all, all are there
pub all_reported : (reports later all : List Report) (limit room : ℕ) → reports ++ later ≡ all → (later ≡ []) ⊎ (room ≤ length reports)
    → limit ≤ room → length all ≤ limit → reports ≡ all
all_reported reports later all limit room reported full space few =
    elim full [
      | inl none ↦ sym (append-nil reports) ∙ ap (λ (rs : List Report). reports ++ rs) (sym none) ∙ reported
      | inr over ↦
          let longer : length all ≡ length reports + length later = ap length (sym reported) ∙ length-append reports later in
          let none : length later ≡ 0 = omega (arith, longer, few, space, over) in
          sym (append-nil reports) ∙ ap (λ (rs : List Report). reports ++ rs) (sym (is_empty later none)) ∙ reported
    ]
  where
    is_empty : (rs : List Report) → length rs ≡ 0 → rs ≡ []
    is_empty [] e = refl
    is_empty (r ∷ rs) e = absurd (omega (arith, e))

-- what is so of all that the list reports is so of what is there
pub all_of_front : (P : Report → Type 0) (reports later all : List Report) → reports ++ later ≡ all → All P all → All P reports
all_of_front P reports later all reported each = front reports (subst (All P) (sym reported) each)
  where
    front : (rs : List Report) → All P (rs ++ later) → All P rs
    front rs of k d below =
        let longer : k < length (rs ++ later) = rw (length-append rs later) (omega (arith, below)) in
        subst P (get_or-append rs later d k below) (of k d longer)

pub kept_more : OneMoreIsNoted → OthersAreNoted → OneMoreIsReported → (run : Run) (latest : Record) (earlier : List Record)
    (one : Execution run earlier) (other : Execution run (latest ∷ earlier)) (logs : List TaskLog) (reports after_reports : List Report)
    (room : ℕ)
    (log after : TaskLog) (noted : Noted) (report : Option Report)
    → AreKept one logs reports room → slice_get logs latest.task ≡ Some log → latest.task < length logs
    → IsNoted (other.tasks latest.task) (made_by latest.task earlier) latest noted
    → IsNotedIn log noted after report → Added report room reports after_reports
    → AreKept other (set logs latest.task after) after_reports room
kept_more one_more others_noted reported_more run latest earlier one other logs reports after_reports room log after noted report
    kept stands there is_noted in_log added =
    let so_far = kept.logs_are.each latest.task log stands in
    let told = kept.reports_are in
    let grown = more_reports report room reports after_reports (reports_of one) (reports_of other)
    (record { later = told.later; reported = told.reported; full = told.full })
    (reported_more run latest earlier so_far.noted noted one other so_far.notes is_noted
    ∙ ap (λ (r : Option Report). reports_of one ++ option_to_list r)
    (sym (in_log.reported (accesses_kept run latest.task) (watches_kept run latest.task) so_far.noted so_far.keeps)))
    added in
    record {
      logs_are = record {
        all = length-set logs latest.task after ∙ kept.logs_are.all;
        each = by_task (λ t. (l : TaskLog) → slice_get (set logs latest.task after) t ≡ Some l → IsKept other t l) latest.task
            (λ l is. subst (IsKept other latest.task) (same_some after l (sym (set_here logs latest.task after there) ∙ is)) (record {
              noted = noted ∷ so_far.noted;
              notes = one_more run latest earlier so_far.noted noted one other so_far.notes is_noted;
              keeps = in_log.keeps (accesses_kept run latest.task) (watches_kept run latest.task) so_far.noted so_far.keeps;
            }))
            (λ t apart l is.
            let old = kept.logs_are.each t l (sym (set_other logs latest.task t after apart) ∙ is) in
            record {
              noted = old.noted;
              notes = others_noted run latest earlier t old.noted one other apart old.notes;
              keeps = old.keeps;
            });
      };
      reports_are = record { later = grown.later; reported = grown.reported; full = grown.full; space = told.space };
    }
