-- Reports that stand by task are those of the list in another order: whatever adds up over them is the same of both.
use Rattle.std.proofs.Common.{All, ◌≡◌, ◌≢◌, ◌<◌, ◌≤◌, ◌+◌, ◌==◌, ◌∙◌, ◌++◌, ◌∷◌, [], inl, inr, ℕ, zero}
use Rattle.std.proofs.Common.{suc, Bool, true, false, List, ap, arith, cond, count_by, filter, flat_map, length, refl, subst, sym}
use Rattle.std.proofs.lemmas.Bool.{eq-eqb, ne_eqb}
use Rattle.std.proofs.lemmas.Bool.Decides.{eqb_tells, leb_tells}
use Rattle.std.proofs.lemmas.Grind.{flat_map-append}
use Rattle.std.proofs.lemmas.List.{length-append}
use Rattle.std.proofs.lemmas.List.Elements.{All-append, All-filter, filter-append}
use Rattle.std.proofs.lemmas.List.Sums.{length-filter}
use Rattle.access_types.specs.Ticket.{task_in}
use Rattle.access_types.specs.declared.report.Report.{Report}
use Rattle.log_correctness.specs.Setters.{is_by, reports_by, setter_of}
use Rattle.executions.specs.execution.Reports.{reports_of}
use Rattle.executions.specs.execution.Run.{Run}
use Rattle.executions.specs.execution.Execution.{Execution}
use Rattle.log_correctness.specs.Lists.{ByTask}
use Rattle.log_correctness.specs.Noted.{AreNoted, Notes}
use Rattle.soundness.proofs.Watches.{is_below}
use Rattle.slot_table.specs.Records.{records_of}
use Rattle.slot_table.specs.declared.records.Record.{Record}
use Rattle.task_log.specs.Reports.{reported_in}
use Rattle.task_log.specs.declared.noted.Noted.{Noted}

count_append : {X : Type 0} (p : X → Bool) (xs ys : List X) → count_by p (xs ++ ys) ≡ count_by p xs + count_by p ys
count_append p xs ys =
    let both = sym (length-filter p (xs ++ ys)) ∙ (ap length (filter-append p xs ys) ∙ length-append (filter p xs) (filter p ys)) in
    let one = length-filter p xs in
    let other = length-filter p ys in
    omega (arith, both, one, other)

-- how many of what the items give are such adds up
pub counts_add : {X Y : Type 0} (p : Y → Bool) (f : X → List Y) (xs ys : List X)
    → count_by p (flat_map f (xs ++ ys)) ≡ count_by p (flat_map f xs) + count_by p (flat_map f ys)
counts_add p f xs ys = ap (count_by p) (flat_map-append f xs ys) ∙ count_append p (flat_map f xs) (flat_map f ys)

-- the task whose watchpoint a report is of
abbrev by_task : Report → ℕ
by_task report = task_in (setter_of report)

its_own : (task : ℕ) (report : Report) (more : List Report) → by_task report ≡ task
    → reports_by task (report ∷ more) ≡ report ∷ reports_by task more
its_own task report more same =
    ap (λ (b : Bool). cond b (report ∷ reports_by task more) (reports_by task more)) (eq-eqb (by_task report) task same)

of_others : (task : ℕ) (report : Report) (more : List Report) → by_task report ≢ task
    → reports_by task (report ∷ more) ≡ reports_by task more
of_others task report more other =
    ap (λ (b : Bool). cond b (report ∷ reports_by task more) (reports_by task more)) (ne_eqb (by_task report) task other)

no_more : {X : Type 0} (x : X) (xs : List X) → x ∷ xs ≡ [] → ⊥
no_more x xs is = absurd (cc)

none_behind : (task : ℕ) (report : Report) (more : List Report) → reports_by task (report ∷ more) ≡ [] → reports_by task more ≡ []
none_behind task report more none =
    elim (eqb_tells (by_task report) task) [
      | inl same ↦ absurd (no_more report (reports_by task more) (sym (its_own task report more same.1) ∙ none))
      | inr other ↦ sym (of_others task report more other.1) ∙ none
    ]

module _ (measure : List Report → ℕ) (nothing : measure [] ≡ 0)
    (adds : (xs ys : List Report) → measure (xs ++ ys) ≡ measure xs + measure ys) where
  -- of the reports of the first so many tasks
  abbrev up_to : ℕ → List Report → ℕ
  up_to zero reports = 0
  up_to (suc n) reports = up_to n reports + measure (reports_by n reports)

  parted : (n : ℕ) (reports all : List Report) → ByTask (λ task own. own ≡ reports_by task reports) n all
      → measure all ≡ up_to n reports
  parted zero reports all none = ap measure none ∙ nothing
  parted (suc n) reports all are =
      let before : measure are.0 ≡ up_to n reports = parted n reports are.0 are.3 in
      let mine : measure are.1 ≡ measure (reports_by n reports) = ap measure are.4 in
      let both : measure are.0 + measure are.1 ≡ up_to n reports + measure (reports_by n reports) = omega (arith, before, mine) in
      ap measure are.2 ∙ (adds are.0 are.1 ∙ both)

  of_none : (n : ℕ) → up_to n [] ≡ 0
  of_none zero = refl
  of_none (suc n) =
      let before : up_to n [] ≡ 0 = of_none n in
      let both : up_to n [] + measure [] ≡ 0 = omega (arith, before, nothing) in
      both

  -- a report of a later task adds nothing, and one of these tasks what it measures
  past : (n : ℕ) (report : Report) (more : List Report) → n ≤ by_task report → up_to n (report ∷ more) ≡ up_to n more
  past zero report more beyond = refl
  past (suc n) report more beyond =
      let other : by_task report ≢ n = λ (is : by_task report ≡ n). omega (arith, is, beyond) in
      let mine : measure (reports_by n (report ∷ more)) ≡ measure (reports_by n more) = ap measure (of_others n report more other) in
      let before : up_to n (report ∷ more) ≡ up_to n more = past n report more (omega (arith, beyond)) in
      let both : up_to n (report ∷ more) + measure (reports_by n (report ∷ more)) ≡ up_to n more + measure (reports_by n more) =
      omega (arith, mine, before) in
      both

  within : (n : ℕ) (report : Report) (more : List Report) → by_task report < n
      → up_to n (report ∷ more) ≡ up_to n more + measure (report ∷ [])
  within zero report more below = absurd (omega (arith, below))
  within (suc n) report more below =
      elim (leb_tells n (by_task report)) [
        | inl past_it ↦
            let least : n ≤ by_task report = past_it.1 in
            let same : by_task report ≡ n = omega (arith, least, below) in
            let mine : measure (reports_by n (report ∷ more)) ≡ measure (report ∷ []) + measure (reports_by n more) =
            ap measure (its_own n report more same) ∙ adds (report ∷ []) (reports_by n more) in
            let before : up_to n (report ∷ more) ≡ up_to n more = past n report more least in
            let both : up_to n (report ∷ more) + measure (reports_by n (report ∷ more))
            ≡ (up_to n more + measure (reports_by n more)) + measure (report ∷ []) = omega (arith, mine, before) in
            both
        | inr low ↦
            let less : by_task report < n = low.1 in
            let other : by_task report ≢ n = λ (is : by_task report ≡ n). omega (arith, is, less) in
            let mine : measure (reports_by n (report ∷ more)) ≡ measure (reports_by n more) = ap measure (of_others n report more other) in
            let before : up_to n (report ∷ more) ≡ up_to n more + measure (report ∷ []) = within n report more less in
            let both : up_to n (report ∷ more) + measure (reports_by n (report ∷ more))
            ≡ (up_to n more + measure (reports_by n more)) + measure (report ∷ []) = omega (arith, mine, before) in
            both
      ]

  whole : (n : ℕ) (reports : List Report) → ((task : ℕ) → n ≤ task → reports_by task reports ≡ []) → up_to n reports ≡ measure reports
  whole n [] none = of_none n ∙ sym nothing
  whole n (report ∷ more) none =
      elim (leb_tells n (by_task report)) [
        | inl past_it ↦
            absurd (no_more report (reports_by (by_task report) more)
            (sym (its_own (by_task report) report more refl) ∙ none (by_task report) past_it.1))
        | inr low ↦
            let rest : up_to n more ≡ measure more = whole n more (λ task beyond. none_behind task report more (none task beyond)) in
            let one : up_to n (report ∷ more) ≡ up_to n more + measure (report ∷ []) = within n report more low.1 in
            let both : measure (report ∷ more) ≡ measure (report ∷ []) + measure more = adds (report ∷ []) more in
            omega (arith, rest, one, both)
      ]

  -- of reports that stand by task it is what it is of the list
  pub measures_alike : (n : ℕ) (reports all : List Report) → ByTask (λ task own. own ≡ reports_by task reports) n all
      → ((task : ℕ) → n ≤ task → reports_by task reports ≡ []) → measure all ≡ measure reports
  measures_alike n reports all are none = parted n reports all are ∙ whole n reports none

-- past the last task there is none that has made a step
no_steps : (n task : ℕ) (records : List Record)
    → ((later earlier : List Record) (latest : Record) → records ≡ later ++ latest ∷ earlier → latest.task < n) → n ≤ task
    → records_of task records ≡ []
no_steps n task [] below beyond = refl
no_steps n task (latest ∷ earlier) below beyond =
    let low : latest.task < n = below [] earlier latest refl in
    let other : (latest.task == task) ≡ false = ne_eqb latest.task task (λ (is : latest.task ≡ task). omega (arith, is, low, beyond)) in
    let same : records_of task (latest ∷ earlier) ≡ records_of task earlier = rw other refl in
    same ∙ no_steps n task earlier (λ later before one is. below (latest ∷ later) before one (ap (λ (r : List Record). latest ∷ r) is)) beyond

abbrev pub ReportsItsOwn : Type 0
ReportsItsOwn = (run : Run) (records : List Record) (list : Execution run records) (task : ℕ) (noted : List Noted) → Notes list task noted
    → reports_by task (reports_of list) ≡ reported_in noted

-- nor whose watchpoint a report is of
pub none_reported : ReportsItsOwn → (run : Run) (records : List Record) (list : Execution run records) (task : ℕ)
    → length run.program.tasks ≤ task → reports_by task (reports_of list) ≡ []
none_reported own run records list task beyond =
    let none : records_of task records ≡ [] = no_steps (length run.program.tasks) task records
    (λ later earlier latest is. is_below run records list latest earlier later is) beyond in
    own run records list task [] (subst (λ (r : List Record). AreNoted (list.tasks task) r []) (sym none) tt)

-- what is so of all reports of the list is so of those that stand by task
pub all_reported : {run : Run} {records : List Record} (list : Execution run records) (P : Report → Type 0) (tasks : ℕ) (all : List Report)
    → ByTask (λ task own. own ≡ reports_by task (reports_of list)) tasks all → All P (reports_of list) → All P all
all_reported list P zero all none every = subst (λ (rs : List Report). All P rs) (sym none) (λ k d within. absurd (omega (arith, within)))
all_reported list P (suc tasks) all are every =
    subst (λ (rs : List Report). All P rs) (sym are.2)
    (All-append P are.0 are.1 (all_reported list P tasks are.0 are.3 every)
    (subst (λ (rs : List Report). All P rs) (sym are.4) (All-filter (is_by tasks) P (reports_of list) every)))
