-- An access that has begun in a task of an execution: it is one of the program, begins once, and counts as marked and
-- is silenced in the history just as its task knows of it.
use Rattle.std.proofs.Common.{◌≡◌, ◌<◌, ◌≤◌, ◌∙◌, ◌+◌, ◌++◌, ◌∷◌, [], inl, inr, ℕ, suc, zero, false, List}
use Rattle.std.proofs.Common.{Some, ap, append_assoc, arith, length, refl, reverse, slice_get, slice_index_or, subst, sym, take}
use Rattle.std.proofs.lemmas.Bool.{eq-eqb}
use Rattle.std.proofs.lemmas.Bool.Decides.{leb_tells}
use Rattle.access_types.specs.Access as access
use Rattle.access_types.specs.History.{History, beginning, happenings_of}
use Rattle.access_types.specs.Marked.{BeginsAfter, CountedAsMarked, CountsAfter, EndsRaised, Silenced, is_disable, is_enable, marks_of}
use Rattle.access_types.specs.declared.history.Happening.{Happening}
use Rattle.access_types.specs.declared.history.Happening.TheVariants as happenings
use Rattle.access_types.specs.declared.history.Mark.{Mark}
use Rattle.litmus_semantics.specs.RunOfProgram.{setting_of}
use Rattle.litmus_semantics.specs.TextSites.{IsOfText, block_sites}
use Rattle.litmus_semantics.proofs.TextSitesLemmas.{begun_at}
use Rattle.litmus_semantics.proofs.TicketLemmas.{numbered, of_text}
use Rattle.litmus_syntax.specs.Tree as tree
use Rattle.executions.specs.execution.Run.{IsOfProgram, Run, idle, task_of, task_setting}
use Rattle.executions.specs.execution.Execution.{Execution}
use Rattle.executions.specs.execution.Observed.{history_of, made_by, moments_of}
use Rattle.executions.proofs.execution.Histories.{did_of_all, of_both, of_task}
use Rattle.executions.proofs.execution.OwnMarks.{begins_once, counts_own, marks_same}
use Rattle.executions.proofs.execution.TaskFacts.{IsKnown}
use Rattle.setup_access.specs.declared.begun.Begun.{Begun}
use Rattle.slot_table.specs.Records.{records_of}
use Rattle.slot_table.specs.declared.records.Record.{Record}
use Rattle.program_order.specs.Standing as tasks
use Rattle.program_order.specs.Standing.{Standing}
use Rattle.program_order.specs.TaskObserved.{did_by}
use Rattle.program_order.proofs.MeaningLemmas.{whole_means}
use Rattle.program_order.proofs.WayLemmas.{Begins}

pub there : (before later : List Happening) (x : Happening) → slice_get (before ++ x ∷ later) (length before) ≡ Some x
there [] later x = refl
there (first ∷ before) later x = there before later x

take_front : (p q : List Happening) → take (length p) (p ++ q) ≡ p
take_front [] q = refl
take_front (x ∷ p) q = ap (λ (d : List Happening). x ∷ d) (take_front p q)

beyond : (tasks : List tree.Task) (number : ℕ) → length tasks ≤ number → slice_index_or tasks number idle ≡ idle
beyond [] number past = refl
beyond (one ∷ tasks) zero past = absurd (omega (arith, past))
beyond (one ∷ tasks) (suc number) past = beyond tasks number (omega (arith, past))

own_begin : (a : access.Access) (later : History) → happenings_of a.task (beginning a ∷ later) ≡ happenings.Begin a ∷ happenings_of a.task later
own_begin a later = rw (eq-eqb a.task a.task refl) refl

module _ (run : Run) (records : List Record) (list : Execution run records) where
  abbrev end_of : ℕ → Standing
  end_of task = (list.tasks task).whole.end

  abbrev whole : ℕ → List Record
  whole task = reverse (records_of task records) ++ (list.tasks task).more

  -- an access of a task that has begun is one of the program
  pub of_program : (task : ℕ) (b : Begun) → IsKnown (task_setting run task) (end_of task) b → IsOfProgram run b.access
  of_program task b known =
      let s : tasks.Setting = task_setting run task in
      let means = whole_means s (length (task_of run task).registers) (task_of run task).body (whole task) (list.tasks task).whole in
      let at : slice_get (end_of task).progress.did (length known.before) ≡ Some (happenings.Begin b.access) =
      subst (λ (d : List Happening). slice_get d (length known.before) ≡ Some (happenings.Begin b.access)) (sym known.split) (there known.before known.later (happenings.Begin b.access)) in
      let text : IsOfText (setting_of run.program run.places task) (task_of run task).body b.access =
      of_text s.text (task_of run task).body _ (end_of task).progress means (length known.before) b.access at in
      subst (λ (t : ℕ). IsOfText (setting_of run.program run.places t) (task_of run t).body b.access) (sym known.own.task) text

  -- an access of the program is of one of its tasks
  pub is_below : (a : access.Access) → IsOfProgram run a → a.task < length run.program.tasks
  is_below a of = elim (leb_tells (length run.program.tasks) a.task) [
    | inr below ↦ below.1
    | inl past ↦
        let none : task_of run a.task ≡ idle = beyond run.program.tasks a.task past.1 in
        let empty : slice_get (block_sites (setting_of run.program run.places a.task) tree.empty) a.site ≡ Some of.site =
        subst (λ (t : tree.Task). slice_get (block_sites (setting_of run.program run.places a.task) t.body) a.site ≡ Some of.site) none of.stands in
        absurd (cc)
  ]

  -- each access begins once in all that a task does
  begins_as : (task : ℕ) (a : access.Access) (p q : List Happening) → (end_of task).progress.did ≡ p ++ happenings.Begin a ∷ q → a.rep ≡ begun_at a.site p
  begins_as task a p q split =
      let s : tasks.Setting = task_setting run task in
      let means = whole_means s (length (task_of run task).registers) (task_of run task).body (whole task) (list.tasks task).whole in
      let at : slice_get (end_of task).progress.did (length p) ≡ Some (happenings.Begin a) =
      subst (λ (d : List Happening). slice_get d (length p) ≡ Some (happenings.Begin a)) (sym split) (there p q (happenings.Begin a)) in
      let got = numbered s.text (task_of run task).body _ (end_of task).progress means (length p) a at in
      let front : take (length p) (end_of task).progress.did ≡ p =
      ap (λ (d : List Happening). take (length p) d) split ∙ take_front p (happenings.Begin a ∷ q) in
      ap (λ (x : access.Access). x.rep) got.2 ∙ ap (λ (d : List Happening). begun_at a.site d) front

  pub once : (task : ℕ) (a : access.Access) (p q r t : List Happening) → (end_of task).progress.did ≡ p ++ happenings.Begin a ∷ q
      → (end_of task).progress.did ≡ r ++ happenings.Begin a ∷ t → p ≡ r
  once task a p q r t first second =
      begins_once a (end_of task).progress.did p q r t first second (begins_as task a p q first) (begins_as task a r t second)

  -- an access that has begun begins in the history after what its task had done before it, and never else
  module _ (task : ℕ) (b : Begun) (known : IsKnown (task_setting run task) (end_of task) b) where
    began_after : (before : History) → BeginsAfter (history_of list) b.access before → happenings_of b.access.task before ≡ known.before
    began_after before begins =
        let t : ℕ = b.access.task in
        let below : t < length run.program.tasks = is_below b.access (of_program task b known) in
        let own : happenings_of t (history_of list) ≡ happenings_of t before ++ happenings.Begin b.access ∷ happenings_of t begins.later =
        ap (λ (h : History). happenings_of t h) begins.split
        ∙ (of_both t before (beginning b.access ∷ begins.later)
        ∙ ap (λ (d : List Happening). happenings_of t before ++ d) (own_begin b.access begins.later)) in
        let did : Begins (did_by (list.tasks t) (made_by t records)) (list.tasks t).whole.end.progress.did = did_of_all (list.tasks t) (made_by t records) in
        let whole_did : (end_of t).progress.did ≡ (happenings_of t before ++ happenings.Begin b.access ∷ happenings_of t begins.later) ++ did.0 =
        did.1 ∙ ap (λ (d : List Happening). d ++ did.0) (sym (of_task run records list t below records) ∙ own) in
        let split : (end_of t).progress.did ≡ happenings_of t before ++ happenings.Begin b.access ∷ (happenings_of t begins.later ++ did.0) =
        whole_did ∙ append_assoc (happenings_of t before) (happenings.Begin b.access ∷ happenings_of t begins.later) did.0 in
        let here : (end_of task).progress.did ≡ happenings_of t before ++ happenings.Begin b.access ∷ (happenings_of t begins.later ++ did.0) =
        subst (λ (u : ℕ). (end_of u).progress.did ≡ happenings_of t before ++ happenings.Begin b.access ∷ (happenings_of t begins.later ++ did.0)) known.own.task split in
        once task b.access (happenings_of t before) (happenings_of t begins.later ++ did.0) known.before known.later here known.split

    pub unmarked_so : b.marked ≡ false → ¬ CountedAsMarked run.rules.plain_writes_atomic (history_of list) b.access
    unmarked_so none counted =
        let own = counts_own run.rules.plain_writes_atomic b.access counted.before counted.counts in
        let at = subst (λ (d : List Happening). CountsAfter run.rules.plain_writes_atomic b.access (moments_of b.access.task d)) (began_after counted.before counted.begins) own in
        let mine = subst (λ (t : ℕ). CountsAfter run.rules.plain_writes_atomic b.access (moments_of t known.before)) known.own.task at in
        known.unmarked none mine

    pub heard_so : b.silenced ≡ false → ¬ Silenced (history_of list) b.access
    heard_so none silenced =
        let own = subst (λ (m : List Mark). EndsRaised is_disable is_enable m) (sym (marks_same b.access.task silenced.before)) silenced.disabled in
        let at = subst (λ (d : List Happening). EndsRaised is_disable is_enable (marks_of b.access.task (moments_of b.access.task d))) (began_after silenced.before silenced.begins) own in
        let mine = subst (λ (t : ℕ). EndsRaised is_disable is_enable (marks_of t (moments_of t known.before))) known.own.task at in
        known.heard none mine
