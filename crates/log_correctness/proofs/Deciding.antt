-- What is decided of an access when it begins is what the history decides of it.
use Rattle.std.proofs.Common.{◌≡◌, ◌↔◌, ◌∙◌, ◌==◌, ◌<◌, ◌+◌, ◌++◌, ◌∷◌, [], inl, inr, ℕ, All, Bool, true, false, IsTrue, List, None, Option, Some, ap, append_assoc, arith}
use Rattle.std.proofs.Common.{cond, count_by, length, refl, reverse, slice_get, subst, sym, take}
use Rattle.std.specs.List.{cons_option, filter_map, list_any}
use Rattle.std.proofs.lemmas.Bool.{and_right, eq-eqb}
use Rattle.std.proofs.lemmas.Bool.Decides.{eqb_tells}
use Rattle.std.proofs.lemmas.List.{append-nil}
use Rattle.std.proofs.lemmas.List.Elements.{All-cons, All-nil}
use Rattle.access_types.specs.Access.{Access}
use Rattle.access_types.specs.History.{History, beginning, happenings_of}
use Rattle.access_types.specs.Marked as spec
use Rattle.access_types.specs.Marked.{BeginsAfter, CountedAsMarked, CountsAfter, EndsRaised, IsWithinNext, Silenced, begins_countable, is_countable_begin, is_disable, is_enable, is_next, marks_of, next_mark}
use Rattle.access_types.specs.declared.history.Happening.{Happening}
use Rattle.access_types.specs.declared.history.Happening.TheVariants as happenings
use Rattle.access_types.specs.declared.history.Mark.{Mark}
use Rattle.access_types.specs.declared.history.Moment.{Moment}
use Rattle.litmus_semantics.proofs.TextSitesLemmas.{begun_at}
use Rattle.litmus_semantics.proofs.TicketLemmas.{numbered}
use Rattle.executions.specs.execution.Run.{Run, task_of, task_setting}
use Rattle.executions.specs.execution.Execution.{Execution}
use Rattle.executions.specs.execution.Observed.{history_by, history_of, made_by, moments_of}
use Rattle.executions.proofs.execution.Histories.{did_of_all, did_then, of_both, of_task}
use Rattle.executions.proofs.execution.OwnLasts.{own_latest}
use Rattle.executions.proofs.execution.OwnMarks.{begins_once, counts_own, marks_same, own_of}
use Rattle.log_correctness.specs.Decided.{IsDecided, IsStampedSo}
use Rattle.log_correctness.specs.Noted.{AreNoted, IsBegun, IsNoted, Notes, begun_in}
use Rattle.log_correctness.proofs.Begun.{begins_first}
use Rattle.log_correctness.proofs.Sums.{counted}
use Rattle.soundness.specs.Events.{DoesEvent, EachDoesItsEvent}
use Rattle.soundness.proofs.Watches.{is_below}
use Rattle.setup_access.specs.declared.begun.Begun.{Begun}
use Rattle.slot_table.specs.Records.{records_of}
use Rattle.slot_table.specs.declared.records.Record.{Record}
use Rattle.slot_table.specs.declared.step.Answer.{Answer}
use Rattle.slot_table.specs.declared.step.Answer.TheVariants as answers
use Rattle.slot_table.specs.declared.step.Step.{Step}
use Rattle.slot_table.specs.declared.step.Step.TheVariants as steps
use Rattle.task_log.specs.Touches.{accesses_of, end_newest, goes_on, stamped, stamped_at, touches_at, touches_of}
use Rattle.task_log.specs.declared.noted.Noted.{Noted}
use Rattle.task_log.specs.declared.touches.Touch.{Touch}
use Rattle.program_order.specs.Standing as tasks
use Rattle.program_order.specs.Standing.{Standing}
use Rattle.program_order.specs.TaskObserved.{did_by, did_next}
use Rattle.program_order.proofs.MeaningLemmas.{whole_means}

-- the own moments of a task are countable as they stand among all
countable_same : (plain : Bool) (task : ℕ) (history : History)
    → count_by (begins_countable plain task) (own_of task history) ≡ count_by (begins_countable plain task) history
countable_same plain task [] = refl
countable_same plain task (first ∷ later) =
    let rest = countable_same plain task later in
    let all = counted (begins_countable plain task) first later in
    elim (eqb_tells first.task task) [
      | inl mine ↦
          let own : Moment = record { task = task; happening = first.happening } in
          let is : own_of task (first ∷ later) ≡ own ∷ own_of task later = rw mine.0 refl in
          let same : begins_countable plain task own ≡ begins_countable plain task first =
          ap (λ (n : ℕ). begins_countable plain task (record { task = n; happening = first.happening })) (sym mine.1) in
          let one = counted (begins_countable plain task) own (own_of task later) in
          let head : ◌≡◌ {A = ℕ} (cond (begins_countable plain task own) 1 0) (cond (begins_countable plain task first) 1 0) =
          ap (λ (b : Bool). cond {A = ℕ} b 1 0) same in
          ap (λ (h : History). count_by (begins_countable plain task) h) is ∙ omega (arith, one, head, rest, all)
      | inr others ↦
          let is : own_of task (first ∷ later) ≡ own_of task later = rw others.0 refl in
          let none : begins_countable plain task first ≡ false = and_right (is_countable_begin plain task first.happening) (first.task == task) others.0 in
          let head : ◌≡◌ {A = ℕ} (cond (begins_countable plain task first) 1 0) 0 = ap (λ (b : Bool). cond {A = ℕ} b 1 0) none in
          ap (λ (h : History). count_by (begins_countable plain task) h) is ∙ omega (arith, head, rest, all)
    ]

-- a task's own moment stands in the history too
record Stands (task : ℕ) (history : History) (moment : Moment) (last : History) : Type 0 where
  earlier : History
  later : History
  split : history ≡ earlier ++ moment ∷ later
  own : own_of task later ≡ last

own_stands : (task : ℕ) (history first : History) (moment : Moment) (last : History) → own_of task history ≡ first ++ moment ∷ last → Stands task history moment last
own_stands task [] [] moment last is = absurd (let no : [] ≡ moment ∷ last = is in cc)
own_stands task [] (one ∷ first) moment last is = absurd (let no : [] ≡ one ∷ (first ++ moment ∷ last) = is in cc)
own_stands task (x ∷ history) first moment last is = elim (eqb_tells x.task task) [
  | inl mine ↦
      let own : Moment = record { task = task; happening = x.happening } in
      let all : own ∷ own_of task history ≡ first ++ moment ∷ last =
      (let skips : own_of task (x ∷ history) ≡ own ∷ own_of task history = rw mine.0 refl in sym skips ∙ is) in
      let same : x ≡ own = ap (λ (n : ℕ). record { task = n; happening = x.happening }) mine.1 in
      by_front own first same all (λ more rest. own_stands task history more moment last rest)
  | inr others ↦
      let skips : own_of task (x ∷ history) ≡ own_of task history = rw others.0 refl in
      let it = own_stands task history first moment last (sym skips ∙ is) in
      record { earlier = x ∷ it.earlier; later = it.later; split = ap (λ (h : History). x ∷ h) it.split; own = it.own }
]
  where
    by_front : (own : Moment) (front : History) → x ≡ own → own ∷ own_of task history ≡ front ++ moment ∷ last
        → ((more : History) → own_of task history ≡ more ++ moment ∷ last → Stands task history moment last) → Stands task (x ∷ history) moment last
    by_front own [] same all rest =
        let heads : own ≡ moment = cc in
        let tails : own_of task history ≡ last = cc in
        record { earlier = []; later = history; split = ap (λ (m : Moment). m ∷ history) (same ∙ heads); own = tails }
    by_front own (one ∷ more) same all rest =
        let tails : own_of task history ≡ more ++ moment ∷ last = cc in
        let it = rest more tails in
        record { earlier = x ∷ it.earlier; later = it.later; split = ap (λ (h : History). x ∷ h) it.split; own = it.own }

within_whole : (plain : Bool) (task : ℕ) (history : History) → IsWithinNext plain task (own_of task history) → IsWithinNext plain task history
within_whole plain task history h =
    let it = own_stands task history h.earlier (next_mark task h.count) h.later h.split in record {
      count = h.count;
      earlier = it.earlier;
      later = it.later;
      split = it.split;
      last = ap (λ (m : List Mark). count_by is_next m) (sym (marks_same task it.later) ∙ ap (λ (l : History). marks_of task l) it.own) ∙ h.last;
      fewer = subst (λ (n : ℕ). n < h.count)
          (ap (λ (l : History). count_by (begins_countable plain task) l) (sym it.own) ∙ countable_same plain task it.later) h.fewer;
    }

counts_whole : (plain : Bool) (a : Access) (history : History) → CountsAfter plain a (own_of a.task history) → CountsAfter plain a history
counts_whole plain a history (spec.declared is) = spec.declared is
counts_whole plain a history (spec.atomic_write plain_one is) = spec.atomic_write plain_one is
counts_whole plain a history (spec.within_next plain_one apart within) = spec.within_next plain_one apart (within_whole plain a.task history within)
counts_whole plain a history (spec.in_nest plain_one raised) =
    spec.in_nest plain_one (subst (λ (m : List Mark). EndsRaised spec.is_nest_open spec.is_nest_close m) (marks_same a.task history) raised)
counts_whole plain a history (spec.in_flat plain_one opens) =
    spec.in_flat plain_one (subst (λ (m : List Mark). spec.IsFlatOpen m) (marks_same a.task history) opens)

there : (before later : List Happening) (x : Happening) → slice_get (before ++ x ∷ later) (length before) ≡ Some x
there [] later x = refl
there (first ∷ before) later x = there before later x

take_front : (p q : List Happening) → take (length p) (p ++ q) ≡ p
take_front [] q = refl
take_front (x ∷ p) q = ap (λ (d : List Happening). x ∷ d) (take_front p q)

own_begin : (a : Access) (later : History) → happenings_of a.task (beginning a ∷ later) ≡ happenings.Begin a ∷ happenings_of a.task later
own_begin a later = rw (eq-eqb a.task a.task refl) refl

module _ (run : Run) (records : List Record) (list : Execution run records) (does : EachDoesItsEvent list records) where
  abbrev whole : ℕ → List Record
  whole task = reverse (records_of task records) ++ (list.tasks task).more

  abbrev ending : ℕ → Standing
  ending task = (list.tasks task).whole.end

  -- what is told by earlier records is the front of what is told by all
  told_more : (later earlier : List Record) → (more : History) × (history_by list (later ++ earlier) ≡ history_by list earlier ++ more)
  told_more [] earlier = ([], sym (append-nil (history_by list earlier)))
  told_more (latest ∷ later) earlier =
      let its : History = moments_of latest.task (did_next (list.tasks latest.task) (made_by latest.task (later ++ earlier))) in
      let it = told_more later earlier in
      (it.0 ++ its, ap (λ (h : History). h ++ its) it.1 ∙ append_assoc (history_by list earlier) it.0 its)

  -- an access that begins is of its task, and its repetition tells how many of its site began before
  begins_as : (task : ℕ) (a : Access) (p q : List Happening) → (ending task).progress.did ≡ p ++ happenings.Begin a ∷ q
      → (a.task ≡ task) × (a.rep ≡ begun_at a.site p)
  begins_as task a p q split =
      let s : tasks.Setting = task_setting run task in
      let means = whole_means s (length (task_of run task).registers) (task_of run task).body (whole task) (list.tasks task).whole in
      let at : slice_get (ending task).progress.did (length p) ≡ Some (happenings.Begin a) =
      subst (λ (d : List Happening). slice_get d (length p) ≡ Some (happenings.Begin a)) (sym split) (there p q (happenings.Begin a)) in
      let got = numbered s.text (task_of run task).body _ (ending task).progress means (length p) a at in
      let front : take (length p) (ending task).progress.did ≡ p =
      ap (λ (d : List Happening). take (length p) d) split ∙ take_front p (happenings.Begin a ∷ q) in
      (ap (λ (x : Access). x.task) got.2, ap (λ (x : Access). x.rep) got.2 ∙ ap (λ (d : List Happening). begun_at a.site d) front)

  module _ (later earlier : List Record) (latest : Record) (is : records ≡ later ++ latest ∷ earlier) (event : DoesEvent (task_setting run latest.task)
      (did_by (list.tasks latest.task) (made_by latest.task earlier)) latest.step latest.answer (did_next (list.tasks latest.task) (made_by latest.task earlier)))
      (a : Access) (one : begun_in (did_next (list.tasks latest.task) (made_by latest.task earlier)) ≡ a ∷ []) where
    abbrev task : ℕ
    task = latest.task

    abbrev made : ℕ
    made = made_by task earlier

    abbrev did : List Happening
    did = did_by (list.tasks task) made

    next : (more : List Happening) × (did_next (list.tasks task) made ≡ happenings.Begin a ∷ more)
    next = begins_first (task_setting run task) did latest.step latest.answer (did_next (list.tasks task) made) event a one

    all_did : (ending task).progress.did ≡ did ++ happenings.Begin a ∷ (next.0 ++ (did_of_all (list.tasks task) (made + 1)).0)
    all_did =
        let rest = did_of_all (list.tasks task) (made + 1) in
        rest.1 ∙ (ap (λ (d : List Happening). d ++ rest.0) (sym (did_then (list.tasks task) made) ∙ ap (λ (n : List Happening). did ++ n) next.1)
        ∙ append_assoc did (happenings.Begin a ∷ next.0) rest.0)

    mine : a.task ≡ task
    mine = (begins_as task a did (next.0 ++ (did_of_all (list.tasks task) (made + 1)).0) all_did).0

    below : a.task < length run.program.tasks
    below = subst (λ (t : ℕ). t < length run.program.tasks) (sym mine) (is_below run records list latest earlier later is)

    begins_there : BeginsAfter (history_of list) a (history_by list earlier)
    begins_there =
        let more = told_more later (latest ∷ earlier) in
        let all : history_of list ≡ history_by list (latest ∷ earlier) ++ more.0 = ap (λ (r : List Record). history_by list r) is ∙ more.1 in
        let its : history_by list (latest ∷ earlier) ≡ history_by list earlier ++ (beginning a ∷ moments_of task next.0) =
        ap (λ (d : List Happening). history_by list earlier ++ moments_of task d) next.1
        ∙ ap (λ (t : ℕ). history_by list earlier ++ (record { task = t; happening = happenings.Begin a } ∷ moments_of task next.0)) (sym mine) in
        record {
          later = moments_of task next.0 ++ more.0;
          split = all ∙ (ap (λ (h : History). h ++ more.0) its ∙ append_assoc (history_by list earlier) (beginning a ∷ moments_of task next.0) more.0);
        }

    -- what came before it of its task, wherever it begins
    began_after : (before : History) → BeginsAfter (history_of list) a before → happenings_of a.task before ≡ did
    began_after before starts =
        let t : ℕ = a.task in
        let own : happenings_of t (history_of list) ≡ happenings_of t before ++ happenings.Begin a ∷ happenings_of t starts.later =
        ap (λ (h : History). happenings_of t h) starts.split
        ∙ (of_both t before (beginning a ∷ starts.later)
        ∙ ap (λ (d : List Happening). happenings_of t before ++ d) (own_begin a starts.later)) in
        let rest = did_of_all (list.tasks t) (made_by t records) in
        let whole_did : (ending t).progress.did ≡ (happenings_of t before ++ happenings.Begin a ∷ happenings_of t starts.later) ++ rest.0 =
        rest.1 ∙ ap (λ (d : List Happening). d ++ rest.0) (sym (of_task run records list t below records) ∙ own) in
        let split : (ending t).progress.did ≡ happenings_of t before ++ happenings.Begin a ∷ (happenings_of t starts.later ++ rest.0) =
        whole_did ∙ append_assoc (happenings_of t before) (happenings.Begin a ∷ happenings_of t starts.later) rest.0 in
        let here : (ending task).progress.did ≡ happenings_of t before ++ happenings.Begin a ∷ (happenings_of t starts.later ++ rest.0) =
        subst (λ (u : ℕ). (ending u).progress.did ≡ happenings_of t before ++ happenings.Begin a ∷ (happenings_of t starts.later ++ rest.0)) mine split in
        begins_once a (ending task).progress.did (happenings_of t before) (happenings_of t starts.later ++ rest.0) did
        (next.0 ++ (did_of_all (list.tasks task) (made + 1)).0) here all_did
        (begins_as task a (happenings_of t before) (happenings_of t starts.later ++ rest.0) here).1
        (begins_as task a did (next.0 ++ (did_of_all (list.tasks task) (made + 1)).0) all_did).1

    abbrev plain : Bool
    plain = run.rules.plain_writes_atomic

    own_before : own_of a.task (history_by list earlier) ≡ moments_of task did
    own_before =
        ap (λ (d : List Happening). moments_of a.task d) (of_task run records list a.task below earlier)
        ∙ ap (λ (t : ℕ). moments_of t (did_by (list.tasks t) (made_by t earlier))) mine

    own_there : (before : History) → BeginsAfter (history_of list) a before → own_of a.task before ≡ moments_of task did
    own_there before starts =
        ap (λ (d : List Happening). moments_of a.task d) (began_after before starts) ∙ ap (λ (t : ℕ). moments_of t did) mine

    pub decided : (marked silenced : Bool) → (IsTrue marked ↔ CountsAfter plain a (moments_of task did))
        → (IsTrue silenced ↔ EndsRaised is_disable is_enable (marks_of task (moments_of task did))) → IsDecided list a marked silenced
    decided marked silenced counts raised = (
      (
        λ yes. record {
          before = history_by list earlier;
          begins = begins_there;
          counts = counts_whole plain a (history_by list earlier) (subst (λ (h : History). CountsAfter plain a h) (sym own_before) (counts.0 yes));
        },
        λ so. counts.1 (subst (λ (h : History). CountsAfter plain a h) (own_there so.before so.begins) (counts_own plain a so.before so.counts)),
      ),
      (
        λ yes. record {
          before = history_by list earlier;
          begins = begins_there;
          disabled = subst (λ (m : List Mark). EndsRaised is_disable is_enable m)
              (ap (λ (t : ℕ). marks_of t (moments_of task did)) (sym mine) ∙ (ap (λ (h : History). marks_of a.task h) (sym own_before)
              ∙ marks_same a.task (history_by list earlier))) (raised.0 yes);
        },
        λ so. raised.1 (subst (λ (m : List Mark). EndsRaised is_disable is_enable m)
            (sym (marks_same a.task so.before) ∙ (ap (λ (h : History). marks_of a.task h) (own_there so.before so.begins)
            ∙ ap (λ (t : ℕ). marks_of t (moments_of task did)) mine)) so.disabled),
      ),
    )

  -- an access that is noted
  abbrev BegunSo : Option Begun → Type 0
  BegunSo None = Unit {0}
  BegunSo (Some begun) = IsDecided list begun.access begun.marked begun.silenced

  one_begun : (later earlier : List Record) (latest : Record) → records ≡ later ++ latest ∷ earlier → EachDoesItsEvent list (latest ∷ earlier)
      → (begins : Option Begun)
      → IsBegun run.rules.plain_writes_atomic latest.task (did_by (list.tasks latest.task) (made_by latest.task earlier))
      (did_next (list.tasks latest.task) (made_by latest.task earlier)) begins → BegunSo begins
  one_begun later earlier latest is events None begun = tt
  one_begun later earlier latest is events (Some begins) begun =
      decided later earlier latest is events.1 begins.access begun.0 begins.marked begins.silenced begun.1 begun.2

  abbrev AllSo : List Touch → Type 0
  AllSo [] = Unit {0}
  AllSo (touch ∷ newer) = IsDecided list touch.begun.access touch.begun.marked touch.begun.silenced × AllSo newer

  so_both : (first later : List Touch) → AllSo first → AllSo later → AllSo (first ++ later)
  so_both [] later one two = two
  so_both (touch ∷ first) later one two = (one.0, so_both first later one.1 two)

  so_ended : (stamp : ℕ) (touches : List Touch) → AllSo touches → AllSo (end_newest stamp touches)
  so_ended stamp [] so = tt
  so_ended stamp (touch ∷ newer) so =
      by_others (list_any goes_on newer) (goes_on touch) (so_ended stamp newer so.1)
    where
      by_others : (others its : Bool) → AllSo (end_newest stamp newer)
          → AllSo (cond others (touch ∷ end_newest stamp newer) (cond its (record touch { end = Some stamp }) touch ∷ newer))
      by_others true its rest = (so.0, rest)
      by_others false true rest = (so.0, so.1)
      by_others false false rest = (so.0, so.1)

  clocked : (answer : Answer) (begins : Option Begun) (before : List Touch) → BegunSo begins → AllSo before → AllSo (touches_at steps.Clock answer begins before)
  clocked (answers.Word stamp) (Some begun) before one so = so_both before (record { begun = begun; begin = stamp; end = None } ∷ []) so (one, tt)
  clocked (answers.Word stamp) None before one so = so_ended stamp before so
  clocked (answers.Flag flag) begins before one so = so
  clocked (answers.Halves setter finder) begins before one so = so
  clocked answers.Done begins before one so = so

  touched : (step : Step) (answer : Answer) (begins : Option Begun) (before : List Touch) → BegunSo begins → AllSo before → AllSo (touches_at step answer begins before)
  touched steps.Clock answer begins before one so = clocked answer begins before one so
  touched (steps.Load index) answer begins before one so = so
  touched (steps.Insert index word) answer begins before one so = so
  touched (steps.TryConsume index word) answer begins before one so = so
  touched (steps.Consume index) answer begins before one so = so
  touched (steps.Remove index) answer begins before one so = so
  touched (steps.PairLoad index) answer begins before one so = so
  touched (steps.Name index ticket) answer begins before one so = so
  touched (steps.Tell index ticket) answer begins before one so = so
  touched (steps.Clear index) answer begins before one so = so
  touched (steps.CellLoad cell) answer begins before one so = so
  touched (steps.CellExchange cell expected new) answer begins before one so = so
  touched (steps.LockTry lock holder) answer begins before one so = so
  touched (steps.LockStore lock) answer begins before one so = so

  all_touched : (task : ℕ) (later earlier : List Record) → records ≡ later ++ earlier → EachDoesItsEvent list earlier → (noted : List Noted)
      → AreNoted (list.tasks task) (records_of task earlier) noted → AllSo (touches_of noted)
  all_touched task later [] is events [] are = tt
  all_touched task later [] is events (noted ∷ before) are = absurd are
  all_touched task later (latest ∷ earlier) is events noted are =
      let back : records ≡ (later ++ latest ∷ []) ++ earlier = is ∙ sym (append_assoc later (latest ∷ []) earlier) in
      elim (eqb_tells latest.task task) [
        | inl mine ↦
            its (λ kept are_so. all_touched task (later ++ latest ∷ []) earlier back events.0 kept are_so) noted
            (subst (λ (r : List Record). AreNoted (list.tasks task) r noted) (own_latest task latest earlier mine.1) are) mine.1
        | inr others ↦
            let same : records_of task (latest ∷ earlier) ≡ records_of task earlier = rw others.0 refl in
            all_touched task (later ++ latest ∷ []) earlier back events.0 noted (subst (λ (r : List Record). AreNoted (list.tasks task) r noted) same are)
      ]
    where
      its : ((kept : List Noted) → AreNoted (list.tasks task) (records_of task earlier) kept → AllSo (touches_of kept))
          → (noted : List Noted) → AreNoted (list.tasks task) (latest ∷ records_of task earlier) noted → latest.task ≡ task → AllSo (touches_of noted)
      its rest [] are mine = absurd are
      its rest (noted ∷ before) are mine =
          let at : IsNoted (list.tasks latest.task) (made_by latest.task earlier) latest noted =
          subst (λ (t : ℕ). IsNoted (list.tasks t) (made_by t earlier) latest noted) (sym mine) are.1 in
          touched noted.step noted.answer noted.begins (touches_of before) (one_begun later earlier latest is events noted.begins at.begins) (rest before are.0)

  all_stamped : (touches : List Touch) → AllSo touches → All (IsStampedSo list) (filter_map stamped touches)
  all_stamped [] so = All-nil (IsStampedSo list)
  all_stamped (touch ∷ newer) so = by_end (all_stamped newer so.1) touch.end refl
    where
      by_end : All (IsStampedSo list) (filter_map stamped newer) → (end : Option ℕ) → touch.end ≡ end
          → All (IsStampedSo list) (filter_map stamped (touch ∷ newer))
      by_end rest None is =
          subst (λ (e : Option ℕ). All (IsStampedSo list) (cons_option (stamped_at touch.begun touch.begin e) (filter_map stamped newer))) (sym is) rest
      by_end rest (Some end) is =
          subst (λ (e : Option ℕ). All (IsStampedSo list) (cons_option (stamped_at touch.begun touch.begin e) (filter_map stamped newer))) (sym is)
          (All-cons (IsStampedSo list) (record {
            access = touch.begun.access;
            begin = touch.begin;
            end = end;
            marked = touch.begun.marked;
            silenced = touch.begun.silenced;
          }) (filter_map stamped newer) so.0 rest)

  pub stamped_so : (task : ℕ) (noted : List Noted) → Notes list task noted → All (IsStampedSo list) (accesses_of noted)
  stamped_so task noted notes = all_stamped (touches_of noted) (all_touched task [] records refl does noted notes)
