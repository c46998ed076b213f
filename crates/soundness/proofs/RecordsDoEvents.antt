-- Each record of an execution does the one event of its step, and besides it nothing but marks.
use Rattle.std.proofs.Common.{◌≡◌, ◌+◌, ◌∙◌, ◌∷◌, ◌++◌, [], ℕ, suc, List, ap, append_assoc, arith, drop, length, refl, reverse, subst, sym}
use Rattle.std.proofs.lemmas.List.{append-nil, length-append, length-reverse, reverse-append}
use Rattle.access_types.specs.declared.history.Happening.{Happening}
use Rattle.slot_table.specs.Records.{records_of}
use Rattle.slot_table.specs.declared.records.Record.{Record}
use Rattle.program_order.specs.Standing.{Point, Setting, point_by}
use Rattle.program_order.specs.TaskObserved.{did_by, did_next, to_come}
use Rattle.program_order.specs.WrittenOrder.{first_point}
use Rattle.executions.specs.execution.Run.{Run, task_of, task_setting}
use Rattle.executions.specs.execution.Execution.{Execution}
use Rattle.executions.specs.execution.Observed.{made_by}
use Rattle.executions.proofs.execution.Histories.{front_of}
use Rattle.executions.proofs.execution.OwnLasts.{own_latest}
use Rattle.soundness.specs.Events.{AreMarks, DoesEvent, EachDoesItsEvent, IsEvent}
use Rattle.soundness.proofs.PointsTell as tells
use Rattle.setup_access.specs.Check.{Fallen}
use Rattle.executions.proofs.execution.AccessesBeginOnce.{begin_once}
use Rattle.soundness.proofs.PointsTell.{MadeFor, PointsTell, goes_on, made_anyway, stays, stops}
use Rattle.soundness.proofs.TextTells.{whole_tells}

marks_both : (first second : List Happening) → AreMarks first → AreMarks second → AreMarks (first ++ second)
marks_both [] second one two = two
marks_both (x ∷ first) second one two = (one.0, marks_both first second one.1 two)

-- what is computed by then, before the records
pub record Computes (last : Point) (records : List Record) (points : List Point) : Type 0 where
  pub marks : List Happening
  pub all : (point_by (length records) last points).progress.did ≡ last.progress.did ++ marks
  pub are : AreMarks marks

computes : (s : Setting) (last : Point) (records : List Record) (did : List Happening) (points : List Point) (outs : List Fallen) → last.progress.did ≡ did → PointsTell s records did points outs
    → Computes last records points
computes s last records did points outs same (tells.over d) = record { marks = []; all = sym (append-nil last.progress.did); are = tt }
computes s last records did points outs same (tells.marks r d more point others o here says are goes) =
    let rest = computes s point r point.progress.did others o refl goes in record {
      marks = more ++ rest.marks;
      all = ap (λ (p : Point). p.progress.did) (goes_on (length r) last point others (omega (arith, here)))
          ∙ (rest.all ∙ (ap (λ (x : List Happening). x ++ rest.marks) (says ∙ ap (λ (x : List Happening). x ++ more) (sym same))
          ∙ append_assoc last.progress.did more rest.marks));
      are = marks_both more rest.marks are rest.are;
    }
computes s last records did points outs same (tells.silent first later d others o event made goes) = record {
  marks = [];
  all = ap (λ (p : Point). p.progress.did) (stays s (suc (length later)) last later d others o goes (omega arith)) ∙ sym (append-nil last.progress.did);
  are = tt;
}
computes s last records did points outs same (tells.event first later d more point others o here says event none goes) = record {
  marks = [];
  all = ap (λ (p : Point). p.progress.did) (stops (suc (length later)) last point others (omega (arith, here))) ∙ sym (append-nil last.progress.did);
  are = tt;
}
computes s last records did points outs same (tells.fell r d others o fallen so goes) = computes s last r d others o same goes

-- what is done with a record, up to the next
pub record DoneWith (s : Setting) (last : Point) (x : Record) (q : List Record) (points : List Point) : Type 0 where
  pub event : List Happening
  pub marks : List Happening
  pub all : (point_by (length q) last points).progress.did ≡ (point_by (suc (length q)) last points).progress.did ++ (event ++ marks)
  pub is_event : IsEvent s (point_by (suc (length q)) last points).progress.did x.step x.answer event
  pub are : AreMarks marks
  pub made_for : MadeFor s (point_by (suc (length q)) last points).progress.did x.step

same_first : (first x : Record) (later q : List Record) → first ∷ later ≡ x ∷ q → (first ≡ x) × (later ≡ q)
same_first first x later q is = (cc, cc)

pub done_with : (s : Setting) (last : Point) (records : List Record) (did : List Happening) (points : List Point) (outs : List Fallen) → last.progress.did ≡ did → PointsTell s records did points outs
    → (p : List Record) (x : Record) (q : List Record) → records ≡ p ++ x ∷ q → DoneWith s last x q points
done_with s last records did points outs same (tells.over d) p x q is =
    let long : 0 ≡ length p + suc (length q) = ap (λ (r : List Record). length r) is ∙ length-append p (x ∷ q) in absurd (omega (arith, long))
done_with s last records did points outs same (tells.marks r d more point others o here says are goes) p x q is =
    let rest = done_with s point r point.progress.did others o refl goes p x q is in
    let long : length r ≡ length p + suc (length q) = ap (λ (l : List Record). length l) is ∙ length-append p (x ∷ q) in
    record {
      event = rest.event;
      marks = rest.marks;
      all = ap (λ (t : Point). t.progress.did) (goes_on (length q) last point others (omega (arith, here, long)))
          ∙ (rest.all ∙ ap (λ (t : Point). t.progress.did ++ (rest.event ++ rest.marks))
          (sym (goes_on (suc (length q)) last point others (omega (arith, here, long)))));
      is_event = subst (λ (t : Point). IsEvent s t.progress.did x.step x.answer rest.event)
          (sym (goes_on (suc (length q)) last point others (omega (arith, here, long)))) rest.is_event;
      are = rest.are;
      made_for = subst (λ (t : Point). MadeFor s t.progress.did x.step)
          (sym (goes_on (suc (length q)) last point others (omega (arith, here, long)))) rest.made_for;
    }
done_with s last records did points outs same (tells.silent first later d others o event made goes) [] x q is =
    let it = same_first first x later q is in
    let at_q : PointsTell s q d others o = subst (λ (r : List Record). PointsTell s r d others o) it.1 goes in
    let then = computes s last q d others o same at_q in
    let before : point_by (suc (length q)) last others ≡ last = stays s (suc (length q)) last q d others o at_q (omega arith) in
    record {
      event = [];
      marks = then.marks;
      all = then.all ∙ ap (λ (t : Point). t.progress.did ++ then.marks) (sym before);
      is_event = subst (λ (r : Record). IsEvent s (point_by (suc (length q)) last others).progress.did r.step r.answer []) it.0
          (subst (λ (d : List Happening). IsEvent s d first.step first.answer [])
          (sym (ap (λ (t : Point). t.progress.did) before ∙ same)) event);
      are = then.are;
      made_for = subst (λ (r : Record). MadeFor s (point_by (suc (length q)) last others).progress.did r.step) it.0
          (subst (λ (d : List Happening). MadeFor s d first.step)
          (sym (ap (λ (t : Point). t.progress.did) before ∙ same)) made);
    }
done_with s last records did points outs same (tells.silent first later d others o event made goes) (f ∷ p) x q is =
    let it = same_first first f later (p ++ x ∷ q) is in done_with s last later d others o same goes p x q it.1
done_with s last records did points outs same (tells.event first later d more point others o here says event none goes) [] x q is =
    let it = same_first first x later q is in
    let at_q : PointsTell s q point.progress.did others o = subst (λ (r : List Record). PointsTell s r point.progress.did others o) it.1 goes in
    let then = computes s point q point.progress.did others o refl at_q in
    let there : point.to_come ≡ length q = here ∙ ap (λ (r : List Record). length r) it.1 in
    let before : point_by (suc (length q)) last (point ∷ others) ≡ last = stops (suc (length q)) last point others (omega (arith, there)) in
    record {
      event = more;
      marks = then.marks;
      all = ap (λ (t : Point). t.progress.did) (goes_on (length q) last point others (omega (arith, there)))
          ∙ (then.all ∙ (ap (λ (l : List Happening). l ++ then.marks) (says ∙ ap (λ (l : List Happening). l ++ more) (sym same))
          ∙ (append_assoc last.progress.did more then.marks ∙ ap (λ (t : Point). t.progress.did ++ (more ++ then.marks)) (sym before))));
      is_event = subst (λ (r : Record). IsEvent s (point_by (suc (length q)) last (point ∷ others)).progress.did r.step r.answer more) it.0
          (subst (λ (d : List Happening). IsEvent s d first.step first.answer more)
          (sym (ap (λ (t : Point). t.progress.did) before ∙ same)) event);
      are = then.are;
      made_for = subst (λ (r : Record). MadeFor s (point_by (suc (length q)) last (point ∷ others)).progress.did r.step) it.0
          (made_anyway s (point_by (suc (length q)) last (point ∷ others)).progress.did first.step none);
    }
done_with s last records did points outs same (tells.event first later d more point others o here says event none goes) (f ∷ p) x q is =
    let it = same_first first f later (p ++ x ∷ q) is in
    let long : length later ≡ length p + suc (length q) = ap (λ (l : List Record). length l) it.1 ∙ length-append p (x ∷ q) in
    let rest = done_with s point later point.progress.did others o refl goes p x q it.1 in
    record {
      event = rest.event;
      marks = rest.marks;
      all = ap (λ (t : Point). t.progress.did) (goes_on (length q) last point others (omega (arith, here, long)))
          ∙ (rest.all ∙ ap (λ (t : Point). t.progress.did ++ (rest.event ++ rest.marks))
          (sym (goes_on (suc (length q)) last point others (omega (arith, here, long)))));
      is_event = subst (λ (t : Point). IsEvent s t.progress.did x.step x.answer rest.event)
          (sym (goes_on (suc (length q)) last point others (omega (arith, here, long)))) rest.is_event;
      are = rest.are;
      made_for = subst (λ (t : Point). MadeFor s t.progress.did x.step)
          (sym (goes_on (suc (length q)) last point others (omega (arith, here, long)))) rest.made_for;
    }
done_with s last records did points outs same (tells.fell r d others o fallen so goes) p x q is = done_with s last r d others o same goes p x q is

drop_front : (first rest : List Happening) → drop (length first) (first ++ rest) ≡ rest
drop_front [] rest = refl
drop_front (one ∷ first) rest = drop_front first rest

module _ (run : Run) (records : List Record) (list : Execution run records) where
  -- all records of a task
  pub told_whole : (task : ℕ) → PointsTell (task_setting run task) (reverse (records_of task records) ++ (list.tasks task).more) []
      (list.tasks task).whole.end.way (list.tasks task).whole.end.outcomes
  told_whole task =
      let registers : ℕ = length (task_of run task).registers in
      let all : List Record = reverse (records_of task records) ++ (list.tasks task).more in
      whole_tells (task_setting run task) registers (task_of run task).body all (list.tasks task).whole
      (begin_once (task_setting run task) registers (task_of run task).body all (list.tasks task).whole)

  -- what it does at a record, and for which access
  record At (latest : Record) (earlier : List Record) : Type 0 where
    does : DoesEvent (task_setting run latest.task) (did_by (list.tasks latest.task) (made_by latest.task earlier)) latest.step latest.answer
        (did_next (list.tasks latest.task) (made_by latest.task earlier))
    made_for : MadeFor (task_setting run latest.task) (did_by (list.tasks latest.task) (made_by latest.task earlier)) latest.step

  facts_at : (later : List Record) (latest : Record) (earlier : List Record) → records ≡ later ++ latest ∷ earlier → At latest earlier
  facts_at later latest earlier is =
      let task : ℕ = latest.task in
      let written = list.tasks task in
      let registers : ℕ = length (task_of run task).registers in
      let own : List Record = records_of task earlier in
      let made : ℕ = made_by task earlier in
      let whole : List Record = reverse (records_of task records) ++ written.more in
      let front = front_of run records list task later (latest ∷ earlier) is in
      let split : whole ≡ reverse own ++ latest ∷ front.0 =
      front.1 ∙ (ap (λ (r : List Record). reverse r ++ front.0) (own_latest task latest earlier refl)
      ∙ (ap (λ (r : List Record). r ++ front.0) (reverse-append (latest ∷ []) own) ∙ append_assoc (reverse own) (latest ∷ []) front.0)) in
      let first : Point = first_point (to_come written 0) registers in
      let told = told_whole task in
      let it = done_with (task_setting run task) first whole [] written.whole.end.way written.whole.end.outcomes refl told (reverse own) latest front.0 split in
      let long : length whole ≡ length (reverse own) + suc (length front.0) =
      ap (λ (r : List Record). length r) split ∙ length-append (reverse own) (latest ∷ front.0) in
      let same : length (reverse own) ≡ length own = length-reverse own in
      let left : to_come written (made + 1) ≡ length front.0 = omega (arith, long, same) in
      let with_it : to_come written made ≡ suc (length front.0) = omega (arith, long, same) in
      let by_now : did_by written (made + 1) ≡ did_by written made ++ (it.event ++ it.marks) =
      ap (λ (n : ℕ). (point_by n first written.whole.end.way).progress.did) left
      ∙ (it.all ∙ ap (λ (n : ℕ). (point_by n first written.whole.end.way).progress.did ++ (it.event ++ it.marks)) (sym with_it)) in
      record {
        does = record {
          event = it.event;
          marks = it.marks;
          all = ap (λ (d : List Happening). drop (length (did_by written made)) d) by_now ∙ drop_front (did_by written made) (it.event ++ it.marks);
          is_event = subst (λ (n : ℕ). IsEvent (task_setting run task) (point_by n first written.whole.end.way).progress.did latest.step latest.answer it.event)
              (sym with_it) it.is_event;
          are_marks = it.are;
        };
        made_for = subst (λ (n : ℕ). MadeFor (task_setting run task) (point_by n first written.whole.end.way).progress.did latest.step)
            (sym with_it) it.made_for;
      }

  pub made_at : (later : List Record) (latest : Record) (earlier : List Record) → records ≡ later ++ latest ∷ earlier
      → MadeFor (task_setting run latest.task) (did_by (list.tasks latest.task) (made_by latest.task earlier)) latest.step
  made_at later latest earlier is = (facts_at later latest earlier is).made_for

  each_by : (later earlier : List Record) → records ≡ later ++ earlier → EachDoesItsEvent list earlier
  each_by later [] is = tt
  each_by later (latest ∷ earlier) is =
      (each_by (later ++ latest ∷ []) earlier (is ∙ sym (append_assoc later (latest ∷ []) earlier)), (facts_at later latest earlier is).does)

  pub each_does : EachDoesItsEvent list records
  each_does = each_by [] records refl

  -- before its first step a task makes marks alone
  pub marks_first : (task : ℕ) → AreMarks (did_by (list.tasks task) 0)
  marks_first task =
      let written = list.tasks task in
      let registers : ℕ = length (task_of run task).registers in
      let whole : List Record = reverse (records_of task records) ++ written.more in
      let first : Point = first_point (to_come written 0) registers in
      let it = computes (task_setting run task) first whole [] written.whole.end.way written.whole.end.outcomes refl (told_whole task) in
      let all_left : to_come written 0 ≡ length whole = omega arith in
      let by_then : did_by written 0 ≡ it.marks = ap (λ (n : ℕ). (point_by n first written.whole.end.way).progress.did) all_left ∙ it.all in
      subst AreMarks (sym by_then) it.are
