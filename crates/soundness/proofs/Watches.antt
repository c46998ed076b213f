-- Each verdict that an execution tells is on a watch of an access in progress, and each telling on a find.
use Rattle.std.proofs.Common.{◌≡◌, ◌∙◌, ◌<◌, ◌≤◌, ◌+◌, ◌-◌, ◌==◌, ◌∷◌, ◌++◌, [], inl, inr, ℕ, suc, Bool, All, IsTrue, List, Option, Some, ap, append_assoc}
use Rattle.std.proofs.Common.{arith, length, map, refl, reverse, slice_get, subst, sym}
use Rattle.std.specs.List.{filter}
use Rattle.std.proofs.Math.ListN.{get_or-eq_default}
use Rattle.std.proofs.lemmas.Bool.Decides.{eqb_tells, leb_tells}
use Rattle.std.proofs.lemmas.List.{length-append, length-reverse, reverse-append, reverse-reverse}
use Rattle.std.proofs.lemmas.List.Elements.{All-append, All-cons, All-nil}
use Rattle.access_types.specs.Access.{Access}
use Rattle.access_types.specs.History.{InProgress}
use Rattle.access_types.specs.declared.history.Happening.{Happening}
use Rattle.access_types.specs.declared.history.Happening.TheVariants as happenings
use Rattle.litmus_semantics.specs.RunOfProgram.{setting_of}
use Rattle.litmus_semantics.specs.TextSites.{IsOfText}
use Rattle.litmus_semantics.proofs.TicketLemmas.{of_text}
use Rattle.litmus_syntax.specs.Tree.{Task}
use Rattle.setup_access.specs.Check.{Fallen}
use Rattle.setup_access.specs.OwnAccesses.{IsOwn}
use Rattle.setup_access.specs.Setting as checks
use Rattle.setup_access.specs.declared.outcome.Outcome.{Outcome}
use Rattle.slot_table.specs.Records.{records_of}
use Rattle.slot_table.specs.declared.records.Record.{Record}
use Rattle.program_order.specs.Standing.{Point, Setting, checks_of, point_by}
use Rattle.program_order.specs.TaskObserved.{did_by, to_come}
use Rattle.program_order.specs.WrittenOrder.{StepsOfBlock, at_first, first_point}
use Rattle.program_order.proofs.MeaningLemmas.{whole_means}
use Rattle.executions.specs.execution.Run.{IsOfProgram, Run, idle, task_of, task_setting}
use Rattle.executions.specs.execution.Execution.{Execution}
use Rattle.executions.specs.execution.Observed.{Armed, OutcomeAt, armed_by, came_next, history_by, history_of, made_by, outcome_at, outcomes_by, outcomes_of}
use Rattle.executions.proofs.execution.Histories.{did_of_all, front_of, in_progress}
use Rattle.executions.proofs.execution.Intervals.{Has, IsOpen, has_first}
use Rattle.executions.proofs.execution.OwnLasts.{own_latest}
use Rattle.soundness.specs.Finds.{is_telling}
use Rattle.soundness.specs.Watches.{IfVerdict, IsOfWatch, IsWatch, is_verdict}
use Rattle.soundness.proofs.RecordsDoEvents.{told_whole}
use Rattle.executions.proofs.execution.AccessesBeginOnce.{there}
use Rattle.soundness.proofs.Opens.{has_split}
use Rattle.soundness.proofs.PointsTell as tells
use Rattle.soundness.proofs.PointsTell.{FallsOf, FallsSo, IsPart, IsSomeFind, PointsTell, goes_on}

-- what falls is of such a part among these records, through which the access is in progress
record FellAt (Is : IsPart) (s : Setting) (last : Point) (records : List Record) (points : List Point) (fallen : Fallen) : Type 0 where
  front : List Record
  part : List Record
  split : records ≡ front ++ (part ++ fallen.later)
  is : Is (checks_of s) fallen.access fallen.outcome part
  own : IsOwn (checks_of s) fallen.access
  goes : (n : ℕ) → length fallen.later < n → n ≤ length part + length fallen.later → IsOpen (point_by n last points).progress.did fallen.access

abbrev Each : (Fallen → Type 0) → List Fallen → Type 0
Each P [] = Unit {0}
Each P (fallen ∷ outs) = P fallen × Each P outs

each_map : (P Q : Fallen → Type 0) (outs : List Fallen) → ((f : Fallen) → P f → Q f) → Each P outs → Each Q outs
each_map P Q [] map_so each = tt
each_map P Q (fallen ∷ outs) map_so each = (map_so fallen each.0, each_map P Q outs map_so each.1)

-- of the outcomes of this kind
module _ (flag : Outcome → Bool) (Is : IsPart)
    (of : (s : Setting) (records : List Record) (did : List Happening) (points : List Point) (f : Fallen) → FallsSo s records did points f
    → IsTrue (flag f.outcome) → FallsOf Is s records did points f) (s : Setting) where
  abbrev FellSo : Point → List Record → List Point → Fallen → Type 0
  FellSo last records points fallen = IsTrue (flag fallen.outcome) → FellAt Is s last records points fallen

  -- after a point at which so many records are to come
  at_point : (last point : Point) (records : List Record) (points : List Point) → length records ≤ point.to_come → (f : Fallen)
      → FellSo point records points f → FellSo last records (point ∷ points) f
  at_point last point records points here f so = λ told_so.
      let it = so told_so in
      let long : length records ≡ length it.front + (length it.part + length f.later) =
      ap (λ (r : List Record). length r) it.split
      ∙ (length-append it.front (it.part ++ f.later) ∙ ap (λ (n : ℕ). length it.front + n) (length-append it.part f.later)) in
      record {
        front = it.front;
        part = it.part;
        split = it.split;
        is = it.is;
        own = it.own;
        goes = λ n above below. subst (λ (p : Point). IsOpen p.progress.did f.access) (sym (goes_on n last point points (omega (arith, here, long, below))))
            (it.goes n above below);
      }

  one_more : (last : Point) (first : Record) (later : List Record) (points : List Point) (f : Fallen)
      → FellSo last later points f → FellSo last (first ∷ later) points f
  one_more last first later points f so = λ told_so.
      let it = so told_so in
      record {
        front = first ∷ it.front;
        part = it.part;
        split = ap (λ (r : List Record). first ∷ r) it.split;
        is = it.is;
        own = it.own;
        goes = it.goes;
      }

  at_once : (last : Point) (records : List Record) (did : List Happening) (points : List Point) (f : Fallen) → last.progress.did ≡ did
      → FallsOf Is s records did points f → FellAt Is s last records points f
  at_once last records did points f same it = record {
    front = [];
    part = it.part;
    split = it.split;
    is = it.is;
    own = it.own;
    goes = λ n above below. subst (λ (p : Point). IsOpen p.progress.did f.access) (sym (it.stays n last above))
        (subst (λ (d : List Happening). IsOpen d f.access) (sym same) it.goes);
  }

  all_fell : (last : Point) (records : List Record) (did : List Happening) (points : List Point) (outs : List Fallen) → last.progress.did ≡ did
      → PointsTell s records did points outs → Each (FellSo last records points) outs
  all_fell last records did points outs same (tells.over d) = tt
  all_fell last records did points outs same (tells.marks r d more point others o here says are goes) =
      each_map (FellSo point r others) (FellSo last r (point ∷ others)) o (at_point last point r others (omega (arith, here)))
      (all_fell point r point.progress.did others o refl goes)
  all_fell last records did points outs same (tells.silent first later d others o event made goes) =
      each_map (FellSo last later others) (FellSo last (first ∷ later) others) o (one_more last first later others)
      (all_fell last later d others o same goes)
  all_fell last records did points outs same (tells.event first later d more point others o here says event none goes) =
      each_map (FellSo last later (point ∷ others)) (FellSo last (first ∷ later) (point ∷ others)) o (one_more last first later (point ∷ others))
      (each_map (FellSo point later others) (FellSo last later (point ∷ others)) o (at_point last point later others (omega (arith, here)))
      (all_fell point later point.progress.did others o refl goes))
  all_fell last records did points outs same (tells.fell r d others o fallen so goes) =
      (λ told_so. at_once last r d others fallen same (of s r d others fallen so told_so), all_fell last r d others o same goes)

same_front : (p u q v : List Record) → length p ≡ length u → p ++ q ≡ u ++ v → p ≡ u
same_front [] [] q v same is = refl
same_front [] (first ∷ u) q v same is = absurd (omega (arith, same))
same_front (first ∷ p) [] q v same is = absurd (omega (arith, same))
same_front (first ∷ p) (other ∷ u) q v same is =
    let one : first ≡ other = cc in
    let rest : p ++ q ≡ u ++ v = cc in
    let shorter : length p ≡ length u = omega (arith, same) in
    ap (λ (r : Record). r ∷ p) one ∙ ap (λ (r : List Record). other ∷ r) (same_front p u q v shorter rest)

those_at : (n at : ℕ) (arming : Option Armed) (P : Fallen → Type 0) (Q : OutcomeAt → Type 0) (outs : List Fallen) → Each P outs
    → ((f : Fallen) → P f → length f.later ≡ n → Q (outcome_at at arming f))
    → All Q (map (outcome_at at arming) (filter (λ f. length f.later == n) outs))
those_at n at arming P Q [] falls each = All-nil Q
those_at n at arming P Q (f ∷ outs) falls each = elim (eqb_tells (length f.later) n) [
  | inl here ↦ rw here.0 (All-cons Q (outcome_at at arming f) _ (each f falls.0 here.1) (those_at n at arming P Q outs falls.1 each))
  | inr apart ↦ rw apart.0 (those_at n at arming P Q outs falls.1 each)
]

module _ (run : Run) (records : List Record) (list : Execution run records) where
  abbrev whole : ℕ → List Record
  whole task = reverse (records_of task records) ++ (list.tasks task).more

  abbrev first_of : ℕ → Point
  first_of task = first_point (to_come (list.tasks task) 0) (length (task_of run task).registers)

  -- a task that the program hasn't makes no record
  pub makes_none : (task : ℕ) → length run.program.tasks ≤ task → [] ≡ whole task
  makes_none task past =
      let none : task_of run task ≡ idle = get_or-eq_default run.program.tasks idle past in
      let s : Setting = task_setting run task in
      let end = (list.tasks task).whole.end in
      let steps : StepsOfBlock s 0 idle.body (at_first (length idle.registers)) (whole task) end [] =
      subst (λ (t : Task). StepsOfBlock s 0 t.body (at_first (length t.registers)) (whole task) end []) none (list.tasks task).whole.steps in
      steps.1

  pub is_below : (latest : Record) (earlier later : List Record) → records ≡ later ++ latest ∷ earlier → latest.task < length run.program.tasks
  is_below latest earlier later is = elim (leb_tells (length run.program.tasks) latest.task) [
    | inr below ↦ below.1
    | inl past ↦
        let task : ℕ = latest.task in
        let front = front_of run records list task later (latest ∷ earlier) is in
        let none : [] ≡ whole task = makes_none task past.1 in
        let own : records_of task (latest ∷ earlier) ≡ latest ∷ records_of task earlier = own_latest task latest earlier refl in
        let long : 0 ≡ length (reverse (records_of task (latest ∷ earlier))) + length front.0 =
        ap (λ (r : List Record). length r) (none ∙ front.1) ∙ length-append (reverse (records_of task (latest ∷ earlier))) front.0 in
        let so_many : length (reverse (records_of task (latest ∷ earlier))) ≡ suc (length (records_of task earlier)) =
        length-reverse (records_of task (latest ∷ earlier)) ∙ ap (λ (r : List Record). length r) own in
        absurd (omega (arith, long, so_many))
  ]

  -- an access that a task has begun is one of the program
  pub of_program : (task made : ℕ) (a : Access) → a.task ≡ task → IsOpen (did_by (list.tasks task) made) a → IsOfProgram run a
  of_program task made a mine goes =
      let s : Setting = task_setting run task in
      let written = list.tasks task in
      let end = written.whole.end.progress in
      let begins = did_of_all written made in
      let has : Has end.did (happenings.Begin a) =
      subst (λ (d : List Happening). Has d (happenings.Begin a)) (sym begins.1)
      (has_first (did_by written made) begins.0 (happenings.Begin a) goes.begun) in
      let split = has_split end.did (happenings.Begin a) has in
      let at : slice_get end.did (length split.0) ≡ Some (happenings.Begin a) =
      subst (λ (d : List Happening). slice_get d (length split.0) ≡ Some (happenings.Begin a)) (sym split.2) (there split.0 split.1 (happenings.Begin a)) in
      let means = whole_means s (length (task_of run task).registers) (task_of run task).body (whole task) written.whole in
      let text : IsOfText (setting_of run.program run.places task) (task_of run task).body a =
      of_text s.text (task_of run task).body _ end means (length split.0) a at in
      subst (λ (t : ℕ). IsOfText (setting_of run.program run.places t) (task_of run t).body a) (sym mine) text

  -- of the outcomes of this kind, whose parts have records
  module _ (flag : Outcome → Bool) (Is : IsPart)
      (of : (s : Setting) (records : List Record) (did : List Happening) (points : List Point) (f : Fallen) → FallsSo s records did points f
      → IsTrue (flag f.outcome) → FallsOf Is s records did points f)
      (some : (s : checks.Setting) (a : Access) (outcome : Outcome) (part : List Record) → Is s a outcome part → 0 < length part) where
    -- what came of a check is of such a part, which its task has just made
    pub record IsOf (came : OutcomeAt) : Type 0 where
      pub later : List Record
      pub latest : Record
      pub earlier : List Record
      pub split : records ≡ later ++ latest ∷ earlier
      pub at : length earlier ≡ came.at
      pub mine : latest.task ≡ came.access.task
      pub access_is : IsOfProgram run came.access
      pub part : List Record
      pub before : List Record
      pub own : records_of came.access.task (latest ∷ earlier) ≡ reverse part ++ before
      pub is : Is (checks_of (task_setting run came.access.task)) came.access came.outcome part
      pub goes : (more back : List Record) → records ≡ more ++ back
          → length before ≤ made_by came.access.task back
          → made_by came.access.task back < length before + length part
          → InProgress (history_of list) came.access (length (history_by list back))

    abbrev IfOf : OutcomeAt → Type 0
    IfOf came = IsTrue (flag came.outcome) → IsOf came

    of_part : (later : List Record) (latest : Record) (earlier : List Record) → records ≡ later ++ latest ∷ earlier → (f : Fallen)
        → FellSo flag Is of (task_setting run latest.task) (first_of latest.task) (whole latest.task) (list.tasks latest.task).whole.end.way f
        → length f.later ≡ to_come (list.tasks latest.task) (made_by latest.task earlier + 1)
        → IfOf (outcome_at (length earlier) (armed_by latest.task (latest ∷ earlier)) f)
    of_part later latest earlier is f so so_many = λ told_so.
        let task : ℕ = latest.task in
        let it = so told_so in
        let written = list.tasks task in
        let own : List Record = records_of task (latest ∷ earlier) in
        let front = front_of run records list task later (latest ∷ earlier) is in
        let own_is : own ≡ latest ∷ records_of task earlier = own_latest task latest earlier refl in
        let own_long : length own ≡ suc (made_by task earlier) = ap (λ (r : List Record). length r) own_is in
        let all : length (whole task) ≡ length own + length front.0 =
        ap (λ (r : List Record). length r) front.1 ∙ (length-append (reverse own) front.0 ∙ ap (λ (n : ℕ). n + length front.0) (length-reverse own)) in
        let left : length f.later ≡ length front.0 = omega (arith, all, own_long, so_many) in
        let parted : whole task ≡ (it.front ++ it.part) ++ f.later = it.split ∙ sym (append_assoc it.front it.part f.later) in
        let parts : length (whole task) ≡ (length it.front + length it.part) + length f.later =
        ap (λ (r : List Record). length r) parted
        ∙ (length-append (it.front ++ it.part) f.later ∙ ap (λ (n : ℕ). n + length f.later) (length-append it.front it.part)) in
        let as_long : length (it.front ++ it.part) ≡ length (reverse own) =
        let fronts : length (it.front ++ it.part) ≡ length it.front + length it.part = length-append it.front it.part in
        let back : length (reverse own) ≡ length own = length-reverse own in omega (arith, fronts, back, parts, all, left) in
        let same : it.front ++ it.part ≡ reverse own = same_front (it.front ++ it.part) (reverse own) f.later front.0 as_long (sym parted ∙ front.1) in
        let reversed : own ≡ reverse it.part ++ reverse it.front =
        sym (reverse-reverse own) ∙ (ap (λ (r : List Record). reverse r) (sym same) ∙ reverse-append it.front it.part) in
        let mine : f.access.task ≡ task = it.own.task in
        let before_long : length (reverse it.front) ≡ length it.front = length-reverse it.front in
        let some : 0 < length it.part = some (checks_of (task_setting run task)) f.access f.outcome it.part it.is in
        let made_then : ℕ = length (whole task) - suc (length f.later) in
        let left_then : to_come written made_then ≡ suc (length f.later) = omega (arith, parts, some) in
        let open_then : IsOpen (did_by written made_then) f.access =
        subst (λ (n : ℕ). IsOpen (point_by n (first_of task) written.whole.end.way).progress.did f.access) (sym left_then)
        (it.goes (suc (length f.later)) (omega arith) (omega (arith, some))) in
        record {
          later = later;
          latest = latest;
          earlier = earlier;
          split = is;
          at = refl;
          mine = sym mine;
          access_is = of_program task made_then f.access mine open_then;
          part = it.part;
          before = reverse it.front;
          own = ap (λ (t : ℕ). records_of t (latest ∷ earlier)) mine ∙ reversed;
          is = subst (λ (t : ℕ). Is (checks_of (task_setting run t)) f.access f.outcome it.part) (sym mine) it.is;
          goes = λ more back is_so from to.
              let made : ℕ = made_by task back in
              let as_made : made_by f.access.task back ≡ made = ap (λ (t : ℕ). made_by t back) mine in
              let n : ℕ = to_come written made in
              let whole_long : n ≡ length (whole task) - made = omega arith in
              let open_then : IsOpen (did_by written made) f.access =
              it.goes n (omega (arith, whole_long, parts, to, as_made, before_long)) (omega (arith, whole_long, parts, from, as_made, before_long)) in
              in_progress run records list more back is_so f.access
              (subst (λ (t : ℕ). t < length run.program.tasks) (sym mine) (is_below latest earlier later is))
              (subst (λ (t : ℕ). IsOpen (did_by (list.tasks t) (made_by t back)) f.access) (sym mine) open_then);
        }

    of_parts_by : (later earlier : List Record) → records ≡ later ++ earlier → All IfOf (outcomes_by list earlier)
    of_parts_by later [] is = All-nil IfOf
    of_parts_by later (latest ∷ earlier) is =
        let task : ℕ = latest.task in
        let written = list.tasks task in
        let before = of_parts_by (later ++ latest ∷ []) earlier (is ∙ sym (append_assoc later (latest ∷ []) earlier)) in
        let facts = all_fell flag Is of (task_setting run task) (first_of task) (whole task) [] written.whole.end.way written.whole.end.outcomes refl
        (told_whole run records list task) in
        let now = those_at (to_come written (made_by task earlier + 1)) (length earlier) (armed_by task (latest ∷ earlier))
        (FellSo flag Is of (task_setting run task) (first_of task) (whole task) written.whole.end.way) IfOf written.whole.end.outcomes facts
        (λ f so left. of_part later latest earlier is f so left) in
        All-append IfOf (outcomes_by list earlier) (came_next list latest earlier) before now

    pub all_of_parts : All IfOf (outcomes_of list)
    all_of_parts = of_parts_by [] records refl

  -- a watch has records
  pub some_watch : (s : checks.Setting) (a : Access) (outcome : Outcome) (watch : List Record) → IsWatch s a outcome watch → 0 < length watch
  some_watch s a outcome [] it = absurd it.sets_up.2
  some_watch s a outcome (first ∷ watch) it = omega arith

  abbrev OfWatch : OutcomeAt → Type 0
  OfWatch came = IsOf is_verdict IsWatch (λ s r d p f so told_so. so.verdict told_so) some_watch came

  of_watch : (came : OutcomeAt) → OfWatch came → IsOfWatch list came
  of_watch came it = record {
    later = it.later;
    by_then = it.latest ∷ it.earlier;
    split = it.split;
    at = ap (λ (n : ℕ). suc n) it.at;
    mine = λ first others same. let one : it.latest ≡ first = cc in ap (λ (r : Record). r.task) (sym one) ∙ it.mine;
    access_is = it.access_is;
    watch = it.part;
    before = it.before;
    own = it.own;
    is_watch = it.is;
    goes = it.goes;
  }

  pub all_of_watches : All (IfVerdict list) (outcomes_of list)
  all_of_watches = λ place other below. λ told_so.
      of_watch _ (all_of_parts is_verdict IsWatch (λ s r d p f so told. so.verdict told) some_watch place other below told_so)

  -- a find has records
  pub some_find : (s : checks.Setting) (a : Access) (outcome : Outcome) (find : List Record) → IsSomeFind s a outcome find → 0 < length find
  some_find s a outcome [] it = absurd it.2.looks
  some_find s a outcome (first ∷ find) it = omega arith

  abbrev pub OfFind : OutcomeAt → Type 0
  OfFind came = IsOf is_telling IsSomeFind (λ s r d p f so told_so. so.telling told_so) some_find came

  pub all_of_finds : All (λ (came : OutcomeAt). IsTrue (is_telling came.outcome) → OfFind came) (outcomes_of list)
  all_of_finds = all_of_parts is_telling IsSomeFind (λ s r d p f so told. so.telling told) some_find
