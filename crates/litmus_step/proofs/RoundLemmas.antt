-- Tasks that are asked often, and in rounds.
use Rattle.std.proofs.Common.{◌≡◌, ◌≢◌, ◌++◌, ◌∙◌, ◌<◌, ◌+◌, ◌-◌, ◌∷◌, [], ℕ, zero, suc, List, Result, Ok, Err, IfErr, OnOk, ap}
use Rattle.std.proofs.Common.{append_assoc, arith, drop, get_or, length, refl, replicate, slice_get, subst, sym, take}
use Rattle.std.specs.List.{range_with_len}
use Rattle.std.proofs.lemmas.Grind.{flat_map-append}
use Rattle.std.proofs.lemmas.List.{append-nil, take-append-drop, take_more}
use Rattle.prepared_program.specs.step_schedule.Order.{asked_by, in_rounds}
use Rattle.prepared_program.specs.declared.step_schedule.schedule.Entry.{Entry}
use Rattle.litmus_step.proofs.OrderLemmas.{one_more, some_more}
use Rattle.litmus_step.proofs.TurnLemmas.{asked_both, asked_nothing, each_machine}
use Rattle.litmus_step.specs.Steps.{IsFree, IsMachine, SteppedLeaves, tasks_in}
use Rattle.litmus_step.specs.Turns.{Asked, IsStuckAt, NobodyIsStuck, RunsOn, StopsAt}
use Rattle.prepared_program.specs.declared.program_sites.error.RunError.{RunError}
use Rattle.prepared_program.specs.declared.program_sites.error.RunError.TheVariants as errors
use Rattle.litmus_step.specs.declared.world.Stepped.{Stepped}
use Rattle.litmus_step.specs.declared.world.Stepped.TheVariants.{Ended, Moved, Stuck}
use Rattle.litmus_step.specs.declared.world.World.{World}
use Rattle.task_run.specs.declared.run.TaskRun.{TaskRun}

-- a task that isn't told to be stuck is free, and so are all, if they were
free_of : (told : Stepped) (machine : TaskRun) → told ≢ Stuck → SteppedLeaves told machine → IsFree machine
free_of Moved machine apart tells = tells.0
free_of Ended machine apart tells = tells.0
free_of Stuck machine apart tells = absurd (apart refl)

pub nobody_after : (before after : World) (task : ℕ) (told : Stepped) → NobodyIsStuck before
    → ((other : ℕ) → task ≢ other → slice_get after.tasks.items other ≡ slice_get before.tasks.items other)
    → ((machine : TaskRun) → IsMachine after task machine → SteppedLeaves told machine) → told ≢ Stuck → NobodyIsStuck after
nobody_after before after task told nobody others tells apart =
    each_machine IsFree before after task others nobody (λ machine stands. free_of told machine apart (tells machine stands))

range_on : (from n : ℕ) → range_with_len from (suc n) ≡ range_with_len from n ++ (from + n) ∷ []
range_on from zero = let same : from ≡ from + 0 = omega arith in ap (λ n. n ∷ []) same
range_on from (suc n) =
    let same : (from + 1) + n ≡ from + suc n = omega arith in
    ap (λ (rest : List ℕ). from ∷ rest) (range_on (from + 1) n ∙ ap (λ last. range_with_len (from + 1) n ++ last ∷ []) same)

-- the tasks up to one
pub range_more : (n : ℕ) → range_with_len 0 n ++ n ∷ [] ≡ range_with_len 0 (n + 1)
range_more n =
    let one : 0 + n ≡ n = omega arith in
    let more : suc n ≡ n + 1 = omega arith in
    ap (λ last. range_with_len 0 n ++ last ∷ []) (sym one) ∙ sym (range_on 0 n) ∙ ap (λ m. range_with_len 0 m) more

pub range_split : (from n more : ℕ) → range_with_len from n ++ range_with_len (from + n) more ≡ range_with_len from (n + more)
range_split from zero more =
    let here : from + 0 ≡ from = omega arith in
    let all : more ≡ 0 + more = omega arith in
    ap (λ at. range_with_len at more) here ∙ ap (λ m. range_with_len from m) all
range_split from (suc n) more =
    let here : from + suc n ≡ (from + 1) + n = omega arith in
    let all : suc (n + more) ≡ suc n + more = omega arith in
    ap (λ (rest : List ℕ). from ∷ rest) (ap (λ at. range_with_len (from + 1) n ++ range_with_len at more) here
    ∙ range_split (from + 1) n more)
    ∙ ap (λ m. range_with_len from m) all

-- those that are asked in a round up to one, and the rest
pub round_spelled : (task tasks : ℕ) → task < tasks
    → (range_with_len 0 task ++ task ∷ []) ++ range_with_len (0 + (task + 1)) (tasks - (task + 1)) ≡ range_with_len 0 tasks
round_spelled task tasks below =
    let all : (task + 1) + (tasks - (task + 1)) ≡ tasks = omega (arith, below) in
    ap (λ (front : List ℕ). front ++ range_with_len (0 + (task + 1)) (tasks - (task + 1))) (range_more task)
    ∙ range_split 0 (task + 1) (tasks - (task + 1)) ∙ ap (λ n. range_with_len 0 n) all

-- a task that is asked up to a time, and the rest
pub times_spelled : (task made count : ℕ) → made < count
    → (replicate made task ++ task ∷ []) ++ replicate (count - (made + 1)) task ≡ replicate count task
times_spelled task made count below =
    let all : (made + 1) + (count - (made + 1)) ≡ count = omega (arith, below) in
    ap (λ (front : List ℕ). front ++ replicate (count - (made + 1)) task) (one_more made task)
    ∙ some_more (made + 1) (count - (made + 1)) task ∙ ap (λ n. replicate n task) all

pub asked_along : (first world : World) (order other : List ℕ) → order ≡ other → Asked first order world → Asked first other world
asked_along first world order other same asked = subst (λ (o : List ℕ). Asked first o world) same asked

-- a task is stuck once more tasks were asked
pub stops_after : (first before after : World) (order more : List ℕ) (error : RunError) → Asked first order before
    → StopsAt before more after error → StopsAt first (order ++ more) after error
stops_after first before after order more error asked stops = record {
  task = stops.task;
  is = stops.is;
  there = stops.there;
  stuck = stops.stuck;
  front = order ++ stops.front;
  later = stops.later;
  spelled = append_assoc order stops.front stops.later ∙ ap (λ (rest : List ℕ). order ++ rest) stops.spelled;
  asked = asked_both first before after order stops.front asked stops.asked;
}

-- so it is where more were to be asked
pub stops_before : (first after : World) (order more all : List ℕ) (error : RunError) → order ++ more ≡ all
    → StopsAt first order after error → StopsAt first all after error
stops_before first after order more all error same stops = record {
  task = stops.task;
  is = stops.is;
  there = stops.there;
  stuck = stops.stuck;
  front = stops.front;
  later = stops.later ++ more;
  spelled = sym (append_assoc stops.front stops.later more) ∙ ap (λ (o : List ℕ). o ++ more) stops.spelled ∙ same;
  asked = stops.asked;
}

pub entries_more : (entries : List Entry) (at : ℕ) (otherwise : Entry) → at < length entries
    → asked_by (take at entries) ++ replicate (get_or entries at otherwise).steps (get_or entries at otherwise).task
    ≡ asked_by (take (at + 1) entries)
entries_more entries at otherwise below =
    let one : asked_by (get_or entries at otherwise ∷ []) ≡ replicate (get_or entries at otherwise).steps
    (get_or entries at otherwise).task = append-nil _ in
    ap (λ (last : List ℕ). asked_by (take at entries) ++ last) (sym one)
    ∙ sym (flat_map-append (λ (entry : Entry). replicate entry.steps entry.task) (take at entries) (get_or entries at otherwise ∷ []))
    ∙ ap asked_by (sym (take_more entries at otherwise below))

pub entries_rest : (entries : List Entry) (at : ℕ) → asked_by (take at entries) ++ asked_by (drop at entries) ≡ asked_by entries
entries_rest entries at =
    sym (flat_map-append (λ (entry : Entry). replicate entry.steps entry.task) (take at entries) (drop at entries))
    ∙ ap asked_by (take-append-drop at entries)

-- a run that stops before any task is asked, while the entries are followed, and in turn
pub runs_nowhere : (world : World) (entries : List Entry) → RunsOn world entries world
runs_nowhere world entries = record {
  order = [];
  in_order = record { rounds = 0; later = asked_by entries; spelled = sym (append-nil (asked_by entries)) };
  asked = asked_nothing world;
}

pub runs_in_entries : (first after : World) (entries : List Entry) (error : RunError) → StopsAt first (asked_by entries) after error
    → RunsOn first entries after
runs_in_entries first after entries error stops = record {
  order = stops.front;
  in_order = record { rounds = 0; later = stops.later; spelled = stops.spelled ∙ sym (append-nil (asked_by entries)) };
  asked = stops.asked;
}

pub runs_in_turn : {T : Type 0} (first between after : World) (entries : List Entry) (result : Result T RunError)
    → Asked first (asked_by entries) between → tasks_in between ≡ tasks_in first
    → OnOk result ((rounds : ℕ) × Asked between (in_rounds (tasks_in between) rounds) after)
    → IfErr result (λ error. (rounds : ℕ) × StopsAt between (in_rounds (tasks_in between) rounds) after error)
    → RunsOn first entries after
runs_in_turn first between after entries (Ok value) asked same on err = record {
  order = asked_by entries ++ in_rounds (tasks_in first) on.0;
  in_order = record { rounds = on.0; later = []; spelled = append-nil (asked_by entries ++ in_rounds (tasks_in first) on.0) };
  asked = asked_both first between after (asked_by entries) (in_rounds (tasks_in first) on.0) asked
      (subst (λ n. Asked between (in_rounds n on.0) after) same on.1);
}
runs_in_turn first between after entries (Err error) asked same on err = record {
  order = asked_by entries ++ err.1.front;
  in_order = record {
    rounds = err.0;
    later = err.1.later;
    spelled = append_assoc (asked_by entries) err.1.front err.1.later
        ∙ ap (λ (rest : List ℕ). asked_by entries ++ rest) (err.1.spelled ∙ ap (λ n. in_rounds n err.0) same);
  };
  asked = asked_both first between after (asked_by entries) err.1.front asked err.1.asked;
}

-- the task that an error names is the one that is stuck
pub stuck_by : (world : World) (error : RunError) (named : ℕ) (task : ℕ) → error ≡ errors.Stuck named → error ≡ errors.Stuck task
    → named < tasks_in world → IsStuckAt world named → (task < tasks_in world) × IsStuckAt world task
stuck_by world error named task is same below stuck =
    let one : named ≡ task = same_task named task (sym is ∙ same) in
    (subst (λ t. t < tasks_in world) one below, subst (IsStuckAt world) one stuck)
  where
    same_task : (x y : ℕ) → errors.Stuck x ≡ errors.Stuck y → x ≡ y
    same_task x y e = cc

pub same_error : {T : Type 0} (result : Result T RunError) (one other : RunError) → result ≡ Err one → result ≡ Err other → one ≡ other
same_error result one other is_one is_other = cc

pub stuck_in_turn : {T : Type 0} (between after : World) (result : Result T RunError) (task : ℕ)
    → IfErr result (λ error. (rounds : ℕ) × StopsAt between (in_rounds (tasks_in between) rounds) after error)
    → result ≡ Err (errors.Stuck task) → (task < tasks_in after) × IsStuckAt after task
stuck_in_turn between after (Ok value) task err is = absurd (cc)
stuck_in_turn between after (Err error) task err is =
    stuck_by after error err.1.task task err.1.is (same_error (Err error) error (errors.Stuck task) refl is) err.1.there err.1.stuck
