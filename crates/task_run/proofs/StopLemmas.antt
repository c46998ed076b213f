-- What has no room has the task pass a limit, or doesn't follow in the text.
use native.Mathlib.Omega.{arith}
use Rattle.std.proofs.Common.{◌≡◌, ◌∙◌, ◌+◌, ◌^◌, ◌++◌, ◌<◌, ◌≤◌, ℕ, zero, suc, Bool, true, false, Err, List, [], ◌∷◌, IsSomeAnd, IsTrue, Ok, OnErr, Result, None, Option, Some, ap, append_assoc}
use Rattle.std.proofs.Common.{count_by, if◌then◌else◌, length, refl, replicate, slice_get, subst, sym}
use Rattle.std.proofs.lemmas.List.{append-nil, length-append, map-append, replicate-append-replicate}
use Rattle.std.proofs.lemmas.List.Sums.{sum_by-append, sum_by-cons}
use Rattle.access_types.specs.Access as access
use Rattle.access_types.specs.History.{History}
use Rattle.access_types.specs.Marked.{is_disable, is_enable, is_nest_close, is_nest_open, marks_of}
use Rattle.access_types.specs.declared.history.Happening.{Happening}
use Rattle.access_types.specs.declared.history.Happening.TheVariants as happenings
use Rattle.access_types.specs.declared.history.Mark.{Mark}
use Rattle.access_types.specs.declared.history.Mark.TheVariants as marks
use Rattle.access_types.specs.declared.kind.Kind.{Kind}
use Rattle.access_run.specs.Leads.{HasCell}
use Rattle.litmus_semantics.specs.Calls.{scoped_access}
use Rattle.litmus_semantics.specs.Task as meaning
use Rattle.litmus_syntax.specs.Tree as tree
use Rattle.litmus_syntax.specs.Tree.{Assignment, Load, Loading, Pure}
use Rattle.litmus_syntax.specs.declared.program.Variable.{Variable}
use Rattle.litmus_semantics.specs.Loads.{load_in}
use Rattle.litmus_syntax.specs.declared.statement.Call.{Call}
use Rattle.litmus_syntax.specs.declared.statement.Call.TheVariants as calls
use Rattle.access_run.specs.memory_operation.Operations.{Operates}
use Rattle.access_run.specs.declared.memory_operation.effect.Effect.{Effect}
use Rattle.access_run.specs.declared.memory_operation.operation.Operation.{Operation}
use Rattle.setup_access.specs.Setting as settings
use Rattle.setup_access.specs.Shown.{context_of}
use Rattle.setup_access.specs.declared.begun.Begun.{Begun}
use Rattle.slot_table.specs.declared.records.Record.{Record}
use Rattle.task_context.proofs.Moments.{marks_of-append, marks_of-one}
use Rattle.task_context.proofs.Surpluses.{surplus-le}
use Rattle.task_plan.specs.Follow.{Follow, Taker, assigned, condition, goes_on, loaded_by, marks_next, nobody, disable_count, so_often, to_register}
use Rattle.task_plan.specs.Plans.{assignment_plan, call_plan, load_plan, planned_access}
use Rattle.task_plan.specs.Views.{Plan}
use Rattle.task_run.proofs.BeginLemmas.{planned_still}
use Rattle.task_run.proofs.CountsLemmas.{history_of}
use Rattle.task_run.proofs.PartLemmas.{at_once_left, condition_left, load_left, register_left}
use Rattle.task_run.proofs.PlanLemmas.{assignment_left, call_left}
use Rattle.task_run.specs.Due.{ConditionDue, StatementDue}
use Rattle.task_run.specs.Part.{FollowLeft, TakerLeft, before_access, disabled}
use Rattle.task_run.specs.Plans.{LoadLeft, PlanLeft}
use Rattle.task_run.specs.Stands.{Stands}
use Rattle.task_run.specs.Stops.{CanBegin, Stops}
use Rattle.task_run.specs.declared.machine.Machine.{Machine}
use Rattle.program_order.proofs.text_bounds.Scopes.{one_more}
use Rattle.program_order.specs.text_bounds.Passes.{PassesALimit, disables, nest_opens, scopes}
use Rattle.program_order.specs.text_bounds.Scopes.{is_scoped}
use Rattle.task_run.proofs.GrowLemmas.{GoesOn, begins_on, choice_grows, makes_grow, opens_grow, walk_grows}
use Rattle.task_plan.specs.Left.{DueLeft}
use Rattle.task_plan.specs.declared.due.Due.TheVariants as dues
use Rattle.task_plan.specs.declared.walk.Walk.{Walk}
use Rattle.program_order.proofs.WayLemmas.{Begins}
use Rattle.program_order.specs.Standing.{BeginsNow, Setting, Standing, checks_of, counting, is_lock, moments}
use Rattle.program_order.specs.WrittenOrder.{Steps}

-- what holds anyhow holds where there is an error
pub on_err : {T E P : Type 0} (r : Result T E) → P → OnErr r P
on_err (Ok value) p = tt
on_err (Err error) p = p

-- what is due said otherwise
pub stops_as : (s : Setting) (P Q : Steps) (machine : Machine)
    → ((before : Standing) → Stands s before machine → (later : List Record) (end : Standing) → P before later end [] → Q before later end [])
    → Stops s Q machine → Stops s P machine
stops_as s P Q machine same stops before stands told later end h = stops before stands told later end (same before stands later end h)

-- what nothing completes
pub stops_never : (s : Setting) (P : Steps) (machine : Machine)
    → ((before : Standing) → Stands s before machine → (later : List Record) (end : Standing) → ¬ P before later end []) → Stops s P machine
stops_never s P machine never before stands told later end h = absurd (never before stands later end h)

module _ (sort : Mark → Bool) (task : ℕ) where
  abbrev count : List Happening → ℕ
  count did = count_by sort (marks_of task (history_of task did))

  count_both : (one other : List Happening) → count (one ++ other) ≡ count one + count other
  count_both one other =
      ap (λ (h : History). count_by sort (marks_of task h)) (map-append (λ (happening : Happening). record { task = task; happening = happening }) one other)
      ∙ (ap (λ (l : List Mark). count_by sort l) (marks_of-append task (history_of task one) (history_of task other))
      ∙ sum_by-append (λ (m : Mark). if sort m then 1 else 0) (marks_of task (history_of task one)) (marks_of task (history_of task other)))

  count_one : (m : Mark) (others : List Happening) → sort m ≡ true → count (happenings.Mark m ∷ others) ≡ suc (count others)
  count_one m others is =
      let one : Mark → ℕ = λ x. if sort x then 1 else 0 in
      let marks_are = ap (λ (l : List Mark). count_by sort l) (marks_of-one task m (history_of task others)) in
      let parts = sum_by-cons one m (marks_of task (history_of task others)) in
      let own : one m ≡ 1 = rw is refl in
      omega (arith, marks_are, parts, own)

  count_many : (often : ℕ) (m : Mark) → sort m ≡ true → count (replicate often (happenings.Mark m)) ≡ often
  count_many zero m is = refl
  count_many (suc often) m is = count_one m (replicate often (happenings.Mark m)) is ∙ ap suc (count_many often m is)

  -- no fewer afterwards
  count_grown : (did : List Happening) (often : ℕ) (m : Mark) (all : List Happening) → sort m ≡ true → Begins (did ++ replicate often (happenings.Mark m)) all
      → count did + often ≤ count all
  count_grown did often m all is grown =
      let whole = ap count grown.1 in
      let both = count_both (did ++ replicate often (happenings.Mark m)) grown.0 in
      let own = count_both did (replicate often (happenings.Mark m)) in
      let many = count_many often m is in
      omega (arith, whole, both, own, many)

-- reports are turned off, or regions begin, more often than there is room for
pub too_many_off : (s : Setting) (before end : Standing) (machine : Machine) (often : ℕ) → Stands s before machine
    → 2 ^ 32 < (context_of machine.checker).disable_count + often
    → Begins (before.progress.did ++ replicate often (happenings.Mark marks.Disable)) end.progress.did → PassesALimit s end
too_many_off s before end machine often stands more grown =
    let within = surplus-le is_disable is_enable (marks_of s.text.task (moments s before)) (context_of machine.checker).disable_count stands.counts.context.disabled in
    let least = count_grown is_disable s.text.task before.progress.did often marks.Disable end.progress.did refl grown in
    disables (omega (arith, within, least, more))

pub too_many_nested : (s : Setting) (before end : Standing) (machine : Machine) → Stands s before machine
    → 2 ^ 32 < (context_of machine.checker).nest_count + 1
    → Begins (before.progress.did ++ happenings.Mark marks.NestOpen ∷ []) end.progress.did → PassesALimit s end
too_many_nested s before end machine stands more grown =
    let within = surplus-le is_nest_open is_nest_close (marks_of s.text.task (moments s before)) (context_of machine.checker).nest_count stands.counts.context.nested in
    let least = count_grown is_nest_open s.text.task before.progress.did 1 marks.NestOpen end.progress.did refl grown in
    nest_opens (omega (arith, within, least, more))

-- a mark
counted_did : (b : Bool) (before : Standing) → (counting b before).progress.did ≡ before.progress.did
counted_did true before = refl
counted_did false before = refl

marked_grows : (s : Setting) (m : Mark) (site : ℕ) (walk : Walk) (before : Standing) (later : List Record) (end : Standing)
    → StatementDue s (tree.call (calls.Mark m)) site walk before later end [] → Begins (before.progress.did ++ happenings.Mark m ∷ []) end.progress.did
marked_grows s m site walk before later end h =
    let did : (h.0).progress.did ≡ before.progress.did ++ happenings.Mark m ∷ [] =
    ap (λ (st : Standing). st.progress.did) h.2.2.0 ∙ ap (λ (d : List Happening). d ++ happenings.Mark m ∷ []) (counted_did h.2.0 before) in
    subst (λ (d : List Happening). Begins d end.progress.did) did (walk_grows s walk h.0 h.1 end [] h.3)

pub disable_stops : (s : Setting) (site : ℕ) (machine : Machine) → 2 ^ 32 < (context_of machine.checker).disable_count + 1
    → Stops s (StatementDue s (tree.call (calls.Mark marks.Disable)) site machine.walk) machine
disable_stops s site machine more before stands told later end h =
    too_many_off s before end machine 1 stands more (marked_grows s marks.Disable site machine.walk before later end h)

pub nest_stops : (s : Setting) (site : ℕ) (machine : Machine) → 2 ^ 32 < (context_of machine.checker).nest_count + 1
    → Stops s (StatementDue s (tree.call (calls.Mark marks.NestOpen)) site machine.walk) machine
nest_stops s site machine more before stands told later end h =
    too_many_nested s before end machine stands more (marked_grows s marks.NestOpen site machine.walk before later end h)

-- a register gets a value at once, inside data_race( )
pub at_once_stops : (s : Setting) (site register : ℕ) (value : Pure) (data_race : Bool) (machine : Machine)
    → 2 ^ 32 < (context_of machine.checker).disable_count + so_often data_race
    → Stops s (StatementDue s (tree.assign data_race (tree.to_register register (tree.pure value))) site machine.walk) machine
at_once_stops s site register value data_race machine more before stands told later end h =
    let left = (at_once_left s machine.walk site register value data_race before later end []).0 h in
    let off : List Happening = before.progress.did ++ replicate (so_often data_race) (happenings.Mark marks.Disable) in
    let on : Begins off (off ++ replicate (so_often data_race) (happenings.Mark marks.Enable)) = (replicate (so_often data_race) (happenings.Mark marks.Enable), refl) in
    too_many_off s before end machine (so_often data_race) stands more (begins_on _ _ _ on (walk_grows s machine.walk _ later end [] left))

-- what follows on an access adds to what the task did
takes_grow : (s : Setting) (walk : Walk) (taker : Taker) (loaded : ℕ) (before : Standing) (records : List Record) (after : Standing) (rest : List Record)
    → TakerLeft s walk taker loaded before records after rest → GoesOn before after
takes_grow s walk nobody loaded before records after rest h = walk_grows s walk before records after rest h
takes_grow s walk (to_register register value data_race) loaded before records after rest h =
    let on : Begins before.progress.did (before.progress.did ++ replicate (so_often data_race) (happenings.Mark marks.Enable)) =
    (replicate (so_often data_race) (happenings.Mark marks.Enable), refl) in
    begins_on _ _ _ on (walk_grows s walk _ records after rest h)
takes_grow s walk (condition value) loaded before records after rest h = choice_grows s _ walk before records after rest h

follows_grow : (s : Setting) (walk : Walk) (follow : Follow) (effect : Effect) (before : Standing) (records : List Record) (after : Standing) (rest : List Record)
    → FollowLeft s walk follow effect before records after rest → GoesOn before after
follows_grow s walk goes_on effect before records after rest h = walk_grows s walk before records after rest h
follows_grow s walk marks_next effect before records after rest h =
    let on : Begins before.progress.did (before.progress.did ++ happenings.Mark (marks.Next 1) ∷ []) = (happenings.Mark (marks.Next 1) ∷ [], refl) in
    begins_on _ _ _ on (walk_grows s walk _ records after rest h)
follows_grow s walk (assigned data_race) effect before records after rest h =
    let on : Begins before.progress.did (before.progress.did ++ replicate (so_often data_race) (happenings.Mark marks.Enable)) =
    (replicate (so_often data_race) (happenings.Mark marks.Enable), refl) in
    begins_on _ _ _ on (walk_grows s walk _ records after rest h)
follows_grow s walk (loaded_by size data_races taker) effect before records after rest h =
    let on : Begins before.progress.did (before.progress.did ++ replicate data_races (happenings.Mark marks.Enable)) =
    (replicate data_races (happenings.Mark marks.Enable), refl) in
    begins_on _ _ _ on (takes_grow s walk taker _ _ records after rest h.2)

-- how often reports are off before an access
off_before : (follow : Follow) (before : Standing) (later : List Record)
    → (often : ℕ) × (disable_count follow ≤ often) × ((before_access follow before later).progress ≡ (disabled often before later).progress)
off_before goes_on before later = (0, omega arith, ap (λ (d : List Happening). record before.progress { did = d }) (sym (append-nil before.progress.did)))
off_before marks_next before later = (0, omega arith, ap (λ (d : List Happening). record before.progress { did = d }) (sym (append-nil before.progress.did)))
off_before (assigned data_race) before later = (so_often data_race, omega arith, refl)
off_before (loaded_by size data_races nobody) before later = (data_races, omega arith, refl)
off_before (loaded_by size data_races (condition value)) before later = (data_races, omega arith, refl)
off_before (loaded_by size data_races (to_register register value data_race)) before later =
    let off : Happening = happenings.Mark marks.Disable in
    let often : ℕ = so_often data_race in
    let both : (before.progress.did ++ replicate often off) ++ replicate data_races off ≡ before.progress.did ++ replicate (often + data_races) off =
    append_assoc before.progress.did (replicate often off) (replicate data_races off)
    ∙ ap (λ (l : List Happening). before.progress.did ++ l) (replicate-append-replicate often data_races off) in
    (often + data_races, omega arith, ap (λ (d : List Happening). record before.progress { did = d }) both)

-- the bytes of an access that operates lie in a cell
operated_cell : (operation : Option Operation) (s : settings.Setting) (a : access.Access) (records : List Record) (effect : Effect) (rest : List Record)
    → Operates s a operation records effect rest → HasCell s a operation
operated_cell None s a records effect rest h = tt
operated_cell (Some operation) s a records effect rest h = rw h.1 refl

-- an access that is planned
module _ (s : Setting) (walk : Walk) (site : ℕ) (plan : Plan) (before : Standing) (later : List Record) (end : Standing)
    (h : PlanLeft s walk site plan before later end []) where
  -- is what it is where its statement begins, and can begin
  plan_begins : (begun : Begun) × BeginsNow s (before_access plan.follow before later) (planned_access s before plan site) begun
  plan_begins =
      let off = off_before plan.follow before later in (
        h.3.begun,
        subst (λ (a : access.Access). BeginsNow s (before_access plan.follow before later) a h.3.begun)
            (sym (planned_still s plan site off.0 before (before_access plan.follow before later) later off.2)) h.3.begins,
      )

  pub plan_can : CanBegin (planned_access s before plan site)
  plan_can =
      let begins = plan_begins in
      (begins.1.own.in_limits, subst (λ (a : access.Access). 0 < a.size) begins.1.access begins.0.has_bytes)

  pub plan_cell : HasCell (checks_of s) (planned_access s before plan site) plan.operation
  plan_cell =
      let off = off_before plan.follow before later in
      subst (λ (a : access.Access). HasCell (checks_of s) a plan.operation)
      (sym (planned_still s plan site off.0 before (before_access plan.follow before later) later off.2))
      (operated_cell plan.operation (checks_of s) (planned_access s (before_access plan.follow before later) plan site) h.3.checked h.0 h.3.done h.3.operates)

  plan_grows : Begins (before_access plan.follow before later).progress.did end.progress.did
  plan_grows = begins_on _ _ _ (makes_grow s (before_access plan.follow before later) _ plan.operation later h.0 h.1 h.2 h.3)
      (follows_grow s walk plan.follow h.0 h.1 h.2 end [] h.4)

-- the access of a plan doesn't begin, or reports are turned off more often than there is room for
pub plan_stops : (s : Setting) (site : ℕ) (plan : Plan) (machine : Machine)
    → ((before : Standing) → Stands s before machine → ¬ (CanBegin (planned_access s before plan site) × HasCell (checks_of s) (planned_access s before plan site) plan.operation))
    → Stops s (PlanLeft s machine.walk site plan) machine
plan_stops s site plan machine never = stops_never s (PlanLeft s machine.walk site plan) machine
    (λ before stands later end h. never before stands (plan_can s machine.walk site plan before later end h, plan_cell s machine.walk site plan before later end h))

pub plan_stops_off : (s : Setting) (site : ℕ) (plan : Plan) (machine : Machine) → 2 ^ 32 < (context_of machine.checker).disable_count + disable_count plan.follow
    → Stops s (PlanLeft s machine.walk site plan) machine
plan_stops_off s site plan machine more before stands told later end h =
    let off = off_before plan.follow before later in
    let least = off.1 in
    too_many_off s before end machine off.0 stands (omega (arith, more, least))
    (subst (λ (p : meaning.Progress). Begins p.did end.progress.did) off.2 (plan_grows s machine.walk site plan before later end h))

-- a scoped assertion
pub opening_never : (s : Setting) (kind : Kind) (variable site : ℕ) (machine : Machine)
    → ((before : Standing) → Stands s before machine → ¬ CanBegin (scoped_access s.text site before.progress (record { kind = kind; variable = variable })))
    → Stops s (DueLeft s (dues.Opens kind variable site) machine.walk) machine
opening_never s kind variable site machine never = stops_never s (DueLeft s (dues.Opens kind variable site) machine.walk) machine
    (λ before stands later end h. never before stands
    (h.3.begins.own.in_limits, subst (λ (a : access.Access). 0 < a.size) h.3.begins.access h.0.has_bytes))

pub opening_stops : (s : Setting) (kind : Kind) (variable site : ℕ) (machine : Machine) → is_scoped kind ≡ true → 8 ≤ machine.in_force
    → Stops s (DueLeft s (dues.Opens kind variable site) machine.walk) machine
opening_stops s kind variable site machine is many before stands told later end h =
    let a : access.Access = scoped_access s.text site before.progress (record { kind = kind; variable = variable }) in
    let front : List Happening = before.progress.did ++ happenings.Begin a ∷ [] in
    let grown : Begins (h.1).progress.did end.progress.did = walk_grows s machine.walk h.1 h.2 end [] h.4 in
    let of_front : Begins front end.progress.did = subst (λ (d : List Happening). Begins d end.progress.did) (opens_grow s before a later h.0 h.1 h.2 h.3) grown in
    let more = one_more before.progress.did a is in
    let count = told.count in
    let kept = stands.counts.in_force in
    scopes front of_front.0 of_front.1 (omega (arith, more, count, kept, many))

-- one closes where none is in force
pub closing_never : (s : Setting) (machine : Machine) → machine.in_force ≡ 0 → Stops s (DueLeft s dues.Closes machine.walk) machine
closing_never s machine none = stops_never s (DueLeft s dues.Closes machine.walk) machine
    (λ before stands later end h.
    let long : length before.scopes ≡ length (h.2.0 ++ h.2.1 ∷ []) = ap (λ (l : List Begun). length l) h.2.2 in
    let both = length-append h.2.0 (h.2.1 ∷ []) in
    let kept = stands.counts.in_force in
    omega (arith, long, both, kept, none))

-- a lock that is none
pub locking_never : (s : Setting) (site variable : ℕ) (machine : Machine)
    → ¬ IsSomeAnd (slice_get machine.variables.now variable) (λ v. IsTrue (is_lock v.contents))
    → Stops s (StatementDue s (tree.call (calls.Lock variable)) site machine.walk) machine
locking_never s site variable machine none = stops_never s (StatementDue s (tree.call (calls.Lock variable)) site machine.walk) machine
    (λ before stands later end h. none
    (subst (λ (vs : List Variable). IsSomeAnd (slice_get vs variable) (λ v. IsTrue (is_lock v.contents))) (sym stands.of.variables) h.2.0))

-- what stops by its plan
module _ (s : Setting) (site : ℕ) (plan : Plan) (machine : Machine) where
  pub stops_load : (load : Load) (taker : Taker)
      → ((before : Standing) → Stands s before machine → plan ≡ load_plan s.text before.progress.registers load taker)
      → Stops s (PlanLeft s machine.walk site plan) machine → Stops s (LoadLeft s machine.walk site load taker) machine
  stops_load load taker planned stops = stops_as s (LoadLeft s machine.walk site load taker) (PlanLeft s machine.walk site plan) machine
      (λ before stands later end h. subst (λ (p : Plan). PlanLeft s machine.walk site p before later end []) (sym (planned before stands)) h) stops

  pub stops_assignment : (assignment : Assignment) (data_race : Bool)
      → ((before : Standing) → Stands s before machine → assignment_plan s.text before.progress.registers assignment data_race ≡ Some plan)
      → Stops s (PlanLeft s machine.walk site plan) machine → Stops s (StatementDue s (tree.assign data_race assignment) site machine.walk) machine
  stops_assignment assignment data_race planned stops =
      stops_as s (StatementDue s (tree.assign data_race assignment) site machine.walk) (PlanLeft s machine.walk site plan) machine
      (λ before stands later end h. (assignment_left s machine.walk site before later end [] assignment data_race plan (planned before stands)).0 h) stops

  pub stops_call : (call : Call) → ((before : Standing) → Stands s before machine → call_plan s.text call ≡ Some plan)
      → Stops s (PlanLeft s machine.walk site plan) machine → Stops s (StatementDue s (tree.call call) site machine.walk) machine
  stops_call call planned stops =
      stops_as s (StatementDue s (tree.call call) site machine.walk) (PlanLeft s machine.walk site plan) machine
      (λ before stands later end h. (call_left s machine.walk site before later end [] call plan (planned before stands)).0 h) stops

-- what stops a load stops the statement, the condition or the assignment that has it
module _ (s : Setting) (site : ℕ) (load : Load) (machine : Machine) where
  pub stops_load_only : Stops s (LoadLeft s machine.walk site load nobody) machine → Stops s (StatementDue s (tree.load_only load) site machine.walk) machine
  stops_load_only stops = stops_as s (StatementDue s (tree.load_only load) site machine.walk) (LoadLeft s machine.walk site load nobody) machine
      (λ before stands later end h. (load_left s machine.walk site load before later end []).0 h) stops

  pub stops_condition : (value : Loading) → load ≡ load_in value → Stops s (LoadLeft s machine.walk site load (condition value)) machine
      → Stops s (ConditionDue s (tree.loading value) site machine.walk) machine
  stops_condition value is stops = stops_as s (ConditionDue s (tree.loading value) site machine.walk) (LoadLeft s machine.walk site (load_in value) (condition value)) machine
      (λ before stands later end h. (condition_left s machine.walk site value before later end []).0 h)
      (subst (λ (l : Load). Stops s (LoadLeft s machine.walk site l (condition value)) machine) is stops)

  pub stops_register : (register : ℕ) (value : Loading) (data_race : Bool) → load ≡ load_in value
      → Stops s (LoadLeft s machine.walk site load (to_register register value data_race)) machine
      → Stops s (StatementDue s (tree.assign data_race (tree.to_register register (tree.loading value))) site machine.walk) machine
  stops_register register value data_race is stops =
      stops_as s (StatementDue s (tree.assign data_race (tree.to_register register (tree.loading value))) site machine.walk)
      (LoadLeft s machine.walk site (load_in value) (to_register register value data_race)) machine
      (λ before stands later end h. (register_left s machine.walk site register value data_race before later end []).0 h)
      (subst (λ (l : Load). Stops s (LoadLeft s machine.walk site l (to_register register value data_race)) machine) is stops)
