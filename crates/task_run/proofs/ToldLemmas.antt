-- Where a task stands is told by its way after what it computes, and after each part of its text.
use Rattle.std.proofs.Common.{◌≡◌, ◌≤◌, ◌++◌, ◌∷◌, [], ℕ, zero, suc, Bool, true, false, List, None, Option, Some, ap, arith, drop, le_refl, length, refl, replicate, sym}
use Rattle.std.proofs.lemmas.List.{append-nil, length-append}
use Rattle.access_types.specs.Access as access
use Rattle.access_types.specs.declared.history.Happening.{Happening}
use Rattle.access_types.specs.declared.history.Happening.TheVariants as happenings
use Rattle.access_types.specs.declared.history.Mark.{Mark}
use Rattle.access_types.specs.declared.history.Mark.TheVariants as marks
use Rattle.litmus_semantics.specs.Task as meaning
use Rattle.access_run.specs.memory_operation.Effects.{read_moments}
use Rattle.access_run.specs.memory_operation.Operations.{Operates}
use Rattle.access_run.specs.declared.memory_operation.effect.Effect.{Effect}
use Rattle.access_run.specs.declared.memory_operation.operation.Operation.{Operation}
use Rattle.access_run.specs.declared.memory_operation.operation.Operation.TheVariants as operations
use Rattle.setup_access.specs.Check.{Fallen}
use Rattle.setup_access.specs.Fallen.{followed}
use Rattle.setup_access.specs.Setting as settings
use Rattle.setup_access.specs.declared.begun.Begun.{Begun}
use Rattle.slot_table.specs.declared.records.Record.{Record}
use Rattle.task_plan.specs.Follow.{Follow, assigned, condition, goes_on, loaded_by, marks_next, nobody, so_often, to_register}
use Rattle.task_run.specs.Part.{before_access}
use Rattle.task_run.specs.Position.{AreOfNoBound, AllFellFrom, AllFrom, Computes, IsTold, last_of, nothing, one_more}
use Rattle.program_order.specs.Access.{operated}
use Rattle.program_order.specs.Standing.{Point, Standing, coming, counting, doing, registered}
use Rattle.program_order.specs.WrittenOrder.{at_first, first_point}

-- what is computed at once
pub does_more : (later : List Record) (before between : Standing) (does : List Happening) → AreOfNoBound does → Computes later before between
    → Computes later before (doing between later does)
does_more later before between does none so_far = one_more between false (meaning.doing between.progress does) does refl none so_far

pub does_now : (later : List Record) (before : Standing) (does : List Happening) → AreOfNoBound does → Computes later before (doing before later does)
does_now later before does none = does_more later before before does none nothing

-- marks begin and end no access
pub of_marks : (count : ℕ) (m : Mark) → AreOfNoBound (replicate count (happenings.Mark m))
of_marks zero m = tt
of_marks (suc count) m = (refl, of_marks count m)

pub marks_more : (later : List Record) (before between : Standing) (count : ℕ) (m : Mark) → Computes later before between
    → Computes later before (doing between later (replicate count (happenings.Mark m)))
marks_more later before between count m so_far = does_more later before between (replicate count (happenings.Mark m)) (of_marks count m) so_far

pub marks_now : (later : List Record) (before : Standing) (count : ℕ) (m : Mark) → Computes later before (doing before later (replicate count (happenings.Mark m)))
marks_now later before count m = marks_more later before before count m nothing

pub counts_more : (later : List Record) (before : Standing) (ends_nothing : Bool) (does : List Happening) → AreOfNoBound does
    → Computes later before (doing (counting ends_nothing before) later does)
counts_more later before true does none = one_more before true (meaning.doing before.progress does) does refl none nothing
counts_more later before false does none = does_now later before does none

pub counts_now : (later : List Record) (before : Standing) → Computes later before (coming (counting true before) later before.progress)
counts_now later before = one_more before true before.progress [] (sym (append-nil before.progress.did)) tt nothing

pub registers_more : (later : List Record) (before between : Standing) (register value : ℕ) → Computes later before between
    → Computes later before (registered between later register value)
registers_more later before between register value so_far =
    one_more between false (meaning.assigning between.progress register value) [] (sym (append-nil between.progress.did)) tt so_far

pub computes_both : {later : List Record} {before between after : Standing} → Computes later before between → Computes later between after
    → Computes later before after
computes_both first nothing = first
computes_both first (one_more between ends_nothing progress does same none so_far) = one_more between ends_nothing progress does same none (computes_both first so_far)

pub before_computes : (follow : Follow) (later : List Record) (before : Standing) → Computes later before (before_access follow before later)
before_computes goes_on later before = nothing
before_computes marks_next later before = nothing
before_computes (assigned data_race) later before = marks_now later before (so_often data_race) marks.Disable
before_computes (loaded_by size data_races nobody) later before = marks_now later before data_races marks.Disable
before_computes (loaded_by size data_races (condition value)) later before = marks_now later before data_races marks.Disable
before_computes (loaded_by size data_races (to_register register value data_race)) later before =
    marks_more later before _ data_races marks.Disable (marks_now later before (so_often data_race) marks.Disable)

points_both : (count : ℕ) (one other : List Point) → AllFrom count one → AllFrom count other → AllFrom count (one ++ other)
points_both count [] other first second = second
points_both count (point ∷ points) other first second = (first.0, points_both count points other first.1 second)

pub fewer_points : (count few : ℕ) (points : List Point) → few ≤ count → AllFrom count points → AllFrom few points
fewer_points count few [] less all = tt
fewer_points count few (point ∷ points) less all = let more = all.0 in (omega (arith, less, more), fewer_points count few points less all.1)

outcomes_both : (count : ℕ) (one other : List Fallen) → AllFellFrom count one → AllFellFrom count other → AllFellFrom count (one ++ other)
outcomes_both count [] other first second = second
outcomes_both count (fallen ∷ others) other first second = (first.0, outcomes_both count others other first.1 second)

fewer_outcomes : (count few : ℕ) (outcomes : List Fallen) → few ≤ count → AllFellFrom count outcomes → AllFellFrom few outcomes
fewer_outcomes count few [] less all = tt
fewer_outcomes count few (fallen ∷ others) less all = let more = all.0 in (omega (arith, less, more), fewer_outcomes count few others less all.1)

followed_fell : (later : List Record) (outcomes : List Fallen) → AllFellFrom (length later) (followed later outcomes)
followed_fell later [] = tt
followed_fell later (fallen ∷ others) =
    let all = length-append fallen.later later in (omega (arith, all), followed_fell later others)

last_with : (last : Point) (points : List Point) (one : Point) → last_of last (points ++ one ∷ []) ≡ one
last_with last [] one = refl
last_with last (next ∷ points) one = last_with next points one

module _ (registers : ℕ) where
  pub first_told : (later : List Record) → IsTold registers later (at_first registers)
  first_told later = record { points = tt; outcomes = tt; progress = λ n. refl; unbalanced = λ n. refl }

  -- so it is with fewer records to come
  sooner : (wide later : List Record) (before : Standing) → length later ≤ length wide → IsTold registers wide before → IsTold registers later before
  sooner wide later before less told = record {
    points = fewer_points (length wide) (length later) before.way less told.points;
    outcomes = fewer_outcomes (length wide) (length later) before.outcomes less told.outcomes;
    progress = told.progress;
    unbalanced = told.unbalanced;
  }

  -- where it comes then, it stands
  come_told : (later at : List Record) (before : Standing) (progress : meaning.Progress) → length later ≤ length at
      → AllFrom (length later) before.way → AllFellFrom (length later) before.outcomes → IsTold registers later (coming before at progress)
  come_told later at before progress less points outcomes =
      let one : Point = record { to_come = length at; progress = progress; unbalanced = before.unbalanced } in record {
        points = points_both (length later) before.way (one ∷ []) points (less, tt);
        outcomes = outcomes;
        progress = λ n. ap (λ (p : Point). p.progress) (last_with (first_point n registers) before.way one);
        unbalanced = λ n. ap (λ (p : Point). p.unbalanced) (last_with (first_point n registers) before.way one);
      }

  counted_told : (later : List Record) (before : Standing) (ends_nothing : Bool) (progress : meaning.Progress) → IsTold registers later before
      → IsTold registers later (coming (counting ends_nothing before) later progress)
  counted_told later before true progress told =
      come_told later later (counting true before) progress (le_refl (length later)) told.points told.outcomes
  counted_told later before false progress told = come_told later later before progress (le_refl (length later)) told.points told.outcomes

  pub told_on : {later : List Record} {before after : Standing} → Computes later before after → IsTold registers later before
      → IsTold registers later after
  told_on nothing told = told
  told_on {later = later} (one_more between ends_nothing progress does same none so_far) told =
      counted_told later between ends_nothing progress (told_on so_far told)

  -- an operation on memory
  made_told : (s : settings.Setting) (a own : access.Access) (operation : Option Operation) (before : Standing) (checked done later : List Record) (effect : Effect)
      (rest : List Record) → Operates s own operation checked effect rest → IsTold registers later before
      → IsTold registers later (operated a operation before (checked ++ later) effect (done ++ later))
  made_told s a own None before checked done later effect rest h told = told
  made_told s a own (Some operations.Load) before checked done later effect rest h told =
      let long = length-append done later in
      come_told later (done ++ later) before _ (omega (arith, long)) told.points told.outcomes
  made_told s a own (Some (operations.Change change)) before checked done later effect rest h told =
      let long = length-append done later in
      come_told later (done ++ later) before _ (omega (arith, long)) told.points told.outcomes
  made_told s a own (Some (operations.Add amount)) before [] done later effect rest h told = absurd h.2
  made_told s a own (Some (operations.Add amount)) before (first ∷ checked) done later effect rest h told =
      let long = length-append done later in
      let read_long = length-append checked later in
      let read : Standing = doing before (checked ++ later) (read_moments a effect.read) in
      let there : IsTold registers later read = come_told later (checked ++ later) before _ (omega (arith, read_long)) told.points told.outcomes in
      come_told later (done ++ later) read _ (omega (arith, long)) there.points there.outcomes

  one_fewer : (mine : List Record) (made : Record) (later : List Record) → length later ≤ length (drop 1 ((mine ++ made ∷ []) ++ later))
  one_fewer [] made later = le_refl (length later)
  one_fewer (first ∷ mine) made later = let long = length-append (mine ++ made ∷ []) later in omega (arith, long)

  wider : (mine later : List Record) → length later ≤ length (mine ++ later)
  wider mine later = let long = length-append mine later in omega (arith, long)

  -- after one thing that a task does with its step
  pub done_told : (mine : List Record) (before : Standing) (later : List Record) (happening : Happening) → IsTold registers (mine ++ later) before
      → IsTold registers later (doing before later (happening ∷ []))
  done_told mine before later happening told =
      let there = sooner (mine ++ later) later before (wider mine later) told in
      come_told later later before _ (le_refl (length later)) there.points there.outcomes

  -- after an access
  pub access_told : (s : settings.Setting) (a own : access.Access) (operation : Option Operation) (before : Standing) (mine : List Record) (made : Record)
      (checked done later : List Record) (effect : Effect) (rest : List Record) (fallen : List Fallen) (asked : ℕ)
      → Operates s own operation checked effect rest → IsTold registers ((mine ++ made ∷ []) ++ later) before
      → let began : Standing = doing before (drop 1 ((mine ++ made ∷ []) ++ later)) (happenings.Begin a ∷ []) in
      IsTold registers later (record (doing (operated a operation began (checked ++ later) effect (done ++ later)) later (happenings.End a ∷ []))
      { asked = asked; outcomes = before.outcomes ++ followed later fallen })
  access_told s a own operation before mine made checked done later effect rest fallen asked h told =
      let all : List Record = (mine ++ made ∷ []) ++ later in
      let there = sooner all later before (wider (mine ++ made ∷ []) later) told in
      let began : Standing = doing before (drop 1 all) (happenings.Begin a ∷ []) in
      let at_begin : IsTold registers later began = come_told later (drop 1 all) before _ (one_fewer mine made later) there.points there.outcomes in
      let at_end : IsTold registers later (operated a operation began (checked ++ later) effect (done ++ later)) =
      made_told s a own operation began checked done later effect rest h at_begin in
      let ended : IsTold registers later (doing (operated a operation began (checked ++ later) effect (done ++ later)) later (happenings.End a ∷ [])) =
      come_told later later (operated a operation began (checked ++ later) effect (done ++ later)) _ (le_refl (length later)) at_end.points at_end.outcomes in
      record {
        points = ended.points;
        outcomes = outcomes_both (length later) before.outcomes (followed later fallen) there.outcomes (followed_fell later fallen);
        progress = ended.progress;
        unbalanced = ended.unbalanced;
      }

  -- after the check of a scoped assertion
  pub opening_told : (a : access.Access) (begun : Begun) (before : Standing) (mine : List Record) (made : Record) (later : List Record) (fallen : List Fallen)
      (asked : ℕ) → IsTold registers ((mine ++ made ∷ []) ++ later) before
      → IsTold registers later (record (doing before (drop 1 ((mine ++ made ∷ []) ++ later)) (happenings.Begin a ∷ []))
      { asked = asked; scopes = before.scopes ++ begun ∷ []; outcomes = before.outcomes ++ followed later fallen })
  opening_told a begun before mine made later fallen asked told =
      let all : List Record = (mine ++ made ∷ []) ++ later in
      let there = sooner all later before (wider (mine ++ made ∷ []) later) told in
      let began : IsTold registers later (doing before (drop 1 all) (happenings.Begin a ∷ [])) =
      come_told later (drop 1 all) before _ (one_fewer mine made later) there.points there.outcomes in record {
        points = began.points;
        outcomes = outcomes_both (length later) before.outcomes (followed later fallen) there.outcomes (followed_fell later fallen);
        progress = began.progress;
        unbalanced = began.unbalanced;
      }

  -- after its last check
  pub closing_told : (a : access.Access) (scopes : List Begun) (before : Standing) (mine later : List Record) (fallen : List Fallen) (asked : ℕ)
      → IsTold registers (mine ++ later) before
      → IsTold registers later (record (doing before later (happenings.End a ∷ []))
      { asked = asked; scopes = scopes; outcomes = before.outcomes ++ followed later fallen })
  closing_told a scopes before mine later fallen asked told =
      let there = sooner (mine ++ later) later before (wider mine later) told in
      let ended = done_told mine before later (happenings.End a) told in record {
        points = ended.points;
        outcomes = outcomes_both (length later) before.outcomes (followed later fallen) there.outcomes (followed_fell later fallen);
        progress = ended.progress;
        unbalanced = ended.unbalanced;
      }
