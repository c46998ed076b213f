-- Each part of a text as it begins.
use Rattle.std.proofs.Common.{◌≡◌, ◌≢◌, ◌↔◌, ◌∙◌, ◌+◌, ◌^◌, ◌++◌, ◌<◌, ◌≤◌, ◌||◌, ℕ, Bool, true}
use Rattle.std.proofs.Common.{false, MatchBool, IsSomeAnd, IsTrue, List, [], ◌∷◌, None, Option, Some, ap, append_assoc, arith, rules}
use Rattle.std.proofs.Common.{count_by, length, refl, replicate, slice_get, subst, sym}
use Rattle.std.proofs.lemmas.List.{append-nil, replicate-append-replicate}
use Rattle.access_run.specs.Leads.{AccessLeads, HasCell}
use Rattle.access_run.specs.Whole.{NoneWhole}
use Rattle.access_run.specs.declared.access.AccessRun.{AccessRun}
use Rattle.access_run.proofs.LeadsLemmas.{nothing_checked}
use Rattle.access_types.specs.Access as access
use Rattle.access_types.specs.Access.{IsInLimits, proper_mask}
use Rattle.access_types.specs.Marked.{CountsAfter}
use Rattle.access_types.specs.declared.history.Happening.{Happening}
use Rattle.access_types.specs.declared.history.Happening.TheVariants as happenings
use Rattle.access_types.specs.declared.history.Mark.TheVariants as marks
use Rattle.access_types.specs.declared.kind.Kind.{Kind}
use Rattle.litmus_semantics.specs.Calls.{scoped_access}
use Rattle.litmus_semantics.specs.Task as meaning
use Rattle.litmus_semantics.specs.Task.{begins_at, has_lock}
use Rattle.litmus_syntax.specs.Tree as tree
use Rattle.litmus_syntax.specs.declared.statement.Call.TheVariants as calls
use Rattle.access_run.specs.memory_operation.LockLeads.{LockLeads}
use Rattle.access_run.specs.declared.memory_operation.lock.LockWait.{LockWait}
use Rattle.setup_access.specs.Check.{ChecksOnce, Close, Fallen, Pass, Passes, Rechecks, fallen_of}
use Rattle.setup_access.specs.Checker.{Checks, Closes}
use Rattle.setup_access.specs.Leads as checks
use Rattle.setup_access.specs.OwnAccesses.{IsOwn}
use Rattle.setup_access.specs.Records.{MakesWord}
use Rattle.setup_access.specs.Setting as settings
use Rattle.setup_access.specs.Shown.{IsDecided, IsSilenced, context_of}
use Rattle.setup_access.specs.declared.begun.Begun.{Begun}
use Rattle.setup_access.specs.declared.checker.Checker.{Checker}
use Rattle.slot_table.specs.declared.records.Record.{Record}
use Rattle.slot_table.specs.declared.step.Step.TheVariants.{Clock}
use Rattle.task_context.specs.History.{Follows}
use Rattle.task_plan.proofs.KeepsLemmas.{begun_still, marks_other}
use Rattle.task_plan.specs.Counts.{up_to_last}
use Rattle.task_plan.specs.Follow.{Follow, assigned, condition, goes_on, loaded_by, marks_next, nobody, disable_count, so_often, to_register}
use Rattle.task_plan.specs.Keeps.{Keeps}
use Rattle.task_plan.specs.Plans.{planned_access}
use Rattle.task_plan.specs.Views.{Plan, follow_of}
use Rattle.task_plan.specs.declared.follow.Then.{Then}
use Rattle.task_plan.specs.declared.progress.Progress.{Progress}
use Rattle.task_run.proofs.AnswerLemmas.{counts_kept, of_kept}
use Rattle.task_run.proofs.CountsLemmas.{history_on}
use Rattle.task_run.proofs.EndLemmas.{begins_one}
use Rattle.task_run.proofs.FollowLemmas.{ends_standing}
use Rattle.task_run.proofs.PartLemmas.{lock_left, no_unlock_left, unlock_left}
use Rattle.task_run.proofs.StandsLemmas.{state_eq, stands_keeping}
use Rattle.task_run.proofs.ToldLemmas.{before_computes, counts_now, registers_more}
use Rattle.task_run.specs.Agrees.{Agrees, IsFit}
use Rattle.task_run.specs.Due.{PartBegins, StatementDue}
use Rattle.task_run.specs.Part.{PartLeft, before_access, closes, disabled, locks, makes, opens, over, stops, unlocks}
use Rattle.task_run.specs.Plans.{PlanLeft}
use Rattle.task_run.specs.Stands.{Stands}
use Rattle.task_run.specs.Stops.{Stops}
use Rattle.task_run.specs.Position.{nothing}
use Rattle.task_run.specs.declared.machine.Machine.{Machine}
use Rattle.task_run.specs.declared.stage.TaskStage.TheVariants as stages
use Rattle.program_order.specs.text_bounds.Scopes.{is_scoped}
use Rattle.task_plan.specs.Left.{DueLeft}
use Rattle.task_plan.specs.declared.due.Due.{Due}
use Rattle.task_plan.specs.declared.due.Due.TheVariants as dues
use Rattle.task_plan.specs.declared.walk.Walk.{Walk}
use Rattle.program_order.specs.Standing.{BeginsNow, Setting, Standing, checks_of, coming, counting, doing, is_lock, lock_number, moments, registered}

-- what is due is the part itself, or the text is over
pub begins_stopped : (s : Setting) (due : Due) (machine : Machine) → Stops s (DueLeft s due machine.walk) machine
    → PartBegins s (DueLeft s due machine.walk) machine machine (Some stages.Stopped)
begins_stopped s due machine why = λ before stands. (
  stops due,
  before,
  λ later. record {
    of = (stands later).of;
    counts = (stands later).counts;
    is_in = (refl, refl, (stands later).rests, why (before later) (stands later));
  },
  λ later end. (λ h. h, λ h. h),
  λ later. nothing,
)

pub begins_over : (s : Setting) (walk : Walk) (machine : Machine) → PartBegins s (DueLeft s dues.Ends walk) machine machine (Some stages.Over)
begins_over s walk machine = λ before stands. (
  over,
  before,
  λ later. record { of = (stands later).of; counts = (stands later).counts; is_in = (refl, refl, (stands later).rests) },
  λ later end. (λ h. h, λ h. h),
  λ later. nothing,
)

-- the tries of a lock
pub begins_locking : (s : Setting) (site variable : ℕ) (machine : Machine) (number : ℕ) (wait : LockWait)
    → IsSomeAnd (slice_get machine.variables.now variable) (λ v. IsTrue (is_lock v.contents))
    → ((before : Standing) → Stands s before machine → number ≡ lock_number s variable) → LockLeads machine.task number [] wait
    → PartBegins s (StatementDue s (tree.call (calls.Lock variable)) site machine.walk) machine machine (Some (stages.Locking wait variable))
begins_locking s site variable machine number wait there numbers leads = λ before stands. (
  locks variable,
  before,
  λ later. let is_numbered : number ≡ lock_number s variable = numbers (before later) (stands later) in record {
    of = (stands later).of;
    counts = (stands later).counts;
    is_in = (
      wait,
      refl,
      subst (λ vs. IsSomeAnd (slice_get vs variable) (λ v. IsTrue (is_lock v.contents))) (stands later).of.variables there,
      subst (λ (n : ℕ). LockLeads s.text.task n [] wait) is_numbered (subst (λ (t : ℕ). LockLeads t number [] wait) (stands later).of.task leads),
      (stands later).rests,
      λ taken. taken,
    );
  },
  λ later end. lock_left s machine.walk site variable (before later) later end [],
  λ later. nothing,
)

-- the step that gives a lock back
pub begins_unlocking : (s : Setting) (site variable : ℕ) (machine : Machine)
    → ((before : Standing) → Stands s before machine → has_lock variable before.progress.did ≡ true)
    → PartBegins s (StatementDue s (tree.call (calls.Unlock variable)) site machine.walk) machine machine (Some (stages.Unlocking variable))
begins_unlocking s site variable machine has = λ before stands. (
  unlocks variable,
  before,
  λ later. record { of = (stands later).of; counts = (stands later).counts; is_in = (refl, refl, (stands later).rests, has (before later) (stands later)) },
  λ later end. unlock_left s machine.walk site variable (before later) later end [] (has (before later) (stands later)),
  λ later. nothing,
)

-- there is none where the task hasn't the lock: the call is counted
pub ends_unlocking : (s : Setting) (site variable : ℕ) (machine after : Machine) → after.walk ≡ machine.walk
    → ((before : Standing) → Stands s before machine → has_lock variable before.progress.did ≡ false)
    → ((before : Standing) (later : List Record) → Stands s before machine → Stands s (coming (counting true before) later before.progress) after)
    → PartBegins s (StatementDue s (tree.call (calls.Unlock variable)) site machine.walk) machine after None
ends_unlocking s site variable machine after walk hasnt stands_on = λ before stands.
    ends_standing s (StatementDue s (tree.call (calls.Unlock variable)) site machine.walk) before
    (λ later. coming (counting true (before later)) later (before later).progress) machine.walk after walk
    (λ later end. no_unlock_left s machine.walk site variable (before later) later end [] (hasnt (before later) (stands later)))
    (λ later. stands_on (before later) later (stands later)) (λ later. counts_now later (before later))

-- a mask without a bit is no mask
pub proper : (mask : Option ℕ) → proper_mask mask ≢ Some 0
proper None is = let no : None ≡ Some 0 = is in cc
proper (Some mask) is = search (rules, is)

few_up : (count : ℕ) → up_to_last count ≤ 2 ^ 32 → up_to_last count ≡ count
few_up count few = omega (arith, few)

-- a count below the last is the count itself
pub few_rep : (kept count : ℕ) → kept ≡ up_to_last count → kept < 256 → kept ≡ count
few_rep kept count is few = omega (arith, is, few)

-- reports are off so often before an access
pub before_is : (follow : Follow) (before : Standing) (later : List Record) → disable_count follow ≤ 2 ^ 32
    → (before_access follow before later).progress ≡ (disabled (disable_count follow) before later).progress
before_is goes_on before later few = ap (λ (d : List Happening). record before.progress { did = d }) (sym (append-nil before.progress.did))
before_is marks_next before later few = ap (λ (d : List Happening). record before.progress { did = d }) (sym (append-nil before.progress.did))
before_is (assigned data_race) before later few = refl
before_is (loaded_by size data_races nobody) before later few =
    ap (λ (n : ℕ). (disabled n before later).progress) (let same = few_up (data_races + 0) few in omega (arith, same))
before_is (loaded_by size data_races (condition value)) before later few =
    ap (λ (n : ℕ). (disabled n before later).progress) (let same = few_up (data_races + 0) few in omega (arith, same))
before_is (loaded_by size data_races (to_register register value data_race)) before later few =
    let off : Happening = happenings.Mark marks.Disable in
    let often : ℕ = so_often data_race in
    let both : (before.progress.did ++ replicate often off) ++ replicate data_races off ≡ before.progress.did ++ replicate (often + data_races) off =
    append_assoc before.progress.did (replicate often off) (replicate data_races off)
    ∙ ap (λ (l : List Happening). before.progress.did ++ l) (replicate-append-replicate often data_races off) in
    let count : often + data_races ≡ up_to_last (data_races + often) = let same = few_up (data_races + often) few in omega (arith, same) in
    ap (λ (d : List Happening). record before.progress { did = d }) both ∙ ap (λ (n : ℕ). (disabled n before later).progress) count

before_unbalanced : (follow : Follow) (before : Standing) (later : List Record) → (before_access follow before later).unbalanced ≡ before.unbalanced
before_unbalanced goes_on before later = refl
before_unbalanced marks_next before later = refl
before_unbalanced (assigned data_race) before later = refl
before_unbalanced (loaded_by size data_races nobody) before later = refl
before_unbalanced (loaded_by size data_races (condition value)) before later = refl
before_unbalanced (loaded_by size data_races (to_register register value data_race)) before later = refl

before_scopes : (follow : Follow) (before : Standing) (later : List Record) → (before_access follow before later).scopes ≡ before.scopes
before_scopes goes_on before later = refl
before_scopes marks_next before later = refl
before_scopes (assigned data_race) before later = refl
before_scopes (loaded_by size data_races nobody) before later = refl
before_scopes (loaded_by size data_races (condition value)) before later = refl
before_scopes (loaded_by size data_races (to_register register value data_race)) before later = refl

before_asked : (follow : Follow) (before : Standing) (later : List Record) → (before_access follow before later).asked ≡ before.asked
before_asked goes_on before later = refl
before_asked marks_next before later = refl
before_asked (assigned data_race) before later = refl
before_asked (loaded_by size data_races nobody) before later = refl
before_asked (loaded_by size data_races (condition value)) before later = refl
before_asked (loaded_by size data_races (to_register register value data_race)) before later = refl

-- an access that is planned is the same before and after reports are turned off
pub planned_still : (s : Setting) (plan : Plan) (site count : ℕ) (before after : Standing) (later : List Record)
    → after.progress ≡ (disabled count before later).progress → planned_access s before plan site ≡ planned_access s after plan site
planned_still s plan site count before after later is =
    ap (λ (n : ℕ). record (planned_access s before plan site) { rep = n })
    (sym (begun_still site before.progress.did (replicate count (happenings.Mark marks.Disable)) (marks_other count marks.Disable))
    ∙ ap (λ (p : meaning.Progress). count_by (begins_at site) p.did) (sym is))

-- an access begins
module _ (s : Setting) (site : ℕ) (plan : Plan) (a : access.Access) (old off : Machine) (progress : Progress) (checker : Checker) (begun : Begun) (run : AccessRun)
    (kept : Then) (is_kept : follow_of kept ≡ plan.follow) (fit : IsFit plan.follow plan.operation) (few : disable_count plan.follow ≤ 2 ^ 32) (walk : off.walk ≡ old.walk)
    (at_site : a.site ≡ site) (in_limits : IsInLimits a) (of_access : begun.access ≡ a)
    (is_planned : (before : Standing) → Stands s before old → a ≡ planned_access s before plan site)
    (is_off : (before : Standing) (later : List Record) → Stands s before old → Stands s (disabled (disable_count plan.follow) before later) off)
    (cell : HasCell (checks_of s) a plan.operation)
    (counts_it : (variables : ℕ) (before : Standing) (later : List Record) → Keeps variables before off.progress → Keeps variables (doing before later (happenings.Begin a ∷ [])) progress)
    (decides : (scopes : List Begun) (asked : ℕ) (last : Option Begun) → checks.Rests (checks_of s) scopes asked last off.checker → IsOwn (checks_of s) a
    → HasCell (checks_of s) a plan.operation
    → IsDecided (checks_of s) (context_of off.checker) begun × AccessLeads (checks_of s) scopes begun asked plan.operation [] run checker)
    (follows : (scopes : List Begun) (asked : ℕ) (last : Option Begun) → checks.Rests (checks_of s) scopes asked last off.checker → IsOwn (checks_of s) a
    → Follows s.rules.plain_writes_atomic s.text.task (context_of off.checker) (happenings.Begin a) (context_of checker))
    (decided : Begun) (decides_it : (before : Standing) → Stands s before off → IsOwn (checks_of s) a → BeginsNow s before a decided) where
  abbrev final : Machine
  final = record off { progress = progress; checker = checker; begins = Some decided }

  pub begins_making : PartBegins s (PlanLeft s old.walk site plan) old final (Some (stages.Making run kept))
  begins_making = λ before stands. (
    makes a plan.operation plan.follow,
    λ later. before_access plan.follow (before later) later,
    λ later. agrees (before later) later (stands later),
    λ later end. subst (λ (x : access.Access). PlanLeft s old.walk site plan (before later) later end []
        ↔ PartLeft s (makes x plan.operation plan.follow) off.walk (before_access plan.follow (before later) later) later end [])
        (sym (a_now (before later) later (stands later)))
        (subst (λ (w : Walk). PlanLeft s old.walk site plan (before later) later end []
        ↔ PartLeft s (makes (planned_access s (before_access plan.follow (before later) later) plan site) plan.operation plan.follow) w
        (before_access plan.follow (before later) later) later end []) (sym walk) (λ h. h, λ h. h)),
    λ later. before_computes plan.follow later (before later),
  )
    where
      a_now : (before : Standing) (later : List Record) → Stands s before old → a ≡ planned_access s (before_access plan.follow before later) plan site
      a_now before later stands = is_planned before stands
          ∙ planned_still s plan site (disable_count plan.follow) before (before_access plan.follow before later) later (before_is plan.follow before later few)

      now_stands : (before : Standing) (later : List Record) → Stands s before old → Stands s (before_access plan.follow before later) off
      now_stands before later stands =
          state_eq s (disabled (disable_count plan.follow) before later) (before_access plan.follow before later) off (before_is plan.follow before later few)
          (before_unbalanced plan.follow before later) (before_scopes plan.follow before later) (before_asked plan.follow before later) (is_off before later stands)

      own : (before : Standing) (later : List Record) → Stands s before old → IsOwn (checks_of s) a
      own before later stands = record {
        task = ap (λ (x : access.Access). x.task) (a_now before later stands);
        in_limits = in_limits;
        mask = subst (λ (x : access.Access). x.mask ≢ Some 0) (sym (a_now before later stands)) (proper plan.mask);
      }

      agrees : (before : Standing) (later : List Record) → Stands s before old
          → Agrees s (makes a plan.operation plan.follow) (before_access plan.follow before later) [] final (stages.Making run kept)
      agrees before later stands =
          let now = before_access plan.follow before later in
          let there = now_stands before later stands in
          let mine = own before later stands in
          let begins = decides now.scopes now.asked there.rests.0 there.rests.1 mine cell in
          let now_begins : BeginsNow s now a begun = record {
            own = mine;
            access = of_access;
            marked = subst (λ (x : access.Access). IsTrue begun.marked ↔ CountsAfter s.rules.plain_writes_atomic x (moments s now)) of_access
                (begins.0.marked (moments s now) there.counts.context);
            silenced = begins.0.silenced (moments s now) there.counts.context;
          } in
          record {
            of = record {
              task = there.of.task;
              rules = there.of.rules;
              variables = there.of.variables;
              layout = there.of.layout;
              sites = there.of.sites;
            };
            counts = record {
              keeps = counts_it (length s.text.variables) now [] there.counts.keeps;
              context = history_on s.rules.plain_writes_atomic s.text.task now.progress.did (happenings.Begin a) (context_of off.checker) (context_of checker)
                  there.counts.context (follows now.scopes now.asked there.rests.0 there.rests.1 mine);
              in_force = there.counts.in_force;
            };
            is_in = (
              run,
              kept,
              begun,
              refl,
              is_kept,
              fit,
              now_begins,
              begins.1,
              λ done. done.2.check.2,
              ap (λ (b : Begun). Some b) (begins_one s now a decided begun (decides_it now there mine) now_begins),
              subst (λ (n : ℕ). a.rep ≡ count_by (begins_at n) now.progress.did) (sym at_site)
                  (ap (λ (x : access.Access). x.rep) (a_now before later stands)),
            );
          }

-- the last of a list that has one
last_one : {A : Type 0} (list : List A) → length list ≢ 0 → (earlier : List A) × (last : A) × (list ≡ earlier ++ last ∷ [])
last_one [] some = absurd (some refl)
last_one (only ∷ []) some = ([], only, refl)
last_one (first ∷ second ∷ more) some =
    let later = last_one (second ∷ more) (λ none. search (rules, none)) in (first ∷ later.0, later.1, ap (λ l. first ∷ l) later.2)

-- a close has a step
rechecks_none : (s : settings.Setting) (scope : Begun) (silent : Bool) (asked : ℕ) (passes : Passes) (rest : List Record)
    → MatchBool silent (Rechecks s [] asked [] passes rest) ((pass : Pass) × (later : List Record) × (more : List Fallen)
    × ChecksOnce s scope.access scope.marked asked [] pass later × Rechecks s [] pass.asked later (record { outcomes = more; asked = passes.asked }) rest
    × (passes.outcomes ≡ fallen_of scope.access pass ∷ more)) → rest ≡ []
rechecks_none s scope true asked passes rest h = h.1
rechecks_none s scope false asked passes rest h = absurd h.3.2

nothing_closed : (s : settings.Setting) (scope : Begun) (silenced : Bool) (asked : ℕ) → NoneWhole (Close s scope silenced asked) []
nothing_closed s scope silenced asked [] later passes e h =
    let closing : Begun = record scope { silenced = scope.silenced || silenced } in
    let over : h.1.0 ≡ [] = rechecks_none s closing closing.silenced asked passes h.1.0 h.1.1 in
    subst (λ (l : List Record). MakesWord s.task Clock (λ stamp after. [] ≡ after) l) over h.1.2
nothing_closed s scope silenced asked (one ∷ part) later passes e h = absurd (let no : [] ≡ one ∷ (part ++ later) = e in cc)

-- the last check of the newest scoped assertion in force
pub begins_closing : (s : Setting) (machine : Machine) (checker : Checker) → machine.in_force ≢ 0
    → ((scopes : List Begun) (scope : Begun) (asked : ℕ) (last : Option Begun) → checks.Rests (checks_of s) (scopes ++ scope ∷ []) asked last machine.checker
    → (silenced : Bool) × IsSilenced (checks_of s) (context_of machine.checker) (IsTrue silenced) × checks.Leads (checks_of s) scopes (Closes scope silenced) asked [] checker)
    → context_of checker ≡ context_of machine.checker
    → PartBegins s (DueLeft s dues.Closes machine.walk) machine (record machine { checker = checker }) (Some stages.Closing)
begins_closing s machine checker some closes_it context = λ before stands. (
  closes,
  before,
  λ later. agrees (before later) (stands later),
  λ later end. (λ h. h, λ h. h),
  λ later. nothing,
)
  where
    agrees : (before : Standing) → Stands s before machine → Agrees s closes before [] (record machine { checker = checker }) stages.Closing
    agrees before stands =
        let newest = last_one before.scopes (λ none. some (stands.counts.in_force ∙ none)) in
        let begun = closes_it newest.0 newest.1 before.asked stands.rests.0
        (subst (λ (l : List Begun). checks.Rests (checks_of s) l before.asked stands.rests.0 machine.checker) newest.2 stands.rests.1) in record {
          of = of_kept s machine (record machine { checker = checker }) refl stands.of;
          counts = counts_kept s machine (record machine { checker = checker }) refl before context stands.counts;
          is_in = (
            newest.0,
            newest.1,
            begun.0,
            refl,
            newest.2,
            begun.1 (moments s before) stands.counts.context,
            begun.2,
            nothing_closed (checks_of s) newest.1 begun.0 before.asked,
          );
        }

-- the check of a scoped assertion
pub begins_opening : (s : Setting) (kind : Kind) (variable site : ℕ) (a : access.Access) (machine : Machine) (progress : Progress) (checker : Checker) (begun : Begun)
    → is_scoped kind ≡ true → IsInLimits a → a.mask ≢ Some 0 → begun.access ≡ a → machine.in_force < 8
    → ((before : Standing) → Stands s before machine → a ≡ scoped_access s.text site before.progress (record { kind = kind; variable = variable }))
    → ((variables : ℕ) (before : Standing) (later : List Record) → Keeps variables before machine.progress → Keeps variables (doing before later (happenings.Begin a ∷ [])) progress)
    → ((scopes : List Begun) (asked : ℕ) (last : Option Begun) → checks.Rests (checks_of s) scopes asked last machine.checker → IsOwn (checks_of s) a
    → IsDecided (checks_of s) (context_of machine.checker) begun × checks.Leads (checks_of s) scopes (Checks begun) asked [] checker)
    → ((scopes : List Begun) (asked : ℕ) (last : Option Begun) → checks.Rests (checks_of s) scopes asked last machine.checker → IsOwn (checks_of s) a
    → Follows s.rules.plain_writes_atomic s.text.task (context_of machine.checker) (happenings.Begin a) (context_of checker))
    → (decided : Begun) → ((before : Standing) → Stands s before machine → IsOwn (checks_of s) a → BeginsNow s before a decided)
    → PartBegins s (DueLeft s (dues.Opens kind variable site) machine.walk) machine
    (record machine { progress = progress; checker = checker; begins = Some decided }) (Some stages.Opening)
begins_opening s kind variable site a machine progress checker begun scope in_limits mask of_access room planned counts_it decides follows decided decides_it = λ before stands. (
  opens a,
  before,
  λ later. agrees (before later) (stands later),
  λ later end. subst (λ (x : access.Access). DueLeft s (dues.Opens kind variable site) machine.walk (before later) later end []
      ↔ PartLeft s (opens x) machine.walk (before later) later end []) (sym (planned (before later) (stands later))) (λ h. h, λ h. h),
  λ later. nothing,
)
  where
    agrees : (before : Standing) → Stands s before machine
        → Agrees s (opens a) before [] (record machine { progress = progress; checker = checker; begins = Some decided }) stages.Opening
    agrees before stands =
        let own : IsOwn (checks_of s) a = record {
          task = ap (λ (x : access.Access). x.task) (planned before stands);
          in_limits = in_limits;
          mask = mask;
        } in
        let begins = decides before.scopes before.asked stands.rests.0 stands.rests.1 own in
        let now_begins : BeginsNow s before a begun = record {
          own = own;
          access = of_access;
          marked = subst (λ (x : access.Access). IsTrue begun.marked ↔ CountsAfter s.rules.plain_writes_atomic x (moments s before)) of_access
              (begins.0.marked (moments s before) stands.counts.context);
          silenced = begins.0.silenced (moments s before) stands.counts.context;
        } in record {
          of = record {
            task = stands.of.task;
            rules = stands.of.rules;
            variables = stands.of.variables;
            layout = stands.of.layout;
            sites = stands.of.sites;
          };
          counts = record {
            keeps = counts_it (length s.text.variables) before [] stands.counts.keeps;
            context = history_on s.rules.plain_writes_atomic s.text.task before.progress.did (happenings.Begin a) (context_of machine.checker) (context_of checker)
                stands.counts.context (follows before.scopes before.asked stands.rests.0 stands.rests.1 own);
            in_force = stands.counts.in_force;
          };
          is_in = (
            begun,
            refl,
            now_begins,
            subst (λ (n : ℕ). n < 8) stands.counts.in_force room,
            begins.1,
            nothing_checked (checks_of s) before.scopes begun before.asked,
            ap (λ (b : Begun). Some b) (begins_one s before a decided begun (decides_it before stands own) now_begins),
            ap (λ (x : access.Access). is_scoped x.kind) (planned before stands) ∙ scope,
            subst (λ (n : ℕ). a.rep ≡ count_by (begins_at n) before.progress.did) (sym (ap (λ (x : access.Access). x.site) (planned before stands)))
                (ap (λ (x : access.Access). x.rep) (planned before stands)),
          );
        }

-- a loop's register gets its number
pub ends_setting : (s : Setting) (register value : ℕ) (machine : Machine) (progress : Progress)
    → ((variables : ℕ) (before : Standing) (later : List Record) → Keeps variables before machine.progress → Keeps variables (registered before later register value) progress)
    → PartBegins s (DueLeft s (dues.Sets register value) machine.walk) machine (record machine { progress = progress }) None
ends_setting s register value machine progress keeps = λ before stands.
    ends_standing s (DueLeft s (dues.Sets register value) machine.walk) before (λ later. registered (before later) later register value) machine.walk
    (record machine { progress = progress }) refl (λ later end. (λ h. h, λ h. h))
    (λ later. stands_keeping s (before later) (registered (before later) later register value) machine progress refl refl refl
    (keeps (length s.text.variables) (before later) later (stands later).counts.keeps) (stands later))
    (λ later. registers_more later (before later) (before later) register value nothing)

-- a block is left
pub ends_leaving : (s : Setting) (machine : Machine) → PartBegins s (DueLeft s dues.Leaves machine.walk) machine machine None
ends_leaving s machine = λ before stands.
    ends_standing s (DueLeft s dues.Leaves machine.walk) before before machine.walk machine refl (λ later end. (λ h. h, λ h. h)) stands
    (λ later. nothing)
