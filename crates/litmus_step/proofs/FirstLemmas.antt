-- The list without a step is one of each run.
use Rattle.std.proofs.Common.{◌≡◌, ◌≤◌, ◌<◌, ◌^◌, ◌∙◌, ◌∷◌, ◌++◌, [], ℕ, zero, suc, Bool, List, Option, None, Some, IsSomeAnd, ap, arith}
use Rattle.std.proofs.Common.{count_by, get_or, inl, inr, length, map, refl, slice_get, subst, sym}
use Rattle.std.proofs.lemmas.Option.{get_or_from_slice_get, slice_get_cases}
use mathlib.Core.Path.{fun_ext}
use Rattle.std.specs.FinMap as finite
use Rattle.std.specs.Cmp.{nat_cmp_total}
use Rattle.access_types.specs.Access.{Access}
use Rattle.access_types.specs.Sites.{AccessMap}
use Rattle.litmus_semantics.specs.Layout as layout
use Rattle.litmus_semantics.specs.RunOfProgram.{setting_of}
use Rattle.litmus_semantics.specs.TextSites.{IsOfText}
use Rattle.litmus_syntax.specs.Limits.{KeepsLimits, TaskKeepsLimits}
use Rattle.litmus_syntax.specs.Tree.{Program, Task, empty}
use Rattle.litmus_syntax.specs.Views.{block_of, program_of, task_of as syntax_task_of}
use Rattle.litmus_syntax.specs.declared.program.Contents.{Contents}
use Rattle.litmus_syntax.specs.declared.program.Contents.TheVariants.{Atomic, Char, Int, Lock, Long, Short}
use Rattle.litmus_syntax.specs.declared.program.Program.{Program as CodeProgram}
use Rattle.litmus_syntax.specs.declared.program.Task.{Task as CodeTask}
use Rattle.litmus_syntax.specs.declared.program.Variable.{Variable}
use Rattle.prepared_program.specs.program_layout.Lays as lays
use Rattle.prepared_program.specs.program_layout.Places.{AreFit, places_of}
use Rattle.prepared_program.specs.declared.program_layout.place.Place.{Place}
use Rattle.prepared_program.specs.program_sites.Sites as sites
use Rattle.prepared_program.specs.program_sites.Sites.{AreSitesOf}
use Rattle.executions.specs.execution.Run.{AreItsSites, IsOfProgram, Run, idle, task_of, task_setting}
use Rattle.executions.specs.execution.Execution.{InWrittenOrder, Execution}
use Rattle.task_plan.specs.task_laws.Fits.{ArePlaced}
use Rattle.litmus_step.specs.Leads.{LeadsTask}
use Rattle.litmus_step.specs.Runs.{CanBeMade, run_of, tasks_of}
use Rattle.prepared_program.specs.declared.program_sites.settings.Settings.{Settings}
use Rattle.task_run.specs.Leads as task_run
use Rattle.task_run.specs.declared.run.TaskRun.{TaskRun}
use Rattle.program_order.specs.Standing as standing
use Rattle.program_order.specs.Standing.{Setting}
use Rattle.slot_table.specs.declared.records.Record.{Record}
use Rattle.program_order.specs.WrittenOrder.{SpellsAll, WrittenOrder, at_first}

-- the variables of a program are placed for each of its tasks
abbrev pub ArePlacedInTasks : Type 0
ArePlacedInTasks = (program : Program) (places : List Place) → KeepsLimits program → AreFit program.variables places
    → (s : Setting) (number : ℕ) → number < length program.tasks → s.text ≡ setting_of program (places_of places) number
    → ArePlaced s

-- a task that has made no step is in the written order
abbrev pub AreSpelled : Type 0
AreSpelled = (s : Setting) (task : Task) → ArePlaced s → TaskKeepsLimits s.text.variables task
    → WrittenOrder s (length task.registers) task.body []

pub first_can : ArePlacedInTasks → (run : Run) (places : List Place) → KeepsLimits run.program → run.places ≡ places_of places
    → AreFit run.program.variables places → 3 ≤ run.rules.slots → run.rules.turns < 2 ^ 64 → CanBeMade run
first_can placed run places limits are fit slots turns = record {
  limits = limits;
  placed = λ task below. placed run.program places limits fit (task_setting run task) task below
      (ap (λ (p : List layout.VariablePlace). setting_of run.program p task) are);
  slots = slots;
  turns = turns;
}

-- past the last task there is none that does anything
pub past : (run : Run) (task : ℕ) → tasks_of run ≤ task → task_of run task ≡ idle
past run task beyond = over run.program.tasks task beyond
  where
    over : (tasks : List Task) (at : ℕ) → length tasks ≤ at → get_or tasks at idle ≡ idle
    over [] at beyond = refl
    over (first ∷ later) zero beyond = absurd (omega (arith, beyond))
    over (first ∷ later) (suc at) beyond = over later at (omega (arith, beyond))

within : (task : Task) (s : Setting) → task ≡ idle → WrittenOrder s (length task.registers) task.body []
within task s is = subst (λ (t : Task). WrittenOrder s (length t.registers) t.body []) (sym is)
    (record { more = []; whole = record { end = at_first 0; steps = (refl, refl) } })

-- a task that does nothing has made no step, and has ended
pub idle_has_ended : (s : Setting) (task : Task) (records : List Record) → task ≡ idle
    → WrittenOrder s (length task.registers) task.body records → SpellsAll s (length task.registers) task.body records
idle_has_ended s task records is =
    subst (λ (t : Task). WrittenOrder s (length t.registers) t.body records → SpellsAll s (length t.registers) t.body records)
    (sym is) (λ w. subst (SpellsAll s 0 empty) (all_made records w.more w.whole.steps.1) w.whole)
  where
    all_made : (made more : List Record) → [] ≡ made ++ more → made ++ more ≡ made
    all_made [] [] none = refl
    all_made [] (later ∷ more) none = absurd (cc)
    all_made (made ∷ rest) more none = absurd (cc)

in_order : AreSpelled → (run : Run) → CanBeMade run → (task : ℕ) → InWrittenOrder run task []
in_order spelled run can task =
    elim (slice_get_cases run.program.tasks task).1 [
      | inl there ↦ spelled (task_setting run task) (task_of run task) (can.placed task there.1) (can.limits.each_task task idle there.1)
      | inr beyond ↦ within (task_of run task) (task_setting run task) (past run task beyond.0)
    ]

-- the access of a task that is there is one of the run's, and there is no other
pub of_task : (run : Run) (a : Access) → IsOfProgram run a → sites.IsOfProgram run.program run.places a
of_task run a of =
    elim (slice_get_cases run.program.tasks a.task).1 [
      | inl there ↦ is_there run a (slice_get run.program.tasks a.task) there.0 there.2
          (subst (λ (t : Task). IsOfText (setting_of run.program run.places a.task) t.body a)
          (get_or_from_slice_get run.program.tasks a.task there.0 idle there.2) of)
      | inr beyond ↦ absurd (no_site (subst (λ (t : Task). IsOfText (setting_of run.program run.places a.task) t.body a)
          (past run a.task beyond.0) of))
    ]
  where
    is_there : (r : Run) (b : Access) (found : Option Task) (task : Task) → found ≡ Some task
        → IsOfText (setting_of r.program r.places b.task) task.body b
        → IsSomeAnd found (λ t. IsOfText (setting_of r.program r.places b.task) t.body b)
    is_there r b None task found h = absurd (cc)
    is_there r b (Some other) task found h =
        subst (λ (t : Task). IsOfText (setting_of r.program r.places b.task) t.body b) (sym (same_task other task found)) h
      where
        same_task : (x y : Task) → Some x ≡ Some y → x ≡ y
        same_task x y e = cc

    no_site : IsOfText (setting_of run.program run.places a.task) idle.body a → ⊥
    no_site h = let no = h.stands in absurd (cc)

of_program : (run : Run) (a : Access) → sites.IsOfProgram run.program run.places a → IsOfProgram run a
of_program run a of = from (slice_get run.program.tasks a.task) refl of
  where
    from : (found : Option Task) → slice_get run.program.tasks a.task ≡ found
        → IsSomeAnd found (λ t. IsOfText (setting_of run.program run.places a.task) t.body a) → IsOfProgram run a
    from None is h = absurd h
    from (Some task) is h = subst (λ (t : Task). IsOfText (setting_of run.program run.places a.task) t.body a)
        (sym (get_or_from_slice_get run.program.tasks a.task task idle is)) h

its_sites : (run : Run) → AreSitesOf run.program run.places run.sites → AreItsSites run
its_sites run are = λ ticket a. (
  λ stands. let of = are.each ticket a stands in (sym of.1, of_program run a of.0),
  λ of. subst (λ t. finite.get run.sites t ≡ Some a) (sym of.0) (are.all a (of_task run a of.1)),
)

pub first_list : AreSpelled → (run : Run) → CanBeMade run → AreSitesOf run.program run.places run.sites → Execution run []
first_list spelled run can are = record {
  legal = tt;
  tasks = in_order spelled run can;
  within = λ task. tt;
  sites = its_sites run are;
}

-- two maps that have exactly the accesses of a program are one
pub same_sites : (program : Program) (places : List layout.VariablePlace) (one other : AccessMap) → AreSitesOf program places one
    → AreSitesOf program places other → one ≡ other
same_sites program places one other is_one is_other =
    finite.same_map nat_cmp_total finite.nat_cmp-IsAntisymmetric one other
    (λ ticket. alike ticket (finite.get one ticket) refl (finite.get other ticket) refl)
  where
    found : (x y : AccessMap) → AreSitesOf program places x → AreSitesOf program places y → (ticket : ℕ) (a : Access)
        → finite.get x ticket ≡ Some a → finite.get y ticket ≡ Some a
    found x y is_x is_y ticket a stands =
        let of = is_x.each ticket a stands in
        subst (λ t. finite.get y t ≡ Some a) of.1 (is_y.all a of.0)

    alike : (ticket : ℕ) (here : Option Access) → finite.get one ticket ≡ here → (there : Option Access)
        → finite.get other ticket ≡ there → finite.get one ticket ≡ finite.get other ticket
    alike ticket (Some a) here there is = here ∙ sym (found one other is_one is_other ticket a here)
    alike ticket None here (Some b) is = found other one is_other is_one ticket b is ∙ sym is
    alike ticket None here None is = here ∙ sym is

some_same : {X : Type 0} (one other : X) → Some one ≡ Some other → one ≡ other
some_same one other same = cc

-- what is so of each at its place, and of one more, is so of each with it
pub each_push : {X : Type 0} (P : ℕ → X → Type 0) (xs : List X) (x : X)
    → ((at : ℕ) (y : X) → slice_get xs at ≡ Some y → P at y) → P (length xs) x
    → (at : ℕ) (y : X) → slice_get (xs ++ x ∷ []) at ≡ Some y → P at y
each_push P [] x all here zero y is = subst (P zero) (some_same x y is) here
each_push P [] x all here (suc at) y is = absurd (cc)
each_push P (first ∷ later) x all here zero y is = all zero y is
each_push P (first ∷ later) x all here (suc at) y is = each_push (λ n z. P (suc n) z) later x (λ n z. all (suc n) z) here at y is

at_map : {X Y : Type 0} (f : X → Y) (xs : List X) (at : ℕ) (x : X) (d : Y) → slice_get xs at ≡ Some x → get_or (map f xs) at d ≡ f x
at_map f [] at x d is = absurd (cc)
at_map f (first ∷ later) zero x d is = ap f (some_same first x is)
at_map f (first ∷ later) (suc at) x d is = at_map f later at x d is

-- the task of a number, and the accesses that tickets name, are those of the run
pub first_leads : (program : CodeProgram) (settings : Settings) (number : ℕ) (task : CodeTask) (own sites : AccessMap) (machine : TaskRun)
    → slice_get program.tasks number ≡ Some task
    → AreSitesOf (program_of program) (places_of settings.places.items) own
    → AreSitesOf (program_of program) (places_of settings.places.items) sites
    → task_run.Leads (task_setting (run_of program settings own) number) (length task.registers) (block_of task.body.items) [] machine
    → LeadsTask (run_of program settings sites) number [] machine
first_leads program settings number task own sites machine is are_own are leads =
    subst (λ (t : Task). task_run.Leads (task_setting (run_of program settings sites) number) (length t.registers) t.body [] machine)
    (sym (at_map syntax_task_of program.tasks number task idle is))
    (subst (λ (m : AccessMap). task_run.Leads (task_setting (run_of program settings m) number) (length task.registers)
    (block_of task.body.items) [] machine)
    (same_sites (program_of program) (places_of settings.places.items) own sites are_own are) leads)

-- a variable is a lock by the one word as by the other
pub same_locks : (variables : List Variable)
    → count_by lays.is_lock variables ≡ count_by (λ (v : Variable). standing.is_lock v.contents) variables
same_locks variables = ap (λ (p : Variable → Bool). count_by p variables) (fun_ext (λ (v : Variable). same v.contents))
  where
    same : (contents : Contents) → lays.holds_lock contents ≡ standing.is_lock contents
    same (Char n) = refl
    same (Short n) = refl
    same (Int n) = refl
    same (Long n) = refl
    same (Atomic n) = refl
    same Lock = refl
