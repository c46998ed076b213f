-- What a task's machine tells of its next step.
use Rattle.std.specs.Option.{is_some}
use Rattle.std.proofs.Common.{◌≡◌, ◌↔◌, ◌∙◌, ℕ, Bool, IsFalse, IsTrue, List, [], ◌∷◌, None, Option, ap, false, not, refl, subst, sym, true}
use Rattle.access_types.specs.Access as access
use Rattle.access_run.specs.declared.memory_operation.operation.Operation.{Operation}
use Rattle.setup_access.specs.declared.begun.Begun.{Begun}
use Rattle.slot_table.specs.declared.records.Record.{Record}
use Rattle.task_plan.specs.Follow.{Follow}
use Rattle.task_run.specs.Agrees.{IsIn, begins_now}
use Rattle.litmus_syntax.specs.Tree.{Block}
use Rattle.task_run.specs.Leads.{BeginsNext, Leads}
use Rattle.task_run.specs.Part.{Part, closes, locks, makes, opens, over, stops, unlocks}
use Rattle.task_run.specs.declared.machine.Machine.{Machine}
use Rattle.task_run.specs.declared.news.News.{News}
use Rattle.task_run.specs.declared.run.TaskRun.{TaskRun}
use Rattle.task_run.specs.declared.stage.TaskStage.{TaskStage}
use Rattle.task_run.specs.declared.stage.TaskStage.TheVariants as stages
use Rattle.program_order.specs.Standing.{BeginsNow, Setting, Standing}

-- no access begins in this stage
abbrev pub IsQuiet : TaskStage → Type 0
IsQuiet (stages.Making run kept) = ⊥
IsQuiet stages.Opening = ⊥
IsQuiet stage = Unit {0}

module _ (s : Setting) (before : Standing) where
  -- the begin of an access is the next step as long as it has no record
  pub making_begins : (a : access.Access) (operation : Option Operation) (follow : Follow) (begun : Begun) (mine : List Record) (next : Option Begun)
      → BeginsNow s before a begun → next ≡ begins_now begun mine → BeginsNext s (makes a operation follow) before mine next
  making_begins a operation follow begun [] next begins is = (begun, is, begins)
  making_begins a operation follow begun (first ∷ later) next begins is = is

  pub opening_begins : (a : access.Access) (begun : Begun) (mine : List Record) (next : Option Begun)
      → BeginsNow s before a begun → next ≡ begins_now begun mine → BeginsNext s (opens a) before mine next
  opening_begins a begun [] next begins is = (begun, is, begins)
  opening_begins a begun (first ∷ later) next begins is = is

  pub none_begins : (mine : List Record) (machine : Machine) (stage : TaskStage) (part : Part) → IsIn s part before mine machine stage → IsQuiet stage
      → BeginsNext s part before mine None
  none_begins mine machine stage (makes a operation follow) h quiet = absurd (subst (λ (x : TaskStage). IsQuiet x) h.3 quiet)
  none_begins mine machine stage (opens a) h quiet = absurd (subst (λ (x : TaskStage). IsQuiet x) h.1 quiet)
  none_begins mine machine stage over h quiet = refl
  none_begins mine machine stage (stops due) h quiet = refl
  none_begins mine machine stage closes h quiet = refl
  none_begins mine machine stage (locks variable) h quiet = refl
  none_begins mine machine stage (unlocks variable) h quiet = refl

-- what is kept of the last steps is apart from where it is
pub keeping : (s : Setting) (registers : ℕ) (body : Block) (records : List Record) (run : TaskRun) (news : News)
    → Leads s registers body records run → Leads s registers body records (record run { news = news })
keeping s registers body records run news leads = record {
  part = leads.part;
  earlier = leads.earlier;
  mine = leads.mine;
  spelled = leads.spelled;
  now = leads.now;
  waits = leads.waits;
  told = leads.told;
  scopes = leads.scopes;
  accesses = leads.accesses;
  repeats = leads.repeats;
  agrees = leads.agrees;
  left = leads.left;
}

pub not_heard : (enabled : Bool) → IsTrue (not enabled) ↔ IsFalse enabled
not_heard true = (λ h. sym h, λ h. sym h)
not_heard false = (λ h. refl, λ h. refl)

-- what begins next is one thing
pub begins_alike : (s : Setting) (part : Part) (before : Standing) (mine : List Record) (one other : Option Begun) → BeginsNext s part before mine one
    → BeginsNext s part before mine other → is_some one ≡ is_some other
begins_alike s (makes a operation follow) before [] one other first second =
    ap (λ (o : Option Begun). is_some o) first.1 ∙ sym (ap (λ (o : Option Begun). is_some o) second.1)
begins_alike s (opens a) before [] one other first second =
    ap (λ (o : Option Begun). is_some o) first.1 ∙ sym (ap (λ (o : Option Begun). is_some o) second.1)
begins_alike s (makes a operation follow) before (made ∷ later) one other first second = ap (λ (o : Option Begun). is_some o) (first ∙ sym second)
begins_alike s (opens a) before (made ∷ later) one other first second = ap (λ (o : Option Begun). is_some o) (first ∙ sym second)
begins_alike s over before mine one other first second = ap (λ (o : Option Begun). is_some o) (first ∙ sym second)
begins_alike s (stops due) before mine one other first second = ap (λ (o : Option Begun). is_some o) (first ∙ sym second)
begins_alike s closes before mine one other first second = ap (λ (o : Option Begun). is_some o) (first ∙ sym second)
begins_alike s (locks variable) before mine one other first second = ap (λ (o : Option Begun). is_some o) (first ∙ sym second)
begins_alike s (unlocks variable) before mine one other first second = ap (λ (o : Option Begun). is_some o) (first ∙ sym second)
