-- A step of which a log says nothing leaves what is kept as it is, and what begins by it is no matter.
use Rattle.std.proofs.Common.{◌≡◌, ◌≤◌, ◌∙◌, ◌∷◌, ◌++◌, [], ℕ, Bool, IsTrue, List, None, Option, Some, ap, false, length, not, refl, slice_get, slice_set, subst, suc, sym, true, zero}
use Rattle.std.specs.Option.{is_some}
use Rattle.access_types.specs.declared.report.Report.{Report}
use Rattle.litmus_step.proofs.MakeLemmas.{SaysBegin}
use Rattle.litmus_step.specs.Kept.{IsNotedIn}
use Rattle.litmus_step.specs.Unlogged.{is_unlogged}
use Rattle.setup_access.specs.declared.begun.Begun.{Begun}
use Rattle.setup_access.specs.declared.outcome.Outcome.{Outcome}
use Rattle.slot_table.specs.declared.step.Answer.{Answer}
use Rattle.slot_table.specs.declared.step.Step.{Step}
use Rattle.slot_table.specs.declared.step.Step.TheVariants as steps
use Rattle.task_log.specs.Arms.{arms_of, takes_of}
use Rattle.task_log.specs.Counters.{Count}
use Rattle.task_log.specs.Keeps.{IsLatest, Keeps}
use Rattle.task_log.specs.Touches.{touches_of}
use Rattle.task_log.specs.declared.counters.Counters.{Counters}
use Rattle.task_log.specs.declared.latest.Latest.{Latest}
use Rattle.task_log.specs.declared.log.TaskLog.{TaskLog}
use Rattle.task_log.specs.declared.noted.Noted.{Noted}
use Rattle.task_plan.specs.Views.{follow_of}
use Rattle.task_run.proofs.LeadsLemmas.{agrees_in}
use Rattle.task_run.proofs.StageLemmas.{in_making, in_opening}
use Rattle.task_run.proofs.TellLemmas.{IsQuiet, making_begins, none_begins, opening_begins}
use Rattle.task_run.specs.Leads.{BeginsNext}
use Rattle.task_run.specs.Part.{Part, makes, opens}
use Rattle.task_run.specs.declared.run.TaskRun.{TaskRun}
use Rattle.task_run.specs.declared.stage.TaskStage.{TaskStage}
use Rattle.task_run.specs.declared.stage.TaskStage.TheVariants as stages

abbrev pub noted_as : Step → Answer → Option Begun → Option Outcome → Noted
noted_as step answer begins fell = record { step = step; answer = answer; begins = begins; outcome = fell }

never : IsTrue false → ⊥
never set = let bad : false ≡ true = set in cc

-- what is kept of a list, where another says the same
again : (accesses watches : ℕ) (own other : List Noted) (log : TaskLog) → touches_of other ≡ touches_of own → arms_of other ≡ arms_of own
    → takes_of other ≡ takes_of own → (IsLatest own log.latest → IsLatest other log.latest) → (Count own log.counters → Count other log.counters)
    → Keeps accesses watches own log → Keeps accesses watches other log
again accesses watches own other log touches arms takes latest counts keeps = record {
  touches = λ few. keeps.touches (subst (λ l. length l ≤ accesses) touches few) ∙ sym touches;
  arms = λ few. keeps.arms (subst (λ l. length l ≤ watches) arms few) ∙ sym arms;
  armings = keeps.armings;
  takes = λ few. keeps.takes (subst (λ l. length l ≤ watches) takes few) ∙ sym takes;
  latest = latest keeps.latest;
  counts = counts keeps.counts;
  room_for_accesses = keeps.room_for_accesses;
  room_for_arms = keeps.room_for_arms;
  room_for_takes = keeps.room_for_takes;
}

-- what is kept, with such a step more at which nothing falls
still : (step : Step) (answer : Answer) (begins : Option Begun) (accesses watches : ℕ) (own : List Noted) (log : TaskLog) → IsTrue (is_unlogged step)
    → Keeps accesses watches own log → Keeps accesses watches (noted_as step answer begins None ∷ own) log
still (steps.Load index) answer begins accesses watches own log is = again accesses watches own (noted_as (steps.Load index) answer begins None ∷ own) log refl refl refl
    (λ latest. record { named = latest.named; armed = latest.armed; became = latest.became })
    (λ counts. record {
      arms = counts.arms;
      quiet = counts.quiet;
      taken = counts.taken;
      lost = counts.lost;
      two_sided = counts.two_sided;
      unknown = counts.unknown;
      encoding = counts.encoding;
      same = counts.same;
      masked = counts.masked;
      capacity = counts.capacity;
      unencodable = counts.unencodable;
    })
still (steps.Insert index word) answer begins accesses watches own log is = absurd (never is)
still (steps.TryConsume index word) answer begins accesses watches own log is = absurd (never is)
still (steps.Consume index) answer begins accesses watches own log is = absurd (never is)
still (steps.Remove index) answer begins accesses watches own log is = absurd (never is)
still (steps.PairLoad index) answer begins accesses watches own log is = again accesses watches own (noted_as (steps.PairLoad index) answer begins None ∷ own) log refl refl refl
    (λ latest. record { named = latest.named; armed = latest.armed; became = latest.became })
    (λ counts. record {
      arms = counts.arms;
      quiet = counts.quiet;
      taken = counts.taken;
      lost = counts.lost;
      two_sided = counts.two_sided;
      unknown = counts.unknown;
      encoding = counts.encoding;
      same = counts.same;
      masked = counts.masked;
      capacity = counts.capacity;
      unencodable = counts.unencodable;
    })
still (steps.Name index half) answer begins accesses watches own log is = absurd (never is)
still (steps.Tell index half) answer begins accesses watches own log is = absurd (never is)
still (steps.Clear index) answer begins accesses watches own log is = absurd (never is)
still (steps.CellLoad cell) answer begins accesses watches own log is = again accesses watches own (noted_as (steps.CellLoad cell) answer begins None ∷ own) log refl refl refl
    (λ latest. record { named = latest.named; armed = latest.armed; became = latest.became })
    (λ counts. record {
      arms = counts.arms;
      quiet = counts.quiet;
      taken = counts.taken;
      lost = counts.lost;
      two_sided = counts.two_sided;
      unknown = counts.unknown;
      encoding = counts.encoding;
      same = counts.same;
      masked = counts.masked;
      capacity = counts.capacity;
      unencodable = counts.unencodable;
    })
still (steps.CellExchange cell seen new) answer begins accesses watches own log is = again accesses watches own (noted_as (steps.CellExchange cell seen new) answer begins None ∷ own) log refl refl refl
    (λ latest. record { named = latest.named; armed = latest.armed; became = latest.became })
    (λ counts. record {
      arms = counts.arms;
      quiet = counts.quiet;
      taken = counts.taken;
      lost = counts.lost;
      two_sided = counts.two_sided;
      unknown = counts.unknown;
      encoding = counts.encoding;
      same = counts.same;
      masked = counts.masked;
      capacity = counts.capacity;
      unencodable = counts.unencodable;
    })
still (steps.LockTry lock place) answer begins accesses watches own log is = again accesses watches own (noted_as (steps.LockTry lock place) answer begins None ∷ own) log refl refl refl
    (λ latest. record { named = latest.named; armed = latest.armed; became = latest.became })
    (λ counts. record {
      arms = counts.arms;
      quiet = counts.quiet;
      taken = counts.taken;
      lost = counts.lost;
      two_sided = counts.two_sided;
      unknown = counts.unknown;
      encoding = counts.encoding;
      same = counts.same;
      masked = counts.masked;
      capacity = counts.capacity;
      unencodable = counts.unencodable;
    })
still (steps.LockStore lock) answer begins accesses watches own log is = again accesses watches own (noted_as (steps.LockStore lock) answer begins None ∷ own) log refl refl refl
    (λ latest. record { named = latest.named; armed = latest.armed; became = latest.became })
    (λ counts. record {
      arms = counts.arms;
      quiet = counts.quiet;
      taken = counts.taken;
      lost = counts.lost;
      two_sided = counts.two_sided;
      unknown = counts.unknown;
      encoding = counts.encoding;
      same = counts.same;
      masked = counts.masked;
      capacity = counts.capacity;
      unencodable = counts.unencodable;
    })
still steps.Clock answer begins accesses watches own log is = absurd (never is)

-- and with such a step more by which another access begins
instead : (step : Step) (answer : Answer) (one other : Option Begun) (fell : Option Outcome) (accesses watches : ℕ) (own : List Noted) (log : TaskLog)
    → IsTrue (is_unlogged step) → Keeps accesses watches (noted_as step answer one fell ∷ own) log
    → Keeps accesses watches (noted_as step answer other fell ∷ own) log
instead (steps.Load index) answer one other fell accesses watches own log is = again accesses watches (noted_as (steps.Load index) answer one fell ∷ own)
    (noted_as (steps.Load index) answer other fell ∷ own) log refl refl refl
    (λ latest. record { named = latest.named; armed = latest.armed; became = latest.became })
    (λ counts. record {
      arms = counts.arms;
      quiet = counts.quiet;
      taken = counts.taken;
      lost = counts.lost;
      two_sided = counts.two_sided;
      unknown = counts.unknown;
      encoding = counts.encoding;
      same = counts.same;
      masked = counts.masked;
      capacity = counts.capacity;
      unencodable = counts.unencodable;
    })
instead (steps.Insert index word) answer one other fell accesses watches own log is = absurd (never is)
instead (steps.TryConsume index word) answer one other fell accesses watches own log is = absurd (never is)
instead (steps.Consume index) answer one other fell accesses watches own log is = absurd (never is)
instead (steps.Remove index) answer one other fell accesses watches own log is = absurd (never is)
instead (steps.PairLoad index) answer one other fell accesses watches own log is = again accesses watches (noted_as (steps.PairLoad index) answer one fell ∷ own)
    (noted_as (steps.PairLoad index) answer other fell ∷ own) log refl refl refl
    (λ latest. record { named = latest.named; armed = latest.armed; became = latest.became })
    (λ counts. record {
      arms = counts.arms;
      quiet = counts.quiet;
      taken = counts.taken;
      lost = counts.lost;
      two_sided = counts.two_sided;
      unknown = counts.unknown;
      encoding = counts.encoding;
      same = counts.same;
      masked = counts.masked;
      capacity = counts.capacity;
      unencodable = counts.unencodable;
    })
instead (steps.Name index half) answer one other fell accesses watches own log is = absurd (never is)
instead (steps.Tell index half) answer one other fell accesses watches own log is = absurd (never is)
instead (steps.Clear index) answer one other fell accesses watches own log is = absurd (never is)
instead (steps.CellLoad cell) answer one other fell accesses watches own log is = again accesses watches (noted_as (steps.CellLoad cell) answer one fell ∷ own)
    (noted_as (steps.CellLoad cell) answer other fell ∷ own) log refl refl refl
    (λ latest. record { named = latest.named; armed = latest.armed; became = latest.became })
    (λ counts. record {
      arms = counts.arms;
      quiet = counts.quiet;
      taken = counts.taken;
      lost = counts.lost;
      two_sided = counts.two_sided;
      unknown = counts.unknown;
      encoding = counts.encoding;
      same = counts.same;
      masked = counts.masked;
      capacity = counts.capacity;
      unencodable = counts.unencodable;
    })
instead (steps.CellExchange cell seen new) answer one other fell accesses watches own log is = again accesses watches (noted_as (steps.CellExchange cell seen new) answer one fell ∷ own)
    (noted_as (steps.CellExchange cell seen new) answer other fell ∷ own) log refl refl refl
    (λ latest. record { named = latest.named; armed = latest.armed; became = latest.became })
    (λ counts. record {
      arms = counts.arms;
      quiet = counts.quiet;
      taken = counts.taken;
      lost = counts.lost;
      two_sided = counts.two_sided;
      unknown = counts.unknown;
      encoding = counts.encoding;
      same = counts.same;
      masked = counts.masked;
      capacity = counts.capacity;
      unencodable = counts.unencodable;
    })
instead (steps.LockTry lock place) answer one other fell accesses watches own log is = again accesses watches (noted_as (steps.LockTry lock place) answer one fell ∷ own)
    (noted_as (steps.LockTry lock place) answer other fell ∷ own) log refl refl refl
    (λ latest. record { named = latest.named; armed = latest.armed; became = latest.became })
    (λ counts. record {
      arms = counts.arms;
      quiet = counts.quiet;
      taken = counts.taken;
      lost = counts.lost;
      two_sided = counts.two_sided;
      unknown = counts.unknown;
      encoding = counts.encoding;
      same = counts.same;
      masked = counts.masked;
      capacity = counts.capacity;
      unencodable = counts.unencodable;
    })
instead (steps.LockStore lock) answer one other fell accesses watches own log is = again accesses watches (noted_as (steps.LockStore lock) answer one fell ∷ own)
    (noted_as (steps.LockStore lock) answer other fell ∷ own) log refl refl refl
    (λ latest. record { named = latest.named; armed = latest.armed; became = latest.became })
    (λ counts. record {
      arms = counts.arms;
      quiet = counts.quiet;
      taken = counts.taken;
      lost = counts.lost;
      two_sided = counts.two_sided;
      unknown = counts.unknown;
      encoding = counts.encoding;
      same = counts.same;
      masked = counts.masked;
      capacity = counts.capacity;
      unencodable = counts.unencodable;
    })
instead steps.Clock answer one other fell accesses watches own log is = absurd (never is)

-- such a step, at which nothing falls, is noted in a log as it is
pub noted_still : (step : Step) (answer : Answer) (begins : Option Begun) (log : TaskLog) → IsTrue (is_unlogged step)
    → IsNotedIn log (noted_as step answer begins None) log None
noted_still step answer begins log is = record {
  keeps = λ accesses watches own keeps. still step answer begins accesses watches own log is keeps;
  reported = λ accesses watches own keeps. refl;
}

-- whichever access begins by such a step, it is noted so
pub noted_instead : (step : Step) (answer : Answer) (one other : Option Begun) (fell : Option Outcome) (log after : TaskLog) (report : Option Report)
    → IsTrue (is_unlogged step) → IsNotedIn log (noted_as step answer one fell) after report → IsNotedIn log (noted_as step answer other fell) after report
noted_instead step answer one other fell log after report is noted = record {
  keeps = λ accesses watches own keeps. instead step answer one other fell accesses watches own after is (noted.keeps accesses watches own keeps);
  reported = noted.reported;
}

-- nothing fell, where that is said
pub none_fell : (fell : Option Outcome) (none : Bool) → is_some fell ≡ not none → none ≡ true → fell ≡ None
none_fell None none is so = refl
none_fell (Some outcome) none is so = absurd (let bad : true ≡ false = is ∙ ap not so in cc)

-- what is there already, put there once more
pub set_back : {A : Type 0} (all : List A) (at : ℕ) (one : A) → slice_get all at ≡ Some one → slice_set all at one ≡ all
set_back [] at one stands = refl
set_back (first ∷ later) zero one stands = ap (λ read. read ∷ later) (sym (let same : first ≡ one = cc in same))
set_back (first ∷ later) (suc at) one stands = ap (λ read. first ∷ read) (set_back later at one stands)

-- the access that begins with a machine's next step
abbrev begins_of : TaskStage → Option Begun → Option Begun
begins_of (stages.Making access kept) begins = begins
begins_of stages.Opening begins = begins
begins_of stages.Closing begins = None
begins_of (stages.Locking wait variable) begins = None
begins_of (stages.Unlocking variable) begins = None
begins_of stages.Over begins = None
begins_of stages.Stopped begins = None

none_told : (machine : TaskRun) → IsQuiet machine.stage → SaysBegin machine None
none_told machine quiet = λ s registers body records leads later.
    none_begins s (leads.now (leads.mine ++ later)) leads.mine machine.machine machine.stage leads.part
    (leads.agrees (leads.mine ++ later)).is_in quiet

begins_told : (machine : TaskRun) (stage : TaskStage) → machine.stage ≡ stage → SaysBegin machine (begins_of stage machine.machine.begins)
begins_told machine (stages.Making access kept) is = λ s registers body records leads later.
    let before = leads.now (leads.mine ++ later) in
    let part = in_making s before leads.mine machine.machine machine.stage leads.part (leads.agrees (leads.mine ++ later)).is_in access kept is in
    let is_in = (agrees_in s registers body records machine leads (makes part.0 part.1 (follow_of kept)) part.2 (leads.mine ++ later)).is_in in
    subst (λ (p : Part). BeginsNext s p before leads.mine machine.machine.begins) (sym part.2)
    (making_begins s before part.0 part.1 (follow_of kept) is_in.2 leads.mine machine.machine.begins is_in.6 is_in.9)
begins_told machine stages.Opening is = λ s registers body records leads later.
    let before = leads.now (leads.mine ++ later) in
    let part = in_opening s before leads.mine machine.machine machine.stage leads.part (leads.agrees (leads.mine ++ later)).is_in is in
    let is_in = (agrees_in s registers body records machine leads (opens part.0) part.1 (leads.mine ++ later)).is_in in
    subst (λ (p : Part). BeginsNext s p before leads.mine machine.machine.begins) (sym part.1)
    (opening_begins s before part.0 is_in.0 leads.mine machine.machine.begins is_in.2 is_in.6)
begins_told machine stages.Closing is = none_told machine (subst (λ (x : TaskStage). IsQuiet x) (sym is) tt)
begins_told machine (stages.Locking wait variable) is = none_told machine (subst (λ (x : TaskStage). IsQuiet x) (sym is) tt)
begins_told machine (stages.Unlocking variable) is = none_told machine (subst (λ (x : TaskStage). IsQuiet x) (sym is) tt)
begins_told machine stages.Over is = none_told machine (subst (λ (x : TaskStage). IsQuiet x) (sym is) tt)
begins_told machine stages.Stopped is = none_told machine (subst (λ (x : TaskStage). IsQuiet x) (sym is) tt)

-- some access begins with the next step of a machine, or none does
pub some_begin : (machine : TaskRun) → (begins : Option Begun) × SaysBegin machine begins
some_begin machine = (begins_of machine.stage machine.machine.begins, begins_told machine machine.stage refl)
