-- The accesses that a log keeps began and ended at their stamps.
use Rattle.std.proofs.Common.{◌≡◌, ◌∙◌, ◌+◌, ◌++◌, ◌∷◌, [], inl, inr, ℕ, suc, All, Bool, true, false, List, None, Option, Some, ap, append_assoc, arith}
use Rattle.std.proofs.Common.{cond, count_by, length, refl, reverse, subst, sym}
use Rattle.std.specs.List.{cons_option, filter_map, list_any}
use Rattle.std.specs.Prelude.{is_none}
use Rattle.std.proofs.Math.Bool.{◌||◌}
use Rattle.std.proofs.lemmas.Bool.Decides.{eqb_tells}
use Rattle.std.proofs.lemmas.List.{append-nil}
use Rattle.std.proofs.lemmas.List.Elements.{All-cons, All-nil, filter_map-append}
use Rattle.access_types.specs.Access.{Access}
use Rattle.access_types.specs.Stamped.{Stamped}
use Rattle.access_types.specs.declared.history.Happening.{Happening}
use Rattle.access_types.specs.declared.history.Happening.TheVariants as happenings
use Rattle.executions.specs.execution.Run.{Run, first_words, task_of, task_setting}
use Rattle.executions.specs.execution.Execution.{Execution}
use Rattle.executions.specs.execution.Observed.{made_by}
use Rattle.executions.proofs.execution.Histories.{did_of_all, did_then}
use Rattle.executions.proofs.execution.OwnLasts.{own_latest}
use Rattle.log_correctness.specs.Noted.{AreNoted, IsBegun, IsNoted, Notes, begun_by, begun_in}
use Rattle.log_correctness.specs.Spans.{HappensAt, IsSpan, is_end}
use Rattle.log_correctness.proofs.Balance.{ArePlain, IsPlain, Runs, plain_both, runs_one, runs_plain, runs_split, whole_runs}
use Rattle.log_correctness.proofs.Begun.{NoneBegins, none_begun}
use Rattle.log_correctness.proofs.Sums.{counted, counted_both}
use Rattle.soundness.specs.Events.{AreMarks, DoesEvent, EachDoesItsEvent, IsEvent, IsMark, ReadsAtMost, Writes}
use Rattle.setup_access.specs.declared.begun.Begun.{Begun}
use Rattle.slot_table.specs.Records.{Legal, records_of, words_after}
use Rattle.slot_table.specs.Words.{Words}
use Rattle.slot_table.specs.declared.records.Record.{Record}
use Rattle.slot_table.specs.declared.step.Answer.{Answer}
use Rattle.slot_table.specs.declared.step.Answer.TheVariants as answers
use Rattle.slot_table.specs.declared.step.Step.{Step}
use Rattle.slot_table.specs.declared.step.Step.TheVariants as steps
use Rattle.slot_table.specs.StepLine.{step_line}
use Rattle.task_log.specs.Touches.{accesses_of, end_newest, goes_on, stamped, stamped_at, touches_at, touches_of}
use Rattle.task_log.specs.declared.noted.Noted.{Noted}
use Rattle.task_log.specs.declared.touches.Touch.{Touch}
use Rattle.program_order.specs.Standing as tasks
use Rattle.program_order.specs.TaskObserved.{did_by, did_next}

-- the accesses that go on, the newest first
abbrev pub one_open : Bool → Access → List Access
one_open true a = a ∷ []
one_open false a = []

abbrev pub open_in : List Touch → List Access
open_in [] = []
open_in (touch ∷ newer) = open_in newer ++ one_open (goes_on touch) touch.begun.access

open_with : (before : List Touch) (one : Touch) → goes_on one ≡ true → open_in (before ++ one ∷ []) ≡ one.begun.access ∷ open_in before
open_with [] one goes = ap (λ (b : Bool). one_open b one.begun.access) goes
open_with (touch ∷ before) one goes = ap (λ (l : List Access). l ++ one_open (goes_on touch) touch.begun.access) (open_with before one goes)

or_false : (a b : Bool) → (a || b) ≡ false → (a ≡ false) × (b ≡ false)
or_false true b is = absurd (let no : true ≡ false = is in cc)
or_false false b is = (refl, is)

none_open : (touches : List Touch) → list_any goes_on touches ≡ false → open_in touches ≡ []
none_open [] none = refl
none_open (touch ∷ newer) none =
    let both = or_false (goes_on touch) (list_any goes_on newer) none in
    ap (λ (l : List Access). l ++ one_open (goes_on touch) touch.begun.access) (none_open newer both.1)
    ∙ ap (λ (b : Bool). one_open b touch.begun.access) both.0

some_open : (touches : List Touch) → list_any goes_on touches ≡ true → (a : Access) × (older : List Access) × (open_in touches ≡ a ∷ older)
some_open [] some = absurd (let no : false ≡ true = some in cc)
some_open (touch ∷ newer) some = by_newer (list_any goes_on newer) refl (λ any. some_open newer any)
  where
    by_first : (b : Bool) → goes_on touch ≡ b → list_any goes_on newer ≡ false → (a : Access) × (older : List Access) × (open_in (touch ∷ newer) ≡ a ∷ older)
    by_first true is none = (
      touch.begun.access,
      [],
      ap (λ (l : List Access). l ++ one_open (goes_on touch) touch.begun.access) (none_open newer none) ∙ ap (λ (b : Bool). one_open b touch.begun.access) is,
    )
    by_first false is none =
        absurd (let no : false ≡ true = sym none ∙ (ap (λ (b : Bool). b || list_any goes_on newer) (sym is) ∙ some) in cc)

    by_newer : (b : Bool) → list_any goes_on newer ≡ b
        → (list_any goes_on newer ≡ true → (a : Access) × (older : List Access) × (open_in newer ≡ a ∷ older))
        → (a : Access) × (older : List Access) × (open_in (touch ∷ newer) ≡ a ∷ older)
    by_newer true is rest =
        let it = rest is in
        (it.0, it.1 ++ one_open (goes_on touch) touch.begun.access, ap (λ (l : List Access). l ++ one_open (goes_on touch) touch.begun.access) it.2)
    by_newer false is rest = by_first (goes_on touch) refl is

-- the newest that goes on ends
end_here : ℕ → Touch → Touch
end_here stamp touch = record touch { end = Some stamp }

-- how the newest that goes on ends: there is another behind it, or it is this one
pub data Newest (stamp : ℕ) (a : Access) (older : List Access) (touch : Touch) (newer : List Touch) : Type 0 where
  behind : (more : List Access) → open_in newer ≡ a ∷ more → older ≡ more ++ one_open (goes_on touch) touch.begun.access
      → end_newest stamp (touch ∷ newer) ≡ touch ∷ end_newest stamp newer → Newest stamp a older touch newer
  here : touch.begun.access ≡ a → older ≡ [] → open_in newer ≡ [] → goes_on touch ≡ true
      → end_newest stamp (touch ∷ newer) ≡ record touch { end = Some stamp } ∷ newer → Newest stamp a older touch newer

pub newest : (stamp : ℕ) (a : Access) (older : List Access) (touch : Touch) (newer : List Touch) → open_in (touch ∷ newer) ≡ a ∷ older
    → Newest stamp a older touch newer
newest stamp a older touch newer is = by_newer (list_any goes_on newer) refl
  where
    by_first : (b : Bool) → goes_on touch ≡ b → list_any goes_on newer ≡ false → Newest stamp a older touch newer
    by_first true goes none =
        let empty : open_in newer ≡ [] = none_open newer none in
        let one : touch.begun.access ∷ [] ≡ a ∷ older =
        sym (ap (λ (l : List Access). l ++ one_open (goes_on touch) touch.begun.access) empty ∙ ap (λ (b : Bool). one_open b touch.begun.access) goes) ∙ is in
        let same : touch.begun.access ≡ a = cc in
        let rest : older ≡ [] = cc in
        here same rest empty goes (rw (none, goes) refl)
    by_first false goes none =
        let empty : open_in newer ≡ [] = none_open newer none in
        absurd (let no : [] ≡ a ∷ older =
        sym (ap (λ (l : List Access). l ++ one_open (goes_on touch) touch.begun.access) empty ∙ ap (λ (b : Bool). one_open b touch.begun.access) goes) ∙ is in cc)

    by_newer : (b : Bool) → list_any goes_on newer ≡ b → Newest stamp a older touch newer
    by_newer true any =
        let it = some_open newer any in
        let both : it.0 ∷ (it.1 ++ one_open (goes_on touch) touch.begun.access) ≡ a ∷ older =
        sym (ap (λ (l : List Access). l ++ one_open (goes_on touch) touch.begun.access) it.2) ∙ is in
        let same : it.0 ≡ a = cc in
        let rest : older ≡ it.1 ++ one_open (goes_on touch) touch.begun.access = cc in
        behind it.1 (it.2 ∙ ap (λ (x : Access). x ∷ it.1) same) rest (rw any refl)
    by_newer false none = by_first (goes_on touch) refl none

ended : (stamp : ℕ) (touches : List Touch) (a : Access) (older : List Access) → open_in touches ≡ a ∷ older → open_in (end_newest stamp touches) ≡ older
ended stamp [] a older is = absurd (let no : [] ≡ a ∷ older = is in cc)
ended stamp (touch ∷ newer) a older is = by_case (newest stamp a older touch newer is) (λ more so. ended stamp newer a more so)
  where
    by_case : Newest stamp a older touch newer → ((more : List Access) → open_in newer ≡ a ∷ more → open_in (end_newest stamp newer) ≡ more)
        → open_in (end_newest stamp (touch ∷ newer)) ≡ older
    by_case (behind more so rest ends) each =
        ap open_in ends ∙ (ap (λ (l : List Access). l ++ one_open (goes_on touch) touch.begun.access) (each more so) ∙ sym rest)
    by_case (here same rest empty goes ends) each = ap open_in ends ∙ (ap (λ (l : List Access). l ++ []) empty ∙ sym rest)

so_many : List Touch → ℕ
so_many touches = length (filter_map stamped touches)

one_stamped : (o : Option Stamped) (l : List Stamped) → length (cons_option o l) ≡ length (cons_option o []) + length l
one_stamped None l = omega arith
one_stamped (Some st) l = omega arith

going_end : (end : Option ℕ) → is_none end ≡ true → end ≡ None
going_end None is = refl
going_end (Some stamp) is = absurd (let no : false ≡ true = is in cc)

ended_more : (stamp : ℕ) (touches : List Touch) (a : Access) (older : List Access) → open_in touches ≡ a ∷ older
    → length (filter_map stamped (end_newest stamp touches)) ≡ suc (length (filter_map stamped touches))
ended_more stamp [] a older is = absurd (let no : [] ≡ a ∷ older = is in cc)
ended_more stamp (touch ∷ newer) a older is = by_case (newest stamp a older touch newer is) (λ more so. ended_more stamp newer a more so)
  where
    by_case : Newest stamp a older touch newer
        → ((more : List Access) → open_in newer ≡ a ∷ more → length (filter_map stamped (end_newest stamp newer)) ≡ suc (length (filter_map stamped newer)))
        → length (filter_map stamped (end_newest stamp (touch ∷ newer))) ≡ suc (length (filter_map stamped (touch ∷ newer)))
    by_case (behind more so rest ends) each =
        let next = each more so in
        let after = one_stamped (stamped touch) (filter_map stamped (end_newest stamp newer)) in
        let before = one_stamped (stamped touch) (filter_map stamped newer) in
        ap (λ (l : List Touch). length (filter_map stamped l)) ends ∙ omega (arith, next, after, before)
    by_case (here same rest empty goes ends) each =
        let none : touch.end ≡ None = going_end touch.end goes in
        let before : length (filter_map stamped (touch ∷ newer)) ≡ length (filter_map stamped newer) =
        ap (λ (e : Option ℕ). length (cons_option (stamped_at touch.begun touch.begin e) (filter_map stamped newer))) none in
        ap (λ (l : List Touch). length (filter_map stamped l)) ends ∙ ap suc (sym before)

-- what a record does, by its step
pub data Kind (step : Step) (event : List Happening) : Type 0 where
  quiet : (step ≡ steps.Clock → ⊥) → ArePlain event → Kind step event
  begins_one : step ≡ steps.Clock → (a : Access) → event ≡ happenings.Begin a ∷ [] → Kind step event
  ends_one : step ≡ steps.Clock → (a : Access) → event ≡ happenings.End a ∷ [] → Kind step event

nothing : (event : List Happening) → event ≡ [] → ArePlain event
nothing event is = subst ArePlain (sym is) tt

reads_plain : (s : tasks.Setting) (cell : ℕ) (answer : Answer) (event : List Happening) → ReadsAtMost s cell answer event → ArePlain event
reads_plain s cell answer event (inl is) = nothing event is
reads_plain s cell answer event (inr read) = subst ArePlain (sym read.is) (tt, tt)

writes_plain : (s : tasks.Setting) (cell old new : ℕ) (event : List Happening) → Writes s cell old new event → ArePlain event
writes_plain s cell old new event h = elim h.is [
  | inl is ↦ subst ArePlain (sym is) (tt, tt)
  | inr both ↦ subst ArePlain (sym both) (tt, (tt, tt))
]

module _ (s : tasks.Setting) (before : List Happening) where
  exchanged : (cell expected new : ℕ) (answer : Answer) (event : List Happening) → IsEvent s before (steps.CellExchange cell expected new) answer event
      → ArePlain event
  exchanged cell expected new (answers.Flag true) event h = writes_plain s cell expected new event h
  exchanged cell expected new (answers.Flag false) event h = reads_plain s cell (answers.Flag false) event h
  exchanged cell expected new (answers.Word word) event h = reads_plain s cell (answers.Word word) event h
  exchanged cell expected new (answers.Halves setter finder) event h = reads_plain s cell (answers.Halves setter finder) event h
  exchanged cell expected new answers.Done event h = reads_plain s cell answers.Done event h

  locked : (lock holder : ℕ) (answer : Answer) (event : List Happening) → IsEvent s before (steps.LockTry lock holder) answer event → ArePlain event
  locked lock holder (answers.Flag true) event h = subst ArePlain (sym h.4) (tt, tt)
  locked lock holder (answers.Flag false) event h = nothing event h
  locked lock holder (answers.Word word) event h = nothing event h
  locked lock holder (answers.Halves setter finder) event h = nothing event h
  locked lock holder answers.Done event h = nothing event h

  clock_kind : (answer : Answer) (event : List Happening) → IsEvent s before steps.Clock answer event → Kind steps.Clock event
  clock_kind answer event h = elim h.1 [
    | inl is ↦ begins_one refl h.0 is
    | inr is ↦ ends_one refl h.0 is
  ]

  pub kind_of : (step : Step) (answer : Answer) (event : List Happening) → IsEvent s before step answer event → Kind step event
  kind_of steps.Clock answer event h = clock_kind answer event h
  kind_of (steps.CellLoad cell) answer event h = quiet (λ is. let no : steps.CellLoad cell ≡ steps.Clock = is in cc) (reads_plain s cell answer event h)
  kind_of (steps.CellExchange cell expected new) answer event h =
      quiet (λ is. let no : steps.CellExchange cell expected new ≡ steps.Clock = is in cc) (exchanged cell expected new answer event h)
  kind_of (steps.LockTry lock holder) answer event h =
      quiet (λ is. let no : steps.LockTry lock holder ≡ steps.Clock = is in cc) (locked lock holder answer event h)
  kind_of (steps.LockStore lock) answer event h =
      quiet (λ is. let no : steps.LockStore lock ≡ steps.Clock = is in cc) (subst ArePlain (sym h.3) (tt, tt))
  kind_of (steps.Load index) answer event h = quiet (λ is. let no : (steps.Load index) ≡ steps.Clock = is in cc) (nothing event h)
  kind_of (steps.Insert index word) answer event h = quiet (λ is. let no : (steps.Insert index word) ≡ steps.Clock = is in cc) (nothing event h)
  kind_of (steps.TryConsume index word) answer event h = quiet (λ is. let no : (steps.TryConsume index word) ≡ steps.Clock = is in cc) (nothing event h)
  kind_of (steps.Consume index) answer event h = quiet (λ is. let no : (steps.Consume index) ≡ steps.Clock = is in cc) (nothing event h)
  kind_of (steps.Remove index) answer event h = quiet (λ is. let no : (steps.Remove index) ≡ steps.Clock = is in cc) (nothing event h)
  kind_of (steps.PairLoad index) answer event h = quiet (λ is. let no : (steps.PairLoad index) ≡ steps.Clock = is in cc) (nothing event h)
  kind_of (steps.Name index ticket) answer event h = quiet (λ is. let no : (steps.Name index ticket) ≡ steps.Clock = is in cc) (nothing event h)
  kind_of (steps.Tell index ticket) answer event h = quiet (λ is. let no : (steps.Tell index ticket) ≡ steps.Clock = is in cc) (nothing event h)
  kind_of (steps.Clear index) answer event h = quiet (λ is. let no : (steps.Clear index) ≡ steps.Clock = is in cc) (nothing event h)

mark_plain : (happening : Happening) → IsMark happening → IsPlain happening
mark_plain (happenings.Mark mark) is = tt
mark_plain (happenings.Begin a) is = absurd is
mark_plain (happenings.End a) is = absurd is
mark_plain (happenings.Read bytes value) is = tt
mark_plain (happenings.Write bytes value) is = tt
mark_plain (happenings.Lock lock) is = tt
mark_plain (happenings.Unlock lock) is = tt

pub marks_plain : (did : List Happening) → AreMarks did → ArePlain did
marks_plain [] are = tt
marks_plain (happening ∷ later) are = (mark_plain happening are.0, marks_plain later are.1)

plain_begins : (happening : Happening) → IsPlain happening → begun_by happening ≡ None
plain_begins (happenings.Mark mark) is = refl
plain_begins (happenings.Begin a) is = absurd is
plain_begins (happenings.End a) is = absurd is
plain_begins (happenings.Read bytes value) is = refl
plain_begins (happenings.Write bytes value) is = refl
plain_begins (happenings.Lock lock) is = refl
plain_begins (happenings.Unlock lock) is = refl

pub plain_none : (did : List Happening) → ArePlain did → NoneBegins did
plain_none [] plain = tt
plain_none (happening ∷ later) plain = (plain_begins happening plain.0, plain_none later plain.1)

plain_end : (happening : Happening) → IsPlain happening → is_end happening ≡ false
plain_end (happenings.Mark mark) is = refl
plain_end (happenings.Begin a) is = absurd is
plain_end (happenings.End a) is = absurd is
plain_end (happenings.Read bytes value) is = refl
plain_end (happenings.Write bytes value) is = refl
plain_end (happenings.Lock lock) is = refl
plain_end (happenings.Unlock lock) is = refl

no_ends : (did : List Happening) → ArePlain did → count_by is_end did ≡ 0
no_ends [] plain = refl
no_ends (happening ∷ later) plain =
    let head : ◌≡◌ {A = ℕ} (cond (is_end happening) 1 0) 0 = ap (λ (b : Bool). cond {A = ℕ} b 1 0) (plain_end happening plain.0) in
    let rest = no_ends later plain.1 in
    let all = counted is_end happening later in omega (arith, head, rest, all)

pub still : (step : Step) (answer : Answer) (begins : Option Begun) (before : List Touch) → (step ≡ steps.Clock → ⊥) → touches_at step answer begins before ≡ before
still steps.Clock answer begins before other = absurd (other refl)
still (steps.Load index) answer begins before other = refl
still (steps.Insert index word) answer begins before other = refl
still (steps.TryConsume index word) answer begins before other = refl
still (steps.Consume index) answer begins before other = refl
still (steps.Remove index) answer begins before other = refl
still (steps.PairLoad index) answer begins before other = refl
still (steps.Name index ticket) answer begins before other = refl
still (steps.Tell index ticket) answer begins before other = refl
still (steps.Clear index) answer begins before other = refl
still (steps.CellLoad cell) answer begins before other = refl
still (steps.CellExchange cell expected new) answer begins before other = refl
still (steps.LockTry lock holder) answer begins before other = refl
still (steps.LockStore lock) answer begins before other = refl

-- the clock answers a stamp
clock_word : (words : Words) → (stamp : ℕ) × ((step_line words steps.Clock).answer ≡ answers.Word stamp)
clock_word words = (words.clock, refl)

pub legal_at : (first : Words) (later : List Record) (latest : Record) (earlier : List Record) → Legal first (later ++ latest ∷ earlier) → latest.step ≡ steps.Clock
    → (stamp : ℕ) × (latest.answer ≡ answers.Word stamp)
legal_at first [] latest earlier legal is =
    let words : Words = words_after first earlier in
    let it = clock_word words in
    (it.0, legal.1.answer ∙ (ap (λ (st : Step). (step_line words st).answer) is ∙ it.1))
legal_at first (one ∷ later) latest earlier legal is = legal_at first later latest earlier legal.0 is

module _ (run : Run) (records : List Record) (list : Execution run records) (task : ℕ) (first : AreMarks (did_by (list.tasks task) 0)) where
  abbrev pub EndSo : Access → Option ℕ → Type 0
  EndSo a None = Unit {0}
  EndSo a (Some stamp) = HappensAt list task (happenings.End a) stamp

  abbrev pub AllSo : List Touch → Type 0
  AllSo [] = Unit {0}
  AllSo (touch ∷ newer) = (HappensAt list task (happenings.Begin touch.begun.access) touch.begin × EndSo touch.begun.access touch.end) × AllSo newer

  so_both : (one other : List Touch) → AllSo one → AllSo other → AllSo (one ++ other)
  so_both [] other p q = q
  so_both (touch ∷ one) other p q = (p.0, so_both one other p.1 q)

  so_ended : (stamp : ℕ) (touches : List Touch) (a : Access) (older : List Access) → open_in touches ≡ a ∷ older → HappensAt list task (happenings.End a) stamp
      → AllSo touches → AllSo (end_newest stamp touches)
  so_ended stamp [] a older is ends so = absurd (let no : [] ≡ a ∷ older = is in cc)
  so_ended stamp (touch ∷ newer) a older is ends so =
      by_case (newest stamp a older touch newer is) (λ more holds. so_ended stamp newer a more holds ends so.1)
    where
      by_case : Newest stamp a older touch newer → ((more : List Access) → open_in newer ≡ a ∷ more → AllSo (end_newest stamp newer))
          → AllSo (end_newest stamp (touch ∷ newer))
      by_case (behind more holds rest ended_so) each = subst AllSo (sym ended_so) (so.0, each more holds)
      by_case (here same rest empty goes ended_so) each =
          subst AllSo (sym ended_so) ((so.0.0, subst (λ (x : Access). HappensAt list task (happenings.End x) stamp) (sym same) ends), so.1)

  -- after so many of its records the accesses that go on are those whose ends are to come
  pub record Keeps (made : ℕ) (touches : List Touch) : Type 0 where
    pub goes : List Access
    pub runs : Runs [] (did_by (list.tasks task) made) goes
    pub holds : open_in touches ≡ goes
    pub so : AllSo touches
    pub many : length (filter_map stamped touches) ≡ count_by is_end (did_by (list.tasks task) made)

  at_first_kept : Keeps 0 []
  at_first_kept =
      let plain : ArePlain (did_by (list.tasks task) 0) = marks_plain (did_by (list.tasks task) 0) first in record {
        goes = [];
        runs = runs_plain [] (did_by (list.tasks task) 0) plain;
        holds = refl;
        so = tt;
        many = sym (no_ends (did_by (list.tasks task) 0) plain);
      }

  abbrev did_all : List Happening
  did_all = (list.tasks task).whole.end.progress.did

  all_run : Runs [] did_all []
  all_run = whole_runs (task_setting run task) (length (task_of run task).registers) (task_of run task).body
      (reverse (records_of task records) ++ (list.tasks task).more) (list.tasks task).whole

  -- what is done next leads on
  pub next_runs : (made : ℕ) (goes : List Access) → Runs [] (did_by (list.tasks task) made) goes
      → (after : List Access) × Runs [] (did_by (list.tasks task) (made + 1)) after × Runs goes (did_next (list.tasks task) made) after
  next_runs made goes runs =
      let rest = did_of_all (list.tasks task) (made + 1) in
      let there = runs_split [] (did_by (list.tasks task) (made + 1)) rest.0 [] (subst (λ (d : List Happening). Runs [] d []) rest.1 all_run) in
      let back = runs_split [] (did_by (list.tasks task) made) (did_next (list.tasks task) made) there.0
      (subst (λ (d : List Happening). Runs [] d there.0) (sym (did_then (list.tasks task) made)) there.1) in
      let same : back.0 ≡ goes = runs_one [] (did_by (list.tasks task) made) back.0 goes back.1 runs in
      (there.0, there.1, subst (λ (o : List Access). Runs o (did_next (list.tasks task) made) there.0) same back.2)

  next_ends : (made : ℕ) → count_by is_end (did_by (list.tasks task) (made + 1))
      ≡ count_by is_end (did_by (list.tasks task) made) + count_by is_end (did_next (list.tasks task) made)
  next_ends made =
      ap (λ (d : List Happening). count_by is_end d) (sym (did_then (list.tasks task) made))
      ∙ counted_both is_end (did_by (list.tasks task) made) (did_next (list.tasks task) made)

  module _ (later earlier : List Record) (latest : Record) (is : records ≡ later ++ latest ∷ earlier) (mine : latest.task ≡ task)
      (event : DoesEvent (task_setting run task) (did_by (list.tasks task) (made_by task earlier)) latest.step latest.answer
      (did_next (list.tasks task) (made_by task earlier))) (noted : Noted) (noted_so : IsNoted (list.tasks task) (made_by task earlier) latest noted)
      (before : List Touch) (kept : Keeps (made_by task earlier) before) where
    abbrev made : ℕ
    made = made_by task earlier

    abbrev next : List Happening
    next = did_next (list.tasks task) made

    abbrev touched : List Touch
    touched = touches_at noted.step noted.answer noted.begins before

    as_is : touched ≡ touches_at latest.step latest.answer noted.begins before
    as_is =
        ap (λ (st : Step). touches_at st noted.answer noted.begins before) noted_so.step
        ∙ ap (λ (an : Answer). touches_at latest.step an noted.begins before) noted_so.answer

    on : (after : List Access) × Runs [] (did_by (list.tasks task) (made + 1)) after × Runs kept.goes next after
    on = next_runs made kept.goes kept.runs

    marks_are : ArePlain event.marks
    marks_are = marks_plain event.marks event.are_marks

    -- nothing begins or ends
    quietly : (latest.step ≡ steps.Clock → ⊥) → ArePlain event.event → Keeps (made + 1) touched
    quietly other plain =
        let all : ArePlain next = subst ArePlain (sym event.all) (plain_both event.event event.marks plain marks_are) in
        let same : touched ≡ before = as_is ∙ still latest.step latest.answer noted.begins before other in
        let goes : on.0 ≡ kept.goes = runs_one kept.goes next on.0 kept.goes on.2 (runs_plain kept.goes next all) in
        let none = no_ends next all in
        let sum = next_ends made in
        let many = kept.many in record {
          goes = on.0;
          runs = on.1;
          holds = ap open_in same ∙ (kept.holds ∙ sym goes);
          so = subst AllSo (sym same) kept.so;
          many = ap (λ (l : List Touch). length (filter_map stamped l)) same ∙ omega (arith, none, sum, many);
        }

    happens : (happening : Happening) (stamp : ℕ) → latest.answer ≡ answers.Word stamp → next ≡ happening ∷ event.marks → HappensAt list task happening stamp
    happens happening stamp answered did = record {
      later = later;
      latest = latest;
      earlier = earlier;
      split = is;
      mine = mine;
      answer = answered;
      marks = event.marks;
      did = ap (λ (t : ℕ). did_next (list.tasks t) (made_by t earlier)) mine ∙ did;
    }

    -- an access begins
    beginning : (a : Access) (stamp : ℕ) → latest.step ≡ steps.Clock → latest.answer ≡ answers.Word stamp → event.event ≡ happenings.Begin a ∷ [] → Keeps (made + 1) touched
    beginning a stamp clock answered does =
        let did : next ≡ happenings.Begin a ∷ event.marks = event.all ∙ ap (λ (e : List Happening). e ++ event.marks) does in
        let begun : begun_in next ≡ a ∷ [] =
        ap begun_in did ∙ ap (λ (l : List Access). a ∷ l) (none_begun event.marks (plain_none event.marks marks_are)) in
        by_begins noted.begins refl noted_so.begins did begun
      where
        by_begins : (begins : Option Begun) → noted.begins ≡ begins
            → IsBegun run.rules.plain_writes_atomic task (did_by (list.tasks task) made) next begins
            → next ≡ happenings.Begin a ∷ event.marks → begun_in next ≡ a ∷ [] → Keeps (made + 1) touched
        by_begins None same begun_so did begun = absurd (let no : [] ≡ a ∷ [] = sym begun_so ∙ begun in cc)
        by_begins (Some begun) same begun_so did is_a =
            let heads : begun.access ∷ [] ≡ a ∷ [] = sym begun_so.0 ∙ is_a in
            let access : begun.access ≡ a = cc in
            let one : Touch = record { begun = begun; begin = stamp; end = None } in
            let all : touched ≡ before ++ one ∷ [] =
            as_is ∙ (ap (λ (st : Step). touches_at st latest.answer noted.begins before) clock
            ∙ (ap (λ (an : Answer). touches_at steps.Clock an noted.begins before) answered
            ∙ ap (λ (b : Option Begun). touches_at steps.Clock (answers.Word stamp) b before) same)) in
            let runs_on : Runs (a ∷ kept.goes) event.marks on.0 = subst (λ (d : List Happening). Runs kept.goes d on.0) did on.2 in
            let goes : on.0 ≡ a ∷ kept.goes = runs_one (a ∷ kept.goes) event.marks on.0 (a ∷ kept.goes) runs_on (runs_plain (a ∷ kept.goes) event.marks marks_are) in
            let none = no_ends event.marks marks_are in
            let its : count_by is_end next ≡ 0 = ap (λ (d : List Happening). count_by is_end d) did
            ∙ (counted is_end (happenings.Begin a) event.marks ∙ (let n = none in omega (arith, n))) in
            let sum = next_ends made in
            let many = kept.many in
            let as_many : length (filter_map stamped (before ++ one ∷ [])) ≡ length (filter_map stamped before) =
            ap (λ (l : List Stamped). length l) (filter_map-append stamped before (one ∷ []) ∙ append-nil (filter_map stamped before)) in record {
              goes = on.0;
              runs = on.1;
              holds = ap open_in all ∙ (open_with before one refl ∙ (ap (λ (x : Access). x ∷ open_in before) access
                  ∙ (ap (λ (l : List Access). a ∷ l) kept.holds ∙ sym goes)));
              so = subst AllSo (sym all) (so_both before (one ∷ []) kept.so
                  ((subst (λ (x : Access). HappensAt list task (happenings.Begin x) stamp) (sym access) (happens (happenings.Begin a) stamp answered did), tt), tt));
              many = ap (λ (l : List Touch). length (filter_map stamped l)) all ∙ omega (arith, as_many, its, sum, many);
            }

    -- the newest that goes on ends
    end_of : (a : Access) (stamp : ℕ) → latest.step ≡ steps.Clock → latest.answer ≡ answers.Word stamp → event.event ≡ happenings.End a ∷ [] → Keeps (made + 1) touched
    end_of a stamp clock answered does =
        let did : next ≡ happenings.End a ∷ event.marks = event.all ∙ ap (λ (e : List Happening). e ++ event.marks) does in
        let begun : begun_in next ≡ [] = ap begun_in did ∙ none_begun event.marks (plain_none event.marks marks_are) in
        by_begins noted.begins refl noted_so.begins did begun
      where
        by_begins : (begins : Option Begun) → noted.begins ≡ begins
            → IsBegun run.rules.plain_writes_atomic task (did_by (list.tasks task) made) next begins
            → next ≡ happenings.End a ∷ event.marks → begun_in next ≡ [] → Keeps (made + 1) touched
        by_begins (Some begun) same begun_so did none = absurd (let no : [] ≡ begun.access ∷ [] = sym none ∙ begun_so.0 in cc)
        by_begins None same begun_so did none =
            let all : touched ≡ end_newest stamp before =
            as_is ∙ (ap (λ (st : Step). touches_at st latest.answer noted.begins before) clock
            ∙ (ap (λ (an : Answer). touches_at steps.Clock an noted.begins before) answered
            ∙ ap (λ (b : Option Begun). touches_at steps.Clock (answers.Word stamp) b before) same)) in
            let runs_on : Runs kept.goes (happenings.End a ∷ event.marks) on.0 = subst (λ (d : List Happening). Runs kept.goes d on.0) did on.2 in
            let holds : open_in before ≡ a ∷ runs_on.0 = kept.holds ∙ runs_on.1 in
            let goes : on.0 ≡ runs_on.0 = runs_one runs_on.0 event.marks on.0 runs_on.0 runs_on.2 (runs_plain runs_on.0 event.marks marks_are) in
            let marks_none = no_ends event.marks marks_are in
            let its : count_by is_end next ≡ 1 = ap (λ (d : List Happening). count_by is_end d) did
            ∙ (counted is_end (happenings.End a) event.marks ∙ (let n = marks_none in omega (arith, n))) in
            let sum = next_ends made in
            let many = kept.many in
            let one_more = ended_more stamp before a runs_on.0 holds in record {
              goes = on.0;
              runs = on.1;
              holds = ap open_in all ∙ (ended stamp before a runs_on.0 holds ∙ sym goes);
              so = subst AllSo (sym all) (so_ended stamp before a runs_on.0 holds (happens (happenings.End a) stamp answered did) kept.so);
              many = ap (λ (l : List Touch). length (filter_map stamped l)) all ∙ omega (arith, one_more, its, sum, many);
            }

    kept_on : Keeps (made + 1) touched
    kept_on = by_kind (kind_of (task_setting run task) (did_by (list.tasks task) made) latest.step latest.answer event.event event.is_event)
      where
        by_kind : Kind latest.step event.event → Keeps (made + 1) touched
        by_kind (quiet other plain) = quietly other plain
        by_kind (begins_one clock a does) =
            let it = legal_at (first_words run) later latest earlier (subst (λ (r : List Record). Legal (first_words run) r) is list.legal) clock in
            beginning a it.0 clock it.1 does
        by_kind (ends_one clock a does) =
            let it = legal_at (first_words run) later latest earlier (subst (λ (r : List Record). Legal (first_words run) r) is list.legal) clock in
            end_of a it.0 clock it.1 does

  pub all_kept : (later earlier : List Record) → records ≡ later ++ earlier → EachDoesItsEvent list earlier → (noted : List Noted)
      → AreNoted (list.tasks task) (records_of task earlier) noted → Keeps (made_by task earlier) (touches_of noted)
  all_kept later [] is events [] are = at_first_kept
  all_kept later [] is events (noted ∷ before) are = absurd are
  all_kept later (latest ∷ earlier) is events noted are =
      let back : records ≡ (later ++ latest ∷ []) ++ earlier = is ∙ sym (append_assoc later (latest ∷ []) earlier) in
      elim (eqb_tells latest.task task) [
        | inl mine ↦
            its (λ kept are_so. all_kept (later ++ latest ∷ []) earlier back events.0 kept are_so) noted
            (subst (λ (r : List Record). AreNoted (list.tasks task) r noted) (own_latest task latest earlier mine.1) are) mine.1
        | inr others ↦
            let same : records_of task (latest ∷ earlier) ≡ records_of task earlier = rw others.0 refl in
            subst (λ (r : List Record). Keeps (length r) (touches_of noted)) (sym same)
            (all_kept (later ++ latest ∷ []) earlier back events.0 noted (subst (λ (r : List Record). AreNoted (list.tasks task) r noted) same are))
      ]
    where
      its : ((kept : List Noted) → AreNoted (list.tasks task) (records_of task earlier) kept → Keeps (made_by task earlier) (touches_of kept))
          → (noted : List Noted) → AreNoted (list.tasks task) (latest ∷ records_of task earlier) noted → latest.task ≡ task
          → Keeps (made_by task (latest ∷ earlier)) (touches_of noted)
      its rest [] are mine = absurd are
      its rest (noted ∷ before) are mine =
          let event : DoesEvent (task_setting run task) (did_by (list.tasks task) (made_by task earlier)) latest.step latest.answer
          (did_next (list.tasks task) (made_by task earlier)) =
          subst (λ (t : ℕ). DoesEvent (task_setting run t) (did_by (list.tasks t) (made_by t earlier)) latest.step latest.answer
          (did_next (list.tasks t) (made_by t earlier))) mine events.1 in
          let next = kept_on later earlier latest is mine event noted are.1 (touches_of before) (rest before are.0) in
          let so_many_made : made_by task earlier + 1 ≡ made_by task (latest ∷ earlier) =
          let size : length (records_of task (latest ∷ earlier)) ≡ suc (made_by task earlier) =
          ap (λ (r : List Record). length r) (own_latest task latest earlier mine) in omega (arith, size) in
          subst (λ (n : ℕ). Keeps n (touches_of (noted ∷ before))) so_many_made next

  all_spans : (touches : List Touch) → AllSo touches → All (IsSpan list task) (filter_map stamped touches)
  all_spans [] so = All-nil (IsSpan list task)
  all_spans (touch ∷ newer) so = by_end (all_spans newer so.1) touch.end refl so.0.1
    where
      by_end : All (IsSpan list task) (filter_map stamped newer) → (end : Option ℕ) → touch.end ≡ end → EndSo touch.begun.access touch.end
          → All (IsSpan list task) (filter_map stamped (touch ∷ newer))
      by_end rest None is ends =
          subst (λ (e : Option ℕ). All (IsSpan list task) (cons_option (stamped_at touch.begun touch.begin e) (filter_map stamped newer))) (sym is) rest
      by_end rest (Some end) is ends =
          subst (λ (e : Option ℕ). All (IsSpan list task) (cons_option (stamped_at touch.begun touch.begin e) (filter_map stamped newer))) (sym is)
          (All-cons (IsSpan list task) (record {
            access = touch.begun.access;
            begin = touch.begin;
            end = end;
            marked = touch.begun.marked;
            silenced = touch.begun.silenced;
          }) (filter_map stamped newer) (record { begins = so.0.0; ends = subst (λ (e : Option ℕ). EndSo touch.begun.access e) is ends }) rest)

  pub spans : (noted : List Noted) → Notes list task noted → EachDoesItsEvent list records → All (IsSpan list task) (accesses_of noted)
  spans noted notes events = all_spans (touches_of noted) (all_kept [] records refl events noted notes).so

  pub as_many_ended : (noted : List Noted) → Notes list task noted → EachDoesItsEvent list records
      → length (accesses_of noted) ≡ count_by is_end (did_by (list.tasks task) (made_by task records))
  as_many_ended noted notes events = (all_kept [] records refl events noted notes).many
