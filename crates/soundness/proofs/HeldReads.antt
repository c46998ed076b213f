-- Each read of the history of an execution holds the content just before it.
use Rattle.std.proofs.Common.{◌≡◌, ◌∙◌, ◌⊎◌, ◌==◌, ◌∷◌, ◌++◌, [], inl, inr, ℕ, zero, suc, Bool, true, false, IfSome, List, ap, length, refl, slice_get, subst, sym, take, if◌then◌else◌}
use Rattle.std.specs.Prelude.{slice_index}
use Rattle.std.proofs.lemmas.Bool.Decides.{eqb_tells}
use Rattle.access_types.specs.Access.{Access}
use Rattle.access_types.specs.History.{History, Memory, after_happening, after_moments, value_from}
use Rattle.access_types.specs.declared.history.Happening.{Happening}
use Rattle.access_types.specs.declared.history.Happening.TheVariants as happenings
use Rattle.access_types.specs.declared.history.Moment.{Moment}
use Rattle.litmus_semantics.specs.Layout.{memory_at_first}
use Rattle.setup_access.specs.Values.{value_in}
use Rattle.setup_access.specs.declared.source.Source.{Source}
use Rattle.slot_table.specs.Records.{Legal, words_after}
use Rattle.slot_table.specs.StepLine.{step_line}
use Rattle.slot_table.specs.Words.{Words}
use Rattle.slot_table.specs.declared.records.Record.{Record}
use Rattle.slot_table.specs.declared.step.Answer.{Answer}
use Rattle.slot_table.specs.declared.step.Answer.TheVariants as answers
use Rattle.slot_table.specs.declared.step.Step.{Step}
use Rattle.slot_table.specs.declared.step.Step.TheVariants.{CellExchange, CellLoad, Clear, Clock, Consume, Insert, Load, LockStore, LockTry, Name, PairLoad, Remove, Tell, TryConsume}
use Rattle.program_order.specs.Standing.{Setting, checks_of}
use Rattle.program_order.specs.TaskObserved.{did_by, did_next}
use Rattle.executions.specs.execution.Run.{Run, first_words, task_setting}
use Rattle.executions.specs.execution.Execution.{Execution}
use Rattle.executions.specs.execution.Observed.{first_moments, history_by, history_of, made_by, moments_of}
use Rattle.soundness.specs.Events.{AreMarks, EachDoesItsEvent, IsEvent, ReadsAtMost, Writes}
use Rattle.soundness.specs.Cells.{CellsHold, memory_after, run_cells}
use Rattle.soundness.specs.HeldReads.{HoldsContent, ReadsHold}
use Rattle.soundness.proofs.CellBlocks.{AreBlocks, cells_are_blocks}
use Rattle.soundness.proofs.Cells.{LiesIn, hold_by, lies_there, value_there}
use Rattle.soundness.proofs.Memories.{after_did}

-- a read holds what memory has
abbrev HoldsNow : Memory → Happening → Type 0
HoldsNow memory (happenings.Read bytes value) = value ≡ value_from memory bytes.addr bytes.size
HoldsNow memory happening = Unit {0}

-- so does each of these, one after the other
abbrev AllHold : Memory → List Happening → Type 0
AllHold memory [] = Unit {0}
AllHold memory (first ∷ did) = HoldsNow memory first × AllHold (after_happening memory first) did

abbrev HistoryHolds : Memory → History → Type 0
HistoryHolds memory [] = Unit {0}
HistoryHolds memory (first ∷ history) = HoldsNow memory first.happening × HistoryHolds (after_happening memory first.happening) history

holds_both : (memory : Memory) (first second : History) → HistoryHolds memory first → HistoryHolds (after_moments memory first) second → HistoryHolds memory (first ++ second)
holds_both memory [] second one two = two
holds_both memory (moment ∷ first) second one two = (one.0, holds_both (after_happening memory moment.happening) first second one.1 two)

holds_its : (memory : Memory) (task : ℕ) (did : List Happening) → AllHold memory did → HistoryHolds memory (moments_of task did)
holds_its memory task [] all = tt
holds_its memory task (first ∷ did) all = (all.0, holds_its (after_happening memory first) task did all.1)

all_both : (memory : Memory) (first second : List Happening) → AllHold memory first → AllHold (after_did memory first) second → AllHold memory (first ++ second)
all_both memory [] second one two = two
all_both memory (x ∷ first) second one two = (one.0, all_both (after_happening memory x) first second one.1 two)

all_marks : (memory : Memory) (marks : List Happening) → AreMarks marks → AllHold memory marks
all_marks memory [] are = tt
all_marks memory (happenings.Mark mark ∷ marks) are = (tt, all_marks memory marks are.1)
all_marks memory (happenings.Begin a ∷ marks) are = absurd are.0
all_marks memory (happenings.End a ∷ marks) are = absurd are.0
all_marks memory (happenings.Read bytes value ∷ marks) are = absurd are.0
all_marks memory (happenings.Write bytes value ∷ marks) are = absurd are.0
all_marks memory (happenings.Lock lock ∷ marks) are = absurd are.0
all_marks memory (happenings.Unlock lock ∷ marks) are = absurd are.0

-- so each read of a history holds the content just before it
at_place : (initial : Memory) (history : History) (k : ℕ) (happening : Happening) → HoldsNow (after_moments initial (take k history)) happening
    → HoldsContent initial history k happening
at_place initial history k (happenings.Read bytes value) h = h
at_place initial history k (happenings.Begin a) h = tt
at_place initial history k (happenings.End a) h = tt
at_place initial history k (happenings.Write bytes value) h = tt
at_place initial history k (happenings.Lock lock) h = tt
at_place initial history k (happenings.Unlock lock) h = tt
at_place initial history k (happenings.Mark mark) h = tt

now_at : (memory : Memory) (history : History) → HistoryHolds memory history → (k : ℕ)
    → IfSome (slice_get history k) (λ moment. HoldsNow (after_moments memory (take k history)) moment.happening)
now_at memory [] holds k = tt
now_at memory (first ∷ history) holds zero = holds.0
now_at memory (first ∷ history) holds (suc k) = now_at (after_happening memory first.happening) history holds.1 k

module _ (s : Setting) (before : List Happening) (cells : List ℕ) (same_cells : (checks_of s).cells ≡ cells) (blocks : AreBlocks cells) (words : Words)
    (memory : Memory) (holds : CellsHold cells memory words.cells) where
  -- the value of an access's bytes in the word of their cell
  value_of : (a : Access) (source : Source) (cell word : ℕ) → LiesIn cells a source → source.cell ≡ cell → slice_index words.cells cell ≡ word
      → value_in a source word ≡ value_from memory a.addr a.size
  value_of a source cell word lies there is =
      sym (value_there cells blocks memory words.cells holds a source lies
      ∙ ap (λ n. value_in a source n) (ap (λ n. slice_index words.cells n) there ∙ is))

  lies_so : (a : Access) (source : Source) → LiesIn (checks_of s).cells a source → LiesIn cells a source
  lies_so a source lies = subst (λ (c : List ℕ). LiesIn c a source) same_cells lies

  nothing : (did : List Happening) → did ≡ [] → AllHold memory did
  nothing did is = subst (λ (d : List Happening). AllHold memory d) (sym is) tt

  read : (cell : ℕ) (answer : Answer) (did : List Happening) → ((word : ℕ) → answer ≡ answers.Word word → slice_index words.cells cell ≡ word)
      → ReadsAtMost s cell answer did → AllHold memory did
  read cell answer did is (inl none) = nothing did none
  read cell answer did is (inr reads) =
      subst (λ (d : List Happening). AllHold memory d) (sym reads.is) (
        value_of reads.access reads.source cell reads.word
            (lies_so reads.access reads.source (lies_there (checks_of s) reads.access reads.source reads.lies)) reads.there (is reads.word reads.answered),
        tt,
      )

  wrote : (cell old new : ℕ) (did : List Happening) → slice_index words.cells cell ≡ old → Writes s cell old new did → AllHold memory did
  wrote cell old new did is writes =
      let a : Access = writes.access in
      elim writes.is [
        | inl alone ↦ subst (λ (d : List Happening). AllHold memory d) (sym alone) (tt, tt)
        | inr both ↦ subst (λ (d : List Happening). AllHold memory d) (sym both)
            (value_of a writes.source cell old (lies_so a writes.source (lies_there (checks_of s) a writes.source writes.lies)) writes.there is, (tt, tt))
      ]

  loaded : (cell : ℕ) (answer : Answer) → answer ≡ (step_line words (CellLoad cell)).answer → (word : ℕ) → answer ≡ answers.Word word → slice_index words.cells cell ≡ word
  loaded cell answer answered word is = let both : answers.Word word ≡ answers.Word (slice_index words.cells cell) = sym is ∙ answered in cc

  refused : (cell expected new : ℕ) (answer : Answer) (accepted : Bool) → answer ≡ (if accepted then answers.Flag true else answers.Word (slice_index words.cells cell))
      → (word : ℕ) → answer ≡ answers.Word word → slice_index words.cells cell ≡ word
  refused cell expected new answer true answered word is = absurd (let both : answers.Word word ≡ answers.Flag true = sym is ∙ answered in cc)
  refused cell expected new answer false answered word is = let both : answers.Word word ≡ answers.Word (slice_index words.cells cell) = sym is ∙ answered in cc

  exchanged : (cell expected new : ℕ) (answer : Answer) (did : List Happening) → answer ≡ (step_line words (CellExchange cell expected new)).answer
      → IsEvent s before (CellExchange cell expected new) answer did → AllHold memory did
  exchanged cell expected new (answers.Flag true) did answered event = elim (eqb_tells (slice_index words.cells cell) expected) [
    | inl p ↦ wrote cell expected new did p.1 event
    | inr q ↦ absurd (let never : answers.Flag true ≡ (if slice_index words.cells cell == expected then answers.Flag true else answers.Word (slice_index words.cells cell)) = answered in
        let word : answers.Flag true ≡ answers.Word (slice_index words.cells cell) =
        never ∙ ap (λ (b : Bool). if b then answers.Flag true else answers.Word (slice_index words.cells cell)) q.0 in cc)
  ]
  exchanged cell expected new (answers.Flag false) did answered event =
      read cell (answers.Flag false) did (refused cell expected new (answers.Flag false) (slice_index words.cells cell == expected) answered) event
  exchanged cell expected new (answers.Word word) did answered event =
      read cell (answers.Word word) did (refused cell expected new (answers.Word word) (slice_index words.cells cell == expected) answered) event
  exchanged cell expected new (answers.Halves setter finder) did answered event =
      read cell (answers.Halves setter finder) did (refused cell expected new (answers.Halves setter finder) (slice_index words.cells cell == expected) answered) event
  exchanged cell expected new answers.Done did answered event =
      read cell answers.Done did (refused cell expected new answers.Done (slice_index words.cells cell == expected) answered) event

  at_clock : (did : List Happening) → (a : Access) × ((did ≡ happenings.Begin a ∷ []) ⊎ (did ≡ happenings.End a ∷ [])) → AllHold memory did
  at_clock did (a, inl begins) = subst (λ (d : List Happening). AllHold memory d) (sym begins) (tt, tt)
  at_clock did (a, inr ends) = subst (λ (d : List Happening). AllHold memory d) (sym ends) (tt, tt)

  lock_tried : (lock holder : ℕ) (answer : Answer) (did : List Happening) → IsEvent s before (LockTry lock holder) answer did → AllHold memory did
  lock_tried lock holder (answers.Flag true) did event = subst (λ (d : List Happening). AllHold memory d) (sym event.4) (tt, tt)
  lock_tried lock holder (answers.Flag false) did event = nothing did event
  lock_tried lock holder (answers.Word word) did event = nothing did event
  lock_tried lock holder (answers.Halves setter finder) did event = nothing did event
  lock_tried lock holder answers.Done did event = nothing did event

  one_record : (step : Step) (answer : Answer) (did : List Happening) → answer ≡ (step_line words step).answer → IsEvent s before step answer did → AllHold memory did
  one_record (Load index) answer did answered event = nothing did event
  one_record (Insert index word) answer did answered event = nothing did event
  one_record (TryConsume index word) answer did answered event = nothing did event
  one_record (Consume index) answer did answered event = nothing did event
  one_record (Remove index) answer did answered event = nothing did event
  one_record (PairLoad index) answer did answered event = nothing did event
  one_record (Name index ticket) answer did answered event = nothing did event
  one_record (Tell index ticket) answer did answered event = nothing did event
  one_record (Clear index) answer did answered event = nothing did event
  one_record (CellLoad cell) answer did answered event = read cell answer did (loaded cell answer answered) event
  one_record (CellExchange cell expected new) answer did answered event = exchanged cell expected new answer did answered event
  one_record (LockTry lock holder) answer did answered event = lock_tried lock holder answer did event
  one_record (LockStore lock) answer did answered event = subst (λ (d : List Happening). AllHold memory d) (sym event.3) (tt, tt)
  one_record Clock answer did answered event = at_clock did event

module _ (run : Run) (records : List Record) (list : Execution run records) (first : (task : ℕ) → AreMarks (did_by (list.tasks task) 0)) where
  abbrev at_first : Memory
  at_first = memory_at_first run.places run.program.variables

  before_steps : (tasks : ℕ) → HistoryHolds at_first (first_moments list tasks)
  before_steps zero = tt
  before_steps (suc task) =
      let memory : Memory = after_moments at_first (first_moments list task) in
      holds_both at_first (first_moments list task) (moments_of task (did_by (list.tasks task) 0)) (before_steps task)
      (holds_its memory task (did_by (list.tasks task) 0) (all_marks memory (did_by (list.tasks task) 0) (first task)))

  held_by : (earlier : List Record) → EachDoesItsEvent list earlier → Legal (first_words run) earlier → HistoryHolds at_first (history_by list earlier)
  held_by [] events legal = before_steps (length run.program.tasks)
  held_by (latest ∷ earlier) events legal =
      let it = events.1 in
      let memory : Memory = memory_after run (history_by list earlier) in
      let its : List Happening = did_next (list.tasks latest.task) (made_by latest.task earlier) in
      let event_holds : AllHold memory it.event =
      one_record (task_setting run latest.task) (did_by (list.tasks latest.task) (made_by latest.task earlier)) (run_cells run) refl
      (cells_are_blocks run.places run.program.variables) (words_after (first_words run) earlier) memory
      (hold_by run records list first earlier events.0 legal.0) latest.step latest.answer it.event legal.1.answer it.is_event in
      let all : AllHold memory its = subst (λ (d : List Happening). AllHold memory d) (sym it.all)
      (all_both memory it.event it.marks event_holds (all_marks (after_did memory it.event) it.marks it.are_marks)) in
      holds_both at_first (history_by list earlier) (moments_of latest.task its) (held_by earlier events.0 legal.0) (holds_its memory latest.task its all)

if_some : (history : History) (k : ℕ) (P Q : Moment → Type 0) → ((moment : Moment) → P moment → Q moment) → IfSome (slice_get history k) P → IfSome (slice_get history k) Q
if_some [] k P Q each h = tt
if_some (first ∷ history) zero P Q each h = each first h
if_some (first ∷ history) (suc k) P Q each h = if_some history k P Q each h

pub reads_hold : (run : Run) (records : List Record) (list : Execution run records) → ((task : ℕ) → AreMarks (did_by (list.tasks task) 0))
    → EachDoesItsEvent list records → ReadsHold (memory_at_first run.places run.program.variables) (history_of list)
reads_hold run records list first events k =
    let initial : Memory = memory_at_first run.places run.program.variables in
    if_some (history_of list) k _ _ (λ moment h. at_place initial (history_of list) k moment.happening h)
    (now_at initial (history_of list) (held_by run records list first records events list.legal) k)
