-- Each record keeps the cells what memory holds: by the steps that load and exchange them.
use Rattle.std.proofs.Common.{◌≡◌, ◌≢◌, ◌∙◌, ◌⊎◌, ◌<◌, ◌≤◌, ◌+◌, ◌-◌, ◌*◌, ◌/◌, ◌%◌, ◌^◌, ◌++◌, ◌==◌, ◌&&◌, inl, inr, ℕ, zero, suc, Bool, true, false}
use Rattle.std.proofs.Common.{List, [], ◌∷◌, Option, None, Some, ap, arith, length, nat_le, option_map, position, refl, subst, sym, if◌then◌else◌}
use Rattle.std.specs.Prelude.{slice_index, slice_set, take}
use Rattle.std.proofs.lemmas.Bool.{cases_lt}
use Rattle.std.proofs.lemmas.Bool.Decides.{eqb_tells, leb_tells}
use Rattle.std.proofs.lemmas.List.{get_or-map, get_or-set_other, get_or-set_same, set-get_or}
use Rattle.std.proofs.lemmas.List.Quantifiers.{position-Some}
use Rattle.std.proofs.lemmas.Option.{same_Some}
use Rattle.access_types.specs.Access.{Access}
use Rattle.access_types.specs.History.{History, Memory, after_moments, byte_of, content, laid, value_from}
use Rattle.access_types.specs.Race.{bytes_of}
use Rattle.access_types.specs.declared.history.Happening.{Happening}
use Rattle.access_types.specs.declared.history.Happening.TheVariants as happenings
use Rattle.litmus_semantics.specs.Layout.{initial_values, memory_at_first}
use Rattle.access_run.specs.memory_operation.Values.{with_value}
use Rattle.access_run.proofs.memory_operation.WordLemmas.{range_is}
use Rattle.setup_access.specs.Setting as checks
use Rattle.setup_access.specs.Values.{has_value, lies_in, source_in, source_of, value_in}
use Rattle.setup_access.specs.declared.source.Source.{Source}
use Rattle.slot_table.specs.Records.{Follows, Legal, words_after}
use Rattle.slot_table.specs.StepLine.{Names, step_line}
use Rattle.slot_table.specs.Words.{Words}
use Rattle.slot_table.specs.declared.records.Record.{Record}
use Rattle.slot_table.specs.declared.step.Answer.{Answer}
use Rattle.slot_table.specs.declared.step.Answer.TheVariants as answers
use Rattle.slot_table.specs.declared.step.Step.{Step}
use Rattle.slot_table.specs.declared.step.Step.TheVariants.{CellExchange, CellLoad, Clear, Clock, Consume, Insert, Load, LockStore, LockTry, Name, PairLoad, Remove, Tell, TryConsume}
use Rattle.program_order.specs.Standing.{Setting, checks_of}
use Rattle.program_order.specs.TaskObserved.{did_by, did_next}
use Rattle.executions.specs.execution.Run.{Run, first_words, task_setting}
use Rattle.executions.specs.execution.Execution.{Execution}
use Rattle.executions.specs.execution.Observed.{first_moments, history_by, history_of, made_by, moments_of}
use Rattle.soundness.specs.Events.{AreMarks, EachDoesItsEvent, IsEvent, ReadsAtMost, Writes}
use Rattle.soundness.specs.Cells.{CellsHold, memory_after, run_cells}
use Rattle.soundness.proofs.CellBlocks.{AreBlocks, apart, cells_are_blocks}
use Rattle.soundness.proofs.Memories.{after_both, after_did, after_history, after_its, after_marks, first_bytes, laid_inside, laid_outside}
use Rattle.soundness.proofs.WordBytes.{byte_of_value, placed_there, stays_above, stays_below, value_of_bytes, with_bytes}

-- the bytes of an access lie in the cell of its source, from its first byte on
pub record LiesIn (cells : List ℕ) (a : Access) (source : Source) : Type 0 where
  pub there : source.cell < length cells
  pub from : a.addr ≡ slice_index cells source.cell + source.first
  pub fits : source.first + a.size ≤ 8

both_true : (x y : Bool) → (x && y) ≡ true → (x ≡ true) × (y ≡ true)
both_true true y is = (refl, is)
both_true false y is = absurd (cc)

le_of : (n m : ℕ) → nat_le n m ≡ true → n ≤ m
le_of n m is = elim (leb_tells n m) [
  | inl p ↦ p.1
  | inr q ↦ absurd (let never : true ≡ false = sym is ∙ q.0 in cc)
]

module _ (s : checks.Setting) (a : Access) (source : Source) where
  by_position : (found : Option ℕ) → position (lies_in a) s.cells ≡ found → option_map (source_in s a) found ≡ Some source → LiesIn s.cells a source
  by_position None is same = absurd (cc)
  by_position (Some cell) is same =
      let at = position-Some (lies_in a) s.cells cell 0 is in
      let base : ℕ = slice_index s.cells cell in
      let in_cell = both_true (nat_le base a.addr) (nat_le (a.addr + a.size) (base + 8)) at.1 in
      let low : base ≤ a.addr = le_of base a.addr in_cell.0 in
      let high : a.addr + a.size ≤ base + 8 = le_of (a.addr + a.size) (base + 8) in_cell.1 in
      let it : LiesIn s.cells a (source_in s a cell) = record { there = at.0; from = omega (arith, low); fits = omega (arith, low, high) } in
      subst (λ (o : Source). LiesIn s.cells a o) (same_Some (source_in s a cell) source same) it

  by_size : (sized : Bool) → (if sized then option_map (source_in s a) (position (lies_in a) s.cells) else None) ≡ Some source → LiesIn s.cells a source
  by_size true same = by_position (position (lies_in a) s.cells) refl same
  by_size false same = absurd (cc)

  pub lies_there : source_of s a ≡ Some source → LiesIn s.cells a source
  lies_there is = by_size (has_value a.size) is

-- a value in the place of some bytes, by bytes
with_is : (a : Access) (source : Source) (old value : ℕ) → with_value a source old value ≡ with_bytes old value source.first a.size
with_is a source old value =
    ap (λ b. old - old / b % 2 ^ (8 * a.size) * b + value * b) (sym (range_is source.first))
    ∙ ap (λ c. old - old / 256 ^ source.first % c * 256 ^ source.first + value * 256 ^ source.first) (sym (range_is a.size))

module _ (cells : List ℕ) (blocks : AreBlocks cells) (memory : Memory) (words : List ℕ) (holds : CellsHold cells memory words) where
  -- memory has the value of the bytes that lie in a cell
  pub value_there : (a : Access) (source : Source) → LiesIn cells a source → value_from memory a.addr a.size ≡ value_in a source (slice_index words source.cell)
  value_there a source lies =
      let base : ℕ = slice_index cells source.cell in
      let word : ℕ = slice_index words source.cell in
      let from : a.addr ≡ base + source.first = lies.from in
      let fits : source.first + a.size ≤ 8 = lies.fits in
      value_of_bytes memory word a.size a.addr source.first
      (λ offset below. ap memory (let same : a.addr + offset ≡ base + (source.first + offset) = omega (arith, from) in same)
      ∙ holds source.cell (source.first + offset) lies.there (omega (arith, fits, below)))
      ∙ (ap (λ b. word / b % 256 ^ a.size) (range_is source.first) ∙ ap (λ c. word / 2 ^ (8 * source.first) % c) (range_is a.size))

  -- a write into a cell
  module _ (a : Access) (source : Source) (value : ℕ) (lies : LiesIn cells a source) (value_fits : value < 256 ^ a.size) where
    abbrev base : ℕ
    base = slice_index cells source.cell

    abbrev old : ℕ
    old = slice_index words source.cell

    abbrev new : ℕ
    new = with_value a source old value

    by_bytes : (offset : ℕ) → byte_of new offset ≡ byte_of (with_bytes old value source.first a.size) offset
    by_bytes offset = ap (λ n. byte_of n offset) (with_is a source old value)

    here : (offset : ℕ) → offset < 8 → laid memory (bytes_of a) value (base + offset) ≡ byte_of new offset
    here offset below = elim (cases_lt offset source.first) [
      | inl before ↦
          let from : a.addr ≡ base + source.first = lies.from in
          laid_outside memory (bytes_of a) value (base + offset) (inl (omega (arith, from, before)))
          ∙ (holds source.cell offset lies.there below
          ∙ (sym (stays_below old value source.first a.size offset before) ∙ sym (by_bytes offset)))
      | inr from_on ↦ elim (cases_lt offset (source.first + a.size)) [
        | inl within ↦
            let from : a.addr ≡ base + source.first = lies.from in
            let k : ℕ = offset - source.first in
            let same : base + offset ≡ a.addr + k = omega (arith, from, from_on) in
            let is : source.first + k ≡ offset = omega (arith, from_on) in
            ap (λ n. laid memory (bytes_of a) value n) same
            ∙ (laid_inside memory (bytes_of a) value k (omega (arith, from_on, within))
            ∙ (sym (placed_there old value source.first a.size k (omega (arith, from_on, within)))
            ∙ (ap (λ n. byte_of (with_bytes old value source.first a.size) n) is ∙ sym (by_bytes offset))))
        | inr after ↦
            let from : a.addr ≡ base + source.first = lies.from in
            let k : ℕ = offset - (source.first + a.size) in
            let is : source.first + (a.size + k) ≡ offset = omega (arith, after) in
            laid_outside memory (bytes_of a) value (base + offset) (inr (omega (arith, from, after)))
            ∙ (holds source.cell offset lies.there below
            ∙ (ap (λ n. byte_of old n) (sym is)
            ∙ (sym (stays_above old value source.first a.size k value_fits)
            ∙ (ap (λ n. byte_of (with_bytes old value source.first a.size) n) is ∙ sym (by_bytes offset)))))
      ]
    ]

    elsewhere : (cell offset : ℕ) → cell < length cells → cell ≢ source.cell → offset < 8
        → laid memory (bytes_of a) value (slice_index cells cell + offset) ≡ byte_of (slice_index words cell) offset
    elsewhere cell offset below differs small =
        let from : a.addr ≡ base + source.first = lies.from in
        let fits : source.first + a.size ≤ 8 = lies.fits in
        let outside : (slice_index cells cell + offset < a.addr) ⊎ (a.addr + a.size ≤ slice_index cells cell + offset) =
        elim (apart cells blocks cell source.cell below lies.there differs) [
          | inl before ↦ inl (omega (arith, from, before, small))
          | inr after ↦ inr (omega (arith, from, fits, after))
        ] in
        laid_outside memory (bytes_of a) value (slice_index cells cell + offset) outside ∙ holds cell offset below small

    pub written : source.cell < length words → CellsHold cells (laid memory (bytes_of a) value) (slice_set words source.cell new)
    written within cell offset below small = elim (eqb_tells cell source.cell) [
      | inl p ↦
          let same : cell ≡ source.cell = p.1 in
          let word : slice_index (slice_set words source.cell new) source.cell ≡ new = get_or-set_same words source.cell new 0 within in
          subst (λ c. laid memory (bytes_of a) value (slice_index cells c + offset) ≡ byte_of (slice_index (slice_set words source.cell new) c) offset) (sym same)
          (here offset small ∙ ap (λ w. byte_of w offset) (sym word))
      | inr q ↦ elsewhere cell offset below q.1 small
          ∙ ap (λ w. byte_of w offset) (sym (get_or-set_other words source.cell cell new 0 q.1))
    ]

-- one record
module _ (s : Setting) (before : List Happening) (cells : List ℕ) (same_cells : (checks_of s).cells ≡ cells) (blocks : AreBlocks cells) (words : Words)
    (memory : Memory) (holds : CellsHold cells memory words.cells) where
  -- where memory and the cells stay as they are
  stays : (did : List Happening) (after : List ℕ) → after_did memory did ≡ memory → after ≡ words.cells → CellsHold cells (after_did memory did) after
  stays did after same_memory same_words =
      subst (λ (m : Memory). CellsHold cells m after) (sym same_memory) (subst (λ (w : List ℕ). CellsHold cells memory w) (sym same_words) holds)

  nothing : (did : List Happening) → did ≡ [] → after_did memory did ≡ memory
  nothing did is = ap (λ (d : List Happening). after_did memory d) is

  read : (cell : ℕ) (answer : Answer) (did : List Happening) → ReadsAtMost s cell answer did → after_did memory did ≡ memory
  read cell answer did (inl none) = nothing did none
  read cell answer did (inr reads) = ap (λ (d : List Happening). after_did memory d) reads.is

  at_clock : (did : List Happening) → (a : Access) × ((did ≡ happenings.Begin a ∷ []) ⊎ (did ≡ happenings.End a ∷ [])) → after_did memory did ≡ memory
  at_clock did (a, inl begins) = ap (λ (d : List Happening). after_did memory d) begins
  at_clock did (a, inr ends) = ap (λ (d : List Happening). after_did memory d) ends

  same_cell : (cell : ℕ) → slice_set words.cells cell (slice_index words.cells cell) ≡ words.cells
  same_cell cell = set-get_or words.cells cell 0

  -- what an accepted exchange wrote
  wrote : (did : List Happening) (a : Access) (was value : ℕ)
      → (did ≡ happenings.Write (bytes_of a) value ∷ []) ⊎ (did ≡ happenings.Read (bytes_of a) was ∷ happenings.Write (bytes_of a) value ∷ [])
      → after_did memory did ≡ laid memory (bytes_of a) value
  wrote did a was value (inl is) = ap (λ (d : List Happening). after_did memory d) is
  wrote did a was value (inr is) = ap (λ (d : List Happening). after_did memory d) is

  exchanged : (cell expected new : ℕ) (did : List Happening) → cell < length words.cells → Writes s cell expected new did → slice_index words.cells cell ≡ expected
      → CellsHold cells (after_did memory did) (slice_set words.cells cell new)
  exchanged cell expected new did within writes is =
      let a : Access = writes.access in
      let source : Source = writes.source in
      let old : ℕ = slice_index words.cells source.cell in
      let lies : LiesIn cells a source = subst (λ (c : List ℕ). LiesIn c a source) same_cells (lies_there (checks_of s) a source writes.lies) in
      let there : source.cell ≡ cell = writes.there in
      let holds_old : expected ≡ old = sym is ∙ ap (λ n. slice_index words.cells n) (sym there) in
      let new_is : new ≡ with_value a source old writes.value = writes.lays ∙ ap (λ n. with_value a source n writes.value) holds_old in
      let in_words : source.cell < length words.cells = subst (λ n. n < length words.cells) (sym there) within in
      let done : CellsHold cells (laid memory (bytes_of a) writes.value) (slice_set words.cells source.cell (with_value a source old writes.value)) =
      written cells blocks memory words.cells holds a source writes.value lies writes.fits in_words in
      subst (λ (m : Memory). CellsHold cells m (slice_set words.cells cell new)) (sym (wrote did a (value_in a source expected) writes.value writes.is))
      (subst (λ n. CellsHold cells (laid memory (bytes_of a) writes.value) (slice_set words.cells cell n)) (sym new_is)
      (subst (λ n. CellsHold cells (laid memory (bytes_of a) writes.value) (slice_set words.cells n (with_value a source old writes.value))) there done))

  exchange : (accepted : Bool) (cell expected new : ℕ) (answer : Answer) (did : List Happening) → (slice_index words.cells cell == expected) ≡ accepted
      → (slice_index words.cells cell ≡ expected) ⊎ (accepted ≡ false) → cell < length words.cells
      → answer ≡ (if accepted then answers.Flag true else answers.Word (slice_index words.cells cell))
      → IsEvent s before (CellExchange cell expected new) answer did
      → CellsHold cells (after_did memory did) (slice_set words.cells cell (if accepted then new else slice_index words.cells cell))
  exchange true cell expected new (answers.Flag true) did is (inl same) within answered event = exchanged cell expected new did within event same
  exchange true cell expected new (answers.Flag true) did is (inr never) within answered event = absurd (cc)
  exchange true cell expected new (answers.Flag false) did is same within answered event = absurd (cc)
  exchange true cell expected new (answers.Word word) did is same within answered event = absurd (cc)
  exchange true cell expected new (answers.Halves setter finder) did is same within answered event = absurd (cc)
  exchange true cell expected new answers.Done did is same within answered event = absurd (cc)
  exchange false cell expected new (answers.Flag true) did is same within answered event = absurd (cc)
  exchange false cell expected new (answers.Flag false) did is same within answered event = absurd (cc)
  exchange false cell expected new (answers.Word word) did is same within answered event =
      stays did _ (read cell (answers.Word word) did event) (same_cell cell)
  exchange false cell expected new (answers.Halves setter finder) did is same within answered event = absurd (cc)
  exchange false cell expected new answers.Done did is same within answered event = absurd (cc)

  -- an exchange as its line says
  by_line : (cell expected new : ℕ) (answer : Answer) (did : List Happening) → cell < length words.cells
      → answer ≡ (step_line words (CellExchange cell expected new)).answer → IsEvent s before (CellExchange cell expected new) answer did
      → CellsHold cells (after_did memory did) (step_line words (CellExchange cell expected new)).after.cells
  by_line cell expected new answer did within answered event =
      let old : ℕ = slice_index words.cells cell in
      let told : (old ≡ expected) ⊎ ((old == expected) ≡ false) = elim (eqb_tells old expected) [ inl p ↦ inl p.1 | inr q ↦ inr q.0 ] in
      exchange (old == expected) cell expected new answer did refl told within answered event

  lock_tried : (lock holder : ℕ) (answer : Answer) (did : List Happening) → IsEvent s before (LockTry lock holder) answer did → after_did memory did ≡ memory
  lock_tried lock holder (answers.Flag true) did event = ap (λ (d : List Happening). after_did memory d) event.4
  lock_tried lock holder (answers.Flag false) did event = nothing did event
  lock_tried lock holder (answers.Word word) did event = nothing did event
  lock_tried lock holder (answers.Halves setter finder) did event = nothing did event
  lock_tried lock holder answers.Done did event = nothing did event

  pub one_record : (step : Step) (answer : Answer) (did : List Happening) → Names words step → answer ≡ (step_line words step).answer
      → IsEvent s before step answer did → CellsHold cells (after_did memory did) (step_line words step).after.cells
  one_record (Load index) answer did names answered event = stays did words.cells (nothing did event) refl
  one_record (Insert index word) answer did names answered event = stays did words.cells (nothing did event) refl
  one_record (TryConsume index word) answer did names answered event = stays did words.cells (nothing did event) refl
  one_record (Consume index) answer did names answered event = stays did words.cells (nothing did event) refl
  one_record (Remove index) answer did names answered event = stays did words.cells (nothing did event) refl
  one_record (PairLoad index) answer did names answered event = stays did words.cells (nothing did event) refl
  one_record (Name index ticket) answer did names answered event = stays did words.cells (nothing did event) refl
  one_record (Tell index ticket) answer did names answered event = stays did words.cells (nothing did event) refl
  one_record (Clear index) answer did names answered event = stays did words.cells (nothing did event) refl
  one_record (CellLoad cell) answer did names answered event = stays did _ (read cell answer did event) (same_cell cell)
  one_record (CellExchange cell expected new) answer did names answered event = by_line cell expected new answer did names answered event
  one_record (LockTry lock holder) answer did names answered event = stays did words.cells (lock_tried lock holder answer did event) refl
  one_record (LockStore lock) answer did names answered event =
      stays did words.cells (ap (λ (d : List Happening). after_did memory d) event.3) refl
  one_record Clock answer did names answered event = stays did words.cells (at_clock did event) refl

module _ (run : Run) (records : List Record) (list : Execution run records) (first : (task : ℕ) → AreMarks (did_by (list.tasks task) 0)) where
  abbrev at_first : Memory
  at_first = memory_at_first run.places run.program.variables

  before_steps : (tasks : ℕ) → after_moments at_first (first_moments list tasks) ≡ at_first
  before_steps zero = refl
  before_steps (suc task) =
      after_history at_first (first_moments list task) (moments_of task (did_by (list.tasks task) 0))
      ∙ (ap (λ (m : Memory). after_moments m (moments_of task (did_by (list.tasks task) 0))) (before_steps task)
      ∙ (after_its at_first task (did_by (list.tasks task) 0) ∙ after_marks at_first (did_by (list.tasks task) 0) (first task)))

  cells_at_start : CellsHold (run_cells run) at_first (first_words run).cells
  cells_at_start cell offset below small =
      let base : ℕ = slice_index (run_cells run) cell in
      let word : slice_index (first_words run).cells cell ≡ value_from at_first base 8 =
      get_or-map (λ (c : ℕ). value_from at_first c 8) (run_cells run) cell 0 0 below in
      sym (ap (λ w. byte_of w offset) word
      ∙ byte_of_value at_first (first_bytes (initial_values run.places 0 run.program.variables)) 8 base offset small)

  -- with one record more
  goes_on : (latest : Record) (earlier : List Record) → EachDoesItsEvent list (latest ∷ earlier) → Follows (words_after (first_words run) earlier) latest
      → CellsHold (run_cells run) (memory_after run (history_by list earlier)) (words_after (first_words run) earlier).cells
      → CellsHold (run_cells run) (memory_after run (history_by list (latest ∷ earlier))) (words_after (first_words run) (latest ∷ earlier)).cells
  goes_on latest earlier events follows holds =
      let it = events.1 in
      let its : List Happening = did_next (list.tasks latest.task) (made_by latest.task earlier) in
      let memory : Memory = memory_after run (history_by list earlier) in
      let words : Words = words_after (first_words run) earlier in
      let done : CellsHold (run_cells run) (after_did memory it.event) (step_line words latest.step).after.cells =
      one_record (task_setting run latest.task) (did_by (list.tasks latest.task) (made_by latest.task earlier)) (run_cells run) refl
      (cells_are_blocks run.places run.program.variables) words memory holds latest.step latest.answer it.event follows.names follows.answer it.is_event in
      let same : memory_after run (history_by list (latest ∷ earlier)) ≡ after_did memory it.event =
      after_history at_first (history_by list earlier) (moments_of latest.task its)
      ∙ (after_its memory latest.task its
      ∙ (ap (λ (d : List Happening). after_did memory d) it.all
      ∙ (after_both memory it.event it.marks ∙ after_marks (after_did memory it.event) it.marks it.are_marks))) in
      subst (λ (m : Memory). CellsHold (run_cells run) m (step_line words latest.step).after.cells) (sym same) done

  pub hold_by : (earlier : List Record) → EachDoesItsEvent list earlier → Legal (first_words run) earlier
      → CellsHold (run_cells run) (memory_after run (history_by list earlier)) (words_after (first_words run) earlier).cells
  hold_by [] events legal =
      subst (λ (m : Memory). CellsHold (run_cells run) m (first_words run).cells) (sym (before_steps (length run.program.tasks))) cells_at_start
  hold_by (latest ∷ earlier) events legal = goes_on latest earlier events legal.1 (hold_by earlier events.0 legal.0)

  pub events_from : (later earlier : List Record) → EachDoesItsEvent list (later ++ earlier) → EachDoesItsEvent list earlier
  events_from [] earlier events = events
  events_from (latest ∷ later) earlier events = events_from later earlier events.0

  pub legal_from : (later earlier : List Record) → Legal (first_words run) (later ++ earlier) → Legal (first_words run) earlier
  legal_from [] earlier legal = legal
  legal_from (latest ∷ later) earlier legal = legal_from later earlier legal.0

  pub hold_at : EachDoesItsEvent list records → (later earlier : List Record) → records ≡ later ++ earlier
      → CellsHold (run_cells run) (memory_after run (history_by list earlier)) (words_after (first_words run) earlier).cells
  hold_at events later earlier is =
      hold_by earlier (events_from later earlier (subst (λ (r : List Record). EachDoesItsEvent list r) is events))
      (legal_from later earlier (subst (λ (r : List Record). Legal (first_words run) r) is list.legal))

taken_all : (history : History) → take (length history) history ≡ history
taken_all [] = refl
taken_all (moment ∷ history) = ap (λ (h : History). moment ∷ h) (taken_all history)

-- so the content of an access's bytes is their value in the word
pub value_at : (run : Run) (records : List Record) (list : Execution run records)
    → CellsHold (run_cells run) (memory_after run (history_of list)) (words_after (first_words run) records).cells
    → (task : ℕ) (a : Access) (source : Source) → source_of (checks_of (task_setting run task)) a ≡ Some source
    → content (memory_at_first run.places run.program.variables) (history_of list) (length (history_of list)) (bytes_of a)
    ≡ value_in a source (slice_index (words_after (first_words run) records).cells source.cell)
value_at run records list holds task a source is =
    ap (λ (h : History). value_from (memory_after run h) a.addr a.size) (taken_all (history_of list))
    ∙ value_there (run_cells run) (cells_are_blocks run.places run.program.variables) (memory_after run (history_of list))
    (words_after (first_words run) records).cells holds a source (lies_there (checks_of (task_setting run task)) a source is)
