-- The one fact that keeps the rule for every kind of step: a legal list followed by the record of a
-- step on its words is legal.
use Rattle.std.proofs.Common.{◌≡◌, ◌≢◌, ⊎_elim, ℕ, ◌<◌, ◌^◌, List, [], ◌∷◌, All, length, set, get_or, refl, sym, ap, ◌∙◌, subst, arith}
use Rattle.std.proofs.lemmas.Bool.{eq-eqb}
use Rattle.std.proofs.lemmas.Bool.Decides.{eqb_tells}
use Rattle.std.proofs.lemmas.List.{length-map, length-replicate, length-set}
use Rattle.std.proofs.lemmas.List.Elements.{All-cons, All-head, All-nil, All-weaker}
use mathlib.Core.Option.{some}
use lib.ListN.{get_elem?}
use Rattle.atomic_table.specs.Table.{Allows as AllowsStep, State, keeps as leaves_slots}
use Rattle.atomic_table.proofs.Lists.{at_set}
use Rattle.slot_table.specs.Discipline.{AllKeepDiscipline, Allows, Discipline, LegalInDiscipline}
use Rattle.slot_table.specs.Records.{Follows, records_of, words_after}
use Rattle.slot_table.specs.StepLine.{Names, step_line}
use Rattle.slot_table.specs.Words.{Words}
use Rattle.slot_table.specs.declared.records.Record.{Record}
use Rattle.slot_table.specs.declared.step.Answer.{Answer}
use Rattle.slot_table.specs.declared.step.Step.{Step}
use Rattle.slot_table.specs.declared.step.Step.TheVariants.{Load, Insert, TryConsume, Consume}
use Rattle.slot_table.specs.declared.step.Step.TheVariants.{Remove, PairLoad, Name, Tell, Clear}
use Rattle.slot_table.specs.declared.step.Step.TheVariants.{CellLoad, CellExchange, LockTry}
use Rattle.slot_table.specs.declared.step.Step.TheVariants.{LockStore, Clock}
use Rattle.shared_table.specs.Given.{Given, first_words}
use Rattle.shared_table.specs.Plays.{Me, Notes}
use Rattle.slot.specs.Pair.{unnamed}
use Rattle.shared_table.specs.Row.{cells_from, halves_in, indices, locks_from, pairs_from, row_length, section, words_in}
use Rattle.shared_table.specs.RunningWords.{IsHeld, IsHeldByNobody, RunningWords}
use Rattle.shared_table.specs.Touches.{HasList, NotesAndKeeps}
use Rattle.shared_table.specs.Views.{alone, noted}
use Rattle.shared_table.specs.declared.view.Held.{Held}
use Rattle.shared_table.specs.declared.view.View.{View}
use Rattle.shared_table.proofs.Nobody.{before_change, set_over}
use Rattle.shared_table.proofs.Sections.{section_length}

-- a step names words of whatever has as many
record SameLengths (a b : Words) : Type 0 where
  watch : length b.watch_words ≡ length a.watch_words
  pair : length b.pair_words ≡ length a.pair_words
  cell : length b.cells ≡ length a.cells
  lock : length b.locks ≡ length a.locks

names_by : (a b : Words) (step : Step) → SameLengths a b → Names a step → Names b step
names_by a b (Load i) same h = omega (arith, same.watch)
names_by a b (Insert i w) same h = (omega (arith, same.watch, h.0), h.1)
names_by a b (TryConsume i w) same h = (omega (arith, same.watch, h.0), h.1)
names_by a b (Consume i) same h = omega (arith, same.watch)
names_by a b (Remove i) same h = omega (arith, same.watch)
names_by a b (PairLoad i) same h = omega (arith, same.pair)
names_by a b (Name i t) same h = omega (arith, same.pair)
names_by a b (Tell i t) same h = omega (arith, same.pair)
names_by a b (Clear i) same h = omega (arith, same.pair)
names_by a b (CellLoad i) same h = omega (arith, same.cell)
names_by a b (CellExchange i e n) same h = omega (arith, same.cell)
names_by a b (LockTry i t) same h = omega (arith, same.lock)
names_by a b (LockStore i) same h = omega (arith, same.lock)
names_by a b Clock same h = tt

-- one more record of a task is one more of its own, and no other's
own_grows : (latest : Record) (earlier : List Record) → records_of latest.task (latest ∷ earlier) ≡ latest ∷ records_of latest.task earlier
own_grows latest earlier = rw (eq-eqb latest.task latest.task refl) refl

others_stay : (latest : Record) (earlier : List Record) (task : ℕ) → latest.task ≢ task → records_of task (latest ∷ earlier) ≡ records_of task earlier
others_stay latest earlier task apart =
    ⊎_elim (λ same. absurd (apart same.1)) (λ other. rw other.0 refl) (eqb_tells latest.task task)

-- what each task keeps, with one more allowed record
module _ (latest : Record) (earlier : List Record) where
  keeps_more : AllKeepDiscipline earlier → Allows latest.task (records_of latest.task earlier) latest.step → AllKeepDiscipline (latest ∷ earlier)
  keeps_more keeps allowed task =
      ⊎_elim
      (λ same. let P : ℕ → Type 0 = λ t. Discipline t (records_of t (latest ∷ earlier)) in
      let D : List Record → Type 0 = λ own. Discipline latest.task own in
      subst P same.1 (subst D (sym (own_grows latest earlier)) (keeps latest.task, allowed)))
      (λ other. let D : List Record → Type 0 = λ own. Discipline task own in
      subst D (sym (others_stay latest earlier task other.1)) (keeps task))
      (eqb_tells latest.task task)

-- a step acts on one word of the row: what stands there changes so, and gives this answer
pub record ActsAs (given : Given) (step : Step) (place : ℕ) (change : ℕ → ℕ) (answer : ℕ → Answer) : Type 0 where
  pub within : place < row_length given
  pub after : (row : List ℕ) → length row ≡ row_length given → get_or row place 0 < 2 ^ 64
      → words_in given (set row place (change (get_or row place 0))) ≡ (step_line (words_in given row) step).after
  pub answers : (row : List ℕ) → length row ≡ row_length given → get_or row place 0 < 2 ^ 64
      → answer (get_or row place 0) ≡ (step_line (words_in given row) step).answer

lengths_in : (given : Given) (row : List ℕ) → length row ≡ row_length given → SameLengths (first_words given) (words_in given row)
lengths_in given row counts = record {
  watch = section_length 0 (indices given) row (omega arith) ∙ sym (length-replicate (indices given) 0);
  pair = length-map (section (pairs_from given) (indices given) row) halves_in ∙ section_length (pairs_from given) (indices given) row (omega arith) ∙ sym (length-replicate (indices given) unnamed);
  cell = section_length (cells_from given) (length given.cells) row (omega arith);
  lock = section_length (locks_from given) given.locks row (omega arith) ∙ sym (length-replicate given.locks 0);
}

module _ (given : Given) (id task : ℕ) (own : List Record) (step : Step) (place : ℕ) (change : ℕ → ℕ) (answer : ℕ → Answer) where
  module _ (below : task < given.tasks) (names : Names (first_words given) step) (allowed : Allows task own step) (acts : ActsAs given step place change answer) where
    abbrev made : ℕ → Record
    made found = record { task = task; step = step; answer = answer found }

    abbrev view_after : ℕ → View
    view_after found = noted (alone given task own) step (answer found)

    abbrev found_in : List ℕ → ℕ
    found_in row = get_or row place 0

    module _ (row : List ℕ) (views : List View) (now : RunningWords given row views) (at : get_elem? views id ≡ some (alone given task own)) (fits : get_or row place 0 < 2 ^ 64) where
      abbrev latest : Record
      latest = made (found_in row)

      mine : IsHeld given now.records now.seat_of id (alone given task own) (record { task = task; records = own })
      mine = All-head (IsHeld given now.records now.seat_of id (alone given task own)) (record { task = task; records = own }) []
          (now.held id (alone given task own) at)

      follows : Follows (words_after (first_words given) now.records) latest
      follows =
          let P : Words → Type 0 = λ words. Follows words latest in
          subst P now.stand (record {
            names = names_by (first_words given) (words_in given row) step (lengths_in given row now.counts) names;
            answer = acts.answers row now.counts fits;
          })

      stands : words_in given (set row place (change (found_in row))) ≡ words_after (first_words given) (latest ∷ now.records)
      stands = acts.after row now.counts fits ∙ ap (λ (words : Words). (step_line words step).after) now.stand

      may : Allows task (records_of task now.records) step
      may = let P : List Record → Type 0 = λ held. Allows task held step in subst P (sym mine.all) allowed

      mine_after : All (IsHeld given (latest ∷ now.records) now.seat_of id (view_after (found_in row))) (view_after (found_in row)).held
      mine_after =
          let P : Held → Type 0 = IsHeld given (latest ∷ now.records) now.seat_of id (view_after (found_in row)) in
          All-cons P (record { task = task; records = latest ∷ own }) []
          (record {
            knows = refl;
            only = mine.only;
            all = own_grows latest now.records ∙ ap (λ (held : List Record). latest ∷ held) mine.all;
          })
          (All-nil P)

      theirs : (seat : ℕ) (view : View) → seat ≢ id → (held : Held) → IsHeld given now.records now.seat_of seat view held
          → IsHeld given (latest ∷ now.records) now.seat_of seat view held
      theirs seat view apart held is = record {
        knows = is.knows;
        only = is.only;
        all = others_stay latest now.records held.task
            (λ same. apart (sym is.only ∙ ap now.seat_of (sym same) ∙ mine.only))
            ∙ is.all;
      }

      held_after : (seat : ℕ) (view : View) → get_elem? (set views id (view_after (found_in row))) seat ≡ some view
          → All (IsHeld given (latest ∷ now.records) now.seat_of seat view) view.held
      held_after seat view is =
          let P : ℕ × View → Type 0 = λ p. All (IsHeld given (latest ∷ now.records) now.seat_of p.0 p.1) p.1.held in
          ⊎_elim
          (λ here. subst P (λ i. (sym here.0 i, here.1 i)) mine_after)
          (λ there.
          All-weaker (IsHeld given now.records now.seat_of seat view) (IsHeld given (latest ∷ now.records) now.seat_of seat view)
          (theirs seat view there.0) view.held (now.held seat view there.1))
          (at_set views id seat (view_after (found_in row)) view is)

      -- a task that nobody holds isn't the one whose step it is, and nobody held it
      is_other : (other : ℕ) → IsHeldByNobody (set views id (view_after (found_in row))) other → task ≢ other
      is_other other nobody =
          All-head (λ (one : Held). one.task ≢ other) (record { task = task; records = latest ∷ own }) []
          (nobody id (view_after (found_in row)) (set_over views id (alone given task own) (view_after (found_in row)) at))

      had_none : (other : ℕ) → IsHeldByNobody (set views id (view_after (found_in row))) other → records_of other now.records ≡ []
      had_none other nobody =
          let P : Held → Type 0 = λ one. one.task ≢ other in
          now.nobody other
          (before_change views id (alone given task own) (view_after (found_in row)) other at
          (λ all. All-cons P (record { task = task; records = own }) [] (is_other other nobody) (All-nil P))
          nobody)

      legal : LegalInDiscipline given.page_slots given.locks given.cells (latest ∷ now.records)
      legal = record { legal = (now.legal.legal, follows); keeps = keeps_more latest now.records now.legal.keeps may }

      pub kept : RunningWords given (set row place (change (found_in row))) (set views id (view_after (found_in row)))
      kept = record {
        records = latest ∷ now.records;
        legal = legal;
        counts = length-set row place (change (found_in row)) ∙ now.counts;
        stand = stands;
        seat_of = now.seat_of;
        held = held_after;
        nobody = λ other nobody. others_stay latest now.records other (is_other other nobody) ∙ had_none other nobody;
        others = λ other past. others_stay latest now.records other (λ same. omega arith) ∙ now.others other past;
      }

    -- the seat notes the one record, and its list is that of the rule
    listed : (row : List ℕ) (views : List View) (now : RunningWords given row views) → get_elem? views id ≡ some (alone given task own)
        → get_or row place 0 < 2 ^ 64 → HasList (view_after (found_in row))
    listed row views now at fits =
        let latest : Record = made (found_in row) in (
          latest ∷ now.records,
          record {
            legal = legal row views now at fits;
            all = own_grows latest now.records ∙ ap (λ (held : List Record). latest ∷ held) (mine row views now at fits).all;
          },
        )

    pub allows : (key : Given) (slots : ℕ) (me : Me) → key ≡ given → me ≡ (alone given task own, [])
        → AllowsStep (λ (state : State (Unit {0}) View). RunningWords key state.words state.views) slots id me place change
        (NotesAndKeeps (λ found after. Notes step (answer found) me after) me)
    allows key slots me is me_is =
        let P : Given × Me → Type 0 = λ p. AllowsStep (λ (state : State (Unit {0}) View). RunningWords p.0 state.words state.views) slots id p.1 place change
        (NotesAndKeeps (λ found after. Notes step (answer found) p.1 after) p.1) in
        subst P (λ i. (sym is i, sym me_is i))
        (λ state now homes at fits. (
          view_after (found_in state.words),
          leaves_slots,
          tt,
          kept state.words state.views now at fits,
          (refl, (step, answer (found_in state.words), refl), listed state.words state.views now at fits),
        ))
