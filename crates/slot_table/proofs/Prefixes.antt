-- The records of a list in the order in which they were made, as a list with the latest first.
use Rattle.std.proofs.Common.{◌≡◌, ◌≢◌, ◌<◌, ◌≤◌, ◌↔◌, ◌+◌, inl, inr, ℕ, Bool, false, IsTrue, List}
use Rattle.std.proofs.Common.{[], ◌∷◌, ◌++◌, cond, drop, get_or, length, reverse, take, sym, ap}
use Rattle.std.proofs.Common.{◌∙◌, subst}
use Rattle.std.proofs.lemmas.Bool.{eq-eqb, false≢true, ne_eqb}
use Rattle.std.proofs.lemmas.Bool.Decides.{eqb_tells}
use Rattle.std.proofs.lemmas.List.{reverse-append, take-append-drop, take_all, take_more}
use Rattle.slot_table.specs.Discipline.{AllKeepDiscipline, Allows, Discipline}
use Rattle.slot_table.specs.Records.{Follows, records_of}
use Rattle.slot_table.specs.StepLine.{step_line}
use Rattle.slot_table.specs.Words.{Words}
use Rattle.slot_table.specs.declared.records.Record.{Record}
use Rattle.slot_table.proofs.Lists.{Keeps, allowed_at, keeps_before, words_of}

-- one more record is the latest
pub reverse_more : {X : Type 0} (made : List X) (index : ℕ) (d : X)
    → index < length made
    → reverse (take (index + 1) made) ≡ get_or made index d ∷ reverse (take index made)
reverse_more made index d within =
    rw (take_more made index d within) (reverse-append (take index made) (get_or made index d ∷ []))

-- what is said of a task's own records
module _ {X : Type 0} (F : List Record → X) (made : List Record) (index task : ℕ) where
  abbrev said : ℕ → X
  said count = F (records_of task (reverse (take count made)))

  -- one more record of the task
  pub more_here : (d : Record) (next : X)
      → index < length made → (get_or made index d).task ≡ task
      → next ≡ F (get_or made index d ∷ records_of task (reverse (take index made)))
      → next ≡ said (index + 1)
  more_here d next within is e =
      rw (reverse_more made index d within, eq-eqb (get_or made index d).task task is) e

  -- one more record of another task
  pub more_other : (d : Record) (next : X)
      → index < length made → (get_or made index d).task ≢ task → next ≡ said index
      → next ≡ said (index + 1)
  more_other d next within differs e =
      rw (reverse_more made index d within, ne_eqb (get_or made index d).task task differs) e

  -- all records
  pub all_made : (now : X)
      → length made ≤ index → now ≡ said index → now ≡ F (records_of task (reverse made))
  all_made now past e = rw (take_all index made past) at e

-- one more record that is allowed
kept_more : (latest : Record) (earlier : List Record)
    → AllKeepDiscipline earlier → Allows latest.task (records_of latest.task earlier) latest.step
    → AllKeepDiscipline (latest ∷ earlier)
kept_more latest earlier keeps allows = λ task. elim (eqb_tells latest.task task) [
  | inl same ↦
      let own : List Record = records_of task earlier in
      let allowed : Allows task own latest.step = rw same.1 at allows in
      let P : Bool → Type 0 = λ b. Discipline task (cond b (latest ∷ own) own) in
      subst P (sym same.0) (keeps task, allowed)
  | inr apart ↦
      let own : List Record = records_of task earlier in
      let P : Bool → Type 0 = λ b. Discipline task (cond b (latest ∷ own) own) in
      subst P (sym apart.0) (keeps task)
]

-- the records up to an index, the latest first, end a whole list
parts : (made : List Record) (index : ℕ)
    → reverse made ≡ reverse (drop index made) ++ reverse (take index made)
parts made index =
    ap (λ (l : List Record). reverse l) (sym (take-append-drop index made))
    ∙ reverse-append (take index made) (drop index made)

-- a list in the order in which it was made, from a new board on, and the record at an index of it
module _ (page_slots locks : ℕ) (cells : List ℕ) (made : List Record) (index : ℕ) (d : Record) where
  abbrev latest : Record
  latest = get_or made index d

  abbrev earlier : List Record
  earlier = reverse (take index made)

  abbrev Rules : List Record → Type 0
  Rules records = Keeps page_slots locks cells records

  abbrev words : Words
  words = words_of page_slots locks cells earlier

  -- the record follows on these words, and its task may make it
  abbrev pub May : Words → Type 0
  May board = Follows board latest × Allows latest.task (records_of latest.task earlier) latest.step

  -- what holds of a whole list holds of its earlier records
  rules_before : (later before : List Record) → Rules (later ++ before) → Rules before
  rules_before [] before rules = rules
  rules_before (last ∷ later) before rules =
      rules_before later before (keeps_before page_slots locks cells last (later ++ before) rules)

  -- where one record breaks the rules, the list does
  pub refused : index < length made → (May words → ⊥) → Rules (reverse made) → ⊥
  refused within breaks rules =
      let whole = subst Rules (parts made (index + 1)) rules in
      let now =
      rules_before (reverse (drop (index + 1) made)) (reverse (take (index + 1) made)) whole in
      let here = subst Rules (reverse_more made index d within) now in
      breaks (here.legal.1, allowed_at latest earlier here.keeps)

  -- a record that was refused on the words before it
  pub refused_at : (board : Words) (holds : Bool)
      → index < length made → board ≡ words → holds ≡ false → (IsTrue holds ↔ May board)
      → Rules (reverse made) → ⊥
  refused_at board holds within stands fails rules =
      refused within (λ may.
      false≢true (sym fails ∙ rules.1 (subst (λ (on : Words). May on) (sym stands) may)))

  -- a record that was not
  pub accepted_at : (board next : Words)
      → index < length made → board ≡ words → Rules earlier → May board
      → next ≡ (step_line board latest.step).after
      → (next ≡ words_of page_slots locks cells (reverse (take (index + 1) made)))
      × Rules (reverse (take (index + 1) made))
  accepted_at board next within stands rules may after =
      let on = subst (λ (on : Words). May on) stands may in
      let Q : List Record → Type 0 =
      λ l. (next ≡ words_of page_slots locks cells l) × Rules l in
      subst Q (sym (reverse_more made index d within)) (
        after ∙ ap (λ (on : Words). (step_line on latest.step).after) stands,
        record { legal = (rules.legal, on.0); keeps = kept_more latest earlier rules.keeps on.1 },
      )
