-- What is made of whatever answers come.
use Rattle.std.proofs.Common.{◌≡◌, ◌↔◌, ◌⊎◌, ◌∙◌, ◌++◌, ℕ, Bool, true, false, List, [], ◌∷◌, MatchBool, inl, inr, refl, subst}
use Rattle.setup_access.specs.Parts.{made}
use Rattle.setup_access.specs.Records.{Makes, MakesDone, MakesFlag, MakesWord, OnFlag, OnWord}
use Rattle.slot_table.specs.Answer.{Answers, IsFlag, IsWord}
use Rattle.slot_table.specs.declared.records.Record.{Record}
use Rattle.slot_table.specs.declared.step.Answer.{Answer}
use Rattle.slot_table.specs.declared.step.Answer.TheVariants as answers
use Rattle.slot_table.specs.declared.step.Step.{Step}
use Rattle.task_plan.specs.task_laws.SameStep.{IsAlike}

abbrev pub Lists : Type 1
Lists = List Record → Type 0

abbrev pub SomeIs : Lists → Type 0
SomeIs L = (records : List Record) × L records

-- where a list of the one had another answer somewhere, a list of the other goes on from there
abbrev pub Turns : Lists → Lists → Type 0
Turns E A =
    (front : List Record) (first other : Record) (back : List Record) → E (front ++ first ∷ back) → IsAlike first other
    → (more : List Record) × A (front ++ other ∷ more)

-- and there is a list of the other
pub record Open (E A : Lists) : Type 0 where
  pub some : SomeIs A
  pub turns : Turns E A

pub open_map : (E F A B : Lists) → ((records : List Record) → F records → E records) → ((records : List Record) → A records → B records) → Open E A → Open F B
open_map E F A B into out opens = record {
  some = (opens.some.0, out opens.some.0 opens.some.1);
  turns = λ front first other back h alike.
      let own = opens.turns front first other back (into (front ++ first ∷ back) h) alike in
      (own.0, out (front ++ other ∷ own.0) own.1);
}

-- one record, and what follows on it by its answer
module _ (task : ℕ) (step : Step) (E A : Answer → Lists) (turns : (answer : Answer) → Turns (E answer) (A answer))
    (some : (answer : Answer) → Answers step answer → SomeIs (A answer)) where
  first_turns : Turns (Makes task step E) (Makes task step A)
  first_turns [] first other back h alike =
      let fits : Answers step other.answer = subst (λ (st : Step). Answers st other.answer) h.1 alike.answers in
      let own = some other.answer fits in (own.0, (alike.task ∙ h.0, alike.step ∙ h.1, own.1))
  first_turns (before ∷ front) first other back h alike =
      let own = turns before.answer front first other back h.2 alike in (own.0, (h.0, h.1, own.1))

  pub open_first : (one : Answer) → Answers step one → Open (Makes task step E) (Makes task step A)
  open_first one fits = record {
    some = let own = some one fits in (made task step one ∷ own.0, (refl, refl, own.1));
    turns = first_turns;
  }

module _ (task : ℕ) (step : Step) where
  module _ (E A : ℕ → Lists) (opens : (word : ℕ) → Open (E word) (A word)) where
    abbrev WordE : Answer → Lists
    WordE answer later = OnWord answer (λ word. E word later)

    abbrev WordA : Answer → Lists
    WordA answer later = OnWord answer (λ word. A word later)

    word_turns : (answer : Answer) → Turns (WordE answer) (WordA answer)
    word_turns (answers.Word word) front first other back h alike = (opens word).turns front first other back h alike
    word_turns (answers.Flag flag) front first other back h alike = absurd h
    word_turns (answers.Halves setter finder) front first other back h alike = absurd h
    word_turns answers.Done front first other back h alike = absurd h

    word_some : (answer : Answer) → IsWord answer → SomeIs (WordA answer)
    word_some (answers.Word word) is = (opens word).some
    word_some (answers.Flag flag) is = absurd is
    word_some (answers.Halves setter finder) is = absurd is
    word_some answers.Done is = absurd is

    pub open_word : ((answer : Answer) → Answers step answer → IsWord answer) → Answers step (answers.Word 0)
        → Open (MakesWord task step E) (MakesWord task step A)
    open_word words one = open_first task step WordE WordA word_turns (λ answer fits. word_some answer (words answer fits)) (answers.Word 0) one

  module _ (E A : Bool → Lists) (opens : (flag : Bool) → Open (E flag) (A flag)) where
    abbrev FlagE : Answer → Lists
    FlagE answer later = OnFlag answer (λ flag. E flag later)

    abbrev FlagA : Answer → Lists
    FlagA answer later = OnFlag answer (λ flag. A flag later)

    flag_turns : (answer : Answer) → Turns (FlagE answer) (FlagA answer)
    flag_turns (answers.Word word) front first other back h alike = absurd h
    flag_turns (answers.Flag flag) front first other back h alike = (opens flag).turns front first other back h alike
    flag_turns (answers.Halves setter finder) front first other back h alike = absurd h
    flag_turns answers.Done front first other back h alike = absurd h

    flag_some : (answer : Answer) → IsFlag answer → SomeIs (FlagA answer)
    flag_some (answers.Word word) is = absurd is
    flag_some (answers.Flag flag) is = (opens flag).some
    flag_some (answers.Halves setter finder) is = absurd is
    flag_some answers.Done is = absurd is

    pub open_flag : ((answer : Answer) → Answers step answer → IsFlag answer) → Answers step (answers.Flag true)
        → Open (MakesFlag task step E) (MakesFlag task step A)
    open_flag flags one = open_first task step FlagE FlagA flag_turns (λ answer fits. flag_some answer (flags answer fits)) (answers.Flag true) one

  module _ (E A : Lists) (opens : Open E A) where
    abbrev DoneE : Answer → Lists
    DoneE answer later = (answer ≡ answers.Done) × E later

    abbrev DoneA : Answer → Lists
    DoneA answer later = (answer ≡ answers.Done) × A later

    pub open_done : ((answer : Answer) → Answers step answer → answer ≡ answers.Done) → Answers step answers.Done
        → Open (MakesDone task step E) (MakesDone task step A)
    open_done dones one =
        open_first task step DoneE DoneA
        (λ answer front first other back h alike. let own = opens.turns front first other back h.1 alike in (own.0, (h.0, own.1)))
        (λ answer fits. (opens.some.0, (dones answer fits, opens.some.1))) answers.Done one

-- a relation of what a list begins with, what that comes to, and what follows on it
abbrev pub Begins : Type 0 → Type 1
Begins X = List Record → X → List Record → Type 0

-- what begins so, and goes on with this
abbrev pub After : (X : Type 0) → Begins X → (X → Lists) → Lists
After X R K records = (value : X) × (rest : List Record) × R records value rest × K value rest

-- whatever is open to follow on it, it is open with that
abbrev pub IsOpen : (X : Type 0) → Begins X → Type 1
IsOpen X R = (E A : X → Lists) → ((value : X) → Open (E value) (A value)) → Open (After X R E) (After X R A)

pub is_open_as : (X : Type 0) (R Q : Begins X) → ((records : List Record) (value : X) (rest : List Record) → R records value rest ↔ Q records value rest)
    → IsOpen X R → IsOpen X Q
is_open_as X R Q same opens E A follows =
    open_map (After X R E) (After X Q E) (After X R A) (After X Q A)
    (λ records h. (h.0, h.1, (same records h.0 h.1).1 h.2, h.3)) (λ records h. (h.0, h.1, (same records h.0 h.1).0 h.2, h.3)) (opens E A follows)

-- nothing
pub none_open : (X : Type 0) (one : X) → IsOpen X (λ records value rest. (value ≡ one) × (rest ≡ records))
none_open X one E A follows =
    let R : Begins X = λ records value rest. (value ≡ one) × (rest ≡ records) in
    open_map (E one) (After X R E) (A one) (After X R A)
    (λ records h. subst (λ (v : X). E v records) h.2.0 (subst (λ (r : List Record). E h.0 r) h.2.1 h.3))
    (λ records h. (one, records, (refl, refl), h)) (follows one)

-- one thing after the other
pub then_open : (X Y : Type 0) (R : Begins X) (Q : X → Begins Y) → IsOpen X R → ((value : X) → IsOpen Y (Q value))
    → IsOpen Y (λ records value rest. (between : X) × (later : List Record) × R records between later × Q between later value rest)
then_open X Y R Q first second E A follows =
    let Both : Begins Y = λ records value rest. (between : X) × (later : List Record) × R records between later × Q between later value rest in
    let inside : (value : X) → Open (After Y (Q value) E) (After Y (Q value) A) = λ value. second value E A follows in
    open_map (After X R (λ value. After Y (Q value) E)) (After Y Both E) (After X R (λ value. After Y (Q value) A)) (After Y Both A)
    (λ records h. (h.2.0, h.2.1, h.2.2, (h.0, h.1, h.2.3, h.3)))
    (λ records h. (h.3.0, h.3.1, (h.0, h.1, h.2, h.3.2), h.3.3))
    (first (λ value. After Y (Q value) E) (λ value. After Y (Q value) A) inside)

-- what follows on a word stands after it, and before it with what it comes to
module _ (task : ℕ) (step : Step) (X : Type 0) (R : ℕ → Begins X) (K : X → Lists) where
  word_in_at : (answer : Answer) (later : List Record) (value : X) (rest : List Record) → OnWord answer (λ word. R word later value rest) → K value rest
      → OnWord answer (λ word. After X (R word) K later)
  word_in_at (answers.Word word) later value rest h k = (value, rest, h, k)
  word_in_at (answers.Flag flag) later value rest h k = absurd h
  word_in_at (answers.Halves setter finder) later value rest h k = absurd h
  word_in_at answers.Done later value rest h k = absurd h

  pub word_in : (records : List Record) → After X (λ all value rest. MakesWord task step (λ word later. R word later value rest) all) K records
      → MakesWord task step (λ word. After X (R word) K) records
  word_in [] h = absurd h.2
  word_in (first ∷ later) h = (h.2.0, h.2.1, word_in_at first.answer later h.0 h.1 h.2.2 h.3)

  word_out_at : (answer : Answer) (later : List Record) → OnWord answer (λ word. After X (R word) K later)
      → (value : X) × (rest : List Record) × OnWord answer (λ word. R word later value rest) × K value rest
  word_out_at (answers.Word word) later h = h
  word_out_at (answers.Flag flag) later h = absurd h
  word_out_at (answers.Halves setter finder) later h = absurd h
  word_out_at answers.Done later h = absurd h

  pub word_out : (records : List Record) → MakesWord task step (λ word. After X (R word) K) records
      → After X (λ all value rest. MakesWord task step (λ word later. R word later value rest) all) K records
  word_out [] h = absurd h
  word_out (first ∷ later) h = let own = word_out_at first.answer later h.2 in (own.0, own.1, (h.0, h.1, own.2), own.3)

module _ (task : ℕ) (step : Step) (X : Type 0) where
  -- a step with a word for its answer, and what follows on it
  pub word_then : (R : ℕ → Begins X) → ((answer : Answer) → Answers step answer → IsWord answer) → Answers step (answers.Word 0)
      → ((word : ℕ) → IsOpen X (R word)) → IsOpen X (λ records value rest. MakesWord task step (λ word later. R word later value rest) records)
  word_then R words one opens E A follows =
      let All : Begins X = λ records value rest. MakesWord task step (λ word later. R word later value rest) records in
      open_map (MakesWord task step (λ word. After X (R word) E)) (After X All E) (MakesWord task step (λ word. After X (R word) A)) (After X All A)
      (word_in task step X R E) (word_out task step X R A)
      (open_word task step (λ word. After X (R word) E) (λ word. After X (R word) A) (λ word. opens word E A follows) words one)

  -- the same of a step that is accepted or refused
  module _ (R : Bool → Begins X) (K : X → Lists) where
    flag_in_at : (answer : Answer) (later : List Record) (value : X) (rest : List Record) → OnFlag answer (λ flag. R flag later value rest) → K value rest
        → OnFlag answer (λ flag. After X (R flag) K later)
    flag_in_at (answers.Word word) later value rest h k = absurd h
    flag_in_at (answers.Flag flag) later value rest h k = (value, rest, h, k)
    flag_in_at (answers.Halves setter finder) later value rest h k = absurd h
    flag_in_at answers.Done later value rest h k = absurd h

    flag_in : (records : List Record) → After X (λ all value rest. MakesFlag task step (λ flag later. R flag later value rest) all) K records
        → MakesFlag task step (λ flag. After X (R flag) K) records
    flag_in [] h = absurd h.2
    flag_in (first ∷ later) h = (h.2.0, h.2.1, flag_in_at first.answer later h.0 h.1 h.2.2 h.3)

    flag_out_at : (answer : Answer) (later : List Record) → OnFlag answer (λ flag. After X (R flag) K later)
        → (value : X) × (rest : List Record) × OnFlag answer (λ flag. R flag later value rest) × K value rest
    flag_out_at (answers.Word word) later h = absurd h
    flag_out_at (answers.Flag flag) later h = h
    flag_out_at (answers.Halves setter finder) later h = absurd h
    flag_out_at answers.Done later h = absurd h

    flag_out : (records : List Record) → MakesFlag task step (λ flag. After X (R flag) K) records
        → After X (λ all value rest. MakesFlag task step (λ flag later. R flag later value rest) all) K records
    flag_out [] h = absurd h
    flag_out (first ∷ later) h = let own = flag_out_at first.answer later h.2 in (own.0, own.1, (h.0, h.1, own.2), own.3)

  pub flag_then : (R : Bool → Begins X) → ((answer : Answer) → Answers step answer → IsFlag answer) → Answers step (answers.Flag true)
      → ((flag : Bool) → IsOpen X (R flag)) → IsOpen X (λ records value rest. MakesFlag task step (λ flag later. R flag later value rest) records)
  flag_then R flags one opens E A follows =
      let All : Begins X = λ records value rest. MakesFlag task step (λ flag later. R flag later value rest) records in
      open_map (MakesFlag task step (λ flag. After X (R flag) E)) (After X All E) (MakesFlag task step (λ flag. After X (R flag) A)) (After X All A)
      (flag_in R E) (flag_out R A)
      (open_flag task step (λ flag. After X (R flag) E) (λ flag. After X (R flag) A) (λ flag. opens flag E A follows) flags one)

  -- and of a step without an answer
  module _ (R : Begins X) (K : X → Lists) where
    done_in : (records : List Record) → After X (λ all value rest. MakesDone task step (λ later. R later value rest) all) K records
        → MakesDone task step (After X R K) records
    done_in [] h = absurd h.2
    done_in (first ∷ later) h = (h.2.0, h.2.1, (h.2.2.0, (h.0, h.1, h.2.2.1, h.3)))

    done_out : (records : List Record) → MakesDone task step (After X R K) records
        → After X (λ all value rest. MakesDone task step (λ later. R later value rest) all) K records
    done_out [] h = absurd h
    done_out (first ∷ later) h = let own = h.2.1 in (own.0, own.1, (h.0, h.1, (h.2.0, own.2)), own.3)

  pub done_then : (R : Begins X) → ((answer : Answer) → Answers step answer → answer ≡ answers.Done) → Answers step answers.Done
      → IsOpen X R → IsOpen X (λ records value rest. MakesDone task step (λ later. R later value rest) records)
  done_then R dones one opens E A follows =
      let All : Begins X = λ records value rest. MakesDone task step (λ later. R later value rest) records in
      open_map (MakesDone task step (After X R E)) (After X All E) (MakesDone task step (After X R A)) (After X All A) (done_in R E) (done_out R A)
      (open_done task step (After X R E) (After X R A) (opens E A follows) dones one)

-- a value of which this holds, and no step
pub chosen_open : (X : Type 0) (P : X → Type 0) → (one : X) → P one → IsOpen X (λ records value rest. P value × (rest ≡ records))
chosen_open X P one is E A follows = record {
  some = let own = (follows one).some in (own.0, (one, own.0, (is, refl), own.1));
  turns = λ front first other back h alike.
      let k : E h.0 (front ++ first ∷ back) = subst (λ (r : List Record). E h.0 r) h.2.1 h.3 in
      let own = (follows h.0).turns front first other back k alike in
      (own.0, (h.0, front ++ other ∷ own.0, (h.2.0, refl), own.1));
}

-- one of two, by what is so or isn't
pub decided_open : (X P : Type 0) (R Q : Begins X) → P ⊎ (¬ P) → IsOpen X R → IsOpen X Q
    → IsOpen X (λ records value rest. (P × R records value rest) ⊎ ((¬ P) × Q records value rest))
decided_open X P R Q (inl so) first second =
    is_open_as X R (λ records value rest. (P × R records value rest) ⊎ ((¬ P) × Q records value rest))
    (λ records value rest. (λ h. inl (so, h), λ h. elim h [ inl one ↦ one.1 | inr none ↦ absurd (none.0 so) ])) first
decided_open X P R Q (inr not_so) first second =
    is_open_as X Q (λ records value rest. (P × R records value rest) ⊎ ((¬ P) × Q records value rest))
    (λ records value rest. (λ h. inr (not_so, h), λ h. elim h [ inl one ↦ absurd (not_so one.0) | inr none ↦ none.1 ])) second

pub bool_open : (X : Type 0) (R Q : Begins X) (b : Bool) → IsOpen X R → IsOpen X Q
    → IsOpen X (λ records value rest. MatchBool b (R records value rest) (Q records value rest))
bool_open X R Q true first second = first
bool_open X R Q false first second = second

-- what a value makes of another
pub mapped_open : (X Y : Type 0) (R : Begins X) (f : X → Y) → IsOpen X R
    → IsOpen Y (λ records value rest. (first : X) × R records first rest × (value ≡ f first))
mapped_open X Y R f opens E A follows =
    let All : Begins Y = λ records value rest. (first : X) × R records first rest × (value ≡ f first) in
    open_map (After X R (λ first. E (f first))) (After Y All E) (After X R (λ first. A (f first))) (After Y All A)
    (λ records h. (h.2.0, h.1, h.2.1, subst (λ (y : Y). E y h.1) h.2.2 h.3))
    (λ records h. (f h.0, h.1, (h.0, h.2, refl), h.3))
    (opens (λ first. E (f first)) (λ first. A (f first)) (λ first. follows (f first)))

-- no value, and no step
pub still_open : IsOpen (Unit {0}) (λ records value rest. rest ≡ records)
still_open E A follows = record {
  some = let own = (follows tt).some in (own.0, (tt, own.0, refl, own.1));
  turns = λ front first other back h alike.
      let k : E tt (front ++ first ∷ back) = subst (λ (r : List Record). E tt r) h.2 h.3 in
      let own = (follows tt).turns front first other back k alike in
      (own.0, (tt, front ++ other ∷ own.0, refl, own.1));
}
