-- The outcome that falls at a record is the next one that a check comes to, and the only one there.
use Rattle.std.proofs.Common.{◌≡◌, ◌∙◌, ◌+◌, ◌++◌, ◌<◌, ◌≤◌, ◌==◌, ◌||◌, ℕ, Bool, true, false, MatchBool}
use Rattle.std.proofs.Common.{List, [], ◌∷◌, None, Option, Some, ap, arith, filter, length, refl, slice_get, subst, sym}
use Rattle.std.proofs.lemmas.Bool.{eq-eqb, eqb-true}
use Rattle.std.proofs.lemmas.List.{length-append}
use Rattle.access_types.specs.Access.{Access}
use Rattle.setup_access.proofs.FallLemmas.{once_comes}
use Rattle.setup_access.specs.Check as cases
use Rattle.setup_access.specs.Check.{Check, ChecksAll, ChecksOnce, Close, Ends, Fallen, GoesOn, NoneFound, Pass, Passes, Rechecks, fallen_of, left_to_check}
use Rattle.setup_access.specs.Fallen.{followed, outcomes_in}
use Rattle.setup_access.specs.Records.{OnWord}
use Rattle.setup_access.specs.Setting.{Setting}
use Rattle.setup_access.specs.Setup.{Frees, Judged}
use Rattle.setup_access.specs.declared.begun.Begun.{Begun}
use Rattle.setup_access.specs.declared.outcome.Watchpoint.{Watchpoint}
use Rattle.slot_table.specs.declared.records.Record.{Record}
use Rattle.slot_table.specs.declared.step.Answer.{Answer}
use Rattle.slot_table.specs.declared.step.Answer.TheVariants as answers
use Rattle.task_run.specs.Fell.{FallsBefore}

-- fewer records than these follow on each of the outcomes
abbrev pub AllShorter : ℕ → List Fallen → Type 0
AllShorter limit [] = Unit {0}
AllShorter limit (first ∷ others) = (length first.later < limit) × AllShorter limit others

-- fewer follow on each than on the one before it
abbrev pub Descends : ℕ → List Fallen → Type 0
Descends limit [] = Unit {0}
Descends limit (first ∷ others) = (length first.later < limit) × Descends (length first.later) others

-- these have come, in front of what is to come, and all others fall in that
abbrev pub HasCome : List Record → List Fallen → List Fallen → Type 0
HasCome later outcomes fallen =
    (more : List Fallen) × (outcomes ≡ followed later fallen ++ more) × AllShorter (length later) more

abbrev is_now : List Record → Fallen → Bool
is_now later fallen = length fallen.later == length later

not_now : (later : List Record) (one : Fallen) → (length one.later ≡ length later → ⊥) → is_now later one ≡ false
not_now later one other = by_test (is_now later one) refl
  where
    by_test : (test : Bool) → is_now later one ≡ test → is_now later one ≡ false
    by_test true is = absurd (other (eqb-true (length one.later) (length later) is))
    by_test false is = is

none_now : (later : List Record) (outcomes : List Fallen) → AllShorter (length later) outcomes → filter (is_now later) outcomes ≡ []
none_now later [] h = refl
none_now later (one ∷ others) h =
    let other : is_now later one ≡ false = not_now later one (λ same. let less = h.0 in omega (arith, less, same)) in
    rw other (none_now later others h.1)

descends_shorter : (low high : ℕ) (outcomes : List Fallen) → low ≤ high → Descends low outcomes → AllShorter high outcomes
descends_shorter low high [] below h = tt
descends_shorter low high (one ∷ others) below h =
    (let less = h.0 in omega (arith, less, below), descends_shorter (length one.later) high others (let less = h.0 in omega (arith, less, below)) h.1)

descends_below : (low high : ℕ) (outcomes : List Fallen) → low ≤ high → Descends low outcomes → Descends high outcomes
descends_below low high [] below h = tt
descends_below low high (one ∷ others) below h = (let less = h.0 in omega (arith, less, below), h.1)

abbrev head_or : Fallen → List Fallen → Fallen
head_or none [] = none
head_or none (first ∷ others) = first

abbrev tail_of : List Fallen → List Fallen
tail_of [] = []
tail_of (first ∷ others) = others

-- with one record more it is the outcome after those before, if there is one
pub one_fell : (last : Record) (later : List Record) (limit : ℕ) (outcomes before after : List Fallen) → Descends limit outcomes
    → HasCome (last ∷ later) outcomes before → HasCome later outcomes after
    → FallsBefore later outcomes (slice_get (outcomes_in after) (length (outcomes_in before)))
one_fell last later limit outcomes [] [] descends was is =
    ap outcomes_in (none_now later outcomes (subst (λ (o : List Fallen). AllShorter (length later) o) (sym is.1) is.2))
one_fell last later limit outcomes [] (new ∷ more) descends was is =
    let one : Fallen = record new { later = new.later ++ later } in
    let others : List Fallen = followed later more ++ is.0 in
    let short : AllShorter (length (last ∷ later)) (one ∷ others) = subst (λ (o : List Fallen). AllShorter (length (last ∷ later)) o) (sym was.1
    ∙ is.1) was.2 in
    let down : Descends limit (one ∷ others) = subst (λ (o : List Fallen). Descends limit o) is.1 descends in
    let size : length (new.later ++ later) ≡ length new.later + length later = length-append new.later later in
    let least = short.0 in
    let here : length (new.later ++ later) ≡ length later = omega (arith, size, least) in
    let now : is_now later one ≡ true = eq-eqb (length (new.later ++ later)) (length later) here in
    let none : filter (is_now later) others ≡ [] =
    none_now later others (descends_shorter (length (new.later ++ later)) (length later) others (omega (arith, here)) down.1) in
    subst (λ (o : List Fallen). FallsBefore later o (Some new.outcome)) (sym is.1)
    (rw now (ap (λ (o : List Fallen). new.outcome ∷ outcomes_in o) none))
one_fell last later limit outcomes (old ∷ more) [] descends was is =
    let one : Fallen = record old { later = old.later ++ last ∷ later } in
    let short : AllShorter (length later) (one ∷ (followed (last ∷ later) more ++ was.0)) =
    subst (λ (o : List Fallen). AllShorter (length later) o) (sym is.1 ∙ was.1) is.2 in
    let size : length (old.later ++ last ∷ later) ≡ length old.later + length (last ∷ later) = length-append old.later (last ∷ later) in
    let less = short.0 in absurd (omega (arith, size, less))
one_fell last later limit outcomes (old ∷ before) (new ∷ after) descends was is =
    let one : Fallen = record old { later = old.later ++ last ∷ later } in
    let others : List Fallen = followed (last ∷ later) before ++ was.0 in
    let same : one ∷ others ≡ record new { later = new.later ++ later } ∷ (followed later after ++ is.0) = sym was.1 ∙ is.1 in
    let down : Descends limit (one ∷ others) = subst (λ (o : List Fallen). Descends limit o) was.1 descends in
    let size : length (old.later ++ last ∷ later) ≡ length old.later + length (last ∷ later) = length-append old.later (last ∷ later) in
    let other : is_now later one ≡ false = not_now later one (λ here. omega (arith, size, here)) in
    subst (λ (o : List Fallen). FallsBefore later o (slice_get (outcomes_in after) (length (outcomes_in before)))) (sym was.1)
    (rw other (one_fell last later (length (old.later ++ last ∷ later)) others before after down.1 (was.0, refl, was.2)
    (is.0, ap tail_of same, is.2)))

-- each check of an access has records of its own before its outcome falls
module _ (s : Setting) (a : Access) where
  frees_shorter : (index : ℕ) (records rest : List Record) → Frees s index records rest → length rest ≤ length records
  frees_shorter index [] rest h = absurd h
  frees_shorter index (one ∷ []) rest h = absurd h.2.1
  frees_shorter index (one ∷ two ∷ more) rest h =
      let same : rest ≡ more = h.2.1.2.1 in let size : length rest ≡ length more = ap (λ (l : List Record). length l) same in omega (arith, size)

  ends_shorter : (asked : ℕ) (judged : Option Judged) (records : List Record) (pass : Pass) (rest : List Record) → Ends s asked judged records pass rest
      → length rest ≤ length pass.later
  ends_shorter asked None records pass rest h =
      let left : length rest ≡ length records = ap (λ (l : List Record). length l) h.1 in
      let at : length pass.later ≡ length records = ap (λ (p : Pass). length p.later) h.0 in omega (arith, left, at)
  ends_shorter asked (Some judged) records pass rest h =
      let less = frees_shorter judged.index records rest h.1 in
      let at : length pass.later ≡ length records = ap (λ (p : Pass). length p.later) h.0 in omega (arith, less, at)

  none_shorter : (marked : Bool) (asked : ℕ) (records : List Record) (pass : Pass) (rest : List Record) → NoneFound s a marked asked records pass rest
      → length rest ≤ length pass.later
  none_shorter marked asked records pass rest (cases.counts_as_marked m is r) =
      let left : length rest ≡ length records = ap (λ (l : List Record). length l) r in
      let at : length pass.later ≡ length records = ap (λ (p : Pass). length p.later) is in omega (arith, left, at)
  none_shorter marked asked records pass rest (cases.skipped m n is r) =
      let left : length rest ≡ length records = ap (λ (l : List Record). length l) r in
      let at : length pass.later ≡ length records = ap (λ (p : Pass). length p.later) is in omega (arith, left, at)
  none_shorter marked asked records pass rest (cases.unencodable m w n is r) =
      let left : length rest ≡ length records = ap (λ (l : List Record). length l) r in
      let at : length pass.later ≡ length records = ap (λ (p : Pass). length p.later) is in omega (arith, left, at)
  none_shorter marked asked records pass rest (cases.watched judged later m w e up ends) = ends_shorter (asked + 1) judged later pass rest ends

  goes_on_shorter : (found : Option Watchpoint) (marked : Bool) (asked : ℕ) (records : List Record) (pass : Pass) (rest : List Record)
      → GoesOn s a marked asked found records pass rest → length rest ≤ length pass.later
  goes_on_shorter (Some found) marked asked records pass rest h =
      let at : length pass.later ≡ length rest = ap (λ (l : List Record). length l) h.2 in omega (arith, at)
  goes_on_shorter None marked asked records pass rest h = none_shorter marked asked records pass rest h

  -- what follows on its outcome, and then what is left
  once_descends : (marked : Bool) (asked : ℕ) (records : List Record) (pass : Pass) (rest : List Record) → ChecksOnce s a marked asked records pass rest
      → (length pass.later < length records) × (length rest ≤ length pass.later)
  once_descends marked asked records pass rest h =
      let falls = (once_comes s a marked asked records pass rest h).0 in
      let all : length records ≡ length (falls.0 ++ falls.1 ∷ pass.later) = ap (λ (l : List Record). length l) falls.2 in
      let size : length (falls.0 ++ falls.1 ∷ pass.later) ≡ length falls.0 + length (falls.1 ∷ pass.later) = length-append falls.0 (falls.1 ∷ pass.later) in
      (omega (arith, all, size), goes_on_shorter h.0 marked asked h.1 pass rest h.3)

module _ (s : Setting) where
  then_descend : (a : Access) (records : List Record) (pass : Pass) (later : List Record) (more outcomes : List Fallen)
      → (length pass.later < length records) × (length later ≤ length pass.later) → Descends (length later) more → outcomes ≡ fallen_of a pass ∷ more
      → Descends (length records) outcomes
  then_descend a records pass later more outcomes once others is =
      subst (λ (o : List Fallen). Descends (length records) o) (sym is) (once.0, descends_below (length later) (length pass.later) more once.1 others)

  rechecks_descend : (scopes : List Begun) (asked : ℕ) (records : List Record) (passes : Passes) (rest : List Record)
      → Rechecks s scopes asked records passes rest
      → Descends (length records) passes.outcomes
  rechecks_descend [] asked records passes rest h = subst (λ (p : Passes). Descends (length records) p.outcomes) (sym h.0) tt
  rechecks_descend (scope ∷ scopes) asked records passes rest h = by_silence scope.silenced h
      (λ now left some more. rechecks_descend scopes now left some rest more)
    where
      by_silence : (silenced : Bool)
          → MatchBool silenced (Rechecks s scopes asked records passes rest)
          ((pass : Pass) × (later : List Record) × (more : List Fallen) × ChecksOnce s scope.access scope.marked asked records pass later
          × Rechecks s scopes pass.asked later (record { outcomes = more; asked = passes.asked }) rest × (passes.outcomes ≡ fallen_of scope.access pass ∷ more))
          → ((now : ℕ) (left : List Record) (some : Passes) → Rechecks s scopes now left some rest → Descends (length left) some.outcomes)
          → Descends (length records) passes.outcomes
      by_silence true h on = on asked records passes h
      by_silence false h on = then_descend scope.access records h.0 h.1 h.2 passes.outcomes
          (once_descends s scope.access scope.marked asked records h.0 h.1 h.3)
          (on h.0.asked h.1 (record { outcomes = h.2; asked = passes.asked }) h.4) h.5

  begun_descend : (silenced : Bool) (scopes : List Begun) (begun : Begun) (asked now : ℕ) (records : List Record) (passes : Passes) (rest : List Record)
      → MatchBool silenced ((passes ≡ record { outcomes = []; asked = now }) × (rest ≡ records)) (ChecksAll s scopes begun asked records passes rest)
      → Descends (length records) passes.outcomes
  begun_descend true scopes begun asked now records passes rest h = subst (λ (p : Passes). Descends (length records) p.outcomes) (sym h.0) tt
  begun_descend false scopes begun asked now records passes rest h =
      then_descend begun.access records h.0 h.1 h.2 passes.outcomes (once_descends s begun.access begun.marked asked records h.0 h.1 h.3)
      (rechecks_descend (left_to_check h.0.settled scopes) h.0.asked h.1 (record { outcomes = h.2; asked = passes.asked }) rest h.4) h.5

  on_word : (answer : Answer) (P : Type 0) → OnWord answer (λ stamp. P) → P
  on_word (answers.Word word) P h = h
  on_word (answers.Flag flag) P h = absurd h
  on_word (answers.Halves setter finder) P h = absurd h
  on_word answers.Done P h = absurd h

  -- the outcomes of a check, and of a close
  pub check_descends : (scopes : List Begun) (begun : Begun) (asked : ℕ) (records : List Record) (passes : Passes) (rest : List Record)
      → Check s scopes begun asked records passes rest → Descends (length records) passes.outcomes
  check_descends scopes begun asked [] passes rest h = absurd h.2
  check_descends scopes begun asked (first ∷ later) passes rest h =
      descends_below (length later) (length (first ∷ later)) passes.outcomes (omega arith)
      (begun_descend begun.silenced scopes begun asked _ later passes rest (on_word first.answer _ h.2.2))

  pub close_descends : (scope : Begun) (silenced : Bool) (asked : ℕ) (records : List Record) (passes : Passes) (rest : List Record)
      → Close s scope silenced asked records passes rest → Descends (length records) passes.outcomes
  close_descends scope silenced asked records passes rest h =
      rechecks_descend (record scope { silenced = scope.silenced || silenced } ∷ []) asked records passes h.1.0 h.1.1
