-- What is so of the records of one check of an access is so of those of a whole check and of a close.
use Rattle.std.proofs.Common.{◌≡◌, ◌<◌, ◌≤◌, ◌∙◌, ◌∷◌, ◌+◌, ◌++◌, ◌||◌, [], ℕ, suc, Bool, true, false, length, List, MatchBool, ap, arith, refl, subst, sym}
use Rattle.std.proofs.lemmas.List.{length-append}
use Rattle.slot_table.specs.declared.records.Record.{Record}
use Rattle.slot_table.specs.declared.step.Step.{Step}
use Rattle.slot_table.specs.declared.step.Step.TheVariants.{Clock}
use Rattle.setup_access.specs.Check.{Check, Close, Fallen, Passes, Rechecks, fallen_of, left_to_check}
use Rattle.setup_access.specs.Records.{MakesWord}
use Rattle.setup_access.specs.Setting.{Setting}
use Rattle.setup_access.specs.declared.begun.Begun.{Begun}
use Rattle.setup_access.proofs.DisciplineLemmas.{on_word}
use Rattle.setup_access.proofs.FallLemmas.{EndsWith, once_comes, rechecks_come}
use Rattle.executions.proofs.execution.CheckFacts.{Goes, Good, OnTell, good_step, once}

-- a list is as long as what it ends with, at least
pub as_long : (records rest : List Record) → EndsWith records rest → length rest ≤ length records
as_long records rest h =
    let all : length records ≡ length h.0 + length rest = ap (λ (r : List Record). length r) h.1 ∙ length-append h.0 rest in
    omega (arith, all)

by_silence : (silenced : Bool) (Yes No Goal : Type 0) → MatchBool silenced Yes No → (Yes → Goal) → (silenced ≡ false → No → Goal) → Goal
by_silence true Yes No Goal h at_true at_false = at_true h
by_silence false Yes No Goal h at_true at_false = at_false refl h

-- the clock makes one step
pub clock_long : (task : ℕ) (records rest : List Record) → MakesWord task Clock (λ stamp after. rest ≡ after) records → length records ≡ suc (length rest)
clock_long task [] rest h = absurd h
clock_long task (first ∷ later) rest h =
    let got = on_word first.answer _ h.2 in
    let same : length rest ≡ length later = ap (λ (r : List Record). length r) got.2 in omega (arith, same)

-- a check makes a step at least, and so does a close
pub check_shorter : (s : Setting) (scopes : List Begun) (begun : Begun) (asked : ℕ) (records : List Record) (passes : Passes) (rest : List Record)
    → Check s scopes begun asked records passes rest → length rest < length records
check_shorter s scopes begun asked [] passes rest h = absurd h.2
check_shorter s scopes begun asked (first ∷ later) passes rest h =
    let got = on_word first.answer _ h.2.2 in
    by_silence begun.silenced _ _ (length rest < suc (length later)) got.2
    (λ quiet. let same : length rest ≡ length later = ap (λ (r : List Record). length r) quiet.1 in omega (arith, same))
    (λ unsilenced now.
    let left : List Begun = left_to_check now.0.settled scopes in
    let one : length now.1 ≤ length later = as_long later now.1 (once_comes s begun.access begun.marked asked later now.0 now.1 now.3).1 in
    let more : length rest ≤ length now.1 =
    as_long now.1 rest (rechecks_come s left now.0.asked now.1 (record { outcomes = now.2; asked = passes.asked }) rest now.4).1 in
    omega (arith, one, more))

pub close_shorter : (s : Setting) (scope : Begun) (silenced : Bool) (asked : ℕ) (records : List Record) (passes : Passes) (rest : List Record)
    → Close s scope silenced asked records passes rest → length rest < length records
close_shorter s scope silenced asked records passes rest h =
    let ends : length h.1.0 ≤ length records = as_long records h.1.0
    (rechecks_come s (record scope { silenced = scope.silenced || silenced } ∷ []) asked records passes h.1.0 h.1.1).1 in
    let one : length h.1.0 ≡ suc (length rest) = clock_long s.task h.1.0 rest h.1.2 in
    omega (arith, ends, one)

module _ (s : Setting) (Known : Begun → Type 0) (In : Begun → ℕ → Type 0) where
  -- the access is in progress as long as this
  abbrev pub IsIn : Begun → ℕ → ℕ → ℕ → Type 0
  IsIn b from total left = (count : ℕ) → from ≤ count → count + left ≤ total → In b count

  -- so is each of these scoped assertions
  abbrev pub AreIn : List Begun → ℕ → ℕ → ℕ → Type 0
  AreIn [] from total left = Unit {0}
  AreIn (scope ∷ scopes) from total left = (Known scope × IsIn scope from total left) × AreIn scopes from total left

  abbrev G : ℕ → ℕ → List Fallen → List Record → List Record → Type 0
  G from total outs own records = Goes s Known In from total outs own records

  abbrev GoodSo : List Record → List Record → List Fallen → Type 0
  GoodSo own records outs = Good s Known In own records outs

  rechecks : (from total : ℕ) (more : List Fallen) (rest : List Record) (scopes : List Begun) (asked : ℕ) (records : List Record) (passes : Passes)
      → AreIn scopes from total (length rest) → Rechecks s scopes asked records passes rest
      → ((o : List Record) → G from total more o rest) → (own : List Record) → G from total (passes.outcomes ++ more) own records
  rechecks from total more rest [] asked records passes known h goes own =
      let all : G from total (passes.outcomes ++ more) own rest = subst (λ (p : Passes). G from total (p.outcomes ++ more) own rest) (sym h.0) (goes own) in
      subst (λ (r : List Record). G from total (passes.outcomes ++ more) own r) h.1 all
  rechecks from total more rest (scope ∷ scopes) asked records passes known h goes own =
      by_silence scope.silenced _ _ _ h
      (λ skips. rechecks from total more rest scopes asked records passes known.1 skips goes own)
      (λ unsilenced now.
      let longer : length rest ≤ length now.1 = as_long now.1 rest (rechecks_come s scopes now.0.asked now.1 (record { outcomes = now.2; asked = passes.asked }) rest now.4).1 in
      let one : G from total (fallen_of scope.access now.0 ∷ (now.2 ++ more)) own records =
      once s Known In scope known.0.0 unsilenced (now.2 ++ more) from total now.1 (λ count from_on most. known.0.1 count from_on (omega (arith, most, longer)))
      (λ o. rechecks from total more rest scopes now.0.asked now.1 (record { outcomes = now.2; asked = passes.asked }) known.1 now.4 goes o)
      asked records now.0 own now.3 in
      subst (λ (o : List Fallen). G from total (o ++ more) own records) (sym now.5) one)

  -- the clock's step in front
  clock_step : (own later : List Record) (first : Record) (outs : List Fallen) → first.step ≡ Clock → GoodSo (first ∷ own) later outs → GoodSo own (first ∷ later) outs
  clock_step own later first outs is good =
      good_step s Known In own later first outs (subst (λ (step : Step). OnTell s Known In own step) (sym is) tt) good

  scopes_left : (settled : Bool) (scopes : List Begun) (from total left : ℕ) → AreIn scopes from total left → AreIn (left_to_check settled scopes) from total left
  scopes_left true scopes from total left known = tt
  scopes_left false scopes from total left known = known

  pub check : (scopes : List Begun) (begun : Begun) (asked : ℕ) (records : List Record) (passes : Passes) (rest : List Record) → Check s scopes begun asked records passes rest
      → (own : List Record) → Known begun → IsIn begun (suc (length own)) (length own + length records) (length rest)
      → AreIn scopes (suc (length own)) (length own + length records) (length rest)
      → (more : List Fallen) → ((o : List Record) → length o + length rest ≡ length own + length records → GoodSo o rest more)
      → GoodSo own records (passes.outcomes ++ more)
  check scopes begun asked [] passes rest h own known goes_so all more goes = absurd h.2
  check scopes begun asked (first ∷ later) passes rest h own known goes_so all more goes =
      let got = on_word first.answer _ h.2.2 in
      let from : ℕ = suc (length own) in
      let total : ℕ = length own + suc (length later) in
      clock_step own later first (passes.outcomes ++ more) h.2.1
      (by_silence begun.silenced _ _ _ got.2
      (λ quiet.
      let same : length rest ≡ length later = ap (λ (r : List Record). length r) quiet.1 in
      let on : GoodSo (first ∷ own) rest (passes.outcomes ++ more) =
      subst (λ (p : Passes). GoodSo (first ∷ own) rest (p.outcomes ++ more)) (sym quiet.0) (goes (first ∷ own) (omega (arith, same))) in
      subst (λ (r : List Record). GoodSo (first ∷ own) r (passes.outcomes ++ more)) quiet.1 on)
      (λ unsilenced now.
      let left : List Begun = left_to_check now.0.settled scopes in
      let longer : length rest ≤ length now.1 = as_long now.1 rest (rechecks_come s left now.0.asked now.1 (record { outcomes = now.2; asked = passes.asked }) rest now.4).1 in
      let one : G from total (fallen_of begun.access now.0 ∷ (now.2 ++ more)) (first ∷ own) later =
      once s Known In begun known unsilenced (now.2 ++ more) from total now.1 (λ count from_on most. goes_so count from_on (omega (arith, most, longer)))
      (λ o. rechecks from total more rest left now.0.asked now.1 (record { outcomes = now.2; asked = passes.asked })
      (scopes_left now.0.settled scopes from total (length rest) all) now.4 (λ r at. goes r at.all) o)
      asked later now.0 (first ∷ own) now.3 in
      subst (λ (o : List Fallen). GoodSo (first ∷ own) later (o ++ more)) (sym now.5) (one (record { begun = omega arith; all = omega arith }))))

  pub close : (scope : Begun) (silenced : Bool) (asked : ℕ) (records : List Record) (passes : Passes) (rest : List Record) → Close s scope silenced asked records passes rest
      → (own : List Record) → Known (record scope { silenced = scope.silenced || silenced })
      → IsIn (record scope { silenced = scope.silenced || silenced }) (length own) (length own + length records) (suc (length rest))
      → (more : List Fallen) → ((o : List Record) → length o + length rest ≡ length own + length records → GoodSo o rest more)
      → GoodSo own records (passes.outcomes ++ more)
  close scope silenced asked records passes rest h own known goes_so more goes =
      let last : Begun = record scope { silenced = scope.silenced || silenced } in
      let ends : (later : List Record) → MakesWord s.task Clock (λ stamp after. rest ≡ after) later → (length later ≡ suc (length rest))
      × ((o : List Record) → length o + length later ≡ length own + length records → GoodSo o later more) =
      λ later made_so. ended (length own + length records) later rest more made_so goes in
      let ended_so = ends h.1.0 h.1.2 in
      rechecks (length own) (length own + length records) more h.1.0 (last ∷ []) asked records passes
      ((known, λ count from_on most. goes_so count from_on (let same : length h.1.0 ≡ suc (length rest) = ended_so.0 in omega (arith, most, same))), tt) h.1.1
      (λ o at. ended_so.1 o at.all) own (record { begun = omega arith; all = refl })
    where
      ended : (total : ℕ) (later rest : List Record) (more : List Fallen) → MakesWord s.task Clock (λ stamp after. rest ≡ after) later
          → ((o : List Record) → length o + length rest ≡ total → GoodSo o rest more)
          → (length later ≡ suc (length rest)) × ((o : List Record) → length o + length later ≡ total → GoodSo o later more)
      ended total [] rest more made_so goes = absurd made_so
      ended total (first ∷ later) rest more made_so goes =
          let got = on_word first.answer _ made_so.2 in
          let same : length rest ≡ length later = ap (λ (r : List Record). length r) got.2 in (
            ap (λ (r : List Record). suc (length r)) (sym got.2),
            λ o at. clock_step o later first more made_so.1
                (subst (λ (r : List Record). GoodSo (first ∷ o) r more) got.2
                (goes (first ∷ o) (let all : length o + suc (length later) ≡ total = at in omega (arith, all, same)))),
          )
