-- No two outcomes fall at one record.
use Rattle.std.proofs.Common.{◌≡◌, ◌∙◌, ◌<◌, ◌≤◌, ◌==◌, ◌||◌, ◌+◌, ◌++◌, ◌∷◌, [], ℕ, suc, Bool, true, false, List, MatchBool, ap, arith, inl, inr, length, refl}
use Rattle.std.proofs.Common.{subst, sym}
use Rattle.std.proofs.lemmas.Bool.{ne_eqb}
use Rattle.std.proofs.lemmas.Bool.Decides.{eqb_tells}
use Rattle.std.proofs.lemmas.List.{length-append}
use Rattle.std.specs.List.{filter}
use Rattle.access_types.specs.Access.{Access}
use Rattle.litmus_syntax.specs.Tree.{Block}
use Rattle.setup_access.specs.Check.{Check, ChecksAll, ChecksBegun, ChecksOnce, Close, Fallen, Pass, Passes, Rechecks, fallen_of, left_to_check}
use Rattle.setup_access.specs.Setting as checks
use Rattle.setup_access.specs.declared.begun.Begun.{Begun}
use Rattle.setup_access.proofs.DisciplineLemmas.{on_word}
use Rattle.setup_access.proofs.FallLemmas.{once_comes}
use Rattle.slot_table.specs.declared.records.Record.{Record}
use Rattle.slot_table.specs.declared.step.Step.TheVariants.{LockStore}
use Rattle.program_order.specs.Standing.{Setting, Standing, checks_of, counting, lock_number}
use Rattle.program_order.specs.TaskObserved.{fell_next, to_come}
use Rattle.program_order.specs.WrittenOrder.{WrittenOrder, at_first}
use Rattle.program_order.proofs.Induction.{Kept, by_block}
use Rattle.executions.proofs.observation_determinism.SureChecks.{gives_back, in_two}
use Rattle.executions.proofs.observation_determinism.SureOperations.{clocks, lock_less, operates, stores}

-- each falls after the one before it, at one of so many records, of which these are left after them
abbrev Descends : ℕ → ℕ → List Fallen → Type 0
Descends high low [] = low ≤ high
Descends high low (fallen ∷ others) = (length fallen.later < high) × Descends (length fallen.later) low others

descends_less : (high low lower : ℕ) (fallen : List Fallen) → lower ≤ low → Descends high low fallen → Descends high lower fallen
descends_less high low lower [] fewer h = omega (arith, fewer, h)
descends_less high low lower (first ∷ others) fewer h = (h.0, descends_less (length first.later) low lower others fewer h.1)

descends_from : (high higher low : ℕ) (fallen : List Fallen) → high ≤ higher → Descends high low fallen → Descends higher low fallen
descends_from high higher low [] more h = omega (arith, more, h)
descends_from high higher low (first ∷ others) more h = (let here : length first.later < high = h.0 in omega (arith, here, more), h.1)

descends_both : (high middle low : ℕ) (first later : List Fallen) → Descends high middle first → Descends middle low later → Descends high low (first ++ later)
descends_both high middle low [] later h g = descends_from middle high low later h g
descends_both high middle low (one ∷ others) later h g = (h.0, descends_both (length one.later) middle low others later h.1 g)

-- those of a check
abbrev Falling : List Record → Passes → List Record → Type 0
Falling records passes rest = Descends (length records) (length rest) passes.outcomes

module _ (s : checks.Setting) where
  once : (a : Access) (marked : Bool) (asked : ℕ) (records : List Record) (pass : Pass) (rest : List Record) → ChecksOnce s a marked asked records pass rest
      → (length pass.later < length records) × (length rest ≤ length pass.later)
  once a marked asked records pass rest h =
      let two = in_two s a marked asked records pass rest h in
      let at = (once_comes s a marked asked records pass rest h).0 in
      let all : length records ≡ length at.0 + length (at.1 ∷ pass.later) = ap (λ (r : List Record). length r) at.2 ∙ length-append at.0 (at.1 ∷ pass.later) in
      (omega (arith, all), (gives_back s a two.judging.frees).shrinks pass.later tt rest two.after)

  and_more : (a : Access) (records : List Record) (pass : Pass) (later : List Record) (more : List Fallen) (passes : Passes) (rest : List Record)
      → (length pass.later < length records) × (length later ≤ length pass.later) → Descends (length later) (length rest) more
      → passes.outcomes ≡ fallen_of a pass ∷ more → Falling records passes rest
  and_more a records pass later more passes rest one others is =
      subst (λ (o : List Fallen). Descends (length records) (length rest) o) (sym is)
      (one.0, descends_from (length later) (length pass.later) (length rest) more one.1 others)

  nothing : (asked : ℕ) (records : List Record) (passes : Passes) (rest : List Record) → passes ≡ record { outcomes = []; asked = asked } → rest ≡ records
      → Falling records passes rest
  nothing asked records passes rest is over =
      let same : length rest ≡ length records = ap (λ (r : List Record). length r) over in
      subst (λ (p : Passes). Falling records p rest) (sym is) (let less : length rest ≤ length records = omega (arith, same) in less)

  rechecks : (scopes : List Begun) (asked : ℕ) (records : List Record) (passes : Passes) (rest : List Record) → Rechecks s scopes asked records passes rest
      → Falling records passes rest
  rechecks [] asked records passes rest h = nothing asked records passes rest h.0 h.1
  rechecks (scope ∷ scopes) asked records passes rest h = by_silence scope.silenced h
      (λ now left some more. rechecks scopes now left some rest more)
    where
      by_silence : (silenced : Bool)
          → MatchBool silenced (Rechecks s scopes asked records passes rest)
          ((pass : Pass) × (later : List Record) × (more : List Fallen) × ChecksOnce s scope.access scope.marked asked records pass later
          × Rechecks s scopes pass.asked later (record { outcomes = more; asked = passes.asked }) rest × (passes.outcomes ≡ fallen_of scope.access pass ∷ more))
          → ((now : ℕ) (left : List Record) (some : Passes) → Rechecks s scopes now left some rest → Falling left some rest) → Falling records passes rest
      by_silence true h on = on asked records passes h
      by_silence false h on = and_more scope.access records h.0 h.1 h.2 passes rest (once scope.access scope.marked asked records h.0 h.1 h.3)
          (on h.0.asked h.1 (record { outcomes = h.2; asked = passes.asked }) h.4) h.5

  begun_falling : (silenced : Bool) (scopes : List Begun) (begun : Begun) (asked now : ℕ) (records : List Record) (passes : Passes) (rest : List Record)
      → MatchBool silenced ((passes ≡ record { outcomes = []; asked = now }) × (rest ≡ records)) (ChecksAll s scopes begun asked records passes rest)
      → Falling records passes rest
  begun_falling true scopes begun asked now records passes rest h = nothing now records passes rest h.0 h.1
  begun_falling false scopes begun asked now records passes rest h =
      and_more begun.access records h.0 h.1 h.2 passes rest (once begun.access begun.marked asked records h.0 h.1 h.3)
      (rechecks (left_to_check h.0.settled scopes) h.0.asked h.1 (record { outcomes = h.2; asked = passes.asked }) rest h.4) h.5

  check_falling : (scopes : List Begun) (begun : Begun) (asked : ℕ) (records : List Record) (passes : Passes) (rest : List Record)
      → Check s scopes begun asked records passes rest → Falling records passes rest
  check_falling scopes begun asked [] passes rest h = absurd h.2
  check_falling scopes begun asked (first ∷ later) passes rest h =
      let got = on_word first.answer (λ stamp. ChecksBegun s scopes begun asked later passes rest) h.2.2 in
      descends_from (length later) (suc (length later)) (length rest) passes.outcomes (omega arith)
      (begun_falling begun.silenced scopes begun asked _ later passes rest got.2)

  close_falling : (scope : Begun) (silenced : Bool) (asked : ℕ) (records : List Record) (passes : Passes) (rest : List Record)
      → Close s scope silenced asked records passes rest → Falling records passes rest
  close_falling scope silenced asked records passes rest h =
      let last : Begun = record scope { silenced = scope.silenced || silenced } in
      descends_less (length records) (length h.1.0) (length rest) passes.outcomes ((clocks s.task).shrinks h.1.0 tt rest h.1.2)
      (rechecks (last ∷ []) asked records passes h.1.0 h.1.1)

-- those of a text
module _ (high : ℕ) where
  abbrev Falls : Standing → List Record → Standing → List Record → Type 0
  Falls before records after rest = Descends high (length records) before.outcomes → Descends high (length rest) after.outcomes

  as_many : (ends_nothing : Bool) (before : Standing) (records : List Record) → Descends high (length records) before.outcomes
      → Descends high (length records) (counting ends_nothing before).outcomes
  as_many true before records h = h
  as_many false before records h = h

  kept_falls : (s : Setting) → Kept s Falls
  kept_falls s = record {
    still = λ before records h. h;
    joins = λ before between after records later rest p q h. q (p h);
    marked = λ ends_nothing count m before records h. as_many ends_nothing before records h;
    lost = λ before records h. h;
    assigned = λ before records register value h. h;
    makes = λ a operation effect before records after rest made h.
        let two : length made.done ≤ length made.checked = (operates (checks_of s) a operation).shrinks made.checked effect made.done made.operates in
        let three : length rest ≤ length made.done = (clocks s.text.task).shrinks made.done tt rest made.ends in
        subst (λ (st : Standing). Descends high (length rest) st.outcomes) (sym made.comes_to)
        (descends_less high (length made.checked) (length rest) (before.outcomes ++ made.passes.outcomes) (omega (arith, two, three))
        (descends_both high (length records) (length made.checked) before.outcomes made.passes.outcomes h
        (check_falling (checks_of s) before.scopes made.begun before.asked records made.passes made.checked made.check)));
    locks = λ lock before records rest is takes h.
        let less : length rest < length records = lock_less s.text.task (lock_number s lock) records rest takes in
        descends_less high (length records) (length rest) before.outcomes (omega (arith, less)) h;
    unlocks = λ lock before records rest has frees h.
        descends_less high (length records) (length rest) before.outcomes
        ((stores s.text.task (LockStore (lock_number s lock))).shrinks records tt rest frees) h;
    scoped = λ a assertion begun before opened closing after records inside later rest opens inner closes h.
        let began : Descends high (length inside) opened.outcomes =
        subst (λ (st : Standing). Descends high (length inside) st.outcomes) (sym opens.comes_to)
        (descends_both high (length records) (length inside) before.outcomes opens.passes.outcomes h
        (check_falling (checks_of s) before.scopes begun before.asked records opens.passes inside opens.check)) in
        subst (λ (st : Standing). Descends high (length rest) st.outcomes) (sym closes.comes_to)
        (descends_both high (length later) (length rest) closing.outcomes closes.passes.outcomes (inner began)
        (close_falling (checks_of s) begun closes.silenced closing.asked later closes.passes rest closes.close));
  }

-- so many fell at one record
abbrev fell_at : ℕ → List Fallen → List Fallen
fell_at n fallen = filter (λ (f : Fallen). length f.later == n) fallen

none_at : (n high low : ℕ) (fallen : List Fallen) → high ≤ n → Descends high low fallen → length (fell_at n fallen) ≡ 0
none_at n high low [] above h = refl
none_at n high low (first ∷ others) above h =
    let here : length first.later < high = h.0 in
    let apart : length first.later ≡ n → ⊥ = λ (is : length first.later ≡ n). omega (arith, here, is, above) in
    rw (ne_eqb (length first.later) n apart) (none_at n (length first.later) low others (omega (arith, here, above)) h.1)

one_at : (n high low : ℕ) (fallen : List Fallen) → Descends high low fallen → length (fell_at n fallen) ≤ 1
one_at n high low [] h = omega arith
one_at n high low (first ∷ others) h = elim (eqb_tells (length first.later) n) [
  | inl same ↦
      let is : length first.later ≡ n = same.1 in
      let none : length (fell_at n others) ≡ 0 = none_at n (length first.later) low others (omega (arith, is)) h.1 in
      rw same.0 (let all : suc (length (fell_at n others)) ≤ 1 = omega (arith, none) in all)
  | inr other ↦ rw other.0 (one_at n (length first.later) low others h.1)
]

pub one_falls : (s : Setting) (registers : ℕ) (body : Block) (records : List Record) (written : WrittenOrder s registers body records) (made : ℕ)
    → length (fell_next written made) ≤ 1
one_falls s registers body records written made =
    let start : Descends (length (records ++ written.more)) (length (records ++ written.more)) [] = omega arith in
    one_at (to_come written (made + 1)) (length (records ++ written.more)) (length {A = Record} []) written.whole.end.outcomes
    (by_block s (Falls (length (records ++ written.more))) (kept_falls (length (records ++ written.more)) s) 0 body (at_first registers)
    (records ++ written.more) written.whole.end [] written.whole.steps start)
