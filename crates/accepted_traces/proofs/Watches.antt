-- Where a watch ends, and where a find looked.
use Rattle.std.proofs.Common.{◌≡◌, ◌⊎◌, ◌∷◌, [], inl, inr, ℕ, Bool, true, false, List, MatchBool, None, Option, Some, ap, arith, refl, subst, sym}
use Rattle.std.proofs.lemmas.Bool.{eq-eqb}
use Rattle.access_types.specs.Access.{Access}
use Rattle.access_types.specs.Ticket.{ticket_number}
use Rattle.report_text.specs.Truth.{IsIndexOf}
use Rattle.executions.proofs.execution.CheckFacts.{back}
use Rattle.setup_access.specs.Find.{LooksUp}
use Rattle.setup_access.specs.Found.{Hears, finder_half}
use Rattle.setup_access.specs.Parts.{made}
use Rattle.setup_access.specs.Setting.{Setting, look_order, slot_of, try_order}
use Rattle.setup_access.specs.Setup.{Arms, Judged, Judges, SetsUp, TriesInsert, WatchesAt}
use Rattle.setup_access.specs.Values.{LoadsFrom, both_values, source_of}
use Rattle.setup_access.specs.declared.outcome.Outcome.{Outcome}
use Rattle.setup_access.specs.declared.outcome.Watchpoint.{Watchpoint}
use Rattle.setup_access.specs.declared.source.Source.{Source}
use Rattle.setup_access.proofs.DisciplineLemmas.{on_flag, on_halves, on_word, record_is}
use Rattle.slot.specs.Pair.{Halves}
use Rattle.slot_table.specs.Armings.{last_arming}
use Rattle.slot_table.specs.Discipline.{in_hand}
use Rattle.slot_table.specs.declared.discipline.Part.{Part}
use Rattle.slot_table.specs.declared.discipline.Part.TheVariants as parts
use Rattle.slot_table.specs.declared.records.Record.{Record}
use Rattle.slot_table.specs.declared.step.Answer.TheVariants as answers
use Rattle.slot_table.specs.declared.step.Step.TheVariants.{CellLoad, Consume, Insert, Name, PairLoad}
use Rattle.watch_word.specs.Word.{word_of}

abbrev pub IsOne : ℕ → List ℕ → Type 0
IsOne index [] = ⊥
IsOne index (other ∷ others) = (index ≡ other) ⊎ IsOne index others

pick : (b : Bool) (Yes No Goal : Type 0) → MatchBool b Yes No → (b ≡ true → Yes → Goal) → (b ≡ false → No → Goal) → Goal
pick true Yes No Goal given at_true at_false = at_true refl given
pick false Yes No Goal given at_true at_false = at_false refl given

-- a look-up finds at one of its indices
pub found_at : (s : Setting) (a : Access) (indices : List ℕ) (records : List Record) (found : Watchpoint) (rest : List Record)
    → LooksUp s a indices records (Some found) rest → IsOne found.index indices
found_at s a [] records found rest h = absurd (let none : Some found ≡ None = h.0 in cc)
found_at s a (index ∷ indices) [] found rest h = absurd h
found_at s a (index ∷ indices) (first ∷ later) found rest h =
    let got = on_word first.answer _ h.2 in
    elim got.2 [
      | inl hit ↦ inl (index_is found (record { index = index; word = got.0 }) hit.1)
      | inr miss ↦ inr (found_at s a indices later found rest miss.1)
    ]
  where
    index_is : (p q : Watchpoint) → Some p ≡ Some q → p.index ≡ q.index
    index_is p q is = let same : p ≡ q = cc in ap (λ (w : Watchpoint). w.index) same

pub looked_index : (s : Setting) (a : Access) (index : ℕ) → IsOne index (look_order (slot_of s a)) → IsIndexOf s.rules.slots a.addr index
looked_index s a index h = elim h [
  | inl one ↦ record { from_page_slot = omega (arith, one); two_after = omega (arith, one) }
  | inr more ↦ elim more [
    | inl two ↦ record { from_page_slot = omega (arith, two); two_after = omega (arith, two) }
    | inr most ↦ elim most [
      | inl three ↦ record { from_page_slot = omega (arith, three); two_after = omega (arith, three) }
      | inr none ↦ absurd none
    ]
  ]
]

pub tried_index : (s : Setting) (a : Access) (index : ℕ) → IsOne index (try_order (slot_of s a)) → IsIndexOf s.rules.slots a.addr index
tried_index s a index h = elim h [
  | inl one ↦ record { from_page_slot = omega (arith, one); two_after = omega (arith, one) }
  | inr more ↦ elim more [
    | inl two ↦ record { from_page_slot = omega (arith, two); two_after = omega (arith, two) }
    | inr most ↦ elim most [
      | inl three ↦ record { from_page_slot = omega (arith, three); two_after = omega (arith, three) }
      | inr none ↦ absurd none
    ]
  ]
]

module _ (s : Setting) (a : Access) where
  abbrev word : ℕ
  word = word_of s.rules.layout a

  -- after these own records the task has an arming in hand at the index, which is the last there, under the access's
  -- word
  pub record HasIt (index : ℕ) (own : List Record) : Type 0 where
    pub part : Part
    pub hand : in_hand own ≡ Some (record { index = index; part = part })
    pub armed : last_arming index own ≡ Some (record { setter = s.task; word = word })

  abbrev pub Reaches : ℕ → List Record → List Record → Type 0
  Reaches index own records = HasIt index (back records own)

  ends : (index : ℕ) (own records rest : List Record) → rest ≡ records → Reaches index own rest → Reaches index own records
  ends index own records rest same it = subst (λ (r : List Record). Reaches index own r) same it

  loads_from : (index : ℕ) (source : Option Source) (records : List Record) (value : Option ℕ) (rest own : List Record) → HasIt index own
      → LoadsFrom s a source records value rest → ((o : List Record) → HasIt index o → Reaches index o rest) → Reaches index own records
  loads_from index None records value rest own has h on = ends index own records rest h.1 (on own has)
  loads_from index (Some source) [] value rest own has h on = absurd h
  loads_from index (Some source) (first ∷ later) value rest own has h on =
      let got = on_word first.answer _ h.2 in
      let o : List Record = made s.task (CellLoad source.cell) (answers.Word got.0) ∷ own in
      subst (λ (r : Record). Reaches index own (r ∷ later)) (sym (record_is first s.task (CellLoad source.cell) (answers.Word got.0) h.0 h.1 got.1))
      (ends index o later rest got.2.1 (on o (record { part = has.part; hand = has.hand; armed = has.armed })))

  hears : (index : ℕ) (half : Halves → ℕ) (records : List Record) (both : Halves) (own : List Record) → HasIt index own
      → Hears half s.task index records both [] → Reaches index own records
  hears index half [] both own has h = absurd h
  hears index half (first ∷ later) both own has h =
      let got = on_halves first.answer _ h.2 in
      let pair : Record = made s.task (PairLoad index) (answers.Halves got.0.setter got.0.finder) in
      let now : HasIt index (pair ∷ own) = record { part = has.part; hand = has.hand; armed = has.armed } in
      subst (λ (r : Record). Reaches index own (r ∷ later))
      (sym (record_is first s.task (PairLoad index) (answers.Halves got.0.setter got.0.finder) h.0 h.1 got.1))
      (elim got.2 [
        | inl p ↦ ends index (pair ∷ own) later [] p.2 now
        | inr q ↦ hears index half later both (pair ∷ own) now q.1
      ])

  judges : (index : ℕ) (values : Option (ℕ × ℕ)) (outcome : Outcome) (records own : List Record) → HasIt index own
      → Judges s a index values records outcome [] → Reaches index own records
  judges index values outcome [] own has h = absurd h
  judges index values outcome (first ∷ later) own has h =
      let got = on_flag first.answer _ h.2 in
      subst (λ (r : Record). Reaches index own (r ∷ later)) (sym (record_is first s.task (Consume index) (answers.Flag got.0) h.0 h.1 got.1))
      (pick got.0 _ _ _ got.2
      (λ is over. subst (λ (b : Bool). Reaches index (made s.task (Consume index) (answers.Flag b) ∷ own) later) (sym is)
      (ends index (made s.task (Consume index) (answers.Flag true) ∷ own) later [] over.1
      (record { part = parts.Untouched; hand = refl; armed = has.armed })))
      (λ is hit. subst (λ (b : Bool). Reaches index (made s.task (Consume index) (answers.Flag b) ∷ own) later) (sym is)
      (hears index finder_half later hit.0 (made s.task (Consume index) (answers.Flag false) ∷ own)
      (record { part = parts.Hit; hand = refl; armed = has.armed }) hit.1)))

  arms : (index : ℕ) (outcome : Outcome) (records own : List Record) → HasIt index own → Arms s a index records outcome [] → Reaches index own records
  arms index outcome [] own has h = absurd h
  arms index outcome (first ∷ later) own has h =
      let got = h.2.1 in
      let o : List Record = made s.task (Name index (ticket_number a)) answers.Done ∷ own in
      let now : HasIt index o = record { part = parts.Named (ticket_number a); hand = refl; armed = has.armed } in
      subst (λ (r : Record). Reaches index own (r ∷ later)) (sym (record_is first s.task (Name index (ticket_number a)) answers.Done h.0 h.1 h.2.0))
      (loads_from index (source_of s a) later got.0 got.2 o now got.4 (λ p has_p.
      loads_from index (source_of s a) got.2 got.1 got.3 p has_p got.5 (λ q has_q.
      judges index (both_values got.0 got.1) outcome got.3 q has_q got.6)))

  tries : (indices : List ℕ) (records : List Record) (place : Option ℕ) (mid own : List Record) (judged : Judged)
      → TriesInsert s.task word indices records place mid → WatchesAt s a place mid (Some judged) []
      → IsOne judged.index indices × Reaches judged.index own records
  tries [] records place mid own judged h watch =
      absurd (none (subst (λ (p : Option ℕ). WatchesAt s a p mid (Some judged) []) h.0 watch))
    where
      none : WatchesAt s a None mid (Some judged) [] → ⊥
      none w = let no : Some judged ≡ None = w.0 in cc
  tries (index ∷ indices) [] place mid own judged h watch = absurd h
  tries (index ∷ indices) (first ∷ later) place mid own judged h watch =
      let got = on_flag first.answer _ h.2 in
      let is : first ≡ made s.task (Insert index word) (answers.Flag got.0) = record_is first s.task (Insert index word) (answers.Flag got.0) h.0 h.1 got.1 in
      pick got.0 _ _ _ got.2
      (λ yes stood.
      let o : List Record = made s.task (Insert index word) (answers.Flag true) ∷ own in
      let its : WatchesAt s a (Some index) mid (Some judged) [] = subst (λ (p : Option ℕ). WatchesAt s a p mid (Some judged) []) stood.0 watch in
      let same : judged ≡ record { index = index; outcome = its.0 } = some_is judged (record { index = index; outcome = its.0 }) its.2 in
      let same_index : judged.index ≡ index = ap (λ (j : Judged). j.index) same in
      let now : HasIt index o = record { part = parts.Inserted word; hand = refl; armed = rw (eq-eqb index index refl) refl } in
      let there : Reaches index o mid = arms index its.0 mid o now its.1 in
      let here : Reaches index own (first ∷ later) =
      subst (λ (r : Record). Reaches index own (r ∷ later)) (sym is)
      (subst (λ (b : Bool). Reaches index (made s.task (Insert index word) (answers.Flag b) ∷ own) later) (sym yes)
      (subst (λ (r : List Record). Reaches index o r) stood.1 there)) in
      (inl same_index, subst (λ (n : ℕ). Reaches n own (first ∷ later)) (sym same_index) here))
      (λ no again.
      let more = tries indices later place mid (made s.task (Insert index word) (answers.Flag got.0) ∷ own) judged again watch in
      (inr more.0, subst (λ (r : Record). Reaches judged.index own (r ∷ later)) (sym is) more.1))
    where
      some_is : (p q : Judged) → Some p ≡ Some q → p ≡ q
      some_is p q e = cc

  -- a watch ends with its arming in hand, at one of its indices
  pub watch_ends : (watch own : List Record) (judged : Judged) → SetsUp s a word watch (Some judged) []
      → IsOne judged.index (try_order (slot_of s a)) × HasIt judged.index (back watch own)
  watch_ends watch own judged h = tries (try_order (slot_of s a)) watch h.0 h.1 own judged h.2 h.3
