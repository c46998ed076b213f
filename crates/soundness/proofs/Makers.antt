-- What holds of the records after a part of a check, and of a list with one more step of it in front, holds of its
-- records. A word is inserted and tried for the access that is checked.
use Rattle.std.proofs.Common.{◌≡◌, [], ◌∷◌, ℕ, Bool, true, false, List, Option, None, Some, MatchBool, MatchOption, inl, inr, subst, sym}
use Rattle.access_types.specs.Access.{Access}
use Rattle.access_types.specs.Ticket.{ticket_number}
use Rattle.setup_access.proofs.DisciplineLemmas.{on_flag, on_halves, on_word}
use Rattle.setup_access.specs.Find.{LooksUp}
use Rattle.setup_access.specs.Found.{Hears, Takes, finder_half, setter_half}
use Rattle.setup_access.specs.Hits.{Hits}
use Rattle.setup_access.specs.Records.{MakesDone, MakesFlag, MakesWord}
use Rattle.setup_access.specs.Setting.{Setting, slot_of, try_order}
use Rattle.setup_access.specs.Setup.{Arms, Frees, Judged, Judges, SetsUp, TriesInsert, WatchesAt}
use Rattle.setup_access.specs.Values.{LoadsFrom, both_values, source_of}
use Rattle.setup_access.specs.declared.outcome.Outcome.{Outcome}
use Rattle.setup_access.specs.declared.outcome.Watchpoint.{Watchpoint}
use Rattle.setup_access.specs.declared.source.Source.{Source}
use Rattle.slot.specs.Pair.{Halves}
use Rattle.slot_table.specs.declared.records.Record.{Record}
use Rattle.slot_table.specs.declared.step.Step.{Step}
use Rattle.slot_table.specs.declared.step.Step.TheVariants.{CellLoad, Clear, Consume, Insert, Load, Name, PairLoad, Remove, Tell, TryConsume}

-- what a look-up finds matches the access
pub finds_hit : (s : Setting) (a : Access) (indices : List ℕ) (records : List Record) (found : Watchpoint) (rest : List Record)
    → LooksUp s a indices records (Some found) rest → Hits s.rules.layout a found.word
finds_hit s a [] records found rest h = absurd (let none : Some found ≡ None = h.0 in cc)
finds_hit s a (index ∷ indices) [] found rest h = absurd h
finds_hit s a (index ∷ indices) (first ∷ later) found rest h =
    let got = on_word first.answer _ h.2 in
    elim got.2 [
      | inl hit ↦
          let is : found ≡ record { index = index; word = got.0 } = some_is hit.1 in
          subst (λ (w : ℕ). Hits s.rules.layout a w) (sym (ap_word is)) hit.0
      | inr miss ↦ finds_hit s a indices later found rest miss.1
    ]
  where
    some_is : {p q : Watchpoint} → Some p ≡ Some q → p ≡ q
    some_is is = cc

    ap_word : {p q : Watchpoint} → p ≡ q → p.word ≡ q.word
    ap_word is = cc

-- the steps that are fit
module _ (P : List Record → Type 0) (Fit : Step → Type 0) (before : (first : Record) (later : List Record) → Fit first.step → P later → P (first ∷ later)) where
  one : (first : Record) (later : List Record) (step : Step) → first.step ≡ step → Fit step → P later → P (first ∷ later)
  one first later step is fit p = before first later (subst Fit (sym is) fit) p

  step_word : (task : ℕ) (step : Step) (Goes : ℕ → List Record → Type 0) (records : List Record) → Fit step → MakesWord task step Goes records
      → ((word : ℕ) (later : List Record) → Goes word later → P later) → P records
  step_word task step Goes [] fit h on = absurd h
  step_word task step Goes (first ∷ later) fit h on = let got = on_word first.answer _ h.2 in one first later step h.1 fit (on got.0 later got.2)

  step_flag : (task : ℕ) (step : Step) (Goes : Bool → List Record → Type 0) (records : List Record) → Fit step → MakesFlag task step Goes records
      → ((flag : Bool) (later : List Record) → Goes flag later → P later) → P records
  step_flag task step Goes [] fit h on = absurd h
  step_flag task step Goes (first ∷ later) fit h on = let got = on_flag first.answer _ h.2 in one first later step h.1 fit (on got.0 later got.2)

  step_done : (task : ℕ) (step : Step) (Goes : List Record → Type 0) (records : List Record) → Fit step → MakesDone task step Goes records
      → ((later : List Record) → Goes later → P later) → P records
  step_done task step Goes [] fit h on = absurd h
  step_done task step Goes (first ∷ later) fit h on = one first later step h.1 fit (on later h.2.1)

  ends : (records rest : List Record) → rest ≡ records → P rest → P records
  ends records rest same p = subst P same p

  pick : (b : Bool) (Yes No : Type 0) (Goal : Type 0) → MatchBool b Yes No → (Yes → Goal) → (No → Goal) → Goal
  pick true Yes No Goal h at_true at_false = at_true h
  pick false Yes No Goal h at_true at_false = at_false h

  hears : (half : Halves → ℕ) (task index : ℕ) → Fit (PairLoad index) → (records : List Record) (both : Halves) (rest : List Record)
      → Hears half task index records both rest → P rest → P records
  hears half task index fit [] both rest h p = absurd h
  hears half task index fit (first ∷ later) both rest h p =
      let got = on_halves first.answer _ h.2 in
      one first later (PairLoad index) h.1 fit (elim got.2 [
        | inl stands ↦ ends later rest stands.2 p
        | inr not_yet ↦ hears half task index fit later both rest not_yet.1 p
      ])

  pub looks_up : ((index : ℕ) → Fit (Load index)) → (s : Setting) (a : Access) (indices : List ℕ) (records : List Record) (found : Option Watchpoint)
      (rest : List Record)
      → LooksUp s a indices records found rest → P rest → P records
  looks_up fit s a [] records found rest h p = ends records rest h.1 p
  looks_up fit s a (index ∷ indices) records found rest h p = step_word s.task (Load index) _ records (fit index) h (λ word later got. elim got [
    | inl hit ↦ ends later rest hit.2 p
    | inr miss ↦ looks_up fit s a indices later found rest miss.1 p
  ])

  takes : (s : Setting) (a : Access) (found : Watchpoint) → Fit (TryConsume found.index found.word) → Fit (PairLoad found.index)
      → Fit (Tell found.index (ticket_number a)) → (records : List Record) (outcome : Outcome) (rest : List Record)
      → Takes s a found records outcome rest → P rest → P records
  takes s a found tries loads tells records outcome rest h p = step_flag s.task (TryConsume found.index found.word) _ records tries h (λ taken later got.
      pick taken _ _ _ got
      (λ told. hears setter_half s.task found.index loads later told.0 told.1 told.2
      (step_done s.task (Tell found.index (ticket_number a)) _ told.1 tells told.3 (λ after is. ends after rest is.1 p)))
      (λ lost. ends later rest lost.1 p))

  pub masked : (mask : Option ℕ) (s : Setting) (a : Access) (found : Watchpoint) → Fit (TryConsume found.index found.word) → Fit (PairLoad found.index)
      → Fit (Tell found.index (ticket_number a)) → (records : List Record) (outcome none : Outcome) (rest : List Record)
      → MatchOption mask (Takes s a found records outcome rest) (λ m. (outcome ≡ none) × (rest ≡ records)) → P rest → P records
  masked None s a found tries loads tells records outcome none rest h p = takes s a found tries loads tells records outcome rest h p
  masked (Some m) s a found tries loads tells records outcome none rest h p = ends records rest h.1 p

  tries_insert : (task word : ℕ) → ((index : ℕ) → Fit (Insert index word)) → (indices : List ℕ) (records : List Record) (place : Option ℕ) (rest : List Record)
      → TriesInsert task word indices records place rest → P rest → P records
  tries_insert task word fit [] records place rest h p = ends records rest h.1 p
  tries_insert task word fit (index ∷ indices) records place rest h p = step_flag task (Insert index word) _ records (fit index) h (λ accepted later got.
      pick accepted _ _ _ got (λ stood. ends later rest stood.1 p) (λ refused. tries_insert task word fit indices later place rest refused p))

  loads_from : ((cell : ℕ) → Fit (CellLoad cell)) → (s : Setting) (a : Access) (source : Option Source) (records : List Record) (value : Option ℕ)
      (rest : List Record)
      → LoadsFrom s a source records value rest → P rest → P records
  loads_from fit s a None records value rest h p = ends records rest h.1 p
  loads_from fit s a (Some source) records value rest h p =
      step_word s.task (CellLoad source.cell) _ records (fit source.cell) h (λ word later got. ends later rest got.1 p)

  judges : (s : Setting) (a : Access) (index : ℕ) → Fit (Consume index) → Fit (PairLoad index) → (values : Option (ℕ × ℕ)) (records : List Record)
      (outcome : Outcome) (rest : List Record)
      → Judges s a index values records outcome rest → P rest → P records
  judges s a index consumes loads values records outcome rest h p = step_flag s.task (Consume index) _ records consumes h (λ untouched later got.
      pick untouched _ _ _ got (λ quiet. ends later rest quiet.1 p) (λ hit. hears finder_half s.task index loads later hit.0 rest hit.1 p))

  -- the steps of a setter that it makes at an index
  pub record FitAt (index ticket : ℕ) : Type 0 where
    pub names : Fit (Name index ticket)
    pub consumes : Fit (Consume index)
    pub loads : Fit (PairLoad index)
    pub cells : (cell : ℕ) → Fit (CellLoad cell)

  arms : (s : Setting) (a : Access) (index : ℕ) → FitAt index (ticket_number a) → (records : List Record) (outcome : Outcome) (rest : List Record)
      → Arms s a index records outcome rest → P rest → P records
  arms s a index fit records outcome rest h p = step_done s.task (Name index (ticket_number a)) _ records fit.names h (λ later got.
      loads_from fit.cells s a (source_of s a) later got.0 got.2 got.4
      (loads_from fit.cells s a (source_of s a) got.2 got.1 got.3 got.5
      (judges s a index fit.consumes fit.loads (both_values got.0 got.1) got.3 outcome rest got.6 p)))

  pub frees : (s : Setting) (index : ℕ) → Fit (Clear index) → Fit (Remove index) → (records rest : List Record) → Frees s index records rest → P rest → P records
  frees s index clears removes records rest h p = step_done s.task (Clear index) _ records clears h (λ later got.
      step_done s.task (Remove index) _ later removes got (λ after over. ends after rest over p))

  watches_at : (s : Setting) (a : Access) (place : Option ℕ) → ((index : ℕ) → FitAt index (ticket_number a)) → (records : List Record)
      (judged : Option Judged) (rest : List Record)
      → WatchesAt s a place records judged rest → P rest → P records
  watches_at s a None fit records judged rest h p = ends records rest h.1 p
  watches_at s a (Some index) fit records judged rest h p = arms s a index (fit index) records h.0 rest h.1 p

  pub sets_up : (s : Setting) (a : Access) (word : ℕ) → ((index : ℕ) → Fit (Insert index word)) → ((index : ℕ) → FitAt index (ticket_number a))
      → (judged : Option Judged) (records rest : List Record)
      → SetsUp s a word records judged rest → P rest → P records
  sets_up s a word inserts fit judged records rest h p =
      tries_insert s.task word inserts (try_order (slot_of s a)) records h.0 h.1 h.2 (watches_at s a h.0 fit h.1 judged rest h.3 p)
