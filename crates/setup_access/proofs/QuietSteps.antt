-- What holds of the records after a check, and of a list with one more step of a check in front, holds of its records.
use Rattle.std.proofs.Common.{◌≡◌, [], ◌∷◌, ◌+◌, ℕ, Bool, true, false, List, Option, None, Some, MatchBool, MatchOption, inl, inr, subst, sym}
use Rattle.access_types.specs.Access.{Access}
use Rattle.access_types.specs.Ticket.{ticket_number}
use Rattle.slot.specs.Pair.{Halves}
use Rattle.slot_table.specs.declared.records.Record.{Record}
use Rattle.slot_table.specs.declared.step.Answer.{Answer}
use Rattle.slot_table.specs.declared.step.Answer.TheVariants as answers
use Rattle.slot_table.specs.declared.step.Step.{Step}
use Rattle.slot_table.specs.declared.step.Step.TheVariants.{CellExchange, CellLoad, Clear, Clock, Consume, Insert, Load, LockStore, LockTry, Name, PairLoad, Remove, Tell, TryConsume}
use Rattle.watch_word.specs.Word.{word_of}
use Rattle.setup_access.specs.Check as cases
use Rattle.setup_access.specs.Check.{ChecksOnce, Ends, GoesOn, NoneFound, Pass, Passes, Rechecks}
use Rattle.setup_access.specs.Find.{LooksUp}
use Rattle.setup_access.specs.Found.{Hears, Takes, FinderTells, finder_half, setter_half}
use Rattle.setup_access.specs.Records.{MakesDone, MakesFlag, MakesWord, OnFlag, OnHalves, OnWord}
use Rattle.setup_access.specs.Setting.{Setting, look_order, slot_of, try_order}
use Rattle.setup_access.specs.Setup.{Arms, Frees, Judged, Judges, TriesInsert, WatchesAt}
use Rattle.setup_access.specs.Values.{LoadsFrom, both_values, source_of}
use Rattle.setup_access.specs.declared.begun.Begun.{Begun}
use Rattle.setup_access.specs.declared.outcome.Outcome.{Outcome}
use Rattle.setup_access.specs.declared.outcome.Outcome.TheVariants.{Nothing}
use Rattle.setup_access.specs.declared.outcome.Watchpoint.{Watchpoint}
use Rattle.setup_access.specs.declared.source.Source.{Source}

-- the step is one of a check besides those of the clock
abbrev pub IsOfCheck : Step → Type 0
IsOfCheck (CellExchange cell expected new) = ⊥
IsOfCheck (LockTry lock holder) = ⊥
IsOfCheck (LockStore lock) = ⊥
IsOfCheck Clock = ⊥
IsOfCheck step = Unit {0}

pub on_word : (answer : Answer) (P : ℕ → Type 0) (Goal : Type 0) → OnWord answer P → ((word : ℕ) → P word → Goal) → Goal
on_word (answers.Word word) P Goal h on = on word h
on_word (answers.Flag flag) P Goal h on = absurd h
on_word (answers.Halves setter finder) P Goal h on = absurd h
on_word answers.Done P Goal h on = absurd h

on_flag : (answer : Answer) (P : Bool → Type 0) (Goal : Type 0) → OnFlag answer P → ((flag : Bool) → P flag → Goal) → Goal
on_flag (answers.Word word) P Goal h on = absurd h
on_flag (answers.Flag flag) P Goal h on = on flag h
on_flag (answers.Halves setter finder) P Goal h on = absurd h
on_flag answers.Done P Goal h on = absurd h

on_halves : (answer : Answer) (P : Halves → Type 0) (Goal : Type 0) → OnHalves answer P → ((both : Halves) → P both → Goal) → Goal
on_halves (answers.Word word) P Goal h on = absurd h
on_halves (answers.Flag flag) P Goal h on = absurd h
on_halves (answers.Halves setter finder) P Goal h on = on (record { setter = setter; finder = finder }) h
on_halves answers.Done P Goal h on = absurd h

module _ (P : List Record → Type 0) (before : (first : Record) (later : List Record) → IsOfCheck first.step → P later → P (first ∷ later)) where
  one : (first : Record) (later : List Record) (step : Step) → first.step ≡ step → IsOfCheck step → P later → P (first ∷ later)
  one first later step is ok p = before first later (subst IsOfCheck (sym is) ok) p

  step_word : (task : ℕ) (step : Step) (Goes : ℕ → List Record → Type 0) (records : List Record) → IsOfCheck step → MakesWord task step Goes records
      → ((word : ℕ) (later : List Record) → Goes word later → P later) → P records
  step_word task step Goes [] ok h on = absurd h
  step_word task step Goes (first ∷ later) ok h on = one first later step h.1 ok (on_word first.answer _ _ h.2 (λ word got. on word later got))

  step_flag : (task : ℕ) (step : Step) (Goes : Bool → List Record → Type 0) (records : List Record) → IsOfCheck step → MakesFlag task step Goes records
      → ((flag : Bool) (later : List Record) → Goes flag later → P later) → P records
  step_flag task step Goes [] ok h on = absurd h
  step_flag task step Goes (first ∷ later) ok h on = one first later step h.1 ok (on_flag first.answer _ _ h.2 (λ flag got. on flag later got))

  step_done : (task : ℕ) (step : Step) (Goes : List Record → Type 0) (records : List Record) → IsOfCheck step → MakesDone task step Goes records
      → ((later : List Record) → Goes later → P later) → P records
  step_done task step Goes [] ok h on = absurd h
  step_done task step Goes (first ∷ later) ok h on = one first later step h.1 ok (on later h.2.1)

  pub ends : (records rest : List Record) → rest ≡ records → P rest → P records
  ends records rest same p = subst P same p

  pub pick : (b : Bool) (Yes No : Type 0) (Goal : Type 0) → MatchBool b Yes No → (Yes → Goal) → (No → Goal) → Goal
  pick true Yes No Goal h at_true at_false = at_true h
  pick false Yes No Goal h at_true at_false = at_false h

  hears : (half : Halves → ℕ) (task index : ℕ) (records : List Record) (both : Halves) (rest : List Record) → Hears half task index records both rest
      → P rest → P records
  hears half task index [] both rest h p = absurd h
  hears half task index (first ∷ later) both rest h p =
      one first later (PairLoad index) h.1 tt (on_halves first.answer _ _ h.2 (λ heard got. elim got [
        | inl stands ↦ ends later rest stands.2 p
        | inr not_yet ↦ hears half task index later both rest not_yet.1 p
      ]))

  looks_up : (s : Setting) (a : Access) (indices : List ℕ) (records : List Record) (found : Option Watchpoint) (rest : List Record)
      → LooksUp s a indices records found rest → P rest → P records
  looks_up s a [] records found rest h p = ends records rest h.1 p
  looks_up s a (index ∷ indices) records found rest h p = step_word s.task (Load index) _ records tt h (λ word later got. elim got [
    | inl hit ↦ ends later rest hit.2 p
    | inr miss ↦ looks_up s a indices later found rest miss.1 p
  ])

  tells : (s : Setting) (a : Access) (index : ℕ) (records : List Record) (outcome : Outcome) (rest : List Record) → FinderTells s a index records outcome rest
      → P rest → P records
  tells s a index records outcome rest h p =
      hears setter_half s.task index records h.0 h.1 h.2 (step_done s.task (Tell index (ticket_number a)) _ h.1 tt h.3 (λ later got. ends later rest got.1 p))

  takes : (s : Setting) (a : Access) (found : Watchpoint) (records : List Record) (outcome : Outcome) (rest : List Record)
      → Takes s a found records outcome rest → P rest → P records
  takes s a found records outcome rest h p = step_flag s.task (TryConsume found.index found.word) _ records tt h (λ taken later got.
      pick taken _ _ _ got (λ told. tells s a found.index later outcome rest told p) (λ lost. ends later rest lost.1 p))

  masked : (mask : Option ℕ) (s : Setting) (a : Access) (found : Watchpoint) (records : List Record) (outcome none : Outcome) (rest : List Record)
      → MatchOption mask (Takes s a found records outcome rest) (λ m. (outcome ≡ none) × (rest ≡ records)) → P rest → P records
  masked None s a found records outcome none rest h p = takes s a found records outcome rest h p
  masked (Some m) s a found records outcome none rest h p = ends records rest h.1 p

  tries_insert : (task word : ℕ) (indices : List ℕ) (records : List Record) (place : Option ℕ) (rest : List Record)
      → TriesInsert task word indices records place rest → P rest → P records
  tries_insert task word [] records place rest h p = ends records rest h.1 p
  tries_insert task word (index ∷ indices) records place rest h p = step_flag task (Insert index word) _ records tt h (λ accepted later got.
      pick accepted _ _ _ got (λ stood. ends later rest stood.1 p) (λ refused. tries_insert task word indices later place rest refused p))

  loads_from : (s : Setting) (a : Access) (source : Option Source) (records : List Record) (value : Option ℕ) (rest : List Record)
      → LoadsFrom s a source records value rest → P rest → P records
  loads_from s a None records value rest h p = ends records rest h.1 p
  loads_from s a (Some source) records value rest h p = step_word s.task (CellLoad source.cell) _ records tt h (λ word later got. ends later rest got.1 p)

  judges : (s : Setting) (a : Access) (index : ℕ) (values : Option (ℕ × ℕ)) (records : List Record) (outcome : Outcome) (rest : List Record)
      → Judges s a index values records outcome rest → P rest → P records
  judges s a index values records outcome rest h p = step_flag s.task (Consume index) _ records tt h (λ untouched later got.
      pick untouched _ _ _ got (λ quiet. ends later rest quiet.1 p) (λ hit. hears finder_half s.task index later hit.0 rest hit.1 p))

  arms : (s : Setting) (a : Access) (index : ℕ) (records : List Record) (outcome : Outcome) (rest : List Record) → Arms s a index records outcome rest
      → P rest → P records
  arms s a index records outcome rest h p = step_done s.task (Name index (ticket_number a)) _ records tt h (λ later got.
      loads_from s a (source_of s a) later got.0 got.2 got.4
      (loads_from s a (source_of s a) got.2 got.1 got.3 got.5 (judges s a index (both_values got.0 got.1) got.3 outcome rest got.6 p)))

  frees : (s : Setting) (index : ℕ) (records rest : List Record) → Frees s index records rest → P rest → P records
  frees s index records rest h p = step_done s.task (Clear index) _ records tt h (λ later got.
      step_done s.task (Remove index) _ later tt got (λ after over. ends after rest over p))

  watched_at : (s : Setting) (a : Access) (asked : ℕ) (place : Option ℕ) (records : List Record) (judged : Option Judged) (later : List Record) (pass : Pass)
      (rest : List Record)
      → WatchesAt s a place records judged later → Ends s asked judged later pass rest → P rest → P records
  watched_at s a asked None records judged later pass rest h left p =
      let none : Ends s asked None later pass rest = subst (λ (j : Option Judged). Ends s asked j later pass rest) h.0 left in
      ends records later h.1 (ends later rest none.1 p)
  watched_at s a asked (Some index) records judged later pass rest h left p =
      let some : Ends s asked (Some (record { index = index; outcome = h.0 })) later pass rest =
      subst (λ (j : Option Judged). Ends s asked j later pass rest) h.2 left in
      arms s a index records h.0 later h.1 (frees s index later rest some.1 p)

  none_found : (s : Setting) (a : Access) (marked : Bool) (asked : ℕ) (records : List Record) (pass : Pass) (rest : List Record)
      → NoneFound s a marked asked records pass rest → P rest → P records
  none_found s a marked asked records pass rest (cases.counts_as_marked m is r) p = ends records rest r p
  none_found s a marked asked records pass rest (cases.skipped m n is r) p = ends records rest r p
  none_found s a marked asked records pass rest (cases.unencodable m w n is r) p = ends records rest r p
  none_found s a marked asked records pass rest (cases.watched judged later m w encodable up left) p =
      tries_insert s.task (word_of s.rules.layout a) (try_order (slot_of s a)) records up.0 up.1 up.2
      (watched_at s a (asked + 1) up.0 up.1 judged later pass rest up.3 left p)

  goes_on : (s : Setting) (a : Access) (marked : Bool) (asked : ℕ) (found : Option Watchpoint) (records : List Record) (pass : Pass) (rest : List Record)
      → GoesOn s a marked asked found records pass rest → P rest → P records
  goes_on s a marked asked None records pass rest h p = none_found s a marked asked records pass rest h p
  goes_on s a marked asked (Some found) records pass rest h p = masked a.mask s a found records pass.outcome Nothing rest h.3 p

  pub once : (s : Setting) (a : Access) (marked : Bool) (asked : ℕ) (records : List Record) (pass : Pass) (rest : List Record)
      → ChecksOnce s a marked asked records pass rest → P rest → P records
  once s a marked asked records pass rest h p =
      looks_up s a (look_order (slot_of s a)) records h.0 h.1 h.2 (goes_on s a marked asked h.0 h.1 pass rest h.3 p)

  pub rechecks : (s : Setting) (scopes : List Begun) (asked : ℕ) (records : List Record) (passes : Passes) (rest : List Record)
      → Rechecks s scopes asked records passes rest → P rest → P records
  rechecks s [] asked records passes rest h p = ends records rest h.1 p
  rechecks s (scope ∷ scopes) asked records passes rest h p = pick scope.silenced _ _ _ h
      (λ skips. rechecks s scopes asked records passes rest skips p)
      (λ now. once s scope.access scope.marked asked records now.0 now.1 now.3
      (rechecks s scopes now.0.asked now.1 (record { outcomes = now.2; asked = passes.asked }) rest now.4 p))
