-- Each step of a check, and of an operation, names a word of the run.
use Rattle.std.proofs.Common.{◌≡◌, ◌<◌, ◌+◌, ◌||◌, ◌∷◌, [], ℕ, Bool, true, false, List, Option, None, Some, MatchBool, MatchOption}
use Rattle.std.proofs.Common.{arith, inl, inr, length, refl, subst, sym, if◌then◌else◌}
use Rattle.std.proofs.lemmas.List.Quantifiers.{position-Some}
use Rattle.std.specs.Prelude.{position}
use Rattle.std.specs.Option.{option_map}
use Rattle.access_types.specs.Access.{Access}
use Rattle.access_types.specs.Ticket.{ticket_number}
use Rattle.access_run.specs.memory_operation.Operations.{Changes, Exchanges, OnExchange, Operates, OperatesIn}
use Rattle.access_run.specs.memory_operation.Values.{is_wanted, new_value, sum_of, with_value}
use Rattle.access_run.specs.memory_operation.Locks.{TakesLock}
use Rattle.access_run.specs.declared.memory_operation.effect.Effect.{Effect}
use Rattle.access_run.specs.declared.memory_operation.operation.Change.{Change}
use Rattle.access_run.specs.declared.memory_operation.operation.Change.TheVariants as changes
use Rattle.access_run.specs.declared.memory_operation.operation.Operation.{Operation}
use Rattle.access_run.specs.declared.memory_operation.operation.Operation.TheVariants as operations
use Rattle.setup_access.specs.Check as cases
use Rattle.setup_access.specs.Check.{Check, ChecksAll, ChecksBegun, ChecksOnce, Close, Ends, Fallen, GoesOn, NoneFound, Pass, Passes, Rechecks, fallen_of}
use Rattle.setup_access.specs.Check.{left_to_check}
use Rattle.setup_access.specs.Find.{LooksUp}
use Rattle.setup_access.specs.Found.{Hears, Takes, FinderTells, setter_half, finder_half}
use Rattle.setup_access.specs.Records.{MakesDone, MakesFlag, MakesWord}
use Rattle.setup_access.specs.Setting.{Setting, look_order, slot_of, try_order}
use Rattle.setup_access.specs.Setup.{Judged, Judges, TriesInsert, Watches, WatchesAt}
use Rattle.setup_access.specs.Values.{LoadsFrom, both_values, has_value, lies_in, source_in, source_of, value_in}
use Rattle.setup_access.specs.declared.begun.Begun.{Begun}
use Rattle.setup_access.specs.declared.outcome.Outcome.{Outcome}
use Rattle.setup_access.specs.declared.outcome.Outcome.TheVariants.{Nothing}
use Rattle.setup_access.specs.declared.outcome.Watchpoint.{Watchpoint}
use Rattle.setup_access.specs.declared.source.Source.{Source}
use Rattle.setup_access.proofs.DisciplineLemmas.{on_flag, on_halves, on_word}
use Rattle.slot.specs.Pair.{Halves}
use Rattle.slot_table.specs.StepLine.{Names}
use Rattle.slot_table.specs.Words.{Words}
use Rattle.slot_table.specs.declared.records.Record.{Record}
use Rattle.slot_table.specs.declared.step.Answer.{Answer}
use Rattle.slot_table.specs.declared.step.Answer.TheVariants as answers
use Rattle.slot_table.specs.declared.step.Step.{Step}
use Rattle.slot_table.specs.declared.step.Step.TheVariants.{CellExchange, CellLoad, Clear, Clock, Consume, Insert, Load, LockTry, Name, PairLoad}
use Rattle.slot_table.specs.declared.step.Step.TheVariants.{Remove, Tell, TryConsume}
use Rattle.watch_word.specs.Layout.{word_span}
use Rattle.watch_word.specs.Word.{WordOf, word_of}
use Rattle.watch_word.specs.declared.layout.Layout.{Layout}

-- each word of an access is above 1
abbrev pub WordsAreAboveOne : Type 0
WordsAreAboveOne = (layout : Layout) (a : Access) (word : ℕ) → WordOf layout a word → (1 < word) × (word < word_span layout)

pick : (b : Bool) (Yes No Goal : Type 0) → MatchBool b Yes No → (Yes → Goal) → (No → Goal) → Goal
pick true Yes No Goal h at_true at_false = at_true h
pick false Yes No Goal h at_true at_false = at_false h

on_exchange : (answer : Answer) (Accepted : Type 0) (Refused : ℕ → Type 0) (Goal : Type 0) → OnExchange answer Accepted Refused → (Accepted → Goal)
    → ((word : ℕ) → Refused word → Goal) → Goal
on_exchange (answers.Word word) Accepted Refused Goal h accepted refused = refused word h
on_exchange (answers.Flag true) Accepted Refused Goal h accepted refused = accepted h
on_exchange (answers.Flag false) Accepted Refused Goal h accepted refused = absurd h
on_exchange (answers.Halves setter finder) Accepted Refused Goal h accepted refused = absurd h
on_exchange answers.Done Accepted Refused Goal h accepted refused = absurd h

-- each record names one of these words
abbrev pub AreNamed : Words → List Record → Type 0
AreNamed words [] = Unit {0}
AreNamed words (first ∷ later) = Names words first.step × AreNamed words later

module _ (s : Setting) (words : Words) where
  -- the words are those of the setting's run: two more indices than page slots, and its cells
  pub record AreOfRun : Type 0 where
    pub some_slot : 0 < s.rules.slots
    pub watch_words : length words.watch_words ≡ s.rules.slots + 2
    pub pair_words : length words.pair_words ≡ s.rules.slots + 2
    pub cells : length words.cells ≡ length s.cells

  abbrev P : List Record → Type 0
  P records = AreNamed words records

  named : (first : Record) (later : List Record) (step : Step) → first.step ≡ step → Names words step → P later → P (first ∷ later)
  named first later step is names p = (subst (λ (st : Step). Names words st) (sym is) names, p)

  pub word_step : (task : ℕ) (step : Step) (Next : ℕ → List Record → Type 0) (records : List Record) → MakesWord task step Next records → Names words step
      → ((word : ℕ) (later : List Record) → Next word later → P later) → P records
  word_step task step Next [] h names on = absurd h
  word_step task step Next (first ∷ later) h names on =
      let got = on_word first.answer (λ w. Next w later) h.2 in named first later step h.1 names (on got.0 later got.2)

  flag_step : (task : ℕ) (step : Step) (Next : Bool → List Record → Type 0) (records : List Record) → MakesFlag task step Next records → Names words step
      → ((flag : Bool) (later : List Record) → Next flag later → P later) → P records
  flag_step task step Next [] h names on = absurd h
  flag_step task step Next (first ∷ later) h names on =
      let got = on_flag first.answer (λ f. Next f later) h.2 in named first later step h.1 names (on got.0 later got.2)

  pub done_step : (task : ℕ) (step : Step) (Next : List Record → Type 0) (records : List Record) → MakesDone task step Next records → Names words step
      → ((later : List Record) → Next later → P later) → P records
  done_step task step Next [] h names on = absurd h
  done_step task step Next (first ∷ later) h names on = named first later step h.1 names (on later h.2.1)

  ends : (records rest : List Record) → rest ≡ records → P rest → P records
  ends records rest same p = subst (λ (r : List Record). P r) same p

  module _ (of_run : AreOfRun) (above : WordsAreAboveOne) where
    abbrev InRange : ℕ → Type 0
    InRange index = index < s.rules.slots + 2

    abbrev AreInRange : List ℕ → Type 0
    AreInRange [] = Unit {0}
    AreInRange (index ∷ indices) = InRange index × AreInRange indices

    watched_at : (index : ℕ) → InRange index → index < length words.watch_words
    watched_at index fits = let all : length words.watch_words ≡ s.rules.slots + 2 = of_run.watch_words in omega (arith, fits, all)

    paired_at : (index : ℕ) → InRange index → index < length words.pair_words
    paired_at index fits = let all : length words.pair_words ≡ s.rules.slots + 2 = of_run.pair_words in omega (arith, fits, all)

    hears : (half : Halves → ℕ) (task index : ℕ) (records : List Record) (both : Halves) (rest : List Record) → InRange index
        → Hears half task index records both rest → P rest → P records
    hears half task index [] both rest fits h p = absurd h
    hears half task index (first ∷ later) both rest fits h p =
        named first later (PairLoad index) h.1 (paired_at index fits)
        (elim (on_halves first.answer _ h.2).2 [ inl stands ↦ ends later rest stands.2 p | inr again ↦ hears half task index later both rest fits again.1 p ])

    module _ (a : Access) where
      slot_low : slot_of s a < s.rules.slots
      slot_low = let some : 0 < s.rules.slots = of_run.some_slot in omega (arith, some)

      looked_in : AreInRange (look_order (slot_of s a))
      looked_in = let low : slot_of s a < s.rules.slots = slot_low in
          (omega (arith, low), (omega (arith, low), (omega (arith, low), tt)))

      tried_in : AreInRange (try_order (slot_of s a))
      tried_in = let low : slot_of s a < s.rules.slots = slot_low in
          (omega (arith, low), (omega (arith, low), (omega (arith, low), tt)))

      -- a watchpoint that was found
      abbrev IsFine : Option Watchpoint → Type 0
      IsFine None = Unit {0}
      IsFine (Some found) = InRange found.index × (1 < found.word)

      looks : (indices : List ℕ) (records : List Record) (found : Option Watchpoint) (rest : List Record) → AreInRange indices
          → LooksUp s a indices records found rest → (IsFine found → P rest) → P records
      looks [] records found rest fits h on = ends records rest h.1 (on (subst IsFine (sym h.0) tt))
      looks (index ∷ indices) records found rest fits h on =
          word_step s.task (Load index) _ records h (watched_at index fits.0) (λ word later got. elim got [
            | inl hit ↦ ends later rest hit.2 (on (subst IsFine (sym hit.1) (fits.0, hit.0.is_watch_word.above_one)))
            | inr missed ↦ looks indices later found rest fits.1 missed.1 on
          ])

      tells : (index : ℕ) (records : List Record) (outcome : Outcome) (rest : List Record) → InRange index → FinderTells s a index records outcome rest → P rest
          → P records
      tells index records outcome rest fits h p =
          hears setter_half s.task index records h.0 h.1 fits h.2
          (done_step s.task (Tell index (ticket_number a)) _ h.1 h.3 (paired_at index fits) (λ later got. ends later rest got.1 p))

      takes : (found : Watchpoint) (records : List Record) (outcome : Outcome) (rest : List Record) → IsFine (Some found) → Takes s a found records outcome rest
          → P rest → P records
      takes found records outcome rest fine h p =
          flag_step s.task (TryConsume found.index found.word) _ records h (watched_at found.index fine.0, fine.1)
          (λ taken later got. pick taken _ _ _ got (λ told. tells found.index later outcome rest fine.0 told p) (λ lost. ends later rest lost.1 p))

      unless_masked : (mask : Option ℕ) (found : Watchpoint) (records : List Record) (outcome : Outcome) (rest : List Record) → IsFine (Some found)
          → MatchOption mask (Takes s a found records outcome rest) (λ m. (outcome ≡ Nothing) × (rest ≡ records)) → P rest → P records
      unless_masked None found records outcome rest fine h p = takes found records outcome rest fine h p
      unless_masked (Some mask) found records outcome rest fine h p = ends records rest h.1 p

      -- an index that was free
      abbrev IsPlace : Option ℕ → Type 0
      IsPlace None = Unit {0}
      IsPlace (Some index) = InRange index

      tries : (word : ℕ) (indices : List ℕ) (records : List Record) (place : Option ℕ) (rest : List Record) → 1 < word → AreInRange indices
          → TriesInsert s.task word indices records place rest → (IsPlace place → P rest) → P records
      tries word [] records place rest more fits h on = ends records rest h.1 (on (subst IsPlace (sym h.0) tt))
      tries word (index ∷ indices) records place rest more fits h on =
          flag_step s.task (Insert index word) _ records h (watched_at index fits.0, more)
          (λ accepted later got. pick accepted _ _ _ got (λ stands. ends later rest stands.1 (on (subst IsPlace (sym stands.0) fits.0)))
          (λ refused. tries word indices later place rest more fits.1 refused on))

      -- where the value of an access is
      abbrev IsThere : Option Source → Type 0
      IsThere None = Unit {0}
      IsThere (Some source) = source.cell < length words.cells

      there_at : (place : Option ℕ) → ((cell : ℕ) → place ≡ Some cell → cell < length s.cells) → IsThere (option_map (source_in s a) place)
      there_at None within = tt
      there_at (Some cell) within =
          let here : cell < length s.cells = within cell refl in
          let all : length words.cells ≡ length s.cells = of_run.cells in omega (arith, here, all)

      there_if : (b : Bool) (source : Option Source) → IsThere source → IsThere (if b then source else None)
      there_if true source is = is
      there_if false source is = tt

      is_there : IsThere (source_of s a)
      is_there = there_if (has_value a.size) (option_map (source_in s a) (position (lies_in a) s.cells))
          (there_at (position (lies_in a) s.cells) (λ cell is. (position-Some (lies_in a) s.cells cell 0 is).0))

      loads : (source : Option Source) (records : List Record) (value : Option ℕ) (rest : List Record) → IsThere source
          → LoadsFrom s a source records value rest
          → P rest → P records
      loads None records value rest there h p = ends records rest h.1 p
      loads (Some source) records value rest there h p =
          word_step s.task (CellLoad source.cell) _ records h there (λ word later got. ends later rest got.1 p)

      judges : (index : ℕ) (values : Option (ℕ × ℕ)) (records : List Record) (outcome : Outcome) (rest : List Record) → InRange index
          → Judges s a index values records outcome rest → P rest → P records
      judges index values records outcome rest fits h p =
          flag_step s.task (Consume index) _ records h (watched_at index fits)
          (λ untouched later got. pick untouched _ _ _ got (λ quiet. ends later rest quiet.1 p)
          (λ hit. hears finder_half s.task index later hit.0 rest fits hit.1 p))

      watches : (index : ℕ) (records : List Record) (outcome : Outcome) (rest : List Record) → InRange index → Watches s a index records outcome rest
          → P rest → P records
      watches index records outcome rest fits h p =
          loads (source_of s a) records h.0 h.2 is_there h.4
          (loads (source_of s a) h.2 h.1 h.3 is_there h.5 (judges index (both_values h.0 h.1) h.3 outcome rest fits h.6 p))

      -- a watch that is over
      abbrev IsOver : Option Judged → Type 0
      IsOver None = Unit {0}
      IsOver (Some judged) = InRange judged.index

      watches_at : (place : Option ℕ) (records : List Record) (judged : Option Judged) (rest : List Record) → IsPlace place
          → WatchesAt s a place records judged rest
          → (IsOver judged → P rest) → P records
      watches_at None records judged rest fits h on = ends records rest h.1 (on (subst IsOver (sym h.0) tt))
      watches_at (Some index) records judged rest fits h on =
          done_step s.task (Name index (ticket_number a)) _ records h.1 (paired_at index fits)
          (λ later got. watches index later h.0 rest fits got (on (subst IsOver (sym h.2) fits)))

      ended : (asked : ℕ) (judged : Option Judged) (records : List Record) (pass : Pass) (rest : List Record) → IsOver judged
          → Ends s asked judged records pass rest
          → P rest → P records
      ended asked None records pass rest over h p = ends records rest h.1 p
      ended asked (Some judged) records pass rest over h p =
          done_step s.task (Clear judged.index) _ records h.1 (paired_at judged.index over)
          (λ later got. done_step s.task (Remove judged.index) _ later got (watched_at judged.index over) (λ after same. ends after rest same p))

      none_found : (marked : Bool) (asked : ℕ) (records : List Record) (pass : Pass) (rest : List Record) → NoneFound s a marked asked records pass rest
          → P rest → P records
      none_found marked asked records pass rest (cases.counts_as_marked is over same) p = ends records rest same p
      none_found marked asked records pass rest (cases.skipped is skips over same) p = ends records rest same p
      none_found marked asked records pass rest (cases.unencodable is watched unfit over same) p = ends records rest same p
      none_found marked asked records pass rest (cases.watched judged later is watched fits sets over) p =
          let more : 1 < word_of s.rules.layout a = (above s.rules.layout a (word_of s.rules.layout a) (record { encodable = fits; is = refl })).0 in
          tries (word_of s.rules.layout a) (try_order (slot_of s a)) records sets.0 sets.1 more tried_in sets.2
          (λ place. watches_at sets.0 sets.1 judged later place sets.3 (λ last. ended (asked + 1) judged later pass rest last over p))

      goes_on : (found : Option Watchpoint) (marked : Bool) (asked : ℕ) (records : List Record) (pass : Pass) (rest : List Record) → IsFine found
          → GoesOn s a marked asked found records pass rest → P rest → P records
      goes_on None marked asked records pass rest fine h p = none_found marked asked records pass rest h p
      goes_on (Some found) marked asked records pass rest fine h p = unless_masked a.mask found records pass.outcome rest fine h.3 p

      once : (marked : Bool) (asked : ℕ) (records : List Record) (pass : Pass) (rest : List Record) → ChecksOnce s a marked asked records pass rest → P rest
          → P records
      once marked asked records pass rest h p =
          looks (look_order (slot_of s a)) records h.0 h.1 looked_in h.2 (λ fine. goes_on h.0 marked asked h.1 pass rest fine h.3 p)

    rechecks : (scopes : List Begun) (asked : ℕ) (records : List Record) (passes : Passes) (rest : List Record) → Rechecks s scopes asked records passes rest
        → P rest → P records
    rechecks [] asked records passes rest h p = ends records rest h.1 p
    rechecks (scope ∷ scopes) asked records passes rest h p = pick scope.silenced _ _ _ h
        (λ silent. rechecks scopes asked records passes rest silent p)
        (λ now. once scope.access scope.marked asked records now.0 now.1 now.3
        (rechecks scopes now.0.asked now.1 (record { outcomes = now.2; asked = passes.asked }) rest now.4 p))

    pub check_named : (scopes : List Begun) (begun : Begun) (asked : ℕ) (records : List Record) (passes : Passes) (rest : List Record)
        → Check s scopes begun asked records passes rest → P rest → P records
    check_named scopes begun asked records passes rest h p =
        word_step s.task Clock _ records h.2 tt (λ stamp later got. pick begun.silenced _ _ _ got
        (λ silent. ends later rest silent.1 p)
        (λ now. once begun.access begun.marked asked later now.0 now.1 now.3
        (rechecks (left_to_check now.0.settled scopes) now.0.asked now.1 (record { outcomes = now.2; asked = passes.asked }) rest now.4 p)))

    pub clock_named : (records rest : List Record) → MakesWord s.task Clock (λ stamp after. rest ≡ after) records → P rest → P records
    clock_named records rest h p = word_step s.task Clock _ records h tt (λ stamp later got. ends later rest got p)

    pub close_named : (scope : Begun) (silenced : Bool) (asked : ℕ) (records : List Record) (passes : Passes) (rest : List Record)
        → Close s scope silenced asked records passes rest → P rest → P records
    close_named scope silenced asked records passes rest h p =
        let last : Begun = record scope { silenced = scope.silenced || silenced } in
        rechecks (last ∷ []) asked records passes h.1.0 h.1.1 (clock_named h.1.0 rest h.1.2 p)

    -- the exchanges of a change
    module _ (a : Access) (source : Source) (there : source.cell < length words.cells) where
      exchanges : (change : Change) (seen : ℕ) (records : List Record) (effect : Effect) (rest : List Record)
          → Exchanges s.task a source change seen records effect rest → P rest → P records
      exchanges change seen [] effect rest h p =
          pick (is_wanted a.size change (value_in a source seen)) _ _ _ h (λ no. absurd no) (λ over. ends [] rest over.1 p)
      exchanges change seen (first ∷ later) effect rest h p =
          pick (is_wanted a.size change (value_in a source seen)) _ _ _ h
          (λ now. named first later (CellExchange source.cell seen (with_value a source seen (new_value a.size change (value_in a source seen)))) now.0.1 there
          (on_exchange first.answer _ _ _ now.1 (λ done. ends later rest done.1 p) (λ word again. exchanges change word later effect rest again p)))
          (λ over. ends (first ∷ later) rest over.1 p)

      makes_changes : (change : Change) (records : List Record) (effect : Effect) (rest : List Record) → Changes s.task a source change records effect rest
          → P rest → P records
      makes_changes change records effect rest h p =
          word_step s.task (CellLoad source.cell) _ records h there (λ seen later got. exchanges change seen later effect rest got p)

      operates_in : (operation : Operation) (records : List Record) (effect : Effect) (rest : List Record)
          → OperatesIn s.task a source operation records effect rest
          → P rest → P records
      operates_in operations.Load records effect rest h p =
          word_step s.task (CellLoad source.cell) _ records h there (λ word later got. ends later rest got.1 p)
      operates_in (operations.Add amount) records effect rest h p =
          word_step s.task (CellLoad source.cell) _ records h there (λ word later got.
          makes_changes (changes.Write (sum_of a.size (value_in a source word) amount)) later got.0 rest got.1 p)
      operates_in (operations.Change change) records effect rest h p = makes_changes change records effect rest h p

    pub operates_named : (a : Access) (operation : Option Operation) (records : List Record) (effect : Effect) (rest : List Record)
        → Operates s a operation records effect rest → P rest → P records
    operates_named a None records effect rest h p = ends records rest h.1 p
    operates_named a (Some operation) records effect rest h p =
        operates_in a h.0 (subst (IsThere a) h.1 (is_there a)) operation records effect rest h.2 p

  pub lock_named : (task lock : ℕ) (records rest : List Record) → lock < length words.locks → TakesLock task lock records rest → P rest → P records
  lock_named task lock [] rest fits h p = absurd h
  lock_named task lock (first ∷ later) rest fits h p =
      let got = on_flag first.answer _ h.2 in
      named first later (LockTry lock task) h.1 fits
      (pick got.0 _ _ _ got.2 (λ over. ends later rest over p) (λ again. lock_named task lock later rest fits again p))
