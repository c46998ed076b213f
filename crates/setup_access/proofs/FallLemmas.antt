-- Each outcome falls at one of the records: each part of a check reads a beginning of them, and its outcome falls at
-- the last record that it reads.
use Rattle.std.proofs.Common.{◌≡◌, ◌∙◌, ◌∷◌, ◌+◌, ◌++◌, ◌||◌, [], ℕ, Bool, true, false, List, Option, None, Some}
use Rattle.std.proofs.Common.{IsSome, MatchBool, MatchOption, ap, append_assoc, drop, inl, inr, is_some, refl, subst, sym}
use Rattle.std.proofs.Common.{◌<◌, zero, suc, arith, if◌then◌else◌}
use Rattle.access_types.specs.Access.{Access}
use Rattle.access_types.specs.Ticket.{ticket_number}
use Rattle.slot.specs.Pair.{Halves}
use Rattle.slot_table.specs.declared.records.Record.{Record}
use Rattle.slot_table.specs.declared.step.Answer.TheVariants as answers
use Rattle.slot_table.specs.declared.step.Step.{Step}
use Rattle.slot_table.specs.declared.step.Step.TheVariants.{CellLoad, Clear, Clock, Consume, Insert, Load, PairLoad, Remove, Tell, TryConsume}
use Rattle.watch_word.specs.Word.{word_of}
use Rattle.setup_access.specs.Check as cases
use Rattle.setup_access.specs.Check.{ChecksAll, ChecksBegun, ChecksLast, ChecksOnce, ChecksStamped, Ends, Fallen, GoesOn, NoneFound, Pass, Passes, Rechecks, fallen_of, left_to_check}
use Rattle.setup_access.specs.Checker.{RoleLeft, StageLeft}
use Rattle.setup_access.specs.FallsAt.{AllFallIn, EndsLookUp, FallsAt, FallsIn, GivesAt, TakingFalls, WatchingFalls}
use Rattle.setup_access.specs.Due.{extended}
use Rattle.setup_access.specs.Fallen.{followed}
use Rattle.setup_access.specs.Found.{Hears, Takes, FinderTells, TellsTo, finder_half, setter_half}
use Rattle.setup_access.specs.Hits.{Hits}
use Rattle.setup_access.specs.Parts.{FindLeft, SetupLeft, after_refusal, left_to_try, made}
use Rattle.slot_table.specs.index_order.Indices.{look_index, place_after, try_index}
use Rattle.setup_access.specs.PassLeft.{Given, PassLeft, falls_before}
use Rattle.setup_access.specs.Records.{MakesDone, MakesWord, OnFlag, OnHalves, OnWord}
use Rattle.setup_access.specs.Setting.{Setting, slot_of}
use Rattle.setup_access.specs.Setup.{Arms, Frees, Judged, Judges, JudgesHit, TriesInsert, WatchesAt}
use Rattle.setup_access.specs.Values.{LoadsFrom, both_values, source_of}
use Rattle.setup_access.specs.Verdicts as of
use Rattle.setup_access.specs.Verdicts.{HitOutcome, UntouchedOutcome}
use Rattle.setup_access.specs.declared.begun.Begun.{Begun}
use Rattle.setup_access.specs.declared.found.Found.TheVariants as founds
use Rattle.setup_access.specs.declared.found.Taking.{Taking}
use Rattle.setup_access.specs.declared.found.Taking.TheVariants as takings
use Rattle.setup_access.specs.declared.outcome.Outcome.{Outcome}
use Rattle.setup_access.specs.declared.outcome.Outcome.TheVariants.{Capacity, Lost, Nothing}
use Rattle.setup_access.specs.declared.outcome.Watchpoint.{Watchpoint}
use Rattle.setup_access.specs.declared.pass.Pass as code
use Rattle.setup_access.specs.declared.pass.Pass.TheVariants as parts
use Rattle.slot_table.specs.declared.index_order.place.ProbeIndex.{ProbeIndex}
use Rattle.slot_table.specs.declared.index_order.place.ProbeIndex.TheVariants.{First, Second, Third}
use Rattle.setup_access.specs.declared.setup.Setup.{Setup}
use Rattle.setup_access.specs.declared.setup.Setup.TheVariants as setups
use Rattle.setup_access.specs.declared.setup.Watching.{Watching}
use Rattle.setup_access.specs.declared.setup.Watching.TheVariants as watchings
use Rattle.setup_access.specs.declared.source.Source.{Source}
use Rattle.setup_access.specs.declared.stage.Role.{Role}
use Rattle.setup_access.specs.declared.stage.Role.TheVariants as roles
use Rattle.setup_access.specs.declared.stage.CheckStage.{CheckStage}
use Rattle.setup_access.specs.declared.stage.CheckStage.TheVariants as stages
use Rattle.setup_access.proofs.DisciplineLemmas.{on_flag, on_halves, on_word, record_is}

-- the records end with these
abbrev pub EndsWith : List Record → List Record → Type 0
EndsWith records rest = (earlier : List Record) × (records ≡ earlier ++ rest)

-- and just before them with one of which this holds
abbrev pub EndsAfter : (Record → Type 0) → List Record → List Record → Type 0
EndsAfter P records rest = (earlier : List Record) × (last : Record) × (records ≡ earlier ++ last ∷ rest) × P last

all_left : (records rest : List Record) → rest ≡ records → EndsWith records rest
all_left records rest same = ([], sym same)

one_on : (first : Record) (later rest : List Record) → EndsWith later rest → EndsWith (first ∷ later) rest
one_on first later rest h = (first ∷ h.0, ap (λ (r : List Record). first ∷ r) h.1)

more_on : (records mid rest : List Record) → EndsWith records mid → EndsWith mid rest → EndsWith records rest
more_on records mid rest h g = (h.0 ++ g.0, h.1 ∙ (ap (λ (r : List Record). h.0 ++ r) g.1 ∙ sym (append_assoc h.0 g.0 rest)))

module _ (P : Record → Type 0) where
  last_now : (first : Record) (later rest : List Record) → P first → rest ≡ later → EndsAfter P (first ∷ later) rest
  last_now first later rest holds same = ([], first, ap (λ (r : List Record). first ∷ r) (sym same), holds)

  last_later : (first : Record) (later rest : List Record) → EndsAfter P later rest → EndsAfter P (first ∷ later) rest
  last_later first later rest h = (first ∷ h.0, h.1, ap (λ (r : List Record). first ∷ r) h.2, h.3)

  last_after : (records mid rest : List Record) → EndsWith records mid → EndsAfter P mid rest → EndsAfter P records rest
  last_after records mid rest h g = (h.0 ++ g.0, g.1, h.1 ∙ (ap (λ (r : List Record). h.0 ++ r) g.2 ∙ sym (append_assoc h.0 g.0 (g.1 ∷ rest))), g.3)

  past_last : (records rest : List Record) → EndsAfter P records rest → EndsWith records rest
  past_last records rest h = (h.0 ++ h.1 ∷ [], h.2 ∙ sym (append_assoc h.0 (h.1 ∷ []) rest))

  -- the same before another rest that is the same
  same_rest : (records rest other : List Record) → other ≡ rest → EndsAfter P records rest → EndsAfter P records other
  same_rest records rest other same h = subst (λ (r : List Record). EndsAfter P records r) (sym same) h

module _ (task : ℕ) (step : Step) (first : Record) where
  word_made : (P : ℕ → Type 0) → (first.task ≡ task) × (first.step ≡ step) × OnWord first.answer P → (word : ℕ) × (first ≡ made task step (answers.Word word)) × P word
  word_made P h = let got = on_word first.answer P h.2 in (got.0, record_is first task step (answers.Word got.0) h.0 h.1 got.1, got.2)

  flag_made : (P : Bool → Type 0) → (first.task ≡ task) × (first.step ≡ step) × OnFlag first.answer P → (flag : Bool) × (first ≡ made task step (answers.Flag flag)) × P flag
  flag_made P h = let got = on_flag first.answer P h.2 in (got.0, record_is first task step (answers.Flag got.0) h.0 h.1 got.1, got.2)

  halves_made : (P : Halves → Type 0) → (first.task ≡ task) × (first.step ≡ step) × OnHalves first.answer P
      → (both : Halves) × (first ≡ made task step (answers.Halves both.setter both.finder)) × P both
  halves_made P h =
      let got = on_halves first.answer P h.2 in (got.0, record_is first task step (answers.Halves got.0.setter got.0.finder) h.0 h.1 got.1, got.2)

-- a step without an answer
done_ends : (task : ℕ) (step : Step) (Goes : List Record → Type 0) (records rest : List Record) → MakesDone task step Goes records
    → ((later : List Record) → Goes later → EndsWith later rest) → EndsWith records rest
done_ends task step Goes [] rest h on = absurd h
done_ends task step Goes (first ∷ later) rest h on = one_on first later rest (on later h.2.1)

clock_ends : (task : ℕ) (records rest : List Record) → MakesWord task Clock (λ stamp after. rest ≡ after) records → EndsWith records rest
clock_ends task [] rest h = absurd h
clock_ends task (first ∷ later) rest h =
    one_on first later rest (all_left later rest (on_word first.answer (λ stamp. rest ≡ later) h.2).2)

module _ (s : Setting) (a : Access) where
  -- a look-up that found a watchpoint, or none, ended with this load
  found_ends : (place : ProbeIndex) (first : Record) (word : ℕ) (found : Option Watchpoint)
      → first ≡ made s.task (Load (look_index place (slot_of s a))) (answers.Word word) → Hits s.rules.layout a word
      → found ≡ Some (record { index = look_index place (slot_of s a); word = word }) → EndsLookUp s a found first
  found_ends place first word found is hits same =
      subst (λ (f : Option Watchpoint). EndsLookUp s a f first) (sym same) (place, refl, hits, is)

  none_ends : (first : Record) (word : ℕ) (found : Option Watchpoint) → first ≡ made s.task (Load (slot_of s a + 2)) (answers.Word word)
      → ¬ Hits s.rules.layout a word → found ≡ None → EndsLookUp s a found first
  none_ends first word found is misses same = subst (λ (f : Option Watchpoint). EndsLookUp s a f first) (sym same) (word, is, misses)

  -- a word that was read leaves nothing of the look-up
  pub sought_ends : (place : ProbeIndex) (word : ℕ) (found : Option Watchpoint)
      → FindLeft s a (record { place = place }) (made s.task (Load (look_index place (slot_of s a))) (answers.Word word) ∷ []) found []
      → EndsLookUp s a found (made s.task (Load (look_index place (slot_of s a))) (answers.Word word))
  sought_ends First word found h = elim h.2 [ inl p ↦ found_ends First _ word found refl p.0 p.1 | inr q ↦ absurd q.1 ]
  sought_ends Second word found h = elim h.2 [ inl p ↦ found_ends Second _ word found refl p.0 p.1 | inr q ↦ absurd q.1 ]
  sought_ends Third word found h =
      elim h.2 [ inl p ↦ found_ends Third _ word found refl p.0 p.1 | inr q ↦ none_ends _ word found refl q.0 q.1.0 ]

  -- an access with a mask takes nothing
  pub masked_falls : (found : Watchpoint) (last : Record) → IsSome a.mask → EndsLookUp s a (Some found) last → FallsAt s a Nothing last
  masked_falls found last masked looked = inr (found, masked, looked)

  find_last : (place : ProbeIndex) (records : List Record) (found : Option Watchpoint) (rest : List Record)
      → FindLeft s a (record { place = place }) records found rest → EndsAfter (EndsLookUp s a found) records rest
  find_last First [] found rest h = absurd h
  find_last Second [] found rest h = absurd h
  find_last Third [] found rest h = absurd h
  find_last First (first ∷ later) found rest h =
      let got = word_made s.task (Load (slot_of s a)) first _ h in
      elim got.2 [
        | inl p ↦ last_now (EndsLookUp s a found) first later rest (found_ends First first got.0 found got.1 p.0 p.1) p.2
        | inr q ↦ last_later (EndsLookUp s a found) first later rest (find_last Second later found rest q.1)
      ]
  find_last Second (first ∷ later) found rest h =
      let got = word_made s.task (Load (slot_of s a + 1)) first _ h in
      elim got.2 [
        | inl p ↦ last_now (EndsLookUp s a found) first later rest (found_ends Second first got.0 found got.1 p.0 p.1) p.2
        | inr q ↦ last_later (EndsLookUp s a found) first later rest (find_last Third later found rest q.1)
      ]
  find_last Third (first ∷ later) found rest h =
      let got = word_made s.task (Load (slot_of s a + 2)) first _ h in
      elim got.2 [
        | inl p ↦ last_now (EndsLookUp s a found) first later rest (found_ends Third first got.0 found got.1 p.0 p.1) p.2
        | inr q ↦ last_now (EndsLookUp s a found) first later rest (none_ends first got.0 found got.1 q.0 q.1.0) q.1.1
      ]

  -- a half was heard at the last load of the pair: it stood
  abbrev HeardAt : (Halves → ℕ) → ℕ → Halves → Record → Type 0
  HeardAt half index both last = (last ≡ made s.task (PairLoad index) (answers.Halves both.setter both.finder)) × (0 < half both)

  hears_last : (half : Halves → ℕ) (index : ℕ) (records : List Record) (both : Halves) (rest : List Record)
      → Hears half s.task index records both rest → EndsAfter (HeardAt half index both) records rest
  hears_last half index [] both rest h = absurd h
  hears_last half index (first ∷ later) both rest h =
      let got = halves_made s.task (PairLoad index) first _ h in
      elim got.2 [
        | inl p ↦ last_now (HeardAt half index both) first later rest
            (subst (λ (b : Halves). HeardAt half index b first) (sym p.1) (got.1, p.0)) p.2
        | inr q ↦ last_later (HeardAt half index both) first later rest (hears_last half index later both rest q.1)
      ]

  module _ (outcome : Outcome) where
    abbrev Falls : Record → Type 0
    Falls = FallsAt s a outcome

    -- what is known of an outcome
    as_known : (other : Outcome) (last : Record) → outcome ≡ other → FallsAt s a other last → Falls last
    as_known other last same h = subst (λ (o : Outcome). FallsAt s a o last) (sym same) h

    tells_to_last : (index setter : ℕ) (records rest : List Record) → TellsTo s a index setter records outcome rest → EndsAfter Falls records rest
    tells_to_last index setter [] rest h = absurd h
    tells_to_last index setter (first ∷ later) rest h =
        last_now Falls first later rest
        (as_known _ first h.2.1.0 (index, record_is first s.task (Tell index (ticket_number a)) answers.Done h.0 h.1 h.2.0, refl)) h.2.1.1

    tells_last : (index : ℕ) (records rest : List Record) → FinderTells s a index records outcome rest → EndsAfter Falls records rest
    tells_last index records rest h =
        last_after Falls records h.1 rest
        (past_last (HeardAt setter_half index h.0) records h.1 (hears_last setter_half index records h.0 h.1 h.2))
        (tells_to_last index h.0.setter h.1 rest h.3)

    takes_last : (found : Watchpoint) (records rest : List Record) → Takes s a found records outcome rest → EndsAfter Falls records rest
    takes_last found [] rest h = absurd h
    takes_last found (first ∷ later) rest h =
        let got = flag_made s.task (TryConsume found.index found.word) first _ h in by_flag got.0 got.1 got.2
      where
        by_flag : (taken : Bool) → first ≡ made s.task (TryConsume found.index found.word) (answers.Flag taken)
            → MatchBool taken (FinderTells s a found.index later outcome rest) ((outcome ≡ Lost) × (rest ≡ later)) → EndsAfter Falls (first ∷ later) rest
        by_flag true is h = last_later Falls first later rest (tells_last found.index later rest h)
        by_flag false is h = last_now Falls first later rest (as_known Lost first h.0 (found.index, found.word, is)) h.1

    -- a watchpoint was found: an access with a mask has its outcome at the look-up's last load
    found_last : (mask : Option ℕ) (found : Watchpoint) (before records rest : List Record) → a.mask ≡ mask
        → EndsAfter (EndsLookUp s a (Some found)) before records
        → MatchOption mask (Takes s a found records outcome rest) (λ m. (outcome ≡ Nothing) × (rest ≡ records)) → EndsAfter Falls before rest
    found_last None found before records rest none looked h =
        last_after Falls before records rest (past_last (EndsLookUp s a (Some found)) before records looked)
        (takes_last found records rest h)
    found_last (Some m) found before records rest masked looked h =
        let falls = masked_falls found looked.1 (ap is_some masked) looked.3 in
        same_rest Falls before records rest h.1 (looked.0, looked.1, looked.2, as_known Nothing looked.1 h.0 falls)

    -- what was heard makes the verdict
    pub hit_falls : (index : ℕ) (values : Option (ℕ × ℕ)) (both : Halves) (last : Record) → HeardAt finder_half index both last
        → HitOutcome s a values both outcome → Falls last
    hit_falls index values both last is (of.encoding none e) = as_known _ last e (both.setter, both.finder, (index, is.0, is.1))
    hit_falls index values both last is (of.reported c h cs vs e) = as_known _ last e (index, is.0, is.1)
    hit_falls index values both last is (of.dropped c r h cs vs e) = as_known _ last e (both.setter, both.finder, (index, is.0, is.1))

    pub untouched_falls : (index : ℕ) (values : Option (ℕ × ℕ)) (last : Record) → last ≡ made s.task (Consume index) (answers.Flag true) → UntouchedOutcome s a values outcome → Falls last
    untouched_falls index values last is (of.unknown c old new cs vs v e) = as_known _ last e (index, is)
    untouched_falls index values last is (of.quiet c cs vs e) = as_known _ last e (index, is)

    judges_hit_last : (index : ℕ) (values : Option (ℕ × ℕ)) (records rest : List Record) → JudgesHit s a index values records outcome rest → EndsAfter Falls records rest
    judges_hit_last index values records rest h =
        let heard = hears_last finder_half index records h.0 rest h.1 in (heard.0, heard.1, heard.2, hit_falls index values h.0 heard.1 heard.3 h.2)

    judges_last : (index : ℕ) (values : Option (ℕ × ℕ)) (records rest : List Record) → Judges s a index values records outcome rest → EndsAfter Falls records rest
    judges_last index values [] rest h = absurd h
    judges_last index values (first ∷ later) rest h =
        let got = flag_made s.task (Consume index) first _ h in by_flag got.0 got.1 got.2
      where
        by_flag : (untouched : Bool) → first ≡ made s.task (Consume index) (answers.Flag untouched)
            → MatchBool untouched (UntouchedOutcome s a values outcome × (rest ≡ later)) (JudgesHit s a index values later outcome rest) → EndsAfter Falls (first ∷ later) rest
        by_flag true is h = last_now Falls first later rest (untouched_falls index values first is h.0) h.1
        by_flag false is h = last_later Falls first later rest (judges_hit_last index values later rest h)

  -- the load of a value
  loads_ends : (source : Option Source) (records : List Record) (value : Option ℕ) (rest : List Record) → LoadsFrom s a source records value rest → EndsWith records rest
  loads_ends None records value rest h = all_left records rest h.1
  loads_ends (Some source) [] value rest h = absurd h
  loads_ends (Some source) (first ∷ later) value rest h =
      let got = word_made s.task (CellLoad source.cell) first _ h in one_on first later rest (all_left later rest got.2.1)

  loads_last : (outcome : Outcome) (index : ℕ) (values : Option (ℕ × ℕ)) (source : Option Source) (records : List Record) (value : Option ℕ) (consumed rest : List Record)
      → LoadsFrom s a source records value consumed → Judges s a index values consumed outcome rest → EndsAfter (FallsAt s a outcome) records rest
  loads_last outcome index values source records value consumed rest loads judges =
      last_after (FallsAt s a outcome) records consumed rest (loads_ends source records value consumed loads) (judges_last outcome index values consumed rest judges)

  both_last : (outcome : Outcome) (index : ℕ) (source : Option Source) (records : List Record) (old new : Option ℕ) (stalled consumed rest : List Record)
      → LoadsFrom s a source records old stalled → LoadsFrom s a source stalled new consumed → Judges s a index (both_values old new) consumed outcome rest
      → EndsAfter (FallsAt s a outcome) records rest
  both_last outcome index source records old new stalled consumed rest first second judges =
      last_after (FallsAt s a outcome) records stalled rest (loads_ends source records old stalled first)
      (loads_last outcome index (both_values old new) source stalled new consumed rest second judges)

  arms_last : (outcome : Outcome) (index : ℕ) (records rest : List Record) → Arms s a index records outcome rest → EndsAfter (FallsAt s a outcome) records rest
  arms_last outcome index [] rest h = absurd h
  arms_last outcome index (first ∷ later) rest h =
      let w = h.2.1 in
      last_later (FallsAt s a outcome) first later rest (both_last outcome index (source_of s a) later w.0 w.1 w.2 w.3 rest w.4 w.5 w.6)

  -- the tries of an insertion
  tries_ends : (word : ℕ) (indices : List ℕ) (records : List Record) (place : Option ℕ) (rest : List Record) → TriesInsert s.task word indices records place rest → EndsWith records rest
  tries_ends word [] records place rest h = all_left records rest h.1
  tries_ends word (index ∷ indices) [] place rest h = absurd h
  tries_ends word (index ∷ indices) (first ∷ later) place rest h =
      let got = flag_made s.task (Insert index word) first _ h in one_on first later rest (by_flag got.0 got.2 (λ more. tries_ends word indices later place rest more))
    where
      by_flag : (accepted : Bool) → MatchBool accepted ((place ≡ Some index) × (rest ≡ later)) (TriesInsert s.task word indices later place rest)
          → (TriesInsert s.task word indices later place rest → EndsWith later rest) → EndsWith later rest
      by_flag true h on = all_left later rest h.1
      by_flag false h on = on h

  -- a try, in an insertion that finds no place
  refused_last : (index word : ℕ) (indices : List ℕ) (records : List Record) (place : Option ℕ) (rest : List Record)
      → TriesInsert s.task word (index ∷ indices) records place rest → place ≡ None
      → ((first : Record) (later : List Record) → first ≡ made s.task (Insert index word) (answers.Flag false)
      → TriesInsert s.task word indices later place rest → EndsAfter (FallsAt s a Capacity) (first ∷ later) rest)
      → EndsAfter (FallsAt s a Capacity) records rest
  refused_last index word indices [] place rest h none on = absurd h
  refused_last index word indices (first ∷ later) place rest h none on =
      let got = flag_made s.task (Insert index word) first _ h in by_flag got.0 got.1 got.2
    where
      by_flag : (accepted : Bool) → first ≡ made s.task (Insert index word) (answers.Flag accepted)
          → MatchBool accepted ((place ≡ Some index) × (rest ≡ later)) (TriesInsert s.task word indices later place rest)
          → EndsAfter (FallsAt s a Capacity) (first ∷ later) rest
      by_flag true is h = absurd (let no : Some index ≡ None = sym h.0 ∙ none in cc)
      by_flag false is h = on first later is h

  -- the third is the last
  third_full : (word : ℕ) (records : List Record) (place : Option ℕ) (rest : List Record)
      → TriesInsert s.task word (slot_of s a ∷ []) records place rest → place ≡ None → EndsAfter (FallsAt s a Capacity) records rest
  third_full word records place rest h none =
      refused_last (slot_of s a) word [] records place rest h none
      (λ first later is over. last_now (FallsAt s a Capacity) first later rest (word, is) over.1)

  second_full : (word : ℕ) (records : List Record) (place : Option ℕ) (rest : List Record)
      → TriesInsert s.task word ((slot_of s a + 2) ∷ slot_of s a ∷ []) records place rest → place ≡ None
      → EndsAfter (FallsAt s a Capacity) records rest
  second_full word records place rest h none =
      refused_last (slot_of s a + 2) word (slot_of s a ∷ []) records place rest h none
      (λ first later is more. last_later (FallsAt s a Capacity) first later rest (third_full word later place rest more none))

  tries_full : (from : ProbeIndex) (word : ℕ) (records : List Record) (place : Option ℕ) (rest : List Record)
      → TriesInsert s.task word (left_to_try from (slot_of s a)) records place rest → place ≡ None
      → EndsAfter (FallsAt s a Capacity) records rest
  tries_full First word records place rest h none =
      refused_last (slot_of s a + 1) word ((slot_of s a + 2) ∷ slot_of s a ∷ []) records place rest h none
      (λ first later is more. last_later (FallsAt s a Capacity) first later rest (second_full word later place rest more none))
  tries_full Second word records place rest h none = second_full word records place rest h none
  tries_full Third word records place rest h none = third_full word records place rest h none

  frees_ends : (index : ℕ) (records rest : List Record) → Frees s index records rest → EndsWith records rest
  frees_ends index records rest h =
      done_ends s.task (Clear index) _ records rest h (λ later got. done_ends s.task (Remove index) _ later rest got (λ after over. all_left after rest over))

  -- a pass whose outcome falls in the records, which end with the rest
  abbrev Comes : List Record → Pass → List Record → Type 0
  Comes records pass rest = FallsIn s records (fallen_of a pass) × EndsWith records rest

  -- a watch that is over
  judged_comes : (asked index : ℕ) (outcome : Outcome) (records : List Record) (judged : Option Judged) (later : List Record) (pass : Pass) (rest : List Record)
      → EndsAfter (FallsAt s a outcome) records later → judged ≡ Some (record { index = index; outcome = outcome }) → Ends s asked judged later pass rest → Comes records pass rest
  judged_comes asked index outcome records judged later pass rest last is h =
      let over : Ends s asked (Some (record { index = index; outcome = outcome })) later pass rest = subst (λ (j : Option Judged). Ends s asked j later pass rest) is h in (
        subst (λ (p : Pass). FallsIn s records (fallen_of a p)) (sym over.0) last,
        more_on records later rest (past_last (FallsAt s a outcome) records later last) (frees_ends index later rest over.1),
      )

  -- an insertion, and what follows on it
  inserts_comes : (from : ProbeIndex) (word asked : ℕ) (records : List Record) (place : Option ℕ) (mid : List Record)
      (judged : Option Judged) (later : List Record) (pass : Pass) (rest : List Record)
      → TriesInsert s.task word (left_to_try from (slot_of s a)) records place mid → WatchesAt s a place mid judged later
      → Ends s asked judged later pass rest → Comes records pass rest
  inserts_comes from word asked records None mid judged later pass rest tries watches h =
      let over : Ends s asked None later pass rest = subst (λ (j : Option Judged). Ends s asked j later pass rest) watches.0 h in
      let last = same_rest (FallsAt s a Capacity) records mid later watches.1 (tries_full from word records None mid tries refl) in (
        subst (λ (p : Pass). FallsIn s records (fallen_of a p)) (sym over.0) last,
        more_on records later rest (past_last (FallsAt s a Capacity) records later last) (all_left later rest over.1),
      )
  inserts_comes from word asked records (Some at) mid judged later pass rest tries watches h =
      judged_comes asked at watches.0 records judged later pass rest
      (last_after (FallsAt s a watches.0) records mid later (tries_ends word (left_to_try from (slot_of s a)) records (Some at) mid tries)
      (arms_last watches.0 at mid later watches.1)) watches.2 h

  -- what an access that sets a watchpoint up has left
  setup_comes : (setup : Setup) (asked : ℕ) (records : List Record) (judged : Option Judged) (later : List Record) (pass : Pass) (rest : List Record)
      → SetupLeft s a setup records judged later → Ends s asked judged later pass rest → Comes records pass rest
  setup_comes (setups.Insert from word) asked records judged later pass rest h ends =
      inserts_comes from word asked records h.0 h.1 judged later pass rest h.2 h.3 ends
  setup_comes (setups.Name index) asked records judged later pass rest h ends =
      judged_comes asked index h.0 records judged later pass rest (arms_last h.0 index records later h.1) h.2 ends
  setup_comes (setups.LoadOld index source) asked records judged later pass rest h ends =
      let w = h.1 in
      judged_comes asked index h.0 records judged later pass rest (both_last h.0 index (Some source) records w.0 w.1 w.2 w.3 later w.4 w.5 w.6) h.2 ends
  setup_comes (setups.LoadNew index source old) asked records judged later pass rest h ends =
      let w = h.1 in
      judged_comes asked index h.0 records judged later pass rest (loads_last h.0 index (both_values (Some old) w.0) (Some source) records w.0 w.1 later w.2 w.3) h.2 ends
  setup_comes (setups.Consume index values) asked records judged later pass rest h ends =
      judged_comes asked index h.0 records judged later pass rest (judges_last h.0 index values records later h.1) h.2 ends
  setup_comes (setups.HearFinder index values tries) asked records judged later pass rest h ends =
      judged_comes asked index h.0 records judged later pass rest (judges_hit_last h.0 index values records later h.1) h.2 ends

  -- what follows on a look-up
  module _ (before records : List Record) where
    looked_only : (outcome : Outcome) (pass : Pass) (rest : List Record) (settled : Bool) (asked : ℕ)
        → EndsAfter (FallsAt s a outcome) before records
        → pass ≡ record { outcome = outcome; later = records; settled = settled; asked = asked } → rest ≡ records → Comes before pass rest
    looked_only outcome pass rest settled asked last is over = (
      subst (λ (p : Pass). FallsIn s before (fallen_of a p)) (sym is) last,
      more_on before records rest (past_last (FallsAt s a outcome) before records last) (all_left records rest over),
    )

    none_comes : (marked : Bool) (asked : ℕ) (pass : Pass) (rest : List Record) → EndsAfter (EndsLookUp s a None) before records
        → NoneFound s a marked asked records pass rest → Comes before pass rest
    none_comes marked asked pass rest looked (cases.counts_as_marked m is r) =
        looked_only Nothing pass rest _ _ (looked.0, looked.1, looked.2, inl looked.3) is r
    none_comes marked asked pass rest looked (cases.skipped m n is r) =
        looked_only Nothing pass rest _ _ (looked.0, looked.1, looked.2, inl looked.3) is r
    none_comes marked asked pass rest looked (cases.unencodable m w n is r) = looked_only _ pass rest _ _ looked is r
    none_comes marked asked pass rest looked (cases.watched judged later m w e up ends) =
        let set = setup_comes (setups.Insert First (word_of s.rules.layout a)) (asked + 1) records judged later pass rest up ends in
        let back = past_last (EndsLookUp s a None) before records looked in
        (last_after (FallsAt s a pass.outcome) before records pass.later back set.0, more_on before records rest back set.1)

    goes_on_comes : (found : Option Watchpoint) (marked : Bool) (asked : ℕ) (pass : Pass) (rest : List Record)
        → EndsAfter (EndsLookUp s a found) before records
        → GoesOn s a marked asked found records pass rest → Comes before pass rest
    goes_on_comes None marked asked pass rest looked h = none_comes marked asked pass rest looked h
    goes_on_comes (Some found) marked asked pass rest looked h =
        let last = found_last pass.outcome a.mask found before records rest refl looked h.3 in
        (same_rest (FallsAt s a pass.outcome) before rest pass.later h.2 last, past_last (FallsAt s a pass.outcome) before rest last)

  -- a check of an access
  pub once_comes : (marked : Bool) (asked : ℕ) (records : List Record) (pass : Pass) (rest : List Record) → ChecksOnce s a marked asked records pass rest → Comes records pass rest
  once_comes marked asked records pass rest h =
      goes_on_comes records h.1 h.0 marked asked pass rest (find_last First records h.0 h.1 h.2) h.3

module _ (s : Setting) where
  -- records before
  fall_back : (records later : List Record) (fallen : List Fallen) → EndsWith records later → AllFallIn s later fallen → AllFallIn s records fallen
  fall_back records later [] ends h = tt
  fall_back records later (first ∷ others) ends h =
      (last_after (FallsAt s first.access first.outcome) records later first.later ends h.0, fall_back records later others ends h.1)

  pub fall_both : (records : List Record) (first second : List Fallen) → AllFallIn s records first → AllFallIn s records second → AllFallIn s records (first ++ second)
  fall_both records [] second h g = g
  fall_both records (one ∷ others) second h g = (h.0, fall_both records others second h.1 g)

  abbrev AllCome : List Record → List Fallen → List Record → Type 0
  AllCome records fallen rest = AllFallIn s records fallen × EndsWith records rest

  none_come : (passes : Passes) (asked : ℕ) (records rest : List Record) → passes ≡ record { outcomes = []; asked = asked } → rest ≡ records → AllCome records passes.outcomes rest
  none_come passes asked records rest is over = (subst (λ (p : Passes). AllFallIn s records p.outcomes) (sym is) tt, all_left records rest over)

  -- a check of an access, and what follows on it
  then_come : (a : Access) (records : List Record) (pass : Pass) (later : List Record) (more : List Fallen) (passes : Passes) (rest : List Record)
      → FallsIn s records (fallen_of a pass) × EndsWith records later → AllCome later more rest → passes.outcomes ≡ fallen_of a pass ∷ more → AllCome records passes.outcomes rest
  then_come a records pass later more passes rest once others is = (
    subst (λ (o : List Fallen). AllFallIn s records o) (sym is) (once.0, fall_back records later more once.1 others.0),
    more_on records later rest once.1 others.1,
  )

  pub rechecks_come : (scopes : List Begun) (asked : ℕ) (records : List Record) (passes : Passes) (rest : List Record) → Rechecks s scopes asked records passes rest → AllCome records passes.outcomes rest
  rechecks_come [] asked records passes rest h = none_come passes asked records rest h.0 h.1
  rechecks_come (scope ∷ scopes) asked records passes rest h = by_silence scope.silenced h (λ now left some more. rechecks_come scopes now left some rest more)
    where
      by_silence : (silenced : Bool)
          → MatchBool silenced (Rechecks s scopes asked records passes rest)
          ((pass : Pass) × (later : List Record) × (more : List Fallen) × ChecksOnce s scope.access scope.marked asked records pass later
          × Rechecks s scopes pass.asked later (record { outcomes = more; asked = passes.asked }) rest × (passes.outcomes ≡ fallen_of scope.access pass ∷ more))
          → ((now : ℕ) (left : List Record) (some : Passes) → Rechecks s scopes now left some rest → AllCome left some.outcomes rest) → AllCome records passes.outcomes rest
      by_silence true h on = on asked records passes h
      by_silence false h on = then_come scope.access records h.0 h.1 h.2 passes rest (once_comes s scope.access scope.marked asked records h.0 h.1 h.3)
          (on h.0.asked h.1 (record { outcomes = h.2; asked = passes.asked }) h.4) h.5

  begun_come : (silenced : Bool) (scopes : List Begun) (begun : Begun) (asked now : ℕ) (records : List Record) (passes : Passes) (rest : List Record)
      → MatchBool silenced ((passes ≡ record { outcomes = []; asked = now }) × (rest ≡ records)) (ChecksAll s scopes begun asked records passes rest)
      → AllCome records passes.outcomes rest
  begun_come true scopes begun asked now records passes rest h = none_come passes now records rest h.0 h.1
  begun_come false scopes begun asked now records passes rest h =
      then_come begun.access records h.0 h.1 h.2 passes rest (once_comes s begun.access begun.marked asked records h.0 h.1 h.3)
      (rechecks_come (left_to_check h.0.settled scopes) h.0.asked h.1 (record { outcomes = h.2; asked = passes.asked }) rest h.4) h.5

  -- the check of an access that begins
  pub stamped_come : (scopes : List Begun) (begun : Begun) (asked : ℕ) (records : List Record) (passes : Passes) (rest : List Record)
      → ChecksStamped s scopes begun asked records passes rest → AllCome records passes.outcomes rest
  stamped_come scopes begun asked [] passes rest h = absurd h
  stamped_come scopes begun asked (first ∷ later) passes rest h =
      let got = word_made s.task Clock first _ h in
      let come = begun_come begun.silenced scopes begun asked _ later passes rest got.2 in
      let back = one_on first later later (all_left later later refl) in
      (fall_back (first ∷ later) later passes.outcomes back come.0, more_on (first ∷ later) later rest back come.1)

  -- the close of a scope
  pub last_come : (scope : Begun) (silenced : Bool) (asked : ℕ) (records : List Record) (passes : Passes) (rest : List Record)
      → ChecksLast s scope silenced asked records passes rest → AllCome records passes.outcomes rest
  last_come scope silenced asked records passes rest h =
      let come = rechecks_come (record scope { silenced = scope.silenced || silenced } ∷ []) asked records passes h.0 h.1 in
      (come.0, more_on records h.0 rest come.1 (clock_ends s.task h.0 rest h.2))

  -- what a check of an access has left
  one_come : (access : Access) (records : List Record) (outcome : Outcome) (given : Given) (asked : ℕ) (rest : List Record) → EndsAfter (FallsAt s access outcome) records rest
      → given ≡ record { outcomes = record { access = access; outcome = outcome; later = rest } ∷ []; settled = true; asked = asked } → AllCome records given.outcomes rest
  one_come access records outcome given asked rest last is =
      (subst (λ (g : Given). AllFallIn s records g.outcomes) (sym is) (last, tt), past_last (FallsAt s access outcome) records rest last)

  nothing_come : (records : List Record) (given : Given) (asked : ℕ) (rest : List Record) → EndsWith records rest → given ≡ record { outcomes = []; settled = true; asked = asked }
      → AllCome records given.outcomes rest
  nothing_come records given asked rest ends is = (subst (λ (g : Given). AllFallIn s records g.outcomes) (sym is) tt, ends)

  pass_come : (begun : Begun) (pass : code.Pass) (asked : ℕ) (records : List Record) (given : Given) (rest : List Record)
      → PassLeft s begun pass asked records given rest → AllCome records given.outcomes rest
  pass_come begun (parts.Find find) asked records given rest h =
      let looked = find_last s begun.access find.place records h.0 h.1 h.2 in
      let come = goes_on_comes s begun.access records h.1 h.0 begun.marked asked h.3.0 rest looked h.3.1 in
      (subst (λ (g : Given). AllFallIn s records g.outcomes) (sym h.3.2) (come.0, tt), come.1)
  pass_come begun (parts.Found (founds.TryConsume found)) asked records given rest h =
      one_come begun.access records h.0 given asked rest (takes_last s begun.access h.0 found records rest h.1) h.2
  pass_come begun (parts.Found (founds.HearSetter index tries)) asked records given rest h =
      one_come begun.access records h.0 given asked rest (tells_last s begun.access h.0 index records rest h.1) h.2
  pass_come begun (parts.Found (founds.Tell index setter)) asked records given rest h =
      one_come begun.access records h.0 given asked rest (tells_to_last s begun.access h.0 index setter records rest h.1) h.2
  pass_come begun (parts.Setup setup) asked records given rest h =
      let come = setup_comes s begun.access setup asked records h.0 h.1 h.3.0 rest h.2 h.3.1 in
      (subst (λ (g : Given). AllFallIn s records g.outcomes) (sym h.3.2) (come.0, tt), come.1)
  pass_come begun (parts.Clear index) asked records given rest h = nothing_come records given asked rest (frees_ends s begun.access index records rest h.0) h.1
  pass_come begun (parts.Remove index) asked records given rest h =
      nothing_come records given asked rest (done_ends s.task (Remove index) _ records rest h.0 (λ after over. all_left after rest over)) h.1

  role_come : (scopes : List Begun) (role : Role) (settled : Bool) (asked : ℕ) (records : List Record) (passes : Passes)
      → RoleLeft s scopes role settled asked records passes → AllFallIn s records passes.outcomes
  role_come scopes roles.Access settled asked records passes h = (rechecks_come (left_to_check settled scopes) asked records passes [] h).0
  role_come scopes (roles.Scope number) settled asked records passes h = (rechecks_come (drop (number + 1) scopes) asked records passes [] h).0
  role_come scopes roles.Closing settled asked records passes h = subst (λ (p : Passes). AllFallIn s records p.outcomes) (sym h.0) tt

  -- what is still given falls at what is left
  pub stage_come : (scopes : List Begun) (stage : CheckStage) (asked : ℕ) (records : List Record) (passes : Passes)
      → StageLeft s scopes stage asked records passes → AllFallIn s records passes.outcomes
  stage_come scopes stages.Rest asked records passes h = subst (λ (p : Passes). AllFallIn s records p.outcomes) (sym h.0) tt
  stage_come scopes (stages.Begin begun) asked records passes h = (stamped_come scopes begun asked records passes [] h).0
  stage_come scopes (stages.Check role begun pass) asked records passes h =
      let first = pass_come begun pass asked records h.0 h.1 h.3 in
      let others = fall_back records h.1 h.2.outcomes first.1 (role_come scopes role h.0.settled h.0.asked h.1 h.2 h.4) in
      subst (λ (p : Passes). AllFallIn s records p.outcomes) (sym h.5) (fall_both records h.0.outcomes h.2.outcomes first.0 others)
  stage_come scopes (stages.End scope) asked records passes h = subst (λ (p : Passes). AllFallIn s records p.outcomes) (sym h.0) tt

  -- a try, and a load of the pair by a finder
  pub tried_falls : (a : Access) (found : Watchpoint) (taken : Bool) (result : Taking) → result ≡ (if taken then takings.Going (founds.HearSetter found.index 0) else takings.Over Lost)
      → TakingFalls s a result (made s.task (TryConsume found.index found.word) (answers.Flag taken))
  tried_falls a found true result is = subst (λ (t : Taking). TakingFalls s a t (made s.task (TryConsume found.index found.word) (answers.Flag true))) (sym is) tt
  tried_falls a found false result is =
      subst (λ (t : Taking). TakingFalls s a t (made s.task (TryConsume found.index found.word) (answers.Flag false))) (sym is) (found.index, found.word, refl)

  pub heard_falls : (a : Access) (index setter more : ℕ) (result : Taking) (last : Record) → (setter ≡ 0 → result ≡ takings.Going (founds.HearSetter index more))
      → (0 < setter → result ≡ takings.Going (founds.Tell index setter)) → TakingFalls s a result last
  heard_falls a index zero more result last failed stands = subst (λ (t : Taking). TakingFalls s a t last) (sym (failed refl)) tt
  heard_falls a index (suc n) more result last failed stands =
      let above : 0 < suc n = omega arith in subst (λ (t : Taking). TakingFalls s a t last) (sym (stands above)) tt

  -- an insertion, and the consume
  pub inserted_falls : (a : Access) (place : ProbeIndex) (word index : ℕ) (accepted : Bool) (result : Watching) → (accepted ≡ true → result ≡ watchings.Going (setups.Name index))
      → (accepted ≡ false → result ≡ after_refusal word (place_after place))
      → WatchingFalls s a result (made s.task (Insert (try_index place (slot_of s a)) word) (answers.Flag accepted))
  inserted_falls a place word index true result stands again =
      subst (λ (w : Watching). WatchingFalls s a w (made s.task (Insert (try_index place (slot_of s a)) word) (answers.Flag true)))
      (sym (stands refl)) tt
  inserted_falls a First word index false result stands again =
      subst (λ (w : Watching). WatchingFalls s a w (made s.task (Insert (slot_of s a + 1) word) (answers.Flag false))) (sym (again refl)) tt
  inserted_falls a Second word index false result stands again =
      subst (λ (w : Watching). WatchingFalls s a w (made s.task (Insert (slot_of s a + 2) word) (answers.Flag false))) (sym (again refl)) tt
  inserted_falls a Third word index false result stands again =
      subst (λ (w : Watching). WatchingFalls s a w (made s.task (Insert (slot_of s a) word) (answers.Flag false)))
      (sym (again refl)) (word, refl)

  pub consumed_falls : (a : Access) (index : ℕ) (values : Option (ℕ × ℕ)) (untouched : Bool) (result : Watching)
      → (untouched ≡ true → (outcome : Outcome) × UntouchedOutcome s a values outcome × (result ≡ watchings.Judged index outcome))
      → (untouched ≡ false → result ≡ watchings.Going (setups.HearFinder index values 0)) → WatchingFalls s a result (made s.task (Consume index) (answers.Flag untouched))
  consumed_falls a index values true result over on =
      let given = over refl in
      subst (λ (w : Watching). WatchingFalls s a w (made s.task (Consume index) (answers.Flag true))) (sym given.2) (untouched_falls s a given.0 index values _ refl given.1)
  consumed_falls a index values false result over on =
      subst (λ (w : Watching). WatchingFalls s a w (made s.task (Consume index) (answers.Flag false))) (sym (on refl)) tt

  -- what has fallen, with one record more
  pub falls_followed : (records more : List Record) (fallen : List Fallen) → AllFallIn s records fallen → AllFallIn s (records ++ more) (followed more fallen)
  falls_followed records more [] h = tt
  falls_followed records more (first ∷ others) h = (
    (h.0.0, h.0.1, ap (λ (r : List Record). r ++ more) h.0.2 ∙ append_assoc h.0.0 (h.0.1 ∷ first.later) more, h.0.3),
    falls_followed records more others h.1,
  )

  pub falls_extended : (begun : Begun) (records : List Record) (last : Record) (fallen : List Fallen) (outcome : Option Outcome) → AllFallIn s (records ++ last ∷ []) fallen
      → GivesAt s begun.access outcome last → AllFallIn s (records ++ last ∷ []) (extended fallen (falls_before begun [] outcome))
  falls_extended begun records last fallen None h g = h
  falls_extended begun records last fallen (Some outcome) h g = fall_both (records ++ last ∷ []) fallen _ h ((records, last, refl, g), tt)
