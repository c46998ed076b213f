-- Where a verdict of unknown origin falls, the bytes changed between the two loads of its watch.
use Rattle.std.proofs.Common.{◌≡◌, ◌≢◌, ◌∙◌, ◌<◌, ◌+◌, ◌==◌, ◌∷◌, ◌++◌, [], inl, inr, ℕ, suc, Bool, true, false, All, IsTrue, List, Option, None}
use Rattle.std.proofs.Common.{Some, MatchBool, ap, append_assoc, arith, drop, length, refl, reverse, subst, sym, take}
use Rattle.std.specs.Prelude.{slice_index}
use Rattle.std.proofs.lemmas.Bool.Decides.{eqb_tells}
use Rattle.std.proofs.lemmas.Bool.{cases_lt}
use Rattle.std.specs.Int.{bit_at}
use Rattle.std.proofs.lemmas.List.{append-nil, length-append, length-reverse, reverse-append, set-get_or}
use Rattle.std.proofs.lemmas.List.Elements.{All-append, All-cons, All-nil}
use Rattle.std.proofs.lemmas.Option.{same_Some}
use Rattle.access_types.specs.Access.{Access}
use Rattle.access_types.specs.History.{History, content, value_from}
use Rattle.access_types.specs.Race.{bytes_of}
use Rattle.access_types.specs.Ticket.{ticket_number}
use Rattle.access_types.specs.declared.history.Happening.{Happening}
use Rattle.access_types.specs.declared.history.Moment.{Moment}
use Rattle.litmus_semantics.specs.Layout.{memory_at_first}
use Rattle.setup_access.specs.Setting as checks
use Rattle.setup_access.specs.Setup.{Arms, Judged, Judges, JudgesHit, TriesInsert, WatchesAt}
use Rattle.setup_access.specs.Values.{LoadsFrom, both_values, source_of, value_in}
use Rattle.setup_access.specs.Verdicts as verdicts
use Rattle.setup_access.specs.Verdicts.{ChangeOf, HitOutcome, UntouchedOutcome}
use Rattle.setup_access.specs.declared.outcome.Outcome.{Outcome}
use Rattle.setup_access.specs.declared.outcome.Outcome.TheVariants as outcomes
use Rattle.setup_access.specs.declared.source.Source.{Source}
use Rattle.setup_access.proofs.DisciplineLemmas.{on_flag, on_word}
use Rattle.slot.specs.Pair.{Halves}
use Rattle.slot_table.specs.Records.{Follows, Legal, records_of, words_after}
use Rattle.slot_table.specs.StepLine.{step_line}
use Rattle.slot_table.specs.Words.{Words}
use Rattle.slot_table.specs.declared.records.Record.{Record}
use Rattle.slot_table.specs.declared.step.Answer.TheVariants as answers
use Rattle.slot_table.specs.declared.step.Step.{Step}
use Rattle.slot_table.specs.declared.step.Step.TheVariants.{CellLoad, Consume, Name}
use Rattle.value_filter.specs.Change.{BitDiffers, IsSeen}
use Rattle.value_filter.specs.Verdict as table
use Rattle.value_filter.specs.Verdict.{VerdictOf}
use Rattle.value_filter.specs.declared.verdict.Change.{Change}
use Rattle.value_filter.specs.declared.verdict.Change.TheVariants.{Seen}
use Rattle.value_filter.specs.declared.verdict.Verdict.TheVariants as verdict
use Rattle.value_filter.proofs.ChangedBits.{differ_from_bits}
use Rattle.watch_word.specs.Word.{word_of}
use Rattle.program_order.specs.Standing.{checks_of}
use Rattle.program_order.specs.TaskObserved.{did_next}
use Rattle.executions.specs.execution.Run.{Run, first_words, task_setting}
use Rattle.executions.specs.execution.Execution.{Execution}
use Rattle.executions.specs.execution.Observed.{OutcomeAt, history_by, history_of, made_by, moments_of}
use Rattle.executions.proofs.execution.OwnLasts.{own_latest, own_split}
use Rattle.soundness.specs.Watches.{IsOfWatch, IsWatch, is_verdict}
use Rattle.soundness.specs.Cells.{CellsHold, memory_after, run_cells}
use Rattle.soundness.specs.Origins.{IfUnknown}
use Rattle.soundness.specs.Watched.{ChangedInWatch, IfUnknownInWatch}
use Rattle.soundness.proofs.CellBlocks.{cells_are_blocks}
use Rattle.soundness.proofs.Cells.{lies_there, value_there}

-- a change that was seen
seen_change : (a : Access) (change : Change) (only : Bool) → VerdictOf a false change only verdict.Report → change ≡ Seen
seen_change a change only (table.taken_seen t c v) = absurd (cc)
seen_change a change only (table.taken_ruled t c v) = absurd (cc)
seen_change a change only (table.taken_unseen t c m v) = absurd (cc)
seen_change a change only (table.taken_same t c m o v) = absurd (cc)
seen_change a change only (table.taken_any t c m o v) = absurd (cc)
seen_change a change only (table.untaken_seen t c v) = c
seen_change a change only (table.untaken t c v) = absurd (cc)

is_seen : (a : Access) (values : Option (ℕ × ℕ)) (change : Change) → ChangeOf a values change → change ≡ Seen → IsSeen a values
is_seen a values change (verdicts.seen it is) same = it
is_seen a values change (verdicts.ruled it m is) same = absurd (cc)
is_seen a values change (verdicts.maybe it m is) same = absurd (cc)

never_hit : (s : checks.Setting) (a : Access) (values : Option (ℕ × ℕ)) (both : Halves) (old new : ℕ) → HitOutcome s a values both (outcomes.Unknown old new) → ⊥
never_hit s a values both old new (verdicts.encoding apart o) = cc
never_hit s a values both old new (verdicts.reported change shares c v o) = cc
never_hit s a values both old new (verdicts.dropped change reason shares c v o) = cc

-- the two loads of a watch, in its records
pub record TwoLoads (s : checks.Setting) (a : Access) (watch : List Record) (old new : ℕ) : Type 0 where
  pub source : Source
  pub lies : source_of s a ≡ Some source
  pub front : List Record
  pub first : Record
  pub second : Record
  pub back : List Record
  pub split : watch ≡ front ++ first ∷ second ∷ back
  pub index : ℕ
  pub tries : List Record
  pub name : Record
  pub front_is : front ≡ tries ++ name ∷ []
  pub names : name.step ≡ Name index (ticket_number a)
  pub consume : Record
  pub back_is : back ≡ consume ∷ []
  pub consumes : consume.step ≡ Consume index
  pub untouched_then : consume.answer ≡ answers.Flag true
  pub first_word : ℕ
  pub first_step : first.step ≡ CellLoad source.cell
  pub first_answer : first.answer ≡ answers.Word first_word
  pub was : value_in a source first_word ≡ old
  pub second_word : ℕ
  pub second_step : second.step ≡ CellLoad source.cell
  pub second_answer : second.answer ≡ answers.Word second_word
  pub is : value_in a source second_word ≡ new
  pub differs : BitDiffers a.mask old new

module _ (s : checks.Setting) (a : Access) where
  -- a load of a value that there is
  record OneLoad (source : Source) (records : List Record) (value : ℕ) (rest : List Record) : Type 0 where
    made : Record
    is : records ≡ made ∷ rest
    word : ℕ
    step : made.step ≡ CellLoad source.cell
    answer : made.answer ≡ answers.Word word
    holds : value_in a source word ≡ value

  one_load : (source : Source) (records : List Record) (value : ℕ) (rest : List Record) → LoadsFrom s a (Some source) records (Some value) rest
      → OneLoad source records value rest
  one_load source [] value rest h = absurd h
  one_load source (first ∷ later) value rest h =
      let got = on_word first.answer _ h.2 in record {
        made = first;
        is = ap (λ (r : List Record). first ∷ r) (sym got.2.1);
        word = got.0;
        step = h.1;
        answer = got.1;
        holds = sym (same_Some value (value_in a source got.0) got.2.0);
      }

  untouched : (values : Option (ℕ × ℕ)) (old new : ℕ) → UntouchedOutcome s a values (outcomes.Unknown old new)
      → (values ≡ Some (old, new)) × BitDiffers a.mask old new
  untouched values old new (verdicts.unknown change first later c v is o) =
      let one : first ≡ old = cc in
      let two : later ≡ new = cc in
      let values_are : values ≡ Some (old, new) = is ∙ (ap (λ (n : ℕ). Some (n, later)) one ∙ ap (λ (n : ℕ). Some (old, n)) two) in
      let seen : IsSeen a values = is_seen a values change c (seen_change a change s.rules.value_change_only v) in
      (values_are, subst (λ (o : Option (ℕ × ℕ)). IsSeen a o) values_are seen)
  untouched values old new (verdicts.quiet change c v o) = absurd (cc)

  -- the consume that finds a word untouched
  record Quieted (index : ℕ) (values : Option (ℕ × ℕ)) (records : List Record) (old new : ℕ) : Type 0 where
    consume : Record
    is : records ≡ consume ∷ []
    step : consume.step ≡ Consume index
    answer : consume.answer ≡ answers.Flag true
    values_are : values ≡ Some (old, new)
    differs : BitDiffers a.mask old new

  judged : (index : ℕ) (values : Option (ℕ × ℕ)) (records : List Record) (old new : ℕ) → Judges s a index values records (outcomes.Unknown old new) []
      → Quieted index values records old new
  judged index values [] old new h = absurd h
  judged index values (first ∷ later) old new h =
      let got = on_flag first.answer _ h.2 in by_flag got.0 got.1 got.2
    where
      by_flag : (flag : Bool) → first.answer ≡ answers.Flag flag → MatchBool flag (UntouchedOutcome s a values (outcomes.Unknown old new) × ([] ≡ later))
          (JudgesHit s a index values later (outcomes.Unknown old new) []) → Quieted index values (first ∷ later) old new
      by_flag true is quiet =
          let it = untouched values old new quiet.0 in
          record {
            consume = first;
            is = ap (λ (r : List Record). first ∷ r) (sym quiet.1);
            step = h.1;
            answer = is;
            values_are = it.0;
            differs = it.1;
          }
      by_flag false is hit = absurd (never_hit s a values hit.0 old new hit.2)

  both_there : (first second : Option ℕ) (old new : ℕ) → both_values first second ≡ Some (old, new) → (first ≡ Some old) × (second ≡ Some new)
  both_there None second old new is = absurd (cc)
  both_there (Some one) None old new is = absurd (cc)
  both_there (Some one) (Some two) old new is =
      let pair : (one, two) ≡ (old, new) = same_Some (one, two) (old, new) is in
      (ap (λ (p : ℕ × ℕ). Some p.0) pair, ap (λ (p : ℕ × ℕ). Some p.1) pair)

  none_loaded : (records : List Record) (value : ℕ) (rest : List Record) → LoadsFrom s a None records (Some value) rest → ⊥
  none_loaded records value rest h = let never : Some value ≡ None = h.0 in cc

  -- the loads, from the records on of which the setter named itself by the first
  loaded : (found : Option Source) → source_of s a ≡ found → (name : Record) (index : ℕ) → name.step ≡ Name index (ticket_number a)
      → (named stalled consumed : List Record) (first second : Option ℕ) (old new : ℕ)
      → LoadsFrom s a found named first stalled → LoadsFrom s a found stalled second consumed
      → Quieted index (both_values first second) consumed old new
      → TwoLoads s a (name ∷ named) old new
  loaded None is name index names named stalled consumed first second old new one two it =
      let values = both_there first second old new it.values_are in
      absurd (none_loaded named old stalled (subst (λ (v : Option ℕ). LoadsFrom s a None named v stalled) values.0 one))
  loaded (Some source) is name index names named stalled consumed first second old new one two it =
      let values = both_there first second old new it.values_are in
      let p = one_load source named old stalled (subst (λ (v : Option ℕ). LoadsFrom s a (Some source) named v stalled) values.0 one) in
      let q = one_load source stalled new consumed (subst (λ (v : Option ℕ). LoadsFrom s a (Some source) stalled v consumed) values.1 two) in
      record {
        source = source;
        lies = is;
        front = name ∷ [];
        first = p.made;
        second = q.made;
        back = consumed;
        split = ap (λ (r : List Record). name ∷ r) (p.is ∙ ap (λ (r : List Record). p.made ∷ r) q.is);
        index = index;
        tries = [];
        name = name;
        front_is = refl;
        names = names;
        consume = it.consume;
        back_is = it.is;
        consumes = it.step;
        untouched_then = it.answer;
        first_word = p.word;
        first_step = p.step;
        first_answer = p.answer;
        was = p.holds;
        second_word = q.word;
        second_step = q.step;
        second_answer = q.answer;
        is = q.holds;
        differs = it.differs;
      }

  armed : (index : ℕ) (records : List Record) (old new : ℕ) → Arms s a index records (outcomes.Unknown old new) [] → TwoLoads s a records old new
  armed index [] old new h = absurd h
  armed index (first ∷ later) old new h =
      let w = h.2.1 in
      loaded (source_of s a) refl first index h.1 later w.2 w.3 w.0 w.1 old new w.4 w.5 (judged index (both_values w.0 w.1) w.3 old new w.6)

  -- with more records in front
  later_in : (front records : List Record) (old new : ℕ) → TwoLoads s a records old new → TwoLoads s a (front ++ records) old new
  later_in front records old new it = record {
    source = it.source;
    lies = it.lies;
    front = front ++ it.front;
    first = it.first;
    second = it.second;
    back = it.back;
    split = ap (λ (r : List Record). front ++ r) it.split ∙ sym (append_assoc front it.front (it.first ∷ it.second ∷ it.back));
    index = it.index;
    tries = front ++ it.tries;
    name = it.name;
    front_is = ap (λ (r : List Record). front ++ r) it.front_is ∙ sym (append_assoc front it.tries (it.name ∷ []));
    names = it.names;
    consume = it.consume;
    back_is = it.back_is;
    consumes = it.consumes;
    untouched_then = it.untouched_then;
    first_word = it.first_word;
    first_step = it.first_step;
    first_answer = it.first_answer;
    was = it.was;
    second_word = it.second_word;
    second_step = it.second_step;
    second_answer = it.second_answer;
    is = it.is;
    differs = it.differs;
  }

  tried : (word : ℕ) (indices : List ℕ) (records : List Record) (place : Option ℕ) (rest : List Record) → TriesInsert s.task word indices records place rest
      → (front : List Record) × (records ≡ front ++ rest)
  tried word [] records place rest h = ([], sym h.1)
  tried word (index ∷ indices) [] place rest h = absurd h
  tried word (index ∷ indices) (first ∷ later) place rest h =
      let got = on_flag first.answer _ h.2 in
      by_flag got.0 got.2 (λ again. tried word indices later place rest again)
    where
      by_flag : (accepted : Bool) → MatchBool accepted ((place ≡ Some index) × (rest ≡ later)) (TriesInsert s.task word indices later place rest)
          → (TriesInsert s.task word indices later place rest → (front : List Record) × (later ≡ front ++ rest))
          → (front : List Record) × (first ∷ later ≡ front ++ rest)
      by_flag true stands goes = (first ∷ [], ap (λ (r : List Record). first ∷ r) (sym stands.1))
      by_flag false again goes =
          let it = goes again in (first ∷ it.0, ap (λ (r : List Record). first ∷ r) it.1)

  at_place : (place : Option ℕ) (records : List Record) (judged_as : Judged) (old new : ℕ) → judged_as.outcome ≡ outcomes.Unknown old new
      → WatchesAt s a place records (Some judged_as) [] → TwoLoads s a records old new
  at_place None records judged_as old new is h = absurd (let never : Some judged_as ≡ None = h.0 in cc)
  at_place (Some index) records judged_as old new is h =
      let same : judged_as ≡ record { index = index; outcome = h.0 } = same_Some judged_as (record { index = index; outcome = h.0 }) h.2 in
      let outcome_is : h.0 ≡ outcomes.Unknown old new = sym (ap (λ (j : Judged). j.outcome) same) ∙ is in
      armed index records old new (subst (λ (o : Outcome). Arms s a index records o []) outcome_is h.1)

  pub two_loads : (outcome : Outcome) (watch : List Record) (old new : ℕ) → outcome ≡ outcomes.Unknown old new → IsWatch s a outcome watch → TwoLoads s a watch old new
  two_loads outcome watch old new is it =
      let up = it.sets_up in
      let front = tried (word_of s.rules.layout a) (checks.try_order (checks.slot_of s a)) watch up.0 up.1 up.2 in
      subst (λ (r : List Record). TwoLoads s a r old new) (sym front.1)
      (later_in front.0 up.1 old new (at_place up.0 up.1 (record { index = it.index; outcome = outcome }) old new is up.3))

-- where a task's own record stands among all
pub record Located (task : ℕ) (records front : List Record) (made : Record) (back : List Record) : Type 0 where
  pub later : List Record
  pub earlier : List Record
  pub split : records ≡ later ++ made ∷ earlier
  pub of_later : records_of task later ≡ front
  pub of_earlier : records_of task earlier ≡ back

others_first : (task : ℕ) (first : Record) (records : List Record) → (first.task == task) ≡ false → records_of task (first ∷ records) ≡ records_of task records
others_first task first records apart = rw apart refl

-- with one of the task's own in front, or one of another's
own_first : (task : ℕ) (first other : Record) (records front : List Record) (made : Record) (back : List Record) → first.task ≡ task → first ≡ other
    → Located task records front made back → Located task (first ∷ records) (other ∷ front) made back
own_first task first other records front made back mine one it = record {
  later = first ∷ it.later;
  earlier = it.earlier;
  split = ap (λ (r : List Record). first ∷ r) it.split;
  of_later = own_latest task first it.later mine ∙ (ap (λ (r : Record). r ∷ records_of task it.later) one
      ∙ ap (λ (r : List Record). other ∷ r) it.of_later);
  of_earlier = it.of_earlier;
}

other_first : (task : ℕ) (first : Record) (records front : List Record) (made : Record) (back : List Record) → (first.task == task) ≡ false
    → Located task records front made back → Located task (first ∷ records) front made back
other_first task first records front made back others it = record {
  later = first ∷ it.later;
  earlier = it.earlier;
  split = ap (λ (r : List Record). first ∷ r) it.split;
  of_later = others_first task first it.later others ∙ it.of_later;
  of_earlier = it.of_earlier;
}

at_front : (task : ℕ) (first : Record) (records : List Record) (made : Record) (back : List Record) → first ∷ records_of task records ≡ made ∷ back
    → Located task (first ∷ records) [] made back
at_front task first records made back same =
    let one : first ≡ made = cc in
    let rest : records_of task records ≡ back = cc in record {
      later = [];
      earlier = records;
      split = ap (λ (r : Record). r ∷ records) one;
      of_later = refl;
      of_earlier = rest;
    }

pub locate : (task : ℕ) (records front : List Record) (made : Record) (back : List Record) → records_of task records ≡ front ++ made ∷ back
    → Located task records front made back
locate task [] front made back is =
    let long : 0 ≡ length front + suc (length back) = ap (λ (r : List Record). length r) is ∙ length-append front (made ∷ back) in
    absurd (omega (arith, long))
locate task (first ∷ records) [] made back is = elim (eqb_tells first.task task) [
  | inl mine ↦ at_front task first records made back (sym (own_latest task first records mine.1) ∙ is)
  | inr others ↦
      other_first task first records [] made back others.0 (locate task records [] made back (sym (others_first task first records others.0) ∙ is))
]
locate task (first ∷ records) (other ∷ front) made back is = elim (eqb_tells first.task task) [
  | inl mine ↦
      let same : first ∷ records_of task records ≡ other ∷ (front ++ made ∷ back) = sym (own_latest task first records mine.1) ∙ is in
      let one : first ≡ other = cc in
      let rest : records_of task records ≡ front ++ made ∷ back = cc in
      own_first task first other records front made back mine.1 one (locate task records front made back rest)
  | inr others ↦
      other_first task first records (other ∷ front) made back others.0
      (locate task records (other ∷ front) made back (sym (others_first task first records others.0) ∙ is))
]

-- a load answers the cell, and leaves all cells as they are
follow_load : (words : Words) (latest : Record) (cell word : ℕ) → Follows words latest → latest.step ≡ CellLoad cell → latest.answer ≡ answers.Word word
    → slice_index (step_line words latest.step).after.cells cell ≡ word
follow_load words latest cell word follows is answered =
    let said : answers.Word word ≡ answers.Word (slice_index words.cells cell) =
    sym answered ∙ (follows.answer ∙ ap (λ (st : Step). (step_line words st).answer) is) in
    let same : slice_index words.cells cell ≡ word = cc in
    ap (λ (st : Step). slice_index (step_line words st).after.cells cell) is
    ∙ (ap (λ (c : List ℕ). slice_index c cell) (set-get_or words.cells cell 0) ∙ same)

stays_there : (words : Words) (latest : Record) (cell word : ℕ) → Follows words latest → latest.step ≡ CellLoad cell → latest.answer ≡ answers.Word word
    → slice_index words.cells cell ≡ word
stays_there words latest cell word follows is answered =
    let said : answers.Word word ≡ answers.Word (slice_index words.cells cell) =
    sym answered ∙ (follows.answer ∙ ap (λ (st : Step). (step_line words st).answer) is) in cc

legal_from : (first : Words) (later earlier : List Record) → Legal first (later ++ earlier) → Legal first earlier
legal_from first [] earlier legal = legal
legal_from first (latest ∷ later) earlier legal = legal_from first later earlier legal.0

drop_front : (first rest : History) → drop (length first) (first ++ rest) ≡ rest
drop_front [] rest = refl
drop_front (one ∷ first) rest = drop_front first rest

taken_front : (first rest : History) → take (length first) (first ++ rest) ≡ first
taken_front [] rest = refl
taken_front (one ∷ first) rest = ap (λ (h : History). one ∷ h) (taken_front first rest)

module _ (run : Run) (records : List Record) (list : Execution run records) where
  -- what is told by earlier records is the front of what is told by all
  told_more : (later earlier : List Record) → (more : History) × (history_by list (later ++ earlier) ≡ history_by list earlier ++ more)
  told_more [] earlier = ([], sym (append-nil (history_by list earlier)))
  told_more (latest ∷ later) earlier =
      let its : History = moments_of latest.task (did_next (list.tasks latest.task) (made_by latest.task (later ++ earlier))) in
      let it = told_more later earlier in
      (it.0 ++ its, ap (λ (h : History). h ++ its) it.1 ∙ append_assoc (history_by list earlier) it.0 its)

  pub told_front : (later earlier : List Record) → records ≡ later ++ earlier → take (length (history_by list earlier)) (history_of list) ≡ history_by list earlier
  told_front later earlier is =
      let it = told_more later earlier in
      ap (λ (r : List Record). take (length (history_by list earlier)) (history_by list r)) is
      ∙ (ap (λ (h : History). take (length (history_by list earlier)) h) it.1 ∙ taken_front (history_by list earlier) it.0)

  abbrev OthersThan : ℕ → Moment → Type 0
  OthersThan task moment = moment.task ≢ task

  its_moments : (task other : ℕ) (did : List Happening) → other ≢ task → All (OthersThan task) (moments_of other did)
  its_moments task other [] differs = All-nil (OthersThan task)
  its_moments task other (first ∷ did) differs =
      All-cons (OthersThan task) (record { task = other; happening = first }) (moments_of other did) differs (its_moments task other did differs)

  -- the moments of other tasks' records
  of_others : (task : ℕ) (later earlier : List Record) → records_of task later ≡ []
      → (more : History) × (history_by list (later ++ earlier) ≡ history_by list earlier ++ more) × All (OthersThan task) more
  of_others task [] earlier none = ([], sym (append-nil (history_by list earlier)), All-nil (OthersThan task))
  of_others task (latest ∷ later) earlier none = elim (eqb_tells latest.task task) [
    | inl mine ↦
        let some : latest ∷ records_of task later ≡ [] = sym (own_latest task latest later mine.1) ∙ none in
        let long : suc (length (records_of task later)) ≡ 0 = ap (λ (r : List Record). length r) some in absurd (omega (arith, long))
    | inr others ↦
        let it = of_others task later earlier (sym (others_first task latest later others.0) ∙ none) in
        let its : History = moments_of latest.task (did_next (list.tasks latest.task) (made_by latest.task (later ++ earlier))) in (
          it.0 ++ its,
          ap (λ (h : History). h ++ its) it.1 ∙ append_assoc (history_by list earlier) it.0 its,
          All-append (OthersThan task) it.0 its it.2 (its_moments task latest.task _ others.1),
        )
  ]

  module _ (holds : (later earlier : List Record) → records ≡ later ++ earlier
      → CellsHold (run_cells run) (memory_after run (history_by list earlier)) (words_after (first_words run) earlier).cells) where
    -- the content of an access's bytes after these records
    content_at : (later earlier : List Record) → records ≡ later ++ earlier → (task : ℕ) (a : Access) (source : Source)
        → source_of (checks_of (task_setting run task)) a ≡ Some source
        → content (memory_at_first run.places run.program.variables) (history_of list) (length (history_by list earlier)) (bytes_of a)
        ≡ value_in a source (slice_index (words_after (first_words run) earlier).cells source.cell)
    content_at later earlier is task a source lies =
        ap (λ (h : History). value_from (memory_after run h) a.addr a.size) (told_front later earlier is)
        ∙ value_there (run_cells run) (cells_are_blocks run.places run.program.variables) (memory_after run (history_by list earlier))
        (words_after (first_words run) earlier).cells (holds later earlier is) a source (lies_there (checks_of (task_setting run task)) a source lies)

    pub changed : (came : OutcomeAt) (old new : ℕ) → came.outcome ≡ outcomes.Unknown old new → IsOfWatch list came
        → ChangedInWatch list came old new
    changed came old new unknown it =
        let a : Access = came.access in
        let task : ℕ = a.task in
        let loads = two_loads (checks_of (task_setting run task)) a came.outcome it.watch old new unknown it.is_watch in
        let w : List Record = reverse loads.front ++ it.before in
        let reversed : reverse it.watch ≡ reverse loads.back ++ loads.second ∷ loads.first ∷ reverse loads.front =
        ap (λ (r : List Record). reverse r) loads.split
        ∙ (reverse-append loads.front (loads.first ∷ loads.second ∷ loads.back)
        ∙ (ap (λ (r : List Record). r ++ reverse loads.front) (reverse-append (loads.first ∷ loads.second ∷ []) loads.back)
        ∙ append_assoc (reverse loads.back) (loads.second ∷ loads.first ∷ []) (reverse loads.front))) in
        let own : records_of task it.by_then ≡ reverse loads.back ++ loads.second ∷ loads.first ∷ w =
        it.own ∙ (ap (λ (r : List Record). r ++ it.before) reversed
        ∙ append_assoc (reverse loads.back) (loads.second ∷ loads.first ∷ reverse loads.front) it.before) in
        let one = locate task it.by_then (reverse loads.back) loads.second (loads.first ∷ w) own in
        let two = locate task one.earlier [] loads.first w one.of_earlier in
        let early : List Record = loads.first ∷ two.earlier in
        let after_late : List Record = (it.later ++ one.later) ++ loads.second ∷ [] in
        let late_is : records ≡ after_late ++ one.earlier =
        it.split ∙ (ap (λ (r : List Record). it.later ++ r) one.split
        ∙ (sym (append_assoc it.later one.later (loads.second ∷ one.earlier))
        ∙ sym (append_assoc (it.later ++ one.later) (loads.second ∷ []) one.earlier))) in
        let second_is : records ≡ (it.later ++ one.later) ++ loads.second ∷ one.earlier =
        it.split ∙ (ap (λ (r : List Record). it.later ++ r) one.split ∙ sym (append_assoc it.later one.later (loads.second ∷ one.earlier))) in
        let early_is : records ≡ (after_late ++ two.later) ++ early =
        late_is ∙ (ap (λ (r : List Record). after_late ++ r) two.split ∙ sym (append_assoc after_late two.later early)) in
        let h1 : History = history_by list early in
        let h2 : History = history_by list one.earlier in
        let between = of_others task two.later early two.of_later in
        let h2_is : h2 ≡ h1 ++ between.0 = ap (λ (r : List Record). history_by list r) two.split ∙ between.1 in
        let follows_second : Follows (words_after (first_words run) one.earlier) loads.second =
        (legal_from (first_words run) (it.later ++ one.later) (loads.second ∷ one.earlier)
        (subst (λ (r : List Record). Legal (first_words run) r) second_is list.legal)).1 in
        let follows_first : Follows (words_after (first_words run) two.earlier) loads.first =
        (legal_from (first_words run) (after_late ++ two.later) early
        (subst (λ (r : List Record). Legal (first_words run) r) early_is list.legal)).1 in
        let before_first : records ≡ ((after_late ++ two.later) ++ loads.first ∷ []) ++ two.earlier =
        early_is ∙ sym (append_assoc (after_late ++ two.later) (loads.first ∷ []) two.earlier) in
        let was_then : content (memory_at_first run.places run.program.variables) (history_of list) (length (history_by list two.earlier)) (bytes_of a) ≡ old =
        content_at ((after_late ++ two.later) ++ loads.first ∷ []) two.earlier before_first task a loads.source loads.lies
        ∙ (ap (λ (n : ℕ). value_in a loads.source n)
        (stays_there (words_after (first_words run) two.earlier) loads.first loads.source.cell loads.first_word follows_first loads.first_step loads.first_answer)
        ∙ loads.was) in
        let was : content (memory_at_first run.places run.program.variables) (history_of list) (length h1) (bytes_of a) ≡ old =
        content_at (after_late ++ two.later) early early_is task a loads.source loads.lies
        ∙ (ap (λ (n : ℕ). value_in a loads.source n)
        (follow_load (words_after (first_words run) two.earlier) loads.first loads.source.cell loads.first_word follows_first loads.first_step loads.first_answer)
        ∙ loads.was) in
        let is : content (memory_at_first run.places run.program.variables) (history_of list) (length h2) (bytes_of a) ≡ new =
        content_at after_late one.earlier late_is task a loads.source loads.lies
        ∙ (ap (λ (n : ℕ). value_in a loads.source n)
        (stays_there (words_after (first_words run) one.earlier) loads.second loads.source.cell loads.second_word follows_second loads.second_step loads.second_answer)
        ∙ loads.is) in
        let as_long : length h2 ≡ length h1 + length between.0 = ap (λ (h : History). length h) h2_is ∙ length-append h1 between.0 in
        let order : length h1 < length h2 = elim (cases_lt (length h1) (length h2)) [
          | inl below ↦ below
          | inr fits ↦
              let same : length h1 ≡ length h2 = omega (arith, as_long, fits) in
              let equal : old ≡ new =
              sym was ∙ (ap (λ (n : ℕ). content (memory_at_first run.places run.program.variables) (history_of list) n (bytes_of a)) same ∙ is) in
              absurd (loads.differs.differ (ap (λ (v : ℕ). bit_at v loads.differs.position) equal))
        ] in
        let w_long : length w ≡ length loads.front + length it.before =
        length-append (reverse loads.front) it.before ∙ ap (λ (n : ℕ). n + length it.before) (length-reverse loads.front) in
        let watch_long : length it.watch ≡ length loads.front + suc (suc (length loads.back)) =
        ap (λ (r : List Record). length r) loads.split ∙ length-append loads.front (loads.first ∷ loads.second ∷ loads.back) in
        let late_made : made_by task one.earlier ≡ suc (length w) = ap (λ (r : List Record). length r) one.of_earlier in
        let early_own : records_of task one.earlier ≡ records_of task early =
        ap (λ (r : List Record). records_of task r) two.split
        ∙ (own_split task two.later early ∙ ap (λ (r : List Record). r ++ records_of task early) two.of_later) in
        let early_made : made_by task early ≡ suc (length w) = sym (ap (λ (r : List Record). length r) early_own) ∙ late_made in
        let some_back : 0 < length loads.back =
        let one : length loads.back ≡ 1 = ap (λ (r : List Record). length r) loads.back_is in omega (arith, one) in
        let rest = told_more after_late one.earlier in
        let whole_long : length (history_of list) ≡ length h2 + length rest.0 =
        ap (λ (r : List Record). length (history_by list r)) late_is ∙ (ap (λ (h : History). length h) rest.1 ∙ length-append h2 rest.0) in
        let taken : take (length h2) (history_of list) ≡ h1 ++ between.0 = told_front after_late one.earlier late_is ∙ h2_is in
        let dropped : drop (length h1) (take (length h2) (history_of list)) ≡ between.0 =
        ap (λ (h : History). drop (length h1) h) taken ∙ drop_front h1 between.0 in
        record {
          watched = it;
          index = loads.index;
          source = loads.source;
          lies = loads.lies;
          tries = loads.tries;
          name = loads.name;
          first = loads.first;
          second = loads.second;
          consume = loads.consume;
          watch = loads.split ∙ (ap (λ (r : List Record). r ++ loads.first ∷ loads.second ∷ loads.back) loads.front_is
              ∙ (append_assoc loads.tries (loads.name ∷ []) (loads.first ∷ loads.second ∷ loads.back)
              ∙ ap (λ (r : List Record). loads.tries ++ loads.name ∷ loads.first ∷ loads.second ∷ r) loads.back_is));
          names = loads.names;
          loads = loads.first_step;
          loads_again = loads.second_step;
          consumes = loads.consumes;
          untouched = loads.untouched_then;
          later = it.later ++ one.later;
          between = two.later;
          earlier = two.earlier;
          split = second_is ∙ ap (λ (r : List Record). (it.later ++ one.later) ++ loads.second ∷ r) two.split;
          others = two.of_later;
          was = was_then;
          is = subst (λ (r : List Record). content (memory_at_first run.places run.program.variables) (history_of list) (length (history_by list r)) (bytes_of a) ≡ new)
              two.split is;
          changed = record {
            first = length h1;
            later = length h2;
            order = order;
            within = omega (arith, whole_long);
            goes_at_first = it.goes (after_late ++ two.later) early early_is (omega (arith, early_made, w_long))
                (omega (arith, early_made, w_long, watch_long, some_back));
            goes_later = it.goes after_late one.earlier late_is (omega (arith, late_made, w_long))
                (omega (arith, late_made, w_long, watch_long, some_back));
            was = was;
            is = is;
            differ = differ_from_bits a.mask old new loads.differs;
            others = subst (λ (h : History). All (OthersThan task) h) (sym dropped) between.2;
          };
        }

    -- so is it of what came of a check, if that is of unknown origin
    pub names_change : (came : OutcomeAt) (outcome : Outcome) → came.outcome ≡ outcome → (IsTrue (is_verdict outcome) → IsOfWatch list came)
        → IfUnknownInWatch list came outcome
    names_change came (outcomes.Unknown old new) is watched = changed came old new is (watched refl)
    names_change came outcomes.Nothing is watched = tt
    names_change came outcomes.Unencodable is watched = tt
    names_change came outcomes.Capacity is watched = tt
    names_change came outcomes.Lost is watched = tt
    names_change came (outcomes.Told pair) is watched = tt
    names_change came outcomes.Quiet is watched = tt
    names_change came (outcomes.Report pair seen) is watched = tt
    names_change came (outcomes.Dropped reason) is watched = tt

-- so its bytes changed under its watch
pub in_watch : {run : Run} {records : List Record} (list : Execution run records) (came : OutcomeAt) (outcome : Outcome) → IfUnknownInWatch list came outcome
    → IfUnknown list came outcome
in_watch list came (outcomes.Unknown old new) it = it.changed
in_watch list came outcomes.Nothing it = tt
in_watch list came outcomes.Unencodable it = tt
in_watch list came outcomes.Capacity it = tt
in_watch list came outcomes.Lost it = tt
in_watch list came (outcomes.Told pair) it = tt
in_watch list came outcomes.Quiet it = tt
in_watch list came (outcomes.Report pair seen) it = tt
in_watch list came (outcomes.Dropped reason) it = tt
