-- An answer to a taking is the verdict on the watch in which its arming was made, and names the access of the find in
-- which it was taken.
use Rattle.std.proofs.Common.{◌≡◌, ◌≢◌, ◌∙◌, ◌<◌, ◌≤◌, ◌+◌, ◌++◌, [], ◌∷◌, inl, inr, ℕ, suc, Bool, true, false, All, AllPairs, Contains, IsTrue, List, MatchBool}
use Rattle.std.proofs.Common.{None, Option, Some, ap, append_assoc, arith, length, map, refl, reverse, slice_index_or, subst, sym}
use Rattle.std.specs.Option.{option_map}
use Rattle.std.proofs.lemmas.Bool.{eq-eqb}
use Rattle.std.proofs.lemmas.List.{length-append, length-reverse}
use Rattle.std.proofs.lemmas.List.Elements.{All-append, All-cons, All-nil}
use Rattle.std.specs.FinMap as fin
use Rattle.access_types.specs.Access.{Access}
use Rattle.access_types.specs.History.{InProgress}
use Rattle.access_types.specs.Ticket.{ticket_number}
use Rattle.setup_access.proofs.DisciplineLemmas.{on_flag, on_word}
use Rattle.setup_access.specs.Check.{Fallen}
use Rattle.setup_access.specs.Found.{finder_half}
use Rattle.setup_access.specs.Records.{MakesFlag, OnFlag}
use Rattle.setup_access.specs.Setting as checks
use Rattle.setup_access.specs.Setting.{slot_of, try_order}
use Rattle.setup_access.specs.Setup.{Arms, Inserts, Judged, Judges, JudgesHit, TriesInsert, WatchesAt}
use Rattle.setup_access.specs.Values.{LoadsFrom, both_values, source_of}
use Rattle.setup_access.specs.Verdicts as verdicts
use Rattle.setup_access.specs.Verdicts.{HitOutcome, UntouchedOutcome}
use Rattle.setup_access.specs.declared.outcome.Outcome.{Outcome}
use Rattle.setup_access.specs.declared.outcome.Outcome.TheVariants as outcomes
use Rattle.setup_access.specs.declared.source.Source.{Source}
use Rattle.slot.specs.Pair.{Halves}
use Rattle.slot_table.specs.Armings.{last_arming_number, number_made}
use Rattle.slot_table.specs.Discipline.{heard, in_hand}
use Rattle.slot_table.specs.Meetings.{Meeting, finders_told, numbers_met, told_by, told_to}
use Rattle.slot_table.specs.Records.{records_of}
use Rattle.slot_table.specs.declared.discipline.InHand.{InHand}
use Rattle.slot_table.specs.declared.discipline.Part.TheVariants.{Hit}
use Rattle.slot_table.specs.declared.records.Record.{Record}
use Rattle.slot_table.specs.declared.step.Answer.{Answer}
use Rattle.slot_table.specs.declared.step.Answer.TheVariants as answers
use Rattle.slot_table.specs.declared.step.Step.{Step}
use Rattle.slot_table.specs.declared.step.Step.TheVariants.{CellLoad, Consume, Insert, Name, Tell}
use Rattle.slot_table.proofs.Lists.{Keeps, keeps_before}
use Rattle.slot_table.proofs.Meetings.{meetings_differ}
use Rattle.slot_table.proofs.Moves.{some_same}
use Rattle.slot_table.proofs.Phases.{meeting}
use Rattle.slot_table.proofs.Steps.{here_part}
use Rattle.watch_word.specs.Word.{word_of}
use Rattle.program_order.specs.Standing.{checks_of}
use Rattle.program_order.specs.TaskObserved.{fell_next}
use Rattle.executions.specs.execution.Answers.{AnswersTaking, IfAnswer, is_answer}
use Rattle.executions.specs.execution.Run.{Run, first_cells, locks_of, task_setting}
use Rattle.executions.specs.execution.Execution.{Execution}
use Rattle.executions.specs.execution.Observed.{Armed, OutcomeAt, armed_by, armed_in, came_next, history_by, history_of, made_by, outcome_at, outcomes_by, outcomes_of}
use Rattle.executions.proofs.execution.CheckFacts.{back}
use Rattle.executions.proofs.execution.Intervals.{Has, contains_has, has_contains, has_first, has_last}
use Rattle.executions.proofs.execution.OwnLasts.{finder_told, last_below, own_latest, own_split, same_arming}
use Rattle.soundness.specs.Finds.{IfTelling, IsOfFind, is_telling}
use Rattle.soundness.specs.Joined.{IfAnswersBoth, IsHitWatch, JudgesWatch, NamesFinder}
use Rattle.soundness.specs.Settles.{One, Settles, TellsOf}
use Rattle.soundness.specs.Takings.{EachSettles}
use Rattle.soundness.specs.Watches.{IfVerdict, IsOfWatch, IsWatch, is_verdict}
use Rattle.soundness.proofs.Finds.{back_both, back_is, ends_so, waits}
use Rattle.soundness.proofs.Watches.{some_find}

same_back : (p u q v : List Record) → length q ≡ length v → p ++ q ≡ u ++ v → q ≡ v
same_back [] [] q v long is = is
same_back [] (other ∷ u) q v long is =
    let all : length q ≡ suc (length u) + length v = ap (λ (r : List Record). length r) is ∙ length-append (other ∷ u) v in absurd (omega (arith, long, all))
same_back (first ∷ p) [] q v long is =
    let all : suc (length p) + length q ≡ length v = sym (length-append (first ∷ p) q) ∙ ap (λ (r : List Record). length r) is in absurd (omega (arith, long, all))
same_back (first ∷ p) (other ∷ u) q v long is = same_back p u q v long (let rest : p ++ q ≡ u ++ v = cc in rest)

behead : (all : List Record) (n : ℕ) → length all ≡ suc n → (latest : Record) × (earlier : List Record) × (all ≡ latest ∷ earlier)
behead [] n is = absurd (omega (arith, is))
behead (latest ∷ earlier) n is = (latest, earlier, refl)

-- what stands before a shorter end
front_until : (all later front base : List Record) → later ++ all ≡ front ++ base → length base < length all
    → (first : Record) × (more : List Record) × (all ≡ first ∷ (more ++ base))
front_until all [] [] base is shorter = let same : length all ≡ length base = ap (λ (r : List Record). length r) is in absurd (omega (arith, same, shorter))
front_until all [] (first ∷ front) base is shorter = (first, front, is)
front_until all (one ∷ later) [] base is shorter =
    let long : suc (length later) + length all ≡ length base = sym (length-append (one ∷ later) all) ∙ ap (λ (r : List Record). length r) is in
    absurd (omega (arith, long, shorter))
front_until all (one ∷ later) (first ∷ front) base is shorter = front_until all later front base (let rest : later ++ all ≡ front ++ base = cc in rest) shorter

-- one of those of which all is so
all_has : {X : Type 0} (P : X → Type 0) (xs : List X) (x : X) → All P xs → Has xs x → P x
all_has P [] x all h = absurd h
all_has P (y ∷ xs) x all h = elim h [
  | inl here ↦ subst P here (all 0 y (omega arith))
  | inr more ↦ all_has P xs x (λ place other below. all (suc place) other (omega (arith, below))) more
]

pick : (b : Bool) (Yes No Goal : Type 0) → MatchBool b Yes No → (Yes → Goal) → (No → Goal) → Goal
pick true Yes No Goal given at_true at_false = at_true given
pick false Yes No Goal given at_true at_false = at_false given

-- the last arming at the index stands behind so many records
record NumberedFrom (index from : ℕ) (own : List Record) : Type 0 where
  number : ℕ
  last : last_arming_number index own ≡ Some number
  since : from ≤ number

-- a watch that was hit, and what its task has in hand and heard then
record HitFrom (s : checks.Setting) (a : Access) (outcome : Outcome) (watch : List Record) : Type 0 where
  index : ℕ
  values : Option (ℕ × ℕ)
  pair : Halves
  is : IsHitWatch s a index values pair outcome watch
  hand : (own : List Record) → in_hand (back watch own) ≡ Some (record { index = index; part = Hit })
  hears : (own : List Record) → heard index (back watch own) ≡ Some pair
  above : 0 < pair.finder
  numbered : (own : List Record) → NumberedFrom index (length own) (back watch own)

module _ (s : checks.Setting) (a : Access) where
  never_untouched : (values : Option (ℕ × ℕ)) (outcome : Outcome) → IsTrue (is_answer outcome) → UntouchedOutcome s a values outcome → ⊥
  never_untouched values outcome told_so (verdicts.unknown change old new c v is o) = let both : false ≡ true = sym (ap is_answer o) ∙ told_so in cc
  never_untouched values outcome told_so (verdicts.quiet change c v o) = let both : false ≡ true = sym (ap is_answer o) ∙ told_so in cc

  -- a step that inserts nothing arms nothing
  abbrev InsertsNone : Step → Type 0
  InsertsNone (Insert index word) = ⊥
  InsertsNone step = Unit {0}

  none_armed : (index : ℕ) (step : Step) → InsertsNone step → (made : Record) → made.step ≡ step → (own : List Record)
      → last_arming_number index (made ∷ own) ≡ last_arming_number index own
  none_armed index (Insert at word) none made is own = absurd none
  none_armed index step none made is own =
      subst (λ (st : Step). last_arming_number index (record made { step = st } ∷ own) ≡ last_arming_number index own) (sym is) refl

  -- what stands before what is left
  record Unarmed (index : ℕ) (records rest : List Record) : Type 0 where
    front : List Record
    split : records ≡ front ++ rest
    same : (own : List Record) → last_arming_number index (back front own) ≡ last_arming_number index own

  -- tries that end with an arming at this index
  record Tried (index : ℕ) (records rest : List Record) : Type 0 where
    front : List Record
    split : records ≡ front ++ rest
    numbered : (own : List Record) → NumberedFrom index (length own) (back front own)

  arms_here : (index : ℕ) (word : ℕ) (first : Record) → first.step ≡ Insert index word → first.answer ≡ answers.Flag true → (own : List Record)
      → NumberedFrom index (length own) (first ∷ own)
  arms_here index word first is answer own = record {
    number = length own;
    last = subst (λ (st : Step). last_arming_number index (record first { step = st } ∷ own) ≡ Some (length own)) (sym is)
        (subst (λ (an : Answer). last_arming_number index (record { task = first.task; step = Insert index word; answer = an } ∷ own) ≡ Some (length own)) (sym answer)
        (rw (eq-eqb index index refl) refl));
    since = omega arith;
  }

  same_place : (at index : ℕ) → Some index ≡ Some at → at ≡ index
  same_place at index is = sym (some_same is)

  tried_at : (word : ℕ) (indices : List ℕ) (records : List Record) (index : ℕ) (rest : List Record)
      → TriesInsert s.task word indices records (Some index) rest → Tried index records rest
  tried_at word [] records index rest h = absurd (let none : Some index ≡ None = h.0 in cc)
  tried_at word (at ∷ indices) [] index rest h = absurd h
  tried_at word (at ∷ indices) (first ∷ later) index rest h =
      let got = on_flag first.answer _ h.2 in
      by_flag got.0 got.1 got.2 (λ again. tried_at word indices later index rest again)
    where
      by_flag : (accepted : Bool) → first.answer ≡ answers.Flag accepted
          → MatchBool accepted ((Some index ≡ Some at) × (rest ≡ later)) (TriesInsert s.task word indices later (Some index) rest)
          → (TriesInsert s.task word indices later (Some index) rest → Tried index later rest) → Tried index (first ∷ later) rest
      by_flag true is stands goes = record {
        front = first ∷ [];
        split = ap (λ (r : List Record). first ∷ r) (sym stands.1);
        numbered = arms_here index word first (h.1 ∙ ap (λ (i : ℕ). Insert i word) (same_place at index stands.0)) is;
      }
      by_flag false is again goes =
          let it = goes again in record {
            front = first ∷ it.front;
            split = ap (λ (r : List Record). first ∷ r) it.split;
            numbered = λ own. let more = it.numbered (first ∷ own) in
                record { number = more.number; last = more.last; since = let b : suc (length own) ≤ more.number = more.since in omega (arith, b) };
          }

  loaded : (index : ℕ) (source : Option Source) (records : List Record) (value : Option ℕ) (rest : List Record) → LoadsFrom s a source records value rest
      → Unarmed index records rest
  loaded index None records value rest h = record { front = []; split = sym h.1; same = λ own. refl }
  loaded index (Some source) [] value rest h = absurd h
  loaded index (Some source) (first ∷ later) value rest h =
      let got = on_word first.answer _ h.2 in
      record { front = first ∷ []; split = ap (λ (r : List Record). first ∷ r) (sym got.2.1); same = none_armed index (CellLoad source.cell) tt first h.1 }

  -- from the consume on
  record Consumed (index : ℕ) (values : Option (ℕ × ℕ)) (outcome : Outcome) (records : List Record) : Type 0 where
    consume : Record
    later : List Record
    split : records ≡ consume ∷ later
    task : consume.task ≡ s.task
    step : consume.step ≡ Consume index
    answer : consume.answer ≡ answers.Flag false
    judges : JudgesHit s a index values later outcome []

  consumed : (index : ℕ) (values : Option (ℕ × ℕ)) (outcome : Outcome) (records : List Record) → IsTrue (is_answer outcome)
      → Judges s a index values records outcome [] → Consumed index values outcome records
  consumed index values outcome [] told_so h = absurd h
  consumed index values outcome (first ∷ later) told_so h =
      let got = on_flag first.answer _ h.2 in by_flag got.0 got.1 got.2
    where
      by_flag : (untouched : Bool) → first.answer ≡ answers.Flag untouched
          → MatchBool untouched (UntouchedOutcome s a values outcome × ([] ≡ later)) (JudgesHit s a index values later outcome [])
          → Consumed index values outcome (first ∷ later)
      by_flag true is quiet = absurd (never_untouched values outcome told_so quiet.0)
      by_flag false is hit = record { consume = first; later = later; split = refl; task = h.0; step = h.1; answer = is; judges = hit }

  consume_hand : (made : Record) (index : ℕ) → made.step ≡ Consume index → made.answer ≡ answers.Flag false → (own : List Record)
      → in_hand (made ∷ own) ≡ Some (record { index = index; part = Hit })
  consume_hand made index is answer own =
      subst (λ (st : Step). in_hand (record made { step = st } ∷ own) ≡ Some (record { index = index; part = Hit })) (sym is)
      (subst (λ (an : Answer). in_hand (record { task = made.task; step = Consume index; answer = an } ∷ own)
      ≡ Some (record { index = index; part = Hit })) (sym answer) refl)

  by_arms : (index : ℕ) (outcome : Outcome) (watch armed : List Record) → IsTrue (is_answer outcome)
      → Inserts s a (word_of s.rules.layout a) watch (Some index) armed
      → Arms s a index armed outcome [] → HitFrom s a outcome watch
  by_arms index outcome watch [] told_so inserts h = absurd h
  by_arms index outcome watch (name ∷ named) told_so inserts h =
      let w = h.2.1 in
      let tried = tried_at (word_of s.rules.layout a) (try_order (slot_of s a)) watch index (name ∷ named) inserts in
      let front : List Record = tried.front in
      let values : Option (ℕ × ℕ) = both_values w.0 w.1 in
      let one = loaded index (source_of s a) named w.0 w.2 w.4 in
      let two = loaded index (source_of s a) w.2 w.1 w.3 w.5 in
      let it = consumed index values outcome w.3 told_so w.6 in
      let both : Halves = it.judges.0 in
      let wait = waits finder_half s.task index it.later both [] it.judges.1 in
      let before : List Record = front ++ name ∷ (one.front ++ two.front) in
      let parted : watch ≡ before ++ (it.consume ∷ (wait.pairs ++ [])) =
      tried.split ∙ (ap (λ (r : List Record). front ++ name ∷ r)
      (one.split ∙ (ap (λ (r : List Record). one.front ++ r) (two.split ∙ ap (λ (r : List Record). two.front ++ r)
      (it.split ∙ ap (λ (r : List Record). it.consume ∷ r) wait.split))
      ∙ sym (append_assoc one.front two.front (it.consume ∷ (wait.pairs ++ [])))))
      ∙ sym (append_assoc front (name ∷ (one.front ++ two.front)) (it.consume ∷ (wait.pairs ++ [])))) in
      let read : (own : List Record) → back watch own ≡ back wait.pairs (it.consume ∷ back before own) =
      λ own. ap (λ (r : List Record). back r own) parted
      ∙ (back_both before (it.consume ∷ (wait.pairs ++ [])) own ∙ back_both wait.pairs [] (it.consume ∷ back before own)) in
      record {
        index = index;
        values = values;
        pair = both;
        is = record {
          armed = name ∷ named;
          named = named;
          stalled = w.2;
          loaded = w.3;
          consumed = it.later;
          inserts = inserts;
          names = (h.0, h.1, (h.2.0, refl));
          old = w.0;
          new = w.1;
          loads_old = w.4;
          loads_new = w.5;
          values_are = refl;
          consumes = subst (λ (r : List Record). MakesFlag s.task (Consume index) (λ untouched l. (untouched ≡ false) × (l ≡ it.later)) r) (sym it.split)
              (it.task, it.step, subst (λ (an : Answer). OnFlag an (λ untouched. (untouched ≡ false) × (it.later ≡ it.later))) (sym it.answer) (refl, refl));
          hears = it.judges.1;
          verdict = it.judges.2;
        };
        hand = λ own. ap (λ (r : List Record). in_hand r) (read own)
            ∙ (wait.keeps (it.consume ∷ back before own) ∙ consume_hand it.consume index it.step it.answer (back before own));
        hears = λ own. ap (λ (r : List Record). heard index r) (read own) ∙ wait.hears (it.consume ∷ back before own);
        above = wait.above;
        numbered = λ own.
            let armed = tried.numbered own in
            let loads : back before own ≡ back two.front (back one.front (name ∷ back front own)) =
            back_both front (name ∷ (one.front ++ two.front)) own ∙ back_both one.front two.front (name ∷ back front own) in
            record {
              number = armed.number;
              last = ap (λ (r : List Record). last_arming_number index r) (read own)
                  ∙ (wait.arms (it.consume ∷ back before own)
                  ∙ (none_armed index (Consume index) tt it.consume it.step (back before own)
                  ∙ (ap (λ (r : List Record). last_arming_number index r) loads
                  ∙ (two.same (back one.front (name ∷ back front own))
                  ∙ (one.same (name ∷ back front own)
                  ∙ (none_armed index (Name index (ticket_number a)) tt name h.1 (back front own) ∙ armed.last))))));
              since = armed.since;
            };
      }

  at_place : (place : Option ℕ) (judged : Judged) (watch armed : List Record) → IsTrue (is_answer judged.outcome)
      → Inserts s a (word_of s.rules.layout a) watch place armed
      → WatchesAt s a place armed (Some judged) [] → HitFrom s a judged.outcome watch
  at_place None judged watch armed told_so inserts h = absurd (let none : Some judged ≡ None = h.0 in cc)
  at_place (Some index) judged watch armed told_so inserts h =
      let it : Some judged ≡ Some (record { index = index; outcome = h.0 }) = h.2 in
      let same : judged ≡ record { index = index; outcome = h.0 } = cc in
      let outcome : judged.outcome ≡ h.0 = ap (λ (j : Judged). j.outcome) same in
      by_arms index judged.outcome watch armed told_so inserts
      (subst (λ (o : Outcome). Arms s a index armed o []) (sym outcome) h.1)

  hit_from : (outcome : Outcome) (watch : List Record) → IsTrue (is_answer outcome) → IsWatch s a outcome watch → HitFrom s a outcome watch
  hit_from outcome watch told_so it =
      let up = it.sets_up in
      at_place up.0 (record { index = it.index; outcome = outcome }) watch up.1 told_so up.2 up.3

-- meetings over one arming are one
where_met : (xs : List Meeting) (m : Meeting) (d : ℕ) → Has xs m
    → (k : ℕ) × (k < length (numbers_met xs)) × (slice_index_or (numbers_met xs) k d ≡ m.number)
where_met [] m d h = absurd h
where_met (x ∷ xs) m d h = elim h [
  | inl here ↦ (0, omega arith, ap (λ (y : Meeting). y.number) here)
  | inr more ↦ let it = where_met xs m d more in
      (suc it.0, (let below : it.0 < length (numbers_met xs) = it.1 in omega (arith, below)), it.2)
]

one_met : (xs : List Meeting) → AllPairs (λ p q. p ≢ q) (numbers_met xs) → (m n : Meeting) → Has xs m → Has xs n → m.number ≡ n.number → m ≡ n
one_met [] differ m n h g same = absurd h
one_met (x ∷ xs) differ m n h g same = elim h [
  | inl here ↦ elim g [
    | inl too ↦ sym here ∙ too
    | inr more ↦
        let at = where_met xs n 0 more in
        absurd (differ 0 (suc at.0) 0 (omega arith) (let below : at.0 < length (numbers_met xs) = at.1 in omega (arith, below))
        (ap (λ (y : Meeting). y.number) here ∙ (same ∙ sym at.2)))
  ]
  | inr before ↦ elim g [
    | inl too ↦
        let at = where_met xs m 0 before in
        absurd (differ 0 (suc at.0) 0 (omega arith) (let below : at.0 < length (numbers_met xs) = at.1 in omega (arith, below))
        (ap (λ (y : Meeting). y.number) too ∙ (sym same ∙ sym at.2)))
    | inr more ↦ one_met xs (λ i j d below fits. differ (suc i) (suc j) d (omega (arith, below)) (omega (arith, fits))) m n before more same
  ]
]

-- who told of a meeting
record TellsOfIt (records : List Record) (met : Meeting) : Type 0 where
  later : List Record
  latest : Record
  earlier : List Record
  split : records ≡ later ++ latest ∷ earlier
  step : latest.step ≡ Tell met.index met.finder
  last : last_arming_number met.index earlier ≡ Some met.number
  both : Halves
  hears : heard met.index (records_of latest.task earlier) ≡ Some both
  setter : met.setter ≡ both.setter

tells_now : (latest : Record) (earlier : List Record) (index ticket : ℕ) (last : Option ℕ) (both : Option Halves) (before : List Meeting) (met : Meeting)
    → latest.step ≡ Tell index ticket → last_arming_number index earlier ≡ last → heard index (records_of latest.task earlier) ≡ both
    → Has (told_to index ticket last both before) met → (Has before met → TellsOfIt (latest ∷ earlier) met) → TellsOfIt (latest ∷ earlier) met
tells_now latest earlier index ticket (Some number) (Some both) before met step last hears has so = elim has [
  | inl here ↦
      let index_is : index ≡ met.index = ap (λ (m : Meeting). m.index) here in
      let ticket_is : ticket ≡ met.finder = ap (λ (m : Meeting). m.finder) here in
      record {
        later = [];
        latest = latest;
        earlier = earlier;
        split = refl;
        step = step ∙ (ap (λ (i : ℕ). Tell i ticket) index_is ∙ ap (λ (t : ℕ). Tell met.index t) ticket_is);
        last = subst (λ (i : ℕ). last_arming_number i earlier ≡ Some met.number) index_is (last ∙ ap Some (ap (λ (m : Meeting). m.number) here));
        both = both;
        hears = subst (λ (i : ℕ). heard i (records_of latest.task earlier) ≡ Some both) index_is hears;
        setter = sym (ap (λ (m : Meeting). m.setter) here);
      }
  | inr more ↦ so more
]
tells_now latest earlier index ticket None both before met step last hears has so = so has
tells_now latest earlier index ticket (Some number) None before met step last hears has so = so has

by_step : (latest : Record) (earlier : List Record) (step : Step) (met : Meeting) → latest.step ≡ step
    → Has (told_by latest.task step earlier (finders_told earlier)) met → (Has (finders_told earlier) met → TellsOfIt (latest ∷ earlier) met)
    → TellsOfIt (latest ∷ earlier) met
by_step latest earlier (Tell index ticket) met is has so =
    tells_now latest earlier index ticket (last_arming_number index earlier) (heard index (records_of latest.task earlier)) (finders_told earlier) met is refl refl has so
by_step latest earlier step met is has so = so has

told_there : (records : List Record) (met : Meeting) → Has (finders_told records) met → TellsOfIt records met
told_there [] met has = absurd has
told_there (latest ∷ earlier) met has = by_step latest earlier latest.step met refl has (λ before.
    let it = told_there earlier met before in record {
      later = latest ∷ it.later;
      latest = it.latest;
      earlier = it.earlier;
      split = ap (λ (r : List Record). latest ∷ r) it.split;
      step = it.step;
      last = it.last;
      both = it.both;
      hears = it.hears;
      setter = it.setter;
    })

-- a tell arms nothing
last_before : (index number : ℕ) (latest : Record) (earlier : List Record) (at ticket : ℕ) → latest.step ≡ Tell at ticket
    → last_arming_number index (latest ∷ earlier) ≡ Some number → last_arming_number index earlier ≡ Some number
last_before index number latest earlier at ticket is h =
    subst (λ (st : Step). last_arming_number index (record latest { step = st } ∷ earlier) ≡ Some number) is h

-- one outcome that falls at a record
one_fell : (at : ℕ) (arming : Option Armed) (here : List Fallen) (outcome : Outcome)
    → map (λ (came : OutcomeAt). came.outcome) (map (outcome_at at arming) here) ≡ outcome ∷ []
    → (f : Fallen) × (here ≡ f ∷ []) × (f.outcome ≡ outcome)
one_fell at arming [] outcome is = absurd (cc)
one_fell at arming (f ∷ []) outcome is = (f, refl, let same : f.outcome ≡ outcome = cc in same)
one_fell at arming (f ∷ g ∷ here) outcome is =
    let long : suc (suc (length (map (λ (came : OutcomeAt). came.outcome) (map (outcome_at at arming) here)))) ≡ 1 =
    ap (λ (l : List Outcome). length l) is in absurd (omega (arith, long))

tells_of : (ticket : ℕ) (outcome : Outcome) → TellsOf ticket outcome → IsTrue (is_telling outcome)
tells_of ticket (outcomes.Told pair) h = refl
tells_of ticket outcomes.Nothing h = absurd h
tells_of ticket outcomes.Unencodable h = absurd h
tells_of ticket outcomes.Capacity h = absurd h
tells_of ticket outcomes.Lost h = absurd h
tells_of ticket outcomes.Quiet h = absurd h
tells_of ticket (outcomes.Unknown old new) h = absurd h
tells_of ticket (outcomes.Report pair seen) h = absurd h
tells_of ticket (outcomes.Dropped reason) h = absurd h

-- an answer is a verdict
answer_is : (outcome : Outcome) → IsTrue (is_answer outcome) → IsTrue (is_verdict outcome)
answer_is (outcomes.Report pair seen) h = refl
answer_is (outcomes.Dropped reason) h = refl
answer_is outcomes.Nothing h = absurd (let both : false ≡ true = h in cc)
answer_is outcomes.Unencodable h = absurd (let both : false ≡ true = h in cc)
answer_is outcomes.Capacity h = absurd (let both : false ≡ true = h in cc)
answer_is outcomes.Lost h = absurd (let both : false ≡ true = h in cc)
answer_is (outcomes.Told pair) h = absurd (let both : false ≡ true = h in cc)
answer_is outcomes.Quiet h = refl
answer_is (outcomes.Unknown old new) h = refl

same_tells : (index ticket at told : ℕ) → Tell index ticket ≡ Tell at told → (index ≡ at) × (ticket ≡ told)
same_tells index ticket at told is = (cc, cc)

-- what isn't the last record stands before it
earlier_than : (later : List Record) (latest : Record) (earlier all : List Record) (at : ℕ) → all ≡ later ++ latest ∷ earlier → length all ≡ suc at
    → (all ≡ latest ∷ earlier → ⊥) → length earlier < at
earlier_than [] latest earlier all at is long not_last = absurd (not_last is)
earlier_than (first ∷ later) latest earlier all at is long not_last =
    let parts : length all ≡ suc (length later) + suc (length earlier) =
    ap (λ (r : List Record). length r) is ∙ length-append (first ∷ later) (latest ∷ earlier) in
    omega (arith, parts, long)

armed_index : (index : ℕ) (last : Option ℕ) (armed : Armed) → option_map (λ (n : ℕ). record { index = index; number = n }) last ≡ Some armed
    → (index ≡ armed.index) × (last ≡ Some armed.number)
armed_index index None armed is = absurd (let none : None ≡ Some armed = is in cc)
armed_index index (Some n) armed is =
    let it : Some (record { index = index; number = n }) ≡ Some armed = is in
    let same : record { index = index; number = n } ≡ armed = cc in
    (ap (λ (x : Armed). x.index) same, ap (λ (x : Armed). Some x.number) same)

module _ (run : Run) (records : List Record) (list : Execution run records)
    (rules : Keeps run.rules.slots (locks_of run) (first_cells run) records) where
  abbrev Rules : List Record → Type 0
  Rules l = Keeps run.rules.slots (locks_of run) (first_cells run) l

  rules_before : (later earlier : List Record) → Rules (later ++ earlier) → Rules earlier
  rules_before [] earlier kept = kept
  rules_before (latest ∷ later) earlier kept =
      rules_before later earlier (keeps_before run.rules.slots (locks_of run) (first_cells run) latest (later ++ earlier) kept)

  -- an outcome has the arming that its task has in hand
  record ArmsAt (came : OutcomeAt) : Type 0 where
    later : List Record
    latest : Record
    earlier : List Record
    split : records ≡ later ++ latest ∷ earlier
    at : length earlier ≡ came.at
    arming : came.arming ≡ armed_by latest.task (latest ∷ earlier)

  all_mapped : (P : OutcomeAt → Type 0) (at : ℕ) (arming : Option Armed) (fs : List Fallen) → ((f : Fallen) → P (outcome_at at arming f)) → All P (map (outcome_at at arming) fs)
  all_mapped P at arming [] each = All-nil P
  all_mapped P at arming (f ∷ fs) each = All-cons P (outcome_at at arming f) (map (outcome_at at arming) fs) (each f) (all_mapped P at arming fs each)

  armed_at : (later earlier : List Record) → records ≡ later ++ earlier → All ArmsAt (outcomes_by list earlier)
  armed_at later [] is = All-nil ArmsAt
  armed_at later (latest ∷ earlier) is =
      All-append ArmsAt (outcomes_by list earlier) (came_next list latest earlier)
      (armed_at (later ++ latest ∷ []) earlier (is ∙ sym (append_assoc later (latest ∷ []) earlier)))
      (all_mapped ArmsAt (length earlier) (armed_by latest.task (latest ∷ earlier)) (fell_next (list.tasks latest.task) (made_by latest.task earlier))
      (λ f. record { later = later; latest = latest; earlier = earlier; split = is; at = refl; arming = refl }))

  settled : (later : List Record) (latest : Record) (earlier : List Record) → EachSettles list (later ++ latest ∷ earlier)
      → Settles (in_hand (records_of latest.task earlier)) latest.step latest.answer (map (λ (came : OutcomeAt). came.outcome) (came_next list latest earlier))
  settled [] latest earlier each = each.1
  settled (first ∷ later) latest earlier each = settled later latest earlier each.0

  in_outcomes : (later : List Record) (latest : Record) (earlier : List Record) (came : OutcomeAt) → Has (came_next list latest earlier) came
      → Has (outcomes_by list (later ++ latest ∷ earlier)) came
  in_outcomes [] latest earlier came has = has_last (outcomes_by list earlier) (came_next list latest earlier) came has
  in_outcomes (first ∷ later) latest earlier came has =
      has_first (outcomes_by list (later ++ latest ∷ earlier)) (came_next list first (later ++ latest ∷ earlier)) came (in_outcomes later latest earlier came has)

  -- the watch, and the answer as it is by it
  record Watched (came : OutcomeAt) (first : AnswersTaking list came) : Type 0 where
    answer : AnswersTaking list came
    watch : JudgesWatch answer
    finder : answer.finder ≡ first.finder
    mine : (latest : Record) (earlier : List Record) → answer.by_then ≡ latest ∷ earlier → latest.task ≡ came.access.task
    numbered : NumberedFrom answer.index (length watch.before) (records_of came.access.task answer.by_then)

  watched : (came : OutcomeAt) (answer : AnswersTaking list came) → IsTrue (is_answer came.outcome) → IsOfWatch list came → ArmsAt came → Watched came answer
  watched came answer told_so of at =
      let a : Access = came.access in
      let task : ℕ = a.task in
      let hit = hit_from (checks_of (task_setting run task)) a came.outcome of.watch told_so of.is_watch in
      let by_then : List Record = answer.by_then in
      let same : of.by_then ≡ by_then = same_back of.later answer.later of.by_then by_then (of.at ∙ sym answer.at) (sym of.split ∙ answer.split) in
      let there : at.latest ∷ at.earlier ≡ by_then =
      same_back at.later answer.later (at.latest ∷ at.earlier) by_then (ap (λ (n : ℕ). suc n) at.at ∙ sym answer.at) (sym at.split ∙ answer.split) in
      let own : records_of task by_then ≡ reverse of.watch ++ of.before = ap (λ (r : List Record). records_of task r) (sym same) ∙ of.own in
      let read : records_of task by_then ≡ back of.watch of.before = own ∙ sym (back_is of.watch of.before) in
      let mine : at.latest.task ≡ task = of.mine at.latest at.earlier (same ∙ sym there) in
      let hand : in_hand (records_of task by_then) ≡ Some (record { index = hit.index; part = Hit }) =
      ap (λ (r : List Record). in_hand r) read ∙ hit.hand of.before in
      let hears : heard hit.index (records_of task by_then) ≡ Some hit.pair = ap (λ (r : List Record). heard hit.index r) read ∙ hit.hears of.before in
      let arming : came.arming ≡ armed_by task by_then =
      at.arming ∙ (ap (λ (r : List Record). armed_by at.latest.task r) there ∙ ap (λ (t : ℕ). armed_by t by_then) mine) in
      let armed : option_map (λ (n : ℕ). record { index = hit.index; number = n }) (last_arming_number hit.index by_then)
      ≡ Some (record { index = answer.index; number = answer.number }) =
      sym (ap (λ (h : Option InHand). armed_in h by_then) hand) ∙ (sym arming ∙ answer.armed) in
      let its = armed_index hit.index (last_arming_number hit.index by_then) (record { index = answer.index; number = answer.number }) armed in
      let kept : Rules by_then = rules_before answer.later by_then (subst Rules answer.split rules) in
      let found = finder_told run.rules.slots (locks_of run) (first_cells run) by_then hit.index task hit.pair kept
      (here_part hit.index (in_hand (records_of task by_then)) Hit hand) hears hit.above in
      let number : found.0 ≡ answer.number = some_same (sym found.1 ∙ its.1) in
      let one : meeting hit.index found.0 hit.pair.setter hit.pair.finder ≡ meeting answer.index answer.number answer.pair.setter answer.pair.finder =
      one_met (finders_told by_then) (meetings_differ run.rules.slots (locks_of run) (first_cells run) by_then kept) _ _
      (contains_has (finders_told by_then) _ found.2) (contains_has (finders_told by_then) _ answer.told) number in
      let pair : hit.pair ≡ answer.pair =
      ap (λ (n : ℕ). record { setter = n; finder = hit.pair.finder }) (ap (λ (m : Meeting). m.setter) one)
      ∙ ap (λ (n : ℕ). record { setter = answer.pair.setter; finder = n }) (ap (λ (m : Meeting). m.finder) one) in
      let s : checks.Setting = checks_of (task_setting run task) in
      let is_watch : IsHitWatch s a answer.index hit.values answer.pair came.outcome of.watch =
      subst (λ (p : Halves). IsHitWatch s a answer.index hit.values p came.outcome of.watch) pair
      (subst (λ (i : ℕ). IsHitWatch s a i hit.values hit.pair came.outcome of.watch) its.0 hit.is) in
      record {
        answer = record {
          finder = answer.finder;
          setter_is = answer.setter_is;
          finder_is = answer.finder_is;
          pair = answer.pair;
          setter_named = answer.setter_named;
          finder_named = answer.finder_named;
          index = answer.index;
          number = answer.number;
          armed = answer.armed;
          later = answer.later;
          by_then = answer.by_then;
          split = answer.split;
          at = answer.at;
          met = answer.met;
          told = answer.told;
          values = hit.values;
          verdict = is_watch.verdict;
          of_pair = answer.of_pair;
          encoding = answer.encoding;
        };
        watch = record { watch = of.watch; before = of.before; own = own; is_watch = is_watch; goes = of.goes };
        finder = refl;
        mine = λ latest earlier is. of.mine latest earlier (same ∙ is);
        numbered = subst (λ (i : ℕ). NumberedFrom i (length of.before) (records_of task by_then)) its.0
            (subst (λ (r : List Record). NumberedFrom hit.index (length of.before) r) (sym read) (hit.numbered of.before));
      }

  -- the finder, by the telling
  names : (came : OutcomeAt) (answer : AnswersTaking list came)
      → ((latest : Record) (earlier : List Record) → answer.by_then ≡ latest ∷ earlier → latest.task ≡ came.access.task)
      → EachSettles list records → All (IfTelling list) (outcomes_of list) → NamesFinder answer
  names came answer mine each tellings =
      let met : Meeting = meeting answer.index answer.number answer.pair.setter answer.pair.finder in
      let it = told_there answer.by_then met (contains_has (finders_told answer.by_then) met answer.told) in
      let whole : records ≡ (answer.later ++ it.later) ++ it.latest ∷ it.earlier =
      answer.split ∙ (ap (λ (r : List Record). answer.later ++ r) it.split ∙ sym (append_assoc answer.later it.later (it.latest ∷ it.earlier))) in
      let fell = settled (answer.later ++ it.later) it.latest it.earlier (subst (λ (r : List Record). EachSettles list r) whole each) in
      let one : One (TellsOf answer.pair.finder) (map (λ (came : OutcomeAt). came.outcome) (came_next list it.latest it.earlier)) =
      subst (λ (st : Step). Settles (in_hand (records_of it.latest.task it.earlier)) st it.latest.answer (map (λ (came : OutcomeAt). came.outcome) (came_next list it.latest it.earlier)))
      it.step fell in
      let arming : Option Armed = armed_by it.latest.task (it.latest ∷ it.earlier) in
      let f = one_fell (length it.earlier) arming (fell_next (list.tasks it.latest.task) (made_by it.latest.task it.earlier)) one.0 one.1 in
      let telling : OutcomeAt = outcome_at (length it.earlier) arming f.0 in
      let next : came_next list it.latest it.earlier ≡ telling ∷ [] = ap (λ (l : List Fallen). map (outcome_at (length it.earlier) arming) l) f.1 in
      let has : Has (outcomes_by list ((answer.later ++ it.later) ++ it.latest ∷ it.earlier)) telling =
      in_outcomes (answer.later ++ it.later) it.latest it.earlier telling (subst (λ (l : List OutcomeAt). Has l telling) (sym next) (inl refl)) in
      let there : Contains (outcomes_of list) telling =
      has_contains (outcomes_of list) telling (subst (λ (r : List Record). Has (outcomes_by list r) telling) (sym whole) has) in
      let told_so : IsTrue (is_telling telling.outcome) = subst (λ (o : Outcome). IsTrue (is_telling o)) (sym f.2) (tells_of answer.pair.finder one.0 one.2) in
      let find : IsOfFind list telling = all_has (IfTelling list) (outcomes_of list) telling tellings
      (subst (λ (r : List Record). Has (outcomes_by list r) telling) (sym whole) has) told_so in
      let same : find.by_then ≡ it.latest ∷ it.earlier =
      same_back find.later (answer.later ++ it.later) find.by_then (it.latest ∷ it.earlier) find.at (sym find.split ∙ whole) in
      let finds : it.latest.task ≡ telling.access.task = find.mine it.latest it.earlier same in
      let ends = ends_so run telling find.index find.word find.find find.before it.latest it.earlier find.is_find finds
      (ap (λ (r : List Record). records_of telling.access.task r) (sym same) ∙ find.own) in
      let steps : Tell find.index (ticket_number telling.access) ≡ Tell answer.index answer.pair.finder = sym ends.step ∙ it.step in
      let both_same = same_tells find.index (ticket_number telling.access) answer.index answer.pair.finder steps in
      let index : find.index ≡ answer.index = both_same.0 in
      let ticket : ticket_number telling.access ≡ answer.pair.finder = both_same.1 in
      let last : last_arming_number find.index it.earlier ≡ Some find.number = last_before find.index find.number it.latest it.earlier find.index
      (ticket_number telling.access) ends.step
      (subst (λ (r : List Record). last_arming_number find.index r ≡ Some find.number) same find.met.last) in
      let number : find.number ≡ answer.number =
      some_same (sym last ∙ (ap (λ (i : ℕ). last_arming_number i it.earlier) index ∙ it.last)) in
      let heard_same : Some ends.pair ≡ Some it.both =
      sym ends.hears ∙ (ap (λ (i : ℕ). heard i (records_of telling.access.task it.earlier)) index
      ∙ (ap (λ (t : ℕ). heard answer.index (records_of t it.earlier)) (sym finds) ∙ it.hears)) in
      let pair_same : ends.pair ≡ it.both = some_same heard_same in
      let setter : ends.pair.setter ≡ answer.pair.setter = ap (λ (p : Halves). p.setter) pair_same ∙ sym it.setter in
      let is : telling.outcome ≡ outcomes.Told answer.pair =
      ends.told ∙ (ap (λ (n : ℕ). outcomes.Told (record { setter = n; finder = ticket_number telling.access })) setter
      ∙ ap (λ (n : ℕ). outcomes.Told (record { setter = answer.pair.setter; finder = n })) ticket) in
      let access : telling.access ≡ answer.finder =
      let first : fin.get run.sites (ticket_number telling.access) ≡ Some telling.access =
      (list.sites (ticket_number telling.access) telling.access).1 (refl, find.access_is) in
      let second : fin.get run.sites (ticket_number telling.access) ≡ Some answer.finder =
      (list.sites (ticket_number telling.access) answer.finder).1 (ticket ∙ answer.finder_named, answer.finder_is) in
      some_same (sym first ∙ second) in
      record {
        telling = telling;
        told = there;
        before = earlier_than it.later it.latest it.earlier answer.by_then came.at it.split answer.at
            (λ last. answer.met.two (sym (ap (λ (b : Access). b.task) access) ∙ (sym finds ∙ mine it.latest it.earlier last)));
        is = is;
        access = access;
        find = find;
        index = index;
        number = number;
      }

  -- just before the tell both are in progress
  record Together (came : OutcomeAt) (answer : AnswersTaking list came) : Type 0 where
    moment : ℕ
    setter_goes : InProgress (history_of list) came.access moment
    finder_goes : InProgress (history_of list) answer.finder moment

  together : (came : OutcomeAt) (first : AnswersTaking list came) (w : Watched came first) → (names : NamesFinder w.answer) → Together came w.answer
  together came first w names =
      let answer = w.answer in
      let find = names.find in
      let task : ℕ = came.access.task in
      let other : ℕ = names.telling.access.task in
      let at = behead find.by_then names.telling.at find.at in
      let base : List Record = at.1 in
      let latest : Record = at.0 in
      let split : records ≡ (find.later ++ latest ∷ []) ++ base =
      find.split ∙ (ap (λ (r : List Record). find.later ++ r) at.2 ∙ sym (append_assoc find.later (latest ∷ []) base)) in
      let finds : latest.task ≡ other = find.mine latest base at.2 in
      let ends = ends_so run names.telling find.index find.word find.find find.before latest base find.is_find finds
      (ap (λ (r : List Record). records_of other r) (sym at.2) ∙ find.own) in
      let met_last : last_arming_number find.index (latest ∷ base) ≡ Some find.number =
      subst (λ (r : List Record). last_arming_number find.index r ≡ Some find.number) at.2 find.met.last in
      let last : last_arming_number answer.index base ≡ Some answer.number =
      subst (λ (i : ℕ). last_arming_number i base ≡ Some answer.number) names.index
      (last_before find.index find.number latest base find.index (ticket_number names.telling.access) ends.step met_last ∙ ap Some names.number) in
      let below : answer.number < length base = last_below answer.index answer.number base last in
      let long : length base ≡ names.telling.at =
      let it : length find.by_then ≡ suc (length base) = ap (λ (r : List Record). length r) at.2 in
      let was : length find.by_then ≡ suc names.telling.at = find.at in omega (arith, it, was) in
      let by_then : List Record = answer.by_then in
      let grown = front_until by_then answer.later (find.later ++ latest ∷ []) base (sym answer.split ∙ split)
      (let all : length by_then ≡ suc came.at = answer.at in let before : names.telling.at < came.at = names.before in omega (arith, all, before, long)) in
      let same_number : last_arming_number answer.index (records_of task by_then) ≡ last_arming_number answer.index (records_of task base) =
      ap (λ (r : List Record). last_arming_number answer.index (records_of task r)) grown.2
      ∙ same_arming task answer.index answer.number (grown.0 ∷ grown.1) base
      (subst (λ (r : List Record). number_made task answer.index r ≡ Some answer.number) grown.2 answer.met.made) below in
      let own_below : w.numbered.number < made_by task base =
      last_below answer.index w.numbered.number (records_of task base) (sym same_number ∙ w.numbered.last) in
      let since : length w.watch.before ≤ w.numbered.number = w.numbered.since in
      let all_own : length (records_of task by_then) ≡ length w.watch.watch + length w.watch.before =
      ap (λ (r : List Record). length r) w.watch.own
      ∙ (length-append (reverse w.watch.watch) w.watch.before ∙ ap (λ (n : ℕ). n + length w.watch.before) (length-reverse w.watch.watch)) in
      let split_own : length (records_of task by_then) ≡ suc (length (records_of task grown.1)) + made_by task base =
      ap (λ (r : List Record). length (records_of task r)) grown.2
      ∙ (ap (λ (r : List Record). length r) (own_latest task grown.0 (grown.1 ++ base) (w.mine grown.0 (grown.1 ++ base) grown.2)
      ∙ ap (λ (r : List Record). grown.0 ∷ r) (own_split task grown.1 base)) ∙ length-append (grown.0 ∷ records_of task grown.1) (records_of task base)) in
      let find_own : suc (made_by other base) ≡ length find.find + length find.before =
      sym (ap (λ (r : List Record). length r) (own_latest other latest base finds))
      ∙ (ap (λ (r : List Record). length (records_of other r)) (sym at.2)
      ∙ (ap (λ (r : List Record). length r) find.own
      ∙ (length-append (reverse find.find) find.before ∙ ap (λ (n : ℕ). n + length find.before) (length-reverse find.find)))) in
      let some : 0 < length find.find =
      some_find run records list (checks_of (task_setting run other)) names.telling.access names.telling.outcome find.find (find.index, find.word, find.is_find) in
      record {
        moment = length (history_by list base);
        setter_goes = w.watch.goes (find.later ++ latest ∷ []) base split (omega (arith, since, own_below)) (omega (arith, all_own, split_own));
        finder_goes = subst (λ (f : Access). InProgress (history_of list) f (length (history_by list base))) names.access
            (find.goes (find.later ++ latest ∷ []) base split (omega (arith, find_own, some)) (omega (arith, find_own)));
      }

  pub all_both : All (IfAnswer list) (outcomes_of list) → All (IfVerdict list) (outcomes_of list) → EachSettles list records
      → All (IfTelling list) (outcomes_of list) → All (IfAnswersBoth list) (outcomes_of list)
  all_both answers verdicts each tellings = λ place other below. λ told_so.
      let w = watched _ (answers place other below told_so) told_so (verdicts place other below (answer_is _ told_so)) (armed_at [] records refl place other below) in
      let finder = names _ w.answer w.mine each tellings in
      let at = together _ _ w finder in
      record { answer = w.answer; watch = w.watch; finder = finder; moment = at.moment; setter_goes = at.setter_goes; finder_goes = at.finder_goes }
