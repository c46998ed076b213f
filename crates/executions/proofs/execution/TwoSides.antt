-- An answer to a taking names its setter and its finder, and a report of two sides a true race.
use Rattle.std.proofs.Common.{◌≡◌, ◌≢◌, ◌↔◌, ◌<◌, ◌==◌, ◌⊎◌, ◌∙◌, ◌+◌, ◌-◌, ◌++◌, ◌||◌, inl, inr, ℕ}
use Rattle.std.proofs.Common.{suc, Bool, true, false, All, Contains, IsTrue, length, List, [], ◌∷◌, Option, Some, IsSomeAnd, ap}
use Rattle.std.proofs.Common.{append_assoc, arith, map, refl, reverse, subst, sym}
use Rattle.std.specs.List.{filter}
use Rattle.std.specs.Option.{option_map}
use Rattle.std.proofs.lemmas.Bool.Decides.{eqb_tells}
use Rattle.std.proofs.lemmas.List.{append-nil, length-append, length-reverse, reverse-append, reverse-reverse}
use Rattle.std.proofs.lemmas.List.Elements.{All-append, All-cons, All-nil}
use Rattle.std.specs.FinMap as fin
use Rattle.access_types.specs.Access as access
use Rattle.access_types.specs.Access.{Breaks, Overlap}
use Rattle.access_types.specs.Kind.{write_flag}
use Rattle.access_types.specs.Marked.{CountedAsMarked, Silenced}
use Rattle.access_types.specs.Race.{TrueRace}
use Rattle.access_types.specs.Ticket.{ticket_number}
use Rattle.litmus_semantics.proofs.TicketLemmas.{numbered}
use Rattle.setup_access.specs.Check.{Fallen}
use Rattle.setup_access.specs.Hits.{Hits}
use Rattle.setup_access.specs.declared.begun.Begun.{Begun}
use Rattle.setup_access.specs.declared.outcome.Outcome.{Outcome}
use Rattle.setup_access.specs.declared.outcome.Outcome.TheVariants as outcomes
use Rattle.setup_access.specs.Setting as checks
use Rattle.setup_access.specs.Verdicts as verdicts
use Rattle.setup_access.specs.Verdicts.{HitOutcome, SharesByte}
use Rattle.setup_access.proofs.LawLemmas.{shares}
use Rattle.value_filter.specs.Verdict as table
use Rattle.value_filter.specs.Verdict.{VerdictOf}
use Rattle.value_filter.specs.declared.verdict.Change.{Change}
use Rattle.value_filter.specs.declared.verdict.Reason.{Reason}
use Rattle.value_filter.specs.declared.verdict.Reason.TheVariants.{Encoding}
use Rattle.value_filter.specs.declared.verdict.Verdict.TheVariants as verdict
use Rattle.slot.specs.Pair.{Halves}
use Rattle.slot_table.specs.Armings.{Arming, last_arming_number, number_made}
use Rattle.slot_table.specs.Discipline.{in_hand}
use Rattle.slot_table.specs.Hearings.{EachHearsTheOther, HeardItsFinder, HearsTheOther, IsArming, IsMet, IsTell, SomeRecord}
use Rattle.slot_table.specs.Meetings.{finders_told}
use Rattle.slot_table.specs.Records.{records_of}
use Rattle.slot_table.specs.Roles.{part_of}
use Rattle.slot_table.specs.declared.discipline.InHand.{InHand}
use Rattle.slot_table.specs.declared.discipline.Part.{Part}
use Rattle.slot_table.specs.declared.discipline.Part.TheVariants.{Hit, Taken}
use Rattle.slot_table.specs.declared.records.Record.{Record}
use Rattle.slot_table.specs.declared.step.Step.{Step}
use Rattle.slot_table.specs.declared.step.Step.TheVariants.{Tell}
use Rattle.slot_table.proofs.Hearings.{each_hears, heard_finder}
use Rattle.slot_table.proofs.Lists.{Keeps, keeps_before}
use Rattle.slot_table.proofs.Moves.{some_same}
use Rattle.slot_table.proofs.Phases.{meeting}
use Rattle.slot_table.proofs.Steps.{here_part}
use Rattle.watch_word.specs.Word.{WordOf, Watches, watch_of, word_of}
use Rattle.watch_word.specs.declared.layout.Layout.{Layout}
use Rattle.watch_word.specs.declared.watch.Watch.{Watch}
use Rattle.program_order.specs.Standing as tasks
use Rattle.program_order.specs.Standing.{Point, Standing, checks_of}
use Rattle.program_order.specs.TaskObserved.{did_by, to_come}
use Rattle.program_order.specs.WrittenOrder.{first_point}
use Rattle.executions.specs.execution.Run.{IsOfProgram, Run, first_cells, locks_of, task_of, task_setting}
use Rattle.executions.specs.execution.Execution.{Execution}
use Rattle.executions.specs.execution.Answers.{AnswersTaking, IfAnswer, IsOfPair, is_answer}
use Rattle.executions.specs.execution.Observed.{Armed, OutcomeAt, armed_by, armed_in, came_next, outcome_at, history_by, history_of, made_by, outcomes_by, outcomes_of}
use Rattle.executions.specs.execution.TwoSides.{IfTwoSided, NamesBoth}
use Rattle.executions.proofs.execution.Begun.{heard_so, is_below, of_program, once, unmarked_so}
use Rattle.executions.proofs.execution.CheckFacts.{AllFallSo, FallsSo, IsAnswered, IsTold, OnTell, TellsKnown, back}
use Rattle.executions.proofs.execution.Histories.{front_of, in_progress}
use Rattle.executions.proofs.execution.Intervals.{IsOpen}
use Rattle.executions.proofs.execution.OwnLasts.{finder_told, hears_at, one_arming, own_latest, own_name, own_split, own_word, last_below, number_below, same_arming, stands_at, stands_later}
use Rattle.executions.proofs.execution.TaskFacts.{AreGood, During, IsKnown, whole_text}
use Rattle.executions.proofs.execution.DoneOnlyGrows.{whole_chain}

-- a list and its front
back_is : (p own : List Record) → back p own ≡ reverse p ++ own
back_is [] own = refl
back_is (first ∷ later) own =
    back_is later (first ∷ own) ∙ (sym (append_assoc (reverse later) (first ∷ []) own)
    ∙ ap (λ (r : List Record). r ++ own) (sym (reverse-append (first ∷ []) later)))

-- own records are what is read of them
pub back_own : (own : List Record) → back (reverse own) [] ≡ own
back_own own = back_is (reverse own) [] ∙ (append-nil (reverse (reverse own)) ∙ reverse-reverse own)

same_front : (p u q v : List Record) → length p ≡ length u → p ++ q ≡ u ++ v → p ≡ u
same_front [] [] q v same is = refl
same_front [] (first ∷ u) q v same is = absurd (omega (arith, same))
same_front (first ∷ p) [] q v same is = absurd (omega (arith, same))
same_front (first ∷ p) (other ∷ u) q v same is =
    let one : first ≡ other = cc in
    let rest : p ++ q ≡ u ++ v = cc in
    let shorter : length p ≡ length u = omega (arith, same) in
    ap (λ (r : Record). r ∷ p) one ∙ ap (λ (r : List Record). other ∷ r) (same_front p u q v shorter rest)

tells_at : (s : tasks.Setting) (end : Standing) (In : Begun → ℕ → Type 0) (p q own : List Record) (x : Record)
    → TellsKnown (checks_of s) (IsKnown s end) In own (p ++ x ∷ q) → OnTell (checks_of s) (IsKnown s end) In (back p own) x.step
tells_at s end In [] q own x h = h.0
tells_at s end In (first ∷ p) q own x h = tells_at s end In p q (first ∷ own) x h.1

all_came : (s : tasks.Setting) (end : Standing) (In : Begun → ℕ → Type 0) (records : List Record) (n at : ℕ) (arming : Option Armed) (Q : OutcomeAt → Type 0)
    (outs : List Fallen) → AllFallSo (checks_of s) (IsKnown s end) In [] records outs
    → ((f : Fallen) → FallsSo (checks_of s) (IsKnown s end) In [] records f.access f.later f.outcome → length f.later ≡ n → Q (outcome_at at arming f))
    → All Q (map (outcome_at at arming) (filter (λ f. length f.later == n) outs))
all_came s end In records n at arming Q [] falls each = All-nil Q
all_came s end In records n at arming Q (f ∷ outs) falls each = elim (eqb_tells (length f.later) n) [
  | inl here ↦ rw here.0 (All-cons Q (outcome_at at arming f) _ (each f falls.0 here.1) (all_came s end In records n at arming Q outs falls.1 each))
  | inr apart ↦ rw apart.0 (all_came s end In records n at arming Q outs falls.1 each)
]

-- the verdict is the one for words that met alone exactly where the two share no byte
never_encoding : (a : access.Access) (change : Change) (only : Bool) (reason : Reason) → VerdictOf a true change only (verdict.Drop reason) → reason ≢ Encoding
never_encoding a change only reason (table.taken_seen t c v) is = absurd (cc)
never_encoding a change only reason (table.taken_ruled t c v) is = absurd (cc)
never_encoding a change only reason (table.taken_unseen t c m v) is = absurd (cc)
never_encoding a change only reason (table.taken_same t c m o v) is = absurd (cc)
never_encoding a change only reason (table.taken_any t c m o v) is = absurd (cc)
never_encoding a change only reason (table.untaken_seen t c v) is = absurd (cc)
never_encoding a change only reason (table.untaken t c v) is = absurd (cc)

drops_encoding : (s : checks.Setting) (a : access.Access) (values : Option (ℕ × ℕ)) (both : Halves) (outcome : Outcome) → HitOutcome s a values both outcome
    → (outcome ≡ outcomes.Dropped Encoding) ↔ (¬ SharesByte s.sites a both.finder)
drops_encoding s a values both outcome (verdicts.encoding apart o) = (λ is. apart, λ none. o)
drops_encoding s a values both outcome (verdicts.reported change shares c v o) = (λ is. absurd (cc), λ none. absurd (none shares))
drops_encoding s a values both outcome (verdicts.dropped change reason shares c v o) =
    (λ is. let same : reason ≡ Encoding = cc in absurd (never_encoding a change s.rules.value_change_only reason v same), λ none. absurd (none shares))

of_pair : (s : checks.Setting) (a : access.Access) (values : Option (ℕ × ℕ)) (both : Halves) (outcome : Outcome) → HitOutcome s a values both outcome → IsOfPair both outcome
of_pair s a values both outcome (verdicts.encoding apart o) = subst (λ (x : Outcome). IsOfPair both x) (sym o) tt
of_pair s a values both outcome (verdicts.reported change shares c v o) = subst (λ (x : Outcome). IsOfPair both x) (sym o) refl
of_pair s a values both outcome (verdicts.dropped change reason shares c v o) = subst (λ (x : Outcome). IsOfPair both x) (sym o) tt

one_breaks : (first second : Bool) → IsTrue (first || second) → IsTrue first ⊎ IsTrue second
one_breaks true second h = inl refl
one_breaks false second h = inr h

taken_word : Option Part → ℕ
taken_word (Some (Taken word)) = word
taken_word part = 0

taken_same : (w v : ℕ) → Some (Taken w) ≡ Some (Taken v) → w ≡ v
unfolding taken_word
taken_same w v is = ap taken_word is

module _ (run : Run) (records : List Record) (list : Execution run records)
    (rules : Keeps run.rules.slots (locks_of run) (first_cells run) records)
    (read_back : (layout : Layout) (a : access.Access) (word : ℕ) → WordOf layout a word → Watches layout word (watch_of layout a)) where
  abbrev Rules : List Record → Type 0
  Rules l = Keeps run.rules.slots (locks_of run) (first_cells run) l

  rules_before : (later earlier : List Record) → Rules (later ++ earlier) → Rules earlier
  rules_before [] earlier kept = kept
  rules_before (latest ∷ later) earlier kept =
      rules_before later earlier (keeps_before run.rules.slots (locks_of run) (first_cells run) latest (later ++ earlier) kept)

  abbrev ending : ℕ → Standing
  ending task = (list.tasks task).whole.end

  abbrev whole : ℕ → List Record
  whole task = reverse (records_of task records) ++ (list.tasks task).more

  -- where it stood before its first step, and its accesses in progress after so many of its records
  abbrev first_of : ℕ → Point
  first_of task = first_point (to_come (list.tasks task) 0) (length (task_of run task).registers)

  abbrev during : ℕ → Begun → ℕ → Type 0
  during task = During (task_setting run task) (ending task) (first_of task) (length (whole task))

  -- all records of a task are good
  good_of : (task : ℕ) → AreGood (task_setting run task) (ending task) (first_of task) (length (whole task)) [] (whole task) (ending task).outcomes
  good_of task =
      let s : tasks.Setting = task_setting run task in
      let written = list.tasks task in
      whole_text s (length (task_of run task).registers) (task_of run task).body (whole task) written.whole (first_of task) refl
      (whole_chain s (length (task_of run task).registers) (task_of run task).body (whole task) written.whole (first_of task) refl).0 (once run records list task)

  -- what is so of a tell
  told_by : (task : ℕ) (later earlier : List Record) (latest : Record) (index ticket : ℕ) → records ≡ later ++ latest ∷ earlier → latest.task ≡ task → latest.step ≡ Tell index ticket
      → IsTold (checks_of (task_setting run task)) (IsKnown (task_setting run task) (ending task)) (during task) (records_of task earlier) index ticket
  told_by task later earlier latest index ticket is mine step =
      let s : tasks.Setting = task_setting run task in
      let own : List Record = records_of task earlier in
      let front = front_of run records list task later (latest ∷ earlier) is in
      let split : whole task ≡ reverse own ++ latest ∷ front.0 =
      front.1 ∙ (ap (λ (r : List Record). reverse r ++ front.0) (own_latest task latest earlier mine)
      ∙ (ap (λ (r : List Record). r ++ front.0) (reverse-append (latest ∷ []) own) ∙ append_assoc (reverse own) (latest ∷ []) front.0)) in
      let all = good_of task in
      let tells = subst (λ (r : List Record). TellsKnown (checks_of s) (IsKnown s (ending task)) (during task) [] r) split all.0 in
      let at = tells_at s (ending task) (during task) (reverse own) front.0 [] latest tells in
      let mine_at = subst (λ (r : List Record). OnTell (checks_of s) (IsKnown s (ending task)) (during task) r latest.step) (back_own own) at in
      subst (λ (st : Step). OnTell (checks_of s) (IsKnown s (ending task)) (during task) own st) step mine_at

  breaks_of : (layout : Layout) (a b : access.Access) (word : ℕ) → WordOf layout a word → Hits layout b word → Breaks a b
  breaks_of layout a b word of_a hits =
      let said = read_back layout a word of_a in
      let writes : IsTrue ((watch_of layout a).write || write_flag b.kind) =
      subst (λ (w : Watch). IsTrue (w.write || write_flag b.kind)) (sym said.says) hits.breaks in
      one_breaks (write_flag a.kind) (write_flag b.kind) writes

  -- an answer that fell at a task's record, the latest of these
  module _ (task : ℕ) (later : List Record) (earlier : List Record) (is : records ≡ later ++ earlier) (a : access.Access) (outcome : Outcome)
      (at : IsAnswered (checks_of (task_setting run task)) (IsKnown (task_setting run task) (ending task)) (during task) a outcome (records_of task earlier)) where
    abbrev pair : Halves
    pair = at.pair

    kept : Rules earlier
    kept = rules_before later earlier (subst Rules is rules)

    part : part_of task at.index earlier ≡ Some Hit
    part = here_part at.index (in_hand (records_of task earlier)) Hit at.has

    abbrev Heard : Type 0
    Heard = HeardItsFinder task at.index pair earlier

    heard_it : Heard
    heard_it = heard_finder run.rules.slots (locks_of run) (first_cells run) earlier kept task at.index pair part at.hears at.above

    setter_named : pair.setter ≡ ticket_number a
    setter_named =
        let names = own_name run.rules.slots (locks_of run) (first_cells run) earlier at.index (record { setter = task; word = heard_it.word }) kept heard_it.met.armed in
        some_same (sym heard_it.named ∙ (sym names ∙ at.named))

    setter_word : heard_it.word ≡ word_of run.rules.layout a
    setter_word =
        let mine = own_word run.rules.slots (locks_of run) (first_cells run) earlier at.index (record { setter = task; word = heard_it.word }) kept heard_it.met.armed in
        ap (λ (arming : Arming). arming.word) (some_same (sym mine ∙ at.armed))

    abbrev IsIt : Record → List Record → Type 0
    IsIt made before = IsTell at.index heard_it.number heard_it.finder pair.finder made before

    -- the answer names its taking, and where the two share a byte they race
    record Names (came : OutcomeAt) : Type 0 where
      answer : AnswersTaking list came
      race : Overlap came.access answer.finder → TrueRace run.rules.plain_writes_atomic (history_of list) came.access answer.finder
      unmarked : ¬ CountedAsMarked run.rules.plain_writes_atomic (history_of list) came.access

    armed_now : (number : ℕ) → last_arming_number at.index earlier ≡ Some number → armed_by task earlier ≡ Some (record { index = at.index; number = number })
    armed_now number last =
        ap (λ (hand : Option InHand). armed_in hand earlier) at.has
        ∙ ap (λ (n : Option ℕ). option_map (λ (x : ℕ). record { index = at.index; number = x }) n) last

    names : (count : ℕ) → length earlier ≡ suc count → Names (record { access = a; outcome = outcome; at = count; arming = armed_by task earlier })
    names count so_long =
        let tell = stands_at IsIt earlier heard_it.telling in
        let finder : ℕ = heard_it.finder in
        let whole_split : records ≡ (later ++ tell.later) ++ tell.latest ∷ tell.earlier =
        is ∙ (ap (λ (r : List Record). later ++ r) tell.split ∙ sym (append_assoc later tell.later (tell.latest ∷ tell.earlier))) in
        let by = told_by finder (later ++ tell.later) tell.earlier tell.latest at.index pair.finder whole_split tell.holds.task tell.holds.step in
        let each = hears_at tell.later tell.latest tell.earlier
        (subst EachHearsTheOther tell.split (each_hears run.rules.slots (locks_of run) (first_cells run) earlier kept)) in
        let heard : HearsTheOther finder (Tell at.index pair.finder) tell.earlier =
        subst (λ (st : Step). HearsTheOther finder st tell.earlier) tell.holds.step (subst (λ (t : ℕ). HearsTheOther t tell.latest.step tell.earlier) tell.holds.task each) in
        let taken : heard.0 ≡ by.word =
        taken_same heard.0 by.word (sym heard.2 ∙ here_part at.index (in_hand (records_of finder tell.earlier)) (Taken by.word) by.has) in
        let number : heard.4.number ≡ heard_it.number = some_same (sym heard.4.met.last ∙ tell.holds.last) in
        let arming : SomeRecord (IsArming at.index heard_it.number heard.4.setter heard.0) tell.earlier =
        subst (λ (n : ℕ). SomeRecord (IsArming at.index n heard.4.setter heard.0) tell.earlier) number heard.4.met.arming in
        let arming_there : SomeRecord (IsArming at.index heard_it.number heard.4.setter heard.0) earlier =
        subst (λ (r : List Record). SomeRecord (IsArming at.index heard_it.number heard.4.setter heard.0) r) (sym tell.split)
        (stands_later (IsArming at.index heard_it.number heard.4.setter heard.0) tell.later (tell.latest ∷ tell.earlier) (inr arming)) in
        let one = one_arming at.index heard_it.number heard.4.setter heard.0 task heard_it.word earlier arming_there heard_it.met.arming in
        let word : by.word ≡ word_of run.rules.layout a = sym taken ∙ (one.1 ∙ setter_word) in
        let b : access.Access = by.by.access in
        let found = finder_told run.rules.slots (locks_of run) (first_cells run) earlier at.index task pair kept part at.hears at.above in
        let b_is : IsOfProgram run b = of_program run records list finder by.by by.known in
        let a_is : IsOfProgram run a = subst (λ (x : access.Access). IsOfProgram run x) at.is (of_program run records list task at.by at.known) in
        let a_task : a.task ≡ task = sym (ap (λ (x : access.Access). x.task) at.is) ∙ at.known.own.task in
        let base : List Record = tell.earlier in
        let grown : List Record = tell.later ++ tell.latest ∷ [] in
        let regrouped : earlier ≡ grown ++ base = tell.split ∙ sym (append_assoc tell.later (tell.latest ∷ []) base) in
        let under : heard_it.number < length base = number_below at.index heard_it.number heard.4.setter heard.0 base arming in
        let same_number : last_arming_number at.index (records_of task earlier) ≡ last_arming_number at.index (records_of task base) =
        ap (λ (r : List Record). last_arming_number at.index (records_of task r)) regrouped
        ∙ same_arming task at.index heard_it.number grown base
        (subst (λ (r : List Record). number_made task at.index r ≡ Some heard_it.number) regrouped heard_it.met.made) under in
        let armed_before : at.number < made_by task base = last_below at.index at.number (records_of task base) (sym same_number ∙ at.numbered) in
        let own_parts : length (records_of task earlier) ≡ length (records_of task grown) + made_by task base =
        ap (λ (r : List Record). length (records_of task r)) regrouped
        ∙ (ap (λ (r : List Record). length r) (own_split task grown base) ∙ length-append (records_of task grown) (records_of task base)) in
        let setter_goes : During (task_setting run task) (ending task) (first_of task) (length (whole task)) at.by (made_by task base) =
        at.goes (made_by task base) armed_before (omega (arith, own_parts)) in
        let a_below : a.task < length run.program.tasks = is_below run records list a a_is in
        let b_below : b.task < length run.program.tasks = is_below run records list b b_is in
        let setter_open : IsOpen (did_by (list.tasks a.task) (made_by a.task base)) a =
        subst (λ (t : ℕ). IsOpen (did_by (list.tasks t) (made_by t base)) a) (sym a_task)
        (subst (λ (x : access.Access). IsOpen (did_by (list.tasks task) (made_by task base)) x) at.is setter_goes) in
        let finder_open : IsOpen (did_by (list.tasks b.task) (made_by b.task base)) b =
        subst (λ (t : ℕ). IsOpen (did_by (list.tasks t) (made_by t base)) b) (sym by.known.own.task) by.goes in
        let before : List Record = (later ++ tell.later) ++ tell.latest ∷ [] in
        let all_split : records ≡ before ++ base = whole_split ∙ sym (append_assoc (later ++ tell.later) (tell.latest ∷ []) base) in
        let setter_unmarked : ¬ CountedAsMarked run.rules.plain_writes_atomic (history_of list) a =
        subst (λ (x : access.Access). ¬ CountedAsMarked run.rules.plain_writes_atomic (history_of list) x) at.is (unmarked_so run records list task at.by at.known at.unmarked) in
        let stands : fin.get run.sites pair.finder ≡ Some b = (list.sites pair.finder b).1 (by.is, b_is) in
        let encoding = drops_encoding (checks_of (task_setting run task)) a at.values pair outcome at.verdict in
        let same : found.0 ≡ heard_it.number = some_same (sym found.1 ∙ heard_it.met.last) in
        record {
          answer = record {
            finder = b;
            setter_is = a_is;
            finder_is = b_is;
            pair = pair;
            setter_named = setter_named;
            finder_named = by.is;
            index = at.index;
            number = heard_it.number;
            armed = armed_now heard_it.number heard_it.met.last;
            later = later;
            by_then = earlier;
            split = is;
            at = so_long;
            met = subst (λ (w : ℕ). IsMet earlier at.index heard_it.number a.task b.task w) setter_word
                (subst (λ (t : ℕ). IsMet earlier at.index heard_it.number t b.task heard_it.word) (sym a_task)
                (subst (λ (t : ℕ). IsMet earlier at.index heard_it.number task t heard_it.word) (sym by.known.own.task) heard_it.met));
            told = subst (λ (n : ℕ). Contains (finders_told earlier) (meeting at.index n pair.setter pair.finder)) same found.2;
            values = at.values;
            verdict = subst (λ (t : ℕ). HitOutcome (checks_of (task_setting run t)) a at.values pair outcome) (sym a_task) at.verdict;
            of_pair = of_pair (checks_of (task_setting run task)) a at.values pair outcome at.verdict;
            encoding = (
              λ dropped shares_one. encoding.0 dropped (subst (λ (o : Option access.Access). IsSomeAnd o (λ f. Overlap a f)) (sym stands) shares_one),
              λ none. encoding.1 (λ shares_one. none (subst (λ (o : Option access.Access). IsSomeAnd o (λ f. Overlap a f)) stands shares_one)),
            );
          };
          race = λ shares_one. record {
            tasks = λ same_task. heard_it.met.two (sym by.known.own.task ∙ (sym same_task ∙ a_task));
            overlap = shares_one;
            breaks = breaks_of run.rules.layout a b by.word (record { encodable = at.encodable; is = word }) by.hits;
            unmarked = λ both. setter_unmarked both.0;
            first_heard = subst (λ (x : access.Access). ¬ Silenced (history_of list) x) at.is (heard_so run records list task at.by at.known at.unsilenced);
            second_heard = heard_so run records list finder by.by by.known by.unsilenced;
            moment = length (history_by list base);
            first_goes = in_progress run records list before base all_split a a_below setter_open;
            second_goes = in_progress run records list before base all_split b b_below finder_open;
          };
          unmarked = setter_unmarked;
        }

  -- what came of a check, if it is an answer, and if it is a report of two sides
  abbrev IsNamed : OutcomeAt → Type 0
  IsNamed came = IfAnswer list came × NamesBoth list came

  reported : (came : OutcomeAt) (outcome : Outcome) → came.outcome ≡ outcome
      → (IsTrue (is_answer came.outcome) → (answer : AnswersTaking list came)
      × (Overlap came.access answer.finder → TrueRace run.rules.plain_writes_atomic (history_of list) came.access answer.finder)
      × (¬ CountedAsMarked run.rules.plain_writes_atomic (history_of list) came.access)) → IfTwoSided list came outcome
  reported came (outcomes.Report pair seen) is names =
      let it = names (subst (λ (o : Outcome). IsTrue (is_answer o)) (sym is) refl) in
      let s : checks.Setting = checks_of (task_setting run came.access.task) in
      let shared = shares s came.access it.0.values it.0.pair pair seen
      (subst (λ (o : Outcome). HitOutcome s came.access it.0.values it.0.pair o) is it.0.verdict) in
      let stands : fin.get run.sites pair.finder ≡ Some it.0.finder =
      (list.sites pair.finder it.0.finder).1 (ap (λ (both : Halves). both.finder) shared.0 ∙ it.0.finder_named, it.0.finder_is) in
      record {
        answer = it.0;
        is = shared.0;
        race = it.1 (subst (λ (o : Option access.Access). IsSomeAnd o (λ f. Overlap came.access f)) stands shared.1);
        unmarked = it.2;
      }
  reported came outcome is names = tt

  named : (task : ℕ) (later earlier : List Record) → records ≡ later ++ earlier → (count : ℕ) → length earlier ≡ suc count → (f : Fallen)
      → length f.later ≡ to_come (list.tasks task) (made_by task earlier)
      → FallsSo (checks_of (task_setting run task)) (IsKnown (task_setting run task) (ending task)) (during task) [] (whole task) f.access f.later f.outcome
      → IsNamed (outcome_at count (armed_by task earlier) f)
  named task later earlier is count so_long f so_many h =
      let s : tasks.Setting = task_setting run task in
      let own : List Record = records_of task earlier in
      let front = front_of run records list task later earlier is in
      let all : length (whole task) ≡ length own + length front.0 =
      ap (λ (r : List Record). length r) front.1 ∙ (length-append (reverse own) front.0 ∙ ap (λ (n : ℕ). n + length front.0) (length-reverse own)) in
      let left_is : length f.later ≡ length (whole task) - length own = so_many in
      let answered : IsTrue (is_answer f.outcome) → IsAnswered (checks_of s) (IsKnown s (ending task)) (during task) f.access f.outcome own =
      λ answers.
      let it = h answers in
      let parts : length (whole task) ≡ length it.0 + length f.later = ap (λ (r : List Record). length r) it.1 ∙ length-append it.0 f.later in
      let as_long : length it.0 ≡ length own = omega (arith, all, parts, left_is) in
      let same : it.0 ≡ reverse own = same_front it.0 (reverse own) f.later front.0 (as_long ∙ sym (length-reverse own)) (sym it.1 ∙ front.1) in
      let reached : back it.0 [] ≡ own = ap (λ (r : List Record). back r []) same ∙ back_own own in
      subst (λ (r : List Record). IsAnswered (checks_of s) (IsKnown s (ending task)) (during task) f.access f.outcome r) reached it.2 in
      let came : OutcomeAt = outcome_at count (armed_by task earlier) f in (
        λ answers. (names task later earlier is f.access f.outcome (answered answers) count so_long).answer,
        reported came f.outcome refl (λ answers.
            let it = names task later earlier is f.access f.outcome (answered answers) count so_long in (it.answer, it.race, it.unmarked)),
      )

  named_by : (later earlier : List Record) → records ≡ later ++ earlier → All IsNamed (outcomes_by list earlier)
  named_by later [] is = All-nil IsNamed
  named_by later (latest ∷ earlier) is =
      let task : ℕ = latest.task in
      let s : tasks.Setting = task_setting run task in
      let before = named_by (later ++ latest ∷ []) earlier (is ∙ sym (append_assoc later (latest ∷ []) earlier)) in
      let facts = (good_of task).1 in
      let one_more : made_by task earlier + 1 ≡ made_by task (latest ∷ earlier) =
      let so_many : length (records_of task (latest ∷ earlier)) ≡ suc (length (records_of task earlier)) = ap (λ (r : List Record). length r) (own_latest task latest earlier refl) in
      omega (arith, so_many) in
      let now = all_came s (ending task) (during task) (whole task) (to_come (list.tasks task) (made_by task earlier + 1))
      (length earlier) (armed_by task (latest ∷ earlier)) IsNamed (ending task).outcomes facts
      (λ f falls left. named task later (latest ∷ earlier) is (length earlier) refl f (left ∙ ap (λ (n : ℕ). to_come (list.tasks task) n) one_more) falls) in
      All-append IsNamed (outcomes_by list earlier) (came_next list latest earlier) before now

  pub all_answers : All (IfAnswer list) (outcomes_of list)
  all_answers = λ place other below. (named_by [] records refl place other below).0

  pub all_named : All (NamesBoth list) (outcomes_of list)
  all_named = λ place other below. (named_by [] records refl place other below).1
