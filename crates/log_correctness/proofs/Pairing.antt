-- Each arming that a task has removed has its own verdict, in the order of both.
use Rattle.std.proofs.Common.{◌≡◌, ◌≢◌, ◌∙◌, ◌==◌, ◌++◌, ◌∷◌, if◌then◌else◌, [], inl, inr, ℕ, All, Bool, true, false, Contains, List, MatchBool, None, Option, Some, ap, append_assoc}
use Rattle.std.proofs.Common.{length, map, refl, subst, sym}
use Rattle.std.specs.Option.{option_map}
use Rattle.std.proofs.lemmas.Bool.{eq-eqb}
use Rattle.std.proofs.lemmas.Bool.Decides.{eqb_tells}
use Rattle.std.proofs.lemmas.List.{append-nil}
use Rattle.access_types.specs.Arms.{Arm}
use Rattle.access_types.specs.Ticket.{ticket_number}
use Rattle.access_types.specs.declared.arms.ArmOutcome.{ArmOutcome}
use Rattle.log_correctness.proofs.Named.{named_so, rules_then}
use Rattle.executions.specs.execution.Run.{Run, first_cells, locks_of}
use Rattle.executions.specs.execution.Execution.{Execution}
use Rattle.executions.specs.execution.Observed.{Armed, OutcomeAt, armed_by, armed_in, came_next, outcome_at, outcomes_of}
use Rattle.executions.proofs.execution.OwnLasts.{finder_told, own_latest, own_name, still_told}
use Rattle.log_correctness.specs.Lists.{AreArmsAt, AreArmsBy, Became, IsArm, verdicts_by}
use Rattle.log_correctness.proofs.HandIsLastArming.{IsNamed, Says, all_say, in_part, last_word}
use Rattle.log_correctness.proofs.Naming.{last_name}
use Rattle.log_correctness.proofs.Removals.{of_task, some_is}
use Rattle.log_correctness.proofs.Settling.{HandSays, HitSays, Known, Match, Pending, Settled, Suits, carried, in_hand_says, match_with, silently, unheard_settled}
use Rattle.log_correctness.proofs.Verdicts.{BecameSo, FallsHere, NoVerdict, QuietFalls, Removing, answer_is, falls_here, hit_so, its_setter, made_by_others}
use Rattle.log_correctness.proofs.Verdicts.{made_last, no_verdicts, none_fell, one_verdict, only_one, removing, untouched_is, untouched_so, verdicts_in}
use Rattle.log_correctness.proofs.Verdicts as cases
use Rattle.soundness.specs.Settles.{Settles}
use Rattle.soundness.specs.Watches.{IfVerdict, is_verdict}
use Rattle.soundness.proofs.Counts.{Answered, Unanswered}
use Rattle.soundness.proofs.Falls.{outcomes_in}
use Rattle.soundness.proofs.Lists.{SettledAt, settled_at}
use Rattle.setup_access.specs.Check.{Fallen}
use Rattle.setup_access.specs.declared.outcome.Outcome.{Outcome}
use Rattle.slot.specs.Pair.{Halves}
use Rattle.slot_table.specs.Armings.{last_arming, last_arming_number, named_at, number_made}
use Rattle.slot_table.specs.Discipline.{Allows, hand_after, heard, heard_after, in_hand}
use Rattle.slot_table.specs.Meetings.{finders_told}
use Rattle.slot_table.specs.Records.{records_of}
use Rattle.slot_table.specs.Roles.{part_of}
use Rattle.slot_table.specs.declared.discipline.InHand.{InHand}
use Rattle.slot_table.specs.declared.discipline.Part.{Part}
use Rattle.slot_table.specs.declared.discipline.Part.TheVariants.{Cleared, Hit, Named, Taken, Untouched}
use Rattle.slot_table.specs.declared.records.Record.{Record}
use Rattle.slot_table.specs.declared.step.Answer.TheVariants as answers
use Rattle.slot_table.specs.declared.step.Step.{Step}
use Rattle.slot_table.specs.declared.step.Step.TheVariants as steps
use Rattle.slot_table.proofs.Hearings.{heard_finder}
use Rattle.slot_table.proofs.Lists.{Keeps, allowed_at, fits_all, view_of}
use Rattle.slot_table.proofs.Phases.{meeting}
use Rattle.slot_table.proofs.Steps.{here_part}

-- the last of one list is the last of the other
last_same : (xs ys : List OutcomeAt) (x y : OutcomeAt) → xs ++ x ∷ [] ≡ ys ++ y ∷ [] → (xs ≡ ys) × (x ≡ y)
last_same [] [] x y is = (refl, let it : x ∷ [] ≡ y ∷ [] = is in cc)
last_same [] (w ∷ []) x y is = absurd (let it : x ∷ [] ≡ w ∷ y ∷ [] = is in cc)
last_same [] (w ∷ v ∷ ys) x y is = absurd (let it : x ∷ [] ≡ w ∷ v ∷ (ys ++ y ∷ []) = is in cc)
last_same (w ∷ []) [] x y is = absurd (let it : w ∷ x ∷ [] ≡ y ∷ [] = is in cc)
last_same (w ∷ v ∷ xs) [] x y is = absurd (let it : w ∷ v ∷ (xs ++ x ∷ []) ≡ y ∷ [] = is in cc)
last_same (w ∷ xs) (v ∷ ys) x y is =
    let tails : xs ++ x ∷ [] ≡ ys ++ y ∷ [] = cc in
    let heads : w ≡ v = cc in
    let rest = last_same xs ys x y tails in (ap (λ (a : OutcomeAt). a ∷ xs) heads ∙ ap (λ (l : List OutcomeAt). v ∷ l) rest.0, rest.1)

pick : (b : Bool) (Yes No Goal : Type 0) → MatchBool b Yes No → b ≡ true → (Yes → Goal) → Goal
pick true Yes No Goal h is on = on h
pick false Yes No Goal h is on = absurd (cc)

other : (b : Bool) (Yes No Goal : Type 0) → MatchBool b Yes No → b ≡ false → (No → Goal) → Goal
other true Yes No Goal h is on = absurd (cc)
other false Yes No Goal h is on = on h

module _ (run : Run) (all : List Record) (list : Execution run all) (rules : Keeps run.rules.slots (locks_of run) (first_cells run) all)
    (watches : All (IfVerdict list) (outcomes_of list)) where
  abbrev SaysOf : List Record → List OutcomeAt → List Arm → (ℕ → Option ℕ) → Option ArmOutcome → Type 0
  SaysOf own verdicts arms made kept = HandSays all (in_hand own) (λ index. heard index own)
      (record { verdicts = verdicts; arms = arms; name = last_name own; made = made; kept = kept })

  -- the armings of a task have their verdicts
  pub record Paired (task : ℕ) (records : List Record) (arms : List Arm) : Type 0 where
    pub kept : Option ArmOutcome
    pub says : SaysOf (records_of task records) (verdicts_by list task records) arms (λ index. number_made task index records) kept

  -- one more record of another task
  of_another : (task : ℕ) (latest : Record) (earlier : List Record) (arms : List Arm) → (latest.task == task) ≡ false
      → Paired task earlier arms
      → Paired task (latest ∷ earlier) arms
  of_another task latest earlier arms others paired =
      let same : records_of task (latest ∷ earlier) ≡ records_of task earlier = rw others refl in
      let verdicts : verdicts_by list task (latest ∷ earlier) ≡ verdicts_by list task earlier = rw others (append-nil (verdicts_by list task earlier)) in
      let known : Known = record {
        verdicts = verdicts_by list task earlier;
        arms = arms;
        name = last_name (records_of task earlier);
        made = λ index. number_made task index earlier;
        kept = paired.kept;
      } in
      let so : SaysOf (records_of task earlier) (verdicts_by list task earlier) arms (λ index. number_made task index (latest ∷ earlier)) paired.kept =
      carried all (in_hand (records_of task earlier)) (λ index. heard index (records_of task earlier)) known (λ index. number_made task index (latest ∷ earlier))
      (λ index n is. made_by_others task index latest.task latest.step latest.answer (length earlier) (number_made task index earlier) others ∙ is) paired.says in
      record {
        kept = paired.kept;
        says =
            subst (λ (own : List Record). SaysOf own (verdicts_by list task (latest ∷ earlier)) arms (λ index. number_made task index (latest ∷ earlier)) paired.kept)
            (sym same)
            (subst (λ (v : List OutcomeAt). SaysOf (records_of task earlier) v arms (λ index. number_made task index (latest ∷ earlier)) paired.kept) (sym verdicts) so);
      }

  -- one more record of the task
  module _ (later : List Record) (latest : Record) (earlier : List Record) (is : all ≡ later ++ latest ∷ earlier) (arms : List Arm)
      (paired : Paired latest.task earlier arms) where
    abbrev task : ℕ
    task = latest.task

    abbrev own : List Record
    own = records_of task earlier

    abbrev with_it : List Record
    with_it = latest ∷ earlier

    now_kept : Keeps run.rules.slots (locks_of run) (first_cells run) with_it
    now_kept = rules_then run all list later latest earlier is rules

    allowed : Allows task own latest.step
    allowed = allowed_at latest earlier now_kept.keeps

    abbrev settled : SettledAt run all list latest earlier
    settled = settled_at run all list later latest earlier is

    abbrev arming : Option Armed
    arming = armed_by task with_it

    abbrev here : List Fallen
    here = settled.here

    abbrev known : Known
    known = record {
      verdicts = verdicts_by list task earlier;
      arms = arms;
      name = last_name own;
      made = λ index. number_made task index earlier;
      kept = paired.kept;
    }

    mine : records_of task with_it ≡ latest ∷ own
    mine = own_latest task latest earlier refl

    next_is : came_next list latest earlier ≡ map (outcome_at (length earlier) arming) here
    next_is = ap (λ (l : List Fallen). map (outcome_at (length earlier) arming) l) settled.all

    verdicts_are : verdicts_by list task with_it ≡ verdicts_by list task earlier ++ verdicts_in (map (outcome_at (length earlier) arming) here)
    verdicts_are =
        ap (λ (b : Bool). verdicts_by list task earlier ++ (if b then verdicts_in (came_next list latest earlier) else [])) (eq-eqb task task refl)
        ∙ ap (λ (l : List OutcomeAt). verdicts_by list task earlier ++ verdicts_in l) next_is

    -- what it comes to
    comes_to : (verdicts : List OutcomeAt) (after : List Arm) (kept : Option ArmOutcome) → verdicts_by list task with_it ≡ verdicts
        → SaysOf (latest ∷ own) verdicts after (λ index. number_made task index with_it) kept → Paired task with_it after
    comes_to verdicts after kept verdicts_so says = record {
      kept = kept;
      says =
          subst (λ (r : List Record). SaysOf r (verdicts_by list task with_it) after (λ index. number_made task index with_it) kept) (sym mine)
          (subst (λ (v : List OutcomeAt). SaysOf (latest ∷ own) v after (λ index. number_made task index with_it) kept) (sym verdicts_so) says);
    }

    -- no verdict falls
    quietly : NoVerdict (outcomes_in here) → ((index : ℕ) → latest.step ≡ steps.Consume index → latest.answer ≢ answers.Flag true)
        → Unanswered (in_hand own) latest.step latest.answer (outcomes_in here) → ((index : ℕ) → latest.step ≢ steps.Remove index)
        → Paired task with_it arms
    quietly none consumes un never =
        let verdicts : verdicts_by list task with_it ≡ verdicts_by list task earlier =
        verdicts_are ∙ (ap (λ (l : List OutcomeAt). verdicts_by list task earlier ++ l) (no_verdicts (length earlier) arming here none)
        ∙ append-nil (verdicts_by list task earlier)) in
        comes_to (verdicts_by list task earlier) arms paired.kept verdicts
        (silently all task own known (length earlier) paired.says latest.step latest.answer allowed settled.clears (record {
          consumes = consumes;
          hears = λ index setter finder step_is answer_is has above. un.silent index setter finder step_is answer_is has above;
          removes = never;
        }))

    -- a verdict falls on the arming in hand
    pends : (index : ℕ) (part : Part) (finder : ℕ) → ((word : ℕ) → part ≢ Taken word) → in_hand (latest ∷ own) ≡ Some (record { index = index; part = part })
        → Settled all known → (outcome : Outcome) → outcomes_in here ≡ outcome ∷ [] → is_verdict outcome ≡ true
        → ((number : ℕ) → last_arming_number index with_it ≡ Some number → (fallen : Fallen) → last_name (latest ∷ own) ≡ Some (ticket_number fallen.access)
        → BecameSo all index number (ticket_number fallen.access) outcome finder)
        → (kept : Option ArmOutcome) × (verdicts : List OutcomeAt) × (verdicts_by list task with_it ≡ verdicts)
        × Pending all index (record { verdicts = verdicts; arms = arms; name = last_name (latest ∷ own); made = λ i. number_made task i with_it; kept = kept })
    pends index part finder apart has settled_so outcome only verdict became_so =
        let one = only_one here outcome only in
        let fallen : Fallen = one.0 in
        let its : is_verdict fallen.outcome ≡ true = ap is_verdict one.2 ∙ verdict in
        let name = named_so run all list later latest earlier is watches fallen one.1 its in
        let at = its_setter index task (view_of run.rules.slots (locks_of run) (first_cells run) with_it index) part apart
        (fits_all run.rules.slots (locks_of run) (first_cells run) with_it now_kept index)
        (here_part index (in_hand (records_of task with_it)) part (ap in_hand mine ∙ has)) in
        let so = became_so at.number at.numbered fallen name in
        let came : OutcomeAt = outcome_at (length earlier) arming fallen in
        let verdicts_so : verdicts_by list task with_it ≡ verdicts_by list task earlier ++ came ∷ [] =
        verdicts_are ∙ (ap (λ (l : List Fallen). verdicts_by list task earlier ++ verdicts_in (map (outcome_at (length earlier) arming) l)) one.1
        ∙ ap (λ (l : List OutcomeAt). verdicts_by list task earlier ++ l) (one_verdict (length earlier) arming fallen its)) in
        let armed : arming ≡ Some (record { index = index; number = at.number }) =
        ap (λ (r : List Record). armed_in (in_hand r) with_it) mine
        ∙ (ap (λ (h : Option InHand). armed_in h with_it) has
        ∙ ap (λ (o : Option ℕ). option_map (λ (n : ℕ). record { index = index; number = n }) o) at.numbered) in (
          Some so.result,
          verdicts_by list task earlier ++ came ∷ [],
          verdicts_so,
          record {
            older = verdicts_by list task earlier;
            verdict = came;
            all_are = refl;
            matched = settled_so;
            number = at.number;
            made = made_last task index at.word with_it at.arming ∙ at.numbered;
            on = armed;
            named = name;
            outcome = so.result;
            kept = refl;
            became = subst (λ (o : Outcome). Became all index at.number (ticket_number fallen.access) o so.result) (sym one.2) so.is;
          },
        )

    -- on one that nobody hit
    untouched : QuietFalls latest.step latest.answer (outcomes_in here) → Paired task with_it arms
    untouched falls =
        let allows : Allows task own (steps.Consume falls.index) = subst (λ (st : Step). Allows task own st) falls.step_is allowed in
        let hand : in_hand (latest ∷ own) ≡ Some (record { index = falls.index; part = Untouched }) =
        ap (λ (st : Step). hand_after st latest.answer (in_hand own)) falls.step_is
        ∙ ap (λ an. hand_after (steps.Consume falls.index) an (in_hand own)) falls.answer_is in
        let settled_so : Settled all known =
        in_hand_says all task own known (length earlier) paired.says (Some (record { index = falls.index; part = Named allows.0 })) allows.1 in
        let it = pends falls.index Untouched 0 (λ w e. cc) hand settled_so falls.outcome falls.only (untouched_is falls.outcome falls.untouched)
        (λ number numbered fallen name. untouched_so all falls.index number (ticket_number fallen.access) falls.outcome 0 falls.untouched) in
        comes_to it.1 arms it.0 it.2
        (subst (λ (h : Option InHand). HandSays all h (λ index. heard index (latest ∷ own))
        (record { verdicts = it.1; arms = arms; name = last_name (latest ∷ own); made = λ i. number_made task i with_it; kept = it.0 })) (sym hand) it.3)

    -- on one that was hit, whose finder is heard now
    hit : Answered (in_hand own) latest.step latest.answer (outcomes_in here) → Paired task with_it arms
    hit falls =
        let index : ℕ = falls.index in
        let both : Halves = record { setter = falls.setter; finder = falls.finder } in
        let hand : in_hand (latest ∷ own) ≡ Some (record { index = index; part = Hit }) =
        ap (λ (st : Step). hand_after st latest.answer (in_hand own)) falls.step_is ∙ falls.has in
        let hears : heard index (latest ∷ own) ≡ Some both =
        ap (λ (st : Step). heard_after index st latest.answer (heard index own)) falls.step_is
        ∙ (ap (λ an. heard_after index (steps.PairLoad index) an (heard index own)) falls.answer_is ∙ rw (eq-eqb index index refl) refl) in
        let part : part_of task index with_it ≡ Some Hit = here_part index (in_hand (records_of task with_it)) Hit (ap in_hand mine ∙ hand) in
        let hears_so : heard index (records_of task with_it) ≡ Some both = ap (heard index) mine ∙ hears in
        let its = heard_finder run.rules.slots (locks_of run) (first_cells run) with_it now_kept task index both part hears_so falls.above in
        let told = finder_told run.rules.slots (locks_of run) (first_cells run) with_it index task both now_kept part hears_so falls.above in
        let before_hit : HitSays all (heard index own) index known =
        in_hand_says all task own known (length earlier) paired.says (Some (record { index = index; part = Hit })) falls.has in
        let settled_so : Settled all known =
        unheard_settled all task own known (length earlier) paired.says index (heard index own)
        (λ half is_half above. let no : steps.PairLoad index ≡ steps.Clear index = sym falls.step_is ∙ settled.clears index falls.has (half, is_half, above) in cc)
        before_hit in
        let own_says : IsNamed (last_word (latest ∷ own)) (last_arming index (latest ∷ own)) (last_name (latest ∷ own)) (named_at index (latest ∷ own)) =
        in_part task (latest ∷ own) (subst Says mine (all_say task (records_of task with_it) (of_task task with_it) (now_kept.keeps task))) index Hit hand in
        let ticket : last_name (latest ∷ own) ≡ Some both.setter =
        own_says.1.1 ∙ (sym own_says.1.2 ∙ (ap (named_at index) (sym mine)
        ∙ (own_name run.rules.slots (locks_of run) (first_cells run) with_it index (record { setter = task; word = its.word }) now_kept its.met.armed
        ∙ its.named))) in
        let it = pends index Hit falls.finder (λ w e. cc) hand settled_so falls.outcome falls.only (answer_is falls.outcome falls.answers)
        (λ number numbered fallen name.
        let same_number : told.0 ≡ number = some_is told.0 number (sym told.1 ∙ numbered) in
        let same_setter : both.setter ≡ ticket_number fallen.access = some_is both.setter (ticket_number fallen.access) (sym ticket ∙ name) in
        let meets : Contains (finders_told with_it) (meeting index number (ticket_number fallen.access) falls.finder) =
        subst (λ (n : ℕ). Contains (finders_told with_it) (meeting index n (ticket_number fallen.access) falls.finder)) same_number
        (subst (λ (n : ℕ). Contains (finders_told with_it) (meeting index told.0 n falls.finder)) same_setter told.2) in
        let in_all : Contains (finders_told all) (meeting index number (ticket_number fallen.access) falls.finder) =
        subst (λ (r : List Record). Contains (finders_told r) (meeting index number (ticket_number fallen.access) falls.finder)) (sym is)
        (still_told later with_it (meeting index number (ticket_number fallen.access) falls.finder) meets) in
        hit_so all index number (ticket_number fallen.access) falls.outcome falls.finder falls.answers in_all) in
        comes_to it.1 arms it.0 it.2
        (subst (λ (h : Option InHand). HandSays all h (λ i. heard i (latest ∷ own))
        (record { verdicts = it.1; arms = arms; name = last_name (latest ∷ own); made = λ i. number_made task i with_it; kept = it.0 })) (sym hand)
        (subst (λ (h : Option Halves). HitSays all h index
        (record { verdicts = it.1; arms = arms; name = last_name (latest ∷ own); made = λ i. number_made task i with_it; kept = it.0 })) (sym hears)
        (inr (falls.above, it.3))))

    says_on : ((index : ℕ) → latest.step ≢ steps.Remove index) → FallsHere (in_hand own) latest.step latest.answer (outcomes_in here)
        → Paired task with_it arms
    says_on never (cases.nothing_falls none consumes un) = quietly none consumes un never
    says_on never (cases.quiet_falls falls) = untouched falls
    says_on never (cases.hit_falls falls) = hit falls

    -- the arming is removed
    removed : (index : ℕ) → latest.step ≡ steps.Remove index → (after : List Arm)
        → (arm : Arm) × IsArm list task index earlier arms arm × (after ≡ arms ++ arm ∷ [])
        → Paired task with_it after
    removed index step_is after (arm, its, after_is) =
        let allows : Allows task own (steps.Remove index) = subst (λ (st : Step). Allows task own st) step_is allowed in
        let pending : Pending all index known =
        in_hand_says all task own known (length earlier) paired.says (Some (record { index = index; part = Cleared })) allows in
        let same = last_same pending.older its.older pending.verdict its.verdict (sym pending.all_are ∙ its.verdict_is) in
        let suits : Suits all arm pending.verdict = record {
          number = its.number;
          on = ap (λ (v : OutcomeAt). v.arming) same.1
              ∙ (its.on ∙ ap (λ (i : ℕ). Some (record { index = i; number = its.number })) (sym its.index_is));
          setter = its.setter ∙ ap (λ (v : OutcomeAt). ticket_number v.access) (sym same.1);
          became = subst (λ (v : OutcomeAt). Became all arm.index its.number arm.setter v.outcome arm.outcome) (sym same.1)
              (subst (λ (i : ℕ). Became all i its.number arm.setter its.verdict.outcome arm.outcome) (sym its.index_is) its.became);
        } in
        let nothing : outcomes_in here ≡ [] = subst (λ (st : Step). Settles (in_hand own) st latest.answer (outcomes_in here)) step_is settled.settles in
        let verdicts : verdicts_by list task with_it ≡ pending.older ++ pending.verdict ∷ [] =
        verdicts_are ∙ (ap (λ (l : List OutcomeAt). verdicts_by list task earlier ++ l)
        (no_verdicts (length earlier) arming here (none_fell (outcomes_in here) nothing))
        ∙ (append-nil (verdicts_by list task earlier) ∙ pending.all_are)) in
        let hand : in_hand (latest ∷ own) ≡ None = ap (λ (st : Step). hand_after st latest.answer (in_hand own)) step_is in
        comes_to (pending.older ++ pending.verdict ∷ []) after paired.kept verdicts
        (subst (λ (h : Option InHand). HandSays all h (λ i. heard i (latest ∷ own))
        (record {
          verdicts = pending.older ++ pending.verdict ∷ [];
          arms = after;
          name = last_name (latest ∷ own);
          made = λ i. number_made task i with_it;
          kept = paired.kept;
        })) (sym hand)
        (subst (λ (a : List Arm). Match all a (pending.older ++ pending.verdict ∷ [])) (sym after_is)
        (match_with all arms pending.older arm pending.verdict pending.matched suits)))

    same_after : (step : Step) (after : List Arm) → ((index : ℕ) → step ≢ steps.Remove index)
        → AreArmsAt list task step earlier arms after → after ≡ arms
    same_after (steps.Remove index) after never h = absurd (never index refl)
    same_after (steps.Load index) after never h = h
    same_after (steps.Insert index word) after never h = h
    same_after (steps.TryConsume index word) after never h = h
    same_after (steps.Consume index) after never h = h
    same_after (steps.PairLoad index) after never h = h
    same_after (steps.Name index ticket) after never h = h
    same_after (steps.Tell index ticket) after never h = h
    same_after (steps.Clear index) after never h = h
    same_after (steps.CellLoad cell) after never h = h
    same_after (steps.CellExchange cell expected new) after never h = h
    same_after (steps.LockTry lock holder) after never h = h
    same_after (steps.LockStore lock) after never h = h
    same_after steps.Clock after never h = h

    by_step : (after : List Arm) → AreArmsAt list task latest.step earlier arms after → Removing latest.step → Paired task with_it after
    by_step after h (cases.of_index index step_is) =
        removed index step_is after (subst (λ (st : Step). AreArmsAt list task st earlier arms after) step_is h)
    by_step after h (cases.of_none never) =
        subst (λ (a : List Arm). Paired task with_it a) (sym (same_after latest.step after never h))
        (says_on never (falls_here (in_hand own) latest.step latest.answer (outcomes_in here) settled.settles))

    one_more : (after : List Arm) → AreArmsAt list task latest.step earlier arms after → Paired task with_it after
    one_more after h = by_step after h (removing latest.step)

  -- by all records of a task
  pub all_paired : (task : ℕ) (later earlier : List Record) → all ≡ later ++ earlier → (arms : List Arm) → AreArmsBy list task earlier arms
      → Paired task earlier arms
  all_paired task later [] is arms are =
      subst (λ (a : List Arm). Paired task [] a) (sym are) (record { kept = None; says = tt })
  all_paired task later (latest ∷ earlier) is arms are =
      let back : all ≡ (later ++ latest ∷ []) ++ earlier = is ∙ sym (append_assoc later (latest ∷ []) earlier) in
      let before = all_paired task (later ++ latest ∷ []) earlier back are.0 are.1 in
      elim (eqb_tells latest.task task) [
        | inl mine ↦ pick (latest.task == task) _ _ _ are.2 mine.0 (λ h. of_own mine.1 before h)
        | inr others ↦ other (latest.task == task) _ _ _ are.2 others.0
            (λ h. subst (λ (a : List Arm). Paired task (latest ∷ earlier) a) (sym h) (of_another task latest earlier are.0 others.0 before))
      ]
    where
      of_own : latest.task ≡ task → Paired task earlier are.0 → AreArmsAt list task latest.step earlier are.0 arms
          → Paired task (latest ∷ earlier) arms
      of_own mine =
          subst (λ (t : ℕ). Paired t earlier are.0 → AreArmsAt list t latest.step earlier are.0 arms → Paired t (latest ∷ earlier) arms) mine
          (λ before h. one_more later latest earlier is are.0 before arms h)
