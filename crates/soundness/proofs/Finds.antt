-- Each telling that an execution tells is on a find of an access in progress, of the arming that it took.
use Rattle.std.proofs.Common.{◌≡◌, ◌∙◌, ◌<◌, ◌++◌, [], ◌∷◌, inl, inr, ℕ, suc, true, All, List, Option, Some, ap, append_assoc, refl, reverse, subst, sym}
use Rattle.std.proofs.lemmas.Bool.{eq-eqb}
use Rattle.std.proofs.lemmas.List.{reverse-append}
use Rattle.access_types.specs.Access.{Access}
use Rattle.access_types.specs.Ticket.{ticket_number}
use Rattle.access_run.proofs.PartFronts.{looks_up}
use Rattle.setup_access.proofs.DisciplineLemmas.{on_flag, on_halves}
use Rattle.setup_access.specs.Found.{Hears, TellsTo, setter_half}
use Rattle.setup_access.specs.Records.{MakesFlag}
use Rattle.setup_access.specs.Setting as checks
use Rattle.setup_access.specs.Setting.{look_order, slot_of}
use Rattle.setup_access.specs.declared.outcome.Outcome.{Outcome}
use Rattle.setup_access.specs.declared.outcome.Outcome.TheVariants as outcomes
use Rattle.slot.specs.Pair.{Halves}
use Rattle.slot_table.specs.Armings.{last_arming_number}
use Rattle.slot_table.specs.Discipline.{heard, in_hand}
use Rattle.slot_table.specs.Hearings.{EachHearsTheOther, HearsTheOther, IsMet}
use Rattle.slot_table.specs.Records.{records_of}
use Rattle.slot_table.specs.declared.discipline.Part.{Part}
use Rattle.slot_table.specs.declared.discipline.Part.TheVariants.{Taken}
use Rattle.slot_table.specs.declared.records.Record.{Record}
use Rattle.slot_table.specs.declared.step.Answer.{Answer}
use Rattle.slot_table.specs.declared.step.Answer.TheVariants as answers
use Rattle.slot_table.specs.declared.step.Step.{Step}
use Rattle.slot_table.specs.declared.step.Step.TheVariants.{PairLoad, Tell, TryConsume}
use Rattle.slot_table.proofs.Steps.{here_part}
use Rattle.program_order.specs.Standing.{checks_of}
use Rattle.executions.specs.execution.Run.{Run, task_setting}
use Rattle.executions.specs.execution.Execution.{Execution}
use Rattle.executions.specs.execution.Observed.{OutcomeAt, outcomes_of}
use Rattle.executions.proofs.execution.CheckFacts.{back}
use Rattle.executions.proofs.execution.OwnLasts.{hears_at, own_latest}
use Rattle.soundness.specs.Finds.{IfTelling, IsFind, IsOfFind}
use Rattle.soundness.proofs.Watches.{OfFind, all_of_finds}

pub back_is : (p own : List Record) → back p own ≡ reverse p ++ own
back_is [] own = refl
back_is (first ∷ later) own =
    back_is later (first ∷ own) ∙ (sym (append_assoc (reverse later) (first ∷ []) own)
    ∙ ap (λ (r : List Record). r ++ own) (sym (reverse-append (first ∷ []) later)))

pub back_both : (p q own : List Record) → back (p ++ q) own ≡ back q (back p own)
back_both [] q own = refl
back_both (first ∷ p) q own = back_both p q (first ∷ own)

-- loads of the pair leave what a task has in hand
pair_keeps : (first : Record) (index : ℕ) → first.step ≡ PairLoad index → (own : List Record) → in_hand (first ∷ own) ≡ in_hand own
pair_keeps first index is own = subst (λ (st : Step). in_hand (record first { step = st } ∷ own) ≡ in_hand own) (sym is) refl

pair_hears : (first : Record) (index : ℕ) (both : Halves) → first.step ≡ PairLoad index → first.answer ≡ answers.Halves both.setter both.finder
    → (own : List Record) → heard index (first ∷ own) ≡ Some both
pair_hears first index both is answer own =
    subst (λ (st : Step). heard index (record first { step = st } ∷ own) ≡ Some both) (sym is)
    (subst (λ (an : Answer). heard index (record { task = first.task; step = PairLoad index; answer = an } ∷ own) ≡ Some both) (sym answer)
    (rw (eq-eqb index index refl) refl))

pair_arms : (first : Record) (index at : ℕ) → first.step ≡ PairLoad at → (own : List Record)
    → last_arming_number index (first ∷ own) ≡ last_arming_number index own
pair_arms first index at is own =
    subst (λ (st : Step). last_arming_number index (record first { step = st } ∷ own) ≡ last_arming_number index own) (sym is) refl

-- a wait for a half keeps what is in hand, and hears both
pub record Waited (half : Halves → ℕ) (index : ℕ) (both : Halves) (records rest : List Record) : Type 0 where
  pub pairs : List Record
  pub split : records ≡ pairs ++ rest
  pub keeps : (own : List Record) → in_hand (back pairs own) ≡ in_hand own
  pub hears : (own : List Record) → heard index (back pairs own) ≡ Some both
  pub above : 0 < half both
  pub arms : (own : List Record) → last_arming_number index (back pairs own) ≡ last_arming_number index own

pub waits : (half : Halves → ℕ) (task index : ℕ) (records : List Record) (both : Halves) (rest : List Record) → Hears half task index records both rest
    → Waited half index both records rest
waits half task index [] both rest h = absurd h
waits half task index (first ∷ later) both rest h =
    let got = on_halves first.answer _ h.2 in
    elim got.2 [
      | inl stands ↦ record {
        pairs = first ∷ [];
        split = ap (λ (r : List Record). first ∷ r) (sym stands.2);
        keeps = pair_keeps first index h.1;
        hears = pair_hears first index both h.1 (got.1 ∙ ap (λ (b : Halves). answers.Halves b.setter b.finder) (sym stands.1));
        above = subst (λ (b : Halves). 0 < half b) (sym stands.1) stands.0;
        arms = pair_arms first index index h.1;
      }
      | inr not_yet ↦ let it = waits half task index later both rest not_yet.1 in record {
        pairs = first ∷ it.pairs;
        split = ap (λ (r : List Record). first ∷ r) it.split;
        keeps = λ own. it.keeps (first ∷ own) ∙ pair_keeps first index h.1 own;
        hears = λ own. it.hears (first ∷ own);
        above = it.above;
        arms = λ own. it.arms (first ∷ own) ∙ pair_arms first index index h.1 own;
      }
    ]

-- a find ends with its tell, before which its task has in hand what it took
pub record FindEnds (a : Access) (index word : ℕ) (outcome : Outcome) (find : List Record) : Type 0 where
  pub front : List Record
  pub tell : Record
  pub split : find ≡ front ++ tell ∷ []
  pub step : tell.step ≡ Tell index (ticket_number a)
  pub hand : (own : List Record) → in_hand (back front own) ≡ Some (record { index = index; part = Taken word })
  pub pair : Halves
  pub heard_it : (own : List Record) → heard index (back front own) ≡ Some pair
  pub told : outcome ≡ outcomes.Told (record { setter = pair.setter; finder = ticket_number a })

module _ (s : checks.Setting) (a : Access) (index word : ℕ) where
  takes_hand : (first : Record) → first.step ≡ TryConsume index word → first.answer ≡ answers.Flag true → (own : List Record)
      → in_hand (first ∷ own) ≡ Some (record { index = index; part = Taken word })
  takes_hand first is answer own =
      subst (λ (st : Step). in_hand (record first { step = st } ∷ own) ≡ Some (record { index = index; part = Taken word })) (sym is)
      (subst (λ (an : Answer). in_hand (record { task = first.task; step = TryConsume index word; answer = an } ∷ own)
      ≡ Some (record { index = index; part = Taken word })) (sym answer) refl)

  record Tried (looked tried : List Record) : Type 0 where
    made : Record
    split : looked ≡ made ∷ tried
    hand : (own : List Record) → in_hand (made ∷ own) ≡ Some (record { index = index; part = Taken word })

  tried_at : (looked tried : List Record) → MakesFlag s.task (TryConsume index word) (λ taken later. (taken ≡ true) × (later ≡ tried)) looked → Tried looked tried
  tried_at [] tried h = absurd h
  tried_at (first ∷ later) tried h =
      let got = on_flag first.answer _ h.2 in record {
        made = first;
        split = ap (λ (r : List Record). first ∷ r) got.2.1;
        hand = takes_hand first h.1 (got.1 ∙ ap answers.Flag got.2.0);
      }

  told_at : (setter : ℕ) (later : List Record) (outcome : Outcome) → TellsTo s a index setter later outcome []
      → (tell : Record) × (later ≡ tell ∷ []) × (tell.step ≡ Tell index (ticket_number a))
      × (outcome ≡ outcomes.Told (record { setter = setter; finder = ticket_number a }))
  told_at setter [] outcome h = absurd h
  told_at setter (first ∷ more) outcome h = (first, ap (λ (r : List Record). first ∷ r) (sym h.2.1.1), h.1, h.2.1.0)

  pub find_ends : (outcome : Outcome) (find : List Record) → IsFind s a index word outcome find → FindEnds a index word outcome find
  find_ends outcome find it =
      let look = looks_up s a (look_order (slot_of s a)) (Some (record { index = index; word = word })) find it.looked it.looks in
      let tried = tried_at it.looked it.tried it.takes in
      let both : Halves = it.tells.0 in
      let wait = waits setter_half s.task index it.tried both it.tells.1 it.tells.2 in
      let tell = told_at both.setter it.tells.1 outcome it.tells.3 in
      let parted : find ≡ look.0 ++ (tried.made ∷ (wait.pairs ++ tell.0 ∷ [])) =
      look.1 ∙ ap (λ (r : List Record). look.0 ++ r)
      (tried.split ∙ ap (λ (r : List Record). tried.made ∷ r) (wait.split ∙ ap (λ (r : List Record). wait.pairs ++ r) tell.1)) in
      record {
        front = look.0 ++ tried.made ∷ wait.pairs;
        tell = tell.0;
        split = parted ∙ sym (append_assoc look.0 (tried.made ∷ wait.pairs) (tell.0 ∷ []));
        step = tell.2;
        hand = λ own.
            ap (λ (r : List Record). in_hand r) (back_both look.0 (tried.made ∷ wait.pairs) own)
            ∙ (wait.keeps (tried.made ∷ back look.0 own) ∙ tried.hand (back look.0 own));
        pair = both;
        heard_it = λ own. ap (λ (r : List Record). heard index r) (back_both look.0 (tried.made ∷ wait.pairs) own)
            ∙ wait.hears (tried.made ∷ back look.0 own);
        told = tell.3;
      }

taken_word : Option Part → ℕ
taken_word (Some (Taken word)) = word
taken_word part = 0

taken_same : (w v : ℕ) → Some (Taken w) ≡ Some (Taken v) → w ≡ v
unfolding taken_word
taken_same w v is = ap taken_word is

-- a tell leaves what is known of the arming that it is told of
met_later : (index number setter finder word at ticket : ℕ) (latest : Record) (earlier : List Record) → latest.step ≡ Tell at ticket
    → IsMet earlier index number setter finder word → IsMet (latest ∷ earlier) index number setter finder word
met_later index number setter finder word at ticket latest earlier is it =
    subst (λ (st : Step). IsMet (record latest { step = st } ∷ earlier) index number setter finder word) (sym is)
    (record {
      last = it.last;
      armed = it.armed;
      made = it.made;
      arming = inr it.arming;
      found = it.found;
      taken = it.taken;
      taking = inr it.taking;
      two = it.two;
    })

same_parts : (x y : Record) (p q : List Record) → x ∷ p ≡ y ∷ q → (x ≡ y) × (p ≡ q)
same_parts x y p q is = (cc, cc)

module _ (run : Run) where
  -- how the records by a telling end
  pub record Ends (came : OutcomeAt) (index word : ℕ) (latest : Record) (earlier : List Record) : Type 0 where
    pub step : latest.step ≡ Tell index (ticket_number came.access)
    pub hand : in_hand (records_of came.access.task earlier) ≡ Some (record { index = index; part = Taken word })
    pub pair : Halves
    pub hears : heard index (records_of came.access.task earlier) ≡ Some pair
    pub told : came.outcome ≡ outcomes.Told (record { setter = pair.setter; finder = ticket_number came.access })

  pub ends_so : (came : OutcomeAt) (index word : ℕ) (find before : List Record) (latest : Record) (earlier : List Record)
      → IsFind (checks_of (task_setting run came.access.task)) came.access index word came.outcome find → latest.task ≡ came.access.task
      → records_of came.access.task (latest ∷ earlier) ≡ reverse find ++ before → Ends came index word latest earlier
  ends_so came index word find before latest earlier is mine own_is =
      let task : ℕ = came.access.task in
      let ends = find_ends (checks_of (task_setting run task)) came.access index word came.outcome find is in
      let own : latest ∷ records_of task earlier ≡ ends.tell ∷ back ends.front before =
      sym (own_latest task latest earlier mine)
      ∙ (own_is ∙ (sym (back_is find before)
      ∙ (ap (λ (r : List Record). back r before) ends.split ∙ back_both ends.front (ends.tell ∷ []) before))) in
      let same = same_parts latest ends.tell (records_of task earlier) (back ends.front before) own in
      record {
        step = ap (λ (r : Record). r.step) same.0 ∙ ends.step;
        hand = ap (λ (r : List Record). in_hand r) same.1 ∙ ends.hand before;
        pair = ends.pair;
        hears = ap (λ (r : List Record). heard index r) same.1 ∙ ends.heard_it before;
        told = ends.told;
      }

module _ (run : Run) (records : List Record) (list : Execution run records) (each : EachHearsTheOther records) where
  of_find : (came : OutcomeAt) → OfFind run records list came → IsOfFind list came
  of_find came it =
      let a : Access = came.access in
      let task : ℕ = a.task in
      let index : ℕ = it.is.0 in
      let word : ℕ = it.is.1 in
      let ends = ends_so run came index word it.part it.before it.latest it.earlier it.is.2 it.mine it.own in
      let met_then : HearsTheOther task (Tell index (ticket_number a)) it.earlier =
      subst (λ (st : Step). HearsTheOther task st it.earlier) ends.step
      (subst (λ (t : ℕ). HearsTheOther t it.latest.step it.earlier) it.mine
      (hears_at it.later it.latest it.earlier (subst EachHearsTheOther it.split each))) in
      let taken : met_then.0 ≡ word =
      taken_same met_then.0 word (sym met_then.2 ∙ here_part index (in_hand (records_of task it.earlier)) (Taken word) ends.hand) in
      let met : IsMet it.earlier index met_then.4.number met_then.4.setter task word =
      subst (λ (w : ℕ). IsMet it.earlier index met_then.4.number met_then.4.setter task w) taken met_then.4.met in
      record {
        later = it.later;
        by_then = it.latest ∷ it.earlier;
        split = it.split;
        at = ap (λ (n : ℕ). suc n) it.at;
        mine = λ first others same_list. let one : it.latest ≡ first = cc in ap (λ (r : Record). r.task) (sym one) ∙ it.mine;
        access_is = it.access_is;
        find = it.part;
        before = it.before;
        own = it.own;
        goes = it.goes;
        index = index;
        number = met_then.4.number;
        setter = met_then.4.setter;
        word = word;
        is_find = it.is.2;
        met = met_later index met_then.4.number met_then.4.setter task word index (ticket_number a) it.latest it.earlier ends.step met;
      }

  pub all_on_finds : All (IfTelling list) (outcomes_of list)
  all_on_finds = λ place other below. λ told_so. of_find _ (all_of_finds run records list place other below told_so)
