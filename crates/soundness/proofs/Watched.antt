-- The verdicts of checks fall on watches of accesses in progress, and tellings on finds.
use Rattle.std.proofs.Common.{◌≡◌, ◌∙◌, ◌+◌, ◌∷◌, ◌++◌, [], ℕ, Bool, true, false, IsNone, IsTrue, List, Option, None, Some, MatchBool, MatchOption}
use Rattle.std.proofs.Common.{ap, append_assoc, refl, subst, sym}
use Rattle.std.proofs.lemmas.List.{append-nil}
use Rattle.access_types.specs.Access.{Access}
use Rattle.access_types.specs.Ticket.{ticket_number}
use Rattle.access_types.specs.declared.history.Happening.{Happening}
use Rattle.access_run.proofs.PartFronts.{found_watchpoint, looks_up, sets_up}
use Rattle.setup_access.specs.Check as cases
use Rattle.setup_access.specs.Check.{Check, ChecksLast, ChecksOnce, Close, Ends, Fallen, GoesOn, NoneFound, Pass, Passes, Rechecks, fallen_of, left_to_check}
use Rattle.setup_access.specs.Find.{Finds}
use Rattle.setup_access.specs.Found.{FoundWatchpoint, Takes, FinderTells}
use Rattle.setup_access.specs.Hits.{Hits}
use Rattle.setup_access.specs.OwnAccesses.{AreOwn, IsOwn}
use Rattle.setup_access.specs.Records.{MakesDone, MakesFlag, OnFlag}
use Rattle.setup_access.specs.Setting as checks
use Rattle.setup_access.specs.Setting.{look_order, slot_of}
use Rattle.setup_access.specs.Setup.{Arms, Judged, Judges, SetsUp, WatchesAt}
use Rattle.setup_access.specs.Verdicts as verdicts
use Rattle.setup_access.specs.Verdicts.{HitOutcome, UntouchedOutcome}
use Rattle.setup_access.specs.declared.begun.Begun.{Begun}
use Rattle.setup_access.specs.declared.outcome.Outcome.{Outcome}
use Rattle.setup_access.specs.declared.outcome.Outcome.TheVariants as outcomes
use Rattle.setup_access.specs.declared.outcome.Watchpoint.{Watchpoint}
use Rattle.setup_access.proofs.DisciplineLemmas.{on_flag, on_word}
use Rattle.slot_table.specs.declared.records.Record.{Record}
use Rattle.slot.specs.Pair.{Halves}
use Rattle.slot_table.specs.declared.step.Answer.{Answer}
use Rattle.slot_table.specs.declared.step.Answer.TheVariants as answers
use Rattle.slot_table.specs.declared.step.Step.{Step}
use Rattle.slot_table.specs.declared.step.Step.TheVariants.{Tell, TryConsume}
use Rattle.watch_word.specs.Word.{word_of}
use Rattle.program_order.specs.Standing.{Point, Setting, checks_of}
use Rattle.executions.proofs.execution.Intervals.{IsOpen}
use Rattle.soundness.specs.Finds.{IsFind, is_telling}
use Rattle.soundness.specs.Watches.{is_verdict}
use Rattle.soundness.proofs.Makers as makers
use Rattle.soundness.proofs.Makers.{FitAt, finds_hit}
use Rattle.soundness.proofs.Opens.{AllOpen}
use Rattle.setup_access.proofs.QuietSteps.{IsOfCheck}
use Rattle.soundness.proofs.PointsTell as tells
use Rattle.soundness.proofs.PointsTell.{MadeFor, silent_check, stays}

pick : (b : Bool) (Yes No Goal : Type 0) → MatchBool b Yes No → (Yes → Goal) → (No → Goal) → Goal
pick true Yes No Goal given at_true at_false = at_true given
pick false Yes No Goal given at_true at_false = at_false given

module _ (s : checks.Setting) (a : Access) where
  -- what a watch comes to is no telling
  untouched_tells : (values : Option (ℕ × ℕ)) (outcome : Outcome) → UntouchedOutcome s a values outcome → is_telling outcome ≡ false
  untouched_tells values outcome (verdicts.unknown change old new c v is o) = ap is_telling o
  untouched_tells values outcome (verdicts.quiet change c v o) = ap is_telling o

  hit_tells : (values : Option (ℕ × ℕ)) (both : Halves) (outcome : Outcome) → HitOutcome s a values both outcome → is_telling outcome ≡ false
  hit_tells values both outcome (verdicts.encoding apart o) = ap is_telling o
  hit_tells values both outcome (verdicts.reported change shares c v o) = ap is_telling o
  hit_tells values both outcome (verdicts.dropped change reason shares c v o) = ap is_telling o

  judges_tells : (index : ℕ) (values : Option (ℕ × ℕ)) (records : List Record) (outcome : Outcome) (rest : List Record)
      → Judges s a index values records outcome rest → is_telling outcome ≡ false
  judges_tells index values [] outcome rest h = absurd h
  judges_tells index values (first ∷ later) outcome rest h =
      let got = on_flag first.answer _ h.2 in
      pick got.0 _ _ _ got.2 (λ quiet. untouched_tells values outcome quiet.0) (λ hit. hit_tells values hit.0 outcome hit.2)

  arms_tells : (index : ℕ) (records : List Record) (outcome : Outcome) (rest : List Record) → Arms s a index records outcome rest
      → is_telling outcome ≡ false
  arms_tells index [] outcome rest h = absurd h
  arms_tells index (first ∷ later) outcome rest h = judges_tells index _ _ outcome rest h.2.1.6

  watches_tells : (place : Option ℕ) (records : List Record) (judged : Judged) (rest : List Record) → WatchesAt s a place records (Some judged) rest
      → is_telling judged.outcome ≡ false
  watches_tells None records judged rest h = absurd (let none : Some judged ≡ None = h.0 in cc)
  watches_tells (Some index) records judged rest h =
      let it : Some judged ≡ Some (record { index = index; outcome = h.0 }) = h.2 in
      let same : judged ≡ record { index = index; outcome = h.0 } = cc in
      ap (λ (j : Judged). is_telling j.outcome) same ∙ arms_tells index records h.0 rest h.1

  -- what takes and tells
  record TakesAt (found : Watchpoint) (records : List Record) (outcome : Outcome) : Type 0 where
    tried : List Record
    takes : MakesFlag s.task (TryConsume found.index found.word) (λ taken later. (taken ≡ true) × (later ≡ tried)) records
    tells : FinderTells s a found.index tried outcome []

  takes_at : (found : Watchpoint) (records : List Record) (outcome : Outcome) → IsTrue (is_telling outcome) → Takes s a found records outcome []
      → TakesAt found records outcome
  takes_at found [] outcome told_so h = absurd h
  takes_at found (first ∷ later) outcome told_so h =
      let got = on_flag first.answer _ h.2 in by_flag got.0 got.1 got.2
    where
      by_flag : (taken : Bool) → first.answer ≡ answers.Flag taken → MatchBool taken (FinderTells s a found.index later outcome []) ((outcome ≡ outcomes.Lost) × ([] ≡ later))
          → TakesAt found (first ∷ later) outcome
      by_flag true is told = record {
        tried = later;
        takes = (h.0, h.1, subst (λ (an : Answer). OnFlag an (λ taken. (taken ≡ true) × (later ≡ later))) (sym is) (refl, refl));
        tells = told;
      }
      by_flag false is lost = absurd (let both : false ≡ true = sym (ap is_telling lost.0) ∙ told_so in cc)

  by_mask : (mask : Option ℕ) (found : Watchpoint) (records : List Record) (outcome : Outcome) → IsTrue (is_telling outcome)
      → MatchOption mask (Takes s a found records outcome []) (λ m. (outcome ≡ outcomes.Nothing) × ([] ≡ records))
      → IsNone mask × TakesAt found records outcome
  by_mask None found records outcome told_so h = (refl, takes_at found records outcome told_so h)
  by_mask (Some m) found records outcome told_so h = absurd (let both : false ≡ true = sym (ap is_telling h.0) ∙ told_so in cc)

  -- a find ends where it ends, whatever follows
  record FindFirst (found : Watchpoint) (records : List Record) (outcome : Outcome) (rest : List Record) : Type 0 where
    part : List Record
    split : records ≡ part ++ rest
    is : IsFind s a found.index found.word outcome part

  find_first : (found : Watchpoint) (records later : List Record) (outcome : Outcome) (rest : List Record) → IsTrue (is_telling outcome)
      → Finds s a records (Some found) later → FoundWatchpoint s a found later outcome rest → FindFirst found records outcome rest
  find_first found records later outcome rest told_so looks takes =
      let look = looks_up s a (look_order (slot_of s a)) (Some found) records later looks in
      let take = found_watchpoint s a found outcome later rest takes in
      let alone : FoundWatchpoint s a found take.0 outcome [] =
      subst (λ r. FoundWatchpoint s a found r outcome []) (append-nil take.0) (take.2 []) in
      let it = by_mask a.mask found take.0 outcome told_so alone in
      record {
        part = look.0 ++ take.0;
        split = look.1 ∙ (ap (λ (r : List Record). look.0 ++ r) take.1 ∙ sym (append_assoc look.0 take.0 rest));
        is = record { unmasked = it.0; looked = take.0; tried = it.1.tried; looks = look.2 take.0; takes = it.1.takes; tells = it.1.tells };
      }

module _ (s : Setting) (did : List Happening) (points : List Point) where
  abbrev T : List Record → List Fallen → Type 0
  T records outs = tells.PointsTell s records did points outs

  -- a step of a check, which inserts and tries a word for an access in progress
  abbrev Fit : Step → Type 0
  Fit step = IsOfCheck step × MadeFor s did step

  still : (outs : List Fallen) (first : Record) (later : List Record) → Fit first.step → T later outs → T (first ∷ later) outs
  still outs first later fit so = silent_check s did points outs first later fit.0 fit.1 so

  -- one check of an access that is in progress
  module _ (a : Access) (own : IsOwn (checks_of s) a) (goes : IsOpen did a) (outs : List Fallen) where
    abbrev out : Pass → List Fallen
    out pass = fallen_of a pass ∷ outs

    -- what is no verdict and no telling
    other : (pass : Pass) (outcome : Outcome) (records : List Record) → pass.outcome ≡ outcome → is_verdict outcome ≡ false → is_telling outcome ≡ false
        → T records outs → T records (out pass)
    other pass outcome records is none untold so =
        tells.fell records did points outs (fallen_of a pass) (record {
          verdict = λ told_so. absurd (let both : false ≡ true = sym none ∙ (ap is_verdict (sym is) ∙ told_so) in cc);
          telling = λ told_so. absurd (let both : false ≡ true = sym untold ∙ (ap is_telling (sym is) ∙ told_so) in cc);
        }) so

    at_index : (index : ℕ) → FitAt (λ r. T r outs) Fit (still outs) index (ticket_number a)
    at_index index = record { names = (tt, tt); consumes = (tt, tt); loads = (tt, tt); cells = λ cell. (tt, tt) }

    told_or_lost : (taken : Bool) (found : Watchpoint) (records rest : List Record) (outcome : Outcome)
        → MatchBool taken (FinderTells (checks_of s) a found.index records outcome rest) ((outcome ≡ outcomes.Lost) × (rest ≡ records)) → is_verdict outcome ≡ false
    told_or_lost true found records rest outcome h = ap is_verdict (told_is h.1 h.3)
      where
        told_is : (after : List Record) → MakesDone s.text.task (Tell found.index (ticket_number a)) (λ last.
            (outcome ≡ outcomes.Told (record { setter = h.0.setter; finder = ticket_number a })) × (rest ≡ last)) after
            → outcome ≡ outcomes.Told (record { setter = h.0.setter; finder = ticket_number a })
        told_is [] made_so = absurd made_so
        told_is (first ∷ more) made_so = made_so.2.1.0
    told_or_lost false found records rest outcome h = ap is_verdict h.0

    found_none : (mask : Option ℕ) (found : Watchpoint) (records rest : List Record) (outcome : Outcome)
        → MatchOption mask (Takes (checks_of s) a found records outcome rest) (λ m. (outcome ≡ outcomes.Nothing) × (rest ≡ records)) → is_verdict outcome ≡ false
    found_none None found [] rest outcome h = absurd h
    found_none None found (first ∷ records) rest outcome h = let got = on_flag first.answer _ h.2 in told_or_lost got.0 found records rest outcome got.2
    found_none (Some m) found records rest outcome h = ap is_verdict h.0

    -- a watchpoint that was set up, or for which no index was free
    sets : (judged : Option Judged) (records later : List Record) → SetsUp (checks_of s) a (word_of s.rules.layout a) records judged later
        → T later outs → T records outs
    sets judged records later up so =
        makers.sets_up (λ r. T r outs) Fit (still outs) (checks_of s) a (word_of s.rules.layout a) (λ index. (tt, (a, own, goes, refl))) at_index
        judged records later up so

    set_up : (asked : ℕ) (judged : Option Judged) (records later rest : List Record) (pass : Pass)
        → SetsUp (checks_of s) a (word_of s.rules.layout a) records judged later → Ends (checks_of s) asked judged later pass rest → T rest outs → T records (out pass)
    set_up asked None records later rest pass up left so =
        other pass outcomes.Capacity records (ap (λ (p : Pass). p.outcome) left.0) refl refl
        (sets None records later up (subst (λ r. T r outs) left.1 so))
    set_up asked (Some judged) records later rest pass up left so =
        let after : T later outs = makers.frees (λ r. T r outs) Fit (still outs) (checks_of s) judged.index (tt, tt) (tt, tt) later rest left.1 so in
        let all : T records outs = sets (Some judged) records later up after in
        let front = sets_up (checks_of s) a (word_of s.rules.layout a) (Some judged) records later up in
        let alone : SetsUp (checks_of s) a (word_of s.rules.layout a) front.0 (Some judged) [] =
        subst (λ r. SetsUp (checks_of s) a (word_of s.rules.layout a) r (Some judged) []) (append-nil front.0) (front.2 []) in
        let it : Pass = record { outcome = judged.outcome; later = later; settled = true; asked = asked } in
        subst (λ (p : Pass). T records (out p)) (sym left.0)
        (tells.fell records did points outs (fallen_of a it) (record {
          verdict = λ told_so. record {
            part = front.0;
            split = front.1;
            is = record { index = judged.index; sets_up = alone };
            own = own;
            goes = goes;
            stays = λ n last above. stays s n last later did points outs after above;
          };
          telling = λ told_so. absurd (let both : false ≡ true = sym (watches_tells (checks_of s) a up.0 up.1 judged later up.3) ∙ told_so in cc);
        }) all)

    none_found : (marked : Bool) (asked : ℕ) (records : List Record) (pass : Pass) (rest : List Record)
        → NoneFound (checks_of s) a marked asked records pass rest → T rest outs → T records (out pass)
    none_found marked asked records pass rest (cases.counts_as_marked m is r) so =
        subst (λ x. T x (out pass)) r (other pass outcomes.Nothing rest (ap (λ (p : Pass). p.outcome) is) refl refl so)
    none_found marked asked records pass rest (cases.skipped m n is r) so =
        subst (λ x. T x (out pass)) r (other pass outcomes.Nothing rest (ap (λ (p : Pass). p.outcome) is) refl refl so)
    none_found marked asked records pass rest (cases.unencodable m w n is r) so =
        subst (λ x. T x (out pass)) r (other pass outcomes.Unencodable rest (ap (λ (p : Pass). p.outcome) is) refl refl so)
    none_found marked asked records pass rest (cases.watched judged later m w encodable up left) so = set_up (asked + 1) judged records later rest pass up left so

    -- what was found is taken and told of, or it was lost, or nothing comes of it
    found_so : (found : Watchpoint) (asked : ℕ) (records later : List Record) (pass : Pass) (rest : List Record) → Finds (checks_of s) a records (Some found) later
        → (pass.settled ≡ true) × (pass.asked ≡ asked) × (pass.later ≡ rest) × FoundWatchpoint (checks_of s) a found later pass.outcome rest
        → T rest outs → T records (out pass)
    found_so found asked records later pass rest looks h so =
        let hits : Hits s.rules.layout a found.word = finds_hit (checks_of s) a (look_order (slot_of (checks_of s) a)) records found later looks in
        let after : T later outs = makers.masked (λ r. T r outs) Fit (still outs) a.mask (checks_of s) a found (tt, (a, own, goes, hits)) (tt, tt) (tt, tt)
        later pass.outcome outcomes.Nothing rest h.3 so in
        let all : T records outs = makers.looks_up (λ r. T r outs) Fit (still outs) (λ index. (tt, tt)) (checks_of s) a
        (look_order (slot_of (checks_of s) a)) records (Some found) later looks after in
        tells.fell records did points outs (fallen_of a pass) (record {
          verdict = λ told_so. absurd (let both : false ≡ true = sym (found_none a.mask found later rest pass.outcome h.3) ∙ told_so in cc);
          telling = λ told_so.
              let it = find_first (checks_of s) a found records later pass.outcome rest told_so looks h.3 in
              record {
                part = it.part;
                split = it.split ∙ ap (λ (r : List Record). it.part ++ r) (sym h.2);
                is = (found.index, found.word, it.is);
                own = own;
                goes = goes;
                stays = λ n last above. stays s n last pass.later did points outs (subst (λ r. T r outs) (sym h.2) so) above;
              };
        }) all

    by_found : (marked : Bool) (asked : ℕ) (found : Option Watchpoint) (records later : List Record) (pass : Pass) (rest : List Record)
        → Finds (checks_of s) a records found later → GoesOn (checks_of s) a marked asked found later pass rest → T rest outs → T records (out pass)
    by_found marked asked None records later pass rest looks h so =
        makers.looks_up (λ r. T r (out pass)) Fit (still (out pass)) (λ index. (tt, tt)) (checks_of s) a (look_order (slot_of (checks_of s) a)) records None later looks
        (none_found marked asked later pass rest h so)
    by_found marked asked (Some found) records later pass rest looks h so = found_so found asked records later pass rest looks h so

    pub once : (marked : Bool) (asked : ℕ) (records : List Record) (pass : Pass) (rest : List Record)
        → ChecksOnce (checks_of s) a marked asked records pass rest → T rest outs → T records (out pass)
    once marked asked records pass rest h so = by_found marked asked h.0 records h.1 pass rest h.2 h.3 so

  -- one check of each of these scoped assertions
  pub rechecks : (scopes : List Begun) → AreOwn (checks_of s) scopes → AllOpen did scopes → (asked : ℕ) (records : List Record) (passes : Passes) (rest : List Record)
      → Rechecks (checks_of s) scopes asked records passes rest → (outs : List Fallen) → T rest outs → T records (passes.outcomes ++ outs)
  rechecks [] own goes asked records passes rest h outs so =
      subst (λ (p : Passes). T records (p.outcomes ++ outs)) (sym h.0) (subst (λ r. T r outs) h.1 so)
  rechecks (scope ∷ scopes) own goes asked records passes rest h outs so = pick scope.silenced _ _ _ h
      (λ skips. rechecks scopes own.1 goes.1 asked records passes rest skips outs so)
      (λ now.
      let after : T now.1 (now.2 ++ outs) =
      rechecks scopes own.1 goes.1 now.0.asked now.1 (record { outcomes = now.2; asked = passes.asked }) rest now.4 outs so in
      subst (λ (o : List Fallen). T records (o ++ outs)) (sym now.5)
      (once scope.access own.0 goes.0 (now.2 ++ outs) scope.marked asked records now.0 now.1 now.3 after))

  left_own : (settled : Bool) (scopes : List Begun) → AreOwn (checks_of s) scopes → AreOwn (checks_of s) (left_to_check settled scopes)
  left_own true scopes own = tt
  left_own false scopes own = own

  left_open : (settled : Bool) (scopes : List Begun) → AllOpen did scopes → AllOpen did (left_to_check settled scopes)
  left_open true scopes goes = tt
  left_open false scopes goes = goes

  -- the check of an access, after its begin
  pub checked : (outs : List Fallen) (scopes : List Begun) (begun : Begun) (asked : ℕ) (first : Record) (later : List Record) (passes : Passes) (rest : List Record)
      → IsOpen did begun.access → AllOpen did scopes → Check (checks_of s) scopes begun asked (first ∷ later) passes rest → T rest outs → T later (passes.outcomes ++ outs)
  checked outs scopes begun asked first later passes rest goes all h so =
      let got = on_word first.answer _ h.2.2 in
      pick begun.silenced _ _ _ got.2
      (λ silenced. subst (λ (p : Passes). T later (p.outcomes ++ outs)) (sym silenced.0) (subst (λ r. T r outs) silenced.1 so))
      (λ now.
      let after : T now.1 (now.2 ++ outs) =
      rechecks (left_to_check now.0.settled scopes) (left_own now.0.settled scopes h.1) (left_open now.0.settled scopes all) now.0.asked now.1
      (record { outcomes = now.2; asked = passes.asked }) rest now.4 outs so in
      subst (λ (o : List Fallen). T later (o ++ outs)) (sym now.5)
      (once begun.access h.0 goes (now.2 ++ outs) begun.marked asked later now.0 now.1 now.3 after))
