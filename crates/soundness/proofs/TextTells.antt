-- What all records of a text tell.
use Rattle.std.proofs.Common.{◌≡◌, ◌||◌, ◌∙◌, ◌∷◌, ◌++◌, [], inl, inr, ℕ, Bool, true, false, IsTrue, List, Option, None, Some, MatchBool, ap, append_assoc, drop, length, refl, replicate, subst, sym}
use Rattle.std.proofs.lemmas.List.{append-nil}
use Rattle.access_types.specs.Access as access
use Rattle.access_types.specs.declared.history.Happening.{Happening}
use Rattle.access_types.specs.declared.history.Happening.TheVariants as happenings
use Rattle.litmus_semantics.specs.Task as meaning
use Rattle.litmus_semantics.specs.Task.{has_lock}
use Rattle.litmus_syntax.specs.Tree.{Block}
use Rattle.access_run.specs.memory_operation.Effects.{moments_of, read_moments, write_moments}
use Rattle.access_run.specs.memory_operation.Locks.{TakesLock}
use Rattle.access_run.specs.memory_operation.Operations.{Operates}
use Rattle.access_run.specs.memory_operation.Values.{sum_of}
use Rattle.access_run.specs.declared.memory_operation.effect.Effect.{Effect}
use Rattle.access_run.specs.declared.memory_operation.operation.Change.TheVariants as changes
use Rattle.access_run.specs.declared.memory_operation.operation.Operation.{Operation}
use Rattle.access_run.specs.declared.memory_operation.operation.Operation.TheVariants as operations
use Rattle.setup_access.specs.Records.{MakesDone}
use Rattle.setup_access.specs.Values.{value_in}
use Rattle.setup_access.specs.Check.{Check, Fallen, Passes}
use Rattle.setup_access.specs.declared.begun.Begun.{Begun}
use Rattle.setup_access.proofs.DisciplineLemmas.{on_flag, on_word}
use Rattle.slot_table.specs.declared.records.Record.{Record}
use Rattle.slot_table.specs.declared.step.Answer.{Answer}
use Rattle.slot_table.specs.declared.step.Answer.TheVariants as answers
use Rattle.slot_table.specs.declared.step.Step.{Step}
use Rattle.slot_table.specs.declared.step.Step.TheVariants.{CellLoad, LockStore, LockTry}
use Rattle.program_order.specs.Access.{Makes, operated}
use Rattle.program_order.specs.Standing.{IsLockAt, Point, Setting, Standing, checks_of, coming, counting, doing, lock_number}
use Rattle.program_order.specs.WrittenOrder.{ClosesScope, OpensScope, SpellsAll, at_first}
use Rattle.program_order.proofs.AccessLemmas.{access_does, counting_progress, makes_did}
use Rattle.program_order.proofs.Induction.{Kept, by_block}
use Rattle.program_order.proofs.ScopesLemmas.{counting_scopes, operated_scopes}
use Rattle.program_order.proofs.WayLemmas.{Begins}
use Rattle.executions.proofs.execution.Intervals.{IsOpen, IsPaired, NoneEnds, none_of_effect, none_of_marks, paired_access, paired_both, paired_none}
use Rattle.executions.proofs.execution.TaskFacts.{counting_outcomes}
use Rattle.soundness.specs.Events.{AreMarks, IsEvent, ReadsAtMost}
use Rattle.soundness.proofs.Opens.{AllOpen, all_later, all_with, opens_now}
use Rattle.soundness.proofs.PointsTell.{NoWatch, PointsTell, begun_part, comes_at, counting_way, ended_part, made_anyway, makes_changes, marks_of_one, only_writes, read_of, read_once, writes_once}
use Rattle.soundness.proofs.Watched.{checked, rechecks}
use Rattle.soundness.proofs.PointsTell as tells

reads_at : (s : Setting) (before : List Happening) (first : Record) (cell : ℕ) (did : List Happening) → first.step ≡ CellLoad cell
    → ReadsAtMost s cell first.answer did → IsEvent s before first.step first.answer did
reads_at s before first cell did is reads = subst (λ (st : Step). IsEvent s before st first.answer did) (sym is) reads

module _ (s : Setting) where
  -- what an operation tells
  record Operated (before : Standing) (records : List Record) (after : Standing) (rest : List Record) : Type 0 where
    points : List Point
    adds : after.way ≡ before.way ++ points
    tells : (more : List Point) (outs : List Fallen) → PointsTell s rest after.progress.did more outs → PointsTell s records before.progress.did (points ++ more) outs

  operated_part : (a : access.Access) (operation : Option Operation) (before : Standing) (records : List Record) (effect : Effect) (rest : List Record)
      → Operates (checks_of s) a operation records effect rest → Operated before records (operated a operation before records effect rest) rest
  operated_part a None before records effect rest h = record {
    points = [];
    adds = sym (append-nil before.way);
    tells = λ more outs goes. subst (λ (r : List Record). PointsTell s r before.progress.did more outs) h.1 goes;
  }
  operated_part a (Some operations.Load) before [] effect rest h = absurd h.2
  operated_part a (Some operations.Load) before (first ∷ later) effect rest h =
      let got = on_word first.answer _ h.2.2 in
      let point : Point = comes_at before rest (meaning.doing before.progress (moments_of a effect)) in
      let reads : ReadsAtMost s h.0.cell first.answer (moments_of a effect) =
      subst (λ (e : Effect). ReadsAtMost s h.0.cell first.answer (moments_of a e)) (sym got.2.0) (read_once s a h.0 h.1 first.answer got.0 got.1) in
      record {
        points = point ∷ [];
        adds = refl;
        tells = λ more outs goes. tells.event first later before.progress.did (moments_of a effect) point more outs (ap (λ (r : List Record). length r) got.2.1) refl
            (reads_at s before.progress.did first h.0.cell (moments_of a effect) h.2.1 reads) (subst NoWatch (sym h.2.1) tt)
            (subst (λ (r : List Record). PointsTell s r point.progress.did more outs) got.2.1 goes);
      }
  operated_part a (Some (operations.Add amount)) before [] effect rest h = absurd h.2
  operated_part a (Some (operations.Add amount)) before (first ∷ later) effect rest h =
      let got = on_word first.answer _ h.2.2 in
      let old : ℕ = value_in a h.0 got.0 in
      let read : Standing = doing before later (read_moments a effect.read) in
      let one : Point = comes_at before later (meaning.doing before.progress (read_moments a effect.read)) in
      let two : Point = comes_at read rest (meaning.doing read.progress (write_moments a effect.written)) in
      let reads : ReadsAtMost s h.0.cell first.answer (read_moments a effect.read) =
      subst (λ (e : Effect). ReadsAtMost s h.0.cell first.answer (read_moments a e.read)) (sym got.2.2)
      (inr (read_of s a h.0 h.1 first.answer got.0 got.1)) in
      let sum : ℕ = sum_of a.size old amount in
      record {
        points = one ∷ two ∷ [];
        adds = append_assoc before.way (one ∷ []) (two ∷ []);
        tells = λ more outs goes. tells.event first later before.progress.did (read_moments a effect.read) one (two ∷ more) outs refl refl
            (reads_at s before.progress.did first h.0.cell (read_moments a effect.read) h.2.1 reads) (subst NoWatch (sym h.2.1) tt)
            (makes_changes s a h.0 (λ (e : Effect). write_moments a e.written) one.progress.did two more outs s.text.task (changes.Write sum) got.2.0 rest
            (λ answer word answered. inl refl) (only_writes s a h.0 h.1 sum) refl
            (ap (λ (e : Effect). one.progress.did ++ write_moments a e.written) got.2.2) goes later got.2.1);
      }
  operated_part a (Some (operations.Change change)) before records effect rest h =
      let point : Point = comes_at before rest (meaning.doing before.progress (moments_of a effect)) in
      record {
        points = point ∷ [];
        adds = refl;
        tells =
            λ more outs goes. makes_changes s a h.0 (moments_of a) before.progress.did point more outs s.text.task change effect rest (read_once s a h.0 h.1)
            (writes_once s a h.0 h.1 change) refl refl goes records h.2;
      }

  takes_lock : (variable : ℕ) (did : List Happening) (point : Point) (more : List Point) (outs : List Fallen) (records rest : List Record)
      → IsLockAt s variable → TakesLock s.text.task (lock_number s variable) records rest
      → point.to_come ≡ length rest → point.progress.did ≡ did ++ happenings.Lock variable ∷ [] → PointsTell s rest point.progress.did more outs
      → PointsTell s records did (point ∷ more) outs
  takes_lock variable did point more outs [] rest is_lock h here says goes = absurd h
  takes_lock variable did point more outs (first ∷ later) rest is_lock h here says goes =
      let lock : ℕ = lock_number s variable in
      let got = on_flag first.answer _ h.2 in
      by_answer got.0 (λ (more_did : List Happening) (event : IsEvent s did (LockTry lock s.text.task) (answers.Flag got.0) more_did).
      subst (λ (st : Step). IsEvent s did st first.answer more_did) (sym h.1)
      (subst (λ (an : Answer). IsEvent s did (LockTry lock s.text.task) an more_did) (sym got.1) event))
      (subst NoWatch (sym h.1) tt) got.2 (λ again. takes_lock variable did point more outs later rest is_lock again here says goes)
    where
      by_answer : (was_free : Bool)
          → ((more_did : List Happening) → IsEvent s did (LockTry (lock_number s variable) s.text.task) (answers.Flag was_free) more_did
          → IsEvent s did first.step first.answer more_did)
          → NoWatch first.step → MatchBool was_free (rest ≡ later) (TakesLock s.text.task (lock_number s variable) later rest)
          → (TakesLock s.text.task (lock_number s variable) later rest → PointsTell s later did (point ∷ more) outs)
          → PointsTell s (first ∷ later) did (point ∷ more) outs
      by_answer true event_of none taken again =
          tells.event first later did (happenings.Lock variable ∷ []) point more outs (here ∙ ap (λ (r : List Record). length r) taken) says
          (event_of (happenings.Lock variable ∷ []) (variable, refl, is_lock, refl, refl)) none
          (subst (λ (r : List Record). PointsTell s r point.progress.did more outs) taken goes)
      by_answer false event_of none refused again =
          tells.silent first later did (point ∷ more) outs (event_of [] refl) (made_anyway s did first.step none) (again refused)

  frees_lock : (variable : ℕ) (did : List Happening) (point : Point) (more : List Point) (outs : List Fallen) (records rest : List Record)
      → IsTrue (has_lock variable did) → MakesDone s.text.task (LockStore (lock_number s variable)) (λ later. rest ≡ later) records
      → point.to_come ≡ length rest → point.progress.did ≡ did ++ happenings.Unlock variable ∷ [] → PointsTell s rest point.progress.did more outs
      → PointsTell s records did (point ∷ more) outs
  frees_lock variable did point more outs [] rest has h here says goes = absurd h
  frees_lock variable did point more outs (first ∷ later) rest has h here says goes =
      tells.event first later did (happenings.Unlock variable ∷ []) point more outs (here ∙ ap (λ (r : List Record). length r) h.2.1) says
      (subst (λ (st : Step). IsEvent s did st first.answer (happenings.Unlock variable ∷ [])) (sym h.1) (variable, has, refl, refl)) (subst NoWatch (sym h.1) tt)
      (subst (λ (r : List Record). PointsTell s r point.progress.did more outs) h.2.1 goes)

-- what a task does in all, by which each access begins once
module _ (s : Setting) (end : List Happening)
    (once : (a : access.Access) (p q r t : List Happening) → end ≡ p ++ happenings.Begin a ∷ q → end ≡ r ++ happenings.Begin a ∷ t → p ≡ r) where
  -- where a part of a text stands in all of it
  pub record Within (before after : Standing) : Type 0 where
    pub ends : Begins after.progress.did end
    pub paired : IsPaired before.progress.did
    pub scopes : AllOpen before.progress.did before.scopes

  -- the outcomes that come of it, and what its points tell
  pub record Gives (before : Standing) (records : List Record) (after : Standing) (rest : List Record) (points : List Point) : Type 0 where
    pub new : List Fallen
    pub outcomes : after.outcomes ≡ before.outcomes ++ new
    pub tells : (more : List Point) (outs : List Fallen) → PointsTell s rest after.progress.did more outs
        → PointsTell s records before.progress.did (points ++ more) (new ++ outs)

  pub record Part (before : Standing) (records : List Record) (after : Standing) (rest : List Record) : Type 0 where
    pub begins : Begins before.progress.did after.progress.did
    pub paired : IsPaired begins.0
    pub scopes : after.scopes ≡ before.scopes
    pub points : List Point
    pub adds : after.way ≡ before.way ++ points
    pub gives : Within before after → Gives before records after rest points

  begins_on : (first middle all : List Happening) → Begins first middle → Begins middle all → Begins first all
  begins_on first middle all p q = (p.0 ++ q.0, q.1 ∙ (ap (λ (d : List Happening). d ++ q.0) p.1 ∙ append_assoc first p.0 q.0))

  -- in all that the task does, it does this after that
  after_that : (before after new : List Happening) → after ≡ before ++ new → (ends : Begins after end) → end ≡ (before ++ new) ++ ends.0
  after_that before after new is ends = ends.1 ∙ ap (λ (d : List Happening). d ++ ends.0) is

  still_open : (before after : Standing) (new : List Happening) → after.progress.did ≡ before.progress.did ++ new → IsPaired new → Begins after.progress.did end
      → (scopes : List Begun) → AllOpen before.progress.did scopes → AllOpen after.progress.did scopes
  still_open before after new is paired ends scopes goes =
      subst (λ (d : List Happening). AllOpen d scopes) (sym is)
      (all_later end once scopes before.progress.did new ends.0 goes paired (after_that before.progress.did after.progress.did new is ends))

  both_given : (before between after : Standing) (records later rest : List Record) (first second : List Point) → Gives before records between later first
      → Gives between later after rest second → Gives before records after rest (first ++ second)
  both_given before between after records later rest first second one two = record {
    new = one.new ++ two.new;
    outcomes = two.outcomes ∙ (ap (λ (o : List Fallen). o ++ two.new) one.outcomes ∙ append_assoc before.outcomes one.new two.new);
    tells = λ more outs goes. subst (λ (l : List Point). PointsTell s records before.progress.did l ((one.new ++ two.new) ++ outs)) (sym (append_assoc first second more))
        (subst (λ (o : List Fallen). PointsTell s records before.progress.did (first ++ (second ++ more)) o) (sym (append_assoc one.new two.new outs))
        (one.tells (second ++ more) (two.new ++ outs) (two.tells more outs goes)));
  }

  both : (before between after : Standing) (records later rest : List Record) → Part before records between later → Part between later after rest
      → Part before records after rest
  unfolding begins_on
  both before between after records later rest p q = record {
    begins = begins_on before.progress.did between.progress.did after.progress.did p.begins q.begins;
    paired = paired_both p.begins.0 q.begins.0 p.paired q.paired;
    scopes = q.scopes ∙ p.scopes;
    points = p.points ++ q.points;
    adds = q.adds ∙ (ap (λ (l : List Point). l ++ q.points) p.adds ∙ append_assoc before.way p.points q.points);
    gives = λ w.
        let middle : Begins between.progress.did end = begins_on between.progress.did after.progress.did end q.begins w.ends in
        both_given before between after records later rest p.points q.points
        (p.gives (record { ends = middle; paired = w.paired; scopes = w.scopes }))
        (q.gives (record {
          ends = w.ends;
          paired = subst (λ (d : List Happening). IsPaired d) (sym p.begins.1) (paired_both before.progress.did p.begins.0 w.paired p.paired);
          scopes = subst (λ (l : List Begun). AllOpen between.progress.did l) (sym p.scopes)
              (still_open before between p.begins.0 p.begins.1 p.paired middle before.scopes w.scopes);
        }));
  }

  -- a part that does this without a check, at one point
  plainly : (before after : Standing) (records rest : List Record) (did : List Happening) (point : Point) → after.progress.did ≡ before.progress.did ++ did
      → NoneEnds did → after.scopes ≡ before.scopes → after.way ≡ before.way ++ point ∷ [] → after.outcomes ≡ before.outcomes
      → ((more : List Point) (outs : List Fallen) → PointsTell s rest after.progress.did more outs → PointsTell s records before.progress.did (point ∷ more) outs)
      → Part before records after rest
  plainly before after records rest did point is none scopes way same tells_so = record {
    begins = (did, is);
    paired = paired_none did none;
    scopes = scopes;
    points = point ∷ [];
    adds = way;
    gives = λ w. record { new = []; outcomes = same ∙ sym (append-nil before.outcomes); tells = tells_so };
  }

  -- marks, or nothing but what isn't seen
  computes : (before counted : Standing) (records : List Record) (progress : meaning.Progress) (did : List Happening) → counted.way ≡ before.way
      → counted.scopes ≡ before.scopes → counted.outcomes ≡ before.outcomes
      → progress.did ≡ before.progress.did ++ did → AreMarks did → NoneEnds did → Part before records (coming counted records progress) records
  computes before counted records progress did way scopes outcomes says are none =
      plainly before (coming counted records progress) records records did (comes_at counted records progress) says none scopes
      (ap (λ (l : List Point). l ++ comes_at counted records progress ∷ []) way) outcomes
      (λ more outs goes. tells.marks records before.progress.did did (comes_at counted records progress) more outs refl says are goes)

  -- the check of an access that begins at its first record
  begins_checked : (a : access.Access) (begun : Begun) (before : Standing) (records : List Record) (passes : Passes) (rest : List Record) → begun.access ≡ a
      → IsOpen (before.progress.did ++ happenings.Begin a ∷ []) a → AllOpen (before.progress.did ++ happenings.Begin a ∷ []) before.scopes
      → Check (checks_of s) before.scopes begun before.asked records passes rest → (more : List Point) (outs : List Fallen)
      → PointsTell s rest (before.progress.did ++ happenings.Begin a ∷ []) more outs
      → PointsTell s records before.progress.did (comes_at before (drop 1 records) (meaning.doing before.progress (happenings.Begin a ∷ [])) ∷ more)
      (passes.outcomes ++ outs)
  begins_checked a begun before [] passes rest same goes all h more outs told = absurd h.2
  begins_checked a begun before (first ∷ later) passes rest same goes all h more outs told =
      let did : List Happening = before.progress.did ++ happenings.Begin a ∷ [] in
      begun_part s a before first later h.2.1 more (passes.outcomes ++ outs)
      (checked s did more outs before.scopes begun before.asked first later passes rest
      (subst (λ (b : access.Access). IsOpen did b) (sym same) goes) all h told)

  opened_now : (a : access.Access) (before : Standing) (later : List Happening) → IsPaired before.progress.did → end ≡ before.progress.did ++ happenings.Begin a ∷ later
      → IsOpen (before.progress.did ++ happenings.Begin a ∷ []) a
  opened_now a before later paired is =
      opens_now end once a before.progress.did later paired (is ∙ sym (append_assoc before.progress.did (happenings.Begin a ∷ []) later))

  others_open : (a : access.Access) (before : Standing) (later : List Happening) → AllOpen before.progress.did before.scopes → end ≡ before.progress.did ++ happenings.Begin a ∷ later
      → AllOpen (before.progress.did ++ happenings.Begin a ∷ []) before.scopes
  others_open a before later goes is =
      all_later end once before.scopes before.progress.did (happenings.Begin a ∷ []) later goes (paired_none (happenings.Begin a ∷ []) (tt, tt))
      (is ∙ sym (append_assoc before.progress.did (happenings.Begin a ∷ []) later))

  makes_part : (a : access.Access) (operation : Option Operation) (effect : Effect) (before : Standing) (records : List Record) (after : Standing)
      (rest : List Record)
      → Makes s before a operation records effect after rest → Part before records after rest
  makes_part a operation effect before records after rest h =
      let began : Standing = doing before (drop 1 records) (happenings.Begin a ∷ []) in
      let first : Point = comes_at before (drop 1 records) (meaning.doing before.progress (happenings.Begin a ∷ [])) in
      let made : Standing = operated a operation began h.checked effect h.done in
      let last : Point = comes_at made rest (meaning.doing made.progress (happenings.End a ∷ [])) in
      let middle = operated_part s a operation began h.checked effect h.done h.operates in
      let did : after.progress.did ≡ made.progress.did ++ happenings.End a ∷ [] = ap (λ (st : Standing). st.progress.did) h.comes_to in
      let whole : after.progress.did ≡ before.progress.did ++ access_does a effect = makes_did s a operation effect before records after rest h in
      let inside : List Happening = moments_of a effect in
      record {
        begins = (access_does a effect, whole);
        paired = paired_access a inside (paired_none inside (none_of_effect a effect));
        scopes = ap (λ (st : Standing). st.scopes) h.comes_to ∙ operated_scopes a operation began h.checked effect h.done;
        points = first ∷ (middle.points ++ last ∷ []);
        adds = ap (λ (st : Standing). st.way) h.comes_to
            ∙ (ap (λ (l : List Point). l ++ last ∷ []) middle.adds
            ∙ (append_assoc began.way middle.points (last ∷ []) ∙ append_assoc before.way (first ∷ []) (middle.points ++ last ∷ [])));
        gives = λ w.
            let rest_of : List Happening = (inside ++ happenings.End a ∷ []) ++ w.ends.0 in
            let all : end ≡ before.progress.did ++ happenings.Begin a ∷ rest_of =
            after_that before.progress.did after.progress.did (access_does a effect) whole w.ends
            ∙ append_assoc before.progress.did (access_does a effect) w.ends.0 in
            record {
              new = h.passes.outcomes;
              outcomes = ap (λ (st : Standing). st.outcomes) h.comes_to;
              tells = λ more outs goes. begins_checked a h.begun before records h.passes h.checked h.begins.access
                  (opened_now a before rest_of w.paired all) (others_open a before rest_of w.scopes all) h.check ((middle.points ++ last ∷ []) ++ more) outs
                  (subst (λ (l : List Point). PointsTell s h.checked began.progress.did l outs) (sym (append_assoc middle.points (last ∷ []) more))
                  (middle.tells (last ∷ more) outs
                  (ended_part s a made made.progress.did h.done rest h.ends refl more outs (subst (λ (d : List Happening). PointsTell s rest d more outs) did goes))));
            };
      }

  scoped_part : (a : access.Access) (begun : Begun) (before opened closing after : Standing) (records inside later rest : List Record)
      → OpensScope s before a records begun opened inside → Part opened inside closing later → ClosesScope s closing begun before.scopes later after rest
      → Part before records after rest
  scoped_part a begun before opened closing after records inside later rest opens inner closes =
      let first : Point = comes_at before (drop 1 records) (meaning.doing before.progress (happenings.Begin a ∷ [])) in
      let last : Point = comes_at closing rest (meaning.doing closing.progress (happenings.End begun.access ∷ [])) in
      let opened_did : opened.progress.did ≡ before.progress.did ++ happenings.Begin a ∷ [] = ap (λ (st : Standing). st.progress.did) opens.comes_to in
      let after_did : after.progress.did ≡ closing.progress.did ++ happenings.End begun.access ∷ [] = ap (λ (st : Standing). st.progress.did) closes.comes_to in
      let inner_did : closing.progress.did ≡ before.progress.did ++ happenings.Begin a ∷ inner.begins.0 =
      inner.begins.1 ∙ (ap (λ (d : List Happening). d ++ inner.begins.0) opened_did ∙ append_assoc before.progress.did (happenings.Begin a ∷ []) inner.begins.0) in
      let does_all : List Happening = happenings.Begin a ∷ (inner.begins.0 ++ happenings.End a ∷ []) in
      let whole : after.progress.did ≡ before.progress.did ++ does_all =
      after_did ∙ (ap (λ (b : access.Access). closing.progress.did ++ happenings.End b ∷ []) opens.begins.access
      ∙ (ap (λ (d : List Happening). d ++ happenings.End a ∷ []) inner_did
      ∙ append_assoc before.progress.did (happenings.Begin a ∷ inner.begins.0) (happenings.End a ∷ []))) in
      let opened_scopes : opened.scopes ≡ before.scopes ++ begun ∷ [] = ap (λ (st : Standing). st.scopes) opens.comes_to in
      record {
        begins = (does_all, whole);
        paired = paired_access a inner.begins.0 inner.paired;
        scopes = ap (λ (st : Standing). st.scopes) closes.comes_to;
        points = (first ∷ []) ++ (inner.points ++ last ∷ []);
        adds = ap (λ (st : Standing). st.way) closes.comes_to
            ∙ (ap (λ (l : List Point). l ++ last ∷ []) inner.adds
            ∙ (append_assoc opened.way inner.points (last ∷ [])
            ∙ (ap (λ (l : List Point). l ++ (inner.points ++ last ∷ [])) (ap (λ (st : Standing). st.way) opens.comes_to)
            ∙ append_assoc before.way (first ∷ []) (inner.points ++ last ∷ []))));
        gives = λ w.
            let closing_ends : Begins closing.progress.did end =
            begins_on closing.progress.did after.progress.did end (happenings.End begun.access ∷ [], after_did) w.ends in
            let rest_of : List Happening = inner.begins.0 ++ closing_ends.0 in
            let all : end ≡ before.progress.did ++ happenings.Begin a ∷ rest_of =
            closing_ends.1 ∙ (ap (λ (d : List Happening). d ++ closing_ends.0) inner_did
            ∙ append_assoc before.progress.did (happenings.Begin a ∷ inner.begins.0) closing_ends.0) in
            let its : IsOpen (before.progress.did ++ happenings.Begin a ∷ []) a = opened_now a before rest_of w.paired all in
            let others = others_open a before rest_of w.scopes all in
            let mine : IsOpen (before.progress.did ++ happenings.Begin a ∷ []) begun.access =
            subst (λ (b : access.Access). IsOpen (before.progress.did ++ happenings.Begin a ∷ []) b) (sym opens.begins.access) its in
            let opening : Gives before records opened inside (first ∷ []) = record {
              new = opens.passes.outcomes;
              outcomes = ap (λ (st : Standing). st.outcomes) opens.comes_to;
              tells = λ more outs goes. begins_checked a begun before records opens.passes inside opens.begins.access its others opens.check more outs
                  (subst (λ (d : List Happening). PointsTell s inside d more outs) opened_did goes);
            } in
            let opened_open : AllOpen opened.progress.did opened.scopes =
            subst (λ (l : List Begun). AllOpen opened.progress.did l) (sym opened_scopes)
            (subst (λ (d : List Happening). AllOpen d (before.scopes ++ begun ∷ [])) (sym opened_did)
            (all_with (before.progress.did ++ happenings.Begin a ∷ []) before.scopes begun others mine)) in
            let opened_paired : IsPaired opened.progress.did = subst (λ (d : List Happening). IsPaired d) (sym opened_did)
            (paired_both before.progress.did (happenings.Begin a ∷ []) w.paired (paired_none (happenings.Begin a ∷ []) (tt, tt))) in
            let middle : Gives opened inside closing later inner.points =
            inner.gives (record { ends = closing_ends; paired = opened_paired; scopes = opened_open }) in
            let closing_open : AllOpen closing.progress.did (begun ∷ []) =
            still_open opened closing inner.begins.0 inner.begins.1 inner.paired closing_ends (begun ∷ [])
            (subst (λ (d : List Happening). IsOpen d begun.access) (sym opened_did) mine, tt) in
            let ending : Gives closing later after rest (last ∷ []) = record {
              new = closes.passes.outcomes;
              outcomes = ap (λ (st : Standing). st.outcomes) closes.comes_to;
              tells = λ more outs goes.
                  let mid : List Record = closes.close.1.0 in
                  rechecks s closing.progress.did (last ∷ more) (record begun { silenced = begun.silenced || closes.silenced } ∷ []) (closes.close.0, tt) closing_open
                  closing.asked later closes.passes mid closes.close.1.1 outs
                  (ended_part s begun.access closing closing.progress.did mid rest closes.close.1.2 refl more outs
                  (subst (λ (d : List Happening). PointsTell s rest d more outs) after_did goes));
            } in
            both_given before opened after records inside rest (first ∷ []) (inner.points ++ last ∷ []) opening
            (both_given opened closing after inside later rest inner.points (last ∷ []) middle ending);
      }

  kept_parts : Kept s Part
  kept_parts = record {
    still = λ before records. record {
      begins = ([], sym (append-nil before.progress.did));
      paired = paired_none [] tt;
      scopes = refl;
      points = [];
      adds = sym (append-nil before.way);
      gives = λ w. record { new = []; outcomes = sym (append-nil before.outcomes); tells = λ more outs goes. goes };
    };
    joins = both;
    marked = λ ends_nothing count m before records.
        let marked_so : List Happening = replicate count (happenings.Mark m) in
        computes before (counting ends_nothing before) records (meaning.doing (counting ends_nothing before).progress marked_so) marked_so
        (counting_way ends_nothing before) (counting_scopes ends_nothing before) (counting_outcomes ends_nothing before)
        (ap (λ (p : meaning.Progress). p.did ++ marked_so) (counting_progress ends_nothing before)) (marks_of_one count m) (none_of_marks count m);
    lost = λ before records.
        computes before (counting true before) records before.progress [] refl refl refl (sym (append-nil before.progress.did)) tt tt;
    assigned = λ before records register value.
        computes before before records (meaning.assigning before.progress register value) [] refl refl refl (sym (append-nil before.progress.did)) tt tt;
    makes = makes_part;
    locks = λ lock before records rest is takes.
        let point : Point = comes_at before rest (meaning.doing before.progress (happenings.Lock lock ∷ [])) in
        plainly before (doing before rest (happenings.Lock lock ∷ [])) records rest (happenings.Lock lock ∷ []) point refl (tt, tt) refl refl refl
        (λ more outs goes. takes_lock s lock before.progress.did point more outs records rest is takes refl refl goes);
    unlocks = λ lock before records rest has stores.
        let point : Point = comes_at before rest (meaning.doing before.progress (happenings.Unlock lock ∷ [])) in
        plainly before (doing before rest (happenings.Unlock lock ∷ [])) records rest (happenings.Unlock lock ∷ []) point refl (tt, tt) refl refl refl
        (λ more outs goes. frees_lock s lock before.progress.did point more outs records rest has stores refl refl goes);
    scoped = λ a assertion. scoped_part a;
  }

-- the points of a whole text tell its records, at which its outcomes fall
pub whole_tells : (s : Setting) (registers : ℕ) (body : Block) (records : List Record) (whole : SpellsAll s registers body records)
    → ((a : access.Access) (p q r t : List Happening) → whole.end.progress.did ≡ p ++ happenings.Begin a ∷ q
    → whole.end.progress.did ≡ r ++ happenings.Begin a ∷ t → p ≡ r)
    → PointsTell s records [] whole.end.way whole.end.outcomes
whole_tells s registers body records whole once =
    let part = by_block s (Part s whole.end.progress.did once) (kept_parts s whole.end.progress.did once) 0 body (at_first registers) records whole.end [] whole.steps in
    let given = part.gives (record { ends = ([], sym (append-nil whole.end.progress.did)); paired = paired_none [] tt; scopes = tt }) in
    subst (λ (o : List Fallen). PointsTell s records [] whole.end.way o) (append-nil given.new ∙ sym given.outcomes)
    (subst (λ (l : List Point). PointsTell s records [] l (given.new ++ [])) (append-nil part.points ∙ sym part.adds)
    (given.tells [] [] (tells.over whole.end.progress.did)))
