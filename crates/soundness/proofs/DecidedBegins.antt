-- Of each access that a text begins it is decided just then whether it counts as marked and whether it is silenced.
use Rattle.std.proofs.Common.{◌≡◌, ◌↔◌, ◌<◌, ◌∙◌, ◌∷◌, ◌++◌, [], ℕ, zero, suc, Bool, IsTrue, List, None, Option, Some, ap, append_assoc, refl, replicate, subst, sym}
use Rattle.std.proofs.lemmas.List.{append-nil, map-append}
use Rattle.access_types.specs.Access as access
use Rattle.access_types.specs.History.{History, beginning}
use Rattle.access_types.specs.Marked.{BeginsAfter, CountsAfter, EndsRaised, is_disable, is_enable, marks_of}
use Rattle.access_types.specs.declared.history.Happening.{Happening}
use Rattle.access_types.specs.declared.history.Happening.TheVariants as happenings
use Rattle.access_types.specs.declared.history.Mark.{Mark}
use Rattle.access_types.specs.declared.history.Moment.{Moment}
use Rattle.access_run.specs.memory_operation.Effects.{moments_of, read_moments, write_moments}
use Rattle.litmus_semantics.specs.Task as meaning
use Rattle.litmus_syntax.specs.Tree.{Block}
use Rattle.setup_access.specs.declared.begun.Begun.{Begun}
use Rattle.slot_table.specs.declared.records.Record.{Record}
use Rattle.program_order.specs.InProgress.{moments_by}
use Rattle.program_order.specs.Standing.{BeginsNow, Setting, Standing}
use Rattle.program_order.specs.WrittenOrder.{SpellsAll, at_first}
use Rattle.program_order.proofs.AccessLemmas.{access_does, counting_progress, makes_did}
use Rattle.program_order.proofs.Induction.{Kept, by_block}
use Rattle.soundness.specs.InProgress.{IsDecidedIn}
use Rattle.executions.proofs.execution.AccessesBeginOnce.{begin_once}

-- an access of a task that begins after it did this, with what is decided of it then
pub record DecidedNow (s : Setting) (did : List Happening) (a : access.Access) : Type 0 where
  pub task : a.task ≡ s.text.task
  pub has_bytes : 0 < a.size
  pub is_marked : Bool
  pub is_silenced : Bool
  pub marked : IsTrue is_marked ↔ CountsAfter s.rules.plain_writes_atomic a (moments_by s did)
  pub silenced : IsTrue is_silenced ↔ EndsRaised is_disable is_enable (marks_of s.text.task (moments_by s did))

-- such a fact of each access that begins
abbrev OnBegin : (access.Access → Type 0) → Happening → Type 0
OnBegin P (happenings.Begin a) = P a
OnBegin P happening = Unit {0}

-- so it was decided of each access that began among these, which the task did after that
abbrev AllDecided : Setting → List Happening → List Happening → Type 0
AllDecided s did [] = Unit {0}
AllDecided s did (happening ∷ later) = OnBegin (λ a. DecidedNow s did a) happening × AllDecided s (did ++ happening ∷ []) later

-- no access begins
abbrev NoBegin : Happening → Type 0
NoBegin (happenings.Begin a) = ⊥
NoBegin happening = Unit {0}

abbrev NoneBegins : List Happening → Type 0
NoneBegins [] = Unit {0}
NoneBegins (happening ∷ later) = NoBegin happening × NoneBegins later

none_both : (first later : List Happening) → NoneBegins first → NoneBegins later → NoneBegins (first ++ later)
none_both [] later one two = two
none_both (happening ∷ first) later one two = (one.0, none_both first later one.1 two)

none_marked : (count : ℕ) (m : Mark) → NoneBegins (replicate count (happenings.Mark m))
none_marked zero m = tt
none_marked (suc count) m = (tt, none_marked count m)

none_read : (a : access.Access) (value : Option ℕ) → NoneBegins (read_moments a value)
none_read a None = tt
none_read a (Some value) = (tt, tt)

none_written : (a : access.Access) (value : Option ℕ) → NoneBegins (write_moments a value)
none_written a None = tt
none_written a (Some value) = (tt, tt)

module _ (s : Setting) where
  no_begin : (did : List Happening) (happening : Happening) → NoBegin happening → OnBegin (λ a. DecidedNow s did a) happening
  no_begin did (happenings.Begin a) none = absurd none
  no_begin did (happenings.End a) none = tt
  no_begin did (happenings.Read bytes value) none = tt
  no_begin did (happenings.Write bytes value) none = tt
  no_begin did (happenings.Lock lock) none = tt
  no_begin did (happenings.Unlock lock) none = tt
  no_begin did (happenings.Mark mark) none = tt

  none_decided : (did new : List Happening) → NoneBegins new → AllDecided s did new
  none_decided did [] none = tt
  none_decided did (happening ∷ new) none = (no_begin did happening none.0, none_decided (did ++ happening ∷ []) new none.1)

  decided_both : (did first later : List Happening) → AllDecided s did first → AllDecided s (did ++ first) later → AllDecided s did (first ++ later)
  decided_both did [] later one two = subst (λ (d : List Happening). AllDecided s d later) (append-nil did) two
  decided_both did (happening ∷ first) later one two = (
    one.0,
    decided_both (did ++ happening ∷ []) first later one.1
        (subst (λ (d : List Happening). AllDecided s d later) (sym (append_assoc did (happening ∷ []) first)) two),
  )

  now : (before : Standing) (a : access.Access) (begun : Begun) → BeginsNow s before a begun → DecidedNow s before.progress.did a
  now before a begun h = record {
    task = h.own.task;
    has_bytes = subst (λ (b : access.Access). 0 < b.size) h.access begun.has_bytes;
    is_marked = begun.marked;
    is_silenced = begun.silenced;
    marked = h.marked;
    silenced = h.silenced;
  }

  -- what a part of the text does, and what is decided in it
  record Part (before : Standing) (records : List Record) (after : Standing) (rest : List Record) : Type 0 where
    new : List Happening
    does : after.progress.did ≡ before.progress.did ++ new
    decided : AllDecided s before.progress.did new

  plainly : (before after : Standing) (records rest : List Record) (new : List Happening) → after.progress.did ≡ before.progress.did ++ new → NoneBegins new
      → Part before records after rest
  plainly before after records rest new does none = record { new = new; does = does; decided = none_decided before.progress.did new none }

  both : (before between after : Standing) (records later rest : List Record) → Part before records between later → Part between later after rest
      → Part before records after rest
  both before between after records later rest p q = record {
    new = p.new ++ q.new;
    does = q.does ∙ (ap (λ (d : List Happening). d ++ q.new) p.does ∙ append_assoc before.progress.did p.new q.new);
    decided = decided_both before.progress.did p.new q.new p.decided (subst (λ (d : List Happening). AllDecided s d q.new) p.does q.decided);
  }

  -- each part is such a part
  kept : Kept s Part
  kept = record {
    still = λ before records. plainly before before records records [] (sym (append-nil before.progress.did)) tt;
    joins = both;
    marked = λ ends_nothing count m before records.
        plainly before _ records records (replicate count (happenings.Mark m))
        (ap (λ (p : meaning.Progress). p.did ++ replicate count (happenings.Mark m)) (counting_progress ends_nothing before)) (none_marked count m);
    lost = λ before records. plainly before _ records records [] (sym (append-nil before.progress.did)) tt;
    assigned = λ before records register value. plainly before _ records records [] (sym (append-nil before.progress.did)) tt;
    makes = λ a operation effect before records after rest h. record {
      new = access_does a effect;
      does = makes_did s a operation effect before records after rest h;
      decided = (
        now before a h.begun h.begins,
        none_decided (before.progress.did ++ happenings.Begin a ∷ []) (moments_of a effect ++ happenings.End a ∷ [])
            (none_both (moments_of a effect) (happenings.End a ∷ [])
            (none_both (read_moments a effect.read) (write_moments a effect.written) (none_read a effect.read) (none_written a effect.written)) (tt, tt)),
      );
    };
    locks = λ lock before records rest is takes. plainly before _ records rest (happenings.Lock lock ∷ []) refl (tt, tt);
    unlocks = λ lock before records rest has stores. plainly before _ records rest (happenings.Unlock lock ∷ []) refl (tt, tt);
    scoped = λ a assertion begun before opened closing after records inside later rest opens inner closes.
        let opened_did : opened.progress.did ≡ before.progress.did ++ happenings.Begin a ∷ [] = ap (λ (st : Standing). st.progress.did) opens.comes_to in
        let after_did : after.progress.did ≡ closing.progress.did ++ happenings.End begun.access ∷ [] =
        ap (λ (st : Standing). st.progress.did) closes.comes_to in
        let inner_did : closing.progress.did ≡ before.progress.did ++ happenings.Begin a ∷ inner.new =
        inner.does ∙ (ap (λ (d : List Happening). d ++ inner.new) opened_did ∙ append_assoc before.progress.did (happenings.Begin a ∷ []) inner.new) in
        let ended : List Happening = happenings.End begun.access ∷ [] in
        record {
          new = happenings.Begin a ∷ (inner.new ++ ended);
          does = after_did ∙ (ap (λ (d : List Happening). d ++ ended) inner_did ∙ append_assoc before.progress.did (happenings.Begin a ∷ inner.new) ended);
          decided = (
            now before a begun opens.begins,
            decided_both (before.progress.did ++ happenings.Begin a ∷ []) inner.new ended
                (subst (λ (d : List Happening). AllDecided s d inner.new) opened_did inner.decided) (tt, tt),
          );
        };
  }

  -- so it was decided of each access where it begins
  decided_there : (did front later : List Happening) (a : access.Access) → AllDecided s did (front ++ happenings.Begin a ∷ later)
      → DecidedNow s (did ++ front) a
  decided_there did [] later a all = subst (λ (d : List Happening). DecidedNow s d a) (sym (append-nil did)) all.0
  decided_there did (happening ∷ front) later a all =
      subst (λ (d : List Happening). DecidedNow s d a) (append_assoc did (happening ∷ []) front) (decided_there (did ++ happening ∷ []) front later a all.1)

  -- a moment of the task's is of what it did
  moment_there : (did : List Happening) (before : History) (moment : Moment) (later : History) → moments_by s did ≡ before ++ moment ∷ later
      → (p : List Happening) × (q : List Happening) × (did ≡ p ++ moment.happening ∷ q) × (before ≡ moments_by s p)
  moment_there [] [] moment later is = absurd (cc)
  moment_there [] (one ∷ before) moment later is = absurd (cc)
  moment_there (happening ∷ did) [] moment later is =
      let here : record { task = s.text.task; happening = happening } ≡ moment = cc in
      ([], did, ap (λ (m : Moment). m.happening ∷ did) here, refl)
  moment_there (happening ∷ did) (one ∷ before) moment later is =
      let here : record { task = s.text.task; happening = happening } ≡ one = cc in
      let rest : moments_by s did ≡ before ++ moment ∷ later = cc in
      let it = moment_there did before moment later rest in (
        happening ∷ it.0,
        it.1,
        ap (λ (d : List Happening). happening ∷ d) it.2,
        ap (λ (m : Moment). m ∷ before) (sym here) ∙ ap (λ (h : History). record { task = s.text.task; happening = happening } ∷ h) it.3,
      )

-- the access with what is decided of it
abbrev pub begun_so : (s : Setting) (did : List Happening) (a : access.Access) → DecidedNow s did a → Begun
begun_so s did a h = record { access = a; marked = h.is_marked; silenced = h.is_silenced; has_bytes = h.has_bytes }

module _ (s : Setting) (registers : ℕ) (body : Block) (records : List Record) (whole : SpellsAll s registers body records) where
  -- each access that the text begins was decided of as it began
  pub decided_at : (a : access.Access) (p q : List Happening) → whole.end.progress.did ≡ p ++ happenings.Begin a ∷ q → DecidedNow s p a
  decided_at a p q split =
      let part = by_block s (Part s) (kept s) 0 body (at_first registers) records whole.end [] whole.steps in
      decided_there s [] p q a (subst (λ (d : List Happening). AllDecided s [] d) (sym part.does ∙ split) part.decided)

  -- it is decided of the access by all that the task did, as it was when it began
  pub decided_so : (a : access.Access) (p q rest did : List Happening) → did ≡ p ++ happenings.Begin a ∷ q → whole.end.progress.did ≡ did ++ rest
      → (it : DecidedNow s p a) → IsDecidedIn s.rules.plain_writes_atomic (moments_by s did) a (begun_so s p a it)
  decided_so a p q rest did split ends it =
      let begins : BeginsAfter (moments_by s did) a (moments_by s p) = record { later = moments_by s q; split = begins_there } in
      let marks : (n : ℕ) → n ≡ s.text.task → marks_of n (moments_by s p) ≡ marks_of s.text.task (moments_by s p) =
      λ n same. ap (λ (t : ℕ). marks_of t (moments_by s p)) same in
      record {
        marked = (
          λ yes. record { before = moments_by s p; begins = begins; counts = it.marked.0 yes },
          λ so. it.marked.1 (subst (λ (h : History). CountsAfter s.rules.plain_writes_atomic a h) (same_before so.before so.begins) so.counts),
        );
        silenced = (
          λ yes. record {
            before = moments_by s p;
            begins = begins;
            disabled = subst (λ (m : List Mark). EndsRaised is_disable is_enable m) (sym (marks a.task it.task)) (it.silenced.0 yes);
          },
          λ so. it.silenced.1 (subst (λ (m : List Mark). EndsRaised is_disable is_enable m)
              (ap (λ (h : History). marks_of a.task h) (same_before so.before so.begins) ∙ marks a.task it.task) so.disabled),
        );
      }
    where
      begins_there : moments_by s did ≡ moments_by s p ++ beginning a ∷ moments_by s q
      begins_there =
          ap (λ (d : List Happening). moments_by s d) split
          ∙ (map-append (λ (happening : Happening). record { task = s.text.task; happening = happening }) p (happenings.Begin a ∷ q)
          ∙ ap (λ (t : ℕ). moments_by s p ++ record { task = t; happening = happenings.Begin a } ∷ moments_by s q) (sym it.task))

      same_before : (before : History) → BeginsAfter (moments_by s did) a before → before ≡ moments_by s p
      same_before before begins =
          let there = moment_there s did before (beginning a) begins.later begins.split in
          let first : whole.end.progress.did ≡ there.0 ++ happenings.Begin a ∷ (there.1 ++ rest) =
          ends ∙ (ap (λ (d : List Happening). d ++ rest) there.2 ∙ append_assoc there.0 (happenings.Begin a ∷ there.1) rest) in
          let second : whole.end.progress.did ≡ p ++ happenings.Begin a ∷ (q ++ rest) =
          ends ∙ (ap (λ (d : List Happening). d ++ rest) split ∙ append_assoc p (happenings.Begin a ∷ q) rest) in
          let same : there.0 ≡ p = begin_once s registers body records whole a there.0 (there.1 ++ rest) p (q ++ rest) first second in
          there.3 ∙ ap (λ (d : List Happening). moments_by s d) same
