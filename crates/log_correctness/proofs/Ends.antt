-- Each end of an access in a list is that of an access that its task's log keeps.
use Rattle.std.proofs.Common.{◌≡◌, ◌∙◌, ◌<◌, ◌++◌, ◌∷◌, if◌then◌else◌, [], inl, inr, ℕ, zero, suc, Bool, true, false, Contains, List, None, Option, Some, ap, append_assoc, arith, length, refl, subst, sym}
use Rattle.std.specs.List.{cons_option, filter_map, list_any}
use Rattle.std.specs.Prelude.{is_none}
use Rattle.std.proofs.lemmas.Bool.Decides.{eqb_tells}
use Rattle.std.proofs.lemmas.List.Elements.{Contains-append_left}
use Rattle.access_types.specs.Access.{Access}
use Rattle.access_types.specs.Stamped.{Stamped}
use Rattle.access_types.specs.declared.history.Happening.{Happening}
use Rattle.access_types.specs.declared.history.Happening.TheVariants as happenings
use Rattle.executions.specs.execution.Run.{Run, first_words, task_setting}
use Rattle.executions.specs.execution.Execution.{Execution}
use Rattle.executions.specs.execution.Observed.{made_by}
use Rattle.executions.proofs.execution.OwnLasts.{own_latest}
use Rattle.log_correctness.specs.Noted.{AreNoted, IsBegun, IsNoted, Notes, begun_in}
use Rattle.log_correctness.specs.Spans.{HappensAt}
use Rattle.log_correctness.proofs.Balance.{ArePlain, Runs, plain_both}
use Rattle.log_correctness.proofs.Begun.{none_begun}
use Rattle.log_correctness.proofs.Spanning as spanning
use Rattle.log_correctness.proofs.Spanning.{Kind, Newest, kind_of, legal_at, marks_plain, newest, open_in, plain_none, still}
use Rattle.soundness.specs.Events.{AreMarks, DoesEvent, EachDoesItsEvent}
use Rattle.setup_access.specs.declared.begun.Begun.{Begun}
use Rattle.slot_table.specs.Records.{Legal, records_of}
use Rattle.slot_table.specs.declared.records.Record.{Record}
use Rattle.slot_table.specs.declared.step.Answer.{Answer}
use Rattle.slot_table.specs.declared.step.Answer.TheVariants as answers
use Rattle.slot_table.specs.declared.step.Step.{Step}
use Rattle.slot_table.specs.declared.step.Step.TheVariants as steps
use Rattle.task_log.specs.Touches.{accesses_of, end_newest, goes_on, stamped, stamped_at, touches_at, touches_of}
use Rattle.task_log.specs.declared.noted.Noted.{Noted}
use Rattle.task_log.specs.declared.touches.Touch.{Touch}
use Rattle.program_order.specs.TaskObserved.{did_by, did_next}

-- an access that ended at a stamp is kept
record IsKept (touches : List Touch) (a : Access) (stamp : ℕ) : Type 0 where
  touch : Touch
  stands : Contains touches touch
  access : touch.begun.access ≡ a
  end : touch.end ≡ Some stamp

first_of : {X : Type 0} (x : X) (xs : List X) → Contains (x ∷ xs) x
first_of x xs = (0, omega arith, refl)

behind : {X : Type 0} (x y : X) (xs : List X) → Contains xs y → Contains (x ∷ xs) y
behind x y xs there = (suc there.0, let below : there.0 < length xs = there.1 in omega (arith, below), there.2)

-- where it stands in a list
data Stands {X : Type 0} (x y : X) (xs : List X) : Type 0 where
  at_front : x ≡ y → Stands x y xs
  later_on : Contains xs y → Stands x y xs

stands : {X : Type 0} (x y : X) (xs : List X) → Contains (x ∷ xs) y → Stands x y xs
stands x y xs (zero, below, is) = at_front is
stands x y xs (suc k, below, is) = later_on (k, let it : suc k < suc (length xs) = below in omega (arith, it), is)

-- what has ended is as it was after another ends
ended_going : (end : Option ℕ) (stamp : ℕ) → end ≡ Some stamp → is_none end ≡ false
ended_going end stamp is = ap is_none is

still_there : (stamp : ℕ) (touches : List Touch) (touch : Touch) (end : ℕ) → Contains touches touch → touch.end ≡ Some end
    → Contains (end_newest stamp touches) touch
still_there stamp [] touch end there is = let none : there.0 < 0 = there.1 in absurd (omega (arith, none))
still_there stamp (one ∷ newer) touch end there is =
    by_newer (list_any goes_on newer) refl (stands one touch newer there) (λ later. still_there stamp newer touch end later is)
  where
    last_one : (b : Bool) → goes_on one ≡ b → list_any goes_on newer ≡ false → Contains ((if b then record one { end = Some stamp } else one) ∷ newer) touch
        → Contains (end_newest stamp (one ∷ newer)) touch
    last_one b goes none there_so =
        subst (λ (c : Bool). Contains (if c then one ∷ end_newest stamp newer else (if goes_on one then record one { end = Some stamp } else one) ∷ newer) touch)
        (sym none) (subst (λ (c : Bool). Contains ((if c then record one { end = Some stamp } else one) ∷ newer) touch) (sym goes) there_so)

    by_one : (b : Bool) → goes_on one ≡ b → list_any goes_on newer ≡ false → Stands one touch newer
        → Contains (end_newest stamp (one ∷ newer)) touch
    by_one true goes none (at_front same) =
        absurd (let over : goes_on touch ≡ false = ended_going touch.end end is in
        let both : true ≡ false = sym goes ∙ (ap goes_on same ∙ over) in cc)
    by_one true goes none (later_on later) = last_one true goes none (behind (record one { end = Some stamp }) touch newer later)
    by_one false goes none (at_front same) =
        last_one false goes none (subst (λ (t : Touch). Contains (one ∷ newer) t) same (first_of one newer))
    by_one false goes none (later_on later) = last_one false goes none (behind one touch newer later)

    by_newer : (b : Bool) → list_any goes_on newer ≡ b → Stands one touch newer
        → (Contains newer touch → Contains (end_newest stamp newer) touch)
        → Contains (end_newest stamp (one ∷ newer)) touch
    by_newer true any (at_front same) each =
        rw any (subst (λ (t : Touch). Contains (one ∷ end_newest stamp newer) t) same (first_of one (end_newest stamp newer)))
    by_newer true any (later_on later) each = rw any (behind one touch (end_newest stamp newer) (each later))
    by_newer false none at each = by_one (goes_on one) refl none at

-- the newest that goes on is kept as it ends
ends_now : (stamp : ℕ) (touches : List Touch) (a : Access) (older : List Access) → open_in touches ≡ a ∷ older
    → IsKept (end_newest stamp touches) a stamp
ends_now stamp [] a older is = absurd (let no : [] ≡ a ∷ older = is in cc)
ends_now stamp (touch ∷ newer) a older is = by_case (newest stamp a older touch newer is) (λ more so. ends_now stamp newer a more so)
  where
    by_case : Newest stamp a older touch newer → ((more : List Access) → open_in newer ≡ a ∷ more → IsKept (end_newest stamp newer) a stamp)
        → IsKept (end_newest stamp (touch ∷ newer)) a stamp
    by_case (spanning.behind more so rest ends) each =
        let it = each more so in
        subst (λ (l : List Touch). IsKept l a stamp) (sym ends)
        (record { touch = it.touch; stands = behind touch it.touch (end_newest stamp newer) it.stands; access = it.access; end = it.end })
    by_case (spanning.here same rest empty goes ends) each =
        subst (λ (l : List Touch). IsKept l a stamp) (sym ends)
        (record { touch = record touch { end = Some stamp }; stands = first_of (record touch { end = Some stamp }) newer; access = same; end = refl })

-- what a step of a task makes of its accesses
data Touching (before after : List Touch) (answer : Answer) (did : List Happening) : Type 0 where
  stays : after ≡ before → ((a : Access) (marks : List Happening) → did ≡ happenings.End a ∷ marks → ⊥) → Touching before after answer did
  begins : (one : Touch) → after ≡ before ++ one ∷ [] → ((a : Access) (marks : List Happening) → did ≡ happenings.End a ∷ marks → ⊥)
      → Touching before after answer did
  ends : (a : Access) (older : List Access) (stamp : ℕ) (marks : List Happening) → answer ≡ answers.Word stamp
      → did ≡ happenings.End a ∷ marks
      → open_in before ≡ a ∷ older → after ≡ end_newest stamp before → Touching before after answer did

no_end : (did : List Happening) → ArePlain did → (a : Access) (marks : List Happening) → did ≡ happenings.End a ∷ marks → ⊥
no_end did plain a marks is = (subst ArePlain is plain).0

module _ (run : Run) (records : List Record) (list : Execution run records) (task : ℕ) (first : AreMarks (did_by (list.tasks task) 0)) where
  abbrev EndsKept : List Record → List Touch → Type 0
  EndsKept earlier touches =
      (l : List Record) (latest : Record) (e : List Record) (a : Access) (stamp : ℕ) (marks : List Happening) → earlier ≡ l ++ latest ∷ e → latest.task ≡ task
      → latest.answer ≡ answers.Word stamp → did_next (list.tasks latest.task) (made_by latest.task e) ≡ happenings.End a ∷ marks
      → IsKept touches a stamp

  module _ (later earlier : List Record) (latest : Record) (is : records ≡ later ++ latest ∷ earlier)
      (event : DoesEvent (task_setting run task) (did_by (list.tasks task) (made_by task earlier)) latest.step latest.answer
      (did_next (list.tasks task) (made_by task earlier))) (noted : Noted) (noted_so : IsNoted (list.tasks task) (made_by task earlier) latest noted)
      (before : List Touch) (kept : spanning.Keeps run records list task first (made_by task earlier) before) where
    abbrev made : ℕ
    made = made_by task earlier

    abbrev next : List Happening
    next = did_next (list.tasks task) made

    abbrev touched : List Touch
    touched = touches_at noted.step noted.answer noted.begins before

    as_is : touched ≡ touches_at latest.step latest.answer noted.begins before
    as_is =
        ap (λ (st : Step). touches_at st noted.answer noted.begins before) noted_so.step
        ∙ ap (λ (an : Answer). touches_at latest.step an noted.begins before) noted_so.answer

    marks_are : ArePlain event.marks
    marks_are = marks_plain event.marks event.are_marks

    at_clock : (stamp : ℕ) → latest.step ≡ steps.Clock → latest.answer ≡ answers.Word stamp
        → touched ≡ touches_at steps.Clock (answers.Word stamp) noted.begins before
    at_clock stamp clock answered =
        as_is ∙ (ap (λ (st : Step). touches_at st latest.answer noted.begins before) clock
        ∙ ap (λ (an : Answer). touches_at steps.Clock an noted.begins before) answered)

    begin_one : (a : Access) (stamp : ℕ) → latest.step ≡ steps.Clock → latest.answer ≡ answers.Word stamp
        → next ≡ happenings.Begin a ∷ event.marks
        → (begun : Option Begun) → noted.begins ≡ begun
        → IsBegun run.rules.plain_writes_atomic task (did_by (list.tasks task) made) next begun
        → Touching before touched latest.answer next
    begin_one a stamp clock answered did None same begun_so =
        absurd (let no : [] ≡ a ∷ begun_in event.marks = sym begun_so ∙ ap begun_in did in cc)
    begin_one a stamp clock answered did (Some begun) same begun_so =
        begins (record { begun = begun; begin = stamp; end = None })
        (at_clock stamp clock answered ∙ ap (λ (b : Option Begun). touches_at steps.Clock (answers.Word stamp) b before) same)
        (λ b marks no. let both : happenings.Begin a ∷ event.marks ≡ happenings.End b ∷ marks = sym did ∙ no in cc)

    end_one : (a : Access) (stamp : ℕ) → latest.step ≡ steps.Clock → latest.answer ≡ answers.Word stamp
        → next ≡ happenings.End a ∷ event.marks
        → (begun : Option Begun) → noted.begins ≡ begun
        → IsBegun run.rules.plain_writes_atomic task (did_by (list.tasks task) made) next begun
        → Touching before touched latest.answer next
    end_one a stamp clock answered did (Some begun) same begun_so =
        absurd (let none : begun_in next ≡ [] = ap begun_in did ∙ none_begun event.marks (plain_none event.marks marks_are) in
        let no : [] ≡ begun.access ∷ [] = sym none ∙ begun_so.0 in cc)
    end_one a stamp clock answered did None same begun_so =
        let runs = spanning.next_runs run records list task first made kept.goes kept.runs in
        let on : Runs kept.goes (happenings.End a ∷ event.marks) runs.0 = subst (λ (d : List Happening). Runs kept.goes d runs.0) did runs.2 in
        ends a on.0 stamp event.marks answered did (kept.holds ∙ on.1)
        (at_clock stamp clock answered ∙ ap (λ (b : Option Begun). touches_at steps.Clock (answers.Word stamp) b before) same)

    touching : Touching before touched latest.answer next
    touching =
        by_kind (kind_of (task_setting run task) (did_by (list.tasks task) made) latest.step latest.answer event.event event.is_event)
      where
        stamp_of : latest.step ≡ steps.Clock → (stamp : ℕ) × (latest.answer ≡ answers.Word stamp)
        stamp_of clock =
            legal_at (first_words run) later latest earlier (subst (λ (r : List Record). Legal (first_words run) r) is list.legal) clock

        by_kind : Kind latest.step event.event → Touching before touched latest.answer next
        by_kind (spanning.quiet other plain) =
            let all : ArePlain next = subst ArePlain (sym event.all) (plain_both event.event event.marks plain marks_are) in
            stays (as_is ∙ still latest.step latest.answer noted.begins before other) (no_end next all)
        by_kind (spanning.begins_one clock a does) =
            let it = stamp_of clock in
            begin_one a it.0 clock it.1 (event.all ∙ ap (λ (e : List Happening). e ++ event.marks) does) noted.begins refl noted_so.begins
        by_kind (spanning.ends_one clock a does) =
            let it = stamp_of clock in
            end_one a it.0 clock it.1 (event.all ∙ ap (λ (e : List Happening). e ++ event.marks) does) noted.begins refl noted_so.begins

    same_stamp : (one other : ℕ) → answers.Word one ≡ answers.Word other → one ≡ other
    same_stamp one other same = cc

    same_end : (a b : Access) (marks others : List Happening) → happenings.End a ∷ marks ≡ happenings.End b ∷ others → a ≡ b
    same_end a b marks others same = let heads : happenings.End a ≡ happenings.End b = cc in cc

    -- an earlier end
    kept_on : Touching before touched latest.answer next → (a : Access) (stamp : ℕ) → IsKept before a stamp → IsKept touched a stamp
    kept_on (stays same none) a stamp it = subst (λ (l : List Touch). IsKept l a stamp) (sym same) it
    kept_on (begins one same none) a stamp it = subst (λ (l : List Touch). IsKept l a stamp) (sym same)
        (record { touch = it.touch; stands = Contains-append_left before (one ∷ []) it.touch it.stands; access = it.access; end = it.end })
    kept_on (ends b older now marks answered did open_so same) a stamp it = subst (λ (l : List Touch). IsKept l a stamp) (sym same)
        (record { touch = it.touch; stands = still_there now before it.touch stamp it.stands it.end; access = it.access; end = it.end })

    -- the end that falls now
    ends_here : Touching before touched latest.answer next → (a : Access) (stamp : ℕ) (marks : List Happening)
        → latest.answer ≡ answers.Word stamp
        → next ≡ happenings.End a ∷ marks → IsKept touched a stamp
    ends_here (stays same none) a stamp marks answered did = absurd (none a marks did)
    ends_here (begins one same none) a stamp marks answered did = absurd (none a marks did)
    ends_here (ends b older now others at_now does open_so same) a stamp marks answered did =
        let one : b ≡ a = same_end b a others marks (sym does ∙ did) in
        let stamps : now ≡ stamp = same_stamp now stamp (sym at_now ∙ answered) in
        subst (λ (l : List Touch). IsKept l a stamp) (sym same)
        (subst (λ (n : ℕ). IsKept (end_newest now before) a n) stamps (subst (λ (x : Access). IsKept (end_newest now before) x now) one (ends_now now before b older open_so)))

  none_split : (l : List Record) (latest : Record) (e : List Record) → [] ≡ l ++ latest ∷ e → ⊥
  none_split [] latest e at = let no : [] ≡ latest ∷ e = at in cc
  none_split (x ∷ l) latest e at = let no : [] ≡ x ∷ (l ++ latest ∷ e) = at in cc

  all_ends : (later earlier : List Record) → records ≡ later ++ earlier → EachDoesItsEvent list earlier → (noted : List Noted)
      → AreNoted (list.tasks task) (records_of task earlier) noted → EndsKept earlier (touches_of noted)
  all_ends later [] is events noted are = λ l latest e a stamp marks at mine answered did. absurd (none_split l latest e at)
  all_ends later (now ∷ earlier) is events noted are =
      let back : records ≡ (later ++ now ∷ []) ++ earlier = is ∙ sym (append_assoc later (now ∷ []) earlier) in
      elim (eqb_tells now.task task) [
        | inl mine ↦
            its back (λ kept are_so. all_ends (later ++ now ∷ []) earlier back events.0 kept are_so) noted
            (subst (λ (r : List Record). AreNoted (list.tasks task) r noted) (own_latest task now earlier mine.1) are) mine.1
        | inr others ↦
            let same : records_of task (now ∷ earlier) ≡ records_of task earlier = rw others.0 refl in
            not_its others.1 (all_ends (later ++ now ∷ []) earlier back events.0 noted (subst (λ (r : List Record). AreNoted (list.tasks task) r noted) same are))
      ]
    where
      not_its : (now.task ≡ task → ⊥) → EndsKept earlier (touches_of noted) → EndsKept (now ∷ earlier) (touches_of noted)
      not_its apart each [] latest e a stamp marks at mine answered did =
          absurd (let heads : now ≡ latest = cc in apart (ap (λ (r : Record). r.task) heads ∙ mine))
      not_its apart each (x ∷ l) latest e a stamp marks at mine answered did =
          let tails : earlier ≡ l ++ latest ∷ e = cc in each l latest e a stamp marks tails mine answered did

      its : records ≡ (later ++ now ∷ []) ++ earlier
          → ((kept : List Noted) → AreNoted (list.tasks task) (records_of task earlier) kept → EndsKept earlier (touches_of kept))
          → (noted : List Noted) → AreNoted (list.tasks task) (now ∷ records_of task earlier) noted → now.task ≡ task
          → EndsKept (now ∷ earlier) (touches_of noted)
      its back rest [] are mine = absurd are
      its back rest (noted ∷ before) are mine =
          let event : DoesEvent (task_setting run task) (did_by (list.tasks task) (made_by task earlier)) now.step now.answer
          (did_next (list.tasks task) (made_by task earlier)) =
          subst (λ (t : ℕ). DoesEvent (task_setting run t) (did_by (list.tasks t) (made_by t earlier)) now.step now.answer
          (did_next (list.tasks t) (made_by t earlier))) mine events.1 in
          let kept = spanning.all_kept run records list task first (later ++ now ∷ []) earlier back events.0 before are.0 in
          let at_now = touching later earlier now is event noted are.1 (touches_of before) kept in
          by_place event kept at_now (rest before are.0)
        where
          by_place : (event : DoesEvent (task_setting run task) (did_by (list.tasks task) (made_by task earlier)) now.step now.answer
              (did_next (list.tasks task) (made_by task earlier)))
              → (kept : spanning.Keeps run records list task first (made_by task earlier) (touches_of before))
              → Touching (touches_of before) (touches_of (noted ∷ before)) now.answer (did_next (list.tasks task) (made_by task earlier))
              → EndsKept earlier (touches_of before) → EndsKept (now ∷ earlier) (touches_of (noted ∷ before))
          by_place event kept at_now each [] latest e a stamp marks at own answered did =
              let heads : now ≡ latest = cc in
              let tails : earlier ≡ e = cc in
              let its_did : did_next (list.tasks task) (made_by task earlier) ≡ happenings.End a ∷ marks =
              subst (λ (r : List Record). did_next (list.tasks task) (made_by task r) ≡ happenings.End a ∷ marks) (sym tails)
              (subst (λ (t : ℕ). did_next (list.tasks t) (made_by t e) ≡ happenings.End a ∷ marks) own did) in
              ends_here later earlier now is event noted are.1 (touches_of before) kept at_now a stamp marks (ap (λ (r : Record). r.answer) heads ∙ answered) its_did
          by_place event kept at_now each (x ∷ l) latest e a stamp marks at own answered did =
              let tails : earlier ≡ l ++ latest ∷ e = cc in
              kept_on later earlier now is event noted are.1 (touches_of before) kept at_now a stamp (each l latest e a stamp marks tails own answered did)

  -- among those that have ended
  stamped_there : (touches : List Touch) (touch : Touch) (end : ℕ) → Contains touches touch → touch.end ≡ Some end
      → (one : Stamped) × Contains (filter_map stamped touches) one × (one.access ≡ touch.begun.access) × (one.end ≡ end)
  stamped_there [] touch end there is = let none : there.0 < 0 = there.1 in absurd (omega (arith, none))
  stamped_there (one ∷ newer) touch end there is = by_place (stands one touch newer there) (λ later. stamped_there newer touch end later is)
    where
      Found : List Stamped → Type 0
      Found l = (its : Stamped) × Contains l its × (its.access ≡ touch.begun.access) × (its.end ≡ end)

      over : (o : Option Stamped) → Found (filter_map stamped newer) → Found (cons_option o (filter_map stamped newer))
      over None it = it
      over (Some s) it = (it.0, behind s it.0 (filter_map stamped newer) it.1, it.2, it.3)

      by_place : Stands one touch newer → (Contains newer touch → Found (filter_map stamped newer))
          → Found (filter_map stamped (one ∷ newer))
      by_place (later_on later) each = over (stamped one) (each later)
      by_place (at_front same) each =
          let s : Stamped = record {
            access = touch.begun.access;
            begin = touch.begin;
            end = end;
            marked = touch.begun.marked;
            silenced = touch.begun.silenced;
          } in
          let is_s : stamped one ≡ Some s = ap stamped same ∙ ap (λ (e : Option ℕ). stamped_at touch.begun touch.begin e) is in
          subst (λ (o : Option Stamped). Found (cons_option o (filter_map stamped newer))) (sym is_s) (s, first_of s (filter_map stamped newer), refl, refl)

  pub each_end_kept : (noted : List Noted) → Notes list task noted → EachDoesItsEvent list records → (a : Access) (end : ℕ)
      → HappensAt list task (happenings.End a) end
      → (one : Stamped) × Contains (accesses_of noted) one × (one.access ≡ a) × (one.end ≡ end)
  each_end_kept noted notes events a end at =
      let it = all_ends [] records refl events noted notes at.later at.latest at.earlier a end at.marks at.split at.mine at.answer at.did in
      let found = stamped_there (touches_of noted) it.touch end it.stands it.end in
      (found.0, found.1, found.2 ∙ it.access, found.3)
