-- What a machine says of its next step is what the task's records tell of that step.
use Rattle.std.proofs.Common.{◌≡◌, ◌↔◌, ◌∙◌, ◌<◌, ◌≤◌, ◌+◌, ◌==◌, ◌++◌, ◌∷◌, [], inl, inr, ℕ, suc, Bool, true, false, IsTrue, List, MatchBool, None, Option, Some, ap, append_assoc}
use Rattle.std.proofs.Common.{arith, drop, length, map, refl, subst, sym}
use Rattle.std.specs.List.{filter}
use Rattle.std.specs.Option.{option_to_list}
use Rattle.std.proofs.lemmas.Bool.{ne_eqb}
use Rattle.std.proofs.lemmas.Bool.Decides.{leb_tells}
use Rattle.std.proofs.lemmas.List.{append-nil, length-append}
use Rattle.std.proofs.lemmas.List.Elements.{filter-append}
use Rattle.access_types.specs.Access as access
use Rattle.access_types.specs.Marked.{CountsAfter, EndsRaised, is_disable, is_enable, marks_of}
use Rattle.access_types.specs.declared.history.Happening.{Happening}
use Rattle.access_types.specs.declared.history.Happening.TheVariants as happenings
use Rattle.litmus_semantics.specs.Task as meaning
use Rattle.litmus_syntax.specs.Tree.{Block}
use Rattle.access_run.specs.memory_operation.Effects.{moments_of, read_moments, write_moments}
use Rattle.access_run.specs.memory_operation.Operations.{Operates}
use Rattle.access_run.specs.declared.memory_operation.effect.Effect.{Effect}
use Rattle.access_run.specs.declared.memory_operation.operation.Operation.{Operation}
use Rattle.access_run.specs.declared.memory_operation.operation.Operation.TheVariants as operations
use Rattle.executions.proofs.execution.Histories.{did_then}
use Rattle.executions.proofs.execution.DoneOnlyGrows.{Chain, by_later, whole_chain}
use Rattle.executions.specs.execution.Observed as told
use Rattle.log_correctness.specs.Noted.{IsBegun, IsNoted, begun_by, begun_in}
use Rattle.log_correctness.proofs.Afters.{After, follow_left, walk_left}
use Rattle.log_correctness.proofs.Begun.{NoBeginFirst, NoneBegins, moments_begin_none, none_both, none_by_others, none_first, one_first, reads_begin_none, writes_begin_none}
use Rattle.log_correctness.proofs.Points.{EachDid, before_end, chain_after, each_at, falls_after, from_fewer, goes_on, past, stands_still, up_to_end}
use Rattle.log_correctness.proofs.Unfinished.{Unfinished, unfinished}
use Rattle.soundness.specs.Events.{DoesEvent}
use Rattle.setup_access.proofs.QuietSteps.{IsOfCheck, once, rechecks}
use Rattle.setup_access.specs.Check.{Check, ChecksBegun, Fallen, Passes, left_to_check}
use Rattle.setup_access.specs.Fallen.{outcomes_in}
use Rattle.setup_access.specs.Parts.{made}
use Rattle.setup_access.specs.Setting as settings
use Rattle.setup_access.specs.declared.begun.Begun.{Begun}
use Rattle.setup_access.specs.declared.outcome.Outcome.{Outcome}
use Rattle.setup_access.proofs.DisciplineLemmas.{on_word}
use Rattle.slot_table.specs.declared.records.Record.{Record}
use Rattle.slot_table.specs.declared.step.Answer.{Answer}
use Rattle.slot_table.specs.declared.step.Step.{Step}
use Rattle.slot_table.specs.declared.step.Step.TheVariants.{Clock}
use Rattle.task_run.specs.Fell.{FallsInPart, FellAt}
use Rattle.task_run.specs.Leads.{BeginsNext, Leads, stands_at}
use Rattle.task_run.specs.Part.{Part, PartLeft, closes, locks, makes, opens, over, stops, unlocks}
use Rattle.task_run.specs.Says.{Says}
use Rattle.task_run.specs.Position.{AllFellFrom, AllFrom, IsTold, last_of}
use Rattle.task_run.specs.declared.run.TaskRun.{TaskRun}
use Rattle.task_run.proofs.FellLemmas.{AllShorter}
use Rattle.task_plan.specs.declared.walk.Walk.{Walk}
use Rattle.program_order.specs.Access.{Makes, operated}
use Rattle.program_order.specs.Standing.{BeginsNow, Point, Setting, Standing, checks_of, doing, point_by}
use Rattle.program_order.specs.TaskObserved.{did_by, did_next, fell_next, to_come}
use Rattle.program_order.specs.WrittenOrder.{StepsOfBlock, WrittenOrder, at_first, first_point}
use Rattle.executions.proofs.observation_determinism.Falling.{AllUpTo, IsFalling, falling_way}
use Rattle.executions.proofs.observation_determinism.SureOperations.{add_later, clocks}

-- what follows on a beginning is told by the whole
same_rest : (first one other : List Happening) → first ++ one ≡ first ++ other → one ≡ other
same_rest [] one other is = is
same_rest (x ∷ first) one other is = same_rest first one other (let tails : first ++ one ≡ first ++ other = cc in tails)

-- of all that was done, what comes next after so much is no begin
abbrev NextNot : List Happening → List Happening → Type 0
NextNot all did = (first : Happening) × (later : List Happening) × (all ≡ did ++ first ∷ later) × (begun_by first ≡ None)

head_not : (did : List Happening) (end : Happening) → NoneBegins did → begun_by end ≡ None
    → (first : Happening) × (later : List Happening) × (did ++ end ∷ [] ≡ first ∷ later) × (begun_by first ≡ None)
head_not [] end none is = (end, [], refl, is)
head_not (one ∷ did) end none is = (one, did ++ end ∷ [], refl, none.0)

next_not : (all did more : List Happening) (end : Happening) → all ≡ did ++ (more ++ end ∷ []) → NoneBegins more → begun_by end ≡ None → NextNot all did
next_not all did more end is none ends =
    let head = head_not more end none ends in
    (head.0, head.1, is ∙ ap (λ (l : List Happening). did ++ l) head.2, head.3)

-- the points of an operation, before what ends its access
record Operated (s : Setting) (a : access.Access) (operation : Option Operation) (before : Standing) (records : List Record) (effect : Effect) (rest : List Record)
    (end : Happening) : Type 0 where
  points : List Point
  adds : (operated a operation before records effect rest).way ≡ before.way ++ points
  from : AllFrom (length rest) points
  first : NextNot ((operated a operation before records effect rest).progress.did ++ end ∷ []) before.progress.did
  each : EachDid (NextNot ((operated a operation before records effect rest).progress.did ++ end ∷ [])) points

one_point : (s : Setting) (before : Standing) (rest : List Record) (more : List Happening) (end : Happening) → NoneBegins more → begun_by end ≡ None
    → NextNot ((before.progress.did ++ more) ++ end ∷ []) before.progress.did × NextNot ((before.progress.did ++ more) ++ end ∷ []) (before.progress.did ++ more)
one_point s before rest more end none ends = (
  next_not ((before.progress.did ++ more) ++ end ∷ []) before.progress.did more end (append_assoc before.progress.did more (end ∷ [])) none ends,
  (end, [], refl, ends),
)

operated_points : (s : Setting) (a : access.Access) (operation : Option Operation) (before : Standing) (records : List Record) (effect : Effect) (rest : List Record)
    (end : Happening) → begun_by end ≡ None → Operates (checks_of s) a operation records effect rest → Operated s a operation before records effect rest end
operated_points s a None before records effect rest end ends h = record {
  points = [];
  adds = sym (append-nil before.way);
  from = tt;
  first = (end, [], refl, ends);
  each = tt;
}
operated_points s a (Some operations.Load) before records effect rest end ends h =
    let two = one_point s before rest (moments_of a effect) end (moments_begin_none a effect) ends in record {
      points = record { to_come = length rest; progress = meaning.doing before.progress (moments_of a effect); unbalanced = before.unbalanced } ∷ [];
      adds = refl;
      from = (omega arith, tt);
      first = two.0;
      each = (two.1, tt);
    }
operated_points s a (Some (operations.Add amount)) before [] effect rest end ends h = absurd h.2
operated_points s a (Some (operations.Add amount)) before (first ∷ later) effect rest end ends h =
    let less : length rest ≤ length later = add_later s.text.task a h.0 amount first later effect rest h.2 in
    let reads : List Happening = read_moments a effect.read in
    let writes : List Happening = write_moments a effect.written in
    let did : List Happening = before.progress.did in
    let read : Standing = doing before later reads in
    let one : Point = record { to_come = length later; progress = meaning.doing before.progress reads; unbalanced = before.unbalanced } in
    let two : Point = record { to_come = length rest; progress = meaning.doing read.progress writes; unbalanced = before.unbalanced } in
    let all : List Happening = ((did ++ reads) ++ writes) ++ end ∷ [] in
    let split : all ≡ did ++ ((reads ++ writes) ++ end ∷ []) =
    ap (λ (l : List Happening). l ++ end ∷ []) (append_assoc did reads writes) ∙ append_assoc did (reads ++ writes) (end ∷ []) in
    record {
      points = one ∷ two ∷ [];
      adds = append_assoc before.way (one ∷ []) (two ∷ []);
      from = (less, (omega arith, tt));
      first = next_not all did (reads ++ writes) end split (none_both reads writes (reads_begin_none a effect) (writes_begin_none a effect)) ends;
      each = (next_not all (did ++ reads) writes end (append_assoc (did ++ reads) writes (end ∷ [])) (writes_begin_none a effect) ends, ((end, [], refl, ends), tt));
    }
operated_points s a (Some (operations.Change change)) before records effect rest end ends h =
    let two = one_point s before rest (moments_of a effect) end (moments_begin_none a effect) ends in record {
      points = record { to_come = length rest; progress = meaning.doing before.progress (moments_of a effect); unbalanced = before.unbalanced } ∷ [];
      adds = refl;
      from = (omega arith, tt);
      first = two.0;
      each = (two.1, tt);
    }

-- the steps of a check but its first are no steps of the clock
pick : (b : Bool) (Yes No Goal : Type 0) → MatchBool b Yes No → (Yes → Goal) → (No → Goal) → Goal
pick true Yes No Goal given at_true at_false = at_true given
pick false Yes No Goal given at_true at_false = at_false given

no_clock : (step : Step) → IsOfCheck step → step ≡ Clock → ⊥
no_clock step of is = subst IsOfCheck is of

abbrev OwnSteps : List Record → List Record → Type 0
OwnSteps rest records = (p : List Record) (y : Record) (q : List Record) → records ≡ p ++ y ∷ q → length rest ≤ length q → IsOfCheck y.step

own_none : (rest : List Record) → OwnSteps rest rest
own_none rest p y q is fewer =
    let all : length rest ≡ length p + suc (length q) = ap (λ (l : List Record). length l) is ∙ length-append p (y ∷ q) in absurd (omega (arith, all, fewer))

own_more : (rest : List Record) (first : Record) (later : List Record) → IsOfCheck first.step → OwnSteps rest later → OwnSteps rest (first ∷ later)
own_more rest first later of own [] y q is fewer = let same : first ≡ y = cc in subst (λ (r : Record). IsOfCheck r.step) same of
own_more rest first later of own (one ∷ p) y q is fewer = own p y q (let tails : later ≡ p ++ y ∷ q = cc in tails) fewer

check_steps : (s : settings.Setting) (scopes : List Begun) (begun : Begun) (asked : ℕ) (first x : Record) (mine left : List Record) (passes : Passes)
    (rest : List Record) → Check s scopes begun asked (first ∷ (mine ++ x ∷ left)) passes rest → length rest ≤ length left → IsOfCheck x.step
check_steps s scopes begun asked first x mine left passes rest h less =
    let later : List Record = mine ++ x ∷ left in
    let got = on_word first.answer (λ stamp. ChecksBegun s scopes begun asked later passes rest) h.2.2 in
    let all : OwnSteps rest later =
    pick begun.silenced _ _ (OwnSteps rest later) got.2
    (λ quiet. subst (λ (r : List Record). OwnSteps rest r) quiet.1 (own_none rest))
    (λ now. once (OwnSteps rest) (own_more rest) s begun.access begun.marked asked later now.0 now.1 now.3
    (rechecks (OwnSteps rest) (own_more rest) s (left_to_check now.0.settled scopes) now.0.asked now.1 (record { outcomes = now.2; asked = passes.asked }) rest now.4
    (own_none rest))) in
    all mine x left refl less

-- the outcomes that fell at a record are those of its part
none_from : (n m : ℕ) (fallen : List Fallen) → n < m → AllFellFrom m fallen → filter (λ (f : Fallen). length f.later == n) fallen ≡ []
none_from n m [] less all = refl
none_from n m (one ∷ others) less all =
    let here : m ≤ length one.later = all.0 in
    let apart : length one.later ≡ n → ⊥ = λ (is : length one.later ≡ n). omega (arith, here, is, less) in
    rw (ne_eqb (length one.later) n apart) (none_from n m others less all.1)

none_up_to : (n m : ℕ) (fallen : List Fallen) → m ≤ n → AllShorter m fallen → filter (λ (f : Fallen). length f.later == n) fallen ≡ []
none_up_to n m [] fewer all = refl
none_up_to n m (one ∷ others) fewer all =
    let here : length one.later < m = all.0 in
    let apart : length one.later ≡ n → ⊥ = λ (is : length one.later ≡ n). omega (arith, here, is, fewer) in
    rw (ne_eqb (length one.later) n apart) (none_up_to n m others fewer all.1)

outcomes_are : (fallen : List Fallen) → map (λ (f : Fallen). f.outcome) fallen ≡ outcomes_in fallen
outcomes_are [] = refl
outcomes_are (one ∷ others) = ap (λ (l : List Outcome). one.outcome ∷ l) (outcomes_are others)

module _ (s : Setting) (registers : ℕ) (body : Block) (records : List Record) (x : Record) (written : WrittenOrder s registers body (records ++ x ∷ [])) where
  abbrev left : List Record
  left = written.more

  abbrev start : Point
  start = first_point (to_come written 0) registers

  abbrev way : List Point
  way = written.whole.end.way

  all_are : length ((records ++ x ∷ []) ++ written.more) ≡ length records + 1 + length written.more
  all_are =
      let one : length ((records ++ x ∷ []) ++ written.more) ≡ length (records ++ x ∷ []) + length written.more = length-append (records ++ x ∷ []) written.more in
      let two : length (records ++ x ∷ []) ≡ length records + 1 = length-append records (x ∷ []) in omega (arith, one, two)

  at_now : to_come written (length records) ≡ suc (length left)
  at_now = let all = all_are in omega (arith, all)

  at_next : to_come written (length records + 1) ≡ length left
  at_next = let all = all_are in omega (arith, all)

  did_now : did_by written (length records) ≡ (point_by (suc (length left)) start way).progress.did
  did_now = ap (λ (n : ℕ). (point_by n start way).progress.did) at_now

  did_then_by : did_by written (length records + 1) ≡ (point_by (length left) start way).progress.did
  did_then_by = ap (λ (n : ℕ). (point_by n start way).progress.did) at_next

  chain : Chain start way
  chain = (whole_chain s registers body ((records ++ x ∷ []) ++ written.more) written.whole start refl).0

  -- what is done next
  next_is : (before more : List Happening) → did_by written (length records) ≡ before → did_by written (length records + 1) ≡ before ++ more
      → did_next written (length records) ≡ more
  next_is before more now next =
      same_rest before (did_next written (length records)) more
      (ap (λ (d : List Happening). d ++ did_next written (length records)) (sym now) ∙ (did_then written (length records) ∙ next))

  -- by where the part began, and the points since
  module _ (before : Standing) (all : List Record) (stood : IsTold registers all before) (above : length left < length all) (points : List Point)
      (adds : way ≡ before.way ++ points) where
    abbrev here : Point
    here = last_of start before.way

    here_did : here.progress.did ≡ before.progress.did
    here_did = ap (λ (p : meaning.Progress). p.did) (stood.progress (to_come written 0))

    by_points : (n : ℕ) → n ≤ length all → point_by n start way ≡ point_by n here points
    by_points n fewer =
        ap (λ (w : List Point). point_by n start w) adds
        ∙ past n start before.way points (from_fewer (length all) n before.way fewer stood.points)

    now_by : did_by written (length records) ≡ (point_by (suc (length left)) here points).progress.did
    now_by = did_now ∙ ap (λ (p : Point). p.progress.did) (by_points (suc (length left)) above)

    next_by : did_by written (length records + 1) ≡ (point_by (length left) here points).progress.did
    next_by = did_then_by ∙ ap (λ (p : Point). p.progress.did) (by_points (length left) (omega (arith, above)))

    chain_here : Chain here points
    chain_here = chain_after start before.way points (subst (λ (w : List Point). Chain start w) adds chain)

    -- none of its points is there before the record
    stood_before : AllUpTo (length left) points → did_by written (length records) ≡ before.progress.did
    stood_before low =
        now_by ∙ (ap (λ (p : Point). p.progress.did) (stands_still (suc (length left)) (length left) here points low (omega arith)) ∙ here_did)

    -- the first of its points is there after the record
    goes_with : (point : Point) (later : List Point) (event : Happening) → points ≡ point ∷ later → length left ≤ point.to_come
        → point.progress.did ≡ before.progress.did ++ event ∷ [] → AllUpTo (length left) points
        → (more : List Happening) × (did_next written (length records) ≡ event ∷ more)
    goes_with point later event is there says low =
        let at : point_by (length left) here points ≡ point_by (length left) point later =
        ap (λ (w : List Point). point_by (length left) here w) is ∙ goes_on (length left) here point later there in
        let begins = by_later point later (length left) (subst (λ (w : List Point). Chain here w) is chain_here).1 in
        let next : did_by written (length records + 1) ≡ before.progress.did ++ event ∷ begins.0 =
        next_by ∙ (ap (λ (p : Point). p.progress.did) at ∙ (begins.1 ∙ (ap (λ (d : List Happening). d ++ begins.0) says
        ∙ append_assoc before.progress.did (event ∷ []) begins.0))) in
        (begins.0, next_is before.progress.did (event ∷ begins.0) (stood_before low) next)

    -- the first of its points comes later
    goes_later : (point : Point) (later : List Point) → points ≡ point ∷ later → point.to_come < length left → AllUpTo point.to_come later
        → did_next written (length records) ≡ []
    goes_later point later is there falls =
        let few : point.to_come ≤ length left = omega (arith, there) in
        let low : AllUpTo point.to_come points = subst (λ (w : List Point). AllUpTo point.to_come w) (sym is) (omega arith, falls) in
        let stood_now : did_by written (length records) ≡ before.progress.did =
        now_by ∙ (ap (λ (p : Point). p.progress.did) (stands_still (suc (length left)) point.to_come here points low (omega (arith, there))) ∙ here_did) in
        let stood_next : did_by written (length records + 1) ≡ before.progress.did =
        next_by ∙ (ap (λ (p : Point). p.progress.did) (stands_still (length left) point.to_come here points low there) ∙ here_did) in
        next_is before.progress.did [] stood_now (stood_next ∙ sym (append-nil before.progress.did))

    -- a part of one event, which is no begin
    one_event : (point : Point) (later : List Point) (event : Happening) → points ≡ point ∷ later → point.to_come ≤ length left
        → point.progress.did ≡ before.progress.did ++ event ∷ [] → begun_by event ≡ None → AllUpTo point.to_come later
        → NoBeginFirst (did_next written (length records))
    one_event point later event is fewer says none falls = elim (leb_tells (length left) point.to_come) [
      | inl there ↦
          let enough : length left ≤ point.to_come = there.1 in
          let same : point.to_come ≡ length left = omega (arith, fewer, enough) in
          let low : AllUpTo (length left) points = subst (λ (w : List Point). AllUpTo (length left) w) (sym is)
          (fewer, subst (λ (n : ℕ). AllUpTo n later) same falls) in
          let next = goes_with point later event is enough says low in inr (event, next.0, next.1, none)
      | inr apart ↦ inl (goes_later point later is apart.1 falls)
    ]

    -- an access that has begun before the record, and does no more in its part
    only_begun : (point : Point) (later : List Point) → points ≡ point ∷ later → length left < point.to_come → (n : ℕ) → AllUpTo n later → n < length left
        → did_next written (length records) ≡ []
    only_begun point later is there n low fewer =
        let first : AllUpTo n later = low in
        let now : did_by written (length records) ≡ point.progress.did =
        now_by ∙ ap (λ (p : Point). p.progress.did) (ap (λ (w : List Point). point_by (suc (length left)) here w) is
        ∙ (goes_on (suc (length left)) here point later there ∙ stands_still (suc (length left)) n point later first (omega (arith, fewer)))) in
        let next : did_by written (length records + 1) ≡ point.progress.did =
        next_by ∙ ap (λ (p : Point). p.progress.did) (ap (λ (w : List Point). point_by (length left) here w) is
        ∙ (goes_on (length left) here point later (omega (arith, there)) ∙ stands_still (length left) n point later first fewer)) in
        next_is point.progress.did [] now (next ∙ sym (append-nil point.progress.did))

    -- an access under way, whose end is to come or comes with the record
    under_way : (point : Point) (middle : List Point) (end : Point) (later : List Point) → points ≡ point ∷ (middle ++ end ∷ later)
        → length left < point.to_come → end.to_come ≤ length left → AllFrom end.to_come middle
        → NextNot end.progress.did point.progress.did → EachDid (NextNot end.progress.did) middle → NoBeginFirst (did_next written (length records))
    under_way point middle end later is there fewer from first each =
        let now_at : point_by (suc (length left)) here points ≡ point_by (suc (length left)) point middle =
        ap (λ (w : List Point). point_by (suc (length left)) here w) is
        ∙ (goes_on (suc (length left)) here point (middle ++ end ∷ later) there ∙ before_end (suc (length left)) point middle end later (omega (arith, fewer))) in
        let now_next : NextNot end.progress.did (point_by (suc (length left)) point middle).progress.did =
        each_at (NextNot end.progress.did) (suc (length left)) point middle first each in
        let now : did_by written (length records) ≡ (point_by (suc (length left)) point middle).progress.did =
        now_by ∙ ap (λ (p : Point). p.progress.did) now_at in
        let so_far : List Happening = (point_by (suc (length left)) point middle).progress.did in
        let start_next : point_by (length left) here points ≡ point_by (length left) point (middle ++ end ∷ later) =
        ap (λ (w : List Point). point_by (length left) here w) is ∙ goes_on (length left) here point (middle ++ end ∷ later) (omega (arith, there)) in
        elim (leb_tells (length left) end.to_come) [
          | inl more ↦
              let enough : length left ≤ end.to_come = more.1 in
              let same : end.to_come ≡ length left = omega (arith, fewer, enough) in
              let at : point_by (length left) point (middle ++ end ∷ later) ≡ point_by (length left) end later =
              up_to_end (length left) point middle end later (subst (λ (n : ℕ). AllFrom n middle) same from) enough in
              let begins = by_later end later (length left) (chain_after point middle (end ∷ later) (subst (λ (w : List Point). Chain here w) is chain_here).1).1 in
              let next : did_by written (length records + 1) ≡ so_far ++ now_next.0 ∷ (now_next.1 ++ begins.0) =
              next_by ∙ (ap (λ (p : Point). p.progress.did) (start_next ∙ at) ∙ (begins.1
              ∙ (ap (λ (d : List Happening). d ++ begins.0) now_next.2 ∙ append_assoc so_far (now_next.0 ∷ now_next.1) begins.0))) in
              inr (now_next.0, now_next.1 ++ begins.0, next_is so_far (now_next.0 ∷ (now_next.1 ++ begins.0)) now next, now_next.3)
          | inr apart ↦
              let after : end.to_come < length left = apart.1 in
              let at : point_by (length left) point (middle ++ end ∷ later) ≡ point_by (length left) point middle =
              before_end (length left) point middle end later after in
              let next_next : NextNot end.progress.did (point_by (length left) point middle).progress.did =
              each_at (NextNot end.progress.did) (length left) point middle first each in
              let next_did : List Happening = (point_by (length left) point middle).progress.did in
              let next : did_by written (length records + 1) ≡ next_did = next_by ∙ ap (λ (p : Point). p.progress.did) (start_next ∙ at) in
              let both : so_far ++ did_next written (length records) ≡ next_did =
              ap (λ (d : List Happening). d ++ did_next written (length records)) (sym now) ∙ (did_then written (length records) ∙ next) in
              let whole : so_far ++ (did_next written (length records) ++ next_next.0 ∷ next_next.1) ≡ so_far ++ now_next.0 ∷ now_next.1 =
              sym (append_assoc so_far (did_next written (length records)) (next_next.0 ∷ next_next.1))
              ∙ (ap (λ (d : List Happening). d ++ next_next.0 ∷ next_next.1) both ∙ (sym next_next.2 ∙ now_next.2)) in
              front_of (did_next written (length records)) (next_next.0 ∷ next_next.1) now_next.0 now_next.1 (same_rest so_far _ _ whole) now_next.3
        ]
      where
        front_of : (next rest : List Happening) (first : Happening) (later : List Happening) → next ++ rest ≡ first ∷ later → begun_by first ≡ None → NoBeginFirst next
        front_of [] rest first later is none = inl refl
        front_of (one ∷ next) rest first later is none =
            let same : one ≡ first = cc in inr (one, next, refl, ap begun_by same ∙ none)

  fell_by : (before : Standing) (all : List Record) → IsTold registers all before → length left < length all → (own rest : List Fallen) (limit : ℕ)
      → written.whole.end.outcomes ≡ before.outcomes ++ (own ++ rest) → AllShorter limit rest → limit ≤ length left
      → map (λ (f : Fallen). f.outcome) (fell_next written (length records)) ≡ outcomes_in (filter (λ (f : Fallen). length f.later == length left) own)
  fell_by before all stood above own rest limit adds short fewer =
      let here : Fallen → Bool = λ f. length f.later == length left in
      let at : fell_next written (length records) ≡ filter here written.whole.end.outcomes =
      ap (λ (n : ℕ). filter (λ (f : Fallen). length f.later == n) written.whole.end.outcomes) at_next in
      let first : filter here before.outcomes ≡ [] = none_from (length left) (length all) before.outcomes above stood.outcomes in
      let last : filter here rest ≡ [] = none_up_to (length left) limit rest fewer short in
      let parts : filter here written.whole.end.outcomes ≡ filter here own =
      ap (λ (l : List Fallen). filter here l) adds
      ∙ (filter-append here before.outcomes (own ++ rest)
      ∙ (ap (λ (l : List Fallen). l ++ filter here (own ++ rest)) first
      ∙ (filter-append here own rest ∙ (ap (λ (l : List Fallen). filter here own ++ l) last ∙ append-nil (filter here own))))) in
      outcomes_are (fell_next written (length records)) ∙ ap (λ (l : List Fallen). outcomes_in l) (at ∙ parts)

  module _ (walk : Walk) (mine : List Record) (before : Standing) (stood : IsTold registers (mine ++ x ∷ left) before) where
    abbrev all : List Record
    all = mine ++ x ∷ left

    above : length left < length all
    above = let size : length all ≡ length mine + suc (length left) = length-append mine (x ∷ left) in omega (arith, size)

    abbrev began_at : access.Access → Point
    began_at a = record {
      to_come = length (drop 1 all);
      progress = meaning.doing before.progress (happenings.Begin a ∷ []);
      unbalanced = before.unbalanced;
    }

    -- the outcome that falls in the part
    fell_in : (part : Part) (fell : Option Outcome) → PartLeft s part walk before all written.whole.end [] → Unfinished s part before all left
        → FallsInPart s part before all left fell → map (λ (f : Fallen). f.outcome) (fell_next written (length records)) ≡ option_to_list fell
    fell_in (makes a operation follow) fell h going falls =
        let follows = follow_left s walk follow h.0 h.1 h.2 written.whole.end [] h.4 in
        let adds : written.whole.end.outcomes ≡ before.outcomes ++ (h.3.passes.outcomes ++ follows.fallen) =
        follows.falls ∙ (ap (λ (st : Standing). st.outcomes ++ follows.fallen) h.3.comes_to
        ∙ append_assoc before.outcomes h.3.passes.outcomes follows.fallen) in
        fell_by before all stood above h.3.passes.outcomes follows.fallen (length h.2) adds follows.short (going h.0 h.1 h.2 h.3) ∙ falls h.0 h.1 h.2 h.3
    fell_in (opens a) fell h going falls =
        let follows = walk_left s walk h.1 h.2 written.whole.end [] h.4 in
        let adds : written.whole.end.outcomes ≡ before.outcomes ++ (h.3.passes.outcomes ++ follows.fallen) =
        follows.falls ∙ (ap (λ (st : Standing). st.outcomes ++ follows.fallen) h.3.comes_to
        ∙ append_assoc before.outcomes h.3.passes.outcomes follows.fallen) in
        fell_by before all stood above h.3.passes.outcomes follows.fallen (length h.2) adds follows.short (going h.0 h.1 h.2 h.3) ∙ falls h.0 h.1 h.2 h.3
    fell_in closes fell h going falls =
        let closed = h.2 in
        let follows = walk_left s walk h.0 h.1 written.whole.end [] h.3 in
        let adds : written.whole.end.outcomes ≡ before.outcomes ++ (closed.3.passes.outcomes ++ follows.fallen) =
        follows.falls ∙ (ap (λ (st : Standing). st.outcomes ++ follows.fallen) closed.3.comes_to
        ∙ append_assoc before.outcomes closed.3.passes.outcomes follows.fallen) in
        fell_by before all stood above closed.3.passes.outcomes follows.fallen (length h.1) adds follows.short (going closed.0 closed.1 h.0 h.1 closed.2 closed.3)
        ∙ falls closed.0 closed.1 h.0 h.1 closed.2 closed.3
    fell_in (locks variable) fell h going falls =
        let standing : Standing = doing before h.0 (happenings.Lock variable ∷ []) in
        let follows = walk_left s walk standing h.0 written.whole.end [] h.3 in
        fell_by before all stood above [] follows.fallen (length h.0) follows.falls follows.short (going h.0 h.2) ∙ ap (λ (o : Option Outcome). option_to_list o) (sym falls)
    fell_in (unlocks variable) fell h going falls =
        let standing : Standing = doing before h.0 (happenings.Unlock variable ∷ []) in
        let follows = walk_left s walk standing h.0 written.whole.end [] h.2 in
        fell_by before all stood above [] follows.fallen (length h.0) follows.falls follows.short (going h.0 h.1) ∙ ap (λ (o : Option Outcome). option_to_list o) (sym falls)
    fell_in over fell h going falls = absurd going
    fell_in (stops due) fell h going falls = absurd going

    module _ (does : DoesEvent s (did_by written (length records)) x.step x.answer (did_next written (length records))) where
      abbrev Began : Option Begun → Type 0
      Began begins = IsBegun s.rules.plain_writes_atomic s.text.task (did_by written (length records)) (did_next written (length records)) begins

      begins_none : (begins : Option Begun) → begins ≡ None → begun_in (did_next written (length records)) ≡ [] → Began begins
      begins_none begins is none = subst Began (sym is) none

      begins_some : (a : access.Access) (begun : Begun) (begins : Option Begun) (more : List Happening) → begins ≡ Some begun → BeginsNow s before a begun
          → did_by written (length records) ≡ before.progress.did → did_next written (length records) ≡ happenings.Begin a ∷ more → Began begins
      begins_some a begun begins more is now stands next =
          let of : begun_in (did_next written (length records)) ≡ begun.access ∷ [] =
          one_first s (did_by written (length records)) x.step x.answer (did_next written (length records)) does a more next ∙ ap (λ (y : access.Access). y ∷ []) (sym now.access) in
          let marked : IsTrue begun.marked ↔ CountsAfter s.rules.plain_writes_atomic begun.access (told.moments_of s.text.task before.progress.did) =
          subst (λ (y : access.Access). IsTrue begun.marked ↔ CountsAfter s.rules.plain_writes_atomic y (told.moments_of s.text.task before.progress.did)) (sym now.access)
          now.marked in
          let both : (IsTrue begun.marked ↔ CountsAfter s.rules.plain_writes_atomic begun.access (told.moments_of s.text.task (did_by written (length records))))
          × (IsTrue begun.silenced ↔ EndsRaised is_disable is_enable (marks_of s.text.task (told.moments_of s.text.task (did_by written (length records))))) =
          subst (λ (d : List Happening). (IsTrue begun.marked ↔ CountsAfter s.rules.plain_writes_atomic begun.access (told.moments_of s.text.task d))
          × (IsTrue begun.silenced ↔ EndsRaised is_disable is_enable (marks_of s.text.task (told.moments_of s.text.task d)))) (sym stands) (marked, now.silenced) in
          subst Began (sym is) (of, both.0, both.1)

      falls_here : (points : List Point) → way ≡ before.way ++ points → IsFalling points
      falls_here points adds =
          falls_after before.way points (subst IsFalling adds (falling_way s registers body ((records ++ x ∷ []) ++ written.more) written.whole))

      -- an access begins with the record where none of the part's comes before
      first_of : (a : access.Access) (later : List Point) → way ≡ before.way ++ began_at a ∷ later → mine ≡ []
          → (begun : Begun) (begins : Option Begun) → begins ≡ Some begun → BeginsNow s before a begun → Began begins
      first_of a later adds none begun begins is now =
          let at : length (drop 1 all) ≡ length left = ap (λ (l : List Record). length (drop 1 (l ++ x ∷ left))) none in
          let falls : AllUpTo (length (drop 1 all)) later = (falls_here (began_at a ∷ later) adds).0 in
          let low : AllUpTo (length left) (began_at a ∷ later) = (omega (arith, at), subst (λ (n : ℕ). AllUpTo n later) at falls) in
          let next = goes_with before all stood above (began_at a ∷ later) adds (began_at a) later (happenings.Begin a) refl (omega (arith, at)) refl low in
          begins_some a begun begins next.0 is now (stood_before before all stood above (began_at a ∷ later) adds low) next.1

      further_on : (first : Record) (more : List Record) → mine ≡ first ∷ more → length left < length (drop 1 all)
      further_on first more is =
          let at : length (drop 1 all) ≡ length (more ++ x ∷ left) = ap (λ (l : List Record). length (drop 1 (l ++ x ∷ left))) is in
          let size : length (more ++ x ∷ left) ≡ length more + suc (length left) = length-append more (x ∷ left) in omega (arith, at, size)

      -- the points of an access and of what follows on it
      abbrev made_at : (a : access.Access) (operation : Option Operation) (effect : Effect) (between : Standing) (rest : List Record)
          → Makes s before a operation all effect between rest → Standing
      made_at a operation effect between rest h = operated a operation (doing before (drop 1 all) (happenings.Begin a ∷ [])) h.checked effect h.done

      makes_points : (a : access.Access) (operation : Option Operation) (effect : Effect) (between : Standing) (rest : List Record)
          (h : Makes s before a operation all effect between rest) (later : List Point) → way ≡ between.way ++ later
          → (o : Operated s a operation (doing before (drop 1 all) (happenings.Begin a ∷ [])) h.checked effect h.done (happenings.End a))
          → way ≡ before.way ++ began_at a ∷ (o.points ++ record {
            to_come = length rest;
            progress = meaning.doing (made_at a operation effect between rest h).progress (happenings.End a ∷ []);
            unbalanced = (made_at a operation effect between rest h).unbalanced;
          } ∷ later)
      makes_points a operation effect between rest h later adds o =
          let began : Standing = doing before (drop 1 all) (happenings.Begin a ∷ []) in
          let made_so : Standing = made_at a operation effect between rest h in
          let end : Point = record {
            to_come = length rest;
            progress = meaning.doing made_so.progress (happenings.End a ∷ []);
            unbalanced = made_so.unbalanced;
          } in
          adds ∙ (ap (λ (st : Standing). st.way ++ later) h.comes_to ∙ (ap (λ (l : List Point). (l ++ end ∷ []) ++ later) o.adds
          ∙ (append_assoc (began.way ++ o.points) (end ∷ []) later ∙ (append_assoc began.way o.points (end ∷ later)
          ∙ append_assoc before.way (began_at a ∷ []) (o.points ++ end ∷ later)))))

      begins_in : (part : Part) (begins : Option Begun) → PartLeft s part walk before all written.whole.end [] → Unfinished s part before all left
          → BeginsNext s part before mine begins → Began begins
      begins_in (makes a operation follow) begins h going next =
          by_mine mine refl next
        where
          o : Operated s a operation (doing before (drop 1 all) (happenings.Begin a ∷ [])) h.3.checked h.0 h.3.done (happenings.End a)
          o = operated_points s a operation (doing before (drop 1 all) (happenings.Begin a ∷ [])) h.3.checked h.0 h.3.done (happenings.End a) refl h.3.operates

          follows : After h.1 h.2 written.whole.end []
          follows = follow_left s walk follow h.0 h.1 h.2 written.whole.end [] h.4

          made_so : Standing
          made_so = made_at a operation h.0 h.1 h.2 h.3

          end : Point
          end = record {
            to_come = length h.2;
            progress = meaning.doing made_so.progress (happenings.End a ∷ []);
            unbalanced = made_so.unbalanced;
          }

          adds : way ≡ before.way ++ began_at a ∷ (o.points ++ end ∷ follows.points)
          adds = makes_points a operation h.0 h.1 h.2 h.3 follows.points follows.adds o

          by_mine : (its : List Record) → mine ≡ its → BeginsNext s (makes a operation follow) before its begins → Began begins
          by_mine [] is begun = first_of a (o.points ++ end ∷ follows.points) adds is begun.0 begins begun.1 begun.2
          by_mine (first ∷ more) is none =
              let fewer : length h.2 ≤ length left = going h.0 h.1 h.2 h.3 in
              let last : length h.2 ≤ length h.3.done = (clocks s.text.task).shrinks h.3.done tt h.2 h.3.ends in
              begins_none begins none
              (none_first s (did_by written (length records)) x.step x.answer (did_next written (length records)) does
              (under_way before all stood above (began_at a ∷ (o.points ++ end ∷ follows.points)) adds (began_at a) o.points end follows.points refl
              (further_on first more is) fewer (from_fewer (length h.3.done) (length h.2) o.points last o.from) o.first o.each))
      begins_in (opens a) begins h going next = by_mine mine refl next
        where
          follows : After h.1 h.2 written.whole.end []
          follows = walk_left s walk h.1 h.2 written.whole.end [] h.4

          adds : way ≡ before.way ++ began_at a ∷ follows.points
          adds = follows.adds ∙ (ap (λ (st : Standing). st.way ++ follows.points) h.3.comes_to ∙ append_assoc before.way (began_at a ∷ []) follows.points)

          by_mine : (its : List Record) → mine ≡ its → BeginsNext s (opens a) before its begins → Began begins
          by_mine [] is begun = first_of a follows.points adds is begun.0 begins begun.1 begun.2
          by_mine (first ∷ more) is none =
              let fewer : length h.2 ≤ length left = going h.0 h.1 h.2 h.3 in
              begins_none begins none (elim (leb_tells (length left) (length h.2)) [
                | inl last ↦
                    let of : IsOfCheck x.step = check_steps (checks_of s) before.scopes h.0 before.asked first x more left h.3.passes h.2
                    (subst (λ (l : List Record). Check (checks_of s) before.scopes h.0 before.asked (l ++ x ∷ left) h.3.passes h.2) is h.3.check) fewer in
                    none_by_others s (did_by written (length records)) x.step x.answer (did_next written (length records)) does (no_clock x.step of)
                | inr going_on ↦
                    none_first s (did_by written (length records)) x.step x.answer (did_next written (length records)) does
                    (inl (only_begun before all stood above (began_at a ∷ follows.points) adds (began_at a) follows.points refl (further_on first more is) (length h.2) follows.low
                    going_on.1))
              ])
      begins_in closes begins h going next =
          let closed = h.2 in
          let follows = walk_left s walk h.0 h.1 written.whole.end [] h.3 in
          let end : Point = record {
            to_come = length h.1;
            progress = meaning.doing before.progress (happenings.End closed.1.access ∷ []);
            unbalanced = before.unbalanced;
          } in
          let adds : way ≡ before.way ++ end ∷ follows.points =
          follows.adds ∙ (ap (λ (st : Standing). st.way ++ follows.points) closed.3.comes_to ∙ append_assoc before.way (end ∷ []) follows.points) in
          begins_none begins next
          (none_first s (did_by written (length records)) x.step x.answer (did_next written (length records)) does
          (one_event before all stood above (end ∷ follows.points) adds end follows.points (happenings.End closed.1.access) refl
          (going closed.0 closed.1 h.0 h.1 closed.2 closed.3) refl refl follows.low))
      begins_in (locks variable) begins h going next =
          let follows = walk_left s walk (doing before h.0 (happenings.Lock variable ∷ [])) h.0 written.whole.end [] h.3 in
          let end : Point = record {
            to_come = length h.0;
            progress = meaning.doing before.progress (happenings.Lock variable ∷ []);
            unbalanced = before.unbalanced;
          } in
          let adds : way ≡ before.way ++ end ∷ follows.points = follows.adds ∙ append_assoc before.way (end ∷ []) follows.points in
          begins_none begins next
          (none_first s (did_by written (length records)) x.step x.answer (did_next written (length records)) does
          (one_event before all stood above (end ∷ follows.points) adds end follows.points (happenings.Lock variable) refl (going h.0 h.2) refl refl follows.low))
      begins_in (unlocks variable) begins h going next =
          let follows = walk_left s walk (doing before h.0 (happenings.Unlock variable ∷ [])) h.0 written.whole.end [] h.2 in
          let end : Point = record {
            to_come = length h.0;
            progress = meaning.doing before.progress (happenings.Unlock variable ∷ []);
            unbalanced = before.unbalanced;
          } in
          let adds : way ≡ before.way ++ end ∷ follows.points = follows.adds ∙ append_assoc before.way (end ∷ []) follows.points in
          begins_none begins next
          (none_first s (did_by written (length records)) x.step x.answer (did_next written (length records)) does
          (one_event before all stood above (end ∷ follows.points) adds end follows.points (happenings.Unlock variable) refl (going h.0 h.1) refl refl follows.low))
      begins_in over begins h going next = absurd going
      begins_in (stops due) begins h going next = absurd going

-- with what the machine says before its step begins the access that begins in what is done with the record
pub says_what_begins : (s : Setting) (registers : ℕ) (body : Block) (records : List Record) (old : TaskRun) (step : Step) (answer : Answer) (begins : Option Begun)
    → (leads : Leads s registers body records old) → Says old step
    → ((later : List Record) → BeginsNext s leads.part (stands_at leads later) leads.mine begins)
    → (written : WrittenOrder s registers body (records ++ made s.text.task step answer ∷ []))
    → DoesEvent s (did_by written (length records)) step answer (did_next written (length records))
    → IsBegun s.rules.plain_writes_atomic s.text.task (did_by written (length records)) (did_next written (length records)) begins
says_what_begins s registers body records old step answer begins leads says next written does =
    let x : Record = made s.text.task step answer in
    let left : List Record = written.more in
    let all : List Record = leads.mine ++ x ∷ left in
    let before : Standing = leads.now all in
    let steps : StepsOfBlock s 0 body (at_first registers) (records ++ x ∷ left) written.whole.end [] =
    subst (λ (r : List Record). StepsOfBlock s 0 body (at_first registers) r written.whole.end []) (append_assoc records (x ∷ []) left) written.whole.steps in
    let part = (leads.left (x ∷ left) written.whole.end).0 steps in
    let going : Unfinished s leads.part before all left = unfinished s old before leads.mine x left step leads.part (leads.agrees all).is_in says in
    begins_in s registers body records x written old.machine.walk leads.mine before (leads.told all) does leads.part begins part going (next (x ∷ left))

-- so what the machine says before its step and after the answer is noted of the record
pub says_what_is_noted : (s : Setting) (registers : ℕ) (body : Block) (records : List Record) (old : TaskRun) (step : Step) (answer : Answer) (begins : Option Begun)
    (fell : Option Outcome) → (leads : Leads s registers body records old) → Says old step
    → ((later : List Record) → BeginsNext s leads.part (stands_at leads later) leads.mine begins) → FellAt old fell answer
    → (written : WrittenOrder s registers body (records ++ made s.text.task step answer ∷ []))
    → DoesEvent s (did_by written (length records)) step answer (did_next written (length records))
    → IsNoted written (length records) (made s.text.task step answer) (record { step = step; answer = answer; begins = begins; outcome = fell })
says_what_is_noted s registers body records old step answer begins fell leads says next falls written does =
    let x : Record = made s.text.task step answer in
    let left : List Record = written.more in
    let all : List Record = leads.mine ++ x ∷ left in
    let before : Standing = leads.now all in
    let steps : StepsOfBlock s 0 body (at_first registers) (records ++ x ∷ left) written.whole.end [] =
    subst (λ (r : List Record). StepsOfBlock s 0 body (at_first registers) r written.whole.end []) (append_assoc records (x ∷ []) left) written.whole.steps in
    let part = (leads.left (x ∷ left) written.whole.end).0 steps in
    let going : Unfinished s leads.part before all left = unfinished s old before leads.mine x left step leads.part (leads.agrees all).is_in says in
    record {
      step = refl;
      answer = refl;
      begins = says_what_begins s registers body records old step answer begins leads says next written does;
      outcome = fell_in s registers body records x written old.machine.walk leads.mine before (leads.told all) leads.part fell part going
          (falls s registers body records step leads says left);
    }
