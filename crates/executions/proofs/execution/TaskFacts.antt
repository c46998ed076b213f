-- What is so of the records of checks is so of all records of a text.
use Rattle.std.proofs.Common.{◌≡◌, ◌<◌, ◌≤◌, ◌+◌, ◌-◌, ◌∙◌, ◌∷◌, ◌++◌, ◌||◌, [], ℕ, suc, Bool, true, false}
use Rattle.std.proofs.Common.{drop, length, map, replicate, List, Option, None, Some, MatchBool, ap, append_assoc, arith, refl, subst, sym}
use Rattle.std.proofs.lemmas.List.{append-nil}
use Rattle.access_types.specs.Kind.{is_scoped}
use Rattle.access_types.specs.Access as access
use Rattle.access_types.specs.Marked.{CountsAfter, EndsRaised, is_disable, is_enable, marks_of}
use Rattle.access_types.specs.declared.history.Happening.{Happening}
use Rattle.access_types.specs.declared.history.Happening.TheVariants as happenings
use Rattle.litmus_syntax.specs.Tree.{Block}
use Rattle.litmus_semantics.specs.Task as meaning
use Rattle.access_run.specs.memory_operation.Effects.{moments_of, read_moments, write_moments}
use Rattle.access_run.specs.memory_operation.Locks.{TakesLock}
use Rattle.access_run.specs.memory_operation.Operations.{Changes, Exchanges, OnExchange, Operates, OperatesIn}
use Rattle.access_run.specs.memory_operation.Values.{is_wanted, new_value, sum_of, with_value}
use Rattle.access_run.specs.declared.memory_operation.effect.Effect.{Effect}
use Rattle.access_run.specs.declared.memory_operation.operation.Change.{Change}
use Rattle.access_run.specs.declared.memory_operation.operation.Change.TheVariants as changes
use Rattle.access_run.specs.declared.memory_operation.operation.Operation.{Operation}
use Rattle.access_run.specs.declared.memory_operation.operation.Operation.TheVariants as operations
use Rattle.setup_access.specs.Check.{Fallen}
use Rattle.setup_access.specs.OwnAccesses.{IsOwn}
use Rattle.setup_access.specs.Records.{MakesDone, MakesWord}
use Rattle.setup_access.specs.Values.{value_in}
use Rattle.setup_access.specs.declared.begun.Begun.{Begun}
use Rattle.setup_access.specs.declared.source.Source.{Source}
use Rattle.setup_access.proofs.DisciplineLemmas.{on_flag, on_word}
use Rattle.slot_table.specs.declared.records.Record.{Record}
use Rattle.slot_table.specs.declared.step.Answer.{Answer}
use Rattle.slot_table.specs.declared.step.Answer.TheVariants as answers
use Rattle.slot_table.specs.declared.step.Step.{Step}
use Rattle.slot_table.specs.declared.step.Step.TheVariants.{CellExchange, CellLoad, Clear, Clock, Consume, Insert, Load, LockStore, LockTry, Name, PairLoad, Remove, Tell, TryConsume}
use Rattle.program_order.specs.Access.{Makes, operated}
use Rattle.program_order.specs.Standing.{BeginsNow, Point, Setting, Standing, checks_of, coming, counting, doing, lock_number, moments, point_by, registered}
use Rattle.program_order.specs.WrittenOrder.{ClosesScope, OpensScope, SpellsAll, at_first}
use Rattle.program_order.proofs.AccessLemmas.{access_does, counting_progress, makes_did, operated_did}
use Rattle.program_order.proofs.Induction.{Kept, by_block}
use Rattle.program_order.proofs.ScopesLemmas.{counting_scopes, operated_scopes}
use Rattle.program_order.proofs.WayLemmas.{Begins}
use Rattle.executions.proofs.execution.CheckFacts.{Good, OnTell, good_step}
use Rattle.executions.proofs.execution.CheckSteps.{AreIn, IsIn, check, check_shorter, clock_long, close, close_shorter}
use Rattle.executions.proofs.execution.Intervals.{AllFrom, IsOpen, IsPaired, NoneEnds, from_both, from_fewer, none_of_effect, none_of_marks, open_from, paired_access, paired_both, paired_none}
use Rattle.executions.proofs.execution.DoneOnlyGrows as ways
use Rattle.executions.proofs.execution.DoneOnlyGrows.{Chain, IsWay, last_of}

-- the step is none of a check's
abbrev pub IsPlain : Step → Type 0
IsPlain (CellLoad cell) = Unit {0}
IsPlain (CellExchange cell seen new) = Unit {0}
IsPlain (LockTry lock task) = Unit {0}
IsPlain (LockStore lock) = Unit {0}
IsPlain Clock = Unit {0}
IsPlain step = ⊥

pick : (b : Bool) (Yes No : Type 0) (Goal : Type 0) → MatchBool b Yes No → (Yes → Goal) → (No → Goal) → Goal
pick true Yes No Goal h at_true at_false = at_true h
pick false Yes No Goal h at_true at_false = at_false h

on_exchange : (answer : Answer) (Accepted : Type 0) (Refused : ℕ → Type 0) (Goal : Type 0) → OnExchange answer Accepted Refused → (Accepted → Goal) → ((word : ℕ) → Refused word → Goal) → Goal
on_exchange (answers.Word word) Accepted Refused Goal h accepted refused = refused word h
on_exchange (answers.Flag true) Accepted Refused Goal h accepted refused = accepted h
on_exchange (answers.Flag false) Accepted Refused Goal h accepted refused = absurd h
on_exchange (answers.Halves setter finder) Accepted Refused Goal h accepted refused = absurd h
on_exchange answers.Done Accepted Refused Goal h accepted refused = absurd h

-- what holds of a list with one more plain step in front holds of that with an operation on memory, or tries of a lock
module _ (P : List Record → Type 0) (plain : (first : Record) (later : List Record) → IsPlain first.step → P later → P (first ∷ later)) where
  step : (first : Record) (later : List Record) (is_step : Step) → first.step ≡ is_step → IsPlain is_step → P later → P (first ∷ later)
  step first later is_step is ok p = plain first later (subst IsPlain (sym is) ok) p

  pub word_step : (task : ℕ) (is_step : Step) (Next : ℕ → List Record → Type 0) (records : List Record) → IsPlain is_step → MakesWord task is_step Next records
      → ((word : ℕ) (later : List Record) → Next word later → P later) → P records
  word_step task is_step Next [] ok h on = absurd h
  word_step task is_step Next (first ∷ later) ok h on =
      let got = on_word first.answer (λ w. Next w later) h.2 in step first later is_step h.1 ok (on got.0 later got.2)

  ends : (records rest : List Record) → rest ≡ records → P rest → P records
  ends records rest same p = subst P same p

  exchanges : (task : ℕ) (a : access.Access) (source : Source) (change : Change) (seen : ℕ) (records : List Record) (effect : Effect) (rest : List Record)
      → Exchanges task a source change seen records effect rest → P rest → P records
  exchanges task a source change seen [] effect rest h p =
      pick (is_wanted a.size change (value_in a source seen)) _ _ _ h (λ none. absurd none) (λ over. ends [] rest over.1 p)
  exchanges task a source change seen (first ∷ later) effect rest h p =
      pick (is_wanted a.size change (value_in a source seen)) _ _ _ h
      (λ now. step first later (CellExchange source.cell seen (with_value a source seen (new_value a.size change (value_in a source seen)))) now.0.1 tt
      (on_exchange first.answer _ _ _ now.1 (λ done. ends later rest done.1 p) (λ word again. exchanges task a source change word later effect rest again p)))
      (λ over. ends (first ∷ later) rest over.1 p)

  makes_changes : (task : ℕ) (a : access.Access) (source : Source) (change : Change) (records : List Record) (effect : Effect) (rest : List Record)
      → Changes task a source change records effect rest → P rest → P records
  makes_changes task a source change records effect rest h p =
      word_step task (CellLoad source.cell) _ records tt h (λ seen later got. exchanges task a source change seen later effect rest got p)

  operates_in : (task : ℕ) (a : access.Access) (source : Source) (operation : Operation) (records : List Record) (effect : Effect) (rest : List Record)
      → OperatesIn task a source operation records effect rest → P rest → P records
  operates_in task a source operations.Load records effect rest h p = word_step task (CellLoad source.cell) _ records tt h (λ word later got. ends later rest got.1 p)
  operates_in task a source (operations.Add amount) records effect rest h p =
      word_step task (CellLoad source.cell) _ records tt h (λ word later got.
      makes_changes task a source (changes.Write (sum_of a.size (value_in a source word) amount)) later got.0 rest got.1 p)
  operates_in task a source (operations.Change change) records effect rest h p = makes_changes task a source change records effect rest h p

  pub operates : (s : Setting) (a : access.Access) (operation : Option Operation) (records : List Record) (effect : Effect) (rest : List Record)
      → Operates (checks_of s) a operation records effect rest → P rest → P records
  operates s a None records effect rest h p = ends records rest h.1 p
  operates s a (Some operation) records effect rest h p = operates_in s.text.task a h.0 operation records effect rest h.2 p

  pub takes_lock : (task lock : ℕ) (records rest : List Record) → TakesLock task lock records rest → P rest → P records
  takes_lock task lock [] rest h p = absurd h
  takes_lock task lock (first ∷ later) rest h p =
      let got = on_flag first.answer _ h.2 in
      step first later (LockTry lock task) h.1 tt
      (pick got.0 _ _ _ got.2 (λ over. ends later rest over p) (λ again. takes_lock task lock later rest again p))

  pub done_step : (task : ℕ) (is_step : Step) (records rest : List Record) → IsPlain is_step → MakesDone task is_step (λ later. rest ≡ later) records → P rest → P records
  done_step task is_step [] rest ok h p = absurd h
  done_step task is_step (first ∷ later) rest ok h p = step first later is_step h.1 ok (ends later rest h.2.1 p)

begins_on : (first middle all : List Happening) → Begins first middle → Begins middle all → Begins first all
begins_on first middle all p q =
    (p.0 ++ q.0, q.1 ∙ (ap (λ (d : List Happening). d ++ q.0) p.1 ∙ append_assoc first p.0 q.0))

begins_same : (did : List Happening) → Begins did did
begins_same did = ([], sym (append-nil did))

-- as many, or more
longer_by : (n : ℕ) (latest : Record) (later : List Record) → IsPlain latest.step → n ≤ length later → n ≤ length (latest ∷ later)
longer_by n latest later ok fits = omega (arith, fits)

drop_one : (records : List Record) → length records ≤ suc (length (drop 1 records))
drop_one [] = omega arith
drop_one (latest ∷ later) = omega arith

drop_fewer : (records : List Record) → length (drop 1 records) ≤ length records
drop_fewer [] = omega arith
drop_fewer (latest ∷ later) = omega arith

-- a point of a task's way
abbrev comes_at : Standing → List Record → meaning.Progress → Point
comes_at before later progress = record { to_come = length later; progress = progress; unbalanced = before.unbalanced }

module _ (s : Setting) where
  operates_long : (a : access.Access) (operation : Option Operation) (records : List Record) (effect : Effect) (rest : List Record)
      → Operates (checks_of s) a operation records effect rest → length rest ≤ length records
  operates_long a operation records effect rest h =
      operates (λ (r : List Record). length rest ≤ length r) (longer_by (length rest)) s a operation records effect rest h (omega arith)

  add_long : (task : ℕ) (a : access.Access) (source : Source) (amount : ℕ) (records : List Record) (effect : Effect) (rest : List Record)
      → OperatesIn task a source (operations.Add amount) records effect rest → length rest ≤ length (drop 1 records)
  add_long task a source amount [] effect rest h = absurd h
  add_long task a source amount (latest ∷ later) effect rest h =
      let got = on_word latest.answer _ h.2 in
      makes_changes (λ (r : List Record). length rest ≤ length r) (longer_by (length rest)) task a source
      (changes.Write (sum_of a.size (value_in a source got.0) amount)) later got.2.0 rest got.2.1 (omega arith)

  -- the points of an operation
  operated_adds : (a : access.Access) (operation : Option Operation) (before : Standing) (records : List Record) (effect : Effect) (rest : List Record)
      → Operates (checks_of s) a operation records effect rest
      → (points : List Point) × ((operated a operation before records effect rest).way ≡ before.way ++ points) × AllFrom (length rest) points
  operated_adds a None before records effect rest h = ([], sym (append-nil before.way), tt)
  operated_adds a (Some operations.Load) before records effect rest h =
      (comes_at before rest (meaning.doing before.progress (moments_of a effect)) ∷ [], refl, (omega arith, tt))
  operated_adds a (Some (operations.Add amount)) before records effect rest h =
      let read : Standing = doing before (drop 1 records) (read_moments a effect.read) in
      let one : Point = comes_at before (drop 1 records) (meaning.doing before.progress (read_moments a effect.read)) in
      let two : Point = comes_at read rest (meaning.doing read.progress (write_moments a effect.written)) in
      (one ∷ two ∷ [], append_assoc before.way (one ∷ []) (two ∷ []), (add_long s.text.task a h.0 amount records effect rest h.2, (omega arith, tt)))
  operated_adds a (Some (operations.Change change)) before records effect rest h =
      (comes_at before rest (meaning.doing before.progress (moments_of a effect)) ∷ [], refl, (omega arith, tt))

pub counting_outcomes : (ends_nothing : Bool) (before : Standing) → (counting ends_nothing before).outcomes ≡ before.outcomes
counting_outcomes true before = refl
counting_outcomes false before = refl

-- a task that does all this in its text
module _ (s : Setting) (end : Standing) where
  -- an access of it that has begun: when, and what was decided then
  pub record IsKnown (b : Begun) : Type 0 where
    pub before : List Happening
    pub later : List Happening
    pub split : end.progress.did ≡ before ++ happenings.Begin b.access ∷ later
    pub own : IsOwn (checks_of s) b.access
    pub unmarked : b.marked ≡ false
        → ¬ CountsAfter s.rules.plain_writes_atomic b.access (map (λ happening. record { task = s.text.task; happening = happening }) before)
    pub heard : b.silenced ≡ false
        → ¬ EndsRaised is_disable is_enable (marks_of s.text.task (map (λ happening. record { task = s.text.task; happening = happening }) before))

  pub begins_known : (before : Standing) (a : access.Access) (begun : Begun) → BeginsNow s before a begun → Begins (before.progress.did ++ happenings.Begin a ∷ []) end.progress.did → IsKnown begun
  begins_known before a begun now begins = record {
    before = before.progress.did;
    later = begins.0;
    split = begins.1 ∙ (append_assoc before.progress.did (happenings.Begin a ∷ []) begins.0
        ∙ ap (λ (b : access.Access). before.progress.did ++ happenings.Begin b ∷ begins.0) (sym now.access));
    own = subst (λ (b : access.Access). IsOwn (checks_of s) b) (sym now.access) now.own;
    unmarked = λ no counts.
        let yes : begun.marked ≡ true =
        now.marked.1 (subst (λ (b : access.Access). CountsAfter s.rules.plain_writes_atomic b (moments s before)) now.access counts) in
        let both : false ≡ true = sym no ∙ yes in absurd (cc);
    heard = λ no raised.
        let yes : begun.silenced ≡ true = now.silenced.1 raised in
        let both : false ≡ true = sym no ∙ yes in absurd (cc);
  }

  unsilenced_before : (first second : Bool) → (first || second) ≡ false → first ≡ false
  unsilenced_before true second is = is
  unsilenced_before false second is = refl

  pub silenced_too : (begun : Begun) (silenced : Bool) → IsKnown begun → IsKnown (record begun { silenced = begun.silenced || silenced })
  silenced_too begun silenced known = record {
    before = known.before;
    later = known.later;
    split = known.split;
    own = known.own;
    unmarked = known.unmarked;
    heard = λ is. known.heard (unsilenced_before begun.silenced silenced is);
  }

  module _ (first : Point) (total : ℕ) where
    -- the access was in progress after so many of its task's records
    abbrev pub During : Begun → ℕ → Type 0
    During b count = IsOpen (point_by (total - count) first end.way).progress.did b.access

    abbrev pub AreGood : List Record → List Record → List Fallen → Type 0
    AreGood own records outs = Good (checks_of s) IsKnown During own records outs

    -- so are these where they are what is left
    abbrev Then : List Record → List Fallen → Type 0
    Then rest more = (own : List Record) → length own + length rest ≡ total → AreGood own rest more

    -- it is in progress while this many records are to come, at least and at most
    abbrev IsInWhile : access.Access → ℕ → ℕ → Type 0
    IsInWhile a least most = (n : ℕ) → least ≤ n → n ≤ most → IsOpen (point_by n first end.way).progress.did a

    abbrev AllIn : List Begun → ℕ → ℕ → Type 0
    AllIn [] least most = Unit {0}
    AllIn (scope ∷ scopes) least most = (IsKnown scope × IsInWhile scope.access least most) × AllIn scopes least most

    in_with : (scopes : List Begun) (begun : Begun) (least most : ℕ) → AllIn scopes least most → IsKnown begun → IsInWhile begun.access least most
        → AllIn (scopes ++ begun ∷ []) least most
    in_with [] begun least most all known goes = ((known, goes), tt)
    in_with (scope ∷ scopes) begun least most all known goes = (all.0, in_with scopes begun least most all.1 known goes)

    in_less : (scopes : List Begun) (least most less more : ℕ) → least ≤ less → more ≤ most → AllIn scopes least most → AllIn scopes less more
    in_less [] least most less more low high all = tt
    in_less (scope ∷ scopes) least most less more low high all =
        ((all.0.0, λ n above below. all.0.1 n (omega (arith, low, above)) (omega (arith, high, below))), in_less scopes least most less more low high all.1)

    is_in : (b : Begun) (from whole left least most : ℕ) → whole ≡ total → least ≤ left → total ≤ from + most → IsInWhile b.access least most
        → IsIn (checks_of s) IsKnown During b from whole left
    is_in b from whole left least most same low high goes =
        λ count from_on at_most. goes (total - count) (omega (arith, same, low, at_most)) (omega (arith, from_on, high))

    are_in : (scopes : List Begun) (from whole left least most : ℕ) → whole ≡ total → least ≤ left → total ≤ from + most → AllIn scopes least most
        → AreIn (checks_of s) IsKnown During scopes from whole left
    are_in [] from whole left least most same low high all = tt
    are_in (scope ∷ scopes) from whole left least most same low high all =
        ((all.0.0, is_in scope from whole left least most same low high all.0.1), are_in scopes from whole left least most same low high all.1)

    -- what these records give, before any that are good
    pub record Gives (before : Standing) (records : List Record) (after : Standing) (rest : List Record) : Type 0 where
      pub new : List Fallen
      pub outcomes : after.outcomes ≡ before.outcomes ++ new
      pub good : (more : List Fallen) → Then rest more → Then records (new ++ more)

    -- where in the whole text they stand
    record Within (before : Standing) (records : List Record) (after : Standing) (rest : List Record) : Type 0 where
      begins : Begins after.progress.did end.progress.did
      ahead : List Point
      to_end : end.way ≡ after.way ++ ahead
      behind : AllFrom (length records) before.way
      way : IsWay first before
      paired : IsPaired before.progress.did
      scopes : AllIn before.scopes (length rest) (length records)

    pub record Part (before : Standing) (records : List Record) (after : Standing) (rest : List Record) : Type 0 where
      begins : Begins before.progress.did after.progress.did
      paired : IsPaired begins.0
      scopes : after.scopes ≡ before.scopes
      fewer : length rest ≤ length records
      points : List Point
      adds : after.way ≡ before.way ++ points
      from : AllFrom (length rest) points
      runs : IsWay first before → IsWay first after
      gives : Within before records after rest → Gives before records after rest

    nothing_given : (before after : Standing) (records rest : List Record) → after.outcomes ≡ before.outcomes
        → ((more : List Fallen) → Then rest more → Then records more) → Gives before records after rest
    nothing_given before after records rest same good = record { new = []; outcomes = same ∙ sym (append-nil before.outcomes); good = good }

    both_given : (before between after : Standing) (records later rest : List Record) → Gives before records between later → Gives between later after rest
        → Gives before records after rest
    both_given before between after records later rest one second = record {
      new = one.new ++ second.new;
      outcomes = second.outcomes ∙ (ap (λ (o : List Fallen). o ++ second.new) one.outcomes ∙ append_assoc before.outcomes one.new second.new);
      good = λ more goes own at. subst (λ (o : List Fallen). AreGood own records o) (sym (append_assoc one.new second.new more))
          (one.good (second.new ++ more) (second.good more goes) own at);
    }

    -- a plain step in front
    plain_good : (more : List Fallen) (latest : Record) (later : List Record) → IsPlain latest.step → Then later more → Then (latest ∷ later) more
    plain_good more latest later ok goes own at =
        good_step (checks_of s) IsKnown During own later latest more (plain_tells own latest.step ok)
        (goes (latest ∷ own) (let all : length own + suc (length later) ≡ total = at in omega (arith, all)))
      where
        plain_tells : (own : List Record) (is_step : Step) → IsPlain is_step → OnTell (checks_of s) IsKnown During own is_step
        plain_tells own (CellLoad cell) ok = tt
        plain_tells own (CellExchange cell seen new) ok = tt
        plain_tells own (LockTry lock task) ok = tt
        plain_tells own (LockStore lock) ok = tt
        plain_tells own Clock ok = tt
        plain_tells own (Load index) ok = absurd ok
        plain_tells own (Insert index word) ok = absurd ok
        plain_tells own (TryConsume index word) ok = absurd ok
        plain_tells own (Consume index) ok = absurd ok
        plain_tells own (Remove index) ok = absurd ok
        plain_tells own (PairLoad index) ok = absurd ok
        plain_tells own (Name index ticket) ok = absurd ok
        plain_tells own (Tell index ticket) ok = absurd ok
        plain_tells own (Clear index) ok = absurd ok

    -- each access begins once in all that the task does, and its points are a chain
    module _ (chain : Chain first end.way)
        (once : (a : access.Access) (p q r t : List Happening) → end.progress.did ≡ p ++ happenings.Begin a ∷ q
        → end.progress.did ≡ r ++ happenings.Begin a ∷ t → p ≡ r) where
      within_first : (before between after : Standing) (records later rest : List Record) (p : Part before records between later) (q : Part between later after rest)
          → Within before records after rest → Within before records between later
      within_first before between after records later rest p q w =
          let fits : length rest ≤ length later = q.fewer in
          record {
            begins = begins_on between.progress.did after.progress.did end.progress.did q.begins w.begins;
            ahead = q.points ++ w.ahead;
            to_end = w.to_end ∙ (ap (λ (points : List Point). points ++ w.ahead) q.adds ∙ append_assoc between.way q.points w.ahead);
            behind = w.behind;
            way = w.way;
            paired = w.paired;
            scopes = in_less before.scopes (length rest) (length records) (length later) (length records) fits (omega arith) w.scopes;
          }

      within_second : (before between after : Standing) (records later rest : List Record) (p : Part before records between later) (q : Part between later after rest)
          → Within before records after rest → Within between later after rest
      within_second before between after records later rest p q w =
          let fits : length later ≤ length records = p.fewer in
          record {
            begins = w.begins;
            ahead = w.ahead;
            to_end = w.to_end;
            behind = subst (λ (points : List Point). AllFrom (length later) points) (sym p.adds)
                (from_both (length later) before.way p.points (from_fewer (length records) (length later) before.way fits w.behind) p.from);
            way = p.runs w.way;
            paired = subst (λ (d : List Happening). IsPaired d) (sym p.begins.1) (paired_both before.progress.did p.begins.0 w.paired p.paired);
            scopes = subst (λ (scopes : List Begun). AllIn scopes (length rest) (length later)) (sym p.scopes)
                (in_less before.scopes (length rest) (length records) (length rest) (length later) (omega arith) fits w.scopes);
          }

      -- an access that begins at the first of the records
      module _ (a : access.Access) (before : Standing) (records : List Record) where
        abbrev begin_point : Point
        begin_point = comes_at before (drop 1 records) (meaning.doing before.progress (happenings.Begin a ∷ []))

        began_from : (n : ℕ) → AllFrom (length records) before.way → n ≤ length (drop 1 records) → AllFrom n (before.way ++ begin_point ∷ [])
        began_from n behind below =
            let fewer : length (drop 1 records) ≤ length records = drop_fewer records in
            let less : n ≤ length records = omega (arith, below, fewer) in
            from_both n before.way (begin_point ∷ []) (from_fewer (length records) n before.way less behind) (below, tt)

      makes_part : (a : access.Access) (operation : Option Operation) (effect : Effect) (before : Standing) (records : List Record) (after : Standing) (rest : List Record)
          → Makes s before a operation records effect after rest → Part before records after rest
      makes_part a operation effect before records after rest h =
          let did = makes_did s a operation effect before records after rest h in
          let began : Standing = doing before (drop 1 records) (happenings.Begin a ∷ []) in
          let middle : Standing = operated a operation began h.checked effect h.done in
          let moments_in : List Happening = moments_of a effect in
          let more = operated_adds s a operation began h.checked effect h.done h.operates in
          let last : Point = comes_at middle rest (meaning.doing middle.progress (happenings.End a ∷ [])) in
          let shorter : length h.checked < length records = check_shorter (checks_of s) before.scopes h.begun before.asked records h.passes h.checked h.check in
          let not_longer : length h.done ≤ length h.checked = operates_long s a operation h.checked effect h.done h.operates in
          let one_left : length h.done ≡ suc (length rest) = clock_long s.text.task h.done rest h.ends in
          let dropped : length records ≤ suc (length (drop 1 records)) = drop_one records in
          let after_way : after.way ≡ (began.way ++ more.0) ++ last ∷ [] =
          ap (λ (st : Standing). st.way) h.comes_to ∙ ap (λ (points : List Point). points ++ last ∷ []) more.1 in
          record {
            begins = (access_does a effect, did);
            paired = paired_access a moments_in (paired_none moments_in (none_of_effect a effect));
            scopes = ap (λ (st : Standing). st.scopes) h.comes_to ∙ operated_scopes a operation began h.checked effect h.done;
            fewer = omega (arith, shorter, not_longer, one_left);
            points = begin_point a before records ∷ (more.0 ++ last ∷ []);
            adds = after_way ∙ (append_assoc began.way more.0 (last ∷ []) ∙ append_assoc before.way (begin_point a before records ∷ []) (more.0 ++ last ∷ []));
            from = (
              omega (arith, shorter, not_longer, one_left, dropped),
              from_both (length rest) more.0 (last ∷ []) (from_fewer (length h.done) (length rest) more.0 (omega (arith, one_left)) more.2) (omega arith, tt),
            );
            runs = (ways.kept_way first s).makes a operation effect before records after rest h;
            gives = λ w.
                let now : IsKnown h.begun = begins_known before a h.begun h.begins
                (begins_on (before.progress.did ++ happenings.Begin a ∷ []) after.progress.did end.progress.did
                (_, did ∙ sym (append_assoc before.progress.did (happenings.Begin a ∷ []) _)) w.begins) in
                let began_way : IsWay first began = ways.does first before (drop 1 records) (happenings.Begin a ∷ []) w.way in
                let middle_way : IsWay first middle = ways.operates first a operation began h.checked effect h.done began_way in
                let stood : (last_of first (began.way ++ more.0)).progress.did ≡ before.progress.did ++ happenings.Begin a ∷ moments_in =
                ap (λ (points : List Point). (last_of first points).progress.did) (sym more.1)
                ∙ (middle_way.end ∙ (operated_did s a operation h.checked effect h.done h.operates began
                ∙ append_assoc before.progress.did (happenings.Begin a ∷ []) moments_in)) in
                let all : end.progress.did ≡ before.progress.did ++ happenings.Begin a ∷ (moments_in ++ happenings.End a ∷ w.begins.0) =
                w.begins.1 ∙ (ap (λ (d : List Happening). d ++ w.begins.0) did
                ∙ (append_assoc before.progress.did (access_does a effect) w.begins.0
                ∙ ap (λ (d : List Happening). before.progress.did ++ happenings.Begin a ∷ d) (append_assoc moments_in (happenings.End a ∷ []) w.begins.0))) in
                let way_is : end.way ≡ (began.way ++ more.0) ++ last ∷ w.ahead =
                w.to_end ∙ (ap (λ (points : List Point). points ++ w.ahead) after_way ∙ append_assoc (began.way ++ more.0) (last ∷ []) w.ahead) in
                let goes_so : IsInWhile a (length h.checked) (length (drop 1 records)) =
                λ n above below. open_from end.progress.did once a first end.way began.way more.0 w.ahead last n before.progress.did moments_in
                (happenings.End a ∷ w.begins.0) chain way_is (began_from a before records n w.behind below)
                (omega (arith, above, not_longer, one_left)) began_way.end stood w.paired (paired_none moments_in (none_of_effect a effect)) all in
                let its : IsInWhile h.begun.access (length h.checked) (length (drop 1 records)) =
                subst (λ (b : access.Access). IsInWhile b (length h.checked) (length (drop 1 records))) (sym h.begins.access) goes_so in
                record {
                  new = h.passes.outcomes;
                  outcomes = ap (λ (st : Standing). st.outcomes) h.comes_to;
                  good = λ others goes own at. check (checks_of s) IsKnown During before.scopes h.begun before.asked records h.passes h.checked h.check own now
                      (is_in h.begun (suc (length own)) (length own + length records) (length h.checked) (length h.checked) (length (drop 1 records)) at (omega arith)
                      (omega (arith, at, dropped)) its)
                      (are_in before.scopes (suc (length own)) (length own + length records) (length h.checked) (length rest) (length records) at
                      (omega (arith, not_longer, one_left)) (omega (arith, at)) w.scopes) others
                      (λ o so_far. operates (λ (r : List Record). Then r others) (plain_good others) s a operation h.checked effect h.done h.operates
                      (word_step (λ (r : List Record). Then r others) (plain_good others) s.text.task Clock _ h.done tt h.ends
                      (λ stamp later is. subst (λ (r : List Record). Then r others) is goes)) o (so_far ∙ at));
                };
          }

      scoped_part : (a : access.Access) → is_scoped a.kind ≡ true → (begun : Begun) (before opened closing after : Standing) (records inside later rest : List Record)
          → OpensScope s before a records begun opened inside → Part opened inside closing later → ClosesScope s closing begun before.scopes later after rest
          → Part before records after rest
      scoped_part a assertion begun before opened closing after records inside later rest opens inner closes =
          let opened_did : opened.progress.did ≡ before.progress.did ++ happenings.Begin a ∷ [] = ap (λ (st : Standing). st.progress.did) opens.comes_to in
          let last_did : after.progress.did ≡ closing.progress.did ++ happenings.End begun.access ∷ [] = ap (λ (st : Standing). st.progress.did) closes.comes_to in
          let inner_did : closing.progress.did ≡ before.progress.did ++ happenings.Begin a ∷ inner.begins.0 =
          inner.begins.1 ∙ (ap (λ (d : List Happening). d ++ inner.begins.0) opened_did ∙ append_assoc before.progress.did (happenings.Begin a ∷ []) inner.begins.0) in
          let does_all : List Happening = happenings.Begin a ∷ (inner.begins.0 ++ happenings.End a ∷ []) in
          let did : after.progress.did ≡ before.progress.did ++ does_all =
          last_did ∙ (ap (λ (b : access.Access). closing.progress.did ++ happenings.End b ∷ []) opens.begins.access
          ∙ (ap (λ (d : List Happening). d ++ happenings.End a ∷ []) inner_did
          ∙ append_assoc before.progress.did (happenings.Begin a ∷ inner.begins.0) (happenings.End a ∷ []))) in
          let opened_scopes : opened.scopes ≡ before.scopes ++ begun ∷ [] = ap (λ (st : Standing). st.scopes) opens.comes_to in
          let opened_way : opened.way ≡ before.way ++ begin_point a before records ∷ [] = ap (λ (st : Standing). st.way) opens.comes_to in
          let last : Point = comes_at closing rest (meaning.doing closing.progress (happenings.End begun.access ∷ [])) in
          let after_way : after.way ≡ (opened.way ++ inner.points) ++ last ∷ [] =
          ap (λ (st : Standing). st.way) closes.comes_to ∙ ap (λ (points : List Point). points ++ last ∷ []) inner.adds in
          let shorter : length inside < length records = check_shorter (checks_of s) before.scopes begun before.asked records opens.passes inside opens.check in
          let not_longer : length later ≤ length inside = inner.fewer in
          let one_less : length rest < length later = close_shorter (checks_of s) begun closes.silenced closing.asked later closes.passes rest closes.close in
          let dropped : length records ≤ suc (length (drop 1 records)) = drop_one records in
          record {
            begins = (does_all, did);
            paired = paired_access a inner.begins.0 inner.paired;
            scopes = ap (λ (st : Standing). st.scopes) closes.comes_to;
            fewer = omega (arith, shorter, not_longer, one_less);
            points = begin_point a before records ∷ (inner.points ++ last ∷ []);
            adds = after_way ∙ (append_assoc opened.way inner.points (last ∷ [])
                ∙ (ap (λ (points : List Point). points ++ (inner.points ++ last ∷ [])) opened_way
                ∙ append_assoc before.way (begin_point a before records ∷ []) (inner.points ++ last ∷ [])));
            from = (
              omega (arith, shorter, not_longer, one_less, dropped),
              from_both (length rest) inner.points (last ∷ []) (from_fewer (length later) (length rest) inner.points (omega (arith, one_less)) inner.from) (omega arith, tt),
            );
            runs = (ways.kept_way first s).scoped a assertion begun before opened closing after records inside later rest opens inner.runs closes;
            gives = λ w.
                let opened_runs : IsWay first opened = ways.same_way first (doing before (drop 1 records) (happenings.Begin a ∷ [])) opened opened_way opened_did
                (ways.does first before (drop 1 records) (happenings.Begin a ∷ []) w.way) in
                let closing_runs : IsWay first closing = inner.runs opened_runs in
                let from_closing : Begins closing.progress.did end.progress.did =
                begins_on closing.progress.did after.progress.did end.progress.did (happenings.End begun.access ∷ [], last_did) w.begins in
                let all : end.progress.did ≡ before.progress.did ++ happenings.Begin a ∷ (inner.begins.0 ++ from_closing.0) =
                from_closing.1 ∙ (ap (λ (d : List Happening). d ++ from_closing.0) inner_did
                ∙ append_assoc before.progress.did (happenings.Begin a ∷ inner.begins.0) from_closing.0) in
                let now : IsKnown begun = begins_known before a begun opens.begins
                (inner.begins.0 ++ from_closing.0, all ∙ sym (append_assoc before.progress.did (happenings.Begin a ∷ []) (inner.begins.0 ++ from_closing.0))) in
                let stood : (last_of first (opened.way ++ inner.points)).progress.did ≡ before.progress.did ++ happenings.Begin a ∷ inner.begins.0 =
                ap (λ (points : List Point). (last_of first points).progress.did) (sym inner.adds) ∙ (closing_runs.end ∙ inner_did) in
                let way_is : end.way ≡ (opened.way ++ inner.points) ++ last ∷ w.ahead =
                w.to_end ∙ (ap (λ (points : List Point). points ++ w.ahead) after_way ∙ append_assoc (opened.way ++ inner.points) (last ∷ []) w.ahead) in
                let behind_so : (n : ℕ) → n ≤ length (drop 1 records) → AllFrom n opened.way =
                λ n below. subst (λ (points : List Point). AllFrom n points) (sym opened_way) (began_from a before records n w.behind below) in
                let goes_so : IsInWhile a (suc (length rest)) (length (drop 1 records)) =
                λ n above below. open_from end.progress.did once a first end.way opened.way inner.points w.ahead last n before.progress.did inner.begins.0
                from_closing.0 chain way_is (behind_so n below) (omega (arith, above)) (opened_runs.end ∙ opened_did) stood w.paired inner.paired all in
                let its : IsInWhile begun.access (suc (length rest)) (length (drop 1 records)) =
                subst (λ (b : access.Access). IsInWhile b (suc (length rest)) (length (drop 1 records))) (sym opens.begins.access) goes_so in
                let its_inside : IsInWhile begun.access (length later) (length inside) =
                λ n above below. its n (omega (arith, above, one_less)) (omega (arith, below, shorter, dropped)) in
                let within : AllIn opened.scopes (length later) (length inside) =
                subst (λ (scopes : List Begun). AllIn scopes (length later) (length inside)) (sym opened_scopes)
                (in_with before.scopes begun (length later) (length inside)
                (in_less before.scopes (length rest) (length records) (length later) (length inside) (omega (arith, one_less)) (omega (arith, shorter)) w.scopes)
                now its_inside) in
                let middle : Gives opened inside closing later = inner.gives (record {
                  begins = from_closing;
                  ahead = last ∷ w.ahead;
                  to_end = way_is ∙ ap (λ (points : List Point). points ++ last ∷ w.ahead) (sym inner.adds);
                  behind = behind_so (length inside) (omega (arith, shorter, dropped));
                  way = opened_runs;
                  paired = subst (λ (d : List Happening). IsPaired d) (sym opened_did)
                      (paired_both before.progress.did (happenings.Begin a ∷ []) w.paired (paired_none (happenings.Begin a ∷ []) (tt, tt)));
                  scopes = within;
                }) in
                let opening : Gives before records opened inside = record {
                  new = opens.passes.outcomes;
                  outcomes = ap (λ (st : Standing). st.outcomes) opens.comes_to;
                  good = λ others goes own at. check (checks_of s) IsKnown During before.scopes begun before.asked records opens.passes inside opens.check own now
                      (is_in begun (suc (length own)) (length own + length records) (length inside) (suc (length rest)) (length (drop 1 records)) at
                      (omega (arith, not_longer, one_less)) (omega (arith, at, dropped)) its)
                      (are_in before.scopes (suc (length own)) (length own + length records) (length inside) (length rest) (length records) at
                      (omega (arith, not_longer, one_less)) (omega (arith, at)) w.scopes) others (λ o so_far. goes o (so_far ∙ at));
                } in
                let ending : Gives closing later after rest = record {
                  new = closes.passes.outcomes;
                  outcomes = ap (λ (st : Standing). st.outcomes) closes.comes_to;
                  good = λ others goes own at. close (checks_of s) IsKnown During begun closes.silenced closing.asked later closes.passes rest closes.close own
                      (silenced_too begun closes.silenced now)
                      (is_in (record begun { silenced = begun.silenced || closes.silenced }) (length own) (length own + length later) (suc (length rest)) (suc (length rest))
                      (length later) at (omega arith) (omega (arith, at)) (λ n above below. its n above (omega (arith, below, not_longer, shorter, dropped))))
                      others (λ o so_far. goes o (so_far ∙ at));
                } in
                both_given before opened after records inside rest opening (both_given opened closing after inside later rest middle ending);
          }

      -- a part that does this without a check
      plainly : (before after : Standing) (records rest : List Record) (did : List Happening) (progress : meaning.Progress) (counted : Standing)
          → after.progress.did ≡ before.progress.did ++ did → NoneEnds did → after.scopes ≡ before.scopes → length rest ≤ length records
          → after.way ≡ before.way ++ comes_at counted rest progress ∷ [] → (IsWay first before → IsWay first after) → after.outcomes ≡ before.outcomes
          → ((more : List Fallen) → Then rest more → Then records more) → Part before records after rest
      plainly before after records rest did progress counted is none scopes fewer way runs same good = record {
        begins = (did, is);
        paired = paired_none did none;
        scopes = scopes;
        fewer = fewer;
        points = comes_at counted rest progress ∷ [];
        adds = way;
        from = (omega arith, tt);
        runs = runs;
        gives = λ w. nothing_given before after records rest same good;
      }

      counting_way : (ends_nothing : Bool) (before : Standing) → (counting ends_nothing before).way ≡ before.way
      counting_way true before = refl
      counting_way false before = refl

      kept_parts : Kept s Part
      kept_parts = record {
        still = λ before records. record {
          begins = ([], sym (append-nil before.progress.did));
          paired = paired_none [] tt;
          scopes = refl;
          fewer = omega arith;
          points = [];
          adds = sym (append-nil before.way);
          from = tt;
          runs = λ way. way;
          gives = λ w. nothing_given before before records records refl (λ more goes. goes);
        };
        joins = λ before between after records later rest p q. record {
          begins = (
            p.begins.0 ++ q.begins.0,
            q.begins.1 ∙ (ap (λ (d : List Happening). d ++ q.begins.0) p.begins.1 ∙ append_assoc before.progress.did p.begins.0 q.begins.0),
          );
          paired = paired_both p.begins.0 q.begins.0 p.paired q.paired;
          scopes = q.scopes ∙ p.scopes;
          fewer = let one : length later ≤ length records = p.fewer in let two : length rest ≤ length later = q.fewer in omega (arith, one, two);
          points = p.points ++ q.points;
          adds = q.adds ∙ (ap (λ (points : List Point). points ++ q.points) p.adds ∙ append_assoc before.way p.points q.points);
          from = from_both (length rest) p.points q.points (from_fewer (length later) (length rest) p.points q.fewer p.from) q.from;
          runs = λ way. q.runs (p.runs way);
          gives = λ w. both_given before between after records later rest
              (p.gives (within_first before between after records later rest p q w)) (q.gives (within_second before between after records later rest p q w));
        };
        marked = λ ends_nothing count m before records.
            let counted : Standing = counting ends_nothing before in
            let marks : List Happening = replicate count (happenings.Mark m) in
            plainly before (doing counted records marks) records records marks (meaning.doing counted.progress marks) counted
            (ap (λ (p : meaning.Progress). p.did ++ marks) (counting_progress ends_nothing before)) (none_of_marks count m)
            (counting_scopes ends_nothing before) (omega arith)
            (ap (λ (points : List Point). points ++ comes_at counted records (meaning.doing counted.progress marks) ∷ []) (counting_way ends_nothing before))
            ((ways.kept_way first s).marked ends_nothing count m before records) (counting_outcomes ends_nothing before) (λ more goes. goes);
        lost = λ before records.
            plainly before (coming (counting true before) records before.progress) records records [] before.progress (counting true before)
            (sym (append-nil before.progress.did)) tt refl (omega arith) refl ((ways.kept_way first s).lost before records) refl (λ more goes. goes);
        assigned = λ before records register value.
            plainly before (registered before records register value) records records [] (meaning.assigning before.progress register value) before
            (sym (append-nil before.progress.did)) tt refl (omega arith) refl ((ways.kept_way first s).assigned before records register value) refl (λ more goes. goes);
        makes = makes_part;
        locks = λ lock before records rest is takes.
            plainly before (doing before rest (happenings.Lock lock ∷ [])) records rest (happenings.Lock lock ∷ []) (meaning.doing before.progress (happenings.Lock lock ∷ [])) before
            refl (tt, tt) refl
            (takes_lock (λ (r : List Record). length rest ≤ length r) (longer_by (length rest)) s.text.task (lock_number s lock) records rest takes (omega arith))
            refl ((ways.kept_way first s).locks lock before records rest is takes) refl
            (λ more goes. takes_lock (λ (r : List Record). Then r more) (plain_good more) s.text.task (lock_number s lock) records rest takes goes);
        unlocks = λ lock before records rest has stores.
            plainly before (doing before rest (happenings.Unlock lock ∷ [])) records rest (happenings.Unlock lock ∷ []) (meaning.doing before.progress (happenings.Unlock lock ∷ [])) before
            refl (tt, tt) refl
            (done_step (λ (r : List Record). length rest ≤ length r) (longer_by (length rest)) s.text.task (LockStore (lock_number s lock)) records rest tt stores (omega arith))
            refl ((ways.kept_way first s).unlocks lock before records rest has stores) refl
            (λ more goes. done_step (λ (r : List Record). Then r more) (plain_good more) s.text.task (LockStore (lock_number s lock)) records rest tt stores goes);
        scoped = scoped_part;
      }

-- all records of a text, and all outcomes of its checks
pub whole_text : (s : Setting) (registers : ℕ) (body : Block) (records : List Record) (whole : SpellsAll s registers body records) (first : Point)
    → first.progress.did ≡ [] → Chain first whole.end.way
    → ((a : access.Access) (p q r t : List Happening) → whole.end.progress.did ≡ p ++ happenings.Begin a ∷ q
    → whole.end.progress.did ≡ r ++ happenings.Begin a ∷ t → p ≡ r)
    → AreGood s whole.end first (length records) [] records whole.end.outcomes
whole_text s registers body records whole first empty chain once =
    let part = by_block s (Part s whole.end first (length records)) (kept_parts s whole.end first (length records) chain once)
    0 body (at_first registers) records whole.end [] whole.steps in
    let gives = part.gives (record {
      begins = begins_same whole.end.progress.did;
      ahead = [];
      to_end = sym (append-nil whole.end.way);
      behind = tt;
      way = record { chain = tt; end = empty };
      paired = paired_none [] tt;
      scopes = tt;
    }) in
    subst (λ (o : List Fallen). AreGood s whole.end first (length records) [] records o) (append-nil gives.new ∙ sym gives.outcomes)
    (gives.good [] (λ own at. (tt, tt)) [] (let n : ℕ = length records in omega arith))
