-- A text with other stamps is spelled still, with the same outcomes.
use Rattle.std.proofs.Common.{◌≡◌, ◌↔◌, ◌∙◌, ◌++◌, ◌==◌, ◌+◌, ◌∷◌, [], ℕ, zero, suc, Bool, true, false, List, IsTrue, Option, None, Some, ap, drop, inl, inr, length, map}
use Rattle.std.proofs.Common.{refl, replicate, subst, sym, if◌then◌else◌}
use Rattle.std.proofs.lemmas.List.{map-append}
use Rattle.access_types.specs.Access as access
use Rattle.access_types.specs.declared.history.Happening.{Happening}
use Rattle.access_types.specs.declared.history.Happening.TheVariants as happenings
use Rattle.access_types.specs.declared.history.Mark.{Mark}
use Rattle.access_types.specs.declared.history.Mark.TheVariants as marks
use Rattle.access_types.specs.declared.history.Bytes.{Bytes}
use Rattle.access_types.specs.declared.kind.Kind.{Kind}
use Rattle.slot_table.specs.declared.records.Record.{Record}
use Rattle.slot_table.specs.declared.step.Answer.{Answer}
use Rattle.slot_table.specs.declared.step.Step.TheVariants.{LockStore}
use Rattle.litmus_syntax.specs.Sites.{accesses_of, sites_of}
use Rattle.litmus_syntax.specs.Tree.{Assignment, Block, Expression, Load, Statement}
use Rattle.litmus_syntax.specs.Tree as tree
use Rattle.litmus_syntax.specs.declared.statement.Call.{Call}
use Rattle.litmus_syntax.specs.declared.statement.Call.TheVariants as calls
use Rattle.litmus_semantics.specs.Assignments.{compound_kind, write_kind}
use Rattle.litmus_semantics.specs.Calls.{Scoped, scoped_assertion}
use Rattle.litmus_semantics.specs.Loads.{exchange_kind, fetch_kind, load_in, variable_of}
use Rattle.litmus_semantics.specs.Meaning.{after_condition}
use Rattle.litmus_semantics.specs.Task.{Progress, access_now, bytes_in, has_lock}
use Rattle.litmus_semantics.specs.Task as meaning
use Rattle.access_run.specs.memory_operation.Effects.{moments_of, read_moments, write_moments}
use Rattle.access_run.specs.declared.memory_operation.effect.Effect.{Effect}
use Rattle.access_run.specs.declared.memory_operation.operation.Operation.{Operation}
use Rattle.access_run.specs.declared.memory_operation.operation.Operation.TheVariants as operations
use Rattle.setup_access.specs.Check.{Fallen}
use Rattle.setup_access.specs.declared.begun.Begun.{Begun}
use Rattle.program_order.specs.Access.{Makes, operated}
use Rattle.program_order.specs.Standing.{BeginsNow, EndsNothing, Setting, Standing, checks_of, coming, counting, doing, lock_number, registered}
use Rattle.program_order.specs.WrittenOrder.{ChecksAt, ClosesScope, MakesMark, Only, OpensScope, StepsInBlock, StepsInDataRace, StepsOf, StepsOfAssignment, StepsOfBlock}
use Rattle.program_order.specs.WrittenOrder.{StepsOfCall, StepsOfExpression, StepsOfLoad, StepsOfTurns, fetch_operation, marked_so_often}
use Rattle.executions.proofs.timestamp_irrelevance.Checks.{check, close, fallen_there, passes_there}
use Rattle.executions.proofs.timestamp_irrelevance.Operations.{locks, operates}
use Rattle.executions.proofs.timestamp_irrelevance.Restamped.{GivesStamps, done, either_way, restamped, same_length, stamp}

module _ (given : ℕ → Record → Answer) (gives : GivesStamps given) where
  abbrev put : List Record → List Record
  put records = restamped given records

  abbrev there : List Fallen → List Fallen
  there fallen = map (fallen_there given gives) fallen

  -- where a task stands, with its outcomes as they fall there
  abbrev pub standing_there : Standing → Standing
  standing_there before = record before { outcomes = there before.outcomes }

  comes : (before : Standing) (later : List Record) (progress : Progress)
      → standing_there (coming before later progress) ≡ coming (standing_there before) (put later) progress
  comes before later progress =
      ap (λ (left : ℕ). record before {
        progress = progress;
        way = before.way ++ record { to_come = left; progress = progress; unbalanced = before.unbalanced } ∷ [];
        outcomes = there before.outcomes;
      }) (sym (same_length given later))

  does : (before : Standing) (later : List Record) (did : List Happening)
      → standing_there (doing before later did) ≡ doing (standing_there before) (put later) did
  does before later did = comes before later (meaning.doing before.progress did)

  drops_one : (records : List Record) → drop 1 (put records) ≡ put (drop 1 records)
  drops_one [] = refl
  drops_one (first ∷ later) = refl

  counts : (nothing : Bool) (before : Standing) → standing_there (counting nothing before) ≡ counting nothing (standing_there before)
  counts true before = refl
  counts false before = refl

  -- what an access comes to
  stands : (one other : Standing) (asked : ℕ) (scopes : List Begun) (before fell : List Fallen) → standing_there one ≡ other
      → standing_there (record one { asked = asked; scopes = scopes; outcomes = before ++ fell })
      ≡ record other { asked = asked; scopes = scopes; outcomes = there before ++ there fell }
  stands one other asked scopes before fell same =
      ap (λ (o : List Fallen). record one { asked = asked; scopes = scopes; outcomes = o }) (map-append (fallen_there given gives) before fell)
      ∙ ap (λ (st : Standing). record st { asked = asked; scopes = scopes; outcomes = there before ++ there fell }) same

  stands_on : (one other : Standing) (asked : ℕ) (before fell : List Fallen) → standing_there one ≡ other
      → standing_there (record one { asked = asked; outcomes = before ++ fell }) ≡ record other { asked = asked; outcomes = there before ++ there fell }
  stands_on one other asked before fell same =
      ap (λ (o : List Fallen). record one { asked = asked; outcomes = o }) (map-append (fallen_there given gives) before fell)
      ∙ ap (λ (st : Standing). record st { asked = asked; outcomes = there before ++ there fell }) same

  module _ (s : Setting) where
    -- a part of a text, which is so with other stamps too
    abbrev Holds : (Standing → List Record → Standing → List Record → Type 0) → Type 0
    Holds Own = (before : Standing) (records : List Record) (after : Standing) (rest : List Record) → Own before records after rest
        → Own (standing_there before) (put records) (standing_there after) (put rest)

    only : (this that after : Standing) (records rest : List Record) → standing_there this ≡ that → Only this records after rest
        → Only that (put records) (standing_there after) (put rest)
    only this that after records rest same h = (ap standing_there h.0 ∙ same, ap put h.1)

    begins_now : (a : access.Access) (begun : Begun) (before : Standing) → BeginsNow s before a begun → BeginsNow s (standing_there before) a begun
    begins_now a begun before now = record { own = now.own; access = now.access; marked = now.marked; silenced = now.silenced }

    does_from : (before start : Standing) (later : List Record) (did : List Happening) → standing_there before ≡ start
        → standing_there (doing before later did) ≡ doing start (put later) did
    does_from before start later did same = does before later did ∙ ap (λ (st : Standing). doing st (put later) did) same

    begins_from : (before start : Standing) (records : List Record) (did : List Happening) → standing_there before ≡ start
        → standing_there (doing before (drop 1 records) did) ≡ doing start (drop 1 (put records)) did
    begins_from before start records did same =
        does_from before start (drop 1 records) did same ∙ ap (λ (r : List Record). doing start r did) (sym (drops_one records))

    did_operate : (a : access.Access) (operation : Option Operation) (before start : Standing) (records : List Record) (effect : Effect) (rest : List Record)
        → standing_there before ≡ start
        → standing_there (operated a operation before records effect rest) ≡ operated a operation start (put records) effect (put rest)
    did_operate a None before start records effect rest same = same
    did_operate a (Some operations.Load) before start records effect rest same = does_from before start rest (moments_of a effect) same
    did_operate a (Some (operations.Add amount)) before start records effect rest same =
        does_from (doing before (drop 1 records) (read_moments a effect.read)) (doing start (drop 1 (put records)) (read_moments a effect.read)) rest
        (write_moments a effect.written) (begins_from before start records (read_moments a effect.read) same)
    did_operate a (Some (operations.Change change)) before start records effect rest same = does_from before start rest (moments_of a effect) same

    makes : (a : access.Access) (operation : Option Operation) (before : Standing) (records : List Record) (effect : Effect) (after : Standing)
        (rest : List Record) → Makes s before a operation records effect after rest
        → Makes s (standing_there before) a operation (put records) effect (standing_there after) (put rest)
    makes a operation before records effect after rest h =
        let began = doing before (drop 1 records) (happenings.Begin a ∷ []) in
        let began_there = doing (standing_there before) (drop 1 (put records)) (happenings.Begin a ∷ []) in
        let made = operated a operation began h.checked effect h.done in
        let made_there = operated a operation began_there (put h.checked) effect (put h.done) in
        let same : standing_there made ≡ made_there =
        did_operate a operation began began_there h.checked effect h.done (begins_from before (standing_there before) records (happenings.Begin a ∷ []) refl) in
        let ended : standing_there (doing made rest (happenings.End a ∷ [])) ≡ doing made_there (put rest) (happenings.End a ∷ []) =
        does made rest (happenings.End a ∷ []) ∙ ap (λ (st : Standing). doing st (put rest) (happenings.End a ∷ [])) same in
        record {
          begun = h.begun;
          passes = passes_there given gives h.passes;
          checked = put h.checked;
          done = put h.done;
          begins = begins_now a h.begun before h.begins;
          check = check given gives (checks_of s) before.scopes h.begun before.asked records h.passes h.checked h.check;
          operates = operates given gives (checks_of s) a operation h.checked effect h.done h.operates;
          ends = stamp given gives s.text.task _ _ h.done h.ends (λ later over. ap put over);
          comes_to = ap standing_there h.comes_to
              ∙ stands_on (doing made rest (happenings.End a ∷ [])) (doing made_there (put rest) (happenings.End a ∷ [])) h.passes.asked before.outcomes
              h.passes.outcomes ended;
        }

    checks_at : (site : ℕ) (bytes : Bytes) (kind : Kind) (mask : Option ℕ) → Holds (λ b records a rest. ChecksAt s site bytes kind mask b records a rest)
    checks_at site bytes kind mask before records after rest h =
        (h.0, makes (access_now s.text site before.progress bytes kind mask) None before records h.0 after rest h.1)

    loads : (site : ℕ) (l : Load) (before : Standing) (records : List Record) (loaded : ℕ) (after : Standing) (rest : List Record)
        → StepsOfLoad s site l before records loaded after rest
        → StepsOfLoad s site l (standing_there before) (put records) loaded (standing_there after) (put rest)
    loads site l before records loaded after rest h =
        let off = marked_so_often l.data_races (happenings.Mark marks.Disable) before records in
        let it = makes (access_now s.text site off.progress (bytes_in s.text (variable_of l.fetch)) (fetch_kind l.fetch) None)
        (Some (fetch_operation before.progress.registers l.fetch)) off records h.1 h.2 rest h.3 in (
          h.0,
          h.1,
          standing_there h.2,
          subst (λ (st : Standing). Makes s st (access_now s.text site st.progress (bytes_in s.text (variable_of l.fetch)) (fetch_kind l.fetch) None)
              (Some (fetch_operation before.progress.registers l.fetch)) (put records) h.1 (standing_there h.2) (put rest))
              (does before records (replicate l.data_races (happenings.Mark marks.Disable))) it,
          h.4,
          h.5,
          ap standing_there h.6 ∙ does h.2 rest (replicate l.data_races (happenings.Mark marks.Enable)),
        )

    expresses : (site : ℕ) (e : Expression) (before : Standing) (records : List Record) (value : ℕ) (after : Standing) (rest : List Record)
        → StepsOfExpression s site e before records value after rest
        → StepsOfExpression s site e (standing_there before) (put records) value (standing_there after) (put rest)
    expresses site (tree.pure e) before records value after rest h = (h.0, ap standing_there h.1, ap put h.2)
    expresses site (tree.loading e) before records value after rest h =
        (h.0, loads site (load_in e) before records h.0 after rest h.1, h.2)

    changing : (site x : ℕ) (kind : Kind) (operation : Operation) (before : Standing) (records : List Record) (after : Standing) (rest : List Record)
        → (effect : Effect) × Makes s before (access_now s.text site before.progress (bytes_in s.text x) kind None) (Some operation) records effect after rest
        → (effect : Effect) × Makes s (standing_there before) (access_now s.text site before.progress (bytes_in s.text x) kind None) (Some operation)
        (put records) effect (standing_there after) (put rest)
    changing site x kind operation before records after rest h =
        (h.0, makes (access_now s.text site before.progress (bytes_in s.text x) kind None) (Some operation) before records h.0 after rest h.1)

    assigns : (site : ℕ) (a : Assignment) → Holds (λ b records after rest. StepsOfAssignment s site a b records after rest)
    assigns site (tree.to_register r e) before records after rest h =
        let last : standing_there (registered h.1 rest r h.0) ≡ registered (standing_there h.1) (put rest) r h.0 =
        comes h.1 rest (meaning.assigning (h.1).progress r h.0) in
        (h.0, standing_there h.1, expresses site e before records h.0 h.1 rest h.2, ap standing_there h.3 ∙ last)
    assigns site (tree.write form x e) before records after rest h = changing site x (write_kind form) _ before records after rest h
    assigns site (tree.add x e) before records after rest h = changing site x compound_kind _ before records after rest h
    assigns site (tree.increment x) before records after rest h = changing site x compound_kind _ before records after rest h
    assigns site (tree.atomic_add e x) before records after rest h = changing site x exchange_kind _ before records after rest h
    assigns site (tree.atomic_increment x) before records after rest h = changing site x exchange_kind _ before records after rest h
    assigns site (tree.atomic_decrement x) before records after rest h = changing site x exchange_kind _ before records after rest h

    in_data_race : (site : ℕ) (race : Bool) (a : Assignment) → Holds (λ b records after rest. StepsInDataRace s site race a b records after rest)
    in_data_race site race a before records after rest h =
        let count : ℕ = if race then 1 else 0 in
        let off = replicate count (happenings.Mark marks.Disable) in (
          standing_there h.0,
          subst (λ (st : Standing). StepsOfAssignment s site a st (put records) (standing_there h.0) (put rest)) (does before records off)
              (assigns site a (doing before records off) records h.0 rest h.1),
          ap standing_there h.2 ∙ does h.0 rest (replicate count (happenings.Mark marks.Enable)),
        )

    marks_now : (m : Mark) → Holds (λ b records after rest. MakesMark s m b records after rest)
    marks_now m before records after rest h = (
      h.0,
      nothing_there m h.0 h.1,
      only _ _ after records rest
          (does (counting h.0 before) records (happenings.Mark m ∷ [])
          ∙ ap (λ (st : Standing). doing st (put records) (happenings.Mark m ∷ [])) (counts h.0 before)) h.2,
    )
      where
        nothing_there : (m : Mark) (nothing : Bool) → IsTrue nothing ↔ EndsNothing s before m → IsTrue nothing ↔ EndsNothing s (standing_there before) m
        nothing_there marks.Disable nothing h = h
        nothing_there marks.Enable nothing h = h
        nothing_there marks.NestOpen nothing h = h
        nothing_there marks.NestClose nothing h = h
        nothing_there marks.FlatBegin nothing h = h
        nothing_there marks.FlatEnd nothing h = h
        nothing_there (marks.Next count) nothing h = h

    unlocks : (l : ℕ) → Holds (λ b records after rest. StepsOfCall s 0 (calls.Unlock l) b records after rest)
    unlocks l before records after rest h = either_way (has_lock l before.progress.did) _ _ _ _
        (λ stores. (
          done given gives s.text.task (LockStore (lock_number s l)) _ _ (λ none. none) records stores.0 (λ later over. ap put over),
          ap standing_there stores.1 ∙ does before rest (happenings.Unlock l ∷ []),
        ))
        (λ nothing. only _ _ after records rest (comes (counting true before) records before.progress) nothing) h

    called : (site : ℕ) (c : Call) → Holds (λ b records after rest. StepsOfCall s site c b records after rest)
    called site (calls.Barrier b) before records after rest h = only before (standing_there before) after records rest refl h
    called site (calls.Lock l) before records after rest h =
        (h.0, locks given gives s.text.task (lock_number s l) records rest h.1, ap standing_there h.2 ∙ does before rest (happenings.Lock l ∷ []))
    called site (calls.Unlock l) before records after rest h = unlocks l before records after rest h
    called site (calls.AssertWriter x scoped) before records after rest h = checks_at site _ _ _ before records after rest h
    called site (calls.AssertAccess x scoped) before records after rest h = checks_at site _ _ _ before records after rest h
    called site (calls.AssertBits x mask) before records after rest h =
        (standing_there h.0, checks_at site _ _ _ before records h.0 rest h.1, ap standing_there h.2 ∙ does h.0 rest (happenings.Mark (marks.Next 1) ∷ []))
    called site (calls.Mark m) before records after rest h = marks_now m before records after rest h
    called site (calls.Check is_write x size) before records after rest h = either_way (size == 0) _ _ _ _
        (λ nothing. only before (standing_there before) after records rest refl nothing)
        (λ checks. checks_at site _ _ _ before records after rest checks) h

    turns : (Body : Standing → List Record → Standing → List Record → Type 0) → Holds Body → (r turn left : ℕ) → Holds (StepsOfTurns Body r turn left)
    turns Body each r turn zero before records after rest h =
        only (registered before records r turn) (registered (standing_there before) (put records) r turn) after records rest
        (comes before records (meaning.assigning before.progress r turn)) h
    turns Body each r turn (suc left) before records after rest h = (
      standing_there h.0,
      put h.1,
      subst (λ (st : Standing). Body st (put records) (standing_there h.0) (put h.1)) (comes before records (meaning.assigning before.progress r turn))
          (each (registered before records r turn) records h.0 h.1 h.2),
      turns Body each r (suc turn) left h.0 h.1 after rest h.3,
    )

    opens : (a : access.Access) (begun : Begun) (before : Standing) (records : List Record) (after : Standing) (rest : List Record)
        → OpensScope s before a records begun after rest
        → OpensScope s (standing_there before) a (put records) begun (standing_there after) (put rest)
    opens a begun before records after rest h = record {
      passes = passes_there given gives h.passes;
      begins = begins_now a begun before h.begins;
      check = check given gives (checks_of s) before.scopes begun before.asked records h.passes rest h.check;
      comes_to = ap standing_there h.comes_to
          ∙ stands (doing before (drop 1 records) (happenings.Begin a ∷ [])) _ h.passes.asked (before.scopes ++ begun ∷ []) before.outcomes h.passes.outcomes
          (begins_from before (standing_there before) records (happenings.Begin a ∷ []) refl);
    }

    closes : (begun : Begun) (scopes : List Begun) (before : Standing) (records : List Record) (after : Standing) (rest : List Record)
        → ClosesScope s before begun scopes records after rest
        → ClosesScope s (standing_there before) begun scopes (put records) (standing_there after) (put rest)
    closes begun scopes before records after rest h = record {
      passes = passes_there given gives h.passes;
      silenced = h.silenced;
      is_silenced = h.is_silenced;
      close = close given gives (checks_of s) begun h.silenced before.asked records h.passes rest h.close;
      comes_to = ap standing_there h.comes_to
          ∙ stands (doing before rest (happenings.End begun.access ∷ [])) _ h.passes.asked scopes before.outcomes h.passes.outcomes
          (does before rest (happenings.End begun.access ∷ []));
    }

    in_block : (site : ℕ) (scoped : Option Scoped) (Own Later : Standing → List Record → Standing → List Record → Type 0) → Holds Own → Holds Later
        → Holds (StepsInBlock s site scoped Own Later)
    in_block site None Own Later own later before records after rest h =
        (standing_there h.0, put h.1, own before records h.0 h.1 h.2, later h.0 h.1 after rest h.3)
    in_block site (Some scoped) Own Later own later before records after rest h = (
      h.0,
      standing_there h.1,
      standing_there h.2,
      put h.3,
      put h.4,
      opens _ h.0 before records h.1 h.3 h.5,
      later h.1 h.3 h.2 h.4 h.6,
      closes h.0 before.scopes h.2 h.4 after rest h.7,
    )

    mutual
      statement : (site : ℕ) (st : Statement) → Holds (λ b records a rest. StepsOf s site st b records a rest)
      statement site (tree.load_only l) before records after rest h = (h.0, loads site l before records h.0 after rest h.1)
      statement site (tree.assign race a) before records after rest h = in_data_race site race a before records after rest h
      statement site (tree.call c) before records after rest h = called site c before records after rest h
      statement site (tree.if_block e body) before records after rest h = (
        h.0,
        standing_there h.1,
        put h.2,
        expresses site e before records h.0 h.1 h.2 h.3,
        elim h.4 [
          | inl holds ↦ inl (holds.0, block (after_condition site e) body h.1 h.2 after rest holds.1)
          | inr fails ↦ inr (fails.0, (ap standing_there (fails.1).0, ap put (fails.1).1))
        ],
      )
      statement site (tree.if_else e body otherwise) before records after rest h = (
        h.0,
        standing_there h.1,
        put h.2,
        expresses site e before records h.0 h.1 h.2 h.3,
        elim h.4 [
          | inl holds ↦ inl (holds.0, block (after_condition site e) body h.1 h.2 after rest holds.1)
          | inr fails ↦ inr (fails.0, block (after_condition site e + length (sites_of body)) otherwise h.1 h.2 after rest fails.1)
        ],
      )
      statement site (tree.for_turns r count body) before records after rest h =
          turns (λ b records a rest. StepsOfBlock s site body b records a rest) (λ b records a rest p. block site body b records a rest p) r 0 count
          before records after rest h

      pub block : (site : ℕ) (body : Block) → Holds (λ b records a rest. StepsOfBlock s site body b records a rest)
      block site tree.empty before records after rest h = (ap standing_there h.0, ap put h.1)
      block site (tree.first st more) before records after rest h =
          in_block site (scoped_assertion st)
          (λ b records a rest. StepsOf s site st b records a rest)
          (λ b records a rest. StepsOfBlock s (site + length (accesses_of st)) more b records a rest)
          (λ b records a rest p. statement site st b records a rest p)
          (λ b records a rest p. block (site + length (accesses_of st)) more b records a rest p)
          before records after rest h
