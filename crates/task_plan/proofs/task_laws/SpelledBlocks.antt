-- Each block is spelled by some records where it fits.
use Rattle.std.proofs.Common.{◌≡◌, ◌<◌, ◌≤◌, ◌∙◌, ◌+◌, ◌++◌, ℕ, Bool, true, false, List, [], ◌∷◌, Option, None}
use Rattle.std.proofs.Common.{Some, ap, append_assoc, arith, drop, inl, inr, le_refl, length, length-append, refl, subst, sym, if◌then◌else◌}
use Rattle.std.proofs.lemmas.Bool.{cases_eq}
use Rattle.access_run.proofs.CheckEnds.{some_check, some_close}
use Rattle.access_run.proofs.CheckFronts.{close, framed_checks}
use Rattle.access_run.proofs.LeadsLemmas.{check_joined}
use Rattle.access_run.specs.Moved.{moved}
use Rattle.access_types.specs.Access.{Access}
use Rattle.access_types.specs.declared.history.Happening.TheVariants as happenings
use Rattle.litmus_semantics.specs.Calls.{Scoped, scoped_access, scoped_assertion}
use Rattle.litmus_semantics.specs.Meaning.{Chooses, after_condition}
use Rattle.litmus_semantics.specs.Task as meaning
use Rattle.litmus_semantics.specs.Task.{access_now, bytes_in}
use Rattle.litmus_syntax.specs.Limits.{BlockTyped, IsVariable, StatementTyped}
use Rattle.litmus_syntax.specs.Sites.{accesses_of, assignment_has_access, call_has_access, expression_has_access, sites_of}
use Rattle.litmus_syntax.specs.Tree.{Block, Expression, Statement}
use Rattle.litmus_syntax.specs.Tree as tree
use Rattle.litmus_syntax.specs.declared.statement.Call.TheVariants as calls
use Rattle.setup_access.specs.Check.{Check, Close, Passes}
use Rattle.setup_access.specs.OwnAccesses.{AreOwn, IsOwn}
use Rattle.setup_access.specs.Setting as checks
use Rattle.setup_access.specs.declared.begun.Begun.{Begun}
use Rattle.slot_table.specs.declared.records.Record.{Record}
use Rattle.task_plan.proofs.task_laws.SpelledAccesses.{begun_more}
use Rattle.task_plan.proofs.task_laws.Decided.{begins_now, disabled_told}
use Rattle.task_plan.proofs.task_laws.Parts.{Both, Spelled, spelled_as, spelled_both, turns_spelled}
use Rattle.task_plan.proofs.task_laws.Statements.{assign_spelled, call_spelled, expression_spelled, few_at, in_range, load_spelled, fetch_bytes, memory_bytes, no_mask, own_access}
use Rattle.task_plan.specs.task_laws.Begins.{block_begins, one_at, own_begins, statement_begins}
use Rattle.task_plan.specs.task_laws.StandingButWay.{Core, begun_at, standing}
use Rattle.task_plan.specs.task_laws.Fits.{ArePlaced, HasBytes}
use Rattle.task_plan.proofs.KeepsLemmas.{begun_still}
use Rattle.program_order.specs.Standing.{BeginsNow, Setting, Standing, checks_of, doing}
use Rattle.program_order.specs.WrittenOrder.{ClosesScope, OpensScope, Steps, StepsInBlock, StepsOf, StepsOfBlock, StepsOfExpression}

pub own_more : (s : checks.Setting) (scopes : List Begun) (begun : Begun) → AreOwn s scopes → IsOwn s begun.access → AreOwn s (scopes ++ begun ∷ [])
own_more s [] begun are is = (is, tt)
own_more s (scope ∷ scopes) begun are is = (are.0, own_more s scopes begun are.1 is)

-- where a part of a text begins with a site of its own or not
pub after_own : (has : Bool) (statement : Statement) (site : ℕ) (inside : List Statement)
    → site + length ((if has then statement ∷ [] else []) ++ inside) ≤ 256
    → ((if has then site + 1 else site) + length inside ≤ 256) × (has ≡ true → site < 256)
after_own true statement site inside fits =
    let all : length ((statement ∷ []) ++ inside) ≡ 1 + length inside = length-append (statement ∷ []) inside in (omega (arith, all, fits), λ yes. omega (arith, all, fits))
after_own false statement site inside fits = (fits, λ yes. absurd (cc))

pub alone : (has : Bool) (statement : Statement) (site : ℕ) → site + length (if has then statement ∷ [] else []) ≤ 256 → has ≡ true → site < 256
alone true statement site fits = λ yes. omega (arith, fits)
alone false statement site fits = λ yes. absurd (cc)

module _ (s : Setting) (placed : ArePlaced s) where
  -- a scoped assertion opens, and closes after what follows in its block
  opens : (at : Core) (site : ℕ) (scoped : Scoped) → site < 256 → begun_at site at < 256 → AreOwn (checks_of s) at.scopes → HasBytes s scoped.variable
      → (begun : Begun) × (passes : Passes) × (records : List Record)
      × BeginsNow s (standing at [] []) (scoped_access s.text site at.progress scoped) begun
      × Check (checks_of s) at.scopes begun at.asked records passes []
  opens at site scoped below few own has =
      let a : Access = scoped_access s.text site at.progress scoped in
      let is_own : IsOwn (checks_of s) a =
      own_access s placed site at.progress (bytes_in s.text scoped.variable) scoped.kind None below few (in_range s placed scoped.variable has) (no_mask s placed) in
      let begun = begins_now s (standing at [] []) a is_own has.some in
      let begun_own : IsOwn (checks_of s) begun.0.access = subst (λ (b : Access). IsOwn (checks_of s) b) (sym begun.1.access) is_own in
      let check = some_check (checks_of s) at.scopes begun.0 at.asked begun_own own in
      (begun.0, check.1, check.0, begun.1, check.2)

  close_joined : (scope : Begun) (silenced : Bool) (asked : ℕ) (part later : List Record) (passes : Passes)
      → Close (checks_of s) scope silenced asked part passes [] → Close (checks_of s) scope silenced asked (part ++ later) (moved later passes) later
  close_joined scope silenced asked part later passes h =
      (framed_checks (Close (checks_of s) scope silenced asked) (close (checks_of s) scope silenced asked) (part ++ later) (moved later passes) later).1
      (part, passes, h, refl, refl)

  abbrev opened_at : Core → Access → Begun → Passes → Core
  opened_at at a begun passes = record {
    progress = meaning.doing at.progress (happenings.Begin a ∷ []);
    unbalanced = at.unbalanced;
    asked = passes.asked;
    scopes = at.scopes ++ begun ∷ [];
  }

  abbrev closed_at : Core → List Begun → Begun → Passes → Core
  closed_at at scopes begun passes = record {
    progress = meaning.doing at.progress (happenings.End begun.access ∷ []);
    unbalanced = at.unbalanced;
    asked = passes.asked;
    scopes = scopes;
  }

  scoped_spelled : (Own Later : Steps) (at : Core) (site : ℕ) (scoped : Scoped) (more : ℕ → ℕ) → site < 256 → begun_at site at < 256
      → AreOwn (checks_of s) at.scopes → HasBytes s scoped.variable
      → ((opened : Core) → ((k : ℕ) → begun_at k opened ≡ begun_at k at + one_at site k) → AreOwn (checks_of s) opened.scopes → Spelled Later opened more)
      → Spelled (λ before records after rest. StepsInBlock s site (Some scoped) Own Later before records after rest) at (λ k. one_at site k + more k)
  scoped_spelled Own Later at site scoped more below few own has later =
      let a : Access = scoped_access s.text site at.progress scoped in
      let open_it = opens at site scoped below few own has in
      let begun : Begun = open_it.0 in
      let begun_own : IsOwn (checks_of s) begun.access = subst (λ (b : Access). IsOwn (checks_of s) b) (sym open_it.3.access) open_it.3.own in
      let opened : Core = opened_at at a begun open_it.1 in
      let raised : (k : ℕ) → begun_at k opened ≡ begun_at k at + one_at site k = λ k. begun_more k at.progress.did a in
      let inside : Spelled Later opened more = later opened raised (own_more (checks_of s) at.scopes begun own begun_own) in
      let silenced = disabled_told s (standing inside.after [] []) in
      let close_it = some_close (checks_of s) begun silenced.0 inside.after.asked begun_own in
      let after : Core = closed_at inside.after at.scopes begun close_it.1 in
      record {
        after = after;
        records = open_it.2 ++ (inside.records ++ close_it.0);
        spells = λ way outcomes rest.
            let third : List Record = close_it.0 ++ rest in
            let second : List Record = inside.records ++ third in
            let open_end : Standing = record (doing (standing at way outcomes) (drop 1 (open_it.2 ++ second)) (happenings.Begin a ∷ [])) {
              asked = (moved second open_it.1).asked;
              scopes = at.scopes ++ begun ∷ [];
              outcomes = outcomes ++ (moved second open_it.1).outcomes;
            } in
            let opening : OpensScope s (standing at way outcomes) a (open_it.2 ++ second) begun open_end second = record {
              passes = moved second open_it.1;
              begins = record { own = open_it.3.own; access = open_it.3.access; marked = open_it.3.marked; silenced = open_it.3.silenced };
              check = check_joined (checks_of s) at.scopes begun at.asked open_it.2 second open_it.1 open_it.4;
              comes_to = refl;
            } in
            let one = inside.spells open_end.way open_end.outcomes third in
            let closing : Standing = standing inside.after one.0 one.1 in
            let close_end : Standing = record (doing closing rest (happenings.End begun.access ∷ [])) {
              asked = (moved rest close_it.1).asked;
              scopes = at.scopes;
              outcomes = one.1 ++ (moved rest close_it.1).outcomes;
            } in
            let closes : ClosesScope s closing begun at.scopes third close_end rest = record {
              passes = moved rest close_it.1;
              silenced = silenced.0;
              is_silenced = silenced.1;
              close = close_joined begun silenced.0 inside.after.asked close_it.0 rest close_it.1 close_it.2;
              comes_to = refl;
            } in
            let all : (open_it.2 ++ (inside.records ++ close_it.0)) ++ rest ≡ open_it.2 ++ second =
            append_assoc open_it.2 (inside.records ++ close_it.0) rest ∙ ap (λ (r : List Record). open_it.2 ++ r) (append_assoc inside.records close_it.0 rest) in (
              close_end.way,
              close_end.outcomes,
              subst (λ (r : List Record). StepsInBlock s site (Some scoped) Own Later (standing at way outcomes) r (standing after close_end.way close_end.outcomes) rest)
                  (sym all) (begun, open_end, closing, second, third, opening, one.2, closes),
            );
        counts = λ k.
            let first = raised k in
            let rise = inside.counts k in
            let last : begun_at k after ≡ begun_at k inside.after = begun_still k inside.after.progress.did (happenings.End begun.access ∷ []) (tt, tt) in
            omega (arith, first, rise, last);
        scopes = refl;
      }

  -- what a scoped assertion asks of where it stands
  abbrev pub ScopedFits : Option Scoped → ℕ → (ℕ → ℕ) → Type 0
  ScopedFits None site few = Unit {0}
  ScopedFits (Some scoped) site few = HasBytes s scoped.variable × (site < 256) × ((k : ℕ) → one_at site k ≤ few k)

  pub scoped_fits : (registers : ℕ) (statement : Statement) (site : ℕ) → StatementTyped (IsVariable s.text.variables) registers statement
      → site + length (accesses_of statement) ≤ 256 → ScopedFits (scoped_assertion statement) site (statement_begins site statement)
  scoped_fits registers (tree.load_only l) site typed fits = tt
  scoped_fits registers (tree.assign data_race a) site typed fits = tt
  scoped_fits registers (tree.call (calls.Barrier b)) site typed fits = tt
  scoped_fits registers (tree.call (calls.Lock l)) site typed fits = tt
  scoped_fits registers (tree.call (calls.Unlock l)) site typed fits = tt
  scoped_fits registers (tree.call (calls.AssertWriter x true)) site typed fits =
      (memory_bytes s placed x typed, alone true (tree.call (calls.AssertWriter x true)) site fits refl, λ k. le_refl (one_at site k))
  scoped_fits registers (tree.call (calls.AssertWriter x false)) site typed fits = tt
  scoped_fits registers (tree.call (calls.AssertAccess x true)) site typed fits =
      (memory_bytes s placed x typed, alone true (tree.call (calls.AssertAccess x true)) site fits refl, λ k. le_refl (one_at site k))
  scoped_fits registers (tree.call (calls.AssertAccess x false)) site typed fits = tt
  scoped_fits registers (tree.call (calls.AssertBits x mask)) site typed fits = tt
  scoped_fits registers (tree.call (calls.Mark m)) site typed fits = tt
  scoped_fits registers (tree.call (calls.Check is_write x size)) site typed fits = tt
  scoped_fits registers (tree.if_block e body) site typed fits = tt
  scoped_fits registers (tree.if_else e body otherwise) site typed fits = tt
  scoped_fits registers (tree.for_turns r turns body) site typed fits = tt

  -- a statement, and those after it in its block
  in_block : (scoped : Option Scoped) (Own Later : Steps) (at : Core) (site : ℕ) (few more : ℕ → ℕ) → ScopedFits scoped site few
      → ((k : ℕ) → begun_at k at + few k ≤ 256) → AreOwn (checks_of s) at.scopes → Spelled Own at few
      → ((next : Core) → ((k : ℕ) → begun_at k next ≤ begun_at k at + few k) → AreOwn (checks_of s) next.scopes → Spelled Later next more)
      → Spelled (λ before records after rest. StepsInBlock s site scoped Own Later before records after rest) at (λ k. few k + more k)
  in_block None Own Later at site few more fits room own first later =
      spelled_as (Both Own Later) (StepsInBlock s site None Own Later) at (λ k. few k + more k) (λ k. few k + more k)
      (spelled_both Own Later at few more first
      (later first.after first.counts (subst (λ (scopes : List Begun). AreOwn (checks_of s) scopes) (sym first.scopes) own)))
      (λ k. le_refl (few k + more k)) (λ way outcomes records after rest h. h)
  in_block (Some scoped) Own Later at site few more fits room own first later =
      let one_room : (k : ℕ) → begun_at k at + one_at site k ≤ 256 = λ k. let one = fits.2 k in let all = room k in omega (arith, one, all) in
      spelled_as (StepsInBlock s site (Some scoped) Own Later) (StepsInBlock s site (Some scoped) Own Later) at (λ k. one_at site k + more k) (λ k. few k + more k)
      (scoped_spelled Own Later at site scoped more fits.1 (few_at s placed site at one_room) own fits.0
      (λ opened raised are. later opened (λ k. let one = fits.2 k in let same = raised k in omega (arith, one, same)) are))
      (λ k. let one = fits.2 k in omega (arith, one)) (λ way outcomes records after rest h. h)

  -- a condition chooses one of two parts
  chosen : (value : ℕ) (Holds Fails : Steps) (at : Core) (holds fails : ℕ → ℕ) → Spelled Holds at holds → Spelled Fails at fails
      → Spelled (λ before records after rest. Chooses value (Holds before records after rest) (Fails before records after rest)) at (λ k. holds k + fails k)
  chosen value Holds Fails at holds fails first second = elim (cases_eq value 0) [
    | inl none ↦ spelled_as Fails (λ before records after rest. Chooses value (Holds before records after rest) (Fails before records after rest)) at fails (λ k. holds k + fails k)
        second (λ k. omega arith) (λ way outcomes records after rest h. inr (none, h))
    | inr some ↦ spelled_as Holds (λ before records after rest. Chooses value (Holds before records after rest) (Fails before records after rest)) at holds (λ k. holds k + fails k)
        first (λ k. omega arith) (λ way outcomes records after rest h. inl (some, h))
  ]

  abbrev Nothing : Steps
  Nothing before records after rest = (after ≡ before) × (rest ≡ records)

  nothing_spelled : (at : Core) → Spelled Nothing at (λ k. 0)
  nothing_spelled at = record {
    after = at;
    records = [];
    spells = λ way outcomes rest. (way, outcomes, (refl, refl));
    counts = λ k. omega arith;
    scopes = refl;
  }

  abbrev Says : ℕ → Expression → ℕ → Steps
  Says site e value before records after rest = StepsOfExpression s site e before records value after rest

  mutual
    statement_spelled : (registers : ℕ) (statement : Statement) (at : Core) (site : ℕ) → StatementTyped (IsVariable s.text.variables) registers statement
        → site + length (accesses_of statement) ≤ 256 → ((k : ℕ) → begun_at k at + statement_begins site statement k ≤ 256) → AreOwn (checks_of s) at.scopes
        → Spelled (λ before records after rest. StepsOf s site statement before records after rest) at (statement_begins site statement)
    statement_spelled registers (tree.load_only l) at site typed fits room own =
        let load = load_spelled s placed at site l (alone true (tree.load_only l) site fits refl) (few_at s placed site at room) own (fetch_bytes s placed registers l.fetch typed) in
        record {
          after = load.1.after;
          records = load.1.records;
          spells = λ way outcomes rest. let one = load.1.spells way outcomes rest in (one.0, one.1, (load.0, one.2));
          counts = load.1.counts;
          scopes = load.1.scopes;
        }
    statement_spelled registers (tree.assign data_race a) at site typed fits room own =
        assign_spelled s placed registers at site data_race a typed (alone (assignment_has_access a) (tree.assign data_race a) site fits) room own
    statement_spelled registers (tree.call c) at site typed fits room own =
        call_spelled s placed registers at site c typed (alone (call_has_access c) (tree.call c) site fits) room own
    statement_spelled registers (tree.if_block e body) at site typed fits room own =
        let inside = after_own (expression_has_access e) (tree.if_block e body) site (sites_of body) fits in
        let value = expression_spelled s placed registers at site e typed.0 inside.1 (λ k. let all = room k in omega (arith, all)) own in
        let next : Core = value.1.after in
        let body_spelled = block_spelled registers body next (after_condition site e) typed.1 inside.0
        (λ k. let all = room k in let one = value.1.counts k in omega (arith, all, one))
        (subst (λ (scopes : List Begun). AreOwn (checks_of s) scopes) (sym value.1.scopes) own) in
        let both = chosen value.0 (StepsOfBlock s (after_condition site e) body) Nothing next (block_begins (after_condition site e) body) (λ k. 0) body_spelled (nothing_spelled next) in
        let Choice : Steps = λ before records after rest. Chooses value.0 (StepsOfBlock s (after_condition site e) body before records after rest) (Nothing before records after rest) in
        spelled_as (Both (Says site e value.0) Choice) (StepsOf s site (tree.if_block e body)) at
        (λ k. own_begins (expression_has_access e) site k + (block_begins (after_condition site e) body k + 0)) (statement_begins site (tree.if_block e body))
        (spelled_both (Says site e value.0) Choice at (own_begins (expression_has_access e) site) (λ k. block_begins (after_condition site e) body k + 0) value.1 both)
        (λ k. omega arith) (λ way outcomes records after rest h. (value.0, h.0, h.1, h.2, h.3))
    statement_spelled registers (tree.if_else e body otherwise) at site typed fits room own =
        let inside = after_own (expression_has_access e) (tree.if_else e body otherwise) site (sites_of body ++ sites_of otherwise) fits in
        let lengths = length-append (sites_of body) (sites_of otherwise) in
        let first : ℕ = after_condition site e in
        let second : ℕ = first + length (sites_of body) in
        let value = expression_spelled s placed registers at site e typed.0 inside.1 (λ k. let all = room k in omega (arith, all)) own in
        let next : Core = value.1.after in
        let next_own : AreOwn (checks_of s) next.scopes = subst (λ (scopes : List Begun). AreOwn (checks_of s) scopes) (sym value.1.scopes) own in
        let within = inside.0 in
        let holds = block_spelled registers body next first typed.1.0 (omega (arith, within, lengths))
        (λ k. let all = room k in let one = value.1.counts k in omega (arith, all, one)) next_own in
        let fails = block_spelled registers otherwise next second typed.1.1 (omega (arith, within, lengths))
        (λ k. let all = room k in let one = value.1.counts k in omega (arith, all, one)) next_own in
        let both = chosen value.0 (StepsOfBlock s first body) (StepsOfBlock s second otherwise) next (block_begins first body) (block_begins second otherwise) holds fails in
        let Choice : Steps = λ before records after rest. Chooses value.0 (StepsOfBlock s first body before records after rest) (StepsOfBlock s second otherwise before records after rest) in
        spelled_as (Both (Says site e value.0) Choice) (StepsOf s site (tree.if_else e body otherwise)) at
        (λ k. own_begins (expression_has_access e) site k + (block_begins first body k + block_begins second otherwise k)) (statement_begins site (tree.if_else e body otherwise))
        (spelled_both (Says site e value.0) Choice at (own_begins (expression_has_access e) site) (λ k. block_begins first body k + block_begins second otherwise k) value.1 both)
        (λ k. omega arith) (λ way outcomes records after rest h. (value.0, h.0, h.1, h.2, h.3))
    statement_spelled registers (tree.for_turns r turns body) at site typed fits room own =
        turns_spelled (checks_of s) (λ before records after rest. StepsOfBlock s site body before records after rest) r (block_begins site body)
        (λ start within are. block_spelled registers body start site typed.1 fits within are) turns 0 at room own

    pub block_spelled : (registers : ℕ) (body : Block) (at : Core) (site : ℕ) → BlockTyped (IsVariable s.text.variables) registers body
        → site + length (sites_of body) ≤ 256 → ((k : ℕ) → begun_at k at + block_begins site body k ≤ 256) → AreOwn (checks_of s) at.scopes
        → Spelled (λ before records after rest. StepsOfBlock s site body before records after rest) at (block_begins site body)
    block_spelled registers tree.empty at site typed fits room own = nothing_spelled at
    block_spelled registers (tree.first statement rest) at site typed fits room own =
        let lengths = length-append (accesses_of statement) (sites_of rest) in
        let own_sites : site + length (accesses_of statement) ≤ 256 = omega (arith, fits, lengths) in
        let own_room : (k : ℕ) → begun_at k at + statement_begins site statement k ≤ 256 = λ k. let all = room k in omega (arith, all) in
        in_block (scoped_assertion statement) (λ b records a rest. StepsOf s site statement b records a rest)
        (λ b records a rest'. StepsOfBlock s (site + length (accesses_of statement)) rest b records a rest') at site
        (statement_begins site statement) (block_begins (site + length (accesses_of statement)) rest)
        (scoped_fits registers statement site typed.0 own_sites) own_room own
        (statement_spelled registers statement at site typed.0 own_sites own_room own)
        (λ next counts are. block_spelled registers rest next (site + length (accesses_of statement)) typed.1 (omega (arith, fits, lengths))
        (λ k. let all = room k in let one = counts k in omega (arith, all, one)) are)
