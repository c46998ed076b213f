-- Statements and blocks are open.
use Rattle.std.proofs.Common.{◌≡◌, ◌<◌, ◌≤◌, ◌∙◌, ◌+◌, ◌*◌, ◌++◌, ℕ, zero, suc, true, List, ap, arith, inl, inr, length, length-append, refl, subst, sym}
use Rattle.std.proofs.Math.Nat.{suc-mul}
use Rattle.std.proofs.lemmas.Bool.{cases_eq}
use Rattle.litmus_semantics.specs.Calls.{scoped_assertion}
use Rattle.litmus_semantics.specs.Loads.{variable_of}
use Rattle.litmus_semantics.specs.Meaning.{Chooses, after_condition}
use Rattle.litmus_syntax.specs.Limits.{BlockTyped, ExpressionTyped, IsVariable, StatementTyped}
use Rattle.litmus_syntax.specs.Sites.{accesses_of, assignment_has_access, call_has_access, expression_has_access, sites_of}
use Rattle.litmus_syntax.specs.Tree.{Block, Expression, Load, Statement}
use Rattle.litmus_syntax.specs.Tree as tree
use Rattle.setup_access.specs.OwnAccesses.{AreOwn}
use Rattle.setup_access.specs.Setting as checks
use Rattle.setup_access.specs.declared.begun.Begun.{Begun}
use Rattle.slot_table.specs.declared.records.Record.{Record}
use Rattle.task_plan.proofs.task_laws.SpelledBlocks.{after_own, alone, scoped_fits}
use Rattle.task_plan.proofs.task_laws.Parts.{set_at}
use Rattle.task_plan.proofs.task_laws.Statements.{few_at, fetch_bytes}
use Rattle.task_plan.specs.task_laws.Begins.{block_begins, one_at, own_begins, statement_begins}
use Rattle.task_plan.specs.task_laws.StandingButWay.{Core, begun_at, core_of, standing}
use Rattle.task_plan.specs.task_laws.Fits.{ArePlaced, HasBytes}
use Rattle.task_plan.proofs.task_laws.Assignments.{assign_open}
use Rattle.task_plan.proofs.task_laws.Calls.{call_open}
use Rattle.task_plan.proofs.task_laws.Loads.{expression_open, load_open}
use Rattle.task_plan.proofs.task_laws.Places.{Both, PartIsOpen, Plain, StepsAreOpen, Valued, WithinFrom, part_as, part_both, part_still, part_via, part_wider}
use Rattle.task_plan.proofs.task_laws.Scopes.{in_block_open}
use Rattle.program_order.specs.Standing.{Setting, Standing, checks_of, registered}
use Rattle.program_order.specs.WrittenOrder.{Steps, StepsOf, StepsOfBlock, StepsOfExpression, StepsOfLoad, StepsOfTurns}

-- nothing
abbrev Nothing : Steps
Nothing before records after rest = (after ≡ before) × (rest ≡ records)

nothing_open : (at : Core) → StepsAreOpen (λ before records after rest. Nothing before records after rest) at (λ k. 0)
nothing_open at =
    part_still (Unit {0}) (Plain (λ before records after rest. Nothing before records after rest)) at tt at (λ value after. WithinFrom at (λ k. 0) after)
    (record { counts = λ k. omega arith; scopes = refl })
    (λ way outcomes records value after rest h. (refl, ap core_of h.0, h.1)) (λ way outcomes records. (standing at way outcomes, (refl, refl), refl))

-- within fewer accesses
fewer : (P : Steps) (at : Core) (few most : ℕ → ℕ) → ((k : ℕ) → few k ≤ most k) → StepsAreOpen P at few → StepsAreOpen P at most
fewer P at few most within part =
    part_wider (Unit {0}) (Plain P) at (λ value after. WithinFrom at few after) (λ value after. WithinFrom at most after)
    (λ value after is. record { counts = λ k. let all = is.counts k in let more = within k in omega (arith, all, more); scopes = is.scopes }) part

-- a part after one that gives a value, in all within so many accesses
after_value : (X : Type 0) (P : Valued X) (Q : X → Steps) (at : Core) (few more : ℕ → ℕ)
    → PartIsOpen X P at (λ value after. WithinFrom at few after)
    → ((value : X) (next : Core) → WithinFrom at few next → StepsAreOpen (Q value) next more)
    → StepsAreOpen (λ before records after rest. (value : X) × (between : Standing) × (later : List Record)
    × P before records value between later × Q value between later after rest) at (λ k. few k + more k)
after_value X P Q at few more first second =
    let Ends : Unit {0} → Core → Type 0 = λ value after. WithinFrom at (λ k. few k + more k) after in
    part_both X (Unit {0}) P (λ value. Plain (Q value)) at (λ value next. WithinFrom at few next) Ends first
    (λ value next is. part_wider (Unit {0}) (Plain (Q value)) next (λ v after. WithinFrom next more after) Ends
    (λ v after within. record {
      counts = λ k. let one = is.counts k in let two = within.counts k in omega (arith, one, two);
      scopes = within.scopes ∙ is.scopes;
    }) (second value next is))

-- a condition chooses one of two parts
chosen_open : (value : ℕ) (Holds Fails : Steps) (at : Core) (holds fails : ℕ → ℕ) → StepsAreOpen Holds at holds → StepsAreOpen Fails at fails
    → StepsAreOpen (λ before records after rest. Chooses value (Holds before records after rest) (Fails before records after rest)) at (λ k. holds k + fails k)
chosen_open value Holds Fails at holds fails first second = elim (cases_eq value 0) [
  | inl none ↦
      part_as (Unit {0}) (Plain Fails) (Plain (λ before records after rest. Chooses value (Holds before records after rest)
      (Fails before records after rest))) at
      (λ v after. WithinFrom at (λ k. holds k + fails k) after)
      (λ way outcomes records v after rest. (λ h. inr (none, h), λ h. elim h [ inl is ↦ absurd (is.0 none) | inr is ↦ is.1 ]))
      (fewer Fails at fails (λ k. holds k + fails k) (λ k. omega arith) second)
  | inr some ↦
      part_as (Unit {0}) (Plain Holds) (Plain (λ before records after rest. Chooses value (Holds before records after rest)
      (Fails before records after rest))) at
      (λ v after. WithinFrom at (λ k. holds k + fails k) after)
      (λ way outcomes records v after rest. (λ h. inl (some, h), λ h. elim h [ inl is ↦ is.1 | inr is ↦ absurd (some is.0) ]))
      (fewer Holds at holds (λ k. holds k + fails k) (λ k. omega arith) first)
]

-- the turns of a loop, where each turn is open from wherever there is room for it
module _ (s : checks.Setting) (Body : Steps) (register : ℕ) (most : ℕ → ℕ)
    (each : (at : Core) → ((site : ℕ) → begun_at site at + most site ≤ 256) → AreOwn s at.scopes → StepsAreOpen Body at most) where
  -- a turn begins with its number in the register
  abbrev Turn : ℕ → Steps
  Turn turn before records after rest = Body (registered before records register turn) records after rest

  turn_open : (turn : ℕ) (at : Core) → ((site : ℕ) → begun_at site at + most site ≤ 256) → AreOwn s at.scopes
      → StepsAreOpen (λ before records after rest. Turn turn before records after rest) at most
  turn_open turn at room own =
      let start : Core = set_at at register turn in
      part_via (Unit {0}) (Unit {0}) (Plain Body) (Plain (λ before records after rest. Turn turn before records after rest)) at start (λ value. tt)
      (λ value between. between)
      (λ value after. WithinFrom start most after) (λ value after. WithinFrom at most after)
      (λ way outcomes records value after rest h. ((registered (standing at way outcomes) records register turn).way, outcomes, tt, after, h, refl, refl))
      (λ way outcomes records. (
        (registered (standing at way outcomes) records register turn).way,
        outcomes,
        λ value between rest steps. (between, steps, refl),
      ))
      (each start room own) (λ value between is. record { counts = is.counts; scopes = is.scopes })

  pub turns_open : (left turn : ℕ) (at : Core) → ((site : ℕ) → begun_at site at + left * most site ≤ 256) → AreOwn s at.scopes
      → StepsAreOpen (λ before records after rest. StepsOfTurns Body register turn left before records after rest) at (λ site. left * most site)
  turns_open zero turn at room own =
      let end : Core = set_at at register turn in
      part_still (Unit {0}) (Plain (λ before records after rest. StepsOfTurns Body register turn zero before records after rest)) at tt end
      (λ value after. WithinFrom at (λ site. zero * most site) after) (record { counts = λ site. omega arith; scopes = refl })
      (λ way outcomes records value after rest h. (refl, ap core_of h.0, h.1))
      (λ way outcomes records. (registered (standing at way outcomes) records register turn, (refl, refl), refl))
  turns_open (suc left) turn at room own =
      let one_room : (site : ℕ) → begun_at site at + most site ≤ 256 =
      λ site. let all = room site in let parts = suc-mul left (most site) in omega (arith, all, parts) in
      let All : Steps = λ before records after rest. StepsOfTurns Body register turn (suc left) before records after rest in
      let Ends : Unit {0} → Core → Type 0 = λ value after. WithinFrom at (λ site. suc left * most site) after in
      part_as (Unit {0}) (Both (Unit {0}) (Unit {0}) (Plain (λ before records after rest. Turn turn before records after rest))
      (λ value. Plain (λ before records after rest. StepsOfTurns Body register (suc turn) left before records after rest))) (Plain All) at Ends
      (λ way outcomes records value after rest. (λ h. (h.1, h.2, h.3, h.4), λ h. (tt, h.0, h.1, h.2, h.3)))
      (part_both (Unit {0}) (Unit {0}) (Plain (λ before records after rest. Turn turn before records after rest))
      (λ value. Plain (λ before records after rest. StepsOfTurns Body register (suc turn) left before records after rest)) at
      (λ value next. WithinFrom at most next) Ends (turn_open turn at one_room own)
      (λ value next is. part_wider (Unit {0}) (Plain (λ before records after rest. StepsOfTurns Body register (suc turn) left before records after rest)) next
      (λ v after. WithinFrom next (λ site. left * most site) after) Ends
      (λ v after within. record {
        counts = λ site. let one = is.counts site in let two = within.counts site in let parts = suc-mul left (most site) in omega (arith, one, two, parts);
        scopes = within.scopes ∙ is.scopes;
      })
      (turns_open left (suc turn) next
      (λ site. let all = room site in let parts = suc-mul left (most site) in let one = is.counts site in omega (arith, all, parts, one))
      (subst (λ (scopes : List Begun). AreOwn s scopes) (sym is.scopes) own))))

module _ (s : Setting) (placed : ArePlaced s) where
  abbrev Says : ℕ → Expression → Valued ℕ
  Says site e before records value after rest = StepsOfExpression s site e before records value after rest

  still_own : (scopes others : List Begun) → others ≡ scopes → AreOwn (checks_of s) scopes → AreOwn (checks_of s) others
  still_own scopes others same own = subst (λ (all : List Begun). AreOwn (checks_of s) all) (sym same) own

  -- an if, where its blocks are open from wherever there is room for them
  if_open : (registers : ℕ) (at : Core) (site : ℕ) (e : Expression) (Holds Fails : Steps) (holds fails : ℕ → ℕ)
      → ExpressionTyped (IsVariable s.text.variables) registers e
      → (expression_has_access e ≡ true → site < 256) → ((k : ℕ) → begun_at k at + (own_begins (expression_has_access e) site k + (holds k + fails k)) ≤ 256)
      → AreOwn (checks_of s) at.scopes
      → ((next : Core) → ((k : ℕ) → begun_at k next + (holds k + fails k) ≤ 256) → AreOwn (checks_of s) next.scopes → StepsAreOpen Holds next holds)
      → ((next : Core) → ((k : ℕ) → begun_at k next + (holds k + fails k) ≤ 256) → AreOwn (checks_of s) next.scopes → StepsAreOpen Fails next fails)
      → StepsAreOpen (λ before records after rest. (value : ℕ) × (between : Standing) × (later : List Record)
      × StepsOfExpression s site e before records value between later
      × Chooses value (Holds between later after rest) (Fails between later after rest)) at
      (λ k. own_begins (expression_has_access e) site k + (holds k + fails k))
  if_open registers at site e Holds Fails holds fails typed below room own first second =
      let own_few : ℕ → ℕ = own_begins (expression_has_access e) site in
      let next_room : (next : Core) → WithinFrom at own_few next → (k : ℕ) → begun_at k next + (holds k + fails k) ≤ 256 =
      λ next is k. let all = room k in let one = is.counts k in omega (arith, all, one) in
      after_value ℕ (Says site e) (λ value before records after rest. Chooses value (Holds before records after rest) (Fails before records after rest)) at
      own_few (λ k. holds k + fails k)
      (expression_open s placed registers at site e typed below (λ k. let all = room k in omega (arith, all)) own)
      (λ value next is. chosen_open value Holds Fails next holds fails (first next (next_room next is) (still_own at.scopes next.scopes is.scopes own))
      (second next (next_room next is) (still_own at.scopes next.scopes is.scopes own)))

  load_only_open : (at : Core) (site : ℕ) (l : Load) → site < 256 → begun_at site at < 256 → AreOwn (checks_of s) at.scopes → HasBytes s (variable_of l.fetch)
      → StepsAreOpen (λ before records after rest. StepsOf s site (tree.load_only l) before records after rest) at (one_at site)
  load_only_open at site l below few own has =
      part_via ℕ (Unit {0}) (λ before records loaded after rest. StepsOfLoad s site l before records loaded after rest)
      (Plain (λ before records after rest. StepsOf s site (tree.load_only l) before records after rest)) at at (λ loaded. tt) (λ loaded between. between)
      (λ loaded after. WithinFrom at (one_at site) after) (λ value after. WithinFrom at (one_at site) after)
      (λ way outcomes records value after rest h. (way, outcomes, h.0, after, h.1, refl, refl))
      (λ way outcomes records. (way, outcomes, λ loaded between rest steps. (between, (loaded, steps), refl)))
      (load_open s placed at site l below few own has) (λ loaded between is. is)

  mutual
    statement_open : (registers : ℕ) (statement : Statement) (at : Core) (site : ℕ) → StatementTyped (IsVariable s.text.variables) registers statement
        → site + length (accesses_of statement) ≤ 256 → ((k : ℕ) → begun_at k at + statement_begins site statement k ≤ 256) → AreOwn (checks_of s) at.scopes
        → StepsAreOpen (λ before records after rest. StepsOf s site statement before records after rest) at (statement_begins site statement)
    statement_open registers (tree.load_only l) at site typed fits room own =
        load_only_open at site l (alone true (tree.load_only l) site fits refl) (few_at s placed site at room) own
        (fetch_bytes s placed registers l.fetch typed)
    statement_open registers (tree.assign data_race a) at site typed fits room own =
        assign_open s placed registers at site data_race a typed (alone (assignment_has_access a) (tree.assign data_race a) site fits) room own
    statement_open registers (tree.call c) at site typed fits room own =
        call_open s placed registers at site c typed (alone (call_has_access c) (tree.call c) site fits) room own
    statement_open registers (tree.if_block e body) at site typed fits room own =
        let inside = after_own (expression_has_access e) (tree.if_block e body) site (sites_of body) fits in
        let first : ℕ = after_condition site e in
        let Holds : Steps = λ before records after rest. StepsOfBlock s first body before records after rest in
        fewer (λ before records after rest. StepsOf s site (tree.if_block e body) before records after rest) at
        (λ k. own_begins (expression_has_access e) site k + (block_begins first body k + 0)) (statement_begins site (tree.if_block e body)) (λ k. omega arith)
        (if_open registers at site e Holds Nothing (block_begins first body) (λ k. 0) typed.0 inside.1 (λ k. let all = room k in omega (arith, all)) own
        (λ next all are. block_open registers body next first typed.1 inside.0 (λ k. let most = all k in omega (arith, most)) are)
        (λ next all are. nothing_open next))
    statement_open registers (tree.if_else e body otherwise) at site typed fits room own =
        let inside = after_own (expression_has_access e) (tree.if_else e body otherwise) site (sites_of body ++ sites_of otherwise) fits in
        let lengths = length-append (sites_of body) (sites_of otherwise) in
        let within = inside.0 in
        let first : ℕ = after_condition site e in
        let second : ℕ = first + length (sites_of body) in
        let Holds : Steps = λ before records after rest. StepsOfBlock s first body before records after rest in
        let Fails : Steps = λ before records after rest. StepsOfBlock s second otherwise before records after rest in
        if_open registers at site e Holds Fails (block_begins first body) (block_begins second otherwise) typed.0 inside.1 room own
        (λ next all are. block_open registers body next first typed.1.0 (omega (arith, within, lengths)) (λ k. let most = all k in omega (arith, most)) are)
        (λ next all are. block_open registers otherwise next second typed.1.1 (omega (arith, within, lengths))
        (λ k. let most = all k in omega (arith, most)) are)
    statement_open registers (tree.for_turns r turns body) at site typed fits room own =
        turns_open (checks_of s) (λ before records after rest. StepsOfBlock s site body before records after rest) r (block_begins site body)
        (λ start within are. block_open registers body start site typed.1 fits within are) turns 0 at room own

    pub block_open : (registers : ℕ) (body : Block) (at : Core) (site : ℕ) → BlockTyped (IsVariable s.text.variables) registers body
        → site + length (sites_of body) ≤ 256 → ((k : ℕ) → begun_at k at + block_begins site body k ≤ 256) → AreOwn (checks_of s) at.scopes
        → StepsAreOpen (λ before records after rest. StepsOfBlock s site body before records after rest) at (block_begins site body)
    block_open registers tree.empty at site typed fits room own = nothing_open at
    block_open registers (tree.first statement rest) at site typed fits room own =
        let lengths = length-append (accesses_of statement) (sites_of rest) in
        let own_sites : site + length (accesses_of statement) ≤ 256 = omega (arith, fits, lengths) in
        let own_room : (k : ℕ) → begun_at k at + statement_begins site statement k ≤ 256 = λ k. let all = room k in omega (arith, all) in
        in_block_open s placed (scoped_assertion statement) (λ b records a later. StepsOf s site statement b records a later)
        (λ b records a later. StepsOfBlock s (site + length (accesses_of statement)) rest b records a later) at site
        (statement_begins site statement) (block_begins (site + length (accesses_of statement)) rest)
        (scoped_fits s placed registers statement site typed.0 own_sites) own_room own
        (statement_open registers statement at site typed.0 own_sites own_room own)
        (λ next counts are. block_open registers rest next (site + length (accesses_of statement)) typed.1 (omega (arith, fits, lengths))
        (λ k. let all = room k in let one = counts k in omega (arith, all, one)) are)
