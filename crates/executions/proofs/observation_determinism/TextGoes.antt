-- Two readings of a text whose records begin alike: what is shared is told the same.
use Rattle.std.proofs.Common.{◌≡◌, ◌≢◌, ◌↔◌, ◌∙◌, ◌≤◌, ◌+◌, ◌-◌, ◌^◌, ◌++◌, ◌∷◌, [], ℕ, zero, suc, Bool, true, false, IsTrue, List, Option, None, Some}
use Rattle.std.proofs.Common.{MatchBool, ap, arith, inl, inr, length, refl, replicate, subst, sym, if◌then◌else◌}
use Rattle.access_types.specs.Access as access
use Rattle.access_types.specs.Access.{proper_mask}
use Rattle.access_types.specs.declared.history.Bytes.{Bytes}
use Rattle.access_types.specs.declared.history.Happening.{Happening}
use Rattle.access_types.specs.declared.history.Happening.TheVariants as happenings
use Rattle.access_types.specs.declared.history.Mark.{Mark}
use Rattle.access_types.specs.declared.history.Mark.TheVariants as marks
use Rattle.access_types.specs.declared.kind.Claim.TheVariants.{NoAccesses, NoWrites}
use Rattle.access_types.specs.declared.kind.Kind.{Kind}
use Rattle.access_types.specs.declared.kind.Kind.TheVariants as kinds
use Rattle.litmus_semantics.specs.Assignments.{compound_kind, write_kind}
use Rattle.litmus_semantics.specs.Calls.{Scoped, check_kind, checked_bytes, scoped_access, scoped_assertion}
use Rattle.litmus_semantics.specs.Expressions.{loading_value, pure_value}
use Rattle.litmus_semantics.specs.Loads.{exchange_kind, fetch_kind, load_in, variable_of}
use Rattle.litmus_semantics.specs.Meaning.{Chooses, after_condition}
use Rattle.litmus_semantics.specs.Task as meaning
use Rattle.litmus_semantics.specs.Task.{access_now, bytes_in, has_lock}
use Rattle.litmus_semantics.specs.Values.{sign_extended}
use Rattle.litmus_syntax.specs.Sites.{accesses_of, sites_of}
use Rattle.litmus_syntax.specs.Tree.{Assignment, Block, Expression, Load, Statement}
use Rattle.litmus_syntax.specs.Tree as tree
use Rattle.litmus_syntax.specs.declared.statement.Call.{Call}
use Rattle.litmus_syntax.specs.declared.statement.Call.TheVariants as calls
use Rattle.access_run.specs.declared.memory_operation.effect.Effect.{Effect}
use Rattle.access_run.specs.declared.memory_operation.operation.Change.TheVariants as changes
use Rattle.access_run.specs.declared.memory_operation.operation.Operation.{Operation}
use Rattle.access_run.specs.declared.memory_operation.operation.Operation.TheVariants as operations
use Rattle.setup_access.specs.Records.{MakesDone}
use Rattle.setup_access.specs.declared.begun.Begun.{Begun}
use Rattle.slot_table.specs.declared.records.Record.{Record}
use Rattle.slot_table.specs.declared.step.Step.TheVariants.{LockStore}
use Rattle.program_order.specs.Access.{Makes}
use Rattle.program_order.specs.Standing.{EndsNothing, IsDisabled, IsNested, Setting, Standing, coming, counting, doing, lock_number, registered}
use Rattle.program_order.specs.WrittenOrder.{ChecksAt, ClosesScope, MakesMark, MakesTo, Only, OpensScope, Steps, StepsInBlock, StepsInDataRace, StepsOf}
use Rattle.program_order.specs.WrittenOrder.{StepsOfAssignment, StepsOfBlock, StepsOfCall, StepsOfExpression, StepsOfLoad, StepsOfTurns, fetch_operation}
use Rattle.executions.proofs.observation_determinism.AccessGoes.{Meets, makes_go, near_doing, one_answer}
use Rattle.executions.proofs.observation_determinism.Cuts.{Near, alike_coming, alike_low, near_coming}
use Rattle.executions.proofs.observation_determinism.LowLemmas.{Lows, block_low, turns_low}
use Rattle.executions.proofs.observation_determinism.ScopeGoes.{closes_go, closes_low, opens_go}
use Rattle.executions.proofs.observation_determinism.Sure.{Goes}
use Rattle.executions.proofs.observation_determinism.SureOperations.{locks, stores}

abbrev None0 : Type 0
None0 = Unit {0}

module _ (s : Setting) (X Y : List Record) where
  -- what the standings come to is what they are
  comes_to : (Same : Type 0) (one other one_is other_is : Standing) (q r : List Record) → one ≡ one_is → other ≡ other_is
      → Meets X Y Same one_is other_is q r → Meets X Y Same one other q r
  comes_to Same one other one_is other_is q r p t h =
      subst (λ (st : Standing). Meets X Y Same st other q r) (sym p) (subst (λ (st : Standing). Meets X Y Same one_is st q r) (sym t) h)

  -- both have come so far, and compute
  computing : (Same : Type 0) (one other : Standing) (q r : List Record) (f : Standing → meaning.Progress) → Meets X Y Same one other q r
      → (one.progress ≡ other.progress → Same → f one ≡ f other)
      → Meets X Y Same (coming one q (f one)) (coming other r (f other)) q r
  computing Same one other q r f h same = elim h [
    | inl near ↦
        let next : Near X Y (coming one (near.0 ++ X) (f one)) (coming other (near.0 ++ Y) (f other)) =
        near_coming X Y near.0 one other (f one) (f other) near.3.0 (same near.3.0.progress near.3.1) in
        inl (
          near.0,
          near.1,
          near.2,
          (
            subst (λ (l : List Record). Near X Y (coming one q (f one)) (coming other l (f other))) (sym near.2)
                (subst (λ (l : List Record). Near X Y (coming one l (f one)) (coming other (near.0 ++ Y) (f other))) (sym near.1) next),
            near.3.1,
          ),
        )
    | inr far ↦ inr (far.0, far.1, alike_coming X Y one other q r (f one) (f other) far.2 far.0 far.1)
  ]

  -- both make marks
  marking : (Same : Type 0) (one other : Standing) (q r : List Record) (does : List Happening) → Meets X Y Same one other q r
      → Meets X Y Same (doing one q does) (doing other r does) q r
  marking Same one other q r does h = computing Same one other q r (λ (st : Standing). meaning.doing st.progress does) h
      (λ same known. ap (λ (p : meaning.Progress). meaning.doing p does) same)

  -- another thing is known of what is the same
  knowing : (Same Other : Type 0) (one other : Standing) (q r : List Record) → Meets X Y Same one other q r → (Near X Y one other → Same → Other)
      → Meets X Y Other one other q r
  knowing Same Other one other q r h on = elim h [
    | inl near ↦ inl (near.0, near.1, near.2, (near.3.0, on near.3.0 near.3.1))
    | inr far ↦ inr far
  ]

  -- both go on
  going : (Same Other : Type 0) (one other first second : Standing) (later more q r : List Record) → Meets X Y Same one other later more
      → ((S : List Record) → later ≡ S ++ X → more ≡ S ++ Y → Near X Y one other → Same → Meets X Y Other first second q r)
      → Lows one later first q → Lows other more second r → Meets X Y Other first second q r
  going Same Other one other first second later more q r h on low lower = elim h [
    | inl near ↦ on near.0 near.1 near.2 near.3.0 near.3.1
    | inr far ↦
        let less : length q ≤ length later = low.0 in
        let fewer : length r ≤ length more = lower.0 in
        inr (
          omega (arith, less, far.0),
          omega (arith, fewer, far.1),
          alike_low X Y one other first second far.2 (low.1 (length X) far.0) (lower.1 (length Y) far.1),
        )
  ]

  -- an access, whose bytes and kind are those of both
  makes_to : (S : List Record) (a b : access.Access) (operation next : Option Operation) (one other : Standing) (v w : Effect) (after end : Standing)
      (q r : List Record)
      → Near X Y one other → a ≡ b → operation ≡ next → Makes s one a operation (S ++ X) v after q → Makes s other b next (S ++ Y) w end r
      → Meets X Y (v ≡ w) after end q r
  makes_to S a b operation next one other v w after end q r near same also h g =
      makes_go s a operation X Y one other v w after end q r near S h
      (subst (λ (x : access.Access). Makes s other x operation (S ++ Y) w end r) (sym same)
      (subst (λ (o : Option Operation). Makes s other b o (S ++ Y) w end r) (sym also) g))

  -- the access that begins now
  same_access : (site : ℕ) (one other : Standing) (bytes : Bytes) (kind : Kind) (mask : Option ℕ) → one.progress ≡ other.progress
      → access_now s.text site one.progress bytes kind mask ≡ access_now s.text site other.progress bytes kind mask
  same_access site one other bytes kind mask same = ap (λ (p : meaning.Progress). access_now s.text site p bytes kind mask) same

  changes_go : (S : List Record) (site x : ℕ) (kind : Kind) (operation : List ℕ → Operation) (one other : Standing) (v w : Effect) (after end : Standing)
      (q r : List Record)
      → Near X Y one other → MakesTo s site x kind (operation one.progress.registers) one (S ++ X) v after q
      → MakesTo s site x kind (operation other.progress.registers) other (S ++ Y) w end r → Meets X Y None0 after end q r
  changes_go S site x kind operation one other v w after end q r near h g =
      knowing (v ≡ w) None0 after end q r
      (makes_to S _ _ _ _ one other v w after end q r near (same_access site one other (bytes_in s.text x) kind None near.progress)
      (ap (λ (p : meaning.Progress). Some (operation p.registers)) near.progress) h g) (λ near_so same. tt)

  load_goes : (S : List Record) (site : ℕ) (l : Load) (one other : Standing) (v w : ℕ) (after end : Standing) (q r : List Record) → Near X Y one other
      → StepsOfLoad s site l one (S ++ X) v after q → StepsOfLoad s site l other (S ++ Y) w end r → Meets X Y (v ≡ w) after end q r
  load_goes S site l one other v w after end q r near h g =
      let x : ℕ = variable_of l.fetch in
      let off : List Happening = replicate l.data_races (happenings.Mark marks.Disable) in
      let on : List Happening = replicate l.data_races (happenings.Mark marks.Enable) in
      let begun : Near X Y (doing one (S ++ X) off) (doing other (S ++ Y) off) = near_doing X Y S one other off off near refl in
      let made : Meets X Y (h.1 ≡ g.1) h.2 g.2 q r =
      makes_to S _ _ _ _ (doing one (S ++ X) off) (doing other (S ++ Y) off) h.1 g.1 h.2 g.2 q r begun
      (same_access site (doing one (S ++ X) off) (doing other (S ++ Y) off) (bytes_in s.text x) (fetch_kind l.fetch) None begun.progress)
      (ap (λ (p : meaning.Progress). Some (fetch_operation p.registers l.fetch)) near.progress) h.3 g.3 in
      let valued : Meets X Y (v ≡ w) h.2 g.2 q r =
      knowing (h.1 ≡ g.1) (v ≡ w) h.2 g.2 q r made (λ near_so same.
      let read : Some h.0 ≡ Some g.0 = sym h.4 ∙ (ap (λ (e : Effect). e.read) same ∙ g.4) in
      let old : h.0 ≡ g.0 = cc in
      h.5 ∙ (ap (λ (n : ℕ). sign_extended (bytes_in s.text x).size n) old ∙ sym g.5)) in
      comes_to (v ≡ w) after end (doing h.2 q on) (doing g.2 r on) q r h.6 g.6 (marking (v ≡ w) h.2 g.2 q r on valued)

  expression_goes : (S : List Record) (site : ℕ) (e : Expression) (one other : Standing) (v w : ℕ) (after end : Standing) (q r : List Record)
      → Near X Y one other
      → StepsOfExpression s site e one (S ++ X) v after q → StepsOfExpression s site e other (S ++ Y) w end r → Meets X Y (v ≡ w) after end q r
  expression_goes S site (tree.pure e) one other v w after end q r near h g =
      comes_to (v ≡ w) after end one other q r h.1 g.1
      (inl (S, h.2, g.2, (near, h.0 ∙ (ap (λ (p : meaning.Progress). pure_value p.registers e) near.progress ∙ sym g.0))))
  expression_goes S site (tree.loading e) one other v w after end q r near h g =
      knowing (h.0 ≡ g.0) (v ≡ w) after end q r (load_goes S site (load_in e) one other h.0 g.0 after end q r near h.1 g.1)
      (λ near_so same. h.2 ∙ (ap (λ (n : ℕ). loading_value one.progress.registers n e) same
      ∙ (ap (λ (p : meaning.Progress). loading_value p.registers g.0 e) near.progress ∙ sym g.2)))

  assignment_goes : (S : List Record) (site : ℕ) (a : Assignment) (one other after end : Standing) (q r : List Record) → Near X Y one other
      → StepsOfAssignment s site a one (S ++ X) after q → StepsOfAssignment s site a other (S ++ Y) end r → Meets X Y None0 after end q r
  assignment_goes S site (tree.to_register register e) one other after end q r near h g =
      comes_to None0 after end (registered h.1 q register h.0) (registered g.1 r register g.0) q r h.3 g.3
      (knowing (h.0 ≡ g.0) None0 (registered h.1 q register h.0) (registered g.1 r register g.0) q r
      (assigning (h.0 ≡ g.0) h.1 g.1 q r (expression_goes S site e one other h.0 g.0 h.1 g.1 q r near h.2 g.2)) (λ near_so same. tt))
    where
      assigning : (Same : Type 0) (first second : Standing) (q r : List Record) → Meets X Y (h.0 ≡ g.0) first second q r
          → Meets X Y (h.0 ≡ g.0) (registered first q register h.0) (registered second r register g.0) q r
      assigning Same first second q r meets = elim meets [
        | inl at ↦
            let next : Near X Y (registered first (at.0 ++ X) register h.0) (registered second (at.0 ++ Y) register g.0) =
            near_coming X Y at.0 first second (meaning.assigning first.progress register h.0) (meaning.assigning second.progress register g.0) at.3.0
            (ap (λ (p : meaning.Progress). meaning.assigning p register h.0) at.3.0.progress
            ∙ ap (λ (n : ℕ). meaning.assigning second.progress register n) at.3.1) in
            inl (
              at.0,
              at.1,
              at.2,
              (
                subst (λ (l : List Record). Near X Y (registered first q register h.0) (registered second l register g.0)) (sym at.2)
                    (subst (λ (l : List Record). Near X Y (registered first l register h.0) (registered second (at.0 ++ Y) register g.0)) (sym at.1) next),
                at.3.1,
              ),
            )
        | inr far ↦ inr (
          far.0,
          far.1,
          alike_coming X Y first second q r (meaning.assigning first.progress register h.0) (meaning.assigning second.progress register g.0) far.2 far.0 far.1,
        )
      ]
  assignment_goes S site (tree.write form x e) one other after end q r near h g =
      changes_go S site x (write_kind form)
      (λ registers. operations.Change (changes.Write (pure_value registers e))) one other h.0 g.0 after end q r near h.1 g.1
  assignment_goes S site (tree.add x e) one other after end q r near h g =
      changes_go S site x compound_kind (λ registers. operations.Add (pure_value registers e)) one other h.0 g.0 after end q r near h.1 g.1
  assignment_goes S site (tree.increment x) one other after end q r near h g =
      changes_go S site x compound_kind (λ registers. operations.Add 1) one other h.0 g.0 after end q r near h.1 g.1
  assignment_goes S site (tree.atomic_add e x) one other after end q r near h g =
      changes_go S site x exchange_kind
      (λ registers. operations.Change (changes.AtomicAdd (pure_value registers e))) one other h.0 g.0 after end q r near h.1 g.1
  assignment_goes S site (tree.atomic_increment x) one other after end q r near h g =
      changes_go S site x exchange_kind (λ registers. operations.Change (changes.AtomicAdd 1)) one other h.0 g.0 after end q r near h.1 g.1
  assignment_goes S site (tree.atomic_decrement x) one other after end q r near h g =
      changes_go S site x exchange_kind (λ registers. operations.Change (changes.AtomicAdd (2 ^ 64 - 1))) one other h.0 g.0 after end q r near h.1 g.1

  data_race_goes : (S : List Record) (site : ℕ) (data_race : Bool) (a : Assignment) (one other after end : Standing) (q r : List Record) → Near X Y one other
      → StepsInDataRace s site data_race a one (S ++ X) after q → StepsInDataRace s site data_race a other (S ++ Y) end r → Meets X Y None0 after end q r
  data_race_goes S site data_race a one other after end q r near h g =
      let count : ℕ = if data_race then 1 else 0 in
      let off : List Happening = replicate count (happenings.Mark marks.Disable) in
      let on : List Happening = replicate count (happenings.Mark marks.Enable) in
      let begun : Near X Y (doing one (S ++ X) off) (doing other (S ++ Y) off) = near_doing X Y S one other off off near refl in
      comes_to None0 after end (doing h.0 q on) (doing g.0 r on) q r h.2 g.2
      (marking None0 h.0 g.0 q r on (assignment_goes S site a (doing one (S ++ X) off) (doing other (S ++ Y) off) h.0 g.0 q r begun h.1 g.1))

  -- nothing is made, and these are what it comes to
  only_goes : (S : List Record) (one other after end : Standing) (q r : List Record) → Near X Y one other → Only one (S ++ X) after q
      → Only other (S ++ Y) end r
      → Meets X Y None0 after end q r
  only_goes S one other after end q r near h g = comes_to None0 after end one other q r h.0 g.0 (inl (S, h.1, g.1, (near, tt)))

  near_counting : (b c : Bool) (one other : Standing) → b ≡ c → Near X Y one other → Near X Y (counting b one) (counting c other)
  near_counting true true one other same near = record {
    progress = near.progress;
    unbalanced = ap (λ (n : ℕ). n + 1) near.unbalanced;
    asked = near.asked;
    scopes = near.scopes;
    alike = record { way = near.alike.way; fell = near.alike.fell };
  }
  near_counting true false one other same near = absurd (let no : true ≡ false = same in cc)
  near_counting false true one other same near = absurd (let no : false ≡ true = same in cc)
  near_counting false false one other same near = near

  -- whether there is nothing to end is told by what the task did
  ends_alike : (m : Mark) (one other : Standing) (b : Bool) → one.progress ≡ other.progress → IsTrue b ↔ EndsNothing s other m → IsTrue b ↔ EndsNothing s one m
  ends_alike marks.Disable one other b same h = h
  ends_alike marks.Enable one other b same h =
      subst (λ (p : meaning.Progress). IsTrue b ↔ ¬ IsDisabled s (record other { progress = p })) (sym same) h
  ends_alike marks.NestOpen one other b same h = h
  ends_alike marks.NestClose one other b same h =
      subst (λ (p : meaning.Progress). IsTrue b ↔ ¬ IsNested s (record other { progress = p })) (sym same) h
  ends_alike marks.FlatBegin one other b same h = h
  ends_alike marks.FlatEnd one other b same h = h
  ends_alike (marks.Next count) one other b same h = h

  mark_goes : (S : List Record) (m : Mark) (one other after end : Standing) (q r : List Record) → Near X Y one other → MakesMark s m one (S ++ X) after q
      → MakesMark s m other (S ++ Y) end r → Meets X Y None0 after end q r
  mark_goes S m one other after end q r near h g =
      let same : h.0 ≡ g.0 = one_answer h.0 g.0 (EndsNothing s one m) h.1 (ends_alike m one other g.0 near.progress g.1) in
      let does : List Happening = happenings.Mark m ∷ [] in
      only_goes S (doing (counting h.0 one) (S ++ X) does) (doing (counting g.0 other) (S ++ Y) does) after end q r
      (near_doing X Y S (counting h.0 one) (counting g.0 other) does does (near_counting h.0 g.0 one other same near) refl) h.2 g.2

  check_goes : (S : List Record) (site : ℕ) (bytes : Bytes) (kind : Kind) (mask : Option ℕ) (one other after end : Standing) (q r : List Record)
      → Near X Y one other
      → ChecksAt s site bytes kind mask one (S ++ X) after q → ChecksAt s site bytes kind mask other (S ++ Y) end r → Meets X Y None0 after end q r
  check_goes S site bytes kind mask one other after end q r near h g =
      knowing (h.0 ≡ g.0) None0 after end q r
      (makes_to S _ _ None None one other h.0 g.0 after end q r near (same_access site one other bytes kind mask near.progress) refl h.1 g.1)
      (λ near_so same. tt)

  sized_goes : (empty : Bool) (S : List Record) (site : ℕ) (bytes : Bytes) (kind : Kind) (one other after end : Standing) (q r : List Record)
      → Near X Y one other
      → MatchBool empty (Only one (S ++ X) after q) (ChecksAt s site bytes kind None one (S ++ X) after q)
      → MatchBool empty (Only other (S ++ Y) end r) (ChecksAt s site bytes kind None other (S ++ Y) end r) → Meets X Y None0 after end q r
  sized_goes true S site bytes kind one other after end q r near h g = only_goes S one other after end q r near h g
  sized_goes false S site bytes kind one other after end q r near h g = check_goes S site bytes kind None one other after end q r near h g

  -- after steps that say nothing but that they were made
  stepped : (one other : Standing) (q r : List Record) (does : List Happening) → Near X Y one other → Goes X Y (tt {0} ≡ tt {0}) (Unit {0}) q r
      → Meets X Y None0 (doing one q does) (doing other r does) q r
  stepped one other q r does near h = elim h [
    | inl at ↦
        let next : Near X Y (doing one (at.0 ++ X) does) (doing other (at.0 ++ Y) does) = near_doing X Y at.0 one other does does near refl in
        inl (
          at.0,
          at.1,
          at.2,
          (
            subst (λ (l : List Record). Near X Y (doing one q does) (doing other l does)) (sym at.2)
                (subst (λ (l : List Record). Near X Y (doing one l does) (doing other (at.0 ++ Y) does)) (sym at.1) next),
            tt,
          ),
        )
    | inr far ↦ inr (
      far.0,
      far.1,
      alike_coming X Y one other q r (meaning.doing one.progress does) (meaning.doing other.progress does) near.alike far.0 far.1,
    )
  ]

  abbrev Unlocks : ℕ → Bool → Standing → List Record → Standing → List Record → Type 0
  Unlocks l has before records after rest =
      MatchBool has
      (MakesDone s.text.task (LockStore (lock_number s l)) (λ later. rest ≡ later) records
      × (after ≡ doing before rest (happenings.Unlock l ∷ [])))
      (Only (coming (counting true before) records before.progress) records after rest)

  unlock_goes : (l : ℕ) (has : Bool) (S : List Record) (one other after end : Standing) (q r : List Record) → Near X Y one other
      → Unlocks l has one (S ++ X) after q → Unlocks l has other (S ++ Y) end r → Meets X Y None0 after end q r
  unlock_goes l true S one other after end q r near h g =
      let does : List Happening = happenings.Unlock l ∷ [] in
      comes_to None0 after end (doing one q does) (doing other r does) q r h.1 g.1
      (stepped one other q r does near ((stores s.text.task (LockStore (lock_number s l))).agrees X Y S tt tt q r h.0 g.0))
  unlock_goes l false S one other after end q r near h g =
      only_goes S (coming (counting true one) (S ++ X) one.progress) (coming (counting true other) (S ++ Y) other.progress) after end q r
      (near_coming X Y S (counting true one) (counting true other) one.progress other.progress (near_counting true true one other refl near) near.progress) h g

  call_goes : (S : List Record) (site : ℕ) (c : Call) (one other after end : Standing) (q r : List Record) → Near X Y one other
      → StepsOfCall s site c one (S ++ X) after q → StepsOfCall s site c other (S ++ Y) end r → Meets X Y None0 after end q r
  call_goes S site (calls.Barrier b) one other after end q r near h g = only_goes S one other after end q r near h g
  call_goes S site (calls.Lock l) one other after end q r near h g =
      let does : List Happening = happenings.Lock l ∷ [] in
      comes_to None0 after end (doing one q does) (doing other r does) q r h.2 g.2
      (stepped one other q r does near ((locks s.text.task (lock_number s l)).agrees X Y S tt tt q r h.1 g.1))
  call_goes S site (calls.Unlock l) one other after end q r near h g =
      unlock_goes l (has_lock l one.progress.did) S one other after end q r near h
      (subst (λ (p : meaning.Progress). Unlocks l (has_lock l p.did) other (S ++ Y) end r) (sym near.progress) g)
  call_goes S site (calls.AssertWriter x scoped) one other after end q r near h g =
      check_goes S site (bytes_in s.text x) (kinds.Assert NoWrites) None one other after end q r near h g
  call_goes S site (calls.AssertAccess x scoped) one other after end q r near h g =
      check_goes S site (bytes_in s.text x) (kinds.Assert NoAccesses) None one other after end q r near h g
  call_goes S site (calls.AssertBits x mask) one other after end q r near h g =
      let does : List Happening = happenings.Mark (marks.Next 1) ∷ [] in
      comes_to None0 after end (doing h.0 q does) (doing g.0 r does) q r h.2 g.2
      (marking None0 h.0 g.0 q r does
      (check_goes S site (bytes_in s.text x) (kinds.Assert NoWrites) (proper_mask (Some mask)) one other h.0 g.0 q r near h.1 g.1))
  call_goes S site (calls.Mark m) one other after end q r near h g = mark_goes S m one other after end q r near h g
  call_goes S site (calls.Check is_write x size) one other after end q r near h g =
      sized_goes _ S site (checked_bytes s.text x size) (check_kind is_write) one other after end q r near h g

  -- two readings of one part go together
  abbrev Go : Steps → Type 0
  Go P = (S : List Record) (one other after end : Standing) (q r : List Record) → Near X Y one other → P one (S ++ X) after q → P other (S ++ Y) end r
      → Meets X Y None0 after end q r

  abbrev AreLow : Steps → Type 0
  AreLow P = (before : Standing) (records : List Record) (after : Standing) (rest : List Record) → P before records after rest → Lows before records after rest

  -- one part after another
  after_both : (P : Steps) → Go P → AreLow P → (one other first second : Standing) (later more q r : List Record) → Meets X Y None0 one other later more
      → P one later first q → P other more second r → Meets X Y None0 first second q r
  after_both P go low one other first second later more q r meets h g =
      going None0 None0 one other first second later more q r meets
      (λ S here there near same. go S one other first second q r near (subst (λ (l : List Record). P one l first q) here h)
      (subst (λ (l : List Record). P other l second r) there g))
      (low one later first q h) (low other more second r g)

  turns_go : (site : ℕ) (body : Block) → Go (λ b records a rest. StepsOfBlock s site body b records a rest) → (register turn left : ℕ)
      → Go (λ b records a rest. StepsOfTurns (λ b records a rest. StepsOfBlock s site body b records a rest) register turn left b records a rest)
  turns_go site body each register turn zero S one other after end q r near h g =
      only_goes S (registered one (S ++ X) register turn) (registered other (S ++ Y) register turn) after end q r
      (near_coming X Y S one other (meaning.assigning one.progress register turn) (meaning.assigning other.progress register turn) near
      (ap (λ (p : meaning.Progress). meaning.assigning p register turn) near.progress)) h g
  turns_go site body each register turn (suc left) S one other after end q r near h g =
      let start : Near X Y (registered one (S ++ X) register turn) (registered other (S ++ Y) register turn) =
      near_coming X Y S one other (meaning.assigning one.progress register turn) (meaning.assigning other.progress register turn) near
      (ap (λ (p : meaning.Progress). meaning.assigning p register turn) near.progress) in
      after_both (λ b records a rest. StepsOfTurns (λ b records a rest. StepsOfBlock s site body b records a rest) register (suc turn) left b records a rest)
      (turns_go site body each register (suc turn) left)
      (λ before records after rest h. turns_low s site body register (suc turn) left before records after rest h)
      h.0 g.0 after end h.1 g.1 q r
      (each S (registered one (S ++ X) register turn) (registered other (S ++ Y) register turn) h.0 g.0 h.1 g.1 start h.2 g.2) h.3 g.3

  -- the same branch is taken
  chosen : (v w : ℕ) (Holds Fails Also Fail Goal : Type 0) → v ≡ w → Chooses v Holds Fails → Chooses w Also Fail → (Holds → Also → Goal)
      → (Fails → Fail → Goal) → Goal
  chosen v w Holds Fails Also Fail Goal same h g holds fails =
      let there : Chooses v Also Fail = subst (λ (n : ℕ). Chooses n Also Fail) (sym same) g in
      elim h [
        | inl p ↦ elim there [ inl t ↦ holds p.1 t.1 | inr t ↦ absurd (apart p.0 t.0) ]
        | inr p ↦ elim there [ inl t ↦ absurd (apart t.0 p.0) | inr t ↦ fails p.1 t.1 ]
      ]
    where
      apart : v ≢ 0 → v ≡ 0 → ⊥
      apart some none = some none

  low_of_both : (value : ℕ) (Holds Fails : Type 0) (before : Standing) (records : List Record) (after : Standing) (rest : List Record)
      → Chooses value Holds Fails
      → (Holds → Lows before records after rest) → (Fails → Lows before records after rest) → Lows before records after rest
  low_of_both value Holds Fails before records after rest h holds fails = elim h [ inl p ↦ holds p.1 | inr p ↦ fails p.1 ]

  stays_low : (before : Standing) (records : List Record) (after : Standing) (rest : List Record) → Only before records after rest
      → Lows before records after rest
  stays_low before records after rest h =
      block_low s 0 tree.empty before records after rest h

  choice_goes : (First Second : Steps) → Go First → Go Second → AreLow First → AreLow Second
      → (v w : ℕ) (one other after end : Standing) (later more q r : List Record) → Meets X Y (v ≡ w) one other later more
      → Chooses v (First one later after q) (Second one later after q) → Chooses w (First other more end r) (Second other more end r)
      → Meets X Y None0 after end q r
  choice_goes First Second go other_go low other_low v w one other after end later more q r meets h g =
      going (v ≡ w) None0 one other after end later more q r meets
      (λ S here there near same. chosen v w (First one later after q) (Second one later after q) (First other more end r) (Second other more end r)
      (Meets X Y None0 after end q r) same h g
      (λ p t. go S one other after end q r near (subst (λ (l : List Record). First one l after q) here p)
      (subst (λ (l : List Record). First other l end r) there t))
      (λ p t. other_go S one other after end q r near (subst (λ (l : List Record). Second one l after q) here p)
      (subst (λ (l : List Record). Second other l end r) there t)))
      (low_of_both v (First one later after q) (Second one later after q) one later after q h (λ p. low one later after q p)
      (λ p. other_low one later after q p))
      (low_of_both w (First other more end r) (Second other more end r) other more end r g (λ p. low other more end r p) (λ p. other_low other more end r p))

  block_of_goes : (site : ℕ) (scoped : Option Scoped) (Own Later : Steps) → Go Own → Go Later → AreLow Later → Go (StepsInBlock s site scoped Own Later)
  block_of_goes site None Own Later own go low S one other after end q r near h g =
      after_both Later go low h.0 g.0 after end h.1 g.1 q r (own S one other h.0 g.0 h.1 g.1 near h.2 g.2) h.3 g.3
  block_of_goes site (Some scoped) Own Later own go low S one other after end q r near h g =
      let a : access.Access = scoped_access s.text site one.progress scoped in
      let same : a ≡ scoped_access s.text site other.progress scoped = ap (λ (p : meaning.Progress). scoped_access s.text site p scoped) near.progress in
      let opened : Meets X Y (h.0 ≡ g.0) h.1 g.1 h.3 g.3 =
      opens_go s a X Y one other h.0 g.0 h.1 g.1 h.3 g.3 near S h.5
      (subst (λ (x : access.Access). OpensScope s other x (S ++ Y) g.0 g.1 g.3) (sym same) g.5) in
      let inner : Meets X Y (h.0 ≡ g.0) h.2 g.2 h.4 g.4 =
      going (h.0 ≡ g.0) (h.0 ≡ g.0) h.1 g.1 h.2 g.2 h.3 g.3 h.4 g.4 opened
      (λ T here there near_so begun. knowing None0 (h.0 ≡ g.0) h.2 g.2 h.4 g.4
      (go T h.1 g.1 h.2 g.2 h.4 g.4 near_so (subst (λ (l : List Record). Later h.1 l h.2 h.4) here h.6)
      (subst (λ (l : List Record). Later g.1 l g.2 g.4) there g.6))
      (λ near_also known. begun))
      (low h.1 h.3 h.2 h.4 h.6) (low g.1 g.3 g.2 g.4 g.6) in
      going (h.0 ≡ g.0) None0 h.2 g.2 after end h.4 g.4 q r inner
      (λ T here there near_so begun. closes_go s X Y h.2 g.2 h.0 one.scopes after end q r near_so T
      (subst (λ (l : List Record). ClosesScope s h.2 h.0 one.scopes l after q) here h.7)
      (subst (λ (b : Begun). ClosesScope s g.2 b one.scopes (T ++ Y) end r) (sym begun)
      (subst (λ (c : List Begun). ClosesScope s g.2 g.0 c (T ++ Y) end r) (sym near.scopes)
      (subst (λ (l : List Record). ClosesScope s g.2 g.0 other.scopes l end r) there g.7))))
      (closes_low s h.2 h.0 one.scopes h.4 after q h.7) (closes_low s g.2 g.0 other.scopes g.4 end r g.7)

  mutual
    statement_goes : (site : ℕ) (st : Statement) → Go (λ b records a rest. StepsOf s site st b records a rest)
    statement_goes site (tree.load_only l) S one other after end q r near h g =
        knowing (h.0 ≡ g.0) None0 after end q r (load_goes S site l one other h.0 g.0 after end q r near h.1 g.1) (λ near_so same. tt)
    statement_goes site (tree.assign data_race a) S one other after end q r near h g = data_race_goes S site data_race a one other after end q r near h g
    statement_goes site (tree.call c) S one other after end q r near h g = call_goes S site c one other after end q r near h g
    statement_goes site (tree.if_block e body) S one other after end q r near h g =
        choice_goes (λ b records a rest. StepsOfBlock s (after_condition site e) body b records a rest) (λ b records a rest. (a ≡ b) × (rest ≡ records))
        (block_goes (after_condition site e) body) only_goes
        (λ before records after rest k. block_low s (after_condition site e) body before records after rest k) stays_low
        h.0 g.0 h.1 g.1 after end h.2 g.2 q r (expression_goes S site e one other h.0 g.0 h.1 g.1 h.2 g.2 near h.3 g.3) h.4 g.4
    statement_goes site (tree.if_else e body otherwise) S one other after end q r near h g =
        choice_goes (λ b records a rest. StepsOfBlock s (after_condition site e) body b records a rest)
        (λ b records a rest. StepsOfBlock s (after_condition site e + length (sites_of body)) otherwise b records a rest)
        (block_goes (after_condition site e) body) (block_goes (after_condition site e + length (sites_of body)) otherwise)
        (λ before records after rest k. block_low s (after_condition site e) body before records after rest k)
        (λ before records after rest k. block_low s (after_condition site e + length (sites_of body)) otherwise before records after rest k)
        h.0 g.0 h.1 g.1 after end h.2 g.2 q r (expression_goes S site e one other h.0 g.0 h.1 g.1 h.2 g.2 near h.3 g.3) h.4 g.4
    statement_goes site (tree.for_turns register turns body) S one other after end q r near h g =
        turns_go site body (block_goes site body) register 0 turns S one other after end q r near h g

    pub block_goes : (site : ℕ) (body : Block) → Go (λ b records a rest. StepsOfBlock s site body b records a rest)
    block_goes site tree.empty S one other after end q r near h g = only_goes S one other after end q r near h g
    block_goes site (tree.first st more) S one other after end q r near h g =
        block_of_goes site (scoped_assertion st) (λ b records a rest. StepsOf s site st b records a rest)
        (λ b records a rest. StepsOfBlock s (site + length (accesses_of st)) more b records a rest)
        (statement_goes site st) (block_goes (site + length (accesses_of st)) more)
        (λ before records after rest k. block_low s (site + length (accesses_of st)) more before records after rest k)
        S one other after end q r near h g
