-- The steps of a text do what it means, with the values that the records' answers hold.
use Rattle.std.proofs.Common.{◌≡◌, ◌∙◌, ◌+◌, ◌++◌, ◌-◌, ◌^◌, ◌==◌, ℕ, zero, suc, Bool, true, false, List, [], ◌∷◌}
use Rattle.std.proofs.Common.{MatchBool, None, Option, Some, ap, arith, cond, count_by, inl, inr, length, refl, replicate, subst, sym, if◌then◌else◌}
use Rattle.std.proofs.lemmas.Bool.{eqb-true, eq-eqb}
use Rattle.std.proofs.lemmas.List.{append-nil, append_assoc}
use Rattle.std.proofs.lemmas.List.Sums.{sum_by-append}
use Rattle.access_types.specs.Access as access
use Rattle.access_types.specs.Access.{proper_mask}
use Rattle.access_types.specs.declared.history.Bytes.{Bytes}
use Rattle.access_types.specs.declared.history.Happening.{Happening}
use Rattle.access_types.specs.declared.history.Happening.TheVariants as happenings
use Rattle.access_types.specs.declared.history.Mark.{Mark}
use Rattle.access_types.specs.declared.history.Mark.TheVariants as marks
use Rattle.access_types.specs.declared.kind.Claim.TheVariants.{NoAccesses, NoWrites}
use Rattle.access_types.specs.declared.kind.Kind.{Kind}
use Rattle.access_types.specs.declared.kind.Kind.TheVariants as kinds
use Rattle.litmus_syntax.specs.Sites.{accesses_of, sites_of}
use Rattle.litmus_syntax.specs.Tree.{Assignment, Block, Expression, Fetch, Load, Pure, Statement}
use Rattle.litmus_syntax.specs.Tree as tree
use Rattle.litmus_syntax.specs.declared.statement.Call.{Call}
use Rattle.litmus_syntax.specs.declared.statement.Call.TheVariants as calls
use Rattle.litmus_semantics.specs.Assignments.{Adds, Assigns, AssignsIn, Writes, compound_kind, write_kind}
use Rattle.litmus_semantics.specs.Calls.{Scoped, call_does, check_kind, checked_bytes, checking, scoped_access, scoped_assertion}
use Rattle.litmus_semantics.specs.Expressions.{pure_value}
use Rattle.litmus_semantics.specs.Loads.{ComparesAndWrites, Evaluates, Fetches, Loads, exchange_kind, fetch_kind, in_data_races, load_in, other, reading, same, updating, variable_of}
use Rattle.litmus_semantics.specs.Meaning.{Chooses, InBlock, Means, MeansBlock, Turns, after_condition}
use Rattle.litmus_semantics.specs.Task as meaning
use Rattle.litmus_semantics.specs.Task.{Progress, access_now, assigning, begins_at, bytes_in, has_lock}
use Rattle.litmus_semantics.specs.Values.{cut}
use Rattle.access_run.specs.memory_operation.Effects.{nothing}
use Rattle.access_run.specs.memory_operation.Operations.{Operates}
use Rattle.access_run.specs.declared.memory_operation.effect.Effect.{Effect}
use Rattle.access_run.specs.declared.memory_operation.operation.Change.TheVariants as changes
use Rattle.access_run.specs.declared.memory_operation.operation.Operation.{Operation}
use Rattle.access_run.specs.declared.memory_operation.operation.Operation.TheVariants as operations
use Rattle.setup_access.specs.Records.{MakesDone}
use Rattle.slot_table.specs.declared.records.Record.{Record}
use Rattle.slot_table.specs.declared.step.Step.TheVariants.{LockStore}
use Rattle.program_order.specs.Access.{Makes}
use Rattle.program_order.specs.Standing.{Setting, Standing, checks_of, coming, counting, doing, lock_number, registered}
use Rattle.program_order.specs.WrittenOrder.{ChecksAt, Only, SpellsAll, StepsInBlock, StepsInDataRace, StepsOf, StepsOfAssignment, StepsOfBlock, StepsOfCall, StepsOfExpression, StepsOfLoad, StepsOfTurns, at_first, fetch_operation}
use Rattle.program_order.proofs.AccessLemmas.{access_does, counting_progress, makes_did, makes_registers, progress_is}
use Rattle.program_order.proofs.EffectLemmas.{ChangeGives, operation_gives}

-- an operation that has this effect
makes_progress : (s : Setting) (a : access.Access) (operation : Option Operation) (effect is : Effect) (before : Standing) (records : List Record) (after : Standing) (rest : List Record)
    → Makes s before a operation records effect after rest → effect ≡ is → after.progress ≡ meaning.doing before.progress (access_does a is)
makes_progress s a operation effect is before records after rest h same_effect =
    progress_is after.progress (meaning.doing before.progress (access_does a is))
    (makes_did s a operation effect before records after rest h ∙ ap (λ (e : Effect). before.progress.did ++ access_does a e) same_effect)
    (makes_registers s a operation effect before records after rest h)

-- marks begin no access, so an access inside data_race( ) is the one that it would be outside
counted : (site : ℕ) (did more : List Happening) → count_by (begins_at site) more ≡ 0 → count_by (begins_at site) (did ++ more) ≡ count_by (begins_at site) did
counted site did more none =
    let both : count_by (begins_at site) (did ++ more) ≡ count_by (begins_at site) did + count_by (begins_at site) more =
    sum_by-append (λ (happening : Happening). cond (begins_at site happening) 1 0) did more in
    omega arith

mark_begins_none : (site count : ℕ) (m : Mark) → count_by (begins_at site) (replicate count (happenings.Mark m)) ≡ 0
mark_begins_none site zero m = refl
mark_begins_none site (suc count) m = mark_begins_none site count m

same_access : (s : meaning.Setting) (site : ℕ) (before : Progress) (count : ℕ) (m : Mark) (bytes : Bytes) (kind : Kind) (mask : Option ℕ)
    → access_now s site (meaning.doing before (replicate count (happenings.Mark m))) bytes kind mask ≡ access_now s site before bytes kind mask
same_access s site before count m bytes kind mask =
    ap (λ (n : ℕ). record (access_now s site before bytes kind mask) { rep = n })
    (counted site before.did (replicate count (happenings.Mark m)) (mark_begins_none site count m))

-- the value that was read
abbrev read_value : Option ℕ → ℕ
read_value None = 0
read_value (Some value) = value

one_value : (first second : ℕ) (effect : Effect) (written : Option ℕ) → effect ≡ record { read = Some first; written = written } → effect.read ≡ Some second → first ≡ second
one_value first second effect written is read = ap read_value (sym (ap (λ (e : Effect). e.read) is) ∙ read)

-- a cmpxchg wrote where it read the expected value
compared : (a : access.Access) (expected replacement old : ℕ) (effect : Effect) → ChangeGives a.size (changes.CompareExchange expected replacement) effect → effect.read ≡ Some old
    → ComparesAndWrites a (cut a.size expected) (cut a.size replacement) old (access_does a effect)
compared a expected replacement old effect gives read = elim gives.1 [
  | inl p ↦ let value : gives.0 ≡ old = one_value gives.0 old effect (Some (cut a.size replacement)) p.1 read in
      same (sym value ∙ eqb-true gives.0 (cut a.size expected) p.0)
      (ap (λ (e : Effect). access_does a e) (p.1 ∙ ap (λ (o : ℕ). record { read = Some o; written = Some (cut a.size replacement) }) value))
  | inr p ↦ let value : gives.0 ≡ old = one_value gives.0 old effect None p.1 read in
      other (λ is. let no : true ≡ false = sym (eq-eqb gives.0 (cut a.size expected) (value ∙ is)) ∙ p.0 in cc)
      (ap (λ (e : Effect). access_does a e) (p.1 ∙ ap (λ (o : ℕ). record { read = Some o; written = None }) value))
]

-- what a load did is what it means
fetches : (s : Setting) (site : ℕ) (f : Fetch) (before : Progress) (old : ℕ) (effect : Effect) (records rest : List Record)
    → (a : access.Access)
    → a ≡ access_now s.text site before (bytes_in s.text (variable_of f)) (fetch_kind f) None
    → Operates (checks_of s) a (Some (fetch_operation before.registers f)) records effect rest
    → effect.read ≡ Some old → Fetches s.text site f before old (access_does a effect)
fetches s site (tree.read form x) before old effect records rest a is h read =
    let gives = operation_gives (checks_of s) a operations.Load records effect rest h in
    let value : gives.0 ≡ old = one_value gives.0 old effect None gives.1 read in
    let whole : effect ≡ record { read = Some old; written = None } = gives.1 ∙ ap (λ (o : ℕ). record { read = Some o; written = None }) value in
    ap (λ (e : Effect). access_does a e) whole ∙ ap (λ (b : access.Access). reading b old) is
fetches s site (tree.exchange x e) before old effect records rest a is h read =
    let new : ℕ = pure_value before.registers e in
    let gives = operation_gives (checks_of s) a (operations.Change (changes.Exchange new)) records effect rest h in
    let value : gives.0 ≡ old = one_value gives.0 old effect (Some (cut a.size new)) gives.1 read in
    let whole : effect ≡ record { read = Some old; written = Some (cut a.size new) } = gives.1 ∙ ap (λ (o : ℕ). record { read = Some o; written = Some (cut a.size new) }) value in
    ap (λ (e : Effect). access_does a e) whole ∙ ap (λ (b : access.Access). updating b old (cut b.size new)) is
fetches s site (tree.compare_exchange x e f) before old effect records rest a is h read =
    let expected : ℕ = pure_value before.registers e in
    let replacement : ℕ = pure_value before.registers f in
    let gives = operation_gives (checks_of s) a (operations.Change (changes.CompareExchange expected replacement)) records effect rest h in
    subst (λ (b : access.Access). ComparesAndWrites b (cut b.size expected) (cut b.size replacement) old (access_does a effect)) is
    (compared a expected replacement old effect gives read)

by_load : (s : Setting) (site : ℕ) (l : Load) (before : Standing) (records : List Record) (loaded : ℕ) (after : Standing) (rest : List Record)
    → StepsOfLoad s site l before records loaded after rest → Loads s.text site l before.progress loaded after.progress
by_load s site l before records loaded after rest h =
    let off : Standing = doing before records (replicate l.data_races (happenings.Mark marks.Disable)) in
    let disables : List Happening = replicate l.data_races (happenings.Mark marks.Disable) in
    let enables : List Happening = replicate l.data_races (happenings.Mark marks.Enable) in
    let a : access.Access = access_now s.text site off.progress (bytes_in s.text (variable_of l.fetch)) (fetch_kind l.fetch) None in
    let does : List Happening = access_does a h.1 in
    let did : after.progress.did ≡ before.progress.did ++ (disables ++ does ++ enables) =
    ap (λ (st : Standing). st.progress.did) h.6
    ∙ (ap (λ (d : List Happening). d ++ enables) (makes_did s a _ h.1 off records h.2 rest h.3 ∙ append_assoc before.progress.did disables does)
    ∙ append_assoc before.progress.did (disables ++ does) enables) in
    let registers : after.progress.registers ≡ before.progress.registers =
    ap (λ (st : Standing). st.progress.registers) h.6 ∙ makes_registers s a _ h.1 off records h.2 rest h.3 in
    record {
      old = h.0;
      does = does;
      fetches = fetches s site l.fetch before.progress h.0 h.1 h.3.checked h.3.done a
          (same_access s.text site before.progress l.data_races marks.Disable (bytes_in s.text (variable_of l.fetch)) (fetch_kind l.fetch) None)
          h.3.operates h.4;
      value = h.5;
      comes_to = progress_is after.progress (meaning.doing before.progress (in_data_races l.data_races does)) did registers;
    }

by_expression : (s : Setting) (site : ℕ) (e : Expression) (before : Standing) (records : List Record) (value : ℕ) (after : Standing) (rest : List Record)
    → StepsOfExpression s site e before records value after rest → Evaluates s.text site e before.progress value after.progress
by_expression s site (tree.pure e) before records value after rest h = (h.0, ap (λ (st : Standing). st.progress) h.1)
by_expression s site (tree.loading e) before records value after rest h =
    (h.0, by_load s site (load_in e) before records h.0 after rest h.1, h.2)

-- an access to a variable
abbrev accessed : Setting → ℕ → Kind → ℕ → Standing → access.Access
accessed s site kind x before = access_now s.text site before.progress (bytes_in s.text x) kind None

by_write : (s : Setting) (site : ℕ) (kind : Kind) (x value : ℕ) (before : Standing) (records : List Record) (effect : Effect) (after : Standing) (rest : List Record)
    → Makes s before (access_now s.text site before.progress (bytes_in s.text x) kind None) (Some (operations.Change (changes.Write value))) records effect after rest
    → Writes s.text site kind x value before.progress after.progress
by_write s site kind x value before records effect after rest h =
    makes_progress s (accessed s site kind x before) _ effect (record { read = None; written = Some (cut (bytes_in s.text x).size value) }) before records after rest h
    (operation_gives (checks_of s) (accessed s site kind x before) (operations.Change (changes.Write value)) h.checked effect h.done h.operates)

by_add : (s : Setting) (site : ℕ) (kind : Kind) (x amount : ℕ) (before : Standing) (records : List Record) (effect : Effect) (after : Standing) (rest : List Record)
    → Makes s before (access_now s.text site before.progress (bytes_in s.text x) kind None) (Some (operations.Add amount)) records effect after rest
    → Adds s.text site kind x amount before.progress after.progress
by_add s site kind x amount before records effect after rest h =
    let gives = operation_gives (checks_of s) (accessed s site kind x before) (operations.Add amount) h.checked effect h.done h.operates in
    (gives.0, makes_progress s (accessed s site kind x before) _ effect _ before records after rest h gives.1)

by_atomic : (s : Setting) (site : ℕ) (kind : Kind) (x amount : ℕ) (before : Standing) (records : List Record) (effect : Effect) (after : Standing) (rest : List Record)
    → Makes s before (access_now s.text site before.progress (bytes_in s.text x) kind None) (Some (operations.Change (changes.AtomicAdd amount))) records effect after rest
    → Adds s.text site kind x amount before.progress after.progress
by_atomic s site kind x amount before records effect after rest h =
    let gives = operation_gives (checks_of s) (accessed s site kind x before) (operations.Change (changes.AtomicAdd amount)) h.checked effect h.done h.operates in
    (gives.0, makes_progress s (accessed s site kind x before) _ effect _ before records after rest h gives.1)

by_assignment : (s : Setting) (site : ℕ) (made : Assignment) (before : Standing) (records : List Record) (after : Standing) (rest : List Record)
    → StepsOfAssignment s site made before records after rest → Assigns s.text site made before.progress after.progress
by_assignment s site (tree.to_register r e) before records after rest h =
    (h.0, h.1.progress, by_expression s site e before records h.0 h.1 rest h.2, ap (λ (st : Standing). st.progress) h.3)
by_assignment s site (tree.write form x e) before records after rest h =
    by_write s site (write_kind form) x (pure_value before.progress.registers e) before records h.0 after rest h.1
by_assignment s site (tree.add x e) before records after rest h =
    by_add s site compound_kind x (pure_value before.progress.registers e) before records h.0 after rest h.1
by_assignment s site (tree.increment x) before records after rest h = by_add s site compound_kind x 1 before records h.0 after rest h.1
by_assignment s site (tree.atomic_add e x) before records after rest h =
    by_atomic s site exchange_kind x (pure_value before.progress.registers e) before records h.0 after rest h.1
by_assignment s site (tree.atomic_increment x) before records after rest h = by_atomic s site exchange_kind x 1 before records h.0 after rest h.1
by_assignment s site (tree.atomic_decrement x) before records after rest h = by_atomic s site exchange_kind x (2 ^ 64 - 1) before records h.0 after rest h.1

by_data_race : (s : Setting) (site : ℕ) (data_race : Bool) (made : Assignment) (before : Standing) (records : List Record) (after : Standing) (rest : List Record)
    → StepsInDataRace s site data_race made before records after rest → AssignsIn s.text site data_race made before.progress after.progress
by_data_race s site true made before records after rest h =
    (h.0.progress, by_assignment s site made (doing before records (happenings.Mark marks.Disable ∷ [])) records h.0 rest h.1, ap (λ (st : Standing). st.progress) h.2)
by_data_race s site false made before records after rest h =
    (h.0.progress, by_assignment s site made (doing before records []) records h.0 rest h.1, ap (λ (st : Standing). st.progress) h.2)

-- nothing is done
does_nothing : (before after : Progress) → after ≡ before → after ≡ meaning.doing before []
does_nothing before after is = is ∙ progress_is before (meaning.doing before []) (sym (append-nil before.did)) refl

by_check : (s : Setting) (site : ℕ) (bytes : Bytes) (kind : Kind) (mask : Option ℕ) (before : Standing) (records : List Record) (after : Standing) (rest : List Record)
    → ChecksAt s site bytes kind mask before records after rest
    → after.progress ≡ meaning.doing before.progress (checking (access_now s.text site before.progress bytes kind mask))
by_check s site bytes kind mask before records after rest h =
    makes_progress s (access_now s.text site before.progress bytes kind mask) None h.0 nothing before records after rest h.1 h.1.operates.0

by_unlock : (s : Setting) (lock : ℕ) (has : Bool) (before : Standing) (records : List Record) (after : Standing) (rest : List Record)
    → MatchBool has
    (MakesDone s.text.task (LockStore (lock_number s lock)) (λ later. rest ≡ later) records
    × (after ≡ doing before rest (happenings.Unlock lock ∷ [])))
    (Only (coming (counting true before) records before.progress) records after rest)
    → after.progress ≡ meaning.doing before.progress (if has then happenings.Unlock lock ∷ [] else [])
by_unlock s lock true before records after rest h = ap (λ (st : Standing). st.progress) h.1
by_unlock s lock false before records after rest h = does_nothing before.progress after.progress (ap (λ (st : Standing). st.progress) h.0)

by_sized : (s : Setting) (site : ℕ) (empty : Bool) (bytes : Bytes) (kind : Kind) (before : Standing) (records : List Record) (after : Standing) (rest : List Record)
    → MatchBool empty (Only before records after rest) (ChecksAt s site bytes kind None before records after rest)
    → after.progress ≡ meaning.doing before.progress (if empty then [] else checking (access_now s.text site before.progress bytes kind None))
by_sized s site true bytes kind before records after rest h = does_nothing before.progress after.progress (ap (λ (st : Standing). st.progress) h.0)
by_sized s site false bytes kind before records after rest h = by_check s site bytes kind None before records after rest h

by_call : (s : Setting) (site : ℕ) (c : Call) (before : Standing) (records : List Record) (after : Standing) (rest : List Record)
    → StepsOfCall s site c before records after rest → after.progress ≡ meaning.doing before.progress (call_does s.text site c before.progress)
by_call s site (calls.Barrier b) before records after rest h = does_nothing before.progress after.progress (ap (λ (st : Standing). st.progress) h.0)
by_call s site (calls.Lock l) before records after rest h = ap (λ (st : Standing). st.progress) h.2
by_call s site (calls.Unlock l) before records after rest h = by_unlock s l (has_lock l before.progress.did) before records after rest h
by_call s site (calls.AssertWriter x scoped) before records after rest h = by_check s site (bytes_in s.text x) (kinds.Assert NoWrites) None before records after rest h
by_call s site (calls.AssertAccess x scoped) before records after rest h = by_check s site (bytes_in s.text x) (kinds.Assert NoAccesses) None before records after rest h
by_call s site (calls.AssertBits x mask) before records after rest h =
    let checks : List Happening = checking (access_now s.text site before.progress (bytes_in s.text x) (kinds.Assert NoWrites) (proper_mask (Some mask))) in
    let next : List Happening = happenings.Mark (marks.Next 1) ∷ [] in
    let between : h.0.progress ≡ meaning.doing before.progress checks = by_check s site (bytes_in s.text x) (kinds.Assert NoWrites) (proper_mask (Some mask)) before records h.0 rest h.1 in
    ap (λ (st : Standing). st.progress) h.2 ∙ (ap (λ (p : Progress). meaning.doing p next) between
    ∙ progress_is (meaning.doing (meaning.doing before.progress checks) next) (meaning.doing before.progress (checks ++ next)) (append_assoc before.progress.did checks next) refl)
by_call s site (calls.Mark m) before records after rest h =
    ap (λ (st : Standing). st.progress) h.2.0 ∙ ap (λ (p : Progress). meaning.doing p (happenings.Mark m ∷ [])) (counting_progress h.0 before)
by_call s site (calls.Check is_write x size) before records after rest h =
    by_sized s site (size == 0) (checked_bytes s.text x size) (check_kind is_write) before records after rest h

by_turns : (Body : Standing → List Record → Standing → List Record → Type 0) (Turn : Progress → Progress → Type 0)
    → ((before : Standing) (records : List Record) (after : Standing) (rest : List Record) → Body before records after rest → Turn before.progress after.progress)
    → (r turn left : ℕ) (before : Standing) (records : List Record) (after : Standing) (rest : List Record)
    → StepsOfTurns Body r turn left before records after rest → Turns Turn r turn left before.progress after.progress
by_turns Body Turn each r turn zero before records after rest h = ap (λ (st : Standing). st.progress) h.0
by_turns Body Turn each r turn (suc left) before records after rest h =
    (h.0.progress, each (registered before records r turn) records h.0 h.1 h.2, by_turns Body Turn each r (suc turn) left h.0 h.1 after rest h.3)

by_block_of : (s : Setting) (site : ℕ) (scoped : Option Scoped) (Own Later : Standing → List Record → Standing → List Record → Type 0) (MeansOwn MeansLater : Progress → Progress → Type 0)
    → ((before : Standing) (records : List Record) (after : Standing) (rest : List Record) → Own before records after rest → MeansOwn before.progress after.progress)
    → ((before : Standing) (records : List Record) (after : Standing) (rest : List Record) → Later before records after rest → MeansLater before.progress after.progress)
    → (before : Standing) (records : List Record) (after : Standing) (rest : List Record)
    → StepsInBlock s site scoped Own Later before records after rest → InBlock s.text site scoped MeansOwn MeansLater before.progress after.progress
by_block_of s site None Own Later MeansOwn MeansLater own later before records after rest h =
    (h.0.progress, own before records h.0 h.1 h.2, later h.0 h.1 after rest h.3)
by_block_of s site (Some scoped) Own Later MeansOwn MeansLater own later before records after rest h =
    let a : access.Access = scoped_access s.text site before.progress scoped in
    let opened : h.1.progress ≡ meaning.doing before.progress (happenings.Begin a ∷ []) = ap (λ (st : Standing). st.progress) h.5.comes_to in
    let ended : after.progress ≡ meaning.doing h.2.progress (happenings.End h.0.access ∷ []) = ap (λ (st : Standing). st.progress) h.7.comes_to in (
      h.2.progress,
      subst (λ (p : Progress). MeansLater p h.2.progress) opened (later h.1 h.3 h.2 h.4 h.6),
      ended ∙ ap (λ (b : access.Access). meaning.doing h.2.progress (happenings.End b ∷ [])) h.5.begins.access,
    )

chosen : (value : ℕ) (Holds Fails MeansHolds MeansFails : Type 0) → (Holds → MeansHolds) → (Fails → MeansFails) → Chooses value Holds Fails → Chooses value MeansHolds MeansFails
chosen value Holds Fails MeansHolds MeansFails holds fails h = elim h [ inl p ↦ inl (p.0, holds p.1) | inr p ↦ inr (p.0, fails p.1) ]

mutual
  by_statement : (s : Setting) (site : ℕ) (st : Statement) (before : Standing) (records : List Record) (after : Standing) (rest : List Record)
      → StepsOf s site st before records after rest → Means s.text site st before.progress after.progress
  by_statement s site (tree.load_only l) before records after rest h = (h.0, by_load s site l before records h.0 after rest h.1)
  by_statement s site (tree.assign data_race made) before records after rest h = by_data_race s site data_race made before records after rest h
  by_statement s site (tree.call c) before records after rest h = by_call s site c before records after rest h
  by_statement s site (tree.if_block e body) before records after rest h = (
    h.0,
    h.1.progress,
    by_expression s site e before records h.0 h.1 h.2 h.3,
    chosen h.0 _ _ _ _ (λ p. by_block s (after_condition site e) body h.1 h.2 after rest p) (λ p. ap (λ (st : Standing). st.progress) p.0) h.4,
  )
  by_statement s site (tree.if_else e body otherwise) before records after rest h = (
    h.0,
    h.1.progress,
    by_expression s site e before records h.0 h.1 h.2 h.3,
    chosen h.0 _ _ _ _ (λ p. by_block s (after_condition site e) body h.1 h.2 after rest p)
        (λ p. by_block s (after_condition site e + length (sites_of body)) otherwise h.1 h.2 after rest p) h.4,
  )
  by_statement s site (tree.for_turns r turns body) before records after rest h =
      by_turns (λ b records a rest. StepsOfBlock s site body b records a rest) (λ start end. MeansBlock s.text site body start end)
      (λ b records a rest p. by_block s site body b records a rest p) r 0 turns before records after rest h

  pub by_block : (s : Setting) (site : ℕ) (body : Block) (before : Standing) (records : List Record) (after : Standing) (rest : List Record)
      → StepsOfBlock s site body before records after rest → MeansBlock s.text site body before.progress after.progress
  by_block s site tree.empty before records after rest h = ap (λ (st : Standing). st.progress) h.0
  by_block s site (tree.first st more) before records after rest h =
      by_block_of s site (scoped_assertion st)
      (λ b records a rest. StepsOf s site st b records a rest)
      (λ b records a rest. StepsOfBlock s (site + length (accesses_of st)) more b records a rest)
      (λ start end. Means s.text site st start end)
      (λ start end. MeansBlock s.text (site + length (accesses_of st)) more start end)
      (λ b records a rest p. by_statement s site st b records a rest p)
      (λ b records a rest p. by_block s (site + length (accesses_of st)) more b records a rest p)
      before records after rest h

-- what the records of a whole text did is what it means
pub whole_means : (s : Setting) (registers : ℕ) (body : Block) (records : List Record) → (h : SpellsAll s registers body records)
    → MeansBlock s.text 0 body (at_first registers).progress h.end.progress
whole_means s registers body records h = by_block s 0 body (at_first registers) records h.end [] h.steps
