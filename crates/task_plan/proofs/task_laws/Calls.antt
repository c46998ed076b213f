-- Calls are open, but for scoped assertions.
use Rattle.std.proofs.Common.{◌≡◌, ◌≢◌, ◌<◌, ◌≤◌, ◌↔◌, ◌+◌, ◌^◌, ◌==◌, ℕ, Bool, true, false, IsTrue}
use Rattle.std.proofs.Common.{List, [], ◌∷◌, MatchBool, None, Option, Some, ap, arith, count_by, not, refl, if◌then◌else◌}
use Rattle.std.proofs.lemmas.List.Sums.{sum_by-append}
use Rattle.access_types.specs.Access.{proper_mask}
use Rattle.access_types.specs.declared.history.Bytes.{Bytes}
use Rattle.access_types.specs.declared.history.Happening.{Happening}
use Rattle.access_types.specs.declared.history.Happening.TheVariants as happenings
use Rattle.access_types.specs.declared.history.Mark.{Mark}
use Rattle.access_types.specs.declared.history.Mark.TheVariants as marks
use Rattle.access_types.specs.declared.kind.Claim.TheVariants.{NoAccesses, NoWrites}
use Rattle.access_types.specs.declared.kind.Kind.{Kind}
use Rattle.access_types.specs.declared.kind.Kind.TheVariants as kinds
use Rattle.task_plan.proofs.task_laws.Opens.{Begins, done_then, still_open}
use Rattle.task_plan.proofs.task_laws.Waits.{lock_open}
use Rattle.litmus_semantics.specs.Calls.{check_kind, checked_bytes}
use Rattle.litmus_semantics.specs.Task.{access_now, begins_at, bytes_in, has_lock}
use Rattle.litmus_syntax.specs.Limits.{CallTyped, IsVariable}
use Rattle.litmus_syntax.specs.Sites.{call_has_access}
use Rattle.litmus_syntax.specs.declared.statement.Call.{Call}
use Rattle.litmus_syntax.specs.declared.statement.Call.TheVariants as calls
use Rattle.access_run.specs.memory_operation.Locks.{TakesLock}
use Rattle.access_run.specs.declared.memory_operation.effect.Effect.{Effect}
use Rattle.setup_access.specs.Check.{Fallen}
use Rattle.setup_access.specs.OwnAccesses.{AreOwn}
use Rattle.setup_access.specs.Records.{MakesDone}
use Rattle.slot_table.specs.declared.records.Record.{Record}
use Rattle.slot_table.specs.declared.step.Step.TheVariants.{LockStore}
use Rattle.task_plan.proofs.task_laws.Decided.{nothing_told}
use Rattle.task_plan.proofs.task_laws.Statements.{above_zero, doing_at, few_at, in_range, lock_at, memory_bytes, no_mask, own_access, proper}
use Rattle.task_plan.specs.task_laws.Begins.{one_at, own_begins}
use Rattle.task_plan.specs.task_laws.StandingButWay.{Core, begun_at, core_of, standing}
use Rattle.task_plan.specs.task_laws.Fits.{ArePlaced}
use Rattle.task_plan.proofs.task_laws.Accesses.{makes_open}
use Rattle.task_plan.proofs.task_laws.Places.{Plain, StepsAreOpen, Valued, WithinFrom, part_as, part_of, part_still, part_sum, part_via}
use Rattle.program_order.specs.Access.{Makes}
use Rattle.program_order.specs.Standing.{EndsNothing, Point, Setting, Standing, checks_of, coming, counting, doing, lock_number}
use Rattle.program_order.specs.WrittenOrder.{ChecksAt, MakesMark, Only, Steps, StepsOfCall}

-- one thing is done that begins no access
begun_with : (at : Core) (does : List Happening) (k : ℕ) → count_by (begins_at k) does ≡ 0 → begun_at k (doing_at at does) ≡ begun_at k at
begun_with at does k none =
    let parts : begun_at k (doing_at at does) ≡ begun_at k at + count_by (begins_at k) does =
    sum_by-append (λ (h : Happening). if begins_at k h then 1 else 0) at.progress.did does in
    omega (arith, parts, none)

-- nothing is begun by this, from a place on
nothing_begins : (at after : Core) → ((k : ℕ) → begun_at k after ≡ begun_at k at) → after.scopes ≡ at.scopes → WithinFrom at (λ k. 0) after
nothing_begins at after same scopes = record { counts = λ k. let is = same k in omega (arith, is); scopes = scopes }

-- a call that makes no step
only_open : (at end : Core) (comes_to : Standing → List Record → Standing) → WithinFrom at (λ k. 0) end
    → ((way : List Point) (outcomes : List Fallen) (records : List Record) → core_of (comes_to (standing at way outcomes) records) ≡ end)
    → StepsAreOpen (λ before records after rest. Only (comes_to before records) records after rest) at (λ k. 0)
only_open at end comes_to is ends =
    part_still (Unit {0}) (Plain (λ before records after rest. Only (comes_to before records) records after rest)) at tt end
    (λ value after. WithinFrom at (λ k. 0) after) is
    (λ way outcomes records value after rest h. (refl, core_is way outcomes records after h.0, h.1))
    (λ way outcomes records. (comes_to (standing at way outcomes) records, (refl, refl), ends way outcomes records))
  where
    core_is : (way : List Point) (outcomes : List Fallen) (records : List Record) (after : Standing) → after ≡ comes_to (standing at way outcomes) records
        → core_of after ≡ end
    core_is way outcomes records after is = rw is (ends way outcomes records)

module _ (s : Setting) where
  abbrev Marks : Mark → Bool → Steps
  Marks m told before records after rest = Only (doing (counting told before) records (happenings.Mark m ∷ [])) records after rest

  marks_open : (at : Core) (m : Mark) (told : Bool) → StepsAreOpen (λ before records after rest. Marks m told before records after rest) at (λ k. 0)
  marks_open at m true =
      let end : Core = doing_at (record at { unbalanced = at.unbalanced + 1 }) (happenings.Mark m ∷ []) in
      only_open at end (λ before records. doing (counting true before) records (happenings.Mark m ∷ []))
      (nothing_begins at end (λ k. begun_with at (happenings.Mark m ∷ []) k refl) refl) (λ way outcomes records. refl)
  marks_open at m false =
      let end : Core = doing_at at (happenings.Mark m ∷ []) in
      only_open at end (λ before records. doing before records (happenings.Mark m ∷ []))
      (nothing_begins at end (λ k. begun_with at (happenings.Mark m ∷ []) k refl) refl) (λ way outcomes records. refl)

  -- that a mark ends nothing hangs on what the task did alone
  ends_same : (at : Core) (way : List Point) (outcomes : List Fallen) (m : Mark)
      → EndsNothing s (standing at [] []) m ↔ EndsNothing s (standing at way outcomes) m
  ends_same at way outcomes marks.Disable = (λ h. h, λ h. h)
  ends_same at way outcomes marks.Enable = (λ h. h, λ h. h)
  ends_same at way outcomes marks.NestOpen = (λ h. h, λ h. h)
  ends_same at way outcomes marks.NestClose = (λ h. h, λ h. h)
  ends_same at way outcomes marks.FlatBegin = (λ h. h, λ h. h)
  ends_same at way outcomes marks.FlatEnd = (λ h. h, λ h. h)
  ends_same at way outcomes (marks.Next count) = (λ h. h, λ h. h)

  abbrev MarksSo : Core → Mark → Valued (Unit {0})
  MarksSo at m before records value after rest =
      (told : Bool) × (IsTrue told ↔ EndsNothing s (standing at [] []) m) × Marks m told before records after rest

  mark_open : (at : Core) (m : Mark) → StepsAreOpen (λ before records after rest. MakesMark s m before records after rest) at (λ k. 0)
  mark_open at m =
      let told = nothing_told s (standing at [] []) m in
      part_as (Unit {0}) (MarksSo at m) (Plain (λ before records after rest. MakesMark s m before records after rest)) at
      (λ value after. WithinFrom at (λ k. 0) after)
      (λ way outcomes records value after rest.
      let same = ends_same at way outcomes m in (
        λ h. (h.0, (λ yes. same.0 (h.1.0 yes), λ none. h.1.1 (same.1 none)), h.2),
        λ h. (h.0, (λ yes. same.1 (h.1.0 yes), λ none. h.1.1 (same.0 none)), h.2),
      ))
      (part_sum Bool (Unit {0}) (λ told. IsTrue told ↔ EndsNothing s (standing at [] []) m)
      (λ told before records value after rest. Marks m told before records after rest) at (λ value after. WithinFrom at (λ k. 0) after) told.0 told.1
      (λ each is. marks_open at m each))

  abbrev Unlocks : Bool → ℕ → Steps
  Unlocks held l before records after rest =
      MatchBool held
      (MakesDone s.text.task (LockStore (lock_number s l)) (λ later. rest ≡ later) records
      × (after ≡ doing before rest (happenings.Unlock l ∷ [])))
      (Only (coming (counting true before) records before.progress) records after rest)

  unlock_open : (held : Bool) (at : Core) (l : ℕ) → StepsAreOpen (λ before records after rest. Unlocks held l before records after rest) at (λ k. 0)
  unlock_open true at l =
      let end : Core = doing_at at (happenings.Unlock l ∷ []) in
      let Store : Begins (Unit {0}) = λ records value rest. MakesDone s.text.task (LockStore (lock_number s l)) (λ later. rest ≡ later) records in
      part_of (Unit {0}) Store (Plain (λ before records after rest. Unlocks true l before records after rest)) at (λ value. end)
      (λ value after. WithinFrom at (λ k. 0) after)
      (λ value. nothing_begins at end (λ k. begun_with at (happenings.Unlock l ∷ []) k refl) refl)
      (λ way outcomes records value after rest h. (h.0, ap core_of h.1))
      (λ way outcomes records value rest stores. (doing (standing at way outcomes) rest (happenings.Unlock l ∷ []), (stores, refl), refl))
      (done_then s.text.task (LockStore (lock_number s l)) (Unit {0}) (λ later value rest. rest ≡ later) (λ answer fits. fits) refl still_open)
  unlock_open false at l =
      let end : Core = record at { unbalanced = at.unbalanced + 1 } in
      only_open at end (λ before records. coming (counting true before) records before.progress)
      (nothing_begins at end (λ k. refl) refl) (λ way outcomes records. refl)

module _ (s : Setting) (placed : ArePlaced s) where
  -- an access that leaves memory alone
  checks_open : (at : Core) (site : ℕ) (bytes : Bytes) (kind : Kind) (mask : Option ℕ) → site < 256 → ((k : ℕ) → begun_at k at + one_at site k ≤ 256)
      → AreOwn (checks_of s) at.scopes → 0 < bytes.size → bytes.addr + bytes.size ≤ 2 ^ 63 → (mask ≢ Some 0)
      → StepsAreOpen (λ before records after rest. ChecksAt s site bytes kind mask before records after rest) at (one_at site)
  checks_open at site bytes kind mask below room own some range proper_one =
      let a = access_now s.text site at.progress bytes kind mask in
      part_via Effect (Unit {0}) (λ before records effect after rest. Makes s before a None records effect after rest)
      (Plain (λ before records after rest. ChecksAt s site bytes kind mask before records after rest)) at at (λ effect. tt) (λ effect between. between)
      (λ effect after. WithinFrom at (one_at site) after) (λ value after. WithinFrom at (one_at site) after)
      (λ way outcomes records value after rest h. (way, outcomes, h.0, after, h.1, refl, refl))
      (λ way outcomes records. (way, outcomes, λ effect between rest makes. (between, (effect, makes), refl)))
      (makes_open s at a None (own_access s placed site at.progress bytes kind mask below (few_at s placed site at room) range proper_one) some own tt)
      (λ effect between is. is)

  abbrev ChecksOrNot : Bool → ℕ → Bytes → Kind → Steps
  ChecksOrNot none site bytes kind before records after rest =
      MatchBool none (Only before records after rest) (ChecksAt s site bytes kind None before records after rest)

  check_open : (none : Bool) (at : Core) (site : ℕ) (bytes : Bytes) (kind : Kind) → (not none ≡ true → site < 256)
      → ((k : ℕ) → begun_at k at + own_begins (not none) site k ≤ 256) → AreOwn (checks_of s) at.scopes → (none ≡ false → 0 < bytes.size)
      → bytes.addr + bytes.size ≤ 2 ^ 63
      → StepsAreOpen (λ before records after rest. ChecksOrNot none site bytes kind before records after rest) at (own_begins (not none) site)
  check_open true at site bytes kind below room own some range =
      only_open at at (λ before records. before) (nothing_begins at at (λ k. refl) refl) (λ way outcomes records. refl)
  check_open false at site bytes kind below room own some range =
      checks_open at site bytes kind None (below refl) room own (some refl) range (no_mask s placed)

  lock_call_open : (at : Core) (l : ℕ) → CallTyped (IsVariable s.text.variables) 0 (calls.Lock l)
      → StepsAreOpen (λ before records after rest. StepsOfCall s 0 (calls.Lock l) before records after rest) at (λ k. 0)
  lock_call_open at l typed =
      let end : Core = doing_at at (happenings.Lock l ∷ []) in
      part_of (Unit {0}) (λ records value rest. TakesLock s.text.task (lock_number s l) records rest)
      (Plain (λ before records after rest. StepsOfCall s 0 (calls.Lock l) before records after rest)) at (λ value. end)
      (λ value after. WithinFrom at (λ k. 0) after)
      (λ value. nothing_begins at end (λ k. begun_with at (happenings.Lock l ∷ []) k refl) refl)
      (λ way outcomes records value after rest h. (h.1, ap core_of h.2))
      (λ way outcomes records value rest takes. (doing (standing at way outcomes) rest (happenings.Lock l ∷ []), (lock_at s placed l typed, takes, refl), refl))
      (lock_open s.text.task (lock_number s l))

  -- bits are asserted exclusive, and the next access counts as marked
  bits_open : (at : Core) (site x mask : ℕ) → CallTyped (IsVariable s.text.variables) 0 (calls.AssertBits x mask) → site < 256
      → ((k : ℕ) → begun_at k at + one_at site k ≤ 256) → AreOwn (checks_of s) at.scopes
      → StepsAreOpen (λ before records after rest. StepsOfCall s site (calls.AssertBits x mask) before records after rest) at (one_at site)
  bits_open at site x mask typed below room own =
      let has = memory_bytes s placed x typed in
      let next : List Happening = happenings.Mark (marks.Next 1) ∷ [] in
      part_via (Unit {0}) (Unit {0})
      (Plain (λ before records after rest. ChecksAt s site (bytes_in s.text x) (kinds.Assert NoWrites) (proper_mask (Some mask)) before records after rest))
      (Plain (λ before records after rest. StepsOfCall s site (calls.AssertBits x mask) before records after rest)) at at (λ value. tt)
      (λ value between. doing_at between next)
      (λ value after. WithinFrom at (one_at site) after) (λ value after. WithinFrom at (one_at site) after)
      (λ way outcomes records value after rest h. (way, outcomes, tt, h.0, h.1, refl, ap core_of h.2))
      (λ way outcomes records. (way, outcomes, λ value between rest checks. (doing between rest next, (between, checks, refl), refl)))
      (checks_open at site (bytes_in s.text x) (kinds.Assert NoWrites) (proper_mask (Some mask)) below room own has.some (in_range s placed x has)
      (proper s placed mask))
      (λ value between is. record {
        counts = λ k. let more = is.counts k in let same = begun_with between next k refl in omega (arith, more, same);
        scopes = is.scopes;
      })

  pub call_open : (registers : ℕ) (at : Core) (site : ℕ) (c : Call) → CallTyped (IsVariable s.text.variables) registers c
      → (call_has_access c ≡ true → site < 256) → ((k : ℕ) → begun_at k at + own_begins (call_has_access c) site k ≤ 256)
      → AreOwn (checks_of s) at.scopes
      → StepsAreOpen (λ before records after rest. StepsOfCall s site c before records after rest) at (own_begins (call_has_access c) site)
  call_open registers at site (calls.Barrier b) typed below room own =
      only_open at at (λ before records. before) (nothing_begins at at (λ k. refl) refl) (λ way outcomes records. refl)
  call_open registers at site (calls.Lock l) typed below room own = lock_call_open at l typed
  call_open registers at site (calls.Unlock l) typed below room own = unlock_open s (has_lock l at.progress.did) at l
  call_open registers at site (calls.AssertWriter x scoped) typed below room own =
      let has = memory_bytes s placed x typed in
      checks_open at site (bytes_in s.text x) (kinds.Assert NoWrites) None (below refl) room own has.some (in_range s placed x has) (no_mask s placed)
  call_open registers at site (calls.AssertAccess x scoped) typed below room own =
      let has = memory_bytes s placed x typed in
      checks_open at site (bytes_in s.text x) (kinds.Assert NoAccesses) None (below refl) room own has.some (in_range s placed x has) (no_mask s placed)
  call_open registers at site (calls.AssertBits x mask) typed below room own = bits_open at site x mask typed (below refl) room own
  call_open registers at site (calls.Mark m) typed below room own = mark_open s at m
  call_open registers at site (calls.Check is_write x size) typed below room own =
      let has = memory_bytes s placed x typed.0 in
      let low = has.low in
      let few : size ≤ 1048576 = typed.1 in
      check_open (size == 0) at site (checked_bytes s.text x size) (check_kind is_write) below room own
      (λ some. above_zero s placed size some) (omega (arith, low, few))
