-- The begin of an access adds no mark, and takes one of what is left where it is countable.
use Rattle.std.proofs.Common.{◌≡◌, ◌<◌, ◌≤◌, ◌-◌, ◌==◌, ◌∙◌, ◌&&◌, ◌⊎◌, ◌↔◌, ℕ, List, [], ◌∷◌, Bool}
use Rattle.std.proofs.Common.{true, false, not, cond, IsTrue, refl, ap, arith, inl, inr}
use Rattle.std.proofs.Math.Bool.{and-true}
use Rattle.std.proofs.lemmas.Bool.{eq-eqb}
use Rattle.access_types.specs.Access.{Access}
use Rattle.access_types.specs.Kind.{is_assertion, is_marked}
use Rattle.access_types.specs.History.{History}
use Rattle.access_types.specs.Marked.{CountsAfter, is_atomic_write, is_countable, is_nest_close}
use Rattle.access_types.specs.Marked.{is_nest_open, mark_before, marks_of}
use Rattle.access_types.specs.Marked.CountsAfter.{atomic_write, declared, in_flat, in_nest}
use Rattle.access_types.specs.Marked.CountsAfter.{within_next}
use Rattle.access_types.specs.declared.history.Happening.TheVariants.{Begin}
use Rattle.access_types.specs.declared.history.Mark.{Mark}
use Rattle.task_context.specs.History.{Follows, LeadsTo}
use Rattle.task_context.proofs.Leads.{quiet_follows}
use Rattle.task_context.proofs.NextMarks.{IsWithinNext-left, begun}
use Rattle.task_context.proofs.Surpluses.{EndsRaised-surplus, surplus-EndsRaised}

-- which accesses aren't countable, and which are
countable_of : (plain_writes_atomic : Bool) (a : Access) (is_declared asserts atomic : Bool)
    → is_marked a.kind ≡ is_declared → is_assertion a.kind ≡ asserts
    → is_atomic_write plain_writes_atomic a ≡ atomic
    → is_countable plain_writes_atomic a ≡ (not is_declared && not asserts && not atomic)
countable_of plain_writes_atomic a is_declared asserts atomic e f g = rw (e, f, g) refl

asserts_uncounted : (is_declared bare : Bool) → (not is_declared && not true && bare) ≡ false
asserts_uncounted true bare = refl
asserts_uncounted false bare = refl

pub declared_uncounted : (plain_writes_atomic : Bool) (a : Access) → is_marked a.kind ≡ true
    → is_countable plain_writes_atomic a ≡ false
declared_uncounted plain_writes_atomic a e = countable_of plain_writes_atomic a true _ _ e refl refl

pub assertion_uncounted : (plain_writes_atomic : Bool) (a : Access) → is_assertion a.kind ≡ true
    → is_countable plain_writes_atomic a ≡ false
assertion_uncounted plain_writes_atomic a e =
    countable_of plain_writes_atomic a _ true _ refl e refl ∙ asserts_uncounted _ _

pub atomic_uncounted : (plain_writes_atomic : Bool) (a : Access) → is_marked a.kind ≡ false
    → is_assertion a.kind ≡ false → is_atomic_write plain_writes_atomic a ≡ true
    → is_countable plain_writes_atomic a ≡ false
atomic_uncounted plain_writes_atomic a e f g =
    countable_of plain_writes_atomic a false false true e f g

pub bare_counted : (plain_writes_atomic : Bool) (a : Access) → is_marked a.kind ≡ false
    → is_assertion a.kind ≡ false → is_atomic_write plain_writes_atomic a ≡ false
    → is_countable plain_writes_atomic a ≡ true
bare_counted plain_writes_atomic a e f g =
    countable_of plain_writes_atomic a false false false e f g

begin_quiet : (a : Access)
    → marks_of a.task ((record { task = a.task; happening = Begin a }) ∷ []) ≡ []
begin_quiet a =
    ap (λ own. mark_before own (Begin a) (let none : List Mark = [] in none))
    (eq-eqb a.task a.task refl)

begun-is : (plain_writes_atomic : Bool) (a : Access) (counted : Bool)
    → is_countable plain_writes_atomic a ≡ counted
    → begun plain_writes_atomic a.task (record { task = a.task; happening = Begin a })
    ≡ cond counted 1 0
begun-is plain_writes_atomic a counted e =
    let own : (a.task == a.task) ≡ true = eq-eqb a.task a.task refl in
    rw (own, e, and-true) refl

begins : (plain_writes_atomic : Bool) (a : Access) (disables nests : ℕ) (flag : Bool)
    (left after : ℕ)
    → after ≡ left - begun plain_writes_atomic a.task
    (record { task = a.task; happening = Begin a })
    → Follows plain_writes_atomic a.task
    (record { disable_count = disables; nest_count = nests; in_flat = flag; atomic_next = left })
    (Begin a)
    (record { disable_count = disables; nest_count = nests; in_flat = flag; atomic_next = after })
begins plain_writes_atomic a disables nests flag left after takes xs h =
    quiet_follows plain_writes_atomic a.task xs
    (record { task = a.task; happening = Begin a }) disables nests flag left after
    (begin_quiet a) takes h

-- an access that isn't countable takes none
pub begin_takes_none : (plain_writes_atomic : Bool) (a : Access) (disables nests : ℕ) (flag : Bool)
    (left : ℕ)
    → is_countable plain_writes_atomic a ≡ false
    → Follows plain_writes_atomic a.task
    (record { disable_count = disables; nest_count = nests; in_flat = flag; atomic_next = left })
    (Begin a)
    (record { disable_count = disables; nest_count = nests; in_flat = flag; atomic_next = left })
begin_takes_none plain_writes_atomic a disables nests flag left free =
    let none = begun-is plain_writes_atomic a false free in
    begins plain_writes_atomic a disables nests flag left left (omega arith)

-- a countable access takes one
pub begin_takes_one : (plain_writes_atomic : Bool) (a : Access) (disables nests : ℕ) (flag : Bool)
    (left : ℕ)
    → is_countable plain_writes_atomic a ≡ true
    → Follows plain_writes_atomic a.task
    (record { disable_count = disables; nest_count = nests; in_flat = flag; atomic_next = left })
    (Begin a)
    (record
    { disable_count = disables; nest_count = nests; in_flat = flag; atomic_next = left - 1 })
begin_takes_one plain_writes_atomic a disables nests flag left countable =
    let one = begun-is plain_writes_atomic a true countable in
    begins plain_writes_atomic a disables nests flag left (left - 1) (omega arith)

-- there is none to take
pub begin_finds_none : (plain_writes_atomic : Bool) (a : Access) (disables nests : ℕ) (flag : Bool)
    → Follows plain_writes_atomic a.task
    (record { disable_count = disables; nest_count = nests; in_flat = flag; atomic_next = 0 })
    (Begin a)
    (record { disable_count = disables; nest_count = nests; in_flat = flag; atomic_next = 0 })
begin_finds_none plain_writes_atomic a disables nests flag =
    begins plain_writes_atomic a disables nests flag 0 0 (omega arith)

-- with none left an access counts in a region only
only_in_regions : (plain_writes_atomic : Bool) (a : Access) (before : History) (disables nests : ℕ)
    (flag : Bool)
    → is_marked a.kind ≡ false → is_assertion a.kind ≡ false
    → is_atomic_write plain_writes_atomic a ≡ false
    → LeadsTo plain_writes_atomic a.task before
    (record { disable_count = disables; nest_count = nests; in_flat = flag; atomic_next = 0 })
    → CountsAfter plain_writes_atomic a before → (0 < nests) ⊎ IsTrue flag
only_in_regions plain_writes_atomic a before disables nests flag plain memory bare h (declared is) =
    absurd (cc)
only_in_regions plain_writes_atomic a before disables nests flag plain memory bare h
    (atomic_write real is) =
    absurd (cc)
only_in_regions plain_writes_atomic a before disables nests flag plain memory bare h
    (within_next real other is) =
    absurd
    (let some = IsWithinNext-left plain_writes_atomic a.task 0 before h.next is in omega arith)
only_in_regions plain_writes_atomic a before disables nests flag plain memory bare h
    (in_nest real is) =
    inl (surplus-EndsRaised is_nest_open is_nest_close (marks_of a.task before) nests h.nested is)
only_in_regions plain_writes_atomic a before disables nests flag plain memory bare h
    (in_flat real is) =
    inr (h.flat.1 is)

pub counts_in_regions : (plain_writes_atomic : Bool) (a : Access) (before : History)
    (disables nests : ℕ) (flag result : Bool)
    → is_marked a.kind ≡ false → is_assertion a.kind ≡ false
    → is_atomic_write plain_writes_atomic a ≡ false → (IsTrue result ↔ ((0 < nests) ⊎ IsTrue flag))
    → LeadsTo plain_writes_atomic a.task before
    (record { disable_count = disables; nest_count = nests; in_flat = flag; atomic_next = 0 })
    → IsTrue result ↔ CountsAfter plain_writes_atomic a before
counts_in_regions plain_writes_atomic a before disables nests flag result plain memory bare says h =
    let real : ¬ IsTrue (is_assertion a.kind) = λ asserts. cc in (
      λ yes. elim (says.0 yes) [
        | inl nested ↦ in_nest real
            (EndsRaised-surplus is_nest_open is_nest_close
            (marks_of a.task before) nests h.nested nested)
        | inr flat ↦ in_flat real (h.flat.0 flat)
      ],
      λ counts. says.1
          (only_in_regions plain_writes_atomic a before disables nests flag
          plain memory bare h counts),
    )

-- the answer in a nested region, and outside one
pub says_nested : (nests : ℕ) (flag result : Bool) → 0 < nests → result ≡ true
    → IsTrue result ↔ ((0 < nests) ⊎ IsTrue flag)
says_nested nests flag result nested is = (λ yes. inl nested, λ either. is)

pub says_flat : (nests : ℕ) (flag result : Bool) → nests ≤ 0 → result ≡ flag
    → IsTrue result ↔ ((0 < nests) ⊎ IsTrue flag)
says_flat nests flag result outside is =
    (λ yes. inr (cc), λ either. elim either [ inl nested ↦ absurd (omega arith) | inr flat ↦ cc ])
