-- What is decided where an access begins is decided.
use Rattle.std.proofs.Common.{◌≡◌, ◌<◌, ◌≤◌, ◌⊎◌, ◌↔◌, ℕ, Bool, true, false, IsTrue, List, arith, inl, inr, refl}
use Rattle.std.proofs.lemmas.Bool.{cases_Bool, cases_lt}
use Rattle.access_types.specs.Access.{Access}
use Rattle.access_types.specs.History.{History}
use Rattle.access_types.specs.Kind.{is_assertion, is_marked}
use Rattle.access_types.specs.Marked.{CountsAfter, EndsRaised, IsWithinNext, is_atomic_write, is_disable, is_enable, is_nest_close, is_nest_open, marks_of}
use Rattle.access_types.specs.Marked.CountsAfter.{atomic_write, declared, in_flat, in_nest, within_next}
use Rattle.access_types.specs.declared.history.Mark.{Mark}
use Rattle.access_types.specs.declared.history.Mark.TheVariants.{Disable, Enable, FlatBegin, FlatEnd, NestClose, NestOpen, Next}
use Rattle.setup_access.specs.OwnAccesses.{IsOwn}
use Rattle.setup_access.specs.declared.begun.Begun.{Begun}
use Rattle.task_context.proofs.NextMarks.{IsWithinNext-left}
use Rattle.task_context.proofs.OneContext.{some_context}
use Rattle.task_context.proofs.Surpluses.{EndsRaised-surplus, surplus-EndsRaised}
use Rattle.task_context.specs.Context.{Context}
use Rattle.task_context.specs.History.{IsLeft, IsSurplus, LeadsTo}
use Rattle.task_context.specs.History.IsLeft.{set, unset}
use Rattle.program_order.specs.Standing.{BeginsNow, EndsNothing, IsDisabled, IsNested, Setting, Standing, checks_of, moments}

-- what is so or isn't is told by a Bool
abbrev pub HasDecider : Type 0 → Type 0
HasDecider P = (told : Bool) × (IsTrue told ↔ P)

told : (P : Type 0) → P ⊎ (¬ P) → HasDecider P
told P (inl so) = (true, (λ yes. so, λ p. refl))
told P (inr not_so) = (false, (λ yes. absurd (let no : false ≡ true = yes in cc), λ p. absurd (not_so p)))

raised_or_not : (raises lowers : Mark → Bool) (marks : List Mark) (surplus : ℕ) → IsSurplus raises lowers marks surplus
    → EndsRaised raises lowers marks ⊎ (¬ EndsRaised raises lowers marks)
raised_or_not raises lowers marks surplus is = elim (cases_lt 0 surplus) [
  | inl some ↦ inl (EndsRaised-surplus raises lowers marks surplus is some)
  | inr none ↦ inr (λ raised. let some = surplus-EndsRaised raises lowers marks surplus is raised in absurd (omega arith))
]

disabled_or_not : (s : Setting) (before : Standing) → IsDisabled s before ⊎ (¬ IsDisabled s before)
disabled_or_not s before =
    let own = some_context s.rules.plain_writes_atomic s.text.task (moments s before) in
    raised_or_not is_disable is_enable (marks_of s.text.task (moments s before)) own.0.disable_count own.1.disabled

nested_or_not : (s : Setting) (before : Standing) → IsNested s before ⊎ (¬ IsNested s before)
nested_or_not s before =
    let own = some_context s.rules.plain_writes_atomic s.text.task (moments s before) in
    raised_or_not is_nest_open is_nest_close (marks_of s.text.task (moments s before)) own.0.nest_count own.1.nested

pub disabled_told : (s : Setting) (before : Standing) → HasDecider (IsDisabled s before)
disabled_told s before = told (IsDisabled s before) (disabled_or_not s before)

other_way : (P : Type 0) → P ⊎ (¬ P) → (¬ P) ⊎ (¬ (¬ P))
other_way P (inl so) = inr (λ no. no so)
other_way P (inr not_so) = inl not_so

pub nothing_told : (s : Setting) (before : Standing) (m : Mark) → HasDecider (EndsNothing s before m)
nothing_told s before Disable = told ⊥ (inr (λ no. no))
nothing_told s before Enable = told (¬ IsDisabled s before) (other_way (IsDisabled s before) (disabled_or_not s before))
nothing_told s before NestOpen = told ⊥ (inr (λ no. no))
nothing_told s before NestClose = told (¬ IsNested s before) (other_way (IsNested s before) (nested_or_not s before))
nothing_told s before FlatBegin = told ⊥ (inr (λ no. no))
nothing_told s before FlatEnd = told ⊥ (inr (λ no. no))
nothing_told s before (Next count) = told ⊥ (inr (λ no. no))

-- whether an access counts as marked, where its task's context is this
module _ (plain_writes_atomic : Bool) (a : Access) (before : History) (context : Context) (leads : LeadsTo plain_writes_atomic a.task before context) where
  within_of : IsLeft plain_writes_atomic a.task before context.atomic_next → 0 < context.atomic_next
      → IsWithinNext plain_writes_atomic a.task before
  within_of (unset none left) some = absurd (omega arith)
  within_of (set count earlier later split last left) some =
      record { count = count; earlier = earlier; later = later; split = split; last = last; fewer = omega arith }

  asserts_never : is_marked a.kind ≡ false → is_assertion a.kind ≡ true → CountsAfter plain_writes_atomic a before → ⊥
  asserts_never plain asserts (declared is) = absurd (cc)
  asserts_never plain asserts (atomic_write real is) = real asserts
  asserts_never plain asserts (within_next real bare is) = real asserts
  asserts_never plain asserts (in_nest real is) = real asserts
  asserts_never plain asserts (in_flat real is) = real asserts

  outside_never : is_marked a.kind ≡ false → is_atomic_write plain_writes_atomic a ≡ false → context.atomic_next ≤ 0
      → context.nest_count ≤ 0 → context.in_flat ≡ false → CountsAfter plain_writes_atomic a before → ⊥
  outside_never plain bare left nests flat (declared is) = absurd (cc)
  outside_never plain bare left nests flat (atomic_write real is) = absurd (cc)
  outside_never plain bare left nests flat (within_next real other is) =
      let some = IsWithinNext-left plain_writes_atomic a.task context.atomic_next before leads.next is in absurd (omega arith)
  outside_never plain bare left nests flat (in_nest real is) =
      let some = surplus-EndsRaised is_nest_open is_nest_close (marks_of a.task before) context.nest_count leads.nested is in absurd (omega arith)
  outside_never plain bare left nests flat (in_flat real is) = let yes = leads.flat.1 is in absurd (cc)

  in_regions : is_marked a.kind ≡ false → is_assertion a.kind ≡ false → is_atomic_write plain_writes_atomic a ≡ false → context.atomic_next ≤ 0
      → CountsAfter plain_writes_atomic a before ⊎ (¬ CountsAfter plain_writes_atomic a before)
  in_regions plain memory bare left =
      let real : ¬ IsTrue (is_assertion a.kind) = λ asserts. cc in
      elim (cases_lt 0 context.nest_count) [
        | inl nested ↦
            inl (in_nest real (EndsRaised-surplus is_nest_open is_nest_close (marks_of a.task before) context.nest_count leads.nested nested))
        | inr outside ↦ elim (cases_Bool context.in_flat) [
          | inl flat ↦ inl (in_flat real (leads.flat.0 flat))
          | inr none ↦ inr (outside_never plain bare left outside none)
        ]
      ]

  counts_or_not : CountsAfter plain_writes_atomic a before ⊎ (¬ CountsAfter plain_writes_atomic a before)
  counts_or_not = elim (cases_Bool (is_marked a.kind)) [
    | inl marked ↦ inl (declared marked)
    | inr plain ↦ elim (cases_Bool (is_assertion a.kind)) [
      | inl asserts ↦ inr (asserts_never plain asserts)
      | inr memory ↦ elim (cases_Bool (is_atomic_write plain_writes_atomic a)) [
        | inl atomic ↦ inl (atomic_write (λ asserts. absurd (cc)) atomic)
        | inr bare ↦ elim (cases_lt 0 context.atomic_next) [
          | inl some ↦ inl (within_next (λ asserts. absurd (cc)) (λ atomic. absurd (cc)) (within_of leads.next some))
          | inr left ↦ in_regions plain memory bare left
        ]
      ]
    ]
  ]

-- an access that begins counts as marked or doesn't, and is silenced or isn't
pub begins_now : (s : Setting) (before : Standing) (a : Access) → IsOwn (checks_of s) a → 0 < a.size
    → (begun : Begun) × BeginsNow s before a begun
begins_now s before a own some =
    let plain = s.rules.plain_writes_atomic in
    let context = some_context plain a.task (moments s before) in
    let marked : HasDecider (CountsAfter plain a (moments s before)) =
    told (CountsAfter plain a (moments s before)) (counts_or_not plain a (moments s before) context.0 context.1) in
    let silenced : HasDecider (IsDisabled s before) = disabled_told s before in (
      record { access = a; marked = marked.0; silenced = silenced.0; has_bytes = some },
      record { own = own; access = refl; marked = marked.1; silenced = silenced.1 },
    )
