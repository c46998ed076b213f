-- As many scoped assertions are in force as what a task did leaves in force: after what it computes, and after each
-- part.
use native.Mathlib.Omega.{arith}
use Rattle.std.proofs.Common.{◌≡◌, ◌∙◌, ◌++◌, ℕ, Bool, true, false, List, [], ◌∷◌, None, Option, Some, ap, length, refl, subst, sym}
use Rattle.std.proofs.lemmas.List.{length-append}
use Rattle.access_types.specs.Access as access
use Rattle.access_types.specs.declared.history.Happening.{Happening}
use Rattle.access_types.specs.declared.history.Happening.TheVariants as happenings
use Rattle.litmus_semantics.specs.Task as meaning
use Rattle.access_run.specs.memory_operation.Effects.{moments_of, read_moments, write_moments}
use Rattle.access_run.specs.declared.memory_operation.effect.Effect.{Effect}
use Rattle.access_run.specs.declared.memory_operation.operation.Operation.{Operation}
use Rattle.access_run.specs.declared.memory_operation.operation.Operation.TheVariants as operations
use Rattle.setup_access.specs.declared.begun.Begun.{Begun}
use Rattle.slot_table.specs.declared.records.Record.{Record}
use Rattle.task_run.specs.Stops.{AreScoped, ScopesAreTold}
use Rattle.task_run.specs.Position.{AreOfNoBound, Computes, nothing, one_more}
use Rattle.program_order.proofs.text_bounds.Scopes as bounds
use Rattle.program_order.specs.text_bounds.Scopes.{AreOfNoScope, in_force, is_of_scope, is_scoped}
use Rattle.program_order.specs.Access.{operated}
use Rattle.program_order.specs.InProgress.{is_bound}
use Rattle.program_order.specs.Standing.{Standing, coming, counting}
use Rattle.program_order.specs.WrittenOrder.{at_first}

-- what begins and ends no access begins and ends no scoped assertion
of_no_scope : (happening : Happening) → is_bound happening ≡ false → is_of_scope happening ≡ false
of_no_scope (happenings.Begin a) none = absurd (let no : true ≡ false = none in cc)
of_no_scope (happenings.End a) none = absurd (let no : true ≡ false = none in cc)
of_no_scope (happenings.Read bytes value) none = refl
of_no_scope (happenings.Write bytes value) none = refl
of_no_scope (happenings.Lock lock) none = refl
of_no_scope (happenings.Unlock lock) none = refl
of_no_scope (happenings.Mark mark) none = refl

of_no_scopes : (does : List Happening) → AreOfNoBound does → AreOfNoScope does
of_no_scopes [] none = tt
of_no_scopes (happening ∷ later) none = (of_no_scope happening none.0, of_no_scopes later none.1)

-- the task did more, and no scoped assertion began or ended
scopes_still : (before after : Standing) (does : List Happening) → after.scopes ≡ before.scopes → in_force after.progress.did ≡ in_force before.progress.did
    → ScopesAreTold before → ScopesAreTold after
scopes_still before after does scopes same told = record {
  count = ap (λ (l : List Begun). length l) scopes ∙ (told.count ∙ sym same);
  scoped = subst (λ (l : List Begun). AreScoped l) (sym scopes) told.scoped;
}

pub first_scopes : (registers : ℕ) → ScopesAreTold (at_first registers)
first_scopes registers = record { count = refl; scoped = tt }

computed : (later : List Record) (before : Standing) (ends_nothing : Bool) (progress : meaning.Progress) (does : List Happening)
    → progress.did ≡ before.progress.did ++ does → AreOfNoScope does → ScopesAreTold before
    → ScopesAreTold (coming (counting ends_nothing before) later progress)
computed later before true progress does same none told =
    scopes_still before (coming (counting true before) later progress) does refl (ap in_force same ∙ bounds.as_many before.progress.did does none) told
computed later before false progress does same none told =
    scopes_still before (coming before later progress) does refl (ap in_force same ∙ bounds.as_many before.progress.did does none) told

pub scopes_on : {later : List Record} {before after : Standing} → Computes later before after → ScopesAreTold before → ScopesAreTold after
scopes_on nothing told = told
scopes_on {later = later} (one_more between ends_nothing progress does same none so_far) told =
    computed later between ends_nothing progress does same (of_no_scopes does none) (scopes_on so_far told)

-- an operation begins and ends none
read_none : (a : access.Access) (read : Option ℕ) → AreOfNoScope (read_moments a read)
read_none a None = tt
read_none a (Some value) = (refl, tt)

write_none : (a : access.Access) (written : Option ℕ) → AreOfNoScope (write_moments a written)
write_none a None = tt
write_none a (Some value) = (refl, tt)

both_none : (first later : List Happening) → AreOfNoScope first → AreOfNoScope later → AreOfNoScope (first ++ later)
both_none [] later none more = more
both_none (happening ∷ first) later none more = (none.0, both_none first later none.1 more)

moments_none : (a : access.Access) (effect : Effect) → AreOfNoScope (moments_of a effect)
moments_none a effect = both_none (read_moments a effect.read) (write_moments a effect.written) (read_none a effect.read) (write_none a effect.written)

operated_force : (a : access.Access) (operation : Option Operation) (before : Standing) (records : List Record) (effect : Effect) (rest : List Record)
    → in_force (operated a operation before records effect rest).progress.did ≡ in_force before.progress.did
operated_force a None before records effect rest = refl
operated_force a (Some operations.Load) before records effect rest = bounds.as_many before.progress.did (moments_of a effect) (moments_none a effect)
operated_force a (Some (operations.Add amount)) before records effect rest =
    bounds.as_many (before.progress.did ++ read_moments a effect.read) (write_moments a effect.written) (write_none a effect.written)
    ∙ bounds.as_many before.progress.did (read_moments a effect.read) (read_none a effect.read)
operated_force a (Some (operations.Change change)) before records effect rest =
    bounds.as_many before.progress.did (moments_of a effect) (moments_none a effect)

operated_scopes : (a : access.Access) (operation : Option Operation) (before : Standing) (records : List Record) (effect : Effect) (rest : List Record)
    → (operated a operation before records effect rest).scopes ≡ before.scopes
operated_scopes a None before records effect rest = refl
operated_scopes a (Some operations.Load) before records effect rest = refl
operated_scopes a (Some (operations.Add amount)) before records effect rest = refl
operated_scopes a (Some (operations.Change change)) before records effect rest = refl

-- an access that begins and ends leaves as many as there were, scoped or not
begun_and_ended : (a : access.Access) (is : Bool) → is_scoped a.kind ≡ is → (did between : List Happening)
    → in_force between ≡ in_force (did ++ happenings.Begin a ∷ []) → in_force (between ++ happenings.End a ∷ []) ≡ in_force did
begun_and_ended a true is did between same =
    let ends = bounds.one_less between a is in let begins = bounds.one_more did a is in omega (arith, ends, begins, same)
begun_and_ended a false is did between same =
    bounds.as_many between (happenings.End a ∷ []) (is, tt) ∙ (same ∙ bounds.as_many did (happenings.Begin a ∷ []) (is, tt))

-- after an access
pub access_scopes : (a : access.Access) (operation : Option Operation) (before began made after : Standing) (records : List Record) (effect : Effect) (rest : List Record)
    → began.progress.did ≡ before.progress.did ++ happenings.Begin a ∷ [] → began.scopes ≡ before.scopes
    → made ≡ operated a operation began records effect rest
    → after.progress.did ≡ made.progress.did ++ happenings.End a ∷ [] → after.scopes ≡ made.scopes
    → ScopesAreTold before → ScopesAreTold after
access_scopes a operation before began made after records effect rest begins same is ends kept told =
    let inside : in_force made.progress.did ≡ in_force (before.progress.did ++ happenings.Begin a ∷ []) =
    ap (λ (st : Standing). in_force st.progress.did) is ∙ (operated_force a operation began records effect rest ∙ ap in_force begins) in
    scopes_still before after []
    (kept ∙ (ap (λ (st : Standing). st.scopes) is ∙ (operated_scopes a operation began records effect rest ∙ same)))
    (ap in_force ends ∙ begun_and_ended a (is_scoped a.kind) refl before.progress.did made.progress.did inside) told

-- after one thing that a task does with its step
pub done_scopes : (before after : Standing) (does : List Happening) → after.scopes ≡ before.scopes → after.progress.did ≡ before.progress.did ++ does
    → AreOfNoScope does → ScopesAreTold before → ScopesAreTold after
done_scopes before after does scopes same none told =
    scopes_still before after does scopes (ap in_force same ∙ bounds.as_many before.progress.did does none) told

one_scope_more : (scopes : List Begun) (newest : Begun) → AreScoped scopes → is_scoped newest.access.kind ≡ true → AreScoped (scopes ++ newest ∷ [])
one_scope_more [] newest all is = (is, tt)
one_scope_more (first ∷ more) newest all is = (all.0, one_scope_more more newest all.1 is)

-- after the check of a scoped assertion
pub opening_scopes : (a : access.Access) (begun : Begun) (before after : Standing) → is_scoped a.kind ≡ true → begun.access ≡ a
    → after.scopes ≡ before.scopes ++ begun ∷ [] → after.progress.did ≡ before.progress.did ++ happenings.Begin a ∷ []
    → ScopesAreTold before → ScopesAreTold after
opening_scopes a begun before after is of scopes did told =
    let more = bounds.one_more before.progress.did a is in
    let force : in_force after.progress.did ≡ in_force (before.progress.did ++ happenings.Begin a ∷ []) = ap in_force did in
    let long : length after.scopes ≡ length (before.scopes ++ begun ∷ []) = ap (λ (l : List Begun). length l) scopes in
    let both = length-append before.scopes (begun ∷ []) in
    let count = told.count in
    let scope : is_scoped begun.access.kind ≡ true = subst (λ (x : access.Access). is_scoped x.kind ≡ true) (sym of) is in record {
      count = omega (arith, more, force, long, both, count);
      scoped = subst (λ (l : List Begun). AreScoped l) (sym scopes) (one_scope_more before.scopes begun told.scoped scope);
    }

all_front : (scopes : List Begun) (newest : Begun) → AreScoped (scopes ++ newest ∷ []) → AreScoped scopes × (is_scoped newest.access.kind ≡ true)
all_front [] newest all = (tt, all.0)
all_front (first ∷ more) newest all = let others = all_front more newest all.1 in ((all.0, others.0), others.1)

-- after its last check
pub closing_scopes : (scopes : List Begun) (newest : Begun) (before after : Standing) → before.scopes ≡ scopes ++ newest ∷ [] → after.scopes ≡ scopes
    → after.progress.did ≡ before.progress.did ++ happenings.End newest.access ∷ [] → ScopesAreTold before → ScopesAreTold after
closing_scopes scopes newest before after were are did told =
    let all : AreScoped (scopes ++ newest ∷ []) = subst (λ (l : List Begun). AreScoped l) were told.scoped in
    let less = bounds.one_less before.progress.did newest.access (all_front scopes newest all).1 in
    let force : in_force after.progress.did ≡ in_force (before.progress.did ++ happenings.End newest.access ∷ []) = ap in_force did in
    let long : length before.scopes ≡ length (scopes ++ newest ∷ []) = ap (λ (l : List Begun). length l) were in
    let now : length after.scopes ≡ length scopes = ap (λ (l : List Begun). length l) are in
    let both = length-append scopes (newest ∷ []) in
    let count = told.count in record {
      count = omega (arith, less, force, long, now, both, count);
      scoped = subst (λ (l : List Begun). AreScoped l) (sym are) (all_front scopes newest all).0;
    }
