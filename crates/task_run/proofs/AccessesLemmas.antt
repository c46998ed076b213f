-- The accesses in progress are told of where a task stands: after what it computes, and after each part of its text.
use native.Mathlib.Omega.{arith}
use Rattle.std.proofs.Common.{◌≡◌, ◌∙◌, ◌+◌, ◌++◌, ◌∷◌, [], ℕ, List, None, Option, Some, ap, append_assoc, refl, subst, sym}
use Rattle.std.proofs.lemmas.List.{append-nil}
use Rattle.access_run.specs.memory_operation.Effects.{moments_of, read_moments, write_moments}
use Rattle.access_run.specs.declared.memory_operation.effect.Effect.{Effect}
use Rattle.access_run.specs.declared.memory_operation.operation.Operation.{Operation}
use Rattle.access_run.specs.declared.memory_operation.operation.Operation.TheVariants as operations
use Rattle.access_types.specs.Access.{Access}
use Rattle.access_types.specs.declared.history.Happening.{Happening}
use Rattle.access_types.specs.declared.history.Happening.TheVariants.{Begin, End}
use Rattle.program_order.proofs.ScopesLemmas.{counting_scopes, operated_scopes}
use Rattle.program_order.specs.Access.{operated}
use Rattle.program_order.specs.InProgress.{AccessesAreTold, clock_steps}
use Rattle.program_order.specs.Standing.{BeginsNow, Setting, Standing, coming, counting}
use Rattle.program_order.specs.WrittenOrder.{at_first}
use Rattle.setup_access.specs.declared.begun.Begun.{Begun}
use Rattle.slot_table.specs.declared.records.Record.{Record}
use Rattle.task_run.proofs.ClockLemmas.{clocks_both}
use Rattle.task_run.proofs.InProgressLemmas.{Told, accesses_told, repeats_told, told_access, told_at, told_begin, told_closing, told_first, told_quiet}
use Rattle.task_run.specs.Accesses.{IsNewAt, RepeatsAreTold}
use Rattle.task_run.specs.Position.{AreOfNoBound, Computes, nothing, one_more}

-- all that is told of the accesses before a part
abbrev pub AreTold : Setting → List Record → Standing → Type 0
AreTold s records before = AccessesAreTold s records before × RepeatsAreTold before

-- an operation begins and ends none
read_none : (a : Access) (read : Option ℕ) → AreOfNoBound (read_moments a read)
read_none a None = tt
read_none a (Some value) = (refl, tt)

write_none : (a : Access) (written : Option ℕ) → AreOfNoBound (write_moments a written)
write_none a None = tt
write_none a (Some value) = (refl, tt)

pub both_none : (first later : List Happening) → AreOfNoBound first → AreOfNoBound later → AreOfNoBound (first ++ later)
both_none [] later none more = more
both_none (happening ∷ first) later none more = (none.0, both_none first later none.1 more)

pub reads_none : (a : Access) (effect : Effect) → AreOfNoBound (read_moments a effect.read)
reads_none a effect = read_none a effect.read

pub moments_none : (a : Access) (effect : Effect) → AreOfNoBound (moments_of a effect)
moments_none a effect = both_none (read_moments a effect.read) (write_moments a effect.written) (read_none a effect.read) (write_none a effect.written)

pub operated_does : (a : Access) (operation : Option Operation) (before : Standing) (records : List Record) (effect : Effect) (rest : List Record)
    → (does : List Happening) × ((operated a operation before records effect rest).progress.did ≡ before.progress.did ++ does) × AreOfNoBound does
operated_does a None before records effect rest = ([], sym (append-nil before.progress.did), tt)
operated_does a (Some operations.Load) before records effect rest = (moments_of a effect, refl, moments_none a effect)
operated_does a (Some (operations.Add amount)) before records effect rest = (
  moments_of a effect,
  append_assoc before.progress.did (read_moments a effect.read) (write_moments a effect.written),
  moments_none a effect,
)
operated_does a (Some (operations.Change change)) before records effect rest = (moments_of a effect, refl, moments_none a effect)

module _ (s : Setting) where
  is_told : (records : List Record) (before : Standing) → AreTold s records before → Told s (clock_steps records) before.progress.did before.scopes
  is_told records before told = told_at s records before told.0 told.1

  -- so it is of where the task stands then
  stands_told : (stamps : ℕ) (did : List Happening) (scopes : List Begun) (records : List Record) (after : Standing) → after.progress.did ≡ did
      → after.scopes ≡ scopes → clock_steps records ≡ stamps → Told s stamps did scopes → AreTold s records after
  stands_told stamps did scopes records after same in_force clocks told =
      let here : Told s (clock_steps records) after.progress.did after.scopes =
      subst (λ (n : ℕ). Told s n after.progress.did after.scopes) (sym clocks)
      (subst (λ (d : List Happening). Told s stamps d after.scopes) (sym same)
      (subst (λ (l : List Begun). Told s stamps did l) (sym in_force) told)) in
      (accesses_told s records after here, repeats_told s (clock_steps records) after here)

  pub first_accesses : (registers : ℕ) → AreTold s [] (at_first registers)
  first_accesses registers = stands_told 0 [] [] [] (at_first registers) refl refl refl (told_first s)

  pub accesses_on : {later : List Record} {before after : Standing} → (records : List Record) → Computes later before after → AreTold s records before
      → AreTold s records after
  accesses_on records nothing told = told
  accesses_on {later = later} records (one_more between ends_nothing progress does same none so_far) told =
      let so = is_told records between (accesses_on records so_far told) in
      stands_told (clock_steps records) (between.progress.did ++ does) between.scopes records (coming (counting ends_nothing between) later progress) same
      (counting_scopes ends_nothing between) refl (told_quiet s (clock_steps records) between.progress.did between.scopes so does none)

  module _ (earlier mine : List Record) where
    more_clocks : (count : ℕ) → clock_steps mine ≡ count → clock_steps (earlier ++ mine) ≡ clock_steps earlier + count
    more_clocks count is = let both = clocks_both earlier mine in omega (arith, both, is)

    -- after one thing that a task does with its step
    pub done_accesses : (before after : Standing) (does : List Happening) → after.progress.did ≡ before.progress.did ++ does → after.scopes ≡ before.scopes
        → AreOfNoBound does → clock_steps mine ≡ 0 → AreTold s earlier before → AreTold s (earlier ++ mine) after
    done_accesses before after does same in_force none clocks told =
        let more = more_clocks 0 clocks in
        stands_told (clock_steps earlier) (before.progress.did ++ does) before.scopes (earlier ++ mine) after same in_force (omega (arith, more))
        (told_quiet s (clock_steps earlier) before.progress.did before.scopes (is_told earlier before told) does none)

    -- after an access
    pub access_accesses : (a : Access) (operation : Option Operation) (before began made after : Standing) (records : List Record) (effect : Effect)
        (rest : List Record) → began.progress.did ≡ before.progress.did ++ Begin a ∷ [] → began.scopes ≡ before.scopes
        → made ≡ operated a operation began records effect rest → after.progress.did ≡ made.progress.did ++ End a ∷ [] → after.scopes ≡ made.scopes
        → IsNewAt a before → clock_steps mine ≡ 2 → AreTold s earlier before → AreTold s (earlier ++ mine) after
    access_accesses a operation before began made after records effect rest begins same is ends kept new clocks told =
        let does = operated_does a operation began records effect rest in
        let did : List Happening = before.progress.did in
        let inside : made.progress.did ≡ (did ++ Begin a ∷ []) ++ does.0 =
        ap (λ (st : Standing). st.progress.did) is ∙ (does.1 ∙ ap (λ (d : List Happening). d ++ does.0) begins) in
        let all : after.progress.did ≡ did ++ Begin a ∷ (does.0 ++ End a ∷ []) =
        ends ∙ (ap (λ (d : List Happening). d ++ End a ∷ []) inside
        ∙ (append_assoc (did ++ Begin a ∷ []) does.0 (End a ∷ []) ∙ append_assoc did (Begin a ∷ []) (does.0 ++ End a ∷ []))) in
        stands_told (clock_steps earlier + 2) (did ++ Begin a ∷ (does.0 ++ End a ∷ [])) before.scopes (earlier ++ mine) after all
        (kept ∙ (ap (λ (st : Standing). st.scopes) is ∙ (operated_scopes a operation began records effect rest ∙ same)))
        (more_clocks 2 clocks) (told_access s (clock_steps earlier) did before.scopes (is_told earlier before told) a new does.0 does.2)

    -- after the check of a scoped assertion
    pub opening_accesses : (a : Access) (begun : Begun) (before after : Standing) → after.progress.did ≡ before.progress.did ++ Begin a ∷ []
        → after.scopes ≡ before.scopes ++ begun ∷ [] → BeginsNow s before a begun → IsNewAt a before → clock_steps mine ≡ 1
        → AreTold s earlier before → AreTold s (earlier ++ mine) after
    opening_accesses a begun before after same in_force begins new clocks told =
        stands_told (clock_steps earlier + 1) (before.progress.did ++ Begin a ∷ []) (before.scopes ++ begun ∷ []) (earlier ++ mine) after same in_force
        (more_clocks 1 clocks) (told_begin s (clock_steps earlier) before before.scopes (is_told earlier before told) a begun new begins [] tt)

    -- after its last check
    pub closing_accesses : (scopes : List Begun) (newest : Begun) (before after : Standing) → before.scopes ≡ scopes ++ newest ∷ []
        → after.progress.did ≡ before.progress.did ++ End newest.access ∷ [] → after.scopes ≡ scopes → clock_steps mine ≡ 1
        → AreTold s earlier before → AreTold s (earlier ++ mine) after
    closing_accesses scopes newest before after were same in_force clocks told =
        stands_told (clock_steps earlier + 1) (before.progress.did ++ End newest.access ∷ []) scopes (earlier ++ mine) after same in_force
        (more_clocks 1 clocks) (told_closing s (clock_steps earlier) before.progress.did before.scopes (is_told earlier before told) scopes newest were)
