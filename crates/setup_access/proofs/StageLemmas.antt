-- What is left of a whole check, put together from what is left of the check of one access.
use Rattle.std.proofs.Common.{◌≡◌, ◌<◌, ◌↔◌, ◌∷◌, ◌++◌, [], ◌+◌, ◌∙◌, ◌||◌, ℕ, suc, Bool, true, false, not, List, add-one, ap, drop, get_or, length, refl, subst, sym}
use Rattle.std.proofs.Math.Seq.{drop-cons}
use Rattle.slot_table.specs.declared.records.Record.{Record}
use Rattle.slot_table.specs.declared.step.Step.TheVariants.{Clock}
use Rattle.setup_access.specs.Check.{ChecksBegun, ChecksLast, ChecksOnce, Fallen, Pass, Passes, Rechecks, fallen_of, left_to_check}
use Rattle.setup_access.specs.Checker.{RoleLeft, StageLeft}
use Rattle.setup_access.specs.PassLeft.{Given, PassLeft, given_of, nothing_given}
use Rattle.setup_access.specs.Records.{MakesWord}
use Rattle.setup_access.specs.Setting.{Setting}
use Rattle.setup_access.specs.declared.begun.Begun.{Begun}
use Rattle.setup_access.specs.declared.pass.Pass.TheVariants as parts
use Rattle.slot_table.specs.declared.index_order.place.ProbeIndex.TheVariants.{First}
use Rattle.setup_access.specs.declared.stage.Role.{Role}
use Rattle.setup_access.specs.declared.stage.Role.TheVariants as roles
use Rattle.setup_access.specs.declared.stage.CheckStage.TheVariants as stages
use Rattle.setup_access.proofs.PassLemmas.{through}

pub not_true : (b : Bool) → not b ≡ true → b ≡ false
not_true true h = sym h
not_true false h = refl

pub not_false : (b : Bool) → not b ≡ false → b ≡ true
not_false true h = refl
not_false false h = sym h

-- the list from a number on begins with the one at this number
pub at_number : (scopes : List Begun) (number : ℕ) (begun : Begun) → number < length scopes → begun ≡ get_or scopes number begun
    → drop number scopes ≡ begun ∷ drop (number + 1) scopes
at_number scopes number begun below is =
    rw add-one (drop-cons scopes number begun below ∙ ap (λ x. x ∷ drop (suc number) scopes) (sym is))

module _ (s : Setting) (begun : Begun) (asked : ℕ) (records : List Record) (passes : Passes) where
  -- a check of an access from its look-up on, and whatever follows on it
  pub pass_then : (K : Bool → ℕ → List Record → Passes → Type 0)
      → (((pass : Pass) × (later : List Record) × (more : List Fallen) × ChecksOnce s begun.access begun.marked asked records pass later
      × K pass.settled pass.asked later (record { outcomes = more; asked = passes.asked }) × (passes.outcomes ≡ fallen_of begun.access pass ∷ more))
      ↔ ((given : Given) × (later : List Record) × (more : Passes) × PassLeft s begun (parts.Find (record { place = First })) asked records given later
      × K given.settled given.asked later more × (passes ≡ record { outcomes = given.outcomes ++ more.outcomes; asked = more.asked })))
  pass_then K = (
    λ h. let outcomes : passes.outcomes ≡ fallen_of begun.access h.0 ∷ h.2 = h.5 in (
      given_of begun h.0,
      h.1,
      record { outcomes = h.2; asked = passes.asked },
      (h.3.0, h.3.1, h.3.2, (h.0, h.3.3, refl)),
      h.4,
      ap (λ (o : List Fallen). record { outcomes = o; asked = passes.asked }) outcomes,
    ),
    λ h. let pass : Pass = h.3.3.0 in
        let is : h.0 ≡ given_of begun pass = h.3.3.2 in
        let follows : K pass.settled pass.asked h.1 h.2 = subst (λ (g : Given). K g.settled g.asked h.1 h.2) is h.4 in
        let made : passes ≡ record { outcomes = fallen_of begun.access pass ∷ h.2.outcomes; asked = h.2.asked } =
        h.5 ∙ ap (λ (g : Given). record { outcomes = g.outcomes ++ h.2.outcomes; asked = h.2.asked }) is in (
          pass,
          h.1,
          h.2.outcomes,
          (h.3.0, h.3.1, h.3.2, h.3.3.1),
          subst (λ n. K pass.settled pass.asked h.1 (record { outcomes = h.2.outcomes; asked = n })) (sym (ap (λ (p : Passes). p.asked) made)) follows,
          ap (λ (p : Passes). p.outcomes) made,
        ),
  )

  -- an access that isn't silenced is checked
  pub heard_left : (scopes : List Begun) → begun.silenced ≡ false
      → (ChecksBegun s scopes begun asked records passes [] ↔ StageLeft s scopes (stages.Check roles.Access begun (parts.Find (record { place = First }))) asked records passes)
  heard_left scopes heard = rw heard (pass_then (λ settled now later more. Rechecks s (left_to_check settled scopes) now later more []))

  -- a silenced one isn't, and asks the sampler unless it counts as marked
  pub marked_silenced : (scopes : List Begun) → begun.silenced ≡ true → begun.marked ≡ true
      → (ChecksBegun s scopes begun asked records passes [] ↔ StageLeft s scopes stages.Rest asked records passes)
  marked_silenced scopes silenced marked = rw (silenced, marked) (λ h. h, λ h. h)

  pub unmarked_silenced : (scopes : List Begun) → begun.silenced ≡ true → begun.marked ≡ false
      → (ChecksBegun s scopes begun asked records passes [] ↔ StageLeft s scopes stages.Rest (asked + 1) records passes)
  unmarked_silenced scopes silenced marked = rw (silenced, marked) (λ h. h, λ h. h)

module _ (s : Setting) (scopes : List Begun) (asked : ℕ) (records : List Record) (passes : Passes) where
  -- a scoped assertion that isn't silenced is checked again
  pub scope_left : (number : ℕ) (scope : Begun) → drop number scopes ≡ scope ∷ drop (number + 1) scopes → scope.silenced ≡ false
      → (Rechecks s (drop number scopes) asked records passes [] ↔ StageLeft s scopes (stages.Check (roles.Scope number) scope (parts.Find (record { place = First }))) asked records passes)
  scope_left number scope is heard = rw (is, heard)
      (pass_then s scope asked records passes (λ settled now later more. Rechecks s (drop (number + 1) scopes) now later more []))

  -- a silenced one is passed over
  pub scope_passed : (number : ℕ) (scope : Begun) → drop number scopes ≡ scope ∷ drop (number + 1) scopes → scope.silenced ≡ true
      → (Rechecks s (drop number scopes) asked records passes [] ↔ Rechecks s (drop (number + 1) scopes) asked records passes [])
  scope_passed number scope is silenced = rw (is, silenced) (λ h. h, λ h. h)

  -- none is left
  pub none_in_force : (number : ℕ) → drop number scopes ≡ []
      → (Rechecks s (drop number scopes) asked records passes [] ↔ StageLeft s scopes stages.Rest asked records passes)
  none_in_force number is = rw is (λ h. h, λ h. h)

  -- a check that gave nothing more is over
  pub over_left : (settled : Bool) (role : Role)
      → (((given : Given) × (later : List Record) × (more : Passes) × ((given ≡ nothing_given settled asked) × (later ≡ records)) × RoleLeft s scopes role given.settled given.asked later more
      × (passes ≡ record { outcomes = given.outcomes ++ more.outcomes; asked = more.asked }))
      ↔ RoleLeft s scopes role settled asked records passes)
  over_left settled role = (
    λ h. let follows : RoleLeft s scopes role settled asked h.1 h.2 = subst (λ (g : Given). RoleLeft s scopes role g.settled g.asked h.1 h.2) h.3.0 h.4 in
        let here : RoleLeft s scopes role settled asked records h.2 = subst (λ r. RoleLeft s scopes role settled asked r h.2) h.3.1 follows in
        let same : passes ≡ h.2 = h.5 ∙ ap (λ (g : Given). record { outcomes = g.outcomes ++ h.2.outcomes; asked = h.2.asked }) h.3.0 in
        subst (λ p. RoleLeft s scopes role settled asked records p) (sym same) here,
    λ h. (nothing_given settled asked, records, passes, (refl, refl), h, refl),
  )

-- outcomes and askings
abbrev known : List Fallen → ℕ → Passes
known outcomes asked = record { outcomes = outcomes; asked = asked }

module _ (s : Setting) (begun : Begun) (silenced : Bool) (scopes : List Begun) (asked : ℕ) (records : List Record) (passes : Passes) where
  -- the close of a silenced assertion is its end alone
  pub closing_silenced : begun.silenced || silenced ≡ true → (ChecksLast s begun silenced asked records passes [] ↔ StageLeft s scopes (stages.End begun) asked records passes)
  closing_silenced quiet = rw quiet (
    λ h. (h.1.0, subst (λ r. MakesWord s.task Clock (λ stamp after. [] ≡ after) r) h.1.1 h.2),
    λ h. (records, (h.0, refl), h.1),
  )

  -- another is checked a last time
  pub closing_heard : begun.silenced || silenced ≡ false
      → (ChecksLast s begun silenced asked records passes [] ↔ StageLeft s scopes (stages.Check roles.Closing begun (parts.Find (record { place = First }))) asked records passes)
  closing_heard heard = rw heard (through shuffled
      (pass_then s begun asked records passes (λ settled now later more. (more ≡ record { outcomes = []; asked = now }) × MakesWord s.task Clock (λ stamp after. [] ≡ after) later)))
    where
      shuffled : ((later : List Record)
          × ((pass : Pass) × (mid : List Record) × (more : List Fallen) × ChecksOnce s begun.access begun.marked asked records pass mid
          × ((known more passes.asked ≡ known [] pass.asked) × (later ≡ mid)) × (passes.outcomes ≡ fallen_of begun.access pass ∷ more))
          × MakesWord s.task Clock (λ stamp after. [] ≡ after) later)
          ↔ ((pass : Pass) × (later : List Record) × (more : List Fallen) × ChecksOnce s begun.access begun.marked asked records pass later
          × ((known more passes.asked ≡ known [] pass.asked) × MakesWord s.task Clock (λ stamp after. [] ≡ after) later)
          × (passes.outcomes ≡ fallen_of begun.access pass ∷ more))
      shuffled = (
        λ h. (h.1.0, h.1.1, h.1.2, h.1.3, (h.1.4.0, subst (λ r. MakesWord s.task Clock (λ stamp after. [] ≡ after) r) h.1.4.1 h.2), h.1.5),
        λ h. (h.1, (h.0, h.1, h.2, h.3, (h.4.0, refl), h.5), h.4.1),
      )
