-- Why there is no layout, or there are no accesses, is why a program can't be made ready.
use Rattle.std.proofs.Common.{◌≡◌, ◌∙◌, ◌↔◌, ◌⊎◌, Err, Ok, Result, ap, inl, inr, refl, sym}
use Rattle.std.specs.Result.{IfErr, IfOk, IsErr, IsErrAnd, IsErrOf}
use Rattle.prepared_program.specs.declared.program_layout.layout.Layout.{Layout}
use Rattle.prepared_program.specs.declared.program_layout.layout.LayoutError.{LayoutError}
use Rattle.prepared_program.specs.declared.program_layout.layout.LayoutError.TheVariants as layouts
use Rattle.prepared_program.specs.declared.program_sites.error.RunError.{RunError}
use Rattle.prepared_program.specs.declared.program_sites.error.RunError.TheVariants.{BadPlace, BadSlots, OutOfMemory}
use Rattle.prepared_program.specs.program_sites.Errors.{IsOfPreparing, of_layout}

-- an error is no value
pub no_value : {T E : Type 0} (result : Result T E) (P : T → Type 0) → IsErr result → IfOk result P
no_value (Ok x) P is = cc
no_value (Err e) P is = tt

-- there is no layout exactly where the places don't fit, or memory is wanting
pub record TellsFit {T : Type 0} (Fit : Type 0) (result : Result T RunError) : Type 0 where
  pub bad_place : IsErrOf result BadPlace ↔ (Fit → ⊥)
  pub errors : IfErr result (λ error. (error ≡ BadPlace) ⊎ (error ≡ OutOfMemory))

pub layout_fails : {T : Type 0} (Fit : Type 0) (result : Result T RunError) (error : LayoutError)
    → IsErrAnd result (λ e. e ≡ of_layout error) → (IsErrOf {T = Layout} (Err error) layouts.BadPlace ↔ (Fit → ⊥)) → TellsFit Fit result
layout_fails Fit (Ok x) error is tells = absurd is
layout_fails Fit (Err e) layouts.BadPlace is tells = record { bad_place = (λ same. tells.0 refl, λ unfit. ap Err is); errors = inl is }
layout_fails Fit (Err e) layouts.OutOfMemory is tells = record {
  bad_place = (λ same. absurd cc, λ unfit. let bad = tells.1 unfit in absurd cc);
  errors = inr is;
}

pub sites_fail : {S T : Type 0} (Fit : Type 0) (result : Result T RunError) (error : RunError) → IsErrAnd result (λ e. e ≡ error)
    → (IsErrOf {T = S} (Err error) BadPlace ↔ (Fit → ⊥)) → (error ≡ BadPlace) ⊎ (error ≡ OutOfMemory) → TellsFit Fit result
sites_fail Fit (Ok x) error is tells errors = absurd is
sites_fail Fit (Err e) error is tells errors = record {
  bad_place = (λ same. tells.0 cc, λ unfit. let bad = tells.1 unfit in cc);
  errors = elim errors [ inl p ↦ inl (is ∙ p) | inr p ↦ inr (is ∙ p) ];
}

module _ {T : Type 0} (Fit : Type 0) where
  -- that says nothing of slots
  pub no_slots : {X : Type 0} (result : Result T RunError) → TellsFit Fit result → IsErrOf result BadSlots → X
  no_slots (Ok x) tells is = absurd cc
  no_slots (Err e) tells is = elim tells.errors [ inl p ↦ absurd cc | inr p ↦ absurd cc ]

  pub of_preparing : (result : Result T RunError) → TellsFit Fit result → IfErr result IsOfPreparing
  of_preparing (Ok x) tells = tt
  of_preparing (Err e) tells = elim tells.errors [ inl p ↦ rw p tt | inr p ↦ rw p tt ]
