-- What one record more says of a task's records that are read as a check.
use Rattle.std.proofs.Common.{◌≡◌, ◌<◌, ◌↔◌, ◌+◌, ◌++◌, ◌∷◌, ◌∙◌, [], ℕ, suc, Bool, false, true, IfSome, IsTrue}
use Rattle.std.proofs.Common.{List, None, Option, Some, add-one, ap, drop, get_or, inl, inr, is_some, length, subst, sym, take}
use Rattle.std.proofs.Math.Seq.{drop-cons, take-length, take-suc}
use Rattle.std.proofs.lemmas.List.{append-nil, take-append-drop}
use Rattle.slot_table.specs.declared.records.Record.{Record}
use Rattle.slot_table.specs.declared.step.Step.{Step}
use Rattle.setup_access.specs.Checker.{Does, Doing}
use Rattle.setup_access.specs.Leads.{IsComplete, IsDone, IsCheckOver, Leads, OnlyStep}
use Rattle.setup_access.specs.Parts.{made}
use Rattle.setup_access.specs.Setting.{Setting}
use Rattle.setup_access.specs.Waits.{IsStuckBy}
use Rattle.setup_access.specs.declared.begun.Begun.{Begun}
use Rattle.setup_access.specs.declared.checker.Checker.{Checker}
use Rattle.oracle_steps.specs.oracle_checks.Reading.{IsMade}

module _ (s : Setting) (scopes : List Begun) (doing : Doing) (asked : ℕ) (records : List Record) (n : ℕ) where
  -- the records so far may be stuck
  pub stuck_here : IsStuckBy s.rules.turns (take n records) → (earlier rest : List Record) × (records ≡ earlier ++ rest) × IsStuckBy s.rules.turns earlier
  stuck_here stuck = (take n records, drop n records, sym (take-append-drop n records), stuck)

  -- where the test says that they aren't, they aren't
  pub goes_on : (stuck : Bool) → (IsTrue stuck ↔ IsStuckBy s.rules.turns (take n records)) → stuck ≡ false → ¬ IsStuckBy s.rules.turns (take n records)
  goes_on stuck is off = λ h. let both : false ≡ true = sym off ∙ is.1 h in cc

  module _ (default : Record) (below : n < length records) where
    -- the records are those read so far, the next one and the rest
    parted : records ≡ take n records ++ get_or records n default ∷ drop (suc n) records
    parted = sym (take-append-drop n records) ∙ ap (λ (rest : List Record). take n records ++ rest) (drop-cons records n default below)

    -- a step after the end
    pub step_too_many : (checker : Checker) → (IsDone s scopes doing asked (take n records) → IsComplete s scopes doing asked (take n records) checker)
        → IsCheckOver s scopes doing asked (take n records) → ¬ IsStuckBy s.rules.turns (take n records) → ¬ IsDone s scopes doing asked records
    step_too_many checker complete (inr stuck) going = λ done. going stuck
    step_too_many checker complete (inl whole) going = λ done.
        let none : get_or records n default ∷ drop (suc n) records ≡ [] =
        (complete whole).ends (get_or records n default ∷ drop (suc n) records) done.0 (subst (λ (r : List Record). Does s scopes doing asked r done.0) parted done.1) in cc

    module _ (task : ℕ) (step : Step) (test : Bool) (own : s.task ≡ task) (is : IsTrue test ↔ IsMade (get_or records n default) task step) where
      -- another step than the one that goes on
      pub other_step : OnlyStep s scopes doing asked (take n records) step → test ≡ false → ¬ IsDone s scopes doing asked records
      other_step only off = λ done.
          let goes = only (get_or records n default ∷ drop (suc n) records) done.0 (subst (λ (r : List Record). Does s scopes doing asked r done.0) parted done.1) in
          let both : false ≡ true = sym off ∙ is.1 (goes.0 ∙ own, goes.1, goes.2) in cc

  module _ (same : n ≡ length records) (checker : Checker) where
    -- all of them are read
    pub all_read : Leads s scopes doing asked (take n records) checker → Leads s scopes doing asked records checker
    all_read leads = subst (λ (r : List Record). Leads s scopes doing asked r checker) (ap (λ k. take k records) same ∙ take-length records) leads

-- a step is missing
pub step_missing : (s : Setting) (scopes : List Begun) (doing : Doing) (asked : ℕ) (records : List Record) (next : Option Step)
    → IfSome next (OnlyStep s scopes doing asked records) → is_some next ≡ true → ¬ IsDone s scopes doing asked records
step_missing s scopes doing asked records None only some = absurd (let no : false ≡ true = some in cc)
step_missing s scopes doing asked records (Some step) only some = λ done.
    only [] done.0 (subst (λ (r : List Record). Does s scopes doing asked r done.0) (sym (append-nil records)) done.1)

-- nothing is missing
pub nothing_missing : (s : Setting) (scopes : List Begun) (doing : Doing) (asked : ℕ) (records : List Record) (checker : Checker) → IsCheckOver s scopes doing asked records
    → ¬ IsStuckBy s.rules.turns records → (IsDone s scopes doing asked records → IsComplete s scopes doing asked records checker) → IsComplete s scopes doing asked records checker
nothing_missing s scopes doing asked records checker (inl done) going complete = complete done
nothing_missing s scopes doing asked records checker (inr stuck) going complete = absurd (going stuck)
