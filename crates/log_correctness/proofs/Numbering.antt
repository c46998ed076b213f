-- The armings that a log keeps are numbered by access, and its takings are those that its task told.
use Rattle.std.proofs.Common.{◌≡◌, ◌∙◌, ◌==◌, ◌++◌, ◌∷◌, ◌⊎◌, [], inl, inr, ℕ, List, Option, ap, count_by, map, refl, subst, sym}
use Rattle.std.proofs.lemmas.Bool.Decides.{eqb_tells}
use Rattle.std.proofs.lemmas.List.{append-nil, map-append}
use Rattle.access_types.specs.Arms.{Arm}
use Rattle.litmus_syntax.specs.Tree.{Block}
use Rattle.executions.proofs.execution.OwnLasts.{own_latest}
use Rattle.log_correctness.specs.Noted.{AreNoted}
use Rattle.log_correctness.specs.Removed.{ToldAt, as_told, told_at, told_by}
use Rattle.setup_access.specs.declared.outcome.Outcome.{Outcome}
use Rattle.slot_table.specs.Records.{records_of}
use Rattle.slot_table.specs.declared.records.Record.{Record}
use Rattle.slot_table.specs.declared.step.Step.{Step}
use Rattle.slot_table.specs.declared.step.Step.TheVariants as steps
use Rattle.task_log.specs.Arms.{arm_removed, arms_at, arms_of, takes_at, takes_of}
use Rattle.task_log.specs.declared.noted.Noted.{Noted}
use Rattle.program_order.specs.Standing.{Setting}
use Rattle.program_order.specs.WrittenOrder.{WrittenOrder}

-- each arming's number is how many of its access come before it
abbrev Numbered : List Arm → Type 0
Numbered arms = (earlier : List Arm) (arm : Arm) (later : List Arm) → arms ≡ earlier ++ arm ∷ later
    → arm.number ≡ count_by (λ (one : Arm). one.setter == arm.setter) earlier

-- a part of a list with one more at its end is a part of it, or ends with that one
parts_of : {A : Type 0} (all : List A) (last : A) (earlier : List A) (x : A) (later : List A) → all ++ last ∷ [] ≡ earlier ++ x ∷ later
    → ((more : List A) × (all ≡ earlier ++ x ∷ more)) ⊎ ((all ≡ earlier) × (last ≡ x))
parts_of [] last [] x later is = inr (refl, (let first : last ∷ [] ≡ x ∷ later = is in cc))
parts_of [] last (one ∷ []) x later is = absurd (let no : last ∷ [] ≡ one ∷ x ∷ later = is in cc)
parts_of [] last (one ∷ two ∷ earlier) x later is = absurd (let no : last ∷ [] ≡ one ∷ two ∷ (earlier ++ x ∷ later) = is in cc)
parts_of (first ∷ all) last [] x later is =
    let heads : first ∷ (all ++ last ∷ []) ≡ x ∷ later = is in
    let same : first ≡ x = cc in inl (all, ap (λ (y : _). y ∷ all) same)
parts_of (first ∷ all) last (one ∷ earlier) x later is =
    let heads : first ∷ (all ++ last ∷ []) ≡ one ∷ (earlier ++ x ∷ later) = is in
    let same : first ≡ one = cc in
    let tails : all ++ last ∷ [] ≡ earlier ++ x ∷ later = cc in
    elim (parts_of all last earlier x later tails) [
      | inl h ↦ inl (h.0, ap (λ (y : _). y ∷ all) same ∙ ap (λ (l : List _). one ∷ l) h.1)
      | inr h ↦ inr (ap (λ (y : _). y ∷ all) same ∙ ap (λ (l : List _). one ∷ l) h.0, h.1)
    ]

numbered_with : (index : ℕ) (own : List Noted) (before : List Arm) → Numbered before → Numbered (before ++ arm_removed index own before ∷ [])
numbered_with index own before each earlier arm later is = elim (parts_of before (arm_removed index own before) earlier arm later is) [
  | inl h ↦ each earlier arm h.0 h.1
  | inr h ↦
      subst (λ (a : Arm). a.number ≡ count_by (λ (one : Arm). one.setter == a.setter) earlier) h.1
      (ap (λ (l : List Arm). count_by (λ (one : Arm). one.setter == (arm_removed index own before).setter) l) h.0)
]

numbered_at : (step : Step) (own : List Noted) (before : List Arm) → Numbered before → Numbered (arms_at step own before)
numbered_at (steps.Remove index) own before each = numbered_with index own before each
numbered_at (steps.Load index) own before each = each
numbered_at (steps.Insert index word) own before each = each
numbered_at (steps.TryConsume index word) own before each = each
numbered_at (steps.Consume index) own before each = each
numbered_at (steps.PairLoad index) own before each = each
numbered_at (steps.Name index ticket) own before each = each
numbered_at (steps.Tell index ticket) own before each = each
numbered_at (steps.Clear index) own before each = each
numbered_at (steps.CellLoad cell) own before each = each
numbered_at (steps.CellExchange cell expected new) own before each = each
numbered_at (steps.LockTry lock holder) own before each = each
numbered_at (steps.LockStore lock) own before each = each
numbered_at steps.Clock own before each = each

no_arm : Numbered []
no_arm [] arm later is = absurd (let no : [] ≡ arm ∷ later = is in cc)
no_arm (one ∷ earlier) arm later is = absurd (let no : [] ≡ one ∷ (earlier ++ arm ∷ later) = is in cc)

pub all_numbered : (noted : List Noted) → Numbered (arms_of noted)
all_numbered [] = no_arm
all_numbered (latest ∷ before) = numbered_at latest.step before (arms_of before) (all_numbered before)

-- takings
told_with : (step : Step) (outcome : Option Outcome) (before : List Noted) → map as_told (takes_at step outcome (takes_of before)) ≡ map as_told (takes_of before) ++ told_at step
told_with (steps.Tell index ticket) outcome before = map-append as_told (takes_of before) _
told_with (steps.Load index) outcome before = sym (append-nil (map as_told (takes_of before)))
told_with (steps.Insert index word) outcome before = sym (append-nil (map as_told (takes_of before)))
told_with (steps.TryConsume index word) outcome before = sym (append-nil (map as_told (takes_of before)))
told_with (steps.Consume index) outcome before = sym (append-nil (map as_told (takes_of before)))
told_with (steps.PairLoad index) outcome before = sym (append-nil (map as_told (takes_of before)))
told_with (steps.Name index ticket) outcome before = sym (append-nil (map as_told (takes_of before)))
told_with (steps.Clear index) outcome before = sym (append-nil (map as_told (takes_of before)))
told_with (steps.CellLoad cell) outcome before = sym (append-nil (map as_told (takes_of before)))
told_with (steps.CellExchange cell expected new) outcome before = sym (append-nil (map as_told (takes_of before)))
told_with (steps.LockTry lock holder) outcome before = sym (append-nil (map as_told (takes_of before)))
told_with (steps.LockStore lock) outcome before = sym (append-nil (map as_told (takes_of before)))
told_with steps.Clock outcome before = sym (append-nil (map as_told (takes_of before)))
told_with (steps.Remove index) outcome before = sym (append-nil (map as_told (takes_of before)))

module _ {s : Setting} {registers : ℕ} {body : Block} {all : List Record} (written : WrittenOrder s registers body all) (task : ℕ) where
  its_step : (latest : Record) (earlier : List Record)
      → ((before : List Noted) → AreNoted written (records_of task earlier) before → map as_told (takes_of before) ≡ told_by task earlier)
      → (noted : List Noted) → AreNoted written (latest ∷ records_of task earlier) noted
      → map as_told (takes_of noted) ≡ told_by task earlier ++ told_at latest.step
  its_step latest earlier rest [] are = absurd are
  its_step latest earlier rest (noted ∷ before) are =
      ap (λ (st : Step). map as_told (takes_at st noted.outcome (takes_of before))) are.1.step
      ∙ (told_with latest.step noted.outcome before ∙ ap (λ (l : List ToldAt). l ++ told_at latest.step) (rest before are.0))

  pub kept_takes : (records : List Record) (noted : List Noted) → AreNoted written (records_of task records) noted
      → map as_told (takes_of noted) ≡ told_by task records
  kept_takes [] [] are = refl
  kept_takes [] (noted ∷ before) are = absurd are
  kept_takes (latest ∷ earlier) noted are = elim (eqb_tells latest.task task) [
    | inl mine ↦
        rw mine.0 (its_step latest earlier (λ kept are_so. kept_takes earlier kept are_so) noted
        (subst (λ (r : List Record). AreNoted written r noted) (own_latest task latest earlier mine.1) are))
    | inr others ↦
        let same : records_of task (latest ∷ earlier) ≡ records_of task earlier = rw others.0 refl in
        rw others.0 (kept_takes earlier noted (subst (λ (r : List Record). AreNoted written r noted) same are) ∙ sym (append-nil (told_by task earlier)))
  ]
