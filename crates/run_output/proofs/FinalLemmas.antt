-- What registers and variables hold in a world.
use Rattle.std.proofs.Common.{◌≡◌, ◌+◌, ◌++◌, ◌∷◌, [], ◌∙◌, ℕ, List, Option, None, Some, ap, arith, length, map}
use Rattle.std.proofs.Common.{refl, slice_get, subst, suc, sym, inl, inr, Vec}
use Rattle.std.specs.Option.{option_map}
use Rattle.std.proofs.lemmas.Option.{slice_get-map}
use Rattle.std.specs.Global.{Global}
use Rattle.litmus_semantics.specs.final_condition.Holds as final
use Rattle.litmus_semantics.specs.final_condition.Holds.{Holds, register_of}
use Rattle.litmus_semantics.specs.declared.final_condition.condition.Finals.{Finals}
use Rattle.run_output.specs.Finals.{AreAllRegisters, AreRegistersFrom, register_value, value_among}
use Rattle.litmus_step.specs.Readers.{AreRegisters}
use Rattle.litmus_syntax.specs.Tree.{Proposition, always, both, either, negation, never, register_is, variable_is}
use Rattle.executions.specs.execution.Run.{Run}
use Rattle.executions.specs.execution.Execution.{Execution}
use Rattle.slot_table.specs.declared.records.Record.{Record}

-- the registers of one task more
pub registers_go_on : {run : Run} {records : List Record} (list : Execution run records) (from number : ℕ) (all : List (List ℕ))
    (values : List ℕ) → number ≡ from + length all → AreRegistersFrom list from all → AreRegisters list number values
    → AreRegistersFrom list from (all ++ values ∷ [])
registers_go_on list from number [] values is before here =
    let same : number ≡ from = omega (arith, is) in
    (subst (λ task. AreRegisters list task values) same here, tt)
registers_go_on list from number (first ∷ all) values is before here =
    (before.0, registers_go_on list (suc from) number all values (omega (arith, is)) before.1 here)

-- they are one list alone
registers_same_from : {run : Run} {records : List Record} (list : Execution run records) (from : ℕ) (one other : List (List ℕ))
    → length one ≡ length other → AreRegistersFrom list from one → AreRegistersFrom list from other → one ≡ other
registers_same_from list from [] [] same are others = refl
registers_same_from list from [] (values ∷ other) same are others = absurd (omega (arith, same))
registers_same_from list from (values ∷ one) [] same are others = absurd (omega (arith, same))
registers_same_from list from (first ∷ one) (second ∷ other) same are others =
    ap (λ (values : List ℕ). values ∷ one) (are.0 ∙ sym others.0)
    ∙ ap (λ (more : List (List ℕ)). second ∷ more)
    (registers_same_from list (suc from) one other (omega (arith, same)) are.1 others.1)

pub all_registers_same : {run : Run} {records : List Record} (list : Execution run records) (one other : List (List ℕ))
    → AreAllRegisters list one → AreAllRegisters list other → one ≡ other
all_registers_same list one other are others =
    registers_same_from list 0 one other (are.all ∙ sym others.all) are.each others.each

-- what holds of values holds of the same values, and the other way round
alike : (registers others : ℕ → ℕ → ℕ) (variables values : ℕ → ℕ)
    → ((task number : ℕ) → registers task number ≡ others task number) → ((number : ℕ) → variables number ≡ values number)
    → (p : Proposition) → (Holds registers variables p → Holds others values p) × (Holds others values p → Holds registers variables p)
alike r o v w er ev always = (λ holds. holds, λ holds. holds)
alike r o v w er ev never = (λ holds. holds, λ holds. holds)
alike r o v w er ev (register_is task number value) =
    (λ holds. sym (er task number) ∙ holds, λ holds. er task number ∙ holds)
alike r o v w er ev (variable_is number value) = (λ holds. sym (ev number) ∙ holds, λ holds. ev number ∙ holds)
alike r o v w er ev (negation inner) =
    let same = alike r o v w er ev inner in
    (λ holds other. holds (same.1 other), λ holds other. holds (same.0 other))
alike r o v w er ev (both left right) =
    let first = alike r o v w er ev left in
    let second = alike r o v w er ev right in
    (λ holds. (first.0 holds.0, second.0 holds.1), λ holds. (first.1 holds.0, second.1 holds.1))
alike r o v w er ev (either left right) =
    let first = alike r o v w er ev left in
    let second = alike r o v w er ev right in (
      λ holds. elim holds [ inl one ↦ inl (first.0 one) | inr other ↦ inr (second.0 other) ],
      λ holds. elim holds [ inl one ↦ inl (first.1 one) | inr other ↦ inr (second.1 other) ],
    )

pub holds_alike : (registers others : ℕ → ℕ → ℕ) (variables values : ℕ → ℕ)
    → ((task number : ℕ) → registers task number ≡ others task number) → ((number : ℕ) → variables number ≡ values number)
    → (p : Proposition) → Holds registers variables p → Holds others values p
holds_alike r o v w er ev p = (alike r o v w er ev p).0

pub holds_back : (registers others : ℕ → ℕ → ℕ) (variables values : ℕ → ℕ)
    → ((task number : ℕ) → registers task number ≡ others task number) → ((number : ℕ) → variables number ≡ values number)
    → (p : Proposition) → Holds others values p → Holds registers variables p
holds_back r o v w er ev p = (alike r o v w er ev p).1

-- the value of a number among values is the same, in a Vec and as a list
among_same : (values : Option (Vec ℕ Global)) (number : ℕ)
    → final.value_among values number ≡ value_among (option_map (λ vec. vec.items) values) number
among_same None number = refl
among_same (Some values) number = refl

-- a register has the same value, in vectors and as lists
pub registers_same : (finals : Finals) (task number : ℕ)
    → register_of finals task number ≡ register_value (map (λ values. values.items) finals.registers.items) task number
registers_same finals task number =
    among_same (slice_get finals.registers.items task) number
    ∙ ap (λ values. value_among values number) (sym (slice_get-map (λ values. values.items) finals.registers.items task))
