-- The head of a trace, both ways.
use Rattle.std.proofs.Common.{◌≡◌, ◌∙◌, ◌++◌, ◌<◌, ◌||◌, ◌^◌, ℕ, List, Bool, true, false, Option, Some, None, ap, append_assoc, arith, nat_lt, refl, subst, sym}
use Rattle.std.proofs.lemmas.Bool.Decides.{nat_tests}
use Rattle.std.specs.Fmt.{decimal}
use Rattle.std.specs.Borrow.{Bor}
use Rattle.std.specs.Prelude.{MatchOption, if◌then◌else◌, codes}
use Rattle.watch_word.specs.declared.layout.Layout.{Layout}
use Rattle.watch_word.specs.declared.layout.Layout.TheVariants.{W64, W32}
use Rattle.report_text.specs.Faults.{BeginsWith, MayHaveSlots}
use Rattle.report_text.specs.TraceText.{shape_line, width_word}
use Rattle.trace_replay.specs.declared.trace_lines.head.Shape.{Shape}
use Rattle.trace_replay.specs.trace_lines.FieldReaders.{decimal_at, means, past}
use Rattle.trace_replay.specs.trace_lines.HeadReading.{IsShapeAt, layout_at, shape_at}
use Rattle.trace_replay.specs.trace_lines.Reading.{seen_rest}
use Rattle.trace_replay.proofs.trace_lines.FieldTexts.{decimal_spelled, decimal_there, ends, last_spelled, means_spelled}
use Rattle.trace_replay.proofs.trace_lines.Words.{bind_then, past_is, past_there, same_given}

-- nothing begins with the text where none is read behind it
pub nowhere : (text bytes : List ℕ) → None ≡ past text bytes → ¬ BeginsWith text bytes
nowhere text bytes none begins =
    let there = ap (past text) begins.1 ∙ past_there text begins.0 in
    let e = none ∙ there in absurd cc

-- what is read behind the text stands behind it
pub behind : (text bytes : List ℕ) (found : Option (Bor (List ℕ))) → seen_rest found ≡ past text bytes
    → MatchOption found (¬ BeginsWith text bytes) (λ rest. bytes ≡ text ++ rest.now)
behind text bytes None e = nowhere text bytes e
behind text bytes (Some rest) e = past_is text bytes rest.now (sym e)

layout_text : Layout → List ℕ
layout_text layout = codes " " ++ (width_word layout ++ codes "\n")

layout_there : (layout : Layout) (rest : List ℕ) → layout_at (codes " " ++ (width_word layout ++ (codes "\n" ++ rest))) ≡ Some (layout, rest)
unfolding layout_at past
layout_there W64 rest = refl
layout_there W32 rest = refl

layout_spelled : (bytes : List ℕ) (found : Layout × List ℕ) → layout_at bytes ≡ Some found
    → bytes ≡ codes " " ++ (width_word found.0 ++ (codes "\n" ++ found.1))
unfolding layout_at
layout_spelled bytes found e =
    means_spelled W64 (codes " 64\n") bytes (means W32 (past (codes " 32\n") bytes)) found
    (bytes ≡ codes " " ++ (width_word found.0 ++ (codes "\n" ++ found.1))) e
    (λ rest is same. subst (λ (f : Layout × List ℕ). bytes ≡ codes " " ++ (width_word f.0 ++ (codes "\n" ++ f.1))) same is)
    (λ e. last_spelled W32 (codes " 32\n") bytes found
    (bytes ≡ codes " " ++ (width_word found.0 ++ (codes "\n" ++ found.1))) e
    (λ rest is same. subst (λ (f : Layout × List ℕ). bytes ≡ codes " " ++ (width_word f.0 ++ (codes "\n" ++ f.1))) same is))

layout_ends : (layout : Layout) (rest : List ℕ) → ends (codes " " ++ (width_word layout ++ (codes "\n" ++ rest))) ≡ true
layout_ends layout rest = refl

shape_steps : (bytes t1 t2 rest : List ℕ) (slots : ℕ) (layout : Layout) → past (codes "shape ") bytes ≡ Some t1
    → decimal_at t1 ≡ Some (slots, t2) → layout_at t2 ≡ Some (layout, rest)
    → (nat_lt slots 3 || nat_lt 1024 slots) ≡ false → shape_at bytes ≡ Some (record { slots = slots; layout = layout }, rest)
unfolding shape_at
shape_steps bytes t1 t2 rest slots layout e1 e2 e3 e4 = rw (e1, e2, e3, e4)

pub shape_there : (shape : Shape) (rest : List ℕ) → MayHaveSlots shape.slots
    → shape_at (shape_line shape.slots shape.layout ++ rest) ≡ Some (shape, rest)
unfolding shape_line
shape_there shape rest may =
    let low = may.0 in
    let high = may.1 in
    let small : shape.slots < 2 ^ 64 = omega arith in
    let t2 : List ℕ = codes " " ++ (width_word shape.layout ++ (codes "\n" ++ rest)) in
    let t1 : List ℕ = decimal shape.slots ++ t2 in
    let is : (nat_lt shape.slots 3 || nat_lt 1024 shape.slots) ≡ false = grind (arith, nat_tests) in
    let e : shape_line shape.slots shape.layout ++ rest ≡ codes "shape " ++ t1 = simp append_assoc in
    ap shape_at e
    ∙ shape_steps (codes "shape " ++ t1) t1 t2 rest shape.slots shape.layout (past_there (codes "shape ") t1)
    (decimal_there shape.slots t2 small (layout_ends shape.layout rest)) (layout_there shape.layout rest) is

shape_ends : (bytes t1 t2 rest : List ℕ) (slots : ℕ) (layout : Layout) (found : Shape × List ℕ) → bytes ≡ codes "shape " ++ t1
    → t1 ≡ decimal slots ++ t2 → t2 ≡ codes " " ++ (width_word layout ++ (codes "\n" ++ rest))
    → (if nat_lt slots 3 || nat_lt 1024 slots then None else Some (record { slots = slots; layout = layout }, rest)) ≡ Some found
    → IsShapeAt bytes found.0 found.1
unfolding shape_line
shape_ends bytes t1 t2 rest slots layout found e1 e2 e3 e = by (nat_lt slots 3 || nat_lt 1024 slots) refl e
  where
    by : (t : Bool) → (nat_lt slots 3 || nat_lt 1024 slots) ≡ t
        → ◌≡◌ {A = Option (Shape × List ℕ)} (if t then None else Some (record { slots = slots; layout = layout }, rest)) (Some found)
        → IsShapeAt bytes found.0 found.1
    by true p e = absurd cc
    by false p e =
        let made : Shape = record { slots = slots; layout = layout } in
        let same : (made, rest) ≡ found = same_given (made, rest) found e in
        let whole : bytes ≡ shape_line slots layout ++ rest =
        e1 ∙ ap (λ xs. codes "shape " ++ xs) (e2 ∙ ap (λ xs. decimal slots ++ xs) e3) ∙ simp append_assoc in
        let here : IsShapeAt bytes made rest = record { slots = (grind (arith, nat_tests), grind (arith, nat_tests)); spelled = whole } in
        subst (λ (f : Shape × List ℕ). IsShapeAt bytes f.0 f.1) same here

pub shape_spelled : (bytes : List ℕ) (found : Shape × List ℕ) → shape_at bytes ≡ Some found → IsShapeAt bytes found.0 found.1
unfolding shape_at
shape_spelled bytes found e =
    bind_then (past (codes "shape ") bytes) _ found e (λ x1 p1 e.
    bind_then (decimal_at x1) _ found e (λ x2 p2 e.
    bind_then (layout_at x2.1) _ found e (λ x3 p3 e.
    shape_ends bytes x1 x2.1 x3.1 x2.0 x3.0 found (past_is (codes "shape ") bytes x1 p1) (decimal_spelled x1 x2 p2).0
    (layout_spelled x2.1 x3 p3) e)))
