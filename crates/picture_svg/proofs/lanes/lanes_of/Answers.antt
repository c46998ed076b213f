-- one lane more, and at the end all of them
use Rattle.std.proofs.Common.{◌≡◌, ◌+◌, ◌<◌, ◌≤◌, ◌++◌, ◌∷◌, ◌∙◌, ℕ, List, [], ap, arith, get_or, length, length-set, map, refl, set, suc, sym, take, zero}
use Rattle.std.specs.Prelude.{sum}
use Rattle.std.proofs.lemmas.List.{get_or-map, take_all, take_more, take_more_set}
use Rattle.std.proofs.lemmas.List.Sums.{sum_by-cons, sum_by_more}
use Rattle.timeline.specs.picture.Columns.{tasks}
use Rattle.picture_svg.specs.Lanes.{lane_width, lanes_of, starts_from, width_of}
use Rattle.picture_svg.specs.declared.lanes.Lanes.{Lanes}
use Rattle.picture_svg.proofs.lanes.lanes_of.Goals as goal

-- as many begin as there are
length-starts : (x : ℕ) (widths : List ℕ) → length (starts_from x widths) ≡ length widths
length-starts x [] = refl
length-starts x (width ∷ more) = ap suc (length-starts (x + width) more)

-- each begins behind those before it
at_start : (x : ℕ) (widths : List ℕ) (i : ℕ) → i < length widths → get_or (starts_from x widths) i 0 ≡ x + sum (take i widths)
at_start x [] i within = omega arith
at_start x (width ∷ more) zero within = omega arith
at_start x (width ∷ more) (suc i) within =
    let behind : get_or (starts_from (x + width) more) i 0 ≡ x + width + sum (take i more) = at_start (x + width) more i (omega arith) in
    let one : sum (width ∷ take i more) ≡ width + sum (take i more) = sum_by-cons (λ n. n) width (take i more) in
    omega (arith, behind, one)

-- one more stands behind those so far
sum_more : (widths : List ℕ) (i width : ℕ) → i < length widths → width ≡ get_or widths i 0
    → 1 + sum (take i widths) + width ≡ 1 + sum (take (i + 1) widths)
sum_more widths i width within is = omega (arith, sum_by_more (λ n. n) widths i 0 within, is)

starts_more : (widths starts : List ℕ) (i x : ℕ) → i < length widths → i < length starts → x ≡ 1 + sum (take i widths)
    → take i starts ≡ take i (starts_from 1 widths) → take (i + 1) (set starts i x) ≡ take (i + 1) (starts_from 1 widths)
starts_more widths starts i x within room is begun =
    let there : i < length (starts_from 1 widths) = omega (arith, length-starts 1 widths) in
    let next : get_or (starts_from 1 widths) i 0 ≡ x = at_start 1 widths i within ∙ sym is in
    take_more_set starts i x room ∙ ap (λ (xs : List ℕ). xs ++ x ∷ []) begun
    ∙ ap (λ (y : ℕ). take i (starts_from 1 widths) ++ y ∷ []) (sym next) ∙ sym (take_more (starts_from 1 widths) i 0 there)

-- all of them
all_lanes : (widths starts : List ℕ) (i x : ℕ) → length widths ≡ 16 → length starts ≡ 16 → 16 ≤ i → x ≡ 1 + sum (take i widths)
    → take i starts ≡ take i (starts_from 1 widths)
    → ◌≡◌ {A = Lanes} (record { starts = starts; width = x }) (record { starts = starts_from 1 widths; width = 1 + sum widths })
all_lanes widths starts i x many long past is begun =
    let whole : take i widths ≡ widths = take_all i widths (omega arith) in
    let own : take i starts ≡ starts = take_all i starts (omega arith) in
    let all : take i (starts_from 1 widths) ≡ starts_from 1 widths = take_all i (starts_from 1 widths) (omega (arith, length-starts 1 widths)) in
    let same : starts ≡ starts_from 1 widths = sym own ∙ begun ∙ all in
    let wide : x ≡ 1 + sum widths = is ∙ ap (λ (xs : List ℕ). 1 + sum xs) whole in
    rw (same, wide)

pub loop-index-init : goal.loop-index-init
loop-index-init c = record { long = refl; behind = refl; small = omega arith; begun = refl }

pub loop-index-preserved : goal.loop-index-preserved
loop-index-preserved c =
    let widths : List ℕ = map (width_of c.args.picture.now c.args.labels.now) tasks in
    let inv = c.loop-index.invariant in
    let i : ℕ = c.loop-index.index in
    let within : i < 16 = c.loop-index-test.true in
    let at : get_or widths i 0 ≡ width_of c.args.picture.now c.args.labels.now (get_or tasks i 0) =
    get_or-map (width_of c.args.picture.now c.args.labels.now) tasks i 0 0 within in
    let wide : c.lane_width-width.result ≡ get_or widths i 0 =
    c.lane_width-width.ensures.value ∙ ap lane_width c.lane_len.ensures.value ∙ sym at in
    let sums : 1 + sum (take i widths) + c.lane_width-width.result ≡ 1 + sum (take (i + 1) widths) = sum_more widths i c.lane_width-width.result within wide in
    record {
      long = length-set c.loop-index.starts i c.loop-index.width ∙ inv.long;
      behind = ap (λ (n : ℕ). n + c.lane_width-width.result) inv.behind ∙ sums;
      small = omega (arith, c.lane_width-width.ensures.few);
      begun = starts_more widths c.loop-index.starts i c.loop-index.width within (omega arith) inv.behind inv.begun;
    }

pub returns : goal.returns
unfolding lanes_of
returns c =
    let inv = c.loop-index.invariant in
    all_lanes (map (width_of c.args.picture.now c.args.labels.now) tasks) c.loop-index.starts c.loop-index.index c.loop-index.width refl inv.long
    c.loop-index-test.false inv.behind inv.begun
