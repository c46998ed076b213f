-- What the records of each task come to is what the list comes to.
use Rattle.std.proofs.Common.{◌≡◌, ◌∙◌, ◌<◌, ◌+◌, ◌==◌, ◌++◌, ◌∷◌, [], ℕ, zero, suc, Bool, true, false, List, ap, append_assoc, arith, cond, count_by, length, nat_lt, refl, sym}
use Rattle.std.specs.List.{flat_map, sum_by}
use Rattle.std.proofs.lemmas.Bool.{eq-eqb, le-ltb, lt-ltb, ne_eqb}
use Rattle.std.proofs.lemmas.List.Concat.{flat_map-cons}
use Rattle.std.proofs.lemmas.List.Sums.{sum_by-cons}
use Rattle.executions.specs.execution.Run.{Run}
use Rattle.executions.specs.execution.Execution.{Execution}
use Rattle.log_correctness.proofs.Sums.{counted, counted_both, place, within}
use Rattle.log_correctness.proofs.Sums as sums
use Rattle.slot_table.specs.declared.records.Record.{Record}

-- what a record comes to, with those before it
abbrev pub Worth : Type 0
Worth = Record → List Record → ℕ

-- all records, those of the tasks below a number, and those of one task
abbrev pub total : Worth → List Record → ℕ
total worth [] = 0
total worth (latest ∷ earlier) = worth latest earlier + total worth earlier

abbrev pub below : Worth → ℕ → List Record → ℕ
below worth tasks [] = 0
below worth tasks (latest ∷ earlier) = cond (nat_lt latest.task tasks) (worth latest earlier) 0 + below worth tasks earlier

abbrev pub own : Worth → ℕ → List Record → ℕ
own worth task [] = 0
own worth task (latest ∷ earlier) = cond (latest.task == task) (worth latest earlier) 0 + own worth task earlier

none_below : (worth : Worth) (records : List Record) → below worth 0 records ≡ 0
none_below worth [] = refl
none_below worth (latest ∷ earlier) =
    let rest = none_below worth earlier in
    let none : ◌≡◌ {A = ℕ} (cond (nat_lt latest.task 0) (worth latest earlier) 0) 0 =
    ap (λ (b : Bool). cond {A = ℕ} b (worth latest earlier) 0) (le-ltb latest.task 0 (omega arith)) in omega (arith, rest, none)

one_task : (worth : Worth) (task : ℕ) (records : List Record)
    → below worth (suc task) records ≡ below worth task records + own worth task records
one_task worth task [] = refl
one_task worth task (latest ∷ earlier) = by_place (one_task worth task earlier) (place task latest)
  where
    now : ℕ
    now = worth latest earlier

    if_so : (b c : Bool) → b ≡ c → cond {A = ℕ} b (worth latest earlier) 0 ≡ cond {A = ℕ} c (worth latest earlier) 0
    if_so b c is = ap (λ (d : Bool). cond {A = ℕ} d (worth latest earlier) 0) is

    by_place : below worth (suc task) earlier ≡ below worth task earlier + own worth task earlier → sums.Place task latest
        → below worth (suc task) (latest ∷ earlier) ≡ below worth task (latest ∷ earlier) + own worth task (latest ∷ earlier)
    by_place rest (sums.comes_before less) =
        let all = if_so (nat_lt latest.task (suc task)) true (lt-ltb latest.task (suc task) (omega (arith, less))) in
        let some = if_so (nat_lt latest.task task) true (lt-ltb latest.task task less) in
        let one = if_so (latest.task == task) false (ne_eqb latest.task task (λ (is : latest.task ≡ task). omega (arith, less, is))) in
        omega (arith, rest, all, some, one)
    by_place rest (sums.is_this is) =
        let all = if_so (nat_lt latest.task (suc task)) true (lt-ltb latest.task (suc task) (omega (arith, is))) in
        let some = if_so (nat_lt latest.task task) false (le-ltb latest.task task (omega (arith, is))) in
        let one = if_so (latest.task == task) true (eq-eqb latest.task task is) in
        omega (arith, rest, all, some, one)
    by_place rest (sums.comes_after more) =
        let all = if_so (nat_lt latest.task (suc task)) false (le-ltb latest.task (suc task) (omega (arith, more))) in
        let some = if_so (nat_lt latest.task task) false (le-ltb latest.task task (omega (arith, more))) in
        let one = if_so (latest.task == task) false (ne_eqb latest.task task (λ (is : latest.task ≡ task). omega (arith, more, is))) in
        omega (arith, rest, all, some, one)

module _ (run : Run) (all : List Record) (list : Execution run all) (worth : Worth) where
  all_below : (later earlier : List Record) → all ≡ later ++ earlier → below worth (length run.program.tasks) earlier ≡ total worth earlier
  all_below later [] is = refl
  all_below later (latest ∷ earlier) is =
      let rest = all_below (later ++ latest ∷ []) earlier (is ∙ sym (append_assoc later (latest ∷ []) earlier)) in
      let one : ◌≡◌ {A = ℕ} (cond (nat_lt latest.task (length run.program.tasks)) (worth latest earlier) 0) (worth latest earlier) =
      ap (λ (b : Bool). cond {A = ℕ} b (worth latest earlier) 0)
      (lt-ltb latest.task (length run.program.tasks) (within run all list later earlier latest is)) in omega (arith, rest, one)

  -- so what each task comes to adds up to it
  abbrev pub by_task : (ℕ → ℕ) → ℕ → ℕ
  by_task each zero = 0
  by_task each (suc task) = by_task each task + each task

  adds_up : (each : ℕ → ℕ) → (tasks : ℕ) → ((task : ℕ) → task < tasks → each task ≡ own worth task all)
      → by_task each tasks ≡ below worth tasks all
  adds_up each zero same = sym (none_below worth all)
  adds_up each (suc task) same =
      let rest = adds_up each task (λ t less. same t (omega (arith, less))) in
      let one = one_task worth task all in
      let its = same task (omega arith) in omega (arith, rest, one, its)

  pub all_add_up : (each : ℕ → ℕ) → ((task : ℕ) → task < length run.program.tasks → each task ≡ own worth task all)
      → by_task each (length run.program.tasks) ≡ total worth all
  all_add_up each same = adds_up each (length run.program.tasks) same ∙ all_below [] all refl

-- two sums over two lists, in either order
zeros : {X Y : Type 0} (f : X → Y → ℕ) (ys : List Y) → sum_by (λ (y : Y). sum_by (λ (x : X). f x y) []) ys ≡ 0
zeros f [] = refl
zeros {X = X} {Y = Y} f (y ∷ ys) =
    let rest = zeros f ys in
    let one : sum_by (λ (z : Y). sum_by (λ (x : X). f x z) []) (y ∷ ys) ≡ 0 + sum_by (λ (z : Y). sum_by (λ (x : X). f x z) []) ys =
    sum_by-cons (λ (z : Y). sum_by (λ (x : X). f x z) []) y ys in omega (arith, rest, one)

both_sums : {Y : Type 0} (f g h : Y → ℕ) → ((y : Y) → h y ≡ f y + g y) → (ys : List Y) → sum_by h ys ≡ sum_by f ys + sum_by g ys
both_sums f g h are [] = refl
both_sums f g h are (y ∷ ys) =
    let rest = both_sums f g h are ys in
    let one = sum_by-cons f y ys in
    let other = sum_by-cons g y ys in
    let all = sum_by-cons h y ys in
    let now = are y in omega (arith, rest, one, other, all, now)

pub swapped : {X Y : Type 0} (f : X → Y → ℕ) (xs : List X) (ys : List Y)
    → sum_by (λ (x : X). sum_by (λ (y : Y). f x y) ys) xs ≡ sum_by (λ (y : Y). sum_by (λ (x : X). f x y) xs) ys
swapped f [] ys = sym (zeros f ys)
swapped {X = X} {Y = Y} f (x ∷ xs) ys =
    let rest = swapped f xs ys in
    let first = sum_by-cons (λ (w : X). sum_by (λ (y : Y). f w y) ys) x xs in
    let both = both_sums (λ (y : Y). f x y) (λ (y : Y). sum_by (λ (w : X). f w y) xs) (λ (y : Y). sum_by (λ (w : X). f w y) (x ∷ xs))
    (λ y. sum_by-cons (λ (w : X). f w y) x xs) ys in
    omega (arith, rest, first, both)

-- sums of what is alike
pub same_sums : {X : Type 0} (f g : X → ℕ) → ((x : X) → f x ≡ g x) → (xs : List X) → sum_by f xs ≡ sum_by g xs
same_sums f g are [] = refl
same_sums f g are (x ∷ xs) =
    let rest = same_sums f g are xs in
    let one = sum_by-cons f x xs in
    let other = sum_by-cons g x xs in
    let now = are x in omega (arith, rest, one, other, now)

-- how often something stands in lists that are laid together
pub counted_flat : {X Y : Type 0} (p : Y → Bool) (f : X → List Y) (xs : List X)
    → count_by p (flat_map f xs) ≡ sum_by (λ (x : X). count_by p (f x)) xs
counted_flat p f [] = refl
counted_flat {X = X} p f (x ∷ xs) =
    let rest = counted_flat p f xs in
    let all : count_by p (flat_map f (x ∷ xs)) ≡ count_by p (f x ++ flat_map f xs) = ap (λ l. count_by p l) (flat_map-cons f x xs) in
    let both = counted_both p (f x) (flat_map f xs) in
    let one = sum_by-cons (λ (y : X). count_by p (f y)) x xs in omega (arith, rest, all, both, one)
