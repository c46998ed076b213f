-- Which steps are no failed tries, and how many steps there are by how many of these.
use Rattle.std.proofs.Common.{◌≡◌, ◌<◌, ◌≤◌, ◌∙◌, ◌+◌, ◌*◌, ◌&&◌, ◌++◌, ◌∷◌, [], ℕ, suc, Bool, true, false, List, ap, arith, inl, inr, length, refl, reverse, subst, sym, if◌then◌else◌}
use Rattle.std.proofs.lemmas.Bool.Decides.{leb_tells}
use Rattle.std.proofs.lemmas.List.{append-nil, append_assoc, reverse-append}
use Rattle.slot_table.specs.declared.records.Record.{Record}
use Rattle.slot_table.specs.declared.step.Answer.{Answer}
use Rattle.slot_table.specs.declared.step.Step.{Step}
use Rattle.slot_table.specs.declared.step.Step.TheVariants.{CellExchange, LockTry, PairLoad}
use Rattle.program_order.specs.Waits.{IsTooMuch, IsTry, WithinTurns, exchanges_in, is_no, is_refused, loads_pair, tries_lock, failed_tries, is_tried_again}

-- a step counts unless it was a failed try
abbrev pub one : Bool → ℕ
one failed = if failed then 0 else 1

-- the step was a failed try: what follows tries the same again
abbrev pub failed_before : Record → List Record → Bool
failed_before first [] = false
failed_before first (next ∷ later) = is_tried_again first.step first.answer next.step

-- how many steps are no failed tries, the oldest step first
abbrev pub firm : List Record → ℕ
firm [] = 0
firm (first ∷ later) = one (failed_before first later) + firm later

few_one : (failed : Bool) → one failed ≤ 1
few_one true = omega arith
few_one false = omega arith

pub one_firm : (first : Record) (later : List Record) → firm (first ∷ later) ≤ firm later + 1
one_firm first later = let few = few_one (failed_before first later) in omega (arith, few)

pub none_firm : (first : Record) (later : List Record) → failed_before first later ≡ true → firm (first ∷ later) ≤ firm later
none_firm first later failed = let none : one (failed_before first later) ≡ 0 = rw failed refl in omega (arith, none)

-- a beginning of a list has no more than the list, but for its last step
pub firm_front : (front later : List Record) → firm front ≤ firm (front ++ later) + 1
firm_front [] later = omega arith
firm_front (first ∷ []) later = omega arith
firm_front (first ∷ (next ∷ more)) later = let rest = firm_front (next ∷ more) later in omega (arith, rest)

-- the same of a list that stands with the latest first, but for its latest
abbrev firm_before : Record → List Record → ℕ
firm_before latest [] = 0
firm_before latest (before ∷ earlier) = one (is_tried_again before.step before.answer latest.step) + firm_before before earlier

abbrev firm_back : List Record → ℕ
firm_back [] = 0
firm_back (latest ∷ earlier) = firm_before latest earlier + 1

-- records, the oldest first, before others, which stand with the latest first
abbrev onto : List Record → List Record → List Record
onto [] before = before
onto (first ∷ later) before = onto later (first ∷ before)

onto_is : (records before : List Record) → onto records before ≡ reverse records ++ before
onto_is [] before = refl
onto_is (first ∷ later) before =
    onto_is later (first ∷ before)
    ∙ (sym (append_assoc (reverse later) (first ∷ []) before) ∙ ap (λ (r : List Record). r ++ before)
    (sym (reverse-append (first ∷ []) later)))

onto_length : (records before : List Record) → length (onto records before) ≡ length records + length before
onto_length [] before = omega arith
onto_length (first ∷ later) before = let rest = onto_length later (first ∷ before) in omega (arith, rest)

onto_firm : (records : List Record) (last : Record) (before : List Record)
    → firm_back (onto records (last ∷ before)) ≡ firm (last ∷ records) + firm_before last before
onto_firm [] last before = omega arith
onto_firm (first ∷ later) last before = let rest = onto_firm later first (last ∷ before) in omega (arith, rest)

-- only waits are tried again
abbrev IsWait : Step → Type 0
IsWait (PairLoad index) = Unit {0}
IsWait (LockTry lock task) = Unit {0}
IsWait (CellExchange cell seen new) = Unit {0}
IsWait step = ⊥

second : (x y : Bool) → (x && y) ≡ true → y ≡ true
second true y both = both
second false y both = absurd (let no : false ≡ true = both in cc)

exchange_waits : (cell : ℕ) (next : Step) → exchanges_in cell next ≡ true → IsWait next
exchange_waits cell (CellExchange at seen new) is = tt
exchange_waits cell next is = absurd (let no : false ≡ true = is in cc)

try_waits : (lock : ℕ) (next : Step) → tries_lock lock next ≡ true → IsWait next
try_waits lock (LockTry at task) is = tt
try_waits lock next is = absurd (let no : false ≡ true = is in cc)

load_waits : (index : ℕ) (next : Step) → loads_pair index next ≡ true → IsWait next
load_waits index (PairLoad at) is = tt
load_waits index next is = absurd (let no : false ≡ true = is in cc)

failed_waits : (step : Step) (answer : Answer) (next : Step) → is_tried_again step answer next ≡ true → IsWait next
failed_waits (CellExchange cell seen new) answer next is = exchange_waits cell next (second (is_refused answer) (exchanges_in cell next) is)
failed_waits (LockTry lock task) answer next is = try_waits lock next (second (is_no answer) (tries_lock lock next) is)
failed_waits (PairLoad index) answer next is = load_waits index next is
failed_waits step answer next is = absurd (let no : false ≡ true = is in cc)

tried_waits : (step : Step) (earlier : List Record) → 0 < failed_tries step earlier → IsWait step
tried_waits step [] some = absurd (omega (arith, some))
tried_waits step (before ∷ earlier) some = by_failed (is_tried_again before.step before.answer step) refl some
  where
    by_failed : (failed : Bool) → is_tried_again before.step before.answer step ≡ failed
        → 0 < (if failed then suc (failed_tries before.step earlier) else 0) → IsWait step
    by_failed true is more = failed_waits before.step before.answer step is
    by_failed false is more = absurd (omega (arith, more))

is_try : (step : Step) (earlier : List Record) → IsWait step → 0 < failed_tries step earlier → IsTry step earlier
is_try (PairLoad index) earlier waits some = tt
is_try (LockTry lock task) earlier waits some = tt
is_try (CellExchange cell seen new) earlier waits some = some
is_try step earlier waits some = absurd waits

few_tries : (turns : ℕ) (step : Step) (earlier : List Record) → ¬ IsTooMuch turns step earlier → failed_tries step earlier ≤ turns
few_tries turns step earlier never = elim (leb_tells (failed_tries step earlier) turns) [
  | inl few ↦ few.1
  | inr many ↦
      let more : turns < failed_tries step earlier = many.1 in
      let some : 0 < failed_tries step earlier = omega (arith, more) in
      absurd (never (is_try step earlier (tried_waits step earlier some) some, omega (arith, more)))
]

few_before : (turns : ℕ) (latest : Record) (earlier : List Record) → WithinTurns turns earlier
    → length earlier ≤ firm_before latest earlier * (turns + 1) + failed_tries latest.step earlier
few_before turns latest [] within = omega arith
few_before turns latest (before ∷ earlier) within =
    by_failed (is_tried_again before.step before.answer latest.step)
    (few_before turns before earlier within.0) (few_tries turns before.step earlier within.1)
  where
    by_failed : (failed : Bool) → length earlier ≤ firm_before before earlier * (turns + 1) + failed_tries before.step earlier
        → failed_tries before.step earlier ≤ turns
        → suc (length earlier) ≤ (one failed + firm_before before earlier) * (turns + 1) +
        (if failed then suc (failed_tries before.step earlier) else 0)
    by_failed true rest few = omega (arith, rest)
    by_failed false rest few = omega (arith, rest, few)

few_back : (turns : ℕ) (records : List Record) → WithinTurns turns records → length records ≤ firm_back records * (turns + 1)
few_back turns [] within = omega arith
few_back turns (latest ∷ earlier) within =
    let rest = few_before turns latest earlier within.0 in
    let few = few_tries turns latest.step earlier within.1 in
    omega (arith, rest, few)

-- records with no wait for longer than the turns are no more than those that aren't without success, for each turn and
-- one
pub few_within : (turns : ℕ) (records : List Record) → WithinTurns turns (reverse records) → length records ≤ firm records * (turns + 1)
few_within turns [] within = omega arith
few_within turns (first ∷ later) within =
    let back : List Record = onto later (first ∷ []) in
    let is : back ≡ reverse (first ∷ later) = onto_is (first ∷ later) [] ∙ append-nil (reverse (first ∷ later)) in
    let few = few_back turns back (subst (WithinTurns turns) (sym is) within) in
    let long = onto_length later (first ∷ []) in
    let counted = onto_firm later first [] in
    let same : firm_back back ≡ firm (first ∷ later) = omega (arith, counted) in
    let all : length back ≤ firm (first ∷ later) * (turns + 1) = subst (λ (n : ℕ). length back ≤ n * (turns + 1)) same few in
    omega (arith, long, all)
