-- The rule holds before the first step.
use Rattle.std.proofs.Common.{◌≡◌, ℕ, zero, suc, ◌+◌, List, [], ◌∷◌, ◌++◌, All, length, map, take, drop, replicate, refl, sym, ap, ◌∙◌, subst}
use Rattle.std.proofs.lemmas.List.{append_assoc, get_or_push, length-append, length-replicate}
use Rattle.std.proofs.Math.Nat.{suc-add, zero-add}
use Rattle.std.proofs.Math.Seq.{drop-append_seam, take-append_seam}
use mathlib.Core.Option.{some, some-injective, some-ne-none}
use lib.ListN.{get_elem?}
use Rattle.slot.specs.Pair.{Halves, unnamed}
use Rattle.shared_table.specs.Given.{Given, first_words}
use Rattle.shared_table.specs.Row.{cells_from, clock_at, first_row, halves_in, indices, locks_from, pairs_from, row_length, section, words_in}
use Rattle.shared_table.specs.RunningWords.{IsHeld, RunningWords}
use Rattle.shared_table.specs.Views.{everyone}
use Rattle.shared_table.specs.declared.view.View.{View}
use Rattle.shared_table.proofs.Acts.{words_path}
use Rattle.shared_table.proofs.Dealing.{from_each}

-- a part of a row is the section at its place
part : (before it rest : List ℕ) (from count : ℕ) → length before ≡ from → length it ≡ count
    → section from count ((before ++ it) ++ rest) ≡ it
part before it rest from count starts counts =
    let P : ℕ × ℕ → Type 0 = λ n. section n.0 n.1 ((before ++ it) ++ rest) ≡ it in
    subst P (λ i. (starts i, counts i))
    (ap (λ (xs : List ℕ). take (length it) (drop (length before) xs)) (append_assoc before it rest)
    ∙ ap (λ (xs : List ℕ). take (length it) xs) (drop-append_seam before (it ++ rest))
    ∙ take-append_seam it rest)

-- words that are all 0
abbrev nothing : ℕ → List ℕ
nothing n = replicate n 0

zeros_add : (n m : ℕ) → nothing (n + m) ≡ nothing n ++ nothing m
zeros_add zero m = ap nothing (zero-add m)
zeros_add (suc n) m = ap nothing (suc-add n m) ∙ ap (λ (xs : List ℕ). 0 ∷ xs) (zeros_add n m)

no_halves : (n : ℕ) → map halves_in (replicate n 0) ≡ replicate n unnamed
no_halves zero = refl
no_halves (suc n) = ap (λ (xs : List Halves). unnamed ∷ xs) (no_halves n)

module _ (given : Given) where
  abbrev n : ℕ
  n = indices given

  abbrev zeros : List ℕ
  zeros = replicate n 0

  abbrev locks : List ℕ
  locks = replicate given.locks 0

  abbrev two : List ℕ
  two = replicate (n + n) 0

  abbrev end : List ℕ
  end = 0 ∷ []

  zeros_length : length zeros ≡ n
  zeros_length = length-replicate n 0

  two_length : length two ≡ n + n
  two_length = length-replicate (n + n) 0

  locks_length : length locks ≡ given.locks
  locks_length = length-replicate given.locks 0

  to_locks : length (two ++ given.cells) ≡ locks_from given
  to_locks = length-append two given.cells ∙ ap (λ (k : ℕ). k + length given.cells) two_length

  to_clock : length ((two ++ given.cells) ++ locks) ≡ clock_at given
  to_clock = length-append (two ++ given.cells) locks ∙ (λ i. to_locks i + locks_length i)

  counts : length (first_row given) ≡ row_length given
  counts = length-append ((two ++ given.cells) ++ locks) end ∙ ap (λ (k : ℕ). k + 1) to_clock

  -- the row in other groupings
  abbrev behind : List ℕ
  behind = given.cells ++ (locks ++ end)

  as_cells : first_row given ≡ (two ++ given.cells) ++ (locks ++ end)
  as_cells = append_assoc (two ++ given.cells) locks end

  as_pairs : first_row given ≡ (zeros ++ zeros) ++ behind
  as_pairs = as_cells ∙ append_assoc two given.cells (locks ++ end) ∙ ap (λ (xs : List ℕ). xs ++ behind) (zeros_add n n)

  as_watch : first_row given ≡ ([] ++ zeros) ++ (zeros ++ behind)
  as_watch = as_pairs ∙ append_assoc zeros zeros behind

  abbrev cut : ℕ → ℕ → List ℕ → List ℕ
  cut from count row = section from count row

  stands : words_in given (first_row given) ≡ first_words given
  stands =
      words_path (words_in given (first_row given)) (first_words given)
      (ap (cut 0 n) as_watch ∙ part [] zeros (zeros ++ behind) 0 n refl zeros_length)
      (ap (λ (row : List ℕ). map halves_in (section (pairs_from given) n row)) as_pairs
      ∙ ap (λ (xs : List ℕ). map halves_in xs) (part zeros zeros behind (pairs_from given) n zeros_length zeros_length)
      ∙ no_halves n)
      (ap (cut (cells_from given) (length given.cells)) as_cells
      ∙ part two given.cells (locks ++ end) (cells_from given) (length given.cells) two_length refl)
      (part (two ++ given.cells) locks end (locks_from given) given.locks to_locks locks_length)
      (get_or_push ((two ++ given.cells) ++ locks) 0 0 (clock_at given) to_clock)

  abbrev Holds : ℕ → View → Type 0
  Holds seat view = All (IsHeld given [] (λ _. 0) seat view) view.held

  one_seat : (seat : ℕ) (view : View) → get_elem? (everyone given ∷ []) seat ≡ some view → Holds seat view
  one_seat zero view is =
      subst (Holds 0) (some-injective (everyone given) view is)
      (from_each (IsHeld given [] (λ _. 0) 0 (everyone given)) 0 given.tasks (λ task past. record { knows = refl; only = refl; all = refl }))
  one_seat (suc seat) view is = absurd (some-ne-none view (sym is))

  pub begins : RunningWords given (first_row given) (everyone given ∷ [])
  begins = record {
    records = [];
    legal = record { legal = tt; keeps = λ task. tt };
    counts = counts;
    stand = stands;
    seat_of = λ _. 0;
    held = one_seat;
    nobody = λ task nobody. refl;
    others = λ task past. refl;
  }
