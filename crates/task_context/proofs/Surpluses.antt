-- One mark more, and the largest surplus of an ending part then.
use Rattle.std.proofs.Common.{◌≡◌, ◌+◌, ◌-◌, ◌≤◌, ◌<◌, ◌++◌, ◌⊎◌, ℕ, zero, suc, List, [], ◌∷◌, Bool}
use Rattle.std.proofs.Common.{true, false, cond, drop, length, count_by, refl, arith, ap, inl, inr}
use Rattle.std.proofs.Common.{le_refl, sub-one, length-append}
use Rattle.std.proofs.Math.Seq.{drop-nil}
use Rattle.std.proofs.lemmas.List.{drop_all}
use Rattle.std.proofs.lemmas.List.Sums.{sum_by-append}
use Rattle.access_types.specs.Marked.{EndsRaised}
use Rattle.access_types.specs.declared.history.Mark.{Mark}
use Rattle.task_context.specs.History.{IsSurplus}

-- how much one mark counts
abbrev pub one : (Mark → Bool) → Mark → ℕ
one p m = cond (p m) 1 0

pub count_by-last : (p : Mark → Bool) (xs : List Mark) (m : Mark)
    → count_by p (xs ++ m ∷ []) ≡ count_by p xs + one p m
count_by-last p xs m = omega (arith, sum_by-append (one p) xs (m ∷ []))

-- an ending part has one more mark
record Grows (raises lowers : Mark → Bool) (part longer : List Mark) (m : Mark) : Type 0 where
  raised : count_by raises longer ≡ count_by raises part + one raises m
  lowered : count_by lowers longer ≡ count_by lowers part + one lowers m

-- an ending part that begins after the marks has none
record Ends (raises lowers : Mark → Bool) (part longer : List Mark) : Type 0 where
  raised : count_by raises longer ≡ 0
  lowered : count_by lowers longer ≡ 0
  was_raised : count_by raises part ≡ 0
  was_lowered : count_by lowers part ≡ 0

grown : (raises lowers : Mark → Bool) (part : List Mark) (m : Mark)
    → Grows raises lowers part (part ++ m ∷ []) m
grown raises lowers part m =
    record { raised = count_by-last raises part m; lowered = count_by-last lowers part m }

none : (raises lowers : Mark → Bool) (part : List Mark) → part ≡ [] → Ends raises lowers [] part
none raises lowers part e =
    rw e record { raised = refl; lowered = refl; was_raised = refl; was_lowered = refl }

-- with one more mark each ending part has that mark, or begins after it
with_one_more : (raises lowers : Mark → Bool) (from : ℕ) (xs : List Mark) (m : Mark)
    → Grows raises lowers (drop from xs) (drop from (xs ++ m ∷ [])) m
    ⊎ Ends raises lowers (drop from xs) (drop from (xs ++ m ∷ []))
with_one_more raises lowers zero xs m = inl (grown raises lowers xs m)
with_one_more raises lowers (suc from) [] m =
    inr (none raises lowers (drop from []) (drop-nil from))
with_one_more raises lowers (suc from) (x ∷ xs) m = with_one_more raises lowers from xs m

-- an ending part of the marks, with one more
whole_part : (raises lowers : Mark → Bool) (from : ℕ) (xs : List Mark) (m : Mark) → from ≤ length xs
    → Grows raises lowers (drop from xs) (drop from (xs ++ m ∷ [])) m
whole_part raises lowers zero xs m within = grown raises lowers xs m
whole_part raises lowers (suc from) [] m within = absurd (omega arith)
whole_part raises lowers (suc from) (x ∷ xs) m within =
    whole_part raises lowers from xs m (omega arith)

pub one-true : (p : Mark → Bool) (m : Mark) → p m ≡ true → one p m ≡ 1
one-true p m e = rw e refl

pub one-false : (p : Mark → Bool) (m : Mark) → p m ≡ false → one p m ≡ 0
one-false p m e = rw e refl

-- no marks, no surplus
pub IsSurplus-nil : (raises lowers : Mark → Bool) → IsSurplus raises lowers [] 0
IsSurplus-nil raises lowers =
    record { from = 0; reached = refl; largest = λ other. rw drop-nil (le_refl 0) }

-- no ending part of the marks has a larger surplus once another stands there
still_largest : (raises lowers : Mark → Bool) (xs : List Mark) (m : Mark) (n later : ℕ)
    → n + one raises m ≤ later + one lowers m → IsSurplus raises lowers xs n → (other : ℕ)
    → count_by raises (drop other (xs ++ m ∷ []))
    ≤ count_by lowers (drop other (xs ++ m ∷ [])) + later
still_largest raises lowers xs m n later bound h other =
    let before = h.largest other in
    elim
    (with_one_more raises lowers other xs m) [ inl grows ↦ omega arith | inr ends ↦ omega arith ]

-- a mark that does neither changes no surplus
pub IsSurplus-other : (raises lowers : Mark → Bool) (xs : List Mark) (m : Mark) (n : ℕ)
    → raises m ≡ false → lowers m ≡ false → IsSurplus raises lowers xs n
    → IsSurplus raises lowers (xs ++ m ∷ []) n
IsSurplus-other raises lowers xs m n quiet low h =
    let up = one-false raises m quiet in
    let down = one-false lowers m low in
    record {
      from = h.from;
      reached =
          let before = h.reached in
          elim (with_one_more raises lowers h.from xs m) [
            | inl grows ↦ omega arith
            | inr ends ↦ omega arith
          ];
      largest = still_largest raises lowers xs m n n (omega arith) h;
    }

-- a mark that raises makes the surplus larger by one
pub IsSurplus-raised : (raises lowers : Mark → Bool) (xs : List Mark) (m : Mark) (n : ℕ)
    → raises m ≡ true → lowers m ≡ false → IsSurplus raises lowers xs n
    → IsSurplus raises lowers (xs ++ m ∷ []) (n + 1)
IsSurplus-raised raises lowers xs m n high low h =
    let up = one-true raises m high in
    let down = one-false lowers m low in
    let before = h.reached in
    let largest = still_largest raises lowers xs m n (n + 1) (omega arith) h in
    elim (with_one_more raises lowers h.from xs m) [
      | inl grows ↦ record { from = h.from; reached = omega arith; largest = largest }
      | inr ends ↦
          let last = whole_part raises lowers (length xs) xs m (le_refl (length xs)) in
          let nothing = ap (count_by raises) (drop_all (length xs) xs (le_refl (length xs))) in
          let nothing_low = ap (count_by lowers) (drop_all (length xs) xs (le_refl (length xs))) in
          record {
            from = length xs;
            reached = omega (arith, last.raised, last.lowered);
            largest =
                largest;
          }
    ]

-- a mark that lowers makes it smaller by one, and leaves none where there was none
pub IsSurplus-lowered : (raises lowers : Mark → Bool) (xs : List Mark) (m : Mark) (n : ℕ)
    → raises m ≡ false → lowers m ≡ true → IsSurplus raises lowers xs n
    → IsSurplus raises lowers (xs ++ m ∷ []) (n - 1)
IsSurplus-lowered raises lowers xs m zero low high h =
    let up = one-false raises m low in
    let past = drop_all (length xs + 1) (xs ++ m ∷ []) (omega (arith, length-append xs (m ∷ []))) in
    record {
      from = length xs + 1;
      reached = rw past refl;
      largest = still_largest raises lowers xs m 0 0 (omega arith) h;
    }
IsSurplus-lowered raises lowers xs m (suc n) low high h =
    let up = one-false raises m low in
    let down = one-true lowers m high in
    let before = h.reached in
    let largest = still_largest raises lowers xs m (suc n) n (omega arith) h in
    rw sub-one (elim (with_one_more raises lowers h.from xs m) [
      | inl grows ↦ record { from = h.from; reached = omega arith; largest = largest }
      | inr ends ↦ absurd (omega arith)
    ])

-- some ending part is raised exactly where there is a surplus
pub EndsRaised-surplus : (raises lowers : Mark → Bool) (xs : List Mark) (n : ℕ)
    → IsSurplus raises lowers xs n → 0 < n → EndsRaised raises lowers xs
EndsRaised-surplus raises lowers xs n h above =
    record { from = h.from; more = let reached = h.reached in omega arith }

pub surplus-EndsRaised : (raises lowers : Mark → Bool) (xs : List Mark) (n : ℕ)
    → IsSurplus raises lowers xs n → EndsRaised raises lowers xs → 0 < n
surplus-EndsRaised raises lowers xs n h raised =
    let largest = h.largest raised.from in let more = raised.more in omega arith

-- there is one surplus
pub IsSurplus-one : (raises lowers : Mark → Bool) (xs : List Mark) (n m : ℕ)
    → IsSurplus raises lowers xs n → IsSurplus raises lowers xs m → n ≡ m
IsSurplus-one raises lowers xs n m h k =
    let first = h.reached in
    let second = k.reached in
    let bound = h.largest k.from in
    let limit = k.largest h.from in
    omega arith

count_by-drop : (p : Mark → Bool) (from : ℕ) (xs : List Mark)
    → count_by p (drop from xs) ≤ count_by p xs
count_by-drop p zero xs = le_refl (count_by p xs)
count_by-drop p (suc from) [] = le_refl 0
count_by-drop p (suc from) (x ∷ xs) =
    omega (arith, count_by-drop p from xs, sum_by-append (one p) (x ∷ []) xs)

-- it is at most the number of marks that raise
pub surplus-le : (raises lowers : Mark → Bool) (xs : List Mark) (n : ℕ)
    → IsSurplus raises lowers xs n → n ≤ count_by raises xs
surplus-le raises lowers xs n h =
    let reached = h.reached in omega (arith, count_by-drop raises h.from xs)
