-- Numbers in 16 hexadecimal digits, both ways.
use Rattle.std.proofs.Common.{◌≡◌, ◌∙◌, ◌-◌, ◌+◌, ◌*◌, ◌++◌, ◌/◌, ◌%◌, ◌^◌, ◌<◌, ◌≤◌, ◌&&◌}
use Rattle.std.proofs.Common.{◌∷◌, ℕ, zero, suc, List, [], Bool, true, false, Option, Some, None, ap, append-nil, append_assoc, arith}
use Rattle.std.proofs.Common.{drop, length, length-append, ltb-true, ltb-false, nat_lt, refl, length-take-le, replicate, subst, sym, take}
use Rattle.std.proofs.Math.Nat.{sub-zero}
use Rattle.std.proofs.lemmas.Bool.{ne_eqb}
use Rattle.std.proofs.lemmas.Bool.Decides.{nat_tests}
use Rattle.std.proofs.lemmas.List.{drop_at, take_at, take-append-drop}
use Rattle.std.specs.Prelude.{if◌then◌else◌, ◌==◌, codes}
use Rattle.std.specs.Fmt.{digit_glyph, digits, digits_onto, char_count, padded_integral}
use Rattle.access_types.specs.ReportText.{hex}
use Rattle.report_text.specs.Line.{hex_field}
use Rattle.trace_replay.specs.trace_lines.FieldReaders.{◌>>=◌, hex_all, hex_at, hex_behind, hex_value, past}
use Rattle.trace_replay.proofs.trace_lines.Digits.{hex_decimal, hex_letter}
use Rattle.trace_replay.proofs.trace_lines.Words.{bind_is, bind_some, past_is, past_there, same_given}

-- the last k digits of n at most, before those that stand
unfoldable onto : ℕ → ℕ → List ℕ → List ℕ
onto k n after = digits_onto k 16 false n after

onto_all : (n : ℕ) → onto 64 n [] ≡ digits 16 false n
unfolding onto digits
onto_all n = refl

onto_step : (k n : ℕ) (after : List ℕ) → 16 ≤ n
    → onto (suc k) n after ≡ onto k (n / 16) (digit_glyph false (n % 16) ∷ after)
unfolding onto
onto_step k n after big =
    let e : (n / 16 == 0) ≡ false = ne_eqb (n / 16) 0 (λ h. omega arith) in
    ap (λ b. if b then digit_glyph false (n % 16) ∷ after
    else digits_onto k 16 false (n / 16) (digit_glyph false (n % 16) ∷ after)) e

onto_last : (k n : ℕ) (after : List ℕ) → n < 16
    → onto (suc k) n after ≡ digit_glyph false n ∷ after
unfolding onto
onto_last k n after small =
    let e : n / 16 ≡ 0 = omega arith in
    let same : n % 16 ≡ n = omega arith in
    ap (λ q. if q == 0 then digit_glyph false (n % 16) ∷ after
    else digits_onto k 16 false q (digit_glyph false (n % 16) ∷ after)) e
    ∙ ap (λ m. digit_glyph false m ∷ after) same

sixteenth : (k n : ℕ) → n < 16 ^ suc k → n / 16 < 16 ^ k
sixteenth k n h = omega (arith, h)

hex_is : (width n : ℕ) → hex width n ≡ replicate (width - length (digits 16 false n)) 48 ++ digits 16 false n
unfolding hex padded_integral char_count
hex_is width n = simp (sub-zero, append-nil)

-- the last k digits
unfoldable glyphs : ℕ → ℕ → List ℕ
glyphs zero n = []
glyphs (suc k) n = glyphs k (n / 16) ++ digit_glyph false (n % 16) ∷ []

no_glyphs : glyphs 0 0 ≡ []
unfolding glyphs
no_glyphs = refl

length-glyphs : (k n : ℕ) → length (glyphs k n) ≡ k
unfolding glyphs
length-glyphs zero n = refl
length-glyphs (suc k) n = omega (arith, length-append (glyphs k (n / 16)) (digit_glyph false (n % 16) ∷ []), length-glyphs k (n / 16))

zeros_push : (z k : ℕ) → replicate k z ++ z ∷ [] ≡ z ∷ replicate k z
zeros_push z zero = refl
zeros_push z (suc k) = ap (λ xs. z ∷ xs) (zeros_push z k)

zeros : (k : ℕ) → glyphs k 0 ≡ replicate k 48
unfolding glyphs
zeros zero = refl
zeros (suc k) = ap (λ xs. xs ++ 48 ∷ []) (zeros k) ∙ zeros_push 48 k

record Padded (j k n : ℕ) (after : List ℕ) : Type 0 where
  written : List ℕ
  is : onto j n after ≡ written ++ after
  short : length written ≤ suc k
  padded : replicate (suc k - length written) 48 ++ written ≡ glyphs (suc k) n

padded_last : (j k n : ℕ) (after : List ℕ) → n < 16 → Padded (suc j) k n after
unfolding glyphs
padded_last j k n after small =
    let e : n / 16 ≡ 0 = omega arith in
    let same : n % 16 ≡ n = omega arith in
    let count : suc k - 1 ≡ k = omega arith in
    record {
      written = digit_glyph false n ∷ [];
      is = onto_last j n after small;
      short = omega arith;
      padded = ap (λ m. replicate m 48 ++ digit_glyph false n ∷ []) count
          ∙ ap (λ xs. xs ++ digit_glyph false n ∷ []) (sym (zeros k))
          ∙ sym (ap (λ q. glyphs k q ++ digit_glyph false (n % 16) ∷ []) e ∙ ap (λ r. glyphs k 0 ++ digit_glyph false r ∷ []) same);
    }

padded_more : (j k n : ℕ) (after : List ℕ) → 16 ≤ n → Padded j k (n / 16) (digit_glyph false (n % 16) ∷ after)
    → Padded (suc j) (suc k) n after
unfolding glyphs
padded_more j k n after big p =
    let size = length-append p.written (digit_glyph false (n % 16) ∷ []) in
    let count : suc (suc k) - length (p.written ++ digit_glyph false (n % 16) ∷ []) ≡ suc k - length p.written = omega arith in
    record {
      written = p.written ++ digit_glyph false (n % 16) ∷ [];
      is = onto_step j n after big ∙ p.is ∙ sym (append_assoc p.written (digit_glyph false (n % 16) ∷ []) after);
      short = omega (arith, p.short);
      padded = ap (λ m. replicate m 48 ++ (p.written ++ digit_glyph false (n % 16) ∷ [])) count
          ∙ sym (append_assoc (replicate (suc k - length p.written) 48) p.written (digit_glyph false (n % 16) ∷ []))
          ∙ ap (λ xs. xs ++ digit_glyph false (n % 16) ∷ []) p.padded;
    }

padded : (j k n : ℕ) (after : List ℕ) → n < 16 ^ suc k → k < j → Padded j k n after
padded zero k n after small fuel = absurd (omega arith)
padded (suc j) zero n after small fuel = padded_last j zero n after (omega arith)
padded (suc j) (suc k) n after small fuel =
    by (nat_lt n 16) refl (λ big. padded j k (n / 16) (digit_glyph false (n % 16) ∷ after) (sixteenth (suc k) n small) (omega arith))
  where
    by : (t : Bool) → nat_lt n 16 ≡ t → (16 ≤ n → Padded j k (n / 16) (digit_glyph false (n % 16) ∷ after)) → Padded (suc j) (suc k) n after
    by true e more = padded_last j (suc k) n after (ltb-true n 16 e)
    by false e more = let big = ltb-false n 16 e in padded_more j k n after big (more big)

hex_glyphs : (n : ℕ) → n < 2 ^ 64 → hex 16 n ≡ glyphs 16 n
hex_glyphs n small =
    let p = padded 64 15 n [] small (omega arith) in
    let e : digits 16 false n ≡ p.written = sym (onto_all n) ∙ p.is ∙ append-nil p.written in
    hex_is 16 n ∙ ap (λ ds. replicate (16 - length ds) 48 ++ ds) e ∙ p.padded

pub length-hex : (n : ℕ) → n < 2 ^ 64 → length (hex 16 n) ≡ 16
length-hex n small = ap length (hex_glyphs n small) ∙ length-glyphs 16 n

-- ---- the value of digits

glyph_value : (d : ℕ) → d < 16 → hex_value (digit_glyph false d) ≡ Some d
glyph_value d small = by (nat_lt d 10) refl
  where
    by : (t : Bool) → nat_lt d 10 ≡ t → hex_value (if t then 48 + d else 87 + d) ≡ Some d
    by true e =
        let below = ltb-true d 10 e in
        let same : 48 + d - 48 ≡ d = omega arith in
        sym (hex_decimal (48 + d) (omega arith) (omega arith)) ∙ ap (λ m. Some m) same
    by false e =
        let above = ltb-false d 10 e in
        let same : 87 + d - 97 + 10 ≡ d = omega arith in
        sym (hex_letter (87 + d) (omega arith) (omega arith)) ∙ ap (λ m. Some m) same

glyph_is : (b d : ℕ) → hex_value b ≡ Some d → (b ≡ digit_glyph false d) × (d < 16)
unfolding hex_value
glyph_is b d e = by (nat_lt 47 b && nat_lt b 58) refl (nat_lt 96 b && nat_lt b 103) refl e
  where
    by : (t : Bool) → (nat_lt 47 b && nat_lt b 58) ≡ t → (u : Bool) → (nat_lt 96 b && nat_lt b 103) ≡ u
        → (if t then Some (b - 48) else if u then Some (b - 87) else None) ≡ Some d → (b ≡ digit_glyph false d) × (d < 16)
    by true p u q e =
        let same : b - 48 ≡ d = same_given (b - 48) d e in
        let range : (48 ≤ b) × (b ≤ 57) = (grind (arith, nat_tests), grind (arith, nat_tests)) in
        (grind (arith, nat_tests), omega arith)
    by false p true q e =
        let same : b - 87 ≡ d = same_given (b - 87) d e in
        let range : (97 ≤ b) × (b ≤ 102) = (grind (arith, nat_tests), grind (arith, nat_tests)) in
        (grind (arith, nat_tests), omega arith)
    by false p false q e = absurd cc

hex_all_push : (value : ℕ) (xs : List ℕ) (b : ℕ)
    → hex_all value (xs ++ b ∷ []) ≡ (hex_all value xs >>= λ w. hex_value b >>= λ d. Some (w * 16 + d))
unfolding hex_all
hex_all_push value [] b = refl
hex_all_push value (x ∷ xs) b = by (hex_value x) (λ d. hex_all_push (value * 16 + d) xs b)
  where
    by : (o : Option ℕ) → ((d : ℕ) → hex_all (value * 16 + d) (xs ++ b ∷ []) ≡ (hex_all (value * 16 + d) xs >>= λ w. hex_value b >>= λ d. Some (w * 16 + d)))
        → (o >>= λ d. hex_all (value * 16 + d) (xs ++ b ∷ []))
        ≡ ((o >>= λ d. hex_all (value * 16 + d) xs) >>= λ w. hex_value b >>= λ d. Some (w * 16 + d))
    by None more = refl
    by (Some d) more = more d

hex_all_glyphs : (k n : ℕ) → n < 16 ^ k → hex_all 0 (glyphs k n) ≡ Some n
unfolding glyphs hex_all
hex_all_glyphs zero n small = let e : 0 ≡ n = omega arith in ap (λ m. Some m) e
hex_all_glyphs (suc k) n small =
    let digit : n % 16 < 16 = omega arith in
    let whole : n / 16 * 16 + n % 16 ≡ n = omega arith in
    hex_all_push 0 (glyphs k (n / 16)) (digit_glyph false (n % 16))
    ∙ bind_is (hex_all 0 (glyphs k (n / 16))) (n / 16) (λ w. hex_value (digit_glyph false (n % 16)) >>= λ d. Some (w * 16 + d)) (hex_all_glyphs k (n / 16) (sixteenth k n small))
    ∙ bind_is (hex_value (digit_glyph false (n % 16))) (n % 16) (λ d. Some (n / 16 * 16 + d)) (glyph_value (n % 16) digit)
    ∙ ap (λ m. Some m) whole

-- the digits behind those of a number
all_spelled : (i w v : ℕ) (front rest : List ℕ) → glyphs i w ≡ front → w < 16 ^ i → hex_all w rest ≡ Some v
    → (v < 16 ^ (i + length rest)) × (glyphs (i + length rest) v ≡ front ++ rest)
unfolding hex_all glyphs
all_spelled i w v front [] spelled small e =
    let same : w ≡ v = same_given w v e in
    let count : i + 0 ≡ i = omega arith in
    rw (count, ← same) (small, spelled ∙ sym (append-nil front))
all_spelled i w v front (b ∷ rest) spelled small e =
    let s = bind_some (hex_value b) (λ d. hex_all (w * 16 + d) rest) v e in
    let d = s.0 in
    let is = glyph_is b d s.1 in
    let below = is.1 in
    let quotient : (w * 16 + d) / 16 ≡ w = omega arith in
    let remainder : (w * 16 + d) % 16 ≡ d = omega arith in
    let grown : w * 16 + d < 16 ^ suc i = omega arith in
    let one : glyphs (suc i) (w * 16 + d) ≡ front ++ b ∷ [] =
    ap (λ q. glyphs i q ++ digit_glyph false ((w * 16 + d) % 16) ∷ []) quotient
    ∙ ap (λ r. glyphs i w ++ digit_glyph false r ∷ []) remainder
    ∙ ap (λ c. glyphs i w ++ c ∷ []) (sym is.0) ∙ ap (λ xs. xs ++ b ∷ []) spelled in
    let more = all_spelled (suc i) (w * 16 + d) v (front ++ b ∷ []) rest one grown s.2 in
    let count : suc i + length rest ≡ i + suc (length rest) = omega arith in (
      subst (λ m. v < 16 ^ m) count more.0,
      subst (λ m. glyphs m v ≡ front ++ b ∷ rest) count (more.1 ∙ append_assoc front (b ∷ []) rest),
    )

-- ---- the field

pub hex_there : (n : ℕ) (rest : List ℕ) → n < 2 ^ 64 → hex_at (hex_field n ++ rest) ≡ Some (n, rest)
unfolding hex_at
hex_there n rest small =
    let is = hex_glyphs n small in
    let size : length (hex 16 n) ≡ 16 = ap length is ∙ length-glyphs 16 n in
    let long : nat_lt (length (hex 16 n ++ rest)) 16 ≡ false = rw (length-append, size) (grind (arith, nat_tests)) in
    let value : hex_all 0 (hex 16 n) ≡ Some n = ap (hex_all 0) is ∙ hex_all_glyphs 16 n small in
    bind_is (past (codes "0x") (hex_field n ++ rest)) (hex 16 n ++ rest) hex_behind (past_there (codes "0x") (hex 16 n ++ rest))
    ∙ ap (λ t. if t then None else (hex_all 0 (take 16 (hex 16 n ++ rest)) >>= λ v. Some (v, drop 16 (hex 16 n ++ rest)))) long
    ∙ ap (λ xs. hex_all 0 xs >>= λ v. Some (v, drop 16 (hex 16 n ++ rest))) (take_at (hex 16 n) rest 16 size)
    ∙ ap (λ xs. hex_all 0 (hex 16 n) >>= λ v. Some (v, xs)) (drop_at (hex 16 n) rest 16 size)
    ∙ bind_is (hex_all 0 (hex 16 n)) n (λ v. Some (v, rest)) value

hex_read : (t : Bool) (rest : List ℕ) (found : ℕ × List ℕ) → nat_lt (length rest) 16 ≡ t
    → (if t then None else (hex_all 0 (take 16 rest) >>= λ v. Some (v, drop 16 rest))) ≡ Some found
    → (rest ≡ hex 16 found.0 ++ found.1) × (found.0 < 2 ^ 64)
hex_read true rest found short e = absurd cc
hex_read false rest found long e =
    let within : 16 ≤ length rest = ltb-false (length rest) 16 long in
    let b = bind_some (hex_all 0 (take 16 rest)) (λ v. Some (v, drop 16 rest)) found e in
    let size : 0 + length (take 16 rest) ≡ 16 = omega (arith, length-take-le 16 rest within) in
    let one : 0 < 1 = omega arith in
    let all = all_spelled 0 0 b.0 [] (take 16 rest) no_glyphs one b.1 in
    let small : b.0 < 2 ^ 64 = subst (λ m. b.0 < 16 ^ m) size all.0 in
    let spelled : glyphs 16 b.0 ≡ take 16 rest = subst (λ m. glyphs m b.0 ≡ take 16 rest) size all.1 in
    let whole : rest ≡ hex 16 b.0 ++ drop 16 rest =
    sym (take-append-drop 16 rest) ∙ ap (λ xs. xs ++ drop 16 rest) (sym spelled ∙ sym (hex_glyphs b.0 small)) in
    let same : (b.0, drop 16 rest) ≡ found = same_given (b.0, drop 16 rest) found b.2 in
    subst (λ (f : ℕ × List ℕ). (rest ≡ hex 16 f.0 ++ f.1) × (f.0 < 2 ^ 64)) same (whole, small)

pub hex_spelled : (bytes : List ℕ) (found : ℕ × List ℕ) → hex_at bytes ≡ Some found
    → (bytes ≡ hex_field found.0 ++ found.1) × (found.0 < 2 ^ 64)
unfolding hex_at
hex_spelled bytes found e =
    let b = bind_some (past (codes "0x") bytes) hex_behind found e in
    let r = hex_read (nat_lt (length b.0) 16) b.0 found refl b.2 in
    (past_is (codes "0x") bytes b.0 b.1 ∙ ap (λ xs. codes "0x" ++ xs) r.0, r.1)
