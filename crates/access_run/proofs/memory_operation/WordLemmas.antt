-- A value in the place of some bytes of a word leaves a word.
use Rattle.std.proofs.Common.{◌≡◌, ◌∙◌, ◌+◌, ◌-◌, ◌*◌, ◌/◌, ◌%◌, ◌^◌, ◌<◌, ◌≤◌, ℕ, zero, suc, ap, arith, lit<, refl, subst, sym}
use Rattle.std.proofs.Math.Nat.{div-add-mod, div-lt_iff_lt-mul, mod-eq_of_lt, mod-lt, mul-le-mul_left, mul-le-mul_right, one-mul, pow-suc}
use Rattle.std.proofs.lemmas.Nat.{mod-pow-add, pow-add, pow_below, pow_pos}

-- so many bytes have so many bits
pub range_is : (size : ℕ) → 256 ^ size ≡ 2 ^ (8 * size)
range_is zero = refl
range_is (suc size) =
    let more : 8 * size + 8 ≡ 8 * suc size = omega arith in
    pow-suc 256 size ∙ (ap (λ n. n * 256) (range_is size)
    ∙ (sym (pow-add 2 (8 * size) 8) ∙ ap (λ n. 2 ^ n) more))

-- a place in a word
pub place_is : (place : ℕ) → place < 64 → 1 * 2 ^ place % 2 ^ 64 ≡ 2 ^ place
place_is place below =
    let small : 2 ^ place < 2 ^ 64 = pow_below place 64 below in
    ap (λ n. n % 2 ^ 64) (one-mul (2 ^ place)) ∙ mod-eq_of_lt small

-- what is cut to some bytes fits their bits
pub cut_fits : (size value : ℕ) → value % 256 ^ size < 2 ^ (8 * size)
cut_fits size value =
    let above : 0 < 2 ^ (8 * size) = pow_pos (8 * size) in
    rw (range_is size) (mod-lt value above)

-- the word is `whole * high` and the bits below; these have a place, and `rest` below that
placed_below : (word whole high bits_held value bits place rest times limit : ℕ)
    → word ≡ whole * high + (bits_held * place + rest) → whole ≡ bits * place → rest < place
    → value < bits → high < times → limit ≡ times * whole
    → word - bits_held * place + value * place < limit
placed_below word whole high bits_held value bits place rest times limit split parts low held above all =
    let up : (value + 1) * place ≤ bits * place = mul-le-mul_right place (let one_more : value + 1 ≤ bits = omega arith in one_more) in
    let over : whole * (high + 1) ≤ whole * times = mul-le-mul_left whole (let one_more : high + 1 ≤ times = omega arith in one_more) in
    omega (arith, up, over)

-- a word with a value of some bits in the place of so many of its own, from a place on
pub placed_fits : (word value bits place : ℕ) → word < 2 ^ 64 → value < 2 ^ bits
    → place + bits ≤ 64
    → word - word / 2 ^ place % 2 ^ bits * 2 ^ place + value * 2 ^ place < 2 ^ 64
placed_fits word value bits place below held inside =
    let some : 0 < 2 ^ (bits + place) = pow_pos (bits + place) in
    let is_64 : 64 - (bits + place) + (bits + place) ≡ 64 = omega arith in
    let all : 2 ^ 64 ≡ 2 ^ (64 - (bits + place)) * 2 ^ (bits + place) =
    subst (λ n. 2 ^ n ≡ 2 ^ (64 - (bits + place)) * 2 ^ (bits + place)) is_64
    (pow-add 2 (64 - (bits + place)) (bits + place)) in
    let within : word < 2 ^ (64 - (bits + place)) * 2 ^ (bits + place) =
    subst (λ n. word < n) all below in
    let split : 2 ^ (bits + place) * (word / 2 ^ (bits + place)) + word % 2 ^ (bits + place) ≡ word =
    div-add-mod word (2 ^ (bits + place)) in
    placed_below word (2 ^ (bits + place)) (word / 2 ^ (bits + place)) (word / 2 ^ place % 2 ^ bits)
    value (2 ^ bits) (2 ^ place) (word % 2 ^ place) (2 ^ (64 - (bits + place))) (2 ^ 64)
    (sym split ∙ ap (λ n. 2 ^ (bits + place) * (word / 2 ^ (bits + place)) + n) (mod-pow-add word bits place))
    (pow-add 2 bits place) (mod-lt word (pow_pos place)) held
    ((div-lt_iff_lt-mul some).1 within) all

-- the value alone
pub place_fits : (value bits place : ℕ) → value < 2 ^ bits → place + bits ≤ 64
    → value * 2 ^ place < 2 ^ 64
place_fits value bits place held inside =
    let none : 0 - 0 / 2 ^ place % 2 ^ bits * 2 ^ place + value * 2 ^ place < 2 ^ 64 =
    placed_fits 0 value bits place (lit< tt) held inside in
    omega (arith, none)
