-- The bytes of a word, and of one with a value in the place of some of them.
use Rattle.std.proofs.Common.{◌≡◌, ◌∙◌, ◌+◌, ◌-◌, ◌*◌, ◌/◌, ◌%◌, ◌^◌, ◌<◌, ℕ, zero, suc, ap, arith, subst, sym}
use Rattle.std.proofs.Math.Nat.{div-div-eq-div-mul, mod-lt, mod-one, mul-add-div_right, pow-suc}
use Rattle.std.proofs.Math.Arith.{mod-mul}
use Rattle.std.proofs.lemmas.Nat.{div-add-mod', div-mul-add, pow-add}
use Rattle.access_types.specs.History.{byte_of, value_from}

pub range_above : (size : ℕ) → 0 < 256 ^ size
range_above zero = omega arith
range_above (suc size) = let before = range_above size in omega arith

low_byte : (k m : ℕ) → (k * 256 + m) % 256 ≡ m % 256
low_byte k m = omega arith

-- a byte below is that of the lower part
pub byte_below : (high low first offset : ℕ) → offset < first → byte_of (high * 256 ^ first + low) offset ≡ byte_of low offset
byte_below high low first offset below =
    let up : ℕ = first - offset - 1 in
    let is_first : suc up + offset ≡ first = omega (arith, below) in
    let parts : 256 ^ first ≡ 256 ^ up * 256 * 256 ^ offset =
    ap (λ n. 256 ^ n) (sym is_first) ∙ (pow-add 256 (suc up) offset ∙ ap (λ n. n * 256 ^ offset) (pow-suc 256 up)) in
    let whole : high * 256 ^ first + low ≡ (high * 256 ^ up * 256) * 256 ^ offset + low = rw parts (omega arith) in
    ap (λ n. n / 256 ^ offset % 256) whole
    ∙ (ap (λ n. n % 256) (mul-add-div_right (range_above offset) (high * 256 ^ up * 256) low)
    ∙ low_byte (high * 256 ^ up) (low / 256 ^ offset))

-- a byte above is that of the higher part
pub byte_above : (high low first offset : ℕ) → low < 256 ^ first → byte_of (high * 256 ^ first + low) (first + offset) ≡ byte_of high offset
byte_above high low first offset below =
    ap (λ n. (high * 256 ^ first + low) / n % 256) (pow-add 256 first offset)
    ∙ (ap (λ n. n % 256) (sym (div-div-eq-div-mul (high * 256 ^ first + low) (256 ^ first) (256 ^ offset)))
    ∙ ap (λ n. n / 256 ^ offset % 256) (div-mul-add high (256 ^ first) low below))

-- the bytes in a place are replaced, and the others stay
placed : (word h m value B C q low : ℕ) → word ≡ q * B + low → q ≡ h * C + m → word - m * B + value * B ≡ (h * C + value) * B + low
placed word h m value B C q low is parts =
    let whole : word ≡ (h * C + m) * B + low = is ∙ ap (λ n. n * B + low) parts in
    omega (arith, whole)

abbrev pub with_bytes : ℕ → ℕ → ℕ → ℕ → ℕ
with_bytes word value first size = word - word / 256 ^ first % 256 ^ size * 256 ^ first + value * 256 ^ first

module _ (word value first size : ℕ) where
  abbrev q : ℕ
  q = word / 256 ^ first

  abbrev high : ℕ
  high = q / 256 ^ size

  new_is : with_bytes word value first size ≡ (high * 256 ^ size + value) * 256 ^ first + word % 256 ^ first
  new_is = placed word high (q % 256 ^ size) value (256 ^ first) (256 ^ size) q (word % 256 ^ first)
      (sym (div-add-mod' word (256 ^ first))) (sym (div-add-mod' q (256 ^ size)))

  old_is : word ≡ q * 256 ^ first + word % 256 ^ first
  old_is = sym (div-add-mod' word (256 ^ first))

  low_fits : word % 256 ^ first < 256 ^ first
  low_fits = mod-lt word (range_above first)

  pub stays_below : (offset : ℕ) → offset < first → byte_of (with_bytes word value first size) offset ≡ byte_of word offset
  stays_below offset below =
      ap (λ n. byte_of n offset) new_is
      ∙ (byte_below (high * 256 ^ size + value) (word % 256 ^ first) first offset below
      ∙ (sym (byte_below q (word % 256 ^ first) first offset below) ∙ ap (λ n. byte_of n offset) (sym old_is)))

  pub placed_there : (offset : ℕ) → offset < size → byte_of (with_bytes word value first size) (first + offset) ≡ byte_of value offset
  placed_there offset below =
      ap (λ n. byte_of n (first + offset)) new_is
      ∙ (byte_above (high * 256 ^ size + value) (word % 256 ^ first) first offset low_fits
      ∙ byte_below high value size offset below)

  pub stays_above : (offset : ℕ) → value < 256 ^ size → byte_of (with_bytes word value first size) (first + (size + offset)) ≡ byte_of word (first + (size + offset))
  stays_above offset fits =
      ap (λ n. byte_of n (first + (size + offset))) new_is
      ∙ (byte_above (high * 256 ^ size + value) (word % 256 ^ first) first (size + offset) low_fits
      ∙ (byte_above high value size offset fits
      ∙ (sym (byte_above high (q % 256 ^ size) size offset (mod-lt q (range_above size)))
      ∙ (ap (λ n. byte_of n (size + offset)) (div-add-mod' q (256 ^ size))
      ∙ (sym (byte_above q (word % 256 ^ first) first (size + offset) low_fits)
      ∙ ap (λ n. byte_of n (first + (size + offset))) (sym old_is))))))

-- a number is its lowest byte and 256 times the rest
lowest_and_rest : (number size : ℕ) → number % 256 + 256 * (number / 256 % 256 ^ size) ≡ number % 256 ^ suc size
lowest_and_rest number size =
    let split : number % 256 ^ suc size ≡ (number / 256 % 256 ^ size) * 256 + number % 256 =
    rw pow-suc (mod-mul number {m = 256 ^ size} {c = 256} (range_above size) (omega arith)) in
    omega arith

-- where memory has the bytes of a word, it has their value
pub value_of_bytes : (memory : ℕ → ℕ) (word size addr first : ℕ)
    → ((offset : ℕ) → offset < size → memory (addr + offset) ≡ byte_of word (first + offset))
    → value_from memory addr size ≡ word / 256 ^ first % 256 ^ size
value_of_bytes memory word zero addr first same = sym (mod-one (word / 256 ^ first))
value_of_bytes memory word (suc size) addr first same =
    let here : memory addr ≡ word / 256 ^ first % 256 =
    subst (λ n. memory n ≡ byte_of word first) (omega arith) (subst (λ n. memory (addr + 0) ≡ byte_of word n) (omega arith) (same 0 (omega arith))) in
    let above : value_from memory (addr + 1) size ≡ word / 256 ^ (first + 1) % 256 ^ size =
    value_of_bytes memory word size (addr + 1) (first + 1)
    (λ offset below. let a : addr + 1 + offset ≡ addr + suc offset = omega arith in
    let f : first + 1 + offset ≡ first + suc offset = omega arith in
    ap memory a ∙ (same (suc offset) (omega (arith, below)) ∙ ap (λ n. byte_of word n) (sym f))) in
    let next : word / 256 ^ (first + 1) ≡ word / 256 ^ first / 256 =
    ap (λ n. word / n) (pow-add 256 first 1) ∙ sym (div-div-eq-div-mul word (256 ^ first) 256) in
    rw (here, above, next) (lowest_and_rest (word / 256 ^ first) size)

-- the bytes of a value are those from which it is
pub byte_of_value : (memory : ℕ → ℕ) → ((addr : ℕ) → memory addr < 256) → (size addr offset : ℕ) → offset < size
    → byte_of (value_from memory addr size) offset ≡ memory (addr + offset)
byte_of_value memory bytes zero addr offset below = absurd (omega (arith, below))
byte_of_value memory bytes (suc size) addr zero below =
    let b = bytes addr in
    let rest : ℕ = value_from memory (addr + 1) size in
    let low : (memory addr + 256 * rest) / 1 % 256 ≡ memory addr = omega (arith, b) in
    low ∙ ap memory (omega arith)
byte_of_value memory bytes (suc size) addr (suc offset) below =
    let b = bytes addr in
    let rest : ℕ = value_from memory (addr + 1) size in
    let up : (memory addr + 256 * rest) / 256 ≡ rest = omega (arith, b) in
    let parts : 256 ^ suc offset ≡ 256 * 256 ^ offset = pow-suc 256 offset ∙ omega arith in
    ap (λ n. (memory addr + 256 * rest) / n % 256) parts
    ∙ (ap (λ n. n % 256) (sym (div-div-eq-div-mul (memory addr + 256 * rest) 256 (256 ^ offset)))
    ∙ (ap (λ n. n / 256 ^ offset % 256) up
    ∙ (byte_of_value memory bytes size (addr + 1) offset (omega (arith, below)) ∙ ap memory (omega arith))))
