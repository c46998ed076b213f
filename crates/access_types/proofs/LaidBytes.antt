-- The bytes of a value are laid down one by one, and so read back one by one.
use Rattle.std.proofs.Common.{◌≡◌, ◌+◌, ◌*◌, ◌/◌, ◌%◌, ◌^◌, ◌<◌, ◌≤◌, ◌⊎◌, ℕ, zero, suc, inl}
use Rattle.std.proofs.Common.{inr, refl, sym, arith}
use Rattle.std.proofs.Math.Arith.{mod-mul}
use Rattle.std.proofs.Math.Nat.{div-div-eq-div-mul, mod-one, pow-suc}
use Rattle.access_types.specs.History.{AreApart, Memory, byte_of, laid, value_from}
use Rattle.access_types.specs.declared.history.Bytes.{Bytes}

-- what was laid down at an offset of the bytes
laid-inside : (memory : Memory) (bytes : Bytes) (value offset : ℕ) → offset < bytes.size
    → laid memory bytes value (bytes.addr + offset) ≡ byte_of value offset
laid-inside memory bytes value offset within = grind (arith)

-- what stands at an address that is none of the bytes
laid-outside : (memory : Memory) (bytes : Bytes) (value address : ℕ)
    → (address < bytes.addr) ⊎ (bytes.addr + bytes.size ≤ address)
    → laid memory bytes value address ≡ memory address
laid-outside memory bytes value address outside = grind (arith)

power-positive : (size : ℕ) → 0 < 256 ^ size
power-positive zero = omega arith
power-positive (suc size) = let before = power-positive size in omega arith

-- a number is its lowest byte and 256 times the rest
lowest_and_rest : (number size : ℕ)
    → number % 256 + 256 * (number / 256 % 256 ^ size) ≡ number % 256 ^ suc size
lowest_and_rest number size =
    let split : number % 256 ^ suc size ≡ (number / 256 % 256 ^ size) * 256 + number % 256 =
    rw pow-suc (mod-mul number {m = 256 ^ size} {c = 256} (power-positive size) (omega arith)) in
    omega arith

-- the bytes from an offset on, so many of them, are those of the value
rest-read_back : (memory : Memory) (bytes : Bytes) (value offset size : ℕ)
    → offset + size ≤ bytes.size
    → value_from (laid memory bytes value) (bytes.addr + offset) size
    ≡ value / 256 ^ offset % 256 ^ size
rest-read_back memory bytes value offset zero within = sym (mod-one (value / 256 ^ offset))
rest-read_back memory bytes value offset (suc size) within =
    let here = laid-inside memory bytes value offset (omega arith) in
    let above = rest-read_back memory bytes value (suc offset) size (omega arith) in
    let next : value / 256 ^ suc offset ≡ value / 256 ^ offset / 256 =
    rw pow-suc (sym (div-div-eq-div-mul value (256 ^ offset) 256)) in
    let address : bytes.addr + offset + 1 ≡ bytes.addr + suc offset = omega arith in
    rw (here, address, above, next) (lowest_and_rest (value / 256 ^ offset) size)

-- what was laid down is read back
pub laid-read_back : (memory : Memory) (bytes : Bytes) (value : ℕ)
    → value_from (laid memory bytes value) bytes.addr bytes.size ≡ value % 256 ^ bytes.size
laid-read_back memory bytes value =
    let read = rest-read_back memory bytes value 0 bytes.size (omega arith) in grind (arith)

-- where two memories have the same bytes, they have the same value
value_from-same : (memory other : Memory) (address size : ℕ)
    → ((offset : ℕ) → offset < size → memory (address + offset) ≡ other (address + offset))
    → value_from memory address size ≡ value_from other address size
value_from-same memory other address zero same = refl
value_from-same memory other address (suc size) same =
    let at_first : address + 0 ≡ address = omega arith in
    let here : memory address ≡ other address = rw at_first at (same 0 (omega arith)) in
    let above = value_from-same memory other (address + 1) size
    (λ offset within. let is : address + 1 + offset ≡ address + suc offset = omega arith in
    rw is (same (suc offset) (omega arith))) in
    rw (here, above) refl

-- a value that is laid down leaves other bytes as they are
pub laid-apart : (memory : Memory) (bytes other : Bytes) (value : ℕ) → AreApart bytes other
    → value_from (laid memory bytes value) other.addr other.size
    ≡ value_from memory other.addr other.size
laid-apart memory bytes other value (inl before) =
    value_from-same (laid memory bytes value) memory other.addr other.size
    (λ offset within. laid-outside memory bytes value (other.addr + offset) (inr (omega arith)))
laid-apart memory bytes other value (inr after) =
    value_from-same (laid memory bytes value) memory other.addr other.size
    (λ offset within. laid-outside memory bytes value (other.addr + offset) (inl (omega arith)))
