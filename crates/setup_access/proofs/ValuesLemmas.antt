-- Where an access's value lies in its cell.
use Rattle.std.proofs.Common.{◌≡◌, ◌+◌, ◌*◌, ◌/◌, ◌%◌, ◌^◌, ◌<◌, ◌≤◌, ℕ, List, Some, true, get_or, arith, position, refl, sym, subst}
use Rattle.std.proofs.Math.Nat.{div-eq_of_lt, div-le_self, mod-eq_of_lt}
use Rattle.std.proofs.Math.Pow.{pow_mono, pow_pos}
use Rattle.std.proofs.lemmas.Bool.Decides.{nat_tests}
use Rattle.std.proofs.lemmas.List.Quantifiers.{position-Some}
use Rattle.access_types.specs.Access.{Access}
use Rattle.setup_access.specs.Values.{lies_in}

-- the range of an access that lies in a cell
pub lies : (a : Access) (cell : ℕ) → lies_in a cell ≡ true → (cell ≤ a.addr) × (a.addr + a.size ≤ cell + 8)
lies a cell h = grind (arith, nat_tests)

-- the cell that was found begins at the access's first byte or before, and less than eight bytes before
pub found_in_cell : (a : Access) (cells : List ℕ) (cell base : ℕ) → position (lies_in a) cells ≡ Some cell → base ≡ get_or cells cell base
    → (base ≤ a.addr) × (a.addr + a.size ≤ base + 8)
found_in_cell a cells cell base found is =
    let inside : lies_in a base ≡ true = subst (λ b. lies_in a b ≡ true) (sym is) (position-Some (lies_in a) cells cell base found).1 in
    lies a base inside

-- a value of 64 bits or fewer has no more bytes than eight
pub whole_value : (word k size : ℕ) → word < 2 ^ 64 → 8 ≤ size → word / 2 ^ k % 2 ^ (8 * size) ≡ word / 2 ^ k
whole_value word k size below eight =
    let bits : 64 ≤ 8 * size = omega arith in
    let wide : 2 ^ 64 ≤ 2 ^ (8 * size) = pow_mono {i = 64} {j = 8 * size} bits in
    let small : word / 2 ^ k ≤ word = div-le_self word (2 ^ k) in
    mod-eq_of_lt (omega (arith, wide, small))

-- nothing of it is left above eight bytes
pub no_value : (word first size : ℕ) → word < 2 ^ 64 → 8 ≤ first → 0 ≡ word / 2 ^ (8 * first) % 2 ^ (8 * size)
no_value word first size below eight =
    let bits : 64 ≤ 8 * first = omega arith in
    let wide : 2 ^ 64 ≤ 2 ^ (8 * first) = pow_mono {i = 64} {j = 8 * first} bits in
    let small : word < 2 ^ (8 * first) = omega (arith, wide) in
    let none : word / 2 ^ (8 * first) ≡ 0 = div-eq_of_lt small in
    let above : 0 < 2 ^ (8 * size) = pow_pos (8 * size) in
    let rest : 0 % 2 ^ (8 * size) ≡ 0 = mod-eq_of_lt above in
    rw (none, rest) refl
