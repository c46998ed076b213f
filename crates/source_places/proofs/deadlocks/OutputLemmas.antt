-- What stands behind a line.
use Rattle.std.proofs.Common.{◌≡◌, ◌++◌, ◌+◌, ◌-◌, [], ℕ, List, arith, drop, length, length-drop, min, refl, take}
use Rattle.std.proofs.lemmas.Grind.{common_steps}
use Rattle.std.proofs.lemmas.List.{append-nil, take_all}

take_within : (output : List ℕ) (end behind : ℕ) → behind ≡ min (length output) (end + 1) → take behind output ≡ take (end + 1) output
take_within output end behind is = grind (arith, common_steps, is)

drop_within : (output : List ℕ) (end behind : ℕ) → behind ≡ min (length output) (end + 1) → drop behind output ≡ drop (end + 1) output
drop_within output end behind is = grind (arith, common_steps, is)

rest : (output : List ℕ) (behind : ℕ) → take (length output - behind) (drop behind output) ≡ drop behind output
rest output behind = take_all (length output - behind) (drop behind output) (omega (arith, length-drop behind output))

pub pieces : (output bytes said : List ℕ) (end behind : ℕ) → bytes ≡ said → behind ≡ min (length output) (end + 1)
    → take behind output ++ (bytes ++ (take (length output - behind) (drop behind output) ++ []))
    ≡ take (end + 1) output ++ (said ++ drop (end + 1) output)
pieces output bytes said end behind same is =
    rw (rest output behind, append-nil (drop behind output), take_within output end behind is, drop_within output end behind is, same) refl
