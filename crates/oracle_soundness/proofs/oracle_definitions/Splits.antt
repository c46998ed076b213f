-- A list split at an element: what comes before it, and what comes after.
use Rattle.std.proofs.Common.{◌≡◌, ◌<◌, ◌-◌, ◌++◌, ◌∙◌, ℕ, List, ◌∷◌, ap, drop, length}
use Rattle.std.proofs.Common.{length-append, length-drop, sym, take, arith}
use Rattle.std.proofs.Math.Seq.{drop-append_seam, take-append_seam}
use Rattle.std.proofs.lemmas.List.{take-append-drop, take_all}

-- what a slice that begins at `from` holds
pub rest_of : {X : Type 0} (xs : List X) (from : ℕ)
    → take (length xs - from) (drop from xs) ≡ drop from xs
rest_of xs from =
    let size = length-drop from xs in
    take_all (length xs - from) (drop from xs) (omega arith)

-- the element stands in the list between these two parts
pub record IsBetween {X : Type 0} (xs before after : List X) (x : X) : Type 0 where
  pub within : length before < length xs
  pub front : take (length before) xs ≡ before
  pub back : drop (length before) xs ≡ x ∷ after

pub between : {X : Type 0} (xs before after : List X) (x : X)
    → xs ≡ before ++ x ∷ after → IsBetween xs before after x
between xs before after x split = record {
  within = let sum = ap length split ∙ length-append before (x ∷ after) in omega arith;
  front = rw split (take-append_seam before (x ∷ after));
  back = rw split (drop-append_seam before (x ∷ after));
}

pub split_of : {X : Type 0} (xs after : List X) (x : X) (from : ℕ)
    → drop from xs ≡ x ∷ after → xs ≡ take from xs ++ x ∷ after
split_of xs after x from back =
    sym (take-append-drop from xs) ∙ ap (λ rest. take from xs ++ rest) back
