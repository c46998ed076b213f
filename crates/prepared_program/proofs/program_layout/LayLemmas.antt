-- The bytes of the variables in order.
use native.Mathlib.Omega.{arith}
use Rattle.std.proofs.Common.{◌≡◌, ◌+◌, ℕ, zero, suc, List, [], ◌∷◌, Option, Some, Result, Ok, Err, IfOk, map, option_map, refl, slice_get, ap, unwrap_or, ◌∙◌}
use Rattle.access_types.specs.declared.history.Bytes.{Bytes}
use Rattle.litmus_semantics.specs.Layout.{VariablePlace, bytes_at, bytes_of_variable, initial_values, no_bytes}
use Rattle.litmus_semantics.specs.TextSites.{bytes_among}
use Rattle.litmus_syntax.specs.declared.program.Variable.{Variable}

-- the bytes of a number, counted on from a number
pub got : (places : List VariablePlace) (number : ℕ) (variables : List Variable) (n : ℕ)
    → option_map (λ (laid : Bytes × ℕ). laid.0) (slice_get (initial_values places number variables) n)
    ≡ option_map (bytes_at places (n + number)) (slice_get variables n)
got places number [] n = refl
got places number (variable ∷ later) zero = ap (λ (k : ℕ). Some (bytes_at places k variable)) (none number) where
  none : (number : ℕ) → number ≡ 0 + number
  none number = omega arith
got places number (variable ∷ later) (suc n) =
    got places (suc number) later n ∙ ap (λ (k : ℕ). option_map (bytes_at places k) (slice_get later n)) (same n number) where
      same : (n number : ℕ) → n + suc number ≡ suc n + number
      same n number = omega arith

-- the bytes of a variable
pub bytes_got : (places : List VariablePlace) (variables : List Variable) (laid : List (Bytes × ℕ)) (n : ℕ) → laid ≡ initial_values places 0 variables
    → unwrap_or (option_map (λ (l : Bytes × ℕ). l.0) (slice_get laid n)) no_bytes ≡ bytes_of_variable places variables n
bytes_got places variables laid n is =
    ap (λ (bs : List (Bytes × ℕ)). unwrap_or (option_map (λ (l : Bytes × ℕ). l.0) (slice_get bs n)) no_bytes) is
    ∙ (ap (λ (b : Option Bytes). unwrap_or b no_bytes) (got places 0 variables n)
    ∙ ap (λ (k : ℕ). unwrap_or (option_map (bytes_at places k) (slice_get variables n)) no_bytes) (none n)) where
      none : (n : ℕ) → n + 0 ≡ n
      none n = omega arith

-- the bytes of all variables
pub all_got : (places : List VariablePlace) (variables : List Variable) (laid : List (Bytes × ℕ)) (n : ℕ) → laid ≡ initial_values places 0 variables
    → bytes_among (map (λ (l : Bytes × ℕ). l.0) laid) n ≡ bytes_of_variable places variables n
all_got places variables laid n is =
    ap (λ (b : Option Bytes). unwrap_or b no_bytes) (mapped laid n) ∙ bytes_got places variables laid n is where
      mapped : (laid : List (Bytes × ℕ)) (n : ℕ) → slice_get (map (λ (l : Bytes × ℕ). l.0) laid) n ≡ option_map (λ (l : Bytes × ℕ). l.0) (slice_get laid n)
      mapped [] n = refl
      mapped (l ∷ laid) zero = refl
      mapped (l ∷ laid) (suc n) = mapped laid n

-- what holds of what was made
pub if_made : {X E : Type 0} {P Q : X → Type 0} (r : Result X E) → ((x : X) → P x → Q x) → IfOk r P → IfOk r Q
if_made (Ok x) more p = more x p
if_made (Err e) more p = tt
