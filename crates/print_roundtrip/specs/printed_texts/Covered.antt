-- Processes that have more registers.
use Rattle.std.specs.Prelude.{◌≡◌, ℕ, List, Some, slice_get}
use Rattle.litmus_parse.specs.Headers.{Process}

-- the process has the parameters of the other, and its registers have the names and numbers that they have there
pub record Extends (p q : Process) : Type 0 where
  pub parameters : q.parameters ≡ p.parameters
  pub registers : (number : ℕ) (name : List ℕ) → slice_get p.registers number ≡ Some name → slice_get q.registers number ≡ Some name

-- each process is extended by the one of its number
pub record Covers (before later : List Process) : Type 0 where
  pub covers : (k : ℕ) (p : Process) → slice_get before k ≡ Some p → (q : Process) × (slice_get later k ≡ Some q) × Extends p q
