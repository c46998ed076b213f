-- A reader that goes on with one part after the other until it is done.
use Rattle.std.specs.Prelude.{ℕ, zero, suc, Option, Some, None}
use Rattle.litmus_lex.specs.Front.{◌>>=◌}

-- what follows a part: another part, or nothing more
pub data Turn (A B : Type 0) : Type 0 where
  again : A → Turn A B
  done : B → Turn A B

abbrev pub turned : {A B : Type 0} → (A → Option B) → Turn A B → Option B
turned go (again a) = go a
turned go (done b) = Some b

-- so many parts at most
unfoldable pub going : {A B : Type 0} → (A → Option (Turn A B)) → ℕ → A → Option B
going step zero a = None
going step (suc fuel) a = step a >>= λ t. turned (going step fuel) t
