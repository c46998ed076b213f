-- Texts, without where they lie in memory.
use Rattle.std.specs.Prelude.{ℕ, Bool, List, Option, Vec, map, option_map}
use Rattle.std.specs.Global.{Global}
use Rattle.search_text.specs.declared.found.Ending.{Ending}

abbrev pub texts_in : List (Vec ℕ Global) → List (List ℕ)
texts_in texts = map (λ text. text.items) texts

-- how a list ends after which all tasks have ended: its final state as text, and whether the proposition of the
-- condition holds there
pub record End : Type 0 where
  pub state : List ℕ
  pub held : Bool

abbrev pub end_of : Ending → End
end_of ending = record { state = ending.state.items; held = ending.held }

abbrev pub ending_of : Option Ending → Option End
ending_of ending = option_map end_of ending
