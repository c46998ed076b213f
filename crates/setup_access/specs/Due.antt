-- How many outcomes a check may still give, so that they fit into their array.
use Rattle.std.specs.Prelude.{◌++◌, ℕ, List, [], ◌∷◌, Option, None, Some}
use Rattle.setup_access.specs.declared.outcome.Outcome.{Outcome}
use Rattle.setup_access.specs.declared.pass.Pass.{Pass}
use Rattle.setup_access.specs.declared.pass.Pass.TheVariants as passes
use Rattle.setup_access.specs.declared.pass.Next.{Next}
use Rattle.setup_access.specs.declared.pass.Next.TheVariants as tos

-- how many outcomes a check of an access may still give
abbrev pub pass_due : Pass → ℕ
pass_due (passes.Find find) = 1
pass_due (passes.Found found) = 1
pass_due (passes.Setup setup) = 1
pass_due (passes.Clear index) = 0
pass_due (passes.Remove index) = 0

-- the same where an answer leads
abbrev pub to_due : Next → ℕ
to_due (tos.Going pass) = pass_due pass
to_due tos.Settled = 0
to_due tos.Unsettled = 0

-- an outcome is one
abbrev pub given_now : Option Outcome → ℕ
given_now None = 0
given_now (Some outcome) = 1

-- the outcomes so far, and one more if there is one
abbrev pub extended : {A : Type 0} → List A → Option A → List A
extended outcomes None = outcomes
extended outcomes (Some outcome) = outcomes ++ outcome ∷ []
