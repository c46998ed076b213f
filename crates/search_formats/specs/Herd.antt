-- What is found of a program, as herd7 writes its log.
use Rattle.std.specs.Prelude.{◌++◌, ◌==◌, ℕ, Bool, List, [], ◌∷◌, codes, if◌then◌else◌, length, not}
use Rattle.std.specs.Fmt.{decimal}
use Rattle.std.specs.List.{concat, flat_map}
use Rattle.litmus_syntax.specs.PrintedForm.{condition_line, proposition_text}
use Rattle.litmus_syntax.specs.Tree.{Program}
use Rattle.litmus_syntax.specs.declared.proposition.Quantifier.{Quantifier}
use Rattle.litmus_syntax.specs.declared.proposition.Quantifier.TheVariants.{Exists, Forall, NotExists}
use Rattle.search_text.specs.Times.{Sighting}
use Rattle.search_text.specs.Write.{observation_line}
use Rattle.search_text.specs.declared.found.SearchFindings.{SearchFindings}

-- what is asked of the final states of a test with this quantifier
abbrev pub kind_word : Quantifier → List ℕ
kind_word Exists = codes "Allowed"
kind_word NotExists = codes "Forbidden"
kind_word Forall = codes "Required"

-- the condition is validated, whose proposition holds so often, and doesn't hold so often
abbrev pub is_validated : Quantifier → (held failed : ℕ) → Bool
is_validated Exists held failed = not (held == 0)
is_validated NotExists held failed = held == 0
is_validated Forall held failed = failed == 0

-- the line of a final state
abbrev pub state_line : List ℕ → List ℕ
state_line state = state ++ codes "\n"

-- how many final states there are, and each of them
unfoldable pub states_text : List Sighting → List ℕ
states_text states = concat
    (codes "States " ∷ decimal (length states) ∷ codes "\n" ∷ flat_map (λ sighting. state_line sighting.0) states ∷ [])

-- the line that says whether the condition is validated
abbrev pub validated_line : Quantifier → (held failed : ℕ) → List ℕ
validated_line quantifier held failed = if is_validated quantifier held failed then codes "Ok\n" else codes "No\n"

-- the line of the test
unfoldable pub test_line : (name kind : List ℕ) → List ℕ
test_line name kind = concat (codes "Test " ∷ name ∷ codes " " ∷ kind ∷ codes "\n" ∷ [])

-- the test, its final states, and whether its condition is validated
unfoldable pub front_text : Program → SearchFindings → List ℕ
front_text program found = concat
    (test_line program.name (kind_word program.quantifier) ∷ states_text found.states
    ∷ validated_line program.quantifier found.held found.failed ∷ [])

-- how often the proposition of the condition holds, and doesn't
unfoldable pub witnesses : (held failed : ℕ) → List ℕ
witnesses held failed = concat
    (codes "Witnesses\nPositive: " ∷ decimal held ∷ codes " Negative: " ∷ decimal failed ∷ codes "\n" ∷ [])

-- the line that says that there is a data race, where there is one
abbrev pub flag_line : (raced : Bool) → List ℕ
flag_line raced = if raced then codes "Flag data-race\n" else []

-- the condition, in a line
unfoldable pub condition : Program → List ℕ
condition program = condition_line program.quantifier (proposition_text program.variables program.tasks program.condition)

-- how often the proposition of the condition holds, whether there is a data race, and the condition
unfoldable pub back_text : Program → (raced : Bool) → SearchFindings → List ℕ
back_text program raced found = concat
    (witnesses found.held found.failed ∷ flag_line raced ∷ codes "Condition " ∷ condition program
    ∷ observation_line program.name found.held found.failed ∷ [])

-- what is found of a program, with one blank line behind it
unfoldable pub herd_text : Program → (raced : Bool) → SearchFindings → List ℕ
herd_text program raced found = concat (front_text program found ∷ back_text program raced found ∷ codes "\n" ∷ [])
