-- The words for verdicts on a page.
use Rattle.std.specs.Prelude.{ℕ, List, [], ◌∷◌, None, Option, Some, codes, if◌then◌else◌, nat_le}
use Rattle.std.specs.List.{concat}
use Rattle.race_output.specs.Words as words
use Rattle.race_output.specs.declared.words.FileVerdict.{FileVerdict}
use Rattle.race_output.specs.declared.words.Said.{Said}
use Rattle.race_output.specs.declared.words.Said.TheVariants.{Apart, Missed, NoRace, NotSettled, Race, Reported}

-- how bad a verdict is: a race that KCSAN doesn't report is the worst
abbrev pub severity : Said → ℕ
severity Apart = 0
severity NoRace = 1
severity NotSettled = 2
severity Reported = 3
severity Race = 4
severity Missed = 5

-- the worse of two, of which the first may be none
abbrev pub worse : Option Said → Said → Said
worse None said = said
worse (Some own) said = if nat_le (severity said) (severity own) then own else said

-- the class by which a verdict has its looks: the words for it, with no blank
abbrev pub said_class : Said → List ℕ
said_class NoRace = codes "no-race"
said_class NotSettled = codes "not-settled"
said_class said = words.said_words said

-- words in a class, strong
unfoldable pub strong : (class words : List ℕ) → List ℕ
strong class words = concat (codes "<b class=\"" ∷ class ∷ codes "\">" ∷ words ∷ codes "</b>" ∷ [])

-- what is said of a pair, and of a file
abbrev pub said_text : Said → List ℕ
said_text said = strong (said_class said) (words.said_words said)

abbrev pub file_text : FileVerdict → List ℕ
file_text verdict = strong (words.file_word verdict) (words.file_word verdict)
