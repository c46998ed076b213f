-- The words for verdicts, how many pairs have each, and the verdict on a file.
use Rattle.std.specs.Prelude.{◌||◌, ℕ, Bool, List, codes, count_by, false, if◌then◌else◌, true}
use Rattle.std.specs.List.{list_any}
use Rattle.race_output.specs.declared.words.FileVerdict.{FileVerdict}
use Rattle.race_output.specs.declared.words.FileVerdict.TheVariants as files
use Rattle.race_output.specs.declared.words.Said.{Said}
use Rattle.race_output.specs.declared.words.Said.TheVariants.{Apart, Missed, NoRace, NotSettled, Race, Reported}
use Rattle.races.specs.declared.verdict.PairFound.{PairFound}
use Rattle.races.specs.declared.verdict.Verdict.{Verdict}
use Rattle.races.specs.declared.verdict.Verdict.TheVariants as verdicts

-- what a verdict says, without the reasons
abbrev pub said_of : Verdict → Said
said_of verdicts.Reported = Reported
said_of (verdicts.Missed why) = Missed
said_of (verdicts.Race why) = Race
said_of (verdicts.NoRace why) = NoRace
said_of verdicts.Apart = Apart
said_of verdicts.NotSettled = NotSettled

-- the words for it
abbrev pub said_words : Said → List ℕ
said_words Reported = codes "reported"
said_words Missed = codes "missed"
said_words Race = codes "race"
said_words NoRace = codes "no race"
said_words Apart = codes "apart"
said_words NotSettled = codes "not settled"

abbrev pub verdict_words : Verdict → List ℕ
verdict_words verdict = said_words (said_of verdict)

-- the two are the same
abbrev pub are_same : Said → Said → Bool
are_same Reported Reported = true
are_same Missed Missed = true
are_same Race Race = true
are_same NoRace NoRace = true
are_same Apart Apart = true
are_same NotSettled NotSettled = true
are_same one other = false

-- the verdict says this
abbrev pub is_said : Said → Verdict → Bool
is_said wanted verdict = are_same wanted (said_of verdict)

-- how many pairs have such a verdict, and whether one has
abbrev pub count_said : List PairFound → Said → ℕ
count_said pairs wanted = count_by (λ (one : PairFound). is_said wanted one.verdict) pairs

abbrev pub has_said : List PairFound → Said → Bool
has_said pairs wanted = list_any (λ (one : PairFound). is_said wanted one.verdict) pairs

-- The verdict on a file: a race is missed, or not reported so far; or else one is reported; or else it isn't settled of
-- each pair whether it is one; or else none is.
abbrev pub verdict_of : List PairFound → FileVerdict
verdict_of pairs =
    if has_said pairs Missed || has_said pairs Race then files.Missed
    else if has_said pairs Reported then files.Reported
    else if has_said pairs NotSettled then files.Stopped else files.Free

-- the word for it
abbrev pub file_word : FileVerdict → List ℕ
file_word files.Free = codes "free"
file_word files.Reported = codes "reported"
file_word files.Missed = codes "missed"
file_word files.Stopped = codes "stopped"
