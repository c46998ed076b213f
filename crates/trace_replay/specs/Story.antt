-- What is kept of the lines of a trace that were read.
use Rattle.std.specs.Prelude.{◌≡◌, ◌↔◌, ◌≤◌, ℕ, List, All, length, map}
use Rattle.std.specs.List.{flat_map}
use Rattle.report_text.specs.Standing.{accesses_of, arms_of, kind_place, reports_of, takes_of}
use Rattle.report_text.specs.Truth.{hits_in, origins_in, pairs_in, race_in, unknown_in}
use Rattle.report_text.specs.declared.line.Line.{Line}
use Rattle.trace_replay.specs.Accesses.{AreKept}
use Rattle.trace_replay.specs.Armings.{AreArmings}
use Rattle.trace_replay.specs.Told.{WereTold}
use Rattle.trace_replay.specs.declared.story.Story.{Story}

-- how many lines of each kind there were
pub record CountsLines (all : List Line) (story : Story) : Type 0 where
  pub arms : story.arms ≡ length (arms_of all)
  pub takes : story.takes ≡ length (takes_of all)
  pub reports : story.reports ≡ length (reports_of all)

-- the story has what these lines say
pub record Knows (all : List Line) (story : Story) : Type 0 where
  pub accesses : AreKept (accesses_of all) story.accesses
  pub armings : AreArmings (map (λ a. a.setter) (arms_of all)) story.armings
  pub by_arms : WereTold (hits_in (arms_of all)) (pairs_in (arms_of all)) (origins_in (arms_of all)) story.by_arms
  pub by_others : WereTold (takes_of all) (flat_map race_in (reports_of all)) (flat_map unknown_in (reports_of all)) story.by_others
  pub lines : CountsLines all story

-- the story is of these lines: it has what they say, and the last place among the kinds of lines that they reached
pub record IsStoryOf (all : List Line) (story : Story) : Type 0 where
  pub places : (place : ℕ) → All (λ earlier. kind_place earlier ≤ place) all ↔ (story.place ≤ place)
  pub knows : Knows all story
