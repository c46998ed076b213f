-- The watchpoints under a picture, and who took them.
use Rattle.std.specs.Prelude.{◌==◌, ◌∷◌, ℕ, Bool, List, [], codes, if◌then◌else◌, length}
use Rattle.std.specs.Fmt.{decimal}
use Rattle.std.specs.List.{concat}
use Rattle.timeline.specs.declared.picture.watches.Taking.{Taking}
use Rattle.timeline.specs.declared.picture.watches.Watch.{Watch}
use Rattle.timeline.specs.picture.Words.{outcome_words, place_of}

-- an empty line, where there are watchpoints
abbrev pub gap_text : List Watch → List ℕ
gap_text watches = if length watches == 0 then [] else codes "\n"

-- the index of a watchpoint, where slots are shown
abbrev pub index_words : (slots : Bool) → (index : ℕ) → List ℕ
index_words slots index = if slots then concat (codes "   index " ∷ decimal index ∷ codes "   " ∷ []) else codes "   "

-- a watchpoint: who set it up, at which index, where slots are shown, and what became of it
abbrev pub watch_text : (slots : Bool) → Watch → List ℕ
watch_text slots watch = concat (codes "arm   " ∷ place_of watch.setter ∷ index_words slots watch.arm.index
    ∷ outcome_words watch.arm.outcome ∷ codes "\n" ∷ [])

-- a taking: who took, at which index, where slots are shown, and who had set up
abbrev pub taking_text : (slots : Bool) → Taking → List ℕ
taking_text slots taking = concat (codes "take  " ∷ place_of taking.finder ∷ index_words slots taking.take.index
    ∷ codes "set up by " ∷ place_of taking.setter ∷ codes "\n" ∷ [])
