-- Reports, in red.
use Rattle.std.specs.Prelude.{◌||◌, ◌++◌, ◌∷◌, ℕ, Bool, List, [], codes, max, min}
use Rattle.std.specs.Fmt.{decimal}
use Rattle.std.specs.List.{concat}
use Rattle.access_types.specs.Kind.{is_assertion}
use Rattle.access_types.specs.ReportText as report
use Rattle.access_types.specs.ReportText.{hex}
use Rattle.access_types.specs.Stamped.{Stamped}
use Rattle.picture_svg.specs.declared.lanes.Lanes.{Lanes}
use Rattle.picture_svg.specs.Lanes.{start}
use Rattle.picture_svg.specs.Lines.{line_end, line_start}

abbrev pub race_name : Bool → List ℕ
race_name asserted = report.race_name asserted

-- the title of the report of two accesses, without the end of its line
abbrev pub race_title : (setter finder : Stamped) → List ℕ
race_title setter finder =
    codes "BUG: KCSAN: " ++ race_name (is_assertion setter.access.kind || is_assertion finder.access.kind)
    ++ codes " in P" ++ decimal (min setter.access.task finder.access.task)
    ++ codes " / P" ++ decimal (max setter.access.task finder.access.task)

-- a race, from lane to lane, and right of its line what it is
abbrev pub race_line : (from to top : ℕ) → List ℕ
race_line from to top = concat (codes "</title><line x1=\"" ∷ decimal from ∷ codes ".5em\" y1=\"" ∷ decimal top
    ∷ codes ".9em\" x2=\"" ∷ decimal to ∷ codes ".5em\" y2=\"" ∷ decimal top ∷ codes ".9em\"/>" ∷ [])

abbrev pub race : Lanes → (setter finder : Stamped) → (top : ℕ) → List ℕ
race lanes setter finder top = concat (codes "<g class=\"race\"><title>" ∷ race_title setter finder
    ∷ race_line (start lanes setter.access.task) (start lanes finder.access.task) top
    ∷ line_start (max (start lanes setter.access.task) (start lanes finder.access.task)) top (codes "1.1")
    ∷ codes "RACE" ∷ line_end ∷ codes "</g>\n" ∷ [])

-- the title of a report of unknown origin, and its values
abbrev pub origin_title : Stamped → List ℕ
origin_title setter = concat (codes "BUG: KCSAN: " ∷ race_name (is_assertion setter.access.kind)
    ∷ codes " in P" ∷ decimal setter.access.task ∷ [])

abbrev pub value_words : (word : List ℕ) → (value : ℕ) → List ℕ
value_words word value = concat (word ∷ codes " 0x" ∷ hex 1 value ∷ [])

-- a change of unknown origin, in the lane of its access
abbrev pub origin : Lanes → (setter : Stamped) → (old new top : ℕ) → List ℕ
origin lanes setter old new top = concat (codes "<g class=\"race\"><title>" ∷ origin_title setter ∷ codes "</title>"
    ∷ line_start (start lanes setter.access.task) top (codes "0.65") ∷ codes "unknown origin" ∷ line_end
    ∷ line_start (start lanes setter.access.task) top (codes "1.2") ∷ value_words (codes "from") old ∷ line_end
    ∷ line_start (start lanes setter.access.task) top (codes "1.75") ∷ value_words (codes "to") new ∷ line_end
    ∷ codes "</g>\n" ∷ [])
