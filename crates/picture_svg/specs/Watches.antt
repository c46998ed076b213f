-- Watchpoints, and arrows to them from those that took them.
use Rattle.std.specs.Prelude.{◌+◌, ◌-◌, ◌^◌, ◌∷◌, ℕ, List, [], None, Option, Some, codes, max, min}
use Rattle.std.specs.Fmt.{decimal}
use Rattle.std.specs.List.{concat}
use Rattle.access_types.specs.Stamped.{Stamped}
use Rattle.timeline.specs.picture.Ordered.{rows_before}
use Rattle.timeline.specs.picture.Words.{outcome_words, place_of}
use Rattle.timeline.specs.declared.picture.rows.Row.{Row}
use Rattle.timeline.specs.declared.picture.watches.Taking.{Taking}
use Rattle.timeline.specs.declared.picture.watches.Watch.{Watch}
use Rattle.picture_svg.specs.declared.lanes.Lanes.{Lanes}
use Rattle.picture_svg.specs.Lanes.{start}
use Rattle.picture_svg.specs.Lines.{row_top}

-- a thin bar in a lane
abbrev pub watch_rect : (x top bottom : ℕ) → List ℕ
watch_rect x top bottom = concat (codes "</title><rect x=\"" ∷ decimal x ∷ codes ".4em\" y=\"" ∷ decimal top
    ∷ codes "em\" width=\"0.2em\" height=\"" ∷ decimal (bottom - top) ∷ codes "em\"/></g>\n" ∷ [])

-- an index, between words
abbrev pub index_words : (before : List ℕ) → (index : ℕ) → (behind : List ℕ) → List ℕ
index_words before index behind = concat (before ∷ decimal index ∷ behind ∷ [])

-- where the bar of a watchpoint ends: that of one that was taken, below the row in which the later of the two accesses
-- begins; any other where its access ends
abbrev pub end_with : List Row → (setter : Stamped) → (finder : Option Stamped) → ℕ
end_with rows setter None = row_top (rows_before rows setter.end)
end_with rows setter (Some finder) =
    min (min (row_top (rows_before rows (max setter.begin finder.begin)) + 2) (2 ^ 64 - 1)) (row_top (rows_before rows setter.end))

abbrev pub watch_end : List Row → Watch → ℕ
watch_end rows watch = end_with rows watch.setter watch.finder

-- a watchpoint, from where its access begins to there
abbrev pub watch_text : Lanes → List Row → Watch → List ℕ
watch_text lanes rows watch = concat (codes "<g class=\"watch\"><title>" ∷ place_of watch.setter
    ∷ index_words (codes ", index ") watch.arm.index (codes ", ") ∷ outcome_words watch.arm.outcome
    ∷ watch_rect (start lanes watch.setter.access.task) (row_top (rows_before rows watch.setter.begin))
    (watch_end rows watch) ∷ [])

-- an arrow from lane to lane, above the words of an access in the same row
abbrev pub arrow : (from to top : ℕ) → List ℕ
arrow from to top = concat (codes "</title><line x1=\"" ∷ decimal from ∷ codes ".5em\" y1=\"" ∷ decimal top
    ∷ codes ".1em\" x2=\"" ∷ decimal to ∷ codes ".5em\" y2=\"" ∷ decimal top
    ∷ codes ".1em\" marker-end=\"url(#tip)\"/></g>\n" ∷ [])

-- a taking, where the later of its two accesses begins
abbrev pub taking_text : Lanes → List Row → Taking → List ℕ
taking_text lanes rows taking = concat (codes "<g class=\"take\"><title>" ∷ place_of taking.finder
    ∷ index_words (codes " took index ") taking.take.index (codes " of ") ∷ place_of taking.setter
    ∷ arrow (start lanes taking.finder.access.task) (start lanes taking.setter.access.task)
    (row_top (rows_before rows (max taking.setter.begin taking.finder.begin))) ∷ [])
