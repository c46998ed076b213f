-- A picture, as a file in SVG.
use Rattle.std.specs.Prelude.{◌+◌, ◌-◌, ◌*◌, ◌/◌, ◌^◌, ◌==◌, ◌++◌, ◌∷◌, ℕ, List, [], codes, if◌then◌else◌, length, max, min}
use Rattle.std.specs.Fmt.{decimal}
use Rattle.std.specs.List.{concat, flat_map}
use Rattle.timeline.specs.Texts.{unchanged}
use Rattle.timeline.specs.Lengths.{len_of}
use Rattle.timeline.specs.declared.picture.columns.Column.{Column}
use Rattle.timeline.specs.declared.picture.draw.Picture.{Picture}
use Rattle.timeline.specs.declared.picture.labels.Label.{Label}
use Rattle.picture_svg.specs.declared.lanes.Lanes.{Lanes}
use Rattle.picture_svg.specs.Captions.{settings_in, settings_line, title, title_between}
use Rattle.picture_svg.specs.Lanes.{lanes_of, start}
use Rattle.picture_svg.specs.Legend.{legend}
use Rattle.picture_svg.specs.Lines.{row_top}
use Rattle.picture_svg.specs.Marks.{rows_marks}
use Rattle.picture_svg.specs.Watches.{taking_text, watch_text}

-- how everything looks, in light and in dark; the tip of an arrow; and the page behind all
unfoldable pub looks : List ℕ
looks =
    codes "<style>"
    ++ codes ".page{fill:#fff;fill-opacity:1}text{fill:#222}tspan{font-size:12px}rect{fill-opacity:.6}"
    ++ codes ".lane{stroke:#bbb}"
    ++ codes ".plain rect{fill:#9cf;stroke:#036}"
    ++ codes ".marked rect{fill:#cfc;stroke:#063;stroke-width:3;stroke-dasharray:6 4}"
    ++ codes ".assertion rect{fill:#fd9;stroke:#630;stroke-dasharray:2 3}"
    ++ codes ".watch rect{fill:#222;fill-opacity:1}"
    ++ codes ".take line{stroke:#222}.tip{fill:#222}"
    ++ codes ".race line{stroke:#c00;stroke-width:3}.race text{fill:#c00}"
    ++ codes "@media (prefers-color-scheme:dark){"
    ++ codes ".page{fill:#111}text{fill:#eee}.lane{stroke:#555}"
    ++ codes ".plain rect{fill:#247;stroke:#9cf}"
    ++ codes ".marked rect{fill:#253;stroke:#cfc}"
    ++ codes ".assertion rect{fill:#642;stroke:#fd9}"
    ++ codes ".watch rect{fill:#eee}.take line{stroke:#eee}.tip{fill:#eee}"
    ++ codes ".race line{stroke:#f66}.race text{fill:#f66}}"
    ++ codes "</style>\n"
    ++ codes "<defs><marker id=\"tip\" viewBox=\"0 0 8 8\" refX=\"8\" refY=\"4\" markerWidth=\"8\" markerHeight=\"8\" orient=\"auto\">"
    ++ codes "<path class=\"tip\" d=\"M0 0L8 4L0 8z\"/></marker></defs>\n"
    ++ codes "<rect class=\"page\" width=\"100%\" height=\"100%\"/>\n"

-- how wide a line of text is, with a margin, whose signs are so many hundredths of an em wide
abbrev pub line_width : (len sign : ℕ) → ℕ
line_width len sign = 2 + (sign * len + 99) / 100

-- how wide the picture is: as its lanes, its title or its settings, and at least as its legend
abbrev pub width_of : Picture → (test settings : List ℕ) → Lanes → ℕ
width_of picture test settings lanes = max (max (max lanes.width (line_width (len_of (title unchanged picture test)) 60))
    (line_width (len_of (settings_in unchanged picture settings)) 36)) 24

-- how high it is, with ten em for the title, the settings, the headings, the end and the legend
abbrev pub height_of : Picture → ℕ
height_of picture = min (row_top (length picture.rows.items) + 10) (2 ^ 64 - 1)

-- what stands in front of the lanes
abbrev pub opening : (width height : ℕ) → List ℕ
opening width height = concat (codes "<svg xmlns=\"http://www.w3.org/2000/svg\" width=\"" ∷ decimal width
    ∷ codes "em\" height=\"" ∷ decimal height ∷ codes "em\" font-size=\"20\" font-family=\"monospace\">\n<title>" ∷ [])

abbrev pub front : Picture → (test settings : List ℕ) → Lanes → List ℕ
front picture test settings lanes =
    title_between picture test (opening (width_of picture test settings lanes) (height_of picture)) (codes "</title>\n")
    ++ (looks ++ (title_between picture test (codes "<text x=\"1em\" y=\"1.5em\" font-weight=\"bold\">") (codes "</text>\n")
    ++ settings_line picture settings))

-- the lane of a task: one without accesses has none
abbrev pub lane_text : (task x : ℕ) → List ℕ
lane_text task x = concat (codes "<text x=\"" ∷ decimal x ∷ codes "em\" y=\"4.5em\">P" ∷ decimal task
    ∷ codes "</text><line class=\"lane\" x1=\"" ∷ decimal x ∷ codes ".5em\" y1=\"5em\" x2=\"" ∷ decimal x
    ∷ codes ".5em\" y2=\"100%\"/>\n" ∷ [])

abbrev pub heading : Lanes → Column → List ℕ
heading lanes column = if length column.begins.items == 0 then [] else lane_text column.task (start lanes column.task)

-- what stands in front of the rows
abbrev pub head_text : Picture → (test settings : List ℕ) → Lanes → List ℕ
head_text picture test settings lanes = front picture test settings lanes
    ++ (flat_map (heading lanes) picture.columns.items ++ codes "<svg y=\"6em\" overflow=\"visible\">\n")

-- the picture with these lanes: lanes, rows, watchpoints, takings and the legend
abbrev pub svg_with : Picture → (test settings : List ℕ) → List Label → Lanes → List ℕ
svg_with picture test settings labels lanes = head_text picture test settings lanes
    ++ (rows_marks picture labels lanes 0 picture.rows.items
    ++ (flat_map (watch_text lanes picture.rows.items) picture.watches.items
    ++ (flat_map (taking_text lanes picture.rows.items) picture.takings.items ++ legend)))

-- the picture, where this is known of the trace beyond it: the test, the settings, and sites
unfoldable pub captioned_svg : Picture → (test settings : List ℕ) → List Label → List ℕ
captioned_svg picture test settings labels = svg_with picture test settings labels (lanes_of picture labels)

-- the same, where nothing more is known
abbrev pub picture_svg : Picture → List ℕ
picture_svg picture = captioned_svg picture [] [] []
