-- Bars of accesses, with their labels.
use Rattle.std.specs.Prelude.{◌==◌, ◌-◌, ◌∷◌, ◌++◌, ℕ, List, [], codes, if◌then◌else◌, length}
use Rattle.std.specs.Fmt.{decimal}
use Rattle.std.specs.List.{concat}
use Rattle.access_types.specs.Kind.{is_assertion}
use Rattle.access_types.specs.Stamped.{Stamped}
use Rattle.timeline.specs.Texts.{short}
use Rattle.timeline.specs.declared.texts.Markup.TheVariants.{Xml}
use Rattle.timeline.specs.picture.Labels.{statement_of}
use Rattle.timeline.specs.picture.Told.{first_line, second_line}
use Rattle.timeline.specs.declared.picture.labels.Label.{Label}
use Rattle.picture_svg.specs.declared.lanes.Lanes.{Lanes}
use Rattle.picture_svg.specs.Lanes.{start}
use Rattle.picture_svg.specs.Lines.{line_end, line_start, row_top}

-- how an access is drawn
abbrev pub class : Stamped → List ℕ
class s = if s.marked then codes "marked" else if is_assertion s.access.kind then codes "assertion" else codes "plain"

-- its bar, in the lane at x
abbrev pub bar_rect : Stamped → (x top bottom : ℕ) → List ℕ
bar_rect s x top bottom = concat (codes "<g class=\"" ∷ class s ∷ codes "\"><rect x=\"" ∷ decimal x
    ∷ codes "em\" y=\"" ∷ decimal top ∷ codes "em\" width=\"1em\" height=\"" ∷ decimal (bottom - top) ∷ codes "em\"/>" ∷ [])

-- the bar, and of its label the two lines that each has: the first line and the second of those in which it is told
abbrev pub bar_lines : List Label → Stamped → (x top bottom : ℕ) → List ℕ
bar_lines labels s x top bottom = concat (bar_rect s x top bottom ∷ line_start x top (codes "0.65") ∷ [])
    ++ (first_line (short Xml) labels s
    ++ concat (line_end ∷ line_start x top (codes "1.2") ∷ second_line s ∷ line_end ∷ []))

-- a third line, where the statement is known
abbrev pub some_statement : (statement : List ℕ) → (x top : ℕ) → List ℕ
some_statement statement x top = line_start x top (codes "1.75") ++ (short Xml statement ++ line_end)

abbrev pub statement_line : (statement : List ℕ) → (x top : ℕ) → List ℕ
statement_line statement x top = if length statement == 0 then [] else some_statement statement x top

-- the bar of an access, from one row down to another, with its label
abbrev pub bar : List Label → Lanes → Stamped → (top bottom : ℕ) → List ℕ
bar labels lanes s top bottom = bar_lines labels s (start lanes s.access.task) (row_top top) (row_top bottom)
    ++ (statement_line (statement_of labels s) (start lanes s.access.task) (row_top top) ++ codes "</g>\n")
