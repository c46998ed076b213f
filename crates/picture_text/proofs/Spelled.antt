-- the words of ends and reports: lemmas over the parts, which are plain texts and numbers here
use Rattle.std.proofs.Common.{◌≡◌, ◌++◌, ◌∙◌, ℕ, List, [], ap, codes}
use Rattle.std.specs.Prelude.{max, min}
use Rattle.timeline.specs.picture.Words.{place_of}
use Rattle.access_types.specs.Stamped.{Stamped}
use Rattle.timeline.specs.declared.picture.columns.Column.{Column}
use Rattle.picture_text.specs.Lines.{line_of}
use Rattle.picture_text.specs.Rows.{changed_line, end_text, race_text}
use Rattle.picture_text.specs.declared.cells.Shape.TheVariants.{Bars, Ends, Race}
use Rattle.picture_text.specs.declared.cells.Style.{Style}
use Rattle.picture_text.specs.declared.lines.Margin.TheVariants.{Empty, Stamp}

pub end_line_is : (style : Style) (columns : List Column) (stamp : ℕ) (s : Stamped) (place : List ℕ) (task : ℕ)
    → place ≡ place_of s → task ≡ s.access.task
    → line_of style columns stamp (Stamp stamp) (Ends task) (place ++ ((codes " ends\n" ++ []) ++ [])) ≡ end_text style columns stamp s
end_line_is style columns stamp s place task e1 e2 = rw (e1, e2)

pub race_line_is : (style : Style) (columns : List Column) (stamp : ℕ) (setter finder : Stamped) (watched found : List ℕ) (from to : ℕ)
    → watched ≡ place_of setter → found ≡ place_of finder
    → from ≡ min setter.access.task finder.access.task → to ≡ max setter.access.task finder.access.task
    → line_of style columns stamp Empty (Race from to) (watched ++ ((codes " with " ++ []) ++ (found ++ ((codes "\n" ++ []) ++ []))))
    ≡ race_text style columns stamp setter finder
race_line_is style columns stamp setter finder watched found from to e1 e2 e3 e4 =
    let words : List ℕ = watched ++ ((codes " with " ++ []) ++ (found ++ ((codes "\n" ++ []) ++ []))) in
    ap (λ (n : ℕ). line_of style columns stamp Empty (Race n to) words) e3
    ∙ ap (λ (n : ℕ). line_of style columns stamp Empty (Race (min setter.access.task finder.access.task) n) words) e4
    ∙ rw (e1, e2)

pub changed_line_is : (style : Style) (columns : List Column) (stamp : ℕ) (s : Stamped) (place : List ℕ) → place ≡ place_of s
    → line_of style columns stamp Empty Bars (place ++ ((codes ": unknown origin\n" ++ []) ++ [])) ≡ changed_line style columns stamp s
changed_line_is style columns stamp s place e = rw e
