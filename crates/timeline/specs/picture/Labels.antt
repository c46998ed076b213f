-- What is known of the sites of a trace beyond it.
use Rattle.std.specs.Prelude.{◌==◌, ◌&&◌, ℕ, Bool, List, [], None, Option, Some}
use Rattle.std.specs.List.{find}
use Rattle.access_types.specs.Stamped.{Stamped}
use Rattle.timeline.specs.declared.picture.labels.Label.{Label}

-- the label is that of the access's site
abbrev pub is_of : Stamped → Label → Bool
is_of s label = (label.task == s.access.task) && (label.site == s.access.site)

-- the name of the variable and the statement that a label has; each is empty where it isn't known
abbrev pub variable_in : Option Label → List ℕ
variable_in None = []
variable_in (Some label) = label.variable.now

abbrev pub statement_in : Option Label → List ℕ
statement_in None = []
statement_in (Some label) = label.statement.now

-- those of the first label of the access's site
abbrev pub variable_of : List Label → Stamped → List ℕ
variable_of labels s = variable_in (find (is_of s) labels)

abbrev pub statement_of : List Label → Stamped → List ℕ
statement_of labels s = statement_in (find (is_of s) labels)
