-- The text so far and that of the locations to come are the text of all.
use Rattle.std.proofs.Common.{◌≡◌, ◌++◌, drop}
use Rattle.std.specs.String.{string_bytes}
use Rattle.litmus_semantics.specs.final_condition.Holds.{register_of, variable_of}
use Rattle.litmus_syntax.specs.Views.{program_of}
use Rattle.search_text.specs.States.{more_text}
use Rattle.search_text.proofs.states.append_more.Given as goal

abbrev pub invariant-loop-location : goal.invariant-loop-location
invariant-loop-location l =
    string_bytes l.text
    ++ more_text (program_of l.program) (register_of l.finals) (variable_of l.finals) (drop l.location-index l.locations)
    ≡ string_bytes l.initial.text ++ more_text (program_of l.program) (register_of l.finals) (variable_of l.finals) l.locations
