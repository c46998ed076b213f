use Rattle.std.proofs.Common.{refl}
use Rattle.std.specs.Fmt.{char_count, digits, padded_integral}
use Rattle.access_types.specs.ReportText.{hex}
use Rattle.report_text.specs.Line.{spell_access, spell_arm, spell_origin, spell_race, spell_take}
use Rattle.report_text.specs.TraceText.{end_line, first_version, second_version, shape_line}
use Rattle.worked_examples.proofs.example_traces.examples.turns_are_spelled.Goals as goal

pub returns : goal.returns
unfolding char_count digits padded_integral hex spell_access spell_arm spell_origin spell_race spell_take end_line first_version second_version shape_line
returns c = refl
