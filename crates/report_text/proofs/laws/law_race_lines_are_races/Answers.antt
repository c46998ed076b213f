use Rattle.report_text.proofs.TrueLines.{race_at}
use Rattle.report_text.proofs.laws.law_race_lines_are_races.Goals as goal

pub returns : goal.returns
returns c = λ bytes head all h setter finder seen among.
    race_at head all setter finder seen h.begins.lines_true among
