-- each text in UTF-8, which computes
use lib.Utf8.{encode}
use Rattle.std.proofs.Common.{ap, sym}
use Rattle.picture_text.specs.Cells.{lines_text}
use Rattle.picture_text.proofs.cells.lines_text.Goals as goal

pub returns-in-One : goal.returns-in-One
unfolding encode
returns-in-One c = sym (ap lines_text c.in-One.is)

pub returns-in-More : goal.returns-in-More
unfolding encode
returns-in-More c = sym (ap lines_text c.in-More.is)

pub returns-in-Begin : goal.returns-in-Begin
unfolding encode
returns-in-Begin c = sym (ap lines_text c.in-Begin.is)

pub returns-in-BeginBeside : goal.returns-in-BeginBeside
unfolding encode
returns-in-BeginBeside c = sym (ap lines_text c.in-BeginBeside.is)

pub returns-in-End : goal.returns-in-End
unfolding encode
returns-in-End c = sym (ap lines_text c.in-End.is)

pub returns-in-EndBeside : goal.returns-in-EndBeside
unfolding encode
returns-in-EndBeside c = sym (ap lines_text c.in-EndBeside.is)

pub returns-in-RaceFrom : goal.returns-in-RaceFrom
unfolding encode
returns-in-RaceFrom c = sym (ap lines_text c.in-RaceFrom.is)

pub returns-in-RacePast : goal.returns-in-RacePast
unfolding encode
returns-in-RacePast c = sym (ap lines_text c.in-RacePast.is)

pub returns-in-RaceAcross : goal.returns-in-RaceAcross
unfolding encode
returns-in-RaceAcross c = sym (ap lines_text c.in-RaceAcross.is)

pub returns-in-RaceTo : goal.returns-in-RaceTo
unfolding encode
returns-in-RaceTo c = sym (ap lines_text c.in-RaceTo.is)
