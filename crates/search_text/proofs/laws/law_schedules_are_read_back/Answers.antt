-- by its definition
use Rattle.search_text.proofs.ReadBack.{schedule_back}
use Rattle.search_text.proofs.laws.law_schedules_are_read_back.Goals as goal

pub returns : goal.returns
returns c = schedule_back
