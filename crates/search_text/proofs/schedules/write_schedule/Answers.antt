-- the first entry, and the others behind it
use Rattle.std.proofs.Common.{◌≡◌, ◌++◌, rules}
use Rattle.std.specs.List.{flat_map}
use Rattle.report_text.proofs.SinkSteps.{writes_after, writes_same}
use Rattle.search_text.specs.Schedules.{entry_text, later_text, schedule_text}
use Rattle.search_text.proofs.schedules.write_schedule.Goals as goal

pub returns-in_ok-write_entry-in-Some : goal.returns-in_ok-write_entry-in-Some
returns-in_ok-write_entry-in-Some g c =
    let same : entry_text c.in-Some.first.now ++ flat_map later_text c.in-Some.more.now ≡ schedule_text c.args.entries.now = search rules in
    writes_same g.K.Sink.written g.K.Sink.failures _ _ _ _ _ same
    (writes_after g.K.Sink.written g.K.Sink.failures _ _ _ _ _ _ c.in_ok-write_entry-in-Some.ensures c.write_more.ensures)
