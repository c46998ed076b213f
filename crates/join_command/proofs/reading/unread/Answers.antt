-- the line was made
use Rattle.std.proofs.Common.{inl, refl}
use Rattle.join_command.proofs.reading.unread.Goals as goal

pub returns-in-Ok : goal.returns-in-Ok
returns-in-Ok c = inl (record { lines = record { bytes = c.in-Ok.bytes }; text_is = c.in-Ok.ensures; said_is = refl })
