-- the line was told
use Rattle.std.proofs.Common.{inl}
use Rattle.litmus_command.proofs.overwrite.refuse_overwrite.Goals as goal

pub returns-in-Ok : goal.returns-in-Ok
returns-in-Ok g c = inl (record {
  lines = record { bytes = c.in-Ok.bytes };
  text_is = c.in-Ok.ensures;
  status_is = c.tell.ensures.status;
  told = c.tell.ensures.told;
})
