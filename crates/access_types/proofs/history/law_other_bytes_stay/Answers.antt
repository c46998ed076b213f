-- no byte of the others is one that was laid down
use Rattle.access_types.proofs.LaidBytes.{laid-apart}
use Rattle.access_types.proofs.history.law_other_bytes_stay.Goals as goal

pub returns : goal.returns
returns c = laid-apart
