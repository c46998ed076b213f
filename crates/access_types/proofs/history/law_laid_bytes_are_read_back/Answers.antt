-- byte by byte, from the lowest on
use Rattle.access_types.proofs.LaidBytes.{laid-read_back}
use Rattle.access_types.proofs.history.law_laid_bytes_are_read_back.Goals as goal

pub returns : goal.returns
returns c = laid-read_back
