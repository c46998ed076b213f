-- Item by item.
use Rattle.litmus_parse.proofs.Fits.{fits_at_first}
use Rattle.litmus_parse.proofs.ItemsComplete.{block_goes}
use Rattle.litmus_parse.proofs.declaration_laws.law_what_is_spelled_as_an_initialization_block_is_read.Goals as goal

pub returns : goal.returns
returns c = λ all items symbols rest names spelled numbered are.
    let go = block_goes all symbols rest items names spelled numbered (fits_at_first all) are in
    (go.behind.table, go.reads)
