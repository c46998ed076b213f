-- Process by process, behind the items.
use Rattle.std.proofs.Common.{◌∙◌, List, ap, sym, subst}
use Rattle.litmus_expression.proofs.Taken.{same_given}
use Rattle.litmus_parse.specs.Entries.{Entry}
use Rattle.litmus_parse.specs.ItemReader.{Heading}
use Rattle.litmus_parse.proofs.Fits.{Fits, fits_at_first}
use Rattle.litmus_parse.proofs.ItemsComplete.{block_goes, heading}
use Rattle.litmus_parse.specs.ProcessReader.{unbegun}
use Rattle.litmus_parse.proofs.ProcessesComplete.{processes_complete}
use Rattle.litmus_parse.proofs.laws.law_what_is_spelled_as_processes_is_read.Goals as goal

pub returns : goal.returns
returns c = λ all items symbols inside rest names later table processes items_are numbered are reads spelled typed ends.
    let go = block_goes all symbols inside items names items_are numbered (fits_at_first all) are in
    let same = same_given (heading inside names go.behind.table) (heading inside names table) (sym go.reads ∙ reads) in
    let fits : Fits all names table = subst (λ (t : List Entry). Fits all names t) (ap (λ (h : Heading). h.table) same) go.behind.fits in
    let p = processes_complete all (unbegun (heading inside names table)) processes rest later spelled fits typed ends in
    (p.behind.table, p.states, p.reads, p.are, p.apart)
