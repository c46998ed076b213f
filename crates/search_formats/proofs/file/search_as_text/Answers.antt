-- What holds of the text of the search holds of what is kept of it.
use Rattle.std.proofs.Common.{IfOk, subst, sym}
use Rattle.std.specs.Prelude.{option_map}
use Rattle.search_all.specs.Texts.{AllIsSearched}
use Rattle.search_all.specs.declared.wanted.AllWanted.{AllWanted}
use Rattle.search_formats.proofs.Kept.{kept_err, kept_of_all, kept_refused, kept_within}
use Rattle.search_formats.proofs.file.search_as_text.Goals as goal
use Rattle.search_formats.specs.Files.{IsTextFound}
use Rattle.search_formats.specs.declared.wanted.Preemptions.{Preemptions}
use Rattle.search_run.specs.Texts.{TextIsSearched}
use Rattle.search_run.specs.declared.wanted.Wanted.{Wanted}

pub returns-in-AtMost-clause-searched : goal.returns-in-AtMost-clause-searched
returns-in-AtMost-clause-searched g c =
    let text = c.args.text.now in
    let settings = c.args.settings.now in
    let wanted = c.args.wanted in
    subst (λ (asked : Preemptions). IfOk c.kept.result (λ found. IsTextFound asked text settings wanted found.raced found.stopped found.output.items))
    (sym c.in-AtMost.is)
    (kept_within text settings wanted c.in-AtMost.switches c.search_text.result c.kept.result c.kept.ensures
    (subst (λ (within : Wanted). IfOk c.search_text.result (λ searched. TextIsSearched text settings within searched.written.raced
    searched.stopped searched.written.output.items (option_map (λ trace. trace.items) searched.written.trace)))
    c.wanted_within-within.ensures c.search_text.ensures.searched))

pub returns-in-AtMost-clause-refused : goal.returns-in-AtMost-clause-refused
returns-in-AtMost-clause-refused g c = kept_refused _ _ _ c.kept.ensures c.search_text.ensures.refused

pub returns-in-AtMost-clause-file_limit : goal.returns-in-AtMost-clause-file_limit
returns-in-AtMost-clause-file_limit g c = kept_err _ _ _ _ c.kept.ensures c.search_text.ensures.file_limit

pub returns-in-AtMost-clause-not_ascii : goal.returns-in-AtMost-clause-not_ascii
returns-in-AtMost-clause-not_ascii g c = kept_err _ _ _ _ c.kept.ensures c.search_text.ensures.not_ascii

pub returns-in-Any-clause-searched : goal.returns-in-Any-clause-searched
returns-in-Any-clause-searched g c =
    let text = c.args.text.now in
    let settings = c.args.settings.now in
    let wanted = c.args.wanted in
    subst (λ (asked : Preemptions). IfOk c.kept-in-Any.result (λ found. IsTextFound asked text settings wanted found.raced found.stopped
    found.output.items))
    (sym c.in-Any.is)
    (kept_of_all text settings wanted c.search_all.result c.kept-in-Any.result c.kept-in-Any.ensures
    (subst (λ (all : AllWanted). IfOk c.search_all.result (λ searched. AllIsSearched text settings all searched.written.raced
    searched.stopped searched.written.output.items (option_map (λ trace. trace.items) searched.written.trace)))
    c.wanted_of_all-all.ensures c.search_all.ensures.searched))

pub returns-in-Any-clause-refused : goal.returns-in-Any-clause-refused
returns-in-Any-clause-refused g c = kept_refused _ _ _ c.kept-in-Any.ensures c.search_all.ensures.refused

pub returns-in-Any-clause-file_limit : goal.returns-in-Any-clause-file_limit
returns-in-Any-clause-file_limit g c = kept_err _ _ _ _ c.kept-in-Any.ensures c.search_all.ensures.file_limit

pub returns-in-Any-clause-not_ascii : goal.returns-in-Any-clause-not_ascii
returns-in-Any-clause-not_ascii g c = kept_err _ _ _ _ c.kept-in-Any.ensures c.search_all.ensures.not_ascii
