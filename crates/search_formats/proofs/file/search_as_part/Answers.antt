-- What holds of the text of the part holds of what is kept of it.
use Rattle.std.proofs.Common.{◌∙◌, IfOk, subst, sym}
use Rattle.part_search.specs.Parted.{IsPartText}
use Rattle.part_search.specs.Settings.{untraced}
use Rattle.search_formats.proofs.Parts.{any_found, part_err, part_found, part_refused, whole_found}
use Rattle.search_formats.proofs.file.search_as_part.Goals as goal
use Rattle.search_run.specs.declared.wanted.Wanted.{Wanted}

pub returns-then-not-is_part-clause-searched : goal.returns-then-not-is_part-clause-searched
returns-then-not-is_part-clause-searched g c =
    whole_found c.args.part c.args.parts c.args.name.now c.args.text.now c.args.settings.now c.args.wanted c.search_and_write.result
    (sym c.is_part.ensures ∙ c.if-not-is_part.true) c.search_and_write.ensures.searched

pub returns-in-AtMost-clause-searched : goal.returns-in-AtMost-clause-searched
returns-in-AtMost-clause-searched g c =
    part_found c.args.part c.args.parts c.in-AtMost.switches c.args.name.now c.args.text.now c.args.settings.now c.args.wanted
    c.search_part_text-found.result c.part_kept.result (sym c.is_part.ensures ∙ c.if-not-is_part.false) c.in-AtMost.is c.part_kept.ensures
    (subst (λ (within : Wanted). IfOk c.search_part_text-found.result (λ searched. IsPartText c.args.name.now c.args.text.now c.args.settings.now
    (untraced within) c.args.part c.args.parts searched.raced searched.stopped searched.output.items)) c.wanted_within-within.ensures
    c.search_part_text-found.ensures.searched)

pub returns-in-AtMost-clause-refused : goal.returns-in-AtMost-clause-refused
returns-in-AtMost-clause-refused g c = part_refused _ _ _ c.part_kept.ensures c.search_part_text-found.ensures.refused

pub returns-in-AtMost-clause-file_limit : goal.returns-in-AtMost-clause-file_limit
returns-in-AtMost-clause-file_limit g c = part_err _ _ _ _ c.part_kept.ensures c.search_part_text-found.ensures.file_limit

pub returns-in-AtMost-clause-not_ascii : goal.returns-in-AtMost-clause-not_ascii
returns-in-AtMost-clause-not_ascii g c = part_err _ _ _ _ c.part_kept.ensures c.search_part_text-found.ensures.not_ascii

pub returns-in-Any-clause-searched : goal.returns-in-Any-clause-searched
returns-in-Any-clause-searched g c =
    any_found c.args.part c.args.parts c.args.name.now c.args.text.now c.args.settings.now c.args.wanted c.search_and_write-in-Any.result
    (sym c.is_part.ensures ∙ c.if-not-is_part.false) c.in-Any.is c.search_and_write-in-Any.ensures.searched
