-- The members, one behind the other, and what is read of them.
use Rattle.std.proofs.Common.{◌∙◌, ◌^◌, ◌<◌, ap, subst}
use Rattle.std.specs.Prelude.{ℕ, IfSome, Option}
use Rattle.part_search.proofs.part_file.Back.{report_back}
use Rattle.part_search.specs.part_file.Values.{change_of, finder_of, new_data, number_data, old_data, report_data, setter_of}
use Rattle.part_search.proofs.part_file.values.report_value.Goals as goal

pub returns-clause-value : goal.returns-clause-value
unfolding report_data
returns-clause-value c =
    let report = c.args.report in
    c.build.ensures _ (c.number.ensures _ (setter_of report) (c.value-3.ensures _ (old_data (change_of report))
    (c.value-2.ensures _ (new_data (change_of report)) (c.value.ensures _ (number_data (finder_of report)) c.new.ensures
    (c.number_value.ensures ∙ ap number_data c.finder_of.ensures.is)) (c.new_value.ensures ∙ ap new_data c.change_of-change.ensures))
    (c.old_value.ensures ∙ ap old_data c.change_of-change.ensures)) c.setter_of.ensures.is)

pub returns-clause-back : goal.returns-clause-back
returns-clause-back c =
    report_back c.args.report (subst (λ (n : ℕ). n < 2 ^ 32) c.setter_of.ensures.is c.setter_of.ensures.small)
    (subst (λ (n : Option ℕ). IfSome n (λ finder. finder < 2 ^ 32)) c.finder_of.ensures.is c.finder_of.ensures.small)
