-- The members, one behind the other.
use Rattle.std.proofs.Common.{◌∙◌, ap}
use Rattle.std.proofs.lemmas.Result.{IfOk-weaker}
use Rattle.access_types.specs.Kind.{access_words}
use Rattle.output_pieces.specs.Values.{column_data, line_data, statement_data, text_data}
use Rattle.search_json.specs.Reports.{told_data}
use Rattle.search_json.proofs.reports.told_value.Goals as goal

pub returns : goal.returns
unfolding told_data
returns c =
    let text = c.args.text.now in
    let at = c.args.at in
    let access = c.args.access.now in
    let name = text_data c.args.name.now in
    c.build.ensures _ (c.value-4.ensures _ name (c.value-3.ensures _ (statement_data text at) (c.number-5.ensures _ access.task
    (c.number-4.ensures _ access.size (c.number-3.ensures _ access.site (c.number-2.ensures _ access.rep (c.value-2.ensures _ (line_data text at)
    (c.value.ensures _ (column_data text at) (c.number.ensures _ access.addr (c.text.ensures _ (access_words access.kind) c.new.ensures
    (c.words.ensures ∙ ap access_words c.kind.ensures)) c.addr.ensures.value) c.column_value.ensures) c.line_value.ensures)
    c.rep.ensures.value) c.site.ensures.value) c.size.ensures.value) c.task.ensures.value) c.statement_value.ensures)
    (IfOk-weaker c.text_value.result _ _ (λ value is. is ∙ ap text_data c.as_bytes.ensures.value) c.text_value.ensures))
