-- The value of a part says that it is one.
use Rattle.std.proofs.Common.{◌≡◌, ap, codes, false, true}
use Rattle.part_search.specs.part_file.Reads.{text_at}
use Rattle.part_search.specs.part_file.Values.{format, part_data}
use Rattle.serde_json.specs.Data.{Data}
use Rattle.serde_json.specs.View.{view}
use Rattle.part_search.proofs.part_file.text.part_in_value.Goals as goal

pub returns-then-not-is_of_part : goal.returns-then-not-is_of_part
unfolding part_data
returns-then-not-is_of_part c = λ part is back.
    let says : text_at (codes "format") (view c.args.value.now) ≡ format = ap (λ (d : Data). text_at (codes "format") d) is in
    let holds : c.is_of_part.result ≡ true = c.is_of_part.ensures.1 says in
    let fails : c.is_of_part.result ≡ false = c.if-not-is_of_part.true in
    cc
