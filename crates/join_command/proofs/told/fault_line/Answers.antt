-- the file of the part with which something is amiss is there, and the first part is
use Rattle.std.proofs.Common.{◌∙◌, ◌<◌, [], Bor, List, ap, arith, codes, get_or, length, refl, subst, sym, ℕ}
use Rattle.std.proofs.lemmas.Option.{slice_get-get_or, slice_get_read, slice_get_within}
use Rattle.std.proofs.lemmas.Result.{IfOk-weaker}
use Rattle.join_command.specs.Told.{IsFaultLine, line_on, numbered}
use Rattle.part_search.specs.part_file.Wholes.{HasWrong, IsFault, LacksOne}
use Rattle.part_search.specs.declared.part_file.part.Part.{Part}
use Rattle.part_search.specs.declared.part_file.whole.PartsFault.{PartsFault}
use Rattle.join_command.proofs.told.fault_line.Goals as goal

pub returns-in_ok-why-in-At : goal.returns-in_ok-why-in-At
returns-in_ok-why-in-At c =
    let files = c.args.files.now in
    let parts = c.args.parts.now in
    let place = c.in-At.place in
    let part = c.index-parts-place.result in
    let none : Bor (List ℕ) = record { ref_ptr = (0, 0); now = [] } in
    let name : Bor (List ℕ) = get_or files place none in
    let wrong : HasWrong place c.in-At.fault parts = subst (λ (fault : PartsFault). IsFault fault parts) c.in-At.is c.requires.fault in
    let here : place < length parts = slice_get_within parts place wrong.wrong.part wrong.wrong.here in
    let all = c.requires.all in
    let named : place < length files = omega (arith, here, all) in
    let some : 0 < length files = omega (arith, named) in
    IfOk-weaker c.line_on.result _ _ (λ line is. subst (λ (fault : PartsFault). IsFaultLine files parts fault line.items) (sym c.in-At.is) (record {
      first = get_or files 0 none;
      begins = slice_get-get_or files 0 none some;
      name = name;
      name_is = slice_get-get_or files place none named;
      part = part;
      part_is = slice_get_read parts (length parts) place part refl here c.index-parts-place.is;
      line_is = is ∙ ap (λ (why : List ℕ). line_on name.now why) (c.deref.ensures.value ∙ c.in_ok-why-in-At.ensures);
    })) c.line_on.ensures

pub returns-in-Missing : goal.returns-in-Missing
returns-in-Missing c =
    let files = c.args.files.now in
    let parts = c.args.parts.now in
    let first = c.index-parts-0.result in
    let lacks : LacksOne c.in-Missing.part parts = subst (λ (fault : PartsFault). IsFault fault parts) c.in-Missing.is c.requires.fault in
    let some : 0 < length parts = slice_get_within parts 0 lacks.first lacks.begins in
    IfOk-weaker c.numbered.result _ _ (λ line is. subst (λ (fault : PartsFault). IsFaultLine files parts fault line.items) (sym c.in-Missing.is) (record {
      first = first;
      begins = slice_get_read parts (length parts) 0 first refl some c.index-parts-0.is;
      line_is = is ∙ ap (λ (own : Part). numbered c.in-Missing.part own.parts (codes " is missing\n")) (sym c.index-parts-0.is);
    })) c.numbered.ensures
