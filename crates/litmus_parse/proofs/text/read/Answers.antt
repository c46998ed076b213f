-- The head, the tokens and what they are read as spell the text.
use Rattle.std.proofs.Common.{◌≡◌, ◌∙◌, subst, sym}
use Rattle.std.specs.Str.{IsUtf8}
use Rattle.litmus_lex.specs.declared.cursor.Refusal.TheVariants.{OutOfMemory}
use Rattle.litmus_lex.specs.Front.{symbols_left}
use Rattle.litmus_parse.proofs.DeclarationRefusals.{err_holds}
use Rattle.litmus_parse.specs.TextReader.{program_at}
use Rattle.litmus_parse.proofs.NamesUtf8.{names_are_utf8}
use Rattle.litmus_parse.proofs.Read.{complete_if, result_is_spelled, spelled_is_read}
use Rattle.litmus_parse.proofs.text.read.Goals as goal

pub returns-clause-spelled : goal.returns-clause-spelled
returns-clause-spelled c =
    λ size bytes.
    let h = c.in-Ok.ensures in
    let t = c.in_ok-spots.ensures in
    let n = c.in_ok-name_of.ensures.ok in
    let p = c.whole.ensures in
    result_is_spelled c.args.text.now c.in-Ok.head.after c.in-Ok.head.name.now c.in_ok-name_of.field-0 c.in_ok-spots.spots.items c.new-cursor.result.left.now
    c.whole.result size bytes h.part h.head t.spelled t.found n (c.new-cursor.ensures ∙ c.deref.ensures.value) p.reads

pub returns-in-Err-clause-complete : goal.returns-in-Err-clause-complete
returns-in-Err-clause-complete c = λ program spells. absurd (c.in-Err.ensures.only program.name spells.lexed.at spells.lexed.head)

pub returns-in_err-name_of-clause-complete : goal.returns-in_err-name_of-clause-complete
returns-in_err-name_of-clause-complete c =
    λ program spells.
    let heads = c.in-Ok.ensures.only program.name spells.lexed.at spells.lexed.head in
    err_holds (λ refusal. refusal ≡ OutOfMemory) c.from_residual-in_err-name_of.result c.in_err-name_of.field-0.0
    c.from_residual-in_err-name_of.ensures.1
    (c.in_err-name_of.ensures.err (subst IsUtf8 (sym heads.0) (names_are_utf8 c.args.text.now program spells).2))

pub returns-clause-complete : goal.returns-clause-complete
returns-clause-complete c =
    λ program spells.
    let h = c.in-Ok.ensures in
    let t = c.in_ok-spots.ensures in
    let named = names_are_utf8 c.args.text.now program spells in
    complete_if c.whole.result (program_at c.in_ok-name_of.field-0 (symbols_left c.new-cursor.result)) program
    (spelled_is_read c.args.text.now c.in-Ok.head.after c.in-Ok.head.name.now c.in_ok-name_of.field-0 c.in_ok-spots.spots.items
    c.new-cursor.result.left.now h.part h.only t.spelled c.in_ok-name_of.ensures.ok (c.new-cursor.ensures ∙ c.deref.ensures.value) program spells)
    (named.0, named.1) c.whole.ensures.refuses
