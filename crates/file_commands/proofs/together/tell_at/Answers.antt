-- what is told of the file at this place
use Rattle.std.proofs.Common.{◌≡◌, ◌∙◌, [], ℕ, Bor, IfOk, List, None, Option, Some, ap, get_or, subst, sym}
use Rattle.std.proofs.lemmas.Option.{get_or_from_slice_get}
use Rattle.std.proofs.lemmas.Result.{IfOk-weaker}
use Rattle.file_commands.proofs.TogetherLemmas.{lost_once, text_at}
use Rattle.file_commands.specs.Desks.{DeskState}
use Rattle.file_commands.specs.FileWork.{IsLostOf}
use Rattle.file_commands.specs.FilesAsked.{asked_by}
use Rattle.file_commands.specs.Together.{IsSaidOnce, text_of, texts_of}
use Rattle.file_commands.proofs.together.tell_at.Goals as goal

pub returns-in_ok-end-in-Some-clause-said : goal.returns-in_ok-end-in-Some-clause-said
returns-in_ok-end-in-Some-clause-said g c = λ given text given_is text_is.
    let asked = asked_by c.args.asked.now in
    let settings = c.args.settings.now in
    let texts = c.args.texts.now in
    let at = c.args.at in
    let before : DeskState = g.D.Desk.state c.args.desk.now in
    let after : DeskState = g.D.Desk.state c.tell_end.new.desk in
    let none : Bor (List ℕ) = record { ref_ptr = (0, 0); now = [] } in
    let name : Bor (List ℕ) = get_or asked.files at none in
    let named : name ≡ given = get_or_from_slice_get asked.files at given none given_is in
    let read : List ℕ = c.deref.result.now in
    let text_now : Some read ≡ text =
    ap (λ (text : List ℕ). Some text) c.deref.ensures.value ∙ (sym (ap text_of c.in-Some.is)
    ∙ text_at texts at c.index-texts-at.result text c.requires.at c.index-texts-at.is text_is) in
    let is_end = c.in_ok-end-in-Some.ensures.end (texts_of texts) given c.requires.ends given_is
    (sym (ap (λ (file : Bor (List ℕ)). file.now) named)) (text_is ∙ ap (λ (text : Option (List ℕ)). Some text) (sym text_now)) in
    subst (λ (t : Option (List ℕ)). IfOk c.tell_end.result (λ said. IsSaidOnce asked settings given.now t said before after)) text_now
    (subst (λ (n : Bor (List ℕ)). IfOk c.tell_end.result (λ said. IsSaidOnce asked settings n.now (Some read) said before after)) named
    (c.tell_end.ensures.said settings read is_end))

pub returns-in-None-clause-said : goal.returns-in-None-clause-said
returns-in-None-clause-said g c = λ given text given_is text_is.
    let asked = asked_by c.args.asked.now in
    let settings = c.args.settings.now in
    let before : DeskState = g.D.Desk.state c.args.desk.now in
    let after : DeskState = g.D.Desk.state c.tell_lost.new.desk in
    let none : Bor (List ℕ) = record { ref_ptr = (0, 0); now = [] } in
    let named : get_or asked.files c.args.at none ≡ given = get_or_from_slice_get asked.files c.args.at given none given_is in
    let unread : None ≡ text =
    sym (ap text_of c.in-None.is) ∙ text_at c.args.texts.now c.args.at c.index-texts-at.result text c.requires.at c.index-texts-at.is text_is in
    subst (λ (t : Option (List ℕ)). IfOk c.tell_lost.result (λ said. IsSaidOnce asked settings given.now t said before after)) unread
    (IfOk-weaker c.tell_lost.result _ _ (λ said lost. lost_once asked settings given.now said before after
    (subst (λ (n : Bor (List ℕ)). IsLostOf asked n.now said before after) named lost)) c.tell_lost.ensures.lost)
