-- a text that is there stays alone
use Rattle.std.proofs.Common.{◌≡◌, ◌∙◌, ap, sym}
use Rattle.std.specs.List.{list_any}
use Rattle.report_text.specs.Groups.{is_text}
use Rattle.search_text.proofs.VecTexts.{new_text, old_text}
use Rattle.search_text.specs.Texts.{texts_in}
use Rattle.search_text.proofs.texts.add_text.Goals as goal

pub returns-then-contains : goal.returns-then-contains
returns-then-contains c = old_text c.args.texts.now.items c.args.text
    (ap (list_any (λ other. is_text other.items c.args.text.items)) (sym c.deref.ensures.value) ∙ sym c.contains.ensures.value
    ∙ c.if-contains.true)

pub returns : goal.returns
returns c = ap texts_in c.in_ok-push.ensures.items ∙ new_text c.args.texts.now.items c.args.text
    (ap (list_any (λ other. is_text other.items c.args.text.items)) (sym c.deref.ensures.value) ∙ sym c.contains.ensures.value
    ∙ c.if-contains.false)
