-- one end more
use Rattle.std.proofs.Common.{◌∙◌, ◌<◌, [], ℕ, Bor, List, Vec, ap, get_or, length, subst, sym}
use Rattle.std.specs.Global.{Global}
use Rattle.file_commands.proofs.TogetherLemmas.{end_there, more_ends}
use Rattle.file_commands.specs.FilesAsked.{asked_by}
use Rattle.file_commands.specs.Together.{AreEndsOf, IsEndOfText, texts_of}
use Rattle.file_commands.specs.declared.together.NumberedEnd.{NumberedEnd}
use Rattle.file_commands.proofs.together.ends_in_turn.Goals as goal
use Rattle.file_commands.proofs.together.ends_in_turn.Goals.{in-Some+in_ok-end+in_ok-push, in_default}

pub loop-preserved : goal.loop-preserved
loop-preserved g c =
    let asked = asked_by c.args.asked.now in
    let settings = c.args.settings.now in
    let texts = c.args.texts.now in
    let at = c.fetch_add-at.result in
    let none : Bor (List ℕ) = record { ref_ptr = (0, 0); now = [] } in
    let there : at < length texts = c.if-at-texts.false in
    elim c.match-texts-at.branch [
      | in-Some+in_ok-end+in_ok-push w ↦
          more_ends asked settings (texts_of texts) c.loop.ends.items c.match-texts-at.ends.items (record { at = at; end = w.in_ok-end.end })
          c.loop.invariant
          (end_there asked settings texts at none c.index-texts-at.result w.in-Some.text w.in_ok-end.end there c.requires.texts c.index-texts-at.is
          w.in-Some.is
          (subst (λ (text : List ℕ). IsEndOfText asked settings (get_or asked.files at none).now text w.in_ok-end.end) w.deref.ensures.value
          w.in_ok-end.ensures))
          (ap (λ (ends : Vec NumberedEnd Global). ends.items) w.ends-is ∙ w.in_ok-push.ensures.items)
      | in_default w ↦
          subst (λ (ends : Vec NumberedEnd Global). AreEndsOf asked settings (texts_of texts) ends.items) (sym w.ends-is) c.loop.invariant
    ]
