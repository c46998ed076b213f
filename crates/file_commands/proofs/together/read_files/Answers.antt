-- one file more is read
use Rattle.std.proofs.Common.{◌∙◌, ◌<◌, ◌++◌, ◌∷◌, [], ℕ, Bor, List, Option, Vec, ap, get_or, length, refl, rules}
use Rattle.std.proofs.lemmas.List.{map-append}
use Rattle.std.specs.Global.{Global}
use Rattle.file_commands.proofs.CheckLemmas.{next_name, on_err}
use Rattle.file_commands.proofs.TogetherLemmas.{first_read, one_read}
use Rattle.file_commands.specs.FilesAsked.{asked_by}
use Rattle.file_commands.specs.Together.{FirstAreRead, text_of, texts_of}
use Rattle.file_commands.proofs.together.read_files.Goals as goal

pub returns-in_err-push-clause-left : goal.returns-in_err-push-clause-left
returns-in_err-push-clause-left g c =
    let seen = g.D.Desk.state in
    let asked = asked_by c.args.asked.now in
    let files = c.args.asked.now.files.now in
    let loop = c.loop-name in
    let text = text_of c.in_ok-text.text in
    let there : loop.name-index < length files = search rules in
    let none : Bor (List ℕ) = record { ref_ptr = (0, 0); now = [] } in
    let name = (get_or files loop.name-index none).now in
    on_err (FirstAreRead asked (seen c.args.desk.now) (seen c.read_text.new.desk)) _
    (first_read asked _ (texts_of loop.texts.items ++ text ∷ []) (seen c.args.desk.now) (seen c.read_text.new.desk)
    (one_read asked loop.name-index (texts_of loop.texts.items) (texts_of loop.texts.items ++ text ∷ []) (seen c.args.desk.now)
    (seen loop.desk) (seen c.read_text.new.desk) name text loop.invariant (next_name files loop.name-index none name there refl)
    c.in_ok-text.ensures.read refl))

pub loop-name-preserved : goal.loop-name-preserved
loop-name-preserved g c =
    let seen = g.D.Desk.state in
    let asked = asked_by c.args.asked.now in
    let files = c.args.asked.now.files.now in
    let loop = c.loop-name in
    let text = text_of c.in_ok-text.text in
    let there : loop.name-index < length files = search rules in
    let none : Bor (List ℕ) = record { ref_ptr = (0, 0); now = [] } in
    let name = (get_or files loop.name-index none).now in
    one_read asked loop.name-index (texts_of loop.texts.items) (texts_of c.push.new.self.items) (seen c.args.desk.now)
    (seen loop.desk) (seen c.read_text.new.desk) name text loop.invariant (next_name files loop.name-index none name there refl)
    c.in_ok-text.ensures.read
    (ap (λ (texts : List (Option (Vec ℕ Global))). texts_of texts) c.in_ok-push.ensures.items
    ∙ map-append text_of loop.texts.items (c.in_ok-text.text ∷ []))
