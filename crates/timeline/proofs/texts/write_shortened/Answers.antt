-- a text that is cut has `..` behind its first 60 signs
use Rattle.std.proofs.Common.{◌≡◌, ◌<◌, ◌≤◌, ◌++◌, ◌∙◌, ℕ, List, ap, arith, codes, false, length, refl, sym, take, true}
use Rattle.std.proofs.lemmas.Bool.{le-leb, lt-leb}
use Rattle.std.proofs.lemmas.Grind.{flat_map-append}
use Rattle.std.proofs.lemmas.List.{length-take-le}
use Rattle.std.specs.Prelude.{if◌then◌else◌, nat_le}
use Rattle.report_text.proofs.SinkSteps.{fails_first, writes_after, writes_error, writes_same}
use Rattle.timeline.specs.Texts.{byte_text, short, shortened, spelled}
use Rattle.timeline.specs.declared.texts.Markup.{Markup}
use Rattle.timeline.specs.declared.texts.Markup.TheVariants.{Plain, Xml}
use Rattle.timeline.proofs.texts.write_shortened.Goals as goal

is_whole : (markup : Markup) (text : List ℕ) → length text ≤ 62 → spelled markup text ≡ short markup text
unfolding shortened
is_whole markup text fits =
    let yes : nat_le (length text) 62 ≡ true = le-leb (length text) 62 fits in
    ap (λ b. spelled markup (if b then text else take 60 text ++ codes "..")) (sym yes)

dots : (markup : Markup) → spelled markup (codes "..") ≡ codes ".."
dots Plain = refl
dots Xml = refl

is_cut : (markup : Markup) (text : List ℕ) → 62 < length text → spelled markup (take 60 text) ++ codes ".." ≡ short markup text
unfolding shortened
is_cut markup text long =
    let no : nat_le (length text) 62 ≡ false = lt-leb (length text) 62 long in
    ap (λ t. spelled markup (take 60 text) ++ t) (sym (dots markup))
    ∙ sym (flat_map-append (byte_text markup) (take 60 text) (codes ".."))
    ∙ ap (λ b. spelled markup (if b then text else take 60 text ++ codes "..")) (sym no)

pub returns-then-text-le-ROOM : goal.returns-then-text-le-ROOM
returns-then-text-le-ROOM g c =
    writes_same g.K.Sink.written g.K.Sink.failures _ _ _ _ _ (is_whole c.args.markup c.args.text.now c.if-text-le-ROOM.true) c.write_text.ensures

pub slice_bounds-write_text-length : goal.slice_bounds-write_text-length
slice_bounds-write_text-length g c = sym (length-take-le 60 c.args.text.now (omega arith))

pub returns-in_err-write_text : goal.returns-in_err-write_text
returns-in_err-write_text g c =
    writes_same g.K.Sink.written g.K.Sink.failures _ _ _ _ _ (is_cut c.args.markup c.args.text.now c.if-text-le-ROOM.false)
    (writes_error g.K.Sink.written g.K.Sink.failures _ _ _ _ c.from_residual.ensures.0
    (fails_first g.K.Sink.written g.K.Sink.failures _ _ _ _ c.in_err-write_text.ensures))

pub returns : goal.returns
returns g c =
    writes_same g.K.Sink.written g.K.Sink.failures _ _ _ _ _ (is_cut c.args.markup c.args.text.now c.if-text-le-ROOM.false)
    (writes_after g.K.Sink.written g.K.Sink.failures _ _ _ _ _ _ c.in_ok-write_text.ensures c.write_all.ensures)
