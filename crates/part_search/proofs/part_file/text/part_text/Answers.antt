-- The value has no float, so its text is the compact one, and reads as the value.
use Rattle.std.proofs.Common.{◌≡◌, ◌∙◌, ◌++◌, ◌≤◌, ℕ, [], List, ap, arith, codes, false, subst, sym}
use Rattle.std.specs.Prelude.{IsUtf8, Some}
use Rattle.std.proofs.lemmas.Str.{IsUtf8-string_bytes}
use Rattle.part_search.proofs.part_file.Shapes.{part_none, part_shallow}
use Rattle.part_search.specs.part_file.Texts.{line_of}
use Rattle.part_search.specs.part_file.Views.{part_view}
use Rattle.serde_json.specs.Data.{Data, depth}
use Rattle.serde_json.specs.Read.{read}
use Rattle.serde_json.specs.Written.{compact_text, has_float}
use Rattle.part_search.proofs.part_file.text.part_text.Goals as goal

pub returns : goal.returns
unfolding line_of
returns c =
    let part = part_view c.args.part.now in
    let value = c.in_ok-value.ensures.0 in
    let none = subst (λ (d : Data). has_float d ≡ false) (sym value) (part_none part) in
    let shallow = subst (λ (d : Data). depth d ≤ 6) (sym value) (part_shallow part) in
    let text = c.in_ok-text.ensures.text none ∙ ap compact_text value in
    let back = c.in_ok-text.ensures.reads_back (omega (arith, shallow)) in
    record {
      written = c.in_ok-line.ensures
          ∙ ap (λ (t : List ℕ). t ++ (codes "\n" ++ [])) (c.as_bytes.ensures.value ∙ (c.as_str.ensures.value ∙ text));
      valid = subst IsUtf8 text (IsUtf8-string_bytes c.in_ok-text.text);
      spelled = sym (ap read text) ∙ back ∙ ap Some value;
      back = c.in_ok-value.ensures.1;
    }
