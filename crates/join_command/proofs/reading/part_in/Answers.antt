-- the text of a part is refused only for want of memory
use Rattle.std.proofs.Common.{◌≡◌, ◌∙◌, Bor, List, None, Option, Some, ap, inl, inr, sym, ℕ}
use Rattle.std.specs.Prelude.{option_map}
use Rattle.join_command.specs.Told.{OfNone, error_words}
use Rattle.part_search.specs.declared.part_file.text.PartError.{PartError}
use Rattle.join_command.proofs.reading.part_in.Goals as goal

pub returns-in-Some : goal.returns-in-Some
returns-in-Some c =
    let why = c.in-Some.why.now in
    let told : Some why ≡ error_words c.in-Err.error =
    sym (ap (λ (found : Option (Bor (List ℕ))). option_map (λ words. words.now) found) c.in-Some.is) ∙ c.error_words.ensures in
    record {
      part = tt;
      none = elim c.refused-in-Some.ensures [
        | inl line ↦ inl (record {
          why = why;
          no_part = OfNone (λ part of. absurd (let no : Some why ≡ None =
              told ∙ ap (λ (error : PartError). error_words error) (c.in-Err.ensures.back part of) in cc)) c.in-Err.error (sym told);
          told = line;
        })
        | inr out ↦ inr out
      ];
    }
