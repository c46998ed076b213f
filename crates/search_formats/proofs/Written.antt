-- What is written of the same findings, as far as the same search went, is the same.
use Rattle.std.proofs.Common.{◌≡◌, ◌∙◌, ℕ, Bool, List, ap}
use Rattle.access_types.specs.Sites.{AccessMap}
use Rattle.litmus_syntax.specs.declared.program.Program.{Program}
use Rattle.prepared_program.specs.declared.program_sites.settings.Settings.{Settings}
use Rattle.search_formats.specs.Files.{written}
use Rattle.search_formats.specs.declared.wanted.Format.{Format}
use Rattle.search_text.specs.declared.found.SearchFindings.{SearchFindings}

module _ (format : Format) (name : List ℕ) (program : Program) (text : List ℕ) (spots : List (List ℕ)) (sites : AccessMap) (settings : Settings)
    (bounded : Bool) (visited : ℕ) where
  pub same_written : (reported ended r e : SearchFindings) (stopped s : Bool) → reported ≡ r → ended ≡ e → stopped ≡ s
      → written format name program text spots sites settings reported ended (record { bounded = bounded; visited = visited; stopped = stopped })
      ≡ written format name program text spots sites settings r e (record { bounded = bounded; visited = visited; stopped = s })
  same_written reported ended r e stopped s p q t =
      ap (λ (found : SearchFindings). written format name program text spots sites settings found ended
      (record { bounded = bounded; visited = visited; stopped = stopped })) p
      ∙ ap (λ (found : SearchFindings). written format name program text spots sites settings r found
      (record { bounded = bounded; visited = visited; stopped = stopped })) q
      ∙ ap (λ (told : Bool). written format name program text spots sites settings r e
      (record { bounded = bounded; visited = visited; stopped = told })) t
