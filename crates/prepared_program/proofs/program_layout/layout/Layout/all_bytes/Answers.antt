-- By the place in the list.
use Rattle.std.proofs.Common.{◌≡◌, ◌∙◌, ℕ, List, Vec, Global, ap, map}
use Rattle.access_types.specs.declared.history.Bytes.{Bytes}
use Rattle.litmus_semantics.specs.TextSites.{bytes_among}
use Rattle.prepared_program.proofs.program_layout.LayLemmas.{all_got, if_made}
use Rattle.prepared_program.proofs.program_layout.layout.Layout.all_bytes.Goals as goal

pub returns : goal.returns
returns c = λ places variables lays.
    if_made c.bytes_laid.result
    (λ (bytes : Vec Bytes Global) (is : bytes.items ≡ map (λ (l : Bytes × ℕ). l.0) c.args.self.now.variables.items) n.
    ap (λ (bs : List Bytes). bytes_among bs n) is ∙ all_got places variables c.args.self.now.variables.items n lays)
    c.bytes_laid.ensures
