-- Placed or not.
use Rattle.std.proofs.Common.{◌∙◌, ap, sym}
use Rattle.std.specs.Option.{option_map}
use Rattle.prepared_program.proofs.program_layout.PlaceLemmas.{bytes_are, not_placed, placed}
use Rattle.prepared_program.proofs.program_layout.layout.bytes_at.Goals as goal
use Rattle.prepared_program.proofs.program_layout.layout.bytes_at.Goals.{in-Some, in-None}

pub returns : goal.returns
returns c = elim c.match-place_of.branch [
  | in-Some w ↦ bytes_are c.args.variable.now (w.addr-is ∙ sym (placed c.args.places.now c.args.number c.args.variable.now w.in-Some.place.now
      (sym c.place_of.ensures ∙ ap (option_map (λ place. place.now)) w.in-Some.is))) c.size_of.ensures
  | in-None w ↦ bytes_are c.args.variable.now (w.addr-is ∙ sym (not_placed c.args.places.now c.args.number c.args.variable.now
      (sym c.place_of.ensures ∙ ap (option_map (λ place. place.now)) w.in-None.is))) c.size_of.ensures
]
