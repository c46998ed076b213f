-- the litmus file is the one that is asked for
use Rattle.std.proofs.Common.{ap}
use Rattle.std.specs.Option.{option_map}
use Rattle.litmus_command.proofs.command.show.Goals as goal

pub show_sourced-requires : goal.show_sourced-requires
show_sourced-requires g c = ap (λ source. option_map (λ path. path.now) source) c.in-Some.is
