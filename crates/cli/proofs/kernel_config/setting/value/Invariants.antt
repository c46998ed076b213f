use Rattle.std.proofs.Common.{◌≡◌, Bor, ℕ, List, map, option_map}
use Rattle.cli.specs.kernel_config.Setting.{last_said}
use Rattle.cli.proofs.kernel_config.setting.value.Given as goal

abbrev pub invariant-loop-line : goal.invariant-loop-line
invariant-loop-line l = option_map (λ (value : Bor (List ℕ)). value.now) l.value ≡ last_said l.name (map (λ (it : Bor (List ℕ)). it.now) l.yielded)
