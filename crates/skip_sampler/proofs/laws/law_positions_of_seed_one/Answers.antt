-- the generator is computed
use Rattle.std.proofs.Common.{refl}
use Rattle.rand_core.specs.Steps.{stream_of, u32_at, word_bytes}
use Rattle.rand_core.specs.Stream.{fill_bytes, next_u64}
use Rattle.skip_sampler.specs.Sampler.{after_generator_words, position}
use Rattle.skip_sampler.proofs.laws.law_positions_of_seed_one.Goals as goal

-- both sides compute to the list
pub returns : goal.returns
unfolding position after_generator_words stream_of next_u64 fill_bytes word_bytes u32_at
returns c = refl
