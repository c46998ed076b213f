-- Which askings are answered yes, by skip and seed, and the state that so many askings lead to.
use Rattle.std.specs.Prelude.{◌≡◌, ◌+◌, ◌-◌, ◌%◌, ◌<◌, ◌≤◌, ◌&&◌, ◌==◌, ℕ, zero, suc, List, Bool}
use Rattle.std.specs.Prelude.{not, if◌then◌else◌}
use Rattle.rand_core.specs.Stream.{Stream, next_u64}
use Rattle.rand_core.specs.Steps.{stream_of, steps_u64_high}
use Rattle.rand_xoshiro.specs.SplitMix64.{splitmix_seed}
use Rattle.rand_xoshiro.specs.Xoshiro256.{of_seed, plus_plus}

-- what a generator in this state gives
abbrev pub stream_from : List ℕ → Stream
stream_from state = stream_of (steps_u64_high plus_plus) state

-- what the generator of a seed gives
abbrev pub stream_of_seed : ℕ → Stream
stream_of_seed seed = stream_from (of_seed (splitmix_seed 32 seed))

-- what is left of a stream after so many words
unfoldable pub after_generator_words : ℕ → Stream → Stream
after_generator_words zero stream = stream
after_generator_words (suc k) stream = (next_u64 (after_generator_words k stream)).1

-- the generator's word at k, from 0
abbrev pub generator_word : ℕ → ℕ → ℕ
generator_word seed k = (next_u64 (after_generator_words k (stream_of_seed seed))).0

-- skips are drawn where randomizing is on and there is something to skip
abbrev pub is_drawn : ℕ → Bool → Bool
is_drawn skip randomize = randomize && not (skip == 0)

-- how many askings are answered no after a yes: skip, or where it is drawn a number from 1 to skip
-- that a word gives
abbrev pub gap_by : ℕ → Bool → ℕ → ℕ
gap_by skip randomize drawn = if is_drawn skip randomize then skip - drawn % skip else skip

-- how many are answered no after the yes at k
abbrev pub gap : ℕ → Bool → ℕ → ℕ → ℕ
gap skip randomize seed k = gap_by skip randomize (generator_word seed k)

-- the asking, from 1, that is answered yes after k others were
unfoldable pub position : ℕ → Bool → ℕ → ℕ → ℕ
position skip randomize seed zero = skip + 1
position skip randomize seed (suc k) =
    position skip randomize seed k + gap skip randomize seed k + 1

-- the askings that are answered yes
abbrev pub SamplerPositions : ℕ → Bool → ℕ → ℕ → Type 0
SamplerPositions skip randomize seed asking = (k : ℕ) × (position skip randomize seed k ≡ asking)

-- what a sampler keeps: its settings, how many askings it still answers no, and its generator's
-- state
pub record Sampler : Type 0 where
  pub skip : ℕ
  pub randomize : Bool
  pub counter : ℕ
  pub generator : List ℕ

-- so many askings lead to the sampler: its settings stand, its counter reaches to the next
-- position, and it has drawn a word for each position before
pub record LeadsTo (skip : ℕ) (randomize : Bool) (seed askings : ℕ) (sampler : Sampler) : Type 0
  where
    pub skip_is : sampler.skip ≡ skip
    pub randomize_is : sampler.randomize ≡ randomize
    pub answered : ℕ
    pub passed : (k : ℕ) → k < answered → position skip randomize seed k ≤ askings
    pub next : askings + sampler.counter + 1 ≡ position skip randomize seed answered
    pub drawn :
        stream_from sampler.generator
        ≡ after_generator_words (if is_drawn skip randomize then answered else 0)
        (stream_of_seed seed)
