-- A sampler counts down to the next position, and draws one generator word at each.
use Rattle.std.proofs.Common.{◌≡◌, ◌<◌, ◌≤◌, ◌⊎◌, ◌*◌, ◌+◌, ◌-◌, ◌%◌, ◌∙◌, ℕ, zero, suc, List, Bool}
use Rattle.std.proofs.Common.{true, false, refl, sym, ap, arith, below_more, add-one, add-zero}
use Rattle.std.proofs.Common.{add-suc, le_refl, subst, inl, inr, if◌then◌else◌}
use Rattle.std.proofs.lemmas.Bool.{cases_lt}
use Rattle.rand_core.specs.Stream.{Stream, next_u64}
use Rattle.rand_core.specs.Steps.{stream_of}
use Rattle.rand_xoshiro.specs.SplitMix64.{splitmix_seed}
use Rattle.rand_xoshiro.specs.Xoshiro256.{of_seed, plus_plus}
use Rattle.skip_sampler.specs.Sampler.{LeadsTo, Sampler, SamplerPositions, after_generator_words}
use Rattle.skip_sampler.specs.Sampler.{gap, gap_by, is_drawn, position, stream_from, stream_of_seed}
use Rattle.skip_sampler.specs.Sampler.{generator_word}

-- one generator word more
after_generator_words-suc : (k : ℕ) (stream : Stream)
    → after_generator_words (suc k) stream ≡ (next_u64 (after_generator_words k stream)).1
unfolding after_generator_words
after_generator_words-suc k stream = refl

-- the next position
position-suc : (skip : ℕ) (randomize : Bool) (seed k : ℕ)
    → position skip randomize seed (suc k)
    ≡ position skip randomize seed k + gap skip randomize seed k + 1
unfolding position
position-suc skip randomize seed k = refl

position-next : (skip : ℕ) (randomize : Bool) (seed k : ℕ)
    → position skip randomize seed (k + 1)
    ≡ position skip randomize seed k + gap skip randomize seed k + 1
position-next skip randomize seed k =
    ap (position skip randomize seed) (add-one k) ∙ position-suc skip randomize seed k

-- later positions are later
position-more : (skip : ℕ) (randomize : Bool) (seed k more : ℕ)
    → position skip randomize seed k ≤ position skip randomize seed (k + more)
position-more skip randomize seed k zero = rw add-zero (le_refl (position skip randomize seed k))
position-more skip randomize seed k (suc more) =
    let so_far = position-more skip randomize seed k more in
    let once = position-suc skip randomize seed (k + more) in
    rw add-suc (omega arith)

pub position-le : (skip : ℕ) (randomize : Bool) (seed j k : ℕ) → j ≤ k
    → position skip randomize seed j ≤ position skip randomize seed k
position-le skip randomize seed j k order =
    let P : ℕ → Type 0 = λ n. position skip randomize seed j ≤ position skip randomize seed n in
    let sum : j + (k - j) ≡ k = omega arith in
    subst P sum (position-more skip randomize seed j (k - j))

none_drawn : (drawn : Bool) (stream : Stream)
    → after_generator_words (if drawn then 0 else 0) stream ≡ stream
unfolding after_generator_words
none_drawn true stream = refl
none_drawn false stream = refl

-- no asking leads to the sampler that new makes
pub leads-new : (skip : ℕ) (randomize : Bool) (seed : ℕ) (state : List ℕ)
    → stream_from state ≡ stream_of_seed seed
    → LeadsTo skip randomize seed 0
    (record { skip = skip; randomize = randomize; counter = skip; generator = state })
unfolding position after_generator_words
leads-new skip randomize seed state same = record {
  skip_is = refl;
  randomize_is = refl;
  answered = 0;
  passed = λ k below. absurd (omega arith);
  next = omega arith;
  drawn = same ∙ sym (none_drawn (is_drawn skip randomize) (stream_of_seed seed));
}

-- a sampler that counts down has no position before it
pub not_yet : (skip : ℕ) (randomize : Bool) (seed askings : ℕ) (sampler : Sampler)
    → 0 < sampler.counter → LeadsTo skip randomize seed askings sampler
    → ¬ SamplerPositions skip randomize seed (askings + 1)
not_yet skip randomize seed askings sampler counts h here =
    let next = h.next in
    let is = here.1 in
    elim (cases_lt here.0 h.answered) [
      | inl earlier ↦ let passed = h.passed here.0 earlier in omega arith
      | inr later ↦ let order = position-le skip randomize seed h.answered here.0 later in
          omega arith
    ]

same_gap : (s skip : ℕ) (r randomize : Bool) (drawn : ℕ) → s ≡ skip → r ≡ randomize
    → gap_by s r drawn ≡ gap_by skip randomize drawn
same_gap s skip r randomize drawn e f = rw (e, f) refl

-- what is drawn at a yes, and what is left
one_gap : (skip : ℕ) (randomize drawn : Bool) (seed answered : ℕ) (stream : Stream)
    → is_drawn skip randomize ≡ drawn
    → stream ≡ after_generator_words (if drawn then answered else 0) (stream_of_seed seed)
    → gap_by skip randomize (next_u64 stream).0 ≡ gap skip randomize seed answered
one_gap skip randomize true seed answered stream e f =
    ap (λ s. gap_by skip randomize (next_u64 s).0) f
one_gap skip randomize false seed answered stream e f = rw e refl

one_rest : (drawn : Bool) (seed answered : ℕ) (stream : Stream)
    → stream ≡ after_generator_words (if drawn then answered else 0) (stream_of_seed seed)
    → (if drawn then (next_u64 stream).1 else stream)
    ≡ after_generator_words (if drawn then answered + 1 else 0) (stream_of_seed seed)
one_rest true seed answered stream f =
    rw add-one
    (ap (λ s. (next_u64 s).1) f ∙ sym (after_generator_words-suc answered (stream_of_seed seed)))
one_rest false seed answered stream f = f

-- the asking of a yes leads on
pub leads-yes : (skip : ℕ) (randomize : Bool) (seed askings : ℕ) (old : Sampler) (fresh : ℕ)
    (state : List ℕ)
    → old.counter ≡ 0
    → fresh ≡ gap_by old.skip old.randomize (next_u64 (stream_from old.generator)).0
    → stream_from state
    ≡ (if is_drawn old.skip old.randomize then
    (next_u64 (stream_from old.generator)).1 else stream_from old.generator)
    → LeadsTo skip randomize seed askings old
    → LeadsTo skip randomize seed (askings + 1)
    (record { skip = old.skip; randomize = old.randomize; counter = fresh; generator = state })
leads-yes skip randomize seed askings old fresh state over gap_is rest_is h =
    let next = h.next in
    let fresh_is : fresh ≡ gap_by skip randomize (next_u64 (stream_from old.generator)).0 = gap_is
    ∙ same_gap old.skip skip old.randomize randomize
    (next_u64 (stream_from old.generator)).0 h.skip_is h.randomize_is in
    let gap_now = one_gap skip randomize (is_drawn skip randomize) seed h.answered
    (stream_from old.generator) refl h.drawn in
    let after = position-next skip randomize seed h.answered in
    let same : is_drawn old.skip old.randomize ≡ is_drawn skip randomize =
    rw (h.skip_is, h.randomize_is) refl in
    record {
      skip_is = h.skip_is;
      randomize_is = h.randomize_is;
      answered = h.answered + 1;
      passed = below_more (λ k. position skip randomize seed k ≤ askings + 1) h.answered
          (λ k below. let passed = h.passed k below in omega arith) (omega arith);
      next = omega arith;
      drawn =
          rest_is
          ∙ ap
          (λ drawn. if drawn then
          (next_u64 (stream_from old.generator)).1 else stream_from old.generator) same
          ∙ one_rest (is_drawn skip randomize) seed h.answered (stream_from old.generator) h.drawn;
    }

-- one asking answered no leads on
leads-no : (skip : ℕ) (randomize : Bool) (seed askings count : ℕ) (old : Sampler)
    → old.counter ≡ suc count → LeadsTo skip randomize seed askings old
    → LeadsTo skip randomize seed (askings + 1)
    (record
    { skip = old.skip; randomize = old.randomize; counter = count; generator = old.generator })
leads-no skip randomize seed askings count old counts h =
    let next = h.next in
    record {
      skip_is = h.skip_is;
      randomize_is = h.randomize_is;
      answered = h.answered;
      passed = λ k below. let passed = h.passed k below in omega arith;
      next = omega arith;
      drawn = h.drawn;
    }

-- the state after a word, where one is drawn
stream_after_word : (drawn : Bool) (state : List ℕ)
    → stream_from (if drawn then (plus_plus state).1 else state)
    ≡ (if drawn then (next_u64 (stream_from state)).1 else stream_from state)
unfolding stream_of next_u64
stream_after_word true state = refl
stream_after_word false state = refl

one_more : (skip : ℕ) (randomize : Bool) (seed askings counter : ℕ) (old : Sampler)
    → old.counter ≡ counter → LeadsTo skip randomize seed askings old
    → (sampler : Sampler) × LeadsTo skip randomize seed (askings + 1) sampler
one_more skip randomize seed askings zero old over h =
    let state = if is_drawn old.skip old.randomize then
    (plus_plus old.generator).1 else old.generator in (
      _,
      leads-yes skip randomize seed askings old
          (gap_by old.skip old.randomize (next_u64 (stream_from old.generator)).0) state over refl
          (stream_after_word (is_drawn old.skip old.randomize) old.generator) h,
    )
one_more skip randomize seed askings (suc count) old counts h =
    (_, leads-no skip randomize seed askings count old counts h)

-- so many askings lead to some sampler
pub some_sampler : (skip : ℕ) (randomize : Bool) (seed askings : ℕ)
    → (sampler : Sampler) × LeadsTo skip randomize seed askings sampler
some_sampler skip randomize seed zero =
    (_, leads-new skip randomize seed (of_seed (splitmix_seed 32 seed)) refl)
some_sampler skip randomize seed (suc askings) =
    let before = some_sampler skip randomize seed askings in
    rw (← add-one askings)
    (one_more skip randomize seed askings before.0.counter before.0 refl before.1)

gap-le : (skip word : ℕ) (randomize : Bool) → gap_by skip randomize word ≤ skip
gap-le skip word randomize = if_le (is_drawn skip randomize) where
  if_le : (drawn : Bool) → (if drawn then skip - word % skip else skip) ≤ skip
  if_le true = omega arith
  if_le false = le_refl skip

pub gap_most : (skip : ℕ) (randomize : Bool) (seed k : ℕ) → gap skip randomize seed k ≤ skip
gap_most skip randomize seed k = gap-le skip (generator_word seed k) randomize

lt-gap : (skip word : ℕ) (drawn : Bool) → 0 < skip
    → 0 < (if drawn then skip - word % skip else skip)
lt-gap skip word true above = omega arith
lt-gap skip word false above = above

pub gap_least : (skip : ℕ) (randomize : Bool) (seed k : ℕ) → 0 < skip
    → 0 < gap skip randomize seed k
gap_least skip randomize seed k above =
    lt-gap skip (generator_word seed k) (is_drawn skip randomize) above

-- a gap that chance doesn't touch
gap_fixed : (skip : ℕ) (randomize : Bool) (seed k : ℕ) → (randomize ≡ false) ⊎ (skip ≤ 1)
    → gap skip randomize seed k ≡ skip
gap_fixed skip randomize seed k (inl off) = rw off refl
gap_fixed zero randomize seed k (inr small) =
    let most = gap_most zero randomize seed k in omega arith
gap_fixed (suc skip) randomize seed k (inr small) =
    let most = gap_most (suc skip) randomize seed k in
    let least = gap_least (suc skip) randomize seed k (omega arith) in
    omega arith

pub position-fixed : (skip : ℕ) (randomize : Bool) (seed k : ℕ) → (randomize ≡ false) ⊎ (skip ≤ 1)
    → position skip randomize seed k ≡ (k + 1) * (skip + 1)
unfolding position
position-fixed skip randomize seed zero fixed = omega arith
position-fixed skip randomize seed (suc k) fixed =
    let before = position-fixed skip randomize seed k fixed in
    let same = gap_fixed skip randomize seed k fixed in
    omega arith
