-- What a check asks is so or isn't, and each watch has a verdict.
use Rattle.std.proofs.Common.{◌≡◌, ◌≢◌, ◌+◌, ◌<◌, ◌≤◌, ◌⊎◌, ℕ, zero, suc, Bool, Option, None, Some, IsNone, IsSome, arith, inl, inr, max, min, refl, subst, sym}
use Rattle.std.proofs.lemmas.Bool.{cases_Bool, cases_eq, cases_lt}
use Rattle.std.specs.FinMap as map
use Rattle.std.specs.Option.{IsSomeAnd}
use Rattle.access_types.specs.Access.{Access, Overlap}
use Rattle.access_types.specs.Kind.{is_assertion}
use Rattle.setup_access.specs.Hits.{Hits}
use Rattle.setup_access.specs.Setting.{IsWatched, Setting, seed_of}
use Rattle.setup_access.specs.Verdicts as verdicts
use Rattle.setup_access.specs.Verdicts.{ChangeOf, HitOutcome, SharesByte, UntouchedOutcome}
use Rattle.setup_access.specs.declared.outcome.Outcome.{Outcome}
use Rattle.setup_access.specs.declared.outcome.Outcome.TheVariants as outcomes
use Rattle.skip_sampler.specs.Sampler.{LeadsTo, Sampler, SamplerPositions, position}
use Rattle.skip_sampler.proofs.Positions.{not_yet, some_sampler}
use Rattle.slot.specs.Pair.{Halves}
use Rattle.value_filter.specs.Change.{BitDiffers, IsSeen, seen_values}
use Rattle.value_filter.specs.Verdict as table
use Rattle.value_filter.specs.Verdict.{MattersUnchanged}
use Rattle.value_filter.specs.declared.verdict.Change.{Change}
use Rattle.value_filter.specs.declared.verdict.Change.TheVariants.{Maybe, Ruled, Seen}
use Rattle.value_filter.specs.declared.verdict.Reason.TheVariants.{Encoding, MaskedBits, SameValue}
use Rattle.value_filter.proofs.ChangedBits.{bit_differs, changed_bits, some_changed}
use Rattle.watch_word.specs.Word.{Encodable}
use Rattle.watch_word.specs.declared.layout.Layout.{Layout}

-- 0 is no watch word
pub zero_misses : (layout : Layout) (a : Access) → ¬ Hits layout a 0
zero_misses layout a hits = let above : 1 < 0 = hits.is_watch_word.above_one in absurd (omega arith)

-- an asking is answered yes or no
asked_at : (skip : ℕ) (randomize : Bool) (seed askings counter : ℕ) (sampler : Sampler) → sampler.counter ≡ counter
    → LeadsTo skip randomize seed askings sampler
    → SamplerPositions skip randomize seed (askings + 1) ⊎ (¬ SamplerPositions skip randomize seed (askings + 1))
asked_at skip randomize seed askings zero sampler is leads =
    let next = leads.next in inl (leads.answered, let here : position skip randomize seed leads.answered ≡ askings + 1 = omega arith in here)
asked_at skip randomize seed askings (suc counter) sampler is leads = inr (not_yet skip randomize seed askings sampler (omega arith) leads)

pub watched_or_not : (s : Setting) (asked : ℕ) → IsWatched s asked ⊎ (¬ IsWatched s asked)
watched_or_not s asked =
    let so_far = some_sampler s.rules.skip s.rules.randomize (seed_of s) asked in
    asked_at s.rules.skip s.rules.randomize (seed_of s) asked so_far.0.counter so_far.0 refl so_far.1

pub encodable_or_not : (a : Access) → Encodable a ⊎ (¬ Encodable a)
encodable_or_not a = elim (cases_lt a.addr 4096) [
  | inl low ↦ inr (λ e. let address : 4096 ≤ a.addr = e.address in absurd (omega arith))
  | inr high ↦ elim (cases_lt 0 a.size) [
    | inr none ↦ inr (λ e. let some : 0 < a.size = e.has_bytes in absurd (omega arith))
    | inl some ↦ elim (cases_lt 8192 a.size) [
      | inl large ↦ inr (λ e. let size : a.size ≤ 8192 = e.size in absurd (omega arith))
      | inr small ↦ inl (record { address = high; has_bytes = some; size = small })
    ]
  ]
]

overlap_or_not : (a b : Access) → Overlap a b ⊎ (¬ Overlap a b)
overlap_or_not a b = elim (cases_lt (max a.addr b.addr) (min (a.addr + a.size) (b.addr + b.size))) [
  | inl meet ↦ inl (max a.addr b.addr, ((omega arith, omega arith), (omega arith, omega arith)))
  | inr apart ↦ inr (λ common. none common.0 common.1.0.0 common.1.0.1 common.1.1.0 common.1.1.1 apart)
]
  where
    none : (byte : ℕ) → a.addr ≤ byte → byte < a.addr + a.size → b.addr ≤ byte → byte < b.addr + b.size
        → min (a.addr + a.size) (b.addr + b.size) ≤ max a.addr b.addr → ⊥
    none byte first second third fourth apart = omega arith

shares_or_not : (o : Option Access) (a : Access) → IsSomeAnd o (λ finder. Overlap a finder) ⊎ (¬ IsSomeAnd o (λ finder. Overlap a finder))
shares_or_not None a = inr (λ h. h)
shares_or_not (Some finder) a = overlap_or_not a finder

differ_or_not : (mask : Option ℕ) (old new : ℕ) → BitDiffers mask old new ⊎ (¬ BitDiffers mask old new)
differ_or_not mask old new = elim (cases_eq (changed_bits mask old new) 0) [
  | inl none ↦ inr (λ differs. some_changed mask old new differs none)
  | inr some ↦ inl (bit_differs mask old new some)
]

seen_or_not : (a : Access) (values : Option (ℕ × ℕ)) → IsSeen a values ⊎ (¬ IsSeen a values)
seen_or_not a None = inr (λ h. h)
seen_or_not a (Some values) = differ_or_not a.mask values.0 values.1

-- where no change was seen
unseen : (a : Access) (values : Option (ℕ × ℕ)) (mask : Option ℕ) → a.mask ≡ mask → ¬ IsSeen a values
    → ((change : Change) × ChangeOf a values change × (change ≢ Seen))
unseen a values None is none = (Maybe, verdicts.maybe none (subst (λ (m : Option ℕ). IsNone m) (sym is) refl) refl, λ e. cc)
unseen a values (Some mask) is none = (Ruled, verdicts.ruled none (subst (λ (m : Option ℕ). IsSome m) (sym is) refl) refl, λ e. cc)

-- a watch that nobody hit has a verdict
pub some_untouched : (s : Setting) (a : Access) (values : Option (ℕ × ℕ)) → (outcome : Outcome) × UntouchedOutcome s a values outcome
some_untouched s a None =
    let quiet = unseen a None a.mask refl (λ h. h) in
    (outcomes.Quiet, verdicts.quiet quiet.0 quiet.1 (table.untaken refl quiet.2 refl) refl)
some_untouched s a (Some values) = elim (differ_or_not a.mask values.0 values.1) [
  | inl differs ↦ (
    outcomes.Unknown values.0 values.1,
    verdicts.unknown Seen values.0 values.1 (verdicts.seen differs refl) (table.untaken_seen refl refl refl) refl refl,
  )
  | inr same ↦
      let quiet = unseen a (Some values) a.mask refl same in
      (outcomes.Quiet, verdicts.quiet quiet.0 quiet.1 (table.untaken refl quiet.2 refl) refl)
]

matters_or_not : (a : Access) → MattersUnchanged a ⊎ (¬ MattersUnchanged a)
matters_or_not a = elim (cases_lt 8 a.size) [
  | inl large ↦ inl (inl large)
  | inr small ↦ elim (cases_Bool (is_assertion a.kind)) [
    | inl asserts ↦ inl (inr asserts)
    | inr leaves ↦ inr (λ matters. elim matters [
      | inl large ↦ absurd (omega arith)
      | inr asserts ↦ absurd (cc)
    ])
  ]
]

-- so has one that was hit
module _ (s : Setting) (a : Access) (values : Option (ℕ × ℕ)) (both : Halves) where
  hit_unseen : (mask : Option ℕ) → a.mask ≡ mask → ¬ IsSeen a values → SharesByte s.sites a both.finder → (outcome : Outcome) × HitOutcome s a values both outcome
  hit_unseen (Some mask) is none shares = (
    outcomes.Dropped MaskedBits,
    verdicts.dropped Ruled MaskedBits shares (verdicts.ruled none (subst (λ (m : Option ℕ). IsSome m) (sym is) refl) refl)
        (table.taken_ruled refl refl refl) refl,
  )
  hit_unseen None is none shares =
      let change : ChangeOf a values Maybe = verdicts.maybe none (subst (λ (m : Option ℕ). IsNone m) (sym is) refl) refl in
      elim (matters_or_not a) [
        | inl matters ↦
            (outcomes.Report both (seen_values Maybe values), verdicts.reported Maybe shares change (table.taken_unseen refl refl matters refl) refl)
        | inr not_so ↦ elim (cases_Bool s.rules.value_change_only) [
          | inl only ↦ (outcomes.Dropped SameValue, verdicts.dropped Maybe SameValue shares change (table.taken_same refl refl not_so only refl) refl)
          | inr any ↦
              (outcomes.Report both (seen_values Maybe values), verdicts.reported Maybe shares change (table.taken_any refl refl not_so any refl) refl)
        ]
      ]

  pub some_hit : (outcome : Outcome) × HitOutcome s a values both outcome
  some_hit = elim (shares_or_not (map.get s.sites both.finder) a) [
    | inr apart ↦ (outcomes.Dropped Encoding, verdicts.encoding apart refl)
    | inl shares ↦ elim (seen_or_not a values) [
      | inl seen ↦
          (outcomes.Report both (seen_values Seen values), verdicts.reported Seen shares (verdicts.seen seen refl) (table.taken_seen refl refl refl) refl)
      | inr none ↦ hit_unseen a.mask refl none shares
    ]
  ]
