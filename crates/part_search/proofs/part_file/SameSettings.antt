-- Settings are the same where each of them is.
use Rattle.std.proofs.Common.{◌≡◌, ℕ, Bool, None, Option, Some, ap, false, nat_eq, refl, true}
use Rattle.std.specs.Prelude.{◌&&◌}
use Rattle.std.specs.Bool.{Decides}
use Rattle.std.specs.Option.{option_eq}
use Rattle.std.proofs.lemmas.Bool.Decides.{Decides-and, Decides-eqb, Decides-like}
use Rattle.part_search.specs.declared.part_file.part.PartSettings.{PartSettings}
use Rattle.watch_word.specs.contracts.layout.Layout.{the_type}
use Rattle.watch_word.specs.declared.layout.Layout.{Layout}
use Rattle.watch_word.specs.declared.layout.Layout.TheVariants.{W32, W64}
use mathlib.Core.Bool.{beq}
use denote.Enum.Bare.{sameb}

flags : (a b : Bool) → Decides (beq a b) (a ≡ b)
flags true true = (λ e. refl, λ e. refl)
flags true false = (λ e. cc, λ e. cc)
flags false true = (λ e. cc, λ e. cc)
flags false false = (λ e. refl, λ e. refl)

layouts : (a b : Layout) → Decides (sameb the_type a b) (a ≡ b)
layouts W64 W64 = (λ e. refl, λ e. refl)
layouts W64 W32 = (λ e. cc, λ e. cc)
layouts W32 W64 = (λ e. cc, λ e. cc)
layouts W32 W32 = (λ e. refl, λ e. refl)

numbers : (a b : Option ℕ) → Decides (option_eq nat_eq a b) (a ≡ b)
numbers None None = (λ e. refl, λ e. refl)
numbers None (Some b) = (λ e. cc, λ e. cc)
numbers (Some a) None = (λ e. cc, λ e. cc)
numbers (Some a) (Some b) =
    (λ e. ap (λ (n : ℕ). Some n) ((Decides-eqb a b).0 e), λ e. let same : a ≡ b = cc in (Decides-eqb a b).1 same)

-- the settings of these values
settings : (slots skip seed turns switches limit : ℕ) → (randomize change plain traced origin : Bool) → Layout → Option ℕ → PartSettings
settings slots skip seed turns switches limit randomize change plain traced origin layout seconds = record {
  slots = slots;
  skip = skip;
  randomize = randomize;
  seed = seed;
  value_change_only = change;
  plain_writes_atomic = plain;
  layout = layout;
  turns = turns;
  switches = switches;
  limit = limit;
  seconds = seconds;
  traced = traced;
  unknown_origin = origin;
}

all_same : (n n' k k' s s' t t' w w' l l' : ℕ) (r r' v v' p p' d d' o o' : Bool) (y y' : Layout) (z z' : Option ℕ)
    → n ≡ n' → k ≡ k' → r ≡ r' → s ≡ s' → v ≡ v' → p ≡ p' → y ≡ y' → t ≡ t' → w ≡ w' → l ≡ l' → z ≡ z' → d ≡ d' → o ≡ o'
    → settings n k s t w l r v p d o y z ≡ settings n' k' s' t' w' l' r' v' p' d' o' y' z'
all_same n n' k k' s s' t t' w w' l l' r r' v v' p p' d d' o o' y y' z z' a b c d1 e f g h i j m q u = cc

-- each of them is the same
abbrev AreSame : PartSettings → PartSettings → Type 0
AreSame a b = (a.slots ≡ b.slots) × ((a.skip ≡ b.skip) × ((a.randomize ≡ b.randomize) × ((a.seed ≡ b.seed)
    × ((a.value_change_only ≡ b.value_change_only) × ((a.plain_writes_atomic ≡ b.plain_writes_atomic) × ((a.layout ≡ b.layout)
    × ((a.turns ≡ b.turns) × ((a.switches ≡ b.switches) × ((a.limit ≡ b.limit) × ((a.seconds ≡ b.seconds)
    × ((a.traced ≡ b.traced) × (a.unknown_origin ≡ b.unknown_origin))))))))))))

from_each : (a b : PartSettings) → AreSame a b → a ≡ b
unfolding settings
from_each a b h =
    let h2 = h.1.1 in let h4 = h2.1.1 in let h6 = h4.1.1 in let h8 = h6.1.1 in let h10 = h8.1.1 in
    all_same a.slots b.slots a.skip b.skip a.seed b.seed a.turns b.turns a.switches b.switches a.limit b.limit
    a.randomize b.randomize a.value_change_only b.value_change_only a.plain_writes_atomic b.plain_writes_atomic a.traced b.traced
    a.unknown_origin b.unknown_origin a.layout b.layout a.seconds b.seconds
    h.0 h.1.0 h2.0 h2.1.0 h4.0 h4.1.0 h6.0 h6.1.0 h8.0 h8.1.0 h10.0 h10.1.0 h10.1.1

to_each : (a b : PartSettings) → a ≡ b → AreSame a b
to_each a b e = (
  ap (λ (s : PartSettings). s.slots) e,
  (
    ap (λ (s : PartSettings). s.skip) e,
    (
      ap (λ (s : PartSettings). s.randomize) e,
      (
        ap (λ (s : PartSettings). s.seed) e,
        (
          ap (λ (s : PartSettings). s.value_change_only) e,
          (
            ap (λ (s : PartSettings). s.plain_writes_atomic) e,
            (
              ap (λ (s : PartSettings). s.layout) e,
              (
                ap (λ (s : PartSettings). s.turns) e,
                (
                  ap (λ (s : PartSettings). s.switches) e,
                  (
                    ap (λ (s : PartSettings). s.limit) e,
                    (
                      ap (λ (s : PartSettings). s.seconds) e,
                      (ap (λ (s : PartSettings). s.traced) e, ap (λ (s : PartSettings). s.unknown_origin) e),
                    ),
                  ),
                ),
              ),
            ),
          ),
        ),
      ),
    ),
  ),
)

-- the test of each decides whether they are the same
pub same_settings : (a b : PartSettings)
    → Decides (nat_eq a.slots b.slots && (nat_eq a.skip b.skip && (beq a.randomize b.randomize && (nat_eq a.seed b.seed
    && (beq a.value_change_only b.value_change_only && (beq a.plain_writes_atomic b.plain_writes_atomic
    && (sameb the_type a.layout b.layout && (nat_eq a.turns b.turns && (nat_eq a.switches b.switches && (nat_eq a.limit b.limit
    && (option_eq nat_eq a.seconds b.seconds && (beq a.traced b.traced && beq a.unknown_origin b.unknown_origin)))))))))))) (a ≡ b)
same_settings a b =
    Decides-like _ (from_each a b) (to_each a b)
    (Decides-and _ _ (Decides-eqb _ _) (Decides-and _ _ (Decides-eqb _ _) (Decides-and _ _ (flags _ _) (Decides-and _ _ (Decides-eqb _ _)
    (Decides-and _ _ (flags _ _) (Decides-and _ _ (flags _ _) (Decides-and _ _ (layouts _ _) (Decides-and _ _ (Decides-eqb _ _)
    (Decides-and _ _ (Decides-eqb _ _) (Decides-and _ _ (Decides-eqb _ _) (Decides-and _ _ (numbers _ _)
    (Decides-and _ _ (flags _ _) (flags _ _)))))))))))))
