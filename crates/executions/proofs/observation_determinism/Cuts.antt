-- What has been told by the records up to the last of which so many are still to come.
use Rattle.std.proofs.Common.{◌≡◌, ◌∙◌, ◌<◌, ◌≤◌, ◌+◌, ◌-◌, ◌++◌, ◌∷◌, [], ℕ, Bool, true, false, List, ap, arith, inl, inr, length, nat_le, refl, sym}
use Rattle.std.proofs.Common.{if◌then◌else◌}
use Rattle.std.proofs.lemmas.Bool.Decides.{leb_tells}
use Rattle.std.proofs.lemmas.List.{append-nil, length-append}
use Rattle.litmus_semantics.specs.Task as meaning
use Rattle.setup_access.specs.Check.{Fallen}
use Rattle.slot_table.specs.declared.records.Record.{Record}
use Rattle.program_order.specs.Standing.{Point, Standing, coming, counting}
use Rattle.program_order.specs.TaskObserved.{Came, came_of}

abbrev pub cut_way : ℕ → List Point → List Point
cut_way n [] = []
cut_way n (point ∷ points) =
    if nat_le n point.to_come then (record point { to_come = point.to_come - n }) ∷ cut_way n points else cut_way n points

-- an outcome, and how many records of those follow on the one at which it fell
pub record Fell : Type 0 where
  pub left : ℕ
  pub came : Came

abbrev pub cut_fell : ℕ → List Fallen → List Fell
cut_fell n [] = []
cut_fell n (fallen ∷ others) =
    if nat_le n (length fallen.later) then (record { left = length fallen.later - n; came = came_of fallen }) ∷ cut_fell n others else cut_fell n others

pub way_append : (n : ℕ) (first later : List Point) → cut_way n (first ++ later) ≡ cut_way n first ++ cut_way n later
way_append n [] later = refl
way_append n (point ∷ points) later = elim (leb_tells n point.to_come) [
  | inl more ↦ rw more.0 (ap (λ (p : List Point). (record point { to_come = point.to_come - n }) ∷ p) (way_append n points later))
  | inr fewer ↦ rw fewer.0 (way_append n points later)
]

pub fell_append : (n : ℕ) (first later : List Fallen) → cut_fell n (first ++ later) ≡ cut_fell n first ++ cut_fell n later
fell_append n [] later = refl
fell_append n (fallen ∷ others) later = elim (leb_tells n (length fallen.later)) [
  | inl more ↦ rw more.0 (ap (λ (p : List Fell). (record { left = length fallen.later - n; came = came_of fallen }) ∷ p) (fell_append n others later))
  | inr fewer ↦ rw fewer.0 (fell_append n others later)
]

way_low : (n : ℕ) (point : Point) → point.to_come < n → cut_way n (point ∷ []) ≡ []
way_low n point low = elim (leb_tells n point.to_come) [
  | inl more ↦ let enough : n ≤ point.to_come = more.1 in absurd (omega (arith, enough, low))
  | inr fewer ↦ rw fewer.0 refl
]

pub fell_low : (n : ℕ) (fallen : Fallen) → length fallen.later < n → cut_fell n (fallen ∷ []) ≡ []
fell_low n fallen low = elim (leb_tells n (length fallen.later)) [
  | inl more ↦ let enough : n ≤ length fallen.later = more.1 in absurd (omega (arith, enough, low))
  | inr fewer ↦ rw fewer.0 refl
]

way_near : (n k : ℕ) (point : Point) → point.to_come ≡ k + n → cut_way n (point ∷ []) ≡ (record point { to_come = k }) ∷ []
way_near n k point is = elim (leb_tells n point.to_come) [
  | inl more ↦
      let left : point.to_come - n ≡ k = omega (arith, is) in
      rw more.0 (ap (λ (l : ℕ). (record point { to_come = l }) ∷ []) left)
  | inr fewer ↦ let few : point.to_come < n = fewer.1 in absurd (omega (arith, few, is))
]

fell_near : (n k : ℕ) (fallen : Fallen) → length fallen.later ≡ k + n → cut_fell n (fallen ∷ []) ≡ (record { left = k; came = came_of fallen }) ∷ []
fell_near n k fallen is = elim (leb_tells n (length fallen.later)) [
  | inl more ↦
      let left : length fallen.later - n ≡ k = omega (arith, is) in
      rw more.0 (ap (λ (l : ℕ). (record { left = l; came = came_of fallen }) ∷ []) left)
  | inr fewer ↦ let few : length fallen.later < n = fewer.1 in absurd (omega (arith, few, is))
]

both_with : {A : Type 0} (first other later more : List A) → first ≡ other → later ≡ more → first ++ later ≡ other ++ more
both_with first other later more p q = ap (λ l. l ++ later) p ∙ ap (λ l. other ++ l) q

-- an outcome that fell where so much of what is shared was left
pub fell_together : (X Y S : List Record) (one other : Fallen) → one.later ≡ S ++ X → other.later ≡ S ++ Y → came_of one ≡ came_of other
    → cut_fell (length X) (one ∷ []) ≡ cut_fell (length Y) (other ∷ [])
fell_together X Y S one other here there came =
    let first : length one.later ≡ length S + length X = ap (λ (l : List Record). length l) here ∙ length-append S X in
    let second : length other.later ≡ length S + length Y = ap (λ (l : List Record). length l) there ∙ length-append S Y in
    fell_near (length X) (length S) one first
    ∙ (ap (λ (c : Came). (record { left = length S; came = c }) ∷ []) came ∙ sym (fell_near (length Y) (length S) other second))

-- the outcomes of two lists are told alike
abbrev pub FellAlike : List Record → List Record → List Fallen → List Fallen → Type 0
FellAlike X Y one other = cut_fell (length X) one ≡ cut_fell (length Y) other

pub fell_with : (X Y : List Record) (one other later more : List Fallen) → FellAlike X Y one other → FellAlike X Y later more
    → FellAlike X Y (one ++ later) (other ++ more)
fell_with X Y one other later more p q =
    fell_append (length X) one later
    ∙ (both_with (cut_fell (length X) one) (cut_fell (length Y) other) (cut_fell (length X) later) (cut_fell (length Y) more) p q
    ∙ sym (fell_append (length Y) other more))

-- nothing else is told of one standing than of another
pub record Low (n : ℕ) (before after : Standing) : Type 0 where
  pub way : cut_way n after.way ≡ cut_way n before.way
  pub fell : cut_fell n after.outcomes ≡ cut_fell n before.outcomes

pub low_same : (n : ℕ) (before : Standing) → Low n before before
low_same n before = record { way = refl; fell = refl }

pub low_on : (n : ℕ) (before between after : Standing) → Low n before between → Low n between after → Low n before after
low_on n before between after p q = record { way = q.way ∙ p.way; fell = q.fell ∙ p.fell }

pub low_coming : (n : ℕ) (before : Standing) (later : List Record) (progress : meaning.Progress) → length later < n
    → Low n before (coming before later progress)
low_coming n before later progress low =
    let point : Point = record { to_come = length later; progress = progress; unbalanced = before.unbalanced } in
    record {
      way = way_append n before.way (point ∷ [])
          ∙ (ap (λ (p : List Point). cut_way n before.way ++ p) (way_low n point low) ∙ append-nil (cut_way n before.way));
      fell = refl;
    }

pub low_counting : (n : ℕ) (ends_nothing : Bool) (before : Standing) → Low n before (counting ends_nothing before)
low_counting n true before = record { way = refl; fell = refl }
low_counting n false before = low_same n before

-- two standings of which the same is told
pub record Alike (X Y : List Record) (one other : Standing) : Type 0 where
  pub way : cut_way (length X) one.way ≡ cut_way (length Y) other.way
  pub fell : FellAlike X Y one.outcomes other.outcomes

-- and in which the task goes on alike
pub record Near (X Y : List Record) (one other : Standing) : Type 0 where
  pub progress : one.progress ≡ other.progress
  pub unbalanced : one.unbalanced ≡ other.unbalanced
  pub asked : one.asked ≡ other.asked
  pub scopes : one.scopes ≡ other.scopes
  pub alike : Alike X Y one other

pub alike_low : (X Y : List Record) (one other first second : Standing) → Alike X Y one other → Low (length X) one first → Low (length Y) other second
    → Alike X Y first second
alike_low X Y one other first second alike p q = record {
  way = p.way ∙ (alike.way ∙ sym q.way);
  fell = p.fell ∙ (alike.fell ∙ sym q.fell);
}

pub near_coming : (X Y S : List Record) (one other : Standing) (progress next : meaning.Progress) → Near X Y one other → progress ≡ next
    → Near X Y (coming one (S ++ X) progress) (coming other (S ++ Y) next)
near_coming X Y S one other progress next near same =
    let first : Point = record { to_come = length (S ++ X); progress = progress; unbalanced = one.unbalanced } in
    let second : Point = record { to_come = length (S ++ Y); progress = next; unbalanced = other.unbalanced } in
    let at_first : cut_way (length X) (first ∷ []) ≡ (record first { to_come = length S }) ∷ [] = way_near (length X) (length S) first (length-append S X) in
    let at_second : cut_way (length Y) (second ∷ []) ≡ (record second { to_come = length S }) ∷ [] = way_near (length Y) (length S) second
    (length-append S Y) in
    let points : (record first { to_come = length S }) ∷ [] ≡ (record second { to_come = length S }) ∷ [] =
    ap (λ (p : meaning.Progress). record { to_come = length S; progress = p; unbalanced = one.unbalanced } ∷ []) same
    ∙ ap (λ (u : ℕ). record { to_come = length S; progress = next; unbalanced = u } ∷ []) near.unbalanced in
    record {
      progress = same;
      unbalanced = near.unbalanced;
      asked = near.asked;
      scopes = near.scopes;
      alike = record {
        way = way_append (length X) one.way (first ∷ [])
            ∙ (both_with (cut_way (length X) one.way) (cut_way (length Y) other.way) (cut_way (length X) (first ∷ [])) (cut_way (length Y) (second ∷ []))
            near.alike.way (at_first ∙ (points ∙ sym at_second))
            ∙ sym (way_append (length Y) other.way (second ∷ [])));
        fell = near.alike.fell;
      };
    }

-- both come to where what is shared is used up, and nothing more is told
pub alike_coming : (X Y : List Record) (one other : Standing) (q r : List Record) (progress next : meaning.Progress) → Alike X Y one other
    → length q < length X → length r < length Y → Alike X Y (coming one q progress) (coming other r next)
alike_coming X Y one other q r progress next alike low lower =
    alike_low X Y one other (coming one q progress) (coming other r next) alike (low_coming (length X) one q progress low)
    (low_coming (length Y) other r next lower)
