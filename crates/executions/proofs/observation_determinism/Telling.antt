-- Two readings of one text by the same records tell the same.
use Rattle.std.proofs.Common.{◌≡◌, ◌∙◌, ◌<◌, ◌≤◌, ◌+◌, ◌-◌, ◌==◌, ◌++◌, ◌∷◌, [], ℕ, suc, List, ap, append_assoc, arith, drop, inl, inr, length, map, refl}
use Rattle.std.proofs.Common.{subst, sym}
use Rattle.std.proofs.lemmas.Bool.{eq-eqb, le-leb, lt-leb, ne_eqb}
use Rattle.std.proofs.lemmas.Bool.Decides.{eqb_tells, leb_tells}
use Rattle.std.proofs.lemmas.List.{append-nil, length-append}
use Rattle.std.specs.List.{filter}
use Rattle.access_types.specs.declared.history.Happening.{Happening}
use Rattle.litmus_semantics.specs.Task as meaning
use Rattle.litmus_syntax.specs.Tree.{Block}
use Rattle.setup_access.specs.Check.{Fallen}
use Rattle.slot_table.specs.declared.records.Record.{Record}
use Rattle.program_order.specs.Standing.{Point, Setting, Standing, point_by}
use Rattle.program_order.specs.TaskObserved.{Came, came_of, did_by, fell_next, stands_by, to_come}
use Rattle.program_order.specs.WrittenOrder.{SpellsAll, StepsOfBlock, WrittenOrder, at_first, first_point, stands_after}
use Rattle.executions.specs.observation_determinism.TellAlike.{StandsAlike, TellAlike}
use Rattle.executions.proofs.observation_determinism.AccessGoes.{Meets}
use Rattle.executions.proofs.observation_determinism.Cuts.{Alike, Fell, Near, cut_fell, cut_way}
use Rattle.executions.proofs.observation_determinism.Falling.{AllUpTo, IsFalling, falling_way}
use Rattle.executions.proofs.observation_determinism.TextGoes.{block_goes}

-- where a task stood is told by the points that are left of its way
none_left : (m n : ℕ) (points : List Point) → AllUpTo n points → n < m → cut_way m points ≡ []
none_left m n [] all low = refl
none_left m n (point ∷ points) all low = elim (leb_tells m point.to_come) [
  | inl more ↦ let some : m ≤ point.to_come = more.1 in let few : point.to_come ≤ n = all.0 in absurd (omega (arith, some, few, low))
  | inr fewer ↦ rw fewer.0 (none_left m n points all.1 low)
]

alike_trans : (one other third : Point) → StandsAlike one other → StandsAlike other third → StandsAlike one third
alike_trans one other third p q = record { progress = p.progress ∙ q.progress; unbalanced = p.unbalanced ∙ q.unbalanced }

alike_back : (one other : Point) → StandsAlike one other → StandsAlike other one
alike_back one other p = record { progress = sym p.progress; unbalanced = sym p.unbalanced }

point_cut : (m k : ℕ) (last other : Point) (points : List Point) → StandsAlike last other → IsFalling points
    → StandsAlike (point_by (k + m) last points) (point_by k other (cut_way m points))
point_cut m k last other [] alike falls = alike
point_cut m k last other (point ∷ points) alike falls = elim (leb_tells (k + m) point.to_come) [
  | inl more ↦
      let some : k + m ≤ point.to_come = more.1 in
      let enough : m ≤ point.to_come = omega (arith, some) in
      let left : k ≤ point.to_come - m = omega (arith, some) in
      rw (more.0, le-leb m point.to_come enough, le-leb k (point.to_come - m) left)
      (point_cut m k point (record point { to_come = point.to_come - m }) points (record { progress = refl; unbalanced = refl }) falls.1)
  | inr fewer ↦
      let few : point.to_come < k + m = fewer.1 in
      elim (leb_tells m point.to_come) [
        | inl more ↦
            let some : m ≤ point.to_come = more.1 in
            let left : point.to_come - m < k = omega (arith, some, few) in
            rw (fewer.0, more.0, lt-leb k (point.to_come - m) left) alike
        | inr less ↦ rw (fewer.0, less.0, none_left m point.to_come points falls.0 less.1) alike
      ]
]

-- so are the outcomes that fell at a record
abbrev fell_left : ℕ → List Fell → List Came
fell_left k told = map (λ (f : Fell). f.came) (filter (λ (f : Fell). f.left == k) told)

fell_cut : (m k : ℕ) (fallen : List Fallen) → map came_of (filter (λ f. length f.later == k + m) fallen) ≡ fell_left k (cut_fell m fallen)
fell_cut m k [] = refl
fell_cut m k (first ∷ others) = elim (eqb_tells (length first.later) (k + m)) [
  | inl same ↦
      let is : length first.later ≡ k + m = same.1 in
      let enough : m ≤ length first.later = omega (arith, is) in
      let left : length first.later - m ≡ k = omega (arith, is) in
      rw (same.0, le-leb m (length first.later) enough, eq-eqb (length first.later - m) k left)
      (ap (λ (c : List Came). came_of first ∷ c) (fell_cut m k others))
  | inr other ↦ elim (leb_tells m (length first.later)) [
    | inl more ↦
        let some : m ≤ length first.later = more.1 in
        let apart : length first.later - m ≡ k → ⊥ = λ (is : length first.later - m ≡ k). other.1 (omega (arith, is, some)) in
        rw (other.0, more.0, ne_eqb (length first.later - m) k apart) (fell_cut m k others)
    | inr fewer ↦ rw (other.0, fewer.0) (fell_cut m k others)
  ]
]

-- a task at its beginning is near itself
near_first : (X Y : List Record) (registers : ℕ) → Near X Y (at_first registers) (at_first registers)
near_first X Y registers = record { progress = refl; unbalanced = refl; asked = refl; scopes = refl; alike = record { way = refl; fell = refl } }

meets_alike : (X Y : List Record) (one other : Standing) (q r : List Record) → Meets X Y (Unit {0}) one other q r → Alike X Y one other
meets_alike X Y one other q r h = elim h [ inl near ↦ near.3.0.alike | inr far ↦ far.2 ]

module _ (s : Setting) (registers : ℕ) (body : Block) where
  whole_alike : (X Y S : List Record) (one : SpellsAll s registers body (S ++ X)) (other : SpellsAll s registers body (S ++ Y))
      → Meets X Y (Unit {0}) one.end other.end [] []
  whole_alike X Y S one other =
      block_goes s X Y 0 body S (at_first registers) (at_first registers) one.end other.end [] [] (near_first X Y registers) one.steps other.steps

  -- nothing completes what is complete
  empty_of : (records : List Record) → length records ≡ 0 → records ≡ []
  empty_of [] none = refl
  empty_of (first ∷ later) none = absurd (let no : suc (length later) ≡ 0 = none in omega arith)

  pub nothing_more : (records more : List Record) → SpellsAll s registers body records → SpellsAll s registers body (records ++ more) → more ≡ []
  nothing_more records more one other =
      elim (whole_alike [] more records (subst (λ (r : List Record). SpellsAll s registers body r) (sym (append-nil records)) one) other) [
        | inl near ↦
            let all : length {A = Record} [] ≡ length (near.0 ++ more) = ap (λ (r : List Record). length r) near.2 in
            let parts : length (near.0 ++ more) ≡ length near.0 + length more = length-append near.0 more in
            empty_of more (omega (arith, all, parts))
        | inr far ↦ absurd (let no : 0 < 0 = far.0 in omega arith)
      ]

  -- what is said of a reading, where its records are so many shared ones and others
  module _ (shared records left : List Record) (written : WrittenOrder s registers body records) (is : records ++ written.more ≡ shared ++ left) where
    to_come_is : (made : ℕ) → made ≤ length shared → to_come written made ≡ length shared - made + length left
    to_come_is made fewer =
        let all : length (records ++ written.more) ≡ length shared + length left = ap (λ (r : List Record). length r) is ∙ length-append shared left in
        omega (arith, all, fewer)

    stands_cut : (made : ℕ) → made ≤ length shared → (first : Point) → StandsAlike (first_point (to_come written 0) registers) first
        → StandsAlike (stands_by written made) (point_by (length shared - made) first (cut_way (length left) written.whole.end.way))
    stands_cut made fewer first alike =
        subst (λ (n : ℕ). StandsAlike (point_by n (first_point (to_come written 0) registers) written.whole.end.way)
        (point_by (length shared - made) first (cut_way (length left) written.whole.end.way))) (sym (to_come_is made fewer))
        (point_cut (length left) (length shared - made) (first_point (to_come written 0) registers) first written.whole.end.way alike
        (falling_way s registers body (records ++ written.more) written.whole))

    came_cut : (made : ℕ) → made < length shared
        → map came_of (fell_next written made) ≡ fell_left (length shared - (made + 1)) (cut_fell (length left) written.whole.end.outcomes)
    came_cut made fewer =
        ap (λ (n : ℕ). map came_of (filter (λ f. length f.later == n) written.whole.end.outcomes)) (to_come_is (made + 1) (omega (arith, fewer)))
        ∙ fell_cut (length left) (length shared - (made + 1)) written.whole.end.outcomes

  -- two readings whose records begin alike
  pub told_alike : (shared records others X Y : List Record) (one : WrittenOrder s registers body records) (other : WrittenOrder s registers body others)
      → records ++ one.more ≡ shared ++ X → others ++ other.more ≡ shared ++ Y → TellAlike one other (length shared)
  told_alike shared records others X Y one other here there =
      let ends : Alike X Y one.whole.end other.whole.end =
      meets_alike X Y one.whole.end other.whole.end [] []
      (block_goes s X Y 0 body shared (at_first registers) (at_first registers) one.whole.end other.whole.end [] [] (near_first X Y registers)
      (subst (λ (r : List Record). StepsOfBlock s 0 body (at_first registers) r one.whole.end []) here one.whole.steps)
      (subst (λ (r : List Record). StepsOfBlock s 0 body (at_first registers) r other.whole.end []) there other.whole.steps)) in
      let point : Point = first_point 0 registers in
      let stands : (made : ℕ) → made ≤ length shared → StandsAlike (stands_by one made) (stands_by other made) =
      λ (made : ℕ) (fewer : made ≤ length shared).
      alike_trans (stands_by one made) (point_by (length shared - made) point (cut_way (length X) one.whole.end.way)) (stands_by other made)
      (stands_cut shared records X one here made fewer point (record { progress = refl; unbalanced = refl }))
      (subst (λ (w : List Point). StandsAlike (point_by (length shared - made) point w) (stands_by other made)) (sym ends.way)
      (alike_back (stands_by other made) (point_by (length shared - made) point (cut_way (length Y) other.whole.end.way))
      (stands_cut shared others Y other there made fewer point (record { progress = refl; unbalanced = refl })))) in
      record {
        stands = stands;
        did = λ made fewer.
            let before : did_by one made ≡ did_by other made = ap (λ (p : meaning.Progress). p.did) (stands made (omega (arith, fewer))).progress in
            let after : did_by one (made + 1) ≡ did_by other (made + 1) = ap (λ (p : meaning.Progress). p.did)
            (stands (made + 1) (omega (arith, fewer))).progress in
            ap (λ (d : List Happening). drop (length d) (did_by one (made + 1))) before
            ∙ ap (λ (d : List Happening). drop (length (did_by other made)) d) after;
        came = λ made fewer.
            came_cut shared records X one here made fewer
            ∙ (ap (λ (f : List Fell). fell_left (length shared - (made + 1)) f) ends.fell ∙ sym (came_cut shared others Y other there made fewer));
      }

  pub same_told : (records : List Record) (one other : WrittenOrder s registers body records) → TellAlike one other (length records)
  same_told records one other = told_alike records records records one.more other.more one other refl refl

  pub longer_told : (records later : List Record) (one : WrittenOrder s registers body records) (other : WrittenOrder s registers body (records ++ later))
      → TellAlike one other (length records)
  longer_told records later one other =
      told_alike records records (records ++ later) one.more (later ++ other.more) one other refl (append_assoc records later other.more)

  -- where a task stands is where it stood after all of its records
  pub stands_last : (records : List Record) (written : WrittenOrder s registers body records) → stands_after written ≡ stands_by written (length records)
  stands_last records written =
      let all : length (records ++ written.more) ≡ length records + length written.more = length-append records written.more in
      let left : length written.more ≡ to_come written (length records) = omega (arith, all) in
      let start : length (records ++ written.more) ≡ to_come written 0 = omega arith in
      ap (λ (n : ℕ). point_by n (first_point (length (records ++ written.more)) registers) written.whole.end.way) left
      ∙ ap (λ (n : ℕ). point_by (to_come written (length records)) (first_point n registers) written.whole.end.way) start
