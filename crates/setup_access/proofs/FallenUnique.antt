-- What has fallen by some records is told from what falls later.
use Rattle.std.proofs.Common.{◌≡◌, ◌+◌, ◌++◌, ◌∷◌, ◌∙◌, [], List, ap, arith, length, refl, sym}
use Rattle.std.proofs.lemmas.List.{append_cancel_right, length-append}
use Rattle.slot_table.specs.declared.records.Record.{Record}
use Rattle.setup_access.specs.Check.{Fallen}
use Rattle.setup_access.specs.Fallen.{followed}
use Rattle.setup_access.specs.FallsAt.{AllFallIn, FallsIn}
use Rattle.setup_access.specs.Setting.{Setting}

abbrev later_of : List Fallen → List Record → List Record
later_of [] none = none
later_of (first ∷ others) none = first.later

abbrev rest_of : List Fallen → List Fallen
rest_of [] = []
rest_of (first ∷ others) = others

abbrev head_of : List Fallen → Fallen → Fallen
head_of [] none = none
head_of (first ∷ others) none = first

module _ (s : Setting) (later : List Record) where
  -- what falls later has fewer records after it
  falls_later : (one : Fallen) (before : List Record) → FallsIn s later one → one.later ≡ before ++ later → ⊥
  falls_later one before falls is =
      let whole : length later ≡ length (falls.0 ++ falls.1 ∷ one.later) = ap length falls.2 in
      let parts : length (falls.0 ++ falls.1 ∷ one.later) ≡ length falls.0 + length (falls.1 ∷ one.later) = length-append falls.0 (falls.1 ∷ one.later) in
      let left : length one.later ≡ length before + length later = ap length is ∙ length-append before later in
      absurd (omega (arith, whole, parts, left))

  pub parted : (first second more others : List Fallen) → AllFallIn s later more → AllFallIn s later others → followed later first ++ more ≡ followed later second ++ others → first ≡ second
  parted [] [] more others h g same = refl
  parted [] (b ∷ bs) [] others h g same = absurd (let no : [] ≡ record b { later = b.later ++ later } ∷ (followed later bs ++ others) = same in cc)
  parted [] (b ∷ bs) (m ∷ ms) others h g same = absurd (falls_later m b.later h.0 (ap (λ (l : List Fallen). later_of l later) same))
  parted (a ∷ more_a) [] more [] h g same = absurd (let no : record a { later = a.later ++ later } ∷ (followed later more_a ++ more) ≡ [] = same in cc)
  parted (a ∷ more_a) [] more (m ∷ ms) h g same = absurd (falls_later m a.later g.0 (ap (λ (l : List Fallen). later_of l later) (sym same)))
  parted (a ∷ more_a) (b ∷ bs) more others h g same =
      let heads : record a { later = a.later ++ later } ≡ record b { later = b.later ++ later } = ap (λ (l : List Fallen). head_of l a) same in
      let access : a.access ≡ b.access = ap (λ (f : Fallen). f.access) heads in
      let outcome : a.outcome ≡ b.outcome = ap (λ (f : Fallen). f.outcome) heads in
      let left : a.later ≡ b.later = append_cancel_right a.later b.later later (ap (λ (f : Fallen). f.later) heads) in
      let tails : more_a ≡ bs = parted more_a bs more others h g (ap rest_of same) in
      let one : a ≡ b =
      ap (λ x. record { access = x; outcome = a.outcome; later = a.later }) access
      ∙ (ap (λ x. record { access = b.access; outcome = x; later = a.later }) outcome ∙ ap (λ x. record { access = b.access; outcome = b.outcome; later = x }) left) in
      ap (λ (x : Fallen). x ∷ more_a) one ∙ ap (λ (xs : List Fallen). b ∷ xs) tails
