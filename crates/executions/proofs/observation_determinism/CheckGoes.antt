-- Two checks whose records begin alike have the same outcomes, as far as what is shared.
use Rattle.std.proofs.Common.{◌≡◌, ◌∙◌, ◌<◌, ◌≤◌, ◌||◌, ◌++◌, ◌∷◌, [], ℕ, Bool, true, false, List, MatchBool, ap, arith, inl, inr, length, subst, sym}
use Rattle.access_types.specs.Access.{Access}
use Rattle.setup_access.specs.Check.{Check, ChecksAll, ChecksBegun, ChecksOnce, Close, Fallen, Pass, Passes, Rechecks, asked_silenced, fallen_of, left_to_check}
use Rattle.setup_access.specs.Records.{MakesWord}
use Rattle.setup_access.specs.Setting.{Setting}
use Rattle.setup_access.specs.declared.begun.Begun.{Begun}
use Rattle.setup_access.specs.declared.outcome.Outcome.{Outcome}
use Rattle.setup_access.proofs.DisciplineLemmas.{on_word}
use Rattle.slot_table.specs.declared.records.Record.{Record}
use Rattle.slot_table.specs.declared.step.Step.TheVariants.{Clock}
use Rattle.executions.proofs.observation_determinism.Cuts.{FellAlike, cut_fell, fell_append, fell_low, fell_together, fell_with}
use Rattle.executions.proofs.observation_determinism.Sure.{Goes, same_length}
use Rattle.executions.proofs.observation_determinism.SureChecks.{GivesBack, Judging, gives_back, in_two, up_to}
use Rattle.executions.proofs.observation_determinism.SureOperations.{clocks}

-- as many records are read, and none of what is told is of those before them
abbrev pub IsLow : List Record → List Fallen → List Record → Type 0
IsLow records fallen rest = (length rest ≤ length records) × ((n : ℕ) → length records < n → cut_fell n fallen ≡ [])

low_both : (n : ℕ) (one : Fallen) (others : List Fallen) → cut_fell n (one ∷ []) ≡ [] → cut_fell n others ≡ [] → cut_fell n (one ∷ others) ≡ []
low_both n one others p q = fell_append n (one ∷ []) others ∙ (ap (λ l. l ++ cut_fell n others) p ∙ q)

-- what is told is the same, in both ends too
pub fell_none : (X Y : List Record) (one other : List Fallen) → cut_fell (length X) one ≡ [] → cut_fell (length Y) other ≡ [] → FellAlike X Y one other
fell_none X Y one other p q = p ∙ sym q

module _ (s : Setting) where
  module _ (a : Access) (marked : Bool) where
    once_low : (asked : ℕ) (records : List Record) (pass : Pass) (rest : List Record) → ChecksOnce s a marked asked records pass rest
        → IsLow records (fallen_of a pass ∷ []) rest
    once_low asked records pass rest h =
        let two = in_two s a marked asked records pass rest h in
        let one : length pass.later ≤ length records = (up_to s a marked asked).shrinks records two.judging pass.later two.first in
        let other : length rest ≤ length pass.later = (gives_back s a two.judging.frees).shrinks pass.later tt rest two.after in
        (omega (arith, one, other), λ n low. fell_low n (fallen_of a pass) (omega (arith, one, low)))

    abbrev OnceSame : List Record → List Record → Pass → Pass → Type 0
    OnceSame X Y one other = (one.settled ≡ other.settled) × (one.asked ≡ other.asked) × FellAlike X Y (fallen_of a one ∷ []) (fallen_of a other ∷ [])

    once : (X Y S : List Record) (asked : ℕ) (one other : Pass) (q r : List Record) → ChecksOnce s a marked asked (S ++ X) one q
        → ChecksOnce s a marked asked (S ++ Y) other r
        → Goes X Y (OnceSame X Y one other) (FellAlike X Y (fallen_of a one ∷ []) (fallen_of a other ∷ [])) q r
    once X Y S asked one other q r h g =
        let first = in_two s a marked asked (S ++ X) one q h in
        let second = in_two s a marked asked (S ++ Y) other r g in
        elim ((up_to s a marked asked).agrees X Y S first.judging second.judging one.later other.later first.first second.first) [
          | inl near ↦
              let outcomes : one.outcome ≡ other.outcome = first.outcome ∙ (ap (λ (j : Judging). j.outcome) near.3 ∙ sym second.outcome) in
              let told : FellAlike X Y (fallen_of a one ∷ []) (fallen_of a other ∷ []) =
              fell_together X Y near.0 (fallen_of a one) (fallen_of a other) near.1 near.2
              (ap (λ (o : Outcome). record { access = a; outcome = o }) outcomes) in
              let after = subst (λ (j : Judging). GivesBack s a j.frees (near.0 ++ X) tt q) near.3
              (subst (λ (l : List Record). GivesBack s a first.judging.frees l tt q) near.1 first.after) in
              let other_after = subst (λ (l : List Record). GivesBack s a second.judging.frees l tt r) near.2 second.after in
              elim ((gives_back s a second.judging.frees).agrees X Y near.0 tt tt q r after other_after) [
                | inl on ↦ inl (
                  on.0,
                  on.1,
                  on.2,
                  (
                    first.settled ∙ (ap (λ (j : Judging). j.settled) near.3 ∙ sym second.settled),
                    first.now ∙ (ap (λ (j : Judging). j.asked) near.3 ∙ sym second.now),
                    told,
                  ),
                )
                | inr far ↦ inr (far.0, far.1, told)
              ]
          | inr far ↦
              let less : length q ≤ length one.later = (gives_back s a first.judging.frees).shrinks one.later tt q first.after in
              let fewer : length r ≤ length other.later = (gives_back s a second.judging.frees).shrinks other.later tt r second.after in
              inr (
                omega (arith, less, far.0),
                omega (arith, fewer, far.1),
                fell_none X Y (fallen_of a one ∷ []) (fallen_of a other ∷ []) (fell_low (length X) (fallen_of a one) far.0)
                    (fell_low (length Y) (fallen_of a other) far.1),
              )
        ]

  -- one check, and then those of assertions
  abbrev OnceAnd : Access → Bool → (Bool → ℕ → List Record → Passes → List Record → Type 0) → ℕ → List Record → Passes → List Record → Type 0
  OnceAnd a marked More asked records passes rest =
      (pass : Pass) × (later : List Record) × (more : List Fallen) × ChecksOnce s a marked asked records pass later
      × More pass.settled pass.asked later (record { outcomes = more; asked = passes.asked }) rest × (passes.outcomes ≡ fallen_of a pass ∷ more)

  abbrev pub PassesSame : List Record → List Record → Passes → Passes → Type 0
  PassesSame X Y one other = (one.asked ≡ other.asked) × FellAlike X Y one.outcomes other.outcomes

  abbrev pub PassesGo : List Record → List Record → Passes → Passes → List Record → List Record → Type 0
  PassesGo X Y one other q r = Goes X Y (PassesSame X Y one other) (FellAlike X Y one.outcomes other.outcomes) q r

  -- what follows on a check is told by its records
  record Follows (More : ℕ → List Record → Passes → List Record → Type 0) : Type 0 where
    low : (asked : ℕ) (records : List Record) (passes : Passes) (rest : List Record) → More asked records passes rest → IsLow records passes.outcomes rest
    agrees : (X Y S : List Record) (asked : ℕ) (one other : Passes) (q r : List Record) → More asked (S ++ X) one q → More asked (S ++ Y) other r
        → PassesGo X Y one other q r

  module _ (a : Access) (marked : Bool) (More : Bool → ℕ → List Record → Passes → List Record → Type 0)
      (follows : (settled : Bool) → Follows (More settled)) where
    and_low : (asked : ℕ) (records : List Record) (passes : Passes) (rest : List Record) → OnceAnd a marked More asked records passes rest
        → IsLow records passes.outcomes rest
    and_low asked records passes rest h =
        let one = once_low a marked asked records h.0 h.1 h.3 in
        let other = (follows h.0.settled).low h.0.asked h.1 (record { outcomes = h.2; asked = passes.asked }) rest h.4 in
        let less : length h.1 ≤ length records = one.0 in
        let fewer : length rest ≤ length h.1 = other.0 in (
          omega (arith, less, fewer),
          λ n low. ap (λ (f : List Fallen). cut_fell n f) h.5
              ∙ low_both n (fallen_of a h.0) h.2 (one.1 n low) (other.1 n (omega (arith, less, low))),
        )

    and_agree : (X Y S : List Record) (asked : ℕ) (one other : Passes) (q r : List Record) → OnceAnd a marked More asked (S ++ X) one q
        → OnceAnd a marked More asked (S ++ Y) other r → PassesGo X Y one other q r
    and_agree X Y S asked one other q r h g =
        let here : Passes = record { outcomes = h.2; asked = one.asked } in
        let there : Passes = record { outcomes = g.2; asked = other.asked } in
        let whole : FellAlike X Y (fallen_of a h.0 ∷ []) (fallen_of a g.0 ∷ []) → FellAlike X Y h.2 g.2 → FellAlike X Y one.outcomes other.outcomes =
        λ (first : FellAlike X Y (fallen_of a h.0 ∷ []) (fallen_of a g.0 ∷ [])) (second : FellAlike X Y h.2 g.2).
        ap (λ (f : List Fallen). cut_fell (length X) f) h.5
        ∙ (fell_with X Y (fallen_of a h.0 ∷ []) (fallen_of a g.0 ∷ []) h.2 g.2 first second ∙ ap (λ (f : List Fallen). cut_fell (length Y) f) (sym g.5)) in
        elim (once a marked X Y S asked h.0 g.0 h.1 g.1 h.3 g.3) [
          | inl near ↦
              elim ((follows g.0.settled).agrees X Y near.0 g.0.asked here there q r
              (subst (λ (b : Bool). More b g.0.asked (near.0 ++ X) here q) near.3.0
              (subst (λ (n : ℕ). More h.0.settled n (near.0 ++ X) here q) near.3.1
              (subst (λ (l : List Record). More h.0.settled h.0.asked l here q) near.1 h.4)))
              (subst (λ (l : List Record). More g.0.settled g.0.asked l there r) near.2 g.4)) [
                | inl on ↦ inl (on.0, on.1, on.2, (on.3.0, whole near.3.2 on.3.1))
                | inr far ↦ inr (far.0, far.1, whole near.3.2 far.2)
              ]
          | inr far ↦
              let ends = (follows h.0.settled).low h.0.asked h.1 here q h.4 in
              let other_ends = (follows g.0.settled).low g.0.asked g.1 there r g.4 in
              let less : length q ≤ length h.1 = ends.0 in
              let fewer : length r ≤ length g.1 = other_ends.0 in
              inr (
                omega (arith, less, far.0),
                omega (arith, fewer, far.1),
                whole far.2 (fell_none X Y h.2 g.2 (ends.1 (length X) far.0) (other_ends.1 (length Y) far.1)),
              )
        ]

  -- nothing more is checked
  abbrev Nothing : ℕ → List Record → Passes → List Record → Type 0
  Nothing asked records passes rest = (passes ≡ record { outcomes = []; asked = asked }) × (rest ≡ records)

  nothing_low : (asked : ℕ) (records : List Record) (passes : Passes) (rest : List Record) → Nothing asked records passes rest
      → IsLow records passes.outcomes rest
  nothing_low asked records passes rest h = (same_length records rest h.1, λ n low. ap (λ (p : Passes). cut_fell n p.outcomes) h.0)

  nothing_agree : (X Y S : List Record) (asked : ℕ) (one other : Passes) (q r : List Record) → Nothing asked (S ++ X) one q → Nothing asked (S ++ Y) other r
      → PassesGo X Y one other q r
  nothing_agree X Y S asked one other q r h g = inl (
    S,
    h.1,
    g.1,
    (
      ap (λ (p : Passes). p.asked) h.0 ∙ sym (ap (λ (p : Passes). p.asked) g.0),
      ap (λ (p : Passes). cut_fell (length X) p.outcomes) h.0 ∙ sym (ap (λ (p : Passes). cut_fell (length Y) p.outcomes) g.0),
    ),
  )

  nothing_follows : Follows Nothing
  nothing_follows = record { low = nothing_low; agrees = nothing_agree }

  by_silence : (silenced : Bool) (Yes No : ℕ → List Record → Passes → List Record → Type 0) → Follows Yes → Follows No
      → Follows (λ asked records passes rest. MatchBool silenced (Yes asked records passes rest) (No asked records passes rest))
  by_silence true Yes No at_true at_false = at_true
  by_silence false Yes No at_true at_false = at_false

  rechecks : (scopes : List Begun) → Follows (λ asked records passes rest. Rechecks s scopes asked records passes rest)
  rechecks [] = nothing_follows
  rechecks (scope ∷ scopes) =
      by_silence scope.silenced (λ asked records passes rest. Rechecks s scopes asked records passes rest)
      (λ asked records passes rest. OnceAnd scope.access scope.marked
      (λ settled now later more end. Rechecks s scopes now later more end) asked records passes rest)
      (rechecks scopes)
      (record {
        low = and_low scope.access scope.marked (λ settled now later more end. Rechecks s scopes now later more end) (λ settled. rechecks scopes);
        agrees = and_agree scope.access scope.marked (λ settled now later more end. Rechecks s scopes now later more end) (λ settled. rechecks scopes);
      })

  checks_all : (scopes : List Begun) (begun : Begun) → Follows (λ asked records passes rest. ChecksAll s scopes begun asked records passes rest)
  checks_all scopes begun =
      let left : (settled : Bool) → Follows (λ asked records passes rest. Rechecks s (left_to_check settled scopes) asked records passes rest) =
      λ (settled : Bool). rechecks (left_to_check settled scopes) in
      record {
        low = and_low begun.access begun.marked (λ settled now later more end. Rechecks s (left_to_check settled scopes) now later more end) left;
        agrees = and_agree begun.access begun.marked (λ settled now later more end. Rechecks s (left_to_check settled scopes) now later more end) left;
      }

  silenced_follows : (marked : Bool) → Follows (λ asked records passes rest. Nothing (asked_silenced marked asked) records passes rest)
  silenced_follows marked = record {
    low = λ asked records passes rest h. nothing_low (asked_silenced marked asked) records passes rest h;
    agrees = λ X Y S asked one other q r h g. nothing_agree X Y S (asked_silenced marked asked) one other q r h g;
  }

  checks_begun : (scopes : List Begun) (begun : Begun) → Follows (λ asked records passes rest. ChecksBegun s scopes begun asked records passes rest)
  checks_begun scopes begun = by_silence begun.silenced (λ asked records passes rest. Nothing (asked_silenced begun.marked asked) records passes rest)
      (λ asked records passes rest. ChecksAll s scopes begun asked records passes rest) (silenced_follows begun.marked) (checks_all scopes begun)

  -- the first record of a check is the clock's
  pub check_low : (scopes : List Begun) (begun : Begun) (asked : ℕ) (records : List Record) (passes : Passes) (rest : List Record)
      → Check s scopes begun asked records passes rest
      → (length rest < length records) × ((n : ℕ) → length records ≤ n → cut_fell n passes.outcomes ≡ [])
  check_low scopes begun asked [] passes rest h = absurd h.2
  check_low scopes begun asked (first ∷ later) passes rest h =
      let got = on_word first.answer (λ stamp. ChecksBegun s scopes begun asked later passes rest) h.2.2 in
      let ends = (checks_begun scopes begun).low asked later passes rest got.2 in
      let less : length rest ≤ length later = ends.0 in (omega (arith, less), λ n low. ends.1 n (omega (arith, low)))

  pub check_on : (X Y S : List Record) (first : Record) (scopes : List Begun) (begun : Begun) (asked : ℕ) (one other : Passes) (q r : List Record)
      → Check s scopes begun asked (first ∷ (S ++ X)) one q → Check s scopes begun asked (first ∷ (S ++ Y)) other r → PassesGo X Y one other q r
  check_on X Y S first scopes begun asked one other q r h g =
      let here = on_word first.answer (λ stamp. ChecksBegun s scopes begun asked (S ++ X) one q) h.2.2 in
      let there = on_word first.answer (λ stamp. ChecksBegun s scopes begun asked (S ++ Y) other r) g.2.2 in
      (checks_begun scopes begun).agrees X Y S asked one other q r here.2 there.2

  -- the close of a scoped assertion
  pub close_low : (scope : Begun) (silenced : Bool) (asked : ℕ) (records : List Record) (passes : Passes) (rest : List Record)
      → Close s scope silenced asked records passes rest → IsLow records passes.outcomes rest
  close_low scope silenced asked records passes rest h =
      let last : Begun = record scope { silenced = scope.silenced || silenced } in
      let ends = (rechecks (last ∷ [])).low asked records passes h.1.0 h.1.1 in
      let less : length h.1.0 ≤ length records = ends.0 in
      let fewer : length rest ≤ length h.1.0 = (clocks s.task).shrinks h.1.0 tt rest h.1.2 in (omega (arith, less, fewer), ends.1)

  pub close_on : (X Y S : List Record) (scope : Begun) (silenced : Bool) (asked : ℕ) (one other : Passes) (q r : List Record)
      → Close s scope silenced asked (S ++ X) one q → Close s scope silenced asked (S ++ Y) other r → PassesGo X Y one other q r
  close_on X Y S scope silenced asked one other q r h g =
      let last : Begun = record scope { silenced = scope.silenced || silenced } in
      elim ((rechecks (last ∷ [])).agrees X Y S asked one other h.1.0 g.1.0 h.1.1 g.1.1) [
        | inl near ↦
            elim ((clocks s.task).agrees X Y near.0 tt tt q r (subst (λ (l : List Record). MakesWord s.task Clock (λ stamp after. q ≡ after) l) near.1 h.1.2)
            (subst (λ (l : List Record). MakesWord s.task Clock (λ stamp after. r ≡ after) l) near.2 g.1.2)) [
              | inl on ↦ inl (on.0, on.1, on.2, near.3)
              | inr far ↦ inr (far.0, far.1, near.3.1)
            ]
        | inr far ↦
            let less : length q ≤ length h.1.0 = (clocks s.task).shrinks h.1.0 tt q h.1.2 in
            let fewer : length r ≤ length g.1.0 = (clocks s.task).shrinks g.1.0 tt r g.1.2 in
            inr (omega (arith, less, far.0), omega (arith, fewer, far.1), far.2)
      ]
