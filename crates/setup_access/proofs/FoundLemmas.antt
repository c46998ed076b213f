-- What a pair that was read makes of a wait: it goes on while the half is empty, and is over where the half stands.
use Rattle.std.proofs.Common.{◌≡◌, ◌<◌, ◌↔◌, ◌∷◌, ℕ, zero, suc, List, inl, inr, refl, subst, arith}
use Rattle.access_types.specs.Access.{Access}
use Rattle.slot.specs.Pair.{Halves}
use Rattle.slot_table.specs.declared.records.Record.{Record}
use Rattle.slot_table.specs.declared.step.Answer.TheVariants as answers
use Rattle.slot_table.specs.declared.step.Step.TheVariants.{PairLoad}
use Rattle.setup_access.specs.Found.{Hears, FinderTells, TellsTo, setter_half}
use Rattle.setup_access.specs.Parts.{TakingLeft, made}
use Rattle.setup_access.specs.Setting.{Setting}
use Rattle.setup_access.specs.declared.found.Found.TheVariants.{HearSetter, Tell}
use Rattle.setup_access.specs.declared.found.Taking.{Taking}
use Rattle.setup_access.specs.declared.found.Taking.TheVariants.{Going}
use Rattle.setup_access.specs.declared.outcome.Outcome.{Outcome}

module _ (half : Halves → ℕ) (task index : ℕ) (heard : Halves) (later : List Record) (both : Halves) (rest : List Record) where
  -- the half is empty: the wait goes on
  pub hears_failed : half heard ≡ 0
      → (Hears half task index (made task (PairLoad index) (answers.Halves heard.setter heard.finder) ∷ later) both rest ↔ Hears half task index later both rest)
  hears_failed empty = (λ h. elim h.2 [ inl p ↦ absurd (let above : 0 < half heard = p.0 in omega arith) | inr q ↦ q.1 ], λ h. (refl, refl, inr (empty, h)))

  -- the half stands: the wait is over
  pub hears_now : 0 < half heard
      → (Hears half task index (made task (PairLoad index) (answers.Halves heard.setter heard.finder) ∷ later) both rest ↔ ((both ≡ heard) × (rest ≡ later)))
  hears_now above = (λ h. elim h.2 [ inl p ↦ (p.1, p.2) | inr q ↦ absurd (let empty : half heard ≡ 0 = q.0 in omega arith) ], λ p. (refl, refl, inl (above, p.0, p.1)))

module _ (s : Setting) (a : Access) (index : ℕ) (outcome : Outcome) (later rest : List Record) where
  -- what a finder has left after it read the pair
  pub heard_setter_left : (setter finder more : ℕ) (result : Taking)
      → (setter ≡ 0 → result ≡ Going (HearSetter index more))
      → (0 < setter → result ≡ Going (Tell index setter))
      → (FinderTells s a index (made s.task (PairLoad index) (answers.Halves setter finder) ∷ later) outcome rest ↔ TakingLeft s a result later outcome rest)
  heard_setter_left zero finder more result failed stands =
      rw (failed refl) (
        λ h. (h.0, h.1, (hears_failed setter_half s.task index (record { setter = 0; finder = finder }) later h.0 h.1 refl).0 h.2, h.3),
        λ h. (h.0, h.1, (hears_failed setter_half s.task index (record { setter = 0; finder = finder }) later h.0 h.1 refl).1 h.2, h.3),
      )
  heard_setter_left (suc n) finder more result failed stands =
      let above : 0 < suc n = omega arith in
      let heard : Halves = record { setter = suc n; finder = finder } in
      rw (stands above) (
        λ h. let now = (hears_now setter_half s.task index heard later h.0 h.1 above).0 h.2 in
            let at_both : TellsTo s a index h.0.setter later outcome rest = rw (← now.1) h.3 in
            let P : Halves → Type 0 = λ b. TellsTo s a index b.setter later outcome rest in subst P now.0 at_both,
        λ h. (heard, later, (hears_now setter_half s.task index heard later heard later above).1 (refl, refl), h),
      )
