-- What an answer makes of what a setter has left to do.
use Rattle.std.proofs.Common.{◌≡◌, ◌<◌, ◌↔◌, ◌∷◌, [], ◌+◌, ◌∙◌, ℕ, Bool, true, false, List, Option, None, Some, refl, subst}
use Rattle.access_types.specs.Access.{Access}
use Rattle.access_types.specs.Ticket.{ticket_number}
use Rattle.slot.specs.Pair.{Halves}
use Rattle.slot_table.specs.declared.records.Record.{Record}
use Rattle.slot_table.specs.declared.step.Answer.TheVariants as answers
use Rattle.slot_table.specs.declared.step.Step.TheVariants as steps
use Rattle.setup_access.specs.Found.{finder_half}
use Rattle.setup_access.specs.Parts.{JudgedAt, LoadsBoth, LoadsNew, SetupLeft, WatchingLeft, after_name, after_refusal, made}
use Rattle.slot_table.specs.index_order.Indices.{place_after, try_index}
use Rattle.setup_access.specs.Setting.{Setting, slot_of}
use Rattle.setup_access.specs.Setup.{Judged, Judges, JudgesHit, TriesInsert, WatchesAt}
use Rattle.setup_access.specs.Values.{LoadsFrom, both_values, source_of, value_in}
use Rattle.setup_access.specs.Verdicts.{HitOutcome, UntouchedOutcome}
use Rattle.setup_access.specs.declared.outcome.Outcome.{Outcome}
use Rattle.slot_table.specs.declared.index_order.place.ProbeIndex.{ProbeIndex}
use Rattle.slot_table.specs.declared.index_order.place.ProbeIndex.TheVariants.{First, Second, Third}
use Rattle.setup_access.specs.declared.setup.Setup.TheVariants as setups
use Rattle.setup_access.specs.declared.setup.Watching.{Watching}
use Rattle.setup_access.specs.declared.setup.Watching.TheVariants as watchings
use Rattle.setup_access.specs.declared.source.Source.{Source}
use Rattle.setup_access.proofs.FoundLemmas.{hears_now, hears_failed}
use Rattle.setup_access.proofs.VerdictsUnique.{hit_unique, untouched_unique}

module _ (s : Setting) (a : Access) (later : List Record) (judged : Option Judged) (rest : List Record) where
  -- an insertion under way, and what follows on it
  abbrev Trying : ℕ → List ℕ → List Record → Type 0
  Trying word indices records = (at : Option ℕ) × (after : List Record) × TriesInsert s.task word indices records at after × WatchesAt s a at after judged rest

  -- the word stands: it is watched there
  accepted_at : (word index : ℕ) (indices : List ℕ)
      → (Trying word (index ∷ indices) (made s.task (steps.Insert index word) (answers.Flag true) ∷ later) ↔ WatchesAt s a (Some index) later judged rest)
  accepted_at word index indices = (
    λ h. let at_later : WatchesAt s a h.0 later judged rest = subst (λ r. WatchesAt s a h.0 r judged rest) h.2.2.1 h.3 in
        subst (λ p. WatchesAt s a p later judged rest) h.2.2.0 at_later,
    λ h. (Some index, later, (refl, refl, (refl, refl)), h),
  )

  -- refused, the next index is tried
  refused_at : (word index : ℕ) (indices : List ℕ)
      → (Trying word (index ∷ indices) (made s.task (steps.Insert index word) (answers.Flag false) ∷ later) ↔ Trying word indices later)
  refused_at word index indices = (λ h. (h.0, h.1, h.2.2, h.3), λ h. (h.0, h.1, (refl, refl, h.2), h.3))

  -- none was free
  none_left : (word : ℕ) → (Trying word [] later ↔ ((judged ≡ None) × (rest ≡ later)))
  none_left word = (
    λ h. let nowhere : WatchesAt s a None h.1 judged rest = subst (λ p. WatchesAt s a p h.1 judged rest) h.2.0 h.3 in (nowhere.0, nowhere.1 ∙ h.2.1),
    λ h. (None, later, (refl, refl), h),
  )

  pub inserted_left : (place : ProbeIndex) (word : ℕ) (accepted : Bool) (result : Watching)
      → (accepted ≡ true → result ≡ watchings.Going (setups.Name (try_index place (slot_of s a))))
      → (accepted ≡ false → result ≡ after_refusal word (place_after place))
      → (SetupLeft s a (setups.Insert place word) (made s.task (steps.Insert (try_index place (slot_of s a)) word) (answers.Flag accepted) ∷ later) judged rest
      ↔ WatchingLeft s a result later judged rest)
  inserted_left First word true result stands again = rw (stands refl) (accepted_at word (slot_of s a + 1) ((slot_of s a + 2) ∷ slot_of s a ∷ []))
  inserted_left Second word true result stands again = rw (stands refl) (accepted_at word (slot_of s a + 2) (slot_of s a ∷ []))
  inserted_left Third word true result stands again = rw (stands refl) (accepted_at word (slot_of s a) [])
  inserted_left First word false result stands again = rw (again refl) (refused_at word (slot_of s a + 1) ((slot_of s a + 2) ∷ slot_of s a ∷ []))
  inserted_left Second word false result stands again = rw (again refl) (refused_at word (slot_of s a + 2) (slot_of s a ∷ []))
  inserted_left Third word false result stands again = rw (again refl)
      (λ h. (none_left word).0 ((refused_at word (slot_of s a) []).0 h), λ h. (refused_at word (slot_of s a) []).1 ((none_left word).1 h))

module _ (s : Setting) (a : Access) (index : ℕ) (later rest : List Record) where
  -- a watch whose values come from a source, or from none
  abbrev WatchesFrom : Option Source → Outcome → Type 0
  WatchesFrom source outcome =
      (old new : Option ℕ) × (stalled consumed : List Record)
      × LoadsFrom s a source later old stalled × LoadsFrom s a source stalled new consumed
      × Judges s a index (both_values old new) consumed outcome rest

  from_none : (outcome : Outcome) → (WatchesFrom None outcome ↔ Judges s a index None later outcome rest)
  from_none outcome = (
    λ h. let at_old : Judges s a index (both_values None h.1) h.3 outcome rest = subst (λ o. Judges s a index (both_values o h.1) h.3 outcome rest) h.4.0 h.6 in
        subst (λ r. Judges s a index None r outcome rest) (h.5.1 ∙ h.4.1) at_old,
    λ h. (None, None, later, later, (refl, refl), (refl, refl), h),
  )

  from_name : (source : Option Source) (judged : Option Judged)
      → (((outcome : Outcome) × WatchesFrom source outcome × (judged ≡ Some (record { index = index; outcome = outcome }))) ↔ SetupLeft s a (after_name index source) later judged rest)
  from_name None judged = (λ h. (h.0, (from_none h.0).0 h.1, h.2), λ h. (h.0, (from_none h.0).1 h.1, h.2))
  from_name (Some source) judged = (λ h. h, λ h. h)

  -- the setter named itself
  pub named_left : (result : Watching) (judged : Option Judged) → result ≡ watchings.Going (after_name index (source_of s a))
      → (SetupLeft s a (setups.Name index) (made s.task (steps.Name index (ticket_number a)) answers.Done ∷ later) judged rest ↔ WatchingLeft s a result later judged rest)
  named_left result judged is = rw is (
    λ h. (from_name (source_of s a) judged).0 (h.0, h.1.2.1, h.2),
    λ h. let back = (from_name (source_of s a) judged).1 h in (back.0, (refl, refl, (refl, back.1)), back.2),
  )

  -- the old value was loaded
  pub old_left : (source : Source) (word value : ℕ) (judged : Option Judged) → value ≡ value_in a source word
      → (JudgedAt index (LoadsBoth s a index source) (made s.task (steps.CellLoad source.cell) (answers.Word word) ∷ later) judged rest
      ↔ JudgedAt index (LoadsNew s a index source value) later judged rest)
  old_left source word value judged is = rw is (
    λ h. let both = h.1 in
        let loads : LoadsFrom s a (Some source) later both.1 both.3 = subst (λ r. LoadsFrom s a (Some source) r both.1 both.3) both.4.2.1 both.5 in
        let judges : Judges s a index (both_values (Some (value_in a source word)) both.1) both.3 h.0 rest =
        subst (λ o. Judges s a index (both_values o both.1) both.3 h.0 rest) both.4.2.0 both.6 in
        (h.0, (both.1, both.3, loads, judges), h.2),
    λ h. (h.0, (Some (value_in a source word), h.1.0, later, h.1.1, (refl, refl, (refl, refl)), h.1.2, h.1.3), h.2),
  )

  -- the new value was loaded
  pub new_left : (source : Source) (old word value : ℕ) (judged : Option Judged) → value ≡ value_in a source word
      → (JudgedAt index (LoadsNew s a index source old) (made s.task (steps.CellLoad source.cell) (answers.Word word) ∷ later) judged rest
      ↔ JudgedAt index (Judges s a index (Some (old, value))) later judged rest)
  new_left source old word value judged is = rw is (
    λ h. let loaded = h.1 in
        let at_value : Judges s a index (Some (old, value_in a source word)) loaded.1 h.0 rest =
        subst (λ n. Judges s a index (both_values (Some old) n) loaded.1 h.0 rest) loaded.2.2.0 loaded.3 in
        (h.0, subst (λ r. Judges s a index (Some (old, value_in a source word)) r h.0 rest) loaded.2.2.1 at_value, h.2),
    λ h. (h.0, (Some (value_in a source word), later, (refl, refl, (refl, refl)), h.1), h.2),
  )

  -- an outcome that is known and alone is the one
  sole : (P : Outcome → Type 0) (outcome : Outcome) (judged : Option Judged) → P outcome → ((other : Outcome) → P other → other ≡ outcome)
      → (((other : Outcome) × (P other × (rest ≡ later)) × (judged ≡ Some (record { index = index; outcome = other })))
      ↔ ((judged ≡ Some (record { index = index; outcome = outcome })) × (rest ≡ later)))
  sole P outcome judged holds alone = (
    λ h. (subst (λ o. judged ≡ Some (record { index = index; outcome = o })) (alone h.0 h.1.0) h.2, h.1.1),
    λ h. (outcome, (holds, h.1), h.0),
  )

  -- the setter consumed its word
  pub consumed_left : (values : Option (ℕ × ℕ)) (untouched : Bool) (result : Watching) (judged : Option Judged)
      → (untouched ≡ true → (outcome : Outcome) × UntouchedOutcome s a values outcome × (result ≡ watchings.Judged index outcome))
      → (untouched ≡ false → result ≡ watchings.Going (setups.HearFinder index values 0))
      → (JudgedAt index (Judges s a index values) (made s.task (steps.Consume index) (answers.Flag untouched) ∷ later) judged rest ↔ WatchingLeft s a result later judged rest)
  consumed_left values true result judged over on =
      let given = over refl in
      let sole_one = sole (UntouchedOutcome s a values) given.0 judged given.1 (λ other holds. untouched_unique s a values other given.0 holds given.1) in
      rw given.2 (λ h. sole_one.0 (h.0, h.1.2, h.2), λ h. let back = sole_one.1 h in (back.0, (refl, refl, back.1), back.2))
  consumed_left values false result judged over on = rw (on refl) (λ h. (h.0, h.1.2, h.2), λ h. (h.0, (refl, refl, h.1), h.2))

  -- the setter read the pair, and the finder's half was empty
  pub failed_left : (values : Option (ℕ × ℕ)) (setter finder : ℕ) (judged : Option Judged) → finder ≡ 0
      → (JudgedAt index (JudgesHit s a index values) (made s.task (steps.PairLoad index) (answers.Halves setter finder) ∷ later) judged rest
      ↔ JudgedAt index (JudgesHit s a index values) later judged rest)
  failed_left values setter finder judged empty =
      let heard : Halves = record { setter = setter; finder = finder } in (
        λ h. (h.0, (h.1.0, (hears_failed finder_half s.task index heard later h.1.0 rest empty).0 h.1.1, h.1.2), h.2),
        λ h. (h.0, (h.1.0, (hears_failed finder_half s.task index heard later h.1.0 rest empty).1 h.1.1, h.1.2), h.2),
      )

  -- the finder's half stood: there is the verdict for two sides
  pub hit_left : (values : Option (ℕ × ℕ)) (setter finder : ℕ) (outcome : Outcome) (judged : Option Judged) → 0 < finder
      → HitOutcome s a values (record { setter = setter; finder = finder }) outcome
      → (JudgedAt index (JudgesHit s a index values) (made s.task (steps.PairLoad index) (answers.Halves setter finder) ∷ later) judged rest
      ↔ ((judged ≡ Some (record { index = index; outcome = outcome })) × (rest ≡ later)))
  hit_left values setter finder outcome judged above holds =
      let heard : Halves = record { setter = setter; finder = finder } in
      let sole_one = sole (HitOutcome s a values heard) outcome judged holds (λ other it. hit_unique s a values heard other outcome it holds) in (
        λ h. let now = (hears_now finder_half s.task index heard later h.1.0 rest above).0 h.1.1 in
            sole_one.0 (h.0, (subst (λ b. HitOutcome s a values b h.0) now.0 h.1.2, now.1), h.2),
        λ h. let back = sole_one.1 h in
            (back.0, (heard, (hears_now finder_half s.task index heard later heard rest above).1 (refl, back.1.1), back.1.0), back.2),
      )
