-- What is left of a check after an answer, put together from what is left of its parts.
use Rattle.std.proofs.Common.{◌≡◌, ◌↔◌, ◌∷◌, [], ◌+◌, ◌∙◌, ℕ, Bool, true, false, List, Option, None, Some, IsTrue, is_some, MatchOption, ap, refl, subst, sym}
use Rattle.skip_sampler.specs.Sampler.{Sampler}
use Rattle.slot_table.specs.declared.records.Record.{Record}
use Rattle.slot_table.specs.declared.step.Answer.{Answer}
use Rattle.slot_table.specs.declared.step.Answer.TheVariants.{Done}
use Rattle.slot_table.specs.declared.step.Step.TheVariants.{Clear}
use Rattle.watch_word.specs.Word.{Encodable, word_of}
use Rattle.setup_access.specs.Check.{Fallen, NoneFound, Pass}
use Rattle.setup_access.specs.Check as checks
use Rattle.setup_access.specs.Found.{Takes}
use Rattle.setup_access.specs.Parts.{FindLeft, FoundLeft, SetupLeft, made}
use Rattle.setup_access.specs.PassLeft.{EndsGiven, Given, GoesOnGiven, PassLeft, Samples, TurnLeft, given_of, nothing_given, with_outcome}
use Rattle.setup_access.specs.Setting.{IsWatched, Setting}
use Rattle.setup_access.specs.Setup.{Judged}
use Rattle.setup_access.specs.declared.begun.Begun.{Begun}
use Rattle.setup_access.specs.declared.find.Find.{Find}
use Rattle.setup_access.specs.declared.found.Found.{Found}
use Rattle.setup_access.specs.declared.found.Found.TheVariants.{TryConsume}
use Rattle.setup_access.specs.declared.outcome.Outcome.{Outcome}
use Rattle.setup_access.specs.declared.outcome.Outcome.TheVariants.{Capacity, Nothing, Unencodable}
use Rattle.setup_access.specs.declared.outcome.Watchpoint.{Watchpoint}
use Rattle.setup_access.specs.declared.pass.Pass as code
use Rattle.setup_access.specs.declared.pass.Pass.TheVariants as passes
use Rattle.setup_access.specs.declared.pass.Next.TheVariants.{Going, Settled, Unsettled}
use Rattle.setup_access.specs.declared.pass.Transition.{Transition}
use Rattle.slot_table.specs.declared.index_order.place.ProbeIndex.TheVariants.{First}
use Rattle.setup_access.specs.declared.setup.Setup.{Setup}
use Rattle.setup_access.specs.declared.setup.Setup.TheVariants.{Insert}

-- two facts that say the same say it of a third
pub through : {A B C : Type 0} → (A ↔ B) → (B ↔ C) → (A ↔ C)
through f g = (λ a. g.0 (f.0 a), λ c. f.1 (g.1 c))

-- what holds of some values that are known holds of these
pub at_point : {A B : Type 0} (L G : A → B → Type 0) (a : A) (b : B) → ((x : A) (y : B) → L x y ↔ ((x ≡ a) × (y ≡ b)))
    → (((x : A) × (y : B) × L x y × G x y) ↔ G a b)
at_point L G a b is = (
  λ h. let known = (is h.0 h.1).0 h.2 in
      let first : G a h.1 = subst (λ x. G x h.1) known.0 h.3 in subst (λ y. G a y) known.1 first,
  λ g. (a, b, (is a b).1 (refl, refl), g),
)

match_some : (o : Option ℕ) (P Q : Type 0) → is_some o ≡ true → (MatchOption o P (λ _. Q) ↔ Q)
match_some None P Q h = absurd (let no : false ≡ true = h in cc)
match_some (Some x) P Q h = (λ q. q, λ q. q)

match_none : (o : Option ℕ) (P Q : Type 0) → is_some o ≡ false → (MatchOption o P (λ _. Q) ↔ P)
match_none None P Q h = (λ p. p, λ p. p)
match_none (Some x) P Q h = absurd (let no : true ≡ false = h in cc)

module _ (s : Setting) (begun : Begun) (asked : ℕ) (later : List Record) (given : Given) (rest : List Record) where
  -- an outcome that falls now
  abbrev here : Outcome → Fallen
  here outcome = record { access = begun.access; outcome = outcome; later = later }

  -- the check goes on
  pub going_left : (turn : Transition) (pass : code.Pass) → turn ≡ record { outcome = None; to = Going pass }
      → (PassLeft s begun pass asked later given rest ↔ TurnLeft s begun turn asked later given rest)
  going_left turn pass is = rw is
      (λ h. (given, h, refl), λ h. subst (λ g. PassLeft s begun pass asked later g rest) (sym h.2) h.1)

  -- it is over with an outcome, and has found a watchpoint
  pub settled_left : (turn : Transition) (outcome : Outcome) → turn ≡ record { outcome = Some outcome; to = Settled }
      → (((given ≡ record { outcomes = here outcome ∷ []; settled = true; asked = asked }) × (rest ≡ later)) ↔ TurnLeft s begun turn asked later given rest)
  settled_left turn outcome is = rw is
      (λ h. (nothing_given true asked, (refl, h.1), h.0), λ h. (h.2 ∙ ap (with_outcome (Some (here outcome))) h.1.0, h.1.1))

  -- it is over with an outcome, and has neither found a watchpoint nor set one up
  pub unsettled_left : (turn : Transition) (outcome : Outcome) → turn ≡ record { outcome = Some outcome; to = Unsettled }
      → (((given ≡ record { outcomes = here outcome ∷ []; settled = false; asked = asked }) × (rest ≡ later)) ↔ TurnLeft s begun turn asked later given rest)
  unsettled_left turn outcome is = rw is
      (λ h. (nothing_given false asked, (refl, h.1), h.0), λ h. (h.2 ∙ ap (with_outcome (Some (here outcome))) h.1.0, h.1.1))

  -- a pass that is known
  pass_is : (outcome : Outcome) (settled : Bool) (at : ℕ) (P : Pass → Type 0) → ((pass : Pass) → P pass ↔ ((pass ≡ record { outcome = outcome; later = later; settled = settled; asked = at }) × (rest ≡ later)))
      → (((pass : Pass) × P pass × (given ≡ given_of begun pass)) ↔ ((given ≡ record { outcomes = here outcome ∷ []; settled = settled; asked = at }) × (rest ≡ later)))
  pass_is outcome settled at P is = (
    λ h. let known = (is h.0).0 h.1 in (h.2 ∙ ap (given_of begun) known.0, known.1),
    λ h. let pass : Pass = record { outcome = outcome; later = later; settled = settled; asked = at } in (pass, (is pass).1 (refl, h.1), h.0),
  )

  -- an access with a mask takes nothing
  pub masked_left : (found : Watchpoint) → is_some begun.access.mask ≡ true
      → (GoesOnGiven s begun asked (Some found) later given rest ↔ ((given ≡ record { outcomes = here Nothing ∷ []; settled = true; asked = asked }) × (rest ≡ later)))
  masked_left found mask = (
    λ h. let nothing = (match_some begun.access.mask (Takes s begun.access found later h.0.outcome rest) ((h.0.outcome ≡ Nothing) × (rest ≡ later)) mask).0 h.1.3 in
        let settled = h.1.0 in let same = h.1.1 in let falls = h.1.2 in let over = nothing.1 in let outcome = nothing.0 in let is = h.2 in
        (cc, nothing.1),
    λ h. (
      record { outcome = Nothing; later = later; settled = true; asked = asked },
      (refl, refl, sym h.1, (match_some begun.access.mask (Takes s begun.access found later Nothing rest) ((Nothing ≡ Nothing) × (rest ≡ later)) mask).1 (refl, h.1)),
      h.0,
    ),
  )

  -- another tries to
  pub unmasked_left : (found : Watchpoint) → is_some begun.access.mask ≡ false
      → (GoesOnGiven s begun asked (Some found) later given rest ↔ PassLeft s begun (passes.Found (TryConsume found)) asked later given rest)
  unmasked_left found mask = (
    λ h. let takes = (match_none begun.access.mask (Takes s begun.access found later h.0.outcome rest) ((h.0.outcome ≡ Nothing) × (rest ≡ later)) mask).0 h.1.3 in
        let settled = h.1.0 in let same = h.1.1 in let falls = h.1.2 in let is = h.2 in
        (h.0.outcome, takes, cc),
    λ h. (
      record { outcome = h.0; later = rest; settled = true; asked = asked },
      (refl, refl, refl, (match_none begun.access.mask (Takes s begun.access found later h.0 rest) ((h.0 ≡ Nothing) × (rest ≡ later)) mask).1 h.1),
      h.2,
    ),
  )

  -- a taking has made a step
  pub taking_goes : (found next : Found) (records : List Record) → ((outcome : Outcome) → FoundLeft s begun.access found records outcome rest ↔ FoundLeft s begun.access next later outcome rest)
      → (PassLeft s begun (passes.Found found) asked records given rest ↔ PassLeft s begun (passes.Found next) asked later given rest)
  taking_goes found next records is = (λ h. (h.0, (is h.0).0 h.1, h.2), λ h. (h.0, (is h.0).1 h.1, h.2))

  pub taking_over : (found : Found) (records : List Record) (over : Outcome) → ((outcome : Outcome) → FoundLeft s begun.access found records outcome rest ↔ ((outcome ≡ over) × (rest ≡ later)))
      → (PassLeft s begun (passes.Found found) asked records given rest ↔ ((given ≡ record { outcomes = here over ∷ []; settled = true; asked = asked }) × (rest ≡ later)))
  taking_over found records over is = (
    λ h. let known = (is h.0).0 h.1 in
        let outcome = known.0 in let ends = known.1 in let gives = h.2 in
        (cc, known.1),
    λ h. (over, (is over).1 (refl, h.1), h.0 ∙ ap (λ (r : List Record). record { outcomes = record { access = begun.access; outcome = over; later = r } ∷ []; settled = true; asked = asked }) (sym h.1)),
  )

  -- a watch has made a step
  pub watch_goes : (setup next : Setup) (records : List Record) → ((judged : Option Judged) (mid : List Record) → SetupLeft s begun.access setup records judged mid ↔ SetupLeft s begun.access next later judged mid)
      → (PassLeft s begun (passes.Setup setup) asked records given rest ↔ PassLeft s begun (passes.Setup next) asked later given rest)
  watch_goes setup next records is = (λ h. (h.0, h.1, (is h.0 h.1).0 h.2, h.3), λ h. (h.0, h.1, (is h.0 h.1).1 h.2, h.3))

  pub watch_full : (setup : Setup) (records : List Record) → ((judged : Option Judged) (mid : List Record) → SetupLeft s begun.access setup records judged mid ↔ ((judged ≡ None) × (mid ≡ later)))
      → (PassLeft s begun (passes.Setup setup) asked records given rest ↔ ((given ≡ record { outcomes = here Capacity ∷ []; settled = false; asked = asked }) × (rest ≡ later)))
  watch_full setup records is =
      through (at_point (λ judged mid. SetupLeft s begun.access setup records judged mid) (λ judged mid. EndsGiven s begun asked judged mid given rest) None later is)
      (pass_is Capacity false asked (λ pass. (pass ≡ record { outcome = Capacity; later = later; settled = false; asked = asked }) × (rest ≡ later)) (λ pass. (λ h. h, λ h. h)))

  pub watch_over : (setup : Setup) (records : List Record) (index : ℕ) (outcome : Outcome) (turn : Transition)
      → ((judged : Option Judged) (mid : List Record) → SetupLeft s begun.access setup records judged mid ↔ ((judged ≡ Some (record { index = index; outcome = outcome })) × (mid ≡ later)))
      → turn ≡ record { outcome = Some outcome; to = Going (passes.Clear index) }
      → (PassLeft s begun (passes.Setup setup) asked records given rest ↔ TurnLeft s begun turn asked later given rest)
  watch_over setup records index outcome turn is turned = rw turned
      (through (at_point (λ judged mid. SetupLeft s begun.access setup records judged mid) (λ judged mid. EndsGiven s begun asked judged mid given rest) (Some (record { index = index; outcome = outcome })) later is) (
        λ h. (nothing_given true asked, (h.1.1, refl), h.2 ∙ ap (given_of begun) h.1.0),
        λ h. (record { outcome = outcome; later = later; settled = true; asked = asked }, (refl, h.1.0), h.2 ∙ ap (with_outcome (Some (here outcome))) h.1.1),
      ))

  -- an access that counts as marked is not watched
  pub marked_left : begun.marked ≡ true
      → (GoesOnGiven s begun asked None later given rest ↔ ((given ≡ record { outcomes = here Nothing ∷ []; settled = false; asked = asked }) × (rest ≡ later)))
  marked_left marked = pass_is Nothing false asked (λ pass. NoneFound s begun.access begun.marked asked later pass rest)
      (λ pass. (none_marked pass marked, λ h. checks.counts_as_marked marked h.0 h.1))
    where
      none_marked : (pass : Pass) → begun.marked ≡ true → NoneFound s begun.access begun.marked asked later pass rest
          → ((pass ≡ record { outcome = Nothing; later = later; settled = false; asked = asked }) × (rest ≡ later))
      none_marked pass marked (checks.counts_as_marked m is r) = (is, r)
      none_marked pass marked (checks.skipped m n is r) = absurd (let no : true ≡ false = sym marked ∙ m in cc)
      none_marked pass marked (checks.unencodable m w n is r) = absurd (let no : true ≡ false = sym marked ∙ m in cc)
      none_marked pass marked (checks.watched judged mid m w e u ends) = absurd (let no : true ≡ false = sym marked ∙ m in cc)

  -- an access that is skipped is not
  pub skipped_left : begun.marked ≡ false → ¬ IsWatched s asked
      → (GoesOnGiven s begun asked None later given rest ↔ ((given ≡ record { outcomes = here Nothing ∷ []; settled = false; asked = asked + 1 }) × (rest ≡ later)))
  skipped_left unmarked skipped = pass_is Nothing false (asked + 1) (λ pass. NoneFound s begun.access begun.marked asked later pass rest)
      (λ pass. (none_skipped pass, λ h. checks.skipped unmarked skipped h.0 h.1))
    where
      none_skipped : (pass : Pass) → NoneFound s begun.access begun.marked asked later pass rest
          → ((pass ≡ record { outcome = Nothing; later = later; settled = false; asked = asked + 1 }) × (rest ≡ later))
      none_skipped pass (checks.counts_as_marked m is r) = absurd (let no : true ≡ false = sym m ∙ unmarked in cc)
      none_skipped pass (checks.skipped m n is r) = (is, r)
      none_skipped pass (checks.unencodable m w n is r) = absurd (skipped w)
      none_skipped pass (checks.watched judged mid m w e u ends) = absurd (skipped w)

  -- nor is one that no word can stand for
  pub unencodable_left : begun.marked ≡ false → IsWatched s asked → ¬ Encodable begun.access
      → (GoesOnGiven s begun asked None later given rest ↔ ((given ≡ record { outcomes = here Unencodable ∷ []; settled = false; asked = asked + 1 }) × (rest ≡ later)))
  unencodable_left unmarked watched none = pass_is Unencodable false (asked + 1) (λ pass. NoneFound s begun.access begun.marked asked later pass rest)
      (λ pass. (none_word pass, λ h. checks.unencodable unmarked watched none h.0 h.1))
    where
      none_word : (pass : Pass) → NoneFound s begun.access begun.marked asked later pass rest
          → ((pass ≡ record { outcome = Unencodable; later = later; settled = false; asked = asked + 1 }) × (rest ≡ later))
      none_word pass (checks.counts_as_marked m is r) = absurd (let no : true ≡ false = sym m ∙ unmarked in cc)
      none_word pass (checks.skipped m n is r) = absurd (n watched)
      none_word pass (checks.unencodable m w n is r) = (is, r)
      none_word pass (checks.watched judged mid m w e u ends) = absurd (none e)

  -- another sets a watchpoint up
  pub watched_left : (word : ℕ) → begun.marked ≡ false → IsWatched s asked → Encodable begun.access → word ≡ word_of s.rules.layout begun.access
      → (GoesOnGiven s begun asked None later given rest ↔ PassLeft s begun (passes.Setup (Insert First word)) (asked + 1) later given rest)
  watched_left word unmarked watched encodable is = rw is
      (λ h. set_up h.0 h.1 h.2, λ h. (h.3.0, checks.watched h.0 h.1 unmarked watched encodable h.2 h.3.1, h.3.2))
    where
      set_up : (pass : Pass) → NoneFound s begun.access begun.marked asked later pass rest → given ≡ given_of begun pass
          → PassLeft s begun (passes.Setup (Insert First (word_of s.rules.layout begun.access))) (asked + 1) later given rest
      set_up pass (checks.counts_as_marked m is r) e = absurd (let no : true ≡ false = sym m ∙ unmarked in cc)
      set_up pass (checks.skipped m n is r) e = absurd (n watched)
      set_up pass (checks.unencodable m w n is r) e = absurd (n encodable)
      set_up pass (checks.watched judged mid m w en u ends) e = (judged, mid, u, (pass, ends, e))

  -- a look-up has read a word
  pub look_goes : (find next : Find) (records : List Record) → ((found : Option Watchpoint) (mid : List Record) → FindLeft s begun.access find records found mid ↔ FindLeft s begun.access next later found mid)
      → (PassLeft s begun (passes.Find find) asked records given rest ↔ PassLeft s begun (passes.Find next) asked later given rest)
  look_goes find next records is = (λ h. (h.0, h.1, (is h.0 h.1).0 h.2, h.3), λ h. (h.0, h.1, (is h.0 h.1).1 h.2, h.3))

  pub look_over : (find : Find) (records : List Record) (found : Option Watchpoint)
      → ((other : Option Watchpoint) (mid : List Record) → FindLeft s begun.access find records other mid ↔ ((other ≡ found) × (mid ≡ later)))
      → (PassLeft s begun (passes.Find find) asked records given rest ↔ GoesOnGiven s begun asked found later given rest)
  look_over find records found is =
      at_point (λ other mid. FindLeft s begun.access find records other mid) (λ other mid. GoesOnGiven s begun asked other mid given rest) found later is

  -- the pair is cleared
  pub cleared_left : (index : ℕ) (answer : Answer) → answer ≡ Done
      → (PassLeft s begun (passes.Clear index) asked (made s.task (Clear index) answer ∷ later) given rest ↔ PassLeft s begun (passes.Remove index) asked later given rest)
  cleared_left index answer done = (λ h. (h.0.2.1, h.1), λ h. ((refl, refl, (done, h.0)), h.1))

module _ (s : Setting) (begun : Begun) (asked : ℕ) (old new : Sampler) (watch : Bool) where
  -- an access is watched only if it does not count as marked
  pub watch_unmarked : (begun.marked ≡ true → watch ≡ false) → watch ≡ true → begun.marked ≡ false
  watch_unmarked marked on = by_marked begun.marked refl
    where
      by_marked : (b : Bool) → begun.marked ≡ b → begun.marked ≡ false
      by_marked true is = absurd (let no : false ≡ true = sym (marked is) ∙ on in cc)
      by_marked false is = is

  -- an access that is not watched
  pub not_watched : (turn : Transition) → (begun.marked ≡ true → new ≡ old) → (begun.marked ≡ false → (IsTrue watch ↔ IsWatched s asked))
      → (begun.marked ≡ false → Samples s (asked + 1) new) → watch ≡ false → turn ≡ record { outcome = Some Nothing; to = Unsettled } → Samples s asked old
      → (asked_now : ℕ) × Samples s asked_now new
      × ((given : Given) (later rest : List Record) → GoesOnGiven s begun asked None later given rest ↔ TurnLeft s begun turn asked_now later given rest)
  not_watched turn kept watched samples off is before = by_marked begun.marked refl
    where
      by_marked : (b : Bool) → begun.marked ≡ b → (asked_now : ℕ) × Samples s asked_now new
          × ((given : Given) (later rest : List Record) → GoesOnGiven s begun asked None later given rest ↔ TurnLeft s begun turn asked_now later given rest)
      by_marked true m = (
        asked,
        subst (λ x. Samples s asked x) (sym (kept m)) before,
        λ given later rest. through (marked_left s begun asked later given rest m) (unsettled_left s begun asked later given rest turn Nothing is),
      )
      by_marked false m = (
        asked + 1,
        samples m,
        λ given later rest. through (skipped_left s begun asked later given rest m (λ w. let no : false ≡ true = sym off ∙ (watched m).1 w in cc))
            (unsettled_left s begun (asked + 1) later given rest turn Nothing is),
      )
