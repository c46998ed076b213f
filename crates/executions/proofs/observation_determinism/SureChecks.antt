-- The parts of a check, up to its outcome, are told by their records.
use Rattle.std.proofs.Common.{◌≡◌, ◌∙◌, ◌<◌, ◌≤◌, ◌⊎◌, ◌+◌, ◌++◌, ◌∷◌, [], ℕ, Bool, true, false, List, Option, None, Some, MatchBool, MatchOption, ap, arith}
use Rattle.std.proofs.Common.{inl, inr, length, refl, subst, sym}
use Rattle.access_types.specs.Access.{Access}
use Rattle.access_types.specs.Ticket.{ticket_number}
use Rattle.slot.specs.Pair.{Halves}
use Rattle.slot_table.specs.declared.records.Record.{Record}
use Rattle.slot_table.specs.declared.step.Answer.{Answer}
use Rattle.slot_table.specs.declared.step.Step.TheVariants.{CellLoad, Clear, Consume, Insert, Load, Name, Remove, Tell, TryConsume}
use Rattle.watch_word.specs.Word.{Encodable, word_of}
use Rattle.setup_access.specs.Check as cases
use Rattle.setup_access.specs.Check.{ChecksOnce, Ends, GoesOn, NoneFound, Pass}
use Rattle.setup_access.specs.Find.{Finds, LooksUp}
use Rattle.setup_access.specs.Found.{FoundWatchpoint, Hears, Takes, FinderTells, TellsTo, finder_half, setter_half}
use Rattle.setup_access.specs.Hits.{Hits}
use Rattle.setup_access.specs.Records.{MakesDone, OnHalves}
use Rattle.setup_access.specs.Setting.{IsWatched, Setting, look_order, slot_of, try_order}
use Rattle.setup_access.specs.Setup.{Arms, Frees, Inserts, Judged, Judges, JudgesHit, SetsUp, TriesInsert, Watches, WatchesAt}
use Rattle.setup_access.specs.Values.{LoadsFrom, LoadsValue, both_values, source_of, value_in}
use Rattle.setup_access.specs.Verdicts.{HitOutcome, UntouchedOutcome}
use Rattle.setup_access.specs.declared.outcome.Outcome.{Outcome}
use Rattle.setup_access.specs.declared.outcome.Outcome.TheVariants.{Capacity, Lost, Nothing, Told, Unencodable}
use Rattle.setup_access.specs.declared.outcome.Watchpoint.{Watchpoint}
use Rattle.setup_access.specs.declared.source.Source.{Source}
use Rattle.setup_access.proofs.DisciplineLemmas.{on_halves}
use Rattle.setup_access.proofs.VerdictsUnique.{hit_unique, untouched_unique}
use Rattle.executions.proofs.observation_determinism.Sure.{Goes, Sure, same_length, sure_bool, sure_by, sure_choice, sure_done, sure_flag, sure_gives, sure_then, sure_unique}
use Rattle.executions.proofs.observation_determinism.Sure.{sure_word}

-- a wait for a half of a pair
module _ (half : Halves → ℕ) (task index : ℕ) where
  abbrev Heard : List Record → Halves → List Record → Halves → Type 0
  Heard later both rest heard = ((0 < half heard) × (both ≡ heard) × (rest ≡ later)) ⊎ ((half heard ≡ 0) × Hears half task index later both rest)

  hears_less : (records : List Record) (both : Halves) (rest : List Record) → Hears half task index records both rest → length rest ≤ length records
  hears_less [] both rest h = absurd h
  hears_less (first ∷ later) both rest h = elim (on_halves first.answer (Heard later both rest) h.2).2 [
    | inl stands ↦ let less : length rest ≤ length later = same_length later rest stands.2 in omega (arith, less)
    | inr again ↦ let less : length rest ≤ length later = hears_less later both rest again.1 in omega (arith, less)
  ]

  hears_later : (first : Record) (later : List Record) (both : Halves) (rest : List Record) → Hears half task index (first ∷ later) both rest
      → length rest ≤ length later
  hears_later first later both rest h = elim (on_halves first.answer (Heard later both rest) h.2).2 [
    | inl stands ↦ same_length later rest stands.2
    | inr again ↦ hears_less later both rest again.1
  ]

  hears_agree : (X Y S : List Record) (v w : Halves) (q r : List Record) → Hears half task index (S ++ X) v q → Hears half task index (S ++ Y) w r
      → Goes X Y (v ≡ w) (Unit {0}) q r
  hears_agree [] Y [] v w q r h g = absurd h
  hears_agree (x ∷ X) [] [] v w q r h g = absurd g
  hears_agree (x ∷ X) (y ∷ Y) [] v w q r h g =
      let less : length q ≤ length X = hears_later x X v q h in
      let fewer : length r ≤ length Y = hears_later y Y w r g in inr (omega (arith, less), omega (arith, fewer), tt)
  hears_agree X Y (s ∷ S) v w q r h g =
      let one = on_halves s.answer (Heard (S ++ X) v q) h.2 in
      let both : Halves = one.0 in
      let other : Heard (S ++ Y) w r both = subst (λ (a : Answer). OnHalves a (Heard (S ++ Y) w r)) one.1 g.2 in
      elim one.2 [
        | inl here ↦ elim other [
          | inl there ↦ inl (S, here.2, there.2, here.1 ∙ sym there.1)
          | inr there ↦ absurd (let some : 0 < half both = here.0 in let none : half both ≡ 0 = there.0 in omega arith)
        ]
        | inr here ↦ elim other [
          | inl there ↦ absurd (let some : 0 < half both = there.0 in let none : half both ≡ 0 = here.0 in omega arith)
          | inr there ↦ hears_agree X Y S v w q r here.1 there.1
        ]
      ]

  pub hears : Sure (λ records both rest. Hears half task index records both rest)
  hears = record { shrinks = hears_less; agrees = hears_agree }

-- what a check has come to by its outcome: whether a watchpoint was found or set up, and where one is given back now
pub record Judging : Type 0 where
  pub outcome : Outcome
  pub settled : Bool
  pub asked : ℕ
  pub frees : Option ℕ

module _ (s : Setting) (a : Access) where
  looks : (indices : List ℕ) → Sure (λ records found rest. LooksUp s a indices records found rest)
  looks [] = sure_gives None
  looks (index ∷ indices) =
      let At : ℕ → Option Watchpoint = λ word. Some (record { index = index; word = word }) in
      sure_word s.task (Load index)
      (λ word later found rest. (Hits s.rules.layout a word × (found ≡ Some (record { index = index; word = word })) × (rest ≡ later))
      ⊎ ((¬ Hits s.rules.layout a word) × LooksUp s a indices later found rest))
      (λ word. sure_by _ _
      (sure_choice (Hits s.rules.layout a word) (λ later found rest. (found ≡ At word) × (rest ≡ later))
      (λ later found rest. LooksUp s a indices later found rest)
      (sure_gives (At word)) (looks indices))
      (λ later found rest h. elim h [ inl hit ↦ inl (hit.0, (hit.1, hit.2)) | inr missed ↦ inr missed ]))

  tells_to : (index setter : ℕ) → Sure (λ records outcome rest. TellsTo s a index setter records outcome rest)
  tells_to index setter =
      let told : Outcome = Told (record { setter = setter; finder = ticket_number a }) in
      sure_done s.task (Tell index (ticket_number a)) (λ after outcome rest. (outcome ≡ told) × (rest ≡ after)) (sure_gives told)

  tells : (index : ℕ) → Sure (λ records outcome rest. FinderTells s a index records outcome rest)
  tells index = sure_then (λ records both rest. Hears setter_half s.task index records both rest)
      (λ both later outcome rest. TellsTo s a index both.setter later outcome rest) (hears setter_half s.task index) (λ both. tells_to index both.setter)

  takes : (found : Watchpoint) → Sure (λ records outcome rest. Takes s a found records outcome rest)
  takes found = sure_flag s.task (TryConsume found.index found.word)
      (λ taken later outcome rest. MatchBool taken (FinderTells s a found.index later outcome rest) ((outcome ≡ Lost) × (rest ≡ later)))
      (λ taken. sure_bool taken (λ later outcome rest. FinderTells s a found.index later outcome rest) (λ later outcome rest. (outcome ≡ Lost) × (rest ≡ later))
      (tells found.index) (sure_gives Lost))

  unless_masked : (mask : Option ℕ) (found : Watchpoint)
      → Sure (λ records outcome rest. MatchOption mask (Takes s a found records outcome rest) (λ m. (outcome ≡ Nothing) × (rest ≡ records)))
  unless_masked None found = takes found
  unless_masked (Some mask) found = sure_gives Nothing

  tries : (word : ℕ) (indices : List ℕ) → Sure (λ records place rest. TriesInsert s.task word indices records place rest)
  tries word [] = sure_gives None
  tries word (index ∷ indices) = sure_flag s.task (Insert index word)
      (λ accepted later place rest. MatchBool accepted ((place ≡ Some index) × (rest ≡ later)) (TriesInsert s.task word indices later place rest))
      (λ accepted. sure_bool accepted (λ later place rest. (place ≡ Some index) × (rest ≡ later))
      (λ later place rest. TriesInsert s.task word indices later place rest)
      (sure_gives (Some index)) (tries word indices))

  loads : (source : Option Source) → Sure (λ records value rest. LoadsFrom s a source records value rest)
  loads None = sure_gives None
  loads (Some source) = sure_word s.task (CellLoad source.cell)
      (λ word later value rest. (value ≡ Some (value_in a source word)) × (rest ≡ later)) (λ word. sure_gives (Some (value_in a source word)))

  judges_hit : (index : ℕ) (values : Option (ℕ × ℕ)) → Sure (λ records outcome rest. JudgesHit s a index values records outcome rest)
  judges_hit index values = sure_by _ _
      (sure_then (λ records both rest. Hears finder_half s.task index records both rest)
      (λ both later outcome rest. HitOutcome s a values both outcome × (rest ≡ later))
      (hears finder_half s.task index) (λ both. sure_unique (λ outcome. HitOutcome s a values both outcome) (λ v w h g. hit_unique s a values both v w h g)))
      (λ records outcome rest h. (h.0, rest, h.1, (h.2, refl)))

  judges : (index : ℕ) (values : Option (ℕ × ℕ)) → Sure (λ records outcome rest. Judges s a index values records outcome rest)
  judges index values = sure_flag s.task (Consume index)
      (λ untouched later outcome rest. MatchBool untouched (UntouchedOutcome s a values outcome × (rest ≡ later))
      (JudgesHit s a index values later outcome rest))
      (λ untouched. sure_bool untouched (λ later outcome rest. UntouchedOutcome s a values outcome × (rest ≡ later))
      (λ later outcome rest. JudgesHit s a index values later outcome rest)
      (sure_unique (λ outcome. UntouchedOutcome s a values outcome) (λ v w h g. untouched_unique s a values v w h g)) (judges_hit index values))

  watches : (index : ℕ) → Sure (λ records outcome rest. Watches s a index records outcome rest)
  watches index = sure_by _ _
      (sure_then (λ records old rest. LoadsValue s a records old rest)
      (λ old later outcome rest. (new : Option ℕ) × (consumed : List Record) × LoadsValue s a later new consumed
      × Judges s a index (both_values old new) consumed outcome rest)
      (loads (source_of s a))
      (λ old. sure_then (λ records new rest. LoadsValue s a records new rest)
      (λ new later outcome rest. Judges s a index (both_values old new) later outcome rest)
      (loads (source_of s a)) (λ new. judges index (both_values old new))))
      (λ records outcome rest h. (h.0, h.2, h.4, (h.1, h.3, h.5, h.6)))

  arms : (index : ℕ) → Sure (λ records outcome rest. Arms s a index records outcome rest)
  arms index = sure_done s.task (Name index (ticket_number a)) (λ later outcome rest. Watches s a index later outcome rest) (watches index)

  watches_at : (place : Option ℕ) → Sure (λ records judged rest. WatchesAt s a place records judged rest)
  watches_at None = sure_gives None
  watches_at (Some index) =
      let At : Outcome → Option Judged = λ outcome. Some (record { index = index; outcome = outcome }) in
      sure_by _ _
      (sure_then (λ records outcome rest. Arms s a index records outcome rest) (λ outcome later judged rest. (judged ≡ At outcome) × (rest ≡ later))
      (arms index) (λ outcome. sure_gives (At outcome)))
      (λ records judged rest h. (h.0, rest, h.1, (h.2, refl)))

  sets_up : (word : ℕ) → Sure (λ records judged rest. SetsUp s a word records judged rest)
  sets_up word = sure_then (λ records place rest. Inserts s a word records place rest) (λ place later judged rest. WatchesAt s a place later judged rest)
      (tries word (try_order (slot_of s a))) (λ place. watches_at place)

  frees : (index : ℕ) → Sure {V = Unit {0}} (λ records v rest. Frees s index records rest)
  frees index = sure_done s.task (Clear index) (λ later v rest. MakesDone s.task (Remove index) (λ after. rest ≡ after) later)
      (sure_done s.task (Remove index) (λ later v rest. rest ≡ later)
      (sure_by (λ later v rest. rest ≡ later) _ (sure_gives tt) (λ later v rest same. (refl, same))))

  -- what follows on a watch
  abbrev judging_of : ℕ → Option Judged → Judging
  judging_of asked None = record { outcome = Capacity; settled = false; asked = asked; frees = None }
  judging_of asked (Some judged) = record { outcome = judged.outcome; settled = true; asked = asked; frees = Some judged.index }

  abbrev unsettled : Outcome → ℕ → Judging
  unsettled outcome asked = record { outcome = outcome; settled = false; asked = asked; frees = None }

  -- no watchpoint was found, up to the outcome
  abbrev SetsUpTo : ℕ → List Record → Judging → List Record → Type 0
  SetsUpTo asked records judging rest =
      (judged : Option Judged) × (mid : List Record) × SetsUp s a (word_of s.rules.layout a) records judged mid
      × ((judging ≡ judging_of asked judged) × (rest ≡ mid))

  abbrev Watched : ℕ → List Record → Judging → List Record → Type 0
  Watched asked records judging rest =
      (Encodable a × SetsUpTo asked records judging rest) ⊎ ((¬ Encodable a) × ((judging ≡ unsettled Unencodable asked) × (rest ≡ records)))

  abbrev Unmarked : ℕ → List Record → Judging → List Record → Type 0
  Unmarked asked records judging rest =
      (IsWatched s asked × Watched (asked + 1) records judging rest)
      ⊎ ((¬ IsWatched s asked) × ((judging ≡ unsettled Nothing (asked + 1)) × (rest ≡ records)))

  abbrev NoneUpTo : Bool → ℕ → List Record → Judging → List Record → Type 0
  NoneUpTo marked asked records judging rest =
      MatchBool marked ((judging ≡ unsettled Nothing asked) × (rest ≡ records)) (Unmarked asked records judging rest)

  none_found : (marked : Bool) (asked : ℕ) → Sure (NoneUpTo marked asked)
  none_found marked asked =
      let nothing : ℕ → List Record → Judging → List Record → Type 0 = λ now records judging rest. (judging ≡ unsettled Nothing now) × (rest ≡ records) in
      sure_bool marked (nothing asked) (Unmarked asked) (sure_gives (unsettled Nothing asked))
      (sure_choice (IsWatched s asked) (Watched (asked + 1)) (nothing (asked + 1))
      (sure_choice (Encodable a) (SetsUpTo (asked + 1)) (λ records judging rest. (judging ≡ unsettled Unencodable (asked + 1)) × (rest ≡ records))
      (sure_then (λ records judged rest. SetsUp s a (word_of s.rules.layout a) records judged rest)
      (λ judged later judging rest. (judging ≡ judging_of (asked + 1) judged) × (rest ≡ later)) (sets_up (word_of s.rules.layout a))
      (λ judged. sure_gives (judging_of (asked + 1) judged)))
      (sure_gives (unsettled Unencodable (asked + 1))))
      (sure_gives (unsettled Nothing (asked + 1))))

  abbrev taken_as : ℕ → Outcome → Judging
  taken_as asked outcome = record { outcome = outcome; settled = true; asked = asked; frees = None }

  abbrev LookedUpTo : Bool → ℕ → Option Watchpoint → List Record → Judging → List Record → Type 0
  LookedUpTo marked asked None records judging rest = NoneUpTo marked asked records judging rest
  LookedUpTo marked asked (Some found) records judging rest =
      (outcome : Outcome) × (mid : List Record) × FoundWatchpoint s a found records outcome mid × ((judging ≡ taken_as asked outcome) × (rest ≡ mid))

  looked : (marked : Bool) (asked : ℕ) (found : Option Watchpoint) → Sure (LookedUpTo marked asked found)
  looked marked asked None = none_found marked asked
  looked marked asked (Some found) = sure_then (λ records outcome rest. FoundWatchpoint s a found records outcome rest)
      (λ outcome later judging rest. (judging ≡ taken_as asked outcome) × (rest ≡ later)) (unless_masked a.mask found)
      (λ outcome. sure_gives (taken_as asked outcome))

  -- a check of an access, up to its outcome
  abbrev pub UpTo : Bool → ℕ → List Record → Judging → List Record → Type 0
  UpTo marked asked records judging rest =
      (found : Option Watchpoint) × (later : List Record) × Finds s a records found later × LookedUpTo marked asked found later judging rest

  pub up_to : (marked : Bool) (asked : ℕ) → Sure (UpTo marked asked)
  up_to marked asked = sure_then (λ records found rest. Finds s a records found rest)
      (λ found later judging rest. LookedUpTo marked asked found later judging rest)
      (looks (look_order (slot_of s a))) (looked marked asked)

  -- and after it
  abbrev pub GivesBack : Option ℕ → List Record → Unit {0} → List Record → Type 0
  GivesBack None records v rest = rest ≡ records
  GivesBack (Some index) records v rest = Frees s index records rest

  pub gives_back : (index : Option ℕ) → Sure (GivesBack index)
  gives_back None = sure_by (λ records v rest. rest ≡ records) _ (sure_gives tt) (λ records v rest same. (refl, same))
  gives_back (Some index) = frees index

  -- a check is both
  pub record InTwo (marked : Bool) (asked : ℕ) (records : List Record) (pass : Pass) (rest : List Record) : Type 0 where
    pub judging : Judging
    pub first : UpTo marked asked records judging pass.later
    pub after : GivesBack judging.frees pass.later tt rest
    pub outcome : pass.outcome ≡ judging.outcome
    pub settled : pass.settled ≡ judging.settled
    pub now : pass.asked ≡ judging.asked

  abbrev Back : ℕ → Option Judged → List Record → Pass → List Record → Type 0
  Back asked judged later pass rest =
      (pass.later ≡ later) × GivesBack (judging_of asked judged).frees pass.later tt rest × (pass.outcome ≡ (judging_of asked judged).outcome)
      × (pass.settled ≡ (judging_of asked judged).settled) × (pass.asked ≡ asked)

  ended : (asked : ℕ) (judged : Option Judged) (later : List Record) (pass : Pass) (rest : List Record) → Ends s asked judged later pass rest
      → Back asked judged later pass rest
  ended asked None later pass rest h = (
    ap (λ (p : Pass). p.later) h.0,
    h.1 ∙ sym (ap (λ (p : Pass). p.later) h.0),
    ap (λ (p : Pass). p.outcome) h.0,
    ap (λ (p : Pass). p.settled) h.0,
    ap (λ (p : Pass). p.asked) h.0,
  )
  ended asked (Some judged) later pass rest h = (
    ap (λ (p : Pass). p.later) h.0,
    subst (λ (l : List Record). Frees s judged.index l rest) (sym (ap (λ (p : Pass). p.later) h.0)) h.1,
    ap (λ (p : Pass). p.outcome) h.0,
    ap (λ (p : Pass). p.settled) h.0,
    ap (λ (p : Pass). p.asked) h.0,
  )

  now_asked : (asked : ℕ) (judged : Option Judged) → (judging_of asked judged).asked ≡ asked
  now_asked asked None = refl
  now_asked asked (Some judged) = refl

  module _ (asked : ℕ) (records : List Record) (pass : Pass) (rest : List Record) where
    -- nothing came of it
    abbrev Nothingly : Outcome → ℕ → Type 0
    Nothingly outcome now = (pass ≡ record { outcome = outcome; later = records; settled = false; asked = now }) × (rest ≡ records)

    none_in_two : (marked : Bool) → NoneFound s a marked asked records pass rest
        → (judging : Judging) × NoneUpTo marked asked records judging pass.later × GivesBack judging.frees pass.later tt rest × (pass.outcome ≡ judging.outcome)
        × (pass.settled ≡ judging.settled) × (pass.asked ≡ judging.asked)
    none_in_two marked (cases.counts_as_marked is over same) = (
      unsettled Nothing asked,
      subst (λ (m : Bool). NoneUpTo m asked records (unsettled Nothing asked) pass.later) (sym is) (refl, ap (λ (p : Pass). p.later) over),
      same ∙ sym (ap (λ (p : Pass). p.later) over),
      ap (λ (p : Pass). p.outcome) over,
      ap (λ (p : Pass). p.settled) over,
      ap (λ (p : Pass). p.asked) over,
    )
    none_in_two marked (cases.skipped is skips over same) = (
      unsettled Nothing (asked + 1),
      subst (λ (m : Bool). NoneUpTo m asked records (unsettled Nothing (asked + 1)) pass.later) (sym is) (inr (skips, (refl, ap (λ (p : Pass). p.later) over))),
      same ∙ sym (ap (λ (p : Pass). p.later) over),
      ap (λ (p : Pass). p.outcome) over,
      ap (λ (p : Pass). p.settled) over,
      ap (λ (p : Pass). p.asked) over,
    )
    none_in_two marked (cases.unencodable is watched unfit over same) = (
      unsettled Unencodable (asked + 1),
      subst (λ (m : Bool). NoneUpTo m asked records (unsettled Unencodable (asked + 1)) pass.later) (sym is)
          (inl (watched, inr (unfit, (refl, ap (λ (p : Pass). p.later) over)))),
      same ∙ sym (ap (λ (p : Pass). p.later) over),
      ap (λ (p : Pass). p.outcome) over,
      ap (λ (p : Pass). p.settled) over,
      ap (λ (p : Pass). p.asked) over,
    )
    none_in_two marked (cases.watched judged later is watched fits sets ends) =
        let back = ended (asked + 1) judged later pass rest ends in (
          judging_of (asked + 1) judged,
          subst (λ (m : Bool). NoneUpTo m asked records (judging_of (asked + 1) judged) pass.later) (sym is)
              (inl (watched, inl (fits, (judged, later, sets, (refl, back.0))))),
          back.1,
          back.2,
          back.3,
          back.4 ∙ sym (now_asked (asked + 1) judged),
        )

  pub in_two : (marked : Bool) (asked : ℕ) (records : List Record) (pass : Pass) (rest : List Record) → ChecksOnce s a marked asked records pass rest
      → InTwo marked asked records pass rest
  in_two marked asked records pass rest h = after_look h.0 h.2 h.3
    where
      after_look : (found : Option Watchpoint) → Finds s a records found h.1 → GoesOn s a marked asked found h.1 pass rest
          → InTwo marked asked records pass rest
      after_look None finds goes =
          let none = none_in_two asked h.1 pass rest marked goes in
          record { judging = none.0; first = (None, h.1, finds, none.1); after = none.2; outcome = none.3; settled = none.4; now = none.5 }
      after_look (Some found) finds goes = record {
        judging = taken_as asked pass.outcome;
        first = (Some found, h.1, finds, (pass.outcome, rest, goes.3, (refl, goes.2)));
        after = sym goes.2;
        outcome = refl;
        settled = goes.0;
        now = goes.1;
      }
