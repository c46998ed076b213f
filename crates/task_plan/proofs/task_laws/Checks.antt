-- Checks of accesses are open.
use Rattle.std.proofs.Common.{◌≡◌, ◌↔◌, ◌⊎◌, ◌+◌, ◌<◌, ◌||◌, ℕ, Bool, true, false, List, [], ◌∷◌, MatchBool, MatchOption, Option, None, Some, arith, inl, inr, lit<, refl, subst, sym}
use Rattle.std.proofs.lemmas.Bool.{cases_Bool, cases_lt}
use Rattle.access_run.proofs.Decisions.{encodable_or_not, some_hit, some_untouched, watched_or_not}
use Rattle.access_types.specs.Access.{Access}
use Rattle.access_types.specs.Kind.{write_flag}
use Rattle.access_types.specs.Ticket.{ticket_number}
use Rattle.setup_access.specs.Check.{Check, ChecksBegun, ChecksOnce, Close, Ends, Fallen, GoesOn, NoneFound, Pass, Passes, Rechecks, asked_silenced, counts_as_marked, fallen_of, left_to_check, skipped, unencodable, watched}
use Rattle.setup_access.specs.Find.{LooksUp}
use Rattle.setup_access.specs.Found.{FoundWatchpoint, Hears, Takes, FinderTells, TellsTo, finder_half, setter_half}
use Rattle.setup_access.specs.Hits.{Hits}
use Rattle.setup_access.specs.OwnAccesses.{AreOwn, IsOwn}
use Rattle.setup_access.specs.Records.{MakesDone, MakesWord}
use Rattle.setup_access.specs.Setting.{IsWatched, Setting, look_order, slot_of, try_order}
use Rattle.setup_access.specs.Setup.{Arms, Frees, Judged, Judges, JudgesHit, SetsUp, TriesInsert, Watches, WatchesAt}
use Rattle.setup_access.specs.Values.{LoadsFrom, LoadsValue, both_values, source_of, value_in}
use Rattle.setup_access.specs.Verdicts.{HitOutcome, UntouchedOutcome}
use Rattle.setup_access.specs.declared.begun.Begun.{Begun}
use Rattle.setup_access.specs.declared.outcome.Outcome.{Outcome}
use Rattle.setup_access.specs.declared.outcome.Outcome.TheVariants.{Capacity, Lost, Nothing, Told, Unencodable}
use Rattle.setup_access.specs.declared.outcome.Watchpoint.{Watchpoint}
use Rattle.setup_access.specs.declared.source.Source.{Source}
use Rattle.slot.specs.Pair.{Halves}
use Rattle.slot_table.specs.declared.records.Record.{Record}
use Rattle.slot_table.specs.declared.step.Step.TheVariants as steps
use Rattle.task_plan.proofs.task_laws.Opens.{After, Begins, IsOpen, Lists, Open, bool_open, chosen_open, decided_open, done_then, flag_then, is_open_as, mapped_open, none_open, open_map, open_word, still_open, then_open, word_in, word_out, word_then}
use Rattle.task_plan.proofs.task_laws.Waits.{hears_open}
use Rattle.watch_word.specs.Layout.{masked, word_span}
use Rattle.watch_word.specs.Word.{Encodable, watch_in, word_of}
use Rattle.watch_word.specs.declared.layout.Layout.{Layout}
use Rattle.watch_word.specs.declared.watch.Watch.{Watch}

-- a word is a watch word that matches, or isn't
hits_or_not : (layout : Layout) (a : Access) (word : ℕ) → Hits layout a word ⊎ (¬ Hits layout a word)
hits_or_not layout a word =
    let watch : Watch = watch_in layout word in
    elim (cases_lt 1 word) [
      | inr low ↦ inr (λ h. let above : 1 < word = h.is_watch_word.above_one in absurd (omega arith))
      | inl above ↦ elim (cases_lt word (word_span layout)) [
        | inr high ↦ inr (λ h. let below : word < word_span layout = h.is_watch_word.below in absurd (omega arith))
        | inl below ↦ elim (cases_lt 0 (watch_in layout word).size) [
          | inr none ↦ inr (λ h. let some : 0 < (watch_in layout word).size = h.is_watch_word.has_bytes in absurd (omega arith))
          | inl some ↦ elim (cases_lt 8192 (watch_in layout word).size) [
            | inl large ↦ inr (λ h. let few = h.is_watch_word.size in absurd (omega arith))
            | inr few ↦ elim (cases_Bool ((watch_in layout word).write || write_flag a.kind)) [
              | inr reads ↦ inr (λ h. let breaks : ((watch_in layout word).write || write_flag a.kind) ≡ true = h.breaks in absurd (cc))
              | inl breaks ↦ elim (cases_lt (masked layout (watch_in layout word).addr) (masked layout a.addr + a.size)) [
                | inr after ↦ inr (λ h. let begins = h.meets.watch_begins in absurd (omega arith))
                | inl first ↦ elim (cases_lt (masked layout a.addr) (masked layout (watch_in layout word).addr + (watch_in layout word).size)) [
                  | inr before ↦ inr (λ h. let begins = h.meets.access_begins in absurd (omega arith))
                  | inl second ↦ inl (record {
                    is_watch_word = record { above_one = above; below = below; has_bytes = some; size = few };
                    breaks = breaks;
                    meets = record { watch_begins = first; access_begins = second };
                  })
                ]
              ]
            ]
          ]
        ]
      ]
    ]

module _ (s : Setting) (a : Access) where
  -- a watchpoint is found here
  abbrev Here : ℕ → ℕ → Begins (Option Watchpoint)
  Here index word later found rest = (found ≡ Some (record { index = index; word = word })) × (rest ≡ later)

  looks_open : (indices : List ℕ) → IsOpen (Option Watchpoint) (λ records found rest. LooksUp s a indices records found rest)
  looks_open [] = none_open (Option Watchpoint) None
  looks_open (index ∷ indices) =
      word_then s.task (steps.Load index) (Option Watchpoint)
      (λ word later found rest. (Hits s.rules.layout a word × (found ≡ Some (record { index = index; word = word })) × (rest ≡ later))
      ⊎ (¬ Hits s.rules.layout a word × LooksUp s a indices later found rest)) (λ answer fits. fits) tt
      (λ word. is_open_as (Option Watchpoint)
      (λ later found rest. (Hits s.rules.layout a word × Here index word later found rest)
      ⊎ (¬ Hits s.rules.layout a word × LooksUp s a indices later found rest))
      (λ later found rest. (Hits s.rules.layout a word × (found ≡ Some (record { index = index; word = word })) × (rest ≡ later))
      ⊎ (¬ Hits s.rules.layout a word × LooksUp s a indices later found rest))
      (λ later found rest. (
        λ h. elim h [ inl hit ↦ inl (hit.0, hit.1.0, hit.1.1) | inr other ↦ inr other ],
        λ h. elim h [ inl hit ↦ inl (hit.0, (hit.1, hit.2)) | inr other ↦ inr other ],
      ))
      (decided_open (Option Watchpoint) (Hits s.rules.layout a word) (Here index word) (λ later found rest. LooksUp s a indices later found rest)
      (hits_or_not s.rules.layout a word) (none_open (Option Watchpoint) (Some (record { index = index; word = word }))) (looks_open indices)))

  tells_to_open : (index setter : ℕ) → IsOpen Outcome (λ records outcome rest. TellsTo s a index setter records outcome rest)
  tells_to_open index setter =
      done_then s.task (steps.Tell index (ticket_number a)) Outcome
      (λ after outcome rest. (outcome ≡ Told (record { setter = setter; finder = ticket_number a })) × (rest ≡ after)) (λ answer fits. fits) refl
      (none_open Outcome (Told (record { setter = setter; finder = ticket_number a })))

  takes_open : (found : Watchpoint) → IsOpen Outcome (λ records outcome rest. Takes s a found records outcome rest)
  takes_open found =
      flag_then s.task (steps.TryConsume found.index found.word) Outcome
      (λ taken later outcome rest. MatchBool taken (FinderTells s a found.index later outcome rest) ((outcome ≡ Lost) × (rest ≡ later))) (λ answer fits. fits) tt
      (λ taken. bool_open Outcome (λ later outcome rest. FinderTells s a found.index later outcome rest)
      (λ later outcome rest. (outcome ≡ Lost) × (rest ≡ later)) taken
      (then_open Halves Outcome (λ records both later. Hears setter_half s.task found.index records both later)
      (λ both later outcome rest. TellsTo s a found.index both.setter later outcome rest)
      (hears_open setter_half (lit< tt) s.task found.index) (λ both. tells_to_open found.index both.setter))
      (none_open Outcome Lost))

  found_open : (mask : Option ℕ) (found : Watchpoint)
      → IsOpen Outcome (λ records outcome rest. MatchOption mask (Takes s a found records outcome rest) (λ mask. (outcome ≡ Nothing) × (rest ≡ records)))
  found_open None found = takes_open found
  found_open (Some mask) found = none_open Outcome Nothing

  loads_open : (source : Option Source) → IsOpen (Option ℕ) (λ records value rest. LoadsFrom s a source records value rest)
  loads_open None = none_open (Option ℕ) None
  loads_open (Some source) =
      word_then s.task (steps.CellLoad source.cell) (Option ℕ) (λ word later value rest. (value ≡ Some (value_in a source word)) × (rest ≡ later))
      (λ answer fits. fits) tt
      (λ word. none_open (Option ℕ) (Some (value_in a source word)))

  judges_hit_open : (index : ℕ) (values : Option (ℕ × ℕ)) → IsOpen Outcome (λ records outcome rest. JudgesHit s a index values records outcome rest)
  judges_hit_open index values =
      let Heard : Begins Halves = λ records both later. Hears finder_half s.task index records both later in
      let Verdict : Halves → Begins Outcome = λ both records outcome rest. HitOutcome s a values both outcome × (rest ≡ records) in
      is_open_as Outcome (λ records outcome rest. (both : Halves) × (later : List Record) × Heard records both later × Verdict both later outcome rest)
      (λ records outcome rest. JudgesHit s a index values records outcome rest)
      (λ records outcome rest. (
        λ h. (h.0, subst (λ (r : List Record). Hears finder_half s.task index records h.0 r) (sym h.3.1) h.2, h.3.0),
        λ h. (h.0, rest, h.1, (h.2, refl)),
      ))
      (then_open Halves Outcome Heard Verdict (hears_open finder_half (lit< tt) s.task index)
      (λ both. let verdict = some_hit s a values both in chosen_open Outcome (λ outcome. HitOutcome s a values both outcome) verdict.0 verdict.1))

  judges_open : (index : ℕ) (values : Option (ℕ × ℕ)) → IsOpen Outcome (λ records outcome rest. Judges s a index values records outcome rest)
  judges_open index values =
      flag_then s.task (steps.Consume index) Outcome
      (λ untouched later outcome rest. MatchBool untouched (UntouchedOutcome s a values outcome × (rest ≡ later))
      (JudgesHit s a index values later outcome rest))
      (λ answer fits. fits) tt
      (λ untouched. bool_open Outcome (λ later outcome rest. UntouchedOutcome s a values outcome × (rest ≡ later))
      (λ later outcome rest. JudgesHit s a index values later outcome rest) untouched
      (let verdict = some_untouched s a values in chosen_open Outcome (λ outcome. UntouchedOutcome s a values outcome) verdict.0 verdict.1)
      (judges_hit_open index values))

  watches_open : (index : ℕ) → IsOpen Outcome (λ records outcome rest. Watches s a index records outcome rest)
  watches_open index =
      let Value : Begins (Option ℕ) = λ records value rest. LoadsValue s a records value rest in
      let Last : Option ℕ → Option ℕ → Begins Outcome = λ old new records outcome rest. Judges s a index (both_values old new) records outcome rest in
      let Second : Option ℕ → Begins Outcome =
      λ old records outcome rest. (new : Option ℕ) × (consumed : List Record) × Value records new consumed × Last old new consumed outcome rest in
      is_open_as Outcome (λ records outcome rest. (old : Option ℕ) × (stalled : List Record) × Value records old stalled × Second old stalled outcome rest)
      (λ records outcome rest. Watches s a index records outcome rest)
      (λ records outcome rest. (
        λ h. (h.0, h.3.0, h.1, h.3.1, h.2, h.3.2, h.3.3),
        λ h. (h.0, h.2, h.4, (h.1, h.3, h.5, h.6)),
      ))
      (then_open (Option ℕ) Outcome Value Second (loads_open (source_of s a))
      (λ old. then_open (Option ℕ) Outcome Value (Last old) (loads_open (source_of s a)) (λ new. judges_open index (both_values old new))))

  watches_at_open : (place : Option ℕ) → IsOpen (Option Judged) (λ records judged rest. WatchesAt s a place records judged rest)
  watches_at_open None = none_open (Option Judged) None
  watches_at_open (Some index) =
      mapped_open Outcome (Option Judged) (λ records outcome rest. Arms s a index records outcome rest)
      (λ outcome. Some (record { index = index; outcome = outcome }))
      (done_then s.task (steps.Name index (ticket_number a)) Outcome (λ later outcome rest. Watches s a index later outcome rest) (λ answer fits. fits) refl
      (watches_open index))

  tries_open : (word : ℕ) (indices : List ℕ) → IsOpen (Option ℕ) (λ records place rest. TriesInsert s.task word indices records place rest)
  tries_open word [] = none_open (Option ℕ) None
  tries_open word (index ∷ indices) =
      flag_then s.task (steps.Insert index word) (Option ℕ)
      (λ accepted later place rest. MatchBool accepted ((place ≡ Some index) × (rest ≡ later)) (TriesInsert s.task word indices later place rest))
      (λ answer fits. fits) tt
      (λ accepted. bool_open (Option ℕ) (λ later place rest. (place ≡ Some index) × (rest ≡ later))
      (λ later place rest. TriesInsert s.task word indices later place rest)
      accepted (none_open (Option ℕ) (Some index)) (tries_open word indices))

  sets_up_open : (word : ℕ) → IsOpen (Option Judged) (λ records judged rest. SetsUp s a word records judged rest)
  sets_up_open word =
      then_open (Option ℕ) (Option Judged) (λ records place later. TriesInsert s.task word (try_order (slot_of s a)) records place later)
      (λ place later judged rest. WatchesAt s a place later judged rest) (tries_open word (try_order (slot_of s a))) watches_at_open

frees_open : (s : Setting) (index : ℕ) → IsOpen (Unit {0}) (λ records value rest. Frees s index records rest)
frees_open s index =
    done_then s.task (steps.Clear index) (Unit {0}) (λ later value rest. MakesDone s.task (steps.Remove index) (λ after. rest ≡ after) later)
    (λ answer fits. fits) refl
    (done_then s.task (steps.Remove index) (Unit {0}) (λ later value rest. rest ≡ later) (λ answer fits. fits) refl still_open)

-- one check of an access: what follows hangs on whether it settled, and on how often the sampler was asked
abbrev OfPass : (Bool → ℕ → Lists) → Pass → Lists
OfPass K pass = K pass.settled pass.asked

abbrev PassIsOpen : Begins Pass → Type 1
PassIsOpen R =
    (E A : Bool → ℕ → Lists) → ((settled : Bool) (asked : ℕ) → Open (E settled asked) (A settled asked))
    → Open (After Pass R (OfPass E)) (After Pass R (OfPass A))

-- where a pass is over at once
over_at_once : (R : Begins Pass) (outcome : Outcome) (asked : ℕ)
    → ((records : List Record) (pass : Pass) (rest : List Record) → R records pass rest
    ↔ ((pass ≡ record { outcome = outcome; later = records; settled = false; asked = asked }) × (rest ≡ records))) → PassIsOpen R
over_at_once R outcome asked same E A follows =
    open_map (E false asked) (After Pass R (OfPass E)) (A false asked) (After Pass R (OfPass A))
    (λ records h.
    let is = (same records h.0 h.1).0 h.2 in
    subst (λ (p : Pass). E p.settled p.asked records) is.0 (subst (λ (r : List Record). E h.0.settled h.0.asked r) is.1 h.3))
    (λ records h.
    let pass : Pass = record { outcome = outcome; later = records; settled = false; asked = asked } in
    (pass, records, (same records pass records).1 (refl, refl), h))
    (follows false asked)

module _ (s : Setting) (asked : ℕ) where
  ends_open : (judged : Option Judged) → PassIsOpen (λ records pass rest. Ends s asked judged records pass rest)
  ends_open None E A follows =
      over_at_once (λ records pass rest. Ends s asked None records pass rest) Capacity asked (λ records pass rest. (λ h. h, λ h. h)) E A follows
  ends_open (Some judged) E A follows =
      let Freed : Begins (Unit {0}) = λ records value rest. Frees s judged.index records rest in
      let All : Begins Pass = λ records pass rest. Ends s asked (Some judged) records pass rest in
      open_map (After (Unit {0}) Freed (λ v. E true asked)) (After Pass All (OfPass E)) (After (Unit {0}) Freed (λ v. A true asked)) (After Pass All (OfPass A))
      (λ records h. (tt, h.1, h.2.1, subst (λ (p : Pass). E p.settled p.asked h.1) h.2.0 h.3))
      (λ records h. (record { outcome = judged.outcome; later = records; settled = true; asked = asked }, h.1, (refl, h.2), h.3))
      (frees_open s judged.index (λ v. E true asked) (λ v. A true asked) (λ v. follows true asked))

pass_as : (R Q : Begins Pass) → ((records : List Record) (pass : Pass) (rest : List Record) → R records pass rest ↔ Q records pass rest) → PassIsOpen R
    → PassIsOpen Q
pass_as R Q same opens E A follows =
    open_map (After Pass R (OfPass E)) (After Pass Q (OfPass E)) (After Pass R (OfPass A)) (After Pass Q (OfPass A))
    (λ records h. (h.0, h.1, (same records h.0 h.1).1 h.2, h.3)) (λ records h. (h.0, h.1, (same records h.0 h.1).0 h.2, h.3)) (opens E A follows)

pass_then : (X : Type 0) (R : Begins X) (Q : X → Begins Pass) → IsOpen X R → ((value : X) → PassIsOpen (Q value))
    → PassIsOpen (λ records pass rest. (between : X) × (later : List Record) × R records between later × Q between later pass rest)
pass_then X R Q first second E A follows =
    let Both : Begins Pass = λ records pass rest. (between : X) × (later : List Record) × R records between later × Q between later pass rest in
    open_map (After X R (λ value. After Pass (Q value) (OfPass E))) (After Pass Both (OfPass E))
    (After X R (λ value. After Pass (Q value) (OfPass A))) (After Pass Both (OfPass A))
    (λ records h. (h.2.0, h.2.1, h.2.2, (h.0, h.1, h.2.3, h.3)))
    (λ records h. (h.3.0, h.3.1, (h.0, h.1, h.2, h.3.2), h.3.3))
    (first (λ value. After Pass (Q value) (OfPass E)) (λ value. After Pass (Q value) (OfPass A)) (λ value. second value E A follows))

module _ (s : Setting) (a : Access) (asked : ℕ) where
  abbrev Over : Outcome → ℕ → List Record → Pass → List Record → Type 0
  Over outcome now records pass rest = (pass ≡ record { outcome = outcome; later = records; settled = false; asked = now }) × (rest ≡ records)

  marked_over : (records : List Record) (pass : Pass) (rest : List Record) → NoneFound s a true asked records pass rest → Over Nothing asked records pass rest
  marked_over records pass rest (counts_as_marked is pass_is over) = (pass_is, over)
  marked_over records pass rest (skipped is skips pass_is over) = absurd (cc)
  marked_over records pass rest (unencodable is watched_it unfit pass_is over) = absurd (cc)
  marked_over records pass rest (watched judged later is watched_it fits setup after) = absurd (cc)

  skipped_over : ¬ IsWatched s asked → (records : List Record) (pass : Pass) (rest : List Record) → NoneFound s a false asked records pass rest
      → Over Nothing (asked + 1) records pass rest
  skipped_over unwatched records pass rest (counts_as_marked is pass_is over) = absurd (cc)
  skipped_over unwatched records pass rest (skipped is skips pass_is over) = (pass_is, over)
  skipped_over unwatched records pass rest (unencodable is watched_it unfit pass_is over) = absurd (unwatched watched_it)
  skipped_over unwatched records pass rest (watched judged later is watched_it fits setup after) = absurd (unwatched watched_it)

  unfit_over : IsWatched s asked → ¬ Encodable a → (records : List Record) (pass : Pass) (rest : List Record) → NoneFound s a false asked records pass rest
      → Over Unencodable (asked + 1) records pass rest
  unfit_over is_watched cannot records pass rest (counts_as_marked is pass_is over) = absurd (cc)
  unfit_over is_watched cannot records pass rest (skipped is skips pass_is over) = absurd (skips is_watched)
  unfit_over is_watched cannot records pass rest (unencodable is watched_it unfit pass_is over) = (pass_is, over)
  unfit_over is_watched cannot records pass rest (watched judged later is watched_it fits setup after) = absurd (cannot fits)

  abbrev SetsItUp : Begins Pass
  SetsItUp records pass rest =
      (judged : Option Judged) × (later : List Record) × SetsUp s a (word_of s.rules.layout a) records judged later × Ends s (asked + 1) judged later pass rest

  watched_over : IsWatched s asked → Encodable a → (records : List Record) (pass : Pass) (rest : List Record) → NoneFound s a false asked records pass rest
      → SetsItUp records pass rest
  watched_over is_watched can records pass rest (counts_as_marked is pass_is over) = absurd (cc)
  watched_over is_watched can records pass rest (skipped is skips pass_is over) = absurd (skips is_watched)
  watched_over is_watched can records pass rest (unencodable is watched_it unfit pass_is over) = absurd (unfit can)
  watched_over is_watched can records pass rest (watched judged later is watched_it fits setup after) = (judged, later, setup, after)

  none_found_open : (marked : Bool) → PassIsOpen (λ records pass rest. NoneFound s a marked asked records pass rest)
  none_found_open true =
      over_at_once (λ records pass rest. NoneFound s a true asked records pass rest) Nothing asked
      (λ records pass rest. (marked_over records pass rest, λ h. counts_as_marked refl h.0 h.1))
  none_found_open false = elim (watched_or_not s asked) [
    | inr skips ↦
        over_at_once (λ records pass rest. NoneFound s a false asked records pass rest) Nothing (asked + 1)
        (λ records pass rest. (skipped_over skips records pass rest, λ h. skipped refl skips h.0 h.1))
    | inl is_watched ↦ elim (encodable_or_not a) [
      | inr cannot ↦
          over_at_once (λ records pass rest. NoneFound s a false asked records pass rest) Unencodable (asked + 1)
          (λ records pass rest. (unfit_over is_watched cannot records pass rest, λ h. unencodable refl is_watched cannot h.0 h.1))
      | inl can ↦
          pass_as SetsItUp (λ records pass rest. NoneFound s a false asked records pass rest)
          (λ records pass rest. (λ h. watched h.0 h.1 refl is_watched can h.2 h.3, watched_over is_watched can records pass rest))
          (pass_then (Option Judged) (λ records judged later. SetsUp s a (word_of s.rules.layout a) records judged later)
          (λ judged later pass rest. Ends s (asked + 1) judged later pass rest) (sets_up_open s a (word_of s.rules.layout a)) (ends_open s (asked + 1)))
    ]
  ]

  goes_on_open : (marked : Bool) (found : Option Watchpoint) → PassIsOpen (λ records pass rest. GoesOn s a marked asked found records pass rest)
  goes_on_open marked None E A follows = none_found_open marked E A follows
  goes_on_open marked (Some found) E A follows =
      let Found : Begins Outcome = λ records outcome rest. FoundWatchpoint s a found records outcome rest in
      let All : Begins Pass = λ records pass rest. GoesOn s a marked asked (Some found) records pass rest in
      open_map (After Outcome Found (λ outcome. E true asked)) (After Pass All (OfPass E)) (After Outcome Found (λ outcome. A true asked))
      (After Pass All (OfPass A))
      (λ records h. (
        h.0.outcome,
        h.1,
        h.2.3,
        subst (λ (b : Bool). E b asked h.1) h.2.0 (subst (λ (n : ℕ). E h.0.settled n h.1) h.2.1 h.3),
      ))
      (λ records h. (record { outcome = h.0; later = h.1; settled = true; asked = asked }, h.1, (refl, refl, refl, h.2), h.3))
      (found_open s a a.mask found (λ outcome. E true asked) (λ outcome. A true asked) (λ outcome. follows true asked))

  once_open : (marked : Bool) → PassIsOpen (λ records pass rest. ChecksOnce s a marked asked records pass rest)
  once_open marked =
      pass_then (Option Watchpoint) (λ records found later. LooksUp s a (look_order (slot_of s a)) records found later)
      (λ found later pass rest. GoesOn s a marked asked found later pass rest) (looks_open s a (look_order (slot_of s a))) (goes_on_open marked)

-- more checks: what follows hangs on how often the sampler was asked by then
abbrev pub OfPasses : (ℕ → Lists) → Passes → Lists
OfPasses K passes = K passes.asked

abbrev pub PassesAreOpen : Begins Passes → Type 1
PassesAreOpen R = (E A : ℕ → Lists) → ((asked : ℕ) → Open (E asked) (A asked)) → Open (After Passes R (OfPasses E)) (After Passes R (OfPasses A))

no_checks : (asked : ℕ) → PassesAreOpen (λ records passes rest. (passes ≡ record { outcomes = []; asked = asked }) × (rest ≡ records))
no_checks asked E A follows =
    let R : Begins Passes = λ records passes rest. (passes ≡ record { outcomes = []; asked = asked }) × (rest ≡ records) in
    open_map (E asked) (After Passes R (OfPasses E)) (A asked) (After Passes R (OfPasses A))
    (λ records h. subst (λ (p : Passes). E p.asked records) h.2.0 (subst (λ (r : List Record). E h.0.asked r) h.2.1 h.3))
    (λ records h. (record { outcomes = []; asked = asked }, records, (refl, refl), h)) (follows asked)

either_open : (b : Bool) (R Q : Begins Passes) → PassesAreOpen R → PassesAreOpen Q
    → PassesAreOpen (λ records passes rest. MatchBool b (R records passes rest) (Q records passes rest))
either_open true R Q first second = first
either_open false R Q first second = second

module _ (s : Setting) where
  abbrev OneAndMore : Access → Bool → ℕ → (Bool → List Begun) → Begins Passes
  OneAndMore a marked asked chosen records passes rest =
      (pass : Pass) × (later : List Record) × (more : List Fallen) × ChecksOnce s a marked asked records pass later
      × Rechecks s (chosen pass.settled) pass.asked later (record { outcomes = more; asked = passes.asked }) rest
      × (passes.outcomes ≡ fallen_of a pass ∷ more)

  one_and_more : (a : Access) (marked : Bool) (asked : ℕ) (chosen : Bool → List Begun)
      → ((settled : Bool) (now : ℕ) → PassesAreOpen (λ records passes rest. Rechecks s (chosen settled) now records passes rest))
      → PassesAreOpen (OneAndMore a marked asked chosen)
  one_and_more a marked asked chosen others E A follows =
      let Once : Begins Pass = λ records pass rest. ChecksOnce s a marked asked records pass rest in
      let Others : Bool → ℕ → Begins Passes = λ settled now records passes rest. Rechecks s (chosen settled) now records passes rest in
      open_map (After Pass Once (OfPass (λ settled now. After Passes (Others settled now) (OfPasses E))))
      (After Passes (OneAndMore a marked asked chosen) (OfPasses E))
      (After Pass Once (OfPass (λ settled now. After Passes (Others settled now) (OfPasses A)))) (After Passes (OneAndMore a marked asked chosen) (OfPasses A))
      (λ records h. (h.2.0, h.2.1, h.2.3, (record { outcomes = h.2.2; asked = h.0.asked }, h.1, h.2.4, h.3)))
      (λ records h. (
        record { outcomes = fallen_of a h.0 ∷ h.3.0.outcomes; asked = h.3.0.asked },
        h.3.1,
        (h.0, h.1, h.3.0.outcomes, h.2, h.3.2, refl),
        h.3.3,
      ))
      (once_open s a asked marked (λ settled now. After Passes (Others settled now) (OfPasses E))
      (λ settled now. After Passes (Others settled now) (OfPasses A))
      (λ settled now. others settled now E A follows))

  rechecks_open : (scopes : List Begun) (asked : ℕ) → PassesAreOpen (λ records passes rest. Rechecks s scopes asked records passes rest)
  rechecks_open [] asked = no_checks asked
  rechecks_open (scope ∷ scopes) asked =
      either_open scope.silenced (λ records passes rest. Rechecks s scopes asked records passes rest)
      (OneAndMore scope.access scope.marked asked (λ settled. scopes))
      (rechecks_open scopes asked) (one_and_more scope.access scope.marked asked (λ settled. scopes) (λ settled now. rechecks_open scopes now))

  begun_open : (scopes : List Begun) (begun : Begun) (asked : ℕ) → PassesAreOpen (λ records passes rest. ChecksBegun s scopes begun asked records passes rest)
  begun_open scopes begun asked =
      either_open begun.silenced (λ records passes rest. (passes ≡ record { outcomes = []; asked = asked_silenced begun.marked asked }) × (rest ≡ records))
      (OneAndMore begun.access begun.marked asked (λ settled. left_to_check settled scopes)) (no_checks (asked_silenced begun.marked asked))
      (one_and_more begun.access begun.marked asked (λ settled. left_to_check settled scopes) (λ settled now. rechecks_open (left_to_check settled scopes) now))

  -- the check of an access is open
  pub check_open : (scopes : List Begun) (begun : Begun) (asked : ℕ) → IsOwn s begun.access → AreOwn s scopes
      → PassesAreOpen (λ records passes rest. Check s scopes begun asked records passes rest)
  check_open scopes begun asked own others E A follows =
      let Inside : Begins Passes = λ records passes rest. ChecksBegun s scopes begun asked records passes rest in
      let All : Begins Passes = λ records passes rest. Check s scopes begun asked records passes rest in
      open_map (MakesWord s.task steps.Clock (λ stamp. After Passes Inside (OfPasses E))) (After Passes All (OfPasses E))
      (MakesWord s.task steps.Clock (λ stamp. After Passes Inside (OfPasses A))) (After Passes All (OfPasses A))
      (λ records h. word_in s.task steps.Clock Passes (λ stamp. Inside) (OfPasses E) records (h.0, h.1, h.2.2, h.3))
      (λ records h. let out = word_out s.task steps.Clock Passes (λ stamp. Inside) (OfPasses A) records h in (out.0, out.1, (own, others, out.2), out.3))
      (open_word s.task steps.Clock (λ stamp. After Passes Inside (OfPasses E)) (λ stamp. After Passes Inside (OfPasses A))
      (λ stamp. begun_open scopes begun asked E A follows) (λ answer fits. fits) tt)

  -- the step of a clock
  pub clock_open : IsOpen (Unit {0}) (λ records value rest. MakesWord s.task steps.Clock (λ stamp later. rest ≡ later) records)
  clock_open = word_then s.task steps.Clock (Unit {0}) (λ stamp later value rest. rest ≡ later) (λ answer fits. fits) tt (λ stamp. still_open)

  -- so is the close of a scoped assertion
  pub close_open : (scope : Begun) (silenced : Bool) (asked : ℕ) → IsOwn s scope.access
      → PassesAreOpen (λ records passes rest. Close s scope silenced asked records passes rest)
  close_open scope silenced asked own E A follows =
      let last : Begun = record scope { silenced = scope.silenced || silenced } in
      let Again : Begins Passes = λ records passes rest. Rechecks s (last ∷ []) asked records passes rest in
      let Stamp : Begins (Unit {0}) = λ records value rest. MakesWord s.task steps.Clock (λ stamp later. rest ≡ later) records in
      let All : Begins Passes = λ records passes rest. Close s scope silenced asked records passes rest in
      open_map (After Passes Again (OfPasses (λ now. After (Unit {0}) Stamp (λ v. E now)))) (After Passes All (OfPasses E))
      (After Passes Again (OfPasses (λ now. After (Unit {0}) Stamp (λ v. A now)))) (After Passes All (OfPasses A))
      (λ records h. (h.0, h.2.1.0, h.2.1.1, (tt, h.1, h.2.1.2, h.3)))
      (λ records h. (h.0, h.3.1, (own, (h.1, h.2, h.3.2)), h.3.3))
      (rechecks_open (last ∷ []) asked (λ now. After (Unit {0}) Stamp (λ v. E now)) (λ now. After (Unit {0}) Stamp (λ v. A now))
      (λ now. clock_open (λ v. E now) (λ v. A now) (λ v. follows now)))
