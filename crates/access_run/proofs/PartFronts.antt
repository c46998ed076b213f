-- The parts of a check end where they end, whatever follows.
use Rattle.std.proofs.Common.{◌≡◌, ◌<◌, ◌⊎◌, ◌∷◌, [], ℕ, Bool, true, false, List, Option, None, Some, MatchBool, MatchOption, inl, inr, refl, sym}
use Rattle.access_types.specs.Access.{Access}
use Rattle.access_types.specs.Ticket.{ticket_number}
use Rattle.access_run.proofs.memory_operation.Fronts.{Front, front_first, front_map, front_none, front_then, front_word}
use Rattle.setup_access.specs.Find.{LooksUp}
use Rattle.setup_access.specs.Found.{FoundWatchpoint, Hears, Takes, FinderTells, TellsTo, finder_half, setter_half}
use Rattle.setup_access.specs.Hits.{Hits}
use Rattle.setup_access.specs.Records.{MakesDone, OnHalves}
use Rattle.setup_access.specs.Setting.{Setting, slot_of, try_order}
use Rattle.setup_access.specs.Setup.{Arms, Frees, Judged, Judges, JudgesHit, SetsUp, TriesInsert, Watches, WatchesAt}
use Rattle.setup_access.specs.Values.{LoadsFrom, both_values, source_of, value_in}
use Rattle.setup_access.specs.Verdicts.{UntouchedOutcome}
use Rattle.setup_access.specs.declared.outcome.Outcome.{Outcome}
use Rattle.setup_access.specs.declared.outcome.Outcome.TheVariants.{Lost, Nothing, Told}
use Rattle.setup_access.specs.declared.outcome.Watchpoint.{Watchpoint}
use Rattle.setup_access.specs.declared.source.Source.{Source}
use Rattle.slot.specs.Pair.{Halves}
use Rattle.slot_table.specs.declared.records.Record.{Record}
use Rattle.slot_table.specs.declared.step.Step.TheVariants.{CellLoad, Clear, Consume, Insert, Load, Name, Remove, Tell, TryConsume}
use Rattle.access_run.proofs.Steps.{front_done, front_flag, halves_answer}

-- a choice by a test
pub front_if : (b : Bool) (First Other : List Record → List Record → Type 0) (records rest : List Record)
    → MatchBool b (First records rest) (Other records rest)
    → (First records rest → Front First records rest) → (Other records rest → Front Other records rest)
    → Front (λ r l. MatchBool b (First r l) (Other r l)) records rest
front_if true First Other records rest h first other = first h
front_if false First Other records rest h first other = other h

-- a wait for a half of a pair
abbrev Heard : (Halves → ℕ) → ℕ → ℕ → Halves → Halves → List Record → List Record → Type 0
Heard half task index both heard later rest =
    ((0 < half heard) × (both ≡ heard) × (rest ≡ later)) ⊎ ((half heard ≡ 0) × Hears half task index later both rest)

pub hears : (half : Halves → ℕ) (task index : ℕ) (both : Halves) (records rest : List Record) → Hears half task index records both rest
    → Front (λ r l. Hears half task index r both l) records rest
hears half task index both [] rest h = absurd h
hears half task index both (first ∷ later) rest h =
    front_first (λ r l. Hears half task index r both l) (λ l r. OnHalves first.answer (λ heard. Heard half task index both heard l r)) first later rest
    (halves_answer (Heard half task index both) first.answer later rest h.2 (λ heard got. elim got [
      | inl stands ↦ ([], sym stands.2, λ other. inl (stands.0, stands.1, refl))
      | inr empty ↦ front_map (λ r l. Hears half task index r both l) (Heard half task index both heard) later rest
          (hears half task index both later rest empty.1) (λ r l own. inr (empty.0, own))
    ]))
    (λ more left got. (h.0, h.1, got))

module _ (s : Setting) (a : Access) where
  -- what a look-up comes to by the word that it read
  abbrev Looked : ℕ → List ℕ → Option Watchpoint → ℕ → List Record → List Record → Type 0
  Looked index indices found word later l = (Hits s.rules.layout a word × (found ≡ Some (record { index = index; word = word })) × (l ≡ later))
      ⊎ (¬ Hits s.rules.layout a word × LooksUp s a indices later found l)

  pub looks_up : (indices : List ℕ) (found : Option Watchpoint) (records rest : List Record) → LooksUp s a indices records found rest
      → Front (λ r l. LooksUp s a indices r found l) records rest
  looks_up [] found records rest h = front_none (found ≡ None) records rest h.0 h.1
  looks_up (index ∷ indices) found records rest h = front_word s.task (Load index) (Looked index indices found) records rest h
      (λ word later got. elim got [
        | inl hit ↦ ([], sym hit.2, λ other. inl (hit.0, hit.1, refl))
        | inr miss ↦ front_map (λ r l. LooksUp s a indices r found l) (Looked index indices found word) later rest
            (looks_up indices found later rest miss.1) (λ r l own. inr (miss.0, own))
      ])

  tells_to : (index setter : ℕ) (outcome : Outcome) (records rest : List Record) → TellsTo s a index setter records outcome rest
      → Front (λ r l. TellsTo s a index setter r outcome l) records rest
  tells_to index setter outcome records rest h = front_done s.task (Tell index (ticket_number a))
      (λ after l. (outcome ≡ Told (record { setter = setter; finder = ticket_number a })) × (l ≡ after)) records rest h
      (λ after got. front_none (outcome ≡ Told (record { setter = setter; finder = ticket_number a })) after rest got.0 got.1)

  tells : (index : ℕ) (outcome : Outcome) (records rest : List Record) → FinderTells s a index records outcome rest
      → Front (λ r l. FinderTells s a index r outcome l) records rest
  tells index outcome records rest h = front_then (λ r m. Hears setter_half s.task index r h.0 m) (λ m l. TellsTo s a index h.0.setter m outcome l)
      (λ r l. FinderTells s a index r outcome l) records h.1 rest
      (hears setter_half s.task index h.0 records h.1 h.2) (tells_to index h.0.setter outcome h.1 rest h.3)
      (λ r m l first second. (h.0, m, first, second))

  takes : (found : Watchpoint) (outcome : Outcome) (records rest : List Record) → Takes s a found records outcome rest
      → Front (λ r l. Takes s a found r outcome l) records rest
  takes found outcome records rest h = front_flag s.task (TryConsume found.index found.word)
      (λ taken later l. MatchBool taken (FinderTells s a found.index later outcome l) ((outcome ≡ Lost) × (l ≡ later))) records rest h
      (λ taken later got. front_if taken (λ r l. FinderTells s a found.index r outcome l) (λ r l. (outcome ≡ Lost) × (l ≡ r)) later rest got
      (tells found.index outcome later rest) (λ lost. front_none (outcome ≡ Lost) later rest lost.0 lost.1))

  found_by : (mask : Option ℕ) (found : Watchpoint) (outcome : Outcome) (records rest : List Record)
      → MatchOption mask (Takes s a found records outcome rest) (λ m. (outcome ≡ Nothing) × (rest ≡ records))
      → Front (λ r l. MatchOption mask (Takes s a found r outcome l) (λ m. (outcome ≡ Nothing) × (l ≡ r))) records rest
  found_by None found outcome records rest h = takes found outcome records rest h
  found_by (Some mask) found outcome records rest h = front_none (outcome ≡ Nothing) records rest h.0 h.1

  pub found_watchpoint : (found : Watchpoint) (outcome : Outcome) (records rest : List Record) → FoundWatchpoint s a found records outcome rest
      → Front (λ r l. FoundWatchpoint s a found r outcome l) records rest
  found_watchpoint found outcome records rest h = found_by a.mask found outcome records rest h

  tries_insert : (word : ℕ) (indices : List ℕ) (place : Option ℕ) (records rest : List Record) → TriesInsert s.task word indices records place rest
      → Front (λ r l. TriesInsert s.task word indices r place l) records rest
  tries_insert word [] place records rest h = front_none (place ≡ None) records rest h.0 h.1
  tries_insert word (index ∷ indices) place records rest h = front_flag s.task (Insert index word)
      (λ accepted later l. MatchBool accepted ((place ≡ Some index) × (l ≡ later)) (TriesInsert s.task word indices later place l)) records rest h
      (λ accepted later got. front_if accepted (λ r l. (place ≡ Some index) × (l ≡ r)) (λ r l. TriesInsert s.task word indices r place l) later rest got
      (λ stands. front_none (place ≡ Some index) later rest stands.0 stands.1) (λ again. tries_insert word indices place later rest again))

  loads_from : (source : Option Source) (value : Option ℕ) (records rest : List Record) → LoadsFrom s a source records value rest
      → Front (λ r l. LoadsFrom s a source r value l) records rest
  loads_from None value records rest h = front_none (value ≡ None) records rest h.0 h.1
  loads_from (Some source) value records rest h = front_word s.task (CellLoad source.cell)
      (λ word later l. (value ≡ Some (value_in a source word)) × (l ≡ later)) records rest h
      (λ word later got. front_none (value ≡ Some (value_in a source word)) later rest got.0 got.1)

  judges_hit : (index : ℕ) (values : Option (ℕ × ℕ)) (outcome : Outcome) (records rest : List Record) → JudgesHit s a index values records outcome rest
      → Front (λ r l. JudgesHit s a index values r outcome l) records rest
  judges_hit index values outcome records rest h = front_map (λ r l. Hears finder_half s.task index r h.0 l)
      (λ r l. JudgesHit s a index values r outcome l) records rest (hears finder_half s.task index h.0 records rest h.1)
      (λ r l own. (h.0, own, h.2))

  judges : (index : ℕ) (values : Option (ℕ × ℕ)) (outcome : Outcome) (records rest : List Record) → Judges s a index values records outcome rest
      → Front (λ r l. Judges s a index values r outcome l) records rest
  judges index values outcome records rest h = front_flag s.task (Consume index)
      (λ untouched later l. MatchBool untouched (UntouchedOutcome s a values outcome × (l ≡ later)) (JudgesHit s a index values later outcome l)) records rest h
      (λ untouched later got. front_if untouched (λ r l. UntouchedOutcome s a values outcome × (l ≡ r)) (λ r l. JudgesHit s a index values r outcome l) later rest got
      (λ quiet. front_none (UntouchedOutcome s a values outcome) later rest quiet.0 quiet.1) (judges_hit index values outcome later rest))

  -- the second load, and the verdict
  abbrev Again : ℕ → Outcome → Option ℕ → Option ℕ → List Record → List Record → Type 0
  Again index outcome old new r l =
      (consumed : List Record) × LoadsFrom s a (source_of s a) r new consumed × Judges s a index (both_values old new) consumed outcome l

  watches : (index : ℕ) (outcome : Outcome) (records rest : List Record) → Watches s a index records outcome rest
      → Front (λ r l. Watches s a index r outcome l) records rest
  watches index outcome records rest h =
      let last = front_then (λ r m. LoadsFrom s a (source_of s a) r h.1 m) (λ m l. Judges s a index (both_values h.0 h.1) m outcome l)
      (Again index outcome h.0 h.1) h.2 h.3 rest
      (loads_from (source_of s a) h.1 h.2 h.3 h.5) (judges index (both_values h.0 h.1) outcome h.3 rest h.6)
      (λ r m l first second. (m, first, second)) in
      front_then (λ r m. LoadsFrom s a (source_of s a) r h.0 m) (Again index outcome h.0 h.1) (λ r l. Watches s a index r outcome l) records h.2 rest
      (loads_from (source_of s a) h.0 records h.2 h.4) last
      (λ r m l first second. (h.0, h.1, m, second.0, first, second.1, second.2))

  arms : (index : ℕ) (outcome : Outcome) (records rest : List Record) → Arms s a index records outcome rest
      → Front (λ r l. Arms s a index r outcome l) records rest
  arms index outcome records rest h = front_done s.task (Name index (ticket_number a)) (λ later l. Watches s a index later outcome l) records rest h
      (λ later got. watches index outcome later rest got)

  watches_at : (place : Option ℕ) (judged : Option Judged) (records rest : List Record) → WatchesAt s a place records judged rest
      → Front (λ r l. WatchesAt s a place r judged l) records rest
  watches_at None judged records rest h = front_none (judged ≡ None) records rest h.0 h.1
  watches_at (Some index) judged records rest h = front_map (λ r l. Arms s a index r h.0 l) (λ r l. WatchesAt s a (Some index) r judged l) records rest
      (arms index h.0 records rest h.1) (λ r l own. (h.0, own, h.2))

  pub sets_up : (word : ℕ) (judged : Option Judged) (records rest : List Record) → SetsUp s a word records judged rest
      → Front (λ r l. SetsUp s a word r judged l) records rest
  sets_up word judged records rest h = front_then (λ r m. TriesInsert s.task word (try_order (slot_of s a)) r h.0 m) (λ m l. WatchesAt s a h.0 m judged l)
      (λ r l. SetsUp s a word r judged l) records h.1 rest
      (tries_insert word (try_order (slot_of s a)) h.0 records h.1 h.2) (watches_at h.0 judged h.1 rest h.3)
      (λ r m l first second. (h.0, m, first, second))

-- the second step of giving an index back
abbrev Removes : Setting → ℕ → List Record → List Record → Type 0
Removes s index later l = MakesDone s.task (Remove index) (λ after. l ≡ after) later

pub frees : (s : Setting) (index : ℕ) (records rest : List Record) → Frees s index records rest
    → Front (λ r l. Frees s index r l) records rest
frees s index records rest h = front_done s.task (Clear index) (λ later l. Removes s index later l) records rest h
    (λ later got. front_done s.task (Remove index) (λ after l. l ≡ after) later rest got (λ after over. ([], sym over, λ other. refl)))
