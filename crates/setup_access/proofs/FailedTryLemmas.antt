-- A wait counts failed tries. A check loads a pair again only where the load before it failed.
use Rattle.std.proofs.Common.{◌≡◌, ◌+◌, ◌∙◌, [], ◌∷◌, ◌||◌, ℕ, zero, suc, Bool, true, false, IfSome, List, MatchBool, MatchOption, Option, None, Some, ap, inl, inr, refl, subst, sym, if◌then◌else◌}
use Rattle.access_types.specs.Access.{Access}
use Rattle.access_types.specs.Ticket.{ticket_number}
use Rattle.slot.specs.Pair.{Halves}
use Rattle.slot_table.specs.declared.records.Record.{Record}
use Rattle.slot_table.specs.declared.step.Answer.{Answer}
use Rattle.slot_table.specs.declared.step.Answer.TheVariants as answers
use Rattle.slot_table.specs.declared.step.Step.{Step}
use Rattle.slot_table.specs.declared.step.Step.TheVariants.{CellExchange, CellLoad, Clear, Clock, Consume, Insert, Load, LockStore, LockTry, Name, PairLoad, Remove, Tell, TryConsume}
use Rattle.setup_access.specs.Check.{Check, ChecksOnce, Close, Ends, GoesOn, NoneFound, Pass, Passes, Rechecks, counts_as_marked, left_to_check, skipped, unencodable, watched}
use Rattle.setup_access.specs.Find.{LooksUp}
use Rattle.setup_access.specs.Found.{Hears, Takes, finder_half, setter_half}
use Rattle.setup_access.specs.Records.{MakesDone, MakesFlag, MakesWord}
use Rattle.setup_access.specs.Setting.{Setting, look_order, slot_of, try_order}
use Rattle.setup_access.specs.Setup.{Arms, Judged, Judges, TriesInsert, WatchesAt}
use Rattle.setup_access.specs.Values.{LoadsFrom, both_values, source_of}
use Rattle.setup_access.specs.Waits.{Wait, after_half, after_load, awaited, is_empty, is_unheard, is_failed, failed_from, failed_tries, wait_after, wait_from, wait_on}
use Rattle.setup_access.specs.declared.begun.Begun.{Begun}
use Rattle.setup_access.specs.declared.outcome.Outcome.{Outcome}
use Rattle.setup_access.specs.declared.outcome.Watchpoint.{Watchpoint}
use Rattle.setup_access.specs.declared.source.Source.{Source}
use Rattle.setup_access.proofs.DisciplineLemmas.{on_flag, on_halves, on_word}

-- a wait is for the half that is waited for, and has had so many failed tries
abbrev CountsFailedTries : Option Wait → Option (Halves → ℕ) → ℕ → Type 0
CountsFailedTries None half tries = Unit {0}
CountsFailedTries (Some wait) half tries = (half ≡ Some wait.half) × (wait.tries ≡ tries)

half_counts : (heard : ℕ) (wait : Wait) (half : Option (Halves → ℕ)) (tries : ℕ) → half ≡ Some wait.half → wait.tries ≡ tries
    → CountsFailedTries (after_half wait heard) half (if is_empty heard then tries + 1 else 0)
half_counts zero wait half tries same counted = (same, ap (λ (n : ℕ). n + 1) counted)
half_counts (suc ticket) wait half tries same counted = tt

load_counts : (wait : Option Wait) (half : Option (Halves → ℕ)) (tries : ℕ) (answer : Answer) → CountsFailedTries wait half tries
    → CountsFailedTries (after_load wait answer) half (if is_unheard half answer then tries + 1 else 0)
load_counts None half tries answer counts = tt
load_counts (Some wait) half tries (answers.Halves setter finder) counts =
    let heard : ℕ = wait.half (record { setter = setter; finder = finder }) in
    let failed : is_unheard half (answers.Halves setter finder) ≡ is_empty heard =
    ap (λ (h : Option (Halves → ℕ)). is_unheard h (answers.Halves setter finder)) counts.0 in
    subst (λ (b : Bool). CountsFailedTries (after_half wait heard) half (if b then tries + 1 else 0)) (sym failed)
    (half_counts heard wait half tries counts.0 counts.1)
load_counts (Some wait) half tries (answers.Word word) counts = tt
load_counts (Some wait) half tries (answers.Flag flag) counts = tt
load_counts (Some wait) half tries answers.Done counts = tt

step_counts : (wait : Option Wait) (half : Option (Halves → ℕ)) (tries : ℕ) (step : Step) (answer : Answer) → CountsFailedTries wait half tries
    → CountsFailedTries (wait_on wait step answer) (awaited half step) (if is_failed half step answer then tries + 1 else 0)
step_counts wait half tries (Load index) answer counts = tt
step_counts wait half tries (Insert index word) answer counts = tt
step_counts wait half tries (TryConsume index word) (answers.Flag true) counts = (refl, refl)
step_counts wait half tries (TryConsume index word) (answers.Flag false) counts = tt
step_counts wait half tries (TryConsume index word) (answers.Word got) counts = tt
step_counts wait half tries (TryConsume index word) (answers.Halves setter finder) counts = tt
step_counts wait half tries (TryConsume index word) answers.Done counts = tt
step_counts wait half tries (Consume index) (answers.Flag true) counts = tt
step_counts wait half tries (Consume index) (answers.Flag false) counts = (refl, refl)
step_counts wait half tries (Consume index) (answers.Word got) counts = tt
step_counts wait half tries (Consume index) (answers.Halves setter finder) counts = tt
step_counts wait half tries (Consume index) answers.Done counts = tt
step_counts wait half tries (PairLoad index) answer counts = load_counts wait half tries answer counts
step_counts wait half tries (Remove index) answer counts = tt
step_counts wait half tries (Name index ticket) answer counts = tt
step_counts wait half tries (Tell index ticket) answer counts = tt
step_counts wait half tries (Clear index) answer counts = tt
step_counts wait half tries (CellLoad cell) answer counts = tt
step_counts wait half tries (CellExchange cell seen new) answer counts = tt
step_counts wait half tries (LockTry lock holder) answer counts = tt
step_counts wait half tries (LockStore lock) answer counts = tt
step_counts wait half tries Clock answer counts = tt

tries_of_wait : (wait : Option Wait) (half : Option (Halves → ℕ)) (before : ℕ) (records : List Record) → CountsFailedTries wait half before
    → IfSome (wait_from wait records) (λ later. later.tries ≡ failed_from half before records)
tries_of_wait None half before [] counts = tt
tries_of_wait (Some wait) half before [] counts = counts.1
tries_of_wait wait half before (first ∷ later) counts =
    tries_of_wait (wait_on wait first.step first.answer) (awaited half first.step) (if is_failed half first.step first.answer then before + 1 else 0) later
    (step_counts wait half before first.step first.answer counts)

pub waits_count : (records : List Record) → IfSome (wait_after records) (λ wait. wait.tries ≡ failed_tries records)
waits_count records = tries_of_wait None None 0 records tt

abbrev pub LoadsPair : Step → Type 0
LoadsPair (PairLoad index) = Unit {0}
LoadsPair step = ⊥

-- the records go on with a load of a pair
abbrev pub LoadsNext : List Record → Type 0
LoadsNext [] = ⊥
LoadsNext (first ∷ later) = LoadsPair first.step

-- a step of a kind that is tried again
abbrev pub Tries : Step → Type 0
Tries (PairLoad index) = Unit {0}
Tries (CellExchange cell seen new) = Unit {0}
Tries (LockTry lock task) = Unit {0}
Tries step = ⊥

-- the records go on with one
abbrev pub TriesNext : List Record → Type 0
TriesNext [] = ⊥
TriesNext (first ∷ later) = Tries first.step

-- the second step tries what the first did
abbrev pub TriesSame : Step → Step → Type 0
TriesSame (PairLoad index) next = next ≡ PairLoad index
TriesSame (CellExchange cell seen new) next = (saw put : ℕ) × (next ≡ CellExchange cell saw put)
TriesSame (LockTry lock task) next = next ≡ LockTry lock task
TriesSame step next = Unit {0}

-- the records, if there are any, go on with a step that tries the same
abbrev pub SameNext : Step → List Record → Type 0
SameNext step [] = Unit {0}
SameNext step (next ∷ later) = TriesSame step next.step

-- where a load of a pair follows on another, that failed; and a try that follows on a failed one tries the same. Before
-- the records a task waits for this half, or for none
abbrev pub FailsAgain : Option (Halves → ℕ) → List Record → Type 0
FailsAgain half [] = Unit {0}
FailsAgain half (first ∷ later) =
    (LoadsPair first.step → LoadsNext later → is_failed half first.step first.answer ≡ true)
    × (is_failed half first.step first.answer ≡ true → TriesNext later → SameNext first.step later)
    × FailsAgain (awaited half first.step) later

-- the same, whatever a task waits for before them
abbrev pub FailedWait : List Record → Type 0
FailedWait records = (half : Option (Halves → ℕ)) → FailsAgain half records

-- and they begin with no try
abbrev pub Both : List Record → Type 0
Both records = FailedWait records × (TriesNext records → ⊥)

loads_next : (records : List Record) → LoadsNext records → TriesNext records
loads_next [] h = h
loads_next (first ∷ later) h = loads first.step h
  where
    loads : (step : Step) → LoadsPair step → Tries step
    loads (Load at) h = absurd h
    loads (Insert at word) h = absurd h
    loads (TryConsume at word) h = absurd h
    loads (Consume at) h = absurd h
    loads (Remove at) h = absurd h
    loads (PairLoad at) h = tt
    loads (Name at ticket) h = absurd h
    loads (Tell at ticket) h = absurd h
    loads (Clear at) h = absurd h
    loads (CellLoad cell) h = absurd h
    loads (CellExchange cell seen new) h = absurd h
    loads (LockTry lock task) h = absurd h
    loads (LockStore lock) h = absurd h
    loads Clock h = absurd h

-- a step that loads no pair settles what is waited for
settled : (step : Step) (half : Option (Halves → ℕ)) → (LoadsPair step → ⊥) → awaited half step ≡ awaited None step
settled (Load at) half none = refl
settled (Insert at word) half none = refl
settled (TryConsume at word) half none = refl
settled (Consume at) half none = refl
settled (Remove at) half none = refl
settled (PairLoad at) half none = absurd (none tt)
settled (Name at ticket) half none = refl
settled (Tell at ticket) half none = refl
settled (Clear at) half none = refl
settled (CellLoad cell) half none = refl
settled (CellExchange cell seen new) half none = refl
settled (LockTry lock task) half none = refl
settled (LockStore lock) half none = refl
settled Clock half none = refl

-- a step that is no try loads no pair, and whatever follows on it may follow
no_try : (step : Step) (later : List Record) → (Tries step → ⊥) → (LoadsPair step → ⊥) × SameNext step later
no_try (Load at) [] none = (λ h. h, tt)
no_try (Insert at word) [] none = (λ h. h, tt)
no_try (TryConsume at word) [] none = (λ h. h, tt)
no_try (Consume at) [] none = (λ h. h, tt)
no_try (Remove at) [] none = (λ h. h, tt)
no_try (PairLoad at) later none = absurd (none tt)
no_try (Name at ticket) [] none = (λ h. h, tt)
no_try (Tell at ticket) [] none = (λ h. h, tt)
no_try (Clear at) [] none = (λ h. h, tt)
no_try (CellLoad cell) [] none = (λ h. h, tt)
no_try (CellExchange cell seen new) later none = absurd (none tt)
no_try (LockTry lock task) later none = absurd (none tt)
no_try (LockStore lock) [] none = (λ h. h, tt)
no_try Clock [] none = (λ h. h, tt)
no_try (Load at) (next ∷ later) none = (λ h. h, tt)
no_try (Insert at word) (next ∷ later) none = (λ h. h, tt)
no_try (TryConsume at word) (next ∷ later) none = (λ h. h, tt)
no_try (Consume at) (next ∷ later) none = (λ h. h, tt)
no_try (Remove at) (next ∷ later) none = (λ h. h, tt)
no_try (Name at ticket) (next ∷ later) none = (λ h. h, tt)
no_try (Tell at ticket) (next ∷ later) none = (λ h. h, tt)
no_try (Clear at) (next ∷ later) none = (λ h. h, tt)
no_try (CellLoad cell) (next ∷ later) none = (λ h. h, tt)
no_try (LockStore lock) (next ∷ later) none = (λ h. h, tt)
no_try Clock (next ∷ later) none = (λ h. h, tt)

-- a step that loads no pair, before what tries the same where it failed
step_failed_wait : (first : Record) (later : List Record) (step : Step) → first.step ≡ step → (LoadsPair step → ⊥)
    → ((half : Option (Halves → ℕ)) → is_failed half step first.answer ≡ true → TriesNext later → SameNext step later)
    → FailsAgain (awaited None step) later → FailedWait (first ∷ later)
step_failed_wait first later step is none same so = λ half.
    let loads : LoadsPair first.step → ⊥ = subst (λ (x : Step). LoadsPair x → ⊥) (sym is) none in (
      λ now. absurd (loads now),
      subst (λ (x : Step). is_failed half x first.answer ≡ true → TriesNext later → SameNext x later) (sym is) (same half),
      subst (λ (h : Option (Halves → ℕ)). FailsAgain h later)
          (ap (λ (x : Step). awaited None x) (sym is) ∙ sym (settled first.step half loads)) so,
    )

one_step : (first : Record) (later : List Record) (step : Step) → first.step ≡ step → (Tries step → ⊥) → FailsAgain (awaited None step) later → Both (first ∷ later)
one_step first later step is none so =
    let plain = no_try step later none in (
      step_failed_wait first later step is plain.0 (λ half failed next. plain.1) so,
      subst (λ (x : Step). Tries x → ⊥) (sym is) none,
    )

-- a try that is no load of a pair
pub try_step : (first : Record) (later : List Record) (step : Step) → first.step ≡ step → (LoadsPair step → ⊥)
    → ((half : Option (Halves → ℕ)) → is_failed half step first.answer ≡ true → TriesNext later → SameNext step later) → FailedWait later → FailedWait (first ∷ later)
try_step first later step is none same so = step_failed_wait first later step is none same (so (awaited None step))

pub by_word : (task : ℕ) (step : Step) (Next : ℕ → List Record → Type 0) (records : List Record) → (Tries step → ⊥) → MakesWord task step Next records
    → ((word : ℕ) (later : List Record) → Next word later → FailedWait later) → Both records
by_word task step Next [] none h on = absurd h
by_word task step Next (first ∷ later) none h on =
    let got = on_word first.answer (λ w. Next w later) h.2 in one_step first later step h.1 none (on got.0 later got.2 (awaited None step))

by_flag : (task : ℕ) (step : Step) (Next : Bool → List Record → Type 0) (records : List Record) → (Tries step → ⊥) → MakesFlag task step Next records
    → ((flag : Bool) (later : List Record) → Next flag later → FailsAgain (awaited None step) later) → Both records
by_flag task step Next [] none h on = absurd h
by_flag task step Next (first ∷ later) none h on =
    let got = on_flag first.answer (λ b. Next b later) h.2 in one_step first later step h.1 none (on got.0 later got.2)

pub by_done : (task : ℕ) (step : Step) (Next : List Record → Type 0) (records : List Record) → (Tries step → ⊥) → MakesDone task step Next records
    → ((later : List Record) → Next later → FailedWait later) → Both records
by_done task step Next [] none h on = absurd h
by_done task step Next (first ∷ later) none h on = one_step first later step h.1 none (on later h.2.1 (awaited None step))

pub as_rest : (records rest : List Record) → rest ≡ records → FailedWait rest → FailedWait records
as_rest records rest same so = subst FailedWait same so

pick : (b : Bool) (Yes No Goal : Type 0) → MatchBool b Yes No → (Yes → Goal) → (No → Goal) → Goal
pick true Yes No Goal h at_true at_false = at_true h
pick false Yes No Goal h at_true at_false = at_false h

hears_first : (half : Halves → ℕ) (task index : ℕ) (records : List Record) (both : Halves) (rest : List Record) → Hears half task index records both rest
    → SameNext (PairLoad index) records
hears_first half task index [] both rest h = tt
hears_first half task index (first ∷ later) both rest h = h.1

hears : (half : Halves → ℕ) (task index : ℕ) (records : List Record) (both : Halves) (rest : List Record) → Hears half task index records both rest → Both rest
    → FailsAgain (Some half) records
hears half task index [] both rest h so = absurd h
hears half task index (first ∷ later) both rest h so =
    let got = on_halves first.answer _ h.2 in
    let Goal : List Record → Type 0 = λ r. (LoadsNext r → is_empty (half got.0) ≡ true) × (TriesNext r → SameNext (PairLoad index) r) × FailsAgain (Some half) r in
    let next : Goal later = elim got.2 [
      | inl over ↦ subst Goal over.2 (λ loads. absurd (so.1 (loads_next rest loads)), λ tries. absurd (so.1 tries), so.0 (Some half))
      | inr again ↦ (λ loads. ap is_empty again.0, λ tries. hears_first half task index later both rest again.1, hears half task index later both rest again.1 so)
    ] in
    let failed : is_failed (Some half) first.step first.answer ≡ is_empty (half got.0) =
    ap (λ (x : Step). is_failed (Some half) x first.answer) h.1 ∙ ap (λ (x : Answer). is_unheard (Some half) x) got.1 in (
      λ one loads. failed ∙ next.0 loads,
      λ one tries. subst (λ (x : Step). SameNext x later) (sym h.1) (next.1 tries),
      subst (λ (x : Step). FailsAgain (awaited (Some half) x) later) (sym h.1) next.2,
    )

looks_up : (s : Setting) (a : Access) (indices : List ℕ) (records : List Record) (found : Option Watchpoint) (rest : List Record)
    → LooksUp s a indices records found rest → FailedWait rest → FailedWait records
looks_up s a [] records found rest h so = as_rest records rest h.1 so
looks_up s a (index ∷ indices) records found rest h so =
    (by_word s.task (Load index) _ records (λ none. none) h (λ word later got. elim got [
      | inl hit ↦ as_rest later rest hit.2 so
      | inr more ↦ looks_up s a indices later found rest more.1 so
    ])).0

takes : (s : Setting) (a : Access) (found : Watchpoint) (records : List Record) (outcome : Outcome) (rest : List Record) → Takes s a found records outcome rest
    → FailedWait rest → FailedWait records
takes s a found records outcome rest h so =
    (by_flag s.task (TryConsume found.index found.word) _ records (λ none. none) h (λ taken later got.
    pick taken _ _ (FailsAgain (Some setter_half) later) got
    (λ tells.
    let told = by_done s.task (Tell found.index (ticket_number a)) _ tells.1 (λ none. none) tells.3 (λ after over. as_rest after rest over.1 so) in
    hears setter_half s.task found.index later tells.0 tells.1 tells.2 told)
    (λ lost. as_rest later rest lost.1 so (Some setter_half)))).0

found_watchpoint : (s : Setting) (a : Access) (mask : Option ℕ) (found : Watchpoint) (records : List Record) (outcome : Outcome) (rest : List Record) (Nothing : ℕ → Type 0)
    → MatchOption mask (Takes s a found records outcome rest) (λ mask. Nothing mask × (rest ≡ records)) → FailedWait rest → FailedWait records
found_watchpoint s a None found records outcome rest Nothing h so = takes s a found records outcome rest h so
found_watchpoint s a (Some mask) found records outcome rest Nothing h so = as_rest records rest h.1 so

inserts : (task word : ℕ) (indices : List ℕ) (records : List Record) (place : Option ℕ) (rest : List Record) → TriesInsert task word indices records place rest
    → FailedWait rest → FailedWait records
inserts task word [] records place rest h so = as_rest records rest h.1 so
inserts task word (index ∷ indices) records place rest h so =
    (by_flag task (Insert index word) _ records (λ none. none) h (λ accepted later got.
    pick accepted _ _ (FailsAgain None later) got (λ over. as_rest later rest over.1 so None) (λ more. inserts task word indices later place rest more so None))).0

loads : (s : Setting) (a : Access) (source : Option Source) (records : List Record) (value : Option ℕ) (rest : List Record) → LoadsFrom s a source records value rest
    → FailedWait rest → FailedWait records
loads s a None records value rest h so = as_rest records rest h.1 so
loads s a (Some source) records value rest h so =
    (by_word s.task (CellLoad source.cell) _ records (λ none. none) h (λ word later got. as_rest later rest got.1 so)).0

judges : (s : Setting) (a : Access) (index : ℕ) (values : Option (ℕ × ℕ)) (records : List Record) (outcome : Outcome) (rest : List Record)
    → Judges s a index values records outcome rest → Both rest → FailedWait records
judges s a index values records outcome rest h so =
    (by_flag s.task (Consume index) _ records (λ none. none) h (λ untouched later got.
    pick untouched _ _ (FailsAgain (Some finder_half) later) got (λ over. as_rest later rest over.1 so.0 (Some finder_half))
    (λ hit. hears finder_half s.task index later hit.0 rest hit.1 so))).0

arms : (s : Setting) (a : Access) (index : ℕ) (records : List Record) (outcome : Outcome) (rest : List Record) → Arms s a index records outcome rest → Both rest
    → FailedWait records
arms s a index records outcome rest h so =
    (by_done s.task (Name index (ticket_number a)) _ records (λ none. none) h (λ later watches.
    loads s a (source_of s a) later watches.0 watches.2 watches.4
    (loads s a (source_of s a) watches.2 watches.1 watches.3 watches.5
    (judges s a index (both_values watches.0 watches.1) watches.3 outcome rest watches.6 so)))).0

-- what follows on a watch begins with no load of a pair
abbrev AfterWatch : Option Judged → List Record → Type 0
AfterWatch None later = FailedWait later
AfterWatch (Some judged) later = Both later

watches_at : (s : Setting) (a : Access) (place : Option ℕ) (records : List Record) (judged : Option Judged) (rest : List Record)
    → WatchesAt s a place records judged rest → AfterWatch judged rest → FailedWait records
watches_at s a None records judged rest h so =
    as_rest records rest h.1 (subst (λ (j : Option Judged). AfterWatch j rest) h.0 so)
watches_at s a (Some index) records judged rest h so =
    arms s a index records h.0 rest h.1 (subst (λ (j : Option Judged). AfterWatch j rest) h.2 so)

ends : (s : Setting) (asked : ℕ) (judged : Option Judged) (records : List Record) (pass : Pass) (rest : List Record) → Ends s asked judged records pass rest
    → FailedWait rest → AfterWatch judged records
ends s asked None records pass rest h so = as_rest records rest h.1 so
ends s asked (Some judged) records pass rest h so =
    by_done s.task (Clear judged.index) _ records (λ none. none) h.1
    (λ later removes. (by_done s.task (Remove judged.index) _ later (λ none. none) removes (λ after over. as_rest after rest over so)).0)

none_found : (s : Setting) (a : Access) (marked : Bool) (asked : ℕ) (records : List Record) (pass : Pass) (rest : List Record)
    → NoneFound s a marked asked records pass rest → FailedWait rest → FailedWait records
none_found s a marked asked records pass rest (counts_as_marked is pass_is over) so = as_rest records rest over so
none_found s a marked asked records pass rest (skipped is unwatched pass_is over) so = as_rest records rest over so
none_found s a marked asked records pass rest (unencodable is is_watched no_word pass_is over) so = as_rest records rest over so
none_found s a marked asked records pass rest (watched judged later is is_watched encodable setup after) so =
    inserts s.task _ (try_order (slot_of s a)) records setup.0 setup.1 setup.2
    (watches_at s a setup.0 setup.1 judged later setup.3 (ends s _ judged later pass rest after so))

goes_on : (s : Setting) (a : Access) (marked : Bool) (asked : ℕ) (found : Option Watchpoint) (records : List Record) (pass : Pass) (rest : List Record)
    → GoesOn s a marked asked found records pass rest → FailedWait rest → FailedWait records
goes_on s a marked asked None records pass rest h so = none_found s a marked asked records pass rest h so
goes_on s a marked asked (Some found) records pass rest h so = found_watchpoint s a a.mask found records pass.outcome rest _ h.3 so

once : (s : Setting) (a : Access) (marked : Bool) (asked : ℕ) (records : List Record) (pass : Pass) (rest : List Record) → ChecksOnce s a marked asked records pass rest
    → FailedWait rest → FailedWait records
once s a marked asked records pass rest h so =
    looks_up s a (look_order (slot_of s a)) records h.0 h.1 h.2 (goes_on s a marked asked h.0 h.1 pass rest h.3 so)

rechecks : (s : Setting) (scopes : List Begun) (asked : ℕ) (records : List Record) (passes : Passes) (rest : List Record)
    → Rechecks s scopes asked records passes rest → FailedWait rest → FailedWait records
rechecks s [] asked records passes rest h so = as_rest records rest h.1 so
rechecks s (scope ∷ scopes) asked records passes rest h so =
    pick scope.silenced _ _ (FailedWait records) h
    (λ skips. rechecks s scopes asked records passes rest skips so)
    (λ now. once s scope.access scope.marked asked records now.0 now.1 now.3 (rechecks s scopes now.0.asked now.1 _ rest now.4 so))

pub check_failed_wait : (s : Setting) (scopes : List Begun) (begun : Begun) (asked : ℕ) (records : List Record) (passes : Passes) (rest : List Record)
    → Check s scopes begun asked records passes rest → FailedWait rest → FailedWait records
check_failed_wait s scopes begun asked records passes rest h so =
    (by_word s.task Clock _ records (λ none. none) h.2 (λ stamp later got.
    pick begun.silenced _ _ (FailedWait later) got
    (λ quiet. as_rest later rest quiet.1 so)
    (λ now. once s begun.access begun.marked asked later now.0 now.1 now.3
    (rechecks s (left_to_check now.0.settled scopes) now.0.asked now.1 _ rest now.4 so)))).0

pub close_failed_wait : (s : Setting) (scope : Begun) (silenced : Bool) (asked : ℕ) (records : List Record) (passes : Passes) (rest : List Record)
    → Close s scope silenced asked records passes rest → FailedWait rest → FailedWait records
close_failed_wait s scope silenced asked records passes rest h so =
    rechecks s ((record scope { silenced = scope.silenced || silenced }) ∷ []) asked records passes h.1.0 h.1.1
    (by_word s.task Clock _ h.1.0 (λ none. none) h.1.2 (λ stamp after over. as_rest after rest over so)).0
