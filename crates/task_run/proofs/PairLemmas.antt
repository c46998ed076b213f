-- In a check, loads of pairs one after the other are of one index.
use Rattle.std.proofs.Common.{◌≡◌, ◌||◌, ◌∷◌, [], ℕ, Bool, true, false, List, MatchBool, MatchOption, None, Option, Some, inl, inr, refl, subst, sym}
use Rattle.access_types.specs.Access.{Access}
use Rattle.access_types.specs.Ticket.{ticket_number}
use Rattle.setup_access.proofs.DisciplineLemmas.{on_flag, on_halves, on_word}
use Rattle.setup_access.specs.Check.{Check, Close, ChecksOnce, Ends, GoesOn, NoneFound, Pass, Passes, Rechecks, counts_as_marked, left_to_check, skipped, unencodable, watched}
use Rattle.setup_access.specs.Find.{LooksUp}
use Rattle.setup_access.specs.Found.{Hears, Takes}
use Rattle.setup_access.specs.Records.{MakesDone, MakesFlag, MakesWord}
use Rattle.setup_access.specs.Setting.{Setting, look_order, slot_of, try_order}
use Rattle.setup_access.specs.Setup.{Arms, Judged, Judges, TriesInsert, WatchesAt}
use Rattle.setup_access.specs.Values.{LoadsFrom, both_values, source_of}
use Rattle.setup_access.specs.declared.begun.Begun.{Begun}
use Rattle.setup_access.specs.declared.outcome.Outcome.{Outcome}
use Rattle.setup_access.specs.declared.outcome.Watchpoint.{Watchpoint}
use Rattle.setup_access.specs.declared.source.Source.{Source}
use Rattle.slot.specs.Pair.{Halves}
use Rattle.slot_table.specs.declared.records.Record.{Record}
use Rattle.slot_table.specs.declared.step.Step.{Step}
use Rattle.slot_table.specs.declared.step.Step.TheVariants.{CellExchange, CellLoad, Clear, Clock, Consume, Insert, Load, LockStore, LockTry, Name, PairLoad, Remove, Tell, TryConsume}

abbrev IsNoPair : Step → Type 0
IsNoPair (PairLoad index) = ⊥
IsNoPair step = Unit {0}

-- a load of a pair is of this index
abbrev pub IsOfIndex : ℕ → Step → Type 0
IsOfIndex index (PairLoad at) = at ≡ index
IsOfIndex index step = Unit {0}

abbrev pub StartsAt : ℕ → List Record → Type 0
StartsAt index [] = Unit {0}
StartsAt index (first ∷ later) = IsOfIndex index first.step

abbrev pub GoesOnAt : Step → List Record → Type 0
GoesOnAt (PairLoad index) later = StartsAt index later
GoesOnAt step later = Unit {0}

-- where one load of a pair follows on another it is of the same index
abbrev pub AreOfOne : List Record → Type 0
AreOfOne [] = Unit {0}
AreOfOne (first ∷ later) = GoesOnAt first.step later × AreOfOne later

abbrev StartsWithNone : List Record → Type 0
StartsWithNone [] = Unit {0}
StartsWithNone (first ∷ later) = IsNoPair first.step

of_any : (index : ℕ) (step : Step) → IsNoPair step → IsOfIndex index step
of_any index (Load at) ok = tt
of_any index (Insert at word) ok = tt
of_any index (TryConsume at word) ok = tt
of_any index (Consume at) ok = tt
of_any index (Remove at) ok = tt
of_any index (PairLoad at) ok = absurd ok
of_any index (Name at ticket) ok = tt
of_any index (Tell at ticket) ok = tt
of_any index (Clear at) ok = tt
of_any index (CellLoad cell) ok = tt
of_any index (CellExchange cell seen new) ok = tt
of_any index (LockTry lock task) ok = tt
of_any index (LockStore lock) ok = tt
of_any index Clock ok = tt

goes_any : (step : Step) (later : List Record) → IsNoPair step → GoesOnAt step later
goes_any (Load at) later ok = tt
goes_any (Insert at word) later ok = tt
goes_any (TryConsume at word) later ok = tt
goes_any (Consume at) later ok = tt
goes_any (Remove at) later ok = tt
goes_any (PairLoad at) later ok = absurd ok
goes_any (Name at ticket) later ok = tt
goes_any (Tell at ticket) later ok = tt
goes_any (Clear at) later ok = tt
goes_any (CellLoad cell) later ok = tt
goes_any (CellExchange cell seen new) later ok = tt
goes_any (LockTry lock task) later ok = tt
goes_any (LockStore lock) later ok = tt
goes_any Clock later ok = tt

starts_any : (index : ℕ) (records : List Record) → StartsWithNone records → StartsAt index records
starts_any index [] ok = tt
starts_any index (first ∷ later) ok = of_any index first.step ok

-- a step that loads no pair, before what is so
abbrev Both : List Record → Type 0
Both records = AreOfOne records × StartsWithNone records

one_step : (first : Record) (later : List Record) (step : Step) → first.step ≡ step → IsNoPair step → AreOfOne later → Both (first ∷ later)
one_step first later step is ok so = (
  (subst (λ (x : Step). GoesOnAt x later) (sym is) (goes_any step later ok), so),
  subst IsNoPair (sym is) ok,
)

by_word : (task : ℕ) (step : Step) (Next : ℕ → List Record → Type 0) (records : List Record) → IsNoPair step → MakesWord task step Next records
    → ((word : ℕ) (later : List Record) → Next word later → AreOfOne later) → Both records
by_word task step Next [] ok h on = absurd h
by_word task step Next (first ∷ later) ok h on =
    let got = on_word first.answer (λ w. Next w later) h.2 in one_step first later step h.1 ok (on got.0 later got.2)

by_flag : (task : ℕ) (step : Step) (Next : Bool → List Record → Type 0) (records : List Record) → IsNoPair step → MakesFlag task step Next records
    → ((flag : Bool) (later : List Record) → Next flag later → AreOfOne later) → Both records
by_flag task step Next [] ok h on = absurd h
by_flag task step Next (first ∷ later) ok h on =
    let got = on_flag first.answer (λ b. Next b later) h.2 in one_step first later step h.1 ok (on got.0 later got.2)

by_done : (task : ℕ) (step : Step) (Next : List Record → Type 0) (records : List Record) → IsNoPair step → MakesDone task step Next records
    → ((later : List Record) → Next later → AreOfOne later) → Both records
by_done task step Next [] ok h on = absurd h
by_done task step Next (first ∷ later) ok h on = one_step first later step h.1 ok (on later h.2.1)

as_rest : (records rest : List Record) → rest ≡ records → AreOfOne rest → AreOfOne records
as_rest records rest same so = subst AreOfOne same so

pick : (b : Bool) (Yes No Goal : Type 0) → MatchBool b Yes No → (Yes → Goal) → (No → Goal) → Goal
pick true Yes No Goal h at_true at_false = at_true h
pick false Yes No Goal h at_true at_false = at_false h

hears : (half : Halves → ℕ) (task index : ℕ) (records : List Record) (both : Halves) (rest : List Record) → Hears half task index records both rest → Both rest
    → AreOfOne records × StartsAt index records
hears half task index [] both rest h so = absurd h
hears half task index (first ∷ later) both rest h so =
    let got = on_halves first.answer _ h.2 in
    let Goal : Type 0 = AreOfOne later × StartsAt index later in
    let next : Goal = elim got.2 [
      | inl over ↦ subst (λ (r : List Record). AreOfOne r × StartsAt index r) over.2 (so.0, starts_any index rest so.1)
      | inr again ↦ hears half task index later both rest again.1 so
    ] in (
      (subst (λ (x : Step). GoesOnAt x later) (sym h.1) next.1, next.0),
      subst (λ (x : Step). IsOfIndex index x) (sym h.1) refl,
    )

looks_up : (s : Setting) (a : Access) (indices : List ℕ) (records : List Record) (found : Option Watchpoint) (rest : List Record)
    → LooksUp s a indices records found rest → AreOfOne rest → AreOfOne records
looks_up s a [] records found rest h so = as_rest records rest h.1 so
looks_up s a (index ∷ indices) records found rest h so =
    (by_word s.task (Load index) _ records tt h (λ word later got. elim got [
      | inl hit ↦ as_rest later rest hit.2 so
      | inr more ↦ looks_up s a indices later found rest more.1 so
    ])).0

takes : (s : Setting) (a : Access) (found : Watchpoint) (records : List Record) (outcome : Outcome) (rest : List Record) → Takes s a found records outcome rest
    → AreOfOne rest → AreOfOne records
takes s a found records outcome rest h so =
    (by_flag s.task (TryConsume found.index found.word) _ records tt h (λ taken later got.
    pick taken _ _ (AreOfOne later) got
    (λ tells.
    let told = by_done s.task (Tell found.index (ticket_number a)) _ tells.1 tt tells.3 (λ after over. as_rest after rest over.1 so) in
    (hears _ s.task found.index later tells.0 tells.1 tells.2 told).0)
    (λ lost. as_rest later rest lost.1 so))).0

found_watchpoint : (s : Setting) (a : Access) (mask : Option ℕ) (found : Watchpoint) (records : List Record) (outcome : Outcome) (rest : List Record) (Nothing : ℕ → Type 0)
    → MatchOption mask (Takes s a found records outcome rest) (λ mask. Nothing mask × (rest ≡ records)) → AreOfOne rest → AreOfOne records
found_watchpoint s a None found records outcome rest Nothing h so = takes s a found records outcome rest h so
found_watchpoint s a (Some mask) found records outcome rest Nothing h so = as_rest records rest h.1 so

inserts : (task word : ℕ) (indices : List ℕ) (records : List Record) (place : Option ℕ) (rest : List Record) → TriesInsert task word indices records place rest
    → AreOfOne rest → AreOfOne records
inserts task word [] records place rest h so = as_rest records rest h.1 so
inserts task word (index ∷ indices) records place rest h so =
    (by_flag task (Insert index word) _ records tt h (λ accepted later got.
    pick accepted _ _ (AreOfOne later) got (λ over. as_rest later rest over.1 so) (λ more. inserts task word indices later place rest more so))).0

loads : (s : Setting) (a : Access) (source : Option Source) (records : List Record) (value : Option ℕ) (rest : List Record) → LoadsFrom s a source records value rest
    → AreOfOne rest → AreOfOne records
loads s a None records value rest h so = as_rest records rest h.1 so
loads s a (Some source) records value rest h so =
    (by_word s.task (CellLoad source.cell) _ records tt h (λ word later got. as_rest later rest got.1 so)).0

judges : (s : Setting) (a : Access) (index : ℕ) (values : Option (ℕ × ℕ)) (records : List Record) (outcome : Outcome) (rest : List Record)
    → Judges s a index values records outcome rest → Both rest → AreOfOne records
judges s a index values records outcome rest h so =
    (by_flag s.task (Consume index) _ records tt h (λ untouched later got.
    pick untouched _ _ (AreOfOne later) got (λ over. as_rest later rest over.1 so.0)
    (λ hit. (hears _ s.task index later hit.0 rest hit.1 so).0))).0

arms : (s : Setting) (a : Access) (index : ℕ) (records : List Record) (outcome : Outcome) (rest : List Record) → Arms s a index records outcome rest → Both rest
    → AreOfOne records
arms s a index records outcome rest h so =
    (by_done s.task (Name index (ticket_number a)) _ records tt h (λ later watches.
    loads s a (source_of s a) later watches.0 watches.2 watches.4
    (loads s a (source_of s a) watches.2 watches.1 watches.3 watches.5
    (judges s a index (both_values watches.0 watches.1) watches.3 outcome rest watches.6 so)))).0

-- what follows on a watch begins with no load of a pair
abbrev AfterWatch : Option Judged → List Record → Type 0
AfterWatch None later = AreOfOne later
AfterWatch (Some judged) later = Both later

watches_at : (s : Setting) (a : Access) (place : Option ℕ) (records : List Record) (judged : Option Judged) (rest : List Record)
    → WatchesAt s a place records judged rest → AfterWatch judged rest → AreOfOne records
watches_at s a None records judged rest h so =
    as_rest records rest h.1 (subst (λ (j : Option Judged). AfterWatch j rest) h.0 so)
watches_at s a (Some index) records judged rest h so =
    arms s a index records h.0 rest h.1 (subst (λ (j : Option Judged). AfterWatch j rest) h.2 so)

ends : (s : Setting) (asked : ℕ) (judged : Option Judged) (records : List Record) (pass : Pass) (rest : List Record) → Ends s asked judged records pass rest
    → AreOfOne rest → AfterWatch judged records
ends s asked None records pass rest h so = as_rest records rest h.1 so
ends s asked (Some judged) records pass rest h so =
    by_done s.task (Clear judged.index) _ records tt h.1
    (λ later removes. (by_done s.task (Remove judged.index) _ later tt removes (λ after over. as_rest after rest over so)).0)

none_found : (s : Setting) (a : Access) (marked : Bool) (asked : ℕ) (records : List Record) (pass : Pass) (rest : List Record)
    → NoneFound s a marked asked records pass rest → AreOfOne rest → AreOfOne records
none_found s a marked asked records pass rest (counts_as_marked is pass_is over) so = as_rest records rest over so
none_found s a marked asked records pass rest (skipped is unwatched pass_is over) so = as_rest records rest over so
none_found s a marked asked records pass rest (unencodable is is_watched no_word pass_is over) so = as_rest records rest over so
none_found s a marked asked records pass rest (watched judged later is is_watched encodable setup after) so =
    inserts s.task _ (try_order (slot_of s a)) records setup.0 setup.1 setup.2
    (watches_at s a setup.0 setup.1 judged later setup.3 (ends s _ judged later pass rest after so))

goes_on : (s : Setting) (a : Access) (marked : Bool) (asked : ℕ) (found : Option Watchpoint) (records : List Record) (pass : Pass) (rest : List Record)
    → GoesOn s a marked asked found records pass rest → AreOfOne rest → AreOfOne records
goes_on s a marked asked None records pass rest h so = none_found s a marked asked records pass rest h so
goes_on s a marked asked (Some found) records pass rest h so = found_watchpoint s a a.mask found records pass.outcome rest _ h.3 so

once : (s : Setting) (a : Access) (marked : Bool) (asked : ℕ) (records : List Record) (pass : Pass) (rest : List Record) → ChecksOnce s a marked asked records pass rest
    → AreOfOne rest → AreOfOne records
once s a marked asked records pass rest h so =
    looks_up s a (look_order (slot_of s a)) records h.0 h.1 h.2 (goes_on s a marked asked h.0 h.1 pass rest h.3 so)

rechecks : (s : Setting) (scopes : List Begun) (asked : ℕ) (records : List Record) (passes : Passes) (rest : List Record)
    → Rechecks s scopes asked records passes rest → AreOfOne rest → AreOfOne records
rechecks s [] asked records passes rest h so = as_rest records rest h.1 so
rechecks s (scope ∷ scopes) asked records passes rest h so =
    pick scope.silenced _ _ (AreOfOne records) h
    (λ skips. rechecks s scopes asked records passes rest skips so)
    (λ now. once s scope.access scope.marked asked records now.0 now.1 now.3 (rechecks s scopes now.0.asked now.1 _ rest now.4 so))

pub check_of_one : (s : Setting) (scopes : List Begun) (begun : Begun) (asked : ℕ) (records : List Record) (passes : Passes) (rest : List Record)
    → Check s scopes begun asked records passes rest → AreOfOne rest → AreOfOne records
check_of_one s scopes begun asked records passes rest h so =
    (by_word s.task Clock _ records tt h.2 (λ stamp later got.
    pick begun.silenced _ _ (AreOfOne later) got
    (λ quiet. as_rest later rest quiet.1 so)
    (λ now. once s begun.access begun.marked asked later now.0 now.1 now.3
    (rechecks s (left_to_check now.0.settled scopes) now.0.asked now.1 _ rest now.4 so)))).0

pub close_of_one : (s : Setting) (scope : Begun) (silenced : Bool) (asked : ℕ) (records : List Record) (passes : Passes) (rest : List Record)
    → Close s scope silenced asked records passes rest → AreOfOne rest → AreOfOne records
close_of_one s scope silenced asked records passes rest h so =
    rechecks s ((record scope { silenced = scope.silenced || silenced }) ∷ []) asked records passes h.1.0 h.1.1
    (by_word s.task Clock _ h.1.0 tt h.1.2 (λ stamp after over. as_rest after rest over so)).0
