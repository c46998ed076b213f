-- A new seat keeps the rule, and so does a seat that takes in what another holds. At the end the
-- list of the rule has all that the seats hold.
use Rattle.atomic_table.specs.Table.{State}
use Rattle.std.proofs.Common.{◌≡◌, ◌≢◌, ⊎_elim, ℕ, ◌<◌, cond, eqb, Option, Some, None, is_some, true, false}
use Rattle.std.proofs.Common.{List, [], ◌∷◌, ◌++◌, All, length, map, set, get_or, refl, sym, ap, ◌∙◌, subst, lt_of_not-le, arith, zero, suc}
use Rattle.std.proofs.Math.ListN.{get_or-map}
use Rattle.std.proofs.lemmas.Bool.{false≢true}
use Rattle.std.proofs.lemmas.Bool.Decides.{eqb_tells}
use Rattle.std.proofs.lemmas.List.{length-map}
use Rattle.std.proofs.lemmas.List.Elements.{All-append, All-contains, All-nil, All-weaker}
use mathlib.Core.Logic.{dite}
use native.Mathlib.Decide.{dec_le}
use mathlib.Core.Option.{some, some-injective, some-ne-none}
use lib.ListN.{get_elem?}
use Rattle.atomic_table.proofs.Lists.{at_set, set_else}
use Rattle.slot_table.specs.Discipline.{AllAreFinished, IsFinished, in_hand}
use Rattle.slot_table.specs.Records.{records_of}
use Rattle.slot_table.specs.Words.{Words}
use Rattle.slot_table.specs.declared.records.Record.{Record}
use Rattle.shared_table.specs.Ended.{HasSeat, IsListOf, held_by}
use Rattle.shared_table.specs.Given.{Given}
use Rattle.shared_table.specs.Row.{cells_from, section}
use Rattle.shared_table.specs.RunningWords.{IsHeld, IsHeldByNobody, RunningWords}
use Rattle.shared_table.specs.Seats.{Sitting}
use Rattle.shared_table.specs.Views.{nothing_held, with_both}
use Rattle.shared_table.specs.declared.view.Held.{Held}
use Rattle.shared_table.specs.declared.view.View.{View}
use Rattle.shared_table.proofs.Dealing.{at_longer}
use Rattle.shared_table.proofs.Nobody.{All-left, All-right, before_change, before_new, set_over}

module _ (given : Given) (row : List ℕ) (views : List View) (now : RunningWords given row views) where
  -- a seat that holds nothing sits down
  pub entered : (opening : Given) → RunningWords given row (views ++ record { opening = opening; held = [] } ∷ [])
  entered opening = record {
    records = now.records;
    legal = now.legal;
    counts = now.counts;
    stand = now.stand;
    seat_of = now.seat_of;
    held = λ seat view is.
        let P : View → Type 0 = λ v. All (IsHeld given now.records now.seat_of seat v) v.held in
        let new : View = record { opening = opening; held = [] } in
        ⊎_elim (λ there. now.held seat view there) (λ last. subst P last.1 (All-nil (IsHeld given now.records now.seat_of seat new)))
        (at_longer views new view seat is);
    nobody = λ task nobody. now.nobody task (before_new views (record { opening = opening; held = [] }) task nobody);
    others = now.others;
  }

  -- a seat takes in what another holds
  module _ (id other : ℕ) (mine theirs : View) (knows : mine.opening ≡ given) (at : get_elem? views id ≡ some mine)
      (apart : ¬ (other ≡ id)) (beside : get_elem? (set views id (with_both mine theirs)) other ≡ some theirs) where
    abbrev both : View
    both = with_both mine theirs

    abbrev seat_of : ℕ → ℕ
    seat_of task = cond (eqb (now.seat_of task) other) id (now.seat_of task)

    abbrev Was : ℕ → View → Held → Type 0
    Was = IsHeld given now.records now.seat_of

    abbrev Is : ℕ → View → Held → Type 0
    Is = IsHeld given now.records seat_of

    there : get_elem? views other ≡ some theirs
    there = sym (set_else views id other both apart) ∙ beside

    stays : (task seat : ℕ) → now.seat_of task ≡ seat → seat ≢ other → seat_of task ≡ seat
    stays task seat is away =
        ⊎_elim (λ same. absurd (away (sym is ∙ same.1))) (λ else. rw else.0 is) (eqb_tells (now.seat_of task) other)

    moves : (task : ℕ) → now.seat_of task ≡ other → seat_of task ≡ id
    moves task is =
        ⊎_elim (λ same. rw same.0 refl) (λ else. absurd (else.1 is)) (eqb_tells (now.seat_of task) other)

    of_mine : All (Is id both) mine.held
    of_mine =
        All-weaker (Was id mine) (Is id both)
        (λ held was. record { knows = knows; only = stays held.task id was.only (λ same. apart (sym same)); all = was.all })
        mine.held (now.held id mine at)

    of_theirs : All (Is id both) theirs.held
    of_theirs =
        All-weaker (Was other theirs) (Is id both)
        (λ held was. record { knows = knows; only = moves held.task was.only; all = was.all })
        theirs.held (now.held other theirs there)

    held_after : (seat : ℕ) (view : View) → get_elem? (set (set views id both) other nothing_held) seat ≡ some view → All (Is seat view) view.held
    held_after seat view is =
        let P : ℕ × View → Type 0 = λ p. All (Is p.0 p.1) p.1.held in
        ⊎_elim
        (λ spent. subst P (λ i. (seat, spent.1 i)) (All-nil (Is seat nothing_held)))
        (λ else.
        ⊎_elim
        (λ here. subst P (λ i. (sym here.0 i, here.1 i)) (All-append (Is id both) theirs.held mine.held of_theirs of_mine))
        (λ third.
        All-weaker (Was seat view) (Is seat view)
        (λ held was. record { knows = was.knows; only = stays held.task seat was.only else.0; all = was.all })
        view.held (now.held seat view third.1))
        (at_set views id seat both view else.1))
        (at_set (set views id both) other seat nothing_held view is)

    unheld : (task : ℕ) → IsHeldByNobody (set (set views id both) other nothing_held) task → IsHeldByNobody views task
    unheld task nobody =
        let P : Held → Type 0 = λ held. held.task ≢ task in
        let here = set_else (set views id both) other id nothing_held (λ same. apart (sym same)) ∙ set_over views id mine both at in
        let all = nobody id both here in
        before_change views id mine both task at (λ _. All-right P theirs.held mine.held all)
        (before_change (set views id both) other theirs nothing_held task beside (λ _. All-left P theirs.held mine.held all) nobody)

    pub joined : RunningWords given row (set (set views id both) other nothing_held)
    joined = record {
      records = now.records;
      legal = now.legal;
      counts = now.counts;
      stand = now.stand;
      seat_of = seat_of;
      held = held_after;
      nobody = λ task nobody. now.nobody task (unheld task nobody);
      others = now.others;
    }

  -- one seat that holds what all of these held knows the list
  module _ (id : ℕ) (view : View) (at : get_elem? views id ≡ some view) (seats : List Sitting) (holds : view.held ≡ map held_by seats)
      (everyone : (task : ℕ) → task < given.tasks → HasSeat task seats) (finished : All (λ (seat : Sitting). IsFinished seat.records) seats) where
    abbrev Knows : Sitting → Type 0
    Knows seat = records_of seat.task now.records ≡ seat.records

    known : All Knows seats
    known k d lt =
        let P : Held → Type 0 = λ held. records_of held.task now.records ≡ held.records in
        let H : List Held → Type 0 = λ held. All (IsHeld given now.records now.seat_of id view) held in
        let all = subst H holds (now.held id view at) in
        let it = all k (held_by d) (let l = length-map seats held_by in omega arith) in
        subst P (get_or-map held_by seats k d) it.all

    done : AllAreFinished now.records
    done task =
        let P : List Record → Type 0 = λ own. in_hand own ≡ None in
        dite (dec_le given.tasks task)
        (λ past. subst P (sym (now.others task past)) refl)
        (λ below.
        let its = everyone task (lt_of_not-le below) in
        let Q : ℕ → Type 0 = λ t. IsFinished (records_of t now.records) in
        subst Q its.2
        (subst P (sym (All-contains Knows seats its.0 known its.1))
        (All-contains (λ (seat : Sitting). IsFinished seat.records) seats its.0 finished its.1)))

    pub gathered : IsListOf (record { given = given; cells = section (cells_from given) (length given.cells) row; seats = seats }) now.records
    gathered = record {
      legal = now.legal;
      seats = known;
      everyone = everyone;
      others = now.others;
      finished = done;
      cells = ap (λ (words : Words). words.cells) now.stand;
    }

-- nothing is in hand
pub none_of : {X : Type 0} (o : Option X) → is_some o ≡ false → o ≡ None
none_of None is = refl
none_of (Some x) is = absurd (false≢true (sym is))

pub some_of : {X : Type 0} (o : Option X) → is_some o ≡ true → ¬ (o ≡ None)
some_of o is none = absurd (false≢true (ap is_some (sym none) ∙ is))

-- what is found at a place
pub found_at : (xs : List ℕ) (i a : ℕ) → get_elem? xs i ≡ some a → get_or xs i 0 ≡ a
found_at [] i a is = absurd (some-ne-none a (sym is))
found_at (x ∷ xs) zero a is = some-injective x a is
found_at (x ∷ xs) (suc i) a is = found_at xs i a is

-- the rule's list at the end, as it is known from what was read
module _ (key given : Given) (is : key ≡ given) (id : ℕ) (view : View) (row cells : List ℕ) (seats said : List Sitting)
    (holds : view.held ≡ map held_by seats) (said_is : said ≡ seats)
    (cells_is : cells ≡ section (cells_from given) (length given.cells) row)
    (everyone : (task : ℕ) → task < given.tasks → HasSeat task seats) (finished : All (λ (seat : Sitting). IsFinished seat.records) seats) where
  pub ended : (s : State (Unit {0}) View) → RunningWords key s.words s.views → get_elem? s.views id ≡ some view → s.words ≡ row
      → (records : List Record) × IsListOf (record { given = given; cells = cells; seats = said }) records
  ended s now at read =
      let R : Given × List ℕ → Type 0 = λ p. RunningWords p.0 p.1 s.views in
      let here = subst R (λ i. (is i, read i)) now in
      let P : List ℕ × List Sitting → Type 0 = λ p. IsListOf (record { given = given; cells = p.0; seats = p.1 }) here.records in
      (here.records, subst P (λ i. (sym cells_is i, sym said_is i)) (gathered given row s.views here id view at seats holds everyone finished))
