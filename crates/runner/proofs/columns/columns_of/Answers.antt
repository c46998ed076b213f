-- each column has an item of one row more
use Rattle.std.proofs.Common.{◌≡◌, ◌<◌, ◌+◌, ◌∙◌, ◌∷◌, ◌++◌, [], ℕ, List, Some, ap, append_assoc, arith, length, refl, slice_get, sym}
use Rattle.std.proofs.lemmas.List.{append-nil, length-append, length-map}
use Rattle.std.proofs.lemmas.Option.{get_or_from_slice_get, slice_get_within}
use Rattle.std.specs.Vec.Iter.{into_iter_items}
use Rattle.runner.proofs.ColumnLemmas.{column_on, from_map, item_behind, item_there, one_of_more}
use Rattle.runner.proofs.TurnLemmas.{empty_of}
use Rattle.runner.proofs.columns.columns_of.Goals as goal

pub loop-row-init : goal.loop-row-init
loop-row-init g c = record {
  wide = c.in_ok-columns.ensures.wide;
  rows = refl;
  tall = λ at column is. ap length (c.in_ok-columns.ensures.empty at column is).0;
  room = λ at column is. omega (arith, (c.in_ok-columns.ensures.empty at column is).1, c.len.ensures, c.into_iter-row-iterator.ensures.into_iter_gives.1);
  item = λ at k column row is is_row. absurd (cc);
}

pub add_row-requires-clause-wide : goal.add_row-requires-clause-wide
add_row-requires-clause-wide g c =
    let was = c.loop-row.invariant in
    let gives = c.into_iter-row-iterator.ensures.into_iter_gives in
    let done : ℕ = length c.loop-row.yielded in
    let all : c.loop-row.yielded ++ c.in-Some.row ∷ into_iter_items c.next.new.self ≡ c.args.rows.items =
    ap (λ (xs : List _). c.loop-row.yielded ++ xs) (sym c.in-Some.ensures.steps.0) ∙ (was.rows ∙ gives.0) in
    let here : slice_get c.args.rows.items done ≡ Some c.in-Some.row =
    ap (λ (xs : List _). slice_get xs done) (sym all) ∙ item_behind c.loop-row.yielded (into_iter_items c.next.new.self) c.in-Some.row in
    let mine = get_or_from_slice_get c.args.rows.items done c.in-Some.row c.in-Some.row here in
    ap (λ row. length row.items) (sym mine)
    ∙ (c.requires done c.in-Some.row (one_of_more c.loop-row.yielded (into_iter_items c.next.new.self) c.in-Some.row c.args.rows.items all) ∙ sym was.wide)

pub add_row-requires-clause-room : goal.add_row-requires-clause-room
add_row-requires-clause-room g c = λ at column is.
    let was = c.loop-row.invariant in
    let gives = c.into_iter-row-iterator.ensures.into_iter_gives in
    let all : c.loop-row.yielded ++ c.in-Some.row ∷ into_iter_items c.next.new.self ≡ c.args.rows.items =
    ap (λ (xs : List _). c.loop-row.yielded ++ xs) (sym c.in-Some.ensures.steps.0) ∙ (was.rows ∙ gives.0) in
    let few = one_of_more c.loop-row.yielded (into_iter_items c.next.new.self) c.in-Some.row c.args.rows.items all in
    let tall = was.tall at column is in
    let room = was.room at column is in
    omega (arith, few, tall, room, gives.1, c.args.rows.ok.0, column.ok.0)

pub loop-row-preserved : goal.loop-row-preserved
loop-row-preserved g c =
    let was = c.loop-row.invariant in
    let row = c.in-Some.row in
    let before = c.loop-row.columns.items in
    let added = c.add_row.ensures in
    let steps = c.in-Some.ensures.steps in
    let gives = c.into_iter-row-iterator.ensures.into_iter_gives in
    let done : ℕ = length c.loop-row.yielded in
    let all : c.loop-row.yielded ++ row ∷ into_iter_items c.next.new.self ≡ c.args.rows.items =
    ap (λ (xs : List _). c.loop-row.yielded ++ xs) (sym steps.0) ∙ (was.rows ∙ gives.0) in
    let here : slice_get c.args.rows.items done ≡ Some row =
    ap (λ (xs : List _). slice_get xs done) (sym all) ∙ item_behind c.loop-row.yielded (into_iter_items c.next.new.self) row in
    let mine = get_or_from_slice_get c.args.rows.items done row row here in
    let wide : length row.items ≡ length before =
    ap (λ one. length one.items) (sym mine)
    ∙ (c.requires done row (one_of_more c.loop-row.yielded (into_iter_items c.next.new.self) row c.args.rows.items all) ∙ sym was.wide) in
    let one_more : length (c.loop-row.yielded ++ row ∷ []) ≡ done + 1 = length-append c.loop-row.yielded (row ∷ []) in
    record {
      wide = added.wide ∙ was.wide;
      rows = append_assoc c.loop-row.yielded (row ∷ []) (into_iter_items c.next.new.self)
          ∙ (ap (λ (xs : List _). c.loop-row.yielded ++ xs) (sym steps.0) ∙ was.rows);
      tall = λ at column is.
          let within : at < length before = omega (arith, slice_get_within c.add_row.new.columns.items at column is, added.wide) in
          let old = item_there before at within in
          let item = item_there row.items at (omega (arith, within, wide)) in
          let it = added.added at old.0 column item.0 old.1 item.1 is in
          let longer = length-append old.0.items (item.0 ∷ []) in
          let tall = was.tall at old.0 old.1 in
          ap length it.0 ∙ (longer ∙ (ap (λ (n : ℕ). n + 1) tall ∙ sym one_more));
      room = λ at column is.
          let within : at < length before = omega (arith, slice_get_within c.add_row.new.columns.items at column is, added.wide) in
          let old = item_there before at within in
          let item = item_there row.items at (omega (arith, within, wide)) in
          let it = added.added at old.0 column item.0 old.1 item.1 is in
          let room = was.room at old.0 old.1 in
          omega (arith, room, it.1);
      item = λ at k column one is is_row.
          let within : at < length before = omega (arith, slice_get_within c.add_row.new.columns.items at column is, added.wide) in
          let old = item_there before at within in
          let item = item_there row.items at (omega (arith, within, wide)) in
          let it = added.added at old.0 column item.0 old.1 item.1 is in
          ap (λ (xs : List _). slice_get xs k) it.0
          ∙ column_on (λ one. one.items) at c.loop-row.yielded row old.0.items item.0 (was.tall at old.0 old.1)
          (λ j r stands. was.item at j old.0 r old.1 stands) item.1 k one is_row;
    }

pub returns : goal.returns
returns g c =
    let was = c.loop-row.invariant in
    let none : into_iter_items c.loop-row.row-iterator ≡ [] =
    empty_of (into_iter_items c.loop-row.row-iterator) (let over = c.in-None.ensures.steps.0 in omega (arith, over, c.loop-row.row-iterator.rest.ok.0)) in
    let all : c.loop-row.yielded ≡ c.args.rows.items =
    sym (append-nil c.loop-row.yielded)
    ∙ (ap (λ (xs : List _). c.loop-row.yielded ++ xs) (sym none) ∙ (was.rows ∙ c.into_iter-row-iterator.ensures.into_iter_gives.0)) in
    record {
      wide = length-map c.loop-row.columns.items (λ column. column.items) ∙ was.wide;
      tall = λ at column is.
          let it = from_map (λ column. column.items) c.loop-row.columns.items at column is in
          ap length (sym it.2) ∙ (was.tall at it.0 it.1 ∙ (ap length all ∙ sym (length-map c.args.rows.items (λ row. row.items))));
      item = λ at k column one is is_row.
          let it = from_map (λ column. column.items) c.loop-row.columns.items at column is in
          let row = from_map (λ row. row.items) c.args.rows.items k one is_row in
          ap (λ (xs : List _). slice_get xs k) (sym it.2)
          ∙ (was.item at k it.0 row.0 it.1 (ap (λ (xs : List _). slice_get xs k) all ∙ row.1) ∙ ap (λ (xs : List _). slice_get xs at) row.2);
    }
