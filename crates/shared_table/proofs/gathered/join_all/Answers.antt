use Rattle.shared_table.specs.Seats.{Opened, Sitting}
use Rattle.shared_table.specs.Plays.{Me}
use Rattle.std.proofs.lemmas.List.Elements.{All-pop}
use Rattle.std.proofs.Common.{◌≡◌, [], refl, ap, ◌∙◌, Some}
use Rattle.shared_table.proofs.Gathering.{entered, joined}
use Rattle.shared_table.proofs.gathered.join_all.Goals as goal

pub load_new_seat-whole-requires : goal.load_new_seat-whole-requires
load_new_seat-whole-requires c = (
  c.requires.some_word,
  λ s now homes fits. (
    record { opening = c.args.row.now.shared.key; held = [] },
    entered c.args.row.now.shared.key s.words s.views now c.args.row.now.shared.key,
    refl,
  ),
)

pub join_seat-requires : goal.join_seat-requires
join_seat-requires c =
    let key = c.args.row.now.shared.key in
    let opened : Opened = record { id = c.args.row.now.shared.table_id; given = key } in
    let here = (All-pop (λ (seat : Sitting). seat.table ≡ opened) c.loop-seat.seats.items c.pop.new.self.items (Some c.in-Some.seat) c.in-Some.ensures.items c.loop-seat.invariant.theirs).1 in (
      c.loop-seat.invariant.same,
      c.into_token-token.ensures.id ∙ ap (λ (o : Opened). o.id) here,
      ap (λ (me : Me). me.1) c.into_token-token.ensures.me,
      c.requires.some_word,
      λ s now at apart beside.
          joined key s.words s.views now c.loop-seat.whole.id c.into_token-token.result.id c.loop-seat.whole.me.0 c.into_token-token.result.me.0
          (ap (λ (me : Me). me.0.opening) c.loop-seat.invariant.me) at apart beside,
    )
