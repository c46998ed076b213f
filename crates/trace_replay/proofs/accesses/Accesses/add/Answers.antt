-- one access more
use Rattle.std.proofs.Common.{◌≡◌, ◌<◌, ◌∙◌, ◌+◌, ◌++◌, ◌∷◌, [], ap, cond, length, length-append}
use Rattle.std.specs.Prelude.{nat_eq}
use Rattle.std.proofs.lemmas.List.Elements.{All-push}
use Rattle.access_types.specs.Stamped.{Stamped}
use Rattle.access_types.specs.Ticket.{ticket_number}
use Rattle.trace_replay.specs.Table.{value_at}
use Rattle.trace_replay.proofs.Bags.{on_ok}
use Rattle.trace_replay.proofs.Known.{one_place_more, two_stamps_more}
use Rattle.trace_replay.proofs.accesses.Accesses.add.Goals as goal

pub returns : goal.returns
returns c = λ all kept fresh has_bytes.
    let list : c.push.new.self.items ≡ all ++ c.args.stamped.now ∷ [] =
    c.in_ok-push.ensures.items ∙ ap (λ xs. xs ++ c.args.stamped.now ∷ []) kept.list in
    let ticket : c.from.result ≡ ticket_number c.args.stamped.now.access =
    c.from.ensures ∙ c.ticket.ensures.value ∙ ap ticket_number c.access.ensures in
    let count : c.len.result ≡ length all + 1 =
    c.len.ensures ∙ c.push.new.self.ok.0 ∙ ap length list ∙ length-append all (c.args.stamped.now ∷ []) in
    on_ok c.set-3.result
    (λ set. record {
      list = list;
      places = one_place_more all c.args.self.now.places kept.places c.args.stamped.now fresh.name c.set.new.self (λ other.
          c.in_ok-set.ensures other ∙ ap (λ n. cond (nat_eq n other) c.len.result (value_at c.args.self.now.places other)) ticket
          ∙ ap (λ n. cond (nat_eq (ticket_number c.args.stamped.now.access) other) n (value_at c.args.self.now.places other)) count);
      stamps = two_stamps_more c.args.self.now.stamps c.set-2.new.self c.set-3.new.self all c.args.stamped.now kept.stamps
          (rw c.begin.ensures at c.in_ok-set-2.ensures) (rw c.end.ensures at set);
      have_bytes = All-push (λ (s : Stamped). 0 < s.access.size) all c.args.stamped.now kept.have_bytes has_bytes;
    })
    c.set-3.ensures
