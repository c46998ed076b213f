-- one access more stands by its ticket
use Rattle.std.proofs.Common.{◌≡◌, ◌∙◌, Some, ap, arith, cond}
use Rattle.std.specs.BTreeMap.{get, is_at}
use Rattle.std.specs.Ordering.{nat_cmp}
use Rattle.access_types.specs.Ticket.{ticket_number}
use Rattle.timeline.proofs.picture.Steps.{all_too, next_too}
use Rattle.timeline.proofs.picture.Tickets.{Says, one_more}
use Rattle.timeline.proofs.picture.named.Named.new.Goals as goal

pub loop-access-preserved : goal.loop-access-preserved
loop-access-preserved c = λ ticket.
    let given : c.ticket.result ≡ ticket_number c.access-item.result.access = c.ticket.ensures.value ∙ ap ticket_number c.access.ensures in
    next_too (λ xs. Says xs ticket (get nat_cmp c.insert.new.self ticket)) c.args.accesses.now c.loop-access.access-index c.access-item.result
    (omega arith) c.access-item.is
    (one_more _ c.access-item.result (λ q. get nat_cmp c.loop-access.by_ticket q) (λ q. get nat_cmp c.insert.new.self q)
    c.loop-access.invariant
    (λ q. c.in_ok-insert.ensures.updates.0 q
    ∙ ap (λ n. cond (is_at (nat_cmp n) q) (Some c.access-item.result) (get nat_cmp c.loop-access.by_ticket q)) given) ticket)

pub returns : goal.returns
returns c = record {
  found = λ ticket. all_too (λ xs. Says xs ticket (get nat_cmp c.loop-access.by_ticket ticket)) c.args.accesses.now c.loop-access.access-index
      c.loop-access-test.false (c.loop-access.invariant ticket);
}
