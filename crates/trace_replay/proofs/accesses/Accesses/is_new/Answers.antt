-- neither the ticket nor a stamp is there
use Rattle.std.proofs.Common.{◌≡◌, ◌∙◌, ap, false, not, sym, true≢false}
use Rattle.std.specs.List.{list_any}
use Rattle.std.proofs.lemmas.Bool.{not-true}
use Rattle.access_types.specs.Ticket.{ticket_number}
use Rattle.trace_replay.specs.Accesses.{has_stamp}
use Rattle.trace_replay.specs.Table.{value_at}
use Rattle.trace_replay.proofs.Known.{begin_from, end_from, fresh_from, fresh_to, stamps_to}
use Rattle.trace_replay.proofs.accesses.Accesses.is_new.Goals as goal

pub returns-then-at-ne0 : goal.returns-then-at-ne0
returns-then-at-ne0 c = λ all kept. (
  λ t. absurd (true≢false (sym t)),
  λ fresh.
      let ticket = c.from.ensures ∙ c.ticket.ensures.value ∙ ap ticket_number c.access.ensures in
      absurd (c.if-at-ne0.true (c.at.ensures ∙ ap (value_at c.args.self.now.places) ticket
      ∙ fresh_from all c.args.self.now.places kept.places c.args.stamped.now fresh.name)),
)

pub returns-then-begin_stood : goal.returns-then-begin_stood
returns-then-begin_stood c = λ all kept. (
  λ t. absurd (true≢false (sym t)),
  λ fresh. absurd (true≢false (sym c.if-begin_stood.true ∙ c.at-begin_stood.ensures ∙ kept.stamps c.begin.result
      ∙ rw c.begin.ensures (begin_from all c.args.stamped.now fresh.stamps))),
)

pub returns : goal.returns
returns c = λ all kept. (
  λ t. record {
    stamps = stamps_to all c.args.stamped.now
        (rw c.begin.ensures at (sym (kept.stamps c.begin.result) ∙ sym c.at-begin_stood.ensures ∙ c.if-begin_stood.false))
        (rw c.end.ensures at (sym (kept.stamps c.end.result) ∙ sym c.at-end_stood.ensures ∙ not-true c.at-end_stood.result t));
    name =
        let ticket = c.from.ensures ∙ c.ticket.ensures.value ∙ ap ticket_number c.access.ensures in
        fresh_to all c.args.self.now.places kept.places c.args.stamped.now
        (ap (value_at c.args.self.now.places) (sym ticket) ∙ sym c.at.ensures ∙ c.if-at-ne0.false);
  },
  λ fresh.
      let none : c.at-end_stood.result ≡ false = c.at-end_stood.ensures ∙ kept.stamps c.end.result
      ∙ ap (λ n. list_any (has_stamp n) all) c.end.ensures ∙ end_from all c.args.stamped.now fresh.stamps in
      ap not none,
)
