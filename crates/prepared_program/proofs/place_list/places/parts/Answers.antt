use Rattle.prepared_program.proofs.place_list.SpellingLemmas.{place-no_name, place-no_number, place-read, place-uncut, reads-none}
use Rattle.prepared_program.proofs.place_list.places.parts.Goals as goal

pub returns-in_err-name : goal.returns-in_err-name
returns-in_err-name c =
    reads-none c.args.text.now c.from_residual.result c.from_residual.ensures
    (place-uncut c.args.text.now c.split_once.result c.in_err-name.was c.split_once.ensures.cases)

pub returns-in_err-addr : goal.returns-in_err-addr
returns-in_err-addr c =
    reads-none c.args.text.now c.from_residual-in_err-addr.result c.from_residual-in_err-addr.ensures
    (place-no_number c.args.text.now c.split_once.result (c.in_ok-name.name, c.in_ok-name.addr) c.number.result
    c.in_ok-name.was c.split_once.ensures.cases c.number.ensures c.in_err-addr.was)

pub returns-then-is_name : goal.returns-then-is_name
returns-then-is_name c =
    place-read c.args.text.now c.split_once.result (c.in_ok-name.name, c.in_ok-name.addr) c.in_ok-addr.addr
    c.in_ok-name.was c.split_once.ensures.cases (c.is_name.ensures.0 c.if-is_name.true)
    ((c.number.ensures c.in_ok-addr.addr).1 c.in_ok-addr.was)

pub returns-else-is_name : goal.returns-else-is_name
returns-else-is_name c = λ place. (
  λ spelled. absurd (place-no_name c.args.text.now c.split_once.result (c.in_ok-name.name, c.in_ok-name.addr)
      c.in_ok-name.was c.split_once.ensures.cases
      (λ named. let is = c.is_name.ensures.1 named in let not = c.if-is_name.false in cc) place spelled),
  λ e. absurd cc,
)
