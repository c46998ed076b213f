use Rattle.shared_table.proofs.gathered.Gathered.law_has_its_laws.Goals as goal

pub returns : goal.returns
returns c =
    let list = c.law_has_one_list.ensures in
    let legal = list.1.legal in (
      list.0,
      list.1,
      c.law_armings_are_met_once.ensures.once _ _ _ _ legal,
      c.law_armings_are_met_once.ensures.taken _ _ _ _ legal,
      c.law_heard_is_told.ensures.bag _ _ _ _ legal list.1.finished,
      c.law_heard_is_told.ensures.once _ _ _ _ legal,
    )
