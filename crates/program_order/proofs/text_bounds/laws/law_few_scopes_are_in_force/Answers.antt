-- By induction on the text.
use Rattle.program_order.proofs.text_bounds.Scopes.{few_in_force, none_in_force, room_for_scope}
use Rattle.program_order.proofs.text_bounds.laws.law_few_scopes_are_in_force.Goals as goal

pub returns-clause-few : goal.returns-clause-few
returns-clause-few c = few_in_force

pub returns-clause-room : goal.returns-clause-room
returns-clause-room c = room_for_scope

pub returns-clause-none : goal.returns-clause-none
returns-clause-none c = none_in_force
