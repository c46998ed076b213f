-- with a page or without one
use Rattle.std.proofs.Common.{List, Option, subst, sym, ℕ}
use Rattle.std.specs.Borrow.{Bor}
use Rattle.page_command.specs.Ends.{RacesEndWith}
use Rattle.page_command.proofs.page.carry_all_races.Goals as goal

pub returns-in-None : goal.returns-in-None
returns-in-None g c =
    subst (λ (html : Option (Bor (List ℕ))). RacesEndWith html c.args.request.now c.carry_races.result (g.D.Desk.state c.args.desk.now)
    (g.D.Desk.state c.carry_races.new.desk)) (sym c.in-None.is) c.carry_races.ensures

pub returns-in-Some : goal.returns-in-Some
returns-in-Some g c =
    subst (λ (html : Option (Bor (List ℕ))). RacesEndWith html c.args.request.now c.carry_page.result (g.D.Desk.state c.args.desk.now)
    (g.D.Desk.state c.carry_page.new.desk)) (sym c.in-Some.is) c.carry_page.ensures
