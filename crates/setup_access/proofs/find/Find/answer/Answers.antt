-- A word that matches ends the look-up, at the index that was read.
use Rattle.setup_access.specs.Kept.{setting_with}
use Rattle.setup_access.proofs.FindLemmas.{found_at}
use Rattle.setup_access.proofs.find.Find.answer.Goals as goal

pub returns-then-hits : goal.returns-then-hits
returns-then-hits c = λ sites found later rest.
    rw (c.index-index.ensures sites) (found_at (setting_with c.args.setting.now sites) c.args.access.now c.args.word found later rest (c.hits.ensures.0 c.if-hits.true) c.args.self.place)
