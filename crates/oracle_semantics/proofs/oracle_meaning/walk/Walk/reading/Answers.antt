-- The value that is read was the first of those given.
use Rattle.std.proofs.Common.{◌≡◌, ◌∷◌, Some, refl, remove, slice_get}
use Rattle.access_types.specs.declared.history.Happening.TheVariants.{Read}
use Rattle.oracle_semantics.proofs.oracle_meaning.WalkLemmas.{first_taken, takes_one}
use Rattle.oracle_semantics.proofs.oracle_meaning.walk.Walk.reading.Goals as goal

pub returns-clause-takes : goal.returns-clause-takes
returns-clause-takes c =
    let first : slice_get c.args.self.values.items 0 ≡ Some c.in-Some.value = cc in
    let later : c.remove.new.self.items ≡ remove c.args.self.values.items 0 = cc in
    let values : c.args.self.values.items ≡ c.in-Some.value ∷ c.remove.new.self.items = first_taken _ _ _ first later in
    rw (c.in_ok-push.ensures.items, values)
    (takes_one c.args.self.did.items (Read c.args.bytes c.in-Some.value) c.in-Some.value c.remove.new.self.items refl)
