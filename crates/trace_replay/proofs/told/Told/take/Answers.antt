-- one more is counted
use Rattle.std.proofs.Common.{◌++◌, ◌∷◌, [], length, map, subst}
use Rattle.std.proofs.lemmas.List.{length-map}
use Rattle.trace_replay.specs.Counts.{AreCounts}
use Rattle.trace_replay.specs.Told.{is_take_key, take_key}
use Rattle.trace_replay.proofs.Bags.{on_ok, one_take_more}
use Rattle.trace_replay.proofs.Lines.{count_fits}
use Rattle.trace_replay.proofs.told.Told.take.Goals as goal

pub add-requires : goal.add-requires
add-requires c = count_fits is_take_key (map take_key c.requires.0) (c.finder.result, c.index.result, c.setter.result) (length c.requires.0) _
    (length-map c.requires.0 take_key) c.requires.4.takes (c.requires.3.takes (c.finder.result, c.index.result, c.setter.result))

pub returns : goal.returns
returns c = λ takes races origins told. on_ok c.add.result
    (λ more. record {
      takes = one_take_more takes c.args.take.now c.add.new.self
          (subst (λ key. AreCounts is_take_key (map take_key takes ++ key ∷ []) c.add.new.self)
          (λ j. (c.finder.ensures j, c.index.ensures j, c.setter.ensures j)) more);
      races = told.races;
      origins = told.origins;
    })
    (c.add.ensures (map take_key takes) told.takes)
