-- a hit is a taking and, where it is reported, a race
use Rattle.std.proofs.Common.{◌++◌, ◌∷◌, [], arith}
use Rattle.trace_replay.proofs.Bags.{on_ok, told_hit}
use Rattle.trace_replay.proofs.told.Told.arm.Goals as goal

pub hit-requires : goal.hit-requires
hit-requires c =
    let told = c.in_ok-take-in-Hit.ensures c.requires.0 c.requires.1 c.requires.2 c.requires.3 in
    (c.requires.0 ++ c.new.result ∷ [], c.requires.1, c.requires.2, told, record { takes = omega arith; races = c.requires.4.races; origins = omega arith })

pub returns-in_ok-take-in-Hit : goal.returns-in_ok-take-in-Hit
returns-in_ok-take-in-Hit c = λ takes races origins told.
    let taken = c.in_ok-take-in-Hit.ensures takes races origins told in
    on_ok c.hit.result
    (λ more. told_hit takes races origins c.new.result c.args.arm.now.setter c.args.arm.now.index c.in-Hit.finder c.setter-in-Hit.result
    c.setter-in-Hit-2.result c.index.result c.in-Hit.result c.args.arm.now.outcome c.hit.new.self c.new.ensures c.index.ensures
    c.setter-in-Hit.ensures c.setter-in-Hit-2.ensures c.in-Hit.ensures more)
    (c.hit.ensures (takes ++ c.new.result ∷ []) races origins taken)
