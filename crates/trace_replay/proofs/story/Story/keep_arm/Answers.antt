-- an arming more, and what it told of
use Rattle.std.proofs.Common.{◌++◌, ◌∷◌, ◌<◌, ◌^◌, [], arith, length, map, refl, subst}
use Rattle.std.specs.Prelude.{nat_eq}
use Rattle.access_types.specs.Arms.{Arm}
use Rattle.report_text.specs.Standing.{arms_of}
use Rattle.report_text.specs.Truth.{hits_in, origins_in, pairs_in}
use Rattle.trace_replay.specs.Armings.{AreArmings}
use Rattle.trace_replay.proofs.Bags.{on_ok}
use Rattle.trace_replay.proofs.Lines.{count_fits, few_arms, few_setters, knows_arm, room_by_arms}
use Rattle.trace_replay.proofs.story.Story.keep_arm.Goals as goal

pub overflow_add-self : goal.overflow_add-self
overflow_add-self c = let low : c.args.self.now.arms < 2 ^ 62 = few_arms c.requires.0 c.args.self.now c.requires.1.lines c.requires.2 in omega arith

pub add-requires : goal.add-requires
add-requires c = count_fits nat_eq (map (λ (a : Arm). a.setter) (arms_of c.requires.0)) c.setter.result
    (length (map (λ (a : Arm). a.setter) (arms_of c.requires.0))) _ refl (few_setters c.requires.0 c.requires.2)
    (c.requires.1.armings c.setter.result)

pub arm-requires : goal.arm-requires
arm-requires c = (
  hits_in (arms_of c.requires.0),
  pairs_in (arms_of c.requires.0),
  origins_in (arms_of c.requires.0),
  c.requires.1.by_arms,
  room_by_arms c.requires.0 c.requires.2,
)

pub returns-clause-knows : goal.returns-clause-knows
returns-clause-knows c = λ all knows.
    let armings = subst (λ n. AreArmings (map (λ (a : Arm). a.setter) (arms_of all) ++ n ∷ []) c.add.new.self) c.setter.ensures
    (c.in_ok-add.ensures (map (λ (a : Arm). a.setter) (arms_of all)) knows.armings) in
    on_ok c.arm.result
    (λ told. knows_arm all c.args.arm.now c.args.self.now _ knows refl armings told refl refl refl refl)
    (c.arm.ensures (hits_in (arms_of all)) (pairs_in (arms_of all)) (origins_in (arms_of all)) knows.by_arms)
