-- The armings by the setter so far are counted, and too few to wrap, so the table counts one more.
use Rattle.std.proofs.Common.{◌≡◌, ◌==◌, ◌+◌, ◌^◌, ◌<◌, ◌∙◌, List, ap, arith, subst, sym}
use Rattle.std.proofs.lemmas.List.Sums.{count_by-le-length}
use Rattle.access_types.specs.Arms.{Arm}
use Rattle.task_log.specs.Armings.{CountsBySite, armings_by}
use Rattle.task_log.proofs.log.TaskLog.removes.Goals as goal

pub returns-clause-counts : goal.returns-clause-counts
returns-clause-counts c = λ counts.
    let arms = c.args.self.now.arms.items in
    let sites = c.args.self.now.armings.sites.items in
    let setter = c.unwrap_or-setter.result in
    let all : c.as_slice.result.now ≡ arms = c.as_slice.ensures.value in
    let number : c.by-number.result ≡ armings_by setter arms =
    c.by-number.ensures (subst (λ (a : List Arm). CountsBySite a sites) (sym all) counts)
    ∙ ap (λ (a : List Arm). armings_by setter a) all in
    let few : c.by-number.result + 1 < 2 ^ 64 =
    omega (
      arith,
      number,
      count_by-le-length (λ (arm : Arm). arm.setter == setter) arms,
      c.if-len-capacity.false,
      c.args.self.now.arms.ok.0,
      c.args.self.now.arms.ok.1,
      c.len.ensures,
      c.capacity.ensures,
    ) in
    subst (λ (a : List Arm). CountsBySite a c.note.new.self.sites.items) (sym c.push_reserved.ensures.items)
    (c.note.ensures.counts arms c.new.result (ap (λ (a : Arm). a.setter) c.new.ensures) number few counts)
