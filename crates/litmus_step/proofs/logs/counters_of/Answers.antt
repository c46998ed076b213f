-- One task's counters more are added.
use Rattle.std.proofs.Common.{◌≡◌, ◌∙◌, arith, length, refl, subst}
use Rattle.std.proofs.lemmas.Option.{slice_get_read}
use Rattle.litmus_step.proofs.logs.counters_of.Goals as goal
use Rattle.log_correctness.specs.Totals.{CountsTasks}

pub loop-log-init : goal.loop-log-init
loop-log-init c = λ run records list logs.
    c.law_logs_count_the_list.ensures.none run records list c.new-counters.result c.new-counters.ensures

pub loop-log-preserved : goal.loop-log-preserved
loop-log-preserved c = λ run records list logs.
    let all = c.args.logs.now in
    let stands = slice_get_read all (length all) c.loop-log.log-index c.log-item.result refl c.loop-log-test.true c.log-item.is in
    c.law_logs_count_the_list.ensures.more run records list c.loop-log.log-index c.log-item.result c.loop-log.counters c.counters.result
    c.add.new.self
    (logs.each c.loop-log.log-index c.log-item.result stands) (c.loop-log.invariant run records list logs) c.counters.ensures (record {
      arms = c.add.ensures.arms;
      quiet = c.add.ensures.quiet;
      taken = c.add.ensures.taken;
      lost = c.add.ensures.lost;
      two_sided = c.add.ensures.two_sided;
      unknown = c.add.ensures.unknown;
      encoding = c.add.ensures.encoding;
      same = c.add.ensures.same;
      masked = c.add.ensures.masked;
      capacity = c.add.ensures.capacity;
      unencodable = c.add.ensures.unencodable;
    })

pub returns : goal.returns
returns c = λ run records list logs.
    let over : c.loop-log.log-index ≡ length c.args.logs.now = omega (arith, c.loop-log-test.false, c.loop-log.auto.log-index-end) in
    c.law_logs_count_the_list.ensures.all run records list c.loop-log.counters
    (subst (λ n. CountsTasks list n c.loop-log.counters) (over ∙ logs.all) (c.loop-log.invariant run records list logs))
