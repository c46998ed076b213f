-- line by line, and short enough
use Rattle.std.proofs.Common.{refl}
use Rattle.accepted_traces.proofs.Sections.{parts_end, parts_true}
use Rattle.accepted_traces.proofs.Size.{within}
use Rattle.accepted_traces.proofs.laws.law_parts_make_a_true_trace.Goals as goal

pub returns : goal.returns
returns c = λ slots layout accesses arms takes reports h. record {
  begins = record {
    within = within slots layout accesses arms takes reports h;
    head_stands = (h.few_slots, h.slots_limit);
    spelled = refl;
    lines_true = parts_true slots layout accesses arms takes reports h;
  };
  end_true = parts_end slots layout accesses arms takes reports h;
}
