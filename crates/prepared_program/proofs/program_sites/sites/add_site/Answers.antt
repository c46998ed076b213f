-- One repetition more.
use Rattle.std.proofs.Common.{◌∙◌, ℕ, Option, ap}
use Rattle.prepared_program.proofs.program_sites.AddsLemmas.{adds_repetition}
use Rattle.prepared_program.proofs.program_sites.sites.add_site.Goals as goal

pub loop-rep-preserved : goal.loop-rep-preserved
loop-rep-preserved c =
    adds_repetition c.args.task c.args.number c.args.site c.loop-rep.rep c.args.sites.now c.loop-rep.sites c.add.new.self c.in-Ok.access c.requires.below c.loop-rep.invariant
    (c.in-Ok.ensures.made.1 ∙ ap (λ (m : Option ℕ). record {
      task = c.args.task;
      site = c.args.number;
      rep = c.loop-rep.rep;
      addr = c.args.site.bytes.addr;
      size = c.args.site.bytes.size;
      kind = c.args.site.kind;
      mask = m;
    }) c.requires.proper.mask)
    c.in_ok-add-in-Ok.ensures.added
