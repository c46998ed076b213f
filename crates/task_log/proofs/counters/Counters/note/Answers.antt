use Rattle.std.proofs.Common.{◌∙◌, ap}
use Rattle.task_log.proofs.CountLemmas.{counted}
use Rattle.task_log.specs.Counters as spec
use Rattle.task_log.specs.declared.counters.Counters.{Counters}
use Rattle.task_log.specs.declared.noted.Noted.{Noted}
use Rattle.task_log.proofs.counters.Counters.note.Goals as goal

pub returns : goal.returns
returns c = λ own count.
    let noted = c.args.noted.now in
    let was = c.args.self.now in
    let now = c.note_outcome.new.self in
    let stepped = c.note_step.ensures in
    let settled = c.note_outcome.ensures in
    record {
      arms = counted (λ (n : Noted). spec.is_arming n.step n.answer) noted own was.arms now.arms
          (ap (λ (all : Counters). all.arms) settled.kept ∙ stepped.arms) count.arms;
      quiet = counted (λ (n : Noted). spec.is_quiet n.step n.answer) noted own was.quiet now.quiet
          (ap (λ (all : Counters). all.quiet) settled.kept ∙ stepped.quiet) count.quiet;
      taken = counted (λ (n : Noted). spec.is_taken n.step n.answer) noted own was.taken now.taken
          (ap (λ (all : Counters). all.taken) settled.kept ∙ stepped.taken) count.taken;
      lost = counted (λ (n : Noted). spec.is_lost n.step n.answer) noted own was.lost now.lost
          (ap (λ (all : Counters). all.lost) settled.kept ∙ stepped.lost) count.lost;
      two_sided = counted (λ (n : Noted). spec.is_two_sided n.outcome) noted own was.two_sided now.two_sided
          (settled.two_sided ∙ ap (λ (all : Counters). spec.counting (spec.is_two_sided noted.outcome) all.two_sided) stepped.kept) count.two_sided;
      unknown = counted (λ (n : Noted). spec.is_unknown n.outcome) noted own was.unknown now.unknown
          (settled.unknown ∙ ap (λ (all : Counters). spec.counting (spec.is_unknown noted.outcome) all.unknown) stepped.kept) count.unknown;
      encoding = counted (λ (n : Noted). spec.is_encoding n.outcome) noted own was.encoding now.encoding
          (settled.encoding ∙ ap (λ (all : Counters). spec.counting (spec.is_encoding noted.outcome) all.encoding) stepped.kept) count.encoding;
      same = counted (λ (n : Noted). spec.is_same n.outcome) noted own was.same now.same
          (settled.same ∙ ap (λ (all : Counters). spec.counting (spec.is_same noted.outcome) all.same) stepped.kept) count.same;
      masked = counted (λ (n : Noted). spec.is_masked n.outcome) noted own was.masked now.masked
          (settled.masked ∙ ap (λ (all : Counters). spec.counting (spec.is_masked noted.outcome) all.masked) stepped.kept) count.masked;
      capacity = counted (λ (n : Noted). spec.is_capacity n.outcome) noted own was.capacity now.capacity
          (settled.capacity ∙ ap (λ (all : Counters). spec.counting (spec.is_capacity noted.outcome) all.capacity) stepped.kept) count.capacity;
      unencodable = counted (λ (n : Noted). spec.is_unencodable n.outcome) noted own was.unencodable now.unencodable
          (settled.unencodable ∙ ap (λ (all : Counters). spec.counting (spec.is_unencodable noted.outcome) all.unencodable) stepped.kept) count.unencodable;
    }
