-- help and the version are given where the words ask for them
use Rattle.std.proofs.Common.{inl, inr, map}
use Rattle.clap.specs.Words.{kind_of}
use Rattle.litmus_command.proofs.EndLemmas.{on_left}
use Rattle.litmus_command.proofs.command.command.Goals as goal

pub returns-in-Err-clause-unreported : goal.returns-in-Err-clause-unreported
returns-in-Err-clause-unreported g c = λ is.
    inr (c.explain.ensures.answered (map g.S.AsStr.text c.args.words.now) c.in-Err.ensures.fails is)

pub returns-in-Err-clause-unwritten : goal.returns-in-Err-clause-unwritten
returns-in-Err-clause-unwritten g c = λ is.
    inr (c.explain.ensures.unwritten (map g.S.AsStr.text c.args.words.now) c.in-Err.ensures.fails is)

pub returns-in-Ok-clause-reads : goal.returns-in-Ok-clause-reads
returns-in-Ok-clause-reads g c =
    on_left (λ several. (c.in-Ok.request, c.in-Ok.ensures.bounds, c.in-Ok.ensures.asked, several)) c.carry_out.ensures.reads

pub returns-in-Ok-clause-tells : goal.returns-in-Ok-clause-tells
returns-in-Ok-clause-tells g c = inl (c.in-Ok.request, c.in-Ok.ensures.bounds, c.in-Ok.ensures.asked, c.carry_out.ensures.tells)

pub returns-in-Ok-clause-ends : goal.returns-in-Ok-clause-ends
returns-in-Ok-clause-ends g c = inl (c.in-Ok.request, c.in-Ok.ensures.bounds, c.in-Ok.ensures.asked, c.carry_out.ensures.ends)

pub returns-in-Ok-clause-unreported : goal.returns-in-Ok-clause-unreported
returns-in-Ok-clause-unreported g c = λ is.
    inl (c.in-Ok.request, c.in-Ok.ensures.bounds, c.in-Ok.ensures.asked, c.carry_out.ensures.unreported is)

pub returns-in-Ok-clause-unwritten : goal.returns-in-Ok-clause-unwritten
returns-in-Ok-clause-unwritten g c = λ is.
    inl (c.in-Ok.request, c.in-Ok.ensures.bounds, c.in-Ok.ensures.asked, c.carry_out.ensures.unwritten is)

pub returns-in-Ok-clause-misused : goal.returns-in-Ok-clause-misused
returns-in-Ok-clause-misused g c = λ is.
    inl (c.in-Ok.request, c.in-Ok.ensures.bounds, c.in-Ok.ensures.asked, c.carry_out.ensures.misused is)

pub returns-in-Ok-clause-refused : goal.returns-in-Ok-clause-refused
returns-in-Ok-clause-refused g c = λ of. (c.in-Ok.request, c.in-Ok.ensures.bounds, c.in-Ok.ensures.asked, c.carry_out.ensures.refused of)

pub returns-in-Ok-clause-checks : goal.returns-in-Ok-clause-checks
returns-in-Ok-clause-checks g c = inl (c.in-Ok.request, c.in-Ok.ensures.bounds, c.in-Ok.ensures.asked, c.carry_out.ensures.checks)

pub returns-in-Ok-clause-races : goal.returns-in-Ok-clause-races
returns-in-Ok-clause-races g c = inl (c.in-Ok.request, c.in-Ok.ensures.bounds, c.in-Ok.ensures.asked, c.carry_out.ensures.races)

pub returns-in-Ok-clause-searches : goal.returns-in-Ok-clause-searches
returns-in-Ok-clause-searches g c = inl (c.in-Ok.request, c.in-Ok.ensures.bounds, c.in-Ok.ensures.asked, c.carry_out.ensures.searches)

pub returns-in-Ok-clause-joins : goal.returns-in-Ok-clause-joins
returns-in-Ok-clause-joins g c = inl (c.in-Ok.request, c.in-Ok.ensures.bounds, c.in-Ok.ensures.asked, c.carry_out.ensures.joins)

pub returns-in-Ok-clause-keeps : goal.returns-in-Ok-clause-keeps
returns-in-Ok-clause-keeps g c = inl (c.in-Ok.request, c.in-Ok.ensures.bounds, c.in-Ok.ensures.asked, c.carry_out.ensures.keeps)

-- what is wrong with the words was told, or want of memory
pub returns-in-Err-clause-checks : goal.returns-in-Err-clause-checks
returns-in-Err-clause-checks g c = elim c.explain.ensures.memory [
  | inl other ↦ inr (inl (record {
    kind = kind_of c.in-Err.error;
    other = other;
    may = c.in-Err.ensures.fails;
    faults = c.explain.ensures.faults;
    tells = c.explain.ensures.tells;
    ends = c.explain.ensures.ends;
  }))
  | inr out ↦ inr (inr out)
]

pub returns-in-Err-clause-races : goal.returns-in-Err-clause-races
returns-in-Err-clause-races g c = elim c.explain.ensures.memory [
  | inl other ↦ inr (inl (record {
    kind = kind_of c.in-Err.error;
    other = other;
    may = c.in-Err.ensures.fails;
    faults = c.explain.ensures.faults;
    tells = c.explain.ensures.tells;
    ends = c.explain.ensures.ends;
  }))
  | inr out ↦ inr (inr out)
]

pub returns-in-Err-clause-searches : goal.returns-in-Err-clause-searches
returns-in-Err-clause-searches g c = elim c.explain.ensures.memory [
  | inl other ↦ inr (inl (record {
    kind = kind_of c.in-Err.error;
    other = other;
    may = c.in-Err.ensures.fails;
    faults = c.explain.ensures.faults;
    tells = c.explain.ensures.tells;
    ends = c.explain.ensures.ends;
  }))
  | inr out ↦ inr (inr out)
]

pub returns-in-Err-clause-joins : goal.returns-in-Err-clause-joins
returns-in-Err-clause-joins g c = elim c.explain.ensures.memory [
  | inl other ↦ inr (inl (record {
    kind = kind_of c.in-Err.error;
    other = other;
    may = c.in-Err.ensures.fails;
    faults = c.explain.ensures.faults;
    tells = c.explain.ensures.tells;
    ends = c.explain.ensures.ends;
  }))
  | inr out ↦ inr (inr out)
]

pub returns-in-Err-clause-keeps : goal.returns-in-Err-clause-keeps
returns-in-Err-clause-keeps g c = elim c.explain.ensures.memory [
  | inl other ↦ inr (inl (record {
    kind = kind_of c.in-Err.error;
    other = other;
    may = c.in-Err.ensures.fails;
    faults = c.explain.ensures.faults;
    tells = c.explain.ensures.tells;
    ends = c.explain.ensures.ends;
  }))
  | inr out ↦ inr (inr out)
]
