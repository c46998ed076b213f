-- What is amiss is so of the parts that begin with the first.
use Rattle.std.proofs.Common.{sym}
use Rattle.part_search.proofs.part_file.whole.check_parts.Goals as goal

pub returns-in-Some-first_wrong : goal.returns-in-Some-first_wrong
returns-in-Some-first_wrong c = record {
  first = c.in-Some.first.now;
  begins = sym c.in-Some.ensures.value;
  wrong = c.in-Some-first_wrong.ensures;
}

pub returns-in-Some-first_missing : goal.returns-in-Some-first_missing
returns-in-Some-first_missing c = record {
  first = c.in-Some.first.now;
  begins = sym c.in-Some.ensures.value;
  right = c.in_default-first_wrong.ensures;
  missing = c.in-Some-first_missing.ensures;
}

pub returns-in-None : goal.returns-in-None
returns-in-None c = record {
  first = c.in-Some.first.now;
  begins = sym c.in-Some.ensures.value;
  right = c.in_default-first_wrong.ensures;
  all = c.in-None.ensures;
}
