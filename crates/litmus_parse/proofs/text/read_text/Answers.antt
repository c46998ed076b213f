-- A text spells one program at most, and a refusal is want of memory where it spells one.
use Rattle.litmus_syntax.specs.Views.{program_of}
use Rattle.litmus_parse.proofs.text.read_text.Goals as goal

pub returns-in-Ok-clause-complete : goal.returns-in-Ok-clause-complete
returns-in-Ok-clause-complete c =
    λ program spells. (
      c.law_a_text_spells_one_program.ensures c.args.text.now (program_of c.in-Ok.reading.program) program
          (c.in-Ok.ensures.spelled spells.size spells.bytes) spells,
      tt,
    )

pub returns-in-Err-clause-complete : goal.returns-in-Err-clause-complete
returns-in-Err-clause-complete c = λ program spells. (tt, c.placed.ensures.memory (c.in-Err.ensures.complete program spells))
