-- Each table has the words of its lengths.
use Rattle.std.proofs.Common.{◌∙◌, arith}
use Rattle.litmus_lex.proofs.Lengths.{word_of_length, word_of_other_length}
use Rattle.litmus_lex.proofs.words.word_of.Goals as goal

pub returns-in-1 : goal.returns-in-1
returns-in-1 c = word_of_length 1 c.args.name.now c.in-1.is

pub returns-in-2 : goal.returns-in-2
returns-in-2 c = c.look_up.ensures ∙ word_of_length 2 c.args.name.now c.in-2.is

pub returns-in-3 : goal.returns-in-3
returns-in-3 c = c.look_up-in-3.ensures ∙ word_of_length 3 c.args.name.now c.in-3.is

pub returns-in-4 : goal.returns-in-4
returns-in-4 c = c.look_up-in-4.ensures ∙ word_of_length 4 c.args.name.now c.in-4.is

pub returns-in-5 : goal.returns-in-5
returns-in-5 c = c.look_up-in-5.ensures ∙ word_of_length 5 c.args.name.now c.in-5.is

pub returns-in-6 : goal.returns-in-6
returns-in-6 c = c.look_up-in-6.ensures ∙ word_of_length 6 c.args.name.now c.in-6.is

pub returns-in-7 : goal.returns-in-7
returns-in-7 c = c.look_up-in-7.ensures ∙ word_of_length 7 c.args.name.now c.in-7.is

pub returns-in-8 : goal.returns-in-8
returns-in-8 c = c.look_up-in-8.ensures ∙ word_of_length 8 c.args.name.now c.in-8.is

pub returns-in-9 : goal.returns-in-9
returns-in-9 c = c.look_up-in-9.ensures ∙ word_of_length 9 c.args.name.now c.in-9.is

pub returns-in-10 : goal.returns-in-10
returns-in-10 c = c.look_up-in-10.ensures ∙ word_of_length 10 c.args.name.now c.in-10.is

pub returns-in-11 : goal.returns-in-11
returns-in-11 c = c.look_up-in-11.ensures ∙ word_of_length 11 c.args.name.now c.in-11.is

pub returns-in_default : goal.returns-in_default
returns-in_default c = c.look_up-in_default.ensures ∙ word_of_other_length c.args.name.now (omega arith)
