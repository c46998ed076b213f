-- The first byte says what the token is.
use Rattle.std.proofs.Common.{◌∙◌, arith, length-drop, length-take, refl, sym, ℕ}
use Rattle.std.proofs.lemmas.List.{take_rest}
use Rattle.litmus_lex.proofs.Numbers.{name_first, stray_first}
use Rattle.litmus_lex.proofs.next.token_of.Goals as goal

pub returns-in-len1-up-2 : goal.returns-in-len1-up-2
returns-in-len1-up-2 c =
    let within = c.run_len-len.ensures.within in (
      omega (arith, length-take {A = ℕ}, length-drop {A = ℕ}),
      (
        omega arith,
        (
          refl,
          name_first _ _ _ c.in-len1-up.len_at_least (take_rest c.args.bytes.now 1)
              (sym c.has-2.ensures ∙ c.if-has-2.true) c.run_len-len.ensures.run,
        ),
      ),
    )

pub returns-in-None : goal.returns-in-None
returns-in-None c = (
  c.in-len1-up.len_at_least,
  (
    omega arith,
    stray_first _ c.in-len1-up.len_at_least (sym c.has-2.ensures ∙ c.if-has-2.false)
        (sym c.has.ensures ∙ c.if-has.false) c.in-None.ensures.none,
  ),
)
