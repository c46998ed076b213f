-- What was read before and what was read last are what the source gave, also where there is no
-- memory to keep it.
use Rattle.std.proofs.Common.{◌++◌, ◌∙◌, ℕ, List, Option, Some, None, Result, Ok, Err, append_assoc, ap, arith, length-append, length-take, length-drop, sym, take}
use Rattle.std.specs.Prelude.{OnErr}
use Rattle.std.specs.Io.KnownBytes.{Consumes}
use Rattle.litmus_lex.proofs.source.read_all.Goals as goal

on_err : {T E : Type 0} {P : Type 0} (r : Result T E) → P → OnErr r P
on_err (Ok v) p = tt
on_err (Err e) p = p

consumes-append : (first second third : Option (List ℕ)) (xs ys : List ℕ)
    → Consumes first second xs → Consumes second third ys → Consumes first third (xs ++ ys)
consumes-append None second third xs ys one two = tt
consumes-append (Some first) None third xs ys one two = absurd one
consumes-append (Some first) (Some second) None xs ys one two = absurd two
consumes-append (Some first) (Some second) (Some third) xs ys one two =
    one ∙ (ap (λ zs. xs ++ zs) two ∙ sym (append_assoc xs ys third))

pub returns-in_err-extend_from_slice-clause-refused :
    goal.returns-in_err-extend_from_slice-clause-refused
returns-in_err-extend_from_slice-clause-refused g c =
    let within = c.in-Ok.ensures.within in
    let before = c.loop-buffer.invariant.within in
    let size = length-append c.loop-buffer.bytes.items (take c.in-Ok.count c.read.new.buffer) in
    let more = length-take c.in-Ok.count c.read.new.buffer in
    let held = c.loop-buffer.bytes.ok.0 in
    on_err c.from_residual.result (
      c.loop-buffer.bytes.items ++ take c.in-Ok.count c.read.new.buffer,
      omega (arith, length-take {A = ℕ}, length-drop {A = ℕ}),
      consumes-append _ _ _ c.loop-buffer.bytes.items
          (take c.in-Ok.count c.read.new.buffer) c.loop-buffer.invariant.given
          c.in-Ok.ensures.given,
    )
