-- The whole body of a process.
use Rattle.std.proofs.Common.{◌≡◌, ◌∙◌, ℕ, ◌+◌, ◌<◌, ◌≤◌, List, [], false, Some, map, sym, ap, arith}
use Rattle.std.specs.Prelude.{replicate}
use Rattle.litmus_syntax.specs.Limits.{BodyKeepsLimits, block_count, block_repeats}
use Rattle.litmus_syntax.specs.Tree as tree
use Rattle.litmus_lex.specs.Words.{Symbol}
use Rattle.litmus_expression.specs.Followed.{Differ, name_of}
use Rattle.litmus_expression.specs.Names.{Names, Parameter}
use Rattle.litmus_expression.specs.Places.{outermost}
use Rattle.litmus_expression.specs.States.{State}
use Rattle.litmus_expression.proofs.Complete.{placed}
use Rattle.litmus_expression.proofs.Taken.{same_given}
use Rattle.litmus_body.specs.StatementReader.{block_at}
use Rattle.litmus_body.specs.Statements.{Statements}
use Rattle.litmus_body.specs.statement_laws.Spelled.{begins_body}
use Rattle.litmus_body.proofs.statement_laws.Complete.{block_there, more_is_read}
use Rattle.litmus_body.proofs.statement_laws.Places.{counters_none}

module _ (P : List Parameter) (apart : Differ (map name_of P)) where
  pub whole_is_read : (middle rest : List Symbol) (body : tree.Block) (registers : Names) → Statements P 1 [] [] middle body rest registers
      → BodyKeepsLimits body
      → block_at outermost (begins_body P middle) ≡ Some (body, placed P (block_count body) rest registers (block_repeats 1 body))
  whole_is_read middle rest body registers spelled keeps =
      let a : 0 + block_count body ≤ 256 = omega (arith, keeps.statements) in
      let b : 0 + block_repeats 1 body ≤ 1024 = omega (arith, keeps.repeats) in
      let one : 0 + block_count body ≡ block_count body = omega arith in
      let two : 0 + block_repeats 1 body ≡ block_repeats 1 body = omega arith in
      let few_none : 0 ≤ 32 = omega arith in
      let few_below : 0 < 16 = omega arith in
      block_there P apart 0 0 1 (replicate 32 false) middle [] 0 0 (Some (
        body,
        placed P (0 + block_count body) rest registers
            (0 + block_repeats 1 body),
      )) few_below
      (more_is_read P apart spelled 0 1 (replicate 32 false) 0 0 tree.empty
      (record { are = counters_none; named = record { differ = tt; few = few_none } })
      (record { statements = a; repeats = b; turns = keeps.turns; scopes = keeps.scopes }))
      ∙ ap (λ (i : ℕ). Some (body, placed P i rest registers (0 + block_repeats 1 body))) one
      ∙ ap (λ (i : ℕ). Some (body, placed P (block_count body) rest registers i)) two

  -- two bodies that are spelled by the same symbols are one
  pub one_body : (middle rest_one rest_two : List Symbol) (one two : tree.Block) (registers_one registers_two : Names)
      → Statements P 1 [] [] middle one rest_one registers_one → BodyKeepsLimits one
      → Statements P 1 [] [] middle two rest_two registers_two → BodyKeepsLimits two
      → (one ≡ two) × (rest_one ≡ rest_two) × (registers_one ≡ registers_two)
  one_body middle rest_one rest_two one two registers_one registers_two spelled_one keeps_one spelled_two keeps_two =
      let same = same_given (one, placed P (block_count one) rest_one registers_one (block_repeats 1 one))
      (two, placed P (block_count two) rest_two registers_two (block_repeats 1 two))
      (sym (whole_is_read middle rest_one one registers_one spelled_one keeps_one) ∙ whole_is_read middle rest_two two registers_two spelled_two keeps_two) in
      (ap (λ (x : tree.Block × State). x.0) same, ap (λ (x : tree.Block × State). x.1.symbols) same, ap (λ (x : tree.Block × State). x.1.names) same)
