-- What has come of the checks of a part by its records so far, whatever completes them.
use Rattle.std.proofs.Common.{◌≡◌, ◌∙◌, ◌+◌, ◌++◌, ℕ, List, [], ◌∷◌, Option, ap, append_assoc, arith, inl, inr, length, refl, subst, sym}
use Rattle.std.proofs.lemmas.List.{append-nil, length-append}
use Rattle.access_run.proofs.CheckFronts.{check, framed_checks, moved_twice}
use Rattle.access_run.proofs.WholeLemmas.{last_part, split}
use Rattle.access_run.specs.Access.{MakesAccess}
use Rattle.access_run.specs.Leads.{AccessLeads, StageLeads}
use Rattle.access_run.specs.Moved.{FramedChecks, moved}
use Rattle.access_run.specs.Whole.{IsWhole, NoneWhole}
use Rattle.access_run.specs.declared.access.AccessRun.{AccessRun}
use Rattle.access_run.specs.declared.stage.AccessStage.{AccessStage}
use Rattle.access_run.specs.declared.stage.AccessStage.TheVariants as stages
use Rattle.access_run.specs.declared.memory_operation.effect.Effect.{Effect}
use Rattle.access_run.specs.declared.memory_operation.operation.Operation.{Operation}
use Rattle.setup_access.proofs.FallLemmas.{stage_come}
use Rattle.setup_access.proofs.LeadsLemmas.{outcomes_followed}
use Rattle.setup_access.specs.Check.{Check, Fallen, Passes}
use Rattle.setup_access.specs.Checker.{Checks, Does, Doing}
use Rattle.setup_access.specs.Fallen.{followed, outcomes_in}
use Rattle.setup_access.specs.FallsAt.{AllFallIn}
use Rattle.setup_access.specs.Leads as checks
use Rattle.setup_access.specs.Setting.{Setting}
use Rattle.setup_access.specs.Shown.{outcomes_of}
use Rattle.setup_access.specs.declared.begun.Begun.{Begun}
use Rattle.setup_access.specs.declared.checker.Checker.{Checker}
use Rattle.slot_table.specs.declared.records.Record.{Record}
use Rattle.task_run.proofs.FellLemmas.{AllShorter, HasCome}

followed_both : (rest : List Record) (first second : List Fallen) → followed rest (first ++ second) ≡ followed rest first ++ followed rest second
followed_both rest [] second = refl
followed_both rest (one ∷ others) second =
    ap (λ (f : List Fallen). record one { later = one.later ++ rest } ∷ f) (followed_both rest others second)

followed_again : (first rest : List Record) (fallen : List Fallen) → followed rest (followed first fallen) ≡ followed (first ++ rest) fallen
followed_again first rest fallen = ap (λ (p : Passes). p.outcomes) (moved_twice first rest (record { outcomes = fallen; asked = 0 }))

fall_shorter : (s : Setting) (records rest : List Record) (fallen : List Fallen) → AllFallIn s records fallen
    → AllShorter (length (records ++ rest)) (followed rest fallen)
fall_shorter s records rest [] h = tt
fall_shorter s records rest (one ∷ others) h =
    let falls = h.0 in
    let all : length records ≡ length (falls.0 ++ falls.1 ∷ one.later) = ap (λ (l : List Record). length l) falls.2 in
    let parts : length (falls.0 ++ falls.1 ∷ one.later) ≡ length falls.0 + length (falls.1 ∷ one.later) = length-append falls.0 (falls.1 ∷ one.later) in
    let left : length (one.later ++ rest) ≡ length one.later + length rest = length-append one.later rest in
    let whole : length (records ++ rest) ≡ length records + length rest = length-append records rest in
    (omega (arith, all, parts, left, whole), fall_shorter s records rest others h.1)

module _ (s : Setting) (scopes : List Begun) (doing : Doing) (asked : ℕ) (Begins : List Record → Passes → List Record
    → Type 0) (framed : FramedChecks Begins) where
  -- where the part that is whole is all of these records and more
  more_come : ((records : List Record) (passes : Passes) → Begins records passes [] → Does s scopes doing asked records passes)
      → (mine : List Record) (checker : Checker) (leads : checks.Leads s scopes doing asked mine checker)
      → (later rest more : List Record) (passes alone : Passes) → Begins (mine ++ more) alone [] → passes ≡ moved rest alone → later ≡ more ++ rest
      → HasCome later passes.outcomes leads.fallen
  more_come does mine checker leads later rest more passes alone h is ends =
      let left = (leads.left more alone).0 (does (mine ++ more) alone h) in
      let falls : AllFallIn s more left.0.outcomes = stage_come s scopes checker.stage leads.now more left.0 left.1 in (
        followed rest left.0.outcomes,
        ap (λ (p : Passes). p.outcomes) is
            ∙ (ap (λ (p : Passes). followed rest p.outcomes) left.2
            ∙ (followed_both rest (followed more leads.fallen) left.0.outcomes
            ∙ (ap (λ (f : List Fallen). f ++ followed rest left.0.outcomes) (followed_again more rest leads.fallen)
            ∙ ap (λ (l : List Record). followed l leads.fallen ++ followed rest left.0.outcomes) (sym ends)))),
        subst (λ (l : List Record). AllShorter (length l) (followed rest left.0.outcomes)) (sym ends) (fall_shorter s more rest left.0.outcomes falls),
      )

  -- while the check goes on
  pub going_come : ((records : List Record) (passes : Passes) → Begins records passes [] → Does s scopes doing asked records passes)
      → (mine : List Record) (checker : Checker) (leads : checks.Leads s scopes doing asked mine checker) → NoneWhole Begins mine
      → (later : List Record) (passes : Passes) (rest : List Record) → Begins (mine ++ later) passes rest → HasCome later passes.outcomes leads.fallen
  going_come does mine checker leads none later passes rest h =
      let own = (framed (mine ++ later) passes rest).0 h in
      elim (split mine later own.0 rest own.3) [
        | inl less ↦ absurd (none own.0 less.0 own.1 less.1 own.2)
        | inr more ↦
            more_come does mine checker leads later rest more.0 passes own.1 (subst (λ (l : List Record). Begins l own.1 []) more.1 own.2) own.4 more.2
      ]

  -- and at one record more, with which it may be whole
  pub step_come : ((records : List Record) (passes : Passes) → Begins records passes [] → Does s scopes doing asked records passes)
      → (mine : List Record) (last : Record) (checker : Checker) (leads : checks.Leads s scopes doing asked (mine ++ last ∷ []) checker) → NoneWhole Begins mine
      → (later : List Record) (passes : Passes) (rest : List Record) → Begins ((mine ++ last ∷ []) ++ later) passes rest
      → HasCome later passes.outcomes leads.fallen
  step_come does mine last checker leads none later passes rest h =
      let all : List Record = mine ++ last ∷ [] in
      let own = (framed (all ++ later) passes rest).0 h in
      elim (split all later own.0 rest own.3) [
        | inl less ↦ elim (last_part mine own.0 less.0 last less.1) [
          | inl over ↦
              let part : own.0 ≡ all ++ [] = sym (append-nil all ∙ (less.1 ∙ (ap (λ (l : List Record). own.0 ++ l) over ∙ append-nil own.0))) in
              let same : later ≡ [] ++ rest = sym (less.2 ∙ ap (λ (l : List Record). l ++ later) over) in
              more_come does all checker leads later rest [] passes own.1 (subst (λ (l : List Record). Begins l own.1 []) part own.2) own.4 same
          | inr before ↦ absurd (none own.0 before.0 own.1 before.1 own.2)
        ]
        | inr more ↦
            more_come does all checker leads later rest more.0 passes own.1 (subst (λ (l : List Record). Begins l own.1 []) more.1 own.2) own.4 more.2
      ]

-- once it is whole
whole_come : (Begins : List Record → Passes → List Record → Type 0) (checked done : List Record) (value : Passes) → IsWhole moved Begins checked value
    → (later : List Record) (passes : Passes) (rest : List Record) → Begins ((checked ++ done) ++ later) passes rest
    → HasCome later passes.outcomes (followed done value.outcomes)
whole_come Begins checked done value whole later passes rest h =
    let ends = whole.1 (done ++ later) passes rest (subst (λ (l : List Record). Begins l passes rest) (append_assoc checked done later) h) in (
      [],
      ap (λ (p : Passes). p.outcomes) ends.1
          ∙ (ap (λ (l : List Record). followed l value.outcomes) ends.0
          ∙ (sym (followed_again done later value.outcomes) ∙ sym (append-nil (followed later (followed done value.outcomes))))),
      tt,
    )

module _ (s : Setting) (scopes : List Begun) (begun : Begun) (asked : ℕ) (operation : Option Operation) (mine : List Record) (checker : Checker) where
  abbrev Comes : List Fallen → Type 0
  Comes fallen = (later : List Record) (passes : Passes) (effect : Effect) (rest : List Record)
      → MakesAccess s scopes begun asked operation (mine ++ later) passes effect rest → HasCome later passes.outcomes fallen

  abbrev SoFar : Type 0
  SoFar = (fallen : List Fallen) × (outcomes_of checker ≡ outcomes_in fallen) × Comes fallen

  by_stage : (stage : AccessStage) → StageLeads s scopes begun asked operation mine stage checker → SoFar
  by_stage (stages.Check run) h = (
    h.0.fallen,
    h.0.outcomes,
    λ later passes effect rest makes. going_come s scopes (Checks begun) asked (Check s scopes begun asked)
        (framed_checks (Check s scopes begun asked) (check s scopes begun asked)) (λ records all whole. whole)
        mine checker h.0 h.1 later passes makes.checked makes.check,
  )
  by_stage (stages.Operate run) h = (
    followed h.1 h.3.fallen,
    h.3.outcomes ∙ sym (outcomes_followed h.1 h.3.fallen),
    λ later passes effect rest makes. whole_come (Check s scopes begun asked) h.0 h.1 _ h.3.whole later passes makes.checked
        (subst (λ (l : List Record). Check s scopes begun asked (l ++ later) passes makes.checked) h.2 makes.check),
  )
  by_stage (stages.End effect) h = (
    followed h.1 h.3.fallen,
    h.3.outcomes ∙ sym (outcomes_followed h.1 h.3.fallen),
    λ later passes came rest makes. whole_come (Check s scopes begun asked) h.0 h.1 _ h.3.whole later passes makes.checked
        (subst (λ (l : List Record). Check s scopes begun asked (l ++ later) passes makes.checked) h.2 makes.check),
  )
  by_stage (stages.Over effect) h = (
    h.fallen,
    h.outcomes,
    λ later passes came rest makes. let all = h.alone later passes came rest makes in (
      [],
      ap (λ (p : Passes). p.outcomes) all.1
          ∙ (ap (λ (l : List Record). followed l h.fallen) all.0 ∙ sym (append-nil (followed later h.fallen))),
      tt,
    ),
  )

  pub access_come : (run : AccessRun) → AccessLeads s scopes begun asked operation mine run checker → SoFar
  access_come run leads = by_stage run.stage leads.stage
