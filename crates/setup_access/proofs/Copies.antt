-- What is said of a checker is so of its copy.
use Rattle.std.proofs.Common.{◌≡◌, ◌↔◌, ◌∙◌, ◌++◌, ℕ, List, Option, ap, refl, subst, sym}
use Rattle.slot_table.specs.declared.records.Record.{Record}
use Rattle.slot_table.specs.declared.step.Step.{Step}
use Rattle.task_context.specs.Context.{Context}
use Rattle.setup_access.specs.Check.{Fallen, Passes}
use Rattle.setup_access.specs.Checker.{Does, Doing, StageLeft, StandsAt}
use Rattle.setup_access.specs.Copies.{IsCopy}
use Rattle.setup_access.specs.Fallen.{followed}
use Rattle.setup_access.specs.Kept.{setting_with}
use Rattle.setup_access.specs.Leads.{IsComplete, Leads, Rests, Says, stage_step}
use Rattle.setup_access.specs.Lending.{with_context}
use Rattle.setup_access.specs.PassLeft.{Samples}
use Rattle.setup_access.specs.Setting as spec
use Rattle.setup_access.specs.Shown.{context_of, outcomes_of}
use Rattle.setup_access.specs.Waiting.{stage_wait}
use Rattle.setup_access.specs.declared.begun.Begun.{Begun}
use Rattle.setup_access.specs.declared.checker.Checker.{Checker}
use Rattle.setup_access.specs.declared.stage.CheckStage.{CheckStage}

-- what the records lead to, where it stands at this stage
abbrev Left : spec.Setting → List Begun → Doing → ℕ → List Record → ℕ → List Fallen → CheckStage → Type 0
Left s scopes doing asked records now fallen stage = (later : List Record) (passes : Passes) → Does s scopes doing asked (records ++ later) passes
    ↔ ((more : Passes) × StageLeft s scopes stage now later more × (passes ≡ record { outcomes = followed later fallen ++ more.outcomes; asked = more.asked }))

module _ (checker copy : Checker) (same : IsCopy checker copy) where
  -- a checker is a copy of its copy
  pub copies_back : IsCopy copy checker
  copies_back = record {
    setting = λ sites. sym (same.setting sites);
    in_force = sym same.in_force;
    context = sym same.context;
    sampler = sym same.sampler;
    last = sym same.last;
    stage = sym same.stage;
    outcomes = sym same.outcomes;
    room = sym same.room;
  }

  pub copies_have_context : context_of copy ≡ context_of checker
  copies_have_context = same.context

  pub copies_have_outcomes : outcomes_of copy ≡ outcomes_of checker
  copies_have_outcomes = same.outcomes

  pub copies_take_context : (w : Context) → IsCopy (with_context checker w) (with_context copy w)
  copies_take_context w = record {
    setting = same.setting;
    in_force = same.in_force;
    context = refl;
    sampler = same.sampler;
    last = same.last;
    stage = same.stage;
    outcomes = same.outcomes;
    room = same.room;
  }

  pub copies_rest : (s : spec.Setting) (scopes : List Begun) (asked : ℕ) (last : Option Begun)
      → Rests s scopes asked last checker → Rests s scopes asked last copy
  copies_rest s scopes asked last rests = record {
    setting = same.setting s.sites ∙ rests.setting;
    in_force = same.in_force ∙ rests.in_force;
    own = rests.own;
    samples = subst (Samples s asked) (sym same.sampler) rests.samples;
    may_open = same.last ∙ rests.may_open;
    stage = same.stage ∙ rests.stage;
  }

  pub copies_lead : (s : spec.Setting) (scopes : List Begun) (doing : Doing) (asked : ℕ) (records : List Record)
      → Leads s scopes doing asked records checker → Leads s scopes doing asked records copy
  copies_lead s scopes doing asked records leads = record {
    setting = same.setting s.sites ∙ leads.setting;
    in_force = same.in_force ∙ leads.in_force;
    own = leads.own;
    last = same.last ∙ leads.last;
    now = leads.now;
    samples = subst (Samples s leads.now) (sym same.sampler) leads.samples;
    waits = ap stage_wait same.stage ∙ leads.waits;
    fallen = leads.fallen;
    outcomes = same.outcomes ∙ leads.outcomes;
    falls = leads.falls;
    stands = subst (StandsAt doing records) (sym same.stage) leads.stands;
    left = subst (λ (stage : CheckStage). Left s scopes doing asked records leads.now leads.fallen stage) (sym same.stage) leads.left;
  }

  pub copies_are_complete : (s : spec.Setting) (scopes : List Begun) (doing : Doing) (asked : ℕ) (records : List Record)
      → IsComplete s scopes doing asked records checker → IsComplete s scopes doing asked records copy
  copies_are_complete s scopes doing asked records complete = record {
    now = complete.now;
    fallen = complete.fallen;
    outcomes = same.outcomes ∙ complete.outcomes;
    does = complete.does;
    ends = complete.ends;
    rests = copies_rest s scopes complete.now _ complete.rests;
  }

  pub copies_say : (step : Step) → Says checker step → Says copy step
  copies_say step says sites = ap (λ (t : spec.Setting). stage_step t copy.stage) (same.setting sites)
      ∙ ap (stage_step (setting_with checker.setting sites)) same.stage ∙ says sites
