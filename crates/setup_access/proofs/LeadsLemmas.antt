-- A record more of what is done leads to what the checker has left after its answer.
use Rattle.std.proofs.Common.{◌≡◌, ◌↔◌, ◌∷◌, ◌++◌, [], ◌∙◌, ℕ, Bool, true, false, not, IsFalse, IsTrue, List, Option, None, Some, ap, append_assoc, refl, subst, sym}
use Rattle.access_types.specs.Access.{Access}
use Rattle.access_types.specs.History.{History}
use Rattle.access_types.specs.Marked.{CountsAfter, EndsRaised, is_disable, is_enable, marks_of}
use Rattle.access_types.specs.Sites.{AccessMap}
use Rattle.slot_table.specs.Answer.{Answers, IsWord}
use Rattle.slot_table.specs.declared.records.Record.{Record}
use Rattle.slot_table.specs.declared.step.Answer.{Answer}
use Rattle.slot_table.specs.declared.step.Answer.TheVariants as answers
use Rattle.slot_table.specs.declared.step.Step.{Step}
use Rattle.slot_table.specs.declared.step.Step.TheVariants.{Clock}
use Rattle.task_context.specs.Context.{Context}
use Rattle.task_context.specs.History.{LeadsTo}
use Rattle.setup_access.specs.Check.{ChecksBegun, Fallen, Passes}
use Rattle.setup_access.specs.Checker.{Checks, Closes, Does, Doing, HasBegun, IsClosing, RoleLeft, StageLeft, StandsAt, ToRoleLeft, last_of}
use Rattle.setup_access.specs.Due.{extended}
use Rattle.setup_access.specs.Fallen.{followed, outcomes_in}
use Rattle.setup_access.specs.FallsAt.{AllFallIn, GivesAt}
use Rattle.setup_access.specs.Kept.{setting_with}
use Rattle.setup_access.specs.Leads.{Leads, Says, stage_step}
use Rattle.setup_access.specs.OwnAccesses.{AreOwn, IsOwn}
use Rattle.setup_access.specs.Parts.{made}
use Rattle.setup_access.specs.PassLeft.{Given, PassLeft, Samples, TurnLeft, falls_before, pass_step, with_outcome}
use Rattle.setup_access.specs.Records.{OnWord}
use Rattle.setup_access.specs.Setting.{Setting}
use Rattle.setup_access.specs.Shown.{IsDecided}
use Rattle.setup_access.specs.Waiting.{Counts, capped, pass_wait, stage_wait, to_wait}
use Rattle.setup_access.specs.Waits.{wait_after, wait_on}
use Rattle.setup_access.specs.declared.begun.Begun.{Begun}
use Rattle.setup_access.specs.declared.checker.Checker.{Checker}
use Rattle.setup_access.specs.declared.outcome.Outcome.{Outcome}
use Rattle.setup_access.specs.declared.pass.Pass.{Pass}
use Rattle.setup_access.specs.declared.pass.Transition.{Transition}
use Rattle.setup_access.specs.declared.setting.Setting as code
use Rattle.setup_access.specs.declared.stage.Role.{Role}
use Rattle.setup_access.specs.declared.stage.Role.TheVariants as roles
use Rattle.setup_access.specs.declared.stage.CheckStage.{CheckStage}
use Rattle.setup_access.specs.declared.stage.CheckStage.TheVariants as stages
use Rattle.setup_access.proofs.FallLemmas.{falls_extended, falls_followed}
use Rattle.setup_access.proofs.PassLemmas.{through}
use Rattle.setup_access.proofs.WaitLemmas.{wait_after_one}

-- a test that is false is one whose opposite is true
to_false : (b : Bool) → IsTrue (not b) → IsFalse b
to_false true h = absurd (let no : false ≡ true = h in cc)
to_false false h = refl

to_not : (b : Bool) → IsFalse b → IsTrue (not b)
to_not true h = absurd (let no : true ≡ false = h in cc)
to_not false h = refl

pub quiet_is : (b : Bool) (P : Type 0) → (IsFalse b ↔ P) → (IsTrue (not b) ↔ P)
quiet_is b P is = (λ h. is.0 (to_false b h), λ p. to_not b (is.1 p))

-- what is given after the outcomes so far
abbrev pub after : List Fallen → Passes → Passes
after outcomes more = record { outcomes = outcomes ++ more.outcomes; asked = more.asked }

-- what a stage still gives, after the outcomes so far
abbrev pub Still : Setting → List Begun → CheckStage → ℕ → List Fallen → List Record → Passes → Type 0
Still s scopes stage now outcomes records passes = (more : Passes) × StageLeft s scopes stage now records more × (passes ≡ after outcomes more)

-- what has fallen, where more records follow
pub outcomes_followed : (records : List Record) (fallen : List Fallen) → outcomes_in (followed records fallen) ≡ outcomes_in fallen
outcomes_followed records [] = refl
outcomes_followed records (first ∷ others) = ap (λ (o : List Outcome). first.outcome ∷ o) (outcomes_followed records others)

followed_twice : (first : Record) (later : List Record) (fallen : List Fallen) → followed later (followed (first ∷ []) fallen) ≡ followed (first ∷ later) fallen
followed_twice first later [] = refl
followed_twice first later (one ∷ others) =
    ap (λ (r : List Record). record one { later = r } ∷ followed later (followed (first ∷ []) others)) (append_assoc one.later (first ∷ []) later)
    ∙ ap (λ (fs : List Fallen). record one { later = one.later ++ (first ∷ later) } ∷ fs) (followed_twice first later others)

followed_more : (later : List Record) (fallen : List Fallen) (one : Fallen) → followed later (fallen ++ one ∷ []) ≡ followed later fallen ++ record one { later = one.later ++ later } ∷ []
followed_more later [] one = refl
followed_more later (first ∷ others) one = ap (λ (fs : List Fallen). record first { later = first.later ++ later } ∷ fs) (followed_more later others one)

outcomes_more : (fallen : List Fallen) (one : Fallen) → outcomes_in (fallen ++ one ∷ []) ≡ outcomes_in fallen ++ one.outcome ∷ []
outcomes_more [] one = refl
outcomes_more (first ∷ others) one = ap (λ (o : List Outcome). first.outcome ∷ o) (outcomes_more others one)

-- and one more, if there is one
followed_extended : (begun : Begun) (later : List Record) (fallen : List Fallen) (outcome : Option Outcome)
    → followed later (extended fallen (falls_before begun [] outcome)) ≡ extended (followed later fallen) (falls_before begun later outcome)
followed_extended begun later fallen None = refl
followed_extended begun later fallen (Some outcome) = followed_more later fallen (record { access = begun.access; outcome = outcome; later = [] })

outcomes_extended : (begun : Begun) (later : List Record) (fallen : List Fallen) (outcome : Option Outcome)
    → outcomes_in (extended fallen (falls_before begun later outcome)) ≡ extended (outcomes_in fallen) outcome
outcomes_extended begun later fallen None = refl
outcomes_extended begun later fallen (Some outcome) = outcomes_more fallen (record { access = begun.access; outcome = outcome; later = later })

-- a record later an access has begun, and a scope that closes is still this one
stands_on : (doing : Doing) (records : List Record) (first : Record) (then now : CheckStage) → StandsAt doing records then
    → HasBegun now → ((scope : Begun) → IsClosing scope then → IsClosing scope now) → StandsAt doing (records ++ first ∷ []) now
stands_on (Checks begun) [] first then now stands has closes = has
stands_on (Checks begun) (one ∷ others) first then now stands has closes = has
stands_on (Closes scope silenced) records first then now stands has closes = closes scope stands

-- one record more
pub leads_on : (s : Setting) (scopes : List Begun) (doing : Doing) (asked : ℕ) (records : List Record) (old new : Checker) (first : Record) (leads : Leads s scopes doing asked records old) (now : ℕ)
    → new.setting ≡ old.setting → new.scopes.items ≡ old.scopes.items → new.last ≡ old.last → Samples s now new.sampler
    → HasBegun new.stage → ((scope : Begun) → IsClosing scope old.stage → IsClosing scope new.stage)
    → stage_wait new.stage ≡ capped (wait_on (wait_after records) first.step first.answer) → (fallen : List Fallen) → new.outcomes ≡ outcomes_in fallen → AllFallIn s (records ++ first ∷ []) fallen
    → ((later : List Record) (passes : Passes) → Still s scopes old.stage leads.now (followed (first ∷ later) leads.fallen) (first ∷ later) passes ↔ Still s scopes new.stage now (followed later fallen) later passes)
    → Leads s scopes doing asked (records ++ first ∷ []) new
leads_on s scopes doing asked records old new first leads now same_setting same_scopes same_last samples has closes waits fallen outcomes falls step = record {
  stands = stands_on doing records first old.stage new.stage leads.stands has closes;
  falls = falls;
  fallen = fallen;
  outcomes = outcomes;
  setting = ap (λ kept. setting_with kept s.sites) same_setting ∙ leads.setting;
  in_force = same_scopes ∙ leads.in_force;
  own = leads.own;
  last = same_last ∙ leads.last;
  waits = waits ∙ ap capped (sym (wait_after_one None records first));
  now = now;
  samples = samples;
  left = λ later passes.
      let joined : (records ++ first ∷ []) ++ later ≡ records ++ (first ∷ later) = append_assoc records (first ∷ []) later in
      rw joined (through (leads.left (first ∷ later) passes) (step later passes));
}

-- from the beginning
pub leads_first : (s : Setting) (scopes : List Begun) (doing : Doing) (asked : ℕ) (checker : Checker)
    → setting_with checker.setting s.sites ≡ s → checker.scopes.items ≡ scopes → AreOwn s scopes → Samples s asked checker.sampler → checker.outcomes ≡ []
    → checker.last ≡ last_of doing → StandsAt doing [] checker.stage → stage_wait checker.stage ≡ None
    → ((records : List Record) (passes : Passes) → Does s scopes doing asked records passes ↔ StageLeft s scopes checker.stage asked records passes)
    → Leads s scopes doing asked [] checker
leads_first s scopes doing asked checker setting in_force own samples none last stands waits does = record {
  stands = stands;
  setting = setting;
  in_force = in_force;
  own = own;
  last = last;
  waits = waits;
  fallen = [];
  outcomes = none;
  falls = tt;
  now = asked;
  samples = samples;
  left = λ later passes.
      (λ h. (passes, (does later passes).0 h, refl), λ h. subst (λ p. Does s scopes doing asked later p) (sym h.2) ((does later h.0).1 h.1));
}

module _ (s : Setting) (scopes : List Begun) (role : Role) (begun : Begun) (pass : Pass) (turn : Transition) (stage : CheckStage) (then now : ℕ) (first : Record) (later : List Record)
    (left : (given : Given) (rest : List Record) → PassLeft s begun pass then (first ∷ later) given rest ↔ TurnLeft s begun turn now later given rest)
    (leads : (passes : Passes) → ToRoleLeft s scopes turn.to role begun now later passes ↔ StageLeft s scopes stage now later passes) where
  -- an outcome that a turn gives goes to those so far
  joined : (outcomes : List Fallen) (outcome : Option Fallen) (given : Given) (more : Passes)
      → after outcomes (record { outcomes = (with_outcome outcome given).outcomes ++ more.outcomes; asked = more.asked })
      ≡ after (extended outcomes outcome) (record { outcomes = given.outcomes ++ more.outcomes; asked = more.asked })
  joined outcomes None given more = refl
  joined outcomes (Some outcome) given more =
      ap (λ (list : List Fallen). record { outcomes = list; asked = more.asked }) (sym (append_assoc outcomes (outcome ∷ []) (given.outcomes ++ more.outcomes)))

  settled_is : (outcome : Option Fallen) (given : Given) → ((with_outcome outcome given).settled ≡ given.settled) × ((with_outcome outcome given).asked ≡ given.asked)
  settled_is None given = (refl, refl)
  settled_is (Some outcome) given = (refl, refl)

  abbrev fell : Option Fallen
  fell = falls_before begun later turn.outcome

  pub turn_still : (outcomes : List Fallen) (passes : Passes)
      → (Still s scopes (stages.Check role begun pass) then outcomes (first ∷ later) passes ↔ Still s scopes stage now (extended outcomes fell) later passes)
  turn_still outcomes passes = (
    λ h. let check = h.1 in
        let turned = (left check.0 check.1).0 check.3 in
        let role_at : RoleLeft s scopes role (with_outcome fell turned.0).settled (with_outcome fell turned.0).asked check.1 check.2 =
        subst (λ (g : Given). RoleLeft s scopes role g.settled g.asked check.1 check.2) turned.2 check.4 in
        let role_here : RoleLeft s scopes role turned.0.settled turned.0.asked check.1 check.2 =
        subst (λ a. RoleLeft s scopes role turned.0.settled a check.1 check.2) (settled_is fell turned.0).1
        (subst (λ b. RoleLeft s scopes role b (with_outcome fell turned.0).asked check.1 check.2) (settled_is fell turned.0).0 role_at) in
        let still : Passes = record { outcomes = turned.0.outcomes ++ check.2.outcomes; asked = check.2.asked } in
        let is : passes ≡ after outcomes (record { outcomes = (with_outcome fell turned.0).outcomes ++ check.2.outcomes; asked = check.2.asked }) =
        h.2 ∙ ap (after outcomes) (check.5 ∙ ap (λ (g : Given). record { outcomes = g.outcomes ++ check.2.outcomes; asked = check.2.asked }) turned.2) in
        (still, (leads still).0 (turned.0, check.1, check.2, turned.1, role_here, refl), is ∙ joined outcomes fell turned.0 check.2),
    λ h. let to = (leads h.0).1 h.1 in
        let given : Given = with_outcome fell to.0 in
        let role_here : RoleLeft s scopes role given.settled given.asked to.1 to.2 =
        subst (λ a. RoleLeft s scopes role given.settled a to.1 to.2) (sym (settled_is fell to.0).1)
        (subst (λ b. RoleLeft s scopes role b to.0.asked to.1 to.2) (sym (settled_is fell to.0).0) to.4) in (
          record { outcomes = given.outcomes ++ to.2.outcomes; asked = to.2.asked },
          (given, to.1, to.2, (left given to.1).1 (to.0, to.3, refl), role_here, refl),
          h.2 ∙ (ap (after (extended outcomes fell)) to.5 ∙ sym (joined outcomes fell to.0 to.2)),
        ),
  )

-- what an option has is one
some_is : (first second : Step) → Some second ≡ Some first → first ≡ second
some_is first second is = cc

-- the step that the checker is before, in the setting that it has
said : (s : Setting) (checker : Checker) (step : Step) → setting_with checker.setting s.sites ≡ s → Says checker step → stage_step s checker.stage ≡ Some step
said s checker step setting says = subst (λ (t : Setting). stage_step t checker.stage ≡ Some step) setting (says s.sites)

-- an answer to the step that the checker is before is of the kind of this one, if that is what its stage says
pub said_kind : (checker : Checker) (sites : AccessMap) (stage : CheckStage) (step other : Step) (answer : Answer) → checker.stage ≡ stage → Says checker step → Answers step answer
    → stage_step (setting_with checker.setting sites) stage ≡ Some other → Answers other answer
said_kind checker sites stage step other answer is says kind here =
    let there : stage_step (setting_with checker.setting sites) stage ≡ Some step = subst (λ x. stage_step (setting_with checker.setting sites) x ≡ Some step) is (says sites) in
    subst (λ x. Answers x answer) (some_is step other (sym here ∙ there)) kind

-- at rest it is before none
pub rest_says_none : (checker : Checker) (sites : AccessMap) (step : Step) → checker.stage ≡ stages.Rest → Says checker step → ⊥
rest_says_none checker sites step is says =
    let no : None ≡ Some step = subst (λ x. stage_step (setting_with checker.setting sites) x ≡ Some step) is (says sites) in cc

module _ (s : Setting) (kept : code.Setting) (context : Context) (access : Access) (setting : setting_with kept s.sites ≡ s) (task : access.task ≡ s.task) where
  -- what is so of a setting that is kept is so of the setting
  pub in_setting : (P : Bool → ℕ → Type 0) → P kept.rules.plain_writes_atomic access.task → P s.rules.plain_writes_atomic s.task
  in_setting P here =
      let plain : P s.rules.plain_writes_atomic access.task = subst (λ p. P p access.task) (ap (λ (t : Setting). t.rules.plain_writes_atomic) setting) here in
      subst (λ n. P s.rules.plain_writes_atomic n) task plain

  -- what an access counts as is what its context says
  pub decided : (begun : Begun) (enabled : Bool) → begun.access ≡ access → begun.silenced ≡ not enabled
      → ((moments : History) → LeadsTo kept.rules.plain_writes_atomic access.task moments context → (IsTrue begun.marked ↔ CountsAfter kept.rules.plain_writes_atomic access moments))
      → ((plain : Bool) (whose : ℕ) (moments : History) → LeadsTo plain whose moments context → (IsFalse enabled ↔ EndsRaised is_disable is_enable (marks_of whose moments)))
      → IsDecided s context begun
  decided begun enabled same silenced counts quiet = record {
    marked = subst (λ (a : Access). (moments : History) → LeadsTo s.rules.plain_writes_atomic s.task moments context → (IsTrue begun.marked ↔ CountsAfter s.rules.plain_writes_atomic a moments)) (sym same)
        (in_setting (λ p n. (moments : History) → LeadsTo p n moments context → (IsTrue begun.marked ↔ CountsAfter p access moments)) counts);
    silenced = λ moments leads. rw silenced
        (quiet_is enabled (EndsRaised is_disable is_enable (marks_of s.task moments)) (quiet s.rules.plain_writes_atomic s.task moments leads));
  }

-- the answer is a word where the clock gives it
on_word : (answer : Answer) (P : Type 0) → IsWord answer → (OnWord answer (λ word. P) ↔ P)
on_word (answers.Word word) P is = (λ p. p, λ p. p)
on_word (answers.Flag flag) P is = absurd is
on_word (answers.Halves setter finder) P is = absurd is
on_word answers.Done P is = absurd is

module _ (s : Setting) (sites : AccessMap) (scopes : List Begun) (doing : Doing) (asked : ℕ) (records : List Record) (old new : Checker) (step : Step) (answer : Answer) where
  -- the stamp of a begin was drawn
  pub begin_on : (begun : Begun) → s.sites ≡ sites → Leads s scopes doing asked records old → old.stage ≡ stages.Begin begun → Says old step
      → new.setting ≡ old.setting → new.scopes.items ≡ old.scopes.items → new.last ≡ old.last → new.outcomes ≡ old.outcomes → IsWord answer → HasBegun new.stage → stage_wait new.stage ≡ None
      → ((in_force : List Begun) (then : ℕ) → Samples (setting_with old.setting sites) then old.sampler → (now : ℕ) × Samples (setting_with old.setting sites) now new.sampler
      × ((left : List Record) (passes : Passes) → ChecksBegun (setting_with old.setting sites) in_force begun then left passes [] ↔ StageLeft (setting_with old.setting sites) in_force new.stage now left passes))
      → Leads s scopes doing asked (records ++ made s.task step answer ∷ []) new
  begin_on begun same_sites leads stage says same_setting same_scopes same_last same_outcomes word has waits began =
      let s_is : setting_with old.setting sites ≡ s = ap (λ (x : AccessMap). setting_with old.setting x) (sym same_sites) ∙ leads.setting in
      let here : Began s = subst Began s_is began in
      let goes = here scopes leads.now leads.samples in
      let step_is : step ≡ Clock = some_is step Clock (subst (λ x. stage_step s x ≡ Some step) stage (said s old step leads.setting says)) in
      rw step_is
      (leads_on s scopes doing asked records old new (made s.task Clock answer) leads goes.0 same_setting same_scopes same_last goes.1
      has (λ scope closes. absurd (subst (IsClosing scope) stage closes)) waits (followed (made s.task Clock answer ∷ []) leads.fallen)
      (same_outcomes ∙ (leads.outcomes ∙ sym (outcomes_followed (made s.task Clock answer ∷ []) leads.fallen)))
      (falls_followed s records (made s.task Clock answer ∷ []) leads.fallen leads.falls)
      (λ later passes. rw (stage, followed_twice (made s.task Clock answer) later leads.fallen) (
        λ h. (h.0, (goes.2 later h.0).0 ((on_word answer (ChecksBegun s scopes begun leads.now later h.0 []) word).0 h.1.2), h.2),
        λ h. (h.0, (refl, refl, (on_word answer (ChecksBegun s scopes begun leads.now later h.0 []) word).1 ((goes.2 later h.0).1 h.1)), h.2),
      )))
    where
      Began : Setting → Type 0
      Began t = (in_force : List Begun) (then : ℕ) → Samples t then old.sampler → (now : ℕ) × Samples t now new.sampler
          × ((left : List Record) (passes : Passes) → ChecksBegun t in_force begun then left passes [] ↔ StageLeft t in_force new.stage now left passes)

  -- a check of an access went on
  pub check_on : (role : Role) (begun : Begun) (pass : Pass) (turn : Transition) → s.sites ≡ sites → Leads s scopes doing asked records old → old.stage ≡ stages.Check role begun pass → Says old step
      → new.setting ≡ old.setting → new.scopes.items ≡ old.scopes.items → new.last ≡ old.last → new.outcomes ≡ extended old.outcomes turn.outcome
      → Counts (pass_wait pass) (pass_step (setting_with old.setting sites) begun pass) answer (to_wait turn.to) → stage_wait new.stage ≡ to_wait turn.to
      → GivesAt (setting_with old.setting sites) begun.access turn.outcome (made (setting_with old.setting sites).task (pass_step (setting_with old.setting sites) begun pass) answer)
      → ((then : ℕ) → Samples (setting_with old.setting sites) then old.sampler → (now : ℕ) × Samples (setting_with old.setting sites) now new.sampler
      × ((given : Given) (later rest : List Record) → PassLeft (setting_with old.setting sites) begun pass then
      (made (setting_with old.setting sites).task (pass_step (setting_with old.setting sites) begun pass) answer ∷ later) given rest
      ↔ TurnLeft (setting_with old.setting sites) begun turn now later given rest))
      → ((t : Setting) (now : ℕ) (left : List Record) (passes : Passes) → ToRoleLeft t old.scopes.items turn.to role begun now left passes ↔ StageLeft t old.scopes.items new.stage now left passes)
      → HasBegun new.stage → (role ≡ roles.Closing → IsClosing begun new.stage)
      → Leads s scopes doing asked (records ++ made s.task step answer ∷ []) new
  check_on role begun pass turn same_sites leads stage says same_setting same_scopes same_last outcomes counts waits gives answered after_turn has closing =
      let s_is : setting_with old.setting sites ≡ s = ap (λ (x : AccessMap). setting_with old.setting x) (sym same_sites) ∙ leads.setting in
      let here : Answered s = subst Answered s_is answered in
      let goes = here leads.now leads.samples in
      let step_is : step ≡ pass_step s begun pass = some_is step (pass_step s begun pass) (subst (λ x. stage_step s x ≡ Some step) stage (said s old step leads.setting says)) in
      let counted : Counts (pass_wait pass) (pass_step s begun pass) answer (to_wait turn.to) =
      subst (λ (t : Setting). Counts (pass_wait pass) (pass_step t begun pass) answer (to_wait turn.to)) s_is counts in
      let gives_here : GivesAt s begun.access turn.outcome (made s.task (pass_step s begun pass) answer) =
      subst (λ (t : Setting). GivesAt t begun.access turn.outcome (made t.task (pass_step t begun pass) answer)) s_is gives in
      let waited : stage_wait new.stage ≡ capped (wait_on (wait_after records) (pass_step s begun pass) answer) =
      waits ∙ counted (wait_after records) (sym (ap stage_wait stage) ∙ leads.waits) in
      let turned : (t : Setting) (now : ℕ) (left : List Record) (passes : Passes) → ToRoleLeft t scopes turn.to role begun now left passes ↔ StageLeft t scopes new.stage now left passes =
      subst (λ (x : List Begun). (t : Setting) (now : ℕ) (left : List Record) (passes : Passes) → ToRoleLeft t x turn.to role begun now left passes ↔ StageLeft t x new.stage now left passes) leads.in_force after_turn in
      let closes : (scope : Begun) → IsClosing scope old.stage → IsClosing scope new.stage =
      λ scope h. let is = subst (IsClosing scope) stage h in subst (λ b. IsClosing b new.stage) is.1 (closing is.0) in
      rw step_is
      (leads_on s scopes doing asked records old new (made s.task (pass_step s begun pass) answer) leads goes.0 same_setting same_scopes same_last goes.1 has closes waited
      (extended (followed (made s.task (pass_step s begun pass) answer ∷ []) leads.fallen) (falls_before begun [] turn.outcome))
      (outcomes ∙ (ap (λ (o : List Outcome). extended o turn.outcome) (leads.outcomes ∙ sym (outcomes_followed (made s.task (pass_step s begun pass) answer ∷ []) leads.fallen))
      ∙ sym (outcomes_extended begun [] (followed (made s.task (pass_step s begun pass) answer ∷ []) leads.fallen) turn.outcome)))
      (falls_extended s begun records (made s.task (pass_step s begun pass) answer) _ turn.outcome
      (falls_followed s records (made s.task (pass_step s begun pass) answer ∷ []) leads.fallen leads.falls) gives_here)
      (λ later passes. rw (
        stage,
        followed_extended begun later (followed (made s.task (pass_step s begun pass) answer ∷ []) leads.fallen) turn.outcome,
        followed_twice (made s.task (pass_step s begun pass) answer) later leads.fallen,
      )
      (turn_still s scopes role begun pass turn new.stage leads.now goes.0 (made s.task (pass_step s begun pass) answer) later
      (λ given rest. goes.2 given later rest) (turned s goes.0 later) (followed (made s.task (pass_step s begun pass) answer ∷ later) leads.fallen) passes)))
    where
      Answered : Setting → Type 0
      Answered t = (then : ℕ) → Samples t then old.sampler → (now : ℕ) × Samples t now new.sampler
          × ((given : Given) (later rest : List Record) → PassLeft t begun pass then (made t.task (pass_step t begun pass) answer ∷ later) given rest ↔ TurnLeft t begun turn now later given rest)

  -- the stamp of an end was drawn
  pub end_on : (scope : Begun) → Leads s scopes doing asked records old → old.stage ≡ stages.End scope → Says old step
      → new.setting ≡ old.setting → new.scopes.items ≡ old.scopes.items → new.last ≡ old.last → new.outcomes ≡ old.outcomes → new.sampler ≡ old.sampler → new.stage ≡ stages.Rest → IsWord answer
      → Leads s scopes doing asked (records ++ made s.task step answer ∷ []) new
  end_on scope leads stage says same_setting same_scopes same_last same_outcomes same_sampler rests word =
      let step_is : step ≡ Clock = some_is step Clock (subst (λ x. stage_step s x ≡ Some step) stage (said s old step leads.setting says)) in
      rw step_is
      (leads_on s scopes doing asked records old new (made s.task Clock answer) leads leads.now same_setting same_scopes same_last
      (subst (λ x. Samples s leads.now x) (sym same_sampler) leads.samples)
      (rw rests tt) (λ closed h. rw rests tt) (ap stage_wait rests) (followed (made s.task Clock answer ∷ []) leads.fallen)
      (same_outcomes ∙ (leads.outcomes ∙ sym (outcomes_followed (made s.task Clock answer ∷ []) leads.fallen)))
      (falls_followed s records (made s.task Clock answer ∷ []) leads.fallen leads.falls)
      (λ later passes. rw (stage, rests, followed_twice (made s.task Clock answer) later leads.fallen) (
        λ h. (h.0, (h.1.0, (on_word answer ([] ≡ later) word).0 h.1.1.2), h.2),
        λ h. (h.0, (h.1.0, (refl, refl, (on_word answer ([] ≡ later) word).1 h.1.1)), h.2),
      )))

-- the assertion at the end of a list of own ones is own, and so are those before it
pub own_ends : (s : Setting) (scopes : List Begun) (scope : Begun) → AreOwn s (scopes ++ scope ∷ []) → AreOwn s scopes × IsOwn s scope.access
own_ends s [] scope h = (tt, h.0)
own_ends s (first ∷ scopes) scope h = let more = own_ends s scopes scope h.1 in ((h.0, more.0), more.1)

-- and one more is
pub own_more : (s : Setting) (scopes : List Begun) (scope : Begun) → AreOwn s scopes → IsOwn s scope.access → AreOwn s (scopes ++ scope ∷ [])
own_more s [] scope all own = (own, tt)
own_more s (first ∷ scopes) scope all own = (all.0, own_more s scopes scope all.1 own)

-- a list that ends with a value is not empty
ends : {A : Type 0} (xs : List A) (x : A) → [] ≡ xs ++ x ∷ [] → ⊥
ends [] x h = cc
ends (y ∷ ys) x h = cc

-- two lists that end with one value are the same if they are with it
pub same_ends : {A : Type 0} (xs ys : List A) (x y : A) → xs ++ x ∷ [] ≡ ys ++ y ∷ [] → (xs ≡ ys) × (x ≡ y)
same_ends [] [] x y h = (refl, cc)
same_ends [] (b ∷ bs) x y h = absurd (ends bs y cc)
same_ends (a ∷ others) [] x y h = absurd (ends others x cc)
same_ends (a ∷ others) (b ∷ bs) x y h = let tail = same_ends others bs x y cc in (let same = tail.0 in cc, tail.1)
