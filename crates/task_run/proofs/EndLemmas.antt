-- Where a task stands once a part of its text is over, and that nothing else comes of the part.
use Rattle.std.proofs.Common.{◌≡◌, ◌↔◌, ◌∙◌, ◌++◌, ◌<◌, ℕ, Bool, true, false, IsTrue, List, [], ◌∷◌, MatchBool, Option, ap, drop, refl, subst, sym}
use Rattle.std.specs.Coded.{le_prop}
use Rattle.access_run.specs.Access.{MakesAccess}
use Rattle.access_run.specs.Leads.{AccessIsComplete}
use Rattle.access_run.specs.Moved.{moved}
use Rattle.access_run.specs.Whole.{IsWhole}
use Rattle.access_run.proofs.CheckFronts.{check, close, framed_checks, makes_access}
use Rattle.access_types.specs.Access as access
use Rattle.access_types.specs.declared.history.Happening.TheVariants.{Begin, End}
use Rattle.access_run.specs.memory_operation.Locks.{TakesLock}
use Rattle.access_run.specs.memory_operation.Operations.{Operates}
use Rattle.access_run.specs.declared.memory_operation.effect.Effect.{Effect}
use Rattle.access_run.specs.declared.memory_operation.operation.Operation.{Operation}
use Rattle.setup_access.specs.Check.{Check, Close, Fallen, Passes}
use Rattle.setup_access.specs.declared.begun.Begun.{Begun}
use Rattle.setup_access.specs.declared.checker.Checker.{Checker}
use Rattle.setup_access.proofs.LeadsLemmas.{same_ends}
use Rattle.slot_table.specs.declared.records.Record.{Record}
use Rattle.slot_table.specs.declared.step.Answer.{Answer}
use Rattle.slot_table.specs.declared.step.Answer.TheVariants as answers
use Rattle.setup_access.specs.Records.{OnFlag}
use Rattle.task_plan.specs.Left.{ClosesNewest}
use Rattle.program_order.specs.Access.{Makes, operated}
use Rattle.program_order.specs.Standing.{BeginsNow, IsDisabled, Setting, Standing, checks_of, doing}
use Rattle.program_order.specs.WrittenOrder.{OpensScope}

abbrev pub passes_of : ℕ → List Fallen → Passes
passes_of asked outcomes = record { outcomes = outcomes; asked = asked }

-- two answers to one question are one
pub one_answer : (a b : Bool) (P : Type 0) → (IsTrue a ↔ P) → (IsTrue b ↔ P) → a ≡ b
one_answer true true P one other = refl
one_answer true false P one other = let no : false ≡ true = other.1 (one.0 refl) in cc
one_answer false true P one other = let no : false ≡ true = one.1 (other.0 refl) in cc
one_answer false false P one other = refl

-- what is decided of an access when it begins makes it what it is
begun_is : (one other : Begun) → one.access ≡ other.access → one.marked ≡ other.marked → one.silenced ≡ other.silenced → one ≡ other
begun_is one other same marked silenced =
    let here : one ≡ record { access = other.access; marked = one.marked; silenced = one.silenced; has_bytes = other.has_bytes } =
    subst (λ (a : access.Access). (h : 0 < a.size) → one ≡ record { access = a; marked = one.marked; silenced = one.silenced; has_bytes = h }) same
    (λ h. ap (λ (g : 0 < one.access.size). record { access = one.access; marked = one.marked; silenced = one.silenced; has_bytes = g }) (le_prop one.has_bytes h))
    other.has_bytes in
    here ∙ (ap (λ (m : Bool). record { access = other.access; marked = m; silenced = one.silenced; has_bytes = other.has_bytes }) marked
    ∙ ap (λ (l : Bool). record { access = other.access; marked = other.marked; silenced = l; has_bytes = other.has_bytes }) silenced)

pub begins_one : (s : Setting) (before : Standing) (a : access.Access) (one other : Begun) → BeginsNow s before a one → BeginsNow s before a other
    → one ≡ other
begins_one s before a one other first second =
    let accesses : one.access ≡ other.access = first.access ∙ sym second.access in
    begun_is one other accesses (one_answer one.marked other.marked _ first.marked second.marked) (one_answer one.silenced other.silenced _ first.silenced second.silenced)

module _ (s : Setting) (before : Standing) (a : access.Access) (operation : Option Operation) (begun : Begun) (mine : List Record) (effect : Effect)
    (checker : Checker) (begins : BeginsNow s before a begun)
    (complete : AccessIsComplete (checks_of s) before.scopes begun before.asked operation mine effect checker) where
  -- where the task stands after an access whose check and operation end so
  abbrev accessed : List Record → List Record → Effect → List Record → Passes → List Record → Standing
  accessed records checked came done passes later =
      let began : Standing = doing before (drop 1 records) (Begin a ∷ []) in
      record (doing (operated a operation began checked came done) later (End a ∷ [])) { asked = passes.asked; outcomes = before.outcomes ++ passes.outcomes }

  -- where it stands after this access
  abbrev pub after_access : List Record → Standing
  after_access later =
      accessed (mine ++ later) (complete.makes.checked ++ later) effect (complete.makes.done ++ later) (moved later (passes_of complete.now complete.fallen)) later

  pub access_made : (later : List Record) → Makes s before a operation (mine ++ later) effect (after_access later) later
  access_made later =
      let passes : Passes = passes_of complete.now complete.fallen in
      let Begins : List Record → Passes → List Record → Type 0 = λ r p l. MakesAccess (checks_of s) before.scopes begun before.asked operation r p effect l in
      let all : Begins (mine ++ later) (moved later passes) later =
      (framed_checks Begins (makes_access (checks_of s) before.scopes begun before.asked operation effect) (mine ++ later) (moved later passes) later).1
      (mine, passes, complete.makes, refl, refl) in
      let own = complete.alone later (moved later passes) effect later all in record {
        begun = begun;
        passes = moved later passes;
        checked = all.checked;
        done = all.done;
        begins = begins;
        check = all.check;
        operates = subst (λ (x : access.Access). Operates (checks_of s) x operation all.checked effect all.done) begins.access all.operates;
        ends = all.ends;
        comes_to = ap (λ (c : List Record). accessed (mine ++ later) c effect (complete.makes.done ++ later) (moved later passes) later) (sym own.3)
            ∙ ap (λ (d : List Record). accessed (mine ++ later) all.checked effect d (moved later passes) later) (sym own.4);
      }

  pub access_only : (later : List Record) (came : Effect) (between : Standing) (rest : List Record) → Makes s before a operation (mine ++ later) came between rest
      → (came ≡ effect) × (rest ≡ later) × (between ≡ after_access later)
  access_only later came between rest made =
      let passes : Passes = passes_of complete.now complete.fallen in
      let same : made.begun ≡ begun = begins_one s before a made.begun begun made.begins begins in
      let all : MakesAccess (checks_of s) before.scopes begun before.asked operation (mine ++ later) made.passes came rest = record {
        checked = made.checked;
        done = made.done;
        check = subst (λ (b : Begun). Check (checks_of s) before.scopes b before.asked (mine ++ later) made.passes made.checked) same made.check;
        operates = subst (λ (x : access.Access). Operates (checks_of s) x operation made.checked came made.done) (sym begins.access) made.operates;
        ends = made.ends;
      } in
      let own = complete.alone later made.passes came rest all in (
        own.2,
        own.0,
        made.comes_to
            ∙ (ap (λ (c : List Record). accessed (mine ++ later) c came made.done made.passes rest) own.3
            ∙ (ap (λ (e : Effect). accessed (mine ++ later) (complete.makes.checked ++ later) e made.done made.passes rest) own.2
            ∙ (ap (λ (d : List Record). accessed (mine ++ later) (complete.makes.checked ++ later) effect d made.passes rest) own.4
            ∙ (ap (λ (p : Passes). accessed (mine ++ later) (complete.makes.checked ++ later) effect (complete.makes.done ++ later) p rest) own.1
            ∙ ap (λ (r : List Record). accessed (mine ++ later) (complete.makes.checked ++ later) effect (complete.makes.done ++ later) (moved r passes) r) own.0)))),
      )

module _ (s : Setting) (before : Standing) (a : access.Access) (begun : Begun) (mine : List Record) (passes : Passes) (begins : BeginsNow s before a begun)
    (whole : IsWhole moved (Check (checks_of s) before.scopes begun before.asked) mine passes) where
  -- where the task stands after the check of a scoped assertion
  abbrev opened_by : Passes → Standing → Standing
  opened_by all began = record began { asked = all.asked; scopes = before.scopes ++ begun ∷ []; outcomes = before.outcomes ++ all.outcomes }

  abbrev pub after_opening : List Record → Standing
  after_opening later = opened_by (moved later passes) (doing before (drop 1 (mine ++ later)) (Begin a ∷ []))

  pub scope_opened : (later : List Record) → OpensScope s before a (mine ++ later) begun (after_opening later) later
  scope_opened later = record {
    passes = moved later passes;
    begins = begins;
    check = (framed_checks (Check (checks_of s) before.scopes begun before.asked) (check (checks_of s) before.scopes begun before.asked)
        (mine ++ later) (moved later passes) later).1 (mine, passes, whole.0, refl, refl);
    comes_to = refl;
  }

  pub opening_only : (later : List Record) (other : Begun) (opened : Standing) (inside : List Record) → OpensScope s before a (mine ++ later) other opened inside
      → (inside ≡ later) × (opened ≡ after_opening later)
  opening_only later other opened inside opens =
      let same : other ≡ begun = begins_one s before a other begun opens.begins begins in
      let own = whole.1 later opens.passes inside
      (subst (λ (b : Begun). Check (checks_of s) before.scopes b before.asked (mine ++ later) opens.passes inside) same opens.check) in
      let began : Standing = doing before (drop 1 (mine ++ later)) (Begin a ∷ []) in (
        own.0,
        opens.comes_to
            ∙ (ap (λ (b : Begun). record began { asked = opens.passes.asked; scopes = before.scopes ++ b ∷ []; outcomes = before.outcomes ++ opens.passes.outcomes }) same
            ∙ (ap (λ (p : Passes). opened_by p began) own.1 ∙ ap (λ (r : List Record). opened_by (moved r passes) began) own.0)),
      )

module _ (s : Setting) (before : Standing) (scopes : List Begun) (newest : Begun) (silenced : Bool) (mine : List Record) (passes : Passes)
    (in_force : before.scopes ≡ scopes ++ newest ∷ []) (is_silenced : IsTrue silenced ↔ IsDisabled s before)
    (whole : IsWhole moved (Close (checks_of s) newest silenced before.asked) mine passes) where
  -- where the task stands after the last check of a scoped assertion
  abbrev closed_by : Passes → List Record → Standing
  closed_by all later = record (doing before later (End newest.access ∷ [])) { asked = all.asked; scopes = scopes; outcomes = before.outcomes ++ all.outcomes }

  abbrev pub after_closing : List Record → Standing
  after_closing later = closed_by (moved later passes) later

  pub scope_closed : (later : List Record) → ClosesNewest s before (mine ++ later) (after_closing later) later
  scope_closed later = (
    scopes,
    newest,
    in_force,
    record {
      passes = moved later passes;
      silenced = silenced;
      is_silenced = is_silenced;
      close = (framed_checks (Close (checks_of s) newest silenced before.asked) (close (checks_of s) newest silenced before.asked)
          (mine ++ later) (moved later passes) later).1 (mine, passes, whole.0, refl, refl);
      comes_to = refl;
    },
  )

  pub closing_only : (later : List Record) (closed : Standing) (rest : List Record) → ClosesNewest s before (mine ++ later) closed rest
      → (rest ≡ later) × (closed ≡ after_closing later)
  closing_only later closed rest closes =
      let ends = same_ends closes.0 scopes closes.1 newest (sym closes.2 ∙ in_force) in
      let made = closes.3 in
      let says : made.silenced ≡ silenced = one_answer made.silenced silenced _ made.is_silenced is_silenced in
      let own = whole.1 later made.passes rest
      (subst (λ (b : Bool). Close (checks_of s) newest b before.asked (mine ++ later) made.passes rest) says
      (subst (λ (b : Begun). Close (checks_of s) b made.silenced before.asked (mine ++ later) made.passes rest) ends.1 made.close)) in (
        own.0,
        made.comes_to
            ∙ (ap (λ (b : Begun). record (doing before rest (End b.access ∷ [])) { asked = made.passes.asked; scopes = closes.0; outcomes = before.outcomes ++ made.passes.outcomes }) ends.1
            ∙ (ap (λ (l : List Begun). record (doing before rest (End newest.access ∷ [])) { asked = made.passes.asked; scopes = l; outcomes = before.outcomes ++ made.passes.outcomes }) ends.0
            ∙ (ap (λ (p : Passes). closed_by p rest) own.1 ∙ ap (λ (r : List Record). closed_by (moved r passes) r) own.0))),
      )

-- what a try of a lock gives, where one thing follows on a lock that was free, and another on one that wasn't
tried : (answer : Answer) (Free Taken Then Other : Type 0) → (Free → Then) → (Taken → Other)
    → OnFlag answer (λ was_free. MatchBool was_free Free Taken) → OnFlag answer (λ was_free. MatchBool was_free Then Other)
tried (answers.Flag true) Free Taken Then Other free taken h = free h
tried (answers.Flag false) Free Taken Then Other free taken h = taken h
tried (answers.Word word) Free Taken Then Other free taken h = absurd h
tried (answers.Halves setter finder) Free Taken Then Other free taken h = absurd h
tried answers.Done Free Taken Then Other free taken h = absurd h

both_tried : (answer : Answer) (Free Taken Then Other R : Type 0) → (Free → Then → R) → (Taken → Other → R)
    → OnFlag answer (λ was_free. MatchBool was_free Free Taken) → OnFlag answer (λ was_free. MatchBool was_free Then Other) → R
both_tried (answers.Flag true) Free Taken Then Other R free taken h k = free h k
both_tried (answers.Flag false) Free Taken Then Other R free taken h k = taken h k
both_tried (answers.Word word) Free Taken Then Other R free taken h k = absurd h
both_tried (answers.Halves setter finder) Free Taken Then Other R free taken h k = absurd h
both_tried answers.Done Free Taken Then Other R free taken h k = absurd h

-- tries of a lock that took it are followed by what is left
pub lock_taken : (task lock : ℕ) (mine later : List Record) → TakesLock task lock mine [] → TakesLock task lock (mine ++ later) later
lock_taken task lock [] later h = absurd h
lock_taken task lock (first ∷ more) later h = (
  h.0,
  h.1,
  tried first.answer ([] ≡ more) (TakesLock task lock more []) (later ≡ more ++ later) (TakesLock task lock (more ++ later) later)
      (λ is. ap (λ (l : List Record). l ++ later) is) (λ tries. lock_taken task lock more later tries) h.2,
)

pub lock_only : (task lock : ℕ) (mine later rest : List Record) → TakesLock task lock mine [] → TakesLock task lock (mine ++ later) rest → rest ≡ later
lock_only task lock [] later rest h tries = absurd h
lock_only task lock (first ∷ more) later rest h tries =
    both_tried first.answer ([] ≡ more) (TakesLock task lock more []) (rest ≡ more ++ later) (TakesLock task lock (more ++ later) rest) (rest ≡ later)
    (λ is over. over ∙ ap (λ (l : List Record). l ++ later) (sym is)) (λ one other. lock_only task lock more later rest one other) h.2 tries.2
