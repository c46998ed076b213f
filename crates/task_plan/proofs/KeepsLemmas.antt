-- What a task keeps of what it did.
use Rattle.std.proofs.Common.{◌≡◌, ◌<◌, ◌≤◌, ◌∙◌, ◌+◌, ◌-◌, ◌^◌, ◌++◌, ◌==◌, ℕ, zero, suc, Bool}
use Rattle.std.proofs.Common.{true, false, List, [], ◌∷◌, ap, arith, count_by, eq-eqb, get_or, get_or-set_same, get_or-set_other}
use Rattle.std.proofs.Common.{inl, inr, length, length-set, ne_eqb, refl, replicate, slice_get, slice_index, slice_set, subst, sym, unwrap_or, zero-add, if◌then◌else◌}
use Rattle.std.proofs.lemmas.Bool.{cases_eq, cases_lt}
use Rattle.std.proofs.lemmas.List.{get_or-replicate, get_or_past, length-replicate}
use Rattle.std.proofs.lemmas.List.Sums.{sum_by-append, sum_by-cons}
use Rattle.std.proofs.lemmas.Option.{unwrap_or-slice_get}
use Rattle.access_types.specs.Access.{Access, proper_mask}
use Rattle.access_types.specs.declared.history.Happening.{Happening}
use Rattle.access_types.specs.declared.history.Happening.TheVariants as happenings
use Rattle.access_types.specs.declared.history.Mark.{Mark}
use Rattle.litmus_semantics.specs.Task as meaning
use Rattle.litmus_semantics.specs.Task.{access_now, begins_at, has_after, has_lock}
use Rattle.slot_table.specs.declared.records.Record.{Record}
use Rattle.task_plan.specs.SameProgress.{AreOther, IsOther, StandAlike}
use Rattle.task_plan.specs.Counts.{up_to_last}
use Rattle.task_plan.specs.Keeps.{Keeps}
use Rattle.task_plan.specs.Plans.{planned_access}
use Rattle.task_plan.specs.Views.{Plan}
use Rattle.task_plan.specs.declared.progress.Progress.{Progress}
use Rattle.program_order.proofs.HeldLocks.{AreQuiet, IsQuiet, lock_last, quiet_leaves}
use Rattle.program_order.specs.Standing.{Setting, Standing, doing}
use Rattle.program_order.specs.WrittenOrder.{at_first}

-- an element of a list of one value, or past its end, is that value
all_one : {X : Type 0} (n i : ℕ) (x : X) → get_or (replicate n x) i x ≡ x
all_one n i x =
    elim (cases_lt i n) [
      | inl below ↦ get_or-replicate n i x x below
      | inr past ↦ get_or_past (replicate n x) i x (subst (λ (k : ℕ). k ≤ i) (sym (length-replicate n x)) past)
    ]

-- of a task that has done nothing
pub keeps_first : (variables registers : ℕ) (progress : Progress)
    → progress.registers.items ≡ replicate registers 0 → progress.begun.items ≡ replicate 256 0
    → progress.held.items ≡ replicate variables false → progress.unbalanced ≡ 0
    → Keeps variables (at_first registers) progress
keeps_first variables registers progress values begun held unbalanced = record {
  registers = values;
  sites = ap length begun ∙ length-replicate {A = ℕ} 256 0;
  begun = λ site. ap (λ (xs : List ℕ). get_or xs site 0) begun ∙ all_one 256 site 0;
  locks = ap length held ∙ length-replicate variables false;
  held = λ variable. unwrap_or-slice_get progress.held.items variable false
      ∙ ap (λ (xs : List Bool). get_or xs variable false) held ∙ all_one variables variable false;
  unbalanced = unbalanced;
}

-- a lock is taken or given back
abbrev pub locking : ℕ → Bool → Happening
locking variable held = if held then happenings.Lock variable else happenings.Unlock variable

locking_after : (at variable : ℕ) (held before : Bool)
    → has_after at before (locking variable held) ≡ (if variable == at then held else before)
locking_after at variable true before = refl
locking_after at variable false before = refl

held_after : (locks : List Bool) (did : List Happening) (variable : ℕ) (held : Bool) → variable < length locks
    → ((at : ℕ) → unwrap_or (slice_get locks at) false ≡ has_lock at did) → (at : ℕ)
    → unwrap_or (slice_get (slice_set locks variable held) at) false ≡ has_lock at (did ++ locking variable held ∷ [])
held_after locks did variable held within are at =
    rw (unwrap_or-slice_get (slice_set locks variable held) at false, lock_last at did (locking variable held), locking_after at variable held (has_lock at did))
    (elim (cases_eq at variable) [
      | inl same ↦ rw (same, eq-eqb variable variable refl) (get_or-set_same locks variable held false within)
      | inr other ↦ rw (ne_eqb variable at (λ e. other (sym e)))
          (get_or-set_other locks variable at held false other ∙ sym (unwrap_or-slice_get locks at false) ∙ are at)
    ])

not_beginning : (site variable : ℕ) (held : Bool) → begins_at site (locking variable held) ≡ false
not_beginning site variable true = refl
not_beginning site variable false = refl

abbrev counted : ℕ → Happening → ℕ
counted site happening = if begins_at site happening then 1 else 0

none_one : (site : ℕ) (happening : Happening) (later : List Happening) → begins_at site happening ≡ false
    → count_by (begins_at site) (happening ∷ later) ≡ count_by (begins_at site) later
none_one site happening later none =
    sum_by-cons (counted site) happening later
    ∙ ap (λ (b : Bool). (if b then 1 else 0) + count_by (begins_at site) later) none ∙ zero-add (count_by (begins_at site) later)

begun_one : (site : ℕ) (did : List Happening) (happening : Happening) → begins_at site happening ≡ false
    → count_by (begins_at site) (did ++ happening ∷ []) ≡ count_by (begins_at site) did
begun_one site did happening none =
    let parts : count_by (begins_at site) (did ++ happening ∷ []) ≡ count_by (begins_at site) did + count_by (begins_at site) (happening ∷ []) =
    sum_by-append (counted site) did (happening ∷ []) in
    let last : count_by (begins_at site) (happening ∷ []) ≡ 0 = none_one site happening [] none in
    omega (arith, parts, last)

-- after the task has taken a lock or given it back
pub keeps_lock : (variables : ℕ) (before : Standing) (later : List Record) (old new : Progress) (variable : ℕ) (held : Bool)
    → variable < variables → Keeps variables before old
    → new.registers.items ≡ old.registers.items → new.begun.items ≡ old.begun.items
    → new.held.items ≡ slice_set old.held.items variable held → new.unbalanced ≡ old.unbalanced
    → Keeps variables (doing before later (locking variable held ∷ [])) new
keeps_lock variables before later old new variable held below keeps values begun set unbalanced = record {
  registers = values ∙ keeps.registers;
  sites = ap length begun ∙ keeps.sites;
  begun = λ site. ap (λ (xs : List ℕ). slice_index xs site) begun ∙ keeps.begun site
      ∙ ap up_to_last (sym (begun_one site before.progress.did (locking variable held) (not_beginning site variable held)));
  locks = ap length set ∙ length-set old.held.items variable held ∙ keeps.locks;
  held = λ at. ap (λ (xs : List Bool). unwrap_or (slice_get xs at) false) set
      ∙ held_after old.held.items before.progress.did variable held
      (subst (λ (n : ℕ). variable < n) (sym keeps.locks) below) keeps.held at;
  unbalanced = unbalanced ∙ keeps.unbalanced;
}

-- what neither begins an access nor touches a lock leaves the counts of begun accesses
none_begin : (site : ℕ) (does : List Happening) → AreOther does → count_by (begins_at site) does ≡ 0
none_begin site [] other = refl
none_begin site (happenings.Begin a ∷ later) other = absurd other.0
none_begin site (happenings.End a ∷ later) other = none_one site (happenings.End a) later refl ∙ none_begin site later other.1
none_begin site (happenings.Read bytes value ∷ later) other = none_one site (happenings.Read bytes value) later refl ∙ none_begin site later other.1
none_begin site (happenings.Write bytes value ∷ later) other = none_one site (happenings.Write bytes value) later refl ∙ none_begin site later other.1
none_begin site (happenings.Lock lock ∷ later) other = absurd other.0
none_begin site (happenings.Unlock lock ∷ later) other = absurd other.0
none_begin site (happenings.Mark m ∷ later) other = none_one site (happenings.Mark m) later refl ∙ none_begin site later other.1

pub begun_still : (site : ℕ) (did does : List Happening) → AreOther does
    → count_by (begins_at site) (did ++ does) ≡ count_by (begins_at site) did
begun_still site did does other =
    let parts : count_by (begins_at site) (did ++ does) ≡ count_by (begins_at site) did + count_by (begins_at site) does =
    sum_by-append (counted site) did does in
    let none = none_begin site does other in
    omega (arith, parts, none)

other_quiet : (happening : Happening) → IsOther happening → IsQuiet happening
other_quiet (happenings.Begin a) other = absurd other
other_quiet (happenings.End a) other = tt
other_quiet (happenings.Read bytes value) other = tt
other_quiet (happenings.Write bytes value) other = tt
other_quiet (happenings.Lock lock) other = absurd other
other_quiet (happenings.Unlock lock) other = absurd other
other_quiet (happenings.Mark m) other = tt

others_quiet : (does : List Happening) → AreOther does → AreQuiet does
others_quiet [] other = tt
others_quiet (happening ∷ later) other = (other_quiet happening other.0, others_quiet later other.1)

-- data_race( ) is of such
pub marks_other : (count : ℕ) (m : Mark) → AreOther (replicate count (happenings.Mark m))
marks_other zero m = tt
marks_other (suc count) m = (tt, marks_other count m)

-- what is kept is kept after them
pub keeps_on : (variables : ℕ) (before : Standing) (progress : Progress) (later : List Record) (does : List Happening)
    → AreOther does → Keeps variables before progress → Keeps variables (doing before later does) progress
keeps_on variables before progress later does other keeps = record {
  registers = keeps.registers;
  sites = keeps.sites;
  begun = λ site. keeps.begun site ∙ ap up_to_last (sym (begun_still site before.progress.did does other));
  locks = keeps.locks;
  held = λ variable. keeps.held variable ∙ sym (quiet_leaves variable before.progress.did does (others_quiet does other));
  unbalanced = keeps.unbalanced;
}

-- of standings that are alike the same is kept
pub keeps_alike : (variables : ℕ) (one other : Standing) (progress : Progress) → StandAlike one other
    → Keeps variables one progress → Keeps variables other progress
keeps_alike variables one other progress alike keeps = record {
  registers = keeps.registers ∙ ap (λ (p : meaning.Progress). p.registers) alike.progress;
  sites = keeps.sites;
  begun = λ site. keeps.begun site ∙ ap (λ (p : meaning.Progress). up_to_last (count_by (begins_at site) p.did)) alike.progress;
  locks = keeps.locks;
  held = λ variable. keeps.held variable ∙ ap (λ (p : meaning.Progress). has_lock variable p.did) alike.progress;
  unbalanced = keeps.unbalanced ∙ ap up_to_last alike.unbalanced;
}

pub same_registers : (variables : ℕ) (one other : Standing) (progress : Progress) → Keeps variables one progress
    → Keeps variables other progress → one.progress.registers ≡ other.progress.registers
same_registers variables one other progress keeps also = sym keeps.registers ∙ also.registers

pub same_locks : (variables : ℕ) (one other : Standing) (progress : Progress) → Keeps variables one progress
    → Keeps variables other progress → (variable : ℕ) → has_lock variable one.progress.did ≡ has_lock variable other.progress.did
same_locks variables one other progress keeps also variable = sym (keeps.held variable) ∙ also.held variable

up_to_last_one : (one other : ℕ) → up_to_last one ≡ up_to_last other → one < 2 ^ 64 - 1 → one ≡ other
up_to_last_one one other same below = grind (arith, same, below)

-- a count that hasn't come to the last number is one
pub same_counts : (variables : ℕ) (one other : Standing) (progress : Progress) → Keeps variables one progress
    → Keeps variables other progress → (site : ℕ) → count_by (begins_at site) one.progress.did < 2 ^ 64 - 1
    → count_by (begins_at site) one.progress.did ≡ count_by (begins_at site) other.progress.did
same_counts variables one other progress keeps also site below =
    up_to_last_one _ _ (sym (keeps.begun site) ∙ also.begun site) below

pub same_access : (s : Setting) (variables : ℕ) (one other : Standing) (progress : Progress) (plan : Plan) (site : ℕ)
    → Keeps variables one progress → Keeps variables other progress
    → count_by (begins_at site) one.progress.did < 2 ^ 64 - 1
    → planned_access s one plan site ≡ planned_access s other plan site
same_access s variables one other progress plan site keeps also below =
    ap (λ (rep : ℕ). let a : Access = record {
      task = s.text.task;
      site = site;
      rep = rep;
      addr = plan.bytes.addr;
      size = plan.bytes.size;
      kind = plan.kind;
      mask = proper_mask plan.mask;
    } in a) (same_counts variables one other progress keeps also site below)

pub alike_access : (s : Setting) (one other : Standing) (plan : Plan) (site : ℕ) → StandAlike one other
    → planned_access s one plan site ≡ planned_access s other plan site
alike_access s one other plan site alike =
    ap (λ (p : meaning.Progress). access_now s.text site p plan.bytes plan.kind (proper_mask plan.mask)) alike.progress
