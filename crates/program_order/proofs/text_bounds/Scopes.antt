-- No more scoped assertions are in force at any moment than the limit, where a text keeps it.
use Rattle.std.proofs.Common.{◌≡◌, ◌<◌, ◌≤◌, ◌∙◌, ◌+◌, ◌-◌, ◌==◌, ◌++◌, ℕ, zero, suc, Bool, true, false, List, [], ◌∷◌}
use Rattle.std.proofs.Common.{None, Option, Some, ap, append_assoc, arith, count_by, fold, inl, inr, le_refl, length, refl, subst, sym, if◌then◌else◌}
use Rattle.std.proofs.lemmas.List.{append-nil}
use Rattle.std.proofs.lemmas.List.Sums.{fold-append}
use Rattle.access_types.specs.Access.{Access}
use Rattle.access_types.specs.declared.history.Happening.{Happening}
use Rattle.access_types.specs.declared.history.Happening.TheVariants.{Begin, End, Lock, Read, Unlock, Write}
use Rattle.access_types.specs.declared.history.Happening.TheVariants as happenings
use Rattle.access_types.specs.declared.history.Mark.{Mark}
use Rattle.litmus_semantics.specs.Calls.{Scoped, scoped_access, scoped_assertion}
use Rattle.litmus_semantics.specs.Meaning.{Chooses, InBlock, Means, MeansBlock, Turns, after_condition}
use Rattle.litmus_semantics.specs.Task.{Progress, Setting, assigning, doing}
use Rattle.litmus_syntax.specs.Limits.{BlockScopes, StatementScopes, scoped_limit, scopes_of}
use Rattle.litmus_syntax.specs.Sites.{accesses_of, sites_of}
use Rattle.litmus_syntax.specs.Tree.{Assignment, Block, Expression, Statement}
use Rattle.litmus_syntax.specs.Tree as tree
use Rattle.litmus_syntax.specs.declared.statement.Call.{Call}
use Rattle.litmus_syntax.specs.declared.statement.Call.TheVariants as calls
use Rattle.slot_table.specs.declared.records.Record.{Record}
use Rattle.program_order.proofs.text_bounds.Statements.{assign_does, assign_weight, call_does_most, call_weight, expression_does, expression_weight, load_does, load_weight}
use Rattle.program_order.proofs.text_bounds.Weights.{DoesAtMost, Weighs, none_or_none, one, weight_first}
use Rattle.program_order.specs.text_bounds.Scopes.{AreOfNoScope, in_force, is_of_scope, is_scoped, scopes_after}
use Rattle.program_order.proofs.MeaningLemmas.{whole_means}
use Rattle.program_order.specs.Standing as order
use Rattle.program_order.specs.WrittenOrder.{SpellsAll, at_first}

-- from so many in force on, never more than the limit are
abbrev FewFrom : ℕ → List Happening → Type 0
FewFrom scopes [] = scopes ≤ scoped_limit
FewFrom scopes (happening ∷ later) = (scopes ≤ scoped_limit) × FewFrom (scopes_after scopes happening) later

few_both : (scopes : ℕ) (first other : List Happening) → FewFrom scopes first → FewFrom (fold scopes_after scopes first) other → FewFrom scopes (first ++ other)
few_both scopes [] other few more = more
few_both scopes (happening ∷ later) other few more = (few.0, few_both (scopes_after scopes happening) later other few.1 more)

few_now : (scopes : ℕ) (did : List Happening) → FewFrom scopes did → scopes ≤ scoped_limit
few_now scopes [] few = few
few_now scopes (happening ∷ later) few = few.0

few_front : (scopes : ℕ) (front back : List Happening) → FewFrom scopes (front ++ back) → fold scopes_after scopes front ≤ scoped_limit
few_front scopes [] back few = few_now scopes back few
few_front scopes (happening ∷ front) back few = few_front (scopes_after scopes happening) front back few.1

-- a part of a text that begins with so many in force ends with as many, and never has more than the limit
record Keeps (scopes : ℕ) (before after : Progress) : Type 0 where
  does : List Happening
  comes_to : after.did ≡ before.did ++ does
  few : FewFrom scopes does
  ends : fold scopes_after scopes does ≡ scopes

scope_weighs : Weighs is_of_scope (λ site. 0) (λ m. 0)
scope_weighs = record {
  begins = λ a plain. rw plain (le_refl 0);
  ends = λ a plain. plain;
  reads = λ bytes value. refl;
  writes = λ bytes value. refl;
  locks = λ lock. refl;
  unlocks = λ lock. refl;
  marks = λ m. le_refl 0;
  enables = refl;
  nexts = refl;
}

neither : (b : Bool) (one_more scopes : ℕ) → (if b then 1 else 0) ≤ 0 → (if b then one_more else scopes) ≡ scopes
neither true one_more scopes none = absurd (omega arith)
neither false one_more scopes none = refl

untouched : (scopes : ℕ) (happening : Happening) → one is_of_scope happening ≤ 0 → scopes_after scopes happening ≡ scopes
untouched scopes (Begin a) none = neither (is_scoped a.kind) (scopes + 1) scopes none
untouched scopes (End a) none = neither (is_scoped a.kind) (scopes - 1) scopes none
untouched scopes (Read bytes value) none = refl
untouched scopes (Write bytes value) none = refl
untouched scopes (Lock lock) none = refl
untouched scopes (Unlock lock) none = refl
untouched scopes (happenings.Mark m) none = refl

quiet : (scopes : ℕ) (does : List Happening) → scopes ≤ scoped_limit → count_by is_of_scope does ≤ 0
    → FewFrom scopes does × (fold scopes_after scopes does ≡ scopes)
quiet scopes [] within none = (within, refl)
quiet scopes (happening ∷ later) within none =
    let parts = weight_first is_of_scope happening later in
    let own : one is_of_scope happening ≤ 0 = omega (arith, parts, none) in
    let same : scopes_after scopes happening ≡ scopes = untouched scopes happening own in
    let others = quiet scopes later within (omega (arith, parts, none)) in (
      (within, subst (λ (n : ℕ). FewFrom n later) (sym same) others.0),
      subst (λ (n : ℕ). fold scopes_after n later ≡ scopes) (sym same) others.1,
    )

keeps_quiet : (scopes : ℕ) (before after : Progress) (most : (ℕ → ℕ) → (Mark → ℕ) → ℕ) → scopes ≤ scoped_limit → DoesAtMost before after most
    → most (λ site. 0) (λ m. 0) ≤ 0 → Keeps scopes before after
keeps_quiet scopes before after most within own none =
    let weight = own.weight is_of_scope (λ site. 0) (λ m. 0) scope_weighs in
    let both = quiet scopes own.does within (omega (arith, weight, none)) in
    record { does = own.does; comes_to = own.comes_to; few = both.0; ends = both.1 }

keeps_same : (scopes : ℕ) (before after : Progress) → scopes ≤ scoped_limit → after.did ≡ before.did → Keeps scopes before after
keeps_same scopes before after within same = record {
  does = [];
  comes_to = same ∙ sym (append-nil before.did);
  few = within;
  ends = refl;
}

keeps_both : (scopes : ℕ) (before between after : Progress) → Keeps scopes before between → Keeps scopes between after → Keeps scopes before after
keeps_both scopes before between after first second = record {
  does = first.does ++ second.does;
  comes_to = second.comes_to ∙ (ap (λ (did : List Happening). did ++ second.does) first.comes_to ∙ append_assoc before.did first.does second.does);
  few = few_both scopes first.does second.does first.few (subst (λ (n : ℕ). FewFrom n second.does) (sym first.ends) second.few);
  ends = fold-append scopes_after scopes first.does second.does ∙ (ap (λ (n : ℕ). fold scopes_after n second.does) first.ends ∙ second.ends);
}

-- a scoped assertion is in force while what follows in its block is made
keeps_scope : (scopes : ℕ) (before between after : Progress) (a : Access) → is_scoped a.kind ≡ true → scopes ≤ scoped_limit
    → Keeps (scopes + 1) (doing before (Begin a ∷ [])) between → after ≡ doing between (End a ∷ []) → Keeps scopes before after
keeps_scope scopes before between after a scoped within inside is_after =
    let begun : scopes_after scopes (Begin a) ≡ scopes + 1 = rw scoped refl in
    let ended : scopes_after (scopes + 1) (End a) ≡ scopes = rw scoped (omega arith) in
    let last : FewFrom (scopes + 1) (inside.does ++ End a ∷ []) =
    few_both (scopes + 1) inside.does (End a ∷ []) inside.few
    (subst (λ (n : ℕ). FewFrom n (End a ∷ [])) (sym inside.ends)
    (few_now (scopes + 1) inside.does inside.few, subst (λ (n : ℕ). n ≤ scoped_limit) (sym ended) within)) in
    let end : fold scopes_after (scopes + 1) (inside.does ++ End a ∷ []) ≡ scopes =
    fold-append scopes_after (scopes + 1) inside.does (End a ∷ []) ∙ (ap (λ (n : ℕ). scopes_after n (End a)) inside.ends ∙ ended) in
    record {
      does = Begin a ∷ (inside.does ++ End a ∷ []);
      comes_to = ap (λ (p : Progress). p.did) is_after
          ∙ (ap (λ (did : List Happening). did ++ End a ∷ []) inside.comes_to
          ∙ (append_assoc (before.did ++ Begin a ∷ []) inside.does (End a ∷ []) ∙ append_assoc before.did (Begin a ∷ []) (inside.does ++ End a ∷ [])));
      few = (within, subst (λ (n : ℕ). FewFrom n (inside.does ++ End a ∷ [])) (sym begun) last);
      ends = ap (λ (n : ℕ). fold scopes_after n (inside.does ++ End a ∷ [])) begun ∙ end;
    }

-- a statement is a scoped assertion where it begins a scope
abbrev pub BeginsScope : Option Scoped → ℕ → Type 0
BeginsScope None begins = begins ≡ 0
BeginsScope (Some scoped) begins = (begins ≡ 1) × (is_scoped scoped.kind ≡ true)

pub begins_scope : (statement : Statement) → BeginsScope (scoped_assertion statement) (scopes_of statement)
begins_scope (tree.load_only l) = refl
begins_scope (tree.assign data_race a) = refl
begins_scope (tree.call (calls.Barrier b)) = refl
begins_scope (tree.call (calls.Lock l)) = refl
begins_scope (tree.call (calls.Unlock l)) = refl
begins_scope (tree.call (calls.AssertWriter x true)) = (refl, refl)
begins_scope (tree.call (calls.AssertWriter x false)) = refl
begins_scope (tree.call (calls.AssertAccess x true)) = (refl, refl)
begins_scope (tree.call (calls.AssertAccess x false)) = refl
begins_scope (tree.call (calls.AssertBits x mask)) = refl
begins_scope (tree.call (calls.Mark m)) = refl
begins_scope (tree.call (calls.Check is_write x size)) = refl
begins_scope (tree.if_block e body) = refl
begins_scope (tree.if_else e body otherwise) = refl
begins_scope (tree.for_turns r turns body) = refl

pub has_room : (statement : Statement) (scopes : ℕ) → StatementScopes scopes statement → scopes ≤ scoped_limit → scopes + scopes_of statement ≤ scoped_limit
has_room (tree.load_only l) scopes fits within = omega (arith, within)
has_room (tree.assign data_race a) scopes fits within = omega (arith, within)
has_room (tree.call c) scopes fits within = fits
has_room (tree.if_block e body) scopes fits within = omega (arith, within)
has_room (tree.if_else e body otherwise) scopes fits within = omega (arith, within)
has_room (tree.for_turns r turns body) scopes fits within = omega (arith, within)

module _ (s : Setting) where
  in_block_keeps : (scoped : Option Scoped) (Own Rest : Progress → Progress → Type 0) (site scopes begins : ℕ) → BeginsScope scoped begins
      → scopes ≤ scoped_limit
      → ((start end : Progress) → Own start end → Keeps scopes start end) → ((start end : Progress) → Rest start end → Keeps (scopes + begins) start end)
      → (before after : Progress) → InBlock s site scoped Own Rest before after → Keeps scopes before after
  in_block_keeps None Own Rest site scopes begins is within first later before after h =
      let same : scopes + begins ≡ scopes = omega (arith, is) in
      keeps_both scopes before h.0 after (first before h.0 h.1) (subst (λ (n : ℕ). Keeps n h.0 after) same (later h.0 after h.2))
  in_block_keeps (Some scoped) Own Rest site scopes begins is within first later before after h =
      let a : Access = scoped_access s site before scoped in
      let inside : Keeps (scopes + 1) (doing before (Begin a ∷ [])) h.0 =
      subst (λ (n : ℕ). Keeps (scopes + n) (doing before (Begin a ∷ [])) h.0) is.0 (later (doing before (Begin a ∷ [])) h.0 h.1) in
      keeps_scope scopes before h.0 after a is.1 within inside h.2

  turns_keep : (Body : Progress → Progress → Type 0) (scopes r turn left : ℕ) → scopes ≤ scoped_limit
      → ((start end : Progress) → Body start end → Keeps scopes start end)
      → (before after : Progress) → Turns Body r turn left before after → Keeps scopes before after
  turns_keep Body scopes r turn zero within each before after h = keeps_same scopes before after within (ap (λ (p : Progress). p.did) h)
  turns_keep Body scopes r turn (suc left) within each before after h =
      let own = each (assigning before r turn) h.0 h.1 in
      let first : Keeps scopes before h.0 = record { does = own.does; comes_to = own.comes_to; few = own.few; ends = own.ends } in
      keeps_both scopes before h.0 after first (turns_keep Body scopes r (suc turn) left within each h.0 after h.2)

  chosen_keeps : (value scopes : ℕ) (Holds Fails : Type 0) (before after : Progress) → Chooses value Holds Fails
      → (Holds → Keeps scopes before after) → (Fails → Keeps scopes before after) → Keeps scopes before after
  chosen_keeps value scopes Holds Fails before after h first second = elim h [ inl is_chosen ↦ first is_chosen.1 | inr is_not ↦ second is_not.1 ]

  -- loads, assignments and calls begin no scope of their own
  no_expression : (site : ℕ) (e : Expression) → expression_weight site e (λ at. 0) (λ m. 0) ≤ 0
  no_expression site (tree.pure e) = le_refl 0
  no_expression site (tree.loading e) = omega arith

  no_assignment : (site : ℕ) (data_race : Bool) (a : Assignment) → assign_weight site data_race a (λ at. 0) (λ m. 0) ≤ 0
  no_assignment site data_race (tree.to_register r e) = let none = no_expression site e in omega (arith, none)
  no_assignment site data_race (tree.write form x e) = omega arith
  no_assignment site data_race (tree.add x e) = omega arith
  no_assignment site data_race (tree.increment x) = omega arith
  no_assignment site data_race (tree.atomic_add e x) = omega arith
  no_assignment site data_race (tree.atomic_increment x) = omega arith
  no_assignment site data_race (tree.atomic_decrement x) = omega arith

  no_call : (site : ℕ) (c : Call) → call_weight site c (λ at. 0) (λ m. 0) ≤ 0
  no_call site (calls.Barrier b) = le_refl 0
  no_call site (calls.Lock l) = le_refl 0
  no_call site (calls.Unlock l) = le_refl 0
  no_call site (calls.AssertWriter x scoped) = le_refl 0
  no_call site (calls.AssertAccess x scoped) = le_refl 0
  no_call site (calls.AssertBits x mask) = le_refl 0
  no_call site (calls.Mark m) = le_refl 0
  no_call site (calls.Check is_write x size) = none_or_none (size == 0)

  mutual
    statement_keeps : (statement : Statement) (site scopes : ℕ) → scopes ≤ scoped_limit → StatementScopes scopes statement
        → (before after : Progress) → Means s site statement before after → Keeps scopes before after
    statement_keeps (tree.load_only l) site scopes within fits before after h =
        keeps_quiet scopes before after (load_weight site l) within (load_does s site l before h.0 after h.1) (omega arith)
    statement_keeps (tree.assign data_race a) site scopes within fits before after h =
        keeps_quiet scopes before after (assign_weight site data_race a) within (assign_does s site data_race a before after h) (no_assignment site data_race a)
    statement_keeps (tree.call c) site scopes within fits before after h =
        keeps_quiet scopes before after (call_weight site c) within (call_does_most s site c before after h) (no_call site c)
    statement_keeps (tree.if_block e body) site scopes within fits before after h =
        keeps_both scopes before h.1 after (keeps_quiet scopes before h.1 (expression_weight site e) within (expression_does s site e before h.0 h.1 h.2)
        (no_expression site e))
        (chosen_keeps h.0 scopes (MeansBlock s (after_condition site e) body h.1 after) (after ≡ h.1) h.1 after h.3
        (λ means. block_keeps body (after_condition site e) scopes within fits h.1 after means)
        (λ same. keeps_same scopes h.1 after within (ap (λ (p : Progress). p.did) same)))
    statement_keeps (tree.if_else e body otherwise) site scopes within fits before after h =
        let first : ℕ = after_condition site e in
        let second : ℕ = first + length (sites_of body) in
        keeps_both scopes before h.1 after (keeps_quiet scopes before h.1 (expression_weight site e) within (expression_does s site e before h.0 h.1 h.2)
        (no_expression site e))
        (chosen_keeps h.0 scopes (MeansBlock s first body h.1 after) (MeansBlock s second otherwise h.1 after) h.1 after h.3
        (λ means. block_keeps body first scopes within fits.0 h.1 after means)
        (λ means. block_keeps otherwise second scopes within fits.1 h.1 after means))
    statement_keeps (tree.for_turns r turns body) site scopes within fits before after h =
        turns_keep (λ start end. MeansBlock s site body start end) scopes r 0 turns within
        (λ start end means. block_keeps body site scopes within fits start end means) before after h

    block_keeps : (body : Block) (site scopes : ℕ) → scopes ≤ scoped_limit → BlockScopes scopes body
        → (before after : Progress) → MeansBlock s site body before after → Keeps scopes before after
    block_keeps tree.empty site scopes within fits before after h = keeps_same scopes before after within (ap (λ (p : Progress). p.did) h)
    block_keeps (tree.first statement rest) site scopes within fits before after h =
        in_block_keeps (scoped_assertion statement) (λ start end. Means s site statement start end)
        (λ start end. MeansBlock s (site + length (accesses_of statement)) rest start end) site scopes (scopes_of statement) (begins_scope statement) within
        (λ start end means. statement_keeps statement site scopes within fits.0 start end means)
        (λ start end means. block_keeps rest (site + length (accesses_of statement)) (scopes + scopes_of statement)
        (has_room statement scopes fits.0 within) fits.1 start end means)
        before after h

whole_keeps : (s : order.Setting) (registers : ℕ) (body : Block) (records : List Record) → BlockScopes 0 body → (spells : SpellsAll s registers body records)
    → Keeps 0 (at_first registers).progress spells.end.progress
whole_keeps s registers body records fits spells =
    block_keeps s.text body 0 0 (omega arith) fits (at_first registers).progress spells.end.progress (whole_means s registers body records spells)

pub few_in_force : (s : order.Setting) (registers : ℕ) (body : Block) (records : List Record) → BlockScopes 0 body
    → (spells : SpellsAll s registers body records) → (front back : List Happening) → spells.end.progress.did ≡ front ++ back → in_force front ≤ scoped_limit
few_in_force s registers body records fits spells front back split =
    let keeps = whole_keeps s registers body records fits spells in
    few_front 0 front back (subst (λ (did : List Happening). FewFrom 0 did) (sym keeps.comes_to ∙ split) keeps.few)

pub none_in_force : (s : order.Setting) (registers : ℕ) (body : Block) (records : List Record) → BlockScopes 0 body
    → (spells : SpellsAll s registers body records) → in_force spells.end.progress.did ≡ 0
none_in_force s registers body records fits spells =
    let keeps = whole_keeps s registers body records fits spells in ap in_force keeps.comes_to ∙ keeps.ends

-- a scoped assertion that begins has room, and is one more
pub one_more : (did : List Happening) (a : Access) → is_scoped a.kind ≡ true → in_force (did ++ Begin a ∷ []) ≡ in_force did + 1
one_more did a scoped =
    fold-append scopes_after 0 did (Begin a ∷ [])
    ∙ (let begun : scopes_after (in_force did) (Begin a) ≡ in_force did + 1 = rw scoped refl in begun)

pub one_less : (did : List Happening) (a : Access) → is_scoped a.kind ≡ true → in_force (did ++ End a ∷ []) ≡ in_force did - 1
one_less did a scoped =
    fold-append scopes_after 0 did (End a ∷ [])
    ∙ (let ended : scopes_after (in_force did) (End a) ≡ in_force did - 1 = rw scoped refl in ended)

still_in_force : (scopes : ℕ) (does : List Happening) → AreOfNoScope does → fold scopes_after scopes does ≡ scopes
still_in_force scopes [] none = refl
still_in_force scopes (happening ∷ later) none =
    let own : one is_of_scope happening ≤ 0 = rw none.0 (le_refl 0) in
    subst (λ (n : ℕ). fold scopes_after n later ≡ scopes) (sym (untouched scopes happening own)) (still_in_force scopes later none.1)

pub as_many : (did does : List Happening) → AreOfNoScope does → in_force (did ++ does) ≡ in_force did
as_many did does none = fold-append scopes_after 0 did does ∙ still_in_force (in_force did) does none

pub room_for_scope : (s : order.Setting) (registers : ℕ) (body : Block) (records : List Record) → BlockScopes 0 body
    → (spells : SpellsAll s registers body records) → (front : List Happening) (a : Access) (back : List Happening)
    → spells.end.progress.did ≡ front ++ Begin a ∷ back → is_scoped a.kind ≡ true → in_force front < scoped_limit
room_for_scope s registers body records fits spells front a back split scoped =
    let all : spells.end.progress.did ≡ (front ++ Begin a ∷ []) ++ back = split ∙ sym (append_assoc front (Begin a ∷ []) back) in
    let few = few_in_force s registers body records fits spells (front ++ Begin a ∷ []) back all in
    let more = one_more front a scoped in
    omega (arith, few, more)
