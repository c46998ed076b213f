-- The steps of a part of a text, from those of its parts.
use Rattle.std.proofs.Common.{◌≡◌, ◌≢◌, ◌+◌, ◌++◌, ◌-◌, ◌∷◌, [], ◌∙◌, ℕ, zero, suc, Bool, false, true, List, None, Option, Some, ap, append-nil, arith, inl, inr, length, refl, subst, sym}
use Rattle.access_types.specs.declared.history.Happening.{Happening}
use Rattle.access_types.specs.declared.history.Happening.TheVariants as happenings
use Rattle.access_types.specs.declared.history.Mark.TheVariants as marks
use Rattle.litmus_semantics.specs.Calls.{Scoped, scoped_assertion}
use Rattle.litmus_semantics.specs.Expressions.{pure_value}
use Rattle.litmus_semantics.specs.Meaning.{after_condition}
use Rattle.litmus_semantics.specs.Task as meaning
use Rattle.litmus_semantics.specs.Task.{Progress, has_lock}
use Rattle.litmus_syntax.specs.Sites.{accesses_of, sites_of}
use Rattle.litmus_syntax.specs.Tree.{Block, Expression, Pure, Statement}
use Rattle.litmus_syntax.specs.Tree as tree
use Rattle.litmus_syntax.specs.declared.statement.Call.TheVariants as calls
use Rattle.oracle_semantics.specs.oracle_order.Walks.{Goes, stands}
use Rattle.oracle_semantics.specs.declared.oracle_order.walk.Walk.{Walk}
use Rattle.setup_access.specs.Records.{MakesDone}
use Rattle.slot_table.specs.declared.records.Record.{Record}
use Rattle.slot_table.specs.declared.step.Step.TheVariants.{LockStore}
use Rattle.program_order.specs.Standing.{Setting, Standing, coming, counting, doing, lock_number, registered}
use Rattle.program_order.specs.WrittenOrder.{Steps, StepsInBlock, StepsInDataRace, StepsOf, StepsOfBlock, StepsOfCall, StepsOfExpression, StepsOfTurns, marked_so_often}

-- a lock that the task hasn't makes no step
pub not_held : (s : Setting) (site variable : ℕ) (standing : Standing) (records : List Record) → has_lock variable standing.progress.did ≡ false
    → StepsOfCall s site (calls.Unlock variable) standing records (coming (counting true standing) records standing.progress) records
not_held s site variable standing records has = rw has (refl, refl)

pub held : (s : Setting) (site variable : ℕ) (standing : Standing) (records rest : List Record) → has_lock variable standing.progress.did ≡ true
    → MakesDone s.text.task (LockStore (lock_number s variable)) (λ later. rest ≡ later) records
    → StepsOfCall s site (calls.Unlock variable) standing records (doing standing rest (happenings.Unlock variable ∷ [])) rest
held s site variable standing records rest has made = rw has (made, refl)

-- where a task stands after a register got a value
abbrev pub after_assigning : Standing → List Record → ℕ → ℕ → Standing
after_assigning standing records r value =
    marked_so_often 0 (happenings.Mark marks.Enable)
    (registered (marked_so_often 0 (happenings.Mark marks.Disable) standing records) records r value) records

pub assigned : (s : Setting) (site r : ℕ) (e : Pure) (standing : Standing) (records : List Record)
    → StepsInDataRace s site false (tree.to_register r (tree.pure e)) standing records
    (after_assigning standing records r (pure_value standing.progress.registers e)) records
assigned s site r e standing records = (
  registered (marked_so_often 0 (happenings.Mark marks.Disable) standing records) records r (pure_value standing.progress.registers e),
  (pure_value standing.progress.registers e, marked_so_often 0 (happenings.Mark marks.Disable) standing records, (refl, refl, refl), refl),
  refl,
)

pub assigned_progress : (standing : Standing) (records : List Record) (r value : ℕ)
    → (after_assigning standing records r value).progress ≡ meaning.assigning standing.progress r value
assigned_progress standing records r value =
    let did : (standing.progress.did ++ []) ++ [] ≡ standing.progress.did = simp append-nil in
    ap (λ (d : List Happening). record (meaning.assigning standing.progress r value) { did = d }) did

-- what is known of the value of a condition
abbrev pub Decides : Setting → ℕ → Expression → ℕ → Walk → Type 0
Decides s site e value before =
    (standing : Standing) (records : List Record) → standing.progress ≡ stands before → StepsOfExpression s site e standing records value standing records

pub if_passed : (s : Setting) (site : ℕ) (e : Expression) (body : Block) (value : ℕ) (before : Walk)
    → Decides s site e value before → value ≡ 0 → Goes (StepsOf s site (tree.if_block e body)) before before
if_passed s site e body value before decides none =
    λ standing at. (standing, (value, standing, before.left.items, decides standing before.left.items at, inr (none, (refl, refl))), at)

pub if_goes : (s : Setting) (site : ℕ) (e : Expression) (body : Block) (value : ℕ) (before after : Walk)
    → Decides s site e value before → value ≢ 0 → after_condition site e ≡ site → Goes (StepsOfBlock s site body) before after
    → Goes (StepsOf s site (tree.if_block e body)) before after
if_goes s site e body value before after decides some pure goes =
    let inside = subst (λ (n : ℕ). Goes (StepsOfBlock s n body) before after) (sym pure) goes in
    λ standing at. let end = inside standing at in
    (end.0, (value, standing, before.left.items, decides standing before.left.items at, inl (some, end.1)), end.2)

pub else_goes : (s : Setting) (site : ℕ) (e : Expression) (body otherwise : Block) (value : ℕ) (before after : Walk)
    → Decides s site e value before → value ≢ 0 → after_condition site e ≡ site → Goes (StepsOfBlock s site body) before after
    → Goes (StepsOf s site (tree.if_else e body otherwise)) before after
else_goes s site e body otherwise value before after decides some pure goes =
    let inside = subst (λ (n : ℕ). Goes (StepsOfBlock s n body) before after) (sym pure) goes in
    λ standing at. let end = inside standing at in
    (end.0, (value, standing, before.left.items, decides standing before.left.items at, inl (some, end.1)), end.2)

pub else_other : (s : Setting) (site other : ℕ) (e : Expression) (body otherwise : Block) (value : ℕ) (before after : Walk)
    → Decides s site e value before → value ≡ 0 → after_condition site e ≡ site → other ≡ site + length (sites_of body)
    → Goes (StepsOfBlock s other otherwise) before after
    → Goes (StepsOf s site (tree.if_else e body otherwise)) before after
else_other s site other e body otherwise value before after decides none pure is goes =
    let there : other ≡ after_condition site e + length (sites_of body) = is ∙ ap (λ (n : ℕ). n + length (sites_of body)) (sym pure) in
    let inside = subst (λ (n : ℕ). Goes (StepsOfBlock s n otherwise) before after) there goes in
    λ standing at. let end = inside standing at in
    (end.0, (value, standing, before.left.items, decides standing before.left.items at, inr (none, end.1)), end.2)

-- no turn is left
pub turns_over : (Body : Steps) (r turn left : ℕ) (before at : Walk) → left ≡ 0 → stands at ≡ meaning.assigning (stands before) r turn
    → at.left.items ≡ before.left.items → Goes (StepsOfTurns Body r turn left) before at
turns_over Body r turn zero before at none comes rest =
    λ standing same. (registered standing before.left.items r turn, (refl, rest), ap (λ (p : Progress). meaning.assigning p r turn) same ∙ sym comes)
turns_over Body r turn (suc left) before at none comes rest = cc

-- a turn, and those after it
pub turns_more : (Body : Steps) (r turn next left : ℕ) (before at between after : Walk) → left ≢ 0 → next ≡ turn + 1
    → stands at ≡ meaning.assigning (stands before) r turn → at.left.items ≡ before.left.items
    → Goes Body at between → Goes (StepsOfTurns Body r next (left - 1)) between after
    → Goes (StepsOfTurns Body r turn left) before after
turns_more Body r turn next zero before at between after some is comes rest body later = absurd (some refl)
turns_more Body r turn next (suc left) before at between after some is comes rest body later =
    let one : suc left - 1 ≡ left = omega arith in
    let then : next ≡ suc turn = omega (arith, is) in
    let others = subst (λ (n : ℕ). Goes (StepsOfTurns Body r n left) between after) then
    (subst (λ (n : ℕ). Goes (StepsOfTurns Body r next n) between after) one later) in
    λ standing same.
    let start : Standing = registered standing before.left.items r turn in
    let first = body start (ap (λ (p : Progress). meaning.assigning p r turn) same ∙ sym comes) in
    let end = others first.0 first.2 in
    (end.0, (first.0, between.left.items, subst (λ (xs : List Record). Body start xs first.0 between.left.items) rest first.1, end.1), end.2)

-- a statement that is no scoped assertion, and those after it
plain : (s : Setting) (site : ℕ) (scoped : Option Scoped) → scoped ≡ None → (Own Later : Steps) (standing between end : Standing)
    (records later rest : List Record) → Own standing records between later → Later between later end rest
    → StepsInBlock s site scoped Own Later standing records end rest
plain s site None is Own Later standing between end records later rest own more = (between, later, own, more)
plain s site (Some scoped) is Own Later standing between end records later rest own more = cc

pub block_first : (s : Setting) (site next : ℕ) (statement : Statement) (later : Block) (before between after : Walk)
    → scoped_assertion statement ≡ None → next ≡ site + length (accesses_of statement)
    → Goes (StepsOf s site statement) before between → Goes (StepsOfBlock s next later) between after
    → Goes (StepsOfBlock s site (tree.first statement later)) before after
block_first s site next statement later before between after none is own more =
    let others = subst (λ (n : ℕ). Goes (StepsOfBlock s n later) between after) is more in
    λ standing same.
    let first = own standing same in
    let end = others first.0 first.2 in (
      end.0,
      plain s site (scoped_assertion statement) none (λ b records a rest. StepsOf s site statement b records a rest)
          (λ b records a rest. StepsOfBlock s (site + length (accesses_of statement)) later b records a rest)
          standing first.0 end.0 before.left.items between.left.items after.left.items first.1 end.1,
      end.2,
    )
