-- The accesses of a text at their sites, and how often each can begin.
use Rattle.std.specs.Prelude.{◌≡◌, ◌<◌, ◌≤◌, ◌*◌, ◌++◌, ◌==◌, ℕ, Bool, List, [], ◌∷◌, Option, None, Some, length, map, slice_get, unwrap_or, if◌then◌else◌}
use Rattle.access_types.specs.Access.{Access, proper_mask}
use Rattle.access_types.specs.declared.history.Bytes.{Bytes}
use Rattle.access_types.specs.declared.kind.Claim.{Claim}
use Rattle.access_types.specs.declared.kind.Claim.TheVariants.{NoAccesses, NoWrites}
use Rattle.access_types.specs.declared.kind.Kind.{Kind}
use Rattle.access_types.specs.declared.kind.Kind.TheVariants as kinds
use Rattle.litmus_syntax.specs.Tree.{Assignment, Block, Expression, Load, Statement}
use Rattle.litmus_syntax.specs.Tree as tree
use Rattle.litmus_syntax.specs.declared.statement.Call.{Call}
use Rattle.litmus_syntax.specs.declared.statement.Call.TheVariants as calls
use Rattle.litmus_semantics.specs.Assignments.{compound_kind, write_kind}
use Rattle.litmus_semantics.specs.Calls.{check_kind}
use Rattle.litmus_semantics.specs.Layout.{no_bytes}
use Rattle.litmus_semantics.specs.Loads.{exchange_kind, fetch_kind, load_in, variable_of}
use Rattle.litmus_semantics.specs.Task.{Setting, bytes_in}
use Rattle.litmus_semantics.specs.declared.site.Site.{Site}

-- the bytes of a variable among these, by its number; no bytes where there is none
abbrev pub bytes_among : List Bytes → ℕ → Bytes
bytes_among bytes variable = unwrap_or (slice_get bytes variable) no_bytes

-- one site, outside of loops
abbrev pub once : Bytes → Kind → Option ℕ → List Site
once bytes kind mask = record { bytes = bytes; kind = kind; mask = mask; times = 1 } ∷ []

-- the same site in a loop of so many turns
abbrev pub repeated : ℕ → Site → Site
repeated turns site = record site { times = turns * site.times }

-- the site of a load, of an expression, of an assignment and of a call, where these are the bytes of
-- the variables
abbrev pub load_by : (ℕ → Bytes) → Load → List Site
load_by bytes l = once (bytes (variable_of l.fetch)) (fetch_kind l.fetch) None

abbrev pub expression_by : (ℕ → Bytes) → Expression → List Site
expression_by bytes (tree.pure e) = []
expression_by bytes (tree.loading e) = load_by bytes (load_in e)

abbrev pub assignment_by : (ℕ → Bytes) → Assignment → List Site
assignment_by bytes (tree.to_register r e) = expression_by bytes e
assignment_by bytes (tree.write form x e) = once (bytes x) (write_kind form) None
assignment_by bytes (tree.add x e) = once (bytes x) compound_kind None
assignment_by bytes (tree.increment x) = once (bytes x) compound_kind None
assignment_by bytes (tree.atomic_add e x) = once (bytes x) exchange_kind None
assignment_by bytes (tree.atomic_increment x) = once (bytes x) exchange_kind None
assignment_by bytes (tree.atomic_decrement x) = once (bytes x) exchange_kind None

abbrev pub assertion_kind : Bool → Claim → Kind
assertion_kind scoped claim = if scoped then kinds.AssertScoped claim else kinds.Assert claim

abbrev pub call_by : (ℕ → Bytes) → Call → List Site
call_by bytes (calls.Barrier b) = []
call_by bytes (calls.Lock l) = []
call_by bytes (calls.Unlock l) = []
call_by bytes (calls.AssertWriter x scoped) =
    once (bytes x) (assertion_kind scoped NoWrites) None
call_by bytes (calls.AssertAccess x scoped) =
    once (bytes x) (assertion_kind scoped NoAccesses) None
call_by bytes (calls.AssertBits x mask) =
    once (bytes x) (kinds.Assert NoWrites) (proper_mask (Some mask))
call_by bytes (calls.Mark m) = []
call_by bytes (calls.Check is_write x size) =
    if size == 0 then [] else once (record (bytes x) { size = size }) (check_kind is_write) None

abbrev mutual
  -- the sites of a statement and of all that stands in it, in text order
  pub statement_by : (ℕ → Bytes) → Statement → List Site
  statement_by bytes (tree.load_only l) = load_by bytes l
  statement_by bytes (tree.assign data_race a) = assignment_by bytes a
  statement_by bytes (tree.call c) = call_by bytes c
  statement_by bytes (tree.if_block e body) = expression_by bytes e ++ block_by bytes body
  statement_by bytes (tree.if_else e body otherwise) =
      expression_by bytes e ++ (block_by bytes body ++ block_by bytes otherwise)
  statement_by bytes (tree.for_turns r turns body) = map (repeated turns) (block_by bytes body)

  -- the same of a block
  pub block_by : (ℕ → Bytes) → Block → List Site
  block_by bytes tree.empty = []
  block_by bytes (tree.first statement rest) = statement_by bytes statement ++ block_by bytes rest

-- these are the bytes of the variables of a setting, by their numbers
abbrev pub AreBytesOf : Setting → List Bytes → Type 0
AreBytesOf s bytes = (variable : ℕ) → bytes_among bytes variable ≡ bytes_in s variable

-- the sites of a text whose variables stand where they do in a setting
abbrev pub block_sites : Setting → Block → List Site
block_sites s body = block_by (bytes_in s) body

abbrev mutual
  -- The loops of a statement, and those round it, whose turns multiply to so many, have turns that
  -- multiply to at most 256, whatever stands in them. A loop in one of no turns may have any.
  pub LoopsFit : ℕ → Statement → Type 0
  LoopsFit times (tree.load_only l) = Unit {0}
  LoopsFit times (tree.assign data_race a) = Unit {0}
  LoopsFit times (tree.call c) = Unit {0}
  LoopsFit times (tree.if_block e body) = AllLoopsFit times body
  LoopsFit times (tree.if_else e body otherwise) =
      AllLoopsFit times body × AllLoopsFit times otherwise
  LoopsFit times (tree.for_turns r turns body) =
      (times * turns ≤ 256) × AllLoopsFit (times * turns) body

  pub AllLoopsFit : ℕ → Block → Type 0
  AllLoopsFit times tree.empty = Unit {0}
  AllLoopsFit times (tree.first statement rest) =
      LoopsFit times statement × AllLoopsFit times rest

-- the access of a task at a site, by its number, of a repetition
abbrev pub access_at : ℕ → ℕ → Site → ℕ → Access
access_at task number site rep = record {
  task = task;
  site = number;
  rep = rep;
  addr = site.bytes.addr;
  size = site.bytes.size;
  kind = site.kind;
  mask = site.mask;
}

-- the access is one of a text: of one of its sites, and of a repetition that this can have
pub record IsOfText (s : Setting) (body : Block) (a : Access) : Type 0 where
  pub site : Site
  pub stands : slice_get (block_sites s body) a.site ≡ Some site
  pub rep : a.rep < site.times
  pub is : a ≡ access_at s.task a.site site a.rep

-- tickets have room for the sites of a text and for their repetitions
pub record FitsTickets (sites : List Site) : Type 0 where
  pub numbers : length sites ≤ 256
  pub times : (number : ℕ) (site : Site) → slice_get sites number ≡ Some site → site.times ≤ 256
