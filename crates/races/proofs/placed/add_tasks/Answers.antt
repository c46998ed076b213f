-- One task more.
use Rattle.std.proofs.Common.{◌≡◌, ◌∙◌, ◌<◌, ◌≤◌, ℕ, List, Some, ap, arith, get_or, length, map, refl, slice_get, subst, sym}
use Rattle.std.proofs.lemmas.List.{length-map}
use Rattle.std.proofs.lemmas.Option.{slice_get-map, slice_get_read}
use Rattle.std.specs.Option.{option_map}
use Rattle.access_types.specs.declared.history.Bytes.{Bytes}
use Rattle.litmus_semantics.specs.TextSites.{AllLoopsFit, block_by, bytes_among}
use Rattle.litmus_semantics.specs.declared.site.Site.{Site}
use Rattle.litmus_syntax.specs.Tree as tree
use Rattle.litmus_syntax.specs.Views.{block_of, task_of}
use Rattle.litmus_syntax.specs.declared.program.Task.{Task}
use Rattle.litmus_syntax.specs.declared.statement.Statement.{Statement}
use Rattle.races.proofs.AddsLemmas.{adds_same}
use Rattle.races.proofs.SiteLemmas.{task_more, task_within}
use Rattle.races.specs.Placed.{IsListed, PlacedBefore}
use Rattle.races.proofs.placed.add_tasks.Goals as goal

-- the task of the turn is there, and these are the sites of its text
record IsTurn (bytes : List Bytes) (tasks : List Task) (number : ℕ) (task : Task) (sites : List Site) : Type 0 where
  stands : slice_get (map task_of tasks) number ≡ Some (task_of task)
  all : sites ≡ block_by (bytes_among bytes) (block_of task.body.items)
  few : length sites ≤ 256

turn : (bytes : List Bytes) (tasks : List Task) (number : ℕ) (task : Task) (text : List Statement) (found sites : List Site)
    → ((n : ℕ) (t : tree.Task) → slice_get (map task_of tasks) n ≡ Some t → IsListed (bytes_among bytes) t)
    → number < length tasks → task ≡ get_or tasks number task → text ≡ task.body.items
    → (AllLoopsFit 1 (block_of text) → found ≡ block_by (bytes_among bytes) (block_of text)) → sites ≡ found
    → IsTurn bytes tasks number task sites
turn bytes tasks number task text found sites listed within read same among is = record {
  stands = stands;
  all = all;
  few = omega (arith, ap length all, keeps.few);
} where
  stands : slice_get (map task_of tasks) number ≡ Some (task_of task)
  stands = slice_get-map task_of tasks number ∙ ap (option_map task_of) (slice_get_read tasks (length tasks) number task refl within read)

  keeps : IsListed (bytes_among bytes) (task_of task)
  keeps = listed number (task_of task) stands

  all : sites ≡ block_by (bytes_among bytes) (block_of task.body.items)
  all = is ∙ (among (subst (λ (t : List Statement). AllLoopsFit 1 (block_of t)) (sym same) keeps.loops)
      ∙ ap (λ (t : List Statement). block_by (bytes_among bytes) (block_of t)) same)

pub add_sites-requires-clause-few : goal.add_sites-requires-clause-few
add_sites-requires-clause-few c =
    let it : IsTurn c.args.bytes.now c.args.tasks.now c.loop-number.number c.index-tasks-number.result c.as_slice-in-loop-number.result.now =
    turn c.args.bytes.now c.args.tasks.now c.loop-number.number c.index-tasks-number.result c.as_slice.result.now c.in_ok-sites.sites.items
    c.as_slice-in-loop-number.result.now c.requires.listed c.loop-number-test.true c.index-tasks-number.is c.as_slice.ensures.value
    c.in_ok-sites.ensures.among c.as_slice-in-loop-number.ensures.value in
    it.few

pub loop-number-preserved : goal.loop-number-preserved
loop-number-preserved c =
    let it : IsTurn c.args.bytes.now c.args.tasks.now c.loop-number.number c.index-tasks-number.result c.as_slice-in-loop-number.result.now =
    turn c.args.bytes.now c.args.tasks.now c.loop-number.number c.index-tasks-number.result c.as_slice.result.now c.in_ok-sites.sites.items
    c.as_slice-in-loop-number.result.now c.requires.listed c.loop-number-test.true c.index-tasks-number.is c.as_slice.ensures.value
    c.in_ok-sites.ensures.among c.as_slice-in-loop-number.ensures.value in
    task_more (bytes_among c.args.bytes.now) (map task_of c.args.tasks.now) c.loop-number.number (task_of c.index-tasks-number.result)
    c.as_slice-in-loop-number.result.now _ _ it.stands it.all c.loop-number.invariant c.in_ok-add_sites.ensures

pub returns : goal.returns
returns c =
    adds_same PlacedBefore c.loop-number.invariant (λ x p. p.1)
    (λ x p. let within = task_within (bytes_among c.args.bytes.now) (map task_of c.args.tasks.now) x p in
    (omega (arith, within, length-map c.args.tasks.now task_of, c.loop-number-test.false), p))
