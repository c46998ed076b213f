-- A text has as many sites as statements with an access, wherever its variables stand.
use Rattle.std.proofs.Common.{◌≡◌, ◌∙◌, [], List, ap, length, refl, subst, sym}
use Rattle.litmus_semantics.proofs.LimitLemmas.{all_loops_fit}
use Rattle.litmus_semantics.proofs.TextSitesLemmas.{block_length}
use Rattle.litmus_semantics.specs.Task.{Setting}
use Rattle.litmus_semantics.specs.TextSites.{AllLoopsFit, block_sites}
use Rattle.litmus_semantics.specs.declared.site.Site.{Site}
use Rattle.litmus_syntax.specs.Sites.{sites_of}
use Rattle.litmus_syntax.specs.Views.{block_of}
use Rattle.litmus_syntax.specs.declared.statement.Statement.{Statement}
use Rattle.program_table.proofs.rows.site_count.Goals as goal

-- a setting without variables
abbrev nowhere : Setting
nowhere = record { task = 0; variables = []; places = [] }

-- the sites of a text that is passed
passed : (text items : List Statement) (sites : List Site) → text ≡ items → AllLoopsFit 1 (block_of items)
    → (AllLoopsFit 1 (block_of text) → sites ≡ block_sites nowhere (block_of text)) → sites ≡ block_sites nowhere (block_of items)
passed text items sites same fit are =
    are (subst (λ (t : List Statement). AllLoopsFit 1 (block_of t)) (sym same) fit)
    ∙ ap (λ (t : List Statement). block_sites nowhere (block_of t)) same

pub returns : goal.returns
returns c =
    let fit = all_loops_fit 1 (block_of c.args.task.now.body.items) c.requires.turns in
    let sites = passed c.as_slice.result.now c.args.task.now.body.items c.in_ok-sites.sites.items c.as_slice.ensures.value fit
    (c.in_ok-sites.ensures.setting nowhere (λ variable. refl)) in
    let all : length c.in_ok-sites.sites.items ≡ length (sites_of (block_of c.args.task.now.body.items)) =
    ap length sites ∙ block_length nowhere (block_of c.args.task.now.body.items) in
    let counted : c.len.result ≡ length c.in_ok-sites.sites.items = c.len.ensures ∙ c.in_ok-sites.sites.ok.0 in
    counted ∙ all
