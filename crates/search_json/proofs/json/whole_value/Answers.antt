-- The members, one behind the other.
use Rattle.std.proofs.Common.{refl}
use Rattle.search_json.specs.Json.{whole_data}
use Rattle.serde_json.specs.Data.{null}
use Rattle.serde_json.specs.View.{view}
use Rattle.search_json.proofs.json.whole_value.Goals as goal

pub returns : goal.returns
unfolding whole_data
returns c =
    let parts = c.args.parts in
    c.build.ensures _ (c.value-7.ensures _ (view parts.stuck) (c.flag.ensures _ _ (c.number.ensures _ _ (c.value-6.ensures _ (view parts.states)
    (c.value-5.ensures _ (view parts.settings) (c.value-4.ensures _ (view parts.searched) (c.value-3.ensures _ (view parts.reports)
    (c.value-2.ensures _ (view parts.observation) (c.text.ensures _ _ (c.value.ensures _ null c.new.ensures c.null_value.ensures) refl)
    refl) refl) refl) refl) refl) refl) refl) refl)
