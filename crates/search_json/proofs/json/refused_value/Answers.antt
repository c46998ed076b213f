-- The members, one behind the other.
use Rattle.std.proofs.Common.{refl}
use Rattle.search_json.specs.Json.{refused_data}
use Rattle.serde_json.specs.Data.{array, no_items, null}
use Rattle.search_json.proofs.json.refused_value.Goals as goal

pub returns : goal.returns
unfolding refused_data
returns c =
    c.build.ensures _ (c.value-8.ensures _ null (c.value-7.ensures _ null (c.number.ensures _ _ (c.value-6.ensures _ (array no_items)
    (c.value-5.ensures _ null (c.value-4.ensures _ null (c.value-3.ensures _ (array no_items)
    (c.value-2.ensures _ null (c.text.ensures _ _ (c.value.ensures _ _ c.new.ensures c.text_value.ensures) refl) c.null_value.ensures)
    c.no_items.ensures) c.null_value-2.ensures) c.null_value-3.ensures) c.no_items-2.ensures) refl) c.null_value-4.ensures)
    c.null_value-5.ensures)
