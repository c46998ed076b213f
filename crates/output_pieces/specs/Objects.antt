-- Objects of JSON that are built member by member, and arrays that are built item by item.
use Rattle.std.specs.Prelude.{◌≡◌, IfOk}
use Rattle.output_pieces.specs.declared.objects.ObjectBuilder.{ObjectBuilder}
use Rattle.serde_json.specs.Data.{Members}
use Rattle.serde_json.specs.View.{members_view}

-- These are the members so far, if there was room for each.
pub record HasMembers (object : ObjectBuilder) (members : Members) : Type 0 where
  pub are : IfOk object.members (λ map. members_view map.entries ≡ members)
