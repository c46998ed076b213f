-- The kinds of marks that are counted.
use Rattle.std.specs.Prelude.{Bool}
use Rattle.access_types.specs.Marked.{is_disable, is_enable, is_flat, is_nest_close, is_nest_open, is_next}
use Rattle.access_types.specs.declared.history.Mark.{Mark}
use Rattle.oracle_soundness.specs.declared.oracle_definitions.marked.MarkKind.{MarkKind}
use Rattle.oracle_soundness.specs.declared.oracle_definitions.marked.MarkKind.TheVariants as kinds

abbrev pub is_of : MarkKind → Mark → Bool
is_of kinds.Disable = is_disable
is_of kinds.Enable = is_enable
is_of kinds.NestOpen = is_nest_open
is_of kinds.NestClose = is_nest_close
is_of kinds.Flat = is_flat
is_of kinds.Next = is_next
