-- When the ranges of a watchpoint and of an access meet, by the low bits of their addresses.
use Rattle.std.specs.Prelude.{◌+◌, ◌<◌, ℕ}
use Rattle.watch_word.specs.declared.layout.Layout.{Layout}
use Rattle.watch_word.specs.declared.watch.Watch.{Watch}
use Rattle.watch_word.specs.Layout.{masked}

-- the range at the masked address begins no later than the last byte of the other, and the other no
-- later than its last byte
pub record Matches (layout : Layout) (watch : Watch) (addr size : ℕ) : Type 0 where
  pub watch_begins : masked layout watch.addr < masked layout addr + size
  pub access_begins : masked layout addr < masked layout watch.addr + watch.size
