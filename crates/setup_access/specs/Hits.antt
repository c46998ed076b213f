-- When an access hits the watchpoint of a word.
use Rattle.std.specs.Prelude.{◌||◌, ℕ, IsTrue}
use Rattle.access_types.specs.Access.{Access}
use Rattle.access_types.specs.Kind.{write_flag}
use Rattle.watch_word.specs.declared.layout.Layout.{Layout}
use Rattle.watch_word.specs.Match.{Matches}
use Rattle.watch_word.specs.Word.{IsWatchWord, watch_in}

-- a watch word matches an access: it is neither 0 nor 1, it or the access has the write bit, and the ranges at the
-- masked addresses meet
pub record Hits (layout : Layout) (access : Access) (word : ℕ) : Type 0 where
  pub is_watch_word : IsWatchWord layout word
  pub breaks : IsTrue ((watch_in layout word).write || write_flag access.kind)
  pub meets : Matches layout (watch_in layout word) access.addr access.size
