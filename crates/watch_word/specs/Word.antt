-- Which accesses a watch word can stand for, the word of each, and what a word says when it is read.
use Rattle.std.specs.Prelude.{◌≡◌, ◌+◌, ◌*◌, ◌/◌, ◌%◌, ◌<◌, ◌≤◌, ◌==◌, ℕ, if◌then◌else◌}
use Rattle.access_types.specs.Access.{Access, IsInLimits}
use Rattle.access_types.specs.Kind.{write_flag}
use Rattle.watch_word.specs.declared.layout.Layout.{Layout}
use Rattle.watch_word.specs.declared.watch.Watch.{Watch}
use Rattle.watch_word.specs.Layout.{address_span, masked, size_span, word_span, write_bit}

-- an access that a word can stand for: none of the first page, that of null pointers, and of 1 to
-- 8192 bytes
pub record Encodable (a : Access) : Type 0 where
  pub address : 4096 ≤ a.addr
  pub has_bytes : 0 < a.size
  pub size : a.size ≤ 8192

-- the word of the access: the write bit if its write flag is set, its size in the size field and
-- its address in the address field
unfoldable pub word_of : Layout → Access → ℕ
word_of layout a =
    (if write_flag a.kind then write_bit layout else 0)
    + a.size * address_span layout + masked layout a.addr

-- the access has a word, and it is this one
pub record WordOf (layout : Layout) (a : Access) (word : ℕ) : Type 0 where
  pub encodable : Encodable a
  pub is : word ≡ word_of layout a

-- what the fields of a word say
unfoldable pub watch_in : Layout → ℕ → Watch
watch_in layout word = record {
  write = word / write_bit layout % 2 == 1;
  size = word / address_span layout % size_span;
  addr = masked layout word;
}

-- the word is neither the empty one, 0, nor the consumed one, 1; it is one of the layout, and its
-- size is one that can be watched
pub record IsWatchWord (layout : Layout) (word : ℕ) : Type 0 where
  pub above_one : 1 < word
  pub below : word < word_span layout
  pub has_bytes : 0 < (watch_in layout word).size
  pub size : (watch_in layout word).size ≤ 8192

-- what the word stands for
pub record Watches (layout : Layout) (word : ℕ) (watch : Watch) : Type 0 where
  pub is_watch_word : IsWatchWord layout word
  pub says : watch ≡ watch_in layout word

-- what is watched of the access: its write flag, its size, and its address as far as a word has it
abbrev pub watch_of : Layout → Access → Watch
watch_of layout a = record { write = write_flag a.kind; size = a.size; addr = masked layout a.addr }

-- the word is that of an access, and says what is watched of it
pub record IsOfAccess (layout : Layout) (word : ℕ) : Type 0 where
  pub access : Access
  pub in_limits : IsInLimits access
  pub word_of_access : WordOf layout access word
  pub says : watch_in layout word ≡ watch_of layout access
