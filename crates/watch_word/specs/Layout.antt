-- Where the address, the size and the write bit stand in a watch word of 64 or of 32 bits.
use Rattle.std.specs.Prelude.{◌%◌, ◌^◌, ℕ}
use Rattle.watch_word.specs.declared.layout.Layout.{Layout}
use Rattle.watch_word.specs.declared.layout.Layout.TheVariants.{W64, W32}

-- the address field is the low 49 bits of a word, or the low 17: so many addresses it tells apart
abbrev pub address_span : Layout → ℕ
address_span W64 = 2 ^ 49
address_span W32 = 2 ^ 17

-- the size field is the 14 bits above the address: so many sizes it tells apart
abbrev pub size_span : ℕ
size_span = 2 ^ 14

-- the write bit is the one above the size: bit 63, or bit 31
abbrev pub write_bit : Layout → ℕ
write_bit W64 = 2 ^ 63
write_bit W32 = 2 ^ 31

-- the words of a layout are below this: they end with the write bit
abbrev pub word_span : Layout → ℕ
word_span W64 = 2 ^ 64
word_span W32 = 2 ^ 32

-- the address as far as a word has it
unfoldable pub masked : Layout → ℕ → ℕ
masked layout addr = addr % address_span layout
