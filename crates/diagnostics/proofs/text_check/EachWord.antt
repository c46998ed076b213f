-- Each access has a word in a layout, or none.
use Rattle.std.proofs.Common.{ℕ, None, Option, Some, arith, inl, inr, refl}
use Rattle.std.proofs.lemmas.Bool.{cases_lt}
use Rattle.program_table.specs.Words.{AreWords, IsWordIn}
use Rattle.access_types.specs.Access.{Access}
use Rattle.watch_word.specs.Word.{word_of}
use Rattle.watch_word.specs.declared.layout.Layout.{Layout}

-- the word of an access, if it has one
abbrev Word : Layout → Access → Type 0
Word layout access = (word : Option ℕ) × IsWordIn layout access word

word_in : (layout : Layout) (access : Access) → Word layout access
word_in layout access = elim (cases_lt access.addr 4096) [
  | inl low ↦ (None, λ can. let above = can.address in omega (arith, low, above))
  | inr high ↦ elim (cases_lt 0 access.size) [
    | inl bytes ↦ elim (cases_lt 8192 access.size) [
      | inl large ↦ (None, λ can. let small = can.size in omega (arith, large, small))
      | inr small ↦ (
        Some (word_of layout access),
        record { encodable = record { address = high; has_bytes = bytes; size = small }; is = refl },
      )
    ]
    | inr none ↦ (None, λ can. let bytes = can.has_bytes in omega (arith, none, bytes))
  ]
]

pub words_in : (layout : Layout) → AreWords layout
words_in layout = record { of = λ access. (word_in layout access).0; are = λ access. (word_in layout access).1 }
