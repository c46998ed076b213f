-- An access has one word or none.
use Rattle.std.proofs.Common.{◌≡◌, ◌∙◌, None, Option, Some, ap, refl, sym, ℕ}
use Rattle.access_types.specs.Access.{Access}
use Rattle.watch_word.specs.declared.layout.Layout.{Layout}
use Rattle.program_table.specs.Words.{IsWordIn}

pub one_word : (layout : Layout) (access : Access) (x y : Option ℕ) → IsWordIn layout access x → IsWordIn layout access y → x ≡ y
one_word layout access None None p q = refl
one_word layout access None (Some word) p q = absurd (p q.encodable)
one_word layout access (Some word) None p q = absurd (q p.encodable)
one_word layout access (Some word) (Some other) p q = ap Some (p.is ∙ sym q.is)
