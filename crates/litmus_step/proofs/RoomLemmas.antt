-- What is read of each element stays where one is put in place of one that reads alike.
use Rattle.std.proofs.Common.{◌≡◌, ◌∙◌, ◌∷◌, [], List, Some, ap, map, refl, slice_get, slice_set, suc, sym, zero, ℕ}

same_some : {A : Type 0} (one other : A) → Some one ≡ Some other → one ≡ other
same_some one other same = cc

pub same_mapped : {A B : Type 0} (f : A → B) (all : List A) (at : ℕ) (before after : A) → slice_get all at ≡ Some before → f after ≡ f before
    → map f (slice_set all at after) ≡ map f all
same_mapped f [] at before after stands same = refl
same_mapped f (first ∷ later) zero before after stands same =
    ap (λ read. read ∷ map f later) (same ∙ ap f (sym (same_some first before stands)))
same_mapped f (first ∷ later) (suc at) before after stands same =
    ap (λ read. f first ∷ read) (same_mapped f later at before after stands same)
