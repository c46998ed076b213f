-- How much of what a task does counts, at most, by what each happening counts.
use Rattle.std.proofs.Common.{◌≡◌, ◌≤◌, ◌∙◌, ◌+◌, ◌*◌, ◌++◌, ℕ, zero, suc, Bool, true, false, List, [], ◌∷◌, append_assoc, ap, arith, count_by, le_refl, refl, replicate, sym, if◌then◌else◌}
use Rattle.std.proofs.lemmas.List.{append-nil}
use Rattle.std.proofs.lemmas.List.Sums.{sum_by-append, sum_by-cons}
use Rattle.std.proofs.Math.Nat.{suc-mul}
use Rattle.access_types.specs.Access.{Access}
use Rattle.access_types.specs.declared.history.Bytes.{Bytes}
use Rattle.access_types.specs.declared.history.Happening.{Happening}
use Rattle.access_types.specs.declared.history.Happening.TheVariants.{Begin, End, Lock, Read, Unlock, Write}
use Rattle.access_types.specs.declared.history.Happening.TheVariants as happenings
use Rattle.access_types.specs.declared.history.Mark.{Mark}
use Rattle.access_types.specs.declared.history.Mark.TheVariants.{Enable, Next}
use Rattle.litmus_semantics.specs.Task.{Progress}
use Rattle.program_order.specs.text_bounds.Scopes.{is_scoped}

-- a happening counts once, or not
abbrev pub one : (Happening → Bool) → Happening → ℕ
one weighs happening = if weighs happening then 1 else 0

pub none_or_none : (b : Bool) → (if b then 0 else 0) ≤ 0
none_or_none true = le_refl 0
none_or_none false = le_refl 0

-- of the accesses that are no scoped assertions only the begins count, and no more than this at each site; of the marks
-- no more than this does, and neither the end of a data_race( ) nor the mark of bits
pub record Weighs (weighs : Happening → Bool) (at_site : ℕ → ℕ) (of_mark : Mark → ℕ) : Type 0 where
  pub begins : (a : Access) → is_scoped a.kind ≡ false → one weighs (Begin a) ≤ at_site a.site
  pub ends : (a : Access) → is_scoped a.kind ≡ false → weighs (End a) ≡ false
  pub reads : (bytes : Bytes) (value : ℕ) → weighs (Read bytes value) ≡ false
  pub writes : (bytes : Bytes) (value : ℕ) → weighs (Write bytes value) ≡ false
  pub locks : (lock : ℕ) → weighs (Lock lock) ≡ false
  pub unlocks : (lock : ℕ) → weighs (Unlock lock) ≡ false
  pub marks : (m : Mark) → one weighs (happenings.Mark m) ≤ of_mark m
  pub enables : of_mark Enable ≡ 0
  pub nexts : of_mark (Next 1) ≡ 0

module _ (weighs : Happening → Bool) where
  pub weight_both : (one_part other : List Happening) → count_by weighs (one_part ++ other) ≡ count_by weighs one_part + count_by weighs other
  weight_both one_part other = sum_by-append (one weighs) one_part other

  pub weight_first : (first : Happening) (later : List Happening) → count_by weighs (first ∷ later) ≡ one weighs first + count_by weighs later
  weight_first first later = sum_by-cons (one weighs) first later

  pub weightless : (happening : Happening) → weighs happening ≡ false → one weighs happening ≡ 0
  weightless happening is = rw is refl

-- What a part of a text does counts no more than this, whatever counts.
pub record DoesAtMost (before after : Progress) (most : (ℕ → ℕ) → (Mark → ℕ) → ℕ) : Type 0 where
  pub does : List Happening
  pub comes_to : after.did ≡ before.did ++ does
  pub weight : (weighs : Happening → Bool) (at_site : ℕ → ℕ) (of_mark : Mark → ℕ) → Weighs weighs at_site of_mark
      → count_by weighs does ≤ most at_site of_mark

pub does_nothing : (before after : Progress) (most : (ℕ → ℕ) → (Mark → ℕ) → ℕ) → after.did ≡ before.did → DoesAtMost before after most
does_nothing before after most same = record {
  does = [];
  comes_to = same ∙ sym (append-nil before.did);
  weight = λ weighs at_site of_mark is. omega arith;
}

pub does_both : (before between after : Progress) (few more : (ℕ → ℕ) → (Mark → ℕ) → ℕ) → DoesAtMost before between few → DoesAtMost between after more
    → DoesAtMost before after (λ at_site of_mark. few at_site of_mark + more at_site of_mark)
does_both before between after few more first second = record {
  does = first.does ++ second.does;
  comes_to = second.comes_to ∙ (ap (λ (did : List Happening). did ++ second.does) first.comes_to ∙ append_assoc before.did first.does second.does);
  weight = λ weighs at_site of_mark is.
      let both = weight_both weighs first.does second.does in
      let one_part = first.weight weighs at_site of_mark is in
      let other = second.weight weighs at_site of_mark is in
      omega (arith, both, one_part, other);
}

pub does_within : (before after : Progress) (few most : (ℕ → ℕ) → (Mark → ℕ) → ℕ)
    → ((at_site : ℕ → ℕ) (of_mark : Mark → ℕ) → few at_site of_mark ≤ most at_site of_mark) → DoesAtMost before after few → DoesAtMost before after most
does_within before after few most within own = record {
  does = own.does;
  comes_to = own.comes_to;
  weight = λ weighs at_site of_mark is.
      let less = own.weight weighs at_site of_mark is in let more = within at_site of_mark in omega (arith, less, more);
}

-- so many marks of one kind
module _ (weighs : Happening → Bool) (at_site : ℕ → ℕ) (of_mark : Mark → ℕ) (is : Weighs weighs at_site of_mark) where
  pub marks_weight : (count : ℕ) (m : Mark) → count_by weighs (replicate count (happenings.Mark m)) ≤ count * of_mark m
  marks_weight zero m = omega arith
  marks_weight (suc count) m =
      let first = weight_first weighs (happenings.Mark m) (replicate count (happenings.Mark m)) in
      let own = is.marks m in
      let others = marks_weight count m in
      let parts = suc-mul count (of_mark m) in
      omega (arith, first, own, others, parts)

pub does_marks : (before after : Progress) (count : ℕ) (m : Mark) → after.did ≡ before.did ++ replicate count (happenings.Mark m)
    → DoesAtMost before after (λ at_site of_mark. count * of_mark m)
does_marks before after count m comes_to = record {
  does = replicate count (happenings.Mark m);
  comes_to = comes_to;
  weight = λ weighs at_site of_mark is. marks_weight weighs at_site of_mark is count m;
}
