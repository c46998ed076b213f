-- Lines, piece by piece.
use Rattle.std.proofs.Common.{◌≡◌, ◌+◌, ◌++◌, ◌<◌, ◌≤◌, ◌∷◌, ◌∙◌, [], ℕ, suc, Err, List, Ok, OnOk, Option, Result, add-one, ap}
use Rattle.std.proofs.Common.{append_assoc, arith, drop, get_or, length, refl, sym}
use Rattle.std.specs.Prelude.{if◌then◌else◌}
use Rattle.std.specs.Result.{is_ok}
use Rattle.std.proofs.Math.Seq.{drop-cons}
use Rattle.race_output.specs.declared.words.Said.{Said}
use Rattle.race_page.specs.Listing.{lines_from, next_place, piece}
use Rattle.race_page.specs.declared.listing.Place.{Place}

-- one piece more, and then another
pub both_added : {R E : Type 0} (result : Result R E) (old between new first second whole : List ℕ) → between ≡ old ++ first
    → OnOk result (new ≡ between ++ second) → first ++ second ≡ whole → OnOk result (new ≡ old ++ whole)
both_added (Ok done) old between new first second whole one two is =
    two ∙ ap (λ (t : List ℕ). t ++ second) one ∙ append_assoc old first second ∙ ap (λ (t : List ℕ). old ++ t) is
both_added (Err error) old between new first second whole one two is = tt

-- what was added if there was room
pub ok_items : {R E : Type 0} (result : Result R E) (new old added : List ℕ) → new ≡ (if is_ok result then added else old)
    → OnOk result (new ≡ added)
ok_items (Ok done) new old added is = is
ok_items (Err error) new old added is = tt

pub added_twice : (old between new first second whole : List ℕ) → between ≡ old ++ first → new ≡ between ++ second
    → first ++ second ≡ whole → new ≡ old ++ whole
added_twice old between new first second whole one two is =
    two ∙ ap (λ (t : List ℕ). t ++ second) one ∙ append_assoc old first second ∙ ap (λ (t : List ℕ). old ++ t) is

-- of the text that is left the first byte is written, and then the others
pub lines_step : (file : ℕ) (mark : ℕ → Option Said) (place next : Place) (at : ℕ) (text : List ℕ) → at < length text
    → next ≡ next_place place (mark at) (get_or text at 0)
    → piece file at place (mark at) (get_or text at 0) ++ lines_from file mark next (at + 1) (drop (at + 1) text)
    ≡ lines_from file mark place at (drop at text)
lines_step file mark place next at text within is =
    let byte = get_or text at 0 in
    ap (λ (n : ℕ). piece file at place (mark at) byte ++ lines_from file mark next n (drop n text)) (add-one at)
    ∙ ap (λ (p : Place). piece file at place (mark at) byte ++ lines_from file mark p (suc at) (drop (suc at) text)) is
    ∙ sym (ap (lines_from file mark place at) (drop-cons text at 0 within))

-- marks that are the same at the places of the text give the same lines
pub lines_same : (file : ℕ) (one other : ℕ → Option Said) (place : Place) (at : ℕ) (text : List ℕ)
    → ((k : ℕ) → at ≤ k → k < at + length text → one k ≡ other k)
    → lines_from file one place at text ≡ lines_from file other place at text
lines_same file one other place at [] same = refl
lines_same file one other place at (byte ∷ text) same =
    ap (λ (m : Option Said). piece file at place m byte ++ lines_from file one (next_place place m byte) (suc at) text)
    (same at (omega arith) (omega arith))
    ∙ ap (λ (t : List ℕ). piece file at place (other at) byte ++ t)
    (lines_same file one other (next_place place (other at) byte) (suc at) text
    (λ k low high. same k (omega (arith, low)) (omega (arith, high))))
