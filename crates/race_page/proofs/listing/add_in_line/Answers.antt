-- A mark, the byte, and behind the end of a statement what ends the mark.
use Rattle.std.proofs.Common.{◌≡◌, ◌++◌, ◌==◌, ◌∙◌, [], ℕ, Bool, List, ap, append-nil, eq-eqb, false, refl, subst, sym}
use Rattle.std.proofs.lemmas.Bool.{ne_eqb}
use Rattle.std.specs.Prelude.{if◌then◌else◌}
use Rattle.race_page.specs.Escape.{escaped_byte}
use Rattle.race_page.specs.Listing.{closing, in_line, opening, place_in}
use Rattle.race_page.specs.declared.listing.Place.{Place}
use Rattle.race_page.proofs.LineSteps.{added_twice}
use Rattle.race_page.proofs.listing.add_in_line.Goals as goal

at_end : (byte : ℕ) (place inside : Place) → byte ≡ 59 → place ≡ inside → closing place ≡ (if byte == 59 then closing inside else [])
at_end byte place inside is same =
    subst (λ (b : Bool). closing place ≡ (if b then closing inside else [])) (sym (eq-eqb byte 59 is)) (ap closing same)

elsewhere : (byte : ℕ) (inside : Place) → (byte == 59) ≡ false → [] ≡ (if byte == 59 then closing inside else [])
elsewhere byte inside isnt = subst (λ (b : Bool). [] ≡ (if b then closing inside else [])) (sym isnt) refl

pub returns-in_ok-add_text : goal.returns-in_ok-add_text
unfolding in_line
returns-in_ok-add_text c =
    let inside = place_in c.args.place c.args.mark in
    let own = opening c.args.file c.args.at c.args.place c.args.mark in
    let byte = escaped_byte c.args.byte in
    let first = added_twice _ _ _ own byte (own ++ byte) c.in_ok-begin_mark.ensures c.in_ok-add_byte.ensures refl in
    added_twice _ _ _ (own ++ byte) (closing c.place_in.result) _ first
    (c.in_ok-add_text.ensures (closing c.place_in.result) c.closing.ensures)
    (ap (λ (t : List ℕ). own ++ byte ++ t) (at_end c.args.byte c.place_in.result inside c.if-byte-eq59.true c.place_in.ensures))

pub returns-else-byte-eq59 : goal.returns-else-byte-eq59
unfolding in_line
returns-else-byte-eq59 c =
    let inside = place_in c.args.place c.args.mark in
    let own = opening c.args.file c.args.at c.args.place c.args.mark in
    let byte = escaped_byte c.args.byte in
    added_twice _ _ _ own byte _ c.in_ok-begin_mark.ensures c.in_ok-add_byte.ensures
    (sym (append-nil (own ++ byte))
    ∙ ap (λ (t : List ℕ). own ++ byte ++ t) (elsewhere c.args.byte inside (ne_eqb c.args.byte 59 c.if-byte-eq59.false)))
