-- The begin of the line, and the byte or the end of the line.
use Rattle.std.proofs.Common.{◌≡◌, ◌++◌, ◌==◌, ℕ, Bool, List, eq-eqb, false, refl, subst, sym, true}
use Rattle.std.proofs.lemmas.Bool.{ne_eqb}
use Rattle.std.specs.Prelude.{if◌then◌else◌}
use Rattle.race_page.specs.Listing.{in_line, line_begin, line_end, piece}
use Rattle.race_page.proofs.LineSteps.{both_added}
use Rattle.race_page.proofs.listing.add_piece.Goals as goal

ends : (begin end inside : List ℕ) (test : Bool) → test ≡ true → begin ++ end ≡ begin ++ (if test then end else inside)
ends begin end inside test is =
    subst (λ (b : Bool). begin ++ end ≡ begin ++ (if b then end else inside)) (sym is) refl

goes_on : (begin end inside : List ℕ) (test : Bool) → test ≡ false → begin ++ inside ≡ begin ++ (if test then end else inside)
goes_on begin end inside test is =
    subst (λ (b : Bool). begin ++ inside ≡ begin ++ (if b then end else inside)) (sym is) refl

pub returns-then-byte-eq10 : goal.returns-then-byte-eq10
unfolding piece
returns-then-byte-eq10 c =
    let begin = line_begin c.args.place in
    let end = line_end c.args.place in
    both_added c.end_line.result _ _ _ begin end _ c.in_ok-begin_line.ensures c.end_line.ensures
    (ends begin end (in_line c.args.file c.args.at c.args.place c.args.mark c.args.byte) (c.args.byte == 10)
    (eq-eqb c.args.byte 10 c.if-byte-eq10.true))

pub returns : goal.returns
unfolding piece
returns c =
    let begin = line_begin c.args.place in
    let inside = in_line c.args.file c.args.at c.args.place c.args.mark c.args.byte in
    both_added c.add_in_line.result _ _ _ begin inside _ c.in_ok-begin_line.ensures c.add_in_line.ensures
    (goes_on begin (line_end c.args.place) inside (c.args.byte == 10) (ne_eqb c.args.byte 10 c.if-byte-eq10.false))
