-- zeros up to the width stand before the digits
use Rattle.std.proofs.Common.{◌≡◌, ◌-◌, ℕ, ap, arith, false, length, length-append, replicate}
use Rattle.std.proofs.lemmas.List.{length-replicate}
use Rattle.std.specs.Prelude.{max}
use Rattle.std.specs.Fmt.{digits}
use Rattle.access_types.specs.ReportText.{hex}
use Rattle.report_text.proofs.HexDigits.{hex_is}
use Rattle.timeline.proofs.lengths.hex_len.Goals as goal

length-hex : (width n : ℕ) → length (hex width n) ≡ max width (length (digits 16 false n))
length-hex width n =
    let zeros : ℕ = width - length (digits 16 false n) in
    omega (arith, ap length (hex_is width n), length-append (replicate zeros 48) (digits 16 false n), length-replicate {A = ℕ} zeros 48)

pub returns : goal.returns
returns c = omega (arith, length-hex c.args.width c.args.number)
