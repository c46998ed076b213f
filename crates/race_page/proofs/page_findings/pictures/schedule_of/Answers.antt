-- The entries that were read are compared with those that were written.
use Rattle.std.proofs.Common.{◌≡◌, ◌∙◌, Bool, false, not, refl, rules, sym, true}
use Rattle.std.proofs.lemmas.Slice.Eq.{slice_eq-Decides}
use Rattle.std.specs.Cmp.Lexicographic.{pointwise}
use Rattle.prepared_program.specs.contracts.step_schedule.schedule.EntryEq.TheImpl.Laws as entry_laws
use Rattle.prepared_program.specs.contracts.step_schedule.schedule.EntryPartialEq.TheImpl as of_entry
use Rattle.setup_access.proofs.Compared.{ReflectsEquality, decides}
use Rattle.race_page.proofs.page_findings.pictures.schedule_of.Goals as goal

-- a comparison of entries is true of what is the same alone
entries_tell : ReflectsEquality of_entry.eq-value.it
entries_tell a b e = search rules

no_other : (same : Bool) → not same ≡ false → same ≡ true
no_other true is = refl
no_other false is = absurd (cc)

pub returns : goal.returns
returns c =
    let own = c.entries.result.now in
    let given = c.args.entries.now in
    let same = pointwise of_entry.eq-value.it own given in
    sym c.entries.ensures ∙ (slice_eq-Decides (decides entries_tell entry_laws.laws-law) own given same refl).0
    (no_other same (sym c.ne.ensures ∙ c.if-ne.false))
