-- the access is named, and the number is that of its armings
use Rattle.std.proofs.Common.{◌≡◌, ◌∷◌, ◌∙◌, ◌==◌, ◌+◌, ℕ, List, [], ap, cond, map, refl, subst, sym}
use Rattle.std.specs.Prelude.{count_by, nat_eq}
use Rattle.std.specs.Cmp.{nat_eq_equiv}
use Rattle.std.proofs.lemmas.Bool.{eq-eqb, eqb-true}
use Rattle.std.proofs.lemmas.List.Sums.{sum_by-cons}
use Rattle.access_types.specs.Arms.{Arm}
use Rattle.report_text.specs.Standing.{NamesOne, arms_of}
use Rattle.trace_replay.proofs.story.Story.counts_on.Goals as goal

armed_as_often : (arms : List Arm) (ticket : ℕ) → count_by (nat_eq ticket) (map (λ a. a.setter) arms) ≡ count_by (λ b. b.setter == ticket) arms
armed_as_often [] ticket = refl
armed_as_often (a ∷ arms) ticket =
    sum_by-cons (λ n. cond (nat_eq ticket n) 1 0) a.setter (map (λ (b : Arm). b.setter) arms)
    ∙ ap (λ b. cond b 1 0 + count_by (nat_eq ticket) (map (λ a. a.setter) arms)) (nat_eq_equiv.symm ticket a.setter)
    ∙ ap (λ n. cond (a.setter == ticket) 1 0 + n) (armed_as_often arms ticket)
    ∙ sym (sum_by-cons (λ b. cond (b.setter == ticket) 1 0) a arms)

pub returns-then-names : goal.returns-then-names
returns-then-names c = λ all knows.
    let often : c.of.result ≡ count_by (λ b. b.setter == c.args.arm.now.setter) (arms_of all) =
    c.of.ensures ∙ knows.armings c.setter-then-names.result ∙ armed_as_often (arms_of all) c.setter-then-names.result
    ∙ ap (λ n. count_by (λ b. b.setter == n) (arms_of all)) c.setter-then-names.ensures in (
      λ t. (
        subst (NamesOne all) c.setter.ensures ((c.names.ensures all knows).0 c.if-names.true),
        sym c.number.ensures ∙ eqb-true c.number.result c.of.result t ∙ often,
      ),
      λ is. eq-eqb c.number.result c.of.result (c.number.ensures ∙ is.1 ∙ sym often),
    )
