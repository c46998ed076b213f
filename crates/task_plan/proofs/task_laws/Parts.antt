-- Parts of a text that some records spell, from a place on.
use Rattle.std.proofs.Common.{◌≡◌, ◌≤◌, ◌∙◌, ◌+◌, ◌*◌, ◌++◌, ℕ, zero, suc, List, [], append_assoc, arith, refl, subst, sym}
use Rattle.std.proofs.Math.Nat.{suc-mul}
use Rattle.litmus_semantics.specs.Task as meaning
use Rattle.setup_access.specs.Check.{Fallen}
use Rattle.setup_access.specs.OwnAccesses.{AreOwn}
use Rattle.setup_access.specs.Setting as checks
use Rattle.slot_table.specs.declared.records.Record.{Record}
use Rattle.task_plan.specs.task_laws.StandingButWay.{Core, begun_at, standing}
use Rattle.program_order.specs.Standing.{Point, Standing, registered}
use Rattle.program_order.specs.WrittenOrder.{Steps, StepsOfTurns}

-- Some records spell the part from here on, whatever the way there and whatever follows. No more accesses than so
-- many begin at each site, and the scoped assertions in force are the same afterwards.
pub record Spelled (P : Steps) (at : Core) (most : ℕ → ℕ) : Type 0 where
  pub after : Core
  pub records : List Record
  pub spells : (way : List Point) (outcomes : List Fallen) (rest : List Record) → (farther : List Point) × (more : List Fallen)
      × P (standing at way outcomes) (records ++ rest) (standing after farther more) rest
  pub counts : (site : ℕ) → begun_at site after ≤ begun_at site at + most site
  pub scopes : after.scopes ≡ at.scopes

-- what follows from a part that is spelled
pub spelled_as : (P Q : Steps) (at : Core) (few most : ℕ → ℕ) (spelled : Spelled P at few) → ((site : ℕ) → few site ≤ most site)
    → ((way : List Point) (outcomes : List Fallen) (records : List Record) (after : Standing) (rest : List Record)
    → P (standing at way outcomes) records after rest → Q (standing at way outcomes) records after rest)
    → Spelled Q at most
spelled_as P Q at few most spelled within goes = record {
  after = spelled.after;
  records = spelled.records;
  spells = λ way outcomes rest.
      let own = spelled.spells way outcomes rest in
      (own.0, own.1, goes way outcomes (spelled.records ++ rest) (standing spelled.after own.0 own.1) rest own.2);
  counts = λ site. let counted = spelled.counts site in let few_more = within site in omega (arith, counted, few_more);
  scopes = spelled.scopes;
}

-- one part after the other
abbrev pub Both : Steps → Steps → Steps
Both P Q before records after rest =
    (between : Standing) × (later : List Record) × P before records between later × Q between later after rest

pub spelled_both : (P Q : Steps) (at : Core) (few more : ℕ → ℕ) (first : Spelled P at few) → Spelled Q first.after more
    → Spelled (λ before records after rest. Both P Q before records after rest) at (λ site. few site + more site)
spelled_both P Q at few more first second = record {
  after = second.after;
  records = first.records ++ second.records;
  spells = λ way outcomes rest.
      let one = first.spells way outcomes (second.records ++ rest) in
      let two = second.spells one.0 one.1 rest in (
        two.0,
        two.1,
        subst (λ (r : List Record). Both P Q (standing at way outcomes) r (standing second.after two.0 two.1) rest)
            (sym (append_assoc first.records second.records rest))
            (standing first.after one.0 one.1, second.records ++ rest, one.2, two.2),
      );
  counts = λ site. let one = first.counts site in let two = second.counts site in omega (arith, one, two);
  scopes = second.scopes ∙ first.scopes;
}

-- a register gets a value
abbrev pub set_at : Core → ℕ → ℕ → Core
set_at at register value = record {
  progress = meaning.assigning at.progress register value;
  unbalanced = at.unbalanced;
  asked = at.asked;
  scopes = at.scopes;
}

-- the turns of a loop, where each turn is spelled from wherever there is room for it
module _ (s : checks.Setting) (Body : Steps) (register : ℕ) (most : ℕ → ℕ)
    (each : (at : Core) → ((site : ℕ) → begun_at site at + most site ≤ 256) → AreOwn s at.scopes → Spelled Body at most) where
  pub turns_spelled : (left turn : ℕ) (at : Core) → ((site : ℕ) → begun_at site at + left * most site ≤ 256) → AreOwn s at.scopes
      → Spelled (λ before records after rest. StepsOfTurns Body register turn left before records after rest) at (λ site. left * most site)
  turns_spelled zero turn at room own = record {
    after = set_at at register turn;
    records = [];
    spells = λ way outcomes rest.
        ((registered (standing at way outcomes) rest register turn).way, outcomes, (refl, refl));
    counts = λ site. omega arith;
    scopes = refl;
  }
  turns_spelled (suc left) turn at room own =
      let start : Core = set_at at register turn in
      let body : Spelled Body start most =
      each start (λ site. let all = room site in let parts = suc-mul left (most site) in omega (arith, all, parts)) own in
      let others = turns_spelled left (suc turn) body.after
      (λ site. let all = room site in let parts = suc-mul left (most site) in let one = body.counts site in omega (arith, all, parts, one))
      (subst (λ (scopes : List _). AreOwn s scopes) (sym body.scopes) own) in
      record {
        after = others.after;
        records = body.records ++ others.records;
        spells = λ way outcomes rest.
            let all : (body.records ++ others.records) ++ rest ≡ body.records ++ (others.records ++ rest) = append_assoc body.records others.records rest in
            let set : Standing = registered (standing at way outcomes) (body.records ++ (others.records ++ rest)) register turn in
            let one = body.spells set.way outcomes (others.records ++ rest) in
            let two = others.spells one.0 one.1 rest in (
              two.0,
              two.1,
              subst (λ (r : List Record). StepsOfTurns Body register turn (suc left) (standing at way outcomes) r (standing others.after two.0 two.1) rest)
                  (sym all) (standing body.after one.0 one.1, others.records ++ rest, one.2, two.2),
            );
        counts = λ site.
            let one = body.counts site in
            let two = others.counts site in
            let parts = suc-mul left (most site) in
            omega (arith, one, two, parts);
        scopes = others.scopes ∙ body.scopes;
      }
