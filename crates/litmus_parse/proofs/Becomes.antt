-- What the names of a program become behind mentions and parameters: they still differ, are few, and keep their
-- numbers.
use Rattle.std.proofs.Common.{◌≡◌, ◌≤◌, ℕ, zero, suc, List, [], ◌∷◌, ◌++◌, Some, length, map, refl, ap}
use Rattle.std.proofs.Common.{subst, arith}
use Rattle.std.specs.Prelude.{Contains, slice_get}
use Rattle.litmus_lex.specs.Words.{Symbol}
use Rattle.litmus_expression.specs.Names.{Names, Numbered, Parameter, known, new}
use Rattle.litmus_expression.proofs.Named.{among, in_front, in_none, in_rest}
use Rattle.litmus_body.proofs.statement_laws.Named.{Named, numbered_named}
use Rattle.litmus_parse.specs.Mentions as mentions
use Rattle.litmus_parse.specs.Mentions.{AreNumbered, Mention}
use Rattle.litmus_parse.specs.Headers as headers
use Rattle.litmus_parse.specs.Headers.{Listed, Parameters, mention_of}

-- each number has the name that it had
abbrev pub Grown : Names → Names → Type 0
Grown before later = (k : ℕ) (x : List ℕ) → slice_get before k ≡ Some x → slice_get later k ≡ Some x

append_before : (names : Names) (x y : List ℕ) (k : ℕ) → slice_get names k ≡ Some y → slice_get (names ++ x ∷ []) k ≡ Some y
append_before [] x y k is = absurd cc
append_before (m ∷ names) x y zero is = is
append_before (m ∷ names) x y (suc k) is = append_before names x y k is

append_there : (names : Names) (x : List ℕ) → slice_get (names ++ x ∷ []) (length names) ≡ Some x
append_there [] x = refl
append_there (n ∷ names) x = append_there names x

pub numbered_grown : {limit number : ℕ} {name : List ℕ} {before later : Names} → Numbered limit before name number later → Grown before later
numbered_grown (known there) = λ k x is. is
numbered_grown {name = name} {before = before} (new out lt) = λ k x is. append_before before name x k is

pub numbered_at : {limit number : ℕ} {name : List ℕ} {before later : Names} → Numbered limit before name number later
    → slice_get later number ≡ Some name
numbered_at (known there) = there
numbered_at {name = name} {before = before} (new out lt) = append_there before name

-- what names become: they still differ and are few, and keep their numbers
pub record Becomes (before later : Names) : Type 0 where
  pub named : Named later
  pub grown : Grown before later

pub becomes_same : (names : Names) → Named names → Becomes names names
becomes_same names named = record { named = named; grown = λ k x is. is }

pub becomes_then : (before between later : Names) → Becomes before between → Becomes between later → Becomes before later
becomes_then before between later one two = record { named = two.named; grown = λ k x is. two.grown k x (one.grown k x is) }

pub becomes_numbered : {number : ℕ} {name : List ℕ} {before later : Names} → Named before → Numbered 32 before name number later
    → Becomes before later
becomes_numbered {number} {name} {before} {later} named n = record { named = numbered_named name number before later named n; grown = numbered_grown n }

pub mentions_become : {before later : Names} {items : List Mention} → Named before → AreNumbered before items later → Becomes before later
mentions_become {before} named mentions.none = becomes_same before named
mentions_become {before} {later} named (mentions.more {between = between} n rest) =
    let one = becomes_numbered named n in
    becomes_then before between later one (mentions_become one.named rest)

-- ---- parameters have the numbers of their names

abbrev pub At : Names → List Parameter → Type 0
At names [] = Unit {0}
At names (p ∷ ps) = (slice_get names p.variable ≡ Some p.name) × At names ps

pub at_grown : (before later : Names) (ps : List Parameter) → Grown before later → At before ps → At later ps
at_grown before later [] grown at = tt
at_grown before later (p ∷ ps) grown at = (grown p.variable p.name at.0, at_grown before later ps grown at.1)

pub at_there : (names : Names) (ps : List Parameter) (p : Parameter) → At names ps → Contains ps p → slice_get names p.variable ≡ Some p.name
at_there names [] p at there = absurd (in_none p there)
at_there names (q ∷ ps) p at there =
    among q p ps (slice_get names p.variable ≡ Some p.name) there
    (λ same. subst (λ (r : Parameter). slice_get names r.variable ≡ Some r.name) same at.0)
    (λ later. at_there names ps p at.1 later)

pub mention_there : (ps : List Parameter) (p : Parameter) → Contains ps p → Contains (map mention_of ps) (mention_of p)
mention_there [] p there = absurd (in_none p there)
mention_there (q ∷ ps) p there =
    among q p ps (Contains (map mention_of (q ∷ ps)) (mention_of p)) there
    (λ same. subst (λ (m : Mention). Contains (map mention_of (q ∷ ps)) m) (ap mention_of same) (in_front (mention_of q) (map mention_of ps)))
    (λ later. in_rest (mention_of q) (mention_of p) (map mention_of ps) (mention_there ps p later))

pub record Lists (before later : Names) (symbols rest : List Symbol) (ps : List Parameter) : Type 0 where
  pub becomes : Becomes before later
  pub at : At later ps
  pub shorter : length rest ≤ length symbols

listed_is : {before later : Names} {symbols rest : List Symbol} {ps : List Parameter} → Named before → Listed before symbols ps rest later
    → Lists before later symbols rest ps
listed_is named (headers.last n) = record { becomes = becomes_numbered named n; at = (numbered_at n, tt); shorter = omega arith }
listed_is {before} {later} named (headers.more {between = between} {name = name} {variable = variable} n others_are out) =
    let one = becomes_numbered named n in
    let two = listed_is one.named others_are in
    let le = two.shorter in
    record {
      becomes = becomes_then before between later one two.becomes;
      at = (two.becomes.grown variable name (numbered_at n), two.at);
      shorter = omega arith;
    }

pub parameters_are : {before later : Names} {symbols rest : List Symbol} {ps : List Parameter} → Named before
    → Parameters before symbols ps rest later → Lists before later symbols rest ps
parameters_are {before} named headers.none = record { becomes = becomes_same before named; at = tt; shorter = omega arith }
parameters_are named (headers.some l) = listed_is named l
