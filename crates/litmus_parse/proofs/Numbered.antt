-- The names of a text are those that its items and parameters mention.
use Rattle.std.proofs.Common.{◌≡◌, ◌++◌, ℕ, zero, suc, List, [], ◌∷◌, Some, map, subst}
use Rattle.std.specs.Prelude.{Contains, flat_map, slice_get}
use Rattle.litmus_lex.specs.declared.words.VariableType.{VariableType}
use Rattle.litmus_lex.specs.Words.{Symbol}
use Rattle.litmus_syntax.specs.declared.program.Variable.{Variable}
use Rattle.litmus_expression.specs.Names.{Names, Numbered, Parameter, known, new}
use Rattle.litmus_expression.proofs.Named.{among, in_front, in_none, in_rest}
use Rattle.litmus_expression.proofs.Taken.{same_given}
use Rattle.litmus_parse.specs.Mentions as mentions
use Rattle.litmus_parse.specs.Mentions.{AreDeclared, AreNumbered, HasType, Mention, Said, Says}
use Rattle.litmus_parse.specs.Typed.{AreTyped}
use Rattle.litmus_parse.proofs.Listed.{at_the_end, before_or_last, in_before}
use Rattle.litmus_parse.specs.Grammar.{mentions_of}
use Rattle.litmus_parse.specs.Headers as grammar
use Rattle.litmus_parse.specs.Headers.{IsProcess, Listed, Parameters, Process, Processes, mention_of}

-- ---- the numbers of all mentions

pub numbered_both : {before between after : Names} {one two : List Mention} → AreNumbered before one between → AreNumbered between two after
    → AreNumbered before (one ++ two) after
numbered_both mentions.none later = later
numbered_both (mentions.more is rest) later = mentions.more is (numbered_both rest later)

listed_numbered : {before after : Names} {symbols rest : List Symbol} {ps : List Parameter} → Listed before symbols ps rest after
    → AreNumbered before (map mention_of ps) after
listed_numbered (grammar.last is) = mentions.more is mentions.none
listed_numbered (grammar.more is rest alone) = mentions.more is (listed_numbered rest)

parameters_numbered : {before after : Names} {symbols rest : List Symbol} {ps : List Parameter} → Parameters before symbols ps rest after
    → AreNumbered before (map mention_of ps) after
parameters_numbered grammar.none = mentions.none
parameters_numbered (grammar.some listed) = listed_numbered listed

process_numbered : {task : ℕ} {before after : Names} {symbols rest : List Symbol} {p : Process} → IsProcess task before symbols p rest after
    → AreNumbered before (mentions_of p) after
process_numbered (grammar.process parameters statements keeps) = parameters_numbered parameters

pub processes_numbered : {task : ℕ} {before after : Names} {symbols rest : List Symbol} {ps : List Process}
    → Processes task before symbols ps rest after → AreNumbered before (flat_map mentions_of ps) after
processes_numbered (grammar.last lt is) = numbered_both (process_numbered is) mentions.none
processes_numbered (grammar.more lt is rest) = numbered_both (process_numbered is) (processes_numbered rest)

-- ---- each name is mentioned, and each mention's name is there

pub stands : (names : Names) (n : ℕ) (name : List ℕ) → slice_get names n ≡ Some name → Contains names name
stands [] n name is = absurd cc
stands (other ∷ names) zero name is =
    subst (λ (x : List ℕ). Contains (other ∷ names) x) (same_given other name is) (in_front other names)
stands (other ∷ names) (suc n) name is = in_rest other name names (stands names n name is)

stays : {before after : Names} {x name : List ℕ} {n : ℕ} → Numbered 32 before x n after → Contains before name → Contains after name
stays (known is) there = there
stays {before} {x} {name} (new out lt) there = in_before before x name there

gets : {before after : Names} {x : List ℕ} {n : ℕ} → Numbered 32 before x n after → Contains after x
gets {before} {x} (known {number} is) = stands before number x is
gets {before} {x} (new out lt) = at_the_end before x

all_stay : {before after : Names} {ms : List Mention} {name : List ℕ} → AreNumbered before ms after → Contains before name → Contains after name
all_stay mentions.none there = there
all_stay (mentions.more is rest) there = all_stay rest (stays is there)

pub is_there : {before after : Names} {ms : List Mention} → AreNumbered before ms after → (m : Mention) → Contains ms m → Contains after m.name
is_there mentions.none m there = absurd (in_none m there)
is_there {after} (mentions.more {between} {mention} {later} is rest) m there =
    among mention m later (Contains after m.name) there
    (λ same. all_stay rest (subst (λ (x : Mention). Contains between x.name) same (gets is)))
    (λ inside. is_there rest m inside)

-- a name was there before, or is mentioned
pub is_said : {before after : Names} {ms : List Mention} → AreNumbered before ms after → (name : List ℕ) (P : Type 0) → Contains after name
    → (Contains before name → P) → ((s : Said) → Says ms name s → P) → P
is_said mentions.none name P there f g = f there
is_said {before} (mentions.more {between} {mention} {later} {number} is rest) name P there f g =
    is_said rest name P there
    (λ inside. one before between number mention later is name P inside f g)
    (λ s says. g s (in_rest mention (record { name = name; said = s }) later says))
  where
    one : (before between : Names) (n : ℕ) (m : Mention) (later : List Mention) → Numbered 32 before m.name n between → (name : List ℕ) (P : Type 0)
        → Contains between name
        → (Contains before name → P) → ((s : Said) → Says (m ∷ later) name s → P) → P
    one before between n m later (known is) name P there f g = f there
    one before between n m later (new out lt) name P there f g =
        before_or_last before m.name name P there f
        (λ same. g m.said (subst (λ (x : List ℕ). Says (m ∷ later) x m.said) same (in_front m later)))

-- ---- each name has a type

pub type_of : {all : List Mention} {names : Names} {variables : List Variable} → AreDeclared all names variables → (name : List ℕ)
    → Contains names name
    → (t : VariableType) × HasType all name t
type_of mentions.none name there = absurd (in_none name there)
type_of {all} (mentions.more {names} {name = x} is rest) name there =
    among x name names ((t : VariableType) × HasType all name t) there
    (λ same. (is.type, subst (λ (y : List ℕ). HasType all y is.type) same is.typed))
    (λ inside. type_of rest name inside)

pub all_typed : {all : List Mention} {names : Names} {variables : List Variable} → AreNumbered [] all names → AreDeclared all names variables
    → AreTyped all all
all_typed numbered declared m there = (there, type_of declared m.name (is_there numbered m there))
