-- A check ends where it ends, whatever follows.
use Rattle.std.proofs.Common.{◌≡◌, ◌∙◌, ◌+◌, ◌||◌, ◌++◌, ◌∷◌, [], ℕ, Bool, true, false, List, Option, None, Some, MatchBool, ap, append_assoc, refl, subst, sym}
use Rattle.std.proofs.lemmas.List.{append-nil}
use Rattle.access_types.specs.Access.{Access}
use Rattle.access_run.specs.Access.{MakesAccess}
use Rattle.access_run.specs.Moved.{FramedChecks, moved}
use Rattle.access_run.specs.memory_operation.Operations.{Operates, OperatesIn}
use Rattle.access_run.specs.declared.memory_operation.effect.Effect.{Effect}
use Rattle.access_run.specs.declared.memory_operation.operation.Operation.{Operation}
use Rattle.access_run.proofs.memory_operation.FrameLemmas.{operation_front}
use Rattle.access_run.proofs.memory_operation.Fronts.{Front, front_map, front_none, front_then, front_word}
use Rattle.setup_access.specs.Check.{Check, ChecksAll, ChecksBegun, ChecksOnce, Close, Ends, Fallen, GoesOn, NoneFound, Pass, Passes, Rechecks, asked_silenced, counts_as_marked, fallen_of, left_to_check, skipped, unencodable, watched}
use Rattle.setup_access.specs.Fallen.{followed}
use Rattle.setup_access.specs.Find.{LooksUp}
use Rattle.setup_access.specs.Records.{MakesWord, OnWord}
use Rattle.setup_access.specs.Setting.{Setting, look_order, slot_of}
use Rattle.setup_access.specs.Setup.{Judged, SetsUp}
use Rattle.setup_access.specs.declared.begun.Begun.{Begun}
use Rattle.setup_access.specs.declared.outcome.Outcome.{Outcome}
use Rattle.setup_access.specs.declared.outcome.Outcome.TheVariants.{Capacity, Nothing, Unencodable}
use Rattle.setup_access.specs.declared.outcome.Watchpoint.{Watchpoint}
use Rattle.slot_table.specs.declared.records.Record.{Record}
use Rattle.slot_table.specs.declared.step.Answer.{Answer}
use Rattle.slot_table.specs.declared.step.Answer.TheVariants as answers
use Rattle.slot_table.specs.declared.step.Step.TheVariants.{Clock}
use Rattle.watch_word.specs.Word.{word_of}
use Rattle.access_run.proofs.PartFronts.{found_watchpoint, frees, looks_up, sets_up}

-- a part of the records with what it comes to alone, which stands for itself before anything
abbrev FrontOf : {X : Type 0} → (List Record → X → X) → (List Record → X → List Record → Type 0) → List Record → X → List Record → Type 0
FrontOf {X = X} move Begins records value rest =
    (part : List Record) × (alone : X) × (records ≡ part ++ rest) × (value ≡ move rest alone)
    × ((other : List Record) → Begins (part ++ other) (move other alone) other)

-- something first, and then what comes to a value
after_front : {X : Type 0} (move : List Record → X → X) (First : List Record → List Record → Type 0) (Second Both : List Record → X → List Record → Type 0)
    (records between : List Record) (value : X) (rest : List Record) → Front First records between → FrontOf move Second between value rest
    → ((r m l : List Record) (v : X) → First r m → Second m v l → Both r v l) → FrontOf move Both records value rest
after_front move First Second Both records between value rest first second both = (
  first.0 ++ second.0,
  second.1,
  first.1 ∙ (ap (λ l. first.0 ++ l) second.2 ∙ sym (append_assoc first.0 second.0 rest)),
  second.3,
  λ other. subst (λ r. Both r (move other second.1) other) (sym (append_assoc first.0 second.0 other))
      (both (first.0 ++ (second.0 ++ other)) (second.0 ++ other) other (move other second.1) (first.2 (second.0 ++ other)) (second.4 other)),
)

-- an outcome that has fallen, before these records too
abbrev moved_fallen : List Record → Fallen → Fallen
moved_fallen rest fallen = record fallen { later = fallen.later ++ rest }

-- what a check of one access comes to, before these records too
abbrev moved_pass : List Record → Pass → Pass
moved_pass rest pass = record pass { later = pass.later ++ rest }

abbrev pass_of : Outcome → Bool → ℕ → List Record → Pass
pass_of outcome settled asked later = record { outcome = outcome; later = later; settled = settled; asked = asked }

ends : (s : Setting) (asked : ℕ) (judged : Option Judged) (pass : Pass) (records rest : List Record) → Ends s asked judged records pass rest
    → FrontOf moved_pass (Ends s asked judged) records pass rest
ends s asked None pass records rest h =
    ([], pass_of Capacity false asked [], sym h.1, h.0 ∙ ap (pass_of Capacity false asked) (sym h.1), λ other. (refl, refl))
ends s asked (Some judged) pass records rest h =
    let front = frees s judged.index records rest h.1 in
    (front.0, pass_of judged.outcome true asked front.0, front.1, h.0 ∙ ap (pass_of judged.outcome true asked) front.1, λ other. (refl, front.2 other))

none_found : (s : Setting) (a : Access) (marked : Bool) (asked : ℕ) (pass : Pass) (records rest : List Record) → NoneFound s a marked asked records pass rest
    → FrontOf moved_pass (NoneFound s a marked asked) records pass rest
none_found s a marked asked pass records rest (counts_as_marked is pass_is over) =
    ([], pass_of Nothing false asked [], sym over, pass_is ∙ ap (pass_of Nothing false asked) (sym over), λ other. counts_as_marked is refl refl)
none_found s a marked asked pass records rest (skipped is unwatched pass_is over) =
    ([], pass_of Nothing false (asked + 1) [], sym over, pass_is ∙ ap (pass_of Nothing false (asked + 1)) (sym over), λ other. skipped is unwatched refl refl)
none_found s a marked asked pass records rest (unencodable is is_watched no_word pass_is over) =
    ([], pass_of Unencodable false (asked + 1) [], sym over, pass_is ∙ ap (pass_of Unencodable false (asked + 1)) (sym over), λ other. unencodable is is_watched no_word refl refl)
none_found s a marked asked pass records rest (watched judged later is is_watched encodable setup after) =
    after_front moved_pass (λ r m. SetsUp s a (word_of s.rules.layout a) r judged m) (Ends s (asked + 1) judged) (NoneFound s a marked asked) records later pass rest
    (sets_up s a (word_of s.rules.layout a) judged records later setup) (ends s (asked + 1) judged pass later rest after)
    (λ r m l v first second. watched judged m is is_watched encodable first second)

goes_on : (s : Setting) (a : Access) (marked : Bool) (asked : ℕ) (found : Option Watchpoint) (pass : Pass) (records rest : List Record)
    → GoesOn s a marked asked found records pass rest → FrontOf moved_pass (GoesOn s a marked asked found) records pass rest
goes_on s a marked asked None pass records rest h = none_found s a marked asked pass records rest h
goes_on s a marked asked (Some found) pass records rest h =
    let front = found_watchpoint s a found pass.outcome records rest h.3 in
    (front.0, pass_of pass.outcome pass.settled pass.asked [], front.1, ap (pass_of pass.outcome pass.settled pass.asked) h.2, λ other. (h.0, h.1, refl, front.2 other))

checks_once : (s : Setting) (a : Access) (marked : Bool) (asked : ℕ) (pass : Pass) (records rest : List Record)
    → ChecksOnce s a marked asked records pass rest → FrontOf moved_pass (ChecksOnce s a marked asked) records pass rest
checks_once s a marked asked pass records rest h =
    after_front moved_pass (λ r m. LooksUp s a (look_order (slot_of s a)) r h.0 m) (GoesOn s a marked asked h.0) (ChecksOnce s a marked asked) records h.1 pass rest
    (looks_up s a (look_order (slot_of s a)) h.0 records h.1 h.2) (goes_on s a marked asked h.0 pass h.1 rest h.3)
    (λ r m l v first second. (h.0, m, first, second))

abbrev passes_of : ℕ → List Fallen → Passes
passes_of asked outcomes = record { outcomes = outcomes; asked = asked }

-- a check of one access, and more checks after it
abbrev Then : Setting → Access → Bool → ℕ → (Bool → List Begun) → List Record → Passes → List Record → Type 0
Then s a marked asked scopes records passes rest =
    (pass : Pass) × (later : List Record) × (more : List Fallen)
    × ChecksOnce s a marked asked records pass later
    × Rechecks s (scopes pass.settled) pass.asked later (passes_of passes.asked more) rest
    × (passes.outcomes ≡ fallen_of a pass ∷ more)

then_front : (s : Setting) (a : Access) (marked : Bool) (asked : ℕ) (scopes : Bool → List Begun) (passes : Passes) (records rest : List Record)
    → ((settled : Bool) (now : ℕ) (other : Passes) (later : List Record) → Rechecks s (scopes settled) now later other rest → FrontOf moved (Rechecks s (scopes settled) now) later other rest)
    → Then s a marked asked scopes records passes rest → FrontOf moved (Then s a marked asked scopes) records passes rest
then_front s a marked asked scopes passes records rest again h =
    let once = checks_once s a marked asked h.0 records h.1 h.3 in
    let here : Rechecks s (scopes once.1.settled) once.1.asked h.1 (passes_of passes.asked h.2) rest =
    subst (λ (p : Pass). Rechecks s (scopes p.settled) p.asked h.1 (passes_of passes.asked h.2) rest) once.3 h.4 in
    let more = again once.1.settled once.1.asked (passes_of passes.asked h.2) h.1 here in
    let first : Fallen = fallen_of a (moved_pass more.0 once.1) in
    let fallen_is : fallen_of a h.0 ≡ moved_fallen rest first =
    ap (fallen_of a) once.3 ∙ ap (λ (l : List Record). fallen_of a (pass_of once.1.outcome once.1.settled once.1.asked l))
    (ap (λ l. once.1.later ++ l) more.2 ∙ sym (append_assoc once.1.later more.0 rest)) in
    let outcomes_are : passes.outcomes ≡ moved_fallen rest first ∷ followed rest more.1.outcomes =
    h.5 ∙ (ap (λ f. f ∷ h.2) fallen_is ∙ ap (λ (p : Passes). moved_fallen rest first ∷ p.outcomes) more.3) in (
      once.0 ++ more.0,
      passes_of more.1.asked (first ∷ more.1.outcomes),
      once.2 ∙ (ap (λ l. once.0 ++ l) more.2 ∙ sym (append_assoc once.0 more.0 rest)),
      ap (passes_of passes.asked) outcomes_are
          ∙ ap (λ (p : Passes). passes_of p.asked (moved_fallen rest first ∷ followed rest more.1.outcomes)) more.3,
      λ other. subst (λ r. Then s a marked asked scopes r (moved other (passes_of more.1.asked (first ∷ more.1.outcomes))) other) (sym (append_assoc once.0 more.0 other)) (
        moved_pass (more.0 ++ other) once.1,
        more.0 ++ other,
        followed other more.1.outcomes,
        once.4 (more.0 ++ other),
        more.4 other,
        ap (λ (l : List Record). fallen_of a (pass_of once.1.outcome once.1.settled once.1.asked l) ∷ followed other more.1.outcomes)
            (append_assoc once.1.later more.0 other),
      ),
    )

-- a choice by a test
choice : (b : Bool) (First Other : List Record → Passes → List Record → Type 0) (records : List Record) (passes : Passes) (rest : List Record)
    → MatchBool b (First records passes rest) (Other records passes rest)
    → (First records passes rest → FrontOf moved First records passes rest) → (Other records passes rest → FrontOf moved Other records passes rest)
    → FrontOf moved (λ r v l. MatchBool b (First r v l) (Other r v l)) records passes rest
choice true First Other records passes rest h first other = first h
choice false First Other records passes rest h first other = other h

nothing_front : (asked : ℕ) (passes : Passes) (records rest : List Record) → passes ≡ passes_of asked [] → rest ≡ records
    → FrontOf moved (λ r v l. (v ≡ passes_of asked []) × (l ≡ r)) records passes rest
nothing_front asked passes records rest is over = ([], passes_of asked [], sym over, is, λ other. (refl, refl))

rechecks : (s : Setting) (scopes : List Begun) (asked : ℕ) (passes : Passes) (records rest : List Record)
    → Rechecks s scopes asked records passes rest → FrontOf moved (Rechecks s scopes asked) records passes rest
rechecks s [] asked passes records rest h = nothing_front asked passes records rest h.0 h.1
rechecks s (scope ∷ scopes) asked passes records rest h =
    choice scope.silenced (Rechecks s scopes asked) (Then s scope.access scope.marked asked (λ settled. scopes)) records passes rest h
    (λ skips. rechecks s scopes asked passes records rest skips)
    (λ now. then_front s scope.access scope.marked asked (λ settled. scopes) passes records rest
    (λ settled at other later got. rechecks s scopes at other later rest got) now)

checks_all : (s : Setting) (scopes : List Begun) (begun : Begun) (asked : ℕ) (passes : Passes) (records rest : List Record)
    → ChecksAll s scopes begun asked records passes rest → FrontOf moved (ChecksAll s scopes begun asked) records passes rest
checks_all s scopes begun asked passes records rest h =
    then_front s begun.access begun.marked asked (λ settled. left_to_check settled scopes) passes records rest
    (λ settled now other later got. rechecks s (left_to_check settled scopes) now other later rest got) h

checks_begun : (s : Setting) (scopes : List Begun) (begun : Begun) (asked : ℕ) (passes : Passes) (records rest : List Record)
    → ChecksBegun s scopes begun asked records passes rest → FrontOf moved (ChecksBegun s scopes begun asked) records passes rest
checks_begun s scopes begun asked passes records rest h =
    choice begun.silenced (λ r v l. (v ≡ passes_of (asked_silenced begun.marked asked) []) × (l ≡ r)) (ChecksAll s scopes begun asked) records passes rest h
    (λ quiet. nothing_front (asked_silenced begun.marked asked) passes records rest quiet.0 quiet.1) (checks_all s scopes begun asked passes records rest)

-- the stamp, and what follows on it
stamped : (s : Setting) (scopes : List Begun) (begun : Begun) (asked : ℕ) (passes : Passes) (answer : Answer) (later rest : List Record)
    → OnWord answer (λ stamp. ChecksBegun s scopes begun asked later passes rest)
    → FrontOf moved (λ l v r. OnWord answer (λ stamp. ChecksBegun s scopes begun asked l v r)) later passes rest
stamped s scopes begun asked passes (answers.Word word) later rest h = checks_begun s scopes begun asked passes later rest h
stamped s scopes begun asked passes (answers.Flag flag) later rest h = absurd h
stamped s scopes begun asked passes (answers.Halves setter finder) later rest h = absurd h
stamped s scopes begun asked passes answers.Done later rest h = absurd h

pub check : (s : Setting) (scopes : List Begun) (begun : Begun) (asked : ℕ) (passes : Passes) (records rest : List Record)
    → Check s scopes begun asked records passes rest → FrontOf moved (Check s scopes begun asked) records passes rest
check s scopes begun asked passes [] rest h = absurd h.2
check s scopes begun asked passes (first ∷ later) rest h =
    let front = stamped s scopes begun asked passes first.answer later rest h.2.2 in
    (first ∷ front.0, front.1, ap (λ l. first ∷ l) front.2, front.3, λ other. (h.0, h.1, (h.2.0, h.2.1, front.4 other)))

clock_front : (task : ℕ) (records rest : List Record) → MakesWord task Clock (λ stamp later. rest ≡ later) records
    → Front (λ r l. MakesWord task Clock (λ stamp later. l ≡ later) r) records rest
clock_front task records rest h = front_word task Clock (λ stamp later l. l ≡ later) records rest h (λ stamp later over. ([], sym over, λ other. refl))

-- what comes before more records, and before still more
pub moved_twice : (first later : List Record) (passes : Passes) → moved later (moved first passes) ≡ moved (first ++ later) passes
moved_twice first later passes = ap (passes_of passes.asked) (outcomes passes.outcomes)
  where
    outcomes : (fallen : List Fallen) → followed later (followed first fallen) ≡ followed (first ++ later) fallen
    outcomes [] = refl
    outcomes (one ∷ more) =
        ap (λ (l : List Record). record one { later = l } ∷ followed later (followed first more)) (append_assoc one.later first later)
        ∙ ap (λ (l : List Fallen). moved_fallen (first ++ later) one ∷ l) (outcomes more)

-- checks, and what has no value after them
before_front : (First Both : List Record → Passes → List Record → Type 0) (Second : List Record → List Record → Type 0)
    (records between : List Record) (passes : Passes) (rest : List Record) → FrontOf moved First records passes between → Front Second between rest
    → ((r m l : List Record) (v : Passes) → First r v m → Second m l → Both r v l) → FrontOf moved Both records passes rest
before_front First Both Second records between passes rest first second both = (
  first.0 ++ second.0,
  moved second.0 first.1,
  first.2 ∙ (ap (λ l. first.0 ++ l) second.1 ∙ sym (append_assoc first.0 second.0 rest)),
  first.3 ∙ (ap (λ l. moved l first.1) second.1 ∙ sym (moved_twice second.0 rest first.1)),
  λ other. subst (λ r. Both r (moved other (moved second.0 first.1)) other) (sym (append_assoc first.0 second.0 other))
      (subst (λ v. Both (first.0 ++ (second.0 ++ other)) v other) (sym (moved_twice second.0 other first.1))
      (both (first.0 ++ (second.0 ++ other)) (second.0 ++ other) other (moved (second.0 ++ other) first.1) (first.4 (second.0 ++ other)) (second.2 other))),
)

-- a scoped assertion that is checked a last time, silenced or not
abbrev last_time : Begun → Bool → Begun
last_time scope silenced = record scope { silenced = scope.silenced || silenced }

pub close : (s : Setting) (scope : Begun) (silenced : Bool) (asked : ℕ) (passes : Passes) (records rest : List Record)
    → Close s scope silenced asked records passes rest → FrontOf moved (Close s scope silenced asked) records passes rest
close s scope silenced asked passes records rest h =
    before_front (Rechecks s (last_time scope silenced ∷ []) asked) (Close s scope silenced asked) (λ m l. MakesWord s.task Clock (λ stamp after. l ≡ after) m)
    records h.1.0 passes rest
    (rechecks s (last_time scope silenced ∷ []) asked passes records h.1.0 h.1.1) (clock_front s.task h.1.0 rest h.1.2)
    (λ r m l v first second. (h.0, (m, first, second)))

-- its operation on memory, if it has one
pub operates : (s : Setting) (a : Access) (operation : Option Operation) (effect : Effect) (records rest : List Record)
    → Operates s a operation records effect rest → Front (λ r l. Operates s a operation r effect l) records rest
operates s a None effect records rest h = front_none _ records rest h.0 h.1
operates s a (Some operation) effect records rest h =
    front_map (λ r l. OperatesIn s.task a h.0 operation r effect l) (λ r l. Operates s a (Some operation) r effect l) records rest
    (operation_front s.task a h.0 operation effect records rest h.2) (λ r l own. (h.0, h.1, own))

-- what follows on the check
abbrev After : Setting → Begun → Option Operation → Effect → List Record → List Record → Type 0
After s begun operation effect records rest =
    (done : List Record) × Operates s begun.access operation records effect done × MakesWord s.task Clock (λ stamp later. rest ≡ later) done

-- and the whole access
pub makes_access : (s : Setting) (scopes : List Begun) (begun : Begun) (asked : ℕ) (operation : Option Operation) (effect : Effect) (passes : Passes)
    (records rest : List Record) → MakesAccess s scopes begun asked operation records passes effect rest
    → FrontOf moved (λ r v l. MakesAccess s scopes begun asked operation r v effect l) records passes rest
makes_access s scopes begun asked operation effect passes records rest h =
    before_front (Check s scopes begun asked) (λ r v l. MakesAccess s scopes begun asked operation r v effect l) (After s begun operation effect)
    records h.checked passes rest
    (check s scopes begun asked passes records h.checked h.check)
    (front_then (λ r m. Operates s begun.access operation r effect m) (λ m l. MakesWord s.task Clock (λ stamp later. l ≡ later) m)
    (After s begun operation effect) h.checked h.done rest
    (operates s begun.access operation effect h.checked h.done h.operates) (clock_front s.task h.done rest h.ends)
    (λ r m l first second. (m, first, second)))
    (λ r m l v first second. record { checked = m; done = second.0; check = first; operates = second.1; ends = second.2 })

-- before nothing, nothing changes
moved_none : (passes : Passes) → moved [] passes ≡ passes
moved_none passes = ap (passes_of passes.asked) (outcomes passes.outcomes)
  where
    outcomes : (fallen : List Fallen) → followed [] fallen ≡ fallen
    outcomes [] = refl
    outcomes (one ∷ more) =
        ap (λ (l : List Record). record one { later = l } ∷ followed [] more) (append-nil one.later) ∙ ap (λ (l : List Fallen). one ∷ l) (outcomes more)

-- a front is a frame
pub framed_checks : (Begins : List Record → Passes → List Record → Type 0)
    → ((passes : Passes) (records rest : List Record) → Begins records passes rest → FrontOf moved Begins records passes rest) → FramedChecks Begins
framed_checks Begins front records passes rest = (
  λ h. let own = front passes records rest h in
      (own.0, own.1, subst (λ v. Begins own.0 v []) (moved_none own.1) (subst (λ r. Begins r (moved [] own.1) []) (append-nil own.0) (own.4 [])), own.2, own.3),
  λ h. let own = front h.1 h.0 [] h.2 in
      let part_is : own.0 ≡ h.0 = sym (own.2 ∙ append-nil own.0) in
      let alone_is : own.1 ≡ h.1 = sym (own.3 ∙ moved_none own.1) in
      subst (λ r. Begins r passes rest) (sym h.3) (subst (λ v. Begins (h.0 ++ rest) v rest) (sym h.4)
      (subst (λ v. Begins (h.0 ++ rest) (moved rest v) rest) alone_is
      (subst (λ p. Begins (p ++ rest) (moved rest own.1) rest) part_is (own.4 rest)))),
)
