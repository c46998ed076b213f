-- What is kept of runs, with one run more.
use Rattle.std.proofs.Common.{◌≡◌, ◌+◌, ◌∙◌, ◌++◌, ◌∷◌, ◌==◌, ◌||◌, ◌<◌, [], ℕ, Bool, true, List, ap, arith, flat_map, fold, length, map, not, refl, sym}
use Rattle.std.proofs.Common.{if◌then◌else◌, count_by}
use Rattle.std.proofs.Common.{cond}
use Rattle.std.proofs.Common.{inl, inr}
use Rattle.std.proofs.lemmas.Bool.Decides.{eqb_tells}
use Rattle.std.proofs.lemmas.List.{append-nil, map-append}
use Rattle.std.proofs.lemmas.List.Sums.{fold-append, sum_by-append, sum_by-cons}
use Rattle.std.proofs.lemmas.Grind.{flat_map-append}
use Rattle.std.specs.List.{sum_by}
use Rattle.access_types.specs.declared.report.Report.{Report}
use Rattle.report_text.specs.Groups.{Group, counted}
use Rattle.log_correctness.specs.Totals.{AddUp}
use Rattle.run_stats.specs.Output.{AreSums}
use Rattle.task_log.specs.Counters.{resting, together}
use Rattle.task_log.specs.declared.counters.Counters.{Counters}

-- one count more, where the sum rests at its last value
pub rested : {X : Type 0} (f : X → ℕ) (all : List X) (one : X) (old new : ℕ) → old ≡ resting (sum_by f all) → new ≡ together old (f one)
    → new ≡ resting (sum_by f (all ++ one ∷ []))
rested f all one old new is more =
    let sums : sum_by f (all ++ one ∷ []) ≡ sum_by f all + sum_by f (one ∷ []) = sum_by-append f all (one ∷ []) in
    let single : sum_by f (one ∷ []) ≡ f one + sum_by f [] = sum_by-cons f one [] in
    let none : sum_by f [] ≡ 0 = refl in
    omega (arith, is, more, sums, single, none)

pub counted_on : {X : Type 0} (p : X → Bool) (all : List X) (one : X) (old this new : ℕ) → old ≡ resting (count_by p all)
    → this ≡ (if p one then 1 else 0) → new ≡ together old this → new ≡ resting (count_by p (all ++ one ∷ []))
counted_on p all one old this new is here more =
    rested (λ x. cond (p x) 1 0) all one old new is (more ∙ ap (λ (n : ℕ). together old n) here)

-- the reports of one run more are counted too
pub groups_on : {X : Type 0} (f : Report → List ℕ) (of : X → List Report) (all : List X) (one : X) (old new : List Group)
    → old ≡ fold counted [] (map f (flat_map of all)) → new ≡ fold counted old (map f (of one))
    → new ≡ fold counted [] (map f (flat_map of (all ++ one ∷ [])))
groups_on f of all one old new is more =
    let texts : map f (flat_map of (all ++ one ∷ [])) ≡ map f (flat_map of all) ++ map f (of one) =
    ap (map f) (flat_map-append of all (one ∷ []) ∙ ap (λ (rest : List Report). flat_map of all ++ rest) (append-nil (of one)))
    ∙ map-append f (flat_map of all) (of one) in
    more
    ∙ (ap (λ (groups : List Group). fold counted groups (map f (of one))) is
    ∙ (sym (fold-append counted [] (map f (flat_map of all)) (map f (of one)))
    ∙ ap (λ (ts : List (List ℕ)). fold counted [] ts) (sym texts)))

-- a count that isn't 0
pub some : (n : ℕ) → 0 < n → not (n == 0) ≡ true
some n above = elim (eqb_tells n 0) [
  | inl none ↦ let is = none.1 in absurd (omega (arith, above, is))
  | inr differs ↦ ap not differs.0
]

-- there is a report, if there was one or the run has one
pub raced_on : {X : Type 0} (old : Bool) (own : List Report) (of : X → List Report) (all : List X) (one : X) → own ≡ of one
    → old ≡ not (length (flat_map of all) == 0) → (new : Bool) → new ≡ (old || not (length own == 0))
    → new ≡ not (length (flat_map of (all ++ one ∷ [])) == 0)
raced_on old own of all one is was new more =
    more
    ∙ (ap (λ (b : Bool). b || not (length own == 0)) was
    ∙ (any (flat_map of all) own
    ∙ ap (λ (rs : List Report). not (length rs == 0))
    (ap (λ (rest : List Report). flat_map of all ++ rest) (is ∙ sym (append-nil (of one))) ∙ sym (flat_map-append of all (one ∷ [])))))
  where
    any : (first second : List Report) → (not (length first == 0) || not (length second == 0)) ≡ not (length (first ++ second) == 0)
    any [] second = refl
    any (report ∷ first) second =
        ap (λ (b : Bool). b || not (length second == 0)) (some (length (report ∷ first)) (omega arith))
        ∙ sym (some (length (report ∷ (first ++ second))) (omega arith))

pub sums_go_on : (all : List Counters) (one old new : Counters) → AreSums all old → AddUp old one new → AreSums (all ++ one ∷ []) new
sums_go_on all one old new are more = record {
  arms = rested (λ c. c.arms) all one old.arms new.arms are.arms more.arms;
  quiet = rested (λ c. c.quiet) all one old.quiet new.quiet are.quiet more.quiet;
  taken = rested (λ c. c.taken) all one old.taken new.taken are.taken more.taken;
  lost = rested (λ c. c.lost) all one old.lost new.lost are.lost more.lost;
  two_sided = rested (λ c. c.two_sided) all one old.two_sided new.two_sided are.two_sided more.two_sided;
  unknown = rested (λ c. c.unknown) all one old.unknown new.unknown are.unknown more.unknown;
  encoding = rested (λ c. c.encoding) all one old.encoding new.encoding are.encoding more.encoding;
  same = rested (λ c. c.same) all one old.same new.same are.same more.same;
  masked = rested (λ c. c.masked) all one old.masked new.masked are.masked more.masked;
  capacity = rested (λ c. c.capacity) all one old.capacity new.capacity are.capacity more.capacity;
  unencodable = rested (λ c. c.unencodable) all one old.unencodable new.unencodable are.unencodable more.unencodable;
}
