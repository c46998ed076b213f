-- What one line more adds to what lines say.
use Rattle.std.proofs.Common.{◌≡◌, ◌∷◌, ◌++◌, ◌∙◌, ◌↔◌, ◌+◌, ◌<◌, ◌≤◌, ◌^◌, ◌-◌, ℕ, List, [], Bool, ap, append-nil, arith, length, map, refl, subst, sym}
use Rattle.std.specs.Prelude.{All, count_by}
use Rattle.std.specs.List.{flat_map}
use Rattle.std.proofs.lemmas.Grind.{flat_map-append}
use Rattle.std.proofs.lemmas.List.{length-map, map-append}
use Rattle.std.proofs.lemmas.List.Elements.{All-contains, All-push, All-weaker, Contains-push}
use Rattle.std.proofs.lemmas.List.Sums.{count_by-le-length}
use Rattle.access_types.specs.Arms.{Arm}
use Rattle.access_types.specs.Stamped.{Stamped}
use Rattle.access_types.specs.Takes.{Take}
use Rattle.access_types.specs.declared.arms.ArmOutcome.{ArmOutcome}
use Rattle.access_types.specs.declared.arms.ArmOutcome.TheVariants.{Quiet, Origin, Hit}
use Rattle.access_types.specs.declared.arms.HitResult.TheVariants as results
use Rattle.access_types.specs.declared.report.Report.{Report}
use Rattle.access_types.specs.declared.report.Report.TheVariants.{Two, Unknown}
use Rattle.report_text.specs.Standing.{Stands, accesses_of, arms_of, kind_place, reports_of, takes_of}
use Rattle.report_text.specs.TraceText.{Head}
use Rattle.report_text.specs.Truth.{hit_in, hits_in, origin_of, origins_in, pair_in, pairs_in, race_in, unknown_in}
use Rattle.report_text.specs.declared.line.Line.{Line}
use Rattle.report_text.specs.declared.line.Line.TheVariants as lines
use Rattle.report_text.proofs.TrueLines.{accesses-append, arms-append, reports-append, takes-append}
use Rattle.trace_replay.proofs.trace_lines.TrueBegins.{arms_within}
use Rattle.trace_replay.specs.Accesses.{AreKept}
use Rattle.trace_replay.specs.Armings.{AreArmings}
use Rattle.trace_replay.specs.Story.{CountsLines, Knows, IsStoryOf}
use Rattle.trace_replay.specs.Told.{HaveRoom, WereTold}
use Rattle.trace_replay.specs.declared.story.Story.{Story}

-- one piece more
flat_push : {X A : Type 0} (f : X → List A) (xs : List X) (x : X) → flat_map f (xs ++ x ∷ []) ≡ flat_map f xs ++ f x
flat_push f xs x = flat_map-append f xs (x ∷ []) ∙ ap (λ ys. flat_map f xs ++ ys) (append-nil (f x))

-- ---- how many there are at most

takes_within : (all : List Line) → length (takes_of all) ≤ length all
takes_within [] = omega arith
takes_within (lines.Access s ∷ all) = omega (arith, takes_within all)
takes_within (lines.Arm a ∷ all) = omega (arith, takes_within all)
takes_within (lines.Take t ∷ all) = omega (arith, takes_within all)
takes_within (lines.Report r ∷ all) = omega (arith, takes_within all)

reports_within : (all : List Line) → length (reports_of all) ≤ length all
reports_within [] = omega arith
reports_within (lines.Access s ∷ all) = omega (arith, reports_within all)
reports_within (lines.Arm a ∷ all) = omega (arith, reports_within all)
reports_within (lines.Take t ∷ all) = omega (arith, reports_within all)
reports_within (lines.Report r ∷ all) = omega (arith, reports_within all)

hits_within : (arms : List Arm) → length (hits_in arms) ≤ length arms
hits_within [] = omega arith
hits_within (a ∷ arms) = by a.outcome refl (hits_within arms)
  where
    by : (o : ArmOutcome) → a.outcome ≡ o → length (hits_in arms) ≤ length arms → length (hit_in a.setter a.index a.outcome ++ hits_in arms) ≤ length (a ∷ arms)
    by Quiet e h = rw e (omega arith)
    by Origin e h = rw e (omega arith)
    by (Hit finder result) e h = rw e (omega arith)

pairs_within : (arms : List Arm) → length (pairs_in arms) ≤ length arms
pairs_within [] = omega arith
pairs_within (a ∷ arms) = by a.outcome refl (pairs_within arms)
  where
    by : (o : ArmOutcome) → a.outcome ≡ o → length (pairs_in arms) ≤ length arms → length (pair_in a.setter a.outcome ++ pairs_in arms) ≤ length (a ∷ arms)
    by Quiet e h = rw e (omega arith)
    by Origin e h = rw e (omega arith)
    by (Hit finder results.Report) e h = rw e (omega arith)
    by (Hit finder results.Encoding) e h = rw e (omega arith)
    by (Hit finder results.Same) e h = rw e (omega arith)
    by (Hit finder results.Masked) e h = rw e (omega arith)

origins_within : (arms : List Arm) → length (origins_in arms) ≤ length arms
origins_within [] = omega arith
origins_within (a ∷ arms) = by a.outcome refl (origins_within arms)
  where
    by : (o : ArmOutcome) → a.outcome ≡ o → length (origins_in arms) ≤ length arms → length (origin_of a.setter a.outcome ++ origins_in arms) ≤ length (a ∷ arms)
    by Quiet e h = rw e (omega arith)
    by Origin e h = rw e (omega arith)
    by (Hit finder result) e h = rw e (omega arith)

races_within : (reports : List Report) → length (flat_map race_in reports) ≤ length reports
races_within [] = omega arith
races_within (Two setter finder seen ∷ reports) = omega (arith, races_within reports)
races_within (Unknown setter old new ∷ reports) = omega (arith, races_within reports)

unknown_within : (reports : List Report) → length (flat_map unknown_in reports) ≤ length reports
unknown_within [] = omega arith
unknown_within (Two setter finder seen ∷ reports) = omega (arith, unknown_within reports)
unknown_within (Unknown setter old new ∷ reports) = omega (arith, unknown_within reports)

pub room_by_arms : (all : List Line) → length all < 2 ^ 62 → HaveRoom (hits_in (arms_of all)) (pairs_in (arms_of all)) (origins_in (arms_of all))
room_by_arms all few = record {
  takes = omega (arith, arms_within all, hits_within (arms_of all));
  races = omega (arith, arms_within all, pairs_within (arms_of all));
  origins = omega (arith, arms_within all, origins_within (arms_of all));
}

pub room_by_others : (all : List Line) → length all < 2 ^ 62
    → HaveRoom (takes_of all) (flat_map race_in (reports_of all)) (flat_map unknown_in (reports_of all))
room_by_others all few = record {
  takes = omega (arith, takes_within all);
  races = omega (arith, reports_within all, races_within (reports_of all));
  origins = omega (arith, reports_within all, unknown_within (reports_of all));
}

-- counts are no higher than the list is long
pub count_fits : {K : Type 0} (same : K → K → Bool) (keys : List K) (key : K) (n count : ℕ) → length keys ≡ n → n < 2 ^ 63
    → count ≡ count_by (same key) keys → count < 2 ^ 64 - 1
count_fits same keys key n count is few e = omega (arith, count_by-le-length (same key) keys)

pub few_arms : (all : List Line) (story : Story) → CountsLines all story → length all < 2 ^ 62 → story.arms < 2 ^ 62
few_arms all story h few = let is = h.arms in omega (arith, arms_within all)

pub few_takes : (all : List Line) (story : Story) → CountsLines all story → length all < 2 ^ 62 → story.takes < 2 ^ 62
few_takes all story h few = let is = h.takes in omega (arith, takes_within all)

pub few_reports : (all : List Line) (story : Story) → CountsLines all story → length all < 2 ^ 62 → story.reports < 2 ^ 62
few_reports all story h few = let is = h.reports in omega (arith, reports_within all)

pub few_setters : (all : List Line) → length all < 2 ^ 62 → length (map (λ (a : Arm). a.setter) (arms_of all)) < 2 ^ 63
few_setters all few = omega (arith, length-map (arms_of all) (λ (a : Arm). a.setter), arms_within all)

-- ---- one line more

length_push : {X : Type 0} (xs : List X) (x : X) → length (xs ++ x ∷ []) ≡ length xs + 1
length_push [] x = refl
length_push (y ∷ xs) x = omega (arith, length_push xs x)

pub knows_access : (all : List Line) (s : Stamped) (old new : Story) → Knows all old
    → AreKept (accesses_of all ++ s ∷ []) new.accesses → new ≡ record old { accesses = new.accesses } → Knows (all ++ lines.Access s ∷ []) new
knows_access all s old new h kept same =
    let arms : arms_of (all ++ lines.Access s ∷ []) ≡ arms_of all = arms-append all _ ∙ append-nil (arms_of all) in
    let takes : takes_of (all ++ lines.Access s ∷ []) ≡ takes_of all = takes-append all _ ∙ append-nil (takes_of all) in
    let reports : reports_of (all ++ lines.Access s ∷ []) ≡ reports_of all = reports-append all _ ∙ append-nil (reports_of all) in
    record {
      accesses = subst (λ xs. AreKept xs new.accesses) (sym (accesses-append all (lines.Access s ∷ []))) kept;
      armings = subst (λ (n : Story). AreArmings (map (λ a. a.setter) (arms_of (all ++ lines.Access s ∷ []))) n.armings) (sym same)
          (subst (λ xs. AreArmings (map (λ a. a.setter) xs) old.armings) (sym arms) h.armings);
      by_arms = subst (λ (n : Story). WereTold (hits_in (arms_of (all ++ lines.Access s ∷ []))) (pairs_in (arms_of (all ++ lines.Access s ∷ [])))
          (origins_in (arms_of (all ++ lines.Access s ∷ []))) n.by_arms) (sym same)
          (subst (λ xs. WereTold (hits_in xs) (pairs_in xs) (origins_in xs) old.by_arms) (sym arms) h.by_arms);
      by_others = subst (λ (n : Story). WereTold (takes_of (all ++ lines.Access s ∷ [])) (flat_map race_in (reports_of (all ++ lines.Access s ∷ [])))
          (flat_map unknown_in (reports_of (all ++ lines.Access s ∷ []))) n.by_others) (sym same)
          (subst (λ xs. WereTold (takes_of (all ++ lines.Access s ∷ [])) (flat_map race_in xs) (flat_map unknown_in xs) old.by_others) (sym reports)
          (subst (λ xs. WereTold xs (flat_map race_in (reports_of all)) (flat_map unknown_in (reports_of all)) old.by_others) (sym takes) h.by_others));
      lines = record {
        arms = ap (λ (n : Story). n.arms) same ∙ h.lines.arms ∙ ap length (sym arms);
        takes = ap (λ (n : Story). n.takes) same ∙ h.lines.takes ∙ ap length (sym takes);
        reports = ap (λ (n : Story). n.reports) same ∙ h.lines.reports ∙ ap length (sym reports);
      };
    }

pub knows_arm : (all : List Line) (a : Arm) (old new : Story) → Knows all old → new.accesses ≡ old.accesses
    → AreArmings (map (λ b. b.setter) (arms_of all) ++ a.setter ∷ []) new.armings
    → WereTold (hits_in (arms_of all) ++ hit_in a.setter a.index a.outcome) (pairs_in (arms_of all) ++ pair_in a.setter a.outcome)
    (origins_in (arms_of all) ++ origin_of a.setter a.outcome) new.by_arms
    → new.by_others ≡ old.by_others → new.arms ≡ old.arms + 1 → new.takes ≡ old.takes → new.reports ≡ old.reports
    → Knows (all ++ lines.Arm a ∷ []) new
knows_arm all a old new h accesses armings by_arms by_others counted takes_same reports_same =
    let arms : arms_of (all ++ lines.Arm a ∷ []) ≡ arms_of all ++ a ∷ [] = arms-append all (lines.Arm a ∷ []) in
    let takes : takes_of (all ++ lines.Arm a ∷ []) ≡ takes_of all = takes-append all _ ∙ append-nil (takes_of all) in
    let reports : reports_of (all ++ lines.Arm a ∷ []) ≡ reports_of all = reports-append all _ ∙ append-nil (reports_of all) in
    let there : accesses_of (all ++ lines.Arm a ∷ []) ≡ accesses_of all = accesses-append all _ ∙ append-nil (accesses_of all) in
    record {
      accesses = subst (AreKept (accesses_of (all ++ lines.Arm a ∷ []))) (sym accesses)
          (subst (λ xs. AreKept xs old.accesses) (sym there) h.accesses);
      armings = subst (λ xs. AreArmings xs new.armings) (sym (ap (map (λ b. b.setter)) arms ∙ map-append (λ b. b.setter) (arms_of all) (a ∷ []))) armings;
      by_arms = subst (λ xs. WereTold xs (pairs_in (arms_of (all ++ lines.Arm a ∷ []))) (origins_in (arms_of (all ++ lines.Arm a ∷ []))) new.by_arms)
          (sym (ap hits_in arms ∙ flat_push (λ b. hit_in b.setter b.index b.outcome) (arms_of all) a))
          (subst (λ xs. WereTold (hits_in (arms_of all) ++ hit_in a.setter a.index a.outcome) xs (origins_in (arms_of (all ++ lines.Arm a ∷ []))) new.by_arms)
          (sym (ap pairs_in arms ∙ flat_push (λ b. pair_in b.setter b.outcome) (arms_of all) a))
          (subst (λ xs. WereTold (hits_in (arms_of all) ++ hit_in a.setter a.index a.outcome) (pairs_in (arms_of all) ++ pair_in a.setter a.outcome) xs new.by_arms)
          (sym (ap origins_in arms ∙ flat_push (λ b. origin_of b.setter b.outcome) (arms_of all) a)) by_arms));
      by_others = subst (WereTold (takes_of (all ++ lines.Arm a ∷ [])) (flat_map race_in (reports_of (all ++ lines.Arm a ∷ [])))
          (flat_map unknown_in (reports_of (all ++ lines.Arm a ∷ [])))) (sym by_others)
          (subst (λ xs. WereTold (takes_of (all ++ lines.Arm a ∷ [])) (flat_map race_in xs) (flat_map unknown_in xs) old.by_others) (sym reports)
          (subst (λ xs. WereTold xs (flat_map race_in (reports_of all)) (flat_map unknown_in (reports_of all)) old.by_others) (sym takes) h.by_others));
      lines = record {
        arms = counted ∙ ap (λ n. n + 1) h.lines.arms ∙ sym (ap length arms ∙ length_push (arms_of all) a);
        takes = takes_same ∙ h.lines.takes ∙ ap length (sym takes);
        reports = reports_same ∙ h.lines.reports ∙ ap length (sym reports);
      };
    }

pub knows_take : (all : List Line) (t : Take) (old new : Story) → Knows all old → new.accesses ≡ old.accesses → new.armings ≡ old.armings
    → new.by_arms ≡ old.by_arms
    → WereTold (takes_of all ++ t ∷ []) (flat_map race_in (reports_of all)) (flat_map unknown_in (reports_of all)) new.by_others
    → new.arms ≡ old.arms → new.takes ≡ old.takes + 1 → new.reports ≡ old.reports → Knows (all ++ lines.Take t ∷ []) new
knows_take all t old new h accesses armings by_arms by_others arms_same counted reports_same =
    let arms : arms_of (all ++ lines.Take t ∷ []) ≡ arms_of all = arms-append all _ ∙ append-nil (arms_of all) in
    let takes : takes_of (all ++ lines.Take t ∷ []) ≡ takes_of all ++ t ∷ [] = takes-append all (lines.Take t ∷ []) in
    let reports : reports_of (all ++ lines.Take t ∷ []) ≡ reports_of all = reports-append all _ ∙ append-nil (reports_of all) in
    let there : accesses_of (all ++ lines.Take t ∷ []) ≡ accesses_of all = accesses-append all _ ∙ append-nil (accesses_of all) in
    record {
      accesses = subst (AreKept (accesses_of (all ++ lines.Take t ∷ []))) (sym accesses)
          (subst (λ xs. AreKept xs old.accesses) (sym there) h.accesses);
      armings = subst (AreArmings (map (λ a. a.setter) (arms_of (all ++ lines.Take t ∷ [])))) (sym armings)
          (subst (λ xs. AreArmings (map (λ a. a.setter) xs) old.armings) (sym arms) h.armings);
      by_arms = subst (WereTold (hits_in (arms_of (all ++ lines.Take t ∷ []))) (pairs_in (arms_of (all ++ lines.Take t ∷ [])))
          (origins_in (arms_of (all ++ lines.Take t ∷ [])))) (sym by_arms)
          (subst (λ xs. WereTold (hits_in xs) (pairs_in xs) (origins_in xs) old.by_arms) (sym arms) h.by_arms);
      by_others = subst (λ xs. WereTold (takes_of (all ++ lines.Take t ∷ [])) (flat_map race_in xs) (flat_map unknown_in xs) new.by_others) (sym reports)
          (subst (λ xs. WereTold xs (flat_map race_in (reports_of all)) (flat_map unknown_in (reports_of all)) new.by_others) (sym takes) by_others);
      lines = record {
        arms = arms_same ∙ h.lines.arms ∙ ap length (sym arms);
        takes = counted ∙ ap (λ n. n + 1) h.lines.takes ∙ sym (ap length takes ∙ length_push (takes_of all) t);
        reports = reports_same ∙ h.lines.reports ∙ ap length (sym reports);
      };
    }

pub knows_report : (all : List Line) (r : Report) (old new : Story) → Knows all old → new.accesses ≡ old.accesses → new.armings ≡ old.armings
    → new.by_arms ≡ old.by_arms
    → WereTold (takes_of all) (flat_map race_in (reports_of all) ++ race_in r) (flat_map unknown_in (reports_of all) ++ unknown_in r) new.by_others
    → new.arms ≡ old.arms → new.takes ≡ old.takes → new.reports ≡ old.reports + 1 → Knows (all ++ lines.Report r ∷ []) new
knows_report all r old new h accesses armings by_arms by_others arms_same takes_same counted =
    let arms : arms_of (all ++ lines.Report r ∷ []) ≡ arms_of all = arms-append all _ ∙ append-nil (arms_of all) in
    let takes : takes_of (all ++ lines.Report r ∷ []) ≡ takes_of all = takes-append all _ ∙ append-nil (takes_of all) in
    let reports : reports_of (all ++ lines.Report r ∷ []) ≡ reports_of all ++ r ∷ [] = reports-append all (lines.Report r ∷ []) in
    let there : accesses_of (all ++ lines.Report r ∷ []) ≡ accesses_of all = accesses-append all _ ∙ append-nil (accesses_of all) in
    record {
      accesses = subst (AreKept (accesses_of (all ++ lines.Report r ∷ []))) (sym accesses)
          (subst (λ xs. AreKept xs old.accesses) (sym there) h.accesses);
      armings = subst (AreArmings (map (λ a. a.setter) (arms_of (all ++ lines.Report r ∷ [])))) (sym armings)
          (subst (λ xs. AreArmings (map (λ a. a.setter) xs) old.armings) (sym arms) h.armings);
      by_arms = subst (WereTold (hits_in (arms_of (all ++ lines.Report r ∷ []))) (pairs_in (arms_of (all ++ lines.Report r ∷ [])))
          (origins_in (arms_of (all ++ lines.Report r ∷ [])))) (sym by_arms)
          (subst (λ xs. WereTold (hits_in xs) (pairs_in xs) (origins_in xs) old.by_arms) (sym arms) h.by_arms);
      by_others = subst (λ xs. WereTold xs (flat_map race_in (reports_of (all ++ lines.Report r ∷ [])))
          (flat_map unknown_in (reports_of (all ++ lines.Report r ∷ []))) new.by_others) (sym takes)
          (subst (λ xs. WereTold (takes_of all) xs (flat_map unknown_in (reports_of (all ++ lines.Report r ∷ []))) new.by_others)
          (sym (ap (flat_map race_in) reports ∙ flat_push race_in (reports_of all) r))
          (subst (λ xs. WereTold (takes_of all) (flat_map race_in (reports_of all) ++ race_in r) xs new.by_others)
          (sym (ap (flat_map unknown_in) reports ∙ flat_push unknown_in (reports_of all) r)) by_others));
      lines = record {
        arms = arms_same ∙ h.lines.arms ∙ ap length (sym arms);
        takes = takes_same ∙ h.lines.takes ∙ ap length (sym takes);
        reports = counted ∙ ap (λ n. n + 1) h.lines.reports ∙ sym (ap length reports ∙ length_push (reports_of all) r);
      };
    }

-- the place that one line more reaches
pub places_push : (all : List Line) (line : Line) → All (λ earlier. kind_place earlier ≤ kind_place line) all
    → (place : ℕ) → All (λ earlier. kind_place earlier ≤ place) (all ++ line ∷ []) ↔ (kind_place line ≤ place)
places_push all line before place = (
  λ h. All-contains (λ earlier. kind_place earlier ≤ place) (all ++ line ∷ []) line h (Contains-push all line),
  λ high. All-push (λ earlier. kind_place earlier ≤ place) all line
      (All-weaker (λ earlier. kind_place earlier ≤ kind_place line) (λ earlier. kind_place earlier ≤ place)
      (λ earlier low. omega arith) all before) high,
)

-- the place doesn't count for what is known
pub knows_at : (all : List Line) (story : Story) (place : ℕ) → Knows all story → Knows all (record story { place = place })
knows_at all story place h = record {
  accesses = h.accesses;
  armings = h.armings;
  by_arms = h.by_arms;
  by_others = h.by_others;
  lines = record { arms = h.lines.arms; takes = h.lines.takes; reports = h.lines.reports };
}

pub tells_push : (head : Head) (all : List Line) (line other : Line) (story : Story) → Stands head all line → story.place ≡ kind_place line → line ≡ other
    → Knows (all ++ other ∷ []) story → IsStoryOf (all ++ line ∷ []) story
tells_push head all line other story stands e same knows = record {
  places = λ place. subst (λ n. All (λ earlier. kind_place earlier ≤ place) (all ++ line ∷ []) ↔ (n ≤ place)) (sym e)
      (places_push all line stands.in_order place);
  knows = subst (λ l. Knows (all ++ l ∷ []) story) (sym same) knows;
}
