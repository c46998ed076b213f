-- The texts of the reports that are kept are those that are found.
use Rattle.std.proofs.Common.{◌≡◌, ◌++◌, ◌∷◌, ◌∙◌, ℕ, List, [], Bool, true, false, ap, fold, map, refl, sym, if◌then◌else◌}
use Rattle.std.specs.List.{list_any}
use Rattle.std.proofs.lemmas.List.{map-append}
use Rattle.std.proofs.lemmas.List.Sums.{fold-append}
use Rattle.access_types.specs.Sites.{AccessMap}
use Rattle.access_types.specs.declared.report.Report.{Report}
use Rattle.prepared_program.specs.declared.step_schedule.schedule.Entry.{Entry}
use Rattle.report_text.specs.Groups.{first_seen, is_text, seen_too}
use Rattle.report_text.specs.ReportOf.{report_text}
use Rattle.search_text.proofs.TextLists.{fold_first}
use Rattle.search_text.specs.Counted.{with_counts}
use Rattle.search_text.specs.Seen.{sighted}
use Rattle.search_text.specs.Times.{Sighting}

abbrev pub texts_found : List Sighting → List (List ℕ)
texts_found sightings = map (λ (sighting : Sighting). sighting.0) sightings

-- a text that is seen stands last among the texts, unless it is one of them
sighted_texts : (schedule : List Entry) (all : List Sighting) (text : List ℕ)
    → texts_found (sighted schedule all text) ≡ seen_too (texts_found all) text
sighted_texts schedule [] text = refl
sighted_texts schedule (first ∷ more) text = by (is_text text first.0) refl (sighted_texts schedule more text)
  where
    behind : (b : Bool) → first.0 ∷ (if b then texts_found more else texts_found more ++ text ∷ [])
        ≡ (if b then first.0 ∷ texts_found more else first.0 ∷ texts_found more ++ text ∷ [])
    behind true = refl
    behind false = refl

    by : (b : Bool) → is_text text first.0 ≡ b → texts_found (sighted schedule more text) ≡ seen_too (texts_found more) text
        → texts_found (sighted schedule (first ∷ more) text) ≡ seen_too (texts_found (first ∷ more)) text
    by true p rest = rw p refl
    by false p rest = rw p (ap (λ ts. first.0 ∷ ts) rest ∙ behind (list_any (is_text text) (texts_found more)))

folded_texts : (schedule : List Entry) (all : List Sighting) (texts : List (List ℕ))
    → texts_found (fold (sighted schedule) all texts) ≡ fold seen_too (texts_found all) texts
folded_texts schedule all [] = refl
folded_texts schedule all (text ∷ texts) =
    folded_texts schedule (sighted schedule all text) texts ∙ ap (λ ts. fold seen_too ts texts) (sighted_texts schedule all text)

-- the reports of one list more are kept
pub known_on : (sites : AccessMap) (schedule : List Entry) (old : List Sighting) (known reports : List Report)
    → texts_found old ≡ first_seen (map (report_text sites) known)
    → texts_found (fold (sighted schedule) old (first_seen (map (report_text sites) reports)))
    ≡ first_seen (map (report_text sites) (known ++ reports))
known_on sites schedule old known reports are =
    let texts = map (report_text sites) reports in
    let before = map (report_text sites) known in
    folded_texts schedule old (first_seen texts)
    ∙ ap (λ ts. fold seen_too ts (first_seen texts)) are
    ∙ fold_first (first_seen before) [] texts
    ∙ sym (fold-append seen_too [] before texts)
    ∙ ap first_seen (sym (map-append (report_text sites) known reports))

-- counts change no text
pub counted_texts : (counts : List ℕ) (sightings : List Sighting) → texts_found (with_counts counts sightings) ≡ texts_found sightings
counted_texts [] sightings = refl
counted_texts (times ∷ counts) [] = refl
counted_texts (times ∷ counts) (sighting ∷ more) = ap (λ ts. sighting.0 ∷ ts) (counted_texts counts more)
