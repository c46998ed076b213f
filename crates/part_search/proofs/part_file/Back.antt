-- Of the value of a part this part is read.
use Rattle.std.proofs.Common.{◌≡◌, ◌∙◌, ◌^◌, ◌<◌, ℕ, List, None, Option, Some, ap, arith, map, refl}
use Rattle.std.specs.Prelude.{IfSome, false, option_and_then, unwrap_or}
use Rattle.std.proofs.lemmas.Grind.{common_steps}
use Rattle.access_types.specs.declared.report.Report.{Report}
use Rattle.access_types.specs.declared.report.Report.TheVariants.{Two, Unknown}
use Rattle.access_types.specs.declared.report.ValueChange.{ValueChange}
use Rattle.part_search.proofs.part_file.Lists.{each_back, list_back}
use Rattle.part_search.specs.part_file.Reads.{entry_in, findings_in, layout_of, part_in, place_in, report_in, settings_in, sighting_in, stuck_in}
use Rattle.part_search.specs.part_file.Reads.{data_list, stopped_of, ticket_of}
use Rattle.part_search.specs.part_file.Values.{bits_of, entry_data, finder_of, findings_data, number_data, part_data, place_data, report_data}
use Rattle.part_search.specs.part_file.Values.{setter_of, settings_data, sighting_data, stopped_data, stuck_data, text_data, times_data}
use Rattle.part_search.specs.part_file.Views.{FindingsView, PartView}
use Rattle.part_search.specs.declared.part_file.part.PartSettings.{PartSettings}
use Rattle.prepared_program.specs.declared.program_layout.place.Place.{Place}
use Rattle.prepared_program.specs.declared.step_schedule.schedule.Entry.{Entry}
use Rattle.search_text.specs.Times.{Sighting, Times}
use Rattle.search_text.specs.declared.stopped.Stopped.{Stopped}
use Rattle.search_text.specs.declared.stopped.Stopped.TheVariants.{AfterSeconds, AtLimit, No}
use Rattle.serde_json.specs.Find.{as_bool, as_number, as_str, as_u64}
use Rattle.serde_json.specs.View.{items_of}
use Rattle.watch_word.specs.declared.layout.Layout.{Layout}
use Rattle.watch_word.specs.declared.layout.Layout.TheVariants.{W32, W64}

entries_back : (entries : List Entry) → map entry_in (data_list (items_of (map entry_data entries))) ≡ entries
entries_back entries = each_back entry_data entry_in (λ entry. refl) entries

sighting_back : (one : Sighting) → sighting_in (sighting_data one) ≡ one
unfolding sighting_data sighting_in
sighting_back one = ap (λ (first : List Entry). (one.0, (one.1.0, first))) (entries_back one.1.1)

stuck_back : (stuck : Option Times) → stuck_in (stuck_data stuck) ≡ stuck
unfolding stuck_in times_data
stuck_back None = refl
stuck_back (Some seen) = ap (λ (first : List Entry). Some (seen.0, first)) (entries_back seen.1)

-- a ticket has 32 bits
ticket_back : (ticket : ℕ) → ticket < 2 ^ 32 → ticket_of ticket ≡ ticket
ticket_back ticket small = grind (arith, common_steps)

two_back : (setter finder : ℕ) (seen : Option ValueChange) → setter < 2 ^ 32 → finder < 2 ^ 32
    → report_in (report_data (Two setter finder seen)) ≡ Two setter finder seen
unfolding report_data report_in
two_back setter finder None s f = rw (ticket_back setter s, ticket_back finder f) refl
two_back setter finder (Some seen) s f = rw (ticket_back setter s, ticket_back finder f) refl

pub report_back : (report : Report) → setter_of report < 2 ^ 32 → IfSome (finder_of report) (λ finder. finder < 2 ^ 32)
    → report_in (report_data report) ≡ report
unfolding report_data report_in
report_back (Two setter finder seen) s f = two_back setter finder seen s f
report_back (Unknown setter old new) s f = rw (ticket_back setter s) refl

-- with other lists
abbrev with_lists : FindingsView → (reports : List Sighting) → (known : List Report) → (stuck : Option Times) → (states : List Sighting)
    → FindingsView
with_lists found reports known stuck states = record found { reports = reports; known = known; stuck = stuck; states = states }

same_findings : (found : FindingsView) (r r' : List Sighting) (k k' : List Report) (s s' : Option Times) (t t' : List Sighting)
    → r ≡ r' → k ≡ k' → s ≡ s' → t ≡ t' → with_lists found r k s t ≡ with_lists found r' k' s' t'
same_findings found r r' k k' s s' t t' a b c d =
    ap (λ (x : List Sighting). with_lists found x k s t) a ∙ ap (λ (x : List Report). with_lists found r' x s t) b
    ∙ ap (λ (x : Option Times). with_lists found r' k' x t) c ∙ ap (λ (x : List Sighting). with_lists found r' k' s' x) d

findings_back : (found : FindingsView) → map report_in (map report_data found.known) ≡ found.known
    → findings_in (findings_data found) ≡ found
unfolding findings_data findings_in
findings_back found known =
    let reports = each_back sighting_data sighting_in sighting_back found.reports in
    let states = each_back sighting_data sighting_in sighting_back found.states in
    let all = ap (map report_in) (list_back (map report_data found.known)) ∙ known in
    same_findings found _ _ _ _ _ _ _ _ reports all (stuck_back found.stuck) states

layout_back : (layout : Layout) → layout_of (bits_of layout) ≡ layout
layout_back W64 = refl
layout_back W32 = refl

number_back : (n : Option ℕ) → option_and_then as_u64 (option_and_then as_number (Some (number_data n))) ≡ n
number_back None = refl
number_back (Some n) = refl

text_back : (text : Option (List ℕ)) → option_and_then as_str (Some (text_data text)) ≡ text
text_back None = refl
text_back (Some text) = refl

settings_back : (settings : PartSettings) → settings_in (settings_data settings) ≡ settings
unfolding settings_data settings_in
settings_back settings =
    ap (λ (layout : Layout). record settings { layout = layout; seconds = option_and_then as_u64 (option_and_then as_number (Some (number_data settings.seconds))) })
    (layout_back settings.layout)
    ∙ ap (λ (seconds : Option ℕ). record settings { seconds = seconds }) (number_back settings.seconds)

place_back : (place : Place) → place_in (place_data place) ≡ place
unfolding place_data place_in
place_back place = refl

stopped_back : (stopped : Stopped)
    → stopped_of (option_and_then as_u64 (option_and_then as_number (Some (stopped_data stopped))))
    (unwrap_or (option_and_then as_bool (Some (stopped_data stopped))) false) ≡ stopped
stopped_back No = refl
stopped_back AtLimit = refl
stopped_back (AfterSeconds seconds) = refl

-- with other values
abbrev with_values : PartView → List Place → PartSettings → Stopped → FindingsView → Option (List ℕ) → PartView
with_values part places settings stopped found trace =
    record part { places = places; settings = settings; stopped = stopped; found = found; trace = trace }

same_part : (part : PartView) (p p' : List Place) (s s' : PartSettings) (t t' : Stopped) (f f' : FindingsView) (u u' : Option (List ℕ))
    → p ≡ p' → s ≡ s' → t ≡ t' → f ≡ f' → u ≡ u' → with_values part p s t f u ≡ with_values part p' s' t' f' u'
same_part part p p' s s' t t' f f' u u' z a b c d =
    ap (λ (x : List Place). with_values part x s t f u) z ∙ ap (λ (x : PartSettings). with_values part p' x t f u) a
    ∙ ap (λ (x : Stopped). with_values part p' s' x f u) b ∙ ap (λ (x : FindingsView). with_values part p' s' t' x u) c
    ∙ ap (λ (x : Option (List ℕ)). with_values part p' s' t' f' x) d

pub part_back : (part : PartView) → map report_in (map report_data part.found.known) ≡ part.found.known → part_in (part_data part) ≡ part
unfolding part_data part_in
part_back part known =
    same_part part _ _ _ _ _ _ _ _ _ _ (each_back place_data place_in place_back part.places) (settings_back part.settings)
    (stopped_back part.stopped) (findings_back part.found known) (text_back part.trace)
