-- The parts of the object are those of what is found.
use Rattle.std.proofs.Common.{◌≡◌, ◌∙◌, ℕ, Bool, List, ap, map}
use Rattle.search_json.proofs.json.file_value.Goals as goal
use Rattle.search_json.specs.Extents.{status_of}
use Rattle.search_json.specs.Json.{file_data, searched_data, whole_data}
use Rattle.search_json.specs.Reports.{sighting_data}
use Rattle.serde_json.specs.Data.{Data, array}
use Rattle.serde_json.specs.View.{items_of}

same_whole : (name : List ℕ) (stopped : Bool) (status told : ℕ) (o r s e t k o' r' s' e' t' k' : Data) → status ≡ told → o ≡ o' → r ≡ r'
    → s ≡ s' → e ≡ e' → t ≡ t' → k ≡ k' → whole_data name status stopped o r s e t k ≡ whole_data name told stopped o' r' s' e' t' k'
same_whole name stopped status told o r s e t k o' r' s' e' t' k' p q1 q2 q3 q4 q5 q6 = cc

pub returns : goal.returns
unfolding file_data
returns c = λ places lays.
    let sources = c.args.sources in
    let parts = c.in_ok-parts.ensures in
    let known = c.args.reported.now.known.items in
    let spots = map (λ own. own.items) sources.places.now in
    let reports = parts.1 ∙ (c.array_value-reports.ensures ∙ ap (λ (all : List Data). array (items_of all))
    (c.in_ok-reports.ensures places lays
    ∙ ap (λ (counted : Bool). map (sighting_data places sources.variables.now sources.text.now spots c.args.sites.now known counted)
    c.args.reported.now.reports) c.is_counted.ensures)) in
    c.in_ok-value.ensures
    ∙ same_whole _ _ _ _ _ _ _ _ _ _ _ _ _ _ _ _
    (c.status_of-status.ensures ∙ ap (λ (raced : Bool). status_of raced c.args.extent.stopped) c.has_reports.ensures)
    parts.0 reports (parts.2 ∙ ap (searched_data c.args.extent) c.searched.ensures) parts.3 parts.4 parts.5
