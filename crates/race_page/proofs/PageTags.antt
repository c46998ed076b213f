-- The tags of a page.
use Rattle.std.proofs.Common.{◌∷◌, [], ℕ, suc, All, Bool, List, false, length, refl, true}
use Rattle.std.specs.Prelude.{codes}
use Rattle.output_pieces.specs.declared.file_counts.FileCounts.{FileCounts}
use Rattle.prepared_program.specs.declared.program_sites.settings.Settings.{Settings}
use Rattle.race_output.specs.Counts.{counted}
use Rattle.race_output.specs.Settings.{atomic_words, change_words, settings_line}
use Rattle.race_output.specs.Several.{last_line, searched_counts}
use Rattle.race_output.specs.declared.words.Said.{Said}
use Rattle.race_output.specs.declared.words.Said.TheVariants.{Apart, Missed, NoRace, NotSettled, Race, Reported}
use Rattle.race_page.specs.Counts.{count_cell, count_cells, count_told, file_counts, searched_text, stopped_words}
use Rattle.race_page.specs.Files.{each_from, end_cells, end_text, file_row, file_section, found_cells, found_text, refused, refused_cells, refused_text}
use Rattle.race_page.specs.Page.{foot, head, page_text, table}
use Rattle.race_page.specs.Tags.{IsDrawn, IsDrawnEnd, tags}
use Rattle.race_page.specs.declared.looks.TheConstants.{HEAD, LEGEND, LOOKS, TABLE_HEAD}
use Rattle.race_page.specs.declared.values.FileEnd.{FileEnd}
use Rattle.race_page.specs.declared.values.FileEnd.TheVariants.{Found, Refused}
use Rattle.race_page.specs.declared.values.FileTold.{FileTold}
use Rattle.race_page.specs.declared.values.Page.{Page}
use Rattle.race_page.specs.declared.values.PairTold.{PairTold}
use Rattle.race_page.specs.declared.values.RacesTold.{RacesTold}
use Rattle.search_text.specs.Stops.{is_stopped}
use Rattle.race_page.proofs.EscapeLemmas.{head_of, tail_of}
use Rattle.race_page.proofs.LineTags.{listing_tagged}
use Rattle.race_page.proofs.PairTags.{pairs_tagged}
use Rattle.race_page.proofs.TagLemmas.{IsTagged, after, both, decimal_tagged, escaped_tagged, file_tagged, strong_tagged}

-- ---- counts

cell_tagged : (pairs : List PairTold) (wanted : Said) → IsTagged (count_cell pairs wanted)
unfolding count_cell tags
cell_tagged pairs wanted = let n = decimal_tagged (count_told wanted pairs) in simp after

cells_tagged : (pairs : List PairTold) → IsTagged (count_cells pairs)
unfolding count_cells
cells_tagged pairs =
    let a = cell_tagged pairs Reported in let b = cell_tagged pairs Missed in let c = cell_tagged pairs Race in
    let d = cell_tagged pairs NoRace in let e = cell_tagged pairs Apart in let f = cell_tagged pairs NotSettled in simp after

stopped_tagged : (stopped : Bool) → IsTagged (stopped_words stopped)
stopped_tagged true = refl
stopped_tagged false = refl

searched_tagged : (races : RacesTold) → IsTagged (searched_text races)
unfolding searched_text tags
searched_tagged races =
    let a = decimal_tagged races.unwatched_states in let b = stopped_tagged (is_stopped races.unwatched_stopped) in
    let c = decimal_tagged races.schedules in let d = decimal_tagged races.states in
    let e = stopped_tagged (is_stopped races.stopped) in simp after

counted_tagged : (count : ℕ) (words : List ℕ) → IsTagged words → IsTagged (counted count words)
unfolding counted
counted_tagged count words w = let n = decimal_tagged count in simp after

searched_counts_tagged : (counts : FileCounts) → IsTagged (searched_counts counts)
unfolding searched_counts
searched_counts_tagged counts =
    let a = counted_tagged counts.free (codes " free of races, ") refl in
    let b = counted_tagged counts.reported (codes " with races reported, ") refl in
    let c = counted_tagged counts.missed (codes " with races missed, ") refl in simp after

last_line_tagged : (counts : FileCounts) → IsTagged (last_line counts)
unfolding last_line
last_line_tagged counts =
    let a = searched_counts_tagged counts in let b = counted_tagged counts.refused (codes " refused, ") refl in
    let c = counted_tagged counts.stopped (codes " stopped\n") refl in simp after

-- ---- files

refused_tagged : IsTagged refused
refused_tagged = strong_tagged _ _ refl refl

refused_cells_tagged : (why : List ℕ) → IsTagged (refused_cells why)
unfolding refused_cells tags
refused_cells_tagged why = let r = refused_tagged in let w = escaped_tagged why in simp after

found_cells_tagged : (races : RacesTold) → IsTagged (found_cells races)
unfolding found_cells tags
found_cells_tagged races = let v = file_tagged races.verdict in let c = cells_tagged races.pairs.items in simp after

end_cells_tagged : (end : FileEnd) → IsTagged (end_cells end)
end_cells_tagged (Found races) = found_cells_tagged races
end_cells_tagged (Refused why) = refused_cells_tagged why.items

row_tagged : (number : ℕ) (file : FileTold) → IsTagged (file_row number file)
unfolding file_row tags
row_tagged number file =
    let n = decimal_tagged number in let f = escaped_tagged file.name.items in let e = end_cells_tagged file.end in simp after

refused_text_tagged : (number : ℕ) (text why : List ℕ) → IsTagged (refused_text number text why)
unfolding refused_text tags
refused_text_tagged number text why =
    let r = refused_tagged in let w = escaped_tagged why in let l = listing_tagged number text [] in simp after

found_text_tagged : (number : ℕ) (text : List ℕ) (races : RacesTold) → IsDrawnEnd (Found races)
    → IsTagged (found_text number text races)
unfolding found_text tags
found_text_tagged number text races drawn =
    let v = file_tagged races.verdict in let n = decimal_tagged (length races.pairs.items) in
    let l = listing_tagged number text races.pairs.items in let p = pairs_tagged number text races.pairs.items drawn in
    let s = searched_tagged races in simp after

end_text_tagged : (number : ℕ) (text : List ℕ) (end : FileEnd) → IsDrawnEnd end → IsTagged (end_text number text end)
end_text_tagged number text (Found races) drawn = found_text_tagged number text races drawn
end_text_tagged number text (Refused why) drawn = refused_text_tagged number text why.items

section_tagged : (number : ℕ) (file : FileTold) → IsDrawn file → IsTagged (file_section number file)
unfolding file_section tags
section_tagged number file drawn =
    let n = decimal_tagged number in let f = escaped_tagged file.name.items in
    let e = end_text_tagged number file.text.items file.end drawn in simp after

rows_tagged : (number : ℕ) (files : List FileTold) → IsTagged (each_from file_row number files)
rows_tagged number [] = refl
rows_tagged number (file ∷ files) =
    both (file_row number file) (each_from file_row (suc number) files) (row_tagged number file) (rows_tagged (suc number) files)

sections_tagged : (number : ℕ) (files : List FileTold) → All IsDrawn files → IsTagged (each_from file_section number files)
sections_tagged number [] drawn = refl
sections_tagged number (file ∷ files) drawn =
    both (file_section number file) (each_from file_section (suc number) files)
    (section_tagged number file (head_of IsDrawn file files drawn))
    (sections_tagged (suc number) files (tail_of IsDrawn file files drawn))

-- ---- the page

head_tagged : IsTagged head
unfolding head tags
head_tagged =
    let h : IsTagged HEAD.now = refl in let l : IsTagged LOOKS.now = refl in simp after

table_tagged : (files : List FileTold) → IsTagged (table files)
unfolding table tags
table_tagged files =
    let c = last_line_tagged (file_counts files) in let t : IsTagged TABLE_HEAD.now = refl in
    let r = rows_tagged 0 files in simp after

atomic_tagged : (atomic : Bool) → IsTagged (atomic_words atomic)
atomic_tagged true = refl
atomic_tagged false = refl

change_tagged : (change : Bool) → IsTagged (change_words change)
change_tagged true = refl
change_tagged false = refl

settings_tagged : (settings : Settings) → IsTagged (settings_line settings)
unfolding settings_line
settings_tagged settings =
    let a = atomic_tagged settings.plain_writes_atomic in let c = change_tagged settings.value_change_only in
    let k = decimal_tagged settings.skip in let s = decimal_tagged settings.slots in simp after

foot_tagged : (page : Page) → IsTagged (foot page)
unfolding foot tags
foot_tagged page =
    let l : IsTagged LEGEND.now = refl in let s = settings_tagged page.settings.now in
    let p = escaped_tagged page.program.now in simp after

pub page_tagged : (page : Page) → All IsDrawn page.files.now → IsTagged (page_text page)
unfolding page_text
page_tagged page drawn =
    let h = head_tagged in let t = table_tagged page.files.now in let s = sections_tagged 0 page.files.now drawn in
    let f = foot_tagged page in simp after
