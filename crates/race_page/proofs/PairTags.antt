-- The tags of pairs.
use Rattle.std.proofs.Common.{◌≡◌, ◌++◌, ◌∷◌, [], ℕ, All, List, None, Option, Some, Vec, refl, true}
use Rattle.std.specs.Fmt.{decimal}
use Rattle.std.specs.Global.{Global}
use Rattle.std.specs.List.{flat_map}
use Rattle.std.specs.Prelude.{IfSome, codes, option_map}
use Rattle.access_types.specs.Kind.{access_words}
use Rattle.access_types.specs.declared.kind.Claim.TheVariants.{NoAccesses, NoWrites}
use Rattle.access_types.specs.declared.kind.Kind.{Kind}
use Rattle.access_types.specs.declared.kind.Kind.TheVariants as kinds
use Rattle.access_types.specs.declared.kind.Operation.TheVariants.{Read, ReadWrite, Write}
use Rattle.litmus_lex.specs.Lines.{column_at, line_at}
use Rattle.output_pieces.specs.Spots.{spot_text, statement_at, within}
use Rattle.prepared_program.specs.declared.step_schedule.schedule.Entry.{Entry}
use Rattle.race_output.specs.Reasons.{reasons_of}
use Rattle.race_output.specs.Words.{said_of}
use Rattle.race_output.specs.declared.sites.SiteTold.{SiteTold}
use Rattle.race_page.specs.Followed.{followed}
use Rattle.race_page.specs.Pairs.{by_schedule, by_text, by_words, pair_heading, pair_sites, pair_text, picture_text, reason_text, why_text}
use Rattle.race_page.specs.Sites.{site_name, site_row, spot, spot_link, statement}
use Rattle.race_page.specs.Tags.{IsDrawnPair, file_tags, foot_tags, head_tags, picture_tags, table_tags, tags}
use Rattle.race_page.specs.declared.values.PairTold.{PairTold}
use Rattle.races.specs.declared.verdict.Verdict.{Verdict}
use Rattle.races.specs.declared.verdict.Verdict.TheVariants as verdicts
use Rattle.search_text.specs.Schedules.{entry_text, later_text, schedule_text}
use Rattle.race_page.proofs.FollowedLemmas.{followed-more}
use Rattle.race_page.proofs.TagLemmas.{IsTagged, after, both, decimal_tagged, escaped_tagged, of_all, of_each, said_tagged}

-- ---- sites

spot_text_tagged : (text : List ℕ) (at : Option ℕ) → IsTagged (spot_text text at)
spot_text_tagged text None = refl
spot_text_tagged text (Some at) = let l = decimal_tagged (line_at text at) in let c = decimal_tagged (column_at text at) in simp after

link_tagged : (file : ℕ) (text : List ℕ) (at : ℕ) → IsTagged (spot_link file text at)
unfolding spot_link tags
link_tagged file text at =
    let f = decimal_tagged file in let a = decimal_tagged at in let s = spot_text_tagged text (Some at) in simp after

spot_tagged : (file : ℕ) (text : List ℕ) (at : Option ℕ) → IsTagged (spot file text at)
spot_tagged file text None = refl
spot_tagged file text (Some at) = link_tagged file text at

statement_tagged : (text : List ℕ) (at : Option ℕ) → IsTagged (statement text at)
statement_tagged text None = refl
statement_tagged text (Some at) = escaped_tagged (statement_at text at)

name_tagged : (site : SiteTold) → IsTagged (site_name site)
unfolding site_name
name_tagged site = let t = decimal_tagged site.task in let s = decimal_tagged site.site in simp after

access_tagged : (kind : Kind) → IsTagged (access_words kind)
access_tagged (kinds.Plain Read) = refl
access_tagged (kinds.Plain Write) = refl
access_tagged (kinds.Plain ReadWrite) = refl
access_tagged (kinds.Marked Read) = refl
access_tagged (kinds.Marked Write) = refl
access_tagged (kinds.Marked ReadWrite) = refl
access_tagged (kinds.Assert NoWrites) = refl
access_tagged (kinds.Assert NoAccesses) = refl
access_tagged (kinds.AssertScoped NoWrites) = refl
access_tagged (kinds.AssertScoped NoAccesses) = refl

row_tagged : (file : ℕ) (text : List ℕ) (site : SiteTold) → IsTagged (site_row file text site)
unfolding site_row tags
row_tagged file text site =
    let n = name_tagged site in let s = spot_tagged file text (within text site.at) in let a = access_tagged site.kind in
    let t = statement_tagged text (within text site.at) in simp after

-- ---- pairs

reason_tagged : (reason : List ℕ) → IsTagged (reason_text reason)
unfolding reason_text tags
reason_tagged reason = let r = escaped_tagged reason in simp after

why_tagged : (one : PairTold) → IsTagged (why_text one)
unfolding why_text
why_tagged one = of_each reason_text (reasons_of one.first one.second one.verdict) reason_tagged

entry_tagged : (entry : Entry) → IsTagged (entry_text entry)
entry_tagged entry = let t = decimal_tagged entry.task in let s = decimal_tagged entry.steps in
    both (decimal entry.task ++ codes "x") (decimal entry.steps) (both (decimal entry.task) (codes "x") t refl) s

later_tagged : (entry : Entry) → IsTagged (later_text entry)
unfolding later_text
later_tagged entry = both (codes ",") (entry_text entry) refl (entry_tagged entry)

schedule_tagged : (entries : List Entry) → IsTagged (schedule_text entries)
schedule_tagged [] = refl
schedule_tagged (first ∷ more) =
    both (entry_text first) (flat_map later_text more) (entry_tagged first) (of_each later_text more later_tagged)

by_words_tagged : (verdict : Verdict) → IsTagged (by_words verdict)
by_words_tagged verdicts.Reported = refl
by_words_tagged (verdicts.Missed why) = refl
by_words_tagged (verdicts.Race why) = refl
by_words_tagged (verdicts.NoRace why) = refl
by_words_tagged verdicts.Apart = refl
by_words_tagged verdicts.NotSettled = refl

by_schedule_tagged : (verdict : Verdict) (entries : List Entry) → IsTagged (by_schedule verdict entries)
unfolding by_schedule tags
by_schedule_tagged verdict entries =
    let w = by_words_tagged verdict in let s = schedule_tagged entries in simp after

by_tagged : (verdict : Verdict) (schedule : Option (List Entry)) → IsTagged (by_text verdict schedule)
by_tagged verdict None = refl
by_tagged verdict (Some entries) = by_schedule_tagged verdict entries

-- the tags of a picture are among those of a page
svg_tagged : (svg : List ℕ) → followed 60 picture_tags svg ≡ true → IsTagged svg
unfolding tags
svg_tagged svg drawn = followed-more 60 (head_tags ++ table_tags ++ file_tags ++ foot_tags) picture_tags svg drawn

figure_tagged : (svg : List ℕ) → IsTagged svg → IsTagged (picture_text (Some svg))
unfolding tags
figure_tagged svg drawn = simp after

picture_tagged : (picture : Option (Vec ℕ Global)) → IfSome picture (λ svg. followed 60 picture_tags svg.items ≡ true)
    → IsTagged (picture_text (option_map (λ (svg : Vec ℕ Global). svg.items) picture))
picture_tagged None drawn = refl
picture_tagged (Some svg) drawn = figure_tagged svg.items (svg_tagged svg.items drawn)

heading_tagged : (one : PairTold) → IsTagged (pair_heading one)
unfolding pair_heading tags
heading_tagged one =
    let s = said_tagged (said_of one.verdict) in let v = escaped_tagged one.variable.items in simp after

sites_tagged : (file : ℕ) (text : List ℕ) (one : PairTold) → IsTagged (pair_sites file text one)
unfolding pair_sites tags
sites_tagged file text one =
    let f = row_tagged file text one.first in let s = row_tagged file text one.second in simp after

pair_tagged : (file : ℕ) (text : List ℕ) (one : PairTold) → IsDrawnPair one → IsTagged (pair_text file text one)
unfolding pair_text tags
pair_tagged file text one drawn =
    let h = heading_tagged one in let s = sites_tagged file text one in let w = why_tagged one in
    let b = by_tagged one.verdict (option_map (λ entries. entries.items) one.schedule) in
    let p = picture_tagged one.picture drawn in simp after

pub pairs_tagged : (file : ℕ) (text : List ℕ) (pairs : List PairTold) → All IsDrawnPair pairs
    → IsTagged (flat_map (pair_text file text) pairs)
pairs_tagged file text pairs drawn = of_all IsDrawnPair (pair_text file text) pairs drawn (pair_tagged file text)
