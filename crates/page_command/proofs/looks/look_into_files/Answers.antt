-- file after file is looked into
use Rattle.std.proofs.Common.{◌≡◌, ◌∙◌, ◌<◌, ◌+◌, ◌^◌, ◌++◌, ◌∷◌, [], ℕ, Bor, List, ap, arith, get_or, length, refl, rules, subst, sym, true}
use Rattle.file_commands.proofs.CheckLemmas.{next_name, nothing_left, on_err}
use Rattle.file_commands.proofs.FilesLemmas.{all_clear, can_count, looks_so_far, output_so_far}
use Rattle.file_commands.specs.Desks.{DeskState}
use Rattle.file_commands.specs.FileWork.{counted}
use Rattle.file_search.specs.Work.{heading_of, worse}
use Rattle.file_commands.specs.FilesAsked.{asked_by}
use Rattle.file_search.specs.declared.work.Work.{Work}
use Rattle.page_command.proofs.LookLemmas.{left_so_far, none_told, one_told}
use Rattle.page_command.specs.Looks.{AreLeft}
use Rattle.page_command.proofs.looks.look_into_files.Goals as goal

pub loop-name-init : goal.loop-name-init
loop-name-init g c =
    none_told (asked_by c.args.asked.now) c.args.work.format c.args.settings.now _ _ (g.D.Desk.state c.args.desk.now)
    (c.new-output.ensures.items ∙ sym (ap (λ (own : Work). heading_of own) c.requires.work)) c.new-files.ensures.items

pub counted-counts-requires : goal.counted-counts-requires
counted-counts-requires g c =
    let far = c.loop-name.invariant.far in
    let count = far.count_is in
    let small : c.loop-name.name-index + 1 < 2 ^ 64 = search rules in
    can_count far.founds c.loop-name.counts far.counts_are (omega (arith, count, small))

pub returns-in_err-looked-clause-left : goal.returns-in_err-looked-clause-left
returns-in_err-looked-clause-left g c =
    let seen = g.D.Desk.state in
    let asked = asked_by c.args.asked.now in
    let loop = c.loop-name in
    on_err (AreLeft asked (seen c.args.desk.now) (seen c.look_into_file.new.desk)) _
    (left_so_far asked c.args.work.format c.args.settings.now loop.name-index loop.output.items loop.counts loop.status loop.files.items
    (seen c.args.desk.now) (seen loop.desk) (seen c.look_into_file.new.desk) c.requires.asks loop.invariant c.in_err-looked.ensures.over)

pub returns-in_err-extend_from_slice-clause-left : goal.returns-in_err-extend_from_slice-clause-left
returns-in_err-extend_from_slice-clause-left g c =
    let seen = g.D.Desk.state in
    let asked = asked_by c.args.asked.now in
    let files = c.args.asked.now.files.now in
    let settings = c.args.settings.now in
    let loop = c.loop-name in
    let looked = c.in_ok-looked.looked in
    let after : DeskState = seen c.look_into_file.new.desk in
    let there : loop.name-index < length files = search rules in
    let none : Bor (List ℕ) = record { ref_ptr = (0, 0); now = [] } in
    let name = (get_or files loop.name-index none).now in
    let more = loop.output.items ++ looked.said.text.items in
    let others = counted loop.counts looked.said.verdict in
    let greatest = worse asked.work loop.status looked.said.status in
    let all = loop.files.items ++ looked.told ∷ [] in
    on_err (AreLeft asked (seen c.args.desk.now) after) _
    (left_so_far asked c.args.work.format settings (loop.name-index + 1) more others greatest all (seen c.args.desk.now) after after c.requires.asks
    (one_told asked c.args.work.format settings loop.name-index loop.output.items loop.counts loop.status loop.files.items (seen c.args.desk.now)
    (seen loop.desk) after name looked more others greatest all loop.invariant (next_name files loop.name-index none name there refl)
    c.in_ok-looked.ensures.looked refl refl refl refl) (nothing_left true after))

pub returns-in_err-push-clause-left : goal.returns-in_err-push-clause-left
returns-in_err-push-clause-left g c =
    let seen = g.D.Desk.state in
    let asked = asked_by c.args.asked.now in
    let files = c.args.asked.now.files.now in
    let settings = c.args.settings.now in
    let loop = c.loop-name in
    let looked = c.in_ok-looked.looked in
    let after : DeskState = seen c.look_into_file.new.desk in
    let there : loop.name-index < length files = search rules in
    let none : Bor (List ℕ) = record { ref_ptr = (0, 0); now = [] } in
    let name = (get_or files loop.name-index none).now in
    let more = loop.output.items ++ looked.said.text.items in
    let others = counted loop.counts looked.said.verdict in
    let greatest = worse asked.work loop.status looked.said.status in
    let all = loop.files.items ++ looked.told ∷ [] in
    on_err (AreLeft asked (seen c.args.desk.now) after) _
    (left_so_far asked c.args.work.format settings (loop.name-index + 1) more others greatest all (seen c.args.desk.now) after after c.requires.asks
    (one_told asked c.args.work.format settings loop.name-index loop.output.items loop.counts loop.status loop.files.items (seen c.args.desk.now)
    (seen loop.desk) after name looked more others greatest all loop.invariant (next_name files loop.name-index none name there refl)
    c.in_ok-looked.ensures.looked refl refl refl refl) (nothing_left true after))

pub loop-name-preserved : goal.loop-name-preserved
loop-name-preserved g c =
    let seen = g.D.Desk.state in
    let asked = asked_by c.args.asked.now in
    let files = c.args.asked.now.files.now in
    let loop = c.loop-name in
    let looked = c.in_ok-looked.looked in
    let there : loop.name-index < length files = search rules in
    let none : Bor (List ℕ) = record { ref_ptr = (0, 0); now = [] } in
    let name = (get_or files loop.name-index none).now in
    one_told asked c.args.work.format c.args.settings.now loop.name-index loop.output.items loop.counts loop.status loop.files.items
    (seen c.args.desk.now) (seen loop.desk) (seen c.look_into_file.new.desk) name looked c.extend_from_slice.new.self.items
    c.counted-counts.result c.worse-status.result c.push.new.self.items loop.invariant (next_name files loop.name-index none name there refl)
    c.in_ok-looked.ensures.looked
    (subst (λ (own : List ℕ). c.extend_from_slice.new.self.items ≡ loop.output.items ++ own) c.deref.ensures.value
    c.in_ok-extend_from_slice.ensures.items) c.counted-counts.ensures
    c.worse-status.ensures c.in_ok-push.ensures.items

pub returns-in_err-output-clause-left : goal.returns-in_err-output-clause-left
returns-in_err-output-clause-left g c =
    let seen = g.D.Desk.state in
    let asked = asked_by c.args.asked.now in
    let loop = c.loop-name in
    on_err (AreLeft asked (seen c.args.desk.now) (seen loop.desk)) _
    (left_so_far asked c.args.work.format c.args.settings.now loop.name-index loop.output.items loop.counts loop.status loop.files.items
    (seen c.args.desk.now) (seen loop.desk) (seen loop.desk) c.requires.asks loop.invariant (nothing_left true (seen loop.desk)))

pub returns-clause-looked : goal.returns-clause-looked
returns-clause-looked g c =
    let seen = g.D.Desk.state in
    let asked = asked_by c.args.asked.now in
    let settings = c.args.settings.now in
    let loop = c.loop-name in
    let far = loop.invariant.far in
    let over : loop.name-index ≡ length c.args.asked.now.files.now = search rules in
    record {
      searched = record {
        founds = far.founds;
        all = far.count_is ∙ over;
        looks = looks_so_far asked settings loop.name-index loop.output.items loop.counts loop.status (seen c.args.desk.now) (seen loop.desk)
            c.requires.asks far;
        output_is = output_so_far asked far.founds loop.output.items loop.counts c.in_ok-output.output.items far.output_is far.counts_are
            c.in_ok-output.ensures.text;
        status_is = far.status_is;
        clear = all_clear asked.work settings far.founds loop.status far.are_found far.status_is;
      };
      settings_are = refl;
      told = loop.invariant.told;
    }
