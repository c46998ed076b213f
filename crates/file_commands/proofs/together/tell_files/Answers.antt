-- file after file is told of
use Rattle.std.proofs.Common.{◌≡◌, ◌∙◌, ◌<◌, ◌+◌, ◌^◌, ◌++◌, ap, length, refl, rules, subst, sym}
use Rattle.file_commands.proofs.CheckLemmas.{on_err}
use Rattle.file_commands.proofs.FilesLemmas.{all_clear, can_count_more, looks_so_far, output_so_far, total, total_counted}
use Rattle.file_commands.proofs.TogetherLemmas.{all_are_first, all_told, file_told, left_so_far, left_untold, none_told}
use Rattle.file_commands.specs.Desks.{DeskState}
use Rattle.file_commands.specs.FileWork.{AreLeftTogether, counted}
use Rattle.file_search.specs.Work.{worse}
use Rattle.file_commands.specs.FilesAsked.{asked_by}
use Rattle.file_commands.specs.Together.{texts_of}
use Rattle.file_commands.proofs.together.tell_files.Goals as goal

pub returns-in_err-output-clause-left : goal.returns-in_err-output-clause-left
returns-in_err-output-clause-left g c = λ before all.
    let now : DeskState = g.D.Desk.state c.args.desk.now in
    let asked = asked_by c.args.asked.now in
    on_err (AreLeftTogether asked before now) _
    (left_untold asked c.args.settings.now before now c.requires.asks c.requires.several c.requires.jobs
    (all_are_first asked (texts_of c.args.texts.now) before now all))

pub loop-at-init : goal.loop-at-init
loop-at-init g c = record {
  ends = c.requires.ends;
  counted = refl;
  told = λ before reads names_are texts_are are.
      none_told (asked_by c.args.asked.now) c.args.settings.now reads c.in_ok-output.output.items before (g.D.Desk.state c.args.desk.now)
      c.in_ok-output.ensures are;
}

pub returns-in_err-said-clause-left : goal.returns-in_err-said-clause-left
returns-in_err-said-clause-left g c = λ before all.
    let seen = g.D.Desk.state in
    let asked = asked_by c.args.asked.now in
    let loop = c.loop-at in
    on_err (AreLeftTogether asked before (seen c.tell_at.new.desk)) _
    (subst (λ (at : DeskState). AreLeftTogether asked before at) (sym c.in_err-said.ensures.untold)
    (left_so_far asked c.args.settings.now all.reads loop.at loop.output.items loop.counts loop.status before (seen c.args.desk.now)
    (seen loop.desk) c.requires.asks c.requires.several c.requires.jobs all.names_are
    (loop.invariant.told before all.reads all.names_are all.texts_are all.are_read)))

pub returns-in_err-extend_from_slice-clause-left : goal.returns-in_err-extend_from_slice-clause-left
returns-in_err-extend_from_slice-clause-left g c = λ before all.
    let seen = g.D.Desk.state in
    let asked = asked_by c.args.asked.now in
    let settings = c.args.settings.now in
    let loop = c.loop-at in
    let said = c.in_ok-said.said in
    let last : DeskState = seen c.args.desk.now in
    let after : DeskState = seen c.tell_at.new.desk in
    let there : loop.at < length c.args.texts.now = search rules in
    let more = loop.output.items ++ said.text.items in
    let others = counted loop.counts said.verdict in
    let greatest = worse asked.work loop.status said.status in
    on_err (AreLeftTogether asked before after) _
    (left_so_far asked settings all.reads (loop.at + 1) more others greatest before last after c.requires.asks c.requires.several c.requires.jobs
    all.names_are
    (file_told asked settings all.reads c.args.texts.now loop.at loop.output.items loop.counts loop.status before last (seen loop.desk) after said
    more others greatest (loop.invariant.told before all.reads all.names_are all.texts_are all.are_read) all.names_are all.texts_are there
    c.requires.texts c.in_ok-said.ensures.said c.in_ok-said.ensures.rest refl refl refl))

pub counted-counts-requires : goal.counted-counts-requires
counted-counts-requires g c =
    let loop = c.loop-at in
    let small : loop.at + 1 < 2 ^ 64 = search rules in
    can_count_more loop.counts loop.at loop.invariant.counted small

pub loop-at-preserved : goal.loop-at-preserved
loop-at-preserved g c =
    let seen = g.D.Desk.state in
    let asked = asked_by c.args.asked.now in
    let loop = c.loop-at in
    let said = c.in_ok-said.said in
    let there : loop.at < length c.args.texts.now = search rules in
    record {
      ends = c.in_ok-said.ensures.ends;
      counted = ap total c.counted-counts.ensures ∙ (total_counted loop.counts said.verdict ∙ ap (λ n. n + 1) loop.invariant.counted);
      told = λ before reads names_are texts_are are.
          file_told asked c.args.settings.now reads c.args.texts.now loop.at loop.output.items loop.counts loop.status before
          (seen c.args.desk.now) (seen loop.desk) (seen c.tell_at.new.desk) said c.extend_from_slice.new.self.items c.counted-counts.result
          c.worse-status.result (loop.invariant.told before reads names_are texts_are are) names_are texts_are there c.requires.texts
          c.in_ok-said.ensures.said c.in_ok-said.ensures.rest
          (c.in_ok-extend_from_slice.ensures.items ∙ ap (λ text. loop.output.items ++ text) c.deref.ensures.value) c.counted-counts.ensures
          c.worse-status.ensures;
    }

pub returns-in_err-output-2-clause-left : goal.returns-in_err-output-2-clause-left
returns-in_err-output-2-clause-left g c = λ before all.
    let seen = g.D.Desk.state in
    let asked = asked_by c.args.asked.now in
    let loop = c.loop-at in
    on_err (AreLeftTogether asked before (seen loop.desk)) _
    (left_so_far asked c.args.settings.now all.reads loop.at loop.output.items loop.counts loop.status before (seen c.args.desk.now)
    (seen loop.desk) c.requires.asks c.requires.several c.requires.jobs all.names_are
    (loop.invariant.told before all.reads all.names_are all.texts_are all.are_read))

pub returns-clause-searched : goal.returns-clause-searched
returns-clause-searched g c = λ before all.
    let seen = g.D.Desk.state in
    let asked = asked_by c.args.asked.now in
    let settings = c.args.settings.now in
    let loop = c.loop-at in
    let over : loop.at ≡ length c.args.texts.now = search rules in
    let far = all_told asked settings all.reads loop.at loop.output.items loop.counts loop.status before (seen c.args.desk.now) (seen loop.desk)
    (loop.invariant.told before all.reads all.names_are all.texts_are all.are_read) all.names_are (over ∙ c.requires.texts) in
    record {
      founds = far.founds;
      all = far.count_is ∙ (over ∙ c.requires.texts);
      looks = looks_so_far asked settings loop.at loop.output.items loop.counts loop.status before (seen loop.desk) c.requires.asks far;
      output_is = output_so_far asked far.founds loop.output.items loop.counts c.in_ok-output-2.output.items far.output_is far.counts_are
          c.in_ok-output-2.ensures.text;
      status_is = far.status_is;
      clear = all_clear asked.work settings far.founds loop.status far.are_found far.status_is;
    }
