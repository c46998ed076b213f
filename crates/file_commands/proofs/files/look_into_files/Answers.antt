-- file after file is looked into
use Rattle.std.proofs.Common.{◌≡◌, ◌∙◌, ◌<◌, ◌+◌, ◌^◌, ◌++◌, [], ℕ, Bor, List, Vec, ap, append-nil, arith, get_or, inl, inr, length, refl, rules, sym}
use Rattle.std.specs.Global.{Global}
use Rattle.file_commands.proofs.CheckLemmas.{next_name, nothing_left, on_err, some_text}
use Rattle.file_commands.proofs.FilesLemmas.{SearchedSoFar, all_clear, can_count, empty_text, left_behind, left_out_so_far, looks_so_far, more_by_names, none_searched, one_searched}
use Rattle.file_commands.proofs.FilesLemmas.{output_so_far}
use Rattle.file_commands.specs.Desks.{DeskState}
use Rattle.file_commands.specs.FileWork.{AreLeftOut, is_more}
use Rattle.file_commands.specs.FilesAsked.{asked_by}
use Rattle.file_commands.proofs.files.look_into_files.Goals as goal
use Rattle.file_commands.proofs.files.look_into_files.Goals.{else-not-is_empty, then-not-is_empty+in_ok-extend_from_slice}

pub loop-name-init : goal.loop-name-init
loop-name-init g c =
    none_searched (asked_by c.args.asked.now) c.args.settings.now c.in_ok-output.output.items (g.D.Desk.state c.args.desk.now)
    c.in_ok-output.ensures

pub counted-counts-requires : goal.counted-counts-requires
counted-counts-requires g c =
    let far = c.loop-name.invariant in
    let count = far.count_is in
    let small : c.loop-name.name-index + 1 < 2 ^ 64 = search rules in
    can_count far.founds c.loop-name.counts far.counts_are (omega (arith, count, small))

pub returns-in_err-output-clause-left : goal.returns-in_err-output-clause-left
returns-in_err-output-clause-left g c =
    let before : DeskState = g.D.Desk.state c.args.desk.now in
    let asked = asked_by c.args.asked.now in
    on_err (AreLeftOut asked before before) _
    (left_out_so_far asked c.args.settings.now 0 _ _ 0 before before before c.requires.asks
    (none_searched asked c.args.settings.now _ before refl) (inl c.requires.some) (nothing_left (is_more asked) before))

pub returns-in_err-said-clause-left : goal.returns-in_err-said-clause-left
returns-in_err-said-clause-left g c =
    let seen = g.D.Desk.state in
    let asked = asked_by c.args.asked.now in
    let loop = c.loop-name in
    let there : loop.name-index < length c.args.asked.now.files.now = search rules in
    on_err (AreLeftOut asked (seen c.args.desk.now) (seen c.look_into_file.new.desk)) _
    (left_out_so_far asked c.args.settings.now loop.name-index loop.output.items loop.counts loop.status (seen c.args.desk.now)
    (seen loop.desk) (seen c.look_into_file.new.desk) c.requires.asks loop.invariant (inl there) c.in_err-said.ensures.over)

pub returns-in_err-extend_from_slice-clause-left : goal.returns-in_err-extend_from_slice-clause-left
returns-in_err-extend_from_slice-clause-left g c =
    let seen = g.D.Desk.state in
    let asked = asked_by c.args.asked.now in
    let files = c.args.asked.now.files.now in
    let loop = c.loop-name in
    let said = c.in_ok-said.said in
    let there : loop.name-index < length files = search rules in
    let none : Bor (List ℕ) = record { ref_ptr = (0, 0); now = [] } in
    let name = (get_or files loop.name-index none).now in
    on_err (AreLeftOut asked (seen c.args.desk.now) (seen c.look_into_file.new.desk)) _
    (left_behind asked c.args.settings.now loop.name-index loop.output.items loop.counts loop.status (seen c.args.desk.now) (seen loop.desk)
    (seen c.look_into_file.new.desk) name said c.requires.asks loop.invariant there
    (next_name files loop.name-index none name there refl) c.in_ok-said.ensures.looked
    (some_text said.text c.is_empty.result c.is_empty.ensures c.if-not-is_empty.true))

pub loop-name-preserved : goal.loop-name-preserved
loop-name-preserved g c =
    let seen = g.D.Desk.state in
    let asked = asked_by c.args.asked.now in
    let files = c.args.asked.now.files.now in
    let settings = c.args.settings.now in
    let loop = c.loop-name in
    let said = c.in_ok-said.said in
    let before : DeskState = seen c.args.desk.now in
    let middle : DeskState = seen loop.desk in
    let after : DeskState = seen c.look_into_file.new.desk in
    let there : loop.name-index < length files = search rules in
    let none : Bor (List ℕ) = record { ref_ptr = (0, 0); now = [] } in
    let name = (get_or files loop.name-index none).now in
    let named = next_name files loop.name-index none name there refl in
    let more : (output : List ℕ) → output ≡ loop.output.items ++ said.text.items
    → SearchedSoFar asked settings (loop.name-index + 1) output c.counted-counts.result c.worse-status.result before after =
    λ output output_is. one_searched asked settings loop.name-index loop.output.items loop.counts loop.status before middle after name said output
    c.counted-counts.result c.worse-status.result loop.invariant named c.in_ok-said.ensures.looked output_is c.counted-counts.ensures
    c.worse-status.ensures in
    elim c.if-not-is_empty.branch [
      | then-not-is_empty+in_ok-extend_from_slice w ↦
          more _ (ap (λ (output : Vec ℕ Global). output.items) w.output-is ∙ (w.in_ok-extend_from_slice.ensures.items
          ∙ ap (λ text. loop.output.items ++ text) w.deref.ensures.value))
      | else-not-is_empty w ↦
          let empty : said.text.items ≡ [] = empty_text said.text c.is_empty.result c.is_empty.ensures w.if-not-is_empty.false in
          more _ (ap (λ (output : Vec ℕ Global). output.items) w.output-is ∙ (sym (append-nil loop.output.items)
          ∙ ap (λ text. loop.output.items ++ text) (sym empty)))
    ]

pub returns-in_err-output-2-clause-left : goal.returns-in_err-output-2-clause-left
returns-in_err-output-2-clause-left g c =
    let seen = g.D.Desk.state in
    let asked = asked_by c.args.asked.now in
    let loop = c.loop-name in
    on_err (AreLeftOut asked (seen c.args.desk.now) (seen loop.desk)) _
    (left_out_so_far asked c.args.settings.now loop.name-index loop.output.items loop.counts loop.status (seen c.args.desk.now)
    (seen loop.desk) (seen loop.desk) c.requires.asks loop.invariant (inr (more_by_names asked c.in_err-output-2.ensures.several))
    (nothing_left (is_more asked) (seen loop.desk)))

pub returns-clause-searched : goal.returns-clause-searched
returns-clause-searched g c =
    let seen = g.D.Desk.state in
    let asked = asked_by c.args.asked.now in
    let settings = c.args.settings.now in
    let loop = c.loop-name in
    let far = loop.invariant in
    let over : loop.name-index ≡ length c.args.asked.now.files.now = search rules in
    record {
      founds = far.founds;
      all = far.count_is ∙ over;
      looks = looks_so_far asked settings loop.name-index loop.output.items loop.counts loop.status (seen c.args.desk.now) (seen loop.desk)
          c.requires.asks far;
      output_is = output_so_far asked far.founds loop.output.items loop.counts c.in_ok-output-2.output.items far.output_is far.counts_are
          c.in_ok-output-2.ensures.text;
      status_is = far.status_is;
      clear = all_clear asked.work settings far.founds loop.status far.are_found far.status_is;
    }
