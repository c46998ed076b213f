-- file after file is gone over
use Rattle.std.proofs.Common.{◌≡◌, ◌∙◌, ◌<◌, ◌+◌, ◌++◌, ◌∷◌, [], ℕ, Bor, List, Vec, ap, count_by, get_or, inl, inr, length, map, max, nat_lt, rules}
use Rattle.std.proofs.Common.{subst, sym, true}
use Rattle.std.specs.Global.{Global}
use Rattle.diagnostics.specs.check_output.Diagnosis.{has_tables, name_of, output_of, status_of_one}
use Rattle.diagnostics.specs.declared.check_output.file.Files.{Files}
use Rattle.file_commands.proofs.CheckLemmas.{SoFar, counts_none, counts_one, goes_so_far, left_so_far, max_with_none, next_name, nothing_left}
use Rattle.file_commands.proofs.CheckLemmas.{on_err, one_more, output_of_one, output_of_several, plus_none, status_of_read}
use Rattle.file_commands.specs.Check.{AreLeft, IsEndOf, asked_of}
use Rattle.file_commands.specs.declared.check.FileEnd.{FileEnd}
use Rattle.file_commands.specs.declared.check.FileEnd.TheVariants as ends
use Rattle.file_commands.proofs.check.check_files.Goals as goal
use Rattle.file_commands.proofs.check.check_files.Goals.{in-Read, in-Told}
use Rattle.file_commands.proofs.check.check_files.Goals.{else-files, then-files+in_ok-line+in_ok-extend_from_slice}

pub returns-in_err-check_file-clause-left : goal.returns-in_err-check_file-clause-left
returns-in_err-check_file-clause-left g c =
    let seen = g.D.Desk.state in
    let request = c.args.request.now in
    let files : Files = record { several = nat_lt 1 c.len.result; print = request.print } in
    let are : files ≡ asked_of request = search rules in
    let there : c.loop-name.name-index < length request.files.items = search rules in
    let loop = c.loop-name in
    on_err (AreLeft request (seen c.args.desk.now) (seen c.check_file.new.desk)) c.from_residual.result
    (left_so_far request c.args.settings.now files loop.name-index loop.output.items loop.read loop.status (seen c.args.desk.now)
    (seen loop.desk) (seen c.check_file.new.desk) c.requires.asks are loop.invariant (inl there) c.in_err-check_file.ensures.over)

pub loop-name-preserved : goal.loop-name-preserved
loop-name-preserved g c =
    let seen = g.D.Desk.state in
    let request = c.args.request.now in
    let names = map (λ (file : Bor (List ℕ)). file.now) request.files.items in
    let files : Files = record { several = nat_lt 1 c.len.result; print = request.print } in
    let loop = c.loop-name in
    let there : loop.name-index < length request.files.items = search rules in
    let found = c.in_ok-check_file.ensures.found in
    let element : c.deref-name-items.result.now ≡ request.files.items = search rules in
    let none : Bor (List ℕ) = record { ref_ptr = (0, 0); now = [] } in
    let name : name_of found.0 ≡ (get_or request.files.items loop.name-index none).now =
    found.1 ∙ ap (λ (items : List (Bor (List ℕ))). (get_or items loop.name-index none).now) element in
    let named = next_name request.files.items loop.name-index none (name_of found.0) there name in
    let more : (others greatest : ℕ) → others ≡ loop.read + count_by has_tables (found.0 ∷ []) → greatest ≡ max loop.status (status_of_one found.0)
    → SoFar names c.args.settings.now files (loop.name-index + 1) c.check_file.new.output.items others greatest (seen c.args.desk.now) (seen c.check_file.new.desk) =
    λ others greatest others_are greatest_is. one_more names c.args.settings.now files loop.name-index loop.output.items
    loop.read loop.status (seen c.args.desk.now) (seen loop.desk) (seen c.check_file.new.desk) found.0 c.check_file.new.output.items others greatest
    loop.invariant named found.2 found.5 found.4 others_are greatest_is in
    elim c.match-branch-2.branch [
      | in-Read w ↦
          let has : has_tables found.0 ≡ true = subst (λ (e : FileEnd). IsEndOf found.0 e) w.in-Read.is found.3 in
          more _ _
          (w.read-is ∙ ap (λ n. loop.read + n) (sym (counts_one found.0 has)))
          (w.status-is ∙ (max_with_none loop.status ∙ ap (λ n. max loop.status n) (sym (status_of_read found.0 has))))
      | in-Told w ↦
          let ends : IsEndOf found.0 (ends.Told w.in-Told.own) = subst (λ (e : FileEnd). IsEndOf found.0 e) w.in-Told.is found.3 in
          more _ _
          (w.read-is ∙ (plus_none loop.read ∙ ap (λ n. loop.read + n) (sym (counts_none found.0 ends.0))))
          (w.status-is ∙ (w.max-status.ensures ∙ ap (λ n. max loop.status n) ends.1))
    ]

pub returns-in_err-line-clause-left : goal.returns-in_err-line-clause-left
returns-in_err-line-clause-left g c =
    let seen = g.D.Desk.state in
    let request = c.args.request.now in
    let files : Files = record { several = nat_lt 1 c.len.result; print = request.print } in
    let are : files ≡ asked_of request = search rules in
    let many : 1 < length request.files.items = search rules in
    let loop = c.loop-name in
    on_err (AreLeft request (seen c.args.desk.now) (seen loop.desk)) c.from_residual-in_err-line.result
    (left_so_far request c.args.settings.now files loop.name-index loop.output.items loop.read loop.status (seen c.args.desk.now)
    (seen loop.desk) (seen loop.desk) c.requires.asks are loop.invariant (inr many) (nothing_left files.several (seen loop.desk)))

pub returns-in_err-extend_from_slice-clause-left : goal.returns-in_err-extend_from_slice-clause-left
returns-in_err-extend_from_slice-clause-left g c =
    let seen = g.D.Desk.state in
    let request = c.args.request.now in
    let files : Files = record { several = nat_lt 1 c.len.result; print = request.print } in
    let are : files ≡ asked_of request = search rules in
    let many : 1 < length request.files.items = search rules in
    let loop = c.loop-name in
    on_err (AreLeft request (seen c.args.desk.now) (seen loop.desk)) c.from_residual-in_err-extend_from_slice.result
    (left_so_far request c.args.settings.now files loop.name-index loop.output.items loop.read loop.status (seen c.args.desk.now)
    (seen loop.desk) (seen loop.desk) c.requires.asks are loop.invariant (inr many) (nothing_left files.several (seen loop.desk)))

pub returns-clause-checked : goal.returns-clause-checked
returns-clause-checked g c =
    let seen = g.D.Desk.state in
    let request = c.args.request.now in
    let files : Files = record { several = nat_lt 1 c.len.result; print = request.print } in
    let are : files ≡ asked_of request = search rules in
    let loop = c.loop-name in
    let far = loop.invariant in
    let over : loop.name-index ≡ length request.files.items = search rules in
    let all : length far.founds ≡ length request.files.items = far.count_is ∙ over in
    let output : c.if-files.output.items ≡ output_of files far.founds = elim c.if-files.branch [
      | then-files+in_ok-line+in_ok-extend_from_slice w ↦
          let count : w.len-then-files.result ≡ length request.files.items = search rules in
          ap (λ (output : Vec ℕ Global). output.items) w.output-is ∙ (w.in_ok-extend_from_slice.ensures.items
          ∙ (ap (λ text. loop.output.items ++ text) (w.deref.ensures.value ∙ w.in_ok-line.ensures)
          ∙ output_of_several files far.founds loop.output.items loop.read w.len-then-files.result w.if-files.true far.output_is far.read_is
          (count ∙ sym all)))
      | else-files w ↦
          ap (λ (output : Vec ℕ Global). output.items) w.output-is
          ∙ output_of_one files far.founds loop.output.items w.if-files.false far.output_is
    ] in
    record {
      founds = far.founds;
      all = all;
      goes = goes_so_far request c.args.settings.now files loop.name-index loop.output.items loop.read loop.status (seen c.args.desk.now)
          (seen loop.desk) c.requires.asks are far;
      output_is = output ∙ ap (λ (f : Files). output_of f far.founds) are;
      status_is = far.status_is;
    }
