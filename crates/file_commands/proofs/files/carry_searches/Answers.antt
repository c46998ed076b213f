-- The files were searched, where standard output is a terminal or not.
use Rattle.std.proofs.Common.{Bor, List, ℕ, subst}
use Rattle.file_commands.specs.FileWork.{FilesEnd}
use Rattle.file_commands.specs.Races.{search_work}
use Rattle.file_search.specs.declared.work.SearchWork.{SearchWork}
use Rattle.file_search.specs.declared.work.Work.TheVariants.{Search}
use Rattle.file_commands.proofs.files.carry_searches.Goals as goal

pub returns : goal.returns
returns g c =
    let request = c.args.request.now in
    let at_terminal = c.is_terminal.result in
    let before = g.D.Desk.state c.args.desk.now in
    let after = g.D.Desk.state c.carry_asked.new.desk in (
      at_terminal,
      subst (λ (files : List (Bor (List ℕ))). FilesEnd
          (record { files = files; options = request.options; work = Search (search_work request at_terminal); jobs = request.jobs })
          c.carry_asked.result before after) c.as_slice.ensures.value
          (subst (λ (work : SearchWork). FilesEnd
          (record { files = c.as_slice.result.now; options = request.options; work = Search work; jobs = request.jobs })
          c.carry_asked.result before after) c.search_work.ensures c.carry_asked.ensures),
    )
