-- the file was read, or its read failed
use Rattle.std.proofs.Common.{◌≡◌, ◌∙◌, Err, List, ap, inl, inr, refl, rules, sym, ℕ}
use Rattle.std.proofs.lemmas.Result.{IfErr-weaker, IfOk-weaker}
use Rattle.file_commands.specs.Desks.{DeskState}
use Rattle.file_commands.specs.Files.{Gave, noted}
use Rattle.join_command.proofs.JoinLemmas.{left_read, same_but_reads}
use Rattle.join_command.specs.Reads.{once_given}
use Rattle.join_command.specs.Told.{part_bytes}
use Rattle.join_command.proofs.reading.read_file.Goals as goal

pub returns-in-Ok-clause-read : goal.returns-in-Ok-clause-read
returns-in-Ok-clause-read g c =
    let name = c.args.name.now in
    let before : DeskState = g.D.Desk.state c.args.desk.now in
    let after : DeskState = g.D.Desk.state c.read_file.new.self in
    let reads = c.in-Ok.ensures in
    let gave : after ≡ once_given name c.in-Ok.text.items before =
    same_but_reads before after (noted before.files (Gave name part_bytes c.in-Ok.text.items)) before.faults reads.written reads.failures reads.told
    reads.gave (reads.works (λ no. cc)) in
    IfOk-weaker c.part_in.result _ _ (λ part is.
    gave ∙ ap (λ (text : List ℕ). once_given name text before) (sym c.deref.ensures.value ∙ is)) c.part_in.ensures.part

pub returns-in-Ok-clause-stops : goal.returns-in-Ok-clause-stops
returns-in-Ok-clause-stops g c =
    let name = c.args.name.now in
    let text = c.deref.result.now in
    let before : DeskState = g.D.Desk.state c.args.desk.now in
    let after : DeskState = g.D.Desk.state c.read_file.new.self in
    let reads = c.in-Ok.ensures in
    let given : after ≡ once_given name c.in-Ok.text.items before =
    same_but_reads before after (noted before.files (Gave name part_bytes c.in-Ok.text.items)) before.faults reads.written reads.failures reads.told
    reads.gave (reads.works (λ no. cc)) in
    let gave : after ≡ once_given name text before = given ∙ ap (λ (own : List ℕ). once_given name own before) (sym c.deref.ensures.value) in
    IfErr-weaker c.part_in.result _ _ (λ said is. elim is [
      | inl refused ↦ inl (inl (record { text = text; refused = refused; read = gave }))
      | inr out ↦ inr (out, left_read name text before after gave)
    ]) c.part_in.ensures.none

pub returns-in-Err-OutOfMemory-clause-stops : goal.returns-in-Err-OutOfMemory-clause-stops
returns-in-Err-OutOfMemory-clause-stops g c = inr (refl, search rules)

pub returns-in-Err-CannotRead-clause-stops : goal.returns-in-Err-CannotRead-clause-stops
returns-in-Err-CannotRead-clause-stops g c =
    let before : DeskState = g.D.Desk.state c.args.desk.now in
    let after : DeskState = g.D.Desk.state c.read_file.new.self in
    let reads = c.in-Err-CannotRead.ensures in
    let failed = reads.failed (ap Err c.in-Err-CannotRead.field-0-is) in
    let rest : after ≡ record before { faults = after.faults } =
    same_but_reads before after before.files after.faults reads.written reads.failures reads.told reads.refused refl in
    elim c.unread.ensures [
      | inl lost ↦ inl (inr (record { lost = lost; failed = failed; rest = rest }))
      | inr out ↦ inr (
        out,
        record {
          files = inl reads.refused;
          faults = inr (refl, failed);
          rest = same_but_reads before after after.files after.faults reads.written reads.failures reads.told refl refl;
        },
      )
    ]
