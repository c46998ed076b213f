-- file after file is read
use Rattle.std.proofs.Common.{◌≡◌, ◌∙◌, ◌+◌, ◌<◌, ◌++◌, ◌∷◌, [], Bor, List, Some, ap, arith, get_or, inl, inr, length, length-append, refl, rules, subst, sym, ℕ}
use Rattle.std.proofs.lemmas.Option.{slice_get-get_or}
use Rattle.std.specs.List.{slice_get}
use Rattle.file_commands.specs.Desks.{DeskState}
use Rattle.join_command.proofs.JoinLemmas.{left_read, read_more}
use Rattle.join_command.specs.Reads.{AreRead}
use Rattle.part_search.specs.part_file.Texts.{text_of}
use Rattle.part_search.specs.part_file.Views.{part_view}
use Rattle.part_search.specs.declared.part_file.part.Part.{Part}
use Rattle.join_command.proofs.reading.read_files.Goals as goal

pub loop-name-init : goal.loop-name-init
loop-name-init g c =
    let before : DeskState = g.D.Desk.state c.args.desk.now in (
      ap (λ (own : List Part). length own) c.new-parts.ensures.items,
      subst (λ (own : List Part). AreRead c.args.files.now own before before) (sym c.new-parts.ensures.items) refl,
    )

pub returns-in-Err-clause-stops : goal.returns-in-Err-clause-stops
returns-in-Err-clause-stops g c =
    let files = c.args.files.now in
    let loop = c.loop-name in
    let there : loop.name-index < length files = search rules in
    let none : Bor (List ℕ) = record { ref_ptr = (0, 0); now = [] } in
    let file : Bor (List ℕ) = get_or files loop.name-index none in
    let next : slice_get files (length loop.parts.items) ≡ Some file =
    subst (λ (n : ℕ). slice_get files n ≡ Some file) (sym loop.invariant.0) (slice_get-get_or files loop.name-index none there) in
    let middle : DeskState = g.D.Desk.state loop.desk in
    elim c.in-Err.ensures.stops [
      | inl stops ↦ inl (record {
        parts = loop.parts.items;
        middle = middle;
        read = loop.invariant.1;
        file = file;
        next = next;
        stops = stops;
      })
      | inr out ↦ inr (out.0, record { parts = loop.parts.items; middle = middle; read = loop.invariant.1; over = out.1 })
    ]

pub returns-in_default-clause-stops : goal.returns-in_default-clause-stops
returns-in_default-clause-stops g c =
    let files = c.args.files.now in
    let loop = c.loop-name in
    let none : Bor (List ℕ) = record { ref_ptr = (0, 0); now = [] } in
    let file : Bor (List ℕ) = get_or files loop.name-index none in
    let middle : DeskState = g.D.Desk.state loop.desk in
    let after : DeskState = g.D.Desk.state c.read_file.new.desk in
    inr (
      refl,
      record {
        parts = loop.parts.items;
        middle = middle;
        read = loop.invariant.1;
        over = left_read file.now (text_of (part_view c.in-Ok.part)) middle after c.in-Ok.ensures.read;
      },
    )

pub loop-name-preserved : goal.loop-name-preserved
loop-name-preserved g c =
    let files = c.args.files.now in
    let loop = c.loop-name in
    let there : loop.name-index < length files = search rules in
    let none : Bor (List ℕ) = record { ref_ptr = (0, 0); now = [] } in
    let file : Bor (List ℕ) = get_or files loop.name-index none in
    let next : slice_get files (length loop.parts.items) ≡ Some file =
    subst (λ (n : ℕ). slice_get files n ≡ Some file) (sym loop.invariant.0) (slice_get-get_or files loop.name-index none there) in
    let before : DeskState = g.D.Desk.state c.args.desk.now in
    let middle : DeskState = g.D.Desk.state loop.desk in
    let after : DeskState = g.D.Desk.state c.read_file.new.desk in
    let part = c.in-Ok.part in
    let pushed : c.push.new.self.items ≡ loop.parts.items ++ part ∷ [] = c.in-Ok-push.ensures.items in
    let count : length (loop.parts.items ++ part ∷ []) ≡ length loop.parts.items + 1 = length-append loop.parts.items (part ∷ []) in
    let far = loop.invariant.0 in (
      ap (λ (own : List Part). length own) pushed ∙ omega (arith, count, far),
      subst (λ (own : List Part). AreRead files own before after) (sym pushed)
          (read_more files loop.parts.items file part before middle after next loop.invariant.1 c.in-Ok.ensures.read),
    )
