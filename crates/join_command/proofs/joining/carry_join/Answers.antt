-- a file has no part, the parts are joined, or what is amiss with them is told
use Rattle.std.proofs.Common.{◌≡◌, ◌∙◌, Bor, List, ap, inl, inr, length, subst, ℕ}
use Rattle.file_commands.specs.Desks.{DeskState, once_told}
use Rattle.file_commands.specs.Statuses.{complaint_status_of}
use Rattle.file_commands.specs.declared.complaint.Complaint.{Complaint}
use Rattle.join_command.proofs.JoinLemmas.{left_so}
use Rattle.join_command.specs.Ends.{Joined, Left, Refused, Stopped}
use Rattle.join_command.specs.Reads.{AreLeft, AreRead, StopsReading}
use Rattle.join_command.proofs.joining.carry_join.Goals as goal

pub returns-in-Err : goal.returns-in-Err
returns-in-Err g c =
    let before : DeskState = g.D.Desk.state c.args.desk.now in
    let middle : DeskState = g.D.Desk.state c.read_files.new.desk in
    elim c.in-Err.ensures.stops [
      | inl stops ↦ Stopped (record {
        middle = middle;
        said = c.in-Err.said;
        stops = subst (λ (files : List (Bor (List ℕ))). StopsReading files c.in-Err.said before middle) c.as_slice.ensures.value stops;
        told = record { status_is = c.tell.ensures.status; told = c.tell.ensures.told };
      })
      | inr out ↦ Left (record {
        middle = middle;
        left = subst (λ (files : List (Bor (List ℕ))). AreLeft files before middle) c.as_slice.ensures.value out.1;
        over = record {
          status_is = c.tell.ensures.status ∙ ap complaint_status_of out.0;
          told = c.tell.ensures.told ∙ ap (λ (said : Complaint). once_told said middle) out.0;
        };
      })
    ]

pub returns-in-Ok-joined : goal.returns-in-Ok-joined
returns-in-Ok-joined g c =
    let parts = c.in-Ok.parts.items in
    let before : DeskState = g.D.Desk.state c.args.desk.now in
    let middle : DeskState = g.D.Desk.state c.read_files.new.desk in
    let same = c.as_slice.ensures.value in
    Joined (record {
      parts = parts;
      middle = middle;
      read = record {
        all = subst (λ (files : List (Bor (List ℕ))). length parts ≡ length files) same c.in-Ok.ensures.all;
        read = subst (λ (files : List (Bor (List ℕ))). AreRead files parts before middle) same c.in-Ok.ensures.read;
      };
      output = c.in-Ok-joined.checked.output.items;
      own = c.in-Ok-joined.checked.status;
      found = c.in-Ok-joined.ensures.found;
      printed = c.print_checked.ensures;
    })

pub returns-in-Err-joined : goal.returns-in-Err-joined
returns-in-Err-joined g c =
    let parts = c.in-Ok.parts.items in
    let before : DeskState = g.D.Desk.state c.args.desk.now in
    let middle : DeskState = g.D.Desk.state c.read_files.new.desk in
    let same = c.as_slice.ensures.value in
    let read : AreRead c.args.request.now.files.items parts before middle =
    subst (λ (files : List (Bor (List ℕ))). AreRead files parts before middle) same c.in-Ok.ensures.read in
    elim c.in-Err-joined.ensures.refused [
      | inl refused ↦ Refused (record {
        parts = parts;
        middle = middle;
        read = record {
          all = subst (λ (files : List (Bor (List ℕ))). length parts ≡ length files) same c.in-Ok.ensures.all;
          read = read;
        };
        said = c.in-Err-joined.said;
        refused = refused;
        told = record { status_is = c.tell-in-Err-joined.ensures.status; told = c.tell-in-Err-joined.ensures.told };
      })
      | inr out ↦ Left (record {
        middle = middle;
        left = record { parts = parts; middle = middle; read = read; over = left_so middle };
        over = record {
          status_is = c.tell-in-Err-joined.ensures.status ∙ ap complaint_status_of out;
          told = c.tell-in-Err-joined.ensures.told ∙ ap (λ (said : Complaint). once_told said middle) out;
        };
      })
    ]
