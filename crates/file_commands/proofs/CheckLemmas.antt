-- Files that are gone over one after the other, and what comes of them all.
use Rattle.std.proofs.Common.{◌≡◌, ◌∙◌, ◌<◌, ◌+◌, ◌⊎◌, ◌++◌, ◌∷◌, [], ℕ, All, Bool, Err, IfNone, IfSome, List, None, Ok, OnErr, Option, Result, Some, Vec, ap, ap₂, arith}
use Rattle.std.proofs.Common.{count_by, false, flat_map, fold, inl, length, map, max, refl, subst, suc, sym, take, true}
use Rattle.std.proofs.Common.{◌==◌, Bor, add-one, append-nil, cond, get_or, if◌then◌else◌, is_some, length-append, not, sum_by, vec_len, zero}
use Rattle.std.proofs.lemmas.Grind.{flat_map-append}
use Rattle.std.proofs.Math.Seq.{take-suc}
use Rattle.std.proofs.lemmas.List.{get_or-map, length-map, map-append}
use Rattle.std.proofs.lemmas.List.Elements.{All-append}
use Rattle.std.proofs.lemmas.List.Sums.{fold-append, sum_by-append}
use Rattle.prepared_program.specs.declared.program_sites.settings.Settings.{Settings}
use Rattle.std.specs.Global.{Global}
use Rattle.diagnostics.specs.check_output.Diagnosis.{Diagnosis, Gave, IsFound, Lost, greatest_status, has_tables, name_of, output_of, status_of_one, text_of}
use Rattle.diagnostics.specs.declared.check_output.file.Files.{Files}
use Rattle.cli.specs.declared.request.CheckRequest.{CheckRequest}
use Rattle.diagnostics.specs.check_output.Output.{IsMadeOf, last_line, unread_line}
use Rattle.diagnostics.specs.declared.check_output.file.Comes.TheVariants as comes
use Rattle.file_commands.specs.Check.{AreGoneOver, AreLeft, CheckAsksFor, GoesOver, IsGoneOver, IsLeftOver, IsListFault, IsSeveral, IsToldOf, IsToldOfLost, IsWarned}
use Rattle.file_commands.specs.Check.{asked_of, list_complaint}
use Rattle.file_commands.specs.Desks.{DeskState, once_told}
use Rattle.file_commands.specs.StandardError.{heard}
use Rattle.file_commands.specs.declared.failure.Failure.TheVariants as failure
use Rattle.file_commands.specs.declared.complaint.Complaint.TheVariants as complaint
use Rattle.litmus_syntax.specs.declared.error.ParseError.{ParseError}
use Rattle.run_output.specs.declared.error.EngineError.TheVariants as engine
use Rattle.diagnostics.specs.declared.text_check.checked.Check.{Check}
use Rattle.file_commands.specs.Files.{FileEvent, noted}
use Rattle.diagnostics.specs.declared.text_check.checked.Check.TheVariants.{Misplaced, Reads, Refused}
use Rattle.file_commands.specs.declared.failure.Failure.{Failure}
use Rattle.file_commands.specs.declared.complaint.Complaint.{Complaint}

-- what holds at an error holds where there is none too
pub on_err : {X E : Type 0} (P : Type 0) (result : Result X E) → P → OnErr result P
on_err P (Ok x) holds = tt
on_err P (Err e) holds = holds

-- a desk of which little has changed
abbrev whole : Option (List ℕ) → ℕ → Option (List FileEvent) → Option (List Complaint) → ℕ → DeskState
whole written failures files told faults =
    record { written = written; failures = failures; files = files; told = told; faults = faults }

pub same_but_reads : (before after : DeskState) → after.written ≡ before.written → after.failures ≡ before.failures → after.told ≡ before.told
    → after ≡ record before { files = after.files; faults = after.faults }
same_but_reads before after written failures told =
    ap (λ w. whole w after.failures after.files after.told after.faults) written
    ∙ (ap (λ n. whole before.written n after.files after.told after.faults) failures
    ∙ ap (λ t. whole before.written before.failures after.files t after.faults) told)

-- a file that gave a text was read, and then its complaint was told
pub read_and_told : (before middle after : DeskState) (event : FileEvent) → after ≡ record middle { told = after.told }
    → middle.written ≡ before.written → middle.failures ≡ before.failures → middle.files ≡ noted before.files event
    → middle.faults ≡ before.faults → after ≡ record before { files = noted before.files event; told = after.told }
read_and_told before middle after event rest written failures files faults =
    rest ∙ (ap (λ w. whole w middle.failures middle.files after.told middle.faults) written
    ∙ (ap (λ n. whole before.written n middle.files after.told middle.faults) failures
    ∙ (ap (λ f. whole before.written before.failures f after.told middle.faults) files
    ∙ ap (λ n. whole before.written before.failures (noted before.files event) after.told n) faults)))

-- a file that can't be read was asked for, and then this was told
pub lost_and_told : (before middle after : DeskState) (said : Complaint) → after ≡ once_told said middle
    → middle.written ≡ before.written → middle.failures ≡ before.failures → middle.files ≡ before.files
    → after ≡ record before { told = after.told; faults = after.faults }
lost_and_told before middle after said is written failures files =
    is ∙ (ap (λ w. whole w middle.failures middle.files (heard middle.told said) middle.faults) written
    ∙ (ap (λ n. whole before.written n middle.files (heard middle.told said) middle.faults) failures
    ∙ (ap (λ f. whole before.written before.failures f (heard middle.told said) middle.faults) files
    ∙ (ap (λ t. whole before.written before.failures before.files t middle.faults) (sym (ap (λ (at : DeskState). at.told) is))
    ∙ ap (λ n. whole before.written before.failures before.files after.told n) (sym (ap (λ (at : DeskState). at.faults) is))))))

-- a text that has bytes isn't empty
pub some_text : (text : Vec ℕ Global) (is : Bool) → is ≡ (vec_len text == 0) → is ≡ false → text.items ≡ [] → ⊥
some_text text is told some empty =
    let len = text.ok.0 in
    let none : length text.items ≡ 0 = ap (λ (items : List ℕ). length items) empty in
    let zero_len : vec_len text ≡ 0 = omega (arith, len, none) in
    let no : false ≡ true = sym some ∙ (told ∙ ap (λ n. n == 0) zero_len) in
    cc

-- the warnings were told, since there are some
pub warned_so : (warnings : Vec ℕ Global) (before after : Option (List Complaint)) → (warnings.items ≡ [] → ⊥)
    → after ≡ heard before (complaint.Warned (record { bytes = warnings })) → IsWarned warnings.items before after
warned_so warnings before after some told = by warnings.items refl where
  by : (items : List ℕ) → warnings.items ≡ items → IsWarned items before after
  by [] is = absurd (some is)
  by (first ∷ more) is = (record { bytes = warnings }, is, told)

-- what was told of a file that reads
pub told_read : (files : Files) (name text : List ℕ) (check : Check) (line warnings : Vec ℕ Global) (before after : Option (List Complaint))
    → IsMadeOf files name check (comes.Read line warnings) → IsWarned warnings.items before after
    → IsToldOf files (Gave name text check) before after
told_read files name text (Reads tables printed told) line warnings before after made warned =
    subst (λ (v : Vec ℕ Global). IsWarned v.items before after) made.1 warned
told_read files name text (Misplaced why) line warnings before after made warned = absurd made
told_read files name text (Refused error why) line warnings before after made warned = absurd made

-- what was told of a file that the places don't suit
pub told_misplaced : (files : Files) (name text : List ℕ) (check : Check) (line : Vec ℕ Global) (before after : Option (List Complaint))
    → IsMadeOf files name check (comes.Misplaced line) → after ≡ heard before (complaint.Explained failure.BadPlace (record { bytes = line }))
    → IsToldOf files (Gave name text check) before after
told_misplaced files name text (Reads tables printed warnings) line before after made told = absurd made
told_misplaced files name text (Misplaced why) line before after made told =
    record { lines = record { bytes = line }; text_is = made; told = told }
told_misplaced files name text (Refused error why) line before after made told = absurd made

-- and of one that is refused
pub told_refused : (files : Files) (name text : List ℕ) (check : Check) (error : ParseError) (lines : Vec ℕ Global)
    (before after : Option (List Complaint)) → IsMadeOf files name check (comes.Refused error lines)
    → after ≡ heard before (complaint.Explained (failure.Engine (engine.Text error)) (record { bytes = lines }))
    → IsToldOf files (Gave name text check) before after
told_refused files name text (Reads tables printed warnings) error lines before after made told = absurd made
told_refused files name text (Misplaced why) error lines before after made told = absurd made
told_refused files name text (Refused other why) error lines before after made told = record {
  lines = record { bytes = lines };
  text_is = ap (λ (l : Vec ℕ Global). l.items) made.1;
  told = told ∙ ap (λ (e : ParseError). heard before (complaint.Explained (failure.Engine (engine.Text e)) (record { bytes = lines }))) made.0;
}

-- the line on a list's first item that doesn't read is told, as there is one
pub list_fault : (error : Failure) (IsFault : List ℕ → Type 0) (AllRead : Type 0) (line : Option (Vec ℕ Global)) (said : Complaint)
    → (AllRead → ⊥) → IfSome line (λ found. IsFault found.items) → IfNone line AllRead → said ≡ list_complaint error line
    → IsListFault error IsFault said
list_fault error IsFault AllRead None said some found none is = absurd (some none)
list_fault error IsFault AllRead (Some line) said some found none is = record { lines = record { bytes = line }; fault = found; said_is = is }

-- what isn't missing is there
pub is_there : {X : Type 0} (it : Option X) (none : Bool) → is_some it ≡ not none → none ≡ false → (x : X) × (it ≡ Some x)
is_there None none is there = absurd (let no : false ≡ true = is ∙ ap not there in cc)
is_there (Some x) none is there = (x, refl)

pub nothing_left : (several : Bool) (at : DeskState) → IsLeftOver several at at
nothing_left several at = record { files = inl refl; faults = inl refl; rest = refl }

-- one file more is gone over
pub more_gone_over : (files : Files) (founds : List Diagnosis) (found : Diagnosis) (before middle after : DeskState)
    → AreGoneOver files founds before middle → IsGoneOver files found middle after → AreGoneOver files (founds ++ found ∷ []) before after
more_gone_over files [] found before middle after none one =
    (after, subst (λ (at : DeskState). IsGoneOver files found at after) none one, refl)
more_gone_over files (first ∷ more) found before middle after all one =
    (all.0, all.1, more_gone_over files more found all.0 middle after all.2 one)

count_more : (p : Diagnosis → Bool) (founds : List Diagnosis) (found : Diagnosis) → count_by p (founds ++ found ∷ []) ≡ count_by p founds + count_by p (found ∷ [])
count_more p founds found = sum_by-append (λ x. cond (p x) 1 0) founds (found ∷ [])

greatest_more : (founds : List Diagnosis) (found : Diagnosis) → greatest_status (founds ++ found ∷ []) ≡ max (greatest_status founds) (status_of_one found)
greatest_more founds found =
    ap (fold max 0) (map-append status_of_one founds (found ∷ [])) ∙ fold-append max 0 (map status_of_one founds) (status_of_one found ∷ [])

all_one : {X : Type 0} (P : X → Type 0) (x : X) → P x → All P (x ∷ [])
all_one P x holds zero d lt = holds
all_one P x holds (suc k) d lt = absurd (omega (arith, lt))

-- so many files were gone over: what was found of them, what is printed of these, how many have tables, and their
-- greatest status
pub record SoFar (names : List (List ℕ)) (settings : Settings) (files : Files) (count : ℕ) (output : List ℕ) (read status : ℕ)
    (before after : DeskState) : Type 0 where
  pub founds : List Diagnosis
  pub count_is : length founds ≡ count
  pub names_are : map name_of founds ≡ take count names
  pub are_found : All (IsFound settings) founds
  pub gone_over : AreGoneOver files founds before after
  pub output_is : output ≡ flat_map (text_of files) founds
  pub read_is : read ≡ count_by has_tables founds
  pub status_is : status ≡ greatest_status founds

pub none_so_far : (names : List (List ℕ)) (settings : Settings) (files : Files) (output : List ℕ) (before : DeskState) → output ≡ []
    → SoFar names settings files 0 output 0 0 before before
none_so_far names settings files output before empty = record {
  founds = [];
  count_is = refl;
  names_are = refl;
  are_found = λ k d lt. absurd (omega (arith, lt));
  gone_over = refl;
  output_is = empty;
  read_is = refl;
  status_is = refl;
}

pub one_more : (names : List (List ℕ)) (settings : Settings) (files : Files) (count : ℕ) (output : List ℕ) (read status : ℕ)
    (before middle after : DeskState) (found : Diagnosis) (more : List ℕ) (others greatest : ℕ)
    → SoFar names settings files count output read status before middle
    → take (count + 1) names ≡ take count names ++ name_of found ∷ [] → IsFound settings found → IsGoneOver files found middle after
    → more ≡ output ++ text_of files found → others ≡ read + count_by has_tables (found ∷ []) → greatest ≡ max status (status_of_one found)
    → SoFar names settings files (count + 1) more others greatest before after
one_more names settings files count output read status before middle after found more others greatest far named is_found gone more_is others_are greatest_is = record {
  founds = far.founds ++ found ∷ [];
  count_is = length-append far.founds (found ∷ []) ∙ ap (λ n. n + 1) far.count_is;
  names_are = map-append name_of far.founds (found ∷ []) ∙ (ap (λ xs. xs ++ name_of found ∷ []) far.names_are ∙ sym named);
  are_found = All-append (IsFound settings) far.founds (found ∷ []) far.are_found (all_one (IsFound settings) found is_found);
  gone_over = more_gone_over files far.founds found before middle after far.gone_over gone;
  output_is = more_is ∙ (ap (λ text. text ++ text_of files found) far.output_is
      ∙ (ap (λ text. flat_map (text_of files) far.founds ++ text) (sym (append-nil (text_of files found)))
      ∙ sym (flat_map-append (text_of files) far.founds (found ∷ []))));
  read_is = others_are ∙ (ap (λ n. n + count_by has_tables (found ∷ [])) far.read_is ∙ sym (count_more has_tables far.founds found));
  status_is = greatest_is ∙ (ap (λ n. max n (status_of_one found)) far.status_is ∙ sym (greatest_more far.founds found));
}

-- what is missing is none
pub is_missing : {X : Type 0} (it : Option X) (none : Bool) → is_some it ≡ not none → none ≡ true → it ≡ None
is_missing None none is missing = refl
is_missing (Some x) none is missing = absurd (let no : true ≡ false = is ∙ ap not missing in cc)

-- so far the files were gone over as they are asked for
pub goes_so_far : (request : CheckRequest) (settings : Settings) (files : Files) (count : ℕ) (output : List ℕ) (read status : ℕ) (before after : DeskState)
    → CheckAsksFor request settings → files ≡ asked_of request
    → (far : SoFar (map (λ file. file.now) request.files.items) settings files count output read status before after)
    → GoesOver request far.founds before after
goes_so_far request settings files count output read status before after asks are far = record {
  settings = settings;
  asks = asks;
  names = far.names_are ∙ ap (λ n. take n (map (λ file. file.now) request.files.items)) (sym far.count_is);
  are_found = far.are_found;
  gone_over = subst (λ (f : Files). AreGoneOver f far.founds before after) are far.gone_over;
}

-- memory ran out over the next file, or, of several, over what is printed
pub left_so_far : (request : CheckRequest) (settings : Settings) (files : Files) (count : ℕ) (output : List ℕ) (read status : ℕ)
    (before middle after : DeskState) → CheckAsksFor request settings → files ≡ asked_of request
    → SoFar (map (λ file. file.now) request.files.items) settings files count output read status before middle
    → (count < length request.files.items) ⊎ IsSeveral request → IsLeftOver files.several middle after → AreLeft request before after
left_so_far request settings files count output read status before middle after asks are far left over = record {
  founds = far.founds;
  left = subst (λ n. (n < length request.files.items) ⊎ IsSeveral request) (sym far.count_is) left;
  middle = middle;
  goes = goes_so_far request settings files count output read status before middle asks are far;
  over = subst (λ (f : Files). IsLeftOver f.several middle after) are over;
}

-- what is told of one of several files that can't be read
pub lost_of_several : (several : Bool) (name : List ℕ) (before : Option (List Complaint)) (line : Vec ℕ Global) → several ≡ true
    → line.items ≡ unread_line name
    → IsToldOfLost several name before (heard before (complaint.Explained failure.CannotRead (record { bytes = line })))
lost_of_several true name before line many is = record { lines = record { bytes = line }; text_is = is; told = refl }
lost_of_several false name before line many is = absurd (cc)

-- the name of the next file stands behind those before it
pub next_name : (items : List (Bor (List ℕ))) (count : ℕ) (d : Bor (List ℕ)) (name : List ℕ) → count < length items
    → name ≡ (get_or items count d).now
    → take (count + 1) (map (λ file. file.now) items) ≡ take count (map (λ file. file.now) items) ++ name ∷ []
next_name items count d name there is =
    let names = map (λ (file : Bor (List ℕ)). file.now) items in
    let within : count < length names = subst (λ n. count < n) (sym (length-map items (λ (file : Bor (List ℕ)). file.now))) there in
    ap (λ n. take n names) (add-one count) ∙ (take-suc names count d.now within
    ∙ ap (λ (x : List ℕ). take count names ++ x ∷ []) (get_or-map (λ (file : Bor (List ℕ)). file.now) items count d d.now there ∙ sym is))

-- a file that has tables is read, and has the least status
pub counts_one : (found : Diagnosis) → has_tables found ≡ true → count_by has_tables (found ∷ []) ≡ 1
counts_one found has = ap (λ b. sum_by (λ (n : ℕ). n) (cond b 1 0 ∷ [])) has

pub counts_none : (found : Diagnosis) → has_tables found ≡ false → count_by has_tables (found ∷ []) ≡ 0
counts_none found has = ap (λ b. sum_by (λ (n : ℕ). n) (cond b 1 0 ∷ [])) has

pub status_of_read : (found : Diagnosis) → has_tables found ≡ true → status_of_one found ≡ 0
status_of_read (Gave name text (Reads tables printed warnings)) has = refl
status_of_read (Gave name text (Misplaced why)) has = absurd (cc)
status_of_read (Gave name text (Refused error why)) has = absurd (cc)
status_of_read (Lost name) has = absurd (cc)

-- what is printed of all files: of several a last line stands behind
pub output_of_several : (files : Files) (founds : List Diagnosis) (output : List ℕ) (read all : ℕ) → files.several ≡ true
    → output ≡ flat_map (text_of files) founds → read ≡ count_by has_tables founds → all ≡ length founds
    → output ++ last_line read all ≡ output_of files founds
output_of_several files founds output read all several output_is read_is all_is =
    ap₂ (λ (text line : List ℕ). text ++ line) output_is
    (ap₂ last_line read_is all_is
    ∙ sym (ap (λ (b : Bool). if b then last_line (count_by has_tables founds) (length founds) else []) several))

pub output_of_one : (files : Files) (founds : List Diagnosis) (output : List ℕ) → files.several ≡ false
    → output ≡ flat_map (text_of files) founds → output ≡ output_of files founds
output_of_one files founds output one output_is =
    output_is ∙ (sym (append-nil (flat_map (text_of files) founds))
    ∙ sym (ap (λ (b : Bool). flat_map (text_of files) founds
    ++ (if b then last_line (count_by has_tables founds) (length founds) else [])) one))

pub max_with_none : (n : ℕ) → n ≡ max n 0
max_with_none n = omega arith

pub plus_none : (n : ℕ) → n ≡ n + 0
plus_none n = omega arith
