-- Files that are all read first, and told of afterwards: so it is as if each had been told of once it was read.
use Rattle.std.proofs.Common.{◌≡◌, ◌∙◌, ◌<◌, ◌≤◌, ◌+◌, ◌-◌, ◌++◌, ◌∷◌, [], ℕ, suc, All, Bor, List, None, Option, Some, ap, arith, drop, get_or, length}
use Rattle.std.proofs.Common.{Vec, length-append, map, refl, rules, slice_get, subst, sym, take, true}
use Rattle.std.proofs.Math.ListN.{drop_of_length-le}
use Rattle.std.proofs.Math.Seq.{drop-cons}
use Rattle.std.proofs.lemmas.List.{drop-map, get_or-map, length-drop, length-map, map-append, take-append-drop, take_all}
use Rattle.std.proofs.lemmas.List.Elements.{All-append, All-cons, All-nil}
use Rattle.std.proofs.lemmas.Option.{get_or_from_slice_get, slice_get-get_or, slice_get-map, slice_get_read, slice_get_within}
use Rattle.std.specs.Global.{Global}
use Rattle.std.specs.Option.{option_map}
use Rattle.diagnostics.specs.check_output.Diagnosis.{Gave, Lost}
use Rattle.diagnostics.specs.check_output.Output.{IsMadeOf}
use Rattle.diagnostics.specs.declared.text_check.checked.Check.{Check}
use Rattle.file_commands.proofs.CheckLemmas.{next_name}
use Rattle.file_commands.proofs.FilesLemmas.{SearchedSoFar, looks_so_far, none_searched, one_searched, unread_said}
use Rattle.file_commands.specs.Check.{IsToldOf}
use Rattle.file_commands.specs.Desks.{DeskState}
use Rattle.file_commands.specs.FileWork.{AreLeftTogether, AreRead, AreSeveral, Asked, FileRead, IsLostOf, IsRefusedFor, IsSaidOf, IsTextRead, PassedOver, Refused, Searched}
use Rattle.file_search.specs.Work.{IsFoundIn}
use Rattle.file_commands.specs.FileWork.{counted, files_of, has_names, no_counts, once_given}
use Rattle.file_search.specs.Work.{heading_of, unsearched_text, worse}
use Rattle.file_commands.specs.Settings.{AskSettings}
use Rattle.file_commands.specs.StandardError.{heard}
use Rattle.file_commands.specs.Together.{AllAreRead, AreEndsOf, FirstAreRead, IsEndAt, IsEndOfText, IsSaidOnce, IsUnread, text_of, texts_of}
use Rattle.file_commands.specs.declared.complaint.Complaint.{Complaint}
use Rattle.file_commands.specs.declared.complaint.Complaint.TheVariants as complaints
use Rattle.file_commands.specs.declared.failure.Failure.TheVariants as failure
use Rattle.file_commands.specs.declared.files.FileSaid.{FileSaid}
use Rattle.file_commands.specs.declared.together.NumberedEnd.{NumberedEnd}
use Rattle.file_commands.specs.declared.together.TextEnd.{TextEnd}
use Rattle.file_commands.specs.declared.together.UnreadText.{UnreadText}
use Rattle.prepared_program.specs.declared.program_sites.settings.Settings.{Settings}
use Rattle.output_pieces.specs.declared.file_counts.FileCounts.{FileCounts}
use Rattle.race_output.specs.declared.words.FileVerdict.{FileVerdict}
use Rattle.run_output.specs.declared.error.EngineError.{EngineError}
use Rattle.search_output.specs.Texts.{IsRefused}

-- a read stays one, whatever was told before it
pub read_apart : (name : List ℕ) (text : Option (List ℕ)) (told : Option (List Complaint)) (before after : DeskState)
    → IsTextRead name text before after → IsTextRead name text (record before { told = told }) (record after { told = told })
read_apart name (Some text) told before after is = ap (λ (at : DeskState). record at { told = told }) is
read_apart name None told before after is = (ap (λ (at : DeskState). record at { told = told }) is.0, is.1)

pub reads_apart : (reads : List FileRead) (told : Option (List Complaint)) (before after : DeskState) → AreRead reads before after
    → AreRead reads (record before { told = told }) (record after { told = told })
reads_apart [] told before after same = ap (λ (at : DeskState). record at { told = told }) same
reads_apart (read ∷ more) told before after are = (
  record are.0 { told = told },
  read_apart read.name read.text told before are.0 are.1,
  reads_apart more told are.0 after are.2,
)

-- a read tells nothing
read_untold : (name : List ℕ) (text : Option (List ℕ)) (before after : DeskState) → IsTextRead name text before after
    → after.told ≡ before.told
read_untold name (Some text) before after is = ap (λ (at : DeskState). at.told) is
read_untold name None before after is = ap (λ (at : DeskState). at.told) is.0

reads_untold : (reads : List FileRead) (before after : DeskState) → AreRead reads before after → after.told ≡ before.told
reads_untold [] before after same = ap (λ (at : DeskState). at.told) same
reads_untold (read ∷ more) before after are =
    reads_untold more are.0 after are.2 ∙ read_untold read.name read.text before are.0 are.1

-- one file more is read
more_read : (reads : List FileRead) (read : FileRead) (before middle after : DeskState) → AreRead reads before middle
    → IsTextRead read.name read.text middle after → AreRead (reads ++ read ∷ []) before after
more_read [] read before middle after none one =
    (after, subst (λ (at : DeskState). IsTextRead read.name read.text at after) none one, refl)
more_read (first ∷ more) read before middle after all one =
    (all.0, all.1, more_read more read all.0 middle after all.2 one)

-- so many files were read, and gave these texts
pub record ReadSoFar (asked : Asked) (count : ℕ) (texts : List (Option (List ℕ))) (before after : DeskState) : Type 0 where
  pub reads : List FileRead
  pub count_is : length reads ≡ count
  pub names_are : map (λ (read : FileRead). read.name) reads ≡ take count (map (λ file. file.now) asked.files)
  pub texts_are : map (λ (read : FileRead). read.text) reads ≡ texts
  pub are_read : AreRead reads before after

pub none_read : (asked : Asked) (before : DeskState) → ReadSoFar asked 0 [] before before
none_read asked before = record { reads = []; count_is = refl; names_are = refl; texts_are = refl; are_read = refl }

pub one_read : (asked : Asked) (count : ℕ) (texts others : List (Option (List ℕ))) (before middle after : DeskState) (name : List ℕ)
    (text : Option (List ℕ)) → ReadSoFar asked count texts before middle
    → take (count + 1) (map (λ file. file.now) asked.files) ≡ take count (map (λ file. file.now) asked.files) ++ name ∷ []
    → IsTextRead name text middle after → others ≡ texts ++ text ∷ [] → ReadSoFar asked (count + 1) others before after
one_read asked count texts others before middle after name text far named is others_are =
    let one : FileRead = record { name = name; text = text } in record {
      reads = far.reads ++ one ∷ [];
      count_is = length-append far.reads (one ∷ []) ∙ ap (λ n. n + 1) far.count_is;
      names_are = map-append (λ (read : FileRead). read.name) far.reads (one ∷ []) ∙ (ap (λ xs. xs ++ name ∷ []) far.names_are ∙ sym named);
      texts_are = map-append (λ (read : FileRead). read.text) far.reads (one ∷ [])
          ∙ (ap (λ (xs : List (Option (List ℕ))). xs ++ text ∷ []) far.texts_are ∙ sym others_are);
      are_read = more_read far.reads one before middle after far.are_read is;
    }

pub first_read : (asked : Asked) (count : ℕ) (texts : List (Option (List ℕ))) (before after : DeskState)
    → ReadSoFar asked count texts before after → FirstAreRead asked before after
first_read asked count texts before after far = record {
  reads = far.reads;
  names_are = far.names_are ∙ ap (λ n. take n (map (λ file. file.now) asked.files)) (sym far.count_is);
  are_read = far.are_read;
}

-- no more than all names are taken
all_names : (asked : Asked) (count : ℕ) → length asked.files ≤ count
    → take count (map (λ file. file.now) asked.files) ≡ map (λ file. file.now) asked.files
all_names asked count all =
    let many : length (map (λ (file : Bor (List ℕ)). file.now) asked.files) ≡ length asked.files =
    length-map asked.files (λ (file : Bor (List ℕ)). file.now) in
    take_all count (map (λ (file : Bor (List ℕ)). file.now) asked.files) (omega (arith, many, all))

pub all_read : (asked : Asked) (count : ℕ) (texts : List (Option (List ℕ))) (before after : DeskState)
    → ReadSoFar asked count texts before after → count ≡ length asked.files → AllAreRead asked texts before after
all_read asked count texts before after far all = record {
  reads = far.reads;
  names_are = far.names_are ∙ all_names asked count (omega (arith, all));
  texts_are = far.texts_are;
  are_read = far.are_read;
}

-- as many were read as are asked for
reads_many : (asked : Asked) (reads : List FileRead)
    → map (λ (read : FileRead). read.name) reads ≡ map (λ file. file.now) asked.files → length reads ≡ length asked.files
reads_many asked reads names_are =
    sym (length-map reads (λ (read : FileRead). read.name))
    ∙ (ap (λ (xs : List (List ℕ)). length xs) names_are ∙ length-map asked.files (λ (file : Bor (List ℕ)). file.now))

pub all_are_first : (asked : Asked) (texts : List (Option (List ℕ))) (before after : DeskState)
    → AllAreRead asked texts before after → FirstAreRead asked before after
all_are_first asked texts before after all = record {
  reads = all.reads;
  names_are = all.names_are ∙ sym (all_names asked (length all.reads) (let many = reads_many asked all.reads all.names_are in omega (arith, many)));
  are_read = all.are_read;
}

-- memory ran out before any file was told of
pub left_untold : (asked : Asked) (settings : Settings) (before after : DeskState) → AskSettings asked.options settings → AreSeveral asked
    → 1 < asked.jobs → FirstAreRead asked before after → AreLeftTogether asked before after
left_untold asked settings before after asks several jobs first = record {
  several = several;
  jobs = jobs;
  founds = [];
  middle = before;
  looks = record {
    settings = settings;
    asks = asks;
    names = refl;
    are_found = All-nil _;
    looked_into = refl;
  };
  reads = first.reads;
  names = first.names_are ∙ ap (λ n. take n (map (λ file. file.now) asked.files)) (let n : ℕ = length first.reads in let e : n ≡ 0 + n = omega arith in e);
  are_read = first.are_read;
}

-- All files were read, which led from `before` to `last`. So many were told of since: it is as if they had been looked
-- into one after the other, and the others had been read behind them.
pub record ToldSoFar (asked : Asked) (settings : Settings) (reads : List FileRead) (count : ℕ) (output : List ℕ) (counts : FileCounts)
    (status : ℕ) (before last now : DeskState) : Type 0 where
  pub middle : DeskState
  pub left : AreRead (drop count reads) middle last
  pub so_far : SearchedSoFar asked settings count output counts status before (record middle { told = now.told })
  pub rest : now ≡ record last { told = now.told }

pub none_told : (asked : Asked) (settings : Settings) (reads : List FileRead) (output : List ℕ) (before last : DeskState)
    → output ≡ heading_of asked.work → AreRead reads before last → ToldSoFar asked settings reads 0 output no_counts 0 before last last
none_told asked settings reads output before last empty are = record {
  middle = before;
  left = are;
  so_far = subst (λ (told : Option (List Complaint)). SearchedSoFar asked settings 0 output no_counts 0 before (record before { told = told }))
      (sym (reads_untold reads before last are)) (none_searched asked settings output before empty);
  rest = refl;
}

-- what stands at a place of a list stands there in one that is made of it
same_at : {X Y : Type 0} (f : X → Y) (xs : List X) (ys : List Y) (i : ℕ) (d : X) (y : Y) → map f xs ≡ ys → i < length xs
    → slice_get ys i ≡ Some y → f (get_or xs i d) ≡ y
same_at f xs ys i d y same there is =
    sym (get_or-map f xs i d y there) ∙ (ap (λ zs. get_or zs i y) same ∙ get_or_from_slice_get ys i y y is)

pub one_told : (asked : Asked) (settings : Settings) (reads : List FileRead) (texts : List (Option (List ℕ))) (count : ℕ) (output : List ℕ)
    (counts : FileCounts) (status : ℕ) (before last now after : DeskState) (given : Bor (List ℕ)) (text : Option (List ℕ)) (said : FileSaid)
    (more : List ℕ) (others : FileCounts) (greatest : ℕ) → ToldSoFar asked settings reads count output counts status before last now
    → map (λ (read : FileRead). read.name) reads ≡ map (λ file. file.now) asked.files → map (λ (read : FileRead). read.text) reads ≡ texts
    → slice_get asked.files count ≡ Some given → slice_get texts count ≡ Some text → IsSaidOnce asked settings given.now text said now after
    → after ≡ record now { told = after.told } → more ≡ output ++ said.text.items → others ≡ counted counts said.verdict
    → greatest ≡ worse asked.work status said.status → ToldSoFar asked settings reads (count + 1) more others greatest before last after
one_told asked settings reads texts count output counts status before last now after given text said more others greatest far names_are texts_are
    given_is text_is once changed more_is others_are greatest_is =
    let within : count < length asked.files = slice_get_within asked.files count given given_is in
    let many : length reads ≡ length asked.files = reads_many asked reads names_are in
    let there : count < length reads = omega (arith, within, many) in
    let none : FileRead = record { name = []; text = None } in
    let read : FileRead = get_or reads count none in
    let split : AreRead (read ∷ drop (suc count) reads) far.middle last =
    subst (λ (rs : List FileRead). AreRead rs far.middle last) (drop-cons reads count none there) far.left in
    let name_is : read.name ≡ given.now = same_at (λ (read : FileRead). read.name) reads (map (λ (file : Bor (List ℕ)). file.now) asked.files) count none
    given.now names_are there
    (slice_get-map (λ (file : Bor (List ℕ)). file.now) asked.files count ∙ ap (option_map (λ (file : Bor (List ℕ)). file.now)) given_is) in
    let own_text : read.text ≡ text = same_at (λ (read : FileRead). read.text) reads texts count none text texts_are there text_is in
    let is : IsTextRead given.now text far.middle split.0 =
    subst (λ (name : List ℕ). IsTextRead name text far.middle split.0) name_is
    (subst (λ (t : Option (List ℕ)). IsTextRead read.name t far.middle split.0) own_text split.1) in
    let behind : suc count ≡ count + 1 = omega arith in
    let named = next_name asked.files count given given.now within
    (sym (ap (λ (file : Bor (List ℕ)). file.now) (get_or_from_slice_get asked.files count given given given_is))) in
    record {
      middle = split.0;
      left = subst (λ n. AreRead (drop n reads) split.0 last) behind split.2;
      so_far = one_searched asked settings count output counts status before (record far.middle { told = now.told })
          (record split.0 { told = after.told }) given.now said more others greatest far.so_far named
          (once (record far.middle { told = now.told }) (record split.0 { told = now.told }) refl
          (read_apart given.now text now.told far.middle split.0 is)) more_is others_are greatest_is;
      rest = changed ∙ ap (λ (at : DeskState). record at { told = after.told }) far.rest;
    }

-- all files were told of
pub all_told : (asked : Asked) (settings : Settings) (reads : List FileRead) (count : ℕ) (output : List ℕ) (counts : FileCounts) (status : ℕ)
    (before last now : DeskState) → ToldSoFar asked settings reads count output counts status before last now
    → map (λ (read : FileRead). read.name) reads ≡ map (λ file. file.now) asked.files → count ≡ length asked.files
    → SearchedSoFar asked settings count output counts status before now
all_told asked settings reads count output counts status before last now far names_are all =
    let many : length reads ≡ length asked.files = reads_many asked reads names_are in
    let none : drop count reads ≡ [] = drop_of_length-le reads {i = count} (omega (arith, many, all)) in
    let over : last ≡ far.middle = subst (λ (rs : List FileRead). AreRead rs far.middle last) none far.left in
    subst (λ (at : DeskState). SearchedSoFar asked settings count output counts status before at)
    (sym (far.rest ∙ ap (λ (at : DeskState). record at { told = now.told }) over)) far.so_far

-- memory ran out over the next file, or over what is printed of them all
pub left_so_far : (asked : Asked) (settings : Settings) (reads : List FileRead) (count : ℕ) (output : List ℕ) (counts : FileCounts) (status : ℕ)
    (before last now : DeskState) → AskSettings asked.options settings → AreSeveral asked → 1 < asked.jobs
    → map (λ (read : FileRead). read.name) reads ≡ map (λ file. file.now) asked.files
    → ToldSoFar asked settings reads count output counts status before last now → AreLeftTogether asked before now
left_so_far asked settings reads count output counts status before last now asks several jobs names_are far =
    let names : List (List ℕ) = map (λ (file : Bor (List ℕ)). file.now) asked.files in
    let many : length reads ≡ length asked.files = reads_many asked reads names_are in
    let behind : length (drop count reads) ≡ length reads - count = length-drop count reads in
    let first = far.so_far.count_is in
    record {
      several = several;
      jobs = jobs;
      founds = far.so_far.founds;
      middle = record far.middle { told = now.told };
      looks = looks_so_far asked settings count output counts status before (record far.middle { told = now.told }) asks far.so_far;
      reads = drop count reads;
      names = ap (λ (xs : List (List ℕ)). xs ++ map (λ (read : FileRead). read.name) (drop count reads)) far.so_far.names_are
          ∙ (ap (λ (xs : List (List ℕ)). take count names ++ xs) (sym (drop-map (λ (read : FileRead). read.name) count reads)
          ∙ ap (λ (xs : List (List ℕ)). drop count xs) names_are) ∙ (take-append-drop count names
          ∙ sym (all_names asked (length far.so_far.founds + length (drop count reads)) (omega (arith, many, behind, first)))));
      are_read = subst (λ (at : DeskState). AreRead (drop count reads) (record far.middle { told = now.told }) at) (sym far.rest)
          (reads_apart (drop count reads) now.told far.middle last far.left);
    }

-- of a text that was looked into nothing is told
pub found_once : (asked : Asked) (settings : Settings) (name text output : List ℕ) (verdict : FileVerdict) (said : FileSaid) (untold told : DeskState)
    → IsFoundIn asked.work settings name text output verdict
    → IsSaidOf (has_names asked) asked.work (Searched name text output verdict) said → told ≡ untold
    → IsSaidOnce asked settings name (Some text) said untold told
found_once asked settings name text output verdict said untold told is_found is same = λ before after as_much read. record {
  found = Searched name text output verdict;
  file_is = refl;
  is_found = is_found;
  said_is = is;
  looked_into = ap (λ (at : DeskState). record at { told = told.told }) read
      ∙ ap (λ (t : Option (List Complaint)). record (once_given name text before) { told = t })
      (ap (λ (at : DeskState). at.told) same ∙ sym as_much);
}

-- of one that has no output it is told why
pub refused_once : (asked : Asked) (settings : Settings) (name text : List ℕ) (error : EngineError) (said : FileSaid) (untold told : DeskState)
    → IsRefused text settings error → IsRefusedFor asked.work name error said untold told
    → IsSaidOnce asked settings name (Some text) said untold told
refused_once asked settings name text error said untold told refused is = λ before after as_much read.
    let complaint : Complaint = complaints.Failure (failure.Engine error) in record {
      found = Refused name text error;
      file_is = refl;
      is_found = (refused, λ no. is.some (is.status_is ∙ no));
      said_is = record { text_is = is.text_is; verdict_is = is.verdict_is; status_is = is.status_is };
      looked_into = ap (λ (at : DeskState). record at { told = told.told }) read
          ∙ ap (λ (t : Option (List Complaint)). record (once_given name text before) { told = t })
          (ap (λ (at : DeskState). at.told) is.told ∙ ap (λ (t : Option (List Complaint)). heard t complaint) (sym as_much));
    }

-- that a file can't be read is told
pub lost_once : (asked : Asked) (settings : Settings) (name : List ℕ) (said : FileSaid) (untold told : DeskState)
    → IsLostOf asked name said untold told → IsSaidOnce asked settings name None said untold told
lost_once asked settings name said untold told is = λ before after as_much read. record {
  found = PassedOver (Lost name);
  file_is = refl;
  is_found = (tt, refl);
  said_is = record { text_is = is.text_is; verdict_is = is.verdict_is; status_is = is.status_is };
  looked_into = (
    tt,
    (
      ap (λ (at : DeskState). record at { told = told.told }) read.0,
      (
        read.1,
        subst (λ (t : Option (List Complaint)). IsToldOf (files_of asked) (Lost name) t told.told) (sym as_much) is.is_told,
      ),
    ),
  );
}

several_files : (asked : Asked) → AreSeveral asked → (files_of asked).several ≡ true
several_files asked several = search (rules, several)

-- of one that isn't read as a program it is told as `check` tells it
pub unread_once : (asked : Asked) (settings : Settings) (name text : List ℕ) (unread : UnreadText) (said : FileSaid) (untold told : DeskState)
    → AreSeveral asked → IsUnread asked settings name text unread
    → ((check : Check) → IsMadeOf (files_of asked) name check unread.comes
    → IsToldOf (files_of asked) (Gave name text check) untold.told told.told)
    → said.text.items ≡ unsearched_text asked.work name unread.status unread.why → said.verdict ≡ None → said.status ≡ unread.status
    → IsSaidOnce asked settings name (Some text) said untold told
unread_once asked settings name text unread said untold told several is tells text_is verdict_is status_is = λ before after as_much read.
    unread_said asked settings name text is.check unread.status unread.why said before after (record after { told = told.told })
    (several_files asked several) is.is_check is.why_is read refl
    (subst (λ (t : Option (List Complaint)). IsToldOf (files_of asked) (Gave name text is.check) t told.told)
    (sym (ap (λ (at : DeskState). at.told) read ∙ as_much)) (tells is.check is.made)) text_is verdict_is status_is

-- one file more is told of, whatever it is read as
pub file_told : (asked : Asked) (settings : Settings) (reads : List FileRead) (texts : List (Option (Vec ℕ Global))) (count : ℕ) (output : List ℕ)
    (counts : FileCounts) (status : ℕ) (before last now after : DeskState) (said : FileSaid) (more : List ℕ) (others : FileCounts) (greatest : ℕ)
    → ToldSoFar asked settings reads count output counts status before last now
    → map (λ (read : FileRead). read.name) reads ≡ map (λ file. file.now) asked.files
    → map (λ (read : FileRead). read.text) reads ≡ texts_of texts → count < length texts → length texts ≡ length asked.files
    → ((given : Bor (List ℕ)) (text : Option (List ℕ)) → slice_get asked.files count ≡ Some given → slice_get (texts_of texts) count ≡ Some text
    → IsSaidOnce asked settings given.now text said now after)
    → after ≡ record now { told = after.told } → more ≡ output ++ said.text.items → others ≡ counted counts said.verdict
    → greatest ≡ worse asked.work status said.status → ToldSoFar asked settings reads (count + 1) more others greatest before last after
file_told asked settings reads texts count output counts status before last now after said more others greatest far names_are texts_are there many
    once changed more_is others_are greatest_is =
    let none : Bor (List ℕ) = record { ref_ptr = (0, 0); now = [] } in
    let own : count < length (texts_of texts) = let n = length-map texts text_of in omega (arith, there, n) in
    let given_is = slice_get-get_or asked.files count none (omega (arith, there, many)) in
    let text_is = slice_get-get_or (texts_of texts) count None own in
    one_told asked settings reads (texts_of texts) count output counts status before last now after (get_or asked.files count none)
    (get_or (texts_of texts) count None) said more others greatest far names_are texts_are given_is text_is
    (once (get_or asked.files count none) (get_or (texts_of texts) count None) given_is text_is) changed more_is others_are greatest_is

-- the text that a file gave stands at its place
text_there : (texts : List (Option (Vec ℕ Global))) (at : ℕ) (given : Option (Vec ℕ Global)) → at < length texts → given ≡ get_or texts at given
    → slice_get (texts_of texts) at ≡ Some (text_of given)
text_there texts at given there is =
    slice_get-map text_of texts at ∙ ap (option_map text_of) (slice_get_read texts (length texts) at given refl there is)

pub text_at : (texts : List (Option (Vec ℕ Global))) (at : ℕ) (given : Option (Vec ℕ Global)) (text : Option (List ℕ)) → at < length texts
    → given ≡ get_or texts at given → slice_get (texts_of texts) at ≡ Some text → text_of given ≡ text
text_at texts at given text there is text_is =
    sym (get_or_from_slice_get (texts_of texts) at (text_of given) None (text_there texts at given there is))
    ∙ get_or_from_slice_get (texts_of texts) at text None text_is

-- what comes of a text is so of the file at its place
pub end_there : (asked : Asked) (settings : Settings) (texts : List (Option (Vec ℕ Global))) (at : ℕ) (none : Bor (List ℕ))
    (given : Option (Vec ℕ Global)) (text : Vec ℕ Global) (end : TextEnd) → at < length texts → length texts ≡ length asked.files
    → given ≡ get_or texts at given → given ≡ Some text → IsEndOfText asked settings (get_or asked.files at none).now text.items end
    → IsEndAt asked settings (texts_of texts) (record { at = at; end = end })
end_there asked settings texts at none given text end there many is some is_end = record {
  name = get_or asked.files at none;
  name_is = slice_get-get_or asked.files at none (omega (arith, there, many));
  text = text.items;
  text_is = text_there texts at given there is ∙ ap (λ (given : Option (Vec ℕ Global)). Some (text_of given)) some;
  is_end = is_end;
}

pub more_ends : (asked : Asked) (settings : Settings) (texts : List (Option (List ℕ))) (ends others : List NumberedEnd) (one : NumberedEnd)
    → AreEndsOf asked settings texts ends → IsEndAt asked settings texts one → others ≡ ends ++ one ∷ []
    → AreEndsOf asked settings texts others
more_ends asked settings texts ends others one are is others_are =
    let P : NumberedEnd → Type 0 = IsEndAt asked settings texts in
    subst (λ (all : List NumberedEnd). All P all) (sym others_are) (All-append P ends (one ∷ []) are (All-cons P one [] is (All-nil P)))

-- where a name and a text stand at its place, what comes of the file there is so of these
text_in : Option (List ℕ) → List ℕ
text_in None = []
text_in (Some text) = text

pub end_as_given : (asked : Asked) (settings : Settings) (texts : List (Option (List ℕ))) (at : ℕ) (end : TextEnd) (given : Bor (List ℕ))
    (name text : List ℕ) → IsEndAt asked settings texts (record { at = at; end = end }) → slice_get asked.files at ≡ Some given
    → given.now ≡ name → slice_get texts at ≡ Some (Some text) → IsEndOfText asked settings name text end
unfolding text_in
end_as_given asked settings texts at end given name text is given_is name_is text_is =
    let none : Bor (List ℕ) = record { ref_ptr = (0, 0); now = [] } in
    let same : is.name ≡ given =
    sym (get_or_from_slice_get asked.files at is.name none is.name_is) ∙ get_or_from_slice_get asked.files at given none given_is in
    let some : Some is.text ≡ Some text =
    sym (get_or_from_slice_get texts at (Some is.text) None is.text_is) ∙ get_or_from_slice_get texts at (Some text) None text_is in
    let own : is.text ≡ text = ap text_in some in
    subst (λ (n : List ℕ). IsEndOfText asked settings n text end) (ap (λ (file : Bor (List ℕ)). file.now) same ∙ name_is)
    (subst (λ (t : List ℕ). IsEndOfText asked settings is.name.now t end) own is.is_end)
