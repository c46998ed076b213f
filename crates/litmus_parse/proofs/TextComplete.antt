-- What spells a program behind a head is read as that program.
use Rattle.std.proofs.Common.{◌≡◌, ◌∙◌, ◌++◌, ℕ, List, [], ◌∷◌, Bool, false, cond, get_or, Option, Some, None, map, refl, sym, ap, subst}
use Rattle.std.specs.Prelude.{Contains, flat_map, slice_get}
use Rattle.litmus_syntax.specs.Tree as tree
use Rattle.litmus_syntax.specs.declared.program.Variable.{Variable}
use Rattle.litmus_syntax.specs.declared.proposition.Quantifier.{Quantifier}
use Rattle.litmus_lex.specs.declared.words.VariableType.{VariableType}
use Rattle.litmus_lex.specs.Front.{◌>>=◌}
use Rattle.litmus_lex.specs.Words.{Symbol}
use Rattle.litmus_expression.specs.NameReader.{index_of}
use Rattle.litmus_expression.specs.Names.{Names}
use Rattle.litmus_expression.specs.States.{State}
use Rattle.litmus_expression.proofs.Named as Named
use Rattle.litmus_expression.proofs.Named.{found_at, in_none, in_rest}
use Rattle.litmus_parse.specs.Conditions.{IsKnown}
use Rattle.litmus_parse.specs.Distinct.{body_of}
use Rattle.litmus_parse.specs.Entries.{Entry, fresh}
use Rattle.litmus_parse.specs.ItemReader.{Heading}
use Rattle.litmus_parse.specs.Mentions.{HasType, Mention}
use Rattle.litmus_parse.specs.Seen.{seen}
use Rattle.litmus_parse.specs.PropositionReader.{whole_at}
use Rattle.litmus_parse.specs.Variables.{locks_in, variables_in}
use Rattle.litmus_parse.specs.Mentioned.{all_told}
use Rattle.litmus_parse.specs.Typed.{AreTyped}
use Rattle.litmus_parse.specs.VariableReader.{is_lock_type}
use Rattle.litmus_parse.proofs.Declared.{Ends, EndsAt, no_contradiction, one_type, variables_are}
use Rattle.litmus_parse.proofs.Fits.{Fit, Fits, fits_at_first, no_lock_type}
use Rattle.litmus_parse.proofs.ItemsComplete.{BlockGoes, block_goes, heading}
use Rattle.litmus_parse.proofs.Known as known
use Rattle.litmus_parse.proofs.PropositionComplete.{whole_complete}
use Rattle.litmus_parse.proofs.Quantifiers.{quantifier_read}
use Rattle.litmus_parse.proofs.Tidy.{entry_at, entry_in}
use Rattle.litmus_parse.specs.Grammar.{Grammar, mentions_of, said_by, task_of}
use Rattle.litmus_parse.specs.Headers.{Process}
use Rattle.litmus_parse.specs.ProcessReader.{Course, processes_at, unbegun}
use Rattle.litmus_parse.specs.TextReader.{condition_at, ended, program_at}
use Rattle.litmus_parse.proofs.Numbered.{all_typed, is_said, numbered_both, processes_numbered, stands, type_of}
use Rattle.litmus_parse.proofs.Processes.{told_both}
use Rattle.litmus_parse.proofs.ProcessesComplete.{ProcessesGo, processes_complete, quantifier_is_no_process}
use Rattle.litmus_parse.proofs.Texts.{items_are, locks_at, parameters_are, unknown}

-- ---- mentions that are among others

in_left : (one two : List Mention) (m : Mention) → Contains one m → Contains (one ++ two) m
in_left [] two m there = absurd (in_none m there)
in_left (x ∷ one) two m there = Named.among x m one (Contains (x ∷ (one ++ two)) m) there
    (λ same. subst (λ (y : Mention). Contains (x ∷ (one ++ two)) y) same (Named.in_front x (one ++ two)))
    (λ rest. in_rest x m (one ++ two) (in_left one two m rest))

in_right : (one two : List Mention) (m : Mention) → Contains two m → Contains (one ++ two) m
in_right [] two m there = there
in_right (x ∷ one) two m there = in_rest x m (one ++ two) (in_right one two m there)

-- ---- what is known in the end

module _ (all : List Mention) (names : Names) (table : List Entry) (fits : Fits all names table) where
  -- the entry of a name at its number
  entry_of_name : (k : ℕ) (name : List ℕ) → slice_get names k ≡ Some name → entry_in names table name ≡ get_or table k fresh
  entry_of_name k name there = ap (λ (o : Option ℕ). entry_at table o) (found_at names name k fits.tidy.differ there)

  fit_at : (k : ℕ) (name : List ℕ) (t : VariableType) → slice_get names k ≡ Some name → HasType all name t → Fit t (get_or table k fresh)
  fit_at k name t there has = subst (λ (e : Entry). Fit t e) (entry_of_name k name there) (fits.fit name t has)

  no_lock_of : (o : Option VariableType) (t : VariableType) → ((u : VariableType) → o ≡ Some u → u ≡ t) → is_lock_type (Some t) ≡ false
      → is_lock_type o ≡ false
  no_lock_of None t only free = refl
  no_lock_of (Some u) t only free = ap (λ (v : VariableType). is_lock_type (Some v)) (only u refl) ∙ free

  -- a variable that the condition may name is no lock to the reader
  pub is_open : (name : List ℕ) (v : ℕ) → IsKnown all names name v → (index_of names name ≡ Some v) × (get_or (locks_in table) v false ≡ false)
  is_open name v k = (
    found_at names name v fits.tidy.differ k.stands,
    locks_at table v
        ∙ no_lock_of (get_or table v fresh).type k.type (fit_at v name k.type k.stands k.typed).type (no_lock_type k.type k.no_lock),
  )

-- ---- the whole

module _ (name : List ℕ) (symbols : List Symbol) (program : tree.Program) (g : Grammar symbols program) where
  abbrev all : List Mention
  all = said_by g.items g.processes

  typed : AreTyped all all
  typed = all_typed (numbered_both g.numbered (processes_numbered g.bodies)) g.declared

  items_typed : AreTyped all g.items
  items_typed m there = typed m (in_left g.items (flat_map mentions_of g.processes) m there)

  parameters_typed : AreTyped all (flat_map mentions_of g.processes)
  parameters_typed m there = typed m (in_right g.items (flat_map mentions_of g.processes) m there)

  block : BlockGoes all g.after_brace g.items g.after_items g.item_names
  block = block_goes all g.after_brace g.after_items g.items g.item_names g.initialization g.numbered (fits_at_first all) items_typed

  abbrev begun : Heading
  begun = heading g.after_items g.item_names block.behind.table

  go : ProcessesGo all (unbegun begun) g.processes g.after_processes g.names
  go = processes_complete all (unbegun begun) g.processes g.after_processes g.names g.bodies block.behind.fits parameters_typed
      (quantifier_is_no_process g.after_processes g.after_quantifier program.quantifier g.quantifier)

  abbrev table : List Entry
  table = go.behind.table

  course : Course
  course = record {
    heading = heading g.after_processes g.names table;
    states = go.states;
    bodies = map body_of g.processes;
  }

  told : (nm : List ℕ) → all_told all nm fresh ≡ Some (entry_in g.names table nm)
  told nm =
      told_both g.items (flat_map mentions_of g.processes) nm fresh (entry_in g.item_names block.behind.table nm) (entry_in g.names table nm)
      (subst (λ (e : Entry). all_told g.items nm e ≡ Some (entry_in g.item_names block.behind.table nm)) (unknown nm) (block.behind.said.tells nm))
      (go.behind.said.tells nm)

  told_at : (k : ℕ) (nm : List ℕ) → slice_get g.names k ≡ Some nm → all_told all nm fresh ≡ Some (get_or table k fresh)
  told_at k nm there = told nm ∙ ap (λ (e : Entry). Some e) (entry_of_name all g.names table go.behind.fits k nm there)

  ends_at : EndsAt all g.names table
  ends_at k nm there =
      let is_name : Contains g.names nm = stands g.names k nm there in
      let has = type_of g.declared nm is_name in
      let e = get_or table k fresh in
      let peace = one_type all nm e (told_at k nm there) has.0 has.1 (fit_at all g.names table go.behind.fits k nm has.0 there has.1) in
      is_said (numbered_both g.numbered (processes_numbered g.bodies)) nm (Ends all nm e) is_name
      (λ never. absurd (in_none nm never))
      (λ s says. record {
        ended = known.ended g.items (flat_map mentions_of g.processes) nm e (items_are g.initialization) (parameters_are g.processes)
            (told_at k nm there);
        peace = peace;
        said = s;
        says = says;
      })

  asked : (after : List State) × (whole_at g.names (locks_in table) g.after_quantifier go.states ≡ Some (program.condition, after))
      × (seen after (map body_of g.processes) ≡ g.later)
  asked = whole_complete all g.names (locks_in table) g.after_quantifier g.processes g.later go.states (map body_of g.processes) program.condition
      g.condition go.are go.apart (is_open all g.names table go.behind.fits) g.operators

  -- what is put together
  abbrev made : List Variable → List tree.Task → tree.Program
  made variables tasks = record {
    name = name;
    variables = variables;
    tasks = tasks;
    quantifier = program.quantifier;
    condition = program.condition;
  }

  ends : ended name course program.quantifier (program.condition, asked.0) ≡ Some (made program.variables program.tasks)
  unfolding course
  ends =
      let sized = go.behind.fits.tidy.sized in
      ap (λ (b : Bool). cond b None (Some (made (variables_in g.names table) (map task_of (seen asked.0 (map body_of g.processes))))))
      (no_contradiction all g.names table sized ends_at)
      ∙ ap (λ (l : List Process). Some (made (variables_in g.names table) (map task_of l))) asked.2
      ∙ ap (λ (l : List tree.Task). Some (made (variables_in g.names table) l)) (sym g.tasks)
      ∙ ap (λ (l : List Variable). Some (made l program.tasks)) (variables_are all g.declared table sized ends_at)

  conditioned : condition_at name course ≡ Some (made program.variables program.tasks)
  unfolding course
  conditioned =
      ap (λ (o : Option (Quantifier × List Symbol)). o >>= λ q. whole_at g.names (locks_in table) q.1 go.states >>= λ x. ended name course q.0 x)
      (quantifier_read g.quantifier)
      ∙ ap (λ (o : Option (tree.Proposition × List State)). o >>= λ x. ended name course program.quantifier x) asked.1
      ∙ ends

  pub reads : program_at name symbols ≡ Some (made program.variables program.tasks)
  unfolding program_at course
  reads =
      ap (λ (l : List Symbol). program_at name l) g.begins
      ∙ ap (λ (o : Option Heading). o >>= λ h. processes_at (unbegun h) >>= λ c. condition_at name c) block.reads
      ∙ ap (λ (o : Option Course). o >>= λ c. condition_at name c) go.reads
      ∙ conditioned

pub text_complete : (symbols : List Symbol) (program : tree.Program) → Grammar symbols program → program_at program.name symbols ≡ Some program
text_complete symbols program g = reads program.name symbols program g
