-- What is read as a text behind its head is spelled so.
use Rattle.std.proofs.Common.{◌≡◌, ◌∙◌, ◌++◌, ℕ, zero, suc, List, [], ◌∷◌, Bool, true, false, cond, get_or, Option, Some, length, map, refl}
use Rattle.std.proofs.Common.{sym, ap, subst, arith}
use Rattle.std.specs.Prelude.{flat_map, slice_get, unwrap_or}
use Rattle.litmus_syntax.specs.Tree as tree
use Rattle.litmus_syntax.specs.declared.proposition.Quantifier.{Quantifier}
use Rattle.litmus_lex.specs.declared.words.VariableType.{VariableType}
use Rattle.litmus_lex.specs.declared.words.VariableType.TheVariants.{Int}
use Rattle.litmus_lex.specs.Front.{◌>>=◌}
use Rattle.litmus_lex.specs.Words.{Symbol}
use Rattle.litmus_expression.specs.Names.{Names, Parameter}
use Rattle.litmus_expression.specs.States.{State}
use Rattle.litmus_expression.proofs.Fewer.{at_last, behind_it, unless_it}
use Rattle.litmus_expression.proofs.Named.{found_at, in_none, nowhere}
use Rattle.litmus_parse.specs.ConditionReader.{quantifier_at}
use Rattle.litmus_parse.specs.Conditions.{Disjoined, IsKnown}
use Rattle.litmus_parse.specs.Entries.{Entry, fresh, has_two_types}
use Rattle.litmus_parse.specs.ItemReader.{Heading, initialization_at, unnamed}
use Rattle.litmus_parse.specs.Mentions as mentions
use Rattle.litmus_parse.specs.Mentions.{AreDeclared, AreNumbered, Mention, contents_of}
use Rattle.litmus_parse.specs.Seen.{seen}
use Rattle.litmus_parse.specs.PropositionReader.{whole_at}
use Rattle.litmus_parse.specs.Variables.{has_contradiction, is_lock_entry, locks_in, variable_in, variables_in}
use Rattle.litmus_parse.specs.Mentioned.{all_told}
use Rattle.litmus_parse.specs.VariableReader.{is_lock_type}
use Rattle.litmus_parse.proofs.Known as known
use Rattle.litmus_parse.proofs.Known.{AreItems, AreParameters, has_type, lock_is, not_both, value_is}
use Rattle.litmus_parse.proofs.PropositionSound.{AllFew, whole_reads}
use Rattle.litmus_parse.proofs.Quantifiers.{quantifier_spelled}
use Rattle.litmus_parse.proofs.Spelled.{ReadsBlock, initialization_read}
use Rattle.litmus_parse.proofs.Tidy.{Tidy, entry_at, entry_in}
use Rattle.litmus_parse.specs.Grammar.{Grammar, mentions_of, said_by, task_of}
use Rattle.litmus_parse.specs.Headers as headers
use Rattle.litmus_parse.specs.Headers.{Item, Items, Process, Processes, mention_of}
use Rattle.litmus_parse.specs.ProcessReader.{Course, processes_at, unbegun}
use Rattle.litmus_parse.specs.TextReader.{condition_at, ended, program_at}
use Rattle.litmus_parse.proofs.Processes.{Pair, Reads, SomeProcesses, proc, processes_read, seen_is, state, told_both}

-- ---- what items and parameters say

item_is : {symbols rest : List Symbol} {m : Mention} → Item symbols m rest → known.IsItem m.said
item_is headers.bare = tt
item_is (headers.given v) = tt
item_is headers.typed = tt
item_is (headers.typed_given v) = tt

pub items_are : {symbols rest : List Symbol} {items : List Mention} → Items symbols items rest → AreItems items
items_are headers.none = tt
items_are (headers.last i) = (item_is i, tt)
items_are (headers.more i later) = (item_is i, items_are later)

more_parameters : (ps : List Parameter) (later : List Mention) → AreParameters later → AreParameters (map mention_of ps ++ later)
more_parameters [] later are = are
more_parameters (p ∷ ps) later are = (tt, more_parameters ps later are)

pub parameters_are : (ps : List Process) → AreParameters (flat_map mentions_of ps)
parameters_are [] = tt
parameters_are (p ∷ ps) = more_parameters p.parameters (flat_map mentions_of ps) (parameters_are ps)

-- ---- each name with its entry

first_false : (b c : Bool) → cond b true c ≡ false → b ≡ false
first_false true c e = e
first_false false c e = refl

rest_false : (b c : Bool) → cond b true c ≡ false → c ≡ false
rest_false true c e = absurd cc
rest_false false c e = e

peace_at : (table : List Entry) (n : ℕ) → has_contradiction table ≡ false → has_two_types (get_or table n fresh) ≡ false
peace_at [] n peace = refl
peace_at (e ∷ table) zero peace = first_false (has_two_types e) (has_contradiction table) peace
peace_at (e ∷ table) (suc n) peace = peace_at table n (rest_false (has_two_types e) (has_contradiction table) peace)

pub locks_at : (table : List Entry) (n : ℕ) → get_or (locks_in table) n false ≡ is_lock_entry (get_or table n fresh)
locks_at [] n = refl
locks_at (e ∷ table) zero = refl
locks_at (e ∷ table) (suc n) = locks_at table n

module _ (items : List Mention) (processes : List Process) (are : AreItems items) where
  abbrev said : List Mention
  said = said_by items processes

  -- what the mentions say of a name, in all
  abbrev Known : List ℕ → Entry → Type 0
  Known name e = all_told said name fresh ≡ Some e

  ended_at : (name : List ℕ) (e : Entry) → Known name e → known.Ended said name e
  ended_at name e is = known.ended items (flat_map mentions_of processes) name e are (parameters_are processes) is

  declared_as : (name : List ℕ) (e : Entry) → Known name e → has_two_types e ≡ false → mentions.IsDeclared said name (variable_in name e)
  declared_as name e is peace = record {
    type = unwrap_or e.type Int;
    name_is = refl;
    typed = has_type said name e (ended_at name e is) peace;
    contents = ap (contents_of (unwrap_or e.type Int)) (sym (value_is said name e (ended_at name e is) peace));
  }

  all_declared : (names : Names) (table : List Entry) → length table ≡ length names → has_contradiction table ≡ false
      → ((k : ℕ) (name : List ℕ) → slice_get names k ≡ Some name → Known name (get_or table k fresh))
      → AreDeclared said names (variables_in names table)
  all_declared [] table sized peace is = mentions.none
  all_declared (name ∷ names) [] sized peace is = absurd (omega arith)
  all_declared (name ∷ names) (e ∷ table) sized peace is =
      mentions.more (declared_as name e (is zero name refl) (first_false (has_two_types e) (has_contradiction table) peace))
      (all_declared names table (omega arith) (rest_false (has_two_types e) (has_contradiction table) peace)
      (λ k other there. is (suc k) other there))

  is_known : (names : Names) (table : List Entry) → has_contradiction table ≡ false
      → ((k : ℕ) (name : List ℕ) → slice_get names k ≡ Some name → Known name (get_or table k fresh))
      → (v : ℕ) (name : List ℕ) → slice_get names v ≡ Some name → get_or (locks_in table) v false ≡ false → IsKnown said names name v
  is_known names table peace is v name there no_lock =
      let e = get_or table v fresh in
      record {
        type = unwrap_or e.type Int;
        stands = there;
        typed = has_type said name e (ended_at name e (is v name there)) (peace_at table v peace);
        no_lock = λ lock. not_both (is_lock_entry e) (ap (λ (o : Option VariableType). is_lock_type o) (lock_is e.type lock))
            (sym (locks_at table v) ∙ no_lock);
      }

-- ---- the whole

some_processes : (c d : Course) (later : List Pair) → (later ≡ [] → ⊥) → SomeProcesses c later d
    → Processes (length c.states) c.heading.names c.heading.symbols (map proc later) d.heading.symbols d.heading.names
some_processes c d [] some spelled = absurd (some refl)
some_processes c d (x ∷ later) some spelled = spelled

tidy_at_first : Tidy [] []
tidy_at_first = record { differ = tt; few = omega arith; sized = refl }

-- what is known of a name before all mentions
pub unknown : (name : List ℕ) → entry_in [] [] name ≡ fresh
unknown name = ap (λ (o : Option ℕ). entry_at [] o) (nowhere [] name (in_none name))

module _ (name : List ℕ) (symbols : List Symbol) (h : Heading) (b : ReadsBlock (unnamed symbols) h) (c : Course) (later : List Pair)
    (r : Reads (unbegun h) later c) where
  abbrev processes : List Process
  processes = map proc later

  abbrev names : Names
  names = c.heading.names

  abbrev table : List Entry
  table = c.heading.table

  told_in_all : (nm : List ℕ) → all_told (said_by b.items.mentions processes) nm fresh ≡ Some (entry_in names table nm)
  told_in_all nm =
      told_both b.items.mentions (flat_map mentions_of processes) nm fresh (entry_in h.names h.table nm) (entry_in names table nm)
      (subst (λ (e : Entry). all_told b.items.mentions nm e ≡ Some (entry_in h.names h.table nm)) (unknown nm) (b.items.said.tells nm))
      (r.said.tells nm)

  told_at : (k : ℕ) (nm : List ℕ) → slice_get names k ≡ Some nm → all_told (said_by b.items.mentions processes) nm fresh
      ≡ Some (get_or table k fresh)
  told_at k nm there =
      told_in_all nm ∙ ap (λ (o : Option ℕ). Some (entry_at table o)) (found_at names nm k r.said.tidy.differ there)

  course_seen : seen c.states c.bodies ≡ processes
  course_seen =
      ap (λ (l : List State). seen l c.bodies) r.states ∙ ap (λ (l : List tree.Block). seen (map state later) l) r.bodies ∙ seen_is later

  text_spelled : (q : Quantifier × List Symbol) (x : tree.Proposition × List State) → quantifier_at c.heading.symbols ≡ Some q
      → has_contradiction table ≡ false
      → whole_at names (locks_in table) q.1 c.states ≡ Some x
      → Grammar symbols (record {
        name = name;
        variables = variables_in names table;
        tasks = map task_of (seen x.1 c.bodies);
        quantifier = q.0;
        condition = x.0;
      })
  text_spelled q x quantified peace asked =
      let are = items_are b.items.spelled in
      let few = subst (λ (l : List State). AllFew l) (sym r.states) r.few in
      let w = whole_reads (said_by b.items.mentions processes) names (locks_in table) c.bodies
      (is_known b.items.mentions processes are names table peace told_at) q.1 c.states x few asked in
      record {
        items = b.items.mentions;
        item_names = h.names;
        names = names;
        processes = processes;
        later = seen x.1 c.bodies;
        after_brace = b.inside;
        after_items = h.symbols;
        after_processes = c.heading.symbols;
        after_quantifier = q.1;
        begins = b.opens;
        initialization = b.items.spelled;
        numbered = b.items.numbered;
        bodies = some_processes (unbegun h) c later (r.some refl) r.spelled;
        quantifier = quantifier_spelled c.heading.symbols q quantified;
        condition = subst (λ (ps : List Process). Disjoined (said_by b.items.mentions processes) names 0 ps q.1 x.0 []
            (seen x.1 c.bodies)) course_seen w.spelled;
        operators = w.counted;
        declared = all_declared b.items.mentions processes are names table r.said.tidy.sized peace told_at;
        tasks = refl;
      }

abbrev Spelled : List ℕ → List Symbol → tree.Program → Type 0
Spelled name symbols p = (p.name ≡ name) × Grammar symbols p

pub text_read : (name : List ℕ) (symbols : List Symbol) (p : tree.Program) → program_at name symbols ≡ Some p → Spelled name symbols p
unfolding program_at
text_read name symbols p e =
    behind_it (initialization_at (unnamed symbols)) (λ h. processes_at (unbegun h) >>= λ c. condition_at name c) (Spelled name symbols) p e
    (λ h begins e.
    behind_it (processes_at (unbegun h)) (λ c. condition_at name c) (Spelled name symbols) p e (λ c follows e.
    behind_it (quantifier_at c.heading.symbols) (λ q. whole_at c.heading.names
    (locks_in c.heading.table) q.1 c.states >>= λ x. ended name c q.0 x)
    (Spelled name symbols) p e (λ q quantified e.
    behind_it (whole_at c.heading.names (locks_in c.heading.table) q.1 c.states) (λ x. ended name c q.0 x) (Spelled name symbols) p e
    (λ x asked e.
    unless_it (has_contradiction c.heading.table) (Some (record {
      name = name;
      variables = variables_in c.heading.names c.heading.table;
      tasks = map task_of (seen x.1 c.bodies);
      quantifier = q.0;
      condition = x.0;
    })) (Spelled name symbols) p e (λ peace e.
    at_last _ (Spelled name symbols) p e
    (let b = initialization_read (unnamed symbols) h tidy_at_first begins in
    let f = processes_read (unbegun h) c b.items.said.tidy (omega arith) follows in
    (refl, text_spelled name symbols h b c f.later f.reads q x quantified peace asked)))))))
