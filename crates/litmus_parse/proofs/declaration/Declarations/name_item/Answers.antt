-- One entry is changed, where the variable is.
use Rattle.std.proofs.Common.{rules, ◌≡◌, ap, refl, subst, List, ℕ, Some, None}
use Rattle.std.proofs.lemmas.Option.{slice_get_past, slice_get_read}
use Rattle.std.specs.Borrow.{Bor}
use Rattle.std.specs.Prelude.{slice_get}
use Rattle.litmus_parse.specs.declared.declaration.Declared.{Declared}
use Rattle.litmus_lex.specs.declared.cursor.Refusal.TheVariants.{OutOfMemory}
use Rattle.litmus_parse.specs.Entries.{changed, named_item, table_of}
use Rattle.litmus_parse.proofs.Table.{absent, names_stay, put, refused}
use Rattle.litmus_parse.proofs.declaration.Declarations.name_item.Goals as goal

pub returns-in-None-clause-table : goal.returns-in-None-clause-table
returns-in-None-clause-table c =
    let past = slice_get_past c.deref.result.now c.args.number c.in-None.ensures.lookup.3 in
    let nowhere = subst (λ (ds : List Declared). slice_get ds c.args.number ≡ None) c.deref.ensures.value past in
    absent (named_item c.args.variable_type) c.args.self.now.variables.items c.args.number nowhere

pub returns-in_err-name_item-clause-table : goal.returns-in_err-name_item-clause-table
returns-in_err-name_item-clause-table c =
    let read = slice_get_read c.deref.result.now _ c.args.number c.in-Some.declared.now refl c.in-Some.ensures.lookup.3.0
    (c.in-Some.ensures.lookup.3.1 c.in-Some.declared.now) in
    let there = subst (λ (ds : List Declared). slice_get ds c.args.number ≡ Some c.in-Some.declared.now) c.deref.ensures.value read in
    let none : (c.in_err-name_item.field-0.0 ≡ OutOfMemory → ⊥) → changed (named_item c.args.variable_type)
    (table_of c.args.self.now) c.args.number
    ≡ None = λ memory. refused (named_item c.args.variable_type) c.args.self.now.variables.items c.args.number c.in-Some.declared.now there
    (c.in_err-name_item.ensures.names memory) in
    search (none, rules)

pub returns-clause-table : goal.returns-clause-table
returns-clause-table c =
    let read = slice_get_read c.deref.result.now _ c.args.number c.in-Some.declared.now refl c.in-Some.ensures.lookup.3.0
    (c.in-Some.ensures.lookup.3.1 c.in-Some.declared.now) in
    let there = subst (λ (ds : List Declared). slice_get ds c.args.number ≡ Some c.in-Some.declared.now) c.deref.ensures.value read in
    put (named_item c.args.variable_type) c.args.self.now.variables.items c.args.number c.in-Some.declared.now c.name_item.new.self there
    c.in_ok-name_item.ensures.names

pub returns-clause-names : goal.returns-clause-names
returns-clause-names c =
    let read = slice_get_read c.deref.result.now _ c.args.number c.in-Some.declared.now refl c.in-Some.ensures.lookup.3.0
    (c.in-Some.ensures.lookup.3.1 c.in-Some.declared.now) in
    let there = subst (λ (ds : List Declared). slice_get ds c.args.number ≡ Some c.in-Some.declared.now) c.deref.ensures.value read in
    names_stay c.args.self.now.variables.items c.args.number c.in-Some.declared.now c.name_item.new.self there
    (ap (λ (b : Bor (List ℕ)). b.now) c.name_item.ensures.stays)
