-- One entry is changed, where the variable is.
use Rattle.std.proofs.Common.{◌≡◌, ap, refl, sym, subst, List, ℕ, Some, None}
use Rattle.std.proofs.lemmas.Option.{slice_get_past, slice_get_read}
use Rattle.std.specs.Borrow.{Bor}
use Rattle.std.specs.Prelude.{slice_get}
use Rattle.litmus_parse.specs.declared.declaration.Declared.{Declared}
use Rattle.litmus_parse.specs.Entries.{Entry, valued}
use Rattle.litmus_parse.proofs.Table.{absent, names_stay, put}
use Rattle.litmus_parse.proofs.declaration.Declarations.give.Goals as goal

pub returns-in-None-clause-table : goal.returns-in-None-clause-table
returns-in-None-clause-table c =
    let past = slice_get_past c.deref.result.now c.args.number c.in-None.ensures.lookup.3 in
    let nowhere = subst (λ (ds : List Declared). slice_get ds c.args.number ≡ None) c.deref.ensures.value past in
    absent (valued c.args.value c.args.is_typed) c.args.self.now.variables.items c.args.number nowhere

pub returns-clause-table : goal.returns-clause-table
returns-clause-table c =
    let read = slice_get_read c.deref.result.now _ c.args.number c.in-Some.declared.now refl c.in-Some.ensures.lookup.3.0
    (c.in-Some.ensures.lookup.3.1 c.in-Some.declared.now) in
    let there = subst (λ (ds : List Declared). slice_get ds c.args.number ≡ Some c.in-Some.declared.now) c.deref.ensures.value read in
    put (valued c.args.value c.args.is_typed) c.args.self.now.variables.items c.args.number c.in-Some.declared.now c.give.new.self there
    (ap (λ (e : Entry). Some e) (sym c.give.ensures.gives))

pub returns-clause-names : goal.returns-clause-names
returns-clause-names c =
    let read = slice_get_read c.deref.result.now _ c.args.number c.in-Some.declared.now refl c.in-Some.ensures.lookup.3.0
    (c.in-Some.ensures.lookup.3.1 c.in-Some.declared.now) in
    let there = subst (λ (ds : List Declared). slice_get ds c.args.number ≡ Some c.in-Some.declared.now) c.deref.ensures.value read in
    names_stay c.args.self.now.variables.items c.args.number c.in-Some.declared.now c.give.new.self there
    (ap (λ (b : Bor (List ℕ)). b.now) c.give.ensures.stays)
