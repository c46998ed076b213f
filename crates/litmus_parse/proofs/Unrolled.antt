-- Readers of lists are given by their parts, and each part takes symbols.
use Rattle.std.proofs.Common.{◌≡◌, ℕ, ◌<◌, ◌≤◌, ◌++◌, List, [], ◌∷◌, map, refl, Some, length, ap, arith}
use Rattle.litmus_lex.specs.declared.sign.Sign.TheVariants.{CloseBrace, CloseParen, Comma, Semicolon}
use Rattle.litmus_lex.specs.Front.{◌>>=◌, first, is_sign, others, take_sign}
use Rattle.litmus_lex.specs.Words.{Symbol}
use Rattle.litmus_expression.specs.Names.{Parameter}
use Rattle.litmus_expression.specs.States.{parameter_of}
use Rattle.litmus_expression.specs.declared.process.Parameter as coded
use Rattle.litmus_expression.proofs.Fewer.{at_last, behind_it, either_way}
use Rattle.litmus_parse.specs.ItemReader.{Heading, behind_item, item_at, items_at, items_by, past}
use Rattle.litmus_parse.specs.ParameterReader.{behind_parameter, listed_at, listed_by, parameter_at}
use Rattle.litmus_parse.specs.Turns.{Turn, again, done, turned}
use Rattle.litmus_parse.proofs.EnoughTurns.{going_unrolls}
use Rattle.litmus_parse.proofs.Items.{item_fewer, item_read}
use Rattle.litmus_parse.proofs.Parameters.{parameter_fewer, parameter_read}

-- how much is left
abbrev pub left : Heading → ℕ
left h = length h.symbols

pub others_at_most : (symbols : List Symbol) → length (others symbols) ≤ length symbols
others_at_most [] = omega arith
others_at_most (s ∷ rest) = omega arith

abbrev Goes : Heading → Turn Heading Heading → Type 0
Goes h (again u) = left u < left h
Goes h (done u) = Unit {0}

items_go : (h : Heading) (t : Turn Heading Heading) → items_by h ≡ Some t → Goes h t
items_go h t e =
    either_way (is_sign CloseBrace (first h.symbols)) (Some (done (past h))) (item_at h >>= λ u. behind_item u) (Goes h) t e
    (λ closes e. at_last (done (past h)) (Goes h) t e tt)
    (λ none e.
    behind_it (item_at h) (λ u. behind_item u) (Goes h) t e (λ u is e.
    let lt = item_fewer (item_read h u is).spelled in
    let le = others_at_most u.symbols in
    either_way (is_sign Semicolon (first u.symbols)) (Some (again (past u)))
    (take_sign CloseBrace u.symbols >>= λ l. Some (done (record u { symbols = l })))
    (Goes h) t e
    (λ more e. at_last (again (past u)) (Goes h) t e (omega arith))
    (λ last e. behind_it (take_sign CloseBrace u.symbols) (λ l. Some (done (record u { symbols = l }))) (Goes h) t e (λ l closed e.
    at_last (done (record u { symbols = l })) (Goes h) t e tt))))

pub items_short : (h u : Heading) → items_by h ≡ Some (again u) → left u < left h
items_short h u e = items_go h (again u) e

pub items_unroll : (h : Heading) → items_at h ≡ (items_by h >>= λ t. turned items_at t)
unfolding items_at
items_unroll h = going_unrolls left items_by items_short h

-- ---- parameters

abbrev pub Listing : Type 0
Listing = List Parameter × Heading

abbrev pub left_listed : Listing → ℕ
left_listed x = length x.1.symbols

abbrev GoesListed : Listing → Turn Listing Listing → Type 0
GoesListed x (again y) = left_listed y < left_listed x
GoesListed x (done y) = Unit {0}

listed_goes : (x : Listing) (t : Turn Listing Listing) → listed_by x ≡ Some t → GoesListed x t
listed_goes x t e =
    behind_it (parameter_at x.0 x.1) (λ p. behind_parameter (x.0 ++ p.0 ∷ [], p.1)) (GoesListed x) t e (λ p is e.
    let lt = parameter_fewer x.0 x.1 p (parameter_read x.0 x.1 p is) in
    let le = others_at_most p.1.symbols in
    either_way (is_sign Comma (first p.1.symbols)) (Some (again (x.0 ++ p.0 ∷ [], past p.1)))
    (take_sign CloseParen p.1.symbols >>= λ l. Some (done (x.0 ++ p.0 ∷ [], record p.1 { symbols = l })))
    (GoesListed x) t e
    (λ more e. at_last (again (x.0 ++ p.0 ∷ [], past p.1)) (GoesListed x) t e (omega arith))
    (λ last e. behind_it (take_sign CloseParen p.1.symbols) (λ l. Some (done (x.0 ++ p.0 ∷ [], record p.1 { symbols = l })))
    (GoesListed x) t e (λ l closed e.
    at_last (done (x.0 ++ p.0 ∷ [], record p.1 { symbols = l })) (GoesListed x) t e tt)))

pub listed_short : (x y : Listing) → listed_by x ≡ Some (again y) → left_listed y < left_listed x
listed_short x y e = listed_goes x (again y) e

pub listed_unroll : (x : Listing) → listed_at x ≡ (listed_by x >>= λ t. turned listed_at t)
unfolding listed_at
listed_unroll x = going_unrolls left_listed listed_by listed_short x

-- one more parameter
pub parameters_more : (ps : List coded.Parameter) (p : coded.Parameter) → map parameter_of (ps ++ p ∷ [])
    ≡ map parameter_of ps ++ parameter_of p ∷ []
parameters_more [] p = refl
parameters_more (q ∷ ps) p = ap (λ (l : List Parameter). parameter_of q ∷ l) (parameters_more ps p)

pub ruleset listed_unrolls = (listed_unroll, parameters_more)
