-- Readers of processes are given by their parts, and each process takes symbols.
use Rattle.std.proofs.Common.{◌≡◌, ◌++◌, ◌<◌, ◌≤◌, ◌==◌, ◌+◌, ◌*◌, ℕ, suc, List, [], ◌∷◌, Bool, true, false, cond, Option, Some, None, Vec}
use Rattle.std.proofs.Common.{Global, length, map, refl, ap, ◌∙◌, arith}
use Rattle.std.proofs.lemmas.Bool.{ne_eqb}
use Rattle.litmus_lex.specs.declared.sign.Sign.TheVariants.{CloseParen, Comma, OpenParen}
use Rattle.litmus_syntax.specs.Tree as tree
use Rattle.litmus_syntax.specs.Views.{block_of}
use Rattle.litmus_lex.specs.Front.{◌>>=◌, first, is_sign, take_sign}
use Rattle.litmus_expression.specs.declared.process.Process as coded
use Rattle.litmus_expression.specs.Places.{outermost}
use Rattle.litmus_expression.specs.States.{State, entering, state_of}
use Rattle.litmus_expression.proofs.Fewer.{TakesSome, at_last, behind_it, either_way, unless_it}
use Rattle.litmus_expression.proofs.Taken.{sign_fewer}
use Rattle.litmus_body.specs.StatementReader.{block_at}
use Rattle.litmus_body.proofs.Shorter.{deep_shorter}
use Rattle.litmus_parse.specs.ItemReader.{Heading, past}
use Rattle.litmus_parse.specs.ParameterReader.{behind_paren, behind_parameter, listed_at, listed_by, parameter_at, parameters_at}
use Rattle.litmus_parse.specs.Turns.{Turn, again, done, turned}
use Rattle.litmus_parse.proofs.EnoughTurns.{going_at_most, going_unrolls}
use Rattle.litmus_syntax.specs.declared.statement.Statement.{Statement}
use Rattle.litmus_parse.proofs.Parameters.{parameter_fewer, parameter_read}
use Rattle.litmus_parse.proofs.Unrolled.{Listing, left_listed, listed_short, others_at_most}
use Rattle.litmus_parse.specs.ProcessReader.{Course, and_process, is_process, process_at, process_with, processes_at, processes_by}
use Rattle.litmus_parse.specs.TextReader.{bodies_of}

-- ---- parameters take symbols

abbrev Ends : Listing → Turn Listing Listing → Type 0
Ends x (again y) = Unit {0}
Ends x (done y) = left_listed y ≤ left_listed x

listed_ends : (x : Listing) (t : Turn Listing Listing) → listed_by x ≡ Some t → Ends x t
listed_ends x t e =
    behind_it (parameter_at x.0 x.1) (λ p. behind_parameter (x.0 ++ p.0 ∷ [], p.1)) (Ends x) t e (λ p is e.
    let lt = parameter_fewer x.0 x.1 p (parameter_read x.0 x.1 p is) in
    either_way (is_sign Comma (first p.1.symbols)) (Some (again (x.0 ++ p.0 ∷ [], past p.1)))
    (take_sign CloseParen p.1.symbols >>= λ l. Some (done (x.0 ++ p.0 ∷ [], record p.1 { symbols = l })))
    (Ends x) t e
    (λ more e. at_last (again (x.0 ++ p.0 ∷ [], past p.1)) (Ends x) t e tt)
    (λ last e. behind_it (take_sign CloseParen p.1.symbols) (λ l. Some (done (x.0 ++ p.0 ∷ [], record p.1 { symbols = l }))) (Ends x) t e
    (λ l closed e.
    at_last (done (x.0 ++ p.0 ∷ [], record p.1 { symbols = l })) (Ends x) t e
    (let fewer = sign_fewer CloseParen p.1.symbols l closed in omega arith))))

listed_at_most : (x y : Listing) → listed_at x ≡ Some y → left_listed y ≤ left_listed x
unfolding listed_at
listed_at_most x y e =
    going_at_most left_listed left_listed listed_by listed_short (λ a b is. listed_ends a (done b) is) (suc (left_listed x)) x y e

pub parameters_fewer : (h : Heading) (x : Listing) → parameters_at h ≡ Some x → left_listed x < length h.symbols
unfolding parameters_at
parameters_fewer h x e =
    behind_it (take_sign OpenParen h.symbols) (λ l. behind_paren (record h { symbols = l }))
    (λ (y : Listing). left_listed y < length h.symbols) x e (λ l opens e.
    let lt = sign_fewer OpenParen h.symbols l opens in
    either_way (is_sign CloseParen (first l)) (Some ([], past (record h { symbols = l }))) (listed_at ([], record h { symbols = l }))
    (λ (y : Listing). left_listed y < length h.symbols) x e
    (λ none e. at_last ([], past (record h { symbols = l })) (λ (y : Listing). left_listed y < length h.symbols) x e
    (let le = others_at_most l in omega arith))
    (λ some e. let le = listed_at_most ([], record h { symbols = l }) x e in omega arith))

-- ---- processes

block_fewer : (s : State) (x : tree.Block × State) → block_at outermost s ≡ Some x → TakesSome s x
unfolding block_at
block_fewer s x e = (deep_shorter (10 * length s.symbols + 10)).block outermost s x e

abbrev Process : Type 0
Process = (State × tree.Block) × Heading

pub process_fewer : (h : Heading) (x : Process) → process_at h ≡ Some x → length x.1.symbols < length h.symbols
unfolding process_at
process_fewer h x e =
    behind_it (parameters_at h) (λ p. process_with p) (λ (y : Process). length y.1.symbols < length h.symbols) x e (λ p is e.
    behind_it (block_at outermost (entering p.0 p.1.symbols)) (λ b. Some ((b.1, b.0), record p.1 { symbols = b.1.symbols }))
    (λ (y : Process). length y.1.symbols < length h.symbols) x e (λ b body e.
    at_last _ (λ (y : Process). length y.1.symbols < length h.symbols) x e
    (let one = parameters_fewer h p is in
    let two : TakesSome (entering p.0 p.1.symbols) b = block_fewer (entering p.0 p.1.symbols) b body in
    omega arith)))

abbrev left : Course → ℕ
left c = length c.heading.symbols

abbrev Goes : Course → Turn Course Course → Type 0
Goes c (again d) = left d < left c
Goes c (done d) = Unit {0}

processes_go : (c : Course) (t : Turn Course Course) → processes_by c ≡ Some t → Goes c t
processes_go c t e =
    either_way (is_process (length c.states) (first c.heading.symbols)) (and_process c) (cond (length c.states == 0) None (Some (done c)))
    (Goes c) t e
    (λ begins e.
    unless_it (length c.states == 16) (process_at (past c.heading) >>= λ p.
    Some (again (record { heading = p.1; states = c.states ++ p.0.0 ∷ []; bodies = c.bodies ++ p.0.1 ∷ [] }))) (Goes c) t e (λ few e.
    behind_it (process_at (past c.heading)) (λ p.
    Some (again (record { heading = p.1; states = c.states ++ p.0.0 ∷ []; bodies = c.bodies ++ p.0.1 ∷ [] }))) (Goes c) t e (λ p is e.
    at_last _ (Goes c) t e
    (let one = others_at_most c.heading.symbols in
    let two = process_fewer (past c.heading) p is in
    omega arith))))
    (λ none e.
    unless_it (length c.states == 0) (Some (done c)) (Goes c) t e (λ some e. at_last (done c) (Goes c) t e tt))

processes_short : (c d : Course) → processes_by c ≡ Some (again d) → left d < left c
processes_short c d e = processes_go c (again d) e

pub processes_unroll : (c : Course) → processes_at c ≡ (processes_by c >>= λ t. turned processes_at t)
unfolding processes_at
processes_unroll c = going_unrolls left processes_by processes_short c

-- one more process
pub states_more : (ps : List coded.Process) (p : coded.Process) → map state_of (ps ++ p ∷ []) ≡ map state_of ps ++ state_of p ∷ []
states_more [] p = refl
states_more (q ∷ ps) p = ap (λ (l : List State). state_of q ∷ l) (states_more ps p)

-- one more body
pub bodies_more : (bs : List (Vec Statement Global)) (b : Vec Statement Global) → bodies_of (bs ++ b ∷ [])
    ≡ bodies_of bs ++ block_of b.items ∷ []
bodies_more [] b = refl
bodies_more (a ∷ bs) b = ap (λ (l : List tree.Block). block_of a.items ∷ l) (bodies_more bs b)

-- what is read of processes, where so many are read
module _ (c : Course) (n : ℕ) (read : length c.states ≡ n) where
  begun : (b : Bool) → is_process n (first c.heading.symbols) ≡ b
      → processes_at c ≡ (cond b (and_process c) (cond (length c.states == 0) None (Some (done c))) >>= λ t. turned processes_at t)
  begun b is =
      processes_unroll c
      ∙ ap (λ (k : ℕ). cond (is_process k (first c.heading.symbols)) (and_process c)
      (cond (length c.states == 0) None (Some (done c))) >>= λ t. turned processes_at t) read
      ∙ ap (λ (d : Bool). cond d (and_process c) (cond (length c.states == 0) None (Some (done c))) >>= λ t. turned processes_at t) is

  abbrev grew : Process → Course
  grew p = record { heading = p.1; states = c.states ++ p.0.0 ∷ []; bodies = c.bodies ++ p.0.1 ∷ [] }

  abbrev one_more : Bool → Option Process → Option Course
  one_more full o = cond full None (o >>= λ p. Some (again (grew p))) >>= λ t. turned processes_at t

  more : (full : Bool) (o : Option Process) → is_process n (first c.heading.symbols) ≡ true → (n == 16) ≡ full
      → process_at (past c.heading) ≡ o
      → processes_at c ≡ one_more full o
  more full o is many e =
      begun true is
      ∙ ap (λ (k : ℕ). one_more (k == 16) (process_at (past c.heading))) read
      ∙ ap (λ (b : Bool). one_more b (process_at (past c.heading))) many
      ∙ ap (λ (p : Option Process). one_more full p) e

  pub too_many : is_process n (first c.heading.symbols) ≡ true → n ≡ 16 → processes_at c ≡ None
  too_many is full = more true (process_at (past c.heading)) is (ap (λ (k : ℕ). k == 16) full) refl

  pub read_more : (p : Process) → is_process n (first c.heading.symbols) ≡ true → (n ≡ 16 → ⊥) → process_at (past c.heading) ≡ Some p
      → processes_at c ≡ processes_at (grew p)
  read_more p is few e = more false (Some p) is (ne_eqb n 16 few) e

  pub refused : is_process n (first c.heading.symbols) ≡ true → (n ≡ 16 → ⊥) → process_at (past c.heading) ≡ None → processes_at c ≡ None
  refused is few e = more false None is (ne_eqb n 16 few) e

  pub no_more : is_process n (first c.heading.symbols) ≡ false → (n ≡ 0 → ⊥) → processes_at c ≡ Some c
  no_more none some =
      begun false none
      ∙ ap (λ (k : ℕ). cond (k == 0) None (Some (done c)) >>= λ t. turned processes_at t) read
      ∙ ap (λ (b : Bool). cond b None (Some (done c)) >>= λ t. turned processes_at t) (ne_eqb n 0 some)

  pub none_at_all : is_process n (first c.heading.symbols) ≡ false → n ≡ 0 → processes_at c ≡ None
  none_at_all none zero =
      begun false none
      ∙ ap (λ (k : ℕ). cond (k == 0) None (Some (done c)) >>= λ t. turned processes_at t) (read ∙ zero)
