-- One more task is made: of the first process and the first body that are left, behind those made before.
use Rattle.std.proofs.Common.{◌≡◌, ◌∙◌, ◌++◌, ◌+◌, ◌-◌, ◌<◌, ◌≤◌, ℕ, zero, suc, List, [], ◌∷◌, Vec, Global, drop, get_or, length, map, refl}
use Rattle.std.proofs.Common.{sym, ap, subst, take, arith}
use Rattle.std.specs.Prelude.{remove}
use Rattle.litmus_syntax.specs.Tree as tree
use Rattle.litmus_syntax.specs.Views as views
use Rattle.litmus_syntax.specs.Views.{block_of}
use Rattle.litmus_syntax.specs.declared.program.Task.{Task}
use Rattle.litmus_syntax.specs.declared.statement.Statement.{Statement}
use Rattle.litmus_expression.specs.declared.process.Process.{Process}
use Rattle.litmus_expression.specs.States.{state_of}
use Rattle.litmus_parse.specs.Seen.{process_of, seen}
use Rattle.litmus_parse.specs.Grammar.{task_of}
use Rattle.litmus_parse.specs.TextReader.{bodies_of}

pub first_body : (bs : List (Vec Statement Global)) (b : Vec Statement Global) → 0 < length bs → b ≡ get_or bs 0 b
    → bodies_of bs ≡ block_of b.items ∷ bodies_of (remove bs 0)
first_body [] b some is = absurd (omega arith)
first_body (a ∷ bs) b some is = ap (λ (c : Vec Statement Global). block_of c.items ∷ bodies_of bs) (sym is)

more : (ts : List Task) (t : Task) (later : List tree.Task) → map views.task_of (ts ++ t ∷ []) ++ later
    ≡ map views.task_of ts ++ (views.task_of t ∷ later)
more [] t later = refl
more (u ∷ ts) t later = ap (λ (l : List tree.Task). views.task_of u ∷ l) (more ts t later)

pub one_task : (ts : List Task) (t : Task) (p : Process) (ps : List Process) (bs : List (Vec Statement Global)) (b : Vec Statement Global)
    (whole : List tree.Task)
    → 0 < length bs → b ≡ get_or bs 0 b → views.task_of t ≡ task_of (process_of (state_of p) (block_of b.items))
    → map views.task_of ts ++ map task_of (seen (map state_of (p ∷ ps)) (bodies_of bs)) ≡ whole
    → map views.task_of (ts ++ t ∷ []) ++ map task_of (seen (map state_of ps) (bodies_of (remove bs 0))) ≡ whole
one_task ts t p ps bs b whole some is made so_far =
    let later : List tree.Task = map task_of (seen (map state_of ps) (bodies_of (remove bs 0))) in
    more ts t later
    ∙ ap (λ (u : tree.Task). map views.task_of ts ++ (u ∷ later)) made
    ∙ ap (λ (l : List tree.Block). map views.task_of ts ++ map task_of (seen (map state_of (p ∷ ps)) l)) (sym (first_body bs b some is))
    ∙ so_far

take_whole : {A : Type 0} (xs : List A) (n : ℕ) → n ≡ length xs → take n xs ≡ xs
take_whole [] zero e = refl
take_whole [] (suc n) e = refl
take_whole (x ∷ xs) zero e = absurd (omega arith)
take_whole (x ∷ xs) (suc n) e = ap (λ (l : List _). x ∷ l) (take_whole xs n (omega arith))

-- the rest of a slice, as the code has it
pub rest_of : {A : Type 0} (xs : List A) (x : A) → 1 ≤ length xs → x ≡ get_or xs 0 x → xs ≡ x ∷ take (length xs - 1) (drop 1 xs)
rest_of [] x some is = absurd (omega arith)
rest_of (y ∷ xs) x some is =
    ap (λ (z : _). z ∷ xs) (sym is)
    ∙ ap (λ (l : List _). x ∷ l) (sym (take_whole xs (length (y ∷ xs) - 1) (omega arith)))

pub rest_sized : {A : Type 0} (xs : List A) (n m : ℕ) → length xs ≡ n → 1 ≤ length xs → m + 1 ≡ n
    → length (take (length xs - 1) (drop 1 xs)) ≡ m
rest_sized [] n m sized some fewer = absurd (omega arith)
rest_sized (y ∷ xs) n m sized some fewer =
    ap (λ (l : List _). length l) (take_whole xs (length (y ∷ xs) - 1) (omega arith)) ∙ omega arith

pub next_task : (ts : List Task) (t : Task) (ps : List Process) (p : Process) (bs : List (Vec Statement Global)) (b : Vec Statement Global)
    (whole : List tree.Task)
    → 1 ≤ length ps → p ≡ get_or ps 0 p → 0 < length bs → b ≡ get_or bs 0 b → views.task_of t
    ≡ task_of (process_of (state_of p) (block_of b.items))
    → map views.task_of ts ++ map task_of (seen (map state_of ps) (bodies_of bs)) ≡ whole
    → map views.task_of (ts ++ t ∷ []) ++ map task_of (seen (map state_of (take (length ps - 1) (drop 1 ps))) (bodies_of (remove bs 0)))
    ≡ whole
next_task ts t ps p bs b whole some_process first_is some is made so_far =
    one_task ts t p (take (length ps - 1) (drop 1 ps)) bs b whole some is made
    (subst (λ (l : List Process). map views.task_of ts ++ map task_of (seen (map state_of l) (bodies_of bs)) ≡ whole)
    (rest_of ps p some_process first_is) so_far)
