-- Items of lists that are written, added to and mapped.
use Rattle.std.proofs.Common.{◌≡◌, ◌<◌, ◌∙◌, ◌∷◌, ◌++◌, [], ℕ, zero, suc, List, Some, ap, arith, length, map, refl, set, slice_get, sym}
use Rattle.std.proofs.lemmas.List.{length-append}

pub same_some : {X : Type 0} (one other : X) → Some one ≡ Some other → one ≡ other
same_some one other same = cc

-- the item that is written is there
pub set_here : {X : Type 0} (xs : List X) (i : ℕ) (y : X) → i < length xs → slice_get (set xs i y) i ≡ Some y
set_here [] i y below = absurd (omega (arith, below))
set_here (x ∷ xs) zero y below = refl
set_here (x ∷ xs) (suc i) y below = set_here xs i y (omega (arith, below))

-- and the others are as they were
pub set_there : {X : Type 0} (xs : List X) (i j : ℕ) (y : X) → (j ≡ i → ⊥) → slice_get (set xs i y) j ≡ slice_get xs j
set_there [] i j y not = refl
set_there (x ∷ xs) zero zero y not = absurd (not refl)
set_there (x ∷ xs) zero (suc j) y not = refl
set_there (x ∷ xs) (suc i) zero y not = refl
set_there (x ∷ xs) (suc i) (suc j) y not = set_there xs i j y (λ same. not (ap suc same))

-- an item of what comes of each comes of the item there
pub from_map : {A B : Type 0} (f : A → B) (xs : List A) (k : ℕ) (y : B) → slice_get (map f xs) k ≡ Some y
    → (x : A) × (slice_get xs k ≡ Some x) × (f x ≡ y)
from_map f [] k y is = absurd (cc)
from_map f (x ∷ xs) zero y is = (x, refl, same_some (f x) y is)
from_map f (x ∷ xs) (suc k) y is = from_map f xs k y is

-- a list that is long enough has an item there
pub item_there : {X : Type 0} (xs : List X) (k : ℕ) → k < length xs → (x : X) × (slice_get xs k ≡ Some x)
item_there [] k below = absurd (omega (arith, below))
item_there (x ∷ xs) zero below = (x, refl)
item_there (x ∷ xs) (suc k) below = item_there xs k (omega (arith, below))

-- a column with the item of one row more has the items of all these rows
pub column_on : {R T : Type 0} (items : R → List T) (at : ℕ) (rows : List R) (row : R) (was : List T) (item : T) → length was ≡ length rows
    → ((k : ℕ) (r : R) → slice_get rows k ≡ Some r → slice_get was k ≡ slice_get (items r) at)
    → slice_get (items row) at ≡ Some item
    → (k : ℕ) (r : R) → slice_get (rows ++ row ∷ []) k ≡ Some r → slice_get (was ++ item ∷ []) k ≡ slice_get (items r) at
column_on items at [] row [] item same each here zero r is =
    sym here ∙ ap (λ one. slice_get (items one) at) (same_some row r is)
column_on items at [] row [] item same each here (suc k) r is = absurd (cc)
column_on items at [] row (w ∷ was) item same each here k r is = absurd (omega (arith, same))
column_on items at (one ∷ rows) row [] item same each here k r is = absurd (omega (arith, same))
column_on items at (one ∷ rows) row (w ∷ was) item same each here zero r is = each zero r is
column_on items at (one ∷ rows) row (w ∷ was) item same each here (suc k) r is =
    column_on items at rows row was item (omega (arith, same)) (λ j q stands. each (suc j) q stands) here k r is

-- the item behind so many others
pub item_behind : {X : Type 0} (before rest : List X) (x : X) → slice_get (before ++ x ∷ rest) (length before) ≡ Some x
item_behind [] rest x = refl
item_behind (one ∷ before) rest x = item_behind before rest x

pub one_of_more : {X : Type 0} (before rest : List X) (x : X) (all : List X) → before ++ x ∷ rest ≡ all → length before < length all
one_of_more before rest x all is =
    let long = length-append before (x ∷ rest) in let same = ap length is in omega (arith, long, same)
