-- What is known of a grid's symbols.
use Rattle.std.proofs.Common.{◌≡◌, ℕ, zero, suc, ◌+◌, ◌-◌, ◌/◌, ◌%◌, ◌<◌, Bool, false, List, [], ◌∷◌, ◌++◌, drop, fold, length, get_or, refl, sym, ap, ◌∙◌, subst, arith, pos}
use Rattle.std.specs.Prelude.{if◌then◌else◌}
use Rattle.std.proofs.lemmas.Int.{ints}
use Rattle.std.proofs.lemmas.List.{length_push}
use Rattle.plan.specs.Certificate.Cells.{grid_point, grid_symbols, grid_value, piece_count}
use Rattle.interpreter.proofs.GridPoints.{IsUnderWay, further, some_extent}
use Rattle.report.specs.declared.known.Binding.{Binding}
use Rattle.report.specs.Grid.{grid_bindings, point_binding}
use Rattle.report.specs.Known.{known_of, unbound, Allows, AllowsAll, IsSettled, AllSettled}
use Rattle.report.proofs.Bindings.{step, different, equal}

grid-push : (k : ℕ) (xs : List ℕ) (x : ℕ) → grid_bindings k (xs ++ x ∷ []) ≡ grid_bindings k xs ++ point_binding (k + length xs) (pos x) ∷ []
grid-push k [] x = let e : k ≡ k + 0 = omega arith in ap (λ (i : ℕ). point_binding i (pos x) ∷ []) e
grid-push k (y ∷ ys) x =
    let e : k + 1 + length ys ≡ k + suc (length ys) = omega arith in
    ap (λ (l : List Binding). point_binding k (pos y) ∷ l) (grid-push (k + 1) ys x ∙ ap (λ (i : ℕ). grid_bindings (k + 1) ys ++ point_binding i (pos x) ∷ []) e)

-- a symbol before these keeps what is known of it
before : (xs : List ℕ) (k i : ℕ) (found : Binding) → i < k → fold (step i) found (grid_bindings k xs) ≡ found
before [] k i found h = refl
before (x ∷ xs) k i found h =
    ap (λ (b : Bool). fold (step i) (if b then point_binding k (pos x) else found) (grid_bindings (k + 1) xs)) (different k i (omega arith))
    ∙ before xs (k + 1) i found (omega arith)

at_symbol : (xs : List ℕ) (k j i : ℕ) → i ≡ k + j → fold (step i) (unbound i) (grid_bindings k xs) ≡ point_binding i (grid_value xs j)
at_symbol [] k j i e = refl
at_symbol (x ∷ xs) k zero i e =
    let f : k ≡ i = omega arith in
    ap (λ (b : Bool). fold (step i) (if b then point_binding k (pos x) else unbound i) (grid_bindings (k + 1) xs)) (equal k i f)
    ∙ before xs (k + 1) i (point_binding k (pos x)) (omega arith)
    ∙ ap (λ (n : ℕ). point_binding n (pos x)) f
at_symbol (x ∷ xs) k (suc j) i e =
    ap (λ (b : Bool). fold (step i) (if b then point_binding k (pos x) else unbound i) (grid_bindings (k + 1) xs)) (different k i (omega arith))
    ∙ at_symbol xs (k + 1) j i (omega arith)

known_there : (xs : List ℕ) (i : ℕ) → known_of (grid_bindings 0 xs) i ≡ point_binding i (grid_value xs i)
known_there xs i = at_symbol xs 0 i i (omega arith)

pub grid_allowed : (known : List Binding) (xs : List ℕ) → known ≡ grid_bindings 0 xs → AllowsAll known (grid_symbols xs)
grid_allowed known xs is i =
    subst (λ (b : Binding). Allows b (grid_value xs i) false) (sym (ap (λ (l : List Binding). known_of l i) is ∙ known_there xs i))
    (record { low = omega (arith, ints); high = omega (arith, ints); first = λ e. e; later = λ e. refl })

pub grid_settled : (known : List Binding) (xs : List ℕ) → known ≡ grid_bindings 0 xs → AllSettled known
grid_settled known xs is i =
    subst IsSettled (sym (ap (λ (l : List Binding). known_of l i) is ∙ known_there xs i)) (record { value = refl; turn = refl })

-- so many symbols are known, and the rest is the grid point of what is left
pub record AreUnderWay (grid : List ℕ) (rank i : ℕ) (known : List Binding) (rest : ℕ) : Type 0 where
  pub at : List ℕ
  pub known_is : known ≡ grid_bindings 0 at
  pub long : length at ≡ i
  pub way : IsUnderWay grid rank i at rest

pub begun : (grid : List ℕ) (rank : ℕ) (known : List Binding) → known ≡ [] → rank < piece_count grid → AreUnderWay grid rank 0 known rank
begun grid rank known e h = record { at = []; known_is = e; long = refl; way = record { point = refl; inside = h } }

pub some_there : (grid : List ℕ) (rank i : ℕ) (known : List Binding) (rest : ℕ) → i < length grid → AreUnderWay grid rank i known rest → 0 < get_or grid i 0
some_there grid rank i known rest l h = some_extent grid rank i h.at rest l h.way

length-grid : (k : ℕ) (xs : List ℕ) → length (grid_bindings k xs) ≡ length xs
length-grid k [] = refl
length-grid k (x ∷ xs) = ap suc (length-grid (k + 1) xs)

pub known_count : (grid : List ℕ) (rank i : ℕ) (known : List Binding) (rest : ℕ) → AreUnderWay grid rank i known rest → length known ≡ i
known_count grid rank i known rest h = ap length h.known_is ∙ length-grid 0 h.at ∙ h.long

pub one_further : (grid : List ℕ) (rank i : ℕ) (known more : List Binding) (rest : ℕ) (b : Binding) → i < length grid → AreUnderWay grid rank i known rest
    → b ≡ point_binding i (pos (rest % get_or grid i 0)) → more ≡ known ++ b ∷ [] → AreUnderWay grid rank (i + 1) more (rest / get_or grid i 0)
one_further grid rank i known more rest b l h eb em =
    let x : ℕ = rest % get_or grid i 0 in
    record {
      at = h.at ++ x ∷ [];
      known_is = em ∙ (λ j. h.known_is j ++ eb j ∷ [])
          ∙ ap (λ (n : ℕ). grid_bindings 0 h.at ++ point_binding n (pos x) ∷ []) (let g : length h.at ≡ i = h.long in let e : i ≡ 0 + length h.at = omega arith in e)
          ∙ sym (grid-push 0 h.at x);
      long = longer h.at x i h.long;
      way = further grid rank i h.at rest l h.way;
    }
  where
    longer : (xs : List ℕ) (x i : ℕ) → length xs ≡ i → length (xs ++ x ∷ []) ≡ i + 1
    longer xs x i e = length_push xs x ∙ ap (λ (n : ℕ). n + 1) e

drop_end : (grid : List ℕ) (rest : ℕ) → grid_point (drop (length grid) grid) rest ≡ []
drop_end [] rest = refl
drop_end (x ∷ xs) rest = drop_end xs rest

append_none : (xs : List ℕ) → xs ++ [] ≡ xs
append_none [] = refl
append_none (x ∷ xs) = ap (λ (l : List ℕ). x ∷ l) (append_none xs)

pub ended : (grid : List ℕ) (rank i : ℕ) (known : List Binding) (rest : ℕ) → i ≡ length grid → AreUnderWay grid rank i known rest → known ≡ grid_bindings 0 (grid_point grid rank)
ended grid rank i known rest e h =
    h.known_is ∙ ap (grid_bindings 0)
    (sym (ap (λ (l : List ℕ). h.at ++ l) (ap (λ (n : ℕ). grid_point (drop n grid) rest) e ∙ drop_end grid rest) ∙ append_none h.at) ∙ h.way.point)
