-- The stores of all functions, one function more.
use Rattle.std.proofs.Common.{◌≡◌, ℕ, zero, suc, ◌+◌, ◌-◌, ◌^◌, ◌<◌, ◌≤◌, Bool, true, false, List, [], ◌∷◌, ◌++◌, cond, drop, filter, length, map, take, get_or, refl, sym, ap, ◌∙◌, arith, Some}
use Rattle.std.proofs.lemmas.List.{take_more, map-append}
use Rattle.std.proofs.lemmas.Bool.{le-leb, lt-leb}
use Rattle.std.proofs.lemmas.List.Sums.{sum_by-append, sum_by-cons}
use Rattle.std.specs.Prelude.{if◌then◌else◌, nat_le, slice_get, sum_by}
use Rattle.meaning.specs.Algorithm.{Algorithm, Function}
use Rattle.algo.specs.Parts.{function_of}
use Rattle.plan.specs.Plan.{Plan}
use Rattle.plan.specs.Certificate.Certificate.{Certificate}
use Rattle.report.specs.declared.costs.FunctionCost.{FunctionCost}
use Rattle.report.specs.Actions.{stores}
use Rattle.report.specs.Costs.{capped, is_stored, row, row_stores, rows, up_to, Row}
use Rattle.report.specs.View.{row_of}
use Rattle.report.proofs.Rows.{names, next_rows, rows_from, Entry}
use Rattle.report.proofs.Sums.{lower_limit}

abbrev pub stores_of : List FunctionCost → ℕ
stores_of xs = sum_by (λ (r : Row). r.stores) (map row_of xs)

pub more_stores : (xs : List FunctionCost) (i : ℕ) (x : FunctionCost) → i < length xs → x ≡ get_or xs i x → stores_of (take (i + 1) xs) ≡ stores_of (take i xs) + x.stores
more_stores xs i x h is =
    ap stores_of (take_more xs i x h ∙ ap (λ y. take i xs ++ y ∷ []) (sym is))
    ∙ ap (sum_by (λ (r : Row). r.stores)) (map-append row_of (take i xs) (x ∷ []))
    ∙ sum_by-append (λ (r : Row). r.stores) (map row_of (take i xs)) (row_of x ∷ [])
    ∙ omega arith

-- ---- no more stores than a number

pub row_as_far : (p : Plan) (c : Certificate) (f : List ℕ) (m n : ℕ) → m < 2 ^ 64 → is_stored p f ≡ true → up_to m n ≡ up_to m (stores p c f) → up_to m n ≡ up_to m (row_stores p c f)
row_as_far p c f m n small is h =
    h ∙ sym (lower_limit m (capped (stores p c f)) (stores p c f) small refl)
    ∙ ap (λ (b : Bool). up_to m (if b then capped (stores p c f) else 0)) (sym is)

pub no_row_as_far : (p : Plan) (c : Certificate) (f : List ℕ) (m : ℕ) → is_stored p f ≡ false → up_to m 0 ≡ up_to m (row_stores p c f)
no_row_as_far p c f m is = ap (λ (b : Bool). up_to m (if b then capped (stores p c f) else 0)) (sym is)

-- the stores of the functions from a number on
abbrev pub stores_from : Plan → Certificate → List Entry → ℕ → ℕ
stores_from p c es k = sum_by (λ (r : Row). r.stores) (rows_from p c es k)

chosen_stores : (b : Bool) (p : Plan) (c : Certificate) (f : List ℕ) (fs : List (List ℕ)) →
    sum_by (λ (r : Row). r.stores) (map (row p c) (cond b (f ∷ fs) fs)) ≡ (if b then capped (stores p c f) else 0) + sum_by (λ (r : Row). r.stores) (map (row p c) fs)
chosen_stores true p c f fs = sum_by-cons (λ (r : Row). r.stores) (row p c f) (map (row p c) fs)
chosen_stores false p c f fs =
    let n : ℕ = sum_by (λ (r : Row). r.stores) (map (row p c) fs) in
    let e : n ≡ 0 + n = omega arith in
    e

pub next_stores : (p : Plan) (c : Certificate) (es : List Entry) (k : ℕ) (e : Entry) → slice_get es k ≡ Some e →
    stores_from p c es k ≡ row_stores p c (function_of e).name + stores_from p c es (k + 1)
next_stores p c es k e at =
    ap (sum_by (λ (r : Row). r.stores)) (next_rows p c es k e at)
    ∙ chosen_stores (is_stored p (function_of e).name) p c (function_of e).name (filter (is_stored p) (names (drop (k + 1) es)))

-- of so many so many are left, behind the functions before a number
pub record AreLeft (p : Plan) (c : Certificate) (es : List Entry) (whole most k left : ℕ) : Type 0 where
  pub within : left ≤ most
  pub sum : whole + left ≡ stores_from p c es k + most

-- how many stores all functions have together
abbrev pub whole_stores : Algorithm → Plan → Certificate → ℕ
whole_stores a p c = sum_by (λ (r : Row). r.stores) (rows a p c)

pub stores_begun : (a : Algorithm) (p : Plan) (c : Certificate) (es : List Entry) (most : ℕ) → map function_of es ≡ a.functions → AreLeft p c es (whole_stores a p c) most 0 most
stores_begun a p c es most e = record {
  within = omega arith;
  sum = ap (λ (fs : List Function). sum_by (λ (r : Row). r.stores) (map (row p c) (filter (is_stored p) (map (λ f. Function.name f) fs))) + most) (sym e);
}

too_many : (most left n t rest whole : ℕ) → most < 2 ^ 64 - 1 → left ≤ most → up_to (left + 1) n ≡ up_to (left + 1) t → left < n → whole + left ≡ (t + rest) + most → most < capped whole
too_many most left n t rest whole small within h over sum = omega arith

fewer_left : (most left n t rest whole : ℕ) → up_to (left + 1) n ≡ up_to (left + 1) t → n ≤ left → whole + left ≡ (t + rest) + most → whole + (left - n) ≡ rest + most
fewer_left most left n t rest whole h within sum = omega arith

pub stores_over : (p : Plan) (c : Certificate) (es : List Entry) (whole most k left n : ℕ) (e : Entry) → most < 2 ^ 64 - 1 → slice_get es k ≡ Some e →
    up_to (left + 1) n ≡ up_to (left + 1) (row_stores p c (function_of e).name) → left < n
    → AreLeft p c es whole most k left → false ≡ nat_le (capped whole) most
stores_over p c es whole most k left n e small at far over h =
    sym (lt-leb (capped whole) most (too_many most left n (row_stores p c (function_of e).name) (stores_from p c es (k + 1)) whole small h.within far over
    (h.sum ∙ ap (λ (m : ℕ). m + most) (next_stores p c es k e at))))

pub stores_left : (p : Plan) (c : Certificate) (es : List Entry) (whole most k left n : ℕ) (e : Entry) → slice_get es k ≡ Some e →
    up_to (left + 1) n ≡ up_to (left + 1) (row_stores p c (function_of e).name) → n ≤ left
    → AreLeft p c es whole most k left → AreLeft p c es whole most (k + 1) (left - n)
stores_left p c es whole most k left n e at far within h =
    let one : left ≤ most = h.within in
    record {
      within = omega arith;
      sum = fewer_left most left n (row_stores p c (function_of e).name) (stores_from p c es (k + 1)) whole far within (h.sum ∙ ap (λ (m : ℕ). m + most) (next_stores p c es k e at));
    }

drop_all : (es : List Entry) (k : ℕ) → length es ≤ k → drop k es ≡ []
drop_all [] zero h = refl
drop_all [] (suc k) h = refl
drop_all (e ∷ es) zero h = absurd (omega arith)
drop_all (e ∷ es) (suc k) h = drop_all es k (omega arith)

enough_left : (most left rest whole : ℕ) → rest ≡ 0 → left ≤ most → whole + left ≡ rest + most → capped whole ≤ most
enough_left most left rest whole none within sum = omega arith

pub stores_inside : (p : Plan) (c : Certificate) (es : List Entry) (whole most k left : ℕ) → length es ≤ k → AreLeft p c es whole most k left → true ≡ nat_le (capped whole) most
stores_inside p c es whole most k left end h =
    let none : stores_from p c es k ≡ 0 = ap (λ (l : List Entry). sum_by (λ (r : Row). r.stores) (map (row p c) (filter (is_stored p) (names l)))) (drop_all es k end) in
    sym (le-leb (capped whole) most (enough_left most left (stores_from p c es k) whole none h.within h.sum))

pub greatest_within : (whole most : ℕ) → most ≡ 2 ^ 64 - 1 → true ≡ nat_le (capped whole) most
greatest_within whole most e = let h : capped whole ≤ most = omega arith in sym (le-leb (capped whole) most h)
