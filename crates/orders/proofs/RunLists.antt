-- Lists of cells by runs.
use Rattle.std.proofs.Common.{◌≡◌, ℕ, Bool, ◌&&◌, refl, zero, suc, ◌+◌, ◌-◌, ◌≤◌, ◌<◌, List, [], ◌∷◌, ◌++◌, length, take, drop, get_or, set, true, false, Some, arith, ap, sym, ◌∙◌, subst, append_assoc, append-nil, leb, inl, inr}
use Rattle.std.specs.Prelude.{slice_get}
use Rattle.std.specs.Bool.{OnTrue}
use Rattle.std.specs.List.{range_with_len}
use Rattle.std.specs.List.Sorted.{IsNonDecreasingBy, IsPartitionPoint}
use Rattle.std.proofs.lemmas.Bool.{cases_lt, leb-false, leb-true}
use Rattle.std.proofs.lemmas.List.{get_or-drop, get_or-take, length-append, length-drop, length-take-le, take_more, take_rest}
use Rattle.std.proofs.lemmas.List.FromFn.{length-range_with_len, get_or-range_with_len}
use Rattle.std.proofs.lemmas.Option.{same_Some, slice_get-get_or, get_or_from_slice_get, slice_get_within}
use Rattle.std.proofs.Math.ListN.{get_or-append}
use Rattle.std.proofs.Math.Seq.{get_or-append_right, take-add}
use Rattle.orders.specs.declared.cell_runs.CellRun.{CellRun}
use Rattle.orders.specs.CellRuns.{AreCounted, EndsAt, HasPlace, cells_of, run_cells}

-- a row of cells and the cells behind it
pub range_join : (a m n : ℕ) → range_with_len a (m + n) ≡ range_with_len a m ++ range_with_len (a + m) n
range_join a zero n = ap (range_with_len a) (let e : 0 + n ≡ n = omega arith in e) ∙ ap (λ (b : ℕ). range_with_len b n) (let e : a ≡ a + 0 = omega arith in e)
range_join a (suc m) n =
    ap (range_with_len a) (let e : suc m + n ≡ suc (m + n) = omega arith in e)
    ∙ ap (λ (xs : List ℕ). a ∷ xs) (range_join (a + 1) m n ∙ ap (λ (b : ℕ). range_with_len (a + 1) m ++ range_with_len b n) (let e : a + 1 + m ≡ a + suc m = omega arith in e))

-- the last run with so many more cells
pub longer_cells : (n : ℕ) (rs : List CellRun) (k : ℕ) (r new : CellRun) (more : ℕ) → slice_get rs k ≡ Some r → k + 1 ≡ length rs → new.first ≡ r.first → new.count ≡ r.count + more →
    cells_of (set rs k new) ≡ cells_of rs ++ range_with_len (r.first + r.count) more
longer_cells n [] k r new more at last first count = absurd (omega (arith, last))
longer_cells n (x ∷ []) zero r new more at last first count =
    let same = same_Some x r at in
    let f : new.first ≡ x.first = first ∙ ap (λ (y : CellRun). y.first) (sym same) in
    let c : new.count ≡ x.count + more = count ∙ ap (λ (y : CellRun). y.count + more) (sym same) in
    let e : x.first + x.count ≡ r.first + r.count = ap (λ (y : CellRun). y.first + y.count) same in
    append-nil (range_with_len new.first new.count) ∙ ap (λ (a : ℕ). range_with_len a new.count) f ∙ ap (range_with_len x.first) c ∙ range_join x.first x.count more
    ∙ ap (λ (a : ℕ). run_cells x ++ range_with_len a more) e ∙ ap (λ (xs : List ℕ). xs ++ range_with_len (r.first + r.count) more) (sym (append-nil (run_cells x)))
longer_cells n (x ∷ y ∷ ys) zero r new more at last first count = absurd (omega (arith, last))
longer_cells n (x ∷ []) (suc k) r new more at last first count = absurd (omega (arith, last))
longer_cells n (x ∷ y ∷ ys) (suc k) r new more at last first count =
    ap (λ (xs : List ℕ). run_cells x ++ xs) (longer_cells n (y ∷ ys) k r new more at (omega (arith, last)) first count)
    ∙ sym (append_assoc (run_cells x) (cells_of (y ∷ ys)) (range_with_len (r.first + r.count) more))

pub longer_counted : (n : ℕ) (rs : List CellRun) (k : ℕ) (r new : CellRun) → slice_get rs k ≡ Some r → k + 1 ≡ length rs → new.before ≡ r.before → AreCounted n rs → AreCounted n (set rs k new)
longer_counted n [] k r new at last same h = h
longer_counted n (x ∷ []) zero r new at last same h = (same ∙ ap (λ (y : CellRun). y.before) (sym (same_Some x r at)) ∙ h.0, tt)
longer_counted n (x ∷ y ∷ ys) zero r new at last same h = absurd (omega (arith, last))
longer_counted n (x ∷ []) (suc k) r new at last same h = absurd (omega (arith, last))
longer_counted n (x ∷ y ∷ ys) (suc k) r new at last same h = (h.0, longer_counted (n + x.count) (y ∷ ys) k r new at (omega (arith, last)) same h.1)

-- one run more
pub pushed_counted : (n : ℕ) (rs : List CellRun) (r : CellRun) → r.before ≡ n + length (cells_of rs) → AreCounted n rs → AreCounted n (rs ++ r ∷ [])
pushed_counted n [] r is h = (let e : r.before ≡ n = omega (arith, is) in e, tt)
pushed_counted n (x ∷ xs) r is h =
    let long = length-append (run_cells x) (cells_of xs) in
    let own = length-range_with_len x.first x.count in
    (h.0, pushed_counted (n + x.count) xs r (omega (arith, is, long, own)) h.1)

-- no run begins before the first
least_before : (n : ℕ) (rs : List CellRun) → AreCounted n rs → (k : ℕ) (d : CellRun) → k < length rs → n ≤ (get_or rs k d).before
least_before n [] h k d less = absurd (omega (arith, less))
least_before n (x ∷ xs) h zero d less = let e = h.0 in omega (arith, e)
least_before n (x ∷ xs) h (suc k) d less = let a = least_before (n + x.count) xs h.1 k d (omega (arith, less)) in omega (arith, a)

pub counts_rise : (n : ℕ) (rs : List CellRun) → AreCounted n rs → IsNonDecreasingBy (λ r. r.before) rs
counts_rise n [] h i j d le less = absurd (omega (arith, less))
counts_rise n (x ∷ xs) h zero zero d le less = omega arith
counts_rise n (x ∷ xs) h zero (suc j) d le less = let e = h.0 in let a = least_before (n + x.count) xs h.1 j d (omega (arith, less)) in omega (arith, a, e)
counts_rise n (x ∷ xs) h (suc i) zero d le less = absurd (omega (arith, le))
counts_rise n (x ∷ xs) h (suc i) (suc j) d le less = counts_rise (n + x.count) xs h.1 i j d (omega (arith, le)) (omega (arith, less))

-- the run behind begins where this one ends, and the last ends with the list
next_before : (n : ℕ) (rs : List CellRun) → AreCounted n rs → (k : ℕ) (d : CellRun) → suc k < length rs → (get_or rs (suc k) d).before ≡ (get_or rs k d).before + (get_or rs k d).count
next_before n [] h k d less = absurd (omega (arith, less))
next_before n (x ∷ []) h k d less = absurd (omega (arith, less))
next_before n (x ∷ y ∷ ys) h zero d less = let a = h.0 in let b = h.1.0 in omega (arith, a, b)
next_before n (x ∷ y ∷ ys) h (suc k) d less = next_before (n + x.count) (y ∷ ys) h.1 k d (omega (arith, less))

last_end : (n : ℕ) (rs : List CellRun) → AreCounted n rs → (k : ℕ) (d : CellRun) → k + 1 ≡ length rs → n + length (cells_of rs) ≡ (get_or rs k d).before + (get_or rs k d).count
last_end n [] h k d last = absurd (omega (arith, last))
last_end n (x ∷ []) h zero d last =
    let long = length-append (run_cells x) [] in
    let own = length-range_with_len x.first x.count in
    let e = h.0 in omega (arith, long, own, e)
last_end n (x ∷ y ∷ ys) h zero d last = absurd (omega (arith, last))
last_end n (x ∷ []) h (suc k) d last = absurd (omega (arith, last))
last_end n (x ∷ y ∷ ys) h (suc k) d last =
    let long = length-append (run_cells x) (cells_of (y ∷ ys)) in
    let own = length-range_with_len x.first x.count in
    let rest = last_end (n + x.count) (y ∷ ys) h.1 k d (omega (arith, last)) in
    omega (arith, long, own, rest)

-- some run begins no later than a place of the list
pub begun : (rs : List CellRun) (place behind : ℕ) → AreCounted 0 rs → place < length (cells_of rs) → IsPartitionPoint (λ r. leb r.before place ≡ true) (λ r. leb r.before place ≡ false) rs behind → 1 ≤ behind
begun [] place behind h within parted = absurd (omega (arith, within))
begun (x ∷ xs) place zero h within parted =
    let none : leb x.before place ≡ false = parted.1 0 x (omega arith) (omega arith) in
    let begins = h.0 in
    let behind : place < x.before = leb-false x.before place none in absurd (omega (arith, begins, behind))
begun (x ∷ xs) place (suc k) h within parted = omega arith

-- the last run that does not begin behind a place has its cell
pub has_place : (rs : List CellRun) (place behind k : ℕ) → behind ≡ k + 1 → AreCounted 0 rs → place < length (cells_of rs) → behind ≤ length rs →
    IsPartitionPoint (λ r. leb r.before place ≡ true) (λ r. leb r.before place ≡ false) rs behind → (d : CellRun) → HasPlace rs (get_or rs k d) place
has_place rs place behind k is h within bound parted d =
    let r = get_or rs k d in
    let here : k < length rs = omega (arith, is, bound) in
    let low : r.before ≤ place = leb-true r.before place (parted.0 k d (omega arith) (omega (arith, is))) in
    let high : place < r.before + r.count = elim (cases_lt (suc k) (length rs)) [
      | inl more ↦
          let next : (get_or rs (suc k) d).before ≡ r.before + r.count = next_before 0 rs h k d more in
          let later : place < (get_or rs (suc k) d).before = leb-false (get_or rs (suc k) d).before place (parted.1 (suc k) d (omega (arith, is)) more) in
          omega (arith, next, later)
      | inr none ↦ (let end = last_end 0 rs h k d (omega (arith, none, is, bound)) in omega (arith, end, within))
    ] in (k, slice_get-get_or rs k d here, low, high)

-- the cell at a place
pub cell_at : (n : ℕ) (rs : List CellRun) → AreCounted n rs → (k : ℕ) (r : CellRun) → slice_get rs k ≡ Some r → (place e : ℕ) → r.before ≤ n + place → n + place < r.before + r.count →
    get_or (cells_of rs) place e ≡ r.first + (n + place - r.before)
cell_at n [] h k r at place e low high = absurd (let w = slice_get_within [] k r at in omega (arith, w))
cell_at n (x ∷ xs) h zero r at place e low high =
    let same = same_Some x r at in
    let begins : r.before ≡ n = ap (λ (y : CellRun). y.before) (sym same) ∙ h.0 in
    let first : x.first ≡ r.first = ap (λ (y : CellRun). y.first) same in
    let count : x.count ≡ r.count = ap (λ (y : CellRun). y.count) same in
    let own = length-range_with_len x.first x.count in
    let within : place < x.count = omega (arith, begins, count, high) in
    get_or-append (run_cells x) (cells_of xs) e place (omega (arith, own, within)) ∙ get_or-range_with_len x.first x.count place e within ∙ (let w : x.first + place ≡ r.first + (n + place - r.before) = omega (arith, first, begins) in w)
cell_at n (x ∷ xs) h (suc k) r at place e low high =
    let own = length-range_with_len x.first x.count in
    let there = slice_get_within xs k r at in
    let least = least_before (n + x.count) xs h.1 k r there in
    let is : get_or xs k r ≡ r = get_or_from_slice_get xs k r r at in
    let begins : n + x.count ≤ r.before = subst (λ (y : CellRun). n + x.count ≤ y.before) is least in
    let behind : x.count ≤ place = omega (arith, begins, low) in
    let rest = place - x.count in
    let right = get_or-append_right (run_cells x) (cells_of xs) place e (omega (arith, own, behind)) in
    let later = cell_at (n + x.count) xs h.1 k r at rest e (omega (arith, low, behind)) (omega (arith, high, behind)) in
    right ∙ ap (λ (i : ℕ). get_or (cells_of xs) i e) (let w : place - length (run_cells x) ≡ rest = omega (arith, own) in w) ∙ later ∙ (let w : r.first + (n + x.count + rest - r.before) ≡ r.first + (n + place - r.before) = omega (arith, behind) in w)

-- what is said of the last run, by its place
pub last_is : (rs : List CellRun) (first : ℕ) → EndsAt rs first → (d : CellRun) → (slice_get rs (length rs - 1) ≡ Some (get_or rs (length rs - 1) d)) × ((get_or rs (length rs - 1) d).first + (get_or rs (length rs - 1) d).count ≡ first)
last_is rs first h d =
    let k = h.0 in
    let place : length rs - 1 ≡ k = (let e = h.3 in omega (arith, e)) in
    let within : length rs - 1 < length rs = (let e = h.3 in omega (arith, e)) in
    let is : get_or rs (length rs - 1) d ≡ h.1 = ap (λ (i : ℕ). get_or rs i d) place ∙ get_or_from_slice_get rs k h.1 d h.2 in
    (slice_get-get_or rs (length rs - 1) d within, ap (λ (r : CellRun). r.first + r.count) is ∙ h.4)

-- a row that is one cell longer
pub range_more : (a n : ℕ) → range_with_len a (n + 1) ≡ range_with_len a n ++ (a + n) ∷ []
range_more a n = range_join a n 1

-- cells that follow one another, of which one more does
pub row_more_from : (cells : List ℕ) (first n : ℕ) → n < length cells → take n cells ≡ range_with_len first n → get_or cells n 0 ≡ first + n →
    take (n + 1) cells ≡ range_with_len first (n + 1)
row_more_from cells first n less before here =
    take_more cells n 0 less ∙ ap (λ (xs : List ℕ). xs ++ get_or cells n 0 ∷ []) before ∙ ap (λ (x : ℕ). range_with_len first n ++ x ∷ []) here ∙ sym (range_more first n)

pub row_more : (cells : List ℕ) (n : ℕ) → n < length cells → take n cells ≡ range_with_len (get_or cells 0 0) n → get_or cells n 0 ≡ get_or cells 0 0 + n →
    take (n + 1) cells ≡ range_with_len (get_or cells 0 0) (n + 1)
row_more cells n less before here = row_more_from cells (get_or cells 0 0) n less before here

-- the same as far as a test of each cell says so
pub row_more_if : (cells : List ℕ) (first n : ℕ) (all one : Bool) → n < length cells → OnTrue all (take n cells ≡ range_with_len first n) → (one ≡ true → get_or cells n 0 ≡ first + n) →
    OnTrue (all && one) (take (n + 1) cells ≡ range_with_len first (n + 1))
row_more_if cells first n false one less before here = tt
row_more_if cells first n true false less before here = tt
row_more_if cells first n true true less before here = row_more_from cells first n less before (here refl)

-- the first cells and those behind them up to a place, which follow
pub row_join : (cells : List ℕ) (first n end : ℕ) → n ≤ end → end ≤ length cells → take n cells ≡ range_with_len first n →
    take (end - n) (drop n cells) ≡ range_with_len (first + n) (length (take (end - n) (drop n cells))) → take end cells ≡ range_with_len first end
row_join cells first n end order within before behind =
    let rest = length-drop n cells in
    let long : length (take (end - n) (drop n cells)) ≡ end - n = length-take-le (end - n) (drop n cells) (omega (arith, rest, order, within)) in
    let all : n + (end - n) ≡ end = omega (arith, order) in
    let both : take (n + (end - n)) cells ≡ range_with_len first (n + (end - n)) =
    take-add n (end - n) cells ∙ ap (λ (xs : List ℕ). xs ++ take (end - n) (drop n cells)) before
    ∙ ap (λ (xs : List ℕ). range_with_len first n ++ xs) (behind ∙ ap (range_with_len (first + n)) long) ∙ sym (range_join first n (end - n)) in
    subst (λ (k : ℕ). take k cells ≡ range_with_len first k) all both

-- the cells up to a place, and those behind it that follow one another
pub row_behind : (cells : List ℕ) (place count : ℕ) → place < length cells → (first : ℕ) → get_or cells place 0 ≡ first →
    take count (take (length cells - place) (drop place cells)) ≡ range_with_len (get_or (take (length cells - place) (drop place cells)) 0 0) count →
    take (place + count) cells ≡ take place cells ++ range_with_len first count
row_behind cells place count less first is row =
    let rest : take (length cells - place) (drop place cells) ≡ drop place cells = take_rest cells place in
    let here : get_or (drop place cells) 0 0 ≡ first = get_or-drop place cells 0 0 ∙ ap (λ (i : ℕ). get_or cells i 0) (let e : place + 0 ≡ place = omega arith in e) ∙ is in
    let run : take count (drop place cells) ≡ range_with_len first count =
    subst (λ (xs : List ℕ). take count xs ≡ range_with_len (get_or xs 0 0) count) rest row ∙ ap (λ (a : ℕ). range_with_len a count) here in
    take-add place count cells ∙ ap (λ (xs : List ℕ). take place cells ++ xs) run

-- the last of cells that follow one another
pub row_last : (cells : List ℕ) (place count : ℕ) → 0 < count → place + count ≤ length cells → take (place + count) cells ≡ take place cells ++ range_with_len (get_or cells place 0) count →
    get_or cells (place + count - 1) 0 ≡ get_or cells place 0 + (count - 1)
row_last cells place count some within is =
    let first = get_or cells place 0 in
    let i = place + count - 1 in
    let before = take place cells in
    let long : length before ≡ place = length-take-le place cells (omega (arith, within)) in
    let rest : i - length before ≡ count - 1 = omega (arith, long, some) in
    sym (get_or-take (place + count) cells i 0 (omega (arith, some))) ∙ ap (λ (xs : List ℕ). get_or xs i 0) is ∙ get_or-append_right before (range_with_len first count) i 0 (omega (arith, long, some))
    ∙ ap (λ (n : ℕ). get_or (range_with_len first count) n 0) rest ∙ get_or-range_with_len first count (count - 1) 0 (omega (arith, some))
