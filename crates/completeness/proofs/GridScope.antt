-- What the checker's binders tell of the symbols of a grid is what is known of them while the plan is made.
use Rattle.std.proofs.Common.{◌≡◌, ℕ, zero, suc, ◌+◌, ◌<◌, ◌≤◌, ◌^◌, Bool, true, false, List, [], ◌∷◌, ◌++◌, length, map, Some, refl, sym, ap, ◌∙◌, arith}
use Rattle.std.proofs.Common.{append_assoc}
use Rattle.std.specs.Prelude.{ℤ, pos, ◌-ℤ◌, ◌&&◌, ◌==◌, min, if◌then◌else◌, slice_get}
use Rattle.std.specs.List.{AllByRecursion, range_with_len}
use Rattle.std.specs.Int.RustNames.{unsigned_abs}
use Rattle.std.proofs.lemmas.Bool.{le-leb}
use Rattle.std.proofs.lemmas.Bool.Decides.{nat_tests}
use Rattle.std.proofs.lemmas.Int.{ints}
use Rattle.lin.specs.Forms.{Form, number, is_within_limits}
use Rattle.lin.specs.declared.scope.Binding.{Binding}
use Rattle.lin.specs.declared.scope.Binding.TheVariants.{Loop}
use Rattle.lin.specs.declared.span.Span1.{Span1}
use Rattle.plan.specs.declared.stmt.Pick.{Pick}
use Rattle.soundness.specs.Obligations.{Binder, Ranged, Picked, Passed, anything}
use Rattle.soundness.specs.Binders.View.{grid_span, grid_from, grid_binders}
use Rattle.rules.specs.Bounding.Scopes.{most_symbols, limited, picked_binding, binding_of, symbol_count, scope_of}
use Rattle.sched.specs.Around.{grid_symbol, grid_scope}
use Rattle.completeness.proofs.GridCounts.{IsShort}

-- ---- numbers are forms within the limits

pub number_limited : (z : ℤ) → unsigned_abs z ≤ 2 ^ 40 → is_within_limits (number z) ≡ true
number_limited z h = le-leb (unsigned_abs z) (2 ^ 40) h

last_near : (n : ℕ) → n < 4294967296 → unsigned_abs (pos n -ℤ pos 1) ≤ 2 ^ 40
last_near n less = omega (arith, ints, less)

span_limited : (n : ℕ) → IsShort n → limited (grid_span n) ≡ grid_span n
span_limited n less =
    let last = number_limited (pos n -ℤ pos 1) (last_near n less) in
    ap (λ (b : Bool). if b && true then grid_span n else anything) last

-- ---- the binders of a grid

skips : (i : ℕ) (ns : List ℕ) (bs : List Binder) (s : ℕ) → s < i → binding_of (grid_from i ns ++ bs) s ≡ binding_of bs s
skips i [] bs s less = refl
skips i (n ∷ ns) bs s less =
    let differs : (i == s) ≡ false = grind (arith, nat_tests) in
    ap (λ (xs : List Binder). binding_of xs s) (append_assoc (grid_from (i + 1) ns) (Ranged i (grid_span n) ∷ []) bs)
    ∙ skips (i + 1) ns (Ranged i (grid_span n) ∷ bs) s (omega (arith, less))
    ∙ ap (λ (b : Bool). if b then Loop (limited (grid_span n)) else binding_of bs s) differs

same_test : (i : ℕ) → (i == i) ≡ true
same_test i = grind (arith, nat_tests)

tells : (i : ℕ) (ns : List ℕ) (bs : List Binder) (j n : ℕ) → AllByRecursion IsShort ns → slice_get ns j ≡ Some n → binding_of (grid_from i ns ++ bs) (i + j) ≡ grid_symbol n
tells i [] bs j n few at = absurd (cc at)
tells i (m ∷ ns) bs zero n few at =
    let one : m ≡ n = cc at in
    let none : i + 0 ≡ i = omega arith in
    ap (λ (xs : List Binder). binding_of xs (i + 0)) (append_assoc (grid_from (i + 1) ns) (Ranged i (grid_span m) ∷ []) bs)
    ∙ ap (binding_of (grid_from (i + 1) ns ++ Ranged i (grid_span m) ∷ bs)) none
    ∙ skips (i + 1) ns (Ranged i (grid_span m) ∷ bs) i (omega arith)
    ∙ ap (λ (b : Bool). if b then Loop (limited (grid_span m)) else binding_of bs i) (same_test i)
    ∙ ap (λ (x : Span1). Loop x) (span_limited m few.0)
    ∙ ap grid_symbol one
tells i (m ∷ ns) bs (suc j) n few at =
    let next : i + suc j ≡ (i + 1) + j = omega arith in
    ap (λ (xs : List Binder). binding_of xs (i + suc j)) (append_assoc (grid_from (i + 1) ns) (Ranged i (grid_span m) ∷ []) bs)
    ∙ ap (binding_of (grid_from (i + 1) ns ++ Ranged i (grid_span m) ∷ bs)) next
    ∙ tells (i + 1) ns (Ranged i (grid_span m) ∷ bs) j n few.1 at

count_first : (xs ys : List Binder) → symbol_count xs ≤ symbol_count (xs ++ ys)
count_first [] ys = omega arith
count_first (Ranged j x ∷ xs) ys = (let rest = count_first xs ys in omega (arith, rest))
count_first (Picked j pick fs ∷ xs) ys = (let rest = count_first xs ys in omega (arith, rest))
count_first (Passed low high ∷ xs) ys = count_first xs ys

counts : (i : ℕ) (n : ℕ) (ns : List ℕ) → i + suc (length ns) ≤ symbol_count (grid_from i (n ∷ ns))
counts i n [] = omega arith
counts i n (m ∷ ns) =
    let rest = counts (i + 1) m ns in
    let all = count_first (grid_from (i + 1) (m ∷ ns)) (Ranged i (grid_span n) ∷ []) in
    omega (arith, rest, all)

grid_count : (ns : List ℕ) → length ns ≤ symbol_count (grid_binders ns)
grid_count [] = omega arith
grid_count (n ∷ ns) = (let all = counts 0 n ns in omega (arith, all))

-- ---- with lets over the grid

-- these binders tell the same of the grid's symbols, and bind as many
pub record TellsGrid (grid : List ℕ) (bs : List Binder) : Type 0 where
  pub tells : (j n : ℕ) → slice_get grid j ≡ Some n → binding_of bs j ≡ grid_symbol n
  pub many : length grid ≤ symbol_count bs

none_behind : (bs : List Binder) → bs ++ [] ≡ bs
none_behind [] = refl
none_behind (b ∷ bs) = ap (λ (xs : List Binder). b ∷ xs) (none_behind bs)

pub grid_tells : (grid : List ℕ) → AllByRecursion IsShort grid → TellsGrid grid (grid_binders grid)
grid_tells grid few = record {
  tells = λ j n at. sym (ap (λ (xs : List Binder). binding_of xs j) (none_behind (grid_binders grid))) ∙ (let none : 0 + j ≡ j = omega arith in
      sym (ap (binding_of (grid_from 0 grid ++ [])) none) ∙ tells 0 grid [] j n few at);
  many = grid_count grid;
}

within_grid : (ns : List ℕ) (j n : ℕ) → slice_get ns j ≡ Some n → j < length ns
within_grid [] j n at = absurd (cc at)
within_grid (m ∷ ns) zero n at = omega arith
within_grid (m ∷ ns) (suc j) n at = (let rest = within_grid ns j n at in omega (arith, rest))

-- a let over the grid binds another symbol
pub let_tells : (grid : List ℕ) (bs : List Binder) (i : ℕ) (pick : Pick) (fs : List Form) → length grid ≤ i → TellsGrid grid bs → TellsGrid grid (Picked i pick fs ∷ bs)
let_tells grid bs i pick fs behind h = record {
  tells = λ j n at.
      let less = within_grid grid j n at in
      let differs : (i == j) ≡ false = grind (arith, nat_tests) in
      ap (λ (b : Bool). if b then picked_binding pick fs else binding_of bs j) differs ∙ h.tells j n at;
  many = (let rest = h.many in omega (arith, rest));
}

-- ---- the scope

pub at_place : (f : ℕ → Binding) (a k n : ℕ) → n < k → slice_get (map f (range_with_len a k)) n ≡ Some (f (a + n))
at_place f a zero n less = absurd (omega (arith, less))
at_place f a (suc k) zero less = (let none : a ≡ a + 0 = omega arith in ap (λ (m : ℕ). Some (f m)) none)
at_place f a (suc k) (suc n) less =
    let next : (a + 1) + n ≡ a + suc n = omega arith in
    at_place f (a + 1) k n (omega (arith, less)) ∙ ap (λ (m : ℕ). Some (f m)) next

pub scope_long : (f : ℕ → Binding) (a k : ℕ) → length (map f (range_with_len a k)) ≡ k
scope_long f a zero = refl
scope_long f a (suc k) = ap suc (scope_long f (a + 1) k)

grid_at : (ns : List ℕ) (j : ℕ) → j < length ns → (n : ℕ) × (slice_get ns j ≡ Some n) × (slice_get (grid_scope ns) j ≡ Some (grid_symbol n))
grid_at [] j less = absurd (omega (arith, less))
grid_at (m ∷ ns) zero less = (m, refl, refl)
grid_at (m ∷ ns) (suc j) less = grid_at ns j (omega (arith, less))

pub grid_long : (ns : List ℕ) → length (grid_scope ns) ≡ length ns
grid_long [] = refl
grid_long (n ∷ ns) = ap suc (grid_long ns)

module _ (grid : List ℕ) (few : length grid ≤ most_symbols) (bs : List Binder) (h : TellsGrid grid bs) where
  pub scope_more : length grid ≤ length (scope_of bs)
  scope_more =
      let long = scope_long (binding_of bs) 0 (min (symbol_count bs) most_symbols) in
      let many = h.many in
      omega (arith, long, many, few)

  pub scope_agrees : (j : ℕ) → j < length grid → slice_get (grid_scope grid) j ≡ slice_get (scope_of bs) j
  scope_agrees j less =
      let g = grid_at grid j less in
      let many = h.many in
      let within : j < min (symbol_count bs) most_symbols = omega (arith, less, many, few) in
      let none : 0 + j ≡ j = omega arith in
      g.2 ∙ ap (λ (b : Binding). Some b) (sym (h.tells j g.0 g.1))
      ∙ sym (at_place (binding_of bs) 0 (min (symbol_count bs) most_symbols) j within ∙ ap (λ (m : ℕ). Some (binding_of bs m)) none)
