-- What the checker's binders tell of the symbols of a grid, and of a loop more, is what is known of them where calls are bounded.
use Rattle.std.proofs.Common.{◌≡◌, ℕ, zero, suc, ◌+◌, ◌-◌, ◌<◌, ◌≤◌, Bool, true, false, ◌&&◌, List, [], ◌∷◌, ◌++◌, length, map, min, Some, refl, sym, ap, ◌∙◌, arith}
use Rattle.std.specs.Prelude.{◌==◌, if◌then◌else◌, replicate, slice_get}
use Rattle.std.specs.List.{AllByRecursion, list_all, range_with_len}
use Rattle.std.proofs.lemmas.Bool.Decides.{nat_tests}
use Rattle.lin.specs.Forms.{Form, is_within_limits}
use Rattle.lin.specs.declared.scope.Binding.{Binding}
use Rattle.lin.specs.declared.scope.Binding.TheVariants.{Loop}
use Rattle.lin.specs.declared.span.Span1.{Span1}
use Rattle.plan.specs.declared.stmt.Pick.{Pick}
use Rattle.soundness.specs.Obligations.{Binder, Ranged, Picked, Passed, anything}
use Rattle.soundness.specs.Binders.View.{grid_from, grid_binders}
use Rattle.rules.specs.Bounding.Scopes.{most_symbols, limited, picked_binding, binding_of, symbol_count, scope_of}
use Rattle.sched.specs.Around.{skip_to, bind, grid_symbol, grid_scope}
use Rattle.completeness.proofs.Limited.{AreLimited}
use Rattle.completeness.proofs.GridCounts.{IsShort}
use Rattle.completeness.proofs.GridScope.{grid_tells, scope_long}

-- ---- ranges

range_parts : (a m n : ℕ) → range_with_len a (m + n) ≡ range_with_len a m ++ range_with_len (a + m) n
range_parts a zero n = (let none : a ≡ a + 0 = omega arith in let same : zero + n ≡ n = omega arith in ap (range_with_len a) same ∙ ap (λ (b : ℕ). range_with_len b n) none)
range_parts a (suc m) n =
    let same : suc m + n ≡ suc (m + n) = omega arith in
    let next : (a + 1) + m ≡ a + suc m = omega arith in
    ap (range_with_len a) same ∙ ap (λ (xs : List ℕ). a ∷ xs) (range_parts (a + 1) m n ∙ ap (λ (b : ℕ). range_with_len (a + 1) m ++ range_with_len b n) next)

pub map_both : {A B : Type 0} (f : A → B) (xs ys : List A) → map f (xs ++ ys) ≡ map f xs ++ map f ys
map_both f [] ys = refl
map_both f (x ∷ xs) ys = ap (λ zs. f x ∷ zs) (map_both f xs ys)

-- what two tell of each number of a range
map_same : {B : Type 0} (f g : ℕ → B) (a n : ℕ) → ((j : ℕ) → a ≤ j → j < a + n → f j ≡ g j) → map f (range_with_len a n) ≡ map g (range_with_len a n)
map_same f g a zero h = refl
map_same f g a (suc n) h =
    let here = h a (omega arith) (omega arith) in
    let rest = map_same f g (a + 1) n (λ j low less. h j (omega (arith, low)) (omega (arith, less))) in
    λ i. here i ∷ rest i

map_all : {B : Type 0} (f : ℕ → B) (b : B) (a n : ℕ) → ((j : ℕ) → a ≤ j → j < a + n → f j ≡ b) → map f (range_with_len a n) ≡ replicate n b
map_all f b a zero h = refl
map_all f b a (suc n) h =
    let here = h a (omega arith) (omega arith) in
    let rest = map_all f b (a + 1) n (λ j low less. h j (omega (arith, low)) (omega (arith, less))) in
    λ i. here i ∷ rest i

-- ---- symbols behind all that are bound

unbound : (bs : List Binder) (j : ℕ) → symbol_count bs ≤ j → binding_of bs j ≡ Loop anything
unbound [] j le = refl
unbound (Ranged i x ∷ bs) j le =
    let differs : (i == j) ≡ false = grind (arith, nat_tests, le) in
    ap (λ (v : Bool). if v then Loop (limited x) else binding_of bs j) differs ∙ unbound bs j (omega (arith, le))
unbound (Picked i pick fs ∷ bs) j le =
    let differs : (i == j) ≡ false = grind (arith, nat_tests, le) in
    ap (λ (v : Bool). if v then picked_binding pick fs else binding_of bs j) differs ∙ unbound bs j (omega (arith, le))
unbound (Passed low high ∷ bs) j le = unbound bs j le

-- one more symbol, of which this is told
module _ (bs cs : List Binder) (i : ℕ) (b : Binding) (behind : symbol_count bs ≤ i) (few : i < most_symbols) (count : symbol_count cs ≡ suc i) (here : binding_of cs i ≡ b)
    (others : (j : ℕ) → j < i → binding_of cs j ≡ binding_of bs j) where
  more_bound : scope_of cs ≡ bind (scope_of bs) i b
  more_bound =
      let c = symbol_count bs in
      let all : min (symbol_count cs) most_symbols ≡ i + 1 = omega (arith, count, few) in
      let low : min c most_symbols ≡ c = omega (arith, behind, few) in
      let parts : i ≡ c + (i - c) = omega (arith, behind) in
      let none : 0 + i ≡ i = omega arith in
      let long : length (scope_of bs) ≡ c = scope_long (binding_of bs) 0 (min c most_symbols) ∙ low in
      let first : map (binding_of cs) (range_with_len 0 i) ≡ map (binding_of bs) (range_with_len 0 i) =
      map_same (binding_of cs) (binding_of bs) 0 i (λ j l less. others j (omega (arith, less))) in
      let split : map (binding_of bs) (range_with_len 0 i) ≡ map (binding_of bs) (range_with_len 0 c) ++ replicate (i - c) (Loop anything) =
      ap (λ (n : ℕ). map (binding_of bs) (range_with_len 0 n)) parts ∙ ap (map (binding_of bs)) (range_parts 0 c (i - c))
      ∙ map_both (binding_of bs) (range_with_len 0 c) (range_with_len (0 + c) (i - c))
      ∙ ap (λ zs. map (binding_of bs) (range_with_len 0 c) ++ zs) (map_all (binding_of bs) (Loop anything) (0 + c) (i - c) (λ j l less. unbound bs j (omega (arith, l)))) in
      let old : map (binding_of bs) (range_with_len 0 c) ≡ scope_of bs = sym (ap (λ (n : ℕ). map (binding_of bs) (range_with_len 0 n)) low) in
      let skipped : map (binding_of cs) (range_with_len 0 i) ≡ skip_to (scope_of bs) i =
      first ∙ split ∙ ap (λ zs. zs ++ replicate (i - c) (Loop anything)) old ∙ ap (λ (n : ℕ). scope_of bs ++ replicate (i - n) (Loop anything)) (sym long) in
      let last : binding_of cs (0 + i) ∷ [] ≡ b ∷ [] = (ap (λ (n : ℕ). binding_of cs n ∷ []) none ∙ ap (λ z. z ∷ []) here) in
      ap (λ (n : ℕ). map (binding_of cs) (range_with_len 0 n)) all ∙ ap (map (binding_of cs)) (range_parts 0 i 1) ∙ map_both (binding_of cs) (range_with_len 0 i) (range_with_len (0 + i) 1)
      ∙ (λ k. skipped k ++ last k)

-- ---- one step

all_limited : (fs : List Form) → AreLimited fs → list_all is_within_limits fs ≡ true
all_limited [] h = refl
all_limited (f ∷ fs) h = (let here = h.0 in let rest = all_limited fs h.1 in λ i. here i && rest i)

pub span_stays : (x : Span1) → AreLimited x.lower → AreLimited x.upper → limited x ≡ x
span_stays x low high = (let one = all_limited x.lower low in let two = all_limited x.upper high in λ i. if one i && two i then x else anything)

same_test : (i : ℕ) → (i == i) ≡ true
same_test i = grind (arith, nat_tests)

loop_more : (bs : List Binder) (i : ℕ) (x : Span1) → symbol_count bs ≤ i → i < most_symbols → AreLimited x.lower → AreLimited x.upper → scope_of (Ranged i x ∷ bs) ≡ bind (scope_of bs) i (Loop x)
loop_more bs i x behind few low high =
    more_bound bs (Ranged i x ∷ bs) i (Loop x) behind few (omega (arith, behind))
    (ap (λ (v : Bool). if v then Loop (limited x) else binding_of bs i) (same_test i) ∙ ap (λ (y : Span1). Loop y) (span_stays x low high))
    (λ j less. let differs : (i == j) ≡ false = grind (arith, nat_tests, less) in ap (λ (v : Bool). if v then Loop (limited x) else binding_of bs j) differs)

pub let_more : (bs : List Binder) (i : ℕ) (pick : Pick) (fs : List Form) → symbol_count bs ≤ i → i < most_symbols → scope_of (Picked i pick fs ∷ bs) ≡ bind (scope_of bs) i (picked_binding pick fs)
let_more bs i pick fs behind few =
    more_bound bs (Picked i pick fs ∷ bs) i (picked_binding pick fs) behind few (omega (arith, behind))
    (ap (λ (v : Bool). if v then picked_binding pick fs else binding_of bs i) (same_test i))
    (λ j less. let differs : (i == j) ≡ false = grind (arith, nat_tests, less) in ap (λ (v : Bool). if v then picked_binding pick fs else binding_of bs j) differs)

-- ---- the grid

count_both : (xs ys : List Binder) (m : ℕ) → symbol_count xs ≤ m → symbol_count ys ≤ m → symbol_count (xs ++ ys) ≤ m
count_both [] ys m h k = k
count_both (Ranged j x ∷ xs) ys m h k = (let rest = count_both xs ys m (omega (arith, h)) k in omega (arith, rest, h))
count_both (Picked j pick fs ∷ xs) ys m h k = (let rest = count_both xs ys m (omega (arith, h)) k in omega (arith, rest, h))
count_both (Passed low high ∷ xs) ys m h k = count_both xs ys m h k

pub count_from : (i : ℕ) (ns : List ℕ) → symbol_count (grid_from i ns) ≤ i + length ns
count_from i [] = omega arith
count_from i (n ∷ ns) =
    let rest = count_from (i + 1) ns in
    count_both (grid_from (i + 1) ns) (Ranged i _ ∷ []) (i + length (n ∷ ns)) (omega (arith, rest)) (omega arith)

map_grid : (f : ℕ → Binding) (a : ℕ) (ns : List ℕ) → ((j n : ℕ) → slice_get ns j ≡ Some n → f (a + j) ≡ grid_symbol n) → map f (range_with_len a (length ns)) ≡ grid_scope ns
map_grid f a [] h = refl
map_grid f a (n ∷ ns) h =
    let none : a ≡ a + 0 = omega arith in
    let here : f a ≡ grid_symbol n = ap f none ∙ h 0 n refl in
    let rest = map_grid f (a + 1) ns (λ j m at. let next : (a + 1) + j ≡ a + suc j = omega arith in ap f next ∙ h (suc j) m at) in
    λ i. here i ∷ rest i

pub grid_is : (grid : List ℕ) → AllByRecursion IsShort grid → length grid ≤ most_symbols → scope_of (grid_binders grid) ≡ grid_scope grid
grid_is grid short few =
    let t = grid_tells grid short in
    let many = t.many in
    let under = count_from 0 grid in
    let all : min (symbol_count (grid_binders grid)) most_symbols ≡ length grid = omega (arith, many, under, few) in
    ap (λ (n : ℕ). map (binding_of (grid_binders grid)) (range_with_len 0 n)) all
    ∙ map_grid (binding_of (grid_binders grid)) 0 grid (λ j n at. let none : 0 + j ≡ j = omega arith in ap (binding_of (grid_binders grid)) none ∙ t.tells j n at)

-- ---- down to the store

pub loop_scope : (scope : List Binding) (n i : ℕ) (x : Span1) (bs : List Binder) → i ≡ n → i < most_symbols → AreLimited x.lower → AreLimited x.upper → scope_of bs ≡ scope → symbol_count bs ≤ n →
    (scope_of (Ranged i x ∷ bs) ≡ bind scope i (Loop x)) × (symbol_count (Ranged i x ∷ bs) ≤ n + 1)
loop_scope scope n i x bs first few low high is count = (
  loop_more bs i x (omega (arith, count, first)) few low high ∙ ap (λ (sc : List Binding). bind sc i (Loop x)) is,
  omega (arith, count, first),
)
