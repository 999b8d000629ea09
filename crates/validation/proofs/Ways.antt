-- Ways to lines, through the lines of a statement.
use Rattle.std.proofs.Common.{◌≡◌, ℕ, zero, suc, ◌+◌, ◌-◌, ◌<◌, ◌≤◌, List, [], ◌∷◌, ◌++◌, take, length, Bool, true, false, Option, Some, None, refl, sym, ap, ◌∙◌, subst, arith}
use Rattle.std.specs.Prelude.{◌==◌, nat_lt, if◌then◌else◌}
use Rattle.std.proofs.lemmas.Bool.Decides.{nat_tests}
use Rattle.plan.specs.Plan.{Statement, Seq, For, Let, First, Guard, Alloc, Fetch, Store, Publish, Statements, Then}
use Rattle.plan.specs.Lines.{lines}
use Rattle.validation.specs.declared.certificate.placing.Way.{Way}
use Rattle.validation.specs.declared.certificate.placing.Way.TheVariants.{Ends, Within, Past}
use Rattle.validation.specs.Groups.Lines.{buffers_after, symbols_after}
use Rattle.validation.specs.Certificate.Placing.{Spot, in_loop, past, ends_at, in_body, spot_at, block_spot_at}
use Rattle.validation.specs.Certificate.Ways.{IsWay}

if_true : {A : Type 0} (t : Bool) (a b : A) → t ≡ true → (if t then a else b) ≡ a
if_true true a b e = refl
if_true false a b e = absurd (cc)

if_false : {A : Type 0} (t : Bool) (a b : A) → t ≡ false → (if t then a else b) ≡ b
if_false true a b e = absurd (cc)
if_false false a b e = refl

lt_true : (m n : ℕ) → m < n → nat_lt m n ≡ true
lt_true m n h = grind (arith, nat_tests)

lt_false : (m n : ℕ) → n ≤ m → nat_lt m n ≡ false
lt_false m n h = grind (arith, nat_tests)

eq_true : (m n : ℕ) → m ≡ n → (m == n) ≡ true
eq_true m n h = grind (arith, nat_tests)

-- the line that ends a body of so many lines
in_body-end : (count k : ℕ) (inner : Option Spot) (x : Spot) → k ≡ count → in_body count k inner x ≡ Some x
in_body-end count k inner x e =
    if_false (nat_lt k count) inner (ends_at x count k) (lt_false k count (omega arith)) ∙ if_true (count == k) (Some x) None (eq_true count k (sym e))

no_spot : (x : Spot) (e : Some x ≡ None) → ⊥
no_spot x e = cc

-- behind the lines of a body: the line that ends it, or a later one
body_past : (count n k : ℕ) (inner : Option Spot) (old new : Spot) (way : Way) → count + n ≡ k → new ≡ old → IsWay 1 (ends_at new 0 n) n new new way
    → IsWay (count + 2) (in_body count k inner old) (suc k) old new way
body_past count n k inner old new Ends e same w = (omega (arith, w.0), in_body-end count k inner old (omega (arith, w.0)) ∙ ap (λ (x : Spot). Some x) (sym same))
body_past count n k inner old new Within e same w = absurd (no_spot new (sym (if_true (0 == n) (Some new) None (eq_true 0 n (omega (arith, w.0)))) ∙ w.1))
body_past count n k inner old new (Past m) e same w = (omega (arith, w.0), same)

-- past the lines of a statement all is as before
pub is_past : (count k n : ℕ) (at : Option Spot) (old new : Spot) (met : Way) → met ≡ Past n → IsWay count at k old new met → (count + n ≡ k) × (new ≡ old)
is_past count k n at old new met is h = subst (λ (m : Way). IsWay count at k old new m) is h

-- the same for the line of which the body is a part
pub body_way : (count l k n : ℕ) (inner : Option Spot) (whole : ℕ → Option Spot) (old new : Spot) (way : Way) → l ≡ suc k → count + n ≡ k → new ≡ old
    → IsWay 1 (ends_at new 0 n) n new new way → whole (suc k) ≡ in_body count k inner old → IsWay (count + 2) (whole l) l old new way
body_way count l k n inner whole old new way e behind same w f =
    subst (λ (j : ℕ). IsWay (count + 2) (whole j) j old new way) (sym e)
    (subst (λ (o : Option Spot). IsWay (count + 2) o (suc k) old new way) (sym f) (body_past count n k inner old new way behind same w))

take_front : (zs : List ℕ) (i n : ℕ) → n ≡ length zs → take n (zs ++ i ∷ []) ≡ zs
take_front [] i zero e = refl
take_front [] i (suc n) e = absurd (omega (arith, e))
take_front (z ∷ zs) i zero e = absurd (omega (arith, e))
take_front (z ∷ zs) i (suc n) e = ap (λ (xs : List ℕ). z ∷ xs) (take_front zs i n (omega (arith, e)))

-- out of a loop all is as before it
pub left_loop : (i n m : ℕ) (symbols loops : List ℕ) (inner old : Spot) → inner ≡ in_loop i old → n ≡ length old.symbols → symbols ≡ take n inner.symbols
    → m ≡ length old.loops → loops ≡ take m inner.loops → ◌≡◌ {A = Spot} (record { symbols = symbols; loops = loops; buffers = inner.buffers }) old
left_loop i n m symbols loops inner old e long is deep are =
    let same : symbols ≡ old.symbols = is ∙ ap (λ (x : Spot). take n x.symbols) e ∙ take_front old.symbols i n long in
    let round : loops ≡ old.loops = are ∙ ap (λ (x : Spot). take m x.loops) e ∙ take_front old.loops i m deep in
    λ j. record { symbols = same j; loops = round j; buffers = ap (λ (x : Spot). x.buffers) e j }

-- ---- blocks

-- a line behind the first statement of a block
pub block_past : (a : Statement) (rest : Statements) (x : Spot) (k n : ℕ) → lines a + n ≡ k → block_spot_at (Then a rest) x k ≡ block_spot_at rest (past a x) n
block_past a rest x k n e =
    let left : k - lines a ≡ n = omega (arith, e) in
    if_false (nat_lt k (lines a)) (spot_at a x k) (block_spot_at rest (past a x) (k - lines a)) (lt_false k (lines a) (omega (arith, e)))
    ∙ ap (block_spot_at rest (past a x)) left

-- a line of it
pub block_here : (a : Statement) (rest : Statements) (x : Spot) (k : ℕ) → k < lines a → block_spot_at (Then a rest) x k ≡ spot_at a x k
block_here a rest x k h = if_true (nat_lt k (lines a)) (spot_at a x k) (block_spot_at rest (past a x) (k - lines a)) (lt_true k (lines a) h)

take_one : (n : ℕ) (bs : List ℕ) (b : ℕ) → n ≤ length bs → take n (bs ++ b ∷ []) ≡ take n bs
take_one zero bs b h = refl
take_one (suc n) [] b h = absurd (omega (arith, h))
take_one (suc n) (c ∷ bs) b h = ap (λ (xs : List ℕ). c ∷ xs) (take_one n bs b (omega (arith, h)))

-- the symbols and the buffers of the outer blocks stay
pub outer_symbols_stay : (a : Statement) (n : ℕ) (xs : List ℕ) → n ≤ length xs → take n (symbols_after a xs) ≡ take n xs
outer_symbols_stay (Let i pick ls) n xs h = take_one n xs i h
outer_symbols_stay (Seq all) n xs h = refl
outer_symbols_stay (For i x kind body) n xs h = refl
outer_symbols_stay (First i a b) n xs h = refl
outer_symbols_stay (Guard low high body) n xs h = refl
outer_symbols_stay (Alloc b f places) n xs h = refl
outer_symbols_stay (Fetch b g region) n xs h = refl
outer_symbols_stay (Store b k at e) n xs h = refl
outer_symbols_stay (Publish c) n xs h = refl

pub outer_stay : (a : Statement) (n : ℕ) (bs : List ℕ) → n ≤ length bs → take n (buffers_after a bs) ≡ take n bs
outer_stay (Alloc b f places) n bs h = take_one n bs b h
outer_stay (Seq all) n bs h = refl
outer_stay (For i x kind body) n bs h = refl
outer_stay (Let i pick ls) n bs h = refl
outer_stay (First i a b) n bs h = refl
outer_stay (Guard low high body) n bs h = refl
outer_stay (Fetch b g region) n bs h = refl
outer_stay (Store b k at e) n bs h = refl
outer_stay (Publish c) n bs h = refl
