-- Reductions past the limits.
use Rattle.std.proofs.Common.{◌≡◌, ℕ, zero, suc, ◌<◌, ◌≤◌, ◌*◌, ◌-◌, ◌^◌, true, false, pos, negsuc, neg_ℤ, ◌≤ℤ◌, List, [], ◌∷◌, Some, sym, ap, subst, IsTrue, arith, inr}
use Rattle.std.specs.Prelude.{map, slice_get, nat_eq, nat_lt, min}
use Rattle.std.proofs.lemmas.Int.{ints}
use Rattle.std.proofs.Math.Nat.{mul-le-mul, min-le_left}
use Rattle.std.proofs.lemmas.Bool.Decides.{nat_tests}
use Rattle.std.specs.List.{AllByRecursion}
use Rattle.std.proofs.lemmas.List.Elements.{recursion_from_All}
use Rattle.meaning.specs.Conditions.{IsRange}
use Rattle.meaning.specs.Reduction.{size}
use Rattle.expr.specs.Statements.Text.{DomainText, signed}
use Rattle.expr.specs.Statements.View.{domain_text, update_text, statement_text}
use Rattle.expr.specs.declared.statements.statement.Domain.{Domain}
use Rattle.expr.specs.declared.statements.statement.UpdateStatement.{UpdateStatement}
use Rattle.expr.specs.declared.statements.statement.Statement.{Statement}
use Rattle.expr.specs.declared.statements.statement.Statement.TheVariants.{Update}
use Rattle.expr.specs.declared.statements.statement.File.{File}
use Rattle.algo.specs.Saying.{range_said}
use Rattle.algo.specs.Keeping.{DomainLimits}
use Rattle.algo.specs.declared.error.AlgoError.{AlgoError}
use Rattle.algo.specs.declared.error.AlgoError.TheVariants.{Memory}
use Rattle.crop.specs.declared.scene_error.SceneError.{SceneError}
use Rattle.crop.specs.declared.scene_error.SceneError.TheVariants.{Text, Reduction}
use Rattle.crop.specs.Reductions.{HasUpdate, IsNamed, Answers}
use Rattle.crop.proofs.NarrowText.{no_pair}

-- an end past the limits
less_is : (n : ℕ) → IsTrue (nat_lt 8192 n) → 8192 < n
less_is n t = grind (arith, nat_tests)

pub same_number : (m n : ℕ) → nat_eq m n ≡ true → m ≡ n
same_number m n e = grind (arith, nat_tests)

pub high_large : (d : Domain) → d.high.negative ≡ false → IsTrue (nat_lt 8192 d.high.number) → ¬ IsRange (range_said (domain_text d))
high_large d sign big h =
    let e : signed d.high.negative d.high.number ≡ pos d.high.number = ap (λ b. signed b d.high.number) sign in
    let to : signed d.high.negative d.high.number ≤ℤ pos 8192 = h.to in
    let less = less_is d.high.number big in
    omega (arith, ints, e, to, less)

pub low_large : (d : Domain) → d.low.negative ≡ true → IsTrue (nat_lt 8192 d.low.number) → ¬ IsRange (range_said (domain_text d))
low_large d sign big h =
    let e : signed d.low.negative d.low.number ≡ neg_ℤ (pos d.low.number) = ap (λ b. signed b d.low.number) sign in
    let from : negsuc 8191 ≤ℤ signed d.low.negative d.low.number = h.from in
    let less = less_is d.low.number big in
    omega (arith, ints, e, from, less)

same_item : {X : Type 0} {x y : X} → Some x ≡ Some y → x ≡ y
same_item e = cc

range_at : (ds : List Domain) (i : ℕ) (d : Domain) → slice_get ds i ≡ Some d → AllByRecursion IsRange (map range_said (map domain_text ds)) → IsRange (range_said (domain_text d))
range_at [] i d e h = absurd (no_pair e)
range_at (x ∷ xs) zero d e h = subst (λ (y : Domain). IsRange (range_said (domain_text y))) (same_item e) h.0
range_at (x ∷ xs) (suc i) d e h = range_at xs i d e h.1

-- a range that is past the limits is none of a domain within them
pub large_stands : (ds : List Domain) (i : ℕ) (d : Domain) → slice_get ds i ≡ Some d → ¬ IsRange (range_said (domain_text d)) → ¬ DomainLimits (map domain_text ds)
large_stands ds i d e past h = past (range_at ds i d e (recursion_from_All IsRange (map range_said (map domain_text ds)) h.ranges))

statement_at : (ss : List Statement) (k : ℕ) (s : Statement) → slice_get ss k ≡ Some s → slice_get (map statement_text ss) k ≡ Some (statement_text s)
statement_at [] k s e = absurd (no_pair e)
statement_at (x ∷ xs) zero s e = ap (λ (y : Statement). Some (statement_text y)) (same_item e)
statement_at (x ∷ xs) (suc k) s e = statement_at xs k s e

pub update_stands : (f : File) (k : ℕ) (u : UpdateStatement) → slice_get f.statements.items k ≡ Some (Update u) → HasUpdate f u
update_stands f k u e = (k, statement_at f.statements.items k (Update u) e)

-- ---- points
product : (p x y X Y M : ℕ) → p ≡ min (x * y) M → x ≤ X → y ≤ Y → p ≤ X * Y
product p x y X Y M e a b = let all = mul-le-mul a b in let few = min-le_left (x * y) M in omega (arith, e, few, all)

pub product_two : (p x y X Y : ℕ) → p ≡ min (x * y) (2 ^ 64 - 1) → x ≤ X → y ≤ Y → p ≤ X * (Y * 1)
product_two p x y X Y e a b = let once : Y ≤ Y * 1 = omega arith in product p x y X (Y * 1) (2 ^ 64 - 1) e a (omega (arith, b, once))

pub product_three : (p q x y z X Y Z : ℕ) → q ≡ min (y * z) (2 ^ 64 - 1) → p ≡ min (x * q) (2 ^ 64 - 1) → x ≤ X → y ≤ Y → z ≤ Z → p ≤ X * (Y * (Z * 1))
product_three p q x y z X Y Z d e a b c = product p x q X (Y * (Z * 1)) (2 ^ 64 - 1) e a (product_two q y z Y Z d b c)

-- a domain with many points is past the limits
pub many_large : (ds : List DomainText) (n : ℕ) → n ≤ size (map range_said ds) → IsTrue (nat_lt 16777216 n) → ¬ DomainLimits ds
many_large ds n few many h = let points = h.points in let less : 16777216 < n = grind (arith, nat_tests) in omega (arith, few, less, points)

-- the function of such an update is named
pub named_answers : (f : File) (e : AlgoError) (u : UpdateStatement) (r : SceneError) → HasUpdate f u → ¬ DomainLimits (update_text u).domains → ¬ (e ≡ Memory) → IsNamed u r → Answers f e r
named_answers f e u (Text x) stands large told named = inr named
named_answers f e u (Reduction name) stands large told named =
    (record { k = stands.0; statement = update_text u; stands = stands.1; named = sym named; large = large }, told)
