-- Groups without flaws are of functions of their own, and their grids are small.
use Rattle.std.proofs.Common.{◌≡◌, ℕ, zero, suc, ◌*◌, ◌<◌, ◌≤◌, ◌^◌, List, [], ◌∷◌, take, Bool, true, false, Some, refl, sym, ap, ◌∙◌, arith, subst, inl, inr}
use Rattle.std.specs.Prelude.{◌||◌, not, slice_get}
use Rattle.std.specs.List.{list_any, AllByRecursion}
use Rattle.std.proofs.lemmas.Bool.{cases_lt, false≢true}
use Rattle.std.proofs.lemmas.List.Elements.{All-from_recursion, recursion_from_All}
use Rattle.std.proofs.Math.Nat.{mul_comm, suc-mul}
use Rattle.meaning.specs.Algorithm.{Algorithm}
use Rattle.meaning.specs.Names.{same_name}
use Rattle.plan.specs.Plan.{Group, Plan}
use Rattle.plan.specs.Certificate.Certificate.{Certificate}
use Rattle.plan.specs.Certificate.Cells.{piece_count}
use Rattle.soundness.proofs.Refines.{name_refl}
use Rattle.headline.specs.Parts.{FunctionsAreDistinct}
use Rattle.validation.specs.Groups.Lines.{flaws_of_groups}
use Rattle.validation.proofs.Flawless.{ends_are, group_fine}
use Rattle.audit.specs.Verdict.Clear.{GroupsAreApart, GridsAreSmall}
use Rattle.audit.proofs.OfVerdict.Small.{line_fine, pieces_few}

-- ---- functions

left : (b c : Bool) → b ≡ true → (b || c) ≡ true
left b c h = ap (λ x. x || c) h

right : (b c : Bool) → c ≡ true → (b || c) ≡ true
right true c h = refl
right false c h = h

-- an element that passes the test stands among so many first ones
among : {A : Type 0} (test : A → Bool) (xs : List A) (m n : ℕ) (x : A) → m < n → slice_get xs m ≡ Some x → test x ≡ true → list_any test (take n xs) ≡ true
among test [] m n x less at h = absurd (cc)
among test (y ∷ ys) m zero x less at h = absurd (omega (arith, less))
among test (y ∷ ys) zero (suc n) x less at h =
    let same : y ≡ x = cc in
    left (test y) (list_any test (take n ys)) (ap test same ∙ h)
among test (y ∷ ys) (suc m) (suc n) x less at h = right (test y) (list_any test (take n ys)) (among test ys m n x (omega (arith, less)) at h)

not_both : (b : Bool) → not b ≡ true → b ≡ true → ⊥
not_both true h k = false≢true h
not_both false h k = false≢true k

-- no earlier group is of the function
earlier_differs : (a : Algorithm) (p : Plan) (c : Certificate) → flaws_of_groups a p c ≡ [] → (m n : ℕ) (f g : Group) → m < n → slice_get p.groups m ≡ Some f → slice_get p.groups n ≡ Some g → f.function ≡ g.function → ⊥
earlier_differs a p c none m n f g less at_m at_n e =
    let l = line_fine a p c n g (group_fine a p c none n g at_n) in
    let same : same_name f.function g.function ≡ true = subst (λ (name : List ℕ). same_name f.function name ≡ true) e (name_refl f.function) in
    not_both (list_any (λ h. same_name h.function g.function) (take n p.groups)) l.new (among (λ (h : Group). same_name h.function g.function) p.groups m n f less at_m same)

distinct : (a : Algorithm) (p : Plan) (c : Certificate) → flaws_of_groups a p c ≡ [] → FunctionsAreDistinct p
distinct a p c none m n f g at_m at_n e = elim (cases_lt m n) [
  | inl less ↦ absurd (earlier_differs a p c none m n f g less at_m at_n e)
  | inr k ↦ elim (cases_lt n m) [
    | inl less ↦ absurd (earlier_differs a p c none n m g f less at_n at_m (sym e))
    | inr j ↦ omega (arith, k, j)
  ]
]

pub groups_apart : GroupsAreApart
groups_apart a p c none = record {
  ends = λ n g at. ends_are g.region (line_fine a p c n g (group_fine a p c none n g at)).extents;
  distinct = distinct a p c none;
}

-- ---- grids

grows : (n k : ℕ) → 1 ≤ k → n ≤ n * k
grows n zero h = absurd (omega (arith, h))
grows n (suc k) h =
    let turned : n * suc k ≡ suc k * n = mul_comm n (suc k) in
    let more = suc-mul k n in
    omega (arith, turned, more)

some_pieces : (grid : List ℕ) → AllByRecursion (λ m. 1 ≤ m) grid → 1 ≤ piece_count grid
some_pieces [] h = omega arith
some_pieces (n ∷ ns) h =
    let one = h.0 in
    let more = grows n (piece_count ns) (some_pieces ns h.1) in
    omega (arith, one, more)

small : (grid : List ℕ) (most : ℕ) → AllByRecursion (λ m. 1 ≤ m) grid → piece_count grid ≤ most → AllByRecursion (λ m. m ≤ most) grid
small [] most h few = tt
small (n ∷ ns) most h few =
    let first = grows n (piece_count ns) (some_pieces ns h.1) in
    let rest = grows (piece_count ns) n h.0 in
    let turned : piece_count ns * n ≡ n * piece_count ns = mul_comm (piece_count ns) n in
    (omega (arith, first, few), small ns most h.1 (omega (arith, rest, turned, few)))

pub grids_small : GridsAreSmall
grids_small a p c none n g at h =
    All-from_recursion (λ m. m ≤ 2 ^ 20) g.grid (small g.grid (2 ^ 20) (recursion_from_All (λ m. 1 ≤ m) g.grid h) (pieces_few a p c none n g at))
