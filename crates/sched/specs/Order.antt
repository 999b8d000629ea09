-- The symbols that the steps of a skeleton bind, in the order in which a plan binds them.
use Rattle.std.specs.Prelude.{◌≡◌, ℕ, ◌+◌, ◌<◌, ◌≤◌, ℤ, List, [], ◌∷◌, length, Some, slice_get}
use Rattle.std.specs.List.{AllByRecursion}
use Rattle.lin.specs.Forms.{Form, number, IsCanonical}
use Rattle.lin.specs.declared.span.Span1.{Span1}
use Rattle.plan.specs.declared.stmt.Pick.TheVariants.{Min}
use Rattle.sched.specs.declared.numbers.Extent.{Extent}
use Rattle.sched.specs.declared.skeleton.Step.{Step}
use Rattle.sched.specs.declared.skeleton.Step.TheVariants.{Turns, Named, Tested}
use Rattle.sched.specs.Placing.{PlacedText}
use Rattle.sched.specs.Skeleton.{BodyText, NestText, SkeletonText, skeleton_in, span}

-- a form of the symbols before n alone
pub record Good (n : ℕ) (f : Form) : Type 0 where
  pub below : AllByRecursion (λ t. t.symbol < n) f.terms
  pub canonical : IsCanonical f.terms

-- a loop over numbers, and further upper forms of the symbols before it
pub record IsSpan (n : ℕ) (x : Span1) : Type 0 where
  pub low : ℤ
  pub last : ℤ
  pub limits : List Form
  pub is : x ≡ span low last limits
  pub good : AllByRecursion (Good n) limits

-- the smaller of a form of the symbols before it and a number
pub record IsSmaller (n : ℕ) (fs : List Form) : Type 0 where
  pub form : Form
  pub last : ℤ
  pub is : fs ≡ form ∷ number last ∷ []
  pub good : Good n form

-- the symbols are those from n to before m
abbrev pub Ordered : ℕ → List Step → ℕ → Type 0
Ordered n [] m = n ≡ m
Ordered n (Turns i x kind ∷ ss) m = (i ≡ n) × IsSpan n x × Ordered (n + 1) ss m
Ordered n (Named i pick fs ∷ ss) m = (i ≡ n) × (pick ≡ Min) × IsSmaller n fs × Ordered (n + 1) ss m
Ordered n (Tested low high ∷ ss) m = Ordered n ss m

-- the steps of a nest bind symbols from some one on, at or behind this one
pub record BindsBehind (least : ℕ) (n : NestText) : Type 0 where
  pub from : ℕ
  pub to : ℕ
  pub above : least ≤ from
  pub steps : Ordered from n.steps to

-- the lets over the grid bind the symbols behind the grid's, and the steps of each nest others behind those
pub record BindInOrder (k : SkeletonText) : Type 0 where
  pub next : ℕ
  pub head : Ordered (length k.grid) k.head next
  pub nests : (i : ℕ) (n : NestText) → slice_get k.nests i ≡ Some n → BindsBehind next n

-- the symbols of a skeleton rise by one, and the forms of each step are of the symbols before it
abbrev pub SkeletonsBindInOrder : Type 0
SkeletonsBindInOrder =
    (xs : List (List ℕ)) (bs : List BodyText) (p : PlacedText) (region : List Extent) (k : SkeletonText) → skeleton_in xs bs p region ≡ Some k → BindInOrder k
