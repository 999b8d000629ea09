-- What becomes of an operator, a clamp and a comparison whose sides are moved, by numbers alone.
use Rattle.std.specs.Prelude.{◌≡◌, ℕ, ℤ, pos, ◌+ℤ◌, ◌-ℤ◌, ◌&&◌, if◌then◌else◌, List, [], ◌∷◌, Option, Some, None, true, false, slice_get}
use Rattle.numeric.specs.declared.ty.Ty.{Ty}
use Rattle.numeric.specs.declared.ty.Ty.TheVariants.{I32}
use Rattle.numeric.specs.Wrap.{wrap}
use Rattle.numeric.specs.declared.op.Op.{Op}
use Rattle.numeric.specs.declared.op.Comparison.{Comparison}
use Rattle.tree.specs.Term.{Term, Number as Literal, Binary, Clamp, Test, Compares}
use Rattle.tree.specs.Typing.{is_of, same_type}
use Rattle.crop.specs.declared.cut.Stretch.{Stretch}
use Rattle.crop.specs.declared.plans.Side.{Side}
use Rattle.crop.specs.declared.plans.Side.TheVariants.{Moved, Kept, Number}
use Rattle.crop.specs.declared.plans.Plan.{Plan}
use Rattle.crop.specs.declared.plans.Plan.TheVariants.{Left, Right, Both}
use Rattle.crop.specs.declared.plans.Clamping.{Clamping}
use Rattle.crop.specs.declared.plans.Comparing.{Comparing}
use Rattle.crop.specs.Moving.{Move, Moving, against, clamp_to, literal, plus, number_in, constant, is_i32, operator_moved, clamp_moved, compare_moved, moved}

-- a side of an operator: f gives it with a number added, a is the side as it is
abbrev pub side_of : Side → Term → Moving → Term
side_of (Moved c) a f = f c
side_of Kept a f = a
side_of (Number n) a f = literal n

abbrev pub operator_of : Plan → Op → Term → Term → Moving → Moving → Term
operator_of (Left c) op a b f g = f c
operator_of (Right c) op a b f g = g c
operator_of (Both left right more) op a b f g = plus (Binary op (side_of left a f) (side_of right b g)) more

abbrev pub clamp_by : Clamping → Term → Term → Moving → Moving → Moving → Term
clamp_by p l h f g k = plus (Clamp (f p.value) (side_of p.low l g) (side_of p.high h k)) p.more

abbrev pub compare_by : Comparing → Comparison → Term → Moving → Moving → Test
compare_by p by b f g = Compares by (f p.left) (side_of p.right b g)

-- what a comparison from the lower end on has in a number's place, where nothing leaves i32
abbrev pub number_from : ℤ → ℤ → ℤ → Option ℤ
number_from n low high =
    if is_of I32 (high -ℤ low +ℤ pos 1) && is_of I32 (clamp_to (low -ℤ pos 1) (high +ℤ pos 1) n -ℤ low)
    then Some (clamp_to (low -ℤ pos 1) (high +ℤ pos 1) n -ℤ low)
    else None

-- the number that takes the coordinate at a place of an origin away; 0 past its last one
abbrev pub coordinate_against : List ℤ → ℕ → ℤ
coordinate_against origin place = elim (slice_get origin place) [ Some o ↦ against o | None ↦ pos 0 ]

-- an operator on two expressions with a number added, where f and g give them with numbers added
abbrev pub operator_with : Move → Op → ℤ → Term → Term → Moving → Moving → Term
operator_with m op c a b f g = elim (is_i32 m a) [
  | true ↦ operator_moved op c (number_in a) (number_in b) (m.ends a) (constant m a) (constant m b) a b f g
  | false ↦ Binary op (f (pos 0)) (g (pos 0))
]

-- a literal with a number added
abbrev pub literal_with : ℤ → Ty → ℤ → Term
literal_with c t n = elim (same_type t I32) [ true ↦ literal (wrap I32 (wrap I32 n +ℤ c)) | false ↦ Literal t n ]

-- a plan for an operator on two expressions with a number added
abbrev pub IsOperatorPlan : Move → Op → ℤ → Term → Term → Plan → Type 0
IsOperatorPlan m op c a b plan = (f g : Moving) → operator_of plan op a b f g ≡ operator_with m op c a b f g

-- a plan for a clamp between what may be numbers of an argument between what may be ends, with a number added
abbrev pub IsClampPlan : ℤ → Option ℤ → Option ℤ → Option Stretch → Clamping → Type 0
IsClampPlan c x y r plan = (l h : Term) (f g k : Moving) → clamp_by plan l h f g k ≡ clamp_moved c x y r f g k

-- a plan for a comparison of what may be between ends with what may be a number
abbrev pub IsComparePlan : Option ℤ → Option Stretch → Comparing → Type 0
IsComparePlan y r plan = (by : Comparison) (b : Term) (f g : Moving) → compare_by plan by b f g ≡ compare_moved by y r f g

-- expressions, each less the coordinate of an origin
abbrev pub each_moved : Move → List ℤ → List Term → List Term
each_moved m _ [] = []
each_moved m [] (e ∷ es) = moved m (pos 0) e ∷ each_moved m [] es
each_moved m (o ∷ os) (e ∷ es) = moved m (against o) e ∷ each_moved m os es
