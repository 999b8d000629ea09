-- Expressions moved to an origin: the same tree with other numbers.
use Rattle.std.specs.Prelude.{ℕ, zero, suc, ℤ, pos, negsuc, ◌+ℤ◌, ◌-ℤ◌, ◌*ℤ◌, neg_ℤ, int_le, List, [], ◌∷◌, Bool, true, false, ◌&&◌, ◌||◌, if◌then◌else◌, Option, Some, None, is_some}
use Rattle.std.specs.Int.{int_max, int_min}
use Rattle.std.specs.Ordering.{int_eq}
use Rattle.numeric.specs.declared.ty.Ty.{Ty}
use Rattle.numeric.specs.declared.ty.Ty.TheVariants.{I32}
use Rattle.numeric.specs.declared.op.Op.{Op}
use Rattle.numeric.specs.declared.op.Op.TheVariants.{Add, Sub, Mul, Div, Rem, Min, Max}
use Rattle.numeric.specs.declared.op.Comparison.{Comparison}
use Rattle.numeric.specs.Wrap.{wrap}
use Rattle.numeric.specs.Apply.{quotient, remainder}
use Rattle.tree.specs.Term.{Term, Number, Name, Call, Minus, Binary, Clamp, Cast, Choice, Terms, End, More, Test, Compares, Fails, Both, Either}
use Rattle.tree.specs.Typing.{is_of, same_type, shape_type}
use Rattle.crop.specs.declared.cut.Stretch.{Stretch}

-- a number of i32, moved
abbrev pub shifted : ℤ → ℤ → ℤ
shifted o z = wrap I32 (z +ℤ o)

-- and back
abbrev pub against : ℤ → ℤ
against o = wrap I32 (neg_ℤ o)

-- a point moved by an origin, coordinate by coordinate; past the origin's numbers it stays
abbrev pub moved_point : List ℤ → List ℤ → List ℤ
moved_point (o ∷ os) (z ∷ zs) = shifted o z ∷ moved_point os zs
moved_point [] zs = zs
moved_point (o ∷ os) [] = []

-- the least number of i32, which no literal with a minus before it can write
abbrev pub least : Term
least = Binary Sub (Minus (Number I32 (pos 2147483647))) (Number I32 (pos 1))

abbrev pub is_least : ℤ → Bool
is_least z = int_eq z (negsuc 2147483647)

-- a number as it stands in a text, where no literal is below 0 or above the greatest number of its type
abbrev pub literal : ℤ → Term
literal (pos n) = Number I32 (pos n)
literal (negsuc n) = if is_least (negsuc n) then least else Minus (Number I32 (pos (suc n)))

-- the number that an i32 literal is, with a minus or without
abbrev pub number_in : Term → Option ℤ
number_in (Number I32 n) = if is_of I32 n then Some n else None
number_in (Minus (Number I32 n)) = if is_of I32 n then Some (against n) else None
number_in _ = None

-- an expression and a number
abbrev pub plus : Term → ℤ → Term
plus e (pos zero) = e
plus e (pos (suc n)) = Binary Add e (Number I32 (pos (suc n)))
plus e (negsuc n) =
    if is_least (negsuc n) then Binary Sub (Binary Sub e (Number I32 (pos 2147483647))) (Number I32 (pos 1)) else Binary Sub e (Number I32 (pos (suc n)))

-- by how much the variables of a definition are moved, the origin of each thing that is called, its type, and the ends
-- between which the value of an expression lies
pub record Move : Type 0 where
  pub variables : List ℕ → ℤ
  pub origins : List ℕ → List ℤ
  pub functions : List ℕ → Option (Ty × ℕ)
  pub ends : Term → Option Stretch

-- whether numbers, and all between them, stay values of i32 when c is added
abbrev pub both_fit : ℤ → ℤ → ℤ → Bool
both_fit c low high = is_of I32 (low +ℤ c) && is_of I32 (high +ℤ c)

-- z, or the nearer of the ends
abbrev pub clamp_to : ℤ → ℤ → ℤ → ℤ
clamp_to low high z = int_max (int_min z high) low

-- ---- one operator on i32: x and y are the numbers of the sides that are literals, i and j the numbers that stand before the
-- sides' ends, f and g the sides with numbers added

abbrev pub Moving : Type 0
Moving = ℤ → Term

-- a number with a minus before it is one number; else the minus stays before what it stands before
abbrev pub negated_moved : ℤ → Option ℤ → Moving → Term
negated_moved c (Some n) f = literal (wrap I32 (n +ℤ c))
negated_moved c None f = Minus (f (against c))

abbrev pub plain_moved : Op → ℤ → Moving → Moving → Term
plain_moved op c f g = plus (Binary op (f (pos 0)) (g (pos 0))) c

-- a number goes into the other side; of two other sides the numbers go behind the sum
abbrev pub sum_moved : ℤ → Option ℤ → Option ℤ → ℤ → ℤ → Moving → Moving → Term
sum_moved c (Some n) x i j f g = f (wrap I32 (c +ℤ n))
sum_moved c None (Some n) i j f g = g (wrap I32 (c +ℤ n))
sum_moved c None None i j f g = plus (Binary Add (f (against i)) (g (against j))) (wrap I32 (c +ℤ (i +ℤ j)))

abbrev pub difference_moved : ℤ → Option ℤ → Option ℤ → ℤ → ℤ → Moving → Moving → Term
difference_moved c (Some n) x i j f g = f (wrap I32 (c -ℤ n))
difference_moved c None (Some n) i j f g = Binary Sub (literal (wrap I32 (c +ℤ (n -ℤ j)))) (g (against j))
difference_moved c None None i j f g = plus (Binary Sub (f (against i)) (g (against j))) (wrap I32 (c +ℤ (i -ℤ j)))

-- a literal factor goes into the number
abbrev pub product_moved : ℤ → Option ℤ → Option ℤ → ℤ → ℤ → Term → Term → Moving → Moving → Term
product_moved c (Some n) x i j a b f g = plus (Binary Mul (f (against i)) b) (wrap I32 (c +ℤ wrap I32 (i *ℤ n)))
product_moved c None (Some n) i j a b f g = plus (Binary Mul a (g (against j))) (wrap I32 (c +ℤ wrap I32 (n *ℤ j)))
product_moved c None None i j a b f g = plain_moved Mul c f g

-- the greatest multiple of n up to i
abbrev pub multiple_in : ℤ → ℤ → ℤ
multiple_in n i = i -ℤ remainder i n

-- multiples of a positive divisor come out, where the dividend stays an i32
abbrev pub quotient_moved : ℤ → Option ℤ → Option Stretch → ℤ → Term → Moving → Moving → Term
quotient_moved c (Some (pos (suc n))) (Some r) i b f g =
    if both_fit (neg_ℤ (multiple_in (pos (suc n)) i)) r.low r.high
    then plus (Binary Div (f (against (multiple_in (pos (suc n)) i))) b) (wrap I32 (c +ℤ quotient i (pos (suc n))))
    else plain_moved Div c f g
quotient_moved c _ _ i b f g = plain_moved Div c f g

abbrev pub remainder_moved : ℤ → Option ℤ → Option Stretch → ℤ → Term → Moving → Moving → Term
remainder_moved c (Some (pos (suc n))) (Some r) i b f g =
    if both_fit (neg_ℤ (multiple_in (pos (suc n)) i)) r.low r.high
    then plus (Binary Rem (f (against (multiple_in (pos (suc n)) i))) b) c
    else plain_moved Rem c f g
remainder_moved c _ _ i b f g = plain_moved Rem c f g

-- a bound that cannot bite is moved to the argument's own end; the number goes in where nothing leaves i32
abbrev pub bounded : Op → ℤ → ℤ → Stretch → Moving → Term
bounded op c n r f = if both_fit c r.low r.high && is_of I32 (n +ℤ c) then Binary op (f c) (literal (n +ℤ c)) else plus (Binary op (f (pos 0)) (literal n)) c

abbrev pub least_of : ℤ → ℤ → Stretch → Moving → Term
least_of c n r f = bounded Min c n r f

abbrev pub least_moved : ℤ → Option ℤ → Option Stretch → Moving → Moving → Term
least_moved c (Some n) (Some r) f g = least_of c (int_min n r.high) r f
least_moved c _ _ f g = plain_moved Min c f g

abbrev pub greatest_of : ℤ → ℤ → Stretch → Moving → Term
greatest_of c n r f = bounded Max c n r f

abbrev pub greatest_moved : ℤ → Option ℤ → Option Stretch → Moving → Moving → Term
greatest_moved c (Some n) (Some r) f g = greatest_of c (int_max n r.low) r f
greatest_moved c _ _ f g = plain_moved Max c f g

abbrev pub operator_moved : Op → ℤ → Option ℤ → Option ℤ → Option Stretch → ℤ → ℤ → Term → Term → Moving → Moving → Term
operator_moved Add c x y r i j a b f g = sum_moved c y x i j f g
operator_moved Sub c x y r i j a b f g = difference_moved c y x i j f g
operator_moved Mul c x y r i j a b f g = product_moved c y x i j a b f g
operator_moved Div c x y r i j a b f g = quotient_moved c y r i b f g
operator_moved Rem c x y r i j a b f g = remainder_moved c y r i b f g
operator_moved Min c x y r i j a b f g = least_moved c y r f g
operator_moved Max c x y r i j a b f g = greatest_moved c y r f g

-- both ends of a clamp that are numbers, as in `least_moved`
abbrev pub clamp_of : ℤ → ℤ → ℤ → Stretch → Moving → Term
clamp_of c l h r f =
    if both_fit c r.low r.high && both_fit c l h then Clamp (f c) (literal (l +ℤ c)) (literal (h +ℤ c)) else plus (Clamp (f (pos 0)) (literal l) (literal h)) c

abbrev pub clamp_plain : ℤ → Moving → Moving → Moving → Term
clamp_plain c f g h = plus (Clamp (f (pos 0)) (g (pos 0)) (h (pos 0))) c

abbrev pub clamp_moved : ℤ → Option ℤ → Option ℤ → Option Stretch → Moving → Moving → Moving → Term
clamp_moved c (Some x) (Some y) (Some r) f g h = if int_le x y then clamp_of c (clamp_to x y r.low) (clamp_to x y r.high) r f else clamp_plain c f g h
clamp_moved c _ _ _ f g h = clamp_plain c f g h

-- a comparison with a number, from the argument's lower end on: the number is at most one outside the ends
abbrev pub compare_plain : Comparison → Moving → Moving → Test
compare_plain by f g = Compares by (f (pos 0)) (g (pos 0))

abbrev pub compare_moved : Comparison → Option ℤ → Option Stretch → Moving → Moving → Test
compare_moved by (Some n) (Some r) f g =
    if is_of I32 (r.high -ℤ r.low +ℤ pos 1) && is_of I32 (clamp_to (r.low -ℤ pos 1) (r.high +ℤ pos 1) n -ℤ r.low)
    then Compares by (f (against r.low)) (literal (clamp_to (r.low -ℤ pos 1) (r.high +ℤ pos 1) n -ℤ r.low))
    else compare_plain by f g
compare_moved by _ _ f g = compare_plain by f g

-- ---- whole expressions
-- the number of a sum that stands before its end: the law holds with any
abbrev pub constant_of : Op → Bool → ℤ → ℤ → ℤ
constant_of Add some i j = wrap I32 (i +ℤ j)
constant_of Sub some i j = wrap I32 (i -ℤ j)
constant_of Mul some i j = if some then wrap I32 (i *ℤ j) else pos 0
constant_of _ some i j = pos 0

module _ (m : Move) where
  abbrev pub is_i32 : Term → Bool
  is_i32 e = same_type (shape_type m.functions e) I32

  abbrev pub constant : Term → ℤ
  constant (Number I32 n) = wrap I32 n
  constant (Name name) = m.variables name
  constant (Minus a) = against (constant a)
  constant (Binary op a b) = constant_of op (is_some (number_in a) || is_some (number_in b)) (constant a) (constant b)
  constant _ = pos 0

  abbrev mutual
    -- the expression with c added to its value; where its type is not i32, c is 0
    pub moved : ℤ → Term → Term
    moved c (Number t n) = elim (is_i32 (Number t n)) [ true ↦ literal (wrap I32 (wrap I32 n +ℤ c)) | false ↦ Number t n ]
    moved c (Name name) = plus (Name name) (wrap I32 (m.variables name +ℤ c))
    moved c (Call name at) = plus (Call name (all_moved (m.origins name) at)) c
    moved c (Minus a) = negated_moved c (number_in (Minus a)) (λ d. moved d a)
    moved c (Binary op a b) = elim (is_i32 a) [
      | true ↦ operator_moved op c (number_in a) (number_in b) (m.ends a) (constant a) (constant b) a b (λ d. moved d a) (λ d. moved d b)
      | false ↦ Binary op (moved (pos 0) a) (moved (pos 0) b)
    ]
    moved c (Clamp a l h) = clamp_moved c (number_in l) (number_in h) (m.ends a) (λ d. moved d a) (λ d. moved d l) (λ d. moved d h)
    moved c (Cast t a) = plus (Cast t (moved (pos 0) a)) c
    moved c (Choice t a b) = Choice (test_moved t) (moved c a) (moved c b)

    pub test_moved : Test → Test
    test_moved (Compares by a b) = compare_moved by (number_in b) (m.ends a) (λ d. moved d a) (λ d. moved d b)
    test_moved (Fails t) = Fails (test_moved t)
    test_moved (Both t u) = Both (test_moved t) (test_moved u)
    test_moved (Either t u) = Either (test_moved t) (test_moved u)

    -- the indices of a call, each less the coordinate of the origin
    pub all_moved : List ℤ → Terms → Terms
    all_moved _ End = End
    all_moved [] (More a rest) = More (moved (pos 0) a) (all_moved [] rest)
    all_moved (o ∷ os) (More a rest) = More (moved (against o) a) (all_moved os rest)
