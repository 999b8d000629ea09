-- What the rules for moved operators, clamps and comparisons come to in each case.
use Rattle.std.proofs.Common.{◌≡◌, zero, suc, ℤ, pos, negsuc, ◌+ℤ◌, ◌-ℤ◌, ◌*ℤ◌, ◌≤ℤ◌, ◌<ℤ◌, neg_ℤ, Bool, true, false, ◌&&◌, if◌then◌else◌, Option, Some, None, refl, sym, ap, ◌∙◌, arith}
use Rattle.std.specs.Prelude.{int_le}
use Rattle.std.proofs.Math.Nat.{div-le_self}
use Rattle.std.proofs.lemmas.Int.{ints, to_z-of_z}
use mir.Val.{to_z, of_z, SFits}
use mir.Syntax.{w32, w64}
use lib.Signed.{lt_z, le_z}
use Rattle.numeric.specs.declared.ty.Ty.TheVariants.{I32}
use Rattle.numeric.specs.declared.op.Op.{Op}
use Rattle.numeric.specs.declared.op.Op.TheVariants.{Div, Rem}
use Rattle.numeric.specs.declared.op.Comparison.{Comparison}
use Rattle.numeric.specs.Wrap.{wrap}
use Rattle.numeric.specs.Apply.{quotient}
use Rattle.tree.specs.Term.{Term, Binary, Clamp, Compares}
use Rattle.tree.specs.Typing.{is_of}
use Rattle.crop.specs.declared.cut.Stretch.{Stretch}
use Rattle.crop.specs.Moving.{Move, Moving, against, literal, plus, both_fit, clamp_to, plain_moved, multiple_in, quotient_moved, remainder_moved, bounded, clamp_of, compare_plain, compare_moved, is_i32, number_in, constant, operator_moved}
use Rattle.crop.specs.Plan.{operator_with, number_from}

-- a number that is kept only where a test holds
pub some_test : (b : Bool) (n m : ℤ) → Some m ≡ (if b then Some n else None) → b ≡ true
some_test true n m e = refl
some_test false n m e = absurd (cc)

pub some_number : (b : Bool) (n m : ℤ) → Some m ≡ (if b then Some n else None) → m ≡ n
some_number true n m e = cc
some_number false n m e = absurd (cc)

pub none_test : (b : Bool) (n : ℤ) → None ≡ (if b then Some n else None) → b ≡ false
none_test true n e = absurd (cc)
none_test false n e = refl

-- a number of i32 in bits and back
pub kept32 : (z y : ℤ) → SFits w32 z → z ≡ y → to_z w32 (of_z w32 z) ≡ y
kept32 z y f e = to_z-of_z w32 z f ∙ e

-- a number as it is passed: in bits and back
abbrev pub bits : ℤ → ℤ
bits z = to_z w32 (of_z w32 z)

-- a number of i64 as it is passed
abbrev pub wide_bits : ℤ → ℤ
wide_bits z = to_z w64 (of_z w64 z)

-- the order of two numbers, by a test of other spellings of them
pub le_told : (l h x y : ℤ) → lt_z y x ≡ false → x ≡ l → y ≡ h → int_le l h ≡ true
le_told l h x y t p q = grind (arith, ints)

pub more_told : (l h x y : ℤ) → lt_z y x ≡ true → x ≡ l → y ≡ h → int_le l h ≡ false
more_told l h x y t p q = grind (arith, ints)

pub low_told : (d x : ℤ) → le_z x (pos 0) ≡ true → x ≡ d → d ≤ℤ pos 0
low_told d x t p = grind (arith, ints)

pub high_told : (d x : ℤ) → le_z x (pos 0) ≡ false → x ≡ d → pos 0 <ℤ d
high_told d x t p = grind (arith, ints)

-- a number that is wrapped, in another spelling
pub wrap_told : (m z y : ℤ) → m ≡ wrap I32 z → z ≡ y → m ≡ wrap I32 y
wrap_told m z y e p = e ∙ ap (wrap I32) p

-- what the tests of both ends told
pub both_ill : (b : Bool) (z c low high : ℤ) → b ≡ is_of I32 z → b ≡ false → z ≡ low +ℤ c → false ≡ both_fit c low high
both_ill b z c low high e t p =
    let test : false ≡ is_of I32 (low +ℤ c) = sym t ∙ e ∙ ap (is_of I32) p in
    λ i. test i && is_of I32 (high +ℤ c)

pub both_well : (b d : Bool) (z y c low high : ℤ) → b ≡ is_of I32 z → b ≡ true → z ≡ low +ℤ c → d ≡ is_of I32 y → y ≡ high +ℤ c → d ≡ both_fit c low high
both_well b d z y c low high e t p f q =
    let test : true ≡ is_of I32 (low +ℤ c) = sym t ∙ e ∙ ap (is_of I32) p in
    f ∙ ap (is_of I32) q ∙ (λ i. test i && is_of I32 (high +ℤ c))

-- numbers that were passed
pub against_told : (i x : ℤ) → SFits w32 i → SFits w32 x → x ≡ against (bits i) → bits x ≡ against i
against_told i x f g e = to_z-of_z w32 x g ∙ e ∙ ap against (to_z-of_z w32 i f)

pub product_told : (i n q : ℤ) → SFits w32 i → SFits w32 n → SFits w32 q → q ≡ wrap I32 (bits i *ℤ bits n) → bits q ≡ wrap I32 (i *ℤ n)
product_told i n q f g h e = to_z-of_z w32 q h ∙ e ∙ (λ j. wrap I32 (to_z-of_z w32 i f j *ℤ to_z-of_z w32 n g j))

pub added_told : (c x y s : ℤ) → SFits w32 c → SFits w32 s → bits x ≡ y → s ≡ wrap I32 (bits c +ℤ bits x) → bits s ≡ wrap I32 (c +ℤ y)
added_told c x y s f g e p = to_z-of_z w32 s g ∙ p ∙ (λ j. wrap I32 (to_z-of_z w32 c f j +ℤ e j))

-- what the test of a comparison's number told
pub from_ill : (b : Bool) (z n low high : ℤ) → b ≡ is_of I32 z → b ≡ false → z ≡ high -ℤ low +ℤ pos 1 → None ≡ number_from n low high
from_ill b z n low high e t p =
    let test : false ≡ is_of I32 (high -ℤ low +ℤ pos 1) = sym t ∙ e ∙ ap (is_of I32) p in
    let near : ℤ = clamp_to (low -ℤ pos 1) (high +ℤ pos 1) n -ℤ low in
    λ i. if test i && is_of I32 near then Some near else None

pub from_well : (b : Bool) (r : Option ℤ) (z y n low high : ℤ)
    → b ≡ is_of I32 z → b ≡ true → z ≡ high -ℤ low +ℤ pos 1 → r ≡ (if is_of I32 y then Some y else None)
    → y ≡ clamp_to (low -ℤ pos 1) (high +ℤ pos 1) n -ℤ low → r ≡ number_from n low high
from_well b r z y n low high e t p f q =
    let test : true ≡ is_of I32 (high -ℤ low +ℤ pos 1) = sym t ∙ e ∙ ap (is_of I32) p in
    let near : ℤ = clamp_to (low -ℤ pos 1) (high +ℤ pos 1) n -ℤ low in
    f ∙ (λ i. if is_of I32 (q i) then Some (q i) else None) ∙ (λ i. if test i && is_of I32 near then Some near else None)

-- what a test told of other spellings of its numbers
pub fit_told : (b : Bool) (x l h c low high : ℤ) → b ≡ both_fit x l h → x ≡ c → l ≡ low → h ≡ high → b ≡ both_fit c low high
fit_told b x l h c low high e p q r = e ∙ (λ i. both_fit (p i) (q i) (r i))

pub told_test : (m arg z : ℤ) → Some m ≡ (if is_of I32 arg then Some arg else None) → arg ≡ z → is_of I32 z ≡ true
told_test m arg z e p = some_test (is_of I32 z) z m (e ∙ (λ i. if is_of I32 (p i) then Some (p i) else None))

pub told_number : (m arg z : ℤ) → Some m ≡ (if is_of I32 arg then Some arg else None) → arg ≡ z → m ≡ z
told_number m arg z e p = some_number (is_of I32 z) z m (e ∙ (λ i. if is_of I32 (p i) then Some (p i) else None))

pub told_none : (arg z : ℤ) → None ≡ (if is_of I32 arg then Some arg else None) → arg ≡ z → is_of I32 z ≡ false
told_none arg z e p = none_test (is_of I32 z) z (e ∙ (λ i. if is_of I32 (p i) then Some (p i) else None))

-- a quotient by a positive number is no farther from 0 than the number
pub quotient_near : (a d : ℤ) → pos 0 <ℤ d → negsuc 2147483647 ≤ℤ a → a ≤ℤ pos 2147483647 → (negsuc 2147483647 ≤ℤ quotient a d) × (quotient a d ≤ℤ pos 2147483647)
quotient_near a (pos zero) h l u = absurd (omega (arith, ints))
quotient_near a (negsuc n) h l u = absurd (omega (arith, ints))
quotient_near (pos a) (pos (suc n)) h l u = let small = div-le_self a (suc n) in (omega (arith, ints), omega (arith, ints))
quotient_near (negsuc a) (pos (suc n)) h l u = let small = div-le_self a (suc n) in (omega (arith, ints), omega (arith, ints))

module _ (c i : ℤ) (r : Stretch) (b : Term) (f g : Moving) where
  pub quotient_low : (d : ℤ) → d ≤ℤ pos 0 → plain_moved Div c f g ≡ quotient_moved c (Some d) (Some r) i b f g
  quotient_low (pos zero) h = refl
  quotient_low (pos (suc n)) h = absurd (omega (arith, ints))
  quotient_low (negsuc n) h = refl

  pub remainder_low : (d : ℤ) → d ≤ℤ pos 0 → plain_moved Rem c f g ≡ remainder_moved c (Some d) (Some r) i b f g
  remainder_low (pos zero) h = refl
  remainder_low (pos (suc n)) h = absurd (omega (arith, ints))
  remainder_low (negsuc n) h = refl

  pub quotient_ill : (d : ℤ) → both_fit (neg_ℤ (multiple_in d i)) r.low r.high ≡ false → plain_moved Div c f g ≡ quotient_moved c (Some d) (Some r) i b f g
  quotient_ill (pos zero) t = refl
  quotient_ill (pos (suc n)) t =
      λ j. if sym t j then plus (Binary Div (f (against (multiple_in (pos (suc n)) i))) b) (wrap I32 (c +ℤ quotient i (pos (suc n)))) else plain_moved Div c f g
  quotient_ill (negsuc n) t = refl

  pub remainder_ill : (d : ℤ) → both_fit (neg_ℤ (multiple_in d i)) r.low r.high ≡ false → plain_moved Rem c f g ≡ remainder_moved c (Some d) (Some r) i b f g
  remainder_ill (pos zero) t = refl
  remainder_ill (pos (suc n)) t = λ j. if sym t j then plus (Binary Rem (f (against (multiple_in (pos (suc n)) i))) b) c else plain_moved Rem c f g
  remainder_ill (negsuc n) t = refl

  pub quotient_well : (d : ℤ) → pos 0 <ℤ d → both_fit (neg_ℤ (multiple_in d i)) r.low r.high ≡ true
      → plus (Binary Div (f (against (multiple_in d i))) b) (wrap I32 (c +ℤ quotient i d)) ≡ quotient_moved c (Some d) (Some r) i b f g
  quotient_well (pos zero) h t = absurd (omega (arith, ints))
  quotient_well (pos (suc n)) h t =
      λ j. if sym t j then plus (Binary Div (f (against (multiple_in (pos (suc n)) i))) b) (wrap I32 (c +ℤ quotient i (pos (suc n)))) else plain_moved Div c f g
  quotient_well (negsuc n) h t = absurd (omega (arith, ints))

  pub remainder_well : (d : ℤ) → pos 0 <ℤ d → both_fit (neg_ℤ (multiple_in d i)) r.low r.high ≡ true
      → plus (Binary Rem (f (against (multiple_in d i))) b) c ≡ remainder_moved c (Some d) (Some r) i b f g
  remainder_well (pos zero) h t = absurd (omega (arith, ints))
  remainder_well (pos (suc n)) h t = λ j. if sym t j then plus (Binary Rem (f (against (multiple_in (pos (suc n)) i))) b) c else plain_moved Rem c f g
  remainder_well (negsuc n) h t = absurd (omega (arith, ints))

module _ (op : Op) (c n : ℤ) (r : Stretch) (f : Moving) where
  abbrev Inside : Term
  Inside = Binary op (f c) (literal (n +ℤ c))

  abbrev Behind : Term
  Behind = plus (Binary op (f (pos 0)) (literal n)) c

  pub bounded_ill : both_fit c r.low r.high ≡ false → Behind ≡ bounded op c n r f
  bounded_ill t = λ j. if sym t j && is_of I32 (n +ℤ c) then Inside else Behind

  pub bounded_far : both_fit c r.low r.high ≡ true → is_of I32 (n +ℤ c) ≡ false → Behind ≡ bounded op c n r f
  bounded_far t u = λ j. if sym t j && sym u j then Inside else Behind

  pub bounded_well : both_fit c r.low r.high ≡ true → is_of I32 (n +ℤ c) ≡ true → Inside ≡ bounded op c n r f
  bounded_well t u = λ j. if sym t j && sym u j then Inside else Behind

module _ (c l h : ℤ) (r : Stretch) (f : Moving) where
  abbrev ClampInside : Term
  ClampInside = Clamp (f c) (literal (l +ℤ c)) (literal (h +ℤ c))

  abbrev ClampBehind : Term
  ClampBehind = plus (Clamp (f (pos 0)) (literal l) (literal h)) c

  pub clamp_ill : both_fit c r.low r.high ≡ false → ClampBehind ≡ clamp_of c l h r f
  clamp_ill t = λ j. if sym t j && both_fit c l h then ClampInside else ClampBehind

  pub clamp_low : both_fit c r.low r.high ≡ true → is_of I32 (l +ℤ c) ≡ false → ClampBehind ≡ clamp_of c l h r f
  clamp_low t u = λ j. if sym t j && (sym u j && is_of I32 (h +ℤ c)) then ClampInside else ClampBehind

  pub clamp_high : both_fit c r.low r.high ≡ true → is_of I32 (l +ℤ c) ≡ true → is_of I32 (h +ℤ c) ≡ false → ClampBehind ≡ clamp_of c l h r f
  clamp_high t u v = λ j. if sym t j && (sym u j && sym v j) then ClampInside else ClampBehind

  pub clamp_well : both_fit c r.low r.high ≡ true → is_of I32 (l +ℤ c) ≡ true → is_of I32 (h +ℤ c) ≡ true → ClampInside ≡ clamp_of c l h r f
  clamp_well t u v = λ j. if sym t j && (sym u j && sym v j) then ClampInside else ClampBehind

module _ (n : ℤ) (r : Stretch) (by : Comparison) (f g : Moving) where
  abbrev Width : Bool
  Width = is_of I32 (r.high -ℤ r.low +ℤ pos 1)

  abbrev Near : ℤ
  Near = clamp_to (r.low -ℤ pos 1) (r.high +ℤ pos 1) n -ℤ r.low

  abbrev From : Bool
  From = Width && is_of I32 Near

  pub compare_ill : From ≡ false → compare_plain by f g ≡ compare_moved by (Some n) (Some r) f g
  compare_ill t = λ j. if sym t j then Compares by (f (against r.low)) (literal Near) else compare_plain by f g

  pub compare_well : From ≡ true → Compares by (f (against r.low)) (literal Near) ≡ compare_moved by (Some n) (Some r) f g
  compare_well t = λ j. if sym t j then Compares by (f (against r.low)) (literal Near) else compare_plain by f g

  pub compare_given : (m : ℤ) → Some m ≡ number_from n r.low r.high → Compares by (f (against r.low)) (literal m) ≡ compare_moved by (Some n) (Some r) f g
  compare_given m e = (λ j. Compares by (f (against r.low)) (literal (some_number From Near m e j))) ∙ compare_well (some_test From Near m e)

  pub compare_none : None ≡ number_from n r.low r.high → compare_plain by f g ≡ compare_moved by (Some n) (Some r) f g
  compare_none e = compare_ill (none_test From Near e)

module _ (m : Move) (op : Op) (c : ℤ) (a b : Term) (f g : Moving) where
  pub given_i32 : is_i32 m a ≡ true
      → operator_moved op c (number_in a) (number_in b) (m.ends a) (constant m a) (constant m b) a b f g ≡ operator_with m op c a b f g
  given_i32 t = λ j. elim (sym t j) [
    | true ↦ operator_moved op c (number_in a) (number_in b) (m.ends a) (constant m a) (constant m b) a b f g
    | false ↦ Binary op (f (pos 0)) (g (pos 0))
  ]

  pub given_other : is_i32 m a ≡ false → Binary op (f (pos 0)) (g (pos 0)) ≡ operator_with m op c a b f g
  given_other t = λ j. elim (sym t j) [
    | true ↦ operator_moved op c (number_in a) (number_in b) (m.ends a) (constant m a) (constant m b) a b f g
    | false ↦ Binary op (f (pos 0)) (g (pos 0))
  ]
