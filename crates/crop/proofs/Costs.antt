-- What the calls of a moved expression cost.
use Rattle.std.proofs.Common.{◌≡◌, ℕ, zero, suc, ◌+◌, List, [], ◌∷◌, ◌++◌, Bool, true, false, Option, Some, None, IsSome, IsTrue, ℤ, pos, negsuc, neg_ℤ, ◌+ℤ◌, ◌-ℤ◌, ◌*ℤ◌, refl, sym, ap, ◌∙◌, arith, ◌&&◌}
use Rattle.std.specs.Prelude.{sum_by, int_le, is_some}
use Rattle.std.specs.Int.{int_max, int_min}
use Rattle.std.proofs.lemmas.List.Sums.{sum_by-append, sum_by_push}
use Rattle.numeric.specs.declared.ty.Ty.{Ty}
use Rattle.numeric.specs.declared.ty.Ty.TheVariants.{I32}
use Rattle.numeric.specs.declared.op.Op.{Op}
use Rattle.numeric.specs.declared.op.Op.TheVariants.{Add, Sub, Mul, Div, Rem, Min, Max}
use Rattle.numeric.specs.declared.op.Comparison.{Comparison}
use Rattle.numeric.specs.Wrap.{wrap}
use Rattle.numeric.specs.Apply.{quotient}
use Rattle.tree.specs.declared.value.Value.{Value}
use Rattle.tree.specs.Term.{Term, Number, Name, Call, Minus, Binary, Clamp, Cast, Choice, Terms, End, More, Test, Compares, Fails, Both, Either}
use Rattle.tree.specs.Meaning.{numbers_of}
use Rattle.tree.specs.Typing.{is_of, type_of, is_typed, are_indices, is_index, common, only_if, answer_type, index_count}
use Rattle.tree.specs.Uses.{Asked, asked, calls_made, calls_made_by_test, calls_made_by_all}
use Rattle.tree.proofs.Typed.{both_true, some_only_if, some_operator, some_of, index-is}
use Rattle.bounds.proofs.Fitting.{both_typed, all_typed}
use Rattle.meaning.specs.Count.{Costs, cost_of}
use Rattle.crop.specs.declared.cut.Stretch.{Stretch}
use Rattle.crop.specs.Moving.{Move, is_i32, moved, test_moved, all_moved, constant, against, least, is_least, literal, number_in, multiple_in, plus, both_fit, clamp_to, Moving, negated_moved, plain_moved, sum_moved, difference_moved, product_moved, quotient_moved, remainder_moved, bounded, least_moved, greatest_moved, operator_moved, clamp_of, clamp_plain, clamp_moved, compare_moved, compare_plain}
use Rattle.crop.proofs.Operators.{either}

-- a side that is a literal makes no calls
abbrev NoneIf : Option ℤ → ℕ → Type 0
NoneIf o x = (n : ℤ) → o ≡ Some n → x ≡ 0

module _ (v : List ℕ → ℤ) (k : List ℕ → List ℤ → Value) (costs : Costs) where
  abbrev price : Asked → ℕ
  price c = costs c.name c.at

  abbrev pub K : Term → ℕ
  K e = sum_by price (calls_made v k e)

  abbrev pub K_test : Test → ℕ
  K_test t = sum_by price (calls_made_by_test v k t)

  abbrev pub K_all : Terms → ℕ
  K_all at = sum_by price (calls_made_by_all v k at)

  pub two : (xs ys : List Asked) → sum_by price (xs ++ ys) ≡ sum_by price xs + sum_by price ys
  two xs ys = sum_by-append price xs ys

  pub three : (xs ys zs : List Asked) → sum_by price (xs ++ ys ++ zs) ≡ sum_by price xs + sum_by price ys + sum_by price zs
  three xs ys zs = two (xs ++ ys) zs ∙ ap (λ n. n + sum_by price zs) (two xs ys)

  number_behind : (e : Term) (n : ℕ) → K (Binary Sub e (Number I32 (pos n))) ≡ K e
  number_behind e n = let s = two (calls_made v k e) [] in omega (arith, s)

  pub plus_cost : (e : Term) (c : ℤ) → K (plus e c) ≡ K e
  plus_cost e (pos zero) = refl
  plus_cost e (pos (suc n)) = let s = two (calls_made v k e) [] in omega (arith, s)
  plus_cost e (negsuc n) =
      let most = Binary Sub e (Number I32 (pos 2147483647)) in
      either (λ t. K t ≡ K e) (is_least (negsuc n)) (Binary Sub most (Number I32 (pos 1))) (Binary Sub e (Number I32 (pos (suc n))))
      (λ t. number_behind most 1 ∙ number_behind e 2147483647) (λ t. number_behind e (suc n))

  pub literal_cost : (z : ℤ) → K (literal z) ≡ 0
  literal_cost (pos n) = refl
  literal_cost (negsuc n) = either (λ t. K t ≡ 0) (is_least (negsuc n)) least (Minus (Number I32 (pos (suc n)))) (λ t. refl) (λ t. refl)

  pub number_cost : (e : Term) (n : ℤ) → number_in e ≡ Some n → K e ≡ 0
  number_cost (Number I32 m) n h = refl
  number_cost (Minus (Number I32 m)) n h = refl
  number_cost e n h = cc

  pair_cost : (op : Op) (a b : Term) (x y : ℕ) → K a ≡ x → K b ≡ y → K (Binary op a b) ≡ x + y
  pair_cost op a b x y p q = two (calls_made v k a) (calls_made v k b) ∙ (λ i. p i + q i)

  -- an operator and a number behind it
  behind : (op : Op) (a b : Term) (c : ℤ) (x y : ℕ) → K a ≡ x → K b ≡ y → K (plus (Binary op a b) c) ≡ x + y
  behind op a b c x y p q = plus_cost (Binary op a b) c ∙ pair_cost op a b x y p q

  module _ (c : ℤ) (f g : Moving) (x y : ℕ) (hf : (d : ℤ) → K (f d) ≡ x) (hg : (d : ℤ) → K (g d) ≡ y) where
    plain_cost : (op : Op) → K (plain_moved op c f g) ≡ x + y
    plain_cost op = behind op (f (pos 0)) (g (pos 0)) c x y (hf (pos 0)) (hg (pos 0))

    sum_cost : (p q : Option ℤ) (i j : ℤ) → NoneIf p y → NoneIf q x → K (sum_moved c p q i j f g) ≡ x + y
    sum_cost (Some n) q i j hp hq = let e = hp n refl in let s = hf (wrap I32 (c +ℤ n)) in s ∙ omega (arith, e)
    sum_cost None (Some n) i j hp hq = let e = hq n refl in let s = hg (wrap I32 (c +ℤ n)) in s ∙ omega (arith, e)
    sum_cost None None i j hp hq = behind Add (f (against i)) (g (against j)) (wrap I32 (c +ℤ (i +ℤ j))) x y (hf (against i)) (hg (against j))

    difference_cost : (p q : Option ℤ) (i j : ℤ) → NoneIf p y → NoneIf q x → K (difference_moved c p q i j f g) ≡ x + y
    difference_cost (Some n) q i j hp hq = let e = hp n refl in let s = hf (wrap I32 (c -ℤ n)) in s ∙ omega (arith, e)
    difference_cost None (Some n) i j hp hq =
        pair_cost Sub (literal (wrap I32 (c +ℤ (n -ℤ j)))) (g (against j)) x y (literal_cost (wrap I32 (c +ℤ (n -ℤ j))) ∙ sym (hq n refl)) (hg (against j))
    difference_cost None None i j hp hq = behind Sub (f (against i)) (g (against j)) (wrap I32 (c +ℤ (i -ℤ j))) x y (hf (against i)) (hg (against j))

    -- the literal of a product, quotient or remainder stays as it stands
    module _ (a b : Term) (p q : Option ℤ) (hp : NoneIf p y) (hq : NoneIf q x) (ha : NoneIf q (K a)) (hb : NoneIf p (K b)) where
      beside : (op : Op) (d r : ℤ) (n : ℤ) → p ≡ Some n → K (plus (Binary op (f d) b) r) ≡ x + y
      beside op d r n e = behind op (f d) b r x y (hf d) (hb n e ∙ sym (hp n e))

      before : (op : Op) (d r : ℤ) (n : ℤ) → q ≡ Some n → K (plus (Binary op a (g d)) r) ≡ x + y
      before op d r n e = behind op a (g d) r x y (ha n e ∙ sym (hq n e)) (hg d)

    product_cost : (a b : Term) (p q : Option ℤ) (i j : ℤ) → NoneIf p y → NoneIf q x → NoneIf q (K a) → NoneIf p (K b) → K (product_moved c p q i j a b f g) ≡ x + y
    product_cost a b (Some n) q i j hp hq ha hb = beside a b (Some n) q hp hq ha hb Mul (against i) (wrap I32 (c +ℤ wrap I32 (i *ℤ n))) n refl
    product_cost a b None (Some n) i j hp hq ha hb = before a b None (Some n) hp hq ha hb Mul (against j) (wrap I32 (c +ℤ wrap I32 (n *ℤ j))) n refl
    product_cost a b None None i j hp hq ha hb = plain_cost Mul

    quotient_cost : (a b : Term) (p q : Option ℤ) (r : Option Stretch) (i : ℤ) → NoneIf p y → NoneIf q x → NoneIf q (K a) → NoneIf p (K b) → K (quotient_moved c p r i b f g) ≡ x + y
    quotient_cost a b (Some (pos (suc n))) q (Some r) i hp hq ha hb =
        let s = multiple_in (pos (suc n)) i in
        let z = wrap I32 (c +ℤ quotient i (pos (suc n))) in
        either (λ e. K e ≡ x + y) (both_fit (neg_ℤ s) r.low r.high) (plus (Binary Div (f (against s)) b) z) (plain_moved Div c f g)
        (λ fit. beside a b (Some (pos (suc n))) q hp hq ha hb Div (against s) z (pos (suc n)) refl) (λ none. plain_cost Div)
    quotient_cost a b (Some (pos (suc n))) q None i hp hq ha hb = plain_cost Div
    quotient_cost a b (Some (pos zero)) q r i hp hq ha hb = plain_cost Div
    quotient_cost a b (Some (negsuc n)) q r i hp hq ha hb = plain_cost Div
    quotient_cost a b None q r i hp hq ha hb = plain_cost Div

    remainder_cost : (a b : Term) (p q : Option ℤ) (r : Option Stretch) (i : ℤ) → NoneIf p y → NoneIf q x → NoneIf q (K a) → NoneIf p (K b) → K (remainder_moved c p r i b f g) ≡ x + y
    remainder_cost a b (Some (pos (suc n))) q (Some r) i hp hq ha hb =
        let s = multiple_in (pos (suc n)) i in
        either (λ e. K e ≡ x + y) (both_fit (neg_ℤ s) r.low r.high) (plus (Binary Rem (f (against s)) b) c) (plain_moved Rem c f g)
        (λ fit. beside a b (Some (pos (suc n))) q hp hq ha hb Rem (against s) c (pos (suc n)) refl) (λ none. plain_cost Rem)
    remainder_cost a b (Some (pos (suc n))) q None i hp hq ha hb = plain_cost Rem
    remainder_cost a b (Some (pos zero)) q r i hp hq ha hb = plain_cost Rem
    remainder_cost a b (Some (negsuc n)) q r i hp hq ha hb = plain_cost Rem
    remainder_cost a b None q r i hp hq ha hb = plain_cost Rem

    bounded_cost : (op : Op) (m : ℤ) (r : Stretch) → y ≡ 0 → K (bounded op c m r f) ≡ x + y
    bounded_cost op m r e =
        either (λ t. K t ≡ x + y) (both_fit c r.low r.high && is_of I32 (m +ℤ c)) (Binary op (f c) (literal (m +ℤ c))) (plus (Binary op (f (pos 0)) (literal m)) c)
        (λ fit. pair_cost op (f c) (literal (m +ℤ c)) x y (hf c) (literal_cost (m +ℤ c) ∙ sym e))
        (λ none. behind op (f (pos 0)) (literal m) c x y (hf (pos 0)) (literal_cost m ∙ sym e))

    least_cost : (p : Option ℤ) (r : Option Stretch) → NoneIf p y → K (least_moved c p r f g) ≡ x + y
    least_cost (Some n) (Some r) hp = bounded_cost Min (int_min n r.high) r (hp n refl)
    least_cost (Some n) None hp = plain_cost Min
    least_cost None r hp = plain_cost Min

    greatest_cost : (p : Option ℤ) (r : Option Stretch) → NoneIf p y → K (greatest_moved c p r f g) ≡ x + y
    greatest_cost (Some n) (Some r) hp = bounded_cost Max (int_max n r.low) r (hp n refl)
    greatest_cost (Some n) None hp = plain_cost Max
    greatest_cost None r hp = plain_cost Max

    pub operator_cost : (op : Op) (a b : Term) (q p : Option ℤ) (r : Option Stretch) (i j : ℤ) → NoneIf p y → NoneIf q x → NoneIf q (K a) → NoneIf p (K b)
        → K (operator_moved op c q p r i j a b f g) ≡ x + y
    operator_cost Add a b q p r i j hp hq ha hb = sum_cost p q i j hp hq
    operator_cost Sub a b q p r i j hp hq ha hb = difference_cost p q i j hp hq
    operator_cost Mul a b q p r i j hp hq ha hb = product_cost a b p q i j hp hq ha hb
    operator_cost Div a b q p r i j hp hq ha hb = quotient_cost a b p q r i hp hq ha hb
    operator_cost Rem a b q p r i j hp hq ha hb = remainder_cost a b p q r i hp hq ha hb
    operator_cost Min a b q p r i j hp hq ha hb = least_cost p r hp
    operator_cost Max a b q p r i j hp hq ha hb = greatest_cost p r hp

    compare_plain_cost : (by : Comparison) → K_test (compare_plain by f g) ≡ x + y
    compare_plain_cost by = two (calls_made v k (f (pos 0))) (calls_made v k (g (pos 0))) ∙ (λ i. hf (pos 0) i + hg (pos 0) i)

    pub compare_cost : (by : Comparison) (p : Option ℤ) (r : Option Stretch) → NoneIf p y → K_test (compare_moved by p r f g) ≡ x + y
    compare_cost by (Some n) (Some r) hp =
        let z = clamp_to (r.low -ℤ pos 1) (r.high +ℤ pos 1) n -ℤ r.low in
        either (λ t. K_test t ≡ x + y) (is_of I32 (r.high -ℤ r.low +ℤ pos 1) && is_of I32 z) (Compares by (f (against r.low)) (literal z)) (compare_plain by f g)
        (λ fit. two (calls_made v k (f (against r.low))) (calls_made v k (literal z)) ∙ (λ i. hf (against r.low) i + (literal_cost z ∙ sym (hp n refl)) i))
        (λ none. compare_plain_cost by)
    compare_cost by (Some n) None hp = compare_plain_cost by
    compare_cost by None r hp = compare_plain_cost by

  bounds_cost : (a l u : Term) (x y z : ℕ) → K a ≡ x → K l ≡ y → K u ≡ z → K (Clamp a l u) ≡ x + y + z
  bounds_cost a l u x y z p q r = three (calls_made v k a) (calls_made v k l) (calls_made v k u) ∙ (λ i. p i + q i + r i)

  module _ (c : ℤ) (f g h : Moving) (x y z : ℕ) (hf : (d : ℤ) → K (f d) ≡ x) (hg : (d : ℤ) → K (g d) ≡ y) (hh : (d : ℤ) → K (h d) ≡ z) where
    clamp_plain_cost : K (clamp_plain c f g h) ≡ x + y + z
    clamp_plain_cost = plus_cost (Clamp (f (pos 0)) (g (pos 0)) (h (pos 0))) c ∙ bounds_cost (f (pos 0)) (g (pos 0)) (h (pos 0)) x y z (hf (pos 0)) (hg (pos 0)) (hh (pos 0))

    clamp_of_cost : (l u : ℤ) (r : Stretch) → y ≡ 0 → z ≡ 0 → K (clamp_of c l u r f) ≡ x + y + z
    clamp_of_cost l u r p q =
        either (λ t. K t ≡ x + y + z) (both_fit c r.low r.high && both_fit c l u) (Clamp (f c) (literal (l +ℤ c)) (literal (u +ℤ c))) (plus (Clamp (f (pos 0)) (literal l) (literal u)) c)
        (λ fit. bounds_cost (f c) (literal (l +ℤ c)) (literal (u +ℤ c)) x y z (hf c) (literal_cost (l +ℤ c) ∙ sym p) (literal_cost (u +ℤ c) ∙ sym q))
        (λ none. plus_cost (Clamp (f (pos 0)) (literal l) (literal u)) c
        ∙ bounds_cost (f (pos 0)) (literal l) (literal u) x y z (hf (pos 0)) (literal_cost l ∙ sym p) (literal_cost u ∙ sym q))

    pub clamp_cost : (p q : Option ℤ) (r : Option Stretch) → NoneIf p y → NoneIf q z → K (clamp_moved c p q r f g h) ≡ x + y + z
    clamp_cost (Some m) (Some n) (Some r) hp hq =
        either (λ t. K t ≡ x + y + z) (int_le m n) (clamp_of c (clamp_to m n r.low) (clamp_to m n r.high) r f) (clamp_plain c f g h)
        (λ fit. clamp_of_cost (clamp_to m n r.low) (clamp_to m n r.high) r (hp m refl) (hq n refl)) (λ none. clamp_plain_cost)
    clamp_cost None q r hp hq = clamp_plain_cost
    clamp_cost (Some m) None r hp hq = clamp_plain_cost
    clamp_cost (Some m) (Some n) None hp hq = clamp_plain_cost

-- v, k and costs are those before a move, w, q and others those after it; R holds of the calls that are priced alike
module _ (m : Move) (known : List ℕ → Bool) (v w : List ℕ → ℤ) (k q : List ℕ → List ℤ → Value) (costs others : Costs) (R : List Asked → Type 0)
    (left : (xs ys : List Asked) → R (xs ++ ys) → R xs)
    (right : (xs ys : List Asked) → R (xs ++ ys) → R ys)
    (alike : (name : List ℕ) (at : Terms) → IsSome (type_of known m.functions (Call name at)) → R (calls_made v k (Call name at))
    → others name (numbers_of w q (all_moved m (m.origins name) at)) ≡ costs name (numbers_of v k at)) where
  abbrev Typed : Term → Type 0
  Typed e = IsSome (type_of known m.functions e)

  abbrev V : Term → ℕ
  V e = cost_of v k costs e

  abbrev W : Term → ℕ
  W e = cost_of w q others e

  abbrev old : Asked → ℕ
  old c = costs c.name c.at

  literal_if : (d : Bool) (t : Ty) (n c : ℤ) → W (elim d [ true ↦ literal (wrap I32 (wrap I32 n +ℤ c)) | false ↦ Number t n ]) ≡ 0
  literal_if true t n c = literal_cost w q others (wrap I32 (wrap I32 n +ℤ c))
  literal_if false t n c = refl

  -- a number with a minus before it makes no calls
  negated_cost : (a : Term) (c : ℤ) (found : Option ℤ) → number_in (Minus a) ≡ found → W (moved m (against c) a) ≡ V a → W (negated_moved c found (λ d. moved m d a)) ≡ V a
  negated_cost a c (Some z) d h = literal_cost w q others (wrap I32 (z +ℤ c)) ∙ sym (number_cost v k costs (Minus a) z d)
  negated_cost a c None d h = h

  -- an operator whose sides cost what they did
  operated : (d : Bool) (op : Op) (c : ℤ) (a b : Term) → ((c : ℤ) → W (moved m c a) ≡ V a) → ((c : ℤ) → W (moved m c b) ≡ V b)
      → W (elim d [
        | true ↦ operator_moved op c (number_in a) (number_in b) (m.ends a) (constant m a) (constant m b) a b (λ d. moved m d a) (λ d. moved m d b)
        | false ↦ Binary op (moved m (pos 0) a) (moved m (pos 0) b)
      ]) ≡ V a + V b
  operated true op c a b ha hb = operator_cost w q others c (λ d. moved m d a) (λ d. moved m d b) (V a) (V b) ha hb op a b (number_in a) (number_in b) (m.ends a) (constant m a) (constant m b)
      (number_cost v k costs b) (number_cost v k costs a) (number_cost w q others a) (number_cost w q others b)
  operated false op c a b ha hb = two w q others (calls_made w q (moved m (pos 0) a)) (calls_made w q (moved m (pos 0) b)) ∙ (λ i. ha (pos 0) i + hb (pos 0) i)

  both_tests : (t u : Test) → K_test w q others (test_moved m t) ≡ K_test v k costs t → K_test w q others (test_moved m u) ≡ K_test v k costs u
      → K_test w q others (Both (test_moved m t) (test_moved m u)) ≡ K_test v k costs (Both t u)
  both_tests t u ht hu =
      two w q others (calls_made_by_test w q (test_moved m t)) (calls_made_by_test w q (test_moved m u)) ∙ (λ i. ht i + hu i)
      ∙ sym (two v k costs (calls_made_by_test v k t) (calls_made_by_test v k u))

  -- the first of a call's indices, and the others
  record Indexed (a : Term) (rest : Terms) : Type 0 where
    typed : Typed a
    behind : are_indices known m.functions rest ≡ true
    reached : R (calls_made v k a)
    beyond : R (calls_made_by_all v k rest)

  first_index : (a : Term) (rest : Terms) → are_indices known m.functions (More a rest) ≡ true → R (calls_made_by_all v k (More a rest)) → Indexed a rest
  first_index a rest h r =
      let b = both_true (is_index (type_of known m.functions a)) (are_indices known m.functions rest) h in
      record {
        typed = some_of (Some I32) (type_of known m.functions a) (sym (index-is (type_of known m.functions a) b.0)) refl;
        behind = b.1;
        reached = left (calls_made v k a) (calls_made_by_all v k rest) r;
        beyond = right (calls_made v k a) (calls_made_by_all v k rest) r;
      }

  more_indices : (c : ℤ) (os : List ℤ) (a : Term) (rest : Terms) → W (moved m c a) ≡ V a → K_all w q others (all_moved m os rest) ≡ K_all v k costs rest
      → K_all w q others (More (moved m c a) (all_moved m os rest)) ≡ K_all v k costs (More a rest)
  more_indices c os a rest ha hr =
      two w q others (calls_made w q (moved m c a)) (calls_made_by_all w q (all_moved m os rest)) ∙ (λ i. ha i + hr i)
      ∙ sym (two v k costs (calls_made v k a) (calls_made_by_all v k rest))

  mutual
    pub cost_moved : (e : Term) → Typed e → R (calls_made v k e) → (c : ℤ) → W (moved m c e) ≡ V e
    cost_moved (Number t n) h r c = literal_if (is_i32 m (Number t n)) t n c
    cost_moved (Name name) h r c = plus_cost w q others (Name name) (wrap I32 (m.variables name +ℤ c))
    cost_moved (Call name at) h r c =
        let this = alike name at h r in
        let at' = all_moved m (m.origins name) at in
        let typed = (some_only_if (are_indices known m.functions at) (answer_type (m.functions name) (index_count at)) h).0 in
        let rest = costs_moved (m.origins name) at typed (left (calls_made_by_all v k at) (asked name (numbers_of v k at) ∷ []) r) in
        plus_cost w q others (Call name at') c
        ∙ sum_by_push (λ (x : Asked). others x.name x.at) (calls_made_by_all w q at') (asked name (numbers_of w q at'))
        ∙ (λ i. rest i + this i)
        ∙ sym (sum_by_push old (calls_made_by_all v k at) (asked name (numbers_of v k at)))
    cost_moved (Minus a) h r c = negated_cost a c (number_in (Minus a)) refl (cost_moved a h r (against c))
    cost_moved (Binary op a b) h r c =
        let s = both_typed known m.functions a b (some_operator op (common (type_of known m.functions a) (type_of known m.functions b)) h) in
        let ra = left (calls_made v k a) (calls_made v k b) r in
        let rb = right (calls_made v k a) (calls_made v k b) r in
        operated (is_i32 m a) op c a b (λ d. cost_moved a s.first ra d) (λ d. cost_moved b s.second rb d) ∙ sym (two v k costs (calls_made v k a) (calls_made v k b))
    cost_moved (Clamp a l u) h r c =
        let s = all_typed known m.functions a l u h in
        let lr = left (calls_made v k a ++ calls_made v k l) (calls_made v k u) r in
        let ra = left (calls_made v k a) (calls_made v k l) lr in
        let rl = right (calls_made v k a) (calls_made v k l) lr in
        let ru = right (calls_made v k a ++ calls_made v k l) (calls_made v k u) r in
        clamp_cost w q others c (λ d. moved m d a) (λ d. moved m d l) (λ d. moved m d u) (V a) (V l) (V u) (λ d. cost_moved a s.first ra d) (λ d. cost_moved l s.second rl d)
        (λ d. cost_moved u s.third ru d) (number_in l) (number_in u) (m.ends a) (number_cost v k costs l) (number_cost v k costs u)
        ∙ sym (three v k costs (calls_made v k a) (calls_made v k l) (calls_made v k u))
    cost_moved (Cast t a) h r c =
        let s = some_only_if (is_some (type_of known m.functions a)) (Some t) h in
        plus_cost w q others (Cast t (moved m (pos 0) a)) c ∙ cost_moved a s.0 r (pos 0)
    cost_moved (Choice t a b) h r c =
        let arms = common (type_of known m.functions a) (type_of known m.functions b) in
        let g = some_only_if (is_typed known m.functions t) arms h in
        let s = both_typed known m.functions a b (some_of (only_if (is_typed known m.functions t) arms) arms g.1 h) in
        let tr = left (calls_made_by_test v k t ++ calls_made v k a) (calls_made v k b) r in
        let rt = left (calls_made_by_test v k t) (calls_made v k a) tr in
        let ra = right (calls_made_by_test v k t) (calls_made v k a) tr in
        let rb = right (calls_made_by_test v k t ++ calls_made v k a) (calls_made v k b) r in
        three w q others (calls_made_by_test w q (test_moved m t)) (calls_made w q (moved m c a)) (calls_made w q (moved m c b))
        ∙ (λ i. test_cost t g.0 rt i + cost_moved a s.first ra c i + cost_moved b s.second rb c i)
        ∙ sym (three v k costs (calls_made_by_test v k t) (calls_made v k a) (calls_made v k b))

    test_cost : (t : Test) → IsTrue (is_typed known m.functions t) → R (calls_made_by_test v k t) → K_test w q others (test_moved m t) ≡ K_test v k costs t
    test_cost (Compares by a b) h r =
        let s = both_typed known m.functions a b h in
        let ra = left (calls_made v k a) (calls_made v k b) r in
        let rb = right (calls_made v k a) (calls_made v k b) r in
        compare_cost w q others (pos 0) (λ d. moved m d a) (λ d. moved m d b) (V a) (V b) (λ d. cost_moved a s.first ra d) (λ d. cost_moved b s.second rb d) by (number_in b) (m.ends a)
        (number_cost v k costs b)
        ∙ sym (two v k costs (calls_made v k a) (calls_made v k b))
    test_cost (Fails t) h r = test_cost t h r
    test_cost (Both t u) h r =
        let b = both_true (is_typed known m.functions t) (is_typed known m.functions u) h in
        let rt = left (calls_made_by_test v k t) (calls_made_by_test v k u) r in
        let ru = right (calls_made_by_test v k t) (calls_made_by_test v k u) r in
        both_tests t u (test_cost t b.0 rt) (test_cost u b.1 ru)
    test_cost (Either t u) h r =
        let b = both_true (is_typed known m.functions t) (is_typed known m.functions u) h in
        let rt = left (calls_made_by_test v k t) (calls_made_by_test v k u) r in
        let ru = right (calls_made_by_test v k t) (calls_made_by_test v k u) r in
        both_tests t u (test_cost t b.0 rt) (test_cost u b.1 ru)

    -- the indices of a call
    costs_moved : (os : List ℤ) (at : Terms) → are_indices known m.functions at ≡ true → R (calls_made_by_all v k at) → K_all w q others (all_moved m os at) ≡ K_all v k costs at
    costs_moved [] End h r = refl
    costs_moved (o ∷ os) End h r = refl
    costs_moved [] (More a rest) h r =
        let i = first_index a rest h r in
        more_indices (pos 0) [] a rest (cost_moved a i.typed i.reached (pos 0)) (costs_moved [] rest i.behind i.beyond)
    costs_moved (o ∷ os) (More a rest) h r =
        let i = first_index a rest h r in
        more_indices (against o) os a rest (cost_moved a i.typed i.reached (against o)) (costs_moved os rest i.behind i.beyond)
