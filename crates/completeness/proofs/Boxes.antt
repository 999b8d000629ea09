-- Over loops of numbers, some of which have a further upper form, the search for a bound of a form finds no more than what freeing it of all symbols does, and with a number more a number more.
use Rattle.std.proofs.Common.{◌≡◌, ℕ, zero, suc, ◌+◌, ◌*◌, ◌<◌, ◌≤◌, ◌^◌, Bool, true, false, ◌&&◌, ◌||◌, List}
use Rattle.std.proofs.Common.{[], ◌∷◌, ◌++◌, length, map, Option, Some, None, refl, sym, ap, ◌∙◌, subst, inl, inr, ◌⊎◌, arith}
use Rattle.std.specs.Prelude.{ℤ, pos, negsuc, ◌+ℤ◌, ◌*ℤ◌, ◌≤ℤ◌, ◌==◌, not, nat_lt, nat_le, filter, fold, option_and_then, if◌then◌else◌, slice_get}
use Rattle.std.specs.List.{AllByRecursion, list_any}
use Rattle.std.specs.Option.{option_map_or}
use Rattle.std.specs.Int.{int_min, int_max}
use Rattle.std.specs.Int.RustNames.{unsigned_abs}
use Rattle.std.proofs.Math.Nat.{mul_left_comm, mul_comm, mul-add, mul-le-mul_left, mul-le-mul_right}
use Rattle.std.proofs.lemmas.Int.{ints, clamps, unsigned_abs-mul}
use Rattle.std.proofs.lemmas.Bool.{le-leb}
use Rattle.std.proofs.lemmas.Bool.Decides.{nat_tests}
use Rattle.std.proofs.lemmas.Option.{slice_get_within}
use Rattle.lin.specs.Forms.{Form, number, factor_of, is_zero, is_within_limits, combined, in_front, plus_term, plus_terms, plus_multiple, without, AreWithin}
use Rattle.lin.specs.declared.form.Multiple.{Multiple}
use Rattle.lin.specs.Search.{candidates, any_may_be, pick, that_counts, replaced, result_at, total, total_at, least, replacements, sup, at_most}
use Rattle.lin.specs.declared.scope.Binding.{Binding}
use Rattle.lin.specs.declared.scope.Binding.TheVariants.{Loop, LetMin, LetMax}
use Rattle.lin.specs.declared.span.Span1.{Span1}
use Rattle.lin.proofs.Limits.{combined-made, combined-means, within_limits-terms, within_limits-few, within_limits-without}
use Rattle.bounds.specs.Lists.{checked}
use Rattle.bounds.specs.Spans.{numbers}
use Rattle.bounds.specs.Projection.Elimination.{is_inner, names_inner, is_eliminated, both, that_count, bounds_at, bounds_below, replacements_below, eliminated}
use Rattle.bounds.specs.Projection.Projection.{negated}
use Rattle.bounds.proofs.ListSound.{AllIn, all_in_some, all-append, kept-all, checked-all}
use Rattle.soundness.specs.Obligations.{anything}
use Rattle.soundness.specs.Shown.{raised}
use Rattle.soundness.proofs.Refines.{eq_true}
use Rattle.blocks.proofs.Laying.{same}
use Rattle.completeness.proofs.TakenSites.{Has}
use Rattle.completeness.proofs.SelfBounds.{found_below, still}
use Rattle.completeness.proofs.Only.{only_combined}
use Rattle.completeness.proofs.NumberUnions.{IsNumber, IsAbove, union_above}
use Rattle.lin.proofs.TermLemmas.{all_weaker}

-- ---- boxes

-- a loop from 0 on, that goes besides no farther than a number less multiples of the symbol of another loop from 0 on
pub record IsCapped (scope : List Binding) (x : Span1) : Type 0 where
  pub last : ℕ
  pub most : ℕ
  pub factor : ℕ
  pub symbol : ℕ
  pub top : ℕ
  pub outer : slice_get scope symbol ≡ Some (Loop (numbers (pos 0) (pos top)))
  pub is :
      x ≡ record { lower = number (pos 0) ∷ []; upper = number (pos last) ∷ record { constant = pos most; terms = record { symbol = symbol; factor = negsuc factor } ∷ [] } ∷ [] }
  pub few : last ≤ 32768
  pub light : most + top * suc factor ≤ 32768

-- ---- lists

pub has_all : {A : Type 0} (P : A → Type 0) (xs : List A) → ((x : A) → Has x xs → P x) → AllByRecursion P xs
has_all P [] h = tt
has_all P (x ∷ xs) h = (h x (inl refl), has_all P xs (λ y k. h y (inr k)))

pub one_of_all : {A : Type 0} (P : A → Type 0) (xs : List A) (x : A) → AllByRecursion P xs → Has x xs → P x
one_of_all P [] x h k = absurd k
one_of_all P (y ∷ xs) x h (inl is) = subst P (sym is) h.0
one_of_all P (y ∷ xs) x h (inr k) = one_of_all P xs x h.1 k

none_has : {A : Type 0} (x : A) (xs ys : List A) → Some ys ≡ Some xs → Has x xs → Has x ys
none_has x xs ys e h = subst (Has x) (sym (same ys xs e)) h

has_map : {A B : Type 0} (f : A → B) (xs : List A) (x : A) → Has x xs → Has (f x) (map f xs)
has_map f [] x h = absurd h
has_map f (y ∷ xs) x (inl is) = inl (ap f is)
has_map f (y ∷ xs) x (inr h) = inr (has_map f xs x h)

-- what is so of each form of all results is so of those that count
pub fold_all : (scope : List Binding) (P : Form → Type 0) (acc : Option (List Form)) (os : List (Option (List Form))) → AllIn P acc → AllByRecursion (λ o. AllIn P o) os →
    AllIn P (fold (both scope false) acc os)
fold_all scope P acc [] h k = h
fold_all scope P acc (o ∷ os) h k = fold_all scope P (both scope false acc o) os (of acc o h k.0) k.1
  where
    of : (a b : Option (List Form)) → AllIn P a → AllIn P b → AllIn P (both scope false a b)
    of None b x y = λ xs e. absurd (cc e)
    of (Some a) None x y = λ xs e. absurd (cc e)
    of (Some a) (Some b) x y = kept-all P (map checked (a ++ b)) (checked-all P (a ++ b) (all-append P a b (x a refl) (y b refl)))

-- where they are some, so is each
abbrev IsSomeList : Option (List Form) → Type 0
IsSomeList o = (xs : List Form) × (o ≡ Some xs)

fold_some : (scope : List Binding) (largest : Bool) (acc : Option (List Form)) (os : List (Option (List Form))) (bs : List Form) → fold (both scope largest) acc os ≡ Some bs →
    IsSomeList acc × AllByRecursion IsSomeList os
fold_some scope largest acc [] bs h = ((bs, h), tt)
fold_some scope largest acc (o ∷ os) bs h =
    let r = fold_some scope largest (both scope largest acc o) os bs h in
    let k = of largest acc o r.0.0 r.0.1 in
    (k.0, (k.1, r.1))
  where
    of : (v : Bool) (a b : Option (List Form)) (xs : List Form) → both scope v a b ≡ Some xs → IsSomeList a × IsSomeList b
    of true None b xs e = absurd (cc e)
    of true (Some a) None xs e = absurd (cc e)
    of true (Some a) (Some b) xs e = ((a, refl), (b, refl))
    of false None b xs e = absurd (cc e)
    of false (Some a) None xs e = absurd (cc e)
    of false (Some a) (Some b) xs e = ((a, refl), (b, refl))

count_some : (scope : List Binding) (largest : Bool) (os : List (Option (List Form))) (bs : List Form) → that_count scope largest os ≡ Some bs → AllByRecursion IsSomeList os
count_some scope largest [] bs h = tt
count_some scope largest (o ∷ os) bs h = (let r = fold_some scope largest o os bs h in (r.0, r.1))

-- the smallest of all is at most each
fold_smallest : (acc : Option ℤ) (os : List (Option ℤ)) (r : ℤ) → ((a : ℤ) × (acc ≡ Some a) × (a ≤ℤ r)) ⊎ Has (Some r) os → (m : ℤ) × (fold (pick false) acc os ≡ Some m) × (m ≤ℤ r)
fold_smallest acc [] r (inl h) = h
fold_smallest acc [] r (inr h) = absurd h
fold_smallest acc (o ∷ os) r h = fold_smallest (pick false acc o) os r (of acc o h)
  where
    least_left : (x y : ℤ) → x ≤ℤ r → int_min x y ≤ℤ r
    least_left x y k = omega (arith, ints, clamps, k)

    least_right : (x y : ℤ) → y ≡ r → int_min x y ≤ℤ r
    least_right x y k = omega (arith, ints, clamps, k)

    itself : (y : ℤ) → y ≡ r → y ≤ℤ r
    itself y k = omega (arith, ints, k)

    of : (a b : Option ℤ) → ((x : ℤ) × (a ≡ Some x) × (x ≤ℤ r)) ⊎ Has (Some r) (b ∷ os) → ((x : ℤ) × (pick false a b ≡ Some x) × (x ≤ℤ r)) ⊎ Has (Some r) os
    of a b (inr (inr k)) = inr k
    of None b (inl k) = absurd (cc k.1)
    of None None (inr (inl e)) = absurd (cc e)
    of None (Some y) (inr (inl e)) = (let is : r ≡ y = cc e in inl (y, refl, itself y (sym is)))
    of (Some x) None (inl k) = (let is : x ≡ k.0 = cc k.1 in let le = k.2 in inl (x, refl, subst (λ (z : ℤ). z ≤ℤ r) (sym is) le))
    of (Some x) None (inr (inl e)) = absurd (cc e)
    of (Some x) (Some y) (inl k) = (let is : x ≡ k.0 = cc k.1 in inl (int_min x y, refl, least_left x y (subst (λ (z : ℤ). z ≤ℤ r) (sym is) k.2)))
    of (Some x) (Some y) (inr (inl e)) = (let is : r ≡ y = cc e in inl (int_min x y, refl, least_right x y (sym is)))

smallest : (os : List (Option ℤ)) (r : ℤ) → Has (Some r) os → (m : ℤ) × (that_counts false os ≡ Some m) × (m ≤ℤ r)
smallest [] r h = absurd h
smallest (o ∷ os) r (inl e) = fold_smallest o os r (inl (r, sym e, itself r))
  where
    itself : (y : ℤ) → y ≤ℤ y
    itself y = omega (arith, ints)
smallest (o ∷ os) r (inr h) = fold_smallest o os r (inr h)

-- ---- weights: how far multiples go

-- how far from 0 the numbers of a symbol's loop go
abbrev pub far_of : List Form → ℕ
far_of [] = 0
far_of (f ∷ fs) = unsigned_abs f.constant

abbrev pub greater : ℕ → ℕ → ℕ
greater m n = if nat_le m n then n else m

left_most : (m n : ℕ) → m ≤ greater m n
left_most m n = of (nat_le m n) refl
  where
    of : (v : Bool) → nat_le m n ≡ v → m ≤ (if v then n else m)
    of true e = grind (arith, nat_tests, e)
    of false e = omega arith

right_most : (m n : ℕ) → n ≤ greater m n
right_most m n = of (nat_le m n) refl
  where
    of : (v : Bool) → nat_le m n ≡ v → n ≤ (if v then n else m)
    of true e = omega arith
    of false e = grind (arith, nat_tests, e)

pub both_under : (m n k : ℕ) → m ≤ k → n ≤ k → greater m n ≤ k
both_under m n k h g = of (nat_le m n)
  where
    of : (v : Bool) → (if v then n else m) ≤ k
    of true = g
    of false = h

abbrev pub weight_of : Option Binding → ℕ
weight_of None = 0
weight_of (Some (Loop x)) = elim x.upper [ [] ↦ 0 | f ∷ fs ↦ elim fs [ [] ↦ greater (far_of x.lower) (unsigned_abs f.constant) | g ∷ gs ↦ 32768 ] ]
weight_of (Some (LetMin fs)) = elim fs [ [] ↦ 0 | f ∷ gs ↦ unsigned_abs f.constant + 16384 ]
weight_of (Some (LetMax fs)) = 0

spread : (w p q s : ℕ) → p ≤ q + s → w * p ≤ w * q + w * s
spread w p q s h = (let most = mul-le-mul_left w h in let parts = mul-add w q s in omega (arith, most, parts))

module _ (scope : List Binding) where
  abbrev pub weight_at : ℕ → ℕ
  weight_at n = weight_of (slice_get scope n)

  abbrev pub weight : List Multiple → ℕ
  weight [] = 0
  weight (t ∷ ts) = weight_at t.symbol * unsigned_abs t.factor + weight ts

  -- the factor of a symbol, and what is left without it
  pub weight_without : (ts : List Multiple) (n : ℕ) → weight_at n * unsigned_abs (factor_of ts n) + weight (filter (λ t. not (t.symbol == n)) ts) ≤ weight ts
  weight_without [] n = (let none = nothing (weight_at n) in omega (arith, none))
    where
      nothing : (w : ℕ) → w * 0 ≡ 0
      nothing w = omega arith
  weight_without (t ∷ ts) n = of (t.symbol == n) refl (weight_without ts n)
    where
      sum : (p q : ℤ) → unsigned_abs (p +ℤ q) ≤ unsigned_abs p + unsigned_abs q
      sum p q = omega (arith, ints)

      zero_more : (q : ℤ) → pos 0 +ℤ q ≡ q
      zero_more q = omega (arith, ints)

      of : (b : Bool) → (t.symbol == n) ≡ b → weight_at n * unsigned_abs (factor_of ts n) + weight (filter (λ t. not (t.symbol == n)) ts) ≤ weight ts →
          weight_at n * unsigned_abs ((if b then t.factor else pos 0) +ℤ factor_of ts n)
          + weight (if not b then t ∷ filter (λ t. not (t.symbol == n)) ts else filter (λ t. not (t.symbol == n)) ts) ≤ weight_at t.symbol * unsigned_abs t.factor + weight ts
      of true e h =
          let is : t.symbol ≡ n = eq_true t.symbol n e in
          let more = spread (weight_at n) (unsigned_abs (t.factor +ℤ factor_of ts n)) (unsigned_abs t.factor) (unsigned_abs (factor_of ts n)) (sum t.factor (factor_of ts n)) in
          let here : weight_at t.symbol * unsigned_abs t.factor ≡ weight_at n * unsigned_abs t.factor = ap (λ (m : ℕ). weight_at m * unsigned_abs t.factor) is in
          omega (arith, more, here, h)
      of false e h =
          let here : weight_at n * unsigned_abs (pos 0 +ℤ factor_of ts n) ≡ weight_at n * unsigned_abs (factor_of ts n) =
          ap (λ (z : ℤ). weight_at n * unsigned_abs z) (zero_more (factor_of ts n)) in
          omega (arith, here, h)

  weight_front : (t : Multiple) (ts : List Multiple) → weight (in_front t ts) ≤ weight_at t.symbol * unsigned_abs t.factor + weight ts
  weight_front t ts = of (is_zero t.factor)
    where
      of : (b : Bool) → weight (if b then ts else t ∷ ts) ≤ weight_at t.symbol * unsigned_abs t.factor + weight ts
      of true = omega arith
      of false = omega arith

  weight_term : (ts : List Multiple) (t : Multiple) → weight (plus_term ts t) ≤ weight ts + weight_at t.symbol * unsigned_abs t.factor
  weight_term [] t = (let front = weight_front t [] in omega (arith, front))
  weight_term (x ∷ xs) t = of (nat_lt x.symbol t.symbol) (x.symbol == t.symbol) refl (weight_term xs t)
    where
      sum : (p q : ℤ) → unsigned_abs (p +ℤ q) ≤ unsigned_abs p + unsigned_abs q
      sum p q = omega (arith, ints)

      of : (a b : Bool) → (x.symbol == t.symbol) ≡ b → weight (plus_term xs t) ≤ weight xs + weight_at t.symbol * unsigned_abs t.factor →
          weight (if a then x ∷ plus_term xs t else (if b then in_front (record { symbol = t.symbol; factor = x.factor +ℤ t.factor }) xs else in_front t (x ∷ xs)))
          ≤ (weight_at x.symbol * unsigned_abs x.factor + weight xs) + weight_at t.symbol * unsigned_abs t.factor
      of true b e rest = omega (arith, rest)
      of false true e rest =
          let is : x.symbol ≡ t.symbol = eq_true x.symbol t.symbol e in
          let front = weight_front (record { symbol = t.symbol; factor = x.factor +ℤ t.factor }) xs in
          let more = spread (weight_at t.symbol) (unsigned_abs (x.factor +ℤ t.factor)) (unsigned_abs x.factor) (unsigned_abs t.factor) (sum x.factor t.factor) in
          let here : weight_at x.symbol * unsigned_abs x.factor ≡ weight_at t.symbol * unsigned_abs x.factor = ap (λ (m : ℕ). weight_at m * unsigned_abs x.factor) is in
          omega (arith, front, more, here)
      of false false e rest = (let front = weight_front t (x ∷ xs) in omega (arith, front))

  pub weight_terms : (ts : List Multiple) (k : ℤ) (us : List Multiple) → weight (plus_terms ts k us) ≤ weight ts + unsigned_abs k * weight us
  weight_terms ts k [] = omega arith
  weight_terms ts k (u ∷ us) =
      let v : Multiple = record { symbol = u.symbol; factor = k *ℤ u.factor } in
      let rest = weight_terms (plus_term ts v) k us in
      let one = weight_term ts v in
      let product : weight_at u.symbol * unsigned_abs (k *ℤ u.factor) ≡ unsigned_abs k * (weight_at u.symbol * unsigned_abs u.factor) =
      ap (λ (m : ℕ). weight_at u.symbol * m) (unsigned_abs-mul k u.factor) ∙ mul_left_comm (weight_at u.symbol) (unsigned_abs k) (unsigned_abs u.factor) in
      let parts = mul-add (unsigned_abs k) (weight_at u.symbol * unsigned_abs u.factor) (weight us) in
      omega (arith, rest, one, product, parts)

-- ---- what is known of symbols

abbrev pub IsNumbers : Span1 → Type 0
IsNumbers x = (low : ℤ) × (last : ℤ) × (x ≡ numbers low last) × (low ≤ℤ last)

-- the smaller one of a form over loops from 0 on and a number that is not before the form's first one
pub record IsLet (scope : List Binding) (fs : List Form) : Type 0 where
  pub form : Form
  pub last : ℤ
  pub is : fs ≡ form ∷ number last ∷ []
  pub over : AllByRecursion (λ (t : Multiple). (x : Span1) × (slice_get scope t.symbol ≡ Some (Loop x)) × (x.lower ≡ number (pos 0) ∷ [])) form.terms
  pub light : weight scope form.terms ≤ 16384
  pub near : unsigned_abs last ≤ unsigned_abs form.constant + 16384
  pub least : form.constant ≤ℤ last

-- there are numbers of a loop, with a further upper form or without; a let is such; or nothing is known of the symbol
abbrev pub IsBox : List Binding → Binding → Type 0
IsBox scope (Loop x) = (x ≡ anything) ⊎ (IsNumbers x ⊎ IsCapped scope x)
IsBox scope (LetMin fs) = IsLet scope fs
IsBox scope (LetMax fs) = ⊥

abbrev pub AreBoxes : List Binding → Type 0
AreBoxes scope = (n : ℕ) (b : Binding) → slice_get scope n ≡ Some b → IsBox scope b

-- no let
abbrev pub IsPlain : Binding → Type 0
IsPlain (Loop x) = Unit {0}
IsPlain (LetMin fs) = ⊥
IsPlain (LetMax fs) = ⊥

abbrev pub ArePlain : List Binding → Type 0
ArePlain scope = (n : ℕ) (b : Binding) → slice_get scope n ≡ Some b → IsPlain b

module _ (scope : List Binding) where
  -- a form that may stand in a symbol's place goes no farther than the symbol
  pub candidates_light : (b : Binding) → IsBox scope b → (c : ℤ) → AllByRecursion (λ f. unsigned_abs f.constant + weight scope f.terms ≤ weight_of (Some b)) (candidates b c)
  candidates_light (Loop x) (inl is) (pos n) =
      subst (λ (y : Span1). AllByRecursion (λ f. unsigned_abs f.constant + weight scope f.terms ≤ weight_of (Some (Loop y))) y.upper) (sym is) tt
  candidates_light (Loop x) (inl is) (negsuc n) =
      subst (λ (y : Span1). AllByRecursion (λ f. unsigned_abs f.constant + weight scope f.terms ≤ weight_of (Some (Loop y))) y.lower) (sym is) tt
  candidates_light (Loop x) (inr (inl k)) (pos n) =
      subst (λ (y : Span1). AllByRecursion (λ f. unsigned_abs f.constant + weight scope f.terms ≤ weight_of (Some (Loop y))) y.upper) (sym k.2)
      (let most = right_most (unsigned_abs k.0) (unsigned_abs k.1) in omega (arith, most), tt)
  candidates_light (Loop x) (inr (inl k)) (negsuc n) =
      subst (λ (y : Span1). AllByRecursion (λ f. unsigned_abs f.constant + weight scope f.terms ≤ weight_of (Some (Loop y))) y.lower) (sym k.2)
      (let most = left_most (unsigned_abs k.0) (unsigned_abs k.1) in omega (arith, most), tt)
  candidates_light (Loop x) (inr (inr k)) (pos n) =
      let few = k.few in
      let light = k.light in
      let none : greater 0 k.top ≡ k.top = (let first : nat_le 0 k.top ≡ true = grind (arith, nat_tests) in λ i. if first i then k.top else 0) in
      let top_is : weight_at scope k.symbol ≡ k.top = ap weight_of k.outer ∙ none in
      let limit : k.most + (weight_at scope k.symbol * suc k.factor + 0) ≤ 32768 = subst (λ (w : ℕ). k.most + (w * suc k.factor + 0) ≤ 32768) (sym top_is) (omega (arith, light)) in
      subst (λ (y : Span1). AllByRecursion (λ f. unsigned_abs f.constant + weight scope f.terms ≤ weight_of (Some (Loop y))) y.upper) (sym k.is) (omega (arith, few), (limit, tt))
  candidates_light (Loop x) (inr (inr k)) (negsuc n) =
      subst (λ (y : Span1). AllByRecursion (λ f. unsigned_abs f.constant + weight scope f.terms ≤ weight_of (Some (Loop y))) y.lower) (sym k.is) (omega arith, tt)
  candidates_light (LetMin fs) k c =
      let light = k.light in
      let near = k.near in
      subst (λ (gs : List Form). AllByRecursion (λ f. unsigned_abs f.constant + weight scope f.terms ≤ weight_of (Some (LetMin gs))) gs) (sym k.is) (omega (arith, light), (omega (arith, near), tt))
  candidates_light (LetMax fs) box c = absurd box

  -- any may be the value of a let where its factor is negative
  may_let : (b : Binding) → IsBox scope b → (c : ℤ) → any_may_be b c ≡ true → (fs : List Form) × (b ≡ LetMin fs) × IsLet scope fs
  may_let (Loop x) box c e = absurd (cc e)
  may_let (LetMin fs) box c e = (fs, refl, box)
  may_let (LetMax fs) box c e = absurd box

-- ---- weights that are small enough

-- where there are lets the weights of forms are at most half as much
abbrev pub LightIn : List Binding → List Multiple → Type 0
LightIn scope ts = (weight scope ts ≤ 2 ^ 38 + 2 ^ 37 + 2 ^ 36) ⊎ (ArePlain scope × (weight scope ts ≤ 2 ^ 39 + 2 ^ 37))

light_less : (scope : List Binding) (ts us : List Multiple) → weight scope ts ≤ weight scope us → LightIn scope us → LightIn scope ts
light_less scope ts us le (inl h) = inl (omega (arith, le, h))
light_less scope ts us le (inr h) = (let most = h.1 in inr (h.0, omega (arith, le, most)))

-- ---- light forms

-- the multiples of the form go no farther than that together, where it is within the limits
abbrev pub IsLight : List Binding → Form → Type 0
IsLight scope f = is_within_limits f ≡ true → LightIn scope f.terms

-- each form of the span is such
abbrev pub IsLightSpan : List Binding → Span1 → Type 0
IsLightSpan scope s = AllByRecursion (IsLight scope) s.lower × AllByRecursion (IsLight scope) s.upper

-- so is each, whatever its factors, where no symbol's numbers go farther than 73,728 and none is a let, or no symbol's numbers go farther than 49,152
module _ (scope : List Binding) (few : (n : ℕ) → weight_at scope n ≤ 73728) (plain : ArePlain scope ⊎ ((n : ℕ) → weight_at scope n ≤ 49152)) where
  weight_fewer : ((n : ℕ) → weight_at scope n ≤ 49152) → (ts : List Multiple) → AreWithin (2 ^ 20) ts → weight scope ts ≤ 51539607552 * length ts
  weight_fewer fewer [] h = omega arith
  weight_fewer fewer (t ∷ ts) h =
      let here : unsigned_abs t.factor ≤ 1048576 = h.0 in
      let most = mul-le-mul_right (unsigned_abs t.factor) (fewer t.symbol) in
      let rest = weight_fewer fewer ts h.1 in
      omega (arith, here, most, rest)

  weight_few : (ts : List Multiple) → AreWithin (2 ^ 20) ts → weight scope ts ≤ 77309411328 * length ts
  weight_few [] h = omega arith
  weight_few (t ∷ ts) h =
      let here : unsigned_abs t.factor ≤ 1048576 = h.0 in
      let most = mul-le-mul_right (unsigned_abs t.factor) (few t.symbol) in
      let rest = weight_few ts h.1 in
      omega (arith, here, most, rest)

  few_light : (f : Form) → IsLight scope f
  few_light f limited = of plain
    where
      of : ArePlain scope ⊎ ((n : ℕ) → weight_at scope n ≤ 49152) → LightIn scope f.terms
      of (inl none) =
          let sized = weight_few f.terms (within_limits-terms f limited) in
          let count = within_limits-few f limited in
          inr (none, omega (arith, sized, count))
      of (inr fewer) =
          let sized = weight_fewer fewer f.terms (within_limits-terms f limited) in
          let count = within_limits-few f limited in
          inl (omega (arith, sized, count))

  -- their multiples go no farther than this together, where no symbol's numbers go farther than 49,152
  pub span_few : ((n : ℕ) → weight_at scope n ≤ 49152) → (s : Span1) → AllByRecursion (λ f. is_within_limits f ≡ true → weight scope f.terms ≤ 2 ^ 38 + 2 ^ 37 + 2 ^ 36) s.lower
      × AllByRecursion (λ f. is_within_limits f ≡ true → weight scope f.terms ≤ 2 ^ 38 + 2 ^ 37 + 2 ^ 36) s.upper
  span_few fewer s = (
    has_all (λ f. is_within_limits f ≡ true → weight scope f.terms ≤ 2 ^ 38 + 2 ^ 37 + 2 ^ 36) s.lower (λ f k limited. each f limited),
    has_all (λ f. is_within_limits f ≡ true → weight scope f.terms ≤ 2 ^ 38 + 2 ^ 37 + 2 ^ 36) s.upper (λ f k limited. each f limited),
  )
    where
      each : (f : Form) → is_within_limits f ≡ true → weight scope f.terms ≤ 2 ^ 38 + 2 ^ 37 + 2 ^ 36
      each f limited =
          let sized = weight_fewer fewer f.terms (within_limits-terms f limited) in
          let count = within_limits-few f limited in
          omega (arith, sized, count)

  pub span_light : (s : Span1) → IsLightSpan scope s
  span_light s = (has_all (IsLight scope) s.lower (λ f k. few_light f), has_all (IsLight scope) s.upper (λ f k. few_light f))

-- the symbols of such forms are those of the scope
module _ (scope : List Binding) (P : ℕ → Type 0) (all : (m : ℕ) → m < length scope → P m) where
  candidates_only : (b : Binding) → IsBox scope b → (c : ℤ) → AllByRecursion (λ f. AllByRecursion (λ t. P t.symbol) f.terms) (candidates b c)
  candidates_only (Loop x) (inl is) (pos n) = subst (λ (y : Span1). AllByRecursion (λ f. AllByRecursion (λ t. P t.symbol) f.terms) y.upper) (sym is) tt
  candidates_only (Loop x) (inl is) (negsuc n) = subst (λ (y : Span1). AllByRecursion (λ f. AllByRecursion (λ t. P t.symbol) f.terms) y.lower) (sym is) tt
  candidates_only (Loop x) (inr (inl k)) (pos n) = subst (λ (y : Span1). AllByRecursion (λ f. AllByRecursion (λ t. P t.symbol) f.terms) y.upper) (sym k.2) (tt, tt)
  candidates_only (Loop x) (inr (inl k)) (negsuc n) = subst (λ (y : Span1). AllByRecursion (λ f. AllByRecursion (λ t. P t.symbol) f.terms) y.lower) (sym k.2) (tt, tt)
  candidates_only (Loop x) (inr (inr k)) (pos n) =
      subst (λ (y : Span1). AllByRecursion (λ f. AllByRecursion (λ t. P t.symbol) f.terms) y.upper) (sym k.is)
      (tt, ((all k.symbol (slice_get_within scope k.symbol (Loop (numbers (pos 0) (pos k.top))) k.outer), tt), tt))
  candidates_only (Loop x) (inr (inr k)) (negsuc n) = subst (λ (y : Span1). AllByRecursion (λ f. AllByRecursion (λ t. P t.symbol) f.terms) y.lower) (sym k.is) (tt, tt)
  candidates_only (LetMin fs) k c =
      subst (λ (gs : List Form). AllByRecursion (λ f. AllByRecursion (λ t. P t.symbol) f.terms) gs) (sym k.is) (
        all_weaker (λ (t : Multiple). (x : Span1) × (slice_get scope t.symbol ≡ Some (Loop x)) × (x.lower ≡ number (pos 0) ∷ [])) (λ t. P t.symbol)
            (λ t h. all t.symbol (slice_get_within scope t.symbol (Loop h.0) h.1)) k.form.terms k.over,
        (tt, tt),
      )
  candidates_only (LetMax fs) box c = absurd box

-- ---- one symbol

module _ (scope : List Binding) (inner : List ℕ) (boxes : AreBoxes scope) where
  -- each symbol of the form is one of those
  abbrev AreInner : List Multiple → Type 0
  AreInner ts = AllByRecursion (λ t. is_inner inner t.symbol ≡ true) ts

  no_terms : (ts : List Multiple) → AreInner ts → list_any (λ t. is_inner inner t.symbol) ts ≡ false → ts ≡ []
  no_terms [] h e = refl
  no_terms (t ∷ ts) h e = absurd (cc (e, ap (λ (b : Bool). b || list_any (λ t. is_inner inner t.symbol) ts) h.0))

  inner_left : (test : Multiple → Bool) (ts : List Multiple) → AreInner ts → AreInner (filter test ts)
  inner_left test [] h = tt
  inner_left test (t ∷ ts) h = of (test t) (inner_left test ts h.1)
    where
      of : (b : Bool) → AreInner (filter test ts) → AreInner (if b then t ∷ filter test ts else filter test ts)
      of true k = (h.0, k)
      of false k = k

  -- what stands in the symbol's place, and what is found then
  record IsStep (n : ℕ) (form : Form) (y : Form) : Type 0 where
    binding : Binding
    there : slice_get scope n ≡ Some binding
    other : Form
    among : Has other (candidates binding (factor_of form.terms n))
    next : Form
    made : replaced form n (factor_of form.terms n) other ≡ Some next
    found : List Form
    comes : bounds_below scope inner n next ≡ Some found
    has : Has y found

  -- of a let with a negative factor both are looked at, and the greater one counts
  record IsBoth (n : ℕ) (form : Form) (y : Form) : Type 0 where
    forms : List Form
    there : slice_get scope n ≡ Some (LetMin forms)
    is_let : IsLet scope forms
    may : any_may_be (LetMin forms) (factor_of form.terms n) ≡ true
    one : Form
    two : Form
    first : IsStep n form one
    second : IsStep n form two
    first_is : first.other ≡ is_let.form
    second_is : second.other ≡ number is_let.last
    one_most : one.constant ≤ℤ y.constant
    two_most : two.constant ≤ℤ y.constant
    either : (y.constant ≡ one.constant) ⊎ (y.constant ≡ two.constant)

  module _ (n : ℕ) (form : Form) (y : Form) where
    abbrev result_of : Form → Option (List Form)
    result_of other = option_and_then (λ next. bounds_below scope inner n next) (replaced form n (factor_of form.terms n) other)

    -- one of these gives it
    abbrev IsGiven : List Form → Form → Type 0
    IsGiven cs f = (other : Form) × Has other cs × (found : List Form) × (result_of other ≡ Some found) × Has f found

    each_given : (cs ds : List Form) → ((f : Form) → Has f ds → Has f cs) → AllByRecursion (λ o. AllIn (IsGiven cs) o) (map result_of ds)
    each_given cs [] w = tt
    each_given cs (d ∷ ds) w = ((λ xs e. has_all (IsGiven cs) xs (λ f k. (d, w d (inl refl), xs, e, k))), each_given cs ds (λ f k. w f (inr k)))

    given_one : (cs bs : List Form) → that_count scope false (map result_of cs) ≡ Some bs → Has y bs → IsGiven cs y
    given_one [] bs q has = absurd (none_has y bs [] q has)
    given_one (f ∷ fs) bs q has =
        let ps = each_given (f ∷ fs) (f ∷ fs) (λ g k. k) in
        one_of_all (IsGiven (f ∷ fs)) bs y (fold_all scope (IsGiven (f ∷ fs)) (result_of f) (map result_of fs) ps.0 ps.1 bs q) has

  by_made : (n : ℕ) (form y : Form) (b : Binding) → slice_get scope n ≡ Some b → (other : Form) → Has other (candidates b (factor_of form.terms n)) → (found : List Form) → Has y found →
      (o : Option Form) → replaced form n (factor_of form.terms n) other ≡ o → option_and_then (λ next. bounds_below scope inner n next) o ≡ Some found →
      (s : IsStep n form y) × (s.other ≡ other)
  by_made n form y b there other among found in_found None q k = absurd (cc k)
  by_made n form y b there other among found in_found (Some next) q k = (
    record {
      binding = b;
      there = there;
      other = other;
      among = among;
      next = next;
      made = q;
      found = found;
      comes = k;
      has = in_found;
    },
    refl,
  )

  -- ---- how far a form's number is

  -- with what stands in the symbol's place the form goes no farther than with the symbol
  step_far : (n : ℕ) (form : Form) (y : Form) (s : IsStep n form y) → (v : ℕ) → unsigned_abs s.next.constant ≤ v + weight scope s.next.terms → unsigned_abs form.constant ≤ v + weight scope form.terms
  step_far n form y s v h =
      let c : ℤ = factor_of form.terms n in
      let means = combined-means (without form n) c s.other s.next s.made in
      let light : unsigned_abs s.other.constant + weight scope s.other.terms ≤ weight_of (Some s.binding) =
      one_of_all (λ f. unsigned_abs f.constant + weight scope f.terms ≤ weight_of (Some s.binding)) (candidates s.binding c) s.other
      (candidates_light scope s.binding (boxes n s.binding s.there) c) s.among in
      let here : weight_of (Some s.binding) ≡ weight_at scope n = ap weight_of (sym s.there) in
      let left = weight_without scope form.terms n in
      let terms = weight_terms scope (without form n).terms c s.other.terms in
      let parts = mul-add (unsigned_abs c) (unsigned_abs s.other.constant) (weight scope s.other.terms) in
      let most : unsigned_abs c * (unsigned_abs s.other.constant + weight scope s.other.terms) ≤ unsigned_abs c * weight_at scope n =
      mul-le-mul_left (unsigned_abs c) (subst (λ (w : ℕ). unsigned_abs s.other.constant + weight scope s.other.terms ≤ w) here light) in
      let turned = mul_comm (unsigned_abs c) (weight_at scope n) in
      let product = unsigned_abs-mul c s.other.constant in
      let constant : s.next.constant ≡ form.constant +ℤ c *ℤ s.other.constant = ap (λ (f : Form). f.constant) means.is in
      let terms_are : weight scope s.next.terms ≡ weight scope (plus_terms (without form n).terms c s.other.terms) = ap (λ (f : Form). weight scope f.terms) means.is in
      let sum : unsigned_abs form.constant ≤ unsigned_abs s.next.constant + unsigned_abs (c *ℤ s.other.constant) =
      subst (λ (z : ℤ). unsigned_abs form.constant ≤ unsigned_abs z + unsigned_abs (c *ℤ s.other.constant)) (sym constant) (part form.constant (c *ℤ s.other.constant)) in
      omega (arith, h, left, terms, parts, most, turned, product, terms_are, sum)
    where
      part : (a b : ℤ) → unsigned_abs a ≤ unsigned_abs (a +ℤ b) + unsigned_abs b
      part a b = omega (arith, ints)

  -- nor is it heavier
  step_light : (n : ℕ) (form : Form) (y : Form) (s : IsStep n form y) → weight scope s.next.terms ≤ weight scope form.terms
  step_light n form y s =
      let c : ℤ = factor_of form.terms n in
      let means = combined-means (without form n) c s.other s.next s.made in
      let light : unsigned_abs s.other.constant + weight scope s.other.terms ≤ weight_of (Some s.binding) =
      one_of_all (λ f. unsigned_abs f.constant + weight scope f.terms ≤ weight_of (Some s.binding)) (candidates s.binding c) s.other
      (candidates_light scope s.binding (boxes n s.binding s.there) c) s.among in
      let here : weight_of (Some s.binding) ≡ weight_at scope n = ap weight_of (sym s.there) in
      let left = weight_without scope form.terms n in
      let terms = weight_terms scope (without form n).terms c s.other.terms in
      let most : unsigned_abs c * weight scope s.other.terms ≤ unsigned_abs c * weight_at scope n =
      mul-le-mul_left (unsigned_abs c) (second (unsigned_abs s.other.constant) (weight scope s.other.terms)
      (subst (λ (w : ℕ). unsigned_abs s.other.constant + weight scope s.other.terms ≤ w) here light)) in
      let turned = mul_comm (unsigned_abs c) (weight_at scope n) in
      let terms_are : weight scope s.next.terms ≡ weight scope (plus_terms (without form n).terms c s.other.terms) = ap (λ (f : Form). weight scope f.terms) means.is in
      omega (arith, left, terms, most, turned, terms_are)
    where
      second : (p q : ℕ) → p + q ≤ weight_at scope n → q ≤ weight_at scope n
      second p q h = omega (arith, h)

  -- nor do its number and its multiples together go farther
  step_down : (n : ℕ) (form : Form) (y : Form) (s : IsStep n form y) → unsigned_abs s.next.constant + weight scope s.next.terms ≤ unsigned_abs form.constant + weight scope form.terms
  step_down n form y s =
      let c : ℤ = factor_of form.terms n in
      let means = combined-means (without form n) c s.other s.next s.made in
      let light : unsigned_abs s.other.constant + weight scope s.other.terms ≤ weight_of (Some s.binding) =
      one_of_all (λ f. unsigned_abs f.constant + weight scope f.terms ≤ weight_of (Some s.binding)) (candidates s.binding c) s.other
      (candidates_light scope s.binding (boxes n s.binding s.there) c) s.among in
      let here : weight_of (Some s.binding) ≡ weight_at scope n = ap weight_of (sym s.there) in
      let left = weight_without scope form.terms n in
      let terms = weight_terms scope (without form n).terms c s.other.terms in
      let parts = mul-add (unsigned_abs c) (unsigned_abs s.other.constant) (weight scope s.other.terms) in
      let most : unsigned_abs c * (unsigned_abs s.other.constant + weight scope s.other.terms) ≤ unsigned_abs c * weight_at scope n =
      mul-le-mul_left (unsigned_abs c) (subst (λ (w : ℕ). unsigned_abs s.other.constant + weight scope s.other.terms ≤ w) here light) in
      let turned = mul_comm (unsigned_abs c) (weight_at scope n) in
      let product = unsigned_abs-mul c s.other.constant in
      let constant : s.next.constant ≡ form.constant +ℤ c *ℤ s.other.constant = ap (λ (f : Form). f.constant) means.is in
      let terms_are : weight scope s.next.terms ≡ weight scope (plus_terms (without form n).terms c s.other.terms) = ap (λ (f : Form). weight scope f.terms) means.is in
      let sum : unsigned_abs s.next.constant ≤ unsigned_abs form.constant + unsigned_abs (c *ℤ s.other.constant) =
      subst (λ (z : ℤ). unsigned_abs z ≤ unsigned_abs form.constant + unsigned_abs (c *ℤ s.other.constant)) (sym constant) (part form.constant (c *ℤ s.other.constant)) in
      omega (arith, left, terms, parts, most, turned, product, terms_are, sum)
    where
      part : (a b : ℤ) → unsigned_abs (a +ℤ b) ≤ unsigned_abs a + unsigned_abs b
      part a b = omega (arith, ints)

  -- ---- where all symbols are freed

  module _ (all : (m : ℕ) → m < length scope → is_inner inner m ≡ true) where
    -- so are those of what a step makes
    next_inner : (n : ℕ) (form : Form) (b : Binding) → slice_get scope n ≡ Some b → AreInner form.terms → (c : ℤ) (other next : Form) → Has other (candidates b c) →
        replaced form n c other ≡ Some next → AreInner next.terms
    next_inner n form b there among c other next has made =
        let only : AreInner other.terms =
        one_of_all (λ f. AllByRecursion (λ t. is_inner inner t.symbol ≡ true) f.terms) (candidates b c) other
        (candidates_only scope (λ m. is_inner inner m ≡ true) all b (boxes n b there) c) has in
        only_combined (λ m. is_inner inner m ≡ true) (without form n) c other (inner_left (λ t. not (t.symbol == n)) form.terms among) only next made

    -- all that is found is numbers
    numbers_below : (n : ℕ) (form : Form) → AreInner form.terms → AllIn IsNumber (bounds_below scope inner n form)
    numbers_below zero form among = of (names_inner inner form) refl
      where
        of : (b : Bool) → names_inner inner form ≡ b → AllIn IsNumber (Some (if b then [] else form ∷ []))
        of true e = all_in_some IsNumber [] tt
        of false e = all_in_some IsNumber (form ∷ []) (no_terms form.terms among e, tt)
    numbers_below (suc n) form among =
        of (is_eliminated inner n (factor_of form.terms n)) (numbers_below n form among) (λ next k. numbers_below n next k)
      where
        c : ℤ
        c = factor_of form.terms n

        result : Form → Option (List Form)
        result other = option_and_then (λ next. bounds_below scope inner n next) (replaced form n c other)

        joined_so : (t : Bool) (a b : Option (List Form)) → AllIn IsNumber a → AllIn IsNumber b → AllIn IsNumber (both scope t a b)
        joined_so t None b x y = λ xs e. absurd (cc e)
        joined_so t (Some a) None x y = λ xs e. absurd (cc e)
        joined_so true (Some a) (Some b) x y = λ xs e. all_weaker (IsAbove scope a b) IsNumber (λ u k. k.7) xs (union_above scope a b (x a refl) (y b refl) xs e)
        joined_so false (Some a) (Some b) x y = kept-all IsNumber (map checked (a ++ b)) (checked-all IsNumber (a ++ b) (all-append IsNumber a b (x a refl) (y b refl)))

        folded : (t : Bool) (acc : Option (List Form)) (os : List (Option (List Form))) → AllIn IsNumber acc → AllByRecursion (λ o. AllIn IsNumber o) os → AllIn IsNumber (fold (both scope t) acc os)
        folded t acc [] h k = h
        folded t acc (o ∷ os) h k = folded t (both scope t acc o) os (joined_so t acc o h k.0) k.1

        counted : (t : Bool) (os : List (Option (List Form))) → AllByRecursion (λ o. AllIn IsNumber o) os → AllIn IsNumber (that_count scope t os)
        counted t [] h = all_in_some IsNumber [] tt
        counted t (o ∷ os) h = folded t o os h.0 h.1

        one : (b : Binding) → slice_get scope n ≡ Some b → ((next : Form) → AreInner next.terms → AllIn IsNumber (bounds_below scope inner n next)) → (other : Form) → Has other (candidates b c) →
            AllIn IsNumber (result other)
        one b there steps other has = by (replaced form n c other) refl
          where
            by : (o : Option Form) → replaced form n c other ≡ o → AllIn IsNumber (option_and_then (λ next. bounds_below scope inner n next) o)
            by None q = λ xs e. absurd (cc e)
            by (Some next) q = steps next (next_inner n form b there among c other next has q)

        each : (b : Binding) → slice_get scope n ≡ Some b → ((next : Form) → AreInner next.terms → AllIn IsNumber (bounds_below scope inner n next)) → (cs : List Form) →
            ((f : Form) → Has f cs → Has f (candidates b c)) → AllByRecursion (λ o. AllIn IsNumber o) (map result cs)
        each b there steps [] w = tt
        each b there steps (f ∷ fs) w = (one b there steps f (w f (inl refl)), each b there steps fs (λ g k. w g (inr k)))

        at : ((next : Form) → AreInner next.terms → AllIn IsNumber (bounds_below scope inner n next)) → (o : Option Binding) → slice_get scope n ≡ o → AllIn IsNumber (bounds_at scope o c result)
        at steps None there = all_in_some IsNumber [] tt
        at steps (Some b) there = counted (any_may_be b c) (map result (candidates b c)) (each b there steps (candidates b c) (λ f k. k))

        of : (t : Bool) → AllIn IsNumber (bounds_below scope inner n form) → ((next : Form) → AreInner next.terms → AllIn IsNumber (bounds_below scope inner n next)) →
            AllIn IsNumber (if t then bounds_at scope (slice_get scope n) c result else bounds_below scope inner n form)
        of true stays steps = at steps (slice_get scope n) refl
        of false stays steps = stays

    step : (n : ℕ) (form : Form) (bs : List Form) (y : Form) → AreInner form.terms → bounds_at scope (slice_get scope n) (factor_of form.terms n) (result_of n form y) ≡ Some bs → Has y bs →
        ((s : IsStep n form y) × (any_may_be s.binding (factor_of form.terms n) ≡ false)) ⊎ IsBoth n form y
    step n form bs y among h has = at_binding (slice_get scope n) refl h
      where
        c : ℤ
        c = factor_of form.terms n

        -- both forms of a let
        at_let : (forms : List Form) → slice_get scope n ≡ Some (LetMin forms) → IsLet scope forms → any_may_be (LetMin forms) c ≡ true →
            that_count scope true (map (result_of n form y) forms) ≡ Some bs → IsBoth n form y
        at_let forms there k may q = by (result_of n form y k.form) (result_of n form y (number k.last)) refl refl q_two
          where
            has_first : Has k.form (candidates (LetMin forms) c)
            has_first = subst (Has k.form) (sym k.is) (inl refl)

            has_second : Has (number k.last) (candidates (LetMin forms) c)
            has_second = subst (Has (number k.last)) (sym k.is) (inr (inl refl))

            q_two : both scope true (result_of n form y k.form) (result_of n form y (number k.last)) ≡ Some bs
            q_two = ap (λ (fs : List Form). that_count scope true (map (result_of n form y) fs)) (sym k.is) ∙ q

            number_list : (other : Form) → Has other (candidates (LetMin forms) c) → (found : List Form) → result_of n form y other ≡ Some found → AllByRecursion IsNumber found
            number_list other in_here found e = with (replaced form n c other) refl e
              where
                with : (o : Option Form) → replaced form n c other ≡ o → option_and_then (λ next. bounds_below scope inner n next) o ≡ Some found → AllByRecursion IsNumber found
                with None p r = absurd (cc r)
                with (Some next) p r = numbers_below n next (next_inner n form (LetMin forms) there among c other next in_here p) found r

            by : (o p : Option (List Form)) → result_of n form y k.form ≡ o → result_of n form y (number k.last) ≡ p → both scope true o p ≡ Some bs → IsBoth n form y
            by None p e d r = absurd (cc r)
            by (Some as') None e d r = absurd (cc r)
            by (Some as') (Some bs') e d r =
                let u = one_of_all (IsAbove scope as' bs') bs y (union_above scope as' bs' (number_list k.form has_first as' e) (number_list (number k.last) has_second bs' d) bs r) has in
                let s = by_made n form u.0 (LetMin forms) there k.form has_first as' u.2 (replaced form n c k.form) refl e in
                let t = by_made n form u.1 (LetMin forms) there (number k.last) has_second bs' u.3 (replaced form n c (number k.last)) refl d in
                record {
                  forms = forms;
                  there = there;
                  is_let = k;
                  may = may;
                  one = u.0;
                  two = u.1;
                  first = s.0;
                  second = t.0;
                  first_is = s.1;
                  second_is = t.1;
                  one_most = u.4;
                  two_most = u.5;
                  either = u.6;
                }

        of_made : (n : ℕ) (form y : Form) (b : Binding) → slice_get scope n ≡ Some b → (other : Form) → Has other (candidates b (factor_of form.terms n)) → (found : List Form) → Has y found →
            result_of n form y other ≡ Some found → (s : IsStep n form y) × (s.binding ≡ b)
        of_made n form y b there other among found in_found k = with (replaced form n (factor_of form.terms n) other) refl k
          where
            with : (o : Option Form) → replaced form n (factor_of form.terms n) other ≡ o → option_and_then (λ next. bounds_below scope inner n next) o ≡ Some found →
                (s : IsStep n form y) × (s.binding ≡ b)
            with None q r = absurd (cc r)
            with (Some next) q r = (
              record {
                binding = b;
                there = there;
                other = other;
                among = among;
                next = next;
                made = q;
                found = found;
                comes = r;
                has = in_found;
              },
              refl,
            )

        at_binding : (o : Option Binding) → slice_get scope n ≡ o → bounds_at scope o c (result_of n form y) ≡ Some bs →
            ((s : IsStep n form y) × (any_may_be s.binding c ≡ false)) ⊎ IsBoth n form y
        at_binding None q k = absurd (none_has y bs [] k has)
        at_binding (Some b) q k = of (any_may_be b c) refl k
          where
            of : (t : Bool) → any_may_be b c ≡ t → that_count scope t (map (result_of n form y) (candidates b c)) ≡ Some bs → ((s : IsStep n form y) × (any_may_be s.binding c ≡ false)) ⊎
                IsBoth n form y
            of false e r =
                let g = given_one n form y (candidates b c) bs r has in
                let s = of_made n form y b q g.0 g.1 g.2 g.4 g.3 in
                inl (s.0, ap (λ (x : Binding). any_may_be x c) s.1 ∙ e)
            of true e r =
                let l = may_let scope b (boxes n b q) c e in
                let there : slice_get scope n ≡ Some (LetMin l.0) = q ∙ ap (λ (x : Binding). Some x) l.1 in
                inr (at_let l.0 there l.2 (ap (λ (x : Binding). any_may_be x c) (sym l.1) ∙ e)
                (ap (λ (x : Binding). that_count scope true (map (result_of n form y) (candidates x c))) (sym l.1) ∙ r))

    far : (n : ℕ) (form : Form) (bs : List Form) (u : Form) → AreInner form.terms → bounds_below scope inner n form ≡ Some bs → Has u bs →
        unsigned_abs form.constant ≤ unsigned_abs u.constant + weight scope form.terms
    far zero form bs u among h has = of (names_inner inner form) h
      where
        of : (b : Bool) → Some (if b then [] else form ∷ []) ≡ Some bs → unsigned_abs form.constant ≤ unsigned_abs u.constant + weight scope form.terms
        of true q = absurd (none_has u bs [] q has)
        of false q = elim (none_has u bs (form ∷ []) q has) [
          | inl is ↦ (let same_number : unsigned_abs u.constant ≡ unsigned_abs form.constant = ap (λ (f : Form). unsigned_abs f.constant) is in omega (arith, same_number))
          | inr later ↦ absurd later
        ]
    far (suc n) form bs u among h has = of (is_eliminated inner n (factor_of form.terms n)) h (λ q. far n form bs u among q has) (λ next found w k q r. far n next found w k q r)
      where
        Far : Type 0
        Far = unsigned_abs form.constant ≤ unsigned_abs u.constant + weight scope form.terms

        Steps : Type 0
        Steps = (next : Form) (found : List Form) (w : Form) → AreInner next.terms → bounds_below scope inner n next ≡ Some found → Has w found →
            unsigned_abs next.constant ≤ unsigned_abs w.constant + weight scope next.terms

        by_step : (w : Form) (s : IsStep n form w) → Steps → unsigned_abs w.constant ≡ unsigned_abs u.constant → Far
        by_step w s steps same_number =
            let inside = next_inner n form s.binding s.there among (factor_of form.terms n) s.other s.next s.among s.made in
            let r = steps s.next s.found w inside s.comes s.has in
            step_far n form w s (unsigned_abs u.constant) (omega (arith, r, same_number))

        of : (b : Bool) →
            (if b then bounds_at scope (slice_get scope n) (factor_of form.terms n)
            (λ other. option_and_then (λ next. bounds_below scope inner n next) (replaced form n (factor_of form.terms n) other)) else bounds_below scope inner n form) ≡ Some bs →
            (bounds_below scope inner n form ≡ Some bs → Far) → Steps → Far
        of false q stays steps = stays q
        of true q stays steps = at (step n form bs u among q has)
          where
            at : ((s : IsStep n form u) × (any_may_be s.binding (factor_of form.terms n) ≡ false)) ⊎ IsBoth n form u → Far
            at (inl s) = by_step u s.0 steps refl
            at (inr k) = elim k.either [
              | inl e ↦ by_step k.one k.first steps (ap (λ (z : ℤ). unsigned_abs z) (sym e))
              | inr e ↦ by_step k.two k.second steps (ap (λ (z : ℤ). unsigned_abs z) (sym e))
            ]

    -- a form whose number is so far, whatever stands in symbols' places
    abbrev Fits : Form → Form → Type 0
    Fits form u =
        (ArePlain scope × (weight scope form.terms ≤ 2 ^ 39 + 2 ^ 37) × (unsigned_abs u.constant ≤ 2 ^ 31)) ⊎ (unsigned_abs form.constant + weight scope form.terms ≤ 1095216660480)

    near_form : (n : ℕ) (form : Form) (bs : List Form) (u : Form) → AreInner form.terms → bounds_below scope inner n form ≡ Some bs → Has u bs → Fits form u → unsigned_abs form.constant ≤
        1095216660480
    near_form n form bs u among h has (inl k) = (let f = far n form bs u among h has in let light = k.1 in let near = k.2 in omega (arith, f, light, near))
    near_form n form bs u among h has (inr k) = omega (arith, k)

    fits_step : (n : ℕ) (form u : Form) (s : IsStep n form u) → Fits form u → Fits s.next u
    fits_step n form u s (inl k) = (let lighter = step_light n form u s in let light = k.1 in inl (k.0, omega (arith, lighter, light), k.2))
    fits_step n form u s (inr k) = (let down = step_down n form u s in inr (omega (arith, down, k)))

    -- of a form that is light
    fits_light : (n : ℕ) (form : Form) (bs : List Form) (u : Form) → AreInner form.terms → bounds_below scope inner n form ≡ Some bs → Has u bs → LightIn scope form.terms → unsigned_abs
        u.constant ≤ 2 ^ 31 →
        Fits form u
    fits_light n form bs u among h has (inl light) near = (let f = far n form bs u among h has in inr (omega (arith, f, light, near)))
    fits_light n form bs u among h has (inr light) near = inl (light.0, light.1, near)

  -- ---- the same search

  -- with a number more
  module _ (z : ℤ) (z_near : unsigned_abs z ≤ 2 ^ 32) where
    -- what stands in the symbol's place makes the same of both
    raised_made : (n : ℕ) (form : Form) (c : ℤ) (other next : Form) → replaced form n c other ≡ Some next → plus_multiple (without (raised form z) n) c other ≡ raised next z
    raised_made n form c other next made =
        let means = combined-means (without form n) c other next made in
        let sum : (form.constant +ℤ z) +ℤ c *ℤ other.constant ≡ (form.constant +ℤ c *ℤ other.constant) +ℤ z = around form.constant z (c *ℤ other.constant) in
        (λ i. record { constant = sum i; terms = plus_terms (without form n).terms c other.terms }) ∙ ap (λ (f : Form). raised f z) (sym means.is)
      where
        around : (p q r : ℤ) → (p +ℤ q) +ℤ r ≡ (p +ℤ r) +ℤ q
        around p q r = omega (arith, ints)

    raised_within : (form : Form) → is_within_limits form ≡ true → unsigned_abs form.constant ≤ 1095216660480 → is_within_limits (raised form z) ≡ true
    raised_within form limited near =
        let far_enough : unsigned_abs (form.constant +ℤ z) ≤ 2 ^ 40 = omega (arith, ints, near, z_near) in
        let last = le-leb (unsigned_abs (form.constant +ℤ z)) (2 ^ 40) far_enough in
        last_and _ (nat_le (unsigned_abs form.constant) (2 ^ 40)) (nat_le (unsigned_abs (form.constant +ℤ z)) (2 ^ 40)) limited last
      where
        last_and : (a b c : Bool) → (a && b) ≡ true → c ≡ true → (a && c) ≡ true
        last_and true b c h k = k
        last_and false b c h k = absurd (cc h)

    -- it takes no more replacements
    abbrev AreFewer : ℕ → Type 0
    AreFewer n = (next : Form) (found : List Form) → bounds_below scope inner n next ≡ Some found → replacements scope n (raised next z) ≤ replacements_below scope inner n next

    module _ (n : ℕ) (form : Form) (steps : AreFewer n) where
      abbrev c_here : ℤ
      c_here = factor_of form.terms n

      abbrev result_here : Form → Option (List Form)
      result_here other = option_and_then (λ next. bounds_below scope inner n next) (replaced form n c_here other)

      abbrev cost : Form → ℕ
      cost other = suc (option_map_or (λ f. replacements scope n f) (replaced (raised form z) n c_here other) 0)

      abbrev cost_below : Form → ℕ
      cost_below other = suc (option_map_or (λ f. replacements_below scope inner n f) (replaced form n c_here other) 0)

      one_cost : (other : Form) → IsSomeList (result_here other) → cost other ≤ cost_below other
      one_cost other some = by (replaced form n c_here other) refl some (replaced (raised form z) n c_here other) refl
        where
          by : (o : Option Form) → replaced form n c_here other ≡ o → IsSomeList (option_and_then (λ next. bounds_below scope inner n next) o) → (p : Option Form) →
              replaced (raised form z) n c_here other ≡ p → suc (option_map_or (λ f. replacements scope n f) p 0) ≤ suc (option_map_or (λ f. replacements_below scope inner n f) o 0)
          by None e k p q = absurd (cc k.1)
          by (Some next) e k None q = omega arith
          by (Some next) e k (Some g) q =
              let means = combined-means (without (raised form z) n) c_here other g q in
              let is : g ≡ raised next z = means.is ∙ raised_made n form c_here other next e in
              let most = steps next k.0 k.1 in
              let here : replacements scope n g ≡ replacements scope n (raised next z) = ap (λ (f : Form). replacements scope n f) is in
              omega (arith, most, here)

      all_costs : (cs : List Form) → AllByRecursion IsSomeList (map result_here cs) → total cost cs ≤ total cost_below cs
      all_costs [] h = omega arith
      all_costs (c ∷ cs) h = (let here = one_cost c h.0 in let rest = all_costs cs h.1 in omega (arith, here, rest))

      binding_costs : (bs : List Form) (o : Option Binding) → bounds_at scope o c_here result_here ≡ Some bs → total_at o c_here cost ≤ total_at o c_here cost_below
      binding_costs bs None q = omega arith
      binding_costs bs (Some b) q = all_costs (candidates b c_here) (count_some scope (any_may_be b c_here) (map result_here (candidates b c_here)) bs q)

    counts : (n : ℕ) (form : Form) (bs : List Form) → ((m : ℕ) → m < n → is_inner inner m ≡ true) → bounds_below scope inner n form ≡ Some bs →
        replacements scope n (raised form z) ≤ replacements_below scope inner n form
    counts zero form bs inside h = omega arith
    counts (suc n) form bs inside h =
        of (is_zero (factor_of form.terms n)) (is_inner inner n) (inside n (omega arith)) h (λ q. counts n form bs (λ m less. inside m (omega (arith, less))) q)
        (λ next found q. counts n next found (λ m less. inside m (omega (arith, less))) q)
      where
        of : (y v : Bool) → v ≡ true →
            (if v && not y then bounds_at scope (slice_get scope n) (factor_of form.terms n)
            (λ other. option_and_then (λ next. bounds_below scope inner n next) (replaced form n (factor_of form.terms n) other)) else bounds_below scope inner n form) ≡ Some bs →
            (bounds_below scope inner n form ≡ Some bs → replacements scope n (raised form z) ≤ replacements_below scope inner n form) → AreFewer n →
            (if y then replacements scope n (raised form z) else total_at (slice_get scope n) (factor_of form.terms n)
            (λ other. suc (option_map_or (λ f. replacements scope n f) (replaced (raised form z) n (factor_of form.terms n) other) 0)))
            ≤ (if v && not y then total_at (slice_get scope n) (factor_of form.terms n)
            (λ other. suc (option_map_or (λ f. replacements_below scope inner n f) (replaced form n (factor_of form.terms n) other) 0)) else replacements_below scope inner n form)
        of y false e q stays steps = absurd (cc e)
        of true true e q stays steps = stays q
        of false true e q stays steps = binding_costs n form steps bs (slice_get scope n) q

    -- it finds no more than each one that is freed
    record IsFound (n : ℕ) (form : Form) (y : ℤ) : Type 0 where
      comes_to : ℤ
      bound : least scope n (raised form z) ≡ Some comes_to
      most : comes_to ≤ℤ (y +ℤ z)

    module _ (all : (m : ℕ) → m < length scope → is_inner inner m ≡ true) where
      -- what the search of both finds at a symbol, if it does of what stands in its place
      abbrev branch : ℕ → Form → Form → Option ℤ
      branch n form other = option_and_then (λ f. least scope n f) (replaced (raised form z) n (factor_of form.terms n) other)

      branch_is : (n : ℕ) (form y : Form) (s : IsStep n form y) → AreInner form.terms → is_within_limits form ≡ true → unsigned_abs form.constant ≤ 1095216660480 →
          unsigned_abs s.next.constant ≤ 1095216660480 → (r : IsFound n s.next y.constant) → branch n form s.other ≡ Some r.comes_to
      branch_is n form y s among limited near_here near_next r =
          let c = factor_of form.terms n in
          let means = combined-means (without form n) c s.other s.next s.made in
          let is = raised_made n form c s.other s.next s.made in
          let made : replaced (raised form z) n c s.other ≡ Some (raised s.next z) =
          combined-made (without (raised form z) n) s.other c (within_limits-without (raised form z) n (raised_within form limited near_here)) means.second
          (ap is_within_limits is ∙ raised_within s.next means.within near_next) ∙ ap (λ (f : Form). Some f) is in
          ap (λ (o : Option Form). option_and_then (λ f. least scope n f) o) made ∙ r.bound

      search : (n : ℕ) (form : Form) (bs : List Form) (u : Form) → ((m : ℕ) → m < n → is_inner inner m ≡ true) → AreInner form.terms → is_within_limits form ≡ true → Fits all form u →
          bounds_below scope inner n form ≡ Some bs → Has u bs → IsFound n form u.constant
      search zero form bs u inside among limited fits h has = of (names_inner inner form) refl h
        where
          itself : (y : ℤ) → y ≤ℤ y
          itself y = omega (arith, ints)

          number_found : (c : ℤ) (ts : List Multiple) → ts ≡ [] → IsFound zero (record { constant = c; terms = ts }) c
          number_found c [] e = record { comes_to = c +ℤ z; bound = refl; most = itself (c +ℤ z) }
          number_found c (t ∷ ts) e = absurd (cc e)

          of : (b : Bool) → names_inner inner form ≡ b → Some (if b then [] else form ∷ []) ≡ Some bs → IsFound zero form u.constant
          of true e q = absurd (none_has u bs [] q has)
          of false e q = elim (none_has u bs (form ∷ []) q has) [
            | inl is ↦ subst (λ (y : ℤ). IsFound zero form y) (sym (ap (λ (f : Form). f.constant) is)) (number_found form.constant form.terms (no_terms form.terms among e))
            | inr later ↦ absurd later
          ]
      search (suc n) form bs u inside among limited fits h has =
          of (is_zero (factor_of form.terms n)) refl (λ q. search n form bs u (λ m less. inside m (omega (arith, less))) among limited fits q has)
          (λ next found w next_among next_limited next_fits q k. search n next found w (λ m less. inside m (omega (arith, less))) next_among next_limited next_fits q k)
        where
          c : ℤ
          c = factor_of form.terms n

          elimination : (other : Form) → Option (List Form)
          elimination other = option_and_then (λ next. bounds_below scope inner n next) (replaced form n (factor_of form.terms n) other)

          and_false : (b : Bool) → (b && false) ≡ false
          and_false true = refl
          and_false false = refl

          Steps : Type 0
          Steps = (next : Form) (found : List Form) (w : Form) → AreInner next.terms → is_within_limits next ≡ true → Fits all next w → bounds_below scope inner n next ≡ Some found →
              Has w found → IsFound n next w.constant

          near_here : unsigned_abs form.constant ≤ 1095216660480
          near_here = near_form all (suc n) form bs u among h has fits

          -- what stands in the symbol's place is found
          found_by : Steps → (w : Form) (s : IsStep n form w) → Fits all s.next w → (r : IsFound n s.next w.constant) × (branch n form s.other ≡ Some r.comes_to)
          found_by steps w s next_fits =
              let means = combined-means (without form n) c s.other s.next s.made in
              let next_among = next_inner all n form s.binding s.there among c s.other s.next s.among s.made in
              let r = steps s.next s.found w next_among means.within next_fits s.comes s.has in
              (r, branch_is n form w s among limited near_here (near_form all n s.next s.found w next_among s.comes s.has next_fits) r)

          both_most : (x y w : ℤ) → x ≤ℤ y → y ≤ℤ w → x ≤ℤ w
          both_most x y w h g = omega (arith, ints, h, g)

          greater_most : (x y p q w : ℤ) → x ≤ℤ (p +ℤ z) → y ≤ℤ (q +ℤ z) → p ≤ℤ w → q ≤ℤ w → int_max x y ≤ℤ (w +ℤ z)
          greater_most x y p q w h g k r = omega (arith, ints, clamps, h, g, k, r)

          fits_part : (w : Form) → Fits all form u → (forms : List Form) → slice_get scope n ≡ Some (LetMin forms) → Fits all form w
          fits_part w (inl k) forms there = absurd (k.0 n (LetMin forms) there)
          fits_part w (inr k) forms there = inr k

          of : (b : Bool) → is_zero (factor_of form.terms n) ≡ b → (bounds_below scope inner n form ≡ Some bs → IsFound n form u.constant) → Steps → IsFound (suc n) form u.constant
          of true e stays steps =
              let none : is_eliminated inner n (factor_of form.terms n) ≡ false = ap (λ (t : Bool). is_inner inner n && not t) e ∙ and_false (is_inner inner n) in
              let q : bounds_below scope inner n form ≡ Some bs =
              sym (ap (λ (t : Bool). if t then bounds_at scope (slice_get scope n) (factor_of form.terms n) elimination else bounds_below scope inner n form) none) ∙ h in
              let r = stays q in
              record {
                comes_to = r.comes_to;
                bound =
                    ap (λ (t : Bool). if t then least scope n (raised form z) else result_at (slice_get scope n) (factor_of form.terms n)
                    (λ other. option_and_then (λ next. least scope n next) (replaced (raised form z) n (factor_of form.terms n) other))) e ∙ r.bound;
                most = r.most;
              }
          of false e stays steps =
              let some : is_eliminated inner n c ≡ true = λ i. inside n (omega arith) i && not (e i) in
              let q : bounds_at scope (slice_get scope n) c elimination ≡ Some bs =
              sym (ap (λ (t : Bool). if t then bounds_at scope (slice_get scope n) c elimination else bounds_below scope inner n form) some) ∙ h in
              at (step all n form bs u among q has)
            where
              at : ((s : IsStep n form u) × (any_may_be s.binding c ≡ false)) ⊎ IsBoth n form u → IsFound (suc n) form u.constant
              at (inl k) =
                  let s = k.0 in
                  let r = found_by steps u s (fits_step all n form u s fits) in
                  let listed : Has (Some r.0.comes_to) (map (branch n form) (candidates s.binding c)) =
                  subst (λ (o : Option ℤ). Has o (map (branch n form) (candidates s.binding c))) r.1 (has_map (branch n form) (candidates s.binding c) s.other s.among) in
                  let t = smallest (map (branch n form) (candidates s.binding c)) r.0.comes_to listed in
                  let bound_is : result_at (slice_get scope n) c (branch n form) ≡ Some t.0 =
                  ap (λ (o : Option Binding). result_at o c (branch n form)) s.there
                  ∙ ap (λ (v : Bool). that_counts v (map (branch n form) (candidates s.binding c))) k.1 ∙ t.1 in
                  record {
                    comes_to = t.0;
                    bound = ap (λ (v : Bool). if v then least scope n (raised form z) else result_at (slice_get scope n) c (branch n form)) e ∙ bound_is;
                    most = both_most t.0 r.0.comes_to (u.constant +ℤ z) t.2 r.0.most;
                  }
              at (inr k) =
                  let f = found_by steps k.one k.first (fits_step all n form k.one k.first (fits_part k.one fits k.forms k.there)) in
                  let g = found_by steps k.two k.second (fits_step all n form k.two k.second (fits_part k.two fits k.forms k.there)) in
                  let one : branch n form k.is_let.form ≡ Some f.0.comes_to = ap (branch n form) (sym k.first_is) ∙ f.1 in
                  let two : branch n form (number k.is_let.last) ≡ Some g.0.comes_to = ap (branch n form) (sym k.second_is) ∙ g.1 in
                  let bound_is : result_at (slice_get scope n) c (branch n form) ≡ Some (int_max f.0.comes_to g.0.comes_to) =
                  ap (λ (o : Option Binding). result_at o c (branch n form)) k.there
                  ∙ ap (λ (v : Bool). that_counts v (map (branch n form) k.forms)) k.may
                  ∙ ap (λ (fs : List Form). that_counts true (map (branch n form) fs)) k.is_let.is
                  ∙ (λ j. that_counts true (one j ∷ two j ∷ [])) in
                  record {
                    comes_to = int_max f.0.comes_to g.0.comes_to;
                    bound = ap (λ (v : Bool). if v then least scope n (raised form z) else result_at (slice_get scope n) c (branch n form)) e ∙ bound_is;
                    most = greater_most f.0.comes_to g.0.comes_to (Form.constant k.one) (Form.constant k.two) u.constant f.0.most g.0.most k.one_most k.two_most;
                  }

-- ---- forms as bounds

few_still : (m n : ℕ) → m ≤ n → nat_le n 4096 ≡ true → nat_le m 4096 ≡ true
few_still m n le h = grind (arith, nat_tests, le, h)

-- a number that is at most one that frees a form is shown to be at most the form
module _ (scope : List Binding) (inner : List ℕ) (boxes : AreBoxes scope) (all : (m : ℕ) → m < length scope → is_inner inner m ≡ true) where
  -- the negation of the form, freed, has this one
  pub shown_above : (m nf : Form) (us : List Form) (u : Form) (e : ℤ) → negated m ≡ Some nf → eliminated scope inner nf ≡ Some us → Has u us →
      AllByRecursion (λ (t : Multiple). is_inner inner t.symbol ≡ true) nf.terms → IsLight scope m → (e +ℤ u.constant) ≤ℤ pos 0 → unsigned_abs e ≤ 2 ^ 32 →
      unsigned_abs u.constant ≤ 2 ^ 31 → at_most scope (number e) m ≡ true
  shown_above m nf us u e negation freed has among is_light le e_near u_near =
      let means = combined-means (number (pos 0)) (negsuc 0) m nf negation in
      let limited = means.within in
      let tests = tests_of (is_within_limits nf) (nat_le (replacements_below scope inner (length scope) nf) 4096) refl freed in
      let turned = weight_terms scope [] (negsuc 0) m.terms in
      let terms_are : weight scope nf.terms ≡ weight scope (plus_terms [] (negsuc 0) m.terms) = ap (λ (f : Form). weight scope f.terms) means.is in
      let light = light_less scope nf.terms m.terms (omega (arith, turned, terms_are)) (is_light means.second) in
      let fits = fits_light scope inner boxes all (length scope) nf us u among tests.1 has light u_near in
      let near = near_form scope inner boxes all (length scope) nf us u among tests.1 has fits in
      let z_near : unsigned_abs e ≤ 2 ^ 32 = omega (arith, e_near) in
      let r = search scope inner boxes e z_near all (length scope) nf us u all among limited fits tests.1 has in
      let sum : e +ℤ negsuc 0 *ℤ m.constant ≡ (pos 0 +ℤ negsuc 0 *ℤ m.constant) +ℤ e = omega (arith, ints) in
      let is : plus_multiple (number e) (negsuc 0) m ≡ raised nf e =
      (λ i. record { constant = sum i; terms = plus_terms [] (negsuc 0) m.terms }) ∙ ap (λ (g : Form). raised g e) (sym means.is) in
      let raised_ok = raised_within scope inner boxes e z_near nf limited near in
      let number_ok : is_within_limits (number e) ≡ true = le-leb (unsigned_abs e) (2 ^ 40) (omega (arith, e_near)) in
      let made : combined (number e) (negsuc 0) m ≡ Some (raised nf e) =
      combined-made (number e) m (negsuc 0) number_ok means.second (ap is_within_limits is ∙ raised_ok) ∙ ap (λ (g : Form). Some g) is in
      let few = few_still (replacements scope (length scope) (raised nf e)) (replacements_below scope inner (length scope) nf)
      (counts scope inner boxes e z_near (length scope) nf us all tests.1) tests.0 in
      let found_sup : sup scope (raised nf e) ≡ Some r.comes_to = (λ i. if raised_ok i && few i then least scope (length scope) (raised nf e) else None) ∙ r.bound in
      let most = r.most in
      found_below scope (number e) m (raised nf e) r.comes_to made found_sup (still r.comes_to (omega (arith, ints, le, most)))
    where
      tests_of : (a b : Bool) → nat_le (replacements_below scope inner (length scope) nf) 4096 ≡ b →
          (if a then (if b then bounds_below scope inner (length scope) nf else Some []) else None) ≡ Some us →
          (nat_le (replacements_below scope inner (length scope) nf) 4096 ≡ true) × (bounds_below scope inner (length scope) nf ≡ Some us)
      tests_of true true q h = (q, h)
      tests_of true false q h = absurd (none_has u us [] h has)
      tests_of false b q h = absurd (cc h)

  -- the form, freed, is at most the number
  pub shown_under : (m : Form) (us : List Form) (u : Form) (e : ℤ) → eliminated scope inner m ≡ Some us → Has u us → AllByRecursion (λ (t : Multiple). is_inner inner t.symbol ≡ true) m.terms →
      IsLight scope m → u.constant ≤ℤ e → unsigned_abs e ≤ 2 ^ 32 → unsigned_abs u.constant ≤ 2 ^ 31 → at_most scope m (number e) ≡ true
  shown_under m us u e freed has among is_light le e_near u_near =
      let tests = tests_of (is_within_limits m) refl (nat_le (replacements_below scope inner (length scope) m) 4096) refl freed in
      let limited = tests.0 in
      let fits = fits_light scope inner boxes all (length scope) m us u among tests.2 has (is_light limited) u_near in
      let near = near_form scope inner boxes all (length scope) m us u among tests.2 has fits in
      let z : ℤ = negsuc 0 *ℤ e in
      let z_near : unsigned_abs z ≤ 2 ^ 32 = omega (arith, ints, e_near) in
      let r = search scope inner boxes z z_near all (length scope) m us u all among limited fits tests.2 has in
      let raised_ok = raised_within scope inner boxes z z_near m limited near in
      let number_ok : is_within_limits (number e) ≡ true = le-leb (unsigned_abs e) (2 ^ 40) (omega (arith, e_near)) in
      let made : combined m (negsuc 0) (number e) ≡ Some (raised m z) = combined-made m (number e) (negsuc 0) limited number_ok raised_ok in
      let few = few_still (replacements scope (length scope) (raised m z)) (replacements_below scope inner (length scope) m)
      (counts scope inner boxes z z_near (length scope) m us all tests.2) tests.1 in
      let found_sup : sup scope (raised m z) ≡ Some r.comes_to = (λ i. if raised_ok i && few i then least scope (length scope) (raised m z) else None) ∙ r.bound in
      let most = r.most in
      found_below scope m (number e) (raised m z) r.comes_to made found_sup (still r.comes_to (omega (arith, ints, le, most)))
    where
      tests_of : (a : Bool) → is_within_limits m ≡ a → (b : Bool) → nat_le (replacements_below scope inner (length scope) m) 4096 ≡ b →
          (if a then (if b then bounds_below scope inner (length scope) m else Some []) else None) ≡ Some us →
          (is_within_limits m ≡ true) × (nat_le (replacements_below scope inner (length scope) m) 4096 ≡ true) × (bounds_below scope inner (length scope) m ≡ Some us)
      tests_of true e true q h = (e, q, h)
      tests_of true e false q h = absurd (none_has u us [] h has)
      tests_of false e b q h = absurd (cc h)
