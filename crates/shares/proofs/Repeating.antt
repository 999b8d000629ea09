-- Need lines that are told to lie in others do, and lines of which those that lie in others are left out.
use Rattle.std.proofs.Common.{◌≡◌, ℕ, zero, suc, ◌+◌, ◌<◌, ◌≤◌, true, List, [], ◌∷◌, ◌++◌, length, map, take, drop, get_or, Option, Some, None, refl, ap, sym, ◌∙◌, subst, arith, inl, inr, Bor}
use Rattle.std.specs.Prelude.{◌==◌, ◌&&◌, ◌⊎◌, Contains, ℤ, ◌+ℤ◌, ◌≤ℤ◌, fold, flat_map, MatchOption, slice_get, slice_set}
use Rattle.std.specs.Int.{int_max, int_min}
use Rattle.std.specs.List.{AllZip}
use Rattle.std.specs.Ordering.{int_eq}
use Rattle.std.proofs.lemmas.Int.{ints, clamps}
use Rattle.std.proofs.lemmas.List.{map-append, map-set, take-append-drop, take_all, take_more}
use Rattle.std.proofs.lemmas.List.Elements.{AllZip-push, Contains-append_left, Contains-append_right, Contains-append_cases}
use Rattle.lin.specs.Forms.{Form, same_terms, sum_of}
use Rattle.lin.specs.declared.form.Multiple.{Multiple}
use Rattle.lin.specs.declared.span.Span1.{Span1}
use Rattle.plan.specs.Symbols.{Symbols, form_value, largest, smallest, points, turns}
use Rattle.plan.specs.declared.certificate.cert.Need.{Need}
use Rattle.soundness.specs.Claims.{In}
use Rattle.soundness.proofs.Refines.{eq_true, and_parts, number_true}
use Rattle.soundness.proofs.Turns.{point_parts, turns_have, turns_within}
use Rattle.soundness.proofs.Written.{in_append_left, in_append_right}
use Rattle.headline.proofs.Members.{in_of, contains_of}
use Rattle.plan.specs.Certificate.Cells.{grid_symbols}
use Rattle.shares.specs.Outer.{LiesAt, SpanLiesAt}
use Rattle.shares.specs.Repeated.{AreOuterOf, IsUnder, LiesIn, LiesInOne, SpanLiesIn}
use Rattle.shares.proofs.Keeping as Keeping
use Rattle.shares.proofs.Keeping.{said}

pub same_terms_are : (ts us : List Multiple) → same_terms ts us ≡ true → ts ≡ us
same_terms_are [] [] h = refl
same_terms_are [] (u ∷ us) h = absurd (cc h)
same_terms_are (t ∷ ts) [] h = absurd (cc h)
same_terms_are (t ∷ ts) (u ∷ us) h =
    let a = and_parts ((t.symbol == u.symbol) && int_eq t.factor u.factor) (same_terms ts us) h in
    let b = and_parts (t.symbol == u.symbol) (int_eq t.factor u.factor) a.0 in
    let symbols : t.symbol ≡ u.symbol = eq_true t.symbol u.symbol b.0 in
    let factors : t.factor ≡ u.factor = number_true t.factor u.factor b.1 in
    let rest : ts ≡ us = same_terms_are ts us a.1 in
    λ i. record { symbol = symbols i; factor = factors i } ∷ rest i

-- ---- ends that lie within others

chain : (a b c : ℤ) → a ≤ℤ b → b ≤ℤ c → a ≤ℤ c
chain a b c h k = omega (arith, ints, h, k)

sum_le : (a b c d : ℤ) → a ≤ℤ b → c ≡ d → (a +ℤ c) ≤ℤ (b +ℤ d)
sum_le a b c d h e = subst (λ (z : ℤ). (a +ℤ c) ≤ℤ (b +ℤ z)) e (omega (arith, ints, h))

max_le : (a b c d : ℤ) → a ≤ℤ b → c ≤ℤ d → int_max a c ≤ℤ int_max b d
max_le a b c d h k = omega (arith, ints, clamps, h, k)

min_le : (a b c d : ℤ) → a ≤ℤ b → c ≤ℤ d → int_min a c ≤ℤ int_min b d
min_le a b c d h k = omega (arith, ints, clamps, h, k)

module _ (s : Symbols) where
  under_value : (f g : Form) → IsUnder f g → form_value f s ≤ℤ form_value g s
  under_value f g h = sum_le f.constant g.constant (sum_of f.terms s.value) (sum_of g.terms s.value) h.1 (ap (λ (ts : List Multiple). sum_of ts s.value) h.0)

  fold_max : (a b : ℤ) → a ≤ℤ b → (fs gs : List Form) → AllZip IsUnder fs gs → fold int_max a (map (λ m. form_value m s) fs) ≤ℤ fold int_max b (map (λ m. form_value m s) gs)
  fold_max a b h [] [] k = h
  fold_max a b h [] (g ∷ gs) k = absurd k
  fold_max a b h (f ∷ fs) [] k = absurd k
  fold_max a b h (f ∷ fs) (g ∷ gs) k = fold_max (int_max a (form_value f s)) (int_max b (form_value g s)) (max_le a b (form_value f s) (form_value g s) h (under_value f g k.0)) fs gs k.1

  fold_min : (a b : ℤ) → a ≤ℤ b → (fs gs : List Form) → AllZip IsUnder fs gs → fold int_min a (map (λ m. form_value m s) fs) ≤ℤ fold int_min b (map (λ m. form_value m s) gs)
  fold_min a b h [] [] k = h
  fold_min a b h [] (g ∷ gs) k = absurd k
  fold_min a b h (f ∷ fs) [] k = absurd k
  fold_min a b h (f ∷ fs) (g ∷ gs) k = fold_min (int_min a (form_value f s)) (int_min b (form_value g s)) (min_le a b (form_value f s) (form_value g s) h (under_value f g k.0)) fs gs k.1

  largest_le : (fs gs : List Form) → AllZip IsUnder fs gs → largest s fs ≤ℤ largest s gs
  largest_le [] [] k = omega (arith, ints)
  largest_le [] (g ∷ gs) k = absurd k
  largest_le (f ∷ fs) [] k = absurd k
  largest_le (f ∷ fs) (g ∷ gs) k = fold_max (form_value f s) (form_value g s) (under_value f g k.0) fs gs k.1

  smallest_le : (fs gs : List Form) → AllZip IsUnder fs gs → smallest s fs ≤ℤ smallest s gs
  smallest_le [] [] k = omega (arith, ints)
  smallest_le [] (g ∷ gs) k = absurd k
  smallest_le (f ∷ fs) [] k = absurd k
  smallest_le (f ∷ fs) (g ∷ gs) k = fold_min (form_value f s) (form_value g s) (under_value f g k.0) fs gs k.1

  span_at : (x y : Span1) → SpanLiesIn x y → SpanLiesAt s x y
  span_at x y h = (largest_le y.lower x.lower h.0, smallest_le x.upper y.upper h.1)

  spans_at : (xs ys : List Span1) → AllZip SpanLiesIn xs ys → AllZip (SpanLiesAt s) xs ys
  spans_at [] [] h = tt
  spans_at [] (y ∷ ys) h = absurd h
  spans_at (x ∷ xs) [] h = absurd h
  spans_at (x ∷ xs) (y ∷ ys) h = (span_at x y h.0, spans_at xs ys h.1)

  turn_lies_in : (x y : Span1) → SpanLiesAt s x y → (z : ℤ) → In z (turns s x) → In z (turns s y)
  turn_lies_in x y h z m =
      let k = turns_within s x _ _ z refl refl m in
      turns_have s y _ _ z refl refl (chain (largest s y.lower) (largest s x.lower) z h.0 k.0) (chain z (smallest s x.upper) (smallest s y.upper) k.1 h.1)

pub in_mapped : {A B : Type 0} (g : A → B) (a : A) (xs : List A) → In a xs → In (g a) (map g xs)
in_mapped g a [] m = absurd m
in_mapped g a (x ∷ xs) (inl e) = inl (ap g e)
in_mapped g a (x ∷ xs) (inr m) = inr (in_mapped g a xs m)

in_flat_map : {A B : Type 0} (g : A → List B) (y : B) (x : A) (xs : List A) → In x xs → In y (g x) → In y (flat_map g xs)
in_flat_map g y x [] m n = absurd m
in_flat_map g y x (w ∷ ws) (inl e) n = in_append_left y (g w) (flat_map g ws) (subst (λ u. In y (g u)) e n)
in_flat_map g y x (w ∷ ws) (inr m) n = in_append_right y (g w) (flat_map g ws) (in_flat_map g y x ws m n)

module _ (s : Symbols) where
  -- the points of a region are points of one in which its spans lie
  points_lie_in : (xs ys : List Span1) → AllZip (SpanLiesAt s) xs ys → (q : List ℤ) → In q (points s xs) → In q (points s ys)
  points_lie_in [] [] h q m = m
  points_lie_in [] (y ∷ ys) h q m = absurd h
  points_lie_in (x ∷ xs) [] h q m = absurd h
  points_lie_in (x ∷ xs) (y ∷ ys) h q m =
      let k = point_parts s x xs q m in
      let first : In k.0 (turns s y) = turn_lies_in s x y h.0 k.0 k.3 in
      let rest : In k.1 (points s ys) = points_lie_in xs ys h.1 k.1 k.4 in
      subst (λ (r : List ℤ). In r (points s (y ∷ ys))) (sym k.2)
      (in_flat_map (λ r. map (λ z. z ∷ r) (turns s y)) (k.0 ∷ k.1) k.1 (points s ys) rest (in_mapped (λ z. z ∷ k.1) k.0 (turns s y) first))

pub spans_lie : (n m : Need) → n.group ≡ m.group → n.needed ≡ m.needed → AllZip SpanLiesIn n.region m.region → LiesIn n m
spans_lie n m group needed h = record {
  group = group;
  needed = needed;
  within = λ s q at. contains_of (points s m.region) q (points_lie_in s n.region m.region (spans_at s n.region m.region h) q (in_of (points s n.region) q at));
}

-- and at a grid point
pub spans_lie_at : (at : List ℕ) (n m : Need) → n.group ≡ m.group → n.needed ≡ m.needed → AllZip (SpanLiesAt (grid_symbols at)) n.region m.region → LiesAt at n m
spans_lie_at at n m group needed h = record {
  group = group;
  needed = needed;
  within = λ q has. contains_of (points (grid_symbols at) m.region) q (points_lie_in (grid_symbols at) n.region m.region h q (in_of (points (grid_symbols at) n.region) q has));
}

lies_self : (n : Need) → LiesIn n n
lies_self n = record { group = refl; needed = refl; within = λ s q at. at }

lies_on : (l m n : Need) → LiesIn l m → LiesIn m n → LiesIn l n
lies_on l m n h k = record { group = h.group ∙ k.group; needed = h.needed ∙ k.needed; within = λ s q at. k.within s q (h.within s q at) }

pub at_self : (at : List ℕ) (n : Need) → LiesAt at n n
at_self at n = record { group = refl; needed = refl; within = λ q has. has }

pub at_on : (at : List ℕ) (l m n : Need) → LiesAt at l m → LiesAt at m n → LiesAt at l n
at_on at l m n h k = record { group = h.group ∙ k.group; needed = h.needed ∙ k.needed; within = λ q has. k.within q (h.within q has) }

pub lies_there : (at : List ℕ) (n m : Need) → LiesIn n m → LiesAt at n m
lies_there at n m h = record { group = h.group; needed = h.needed; within = λ q has. h.within (grid_symbols at) q has }

nothing : (qs : List (List ℤ)) → ((q : List ℤ) → Contains qs q → Contains [] q) → qs ≡ []
nothing [] h = refl
nothing (q ∷ qs) h = let none = h q (0, omega arith, refl) in let less : none.0 < 0 = none.1 in absurd (omega (arith, less))

-- what lies in a line without points has none
pub no_points_in : (at : List ℕ) (n m : Need) → LiesAt at n m → points (grid_symbols at) m.region ≡ [] → points (grid_symbols at) n.region ≡ []
no_points_in at n m h e = nothing (points (grid_symbols at) n.region) (λ q has. subst (λ (qs : List (List ℤ)). Contains qs q) e (h.within q has))

-- ---- lists by their places

module _ {A : Type 0} (R : A → A → Type 0) (xs ys : List A) (k : ℕ) where
  -- one more place
  pub zip_more : (x y : A) → x ≡ get_or xs k x → y ≡ get_or ys k y → k < length xs → k < length ys → AllZip R (take k xs) (take k ys) → R x y → AllZip R (take (k + 1) xs) (take (k + 1) ys)
  zip_more x y here there less within before this =
      let first : take (k + 1) xs ≡ take k xs ++ x ∷ [] = take_more xs k x less ∙ ap (λ (z : A). take k xs ++ z ∷ []) (sym here) in
      let second : take (k + 1) ys ≡ take k ys ++ y ∷ [] = take_more ys k y within ∙ ap (λ (z : A). take k ys ++ z ∷ []) (sym there) in
      subst (λ (zs : List A). AllZip R zs (take (k + 1) ys)) (sym first) (subst (AllZip R (take k xs ++ x ∷ [])) (sym second) (AllZip-push R (take k xs) (take k ys) x y before this))

  -- and all
  pub zip_all : length xs ≤ k → length ys ≤ k → AllZip R (take k xs) (take k ys) → AllZip R xs ys
  zip_all long short h = subst (λ (zs : List A). AllZip R zs ys) (take_all k xs long) (subst (AllZip R (take k xs)) (take_all k ys short) h)

-- ---- lines that lie in others

pub lies_at : (ls : List (Bor Need)) (k : ℕ) (b : Bor Need) (n : Need) → b ≡ get_or ls k b → k < length ls → LiesIn n b.now → LiesInOne n (said ls)
lies_at = Keeping.lies_at LiesIn

pub lies_behind : (ls : List (Bor Need)) (k many : ℕ) (n : Need) → LiesInOne n (said (take many (drop k ls))) → LiesInOne n (said ls)
lies_behind = Keeping.lies_behind LiesIn

pub outer_self : (ms ns : List Need) → ms ≡ ns → AreOuterOf ms ns
outer_self = Keeping.outer_self LiesIn lies_self

pub outer_again : (ns : List Need) (n : Need) → LiesInOne n ns → AreOuterOf ns (ns ++ n ∷ [])
outer_again = Keeping.outer_again LiesIn lies_self

pub outer_put : (ls : List (Bor Need)) (k : ℕ) (b : Bor Need) → MatchOption (slice_get ls k) ⊥ (λ x. LiesIn x.now b.now) → AreOuterOf (said (slice_set ls k b)) (said ls ++ b.now ∷ [])
outer_put = Keeping.outer_put LiesIn lies_self

pub outer_more : (ms ns now : List Need) (n : Need) → AreOuterOf ms ns → AreOuterOf now (ms ++ n ∷ []) → AreOuterOf now (ns ++ n ∷ [])
outer_more = Keeping.outer_more LiesIn lies_on
