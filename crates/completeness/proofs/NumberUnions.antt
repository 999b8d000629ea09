-- Of two lists of numbers that are upper bounds the union has the greater ones: each of its numbers is one of the one list or of the other, and at least one of each.
use Rattle.std.proofs.Common.{◌≡◌, Bool, true, false, ◌&&◌, List, [], ◌∷◌, ◌++◌, length, map, Option, Some, None, refl, sym, ap, ◌∙◌, subst, inl, inr, ◌⊎◌, arith}
use Rattle.std.specs.Prelude.{ℤ, pos, negsuc, ◌+ℤ◌, ◌*ℤ◌, ◌≤ℤ◌, nat_le, fold, flat_map, option_map, option_to_list, option_and_then, if◌then◌else◌}
use Rattle.std.specs.List.{AllByRecursion}
use Rattle.std.specs.Int.{int_min, int_max}
use Rattle.std.proofs.lemmas.Int.{ints, clamps}
use Rattle.lin.specs.Forms.{Form, number, is_within_limits, combined, plus_multiple, plus_terms}
use Rattle.lin.specs.declared.scope.Binding.{Binding}
use Rattle.lin.specs.Search.{smaller, sup, least, replacements}
use Rattle.lin.proofs.Limits.{combined-means}
use Rattle.bounds.specs.Lists.{excess, distance, gap, moved, all_moved, union}
use Rattle.bounds.proofs.ListSound.{AllIn, Made, all-append, kept-all}
use Rattle.completeness.proofs.SelfBounds.{least_number}
use Rattle.completeness.proofs.TakenSites.{Has}

-- a form without symbols
abbrev pub IsNumber : Form → Type 0
IsNumber f = f.terms ≡ []

one_has : {A : Type 0} (P : A → Type 0) (xs : List A) (x : A) → AllByRecursion P xs → Has x xs → P x
one_has P [] x h k = absurd k
one_has P (y ∷ xs) x h (inl is) = subst P (sym is) h.0
one_has P (y ∷ xs) x h (inr k) = one_has P xs x h.1 k

-- what is found over a list is found of one of it
smallest_of : (f : Form → Option ℤ) (acc : Option ℤ) (os : List Form) (d : ℤ) → fold smaller acc (map f os) ≡ Some d → (acc ≡ Some d) ⊎ ((o : Form) × Has o os × (f o ≡ Some d))
smallest_of f acc [] d h = inl h
smallest_of f acc (o ∷ os) d h = of (smallest_of f (smaller acc (f o)) os d h)
  where
    either : (x y : ℤ) → (int_min x y ≡ x) ⊎ (int_min x y ≡ y)
    either x y = by (x +ℤ negsuc 0 *ℤ y) refl
      where
        by : (m : ℤ) → (x +ℤ negsuc 0 *ℤ y) ≡ m → (int_min x y ≡ x) ⊎ (int_min x y ≡ y)
        by (pos n) e = inr (omega (arith, ints, clamps, e))
        by (negsuc n) e = inl (omega (arith, ints, clamps, e))

    one : (p q : Option ℤ) → smaller p q ≡ Some d → (p ≡ Some d) ⊎ (q ≡ Some d)
    one None q e = inr e
    one (Some x) None e = inl e
    one (Some x) (Some y) e = elim (either x y) [ inl k ↦ inl (ap (λ (z : ℤ). Some z) (sym k) ∙ e) | inr k ↦ inr (ap (λ (z : ℤ). Some z) (sym k) ∙ e) ]

    of : (smaller acc (f o) ≡ Some d) ⊎ ((x : Form) × Has x os × (f x ≡ Some d)) → (acc ≡ Some d) ⊎ ((x : Form) × Has x (o ∷ os) × (f x ≡ Some d))
    of (inr k) = inr (k.0, inr k.1, k.2)
    of (inl e) = elim (one acc (f o) e) [ inl k ↦ inl k | inr k ↦ inr (o, inl refl, k) ]

module _ (scope : List Binding) where
  -- how far a number is above another
  excess_is : (a b : Form) → IsNumber a → IsNumber b → (d : ℤ) → excess scope a b ≡ Some d → d ≡ int_max (pos 0) (a.constant +ℤ negsuc 0 *ℤ b.constant)
  excess_is a b na nb d h = of (combined a (negsuc 0) b) refl h
    where
      found : (e : Form) (y : ℤ) → IsNumber e → sup scope e ≡ Some y → y ≡ e.constant
      found e y ne q = by (is_within_limits e && nat_le (replacements scope (length scope) e) 4096) q
        where
          number_so : e ≡ number e.constant
          number_so = (λ j. record { constant = e.constant; terms = ne j })

          by : (t : Bool) → (if t then least scope (length scope) e else None) ≡ Some y → y ≡ e.constant
          by true k =
              let one : Some y ≡ Some e.constant = sym k ∙ ap (λ (g : Form). least scope (length scope) g) number_so ∙ least_number scope (length scope) e.constant in
              cc one
          by false k = absurd (cc k)

      of : (o : Option Form) → combined a (negsuc 0) b ≡ o → option_map (λ m. int_max (pos 0) m) (option_and_then (λ e. sup scope e) o) ≡ Some d →
          d ≡ int_max (pos 0) (a.constant +ℤ negsuc 0 *ℤ b.constant)
      of None e k = absurd (cc k)
      of (Some e) made k = by (sup scope e) refl k
        where
          means : e ≡ plus_multiple a (negsuc 0) b
          means = (combined-means a (negsuc 0) b e made).is

          none : IsNumber e
          none = ap (λ (f : Form). f.terms) means ∙ (λ j. plus_terms (na j) (negsuc 0) (nb j))

          by : (p : Option ℤ) → sup scope e ≡ p → option_map (λ m. int_max (pos 0) m) p ≡ Some d → d ≡ int_max (pos 0) (a.constant +ℤ negsuc 0 *ℤ b.constant)
          by None q w = absurd (cc w)
          by (Some y) q w =
              let at : y ≡ a.constant +ℤ negsuc 0 *ℤ b.constant = found e y none q ∙ ap (λ (f : Form). f.constant) means in
              let some : Some (int_max (pos 0) y) ≡ Some d = w in
              sym (cc some) ∙ ap (int_max (pos 0)) at

  -- at least one of each list, and one of both
  abbrev pub IsAbove : List Form → List Form → Form → Type 0
  IsAbove firsts seconds u =
      (f : Form) × (g : Form) × Has f firsts × Has g seconds × (f.constant ≤ℤ u.constant) × (g.constant ≤ℤ u.constant) × ((u.constant ≡ f.constant) ⊎ (u.constant ≡ g.constant)) × IsNumber u

  -- a form that is moved
  moved_above : (firsts seconds : List Form) → AllByRecursion IsNumber seconds → (f : Form) → IsNumber f → Has f firsts →
      AllByRecursion (λ m. Made (λ u. (g : Form) × Has g seconds × (f.constant ≤ℤ u.constant) × (g.constant ≤ℤ u.constant) × ((u.constant ≡ f.constant) ⊎ (u.constant ≡ g.constant)) × IsNumber u) m)
      (option_to_list (option_map (moved true f) (gap scope true f seconds)))
  moved_above firsts seconds numbers f nf has = of (gap scope true f seconds) refl
    where
      Q : Form → Type 0
      Q u = (g : Form) × Has g seconds × (f.constant ≤ℤ u.constant) × (g.constant ≤ℤ u.constant) × ((u.constant ≡ f.constant) ⊎ (u.constant ≡ g.constant)) × IsNumber u

      greater : (x y d : ℤ) → d ≡ int_max (pos 0) (y +ℤ negsuc 0 *ℤ x) → (x ≤ℤ (x +ℤ pos 1 *ℤ d)) × (y ≤ℤ (x +ℤ pos 1 *ℤ d)) × (((x +ℤ pos 1 *ℤ d) ≡ x) ⊎ ((x +ℤ pos 1 *ℤ d) ≡ y))
      greater x y d e = (omega (arith, ints, clamps, e), omega (arith, ints, clamps, e), by (y +ℤ negsuc 0 *ℤ x) refl)
        where
          by : (m : ℤ) → (y +ℤ negsuc 0 *ℤ x) ≡ m → ((x +ℤ pos 1 *ℤ d) ≡ x) ⊎ ((x +ℤ pos 1 *ℤ d) ≡ y)
          by (pos n) k = inr (omega (arith, ints, clamps, e, k))
          by (negsuc n) k = inl (omega (arith, ints, clamps, e, k))

      of : (o : Option ℤ) → gap scope true f seconds ≡ o → AllByRecursion (λ m. Made Q m) (option_to_list (option_map (moved true f) o))
      of None e = tt
      of (Some d) e = (made, tt)
        where
          made : (u : Form) → combined f (pos 1) (number d) ≡ Some u → Q u
          made u q =
              let r = smallest_of (λ other. distance scope true f other) None seconds d e in
              let one : (g : Form) × Has g seconds × (distance scope true f g ≡ Some d) = elim r [ inl k ↦ absurd (none_so k) | inr k ↦ k ] in
              let far = excess_is one.0 f (one_has IsNumber seconds one.0 numbers one.1) nf d one.2 in
              let is = (combined-means f (pos 1) (number d) u q).is in
              let constant : u.constant ≡ f.constant +ℤ pos 1 *ℤ d = ap (λ (h : Form). h.constant) is in
              let both = greater f.constant (Form.constant one.0) d far in (
                one.0,
                one.1,
                subst (λ (z : ℤ). f.constant ≤ℤ z) (sym constant) both.0,
                subst (λ (z : ℤ). Form.constant one.0 ≤ℤ z) (sym constant) both.1,
                elim both.2 [ inl k ↦ inl (constant ∙ k) | inr k ↦ inr (constant ∙ k) ],
                ap (λ (h : Form). h.terms) is ∙ nf,
              )
            where
              none_so : None ≡ Some d → ⊥
              none_so k = cc k

  pub union_above : (firsts seconds : List Form) → AllByRecursion IsNumber firsts → AllByRecursion IsNumber seconds → AllIn (IsAbove firsts seconds) (union scope true firsts seconds)
  union_above firsts seconds one two =
      kept-all (IsAbove firsts seconds) (all_moved scope true firsts seconds ++ all_moved scope true seconds firsts)
      (all-append (λ m. Made (IsAbove firsts seconds) m) (all_moved scope true firsts seconds) (all_moved scope true seconds firsts) (left firsts one (λ f k. k)) (right seconds two (λ f k. k)))
    where
      weaker : (P Q : Form → Type 0) → ((u : Form) → P u → Q u) → (ms : List (Option Form)) → AllByRecursion (λ m. Made P m) ms → AllByRecursion (λ m. Made Q m) ms
      weaker P Q w [] h = tt
      weaker P Q w (m ∷ ms) h = ((λ u e. w u (h.0 u e)), weaker P Q w ms h.1)

      left : (fs : List Form) → AllByRecursion IsNumber fs → ((f : Form) → Has f fs → Has f firsts) →
          AllByRecursion (λ m. Made (IsAbove firsts seconds) m) (flat_map (λ f. option_to_list (option_map (moved true f) (gap scope true f seconds))) fs)
      left [] h w = tt
      left (f ∷ fs) h w =
          all-append (λ m. Made (IsAbove firsts seconds) m) (option_to_list (option_map (moved true f) (gap scope true f seconds)))
          (flat_map (λ f. option_to_list (option_map (moved true f) (gap scope true f seconds))) fs)
          (weaker _ (IsAbove firsts seconds) (λ u q. (f, q.0, w f (inl refl), q.1, q.2, q.3, q.4, q.5)) (option_to_list (option_map (moved true f) (gap scope true f seconds)))
          (moved_above firsts seconds two f h.0 (w f (inl refl)))) (left fs h.1 (λ g k. w g (inr k)))

      right : (fs : List Form) → AllByRecursion IsNumber fs → ((f : Form) → Has f fs → Has f seconds) →
          AllByRecursion (λ m. Made (IsAbove firsts seconds) m) (flat_map (λ f. option_to_list (option_map (moved true f) (gap scope true f firsts))) fs)
      right [] h w = tt
      right (f ∷ fs) h w =
          all-append (λ m. Made (IsAbove firsts seconds) m) (option_to_list (option_map (moved true f) (gap scope true f firsts)))
          (flat_map (λ f. option_to_list (option_map (moved true f) (gap scope true f firsts))) fs)
          (weaker _ (IsAbove firsts seconds) (λ u q. (q.0, f, q.1, w f (inl refl), q.3, q.2, other q.4, q.5)) (option_to_list (option_map (moved true f) (gap scope true f firsts)))
          (moved_above seconds firsts one f h.0 (w f (inl refl)))) (right fs h.1 (λ g k. w g (inr k)))
        where
          other : {A B : Type 0} → A ⊎ B → B ⊎ A
          other (inl k) = inr k
          other (inr k) = inl k
