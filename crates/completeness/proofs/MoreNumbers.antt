-- Over loops of few numbers, and lets of them, what the search shows to lie in some numbers it shows to lie in these and more behind them, where the form's own number and its multiples are near.
use Rattle.std.proofs.Common.{◌≡◌, ℕ, zero, suc, ◌+◌, ◌*◌, ◌≤◌, ◌^◌, Bool, true, false, ◌&&◌, List}
use Rattle.std.proofs.Common.{[], ◌∷◌, length, map, Option, Some, None, refl, sym, ap, ◌∙◌, subst, inl, inr, arith}
use Rattle.std.specs.Prelude.{◌||◌, ℤ, pos, negsuc, ◌+ℤ◌, ◌-ℤ◌, ◌*ℤ◌, ◌≤ℤ◌, nat_le, fold, option_and_then, if◌then◌else◌, slice_get}
use Rattle.std.specs.List.{AllByRecursion, list_all, list_any}
use Rattle.std.specs.Option.{option_map_or}
use Rattle.std.specs.Int.RustNames.{unsigned_abs}
use Rattle.std.proofs.Math.Nat.{mul_comm, mul-add, mul-le-mul_left}
use Rattle.std.proofs.lemmas.Int.{ints, clamps, unsigned_abs-mul}
use Rattle.std.proofs.lemmas.Bool.{le-leb}
use Rattle.lin.specs.Forms.{Form, number, sum_of, value_of as form_value, factor_of, is_zero, is_within_limits, are_within_limits, combined, plus_terms, plus_multiple, without}
use Rattle.lin.specs.declared.form.Multiple.{Multiple}
use Rattle.lin.specs.Search.{candidates, any_may_be, smaller, larger, pick, that_counts, is_empty, replaced, result_at, total, total_at, least, replacements, sup, is_at_most_zero, at_most}
use Rattle.lin.specs.declared.scope.Binding.{Binding}
use Rattle.lin.specs.declared.scope.Binding.TheVariants.{Loop, LetMin, LetMax}
use Rattle.lin.specs.declared.span.Span1.{Span1}
use Rattle.lin.specs.Regions.{span_inside}
use Rattle.lin.specs.Spans.{IsInSpan}
use Rattle.lin.proofs.Soundness.{at_most-holds}
use Rattle.std.proofs.lemmas.List.Elements.{recursion_from_All}
use Rattle.sched.specs.declared.numbers.Extent.{Extent}
use Rattle.sched.specs.Bounded.{whole}
use Rattle.lower.specs.Owning.{IsExtent}
use Rattle.completeness.specs.Placed.{GoesOn}
use Rattle.completeness.proofs.RegionBounds.{IsEnded}
use Rattle.completeness.proofs.FirstNumbers.{first_of, firsts, firsts_hold}
use Rattle.soundness.specs.Shown.{raised}
use Rattle.blocks.proofs.Laying.{same}
use Rattle.soundness.proofs.Refines.{and_parts}
use Rattle.completeness.proofs.TakenSites.{Has}
use Rattle.completeness.proofs.SelfBounds.{still}
use Rattle.completeness.proofs.Boxes.{IsBox, AreBoxes, weight_of, weight_at, weight, weight_without, weight_terms, candidates_light, one_of_all}

module _ (scope : List Binding) (boxes : AreBoxes scope) (z : ℤ) (z_near : unsigned_abs z ≤ 2 ^ 33) where
  -- how far a form's number and its multiples go together
  abbrev size : Form → ℕ
  size f = unsigned_abs f.constant + weight scope f.terms

  abbrev IsNear : Form → Type 0
  IsNear f = size f ≤ 1082331758592

  abbrev shift : Option ℤ → Option ℤ
  shift None = None
  shift (Some y) = Some (y +ℤ z)

  abbrev raise : Option Form → Option Form
  raise None = None
  raise (Some f) = Some (raised f z)

  -- ---- limits

  limits_same : (g : Form) → unsigned_abs g.constant ≤ 1082331758592 → is_within_limits (raised g z) ≡ is_within_limits g
  limits_same g near =
      let one : nat_le (unsigned_abs g.constant) (2 ^ 40) ≡ true = le-leb (unsigned_abs g.constant) (2 ^ 40) (omega (arith, near)) in
      let two : nat_le (unsigned_abs (g.constant +ℤ z)) (2 ^ 40) ≡ true = le-leb (unsigned_abs (g.constant +ℤ z)) (2 ^ 40) (omega (arith, ints, near, z_near)) in
      let both = two ∙ sym one in
      λ i. nat_le (length g.terms) 8 && list_all (λ t. nat_le (unsigned_abs t.factor) (2 ^ 20)) g.terms && both i

  raised_combined : (g o : Form) (c : ℤ) → unsigned_abs g.constant ≤ 1082331758592 → unsigned_abs (plus_multiple g c o).constant ≤ 1082331758592 →
      combined (raised g z) c o ≡ raise (combined g c o)
  raised_combined g o c near near_sum =
      let sum : (g.constant +ℤ z) +ℤ c *ℤ o.constant ≡ (g.constant +ℤ c *ℤ o.constant) +ℤ z = around g.constant z (c *ℤ o.constant) in
      let is : plus_multiple (raised g z) c o ≡ raised (plus_multiple g c o) z = λ i. record { constant = sum i; terms = plus_terms g.terms c o.terms } in
      let one = limits_same g near in
      let two : is_within_limits (plus_multiple (raised g z) c o) ≡ is_within_limits (plus_multiple g c o) = ap is_within_limits is ∙ limits_same (plus_multiple g c o) near_sum in
      (λ i. if ((one i && is_within_limits o) && two i) then Some (is i) else None) ∙ by (are_within_limits g c o)
    where
      around : (p q r : ℤ) → (p +ℤ q) +ℤ r ≡ (p +ℤ r) +ℤ q
      around p q r = omega (arith, ints)

      by : (b : Bool) → (if b then Some (raised (plus_multiple g c o) z) else None) ≡ raise (if b then Some (plus_multiple g c o) else None)
      by true = refl
      by false = refl

  -- ---- what stands in a symbol's place goes no farther

  next_size : (n : ℕ) (form : Form) (b : Binding) → slice_get scope n ≡ Some b → (other : Form) → Has other (candidates b (factor_of form.terms n)) →
      size (plus_multiple (without form n) (factor_of form.terms n) other) ≤ size form
  next_size n form b there other among =
      let c : ℤ = factor_of form.terms n in
      let light : unsigned_abs other.constant + weight scope other.terms ≤ weight_of (Some b) =
      one_of_all (λ f. unsigned_abs f.constant + weight scope f.terms ≤ weight_of (Some b)) (candidates b c) other (candidates_light scope b (boxes n b there) c) among in
      let here : weight_of (Some b) ≡ weight_at scope n = ap weight_of (sym there) in
      let left = weight_without scope form.terms n in
      let terms = weight_terms scope (without form n).terms c other.terms in
      let parts = mul-add (unsigned_abs c) (unsigned_abs other.constant) (weight scope other.terms) in
      let most : unsigned_abs c * (unsigned_abs other.constant + weight scope other.terms) ≤ unsigned_abs c * weight_at scope n =
      mul-le-mul_left (unsigned_abs c) (subst (λ (w : ℕ). unsigned_abs other.constant + weight scope other.terms ≤ w) here light) in
      let turned = mul_comm (unsigned_abs c) (weight_at scope n) in
      let product = unsigned_abs-mul c other.constant in
      let sum = part form.constant (c *ℤ other.constant) in
      omega (arith, left, terms, parts, most, turned, product, sum)
    where
      part : (a b : ℤ) → unsigned_abs (a +ℤ b) ≤ unsigned_abs a + unsigned_abs b
      part a b = omega (arith, ints)

  raised_put : (n : ℕ) (form : Form) (b : Binding) → slice_get scope n ≡ Some b → (other : Form) → Has other (candidates b (factor_of form.terms n)) → IsNear form →
      replaced (raised form z) n (factor_of form.terms n) other ≡ raise (replaced form n (factor_of form.terms n) other)
  raised_put n form b there other among near =
      let next = next_size n form b there other among in
      raised_combined (without form n) other (factor_of form.terms n) (omega (arith, near)) (omega (arith, near, next))

  put_near : (n : ℕ) (form : Form) (b : Binding) → slice_get scope n ≡ Some b → (other : Form) → Has other (candidates b (factor_of form.terms n)) → IsNear form → (next : Form) →
      replaced form n (factor_of form.terms n) other ≡ Some next → IsNear next
  put_near n form b there other among near next made =
      let most = next_size n form b there other among in
      of (are_within_limits (without form n) (factor_of form.terms n) other) made (omega (arith, near, most))
    where
      of : (v : Bool) → (if v then Some (plus_multiple (without form n) (factor_of form.terms n) other) else None) ≡ Some next →
          IsNear (plus_multiple (without form n) (factor_of form.terms n) other) → IsNear next
      of true q h = subst IsNear (same (plus_multiple (without form n) (factor_of form.terms n) other) next q) h
      of false q h = absurd (cc q)

  -- ---- what counts

  smaller_shift : (a b : Option ℤ) → smaller (shift a) (shift b) ≡ shift (smaller a b)
  smaller_shift None b = refl
  smaller_shift (Some x) None = refl
  smaller_shift (Some x) (Some y) = ap (λ (w : ℤ). Some w) (omega (arith, ints, clamps))

  larger_shift : (a b : Option ℤ) → larger (shift a) (shift b) ≡ shift (larger a b)
  larger_shift None b = refl
  larger_shift (Some x) None = refl
  larger_shift (Some x) (Some y) = ap (λ (w : ℤ). Some w) (omega (arith, ints, clamps))

  pick_shift : (l : Bool) (a b : Option ℤ) → pick l (shift a) (shift b) ≡ shift (pick l a b)
  pick_shift true a b = larger_shift a b
  pick_shift false a b = smaller_shift a b

  fold_shift : (l : Bool) (a : Option ℤ) (xs : List (Option ℤ)) → fold (pick l) (shift a) (map shift xs) ≡ shift (fold (pick l) a xs)
  fold_shift l a [] = refl
  fold_shift l a (x ∷ xs) = ap (λ (y : Option ℤ). fold (pick l) y (map shift xs)) (pick_shift l a x) ∙ fold_shift l (pick l a x) xs

  counts_shift : (l : Bool) (xs : List (Option ℤ)) → that_counts l (map shift xs) ≡ shift (that_counts l xs)
  counts_shift l [] = refl
  counts_shift l (x ∷ xs) = fold_shift l x xs

  -- ---- the search

  abbrev IsMore : ℕ → Form → Type 0
  IsMore n f = (least scope n (raised f z) ≡ shift (least scope n f)) × (replacements scope n (raised f z) ≡ replacements scope n f)

  module _ (n : ℕ) (form : Form) (near : IsNear form) (steps : (next : Form) → IsNear next → IsMore n next) where
    abbrev c : ℤ
    c = factor_of form.terms n

    abbrev branch : Form → Form → Option ℤ
    branch f other = option_and_then (λ next. least scope n next) (replaced f n c other)

    abbrev cost : Form → Form → ℕ
    cost f other = suc (option_map_or (λ next. replacements scope n next) (replaced f n c other) 0)

    one : (b : Binding) → slice_get scope n ≡ Some b → (other : Form) → Has other (candidates b c) →
        (branch (raised form z) other ≡ shift (branch form other)) × (cost (raised form z) other ≡ cost form other)
    one b there other among =
        let put = raised_put n form b there other among near in
        let k = by (replaced form n c other) refl in
        (ap (option_and_then (λ next. least scope n next)) put ∙ k.0, ap (λ (o : Option Form). suc (option_map_or (λ next. replacements scope n next) o 0)) put ∙ k.1)
      where
        by : (o : Option Form) → replaced form n c other ≡ o →
            (option_and_then (λ next. least scope n next) (raise o) ≡ shift (option_and_then (λ next. least scope n next) o))
            × (suc (option_map_or (λ next. replacements scope n next) (raise o) 0) ≡ suc (option_map_or (λ next. replacements scope n next) o 0))
        by None e = (refl, refl)
        by (Some next) e = (let k = steps next (put_near n form b there other among near next e) in (k.0, ap suc k.1))

    each : (b : Binding) → slice_get scope n ≡ Some b → (cs : List Form) → ((f : Form) → Has f cs → Has f (candidates b c)) →
        (map (branch (raised form z)) cs ≡ map shift (map (branch form) cs)) × (total (cost (raised form z)) cs ≡ total (cost form) cs)
    each b there [] w = (refl, refl)
    each b there (f ∷ fs) w =
        let here = one b there f (w f (inl refl)) in
        let rest = each b there fs (λ g k. w g (inr k)) in
        (λ i. here.0 i ∷ rest.0 i, λ i. here.1 i + rest.1 i)

    at_binding : (o : Option Binding) → slice_get scope n ≡ o →
        (result_at o c (branch (raised form z)) ≡ shift (result_at o c (branch form))) × (total_at o c (cost (raised form z)) ≡ total_at o c (cost form))
    at_binding None e = (refl, refl)
    at_binding (Some b) e =
        let k = each b e (candidates b c) (λ f h. h) in
        (ap (that_counts (any_may_be b c)) k.0 ∙ counts_shift (any_may_be b c) (map (branch form) (candidates b c)), k.1)

  search_more : (n : ℕ) (form : Form) → IsNear form → IsMore n form
  search_more zero form near = (of (is_empty form.terms), refl)
    where
      of : (b : Bool) → (if b then Some (form.constant +ℤ z) else None) ≡ shift (if b then Some form.constant else None)
      of true = refl
      of false = refl
  search_more (suc n) form near = of (is_zero (factor_of form.terms n)) (search_more n form near) (at_binding n form near (λ next h. search_more n next h) (slice_get scope n) refl)
    where
      c : ℤ
      c = factor_of form.terms n

      Branch : Form → Form → Option ℤ
      Branch f other = option_and_then (λ next. least scope n next) (replaced f n (factor_of form.terms n) other)

      Cost : Form → Form → ℕ
      Cost f other = suc (option_map_or (λ next. replacements scope n next) (replaced f n (factor_of form.terms n) other) 0)

      of : (v : Bool) → IsMore n form →
          (result_at (slice_get scope n) (factor_of form.terms n) (Branch (raised form z)) ≡ shift (result_at (slice_get scope n) (factor_of form.terms n) (Branch form)))
          × (total_at (slice_get scope n) (factor_of form.terms n) (Cost (raised form z)) ≡ total_at (slice_get scope n) (factor_of form.terms n) (Cost form)) →
          ((if v then least scope n (raised form z) else result_at (slice_get scope n) (factor_of form.terms n) (Branch (raised form z)))
          ≡ shift (if v then least scope n form else result_at (slice_get scope n) (factor_of form.terms n) (Branch form)))
          × ((if v then replacements scope n (raised form z) else total_at (slice_get scope n) (factor_of form.terms n) (Cost (raised form z)))
          ≡ (if v then replacements scope n form else total_at (slice_get scope n) (factor_of form.terms n) (Cost form)))
      of true stays steps = stays
      of false stays steps = steps

  sup_more : (form : Form) → IsNear form → sup scope (raised form z) ≡ shift (sup scope form)
  sup_more form near =
      let k = search_more (length scope) form near in
      let limits = limits_same form (omega (arith, near)) in
      (λ i. if (limits i && nat_le (k.1 i) 4096) then k.0 i else None) ∙ by (is_within_limits form && nat_le (replacements scope (length scope) form) 4096)
    where
      by : (b : Bool) → (if b then shift (least scope (length scope) form) else None) ≡ shift (if b then least scope (length scope) form else None)
      by true = refl
      by false = refl

-- ---- what is at most a number is at most a greater one

zero_most : (y : ℤ) → is_at_most_zero (Some y) ≡ true → y ≤ℤ pos 0
zero_most (pos zero) e = omega (arith, ints)
zero_most (pos (suc n)) e = absurd (cc e)
zero_most (negsuc n) e = omega (arith, ints)

module _ (scope : List Binding) (boxes : AreBoxes scope) where
  pub most_more : (m : Form) (e g : ℤ) → e ≤ℤ g → unsigned_abs e ≤ 2 ^ 32 → unsigned_abs g ≤ 2 ^ 32 → unsigned_abs m.constant + weight scope m.terms ≤ 1078036791296 →
      at_most scope m (number e) ≡ true → at_most scope m (number g) ≡ true
  most_more m e g le e_near g_near near shown =
      let z : ℤ = e -ℤ g in
      let z_near : unsigned_abs (e -ℤ g) ≤ 2 ^ 33 = omega (arith, ints, e_near, g_near) in
      let d : Form = plus_multiple m (negsuc 0) (number e) in
      let d_near : unsigned_abs (m.constant +ℤ negsuc 0 *ℤ e) + weight scope m.terms ≤ 1082331758592 = nearer m.constant e (weight scope m.terms) near e_near in
      let sum : m.constant +ℤ negsuc 0 *ℤ g ≡ (m.constant +ℤ negsuc 0 *ℤ e) +ℤ (e -ℤ g) = regrouped m.constant e g in
      let is : plus_multiple m (negsuc 0) (number g) ≡ raised d (e -ℤ g) = λ i. record { constant = sum i; terms = m.terms } in
      let first : is_within_limits (number e) ≡ true = le-leb (unsigned_abs e) (2 ^ 40) (omega (arith, e_near)) in
      let second : is_within_limits (number g) ≡ true = le-leb (unsigned_abs g) (2 ^ 40) (omega (arith, g_near)) in
      let numbers_same = second ∙ sym first in
      let sums_same : is_within_limits (plus_multiple m (negsuc 0) (number g)) ≡ is_within_limits d =
      ap is_within_limits is ∙ limits_same scope boxes (e -ℤ g) z_near d (omega (arith, d_near)) in
      let made : combined m (negsuc 0) (number g) ≡ (if are_within_limits m (negsuc 0) (number e) then Some (raised d (e -ℤ g)) else None) =
      λ i. if ((is_within_limits m && numbers_same i) && sums_same i) then Some (is i) else None in
      ap (λ (o : Option Form). is_at_most_zero (option_and_then (λ f. sup scope f) o)) made
      ∙ by (are_within_limits m (negsuc 0) (number e)) (sup_more scope boxes (e -ℤ g) z_near d d_near) shown
    where
      nearer : (n y : ℤ) (w : ℕ) → unsigned_abs n + w ≤ 1078036791296 → unsigned_abs y ≤ 2 ^ 32 → unsigned_abs (n +ℤ negsuc 0 *ℤ y) + w ≤ 1082331758592
      nearer n y w h k = omega (arith, ints, h, k)

      regrouped : (n y w : ℤ) → n +ℤ negsuc 0 *ℤ w ≡ (n +ℤ negsuc 0 *ℤ y) +ℤ (y -ℤ w)
      regrouped n y w = omega (arith, ints)

      found : (o : Option ℤ) → is_at_most_zero o ≡ true → is_at_most_zero (shift scope boxes (e -ℤ g) (omega (arith, ints, e_near, g_near)) o) ≡ true
      found None q = absurd (cc q)
      found (Some y) q = (let zero_so = zero_most y q in still (y +ℤ (e -ℤ g)) (omega (arith, ints, zero_so, le)))

      by : (b : Bool) →
          sup scope (raised (plus_multiple m (negsuc 0) (number e)) (e -ℤ g)) ≡ shift scope boxes (e -ℤ g) (omega (arith, ints, e_near, g_near)) (sup scope (plus_multiple m (negsuc 0) (number e))) →
          is_at_most_zero (option_and_then (λ f. sup scope f) (if b then Some (plus_multiple m (negsuc 0) (number e)) else None)) ≡ true →
          is_at_most_zero (option_and_then (λ f. sup scope f) (if b then Some (raised (plus_multiple m (negsuc 0) (number e)) (e -ℤ g)) else None)) ≡ true
      by true s q = ap is_at_most_zero s ∙ found (sup scope (plus_multiple m (negsuc 0) (number e))) q
      by false s q = absurd (cc q)

-- ---- a span that is shown to lie in some numbers

-- the multiples of each form go no farther than that together, where it is within the limits
abbrev pub IsFewSpan : List Binding → Span1 → Type 0
IsFewSpan scope s =
    AllByRecursion (λ f. is_within_limits f ≡ true → weight scope f.terms ≤ 2 ^ 38 + 2 ^ 37 + 2 ^ 36) s.lower
    × AllByRecursion (λ f. is_within_limits f ≡ true → weight scope f.terms ≤ 2 ^ 38 + 2 ^ 37 + 2 ^ 36) s.upper

module _ (scope : List Binding) (boxes : AreBoxes scope) where
  abbrev v : ℕ → ℤ
  v = firsts scope

  -- the first number of each symbol goes no farther than the symbol
  first_near : (b : Binding) → IsBox scope b → unsigned_abs (first_of (Some b)) ≤ weight_of (Some b)
  first_near (Loop x) box = of x.lower (weight_of (Some (Loop x))) (candidates_light scope (Loop x) box (negsuc 0))
    where
      of : (fs : List Form) (w : ℕ) → AllByRecursion (λ f. unsigned_abs f.constant + weight scope f.terms ≤ w) fs →
          unsigned_abs (elim fs [ [] ↦ pos 0 | f ∷ gs ↦ f.constant ]) ≤ w
      of [] w h = omega (arith, ints)
      of (f ∷ fs) w h = (let here = h.0 in omega (arith, here))
  first_near (LetMin fs) box = of fs (weight_of (Some (LetMin fs))) (candidates_light scope (LetMin fs) box (pos 0))
    where
      of : (gs : List Form) (w : ℕ) → AllByRecursion (λ f. unsigned_abs f.constant + weight scope f.terms ≤ w) gs →
          unsigned_abs (elim gs [ [] ↦ pos 0 | f ∷ hs ↦ f.constant ]) ≤ w
      of [] w h = omega (arith, ints)
      of (f ∷ gs) w h = (let here = h.0 in omega (arith, here))
  first_near (LetMax fs) box = absurd box

  firsts_near : (n : ℕ) → unsigned_abs (v n) ≤ weight_at scope n
  firsts_near n = of (slice_get scope n) refl
    where
      of : (o : Option Binding) → slice_get scope n ≡ o → unsigned_abs (first_of o) ≤ weight_of o
      of None e = omega (arith, ints)
      of (Some b) e = first_near b (boxes n b e)

  sum_near : (ts : List Multiple) → unsigned_abs (sum_of ts v) ≤ weight scope ts
  sum_near [] = omega (arith, ints)
  sum_near (t ∷ ts) =
      let rest = sum_near ts in
      let product = unsigned_abs-mul t.factor (v t.symbol) in
      let most = mul-le-mul_left (unsigned_abs t.factor) (firsts_near t.symbol) in
      let turned = mul_comm (unsigned_abs t.factor) (weight_at scope t.symbol) in
      let both = part (t.factor *ℤ v t.symbol) (sum_of ts v) in
      omega (arith, rest, product, most, turned, both)
    where
      part : (a b : ℤ) → unsigned_abs (a +ℤ b) ≤ unsigned_abs a + unsigned_abs b
      part a b = omega (arith, ints)

  -- a form that is shown to be at most a number is within the limits
  limited_so : (m : Form) (e : ℤ) → at_most scope m (number e) ≡ true → is_within_limits m ≡ true
  limited_so m e shown = of (is_within_limits m) refl
    where
      of : (b : Bool) → is_within_limits m ≡ b → is_within_limits m ≡ true
      of true q = q
      of false q =
          let none : combined m (negsuc 0) (number e) ≡ None =
          λ i. if ((q i && is_within_limits (number e)) && is_within_limits (plus_multiple m (negsuc 0) (number e))) then Some (plus_multiple m (negsuc 0) (number e)) else None in
          let clash : false ≡ true = sym (ap (λ (o : Option Form). is_at_most_zero (option_and_then (λ f. sup scope f) o)) none) ∙ shown in
          absurd (cc clash)

  one_more : (m : Form) (low e g value : ℤ) → negsuc 2147483647 ≤ℤ low → low ≤ℤ value → e ≤ℤ pos 2147483647 → e ≤ℤ g → g ≤ℤ pos 4294967296 →
      value ≤ℤ form_value m v → (is_within_limits m ≡ true → weight scope m.terms ≤ 2 ^ 38 + 2 ^ 37 + 2 ^ 36) → at_most scope m (number e) ≡ true → at_most scope m (number g) ≡ true
  one_more m low e g value from begins to le last above light shown =
      let few = light (limited_so m e shown) in
      let holds = at_most-holds scope v (firsts_hold scope boxes) m (number e) shown in
      let below : form_value m v ≤ℤ e = less (form_value m v) e holds in
      let sum = sum_near m.terms in
      let e_near : unsigned_abs e ≤ 2 ^ 32 = omega (arith, ints, from, begins, above, below, to) in
      let g_near : unsigned_abs g ≤ 2 ^ 32 = omega (arith, ints, from, begins, above, below, le, last) in
      let near : unsigned_abs m.constant + weight scope m.terms ≤ 1078036791296 =
      nearest m.constant (sum_of m.terms v) (weight scope m.terms) value (form_value m v) refl from begins above below to sum few in
      most_more scope boxes m e g le e_near g_near near shown
    where
      less : (a b : ℤ) → a ≤ℤ (b +ℤ pos 0) → a ≤ℤ b
      less a b h = omega (arith, ints, h)

      nearest : (c s : ℤ) (w : ℕ) (y a : ℤ) → c +ℤ s ≡ a → negsuc 2147483647 ≤ℤ low → low ≤ℤ y → y ≤ℤ a → a ≤ℤ e → e ≤ℤ pos 2147483647 → unsigned_abs s ≤ w →
          w ≤ 2 ^ 38 + 2 ^ 37 + 2 ^ 36 → unsigned_abs c + w ≤ 1078036791296
      nearest c s w y a is h k q r t u f = omega (arith, ints, is, h, k, q, r, t, u, f)

  uppers_more : (ms : List Form) (low e g value : ℤ) → negsuc 2147483647 ≤ℤ low → low ≤ℤ value → e ≤ℤ pos 2147483647 → e ≤ℤ g → g ≤ℤ pos 4294967296 →
      AllByRecursion (λ m. value ≤ℤ form_value m v) ms → AllByRecursion (λ m. is_within_limits m ≡ true → weight scope m.terms ≤ 2 ^ 38 + 2 ^ 37 + 2 ^ 36) ms →
      list_any (λ m. at_most scope m (number e)) ms ≡ true → list_any (λ m. at_most scope m (number g)) ms ≡ true
  uppers_more [] low e g value from begins to le last above light h = absurd (cc h)
  uppers_more (m ∷ ms) low e g value from begins to le last above light h =
      of (at_most scope m (number e)) refl h (uppers_more ms low e g value from begins to le last above.1 light.1)
    where
      first : (b c : Bool) → b ≡ true → (b || c) ≡ true
      first true c q = refl
      first false c q = absurd (cc q)

      later : (b c : Bool) → c ≡ true → (b || c) ≡ true
      later true c q = refl
      later false c q = q

      of : (b : Bool) → at_most scope m (number e) ≡ b → (b || list_any (λ m. at_most scope m (number e)) ms) ≡ true →
          (list_any (λ m. at_most scope m (number e)) ms ≡ true → list_any (λ m. at_most scope m (number g)) ms ≡ true) →
          (at_most scope m (number g) || list_any (λ m. at_most scope m (number g)) ms) ≡ true
      of true q k rest = first (at_most scope m (number g)) (list_any (λ m. at_most scope m (number g)) ms) (one_more m low e g value from begins to le last above.0 light.0 q)
      of false q k rest = later (at_most scope m (number g)) (list_any (λ m. at_most scope m (number g)) ms) (rest k)

  -- the least number is at most each number of the span
  lowers_say : (ms : List Form) (low value : ℤ) → AllByRecursion (λ m. form_value m v ≤ℤ value) ms → list_any (λ m. at_most scope (number low) m) ms ≡ true → low ≤ℤ value
  lowers_say [] low value under h = absurd (cc h)
  lowers_say (m ∷ ms) low value under h = of (at_most scope (number low) m) refl h (lowers_say ms low value under.1)
    where
      of : (b : Bool) → at_most scope (number low) m ≡ b → (b || list_any (λ m. at_most scope (number low) m) ms) ≡ true →
          (list_any (λ m. at_most scope (number low) m) ms ≡ true → low ≤ℤ value) → low ≤ℤ value
      of true q k rest =
          let holds = at_most-holds scope v (firsts_hold scope boxes) (number low) m q in
          both low value (form_value m v) holds under.0
        where
          both : (a b c : ℤ) → (a +ℤ pos 0) ≤ℤ c → c ≤ℤ b → a ≤ℤ b
          both a b c p q = omega (arith, ints, p, q)
      of false q k rest = rest k

  -- what is shown to lie in the numbers of an extent lies in one that goes on behind it
  pub more_numbers : (s : Span1) → IsFewSpan scope s → (value : ℤ) → IsInSpan s (firsts scope) value → (x y : Extent) → IsExtent x → IsEnded x → GoesOn x y →
      span_inside scope s (whole x) ≡ true → span_inside scope s (whole y) ≡ true
  more_numbers s few value inside x y extent ended goes shown =
      let parts = and_parts (list_any (λ m. at_most scope (number x.low) m) s.lower && true)
      (list_any (λ m. at_most scope m (number (x.low +ℤ pos x.count -ℤ pos 1))) s.upper && true) shown in
      let lower_x = (and_parts (list_any (λ m. at_most scope (number x.low) m) s.lower) true parts.0).0 in
      let upper_x = (and_parts (list_any (λ m. at_most scope m (number (x.low +ℤ pos x.count -ℤ pos 1))) s.upper) true parts.1).0 in
      let lower_y : list_any (λ m. at_most scope (number y.low) m) s.lower ≡ true = ap (λ (z : ℤ). list_any (λ m. at_most scope (number z) m) s.lower) goes.low ∙ lower_x in
      let begins = lowers_say s.lower x.low value (recursion_from_All _ _ inside.0) lower_x in
      let low_is = goes.low in
      let more = goes.count in
      let farther : (x.low +ℤ pos x.count -ℤ pos 1) ≤ℤ (y.low +ℤ pos y.count -ℤ pos 1) = omega (arith, ints, low_is, more) in
      let upper_y = uppers_more s.upper x.low (x.low +ℤ pos x.count -ℤ pos 1) (y.low +ℤ pos y.count -ℤ pos 1) value extent.from begins ended farther goes.last
      (recursion_from_All _ _ inside.1) few.1 upper_x in
      λ i. (lower_y i && true) && (upper_y i && true)
