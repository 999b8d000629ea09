-- What is shown of forms in a scope is shown in each that agrees with it on the symbols that they name.
use Rattle.std.proofs.Common.{◌≡◌, ℕ, zero, suc, ◌<◌, ◌≤◌, Bool, true, false, List, [], ◌∷◌, length, Option, Some, None, refl, sym, ap, ◌∙◌, arith}
use Rattle.std.specs.Prelude.{ℤ, pos, negsuc, ◌+ℤ◌, ◌&&◌, ◌||◌, ◌==◌, nat_le, if◌then◌else◌, slice_get, option_and_then}
use Rattle.std.specs.List.{AllByRecursion, list_any, list_all}
use Rattle.std.specs.Option.{option_map_or}
use Rattle.std.proofs.lemmas.Bool.Decides.{nat_tests}
use Rattle.lin.specs.Forms.{Form, factor_of, is_zero, is_within_limits, combined}
use Rattle.lin.specs.Search.{replaced, result_at, total_at, least, replacements, sup, is_at_most_zero, at_most}
use Rattle.lin.specs.Regions.{span_inside}
use Rattle.lin.specs.declared.form.Multiple.{Multiple}
use Rattle.lin.specs.declared.scope.Binding.{Binding}
use Rattle.lin.specs.declared.span.Span1.{Span1}
use Rattle.completeness.proofs.Only.{Only, AreOnly, SpanOnly, only_combined}

abbrev pub Below : ℕ → ℕ → Type 0
Below m s = s < m

-- a symbol that no term has
absent : (m n : ℕ) (ts : List Multiple) → m ≤ n → AllByRecursion (λ t. t.symbol < m) ts → factor_of ts n ≡ pos 0
absent m n [] le h = refl
absent m n (t ∷ ts) le h =
    let less = h.0 in
    let differs : (t.symbol == n) ≡ false = grind (arith, nat_tests) in
    let rest = absent m n ts le h.1 in
    ap (λ (b : Bool). (if b then t.factor else pos 0) +ℤ factor_of ts n) differs ∙ ap (λ (z : ℤ). pos 0 +ℤ z) rest

-- the larger scope tells the same of the first m symbols, which are all of the small one
module _ (small large : List Binding) (m : ℕ) (all : length small ≡ m) (more : m ≤ length large) (agree : (i : ℕ) → i < m → slice_get small i ≡ slice_get large i) where
  least_first : (n : ℕ) → n ≤ m → (f : Form) → least small n f ≡ least large n f
  least_first zero le f = refl
  least_first (suc n) le f =
      let rest : (g : Form) → least small n g ≡ least large n g = least_first n (omega (arith, le)) in
      let here = agree n (omega (arith, le)) in
      λ i. if is_zero (factor_of f.terms n) then rest f i else result_at (here i) (factor_of f.terms n)
      (λ other. option_and_then (λ next. rest next i) (replaced f n (factor_of f.terms n) other))

  replacements_first : (n : ℕ) → n ≤ m → (f : Form) → replacements small n f ≡ replacements large n f
  replacements_first zero le f = refl
  replacements_first (suc n) le f =
      let rest : (g : Form) → replacements small n g ≡ replacements large n g = replacements_first n (omega (arith, le)) in
      let here = agree n (omega (arith, le)) in
      λ i. if is_zero (factor_of f.terms n) then rest f i else total_at (here i) (factor_of f.terms n)
      (λ other. suc (option_map_or (λ next. rest next i) (replaced f n (factor_of f.terms n) other) 0))

  least_behind : (n : ℕ) → m ≤ n → (f : Form) → Only (Below m) f → least large m f ≡ least large n f
  least_behind zero le f h = (let none : m ≡ zero = omega (arith, le) in ap (λ (k : ℕ). least large k f) none)
  least_behind (suc n) le f h = of (nat_le m n) refl (λ low. least_behind n low f h)
    where
      of : (b : Bool) → nat_le m n ≡ b → (m ≤ n → least large m f ≡ least large n f) → least large m f ≡ least large (suc n) f
      of true e rest =
          let low : m ≤ n = grind (arith, nat_tests, e) in
          let none = absent m n f.terms low h in
          let test : is_zero (factor_of f.terms n) ≡ true = ap is_zero none in
          rest low
          ∙ sym (ap (λ (b : Bool). if b then least large n f else result_at (slice_get large n) (factor_of f.terms n)
          (λ other. option_and_then (λ next. least large n next) (replaced f n (factor_of f.terms n) other))) test)
      of false e rest = (let next : m ≡ suc n = grind (arith, nat_tests, e, le) in ap (λ (k : ℕ). least large k f) next)

  replacements_behind : (n : ℕ) → m ≤ n → (f : Form) → Only (Below m) f → replacements large m f ≡ replacements large n f
  replacements_behind zero le f h = (let none : m ≡ zero = omega (arith, le) in ap (λ (k : ℕ). replacements large k f) none)
  replacements_behind (suc n) le f h = of (nat_le m n) refl (λ low. replacements_behind n low f h)
    where
      of : (b : Bool) → nat_le m n ≡ b → (m ≤ n → replacements large m f ≡ replacements large n f) → replacements large m f ≡ replacements large (suc n) f
      of true e rest =
          let low : m ≤ n = grind (arith, nat_tests, e) in
          let none = absent m n f.terms low h in
          let test : is_zero (factor_of f.terms n) ≡ true = ap is_zero none in
          rest low
          ∙ sym (ap (λ (b : Bool). if b then replacements large n f else total_at (slice_get large n) (factor_of f.terms n)
          (λ other. suc (option_map_or (λ next. replacements large n next) (replaced f n (factor_of f.terms n) other) 0))) test)
      of false e rest = (let next : m ≡ suc n = grind (arith, nat_tests, e, le) in ap (λ (k : ℕ). replacements large k f) next)

  sup_same : (f : Form) → Only (Below m) f → sup small f ≡ sup large f
  sup_same f h =
      let counts : replacements small (length small) f ≡ replacements large (length large) f =
      ap (λ (n : ℕ). replacements small n f) all ∙ replacements_first m (omega arith) f ∙ replacements_behind (length large) more f h in
      let bounds : least small (length small) f ≡ least large (length large) f =
      ap (λ (n : ℕ). least small n f) all ∙ least_first m (omega arith) f ∙ least_behind (length large) more f h in
      λ i. if is_within_limits f && nat_le (counts i) 4096 then bounds i else None

  most_same : (f g : Form) → Only (Below m) f → Only (Below m) g → at_most small f g ≡ at_most large f g
  most_same f g h k = ap is_at_most_zero (of (combined f (negsuc 0) g) refl)
    where
      of : (o : Option Form) → combined f (negsuc 0) g ≡ o → option_and_then (λ d. sup small d) o ≡ option_and_then (λ d. sup large d) o
      of None e = refl
      of (Some d) e = sup_same d (only_combined (Below m) f (negsuc 0) g h k d e)

  any_below : (f : Form) (ms : List Form) → Only (Below m) f → AreOnly (Below m) ms → list_any (λ g. at_most small f g) ms ≡ list_any (λ g. at_most large f g) ms
  any_below f [] h k = refl
  any_below f (g ∷ ms) h k = (let here = most_same f g h k.0 in let rest = any_below f ms h k.1 in λ i. here i || rest i)

  any_above : (f : Form) (ms : List Form) → Only (Below m) f → AreOnly (Below m) ms → list_any (λ g. at_most small g f) ms ≡ list_any (λ g. at_most large g f) ms
  any_above f [] h k = refl
  any_above f (g ∷ ms) h k = (let here = most_same g f k.0 h in let rest = any_above f ms h k.1 in λ i. here i || rest i)

  all_below : (fs ms : List Form) → AreOnly (Below m) fs → AreOnly (Below m) ms →
      list_all (λ f. list_any (λ g. at_most small f g) ms) fs ≡ list_all (λ f. list_any (λ g. at_most large f g) ms) fs
  all_below [] ms h k = refl
  all_below (f ∷ fs) ms h k = (let here = any_below f ms h.0 k in let rest = all_below fs ms h.1 k in λ i. here i && rest i)

  all_above : (fs ms : List Form) → AreOnly (Below m) fs → AreOnly (Below m) ms →
      list_all (λ f. list_any (λ g. at_most small g f) ms) fs ≡ list_all (λ f. list_any (λ g. at_most large g f) ms) fs
  all_above [] ms h k = refl
  all_above (f ∷ fs) ms h k = (let here = any_above f ms h.0 k in let rest = all_above fs ms h.1 k in λ i. here i && rest i)

  pub inside_same : (x y : Span1) → SpanOnly (Below m) x → SpanOnly (Below m) y → span_inside small x y ≡ span_inside large x y
  inside_same x y h k =
      let low = all_below y.lower x.lower k.0 h.0 in
      let high = all_above y.upper x.upper k.1 h.1 in
      λ i. low i && high i
