-- What a search finds names no inner symbol.
use Rattle.std.proofs.Common.{◌≡◌, ℕ, zero, suc, List, [], ◌∷◌, ◌++◌, length, Bool, true, false, ◌||◌, refl, sym, subst}
use Rattle.std.specs.Prelude.{ℤ, pos, ◌*ℤ◌, map, fold, option_map, option_to_list, Option, Some, None, slice_get, option_and_then, nat_le}
use Rattle.std.specs.List.{AllByRecursion, list_any}
use Rattle.lin.specs.Forms.{Form, number, factor_of, is_within_limits, plus_term, plus_terms, plus_multiple, combined}
use Rattle.lin.specs.Search.{candidates, any_may_be, replaced}
use Rattle.lin.specs.declared.form.Multiple.{Multiple}
use Rattle.lin.specs.declared.scope.Binding.{Binding}
use Rattle.lin.proofs.TermLemmas.{either_way, plus_term-all}
use Rattle.lin.proofs.Limits.{combined-means}
use Rattle.bounds.specs.Lists.{moved, gap, all_moved}
use Rattle.bounds.proofs.ListSound.{AllIn, Made, all_in_some, all-append, kept-all}
use Rattle.bounds.specs.Projection.Elimination.{is_inner, names_inner, bounds_itself, is_eliminated, both, that_count, bounds_at, bounds_below, replacements_below, eliminated}
use Rattle.bounds.proofs.Soundness.{both_of-all}

module _ (inner : List ℕ) where
  abbrev pub Outer : Form → Type 0
  Outer f = names_inner inner f ≡ false

  -- of terms
  abbrev OuterTerm : Multiple → Type 0
  OuterTerm t = is_inner inner t.symbol ≡ false

  neither : (a b : Bool) → (a || b) ≡ false → (a ≡ false) × (b ≡ false)
  neither true b h = cc
  neither false b h = (refl, h)

  nor : (a b : Bool) → a ≡ false → b ≡ false → (a || b) ≡ false
  nor true b h k = cc
  nor false b h k = k

  pub outer_terms : (ts : List Multiple) → list_any (λ t. is_inner inner t.symbol) ts ≡ false → AllByRecursion OuterTerm ts
  outer_terms [] h = tt
  outer_terms (t ∷ ts) h = let n = neither (is_inner inner t.symbol) (list_any (λ u. is_inner inner u.symbol) ts) h in (n.0, outer_terms ts n.1)

  terms_outer : (ts : List Multiple) → AllByRecursion OuterTerm ts → list_any (λ t. is_inner inner t.symbol) ts ≡ false
  terms_outer [] h = refl
  terms_outer (t ∷ ts) h = nor (is_inner inner t.symbol) (list_any (λ u. is_inner inner u.symbol) ts) h.0 (terms_outer ts h.1)

  plus_terms-outer : (k : ℤ) (ts us : List Multiple) → AllByRecursion OuterTerm ts → AllByRecursion OuterTerm us → AllByRecursion OuterTerm (plus_terms ts k us)
  plus_terms-outer k ts [] a b = a
  plus_terms-outer k ts (u ∷ us) a b =
      plus_terms-outer k (plus_term ts (record { symbol = u.symbol; factor = k *ℤ u.factor })) us
      (plus_term-all OuterTerm OuterTerm (λ x h. h) (record { symbol = u.symbol; factor = k *ℤ u.factor }) b.0 (λ x h. b.0) ts a) b.1

  pub sum-outer : (k : ℤ) (f g : Form) → Outer f → Outer g → Outer (plus_multiple f k g)
  sum-outer k f g a b = terms_outer (plus_terms f.terms k g.terms) (plus_terms-outer k f.terms g.terms (outer_terms f.terms a) (outer_terms g.terms b))

  pub combined-outer : (k : ℤ) (f g : Form) → Outer f → Outer g → Made Outer (combined f k g)
  combined-outer k f g a b = λ s e. subst Outer (sym (combined-means f k g s e).is) (sum-outer k f g a b)

  moved-outer : (f : Form) (found : Option ℤ) → Outer f → AllByRecursion (λ m. Made Outer m) (option_to_list (option_map (moved true f) found))
  moved-outer f None h = tt
  moved-outer f (Some d) h = (combined-outer (pos 1) f (number d) h refl, tt)

  module _ (scope : List Binding) where
    all_moved-outer : (fs others : List Form) → AllByRecursion Outer fs → AllByRecursion (λ m. Made Outer m) (all_moved scope true fs others)
    all_moved-outer [] others h = tt
    all_moved-outer (f ∷ fs) others h =
        all-append (λ m. Made Outer m) (option_to_list (option_map (moved true f) (gap scope true f others))) (all_moved scope true fs others)
        (moved-outer f (gap scope true f others) h.0) (all_moved-outer fs others h.1)

    both-outer : (largest : Bool) (a b : Option (List Form)) → AllIn Outer a → AllIn Outer b → AllIn Outer (both scope largest a b)
    both-outer false a b ha hb = both_of-all scope Outer a b ha hb
    both-outer true None b ha hb = λ forms e. cc
    both-outer true (Some a) None ha hb = λ forms e. cc
    both-outer true (Some a) (Some b) ha hb =
        kept-all Outer (all_moved scope true a b ++ all_moved scope true b a)
        (all-append (λ m. Made Outer m) (all_moved scope true a b) (all_moved scope true b a) (all_moved-outer a b (ha a refl)) (all_moved-outer b a (hb b refl)))

    fold-outer : (largest : Bool) (g : Form → Option (List Form)) → ((f : Form) → AllIn Outer (g f)) → (a : Option (List Form)) (fs : List Form) → AllIn Outer a → AllIn Outer (fold (both scope largest) a (map g fs))
    fold-outer largest g h a [] ha = ha
    fold-outer largest g h a (f ∷ fs) ha = fold-outer largest g h (both scope largest a (g f)) fs (both-outer largest a (g f) ha (h f))

    count-outer : (largest : Bool) (g : Form → Option (List Form)) → ((f : Form) → AllIn Outer (g f)) → (fs : List Form) → AllIn Outer (that_count scope largest (map g fs))
    count-outer largest g h [] = all_in_some Outer [] tt
    count-outer largest g h (f ∷ fs) = fold-outer largest g h (g f) fs (h f)

    at-outer : (found : Option Binding) (c : ℤ) (g : Form → Option (List Form)) → ((f : Form) → AllIn Outer (g f)) → AllIn Outer (bounds_at scope found c g)
    at-outer None c g h = all_in_some Outer [] tt
    at-outer (Some binding) c g h = count-outer (any_may_be binding c) g h (candidates binding c)

    chained-outer : (made : Option Form) (g : Form → Option (List Form)) → ((f : Form) → AllIn Outer (g f)) → AllIn Outer (option_and_then g made)
    chained-outer None g h = λ forms e. cc
    chained-outer (Some next) g h = h next

    below-outer : (n : ℕ) (form : Form) → AllIn Outer (bounds_below scope inner n form)
    below-outer zero form = all_in_some Outer (bounds_itself inner form)
        (either_way (λ (fs : List Form). AllByRecursion Outer fs) (names_inner inner form) [] (form ∷ []) (λ t. tt) (λ t. (t, tt)))
    below-outer (suc n) form =
        either_way (λ (found : Option (List Form)). AllIn Outer found) (is_eliminated inner n (factor_of form.terms n)) _ _
        (λ some. at-outer (slice_get scope n) (factor_of form.terms n) _
        (λ other. chained-outer (replaced form n (factor_of form.terms n) other) (λ next. bounds_below scope inner n next) (λ next. below-outer n next)))
        (λ none. below-outer n form)

    pub eliminated-outer : (form : Form) → AllIn Outer (eliminated scope inner form)
    eliminated-outer form =
        either_way (λ (found : Option (List Form)). AllIn Outer found) (is_within_limits form) _ None
        (λ within. either_way (λ (found : Option (List Form)). AllIn Outer found) (nat_le (replacements_below scope inner (length scope) form) 4096) _ (Some [])
        (λ few. below-outer (length scope) form) (λ many. all_in_some Outer [] tt))
        (λ outside. λ forms e. cc)
