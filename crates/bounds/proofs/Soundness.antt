-- What a search finds bounds the form from above, whatever the symbols stand for.
use Rattle.std.proofs.Common.{◌≡◌, ℕ, zero, suc, ◌<◌, List, [], ◌∷◌, ◌++◌, length, get_or, Bool, true, false, arith, inl, inr, refl, sym, subst}
use Rattle.std.specs.Prelude.{ℤ, pos, negsuc, ◌≤ℤ◌, map, fold, Option, Some, None, slice_get, option_and_then, if◌then◌else◌, nat_le, Any, ◌⊎◌}
use Rattle.std.specs.List.{AllByRecursion}
use Rattle.std.proofs.lemmas.Int.{ints}
use Rattle.std.proofs.lemmas.List.Elements.{recursion_from_All}
use Rattle.lin.specs.Forms.{Form, value_of, factor_of, is_within_limits, plus_multiple, without}
use Rattle.lin.specs.Spans.{Holds, HoldsIn}
use Rattle.lin.specs.Search.{candidates, any_may_be}
use Rattle.lin.specs.declared.scope.Binding.{Binding}
use Rattle.lin.specs.declared.scope.Binding.TheVariants.{Loop, LetMin, LetMax}
use Rattle.lin.proofs.TermLemmas.{either_way, all_weaker, sum_of-without, value_of-plus_multiple}
use Rattle.numeric.proofs.Ints.{multiply_order, multiply_order_negative}
use Rattle.bounds.specs.Lists.{checked}
use Rattle.bounds.proofs.ListSound.{AllIn, all_in_some, all-append, kept-all, checked-all, union-above}
use Rattle.bounds.proofs.SpanSound.{High}
use Rattle.bounds.specs.Projection.Elimination.{names_inner, bounds_itself, is_eliminated, both, that_count, bounds_at, bounds_below, replacements_below, eliminated}

-- ---- the results that count
pub both_of-all : (scope : List Binding) (P : Form → Type 0) (a b : Option (List Form)) → AllIn P a → AllIn P b → AllIn P (both scope false a b)
both_of-all scope P None b ha hb = λ forms e. cc
both_of-all scope P (Some a) None ha hb = λ forms e. cc
both_of-all scope P (Some a) (Some b) ha hb = kept-all P (map checked (a ++ b)) (checked-all P (a ++ b) (all-append P a b (ha a refl) (hb b refl)))

pub fold_of-all : {X : Type 0} (scope : List Binding) (P : Form → Type 0) (g : X → Option (List Form)) (a : Option (List Form)) (xs : List X) → AllIn P a → AllByRecursion (λ x. AllIn P (g x)) xs
    → AllIn P (fold (both scope false) a (map g xs))
fold_of-all scope P g a [] ha h = ha
fold_of-all scope P g a (x ∷ xs) ha h = fold_of-all scope P g (both scope false a (g x)) xs (both_of-all scope P a (g x) ha h.0) h.1

smallest-all : (scope : List Binding) (P : Form → Type 0) (g : Form → Option (List Form)) (fs : List Form) → AllByRecursion (λ f. AllIn P (g f)) fs → AllIn P (that_count scope false (map g fs))
smallest-all scope P g [] h = all_in_some P [] tt
smallest-all scope P g (f ∷ fs) h = fold_of-all scope P g (g f) fs h.0 h.1

-- one of a list
abbrev OneOf : (Form → Type 0) → List Form → Type 0
OneOf P [] = ⊥
OneOf P (x ∷ xs) = P x ⊎ OneOf P xs

one_of_at : (P Q : Form → Type 0) → ((o : Form) → P o → Q o) → (fs : List Form) (k : ℕ) (x : Form) → k < length fs → get_or fs k x ≡ x → P x → OneOf Q fs
one_of_at P Q f [] k x l e p = absurd (omega arith)
one_of_at P Q f (y ∷ ys) zero x l e p = inl (f y (subst P (sym e) p))
one_of_at P Q f (y ∷ ys) (suc k) x l e p = inr (one_of_at P Q f ys k x (omega arith) e p)

one_of : (P Q : Form → Type 0) → ((o : Form) → P o → Q o) → (fs : List Form) → Any P fs → OneOf Q fs
one_of P Q f fs (k, x, l, e, p) = one_of_at P Q f fs k x l e p

module _ (scope : List Binding) (v : ℕ → ℤ) (r : HoldsIn scope v) where
  larger-all : (z : ℤ) (a b : Option (List Form)) → AllIn (High v z) a ⊎ AllIn (High v z) b → AllIn (High v z) (both scope true a b)
  larger-all z None b h = λ forms e. cc
  larger-all z (Some a) None h = λ forms e. cc
  larger-all z (Some a) (Some b) (inl h) = union-above scope v r z a b (inl (h a refl))
  larger-all z (Some a) (Some b) (inr h) = union-above scope v r z a b (inr (h b refl))

  fold_larger-all : (z : ℤ) (g : Form → Option (List Form)) (a : Option (List Form)) (fs : List Form) → AllIn (High v z) a ⊎ OneOf (λ f. AllIn (High v z) (g f)) fs → AllIn (High v z) (fold (both scope true) a (map g fs))
  fold_larger-all z g a [] (inl ha) = ha
  fold_larger-all z g a [] (inr none) = absurd none
  fold_larger-all z g a (f ∷ fs) (inl ha) = fold_larger-all z g (both scope true a (g f)) fs (inl (larger-all z a (g f) (inl ha)))
  fold_larger-all z g a (f ∷ fs) (inr (inl hf)) = fold_larger-all z g (both scope true a (g f)) fs (inl (larger-all z a (g f) (inr hf)))
  fold_larger-all z g a (f ∷ fs) (inr (inr later)) = fold_larger-all z g (both scope true a (g f)) fs (inr later)

  largest-all : (z : ℤ) (g : Form → Option (List Form)) (fs : List Form) → OneOf (λ f. AllIn (High v z) (g f)) fs → AllIn (High v z) (that_count scope true (map g fs))
  largest-all z g [] h = absurd h
  largest-all z g (f ∷ fs) (inl hf) = fold_larger-all z g (g f) fs (inl hf)
  largest-all z g (f ∷ fs) (inr later) = fold_larger-all z g (g f) fs (inr later)

  -- ---- a replacement
  abbrev put : Form → ℕ → ℤ → Form → Form
  put form n c other = plus_multiple (without form n) c other

  replaced-up : (form other : Form) (n : ℕ) → pos 0 ≤ℤ factor_of form.terms n → v n ≤ℤ value_of other v → value_of form v ≤ℤ value_of (put form n (factor_of form.terms n) other) v
  replaced-up form other n sign h =
      omega (arith, ints, value_of-plus_multiple (without form n) (factor_of form.terms n) other v, sum_of-without n form.terms v, multiply_order (factor_of form.terms n) (v n) (value_of other v) sign h)

  replaced-down : (form other : Form) (n : ℕ) → factor_of form.terms n ≤ℤ pos 0 → value_of other v ≤ℤ v n → value_of form v ≤ℤ value_of (put form n (factor_of form.terms n) other) v
  replaced-down form other n sign h =
      omega (arith, ints, value_of-plus_multiple (without form n) (factor_of form.terms n) other v, sum_of-without n form.terms v, multiply_order_negative (factor_of form.terms n) (value_of other v) (v n) sign h)

  -- ---- the candidates of a symbol of value x
  counts-all : (z : ℤ) (g : Form → Option (List Form)) (binding : Binding) (c x : ℤ) → Holds binding x v
      → ((other : Form) → pos 0 ≤ℤ c → x ≤ℤ value_of other v → AllIn (High v z) (g other))
      → ((other : Form) → c ≤ℤ pos 0 → value_of other v ≤ℤ x → AllIn (High v z) (g other))
      → AllIn (High v z) (that_count scope (any_may_be binding c) (map g (candidates binding c)))
  counts-all z g (Loop span) (pos k) x holds above below =
      smallest-all scope (High v z) g span.upper (all_weaker (High v x) (λ (o : Form). AllIn (High v z) (g o)) (λ o h. above o (omega (arith, ints)) h) _ (recursion_from_All _ _ holds.1))
  counts-all z g (Loop span) (negsuc k) x holds above below =
      smallest-all scope (High v z) g span.lower (all_weaker (λ (o : Form). value_of o v ≤ℤ x) (λ (o : Form). AllIn (High v z) (g o)) (λ o h. below o (omega (arith, ints)) h) _ (recursion_from_All _ _ holds.0))
  counts-all z g (LetMin forms) (pos k) x holds above below =
      smallest-all scope (High v z) g forms (all_weaker (High v x) (λ (o : Form). AllIn (High v z) (g o)) (λ o h. above o (omega (arith, ints)) h) _ (recursion_from_All _ _ holds.0))
  counts-all z g (LetMin forms) (negsuc k) x holds above below =
      largest-all z g forms (one_of (λ (o : Form). value_of o v ≡ x) (λ (o : Form). AllIn (High v z) (g o)) (λ o h. below o (omega (arith, ints)) (omega (arith, ints))) forms holds.1)
  counts-all z g (LetMax forms) (pos k) x holds above below =
      largest-all z g forms (one_of (λ (o : Form). value_of o v ≡ x) (λ (o : Form). AllIn (High v z) (g o)) (λ o h. above o (omega (arith, ints)) (omega (arith, ints))) forms holds.1)
  counts-all z g (LetMax forms) (negsuc k) x holds above below =
      smallest-all scope (High v z) g forms (all_weaker (λ (o : Form). value_of o v ≤ℤ x) (λ (o : Form). AllIn (High v z) (g o)) (λ o h. below o (omega (arith, ints)) h) _ (recursion_from_All _ _ holds.0))

  at_binding : (z : ℤ) (g : Form → Option (List Form)) (n : ℕ) (found : Option Binding) (c : ℤ) → slice_get scope n ≡ found
      → ((other : Form) → pos 0 ≤ℤ c → v n ≤ℤ value_of other v → AllIn (High v z) (g other))
      → ((other : Form) → c ≤ℤ pos 0 → value_of other v ≤ℤ v n → AllIn (High v z) (g other))
      → AllIn (High v z) (bounds_at scope found c g)
  at_binding z g n None c e above below = all_in_some (High v z) [] tt
  at_binding z g n (Some binding) c e above below = counts-all z g binding c (v n) (r n binding e) above below

  chained-all : (z : ℤ) (b : Bool) (next : Form) (f : Form → Option (List Form)) → AllIn (High v z) (f next) → AllIn (High v z) (option_and_then f (if b then Some next else None))
  chained-all z true next f h = h
  chained-all z false next f h = λ forms e. cc

  module _ (inner : List ℕ) where
    itself-all : (z : ℤ) (form : Form) → z ≤ℤ value_of form v → AllIn (High v z) (Some (bounds_itself inner form))
    itself-all z form h = all_in_some (High v z) (bounds_itself inner form)
        (either_way (λ (fs : List Form). AllByRecursion (High v z) fs) (names_inner inner form) [] (form ∷ []) (λ t. tt) (λ t. (h, tt)))

    pub below-above : (n : ℕ) (form : Form) (z : ℤ) → z ≤ℤ value_of form v → AllIn (High v z) (bounds_below scope inner n form)
    below-above zero form z h = itself-all z form h
    below-above (suc n) form z h =
        either_way (λ (found : Option (List Form)). AllIn (High v z) found) (is_eliminated inner n (factor_of form.terms n)) _ _
        (λ some. at_binding z _ n (slice_get scope n) (factor_of form.terms n) refl
        (λ other sign l. chained-all z _ (put form n (factor_of form.terms n) other) (λ next. bounds_below scope inner n next)
        (below-above n (put form n (factor_of form.terms n) other) z (let up = replaced-up form other n sign l in omega (arith, ints, h, up))))
        (λ other sign l. chained-all z _ (put form n (factor_of form.terms n) other) (λ next. bounds_below scope inner n next)
        (below-above n (put form n (factor_of form.terms n) other) z (let up = replaced-down form other n sign l in omega (arith, ints, h, up)))))
        (λ none. below-above n form z h)

    pub eliminated-above : (form : Form) (z : ℤ) → z ≤ℤ value_of form v → AllIn (High v z) (eliminated scope inner form)
    eliminated-above form z h =
        either_way (λ (found : Option (List Form)). AllIn (High v z) found) (is_within_limits form) _ None
        (λ within. either_way (λ (found : Option (List Form)). AllIn (High v z) found) (nat_le (replacements_below scope inner (length scope) form) 4096) _ (Some [])
        (λ few. below-above (length scope) form z h) (λ many. all_in_some (High v z) [] tt))
        (λ outside. λ forms e. cc)
