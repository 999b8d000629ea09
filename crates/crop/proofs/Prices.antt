-- What the calls of one definition of a function cost, moved.
use Rattle.std.proofs.Common.{◌≡◌, ℕ, ◌+◌, ◌≤◌, List, [], ◌∷◌, ◌++◌, length, true, Option, Some, None, IsSome, IsTrue, ℤ, pos, refl, sym, ap, ◌∙◌}
use Rattle.std.specs.Prelude.{map, sum_by}
use Rattle.std.specs.List.{AllByRecursion}
use Rattle.std.proofs.lemmas.List.Elements.{recursion_from_All}
use Rattle.std.proofs.lemmas.List.Sums.{sum_by-cons}
use Rattle.numeric.specs.declared.ty.Ty.{Ty}
use Rattle.numeric.specs.declared.ty.Ty.TheVariants.{I32}
use Rattle.numeric.specs.Wrap.{IsOf}
use Rattle.tree.specs.Term.{Term, Call, Terms, End, More}
use Rattle.tree.specs.Meaning.{numbers_of}
use Rattle.tree.specs.Names.{AreAsTold, IsIndex, TakesCall}
use Rattle.tree.specs.Typing.{type_of, are_indices, is_index, shape_type, answer_type, index_count}
use Rattle.tree.specs.Uses.{Asked, asked, calls_made, calls_made_by_all}
use Rattle.tree.specs.Laws.{CanBeAsked}
use Rattle.tree.proofs.Typed.{both_true, some_only_if, some_of, index-is}
use Rattle.tree.proofs.Soundness.{does_as_typed}
use Rattle.meaning.specs.Algorithm.{Function, Algorithm}
use Rattle.meaning.specs.Names.{is_among, bound}
use Rattle.meaning.specs.Value.{Calls}
use Rattle.meaning.specs.Count.{Costs, cost_of}
use Rattle.lin.specs.declared.span.Span1.{Span1}
use Rattle.lin.specs.Spans.{IsInRegion}
use Rattle.bounds.proofs.Fitting.{shape}
use Rattle.crop.specs.Moving.{Move, moved, all_moved, shifted, against, moved_point}
use Rattle.crop.specs.Cutting.{Kept, Cut, origin_named, region_named, move_over, lefts_moved, InsideIf}
use Rattle.crop.proofs.Definitions.{none, number_stays, lefts_stay}
use Rattle.crop.proofs.Costs.{cost_moved}

all_left : {X : Type 0} (P : X → Type 0) (xs ys : List X) → AllByRecursion P (xs ++ ys) → AllByRecursion P xs
all_left P [] ys h = tt
all_left P (x ∷ xs) ys h = (h.0, all_left P xs ys h.1)

all_right : {X : Type 0} (P : X → Type 0) (xs ys : List X) → AllByRecursion P (xs ++ ys) → AllByRecursion P ys
all_right P [] ys h = h
all_right P (x ∷ xs) ys h = all_right P xs ys h.1

takes_some : (o : Option (Ty × ℕ)) (n : ℕ) → TakesCall o n → IsSome o
takes_some None n h = absurd h
takes_some (Some s) n h = refl

abbrev first_of : List ℤ → ℤ
first_of [] = pos 0
first_of (z ∷ zs) = z

module _ (a : Algorithm) (cut : Cut) (f : Function) (kept : Kept) (functions : List ℕ → Option (Ty × ℕ)) (names : List (List ℕ)) (p q : List ℤ) (region : List Span1) (calls others : Calls)
    (told : AreAsTold (is_among names) functions (bound names p) calls)
    (inside : IsInRegion region none (map (bound names p) names))
    (within : (name : List ℕ) → IsOf I32 (bound names q name))
    (moves : (name : List ℕ) → IsTrue (is_among names name) → bound names p name ≡ shifted (bound f.variables kept.origin name) (bound names q name))
    (arity : (name : List ℕ) (n : ℕ) → TakesCall (functions name) n → 1 ≤ n)
    (agree : (name : List ℕ) (at : List ℤ) → AllByRecursion IsIndex at → IsSome (functions name) → InsideIf (region_named a cut name) at
    → others name (moved_point (map against (origin_named a cut name)) at) ≡ calls name at)
    (costs prices : Costs)
    (priced : (name : List ℕ) (at : List ℤ) → AllByRecursion IsIndex at → IsSome (functions name) → InsideIf (region_named a cut name) at
    → prices name (moved_point (map against (origin_named a cut name)) at) ≡ costs name at) where
  abbrev m : Move
  m = move_over a cut functions f.variables kept.origin names region

  abbrev Typed : Term → Type 0
  Typed e = IsSome (type_of (is_among names) functions e)

  -- each call of what can be called is of a point that is asked for
  abbrev pub Reached : List Asked → Type 0
  Reached cs = (callee : List ℕ) → IsSome (functions callee) → AllByRecursion (λ c. c.name ≡ callee → 1 ≤ length c.at → InsideIf (region_named a cut callee) c.at) cs

  left : (xs ys : List Asked) → Reached (xs ++ ys) → Reached xs
  left xs ys h callee s = all_left (λ c. c.name ≡ callee → 1 ≤ length c.at → InsideIf (region_named a cut callee) c.at) xs ys (h callee s)

  right : (xs ys : List Asked) → Reached (xs ++ ys) → Reached ys
  right xs ys h callee s = all_right (λ c. c.name ≡ callee → 1 ≤ length c.at → InsideIf (region_named a cut callee) c.at) xs ys (h callee s)

  -- the indices of a call
  numbered : (os : List ℤ) (at : Terms) → are_indices (is_among names) functions at ≡ true → Reached (calls_made_by_all (bound names p) calls at)
      → numbers_of (bound names q) others (all_moved m os at) ≡ moved_point (map against os) (numbers_of (bound names p) calls at)
  numbered [] End h r = refl
  numbered (o ∷ os) End h r = refl
  numbered [] (More x rest) h r =
      let b = both_true (is_index (type_of (is_among names) functions x)) (are_indices (is_among names) functions rest) h in
      let typed_x = some_of (Some I32) (type_of (is_among names) functions x) (sym (index-is (type_of (is_among names) functions x) b.0)) refl in
      let rx = left (calls_made (bound names p) calls x) (calls_made_by_all (bound names p) calls rest) r in
      let rr = right (calls_made (bound names p) calls x) (calls_made_by_all (bound names p) calls rest) r in
      let here = number_stays a cut f kept functions names p q region calls others told inside within moves arity agree x typed_x rx in
      λ i. here i ∷ numbered [] rest b.1 rr i
  numbered (o ∷ os) (More x rest) h r =
      let b = both_true (is_index (type_of (is_among names) functions x)) (are_indices (is_among names) functions rest) h in
      let is = index-is (type_of (is_among names) functions x) b.0 in
      let rx = left (calls_made (bound names p) calls x) (calls_made_by_all (bound names p) calls rest) r in
      let rr = right (calls_made (bound names p) calls x) (calls_made_by_all (bound names p) calls rest) r in
      let here = ap first_of (lefts_stay a cut f kept functions names p q region calls others told inside within moves arity agree (o ∷ []) (x ∷ []) (is, tt) (rx, tt)) in
      λ i. here i ∷ numbered os rest b.1 rr i

  -- a call costs what it did
  alike : (name : List ℕ) (at : Terms) → Typed (Call name at) → Reached (calls_made (bound names p) calls (Call name at))
      → prices name (numbers_of (bound names q) others (all_moved m (origin_named a cut name) at)) ≡ costs name (numbers_of (bound names p) calls at)
  alike name at h r =
      let at_numbers = numbers_of (bound names p) calls at in
      let before = calls_made_by_all (bound names p) calls at in
      let here = right before (asked name at_numbers ∷ []) r in
      let can = (does_as_typed (is_among names) functions (bound names p) calls told (Call name at) (shape_type functions (Call name at)) (shape (is_among names) functions (Call name at) h)).calls in
      let cr = all_right (CanBeAsked functions) before (asked name at_numbers ∷ []) (recursion_from_All (CanBeAsked functions) (calls_made (bound names p) calls (Call name at)) can) in
      let indices = recursion_from_All IsIndex at_numbers cr.0.indices in
      let some = takes_some (functions name) (length at_numbers) cr.0.known in
      let long = arity name (length at_numbers) cr.0.known in
      let typed = (some_only_if (are_indices (is_among names) functions at) (answer_type (functions name) (index_count at)) h).0 in
      ap (prices name) (numbered (origin_named a cut name) at typed (left before (asked name at_numbers ∷ []) r)) ∙ priced name at_numbers indices some ((here name some).0 refl long)

  any_cost : (e : Term) → Typed e → Reached (calls_made (bound names p) calls e) → (c : ℤ) → cost_of (bound names q) others prices (moved m c e) ≡ cost_of (bound names p) calls costs e
  any_cost e h r c = cost_moved m (is_among names) (bound names p) (bound names q) calls others costs prices Reached left right alike e h r c

  pub cost_stays : (e : Term) → Typed e → Reached (calls_made (bound names p) calls e) → cost_of (bound names q) others prices (moved m (pos 0) e) ≡ cost_of (bound names p) calls costs e
  cost_stays e h r = any_cost e h r (pos 0)

  -- the left side of an update
  pub lefts_cost : (os : List ℤ) (es : List Term) → AllByRecursion (λ e. type_of (is_among names) functions e ≡ Some I32) es
      → AllByRecursion (λ e. Reached (calls_made (bound names p) calls e)) es
      → sum_by (cost_of (bound names q) others prices) (lefts_moved a cut m os es) ≡ sum_by (cost_of (bound names p) calls costs) es
  lefts_cost [] [] t r = refl
  lefts_cost (o ∷ os) [] t r = refl
  lefts_cost [] (e ∷ es) t r =
      let h = some_of (Some I32) (type_of (is_among names) functions e) (sym t.0) refl in
      sum_by-cons (cost_of (bound names q) others prices) (moved m (pos 0) e) (lefts_moved a cut m [] es) ∙ (λ i. any_cost e h r.0 (pos 0) i + lefts_cost [] es t.1 r.1 i)
      ∙ sym (sum_by-cons (cost_of (bound names p) calls costs) e es)
  lefts_cost (o ∷ os) (e ∷ es) t r =
      let h = some_of (Some I32) (type_of (is_among names) functions e) (sym t.0) refl in
      sum_by-cons (cost_of (bound names q) others prices) (moved m (against o) e) (lefts_moved a cut m os es) ∙ (λ i. any_cost e h r.0 (against o) i + lefts_cost os es t.1 r.1 i)
      ∙ sym (sum_by-cons (cost_of (bound names p) calls costs) e es)
