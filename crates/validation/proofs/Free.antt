-- Stores without flaws are of definitions that come to no updates of unstored functions.
use Rattle.std.proofs.Common.{◌≡◌, ℕ, zero, suc, List, [], ◌∷◌, take, drop, length, Bool, true, false, Option, Some, refl, sym, ap, ◌∙◌, subst}
use Rattle.std.specs.Prelude.{◌&&◌, not, slice_get, MatchOption, All}
use Rattle.std.specs.List.{list_all, AllByRecursion}
use Rattle.std.proofs.lemmas.Bool.{false≢true}
use Rattle.std.proofs.lemmas.List.Elements.{All-from_recursion}
use Rattle.tree.specs.Term.{Term, Number, Name, Call, Minus, Binary, Clamp, Cast, Choice}
use Rattle.meaning.specs.Algorithm.{Change, Function, Algorithm}
use Rattle.meaning.specs.Conditions.{is_variable}
use Rattle.plan.specs.Plan.{Index, At, Found, Coordinate, Statement, Seq, For, Let, First, Guard, Alloc, Fetch, Store, Publish, Statements, Empty, Then, Group, Plan}
use Rattle.plan.specs.Certificate.Certificate.{Certificate}
use Rattle.soundness.specs.Origins.{Outline}
use Rattle.soundness.specs.Given.{function_named}
use Rattle.soundness.specs.Obligations.{is_form}
use Rattle.soundness.proofs.Refines.{and_parts}
use Rattle.meaning.specs.Inlining.PutIn.{put_in, calls_updates}
use Rattle.meaning.specs.Inlining.Laws.{TakesNoUpdates}
use Rattle.validation.specs.Stored.Definitions.{Parts, Definition, parts_named, stored_in}
use Rattle.validation.specs.Stored.Alike.{same_term}
use Rattle.validation.specs.Stored.Stored.{as_read, is_put_in, is_left, are_left, is_defined}
use Rattle.validation.specs.Groups.Free.{DefinitionIsFree, IsFree, IsFreeBlock}
use Rattle.validation.specs.Groups.Lines.{Here, before, after, in_later, in_loop, inside, is_empty, flaws, block_flaws}
use Rattle.validation.proofs.Flawless.{none_in}
use Rattle.validation.proofs.Stores.{StoreIsFine, store_fine, pure_is, step_is, named_same, named_parts}

not_true : (b : Bool) → not b ≡ true → b ≡ false
not_true true h = absurd (false≢true h)
not_true false h = refl

module _ (a : Algorithm) (p : Plan) (o : Outline) where
  abbrev Free : Term → Type 0
  Free d = TakesNoUpdates a (stored_in a p) d

  takes_none : (d e : Term) → is_put_in a p o d e ≡ true → Free d
  takes_none d e h = not_true (calls_updates a (stored_in a p) d) (and_parts (not (calls_updates a (stored_in a p) d)) (same_term (as_read o e) (put_in a (stored_in a p) d)) h).0

  variable_free : (v : List ℕ) (d : Term) → is_variable v d ≡ true → Free d
  variable_free v (Name name) h = refl
  variable_free v (Number t n) h = absurd (false≢true h)
  variable_free v (Call name at) h = absurd (false≢true h)
  variable_free v (Minus x) h = absurd (false≢true h)
  variable_free v (Binary op x y) h = absurd (false≢true h)
  variable_free v (Clamp x l u) h = absurd (false≢true h)
  variable_free v (Cast t x) h = absurd (false≢true h)
  variable_free v (Choice x y z) h = absurd (false≢true h)

  one_free : (v : List ℕ) (d : Term) (x : Index) → is_left a p o v d x ≡ true → Free d
  one_free v d (At l) h = variable_free v d h
  one_free v d (Found e) h = takes_none d e (and_parts (not (is_variable v d)) (is_put_in a p o d e) h).1

  left_free : (vs : List (List ℕ)) (ds : List Term) (cs : List Coordinate) → are_left a p o vs ds cs ≡ true → AllByRecursion Free ds
  left_free [] [] [] h = tt
  left_free [] [] (x ∷ xs) h = absurd (false≢true h)
  left_free [] (d ∷ ds) cs h = absurd (false≢true h)
  left_free (v ∷ vs) [] cs h = absurd (false≢true h)
  left_free (v ∷ vs) (d ∷ ds) [] h = absurd (false≢true h)
  left_free (v ∷ vs) (d ∷ ds) (x ∷ xs) h =
      let k = and_parts (is_left a p o v d x.index) (are_left a p o vs ds xs) h in
      (one_free v d x.index k.0, left_free vs ds xs k.1)

  store_free : (b k : ℕ) (at : List Coordinate) (e : Term) → StoreIsFine a p o b k at e → DefinitionIsFree a (stored_in a p) (function_named a.functions (o.setting.buffer_function b)) k
  store_free b zero at e fine =
      let name = o.setting.buffer_function b in
      let k = pure_is (parts_named a name) fine.m fine.known in
      let q = k.0 in
      let f = named_parts _ q k.1 in
      let defined : (list_all is_form at && is_put_in a p o q.value e) ≡ true = subst (λ (m : Definition). is_defined a p o m at e ≡ true) k.2 fine.defined in
      let free : Free (f.0).value = subst (λ (w : Parts). Free w.value) (sym f.2) (takes_none q.value e (and_parts (list_all is_form at) (is_put_in a p o q.value e) defined).1) in
      subst (λ (x : Option Function). DefinitionIsFree a (stored_in a p) x zero) (sym (named_same a.functions name ∙ f.1)) free
  store_free b (suc i) at e fine =
      let name = o.setting.buffer_function b in
      let k = step_is (parts_named a name) i fine.m fine.known in
      let q = k.0 in
      let u = k.1 in
      let f = named_parts _ q k.2 in
      let m = length q.variables in
      let defined : (are_left a p o q.variables u.at (take m at) && (list_all is_form (drop m at) && is_put_in a p o u.value e)) ≡ true = subst (λ (d : Definition). is_defined a p o d at e ≡ true) k.4 fine.defined in
      let parts = and_parts (are_left a p o q.variables u.at (take m at)) (list_all is_form (drop m at) && is_put_in a p o u.value e) defined in
      let right = and_parts (list_all is_form (drop m at)) (is_put_in a p o u.value e) parts.1 in
      let at_u : slice_get (f.0).changes i ≡ Some u = ap (λ (w : Parts). slice_get w.changes i) f.2 ∙ k.3 in
      let free : Free u.value × All Free u.at = (takes_none u.value e right.1, All-from_recursion Free u.at (left_free q.variables u.at (take m at) parts.0)) in
      subst (λ (x : Option Function). DefinitionIsFree a (stored_in a p) x (suc i)) (sym (named_same a.functions name ∙ f.1))
      (subst (λ (x : Option Change). MatchOption x (Unit {0}) (λ w. Free w.value × All Free w.at)) (sym at_u) free)

  module _ (c : Certificate) (g : Group) where
    mutual
      pub is_free : (s : Statement) (here : Here) → flaws a p c g o s here ≡ [] → IsFree a (stored_in a p) o.setting s
      is_free (Seq all) here h = block_is_free all here h
      is_free (For i x kind body) here h = is_free body (in_loop i here) (none_in _ _ h).1
      is_free (Let i pick ls) here h = tt
      is_free (First i s r) here h =
          let k = none_in _ _ (none_in _ _ h).1 in (is_free s (inside here) k.0, is_free r (in_later s here) k.1)
      is_free (Guard low high body) here h = is_free body (inside here) (none_in _ _ h).1
      is_free (Alloc b f places) here h = tt
      is_free (Fetch b k region) here h = tt
      is_free (Store b k at e) here h = store_free b k at e (store_fine a p o c g here b k at e h)
      is_free (Publish k) here h = tt

      block_is_free : (s : Statements) (here : Here) → block_flaws a p c g o s here ≡ [] → IsFreeBlock a (stored_in a p) o.setting s
      block_is_free Empty here h = tt
      block_is_free (Then s rest) here h =
          let k = none_in _ _ h in
          (is_free s (before (is_empty rest) here) k.0, block_is_free rest (after s here) k.1)
