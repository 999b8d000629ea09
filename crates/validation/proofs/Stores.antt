-- Stores without flaws are of definitions.
use Rattle.std.proofs.Common.{◌≡◌, ℕ, zero, suc, ◌≤◌, List, [], ◌∷◌, ◌++◌, take, drop, map, length, Bool, true, false, Option, Some, None, refl, ap, ◌∙◌, subst, arith}
use Rattle.std.specs.Prelude.{◌&&◌, ◌||◌, ◌==◌, not, slice_get, if◌then◌else◌}
use Rattle.std.specs.List.{list_all, list_any}
use Rattle.std.specs.Option.{option_map}
use Rattle.std.proofs.lemmas.Bool.{false≢true}
use Rattle.tree.specs.Term.{Term}
use Rattle.meaning.specs.Algorithm.{Change, Function, Algorithm}
use Rattle.meaning.specs.Names.{same_name}
use Rattle.meaning.specs.Conditions.{function_named as named_in}
use Rattle.meaning.proofs.Cases.{same_name_is}
use Rattle.plan.specs.Plan.{Coordinate, Statement, Seq, For, Let, First, Guard, Alloc, Fetch, Store, Publish, Statements, Empty, Then, Group, Plan}
use Rattle.plan.specs.Certificate.Certificate.{Certificate}
use Rattle.soundness.specs.Origins.{Outline}
use Rattle.soundness.specs.Given.{function_named}
use Rattle.soundness.specs.Obligations.{is_form, is_covered_line, is_covered, is_covered_block}
use Rattle.soundness.proofs.Refines.{and_parts, eq_true}
use Rattle.meaning.specs.Inlining.PutIn.{put_in, calls_updates}
use Rattle.validation.specs.Stored.Definitions.{Parts, parts_of, Definition, Pure, Step, parts_named, definition_in, function_in, stored_in}
use Rattle.validation.specs.Stored.Alike.{same_term}
use Rattle.validation.specs.Stored.Stored.{are_for, has_names, as_read, is_put_in, is_defined}
use Rattle.validation.specs.Groups.Lines.{Here, before, after, in_later, in_loop, inside, is_empty, flaws, block_flaws, definition_of, definition_is_named, definition_is_stored, store_is_small}
use Rattle.validation.proofs.Allotted.{drop_end}
use Rattle.validation.proofs.Same.{term_is}
use Rattle.validation.proofs.Flawless.{fine, none_in}

pub take_end : {A : Type 0} (xs : List A) (i : ℕ) → length xs ≤ i → take i xs ≡ xs
take_end [] zero h = refl
take_end [] (suc i) h = refl
take_end (x ∷ xs) zero h = absurd (omega (arith, h))
take_end (x ∷ xs) (suc i) h = ap (λ ys. x ∷ ys) (take_end xs i (omega (arith, h)))

asked : (s d : Bool) → s ≡ true → (not s || d) ≡ true → d ≡ true
asked true d t h = h
asked false d t h = absurd (false≢true t)

pub all_for : (at : List Coordinate) (vs : List (List ℕ)) → are_for at vs ≡ true → map (λ c. c.variable) at ≡ vs
all_for [] [] h = refl
all_for [] (v ∷ vs) h = absurd (false≢true h)
all_for (c ∷ cs) [] h = absurd (false≢true h)
all_for (c ∷ cs) (v ∷ vs) h = let k = and_parts (same_name c.variable v) (are_for cs vs) h in λ i. same_name_is c.variable v k.0 i ∷ all_for cs vs k.1 i

-- the parts of a list together
pub mapped_parts : (at : List Coordinate) (n : ℕ) → map (λ c. c.variable) (take n at) ++ map (λ c. c.variable) (drop n at) ≡ map (λ c. c.variable) at
mapped_parts [] zero = refl
mapped_parts [] (suc n) = refl
mapped_parts (c ∷ cs) zero = refl
mapped_parts (c ∷ cs) (suc n) = ap (λ ys. c.variable ∷ ys) (mapped_parts cs n)

long_for : (at : List Coordinate) (vs : List (List ℕ)) → are_for at vs ≡ true → length at ≡ length vs
long_for [] [] h = refl
long_for [] (v ∷ vs) h = absurd (false≢true h)
long_for (c ∷ cs) [] h = absurd (false≢true h)
long_for (c ∷ cs) (v ∷ vs) h = ap suc (long_for cs vs (and_parts (same_name c.variable v) (are_for cs vs) h).1)

-- ---- which definition

pub pure_is : (w : Option Parts) (m : Definition) → definition_in w zero ≡ Some m → (q : Parts) × (w ≡ Some q) × (m ≡ Pure q)
pure_is None m h = absurd (cc)
pure_is (Some q) m h = (q, refl, cc)

step_found : (q : Parts) (o : Option Change) (m : Definition) → option_map (Step q) o ≡ Some m → (u : Change) × (o ≡ Some u) × (m ≡ Step q u)
step_found q None m h = absurd (cc)
step_found q (Some u) m h = (u, refl, cc)

pub step_is : (w : Option Parts) (i : ℕ) (m : Definition) → definition_in w (suc i) ≡ Some m → (q : Parts) × (u : Change) × (w ≡ Some q) × (slice_get q.changes i ≡ Some u) × (m ≡ Step q u)
step_is None i m h = absurd (cc)
step_is (Some q) i m h = let k = step_found q (slice_get q.changes i) m h in (q, k.0, refl, k.1, k.2)

pub named_same : (fs : List Function) (name : List ℕ) → function_named fs name ≡ named_in fs name
named_same [] name = refl
named_same (f ∷ fs) name = of (same_name f.name name) (named_same fs name)
  where
    of : (v : Bool) → function_named fs name ≡ named_in fs name → (if v then Some f else function_named fs name) ≡ (elim v [ true ↦ Some f | false ↦ named_in fs name ])
    of true e = refl
    of false e = e

pub named_parts : (o : Option Function) (q : Parts) → option_map parts_of o ≡ Some q → (f : Function) × (o ≡ Some f) × (parts_of f ≡ q)
named_parts None q h = absurd (cc)
named_parts (Some f) q h = (f, refl, cc)

module _ (a : Algorithm) (p : Plan) (o : Outline) where
  pub put_is : (d e : Term) → is_put_in a p o d e ≡ true → as_read o e ≡ put_in a (stored_in a p) d
  put_is d e h = term_is (as_read o e) (put_in a (stored_in a p) d) (and_parts (not (calls_updates a (stored_in a p) d)) (same_term (as_read o e) (put_in a (stored_in a p) d)) h).1

  -- a store without flaws
  pub record StoreIsFine (b k : ℕ) (at : List Coordinate) (e : Term) : Type 0 where
    pub m : Definition
    pub known : definition_in (parts_named a (o.setting.buffer_function b)) k ≡ Some m
    pub named : has_names m at ≡ true
    pub dimensions : o.setting.dimensions b ≡ length (function_in m).variables
    pub defined : is_defined a p o m at e ≡ true

  module _ (c : Certificate) (g : Group) where
    store_at : (here : Here) (b k : ℕ) (at : List Coordinate) (e : Term) (w : Option Definition) → definition_in (parts_named a (o.setting.buffer_function b)) k ≡ w → definition_is_named a p c g o w here b at e ≡ true
        → definition_is_stored a p c g o w at e ≡ true → StoreIsFine b k at e
    store_at here b k at e None is n s = absurd (false≢true n)
    store_at here b k at e (Some m) is n s =
        let x = and_parts (has_names m at) _ n in
        let y = and_parts (o.setting.dimensions b == length (function_in m).variables) _ x.1 in
        record { m = m; known = is; named = x.0; dimensions = eq_true (o.setting.dimensions b) (length (function_in m).variables) y.0; defined = s }

    pub store_fine : (here : Here) (b k : ℕ) (at : List Coordinate) (e : Term) → flaws a p c g o (Store b k at e) here ≡ [] → StoreIsFine b k at e
    store_fine here b k at e h =
        let f = fine _ _ _ _ _ h in
        store_at here b k at e (definition_of a p c g o b k) refl (and_parts (list_any (λ x. x == b) here.buffers) _ f.names).1
        (asked (store_is_small a p c g o at e) (definition_is_stored a p c g o (definition_of a p c g o b k) at e) f.limits f.definition)

-- ---- stores of pure definitions have forms alone

covered_pure : (n : ℕ) (at : List Coordinate) → length at ≤ n → list_all is_form at ≡ true → is_covered_line zero (take n at) (drop n at) ≡ true
covered_pure n at l h = (λ i. is_covered_line zero (take_end at n l i) (drop_end at n l i)) ∙ h

-- what is known of a pure store
pub record PureStore (a : Algorithm) (p : Plan) (o : Outline) (b : ℕ) (at : List Coordinate) (e : Term) : Type 0 where
  pub q : Parts
  pub known : parts_named a (o.setting.buffer_function b) ≡ Some q
  pub names : map (λ c. c.variable) at ≡ q.variables
  pub long : length at ≤ o.setting.dimensions b
  pub forms : list_all is_form at ≡ true
  pub value : as_read o e ≡ put_in a (stored_in a p) q.value

pub pure_store : (a : Algorithm) (p : Plan) (o : Outline) (b : ℕ) (at : List Coordinate) (e : Term) → StoreIsFine a p o b zero at e → PureStore a p o b at e
pure_store a p o b at e f =
    let k = pure_is (parts_named a (o.setting.buffer_function b)) f.m f.known in
    let q = k.0 in
    let named : are_for at q.variables ≡ true = subst (λ (m : Definition). has_names m at ≡ true) k.2 f.named in
    let wide : o.setting.dimensions b ≡ length q.variables = f.dimensions ∙ ap (λ (m : Definition). length (function_in m).variables) k.2 in
    let defined : (list_all is_form at && is_put_in a p o q.value e) ≡ true = subst (λ (m : Definition). is_defined a p o m at e ≡ true) k.2 f.defined in
    let both = and_parts (list_all is_form at) (is_put_in a p o q.value e) defined in
    let same : length at ≡ length q.variables = long_for at q.variables named in
    record {
      q = q;
      known = k.1;
      names = all_for at q.variables named;
      long = omega (arith, wide, same);
      forms = both.0;
      value = put_is a p o q.value e both.1;
    }

module _ (a : Algorithm) (p : Plan) (c : Certificate) (g : Group) (o : Outline) where
  store_covered : (b k : ℕ) (at : List Coordinate) (e : Term) → StoreIsFine a p o b k at e → is_covered_line k (take (o.setting.dimensions b) at) (drop (o.setting.dimensions b) at) ≡ true
  store_covered b zero at e f = let s = pure_store a p o b at e f in covered_pure (o.setting.dimensions b) at s.long s.forms
  store_covered b (suc k) at e f = refl

  mutual
    pub covered : (s : Statement) (here : Here) → flaws a p c g o s here ≡ [] → is_covered o.setting s ≡ true
    covered (Seq all) here h = block_covered all here h
    covered (For i x kind body) here h = covered body (in_loop i here) (none_in _ _ h).1
    covered (Let i pick ls) here h = refl
    covered (First i s r) here h =
        let k = none_in _ _ (none_in _ _ h).1 in
        let first = covered s (inside here) k.0 in
        let others = covered r (in_later s here) k.1 in
        λ j. first j && others j
    covered (Guard low high body) here h = covered body (inside here) (none_in _ _ h).1
    covered (Alloc b f places) here h = refl
    covered (Fetch b k region) here h = refl
    covered (Store b k at e) here h = store_covered b k at e (store_fine a p o c g here b k at e h)
    covered (Publish k) here h = refl

    block_covered : (s : Statements) (here : Here) → block_flaws a p c g o s here ≡ [] → is_covered_block o.setting s ≡ true
    block_covered Empty here h = refl
    block_covered (Then s rest) here h =
        let k = none_in _ _ h in
        let first = covered s (before (is_empty rest) here) k.0 in
        let others = block_covered rest (after s here) k.1 in
        λ i. first i && others i
