-- What a group's body without flaws does stores definitions.
use Rattle.std.proofs.Common.{◌≡◌, ℕ, zero, suc, List, [], ◌∷◌, ◌++◌, take, drop, map, length, Bool, true, false, refl, sym, ap, ◌∙◌, subst}
use Rattle.std.specs.Prelude.{◌&&◌, not, slice_get, ℤ, flat_map, if◌then◌else◌, int_le}
use Rattle.std.specs.List.{list_all}
use Rattle.std.proofs.lemmas.Bool.{false≢true}
use Rattle.tree.specs.Term.{Term, Terms, Call}
use Rattle.tree.specs.Substitution.{with_calls}
use Rattle.meaning.specs.Algorithm.{Algorithm}
use Rattle.meaning.specs.Conditions.{is_variable, names_in}
use Rattle.plan.specs.Plan.{Index, At, Found, Coordinate, Statement, Seq, For, Let, First, Guard, Alloc, Fetch, Store, Publish, Statements, Empty, Then, Group, Plan}
use Rattle.plan.specs.Symbols.{Symbols, bind, form_value, largest, turns, points}
use Rattle.plan.specs.Certificate.Certificate.{Certificate}
use Rattle.plan.specs.Semantics.Actions.{Action, Take, Put, Give, Target, index_target, target, fixed, are_fixed, action_for, store_action, stored, actions, block_actions, after as symbols_after}
use Rattle.plan.specs.Semantics.Run.{Source, Input, ByClaim, Unknown}
use Rattle.soundness.specs.Origins.{Outline, Given}
use Rattle.soundness.specs.Given.{given_of}
use Rattle.soundness.specs.Obligations.{has_form, is_form}
use Rattle.soundness.specs.Stored.{source_name, as_calls, IsNamed, IsLeftSide, IsDefinition, AreDefinitions}
use Rattle.soundness.proofs.Refines.{and_parts}
use Rattle.meaning.specs.Inlining.PutIn.{put_in}
use Rattle.validation.specs.Stored.Definitions.{Parts, Definition, parts_named, function_in, stored_in}
use Rattle.validation.specs.Stored.Stored.{are_for, has_names, name_read, as_read, is_put_in, is_left, are_left, is_defined}
use Rattle.validation.specs.Groups.Lines.{Here, before, after, in_later, in_loop, inside, is_empty, flaws, block_flaws}
use Rattle.validation.proofs.Allotted.{drop_end}
use Rattle.validation.proofs.Flawless.{none_in}
use Rattle.validation.proofs.Stores.{take_end, all_for, mapped_parts, StoreIsFine, store_fine, pure_store, step_is, put_is, named_same, named_parts}

not_true : (b : Bool) → not b ≡ true → b ≡ false
not_true true h = absurd (false≢true h)
not_true false h = refl

module _ (a : Algorithm) (p : Plan) (c : Certificate) (g : Group) (o : Outline) (samples : List ℕ) where
  abbrev G : Given
  G = given_of a samples o

  abbrev put : Term → Term
  put = put_in a (stored_in a p)

  -- a load is read by one name
  name_same : (s : Source) (name : List ℕ) → source_name G s name ≡ name_read o s name
  name_same Input name = refl
  name_same (ByClaim k) name = refl
  name_same Unknown name = refl

  read_same : (e : Term) → as_calls G e ≡ as_read o e
  read_same e = λ i. with_calls (λ (name : List ℕ) (at : Terms). Call (name_same (o.source name) name i) at) e

  -- ---- actions one after another

  joined : (xs ys : List Action) → AreDefinitions a put G xs → AreDefinitions a put G ys → AreDefinitions a put G (xs ++ ys)
  joined [] ys h k = k
  joined (x ∷ xs) ys h k = (h.0, joined xs ys h.1 k)

  chosen : (v : Bool) (xs ys : List Action) → AreDefinitions a put G xs → AreDefinitions a put G ys → AreDefinitions a put G (if v then xs else ys)
  chosen true xs ys h k = h
  chosen false xs ys h k = k

  repeated : (f : ℤ → List Action) (zs : List ℤ) → ((z : ℤ) → AreDefinitions a put G (f z)) → AreDefinitions a put G (flat_map f zs)
  repeated f [] h = tt
  repeated f (z ∷ zs) h = joined (f z) (flat_map f zs) (h z) (repeated f zs h)

  taken : (b : ℕ) (f : List ℕ) (ps : List (List ℤ)) → AreDefinitions a put G (map (Take b f) ps)
  taken b f [] = tt
  taken b f (x ∷ xs) = (tt, taken b f xs)

  given : (k : ℕ) (ps : List (List ℤ)) → AreDefinitions a put G (map (Give k) ps)
  given k [] = tt
  given k (x ∷ xs) = (tt, given k xs)

  -- ---- a pure store

  module _ (s : Symbols) where
    fixed_one : (x : Index) (ts : List Target) → has_form x ≡ true → are_fixed ts ≡ true → are_fixed (index_target s x ∷ ts) ≡ true
    fixed_one (At l) ts h k = k
    fixed_one (Found e) ts h k = absurd (false≢true h)

    all_fixed : (cs : List Coordinate) → list_all is_form cs ≡ true → are_fixed (map (target s) cs) ≡ true
    all_fixed [] h = refl
    all_fixed (x ∷ xs) h = let k = and_parts (is_form x) (list_all is_form xs) h in fixed_one x.index (map (target s) xs) k.0 (all_fixed xs k.1)

    put_action : (b : ℕ) (f : List ℕ) (names : List (List ℕ)) (ts : List Target) (over : List ℤ) (e : Term) → over ≡ [] → are_fixed ts ≡ true
        → IsDefinition a put G (Put b f names (map fixed ts) e) → IsDefinition a put G (store_action b f zero names ts over e)
    put_action b f names ts [] e h t d = subst (λ (v : Bool). IsDefinition a put G (action_for v b f zero names ts [] e)) (sym t) d
    put_action b f names ts (z ∷ zs) e h t d = absurd (cc)

    pure_defined : (b : ℕ) (at : List Coordinate) (e : Term) → StoreIsFine a p o b zero at e → IsDefinition a put G (stored o.setting b zero at e s)
    pure_defined b at e fine =
        let st = pure_store a p o b at e fine in
        let n = o.setting.dimensions b in
        let name = o.setting.buffer_function b in
        let f = named_parts _ st.q st.known in
        let named : IsNamed a name f.0 = named_same a.functions name ∙ f.1 in
        let over : map (λ (x : Coordinate). fixed (target s x)) (drop n at) ≡ [] = ap (λ (cs : List Coordinate). map (λ (x : Coordinate). fixed (target s x)) cs) (drop_end at n st.long) in
        let whole : are_fixed (map (target s) (take n at)) ≡ true = ap (λ (cs : List Coordinate). are_fixed (map (target s) cs)) (take_end at n st.long) ∙ all_fixed at st.forms in
        put_action b name (map (λ x. x.variable) at) (map (target s) (take n at)) (map (λ x. fixed (target s x)) (drop n at)) e over whole
        (f.0, named, st.names ∙ ap (λ (q : Parts). q.variables) (sym f.2), read_same e ∙ st.value ∙ ap (λ (q : Parts). put q.value) (sym f.2))

    -- ---- a store of an update

    left_one : (v : List ℕ) (d : Term) (x : Index) (vs : List (List ℕ)) (ds : List Term) (ts : List Target) → is_left a p o v d x ≡ true → IsLeftSide a put G vs ds ts
        → IsLeftSide a put G (v ∷ vs) (d ∷ ds) (index_target s x ∷ ts)
    left_one v d (At l) vs ds ts h rest = (h, rest)
    left_one v d (Found e) vs ds ts h rest =
        let k = and_parts (not (is_variable v d)) (is_put_in a p o d e) h in
        (not_true (is_variable v d) k.0, read_same e ∙ put_is a p o d e k.1, rest)

    left_side : (vs : List (List ℕ)) (ds : List Term) (cs : List Coordinate) → are_left a p o vs ds cs ≡ true → IsLeftSide a put G vs ds (map (target s) cs)
    left_side [] [] [] h = tt
    left_side [] [] (x ∷ xs) h = absurd (false≢true h)
    left_side [] (d ∷ ds) cs h = absurd (false≢true h)
    left_side (v ∷ vs) [] cs h = absurd (false≢true h)
    left_side (v ∷ vs) (d ∷ ds) [] h = absurd (false≢true h)
    left_side (v ∷ vs) (d ∷ ds) (x ∷ xs) h =
        let k = and_parts (is_left a p o v d x.index) (are_left a p o vs ds xs) h in
        left_one v d x.index vs ds (map (target s) xs) k.0 (left_side vs ds xs k.1)

    step_defined : (b i : ℕ) (at : List Coordinate) (e : Term) → StoreIsFine a p o b (suc i) at e → IsDefinition a put G (stored o.setting b (suc i) at e s)
    step_defined b i at e fine =
        let n = o.setting.dimensions b in
        let name = o.setting.buffer_function b in
        let k = step_is (parts_named a name) i fine.m fine.known in
        let q = k.0 in
        let u = k.1 in
        let f = named_parts _ q k.2 in
        let m = length q.variables in
        let named : IsNamed a name f.0 = named_same a.functions name ∙ f.1 in
        let wide : n ≡ m = fine.dimensions ∙ ap (λ (d : Definition). length (function_in d).variables) k.4 in
        let spelled : (are_for (take m at) q.variables && are_for (drop m at) (map (λ d. d.variable) u.ranges)) ≡ true = subst (λ (d : Definition). has_names d at ≡ true) k.4 fine.named in
        let both = and_parts (are_for (take m at) q.variables) (are_for (drop m at) (map (λ d. d.variable) u.ranges)) spelled in
        let names : map (λ (x : Coordinate). x.variable) at ≡ names_in f.0 u =
        sym (mapped_parts at m) ∙ (λ j. all_for (take m at) q.variables both.0 j ++ all_for (drop m at) (map (λ d. d.variable) u.ranges) both.1 j) ∙ ap (λ (w : Parts). w.variables ++ map (λ d. d.variable) u.ranges) (sym f.2) in
        let defined : (are_left a p o q.variables u.at (take m at) && (list_all is_form (drop m at) && is_put_in a p o u.value e)) ≡ true = subst (λ (d : Definition). is_defined a p o d at e ≡ true) k.4 fine.defined in
        let parts = and_parts (are_left a p o q.variables u.at (take m at)) (list_all is_form (drop m at) && is_put_in a p o u.value e) defined in
        let right = and_parts (list_all is_form (drop m at)) (is_put_in a p o u.value e) parts.1 in
        let left : IsLeftSide a put G (f.0).variables u.at (map (target s) (take n at)) =
        subst (λ (w : Parts). IsLeftSide a put G w.variables u.at (map (target s) (take n at))) (sym f.2)
        (subst (λ (j : ℕ). IsLeftSide a put G q.variables u.at (map (target s) (take j at))) (sym wide) (left_side q.variables u.at (take m at) parts.0)) in
        (f.0, i, u, named, refl, ap (λ (w : Parts). slice_get w.changes i) f.2 ∙ k.3, names, left, read_same e ∙ put_is a p o u.value e right.1)

    store_defined : (b k : ℕ) (at : List Coordinate) (e : Term) → StoreIsFine a p o b k at e → IsDefinition a put G (stored o.setting b k at e s)
    store_defined b zero at e fine = pure_defined b at e fine
    store_defined b (suc i) at e fine = step_defined b i at e fine

  -- ---- a body

  mutual
    pub defined : (t : Statement) (here : Here) (s : Symbols) → flaws a p c g o t here ≡ [] → AreDefinitions a put G (actions o.setting t s)
    defined (Seq all) here s h = block_defined all here s h
    defined (For i x kind body) here s h =
        repeated (λ z. actions o.setting body (bind s i z (int_le z (largest s x.lower)))) (turns s x) (λ z. defined body (in_loop i here) (bind s i z (int_le z (largest s x.lower))) (none_in _ _ h).1)
    defined (Let i pick ls) here s h = tt
    defined (First i t r) here s h =
        let k = none_in _ _ (none_in _ _ h).1 in
        chosen (s.first i) (actions o.setting t s) (actions o.setting r s) (defined t (inside here) s k.0) (defined r (in_later t here) s k.1)
    defined (Guard low high body) here s h =
        chosen (int_le (form_value low s) (form_value high s)) (actions o.setting body s) [] (defined body (inside here) s (none_in _ _ h).1) tt
    defined (Alloc b f places) here s h = (tt, tt)
    defined (Fetch b k region) here s h = taken b (o.setting.group_function k) (points s region)
    defined (Store b k at e) here s h = (store_defined s b k at e (store_fine a p o c g here b k at e h), tt)
    defined (Publish k) here s h = given k (o.setting.own s)

    block_defined : (t : Statements) (here : Here) (s : Symbols) → block_flaws a p c g o t here ≡ [] → AreDefinitions a put G (block_actions o.setting t s)
    block_defined Empty here s h = tt
    block_defined (Then t rest) here s h =
        let k = none_in _ _ h in
        joined (actions o.setting t s) (block_actions o.setting rest (symbols_after t s)) (defined t (before (is_empty rest) here) s k.0) (block_defined rest (after t here) (symbols_after t s) k.1)
