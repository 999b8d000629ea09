-- What a nest does whose line stores a pure definition, and where.
use Rattle.std.proofs.Common.{◌≡◌, ℕ, zero, suc, Bool, true, false, List, [], ◌∷◌, ◌++◌, map, Some, None, refl, sym, ap, ◌∙◌, subst, inl, inr, arith}
use Rattle.std.specs.Prelude.{ℤ, ◌≤ℤ◌, ◌==◌, ◌&&◌, not, if◌then◌else◌, IsSome}
use Rattle.std.specs.List.{list_any, list_all}
use Rattle.std.proofs.lemmas.Int.{ints}
use Rattle.lin.specs.Forms.{Form}
use Rattle.lin.specs.Search.{is_empty}
use Rattle.tree.specs.Term.{Term}
use Rattle.meaning.specs.Names.{same_name}
use Rattle.plan.specs.declared.stmt.Places.{Places}
use Rattle.plan.specs.declared.stmt.Places.TheVariants.{From, Folded}
use Rattle.plan.specs.Plan.{Index, At, Found, Coordinate, Statement, Seq, For, Let, First, Guard, Alloc, Fetch, Store, Publish}
use Rattle.plan.specs.Symbols.{Symbols, form_value}
use Rattle.plan.specs.Rooms.{Room, Straight, Wrapped, room, place}
use Rattle.plan.specs.Semantics.Actions.{Setting, Put, Target, fixed, index_target, target, are_fixed, action_for, store_action, actions}
use Rattle.plan.specs.Certificate.Certificate.{Claim}
use Rattle.soundness.specs.Origins.{Given}
use Rattle.soundness.specs.Claims.{In, written}
use Rattle.soundness.specs.Obligations.{Binder, Ranged, Picked, Passed, Respects, Lies, LieIn, Rules, Suited, exactly, has_form, is_form}
use Rattle.soundness.specs.Shown.{are_seated}
use Rattle.soundness.specs.Nests.Tests.{left_of, over_of}
use Rattle.soundness.proofs.Forms.{is_not}
use Rattle.soundness.proofs.Refines.{and_parts, eq_true, name_true}
use Rattle.soundness.proofs.Shown.{all_seats}
use Rattle.soundness.proofs.Windows.{Fills}
use Rattle.tails.specs.Steps.{along, binds, Keeps}
use Rattle.tails.specs.Moves.{is_outer}
use Rattle.tails.specs.Laws.{point_at}
use Rattle.tails.specs.Apart.{form_of, index_form, is_apart, is_steady}
use Rattle.tails.specs.Stored.{Stored, is_pure, forms_at, has_places}
use Rattle.tails.proofs.Lets.{outer_value}
use Rattle.tails.proofs.Walk.{outer_picked, respects_both}
use Rattle.tails.proofs.Distinct.{outer_all}
use Rattle.tails.proofs.Spines.{Owns}

-- ---- the store

index_fixed : (s : Symbols) (x : Index) (ts : List Target) → has_form x ≡ true → are_fixed ts ≡ true → are_fixed (index_target s x ∷ ts) ≡ true
index_fixed s (At l) ts h k = k
index_fixed s (Found e) ts h k = absurd (cc h)

forms_fixed : (s : Symbols) (cs : List Coordinate) → list_all is_form cs ≡ true → are_fixed (map (target s) cs) ≡ true
forms_fixed s [] h = refl
forms_fixed s (c ∷ cs) h = let k = and_parts (is_form c) (list_all is_form cs) h in index_fixed s c.index (map (target s) cs) k.0 (forms_fixed s cs k.1)

put_of : (b : ℕ) (f : List ℕ) (names : List (List ℕ)) (e : Term) (s : Symbols) (left over : List Coordinate) → list_all is_form left ≡ true → is_empty over ≡ true →
    store_action b f 0 names (map (target s) left) (map (λ c. fixed (target s c)) over) e ≡ Put b f names (map fixed (map (target s) left)) e
put_of b f names e s left [] h k = ap (λ v. action_for v b f 0 names (map (target s) left) [] e) (forms_fixed s left h)
put_of b f names e s left (c ∷ cs) h k = absurd (cc k)

index_value : (s : Symbols) (x : Index) → fixed (index_target s x) ≡ form_value (index_form x) s
index_value s (At l) = refl
index_value s (Found e) = refl

point_put : (s : Symbols) (cs : List Coordinate) → map fixed (map (target s) cs) ≡ point_at (map form_of cs) s
point_put s [] = refl
point_put s (c ∷ cs) = ap (λ z. z ∷ map fixed (map (target s) cs)) (index_value s c.index) ∙ ap (λ zs. form_value (form_of c) s ∷ zs) (point_put s cs)

exact_lies : (s : Symbols) (fs : List Form) → LieIn s (map exactly fs) (point_at fs s)
exact_lies s [] = tt
exact_lies s (f ∷ fs) = (((omega (arith, ints), tt), (omega (arith, ints), tt)), exact_lies s fs)

in_head : (v : Bool) (q x : List ℤ) → v ≡ true → q ≡ x → In q (if v then x ∷ [] else [])
in_head true q x e k = inl k
in_head false q x e k = absurd (cc e)

only_head : (v : Bool) (q x : List ℤ) → In q (if v then x ∷ [] else []) → q ≡ x
only_head true q x (inl e) = e
only_head true q x (inr m) = absurd m
only_head false q x m = absurd m

module _ (setting : Setting) (claim : Claim) where
  -- what a line is whose coordinates are these forms
  pub record IsPureStore (line : Statement) (fs : List Form) : Type 0 where
    pub buffer : ℕ
    pub at : List Coordinate
    pub value : Term
    pub is : line ≡ Store buffer 0 at value
    pub pure : claim.definition ≡ 0
    pub name : setting.buffer_function buffer ≡ claim.function
    pub forms : list_all is_form (left_of setting buffer at) ≡ true
    pub alone : is_empty (over_of setting buffer at) ≡ true
    pub same : map form_of (left_of setting buffer at) ≡ fs

  store_pure : (b : ℕ) (at : List Coordinate) (e : Term) (fs : List Form) (v : Bool) → is_pure setting claim b at ≡ v →
      (if v then Some (map form_of (left_of setting b at)) else None) ≡ Some fs → IsPureStore (Store b 0 at e) fs
  store_pure b at e fs false h k = absurd (cc k)
  store_pure b at e fs true h k =
      let h1 = and_parts (claim.definition == 0) _ h in
      let h2 = and_parts (same_name (setting.buffer_function b) claim.function) _ h1.1 in
      let h3 = and_parts (list_all is_form (left_of setting b at)) (is_empty (over_of setting b at)) h2.1 in
      record {
        buffer = b;
        at = at;
        value = e;
        is = refl;
        pure = eq_true claim.definition 0 h1.0;
        name = name_true (setting.buffer_function b) claim.function h2.0;
        forms = h3.0;
        alone = h3.1;
        same = some_same _ fs k;
      }
    where
      some_same : (xs ys : List Form) → Some xs ≡ Some ys → xs ≡ ys
      some_same xs ys e = cc e

  pub line_pure : (line : Statement) (fs : List Form) → forms_at setting claim line ≡ Some fs → IsPureStore line fs
  line_pure (Store b zero at e) fs h = store_pure b at e fs (is_pure setting claim b at) refl h
  line_pure (Store b (suc k) at e) fs h = absurd (cc h)
  line_pure (Fetch c g region) fs h = absurd (cc h)
  line_pure (Seq all) fs h = absurd (cc h)
  line_pure (For i x kind body) fs h = absurd (cc h)
  line_pure (Let i pick ls) fs h = absurd (cc h)
  line_pure (First i a c) fs h = absurd (cc h)
  line_pure (Guard low high body) fs h = absurd (cc h)
  line_pure (Alloc c f places) fs h = absurd (cc h)
  line_pure (Publish c) fs h = absurd (cc h)

  -- a line that writes the point that the forms are, and no other
  pub record IsStoring (line : Statement) (fs : List Form) : Type 0 where
    pub fills : (u : Symbols) → Fills claim.buffer claim.function (actions setting line u)
    pub writes : (u : Symbols) → In (point_at fs u) (written claim.buffer (actions setting line u))
    pub alone : (u : Symbols) (q : List ℤ) → In q (written claim.buffer (actions setting line u)) → q ≡ point_at fs u

  pub line_stores : (line : Statement) (fs : List Form) → Owns setting claim.buffer claim.function line → IsPureStore line fs → IsStoring line fs
  line_stores line fs own p = record {
    fills = λ u. subst (Fills b claim.function) (sym (does u)) ((λ _. p.name), tt);
    writes = λ u.
        subst (λ xs. In (point_at fs u) (written b xs)) (sym (does u))
        (in_head (p.buffer == b) (point_at fs u) (map fixed (map (target u) left)) mine (sym (point u)));
    alone = λ u q m. only_head (p.buffer == b) q (map fixed (map (target u) left)) (subst (λ xs. In q (written b xs)) (does u) m) ∙ point u;
  }
    where
      b : ℕ
      b = claim.buffer

      left : List Coordinate
      left = left_of setting p.buffer p.at

      names : List (List ℕ)
      names = map (λ (x : Coordinate). x.variable) p.at

      mine : (p.buffer == b) ≡ true
      mine = subst (Owns setting b claim.function) p.is own

      does : (u : Symbols) → actions setting line u ≡ Put p.buffer (setting.buffer_function p.buffer) names (map fixed (map (target u) left)) p.value ∷ []
      does u =
          ap (λ a. actions setting a u) p.is
          ∙ ap (λ a. a ∷ []) (put_of p.buffer (setting.buffer_function p.buffer) names p.value u left (over_of setting p.buffer p.at) p.forms p.alone)

      point : (u : Symbols) → map fixed (map (target u) left) ≡ point_at fs u
      point u = point_put u left ∙ ap (λ gs. point_at gs u) p.same

-- ---- what is around the steps

apart_respects : (cs : List Binder) (s t : Symbols) → Keeps cs s t → (bs : List Binder) → list_all (is_apart cs) bs ≡ true → Respects bs s → Respects bs t
apart_respects cs s t k [] h r = tt
apart_respects cs s t k (Ranged i x ∷ bs) h r =
    let a = and_parts (is_apart cs (Ranged i x)) (list_all (is_apart cs) bs) h in
    let b = and_parts (not (list_any (binds i) cs)) (list_all (is_outer cs) x.lower && list_all (is_outer cs) x.upper) a.0 in
    let c = and_parts (list_all (is_outer cs) x.lower) (list_all (is_outer cs) x.upper) b.1 in
    let same : t.value i ≡ s.value i = k i (is_not (list_any (binds i) cs) b.0) in
    let here : Lies t x (s.value i) = (outer_all (λ v. v ≤ℤ s.value i) cs s t k x.lower c.0 r.0.0, outer_all (λ v. s.value i ≤ℤ v) cs s t k x.upper c.1 r.0.1) in
    (subst (Lies t x) (sym same) here, apart_respects cs s t k bs a.1 r.1)
apart_respects cs s t k (Picked i pick ls ∷ bs) h r =
    let a = and_parts (is_apart cs (Picked i pick ls)) (list_all (is_apart cs) bs) h in
    let b = and_parts (not (list_any (binds i) cs)) (list_all (is_outer cs) ls) a.0 in
    (k i (is_not (list_any (binds i) cs) b.0) ∙ r.0 ∙ sym (outer_picked cs s t k pick ls b.1), apart_respects cs s t k bs a.1 r.1)
apart_respects cs s t k (Passed low high ∷ bs) h r =
    let a = and_parts (is_apart cs (Passed low high)) (list_all (is_apart cs) bs) h in
    let b = and_parts (is_outer cs low) (is_outer cs high) a.0 in
    let first = outer_value cs s t k low b.0 in
    let second = outer_value cs s t k high b.1 in
    let order = r.0 in
    (omega (arith, ints, first, second, order), apart_respects cs s t k bs a.1 r.1)

rooms_stay : (folded : Bool) (cs : List Binder) (s t : Symbols) → Keeps cs s t → (places : List Places) → list_all (is_steady folded cs) places ≡ true →
    map (room t) places ≡ map (room s) places
rooms_stay folded cs s t k [] h = refl
rooms_stay folded cs s t k (From l n ∷ places) h =
    let a = and_parts (is_outer cs l) (list_all (is_steady folded cs) places) h in
    ap (λ v. Straight v n ∷ map (room t) places) (outer_value cs s t k l a.0) ∙ ap (λ rs. Straight (form_value l s) n ∷ rs) (rooms_stay folded cs s t k places a.1)
rooms_stay folded cs s t k (Folded n ∷ places) h =
    ap (λ rs. Wrapped n ∷ rs) (rooms_stay folded cs s t k places (and_parts folded (list_all (is_steady folded cs) places) h).1)

-- at each turn of steps whose points have places
module _ (given : Given) (rules : Rules) (suited : Suited given rules) (bs : List Binder) (s : Symbols) (r : Respects bs s) (folded : Bool) (places : List Places) (n : Stored)
    (h : has_places folded rules bs n places ≡ true) where
  abbrev cs : List Binder
  cs = along n.steps

  parts : ((list_all (is_apart cs) bs && list_all (is_steady folded cs) places) ≡ true) × (are_seated rules (cs ++ bs) (map exactly n.forms) places ≡ true)
  parts = and_parts (list_all (is_apart cs) bs && list_all (is_steady folded cs) places) (are_seated rules (cs ++ bs) (map exactly n.forms) places) h

  pub fixed_parts : (list_all (is_apart cs) bs ≡ true) × (list_all (is_steady folded cs) places ≡ true)
  fixed_parts = and_parts (list_all (is_apart cs) bs) (list_all (is_steady folded cs) places) parts.0

  -- what is around holds too
  pub turn_respects : (t : Symbols) → Keeps cs s t → Respects cs t → Respects (cs ++ bs) t
  turn_respects t k m = respects_both cs bs t m (apart_respects cs s t k bs fixed_parts.0 r)

  -- and the point has a place
  pub turn_seats : (t : Symbols) → Keeps cs s t → Respects (cs ++ bs) t → IsSome (place (map (room s) places) (point_at n.forms t))
  turn_seats t k within =
      subst (λ (rs : List Room). IsSome (place rs (point_at n.forms t))) (rooms_stay folded cs s t k places fixed_parts.1)
      (all_seats rules (cs ++ bs) t (λ x y e. suited.ordered (cs ++ bs) x y t e within) (map exactly n.forms) places parts.1 (point_at n.forms t) (exact_lies t n.forms))
