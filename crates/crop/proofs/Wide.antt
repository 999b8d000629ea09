-- What holds of an algorithm that is well formed but for its extents.
use Rattle.std.proofs.Common.{◌≡◌, ℕ, suc, ◌≤◌, Bool, true, false, List, [], ◌∷◌, ◌++◌, length, take, Option, Some, None, IsSome, ℤ, pos, refl, sym, ap, ◌∙◌, subst, arith, inl, inr}
use Rattle.std.specs.Prelude.{map, flat_map, All, slice_get, slice_index, unwrap_or, if◌then◌else◌, MatchOption, nat_le}
use Rattle.std.specs.List.{AllByRecursion}
use Rattle.std.proofs.lemmas.Bool.Decides.{nat_tests}
use Rattle.std.proofs.lemmas.List.Elements.{recursion_from_All, All-from_recursion}
use Rattle.std.proofs.lemmas.Option.{slice_get_within, slice_get_cases, unwrap_or-slice_get}
use Rattle.numeric.specs.declared.ty.Ty.{Ty}
use Rattle.numeric.specs.declared.ty.Ty.TheVariants.{I32}
use Rattle.numeric.specs.Wrap.{IsOf}
use Rattle.tree.specs.Term.{Term}
use Rattle.meaning.specs.Image.View.{AreExtents}
use Rattle.meaning.specs.Image.Raster.{sample, is_within, place, HasRaster}
use Rattle.meaning.specs.Algorithm.{Change, Function, Algorithm}
use Rattle.meaning.specs.Names.{same_name, is_among}
use Rattle.meaning.specs.Conditions.{callable, names_in, IsExpression, IsFunction, IsUpdate}
use Rattle.meaning.specs.Functions.{AreSamples}
use Rattle.meaning.specs.Value.{input_calls}
use Rattle.meaning.proofs.Calls.{callable_input, callable_none}
use Rattle.meaning.proofs.Types.{AnswersAre, zero_is_of}
use Rattle.algo.specs.Scoping.Standing.{calls_of}
use Rattle.lin.specs.declared.span.Span1.{Span1}
use Rattle.lin.proofs.TermLemmas.{all_weaker}
use Rattle.bounds.specs.Projection.Unions.{united}
use Rattle.crop.specs.Inference.Regions.{regions_of}
use Rattle.crop.specs.Inference.Needed.{callable_before, callable_through, with_domain, names_beside, needed}
use Rattle.crop.specs.Inference.Sound.{ContainsCalls, ContainsUpdate, ContainsFunction}
use Rattle.crop.proofs.OfInference.NeededSound.{contains-needed}
use Rattle.crop.specs.Narrow.{narrow_extent, narrowed, IsScene}
use Rattle.crop.specs.Moving.{Move, against, moved}
use Rattle.crop.specs.Cutting.{Kept, Cut, spans_of, region_named, move_over, lefts_moved, change_cut, function_cut, functions_cut, IsCovered, IsClosedAt}
use Rattle.crop.proofs.Points.{some_bool}
use Rattle.crop.proofs.Samples.{has_raster, raster_of}

-- ---- extents
pub narrow_length : (es : List ℕ) → length (map narrow_extent es) ≡ length es
narrow_length [] = refl
narrow_length (e ∷ es) = ap suc (narrow_length es)

pub scene_raster : (es : List ℕ) → AreExtents (map narrow_extent es) → HasRaster es
scene_raster es h = raster_of (map narrow_extent es) es (sym (narrow_length es)) (has_raster (map narrow_extent es) h)

pub scene_some : (es : List ℕ) → AreExtents (map narrow_extent es) → 1 ≤ length es
scene_some [] h = absurd h
scene_some (w ∷ es) h = omega arith

wide_small : (n : ℕ) (b c : Bool) → nat_le n 8192 ≡ b → nat_le n 16777216 ≡ c → (if b then n else (if c then 1 else n)) ≤ 8192 → n ≤ 16777216
wide_small n true c d e l = omega (arith, l)
wide_small n false true d e l = grind (arith, nat_tests)
wide_small n false false d e l = omega (arith, l)

extent_small : (n : ℕ) → narrow_extent n ≤ 8192 → n ≤ 16777216
extent_small n l = wide_small n (nat_le n 8192) (nat_le n 16777216) refl refl l

three_small : (c n : ℕ) → narrow_extent c ≡ n → n ≡ 3 → narrow_extent c ≤ 8192
three_small c n e k = omega (arith, e, k)

-- each extent is one of i32 by far
abbrev pub AreFew : List ℕ → Type 0
AreFew = AllByRecursion (λ n. n ≤ 16777216)

pub scene_few : (es : List ℕ) → AreExtents (map narrow_extent es) → AreFew es
scene_few [] h = tt
scene_few (w ∷ []) h = (extent_small w h.1, tt)
scene_few (w ∷ v ∷ []) h = (extent_small w h.0.1, (extent_small v h.1.1, tt))
scene_few (w ∷ v ∷ c ∷ []) h = let k = h.2 in (extent_small w h.0.1, (extent_small v h.1.1, (extent_small c (three_small c (narrow_extent c) refl k), tt)))
scene_few (w ∷ v ∷ c ∷ d ∷ es) h = absurd h

-- ---- what can be called
abbrev input_entry : Algorithm → List ℕ → ℕ → Option (Ty × ℕ)
input_entry a name n = elim (same_name a.input name) [ true ↦ Some (a.input_ty, n) | false ↦ None ]

abbrev entry_or : Function → List ℕ → Option (Ty × ℕ) → Option (Ty × ℕ)
entry_or f name o = elim (same_name f.name name) [ true ↦ Some (f.ty, length f.variables) | false ↦ o ]

module _ (a : Algorithm) where
  alike_at : (fs : List Function) (name : List ℕ) → callable (narrowed a) fs name ≡ callable a fs name
  alike_at [] name = ap (input_entry a name) (narrow_length a.input_extents)
  alike_at (f ∷ fs) name = ap (entry_or f name) (alike_at fs name)

  pub alike : (fs : List Function) → callable (narrowed a) fs ≡ callable a fs
  alike fs = λ i name. alike_at fs name i

  -- ---- functions
  wide_update : (before : List Function) (f : Function) (u : Change) → IsUpdate (narrowed a) before f u → IsUpdate a before f u
  wide_update before f u h = record {
    domain = h.domain;
    names = h.names;
    places = h.places;
    left = subst (λ (c : List ℕ → Option (Ty × ℕ)). All (IsExpression (names_in f u) c I32) u.at) (alike before) h.left;
    kept = h.kept;
    right = subst (λ (c : List ℕ → Option (Ty × ℕ)). IsExpression (names_in f u) c f.ty u.value) (alike (before ++ f ∷ [])) h.right;
  }

  wide_is_function : (before : List Function) (f : Function) → IsFunction (narrowed a) before f → IsFunction a before f
  wide_is_function before f h = record {
    some = h.some;
    few = h.few;
    names = h.names;
    pure = subst (λ (c : List ℕ → Option (Ty × ℕ)). IsExpression f.variables c f.ty f.value) (alike before) h.pure;
    few_updates = h.few_updates;
    updates = All-from_recursion (IsUpdate a before f) f.changes (all_weaker (IsUpdate (narrowed a) before f) (IsUpdate a before f) (wide_update before f) f.changes
        (recursion_from_All (IsUpdate (narrowed a) before f) f.changes h.updates));
  }

  -- ---- what is needed
  abbrev needed_by : (List ℕ → Option (Ty × ℕ)) → (List ℕ → Option (Ty × ℕ)) → ℕ → List ℕ → List Span1 → Option (List Span1)
  needed_by before through k callee region = elim (slice_get a.functions k) [
    | Some f ↦ united [] (regions_of [] before f.variables region [] callee (calls_of f.value)
        ++ flat_map (λ u. flat_map (λ e. regions_of [] before (names_beside f.variables u.ranges) (with_domain region u.ranges) [] callee (calls_of e)) u.at
        ++ regions_of [] through (names_beside f.variables u.ranges) (with_domain region u.ranges) [] callee (calls_of u.value)) f.changes)
    | None ↦ Some []
  ]

  pub same_needed : (k : ℕ) (callee : List ℕ) (region : List Span1) → needed [] (narrowed a) k callee region ≡ needed [] a k callee region
  same_needed k callee region = λ i. needed_by (alike (take k a.functions) i) (alike (take (suc k) a.functions) i) k callee region

  module _ (k : ℕ) (callee : List ℕ) (region found : List Span1) (f : Function) where
    contains_update : (u : Change) → ContainsUpdate [] [] (narrowed a) k callee region found f u → ContainsUpdate [] [] a k callee region found f u
    contains_update u h = record {
      left = subst (λ (c : List ℕ → Option (Ty × ℕ)). All (λ e. ContainsCalls [] [] (is_among (names_in f u)) c (names_in f u) (with_domain region u.ranges) callee e found) u.at)
          (alike (take k a.functions)) h.left;
      right = subst (λ (c : List ℕ → Option (Ty × ℕ)). ContainsCalls [] [] (is_among (names_in f u)) c (names_in f u) (with_domain region u.ranges) callee u.value found)
          (alike (take (suc k) a.functions)) h.right;
    }

    contains_alike : ContainsFunction [] [] (narrowed a) k callee region found f → ContainsFunction [] [] a k callee region found f
    contains_alike h = record {
      pure = subst (λ (c : List ℕ → Option (Ty × ℕ)). ContainsCalls [] [] (is_among f.variables) c f.variables region callee f.value found) (alike (take k a.functions)) h.pure;
      updates = All-from_recursion (ContainsUpdate [] [] a k callee region found f) f.changes (all_weaker (ContainsUpdate [] [] (narrowed a) k callee region found f)
          (ContainsUpdate [] [] a k callee region found f) contains_update f.changes (recursion_from_All (ContainsUpdate [] [] (narrowed a) k callee region found f) f.changes h.updates));
    }

  -- ---- a scene
  module _ (w : IsScene a) where
    pub scene_function : (k : ℕ) (f : Function) → slice_get a.functions k ≡ Some f → IsFunction a (take k a.functions) f
    scene_function k f e = wide_is_function (take k a.functions) f (w.functions k f e)

    pub scene_contains : (k : ℕ) (f : Function) → slice_get a.functions k ≡ Some f → (callee : List ℕ) (region found : List Span1) → needed [] a k callee region ≡ Some found
        → ContainsFunction [] [] a k callee region found f
    scene_contains k f e callee region found h =
        contains_alike k callee region found f (subst (λ (u : Option Function). MatchOption u ⊥ (ContainsFunction [] [] (narrowed a) k callee region found)) e
        (contains-needed (narrowed a) w k [] [] callee region found (slice_get_within a.functions k f e) (same_needed k callee region ∙ h)))

  -- ---- the input's answers
  sample_is : (t : Ty) (extents samples : List ℕ) (p : List ℤ) → All (λ s. IsOf t (pos s)) samples → IsOf t (sample extents samples p)
  sample_is t extents samples p h =
      elim (is_within extents p) as (λ (b : Bool). IsOf t (if b then pos (slice_index samples (place extents p)) else pos 0)) [
        | true ↦ elim (slice_get_cases samples (place extents p)).1 [
          | inl g ↦ h (place extents p) 0 g.1
          | inr g ↦
              let none : slice_index samples (place extents p) ≡ 0 = sym (unwrap_or-slice_get samples (place extents p) 0) ∙ ap (λ (o : Option ℕ). unwrap_or o 0) g.1 in
              subst (λ (n : ℕ). IsOf t (pos n)) (sym none) (zero_is_of t)
        ]
        | false ↦ zero_is_of t
      ]

  some_sig : {X : Type 0} {x y : X} → Some x ≡ Some y → x ≡ y
  some_sig e = cc

  pub scene_answers : (samples : List ℕ) → AreSamples a samples → AnswersAre (callable a []) (input_calls a samples)
  scene_answers samples in_type name s e at inside = elim (some_bool (same_name a.input name)) [
    | inl test ↦
        let same : (a.input_ty, length a.input_extents) ≡ s = some_sig (sym (callable_input a name test) ∙ e) in
        let ty : a.input_ty ≡ s.0 = ap (λ (x : Ty × ℕ). x.0) same in
        record { ty = ty; within = subst (λ (t : Ty). IsOf t (sample a.input_extents samples at)) ty (sample_is a.input_ty a.input_extents samples at in_type) }
    | inr test ↦ let none = sym (callable_none a name test) ∙ e in absurd (cc)
  ]

  -- ---- cuts, which don't look at the extents of what is cut
  module _ (cut : Cut) where
    lefts_same : (m : Move) (os : List ℤ) (es : List Term) → lefts_moved (narrowed a) cut m os es ≡ lefts_moved a cut m os es
    lefts_same m os [] = refl
    lefts_same m [] (e ∷ es) = ap (λ r. moved m (pos 0) e ∷ r) (lefts_same m [] es)
    lefts_same m (o ∷ os) (e ∷ es) = ap (λ r. moved m (against o) e ∷ r) (lefts_same m os es)

    abbrev change_by : (List ℕ → Option (Ty × ℕ)) → (List ℕ → Option (Ty × ℕ)) → Function → Kept → Change → Change
    change_by before through f kept u = record {
      ranges = u.ranges;
      at = lefts_moved a cut (move_over a cut before f.variables kept.origin (names_beside f.variables u.ranges) (with_domain (spans_of kept.region) u.ranges)) kept.origin u.at;
      value = moved (move_over a cut through f.variables kept.origin (names_beside f.variables u.ranges) (with_domain (spans_of kept.region) u.ranges)) (pos 0) u.value;
    }

    abbrev function_by : (List ℕ → Option (Ty × ℕ)) → (List ℕ → Option (Ty × ℕ)) → Function → Kept → Function
    function_by before through f kept = record {
      name = f.name;
      ty = f.ty;
      variables = f.variables;
      value = moved (move_over a cut before f.variables kept.origin f.variables (spans_of kept.region)) (pos 0) f.value;
      changes = map (change_by before through f kept) f.changes;
    }

    changes_same : (k : ℕ) (f : Function) (kept : Kept) (us : List Change)
        → map (change_cut (narrowed a) cut k f kept) us ≡ map (change_by (callable_before (narrowed a) k) (callable_through (narrowed a) k) f kept) us
    changes_same k f kept [] = refl
    changes_same k f kept (u ∷ us) = λ i. record {
      ranges = u.ranges;
      at = lefts_same (move_over a cut (callable_before (narrowed a) k) f.variables kept.origin (names_beside f.variables u.ranges) (with_domain (spans_of kept.region) u.ranges)) kept.origin u.at i;
      value = moved (move_over a cut (callable_through (narrowed a) k) f.variables kept.origin (names_beside f.variables u.ranges) (with_domain (spans_of kept.region) u.ranges)) (pos 0) u.value;
    } ∷ changes_same k f kept us i

    pub function_cut_alike : (k : ℕ) (f : Function) (kept : Kept) → function_cut (narrowed a) cut k f kept ≡ function_cut a cut k f kept
    function_cut_alike k f kept =
        (λ i. record {
          name = f.name;
          ty = f.ty;
          variables = f.variables;
          value = moved (move_over a cut (callable_before (narrowed a) k) f.variables kept.origin f.variables (spans_of kept.region)) (pos 0) f.value;
          changes = changes_same k f kept f.changes i;
        })
        ∙ (λ i. function_by (alike (take k a.functions) i) (alike (take (suc k) a.functions) i) f kept)

    pub functions_cut_alike : (k : ℕ) (fs : List Function) (ks : List (Option Kept)) → functions_cut (narrowed a) cut k fs ks ≡ functions_cut a cut k fs ks
    functions_cut_alike k [] ks = refl
    functions_cut_alike k (f ∷ fs) [] = refl
    functions_cut_alike k (f ∷ fs) (None ∷ ks) = functions_cut_alike (suc k) fs ks
    functions_cut_alike k (f ∷ fs) (Some kept ∷ ks) = λ i. function_cut_alike k f kept i ∷ functions_cut_alike (suc k) fs ks i

    pub closed_alike : (k : ℕ) (f : Function) (kept : Kept) → IsClosedAt (narrowed a) cut k f kept → IsClosedAt a cut k f kept
    closed_alike k f kept h = record {
      rank = h.rank;
      covers = λ name s. subst (IsCovered (region_named a cut name)) (same_needed k name (spans_of kept.region))
          (h.covers name (subst (λ (c : List ℕ → Option (Ty × ℕ)). IsSome (c name)) (sym (alike (take (suc k) a.functions))) s));
    }
