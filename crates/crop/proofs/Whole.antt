-- All functions of the cut algorithm, and its picture.
use Rattle.std.proofs.Common.{◌≡◌, ℕ, zero, suc, ◌+◌, ◌≤◌, ◌<◌, List, [], ◌∷◌, ◌++◌, length, Bool, true, false, Option, Some, None, IsSome, ℤ, refl, sym, ap, ◌∙◌, subst, arith, inl, inr, zero-add}
use Rattle.std.specs.Prelude.{map, slice_get, slice_index, take, fold, MatchOption}
use Rattle.std.specs.List.{AllByRecursion}
use Rattle.std.proofs.lemmas.Int.{ints}
use Rattle.numeric.specs.declared.ty.Ty.{Ty}
use Rattle.tree.specs.Meaning.{typed}
use Rattle.tree.specs.Names.{IsIndex}
use Rattle.meaning.specs.Image.Raster.{natural, place, sample, sample_count, raster_point, HasRaster}
use Rattle.meaning.specs.Algorithm.{Function, Algorithm}
use Rattle.meaning.specs.Names.{same_name}
use Rattle.meaning.specs.Conditions.{callable, function_named, IsOutput}
use Rattle.meaning.specs.Functions.{AreSamples}
use Rattle.meaning.specs.Value.{Calls, with_function, input_calls, calls_of, output_value, value}
use Rattle.meaning.proofs.Cases.{name_differs, same_name_is}
use Rattle.meaning.proofs.Calls.{callable_hit, callable_miss, callable_other, callable_none, take_one_more, from_take, none_before_is, none_is_input}
use Rattle.meaning.proofs.Types.{AnswersAre}
use Rattle.crop.specs.declared.cut.Stretch.{Stretch}
use Rattle.crop.specs.Inference.Needed.{callable_before}
use Rattle.crop.specs.Narrow.{narrow_extent, IsScene}
use Rattle.crop.specs.Moving.{moved_point}
use Rattle.crop.specs.Cutting.{Kept, Cut, lows, extents_of, origin_of, region_of, kept_named, origin_named, region_named, function_cut, functions_cut, algorithm_cut, cut_samples, IsInBox, InsideIf, HoldsBox, KeepsTile, IsCut}
use Rattle.crop.proofs.Points.{Coordinates, unmoved, some_bool}
use Rattle.crop.proofs.Lists.{all_from}
use Rattle.crop.proofs.Functions.{kept_at, value_moved, with_own, own_agree}
use Rattle.meaning.proofs.Typed.{whole_is}
use Rattle.crop.proofs.Wide.{scene_raster, scene_some, scene_few, scene_function, scene_answers}
use Rattle.crop.proofs.Samples.{cut_sample, raster_tile, put_there, Put, sample_at}
use Rattle.meaning.proofs.Own.{named_at}
use Rattle.meaning.proofs.Places.{on_extents, on_raster}
use Rattle.meaning.specs.Picture.{picture}
use Rattle.std.specs.List.{range_with_len}
use Rattle.std.proofs.lemmas.List.FromFn.{get_or-map-range_with_len, map-range_with_len_more}
use Rattle.tree.specs.declared.value.Value.{Value}

map_range : {X : Type 0} (f g : ℕ → X) (n : ℕ) → ((i : ℕ) → i < n → f i ≡ g i) → map f (range_with_len 0 n) ≡ map g (range_with_len 0 n)
map_range f g zero h = refl
map_range f g (suc n) h =
    let e : n + 1 ≡ suc n = omega arith in
    ap (λ m. map f (range_with_len 0 m)) (sym e) ∙ map-range_with_len_more f 0 n n (zero-add n)
    ∙ (λ i. map_range f g n (λ j l. h j (omega (arith, l))) i ++ h n (omega arith) i ∷ [])
    ∙ sym (map-range_with_len_more g 0 n n (zero-add n)) ∙ ap (λ m. map g (range_with_len 0 m)) e

box_holds : (b ts : List Stretch) (p : List ℤ) → HoldsBox b ts → IsInBox ts p → IsInBox b p
box_holds [] [] p h q = q
box_holds [] (t ∷ ts) p h q = absurd h
box_holds (e ∷ es) [] p h q = absurd h
box_holds (e ∷ es) (t ∷ ts) [] h q = absurd q
box_holds (e ∷ es) (t ∷ ts) (z ∷ zs) h q = let a = h.0 in let b = h.1 in let c = q.0 in let d = q.1 in (omega (arith, ints, a, c), omega (arith, ints, b, d), box_holds es ts zs h.2 q.2)

named_called : (a : Algorithm) (fs : List Function) (name : List ℕ) (f : Function) → function_named fs name ≡ Some f → IsSome (callable a fs name)
named_called a [] name f e = absurd (no_function e)
  where
    no_function : {X : Type 0} {x : X} → None ≡ Some x → ⊥
    no_function e = cc
named_called a (g ∷ gs) name f e = elim (some_bool (same_name g.name name)) [
  | inl t ↦ subst (λ (o : Option (Ty × ℕ)). IsSome o) (sym (callable_hit a g gs name t)) refl
  | inr t ↦ subst (λ (o : Option (Ty × ℕ)). IsSome o) (sym (callable_miss a g gs name t))
      (named_called a gs name f (sym (ap (λ b. elim b [ true ↦ Some g | false ↦ function_named gs name ]) t) ∙ e))
]

next : (k j : ℕ) → k + suc j ≡ suc k + j
next k j = omega arith

take_all : (fs : List Function) → take (0 + length fs) fs ≡ fs
take_all fs = ap (λ n. take n fs) (zero-add (length fs)) ∙ by fs
  where
    by : (gs : List Function) → take (length gs) gs ≡ gs
    by [] = refl
    by (g ∷ gs) = ap (λ hs. g ∷ hs) (by gs)

module _ (a : Algorithm) (w : IsScene a) (cut : Cut) (cl : IsCut a cut) where
  some : 1 ≤ length a.input_extents
  some = scene_some a.input_extents w.input_extents

  many : (k : ℕ) → AllByRecursion (λ u. 1 ≤ length u.variables) (take k a.functions)
  many k = all_from (λ u. 1 ≤ length u.variables) (take k a.functions) (λ g j e. (w.functions j g (from_take a.functions k j g e).1).some)

  -- calls of what stands before the k-th function are alike where they are asked for
  abbrev pub Agree : ℕ → Calls → Calls → Type 0
  Agree k calls others = (name : List ℕ) (at : List ℤ) → AllByRecursion IsIndex at → IsSome (callable_before a k name) → InsideIf (region_named a cut name) at
      → others name (unmoved (origin_named a cut name) at) ≡ calls name at

  module _ (k : ℕ) (f : Function) (e : slice_get a.functions k ≡ Some f) (calls others : Calls) (answers : AnswersAre (callable_before a k) calls) (agree : Agree k calls others) where
    step_kept : (kept : Kept) → slice_get cut.kept k ≡ Some (Some kept) → Agree (suc k) (with_function calls f) (with_function others (function_cut a cut k f kept))
    step_kept kept g = own_agree a w cut k f e kept g (cl.closed k f kept e g) some (many k) calls others answers agree (value calls f) (value others (function_cut a cut k f kept))
        (value_moved a w cut k f e kept g (cl.closed k f kept e g) some (many k) calls others answers agree)

    more_answers : AnswersAre (callable_before a (suc k)) (with_function calls f)
    more_answers =
        let not_before = none_before_is a w.names k f e in
        subst (λ (h : List ℕ → Option (Ty × ℕ)). AnswersAre h (with_function calls f)) (ap (callable a) (sym (take_one_more a.functions k f e)))
        (with_own a (take k a.functions) f not_before calls answers (value calls f) (whole_is a (take k a.functions) f (scene_function a w k f e) not_before calls answers))

    not_input : same_name a.input f.name ≡ false
    not_input = name_differs a.input f.name (λ s. none_is_input a w.names k f e (sym s))

    step_none : slice_get cut.kept k ≡ Some None → Agree (suc k) (with_function calls f) others
    step_none g name at h c q = elim (some_bool (same_name f.name name)) [
      | inl t ↦
          let named = same_name_is f.name name t in
          let here = kept_at a.functions cut.kept k f None e g (none_before_is a w.names k f e) in
          let region : region_named a cut f.name ≡ None = (λ i. elim (not_input i) [ true ↦ Some cut.asked | false ↦ region_of (here i) ]) in
          absurd (subst (λ (b : Option (List Stretch)). InsideIf b at) (ap (region_named a cut) (sym named) ∙ region) q)
      | inr t ↦
          let through = ap (λ fs. callable a fs name) (take_one_more a.functions k f e) in
          let c' = subst (λ (b : Option (Ty × ℕ)). IsSome b) (through ∙ callable_other a (take k a.functions) f name t) c in
          agree name at h c' q ∙ sym (ap (λ b. elim b [ true ↦ typed f.ty (value calls f at) | false ↦ calls name at ]) t)
    ]

  run : (fs : List Function) (k : ℕ) (ks : List (Option Kept)) → ((j : ℕ) → slice_get fs j ≡ slice_get a.functions (k + j)) → ((j : ℕ) → slice_get ks j ≡ slice_get cut.kept (k + j))
      → length ks ≡ length fs
      → (calls others : Calls) → AnswersAre (callable_before a k) calls → Agree k calls others
      → Agree (k + length fs) (fold with_function calls fs) (fold with_function others (functions_cut a cut k fs ks))
  run [] k [] hf hk l calls others answers agree = let e : k ≡ k + 0 = omega arith in subst (λ n. Agree n calls others) e agree
  run [] k (x ∷ ks) hf hk l calls others answers agree = absurd (omega (arith, l))
  run (f ∷ fs) k [] hf hk l calls others answers agree = absurd (omega (arith, l))
  run (f ∷ fs) k (None ∷ ks) hf hk l calls others answers agree =
      let zero_more : k + 0 ≡ k = omega arith in
      let more : suc k + length fs ≡ k + suc (length fs) = omega arith in
      let e = sym (hf 0 ∙ ap (slice_get a.functions) zero_more) in
      let g = sym (hk 0 ∙ ap (slice_get cut.kept) zero_more) in
      subst (λ n. Agree n (fold with_function (with_function calls f) fs) (fold with_function others (functions_cut a cut (suc k) fs ks))) more
      (run fs (suc k) ks (λ j. hf (suc j) ∙ ap (slice_get a.functions) (next k j)) (λ j. hk (suc j) ∙ ap (slice_get cut.kept) (next k j)) (omega (arith, l))
      (with_function calls f) others (more_answers k f e calls others answers agree) (step_none k f e calls others answers agree g))
  run (f ∷ fs) k (Some kept ∷ ks) hf hk l calls others answers agree =
      let zero_more : k + 0 ≡ k = omega arith in
      let more : suc k + length fs ≡ k + suc (length fs) = omega arith in
      let e = sym (hf 0 ∙ ap (slice_get a.functions) zero_more) in
      let g = sym (hk 0 ∙ ap (slice_get cut.kept) zero_more) in
      subst (λ n. Agree n (fold with_function (with_function calls f) fs) (fold with_function (with_function others (function_cut a cut k f kept)) (functions_cut a cut (suc k) fs ks))) more
      (run fs (suc k) ks (λ j. hf (suc j) ∙ ap (slice_get a.functions) (next k j)) (λ j. hk (suc j) ∙ ap (slice_get cut.kept) (next k j)) (omega (arith, l))
      (with_function calls f) (with_function others (function_cut a cut k f kept)) (more_answers k f e calls others answers agree) (step_kept k f e calls others answers agree kept g))

  -- the input
  module _ (samples : List ℕ) (typed_samples : AreSamples a samples) where
    S' : List ℕ
    S' = cut_samples a.input_extents samples cut.part

    base : Agree 0 (input_calls a samples) (input_calls (algorithm_cut a cut) (cut_samples a.input_extents samples cut.part))
    base name at h c q = elim (some_bool (same_name a.input name)) [
      | inl t ↦
          let q' : IsInBox cut.asked at = subst (λ (b : Bool). InsideIf (elim b [ true ↦ Some cut.asked | false ↦ region_of (kept_named a.functions cut.kept name) ]) at) t q in
          let oo : origin_named a cut name ≡ lows cut.part = ap (λ b. elim b [ true ↦ lows cut.part | false ↦ origin_of (kept_named a.functions cut.kept name) ]) t in
          ap (λ z. typed a.input_ty (sample (extents_of cut.part) (cut_samples a.input_extents samples cut.part) (unmoved z at))) oo
          ∙ ap (typed a.input_ty) (cut_sample a.input_extents cut.asked cut.part samples at (scene_raster a.input_extents w.input_extents) cl.parts h q')
      | inr t ↦ absurd (no_some (callable_none a name t) c)
    ]
      where
        no_some : {X : Type 0} {x : Option X} → x ≡ None → IsSome x → ⊥
        no_some e s = cc

    all : Agree (0 + length a.functions) (calls_of a samples) (calls_of (algorithm_cut a cut) (cut_samples a.input_extents samples cut.part))
    all = run a.functions 0 cut.kept (λ j. ap (slice_get a.functions) (sym (zero-add j))) (λ j. ap (slice_get cut.kept) (sym (zero-add j))) cl.each
        (input_calls a samples) (input_calls (algorithm_cut a cut) (cut_samples a.input_extents samples cut.part)) (scene_answers a samples typed_samples) base

    pub values : (name : List ℕ) (at : List ℤ) → Coordinates at → IsSome (callable a a.functions name) → InsideIf (region_named a cut name) at
        → calls_of (algorithm_cut a cut) (cut_samples a.input_extents samples cut.part) name (unmoved (origin_named a cut name) at) ≡ calls_of a samples name at
    values name at h c q = all name at h (subst (λ fs. IsSome (callable a fs name)) (sym (take_all a.functions)) c) q

    -- the output is called by its name
    output_called : IsSome (callable a a.functions a.output)
    output_called = by (function_named a.functions a.output) refl w.output
      where
        by : (o : Option Function) → function_named a.functions a.output ≡ o → MatchOption o ⊥ (IsOutput (map narrow_extent a.output_extents)) → IsSome (callable a a.functions a.output)
        by None e h = absurd h
        by (Some f) e h = named_called a a.functions a.output f e

    output_not_input : same_name a.input a.output ≡ false
    output_not_input = by (function_named a.functions a.output) refl w.output
      where
        by : (o : Option Function) → function_named a.functions a.output ≡ o → MatchOption o ⊥ (IsOutput (map narrow_extent a.output_extents)) → same_name a.input a.output ≡ false
        by None e h = absurd h
        by (Some f) e h = let n = named_at a.functions a.output f e in name_differs a.input a.output (λ s. none_is_input a w.names n.0 f n.1 (n.2 ∙ sym s))

    -- what is kept of the output
    module _ (kept : Kept) (here : kept_named a.functions cut.kept a.output ≡ Some kept) (keeps : KeepsTile cut.tile kept) (n : ℕ) (l : n < sample_count (extents_of cut.tile)) where
      p' : List ℤ
      p' = raster_point (extents_of cut.tile) n

      raster : HasRaster (extents_of cut.tile)
      raster = raster_tile a.output_extents cut.tile cl.tile (scene_raster a.output_extents w.output_extents)

      there : Put a.output_extents cut.tile (raster_point (extents_of cut.tile) n)
      there = put_there a.output_extents cut.tile (raster_point (extents_of cut.tile) n) (scene_few a.output_extents w.output_extents) cl.tile (on_extents (extents_of cut.tile) n raster l)

      at_output : origin_named a cut a.output ≡ lows cut.tile
      at_output = (λ i. elim (output_not_input i) [ true ↦ lows cut.part | false ↦ origin_of (here i) ]) ∙ keeps.origin

      in_output : InsideIf (region_named a cut a.output) (moved_point (lows cut.tile) (raster_point (extents_of cut.tile) n))
      in_output =
          let e : region_named a cut a.output ≡ Some kept.region = (λ i. elim (output_not_input i) [ true ↦ Some cut.asked | false ↦ region_of (here i) ]) in
          subst (λ (b : Option (List Stretch)). InsideIf b (moved_point (lows cut.tile) (raster_point (extents_of cut.tile) n))) (sym e)
          (box_holds kept.region cut.tile (moved_point (lows cut.tile) (raster_point (extents_of cut.tile) n)) keeps.holds there.inside)

      value_cut : output_value (algorithm_cut a cut) (cut_samples a.input_extents samples cut.part) (raster_point (extents_of cut.tile) n)
          ≡ output_value a samples (moved_point (lows cut.tile) (raster_point (extents_of cut.tile) n))
      value_cut =
          ap (λ q. (calls_of (algorithm_cut a cut) (cut_samples a.input_extents samples cut.part) a.output q).number) (sym (ap (λ o. unmoved o (moved_point (lows cut.tile)
          (raster_point (extents_of cut.tile) n))) at_output ∙ there.back))
          ∙ ap (λ (v : Value). v.number) (values a.output (moved_point (lows cut.tile) (raster_point (extents_of cut.tile) n)) there.point output_called in_output)

      sample_cut : natural (output_value (algorithm_cut a cut) (cut_samples a.input_extents samples cut.part) (raster_point (extents_of cut.tile) n))
          ≡ natural (sample a.output_extents (picture a samples) (moved_point (lows cut.tile) (raster_point (extents_of cut.tile) n)))
      sample_cut =
          let q = moved_point (lows cut.tile) (raster_point (extents_of cut.tile) n) in
          let on = on_raster a.output_extents q (scene_raster a.output_extents w.output_extents) there.on in
          let m = place a.output_extents q in
          let g : ℕ → ℕ = λ j. natural (output_value a samples (raster_point a.output_extents j)) in
          let found : slice_index (picture a samples) m ≡ g m = get_or-map-range_with_len g 0 (sample_count a.output_extents) m m 0 on.in_raster (zero-add m) in
          ap natural value_cut ∙ ap (λ x. natural (output_value a samples x)) (sym on.back) ∙ sym found
          ∙ ap natural (sym (sample_at a.output_extents (picture a samples) q true there.on))

    picture_cut_of : (o : Option Kept) → kept_named a.functions cut.kept a.output ≡ o → MatchOption o ⊥ (KeepsTile cut.tile)
        → picture (algorithm_cut a cut) (cut_samples a.input_extents samples cut.part) ≡ cut_samples a.output_extents (picture a samples) cut.tile
    picture_cut_of None e h = absurd h
    picture_cut_of (Some kept) e h = map_range (λ n. natural (output_value (algorithm_cut a cut) (cut_samples a.input_extents samples cut.part) (raster_point (extents_of cut.tile) n)))
        (λ n. natural (sample a.output_extents (picture a samples) (moved_point (lows cut.tile) (raster_point (extents_of cut.tile) n)))) (sample_count (extents_of cut.tile))
        (λ n l. sample_cut kept e h n l)

    pub picture_cut : picture (algorithm_cut a cut) (cut_samples a.input_extents samples cut.part) ≡ cut_samples a.output_extents (picture a samples) cut.tile
    picture_cut = picture_cut_of (kept_named a.functions cut.kept a.output) refl cl.output
