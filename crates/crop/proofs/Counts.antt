-- The evaluations that the functions of the cut algorithm take.
use Rattle.std.proofs.Common.{◌≡◌, ℕ, suc, ◌+◌, ◌≤◌, List, [], ◌∷◌, length, Bool, true, false, Option, Some, None, IsSome, ℤ, ◌≤ℤ◌, refl, sym, ap, ◌∙◌, subst, arith, inl, inr, zero-add}
use Rattle.std.specs.Prelude.{map, slice_get, take, fold, MatchOption}
use Rattle.std.specs.List.{AllByRecursion}
use Rattle.std.proofs.Math.Seq.{take-length}
use Rattle.std.proofs.lemmas.Int.{ints}
use Rattle.numeric.specs.declared.ty.Ty.{Ty}
use Rattle.numeric.specs.declared.ty.Ty.TheVariants.{I32}
use Rattle.numeric.specs.Wrap.{IsOf}
use Rattle.tree.specs.Meaning.{typed}
use Rattle.tree.specs.Names.{IsIndex}
use Rattle.meaning.specs.Image.Raster.{sample}
use Rattle.meaning.specs.Algorithm.{Function, Algorithm}
use Rattle.meaning.specs.Names.{same_name}
use Rattle.meaning.specs.Conditions.{callable, function_named, IsOutput}
use Rattle.meaning.specs.Functions.{AreSamples}
use Rattle.meaning.specs.Value.{with_function, input_calls, value}
use Rattle.meaning.specs.Count.{Priced, counted, with_priced, priced, output_count}
use Rattle.meaning.proofs.Cases.{name_differs, same_name_is}
use Rattle.meaning.proofs.Calls.{callable_hit, callable_miss, callable_other, callable_none, take_one_more, from_take, none_before_is, none_is_input}
use Rattle.meaning.proofs.Own.{named_at}
use Rattle.meaning.proofs.Typed.{whole_is}
use Rattle.meaning.proofs.Types.{AnswersAre}
use Rattle.crop.specs.Inference.Needed.{callable_before}
use Rattle.crop.specs.declared.cut.Stretch.{Stretch}
use Rattle.crop.specs.Narrow.{narrow_extent, IsScene}
use Rattle.crop.specs.Cutting.{Kept, Cut, lows, extents_of, origin_of, region_of, kept_named, origin_named, region_named, function_cut, functions_cut, algorithm_cut, cut_samples, IsInBox, InsideIf, HoldsBox, IsTile, AreTiles, KeepsTile, IsCut}
use Rattle.crop.specs.Counts.{CountLaw, TileCountLaw}
use Rattle.crop.proofs.Points.{Coordinates, unmoved, some_bool}
use Rattle.crop.proofs.Lists.{all_from}
use Rattle.crop.proofs.Functions.{kept_at, value_moved, with_own, own_agree}
use Rattle.crop.proofs.Wide.{AreFew, scene_raster, scene_some, scene_few, scene_function, scene_answers}
use Rattle.crop.proofs.Samples.{cut_sample}
use Rattle.crop.proofs.Counted.{own_priced, counts_moved}

no_some : {X : Type 0} {x : Option X} → x ≡ None → IsSome x → ⊥
no_some e s = cc

no_function : {X : Type 0} {x : X} → None ≡ Some x → ⊥
no_function e = cc

one_on : (k j : ℕ) → k + suc j ≡ suc k + j
one_on k j = omega arith

box_holds : (b ts : List Stretch) (p : List ℤ) → HoldsBox b ts → IsInBox ts p → IsInBox b p
box_holds [] [] p h q = q
box_holds [] (t ∷ ts) p h q = absurd h
box_holds (e ∷ es) [] p h q = absurd h
box_holds (e ∷ es) (t ∷ ts) [] h q = absurd q
box_holds (e ∷ es) (t ∷ ts) (z ∷ zs) h q = let a = h.0 in let b = h.1 in let c = q.0 in let d = q.1 in (omega (arith, ints, a, c), omega (arith, ints, b, d), box_holds es ts zs h.2 q.2)

-- the points of a tile have coordinates of i32
coordinate : (n : ℕ) (t : Stretch) (z : ℤ) → n ≤ 16777216 → IsTile n t → t.low ≤ℤ z → z ≤ℤ t.high → IsOf I32 z
coordinate n t z few h a b = let from = h.from in let to = h.to in record { from = omega (arith, ints, a, from); to = omega (arith, ints, b, to, few) }

coordinates : (es : List ℕ) (ts : List Stretch) (p : List ℤ) → AreFew es → AreTiles es ts → IsInBox ts p → Coordinates p
coordinates [] [] [] few h q = tt
coordinates [] [] (z ∷ zs) few h q = absurd q
coordinates [] (t ∷ ts) p few h q = absurd h
coordinates (n ∷ ns) [] p few h q = absurd h
coordinates (n ∷ ns) (t ∷ ts) [] few h q = absurd q
coordinates (n ∷ ns) (t ∷ ts) (z ∷ zs) few h q = (coordinate n t z few.0 h.0 q.0 q.1, coordinates ns ts zs few.1 h.1 q.2)

named_called : (a : Algorithm) (fs : List Function) (name : List ℕ) (f : Function) → function_named fs name ≡ Some f → IsSome (callable a fs name)
named_called a [] name f e = absurd (no_function e)
named_called a (g ∷ gs) name f e = elim (some_bool (same_name g.name name)) [
  | inl t ↦ subst (λ (o : Option (Ty × ℕ)). IsSome o) (sym (callable_hit a g gs name t)) refl
  | inr t ↦ subst (λ (o : Option (Ty × ℕ)). IsSome o) (sym (callable_miss a g gs name t))
      (named_called a gs name f (sym (ap (λ b. elim b [ true ↦ Some g | false ↦ function_named gs name ]) t) ∙ e))
]

module _ (a : Algorithm) (w : IsScene a) (cut : Cut) (cl : IsCut a cut) where
  some : 1 ≤ length a.input_extents
  some = scene_some a.input_extents w.input_extents

  many : (k : ℕ) → AllByRecursion (λ u. 1 ≤ length u.variables) (take k a.functions)
  many k = all_from (λ u. 1 ≤ length u.variables) (take k a.functions) (λ g j e. (w.functions j g (from_take a.functions k j g e).1).some)

  -- what is told of calls of what stands before the k-th function, their values or their costs, is alike where they are asked for
  abbrev Same : {X : Type 0} → ℕ → (List ℕ → List ℤ → X) → (List ℕ → List ℤ → X) → Type 0
  Same k told others = (name : List ℕ) (at : List ℤ) → AllByRecursion IsIndex at → IsSome (callable_before a k name) → InsideIf (region_named a cut name) at
      → others name (unmoved (origin_named a cut name) at) ≡ told name at

  module _ (k : ℕ) (f : Function) (e : slice_get a.functions k ≡ Some f) where
    not_input : same_name a.input f.name ≡ false
    not_input = name_differs a.input f.name (λ s. none_is_input a w.names k f e (sym s))

    -- a function that is not kept is not asked for
    step_none : {X : Type 0} (told others : List ℕ → List ℤ → X) (of : List ℤ → X) → slice_get cut.kept k ≡ Some None → Same k told others
        → Same (suc k) (λ name at. elim (same_name f.name name) [ true ↦ of at | false ↦ told name at ]) others
    step_none told others of g same name at h c q = elim (some_bool (same_name f.name name)) [
      | inl t ↦
          let named = same_name_is f.name name t in
          let here = kept_at a.functions cut.kept k f None e g (none_before_is a w.names k f e) in
          let region : region_named a cut f.name ≡ None = λ i. elim (not_input i) [ true ↦ Some cut.asked | false ↦ region_of (here i) ] in
          absurd (subst (λ (b : Option (List Stretch)). InsideIf b at) (ap (region_named a cut) (sym named) ∙ region) q)
      | inr t ↦
          let through = ap (λ fs. callable a fs name) (take_one_more a.functions k f e) in
          let c' = subst (λ (b : Option (Ty × ℕ)). IsSome b) (through ∙ callable_other a (take k a.functions) f name t) c in
          same name at h c' q ∙ sym (ap (λ b. elim b [ true ↦ of at | false ↦ told name at ]) t)
    ]

  -- the calls of what stands before the k-th function, and what they cost
  record BothSame (k : ℕ) (b b' : Priced) : Type 0 where
    answers : AnswersAre (callable_before a k) b.calls
    calls : Same k b.calls b'.calls
    costs : Same k b.costs b'.costs

  module _ (k : ℕ) (f : Function) (e : slice_get a.functions k ≡ Some f) (b b' : Priced) (both : BothSame k b b') where
    more_answers : AnswersAre (callable_before a (suc k)) (with_function b.calls f)
    more_answers =
        let not_before = none_before_is a w.names k f e in
        subst (λ (h : List ℕ → Option (Ty × ℕ)). AnswersAre h (with_function b.calls f)) (ap (callable a) (sym (take_one_more a.functions k f e)))
        (with_own a (take k a.functions) f not_before b.calls both.answers (value b.calls f) (whole_is a (take k a.functions) f (scene_function a w k f e) not_before b.calls both.answers))

    kept_same : (kept : Kept) → slice_get cut.kept k ≡ Some (Some kept) → BothSame (suc k) (with_priced b f) (with_priced b' (function_cut a cut k f kept))
    kept_same kept g = record {
      answers = more_answers;
      calls = own_agree a w cut k f e kept g (cl.closed k f kept e g) some (many k) b.calls b'.calls both.answers both.calls (value b.calls f) (value b'.calls (function_cut a cut k f kept))
          (value_moved a w cut k f e kept g (cl.closed k f kept e g) some (many k) b.calls b'.calls both.answers both.calls);
      costs = own_priced a w cut k f e kept g (cl.closed k f kept e g) some (many k) b.calls b'.calls both.answers both.calls b.costs b'.costs both.costs
          (counted b.calls b.costs f).counts (counted b'.calls b'.costs (function_cut a cut k f kept)).counts
          (counts_moved a w cut k f e kept g (cl.closed k f kept e g) some (many k) b.calls b'.calls both.answers both.calls b.costs b'.costs both.costs);
    }

    none_same : slice_get cut.kept k ≡ Some None → BothSame (suc k) (with_priced b f) b'
    none_same g = record {
      answers = more_answers;
      calls = step_none k f e b.calls b'.calls (λ at. typed f.ty (value b.calls f at)) g both.calls;
      costs = step_none k f e b.costs b'.costs (counted b.calls b.costs f).counts g both.costs;
    }

  run : (fs : List Function) (k : ℕ) (ks : List (Option Kept)) → ((j : ℕ) → slice_get fs j ≡ slice_get a.functions (k + j)) → ((j : ℕ) → slice_get ks j ≡ slice_get cut.kept (k + j))
      → length ks ≡ length fs → (b b' : Priced) → BothSame k b b' → BothSame (k + length fs) (fold with_priced b fs) (fold with_priced b' (functions_cut a cut k fs ks))
  run [] k [] hf hk l b b' both = let e : k ≡ k + 0 = omega arith in subst (λ n. BothSame n b b') e both
  run [] k (x ∷ ks) hf hk l b b' both = absurd (omega (arith, l))
  run (f ∷ fs) k [] hf hk l b b' both = absurd (omega (arith, l))
  run (f ∷ fs) k (None ∷ ks) hf hk l b b' both =
      let zero_more : k + 0 ≡ k = omega arith in
      let more : suc k + length fs ≡ k + suc (length fs) = omega arith in
      let e = sym (hf 0 ∙ ap (slice_get a.functions) zero_more) in
      let g = sym (hk 0 ∙ ap (slice_get cut.kept) zero_more) in
      subst (λ n. BothSame n (fold with_priced (with_priced b f) fs) (fold with_priced b' (functions_cut a cut (suc k) fs ks))) more
      (run fs (suc k) ks (λ j. hf (suc j) ∙ ap (slice_get a.functions) (one_on k j)) (λ j. hk (suc j) ∙ ap (slice_get cut.kept) (one_on k j)) (omega (arith, l))
      (with_priced b f) b' (none_same k f e b b' both g))
  run (f ∷ fs) k (Some kept ∷ ks) hf hk l b b' both =
      let zero_more : k + 0 ≡ k = omega arith in
      let more : suc k + length fs ≡ k + suc (length fs) = omega arith in
      let e = sym (hf 0 ∙ ap (slice_get a.functions) zero_more) in
      let g = sym (hk 0 ∙ ap (slice_get cut.kept) zero_more) in
      subst (λ n. BothSame n (fold with_priced (with_priced b f) fs) (fold with_priced (with_priced b' (function_cut a cut k f kept)) (functions_cut a cut (suc k) fs ks))) more
      (run fs (suc k) ks (λ j. hf (suc j) ∙ ap (slice_get a.functions) (one_on k j)) (λ j. hk (suc j) ∙ ap (slice_get cut.kept) (one_on k j)) (omega (arith, l))
      (with_priced b f) (with_priced b' (function_cut a cut k f kept)) (kept_same k f e b b' both kept g))

  module _ (samples : List ℕ) (typed_samples : AreSamples a samples) where
    -- the input
    input_same : Same 0 (input_calls a samples) (input_calls (algorithm_cut a cut) (cut_samples a.input_extents samples cut.part))
    input_same name at h c q = elim (some_bool (same_name a.input name)) [
      | inl t ↦
          let q' : IsInBox cut.asked at = subst (λ (b : Bool). InsideIf (elim b [ true ↦ Some cut.asked | false ↦ region_of (kept_named a.functions cut.kept name) ]) at) t q in
          let oo : origin_named a cut name ≡ lows cut.part = ap (λ b. elim b [ true ↦ lows cut.part | false ↦ origin_of (kept_named a.functions cut.kept name) ]) t in
          ap (λ z. typed a.input_ty (sample (extents_of cut.part) (cut_samples a.input_extents samples cut.part) (unmoved z at))) oo
          ∙ ap (typed a.input_ty) (cut_sample a.input_extents cut.asked cut.part samples at (scene_raster a.input_extents w.input_extents) cl.parts h q')
      | inr t ↦ absurd (no_some (callable_none a name t) c)
    ]

    all : BothSame (0 + length a.functions) (priced a samples) (priced (algorithm_cut a cut) (cut_samples a.input_extents samples cut.part))
    all = run a.functions 0 cut.kept (λ j. ap (slice_get a.functions) (sym (zero-add j))) (λ j. ap (slice_get cut.kept) (sym (zero-add j))) cl.each
        (record { calls = input_calls a samples; costs = λ called at. 0 })
        (record { calls = input_calls (algorithm_cut a cut) (cut_samples a.input_extents samples cut.part); costs = λ called at. 0 })
        (record { answers = scene_answers a samples typed_samples; calls = input_same; costs = λ name at h c q. refl })

    take_all : take (0 + length a.functions) a.functions ≡ a.functions
    take_all = ap (λ n. take n a.functions) (zero-add (length a.functions)) ∙ take-length a.functions

    pub counts : (name : List ℕ) (at : List ℤ) → Coordinates at → IsSome (callable a a.functions name) → InsideIf (region_named a cut name) at
        → (priced (algorithm_cut a cut) (cut_samples a.input_extents samples cut.part)).costs name (unmoved (origin_named a cut name) at) ≡ (priced a samples).costs name at
    counts name at h c q = all.costs name at h (subst (λ fs. IsSome (callable a fs name)) (sym take_all) c) q

    -- the output is called by its name, which is not the input's
    output_called : (o : Option Function) → function_named a.functions a.output ≡ o → MatchOption o ⊥ (IsOutput (map narrow_extent a.output_extents))
        → IsSome (callable a a.functions a.output) × (same_name a.input a.output ≡ false)
    output_called None e h = absurd h
    output_called (Some f) e h =
        let n = named_at a.functions a.output f e in
        (named_called a a.functions a.output f e, name_differs a.input a.output (λ s. none_is_input a w.names n.0 f n.1 (n.2 ∙ sym s)))

    output_cut : (o : Option Kept) → kept_named a.functions cut.kept a.output ≡ o → MatchOption o ⊥ (KeepsTile cut.tile) → (at : List ℤ) → IsInBox cut.tile at
        → output_count (algorithm_cut a cut) (cut_samples a.input_extents samples cut.part) (unmoved (lows cut.tile) at) ≡ output_count a samples at
    output_cut None e h at q = absurd h
    output_cut (Some kept) e h at q =
        let called = output_called (function_named a.functions a.output) refl w.output in
        let origin : origin_named a cut a.output ≡ lows cut.tile = (λ i. elim (called.1 i) [ true ↦ lows cut.part | false ↦ origin_of (e i) ]) ∙ h.origin in
        let region : region_named a cut a.output ≡ Some kept.region = λ i. elim (called.1 i) [ true ↦ Some cut.asked | false ↦ region_of (e i) ] in
        let inside = subst (λ (b : Option (List Stretch)). InsideIf b at) (sym region) (box_holds kept.region cut.tile at h.holds q) in
        ap (λ o. output_count (algorithm_cut a cut) (cut_samples a.input_extents samples cut.part) (unmoved o at)) (sym origin)
        ∙ counts a.output at (coordinates a.output_extents cut.tile at (scene_few a.output_extents w.output_extents) cl.tile q) called.0 inside

pub count_law : CountLaw
count_law a cut samples w cl typed = record {
  calls = counts a w cut cl samples typed;
  output = output_cut a w cut cl samples typed (kept_named a.functions cut.kept a.output) refl cl.output;
}

pub tile_count_law : TileCountLaw
tile_count_law a rect t part w is samples p typed q =
    (λ i. output_count (is.algorithm i) (cut_samples a.input_extents samples (is.part i)) (unmoved (lows (sym is.tile i)) p))
    ∙ (count_law a is.cut samples w is.is_cut typed).output p (subst (λ ts. IsInBox ts p) (sym is.tile) q)
