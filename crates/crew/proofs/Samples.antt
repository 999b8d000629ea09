-- The values that a board holds are the algorithm's, and those that its picture shows are samples.
use Rattle.std.proofs.Common.{◌≡◌, ℕ, zero, suc, ◌<◌, ◌≤◌, Bool, true, false, List, [], ◌∷◌, Option, Some, None, MatchOption, ℤ, pos, negsuc, refl, sym, ap, ◌∙◌, subst, arith, nat_lt, ltb-true}
use Rattle.std.specs.Prelude.{map, slice_get, ◌&&◌}
use Rattle.std.specs.List.{AllByRecursion, range_with_len}
use Rattle.std.proofs.lemmas.Int.{ints}
use Rattle.std.proofs.lemmas.List.Elements.{All-from_recursion}
use Rattle.std.proofs.lemmas.List.FromFn.{fill_by_all, get_or-map-range_with_len, length-map-range_with_len}
use Rattle.std.proofs.Props.{props}
use Rattle.std.proofs.Math.Logic.{∥∥₁_elim}
use Rattle.numeric.specs.declared.ty.Ty.TheVariants.{U8, I32}
use Rattle.numeric.specs.Wrap.{IsOf}
use Rattle.meaning.specs.Image.Raster.{is_within, natural, raster_point, sample_count}
use Rattle.meaning.specs.Image.View.{AreExtents}
use Rattle.tree.specs.declared.value.Value.{Value}
use Rattle.meaning.specs.Algorithm.{Function, Algorithm}
use Rattle.meaning.specs.Conditions.{IsAlgorithm, IsOutput, function_named}
use Rattle.meaning.specs.Functions.{AreSamples, IsPoint}
use Rattle.meaning.specs.Names.{same_name}
use Rattle.meaning.specs.Value.{calls_of, output_value, value_of_function}
use Rattle.meaning.proofs.Calls.{called}
use Rattle.meaning.proofs.Typed.{value_is_typed}
use Rattle.algo.specs.declared.inputs.Inputs.{Inputs}
use Rattle.algo.specs.Parts.{output_type}
use Rattle.algo.specs.View.{IsFor, picture_of as picture_given, samples_of}
use Rattle.soundness.proofs.Refines.{name_true}
use Rattle.plan.specs.Certificate.Cells.{cells}
use Rattle.headline.proofs.Samples.{inputs_are_samples}
use Rattle.checked_plan.specs.declared.checked.Checked.{Checked}
use Rattle.checked_plan.specs.View.{algorithm_checked, plan_checked}
use Rattle.checked_plan.specs.Output.Cells.{number_of_point}
use Rattle.board.specs.Layout.{value_at}
use Rattle.crew.specs.Opening.Layouts.{values_of}
use Rattle.crew.specs.Opening.Laws.{work_checked, target_checked, PicturesAreSaid, RunsGiveValues, ValuesAreSamples, ValuesAreTargets, WorksAreSound}
use Rattle.crew.proofs.Layouts.{holds_output, on_output, own_work}
use Rattle.crew.proofs.Rows.{cell_at}

pub values_targets : ValuesAreTargets
values_targets x i c = cell_at (algorithm_checked x) (plan_checked x) (samples_of i) (cells (plan_checked x)) c

-- the input's samples are values of its type
pub given : (x : Checked) (i : Inputs) → IsFor x.algo.now i → AreSamples (algorithm_checked x) (samples_of i)
given x i for = inputs_are_samples (algorithm_checked x) (picture_given i) x.algo.now.well_formed for

-- the value of the cell of a point of the output is the output's value there
shown_value : (x : Checked) (i : Inputs) (at : List ℤ) → IsFor x.algo.now i → is_within (algorithm_checked x).output_extents at ≡ true →
    value_at (values_of x i) (number_of_point (algorithm_checked x) (plan_checked x) at) ≡ output_value (algorithm_checked x) (samples_of i) at
shown_value x i at for on =
    values_targets x i (number_of_point (algorithm_checked x) (plan_checked x) at)
    ∙ ∥∥₁_elim (holds_output x at on) (search props) (λ h. h.right (samples_of i) (given x i for))

pub pictures_said : PicturesAreSaid
pictures_said x i for =
    let a = algorithm_checked x in
    let n = sample_count a.output_extents in
    let f : ℕ → ℕ = λ k. natural (value_at (values_of x i) (number_of_point a (plan_checked x) (raster_point a.output_extents k))) in
    let g : ℕ → ℕ = λ k. natural (output_value a (samples_of i) (raster_point a.output_extents k)) in
    let same : map f (range_with_len 0 n) ≡ map g (range_with_len 0 n) = fill_by_all g (map f (range_with_len 0 n)) n 0 (length-map-range_with_len f 0 n)
    (λ k lt. get_or-map-range_with_len f 0 n k k 0 lt (omega arith) ∙ ap natural (shown_value x i (raster_point a.output_extents k) for (on_output a k x.algo.now.well_formed lt))) in
    λ k. record { ty = output_type a; extents = a.output_extents; samples = same k }

-- ---- the output's values are of its type

abbrev Few : List ℕ → Type 0
Few es = AllByRecursion (λ e. e ≤ 8192) es

few : (es : List ℕ) → AreExtents es → Few es
few [] h = absurd h
few (w ∷ []) h = (h.1, tt)
few (w ∷ r ∷ []) h = (h.0.1, (h.1.1, tt))
few (w ∷ r ∷ k ∷ []) h = let three : k ≡ 3 = h.2 in (h.0.1, (h.1.1, (omega arith, tt)))
few (w ∷ r ∷ k ∷ d ∷ es) h = absurd h

and_both : (a b : Bool) → (a && b) ≡ true → (a ≡ true) × (b ≡ true)
and_both true b h = (refl, h)
and_both false b h = absurd (cc h)

coordinate : (n e : ℕ) → n < e → e ≤ 8192 → IsOf I32 (pos n)
coordinate n e h l = record { from = omega (arith, ints, h, l); to = omega (arith, ints, h, l) }

coordinates : (es : List ℕ) (at : List ℤ) → Few es → is_within es at ≡ true → AllByRecursion (IsOf I32) at
coordinates [] [] h e = tt
coordinates [] (z ∷ zs) h e = absurd (cc e)
coordinates (w ∷ es) [] h e = absurd (cc e)
coordinates (w ∷ es) (negsuc n ∷ zs) h e = absurd (cc e)
coordinates (w ∷ es) (pos n ∷ zs) h e =
    let b = and_both (nat_lt n w) (is_within es zs) e in
    (coordinate n w (ltb-true n w b.0) h.0, coordinates es zs h.1 b.1)

is_point : (es : List ℕ) (at : List ℤ) → AreExtents es → is_within es at ≡ true → IsPoint at
is_point es at h e = All-from_recursion (IsOf I32) at (coordinates es at (few es h) e)

record StandsAt (fs : List Function) (name : List ℕ) (f : Function) : Type 0 where
  place : ℕ
  at : slice_get fs place ≡ Some f
  name_is : f.name ≡ name

stands : (fs : List Function) (name : List ℕ) (f : Function) → function_named fs name ≡ Some f → StandsAt fs name f
stands [] name f e = absurd (cc e)
stands (g ∷ gs) name f e = of (same_name g.name name) refl e (stands gs name f)
  where
    of : (v : Bool) → same_name g.name name ≡ v → (elim v [ true ↦ Some g | false ↦ function_named gs name ]) ≡ Some f → (function_named gs name ≡ Some f → StandsAt gs name f) → StandsAt (g ∷ gs) name f
    of true is h rest = let same : g ≡ f = cc in record { place = zero; at = h; name_is = ap (λ (x : Function). x.name) (sym same) ∙ name_true g.name name is }
    of false is h rest = let r = rest h in record { place = suc r.place; at = r.at; name_is = r.name_is }

module _ (a : Algorithm) (samples : List ℕ) (at : List ℤ) (w : IsAlgorithm a) (in_type : AreSamples a samples) (on : is_within a.output_extents at ≡ true) where
  of_function : (o : Option Function) → function_named a.functions a.output ≡ o → MatchOption o ⊥ (IsOutput a.output_extents) → IsOf (elim o [ Some f ↦ f.ty | None ↦ U8 ]) (output_value a samples at)
  of_function None e h = absurd h
  of_function (Some f) e h =
      let s = stands a.functions a.output f e in
      let same : output_value a samples at ≡ value_of_function a samples s.place at = ap (λ n. (calls_of a samples n at).number) (sym s.name_is) ∙ ap (λ (v : Value). v.number) (called a w.names samples s.place f at s.at) in
      subst (IsOf f.ty) (sym same) (value_is_typed a samples w in_type s.place f s.at at (is_point a.output_extents at w.output_extents on))

  output_typed : IsOf (output_type a) (output_value a samples at)
  output_typed = of_function (function_named a.functions a.output) refl w.output

pub values_samples : ValuesAreSamples
values_samples x i for n lt =
    let a = algorithm_checked x in
    let at = raster_point a.output_extents n in
    let on = on_output a n x.algo.now.well_formed lt in
    subst (IsOf (output_type a)) (sym (shown_value x i at for on)) (output_typed a (samples_of i) at x.algo.now.well_formed (given x i for) on)

-- ---- private runs

targets_mapped : (x : Checked) (i : Inputs) (cs : List ℕ) → map (target_checked x (samples_of i)) cs ≡ map (value_at (values_of x i)) cs
targets_mapped x i [] = refl
targets_mapped x i (c ∷ cs) = λ k. sym (values_targets x i c) k ∷ targets_mapped x i cs k

pub runs_give : WorksAreSound → RunsGiveValues
runs_give works x i j for lt =
    let work = work_checked x (samples_of i) in
    let lists = own_work x (samples_of i) in
    ∥∥₁_elim (works x (samples_of i) (given x i for)) (search props) (λ s.
    s.runs j (subst (λ n. j < n) lists.pieces lt)
    ∙ ap Some (targets_mapped x i (work.own j) ∙ ap (map (value_at (values_of x i))) (sym (lists.own j))))
