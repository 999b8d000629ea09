-- A call of a function answers its value after all steps.
use Rattle.std.proofs.Common.{◌≡◌, ℕ, zero, suc, Bool, true, false, List, [], ◌∷◌, Option, Some, None, refl, sym, ap, ◌∙◌, subst, arith}
use Rattle.std.specs.Prelude.{ℤ, pos, slice_get, if◌then◌else◌, ◌&&◌, int_le, IsTrue, ◌≤ℤ◌}
use Rattle.std.proofs.lemmas.Bool.{false≢true}
use Rattle.std.proofs.lemmas.Bool.Decides.{nat_tests}
use Rattle.tree.proofs.Typed.{both_true}
use Rattle.tree.specs.Meaning.{typed}
use Rattle.meaning.specs.Algorithm.{Algorithm, Change, Function, Range}
use Rattle.meaning.specs.Points.{IsIn}
use Rattle.meaning.specs.Conditions.{IsAlgorithm}
use Rattle.meaning.specs.Names.{same_name}
use Rattle.meaning.specs.Value.{value, pure_value, value_at_step, all_steps, calls_before, calls_of, value_of_function, value_of_function_at_step}
use Rattle.soundness.specs.Origins.{origin}
use Rattle.soundness.specs.Given.{function_named, all_steps_in, origin_value, is_in, is_in_domain, update_in, step_in, step_of}
use Rattle.soundness.specs.Stored.{GivenIsOfAlgorithm}
use Rattle.soundness.proofs.Refines.{name_true}
use Rattle.meaning.proofs.Back.{finished}
use Rattle.meaning.proofs.Calls.{called}
use Rattle.meaning.proofs.Steps.{stepped_all}

-- where a function of the name stands
abbrev pub Stands : List Function → List ℕ → Function → Type 0
Stands fs name f = (k : ℕ) × (slice_get fs k ≡ Some f) × (f.name ≡ name)

pub stands : (fs : List Function) (name : List ℕ) (f : Function) → function_named fs name ≡ Some f → Stands fs name f
stands [] name f e = absurd (cc e)
stands (g ∷ gs) name f e = at (same_name g.name name) refl e (stands gs name f)
  where
    at : (v : Bool) → same_name g.name name ≡ v → (if v then Some g else function_named gs name) ≡ Some f → (function_named gs name ≡ Some f → Stands gs name f) → Stands (g ∷ gs) name f
    at true h k rest = let same : g ≡ f = cc in (zero, k, ap (λ (x : Function). x.name) (sym same) ∙ name_true g.name name h)
    at false h k rest = let r = rest k in (suc r.0, r.1, r.2)

module _ (a : Algorithm) (samples : List ℕ) (is : IsAlgorithm a) where
  at_last : (k : ℕ) (f : Function) (p : List ℤ) → slice_get a.functions k ≡ Some f → value_of_function_at_step a samples k (all_steps f) p ≡ value_of_function a samples k p
  at_last k f p at =
      ap (λ (o : Option Function). elim o [ Some g ↦ value_at_step (calls_before a samples k) g (all_steps f) p | None ↦ pos 0 ]) at
      ∙ ap (λ (g : List ℤ → ℤ). g p) (stepped_all (calls_before a samples k) f (pure_value (calls_before a samples k) f) f.changes)
      ∙ sym (ap (λ (o : Option Function). elim o [ Some g ↦ value (calls_before a samples k) g p | None ↦ pos 0 ]) at)

  whole_at : (name : List ℕ) (p : List ℤ) (o : Option Function) → function_named a.functions name ≡ o → origin_value a samples o (origin name (all_steps_in o) p) ≡ calls_of a samples name p
  whole_at name p None e = refl
  whole_at name p (Some f) e =
      let r = stands a.functions name f e in
      ap (typed f.ty) (sym (finished a r.0 f is r.1 samples (all_steps f) p) ∙ at_last r.0 f p r.1)
      ∙ sym (called a is.names samples r.0 f p r.1)
      ∙ ap (λ n. calls_of a samples n p) r.2

at_most : (x y : ℤ) → IsTrue (int_le x y) → x ≤ℤ y
at_most x y h = grind (arith, nat_tests)

-- a point that the test finds in the ranges is in them
is_in_ranges : (ds : List Range) (r : List ℤ) → IsTrue (is_in ds r) → IsIn ds r
is_in_ranges [] [] h = tt
is_in_ranges [] (z ∷ zs) h = absurd (false≢true h)
is_in_ranges (d ∷ ds) [] h = absurd (false≢true h)
is_in_ranges (d ∷ ds) (z ∷ zs) h =
    let all = both_true (int_le d.low z && int_le z d.high) (is_in ds zs) h in
    let ends = both_true (int_le d.low z) (int_le z d.high) all.0 in
    (at_most d.low z ends.0, at_most z d.high ends.1, is_in_ranges ds zs all.1)

pub given_is_of_algorithm : GivenIsOfAlgorithm
given_is_of_algorithm a samples outline is input = record {
  formed = is;
  input = input;
  calls = λ name p. refl;
  whole = λ name p. whole_at a samples is name p (function_named a.functions name) refl;
  stepped = λ name f s p named. ap (λ o. origin_value a samples o (origin name s p)) named;
  domain = λ name f i u r named at h.
      let here : is_in_domain (update_in (function_named a.functions name) (suc i)) r ≡ is_in u.ranges r =
      ap (λ (o : Option Function). is_in_domain (update_in o (suc i)) r) named ∙ ap (λ (o : Option Change). is_in_domain o r) at in
      is_in_ranges u.ranges r (subst IsTrue here h);
  steps = λ name f i u r named at.
      ap (λ (o : Option Function). step_in o (suc i) r) named ∙ ap (λ (o : Option Change). step_of f i o r) at;
}
