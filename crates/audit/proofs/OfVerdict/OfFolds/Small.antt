-- The checker's rules rise on forms whose constants are small.
use Rattle.std.proofs.Common.{◌≡◌, ℕ, zero, suc, ◌+◌, ◌≤◌, Bool, true, false, List, [], ◌∷◌, map, length, Some, refl, sym, subst, arith}
use Rattle.std.specs.Prelude.{ℤ, pos, negsuc, ◌==◌, if◌then◌else◌, min, slice_get}
use Rattle.std.specs.List.{list_all, range_with_len}
use Rattle.std.specs.Int.RustNames.{unsigned_abs}
use Rattle.std.proofs.lemmas.Bool.{eqb-true, leb-true}
use Rattle.std.proofs.lemmas.List.FromFn.{length-map-range_with_len}
use Rattle.lin.specs.Forms.{Form}
use Rattle.lin.specs.Search.{candidates}
use Rattle.lin.specs.declared.scope.Binding.{Binding}
use Rattle.lin.specs.declared.scope.Binding.TheVariants.{Loop}
use Rattle.lin.specs.declared.span.Span1.{Span1}
use Rattle.plan.specs.declared.stmt.Pick.{Pick}
use Rattle.plan.specs.declared.stmt.Pick.TheVariants.{Min, Max}
use Rattle.soundness.specs.Obligations.{Binder, Ranged, Picked, Passed, anything}
use Rattle.rules.specs.Bounding.Scopes.{binding_of, is_limited, limited, most_symbols, picked_binding, scope_of, symbol_count}
use Rattle.audit.specs.Verdict.Folds.{is_near, is_near_binder, span_passes}
use Rattle.audit.specs.Verdict.Raised.{SmallFormsRise}
use Rattle.audit.proofs.OfVerdict.OfFolds.Search.{AreSmall, IsSmallScope, at_most_last}
use Rattle.audit.proofs.OfVerdict.OfFolds.Tests.{and_parts}

all_small : (most : ℕ) (fs : List Form) → list_all (is_near most) fs ≡ true → AreSmall most fs
all_small most [] h = tt
all_small most (f ∷ fs) h =
    let parts = and_parts (is_near most f) (list_all (is_near most) fs) h in (leb-true (unsigned_abs f.constant) most parts.0, all_small most fs parts.1)

open_small : (most : ℕ) (c : ℤ) → AreSmall most (candidates (Loop anything) c)
open_small most (pos n) = tt
open_small most (negsuc n) = tt

loop_small : (most : ℕ) (x : Span1) (v : Bool) (c : ℤ) → span_passes (is_near most) x ≡ true → AreSmall most (candidates (Loop (if v then x else anything)) c)
loop_small most x false c h = open_small most c
loop_small most x true (pos n) h = all_small most x.upper (and_parts (list_all (is_near most) x.lower) (list_all (is_near most) x.upper) h).1
loop_small most x true (negsuc n) h = all_small most x.lower (and_parts (list_all (is_near most) x.lower) (list_all (is_near most) x.upper) h).0

pick_small : (most : ℕ) (pick : Pick) (ls : List Form) (c : ℤ) → list_all (is_near most) ls ≡ true → AreSmall most (candidates (picked_binding pick ls) c)
pick_small most Min [] c h = open_small most c
pick_small most Max [] c h = open_small most c
pick_small most Min (l ∷ ls) c h = all_small most (l ∷ ls) h
pick_small most Max (l ∷ ls) c h = all_small most (l ∷ ls) h

either_small : (most : ℕ) (v : Bool) (a b : Binding) (c : ℤ) → (v ≡ true → AreSmall most (candidates a c)) → AreSmall most (candidates b c) →
    AreSmall most (candidates (if v then a else b) c)
either_small most true a b c f g = f refl
either_small most false a b c f g = g

binding_small : (most : ℕ → ℕ) (bs : List Binder) (i : ℕ) (c : ℤ) → list_all (is_near_binder most) bs ≡ true → AreSmall (most i) (candidates (binding_of bs i) c)
binding_small most [] i c h = open_small (most i) c
binding_small most (Ranged j x ∷ bs) i c h =
    let parts = and_parts (span_passes (is_near (most j)) x) (list_all (is_near_binder most) bs) h in
    either_small (most i) (j == i) (Loop (limited x)) (binding_of bs i) c
    (λ e. subst (λ (s : ℕ). AreSmall (most s) (candidates (Loop (limited x)) c)) (eqb-true j i e) (loop_small (most j) x (is_limited x) c parts.0))
    (binding_small most bs i c parts.1)
binding_small most (Picked j pick ls ∷ bs) i c h =
    let parts = and_parts (list_all (is_near (most j)) ls) (list_all (is_near_binder most) bs) h in
    either_small (most i) (j == i) (picked_binding pick ls) (binding_of bs i) c
    (λ e. subst (λ (s : ℕ). AreSmall (most s) (candidates (picked_binding pick ls) c)) (eqb-true j i e) (pick_small (most j) pick ls c parts.0))
    (binding_small most bs i c parts.1)
binding_small most (Passed low high ∷ bs) i c h = binding_small most bs i c h

-- the symbols from one on, in their order
listed_small : (most : ℕ → ℕ) (bs : List Binder) → list_all (is_near_binder most) bs ≡ true → (count from n : ℕ) (b : Binding) (c : ℤ) →
    slice_get (map (binding_of bs) (range_with_len from count)) n ≡ Some b → AreSmall (most (from + n)) (candidates b c)
listed_small most bs h zero from n b c at = absurd (cc at)
listed_small most bs h (suc count) from zero b c at =
    let same : binding_of bs from ≡ b = cc at in
    let here : from ≡ from + 0 = omega arith in
    subst (λ (s : ℕ). AreSmall (most s) (candidates b c)) here (subst (λ (b : Binding). AreSmall (most from) (candidates b c)) same (binding_small most bs from c h))
listed_small most bs h (suc count) from (suc n) b c at =
    let later : from + 1 + n ≡ from + suc n = omega arith in
    subst (λ (s : ℕ). AreSmall (most s) (candidates b c)) later (listed_small most bs h count (from + 1) n b c at)

scope_small : (most : ℕ → ℕ) (bs : List Binder) → list_all (is_near_binder most) bs ≡ true → IsSmallScope most (scope_of bs)
scope_small most bs h n b c at =
    let all : 0 + n ≡ n = omega arith in
    subst (λ (s : ℕ). AreSmall (most s) (candidates b c)) all (listed_small most bs h (min (symbol_count bs) most_symbols) 0 n b c at)

few_symbols : (bs : List Binder) → length (scope_of bs) ≤ 256
few_symbols bs = subst (λ (m : ℕ). m ≤ 256) (sym (length-map-range_with_len (binding_of bs) 0 (min (symbol_count bs) most_symbols))) (least (symbol_count bs))
  where
    least : (m : ℕ) → min m 256 ≤ 256
    least m = omega arith

pub small_forms_rise : SmallFormsRise
small_forms_rise most little a p c n bs upper lower m k known first second room shown =
    at_most_last most little (scope_of bs) (scope_small most bs known) (few_symbols bs) upper lower m k first second room shown
