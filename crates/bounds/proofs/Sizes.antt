-- How large the constant ends are.
use Rattle.std.proofs.Common.{◌≡◌, ◌^◌, List, [], ◌∷◌, arith, refl, sym, ap, ◌∙◌, lit<}
use Rattle.std.specs.Prelude.{ℤ, pos, ◌-ℤ◌, map, fold, Option, Some, None, FitsSigned}
use Rattle.std.specs.Int.{int_min}
use Rattle.std.proofs.lemmas.Int.{ints, clamps}
use Rattle.lin.specs.Forms.{Form, number, IsWithin}
use Rattle.lin.specs.Search.{sup, sup_of_difference, smaller}
use Rattle.lin.specs.declared.scope.Binding.{Binding}
use Rattle.lin.proofs.Soundness.{difference-small, sup-small}
use Rattle.lin.proofs.Machine.{within_fits}
use Rattle.std.proofs.lemmas.Int.{to_z-of_z}
use Rattle.lin.specs.declared.span.Span1.{Span1}
use Rattle.bounds.specs.Spans.{depth, highest, both_ends, ends_of}
use Rattle.bounds.specs.declared.ends.Ends.{Ends}
use mir.Val.{to_z, of_z}
use mir.Syntax.{w64}

abbrev IsSmall : Option ℤ → Type 0
IsSmall found = (m : ℤ) → found ≡ Some m → IsWithin (2 ^ 40) m

smaller-small : (a b : Option ℤ) → IsSmall a → IsSmall b → IsSmall (smaller a b)
smaller-small None b ha hb = hb
smaller-small (Some x) None ha hb = ha
smaller-small (Some x) (Some y) ha hb = λ m e. let p : int_min x y ≡ m = cc in omega (arith, ints, clamps, p, ha x refl, hb y refl)

fold-small : (f : Form → Option ℤ) → ((g : Form) → IsSmall (f g)) → (a : Option ℤ) (fs : List Form) → IsSmall a → IsSmall (fold smaller a (map f fs))
fold-small f h a [] ha = ha
fold-small f h a (g ∷ gs) ha = fold-small f h (smaller a (f g)) gs (smaller-small a (f g) ha (h g))

pub depth_small : (scope : List Binding) (lowers : List Form) (m : ℤ) → Some m ≡ depth scope lowers → IsWithin (2 ^ 40) m
depth_small scope lowers m e = fold-small (λ f. sup_of_difference scope (number (pos 0)) f) (λ g. difference-small scope (number (pos 0)) g) None lowers (λ k q. cc) m (sym e)

pub highest_small : (scope : List Binding) (uppers : List Form) (m : ℤ) → Some m ≡ highest scope uppers → IsWithin (2 ^ 40) m
highest_small scope uppers m e = fold-small (λ f. sup scope f) (λ g. sup-small scope g) None uppers (λ k q. cc) m (sym e)

-- a number of 64 bits with room is itself
kept_bits : (m : ℤ) → IsWithin (2 ^ 40) m → to_z w64 (of_z w64 m) ≡ m
kept_bits m h = to_z-of_z w64 m (within_fits (2 ^ 40) m h (lit< tt))

opposite_small : (m : ℤ) → IsWithin (2 ^ 40) m → IsWithin (2 ^ 40) (pos 0 -ℤ m)
opposite_small m h = omega (arith, ints, h)

pub opposite_fits : (scope : List Binding) (lowers : List Form) (m : ℤ) → Some m ≡ depth scope lowers → FitsSigned w64 (pos 0 -ℤ to_z w64 (of_z w64 m))
opposite_fits scope lowers m e =
    let h = depth_small scope lowers m e in
    rw (kept_bits m h) (within_fits (2 ^ 40) (pos 0 -ℤ m) (opposite_small m h) (lit< tt))

abbrev ends_from : ℤ → ℤ → Ends
ends_from low high = record { low = low; high = high }

pub ends_found : (scope : List Binding) (s : Span1) (below high : ℤ) → Some below ≡ depth scope s.lower → Some high ≡ highest scope s.upper
    → Some (ends_from (to_z w64 (of_z w64 (pos 0 -ℤ to_z w64 (of_z w64 below)))) (to_z w64 (of_z w64 high))) ≡ ends_of scope s
ends_found scope s below high e1 e2 =
    let h = depth_small scope s.lower below e1 in
    let k = highest_small scope s.upper high e2 in
    let low = ap (λ (z : ℤ). to_z w64 (of_z w64 (pos 0 -ℤ z))) (kept_bits below h) ∙ kept_bits (pos 0 -ℤ below) (opposite_small below h) in
    let last = kept_bits high k in
    (λ i. Some (ends_from (low i) (last i))) ∙ (λ i. both_ends (e1 i) (e2 i))
