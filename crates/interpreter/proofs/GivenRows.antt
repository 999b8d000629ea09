-- Rows of words as the numbers that they are.
use Rattle.std.proofs.Common.{◌≡◌, ℕ, zero, suc, ◌+◌, ◌<◌, ◌≤◌, List, [], ◌∷◌, ◌++◌, length, take, map, Option, Some, None, refl, sym, ap, ◌∙◌, arith, ℤ, pos, slice_set, slice_index_or}
use Rattle.std.specs.Prelude.{slice_get}
use Rattle.std.proofs.lemmas.List.{take_more, take_more_set, map-append, append_assoc, append-nil}
use Rattle.std.proofs.lemmas.Option.{get_or_from_slice_get}
use Rattle.numeric.specs.declared.ty.Ty.{Ty}
use Rattle.numeric.specs.Wrap.{wrap}
use Rattle.tree.specs.declared.value.Value.{Value}
use Rattle.plan.specs.Semantics.Found.{with}
use Rattle.interpreter.specs.Buffers.Marks.{held_places, narrow_mark}
use Rattle.interpreter.specs.RowVisits.{given_from}
use Rattle.interpreter.specs.declared.buffers.marks.Mark.{Mark}
use Rattle.interpreter.specs.declared.buffers.marks.Mark.TheVariants.{Unset}
use Rattle.interpreter.specs.declared.evaluation.lanes.Number.{Number}
use Rattle.interpreter.proofs.HeldPlaces.{marked_held}

-- one more word, whose number is put in
pub put_next : (t : Ty) (ws : List ℕ) (out : List ℤ) (k : ℕ) (z : ℤ) → k < length ws → k < length out → take k out ≡ map (λ w. wrap t (pos w)) (take k ws) → z ≡ wrap t (pos (slice_index_or ws k 0)) →
    take (k + 1) (slice_set out k z) ≡ map (λ w. wrap t (pos w)) (take (k + 1) ws)
put_next t ws out k z lt less so_far is =
    take_more_set out k z less
    ∙ (λ i. so_far i ++ is i ∷ [])
    ∙ sym (ap (map (λ w. wrap t (pos w))) (take_more ws k 0 lt) ∙ map-append (λ w. wrap t (pos w)) (take k ws) (slice_index_or ws k 0 ∷ []))

-- the numbers that the first places give, where they are set to values of a type whose numbers stand in words
pub given_words : (t : Ty) (ms : List Mark) (ws : List ℕ) (zs : List Number) (old : List ℤ) (count : ℕ) → count ≤ length ws → ((k : ℕ) → k < count → slice_get ms k ≡ Some (narrow_mark t)) →
    given_from (held_places ms ws zs) old count ≡ Some (old ++ map (λ w. wrap t (pos w)) (take count ws))
given_words t ms ws zs old zero le marked = ap (λ (l : List ℤ). Some l) (sym (append-nil old))
given_words t ms ws zs old (suc n) le marked =
    let more : n + 1 ≡ suc n = omega arith in
    let lt : n < length ws = omega (arith, le) in
    let there = get_or_from_slice_get ms n (narrow_mark t) Unset (marked n (omega arith)) in
    let z : ℤ = wrap t (pos (slice_index_or ws n 0)) in
    let front = map (λ w. wrap t (pos w)) (take n ws) in
    ap (λ (o : Option (List ℤ)). with o (λ ys. with (slice_index_or (held_places ms ws zs) n None) (λ v. Some (ys ++ v.number ∷ [])))) (given_words t ms ws zs old n (omega (arith, le)) (λ k less. marked k (omega (arith, less))))
    ∙ ap (λ (o : Option Value). with o (λ v. Some ((old ++ front) ++ v.number ∷ []))) (marked_held ms ws zs n t there)
    ∙ ap (λ (l : List ℤ). Some l)
    (append_assoc old front (z ∷ [])
    ∙ ap (λ (l : List ℤ). old ++ l) (sym (map-append (λ w. wrap t (pos w)) (take n ws) (slice_index_or ws n 0 ∷ [])) ∙ ap (map (λ w. wrap t (pos w))) (sym (take_more ws n 0 lt) ∙ ap (λ (m : ℕ). take m ws) more)))
