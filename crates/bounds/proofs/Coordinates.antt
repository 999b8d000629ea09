-- The span of a coordinate, name by name.
use Rattle.std.proofs.Common.{◌≡◌, ℕ, zero, suc, ◌<◌, List, [], ◌∷◌, length, drop, get_or, map, Bool, true, false, Some, None, arith, refl, sym, ap, ◌∙◌, slice_get}
use Rattle.std.specs.Prelude.{nat_eq, if◌then◌else◌}
use Rattle.std.specs.Cmp.Lexicographic.{pointwise}
use Rattle.lin.specs.declared.span.Span1.{Span1}
use Rattle.bounds.specs.Interval.{span_named}

no_span : (names : List (List ℕ)) (name : List ℕ) → span_named names [] name ≡ None
no_span [] name = refl
no_span (x ∷ xs) name = refl

no_span_left : (names : List (List ℕ)) (p : ℕ) (name : List ℕ) → span_named names (drop p []) name ≡ None
no_span_left names zero name = no_span names name
no_span_left names (suc p) name = no_span names name

-- past a name that is another, what is left has the same span of the name
pub past_other : {X : Type 0} (f : X → List ℕ) (xs : List X) (ss : List Span1) (name : List ℕ) (p : ℕ) (d : X) → p < length xs
    → pointwise nat_eq (f (get_or xs p d)) name ≡ false → span_named (map f (drop p xs)) (drop p ss) name ≡ span_named (map f (drop (suc p) xs)) (drop (suc p) ss) name
past_other f [] ss name p d h g = absurd (omega arith)
past_other f (y ∷ ys) [] name p d h g = no_span_left (map f (drop p (y ∷ ys))) p name ∙ sym (no_span (map f (drop p ys)) name)
past_other f (y ∷ ys) (s ∷ ss) name zero d h g = ap (λ (b : Bool). if b then Some s else span_named (map f ys) ss name) g
past_other f (y ∷ ys) (s ∷ ss) name (suc p) d h g = past_other f ys ss name p d (omega arith) g

-- where the name is this one, its span is the one at that place
pub at_name : {X : Type 0} (f : X → List ℕ) (xs : List X) (ss : List Span1) (name : List ℕ) (p : ℕ) (d : X) → p < length xs
    → pointwise nat_eq (f (get_or xs p d)) name ≡ true → span_named (map f (drop p xs)) (drop p ss) name ≡ slice_get ss p
at_name f [] ss name p d h t = absurd (omega arith)
at_name f (y ∷ ys) [] name zero d h t = refl
at_name f (y ∷ ys) [] name (suc p) d h t = no_span (map f (drop p ys)) name
at_name f (y ∷ ys) (s ∷ ss) name zero d h t = ap (λ (b : Bool). if b then Some s else span_named (map f ys) ss name) t
at_name f (y ∷ ys) (s ∷ ss) name (suc p) d h t = at_name f ys ss name p d (omega arith) t
