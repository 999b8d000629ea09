-- Lists that are put down item by item.
use Rattle.std.proofs.Common.{◌≡◌, ℕ, ◌+◌, ◌<◌, List, [], ◌∷◌, ◌++◌, length, map, take, get_or, zero, suc, Some, refl, sym, ap, ◌∙◌, append_assoc}
use Rattle.std.specs.Prelude.{slice_get}
use Rattle.std.specs.List.{flat_map}
use Rattle.std.proofs.lemmas.List.{append-nil, map_more}

pub flat_map-append : {X Y : Type 0} (f : X → List Y) (xs ys : List X) → flat_map f (xs ++ ys) ≡ flat_map f xs ++ flat_map f ys
flat_map-append f [] ys = refl
flat_map-append f (x ∷ xs) ys = ap (λ zs. f x ++ zs) (flat_map-append f xs ys) ∙ sym (append_assoc (f x) (flat_map f xs) (flat_map f ys))

-- an item more, behind what was put down of those before it
pub more : {X Y Z : Type 0} (f : Y → List Z) (view : X → Y) (xs : List X) (i : ℕ) (x : X) (start now next : List Z) → i < length xs → x ≡ get_or xs i x
    → now ≡ start ++ flat_map f (map view (take i xs)) → next ≡ now ++ f (view x) → next ≡ start ++ flat_map f (map view (take (i + 1) xs))
more f view xs i x start now next lt is so_far one =
    let front = map view (take i xs) in
    let m : map view (take (i + 1) xs) ≡ front ++ view x ∷ [] = map_more view xs i x lt ∙ ap (λ y. front ++ view y ∷ []) (sym is) in
    one
    ∙ ap (λ zs. zs ++ f (view x)) so_far
    ∙ append_assoc start (flat_map f front) (f (view x))
    ∙ ap (λ zs. start ++ (flat_map f front ++ zs)) (sym (append-nil (f (view x))))
    ∙ ap (λ zs. start ++ zs) (sym (flat_map-append f front (view x ∷ [])))
    ∙ ap (λ ys. start ++ flat_map f ys) (sym m)

got : {X : Type 0} (xs : List X) (i : ℕ) (x : X) → Some x ≡ slice_get xs i → x ≡ get_or xs i x
got [] i x h = absurd cc
got (y ∷ ys) zero x h = cc
got (y ∷ ys) (suc i) x h = got ys i x h

-- the same where the item was asked for
pub more_got : {X Y Z : Type 0} (f : Y → List Z) (view : X → Y) (xs : List X) (i : ℕ) (x : X) (start now next : List Z) → i < length xs → Some x ≡ slice_get xs i
    → now ≡ start ++ flat_map f (map view (take i xs)) → next ≡ now ++ f (view x) → next ≡ start ++ flat_map f (map view (take (i + 1) xs))
more_got f view xs i x start now next lt is so_far one = more f view xs i x start now next lt (got xs i x is) so_far one
