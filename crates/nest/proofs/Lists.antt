-- Lists of coordinates.
use Rattle.std.proofs.Common.{◌≡◌, ◌&&◌, Bool, List, [], ◌∷◌, ◌++◌, map, refl, ap}
use Rattle.std.specs.List.{list_all, flat_map}

pub all_of_map : {X Y : Type 0} (f : Y → Bool) (g : X → Y) (xs : List X) → list_all f (map g xs) ≡ list_all (λ x. f (g x)) xs
all_of_map f g [] = refl
all_of_map f g (x ∷ xs) = ap (λ b. f (g x) && b) (all_of_map f g xs)

pub flat_of_map : {X Y Z : Type 0} (f : Y → List Z) (g : X → Y) (xs : List X) → flat_map f (map g xs) ≡ flat_map (λ x. f (g x)) xs
flat_of_map f g [] = refl
flat_of_map f g (x ∷ xs) = ap (λ w. f (g x) ++ w) (flat_of_map f g xs)
