-- Lists of which one is too short, and the last of a list.
use Rattle.std.proofs.Common.{◌≡◌, ℕ, ◌-◌, ◌<◌, ◌≤◌, List, [], ◌∷◌, ◌++◌, length, take, map, get_or, false, refl, arith, ℤ, pos, All}
use Rattle.std.specs.List.{AllByRecursion}
use Rattle.std.proofs.lemmas.List.Elements.{All-from_recursion, recursion_from_All}
use Rattle.std.proofs.lemmas.Grind.{common_steps}
use Rattle.meaning.specs.Image.Raster.{is_within}
use Rattle.lin.specs.declared.span.Span1.{Span1}
use Rattle.meaning.specs.Names.{bound}
use Rattle.plan.specs.Symbols.{Symbols}
use Rattle.plan.specs.Certificate.Cells.{is_in_region}

pub within_short : (es : List ℕ) (at : List ℤ) → 1 ≤ length es → length at < 1 → false ≡ is_within es at
within_short [] at h g = absurd (omega arith)
within_short (e ∷ es) [] h g = refl
within_short (e ∷ es) (z ∷ zs) h g = absurd (omega arith)

pub bound_short : (names : List (List ℕ)) (zs : List ℤ) (name : List ℕ) → length zs < 1 → pos 0 ≡ bound names zs name
bound_short [] zs name g = refl
bound_short (x ∷ xs) [] name g = refl
bound_short (x ∷ xs) (z ∷ zs) name g = absurd (omega arith)

pub region_short : (s : Symbols) (xs : List Span1) (p : List ℤ) → 1 ≤ length xs → length p < 1 → false ≡ is_in_region s xs p
region_short s [] p h g = absurd (omega arith)
region_short s (x ∷ xs) [] h g = refl
region_short s (x ∷ xs) (z ∷ zs) h g = absurd (omega arith)

-- a list by its last element
pub by_last : {A : Type 0} (xs : List A) (d : A) → 1 ≤ length xs → xs ≡ take (length xs - 1) xs ++ get_or xs (length xs - 1) d ∷ []
by_last xs d h = grind (arith, common_steps)

each_unmapped : {X Y : Type 0} (P : Y → Type 0) (f : X → Y) (xs : List X) → AllByRecursion P (map f xs) → AllByRecursion (λ x. P (f x)) xs
each_unmapped P f [] h = tt
each_unmapped P f (x ∷ xs) h = (h.0, each_unmapped P f xs h.1)

-- what holds of each element's image
pub all_unmapped : {X Y : Type 0} (P : Y → Type 0) (f : X → Y) (xs : List X) → All P (map f xs) → All (λ x. P (f x)) xs
all_unmapped P f xs h = All-from_recursion (λ x. P (f x)) xs (each_unmapped P f xs (recursion_from_All P (map f xs) h))

each_mapped : {X Y : Type 0} (P : Y → Type 0) (f : X → Y) (xs : List X) → AllByRecursion (λ x. P (f x)) xs → AllByRecursion P (map f xs)
each_mapped P f [] h = tt
each_mapped P f (x ∷ xs) h = (h.0, each_mapped P f xs h.1)

pub all_mapped : {X Y : Type 0} (P : Y → Type 0) (f : X → Y) (xs : List X) → All (λ x. P (f x)) xs → All P (map f xs)
all_mapped P f xs h = All-from_recursion P (map f xs) (each_mapped P f xs (recursion_from_All (λ x. P (f x)) xs h))
