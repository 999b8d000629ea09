-- Cells and pieces by their groups.
use Rattle.std.proofs.Common.{◌≡◌, ℕ, zero, suc, ◌+◌, ◌<◌, ◌≤◌, List, [], ◌∷◌, ◌++◌, length, map, get_or, drop, arith, ap, refl, ◌∙◌, subst, length-append, Some, drop-cons}
use Rattle.std.specs.Prelude.{All, slice_get}
use Rattle.std.specs.List.{range_with_len}
use Rattle.std.proofs.lemmas.List.{length-map}
use Rattle.std.proofs.lemmas.List.FromFn.{length-map-range_with_len}
use Rattle.std.proofs.lemmas.Option.{get_or_from_slice_get}
use Rattle.plan.specs.Plan.{Group}
use Rattle.plan.specs.View.{group_of}
use Rattle.plan.specs.declared.plan.Group.{Group as CodeGroup}
use Rattle.plan.specs.Certificate.Cells.{piece, cell, first_cell, first_piece, group_points, group_pieces, cells_from, pieces_from}

pub get_some : {A : Type 0} (xs : List A) (n : ℕ) (d : A) → n < length xs → slice_get xs n ≡ Some (get_or xs n d)
get_some [] n d h = absurd (omega (arith, h))
get_some (x ∷ xs) zero d h = refl
get_some (x ∷ xs) (suc n) d h = get_some xs n d (omega (arith, h))

pub get_mapped : {A B : Type 0} (f : A → B) (xs : List A) (n : ℕ) (d : A) → n < length xs → slice_get (map f xs) n ≡ Some (f (get_or xs n d))
get_mapped f [] n d h = absurd (omega (arith, h))
get_mapped f (x ∷ xs) zero d h = refl
get_mapped f (x ∷ xs) (suc n) d h = get_mapped f xs n d (omega (arith, h))

pub get_within : {A : Type 0} (xs : List A) (n : ℕ) (x : A) → slice_get xs n ≡ Some x → n < length xs
get_within [] n x e = absurd (cc e)
get_within (y ∷ ys) zero x e = omega arith
get_within (y ∷ ys) (suc n) x e = let h = get_within ys n x e in omega (arith, h)

-- what holds of all holds of the one at a place
pub all_at_place : {A : Type 0} (P : A → Type 0) (xs : List A) (n : ℕ) (x : A) → slice_get xs n ≡ Some x → All P xs → P x
all_at_place P [] n x e h = absurd (cc e)
all_at_place P (y ∷ ys) zero x e h = subst P (cc e) (h 0 x (omega arith))
all_at_place P (y ∷ ys) (suc n) x e h = all_at_place P ys n x e (λ k d less. h (suc k) d (omega (arith, less)))

pub some_same : {A : Type 0} (x y : A) → Some x ≡ Some y → x ≡ y
some_same x y e = cc e

pub push_each : {A : Type 0} (P : ℕ → A → Type 0) (xs : List A) (y : A) → ((n : ℕ) (x : A) → slice_get xs n ≡ Some x → P n x) → P (length xs) y → (n : ℕ) (x : A) → slice_get (xs ++ y ∷ []) n ≡ Some x → P n x
push_each P [] y h k zero x e = subst (P 0) (some_same y x e) k
push_each P [] y h k (suc n) x e = absurd (cc e)
push_each P (z ∷ zs) y h k zero x e = h 0 x e
push_each P (z ∷ zs) y h k (suc n) x e = push_each (λ m. P (suc m)) zs y (λ m. h (suc m)) k n x e

pub no_cells : (gs : List Group) → first_cell gs 0 ≡ 0
no_cells [] = refl
no_cells (g ∷ gs) = refl

pub no_pieces : (gs : List Group) → first_piece gs 0 ≡ 0
no_pieces [] = refl
no_pieces (g ∷ gs) = refl

pub cells_more : (gs : List Group) (n : ℕ) (g : Group) → slice_get gs n ≡ Some g → first_cell gs (suc n) ≡ first_cell gs n + length (group_points g)
cells_more [] n g e = absurd (cc e)
cells_more (x ∷ xs) zero g e =
    let same : length (group_points x) ≡ length (group_points g) = ap (λ (y : Group). length (group_points y)) (some_same x g e) in
    let none = no_cells xs in
    omega (arith, same, none)
cells_more (x ∷ xs) (suc n) g e = let h = cells_more xs n g e in omega (arith, h)

pub pieces_more : (gs : List Group) (n : ℕ) (g : Group) → slice_get gs n ≡ Some g → first_piece gs (suc n) ≡ first_piece gs n + group_pieces g
pieces_more [] n g e = absurd (cc e)
pieces_more (x ∷ xs) zero g e =
    let same : group_pieces x ≡ group_pieces g = ap group_pieces (some_same x g e) in
    let none = no_pieces xs in
    omega (arith, same, none)
pieces_more (x ∷ xs) (suc n) g e = let h = pieces_more xs n g e in omega (arith, h)

pub cells_most : (k : ℕ) (gs : List Group) (n : ℕ) (g : Group) → slice_get gs n ≡ Some g → first_cell gs n + length (group_points g) ≤ length (cells_from k gs)
cells_most k [] n g e = absurd (cc e)
cells_most k (x ∷ xs) zero g e =
    let same : length (group_points x) ≡ length (group_points g) = ap (λ (y : Group). length (group_points y)) (some_same x g e) in
    let long = length-append (map (cell k) (group_points x)) (cells_from (k + 1) xs) in
    let row = length-map (group_points x) (cell k) in
    omega (arith, same, long, row)
cells_most k (x ∷ xs) (suc n) g e =
    let h = cells_most (k + 1) xs n g e in
    let long = length-append (map (cell k) (group_points x)) (cells_from (k + 1) xs) in
    let row = length-map (group_points x) (cell k) in
    omega (arith, h, long, row)

pub pieces_most : (k : ℕ) (gs : List Group) (n : ℕ) (g : Group) → slice_get gs n ≡ Some g → first_piece gs n + group_pieces g ≤ length (pieces_from k gs)
pieces_most k [] n g e = absurd (cc e)
pieces_most k (x ∷ xs) zero g e =
    let same : group_pieces x ≡ group_pieces g = ap group_pieces (some_same x g e) in
    let long = length-append (map (piece x k) (range_with_len 0 (group_pieces x))) (pieces_from (k + 1) xs) in
    let row = length-map-range_with_len (piece x k) 0 (group_pieces x) in
    omega (arith, same, long, row)
pieces_most k (x ∷ xs) (suc n) g e =
    let h = pieces_most (k + 1) xs n g e in
    let long = length-append (map (piece x k) (range_with_len 0 (group_pieces x))) (pieces_from (k + 1) xs) in
    let row = length-map-range_with_len (piece x k) 0 (group_pieces x) in
    omega (arith, h, long, row)

pub cells_next : (gs : List Group) (n : ℕ) (g : Group) → slice_get gs n ≡ Some g → first_cell gs (n + 1) ≡ first_cell gs n + length (group_points g)
cells_next gs n g e = let one : n + 1 ≡ suc n = omega arith in ap (first_cell gs) one ∙ cells_more gs n g e

pub pieces_after : (gs : List Group) (n : ℕ) (g : Group) → slice_get gs n ≡ Some g → first_piece gs (n + 1) ≡ first_piece gs n + group_pieces g
pieces_after gs n g e = let one : n + 1 ≡ suc n = omega arith in ap (first_piece gs) one ∙ pieces_more gs n g e

pub pieces_next : (gs : List Group) (k n : ℕ) (d : Group) → n < length gs → pieces_from k (drop n gs) ≡ map (piece (get_or gs n d) k) (range_with_len 0 (group_pieces (get_or gs n d))) ++ pieces_from (k + 1) (drop (n + 1) gs)
pieces_next gs k n d h =
    let one : suc n ≡ n + 1 = omega arith in
    let row = map (piece (get_or gs n d) k) (range_with_len 0 (group_pieces (get_or gs n d))) in
    ap (pieces_from k) (drop-cons gs n d h) ∙ ap (λ (m : ℕ). row ++ pieces_from (k + 1) (drop m gs)) one

pub pieces_end : (gs : List Group) (k n : ℕ) → length gs ≤ n → pieces_from k (drop n gs) ≡ []
pieces_end [] k zero h = refl
pieces_end [] k (suc n) h = refl
pieces_end (x ∷ xs) k zero h = absurd (omega (arith, h))
pieces_end (x ∷ xs) k (suc n) h = pieces_end xs k n (omega (arith, h))

pub pieces_at : (gs : List Group) (k n : ℕ) (g : Group) → slice_get gs n ≡ Some g → pieces_from k (drop n gs) ≡ map (piece g k) (range_with_len 0 (group_pieces g)) ++ pieces_from (k + 1) (drop (n + 1) gs)
pieces_at gs k n g e =
    let later = pieces_from (k + 1) (drop (n + 1) gs) in
    pieces_next gs k n g (get_within gs n g e) ∙ ap (λ (h : Group). map (piece h k) (range_with_len 0 (group_pieces h)) ++ later) (get_or_from_slice_get gs n g g e)

pub group_below : (gs : List CodeGroup) (n : ℕ) → n < length gs → (g : CodeGroup) × (slice_get (map group_of gs) n ≡ Some (group_of g))
group_below [] n h = absurd (omega (arith, h))
group_below (g ∷ gs) zero h = (g, refl)
group_below (g ∷ gs) (suc n) h = group_below gs n (omega (arith, h))

pub cells_all : (k : ℕ) (gs : List Group) → first_cell gs (length gs) ≡ length (cells_from k gs)
cells_all k [] = refl
cells_all k (x ∷ xs) =
    let h = cells_all (k + 1) xs in
    let long = length-append (map (cell k) (group_points x)) (cells_from (k + 1) xs) in
    let row = length-map (group_points x) (cell k) in
    omega (arith, h, long, row)
