-- Pieces counted through the groups.
use Rattle.std.proofs.Common.{◌≡◌, ℕ, zero, suc, ◌+◌, ◌-◌, ◌*◌, ◌^◌, min, ◌<◌, ◌≤◌, List, [], ◌∷◌, ◌++◌, map, take, length, get_or, Some, refl, ap, ◌∙◌, subst, arith}
use Rattle.std.specs.Prelude.{slice_get}
use Rattle.std.specs.List.{range_with_len}
use Rattle.std.proofs.lemmas.List.{take_more, length-append}
use Rattle.std.proofs.lemmas.List.FromFn.{length-map-range_with_len}
use Rattle.plan.specs.Plan.{Group}
use Rattle.plan.specs.View.{group_of}
use Rattle.plan.specs.declared.plan.Group.{Group as CodeGroup}
use Rattle.interpreter.proofs.Sufficing.{group_at as code_group_at}
use Rattle.plan.specs.Certificate.Cells.{group_pieces, piece, piece_count, pieces_from, first_piece}

-- ---- products

mul_three : (a b c : ℕ) → a * (b * c) ≡ a * b * c
mul_three a b c = grind arith

count_more : (xs : List ℕ) (n : ℕ) → piece_count (xs ++ n ∷ []) ≡ piece_count xs * n
count_more [] n = omega arith
count_more (x ∷ xs) n = ap (λ v. x * v) (count_more xs n) ∙ mul_three x (piece_count xs) n

-- one extent more
pub count_next : (xs : List ℕ) (i d : ℕ) → i < length xs → piece_count (take (i + 1) xs) ≡ piece_count (take i xs) * get_or xs i d
count_next xs i d l = ap piece_count (take_more xs i d l) ∙ count_more (take i xs) (get_or xs i d)

-- ---- groups

none_before : (gs : List Group) → first_piece gs 0 ≡ 0
none_before [] = refl
none_before (x ∷ xs) = refl

pub first_next : (gs : List Group) (i : ℕ) (g : Group) → slice_get gs i ≡ Some g → first_piece gs (i + 1) ≡ first_piece gs i + group_pieces g
first_next [] i g e = absurd (cc e)
first_next (x ∷ xs) zero g e =
    let same : x ≡ g = cc in
    let none = none_before xs in
    let size : group_pieces x ≡ group_pieces g = ap group_pieces same in
    omega (arith, none, size)
first_next (x ∷ xs) (suc i) g e =
    let later : suc i + 1 ≡ suc (i + 1) = omega arith in
    let rest = first_next xs i g e in
    let sums : group_pieces x + first_piece xs (i + 1) ≡ (group_pieces x + first_piece xs i) + group_pieces g = omega (arith, rest) in
    ap (first_piece (x ∷ xs)) later ∙ sums

-- nothing comes before the first group
pub none_first : (gs : List Group) (n : ℕ) → n ≡ first_piece gs 0 + n
none_first gs n = let none = none_before gs in omega (arith, none)

pub all_pieces : (k : ℕ) (gs : List Group) → length (pieces_from k gs) ≡ first_piece gs (length gs)
all_pieces k [] = refl
all_pieces k (x ∷ xs) =
    length-append (map (piece x k) (range_with_len 0 (group_pieces x))) (pieces_from (k + 1) xs)
    ∙ (λ i. length-map-range_with_len (piece x k) 0 (group_pieces x) i + all_pieces (k + 1) xs i)

-- the pieces of one group more are passed
pub passed : (first next size piece rank count : ℕ) → count ≡ min size (2 ^ 64 - 1) → next ≡ first + size → piece ≡ first + rank → count ≤ rank → rank < 2 ^ 32 → piece ≡ next + (rank - count)
passed first next size piece rank count e f g l s = omega arith

-- behind all groups there is no piece
pub past : (gs : List Group) (i piece rank : ℕ) → i ≡ length gs → piece ≡ first_piece gs i + rank → piece < length (pieces_from 0 gs) → ⊥
past gs i piece rank end at inside =
    let total = all_pieces 0 gs in
    let same : first_piece gs i ≡ first_piece gs (length gs) = ap (first_piece gs) end in
    omega (arith, total, same, at, inside)

-- the group that stands at a place of the code's list
pub group_at : (gs items : List CodeGroup) (i : ℕ) (x : CodeGroup) → items ≡ gs → i < length items → x ≡ get_or items i x → slice_get (map group_of gs) i ≡ Some (group_of x)
group_at gs items i x same l is =
    let of_items : slice_get (map group_of items) i ≡ Some (group_of x) = code_group_at items i x l is in
    subst (λ (xs : List CodeGroup). slice_get (map group_of xs) i ≡ Some (group_of x)) same of_items
