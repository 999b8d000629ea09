-- What was noted of a statement is enough for it.
use Rattle.std.proofs.Common.{◌≡◌, ℕ, zero, suc, ◌+◌, ◌*◌, ◌<◌, ◌≤◌, arith, List, [], ◌∷◌, ◌++◌, length, map, take, drop, drop-cons, get_or, add-one, refl, sym, ap, ◌∙◌, subst, ℤ}
use Rattle.std.specs.Prelude.{All}
use Rattle.std.specs.List.{AllByRecursion}
use Rattle.std.proofs.Math.Seq.{take-append_seam}
use Rattle.std.proofs.lemmas.List.Elements.{All-from_recursion, All-take, recursion_from_All}
use Rattle.plan.specs.declared.stmt.Places.{Places}
use Rattle.plan.specs.declared.stmt.Places.TheVariants.{From, Folded}
use Rattle.plan.specs.Plan.{Statement, Seq, For, Let, First, Guard, Alloc, Fetch, Store, Publish, Statements, Empty, Then}
use Rattle.plan.specs.Rooms.{room}
use Rattle.plan.specs.Symbols.{Symbols}
use Rattle.interpreter.specs.Buffers.Blocks.{HasMemoryFor}
use Rattle.interpreter.specs.Buffers.Raster.{place_count}
use Rattle.interpreter.specs.declared.buffers.limit.Limit.{Limit}
use Rattle.plan.specs.declared.stmt.Coordinate.{Coordinate as CodeCoordinate}
use Rattle.plan.specs.View.{coordinate_of}
use Rattle.interpreter.specs.LineCodes.{BlockIsCoded, StatementIsCoded}
use Rattle.interpreter.specs.Needs.{allotments, block_allotments, block_call_indices, block_coordinate_count, block_symbol_count, call_indices, coordinate_count, coordinate_indices}
use Rattle.interpreter.specs.Needs.{name_count, places_in, symbol_count, BlockFits, BlockIsShort, Kept, Space, StatementFits, StatementIsShort}
use Rattle.interpreter.specs.Targets.{indices_of, indices_of_all}

pub All-front : (P : Limit → Type 0) (xs ys : List Limit) → All P (xs ++ ys) → All P xs
All-front P xs ys h = subst (All P) (take-append_seam xs ys) (All-take P (length xs) (xs ++ ys) h)

pub All-back : (P : Limit → Type 0) (xs ys : List Limit) → All P (xs ++ ys) → All P ys
All-back P xs ys h = All-from_recursion P ys (of xs (recursion_from_All P (xs ++ ys) h))
  where
    of : (zs : List Limit) → AllByRecursion P (zs ++ ys) → AllByRecursion P ys
    of [] k = k
    of (z ∷ zs) k = of zs k.1

name_symbol : (a : Statement) → name_count a ≤ symbol_count a
name_symbol (Seq all) = omega arith
name_symbol (For i x kind body) = omega arith
name_symbol (Let i pick forms) = omega arith
name_symbol (First i a b) = omega arith
name_symbol (Guard low high body) = omega arith
name_symbol (Alloc b f places) = omega arith
name_symbol (Fetch b g region) = omega arith
name_symbol (Store b k at e) = omega arith
name_symbol (Publish c) = omega arith

-- each of these is enough for a statement
pub record IsEnough (space : Space) (a : Statement) : Type 0 where
  pub numbers : coordinate_count a ≤ space.numbers
  pub point : coordinate_count a ≤ space.point
  pub stack : call_indices a ≤ space.stack

pub record IsEnoughFor (space : Space) (all : Statements) : Type 0 where
  pub numbers : block_coordinate_count all ≤ space.numbers
  pub point : block_coordinate_count all ≤ space.point
  pub stack : block_call_indices all ≤ space.stack

module _ (own : Kept) (space : Space) (room : ℕ) (owned : own.count ≤ space.point) where
  abbrev Q : Limit → Type 0
  Q l = HasMemoryFor space.limits l.buffer l.places

  mutual
    pub fits : (a : Statement) (n : ℕ) → StatementIsShort a → StatementIsCoded own.codes a → All Q (allotments a) → n + symbol_count a ≤ room → IsEnough space a → StatementFits own space room a n
    fits (Seq all) n s d m h e = block_fits all n s d m h (record { numbers = e.numbers; point = e.point; stack = e.stack })
    fits (For i x kind body) n s d m h e = (omega arith, fits body (n + 1) s d m (omega arith) (record { numbers = e.numbers; point = e.point; stack = e.stack }))
    fits (Let i pick forms) n s d m h e = tt
    fits (First i a b) n s d m h e = (
      fits a n s.0 d.0 (All-front Q (allotments a) (allotments b) m) (omega arith) (record { numbers = omega arith; point = omega arith; stack = omega arith }),
      fits b n s.1 d.1 (All-back Q (allotments a) (allotments b) m) (omega arith) (record { numbers = omega arith; point = omega arith; stack = omega arith }),
    )
    fits (Guard low high body) n s d m h e = fits body n s d m h (record { numbers = e.numbers; point = e.point; stack = e.stack })
    fits (Alloc b f places) n s d m h e = (s, m 0 (record { buffer = b; places = places_in places }) (omega arith))
    fits (Fetch b g region) n s d m h e = e.point
    fits (Store b k at v) n s d m h e = (e.numbers, e.point, e.stack, d)
    fits (Publish c) n s d m h e = owned

    block_fits : (all : Statements) (n : ℕ) → BlockIsShort all → BlockIsCoded own.codes all → All Q (block_allotments all) → n + block_symbol_count all ≤ room → IsEnoughFor space all
        → BlockFits own space room all n
    block_fits Empty n s d m h e = tt
    block_fits (Then a rest) n s d m h e =
        let named = name_symbol a in (
          fits a n s.0 d.0 (All-front Q (allotments a) (block_allotments rest) m) (omega arith) (record { numbers = omega arith; point = omega arith; stack = omega arith }),
          omega arith,
          block_fits rest (n + name_count a) s.1 d.1 (All-back Q (allotments a) (block_allotments rest) m) (omega arith) (record { numbers = omega arith; point = omega arith; stack = omega arith }),
        )

-- the places of a buffer are as many whatever its symbols are
pub counted : (s : Symbols) (ps : List Places) → place_count (map (room s) ps) ≡ places_in ps
counted s [] = refl
counted s (From l n ∷ ps) = ap (λ m. m * n) (counted s ps)
counted s (Folded n ∷ ps) = ap (λ m. m * n) (counted s ps)

pub parts : {A : Type 0} (f : A → ℤ) (cs : List A) (n : ℕ) → length (take n cs) + length (drop n (map f cs)) ≡ length cs
parts f [] zero = refl
parts f [] (suc n) = refl
parts f (c ∷ cs) zero = let h = parts f cs 0 in omega arith
parts f (c ∷ cs) (suc n) = let h = parts f cs n in omega arith

-- the indices in what finds coordinates, read at the code's list
pub indices_mapped : (cs : List CodeCoordinate) → indices_of_all cs ≡ coordinate_indices (map coordinate_of cs)
indices_mapped [] = refl
indices_mapped (c ∷ cs) = ap (λ n. indices_of c + n) (indices_mapped cs)

-- those from the i-th on
pub indices_left : List CodeCoordinate → ℕ → ℕ
indices_left cs i = indices_of_all (drop i cs)

pub indices_left_all : (cs : List CodeCoordinate) → indices_left cs 0 ≡ indices_of_all cs
unfolding indices_left
indices_left_all cs = refl

pub indices_left_more : (cs : List CodeCoordinate) (i : ℕ) (c : CodeCoordinate) → i < length cs → c ≡ get_or cs i c → indices_left cs i ≡ indices_of c + indices_left cs (i + 1)
unfolding indices_left
indices_left_more cs i c lt is =
    ap indices_of_all (drop-cons cs i c lt ∙ ap (λ (x : CodeCoordinate). x ∷ drop (suc i) cs) (sym is)) ∙ ap (λ (n : ℕ). indices_of c + indices_of_all (drop n cs)) (sym (add-one i))

-- a part of the coordinates has no more
pub indices_of_part : (n : ℕ) (cs : List CodeCoordinate) → indices_of_all (take n cs) ≤ indices_of_all cs
indices_of_part zero [] = omega arith
indices_of_part (suc n) [] = omega arith
indices_of_part zero (c ∷ cs) = omega arith
indices_of_part (suc n) (c ∷ cs) = let h = indices_of_part n cs in omega arith

pub part_short : (cs : List CodeCoordinate) (n : ℕ) → length (take n cs) ≤ length cs
part_short [] zero = omega arith
part_short [] (suc n) = omega arith
part_short (c ∷ cs) zero = omega arith
part_short (c ∷ cs) (suc n) = let h = part_short cs n in omega arith
