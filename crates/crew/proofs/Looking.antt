-- Cells that are looked at together.
use Rattle.std.proofs.Common.{◌≡◌, ◌+◌, ℕ, ℤ, pos, List, [], ◌∷◌, ◌++◌, refl, sym, ap, ◌∙◌}
use Rattle.std.specs.Prelude.{drop, map, take}
use Rattle.std.proofs.lemmas.List.{map-append, take-append-drop}
use Rattle.board.specs.Layout.{value_at}
use Rattle.board.specs.Sheets.{bits_at}
use Rattle.board.specs.Words.{bits_of}
use Rattle.crew.specs.Private.{words_at}

-- the bits of cells as numbers are what is told of them
pub bits_told : (values : List ℤ) (cells : List ℕ) → map pos (bits_at values cells) ≡ words_at values cells
bits_told values [] = refl
bits_told values (c ∷ cs) = ap (λ (zs : List ℤ). pos (bits_of (value_at values c)) ∷ zs) (bits_told values cs)

-- what is told of the first of the cells, and then of the rest
pub told_in_two : (values : List ℤ) (n : ℕ) (cells : List ℕ) → words_at values (take n cells) ++ words_at values (drop n cells) ≡ words_at values cells
told_in_two values n cells =
    sym (map-append (λ c. pos (bits_of (value_at values c))) (take n cells) (drop n cells)) ∙ ap (words_at values) (take-append-drop n cells)
