-- The lines of a plan's text, counted.
use Rattle.std.proofs.Common.{◌≡◌, suc, ◌+◌, List, [], ◌∷◌, length, map, refl, ap, ◌∙◌}
use Rattle.nest.specs.Blocks.Flat.{plan_lines}
use Rattle.nest.proofs.Counted.{plan_count}
use Rattle.nest.specs.Spelling.{line_text}
use Rattle.nest.specs.Notation.{LinesAreCounted}

mapped_count : {X Y : Type 0} (f : X → Y) (xs : List X) → length (map f xs) ≡ length xs
mapped_count f [] = refl
mapped_count f (x ∷ xs) = ap suc (mapped_count f xs)

pub lines_counted : LinesAreCounted
lines_counted p = ap (λ n. n + 1) (mapped_count line_text (plan_lines p)) ∙ plan_count p
