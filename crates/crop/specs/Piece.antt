-- What a function that is cut becomes.
use Rattle.std.specs.Prelude.{ℕ, List, take}
use Rattle.lin.specs.declared.span.Span1.{Span1}
use Rattle.meaning.specs.Algorithm.{Change, Function}
use Rattle.meaning.specs.Conditions.{callable}
use Rattle.algo.specs.Parts.{names_of, function_of}
use Rattle.algo.specs.View.{algorithm_of}
use Rattle.crop.specs.declared.piece.Piece.{Piece}
use Rattle.crop.specs.Moving.{Move}
use Rattle.crop.specs.Cutting.{move_over, pure_move, change_cut, function_cut}
use Rattle.crop.specs.View.{cut_of, kept_of}

-- the function as it is
abbrev pub whole : Piece → Function
whole p = function_of (p.name.now, p.function.now)

-- the move of a definition that may call the first functions, over a region with these names
abbrev pub move_in : Piece → ℕ → List (List ℕ) → List Span1 → Move
move_in p count names region =
    move_over (algorithm_of p.algo.now) (cut_of p.cut.now) (callable (algorithm_of p.algo.now) (take count (algorithm_of p.algo.now).functions))
    (names_of p.function.now.variables.items) p.kept.now.origin.items names region

-- the move of its pure definition
abbrev pub pure_in : Piece → Move
pure_in p = pure_move (algorithm_of p.algo.now) (cut_of p.cut.now) p.number (whole p) (kept_of p.kept.now)

-- an update of it, cut
abbrev pub change_in : Piece → Change → Change
change_in p = change_cut (algorithm_of p.algo.now) (cut_of p.cut.now) p.number (whole p) (kept_of p.kept.now)

-- the function, cut
abbrev pub function_in : Piece → Function
function_in p = function_cut (algorithm_of p.algo.now) (cut_of p.cut.now) p.number (whole p) (kept_of p.kept.now)
