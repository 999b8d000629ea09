-- What is done at each point of a region.
use Rattle.std.specs.Prelude.{◌≡◌, ℕ, List, [], ◌∷◌, drop, length, ℤ, pos, ◌+ℤ◌, ◌-ℤ◌, flat_map, map, if◌then◌else◌}
use Rattle.lin.specs.declared.span.Span1.{Span1}
use Rattle.plan.specs.Symbols.{Symbols, rising, clipped, turns}
use Rattle.plan.specs.Certificate.Cells.{is_in_region}
use Rattle.plan.specs.Semantics.Actions.{Action, Take, Give}
use Rattle.interpreter.specs.Bindings.{symbols_of}
use Rattle.interpreter.specs.Narrow.{RegionIsNarrow}
use Rattle.interpreter.specs.Rows.{Listed}
use Rattle.interpreter.specs.declared.piece.Piece.{Piece}
use Rattle.interpreter.specs.declared.visits.Visit.{Visit}
use Rattle.interpreter.specs.declared.visits.Visit.TheVariants.{Fetch, Publish}

-- the numbers from one to another
abbrev pub between : ℤ → ℤ → List ℤ
between low high = rising low (clipped ((high +ℤ pos 1) -ℤ low))

-- the points of a region, each followed by these coordinates
abbrev pub extended : Symbols → List Span1 → List ℤ → List (List ℤ)
extended s [] p = p ∷ []
extended s (x ∷ xs) p = flat_map (λ q. map (λ z. z ∷ q) (turns s x)) (extended s xs p)

-- a fetch sets the cell of the point, and a line that publishes gives it where it is a cell of the group
abbrev pub at_point : Piece → Visit → List ℤ → List Action
at_point x (Fetch b f) p = Take b f.now p ∷ []
at_point x (Publish c) p = if is_in_region (symbols_of x.constants.now) x.group.now.region p then Give c p ∷ [] else []

-- the coordinates of the point are as before from the n-th on, and as many
pub record KeepsFrom (n : ℕ) (old new : Listed) : Type 0 where
  pub from : drop n new.items ≡ drop n old.items
  pub count : length new.items ≡ length old.items

-- the forms that are asked of each point are narrow
abbrev pub VisitIsNarrow : Piece → Visit → Type 0
VisitIsNarrow x (Fetch b f) = Unit {0}
VisitIsNarrow x (Publish c) = RegionIsNarrow (symbols_of x.constants.now) x.group.now.region
