-- Which actions count.
use Rattle.std.specs.Prelude.{ℕ, Bool, List, count_by, Option, Some, None}
use Rattle.plan.specs.Plan.{Plan}
use Rattle.plan.specs.Certificate.Certificate.{Certificate}
use Rattle.plan.specs.Certificate.Cells.{Piece, pieces}
use Rattle.plan.specs.Semantics.Actions.{Action}
use Rattle.report.specs.declared.subject.Deed.{Deed}
use Rattle.report.specs.declared.subject.Deed.TheVariants.{Store, Fetch}
use Rattle.report.specs.Actions.{all_actions, is_fetch_of, is_store_of, piece_actions}

abbrev pub is_deed_of : Deed → List ℕ → Action → Bool
is_deed_of Store f = is_store_of f
is_deed_of Fetch f = is_fetch_of f

-- how often a piece, if there is one, does it
abbrev pub deeds_in : Plan → Certificate → Deed → List ℕ → Option Piece → ℕ
deeds_in p c d f None = 0
deeds_in p c d f (Some x) = count_by (is_deed_of d f) (piece_actions p c x)

-- and how often all pieces do
abbrev pub deeds : Plan → Certificate → Deed → List ℕ → ℕ
deeds p c d f = count_by (is_deed_of d f) (all_actions p c)
