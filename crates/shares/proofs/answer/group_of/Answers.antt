use Rattle.std.proofs.Common.{◌≡◌, refl, sym, subst, Option}
use Rattle.std.specs.Prelude.{MatchOption}
use Rattle.plan.specs.Certificate.Cells.{Piece}
use Rattle.shares.proofs.Seated.{piece_is}
use Rattle.shares.proofs.answer.group_of.Goals as goal

pub returns : goal.returns
returns c = subst (λ (o : Option Piece). MatchOption o ⊥ (λ j. j.group ≡ c.index.result.now.group)) (sym (piece_is c.args.layout.now c.requires.layout c.args.piece c.index.result.now c.requires.piece c.index.ensures)) refl
