use Rattle.std.proofs.Common.{◌≡◌, ◌++◌, drop}
use Rattle.crop.specs.Narrow.{wide_places}
use Rattle.crop.proofs.narrow.wide_places.Given as goal

abbrev pub invariant-loop-lexeme : goal.invariant-loop-lexeme
invariant-loop-lexeme l = wide_places 0 l.lexemes ≡ l.places.items ++ wide_places l.left (drop l.lexeme-index l.lexemes)
