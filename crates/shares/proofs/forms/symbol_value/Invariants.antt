use Rattle.std.proofs.Common.{◌≡◌, take}
use Rattle.shares.specs.Lets.{symbols_at}
use Rattle.shares.proofs.forms.symbol_value.Given as goal

abbrev pub invariant-loop-value : goal.invariant-loop-value
invariant-loop-value l = l.found ≡ (symbols_at l.at (take l.value-index l.lets)).value l.symbol
