use Rattle.std.proofs.Common.{◌≡◌, drop}
use Rattle.std.specs.Prelude.{◌↔◌}
use Rattle.plan.specs.Certificate.Cells.{grid_symbols}
use Rattle.shares.specs.Lets.{AreNear, ValuesAreSmall, named, namings_of, symbols_at}
use Rattle.shares.proofs.lets.near_values.Given as goal

abbrev pub invariant-loop-line : goal.invariant-loop-line
invariant-loop-line l = record {
  symbols : named (namings_of (drop l.line-index l.lets)) (symbols_at l.at l.values.items) ≡ named (namings_of l.lets) (grid_symbols l.at);
  small : ValuesAreSmall l.values.items;
  near : AreNear (namings_of (drop l.line-index l.lets)) (symbols_at l.at l.values.items) ↔ AreNear (namings_of l.lets) (grid_symbols l.at);
}
