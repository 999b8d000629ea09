use Rattle.std.proofs.Common.{◌≡◌, map, drop}
use Rattle.std.specs.Prelude.{option_map}
use Rattle.algo.specs.View.{algorithm_of}
use Rattle.crop.specs.Cutting.{kept_named}
use Rattle.crop.specs.View.{kept_of}
use Rattle.crop.proofs.lookup.kept_named.Given as goal

-- what is left has the same kept for the name
abbrev pub invariant-loop-number : goal.invariant-loop-number
invariant-loop-number l =
    kept_named (drop l.number (algorithm_of l.algo).functions) (map (option_map kept_of) (drop l.number l.cut.kept.items)) l.name
    ≡ kept_named (algorithm_of l.algo).functions (map (option_map kept_of) l.cut.kept.items) l.name
