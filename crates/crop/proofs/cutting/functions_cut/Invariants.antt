use Rattle.std.proofs.Common.{◌≡◌, ◌++◌, map, drop}
use Rattle.std.specs.Prelude.{option_map}
use Rattle.algo.specs.Parts.{functions_of}
use Rattle.algo.specs.View.{algorithm_of}
use Rattle.crop.specs.Cutting.{functions_cut}
use Rattle.crop.specs.View.{cut_of, kept_of}
use Rattle.crop.proofs.cutting.functions_cut.Given as goal

-- what is made and what is left are all
abbrev pub invariant-loop-number : goal.invariant-loop-number
invariant-loop-number l =
    functions_of l.made.items
    ++ functions_cut (algorithm_of l.algo) (cut_of l.cut) l.number (drop l.number (algorithm_of l.algo).functions) (map (option_map kept_of) (drop l.number l.cut.kept.items))
    ≡ functions_cut (algorithm_of l.algo) (cut_of l.cut) 0 (algorithm_of l.algo).functions (map (option_map kept_of) l.cut.kept.items)
