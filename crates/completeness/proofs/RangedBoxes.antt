-- The loops of reduction variables run over numbers near 0; and what is so of all loops is so of those of a nest.
use Rattle.std.proofs.Common.{Bool, true, false, List, ◌++◌, arith}
use Rattle.std.specs.Prelude.{filter, reverse}
use Rattle.std.specs.List.{AllByRecursion}
use Rattle.std.proofs.lemmas.Int.{ints}
use Rattle.bounds.proofs.ListSound.{all-append}
use Rattle.meaning.specs.Algorithm.{Range}
use Rattle.meaning.specs.Conditions.{IsRange}
use Rattle.sched.specs.declared.placing.Loop.{Loop}
use Rattle.sched.specs.declared.numbers.Numbers.{Numbers}
use Rattle.sched.specs.declared.nest.Turning.{Turning}
use Rattle.sched.specs.Skeleton.{BodyText, loop_turning, range_turning, is_in_nest, nest_loops, nest_turns}
use Rattle.completeness.proofs.PureNests.{all_back}
use Rattle.completeness.proofs.UpdateTurns.{all_filtered, all_mapped}
use Rattle.completeness.proofs.NearBoxes.{IsBoxTurn}

pub range_box : (d : Range) → IsRange d → IsBoxTurn (range_turning d)
range_box d is =
    let from = is.from in
    let rises = is.rises in
    let to = is.to in
    (omega (arith, ints, from, rises, to), omega (arith, ints, from, rises, to), rises)

-- what is so of all loops and of those of reduction variables is so of those of a nest
pub turns_all : (P : Turning → Type 0) (rs : List Numbers) (ls : List Loop) → AllByRecursion (λ o. P (loop_turning rs o)) ls → (b : BodyText) → AllByRecursion P b.ranges →
    AllByRecursion P (nest_turns b rs ls)
turns_all P rs ls each b ranges =
    let here : Loop → Type 0 = λ o. P (loop_turning rs o) in
    let some : (v : Bool) → AllByRecursion P (nest_loops b v rs ls) =
    λ v. all_mapped (loop_turning rs) P (filter (is_in_nest b v) (reverse ls))
    (all_filtered (is_in_nest b v) here (λ o. P (loop_turning rs o)) (λ o e h. h) (reverse ls) (all_back here ls each)) in
    all-append P (nest_loops b false rs ls ++ reverse b.ranges) (nest_loops b true rs ls)
    (all-append P (nest_loops b false rs ls) (reverse b.ranges) (some false) (all_back P b.ranges ranges)) (some true)
