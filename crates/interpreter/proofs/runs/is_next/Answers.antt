use Rattle.std.proofs.Common.{◌≡◌, ℤ, ap, sym, ◌∙◌, pos, arith, rules, w64, SFits, slice_index_or}
use Rattle.std.specs.Prelude.{◌+ℤ◌}
use Rattle.std.proofs.lemmas.Int.{to_z-of_z}
use Rattle.interpreter.proofs.Spots.{next_number}
use Rattle.interpreter.proofs.runs.is_next.Goals as goal

pub returns : goal.returns
returns c =
    let second = c.args.second.now in
    let y : ℤ = slice_index_or second 0 (pos 0) in
    let fits : SFits w64 y = search rules in
    let up : y ≡ c.args.first +ℤ pos 1 = sym (to_z-of_z w64 y fits) ∙ c.if-not-is_one_more.ensures ∙ ap (λ (x : ℤ). x +ℤ pos 1) (to_z-of_z w64 c.args.first c.ranges.first) in
    next_number second c.args.others.now c.args.first (omega (arith, c.in-len1-up.len_at_least)) up c.are_same.result c.are_same.ensures
