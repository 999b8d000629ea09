use Rattle.std.proofs.Common.{◌≡◌, sym, ◌∙◌, true, false, if◌then◌else◌, rules}
use Rattle.std.specs.Prelude.{int_le}
use Rattle.std.proofs.lemmas.Int.{to_z-of_z}
use Rattle.crop.specs.Moving.{clamp_of, clamp_plain, clamp_to}
use Rattle.crop.proofs.Rules.{kept32, le_told, more_told}
use Rattle.crop.proofs.plans.clamp_between.Goals as goal
use mir.Syntax.{w32}

pub returns-then-low-high : goal.returns-then-low-high
returns-then-low-high c =
    let l = c.args.low in
    let h = c.args.high in
    let test : int_le l h ≡ false = more_told l h _ _ c.if-low-high.true (to_z-of_z w32 l c.ranges.low) (to_z-of_z w32 h c.ranges.high) in
    let number = to_z-of_z w32 c.args.c c.ranges.c in
    λ x y f g k.
    c.clamp_plain.ensures x y f g k ∙ (λ i. clamp_plain (number i) f g k)
    ∙ (λ i. if sym test i then clamp_of c.args.c (clamp_to l h c.args.ends.low) (clamp_to l h c.args.ends.high) c.args.ends f else clamp_plain c.args.c f g k)

pub returns : goal.returns
returns c =
    let l = c.args.low in
    let h = c.args.high in
    let test : int_le l h ≡ true = le_told l h _ _ c.if-low-high.false (to_z-of_z w32 l c.ranges.low) (to_z-of_z w32 h c.ranges.high) in
    let number = to_z-of_z w32 c.args.c c.ranges.c in
    let first : c.clamp_to.result ≡ clamp_to l h c.args.ends.low = search rules in
    let second : c.clamp_to-2.result ≡ clamp_to l h c.args.ends.high = search rules in
    let from = kept32 c.clamp_to.result (clamp_to l h c.args.ends.low) (search rules) first in
    let to = kept32 c.clamp_to-2.result (clamp_to l h c.args.ends.high) (search rules) second in
    λ x y f g k.
    c.clamp_of.ensures x y f g k ∙ (λ i. clamp_of (number i) (from i) (to i) c.args.ends f)
    ∙ (λ i. if sym test i then clamp_of c.args.c (clamp_to l h c.args.ends.low) (clamp_to l h c.args.ends.high) c.args.ends f else clamp_plain c.args.c f g k)
