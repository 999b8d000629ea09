use Rattle.std.proofs.Common.{rules, ◌≡◌, [], ◌∷◌, ◌++◌, Some, subst, arith, w64}
use mir.Val.{SFits}
use Rattle.std.specs.Prelude.{ℤ, pos, neg_ℤ}
use Rattle.std.specs.Int.{saturate_signed}
use Rattle.std.proofs.lemmas.Int.{to_z-of_z}
use Rattle.lin.specs.Forms.{number, combined}
use Rattle.blocks.specs.Rounded.{names_seen, next_name, none_below, rests_from, rests_seen}
use Rattle.blocks.proofs.Naming.{rests_more}
use Rattle.blocks.proofs.counting.Names.+rests.Goals as goal

pub returns : goal.returns
returns t c =
    let k = c.args.factor in
    let left = c.args.left in
    let firsts = c.args.firsts.items in
    let n = names_seen c.args.self.now in
    let further = c.in-Some.further in
    let z = c.saturating_neg.result in
    let g = c.in_ok-rest.rest in
    let next = c.in_ok-left.left in
    let fs = c.push.new.self.items in
    let m = names_seen c.none_below.new.self in
    let fits : SFits w64 k = first_of (search rules, assumption c) in
    let is : rests_from k further next fs m ≡ Some (rests_seen c.in_ok-rests.rests (names_seen c.rests.new.self)) =
    subst (λ (x : ℤ). rests_from x further next fs m ≡ Some (rests_seen c.in_ok-rests.rests (names_seen c.rests.new.self))) (to_z-of_z w64 k fits) c.in_ok-rests.ensures in
    let named : m ≡ none_below left n = first_of (assumption c, search rules) in
    let put : fs ≡ firsts ++ g ∷ [] = first_of (assumption c, search rules) in
    let told : combined (number z) (pos 1) g ≡ Some next = first_of (assumption c, search rules) in
    let by : z ≡ saturate_signed w64 (neg_ℤ k) = first_of (assumption c, search rules) in
    let last : g ≡ next_name n = first_of (assumption c, search rules) in
    rests_more k left firsts n c.args.count further z g next fs m _ is named put told by last (omega (arith, c.in-Some.ensures)) (omega (arith, c.in-Some.ensures))
