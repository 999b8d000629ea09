-- The number of the line `cert` behind a plan that was read is small.
use Rattle.std.proofs.Common.{◌≡◌, ℕ, ◌+◌, ◌-◌, ◌^◌, ◌≤◌, min, List, [], ◌∷◌, length, Bool, true, nat_le, ◌&&◌, refl, sym, ap, ◌∙◌, subst, arith}
use Rattle.std.proofs.lemmas.Bool.{and_parts, leb-true}
use Rattle.plan.specs.Plan.{Plan}
use Rattle.plan.specs.Lines.{certificate_line}
use Rattle.spelling.specs.Lines.Lines.{is_within, are_within}
use Rattle.spelling.specs.Lines.Texts.{IsTextOf}
use Rattle.nest.specs.Notation.{plan_notation, LinesAreCounted}

few : (n : ℕ) (ls : List (List ℕ)) → are_within n ls ≡ true → n ≤ 65537 → length ls + n ≤ 65537
few n [] h bound = omega arith
few n (l ∷ ls) h bound =
    let p = and_parts (is_within n l) (are_within (n + 1) ls) h in
    let q = and_parts (nat_le n 65536) (nat_le (length l) 65536) p.0 in
    let le = leb-true n 65536 q.0 in
    let rest = few (n + 1) ls p.1 (omega arith) in
    omega arith

pub not_capped : (text : List ℕ) (p : Plan) → LinesAreCounted → IsTextOf plan_notation 1 text p → min (certificate_line p) (2 ^ 32 - 1) ≡ certificate_line p
not_capped text p counted said =
    let small = few 1 (plan_notation.lines p) said.within (omega arith) in
    let is = counted p in
    omega arith
