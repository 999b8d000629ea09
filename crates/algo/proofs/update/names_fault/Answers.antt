use Rattle.std.proofs.Common.{◌≡◌, ◌-◌, ℕ, List, length, inl, inr, subst, arith}
use Rattle.std.specs.Prelude.{string_bytes}
use Rattle.std.proofs.lemmas.List.{length-map}
use Rattle.algo.specs.Scoping.Doubles.{IsFirstDouble}
use Rattle.algo.specs.Parts.{names_of}
use Rattle.algo.proofs.Placed.{reduction_doubled}
use Rattle.algo.proofs.update.names_fault.Goals as goal

pub returns-in-Some-clause-place : goal.returns-in-Some-clause-place
returns-in-Some-clause-place c =
    let i = c.in-Some.i in
    let own = c.args.own.now.1.variables.items in
    let s = c.args.statement.now in
    let doubled = subst (λ (names : List (List ℕ)). IsFirstDouble names i) c.requires.names c.in-Some.ensures.some in
    let count : length (names_of own) ≡ length own = length-map own string_bytes in
    let behind : c.saturating_sub.result ≡ i - length (names_of own) = omega (arith, c.saturating_sub.ensures, c.len.ensures, count) in
    inr (inl (reduction_doubled (names_of own) s.domains.items i c.saturating_sub.result s.name.span c.reduction_place.result c.requires.distinct doubled behind c.reduction_place.ensures))
