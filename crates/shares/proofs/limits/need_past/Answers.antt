use Rattle.std.proofs.Common.{◌≡◌, ◌<◌, ◌≤◌, ◌+◌, ◌^◌, ℕ, List, [], ◌∷◌, length, take, ap, refl, sym, subst, arith, inl, inr}
use Rattle.std.proofs.lemmas.Bool.{cases_lt}
use Rattle.std.proofs.lemmas.List.{take_all}
use Rattle.plan.specs.Plan.{Plan}
use Rattle.plan.specs.View.{plan_of}
use Rattle.plan.specs.declared.certificate.cert.Need.{Need}
use Rattle.plan.specs.Certificate.Certificate.{Certificate, certificate_of}
use Rattle.plan.specs.Certificate.Cells.{pieces}
use Rattle.shares.specs.Counts.{with_lines, with_needs}
use Rattle.shares.specs.Has.{needed_before}
use Rattle.shares.proofs.Prefixes.{needed_none}
use Rattle.shares.proofs.limits.need_past.Goals as goal

no_items : (ns : List Need) → length ns ≤ 0 → ns ≡ []
no_items [] h = refl
no_items (n ∷ ns) h = absurd (omega (arith, h))

pub loop-low-init : goal.loop-low-init
loop-low-init c =
    let x = c.args.layout.now in
    let p : Plan = plan_of x.plan.now in
    let cert : Certificate = certificate_of x.cert.now in
    let count : List Need → ℕ = λ ns. needed_before p (with_lines cert ns) (length (pieces p)) in
    let none : count [] ≡ 0 = needed_none p cert (length (pieces p)) in
    let all = c.len-high.ensures in
    let many = c.requires.many in
    let whole : count (take c.len-high.result cert.needs) ≡ count cert.needs = ap count (take_all c.len-high.result cert.needs (omega (arith, all))) in
    record {
      apart = elim (cases_lt 0 c.len-high.result) [
        | inl some ↦ some
        | inr not ↦ absurd (many (let empty = ap count (no_items cert.needs (omega (arith, not, all))) in omega (arith, none, empty)))
      ];
      within = omega (arith, all);
      few = omega (arith, none);
      many = elim (cases_lt (2 ^ 24) (count cert.needs)) [ inl past ↦ omega (arith, past, whole) | inr fits ↦ absurd (many fits) ];
    }
