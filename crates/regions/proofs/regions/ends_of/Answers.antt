use Rattle.std.proofs.Common.{◌≡◌, ◌-◌, length, Some, ap, sym, ◌∙◌}
use Rattle.bounds.specs.Projection.Projection.{projected_span}
use Rattle.sched.specs.Regions.{symbols_from}
use Rattle.regions.specs.Regions.{greatest_number, least_number}
use Rattle.regions.proofs.Places.{all_symbols, ends_found}
use Rattle.regions.proofs.regions.ends_of.Goals as goal

pub returns : goal.returns
returns c =
    let scope = c.args.scope.now in
    let s = c.args.span.now in
    let p = c.in_ok-found.found in
    let symbols : c.deref.result.now ≡ symbols_from 0 (length scope) =
    c.deref.ensures.value ∙ c.in_ok-symbols.ensures ∙ ap (λ n. symbols_from 0 (n - 0)) c.len.ensures ∙ all_symbols (length scope) in
    let found : projected_span scope (symbols_from 0 (length scope)) s ≡ Some p = ap (λ ss. projected_span scope ss s) (sym symbols) ∙ c.in_ok-found.ensures in
    let low : c.greatest_number.result ≡ greatest_number p.lower = c.greatest_number.ensures ∙ ap greatest_number c.as_slice.ensures in
    let high : c.least_number.result ≡ least_number p.upper = c.least_number.ensures ∙ ap least_number c.as_slice-2.ensures in
    ends_found scope s p c.greatest_number.result c.least_number.result c.ends_between.result found low high c.ends_between.ensures
