use Rattle.std.proofs.Common.{◌≡◌, ℕ, ◌-◌, List, sym, ap, subst}
use Rattle.lin.specs.declared.span.Span1.{Span1}
use Rattle.sched.specs.Stored.{stored_of}
use Rattle.blocks.specs.Making.{AddsClaim}
use Rattle.blocks.proofs.group.Body.claim_whole.Goals as goal

pub returns-clause-claimed : goal.returns-clause-claimed
returns-clause-claimed c =
    let old = c.args.self.now in
    let one = c.claim.new.self in
    let own = c.in_ok-claim.ensures in
    let x = (stored_of c.args.cast.root.now.stored.now).subject.name in
    let k = c.in_ok-line.line - 1 in
    let d = c.args.definition in
    let named : c.as_str-function.result.now ≡ x = c.as_str-function.ensures.value in
    let by_name : AddsClaim k 0 x d c.in_ok-region.region old.claims.items one.claims.items =
    subst (λ (y : List ℕ). AddsClaim k 0 y d c.in_ok-region.region old.claims.items one.claims.items) named own.claimed in
    let by_region : AddsClaim k 0 x d c.args.cast.claimed.now old.claims.items one.claims.items =
    subst (λ (r : List Span1). AddsClaim k 0 x d r old.claims.items one.claims.items) c.in_ok-region.ensures by_name in
    subst (λ (q : ℕ). AddsClaim q 0 x d c.args.cast.claimed.now old.claims.items one.claims.items) (ap (λ (q : ℕ). q - 1) (sym own.line)) by_region
