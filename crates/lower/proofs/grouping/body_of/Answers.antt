use Rattle.std.proofs.Common.{rules, ◌≡◌, ℕ, ◌+◌, ◌-◌, List, [], ◌++◌, map, Some, Err, ap, sym, subst, ◌∙◌, arith}
use Rattle.std.proofs.lemmas.List.{append-nil}
use Rattle.std.specs.Global.{Vec}
use Rattle.plan.specs.declared.certificate.cert.Window.{Window}
use Rattle.plan.specs.declared.stmt.Stmt.{Stmt}
use Rattle.plan.specs.declared.stmt.Places.{Places}
use Rattle.lin.specs.declared.span.Span1.{Span1}
use Rattle.plan.specs.Lists.{list_statements}
use Rattle.blocks.specs.Blocks.{dimensions_of, claimed_region, own_places}
use Rattle.blocks.specs.Bodies.{IsBodyWith, body}
use Rattle.blocks.specs.Fetches.{fetch_seen}
use Rattle.algo.specs.View.{algorithm_of}
use Rattle.blocks.specs.Making.{NestsMade}
use Rattle.lower.specs.Making.{BodyMade}
use Rattle.sched.specs.Groups.{root_of}
use Rattle.sched.specs.Placed.{SoFar, inner_seen}
use Rattle.blocks.specs.Placed.{seat_of, so_far, group_owner, nests_over_grid}
use Rattle.lower.specs.Groups.{MixedMade}
use Rattle.lower.proofs.Claimed.{whole_made}
use Rattle.lower.proofs.Grouped.{mixed_made}
use Rattle.lower.proofs.Unplanned.{unwritten_told, written_told}
use Rattle.lower.proofs.grouping.body_of.Goals as goal

pub returns-clause-made : goal.returns-clause-made
returns-clause-made c = λ alone.
    let a = algorithm_of c.args.algo.now in
    let all = map root_of c.args.roots.now in
    let n = c.args.beginning.number in
    let first = c.args.beginning.claim in
    let e = root_of c.args.root.now in
    let old = c.args.certificate.now in
    let new = c.certify.new.certificate in
    let two = c.nests_of.new.self in
    let published : c.saturating_sub-claim.result ≡ two.next_claim - 1 = omega (arith, c.saturating_sub-claim.ensures) in
    let line = c.args.beginning.line in
    let ds = dimensions_of e.0 e.1.region e.1.skeleton in
    let fetches = map fetch_seen c.in_ok-fetches.fetches.items in
    let nests = list_statements c.in_ok-nests.nests.items in
    let b = body (list_statements c.in_ok-statements.statements.items) in
    let over : c.in_ok-claimed.claimed ≡ claimed_region ds = c.in_ok-claimed.ensures ∙ ap claimed_region c.requires in
    let nested : NestsMade e.0 e.2 (claimed_region ds) 0 e.1.skeleton.nests nests c.fetches_from.new.body two =
    subst (λ (r : List Span1). NestsMade e.0 e.2 r 0 e.1.skeleton.nests nests c.fetches_from.new.body two) over (c.in_ok-nests.ensures.made alone) in
    let seated : c.in_ok-places.places.items ≡ own_places ds = c.in_ok-places.ensures ∙ ap own_places c.requires in
    let with : IsBodyWith e.0 e.1.skeleton (own_places ds) fetches nests c.saturating_sub-claim.result b =
    subst (λ (l : List Places). IsBodyWith e.0 e.1.skeleton l fetches nests c.saturating_sub-claim.result b) seated c.in_ok-statements.ensures in
    let made = whole_made a all n first line e c.in_ok-body.body c.fetches_from.new.body two (map fetch_seen c.in_ok-fetches.fetches.items) (list_statements
    c.in_ok-nests.nests.items) c.saturating_sub-claim.result
    (body (list_statements c.in_ok-statements.statements.items)) old.claims.items new.claims.items old.needs.items new.needs.items c.in_ok-body.ensures.begun (c.in_ok-fetches.ensures.made alone)
    nested published c.in_ok-certify.ensures.claims c.in_ok-certify.ensures.needs with in
    let told = subst (λ (v : Vec Stmt). BodyMade a all n first line two.line e old.claims.items new.claims.items old.needs.items new.needs.items (body (list_statements v.items)))
    (sym c.finish.ensures.statements) made in
    subst (λ (q : ℕ). BodyMade a all n first line q e old.claims.items new.claims.items old.needs.items new.needs.items (body (list_statements c.finish.new.self.statements.items)))
    (sym (c.finish.ensures.line ∙ c.in_ok-certify.ensures.line)) told

pub returns-clause-windows : goal.returns-clause-windows
returns-clause-windows c = λ alone.
    let old = c.args.certificate.now.windows.items in
    let none : c.nests_of.new.self.windows.items ≡ [] = (c.in_ok-nests.ensures.made alone).held ∙ ((c.in_ok-fetches.ensures.made alone).held ∙ c.in_ok-body.ensures.begun.windows) in
    c.in_ok-certify.ensures.windows ∙ (ap (λ (l : List Window). old ++ l) none ∙ append-nil old)

pub returns-clause-mixed : goal.returns-clause-mixed
returns-clause-mixed c = λ some.
    let all = map root_of c.args.roots.now in
    let n = c.args.beginning.number in
    let first = c.args.beginning.claim in
    let line = c.args.beginning.line in
    let is = map inner_seen c.args.inners.now in
    let e = root_of c.args.root.now in
    let old = c.args.certificate.now in
    let new = c.certify.new.certificate in
    let one = c.fetches_from.new.body in
    let two = c.nests_of.new.self in
    let published : c.saturating_sub-claim.result ≡ two.next_claim - 1 = omega (arith, c.saturating_sub-claim.ensures) in
    let ds = dimensions_of e.0 e.1.region e.1.skeleton in
    let fetches = map fetch_seen c.in_ok-fetches.fetches.items in
    let nests = list_statements c.in_ok-nests.nests.items in
    let b = body (list_statements c.in_ok-statements.statements.items) in
    let over : c.in_ok-claimed.claimed ≡ claimed_region ds = c.in_ok-claimed.ensures ∙ ap claimed_region c.requires in
    let made : nests_over_grid is (group_owner e (claimed_region ds)) e.1.skeleton (so_far one) ≡ Some (nests, so_far two) =
    subst (λ (r : List Span1). nests_over_grid is (group_owner e r) e.1.skeleton (so_far one) ≡ Some (nests, so_far two)) over (c.in_ok-nests.ensures.mixed some) in
    let seated : c.in_ok-places.places.items ≡ own_places ds = c.in_ok-places.ensures ∙ ap own_places c.requires in
    let with : IsBodyWith e.0 e.1.skeleton (own_places ds) fetches nests c.saturating_sub-claim.result b =
    subst (λ (l : List Places). IsBodyWith e.0 e.1.skeleton l fetches nests c.saturating_sub-claim.result b) seated c.in_ok-statements.ensures in
    let told : MixedMade all n first line (two.line + 1) is e old new b =
    mixed_made all n first line is e c.in_ok-body.body one two fetches nests c.saturating_sub-claim.result b old new c.in_ok-body.ensures.begun c.in_ok-body.ensures.symbols
    c.in_ok-body.ensures.seats c.in_ok-fetches.ensures.fetched made published c.in_ok-certify.ensures.claims c.in_ok-certify.ensures.needs c.in_ok-certify.ensures.windows with in
    let by_statements : MixedMade all n first line (two.line + 1) is e old new (body (list_statements c.finish.new.self.statements.items)) =
    subst (λ (v : Vec Stmt). MixedMade all n first line (two.line + 1) is e old new (body (list_statements v.items))) (sym c.finish.ensures.statements) told in
    subst (λ (q : ℕ). MixedMade all n first line (q + 1) is e old new (body (list_statements c.finish.new.self.statements.items)))
    (sym (c.finish.ensures.line ∙ c.in_ok-certify.ensures.line)) by_statements

pub returns-clause-told : goal.returns-clause-told
returns-clause-told c =
    let e = root_of c.args.root.now in
    let one = so_far c.fetches_from.new.body in
    let state = c.in_ok-fetches.ensures.fetched.state in
    let over : c.in_ok-claimed.claimed ≡ claimed_region (dimensions_of e.0 e.1.region e.1.skeleton) = c.in_ok-claimed.ensures ∙ ap claimed_region c.requires in
    written_told (algorithm_of c.args.algo.now) (map root_of c.args.roots.now) c.args.beginning.number c.args.inners.now e c.in_ok-claimed.claimed one
    (list_statements c.in_ok-nests.nests.items, so_far c.nests_of.new.self) c.in_ok-fetches.ensures.told over (ap (λ (p : SoFar). p.symbol) state ∙ c.in_ok-body.ensures.symbols)
    (ap (λ (p : SoFar). p.seats) state ∙ ap (map seat_of) c.in_ok-body.ensures.seats) c.in_ok-nests.ensures.told c.in_ok-nests.ensures.mixed

pub returns-in_err-nests-clause-told : goal.returns-in_err-nests-clause-told
returns-in_err-nests-clause-told c =
    let e = root_of c.args.root.now in
    let one = so_far c.fetches_from.new.body in
    let state = c.in_ok-fetches.ensures.fetched.state in
    let s = c.in_err-nests.field-0.0 in
    let stop : c.from_residual-in_err-nests.result ≡ Err s = search rules in
    let over : c.in_ok-claimed.claimed ≡ claimed_region (dimensions_of e.0 e.1.region e.1.skeleton) = c.in_ok-claimed.ensures ∙ ap claimed_region c.requires in
    unwritten_told (algorithm_of c.args.algo.now) (map root_of c.args.roots.now) c.args.beginning.number c.args.inners.now e c.in_ok-claimed.claimed one s
    c.from_residual-in_err-nests.result _ stop c.in_ok-fetches.ensures.told over (ap (λ (p : SoFar). p.symbol) state ∙ c.in_ok-body.ensures.symbols)
    (ap (λ (p : SoFar). p.seats) state ∙ ap (map seat_of) c.in_ok-body.ensures.seats) c.in_err-nests.ensures.told c.in_err-nests.ensures.mixed
