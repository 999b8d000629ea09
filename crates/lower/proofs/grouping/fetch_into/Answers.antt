use Rattle.std.proofs.Common.{◌≡◌, ℕ, ◌+◌, ◌-◌, List, refl, sym, ap, subst, ◌∙◌, arith}
use Rattle.std.specs.Global.{Vec}
use Rattle.lin.specs.declared.span.Span1.{Span1}
use Rattle.plan.specs.declared.certificate.cert.Need.{Need}
use Rattle.plan.specs.declared.certificate.cert.Window.{Window}
use Rattle.blocks.specs.declared.loading.Load.{Load}
use Rattle.blocks.specs.Fetches.{FetchText, last_number}
use Rattle.blocks.specs.Making.{AddsClaim}
use Rattle.sched.specs.Groups.{root_of}
use Rattle.lower.proofs.Claimed.{fetch_made}
use Rattle.lower.proofs.grouping.fetch_into.Goals as goal

pub returns-clause-made : goal.returns-clause-made
returns-clause-made c =
    let old = c.args.body.now in
    let one = c.claim.new.self in
    let e = root_of c.args.callee.now in
    let x = c.as_str-name.result in
    let found = c.args.found in
    let f : FetchText = record { buffer = old.next_buffer; function = x.now; places = found.places.items; group = c.args.group; region = found.region } in
    let need : Need = record { group = c.args.number; needed = c.args.group; region = found.needed } in
    let load : Load = record { function = x; claim = c.in_ok-claim.claim } in
    let own = c.in_ok-claim.ensures in
    let named : x.now ≡ e.0.subject.name = c.as_str-name.ensures.value in
    let next : c.in-Some.next ≡ old.next_buffer + 1 = omega (arith, c.in-Some.ensures) in
    let by_name : AddsClaim (c.in_ok-line.line - 1) old.next_buffer e.0.subject.name c.last_definition.result c.in_ok-region.region old.claims.items one.claims.items =
    subst (λ (y : List ℕ). AddsClaim (c.in_ok-line.line - 1) old.next_buffer y c.last_definition.result c.in_ok-region.region old.claims.items one.claims.items) named own.claimed in
    let by_number : AddsClaim (c.in_ok-line.line - 1) old.next_buffer e.0.subject.name (last_number e.2) c.in_ok-region.region old.claims.items one.claims.items =
    subst (λ (d : ℕ). AddsClaim (c.in_ok-line.line - 1) old.next_buffer e.0.subject.name d c.in_ok-region.region old.claims.items one.claims.items) c.last_definition.ensures by_name in
    let added : AddsClaim (c.in_ok-line.line - 1) old.next_buffer e.0.subject.name (last_number e.2) found.region old.claims.items one.claims.items =
    subst (λ (r : List Span1). AddsClaim (c.in_ok-line.line - 1) old.next_buffer e.0.subject.name (last_number e.2) r old.claims.items one.claims.items) c.in_ok-region.ensures by_number in
    fetch_made c.args.number c.args.group old.next_buffer (c.in_ok-line.line - 1) e f need load old _ one.loads.items added refl named refl refl refl c.requires
    (own.needs ∙ c.in_ok-push.ensures.items)
    (ap (λ (v : Vec Load). v.items) own.loads) c.in_ok-push-2.ensures.items refl own.numbered own.next refl next (own.line ∙ c.in_ok-line.ensures) (ap (λ (q : ℕ). q - 1) (sym own.line))
    (ap (λ (v : Vec Window). v.items) own.windows)
