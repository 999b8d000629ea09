use Rattle.std.proofs.Common.{◌≡◌, ◌∷◌, ◌-◌, ◌^◌, [], IfOk, sym, ap, ◌∙◌, subst, ℕ, List, min, Option, None}
use Rattle.std.specs.List.{list_any}
use Rattle.plan.specs.View.{statement_of}
use Rattle.soundness.specs.declared.outline.refusals.code.Flaw.{Flaw}
use Rattle.soundness.specs.declared.outline.refusals.code.K.TheVariants.{K6}
use Rattle.soundness.specs.Obligations.{Obligation, follows, obligation, Named, NotMade}
use Rattle.soundness.specs.Outline.View.{outline_in}
use Rattle.obligations.specs.Context.Around.{known_of}
use Rattle.obligations.specs.Around.{asked_by_claims, asked_of_turn}
use Rattle.obligations.specs.Asked.{first_unmet, unless}
use Rattle.obligations.proofs.Unmet.{go_one, go_append}
use Rattle.obligations.proofs.claiming.unmet_update.Goals as goal

pub returns : goal.returns
returns g c =
    let O = outline_in c.args.judge.now.outlined.now in
    let R = g.B.Bounds.rules c.args.judge.now.bounds.now in
    let N = g.T.NestTests.nests c.args.judge.now.tests.now in
    let P = c.args.judge.now.part in
    let k = c.args.known.now in
    let earlier = list_any (λ d. follows O R d c.args.claim) k.own.items in
    let first : Obligation = obligation O R NotMade (R.claim_line c.args.claim) (known_of k []) (Named earlier) in
    let turn : Obligation = asked_of_turn O R c.args.begin k (statement_of c.args.stmt.now) c.args.claim in
    let rest = asked_by_claims O R k c.args.claim k.own.items in
    let told : unless P K6 (min (R.claim_line c.args.claim) (2 ^ 32 - 1)) earlier ≡ None =
    ap (λ (ds : List ℕ). unless P K6 (min (R.claim_line c.args.claim) (2 ^ 32 - 1)) (list_any (λ d. follows O R d c.args.claim) ds)) (sym c.deref.ensures.value)
    ∙ (λ i. unless P K6 (sym c.claim_line.ensures i) (sym c.has_earlier-has.ensures i)) ∙ sym c.unless.ensures ∙ c.in_default.is in
    let turned : first_unmet R N P (turn ∷ []) ≡ None = sym c.in_ok-flaw.ensures ∙ c.in_default-2.is in
    let whole : first_unmet R N P (first ∷ turn ∷ rest) ≡ first_unmet R N P (asked_by_claims O R k c.args.claim c.deref-2.result.now) =
    go_one R N P first (turn ∷ rest) told ∙ go_append R N P (turn ∷ []) rest turned
    ∙ ap (λ (ds : List ℕ). first_unmet R N P (asked_by_claims O R k c.args.claim ds)) (sym c.deref-2.ensures.value) in
    subst (λ (o : Option Flaw). IfOk c.unmet_regions.result (λ flaw. flaw ≡ o)) (sym whole) c.unmet_regions.ensures
