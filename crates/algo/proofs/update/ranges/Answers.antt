use Rattle.std.proofs.Common.{◌≡◌, map, All, subst, refl, ap, List, [], ◌∷◌}
use Rattle.meaning.specs.Algorithm.{Range}
use Rattle.meaning.specs.Conditions.{IsRange}
use Rattle.expr.specs.declared.statements.statement.Domain.{Domain}
use Rattle.expr.specs.Statements.View.{domain_text}
use Rattle.algo.specs.Saying.{range_said}
use Rattle.algo.specs.Keeping.{OnLimit}
use Rattle.algo.specs.Faults.{BadRangeAt, OneRangeAt, OnlyLimit}
use Rattle.algo.proofs.Lists.{All-at}
use Rattle.algo.proofs.Placed.{item_at, tells-weaker, only_limit}
use Rattle.algo.proofs.Answered.{breaks-weaker, on_limit}
use Rattle.algo.proofs.update.ranges.Goals as goal

at_once : (ds : List Domain) → map range_said (map domain_text ds) ≡ map (λ d. range_said (domain_text d)) ds
at_once [] = refl
at_once (d ∷ ds) = ap (λ l. range_said (domain_text d) ∷ l) (at_once ds)

pub returns-in-Err-clause-refused : goal.returns-in-Err-clause-refused
returns-in-Err-clause-refused c =
    breaks-weaker (OnLimit (IsRange (range_said (domain_text c.domain-item.result)))) (OnLimit (All IsRange (map range_said (map domain_text c.args.domains.now)))) c.in-Err.error
    (on_limit (IsRange (range_said (domain_text c.domain-item.result))) (All IsRange (map range_said (map domain_text c.args.domains.now)))
    (λ h. All-at IsRange (λ d. range_said (domain_text d)) c.args.domains.now c.loop-domain.domain-index c.domain-item.result c.domain-item.is c.loop-domain-test.true (subst (λ (l : List Range). All IsRange l) (at_once c.args.domains.now) h))) c.in-Err.ensures.said

pub returns-in-Err-clause-place : goal.returns-in-Err-clause-place
returns-in-Err-clause-place c =
    let d = c.domain-item.result in
    let ds = c.args.domains.now in
    let stands = item_at ds c.loop-domain.domain-index d c.domain-item.is c.loop-domain-test.true in
    tells-weaker (OnlyLimit (BadRangeAt d)) (OnlyLimit (OneRangeAt ds)) c.in-Err.error (only_limit (BadRangeAt d) (OneRangeAt ds) (λ at h. (c.loop-domain.domain-index, d, stands, h))) c.in-Err.ensures.place
