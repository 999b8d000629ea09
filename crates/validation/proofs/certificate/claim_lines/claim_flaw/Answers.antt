use Rattle.std.specs.Prelude.{◌&&◌, nat_lt}
use Rattle.std.proofs.Common.{◌≡◌, ◌+◌, ◌<◌, ◌∙◌, ap, sym, ℕ, List, Some, None, map, Option, drop, length, get_or, rules, arith}
use Rattle.std.proofs.lemmas.Grind.{common_steps}
use Rattle.plan.specs.Lines.{certificate_line}
use Rattle.plan.specs.View.{plan_of}
use Rattle.plan.specs.Certificate.Certificate.{certificate_of, claim_of}
use Rattle.plan.specs.Certificate.Lines.{claim_line}
use Rattle.algo.specs.View.{algorithm_of}
use Rattle.soundness.specs.Outline.Refusals.Codes.{number_of}
use Rattle.soundness.specs.declared.outline.refusals.code.K.{K}
use Rattle.soundness.specs.Outline.Flaws.{Flaw, first_of as the_first}
use Rattle.soundness.specs.Outline.Forms.{spans_are_within_limits, have_ends}
use Rattle.plan.specs.declared.certificate.cert.Claim.{Claim}
use Rattle.validation.specs.declared.certificate.counted.CountedOutline.{CountedOutline}
use Rattle.validation.specs.Certificate.Counted.{group_counted}
use Rattle.validation.specs.Certificate.Lines.{told_at, line_flaws}
use Rattle.validation.specs.Certificate.Certificate.{claim_is_known, claim_flaws}
use Rattle.validation.proofs.Lines.{claim_told, each_line-map, line_fine, line_flawed}
use Rattle.validation.proofs.certificate.claim_lines.claim_flaw.Goals as goal

pub returns-in-Some : goal.returns-in-Some
returns-in-Some c =
    let a = algorithm_of c.args.algo.now in
    let p = plan_of c.args.plan.now in
    let s = certificate_of c.args.cert.now in
    let items = c.args.cert.now.claims.items in
    let i = c.loop-index.index in
    let x = c.claim-item.result in
    let line = claim_line s (certificate_line p) i in
    let f : ℕ → Claim → List Flaw = λ j y. claim_flaws a p s j (claim_of y) in
    let flaw : ℕ → Flaw = λ n. record { code = number_of c.in-Some.code; line = n } in
    let groups : map group_counted c.deref.result.now ≡ p.groups = ap (λ (xs : List CountedOutline). map group_counted xs) c.deref.ensures.value ∙ c.in_ok-outlines.ensures in
    let here : Some (flaw c.claim_line-line.result) ≡ the_first (f i x) =
    ap (λ (n : ℕ). Some (flaw n)) (c.claim_line-line.ensures ∙ claim_told s (certificate_line p) c.args.line i c.requires)
    ∙ ap (λ (o : Option K). told_at o line) (sym c.in-Some.is)
    ∙ c.in_ok-code.ensures line
    ∙ (λ j. the_first (line_flaws (claim_is_known (c.funcs-functions.ensures j) (groups j) (claim_of x)) (spans_are_within_limits x.region) (have_ends x.region && nat_lt i 4096) line)) in
    let lt : i < length items = first_of (search rules, grind (arith, common_steps)) in
    let is : x ≡ get_or items i x = first_of (search rules, grind (arith, common_steps)) in
    line_flawed f items i x (flaw c.claim_line-line.result) lt is here
    ∙ sym (ap the_first (each_line-map claim_of (claim_flaws a p s) i (drop i items))) ∙ sym c.loop-index.invariant

pub loop-index-preserved : goal.loop-index-preserved
loop-index-preserved c =
    let a = algorithm_of c.args.algo.now in
    let p = plan_of c.args.plan.now in
    let s = certificate_of c.args.cert.now in
    let items = c.args.cert.now.claims.items in
    let i = c.loop-index.index in
    let x = c.claim-item.result in
    let line = claim_line s (certificate_line p) i in
    let f : ℕ → Claim → List Flaw = λ j y. claim_flaws a p s j (claim_of y) in
    let groups : map group_counted c.deref.result.now ≡ p.groups = ap (λ (xs : List CountedOutline). map group_counted xs) c.deref.ensures.value ∙ c.in_ok-outlines.ensures in
    let fine : None ≡ the_first (f i x) =
    ap (λ (o : Option K). told_at o line) (sym c.in_default.is)
    ∙ c.in_ok-code.ensures line
    ∙ (λ j. the_first (line_flaws (claim_is_known (c.funcs-functions.ensures j) (groups j) (claim_of x)) (spans_are_within_limits x.region) (have_ends x.region && nat_lt i 4096) line)) in
    let lt : i < length items = first_of (search rules, grind (arith, common_steps)) in
    let is : x ≡ get_or items i x = first_of (search rules, grind (arith, common_steps)) in
    c.loop-index.invariant
    ∙ ap the_first (each_line-map claim_of (claim_flaws a p s) i (drop i items))
    ∙ line_fine f items i x lt is fine
    ∙ sym (ap the_first (each_line-map claim_of (claim_flaws a p s) (i + 1) (drop (i + 1) items)))
