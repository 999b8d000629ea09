use Rattle.std.proofs.Common.{◌≡◌, ◌<◌, ◌∙◌, ap, sym, ℕ, List, Some, None, map, Option, length, take, get_or, rules, arith}
use Rattle.std.proofs.lemmas.Grind.{common_steps}
use Rattle.plan.specs.Lines.{certificate_line}
use Rattle.plan.specs.View.{plan_of}
use Rattle.plan.specs.Certificate.Certificate.{certificate_of}
use Rattle.plan.specs.Certificate.Lines.{window_line}
use Rattle.plan.specs.declared.certificate.cert.Window.{Window}
use Rattle.soundness.specs.Outline.Refusals.Codes.{number_of}
use Rattle.soundness.specs.declared.outline.refusals.code.K.{K}
use Rattle.soundness.specs.Outline.Flaws.{Flaw, first_of as the_first}
use Rattle.validation.specs.declared.certificate.counted.CountedOutline.{CountedOutline}
use Rattle.validation.specs.Certificate.Counted.{group_counted}
use Rattle.validation.specs.Certificate.Lines.{told_at, window_line_flaws}
use Rattle.validation.specs.Certificate.Certificate.{window_is_known, is_used, span_is_within_limits, has_ends, window_flaws}
use Rattle.validation.proofs.Lines.{window_told, line_fine, line_flawed}
use Rattle.validation.proofs.certificate.window_lines.window_flaw.Goals as goal

pub returns-in-Some : goal.returns-in-Some
returns-in-Some c =
    let p = plan_of c.args.plan.now in
    let s = certificate_of c.args.cert.now in
    let items = c.args.cert.now.windows.items in
    let i = c.loop-index.index in
    let w = c.window-item.result in
    let line = window_line s (certificate_line p) i in
    let f = window_flaws p s in
    let flaw : ℕ → Flaw = λ n. record { code = number_of c.in-Some.code; line = n } in
    let groups : map group_counted c.deref-in-loop-index.result.now ≡ p.groups = ap (λ (xs : List CountedOutline). map group_counted xs) c.deref-in-loop-index.ensures.value ∙ c.in_ok-outlines.ensures in
    let earlier : take i c.deref.result.now ≡ take i items = ap (λ (xs : List Window). take i xs) c.deref.ensures.value in
    let here : Some (flaw c.window_line-line.result) ≡ the_first (f i w) =
    ap (λ (n : ℕ). Some (flaw n)) (c.window_line-line.ensures ∙ window_told s (certificate_line p) c.args.line i c.requires)
    ∙ ap (λ (o : Option K). told_at o line) (sym c.in-Some.is)
    ∙ c.in_ok-code.ensures line
    ∙ (λ j. the_first (window_line_flaws (window_is_known (groups j) s.claims w) (span_is_within_limits w.span) (is_used p s (earlier j) w) (has_ends w.span) line)) in
    let lt : i < length items = first_of (search rules, grind (arith, common_steps)) in
    let is : w ≡ get_or items i w = first_of (search rules, grind (arith, common_steps)) in
    line_flawed f items i w (flaw c.window_line-line.result) lt is here ∙ sym c.loop-index.invariant

pub loop-index-preserved : goal.loop-index-preserved
loop-index-preserved c =
    let p = plan_of c.args.plan.now in
    let s = certificate_of c.args.cert.now in
    let items = c.args.cert.now.windows.items in
    let i = c.loop-index.index in
    let w = c.window-item.result in
    let line = window_line s (certificate_line p) i in
    let f = window_flaws p s in
    let groups : map group_counted c.deref-in-loop-index.result.now ≡ p.groups = ap (λ (xs : List CountedOutline). map group_counted xs) c.deref-in-loop-index.ensures.value ∙ c.in_ok-outlines.ensures in
    let earlier : take i c.deref.result.now ≡ take i items = ap (λ (xs : List Window). take i xs) c.deref.ensures.value in
    let fine : None ≡ the_first (f i w) =
    ap (λ (o : Option K). told_at o line) (sym c.in_default.is)
    ∙ c.in_ok-code.ensures line
    ∙ (λ j. the_first (window_line_flaws (window_is_known (groups j) s.claims w) (span_is_within_limits w.span) (is_used p s (earlier j) w) (has_ends w.span) line)) in
    let lt : i < length items = first_of (search rules, grind (arith, common_steps)) in
    let is : w ≡ get_or items i w = first_of (search rules, grind (arith, common_steps)) in
    c.loop-index.invariant ∙ line_fine f items i w lt is fine
