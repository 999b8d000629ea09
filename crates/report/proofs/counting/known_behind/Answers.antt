use Rattle.std.proofs.Common.{List, SFits, sym, subst, rules, w64}
use Rattle.plan.specs.declared.stmt.Stmt.{Stmt}
use Rattle.plan.specs.View.{statement_of}
use Rattle.plan.specs.Semantics.Actions.{after}
use Rattle.report.specs.declared.known.Binding.{Binding}
use Rattle.report.specs.Counting.{Fits}
use Rattle.report.specs.Known.{AllowsAll, AllSettled}
use Rattle.report.proofs.Lines.{read_back}
use Rattle.report.proofs.Tallies.{let_allowed, let_settled}
use Rattle.report.proofs.counting.known_behind.Goals as goal

pub returns-clause-allows : goal.returns-clause-allows
returns-clause-allows c = λ s allows fits.
    let k = c.in-Let in
    let low_fits : SFits w64 c.named-range.result.low = search rules in
    let high_fits : SFits w64 c.named-range.result.high = search rules in
    let narrow = subst (λ (a : Stmt). Fits (statement_of a) s) k.is fits in
    let h = c.named-range.ensures.holds s (subst (λ (l : List Binding). AllowsAll l s) (sym c.deref.ensures.value) allows) narrow in
    subst (λ (a : Stmt). AllowsAll c.push.new.self.items (after (statement_of a) s)) (sym k.is)
    (let_allowed c.args.known.now.items c.push.new.self.items _ k.symbol k.pick k.forms c.named-range.result s
    c.in_ok-push.ensures.items (read_back k.symbol c.named-range.result low_fits high_fits) allows h)

pub returns-clause-settled : goal.returns-clause-settled
returns-clause-settled c = λ all.
    let low_fits : SFits w64 c.named-range.result.low = search rules in
    let high_fits : SFits w64 c.named-range.result.high = search rules in
    let one = c.named-range.ensures.one (subst AllSettled (sym c.deref.ensures.value) all) in
    let_settled c.args.known.now.items c.push.new.self.items _ c.in-Let.symbol c.named-range.result
    c.in_ok-push.ensures.items (read_back c.in-Let.symbol c.named-range.result low_fits high_fits) all one
