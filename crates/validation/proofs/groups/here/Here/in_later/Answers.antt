use Rattle.std.proofs.Common.{◌≡◌, ◌+◌, ap, arith}
use Rattle.plan.specs.Lines.{lines}
use Rattle.plan.specs.View.{statement_of}
use Rattle.validation.specs.Groups.Lines.{Here, on}
use Rattle.validation.specs.Groups.Sizes.{allotted, bound_in, held_in, more}
use Rattle.validation.proofs.groups.here.Here.in_later.Goals as goal

pub returns : goal.returns
returns c = λ group last.
    let e = c.in_ok-inner.ensures group last in
    let begun = ap (λ (h : Here). h.line) e in
    let before = ap (λ (h : Here). h.used) e in
    let line : c.saturating_add-2.result ≡ on c.args.self.now.line (lines (statement_of c.args.first.now) + 2) = omega (arith, begun, c.line_count.ensures, c.saturating_add.ensures, c.saturating_add-2.ensures) in
    let used : c.saturating_add-3.result ≡ more c.args.self.now.used (allotted (statement_of c.args.first.now)) = omega (arith, before, c.allotted.ensures, c.saturating_add-3.ensures) in
    let bound_before = ap (λ (h : Here). h.bound) e in
    let held_before = ap (λ (h : Here). h.held) e in
    let bound : c.saturating_add-4.result ≡ more c.args.self.now.bound (bound_in (statement_of c.args.first.now)) = omega (arith, bound_before, c.bound_in.ensures, c.saturating_add-4.ensures) in
    let held : c.saturating_add-5.result ≡ more c.args.self.now.held (held_in (statement_of c.args.first.now)) = omega (arith, held_before, c.held_in.ensures, c.saturating_add-5.ensures) in
    λ j. record {
      group = group;
      line = line j;
      symbols = (e j).symbols;
      loops = (e j).loops;
      buffers = (e j).buffers;
      used = used j;
      bound = bound j;
      held = held j;
      fetching = (e j).fetching;
      last = (e j).last;
    }
