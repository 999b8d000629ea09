use Rattle.std.proofs.Common.{◌≡◌, [], ◌∷◌, ◌++◌, ap, ◌∙◌, arith}
use Rattle.validation.specs.Groups.Lines.{Here}
use Rattle.validation.specs.Groups.Sizes.{more}
use Rattle.validation.proofs.groups.here.Here.in_loop.Goals as goal

pub returns : goal.returns
returns c = λ group last.
    let e = c.in_ok-inner.ensures group last in
    let i = c.args.symbol in
    let symbols = c.in_ok-push.ensures.items ∙ ap (λ (h : Here). h.symbols ++ i ∷ []) e in
    let loops = c.in_ok-push-2.ensures.items ∙ ap (λ (h : Here). h.loops ++ i ∷ []) e in
    let before = ap (λ (h : Here). h.bound) e in
    let bound : c.saturating_add.result ≡ more c.args.self.now.bound 1 = omega (arith, before, c.saturating_add.ensures) in
    λ j. record {
      group = group;
      line = (e j).line;
      symbols = symbols j;
      loops = loops j;
      buffers = (e j).buffers;
      used = (e j).used;
      bound = bound j;
      held = (e j).held;
      fetching = (e j).fetching;
      last = (e j).last;
    }
