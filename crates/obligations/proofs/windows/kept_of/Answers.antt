use Rattle.std.proofs.Common.{◌≡◌, List, [], ◌++◌, drop, sym, ap, ◌∙◌}
use Rattle.std.specs.Prelude.{filter}
use Rattle.std.proofs.lemmas.List.{append-nil, drop_all}
use Rattle.plan.specs.View.{statement_of}
use Rattle.plan.specs.declared.certificate.cert.Window.{Window}
use Rattle.soundness.specs.Outline.View.{outline_in}
use Rattle.obligations.specs.Context.Around.{windows_of}
use Rattle.obligations.proofs.Kept.{is_kept, kept_is}
use Rattle.obligations.proofs.windows.kept_of.Goals as goal

pub returns : goal.returns
returns g c =
    let l = c.loop-window in
    let O = outline_in c.args.judge.now.outlined.now in
    let p = is_kept O c.args.symbol (statement_of c.args.body.now) c.args.line in
    let ws = windows_of l.kept.items in
    let items = c.windows-window-items.result.now in
    let none : drop l.window-index items ≡ [] = drop_all l.window-index items c.loop-window-test.false in
    sym (append-nil ws) ∙ ap (λ (xs : List Window). ws ++ filter p xs) (sym none) ∙ l.invariant
    ∙ sym (kept_is O (g.B.Bounds.rules c.args.judge.now.bounds.now) c.args.symbol (statement_of c.args.body.now) c.args.line)
