use Rattle.std.proofs.Common.{◌≡◌, ◌++◌, drop}
use Rattle.std.specs.Prelude.{filter}
use Rattle.plan.specs.View.{statement_of}
use Rattle.soundness.specs.Outline.View.{outline_in}
use Rattle.obligations.specs.Context.Around.{windows_of}
use Rattle.obligations.proofs.Kept.{is_kept}
use Rattle.obligations.proofs.windows.kept_of.Given as goal

abbrev pub invariant-loop-window : goal.invariant-loop-window
invariant-loop-window g l =
    let p = is_kept (outline_in l.judge.outlined.now) l.symbol (statement_of l.body) l.line in
    windows_of l.kept.items ++ filter p (drop l.window-index l.window-items) ≡ filter p (outline_in l.judge.outlined.now).windows
