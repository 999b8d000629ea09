-- What is promised of windows.
use Rattle.std.specs.Prelude.{◌≡◌, ℕ, true, List}
use Rattle.lin.specs.declared.span.Span1.{Span1}
use Rattle.plan.specs.declared.certificate.cert.Window.{Window}
use Rattle.plan.specs.declared.stmt.Places.{Places}
use Rattle.plan.specs.Plan.{Statement}
use Rattle.plan.specs.Symbols.{Symbols}
use Rattle.soundness.specs.Origins.{Given}
use Rattle.soundness.specs.Around.{Binder, Respects, inside}
use Rattle.soundness.specs.Sliding.{IsSliding}
use Rattle.soundness.specs.Obligations.{Rules, Suited}
use Rattle.tails.specs.Windows.Spans.{is_window, IsWindow}
use Rattle.tails.specs.Windows.Arms.{is_slid, is_held}

-- a span that the test says yes to is a window, whatever the symbols stand for
abbrev pub WindowsAreRight : Type 0
WindowsAreRight =
    (given : Given) (rules : Rules) (bs : List Binder) (i n : ℕ) (x : Span1) (s : Symbols) →
    Suited given rules → is_window rules bs i n x ≡ true → Respects bs s → IsWindow bs i n x s

-- a claim that slides along a window that holds does so at all values of the symbols
abbrev pub SlidIsMeant : Type 0
SlidIsMeant =
    (given : Given) (rules : Rules) (bs : List Binder) (c : ℕ) (w : Window) (places : List Places) (a : Statement) (s : Symbols) →
    Suited given rules → ((f : List ℕ) → given.steps f 0 ≡ 0) →
    is_slid given.outline.setting rules bs (given.outline.claim c) places w a ≡ true →
    is_held given.outline.setting rules bs (given.outline.claim c) places w a ≡ true →
    Respects bs s → IsSliding given w.symbol (inside w.symbol bs) c places a s
