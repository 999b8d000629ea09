-- A call of the input is bounded where its indices are on the extents.
use Rattle.std.proofs.Common.{◌≡◌, ℕ, Bool, true, List, Option, Some, Result, if◌then◌else◌, ap, sym, subst, ◌∙◌}
use Rattle.lin.specs.declared.span.Span1.{Span1}
use Rattle.meaning.specs.Algorithm.{Algorithm}
use Rattle.meaning.specs.Names.{same_name}
use Rattle.algo.specs.Scoping.Standing.{Written}
use Rattle.sched.specs.declared.stop.Stop.{Stop}
use Rattle.sched.specs.Limited.{Gives}
use Rattle.sched.specs.Stored.{FormulaText}
use Rattle.sched.specs.Around.{AroundText}
use Rattle.blocks.specs.Bounded.{is_on_input, is_in_region, is_call_bounded}

pub on_input : (a : Algorithm) (r : AroundText) (f : FormulaText) (region : List Span1) (own : List ℕ) (call : Written) (ns : List ℕ) (res : Result Bool Stop)
    → same_name call.name a.input ≡ true → ns ≡ a.input_extents → Gives res (λ yes. yes) (is_on_input a r call.at ns) → Gives res (λ yes. yes) (is_call_bounded a r f region own call)
on_input a r f region own call ns res same extents given =
    let other : Option Bool = if same_name call.name own then is_in_region a r f 0 call.at region else Some true in
    let is : is_on_input a r call.at ns ≡ is_call_bounded a r f region own call =
    ap (λ ms. is_on_input a r call.at ms) extents ∙ ap (λ b. if b then is_on_input a r call.at a.input_extents else other) (sym same) in
    subst (λ (o : Option Bool). Gives res (λ yes. yes) o) is given
