-- Functions by their names, in two words for them.
use Rattle.std.proofs.Common.{◌≡◌, ℕ, List, [], ◌∷◌, Some, refl, Bool, true, false}
use Rattle.std.specs.Prelude.{if◌then◌else◌}
use Rattle.meaning.specs.Algorithm.{Function}
use Rattle.meaning.specs.Names.{same_name}
use Rattle.meaning.specs.Conditions.{function_named as named_in}
use Rattle.soundness.specs.Given.{function_named}

pub named_same : (fs : List Function) (name : List ℕ) → function_named fs name ≡ named_in fs name
named_same [] name = refl
named_same (f ∷ fs) name = of (same_name f.name name) (named_same fs name)
  where
    of : (v : Bool) → function_named fs name ≡ named_in fs name → (if v then Some f else function_named fs name) ≡ (elim v [ true ↦ Some f | false ↦ named_in fs name ])
    of true rest = refl
    of false rest = rest
