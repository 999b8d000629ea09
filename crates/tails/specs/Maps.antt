-- Split maps: the points that the turns of split loops visit, and the tests that each point of a region is among them and that none
-- is met twice.
use Rattle.std.specs.Prelude.{ℕ, ◌&&◌, Bool, true, false, not, if◌then◌else◌, List, [], ◌∷◌, map, flat_map, Option, Some, None, ℤ, int_le}
use Rattle.std.specs.List.{list_any, list_all}
use Rattle.lin.specs.Forms.{Form}
use Rattle.lin.specs.Search.{is_empty}
use Rattle.lin.specs.declared.span.Span1.{Span1}
use Rattle.plan.specs.declared.stmt.Pick.{Pick}
use Rattle.plan.specs.declared.stmt.Pick.TheVariants.{Min, Max}
use Rattle.plan.specs.Symbols.{Symbols, bind, form_value, largest, turns}
use Rattle.soundness.specs.Obligations.{Binder, Ranged, Picked, Passed, Rules, picked}
use Rattle.soundness.specs.Shown.{are_within}
use Rattle.soundness.specs.Nests.Tests.{has_ends}
use Rattle.tails.specs.Steps.{Step, Turns, Named, Tested, binder, along, binds}
use Rattle.tails.specs.Moves.{is_outer, expanded, spans_over, paired, reached}

-- the points that the turns visit, in their order
abbrev pub visited : List Step → List Form → Symbols → List (List ℤ)
visited [] fs s = map (λ f. form_value f s) fs ∷ []
visited (Turns i x kind ∷ steps) fs s = flat_map (λ z. visited steps fs (bind s i z (int_le z (largest s x.lower)))) (turns s x)
visited (Named i pick ls ∷ steps) fs s = visited steps fs (bind s i (picked pick ls s) true)
visited (Tested low high ∷ steps) fs s = if int_le (form_value low s) (form_value high s) then visited steps fs s else []

-- no form of the step names a symbol that these bind, and a loop has both ends
abbrev pub is_beyond : List Binder → Binder → Bool
is_beyond bs (Ranged i x) = has_ends x && (list_all (is_outer bs) x.lower && list_all (is_outer bs) x.upper)
is_beyond bs (Picked i pick ls) = list_all (is_outer bs) ls
is_beyond bs (Passed low high) = is_outer bs low && is_outer bs high

-- the step binds no symbol that these bind
abbrev pub is_new : List Binder → Binder → Bool
is_new bs (Ranged i x) = not (list_any (binds i) bs)
is_new bs (Picked i pick ls) = not (list_any (binds i) bs)
is_new bs (Passed low high) = true

-- each step names symbols of earlier steps and of what is around them alone, and binds a new one
abbrev pub is_scoped : List Binder → Bool
is_scoped [] = true
is_scoped (b ∷ bs) = is_beyond (b ∷ bs) b && (is_new bs b && is_scoped bs)

-- ---- lets around the steps

abbrev pub or_these : List Form → Option (List Form) → List Form
or_these fs None = fs
or_these fs (Some gs) = gs

-- an upper form over the smallest of some forms is as much as all forms over its members, and a lower one over the largest
abbrev pub spelled_by : ℕ → Pick → List Form → Span1 → Span1
spelled_by i Min ls y = record { lower = y.lower; upper = or_these y.upper (expanded false (λ a b. false) i ls y.upper) }
spelled_by i Max ls y = record { lower = or_these y.lower (expanded false (λ a b. false) i ls y.lower); upper = y.upper }

abbrev pub spelled : Binder → Span1 → Span1
spelled (Picked i pick ls) y = if is_empty ls then y else spelled_by i pick ls y
spelled (Ranged i x) y = y
spelled (Passed low high) y = y

abbrev pub spelled_out : List Binder → Span1 → Span1
spelled_out [] y = y
spelled_out (b ∷ bs) y = spelled_out bs (spelled b y)

-- ---- tests

-- the region is shown to lie in what is reached
abbrev pub lies_within : Rules → List Binder → List Span1 → Option (List Span1) → Bool
lies_within rules bs region None = false
lies_within rules bs region (Some spans) = are_within rules bs region (map (spelled_out bs) spans)

-- each point of the region is shown to be visited, whatever the symbols of the binders around stand for
abbrev pub covers : Rules → List Binder → List Step → List Form → List Span1 → Bool
covers rules bs steps fs region = is_scoped (map binder steps) && lies_within rules bs region (reached (rules.at_most bs) steps fs)

abbrev pub is_some : {A : Type 0} → Option A → Bool
is_some None = false
is_some (Some a) = true

-- no point is met twice
abbrev pub is_once : List Step → List Form → Bool
is_once steps fs = is_scoped (map binder steps) && is_some (spans_over true (λ a b. false) (paired (along steps)) fs)
