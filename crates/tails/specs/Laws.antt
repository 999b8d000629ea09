-- What is promised of the steps of split loops.
use Rattle.std.specs.Prelude.{◌≡◌, ℕ, Bool, List, [], ◌∷◌, map, Some, true, ℤ, ◌≤ℤ◌}
use Rattle.lin.specs.Forms.{Form}
use Rattle.lin.specs.declared.span.Span1.{Span1}
use Rattle.plan.specs.Symbols.{Symbols, form_value}
use Rattle.plan.specs.Plan.{Statement}
use Rattle.plan.specs.Semantics.Actions.{Setting, actions}
use Rattle.plan.specs.Certificate.Certificate.{Claim}
use Rattle.soundness.specs.Claims.{In, written}
use Rattle.soundness.specs.Obligations.{Binder, Respects, LieIn, Rules}
use Rattle.tails.specs.Steps.{Step, Spine, Allows, Keeps, along, binder, spine_of}
use Rattle.tails.specs.Moves.{reached}
use Rattle.tails.specs.Maps.{visited, covers, is_once, is_scoped}
use Rattle.tails.specs.Stored.{forms_at}

-- what the coordinates are
abbrev pub point_at : List Form → Symbols → List ℤ
point_at fs s = map (λ f. form_value f s) fs

-- each point of which every coordinate lies in its span is met: the symbols around the steps stand, and the steps allow the rest
abbrev pub ReachedIsVisited : Type 0
ReachedIsVisited =
    (shows : Form → Form → Bool) (steps : List Step) (fs : List Form) (spans : List Span1) (s : Symbols) (p : List ℤ) →
    ((a b : Form) → shows a b ≡ true → form_value a s ≤ℤ form_value b s) → reached shows steps fs ≡ Some spans → LieIn s spans p →
    (t : Symbols) × Allows steps t × (point_at fs t ≡ p) × Keeps (along steps) s t

-- where the symbols around the steps stand no point is met by different turns
abbrev pub EachIsOnce : Type 0
EachIsOnce =
    (steps : List Step) (fs : List Form) (s t : Symbols) → is_once steps fs ≡ true → Allows steps s → Allows steps t → Keeps (along steps) s t →
    point_at fs s ≡ point_at fs t → (i : ℕ) → t.value i ≡ s.value i

-- no point stands twice in the list
abbrev pub AreDistinct : List (List ℤ) → Type 0
AreDistinct [] = Unit {0}
AreDistinct (p ∷ ps) = (In p ps → ⊥) × AreDistinct ps

-- no point is visited twice
abbrev pub OnceIsDistinct : Type 0
OnceIsDistinct = (steps : List Step) (fs : List Form) (s : Symbols) → is_once steps fs ≡ true → AreDistinct (visited steps fs s)

-- where a region is shown to be covered each of its points is among those that the turns visit
abbrev pub CoversIsVisited : Type 0
CoversIsVisited =
    (rules : Rules) (bs : List Binder) (steps : List Step) (fs : List Form) (region : List Span1) (s : Symbols) (p : List ℤ) →
    ((a b : Form) → rules.at_most bs a b ≡ true → form_value a s ≤ℤ form_value b s) → Respects bs s → covers rules bs steps fs region ≡ true →
    LieIn s region p → In p (visited steps fs s)

-- a statement writes the point of the line that stores a claim's pure definition at each assignment that the steps down to it allow: the
-- symbols around the statement have their values, and what the steps bind has those of the assignment
abbrev pub AssignmentsAreWritten : Type 0
AssignmentsAreWritten =
    (setting : Setting) (claim : Claim) (a : Statement) (n : Spine) (fs : List Form) (s t : Symbols) →
    spine_of a claim.buffer ≡ Some n → forms_at setting claim n.line ≡ Some fs → is_scoped (map binder n.steps) ≡ true →
    Allows n.steps t → Keeps (along n.steps) s t → In (point_at fs t) (written claim.buffer (actions setting a s))
