-- What is known around the store of a definition: the symbols, and what its variables stand for.
use Rattle.std.specs.Prelude.{ℕ, zero, suc, ◌+◌, ◌-◌, pos, ◌-ℤ◌, List, [], ◌∷◌, ◌++◌, length, map, replicate, Option, Some, None, slice_get}
use Rattle.numeric.specs.declared.ty.Ty.TheVariants.{I32}
use Rattle.tree.specs.Term.{Term}
use Rattle.lin.specs.Forms.{Form}
use Rattle.lin.specs.declared.scope.Binding.{Binding}
use Rattle.lin.specs.declared.scope.Binding.TheVariants.{Loop, LetMin, LetMax}
use Rattle.lin.specs.declared.span.Span1.{Span1}
use Rattle.bounds.specs.Spans.{numbers, range_of}
use Rattle.bounds.specs.Interval.{interval}
use Rattle.plan.specs.declared.stmt.Pick.TheVariants.{Min, Max}
use Rattle.meaning.specs.Algorithm.{Range, Change, Algorithm}
use Rattle.sched.specs.Skeleton.{NestText, SkeletonText}
use Rattle.sched.specs.declared.skeleton.Step.{Step}
use Rattle.sched.specs.declared.skeleton.Step.TheVariants.{Turns, Named, Tested}
use Rattle.sched.specs.declared.scopes.Around.{Around}
use Rattle.sched.specs.Called.{called}
use Rattle.sched.specs.Standing.{◌>>=◌}
use Rattle.sched.specs.Stored.{FormulaText, StoredText, left_at}

pub record AroundText : Type 0 where
  pub scope : List Binding
  pub variables : List (List ℕ)
  pub coordinates : List Span1

abbrev pub around_of : Around → AroundText
around_of r = record { scope = r.scope; variables = map (λ x. x.now) r.variables.items; coordinates = r.coordinates }

-- ---- symbols

-- the span without forms, which holds every number
abbrev pub anything : Span1
anything = record { lower = []; upper = [] }

abbrev pub exactly : Form → Span1
exactly f = record { lower = f ∷ []; upper = f ∷ [] }

-- of symbols up to this one that no line binds nothing is known
abbrev pub skip_to : List Binding → ℕ → List Binding
skip_to scope s = scope ++ replicate (s - length scope) (Loop anything)

abbrev pub bind : List Binding → ℕ → Binding → List Binding
bind scope s b = skip_to scope s ++ b ∷ []

abbrev pub bind_step : List Binding → Step → List Binding
bind_step scope (Turns s span kind) = bind scope s (Loop span)
bind_step scope (Named s Min forms) = bind scope s (LetMin forms)
bind_step scope (Named s Max forms) = bind scope s (LetMax forms)
bind_step scope (Tested low high) = scope

abbrev pub bind_steps : List Binding → List Step → List Binding
bind_steps scope [] = scope
bind_steps scope (s ∷ ss) = bind_steps (bind_step scope s) ss

-- a symbol of the grid is from 0 to its count less 1
abbrev pub grid_symbol : ℕ → Binding
grid_symbol n = Loop (numbers (pos 0) (pos n -ℤ pos 1))

abbrev pub grid_scope : List ℕ → List Binding
grid_scope counts = map grid_symbol counts

-- the symbols of the grid, and the lets over them
abbrev pub head_scope : SkeletonText → List Binding
head_scope s = bind_steps (grid_scope s.grid) s.head

-- ---- variables

abbrev pub range_names : List Range → List (List ℕ)
range_names ds = map (λ d. d.variable) ds

-- the reduction variables of the definition of this number, of which the first is the pure one
abbrev pub ranges_of : List Change → ℕ → List Range
ranges_of us zero = []
ranges_of us (suc k) = elim (slice_get us k) [ Some u ↦ u.ranges | None ↦ [] ]

abbrev pub names_with : List (List ℕ) → List Change → ℕ → List (List ℕ)
names_with xs us d = xs ++ range_names (ranges_of us d)

-- ---- coordinates

-- what the value of an expression stays within
abbrev pub interval_in : Algorithm → AroundText → Term → Option Span1
interval_in a r e = interval r.scope (called a) r.variables r.coordinates e

-- the span of a form alone, and of any other number
abbrev pub form_span : Option Form → Span1
form_span (Some f) = exactly f
form_span None = range_of I32

-- the span of a coordinate: of its form, or of what its left index comes to
abbrev pub coordinate_span : Algorithm → AroundText → Option Form → Option Term → Option Span1
coordinate_span a r (Some f) i = Some (exactly f)
coordinate_span a r None (Some e) = interval_in a r e
coordinate_span a r None None = Some (range_of I32)

-- those from a place on, behind the ones before
abbrev pub coordinates_behind : Algorithm → AroundText → FormulaText → List Span1 → ℕ → List (Option Form) → Option (List Span1)
coordinates_behind a r f before d [] = Some before
coordinates_behind a r f before d (o ∷ os) = coordinate_span a r o (left_at f d) >>= λ s. coordinates_behind a r f (before ++ s ∷ []) (d + 1) os

-- a coordinate that a left index gives is any number while its index is looked at
abbrev pub left_around : StoredText → List Binding → NestText → ℕ → AroundText
left_around g outer n d = record { scope = bind_steps outer n.steps; variables = names_with g.variables g.changes d; coordinates = map form_span n.at }

-- around the store of the definition of this number, in this nest inside of other symbols
abbrev pub around : Algorithm → StoredText → List Binding → NestText → FormulaText → ℕ → Option AroundText
around a g outer n f d =
    let r = left_around g outer n d in coordinates_behind a r f [] 0 n.at >>= λ cs. Some (record r { coordinates = cs })
