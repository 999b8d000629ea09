-- Along which loop a function slides, what it holds in each turn, and which functions are computed at the places of a loop, part by part.
-- What crates below need of it stands there: `sched`.
use Rattle.std.proofs.Common.{◌≡◌, ℕ, Bool, false, List, [], ◌∷◌, ◌++◌, map, Option, Some, None, sym, ap, ◌∙◌}
use Rattle.std.specs.Prelude.{slice_get}
use Rattle.std.specs.List.{list_any}
use Rattle.std.proofs.lemmas.List.{map-append}
use Rattle.lin.specs.declared.scope.Binding.{Binding}
use Rattle.lin.specs.declared.span.Span1.{Span1}
use Rattle.meaning.specs.Names.{same_name}
use Rattle.sched.specs.declared.nest.Nest.{Nest}
use Rattle.sched.specs.Skeleton.{nest_seen}
use Rattle.sched.specs.Stored.{StoredText}
use Rattle.regions.specs.Slid.{is_split, fit_along}

pub split_in : (g : StoredText) (d : ℕ) (x : List ℕ) (r : Bool) → slice_get g.subject.variables d ≡ Some x → r ≡ list_any (λ c. same_name c.whole x) g.placed.cuts → r ≡ is_split g d
split_in g d x r e h = h ∙ ap (λ (o : Option (List ℕ)). elim o [ Some y ↦ list_any (λ c. same_name c.whole y) g.placed.cuts | None ↦ false ]) (sym e)

pub not_split : (g : StoredText) (d : ℕ) → slice_get g.subject.variables d ≡ None → false ≡ is_split g d
not_split g d e = ap (λ (o : Option (List ℕ)). elim o [ Some y ↦ list_any (λ c. same_name c.whole y) g.placed.cuts | None ↦ false ]) (sym e)

-- ---- folds

module _ (g : StoredText) (scope : List Binding) (r : List Span1) (d : ℕ) where
  pub fits_no_variable : slice_get g.subject.variables d ≡ None → false ≡ fit_along g scope (slice_get g.subject.variables d) (slice_get r d)
  fits_no_variable e = ap (λ (o : Option (List ℕ)). fit_along g scope o (slice_get r d)) (sym e)

  pub fits_no_span : (x : List ℕ) → slice_get g.subject.variables d ≡ Some x → slice_get r d ≡ None → false ≡ fit_along g scope (slice_get g.subject.variables d) (slice_get r d)
  fits_no_span x e h = (λ j. fit_along g scope (sym e j) (sym h j))

  pub fits_along : (x : List ℕ) (s : Span1) (b : Bool) → slice_get g.subject.variables d ≡ Some x → slice_get r d ≡ Some s → b ≡ fit_along g scope (Some x) (Some s)
      → b ≡ fit_along g scope (slice_get g.subject.variables d) (slice_get r d)
  fits_along x s b e h is = is ∙ (λ j. fit_along g scope (sym e j) (sym h j))

-- ---- nests

pub nest_pushed : (ns all : List Nest) (n : Nest) → all ≡ ns ++ n ∷ [] → map nest_seen all ≡ map nest_seen ns ++ nest_seen n ∷ []
nest_pushed ns all n e = ap (map nest_seen) e ∙ map-append nest_seen ns (n ∷ [])
