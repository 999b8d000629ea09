-- What calls need of another function.
-- What crates below need of it stands there: `sched`.
use Rattle.std.proofs.Common.{◌≡◌, ℕ, Bool, true, false, List, [], ◌∷◌, ◌++◌, Option, Some, None, Err, refl, sym, ap, ◌∙◌}
use Rattle.std.specs.Prelude.{ℤ, if◌then◌else◌, slice_get}
use Rattle.lin.specs.Forms.{Form}
use Rattle.plan.specs.declared.stmt.Places.{Places}
use Rattle.plan.specs.declared.stmt.Places.TheVariants.{From}
use Rattle.sched.specs.Standing.{◌>>=◌}
use Rattle.sched.specs.declared.stop.Stop.{Stop}
use Rattle.sched.specs.declared.stop.Stop.TheVariants.{Memory, Limit}
use Rattle.sched.specs.Limited.{Gives}
use Rattle.lin.specs.declared.scope.Binding.{Binding}
use Rattle.lin.specs.declared.span.Span1.{Span1}
use Rattle.sched.specs.Taken.{SiteText, shortest, run_of, places_count}
use Rattle.regions.specs.Taken.{with_site, is_shown, shown, seated, FindsPart}

pub site_none : (scope : List Binding) (cs : List (List Span1)) (before : List SiteText) → cs ≡ [] → with_site scope cs before ≡ before
site_none scope [] before h = refl
site_none scope (c ∷ cs) before h = absurd cc

pub site_some : (scope : List Binding) (cs : List (List Span1)) (before : List SiteText) → (cs ≡ [] → ⊥) → with_site scope cs before ≡ before ++ record { scope = scope; calls = cs } ∷ []
site_some scope [] before h = absurd (h refl)
site_some scope (c ∷ cs) before h = refl

-- ---- a span with its places

module _ (grid : List Binding) (ss : List SiteText) (d : ℕ) (s : Span1) (b : ℕ × ℤ) (origin : Form) where
  seated_at : shortest grid s ≡ Some b → slice_get s.lower b.0 ≡ Some origin → seated grid ss d s ≡ (run_of origin b.1 >>= λ seats. shown grid ss d s origin b.1 seats)
  seated_at short get =
      ap (λ (o : Option (ℕ × ℤ)). o >>= λ q. slice_get s.lower q.0 >>= λ f. run_of f q.1 >>= λ seats. shown grid ss d s f q.1 seats) short
      ∙ ap (λ (o : Option Form). o >>= λ f. run_of f b.1 >>= λ seats. shown grid ss d s f b.1 seats) get

  pub finds_stop : (e : Stop) → shortest grid s ≡ Some b → slice_get s.lower b.0 ≡ Some origin → Gives {X = Span1} {A = Span1} (Err e) (λ x. x) (run_of origin b.1)
      → FindsPart (Err e) (seated grid ss d s)
  finds_stop Memory short get g = tt
  finds_stop Limit short get g = seated_at short get ∙ ap (λ (o : Option Span1). o >>= λ seats. shown grid ss d s origin b.1 seats) g

  shown_by : (seats : Span1) (t : Bool) → shortest grid s ≡ Some b → slice_get s.lower b.0 ≡ Some origin → run_of origin b.1 ≡ Some seats → is_shown grid ss d s seats ≡ t
      → seated grid ss d s ≡ (if t then Some (record { span = s; places = From origin (places_count b.1) }) else None)
  shown_by seats t short get run is =
      seated_at short get ∙ (ap (λ (o : Option Span1). o >>= λ q. shown grid ss d s origin b.1 q) run
      ∙ (λ j. if is j then Some (record { span = s; places = From origin (places_count b.1) }) else None))

  pub finds_none : (seats : Span1) → shortest grid s ≡ Some b → slice_get s.lower b.0 ≡ Some origin → run_of origin b.1 ≡ Some seats → is_shown grid ss d s seats ≡ false
      → seated grid ss d s ≡ None
  finds_none seats short get run isnt = shown_by seats false short get run isnt

  pub finds_some : (seats : Span1) (places : Places) → shortest grid s ≡ Some b → slice_get s.lower b.0 ≡ Some origin → run_of origin b.1 ≡ Some seats → is_shown grid ss d s seats ≡ true
      → places ≡ From origin (places_count b.1) → seated grid ss d s ≡ Some (record { span = s; places = places })
  finds_some seats places short get run is placed = shown_by seats true short get run is ∙ (λ j. Some (record { span = s; places = sym placed j }))
