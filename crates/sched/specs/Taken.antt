-- What a piece fetches of another function, dimension by dimension: the numbers that its calls need, as tight as forms over the grid tell it, or else all of them;
-- how many places the buffer has; and which pieces own what is fetched.
use Rattle.std.specs.Prelude.{ℕ, ◌+◌, ℤ, pos, negsuc, int_lt, int_le, if◌then◌else◌, List, [], ◌∷◌, Option, Some, None}
use Rattle.lin.specs.Forms.{Form, number, combined}
use Rattle.lin.specs.declared.scope.Binding.{Binding}
use Rattle.lin.specs.declared.span.Span1.{Span1}
use Rattle.bounds.specs.Projection.Projection.{projected_span}
use Rattle.sched.specs.Standing.{◌>>=◌}
use Rattle.sched.specs.declared.roots.Site.{Site}
use Rattle.sched.specs.Blocks.{difference}
use Rattle.sched.specs.Windows.{size_below}

-- ---- the calls

-- calls of a function in one definition: what is known around its store, and what the indices of each stay within
pub record SiteText : Type 0 where
  pub scope : List Binding
  pub calls : List (List Span1)

abbrev pub site_of : Site → SiteText
site_of s = record { scope = s.scope; calls = s.calls.items }

-- ---- what they need

-- a span freed of these symbols
abbrev pub freed : List Binding → List ℕ → Span1 → Option Span1
freed scope [] s = Some s
freed scope (i ∷ is) s = projected_span scope (i ∷ is) s

-- ---- places

abbrev pub at_least_one : Option ℤ → Option ℤ
at_least_one None = None
at_least_one (Some z) = Some (if int_le z (pos 1) then pos 1 else z)

-- the place of a form and a count, where that is less than the least so far
abbrev pub shorter : ℕ → Option ℤ → Option (ℕ × ℤ) → Option (ℕ × ℤ)
shorter p None best = best
shorter p (Some n) None = Some (p, n)
shorter p (Some n) (Some b) = if int_lt n b.1 then Some (p, n) else Some b

module _ (grid : List Binding) where
  abbrev pub shortest_from : List Form → ℕ → List Form → Option (ℕ × ℤ) → Option (ℕ × ℤ)
  shortest_from uppers p [] best = best
  shortest_from uppers p (f ∷ fs) best = shortest_from uppers (p + 1) fs (shorter p (at_least_one (size_below grid f uppers)) best)

  -- the lower form from which on there are the fewest numbers, and how many
  abbrev pub shortest : Span1 → Option (ℕ × ℤ)
  shortest s = shortest_from s.upper 0 s.lower None

-- from a form on so many numbers; None where a form leaves the limits
abbrev pub run_of : Form → ℤ → Option Span1
run_of origin n = combined (number (difference n (pos 1))) (pos 1) origin >>= λ last. Some (record { lower = origin ∷ []; upper = last ∷ [] })

-- ---- what is fetched

abbrev pub places_count : ℤ → ℕ
places_count (pos n) = n
places_count (negsuc n) = 1
