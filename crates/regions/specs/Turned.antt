-- The loops of a function that is computed inside loops, over what is needed of it, where none of its loops is split: those that its definitions have, in their order,
-- with their marks; the loops of a reduction inside of them, the last variable outermost.
-- What crates below need of it stands there: `sched`.
use Rattle.std.specs.Prelude.{ℕ, ◌+◌, pos, Bool, true, false, if◌then◌else◌, List, [], ◌∷◌, ◌++◌, length, Option, Some, None, slice_get}
use Rattle.lin.specs.Forms.{Form}
use Rattle.lin.specs.declared.scope.Binding.{Binding}
use Rattle.lin.specs.declared.span.Span1.{Span1}
use Rattle.sched.specs.declared.placing.Loop.{Loop}
use Rattle.sched.specs.declared.skeleton.Known.{Known}
use Rattle.sched.specs.declared.skeleton.Step.{Step}
use Rattle.sched.specs.declared.skeleton.Step.TheVariants.{Turns}
use Rattle.sched.specs.Skeleton.{BodyText, NestText, variables_at, ranges_at}
use Rattle.sched.specs.Standing.{◌>>=◌}
use Rattle.sched.specs.declared.ends.Run.{Run}
use Rattle.sched.specs.Stored.{FormulaText, StoredText}
use Rattle.regions.specs.Regions.{bodies_from}
use Rattle.sched.specs.Taken.{shortest}
use Rattle.sched.specs.Turned.{kind_of, is_run, range_runs}

-- over what is needed of the loop's dimension
abbrev pub run_of : List Span1 → Loop → Option Run
run_of region l = slice_get region l.dimension >>= λ s. Some (record { name = l.name; span = s; kind = kind_of l.mark })

abbrev pub add_run : List Span1 → Bool → Loop → List Run → Option (List Run)
add_run region b l before = if b then (run_of region l >>= λ r. Some (before ++ r ∷ [])) else Some before

-- those of these loops, the outermost first, behind others
abbrev pub add_runs : List Span1 → BodyText → Bool → List Loop → List Run → Option (List Run)
add_runs region b lanes [] before = Some before
add_runs region b lanes (l ∷ ls) before = add_runs region b lanes ls before >>= add_run region (is_run b lanes l) l

-- all loops of a definition
abbrev pub all_runs : List Span1 → List Loop → BodyText → Option (List Run)
all_runs region ls b = add_runs region b false ls [] >>= λ rs. add_runs region b true ls (rs ++ range_runs b.ranges)

-- ---- nests

abbrev pub symbol : ℕ → Form
symbol s = record { constant = pos 0; terms = record { symbol = s; factor = pos 1 } ∷ [] }

-- each with the next symbol, from this one on
abbrev pub steps_of : ℕ → List Run → List Step
steps_of s [] = []
steps_of s (r ∷ rs) = Turns s r.span r.kind ∷ steps_of (s + 1) rs

abbrev pub known_of : ℕ → List Run → List Known
known_of s [] = []
known_of s (r ∷ rs) = record { name = r.name; form = symbol s } ∷ known_of (s + 1) rs

abbrev pub nest_of : List (List ℕ) → BodyText → ℕ → List Run → NestText
nest_of xs b s rs = record { steps = steps_of s rs; at = variables_at b 0 xs (known_of s rs) ++ ranges_at b.ranges (known_of s rs) }

-- of these definitions, each inside the symbols before this one, behind others
abbrev pub add_nests : StoredText → List Span1 → ℕ → List BodyText → List NestText → Option (List NestText)
add_nests g region s [] before = Some before
add_nests g region s (b ∷ bs) before = all_runs region g.placed.loops b >>= λ rs. add_nests g region s bs (before ++ nest_of g.subject.variables b s rs ∷ [])

-- each dimension has a bound for how many numbers it has
abbrev pub are_bounded : List Binding → List Span1 → Bool
are_bounded scope [] = true
are_bounded scope (x ∷ xs) = elim (shortest scope x) [ Some b ↦ are_bounded scope xs | None ↦ false ]

-- the nests of a function whose definitions these are over a region, where these symbols stand around them; None where a bound is missing
abbrev pub whole_nests : StoredText → List FormulaText → List Binding → List Span1 → Option (List NestText)
whole_nests g fs scope region =
    if are_bounded scope region then add_nests g region (length scope) (bodies_from g.changes 0 g.subject.reductions fs) [] else None
