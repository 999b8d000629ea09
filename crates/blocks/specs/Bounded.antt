-- Whether each index of the input and of the function itself is shown to lie where it may, in a function's definitions over its region.
-- What crates below need of it stands there: `sched`.
use Rattle.std.specs.Prelude.{ℕ, ◌+◌, pos, ◌-ℤ◌, Bool, true, false, if◌then◌else◌, List, [], ◌∷◌, map, Option, Some}
use Rattle.tree.specs.Term.{Term, Terms, More}
use Rattle.lin.specs.Regions.{span_inside}
use Rattle.lin.specs.declared.scope.Binding.{Binding}
use Rattle.lin.specs.declared.span.Span1.{Span1}
use Rattle.bounds.specs.Spans.{numbers}
use Rattle.meaning.specs.Algorithm.{Algorithm}
use Rattle.meaning.specs.Names.{same_name}
use Rattle.algo.specs.Scoping.Standing.{Written}
use Rattle.sched.specs.Skeleton.{NestText}
use Rattle.sched.specs.Standing.{◌>>=◌}
use Rattle.sched.specs.Stored.{FormulaText, StoredText, calls_in}
use Rattle.sched.specs.Around.{AroundText, interval_in, head_scope, around}
use Rattle.sched.specs.Regions.{LaidText, counts}
use Rattle.sched.specs.Bounded.{whole}

-- Some false: an index is not shown to lie where it may. None: it has no bound
module _ (a : Algorithm) (r : AroundText) where
  abbrev pub is_on_input : Terms → List ℕ → Option Bool
  is_on_input (More e es) (n ∷ ns) =
      interval_in a r e >>= λ s. if span_inside r.scope s (numbers (pos 0) (pos n -ℤ pos 1)) then is_on_input es ns else Some false
  is_on_input _ _ = Some true

  -- an index of a definition's call of its own function, where its left index is not the variable
  abbrev pub is_place_bounded : FormulaText → ℕ → Term → Span1 → Option Bool
  is_place_bounded f d e x = if counts (Some f) d then (interval_in a r e >>= λ s. Some (span_inside r.scope s x)) else Some true

  abbrev pub is_in_region : FormulaText → ℕ → Terms → List Span1 → Option Bool
  is_in_region f d (More e es) (x ∷ xs) = is_place_bounded f d e x >>= λ is. if is then is_in_region f (d + 1) es xs else Some false
  is_in_region f d _ _ = Some true

  abbrev pub is_call_bounded : FormulaText → List Span1 → List ℕ → Written → Option Bool
  is_call_bounded f region x c =
      if same_name c.name a.input then is_on_input c.at a.input_extents
      else (if same_name c.name x then is_in_region f 0 c.at region else Some true)

  abbrev pub are_bounded : FormulaText → List Span1 → List ℕ → List Written → Option Bool
  are_bounded f region x [] = Some true
  are_bounded f region x (c ∷ cs) = is_call_bounded f region x c >>= λ is. if is then are_bounded f region x cs else Some false

-- each index of the input and of the function itself in the definition of this number
abbrev pub is_definition_bounded : Algorithm → StoredText → List Binding → List Span1 → ℕ → FormulaText → NestText → Option Bool
is_definition_bounded a g outer region d f n = around a g outer n f d >>= λ r. are_bounded a r f region g.subject.name (calls_in f)

-- in those from this number on
abbrev pub is_bounded : Algorithm → StoredText → List Binding → List Span1 → ℕ → List FormulaText → List NestText → Option Bool
is_bounded a g outer region d [] ns = Some true
is_bounded a g outer region d (f ∷ fs) [] = Some false
is_bounded a g outer region d (f ∷ fs) (n ∷ ns) =
    is_definition_bounded a g outer region d f n >>= λ is. if is then is_bounded a g outer region (d + 1) fs ns else Some false

abbrev pub is_root_bounded : Algorithm → StoredText → List FormulaText → LaidText → Option Bool
is_root_bounded a g fs l = is_bounded a g (head_scope l.skeleton) (map whole l.region) 0 fs l.skeleton.nests
