-- The rules by which obligations are shown: bounds of forms and of expressions.
use Rattle.std.specs.Prelude.{ℕ, ◌==◌, ◌&&◌, Bool, if◌then◌else◌, List, [], map, length, Option, Some, None, is_some}
use Rattle.std.specs.List.{list_all}
use Rattle.numeric.specs.declared.ty.Ty.TheVariants.{I32}
use Rattle.tree.specs.Term.{Term}
use Rattle.tree.specs.Typing.{type_of}
use Rattle.meaning.specs.Algorithm.{Algorithm}
use Rattle.meaning.specs.Names.{is_among}
use Rattle.lin.specs.Regions.{span_inside}
use Rattle.lin.specs.declared.scope.Binding.{Binding}
use Rattle.lin.specs.declared.span.Span1.{Span1}
use Rattle.bounds.specs.Interval.{interval}
use Rattle.bounds.specs.Spans.{range_of}
use Rattle.plan.specs.Lines.{certificate_line}
use Rattle.plan.specs.Plan.{Plan}
use Rattle.plan.specs.Certificate.Cells.{own_region}
use Rattle.plan.specs.Certificate.Certificate.{Certificate}
use Rattle.plan.specs.Certificate.Lines.{claim_line, window_line}
use Rattle.soundness.specs.Given.{function_named}
use Rattle.soundness.specs.Obligations.{Binder, Rules, anything, first_window}
use Rattle.soundness.specs.Binders.View.{grid_span}
use Rattle.rules.specs.Bounding.Called.{called, update_count}
use Rattle.rules.specs.Bounding.Scopes.{scope_of, shown_at_most}

-- each number of the span is shown to be an i32
abbrev pub is_index_span : List Binding → Span1 → Bool
is_index_span scope x = span_inside scope x (range_of I32)

abbrev pub or_anything : Option Span1 → Span1
or_anything None = anything
or_anything (Some x) = x

abbrev pub or_nowhere : Option (List Span1) → List Span1
or_nowhere None = []
or_nowhere (Some xs) = xs

module _ (a : Algorithm) (p : Plan) (c : Certificate) where
  -- each variable has a span, which is shown to be of i32 values, and the expression has a type
  abbrev pub is_bounded_in : List Binding → List (List ℕ) → List Span1 → Term → Bool
  is_bounded_in scope names vars e = list_all (is_index_span scope) vars && ((length names == length vars) && is_some (type_of (is_among names) (called a p c) e))

  -- the bounds of an expression whose variables have these names and spans: none where that is not shown, or a form that the
  -- bounds make is outside the limits
  abbrev pub interval_in : List Binding → List (List ℕ) → List Span1 → Term → Span1
  interval_in scope names vars e = if is_bounded_in scope names vars e then or_anything (interval scope (called a p c) names vars e) else anything

  abbrev pub known_interval : List Binder → List (List ℕ) → List Span1 → Term → Span1
  known_interval bs names vars e = interval_in (scope_of bs) names vars e

  -- the rules for the group of a number
  abbrev pub rules_of : ℕ → Rules
  rules_of n = record {
    claim_line = claim_line c (certificate_line p);
    window_line = λ k. window_line c (certificate_line p) (first_window c.windows k);
    last = λ f. update_count (function_named a.functions f);
    extents = map grid_span a.input_extents;
    own = or_nowhere (own_region c.own n);
    at_most = shown_at_most;
    interval = known_interval;
  }
