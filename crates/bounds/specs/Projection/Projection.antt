-- Spans and regions without the symbols of inner loops. None: a form that the rules make is outside the limits.
use Rattle.std.specs.Prelude.{ℕ, pos, negsuc, Bool, true, false, List, [], ◌∷◌, map, fold, Option, Some, option_and_then}
use Rattle.lin.specs.Forms.{Form, number, combined}
use Rattle.lin.specs.declared.scope.Binding.{Binding}
use Rattle.lin.specs.declared.span.Span1.{Span1}
use Rattle.bounds.specs.Spans.{span_of, multiples}
use Rattle.bounds.specs.Projection.Unions.{in_front}
use Rattle.bounds.specs.Projection.Elimination.{both, eliminated}

-- the negation of a form, and those of some
abbrev pub negated : Form → Option Form
negated form = combined (number (pos 0)) (negsuc 0) form

module _ (scope : List Binding) (inner : List ℕ) where
  -- an upper form's bounds; those of a lower form are the negations of the bounds of its negation
  abbrev pub form_bounds : Bool → Form → Option (List Form)
  form_bounds true form = eliminated scope inner form
  form_bounds false form = option_and_then (λ bounds. multiples (negsuc 0) bounds) (option_and_then (λ n. eliminated scope inner n) (negated form))

  -- those of all upper, or lower, forms
  abbrev pub side_bounds : Bool → List Form → Option (List Form)
  side_bounds upper forms = fold (both scope false) (Some []) (map (form_bounds upper) forms)

  abbrev pub projected_span : Span1 → Option Span1
  projected_span s = span_of (side_bounds false s.lower) (side_bounds true s.upper)

  -- coordinate by coordinate
  abbrev pub projected : List Span1 → Option (List Span1)
  projected [] = Some []
  projected (s ∷ ss) = in_front (projected_span s) (projected ss)
