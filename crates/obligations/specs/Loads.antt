-- The loads of a store's expressions.
use Rattle.std.specs.Prelude.{ℕ, ◌&&◌, filter, flat_map, ◌∷◌, ◌++◌, Bool, List, map}
use Rattle.lin.specs.declared.span.Span1.{Span1}
use Rattle.tree.specs.Term.{Term, Terms, Test}
use Rattle.plan.specs.declared.stmt.Coordinate.{Coordinate as CoordinateHeld}
use Rattle.plan.specs.Plan.{Coordinate}
use Rattle.plan.specs.View.{coordinate_of}
use Rattle.meaning.specs.Names.{same_name}
use Rattle.plan.specs.Semantics.Run.{Source}
use Rattle.soundness.specs.Claims.{is_update}
use Rattle.soundness.specs.Origins.{Outline}
use Rattle.soundness.specs.Obligations.{Known, Rules, OutOfBuffer, NotClaimed, NotTheDefinition, Inside, Named, seated, places_of, is_begun, claimed, coordinate_loads, target_span, Obligation, obligation, region_of, serves, index_met, variable_span, may_load, met, load_obligations, intervals, loads, loads_of_all, loads_of_test}
use Rattle.obligations.specs.declared.context.known.Nest.{Nest}
use Rattle.obligations.specs.declared.loads.Reads.{Reads}
use Rattle.obligations.specs.Context.Around.{known_of, nest_of}

abbrev pub coordinates_of : List CoordinateHeld → List Coordinate
coordinates_of = map coordinate_of

abbrev pub met_spans : Outline → Rules → List CoordinateHeld → List Span1
met_spans outline rules at = map (λ x. index_met outline rules x.index) (coordinates_of at)

abbrev pub variable_spans : Outline → Rules → List CoordinateHeld → List Span1
variable_spans outline rules at = map (variable_span outline rules) (coordinates_of at)

abbrev pub names_of : List CoordinateHeld → List (List ℕ)
names_of at = map (λ x. x.variable) (coordinates_of at)

-- what is known at the store
abbrev pub known_in : Reads → Known
known_in r = known_of r.known.now r.updating.now

-- whether it may load by a claim
abbrev pub may_in : Outline → Rules → Reads → ℕ → Bool
may_in outline rules r c = may_load outline rules (known_in r) r.buffer r.function.now r.definition c

-- the points that its left side meets
abbrev pub meets_in : Outline → Rules → Reads → ℕ → List (List Span1)
meets_in outline rules r c = met outline rules r.function.now r.definition (coordinates_of r.at.now) c

-- its variables
abbrev pub names_in : Reads → List (List ℕ)
names_in r = map (λ x. x.now) r.names.now

-- what a load asks for
abbrev pub load_in : Outline → Rules → Reads → Source → List Span1 → List Obligation
load_in outline rules r source xs = load_obligations outline rules r.line (known_in r) (may_in outline rules r) (meets_in outline rules r) source xs

-- the spans of indices
abbrev pub intervals_in : Outline → Rules → Reads → List Span1 → Terms → List Span1
intervals_in outline rules r vars at = intervals outline rules (known_in r).binders (names_in r) vars at

-- what the loads of an expression, of a condition and of indices ask for
abbrev pub loads_in : Outline → Rules → Reads → List Span1 → Term → List Obligation
loads_in outline rules r vars e = loads outline rules r.line (known_in r) (may_in outline rules r) (meets_in outline rules r) (names_in r) vars e

abbrev pub loads_of_test_in : Outline → Rules → Reads → List Span1 → Test → List Obligation
loads_of_test_in outline rules r vars e = loads_of_test outline rules r.line (known_in r) (may_in outline rules r) (meets_in outline rules r) (names_in r) vars e

abbrev pub loads_of_all_in : Outline → Rules → Reads → List Span1 → Terms → List Obligation
loads_of_all_in outline rules r vars at = loads_of_all outline rules r.line (known_in r) (may_in outline rules r) (meets_in outline rules r) (names_in r) vars at

-- whether the store is an update whose own function the claim is of
abbrev pub is_own : Outline → Reads → ℕ → Bool
is_own outline r c = is_update r.definition && same_name (outline.claim c).function r.function.now

-- what a load of an update's own function asks for besides: that the step meets its point, as a definition's do
abbrev pub steps_met : Outline → Rules → Reads → ℕ → List Span1 → List Obligation
steps_met outline rules r c xs = map (λ ys. obligation outline rules NotTheDefinition r.line (known_in r) (Inside xs ys)) (meets_in outline rules r c)

-- what a definition's store of these spans asks for: that they lie in the region of each claim whose nest does its steps
abbrev pub asked_by_nests : Outline → Rules → Reads → List Span1 → List Nest → List Obligation
asked_by_nests outline rules r places us =
    map (λ u. obligation outline rules NotClaimed r.line (known_in r) (Inside places (region_of outline rules u.next))) (filter (serves outline rules r.buffer r.function.now r.definition) (map nest_of us))

-- what a store asks for, where its left side's variables have these spans
abbrev pub asked_by_store : Outline → Rules → Reads → List CoordinateHeld → List Span1 → Term → List Obligation
asked_by_store outline rules r over left e =
    let at = coordinates_of r.at.now in
    let places = map (target_span outline rules (known_in r) (names_in r) left) at in
    obligation outline rules OutOfBuffer r.line (known_in r) (seated outline rules (places_of (known_in r).buffers r.buffer) places)
    ∷ obligation outline rules NotClaimed r.line (known_in r) (Named (is_begun outline rules (known_in r) r.buffer r.function.now r.definition))
    ∷ (claimed outline rules r.line (known_in r) r.buffer r.function.now r.definition places
    ++ (flat_map (coordinate_loads outline rules r.line (known_in r) (may_in outline rules r) (meets_in outline rules r) (names_in r) left) at
    ++ loads_in outline rules r (places ++ variable_spans outline rules over) e))
