-- What a whole run gives.
use Rattle.std.proofs.Common.{◌≡◌, ℕ, List, [], ◌∷◌, map, Option, Some, None, refl, sym, ap, subst, ◌∙◌, ◌<◌, length, Ok, Err, ℤ, slice_get}
use Rattle.std.specs.Prelude.{Result, MatchOption, ⊤, flat_map, if◌then◌else◌}
use Rattle.lin.specs.declared.span.Span1.{Span1}
use Rattle.plan.specs.Plan.{Group, Plan}
use Rattle.plan.specs.Symbols.{Symbols}
use Rattle.plan.specs.Certificate.Certificate.{Certificate}
use Rattle.plan.specs.Certificate.Cells.{is_in_region, no_symbols, points_within, grid_symbols}
use Rattle.tree.specs.declared.value.Value.{Value}
use Rattle.plan.specs.Semantics.Actions.{Action, Give, actions}
use Rattle.plan.specs.Semantics.Found.{with}
use Rattle.plan.specs.Semantics.Memory.{Memory, nothing}
use Rattle.plan.specs.Semantics.Run.{Around, outcome}
use Rattle.plan.specs.Semantics.Setting.{setting_of, around_of}
use Rattle.headline.specs.Work.{numbers}
use Rattle.interpreter.specs.Outcome.{group_gives, piece_gives}
use Rattle.interpreter.specs.declared.evaluation.stop.Stop.{Stop}
use Rattle.interpreter.specs.declared.evaluation.stop.Stop.TheVariants.{Fault, Full}
use Rattle.interpreter.specs.Scratches.{GivesIn}
use Rattle.interpreter.specs.States.{EndsIn, Overflows}
use Rattle.interpreter.specs.Steps.{Progress, steps}
use Rattle.interpreter.specs.Visits.{extended}
use Rattle.interpreter.proofs.Pointwise.{published}
use Rattle.interpreter.proofs.Steps.{given_of, given_in_all}

-- what actions on no buffers give
gives_all : (A : Around) (xs : List Action) (m : Memory Value) (ns : List ℤ) → m ≡ nothing → ns ≡ [] → numbers (outcome A xs nothing) ≡ given_of (steps A xs (record { memory = m; given = ns }))
gives_all A xs m ns e f = sym (given_in_all A xs nothing) ∙ (λ i. given_of (steps A xs (record { memory = sym e i; given = sym f i })))

-- what a piece gives, by the steps of its group's body
pub piece_is : (p : Plan) (c : Certificate) (samples : List ℕ) (cell : List ℕ → List ℤ → Value) (number : ℕ) (at : List ℕ) (g : Group) (m : Memory Value) (ns : List ℤ) →
    slice_get p.groups number ≡ Some g → m ≡ nothing → ns ≡ [] →
    piece_gives p c samples cell number at ≡ given_of (steps (around_of p c samples cell) (actions (setting_of p c number g) g.body (grid_symbols at)) (record { memory = m; given = ns }))
piece_is p c samples cell number at g m ns is e f =
    ap (group_gives p c samples cell number at) is
    ∙ gives_all (around_of p c samples cell) (actions (setting_of p c number g) g.body (grid_symbols at)) m ns e f

-- the actions of a line that publishes
pub gives_own : (g : Group) (s : Symbols) (c : ℕ) (o : Option (List Span1)) (xs : List Span1) → o ≡ Some xs →
    map (Give c) (points_within g o s) ≡ flat_map (λ p. if is_in_region no_symbols g.region p then Give c p ∷ [] else []) (extended s xs [])
gives_own g s c o xs is = ap (λ (r : Option (List Span1)). map (Give c) (points_within g r s)) is ∙ published s c (is_in_region no_symbols g.region) xs

pub gives_none : (g : Group) (s : Symbols) (c : ℕ) (o : Option (List Span1)) → o ≡ None → map (Give c) (points_within g o s) ≡ []
gives_none g s c o is = ap (λ (r : Option (List Span1)). map (Give c) (points_within g r s)) is

pub given_with : (o : Option Progress) → given_of o ≡ with o (λ x. Some x.given)
given_with None = refl
given_with (Some x) = refl

-- what a run that ends so gives
pub ends_gives : (room : ℕ) (r : Result (Unit {0}) Stop) (x : Progress) (o : Option Progress) (whole : Option (List ℤ)) → whole ≡ given_of o → EndsIn room (λ (_ : Unit {0}). x) r o → GivesIn room r x.given whole
ends_gives room (Ok a) x o whole is h = is ∙ ap given_of h
ends_gives room (Err Fault) x o whole is h = is ∙ ap given_of h
ends_gives room (Err Full) x o whole is h = subst (λ (w : Option (List ℤ)). GivesIn {A = Unit {0}} room (Err Full) x.given w) (sym is) (of o h)
  where
    of : (p : Option Progress) → Overflows room p → MatchOption (given_of p) ⊤ (λ v. room < length v)
    of None h = tt
    of (Some y) h = h
