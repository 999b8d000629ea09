-- Running sums that leave a point out.
use Rattle.std.proofs.Common.{◌≡◌, ℕ, List, [], ◌∷◌, Option, Some, refl, sym, subst, arith}
use Rattle.std.specs.Prelude.{ℤ, pos, codes}
use Rattle.std.proofs.lemmas.Int.{ints}
use Rattle.lin.specs.declared.span.Span1.{Span1}
use Rattle.numeric.specs.declared.ty.Ty.TheVariants.{I32}
use Rattle.tree.specs.Term.{Number, Name, Call, Clamp, End, More}
use Rattle.lin.specs.Forms.{number}
use Rattle.plan.specs.declared.stmt.Places.TheVariants.{From}
use Rattle.plan.specs.Plan.{Statement, Alloc, Store}
use Rattle.plan.specs.Semantics.Actions.{Action, actions}
use Rattle.plan.specs.Semantics.Worked.{constants, symbol, is, loop, scan_certificate}
use Rattle.soundness.specs.Given.{given_of, outline_of}
use Rattle.soundness.specs.Origins.{Given}
use Rattle.soundness.specs.Claims.{Scope, IsMade, Before, onward, status_after}
use Rattle.soundness.specs.Right.{at_start}
use Rattle.soundness.specs.Worked.{scan_algorithm}
use Rattle.soundness.proofs.Forms.{lies_region}
use Rattle.soundness.proofs.Ongoing.{only_steps, some_before}
use Rattle.audit.specs.Verdict.Plans.Sums.{sums_update, sums_group, sums_plan, FirstPointIsNeeded, LastPointIsNeeded}
use Rattle.audit.proofs.OfVerdict.OfPlans.Parts.{one_only, s}

differ : (a b : ℕ) → (a ≡ b → ⊥) → ◌≡◌ {A = Option ℕ} (Some a) (Some b) → ⊥
differ a b h e = h (let same : a ≡ b = cc in same)

pub first_point : FirstPointIsNeeded
first_point samples h = differ 0 1 (λ e. absurd (omega (arith, e))) (one_only h.2.2.0.0.0.1).3

abbrev room_line : Statement
room_line = Alloc 0 (codes "s") (From (number (pos 0)) 4 ∷ [])

abbrev pixels : Statement
pixels = loop 1 (constants (pos 0) (pos 3)) (Store 0 0 (is (codes "x") (symbol 1) ∷ []) (Call (codes "in") (More (Clamp (Name (codes "x")) (Number I32 (pos 0)) (Number I32 (pos 3))) End)) ∷ [])

abbrev region : List Span1
region = constants (pos 0) (pos 3) ∷ []

pub last_point : LastPointIsNeeded
last_point samples h =
    let update = sums_update (pos 1) (pos 2) in
    let given : Given = given_of scan_algorithm samples (outline_of (sums_plan (pos 1) (pos 2)) scan_certificate 0 (sums_group (pos 1) (pos 2))) in
    let todo : List Action = actions given.outline.setting update s in
    let p : List ℤ = pos 0 ∷ [] in
    let known : Scope = onward given pixels 6 (onward given room_line 5 (at_start s)) in
    let made : IsMade given 1 todo known = h.2.2.1.0 in
    let cover = made.covers p (lies_region s region p (((omega (arith, ints), tt), (omega (arith, ints), tt)), tt)) in
    let was = some_before given 0 p todo cover.0 3 (only_steps given.outline.setting update s 0 (codes "s") refl) cover.2 in
    let earlier = one_only (subst (Before given known.facts 0 (codes "s") p) was.1 cover.1) in
    let now : status_after given 0 p todo (Some 0) ≡ Some 3 = subst (λ d. status_after given 0 p todo d ≡ Some 3) (sym earlier.3) was.2 in
    differ 2 3 (λ e. absurd (omega (arith, e))) now
