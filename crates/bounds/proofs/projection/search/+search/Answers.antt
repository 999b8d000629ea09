use Rattle.std.proofs.Common.{◌≡◌, ◌-◌, ◌^◌, lit<, arith, sym, ◌∙◌}
use Rattle.std.specs.Prelude.{ℤ, Some}
use Rattle.std.proofs.lemmas.Int.{to_z-of_z}
use Rattle.lin.specs.Forms.{Form, combined, IsWithin}
use Rattle.lin.proofs.SearchLemmas.{drop_all, total-drop, slice_get-is, over_budget}
use Rattle.lin.proofs.Machine.{within_fits}
use Rattle.lin.proofs.Limits.{combined-means}
use Rattle.bounds.specs.Projection.Elimination.{branch_cost, branch_bounds}
use Rattle.bounds.proofs.SearchLemmas.{bounds-passed, replacements-passed, bounds-made, replacements-made, counted_all}
use Rattle.bounds.proofs.projection.search.+search.Goals as goal
use mir.Val.{to_z, of_z, SFits}
use mir.Syntax.{w64}

pub branches-returns-clause-left : goal.branches-returns-clause-left
branches-returns-clause-left t c =
    let fits : SFits w64 c.args.factor = c.ranges.factor in
    let none = drop_all c.args.candidates.now c.loop-place.place (omega arith) in
    let spent = simp (none, to_z-of_z) at c.loop-place.invariant.spent in
    omega (arith, spent)

pub branches-returns-clause-bounds : goal.branches-returns-clause-bounds
branches-returns-clause-bounds t c =
    let fits : SFits w64 c.args.factor = c.ranges.factor in
    let counted = simp (to_z-of_z) at c.loop-place.invariant.counted in
    counted_all c.args.scope.now (λ (other : Form). branch_bounds c.args.scope.now c.args.inner.now c.args.symbol (combined c.args.rest.now c.args.factor other)) c.args.largest c.args.candidates.now c.loop-place.place c.loop-place.counted (omega arith)
    c.loop-place.invariant.first counted

pub branches-returns-in_default-clause-left : goal.branches-returns-in_default-clause-left
branches-returns-in_default-clause-left t c =
    let fits : SFits w64 c.args.factor = c.ranges.factor in
    let spent = simp (to_z-of_z) at c.loop-place.invariant.spent in
    let item = total-drop (λ (other : Form). branch_cost c.args.scope.now c.args.inner.now c.args.symbol (combined c.args.rest.now c.args.factor other)) c.args.candidates.now c.loop-place.place c.index-candidates-place.result (omega arith) c.index-candidates-place.is in
    let over = simp (to_z-of_z) at (rw c.in_default.is at c.in_ok-found.ensures.left) in
    over_budget c.args.budget c.loop-place.left _ _ _ _ spent item over

abbrev factor_fits : (z : ℤ) → IsWithin (2 ^ 20) z → SFits w64 z
factor_fits z h = within_fits (2 ^ 20) z h (lit< tt)

pub search-returns-then-not-is_eliminated-clause-left : goal.search-returns-then-not-is_eliminated-clause-left
search-returns-then-not-is_eliminated-clause-left t c =
    let z = c.factor-factor.result in
    let fits = factor_fits z (c.factor-factor.ensures.small c.requires.form) in
    let passed = replacements-passed c.args.scope.now c.args.inner.now c.args.earlier c.args.form.now z (to_z w64 (of_z w64 z))
    (omega arith) c.factor-factor.ensures.value (to_z-of_z w64 z fits) (sym c.is_eliminated.ensures ∙ c.if-not-is_eliminated.true) in
    rw passed c.search.ensures.left

pub search-returns-then-not-is_eliminated-clause-bounds : goal.search-returns-then-not-is_eliminated-clause-bounds
search-returns-then-not-is_eliminated-clause-bounds t c =
    let z = c.factor-factor.result in
    let fits = factor_fits z (c.factor-factor.ensures.small c.requires.form) in
    let passed = bounds-passed c.args.scope.now c.args.inner.now c.args.earlier c.args.form.now z (to_z w64 (of_z w64 z))
    (omega arith) c.factor-factor.ensures.value (to_z-of_z w64 z fits) (sym c.is_eliminated.ensures ∙ c.if-not-is_eliminated.true) in
    rw passed c.search.ensures.bounds

pub search-returns-clause-left : goal.search-returns-clause-left
search-returns-clause-left t c =
    let z = c.factor-factor.result in
    let fits = factor_fits z (c.factor-factor.ensures.small c.requires.form) in
    let binding = c.index-as_slice-symbol.result in
    let bound = slice_get-is c.args.scope.now (c.args.earlier - 1) binding (omega arith) (rw c.as_slice.ensures at c.index-as_slice-symbol.is) in
    let made = replacements-made c.args.scope.now c.args.inner.now c.args.earlier c.args.form.now z (to_z w64 (of_z w64 z)) binding c.in_ok-rest.rest c.candidates.result.now
    (omega arith) c.factor-factor.ensures.value (sym c.is_eliminated.ensures ∙ c.if-not-is_eliminated.false) bound (to_z-of_z w64 z fits) c.in_ok-rest.ensures c.candidates.ensures in
    rw made c.branches.ensures.left

pub search-returns-clause-bounds : goal.search-returns-clause-bounds
search-returns-clause-bounds t c =
    let z = c.factor-factor.result in
    let fits = factor_fits z (c.factor-factor.ensures.small c.requires.form) in
    let binding = c.index-as_slice-symbol.result in
    let bound = slice_get-is c.args.scope.now (c.args.earlier - 1) binding (omega arith) (rw c.as_slice.ensures at c.index-as_slice-symbol.is) in
    let made = bounds-made c.args.scope.now c.args.inner.now c.args.earlier c.args.form.now z (to_z w64 (of_z w64 z)) binding c.in_ok-rest.rest c.candidates.result.now c.any_may_be.result
    (omega arith) c.factor-factor.ensures.value (sym c.is_eliminated.ensures ∙ c.if-not-is_eliminated.false) bound (to_z-of_z w64 z fits) c.in_ok-rest.ensures c.candidates.ensures c.any_may_be.ensures in
    rw made c.branches.ensures.bounds

pub branch-search-requires : goal.branch-search-requires
branch-search-requires t c =
    let made : combined c.args.rest.now c.args.factor c.args.candidate.now ≡ Some c.in-Ok.next = (let fits : SFits w64 c.args.factor = c.ranges.factor in simp (to_z-of_z) at c.in-Ok.ensures.ok) in
    (omega arith, ((combined-means c.args.rest.now c.args.factor c.args.candidate.now c.in-Ok.next made).within, omega arith))
