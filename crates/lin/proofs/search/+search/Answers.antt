use Rattle.std.proofs.Common.{◌≡◌, ◌-◌, ◌^◌, lit<, arith, sym, ◌∙◌}
use Rattle.std.specs.Prelude.{ℤ, pos, Some}
use Rattle.std.proofs.lemmas.Int.{ints, to_z-of_z}
use Rattle.lin.specs.Forms.{Form, combined, IsWithin}
use Rattle.lin.specs.Search.{branch_cost, branch_bound}
use Rattle.lin.proofs.SearchLemmas.{drop_all, total-drop, least-zero, replacements-zero, least-made, replacements-made, slice_get-is, counted_all, over_budget}
use Rattle.lin.proofs.Machine.{within_fits}
use Rattle.lin.proofs.Limits.{combined-means}
use Rattle.lin.proofs.search.+search.Goals as goal
use mir.Val.{to_z, of_z, SFits}
use mir.Syntax.{w64}

pub branches-returns-clause-left : goal.branches-returns-clause-left
branches-returns-clause-left t c =
    let fits : SFits w64 c.args.factor = c.ranges.factor in
    let none = drop_all c.args.candidates.now c.loop-place.place (omega arith) in
    let spent = simp (none, to_z-of_z) at c.loop-place.invariant.spent in
    omega (arith, spent)

pub branches-returns-clause-bound : goal.branches-returns-clause-bound
branches-returns-clause-bound t c =
    let fits : SFits w64 c.args.factor = c.ranges.factor in
    let counted = simp (to_z-of_z) at c.loop-place.invariant.counted in
    counted_all (λ (other : Form). branch_bound c.args.symbols.now c.args.symbol (combined c.args.rest.now c.args.factor other)) c.args.largest c.args.candidates.now c.loop-place.place c.loop-place.counted (omega arith) c.loop-place.invariant.first counted

pub branches-returns-in_default-clause-left : goal.branches-returns-in_default-clause-left
branches-returns-in_default-clause-left t c =
    let fits : SFits w64 c.args.factor = c.ranges.factor in
    let spent = simp (to_z-of_z) at c.loop-place.invariant.spent in
    let item = total-drop (λ (other : Form). branch_cost c.args.symbols.now c.args.symbol (combined c.args.rest.now c.args.factor other)) c.args.candidates.now c.loop-place.place c.index-candidates-place.result (omega arith) c.index-candidates-place.is in
    let over = simp (to_z-of_z) at (rw c.in_default.is at c.in_ok-found.ensures.left) in
    over_budget c.args.budget c.loop-place.left _ _ _ _ spent item over

abbrev factor_fits : (z : ℤ) → IsWithin (2 ^ 20) z → SFits w64 z
factor_fits z h = within_fits (2 ^ 20) z h (lit< tt)

pub search-returns-then-factor-eq0-clause-left : goal.search-returns-then-factor-eq0-clause-left
search-returns-then-factor-eq0-clause-left t c =
    let fits = factor_fits c.factor-factor.result (c.factor-factor.ensures.small c.requires.form) in
    let none : c.factor-factor.result ≡ pos 0 = omega (arith, ints) in
    rw (replacements-zero c.args.symbols.now c.args.earlier c.args.form.now (omega arith) (sym c.factor-factor.ensures.value ∙ none)) c.search.ensures.left

pub search-returns-then-factor-eq0-clause-bound : goal.search-returns-then-factor-eq0-clause-bound
search-returns-then-factor-eq0-clause-bound t c =
    let fits = factor_fits c.factor-factor.result (c.factor-factor.ensures.small c.requires.form) in
    let none : c.factor-factor.result ≡ pos 0 = omega (arith, ints) in
    rw (least-zero c.args.symbols.now c.args.earlier c.args.form.now (omega arith) (sym c.factor-factor.ensures.value ∙ none)) c.search.ensures.bound

pub search-returns-clause-left : goal.search-returns-clause-left
search-returns-clause-left t c =
    let z = c.factor-factor.result in
    let fits = factor_fits z (c.factor-factor.ensures.small c.requires.form) in
    let some : z ≡ pos 0 → ⊥ = λ e. c.if-factor-eq0.false (omega (arith, ints, e)) in
    let before = slice_get-is c.args.symbols.now (c.args.earlier - 1) c.index-symbols-symbol.result (omega arith) c.index-symbols-symbol.is in
    let made = replacements-made c.args.symbols.now c.args.earlier c.args.form.now z (to_z w64 (of_z w64 z)) c.index-symbols-symbol.result c.in_ok-rest.rest c.candidates.result.now
    (omega arith) c.factor-factor.ensures.value some before (to_z-of_z w64 z fits) c.in_ok-rest.ensures c.candidates.ensures in
    rw made c.branches.ensures.left

pub search-returns-clause-bound : goal.search-returns-clause-bound
search-returns-clause-bound t c =
    let z = c.factor-factor.result in
    let fits = factor_fits z (c.factor-factor.ensures.small c.requires.form) in
    let some : z ≡ pos 0 → ⊥ = λ e. c.if-factor-eq0.false (omega (arith, ints, e)) in
    let before = slice_get-is c.args.symbols.now (c.args.earlier - 1) c.index-symbols-symbol.result (omega arith) c.index-symbols-symbol.is in
    let made = least-made c.args.symbols.now c.args.earlier c.args.form.now z (to_z w64 (of_z w64 z)) c.index-symbols-symbol.result c.in_ok-rest.rest c.candidates.result.now c.any_may_be.result
    (omega arith) c.factor-factor.ensures.value some before (to_z-of_z w64 z fits) c.in_ok-rest.ensures c.candidates.ensures c.any_may_be.ensures in
    rw made c.branches.ensures.bound

pub branch-search-requires : goal.branch-search-requires
branch-search-requires t c =
    let made : combined c.args.rest.now c.args.factor c.args.candidate.now ≡ Some c.in-Ok.next = (let fits : SFits w64 c.args.factor = c.ranges.factor in simp (to_z-of_z) at c.in-Ok.ensures.ok) in
    (omega arith, ((combined-means c.args.rest.now c.args.factor c.args.candidate.now c.in-Ok.next made).within, omega arith))
