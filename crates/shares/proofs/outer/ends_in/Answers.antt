use Rattle.std.proofs.Common.{◌≡◌, ℕ, List, length, take, sym, subst, arith, true}
use Rattle.std.specs.Prelude.{All, IsTrue, ◌≤ℤ◌}
use Rattle.std.proofs.lemmas.List.Elements.{recursion_from_All}
use Rattle.lin.specs.Forms.{Form, is_within_limits}
use Rattle.plan.specs.Symbols.{form_value, smallest}
use Rattle.plan.specs.Certificate.Cells.{grid_symbols}
use Rattle.shares.proofs.Blocking.{all_more, all_none, all_taken}
use Rattle.shares.proofs.Cornered.{smallest_none, smallest_least, some_forms}
use Rattle.shares.proofs.outer.ends_in.Goals as goal

pub returns-then-is_empty : goal.returns-then-is_empty
returns-then-is_empty c so at between =
    smallest_none (grid_symbols at) c.args.inner.now c.args.outer.now c.is_empty.result c.is_empty-then-is_empty.result c.is_empty.ensures c.if-is_empty.true c.is_empty-then-is_empty.ensures so

pub loop-form-init : goal.loop-form-init
loop-form-init c at between = all_none (λ (f : Form). smallest (grid_symbols at) c.args.inner.now ≤ℤ form_value f (grid_symbols at))

pub is_kept_below-requires-clause-form : goal.is_kept_below-requires-clause-form
is_kept_below-requires-clause-form c =
    subst (λ (f : Form). IsTrue (is_within_limits f)) (sym c.form-item.is) (c.requires.outer c.loop-form.form-index c.form-item.result c.loop-form-test.true)

pub loop-form-preserved : goal.loop-form-preserved
loop-form-preserved c at between =
    let P : Form → Type 0 = λ f. smallest (grid_symbols at) c.args.inner.now ≤ℤ form_value f (grid_symbols at) in
    all_more P P (λ f h. h) c.args.outer.now c.loop-form.form-index c.form-item.result c.loop-form-test.true c.form-item.is (c.loop-form.invariant at between) (c.is_kept_below.ensures c.if-not-is_kept_below.false at between)

pub returns : goal.returns
returns c _ at between =
    let P : Form → Type 0 = λ f. smallest (grid_symbols at) c.args.inner.now ≤ℤ form_value f (grid_symbols at) in
    let outer = c.args.outer.now in
    let past = c.loop-form-test.false in
    let every = all_taken P outer c.loop-form.form-index (omega (arith, past)) (c.loop-form.invariant at between) in
    smallest_least (grid_symbols at) (smallest (grid_symbols at) c.args.inner.now) outer (some_forms outer c.is_empty.result c.is_empty.ensures c.if-is_empty.false) (recursion_from_All P outer every)
