use Rattle.std.proofs.Common.{◌≡◌, ◌+◌, ◌++◌, List, ℕ, append_assoc, drop, ap, sym, ◌∙◌, subst, Bool, true, false, Option}
use Rattle.std.specs.Prelude.{IfOk, map, ◌&&◌}
use Rattle.algo.specs.View.{algorithm_of}
use Rattle.plan.specs.declared.stmt.Stmt.{Stmt}
use Rattle.lin.specs.Forms.{is_within_limits}
use Rattle.plan.specs.Plan.{Statement, Guard, block}
use Rattle.plan.specs.Lists.{list_statements}
use Rattle.plan.specs.View.{statement_of, coordinate_of}
use Rattle.soundness.specs.Outline.Flaws.{Flaw, first_of, told}
use Rattle.soundness.specs.Outline.Forms.{is_over}
use Rattle.soundness.specs.Outline.View.{certificate_in, group_in, outline_in, plan_in}
use Rattle.validation.specs.Groups.Here.{here_of}
use Rattle.validation.specs.Groups.Lines.{Here, flaws, block_flaws, line_flaws, before, after, in_later, in_loop, inside, is_empty, is_one_of, loop_flaws, store_flaws}
use Rattle.tree.specs.Term.{term_of}
use Rattle.validation.proofs.Rows.{at_seq}
use Rattle.validation.proofs.Walk.{first_found, first_none, block_step, store_anyhow}
use Rattle.validation.proofs.groups.lines.+walk.Goals as goal

pub all_flaw-loop-k-init : goal.all_flaw-loop-k-init
all_flaw-loop-k-init t c =
    let o = c.args.ground.outlined.now in
    ap (λ (h : Here). first_of (block_flaws (algorithm_of c.args.ground.algo.now) (plan_in o) (certificate_in o) (group_in o) (outline_in o) (block (list_statements c.args.all.now)) h)) (c.in_ok-now.ensures c.args.ground.lines c.args.last)

pub all_flaw-returns-then-is_some : goal.all_flaw-returns-then-is_some
all_flaw-returns-then-is_some t c =
    let a = algorithm_of c.args.ground.algo.now in
    let o = c.args.ground.outlined.now in
    let xs = c.args.all.now in
    let k = c.loop-k.k in
    let x = c.index-all-k.result in
    let h = here_of c.args.ground.lines c.loop-k.now c.args.last in
    let none_behind = is_empty (block (list_statements (drop (k + 1) xs))) in
    first_found c.in_ok-flaw.flaw
    (flaws a (plan_in o) (certificate_in o) (group_in o) (outline_in o) (statement_of x) (before none_behind h))
    (block_flaws a (plan_in o) (certificate_in o) (group_in o) (outline_in o) (block (list_statements (drop (k + 1) xs))) (after (statement_of x) h))
    (sym c.is_some.ensures ∙ c.if-is_some.true)
    (c.in_ok-flaw.ensures ∙ ap (λ (b : Bool). first_of (flaws a (plan_in o) (certificate_in o) (group_in o) (outline_in o) (statement_of x) (here_of c.args.ground.lines c.loop-k.now b))) c.is_last.ensures)
    ∙ ap first_of (sym (block_step a (plan_in o) (certificate_in o) (group_in o) (outline_in o) xs k x h c.loop-k-test.true c.index-all-k.is))
    ∙ c.loop-k.invariant

pub all_flaw-loop-k-preserved : goal.all_flaw-loop-k-preserved
all_flaw-loop-k-preserved t c =
    let a = algorithm_of c.args.ground.algo.now in
    let o = c.args.ground.outlined.now in
    let xs = c.args.all.now in
    let k = c.loop-k.k in
    let x = c.index-all-k.result in
    let h = here_of c.args.ground.lines c.loop-k.now c.args.last in
    let none_behind = is_empty (block (list_statements (drop (k + 1) xs))) in
    ap (λ (n : Here). first_of (block_flaws a (plan_in o) (certificate_in o) (group_in o) (outline_in o) (block (list_statements (drop (k + 1) xs))) n)) (c.in_ok-pass.ensures c.args.ground.lines c.args.last)
    ∙ sym (first_none c.in_ok-flaw.flaw
    (flaws a (plan_in o) (certificate_in o) (group_in o) (outline_in o) (statement_of x) (before none_behind h))
    (block_flaws a (plan_in o) (certificate_in o) (group_in o) (outline_in o) (block (list_statements (drop (k + 1) xs))) (after (statement_of x) h))
    (sym c.is_some.ensures ∙ c.if-is_some.false)
    (c.in_ok-flaw.ensures ∙ ap (λ (b : Bool). first_of (flaws a (plan_in o) (certificate_in o) (group_in o) (outline_in o) (statement_of x) (here_of c.args.ground.lines c.loop-k.now b))) c.is_last.ensures))
    ∙ ap first_of (sym (block_step a (plan_in o) (certificate_in o) (group_in o) (outline_in o) xs k x h c.loop-k-test.true c.index-all-k.is))
    ∙ c.loop-k.invariant

pub stmt_flaw-returns-then-is_some : goal.stmt_flaw-returns-then-is_some
stmt_flaw-returns-then-is_some t c =
    let a = algorithm_of c.args.ground.algo.now in
    let o = c.args.ground.outlined.now in
    let x = c.in-For.span in
    let i = c.in-For.symbol in
    let h = here_of c.args.ground.lines c.args.here.now c.args.last in
    first_found c.loop_flaw-flaw.result
    (loop_flaws a (plan_in o) (certificate_in o) (group_in o) (outline_in o) h i x c.in-For.kind (statement_of c.in-For.body.value))
    (flaws a (plan_in o) (certificate_in o) (group_in o) (outline_in o) (statement_of c.in-For.body.value) (in_loop i h))
    (sym c.is_some.ensures ∙ c.if-is_some.true)
    (c.loop_flaw-flaw.ensures ∙ (λ j. first_of (loop_flaws a (plan_in o) (certificate_in o) (group_in o) (outline_in o) h i x c.in-For.kind (statement_of (c.deref-in-For.ensures j)))))
    ∙ ap (λ (s : Stmt). first_of (flaws a (plan_in o) (certificate_in o) (group_in o) (outline_in o) (statement_of s) h)) (sym c.in-For.is)

pub stmt_flaw-returns-in-Seq : goal.stmt_flaw-returns-in-Seq
stmt_flaw-returns-in-Seq t c =
    let a = algorithm_of c.args.ground.algo.now in
    let o = c.args.ground.outlined.now in
    let h = here_of c.args.ground.lines c.args.here.now c.args.last in
    subst (λ (s : Statement). IfOk c.all_flaw.result (λ flaw. told flaw ≡ first_of (flaws a (plan_in o) (certificate_in o) (group_in o) (outline_in o) s h)))
    (at_seq (λ s. s) c.in-Seq.all c.deref.result.now c.args.stmt.now c.deref.ensures.value c.in-Seq.is) c.all_flaw.ensures

pub stmt_flaw-returns-in_ok-inner-in-For : goal.stmt_flaw-returns-in_ok-inner-in-For
stmt_flaw-returns-in_ok-inner-in-For t c =
    let a = algorithm_of c.args.ground.algo.now in
    let o = c.args.ground.outlined.now in
    let x = c.in-For.span in
    let i = c.in-For.symbol in
    let h = here_of c.args.ground.lines c.args.here.now c.args.last in
    let own = loop_flaws a (plan_in o) (certificate_in o) (group_in o) (outline_in o) h i x c.in-For.kind (statement_of c.in-For.body.value) in
    let inside = flaws a (plan_in o) (certificate_in o) (group_in o) (outline_in o) (statement_of c.in-For.body.value) (in_loop i h) in
    let behind = sym (first_none c.loop_flaw-flaw.result own inside (sym c.is_some.ensures ∙ c.if-is_some.false)
    (c.loop_flaw-flaw.ensures ∙ (λ j. first_of (loop_flaws a (plan_in o) (certificate_in o) (group_in o) (outline_in o) h i x c.in-For.kind (statement_of (c.deref-in-For.ensures j))))))
    ∙ ap (λ (s : Stmt). first_of (flaws a (plan_in o) (certificate_in o) (group_in o) (outline_in o) (statement_of s) h)) (sym c.in-For.is) in
    subst (λ (x : Option Flaw). IfOk c.stmt_flaw.result (λ flaw. told flaw ≡ x))
    ((λ j. first_of (flaws a (plan_in o) (certificate_in o) (group_in o) (outline_in o) (statement_of (c.deref-in-For-2.ensures j)) (c.in_ok-inner-in-For.ensures c.args.ground.lines c.args.last j))) ∙ behind)
    c.stmt_flaw.ensures

pub stmt_flaw-returns-in-Store : goal.stmt_flaw-returns-in-Store
stmt_flaw-returns-in-Store t c =
    let a = algorithm_of c.args.ground.algo.now in
    let o = c.args.ground.outlined.now in
    let h = here_of c.args.ground.lines c.args.here.now c.args.last in
    let e = term_of c.in-Store.value in
    subst (λ (x : Option Flaw). IfOk c.store_flaw.result (λ flaw. told flaw ≡ x))
    ((λ j. first_of (store_flaws a (plan_in o) (certificate_in o) (group_in o) (outline_in o) (here_of c.args.ground.lines c.args.here.now true) c.in-Store.buffer c.in-Store.definition (map coordinate_of (c.deref-in-Store.ensures.value j)) e))
    ∙ ap first_of (store_anyhow a (plan_in o) (certificate_in o) (group_in o) (outline_in o) c.args.ground.lines c.args.here.now c.args.last c.in-Store.buffer c.in-Store.definition (map coordinate_of c.in-Store.coordinates.items) e)
    ∙ ap (λ (s : Stmt). first_of (flaws a (plan_in o) (certificate_in o) (group_in o) (outline_in o) (statement_of s) h)) (sym c.in-Store.is))
    c.store_flaw.ensures

pub stmt_flaw-returns-in-Guard : goal.stmt_flaw-returns-in-Guard
stmt_flaw-returns-in-Guard t c =
    let a = algorithm_of c.args.ground.algo.now in
    let o = c.args.ground.outlined.now in
    let h = here_of c.args.ground.lines c.args.here.now c.args.last in
    subst (λ (s : Statement). IfOk c.guarded_flaw.result (λ flaw. told flaw ≡ first_of (flaws a (plan_in o) (certificate_in o) (group_in o) (outline_in o) s h)))
    ((λ j. Guard c.in-Guard.low c.in-Guard.high (statement_of (c.deref-in-Guard.ensures j))) ∙ ap statement_of (sym c.in-Guard.is))
    (c.guarded_flaw.ensures c.args.last)

pub guarded_flaw-returns-then-is_some : goal.guarded_flaw-returns-then-is_some
guarded_flaw-returns-then-is_some t c = λ last.
    let a = algorithm_of c.args.ground.algo.now in
    let o = c.args.ground.outlined.now in
    let symbols = c.args.here.now.symbols.items in
    let low = c.args.low.now in
    let high = c.args.high.now in
    let h = here_of c.args.ground.lines c.args.here.now last in
    first_found c.guard_flaw-flaw.result
    (line_flaws c.args.here.now.line (is_over symbols low && is_over symbols high) (is_within_limits low && is_within_limits high) true true)
    (flaws a (plan_in o) (certificate_in o) (group_in o) (outline_in o) (statement_of c.args.body.now) (inside h))
    (sym c.is_some.ensures ∙ c.if-is_some.true) c.guard_flaw-flaw.ensures

pub guarded_flaw-returns : goal.guarded_flaw-returns
guarded_flaw-returns t c = λ last.
    let a = algorithm_of c.args.ground.algo.now in
    let o = c.args.ground.outlined.now in
    let symbols = c.args.here.now.symbols.items in
    let low = c.args.low.now in
    let high = c.args.high.now in
    let h = here_of c.args.ground.lines c.args.here.now last in
    let own = line_flaws c.args.here.now.line (is_over symbols low && is_over symbols high) (is_within_limits low && is_within_limits high) true true in
    let behind = sym (first_none c.guard_flaw-flaw.result own (flaws a (plan_in o) (certificate_in o) (group_in o) (outline_in o) (statement_of c.args.body.now) (inside h))
    (sym c.is_some.ensures ∙ c.if-is_some.false) c.guard_flaw-flaw.ensures) in
    subst (λ (x : Option Flaw). IfOk c.stmt_flaw.result (λ flaw. told flaw ≡ x))
    ((λ j. first_of (flaws a (plan_in o) (certificate_in o) (group_in o) (outline_in o) (statement_of c.args.body.now) (c.in_ok-inner.ensures c.args.ground.lines last j))) ∙ behind)
    c.stmt_flaw.ensures

pub first_part_flaw-returns-then-is_some : goal.first_part_flaw-returns-then-is_some
first_part_flaw-returns-then-is_some t c = λ last.
    let a = algorithm_of c.args.ground.algo.now in
    let o = c.args.ground.outlined.now in
    let h = here_of c.args.ground.lines c.args.here.now last in
    first_found c.line_flaw-flaw.result
    (line_flaws c.args.here.now.line (is_one_of c.args.here.now.loops.items c.args.symbol) true true true)
    (flaws a (plan_in o) (certificate_in o) (group_in o) (outline_in o) (statement_of c.args.first.now) (inside h))
    (sym c.is_some.ensures ∙ c.if-is_some.true)
    (c.line_flaw-flaw.ensures ∙ ap (λ (b : Bool). first_of (line_flaws c.args.here.now.line b true true true)) (c.is_bound.ensures ∙ ap (λ (xs : List ℕ). is_one_of xs c.args.symbol) c.deref.ensures.value))

pub first_part_flaw-returns : goal.first_part_flaw-returns
first_part_flaw-returns t c = λ last.
    let a = algorithm_of c.args.ground.algo.now in
    let o = c.args.ground.outlined.now in
    let h = here_of c.args.ground.lines c.args.here.now last in
    let own = line_flaws c.args.here.now.line (is_one_of c.args.here.now.loops.items c.args.symbol) true true true in
    let behind = sym (first_none c.line_flaw-flaw.result own (flaws a (plan_in o) (certificate_in o) (group_in o) (outline_in o) (statement_of c.args.first.now) (inside h))
    (sym c.is_some.ensures ∙ c.if-is_some.false)
    (c.line_flaw-flaw.ensures ∙ ap (λ (b : Bool). first_of (line_flaws c.args.here.now.line b true true true)) (c.is_bound.ensures ∙ ap (λ (xs : List ℕ). is_one_of xs c.args.symbol) c.deref.ensures.value))) in
    subst (λ (x : Option Flaw). IfOk c.stmt_flaw.result (λ flaw. told flaw ≡ x))
    ((λ j. first_of (flaws a (plan_in o) (certificate_in o) (group_in o) (outline_in o) (statement_of c.args.first.now) (c.in_ok-inner.ensures c.args.ground.lines last j))) ∙ behind)
    c.stmt_flaw.ensures

pub stmt_flaw-returns-then-is_some-2 : goal.stmt_flaw-returns-then-is_some-2
stmt_flaw-returns-then-is_some-2 t c =
    let a = algorithm_of c.args.ground.algo.now in
    let o = c.args.ground.outlined.now in
    let h = here_of c.args.ground.lines c.args.here.now c.args.last in
    let first = statement_of c.in-First.first.value in
    let own = line_flaws c.args.here.now.line (is_one_of c.args.here.now.loops.items c.in-First.symbol) true true true in
    let arm = flaws a (plan_in o) (certificate_in o) (group_in o) (outline_in o) first (inside h) in
    let other = flaws a (plan_in o) (certificate_in o) (group_in o) (outline_in o) (statement_of c.in-First.later.value) (in_later first h) in
    first_found c.in_ok-flaw-in-First.flaw (own ++ arm) other (sym c.is_some-in-First.ensures ∙ c.if-is_some-2.true)
    (c.in_ok-flaw-in-First.ensures c.args.last ∙ (λ j. first_of (own ++ flaws a (plan_in o) (certificate_in o) (group_in o) (outline_in o) (statement_of (c.deref-in-First.ensures j)) (inside h))))
    ∙ ap first_of (append_assoc own arm other)
    ∙ ap (λ (s : Stmt). first_of (flaws a (plan_in o) (certificate_in o) (group_in o) (outline_in o) (statement_of s) h)) (sym c.in-First.is)

pub stmt_flaw-returns-in_ok-other-in-First : goal.stmt_flaw-returns-in_ok-other-in-First
stmt_flaw-returns-in_ok-other-in-First t c =
    let a = algorithm_of c.args.ground.algo.now in
    let o = c.args.ground.outlined.now in
    let h = here_of c.args.ground.lines c.args.here.now c.args.last in
    let first = statement_of c.in-First.first.value in
    let own = line_flaws c.args.here.now.line (is_one_of c.args.here.now.loops.items c.in-First.symbol) true true true in
    let arm = flaws a (plan_in o) (certificate_in o) (group_in o) (outline_in o) first (inside h) in
    let other = flaws a (plan_in o) (certificate_in o) (group_in o) (outline_in o) (statement_of c.in-First.later.value) (in_later first h) in
    let behind = sym (first_none c.in_ok-flaw-in-First.flaw (own ++ arm) other (sym c.is_some-in-First.ensures ∙ c.if-is_some-2.false)
    (c.in_ok-flaw-in-First.ensures c.args.last ∙ (λ j. first_of (own ++ flaws a (plan_in o) (certificate_in o) (group_in o) (outline_in o) (statement_of (c.deref-in-First.ensures j)) (inside h)))))
    ∙ ap first_of (append_assoc own arm other)
    ∙ ap (λ (s : Stmt). first_of (flaws a (plan_in o) (certificate_in o) (group_in o) (outline_in o) (statement_of s) h)) (sym c.in-First.is) in
    subst (λ (x : Option Flaw). IfOk c.stmt_flaw-in-First.result (λ flaw. told flaw ≡ x))
    ((λ j. first_of (flaws a (plan_in o) (certificate_in o) (group_in o) (outline_in o) (statement_of (c.deref-in-First-3.ensures j)) (c.in_ok-other-in-First.ensures c.args.ground.lines c.args.last j)))
    ∙ (λ j. first_of (flaws a (plan_in o) (certificate_in o) (group_in o) (outline_in o) (statement_of c.in-First.later.value) (in_later (statement_of (c.deref-in-First-2.ensures j)) h)))
    ∙ behind)
    c.stmt_flaw-in-First.ensures
