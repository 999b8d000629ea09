use Rattle.std.proofs.Common.{◌≡◌, ℕ, ◌<◌, ◌+◌, ◌-◌, ◌^◌, List, [], ◌∷◌, ◌++◌, map, None, sym, ap, ◌∙◌, arith, Option, rules, subst}
use Rattle.std.specs.Prelude.{IfOk, flat_map, not}
use Rattle.plan.specs.Semantics.Setting.{or_else}
use Rattle.soundness.specs.declared.outline.refusals.code.Flaw.{Flaw}
use Rattle.plan.specs.declared.stmt.Stmt.{Stmt}
use Rattle.plan.specs.declared.stmt.Stmt.TheViews.{the_lemmas}
use Rattle.plan.specs.Lines.{lines, block_lines}
use Rattle.plan.specs.Lists.{list_statements}
use Rattle.plan.specs.Plan.{Statement, Statements, block}
use Rattle.plan.specs.View.{statement_of}
use Rattle.soundness.specs.Obligations.{Known, Obligation, onwards, in_loop, has_symbol, obligation, obligations, turn_obligations, block_obligations, claim_obligations, kept_of, nests_of, within, without, Undefined, Named}
use Rattle.soundness.specs.Outline.View.{outline_in}
use Rattle.obligations.specs.Context.Around.{known_of, nest_of, windows_of}
use Rattle.obligations.specs.Asked.{first_unmet}
use Rattle.obligations.proofs.Blocks.{from, from_more, from_end, seq_is}
use Rattle.obligations.specs.declared.context.known.Nest.{Nest}
use Rattle.plan.specs.declared.certificate.cert.Window.{Window}
use Rattle.obligations.proofs.Unmet.{stops, goes, nothing, one_apart, append}
use Rattle.obligations.proofs.Kept.{all_left}
use Rattle.obligations.proofs.Walking.{asks_at, block_at, claims_same}
use Rattle.obligations.proofs.walk.+walking.Goals as goal

pub unmet_in-unmet_in_block-requires : goal.unmet_in-unmet_in_block-requires
unmet_in-unmet_in_block-requires g t c κs within =
    let e = seq_is c.args.stmt.now c.in-Seq.all c.deref.result.now c.in-Seq.is c.deref.ensures.value in
    let fits : c.args.line + block_lines (block (list_statements c.deref.result.now)) < 2 ^ 32 = subst (λ (a : Statement). c.args.line + lines a < 2 ^ 32) e c.requires in
    (search (rules, the_lemmas), (search rules, (search rules, fits)))

pub unmet_in-returns-in_ok-in_block-in-Seq : goal.unmet_in-returns-in_ok-in_block-in-Seq
unmet_in-returns-in_ok-in_block-in-Seq g t c =
    let O = outline_in c.args.judge.now.outlined.now in
    let R = g.B.Bounds.rules c.args.judge.now.bounds.now in
    let N = g.T.NestTests.nests c.args.judge.now.tests.now in
    let P = c.args.judge.now.part in
    let us = c.args.updating.now in
    let body = block (list_statements c.deref.result.now) in
    let K = known_of c.args.known.now us in
    let e = seq_is c.args.stmt.now c.in-Seq.all c.deref.result.now c.in-Seq.is c.deref.ensures.value in
    let ws = windows_of c.args.kept.now in
    let all = ap (λ (kn : Known). first_unmet R N P (block_obligations O R ws body c.args.line kn)) (c.in_ok-in_block-in-Seq.ensures us)
    ∙ ap (λ (b : Statement). first_unmet R N P (turn_obligations O R ws b c.args.line K)) (sym e) in
    subst (λ (o : Option Flaw). IfOk c.unmet_in_block.result (λ flaw. flaw ≡ o)) all c.unmet_in_block.ensures

pub unmet_in-returns-in-Some : goal.unmet_in-returns-in-Some
unmet_in-returns-in-Some g t c =
    let O = outline_in c.args.judge.now.outlined.now in
    let R = g.B.Bounds.rules c.args.judge.now.bounds.now in
    let N = g.T.NestTests.nests c.args.judge.now.tests.now in
    let P = c.args.judge.now.part in
    let us = c.args.updating.now in
    let K = known_of c.args.known.now us in
    let i = c.in-For.symbol in
    let x = c.in-For.span in
    let body = statement_of c.in-For.body.value in
    let o = obligation O R Undefined c.args.line K (Named (not (has_symbol O R i x K))) in
    let ws = windows_of c.args.kept.now in
    let rest = turn_obligations O R (kept_of O R i body (c.args.line + 1)) body (c.args.line + 1) (in_loop O R i x body K) in
    let split : first_unmet R N P (turn_obligations O R ws (statement_of c.args.stmt.now) c.args.line K) ≡ or_else (first_unmet R N P (o ∷ [])) (first_unmet R N P rest) =
    ap (λ (a : Stmt). first_unmet R N P (turn_obligations O R ws (statement_of a) c.args.line K)) c.in-For.is ∙ one_apart R N P o rest in
    sym (split ∙ stops _ _ c.in-Some.flaw (sym c.in-Some.ensures))

pub unmet_in-returns-in_ok-kept-in-For : goal.unmet_in-returns-in_ok-kept-in-For
unmet_in-returns-in_ok-kept-in-For g t c =
    let O = outline_in c.args.judge.now.outlined.now in
    let R = g.B.Bounds.rules c.args.judge.now.bounds.now in
    let N = g.T.NestTests.nests c.args.judge.now.tests.now in
    let P = c.args.judge.now.part in
    let us = c.args.updating.now in
    let K = known_of c.args.known.now us in
    let i = c.in-For.symbol in
    let x = c.in-For.span in
    let body = statement_of c.in-For.body.value in
    let line = c.args.line + 1 in
    let o = obligation O R Undefined c.args.line K (Named (not (has_symbol O R i x K))) in
    let rest = turn_obligations O R (kept_of O R i body line) body line (in_loop O R i x body K) in
    let split : first_unmet R N P (turn_obligations O R (windows_of c.args.kept.now) (statement_of c.args.stmt.now) c.args.line K)
    ≡ or_else (first_unmet R N P (o ∷ [])) (first_unmet R N P rest) =
    ap (λ (a : Stmt). first_unmet R N P (turn_obligations O R (windows_of c.args.kept.now) (statement_of a) c.args.line K)) c.in-For.is ∙ one_apart R N P o rest in
    let one : c.deref-in-For.result.now ≡ c.in-For.body.value = c.deref-in-For.ensures in
    let two : c.deref-in-For-2.result.now ≡ c.in-For.body.value = c.deref-in-For-2.ensures in
    let four : c.deref-in-For-4.result.now ≡ c.in-For.body.value = c.deref-in-For-4.ensures in
    let kept : windows_of c.deref-in-For-3.result.now ≡ kept_of O R i (statement_of c.deref-in-For-2.result.now) line =
    ap windows_of c.deref-in-For-3.ensures.value ∙ c.in_ok-kept-in-For.ensures in
    let asked : List Window → Stmt → Known → Option Flaw = λ ws b kn. first_unmet R N P (turn_obligations O R ws (statement_of b) line kn) in
    let all = split ∙ goes _ _ (sym c.in_default-unmet_loop.ensures)
    ∙ (λ j. asked (kept_of O R i (statement_of (sym two j)) line) (sym four j) (in_loop O R i x (statement_of (sym one j)) K))
    ∙ (λ j. asked (sym kept j) c.deref-in-For-4.result.now (sym (c.in_ok-inside-in-For.ensures us) j)) in
    subst (λ (f : Option Flaw). IfOk c.unmet_in.result (λ flaw. flaw ≡ f)) (sym all) c.unmet_in.ensures

pub unmet_at-returns : goal.unmet_at-returns
unmet_at-returns g t c =
    let O = outline_in c.args.judge.now.outlined.now in
    let R = g.B.Bounds.rules c.args.judge.now.bounds.now in
    let N = g.T.NestTests.nests c.args.judge.now.tests.now in
    let P = c.args.judge.now.part in
    let us = c.args.updating.now in
    let next = c.args.next.now in
    let a = statement_of c.args.stmt.now in
    let K = known_of c.args.known.now us in
    let ws = windows_of c.args.kept.now in
    let nests : map nest_of c.deref-2.result.now ≡ nests_of O R a next K.own ++ K.updating =
    ap (λ (ns : List Nest). map nest_of ns) c.deref-2.ensures.value ∙ c.in_ok-nests.ensures
    ∙ ap (λ (own : List ℕ). nests_of O R a next own ++ K.updating) c.deref.ensures.value in
    let around : known_of c.args.known.now c.deref-2.result.now ≡ within O R a next K =
    λ j. record { binders = K.binders; buffers = K.buffers; claims = K.claims; own = K.own; updating = nests j } in
    let first = obligations O R a c.args.begin (within O R a next K) in
    let claims : List Obligation = flat_map (claim_obligations O R ws c.args.begin c.args.last K a) next in
    let none : first_unmet R N P first ≡ None =
    ap (λ (kn : Known). first_unmet R N P (obligations O R a c.args.begin kn)) (sym around) ∙ sym c.in_ok-flaw.ensures ∙ c.in_default.is in
    let same : flat_map (claim_obligations O R ws c.args.begin c.args.last (known_of c.args.known.now []) a) next ≡ claims =
    claims_same O R ws c.args.begin c.args.last c.args.known.now us a next in
    let all : first_unmet R N P (first ++ claims) ≡ first_unmet R N P (flat_map (claim_obligations O R ws c.args.begin c.args.last (known_of c.args.known.now []) a) next) =
    append R N P first claims ∙ goes (first_unmet R N P first) (first_unmet R N P claims) none ∙ ap (first_unmet R N P) (sym same) in
    subst (λ (f : Option Flaw). IfOk c.unmet_claims.result (λ flaw. flaw ≡ f)) (sym all) c.unmet_claims.ensures

pub unmet_in_block-loop-stmt-init : goal.unmet_in_block-loop-stmt-init
unmet_in_block-loop-stmt-init g t c =
    let O = outline_in c.args.judge.now.outlined.now in
    let R = g.B.Bounds.rules c.args.judge.now.bounds.now in
    let N = g.T.NestTests.nests c.args.judge.now.tests.now in
    let P = c.args.judge.now.part in
    let ws = windows_of c.args.kept.now in
    let left : ws ≡ windows_of c.in_ok-left.left.items = sym (all_left ws) ∙ sym c.in_ok-left.ensures in
    record {
      found = ap (λ (ks : List Window). first_unmet R N P (block_obligations O R ks (block (list_statements c.args.all.now)) c.args.line (known_of c.args.known c.args.updating.now))) left;
      fits = c.requires;
    }

pub unmet_in_block-returns-in-Some : goal.unmet_in_block-returns-in-Some
unmet_in_block-returns-in-Some g t c =
    let O = outline_in c.args.judge.now.outlined.now in
    let R = g.B.Bounds.rules c.args.judge.now.bounds.now in
    let N = g.T.NestTests.nests c.args.judge.now.tests.now in
    let P = c.args.judge.now.part in
    let us = c.args.updating.now in
    let l = c.loop-stmt in
    let i = l.stmt-index in
    let all = c.args.all.now in
    let x = c.stmt-item.result in
    let a = statement_of x in
    let K = known_of l.known us in
    let last = c.saturating_sub-last.result in
    let next = c.deref-in-loop-stmt.result.now in
    let kept = windows_of l.left.items in
    let left : windows_of c.deref.result.now ≡ kept = ap windows_of c.deref.ensures.value in
    let more : block_lines (from all i) ≡ lines a + block_lines (from all (i + 1)) = ap block_lines (from_more all i x c.loop-stmt-test.true c.stmt-item.is) in
    let fits : l.begin + block_lines (from all i) < 2 ^ 32 = l.invariant.fits in
    let counted = c.line_count.ensures in
    let count : c.line_count.result ≡ lines a = omega (arith, more, fits, counted) in
    let ends : last ≡ l.begin + lines a - 1 = c.saturating_sub-last.ensures ∙ ap (λ (n : ℕ). l.begin + n - 1) count in
    let names : next ≡ O.named last = c.deref-in-loop-stmt.ensures.value ∙ c.in_ok-next.ensures ∙ ap O.named c.from.ensures in
    let split = l.invariant.found ∙ block_at O R N P all i x c.loop-stmt-test.true c.stmt-item.is kept l.begin K last next ends names in
    let here = ap (λ (ws : List Window). first_unmet R N P (asks_at O R N P ws x l.begin last next K)) (sym left) ∙ sym c.in_ok-flaw.ensures in
    sym (split ∙ stops _ _ c.in-Some.flaw (here ∙ c.in-Some.is))

pub unmet_in_block-loop-stmt-preserved : goal.unmet_in_block-loop-stmt-preserved
unmet_in_block-loop-stmt-preserved g t c =
    let O = outline_in c.args.judge.now.outlined.now in
    let R = g.B.Bounds.rules c.args.judge.now.bounds.now in
    let N = g.T.NestTests.nests c.args.judge.now.tests.now in
    let P = c.args.judge.now.part in
    let us = c.args.updating.now in
    let l = c.loop-stmt in
    let i = l.stmt-index in
    let all = c.args.all.now in
    let x = c.stmt-item.result in
    let a = statement_of x in
    let K = known_of l.known us in
    let last = c.saturating_sub-last.result in
    let next = c.deref-in-loop-stmt.result.now in
    let kept = windows_of l.left.items in
    let left : windows_of c.deref.result.now ≡ kept = ap windows_of c.deref.ensures.value in
    let more : block_lines (from all i) ≡ lines a + block_lines (from all (i + 1)) = ap block_lines (from_more all i x c.loop-stmt-test.true c.stmt-item.is) in
    let fits : l.begin + block_lines (from all i) < 2 ^ 32 = l.invariant.fits in
    let counted = c.line_count.ensures in
    let count : c.line_count.result ≡ lines a = omega (arith, more, fits, counted) in
    let ends : last ≡ l.begin + lines a - 1 = c.saturating_sub-last.ensures ∙ ap (λ (n : ℕ). l.begin + n - 1) count in
    let names : next ≡ O.named last = c.deref-in-loop-stmt.ensures.value ∙ c.in_ok-next.ensures ∙ ap O.named c.from.ensures in
    let split = l.invariant.found ∙ block_at O R N P all i x c.loop-stmt-test.true c.stmt-item.is kept l.begin K last next ends names in
    let here = ap (λ (ws : List Window). first_unmet R N P (asks_at O R N P ws x l.begin last next K)) (sym left) ∙ sym c.in_ok-flaw.ensures in
    let known : onwards O R a next K ≡ known_of c.in_ok-known.known us =
    sym (c.in_ok-known.ensures us ∙ ap (λ (cs : List ℕ). onwards O R a cs K) (c.deref-in-loop-stmt-2.ensures.value ∙ sym c.deref-in-loop-stmt.ensures.value)) in
    let claims : next ≡ c.deref-in-loop-stmt-3.result.now = c.deref-in-loop-stmt.ensures.value ∙ sym c.deref-in-loop-stmt-3.ensures.value in
    let windows : l.left.items ≡ c.deref-in-loop-stmt-4.result.now = sym c.deref-in-loop-stmt-4.ensures.value in
    let rest : without next kept ≡ windows_of c.in_ok-left-2.left.items = (λ j. without (claims j) (windows_of (windows j))) ∙ sym c.in_ok-left-2.ensures in
    record {
      found = split ∙ goes _ _ (here ∙ c.in_default.is)
          ∙ (λ j. first_unmet R N P (block_obligations O R (rest j) (from all (i + 1)) (l.begin + sym count j) (known j)));
      fits = omega (arith, more, fits, count);
    }

pub unmet_in_block-returns : goal.unmet_in_block-returns
unmet_in_block-returns g t c =
    let R = g.B.Bounds.rules c.args.judge.now.bounds.now in
    let N = g.T.NestTests.nests c.args.judge.now.tests.now in
    let O = outline_in c.args.judge.now.outlined.now in
    let P = c.args.judge.now.part in
    let l = c.loop-stmt in
    sym (l.invariant.found
    ∙ ap (λ (b : Statements). first_unmet R N P (block_obligations O R (windows_of l.left.items) b l.begin (known_of l.known c.args.updating.now))) (from_end c.args.all.now l.stmt-index c.loop-stmt-test.false)
    ∙ nothing R N P)
