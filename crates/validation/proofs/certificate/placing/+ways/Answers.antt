use Rattle.std.proofs.Common.{rules, ◌≡◌, ℕ, suc, List, sym, ap, ◌∙◌, subst, refl, arith, length, Option}
use Rattle.std.specs.Prelude.{IfOk}
use Rattle.std.proofs.lemmas.Grind.{common_steps}
use Rattle.plan.specs.declared.stmt.Stmt.{Stmt}
use Rattle.plan.specs.Plan.{Statement, Seq, Guard, For, block}
use Rattle.plan.specs.Lines.{lines}
use Rattle.plan.specs.Lists.{list_statements}
use Rattle.plan.specs.View.{statement_of}
use Rattle.plan.proofs.Rows.{statement_of-seq}
use Rattle.validation.specs.Certificate.Placing.{Spot, ends_at, in_loop, spot_at, later_at}
use Rattle.validation.specs.Certificate.Ways.{IsWay, IsWayIn, spot_of}
use Rattle.validation.proofs.Ways.{is_past, body_way, left_loop}
use Rattle.validation.proofs.certificate.placing.+ways.Goals as goal

pub way_in-returns-in-Seq : goal.way_in-returns-in-Seq
way_in-returns-in-Seq t c =
    let e : Seq (block (list_statements c.deref.result.now)) ≡ statement_of c.args.stmt.now =
    ap (λ (l : List Stmt). Seq (block (list_statements l))) c.deref.ensures.value ∙ sym (statement_of-seq c.in-Seq.all) ∙ ap statement_of (sym c.in-Seq.is) in
    subst (λ (s : Statement). IfOk c.way_in_block.result (λ way. IsWayIn s c.args.left (spot_of c.args.spot.now) (spot_of c.way_in_block.new.spot) way)) e c.way_in_block.ensures

pub way_in-returns-in-Fetch : goal.way_in-returns-in-Fetch
way_in-returns-in-Fetch t c =
    let k = c.args.left in
    let old = spot_of c.args.spot.now in
    let one : lines (statement_of c.args.stmt.now) ≡ 1 = first_of (search rules, grind (arith, common_steps)) in
    let ends : spot_at (statement_of c.args.stmt.now) old k ≡ ends_at old 0 k = first_of (search rules, grind (arith, common_steps)) in
    subst (λ (n : ℕ). IsWay n (spot_at (statement_of c.args.stmt.now) old k) k old old c.way_from_line.result) (sym one)
    (subst (λ (o : Option Spot). IsWay 1 o k old old c.way_from_line.result) (sym ends) (c.way_from_line.ensures old))

pub way_in_guard-returns-in-Past : goal.way_in_guard-returns-in-Past
way_in_guard-returns-in-Past t c = λ low high.
    let body = statement_of c.args.body.now in
    let k = c.in-Some.left in
    let old = spot_of c.args.spot.now in
    let new = spot_of c.way_in.new.spot in
    let e : c.args.left ≡ suc k = omega (arith, c.in-Some.ensures) in
    let past = is_past (lines body) k c.in-Past.left (spot_at body old k) old new c.in_ok-way.way c.in-Past.is c.in_ok-way.ensures in
    body_way (lines body) c.args.left k c.in-Past.left (spot_at body old k) (spot_at (Guard low high body) old) old new c.way_from_line.result
    e past.0 past.1 (c.way_from_line.ensures new) refl

pub way_in_later-returns-in-Past : goal.way_in_later-returns-in-Past
way_in_later-returns-in-Past t c =
    let body = statement_of c.args.later.now in
    let k = c.in-Some.left in
    let old = spot_of c.args.spot.now in
    let new = spot_of c.way_in.new.spot in
    let e : c.args.left ≡ suc k = omega (arith, c.in-Some.ensures) in
    let past = is_past (lines body) k c.in-Past.left (spot_at body old k) old new c.in_ok-way.way c.in-Past.is c.in_ok-way.ensures in
    body_way (lines body) c.args.left k c.in-Past.left (spot_at body old k) (later_at (lines body) (spot_at body old) old) old new c.way_from_line.result
    e past.0 past.1 (c.way_from_line.ensures new) refl

pub way_in_loop-returns-in-Past : goal.way_in_loop-returns-in-Past
way_in_loop-returns-in-Past t c = λ x kind.
    let body = statement_of c.args.body.now in
    let i = c.args.symbol in
    let k = c.in-Some.left in
    let old = spot_of c.args.spot.now in
    let entered = spot_of c.enter.new.self in
    let inner = spot_of c.way_in.new.spot in
    let new = spot_of (record { symbols = c.truncate.new.self; loops = c.truncate-in-Past.new.self; buffers = c.way_in.new.spot.buffers }) in
    let e : c.args.left ≡ suc k = omega (arith, c.in-Some.ensures) in
    let past = is_past (lines body) k c.in-Past.left (spot_at body entered k) entered inner c.in_ok-way.way c.in-Past.is c.in_ok-way.ensures in
    let long : c.len-outer.result ≡ length old.symbols = first_of (search rules, grind (arith, common_steps)) in
    let deep : c.len-loops.result ≡ length old.loops = first_of (search rules, grind (arith, common_steps)) in
    let same : new ≡ old =
    left_loop i c.len-outer.result c.len-loops.result c.truncate.new.self.items c.truncate-in-Past.new.self.items inner old
    (past.1 ∙ c.in_ok-enter.ensures) long c.truncate.ensures.items deep c.truncate-in-Past.ensures.items in
    body_way (lines body) c.args.left k c.in-Past.left (spot_at body (in_loop i old) k) (spot_at (For i x kind body) old) old new c.way_from_line.result
    e past.0 same (c.way_from_line.ensures new) refl
