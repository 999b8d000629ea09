use Rattle.std.proofs.Common.{rules, ◌≡◌, Some, None, Option, sym, ap, ◌∙◌, pos}
use Rattle.lin.specs.Forms.{number, combined}
use Rattle.sched.specs.Standing as spec
use Rattle.sched.proofs.Skeletons.{begin_told}
use Rattle.sched.proofs.skeleton.Standing.begin.Goals as goal

pub returns-in_ok-begin_at-in-Some : goal.returns-in_ok-begin_at-in-Some
returns-in_ok-begin_at-in-Some c =
    let cut = c.args.cut.now in
    let own = c.args.numbers.now in
    let st = spec.standing_of c.args.self.now in
    let form = c.in_ok-form-in-Some.form in
    let none : spec.form_named st.starts cut.whole ≡ None = search rules in
    let some : spec.form_named st.known cut.outer ≡ Some c.in-Some.outer = search rules in
    let sum : combined (number own.low) (pos cut.factor) c.in-Some.outer ≡ Some form = search rules in
    let now : spec.standing_of c.begin_at.new.self ≡ spec.begin_at cut.tail cut.whole form (spec.room own cut.factor) st = search rules in
    begin_told cut own st c.in-Some.outer form none some sum ∙ ap (λ (s : spec.StandingText). Some s) (sym now)
