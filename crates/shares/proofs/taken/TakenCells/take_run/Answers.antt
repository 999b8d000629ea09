use Rattle.std.proofs.Common.{◌≡◌, ◌+◌, ◌<◌, ◌∙◌, ◌++◌, ℕ, Bool, List, length, take, drop, ap, sym, subst, arith}
use Rattle.orders.specs.Work.{OwnIsParted}
use Rattle.shares.specs.Taken.{AreTaken, free_count, marks_in}
use Rattle.shares.proofs.Filling.{run_clash, run_leaves}
use Rattle.shares.proofs.Marking.{marks_long, run_free, run_held, run_taken, written}
use Rattle.shares.proofs.taken.TakenCells.take_run.Goals as goal

pub returns-then-self-end-clause-fault : goal.returns-then-self-end-clause-fault
returns-then-self-end-clause-fault c own n a has start _ parted =
    let run = c.args.run.now in
    let is : marks_in c.self.inside.words.items c.self.inside.count ≡ c.args.self.now = c.self.view_is in
    let long : length c.args.self.now ≡ c.self.inside.count = sym (ap length is) ∙ marks_long c.self.inside.words.items c.self.inside.count in
    let past : length c.args.self.now < run.first + run.count = omega (arith, long, c.if-self-end.true) in
    run_clash own c.args.self.now n a run has start (run_leaves c.args.self.now run.first run.count (omega (arith, c.if-first-end.false)) past) parted

pub returns-clause-taken : goal.returns-clause-taken
returns-clause-taken c own n a has start taking =
    let words = c.as_mut_slice.result.now in
    let count = c.self.inside.count in
    let is : marks_in words count ≡ c.args.self.now = ap (λ (ws : List ℕ). marks_in ws count) c.as_mut_slice.ensures.value ∙ c.self.view_is in
    let before = subst (λ (bs : List Bool). AreTaken own bs n a) (sym is) start in
    let new = c.take_bits.new.words in
    let same : length new ≡ length c.self.inside.words.items = c.take_bits.auto.words ∙ ap length c.as_mut_slice.ensures.value in
    let now : take c.self.inside.words.len (new ++ drop (length new) c.self.inside.words.items) ≡ new = written c.self.inside.words.len new c.self.inside.words.items same c.self.inside.words.ok.0 in
    subst (λ (ws : List ℕ). AreTaken own (marks_in ws count) n (a + c.args.run.now.count)) (sym now)
    (run_taken words new count c.args.run.now (omega (arith, c.if-self-end.false)) (c.take_bits.ensures.marked taking) own n a has before)

pub returns-clause-fault : goal.returns-clause-fault
returns-clause-fault c own n a has start failing parted =
    let words = c.as_mut_slice.result.now in
    let count = c.self.inside.count in
    let is : marks_in words count ≡ c.args.self.now = ap (λ (ws : List ℕ). marks_in ws count) c.as_mut_slice.ensures.value ∙ c.self.view_is in
    let before = subst (λ (bs : List Bool). AreTaken own bs n a) (sym is) start in
    run_held words c.take_bits.new.words count c.args.run.now (omega (arith, c.if-self-end.false)) (c.take_bits.ensures.held failing) own n a has before
    (subst (λ (bs : List Bool). OwnIsParted (n + 1) (length bs) own) (sym is) parted)

pub returns-clause-count : goal.returns-clause-count
returns-clause-count c taking =
    let words = c.as_mut_slice.result.now in
    let count = c.self.inside.count in
    let is : marks_in words count ≡ c.args.self.now = ap (λ (ws : List ℕ). marks_in ws count) c.as_mut_slice.ensures.value ∙ c.self.view_is in
    let new = c.take_bits.new.words in
    let same : length new ≡ length c.self.inside.words.items = c.take_bits.auto.words ∙ ap length c.as_mut_slice.ensures.value in
    let now : take c.self.inside.words.len (new ++ drop (length new) c.self.inside.words.items) ≡ new = written c.self.inside.words.len new c.self.inside.words.items same c.self.inside.words.ok.0 in
    subst (λ (ws : List ℕ). free_count (marks_in ws count) + c.args.run.now.count ≡ free_count c.args.self.now) (sym now)
    (run_free words new count c.args.run.now (omega (arith, c.if-self-end.false)) (c.take_bits.ensures.marked taking) ∙ ap free_count is)
