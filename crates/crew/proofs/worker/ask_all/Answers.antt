use Rattle.std.proofs.Common.{◌≡◌, ℕ, List, ◌∙◌, inl, inr, refl, subst, arith}
use Rattle.std.specs.Prelude.{slice_index, Contains}
use Rattle.std.proofs.lemmas.Bool.{cases_lt}
use Rattle.board.specs.Rule.{AtStep}
use Rattle.board.specs.Views.{Knows}
use Rattle.board.specs.Words.{flag}
use Rattle.crew.specs.Learning.{WasUnfinished}
use Rattle.crew.proofs.Filling.{at_place_there, same_there}
use Rattle.crew.proofs.Learnt.{both_yes, either_no, learned_by, learned_on, same_board, yes_both}
use Rattle.crew.proofs.worker.ask_all.Goals as goal

pub loop-piece-preserved : goal.loop-piece-preserved
loop-piece-preserved g c =
    let had = c.loop-piece.invariant in
    let e = c.ask-asked.ensures in
    let ms : List ℕ = c.args.pieces.now in
    let i : ℕ = c.loop-piece.piece-index in
    let lt = c.loop-piece-test.true in
    let there : Contains ms (slice_index ms i) = at_place_there ms ms i refl lt in
    record {
      board = same_board c.ask-asked.result c.loop-piece.seat c.ask-asked.new.seat (slice_index ms i) e.answer ∙ had.board;
      learned = learned_on c.args.seat.now.view c.loop-piece.seat.view c.ask-asked.new.seat.view had.learned
          (learned_by c.ask-asked.result c.loop-piece.seat c.ask-asked.new.seat (slice_index ms i) e.answer e.more);
      ticket = λ t h. e.ticket t (had.ticket t h);
      yes = λ both k below. let parts = yes_both c.loop-piece.all c.ask-asked.result both in elim (cases_lt k i) [
        | inl before ↦ e.more (slice_index ms k) (had.yes parts.0 k before)
        | inr le ↦
            let same : i ≡ k = omega (arith, below, le) in
            subst (λ (n : ℕ). Knows c.ask-asked.new.seat.view (slice_index ms n)) same (e.yes parts.1)
      ];
      no = either_no c.loop-piece.all c.ask-asked.result
          (AtStep g.J.Run.layout g.J.Run.values c.loop-piece.seat.view (λ words. flag words (slice_index ms i) ≡ 0))
          (WasUnfinished g.J.Run.layout g.J.Run.values c.args.seat.now.view ms)
          had.no e.no (λ at. (slice_index ms i, there, c.loop-piece.seat.view, had.learned.more, at));
      known = λ each. both_yes c.loop-piece.all c.ask-asked.result (had.known each) (e.known (had.learned.more (slice_index ms i) (each (slice_index ms i) there)));
    }

pub returns-clause-yes : goal.returns-clause-yes
returns-clause-yes g c = λ yes j h.
    let lt = h.1 in
    subst (λ (m : ℕ). Knows c.loop-piece.seat.view m) (same_there c.args.pieces.now h.0 0 j lt ∙ h.2) (c.loop-piece.invariant.yes yes h.0 (omega (arith, lt, c.loop-piece-test.false)))
