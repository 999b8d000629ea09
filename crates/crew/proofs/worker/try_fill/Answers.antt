use Rattle.std.proofs.Common.{◌≡◌, ℕ, List, length, ◌∙◌, ap, refl, sym, subst}
use Rattle.board.specs.Layout.{own_of}
use Rattle.crew.specs.Learning.{KnowsEach, WasUnfinished}
use Rattle.crew.specs.Private.{needs_of}
use Rattle.crew.proofs.Learnt.{learned_filled, learned_on}
use Rattle.crew.proofs.worker.try_fill.Goals as goal

pub returns-then-not-ask_all-clause-back : goal.returns-then-not-ask_all-clause-back
returns-then-not-ask_all-clause-back g c = (refl, c.ask_all.ensures.ticket c.args.ticket c.requires.ticket)

pub returns-then-not-ask_all-clause-unfinished : goal.returns-then-not-ask_all-clause-unfinished
returns-then-not-ask_all-clause-unfinished g c =
    let same : c.needs.result.now ≡ needs_of (g.P.PrivateRuns.plan c.args.runs.now) c.args.ticket.piece =
    c.needs.ensures.needs ∙ ap (λ (p : ℕ). needs_of (g.P.PrivateRuns.plan c.args.runs.now) p) c.piece-piece.ensures in
    subst (λ (ms : List ℕ). WasUnfinished g.J.Run.layout g.J.Run.values c.args.seat.now.view ms) same c.if-not-ask_all.ensures.no

pub returns-then-not-ask_all-clause-known : goal.returns-then-not-ask_all-clause-known
returns-then-not-ask_all-clause-known g c = λ each.
    let same : c.needs.result.now ≡ needs_of (g.P.PrivateRuns.plan c.args.runs.now) c.args.ticket.piece =
    c.needs.ensures.needs ∙ ap (λ (p : ℕ). needs_of (g.P.PrivateRuns.plan c.args.runs.now) p) c.piece-piece.ensures in
    c.if-not-ask_all.ensures.known (subst (λ (ms : List ℕ). KnowsEach c.args.seat.now.view ms) (sym same) each)

pub returns-clause-learned : goal.returns-clause-learned
returns-clause-learned g c =
    learned_on c.args.seat.now.view c.ask_all.new.seat.view c.fill.new.seat.view c.ask_all.ensures.learned
    (learned_filled c.ask_all.new.seat c.fill.new.seat c.args.ticket.piece (length (own_of g.J.Run.layout c.args.ticket.piece)) c.fill.ensures.seat)
