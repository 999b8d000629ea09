use Rattle.std.proofs.Common.{◌≡◌, ◌+◌, ◌∷◌, [], ℕ, length, ap, subst, arith}
use Rattle.std.proofs.lemmas.List.{length-append}
use Rattle.board.specs.Layout.{Layout}
use Rattle.crew.specs.Stages.{IsFresh}
use Rattle.crew.proofs.Staged.{pushed}
use Rattle.crew.proofs.stages.lists_for.Goals as goal

pub loop-piece-preserved : goal.loop-piece-preserved
loop-piece-preserved g c =
    let L : Layout = g.J.Run.layout in
    let had = c.loop-piece.invariant in
    let long = length-append c.loop-piece.lists.items (c.in_ok-list.list ∷ []) in
    let more = ap length c.in_ok-push.ensures.items in
    let fresh : IsFresh L c.loop-piece.piece c.in_ok-list.list = record { none = c.in_ok-list.ensures.items; room = omega (arith, c.own_count.ensures, c.in_ok-list.ensures.capacity) } in
    let same : c.loop-piece.piece ≡ 0 + length c.loop-piece.lists.items = omega (arith, had.long) in
    record {
      long = omega (arith, long, more, had.long);
      lists = pushed (λ i v. IsFresh L (0 + i) v) c.loop-piece.lists.items c.push.new.self.items c.in_ok-list.list c.in_ok-push.ensures.items had.lists
          (subst (λ (n : ℕ). IsFresh L n c.in_ok-list.list) same fresh);
    }
