use Rattle.std.proofs.Common.{◌≡◌, ◌+◌, ◌/◌, ℕ, List, false, replicate, subst, sym, arith}
use Rattle.shares.specs.Taken.{marks_in}
use Rattle.shares.proofs.Marking.{marks_none}
use Rattle.shares.proofs.taken.TakenCells.new.Goals as goal

pub returns : goal.returns
returns c =
    let is : c.in_ok-words.words.items ≡ replicate (c.args.count / 64 + 1) 0 = c.in_ok-words.ensures.items_if_clones_equal (λ y e. e) in
    subst (λ (ws : List ℕ). marks_in ws c.args.count ≡ replicate c.args.count false) (sym is) (marks_none (c.args.count / 64 + 1) c.args.count (omega arith))
