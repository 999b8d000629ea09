use Rattle.std.proofs.Common.{◌≡◌, ◌<◌, ℕ, length}
use Rattle.std.specs.Prelude.{IsTrue, Some, slice_get}
use Rattle.plan.specs.View.{plan_of}
use Rattle.plan.specs.Certificate.Certificate.{certificate_of}
use Rattle.orders.specs.declared.lists.Piece.{Piece}
use Rattle.shares.specs.Layout.{OwnIsInside, own_list}
use Rattle.shares.specs.Taken.{AreTaken, free_count}
use Rattle.shares.proofs.owners.owners_of.Given as goal

abbrev pub invariant-loop-piece : goal.invariant-loop-piece
invariant-loop-piece l = record {
  taken : AreTaken (own_list (plan_of l.layout.plan.now) (certificate_of l.layout.cert.now)) l.taken l.piece 0;
  long : length l.taken ≡ l.count;
  free : free_count l.taken ≡ l.free;
  count : length l.pieces.items ≡ l.piece;
  own : (n : ℕ) (x : Piece) → slice_get l.pieces.items n ≡ Some x → x.own ≡ own_list (plan_of l.layout.plan.now) (certificate_of l.layout.cert.now) n;
  inside : IsTrue l.inside → (i : ℕ) → i < l.piece → OwnIsInside (plan_of l.layout.plan.now) (certificate_of l.layout.cert.now) i;
}
