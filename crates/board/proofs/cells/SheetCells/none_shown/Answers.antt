use Rattle.std.proofs.Common.{◌≡◌, ◌<◌, ◌∙◌, ℕ, List, [], inl, inr, length, ap, sym, subst, arith}
use Rattle.std.specs.Prelude.{Contains, slice_index_or}
use Rattle.std.proofs.lemmas.Bool.{cases_lt, OnTrue_at}
use Rattle.board.specs.Layout.{Layout, own_of}
use Rattle.board.specs.Seen.{Seen}
use Rattle.board.proofs.cells.SheetCells.none_shown.Goals as goal

pub loop-piece-preserved : goal.loop-piece-preserved
loop-piece-preserved g c j lt n there = elim (cases_lt j c.loop-piece.piece) [
  | inl before ↦ c.loop-piece.invariant j before n there
  | inr past ↦
      let plan : Layout = g.J.Run.layout in
      let same : j ≡ c.loop-piece.piece = omega (arith, past, lt) in
      let own : c.get.result.now ≡ own_of plan c.loop-piece.piece = c.get.ensures ∙ ap (λ (l : List (List ℕ)). slice_index_or l c.loop-piece.piece []) c.self.invariant.0 in
      let here : Contains c.get.result.now n = subst (λ (xs : List ℕ). Contains xs n) (ap (own_of plan) same ∙ sym own) there in
      let below = OnTrue_at c.if-not-end_before.false c.end_before.ensures n here in
      subst (λ (s : Seen). n < length s.bits) c.self.view_is below
]

pub returns : goal.returns
returns g c j lt n there = c.loop-piece.invariant j (omega (arith, lt, c.loop-piece-test.false)) n there
