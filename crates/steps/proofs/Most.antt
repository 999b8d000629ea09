-- How many cells the pieces fetch and own at most, and how many seats the workers need.
use Rattle.std.proofs.Common.{◌≡◌, ℕ, ◌+◌, ◌<◌, ◌≤◌, List, length, take, get_or, inl, inr, subst, arith}
use Rattle.std.specs.Prelude.{All}
use Rattle.std.proofs.lemmas.Bool.{cases_lt}
use Rattle.std.proofs.lemmas.List.{take_more}
use Rattle.std.proofs.lemmas.List.Elements.{All-push, All-same}
use Rattle.orders.specs.Work.{Work}
use Rattle.steps.specs.Seats.{IsMost}

-- none of the first pieces fetches or owns more cells
abbrev pub IsMostBefore : Work → ℕ → ℕ → Type 0
IsMostBefore work count most = (piece : ℕ) → piece < count → (length (work.fetched piece) ≤ most) × (length (work.own piece) ≤ most)

pub one_piece_more : (work : Work) (i most new : ℕ) → IsMostBefore work i most → most ≤ new → length (work.fetched i) ≤ new → length (work.own i) ≤ new → IsMostBefore work (i + 1) new
one_piece_more work i most new before le fetched own piece lt = elim (cases_lt piece i) [
  | inl earlier ↦ let h = before piece earlier in (omega (arith, h.0, le), omega (arith, h.1, le))
  | inr later ↦ let same : i ≡ piece = omega (arith, lt, later) in subst (λ (k : ℕ). (length (work.fetched k) ≤ new) × (length (work.own k) ≤ new)) same (fetched, own)
]

pub all_pieces : (work : Work) (i count most : ℕ) → count ≡ work.pieces → count ≤ i → IsMostBefore work i most → IsMost work most
all_pieces work i count most is past before piece lt = before piece (omega (arith, lt, is, past))

-- the seats are enough for the workers of one entry more
pub one_named : (order : List ℕ) (i seats new : ℕ) → i < length order → All (λ worker. worker < seats) (take i order) → seats ≤ new → get_or order i 0 < new → All (λ worker. worker < new) (take (i + 1) order)
one_named order i seats new lt before le this =
    let P : ℕ → Type 0 = λ worker. worker < new in
    All-same P (take (i + 1) order) _ (take_more order i 0 lt) (All-push P (take i order) (get_or order i 0) (λ k d in_taken. let h = before k d in_taken in omega (arith, h, le)) this)
