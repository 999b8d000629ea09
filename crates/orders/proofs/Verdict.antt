-- What the first fault says of the lists.
use Rattle.std.proofs.Common.{◌≡◌, ◌<◌, ◌≤◌, ◌+◌, ℕ, Option, Some, None, List, length, get_or, refl, sym, arith}
use Rattle.std.specs.Prelude.{◌↔◌, IsSome, IsNone, All, slice_get, Contains}
use Rattle.std.proofs.lemmas.Bool.{false≢true}
use Rattle.std.proofs.lemmas.Option.{slice_get_within}
use Rattle.orders.specs.Work.{OwnIsParted, NeedsServe}
use Rattle.orders.specs.Claimed.{IsClaimedBy}
use Rattle.orders.specs.Lists.{AreSound, own_lists, fetched_lists, needs_lists}
use Rattle.orders.specs.Faults.{IsFirstUnserved, IsFirstFault}
use Rattle.orders.specs.declared.lists.Piece.{Piece}
use Rattle.orders.specs.declared.lists.ListFault.{ListFault}
use Rattle.orders.specs.declared.lists.ListFault.TheVariants.{Own, Gap, Needs}
use Rattle.orders.proofs.Claiming.{claimed_parted, claimed_whole, claimed_all, unowned}

-- parted pieces stay so when later ones are left out
parted_before : (own : ℕ → List ℕ) (cells n m : ℕ) → n ≤ m → OwnIsParted m cells own → OwnIsParted n cells own
parted_before own cells n m le h = (
  (λ p c lt has. h.0 p c (omega arith) has),
  (λ p q a b p_in q_in. h.1 p q a b (omega arith) (omega arith)),
)

served_before : (own fetched needs : ℕ → List ℕ) (n m : ℕ) → n ≤ m → NeedsServe m own fetched needs → NeedsServe n own fetched needs
served_before own fetched needs n m le h = ((λ p k lt has. h.0 p k (omega arith) has), (λ p c lt has. h.1 p c (omega arith) has))

-- there is no first fault exactly where the lists are sound
pub sound_verdict : (cells : ℕ) (pieces : List Piece) (fault : Option ListFault) → IsFirstFault cells pieces fault → IsNone fault ↔ AreSound cells pieces
sound_verdict cells pieces None h = ((λ _. h), (λ _. refl))
sound_verdict cells pieces (Some (Own piece)) h = (
  (λ t. absurd (false≢true (sym t))),
  (λ s. let s : AreSound cells pieces = s in absurd (h.2 (parted_before (own_lists pieces) cells (piece + 1) (length pieces) (let lt : piece < length pieces = h.0 in omega arith) (s.in_table, s.apart)))),
)
sound_verdict cells pieces (Some (Gap cell)) h = (
  (λ t. absurd (false≢true (sym t))),
  (λ s. let s : AreSound cells pieces = s in let owner : (piece : ℕ) × (piece < length pieces) × Contains (own_lists pieces piece) cell = s.whole cell h.1 in absurd (h.3 owner.0 owner.1 owner.2)),
)
sound_verdict cells pieces (Some (Needs piece)) h = (
  (λ t. absurd (false≢true (sym t))),
  (λ s. let s : AreSound cells pieces = s in let more : ¬ NeedsServe (piece + 1) (own_lists pieces) (fetched_lists pieces) (needs_lists pieces) = (let found = h.2 in found.2) in absurd (more (served_before (own_lists pieces) (fetched_lists pieces) (needs_lists pieces) (piece + 1) (length pieces) (let lt : piece < length pieces = (let found = h.2 in found.0) in omega arith) (s.earlier, s.needed)))),
)

-- a cell without an owner after owned ones is the first gap
pub gap_verdict : (cells : ℕ) (pieces : List Piece) (owners : List (Option ℕ)) (cell : ℕ) → IsClaimedBy (own_lists pieces) owners (length pieces) → length owners ≡ cells → slice_get owners cell ≡ Some None → ((c : ℕ) → c < cell → IsSome (get_or owners c None)) → IsFirstFault cells pieces (Some (Gap cell))
gap_verdict cells pieces owners cell claimed long free before = (
  claimed_parted (own_lists pieces) owners (length pieces) cells claimed long,
  (let lt : cell < length owners = slice_get_within owners cell None free in omega arith),
  claimed_whole (own_lists pieces) owners (length pieces) cell claimed before,
  (λ piece. unowned (own_lists pieces) owners (length pieces) cell piece claimed free),
)

-- where all cells are owned, a piece that its needed pieces do not serve is the first fault
pub needs_verdict : (cells : ℕ) (pieces : List Piece) (owners : List (Option ℕ)) (piece : ℕ) → IsClaimedBy (own_lists pieces) owners (length pieces) → length owners ≡ cells → All (λ o. IsSome o) owners → IsFirstUnserved (length pieces) (own_lists pieces) (fetched_lists pieces) (needs_lists pieces) (Some piece) → IsFirstFault cells pieces (Some (Needs piece))
needs_verdict cells pieces owners piece claimed long all h = (
  claimed_parted (own_lists pieces) owners (length pieces) cells claimed long,
  claimed_all (own_lists pieces) owners (length pieces) cells claimed long all,
  h,
)

-- where none is found the lists are sound
pub none_verdict : (cells : ℕ) (pieces : List Piece) (owners : List (Option ℕ)) → IsClaimedBy (own_lists pieces) owners (length pieces) → length owners ≡ cells → All (λ o. IsSome o) owners → NeedsServe (length pieces) (own_lists pieces) (fetched_lists pieces) (needs_lists pieces) → AreSound cells pieces
none_verdict cells pieces owners claimed long all h =
    let parted : OwnIsParted (length pieces) cells (own_lists pieces) = claimed_parted (own_lists pieces) owners (length pieces) cells claimed long in
    record {
      in_table = parted.0;
      apart = parted.1;
      whole = claimed_all (own_lists pieces) owners (length pieces) cells claimed long all;
      earlier = h.0;
      needed = h.1;
    }
