-- A piece in a table of pieces.
use Rattle.std.proofs.Common.{◌≡◌, ℕ, ◌<◌, List, Some, length, sym, ◌∙◌, get_or}
use Rattle.std.specs.Prelude.{slice_get}
use Rattle.std.proofs.lemmas.Option.{slice_get-get_or}
use Rattle.orders.specs.declared.lists.Piece.{Piece}

pub listed : (xs : List Piece) (i : ℕ) (x : Piece) → i < length xs → x ≡ get_or xs i x → Some x ≡ slice_get xs i
listed xs i x less e = (λ k. Some (e k)) ∙ sym (slice_get-get_or xs i x less)
