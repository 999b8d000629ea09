use Rattle.std.proofs.Common.{◌≡◌, ℕ, ◌+◌, List, [], ◌∷◌, ◌++◌, arith, ap, sym, ◌∙◌, subst, append_assoc}
use Rattle.std.proofs.lemmas.List.{map-append, append-nil}
use Rattle.std.proofs.lemmas.List.Elements.{All-push}
use Rattle.std.proofs.lemmas.List.FromFn.{map-range_with_len_more}
use Rattle.plan.specs.Certificate.Cells.{Piece, grid_point}
use Rattle.shares.specs.declared.seats.Seat.{Seat}
use Rattle.shares.specs.Boxes.{IsSmall}
use Rattle.shares.specs.Seats.{AreSmall, grid_pieces, pieces_of, piece_of}
use Rattle.shares.proofs.seats.push_seats.Goals as goal

pub loop-number-init : goal.loop-number-init
loop-number-init c = record { pieces = sym (append-nil (pieces_of c.args.seats.now.items)); small = c.requires.small }

pub loop-number-preserved : goal.loop-number-preserved
loop-number-preserved c =
    let old = c.loop-number.seats.items in
    let n = c.loop-number.number in
    let grid = c.args.grid.now in
    let made : Seat = record { group = c.args.group; at = c.in_ok-at.at } in
    let f : ℕ → Piece = λ m. record { group = c.args.group; at = grid_point grid m } in
    let begun = pieces_of c.args.seats.now.items in
    let Small : List Seat → Type 0 = AreSmall in
    let is : piece_of made ≡ f n = ap (λ (xs : List ℕ). record { group = c.args.group; at = xs }) (c.in_ok-at.ensures.point ∙ ap (grid_point grid) c.from.ensures) in
    let same = c.from.ensures in
    let few = c.requires.few in
    let less = c.loop-number-test.true in
    record {
      pieces = ap pieces_of c.in_ok-push.ensures.items ∙ map-append piece_of old (made ∷ [])
          ∙ ap (λ (xs : List Piece). xs ++ piece_of made ∷ []) c.loop-number.invariant.pieces
          ∙ ap (λ (x : Piece). (begun ++ grid_pieces c.args.group grid n) ++ x ∷ []) is
          ∙ append_assoc begun (grid_pieces c.args.group grid n) (f n ∷ [])
          ∙ ap (λ (xs : List Piece). begun ++ xs) (sym (map-range_with_len_more f 0 n n (let e : 0 + n ≡ n = omega arith in e)));
      small = subst Small (sym c.in_ok-push.ensures.items) (All-push (λ (x : Seat). IsSmall x.at.items) old made c.loop-number.invariant.small (λ k d h. let low = c.in_ok-at.ensures.small k d h in omega (arith, low, few, less, same)));
    }
