use Rattle.std.proofs.Common.{◌≡◌, ◌∙◌, ◌+◌, ◌++◌, ℕ, List, sym, ap, subst, map, length, arith, Option}
use Rattle.std.specs.Prelude.{All, IsTrue, ℤ, slice_get}
use Rattle.std.proofs.lemmas.List.{length-map}
use Rattle.plan.specs.Plan.{Group, Plan}
use Rattle.plan.specs.Symbols.{points}
use Rattle.plan.specs.View.{plan_of}
use Rattle.plan.specs.Certificate.Cells.{grid_symbols}
use Rattle.headline.specs.Numbers.{group_grid}
use Rattle.shares.specs.declared.boxes.Side.{Side}
use Rattle.shares.specs.Boxes.{IsLimited, grid_sides, is_in_box, rank}
use Rattle.shares.specs.Seats.{piece_of}
use Rattle.shares.specs.Shared.{IsLike}
use Rattle.shares.specs.Needed.{need_grid, need_points}
use Rattle.shares.proofs.Seated.{named_group, ground_within, ground_at}
use Rattle.shares.proofs.Needing.{numbers_some}
use Rattle.shares.proofs.needed.row_line.Goals as goal

pub index-ground-requires : goal.index-ground-requires
index-ground-requires c =
    let x = c.args.layout.now in
    let n = c.args.need.now in
    let k = named_group (slice_get (plan_of x.plan.now).groups n.needed) (λ g. IsLike n.region (length g.grid)) c.requires.need in
    let less = ground_within x c.requires.layout n.needed k.0 k.1 in
    omega (arith, less, x.grounds.ok.0)

pub row_in-requires-clause-space : goal.row_in-requires-clause-space
row_in-requires-clause-space c =
    let x = c.args.layout.now in
    let n = c.args.need.now in
    let k = named_group (slice_get (plan_of x.plan.now).groups n.needed) (λ g. IsLike n.region (length g.grid)) c.requires.need in
    let y = c.index-ground.result.now in
    let known = ground_at x c.requires.layout n.needed k.0 k.1 y c.index-ground.ensures in
    known.pieces

pub row_in-requires-clause-limits : goal.row_in-requires-clause-limits
row_in-requires-clause-limits c =
    let x = c.args.layout.now in
    let n = c.args.need.now in
    let k = named_group (slice_get (plan_of x.plan.now).groups n.needed) (λ g. IsLike n.region (length g.grid)) c.requires.need in
    subst IsLimited (sym c.as_slice.ensures) k.2.0

pub row_in-requires-clause-dimensions : goal.row_in-requires-clause-dimensions
row_in-requires-clause-dimensions c =
    let x = c.args.layout.now in
    let n = c.args.need.now in
    let k = named_group (slice_get (plan_of x.plan.now).groups n.needed) (λ g. IsLike n.region (length g.grid)) c.requires.need in
    let y = c.index-ground.result.now in
    let known = ground_at x c.requires.layout n.needed k.0 k.1 y c.index-ground.ensures in
    ap length c.as_slice.ensures ∙ k.2.1 ∙ sym (length-map k.0.grid _) ∙ ap length (sym known.piece_sides)

pub returns-in_ok-push_row-in-Some-clause-numbers : goal.returns-in_ok-push_row-in-Some-clause-numbers
returns-in_ok-push_row-in-Some-clause-numbers c _ =
    let x = c.args.layout.now in
    let n = c.args.need.now in
    let k = named_group (slice_get (plan_of x.plan.now).groups n.needed) (λ g. IsLike n.region (length g.grid)) c.requires.need in
    let y = c.index-ground.result.now in
    let known = ground_at x c.requires.layout n.needed k.0 k.1 y c.index-ground.ensures in
    let p : Plan = plan_of x.plan.now in
    let sides : y.pieces.sides.items ≡ need_grid p n = known.piece_sides ∙ ap (λ (o : Option Group). grid_sides (group_grid o)) (sym k.1) in
    c.in_ok-push_row-in-Some.ensures ∙ ap (λ (ns : List ℕ). c.args.needed.now.items ++ ns) (c.in-Some.ensures.numbers
    ∙ (λ t. map (λ q. known.first_piece t + rank (sides t) q) (points (grid_symbols (c.deref.ensures.value t)) (c.as_slice.ensures t)))
    ∙ numbers_some p (piece_of c.args.seat.now) n c.requires.group)

pub returns-in_ok-push_row-in-Some-clause-known : goal.returns-in_ok-push_row-in-Some-clause-known
returns-in_ok-push_row-in-Some-clause-known c _ _ =
    let x = c.args.layout.now in
    let n = c.args.need.now in
    let k = named_group (slice_get (plan_of x.plan.now).groups n.needed) (λ g. IsLike n.region (length g.grid)) c.requires.need in
    let y = c.index-ground.result.now in
    let known = ground_at x c.requires.layout n.needed k.0 k.1 y c.index-ground.ensures in
    let p : Plan = plan_of x.plan.now in
    let R = y.pieces.sides.items in
    let sides : R ≡ need_grid p n = known.piece_sides ∙ ap (λ (o : Option Group). grid_sides (group_grid o)) (sym k.1) in
    let Inside : List Side → List (List ℤ) → Type 0 = λ ss qs. All (λ q. IsTrue (is_in_box ss q)) qs in
    let qs : points (grid_symbols c.deref.result.now) c.as_slice.result.now ≡ need_points (piece_of c.args.seat.now) n = λ t. points (grid_symbols (c.deref.ensures.value t)) (c.as_slice.ensures t) in
    subst (Inside (need_grid p n)) qs (subst (λ (ss : List Side). Inside ss (points (grid_symbols c.deref.result.now) c.as_slice.result.now)) sides c.in-Some.ensures.whole)
