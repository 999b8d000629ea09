use Rattle.std.proofs.Common.{◌≡◌, ◌∙◌, ◌++◌, ℕ, List, [], sym, ap, subst, map, length, arith, Option, Err}
use Rattle.std.specs.Prelude.{All}
use Rattle.std.proofs.lemmas.List.{length-map}
use Rattle.plan.specs.Plan.{Group, Plan}
use Rattle.plan.specs.Lines.{body_line}
use Rattle.plan.specs.View.{plan_of}
use Rattle.plan.specs.Certificate.Cells.{Cell, Piece, grid_symbols}
use Rattle.plan.specs.Certificate.Certificate.{certificate_of}
use Rattle.headline.specs.Numbers.{cell_number}
use Rattle.headline.specs.Work.{of_piece, cells_fetched, group_fetched}
use Rattle.shares.specs.FetchLines.{FetchLine, fetch_lines}
use Rattle.shares.specs.Seats.{piece_of}
use Rattle.shares.specs.Layout.{AllCells, PieceFetchesCells}
use Rattle.shares.specs.Noted.{lines_noted, told_line}
use Rattle.shares.specs.Read.{IsTold, lines_cells}
use Rattle.shares.proofs.Counting.{fetch_stops}
use Rattle.shares.proofs.Fetching.{lines_read, told_read}
use Rattle.shares.proofs.Near.{lines_told}
use Rattle.shares.proofs.Noting.{held, group_noted}
use Rattle.shares.proofs.Seated.{piece_is, group_at, group_listed, seat_small}
use Rattle.shares.proofs.fetched.fetched_of.Goals as goal

pub index-lines-requires : goal.index-lines-requires
index-lines-requires c =
    let listed = group_listed c.args.layout.now c.requires.layout c.args.piece c.index-seat.result.now c.requires.piece c.index-seat.ensures in
    let count = c.requires.noted.count in
    let long = length-map c.args.noted.now.items held in
    omega (arith, listed, count, long, c.args.noted.now.ok.0)

pub fetch_lines-requires-clause-lines : goal.fetch_lines-requires-clause-lines
fetch_lines-requires-clause-lines c =
    let x = c.args.layout.now in
    let p : Plan = plan_of x.plan.now in
    let s = c.index-seat.result.now in
    let k = group_at x c.requires.layout c.args.piece s c.requires.piece c.index-seat.ensures in
    let at = piece_is x c.requires.layout c.args.piece s c.requires.piece c.index-seat.ensures in
    let listed = group_listed x c.requires.layout c.args.piece s c.requires.piece c.index-seat.ensures in
    let noted : lines_noted c.deref.result.now ≡ map told_line (fetch_lines s.group [] k.0.body (body_line p s.group)) =
    ap lines_noted c.deref.ensures.value ∙ group_noted p (length x.plan.now.groups.items) c.args.noted.now.items c.requires.noted s.group c.index-lines.result.now listed c.index-lines.ensures k.0 k.1 in
    let told = lines_told p c.args.piece (piece_of s) at (certificate_of x.cert.now) c.requires.layout.shared c.requires.layout.near k.0 k.1 in
    subst (λ (ys : List ℕ). All (IsTold p (grid_symbols ys)) (lines_noted c.deref.result.now)) (sym c.deref-2.ensures.value)
    (subst (All (IsTold p (grid_symbols s.at.items))) (sym noted) told)

pub returns-clause-list : goal.returns-clause-list
returns-clause-list c =
    let x = c.args.layout.now in
    let p : Plan = plan_of x.plan.now in
    let f : Cell → ℕ = cell_number p in
    let s = c.index-seat.result.now in
    let k = group_at x c.requires.layout c.args.piece s c.requires.piece c.index-seat.ensures in
    let at = piece_is x c.requires.layout c.args.piece s c.requires.piece c.index-seat.ensures in
    let F = fetch_lines s.group [] k.0.body (body_line p s.group) in
    let listed = group_listed x c.requires.layout c.args.piece s c.requires.piece c.index-seat.ensures in
    let noted : lines_noted c.deref.result.now ≡ map told_line F =
    ap lines_noted c.deref.ensures.value ∙ group_noted p (length x.plan.now.groups.items) c.args.noted.now.items c.requires.noted s.group c.index-lines.result.now listed c.index-lines.ensures k.0 k.1 in
    let read : lines_cells (grid_symbols c.deref-2.result.now) (lines_noted c.deref.result.now) ≡ cells_fetched p (piece_of s) =
    ap (λ (ys : List ℕ). lines_cells (grid_symbols ys) (lines_noted c.deref.result.now)) c.deref-2.ensures.value ∙ ap (lines_cells (grid_symbols s.at.items)) noted
    ∙ told_read (grid_symbols s.at.items) F ∙ lines_read p s.group (grid_symbols s.at.items) [] k.0.body (body_line p s.group) (c.requires.layout.shared.groups s.group k.0 k.1).body
    ∙ ap (λ (o : Option Group). group_fetched o (piece_of s)) (sym k.1) in
    c.in-Ok.ensures.cells ∙ ap (λ (ns : List ℕ). ns ++ map f (lines_cells (grid_symbols c.deref-2.result.now) (lines_noted c.deref.result.now))) c.new-fetched.ensures.items ∙ ap (map f) read
    ∙ ap (λ (o : Option Piece). of_piece o [] (λ j. map f (cells_fetched p j))) (sym at)

pub returns-clause-known : goal.returns-clause-known
returns-clause-known c =
    let x = c.args.layout.now in
    let p : Plan = plan_of x.plan.now in
    let f : Cell → ℕ = cell_number p in
    let s = c.index-seat.result.now in
    let k = group_at x c.requires.layout c.args.piece s c.requires.piece c.index-seat.ensures in
    let at = piece_is x c.requires.layout c.args.piece s c.requires.piece c.index-seat.ensures in
    let F = fetch_lines s.group [] k.0.body (body_line p s.group) in
    let listed = group_listed x c.requires.layout c.args.piece s c.requires.piece c.index-seat.ensures in
    let noted : lines_noted c.deref.result.now ≡ map told_line F =
    ap lines_noted c.deref.ensures.value ∙ group_noted p (length x.plan.now.groups.items) c.args.noted.now.items c.requires.noted s.group c.index-lines.result.now listed c.index-lines.ensures k.0 k.1 in
    let read : lines_cells (grid_symbols c.deref-2.result.now) (lines_noted c.deref.result.now) ≡ cells_fetched p (piece_of s) =
    ap (λ (ys : List ℕ). lines_cells (grid_symbols ys) (lines_noted c.deref.result.now)) c.deref-2.ensures.value ∙ ap (lines_cells (grid_symbols s.at.items)) noted
    ∙ told_read (grid_symbols s.at.items) F ∙ lines_read p s.group (grid_symbols s.at.items) [] k.0.body (body_line p s.group) (c.requires.layout.shared.groups s.group k.0 k.1).body
    ∙ ap (λ (o : Option Group). group_fetched o (piece_of s)) (sym k.1) in
    subst (PieceFetchesCells p) (sym at) (subst (AllCells p) read c.in-Ok.ensures.known)

pub returns-in-Err-clause-stop : goal.returns-in-Err-clause-stop
returns-in-Err-clause-stop c =
    let x = c.args.layout.now in
    let p : Plan = plan_of x.plan.now in
    let f : Cell → ℕ = cell_number p in
    let s = c.index-seat.result.now in
    let k = group_at x c.requires.layout c.args.piece s c.requires.piece c.index-seat.ensures in
    let at = piece_is x c.requires.layout c.args.piece s c.requires.piece c.index-seat.ensures in
    let F = fetch_lines s.group [] k.0.body (body_line p s.group) in
    let listed = group_listed x c.requires.layout c.args.piece s c.requires.piece c.index-seat.ensures in
    let noted : lines_noted c.deref.result.now ≡ map told_line F =
    ap lines_noted c.deref.ensures.value ∙ group_noted p (length x.plan.now.groups.items) c.args.noted.now.items c.requires.noted s.group c.index-lines.result.now listed c.index-lines.ensures k.0 k.1 in
    let read : lines_cells (grid_symbols c.deref-2.result.now) (lines_noted c.deref.result.now) ≡ cells_fetched p (piece_of s) =
    ap (λ (ys : List ℕ). lines_cells (grid_symbols ys) (lines_noted c.deref.result.now)) c.deref-2.ensures.value ∙ ap (lines_cells (grid_symbols s.at.items)) noted
    ∙ told_read (grid_symbols s.at.items) F ∙ lines_read p s.group (grid_symbols s.at.items) [] k.0.body (body_line p s.group) (c.requires.layout.shared.groups s.group k.0 k.1).body
    ∙ ap (λ (o : Option Group). group_fetched o (piece_of s)) (sym k.1) in
    let list = ap (λ (o : Option Piece). of_piece o [] (λ j. map f (cells_fetched p j))) at in
    let counted = ap length list ∙ length-map (cells_fetched p (piece_of s)) f in
    let none = ap length c.new-fetched.ensures.items in
    let same = ap length read in
    fetch_stops p c.args.piece c.args.room c.in-Err.stop
    (λ e all. c.fetch_lines.ensures.unserved (c.in-Err.is ∙ ap Err e) (subst (AllCells p) (sym read) (subst (PieceFetchesCells p) at all)))
    (λ e. let past = c.fetch_lines.ensures.large (c.in-Err.is ∙ ap Err e) in omega (arith, past, counted, none, same))
