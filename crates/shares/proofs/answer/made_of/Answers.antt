use Rattle.std.proofs.Common.{◌≡◌, ◌∙◌, List, sym, ap, subst, length, Some}
use Rattle.std.proofs.lemmas.List.{length-map}
use Rattle.plan.specs.Plan.{Plan}
use Rattle.plan.specs.View.{plan_of}
use Rattle.plan.specs.Certificate.Certificate.{Certificate, certificate_of}
use Rattle.plan.specs.Certificate.Cells.{pieces}
use Rattle.orders.specs.Lists.{AreSound, own_lists, fetched_lists, needs_lists}
use Rattle.orders.specs.Faults.{IsFirstUnserved}
use Rattle.orders.specs.Work.{NeedsServe, OwnIsParted}
use Rattle.orders.specs.declared.lists.Piece.{Piece}
use Rattle.shares.specs.Made.{LineMeans, LinesStand}
use Rattle.shares.specs.Seats.{piece_of}
use Rattle.shares.specs.Owned.{AreOwners}
use Rattle.shares.proofs.Standing.{all_inside, all_owned, holds_first, line_error}
use Rattle.shares.proofs.Told.{lists_are, known_all, pieces_all, cells_sound, not_served, parted_lists, sound_lists}
use Rattle.shares.proofs.answer.made_of.Goals as goal

pub returns-in-Err-clause-flaw : goal.returns-in-Err-clause-flaw
returns-in-Err-clause-flaw c =
    let x = c.args.layout.now in
    let p : Plan = plan_of x.plan.now in
    let cert : Certificate = certificate_of x.cert.now in
    let seats = x.seats.items in
    let many : length seats ≡ length (pieces p) = sym (length-map seats piece_of) ∙ ap length c.requires.seats in
    let stands : LinesStand p cert = rw c.in_default.is at c.in_ok-flaw.ensures in
    let k = rw c.in-Err.is at c.in_ok-owned.ensures.overlap in
    holds_first p cert stands.own c.overlap.result (c.overlap.ensures (c.in-Err.piece, c.group_of.ensures, k.1))

pub returns-in-Some-clause-flaw : goal.returns-in-Some-clause-flaw
returns-in-Some-clause-flaw c =
    let x = c.args.layout.now in
    let p : Plan = plan_of x.plan.now in
    let cert : Certificate = certificate_of x.cert.now in
    let means : LineMeans p cert c.in-Some.flaw = rw c.in-Some.is at c.in_ok-flaw.ensures in
    line_error p cert c.in-Some.flaw means

pub first_unserved-requires-clause-parted : goal.first_unserved-requires-clause-parted
first_unserved-requires-clause-parted c =
    let x = c.args.layout.now in
    let p : Plan = plan_of x.plan.now in
    let cert : Certificate = certificate_of x.cert.now in
    let seats = x.seats.items in
    let many : length seats ≡ length (pieces p) = sym (length-map seats piece_of) ∙ ap length c.requires.seats in
    let of : AreOwners p cert c.in-Ok.owned = rw c.in-Ok.is at c.in_ok-owned.ensures.owned in
    let ps = c.in-Ok-lists_of.pieces.items in
    let count : length ps ≡ length (pieces p) = c.in-Ok-lists_of.ensures.count ∙ many in
    let made = c.in-Ok-lists_of.ensures.made in
    let all = c.cell_count-cells.result in
    subst (λ (qs : List Piece). OwnIsParted (length qs) all (own_lists qs)) (sym c.deref.ensures.value)
    (parted_lists p cert ps count made all c.cell_count-cells.ensures of.parted)

pub returns-clause-lists : goal.returns-clause-lists
returns-clause-lists c =
    let x = c.args.layout.now in
    let p : Plan = plan_of x.plan.now in
    let cert : Certificate = certificate_of x.cert.now in
    let seats = x.seats.items in
    let many : length seats ≡ length (pieces p) = sym (length-map seats piece_of) ∙ ap length c.requires.seats in
    let ps = c.in-Ok-lists_of.pieces.items in
    let count : length ps ≡ length (pieces p) = c.in-Ok-lists_of.ensures.count ∙ many in
    let made = c.in-Ok-lists_of.ensures.made in
    lists_are p cert ps count made

pub returns-clause-sound : goal.returns-clause-sound
returns-clause-sound c =
    let x = c.args.layout.now in
    let p : Plan = plan_of x.plan.now in
    let cert : Certificate = certificate_of x.cert.now in
    let seats = x.seats.items in
    let many : length seats ≡ length (pieces p) = sym (length-map seats piece_of) ∙ ap length c.requires.seats in
    let stands : LinesStand p cert = rw c.in_default.is at c.in_ok-flaw.ensures in
    let of : AreOwners p cert c.in-Ok.owned = rw c.in-Ok.is at c.in_ok-owned.ensures.owned in
    let ps = c.in-Ok-lists_of.pieces.items in
    let count : length ps ≡ length (pieces p) = c.in-Ok-lists_of.ensures.count ∙ many in
    let made = c.in-Ok-lists_of.ensures.made in
    let Serve : List Piece → Type 0 = λ qs. NeedsServe (length qs) (own_lists qs) (fetched_lists qs) (needs_lists qs) in
    let serves : Serve c.deref.result.now = rw c.in_default-2.is at c.in_ok-piece.ensures in
    let sound : AreSound c.cell_count-cells.result ps =
    sound_lists p cert ps count made c.cell_count-cells.result c.cell_count-cells.ensures of.parted (all_owned p cert stands.own c.in-Ok.owned of) (subst Serve c.deref.ensures.value serves) in
    sound

pub returns-clause-known : goal.returns-clause-known
returns-clause-known c =
    let x = c.args.layout.now in
    let p : Plan = plan_of x.plan.now in
    let cert : Certificate = certificate_of x.cert.now in
    let seats = x.seats.items in
    let many : length seats ≡ length (pieces p) = sym (length-map seats piece_of) ∙ ap length c.requires.seats in
    let ps = c.in-Ok-lists_of.pieces.items in
    let count : length ps ≡ length (pieces p) = c.in-Ok-lists_of.ensures.count ∙ many in
    let made = c.in-Ok-lists_of.ensures.made in
    known_all p cert ps count made

pub returns-clause-inside : goal.returns-clause-inside
returns-clause-inside c =
    let x = c.args.layout.now in
    let p : Plan = plan_of x.plan.now in
    let cert : Certificate = certificate_of x.cert.now in
    let seats = x.seats.items in
    let many : length seats ≡ length (pieces p) = sym (length-map seats piece_of) ∙ ap length c.requires.seats in
    let stands : LinesStand p cert = rw c.in_default.is at c.in_ok-flaw.ensures in
    all_inside p cert stands.own

pub returns-clause-shares : goal.returns-clause-shares
returns-clause-shares c =
    let x = c.args.layout.now in
    let p : Plan = plan_of x.plan.now in
    let cert : Certificate = certificate_of x.cert.now in
    let seats = x.seats.items in
    let many : length seats ≡ length (pieces p) = sym (length-map seats piece_of) ∙ ap length c.requires.seats in
    let stands : LinesStand p cert = rw c.in_default.is at c.in_ok-flaw.ensures in
    let of : AreOwners p cert c.in-Ok.owned = rw c.in-Ok.is at c.in_ok-owned.ensures.owned in
    let ps = c.in-Ok-lists_of.pieces.items in
    let count : length ps ≡ length (pieces p) = c.in-Ok-lists_of.ensures.count ∙ many in
    let made = c.in-Ok-lists_of.ensures.made in
    let Serve : List Piece → Type 0 = λ qs. NeedsServe (length qs) (own_lists qs) (fetched_lists qs) (needs_lists qs) in
    let serves : Serve c.deref.result.now = rw c.in_default-2.is at c.in_ok-piece.ensures in
    let sound : AreSound c.cell_count-cells.result ps =
    sound_lists p cert ps count made c.cell_count-cells.result c.cell_count-cells.ensures of.parted (all_owned p cert stands.own c.in-Ok.owned of) (subst Serve c.deref.ensures.value serves) in
    record {
      near = c.requires.near;
      inside = all_inside p cert stands.own;
      cells = known_all p cert ps count made;
      pieces = pieces_all p cert ps count made;
      lists = cells_sound p cert ps count made c.cell_count-cells.result c.cell_count-cells.ensures sound;
      few = c.in-Ok-lists_of.ensures.few;
    }

pub returns-in-Some-2-clause-flaw : goal.returns-in-Some-2-clause-flaw
returns-in-Some-2-clause-flaw c =
    let x = c.args.layout.now in
    let p : Plan = plan_of x.plan.now in
    let cert : Certificate = certificate_of x.cert.now in
    let seats = x.seats.items in
    let many : length seats ≡ length (pieces p) = sym (length-map seats piece_of) ∙ ap length c.requires.seats in
    let stands : LinesStand p cert = rw c.in_default.is at c.in_ok-flaw.ensures in
    let ps = c.in-Ok-lists_of.pieces.items in
    let count : length ps ≡ length (pieces p) = c.in-Ok-lists_of.ensures.count ∙ many in
    let made = c.in-Ok-lists_of.ensures.made in
    let First : List Piece → Type 0 = λ qs. IsFirstUnserved (length qs) (own_lists qs) (fetched_lists qs) (needs_lists qs) (Some c.in-Some-2.piece) in
    let first : First c.deref.result.now = rw c.in-Some-2.is at c.in_ok-piece.ensures in
    holds_first p cert stands.own c.unserved.result (c.unserved.ensures (c.in-Some-2.piece, c.group_of-in-Some-2.ensures, not_served p cert ps count made c.in-Some-2.piece (subst First c.deref.ensures.value first)))

pub returns-in-Err-lists_of-clause-flaw : goal.returns-in-Err-lists_of-clause-flaw
returns-in-Err-lists_of-clause-flaw c =
    let x = c.args.layout.now in
    let p : Plan = plan_of x.plan.now in
    let cert : Certificate = certificate_of x.cert.now in
    let stands : LinesStand p cert = rw c.in_default.is at c.in_ok-flaw.ensures in
    holds_first p cert stands.own c.error_of.result c.error_of.ensures
