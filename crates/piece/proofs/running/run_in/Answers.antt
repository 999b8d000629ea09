use Rattle.std.proofs.Common.{List, ℤ, Option, sym, ap, ◌∙◌, subst}
use Rattle.meaning.specs.Image.View.{AreExtents, Picture}
use Rattle.plan.specs.Plan.{Plan}
use Rattle.plan.specs.View.{plan_of}
use Rattle.plan.specs.Certificate.Certificate.{certificate_of}
use Rattle.interpreter.specs.Outcome.{rank_gives}
use Rattle.interpreter.specs.Scratches.{room_of, GivesIn}
use Rattle.piece.proofs.Runs.{inside_here, memory_here, narrow_here}
use Rattle.piece.proofs.running.run_in.Goals as goal

pub run_piece_in-requires-clause-input : goal.run_piece_in-requires-clause-input
run_piece_in-requires-clause-input g c =
    let is = ap (λ (v : Picture). v.extents) c.image.ensures.image in
    record {
      extents = is ∙ c.requires.input ∙ sym (ap (λ (q : Plan). q.input.extents) c.plan.ensures);
      raster = subst AreExtents (sym is) c.image.ensures.whole.valid.extents;
    }

pub run_piece_in-requires-clause-narrow : goal.run_piece_in-requires-clause-narrow
run_piece_in-requires-clause-narrow g c =
    narrow_here c.args.checked.now (plan_of c.plan.result.now) (certificate_of c.cert.result.now) c.plan.ensures c.cert.ensures c.args.piece c.args.place.group c.args.place.rank c.requires.place c.pieces_are_narrow.ensures

pub run_piece_in-requires-clause-inside : goal.run_piece_in-requires-clause-inside
run_piece_in-requires-clause-inside g c =
    inside_here c.args.checked.now (plan_of c.plan.result.now) (certificate_of c.cert.result.now) c.plan.ensures c.cert.ensures c.args.piece c.args.place.group c.args.place.rank c.requires.place

pub run_piece_in-requires-clause-memory : goal.run_piece_in-requires-clause-memory
run_piece_in-requires-clause-memory g c =
    memory_here c.args.checked.now (plan_of c.plan.result.now) (certificate_of c.cert.result.now) c.plan.ensures c.cert.ensures c.args.piece c.args.place.group c.args.place.rank c.requires.place c.args.scratch.now c.requires.memory

pub returns-clause-gives : goal.returns-clause-gives
returns-clause-gives g c =
    let samples = ap (λ (v : Picture). v.samples) c.image.ensures.image in
    subst (λ (o : Option (List ℤ)). GivesIn (room_of c.args.scratch.now) c.run_piece_in.result c.run_piece_in.new.scratch.state.given.items o)
    (λ i. rank_gives (c.plan.ensures i) (c.cert.ensures i) (samples i) (g.C.Cells.cell c.args.cells.now) c.args.place.group c.args.place.rank) c.run_piece_in.ensures.gives
