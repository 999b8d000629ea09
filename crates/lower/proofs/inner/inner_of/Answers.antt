use Rattle.std.proofs.Common.{◌≡◌, Some, length, map, sym, ap, ◌∙◌}
use Rattle.std.specs.Option.{option_map}
use Rattle.algo.specs.View.{algorithm_of}
use Rattle.lower.specs.Computed.{are_small, seated, seats_of}
use Rattle.blocks.specs.Parted.{kept_region}
use Rattle.sched.specs.Placed.{later_seen}
use Rattle.lower.specs.Rounded.{lain_kept, lain_over, lain_seen}
use Rattle.regions.specs.Slid.{sliding_seen, folds_fit}
use Rattle.lower.specs.Slid.{dimension_along}
use Rattle.sched.specs.Stored.{formula_of, stored_of}
use Rattle.sched.specs.Taken.{site_of}
use Rattle.lower.proofs.inner.inner_of.Goals as goal

pub returns-clause-judged : goal.returns-clause-judged
returns-clause-judged c =
    let g = stored_of c.args.root.now.stored.now in
    let scope = c.in_ok-lain.lain.scope in
    record {
      fits = c.in_ok-fits.ensures ∙ ap (folds_fit g scope c.args.needed.now) c.dimension_of-along.ensures;
      small = c.in_ok-is_small.ensures ∙ ap (are_small scope c.args.needed.now c.args.outer.now) (sym c.in_ok-kept.ensures);
    }

pub returns-clause-seated : goal.returns-clause-seated
returns-clause-seated c =
    let a = algorithm_of c.args.algo.now in
    let g = stored_of c.args.root.now.stored.now in
    let fs = map formula_of c.args.root.now.formulas.now in
    let outer = c.args.outer.now in
    let around = c.args.around.now in
    let ss = map site_of c.args.sites.now in
    let lain = c.in_ok-lain.lain in
    let region = c.in_ok-region.region in
    let later = option_map later_seen c.in_ok-region.later in
    let along = dimension_along (option_map sliding_seen c.args.sliding.now) in
    let laid : lain_over a g fs around region c.in_ok-kept.kept ≡ Some (lain_seen lain) = c.in_ok-lain.ensures.lain in
    let told : lain_kept a g fs around region (kept_region (length outer) around region) ≡ Some (lain_seen lain) = ap (lain_kept a g fs around region) c.in_ok-kept.ensures ∙ laid in
    record { is = ap (seats_of g outer lain.scope later ss along) told ∙ ap (seated g outer lain.scope (lain_seen lain) later ss) (sym c.dimension_of-along.ensures) ∙ c.in_ok-places.ensures }
