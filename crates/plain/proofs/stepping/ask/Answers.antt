use Rattle.std.proofs.Common.{subst}
use Rattle.plain.specs.Sites.{site_of}
use Rattle.plain.specs.Scopes.{NoneBefore}
use Rattle.algo.specs.View.{algorithm_of, picture_of}
use Rattle.plain.proofs.Scoped.{site_evaluates, next_named}
use Rattle.plain.proofs.Stepped.{ask_follows}
use Rattle.plain.proofs.stepping.ask.Goals as goal

pub numbers-requires : goal.numbers-requires
numbers-requires c =
    let s = c.args.scope.now in
    site_evaluates s.algo.now s.inputs.now c.args.frame.now s c.requires.scope c.is_well_formed.ensures c.requires.input c.requires.frame (site_of c.args.site.now) c.requires.site

pub unreachable-requires : goal.unreachable-requires
unreachable-requires c =
    let s = c.args.scope.now in
    next_named (algorithm_of s.algo.now) c.is_well_formed.ensures (picture_of s.inputs.now) c.requires.input c.args.frame.now c.requires.frame (site_of c.args.site.now) c.requires.site
    (subst (λ n. NoneBefore (algorithm_of s.algo.now) n c.args.site.now.name.now) c.requires.scope.callees c.in-None.ensures)

pub returns : goal.returns
returns c =
    let s = c.args.scope.now in
    ask_follows s.algo.now s.inputs.now c.args.frame.now s c.requires.scope c.is_well_formed.ensures c.requires.input c.requires.frame (site_of c.args.site.now) c.requires.site
    c.in_ok-at.at.items c.in-Some.function c.goal_of.result c.in_ok-at.ensures c.in-Some.ensures c.goal_of.ensures
