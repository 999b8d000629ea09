use Rattle.std.proofs.Common.{map, sym, ◌∙◌}
use Rattle.sched.specs.Groups.{root_of}
use Rattle.regions.specs.Homes.{host_seen}
use Rattle.sched.specs.Placed.{inner_seen}
use Rattle.lower.proofs.Hosts.{each_at_home}
use Rattle.lower.proofs.inner.inner_in.Goals as goal

pub returns-in-Some-clause-at : goal.returns-in-Some-clause-at
returns-in-Some-clause-at c =
    each_at_home (root_of c.args.group.now) c.args.functions.now (map inner_seen c.args.inners.now) c.args.number c.args.root.now c.args.home.now c.args.host
    (host_seen c.args.hosted.now) c.args.definition c.in-Some.spot c.inner_at.result c.requires.among c.requires.homes c.requires.hosted c.requires.named
    (sym c.in-Some.is ∙ c.in_ok-spot.ensures) c.inner_at.ensures.root c.inner_at.ensures.home c.inner_at.ensures.store
