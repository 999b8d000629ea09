use Rattle.std.proofs.Common.{◌≡◌, None, drop, map}
use Rattle.blocks.specs.Loading.{load_of}
use Rattle.sched.specs.Loading.{last_of}
use Rattle.blocks.proofs.loading.last_claim.Given as goal

abbrev pub invariant-loop-load : goal.invariant-loop-load
invariant-loop-load l = last_of l.found (map load_of (drop l.load-index l.loads)) l.name ≡ last_of None (map load_of l.loads) l.name
