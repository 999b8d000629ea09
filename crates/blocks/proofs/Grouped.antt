-- Groups in whose loops functions are computed, as they are made one after another.
use Rattle.std.proofs.Common.{◌<◌, List, [], ◌∷◌, length, map, arith}
use Rattle.sched.specs.declared.hosts.Inner.{Inner}
use Rattle.blocks.specs.Placed.{HasSome}
use Rattle.sched.specs.Placed.{inner_seen}

none_inside : (inners : List Inner) → length inners < 1 → HasSome (map inner_seen inners) → ⊥
none_inside [] none some = some
none_inside (i ∷ is) none some = omega (arith, none)

-- no list with an element has none
pub nothing_inside : {A : Type 0} (inners : List Inner) → length inners < 1 → HasSome (map inner_seen inners) → A
nothing_inside inners none some = absurd (none_inside inners none some)
