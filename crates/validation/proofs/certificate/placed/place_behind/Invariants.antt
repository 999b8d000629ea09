use Rattle.std.proofs.Common.{◌≡◌, map, drop}
use Rattle.validation.specs.Certificate.Placing.{place_in}
use Rattle.validation.specs.Certificate.Counted.{group_counted}
use Rattle.validation.proofs.certificate.placed.place_behind.Given as goal

-- the line lies so many lines behind the first line of the groups from here on
abbrev pub invariant-loop-counted : goal.invariant-loop-counted
invariant-loop-counted l = place_in (map group_counted l.outlines) l.fn.left ≡ place_in (map group_counted (drop l.counted-index l.outlines)) l.left
