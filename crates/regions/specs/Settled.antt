-- What stands behind the loops of a function whose loops are split, where it is computed inside loops: the first number of each block, the position in it, and what keeps
-- that within what is needed, each as soon as the loops stand that tell it. The first and the last number of a loop that is split are forms.
-- What crates below need of it stands there: `sched`.
use Rattle.std.specs.Prelude.{[]}
use Rattle.sched.specs.Standing.{StandingText}
use Rattle.regions.specs.declared.standing.Standing.{Standing}

-- ---- as memory keeps it

abbrev pub standing_seen : Standing → StandingText
standing_seen st = record { known = st.known.items; starts = st.starts.items; bound = st.bound.items; next = st.next; steps = st.steps.items; limits = [] }
