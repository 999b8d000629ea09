-- What is needed of a function at a place of a nest: what stands around the place, the calls of the function there and inside of it, and the region that they need.
use Rattle.std.specs.Prelude.{ℕ, ◌==◌, Bool, false, not, ◌&&◌, List, Option, Some, None, slice_get}
use Rattle.std.specs.List.{list_any}
use Rattle.meaning.specs.Names.{same_name}
use Rattle.sched.specs.declared.schedule.Split.{Split}
use Rattle.sched.specs.declared.schedule.Tail.TheVariants.{Guard, Roundup, Shift}
use Rattle.sched.specs.Standing.{is_half}
use Rattle.sched.specs.declared.hosts.Host.{Host}
use Rattle.sched.specs.declared.hosts.Host.TheVariants.{Own, Inner as Inside, Later as Anew}
use Rattle.sched.specs.Stored.{StoredText}

-- ---- what is computed there, or further inside

abbrev pub number_of : Host → Option ℕ
number_of Own = None
number_of (Inside n) = Some n
number_of (Anew n) = Some n

-- ---- the calls

abbrev pub has_split_half : List Split → Split → Bool
has_split_half cs c = list_any (λ d. is_half c d.whole) cs

-- its blocks have one number, and its halves are not split again
abbrev pub is_alone : List Split → Split → Bool
is_alone cs c = (c.factor == 1) && not (has_split_half cs c)

-- the loop of this name is split so that its last block may run past the end: a block of one number alone runs past none
abbrev pub is_rounding : List Split → List ℕ → Split → Bool
is_rounding cs x c = elim c.tail [ Guard ↦ false | Roundup ↦ same_name c.whole x && not (is_alone cs c) | Shift ↦ false ]

abbrev pub is_rounded : StoredText → ℕ → Bool
is_rounded g d = elim (slice_get g.subject.variables d) [ Some x ↦ list_any (is_rounding g.placed.cuts x) g.placed.cuts | None ↦ false ]
