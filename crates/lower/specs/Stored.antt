-- The stored functions, and their definitions with the calls of other functions put in.
-- What crates below need of it stands there: `sched`, `regions`, `blocks`.
use Rattle.std.specs.Prelude.{Bool, List, map}
use Rattle.std.specs.List.{list_any}
use Rattle.meaning.specs.Algorithm.{Algorithm}
use Rattle.sched.specs.Schedule.{Schedule}
use Rattle.sched.specs.Subjects.{subject_said}
use Rattle.sched.specs.Legal.{loops_of}
use Rattle.sched.specs.Stored.{StoredText}
use Rattle.blocks.specs.Stored.{stored_of_all}
use Rattle.regions.specs.Stored.{is_large}

-- those of an algorithm under a schedule, in the order of declaration
abbrev pub stored_functions : Algorithm → Schedule → List StoredText
stored_functions a s = stored_of_all a (map (subject_said a s) a.functions) (loops_of a s)

abbrev pub has_large : List StoredText → Bool
has_large gs = list_any is_large gs
