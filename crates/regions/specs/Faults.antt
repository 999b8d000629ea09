-- The first function that breaks a rule by what its loops run over, where each stored function is a root function.
use Rattle.std.specs.Prelude.{Bool, true, false, ◌&&◌, List, [], ◌∷◌}
use Rattle.std.specs.List.{list_all}
use Rattle.sched.specs.declared.schedule.Home.{Home}
use Rattle.sched.specs.Stored.{StoredText}

abbrev pub is_homeless : List Home → Bool
is_homeless [] = true
is_homeless (h ∷ hs) = false

-- a root function that is computed at no loop
abbrev pub is_whole : StoredText → Bool
is_whole g = g.subject.is_root && is_homeless g.placed.homes

abbrev pub are_whole : List StoredText → Bool
are_whole gs = list_all is_whole gs
