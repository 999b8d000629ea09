-- What a piece fetches of other root functions, and what the certificate says of it: which pieces are needed, and by which claims it is loaded.
use Rattle.std.specs.Prelude.{List}
use Rattle.sched.specs.Stored.{FormulaText, StoredText}
use Rattle.sched.specs.Regions.{LaidText}

-- a root function, its region with the loops over it, and its definitions
abbrev pub Entry : Type 0
Entry = StoredText × LaidText × List FormulaText
