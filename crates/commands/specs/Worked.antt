-- Words written out, and what they ask for.
use Rattle.std.specs.Prelude.{◌≡◌, ◌^◌, ◌-◌, ℕ, true, false, List, [], ◌∷◌, None, Some, codes}
use Rattle.commands.specs.Asked.{Plain, File, Picture, Format, Explain, Compile, Check, Cost, Show, Draw, Replay, Compare, Crop, Tiles}
use Rattle.commands.specs.Line.{AsksFor, AsksHelp, AsksVersion, IsMisuse, stated}

-- three names behind `plain`
abbrev pub PlainWithNames : Type 0
PlainWithNames = AsksFor (codes "plain" ∷ codes "a.alg" ∷ codes "b.pgm" ∷ codes "c.pgm" ∷ []) (Picture (record { way = Plain (2 ^ 32); algorithm = codes "a.alg"; input = codes "b.pgm"; output = codes "c.pgm" }))

-- two behind `format`, and a code behind `explain`, with a capital letter or a small one
abbrev pub FormatWithNames : Type 0
FormatWithNames = AsksFor (codes "format" ∷ codes "a.alg" ∷ codes "b.alg" ∷ []) (Format (record { algorithm = codes "a.alg"; output = codes "b.alg" }))

abbrev pub ExplainWithCode : Type 0
ExplainWithCode = AsksFor (codes "explain" ∷ codes "K12" ∷ []) (Explain (codes "K12")) × AsksFor (codes "explain" ∷ codes "k12" ∷ []) (Explain (codes "k12"))
    × IsMisuse (codes "explain" ∷ codes "K15" ∷ [])

-- four behind `run`, three behind `compile`, two behind `check` and `cost`, and four behind `replay`
abbrev pub RunWithNames : Type 0
RunWithNames =
    AsksFor (codes "run" ∷ codes "a.alg" ∷ codes "p.plan" ∷ codes "b.pgm" ∷ codes "c.pgm" ∷ [])
    (Picture (record { way = File (codes "p.plan") 1 None; algorithm = codes "a.alg"; input = codes "b.pgm"; output = codes "c.pgm" }))

-- the same with as many workers as there may be
abbrev pub RunWithWorkers : Type 0
RunWithWorkers =
    AsksFor (codes "run" ∷ codes "a.alg" ∷ codes "p.plan" ∷ codes "b.pgm" ∷ codes "c.pgm" ∷ codes "--workers" ∷ codes "64" ∷ [])
    (Picture (record { way = File (codes "p.plan") 64 None; algorithm = codes "a.alg"; input = codes "b.pgm"; output = codes "c.pgm" }))

abbrev pub CompileWithNames : Type 0
CompileWithNames =
    AsksFor (codes "compile" ∷ codes "a.alg" ∷ codes "s.sched" ∷ codes "p.plan" ∷ [])
    (Compile (record { algorithm = codes "a.alg"; schedule = codes "s.sched"; plan = codes "p.plan" }))

abbrev pub CheckWithNames : Type 0
CheckWithNames = AsksFor (codes "check" ∷ codes "a.alg" ∷ codes "p.plan" ∷ []) (Check (record { algorithm = codes "a.alg"; plan = codes "p.plan" }))

abbrev pub CostWithNames : Type 0
CostWithNames = AsksFor (codes "cost" ∷ codes "a.alg" ∷ codes "p.plan" ∷ []) (Cost (record { algorithm = codes "a.alg"; plan = codes "p.plan" }))

abbrev pub ShowWithNames : Type 0
ShowWithNames = AsksFor (codes "show" ∷ codes "a.alg" ∷ codes "p.plan" ∷ []) (Show (record { algorithm = codes "a.alg"; plan = codes "p.plan" }))

-- three behind `draw`, and an order
abbrev pub DrawWithNames : Type 0
DrawWithNames =
    AsksFor (codes "draw" ∷ codes "a.alg" ∷ codes "p.plan" ∷ codes "o.ppm" ∷ [])
    (Draw (record { check = record { algorithm = codes "a.alg"; plan = codes "p.plan" }; output = codes "o.ppm"; order = None }))

abbrev pub DrawWithOrder : Type 0
DrawWithOrder =
    AsksFor (codes "draw" ∷ codes "a.alg" ∷ codes "p.plan" ∷ codes "o.ppm" ∷ codes "--order" ∷ codes "o.txt" ∷ [])
    (Draw (record { check = record { algorithm = codes "a.alg"; plan = codes "p.plan" }; output = codes "o.ppm"; order = Some (codes "o.txt") }))

-- a tile behind `crop`, and a folder behind `tiles`
abbrev pub CropWithNames : Type 0
CropWithNames =
    AsksFor (codes "crop" ∷ codes "a.alg" ∷ codes "0" ∷ codes "4294967295" ∷ codes "3" ∷ codes "4" ∷ codes "b.alg" ∷ [])
    (Crop (record { algorithm = codes "a.alg"; rect = record { x = 0; y = 2 ^ 32 - 1; width = 3; height = 4 }; output = codes "b.alg" }))

abbrev pub TilesWithNames : Type 0
TilesWithNames =
    AsksFor (codes "tiles" ∷ codes "a.alg" ∷ codes "3" ∷ codes "2" ∷ codes "d" ∷ [])
    (Tiles (record { algorithm = codes "a.alg"; width = 3; height = 2; folder = codes "d" }))

-- numbers of samples that are none
abbrev pub MisusedSides : Type 0
MisusedSides =
    IsMisuse (codes "tiles" ∷ codes "a.alg" ∷ codes "03" ∷ codes "2" ∷ codes "d" ∷ [])
    × IsMisuse (codes "tiles" ∷ codes "a.alg" ∷ codes "3" ∷ codes "+2" ∷ codes "d" ∷ [])
    × IsMisuse (codes "tiles" ∷ codes "a.alg" ∷ codes "3" ∷ codes "" ∷ codes "d" ∷ [])
    × IsMisuse (codes "tiles" ∷ codes "a.alg" ∷ codes "3" ∷ codes "4294967296" ∷ codes "d" ∷ [])
    × IsMisuse (codes "tiles" ∷ codes "a.alg" ∷ codes "3" ∷ codes "x" ∷ codes "d" ∷ [])

-- limits of evaluations and of stores
abbrev pub PlainWithLimit : Type 0
PlainWithLimit =
    AsksFor (codes "plain" ∷ codes "a.alg" ∷ codes "b.pgm" ∷ codes "c.pgm" ∷ codes "--at-most" ∷ codes "0" ∷ [])
    (Picture (record { way = Plain 0; algorithm = codes "a.alg"; input = codes "b.pgm"; output = codes "c.pgm" }))

abbrev pub RunWithLimit : Type 0
RunWithLimit =
    AsksFor (codes "run" ∷ codes "a.alg" ∷ codes "p.plan" ∷ codes "b.pgm" ∷ codes "c.pgm" ∷ codes "--at-most" ∷ codes "18446744073709551615" ∷ [])
    (Picture (record { way = File (codes "p.plan") 1 (Some (2 ^ 64 - 1)); algorithm = codes "a.alg"; input = codes "b.pgm"; output = codes "c.pgm" }))

-- two names behind `compare`, and three schedules
abbrev pub CompareWithNames : Type 0
CompareWithNames =
    AsksFor (codes "compare" ∷ codes "a.alg" ∷ codes "b.pgm" ∷ codes "s.sched" ∷ codes "t.sched" ∷ codes "s.sched" ∷ [])
    (Compare (record { algorithm = codes "a.alg"; input = codes "b.pgm"; schedules = codes "s.sched" ∷ codes "t.sched" ∷ codes "s.sched" ∷ []; by_first = false }))

-- the same of two, with the word that takes the first one's picture, wherever it stands
abbrev pub IsByFirst : List (List ℕ) → Type 0
IsByFirst words =
    AsksFor words (Compare (record { algorithm = codes "a.alg"; input = codes "b.pgm"; schedules = codes "s.sched" ∷ codes "t.sched" ∷ []; by_first = true }))

abbrev pub CompareByFirst : Type 0
CompareByFirst =
    IsByFirst (codes "compare" ∷ codes "a.alg" ∷ codes "b.pgm" ∷ codes "s.sched" ∷ codes "t.sched" ∷ codes "--by-first" ∷ [])
    × IsByFirst (codes "compare" ∷ codes "--by-first" ∷ codes "a.alg" ∷ codes "b.pgm" ∷ codes "s.sched" ∷ codes "t.sched" ∷ [])

abbrev pub ReplayWithNames : Type 0
ReplayWithNames =
    AsksFor (codes "replay" ∷ codes "a.alg" ∷ codes "p.plan" ∷ codes "b.pgm" ∷ codes "o.txt" ∷ [])
    (Replay (record { check = record { algorithm = codes "a.alg"; plan = codes "p.plan" }; input = codes "b.pgm"; order = codes "o.txt" }))

-- the word that asks for more of a refusal, before and behind the others, and as a name
abbrev pub ExplainedWords : Type 0
ExplainedWords =
    (stated (codes "--explain" ∷ codes "check" ∷ codes "a.alg" ∷ codes "p.plan" ∷ codes "--explain" ∷ []) ≡ codes "check" ∷ codes "a.alg" ∷ codes "p.plan" ∷ [])
    × (stated (codes "check" ∷ codes "--" ∷ codes "--explain" ∷ codes "p.plan" ∷ []) ≡ codes "check" ∷ codes "--" ∷ codes "--explain" ∷ codes "p.plan" ∷ [])

abbrev pub HelpWords : Type 0
HelpWords = AsksHelp (codes "--help" ∷ []) × AsksHelp (codes "help" ∷ []) × AsksHelp (codes "plain" ∷ codes "--help" ∷ [])

-- words that ask for the version
abbrev pub VersionWords : Type 0
VersionWords = AsksVersion (codes "--version" ∷ []) × AsksVersion (codes "-V" ∷ [])

-- an unknown command, and a name too few and too many
abbrev pub MisusedWords : Type 0
MisusedWords = IsMisuse (codes "paint" ∷ codes "a.alg" ∷ codes "b.pgm" ∷ codes "c.pgm" ∷ [])
    × IsMisuse (codes "plain" ∷ codes "a.alg" ∷ codes "b.pgm" ∷ [])
    × IsMisuse (codes "plain" ∷ codes "a.alg" ∷ codes "b.pgm" ∷ codes "c.pgm" ∷ codes "d.pgm" ∷ [])

-- no worker, one too many, and numbers with a zero or a sign before them
abbrev pub IsNoCrew : List ℕ → Type 0
IsNoCrew text = IsMisuse (codes "run" ∷ codes "a.alg" ∷ codes "p.plan" ∷ codes "b.pgm" ∷ codes "c.pgm" ∷ codes "--workers" ∷ text ∷ [])

abbrev pub MisusedWorkers : Type 0
MisusedWorkers = IsNoCrew (codes "0") × (IsNoCrew (codes "65") × (IsNoCrew (codes "01") × (IsNoCrew (codes "+1") × IsNoCrew [])))

-- 2^64, a zero or a sign before a number, and no number
abbrev pub IsNoLimit : List ℕ → Type 0
IsNoLimit text = IsMisuse (codes "run" ∷ codes "a.alg" ∷ codes "p.plan" ∷ codes "b.pgm" ∷ codes "c.pgm" ∷ codes "--at-most" ∷ text ∷ [])

abbrev pub MisusedLimits : Type 0
MisusedLimits = IsNoLimit (codes "18446744073709551616") × (IsNoLimit (codes "01") × (IsNoLimit (codes "+1") × (IsNoLimit (codes "1e3") × IsNoLimit [])))
