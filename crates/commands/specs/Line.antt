-- The command line: the words that it takes, and what they ask for.
use Rattle.std.specs.Prelude.{◌≡◌, ◌≢◌, ◌⊎◌, ℕ, Bool, List, [], ◌∷◌, Option, None, Some, ◌^◌, true, false, codes, option_and_then, option_map, map, not, if◌then◌else◌}
use Rattle.std.specs.Str.{bytes_eq}
use Rattle.std.specs.Char.{to_ascii_uppercase}
use Rattle.clap.specs.declared.builder.action.ArgAction.TheVariants.{SetTrue}
use Rattle.clap.specs.declared.error.kind.ErrorKind.{ErrorKind}
use Rattle.clap.specs.declared.error.kind.ErrorKind.TheVariants.{DisplayHelp, DisplayVersion, ValueValidation}
use Rattle.clap.specs.declared.error.Error.{Error}
use Rattle.clap.specs.Lexer.{usize_max}
use Rattle.clap.specs.Words.{App, HasKind, IsAmong, Row, Rule, Text, fault_of, all_of, first_of, kind_of, new_app, new_rule, subcommand_of, with_rule, with_subcommand}
use Rattle.report.specs.Codes.Codes.{is_code}
use Rattle.crop.specs.declared.cropping.Rect.{Rect}
use Rattle.commands.specs.Limit.{limit_spelled, side_spelled}
use Rattle.commands.specs.Workers.{workers_spelled}
use Rattle.commands.specs.Asked.{AskedWay, Plain, File, AskedCheck, Asked, Picture, Format, Explain, Compile, Check, Cost, Show, Draw, Replay, Compare, Crop, Tiles}

-- a word that has to be there, under a name
abbrev pub needed : Text → Rule
needed name = record (new_rule name) { required = true }

-- words under a name, of which there has to be one
abbrev pub several : Text → Rule
several name = record (needed name) { range = Some (record { start_inclusive = 1; end_inclusive = usize_max }) }

-- plain ALG IN OUT
abbrev pub named_plain_line : App
named_plain_line = with_rule (with_rule (with_rule (new_app (codes "plain")) (needed (codes "ALG"))) (needed (codes "IN"))) (needed (codes "OUT"))

-- stencil COMMAND, where the words begin with the command
abbrev pub program : App
program = record (new_app (codes "stencil")) { top = record ((new_app (codes "stencil")).top) { has_version = true; no_binary_name = true; subcommand_required = true } }

-- compile ALG SCHED PLAN
abbrev pub compile_line : App
compile_line = with_rule (with_rule (with_rule (new_app (codes "compile")) (needed (codes "ALG"))) (needed (codes "SCHED"))) (needed (codes "PLAN"))

-- format ALG OUT
abbrev pub format_line : App
format_line = with_rule (with_rule (new_app (codes "format")) (needed (codes "ALG"))) (needed (codes "OUT"))

-- explain CODE
abbrev pub explain_line : App
explain_line = with_rule (new_app (codes "explain")) (needed (codes "CODE"))

-- NAME ALG PLAN
abbrev pub plan_line : Text → App
plan_line name = with_rule (with_rule (new_app name) (needed (codes "ALG"))) (needed (codes "PLAN"))

-- compare ALG IN SCHED.., and with it --by-first, which may be left out
abbrev pub named_compare_line : App
named_compare_line = with_rule (with_rule (with_rule (new_app (codes "compare")) (needed (codes "ALG"))) (needed (codes "IN"))) (several (codes "SCHED"))

abbrev pub by_first_rule : Rule
by_first_rule = record (new_rule (codes "by-first")) { long = Some (codes "by-first"); action = Some SetTrue }

abbrev pub compare_line : App
compare_line = with_rule named_compare_line by_first_rule

-- --NAME VALUE, which may be left out
abbrev pub valued : Text → Rule
valued name = record (new_rule name) { long = Some name; value_names = 1 }

-- --workers N, --at-most N and --order ORDER
abbrev pub workers_rule : Rule
workers_rule = valued (codes "workers")

abbrev pub at_most_rule : Rule
at_most_rule = valued (codes "at-most")

abbrev pub order_rule : Rule
order_rule = valued (codes "order")

abbrev pub plain_line : App
plain_line = with_rule named_plain_line at_most_rule

abbrev pub named_run_line : App
named_run_line = with_rule (with_rule (plan_line (codes "run")) (needed (codes "IN"))) (needed (codes "OUT"))

abbrev pub run_line : App
run_line = with_rule (with_rule named_run_line workers_rule) at_most_rule

abbrev pub named_draw_line : App
named_draw_line = with_rule (plan_line (codes "draw")) (needed (codes "OUT"))

abbrev pub draw_line : App
draw_line = with_rule named_draw_line order_rule

abbrev pub replay_line : App
replay_line = with_rule (with_rule (plan_line (codes "replay")) (needed (codes "IN"))) (needed (codes "ORDER"))

-- crop ALG X Y, and with these W H OUT
abbrev pub placed_line : App
placed_line = with_rule (with_rule (with_rule (new_app (codes "crop")) (needed (codes "ALG"))) (needed (codes "X"))) (needed (codes "Y"))

abbrev pub crop_line : App
crop_line = with_rule (with_rule (with_rule placed_line (needed (codes "W"))) (needed (codes "H"))) (needed (codes "OUT"))

-- tiles ALG TW TH, and with these DIR
abbrev pub sized_line : App
sized_line = with_rule (with_rule (with_rule (new_app (codes "tiles")) (needed (codes "ALG"))) (needed (codes "TW"))) (needed (codes "TH"))

abbrev pub tiles_line : App
tiles_line = with_rule sized_line (needed (codes "DIR"))

-- the commands that write something of an algorithm alone
abbrev pub planless : App
planless = with_subcommand (with_subcommand program plain_line.top) format_line.top

-- with them those that take schedules
abbrev pub scheduled : App
scheduled = with_subcommand (with_subcommand planless compile_line.top) compare_line.top

-- with them the commands that tell something of a code or a plan file, and with these those that compute by one
abbrev pub told : App
told = with_subcommand (with_subcommand (with_subcommand (with_subcommand scheduled explain_line.top) (plan_line (codes "check")).top) (plan_line (codes "cost")).top) (plan_line (codes "show")).top

-- with them those that cut an algorithm into tiles
abbrev pub cut : App
cut = with_subcommand (with_subcommand told crop_line.top) tiles_line.top

-- with them those that compute by a plan file
abbrev pub computed : App
computed = with_subcommand (with_subcommand cut run_line.top) replay_line.top

abbrev pub line : App
line = with_subcommand computed draw_line.top

-- a picture, where all three names are there
abbrev pub all_three : AskedWay → Option Text → Option Text → Option Text → Option Asked
all_three way (Some algorithm) (Some input) (Some output) = Some (Picture (record { way = way; algorithm = algorithm; input = input; output = output }))
all_three way _ _ _ = None

-- the words for the algorithm, the image and the picture
abbrev pub picture_in : AskedWay → List Row → Option Asked
picture_in way rows = all_three way (first_of (codes "ALG") rows) (first_of (codes "IN") rows) (first_of (codes "OUT") rows)

-- how many evaluations a pixel may take: 2^32, where nothing is said
abbrev pub evaluations_in : Option Text → Option ℕ
evaluations_in None = Some (2 ^ 32)
evaluations_in (Some text) = limit_spelled text

abbrev pub plain_in : List Row → Option Asked
plain_in rows = option_and_then (λ most. picture_in (Plain most) rows) (evaluations_in (first_of (codes "at-most") rows))

-- an algorithm and where its canonical text goes, where both names are there
abbrev pub to_format : Option Text → Option Text → Option Asked
to_format (Some algorithm) (Some output) = Some (Format (record { algorithm = algorithm; output = output }))
to_format _ _ = None

-- the words for the algorithm and the text
abbrev pub format_in : List Row → Option Asked
format_in rows = to_format (first_of (codes "ALG") rows) (first_of (codes "OUT") rows)

-- the code of a refusal, whose letter may be a small one
abbrev pub to_explain : Text → Option Asked
to_explain code = if is_code (map to_ascii_uppercase code) then Some (Explain code) else None

-- the word for it
abbrev pub explain_in : List Row → Option Asked
explain_in rows = option_and_then to_explain (first_of (codes "CODE") rows)

-- a schedule, where all three names are there
abbrev pub to_compile : Option Text → Option Text → Option Text → Option Asked
to_compile (Some algorithm) (Some schedule) (Some plan) = Some (Compile (record { algorithm = algorithm; schedule = schedule; plan = plan }))
to_compile _ _ _ = None

-- the words for the algorithm, the schedule and the plan
abbrev pub compile_in : List Row → Option Asked
compile_in rows = to_compile (first_of (codes "ALG") rows) (first_of (codes "SCHED") rows) (first_of (codes "PLAN") rows)

-- how many workers there are: one, where nothing is said
abbrev pub workers_in : Option Text → Option ℕ
workers_in None = Some 1
workers_in (Some text) = workers_spelled text

-- how many stores a plan may make: any number, where nothing is said
abbrev pub stores_in : Option Text → Option (Option ℕ)
stores_in None = Some None
stores_in (Some text) = option_map Some (limit_spelled text)

-- by a plan, so many workers and so many stores, where all are known
abbrev pub by_workers : Text → Option ℕ → Option (Option ℕ) → List Row → Option Asked
by_workers plan (Some workers) (Some most) rows = picture_in (File plan workers most) rows
by_workers plan _ _ rows = None

abbrev pub run_in : List Row → Option Asked
run_in rows = option_and_then (λ plan. by_workers plan (workers_in (first_of (codes "workers") rows)) (stores_in (first_of (codes "at-most") rows)) rows) (first_of (codes "PLAN") rows)

abbrev pub both : Option Text → Option Text → Option AskedCheck
both (Some algorithm) (Some plan) = Some (record { algorithm = algorithm; plan = plan })
both _ _ = None

-- the words for the algorithm and the plan
abbrev pub check_in : List Row → Option AskedCheck
check_in rows = both (first_of (codes "ALG") rows) (first_of (codes "PLAN") rows)

abbrev pub with_order : AskedCheck → Option Text → Option Text → Option Asked
with_order check (Some input) (Some order) = Some (Replay (record { check = check; input = input; order = order }))
with_order check _ _ = None

abbrev pub replay_in : List Row → Option Asked
replay_in rows = option_and_then (λ check. with_order check (first_of (codes "IN") rows) (first_of (codes "ORDER") rows)) (check_in rows)

-- where the drawing goes, and the order
abbrev pub to_draw : Option Text → AskedCheck → Option Text → Option Asked
to_draw order check (Some output) = Some (Draw (record { check = check; output = output; order = order }))
to_draw order check None = None

abbrev pub draw_in : List Row → Option Asked
draw_in rows = option_and_then (λ check. to_draw (first_of (codes "order") rows) check (first_of (codes "OUT") rows)) (check_in rows)

-- whether a word that takes no value stands among the words
abbrev pub is_set : Option Text → Bool
is_set None = false
is_set (Some text) = bytes_eq text (codes "true")

abbrev pub to_compare : Bool → Option Text → Option Text → Option (List Text) → Option Asked
to_compare by_first (Some algorithm) (Some input) (Some schedules) =
    Some (Compare (record { algorithm = algorithm; input = input; schedules = schedules; by_first = by_first }))
to_compare by_first _ _ _ = None

-- the words for the algorithm, the image and the schedules
abbrev pub compare_in : List Row → Option Asked
compare_in rows =
    to_compare (is_set (first_of (codes "by-first") rows)) (first_of (codes "ALG") rows) (first_of (codes "IN") rows) (all_of (codes "SCHED") rows)

-- a number of samples
abbrev pub side_in : Option Text → Option ℕ
side_in word = option_and_then side_spelled word

-- a rectangle, where all its four numbers are there
abbrev pub to_rect : Option ℕ → Option ℕ → Option ℕ → Option ℕ → Option Rect
to_rect (Some x) (Some y) (Some width) (Some height) = Some (record { x = x; y = y; width = width; height = height })
to_rect _ _ _ _ = None

-- the words for it
abbrev pub rect_in : List Row → Option Rect
rect_in rows =
    to_rect (side_in (first_of (codes "X") rows)) (side_in (first_of (codes "Y") rows)) (side_in (first_of (codes "W") rows)) (side_in (first_of (codes "H") rows))

abbrev pub to_crop : Option Rect → Option Text → Option Text → Option Asked
to_crop (Some rect) (Some algorithm) (Some output) = Some (Crop (record { algorithm = algorithm; rect = rect; output = output }))
to_crop _ _ _ = None

-- the words for the algorithm, the rectangle and the tile's algorithm
abbrev pub crop_in : List Row → Option Asked
crop_in rows = to_crop (rect_in rows) (first_of (codes "ALG") rows) (first_of (codes "OUT") rows)

abbrev pub to_tiles : Option ℕ → Option ℕ → Option Text → Option Text → Option Asked
to_tiles (Some width) (Some height) (Some algorithm) (Some folder) =
    Some (Tiles (record { algorithm = algorithm; width = width; height = height; folder = folder }))
to_tiles _ _ _ _ = None

-- the words for the algorithm, a tile's sides and the folder
abbrev pub tiles_in : List Row → Option Asked
tiles_in rows =
    to_tiles (side_in (first_of (codes "TW") rows)) (side_in (first_of (codes "TH") rows)) (first_of (codes "ALG") rows) (first_of (codes "DIR") rows)

-- what a command of this name asks for, of those that cut an algorithm
abbrev pub asked_of_cut : Text × List Row → Option Asked
asked_of_cut command =
    if bytes_eq command.0 (codes "crop") then crop_in command.1
    else (if bytes_eq command.0 (codes "tiles") then tiles_in command.1 else None)

-- and of those that take an order
abbrev pub asked_of_order : Text × List Row → Option Asked
asked_of_order command =
    if bytes_eq command.0 (codes "draw") then draw_in command.1
    else (if bytes_eq command.0 (codes "replay") then replay_in command.1 else asked_of_cut command)

-- and of those that tell something of a plan file
abbrev pub asked_of_check : Text × List Row → Option Asked
asked_of_check command =
    if bytes_eq command.0 (codes "check") then option_map Check (check_in command.1)
    else (if bytes_eq command.0 (codes "cost") then option_map Cost (check_in command.1)
    else (if bytes_eq command.0 (codes "show") then option_map Show (check_in command.1) else asked_of_order command))

-- and of all that take a plan file
abbrev pub asked_of_plan : Text × List Row → Option Asked
asked_of_plan command = if bytes_eq command.0 (codes "run") then run_in command.1 else asked_of_check command

-- and of all that take so many words
abbrev pub asked_of_one : Text × List Row → Option Asked
asked_of_one command =
    if bytes_eq command.0 (codes "plain") then plain_in command.1
    else (if bytes_eq command.0 (codes "format") then format_in command.1
    else (if bytes_eq command.0 (codes "explain") then explain_in command.1
    else (if bytes_eq command.0 (codes "compile") then compile_in command.1 else asked_of_plan command)))

-- what a command of this name asks for
abbrev pub asked_of_command : Text × List Row → Option Asked
asked_of_command command = if bytes_eq command.0 (codes "compare") then compare_in command.1 else asked_of_one command

-- what the words ask for
abbrev pub asked : List Text → Option Asked
asked words = option_and_then asked_of_command (subcommand_of line words)

-- a word that does not ask for more of a refusal
abbrev pub is_stated : Text → Bool
is_stated word = not (bytes_eq word (codes "--explain"))

-- a word behind which each word is a name
abbrev pub names_follow : Text → Bool
names_follow word = bytes_eq word (codes "--")

-- the words without those that ask for more, wherever they stand before `--`
abbrev pub stated : List Text → List Text
stated [] = []
stated (word ∷ words) = if names_follow word then word ∷ words else (if is_stated word then word ∷ stated words else stated words)

-- nothing is wrong with the words, and they ask for this
abbrev pub AsksFor : List Text → Asked → Type 0
AsksFor words a = (fault_of line words ≡ []) × (asked words ≡ Some a)

-- the words ask for help
abbrev pub AsksHelp : List Text → Type 0
AsksHelp words = IsAmong DisplayHelp (fault_of line words)

-- or for the version
abbrev pub AsksVersion : List Text → Type 0
AsksVersion words = IsAmong DisplayVersion (fault_of line words)

-- something is wrong with the words, or no number of workers is spelled, or no limit, or no code
abbrev pub IsMisuse : List Text → Type 0
IsMisuse words =
    ((kind : ErrorKind) × (kind ≢ DisplayHelp) × (kind ≢ DisplayVersion) × IsAmong kind (fault_of line words)) ⊎ (asked words ≡ None)

-- why the words ask for no command: memory ran out, they ask for help or the version or are a fault, or no number of workers, limit or code is spelled
abbrev pub FailsFor : List Text → Error → Type 0
FailsFor words e = HasKind (fault_of line words) e ⊎ ((kind_of e ≡ ValueValidation) × (asked words ≡ None))
