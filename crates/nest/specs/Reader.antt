-- Plans read line by line.
use Rattle.std.specs.Prelude.{ℕ, Bool, ◌&&◌, ◌||◌, not, if◌then◌else◌, List, Option, None, option_map}
use Rattle.plan.specs.Plan.{Plan}
use Rattle.std.specs.Str.{bytes_eq}
use Rattle.spelling.specs.Lines.Lines.{is_within}
use Rattle.nest.specs.Blocks.Line.{Line}
use Rattle.nest.specs.Blocks.Stages.{may_stand}
use Rattle.nest.specs.Blocks.Numbers.{Count, start, has_room, is_next, after}
use Rattle.nest.specs.Blocks.Nesting.{Draft, Nothing, next, finished}
use Rattle.nest.specs.Spelling.{line_text}
use Rattle.nest.specs.Fitting.{fits_line}
use Rattle.nest.specs.Reading.{line_from}
use Rattle.nest.specs.Notation.{is_large_at}
use Rattle.nest.specs.declared.text.Reader.{Reader as CodeReader}
use Rattle.nest.specs.Blocks.Drafts.{count_of, draft_of}
use Rattle.spelling.specs.declared.lines.error.TextError.{TextError}
use Rattle.spelling.specs.declared.lines.error.TextError.TheVariants as error

-- what has been put together and counted
pub record State : Type 0 where
  pub draft : Draft
  pub count : Count

abbrev pub initial : State
initial = record { draft = Nothing; count = start }

abbrev pub is_spelled : List ℕ → Line → Bool
is_spelled bytes l = fits_line l && bytes_eq (line_text l) bytes

abbrev pub is_numbered : Line → Count → Bool
is_numbered l c = has_room l c && is_next l c

-- whether the line may stand where so much has been counted, and keeps what is asked there
abbrev pub is_lawful : Line → Count → Bool
is_lawful l c = may_stand l c.stage && is_numbered l c

abbrev pub with_line : Line → State → Option State
with_line l s = option_map (λ d. record { draft = d; count = after l s.count }) (next l s.draft)

-- the state after the line of that number, if it can stand there
abbrev pub next_state : ℕ → List ℕ → State → Option State
next_state number bytes s =
    if is_within number bytes && is_spelled bytes (line_from bytes) && is_lawful (line_from bytes) s.count
    then with_line (line_from bytes) s else None

-- the plan, where nothing is open and the last group has its `publish`
abbrev pub finished_state : State → Option Plan
finished_state s = if s.count.stage.published then finished s.draft else None

-- N2 where the line passes a limit, else N1
abbrev pub refusal : Count → ℕ → List ℕ → TextError
refusal c number bytes = if not (is_within number bytes) || is_large_at c bytes then error.Limit number else error.Form number

abbrev pub state_of : CodeReader → State
state_of r = record { draft = draft_of r.draft; count = count_of r.count }
