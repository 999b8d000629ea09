-- The grammar of schedule texts: the tokens of a schedule.
use Rattle.std.specs.Prelude.{◌≡◌, ℕ, ◌<◌, true, List, [], ◌∷◌, length}
use Rattle.std.specs.List.{AllByRecursion}
use Rattle.tree.specs.declared.token.token.Symbol.{Symbol}
use Rattle.tree.specs.declared.token.token.Symbol.TheVariants as symbol
use Rattle.tree.specs.declared.token.token.Token.{Token}
use Rattle.tree.specs.declared.token.token.Lexeme.{Lexeme}
use Rattle.tree.specs.Token.Cursor.{kinds}
use Rattle.tree.specs.Token.Lexical.{AreLexemes}
use Rattle.expr.specs.Grammar.{sign}
use Rattle.expr.specs.Statements.Grammar.{name_then, number_then}
use Rattle.sched.specs.declared.keyword.Keyword.{Keyword}
use Rattle.sched.specs.declared.keyword.Keyword.TheVariants as word
use Rattle.sched.specs.declared.schedule.Tail.{Tail}
use Rattle.sched.specs.declared.schedule.Home.{Home}
use Rattle.sched.specs.declared.schedule.Fold.{Fold}
use Rattle.sched.specs.declared.schedule.Split.{Split}
use Rattle.sched.specs.declared.schedule.Tile.{Tile}
use Rattle.sched.specs.Words.{keyword_text, tail_text, is_offered}
use Rattle.sched.specs.Schedule.{DirectiveText, compute_root, compute_at, store_at, fold, split, tile, reorder, unroll, vectorize, parallel, ScheduledText, Schedule}

-- ---- tokens, and then the rest

-- items, each behind the symbol
abbrev pub behind_then : {A : Type 0} → Symbol → (A → List Token → List Token) → List A → List Token → List Token
behind_then s item [] rest = rest
behind_then s item (x ∷ xs) rest = sign s ∷ item x (behind_then s item xs rest)

-- items with commas between them
abbrev pub items_then : {A : Type 0} → (A → List Token → List Token) → List A → List Token → List Token
items_then item [] rest = rest
items_then item (x ∷ xs) rest = item x (behind_then symbol.Comma item xs rest)

-- a name, and a comma behind it
abbrev pub name_comma_then : List ℕ → List Token → List Token
name_comma_then x rest = name_then x (sign symbol.Comma ∷ rest)

abbrev pub number_comma_then : ℕ → List Token → List Token
number_comma_then n rest = number_then n (sign symbol.Comma ∷ rest)

-- tail = "guard" | "roundup" | "shift"
abbrev pub tail_then : Tail → List Token → List Token
tail_then t rest = name_then (tail_text t) rest

-- name "," name
abbrev pub home_then : Home → List Token → List Token
home_then h rest = name_comma_then h.function (name_then h.turn rest)

-- name "," number
abbrev pub fold_then : Fold → List Token → List Token
fold_then f rest = name_comma_then f.dimension (number_then f.factor rest)

-- name "," name "," name "," number "," tail
abbrev pub split_then : Split → List Token → List Token
split_then s rest = name_comma_then s.whole (name_comma_then s.outer (name_comma_then s.inner (number_comma_then s.factor (tail_then s.tail rest))))

-- six names, two numbers and a tail
abbrev pub tile_then : Tile → List Token → List Token
tile_then t rest =
    name_comma_then t.x (name_comma_then t.y (name_comma_then t.x_outer (name_comma_then t.y_outer (name_comma_then t.x_inner (name_comma_then t.y_inner
    (number_comma_then t.x_factor (number_comma_then t.y_factor (tail_then t.tail rest))))))))

-- the word of a directive
abbrev pub keyword_of : DirectiveText → Keyword
keyword_of compute_root = word.ComputeRoot
keyword_of (compute_at h) = word.ComputeAt
keyword_of (store_at h) = word.StoreAt
keyword_of (fold f) = word.Fold
keyword_of (split s) = word.Split
keyword_of (tile t) = word.Tile
keyword_of (reorder xs) = word.Reorder
keyword_of (unroll x) = word.Unroll
keyword_of (vectorize x) = word.Vectorize
keyword_of (parallel x) = word.Parallel

-- what stands in the brackets of a directive
abbrev pub arguments_then : DirectiveText → List Token → List Token
arguments_then compute_root rest = rest
arguments_then (compute_at h) rest = home_then h rest
arguments_then (store_at h) rest = home_then h rest
arguments_then (fold f) rest = fold_then f rest
arguments_then (split s) rest = split_then s rest
arguments_then (tile t) rest = tile_then t rest
arguments_then (reorder xs) rest = items_then name_then xs rest
arguments_then (unroll x) rest = name_then x rest
arguments_then (vectorize x) rest = name_then x rest
arguments_then (parallel x) rest = name_then x rest

-- directive = word "(" arguments ")"
abbrev pub directive_then : DirectiveText → List Token → List Token
directive_then d rest = name_then (keyword_text (keyword_of d)) (sign symbol.LeftParen ∷ arguments_then d (sign symbol.RightParen ∷ rest))

-- name { "." directive } ";"
abbrev pub scheduled_then : ScheduledText → List Token → List Token
scheduled_then s rest = name_then s.function (behind_then symbol.Dot directive_then s.directives (sign symbol.Semicolon ∷ rest))

-- file = { name { "." directive } ";" }
abbrev pub schedule_then : Schedule → List Token
schedule_then [] = []
schedule_then (s ∷ ss) = scheduled_then s (schedule_then ss)

-- ---- what the grammar asks beside

-- a reorder names a loop at least
abbrev pub HasParts : DirectiveText → Type 0
HasParts (reorder xs) = 0 < length xs
HasParts d = Unit {0}

-- the directive has its parts, and is one that the compiler has
pub record IsGiven (d : DirectiveText) : Type 0 where
  pub parts : HasParts d
  pub offered : is_offered (keyword_of d) ≡ true

abbrev pub IsWhole : Schedule → Type 0
IsWhole schedule = AllByRecursion (λ s. AllByRecursion IsGiven s.directives) schedule

-- ---- what tokens and texts stand for

-- The tokens are put together by the grammar's rules, and stand for the schedule.
pub record StandsFor (tokens : List Token) (schedule : Schedule) : Type 0 where
  pub whole : IsWhole schedule
  pub spelled : tokens ≡ schedule_then schedule

-- The text has tokens that stand for the schedule.
pub record IsTextOf (text : List ℕ) (schedule : Schedule) : Type 0 where
  pub lexemes : List Lexeme
  pub tokens : AreLexemes text lexemes
  pub stands : StandsFor (kinds lexemes) schedule
