-- Reading a schedule from its tokens, from left to right.
use Rattle.std.specs.Prelude.{◌≡◌, ℕ, zero, suc, Bool, true, false, List, [], ◌∷◌, ◌++◌, length, Option, Some, None, Result, Ok, Err}
use Rattle.numeric.specs.declared.ty.Ty.{Ty}
use Rattle.tree.specs.declared.token.token.Symbol.{Symbol}
use Rattle.tree.specs.declared.token.token.Symbol.TheVariants as symbol
use Rattle.tree.specs.declared.token.token.Token.{Token}
use Rattle.tree.specs.declared.token.token.Token.TheVariants as token
use Rattle.tree.specs.declared.token.token.Lexeme.{Lexeme}
use Rattle.tree.specs.Token.Cursor.{after, kinds}
use Rattle.sched.specs.declared.error.Refusal.{Refusal}
use Rattle.sched.specs.declared.error.Refusal.TheVariants.{BadForm, LongName}
use Rattle.sched.specs.declared.error.Stop.{Stop}
use Rattle.sched.specs.declared.error.Stop.TheVariants as stop
use Rattle.sched.specs.declared.keyword.Keyword.{Keyword}
use Rattle.sched.specs.declared.keyword.Keyword.TheVariants as word
use Rattle.sched.specs.declared.schedule.Tail.{Tail}
use Rattle.sched.specs.declared.schedule.Home.{Home}
use Rattle.sched.specs.declared.schedule.Fold.{Fold}
use Rattle.sched.specs.declared.schedule.Split.{Split}
use Rattle.sched.specs.declared.schedule.Tile.{Tile}
use Rattle.sched.specs.Words.{keyword_named, tail_named}
use Rattle.sched.specs.Schedule.{DirectiveText, compute_root, compute_at, store_at, fold as a_fold, split as a_split, tile as a_tile, reorder, unroll, vectorize, parallel, ScheduledText, Schedule}

-- ---- what a step answers: a value and the tokens after it

abbrev pub Parse : Type 0 → Type 0
Parse A = List Token → Result (A × List Token) Refusal

infixl 10 ◌>>=◌
abbrev pub ◌>>=◌ : {A B : Type 0} → Result A Refusal → (A → Result B Refusal) → Result B Refusal
(Ok x) >>= f = f x
(Err r) >>= f = Err r

abbrev pub Stops : {Y : Type 0} → Stop → Result Y Refusal → Type 0
Stops stop.Memory read = Unit {0}
Stops (stop.Refused r) read = read ≡ Err r

-- What a function returned, seen by view, is what reading gives, unless memory ran out.
abbrev pub Gives : {X Y : Type 0} → (X → Y) → Result X Stop → Result Y Refusal → Type 0
Gives view (Ok x) read = read ≡ Ok (view x)
Gives view (Err s) read = Stops s read

-- The same where the tokens after the value are left.
abbrev pub Takes : {X Y : Type 0} → (X → Y) → Result X Stop → List Lexeme → Result (Y × List Token) Refusal → Type 0
Takes view (Ok x) left read = read ≡ Ok (view x, kinds left)
Takes view (Err s) left read = Stops s read

-- The same where there is no value.
abbrev pub Leaves : {X : Type 0} → Result X Stop → List Lexeme → Result (List Token) Refusal → Type 0
Leaves (Ok x) left read = read ≡ Ok (kinds left)
Leaves (Err s) left read = Stops s read

-- ---- single tokens

abbrev pub or_refuse : Option (List Token) → ℕ → Result (List Token) Refusal
or_refuse (Some ts) left = Ok ts
or_refuse None left = Err (BadForm left)

-- the tokens after the symbol, which must come first
unfoldable pub expect : Symbol → List Token → Result (List Token) Refusal
expect s ts = or_refuse (after s ts) (length ts)

abbrev pub name : Parse (List ℕ)
name (token.Name x ∷ ts) = Ok (x, ts)
name (token.LongName ∷ ts) = Err (LongName (length (token.LongName ∷ ts)))
name ts = Err (BadForm (length ts))

-- a number must not have a type here
abbrev pub untyped : Option Ty → ℕ → List Token → ℕ → Result (ℕ × List Token) Refusal
untyped None n ts left = Ok (n, ts)
untyped (Some t) n ts left = Err (BadForm left)

abbrev pub number : Parse ℕ
number (token.Number n ∷ ts) = untyped n.ty n.value ts (length (token.Number n ∷ ts))
number ts = Err (BadForm (length ts))

-- what a name stands for, which must be something
abbrev pub known : {A : Type 0} → Option A → List Token → ℕ → Result (A × List Token) Refusal
known (Some x) ts left = Ok (x, ts)
known None ts left = Err (BadForm left)

unfoldable pub keyword : Parse Keyword
keyword ts = name ts >>= λ r. known (keyword_named r.0) r.1 (length ts)

unfoldable pub tail : Parse Tail
tail ts = name ts >>= λ r. known (tail_named r.0) r.1 (length ts)

-- ---- arguments of directives

-- a name, and a comma behind it
unfoldable pub name_comma : Parse (List ℕ)
name_comma ts = do
  x ← name ts
  rest ← expect symbol.Comma x.1
  Ok (x.0, rest)

unfoldable pub number_comma : Parse ℕ
number_comma ts = do
  n ← number ts
  rest ← expect symbol.Comma n.1
  Ok (n.0, rest)

unfoldable pub home : Parse Home
home ts = do
  f ← name_comma ts
  v ← name f.1
  Ok (record { function = f.0; turn = v.0 }, v.1)

unfoldable pub fold : Parse Fold
fold ts = do
  d ← name_comma ts
  n ← number d.1
  Ok (record { dimension = d.0; factor = n.0 }, n.1)

unfoldable pub split : Parse Split
split ts = do
  v ← name_comma ts
  vo ← name_comma v.1
  vi ← name_comma vo.1
  n ← number_comma vi.1
  t ← tail n.1
  Ok (record { whole = v.0; outer = vo.0; inner = vi.0; factor = n.0; tail = t.0 }, t.1)

unfoldable pub tile : Parse Tile
tile ts = do
  x ← name_comma ts
  y ← name_comma x.1
  xo ← name_comma y.1
  yo ← name_comma xo.1
  xi ← name_comma yo.1
  yi ← name_comma xi.1
  n ← number_comma yi.1
  m ← number_comma n.1
  t ← tail m.1
  Ok (record { x = x.0; y = y.0; x_outer = xo.0; y_outer = yo.0; x_inner = xi.0; y_inner = yi.0; x_factor = n.0; y_factor = m.0; tail = t.0 }, t.1)

-- ---- lists

-- further items, each behind the symbol. The number bounds them.
abbrev pub next_of : {A : Type 0} → Parse A → (A → Parse (List A)) → List A → List Token → Option (List Token) → Result (List A × List Token) Refusal
next_of item more found ts None = Ok (found, ts)
next_of item more found ts (Some next) = item next >>= λ r. more r.0 r.1

unfoldable pub more_of : {A : Type 0} → Symbol → Parse A → ℕ → List A → Parse (List A)
more_of s item zero found ts = Ok (found, ts)
more_of s item (suc n) found ts = next_of item (λ x. more_of s item n (found ++ x ∷ [])) found ts (after s ts)

-- one or more names with commas between them
unfoldable pub names : Parse (List (List ℕ))
names ts = name ts >>= λ r. more_of symbol.Comma name (length r.1) (r.0 ∷ []) r.1

-- ---- directives

unfoldable pub arguments : Keyword → Parse DirectiveText
arguments word.ComputeRoot ts = Ok (compute_root, ts)
arguments word.ComputeAt ts = home ts >>= λ r. Ok (compute_at r.0, r.1)
arguments word.StoreAt ts = home ts >>= λ r. Ok (store_at r.0, r.1)
arguments word.Fold ts = fold ts >>= λ r. Ok (a_fold r.0, r.1)
arguments word.Split ts = split ts >>= λ r. Ok (a_split r.0, r.1)
arguments word.Tile ts = tile ts >>= λ r. Ok (a_tile r.0, r.1)
arguments word.Reorder ts = names ts >>= λ r. Ok (reorder r.0, r.1)
arguments word.Unroll ts = name ts >>= λ r. Ok (unroll r.0, r.1)
arguments word.Vectorize ts = name ts >>= λ r. Ok (vectorize r.0, r.1)
arguments word.Parallel ts = name ts >>= λ r. Ok (parallel r.0, r.1)

-- a directive, behind its dot
unfoldable pub directive : Parse DirectiveText
directive ts = do
  k ← keyword ts
  start ← expect symbol.LeftParen k.1
  d ← arguments k.0 start
  rest ← expect symbol.RightParen d.1
  Ok (d.0, rest)

unfoldable pub scheduled : Parse ScheduledText
scheduled ts = do
  f ← name ts
  ds ← more_of symbol.Dot directive (length f.1) [] f.1
  rest ← expect symbol.Semicolon ds.1
  Ok (record { function = f.0; directives = ds.0 }, rest)

-- ---- the whole text

abbrev pub ended : Schedule → List Token → Result Schedule Refusal
ended found [] = Ok found
ended found (t ∷ ts) = Err (BadForm (length (t ∷ ts)))

-- whether no token is left
abbrev pub is_done : List Token → Bool
is_done [] = true
is_done (t ∷ ts) = false

abbrev pub unless_ended : Schedule → List Token → Result Schedule Refusal → Result Schedule Refusal
unless_ended found [] more = Ok found
unless_ended found (t ∷ ts) more = more

-- functions as long as tokens are left. The number bounds them.
unfoldable pub functions : ℕ → Schedule → List Token → Result Schedule Refusal
functions zero found ts = ended found ts
functions (suc n) found ts = unless_ended found ts (scheduled ts >>= λ r. functions n (found ++ r.0 ∷ []) r.1)

unfoldable pub file : List Token → Result Schedule Refusal
file ts = functions (length ts) [] ts
