-- What the grammar allows is read.
use Rattle.std.proofs.Common.{◌≡◌, ℕ, zero, suc, ◌+◌, ◌≤◌, ◌<◌, true, List, [], ◌∷◌, ◌++◌, length, Some, None, Result, Ok, refl, ap, ◌∙◌, append_assoc, arith}
use Rattle.std.specs.List.{AllByRecursion}
use Rattle.std.proofs.lemmas.List.{append-nil}
use Rattle.tree.specs.declared.token.token.Symbol.{Symbol}
use Rattle.tree.specs.declared.token.token.Symbol.TheVariants as symbol
use Rattle.tree.specs.declared.token.token.Token.{Token}
use Rattle.tree.specs.Token.Cursor.{after}
use Rattle.expr.specs.Grammar.{sign}
use Rattle.expr.specs.Statements.Grammar.{name_then}
use Rattle.sched.specs.declared.error.Refusal.{Refusal}
use Rattle.sched.specs.declared.keyword.Keyword.{Keyword}
use Rattle.sched.specs.declared.keyword.Keyword.TheVariants as word
use Rattle.sched.specs.declared.schedule.Tail.{Tail}
use Rattle.sched.specs.declared.schedule.Tail.TheVariants.{Guard, Roundup, Shift}
use Rattle.sched.specs.declared.schedule.Home.{Home}
use Rattle.sched.specs.declared.schedule.Fold.{Fold}
use Rattle.sched.specs.declared.schedule.Split.{Split}
use Rattle.sched.specs.declared.schedule.Tile.{Tile}
use Rattle.sched.specs.Words.{keyword_text, is_offered, keyword_named, tail_named}
use Rattle.sched.specs.Schedule.{DirectiveText, compute_root, compute_at, store_at, fold as a_fold, split as a_split, tile as a_tile, reorder, unroll, vectorize, parallel, ScheduledText, Schedule}
use Rattle.sched.specs.Reading.{Parse, expect, name, keyword, tail, name_comma, number_comma, home, fold, split, tile, more_of, names, arguments, directive, scheduled, functions, file}
use Rattle.sched.specs.Grammar.{behind_then, items_then, tail_then, home_then, fold_then, split_then, tile_then, keyword_of, arguments_then, directive_then, scheduled_then, schedule_then, IsGiven, HasParts, IsWhole}

-- ---- words and arguments

keyword_reads : (k : Keyword) (rest : List Token) → is_offered k ≡ true → keyword (name_then (keyword_text k) rest) ≡ Ok (k, rest)
unfolding keyword keyword_named
keyword_reads word.ComputeRoot rest h = refl
keyword_reads word.ComputeAt rest h = refl
keyword_reads word.StoreAt rest h = refl
keyword_reads word.Fold rest h = refl
keyword_reads word.Split rest h = refl
keyword_reads word.Tile rest h = refl
keyword_reads word.Reorder rest h = refl
keyword_reads word.Unroll rest h = refl
keyword_reads word.Vectorize rest h = refl
keyword_reads word.Parallel rest h = refl

tail_reads : (t : Tail) (rest : List Token) → tail (tail_then t rest) ≡ Ok (t, rest)
unfolding tail tail_named
tail_reads Guard rest = refl
tail_reads Roundup rest = refl
tail_reads Shift rest = refl

home_reads : (h : Home) (rest : List Token) → home (home_then h rest) ≡ Ok (h, rest)
unfolding home name_comma expect
home_reads h rest = refl

fold_reads : (f : Fold) (rest : List Token) → fold (fold_then f rest) ≡ Ok (f, rest)
unfolding fold name_comma expect
fold_reads f rest = refl

split_reads : (s : Split) (rest : List Token) → split (split_then s rest) ≡ Ok (s, rest)
unfolding split name_comma number_comma expect
split_reads s rest = rw (tail_reads s.tail rest) refl

tile_reads : (t : Tile) (rest : List Token) → tile (tile_then t rest) ≡ Ok (t, rest)
unfolding tile name_comma number_comma expect
tile_reads t rest = rw (tail_reads t.tail rest) refl

-- ---- lists

abbrev answer : {A : Type 0} → A → List Token → Result (A × List Token) Refusal
answer x rest = Ok (x, rest)

module _ {A : Type 0} (s : Symbol) (item : Parse A) (then : A → List Token → List Token) (P : A → Type 0) (same : (us : List Token) → after s (sign s ∷ us) ≡ Some us)
    (reads : (x : A) (rest : List Token) → P x → item (then x rest) ≡ Ok (x, rest)) where
  more_reads : (n : ℕ) (found xs : List A) (rest : List Token) → length xs ≤ n → AllByRecursion P xs → after s rest ≡ None → more_of s item n found (behind_then s then xs rest) ≡ Ok (found ++ xs, rest)
  unfolding more_of
  more_reads zero found [] rest few all none = rw append-nil refl
  more_reads zero found (x ∷ xs) rest few all none = absurd (omega (arith, few))
  more_reads (suc n) found [] rest few all none = rw (none, append-nil) refl
  more_reads (suc n) found (x ∷ xs) rest few all none =
      let others = behind_then s then xs rest in
      let one : more_of s item (suc n) found (sign s ∷ then x others) ≡ more_of s item n (found ++ x ∷ []) others = rw (same (then x others), reads x others all.0) refl in
      one ∙ more_reads n (found ++ x ∷ []) xs rest (omega (arith, few)) all.1 none ∙ ap (λ (ys : List A). answer ys rest) (append_assoc found (x ∷ []) xs)

-- ---- what is spelled is no shorter than what follows it

abbrev Long : {A : Type 0} → (A → List Token → List Token) → Type 0
Long {A} then = (x : A) (rest : List Token) → length rest ≤ length (then x rest)

behind_long : {A : Type 0} (s : Symbol) (then : A → List Token → List Token) → Long then → (xs : List A) (rest : List Token) → length xs + length rest ≤ length (behind_then s then xs rest)
behind_long s then long [] rest = omega arith
behind_long s then long (x ∷ xs) rest = omega (arith, behind_long s then long xs rest, long x (behind_then s then xs rest))

name_long : Long name_then
name_long x rest = omega arith

items_long : Long (items_then name_then)
items_long [] rest = omega arith
items_long (x ∷ xs) rest = omega (arith, behind_long symbol.Comma name_then name_long xs rest)

arguments_long : Long arguments_then
arguments_long compute_root rest = omega arith
arguments_long (compute_at h) rest = omega arith
arguments_long (store_at h) rest = omega arith
arguments_long (a_fold f) rest = omega arith
arguments_long (a_split s) rest = omega arith
arguments_long (a_tile t) rest = omega arith
arguments_long (reorder xs) rest = items_long xs rest
arguments_long (unroll x) rest = omega arith
arguments_long (vectorize x) rest = omega arith
arguments_long (parallel x) rest = omega arith

directive_long : Long directive_then
directive_long d rest = omega (arith, arguments_long d (sign symbol.RightParen ∷ rest))

scheduled_long : (s : ScheduledText) (rest : List Token) → suc (length rest) ≤ length (scheduled_then s rest)
scheduled_long s rest = omega (arith, behind_long symbol.Dot directive_then directive_long s.directives (sign symbol.Semicolon ∷ rest))

schedule_long : (ss : Schedule) → length ss ≤ length (schedule_then ss)
schedule_long [] = omega arith
schedule_long (s ∷ ss) = omega (arith, scheduled_long s (schedule_then ss), schedule_long ss)

-- ---- directives

all_units : {A : Type 0} (xs : List A) → AllByRecursion (λ _. Unit {0}) xs
all_units [] = tt
all_units (x ∷ xs) = (tt, all_units xs)

name_reads : (x : List ℕ) (rest : List Token) → Unit {0} → name (name_then x rest) ≡ Ok (x, rest)
name_reads x rest _ = refl

names_read : (xs : List (List ℕ)) (rest : List Token) → 0 < length xs → names (items_then name_then xs (sign symbol.RightParen ∷ rest)) ≡ Ok (xs, sign symbol.RightParen ∷ rest)
unfolding names
names_read [] rest some = absurd (omega (arith, some))
names_read (x ∷ xs) rest some =
    let end = sign symbol.RightParen ∷ rest in
    let others = behind_then symbol.Comma name_then xs end in
    more_reads symbol.Comma name name_then (λ _. Unit {0}) (λ us. refl) name_reads (length others) (x ∷ []) xs end (omega (arith, behind_long symbol.Comma name_then name_long xs end)) (all_units xs) refl

arguments_read : (d : DirectiveText) (rest : List Token) → HasParts d → arguments (keyword_of d) (arguments_then d (sign symbol.RightParen ∷ rest)) ≡ Ok (d, sign symbol.RightParen ∷ rest)
unfolding arguments
arguments_read compute_root rest parts = refl
arguments_read (compute_at h) rest parts = rw (home_reads h (sign symbol.RightParen ∷ rest)) refl
arguments_read (store_at h) rest parts = rw (home_reads h (sign symbol.RightParen ∷ rest)) refl
arguments_read (a_fold f) rest parts = rw (fold_reads f (sign symbol.RightParen ∷ rest)) refl
arguments_read (a_split s) rest parts = rw (split_reads s (sign symbol.RightParen ∷ rest)) refl
arguments_read (a_tile t) rest parts = rw (tile_reads t (sign symbol.RightParen ∷ rest)) refl
arguments_read (reorder xs) rest parts = rw (names_read xs rest parts) refl
arguments_read (unroll x) rest parts = refl
arguments_read (vectorize x) rest parts = refl
arguments_read (parallel x) rest parts = refl

directive_reads : (d : DirectiveText) (rest : List Token) → IsGiven d → directive (directive_then d rest) ≡ Ok (d, rest)
unfolding directive expect
directive_reads d rest given =
    let inside = sign symbol.LeftParen ∷ arguments_then d (sign symbol.RightParen ∷ rest) in
    rw (keyword_reads (keyword_of d) inside given.offered, arguments_read d rest given.parts) refl

-- ---- functions

scheduled_reads : (s : ScheduledText) (rest : List Token) → AllByRecursion IsGiven s.directives → scheduled (scheduled_then s rest) ≡ Ok (s, rest)
unfolding scheduled expect
scheduled_reads s rest given =
    let end = sign symbol.Semicolon ∷ rest in
    let all = behind_then symbol.Dot directive_then s.directives end in
    let read = more_reads symbol.Dot directive directive_then IsGiven (λ us. refl) directive_reads (length all) [] s.directives end (omega (arith, behind_long symbol.Dot directive_then directive_long s.directives end)) given refl in
    rw read refl

abbrev done : Schedule → Result Schedule Refusal
done s = Ok s

functions_read : (n : ℕ) (found ss : Schedule) → length ss ≤ n → IsWhole ss → functions n found (schedule_then ss) ≡ Ok (found ++ ss)
unfolding functions
functions_read zero found [] few whole = rw append-nil refl
functions_read zero found (s ∷ ss) few whole = absurd (omega (arith, few))
functions_read (suc n) found [] few whole = rw append-nil refl
functions_read (suc n) found (s ∷ ss) few whole =
    let one : functions (suc n) found (scheduled_then s (schedule_then ss)) ≡ functions n (found ++ s ∷ []) (schedule_then ss) = rw (scheduled_reads s (schedule_then ss) whole.0) refl in
    one ∙ functions_read n (found ++ s ∷ []) ss (omega (arith, few)) whole.1 ∙ ap done (append_assoc found (s ∷ []) ss)

pub file_reads : (s : Schedule) → IsWhole s → file (schedule_then s) ≡ Ok s
unfolding file
file_reads s whole = functions_read (length (schedule_then s)) [] s (schedule_long s) whole
