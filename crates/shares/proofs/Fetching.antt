-- The cells that lines fetch.
use Rattle.std.proofs.Common.{◌≡◌, ℕ, zero, suc, ◌+◌, ◌<◌, ◌≤◌, List, [], ◌∷◌, ◌++◌, length, length-append, map, arith, ap, refl, sym, ◌∙◌, subst, append_assoc, Ok, Err, get_or, drop, drop-cons, true}
use Rattle.std.specs.Prelude.{Result, IsTrue, All, flat_map}
use Rattle.std.specs.List.{AllByRecursion}
use Rattle.std.proofs.lemmas.Grind.{flat_map-append}
use Rattle.std.proofs.lemmas.List.{append-nil, length-map, map-append}
use Rattle.std.proofs.lemmas.List.Elements.{recursion_from_All, All-from_recursion}
use Rattle.plan.specs.declared.stmt.Pick.{Pick}
use Rattle.plan.specs.declared.stmt.Pick.TheVariants.{Min, Max}
use Rattle.plan.specs.Plan.{Statement, Seq, For, Let, First, Guard, Alloc, Fetch, Store, Publish, Statements, Empty, Then, Plan}
use Rattle.plan.specs.Lines.{lines}
use Rattle.plan.specs.Symbols.{Symbols, bind, points}
use Rattle.plan.specs.Semantics.Actions.{after}
use Rattle.plan.specs.Certificate.Cells.{Cell, cell}
use Rattle.soundness.specs.Around.{picked}
use Rattle.headline.specs.Fetched.{fetched_cells, block_fetched_cells}
use Rattle.headline.specs.Numbers.{cell_number, is_cell}
use Rattle.headline.proofs.Parts.{none_fetched}
use Rattle.shares.specs.FetchLines.{FetchLine, fetch_lines, block_fetch_lines}
use Rattle.shares.specs.Lets.{Naming, naming, named}
use Rattle.shares.specs.Layout.{AllCells}
use Rattle.shares.specs.Noted.{told_line}
use Rattle.shares.specs.Read.{line_cells, lines_cells}
use Rattle.shares.specs.Shared.{LineIsShared, LinesAreShared}

pub ok_err : {A B : Type 0} {a : A} {b : B} → ◌≡◌ {A = Result A B} (Ok a) (Err b) → ⊥
ok_err e = cc e

pub none_cells : (p : Plan) (xs : List Cell) → xs ≡ [] → AllCells p xs
none_cells p xs e = subst (AllCells p) (sym e) (λ k d less. absurd (omega (arith, less)))

-- ---- behind a line

one_named : (ls : List Naming) (x : Naming) (s : Symbols) → named (ls ++ x ∷ []) s ≡ bind (named ls s) x.symbol (picked x.pick x.forms (named ls s)) true
one_named [] x s = refl
one_named (l ∷ ls) x s = one_named ls x (bind s l.symbol (picked l.pick l.forms s) true)

none_named : (ls : List Naming) (s : Symbols) → named (ls ++ []) s ≡ named ls s
none_named ls s = ap (λ (ks : List Naming). named ks s) (append-nil ls)

-- behind a statement its line `let`, if it is one, is one more
pub named_after : (ls : List Naming) (a : Statement) (s : Symbols) → named (ls ++ naming a) s ≡ after a (named ls s)
named_after ls (Seq all) s = none_named ls s
named_after ls (For i x kind body) s = none_named ls s
named_after ls (Let i Min forms) s = one_named ls (record { symbol = i; pick = Min; forms = forms }) s
named_after ls (Let i Max forms) s = one_named ls (record { symbol = i; pick = Max; forms = forms }) s
named_after ls (First i a b) s = none_named ls s
named_after ls (Guard low high body) s = none_named ls s
named_after ls (Alloc b f places) s = none_named ls s
named_after ls (Fetch b g region) s = none_named ls s
named_after ls (Store b k at e) s = none_named ls s
named_after ls (Publish c) s = none_named ls s

-- ---- the lines of a body read what it fetches

module _ (p : Plan) (n : ℕ) (s : Symbols) where
  mutual
    pub lines_read : (ls : List Naming) (a : Statement) (line : ℕ) → LineIsShared p a → lines_cells s (fetch_lines n ls a line) ≡ fetched_cells a (named ls s)
    lines_read ls (Seq all) line h = block_read ls all line h
    lines_read ls (For i x kind body) line h = sym (none_fetched (For i x kind body) (named ls s) h)
    lines_read ls (Let i pick forms) line h = refl
    lines_read ls (First i a b) line h = sym (none_fetched (First i a b) (named ls s) h)
    lines_read ls (Guard low high body) line h = sym (none_fetched (Guard low high body) (named ls s) h)
    lines_read ls (Alloc b f places) line h = refl
    lines_read ls (Fetch b g region) line h = append-nil (map (cell g) (points (named ls s) region))
    lines_read ls (Store b k at e) line h = refl
    lines_read ls (Publish c) line h = refl

    block_read : (ls : List Naming) (all : Statements) (line : ℕ) → LinesAreShared p all → lines_cells s (block_fetch_lines n ls all line) ≡ block_fetched_cells all (named ls s)
    block_read ls Empty line h = refl
    block_read ls (Then a rest) line h =
        let later = block_read (ls ++ naming a) rest (line + lines a) h.1 ∙ ap (block_fetched_cells rest) (named_after ls a s) in
        flat_map-append (line_cells s) (fetch_lines n ls a line) (block_fetch_lines n (ls ++ naming a) rest (line + lines a))
        ∙ (λ i. lines_read ls a line h.0 i ++ later i)

-- lines read the same however their numbers are told
pub told_read : (s : Symbols) (xs : List FetchLine) → lines_cells s (map told_line xs) ≡ lines_cells s xs
told_read s [] = refl
told_read s (x ∷ xs) = ap (λ (cells : List Cell). line_cells s x ++ cells) (told_read s xs)

-- ---- parts of lists of cells

all_left : (p : Plan) (xs ys : List Cell) → AllByRecursion (λ x. IsTrue (is_cell p x)) (xs ++ ys) → AllByRecursion (λ x. IsTrue (is_cell p x)) xs × AllByRecursion (λ x. IsTrue (is_cell p x)) ys
all_left p [] ys h = (tt, h)
all_left p (x ∷ xs) ys h = let k = all_left p xs ys h.1 in ((h.0, k.0), k.1)

pub both_parts : (p : Plan) (xs ys : List Cell) → AllCells p (xs ++ ys) → AllCells p xs × AllCells p ys
both_parts p xs ys h =
    let P : Cell → Type 0 = λ x. IsTrue (is_cell p x) in
    let k = all_left p xs ys (recursion_from_All P (xs ++ ys) h) in
    (All-from_recursion P xs k.0, All-from_recursion P ys k.1)

pub parts_counted : (p : Plan) (old now : List ℕ) (line later whole : List Cell) → now ++ map (cell_number p) (line ++ later) ≡ old ++ map (cell_number p) whole → length now + length line ≤ length old + length whole
parts_counted p old now line later whole e =
    let f = cell_number p in
    let a = length-append now (map f (line ++ later)) in
    let b = length-append old (map f whole) in
    let k = length-map (line ++ later) f in
    let l = length-map whole f in
    let m = length-append line later in
    let n = ap length e in
    omega (arith, a, b, k, l, m, n)

-- ---- one line more

pub next_read : (s : Symbols) (xs : List FetchLine) (i : ℕ) (d : FetchLine) → i < length xs → lines_cells s (drop i xs) ≡ line_cells s (get_or xs i d) ++ lines_cells s (drop (i + 1) xs)
next_read s xs i d less =
    let one : suc i ≡ i + 1 = omega arith in
    ap (lines_cells s) (drop-cons xs i d less) ∙ ap (λ (n : ℕ). line_cells s (get_or xs i d) ++ lines_cells s (drop n xs)) one

pub no_lines : (s : Symbols) (xs : List FetchLine) (i : ℕ) → length xs ≤ i → lines_cells s (drop i xs) ≡ []
no_lines s [] zero h = refl
no_lines s [] (suc i) h = refl
no_lines s (x ∷ xs) zero h = absurd (omega (arith, h))
no_lines s (x ∷ xs) (suc i) h = no_lines s xs i (omega (arith, h))
