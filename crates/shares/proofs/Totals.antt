-- What fetch lines count in all.
use Rattle.std.proofs.Common.{◌≡◌, ℕ, zero, suc, ◌+◌, ◌<◌, ◌≤◌, List, [], ◌∷◌, ◌++◌, length, length-append, map, take, get_or, Bool, true, false, arith, ap, refl, sym, ◌∙◌, subst, Option, Some}
use Rattle.std.specs.Prelude.{◌==◌, sum_by, slice_get, if◌then◌else◌, All}
use Rattle.std.specs.List.{AllByRecursion}
use Rattle.std.proofs.lemmas.Bool.Decides.{nat_tests}
use Rattle.std.proofs.lemmas.List.{length-map, take_all}
use Rattle.std.proofs.lemmas.List.Elements.{All-from_recursion, All-push, recursion_from_All}
use Rattle.std.proofs.lemmas.List.Sums.{sum_by-cons, sum_by-append, sum_by_more, sum_by-take-le}
use Rattle.plan.specs.Plan.{Statement, Seq, For, Let, First, Guard, Alloc, Fetch, Store, Publish, Statements, Empty, Then, Group, Plan}
use Rattle.plan.specs.Lines.{lines, body_line}
use Rattle.plan.specs.Symbols.{Symbols, points}
use Rattle.plan.specs.Semantics.Actions.{after}
use Rattle.plan.specs.Certificate.Certificate.{Certificate}
use Rattle.plan.specs.Certificate.Cells.{Piece, cell, grid_symbols, pieces}
use Rattle.headline.specs.Fetched.{fetched_cells, block_fetched_cells}
use Rattle.headline.specs.Numbers.{cell_number}
use Rattle.headline.specs.Work.{of_piece, cells_fetched, group_fetched}
use Rattle.headline.proofs.Parts.{none_fetched}
use Rattle.headline.proofs.Places.{piece_from}
use Rattle.shares.specs.Boxes.{AreLimited, IsLimited}
use Rattle.shares.specs.Counts.{FetchInTheOpen, PassesFetched}
use Rattle.shares.specs.Early.{IsPastFetch}
use Rattle.shares.specs.FetchLines.{FetchLine, fetch_lines, block_fetch_lines, fetch_lines_from, plan_fetch_lines, cells_by, fetched_by, fetched_by_lines}
use Rattle.shares.specs.Lets.{Naming, NamingsAreLimited, naming, named}
use Rattle.shares.specs.Read.{IsOpen}
use Rattle.shares.specs.Has.{fetched_before, AreFew}
use Rattle.shares.specs.Layout.{fetched_list}
use Rattle.shares.specs.Shared.{AreShared, IsLike, LineIsShared, LinesAreShared}
use Rattle.shares.proofs.Fetching.{named_after}
use Rattle.shares.proofs.Groups.{get_some, some_same}
use Rattle.shares.proofs.Noting.{with_nothing}
use Rattle.shares.proofs.Seated.{named_group}

-- ---- sums in either order

zero_sum : {A : Type 0} (f : A → ℕ) → ((x : A) → f x ≡ 0) → (xs : List A) → sum_by f xs ≡ 0
zero_sum f none [] = refl
zero_sum f none (x ∷ xs) = let here = none x in let rest = zero_sum f none xs in let whole = sum_by-cons f x xs in omega (arith, here, rest, whole)

sum_of_two : {A : Type 0} (f g h : A → ℕ) → ((x : A) → h x ≡ f x + g x) → (xs : List A) → sum_by h xs ≡ sum_by f xs + sum_by g xs
sum_of_two f g h both [] = refl
sum_of_two f g h both (x ∷ xs) =
    let here = both x in
    let rest = sum_of_two f g h both xs in
    let a = sum_by-cons f x xs in
    let b = sum_by-cons g x xs in
    let c = sum_by-cons h x xs in
    omega (arith, here, rest, a, b, c)

-- how many cells a piece fetches by some lines
abbrev by : Piece → List FetchLine → ℕ
by j xs = sum_by (λ x. cells_by x j) xs

turned : (js : List Piece) (xs : List FetchLine) → fetched_by_lines js xs ≡ sum_by (λ j. by j xs) js
turned js [] = sym (zero_sum (λ j. by j []) (λ j. refl) js)
turned js (x ∷ xs) =
    let first = sum_by-cons (fetched_by js) x xs in
    let rest = turned js xs in
    let whole = sum_of_two (cells_by x) (λ j. by j xs) (λ j. by j (x ∷ xs)) (λ j. sum_by-cons (λ y. cells_by y j) x xs) js in
    omega (arith, first, rest, whole)

-- ---- one piece

pub chosen : (b : Bool) (n : ℕ) → b ≡ true → (if b then n else 0) ≡ n
chosen b n e = rw e refl

pub left_out : (b : Bool) (n : ℕ) → b ≡ false → (if b then n else 0) ≡ 0
left_out b n e = rw e refl

module _ (p : Plan) (n : ℕ) (j : Piece) where
  mutual
    lines_here : (ls : List Naming) (a : Statement) (line : ℕ) → (n == j.group) ≡ true → LineIsShared p a → by j (fetch_lines n ls a line) ≡ length (fetched_cells a (named ls (grid_symbols j.at)))
    lines_here ls (Seq all) line e h = block_here ls all line e h
    lines_here ls (For i x kind body) line e h = sym (ap length (none_fetched (For i x kind body) (named ls (grid_symbols j.at)) h))
    lines_here ls (Let i pick forms) line e h = refl
    lines_here ls (First i a b) line e h = sym (ap length (none_fetched (First i a b) (named ls (grid_symbols j.at)) h))
    lines_here ls (Guard low high body) line e h = sym (ap length (none_fetched (Guard low high body) (named ls (grid_symbols j.at)) h))
    lines_here ls (Alloc b f places) line e h = refl
    lines_here ls (Fetch b g region) line e h =
        let count = length (points (named ls (grid_symbols j.at)) region) in
        let one = sum_by-cons (λ x. cells_by x j) (record { line = line; group = n; lets = ls; fetched = g; region = region }) [] in
        let is = chosen (n == j.group) count e in
        let row = length-map (points (named ls (grid_symbols j.at)) region) (cell g) in
        omega (arith, one, is, row)
    lines_here ls (Store b k at v) line e h = refl
    lines_here ls (Publish c) line e h = refl

    block_here : (ls : List Naming) (all : Statements) (line : ℕ) → (n == j.group) ≡ true → LinesAreShared p all → by j (block_fetch_lines n ls all line) ≡ length (block_fetched_cells all (named ls (grid_symbols j.at)))
    block_here ls Empty line e h = refl
    block_here ls (Then a rest) line e h =
        let s = named ls (grid_symbols j.at) in
        let whole = sum_by-append (λ x. cells_by x j) (fetch_lines n ls a line) (block_fetch_lines n (ls ++ naming a) rest (line + lines a)) in
        let first = lines_here ls a line e h.0 in
        let more = block_here (ls ++ naming a) rest (line + lines a) e h.1 in
        let long = length-append (fetched_cells a s) (block_fetched_cells rest (after a s)) in
        let same = ap (λ (t : Symbols). length (block_fetched_cells rest t)) (named_after ls a (grid_symbols j.at)) in
        omega (arith, whole, first, more, long, same)

  -- whatever stands in loops, choices and guards, the lines count no more than is fetched
  mutual
    least_here : (ls : List Naming) (a : Statement) (line : ℕ) → (n == j.group) ≡ true → by j (fetch_lines n ls a line) ≤ length (fetched_cells a (named ls (grid_symbols j.at)))
    least_here ls (Seq all) line e = block_least ls all line e
    least_here ls (For i x kind body) line e = let none : by j [] ≡ 0 = refl in omega (arith, none)
    least_here ls (Let i pick forms) line e = let none : by j [] ≡ 0 = refl in omega (arith, none)
    least_here ls (First i a b) line e = let none : by j [] ≡ 0 = refl in omega (arith, none)
    least_here ls (Guard low high body) line e = let none : by j [] ≡ 0 = refl in omega (arith, none)
    least_here ls (Alloc b f places) line e = let none : by j [] ≡ 0 = refl in omega (arith, none)
    least_here ls (Fetch b g region) line e =
        let count = length (points (named ls (grid_symbols j.at)) region) in
        let one = sum_by-cons (λ x. cells_by x j) (record { line = line; group = n; lets = ls; fetched = g; region = region }) [] in
        let is = chosen (n == j.group) count e in
        let row = length-map (points (named ls (grid_symbols j.at)) region) (cell g) in
        omega (arith, one, is, row)
    least_here ls (Store b k at v) line e = let none : by j [] ≡ 0 = refl in omega (arith, none)
    least_here ls (Publish c) line e = let none : by j [] ≡ 0 = refl in omega (arith, none)

    block_least : (ls : List Naming) (all : Statements) (line : ℕ) → (n == j.group) ≡ true → by j (block_fetch_lines n ls all line) ≤ length (block_fetched_cells all (named ls (grid_symbols j.at)))
    block_least ls Empty line e = let none : by j [] ≡ 0 = refl in omega (arith, none)
    block_least ls (Then a rest) line e =
        let s = named ls (grid_symbols j.at) in
        let whole = sum_by-append (λ x. cells_by x j) (fetch_lines n ls a line) (block_fetch_lines n (ls ++ naming a) rest (line + lines a)) in
        let first = least_here ls a line e in
        let more = block_least (ls ++ naming a) rest (line + lines a) e in
        let long = length-append (fetched_cells a s) (block_fetched_cells rest (after a s)) in
        let same = ap (λ (t : Symbols). length (block_fetched_cells rest t)) (named_after ls a (grid_symbols j.at)) in
        omega (arith, whole, first, more, long, same)

  mutual
    lines_there : (ls : List Naming) (a : Statement) (line : ℕ) → (n == j.group) ≡ false → by j (fetch_lines n ls a line) ≡ 0
    lines_there ls (Seq all) line e = block_there ls all line e
    lines_there ls (For i x kind body) line e = refl
    lines_there ls (Let i pick forms) line e = refl
    lines_there ls (First i a b) line e = refl
    lines_there ls (Guard low high body) line e = refl
    lines_there ls (Alloc b f places) line e = refl
    lines_there ls (Fetch b g region) line e =
        let count = length (points (named ls (grid_symbols j.at)) region) in
        let one = sum_by-cons (λ x. cells_by x j) (record { line = line; group = n; lets = ls; fetched = g; region = region }) [] in
        let is = left_out (n == j.group) count e in
        omega (arith, one, is)
    lines_there ls (Store b k at v) line e = refl
    lines_there ls (Publish c) line e = refl

    block_there : (ls : List Naming) (all : Statements) (line : ℕ) → (n == j.group) ≡ false → by j (block_fetch_lines n ls all line) ≡ 0
    block_there ls Empty line e = refl
    block_there ls (Then a rest) line e =
        let whole = sum_by-append (λ x. cells_by x j) (fetch_lines n ls a line) (block_fetch_lines n (ls ++ naming a) rest (line + lines a)) in
        let first = lines_there ls a line e in
        let more = block_there (ls ++ naming a) rest (line + lines a) e in
        omega (arith, whole, first, more)

pub same_number : (m n : ℕ) → m ≡ n → (m == n) ≡ true
same_number m n e = grind (arith, nat_tests)

pub other_number : (m n : ℕ) → (m ≡ n → ⊥) → (m == n) ≡ false
other_number m n e = grind (arith, nat_tests)

module _ (p : Plan) (j : Piece) where
  groups_past : (k : ℕ) (gs : List Group) → j.group < k → by j (fetch_lines_from p k gs) ≡ 0
  groups_past k [] past = refl
  groups_past k (g ∷ gs) past =
      let whole = sum_by-append (λ x. cells_by x j) (fetch_lines k [] g.body (body_line p k)) (fetch_lines_from p (k + 1) gs) in
      let first = lines_there p k j [] g.body (body_line p k) (other_number k j.group (λ e. omega (arith, e, past))) in
      let more = groups_past (k + 1) gs (omega (arith, past)) in
      omega (arith, whole, first, more)

  groups_here : (k : ℕ) (gs : List Group) (m : ℕ) (g : Group) → ((i : ℕ) (h : Group) → slice_get gs i ≡ Some h → LineIsShared p h.body) → j.group ≡ k + m → slice_get gs m ≡ Some g →
      by j (fetch_lines_from p k gs) ≡ length (fetched_cells g.body (grid_symbols j.at))
  groups_here k [] m g all e at = absurd (cc at)
  groups_here k (x ∷ xs) zero g all e at =
      let whole = sum_by-append (λ x. cells_by x j) (fetch_lines k [] x.body (body_line p k)) (fetch_lines_from p (k + 1) xs) in
      let first = lines_here p k j [] x.body (body_line p k) (same_number k j.group (omega (arith, e))) (all 0 x refl) in
      let more = groups_past (k + 1) xs (omega (arith, e)) in
      let same = ap (λ (h : Group). length (fetched_cells h.body (grid_symbols j.at))) (some_same x g at) in
      omega (arith, whole, first, more, same)
  groups_here k (x ∷ xs) (suc m) g all e at =
      let whole = sum_by-append (λ x. cells_by x j) (fetch_lines k [] x.body (body_line p k)) (fetch_lines_from p (k + 1) xs) in
      let first = lines_there p k j [] x.body (body_line p k) (other_number k j.group (λ same. omega (arith, e, same))) in
      let more = groups_here (k + 1) xs m g (λ i h. all (suc i) h) (omega (arith, e)) at in
      omega (arith, whole, first, more)

  groups_least : (k : ℕ) (gs : List Group) (m : ℕ) (g : Group) → j.group ≡ k + m → slice_get gs m ≡ Some g → by j (fetch_lines_from p k gs) ≤ length (fetched_cells g.body (grid_symbols j.at))
  groups_least k [] m g e at = absurd (cc at)
  groups_least k (x ∷ xs) zero g e at =
      let whole = sum_by-append (λ x. cells_by x j) (fetch_lines k [] x.body (body_line p k)) (fetch_lines_from p (k + 1) xs) in
      let first = least_here p k j [] x.body (body_line p k) (same_number k j.group (omega (arith, e))) in
      let more = groups_past (k + 1) xs (omega (arith, e)) in
      let same = ap (λ (h : Group). length (fetched_cells h.body (grid_symbols j.at))) (some_same x g at) in
      omega (arith, whole, first, more, same)
  groups_least k (x ∷ xs) (suc m) g e at =
      let whole = sum_by-append (λ x. cells_by x j) (fetch_lines k [] x.body (body_line p k)) (fetch_lines_from p (k + 1) xs) in
      let first = lines_there p k j [] x.body (body_line p k) (other_number k j.group (λ same. omega (arith, e, same))) in
      let more = groups_least (k + 1) xs m g (omega (arith, e)) at in
      omega (arith, whole, first, more)

module _ (p : Plan) where
  piece_least : (i : ℕ) (j : Piece) → slice_get (pieces p) i ≡ Some j → by j (plan_fetch_lines p) ≤ length (fetched_list p i)
  piece_least i j at =
      let k = piece_from p i j at in
      let here = groups_least p j 0 p.groups j.group k.g (omega arith) k.group in
      let cells = ap (λ (o : Option Group). length (group_fetched o j)) k.group in
      let list = ap (λ (o : Option Piece). length (of_piece o [] (λ x. map (cell_number p) (cells_fetched p x)))) at in
      let long = length-map (cells_fetched p j) (cell_number p) in
      omega (arith, here, cells, list, long)

  abbrev no_piece : Piece
  no_piece = record { group = 0; at = [] }

  pieces_least : (n : ℕ) → n ≤ length (pieces p) → sum_by (λ j. by j (plan_fetch_lines p)) (take n (pieces p)) ≤ fetched_before p n
  pieces_least zero less = omega arith
  pieces_least (suc n) less =
      let f : Piece → ℕ = λ j. by j (plan_fetch_lines p) in
      let one : n + 1 ≡ suc n = omega arith in
      let within : n < length (pieces p) = omega (arith, less) in
      let before = pieces_least n (omega (arith, less)) in
      let this = piece_least n (get_or (pieces p) n no_piece) (get_some (pieces p) n no_piece within) in
      let more = sum_by_more f (pieces p) n no_piece within in
      let same = ap (λ (m : ℕ). sum_by f (take m (pieces p))) one in
      omega (arith, before, this, more, same)

  -- what the fetch lines count is fetched
  pub least_fetched : fetched_by_lines (pieces p) (plan_fetch_lines p) ≤ fetched_before p (length (pieces p))
  least_fetched =
      let f : Piece → ℕ = λ j. by j (plan_fetch_lines p) in
      let most = pieces_least (length (pieces p)) (omega arith) in
      let whole = ap (sum_by f) (take_all (length (pieces p)) (pieces p) (omega arith)) in
      let same = turned (pieces p) (plan_fetch_lines p) in
      omega (arith, most, whole, same)

-- where too many cells are counted there are not few
pub past_many : (p : Plan) (c : Certificate) (x : FetchLine) → IsPastFetch p x → ¬ AreFew p c
past_many p c x h few =
    let all = least_fetched p in
    let most = sum_by-take-le (fetched_by (pieces p)) (plan_fetch_lines p) (h.place + 1) in
    let past = h.passed in
    let fits = few.fetched in
    omega (arith, all, most, past, fits)

module _ (p : Plan) (bodies : FetchInTheOpen p) where
  one_piece : (i : ℕ) (j : Piece) → slice_get (pieces p) i ≡ Some j → by j (plan_fetch_lines p) ≡ length (fetched_list p i)
  one_piece i j at =
      let k = piece_from p i j at in
      let here = groups_here p j 0 p.groups j.group k.g bodies (omega arith) k.group in
      let cells = ap (λ (o : Option Group). length (group_fetched o j)) k.group in
      let list = ap (λ (o : Option Piece). length (of_piece o [] (λ x. map (cell_number p) (cells_fetched p x)))) at in
      let long = length-map (cells_fetched p j) (cell_number p) in
      omega (arith, here, cells, list, long)

  abbrev none : Piece
  none = record { group = 0; at = [] }

  pieces_counted : (n : ℕ) → n ≤ length (pieces p) → fetched_before p n ≡ sum_by (λ j. by j (plan_fetch_lines p)) (take n (pieces p))
  pieces_counted zero less = refl
  pieces_counted (suc n) less =
      let f : Piece → ℕ = λ j. by j (plan_fetch_lines p) in
      let one : n + 1 ≡ suc n = omega arith in
      let within : n < length (pieces p) = omega (arith, less) in
      let before = pieces_counted n (omega (arith, less)) in
      let this = one_piece n (get_or (pieces p) n none) (get_some (pieces p) n none within) in
      let more = sum_by_more f (pieces p) n none within in
      let same = ap (λ (m : ℕ). sum_by f (take m (pieces p))) one in
      omega (arith, before, this, more, same)

  -- all that pieces fetch is what the fetch lines count
  pub all_fetched : fetched_before p (length (pieces p)) ≡ fetched_by_lines (pieces p) (plan_fetch_lines p)
  all_fetched =
      let f : Piece → ℕ = λ j. by j (plan_fetch_lines p) in
      pieces_counted (length (pieces p)) (omega arith) ∙ ap (sum_by f) (take_all (length (pieces p)) (pieces p) (omega arith)) ∙ sym (turned (pieces p) (plan_fetch_lines p))

-- where the limit of fetched cells is passed there are not few
pub fetched_past : (p : Plan) (c : Certificate) (x : FetchLine) → PassesFetched p c x → ¬ AreFew p c
fetched_past p c x h few =
    let all = all_fetched p h.bodies in
    let most = sum_by-take-le (fetched_by (pieces p)) (plan_fetch_lines p) (h.place + 1) in
    let past = h.passed in
    let fits = few.fetched in
    omega (arith, all, most, past, fits)

-- ---- the lines as they are read

joined : (P : FetchLine → Type 0) (xs ys : List FetchLine) → AllByRecursion P xs → AllByRecursion P ys → AllByRecursion P (xs ++ ys)
joined P [] ys h k = k
joined P (x ∷ xs) ys h k = (h.0, joined P xs ys h.1 k)

firsts : (P Q : FetchLine → Type 0) (xs : List FetchLine) → AllByRecursion (λ x. P x × Q x) xs → AllByRecursion P xs
firsts P Q [] h = tt
firsts P Q (x ∷ xs) h = (h.0.0, firsts P Q xs h.1)

-- a line of the group of this number
abbrev pub IsOpenIn : Plan → ℕ → FetchLine → Type 0
IsOpenIn p n x = IsOpen p x × (x.group ≡ n)

lets_push : (ls : List Naming) (a : Statement) (p : Plan) → LineIsShared p a → NamingsAreLimited ls → NamingsAreLimited (ls ++ naming a)
lets_push ls (Let i pick forms) p h k = All-push (λ x. AreLimited x.forms) ls (record { symbol = i; pick = pick; forms = forms }) k h
lets_push ls (Seq all) p h k = subst NamingsAreLimited (with_nothing ls) k
lets_push ls (For i x kind body) p h k = subst NamingsAreLimited (with_nothing ls) k
lets_push ls (First i a b) p h k = subst NamingsAreLimited (with_nothing ls) k
lets_push ls (Guard low high body) p h k = subst NamingsAreLimited (with_nothing ls) k
lets_push ls (Alloc b f places) p h k = subst NamingsAreLimited (with_nothing ls) k
lets_push ls (Fetch b g region) p h k = subst NamingsAreLimited (with_nothing ls) k
lets_push ls (Store b j at v) p h k = subst NamingsAreLimited (with_nothing ls) k
lets_push ls (Publish c) p h k = subst NamingsAreLimited (with_nothing ls) k

mutual
  pub open_lines : (p : Plan) (n : ℕ) (ls : List Naming) (a : Statement) (line : ℕ) → NamingsAreLimited ls → LineIsShared p a → AllByRecursion (IsOpenIn p n) (fetch_lines n ls a line)
  open_lines p n ls (Seq all) line k h = open_block p n ls all line k h
  open_lines p n ls (For i x kind body) line k h = tt
  open_lines p n ls (Let i pick forms) line k h = tt
  open_lines p n ls (First i a b) line k h = tt
  open_lines p n ls (Guard low high body) line k h = tt
  open_lines p n ls (Alloc b f places) line k h = tt
  open_lines p n ls (Fetch b g region) line k h = ((record { region = h; lets = k }, refl), tt)
  open_lines p n ls (Store b j at v) line k h = tt
  open_lines p n ls (Publish c) line k h = tt

  open_block : (p : Plan) (n : ℕ) (ls : List Naming) (all : Statements) (line : ℕ) → NamingsAreLimited ls → LinesAreShared p all → AllByRecursion (IsOpenIn p n) (block_fetch_lines n ls all line)
  open_block p n ls Empty line k h = tt
  open_block p n ls (Then a rest) line k h =
      joined (IsOpenIn p n) (fetch_lines n ls a line) (block_fetch_lines n (ls ++ naming a) rest (line + lines a)) (open_lines p n ls a line k h.0) (open_block p n (ls ++ naming a) rest (line + lines a) (lets_push ls a p h.0 k) h.1)

pub no_lets : NamingsAreLimited []
no_lets k d less = absurd (omega (arith, less))

open_groups : (p : Plan) (k : ℕ) (gs : List Group) → ((i : ℕ) (h : Group) → slice_get gs i ≡ Some h → LineIsShared p h.body) → AllByRecursion (IsOpen p) (fetch_lines_from p k gs)
open_groups p k [] all = tt
open_groups p k (g ∷ gs) all =
    let here = firsts (IsOpen p) (λ x. x.group ≡ k) (fetch_lines k [] g.body (body_line p k)) (open_lines p k [] g.body (body_line p k) no_lets (all 0 g refl)) in
    joined (IsOpen p) (fetch_lines k [] g.body (body_line p k)) (fetch_lines_from p (k + 1) gs) here (open_groups p (k + 1) gs (λ i h. all (suc i) h))

pub fetch_open : (p : Plan) (c : Certificate) → AreShared p c → FetchInTheOpen p
fetch_open p c shared n g at = (shared.groups n g at).body

pub lines_open : (p : Plan) (c : Certificate) → AreShared p c → All (IsOpen p) (plan_fetch_lines p)
lines_open p c shared = All-from_recursion (IsOpen p) (plan_fetch_lines p) (open_groups p 0 p.groups (fetch_open p c shared))

pub region_of_open : (p : Plan) (x : FetchLine) → IsOpen p x → IsLimited x.region
region_of_open p x h = (named_group (slice_get p.groups x.fetched) (λ g. IsLike x.region (length g.region)) h.region).2.0

-- ---- the lines of one group among those of all

here_of : (P : FetchLine → Type 0) (xs ys : List FetchLine) → AllByRecursion P (xs ++ ys) → AllByRecursion P xs × AllByRecursion P ys
here_of P [] ys h = (tt, h)
here_of P (x ∷ xs) ys h = let k = here_of P xs ys h.1 in ((h.0, k.0), k.1)

of_groups : (p : Plan) (P : FetchLine → Type 0) (k : ℕ) (gs : List Group) (m n : ℕ) (g : Group) → n ≡ k + m → slice_get gs m ≡ Some g → AllByRecursion P (fetch_lines_from p k gs) → AllByRecursion P (fetch_lines n [] g.body (body_line p n))
of_groups p P k [] m n g e at h = absurd (cc at)
of_groups p P k (x ∷ xs) zero n g e at h =
    let first = (here_of P (fetch_lines k [] x.body (body_line p k)) (fetch_lines_from p (k + 1) xs) h).0 in
    let here : k ≡ n = omega (arith, e) in
    subst (λ (i : ℕ). AllByRecursion P (fetch_lines i [] g.body (body_line p i))) here (subst (λ (y : Group). AllByRecursion P (fetch_lines k [] y.body (body_line p k))) (some_same x g at) first)
of_groups p P k (x ∷ xs) (suc m) n g e at h =
    of_groups p P (k + 1) xs m n g (omega (arith, e)) at (here_of P (fetch_lines k [] x.body (body_line p k)) (fetch_lines_from p (k + 1) xs) h).1

pub of_group_lines : (p : Plan) (P : FetchLine → Type 0) (n : ℕ) (g : Group) → slice_get p.groups n ≡ Some g → All P (plan_fetch_lines p) → AllByRecursion P (fetch_lines n [] g.body (body_line p n))
of_group_lines p P n g at h = of_groups p P 0 p.groups n n g (omega arith) at (recursion_from_All P (plan_fetch_lines p) h)
