-- The buffers of a block, one statement more.
use Rattle.std.proofs.Common.{◌≡◌, ℕ, ◌+◌, ◌<◌, Bool, true, false, List, [], ◌∷◌, ◌++◌, length, take, drop, drop-cons, add-one, suc, ◌||◌, get_or, refl, sym, ap, ◌∙◌, arith, append_assoc}
use Rattle.std.proofs.lemmas.List.{take_more, map-append}
use Rattle.std.proofs.lemmas.List.Elements.{filter-append}
use Rattle.std.proofs.lemmas.List.Sums.{sum_by-append}
use Rattle.std.proofs.lemmas.List.Folds.{list_any-append}
use Rattle.std.specs.List.{list_any}
use Rattle.std.specs.Prelude.{cond, filter, flat_map, string_bytes, sum_by}
use Rattle.std.proofs.lemmas.Grind.{flat_map-append}
use Rattle.meaning.specs.Names.{same_name}
use Rattle.plan.specs.declared.stmt.Stmt.{Stmt}
use Rattle.plan.specs.declared.plan.Group.{Group as CodeGroup}
use Rattle.plan.specs.Certificate.Cells.{group_pieces, piece_count}
use Rattle.plan.specs.Plan.{Group, Statement, Statements, Then, block}
use Rattle.plan.specs.View.{group_of, statement_of}
use Rattle.plan.specs.Lists.{list_groups, list_statements}
use Rattle.plan.specs.Semantics.Setting.{Buffer}
use Rattle.report.specs.Memory.{block_buffers, buffers, group_buffers, has_function, place_count, places_of}

block_buffers-append : (xs ys : List Statement) → block_buffers (block (xs ++ ys)) ≡ block_buffers (block xs) ++ block_buffers (block ys)
block_buffers-append [] ys = refl
block_buffers-append (x ∷ xs) ys = ap (λ (l : List Buffer). buffers x ++ l) (block_buffers-append xs ys) ∙ sym (append_assoc (buffers x) _ _)

more_buffers : (xs : List Stmt) (i : ℕ) (x : Stmt) → i < length xs → x ≡ get_or xs i x →
    block_buffers (block (list_statements (take (i + 1) xs))) ≡ block_buffers (block (list_statements (take i xs))) ++ (buffers (statement_of x) ++ [])
more_buffers xs i x h is =
    ap (λ l. block_buffers (block (list_statements l))) (take_more xs i x h ∙ ap (λ y. take i xs ++ y ∷ []) (sym is))
    ∙ ap (λ l. block_buffers (block l)) (map-append statement_of (take i xs) (x ∷ []))
    ∙ block_buffers-append (list_statements (take i xs)) (statement_of x ∷ [])

pub places_append : (f : List ℕ) (xs ys : List Buffer) → places_of f (xs ++ ys) ≡ places_of f xs + places_of f ys
places_append f xs ys =
    ap (sum_by (λ (b : Buffer). place_count b.places)) (filter-append (λ (b : Buffer). same_name b.function f) xs ys)
    ∙ sum_by-append (λ (b : Buffer). place_count b.places) (filter (λ (b : Buffer). same_name b.function f) xs) (filter (λ (b : Buffer). same_name b.function f) ys)

pub more_places : (f : List ℕ) (xs : List Stmt) (i : ℕ) (x : Stmt) → i < length xs → x ≡ get_or xs i x →
    places_of f (block_buffers (block (list_statements (take (i + 1) xs)))) ≡ places_of f (block_buffers (block (list_statements (take i xs)))) + places_of f (buffers (statement_of x))
more_places f xs i x h is =
    ap (places_of f) (more_buffers xs i x h is)
    ∙ places_append f (block_buffers (block (list_statements (take i xs)))) (buffers (statement_of x) ++ [])
    ∙ ap (λ (n : ℕ). places_of f (block_buffers (block (list_statements (take i xs)))) + n) (places_append f (buffers (statement_of x)) [] ∙ omega arith)

-- the statements of a block from the i-th on
abbrev pub from : List Stmt → ℕ → Statements
from all i = block (list_statements (drop i all))

pub from_more : (all : List Stmt) (i : ℕ) (x : Stmt) → i < length all → x ≡ get_or all i x → from all i ≡ Then (statement_of x) (from all (i + 1))
from_more all i x lt is =
    ap (λ (xs : List Stmt). block (list_statements xs)) (drop-cons all i x lt ∙ ap (λ (y : Stmt). y ∷ drop (suc i) all) (sym is))
    ∙ ap (λ (n : ℕ). Then (statement_of x) (from all n)) (sym (add-one i))

-- whether some buffer is the function's
abbrev pub some_of : List ℕ → List Buffer → Bool
some_of f bs = list_any (λ (b : Buffer). same_name b.function f) bs

pub any_more : (f : List ℕ) (all : List Stmt) (i : ℕ) (x : Stmt) → i < length all → x ≡ get_or all i x →
    some_of f (block_buffers (from all i)) ≡ (some_of f (buffers (statement_of x)) || some_of f (block_buffers (from all (i + 1))))
any_more f all i x lt is =
    ap (λ b. some_of f (block_buffers b)) (from_more all i x lt is)
    ∙ list_any-append (λ (b : Buffer). same_name b.function f) (buffers (statement_of x)) (block_buffers (from all (i + 1)))

pub found_here : (f : List ℕ) (all : List Stmt) (i : ℕ) (x : Stmt) (whole : Bool) → i < length all → x ≡ get_or all i x →
    whole ≡ some_of f (block_buffers (from all i)) → some_of f (buffers (statement_of x)) ≡ true → true ≡ whole
found_here f all i x whole lt is w t =
    sym (w ∙ any_more f all i x lt is ∙ ap (λ u. u || some_of f (block_buffers (from all (i + 1)))) t)

pub found_later : (f : List ℕ) (all : List Stmt) (i : ℕ) (x : Stmt) (whole : Bool) → i < length all → x ≡ get_or all i x →
    whole ≡ some_of f (block_buffers (from all i)) → some_of f (buffers (statement_of x)) ≡ false → whole ≡ some_of f (block_buffers (from all (i + 1)))
found_later f all i x whole lt is w t =
    w ∙ any_more f all i x lt is ∙ ap (λ u. u || some_of f (block_buffers (from all (i + 1)))) t

-- ---- groups

pub more_private : (f : List ℕ) (gs : List CodeGroup) (i : ℕ) (g : CodeGroup) → i < length gs → g ≡ get_or gs i g →
    places_of f (flat_map group_buffers (list_groups (take (i + 1) gs))) ≡ places_of f (flat_map group_buffers (list_groups (take i gs))) + places_of f (buffers (statement_of g.body))
more_private f gs i g h is =
    ap (λ l. places_of f (flat_map group_buffers (list_groups l))) (take_more gs i g h ∙ ap (λ y. take i gs ++ y ∷ []) (sym is))
    ∙ ap (λ l. places_of f (flat_map group_buffers l)) (map-append group_of (take i gs) (g ∷ []))
    ∙ ap (places_of f) (flat_map-append group_buffers (list_groups (take i gs)) (group_of g ∷ []))
    ∙ places_append f (flat_map group_buffers (list_groups (take i gs))) (buffers (statement_of g.body) ++ [])
    ∙ ap (λ (n : ℕ). places_of f (flat_map group_buffers (list_groups (take i gs))) + n) (places_append f (buffers (statement_of g.body)) [] ∙ omega arith)

-- the pieces of the groups of a function
abbrev pub pieces_in : List ℕ → List CodeGroup → ℕ
pieces_in f gs = sum_by group_pieces (filter (λ (g : Group). same_name g.function f) (list_groups gs))

one_pieces : (f : List ℕ) (gs : List CodeGroup) (i : ℕ) (g : CodeGroup) → i < length gs → g ≡ get_or gs i g →
    pieces_in f (take (i + 1) gs) ≡ pieces_in f (take i gs) + pieces_in f (g ∷ [])
one_pieces f gs i g h is =
    ap (pieces_in f) (take_more gs i g h ∙ ap (λ y. take i gs ++ y ∷ []) (sym is))
    ∙ ap (λ l. sum_by group_pieces (filter (λ (x : Group). same_name x.function f) l)) (map-append group_of (take i gs) (g ∷ []))
    ∙ ap (sum_by group_pieces) (filter-append (λ (x : Group). same_name x.function f) (list_groups (take i gs)) (group_of g ∷ []))
    ∙ sum_by-append group_pieces (filter (λ (x : Group). same_name x.function f) (list_groups (take i gs))) (filter (λ (x : Group). same_name x.function f) (group_of g ∷ []))

pub more_pieces : (f : List ℕ) (gs : List CodeGroup) (i : ℕ) (g : CodeGroup) → i < length gs → g ≡ get_or gs i g → same_name (string_bytes g.function) f ≡ true →
    pieces_in f (take (i + 1) gs) ≡ pieces_in f (take i gs) + piece_count g.grid.items
more_pieces f gs i g h is t =
    one_pieces f gs i g h is ∙ ap (λ (n : ℕ). pieces_in f (take i gs) + n) (ap (λ (b : Bool). sum_by group_pieces (cond b (group_of g ∷ []) [])) t ∙ omega arith)

pub no_pieces : (f : List ℕ) (gs : List CodeGroup) (i : ℕ) (g : CodeGroup) → i < length gs → g ≡ get_or gs i g → same_name (string_bytes g.function) f ≡ false →
    pieces_in f (take (i + 1) gs) ≡ pieces_in f (take i gs)
no_pieces f gs i g h is t =
    one_pieces f gs i g h is ∙ ap (λ (n : ℕ). pieces_in f (take i gs) + n) (ap (λ (b : Bool). sum_by group_pieces (cond b (group_of g ∷ []) [])) t) ∙ omega arith

groups_more : (f : List ℕ) (gs : List CodeGroup) (i : ℕ) (g : CodeGroup) → i < length gs → g ≡ get_or gs i g →
    list_any (has_function f) (list_groups (drop i gs)) ≡ (has_function f (group_of g) || list_any (has_function f) (list_groups (drop (i + 1) gs)))
groups_more f gs i g lt is =
    ap (λ (xs : List CodeGroup). list_any (has_function f) (list_groups xs)) (drop-cons gs i g lt ∙ ap (λ (y : CodeGroup). y ∷ drop (suc i) gs) (sym is))
    ∙ ap (λ (n : ℕ). has_function f (group_of g) || list_any (has_function f) (list_groups (drop n gs))) (sym (add-one i))

pub group_here : (f : List ℕ) (gs : List CodeGroup) (i : ℕ) (g : CodeGroup) (whole : Bool) → i < length gs → g ≡ get_or gs i g →
    whole ≡ list_any (has_function f) (list_groups (drop i gs)) → has_function f (group_of g) ≡ true → true ≡ whole
group_here f gs i g whole lt is w t =
    sym (w ∙ groups_more f gs i g lt is ∙ ap (λ u. u || list_any (has_function f) (list_groups (drop (i + 1) gs))) t)

pub group_later : (f : List ℕ) (gs : List CodeGroup) (i : ℕ) (g : CodeGroup) (whole : Bool) → i < length gs → g ≡ get_or gs i g →
    whole ≡ list_any (has_function f) (list_groups (drop i gs)) → has_function f (group_of g) ≡ false → whole ≡ list_any (has_function f) (list_groups (drop (i + 1) gs))
group_later f gs i g whole lt is w t =
    w ∙ groups_more f gs i g lt is ∙ ap (λ u. u || list_any (has_function f) (list_groups (drop (i + 1) gs))) t
