-- The rows of a plan's functions, one function more.
use Rattle.std.proofs.Common.{◌≡◌, ℕ, zero, suc, ◌+◌, Bool, true, false, List, [], ◌∷◌, ◌++◌, drop, filter, map, cond, sym, ap, ◌∙◌, add-one, append_assoc, Some}
use Rattle.std.specs.Prelude.{slice_get}
use Rattle.std.specs.declared.string.String.{String}
use Rattle.std.specs.Global.{Global}
use Rattle.std.proofs.lemmas.List.{map-append}
use Rattle.algo.specs.declared.function.Function.{Function as Held}
use Rattle.algo.specs.Parts.{function_of}
use Rattle.meaning.specs.Algorithm.{Function}
use Rattle.plan.specs.Plan.{Plan}
use Rattle.plan.specs.Certificate.Certificate.{Certificate}
use Rattle.report.specs.declared.costs.FunctionCost.{FunctionCost}
use Rattle.report.specs.Costs.{is_stored, row, Row}
use Rattle.report.specs.View.{row_of}

abbrev pub Entry : Type 0
Entry = String Global × Held

drop_at : (es : List Entry) (k : ℕ) (e : Entry) → slice_get es k ≡ Some e → drop k es ≡ e ∷ drop (suc k) es
drop_at [] zero e h = absurd (cc)
drop_at [] (suc k) e h = absurd (cc)
drop_at (x ∷ xs) zero e h = let f : x ≡ e = cc in ap (λ (y : Entry). y ∷ xs) f
drop_at (x ∷ xs) (suc k) e h = drop_at xs k e h

abbrev pub names : List Entry → List (List ℕ)
names es = map (λ f. Function.name f) (map function_of es)

abbrev pub rows_from : Plan → Certificate → List Entry → ℕ → List Row
rows_from p c es k = map (row p c) (filter (is_stored p) (names (drop k es)))

pub next_rows : (p : Plan) (c : Certificate) (es : List Entry) (k : ℕ) (e : Entry) → slice_get es k ≡ Some e →
    rows_from p c es k
    ≡ map (row p c) (cond (is_stored p (function_of e).name) ((function_of e).name ∷ filter (is_stored p) (names (drop (k + 1) es))) (filter (is_stored p) (names (drop (k + 1) es))))
next_rows p c es k e at =
    ap (λ (l : List Entry). map (row p c) (filter (is_stored p) (names l))) (drop_at es k e at)
    ∙ ap (λ (n : ℕ). map (row p c) (cond (is_stored p (function_of e).name) ((function_of e).name ∷ filter (is_stored p) (names (drop n es)))
    (filter (is_stored p) (names (drop n es))))) (sym (add-one k))

pub one_row : (p : Plan) (c : Certificate) (es : List Entry) (k : ℕ) (e : Entry) (old new : List FunctionCost) (cost : FunctionCost) (all : List Row)
    → slice_get es k ≡ Some e → is_stored p (function_of e).name ≡ true
    → row_of cost ≡ row p c (function_of e).name → new ≡ old ++ cost ∷ [] → map row_of old ++ rows_from p c es k ≡ all → map row_of new ++ rows_from p c es (k + 1) ≡ all
one_row p c es k e old new cost all at there is ne h =
    let rest = rows_from p c es (k + 1) in
    let f : rows_from p c es k ≡ row p c (function_of e).name ∷ rest =
    next_rows p c es k e at
    ∙ ap (λ (b : Bool). map (row p c) (cond b ((function_of e).name ∷ filter (is_stored p) (names (drop (k + 1) es))) (filter (is_stored p) (names (drop (k + 1) es))))) there in
    ap (λ (l : List FunctionCost). map row_of l ++ rest) ne
    ∙ ap (λ (l : List Row). l ++ rest) (map-append row_of old (cost ∷ []))
    ∙ append_assoc (map row_of old) (row_of cost ∷ []) rest
    ∙ ap (λ (r : Row). map row_of old ++ r ∷ rest) is
    ∙ ap (λ (l : List Row). map row_of old ++ l) (sym f)
    ∙ h

pub no_row : (p : Plan) (c : Certificate) (es : List Entry) (k : ℕ) (e : Entry) (old new : List FunctionCost) (all : List Row)
    → slice_get es k ≡ Some e → is_stored p (function_of e).name ≡ false → new ≡ old
    → map row_of old ++ rows_from p c es k ≡ all → map row_of new ++ rows_from p c es (k + 1) ≡ all
no_row p c es k e old new all at there same h =
    let f : rows_from p c es k ≡ rows_from p c es (k + 1) =
    next_rows p c es k e at
    ∙ ap (λ (b : Bool). map (row p c) (cond b ((function_of e).name ∷ filter (is_stored p) (names (drop (k + 1) es))) (filter (is_stored p) (names (drop (k + 1) es))))) there in
    ap (λ (l : List FunctionCost). map row_of l ++ rows_from p c es (k + 1)) same ∙ ap (λ (l : List Row). map row_of old ++ l) (sym f) ∙ h
