-- The algorithm that a text says has a canonical text.
use Rattle.std.proofs.Common.{◌≡◌, ℕ, zero, suc, true, false, Bool, ◌&&◌, List, [], ◌∷◌, ◌++◌, map, fold, refl, sym, ap, subst, ◌∙◌}
use Rattle.std.specs.Prelude.{nat_le, ℤ}
use Rattle.std.specs.List.{list_all, flat_map}
use Rattle.tree.specs.declared.token.token.Symbol.TheVariants as symbol
use Rattle.tree.specs.declared.token.token.Word.TheVariants as word
use Rattle.tree.specs.declared.token.token.Token.{Token}
use Rattle.tree.specs.declared.token.token.Token.TheVariants as token
use Rattle.tree.specs.Token.Cursor.{kinds}
use Rattle.tree.specs.Term.{Term, indices}
use Rattle.meaning.specs.Algorithm.{Range, Change, Function, Algorithm}
use Rattle.expr.specs.Grammar.{Sums, sign, sums_then, sums_term}
use Rattle.expr.specs.Statements.Text.{BoundText, DomainText, FunctionText, UpdateText, StatementText, function, update, FileText, signed, statement_with, file_with}
use Rattle.expr.specs.Statements.Grammar.{others_then, items_then, name_then, number_then, signed_then, bound_then, domain_then, size_then, over_then}
use Rattle.expr.specs.Statements.Grammar.{right_side_then, input_then, statement_then, statements_then, output_then, file_then}
use Rattle.algo.specs.Saying.{range_said, change_said, function_said, with_update, after_statement, functions_said, says}
use Rattle.algo.specs.Refusal.{IsAlgorithmText}
use Rattle.spelling.specs.Words.Fitting.{is_name}
use Rattle.spelling.proofs.Runs.{both}
use Rattle.printer.specs.Spacing.{has_text}
use Rattle.printer.specs.Tokens.{name_token, number_token, one_name, one_number, behind_comma, listed, term_tokens, row_tokens, others_tokens}
use Rattle.printer.specs.Tokens.{size_tokens, bound_tokens, bounds_tokens, range_tokens, right_side_tokens, pure_tokens, over_tokens, left_tokens}
use Rattle.printer.specs.Tokens.{change_tokens, function_tokens, output_tokens, input_tokens, algorithm_tokens}
use Rattle.printer.proofs.Lists.{flat_map-append}
use Rattle.printer.proofs.Derivations.{split}
use Rattle.printer.proofs.Spellable.{is_read, all_read}
use Rattle.printer.proofs.Converse.{Have, AreRead, join, name_has, sums_have}

-- each token of the algorithm's text has a text
abbrev pub algorithm_has_text : Algorithm → Bool
algorithm_has_text a = list_all has_text (algorithm_tokens a)

-- ---- lists

module _ {X : Type 0} (rule : X → List Token → List Token) (item : X → List Token) (one : (x : X) (rest : List Token) → AreRead (rule x rest) → Have (item x) × AreRead rest) where
  others_have : (xs : List X) (rest : List Token) → AreRead (others_then rule xs rest) → Have (flat_map (behind_comma item) xs) × AreRead rest
  others_have [] rest h = (refl, h)
  others_have (x ∷ xs) rest h =
      let a = one x (others_then rule xs rest) h in
      let b = others_have xs rest a.1 in
      (join (item x) (flat_map (behind_comma item) xs) a.0 b.0, b.1)

  pub items_have : (xs : List X) (rest : List Token) → AreRead (items_then rule xs rest) → Have (listed item xs) × AreRead rest
  items_have [] rest h = (refl, h)
  items_have (x ∷ xs) rest h =
      let a = one x (others_then rule xs rest) h in
      let b = others_have xs rest a.1 in
      (join (item x) (flat_map (behind_comma item) xs) a.0 b.0, b.1)

one_name_has : (x : List ℕ) → is_name x ≡ true → Have (one_name x)
one_name_has x h = rw (name_has x h) refl

name_read : (x : List ℕ) (rest : List Token) → AreRead (name_then x rest) → Have (one_name x) × AreRead rest
name_read x rest h = let a = both (is_name x) (list_all is_read rest) h in (one_name_has x a.0, a.1)

number_have : (n : ℕ) → nat_le n 2147483647 ≡ true → Have (one_number n)
number_have n h = rw h refl

number_read : (n : ℕ) (rest : List Token) → AreRead (number_then n rest) → Have (one_number n) × AreRead rest
number_read n rest h = let a = both (nat_le n 2147483647) (list_all is_read rest) h in (number_have n a.0, a.1)

bound_have : (negative : Bool) (n : ℕ) → nat_le n 2147483647 ≡ true → Have (bound_tokens (signed negative n))
bound_have true zero h = refl
bound_have true (suc n) h = number_have (suc n) h
bound_have false n h = number_have n h

signed_read : (negative : Bool) (n : ℕ) (rest : List Token) → AreRead (signed_then negative n rest) → (nat_le n 2147483647 ≡ true) × AreRead rest
signed_read true n rest h = both (nat_le n 2147483647) (list_all is_read rest) h
signed_read false n rest h = both (nat_le n 2147483647) (list_all is_read rest) h

domain_read : (d : DomainText) (rest : List Token) → AreRead (domain_then d rest) → Have (range_tokens (range_said d)) × AreRead rest
domain_read d rest h =
    let high = bound_then d.high rest in
    let v = both (is_name d.variable) (list_all is_read (bound_then d.low (sign symbol.DotDot ∷ high))) h in
    let a = signed_read d.low.negative d.low.number (sign symbol.DotDot ∷ high) v.1 in
    let b = signed_read d.high.negative d.high.number rest a.1 in
    let low_tokens = bound_tokens (signed d.low.negative d.low.number) in
    let high_tokens = bound_tokens (signed d.high.negative d.high.number) in (
      join (one_name d.variable) (low_tokens ++ sign symbol.DotDot ∷ high_tokens) (one_name_has d.variable v.0)
          (join low_tokens (sign symbol.DotDot ∷ high_tokens) (bound_have d.low.negative d.low.number a.0) (bound_have d.high.negative d.high.number b.0)),
      b.1,
    )

mapped_others : (ds : List DomainText) → flat_map (behind_comma range_tokens) (map range_said ds) ≡ flat_map (behind_comma (λ d. range_tokens (range_said d))) ds
mapped_others [] = refl
mapped_others (d ∷ ds) = ap (λ us. sign symbol.Comma ∷ (range_tokens (range_said d) ++ us)) (mapped_others ds)

mapped : (ds : List DomainText) → listed range_tokens (map range_said ds) ≡ listed (λ d. range_tokens (range_said d)) ds
mapped [] = refl
mapped (d ∷ ds) = ap (λ us. range_tokens (range_said d) ++ us) (mapped_others ds)

domains_read : (ds : List DomainText) (rest : List Token) → AreRead (items_then domain_then ds rest) → Have (listed range_tokens (map range_said ds)) × AreRead rest
domains_read ds rest h =
    let a = items_have domain_then (λ d. range_tokens (range_said d)) domain_read ds rest h in
    (ap (list_all has_text) (mapped ds) ∙ a.0, a.1)

others_read : (es : List Sums) (rest : List Token) → AreRead (others_then sums_then es rest) → Have (others_tokens (indices (map sums_term es))) × AreRead rest
others_read [] rest h = (refl, h)
others_read (e ∷ es) rest h =
    let a = sums_have e (others_then sums_then es rest) h in
    let b = others_read es rest a.1 in
    (join (term_tokens (sums_term e)) (others_tokens (indices (map sums_term es))) a.0 b.0, b.1)

row_read : (es : List Sums) (rest : List Token) → AreRead (items_then sums_then es rest) → Have (row_tokens (indices (map sums_term es))) × AreRead rest
row_read [] rest h = (refl, h)
row_read (e ∷ es) rest h =
    let a = sums_have e (others_then sums_then es rest) h in
    let b = others_read es rest a.1 in
    (join (term_tokens (sums_term e)) (others_tokens (indices (map sums_term es))) a.0 b.0, b.1)

-- ---- parts of statements

size_read : (ns : List ℕ) (rest : List Token) → AreRead (size_then ns rest) → Have (size_tokens ns) × AreRead rest
size_read ns rest h =
    let a = items_have number_then one_number number_read ns (sign symbol.RightBracket ∷ rest) h in
    (join (listed one_number ns) (sign symbol.RightBracket ∷ []) a.0 refl, a.1)

over_read : (ds : List DomainText) (rest : List Token) → AreRead (over_then ds rest) → Have (over_tokens (map range_said ds)) × AreRead rest
over_read [] rest h = (refl, h)
over_read (d ∷ ds) rest h =
    let a = domains_read (d ∷ ds) (sign symbol.RightParen ∷ rest) h in
    (join (listed range_tokens (map range_said (d ∷ ds))) (sign symbol.RightParen ∷ []) a.0 refl, a.1)

right_read : (e : Sums) (rest : List Token) → AreRead (right_side_then e rest) → Have (right_side_tokens (sums_term e)) × AreRead rest
right_read e rest h =
    let a = sums_have e (sign symbol.Semicolon ∷ rest) h in
    (join (term_tokens (sums_term e)) (sign symbol.Semicolon ∷ []) a.0 refl, a.1)

-- ---- statements

abbrev Written : List Function → Type 0
Written fs = Have (flat_map function_tokens fs)

-- what an update has beside its function's name
record IsWritten (u : Change) : Type 0 where
  ranges : Have (over_tokens u.ranges)
  left : Have (left_tokens u.at)
  right : Have (right_side_tokens u.value)

own_name : (f : Function) → Have (function_tokens f) → has_text (name_token f.name) ≡ true
own_name f h = (both (has_text (name_token f.name)) (list_all has_text (token.Type f.ty ∷ sign symbol.LeftParen ∷ (listed one_name f.variables ++ sign symbol.RightParen ∷ right_side_tokens f.value))) (split (pure_tokens f.name f.ty f.variables f.value) (flat_map (change_tokens f.name) f.changes) h).0).0

change_has : (x : List ℕ) (u : Change) → has_text (name_token x) ≡ true → IsWritten u → Have (change_tokens x u)
change_has x u name w =
    let inner = join (over_tokens u.ranges) (left_tokens u.at ++ right_side_tokens u.value) w.ranges (join (left_tokens u.at) (right_side_tokens u.value) w.left w.right) in
    rw name inner

grown_has : (f : Function) (u : Change) → Have (function_tokens f) → IsWritten u → Have (function_tokens (record f { changes = f.changes ++ u ∷ [] }))
grown_has f u h w =
    let pure = pure_tokens f.name f.ty f.variables f.value in
    let parts = split pure (flat_map (change_tokens f.name) f.changes) h in
    let one = join (change_tokens f.name u) [] (change_has f.name u (own_name f h) w) refl in
    join pure (flat_map (change_tokens f.name) (f.changes ++ u ∷ [])) parts.0
    (ap (list_all has_text) (flat_map-append (change_tokens f.name) f.changes (u ∷ [])) ∙ join (flat_map (change_tokens f.name) f.changes) (change_tokens f.name u ++ []) parts.1 one)

updated_has : (gs : List Function) (u : Change) → Written gs → IsWritten u → Written (with_update gs u)
updated_has [] u h w = refl
updated_has (f ∷ []) u h w = join (function_tokens (record f { changes = f.changes ++ u ∷ [] })) [] (grown_has f u (split (function_tokens f) [] h).0 w) refl
updated_has (f ∷ g ∷ gs) u h w =
    let parts = split (function_tokens f) (flat_map function_tokens (g ∷ gs)) h in
    join (function_tokens f) (flat_map function_tokens (with_update (g ∷ gs) u)) parts.0 (updated_has (g ∷ gs) u parts.1 w)

statement_read : (s : StatementText Sums) (gs : List Function) (rest : List Token) → Written gs → AreRead (statement_then s rest) → Written (after_statement gs (statement_with sums_term s)) × AreRead rest
statement_read (function s) gs rest h r =
    let n = both (is_name s.name) (list_all is_read (items_then name_then s.variables (sign symbol.RightParen ∷ right_side_then s.value rest))) r in
    let vs = items_have name_then one_name name_read s.variables (sign symbol.RightParen ∷ right_side_then s.value rest) n.1 in
    let e = right_read s.value rest vs.1 in
    let inner = join (listed one_name s.variables) (sign symbol.RightParen ∷ right_side_tokens (sums_term s.value)) vs.0 e.0 in
    let pure : Have (pure_tokens s.name s.ty s.variables (sums_term s.value)) = rw (name_has s.name n.0) inner in
    let own = join (pure_tokens s.name s.ty s.variables (sums_term s.value)) [] pure refl in
    let f = function_said (record { name = s.name; ty = s.ty; variables = s.variables; value = sums_term s.value }) in
    (ap (list_all has_text) (flat_map-append function_tokens gs (f ∷ [])) ∙ join (flat_map function_tokens gs) (function_tokens f ++ []) h (join (function_tokens f) [] own refl), e.1)
statement_read (update s) gs rest h r =
    let right = right_side_then s.value rest in
    let left = sign symbol.LeftBracket ∷ items_then sums_then s.at (sign symbol.RightBracket ∷ right) in
    let n = both (is_name s.name) (list_all is_read (over_then s.domains left)) r in
    let ds = over_read s.domains left n.1 in
    let row = row_read s.at (sign symbol.RightBracket ∷ right) ds.1 in
    let e = right_read s.value rest row.1 in
    let u = change_said (record { name = s.name; domains = s.domains; at = map sums_term s.at; value = sums_term s.value }) in
    (updated_has gs u h (record { ranges = ds.0; left = join (row_tokens (indices (map sums_term s.at))) (sign symbol.RightBracket ∷ []) row.0 refl; right = e.0 }), e.1)

statements_read : (ss : List (StatementText Sums)) (gs : List Function) (rest : List Token) → Written gs → AreRead (statements_then ss rest)
    → Written (fold after_statement gs (map (statement_with sums_term) ss)) × AreRead rest
statements_read [] gs rest h r = (h, r)
statements_read (s ∷ ss) gs rest h r =
    let a = statement_read s gs (statements_then ss rest) h r in
    statements_read ss (after_statement gs (statement_with sums_term s)) rest a.0 a.1

-- ---- the file

file_read : (f : FileText Sums) → AreRead (file_then f) → algorithm_has_text (says (file_with sums_term f)) ≡ true
file_read f h =
    let last = output_then f.output [] in
    let tail = statements_then f.statements last in
    let n = both (is_name f.name) (list_all is_read (input_then f.input tail)) h in
    let i = both (is_name f.input.name) (list_all is_read (size_then f.input.extents (sign symbol.Semicolon ∷ tail))) n.1 in
    let size = size_read f.input.extents (sign symbol.Semicolon ∷ tail) i.1 in
    let fs = statements_read f.statements [] last refl size.1 in
    let o = both (is_name f.output.name) (list_all is_read (size_then f.output.extents (sign symbol.Semicolon ∷ []))) fs.1 in
    let wanted = size_read f.output.extents (sign symbol.Semicolon ∷ []) o.1 in
    let input : Have (input_tokens f.input.name f.input.ty f.input.extents) = rw (name_has f.input.name i.0) (join (size_tokens f.input.extents) (sign symbol.Semicolon ∷ []) size.0 refl) in
    let output : Have (output_tokens f.output.name f.output.extents) = rw (name_has f.output.name o.0) (join (size_tokens f.output.extents) (sign symbol.Semicolon ∷ []) wanted.0 refl) in
    let functions = functions_said (map (statement_with sums_term) f.statements) in
    let inner = join (input_tokens f.input.name f.input.ty f.input.extents) (flat_map function_tokens functions ++ output_tokens f.output.name f.output.extents) input
    (join (flat_map function_tokens functions) (output_tokens f.output.name f.output.extents) fs.0 output) in
    rw (name_has f.name n.0) inner

-- an algorithm that some text says
pub said_has_text : (text : List ℕ) (a : Algorithm) → IsAlgorithmText text a → algorithm_has_text a ≡ true
said_has_text text a h =
    let read = ap (list_all is_read) (sym h.found.stands.spelled) ∙ all_read text h.found.lexemes h.found.tokens in
    ap algorithm_has_text (h.said ∙ ap says (sym h.found.stands.is)) ∙ file_read h.found.stands.rules read
