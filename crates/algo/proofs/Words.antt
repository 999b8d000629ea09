-- What an algorithm names, and its expressions, are words and numbers of its text.
use Rattle.std.proofs.Common.{◌≡◌, ℕ, ◌≤◌, ◌<◌, Bool, true, false, cond, List, [], ◌∷◌, ◌++◌, length, All, Option, Some, None, refl, sym, subst, arith, map, pos}
use Rattle.std.specs.Prelude.{find, nat_lt, nat_le, fold, not, slice_index, ◌&&◌, ◌||◌, ◌==◌}
use Rattle.std.specs.List.{list_all, list_any}
use Rattle.std.specs.Str.{bytes_eq}
use Rattle.std.proofs.lemmas.Bool.Decides.{nat_tests}
use Rattle.std.proofs.lemmas.List.Elements.{All-nil, All-cons, All-push, All-head, All-tail, All-map}
use Rattle.std.proofs.lemmas.List.Sums.{list_all-from_AllPass}
use Rattle.numeric.specs.declared.ty.Ty.{Ty}
use Rattle.numeric.specs.declared.ty.Ty.TheVariants as ty
use Rattle.numeric.proofs.Numbers.{signed}
use Rattle.tree.specs.declared.token.token.Symbol.TheVariants as symbol
use Rattle.tree.specs.declared.token.token.Token.{Token}
use Rattle.tree.specs.Token.Spelling.{type_text, word_text, is_digit, is_word_byte}
use Rattle.tree.specs.Token.Cursor.{kinds}
use Rattle.tree.specs.Token.Lexical.{largest, types, words, type_named, word_named, gap}
use Rattle.tree.specs.Term.{Term, Terms, Test}
use Rattle.meaning.specs.Algorithm.{Change, Function, Algorithm}
use Rattle.expr.specs.Parsing.{type_or_i32}
use Rattle.expr.specs.Grammar.{sign, add_symbol, mul_symbol, comparison_symbol, Sums, term, add, Products, factor, multiply, Signed, unsigned, negated, Primary, number, variable, call, group, cast, extreme, clamp, select}
use Rattle.expr.specs.Grammar.{More, no_more, next, Condition, compare, deny, all, any, sums_then, products_then, signed_then as factor_then, primary_then, more_then, condition_then}
use Rattle.expr.specs.Grammar.{sums_term, products_term, signed_term, primary_term, more_terms, condition_test}
use Rattle.expr.specs.Statements.Text.{DomainText, FunctionText, UpdateText, StatementText, function, update, FileText, statement_with, file_with}
use Rattle.expr.specs.Statements.Grammar.{others_then, items_then, name_then, number_then, signed_then, bound_then, domain_then, size_then, over_then, right_side_then}
use Rattle.expr.specs.Statements.Grammar.{statement_then, statements_then, output_then, file_then}
use Rattle.algo.specs.Saying.{range_said, change_said, function_said, with_update, after_statement, says}
use Rattle.algo.specs.Refusal.{IsAlgorithmText}
use Rattle.algo.specs.Words.{IsName, IsRangeNamed, IsChangeNamed, IsFunctionNamed, IsNamed}
use Rattle.algo.specs.Written.{IsLiteral, IsWritten, IsTestWrittenBy, AreWrittenBy, IsChangeWritten, IsFunctionWritten, AreExpressionsWritten}
use Rattle.algo.specs.Laws.{NamesAreWords, ExpressionsAreWritten}
use Rattle.algo.proofs.TokenWords.{AreRead, lexemes_read}

-- ---- expressions, and what follows

literal_read : (t : Option Ty) (n : ℕ) → n ≤ largest t → IsLiteral (type_or_i32 t) (pos n)
literal_read None n h = record { from = omega (arith, signed); to = omega (arith, signed) }
literal_read (Some ty.U8) n h = record { from = omega (arith, signed); to = omega (arith, signed) }
literal_read (Some ty.U16) n h = record { from = omega (arith, signed); to = omega (arith, signed) }
literal_read (Some ty.U32) n h = record { from = omega (arith, signed); to = omega (arith, signed) }
literal_read (Some ty.I8) n h = record { from = omega (arith, signed); to = omega (arith, signed) }
literal_read (Some ty.I16) n h = record { from = omega (arith, signed); to = omega (arith, signed) }
literal_read (Some ty.I32) n h = record { from = omega (arith, signed); to = omega (arith, signed) }

abbrev IsTestWritten : Test → Type 0
IsTestWritten = IsTestWrittenBy IsName

abbrev AreWritten : Terms → Type 0
AreWritten = AreWrittenBy IsName

mutual
  sums_read : (e : Sums) (rest : List Token) → AreRead (sums_then e rest) → IsWritten (sums_term e) × AreRead rest
  sums_read (term p) rest h = products_read p rest h
  sums_read (add s o p) rest h =
      let a = sums_read s (sign (add_symbol o) ∷ products_then p rest) h in
      let b = products_read p rest a.1.1 in
      ((a.0, b.0), b.1)

  products_read : (p : Products) (rest : List Token) → AreRead (products_then p rest) → IsWritten (products_term p) × AreRead rest
  products_read (factor s) rest h = factor_read s rest h
  products_read (multiply p o s) rest h =
      let a = products_read p (sign (mul_symbol o) ∷ factor_then s rest) h in
      let b = factor_read s rest a.1.1 in
      ((a.0, b.0), b.1)

  factor_read : (s : Signed) (rest : List Token) → AreRead (factor_then s rest) → IsWritten (signed_term s) × AreRead rest
  factor_read (unsigned p) rest h = primary_read p rest h
  factor_read (negated s) rest h = factor_read s rest h.1

  primary_read : (p : Primary) (rest : List Token) → AreRead (primary_then p rest) → IsWritten (primary_term p) × AreRead rest
  primary_read (number n) rest h = (literal_read n.ty n.value h.0, h.1)
  primary_read (variable x) rest h = h
  primary_read (call f a more) rest h =
      let first = sums_read a (more_then more rest) h.1.1 in
      let others = more_read more rest first.1 in
      ((h.0, (first.0, others.0)), others.1)
  primary_read (group a) rest h =
      let inside = sums_read a (sign symbol.RightParen ∷ rest) h.1 in
      (inside.0, inside.1.1)
  primary_read (cast t a) rest h =
      let inside = sums_read a (sign symbol.RightParen ∷ rest) h.1.1 in
      (inside.0, inside.1.1)
  primary_read (extreme o a b) rest h =
      let first = sums_read a (sign symbol.Comma ∷ sums_then b (sign symbol.RightParen ∷ rest)) h.1.1 in
      let second = sums_read b (sign symbol.RightParen ∷ rest) first.1.1 in
      ((first.0, second.0), second.1.1)
  primary_read (clamp a l u) rest h =
      let behind = sums_then u (sign symbol.RightParen ∷ rest) in
      let first = sums_read a (sign symbol.Comma ∷ sums_then l (sign symbol.Comma ∷ behind)) h.1.1 in
      let second = sums_read l (sign symbol.Comma ∷ behind) first.1.1 in
      let third = sums_read u (sign symbol.RightParen ∷ rest) second.1.1 in
      ((first.0, second.0, third.0), third.1.1)
  primary_read (select c a b) rest h =
      let behind = sums_then b (sign symbol.RightParen ∷ rest) in
      let first = condition_read c (sign symbol.Comma ∷ sums_then a (sign symbol.Comma ∷ behind)) h.1.1 in
      let second = sums_read a (sign symbol.Comma ∷ behind) first.1.1 in
      let third = sums_read b (sign symbol.RightParen ∷ rest) second.1.1 in
      ((first.0, second.0, third.0), third.1.1)

  more_read : (more : More) (rest : List Token) → AreRead (more_then more rest) → AreWritten (more_terms more) × AreRead rest
  more_read no_more rest h = (tt, h.1)
  more_read (next a more) rest h =
      let first = sums_read a (more_then more rest) h.1 in
      let others = more_read more rest first.1 in
      ((first.0, others.0), others.1)

  condition_read : (c : Condition) (rest : List Token) → AreRead (condition_then c rest) → IsTestWritten (condition_test c) × AreRead rest
  condition_read (compare a o b) rest h =
      let first = sums_read a (sign (comparison_symbol o) ∷ sums_then b rest) h in
      let second = sums_read b rest first.1.1 in
      ((first.0, second.0), second.1)
  condition_read (deny c) rest h =
      let inside = condition_read c (sign symbol.RightParen ∷ rest) h.1.1 in
      (inside.0, inside.1.1)
  condition_read (all c d) rest h =
      let first = condition_read c (sign symbol.Comma ∷ condition_then d (sign symbol.RightParen ∷ rest)) h.1.1 in
      let second = condition_read d (sign symbol.RightParen ∷ rest) first.1.1 in
      ((first.0, second.0), second.1.1)
  condition_read (any c d) rest h =
      let first = condition_read c (sign symbol.Comma ∷ condition_then d (sign symbol.RightParen ∷ rest)) h.1.1 in
      let second = condition_read d (sign symbol.RightParen ∷ rest) first.1.1 in
      ((first.0, second.0), second.1.1)

-- ---- parts of statements

module _ {A : Type 0} (item : A → List Token → List Token) (P : A → Type 0) (one : (x : A) (rest : List Token) → AreRead (item x rest) → P x × AreRead rest) where
  others_read : (xs : List A) (rest : List Token) → AreRead (others_then item xs rest) → All P xs × AreRead rest
  others_read [] rest h = (All-nil P, h)
  others_read (x ∷ xs) rest h =
      let first = one x (others_then item xs rest) h.1 in
      let more = others_read xs rest first.1 in
      (All-cons P x xs first.0 more.0, more.1)

  items_read : (xs : List A) (rest : List Token) → AreRead (items_then item xs rest) → All P xs × AreRead rest
  items_read [] rest h = (All-nil P, h)
  items_read (x ∷ xs) rest h =
      let first = one x (others_then item xs rest) h in
      let more = others_read xs rest first.1 in
      (All-cons P x xs first.0 more.0, more.1)

size_read : (ns : List ℕ) (rest : List Token) → AreRead (size_then ns rest) → AreRead rest
size_read ns rest h = (items_read number_then (λ n. Unit {0}) (λ n rest h. (tt, h.1)) ns (sign symbol.RightBracket ∷ rest) h.1).1.1

signed_read : (negative : Bool) (n : ℕ) (rest : List Token) → AreRead (signed_then negative n rest) → AreRead rest
signed_read true n rest h = h.1.1
signed_read false n rest h = h.1

abbrev IsDomainNamed : DomainText → Type 0
IsDomainNamed d = IsName d.variable

domain_read : (d : DomainText) (rest : List Token) → AreRead (domain_then d rest) → IsDomainNamed d × AreRead rest
domain_read d rest h =
    let low = signed_read d.low.negative d.low.number (sign symbol.DotDot ∷ bound_then d.high rest) h.1 in
    (h.0, signed_read d.high.negative d.high.number rest low.1)

over_read : (ds : List DomainText) (rest : List Token) → AreRead (over_then ds rest) → All IsDomainNamed ds × AreRead rest
over_read [] rest h = (All-nil IsDomainNamed, h)
over_read (d ∷ ds) rest h =
    let inside = items_read domain_then IsDomainNamed domain_read (d ∷ ds) (sign symbol.RightParen ∷ rest) h.1.1 in
    (inside.0, inside.1.1)

right_side_read : (e : Sums) (rest : List Token) → AreRead (right_side_then e rest) → IsWritten (sums_term e) × AreRead rest
right_side_read e rest h =
    let value = sums_read e (sign symbol.Semicolon ∷ rest) h.1 in
    (value.0, value.1.1)

-- ---- statements

-- what a function's statement tells
record IsFunctionRead (s : FunctionText Term) : Type 0 where
  name : IsName s.name
  variables : All IsName s.variables
  value : IsWritten s.value

-- what an update's statement tells, beside whose it is
record IsUpdateRead (s : UpdateText Term) : Type 0 where
  domains : All IsDomainNamed s.domains
  at : All IsWritten s.at
  value : IsWritten s.value

abbrev IsStatementRead : StatementText Term → Type 0
IsStatementRead (function s) = IsFunctionRead s
IsStatementRead (update s) = IsUpdateRead s

statement_read : (s : StatementText Sums) (rest : List Token) → AreRead (statement_then s rest) → IsStatementRead (statement_with sums_term s) × AreRead rest
statement_read (function s) rest h =
    let variables = items_read name_then IsName (λ x rest h. h) s.variables (sign symbol.RightParen ∷ right_side_then s.value rest) h.1.1.1.1 in
    let value = right_side_read s.value rest variables.1.1 in
    (record { name = h.1.0; variables = variables.0; value = value.0 }, value.1)
statement_read (update s) rest h =
    let behind = sign symbol.RightBracket ∷ right_side_then s.value rest in
    let over = over_read s.domains (sign symbol.LeftBracket ∷ items_then sums_then s.at behind) h.1.1 in
    let at = items_read sums_then (λ e. IsWritten (sums_term e)) sums_read s.at behind over.1.1 in
    let value = right_side_read s.value rest at.1.1 in
    (record { domains = over.0; at = All-map IsWritten sums_term s.at at.0; value = value.0 }, value.1)

statements_read : (ss : List (StatementText Sums)) (rest : List Token) → AreRead (statements_then ss rest) → All IsStatementRead (map (statement_with sums_term) ss) × AreRead rest
statements_read [] rest h = (All-nil IsStatementRead, h)
statements_read (s ∷ ss) rest h =
    let first = statement_read s (statements_then ss rest) h in
    let more = statements_read ss rest first.1 in
    (All-cons IsStatementRead (statement_with sums_term s) (map (statement_with sums_term) ss) first.0 more.0, more.1)

-- ---- a whole text

record IsFileRead (f : FileText Term) : Type 0 where
  name : IsName f.name
  input : IsName f.input.name
  statements : All IsStatementRead f.statements
  output : IsName f.output.name

file_read : (f : FileText Sums) → AreRead (file_then f) → IsFileRead (file_with sums_term f)
file_read f h =
    let input = h.1.1.1 in
    let size = size_read f.input.extents (sign symbol.Semicolon ∷ statements_then f.statements (output_then f.output [])) input.1.1.1 in
    let statements = statements_read f.statements (output_then f.output []) size.1 in
    record { name = h.1.0; input = input.1.0; statements = statements.0; output = statements.1.1.0 }

text_read : (text : List ℕ) (a : Algorithm) (is : IsAlgorithmText text a) → IsFileRead is.file
text_read text a is =
    let stands = is.found.stands in
    let tokens : AreRead (kinds is.found.lexemes) = lexemes_read (λ (at : ℕ). length text ≤ at) text (gap text) is.found.lexemes is.found.tokens in
    subst IsFileRead stands.is (file_read stands.rules (subst AreRead stands.spelled tokens))

-- ---- what a text says

-- what statements tell of functions
record IsTold (f : Function) : Type 0 where
  named : IsFunctionNamed f
  written : IsFunctionWritten f

updated_told : (fs : List Function) (u : Change) → IsChangeNamed u → IsChangeWritten u → All IsTold fs → All IsTold (with_update fs u)
updated_told [] u n w h = h
updated_told (f ∷ []) u n w h =
    let own = All-head IsTold f [] h in
    All-cons IsTold (record f { changes = f.changes ++ u ∷ [] }) [] (record {
      named = record { name = own.named.name; variables = own.named.variables; changes = All-push IsChangeNamed f.changes u own.named.changes n };
      written = record { pure = own.written.pure; changes = All-push IsChangeWritten f.changes u own.written.changes w };
    }) (All-nil IsTold)
updated_told (f ∷ g ∷ fs) u n w h =
    All-cons IsTold f (with_update (g ∷ fs) u) (All-head IsTold f (g ∷ fs) h) (updated_told (g ∷ fs) u n w (All-tail IsTold f (g ∷ fs) h))

one_more_told : (fs : List Function) (s : StatementText Term) → All IsTold fs → IsStatementRead s → All IsTold (after_statement fs s)
one_more_told fs (function s) h r = All-push IsTold fs (function_said s) h (record {
  named = record { name = r.name; variables = r.variables; changes = All-nil IsChangeNamed };
  written = record { pure = r.value; changes = All-nil IsChangeWritten };
})
one_more_told fs (update s) h r =
    updated_told fs (change_said s) (All-map IsRangeNamed range_said s.domains r.domains) (record { left = r.at; right = r.value }) h

functions_told : (ss : List (StatementText Term)) (fs : List Function) → All IsTold fs → All IsStatementRead ss → All IsTold (fold after_statement fs ss)
functions_told [] fs h r = h
functions_told (s ∷ ss) fs h r =
    functions_told ss (after_statement fs s) (one_more_told fs s h (All-head IsStatementRead s ss r)) (All-tail IsStatementRead s ss r)

said_told : (f : FileText Term) → IsFileRead f → All IsTold (says f).functions
said_told f h = functions_told f.statements [] (All-nil IsTold) h.statements

said_named : (f : FileText Term) → IsFileRead f → IsNamed (says f)
said_named f h =
    let told = said_told f h in
    record { name = h.name; input = h.input; functions = λ k d lt. (told k d lt).named; output = h.output }

pub names_are_words : NamesAreWords
names_are_words text a is = subst IsNamed (sym is.said) (said_named is.file (text_read text a is))

pub expressions_are_written : ExpressionsAreWritten
expressions_are_written text a is =
    let told = said_told is.file (text_read text a is) in
    subst AreExpressionsWritten (sym is.said) (λ k d lt. (told k d lt).written)

-- ---- names by their bytes

byte_is_no_at : (b : ℕ) → is_word_byte b ≡ true → (b == 64) ≡ false
byte_is_no_at b h = grind (arith, nat_tests)

-- no name begins with an `@`, whose code is 64
pub begins_without_at : (b : ℕ) (bs : List ℕ) → IsName (b ∷ bs) → (b == 64) ≡ false
begins_without_at b bs h = byte_is_no_at b (h.word.bytes 0 0 (omega arith))

none_at : {X : Type 0} (x : X) (b passes : Bool) (rest : Option X) → (rest ≡ None → passes ≡ false) → cond b (Some x) rest ≡ None → (b || passes) ≡ false
none_at x true passes rest f e = absurd (let g = e in cc)
none_at x false passes rest f e = f e

none_passes : {X : Type 0} (p : X → Bool) (xs : List X) → find p xs ≡ None → list_any p xs ≡ false
none_passes p [] e = refl
none_passes p (x ∷ xs) e = none_at x (p x) (list_any p xs) (find p xs) (none_passes p xs) e

is_no_type : (x : List ℕ) → type_named x ≡ None → list_any (λ t. bytes_eq (type_text t) x) types ≡ false
unfolding type_named
is_no_type x e = none_passes (λ t. bytes_eq (type_text t) x) types e

is_no_word : (x : List ℕ) → word_named x ≡ None → list_any (λ w. bytes_eq (word_text w) x) words ≡ false
unfolding word_named
is_no_word x e = none_passes (λ w. bytes_eq (word_text w) x) words e

is_some : (n : ℕ) → 0 < n → nat_lt 0 n ≡ true
is_some n h = grind (arith, nat_tests)

is_short : (n : ℕ) → n ≤ 16 → nat_le n 16 ≡ true
is_short n h = grind (arith, nat_tests)

-- the tests that texts of plans ask of a name pass
pub passes_as_name : (x : List ℕ) → IsName x
    → (nat_lt 0 (length x) && nat_le (length x) 16 && list_all is_word_byte x && not (is_digit (slice_index x 0))
    && not (list_any (λ t. bytes_eq (type_text t) x) types || list_any (λ w. bytes_eq (word_text w) x) words)) ≡ true
passes_as_name x h =
    let some = is_some (length x) h.word.some in
    let short = is_short (length x) h.short in
    let bytes = list_all-from_AllPass is_word_byte x h.word.bytes in
    let first = h.word.first in
    let no_type = is_no_type x h.no_type in
    let no_word = is_no_word x h.no_word in
    λ i. some i && short i && bytes i && not (first i) && not (no_type i || no_word i)
