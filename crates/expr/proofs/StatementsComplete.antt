-- What the grammar allows is read, unless an expression is too large.
use Rattle.std.proofs.Common.{◌≡◌, ℕ, zero, suc, ◌≤◌, ◌<◌, Bool, true, false, List, [], ◌∷◌, ◌++◌, length, map, Some, None, Result, Ok, Err, refl, sym, ap, subst, ◌∙◌, ◌⊎◌, inl, inr, append_assoc, arith}
use Rattle.std.specs.List.{AllByRecursion}
use Rattle.std.proofs.lemmas.List.{append-nil, map-id}
use Rattle.tree.specs.declared.token.token.Symbol.TheVariants as symbol
use Rattle.tree.specs.declared.token.token.Token.{Token}
use Rattle.tree.specs.Token.Cursor.{after}
use Rattle.tree.specs.Term.{Term}
use Rattle.tree.specs.Tree.{node_count, depth}
use Rattle.expr.specs.Grammar.{sign, Sums, sums_then, sums_term, Ends}
use Rattle.expr.specs.Text.{IsSmall as IsSmallTerm}
use Rattle.expr.proofs.Limits.{made_is, fitting, too_large}
use Rattle.expr.proofs.Complete.{expression_reads}
use Rattle.expr.specs.declared.statements.error.Refusal.{Refusal}
use Rattle.expr.specs.declared.statements.error.Refusal.TheVariants.{TooLarge}
use Rattle.expr.specs.Statements.Text.{BoundText, DomainText, InputText, FunctionText, UpdateText, StatementText, function as a_function, update as an_update, OutputText, FileText, function_with, update_with, statement_with, file_with}
use Rattle.expr.specs.Statements.Reading.{Parse, ◌>>=◌, expect, expect_word, name, number, from_here, expression, more_of, separated, names, numbers, expressions, bound, domain, domains, size, over, right_side, input, function, update, output, statement, statements, led, file}
use Rattle.expr.specs.Statements.Grammar.{others_then, items_then, name_then, number_then, signed_then, bound_then, domain_then, size_then, over_then, right_side_then, input_then, function_then, update_then, statement_then, statements_then, output_then, file_then, HasParts, IsLed, IsWhole, IsSmallStatement, IsSmall}
use Rattle.expr.proofs.StatementsSound.{file_sound}
use Rattle.expr.proofs.Lengths.{Long, name_long, number_long, domain_long, sums_long, others_long, statements_long}

-- ---- what reading answers

-- the value, or that an expression is too large, where not all of them are small
abbrev pub Answers : {A : Type 0} → Type 0 → Result A Refusal → A → Type 0
Answers Small r x = (r ≡ Ok x) ⊎ ((left : ℕ) × (r ≡ Err (TooLarge left)) × (Small → ⊥))

-- a step, and then another
after_step : {A B Small Rest All : Type 0} (r : Result A Refusal) (f : A → Result B Refusal) (x : A) (y : B) → (All → Small) → (All → Rest) → Answers Small r x → Answers Rest (f x) y → Answers All (r >>= f) y
after_step {A} r f x y small rest (inl ok) (inl done) = inl (ap (λ (q : Result A Refusal). q >>= f) ok ∙ done)
after_step {A} r f x y small rest (inl ok) (inr e) = inr (e.0, ap (λ (q : Result A Refusal). q >>= f) ok ∙ e.1, λ h. e.2 (rest h))
after_step {A} r f x y small rest (inr e) q = inr (e.0, ap (λ (q : Result A Refusal). q >>= f) e.1, λ h. e.2 (small h))

-- ---- expressions

le_or : (a b : ℕ) → (a ≤ b) ⊎ (b < a)
le_or zero b = inl (omega arith)
le_or (suc a) zero = inr (omega arith)
le_or (suc a) (suc b) = elim (le_or a b) [ inl h ↦ inl (omega (arith, h)) | inr h ↦ inr (omega (arith, h)) ]

small_or_not : (t : Term) → IsSmallTerm t ⊎ (IsSmallTerm t → ⊥)
small_or_not t =
    elim (le_or (node_count t) 512) [
      | inl few ↦ elim (le_or (depth t) 64) [
        | inl shallow ↦ inl (record { few = few; shallow = shallow })
        | inr deep ↦ inr (λ f. omega (arith, f.shallow, deep))
      ]
      | inr many ↦ inr (λ f. omega (arith, f.few, many))
    ]

term_reads : (s : Sums) (rest : List Token) → Ends rest → Answers (IsSmallTerm (sums_term s)) (expression (sums_then s rest)) (sums_term s, rest)
unfolding expression
term_reads s rest ends =
    let left = length (sums_then s rest) in
    let read = expression_reads s rest ends ∙ made_is 512 63 (sums_term s) rest in
    elim (small_or_not (sums_term s)) [
      | inl small ↦ inl (ap (from_here left) (read ∙ fitting 512 64 (sums_term s) rest small))
      | inr large ↦ inr (left, ap (from_here left) (read ∙ sym (too_large 512 64 (sums_term s) rest large)), large)
    ]

-- ---- lists

module _ {D A : Type 0} (item : Parse A) (then : D → List Token → List Token) (view : D → A) (Small : A → Type 0) (long : Long then)
    (reads : (x : D) (rest : List Token) → Ends rest → Answers (Small (view x)) (item (then x rest)) (view x, rest)) where
  others_ends : (xs : List D) (rest : List Token) → Ends rest → Ends (others_then then xs rest)
  others_ends [] rest ends = ends
  others_ends (x ∷ xs) rest ends = record { no_bracket = refl; no_product = refl; no_sum = refl }

  more_reads : (n : ℕ) (found : List A) (xs : List D) (rest : List Token) → length xs ≤ n → Ends rest → after symbol.Comma rest ≡ None
      → Answers (AllByRecursion Small (map view xs)) (more_of item n found (others_then then xs rest)) (found ++ map view xs, rest)
  unfolding more_of
  more_reads zero found [] rest few ends none = inl (rw append-nil refl)
  more_reads zero found (x ∷ xs) rest few ends none = absurd (omega (arith, few))
  more_reads (suc n) found [] rest few ends none = inl (rw (none, append-nil) refl)
  more_reads (suc n) found (x ∷ xs) rest few ends none =
      let tail = others_then then xs rest in
      let more = more_reads n (found ++ view x ∷ []) xs rest (omega (arith, few)) ends none in
      after_step (item (then x tail)) (λ r. more_of item n (found ++ r.0 ∷ []) r.1) (view x, tail) (found ++ view x ∷ map view xs, rest) (λ h. h.0) (λ h. h.1)
      (reads x tail (others_ends xs rest ends))
      (subst (λ (ys : List A). Answers (AllByRecursion Small (map view xs)) (more_of item n (found ++ view x ∷ []) tail) (ys, rest)) (append_assoc found (view x ∷ []) (map view xs)) more)

  items_reads : (xs : List D) (rest : List Token) → 0 < length xs → Ends rest → after symbol.Comma rest ≡ None
      → Answers (AllByRecursion Small (map view xs)) (separated item (items_then then xs rest)) (map view xs, rest)
  unfolding separated
  items_reads [] rest some ends none = absurd (omega (arith, some))
  items_reads (x ∷ xs) rest some ends none =
      let tail = others_then then xs rest in
      after_step (item (then x tail)) (λ r. more_of item (length r.1) (r.0 ∷ []) r.1) (view x, tail) (view x ∷ map view xs, rest) (λ h. h.0) (λ h. h.1)
      (reads x tail (others_ends xs rest ends))
      (more_reads (length tail) (view x ∷ []) xs rest (omega (arith, others_long then long xs rest)) ends none)

all_units : {A : Type 0} (xs : List A) → AllByRecursion (λ _. Unit {0}) xs
all_units [] = tt
all_units (x ∷ xs) = (tt, all_units xs)

-- lists of parts that stand for themselves
module _ {A : Type 0} (item : Parse A) (then : A → List Token → List Token) (long : Long then) (reads : (x : A) (rest : List Token) → item (then x rest) ≡ Ok (x, rest)) where
  plain_reads : (xs : List A) (rest : List Token) → 0 < length xs → Ends rest → after symbol.Comma rest ≡ None → separated item (items_then then xs rest) ≡ Ok (xs, rest)
  plain_reads xs rest some ends none =
      elim (items_reads item then (λ x. x) (λ _. Unit {0}) long (λ x us _. inl (reads x us)) xs rest some ends none) [
        | inl ok ↦ rw map-id at ok
        | inr e ↦ absurd (e.2 (all_units (map (λ x. x) xs)))
      ]

-- ---- parts of statements

bracket_ends : (rest : List Token) → Ends (sign symbol.RightBracket ∷ rest)
bracket_ends rest = record { no_bracket = refl; no_product = refl; no_sum = refl }

paren_ends : (rest : List Token) → Ends (sign symbol.RightParen ∷ rest)
paren_ends rest = record { no_bracket = refl; no_product = refl; no_sum = refl }

signed_reads : (negative : Bool) (n : ℕ) (rest : List Token) → bound (signed_then negative n rest) ≡ Ok (record { negative = negative; number = n }, rest)
unfolding bound
signed_reads true n rest = refl
signed_reads false n rest = refl

bound_reads : (b : BoundText) (rest : List Token) → bound (bound_then b rest) ≡ Ok (b, rest)
bound_reads b rest = signed_reads b.negative b.number rest

domain_reads : (d : DomainText) (rest : List Token) → domain (domain_then d rest) ≡ Ok (d, rest)
unfolding domain expect
domain_reads d rest = rw (bound_reads d.low (sign symbol.DotDot ∷ bound_then d.high rest), bound_reads d.high rest) refl

size_reads : (ns : List ℕ) (rest : List Token) → 0 < length ns → size (size_then ns rest) ≡ Ok (ns, rest)
unfolding size numbers expect
size_reads ns rest some = rw (plain_reads number number_then number_long (λ n us. refl) ns (sign symbol.RightBracket ∷ rest) some (bracket_ends rest) refl) refl

over_reads : (ds : List DomainText) (rest : List Token) → over (over_then ds (sign symbol.LeftBracket ∷ rest)) ≡ Ok (ds, sign symbol.LeftBracket ∷ rest)
unfolding over domains expect
over_reads [] rest = refl
over_reads (d ∷ ds) rest =
    let after_all = sign symbol.LeftBracket ∷ rest in
    rw (plain_reads domain domain_then domain_long domain_reads (d ∷ ds) (sign symbol.RightParen ∷ after_all) (omega arith) (paren_ends after_all) refl) refl

right_side_reads : (s : Sums) (rest : List Token) → Answers (IsSmallTerm (sums_term s)) (right_side (right_side_then s rest)) (sums_term s, rest)
unfolding right_side expect
right_side_reads s rest =
    elim (term_reads s (sign symbol.Semicolon ∷ rest) (record { no_bracket = refl; no_product = refl; no_sum = refl })) [
      | inl ok ↦ inl (rw ok refl)
      | inr e ↦ inr (e.0, rw e.1 refl, e.2)
    ]

-- ---- statements

input_reads : (s : InputText) (rest : List Token) → 0 < length s.extents → input (input_then s rest) ≡ Ok (s, rest)
unfolding input expect expect_word
input_reads s rest some = rw (size_reads s.extents (sign symbol.Semicolon ∷ rest) some) refl

output_reads : (s : OutputText) (rest : List Token) → 0 < length s.extents → output (output_then s rest) ≡ Ok (s, rest)
unfolding output expect expect_word
output_reads s rest some = rw (size_reads s.extents (sign symbol.Semicolon ∷ rest) some) refl

function_reads : (s : FunctionText Sums) (rest : List Token) → 0 < length s.variables → Answers (IsSmallTerm (sums_term s.value)) (function (function_then s rest)) (function_with sums_term s, rest)
unfolding function names expect
function_reads s rest some =
    let side = right_side_then s.value rest in
    let variables = plain_reads name name_then name_long (λ x us. refl) s.variables (sign symbol.RightParen ∷ side) some (paren_ends side) refl in
    elim (right_side_reads s.value rest) [
      | inl ok ↦ inl (rw (variables, ok) refl)
      | inr e ↦ inr (e.0, rw (variables, e.1) refl, e.2)
    ]

update_reads : (s : UpdateText Sums) (rest : List Token) → 0 < length s.at
    → Answers (AllByRecursion IsSmallTerm (map sums_term s.at) × IsSmallTerm (sums_term s.value)) (update (update_then s rest)) (update_with sums_term s, rest)
unfolding update expressions expect
update_reads s rest some =
    let side = right_side_then s.value rest in
    let at = items_then sums_then s.at (sign symbol.RightBracket ∷ side) in
    elim (items_reads expression sums_then sums_term IsSmallTerm sums_long term_reads s.at (sign symbol.RightBracket ∷ side) some (bracket_ends side) refl) [
      | inl items ↦ elim (right_side_reads s.value rest) [
        | inl ok ↦ inl (rw (over_reads s.domains at, items, ok) refl)
        | inr e ↦ inr (e.0, rw (over_reads s.domains at, items, e.1) refl, λ h. e.2 h.1)
      ]
      | inr e ↦ inr (e.0, rw (over_reads s.domains at, e.1) refl, λ h. e.2 h.0)
    ]

statement_reads : (s : StatementText Sums) (rest : List Token) → HasParts s → Answers (IsSmallStatement (statement_with sums_term s)) (statement (statement_then s rest)) (Some (statement_with sums_term s), rest)
unfolding statement
statement_reads (a_function s) rest some =
    elim (function_reads s rest some) [
      | inl ok ↦ inl (rw ok refl)
      | inr e ↦ inr (e.0, rw e.1 refl, e.2)
    ]
statement_reads (an_update s) rest some =
    elim (update_reads s rest some) [
      | inl ok ↦ inl (rw ok refl)
      | inr e ↦ inr (e.0, rw e.1 refl, e.2)
    ]

abbrev terms : List (StatementText Sums) → List (StatementText Term)
terms ss = map (statement_with sums_term) ss

statements_read : (n : ℕ) (found : List (StatementText Term)) (ss : List (StatementText Sums)) (rest : List Token) → length ss ≤ n → AllByRecursion HasParts ss → statement rest ≡ Ok (None, rest)
    → Answers (AllByRecursion IsSmallStatement (terms ss)) (statements n found (statements_then ss rest)) (found ++ terms ss, rest)
unfolding statements
statements_read zero found [] rest few parts none = inl (rw append-nil refl)
statements_read zero found (s ∷ ss) rest few parts none = absurd (omega (arith, few))
statements_read (suc n) found [] rest few parts none = inl (rw (none, append-nil) refl)
statements_read (suc n) found (s ∷ ss) rest few parts none =
    let tail = statements_then ss rest in
    let x = statement_with sums_term s in
    let more = statements_read n (found ++ x ∷ []) ss rest (omega (arith, few)) parts.1 none in
    after_step (statement (statement_then s tail)) _ (Some x, tail) (found ++ x ∷ terms ss, rest) (λ h. h.0) (λ h. h.1)
    (statement_reads s tail parts.0)
    (subst (λ (ys : List (StatementText Term)). Answers (AllByRecursion IsSmallStatement (terms ss)) (statements n (found ++ x ∷ []) tail) (ys, rest)) (append_assoc found (x ∷ []) (terms ss)) more)

no_statement : (s : OutputText) (rest : List Token) → statement (output_then s rest) ≡ Ok (None, output_then s rest)
unfolding statement
no_statement s rest = refl

led_reads : (ss : List (StatementText Sums)) (o : OutputText) → IsLed ss → led (statements_then ss (output_then o [])) ≡ Ok (statements_then ss (output_then o []))
unfolding led
led_reads [] o h = refl
led_reads (a_function s ∷ ss) o h = refl
led_reads (an_update s ∷ ss) o h = absurd h

pub file_reads : (rules : FileText Sums) → IsWhole rules → Answers (IsSmall (file_with sums_term rules)) (file (file_then rules)) (file_with sums_term rules)
unfolding file expect expect_word
file_reads rules whole =
    let last = output_then rules.output [] in
    let tail = statements_then rules.statements last in
    let first = input_reads rules.input tail whole.input in
    let end = output_reads rules.output [] whole.output in
    let front = led_reads rules.statements rules.output whole.led in
    elim (statements_read (length tail) [] rules.statements last (omega (arith, statements_long rules.statements last)) whole.statements (no_statement rules.output [])) [
      | inl ok ↦ inl (rw (first, front, ok, end) refl)
      | inr e ↦ inr (e.0, rw (first, front, e.1) refl, e.2)
    ]

pub reads_small : (rules : FileText Sums) → IsWhole rules → IsSmall (file_with sums_term rules) → file (file_then rules) ≡ Ok (file_with sums_term rules)
reads_small rules whole small = elim (file_reads rules whole) [ inl ok ↦ ok | inr e ↦ absurd (e.2 small) ]

pub reads_large : (rules : FileText Sums) → IsWhole rules → (IsSmall (file_with sums_term rules) → ⊥) → (left : ℕ) × (file (file_then rules) ≡ Err (TooLarge left))
reads_large rules whole large = elim (file_reads rules whole) [ inl ok ↦ absurd (large (file_sound (file_then rules) (file_with sums_term rules) ok).1) | inr e ↦ (e.0, e.1) ]
