-- The names of calls stand in the text: a call begins with its name's token.
use Rattle.std.proofs.Common.{◌≡◌, ℕ, zero, suc, ◌+◌, ◌-◌, ◌≤◌, inl, inr, List, [], ◌∷◌, ◌++◌, length, take, drop, All, refl, ap, sym, subst, ◌∙◌, string_bytes, arith}
use Rattle.std.specs.Prelude.{min}
use Rattle.std.specs.List.{flat_map}
use Rattle.std.proofs.lemmas.List.{length-take, take_min}
use Rattle.std.proofs.lemmas.List.Elements.{All-nil, All-cons, All-head, All-tail, All-append}
use Rattle.tree.specs.declared.token.span.Span.{Span}
use Rattle.tree.specs.declared.token.token.Token.{Token}
use Rattle.tree.specs.declared.token.token.Word.TheVariants as word
use Rattle.tree.specs.declared.token.token.Token.TheVariants as token
use Rattle.tree.specs.declared.token.token.Lexeme.{Lexeme}
use Rattle.tree.specs.Token.Spelling.{IsSpelled}
use Rattle.tree.specs.Token.Lexical.{gap, slice, AreUpTo}
use Rattle.tree.proofs.Spelled.{token_spelled}
use Rattle.tree.specs.declared.expr.Expr.{Expr, Literal, Variable, Call', Negate', Binary', Clamp', Cast', Select', Row_of-Expr, end_of-Expr, more_of-Expr}
use Rattle.tree.specs.declared.expr.Cond.{Cond, Compare, Not', All', Any'}
use Rattle.tree.specs.Term.{terms_of}
use Rattle.tree.proofs.Uses.{All-left, All-right}
use Rattle.expr.specs.Text.{last_end}
use Rattle.expr.specs.Places.{Form, Covers, ◌⨾◌, Part, InBrackets, of_one, of_two, of_three, Stands, RowStands, TestStands}
use Rattle.algo.specs.Scoping.Standing.{Written, written, name_place, placed_calls, placed_calls_of_all, placed_calls_of_test}
use Rattle.expr.specs.Statements.Marks.{Mark, Marks, stands, begins, ends, spells, AreMarked, PartsStand, named_marks, type_marks, domain_marks, input_marks, expression_marks, update_marks, statement_marks, output_marks, file_marks}
use Rattle.expr.specs.declared.statements.statement.Statement.{Statement}
use Rattle.expr.specs.declared.statements.statement.Statement.TheVariants as statement
use Rattle.expr.specs.declared.statements.statement.File.{File}
use Rattle.algo.specs.Calls.{expressions, CallStands, CallsStandIn, CallsStand}

-- ---- tokens one behind the other

-- each token is what the text has at its place, and ends no earlier than the one before it
abbrev Follow : List ℕ → ℕ → List Lexeme → Type 0
Follow text from [] = Unit {0}
Follow text from (l ∷ ls) = (from ≤ l.span.end) × IsSpelled l.token (slice text l.span) × Follow text l.span.end ls

earlier : (text : List ℕ) (from : ℕ) (ls : List Lexeme) → Follow text from ls → Follow text 0 ls
earlier text from [] h = tt
earlier text from (l ∷ ls) h = (omega arith, h.1, h.2)

follow_left : (text : List ℕ) (from : ℕ) (xs ys : List Lexeme) → Follow text from (xs ++ ys) → Follow text from xs
follow_left text from [] ys h = tt
follow_left text from (x ∷ xs) ys h = (h.0, h.1, follow_left text x.span.end xs ys h.2)

follow_right : (text : List ℕ) (from : ℕ) (xs ys : List Lexeme) → Follow text from (xs ++ ys) → Follow text 0 ys
follow_right text from [] ys h = earlier text from ys h
follow_right text from (x ∷ xs) ys h = follow_right text x.span.end xs ys h.2

lexemes_follow : (text : List ℕ) (Ends : ℕ → Type 0) (from at : ℕ) (ls : List Lexeme) → from ≤ at → AreUpTo Ends text at ls → Follow text from ls
lexemes_follow text Ends from at [] le h = tt
lexemes_follow text Ends from at (l ∷ ls) le h =
    let start : at ≡ l.span.start = sym h.1 in
    let spelled : IsSpelled l.token (slice text l.span) =
    subst (λ (n : ℕ). IsSpelled l.token (take (l.span.end - n) (drop n text))) start (token_spelled (drop at text) l.token (l.span.end - at) h.2) in
    (omega (arith, h.3, le), spelled, lexemes_follow text Ends l.span.end (l.span.end + gap (drop l.span.end text)) ls (omega arith) h.4)

last_behind : (text : List ℕ) (from : ℕ) (ls : List Lexeme) → Follow text from ls → from ≤ last_end ls from
last_behind text from [] h = omega arith
last_behind text from (l ∷ ls) h = omega (arith, h.0, last_behind text l.span.end ls h.2)

-- ---- a call

-- as many bytes as the front that was taken has
front_again : (bytes name : List ℕ) (start end last : ℕ) → end ≤ last → take (end - start) bytes ≡ name → take (min (start + length name) last - start) bytes ≡ name
front_again bytes name start end last le is =
    let count : length name ≡ min (end - start) (length bytes) = sym (ap length is) ∙ length-take (end - start) bytes in
    let same : min (start + length name) last - start ≡ min (end - start) (length bytes) = omega (arith, count, le) in
    ap (λ (n : ℕ). take n bytes) same ∙ take_min (end - start) bytes ∙ is

module _ (text : List ℕ) where
  abbrev Good : List Lexeme → Type 0
  Good = Follow text 0

  call_stands : (name : List ℕ) (s : Span) (l : Lexeme) (ls : List Lexeme) → Good (l ∷ ls) → Covers (l ∷ ls) s → l.token ≡ token.Name name → slice text (name_place name s) ≡ name
  call_stands name s l ls good covers is =
      let spelled : IsSpelled (token.Name name) (slice text l.span) = subst (λ (t : Token). IsSpelled t (slice text l.span)) is good.1 in
      let last = last_behind text l.span.end ls good.2 in
      subst (λ (p : Span). slice text (name_place name p) ≡ name) (sym covers)
      (front_again (drop l.span.start text) name l.span.start l.span.end (last_end ls l.span.end) last spelled.0)

  -- ---- forms one behind the other

  module _ {P Q : Form} (ls : List Lexeme) (good : Good ls) (h : (P ⨾ Q) ls) where
    good_first : Good h.first
    good_first = follow_left text 0 h.first h.second (subst Good h.is good)

    good_second : Good h.second
    good_second = follow_right text 0 h.first h.second (subst Good h.is good)

  -- what follows from a form of tokens that stand in the text
  abbrev Gives : Form → Type 0 → Type 0
  Gives P X = (ls : List Lexeme) → Good ls → P ls → X

  then_both : {P Q : Form} (X Y : Type 0) → Gives P X → Gives Q Y → Gives (P ⨾ Q) (X × Y)
  then_both X Y f g ls good h = (f h.first (good_first ls good h) h.this, g h.second (good_second ls good h) h.that)

  then_first : {P Q : Form} (X : Type 0) → Gives P X → Gives (P ⨾ Q) X
  then_first X f ls good h = f h.first (good_first ls good h) h.this

  then_second : {P Q : Form} (X : Type 0) → Gives Q X → Gives (P ⨾ Q) X
  then_second X f ls good h = f h.second (good_second ls good h) h.that

  -- brackets round a form
  in_brackets : {P : Form} (X : Type 0) → Gives P X → (n : ℕ) → Gives (InBrackets n P) X
  in_brackets X f zero ls good h = f ls good h
  in_brackets X f (suc n) ls good h = then_second X (then_first X (in_brackets X f n)) ls good h

  in_part : {P : Form} (X : Type 0) → Gives P X → Gives (Part P) X
  in_part X f ls good h = in_brackets X f h.brackets ls good h.is

  inside_one : {F A : Form} (X : Type 0) → Gives A X → Gives (of_one F A) X
  inside_one X f = then_second X (then_second X (then_first X f))

  inside_two : {F A B : Form} (X Y : Type 0) → Gives A X → Gives B Y → Gives (of_two F A B) (X × Y)
  inside_two X Y f g = then_second (X × Y) (then_second (X × Y) (then_both X Y f (then_second Y (then_first Y g))))

  inside_three : {F A B C : Form} (X Y Z : Type 0) → Gives A X → Gives B Y → Gives C Z → Gives (of_three F A B C) (X × (Y × Z))
  inside_three X Y Z f g k =
      let W = X × (Y × Z) in
      then_second W (then_second W (then_both X (Y × Z) f (then_second (Y × Z) (then_both Y Z g (then_second Z (then_first Z k))))))

  -- ---- expressions

  abbrev Named : List (Written × Span) → Type 0
  Named = All (CallStands text)

  two : (xs ys : List (Written × Span)) → Named xs × Named ys → Named (xs ++ ys)
  two xs ys h = All-append (CallStands text) xs ys h.0 h.1

  three : (xs ys zs : List (Written × Span)) → Named xs × (Named ys × Named zs) → Named (xs ++ ys ++ zs)
  three xs ys zs h = two (xs ++ ys) zs (two xs ys (h.0, h.1.0), h.1.1)

  called_by : (name : List ℕ) (s : Span) (at : _) (ls : List Lexeme) → Good ls → Covers ls s → (l : Lexeme) (rest : List Lexeme) → ls ≡ l ∷ rest → l.token ≡ token.Name name → CallStands text (written name at, s)
  called_by name s at ls good covers l rest is named =
      call_stands name s l rest (subst Good is good) (subst (λ xs. Covers xs s) is covers) named

  mutual
    in_expr : (e : Expr) → Gives (Stands e) (Named (placed_calls e))
    in_expr (Literal t n s) ls good h = All-nil (CallStands text)
    in_expr (Variable name s) ls good h = All-nil (CallStands text)
    in_expr (Call' name shape at s) ls good h =
        let P = CallStands text in
        let name_token = h.1.this in
        let here = called_by (string_bytes name) s (terms_of at) ls good h.0 (record { token = token.Name (string_bytes name); span = name_token.span }) h.1.second (h.1.is ∙ ap (λ xs. xs ++ h.1.second) name_token.is) refl in
        All-cons P (written (string_bytes name) (terms_of at), s) (placed_calls_of_all at) here
        (then_second (Named (placed_calls_of_all at)) (then_second (Named (placed_calls_of_all at)) (in_row at)) ls good h.1)
    in_expr (Negate' p a s) ls good h = then_second (Named (placed_calls a)) (in_part (Named (placed_calls a)) (in_expr a)) ls good h.1
    in_expr (Binary' o p a q b s) ls good (at, inl h) =
        let X = Named (placed_calls a) in
        let Y = Named (placed_calls b) in
        two (placed_calls a) (placed_calls b) (then_both X Y (in_part X (in_expr a)) (then_second Y (in_part Y (in_expr b))) ls good h)
    in_expr (Binary' o p a q b s) ls good (at, inr h) =
        let X = Named (placed_calls a) in
        let Y = Named (placed_calls b) in
        two (placed_calls a) (placed_calls b) (inside_two X Y (in_part X (in_expr a)) (in_part Y (in_expr b)) ls good h)
    in_expr (Clamp' p a q l r u s) ls good h =
        let X = Named (placed_calls a) in
        let Y = Named (placed_calls l) in
        let Z = Named (placed_calls u) in
        three (placed_calls a) (placed_calls l) (placed_calls u) (inside_three X Y Z (in_part X (in_expr a)) (in_part Y (in_expr l)) (in_part Z (in_expr u)) ls good h.1)
    in_expr (Cast' t p a s) ls good h = inside_one (Named (placed_calls a)) (in_part (Named (placed_calls a)) (in_expr a)) ls good h.1
    in_expr (Select' p c q a r b s) ls good h =
        let X = Named (placed_calls_of_test c) in
        let Y = Named (placed_calls a) in
        let Z = Named (placed_calls b) in
        three (placed_calls_of_test c) (placed_calls a) (placed_calls b) (inside_three X Y Z (in_test c) (in_part Y (in_expr a)) (in_part Z (in_expr b)) ls good h.1)

    in_row : {n : _} (at : Row_of-Expr n) → Gives (RowStands at) (Named (placed_calls_of_all at))
    in_row end_of-Expr ls good h = All-nil (CallStands text)
    in_row (more_of-Expr a rest) ls good h =
        let X = Named (placed_calls a) in
        let Y = Named (placed_calls_of_all rest) in
        two (placed_calls a) (placed_calls_of_all rest) (then_both X Y (in_part X (in_expr a)) (then_second Y (in_row rest)) ls good h)

    in_test : (c : Cond) → Gives (TestStands c) (Named (placed_calls_of_test c))
    in_test (Compare by a b s) ls good h =
        let X = Named (placed_calls a) in
        let Y = Named (placed_calls b) in
        two (placed_calls a) (placed_calls b) (then_both X Y (in_part X (in_expr a)) (then_second Y (in_part Y (in_expr b))) ls good h.1)
    in_test (Not' p c s) ls good h = inside_one (Named (placed_calls_of_test c)) (in_test c) ls good h.1
    in_test (All' p c q d s) ls good h =
        let xs = placed_calls_of_test c in
        let ys = placed_calls_of_test d in
        two xs ys (inside_two (Named xs) (Named ys) (in_test c) (in_test d) ls good h.1)
    in_test (Any' p c q d s) ls good h =
        let xs = placed_calls_of_test c in
        let ys = placed_calls_of_test d in
        two xs ys (inside_two (Named xs) (Named ys) (in_test c) (in_test d) ls good h.1)

  -- ---- marks

  abbrev MarkStands : Mark → Type 0
  MarkStands (spells e) = CallsStandIn text e
  MarkStands _ = Unit {0}

  mark_stands : (m : Mark) → Gives (Marks m) (MarkStands m)
  mark_stands (spells e) ls good h = in_part (CallsStandIn text e) (in_expr e) ls good h
  mark_stands (stands t s) ls good h = tt
  mark_stands (begins t n) ls good h = tt
  mark_stands (ends t n) ls good h = tt

  marks_stand : (ms : List Mark) (ls : List Lexeme) → Good ls → AreMarked ms ls → All MarkStands ms
  marks_stand [] ls good h = All-nil MarkStands
  marks_stand (m ∷ ms) ls good h =
      let behind = follow_right text 0 h.before (h.here ++ h.behind) (subst Good h.is good) in
      All-cons MarkStands m ms (mark_stands m h.here (follow_left text 0 h.here h.behind behind) h.this)
      (marks_stand ms h.behind (follow_right text 0 h.here h.behind behind) h.that)

  marked_expressions : (es : List Expr) → All MarkStands (flat_map expression_marks es) → All (CallsStandIn text) es
  marked_expressions [] h = All-nil (CallsStandIn text)
  marked_expressions (e ∷ es) h =
      let rest = flat_map expression_marks es in
      All-cons (CallsStandIn text) e es (All-head MarkStands (spells e) rest h) (marked_expressions es (All-tail MarkStands (spells e) rest h))

  statement_calls : (s : Statement) → All MarkStands (statement_marks s) → All (CallsStandIn text) (expressions s)
  statement_calls (statement.Function s) h =
      let before = named_marks s.name ++ type_marks s.ty s.ty_span ++ flat_map named_marks s.variables.items in
      marked_expressions (s.value ∷ []) (All-right MarkStands before (expression_marks s.value) h)
  statement_calls (statement.Update s) h =
      let before = named_marks s.name ++ flat_map domain_marks s.domains.items in
      let at = flat_map expression_marks s.at.items in
      let value = expression_marks s.value in
      let all = All-tail MarkStands (stands (token.Word word.Update) s.word) (update_marks s) h in
      let left = marked_expressions s.at.items (All-right MarkStands before at (All-left MarkStands (before ++ at) value all)) in
      All-append (CallsStandIn text) s.at.items (s.value ∷ []) left (marked_expressions (s.value ∷ []) (All-right MarkStands (before ++ at) value all))

  abbrev StatementCalls : Statement → Type 0
  StatementCalls s = All (CallsStandIn text) (expressions s)

  statements_calls : (ss : List Statement) → All MarkStands (flat_map statement_marks ss) → All StatementCalls ss
  statements_calls [] h = All-nil StatementCalls
  statements_calls (s ∷ ss) h =
      let rest = flat_map statement_marks ss in
      All-cons StatementCalls s ss (statement_calls s (All-left MarkStands (statement_marks s) rest h)) (statements_calls ss (All-right MarkStands (statement_marks s) rest h))

-- where the parts of a file stand, so do the names of its calls
pub calls_stand : (text : List ℕ) (file : File) → PartsStand text file → CallsStand text file
calls_stand text file h =
    let good = lexemes_follow text (λ (at : ℕ). length text ≤ at) 0 (gap text) h.lexemes (omega arith) h.tokens in
    let before = named_marks file.name ++ input_marks file.input in
    let statements = flat_map statement_marks file.statements.items in
    let marked = marks_stand text (file_marks file) h.lexemes good h.marked in
    statements_calls text file.statements.items (All-right (MarkStands text) before statements (All-left (MarkStands text) (before ++ statements) (output_marks file.output) marked))
