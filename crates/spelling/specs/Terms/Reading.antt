-- Reading an expression without a look at what stands between its parts: each text gives some expression and a rest, and
-- the text of an expression that fits gives that expression.
use Rattle.std.specs.Prelude.{ℕ, zero, suc, Bool, ◌||◌, ◌==◌, if◌then◌else◌, pos, List, [], ◌∷◌, ◌++◌, length, take, drop, slice_index, Option, Some, None, unwrap_or, find}
use Rattle.std.specs.List.{prefix_len}
use Rattle.std.specs.Str.{bytes_eq}
use Rattle.numeric.specs.declared.ty.Ty.{Ty}
use Rattle.numeric.specs.declared.ty.Ty.TheVariants.{I32}
use Rattle.numeric.specs.declared.op.Op.{Op}
use Rattle.numeric.specs.declared.op.Op.TheVariants as op
use Rattle.numeric.specs.declared.op.Comparison.{Comparison}
use Rattle.numeric.specs.declared.op.Comparison.TheVariants as by
use Rattle.tree.specs.Token.Spelling.{is_digit, is_word_byte, word_text}
use Rattle.tree.specs.Token.Lexical.{type_named}
use Rattle.tree.specs.declared.token.token.Word.{Word}
use Rattle.tree.specs.declared.token.token.Word.TheVariants as word
use Rattle.tree.specs.Term.{Term, Number, Name, Call, Minus, Binary, Clamp, Cast, Choice, Test, Compares, Fails, Both, Either, indices}
use Rattle.spelling.specs.Words.Reading.{begins, number_from}
use Rattle.spelling.specs.Terms.Spelling.{comparison_text}
use Rattle.spelling.specs.Terms.Fitting.{max_brackets}

-- ---- words

-- a letter, a digit, `_`, or the `@` of a load
abbrev pub is_name_byte : ℕ → Bool
is_name_byte b = is_word_byte b || b == 64

-- the bytes with which a name or a literal could go on
abbrev pub is_term_byte : ℕ → Bool
is_term_byte b = is_name_byte b || b == 91

-- the longest run of such bytes, and what follows it
abbrev pub word_of : List ℕ → List ℕ
word_of text = take (prefix_len is_name_byte text) text

abbrev pub after_word : List ℕ → List ℕ
after_word text = drop (prefix_len is_name_byte text) text

-- the words of the grammar that an expression or a condition begins with
abbrev pub heads : List Word
heads = word.Min ∷ word.Max ∷ word.Clamp ∷ word.Select ∷ word.Not ∷ word.All ∷ word.Any ∷ []

unfoldable pub head_named : List ℕ → Option Word
head_named text = find (λ w. bytes_eq (word_text w) text) heads

-- a number, and the type behind it, or an i32 where none stands there
unfoldable pub literal_at : List ℕ → Term × List ℕ
literal_at text = let n = number_from text in (Number (unwrap_or (type_named (word_of n.1)) I32) n.0, after_word n.1)

-- ---- signs

abbrev pub operator_of : ℕ → Op
operator_of b = if b == 43 then op.Add else (if b == 45 then op.Sub else (if b == 42 then op.Mul else (if b == 47 then op.Div else op.Rem)))

-- the comparison that the two first bytes of a text are
abbrev pub comparison_of : List ℕ → Comparison
comparison_of text =
    if begins 60 text then (if begins 61 (drop 1 text) then by.AtMost else by.Less)
    else (if begins 62 text then (if begins 61 (drop 1 text) then by.AtLeast else by.Greater)
    else (if begins 61 text then by.Equal else by.Different))

-- ---- one expression, by what reads what stands in its brackets

pub record Reader : Type 0 where
  pub term : List ℕ → Term × List ℕ
  pub test : List ℕ → Test × List ℕ

-- after `(`
unfoldable pub brackets_at : Reader → List ℕ → Term × List ℕ
brackets_at inner text =
    if begins 45 text
    then (let a = inner.term (drop 1 text) in (Minus a.0, drop 1 a.1))
    else (let a = inner.term text in let b = inner.term (drop 1 a.1) in (Binary (operator_of (slice_index a.1 0)) a.0 b.0, drop 1 b.1))

-- after the word, from the opening bracket on
unfoldable pub cast_at : Reader → Ty → List ℕ → Term × List ℕ
cast_at inner t text = let a = inner.term (drop 1 text) in (Cast t a.0, drop 1 a.1)

unfoldable pub extreme_at : Reader → Op → List ℕ → Term × List ℕ
extreme_at inner op text = let a = inner.term (drop 1 text) in let b = inner.term (drop 1 a.1) in (Binary op a.0 b.0, drop 1 b.1)

unfoldable pub clamp_at : Reader → List ℕ → Term × List ℕ
clamp_at inner text =
    let a = inner.term (drop 1 text) in
    let l = inner.term (drop 1 a.1) in
    let h = inner.term (drop 1 l.1) in
    (Clamp a.0 l.0 h.0, drop 1 h.1)

unfoldable pub choice_at : Reader → List ℕ → Term × List ℕ
choice_at inner text =
    let c = inner.test (drop 1 text) in
    let a = inner.term (drop 1 c.1) in
    let b = inner.term (drop 1 a.1) in
    (Choice c.0 a.0 b.0, drop 1 b.1)

-- indices as long as a comma stands between them; the number bounds them
unfoldable pub row_at : Reader → ℕ → List Term → List ℕ → List Term × List ℕ
row_at inner zero found text = (found, text)
row_at inner (suc most) found text =
    let a = inner.term text in
    if begins 44 a.1 then row_at inner most (found ++ a.0 ∷ []) (drop 1 a.1) else (found ++ a.0 ∷ [], a.1)

-- the indices of a call, after its opening bracket
unfoldable pub indices_at : Reader → List ℕ → List Term × List ℕ
indices_at inner text = row_at inner (length text) [] text

-- a name, or a call where an opening bracket follows
unfoldable pub named_at : Reader → List ℕ → List ℕ → Term × List ℕ
named_at inner name text =
    if begins 91 text
    then (let at = indices_at inner (drop 1 text) in (Call name (indices at.0), drop 1 at.1))
    else (Name name, text)

-- what a word stands for, by its type or its head
abbrev pub headed_at : Reader → List ℕ → List ℕ → Option Ty → Option Word → Term × List ℕ
headed_at inner name text (Some t) w = cast_at inner t text
headed_at inner name text None (Some word.Min) = extreme_at inner op.Min text
headed_at inner name text None (Some word.Max) = extreme_at inner op.Max text
headed_at inner name text None (Some word.Clamp) = clamp_at inner text
headed_at inner name text None (Some word.Select) = choice_at inner text
headed_at inner name text None w = named_at inner name text

unfoldable pub word_at : Reader → List ℕ → Term × List ℕ
word_at inner text = headed_at inner (word_of text) (after_word text) (type_named (word_of text)) (head_named (word_of text))

-- the first byte tells what stands there
unfoldable pub term_at : Reader → List ℕ → Term × List ℕ
term_at inner text =
    if begins 40 text then brackets_at inner (drop 1 text)
    else (if is_digit (slice_index text 0) then literal_at text else word_at inner text)

-- ---- conditions

-- a comparison has no brackets, so its sides are read in those that are left
unfoldable pub compared_at : Reader → List ℕ → Test × List ℕ
compared_at inner text =
    let a = term_at inner text in
    let by = comparison_of a.1 in
    let b = term_at inner (drop (length (comparison_text by)) a.1) in
    (Compares by a.0 b.0, b.1)

unfoldable pub denied_at : Reader → List ℕ → Test × List ℕ
denied_at inner text = let c = inner.test (drop 1 text) in (Fails c.0, drop 1 c.1)

-- two conditions
unfoldable pub both_at : Reader → List ℕ → (Test × Test) × List ℕ
both_at inner text = let c = inner.test (drop 1 text) in let d = inner.test (drop 1 c.1) in ((c.0, d.0), drop 1 d.1)

abbrev pub tested_at : Reader → List ℕ → List ℕ → Option Word → Test × List ℕ
tested_at inner text rest (Some word.Not) = denied_at inner rest
tested_at inner text rest (Some word.All) = let p = both_at inner rest in (Both p.0.0 p.0.1, p.1)
tested_at inner text rest (Some word.Any) = let p = both_at inner rest in (Either p.0.0 p.0.1, p.1)
tested_at inner text rest w = compared_at inner text

unfoldable pub test_at : Reader → List ℕ → Test × List ℕ
test_at inner text = tested_at inner text (after_word text) (head_named (word_of text))

-- ---- any number of brackets

-- what stands for an expression where no bracket is left
abbrev pub nothing : Term
nothing = Number I32 (pos 0)

-- what reads within brackets, where so many may be open
unfoldable pub within : ℕ → Reader
within zero = record { term = λ text. (nothing, text); test = λ text. (Compares by.Less nothing nothing, text) }
within (suc brackets) = record { term = term_at (within brackets); test = test_at (within brackets) }

-- some expression, and what follows it
unfoldable pub term_from : List ℕ → Term × List ℕ
term_from text = term_at (within max_brackets) text
