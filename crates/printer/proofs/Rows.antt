-- Names, calls and the indices of a call.
use Rattle.std.proofs.Common.{◌≡◌, ℕ, zero, suc, ◌+◌, ◌<◌, Bool, true, List, [], ◌∷◌, ◌++◌, length, take, get_or, refl, sym, ap, ◌∙◌, append_assoc, length-take-le, arith}
use Rattle.std.specs.Prelude.{slice_index}
use Rattle.std.specs.List.{list_all}
use Rattle.std.proofs.lemmas.Bool.Decides.{nat_tests}
use Rattle.std.proofs.lemmas.List.{take_more, append-nil}
use Rattle.tree.specs.declared.expr.Expr.{Expr}
use Rattle.tree.specs.declared.token.token.Token.{Token}
use Rattle.tree.specs.declared.token.token.Token.TheVariants as token
use Rattle.tree.specs.Token.Spelling.{is_word_byte}
use Rattle.tree.specs.Term.{term_of, list_terms, indices}
use Rattle.spelling.specs.Words.Fitting.{is_name}
use Rattle.spelling.proofs.Runs.{both}
use Rattle.spelling.proofs.WordsAgain.{name_bytes}
use Rattle.printer.specs.Tokens.{term_tokens, row_tokens, others_tokens, comma_before, called_token, name_token}

word_byte_is_ascii : (b : ℕ) → is_word_byte b ≡ true → b < 128
word_byte_is_ascii b h = grind (arith, nat_tests)

ascii_from : (bytes : List ℕ) → list_all is_word_byte bytes ≡ true → (i : ℕ) → slice_index bytes i < 128
ascii_from [] h i = omega arith
ascii_from (b ∷ bytes) h zero = word_byte_is_ascii b (both (is_word_byte b) (list_all is_word_byte bytes) h).0
ascii_from (b ∷ bytes) h (suc i) = ascii_from bytes (both (is_word_byte b) (list_all is_word_byte bytes) h).1 i

-- names are ASCII
pub name_is_ascii : (name : List ℕ) → is_name name ≡ true → (i : ℕ) → slice_index name i < 128
name_is_ascii name h = ascii_from name (name_bytes name h)

-- a call with indices
pub called_some : (name : List ℕ) (at : List Expr) (r : Token) → 0 < length at → r ≡ name_token name → r ≡ called_token name (indices (list_terms at))
called_some name [] r some is = absurd (omega arith)
called_some name (a ∷ at) r some is = is

pub called_none : (name : List ℕ) (at : List Expr) → length at ≡ 0 → token.LongName ≡ called_token name (indices (list_terms at))
called_none name [] none = refl
called_none name (a ∷ at) none = absurd (omega (arith, none))

others_more : (at : List Expr) (x : Expr) → others_tokens (indices (list_terms (at ++ x ∷ []))) ≡ others_tokens (indices (list_terms at)) ++ (comma_before 1 ++ term_tokens (term_of x))
others_more [] x = ap (λ ts. comma_before 1 ++ ts) (append-nil (term_tokens (term_of x)))
others_more (a ∷ at) x =
    ap (λ ts. comma_before 1 ++ (term_tokens (term_of a) ++ ts)) (others_more at x)
    ∙ ap (λ ts. comma_before 1 ++ ts) (sym (append_assoc (term_tokens (term_of a)) (others_tokens (indices (list_terms at))) (comma_before 1 ++ term_tokens (term_of x))))

one_more : (at : List Expr) (x : Expr) → row_tokens (indices (list_terms (at ++ x ∷ []))) ≡ row_tokens (indices (list_terms at)) ++ (comma_before (length at) ++ term_tokens (term_of x))
one_more [] x = append-nil (term_tokens (term_of x))
one_more (a ∷ at) x =
    ap (λ ts. term_tokens (term_of a) ++ ts) (others_more at x)
    ∙ sym (append_assoc (term_tokens (term_of a)) (others_tokens (indices (list_terms at))) (comma_before 1 ++ term_tokens (term_of x)))

-- one index more
pub row_more : (at : List Expr) (i : ℕ) (x : Expr) (start now between next : List Token) → i < length at → x ≡ get_or at i x → now ≡ start ++ row_tokens (indices (list_terms (take i at)))
    → between ≡ now ++ comma_before i → next ≡ between ++ term_tokens (term_of x) → next ≡ start ++ row_tokens (indices (list_terms (take (i + 1) at)))
row_more at i x start now between next lt is so_far comma written =
    let long : length (take i at) ≡ i = omega (arith, length-take-le i at (omega arith)) in
    let whole : take i at ++ x ∷ [] ≡ take (i + 1) at = ap (λ (y : Expr). take i at ++ y ∷ []) is ∙ sym (take_more at i x lt) in
    let front = row_tokens (indices (list_terms (take i at))) in
    let own = term_tokens (term_of x) in
    written
    ∙ ap (λ ts. ts ++ own) (comma ∙ ap (λ ts. ts ++ comma_before i) so_far)
    ∙ append_assoc (start ++ front) (comma_before i) own
    ∙ append_assoc start front (comma_before i ++ own)
    ∙ ap (λ (n : ℕ). start ++ (front ++ (comma_before n ++ own))) (sym long)
    ∙ ap (λ ts. start ++ ts) (sym (one_more (take i at) x))
    ∙ ap (λ (xs : List Expr). start ++ row_tokens (indices (list_terms xs))) whole
