-- Reading one node of an expression, where its parts are read.
use Rattle.std.proofs.Common.{◌≡◌, ℕ, zero, suc, ◌<◌, ◌^◌, Bool, true, false, ◌||◌, List, [], ◌∷◌, ◌++◌, length, drop, Option, Some, None, refl, ap, ◌∙◌, append_assoc, arith, length-append}
use Rattle.std.specs.Prelude.{slice_index, ◌==◌, pos, ⊤}
use Rattle.std.specs.Fmt.{decimal}
use Rattle.std.proofs.lemmas.Bool.Decides.{nat_tests}
use Rattle.numeric.specs.declared.ty.Ty.{Ty}
use Rattle.numeric.specs.declared.ty.Ty.TheVariants as ty
use Rattle.numeric.specs.declared.op.Op.{Op}
use Rattle.numeric.specs.declared.op.Op.TheVariants as op
use Rattle.numeric.specs.declared.op.Comparison.{Comparison}
use Rattle.numeric.specs.declared.op.Comparison.TheVariants as by
use Rattle.tree.specs.Token.Spelling.{type_text}
use Rattle.tree.specs.Token.Lexical.{type_named}
use Rattle.tree.specs.declared.token.token.Word.{Word}
use Rattle.tree.specs.declared.token.token.Word.TheVariants as word
use Rattle.tree.specs.Term.{Term, Number, Name, Call, Minus, Binary, Clamp, Cast, Choice, Terms, End, More, Test, Compares, Fails, Both, Either, indices}
use Rattle.spelling.specs.Words.Fitting.{fits_number}
use Rattle.spelling.specs.Words.Reading.{Stops, begins, number_from}
use Rattle.spelling.proofs.Runs.{decimal_first}
use Rattle.spelling.proofs.WordsAgain.{number_again}
use Rattle.spelling.specs.Terms.Spelling.{suffix_text, in_brackets, listed, operator_word, operator_sign, comparison_text, term_text, test_text, row_text}
use Rattle.spelling.specs.Terms.Reading.{is_name_byte, is_term_byte, word_of, after_word, head_named, literal_at, operator_of, comparison_of, Reader, brackets_at, cast_at, extreme_at, clamp_at, choice_at, row_at, indices_at, named_at, word_at, term_at, compared_at, denied_at, both_at, tested_at, test_at}
use Rattle.spelling.proofs.TermsWords.{stops_name, stops_call, stops_digit, front_word, behind_word, IsFree, suffix_bytes, suffix_stops, suffix_type, digit_no_bracket, name_no_bracket}

-- the part is read where it stands in brackets
abbrev pub Reads : Reader → Term → Type 0
Reads inner a = (rest : List ℕ) → Stops is_term_byte rest → inner.term (term_text a ++ rest) ≡ (a, rest)

abbrev pub ReadsTest : Reader → Test → Type 0
ReadsTest inner c = (rest : List ℕ) → Stops is_term_byte rest → inner.test (test_text c ++ rest) ≡ (c, rest)

-- it is read by what reads its parts
abbrev pub ReadsHere : Reader → Term → Type 0
ReadsHere inner a = (rest : List ℕ) → Stops is_term_byte rest → term_at inner (term_text a ++ rest) ≡ (a, rest)

abbrev pub ReadsTestHere : Reader → Test → Type 0
ReadsTestHere inner c = (rest : List ℕ) → Stops is_term_byte rest → test_at inner (test_text c ++ rest) ≡ (c, rest)

-- its text begins with an opening bracket, a letter, a digit, `_` or `@`
abbrev pub is_start : ℕ → Bool
is_start b = b == 40 || is_name_byte b

abbrev pub Starts : Term → Type 0
Starts a = (rest : List ℕ) → is_start (slice_index (term_text a ++ rest) 0) ≡ true

no_minus : (b : ℕ) → is_start b ≡ true → (b == 45) ≡ false
no_minus b h = grind (arith, nat_tests)

no_equals : (b : ℕ) → is_start b ≡ true → (b == 61) ≡ false
no_equals b h = grind (arith, nat_tests)

-- ---- texts taken apart

cut_one : (a rest : List ℕ) → in_brackets a ++ rest ≡ 40 ∷ (a ++ 41 ∷ rest)
cut_one a rest = ap (λ (t : List ℕ). 40 ∷ t) (append_assoc a (41 ∷ []) rest)

cut_two : (a b rest : List ℕ) (s : ℕ) → in_brackets (a ++ (s ∷ b)) ++ rest ≡ 40 ∷ (a ++ s ∷ (b ++ 41 ∷ rest))
cut_two a b rest s = cut_one (a ++ (s ∷ b)) rest ∙ ap (λ (t : List ℕ). 40 ∷ t) (append_assoc a (s ∷ b) (41 ∷ rest))

cut_three : (a b c rest : List ℕ) → in_brackets (listed a (listed b c)) ++ rest ≡ 40 ∷ (a ++ 44 ∷ (b ++ 44 ∷ (c ++ 41 ∷ rest)))
cut_three a b c rest = cut_two a (listed b c) rest 44 ∙ ap (λ (t : List ℕ). 40 ∷ (a ++ 44 ∷ t)) (append_assoc b (44 ∷ c) (41 ∷ rest))

-- ---- leaves

pub literal_step : (inner : Reader) (t : Ty) (n : ℕ) → fits_number (pos n) ≡ true → n < 2 ^ 64 → ReadsHere inner (Number t (pos n))
unfolding term_at literal_at
literal_step inner t n fits small rest h =
    let tail = suffix_text t ++ rest in
    let digit = decimal_first n tail small in
    let bracket = digit_no_bracket (slice_index (decimal n ++ tail) 0) digit in
    let read : number_from (decimal n ++ tail) ≡ (pos n, tail) = number_again (pos n) tail fits (suffix_stops t rest (stops_digit rest h)) in
    rw (append_assoc (decimal n) (suffix_text t) rest, bracket, digit, read, front_word (suffix_text t) rest (suffix_bytes t) (stops_name rest h), behind_word (suffix_text t) rest (suffix_bytes t) (stops_name rest h), suffix_type t) refl

-- what a name begins
free_step : (inner : Reader) (name text : List ℕ) → IsFree name → Stops is_name_byte text → term_at inner (name ++ text) ≡ named_at inner name text
unfolding term_at word_at
free_step inner name text free h =
    let bracket = name_no_bracket (slice_index (name ++ text) 0) (free.lead text) in
    rw (bracket, free.no_digit text, front_word name text free.bytes h, behind_word name text free.bytes h, free.no_type, free.no_head) refl

pub name_step : (inner : Reader) (name : List ℕ) → IsFree name → ReadsHere inner (Name name)
unfolding named_at
name_step inner name free rest h = free_step inner name rest free (stops_name rest h) ∙ rw (stops_call rest h) refl

-- ---- brackets

pub minus_step : (inner : Reader) (a : Term) → Reads inner a → ReadsHere inner (Minus a)
unfolding term_at brackets_at
minus_step inner a ra rest h = ap (λ (t : List ℕ). term_at inner t) (cut_one (45 ∷ term_text a) rest) ∙ rw (ra (41 ∷ rest) refl) refl

-- an operator whose sign stands between its operands
pub sign_step : (inner : Reader) (o : Op) (s : ℕ) (a b : Term) → operator_word o ≡ [] → operator_sign o ≡ s ∷ [] → operator_of s ≡ o → is_term_byte s ≡ false
    → Starts a → Reads inner a → Reads inner b → ReadsHere inner (Binary o a b)
unfolding term_at brackets_at
sign_step inner o s a b none sign is ends start ra rb rest h =
    let tail = s ∷ (term_text b ++ 41 ∷ rest) in
    let minus = no_minus (slice_index (term_text a ++ tail) 0) (start tail) in
    let cut : term_text (Binary o a b) ++ rest ≡ 40 ∷ (term_text a ++ tail) = (λ i. (none i ++ in_brackets (term_text a ++ (sign i ++ term_text b))) ++ rest) ∙ cut_two (term_text a) (term_text b) rest s in
    ap (λ (t : List ℕ). term_at inner t) cut ∙ rw (minus, ra tail ends, rb (41 ∷ rest) refl, is) refl

pub min_step : (inner : Reader) (a b : Term) → Reads inner a → Reads inner b → ReadsHere inner (Binary op.Min a b)
unfolding term_at word_at type_named head_named extreme_at
min_step inner a b ra rb rest h = rw (cut_two (term_text a) (term_text b) rest 44, ra (44 ∷ (term_text b ++ 41 ∷ rest)) refl, rb (41 ∷ rest) refl) refl

pub max_step : (inner : Reader) (a b : Term) → Reads inner a → Reads inner b → ReadsHere inner (Binary op.Max a b)
unfolding term_at word_at type_named head_named extreme_at
max_step inner a b ra rb rest h = rw (cut_two (term_text a) (term_text b) rest 44, ra (44 ∷ (term_text b ++ 41 ∷ rest)) refl, rb (41 ∷ rest) refl) refl

pub clamp_step : (inner : Reader) (a l u : Term) → Reads inner a → Reads inner l → Reads inner u → ReadsHere inner (Clamp a l u)
unfolding term_at word_at type_named head_named clamp_at
clamp_step inner a l u ra rl ru rest h =
    let last = term_text u ++ 41 ∷ rest in
    rw (cut_three (term_text a) (term_text l) (term_text u) rest, ra (44 ∷ (term_text l ++ 44 ∷ last)) refl, rl (44 ∷ last) refl, ru (41 ∷ rest) refl) refl

pub choice_step : (inner : Reader) (c : Test) (a b : Term) → ReadsTest inner c → Reads inner a → Reads inner b → ReadsHere inner (Choice c a b)
unfolding term_at word_at type_named head_named choice_at
choice_step inner c a b rc ra rb rest h =
    let last = term_text b ++ 41 ∷ rest in
    rw (cut_three (test_text c) (term_text a) (term_text b) rest, rc (44 ∷ (term_text a ++ 44 ∷ last)) refl, ra (44 ∷ last) refl, rb (41 ∷ rest) refl) refl

cast_word : (inner : Reader) (t : Ty) (text : List ℕ) → term_at inner (type_text t ++ 40 ∷ text) ≡ cast_at inner t (40 ∷ text)
unfolding term_at word_at type_named head_named
cast_word inner ty.U8 text = refl
cast_word inner ty.U16 text = refl
cast_word inner ty.U32 text = refl
cast_word inner ty.I8 text = refl
cast_word inner ty.I16 text = refl
cast_word inner ty.I32 text = refl

pub cast_step : (inner : Reader) (t : Ty) (a : Term) → Reads inner a → ReadsHere inner (Cast t a)
unfolding cast_at
cast_step inner t a ra rest h =
    rw (append_assoc (type_text t) (in_brackets (term_text a)) rest, cut_one (term_text a) rest, cast_word inner t (term_text a ++ 41 ∷ rest), ra (41 ∷ rest) refl) refl

-- ---- calls

abbrev pub AllRead : Reader → Terms → Type 0
AllRead inner End = ⊤
AllRead inner (More a rest) = Reads inner a × AllRead inner rest

abbrev list_of : Terms → List Term
list_of End = []
list_of (More a rest) = a ∷ list_of rest

indices_of : (at : Terms) → indices (list_of at) ≡ at
indices_of End = refl
indices_of (More a rest) = ap (More a) (indices_of rest)

row_stops : (m : ℕ) (at : Terms) (rest : List ℕ) → Stops is_term_byte (row_text (suc m) at ++ 93 ∷ rest)
row_stops m End rest = refl
row_stops m (More a at) rest = refl

row_read : (inner : Reader) (m most : ℕ) (found : List Term) (a : Term) (at : Terms) (rest : List ℕ) → length (list_of at) < most → Reads inner a → AllRead inner at
    → row_at inner most found (term_text a ++ (row_text (suc m) at ++ 93 ∷ rest)) ≡ (found ++ a ∷ list_of at, 93 ∷ rest)
unfolding row_at
row_read inner m zero found a at rest lt ra rs = absurd (omega arith)
row_read inner m (suc most) found a End rest lt ra rs = rw (ra (93 ∷ rest) refl) refl
row_read inner m (suc most) found a (More b at) rest lt ra rs =
    let tail = term_text b ++ (row_text (suc (suc m)) at ++ 93 ∷ rest) in
    let cut : row_text (suc m) (More b at) ++ 93 ∷ rest ≡ 44 ∷ tail = ap (λ (t : List ℕ). 44 ∷ t) (append_assoc (term_text b) (row_text (suc (suc m)) at) (93 ∷ rest)) in
    rw (cut, ra (44 ∷ tail) refl)
    (row_read inner (suc m) most (found ++ a ∷ []) b at rest (omega arith) rs.0 rs.1 ∙ ap (λ (xs : List Term). (xs, 93 ∷ rest)) (append_assoc found (a ∷ []) (b ∷ list_of at)))

row_length : (m : ℕ) (at : Terms) (rest : List ℕ) → length (list_of at) < length (row_text (suc m) at ++ 93 ∷ rest)
row_length m End rest = omega arith
row_length m (More a at) rest =
    let more = row_length (suc m) at rest in
    let cut = append_assoc (term_text a) (row_text (suc (suc m)) at) (93 ∷ rest) in
    let long = ap length cut ∙ length-append (term_text a) (row_text (suc (suc m)) at ++ 93 ∷ rest) in
    omega (arith, more, long)

pub call_step : (inner : Reader) (name : List ℕ) (a : Term) (at : Terms) → IsFree name → Reads inner a → AllRead inner at → ReadsHere inner (Call name (More a at))
unfolding named_at indices_at
call_step inner name a at free ra rs rest h =
    let row = term_text a ++ row_text 1 at in
    let inside = term_text a ++ (row_text 1 at ++ 93 ∷ rest) in
    let cut : (name ++ (91 ∷ (row ++ 93 ∷ []))) ++ rest ≡ name ++ (91 ∷ inside) =
    append_assoc name (91 ∷ (row ++ 93 ∷ [])) rest
    ∙ ap (λ (t : List ℕ). name ++ (91 ∷ t)) (append_assoc row (93 ∷ []) rest ∙ append_assoc (term_text a) (row_text 1 at) (93 ∷ rest)) in
    let enough : length (list_of at) < length inside = omega (arith, length-append (term_text a) (row_text 1 at ++ 93 ∷ rest), row_length 0 at rest) in
    rw (cut, free_step inner name (91 ∷ inside) free refl, row_read inner 0 (length inside) [] a at rest enough ra rs, indices_of at) refl

-- ---- conditions

-- the words that begin a condition, and no comparison
abbrev pub begins_test : Option Word → Bool
begins_test (Some word.Not) = true
begins_test (Some word.All) = true
begins_test (Some word.Any) = true
begins_test o = false

-- no such word stands at the front
abbrev pub IsNoTest : Term → Type 0
IsNoTest a = (rest : List ℕ) → Stops is_term_byte rest → begins_test (head_named (word_of (term_text a ++ rest))) ≡ false

other_head : (inner : Reader) (text rest : List ℕ) (o : Option Word) → begins_test o ≡ false → tested_at inner text rest o ≡ compared_at inner text
other_head inner text rest None h = refl
other_head inner text rest (Some word.Pipeline) h = refl
other_head inner text rest (Some word.Input) h = refl
other_head inner text rest (Some word.Func) h = refl
other_head inner text rest (Some word.Update) h = refl
other_head inner text rest (Some word.Over) h = refl
other_head inner text rest (Some word.Output) h = refl
other_head inner text rest (Some word.Min) h = refl
other_head inner text rest (Some word.Max) h = refl
other_head inner text rest (Some word.Clamp) h = refl
other_head inner text rest (Some word.Select) h = refl
other_head inner text rest (Some word.Not) h = absurd cc
other_head inner text rest (Some word.All) h = absurd cc
other_head inner text rest (Some word.Any) h = absurd cc

comparison_ends : (o : Comparison) (rest : List ℕ) → Stops is_term_byte (comparison_text o ++ rest)
comparison_ends by.Less rest = refl
comparison_ends by.AtMost rest = refl
comparison_ends by.Greater rest = refl
comparison_ends by.AtLeast rest = refl
comparison_ends by.Equal rest = refl
comparison_ends by.Different rest = refl

comparison_read : (o : Comparison) (rest : List ℕ) → begins 61 rest ≡ false → comparison_of (comparison_text o ++ rest) ≡ o
comparison_read by.Less rest h = rw h refl
comparison_read by.AtMost rest h = refl
comparison_read by.Greater rest h = rw h refl
comparison_read by.AtLeast rest h = refl
comparison_read by.Equal rest h = refl
comparison_read by.Different rest h = refl

comparison_skipped : (o : Comparison) (rest : List ℕ) → drop (length (comparison_text o)) (comparison_text o ++ rest) ≡ rest
comparison_skipped by.Less rest = refl
comparison_skipped by.AtMost rest = refl
comparison_skipped by.Greater rest = refl
comparison_skipped by.AtLeast rest = refl
comparison_skipped by.Equal rest = refl
comparison_skipped by.Different rest = refl

compared : (inner : Reader) (o : Comparison) (a b : Term) (rest : List ℕ) → Starts b → ReadsHere inner a → ReadsHere inner b → Stops is_term_byte rest
    → compared_at inner (term_text a ++ (comparison_text o ++ (term_text b ++ rest))) ≡ (Compares o a b, rest)
unfolding compared_at
compared inner o a b rest start ra rb h =
    let tail = comparison_text o ++ (term_text b ++ rest) in
    let equals = no_equals (slice_index (term_text b ++ rest) 0) (start rest) in
    rw (ra tail (comparison_ends o (term_text b ++ rest)), comparison_read o (term_text b ++ rest) equals, comparison_skipped o (term_text b ++ rest), rb rest h) refl

pub compare_step : (inner : Reader) (o : Comparison) (a b : Term) → IsNoTest a → Starts b → ReadsHere inner a → ReadsHere inner b → ReadsTestHere inner (Compares o a b)
unfolding test_at
compare_step inner o a b other start ra rb rest h =
    let tail = comparison_text o ++ (term_text b ++ rest) in
    let text = term_text a ++ tail in
    let cut : (term_text a ++ (comparison_text o ++ term_text b)) ++ rest ≡ text =
    append_assoc (term_text a) (comparison_text o ++ term_text b) rest ∙ ap (λ (t : List ℕ). term_text a ++ t) (append_assoc (comparison_text o) (term_text b) rest) in
    let no_word = other tail (comparison_ends o (term_text b ++ rest)) in
    rw (cut, other_head inner text (after_word text) (head_named (word_of text)) no_word) (compared inner o a b rest start ra rb h)

pub deny_step : (inner : Reader) (c : Test) → ReadsTest inner c → ReadsTestHere inner (Fails c)
unfolding test_at head_named denied_at
deny_step inner c rc rest h = rw (cut_one (test_text c) rest, rc (41 ∷ rest) refl) refl

pub all_step : (inner : Reader) (c d : Test) → ReadsTest inner c → ReadsTest inner d → ReadsTestHere inner (Both c d)
unfolding test_at head_named both_at
all_step inner c d rc rd rest h = rw (cut_two (test_text c) (test_text d) rest 44, rc (44 ∷ (test_text d ++ 41 ∷ rest)) refl, rd (41 ∷ rest) refl) refl

pub any_step : (inner : Reader) (c d : Test) → ReadsTest inner c → ReadsTest inner d → ReadsTestHere inner (Either c d)
unfolding test_at head_named both_at
any_step inner c d rc rd rest h = rw (cut_two (test_text c) (test_text d) rest 44, rc (44 ∷ (test_text d ++ 41 ∷ rest)) refl, rd (41 ∷ rest) refl) refl
