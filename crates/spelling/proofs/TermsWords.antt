-- The words that an expression's text begins with.
use Rattle.std.proofs.Common.{◌≡◌, ℕ, ◌<◌, Bool, true, false, not, ◌&&◌, ◌||◌, List, [], ◌∷◌, ◌++◌, length, None, refl, ap, ◌∙◌, arith}
use Rattle.std.specs.Prelude.{slice_index, find, nat_lt, nat_le, ◌==◌, unwrap_or}
use Rattle.std.specs.List.{list_all, list_any}
use Rattle.std.specs.Str.{bytes_eq}
use Rattle.std.proofs.lemmas.Bool.Decides.{nat_tests}
use Rattle.std.proofs.lemmas.List.{take_at, drop_at}
use Rattle.numeric.specs.declared.ty.Ty.{Ty}
use Rattle.numeric.specs.declared.ty.Ty.TheVariants as ty
use Rattle.tree.specs.Token.Spelling.{is_digit, is_word_byte, type_text, word_text}
use Rattle.tree.specs.Token.Lexical.{types, words, type_named}
use Rattle.tree.specs.declared.token.token.Word.{Word}
use Rattle.tree.specs.declared.token.token.Word.TheVariants as word
use Rattle.spelling.specs.Words.Fitting.{is_name, is_reserved}
use Rattle.spelling.specs.Words.Reading.{Stops, begins, has_large_number}
use Rattle.spelling.proofs.Runs.{both, neither, run_is}
use Rattle.spelling.specs.Terms.Spelling.{suffix_text}
use Rattle.spelling.specs.Terms.Fitting.{is_numeral, is_load, is_called}
use Rattle.spelling.specs.Terms.Reading.{is_name_byte, is_term_byte, word_of, after_word, heads, head_named}

-- ---- bytes

unset : (b : Bool) → not b ≡ true → b ≡ false
unset true h = absurd cc
unset false h = refl

either : (a b : Bool) → (a || b) ≡ true → (b ≡ false) → a ≡ true
either true b h none = refl
either false b h none = absurd cc

pub stops_name : (rest : List ℕ) → Stops is_term_byte rest → Stops is_name_byte rest
stops_name rest h = (neither (is_name_byte (slice_index rest 0)) (slice_index rest 0 == 91) h).0

pub stops_call : (rest : List ℕ) → Stops is_term_byte rest → begins 91 rest ≡ false
stops_call rest h = (neither (is_name_byte (slice_index rest 0)) (slice_index rest 0 == 91) h).1

no_digit_at : (b : ℕ) → is_name_byte b ≡ false → is_digit b ≡ false
no_digit_at b h = grind (arith, nat_tests)

pub stops_digit : (rest : List ℕ) → Stops is_term_byte rest → Stops is_digit rest
stops_digit rest h = no_digit_at (slice_index rest 0) (stops_name rest h)

name_byte : (b : ℕ) → is_word_byte b ≡ true → is_name_byte b ≡ true
name_byte b h = rw h refl

digit_byte : (b : ℕ) → is_digit b ≡ true → is_name_byte b ≡ true
digit_byte b h = rw h refl

pub all_weaker : (p q : ℕ → Bool) → ((b : ℕ) → p b ≡ true → q b ≡ true) → (bytes : List ℕ) → list_all p bytes ≡ true → list_all q bytes ≡ true
all_weaker p q more [] h = refl
all_weaker p q more (b ∷ bytes) h = let one = both (p b) (list_all p bytes) h in rw (more b one.0, all_weaker p q more bytes one.1) refl

pub name_bytes_of : (bytes : List ℕ) → list_all is_word_byte bytes ≡ true → list_all is_name_byte bytes ≡ true
name_bytes_of = all_weaker is_word_byte is_name_byte name_byte

-- ---- words at the front

pub front_word : (name rest : List ℕ) → list_all is_name_byte name ≡ true → Stops is_name_byte rest → word_of (name ++ rest) ≡ name
front_word name rest all h = rw (run_is is_name_byte name rest all h, take_at name rest (length name) refl) refl

pub behind_word : (name rest : List ℕ) → list_all is_name_byte name ≡ true → Stops is_name_byte rest → after_word (name ++ rest) ≡ rest
behind_word name rest all h = rw (run_is is_name_byte name rest all h, drop_at name rest (length name) refl) refl

not_found : {X : Type 0} (p : X → Bool) (xs : List X) → list_any p xs ≡ false → find p xs ≡ None
not_found p [] h = refl
not_found p (x ∷ xs) h = let n = neither (p x) (list_any p xs) h in rw (n.0, not_found p xs n.1) refl

no_head : (p : Word → Bool) → list_any p words ≡ false → list_any p heads ≡ false
no_head p h =
    let a = neither (p word.Pipeline) _ h in
    let b = neither (p word.Input) _ a.1 in
    let c = neither (p word.Func) _ b.1 in
    let d = neither (p word.Update) _ c.1 in
    let e = neither (p word.Over) _ d.1 in
    (neither (p word.Output) (list_any p heads) e.1).1

-- a word that is a name or a load, and so no literal, no type and no word of the grammar
pub record IsFree (name : List ℕ) : Type 0 where
  pub bytes : list_all is_name_byte name ≡ true
  pub lead : (rest : List ℕ) → is_name_byte (slice_index (name ++ rest) 0) ≡ true
  pub no_digit : (rest : List ℕ) → is_digit (slice_index (name ++ rest) 0) ≡ false
  pub no_type : type_named name ≡ None
  pub no_head : head_named name ≡ None

lead_of : (name rest : List ℕ) → 0 < length name → list_all is_name_byte name ≡ true → is_name_byte (slice_index (name ++ rest) 0) ≡ true
lead_of [] rest some all = absurd (omega arith)
lead_of (b ∷ name) rest some all = (both (is_name_byte b) (list_all is_name_byte name) all).0

first_of : (name rest : List ℕ) → 0 < length name → slice_index (name ++ rest) 0 ≡ slice_index name 0
first_of [] rest some = absurd (omega arith)
first_of (b ∷ name) rest some = refl

pub name_is_free : (name : List ℕ) → is_name name ≡ true → IsFree name
unfolding type_named head_named
name_is_free name fits =
    let size = nat_lt 0 (length name) && nat_le (length name) 16 in
    let own = both (size && list_all is_word_byte name && not (is_digit (slice_index name 0))) (not (is_reserved name)) fits in
    let front = both (size && list_all is_word_byte name) (not (is_digit (slice_index name 0))) own.0 in
    let sized = both size (list_all is_word_byte name) front.0 in
    let some : 0 < length name = let h = (both (nat_lt 0 (length name)) (nat_le (length name) 16) sized.0).0 in grind (arith, nat_tests) in
    let free = neither (list_any (λ t. bytes_eq (type_text t) name) types) (list_any (λ w. bytes_eq (word_text w) name) words) (unset (is_reserved name) own.1) in
    let all = name_bytes_of name sized.1 in
    record {
      bytes = all;
      lead = λ rest. lead_of name rest some all;
      no_digit = λ rest. ap is_digit (first_of name rest some) ∙ unset (is_digit (slice_index name 0)) front.1;
      no_type = not_found (λ t. bytes_eq (type_text t) name) types free.0;
      no_head = not_found (λ w. bytes_eq (word_text w) name) heads (no_head (λ w. bytes_eq (word_text w) name) free.1);
    }

numeral_digits : (digits : List ℕ) → is_numeral digits ≡ true → list_all is_digit digits ≡ true
numeral_digits digits h =
    (both (nat_lt 0 (length digits)) (list_all is_digit digits) (both (nat_lt 0 (length digits) && list_all is_digit digits) (length digits == 1 || not (begins 48 digits)) h).0).1

load_at : (b : ℕ) (digits : List ℕ) → b ≡ 64 → list_all is_digit digits ≡ true → IsFree (b ∷ digits)
unfolding type_named head_named
load_at b digits is all =
    let more = all_weaker is_digit is_name_byte digit_byte digits all in
    record {
      bytes = rw (is, more) refl;
      lead = λ rest. rw is refl;
      no_digit = λ rest. rw is refl;
      no_type = rw is refl;
      no_head = rw is refl;
    }

at_sign : (b : ℕ) → (b == 64) ≡ true → b ≡ 64
at_sign b h = grind (arith, nat_tests)

load_is_free : (name : List ℕ) → is_load name ≡ true → IsFree name
load_is_free [] h = absurd cc
load_is_free (b ∷ digits) h =
    let front = both ((b == 64) && is_numeral digits) (not (has_large_number (b ∷ digits))) h in
    let parts = both (b == 64) (is_numeral digits) front.0 in
    load_at b digits (at_sign b parts.0) (numeral_digits digits parts.1)

called_at : (name : List ℕ) (b : Bool) → is_name name ≡ b → (b || is_load name) ≡ true → IsFree name
called_at name true e h = name_is_free name e
called_at name false e h = load_is_free name h

pub called_is_free : (name : List ℕ) → is_called name ≡ true → IsFree name
called_is_free name h = called_at name (is_name name) refl h

-- ---- types

pub type_bytes : (t : Ty) → list_all is_name_byte (type_text t) ≡ true
type_bytes ty.U8 = refl
type_bytes ty.U16 = refl
type_bytes ty.U32 = refl
type_bytes ty.I8 = refl
type_bytes ty.I16 = refl
type_bytes ty.I32 = refl

pub suffix_bytes : (t : Ty) → list_all is_name_byte (suffix_text t) ≡ true
suffix_bytes ty.U8 = refl
suffix_bytes ty.U16 = refl
suffix_bytes ty.U32 = refl
suffix_bytes ty.I8 = refl
suffix_bytes ty.I16 = refl
suffix_bytes ty.I32 = refl

pub suffix_stops : (t : Ty) (rest : List ℕ) → Stops is_digit rest → Stops is_digit (suffix_text t ++ rest)
suffix_stops ty.U8 rest h = refl
suffix_stops ty.U16 rest h = refl
suffix_stops ty.U32 rest h = refl
suffix_stops ty.I8 rest h = refl
suffix_stops ty.I16 rest h = refl
suffix_stops ty.I32 rest h = h

pub suffix_type : (t : Ty) → unwrap_or (type_named (suffix_text t)) ty.I32 ≡ t
unfolding type_named
suffix_type ty.U8 = refl
suffix_type ty.U16 = refl
suffix_type ty.U32 = refl
suffix_type ty.I8 = refl
suffix_type ty.I16 = refl
suffix_type ty.I32 = refl

-- ---- digits

pub digit_no_bracket : (b : ℕ) → is_digit b ≡ true → (b == 40) ≡ false
digit_no_bracket b h = grind (arith, nat_tests)

pub name_no_bracket : (b : ℕ) → is_name_byte b ≡ true → (b == 40) ≡ false
name_no_bracket b h = grind (arith, nat_tests)
