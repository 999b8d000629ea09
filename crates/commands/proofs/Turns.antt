-- Reading an order byte by byte.
use Rattle.std.proofs.Common.{◌≡◌, ℕ, suc, ◌+◌, ◌≤◌, ◌<◌, ◌^◌, true, false, not, List, [], ◌∷◌, ◌++◌, length, get_or, drop, drop-cons, drop_of_length-le, map, All, Option, None, Some, IfSome, IsSome, refl, sym, ap, ◌∙◌, subst, append_assoc, append-nil, length-append, arith}
use Rattle.std.proofs.lemmas.List.Folds.{list_all-append}
use Rattle.std.proofs.lemmas.List.{length-map, map-append}
use Rattle.std.proofs.lemmas.List.Elements.{All-head, All-tail, All-push}
use Rattle.spelling.specs.Words.Spelling.{count_text}
use Rattle.commands.specs.Order.Order.{is_white, words, IsOrder, IsNoOrder}
use Rattle.commands.specs.Order.Numbers.{digits_of, with_number, BeginsNone, Spells}
use Rattle.commands.proofs.OrderWords.{is_dark, number_dark, number_some, words_white, word_white, word_last, word_begins}

-- the words so far are these workers' numbers, and the digits of a number may stand before the rest
pub record HasRead (text workers : List ℕ) (number : Option ℕ) (rest : List ℕ) : Type 0 where
  pub words : words text ≡ map count_text workers ++ words (digits_of number ++ rest)
  pub known : All (λ worker. worker < 64) workers
  pub low : IfSome number (λ n. n < 64)
  pub few : length workers ≤ 2 ^ 24

-- the words of a number's digits before white space
number_white : (number : Option ℕ) (b : ℕ) (rest : List ℕ) → IfSome number (λ n. n < 64) → is_white b ≡ true → words (digits_of number ++ (b ∷ rest)) ≡ map count_text (with_number [] number) ++ words rest
number_white None b rest low white = words_white b rest white
number_white (Some n) b rest low white = word_white (count_text n) b rest (number_some n low) (number_dark n low) white

number_last : (number : Option ℕ) → IfSome number (λ n. n < 64) → words (digits_of number ++ []) ≡ map count_text (with_number [] number)
number_last None low = refl
number_last (Some n) low = word_last (count_text n) (number_some n low) (number_dark n low)

with_number_text : (workers : List ℕ) (number : Option ℕ) → map count_text (with_number workers number) ≡ map count_text workers ++ map count_text (with_number [] number)
with_number_text workers None = sym (append-nil (map count_text workers))
with_number_text workers (Some n) = map-append count_text workers (n ∷ [])

with_number_known : (workers : List ℕ) (number : Option ℕ) → All (λ worker. worker < 64) workers → IfSome number (λ n. n < 64) → All (λ worker. worker < 64) (with_number workers number)
with_number_known workers None known low = known
with_number_known workers (Some n) known low = All-push (λ worker. worker < 64) workers n known low

pub next_byte : (text workers : List ℕ) (number : Option ℕ) (i : ℕ) → i < length text → HasRead text workers number (drop i text) → HasRead text workers number (get_or text i 0 ∷ drop (i + 1) text)
next_byte text workers number i lt h =
    let next : i + 1 ≡ suc i = omega arith in
    let cut : drop i text ≡ get_or text i 0 ∷ drop (i + 1) text = rw (next) (drop-cons text i 0 lt) in
    subst (HasRead text workers number) cut h

pub last_byte : (text workers : List ℕ) (number : Option ℕ) (i : ℕ) → length text ≤ i → HasRead text workers number (drop i text) → HasRead text workers number []
last_byte text workers number i le h = subst (HasRead text workers number) (drop_of_length-le text le) h

module _ (text workers : List ℕ) (number : Option ℕ) where
  -- white space ends a number
  pub at_white : (b : ℕ) (rest after : List ℕ) → HasRead text workers number (b ∷ rest) → is_white b ≡ true → after ≡ with_number workers number → length after ≤ 2 ^ 24 → HasRead text after None rest
  at_white b rest after h white ended few = record {
    words = h.words ∙ ap (λ ws. map count_text workers ++ ws) (number_white number b rest h.low white)
        ∙ sym (append_assoc (map count_text workers) (map count_text (with_number [] number)) (words rest))
        ∙ ap (λ ws. ws ++ words rest) (sym (ap (λ ws. map count_text ws) ended ∙ with_number_text workers number));
    known = subst (λ ws. All (λ worker. worker < 64) ws) (sym ended) (with_number_known workers number h.known h.low);
    low = tt;
    few = few;
  }

  -- another byte goes on with a number
  pub at_digit : (b : ℕ) (rest : List ℕ) (next : ℕ) → HasRead text workers number (b ∷ rest) → Spells (digits_of number ++ b ∷ []) next → HasRead text workers (Some next) rest
  at_digit b rest next h spells = record {
    words = h.words ∙ ap (λ bytes. map count_text workers ++ words bytes) (sym (append_assoc (digits_of number) (b ∷ []) rest) ∙ ap (λ bytes. bytes ++ rest) (sym spells.1));
    known = h.known;
    low = spells.0;
    few = h.few;
  }

  pub at_end : (after : List ℕ) → HasRead text workers number [] → after ≡ with_number workers number → length after ≤ 2 ^ 24 → IsOrder text after
  at_end after h ended few = record {
    words = h.words ∙ ap (λ ws. map count_text workers ++ ws) (number_last number h.low) ∙ sym (ap (λ ws. map count_text ws) ended ∙ with_number_text workers number);
    known = subst (λ ws. All (λ worker. worker < 64) ws) (sym ended) (with_number_known workers number h.known h.low);
    few = few;
  }

-- each word of an order is a worker's number
word_spelled : (front : List (List ℕ)) (word : List ℕ) (others : List (List ℕ)) (workers : List ℕ) → All (λ worker. worker < 64) workers → front ++ (word ∷ others) ≡ map count_text workers → (worker : ℕ) × (worker < 64) × (count_text worker ≡ word)
word_spelled [] word others [] known same = absurd cc
word_spelled [] word others (worker ∷ workers) known same = (worker, All-head (λ w. w < 64) worker workers known, cc)
word_spelled (w ∷ front) word others [] known same = absurd cc
word_spelled (w ∷ front) word others (worker ∷ workers) known same = word_spelled front word others workers (All-tail (λ v. v < 64) worker workers known) cc

-- no order has a word that begins with these bytes
bad_word : (text workers front rest : List ℕ) → 0 < length front → is_dark front ≡ true → BeginsNone front → words text ≡ map count_text workers ++ words (front ++ rest) → IsNoOrder text
bad_word text workers front rest some dark none so_far others order =
    let begins = word_begins front rest some dark in
    let same : map count_text workers ++ ((front ++ begins.0) ∷ begins.1) ≡ map count_text others = ap (λ ws. map count_text workers ++ ws) (sym begins.2) ∙ sym so_far ∙ order.words in
    let spelled = word_spelled (map count_text workers) (front ++ begins.0) begins.1 others order.known same in
    none spelled.0 begins.0 spelled.1 spelled.2

number_front_dark : (number : Option ℕ) (b : ℕ) → IfSome number (λ n. n < 64) → is_white b ≡ false → is_dark (digits_of number ++ b ∷ []) ≡ true
number_front_dark None b low other = rw (other) refl
number_front_dark (Some n) b low other = rw (list_all-append (λ a. not (is_white a)) (count_text n) (b ∷ []), number_dark n low, other) refl

some_behind : (front : List ℕ) (b : ℕ) → 0 < length (front ++ b ∷ [])
some_behind [] b = omega arith
some_behind (c ∷ front) b = omega arith

pub bad_byte : (text workers : List ℕ) (number : Option ℕ) (b : ℕ) (rest : List ℕ) → HasRead text workers number (b ∷ rest) → is_white b ≡ false → BeginsNone (digits_of number ++ b ∷ []) → IsNoOrder text
bad_byte text workers number b rest h other none =
    bad_word text workers (digits_of number ++ b ∷ []) rest (some_behind (digits_of number) b) (number_front_dark number b h.low other) none
    (h.words ∙ ap (λ bytes. map count_text workers ++ words bytes) (sym (append_assoc (digits_of number) (b ∷ []) rest)))

pub too_many : (text workers : List ℕ) (number : Option ℕ) (rest : List ℕ) → HasRead text workers number rest → IsSome number → 2 ^ 24 ≤ length workers → IsNoOrder text
too_many text workers None rest h some many others order = absurd cc
too_many text workers (Some n) rest h some many others order =
    let begins = word_begins (count_text n) rest (number_some n h.low) (number_dark n h.low) in
    let same : map count_text workers ++ ((count_text n ++ begins.0) ∷ begins.1) ≡ map count_text others = ap (λ ws. map count_text workers ++ ws) (sym begins.2) ∙ sym h.words ∙ order.words in
    let lengths : length (map count_text workers) + suc (length begins.1) ≡ length (map count_text others) = sym (length-append (map count_text workers) ((count_text n ++ begins.0) ∷ begins.1)) ∙ ap length same in
    absurd (omega (arith, length-map workers count_text, length-map others count_text, order.few))
