-- The number of workers that a text spells, looked for from one number on.
use Rattle.std.proofs.Common.{◌≡◌, ◌∙◌, ℕ, suc, ◌+◌, ◌-◌, ◌≤◌, ◌<◌, List, Option, None, Some, true, false, find, refl, ap, arith}
use Rattle.std.specs.List.{range_with_len}
use Rattle.std.specs.Str.{bytes_eq}
use Rattle.spelling.specs.Words.Spelling.{count_text}
use Rattle.commands.specs.Workers.{workers_spelled}

unfoldable pub spelled_from : List ℕ → ℕ → Option ℕ
spelled_from text n = find (λ k. bytes_eq (count_text k) text) (range_with_len n (65 - n))

pub from_first : (text : List ℕ) → workers_spelled text ≡ spelled_from text 1
unfolding workers_spelled spelled_from
from_first text = refl

none_left : (text : List ℕ) → spelled_from text 65 ≡ None
unfolding spelled_from
none_left text = refl

-- the last was not it
pub none_found : (text : List ℕ) (n : ℕ) → 64 < n → n ≤ 65 → spelled_from text n ≡ None
none_found text n high low =
    let last : n ≡ 65 = omega arith in
    ap (spelled_from text) last ∙ none_left text

one_more : (text : List ℕ) (n : ℕ) → n ≤ 64 → spelled_from text n ≡ find (λ k. bytes_eq (count_text k) text) (range_with_len n (suc (64 - n)))
unfolding spelled_from
one_more text n low =
    let left : 65 - n ≡ suc (64 - n) = omega arith in
    ap (λ m. find (λ k. bytes_eq (count_text k) text) (range_with_len n m)) left

pub found_here : (text : List ℕ) (n : ℕ) → n ≤ 64 → bytes_eq (count_text n) text ≡ true → spelled_from text n ≡ Some n
found_here text n low same = one_more text n low ∙ rw same refl

pub found_on : (text : List ℕ) (n : ℕ) → n ≤ 64 → bytes_eq (count_text n) text ≡ false → spelled_from text n ≡ spelled_from text (n + 1)
unfolding spelled_from
found_on text n low other =
    let left : 64 - n ≡ 65 - (n + 1) = omega arith in
    one_more text n low ∙ rw other (ap (λ m. find (λ k. bytes_eq (count_text k) text) (range_with_len (n + 1) m)) left)
