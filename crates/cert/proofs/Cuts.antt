-- Where the first line `cert` stands.
use Rattle.std.proofs.Common.{◌≡◌, ◌≢◌, ◌⊎◌, inl, inr, ℕ, zero, suc, ◌+◌, ◌<◌, ◌≤◌, List, [], ◌∷◌, ◌++◌, length, take, drop, codes, refl, sym, ap, ◌∙◌, subst, arith, append-nil}
use Rattle.std.proofs.lemmas.List.{length-append, append_assoc, take-append-drop}
use Rattle.std.proofs.Math.Seq.{drop-append_seam}
use Rattle.spelling.specs.Lines.Lines.{lines_text}
use Rattle.cert.specs.File.Cut.{IsCut, certificate_head}

-- a byte where a text goes on after so many bytes is the next one
pub next_byte : (at : ℕ) (s : List ℕ) (b : ℕ) (r : List ℕ) → drop at s ≡ b ∷ r → (take (suc at) s ≡ take at s ++ b ∷ []) × (drop (suc at) s ≡ r)
next_byte zero [] b r h = absurd cc
next_byte zero (x ∷ s) b r h = (cc, cc)
next_byte (suc at) [] b r h = absurd cc
next_byte (suc at) (x ∷ s) b r h = let p = next_byte at s b r h in (ap (λ t. x ∷ t) p.0, p.1)

-- lines are none, or end with a line feed
abbrev pub Ends : List ℕ → Type 0
Ends text = (text ≡ []) ⊎ ((xs : List ℕ) × (text ≡ xs ++ 10 ∷ []))

one_more : (l text : List ℕ) → Ends text → Ends ((l ++ 10 ∷ []) ++ text)
one_more l text (inl none) = inr (l, ap (λ t. (l ++ 10 ∷ []) ++ t) none ∙ append-nil (l ++ 10 ∷ []))
one_more l text (inr (xs, is)) = inr ((l ++ 10 ∷ []) ++ xs, ap (λ t. (l ++ 10 ∷ []) ++ t) is ∙ sym (append_assoc (l ++ 10 ∷ []) xs (10 ∷ [])))

pub line_end : (lines : List (List ℕ)) → Ends (lines_text lines)
line_end [] = inl refl
line_end (l ∷ ls) = one_more l (lines_text ls) (line_end ls)

-- a line `cert` behind others stands behind a line feed
pub record Behind (text : List ℕ) (size : ℕ) (rest : List ℕ) : Type 0 where
  pub at : ℕ
  pub before : suc at ≡ size
  pub inside : at ≤ length text
  pub stands : drop at text ≡ 10 ∷ (certificate_head ++ rest)

behind_end : (text lines rest : List ℕ) → ((r : List ℕ) → text ≢ certificate_head ++ r) → text ≡ lines ++ (certificate_head ++ rest) → Ends lines → Behind text (length lines) rest
behind_end text lines rest starts is (inl none) = absurd (starts rest (is ∙ ap (λ t. t ++ (certificate_head ++ rest)) none))
behind_end text lines rest starts is (inr (xs, ends)) =
    let whole : text ≡ xs ++ 10 ∷ (certificate_head ++ rest) = is ∙ ap (λ t. t ++ (certificate_head ++ rest)) ends ∙ append_assoc xs (10 ∷ []) (certificate_head ++ rest) in
    let size : length lines ≡ length xs + 1 = ap length ends ∙ length-append xs (10 ∷ []) in
    record {
      at = length xs;
      before = omega arith;
      inside = subst (λ t. length xs ≤ length t) (sym whole) (subst (λ n. length xs ≤ n) (sym (length-append xs (10 ∷ (certificate_head ++ rest)))) (omega arith));
      stands = ap (drop (length xs)) whole ∙ drop-append_seam xs (10 ∷ (certificate_head ++ rest));
    }

pub behind : (text : List ℕ) (lines : List (List ℕ)) (rest : List ℕ) → ((r : List ℕ) → text ≢ certificate_head ++ r) → text ≡ lines_text lines ++ (certificate_head ++ rest) → Behind text (length (lines_text lines)) rest
behind text lines rest starts is = behind_end text (lines_text lines) rest starts is (line_end lines)

raised : (m n : ℕ) → (m < n) ⊎ (n ≤ m) → (suc m < suc n) ⊎ (suc n ≤ suc m)
raised m n (inl lt) = inl (omega arith)
raised m n (inr le) = inr (omega arith)

before_or_not : (m n : ℕ) → (m < n) ⊎ (n ≤ m)
before_or_not zero zero = inr (omega arith)
before_or_not zero (suc n) = inl (omega arith)
before_or_not (suc m) zero = inr (omega arith)
before_or_not (suc m) (suc n) = raised m n (before_or_not m n)

not_earlier : (text : List ℕ) (at size : ℕ) (rest : List ℕ) → ((i : ℕ) → i < at → (r : List ℕ) → drop i text ≢ 10 ∷ (certificate_head ++ r)) → (b : Behind text size rest) → (b.at < at) ⊎ (at ≤ b.at) → suc at ≤ size
not_earlier text at size rest lacks b (inl lt) = absurd (lacks b.at lt rest b.stands)
not_earlier text at size rest lacks b (inr le) = let is = b.before in omega arith

-- the cut before a line `cert` that is the first one behind a line feed
cut_at : (text : List ℕ) (at : ℕ) (after : List ℕ) → ((r : List ℕ) → text ≢ certificate_head ++ r)
    → ((i : ℕ) → i < at → (r : List ℕ) → drop i text ≢ 10 ∷ (certificate_head ++ r)) → drop at text ≡ 10 ∷ (certificate_head ++ after)
    → length (take (suc at) text) ≡ suc at → IsCut text (take (suc at) text) (drop (suc at) text)
cut_at text at after starts lacks stands size =
    let next = next_byte at text 10 (certificate_head ++ after) stands in
    record {
      spelled = sym (take-append-drop (suc at) text);
      begins = inr (inr (take at text, next.0), (after, next.1));
      first = λ lines rest is.
          let b = behind text lines rest starts is in
          subst (λ n. n ≤ length (lines_text lines)) (sym size) (not_earlier text at (length (lines_text lines)) rest lacks b (before_or_not b.at at));
    }

pub cut_before : (text : List ℕ) (at : ℕ) (after : List ℕ) → ((r : List ℕ) → text ≢ certificate_head ++ r)
    → ((i : ℕ) → i < at → (r : List ℕ) → drop i text ≢ 10 ∷ (certificate_head ++ r)) → drop at text ≡ 10 ∷ (certificate_head ++ after)
    → length (take (at + 1) text) ≡ at + 1 → IsCut text (take (at + 1) text) (drop (at + 1) text)
cut_before text at after starts lacks stands size =
    let one : at + 1 ≡ suc at = omega arith in
    subst (λ n. IsCut text (take n text) (drop n text)) (sym one) (cut_at text at after starts lacks stands (subst (λ n. length (take n text) ≡ n) one size))

-- the cut behind a text that has no line `cert`
pub cut_behind : (text : List ℕ) → ((r : List ℕ) → text ≢ certificate_head ++ r)
    → ((i : ℕ) → i ≤ length text → (r : List ℕ) → drop i text ≢ 10 ∷ (certificate_head ++ r)) → IsCut text text []
cut_behind text starts lacks = record {
  spelled = sym (append-nil text);
  begins = inl refl;
  first = λ lines rest is. let b = behind text lines rest starts is in absurd (lacks b.at b.inside rest b.stands);
}
