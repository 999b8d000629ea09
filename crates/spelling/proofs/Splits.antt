-- The line feed that ends the first line of a text.
use Rattle.std.proofs.Common.{◌≡◌, ℕ, suc, ◌+◌, ◌<◌, Bool, true, false, not, ◌&&◌, List, [], ◌∷◌, ◌++◌, length, take, drop, get_or, take_all, ◌≤◌, refl, sym, ap, ◌∙◌, arith}
use Rattle.std.specs.Prelude.{Some, None, nat_lt, cond, if◌then◌else◌}
use Rattle.std.specs.List.{position, position_or_len}
use Rattle.std.proofs.lemmas.Bool.{eqb-true}
use Rattle.std.proofs.lemmas.Bool.Decides.{nat_tests}
use Rattle.std.proofs.lemmas.List.{drop-drop}
use Rattle.std.proofs.lemmas.List.Sums.{split_at_first, passes_at_first}
use Rattle.spelling.specs.Lines.Lines.{is_line_feed, is_line}

pub both : (a b : Bool) → (a && b) ≡ true → (a ≡ true) × (b ≡ true)
both true b h = (refl, h)
both false b h = absurd cc

taken : (n b : ℕ) (bs : List ℕ) → take (1 + n) (b ∷ bs) ≡ b ∷ take n bs
taken n b bs = let e : 1 + n ≡ suc n = omega arith in rw e refl

front_step : (f : Bool) (b : ℕ) (bs : List ℕ) → is_line_feed b ≡ f → is_line (take (position_or_len is_line_feed bs) bs) ≡ true → is_line (take (position_or_len is_line_feed (b ∷ bs)) (b ∷ bs)) ≡ true
front_step true b bs h more = rw h refl
front_step false b bs h more = rw (h, taken (position_or_len is_line_feed bs) b bs, h) more

-- what stands before the first line feed is a line
pub front_is_line : (bs : List ℕ) → is_line (take (position_or_len is_line_feed bs) bs) ≡ true
front_is_line [] = refl
front_is_line (b ∷ bs) = front_step (is_line_feed b) b bs refl (front_is_line bs)

found : (c : Bool) (p i : ℕ) → cond c (Some p) None ≡ Some i → p ≡ i
found true p i e = cc
found false p i e = absurd cc

missing : (p n : ℕ) → (if nat_lt p n then Some p else None) ≡ None → n ≤ p
missing p n e = grind (arith, nat_tests)

pub line_before : (bs : List ℕ) (i : ℕ) → position is_line_feed bs ≡ Some i → is_line (take i bs) ≡ true
line_before bs i e = let h : position_or_len is_line_feed bs ≡ i = found (nat_lt (position_or_len is_line_feed bs) (length bs)) (position_or_len is_line_feed bs) i e in ap (λ (k : ℕ). is_line (take k bs)) (sym h) ∙ front_is_line bs

inside : (p n i : ℕ) → (if nat_lt p n then Some p else None) ≡ Some i → (p < n) × (p ≡ i)
inside p n i e = (grind (arith, nat_tests), found (nat_lt p n) p i e)

-- the text is the line, the line feed and what follows
pub split_spelled : (bs : List ℕ) (i : ℕ) → position is_line_feed bs ≡ Some i → bs ≡ take i bs ++ 10 ∷ drop 1 (drop i bs)
split_spelled bs i e =
    let n = position_or_len is_line_feed bs in
    let h = inside n (length bs) i e in
    let byte : get_or bs n 0 ≡ 10 = eqb-true (get_or bs n 0) 10 (passes_at_first is_line_feed bs 0 h.0) in
    let whole : bs ≡ take n bs ++ 10 ∷ drop 1 (drop n bs) =
    split_at_first is_line_feed bs 0 h.0
    ∙ ap (λ (b : ℕ). take n bs ++ (b ∷ drop (n + 1) bs)) byte
    ∙ ap (λ (w : List ℕ). take n bs ++ (10 ∷ w)) (sym (drop-drop 1 n bs)) in
    whole ∙ ap (λ (k : ℕ). take k bs ++ 10 ∷ drop 1 (drop k bs)) h.1

pub line_whole : (bs : List ℕ) → position is_line_feed bs ≡ None → is_line bs ≡ true
line_whole bs e =
    let h = missing (position_or_len is_line_feed bs) (length bs) e in
    ap is_line (sym (take_all (position_or_len is_line_feed bs) bs h)) ∙ front_is_line bs

pub ruleset splits = (line_before, line_whole)

-- a text has one first line
pub same_split : (line other after rest : List ℕ) → is_line line ≡ true → is_line other ≡ true → line ++ 10 ∷ after ≡ other ++ 10 ∷ rest → (line ≡ other) × (after ≡ rest)
same_split [] [] after rest p q e = (refl, cc)
same_split [] (b ∷ other) after rest p q e = let h : 10 ≡ b = cc in absurd (let t = both (not (is_line_feed b)) (is_line other) q in let u : not (is_line_feed 10) ≡ true = ap (λ (k : ℕ). not (is_line_feed k)) h ∙ t.0 in cc)
same_split (a ∷ line) [] after rest p q e = let h : 10 ≡ a = cc in absurd (let t = both (not (is_line_feed a)) (is_line line) p in let u : not (is_line_feed 10) ≡ true = ap (λ (k : ℕ). not (is_line_feed k)) h ∙ t.0 in cc)
same_split (a ∷ line) (b ∷ other) after rest p q e =
    let head : a ≡ b = cc in
    let tail : line ++ 10 ∷ after ≡ other ++ 10 ∷ rest = cc in
    let more = same_split line other after rest (both (not (is_line_feed a)) (is_line line) p).1 (both (not (is_line_feed b)) (is_line other) q).1 tail in
    (ap (λ (k : ℕ). k ∷ line) head ∙ ap (λ (w : List ℕ). b ∷ w) more.0, more.1)

-- a text without a line feed has no first line
pub no_split : (text line after : List ℕ) → is_line text ≡ true → text ≡ line ++ 10 ∷ after → ⊥
no_split [] [] after p e = cc
no_split [] (b ∷ line) after p e = cc
no_split (a ∷ text) [] after p e = let h : a ≡ 10 = cc in let t = both (not (is_line_feed a)) (is_line text) p in let u : not (is_line_feed 10) ≡ true = ap (λ (k : ℕ). not (is_line_feed k)) (sym h) ∙ t.0 in cc
no_split (a ∷ text) (b ∷ line) after p e = let tail : text ≡ line ++ 10 ∷ after = cc in no_split text line after (both (not (is_line_feed a)) (is_line text) p).1 tail
