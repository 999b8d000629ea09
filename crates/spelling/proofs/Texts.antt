-- A text has one value at most, and no line of a value's text is bad.
use Rattle.std.proofs.Common.{◌≡◌, ℕ, suc, ◌+◌, Bool, true, false, not, List, [], ◌∷◌, ◌++◌, length, refl, sym, ap, ◌∙◌, subst, append_assoc, arith}
use Rattle.std.specs.Prelude.{◌||◌}
use Rattle.std.specs.List.{list_all}
use Rattle.std.proofs.lemmas.List.{append-nil}
use Rattle.spelling.specs.Lines.Lines.{is_line, whole_line, lines_text, is_within, are_within}
use Rattle.spelling.specs.Lines.Texts.{Notation, IsTextOf, Begins, IsBadLine, IsRefused, OneValue, NeverBad}
use Rattle.spelling.specs.declared.lines.error.TextError.TheVariants as error
use Rattle.spelling.proofs.Splits.{both, same_split, no_split}

abbrev pub are_lines : List (List ℕ) → Bool
are_lines ls = list_all is_line ls

pub opened : (l x : List ℕ) → whole_line l ++ x ≡ l ++ 10 ∷ x
opened l x = append_assoc l (10 ∷ []) x

pub opened_two : (l x y : List ℕ) → (whole_line l ++ x) ++ y ≡ l ++ 10 ∷ (x ++ y)
opened_two l x y = append_assoc (whole_line l) x y ∙ opened l (x ++ y)

some : (l x : List ℕ) → [] ≡ l ++ 10 ∷ x → ⊥
some [] x e = cc
some (b ∷ l) x e = cc

-- lines that a text begins with are the first of its lines
pub begins : (front ls : List (List ℕ)) (rest : List ℕ) → are_lines front ≡ true → are_lines ls ≡ true → lines_text ls ≡ lines_text front ++ rest
    → (tail : List (List ℕ)) × (ls ≡ front ++ tail) × (rest ≡ lines_text tail) × (are_lines tail ≡ true)
begins [] ls rest p q e = (ls, refl, sym e, q)
begins (f ∷ front) [] rest p q e = absurd (some f (lines_text front ++ rest) (e ∙ opened_two f (lines_text front) rest))
begins (f ∷ front) (l ∷ ls) rest p q e =
    let one = both (is_line f) (are_lines front) p in
    let other = both (is_line l) (are_lines ls) q in
    let same = same_split l f (lines_text ls) (lines_text front ++ rest) other.0 one.0 (sym (opened l (lines_text ls)) ∙ e ∙ opened_two f (lines_text front) rest) in
    let more = begins front ls rest one.1 other.1 same.1 in
    (more.0, ap (λ (x : List ℕ). x ∷ ls) same.0 ∙ ap (λ (xs : List (List ℕ)). f ∷ xs) more.1, more.2, more.3)

-- lines with no text are none
pub no_lines : (tail : List (List ℕ)) → [] ≡ lines_text tail → tail ≡ []
no_lines [] e = refl
no_lines (l ∷ tail) e = absurd (some l (lines_text tail) (e ∙ opened l (lines_text tail)))

pub same_lines : (a b : List (List ℕ)) → are_lines a ≡ true → are_lines b ≡ true → lines_text a ≡ lines_text b → b ≡ a
same_lines a b p q e =
    let h = begins a b [] p q (sym e ∙ sym (append-nil (lines_text a))) in
    h.1 ∙ ap (λ (xs : List (List ℕ)). a ++ xs) (no_lines h.0 h.2) ∙ append-nil a

pub lines_front : (front more : List (List ℕ)) → are_lines (front ++ more) ≡ true → are_lines front ≡ true
lines_front [] more h = refl
lines_front (l ∷ front) more h = let p = both (is_line l) (are_lines (front ++ more)) h in rw (p.0, lines_front front more p.1) refl

all_last : (front : List (List ℕ)) (line : List ℕ) → are_lines (front ++ line ∷ []) ≡ true → is_line line ≡ true
all_last [] line h = (both (is_line line) true h).0
all_last (l ∷ front) line h = all_last front line (both (is_line l) (are_lines (front ++ line ∷ [])) h).1

apart : true ≡ false → ⊥
apart h = cc

pub within_front : (n : ℕ) (front more : List (List ℕ)) → are_within n (front ++ more) ≡ true → are_within n front ≡ true
within_front n [] more h = refl
within_front n (l ∷ front) more h = let p = both (is_within n l) (are_within (n + 1) (front ++ more)) h in rw (p.0, within_front (n + 1) front more p.1) refl

lines_push : (front : List (List ℕ)) (line : List ℕ) → lines_text (front ++ line ∷ []) ≡ lines_text front ++ whole_line line
lines_push [] line = append-nil (whole_line line)
lines_push (l ∷ front) line = ap (λ (w : List ℕ). whole_line l ++ w) (lines_push front line) ∙ sym (append_assoc (whole_line l) (lines_text front) (whole_line line))

-- a turn of a loop over the lines of a text
pub lines_more : (text rest after line : List ℕ) (front : List (List ℕ)) → text ≡ lines_text front ++ rest → rest ≡ line ++ 10 ∷ after → text ≡ lines_text (front ++ line ∷ []) ++ after
lines_more text rest after line front e f =
    e ∙ ap (λ (w : List ℕ). lines_text front ++ w) (f ∙ sym (opened line after)) ∙ sym (append_assoc (lines_text front) (whole_line line) after)
    ∙ ap (λ (w : List ℕ). w ++ after) (sym (lines_push front line))

pub within_more : (n : ℕ) (front : List (List ℕ)) (line : List ℕ) → are_within n front ≡ true → is_within (n + length front) line ≡ true → are_within n (front ++ line ∷ []) ≡ true
within_more n [] line p q = let z : n + 0 ≡ n = omega arith in let h : is_within n line ≡ true = subst (λ (k : ℕ). is_within k line ≡ true) z q in rw h refl
within_more n (l ∷ front) line p q =
    let one = both (is_within n l) (are_within (n + 1) front) p in
    let z : n + suc (length front) ≡ n + 1 + length front = omega arith in
    rw (one.0, within_more (n + 1) front line one.1 (subst (λ (k : ℕ). is_within k line ≡ true) z q)) refl

-- the number of the next line passes no limit if the next line is within them
pub within_last : (n : ℕ) (front : List (List ℕ)) (line : List ℕ) → are_within n (front ++ line ∷ []) ≡ true → is_within (n + length front) line ≡ true
within_last n [] line p = let z : n ≡ n + 0 = omega arith in subst (λ (k : ℕ). is_within k line ≡ true) z (both (is_within n line) true p).0
within_last n (l ∷ front) line p =
    let one = both (is_within n l) (are_within (n + 1) (front ++ line ∷ [])) p in
    let z : n + 1 + length front ≡ n + suc (length front) = omega arith in
    subst (λ (k : ℕ). is_within k line ≡ true) z (within_last (n + 1) front line one.1)

-- what a notation owes: no line feed in its lines, and one value for each list of lines
pub record IsLawful {V : Type 0} (notation : Notation V) : Type 0 where
  pub feedless : (value : V) → notation.fits value ≡ true → are_lines (notation.lines value) ≡ true
  pub one : (a b : V) → notation.fits a ≡ true → notation.fits b ≡ true → notation.lines a ≡ notation.lines b → a ≡ b

module _ {V : Type 0} (notation : Notation V) (lawful : IsLawful notation) where
  pub one_value : OneValue notation
  one_value first text a b p q =
      let same = same_lines (notation.lines b) (notation.lines a) (lawful.feedless b q.fit) (lawful.feedless a p.fit) (sym q.spelled ∙ p.spelled) in
      lawful.one a b p.fit q.fit same

  begun_lines : (first : ℕ) (front : List (List ℕ)) → Begins notation first front → are_lines front ≡ true
  begun_lines first front b = lines_front front b.more (subst (λ (w : List (List ℕ)). are_lines w ≡ true) b.begun (lawful.feedless b.value b.fit))

  -- a line with which some value's lines begin has no line feed
  last_line : (first : ℕ) (front : List (List ℕ)) (line : List ℕ) → Begins notation first (front ++ line ∷ []) → is_line line ≡ true
  last_line first front line b = all_last front line (begun_lines first (front ++ line ∷ []) b)

  ended : (first : ℕ) (text : List ℕ) (value : V) (number : ℕ) → IsTextOf notation first text value → (bad : IsBadLine notation first text number)
      → (tail : List (List ℕ)) → notation.lines value ≡ bad.front ++ tail → bad.rest ≡ lines_text tail → ⊥
  ended first text value number p bad [] e r = bad.no_end r value p.fit (e ∙ append-nil bad.front)
  ended first text value number p bad (l ∷ tail) e r =
      let more : notation.lines value ≡ (bad.front ++ l ∷ []) ++ tail = e ∙ sym (append_assoc bad.front (l ∷ []) tail) in
      let inside = within_front first (bad.front ++ l ∷ []) tail (subst (λ (w : List (List ℕ)). are_within first w ≡ true) more p.within) in
      bad.no_line l (lines_text tail) (r ∙ opened l (lines_text tail)) (record { value = value; more = tail; fit = p.fit; begun = more; within = inside })

  pub never_bad : NeverBad notation
  never_bad first text value number p bad =
      let h = begins bad.front (notation.lines value) bad.rest (begun_lines first bad.front bad.begins) (lawful.feedless value p.fit) (sym p.spelled ∙ bad.spelled) in
      ended first text value number p bad h.0 h.1 h.2

  module _ (first : ℕ) (text rest : List ℕ) (front : List (List ℕ)) (spelled : text ≡ lines_text front ++ rest) (begins_so : Begins notation first front) where
    -- the text ends before its next line is whole
    pub ends_early : is_line rest ≡ true → (rest ≡ [] → (value : V) → notation.fits value ≡ true → notation.lines value ≡ front → ⊥) → IsRefused notation first text (error.Form (first + length front))
    ends_early one unfinished =
        let bad : IsBadLine notation first text (first + length front) = record {
          front = front;
          rest = rest;
          spelled = spelled;
          counted = refl;
          begins = begins_so;
          no_line = λ line after e b. no_split rest line after one e;
          no_end = unfinished;
        } in
        (bad, λ p. no_split rest p.line p.after one p.spelled)

    module _ (line after : List ℕ) (whole : rest ≡ line ++ 10 ∷ after) (one : is_line line ≡ true) (wrong : Begins notation first (front ++ line ∷ []) → ⊥) where
      wrong_line : IsBadLine notation first text (first + length front)
      wrong_line =
          record {
            front = front;
            rest = rest;
            spelled = spelled;
            counted = refl;
            begins = begins_so;
            no_line = λ other behind e b.
                let same = same_split line other after behind one (last_line first front other b) (sym whole ∙ e) in
                wrong (subst (λ (l : List ℕ). Begins notation first (front ++ l ∷ [])) (sym same.0) b);
            no_end = λ e value fit lines. some line after (sym e ∙ whole);
          }

      -- the line begins no value's text and passes no limit
      pub wrong_form : (not (is_within (first + length front) line) || notation.is_large front line) ≡ false → IsRefused notation first text (error.Form (first + length front))
      unfolding wrong_line
      wrong_form small = (
        wrong_line,
        λ p.
            let same = same_split line p.line after p.after one p.one (sym whole ∙ p.spelled) in
            let large : (not (is_within (first + length front) line) || notation.is_large front line) ≡ true = ap (λ (l : List ℕ). not (is_within (first + length front) l) || notation.is_large front l) same.0 ∙ p.passed in
            apart (sym large ∙ small),
      )

      -- the line begins no value's text and passes a limit
      pub past_limit : (not (is_within (first + length front) line) || notation.is_large front line) ≡ true → IsRefused notation first text (error.Limit (first + length front))
      unfolding wrong_line
      past_limit large = (wrong_line, record { line = line; after = after; spelled = whole; one = one; passed = large })
