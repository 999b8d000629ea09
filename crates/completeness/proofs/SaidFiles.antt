-- The text of a plan and its certificate is their file: no line of a plan is the line `cert`.
use Rattle.std.proofs.Common.{◌≡◌, ◌⊎◌, inl, inr, ℕ, ◌≤◌, true, List, [], ◌∷◌, ◌++◌, length, map, drop, codes, refl, sym, ap, ◌∙◌, append_assoc, append-nil, length-append, arith}
use Rattle.std.specs.Prelude.{not}
use Rattle.std.specs.List.{AllByRecursion}
use Rattle.spelling.specs.Lines.Lines.{is_line_feed, is_line, whole_line, lines_text}
use Rattle.spelling.proofs.Splits.{both, same_split}
use Rattle.spelling.proofs.Texts.{are_lines, opened_two}
use Rattle.spelling.proofs.TermsAgain.{term_again}
use Rattle.spelling.proofs.Plain.{term_plain}
use Rattle.nest.specs.Blocks.Line.{Line, PlanLine, InputLine, OutputLine, GroupLine, ForLine, LetLine, FirstLine, ElseLine, GuardLine, EndLine, AllocLine, FetchLine, StoreLine, PublishLine}
use Rattle.nest.specs.Blocks.Flat.{plan_lines}
use Rattle.nest.specs.Spelling.{input_text, output_text, group_text, for_text, let_text, guard_text, alloc_text, fetch_text, store_text, line_text}
use Rattle.nest.specs.Notation.{plan_notation}
use Rattle.nest.proofs.Steps.{lawful as lawful_plans}
use Rattle.cert.specs.Notation.{certificate_lines}
use Rattle.cert.specs.File.Cut.{certificate_head}
use Rattle.completeness.specs.SaidFiles.{FilesFit}

-- ---- the line `cert`

first_byte : (a b : ℕ) (xs ys : List ℕ) → a ∷ xs ≡ b ∷ ys → a ≡ b
first_byte a b xs ys e = cc

abbrev IsOther : List ℕ → Type 0
IsOther line = line ≡ codes "cert" → ⊥

no_line : (l : Line) → IsOther (line_text l)
unfolding input_text output_text group_text for_text let_text guard_text alloc_text fetch_text store_text
no_line (PlanLine name) e = let h = first_byte 112 99 _ _ e in omega (arith, h)
no_line (InputLine d) e = let h = first_byte 105 99 _ _ e in omega (arith, h)
no_line (OutputLine d) e = let h = first_byte 111 99 _ _ e in omega (arith, h)
no_line (GroupLine n f region grid) e = let h = first_byte 103 99 _ _ e in omega (arith, h)
no_line (ForLine i span k) e = let h = first_byte 102 99 _ _ e in omega (arith, h)
no_line (LetLine i p forms) e = let h = first_byte 108 99 _ _ e in omega (arith, h)
no_line (FirstLine i) e = let h = first_byte 102 99 _ _ e in omega (arith, h)
no_line ElseLine e = let h = first_byte 101 99 _ _ e in omega (arith, h)
no_line (GuardLine low high) e = let h = first_byte 103 99 _ _ e in omega (arith, h)
no_line EndLine e = let h = first_byte 101 99 _ _ e in omega (arith, h)
no_line (AllocLine b f all) e = let h = first_byte 97 99 _ _ e in omega (arith, h)
no_line (FetchLine b g region) e = let h = first_byte 102 99 _ _ e in omega (arith, h)
no_line (StoreLine b k at e) same = let h = first_byte 115 99 _ _ same in omega (arith, h)
no_line (PublishLine c) e = let h = first_byte 112 99 _ _ e in omega (arith, h)

pub no_lines : (ls : List Line) → AllByRecursion IsOther (map line_text ls)
no_lines [] = tt
no_lines (l ∷ ls) = (no_line l, no_lines ls)

-- ---- texts that are nothing or end with a line feed

abbrev Ends : List ℕ → Type 0
Ends text = (text ≡ []) ⊎ ((bytes : List ℕ) × (text ≡ bytes ++ 10 ∷ []))

one_more : (l text : List ℕ) → Ends text → Ends (whole_line l ++ text)
one_more l text (inl none) = inr (l, ap (λ (t : List ℕ). whole_line l ++ t) none ∙ append-nil (whole_line l))
one_more l text (inr (bytes, is)) = inr (whole_line l ++ bytes, ap (λ (t : List ℕ). whole_line l ++ t) is ∙ sym (append_assoc (whole_line l) bytes (10 ∷ [])))

line_end : (lines : List (List ℕ)) → Ends (lines_text lines)
line_end [] = inl refl
line_end (l ∷ ls) = one_more l (lines_text ls) (line_end ls)

-- such a text in front of others has their first line whole
record Stripped (l behind bytes tail : List ℕ) : Type 0 where
  rest : List ℕ
  is : bytes ++ 10 ∷ [] ≡ l ++ 10 ∷ rest
  ends : Ends rest
  joined : rest ++ tail ≡ behind

strip : (l behind bytes tail : List ℕ) → is_line l ≡ true → bytes ++ 10 ∷ tail ≡ l ++ 10 ∷ behind → Stripped l behind bytes tail
strip [] behind [] tail p e = record { rest = []; is = refl; ends = inl refl; joined = cc }
strip [] behind (b ∷ bytes) tail p e =
    let feed : b ≡ 10 = cc in
    let same : bytes ++ 10 ∷ tail ≡ behind = cc in
    record { rest = bytes ++ 10 ∷ []; is = ap (λ (x : ℕ). x ∷ (bytes ++ 10 ∷ [])) feed; ends = inr (bytes, refl); joined = append_assoc bytes (10 ∷ []) tail ∙ same }
strip (a ∷ l) behind [] tail p e =
    let feed : 10 ≡ a = cc in
    let own = both (not (is_line_feed a)) (is_line l) p in
    absurd (let none : not (is_line_feed 10) ≡ true = ap (λ (x : ℕ). not (is_line_feed x)) feed ∙ own.0 in cc)
strip (a ∷ l) behind (b ∷ bytes) tail p e =
    let byte : b ≡ a = cc in
    let more : bytes ++ 10 ∷ tail ≡ l ++ 10 ∷ behind = cc in
    let own = both (not (is_line_feed a)) (is_line l) p in
    let r = strip l behind bytes tail own.1 more in
    record { rest = r.rest; is = λ i. byte i ∷ r.is i; ends = r.ends; joined = r.joined }

-- ---- the cut

-- behind lines of which none is `cert`, no earlier line is
pub no_earlier : (ls : List (List ℕ)) (back front rest : List ℕ) → are_lines ls ≡ true → AllByRecursion IsOther ls → lines_text ls ++ back ≡ front ++ (certificate_head ++ rest)
    → Ends front → length (lines_text ls) ≤ length front
no_earlier [] back front rest p others e ends = omega arith
no_earlier (l ∷ ls) back front rest p others e (inl none) =
    let one = both (is_line l) (are_lines ls) p in
    let start : l ++ 10 ∷ (lines_text ls ++ back) ≡ codes "cert" ++ 10 ∷ rest =
    sym (opened_two l (lines_text ls) back) ∙ e ∙ ap (λ (t : List ℕ). t ++ (certificate_head ++ rest)) none in
    absurd (others.0 (same_split l (codes "cert") (lines_text ls ++ back) rest one.0 refl start).0)
no_earlier (l ∷ ls) back front rest p others e (inr (bytes, is)) =
    let one = both (is_line l) (are_lines ls) p in
    let tail = certificate_head ++ rest in
    let whole : bytes ++ 10 ∷ tail ≡ l ++ 10 ∷ (lines_text ls ++ back) =
    sym (append_assoc bytes (10 ∷ []) tail) ∙ ap (λ (t : List ℕ). t ++ tail) (sym is) ∙ sym e ∙ opened_two l (lines_text ls) back in
    let s = strip l (lines_text ls ++ back) bytes tail one.0 whole in
    let more = no_earlier ls back s.rest rest one.1 others.1 (sym s.joined) s.ends in
    let long : length front ≡ length (l ++ 10 ∷ s.rest) = ap length is ∙ ap length s.is in
    omega (arith, more, long, length-append l (10 ∷ s.rest), length-append (whole_line l) (lines_text ls), length-append l (10 ∷ []))

pub files_fit : FilesFit
files_fit p c plan_fits certificate_fits plan_within certificate_within =
    let lines = plan_notation.lines p in
    let back = lines_text (certificate_lines c) in
    let feedless = (lawful_plans term_again term_plain).feedless p plan_fits in
    record {
      front = lines_text lines;
      back = back;
      cut = record {
        spelled = refl;
        begins = inr (line_end lines, (lines_text (drop 1 (certificate_lines c)), refl));
        first = λ earlier rest e. no_earlier lines back (lines_text earlier) rest feedless (no_lines (plan_lines p)) e (line_end earlier);
      };
      plan_text = record { spelled = refl; fit = plan_fits; within = plan_within };
      certificate_text = record { spelled = refl; fit = certificate_fits; within = certificate_within };
    }
