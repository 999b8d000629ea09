-- A text is the file of one plan with one certificate at most.
use Rattle.std.proofs.Common.{◌≡◌, ℕ, ◌≤◌, List, ◌++◌, length, take, drop, refl, sym, ap, ◌∙◌, subst, arith}
use Rattle.std.proofs.Math.Seq.{take-append_seam, drop-append_seam}
use Rattle.spelling.specs.Lines.Lines.{lines_text}
use Rattle.spelling.specs.Lines.Texts.{IsTextOf}
use Rattle.spelling.proofs.Texts.{one_value}
use Rattle.spelling.proofs.TermsAgain.{term_again}
use Rattle.spelling.proofs.Plain.{term_plain}
use Rattle.plan.specs.Plan.{Plan}
use Rattle.plan.specs.Lines.{certificate_line}
use Rattle.plan.specs.Certificate.Certificate.{Certificate}
use Rattle.nest.specs.Notation.{plan_notation}
use Rattle.nest.proofs.Steps.{lawful as lawful_plans}
use Rattle.cert.specs.Notation.{certificate_lines, certificate_notation}
use Rattle.cert.specs.File.Cut.{IsCut, certificate_head}
use Rattle.cert.specs.File.File.{IsFileOf, OneFile}
use Rattle.cert.proofs.Turns.{lawful}

-- a certificate's text begins with the line `cert`
record Begun (c : Certificate) : Type 0 where
  rest : List ℕ
  is : lines_text (certificate_lines c) ≡ certificate_head ++ rest

begun : (c : Certificate) → Begun c
begun c = record { rest = lines_text (drop 1 (certificate_lines c)); is = refl }

-- where a text is cut before a certificate's text, no other cut is before a longer part
at_most : (text : List ℕ) (p q : Plan) (c d : Certificate) (f : IsFileOf text p c) (g : IsFileOf text q d) → length g.front ≤ length f.front
at_most text p q c d f g =
    let b = begun c in
    let whole : text ≡ lines_text (plan_notation.lines p) ++ (certificate_head ++ b.rest) =
    f.cut.spelled ∙ ap (λ x. x ++ f.back) f.plan_text.spelled ∙ ap (λ x. lines_text (plan_notation.lines p) ++ x) (f.certificate_text.spelled ∙ b.is) in
    subst (λ x. length g.front ≤ length x) (sym f.plan_text.spelled) (g.cut.first (plan_notation.lines p) b.rest whole)

one_front : (text : List ℕ) (p q : Plan) (c d : Certificate) (f : IsFileOf text p c) (g : IsFileOf text q d) → length f.front ≡ length g.front
one_front text p q c d f g =
    let le = at_most text p q c d f g in
    let ge = at_most text q p d c g f in
    omega arith

front_of : (text front back : List ℕ) → text ≡ front ++ back → take (length front) text ≡ front
front_of text front back is = ap (take (length front)) is ∙ take-append_seam front back

back_of : (text front back : List ℕ) → text ≡ front ++ back → drop (length front) text ≡ back
back_of text front back is = ap (drop (length front)) is ∙ drop-append_seam front back

one_plan : (text : List ℕ) (p q : Plan) (c d : Certificate) (f : IsFileOf text p c) (g : IsFileOf text q d) → p ≡ q
one_plan text p q c d f g =
    let size = one_front text p q c d f g in
    let same : f.front ≡ g.front = sym (front_of text f.front f.back f.cut.spelled) ∙ ap (λ n. take n text) size ∙ front_of text g.front g.back g.cut.spelled in
    one_value plan_notation (lawful_plans term_again term_plain) 1 g.front p q (subst (λ x. IsTextOf plan_notation 1 x p) same f.plan_text) g.plan_text

one_certificate : (text : List ℕ) (p q : Plan) (c d : Certificate) (f : IsFileOf text p c) (g : IsFileOf text q d) → c ≡ d
one_certificate text p q c d f g =
    let size = one_front text p q c d f g in
    let same : f.back ≡ g.back = sym (back_of text f.front f.back f.cut.spelled) ∙ ap (λ n. drop n text) size ∙ back_of text g.front g.back g.cut.spelled in
    let line : certificate_line p ≡ certificate_line q = ap certificate_line (one_plan text p q c d f g) in
    let moved : IsTextOf certificate_notation (certificate_line q) g.back c =
    subst (λ n. IsTextOf certificate_notation n g.back c) line (subst (λ x. IsTextOf certificate_notation (certificate_line p) x c) same f.certificate_text) in
    one_value certificate_notation lawful (certificate_line q) g.back c d moved g.certificate_text

pub one_file : OneFile
one_file text p q c d f g = (one_plan text p q c d f g, one_certificate text p q c d f g)
