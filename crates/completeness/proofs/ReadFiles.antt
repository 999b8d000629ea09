-- The text of a plan and its certificate is read as these two and nothing else, and never refused for its form.
use Rattle.std.proofs.Common.{◌≡◌, ◌⊎◌, inl, inr, ℕ, ◌+◌, ◌≤◌, Bool, true, false, List, [], ◌∷◌, ◌++◌, length, take, drop, refl, sym, ap, ◌∙◌, subst, append_assoc, append-nil, length-append, arith}
use Rattle.std.specs.Prelude.{not, ◌||◌, ◌&&◌, nat_le}
use Rattle.std.specs.List.{list_all}
use Rattle.std.proofs.lemmas.Bool.Decides.{nat_tests}
use Rattle.std.proofs.Math.Seq.{take-append_seam, drop-append_seam}
use Rattle.plan.specs.Plan.{Plan}
use Rattle.plan.specs.Lines.{certificate_line}
use Rattle.plan.specs.Certificate.Certificate.{Certificate}
use Rattle.spelling.specs.Lines.Lines.{is_line, lines_text, is_within, are_within}
use Rattle.spelling.specs.Lines.Texts.{Notation, IsBadLine, IsRefused, PassesLimit}
use Rattle.spelling.specs.declared.lines.error.TextError.TheVariants as error
use Rattle.spelling.proofs.Splits.{both}
use Rattle.spelling.proofs.Texts.{are_lines, opened, begins, same_lines, lines_front, within_more, IsLawful, never_bad}
use Rattle.spelling.proofs.TermsAgain.{term_again}
use Rattle.spelling.proofs.Plain.{term_plain}
use Rattle.nest.proofs.Counts.{lines_counted}
use Rattle.nest.specs.Blocks.Flat.{plan_lines}
use Rattle.nest.specs.Notation.{fits_plan, plan_notation}
use Rattle.nest.proofs.Steps.{lawful as lawful_plans}
use Rattle.cert.specs.Notation.{fits_certificate, certificate_lines, certificate_notation}
use Rattle.cert.specs.File.Cut.{EndsLine, IsCut, certificate_head}
use Rattle.cert.specs.File.File.{IsFileOf, CertificateRefused, IsRefusedFile}
use Rattle.cert.proofs.Turns.{lawful as lawful_certificates}
use Rattle.completeness.specs.OfPlans.{file_text, is_short, AreLinesShort, AreStoresSmall, IsFileOfPlan}
use Rattle.completeness.proofs.SaidFiles.{no_lines, no_earlier, files_fit}

-- ---- the text of a value that fits

module _ {V : Type 0} (notation : Notation V) (lawful : IsLawful notation) (first : ℕ) (text : List ℕ) (value : V) (number : ℕ) (spelled : text ≡ lines_text (notation.lines value))
    (fit : notation.fits value ≡ true) where
  -- where a line is bad, it passes a limit
  limit_passed : (bad : IsBadLine notation first text number) → (PassesLimit notation number bad.front bad.rest → ⊥) → (tail : List (List ℕ)) → notation.lines value ≡ bad.front ++ tail →
      bad.rest ≡ lines_text tail → are_lines tail ≡ true → ⊥
  limit_passed bad no_limit [] e r t = bad.no_end r value fit (e ∙ append-nil bad.front)
  limit_passed bad no_limit (l ∷ tail) e r t = by (is_within number l) refl
    where
      by : (b : Bool) → is_within number l ≡ b → ⊥
      by true w = bad.no_line l (lines_text tail) (r ∙ opened l (lines_text tail)) (record {
        value = value;
        more = tail;
        fit = fit;
        begun = e ∙ sym (append_assoc bad.front (l ∷ []) tail);
        within = within_more first bad.front l bad.begins.within (subst (λ (n : ℕ). is_within n l ≡ true) bad.counted w);
      })
      by false w = no_limit (record {
        line = l;
        after = lines_text tail;
        spelled = r ∙ opened l (lines_text tail);
        one = (both (is_line l) (are_lines tail) t).0;
        passed = ap (λ (b : Bool). not b || notation.is_large bad.front l) w;
      })

  never_formed : IsRefused notation first text (error.Form number) → ⊥
  never_formed refused =
      let bad = refused.0 in
      let b = bad.begins in
      let front : are_lines bad.front ≡ true = lines_front bad.front b.more (subst (λ (w : List (List ℕ)). are_lines w ≡ true) b.begun (lawful.feedless b.value b.fit)) in
      let h = begins bad.front (notation.lines value) bad.rest front (lawful.feedless value fit) (sym spelled ∙ bad.spelled) in
      limit_passed bad refused.1 h.0 h.1 h.2 h.3

-- texts of lines are of one value
one_of : {V : Type 0} (notation : Notation V) → IsLawful notation → (a b : V) → notation.fits a ≡ true → notation.fits b ≡ true → lines_text (notation.lines b) ≡ lines_text (notation.lines a) → a ≡ b
one_of notation lawful a b fit fits e =
    lawful.one a b fit fits (same_lines (notation.lines b) (notation.lines a) (lawful.feedless b fits) (lawful.feedless a fit) e)

-- ---- files

-- short lines, as many as a file may have
lines_within : (n : ℕ) (ls : List (List ℕ)) → list_all is_short ls ≡ true → n + length ls ≤ 65537 → are_within n ls ≡ true
lines_within n [] short few = refl
lines_within n (l ∷ ls) short few =
    let each = both (is_short l) (list_all is_short ls) short in
    let number : nat_le n 65536 ≡ true = at_most n 65536 (omega (arith, few)) in
    let rest = lines_within (n + 1) ls each.1 (omega (arith, few)) in
    λ i. number i && each.0 i && rest i
  where
    at_most : (k m : ℕ) → k ≤ m → nat_le k m ≡ true
    at_most k m h = grind (arith, nat_tests)

module _ (p : Plan) (c : Certificate) (plan_fits : fits_plan p ≡ true) (certificate_fits : fits_certificate c ≡ true)
    (few : certificate_line p + length (certificate_lines c) ≤ 65537) where
  abbrev lines : List (List ℕ)
  lines = plan_notation.lines p

  abbrev before : List ℕ
  before = lines_text lines

  abbrev behind : List ℕ
  behind = lines_text (certificate_lines c)

  abbrev plans : IsLawful plan_notation
  plans = lawful_plans term_again term_plain

  -- there is one line `cert` to cut it at
  record IsCutHere (front back : List ℕ) : Type 0 where
    is_before : front ≡ before
    is_behind : back ≡ behind

  cut_here : (front back : List ℕ) → IsCut (file_text p c) front back → IsCutHere front back
  cut_here front back cut =
      let upper = cut.first lines (lines_text (drop 1 (certificate_lines c))) refl in
      let lower = at_least cut.begins in
      let size : length front ≡ length before = omega (arith, upper, lower) in
      record {
        is_before = sym (ap (take (length front)) cut.spelled ∙ take-append_seam front back) ∙ ap (λ n. take n (file_text p c)) size ∙ take-append_seam before behind;
        is_behind = sym (ap (drop (length front)) cut.spelled ∙ drop-append_seam front back) ∙ ap (λ n. drop n (file_text p c)) size ∙ drop-append_seam before behind;
      }
    where
      at_least : (back ≡ []) ⊎ (EndsLine front × ((rest : List ℕ) × (back ≡ certificate_head ++ rest))) → length before ≤ length front
      at_least (inl none) =
          let whole : file_text p c ≡ front = cut.spelled ∙ ap (λ (t : List ℕ). front ++ t) none ∙ append-nil front in
          let long = ap length whole in
          let parts = length-append before behind in
          omega (arith, long, parts)
      at_least (inr (ends, (rest, is))) =
          no_earlier lines behind front rest (plans.feedless p plan_fits) (no_lines (plan_lines p)) (cut.spelled ∙ ap (λ (t : List ℕ). front ++ t) is) ends

  alone : (q : Plan) (d : Certificate) → IsFileOf (file_text p c) q d → (q ≡ p) × (d ≡ c)
  alone q d f =
      let cut = cut_here f.front f.back f.cut in (
        one_of plan_notation plans q p f.plan_text.fit plan_fits (sym cut.is_before ∙ f.plan_text.spelled),
        one_of certificate_notation lawful_certificates d c f.certificate_text.fit certificate_fits (sym cut.is_behind ∙ f.certificate_text.spelled),
      )

  formed : (line : ℕ) → IsRefusedFile (file_text p c) (error.Form line) → ⊥
  formed line r = by r.refused
    where
      cut : IsCutHere r.front r.back
      cut = cut_here r.front r.back r.cut

      by : IsRefused plan_notation 1 r.front (error.Form line) ⊎ CertificateRefused r.front r.back (error.Form line) → ⊥
      by (inl h) = never_formed plan_notation plans 1 r.front p line cut.is_before plan_fits h
      by (inr h) = never_formed certificate_notation lawful_certificates (certificate_line h.plan) r.back c line cut.is_behind certificate_fits h.refused

  -- and where no line is too long, it is never refused
  record AreWithin : Type 0 where
    plan : are_within 1 (plan_notation.lines p) ≡ true
    certificate : are_within (certificate_line p) (certificate_lines c) ≡ true

  all_within : AreLinesShort p c → AreWithin
  all_within short =
      let counted = lines_counted p in
      record { plan = lines_within 1 (plan_notation.lines p) short.plan (omega (arith, counted, few)); certificate = lines_within (certificate_line p) (certificate_lines c) short.certificate few }

  limited : (line : ℕ) → IsRefusedFile (file_text p c) (error.Limit line) → AreLinesShort p c → ⊥
  limited line r short = by r.refused
    where
      within : AreWithin
      within = all_within short

      cut : IsCutHere r.front r.back
      cut = cut_here r.front r.back r.cut

      by : IsRefused plan_notation 1 r.front (error.Limit line) ⊎ CertificateRefused r.front r.back (error.Limit line) → ⊥
      by (inl h) = never_bad plan_notation plans 1 r.front p line (record { spelled = cut.is_before; fit = plan_fits; within = within.plan }) h.0
      by (inr h) =
          let same : h.plan ≡ p = one_of plan_notation plans h.plan p h.plan_text.fit plan_fits (sym cut.is_before ∙ h.plan_text.spelled) in
          let here : are_within (certificate_line h.plan) (certificate_lines c) ≡ true =
          subst (λ (q : Plan). are_within (certificate_line q) (certificate_lines c) ≡ true) (sym same) within.certificate in
          never_bad certificate_notation lawful_certificates (certificate_line h.plan) r.back c line (record { spelled = cut.is_behind; fit = certificate_fits; within = here }) h.refused.0

  pub file_of_plan : (AreStoresSmall p → AreLinesShort p c) → IsFileOfPlan p c
  file_of_plan small_stores = record {
    short = small_stores;
    read = λ short. let within = all_within short in files_fit p c plan_fits certificate_fits within.plan within.certificate;
    alone = alone;
    formed = formed;
    limited = limited;
  }
