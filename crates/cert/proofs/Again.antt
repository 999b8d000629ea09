-- What is written for a line is read as that line.
use Rattle.std.proofs.Common.{◌≡◌, ℕ, true, ◌&&◌, List, [], ◌∷◌, ◌++◌, refl, sym, ap, ◌∙◌, arith}
use Rattle.std.specs.Prelude.{nat_lt, ◌^◌, drop}
use Rattle.std.proofs.lemmas.Bool.{ltb-true, lt-ltb}
use Rattle.std.proofs.lemmas.List.{append-nil}
use Rattle.lin.specs.declared.span.Span1.{Span1}
use Rattle.spelling.specs.Words.Spelling.{count_text, symbol_text, span_text, region_text}
use Rattle.spelling.specs.Words.Fitting.{fits_count, fits_symbol, fits_span, fits_region, is_name}
use Rattle.spelling.specs.Words.Reading.{count_from, name_from, span_from, region_from}
use Rattle.spelling.proofs.WordsAgain.{count_again, symbol_again, name_again, span_again, region_again}
use Rattle.spelling.specs.Sizes.Sizes.{fits_size, size_from}
use Rattle.spelling.proofs.SizesSizes.{size_again}
use Rattle.plan.specs.declared.certificate.cert.Own.{Own}
use Rattle.plan.specs.declared.certificate.cert.Need.{Need}
use Rattle.plan.specs.declared.certificate.cert.Window.{Window}
use Rattle.plan.specs.Certificate.Certificate.{Claim}
use Rattle.cert.specs.Lines.{Line, Head, OwnLine, NeedLine, ClaimLine, WindowLine, End}
use Rattle.cert.specs.Spelling.{own_text, need_text, claim_text, window_text, line_text}
use Rattle.cert.specs.Reading.{own_from, need_from, claim_from, window_from, number_from, line_from}
use Rattle.cert.specs.Order.{fits_line}
use Rattle.cert.proofs.Tests.{both}

region_alone : (region : List Span1) → fits_region region ≡ true → region_from (region_text region) ≡ (region, [])
region_alone region fits = ap region_from (sym (append-nil (region_text region))) ∙ region_again region [] fits refl

span_alone : (span : Span1) → fits_span span ≡ true → span_from (span_text span) ≡ (span, [])
span_alone span fits = ap span_from (sym (append-nil (span_text span))) ∙ span_again span [] fits refl

pub record OwnFits (o : Own) : Type 0 where
  pub group : fits_size o.group ≡ true
  pub region : fits_region o.region ≡ true

pub own_fits : (o : Own) → fits_line (OwnLine o) ≡ true → OwnFits o
own_fits o fits = let p = both (fits_size o.group) (fits_region o.region) fits in record { group = p.0; region = p.1 }

own_again : (o : Own) → OwnFits o → own_from (own_text o) ≡ o
unfolding own_from own_text
own_again o fits = rw (size_again o.group (32 ∷ region_text o.region) fits.group refl, region_alone o.region fits.region) refl

pub record NeedFits (n : Need) : Type 0 where
  pub group : fits_size n.group ≡ true
  pub needed : fits_size n.needed ≡ true
  pub region : fits_region n.region ≡ true

pub need_fits : (n : Need) → fits_line (NeedLine n) ≡ true → NeedFits n
need_fits n fits =
    let p = both (fits_size n.group && fits_size n.needed) (fits_region n.region) fits in
    let q = both (fits_size n.group) (fits_size n.needed) p.0 in
    record { group = q.0; needed = q.1; region = p.1 }

need_again : (n : Need) → NeedFits n → need_from (need_text n) ≡ n
unfolding need_from need_text
need_again n fits =
    let behind = 32 ∷ region_text n.region in
    rw (size_again n.group (32 ∷ (count_text n.needed ++ behind)) fits.group refl, size_again n.needed behind fits.needed refl, region_alone n.region fits.region) refl

pub record WindowFits (w : Window) : Type 0 where
  pub claim : fits_size w.claim ≡ true
  pub symbol : fits_symbol w.symbol ≡ true
  pub dimension : fits_size w.dimension ≡ true
  pub fold : fits_size w.fold ≡ true
  pub span : fits_span w.span ≡ true

pub window_fits : (w : Window) → fits_line (WindowLine w) ≡ true → WindowFits w
window_fits w fits =
    let p = both (fits_size w.claim && fits_symbol w.symbol && fits_size w.dimension && fits_size w.fold) (fits_span w.span) fits in
    let q = both (fits_size w.claim && fits_symbol w.symbol && fits_size w.dimension) (fits_size w.fold) p.0 in
    let r = both (fits_size w.claim && fits_symbol w.symbol) (fits_size w.dimension) q.0 in
    let s = both (fits_size w.claim) (fits_symbol w.symbol) r.0 in
    record { claim = s.0; symbol = s.1; dimension = r.1; fold = q.1; span = p.1 }

window_again : (w : Window) → WindowFits w → window_from (window_text w) ≡ w
unfolding window_from window_text
window_again w fits =
    let folded = 32 ∷ span_text w.span in
    let sized = 32 ∷ (count_text w.fold ++ folded) in
    let named = 32 ∷ (count_text w.dimension ++ sized) in
    rw (
      size_again w.claim (32 ∷ (symbol_text w.symbol ++ named)) fits.claim refl,
      symbol_again w.symbol named fits.symbol refl,
      size_again w.dimension sized fits.dimension refl,
      size_again w.fold folded fits.fold refl,
      span_alone w.span fits.span,
    ) refl

-- the parts of a claim that fits
pub record ClaimFits (k : ℕ) (c : Claim) : Type 0 where
  pub number : fits_count k ≡ true
  pub line : fits_size c.line ≡ true
  pub buffer : fits_size c.buffer ≡ true
  pub function : is_name c.function ≡ true
  pub definition : fits_size c.definition ≡ true
  pub region : fits_region c.region ≡ true

counted : (k : ℕ) → nat_lt k 4096 ≡ true → fits_count k ≡ true
counted k h = let lt = ltb-true k 4096 h in lt-ltb k (2 ^ 32) (omega arith)

pub claim_fits : (k : ℕ) (c : Claim) → fits_line (ClaimLine k c) ≡ true → ClaimFits k c
claim_fits k c fits =
    let p = both (nat_lt k 4096 && fits_size c.line && fits_size c.buffer && is_name c.function && fits_size c.definition) (fits_region c.region) fits in
    let q = both (nat_lt k 4096 && fits_size c.line && fits_size c.buffer && is_name c.function) (fits_size c.definition) p.0 in
    let r = both (nat_lt k 4096 && fits_size c.line && fits_size c.buffer) (is_name c.function) q.0 in
    let s = both (nat_lt k 4096 && fits_size c.line) (fits_size c.buffer) r.0 in
    let t = both (nat_lt k 4096) (fits_size c.line) s.0 in
    record { number = counted k t.0; line = t.1; buffer = s.1; function = r.1; definition = q.1; region = p.1 }

claim_behind : Claim → List ℕ
claim_behind c = 32 ∷ (count_text c.line ++ (32 ∷ (98 ∷ (count_text c.buffer ++ (32 ∷ (c.function ++ (32 ∷ (count_text c.definition ++ (32 ∷ region_text c.region)))))))))

claim_number_again : (k : ℕ) (c : Claim) → ClaimFits k c → number_from (claim_text k c) ≡ (k, claim_behind c)
unfolding claim_text claim_behind
claim_number_again k c fits = count_again k (claim_behind c) fits.number refl

-- what stands behind the buffer of a claim
claim_with : ℕ → ℕ → List ℕ × List ℕ → Claim
claim_with line buffer function =
    let definition = size_from (drop 1 function.1) in
    let region = region_from (drop 1 definition.1) in
    record { line = line; buffer = buffer; function = function.0; definition = definition.0; region = region.0 }

claim_split : (text : List ℕ) → claim_from text ≡ claim_with (size_from (drop 1 text)).0 (size_from (drop 2 (size_from (drop 1 text)).1)).0 (name_from (drop 1 (size_from (drop 2 (size_from (drop 1 text)).1)).1))
unfolding claim_from claim_with
claim_split text = refl

claim_end : (c : Claim) → fits_size c.definition ≡ true → fits_region c.region ≡ true → claim_with c.line c.buffer (c.function, 32 ∷ (count_text c.definition ++ (32 ∷ region_text c.region))) ≡ c
unfolding claim_with
claim_end c p q = rw (size_again c.definition (32 ∷ region_text c.region) p refl, region_alone c.region q) refl

claim_front : (c : Claim) (behind : List ℕ) → fits_size c.line ≡ true → fits_size c.buffer ≡ true
    → claim_from (32 ∷ (count_text c.line ++ (32 ∷ (98 ∷ (count_text c.buffer ++ (32 ∷ behind)))))) ≡ claim_with c.line c.buffer (name_from behind)
claim_front c behind p q =
    claim_split (32 ∷ (count_text c.line ++ (32 ∷ (98 ∷ (count_text c.buffer ++ (32 ∷ behind))))))
    ∙ ap (λ (n : ℕ × List ℕ). claim_with n.0 (size_from (drop 2 n.1)).0 (name_from (drop 1 (size_from (drop 2 n.1)).1))) (size_again c.line (32 ∷ (98 ∷ (count_text c.buffer ++ (32 ∷ behind)))) p refl)
    ∙ ap (λ (n : ℕ × List ℕ). claim_with c.line n.0 (name_from (drop 1 n.1))) (size_again c.buffer (32 ∷ behind) q refl)

claim_again : (k : ℕ) (c : Claim) → ClaimFits k c → claim_from (claim_behind c) ≡ c
unfolding claim_behind
claim_again k c fits =
    let named = 32 ∷ (count_text c.definition ++ (32 ∷ region_text c.region)) in
    claim_front c (c.function ++ named) fits.line fits.buffer
    ∙ ap (claim_with c.line c.buffer) (name_again c.function named fits.function refl)
    ∙ claim_end c fits.definition fits.region

line_own : (o : Own) → fits_line (OwnLine o) ≡ true → line_from (own_text o) ≡ OwnLine o
unfolding own_text
line_own o fits = ap OwnLine (own_again o (own_fits o fits))

line_need : (n : Need) → fits_line (NeedLine n) ≡ true → line_from (need_text n) ≡ NeedLine n
unfolding need_text
line_need n fits = ap NeedLine (need_again n (need_fits n fits))

line_window : (w : Window) → fits_line (WindowLine w) ≡ true → line_from (window_text w) ≡ WindowLine w
unfolding window_text
line_window w fits = ap WindowLine (window_again w (window_fits w fits))

line_claim : (k : ℕ) (c : Claim) → fits_line (ClaimLine k c) ≡ true → line_from (claim_text k c) ≡ ClaimLine k c
unfolding claim_text
line_claim k c fits =
    let f = claim_fits k c fits in
    let n = claim_number_again k c f in
    ap (λ (p : ℕ × List ℕ). ClaimLine p.0 (claim_from p.1)) n ∙ ap (ClaimLine k) (claim_again k c f)

pub line_again : (l : Line) → fits_line l ≡ true → line_from (line_text l) ≡ l
line_again Head fits = refl
line_again (OwnLine o) fits = line_own o fits
line_again (NeedLine n) fits = line_need n fits
line_again (ClaimLine k c) fits = line_claim k c fits
line_again (WindowLine w) fits = line_window w fits
line_again End fits = refl
