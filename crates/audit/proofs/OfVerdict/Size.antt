-- How large a form over near symbols is.
use Rattle.std.proofs.Common.{◌≡◌, ℕ, ◌+◌, ◌*◌, ◌^◌, ◌<◌, Bool, true, false, List, [], ◌∷◌, ◌++◌, length, refl, subst, arith}
use Rattle.std.specs.Prelude.{ℤ, ◌+ℤ◌, ◌*ℤ◌, ◌==◌, ◌||◌, ◌&&◌}
use Rattle.std.specs.List.{AllByRecursion, list_any, list_all}
use Rattle.std.proofs.lemmas.Int.{ints}
use Rattle.std.proofs.lemmas.List.Elements.{All-from_recursion}
use Rattle.lin.specs.Forms.{Form, sum_of, IsWithin, AreWithin, is_within_limits}
use Rattle.lin.specs.declared.form.Multiple.{Multiple}
use Rattle.lin.specs.declared.span.Span1.{Span1}
use Rattle.lin.proofs.Limits.{within_limits-terms, within_limits-constant, within_limits-few}
use Rattle.lin.proofs.Machine.{product_within, sum_within}
use Rattle.plan.specs.Symbols.{Symbols, form_value}
use Rattle.soundness.specs.Obligations.{form_has, span_has}
use Rattle.soundness.proofs.Forms.{rec_weaker}
use Rattle.soundness.proofs.Refines.{and_parts, eq_true}
use Rattle.interpreter.specs.Narrow.{IsNumber, FormIsNarrow, SpanIsNarrow, RegionIsNarrow}
use Rattle.audit.specs.Verdict.Bounded.Near.{is_over, FormStands, SpanStands}

-- the symbol is one of these
abbrev pub is_one : ℕ → List ℕ → Bool
is_one i symbols = list_any (λ s. s == i) symbols

-- each of these symbols is at most 2^39 from 0
abbrev pub AreNear : List ℕ → Symbols → Type 0
AreNear symbols s = (i : ℕ) → is_one i symbols ≡ true → IsWithin (2 ^ 39) (s.value i)

-- each symbol of the terms is
abbrev pub TermsAreNear : List Multiple → Symbols → Type 0
TermsAreNear ts s = AllByRecursion (λ (t : Multiple). IsWithin (2 ^ 39) (s.value t.symbol)) ts

module _ (s : Symbols) where
  sum_near : (ts : List Multiple) → AreWithin (2 ^ 20) ts → TermsAreNear ts s → IsWithin (length ts * (2 ^ 20 * 2 ^ 39)) (sum_of ts s.value)
  sum_near [] factors near = omega arith
  sum_near (t ∷ ts) factors near =
      let product : IsWithin (2 ^ 20 * 2 ^ 39) (t.factor *ℤ s.value t.symbol) = product_within (2 ^ 20) (2 ^ 39) t.factor (s.value t.symbol) factors.0 near.0 in
      let rest : IsWithin (length ts * (2 ^ 20 * 2 ^ 39)) (sum_of ts s.value) = sum_near ts factors.1 near.1 in
      let sum : IsWithin (2 ^ 20 * 2 ^ 39 + length ts * (2 ^ 20 * 2 ^ 39)) (t.factor *ℤ s.value t.symbol +ℤ sum_of ts s.value) =
      sum_within (2 ^ 20 * 2 ^ 39) (length ts * (2 ^ 20 * 2 ^ 39)) (t.factor *ℤ s.value t.symbol) (sum_of ts s.value) product rest in
      omega (arith, sum)

  pub is_number : (m : ℕ) (z : ℤ) → IsWithin m z → m < 2 ^ 63 → IsNumber z
  is_number m z h l = record { from = omega (arith, ints); to = omega (arith, ints) }

  -- a form within the limits over symbols that are near
  pub form_is_narrow : (f : Form) → is_within_limits f ≡ true → TermsAreNear f.terms s → FormIsNarrow s f
  form_is_narrow f limits near =
      let few = within_limits-few f limits in
      let sum : IsWithin (length f.terms * (2 ^ 20 * 2 ^ 39)) (sum_of f.terms s.value) = sum_near f.terms (within_limits-terms f limits) near in
      let whole : IsWithin (2 ^ 40 + length f.terms * (2 ^ 20 * 2 ^ 39)) (form_value f s) =
      sum_within (2 ^ 40) (length f.terms * (2 ^ 20 * 2 ^ 39)) f.constant (sum_of f.terms s.value) (within_limits-constant f limits) sum in
      record { limits = limits; value = is_number (2 ^ 40 + length f.terms * (2 ^ 20 * 2 ^ 39)) (form_value f s) whole (omega (arith, few)) }

module _ (symbols : List ℕ) (s : Symbols) (near : AreNear symbols s) where
  terms_near : (ts : List Multiple) → list_all (λ (t : Multiple). is_one t.symbol symbols) ts ≡ true → TermsAreNear ts s
  terms_near [] over = tt
  terms_near (t ∷ ts) over =
      let k = and_parts (is_one t.symbol symbols) (list_all (λ (u : Multiple). is_one u.symbol symbols) ts) over in
      (near t.symbol k.0, terms_near ts k.1)

  pub form_narrow : (f : Form) → FormStands symbols f → FormIsNarrow s f
  form_narrow f h = form_is_narrow s f h.limits (terms_near f.terms h.over)

  pub span_narrow : (x : Span1) → SpanStands symbols x → SpanIsNarrow s x
  span_narrow x h = record {
    lower = All-from_recursion (FormIsNarrow s) x.lower (rec_weaker (FormStands symbols) (FormIsNarrow s) form_narrow x.lower h.lower);
    upper = All-from_recursion (FormIsNarrow s) x.upper (rec_weaker (FormStands symbols) (FormIsNarrow s) form_narrow x.upper h.upper);
  }

  pub region_narrow : (xs : List Span1) → AllByRecursion (SpanStands symbols) xs → RegionIsNarrow s xs
  region_narrow xs h = All-from_recursion (SpanIsNarrow s) xs (rec_weaker (SpanStands symbols) (SpanIsNarrow s) span_narrow xs h)

-- ---- symbols of forms

-- all symbols of the forms, or of the span, are among these
abbrev pub FormsAreOver : List ℕ → List Form → Type 0
FormsAreOver symbols fs = AllByRecursion (λ f. is_over symbols f ≡ true) fs

pub record IsOver (symbols : List ℕ) (x : Span1) : Type 0 where
  pub lower : FormsAreOver symbols x.lower
  pub upper : FormsAreOver symbols x.upper

pub forms_over_of : (symbols : List ℕ) (fs : List Form) → AllByRecursion (FormStands symbols) fs → FormsAreOver symbols fs
forms_over_of symbols fs h = rec_weaker (FormStands symbols) (λ f. is_over symbols f ≡ true) (λ f k. k.over) fs h

pub over_of : (symbols : List ℕ) (x : Span1) → SpanStands symbols x → IsOver symbols x
over_of symbols x h = record { lower = forms_over_of symbols x.lower h.lower; upper = forms_over_of symbols x.upper h.upper }

-- ---- more symbols

-- each of the few symbols is one of the many
abbrev pub AreAmong : List ℕ → List ℕ → Type 0
AreAmong few many = (i : ℕ) → is_one i few ≡ true → is_one i many ≡ true

and_both : (v w : Bool) → v ≡ true → w ≡ true → (v && w) ≡ true
and_both true w h k = k
and_both false w h k = absurd (cc h)

module _ (few many : List ℕ) (among : AreAmong few many) where
  pub form_over : (f : Form) → is_over few f ≡ true → is_over many f ≡ true
  form_over f h = go f.terms h
    where
      go : (ts : List Multiple) → list_all (λ (t : Multiple). is_one t.symbol few) ts ≡ true → list_all (λ (t : Multiple). is_one t.symbol many) ts ≡ true
      go [] k = refl
      go (t ∷ ts) k =
          let p = and_parts (is_one t.symbol few) (list_all (λ (u : Multiple). is_one u.symbol few) ts) k in
          and_both (is_one t.symbol many) (list_all (λ (u : Multiple). is_one u.symbol many) ts) (among t.symbol p.0) (go ts p.1)

  pub forms_over : (fs : List Form) → FormsAreOver few fs → FormsAreOver many fs
  forms_over fs h = rec_weaker (λ f. is_over few f ≡ true) (λ f. is_over many f ≡ true) form_over fs h

  pub span_over : (x : Span1) → IsOver few x → IsOver many x
  span_over x h = record { lower = forms_over x.lower h.lower; upper = forms_over x.upper h.upper }

one_more : (j i : ℕ) (symbols : List ℕ) → is_one j symbols ≡ true → is_one j (symbols ++ i ∷ []) ≡ true
one_more j i [] h = absurd (cc h)
one_more j i (x ∷ xs) h = of (x == j) h (one_more j i xs)
  where
    of : (v : Bool) → (v || is_one j xs) ≡ true → (is_one j xs ≡ true → is_one j (xs ++ i ∷ []) ≡ true) → (v || is_one j (xs ++ i ∷ [])) ≡ true
    of true h rest = refl
    of false h rest = rest h

-- a symbol more at the end
pub among_more : (i : ℕ) (symbols : List ℕ) → AreAmong symbols (symbols ++ i ∷ [])
among_more i symbols j h = one_more j i symbols h

-- ---- symbols that stand nowhere

pub or_none : (v w : Bool) → v ≡ false → w ≡ false → (v || w) ≡ false
or_none true w h k = absurd (cc h)
or_none false w h k = k

module _ (i : ℕ) (symbols : List ℕ) (new : is_one i symbols ≡ false) where
  apart : (j : ℕ) (v : Bool) → (j == i) ≡ v → is_one j symbols ≡ true → v ≡ false
  apart j false e m = refl
  apart j true e m = let same : j ≡ i = eq_true j i e in absurd (let k = subst (λ x. is_one x symbols ≡ true) same m in cc (k, new))

  pub form_free : (f : Form) → is_over symbols f ≡ true → form_has i f ≡ false
  form_free f h = go f.terms h
    where
      go : (ts : List Multiple) → list_all (λ (t : Multiple). is_one t.symbol symbols) ts ≡ true → list_any (λ (t : Multiple). t.symbol == i) ts ≡ false
      go [] k = refl
      go (t ∷ ts) k =
          let p = and_parts (is_one t.symbol symbols) (list_all (λ (u : Multiple). is_one u.symbol symbols) ts) k in
          or_none (t.symbol == i) (list_any (λ (u : Multiple). u.symbol == i) ts) (apart t.symbol (t.symbol == i) refl p.0) (go ts p.1)

  pub forms_free : (fs : List Form) → FormsAreOver symbols fs → list_any (form_has i) fs ≡ false
  forms_free [] h = refl
  forms_free (f ∷ fs) h = or_none (form_has i f) (list_any (form_has i) fs) (form_free f h.0) (forms_free fs h.1)

  pub span_free : (x : Span1) → IsOver symbols x → span_has i x ≡ false
  span_free x h = or_none (list_any (form_has i) x.lower) (list_any (form_has i) x.upper) (forms_free x.lower h.lower) (forms_free x.upper h.upper)

  pub symbol_free : (j : ℕ) → is_one j symbols ≡ true → (j == i) ≡ false
  symbol_free j m = apart j (j == i) refl m
