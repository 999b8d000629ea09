-- Terms of a form in memory rise.
use Rattle.std.proofs.Common.{◌≡◌, ℕ, suc, ◌-◌, ◌<◌, ◌≤◌, Bool, true, false, ltb, ◌&&◌, List, [], ◌∷◌, length, get_or, refl, ap, ◌∙◌, arith}
use Rattle.std.specs.Prelude.{nat_lt}
use Rattle.std.specs.List.{AllByRecursion, list_all}
use Rattle.std.proofs.lemmas.Bool.{ltb-true, lt-ltb}
use Rattle.lin.specs.Forms.{IsCanonical}
use Rattle.lin.specs.declared.form.Multiple.{Multiple}
use Rattle.spelling.specs.Words.Fitting.{rise}
use Rattle.spelling.proofs.Runs.{both}

above : (s : ℕ) (ts : List Multiple) → AllByRecursion (λ u. s < u.symbol) ts → list_all (λ u. nat_lt s u.symbol) ts ≡ true
above s [] h = refl
above s (t ∷ ts) h = let first : ltb s t.symbol ≡ true = lt-ltb s t.symbol h.0 in rw (first, above s ts h.1) refl

pub canonical_rise : (ts : List Multiple) → IsCanonical ts → rise ts ≡ true
canonical_rise [] h = refl
canonical_rise (t ∷ ts) h = rw (above t.symbol ts h.1, canonical_rise ts h.2) refl

implied : (a b : Bool) → (b ≡ true → a ≡ true) → b ≡ (a && b)
implied a true h = rw (h refl) refl
implied true false h = refl
implied false false h = refl

alone : (a : Bool) → a ≡ (a && true)
alone true = refl
alone false = refl

-- all symbols are below one where the last is
pub below_last : (ts : List Multiple) (s : ℕ) (none : Multiple) → IsCanonical ts → 1 ≤ length ts → nat_lt (get_or ts (length ts - 1) none).symbol s ≡ list_all (λ u. nat_lt u.symbol s) ts
below_last [] s none h some = absurd (omega arith)
below_last (t ∷ []) s none h some =
    let place : length (t ∷ []) - 1 ≡ 0 = omega arith in
    ap (λ (k : ℕ). nat_lt (get_or (t ∷ []) k none).symbol s) place ∙ alone (nat_lt t.symbol s)
below_last (t ∷ u ∷ us) s none h some =
    let place : length (t ∷ u ∷ us) - 1 ≡ suc (length (u ∷ us) - 1) = omega arith in
    let rest = list_all (λ v. nat_lt v.symbol s) (u ∷ us) in
    ap (λ (k : ℕ). nat_lt (get_or (t ∷ u ∷ us) k none).symbol s) place ∙ below_last (u ∷ us) s none h.2 (omega arith) ∙ implied (nat_lt t.symbol s) rest
    (λ e. let below : u.symbol < s = ltb-true u.symbol s (both (nat_lt u.symbol s) (list_all (λ v. nat_lt v.symbol s) us) e).0 in lt-ltb t.symbol s (omega (arith, h.1.0)))
