-- Of the certificate's lines no more than limits is told.
use Rattle.std.proofs.Common.{◌≡◌, ℕ, suc, ◌+◌, Bool, true, false, List, [], ◌∷◌, ◌++◌, Some, refl, sym, ap, ◌∙◌, subst, inl, inr, ◌⊎◌, arith}
use Rattle.std.specs.Prelude.{◌&&◌, nat_lt, not, take, slice_get}
use Rattle.std.specs.List.{AllByRecursion}
use Rattle.plan.specs.declared.certificate.cert.Own.{Own}
use Rattle.plan.specs.declared.certificate.cert.Window.{Window}
use Rattle.meaning.specs.Algorithm.{Algorithm}
use Rattle.plan.specs.Plan.{Plan}
use Rattle.plan.specs.Certificate.Certificate.{Certificate}
use Rattle.soundness.specs.Outline.Flaws.{Flaw}
use Rattle.soundness.specs.Outline.Forms.{spans_are_within_limits, have_ends}
use Rattle.bounds.proofs.ListSound.{all-append}
use Rattle.validation.specs.Certificate.Certificate.{is_region_of, own_is_known, need_is_known, claim_is_known, cert_flaws}
use Rattle.validation.specs.Certificate.Certificate.{own_flaws, need_flaws, claim_flaws, window_flaws, flaws_of_regions, flaws_of_claims}
use Rattle.validation.specs.Certificate.Lines.{line_flaws, each_line}
use Rattle.completeness.specs.Laws.{LinesAreKnown, OnlyLimitsAreToldOfLines}

abbrev IsLimit : Flaw → Type 0
IsLimit f = (f.code ≡ 3) ⊎ (f.code ≡ 14)

abbrev AreLimits : List Flaw → Type 0
AreLimits fs = AllByRecursion IsLimit fs

-- where what the line names is known
line_limits : (known small listed : Bool) (line : ℕ) → known ≡ true → AreLimits (line_flaws known small listed line)
line_limits true true true line e = tt
line_limits true true false line e = (inr refl, tt)
line_limits true false true line e = (inl refl, tt)
line_limits true false false line e = (inl refl, (inr refl, tt))
line_limits false small listed line e = absurd (cc e)

each_limits : {A : Type 0} (f : ℕ → A → List Flaw) (n : ℕ) (xs : List A) → ((i : ℕ) (x : A) → slice_get xs i ≡ Some x → AreLimits (f (n + i) x)) → AreLimits (each_line f n xs)
each_limits f n [] h = tt
each_limits f n (x ∷ xs) h =
    all-append IsLimit (f n x) (each_line f (n + 1) xs) (let none : n + 0 ≡ n = omega arith in subst (λ (i : ℕ). AreLimits (f i x)) none (h 0 x refl))
    (each_limits f (n + 1) xs (λ i y at. let next : n + suc i ≡ (n + 1) + i = omega arith in subst (λ (j : ℕ). AreLimits (f j y)) next (h (suc i) y at)))

module _ (a : Algorithm) (p : Plan) (c : Certificate) (k : LinesAreKnown a p c) where
  own_known : (i : ℕ) (o : Own) → slice_get c.own i ≡ Some o → own_is_known p.groups (take i c.own) o ≡ true
  own_known i o at = ap (λ (b : Bool). not b && is_region_of (slice_get p.groups o.group) o.region) (k.own_lines.once i o at) ∙ k.own i o at

  regions : AreLimits (flaws_of_regions p c)
  regions =
      all-append IsLimit (cert_flaws p c) (each_line (own_flaws p c) 0 c.own ++ each_line (need_flaws p c) 0 c.needs) (subst AreLimits (sym k.own_lines.each) tt)
      (all-append IsLimit (each_line (own_flaws p c) 0 c.own) (each_line (need_flaws p c) 0 c.needs)
      (each_limits (own_flaws p c) 0 c.own (λ i o at. own_limits (0 + i) i o (omega arith) at))
      (each_limits (need_flaws p c) 0 c.needs (λ i n at. line_limits (need_is_known p.groups n) (spans_are_within_limits n.region) (have_ends n.region) _ (k.needs i n at))))
    where
      own_limits : (j i : ℕ) (o : Own) → i ≡ j → slice_get c.own i ≡ Some o → AreLimits (own_flaws p c j o)
      own_limits j i o e at =
          subst (λ (m : ℕ). AreLimits (own_flaws p c m o)) e (line_limits (own_is_known p.groups (take i c.own) o) (spans_are_within_limits o.region) (have_ends o.region) _ (own_known i o at))

  claims : AreLimits (flaws_of_claims a p c)
  claims =
      all-append IsLimit (each_line (claim_flaws a p c) 0 c.claims) (each_line (window_flaws p c) 0 c.windows)
      (each_limits (claim_flaws a p c) 0 c.claims (λ i m at. line_limits (claim_is_known a.functions p.groups m) (spans_are_within_limits m.region) (have_ends m.region && nat_lt (0 + i) 4096) _
      (k.claims i m at)))
      (subst (λ (ws : List Window). AreLimits (each_line (window_flaws p c) 0 ws)) (sym k.windows) tt)

pub limits : OnlyLimitsAreToldOfLines
limits a p c stands = all-append IsLimit (flaws_of_regions p c) (flaws_of_claims a p c) (regions a p c stands.lines) (claims a p c stands.lines)
