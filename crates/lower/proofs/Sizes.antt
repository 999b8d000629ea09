-- The first function of which a rule is told, as far as it goes by the sizes of definitions.
-- What crates below need of it stands there: `regions`.
use Rattle.std.proofs.Common.{◌≡◌, ℕ, zero, suc, ◌+◌, false, List, [], ◌∷◌, length, take, Option, Some, None, Result, inl, inr, refl, subst, add-one}
use Rattle.std.specs.Prelude.{IfOk}
use Rattle.std.proofs.Math.Seq.{take-length}
use Rattle.std.proofs.lemmas.Result.{IfOk-weaker}
use Rattle.sched.specs.declared.region_rule.RegionRule.{RegionRule}
use Rattle.sched.specs.declared.region_rule.RegionRule.TheVariants as rule
use Rattle.sched.specs.Stored.{StoredText}
use Rattle.regions.specs.Stored.{is_large}
use Rattle.lower.specs.Stored.{has_large}
use Rattle.lower.specs.Large.{Breaks, IsTold, IsFault, Finds}
use Rattle.blocks.specs.Large.{IsByRegion}

abbrev pub Told : Type 0
Told = RegionRule × List ℕ

-- a function whose definitions are within the limits breaks none but a rule that asks for a region
pub fault_small : (g : StoredText) (o : Option RegionRule) → is_large g ≡ false → IsByRegion o → IsFault g o
fault_small g None h b = h
fault_small g (Some rule.OutsideUse) h b = absurd b
fault_small g (Some rule.TooLarge) h b = absurd b
fault_small g (Some rule.ShortShift) h b = h
fault_small g (Some rule.SmallFold) h b = h
fault_small g (Some rule.TooMuch) h b = h
fault_small g (Some rule.Unbounded) h b = h

pub fault_of_small : {E : Type 0} (g : StoredText) (r : Result (Option RegionRule) E) → is_large g ≡ false → IfOk r IsByRegion → IfOk r (IsFault g)
fault_of_small g r h is = IfOk-weaker r IsByRegion (IsFault g) (λ o b. fault_small g o h b) is

-- ---- one after another

none_before : (g : StoredText) (gs : List StoredText) → is_large g ≡ false → has_large gs ≡ false → has_large (g ∷ gs) ≡ false
none_before g gs h f = rw (h) f

-- what is told of the others
finds_later : (g : StoredText) (gs : List StoredText) (n : ℕ) (o : Option Told) → is_large g ≡ false → Finds gs n o → Finds (g ∷ gs) (suc n) o
finds_later g gs n None h f = none_before g (take n gs) h f
finds_later g gs n (Some e) h f = inr (h, f)

pub found_later : {E : Type 0} (g : StoredText) (gs : List StoredText) (n k : ℕ) (r : Result (Option Told) E) → k ≡ n + 1 → is_large g ≡ false → IfOk r (Finds gs n) → IfOk r (Finds (g ∷ gs) k)
found_later g gs n k r e h is = rw (e, add-one) (IfOk-weaker r (Finds gs n) (Finds (g ∷ gs) (suc n)) (λ o f. finds_later g gs n o h f) is)

-- it is told of this one
pub told_here : (g : StoredText) (gs : List StoredText) (r : RegionRule) → Breaks g r → IsTold (g ∷ gs) r g.subject.name
told_here g gs r b = inl (b, refl)

pub none_asked : (gs : List StoredText) (n : ℕ) → n ≡ 0 → has_large (take n gs) ≡ false
none_asked gs n e = rw (e) refl

pub none_there : (n : ℕ) → has_large (take n []) ≡ false
none_there zero = refl
none_there (suc n) = refl

-- all of them
pub none_is_large : (gs : List StoredText) (n : ℕ) → n ≡ length gs → has_large (take n gs) ≡ false → has_large gs ≡ false
none_is_large gs n e h = subst (λ (xs : List StoredText). has_large xs ≡ false) (take-length gs) (subst (λ (k : ℕ). has_large (take k gs) ≡ false) e h)
