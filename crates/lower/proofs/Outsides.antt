-- What is told of the uses of functions outside of their loops.
-- What crates below need of it stands there: `regions`.
use Rattle.std.proofs.Common.{◌≡◌, inl, inr, ℕ, zero, suc, ◌+◌, ◌<◌, false, ◌||◌, List, [], ◌∷◌, length, map, take, drop, Option, Some, None, Result, refl, sym, ap, subst, ◌∙◌, arith}
use Rattle.std.proofs.Common.{add-one}
use Rattle.std.specs.Prelude.{IfOk, get_or}
use Rattle.std.specs.List.{list_any}
use Rattle.std.proofs.Math.Seq.{take-length}
use Rattle.std.proofs.lemmas.Bool.Decides.{not_from_Decides}
use Rattle.std.proofs.lemmas.Result.{IfOk-weaker}
use Rattle.sched.proofs.Deciding.{any_decides}
use Rattle.sched.specs.declared.region_rule.RegionRule.{RegionRule}
use Rattle.sched.specs.declared.region_rule.RegionRule.TheVariants as rule
use Rattle.sched.specs.declared.definitions.Stored.{Stored}
use Rattle.sched.specs.Stored.{StoredText, stored_of}
use Rattle.blocks.specs.Large.{IsByRegion}
use Rattle.regions.specs.Uses.{is_used_outside, IsUsedOutside}
use Rattle.lower.specs.Uses.{AreUsedInside, TellsOf, IsUseTold, is_use, TellsUse, FindsUse}
use Rattle.regions.proofs.Insides.{used_decides}

abbrev pub Told : Type 0
Told = RegionRule × List ℕ

no_use_by : (o : Option RegionRule) → IsByRegion o → is_use o ≡ false
no_use_by None h = refl
no_use_by (Some rule.OutsideUse) h = absurd h
no_use_by (Some rule.TooLarge) h = refl
no_use_by (Some rule.ShortShift) h = refl
no_use_by (Some rule.SmallFold) h = refl
no_use_by (Some rule.TooMuch) h = refl
no_use_by (Some rule.Unbounded) h = refl

-- a rule that asks for a region is not L6
pub by_region : {E : Type 0} (r : Result (Option RegionRule) E) → IfOk r IsByRegion → IfOk r (λ o. is_use o ≡ false)
by_region r h = IfOk-weaker r IsByRegion (λ o. is_use o ≡ false) no_use_by h

pub no_use_told : {E : Type 0} (all : List StoredText) (g : StoredText) (r : Result (Option RegionRule) E)
    → is_used_outside all g ≡ false → IfOk r (λ o. is_use o ≡ false) → IfOk r (λ o. is_use o ≡ is_used_outside all g)
no_use_told all g r e h = IfOk-weaker r (λ o. is_use o ≡ false) (λ o. is_use o ≡ is_used_outside all g) (λ o f. f ∙ sym e) h

-- ---- one after another

pub none_asked : (all gs : List StoredText) (n : ℕ) → n ≡ 0 → list_any (is_used_outside all) (take n gs) ≡ false
none_asked all gs n e = rw (e) refl

pub none_there : (all : List StoredText) (n : ℕ) → list_any (is_used_outside all) (take n []) ≡ false
none_there all zero = refl
none_there all (suc n) = refl

none_before : (all : List StoredText) (g : StoredText) (gs : List StoredText)
    → is_used_outside all g ≡ false → list_any (is_used_outside all) gs ≡ false → list_any (is_used_outside all) (g ∷ gs) ≡ false
none_before all g gs h f = ap (λ b. b || list_any (is_used_outside all) gs) h ∙ f

finds_later : (all : List StoredText) (g : StoredText) (gs : List StoredText) (n : ℕ) (o : Option Told) → is_used_outside all g ≡ false → FindsUse all gs n o → FindsUse all (g ∷ gs) (suc n) o
finds_later all g gs n None h f = none_before all g (take n gs) h f
finds_later all g gs n (Some e) h f = inr (h, f)

found_later : {E : Type 0} (all : List StoredText) (g : StoredText) (gs : List StoredText) (n k : ℕ) (r : Result (Option Told) E)
    → k ≡ n + 1 → is_used_outside all g ≡ false → IfOk r (FindsUse all gs n) → IfOk r (FindsUse all (g ∷ gs) k)
found_later all g gs n k r e h is = rw (e, add-one) (IfOk-weaker r (FindsUse all gs n) (FindsUse all (g ∷ gs) (suc n)) (λ o f. finds_later all g gs n o h f) is)

next_of : (x y : Stored) (xs : List Stored) → x ≡ get_or (y ∷ xs) 0 x → x ≡ y
next_of x y xs is = is

-- it is told of this one
pub here_in : (all : List StoredText) (ss : List Stored) (s : Stored) (r : RegionRule) → 0 < length ss → s ≡ get_or ss 0 s → is_use (Some r) ≡ is_used_outside all (stored_of s)
    → TellsUse all (map stored_of ss) r (stored_of s).subject.name
here_in all [] s r lt is h = absurd (omega (arith, lt))
here_in all (x ∷ ss) s r lt is h =
    inl (subst (λ (z : Stored). is_use (Some r) ≡ is_used_outside all (stored_of z)) (next_of s x ss is) h, ap (λ (z : Stored). (stored_of z).subject.name) (sym (next_of s x ss is)))

-- it is told of the others
pub later_in : {E : Type 0} (all : List StoredText) (ss rest : List Stored) (s : Stored) (n k : ℕ) (r : Result (Option Told) E) → k ≡ n + 1 → 0 < length ss → s ≡ get_or ss 0 s
    → is_used_outside all (stored_of s) ≡ false → rest ≡ drop 1 ss → IfOk r (FindsUse all (map stored_of rest) n) → IfOk r (FindsUse all (map stored_of ss) k)
later_in all [] rest s n k r e lt is h others f = absurd (omega (arith, lt))
later_in all (x ∷ ss) rest s n k r e lt is h others f =
    let here : is_used_outside all (stored_of x) ≡ false = subst (λ (z : Stored). is_used_outside all (stored_of z) ≡ false) (next_of s x ss is) h in
    found_later all (stored_of x) (map stored_of ss) n k r e here (subst (λ (ys : List Stored). IfOk r (FindsUse all (map stored_of ys) n)) others f)

-- ---- all of them

unused_is : (all : List StoredText) (g : StoredText) → is_used_outside all g ≡ false → ¬ IsUsedOutside all g
unused_is all g e = not_from_Decides (is_used_outside all g) (used_decides all g) e

tells_of : (all : List StoredText) (g : StoredText) (r : RegionRule) → is_use (Some r) ≡ is_used_outside all g → TellsOf all g r
tells_of all g rule.OutsideUse e = (used_decides all g).0 (sym e)
tells_of all g rule.TooLarge e = unused_is all g (sym e)
tells_of all g rule.ShortShift e = unused_is all g (sym e)
tells_of all g rule.SmallFold e = unused_is all g (sym e)
tells_of all g rule.TooMuch e = unused_is all g (sym e)
tells_of all g rule.Unbounded e = unused_is all g (sym e)

-- a rule is told behind functions none of which is
pub tells_is : (all gs : List StoredText) (r : RegionRule) (x : List ℕ) → TellsUse all gs r x → IsUseTold all gs r x
tells_is all [] r x h = absurd h
tells_is all (g ∷ gs) r x (inl h) = inl (tells_of all g r h.0, h.1)
tells_is all (g ∷ gs) r x (inr h) = inr (unused_is all g h.0, tells_is all gs r x h.1)

-- none is told of, and none is
pub none_is : (gs : List StoredText) (n : ℕ) → n ≡ length gs → list_any (is_used_outside gs) (take n gs) ≡ false → AreUsedInside gs
none_is gs n e h =
    let all : take n gs ≡ gs = ap (λ k. take k gs) e ∙ take-length gs in
    not_from_Decides (list_any (is_used_outside gs) gs) (any_decides (is_used_outside gs) (IsUsedOutside gs) (used_decides gs) gs)
    (subst (λ (xs : List StoredText). list_any (is_used_outside gs) xs ≡ false) all h)
