-- The first function that breaks a rule by its region, where each is a whole function.
-- What crates below need of it stands there: `blocks`.
use Rattle.std.proofs.Common.{◌≡◌, ℕ, zero, suc, ◌-◌, ◌<◌, true, List, [], ◌∷◌, length, take, drop, arith, Option, Some, None, sym, ap, ◌∙◌, inl}
use Rattle.std.specs.Prelude.{get_or}
use Rattle.std.proofs.Math.Seq.{take-length}
use Rattle.meaning.specs.Algorithm.{Algorithm}
use Rattle.algo.specs.Scoping.Standing.{Written}
use Rattle.sched.specs.declared.region_rule.RegionRule.{RegionRule}
use Rattle.blocks.specs.declared.legality.Totals.{Totals}
use Rattle.sched.specs.declared.definitions.Stored.{Stored}
use Rattle.sched.specs.Stored.{StoredText}
use Rattle.sched.specs.Regions.{LaidText}
use Rattle.regions.specs.Regions.{laid_functions}
use Rattle.regions.specs.Faults.{are_whole}
use Rattle.lower.specs.Faults.{or_later, fault_of, fault_from, no_totals, calls_of_large, IsFirstOf, region_fault}
use Rattle.blocks.specs.Faults.{totals_with, first_laid, other_laid}
use Rattle.lower.specs.Refused.{IsFirst}

abbrev pub Fault : Type 0
Fault = RegionRule × List ℕ

-- ---- one after another, as memory keeps the functions

pub next_of : (x y : Stored) (xs : List Stored) → x ≡ get_or (y ∷ xs) 0 x → x ≡ y
next_of x y xs is = is

one_less : (n : ℕ) → suc n - 1 ≡ n
one_less n = omega arith

-- the others
pub rest_is : (ss : List Stored) → 0 < length ss → take (length ss - 1) (drop 1 ss) ≡ drop 1 ss
rest_is [] lt = absurd (omega (arith, lt))
rest_is (x ∷ ss) lt = ap (λ n. take n ss) (one_less (length ss)) ∙ take-length ss

-- ---- all of them

or_before : (g : StoredText) (o : Option RegionRule) (p q : Option Fault) (e : Fault) → (Some e ≡ p → Some e ≡ q) → Some e ≡ or_later g o p → Some e ≡ or_later g o q
or_before g (Some r) p q e f h = h
or_before g None p q e f h = f h

-- what is told of the first ones is told of all
before_is : (a : Algorithm) (left : List Written) (t : Totals) (n : ℕ) (gs : List StoredText) (ls : List (Option LaidText)) (e : Fault)
    → Some e ≡ fault_from a left t (take n gs) ls → Some e ≡ fault_from a left t gs ls
before_is a left t zero gs ls e h = cc
before_is a left t (suc n) [] ls e h = h
before_is a left t (suc n) (g ∷ gs) ls e h =
    or_before g (fault_of a left t g (first_laid ls)) (fault_from a left (totals_with t g (first_laid ls)) (take n gs) (other_laid ls))
    (fault_from a left (totals_with t g (first_laid ls)) gs (other_laid ls)) e
    (before_is a left (totals_with t g (first_laid ls)) n gs (other_laid ls) e) h

-- the first of some of them is the first of all
pub first_of : (a : Algorithm) (gs : List StoredText) (ls : List (Option LaidText)) (n : ℕ) (r : RegionRule) (x : List ℕ)
    → IsFirstOf a (calls_of_large a gs) no_totals n gs ls (Some (r, x)) → (are_whole gs ≡ true → ls ≡ laid_functions a gs) → IsFirst a gs r x
first_of a gs ls n r x f laid w =
    let told : Some (r, x) ≡ fault_from a (calls_of_large a gs) no_totals (take n gs) (laid_functions a gs) =
    f w ∙ ap (λ (ms : List (Option LaidText)). fault_from a (calls_of_large a gs) no_totals (take n gs) ms) (laid w) in
    inl (sym (before_is a (calls_of_large a gs) no_totals n gs (laid_functions a gs) (r, x) told))

-- none breaks one
pub none_of : (a : Algorithm) (gs : List StoredText) (ls : List (Option LaidText)) (n : ℕ)
    → IsFirstOf a (calls_of_large a gs) no_totals n gs ls None → (are_whole gs ≡ true → ls ≡ laid_functions a gs) → n ≡ length gs → are_whole gs ≡ true
    → region_fault a gs ≡ None
none_of a gs ls n f laid e w =
    let all : take n gs ≡ gs = ap (λ k. take k gs) e ∙ take-length gs in
    sym (f w ∙ (λ i. fault_from a (calls_of_large a gs) no_totals (all i) (laid w i)))
