-- The first function that breaks a rule, as it is found one function after another.
-- What crates below need of it stands there: `blocks`.
use Rattle.std.proofs.Common.{◌≡◌, ℕ, zero, suc, ◌+◌, ◌<◌, Bool, true, false, List, [], ◌∷◌, length, map, take, drop, arith, Option, Some, None, Result, refl, sym, ap, subst, ◌∙◌}
use Rattle.std.proofs.Common.{add-one}
use Rattle.std.specs.Prelude.{if◌then◌else◌, IfOk, get_or}
use Rattle.std.specs.Global.{Vec}
use Rattle.std.proofs.lemmas.Result.{IfOk-weaker}
use Rattle.std.proofs.Math.Seq.{take-length}
use Rattle.meaning.specs.Algorithm.{Algorithm}
use Rattle.algo.specs.Scoping.Standing.{Written}
use Rattle.sched.specs.declared.error.Rule.{Rule}
use Rattle.sched.specs.declared.region_rule.RegionRule.{RegionRule}
use Rattle.sched.specs.declared.region_rule.RegionRule.TheVariants.{OutsideUse, TooLarge}
use Rattle.sched.specs.declared.definitions.Formula.{Formula}
use Rattle.sched.specs.declared.definitions.Stored.{Stored}
use Rattle.blocks.specs.declared.legality.Totals.{Totals}
use Rattle.lower.specs.Broken.{Inside, fault_inside, calls_left, fault_over, fault_by, fault_of, rule_of, first_from, first_over}
use Rattle.regions.specs.Broken.{leaves_some}
use Rattle.blocks.specs.Broken.{totals_of}
use Rattle.regions.specs.Faults.{is_homeless, is_whole, are_whole}
use Rattle.lower.specs.Faults.{no_totals, or_later, fault_from, calls_of_large, IsFirstOf}
use Rattle.blocks.specs.Faults.{with_laid, fault_within, totals_with, first_laid, other_laid}
use Rattle.lower.specs.Faults as faults
use Rattle.regions.specs.Lacking.{lacking}
use Rattle.sched.specs.Regions.{LaidText}
use Rattle.sched.specs.Stored.{FormulaText, StoredText, formula_of, stored_of}
use Rattle.regions.specs.Stored.{is_large}
use Rattle.regions.specs.Uses.{is_used_outside}
use Rattle.lower.proofs.First.{Fault, next_of}
use Rattle.blocks.proofs.First.{formulas_at, no_formulas}
use Rattle.lower.proofs.Made.{both, whole_root, whole_rest}
use Rattle.regions.proofs.Outsides.{homeless_unused}

module _ (a : Algorithm) (all : List StoredText) (inside : List Inside) (left : List Written) where
  -- ---- one function

  pub fault_found : {E : Type 0} (t : Totals) (s : Stored) (v : Vec Formula) (l : Option LaidText) (r : Result (Option RegionRule) E) → s.formulas ≡ Some v
      → IfOk r (λ rule. rule ≡ fault_over a inside left t (stored_of s) (map formula_of v.items) l) → IfOk r (λ rule. rule ≡ fault_of a inside left t (stored_of s) l)
  fault_found t s v l r e h =
      subst (λ (o : Option (List FormulaText)). IfOk r (λ rule. rule ≡ fault_by a inside left t (stored_of s) o l)) (sym (formulas_at s v e)) h

  pub fault_large : (t : Totals) (s : Stored) (l : Option LaidText) → s.formulas ≡ None → Some TooLarge ≡ fault_of a inside left t (stored_of s) l
  fault_large t s l e = ap (λ o. fault_by a inside left t (stored_of s) o l) (sym (no_formulas s e))

  by_use : (t : Totals) (g : StoredText) (l : Option LaidText) (b : Bool) → is_used_outside all g ≡ b
      → (if b then Some OutsideUse else fault_of a inside left t g l) ≡ rule_of a all inside left t g l
  by_use t g l b e = ap (λ k. if k then Some OutsideUse else fault_of a inside left t g l) (sym e)

  pub used_outside : (t : Totals) (g : StoredText) (l : Option LaidText) → is_used_outside all g ≡ true → Some OutsideUse ≡ rule_of a all inside left t g l
  used_outside t g l e = by_use t g l true e

  pub not_used : {E : Type 0} (t : Totals) (g : StoredText) (l : Option LaidText) (r : Result (Option RegionRule) E) → is_used_outside all g ≡ false
      → IfOk r (λ rule. rule ≡ fault_of a inside left t g l) → IfOk r (λ rule. rule ≡ rule_of a all inside left t g l)
  not_used t g l r e h =
      IfOk-weaker r (λ rule. rule ≡ fault_of a inside left t g l) (λ rule. rule ≡ rule_of a all inside left t g l) (λ rule is. is ∙ by_use t g l false e) h

  -- ---- one after another

  first_is : (t : Totals) (g : StoredText) (gs : List StoredText) (ls : List (Option LaidText)) (o : Option RegionRule) (n : ℕ) → o ≡ rule_of a all inside left t g (first_laid ls)
      → or_later g o (first_from a all inside left (totals_of t g (first_laid ls)) (take n gs) (other_laid ls)) ≡ first_from a all inside left t (take (suc n) (g ∷ gs)) ls
  first_is t g gs ls o n e = ap (λ q. or_later g q (first_from a all inside left (totals_of t g (first_laid ls)) (take n gs) (other_laid ls))) e

  first_here : (t : Totals) (g : StoredText) (gs : List StoredText) (ls : List (Option LaidText)) (r : RegionRule) (n k : ℕ) → k ≡ n + 1
      → Some r ≡ rule_of a all inside left t g (first_laid ls) → Some (r, g.subject.name) ≡ first_from a all inside left t (take k (g ∷ gs)) ls
  first_here t g gs ls r n k e h = rw (e, add-one) (first_is t g gs ls (Some r) n h)

  pub here_in : (t : Totals) (ss : List Stored) (s : Stored) (ls : List (Option LaidText)) (r : RegionRule) (n k : ℕ) → k ≡ n + 1 → 0 < length ss → s ≡ get_or ss 0 s
      → Some r ≡ rule_of a all inside left t (stored_of s) (first_laid ls) → Some (r, (stored_of s).subject.name) ≡ first_from a all inside left t (take k (map stored_of ss)) ls
  here_in t [] s ls r n k e lt is h = absurd (omega (arith, lt))
  here_in t (x ∷ ss) s ls r n k e lt is h =
      let P : Stored → Type 0 = λ z. Some r ≡ rule_of a all inside left t (stored_of z) (first_laid ls)
      → Some (r, (stored_of z).subject.name) ≡ first_from a all inside left t (take k (stored_of x ∷ map stored_of ss)) ls in
      subst P (sym (next_of s x ss is)) (λ f. first_here t (stored_of x) (map stored_of ss) ls r n k e f) h

  behind_is : (t u : Totals) (g : StoredText) (gs : List StoredText) (ls ms : List (Option LaidText)) (n k : ℕ) → k ≡ n + 1 → None ≡ rule_of a all inside left t g (first_laid ls)
      → u ≡ totals_of t g (first_laid ls) → ms ≡ other_laid ls → first_from a all inside left u (take n gs) ms ≡ first_from a all inside left t (take k (g ∷ gs)) ls
  behind_is t u g gs ls ms n k e none with_u with_ms =
      (λ i. first_from a all inside left (with_u i) (take n gs) (with_ms i)) ∙ rw (e, add-one) (first_is t g gs ls None n none)

  pub later_in : {E : Type 0} (t u : Totals) (ss rest : List Stored) (s : Stored) (ls ms : List (Option LaidText)) (n k : ℕ) (r : Result (Option Fault) E) → k ≡ n + 1
      → 0 < length ss → s ≡ get_or ss 0 s → None ≡ rule_of a all inside left t (stored_of s) (first_laid ls) → u ≡ totals_of t (stored_of s) (first_laid ls) → ms ≡ other_laid ls
      → rest ≡ drop 1 ss → IfOk r (λ o. o ≡ first_from a all inside left u (take n (map stored_of rest)) ms)
      → IfOk r (λ o. o ≡ first_from a all inside left t (take k (map stored_of ss)) ls)
  later_in t u [] rest s ls ms n k r e lt is h with_u with_ms others f = absurd (omega (arith, lt))
  later_in t u (x ∷ ss) rest s ls ms n k r e lt is h with_u with_ms others f =
      let there : None ≡ rule_of a all inside left t (stored_of x) (first_laid ls) =
      subst (λ (z : Stored). None ≡ rule_of a all inside left t (stored_of z) (first_laid ls)) (next_of s x ss is) h in
      let counted : u ≡ totals_of t (stored_of x) (first_laid ls) = subst (λ (z : Stored). u ≡ totals_of t (stored_of z) (first_laid ls)) (next_of s x ss is) with_u in
      let behind = behind_is t u (stored_of x) (map stored_of ss) ls ms n k e there counted with_ms in
      let found : IfOk r (λ o. o ≡ first_from a all inside left u (take n (map stored_of ss)) ms) =
      subst (λ (ys : List Stored). IfOk r (λ o. o ≡ first_from a all inside left u (take n (map stored_of ys)) ms)) others f in
      subst (λ (q : Option Fault). IfOk r (λ o. o ≡ q)) behind found

  pub none_asked : (t : Totals) (gs : List StoredText) (ls : List (Option LaidText)) (n : ℕ) → n ≡ 0 → None ≡ first_from a all inside left t (take n gs) ls
  none_asked t gs ls n e = rw (e) refl

  pub none_there : (t : Totals) (ls : List (Option LaidText)) (n : ℕ) → None ≡ first_from a all inside left t (take n []) ls
  none_there t ls zero = refl
  none_there t ls (suc n) = refl

  -- ---- all of them

  or_before : (g : StoredText) (o : Option RegionRule) (p q : Option Fault) (e : Fault) → (Some e ≡ p → Some e ≡ q) → Some e ≡ or_later g o p → Some e ≡ or_later g o q
  or_before g (Some r) p q e f h = h
  or_before g None p q e f h = f h

  -- what is told of the first ones is told of all
  pub before_is : (t : Totals) (n : ℕ) (gs : List StoredText) (ls : List (Option LaidText)) (e : Fault) → Some e ≡ first_from a all inside left t (take n gs) ls
      → Some e ≡ first_from a all inside left t gs ls
  before_is t zero gs ls e h = cc
  before_is t (suc n) [] ls e h = h
  before_is t (suc n) (g ∷ gs) ls e h =
      or_before g (rule_of a all inside left t g (first_laid ls)) (first_from a all inside left (totals_of t g (first_laid ls)) (take n gs) (other_laid ls))
      (first_from a all inside left (totals_of t g (first_laid ls)) gs (other_laid ls)) e
      (before_is (totals_of t g (first_laid ls)) n gs (other_laid ls) e) h

  -- ---- of whole functions

  homeless : (g : StoredText) (gs : List StoredText) → are_whole (g ∷ gs) ≡ true → is_homeless g.placed.homes ≡ true
  homeless g gs w = (both g.subject.is_root (is_homeless g.placed.homes) (both (is_whole g) (are_whole gs) w).0).1

  whole_by : (t : Totals) (g : StoredText) (o : Option (List FormulaText)) (l : Option LaidText) → g.subject.is_root ≡ true → fault_by a inside left t g o l ≡ faults.fault_by a left t g o l
  whole_by t g None l e = refl
  whole_by t g (Some fs) None e = refl
  whole_by t g (Some fs) (Some l) e = ap (λ b. if b then fault_within a g fs (with_laid t l) l else fault_inside a g.subject.name inside) e

  whole_rule : (t : Totals) (g : StoredText) (gs : List StoredText) (l : Option LaidText) → are_whole (g ∷ gs) ≡ true → rule_of a all inside left t g l ≡ faults.fault_of a left t g l
  whole_rule t g gs l w = sym (by_use t g l false (homeless_unused all g (homeless g gs w))) ∙ whole_by t g g.formulas l (whole_root g gs w)

  whole_totals : (t : Totals) (g : StoredText) (gs : List StoredText) (l : Option LaidText) → are_whole (g ∷ gs) ≡ true → totals_of t g l ≡ totals_with t g l
  whole_totals t g gs l w = ap (λ b. if b then totals_with t g l else t) (whole_root g gs w)

  whole_first : (t : Totals) (n : ℕ) (gs : List StoredText) (ls : List (Option LaidText)) → are_whole gs ≡ true
      → first_from a all inside left t (take n gs) ls ≡ fault_from a left t (take n gs) ls
  whole_first t zero gs ls w = refl
  whole_first t (suc n) [] ls w = refl
  whole_first t (suc n) (g ∷ gs) ls w =
      (λ i. or_later g (whole_rule t g gs (first_laid ls) w i) (first_from a all inside left (whole_totals t g gs (first_laid ls) w i) (take n gs) (other_laid ls)))
      ∙ ap (or_later g (faults.fault_of a left t g (first_laid ls))) (whole_first (totals_with t g (first_laid ls)) n gs (other_laid ls) (whole_rest g gs w))

-- of whole functions only one that is too large leaves others without regions
left_by_large : (a : Algorithm) (gs : List StoredText) (o : Option (Rule × List ℕ)) → are_whole gs ≡ true → calls_left a gs o ≡ calls_of_large a gs
left_by_large a gs o w = ap (λ b. lacking a (λ g. if b then is_large g else leaves_some gs o g) gs) w

pub whole_told : (a : Algorithm) (gs : List StoredText) (inside : List Inside) (o : Option (Rule × List ℕ)) (n : ℕ) (ls : List (Option LaidText)) (q : Option Fault)
    → q ≡ first_from a gs inside (calls_left a gs o) no_totals (take n gs) ls → IsFirstOf a (calls_of_large a gs) no_totals n gs ls q
whole_told a gs inside o n ls q h w =
    h ∙ whole_first a gs inside (calls_left a gs o) no_totals n gs ls w ∙ ap (λ cs. fault_from a cs no_totals (take n gs) ls) (left_by_large a gs o w)

pub none_is_over : (a : Algorithm) (gs : List StoredText) (inside : List Inside) (o : Option (Rule × List ℕ)) (n : ℕ) (ls : List (Option LaidText)) → n ≡ length gs
    → None ≡ first_from a gs inside (calls_left a gs o) no_totals (take n gs) ls → first_over a gs o ls inside ≡ None
none_is_over a gs inside o n ls e h =
    let all : take n gs ≡ gs = ap (λ k. take k gs) e ∙ take-length gs in
    sym (h ∙ ap (λ (xs : List StoredText). first_from a gs inside (calls_left a gs o) no_totals xs ls) all)
