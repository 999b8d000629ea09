-- Lists of loops, names and steps, as nests of functions whose loops are not split have them.
use Rattle.std.proofs.Common.{◌≡◌, ℕ, zero, suc, ◌+◌, ◌≤◌, Bool, true, List, [], ◌∷◌, length, map}
use Rattle.std.proofs.Common.{Option, Some, None, refl, sym, ap, ◌∙◌, subst, inl, inr, arith}
use Rattle.std.specs.Prelude.{reverse, slice_get}
use Rattle.std.specs.List.{AllByRecursion}
use Rattle.std.proofs.lemmas.List.{reverse-append}
use Rattle.tree.specs.Term.{Term}
use Rattle.bounds.proofs.ListSound.{all-append}
use Rattle.lin.specs.Forms.{Form}
use Rattle.plan.specs.Plan.{Index, At, Found}
use Rattle.meaning.specs.Algorithm.{Change, Algorithm}
use Rattle.meaning.specs.Names.{same_name}
use Rattle.soundness.specs.Claims.{In}
use Rattle.soundness.proofs.Refines.{name_refl}
use Rattle.sched.specs.declared.placing.Loop.{Loop}
use Rattle.sched.specs.declared.numbers.Numbers.{Numbers}
use Rattle.sched.specs.declared.nest.Turning.{Turning}
use Rattle.sched.specs.Standing.{◌>>=◌}
use Rattle.sched.specs.Skeleton.{loop_turning}
use Rattle.sched.specs.Stored.{FormulaText}
use Rattle.blocks.specs.Stored.{put, pure_put, changes_put, formulas_put}
use Rattle.regions.specs.Regions.{missing_from}
use Rattle.sched.specs.Loading.{Loads}
use Rattle.blocks.specs.Bodies.{IsIndex}
use Rattle.blocks.proofs.Laying.{bound, same}
use Rattle.completeness.proofs.PlainTurns.{one_if, hits}
use Rattle.completeness.proofs.PlainTurns.{itself, turn_name}

-- ---- lists

pub all_back : {A : Type 0} (P : A → Type 0) (xs : List A) → AllByRecursion P xs → AllByRecursion P (reverse xs)
all_back P [] h = tt
all_back P (x ∷ xs) h = subst (AllByRecursion P) (sym (reverse-append (x ∷ []) xs)) (all-append P (reverse xs) (x ∷ []) (all_back P xs h.1) (h.0, tt))

pub all_get : {A : Type 0} (P : A → Type 0) (xs : List A) (n : ℕ) (x : A) → AllByRecursion P xs → slice_get xs n ≡ Some x → P x
all_get P [] n x h e = absurd (cc e)
all_get P (y ∷ xs) zero x h e = (let same : y ≡ x = cc e in subst P same h.0)
all_get P (y ∷ xs) (suc n) x h e = all_get P xs n x h.1 e

pub all_from : {A : Type 0} (P : A → Type 0) (xs : List A) → ((x : A) → In x xs → P x) → AllByRecursion P xs
all_from P [] h = tt
all_from P (x ∷ xs) h = (h x (inl refl), all_from P xs (λ y m. h y (inr m)))

pub all_in : {A : Type 0} (P : A → Type 0) (xs : List A) (x : A) → AllByRecursion P xs → In x xs → P x
all_in P [] x h m = absurd m
all_in P (y ∷ xs) x h (inl e) = subst P (sym e) h.0
all_in P (y ∷ xs) x h (inr m) = all_in P xs x h.1 m

-- ---- the first definition

pub none_missing : (d : ℕ) (xs : List (List ℕ)) → missing_from d (map (λ x. None) xs) ≡ []
none_missing d [] = refl
none_missing d (x ∷ xs) = none_missing (d + 1) xs

pub record FirstPut (fs : List FormulaText) (xs : List (List ℕ)) : Type 0 where
  pub first : FormulaText
  pub others : List FormulaText
  pub are : fs ≡ first ∷ others
  pub at : first.at ≡ map (λ x. None) xs

pub first_put : (a : Algorithm) (st : List Bool) (xs : List (List ℕ)) (e : Term) (us : List Change) (fs : List FormulaText) → formulas_put a st xs e us ≡ Some fs → FirstPut fs xs
first_put a st xs e us fs h =
    let f = bound (pure_put a st xs e) (λ f. changes_put a st xs us >>= λ fs. Some (f ∷ fs)) fs h in
    let r = bound (changes_put a st xs us) (λ fs. Some (f.value ∷ fs)) fs f.comes in
    let v = bound (put a st e) (λ v. Some (record { at = map (λ x. None) xs; value = v })) f.value f.is in
    record {
      first = f.value;
      others = r.value;
      are = sym (same (f.value ∷ r.value) fs r.comes);
      at = ap (λ (u : FormulaText). u.at) (sym (same (record { at = map (λ x. None) xs; value = v.value }) f.value v.comes));
    }

-- ---- coordinates

pub index_at : (ms : Loads) (o : Option Form) (left : Option Term) (i : Index) (f : Form) → o ≡ Some f → IsIndex ms o left i → i ≡ At f
index_at ms o left i f e h = of i (subst (λ (p : Option Form). IsIndex ms p left i) e h)
  where
    of : (i : Index) → IsIndex ms (Some f) left i → i ≡ At f
    of (At g) q = ap (λ (g : Form). At g) q
    of (Found t) q = absurd q

-- ---- loops

abbrev pub loop_name : Loop → List ℕ
loop_name l = l.name

pub hits_turned : (rs : List Numbers) (y : List ℕ) (ls : List Loop) → hits turn_name y (map (loop_turning rs) ls) ≡ hits loop_name y ls
hits_turned rs y [] = refl
hits_turned rs y (l ∷ ls) = (let rest = hits_turned rs y ls in omega (arith, rest))

pub hits_named : (y : List ℕ) (ls : List Loop) → hits loop_name y ls ≡ hits itself y (map loop_name ls)
hits_named y [] = refl
hits_named y (l ∷ ls) = (let rest = hits_named y ls in omega (arith, rest))

-- ---- no more loops than variables

pub all_slices : {A : Type 0} (P : A → Type 0) (xs : List A) → ((j : ℕ) (x : A) → slice_get xs j ≡ Some x → P x) → AllByRecursion P xs
all_slices P [] h = tt
all_slices P (x ∷ xs) h = (h 0 x refl, all_slices P xs (λ j y e. h (suc j) y e))

abbrev pub total : List (List ℕ) → List Turning → ℕ
total [] ts = 0
total (x ∷ xs) ts = hits turn_name x ts + total xs ts

total_more : (xs : List (List ℕ)) (t : Turning) (ts : List Turning) → total xs ts ≤ total xs (t ∷ ts)
total_more [] t ts = omega arith
total_more (x ∷ xs) t ts = (let rest = total_more xs t ts in omega (arith, rest))

total_one : (xs : List (List ℕ)) (t : Turning) (ts : List Turning) → In t.name xs → suc (total xs ts) ≤ total xs (t ∷ ts)
total_one [] t ts m = absurd m
total_one (x ∷ xs) t ts (inl e) =
    let here : same_name t.name x ≡ true = ap (same_name t.name) (sym e) ∙ name_refl t.name in
    let counts : one_if (same_name t.name x) ≡ 1 = ap one_if here in
    let rest = total_more xs t ts in
    omega (arith, counts, rest)
total_one (x ∷ xs) t ts (inr m) = (let rest = total_one xs t ts m in omega (arith, rest))

pub at_most_all : (xs : List (List ℕ)) (ts : List Turning) → AllByRecursion (λ t. In t.name xs) ts → length ts ≤ total xs ts
at_most_all xs [] h = omega arith
at_most_all xs (t ∷ ts) h = (let here = total_one xs t ts h.0 in let rest = at_most_all xs ts h.1 in omega (arith, here, rest))

pub all_once : (xs : List (List ℕ)) (ts : List Turning) → ((y : List ℕ) → hits turn_name y ts ≤ 1) → total xs ts ≤ length xs
all_once [] ts few = omega arith
all_once (x ∷ xs) ts few = (let here = few x in let rest = all_once xs ts few in omega (arith, here, rest))
