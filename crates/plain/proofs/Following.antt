-- What follows in a frame.
use Rattle.std.proofs.Common.{◌≡◌, ◌≢◌, ◌<◌, ◌≤◌, ℕ, zero, suc, ◌+◌, Bool, true, false, List, [], ◌∷◌, ◌++◌, map, length, drop, ℤ, refl, sym, ap, ◌∙◌, arith, add-one, not}
use Rattle.std.specs.Prelude.{sum_by, nat_eq}
use Rattle.std.proofs.lemmas.Bool.{false≢true}
use Rattle.std.proofs.lemmas.List.{append-nil}
use Rattle.std.proofs.lemmas.List.Sums.{sum_by-cons, sum_by-append}
use Rattle.std.proofs.lemmas.Bool.Decides.{nat_tests}
use Rattle.meaning.proofs.Calls.{get_take}
use borrow.Author.Tests.{eqb-true}
use Rattle.tree.specs.declared.value.Value.{Value}
use Rattle.tree.specs.Term.{Term, End, More, indices}
use Rattle.tree.specs.Meaning.{numbers_of, value_of, typed}
use Rattle.tree.specs.Uses.{Asked, calls_made, calls_made_by_all}
use Rattle.meaning.specs.Algorithm.{Algorithm}
use Rattle.meaning.specs.Names.{same_name, bound}
use Rattle.meaning.specs.Reduction.{point}
use Rattle.meaning.specs.Conditions.{IsAlgorithm, names_in}
use Rattle.meaning.specs.Value.{Calls, left_side}
use Rattle.meaning.specs.Count.{Costs, Counted, cost_of, right_cost}
use Rattle.meaning.proofs.Cases.{name_same, name_differs, same_name_is, point_same, point_differs}
use Rattle.plain.specs.declared.frame.Stage.{Stage}
use Rattle.plain.specs.declared.frame.Stage.TheVariants.{Pure, Before, Left, Right}
use Rattle.plain.specs.Sites.{is_other}
use Rattle.plain.specs.Works.{asked_list, open_cost}
use Rattle.plain.specs.Scopes.{function_at, change_at}
use Rattle.plain.specs.Stages.{level, after, point_of, calls_at, costs_at, work, outcome, later, open_count, stage_of, size_before, callees_at, finished_level}
use Rattle.plain.specs.Goals.{level_asked}
use Rattle.plain.proofs.Standing.{sum_by-filtered}
use Rattle.plain.proofs.Known.{input_cost, level-through, call_answer, call_cost, none_named, stands}

drop-zero : {A : Type 0} (xs : List A) → drop 0 xs ≡ xs
drop-zero [] = refl
drop-zero (x ∷ xs) = refl

drop-over : {A : Type 0} (xs : List A) (n : ℕ) → length xs ≤ n → drop n xs ≡ []
drop-over [] zero h = refl
drop-over [] (suc n) h = refl
drop-over (x ∷ xs) zero h = absurd (omega arith)
drop-over (x ∷ xs) (suc n) h = drop-over xs n (omega arith)

not_false : (b : Bool) → not b ≡ false → b ≡ true
not_false true h = refl
not_false false h = absurd (false≢true (sym h))

nat_eq-refl : (n : ℕ) → nat_eq n n ≡ true
nat_eq-refl n = grind (arith, nat_tests)

-- the numbers of a left side
pub numbers-list : (vs : List ℕ → ℤ) (calls : Calls) (es : List Term) → numbers_of vs calls (indices es) ≡ map (λ e. (value_of vs calls e).number) es
numbers-list vs calls [] = refl
numbers-list vs calls (e ∷ es) = ap (λ zs. (value_of vs calls e).number ∷ zs) (numbers-list vs calls es)

-- the cost of several expressions
cost-list : (vs : List ℕ → ℤ) (calls : Calls) (costs : Costs) (es : List Term) → sum_by (λ c. costs c.name c.at) (calls_made_by_all vs calls (indices es)) ≡ sum_by (cost_of vs calls costs) es
cost-list vs calls costs [] = refl
cost-list vs calls costs (e ∷ es) =
    let cost : Asked → ℕ = λ c. costs c.name c.at in
    let two = sum_by-append cost (calls_made vs calls e) (calls_made_by_all vs calls (indices es)) in
    let more : sum_by cost (calls_made_by_all vs calls (indices es)) ≡ sum_by (cost_of vs calls costs) es = cost-list vs calls costs es in
    two ∙ ap (λ n. sum_by cost (calls_made vs calls e) + n) more ∙ sym (sum_by-cons (cost_of vs calls costs) e es)

module _ (a : Algorithm) (samples : List ℕ) (w : IsAlgorithm a) (k : ℕ) (below : k < length a.functions) where
  -- what all calls of a stage cost
  pub cost-all : (s : Stage) (p : List ℤ) → open_cost a.input (work a samples k s p) 0 ≡ sum_by (λ c. costs_at a samples k s c.name c.at) (calls_made_by_all (bound (work a samples k s p).names (work a samples k s p).numbers) (calls_at a samples k s) (work a samples k s p).terms)
  cost-all s p =
      let cost : Asked → ℕ = λ c. costs_at a samples k s c.name c.at in
      let made = calls_made_by_all (bound (work a samples k s p).names (work a samples k s p).numbers) (calls_at a samples k s) (work a samples k s p).terms in
      ap (sum_by cost) (drop-zero (asked_list a.input (work a samples k s p)))
      ∙ sum_by-filtered cost (λ c. is_other a.input c.name) made
      (λ c h. ap (λ (x : List ℕ). costs_at a samples k s x c.at) (sym (same_name_is a.input c.name (not_false (same_name a.input c.name) h))) ∙ input_cost a samples w k below s c.at)

  -- a value starts at its stage
  pub starts_outcome : (d n : ℕ) (p : List ℤ) → outcome a samples k (stage_of d n) p ≡ (level a samples k d n).values p
  starts_outcome zero n p = refl
  starts_outcome (suc i) zero p = refl
  starts_outcome (suc i) (suc n) p = refl

  one_cost : (vs : List ℕ → ℤ) (calls : Calls) (costs : Costs) (e : Term) → sum_by (λ c. costs c.name c.at) (calls_made_by_all vs calls (More e End)) ≡ cost_of vs calls costs e
  one_cost vs calls costs e = ap (sum_by (λ (c : Asked). costs c.name c.at)) (append-nil (calls_made vs calls e))

  pub starts_count : (d n : ℕ) (p : List ℤ) → (level a samples k d n).counts p ≡ 1 + open_count a samples k (stage_of d n) p 0
  starts_count zero n p =
      let f = function_at a k in
      let all : open_cost a.input (work a samples k Pure p) 0 ≡ cost_of (bound f.variables p) (calls_at a samples k Pure) (costs_at a samples k Pure) f.value =
      cost-all Pure p ∙ one_cost (bound f.variables p) (calls_at a samples k Pure) (costs_at a samples k Pure) f.value in
      omega (arith, all)
  starts_count (suc i) zero p =
      let all : open_cost a.input (work a samples k (Before i) p) 0 ≡ 0 = cost-all (Before i) p in
      omega (arith, all)
  starts_count (suc i) (suc n) p =
      let f = function_at a k in
      let u = change_at f i in
      let vs = bound (names_in f u) (p ++ point u.ranges n) in
      let all : open_cost a.input (work a samples k (Left i n) p) 0 ≡ sum_by (cost_of vs (calls_at a samples k (Left i n)) (costs_at a samples k (Left i n))) u.at =
      cost-all (Left i n) p ∙ cost-list vs (calls_at a samples k (Left i n)) (costs_at a samples k (Left i n)) u.at in
      ap (λ m. 1 + m + later a samples k (Left i n) p) (sym all) ∙ (let e : 1 + open_cost a.input (work a samples k (Left i n) p) 0 + later a samples k (Left i n) p ≡ 1 + (open_cost a.input (work a samples k (Left i n) p) 0 + later a samples k (Left i n) p) = omega arith in e)

  -- where all calls are answered nothing is left to pay
  pub none_left : (s : Stage) (p : List ℤ) (n : ℕ) → length (asked_list a.input (work a samples k s p)) ≤ n → open_count a samples k s p n ≡ later a samples k s p
  none_left s p n h =
      let cost : Asked → ℕ = λ c. costs_at a samples k s c.name c.at in
      let e : open_cost a.input (work a samples k s p) n ≡ 0 = ap (sum_by cost) (drop-over (asked_list a.input (work a samples k s p)) n h) in
      omega (arith, e)

  -- before its first point an update leaves the value to the definition before
  pub falls_value : (i : ℕ) (p : List ℤ) → i ≤ length (function_at a k).changes → outcome a samples k (Before i) p ≡ (level a samples k i (size_before (function_at a k) i)).values p
  falls_value i p h = ap (λ (c : Counted). c.values p) (sym (level-through a samples w k i h))

  pub falls_count : (i : ℕ) (p : List ℤ) (n : ℕ) → i ≤ length (function_at a k).changes → open_count a samples k (Before i) p n ≡ (level a samples k i (size_before (function_at a k) i)).counts p
  falls_count i p n h = none_left (Before i) p n (omega arith) ∙ ap (λ (c : Counted). c.counts p) (sym (level-through a samples w k i h))

  -- a left side that is the point turns to the right side, any other falls back
  module _ (i n : ℕ) (p : List ℤ) where
    place : List ℤ
    place = left_side (calls_at a samples k (Left i n)) (function_at a k) (change_at (function_at a k) i) p (point_of a samples k i n)

    pub turns_value : left_side (calls_at a samples k (Left i n)) (function_at a k) (change_at (function_at a k) i) p (point_of a samples k i n) ≡ p →
        outcome a samples k (Left i n) p ≡ outcome a samples k (Right i n) p
    turns_value e =
        let pick : Bool → ℤ = λ b. elim b [ true ↦ outcome a samples k (Right i n) p | false ↦ (after a samples k i n).values p ] in
        ap pick (point_same (left_side (calls_at a samples k (Left i n)) (function_at a k) (change_at (function_at a k) i) p (point_of a samples k i n)) p e)

    pub turns_count : left_side (calls_at a samples k (Left i n)) (function_at a k) (change_at (function_at a k) i) p (point_of a samples k i n) ≡ p →
        later a samples k (Left i n) p ≡ open_count a samples k (Right i n) p 0
    turns_count e =
        let f = function_at a k in
        let u = change_at f i in
        let vs = bound (names_in f u) (p ++ point u.ranges n) in
        let cost = right_cost (calls_at a samples k (Left i n)) (costs_at a samples k (Left i n)) f (after a samples k i n).values (after a samples k i n).counts u (p ++ point_of a samples k i n) in
        let pick : Bool → ℕ = λ b. elim b [ true ↦ cost | false ↦ (after a samples k i n).counts p ] in
        let all : open_cost a.input (work a samples k (Right i n) p) 0 ≡ cost = cost-all (Right i n) p ∙ one_cost vs (calls_at a samples k (Right i n)) (costs_at a samples k (Right i n)) u.value in
        let picked : later a samples k (Left i n) p ≡ cost = ap pick (point_same (left_side (calls_at a samples k (Left i n)) f u p (point_of a samples k i n)) p e) in
        omega (arith, all, picked)

    pub kept_value : left_side (calls_at a samples k (Left i n)) (function_at a k) (change_at (function_at a k) i) p (point_of a samples k i n) ≢ p →
        outcome a samples k (Left i n) p ≡ (level a samples k (i + 1) n).values p
    kept_value d =
        let pick : Bool → ℤ = λ b. elim b [ true ↦ outcome a samples k (Right i n) p | false ↦ (after a samples k i n).values p ] in
        rw add-one (ap pick (point_differs (left_side (calls_at a samples k (Left i n)) (function_at a k) (change_at (function_at a k) i) p (point_of a samples k i n)) p d))

    pub kept_count : left_side (calls_at a samples k (Left i n)) (function_at a k) (change_at (function_at a k) i) p (point_of a samples k i n) ≢ p →
        later a samples k (Left i n) p ≡ (level a samples k (i + 1) n).counts p
    kept_count d =
        let f = function_at a k in
        let u = change_at f i in
        let cost = right_cost (calls_at a samples k (Left i n)) (costs_at a samples k (Left i n)) f (after a samples k i n).values (after a samples k i n).counts u (p ++ point_of a samples k i n) in
        let pick : Bool → ℕ = λ b. elim b [ true ↦ cost | false ↦ (after a samples k i n).counts p ] in
        rw add-one (ap pick (point_differs (left_side (calls_at a samples k (Left i n)) f u p (point_of a samples k i n)) p d))

  -- what the call of a function answers and costs at a stage
  pub record Answers (s : Stage) (j : ℕ) (p : List ℤ) (v : ℤ) (n : ℕ) : Type 0 where
    pub value : (calls_at a samples k s (function_at a j).name p).number ≡ v
    pub cost : costs_at a samples k s (function_at a j).name p ≡ n

  abbrev pub asked_level : Stage → ℕ → Counted
  asked_level s j = level a samples j (level_asked a k s j).0 (level_asked a k s j).1

  earlier : (j : ℕ) (p : List ℤ) → j < k → Answers Pure j p ((level a samples j (finished_level (function_at a j)).0 (finished_level (function_at a j)).1).values p) ((level a samples j (finished_level (function_at a j)).0 (finished_level (function_at a j)).1).counts p)
  earlier j p h = record { value = ap (λ (v : Value). v.number) (call_answer a samples w j k p h (omega arith)); cost = call_cost a samples w j k p h (omega arith) }

  pub call_answers : (s : Stage) (j : ℕ) (p : List ℤ) → j < callees_at s k → Answers s j p ((asked_level s j).values p) ((asked_level s j).counts p)
  call_answers Pure j p h = earlier j p h
  call_answers (Before i) j p h = record { value = (earlier j p h).value; cost = (earlier j p h).cost }
  call_answers (Left i n) j p h = record { value = (earlier j p h).value; cost = (earlier j p h).cost }
  call_answers (Right i n) j p h = by (nat_eq j k) refl
    where
      by : (b : Bool) → nat_eq j k ≡ b → Answers (Right i n) j p ((asked_level (Right i n) j).values p) ((asked_level (Right i n) j).counts p)
      by true e =
          let same : j ≡ k = eqb-true j k e in
          let level_is : level_asked a k (Right i n) j ≡ (i + 1, n) = (let pick : Bool → ℕ × ℕ = λ b. elim b [ true ↦ (i + 1, n) | false ↦ finished_level (function_at a j) ] in ap pick e) in
          let counted : asked_level (Right i n) j ≡ after a samples k i n = (λ m. level a samples (same m) (level_is m).0 (level_is m).1) ∙ rw add-one refl in
          let f = function_at a k in
          let values : Bool → Value = λ b. elim b [ true ↦ typed f.ty ((after a samples k i n).values p) | false ↦ calls_at a samples k Pure f.name p ] in
          let costs : Bool → ℕ = λ b. elim b [ true ↦ (after a samples k i n).counts p | false ↦ costs_at a samples k Pure f.name p ] in
          let hit = name_same f.name f.name refl in
          record {
            value = ap (λ m. (calls_at a samples k (Right i n) (function_at a m).name p).number) same ∙ ap (λ b. (values b).number) hit ∙ ap (λ (c : Counted). c.values p) (sym counted);
            cost = ap (λ m. costs_at a samples k (Right i n) (function_at a m).name p) same ∙ ap costs hit ∙ ap (λ (c : Counted). c.counts p) (sym counted);
          }
      by false e =
          let other : j ≢ k = (λ d. false≢true (sym e ∙ ap (nat_eq j) (sym d) ∙ nat_eq-refl j)) in
          let before : j < k = omega arith in
          let level_is : level_asked a k (Right i n) j ≡ finished_level (function_at a j) = (let pick : Bool → ℕ × ℕ = λ b. elim b [ true ↦ (i + 1, n) | false ↦ finished_level (function_at a j) ] in ap pick e) in
          let counted : asked_level (Right i n) j ≡ level a samples j (finished_level (function_at a j)).0 (finished_level (function_at a j)).1 = (λ m. level a samples j (level_is m).0 (level_is m).1) in
          let f = function_at a k in
          let g = function_at a j in
          let values : Bool → Value = λ b. elim b [ true ↦ typed f.ty ((after a samples k i n).values p) | false ↦ calls_at a samples k Pure g.name p ] in
          let costs : Bool → ℕ = λ b. elim b [ true ↦ (after a samples k i n).counts p | false ↦ costs_at a samples k Pure g.name p ] in
          let named : f.name ≢ g.name = (λ d. none_named a samples w k below j g (get_take a.functions k j before ∙ stands a samples w j (omega arith)) (sym d)) in
          let miss = name_differs f.name g.name named in
          let rest = earlier j p before in
          record {
            value = ap (λ b. (values b).number) miss ∙ rest.value ∙ ap (λ (c : Counted). c.values p) (sym counted);
            cost = ap costs miss ∙ rest.cost ∙ ap (λ (c : Counted). c.counts p) (sym counted);
          }
