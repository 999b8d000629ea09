-- The tests of an update's nest, of the loops but those of the reduction, wherever these stand among them.
use Rattle.std.proofs.Common.{◌≡◌, ℕ, zero, suc, ◌+◌, ◌<◌, Bool, true, false, ◌&&◌, ◌||◌, not, List, [], ◌∷◌, ◌++◌, map, Some, refl, sym, ap, ◌∙◌, subst, arith}
use Rattle.std.specs.Prelude.{◌==◌, if◌then◌else◌, slice_get}
use Rattle.std.specs.List.{AllByRecursion, list_any, list_all}
use Rattle.std.proofs.lemmas.Bool.Decides.{nat_tests}
use Rattle.bounds.proofs.ListSound.{all-append}
use Rattle.lin.specs.Forms.{Form}
use Rattle.lin.specs.declared.form.Multiple.{Multiple}
use Rattle.plan.specs.Plan.{Coordinate}
use Rattle.soundness.specs.Obligations.{Binder, form_has}
use Rattle.soundness.specs.Nests.Nest.{is_symbol}
use Rattle.soundness.proofs.Refines.{eq_refl, eq_true}
use Rattle.sched.specs.declared.nest.Turning.{Turning}
use Rattle.sched.specs.Skeleton.{span}
use Rattle.tails.specs.Steps.{Step, Turns, binder, binds}
use Rattle.tails.specs.Moves.{is_outer}
use Rattle.tails.specs.Maps.{is_beyond}
use Rattle.completeness.proofs.LoopMoves.{Item, is_left, AreApart}
use Rattle.completeness.proofs.SplitTests.{item_of, left_none, left_first, left_last, apart_last}

-- ---- the loops that are kept, the innermost first

module _ (lim : ℕ → List Form) (keep : ℕ → Bool) where
  abbrev pub kept_back : ℕ → List Turning → List Item
  kept_back n [] = []
  kept_back n (t ∷ ts) = if keep n then kept_back (n + 1) ts ++ item_of n t ∷ [] else kept_back (n + 1) ts

  -- and the others
  abbrev pub left_out : ℕ → List Turning → List Step
  left_out n [] = []
  left_out n (t ∷ ts) = if not (keep n) then Turns n (span t.low t.last (lim n)) t.kind ∷ left_out (n + 1) ts else left_out (n + 1) ts

  pub kept_low : (k n : ℕ) (ts : List Turning) → k < n → is_left k (kept_back n ts) ≡ false
  kept_low k n [] less = refl
  kept_low k n (t ∷ ts) less = of (keep n) (kept_low k (n + 1) ts (omega (arith, less)))
    where
      of : (b : Bool) → is_left k (kept_back (n + 1) ts) ≡ false → is_left k (if b then kept_back (n + 1) ts ++ item_of n t ∷ [] else kept_back (n + 1) ts) ≡ false
      of true h = (let differs : (n == k) ≡ false = grind (arith, nat_tests, less) in left_none k (kept_back (n + 1) ts) (item_of n t) h differs)
      of false h = h

  pub kept_there : (n : ℕ) (ts : List Turning) (i : ℕ) (t : Turning) → slice_get ts i ≡ Some t → keep (n + i) ≡ true → is_left (n + i) (kept_back n ts) ≡ true
  kept_there n [] i t at kept = absurd (cc at)
  kept_there n (u ∷ ts) zero t at kept =
      let none : n + 0 ≡ n = omega arith in
      let here : keep n ≡ true = ap keep (sym none) ∙ kept in
      ap (λ (b : Bool). is_left (n + 0) (if b then kept_back (n + 1) ts ++ item_of n u ∷ [] else kept_back (n + 1) ts)) here
      ∙ left_last (n + 0) (kept_back (n + 1) ts) (item_of n u) (ap (λ (m : ℕ). n == m) none ∙ eq_refl n)
  kept_there n (u ∷ ts) (suc i) t at kept =
      let next : (n + 1) + i ≡ n + suc i = omega arith in
      let rest : is_left (n + suc i) (kept_back (n + 1) ts) ≡ true =
      ap (λ (m : ℕ). is_left m (kept_back (n + 1) ts)) (sym next) ∙ kept_there (n + 1) ts i t at (ap keep next ∙ kept) in
      of (keep n) rest
    where
      of : (b : Bool) → is_left (n + suc i) (kept_back (n + 1) ts) ≡ true → is_left (n + suc i) (if b then kept_back (n + 1) ts ++ item_of n u ∷ [] else kept_back (n + 1) ts) ≡ true
      of true h = left_first (n + suc i) (kept_back (n + 1) ts) (item_of n u ∷ []) h
      of false h = h

  pub kept_apart : (n : ℕ) (ts : List Turning) → AreApart (kept_back n ts)
  kept_apart n [] = tt
  kept_apart n (t ∷ ts) = of (keep n) (kept_apart (n + 1) ts)
    where
      of : (b : Bool) → AreApart (kept_back (n + 1) ts) → AreApart (if b then kept_back (n + 1) ts ++ item_of n t ∷ [] else kept_back (n + 1) ts)
      of true h = apart_last (kept_back (n + 1) ts) (item_of n t) h (kept_low n (n + 1) ts (omega arith))
      of false h = h

  pub kept_all : (P : Item → Type 0) (n : ℕ) (ts : List Turning) → ((j : ℕ) (t : Turning) → slice_get ts j ≡ Some t → keep (n + j) ≡ true → P (item_of (n + j) t)) → AllByRecursion P (kept_back n ts)
  kept_all P n [] h = tt
  kept_all P n (t ∷ ts) h =
      of (keep n) refl (kept_all P (n + 1) ts (λ j u e kept. let next : n + suc j ≡ (n + 1) + j = omega arith in
      subst (λ (m : ℕ). P (item_of m u)) next (h (suc j) u e (ap keep next ∙ kept))))
    where
      of : (b : Bool) → keep n ≡ b → AllByRecursion P (kept_back (n + 1) ts) → AllByRecursion P (if b then kept_back (n + 1) ts ++ item_of n t ∷ [] else kept_back (n + 1) ts)
      of true e rest =
          let none : n + 0 ≡ n = omega arith in
          let here : P (item_of n t) = subst (λ (m : ℕ). P (item_of m t)) none (h 0 t refl (ap keep none ∙ e)) in
          all-append P (kept_back (n + 1) ts) (item_of n t ∷ []) rest (here, tt)
      of false e rest = rest

  -- ---- those that are left out

  -- they have no further upper forms
  abbrev pub AreBare : ℕ → List Turning → Type 0
  AreBare n ts = (j : ℕ) (t : Turning) → slice_get ts j ≡ Some t → keep (n + j) ≡ false → lim (n + j) ≡ []

  pub bare_later : (n : ℕ) (t : Turning) (ts : List Turning) → AreBare n (t ∷ ts) → AreBare (n + 1) ts
  bare_later n t ts h j u e out = (let next : (n + 1) + j ≡ n + suc j = omega arith in ap lim next ∙ h (suc j) u e (ap keep (sym next) ∙ out))

  pub out_beyond : (bs : List Binder) (n : ℕ) (ts : List Turning) → AreBare n ts → list_all (is_beyond bs) (map binder (left_out n ts)) ≡ true
  out_beyond bs n [] bare = refl
  out_beyond bs n (t ∷ ts) bare = of (keep n) refl (out_beyond bs (n + 1) ts (bare_later n t ts bare))
    where
      of : (b : Bool) → keep n ≡ b → list_all (is_beyond bs) (map binder (left_out (n + 1) ts)) ≡ true →
          list_all (is_beyond bs) (map binder (if not b then Turns n (span t.low t.last (lim n)) t.kind ∷ left_out (n + 1) ts else left_out (n + 1) ts)) ≡ true
      of true e h = h
      of false e h =
          let none_more : n + 0 ≡ n = omega arith in
          let none : lim n ≡ [] = ap lim (sym none_more) ∙ bare 0 t refl (ap keep none_more ∙ e) in
          λ j. (true && (true && list_all (is_outer bs) (none j))) && h j

  -- none of them binds a symbol that is kept
  pub out_free : (s : ℕ) → keep s ≡ true → (n : ℕ) (ts : List Turning) → list_any (binds s) (map binder (left_out n ts)) ≡ false
  out_free s kept n [] = refl
  out_free s kept n (t ∷ ts) = of (keep n) refl (out_free s kept (n + 1) ts)
    where
      of : (b : Bool) → keep n ≡ b → list_any (binds s) (map binder (left_out (n + 1) ts)) ≡ false →
          list_any (binds s) (map binder (if not b then Turns n (span t.low t.last (lim n)) t.kind ∷ left_out (n + 1) ts else left_out (n + 1) ts)) ≡ false
      of true e h = h
      of false e h = (let differs : (s == n) ≡ false = differ (s == n) refl in λ j. differs j || h j)
        where
          differ : (b : Bool) → (s == n) ≡ b → b ≡ false
          differ true q = (let clash : true ≡ false = sym kept ∙ ap keep (eq_true s n q) ∙ e in cc clash)
          differ false q = refl

  -- nor one below theirs
  pub out_none : (k n : ℕ) (ts : List Turning) → k < n → list_any (binds k) (map binder (left_out n ts)) ≡ false
  out_none k n [] less = refl
  out_none k n (t ∷ ts) less = of (not (keep n)) (out_none k (n + 1) ts (omega (arith, less)))
    where
      of : (b : Bool) → list_any (binds k) (map binder (left_out (n + 1) ts)) ≡ false →
          list_any (binds k) (map binder (if b then Turns n (span t.low t.last (lim n)) t.kind ∷ left_out (n + 1) ts else left_out (n + 1) ts)) ≡ false
      of true h = (let differs : (k == n) ≡ false = grind (arith, nat_tests, less) in λ j. differs j || h j)
      of false h = h

  -- a form that has no symbol of theirs
  pub out_outer : (f : Form) (n : ℕ) (ts : List Turning) → ((j : ℕ) (t : Turning) → slice_get ts j ≡ Some t → keep (n + j) ≡ false → form_has (n + j) f ≡ false) →
      is_outer (map binder (left_out n ts)) f ≡ true
  out_outer f n ts h = each f.terms (λ j t at kept. h j t at kept)
    where
      one : (m : Multiple) (n : ℕ) (ts : List Turning) → ((j : ℕ) (t : Turning) → slice_get ts j ≡ Some t → keep (n + j) ≡ false → (m.symbol == n + j) ≡ false) →
          list_any (binds m.symbol) (map binder (left_out n ts)) ≡ false
      one m n [] h = refl
      one m n (t ∷ ts) h =
          of (keep n) refl (one m (n + 1) ts (λ j u e kept. let next : n + suc j ≡ (n + 1) + j = omega arith in
          ap (λ (i : ℕ). m.symbol == i) (sym next) ∙ h (suc j) u e (ap keep next ∙ kept)))
        where
          of : (b : Bool) → keep n ≡ b → list_any (binds m.symbol) (map binder (left_out (n + 1) ts)) ≡ false →
              list_any (binds m.symbol) (map binder (if not b then Turns n (span t.low t.last (lim n)) t.kind ∷ left_out (n + 1) ts else left_out (n + 1) ts)) ≡ false
          of true e rest = rest
          of false e rest =
              let none : n + 0 ≡ n = omega arith in
              let here : (m.symbol == n) ≡ false = ap (λ (i : ℕ). m.symbol == i) (sym none) ∙ h 0 t refl (ap keep none ∙ e) in
              λ j. here j || rest j

      split_or : (a b : Bool) → (a || b) ≡ false → (a ≡ false) × (b ≡ false)
      split_or true b e = absurd (cc e)
      split_or false b e = (refl, e)

      each : (ms : List Multiple) → ((j : ℕ) (t : Turning) → slice_get ts j ≡ Some t → keep (n + j) ≡ false → list_any (λ t. t.symbol == n + j) ms ≡ false) →
          list_all (λ t. not (list_any (binds t.symbol) (map binder (left_out n ts)))) ms ≡ true
      each [] k = refl
      each (m ∷ ms) k =
          let here = one m n ts (λ j t at kept. (split_or (m.symbol == n + j) (list_any (λ t. t.symbol == n + j) ms) (k j t at kept)).0) in
          let rest = each ms (λ j t at kept. (split_or (m.symbol == n + j) (list_any (λ t. t.symbol == n + j) ms) (k j t at kept)).1) in
          λ j. not (here j) && rest j

-- the steps of an update's nest, by the symbols of its reduction variables
abbrev pub is_kept : List Coordinate → ℕ → Bool
is_kept over s = not (list_any (is_symbol s) over)
