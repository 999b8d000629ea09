-- Nests of loops, lets and guards, as the checker walks them: the way down to the store, the binders, the innermost first, and that each step names symbols of earlier ones. Of an
-- update the loops of its reduction are left out.
use Rattle.std.proofs.Common.{◌≡◌, ℕ, zero, suc, ◌+◌, ◌<◌, Bool, true, false, ◌&&◌, ◌||◌, not, List, [], ◌∷◌, ◌++◌, map, Some, None, refl, sym, ap, ◌∙◌, subst, inl, inr, arith}
use Rattle.std.proofs.Common.{append_assoc}
use Rattle.std.specs.Prelude.{◌==◌, if◌then◌else◌, slice_get}
use Rattle.std.specs.List.{AllByRecursion, list_any, list_all}
use Rattle.std.proofs.lemmas.Bool.Decides.{nat_tests}
use Rattle.std.proofs.lemmas.List.{reverse-append}
use Rattle.tree.specs.Term.{Term}
use Rattle.lin.specs.Forms.{Form, number}
use Rattle.lin.specs.declared.form.Multiple.{Multiple}
use Rattle.plan.specs.declared.stmt.Pick.{Pick}
use Rattle.plan.specs.declared.stmt.Pick.TheVariants.{Min}
use Rattle.plan.specs.Plan.{Coordinate, Statement, Seq, For, Let, First, Guard, Alloc, Fetch, Store, Publish, Statements, Empty, Then}
use Rattle.soundness.specs.Claims.{In, changes, block_changes}
use Rattle.soundness.specs.Obligations.{Binder, Ranged, Picked, Passed}
use Rattle.sched.specs.declared.nest.Turning.{Turning}
use Rattle.sched.specs.declared.skeleton.Step.{Step as NestStep}
use Rattle.sched.specs.declared.skeleton.Step.TheVariants as nest
use Rattle.sched.specs.Skeleton.{span}
use Rattle.tails.specs.Steps.{Step, Turns, Named, Tested, Spine, beyond, past, spine_of, block_spine, binder, along, binds}
use Rattle.tails.specs.Moves.{is_outer}
use Rattle.tails.specs.Maps.{is_scoped}
use Rattle.completeness.proofs.Standing.{AreLets}
use Rattle.completeness.proofs.NestWalk.{down, IsRest}
use Rattle.completeness.proofs.LoopMoves.{Item}
use Rattle.completeness.proofs.SplitTests.{IsBelow, item_of}
use Rattle.completeness.proofs.BlockKept.{kept_back, kept_all}
use Rattle.completeness.proofs.TailSteps.{Line, Loop, Block, Pair, line_steps, steps_of, line_binders, binders_of}

-- ---- steps

-- as `line_steps`
abbrev pub line_turns : Line → ℕ → Turning → List Form → List Step → List Step
line_turns Loop s t fs rest = Turns s (span t.low t.last fs) t.kind ∷ rest
line_turns (Block f z) s t fs rest = Named s Min (f ∷ number z ∷ []) ∷ rest
line_turns (Pair f z) s t fs rest = Tested f (number z) ∷ Named s Min (f ∷ number z ∷ []) ∷ rest

-- but for those that are not kept
abbrev pub lines_kept : (ℕ → Line) → (ℕ → List Form) → (ℕ → Bool) → ℕ → List Turning → List Step
lines_kept line lim keep n [] = []
lines_kept line lim keep n (t ∷ ts) = if keep n then line_turns (line n) n t (lim n) (lines_kept line lim keep (n + 1) ts) else lines_kept line lim keep (n + 1) ts

abbrev pub always : ℕ → Bool
always s = true

abbrev pub lines_of : (ℕ → Line) → (ℕ → List Form) → ℕ → List Turning → List Step
lines_of line lim n ts = lines_kept line lim always n ts

-- ---- the way down to the store

past_none : (s : Statement) → ((i : ℕ) (pick : Pick) (ls : List Form) → s ≡ Let i pick ls → ⊥) → past s None ≡ None
past_none (Seq all) h = refl
past_none (For i x kind body) h = refl
past_none (Let i pick ls) h = absurd (h i pick ls refl)
past_none (First i a b) h = refl
past_none (Guard low high body) h = refl
past_none (Alloc c f places) h = refl
past_none (Fetch c g region) h = refl
past_none (Store c k at e) h = refl
past_none (Publish c) h = refl

module _ (line : ℕ → Line) (lim : ℕ → List Form) (d : ℕ) (at : List Coordinate) (e : Term) where
  abbrev code : ℕ → List Turning → Statements
  code n ts = down 0 d at e (steps_of line lim n ts)

  step_changes : (l : Line) (n : ℕ) (t : Turning) (fs : List Form) (rest : List NestStep) → block_changes (down 0 d at e rest) 0 ≡ true → block_changes (down 0 d at e (line_steps l n t fs
      rest)) 0 ≡ true
  step_changes Loop n t fs rest h = ap (λ (b : Bool). b || false) h
  step_changes (Block f z) n t fs rest h = h
  step_changes (Pair f z) n t fs rest h = ap (λ (b : Bool). b || false) h

  down_changes : (n : ℕ) (ts : List Turning) → block_changes (code n ts) 0 ≡ true
  down_changes n [] = refl
  down_changes n (t ∷ ts) = step_changes (line n) n t (lim n) (steps_of line lim (n + 1) ts) (down_changes (n + 1) ts)

  abbrev made : List Step → Spine
  made steps = record { steps = steps; line = Store 0 d at e }

  step_spine : (l : Line) (n : ℕ) (t : Turning) (fs : List Form) (rest : List NestStep) (steps : List Step) → block_changes (down 0 d at e rest) 0 ≡ true →
      block_spine (down 0 d at e rest) 0 ≡ Some (made steps) → block_spine (down 0 d at e (line_steps l n t fs rest)) 0 ≡ Some (made (line_turns l n t fs steps))
  step_spine Loop n t fs rest steps c h =
      ap (λ (b : Bool). if b then beyond (Turns n (span t.low t.last fs) t.kind) (block_spine (down 0 d at e rest) 0) else None) c ∙ ap (beyond (Turns n (span t.low t.last fs) t.kind)) h
  step_spine (Block f z) n t fs rest steps c h = ap (beyond (Named n Min (f ∷ number z ∷ []))) h
  step_spine (Pair f z) n t fs rest steps c h =
      ap (λ (b : Bool). if b then beyond (Tested f (number z)) (beyond (Named n Min (f ∷ number z ∷ [])) (block_spine (down 0 d at e rest) 0)) else None) c
      ∙ ap (λ (o : _). beyond (Tested f (number z)) (beyond (Named n Min (f ∷ number z ∷ [])) o)) h

  down_spine : (n : ℕ) (ts : List Turning) → block_spine (code n ts) 0 ≡ Some (made (lines_of line lim n ts))
  down_spine n [] = refl
  down_spine n (t ∷ ts) = step_spine (line n) n t (lim n) (steps_of line lim (n + 1) ts) (lines_of line lim (n + 1) ts) (down_changes (n + 1) ts) (down_spine (n + 1) ts)

  -- the first step is a loop
  abbrev pub LoopFirst : ℕ → List Turning → Type 0
  LoopFirst n [] = Unit {0}
  LoopFirst n (t ∷ ts) = line n ≡ Loop

  pub spine_is : (n : ℕ) (ts : List Turning) → LoopFirst n ts → (s : Statement) → Then s Empty ≡ code n ts → spine_of s 0 ≡ Some (made (lines_of line lim n ts))
  spine_is n ts first s comes = of (changes s 0) (ap (λ (c : Statements). block_spine c 0) comes ∙ down_spine n ts)
    where
      no_let : (ts : List Turning) → LoopFirst n ts → Then s Empty ≡ code n ts → (i : ℕ) (pick : Pick) (ls : List Form) → s ≡ Let i pick ls → ⊥
      no_let [] f q i pick ls is = (let both : Let i pick ls ≡ Store 0 d at e = cc (is, q) in cc both)
      no_let (t ∷ ts) f q i pick ls is =
          let so : Then s Empty ≡ Then (For n (span t.low t.last (lim n)) t.kind (Seq (code (n + 1) ts))) Empty = q ∙ ap (λ (l : Line). down 0 d at e (line_steps l n t (lim n) (steps_of
          line lim (n + 1) ts))) f in
          let both : Let i pick ls ≡ For n (span t.low t.last (lim n)) t.kind (Seq (code (n + 1) ts)) = cc (is, so) in
          cc both

      of : {N : Spine} (b : Bool) → (if b then spine_of s 0 else past s None) ≡ Some N → spine_of s 0 ≡ Some N
      of true q = q
      of false q = absurd (cc (q, past_none s (no_let ts first comes)))

  -- no let stands in front
  pub first_steps : (n : ℕ) (ts : List Turning) → LoopFirst n ts → (all part : List NestStep) → all ≡ steps_of line lim n ts → IsRest all part → part ≡ steps_of line lim n ts
  first_steps n ts first all part q h = of h.lets h.are (sym q ∙ h.is)
    where
      none : (ts : List Turning) → LoopFirst n ts → (i : ℕ) (pick : Pick) (fs : List Form) (rest : List NestStep) → steps_of line lim n ts ≡ nest.Named i pick fs ∷ rest → ⊥
      none [] f i pick fs rest p = cc p
      none (t ∷ ts) f i pick fs rest p =
          let so : nest.Turns n (span t.low t.last (lim n)) t.kind ∷ steps_of line lim (n + 1) ts ≡ nest.Named i pick fs ∷ rest =
          sym (ap (λ (l : Line). line_steps l n t (lim n) (steps_of line lim (n + 1) ts)) f) ∙ p in
          cc so

      of : (ls : List NestStep) → AreLets ls → steps_of line lim n ts ≡ ls ++ part → part ≡ steps_of line lim n ts
      of [] are p = sym p
      of (nest.Turns i x kind ∷ ls) are p = absurd are
      of (nest.Named i pick fs ∷ ls) are p = absurd (none ts first i pick fs (ls ++ part) p)
      of (nest.Tested low high ∷ ls) are p = absurd are

-- ---- the binders, the innermost first

module _ (line : ℕ → Line) (lim : ℕ → List Form) (keep : ℕ → Bool) where
  binders_more : (xs ys : List Item) → binders_of line lim (xs ++ ys) ≡ binders_of line lim xs ++ binders_of line lim ys
  binders_more [] ys = refl
  binders_more (x ∷ xs) ys =
      ap (λ (bs : List Binder). line_binders (line x.symbol) x (lim x.symbol) ++ bs) (binders_more xs ys)
      ∙ sym (append_assoc (line_binders (line x.symbol) x (lim x.symbol)) (binders_of line lim xs) (binders_of line lim ys))

  no_more : (xs : List Binder) → xs ++ [] ≡ xs
  no_more [] = refl
  no_more (x ∷ xs) = ap (λ (ys : List Binder). x ∷ ys) (no_more xs)

  pub line_along : (l : Line) (n : ℕ) (t : Turning) (fs : List Form) (rest : List Step) → along (line_turns l n t fs rest) ≡ along rest ++ line_binders l (item_of n t) fs
  line_along Loop n t fs rest = reverse-append (Ranged n (span t.low t.last fs) ∷ []) (map binder rest)
  line_along (Block f z) n t fs rest = reverse-append (Picked n Min (f ∷ number z ∷ []) ∷ []) (map binder rest)
  line_along (Pair f z) n t fs rest = reverse-append (Passed f (number z) ∷ Picked n Min (f ∷ number z ∷ []) ∷ []) (map binder rest)

  pub along_kept : (n : ℕ) (ts : List Turning) → along (lines_kept line lim keep n ts) ≡ binders_of line lim (kept_back lim keep n ts)
  along_kept n [] = refl
  along_kept n (t ∷ ts) = of (keep n) (along_kept (n + 1) ts)
    where
      of : (b : Bool) → along (lines_kept line lim keep (n + 1) ts) ≡ binders_of line lim (kept_back lim keep (n + 1) ts) →
          along (if b then line_turns (line n) n t (lim n) (lines_kept line lim keep (n + 1) ts) else lines_kept line lim keep (n + 1) ts)
          ≡ binders_of line lim (if b then kept_back lim keep (n + 1) ts ++ item_of n t ∷ [] else kept_back lim keep (n + 1) ts)
      of true h =
          line_along (line n) n t (lim n) (lines_kept line lim keep (n + 1) ts) ∙ ap (λ (bs : List Binder). bs ++ line_binders (line n) (item_of n t) (lim n)) h
          ∙ ap (λ (bs : List Binder). binders_of line lim (kept_back lim keep (n + 1) ts) ++ bs) (sym (no_more (line_binders (line n) (item_of n t) (lim n))))
          ∙ sym (binders_more (kept_back lim keep (n + 1) ts) (item_of n t ∷ []))
      of false h = h

  -- each kept one is there, and each that is there is a kept one
  pub in_kept : (n : ℕ) (ts : List Turning) (j : ℕ) (t : Turning) → slice_get ts j ≡ Some t → keep (n + j) ≡ true → In (item_of (n + j) t) (kept_back lim keep n ts)
  in_kept n [] j t at kept = absurd (cc at)
  in_kept n (u ∷ us) zero t at kept =
      let none : n + 0 ≡ n = omega arith in
      let is : u ≡ t = cc at in
      subst (λ (m : ℕ). In (item_of m t) (if keep n then kept_back lim keep (n + 1) us ++ item_of n u ∷ [] else kept_back lim keep (n + 1) us)) (sym none)
      (of (keep n) (ap keep (sym none) ∙ kept) (ap (item_of n) (sym is)))
    where
      last : (xs : List Item) (x y : Item) → x ≡ y → In x (xs ++ y ∷ [])
      last [] x y e = inl e
      last (z ∷ xs) x y e = inr (last xs x y e)

      of : (b : Bool) → b ≡ true → item_of n t ≡ item_of n u → In (item_of n t) (if b then kept_back lim keep (n + 1) us ++ item_of n u ∷ [] else kept_back lim keep (n + 1) us)
      of true e q = last (kept_back lim keep (n + 1) us) (item_of n t) (item_of n u) q
      of false e q = absurd (cc e)
  in_kept n (u ∷ us) (suc j) t at kept =
      let next : (n + 1) + j ≡ n + suc j = omega arith in
      let rest : In (item_of (n + suc j) t) (kept_back lim keep (n + 1) us) =
      subst (λ (m : ℕ). In (item_of m t) (kept_back lim keep (n + 1) us)) next (in_kept (n + 1) us j t at (ap keep next ∙ kept)) in
      of (keep n) rest
    where
      first : (xs : List Item) (x y : Item) → In x xs → In x (xs ++ y ∷ [])
      first [] x y m = absurd m
      first (z ∷ xs) x y (inl e) = inl e
      first (z ∷ xs) x y (inr m) = inr (first xs x y m)

      of : (b : Bool) → In (item_of (n + suc j) t) (kept_back lim keep (n + 1) us) → In (item_of (n + suc j) t) (if b then kept_back lim keep (n + 1) us ++ item_of n u ∷ [] else kept_back
          lim keep (n + 1) us)
      of true m = first (kept_back lim keep (n + 1) us) (item_of (n + suc j) t) (item_of n u) m
      of false m = m

  pub kept_is : (n : ℕ) (ts : List Turning) (u : Item) → In u (kept_back lim keep n ts) → (j : ℕ) × (t : Turning) × (slice_get ts j ≡ Some t) × (keep (n + j) ≡ true) × (u ≡ item_of (n + j) t)
  kept_is n ts u m =
      all_at (λ u. (j : ℕ) × (t : Turning) × (slice_get ts j ≡ Some t) × (keep (n + j) ≡ true) × (u ≡ item_of (n + j) t)) (kept_back lim keep n ts)
      (kept_all lim keep (λ u. (j : ℕ) × (t : Turning) × (slice_get ts j ≡ Some t) × (keep (n + j) ≡ true) × (u ≡ item_of (n + j) t)) n ts (λ j t at kept. (j, t, at, kept, refl))) m
    where
      all_at : (P : Item → Type 0) (us : List Item) → AllByRecursion P us → In u us → P u
      all_at P [] h k = absurd k
      all_at P (v ∷ us) h (inl e) = subst P (sym e) h.0
      all_at P (v ∷ us) h (inr k) = all_at P us h.1 k

  -- ---- each step names symbols of earlier ones

  -- the forms that the line of this symbol has are over lower ones
  abbrev pub IsLowLine : Line → ℕ → Type 0
  IsLowLine Loop s = Unit {0}
  IsLowLine (Block f z) s = IsBelow s f
  IsLowLine (Pair f z) s = IsBelow s f

  abbrev pub AreLowLines : ℕ → List Turning → Type 0
  AreLowLines n ts = (j : ℕ) (t : Turning) → slice_get ts j ≡ Some t → AllByRecursion (IsBelow (n + j)) (lim (n + j)) × IsLowLine (line (n + j)) (n + j)

  low_later : (n : ℕ) (t : Turning) (ts : List Turning) → AreLowLines n (t ∷ ts) → AreLowLines (n + 1) ts
  low_later n t ts h j u e =
      let next : n + suc j ≡ (n + 1) + j = omega arith in
      subst (λ (s : ℕ). AllByRecursion (IsBelow s) (lim s) × IsLowLine (line s) s) next (h (suc j) u e)

  low_here : (n : ℕ) (t : Turning) (ts : List Turning) → AreLowLines n (t ∷ ts) → AllByRecursion (IsBelow n) (lim n) × IsLowLine (line n) n
  low_here n t ts h = (let none : n + 0 ≡ n = omega arith in subst (λ (s : ℕ). AllByRecursion (IsBelow s) (lim s) × IsLowLine (line s) s) none (h 0 t refl))

  line_none : (l : Line) (k n : ℕ) (t : Turning) (fs : List Form) (rest : List Step) → k < n → list_any (binds k) (map binder rest) ≡ false →
      list_any (binds k) (map binder (line_turns l n t fs rest)) ≡ false
  line_none l k n t fs rest less h = of l
    where
      differs : (k == n) ≡ false
      differs = grind (arith, nat_tests, less)

      of : (l : Line) → list_any (binds k) (map binder (line_turns l n t fs rest)) ≡ false
      of Loop = λ j. differs j || h j
      of (Block f z) = λ j. differs j || h j
      of (Pair f z) = λ j. false || (differs j || h j)

  pub none_kept : (k n : ℕ) (ts : List Turning) → k < n → list_any (binds k) (map binder (lines_kept line lim keep n ts)) ≡ false
  none_kept k n [] less = refl
  none_kept k n (t ∷ ts) less = of (keep n) (none_kept k (n + 1) ts (omega (arith, less)))
    where
      of : (b : Bool) → list_any (binds k) (map binder (lines_kept line lim keep (n + 1) ts)) ≡ false →
          list_any (binds k) (map binder (if b then line_turns (line n) n t (lim n) (lines_kept line lim keep (n + 1) ts) else lines_kept line lim keep (n + 1) ts)) ≡ false
      of true h = line_none (line n) k n t (lim n) (lines_kept line lim keep (n + 1) ts) less h
      of false h = h

  -- a form over lower symbols is over none of these
  below_outer : (n : ℕ) (bs : List Binder) → ((k : ℕ) → k < n → list_any (binds k) bs ≡ false) → (f : Form) → IsBelow n f → is_outer bs f ≡ true
  below_outer n bs none f h = of f.terms h
    where
      of : (ms : List Multiple) → AllByRecursion (λ t. t.symbol < n) ms → list_all (λ t. not (list_any (binds t.symbol) bs)) ms ≡ true
      of [] k = refl
      of (m ∷ ms) k = (let here = none m.symbol k.0 in let rest = of ms k.1 in λ j. not (here j) && rest j)

  all_below : (n : ℕ) (bs : List Binder) → ((k : ℕ) → k < n → list_any (binds k) bs ≡ false) → (fs : List Form) → AllByRecursion (IsBelow n) fs → list_all (is_outer bs) fs ≡ true
  all_below n bs none [] h = refl
  all_below n bs none (f ∷ fs) h = (let here = below_outer n bs none f h.0 in let rest = all_below n bs none fs h.1 in λ j. here j && rest j)

  line_scoped : (l : Line) (n : ℕ) (t : Turning) (fs : List Form) (rest : List Step) → ((k : ℕ) → k < n + 1 → list_any (binds k) (map binder rest) ≡ false) → AllByRecursion (IsBelow n) fs →
      IsLowLine l n →
      is_scoped (map binder rest) ≡ true → is_scoped (map binder (line_turns l n t fs rest)) ≡ true
  line_scoped l n t fs rest none low own h = of l own
    where
      none_here : list_any (binds n) (map binder rest) ≡ false
      none_here = none n (omega arith)

      lower : (l : Line) (k : ℕ) → k < n → list_any (binds k) (map binder (line_turns l n t fs rest)) ≡ false
      lower l k less = line_none l k n t fs rest less (none k (omega (arith, less)))

      of : (l : Line) → IsLowLine l n → is_scoped (map binder (line_turns l n t fs rest)) ≡ true
      of Loop k = (let outer = all_below n (map binder (line_turns Loop n t fs rest)) (lower Loop) fs low in λ j. (true && (true && outer j)) && (not (none_here j) && h j))
      of (Block f z) k = (let outer = below_outer n (map binder (line_turns (Block f z) n t fs rest)) (lower (Block f z)) f k in λ j. (outer j && (true && true)) && (not (none_here j) && h j))
      of (Pair f z) k =
          let first = below_outer n (map binder (line_turns (Pair f z) n t fs rest)) (lower (Pair f z)) f k in
          let second = below_outer n (map binder (line_turns (Block f z) n t fs rest)) (lower (Block f z)) f k in
          λ j. (first j && true) && (true && ((second j && (true && true)) && (not (none_here j) && h j)))

  pub scoped_kept : (n : ℕ) (ts : List Turning) → AreLowLines n ts → is_scoped (map binder (lines_kept line lim keep n ts)) ≡ true
  scoped_kept n [] low = refl
  scoped_kept n (t ∷ ts) low = of (keep n) (scoped_kept (n + 1) ts (low_later n t ts low))
    where
      of : (b : Bool) → is_scoped (map binder (lines_kept line lim keep (n + 1) ts)) ≡ true →
          is_scoped (map binder (if b then line_turns (line n) n t (lim n) (lines_kept line lim keep (n + 1) ts) else lines_kept line lim keep (n + 1) ts)) ≡ true
      of true h =
          let here = low_here n t ts low in
          line_scoped (line n) n t (lim n) (lines_kept line lim keep (n + 1) ts) (λ k less. none_kept k (n + 1) ts less) here.0 here.1 h
      of false h = h
