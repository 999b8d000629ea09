-- What is named before the nests of a function, part by part.
use Rattle.std.proofs.Common.{◌≡◌, ℕ, zero, suc, ◌-◌, ◌<◌, ◌≤◌, Bool, List, [], ◌∷◌, ◌++◌, Option, Some, None, Result, Err, sym, ap, subst, ◌∙◌, arith}
use Rattle.std.specs.Prelude.{ℤ, pos, neg_ℤ, slice_get}
use Rattle.std.specs.Option.{is_some}
use Rattle.std.specs.Int.{saturate_signed, w64}
use Rattle.lin.specs.Forms.{Form, number, combined}
use Rattle.lin.specs.declared.scope.Binding.{Binding}
use Rattle.lin.specs.declared.span.Span1.{Span1}
use Rattle.sched.specs.declared.schedule.Split.{Split}
use Rattle.sched.specs.declared.skeleton.Step.{Step}
use Rattle.sched.specs.Standing.{◌>>=◌}
use Rattle.blocks.specs.declared.counting.Blocks.{Blocks}
use Rattle.sched.specs.declared.ends.Reach.{Reach}
use Rattle.sched.specs.declared.stop.Stop.{Stop}
use Rattle.sched.specs.declared.stop.Stop.TheVariants.{Memory, Limit}
use Rattle.sched.specs.Limited.{Gives, Tells}
use Rattle.blocks.specs.Parted.{counted_at, reach_at}
use Rattle.blocks.specs.Rounded.{NamesText, RestsText, next_name, none_below, rests_from, count, count_all}

-- ---- what splits run over

pub reach_in : {X : Type 0} (r : Result X Stop) (f : X → Option Reach × List Step) (scope : List Binding) (cs : List Split) (bs : List (Option Blocks)) (kept : List Span1) (d : ℕ) (x : List ℕ)
    (s : Span1) (lets : List Step) (b : Bool) (k : Option Span1) → b ≡ is_some (counted_at bs d) → k ≡ slice_get kept d → Gives r f (reach_at scope cs b x s k lets)
    → Gives r f (reach_at scope cs (is_some (counted_at bs d)) x s (slice_get kept d) lets)
reach_in r f scope cs bs kept d x s lets b k told at h =
    subst (λ (q : Bool). Gives r f (reach_at scope cs q x s (slice_get kept d) lets)) told (subst (λ (q : Option Span1). Gives r f (reach_at scope cs b x s q lets)) at h)

-- ---- rests

module _ (k : ℤ) (left : Form) (firsts : List Form) (n : NamesText) where
  pub rests_last : (c : ℕ) (g : Form) (m : NamesText) → c < 1 → g ≡ next_name n → m ≡ none_below left n
      → rests_from k c left firsts n ≡ Some (record { firsts = firsts; last = g; names = m })
  rests_last zero g m h last named = λ j. Some (record { firsts = firsts; last = sym last j; names = sym named j })
  rests_last (suc c) g m h last named = absurd (omega (arith, h))

  step : (c d : ℕ) (z : ℤ) (g next : Form) (fs : List Form) (m : NamesText) → c ≡ suc d → z ≡ saturate_signed w64 (neg_ℤ k) → g ≡ next_name n
      → combined (number z) (pos 1) g ≡ Some next → fs ≡ firsts ++ g ∷ [] → m ≡ none_below left n → rests_from k d next fs m ≡ rests_from k c left firsts n
  step c d z g next fs m more by last told put named =
      (λ j. rests_from k d next (put j) (named j))
      ∙ (λ j. rests_from k d next (firsts ++ last j ∷ []) (none_below left n))
      ∙ ap (λ (o : Option Form). o >>= λ rest. rests_from k d rest (firsts ++ next_name n ∷ []) (none_below left n))
      (sym told ∙ (λ j. combined (number (by j)) (pos 1) (last j)))
      ∙ ap (λ (b : ℕ). rests_from k b left firsts n) (sym more)

  one_less : (c d : ℕ) → 1 ≤ c → d ≡ c - 1 → c ≡ suc d
  one_less c d le is = omega (arith, le, is)

  pub rests_more : (c d : ℕ) (z : ℤ) (g next : Form) (fs : List Form) (m : NamesText) (o : Option RestsText) → rests_from k d next fs m ≡ o → m ≡ none_below left n
      → fs ≡ firsts ++ g ∷ [] → combined (number z) (pos 1) g ≡ Some next → z ≡ saturate_signed w64 (neg_ℤ k) → g ≡ next_name n → 1 ≤ c → d ≡ c - 1
      → rests_from k c left firsts n ≡ o
  rests_more c d z g next fs m o is named put told by last le less = sym (step c d z g next fs m (one_less c d le less) by last told put named) ∙ is

  pub rests_none : {X Y : Type 0} (s : Stop) (f : X → RestsText) (seen : Y → RestsText) (c d : ℕ) (z : ℤ) (g next : Form) (fs : List Form) (m : NamesText)
      → Gives (Err s) f (rests_from k d next fs m) → m ≡ none_below left n → fs ≡ firsts ++ g ∷ [] → combined (number z) (pos 1) g ≡ Some next
      → z ≡ saturate_signed w64 (neg_ℤ k) → g ≡ next_name n → 1 ≤ c → d ≡ c - 1 → Gives (Err s) seen (rests_from k c left firsts n)
  rests_none Memory f seen c d z g next fs m is named put told by last le less = tt
  rests_none Limit f seen c d z g next fs m is named put told by last le less = rests_more c d z g next fs m None is named put told by last le less

  none_next : (c d : ℕ) (z : ℤ) (g : Form) → c ≡ suc d → z ≡ saturate_signed w64 (neg_ℤ k) → g ≡ next_name n → combined (number z) (pos 1) g ≡ None
      → rests_from k c left firsts n ≡ None
  none_next c d z g more by last none =
      ap (λ (b : ℕ). rests_from k b left firsts n) more
      ∙ ap (λ (o : Option Form). o >>= λ rest. rests_from k d rest (firsts ++ next_name n ∷ []) (none_below left n))
      ((λ j. combined (number (sym by j)) (pos 1) (sym last j)) ∙ none)

  pub rests_stop : {X : Type 0} (s : Stop) (seen : X → RestsText) (c d : ℕ) (z : ℤ) (g : Form) → Gives (Err s) (λ (x : Form). x) (combined (number z) (pos 1) g)
      → z ≡ saturate_signed w64 (neg_ℤ k) → g ≡ next_name n → 1 ≤ c → d ≡ c - 1 → Gives (Err s) seen (rests_from k c left firsts n)
  rests_stop Memory seen c d z g h by last le less = tt
  rests_stop Limit seen c d z g h by last le less = none_next c d z g (one_less c d le less) by last h

-- ---- blocks

pub count_next : {X : Type 0} (r : Result X Stop) (made : Blocks × NamesText) (low : Form) (k q p : ℤ) (c : ℕ) (f : Form) (fs all : List Form) (b a : Blocks) (n m : NamesText)
    → q ≡ k → p ≡ k → all ≡ f ∷ fs → count low q c f b n ≡ Some (a, m) → Tells r made (count_all low p c fs a m) → Tells r made (count_all low k c all b n)
count_next r made low k q p c f fs all b a n m same too are one is =
    let first : count low k c f b n ≡ Some (a, m) = ap (λ (x : ℤ). count low x c f b n) (sym same) ∙ one in
    let rest : Tells r made (count_all low k c fs a m) = subst (λ (x : ℤ). Tells r made (count_all low x c fs a m)) too is in
    subst (λ (l : List Form). Tells r made (count_all low k c l b n)) (sym are)
    (subst (λ (o : Option (Blocks × NamesText)). Tells r made (o >>= λ s. count_all low k c fs s.0 s.1)) (sym first) rest)
