-- The loops of a function whose loops are split once: which names splits make, which loop is of which variable, and which loops are over the grid.
use Rattle.std.proofs.Common.{◌≡◌, ℕ, ◌+◌, ◌≤◌, Bool, true, false, ◌&&◌, ◌||◌, List, [], ◌∷◌, ◌++◌, refl, sym, ap, ◌∙◌, subst, inl, inr, ◌⊎◌, arith}
use Rattle.std.specs.Prelude.{if◌then◌else◌, reverse, ◌==◌}
use Rattle.std.specs.List.{list_any}
use Rattle.meaning.specs.Names.{same_name, is_among}
use Rattle.soundness.specs.Claims.{In}
use Rattle.soundness.proofs.Refines.{name_refl, name_true}
use Rattle.sched.specs.declared.schedule.Split.{Split}
use Rattle.sched.specs.declared.placing.Loop.{Loop}
use Rattle.sched.specs.Numbers.{parallel_loops}
use Rattle.sched.specs.Placing.{is_parallel}
use Rattle.sched.specs.Standing.{cuts_of, cuts_by_variable}
use Rattle.sched.specs.Skeleton.{BodyText, kept_from}
use Rattle.sched.proofs.Leading.{in_left, in_right}
use Rattle.sched.proofs.Rooting.{IsHeld, AreHeld, among_left, among_first}
use Rattle.sched.proofs.Visiting.{in_reverse}
use Rattle.lower.proofs.Directed.{AreMade, BothBy, IsEnd}
use Rattle.completeness.specs.Parted.{KeepsInner}
use Rattle.completeness.proofs.Lanes.{AreOnce}
use Rattle.completeness.proofs.PlainTurns.{one_if, hits, hits_some}
use Rattle.completeness.proofs.PureNests.{loop_name}
use Rattle.completeness.proofs.UpdateTurns.{hits_fewer}

-- ---- names

in_names : (names : List (List ℕ)) (y : List ℕ) → is_among names y ≡ true → In y names
in_names [] y e = absurd (cc e)
in_names (x ∷ names) y e = of (same_name x y) refl e (λ k. in_names names y k)
  where
    of : (b : Bool) → same_name x y ≡ b → (b || is_among names y) ≡ true → (is_among names y ≡ true → In y names) → In y (x ∷ names)
    of true q k rest = inl (sym (name_true x y q))
    of false q k rest = inr (rest k)

pub names_in : (names : List (List ℕ)) (y : List ℕ) → In y names → is_among names y ≡ true
names_in [] y m = absurd m
names_in (x ∷ names) y (inl e) = ap (λ (b : Bool). b || is_among names y) (ap (same_name x) e ∙ name_refl x)
names_in (x ∷ names) y (inr m) = of (same_name x y) (names_in names y m)
  where
    of : (b : Bool) → is_among names y ≡ true → (b || is_among names y) ≡ true
    of true e = refl
    of false e = e

-- ---- what splits make

-- a name that is used is none that a split makes
pub made_new : (cs : List Split) (names used : List (List ℕ)) → AreMade names used cs → (y : List ℕ) → is_among used y ≡ true → (c : Split) → In c cs → (y ≡ c.outer → ⊥) × (y ≡ c.inner → ⊥)
made_new [] names used h y there c m = absurd m
made_new (b ∷ cs) names used h y there c (inl e) = (
  (λ q. (let clash : true ≡ false = sym there ∙ ap (is_among used) (q ∙ ap (λ (d : Split). d.outer) e) ∙ h.1 in cc clash)),
  (λ q. (let clash : true ≡ false = sym there ∙ ap (is_among used) (q ∙ ap (λ (d : Split). d.inner) e) ∙ h.2 in cc clash)),
)
made_new (b ∷ cs) names used h y there c (inr m) =
    made_new cs (names ++ b.outer ∷ b.inner ∷ []) (used ++ b.outer ∷ b.inner ∷ []) h.5 y (among_left used (b.outer ∷ b.inner ∷ []) y there) c m

pub halves_new : (cs : List Split) (xs more : List (List ℕ)) → AreMade xs (xs ++ more) cs → (c : Split) → In c cs → (x : List ℕ) → In x xs → (x ≡ c.outer → ⊥) × (x ≡ c.inner → ⊥)
halves_new cs xs more h c m x k = made_new cs xs (xs ++ more) h x (among_left xs more x (names_in xs x k)) c m

pub among_end : (xs ys : List (List ℕ)) (y : List ℕ) → is_among ys y ≡ true → is_among (xs ++ ys) y ≡ true
among_end [] ys y e = e
among_end (x ∷ xs) ys y e = of (same_name x y) (among_end xs ys y e)
  where
    of : (b : Bool) → is_among (xs ++ ys) y ≡ true → (b || is_among (xs ++ ys) y) ≡ true
    of true k = refl
    of false k = k

-- no two make the same outer loop
pub outers_apart : (cs : List Split) (names used : List (List ℕ)) → AreMade names used cs → (c d : Split) → In c cs → In d cs → c.outer ≡ d.outer → c ≡ d
outers_apart [] names used h c d m k e = absurd m
outers_apart (b ∷ cs) names used h c d (inl p) (inl q) e = p ∙ sym q
outers_apart (b ∷ cs) names used h c d (inl p) (inr k) e =
    absurd ((made_new cs (names ++ b.outer ∷ b.inner ∷ []) (used ++ b.outer ∷ b.inner ∷ []) h.5 b.outer
    (among_end used (b.outer ∷ b.inner ∷ []) b.outer (among_first b.outer (b.inner ∷ []))) d k).0 (ap (λ (x : Split). x.outer) (sym p) ∙ e))
outers_apart (b ∷ cs) names used h c d (inr m) (inl q) e =
    absurd ((made_new cs (names ++ b.outer ∷ b.inner ∷ []) (used ++ b.outer ∷ b.inner ∷ []) h.5 b.outer
    (among_end used (b.outer ∷ b.inner ∷ []) b.outer (among_first b.outer (b.inner ∷ []))) c m).0 (ap (λ (x : Split). x.outer) (sym q) ∙ sym e))
outers_apart (b ∷ cs) names used h c d (inr m) (inr k) e = outers_apart cs (names ++ b.outer ∷ b.inner ∷ []) (used ++ b.outer ∷ b.inner ∷ []) h.5 c d m k e

-- what is split is a variable's loop, where no loop that a split makes is split again
module _ (cuts : List Split) (once : AreOnce cuts) (xs : List (List ℕ)) where
  abbrev Whence : List ℕ → Type 0
  Whence y = In y xs ⊎ ((d : Split) × In d cuts × ((y ≡ d.outer) ⊎ (y ≡ d.inner)))

  whole_from : (cs : List Split) → ((d : Split) → In d cs → In d cuts) → (names used : List (List ℕ)) → ((y : List ℕ) → In y names → Whence y) → AreMade names used cs →
      (c : Split) → In c cs → In c.whole xs
  whole_from [] sub names used from h c m = absurd m
  whole_from (b ∷ cs) sub names used from h c (inl e) = subst (λ (d : Split). In d.whole xs) (sym e) (of (from b.whole (in_names names b.whole h.0)))
    where
      of : Whence b.whole → In b.whole xs
      of (inl k) = k
      of (inr (d, k, inl q)) = absurd ((once b d (sub b (inl refl)) k).0 q)
      of (inr (d, k, inr q)) = absurd ((once b d (sub b (inl refl)) k).1 q)
  whole_from (b ∷ cs) sub names used from h c (inr m) =
      whole_from cs (λ d k. sub d (inr k)) (names ++ b.outer ∷ b.inner ∷ []) (used ++ b.outer ∷ b.inner ∷ []) (more names from) h.5 c m
    where
      more : (names : List (List ℕ)) → ((y : List ℕ) → In y names → Whence y) → (y : List ℕ) → In y (names ++ b.outer ∷ b.inner ∷ []) → Whence y
      more [] f y (inl e) = inr (b, sub b (inl refl), inl e)
      more [] f y (inr (inl e)) = inr (b, sub b (inl refl), inr e)
      more [] f y (inr (inr k)) = absurd k
      more (x ∷ names) f y (inl e) = f y (inl e)
      more (x ∷ names) f y (inr k) = more names (λ z q. f z (inr q)) y k

  pub wholes_are : (used : List (List ℕ)) → AreMade xs used cuts → (c : Split) → In c cuts → In c.whole xs
  wholes_are used h c m = whole_from cuts (λ d k. k) xs used (λ y k. inl k) h c m

  -- a loop is a variable's, or a split makes it
  end_same : (cs : List Split) (x y : List ℕ) → ((d : Split) → In d cs → d.whole ≡ x → ⊥) → IsEnd cs x y → x ≡ y
  end_same [] x y none h = h
  end_same (c ∷ cs) x y none h = of (same_name c.whole x) refl h (λ k. end_same cs x y (λ d m. none d (inr m)) k)
    where
      of : (b : Bool) → same_name c.whole x ≡ b → BothBy b (IsEnd cs c.outer y ⊎ IsEnd cs c.inner y) (IsEnd cs x y) → (IsEnd cs x y → x ≡ y) → x ≡ y
      of true e k rest = absurd (none c (inl refl) (name_true c.whole x e))
      of false e k rest = rest k

  pub end_leaf : (cs : List Split) → ((d : Split) → In d cs → In d cuts) → (x y : List ℕ) → In x xs → IsEnd cs x y → In y xs ⊎ ((c : Split) × In c cuts × ((y ≡ c.outer) ⊎ (y ≡ c.inner)))
  end_leaf [] sub x y m h = inl (subst (λ (z : List ℕ). In z xs) h m)
  end_leaf (c ∷ cs) sub x y m h = of (same_name c.whole x) h (λ k. end_leaf cs (λ d q. sub d (inr q)) x y m k)
    where
      mine : In c cuts
      mine = sub c (inl refl)

      of : (b : Bool) → BothBy b (IsEnd cs c.outer y ⊎ IsEnd cs c.inner y) (IsEnd cs x y) →
          (IsEnd cs x y → In y xs ⊎ ((c : Split) × In c cuts × ((y ≡ c.outer) ⊎ (y ≡ c.inner)))) → In y xs ⊎ ((c : Split) × In c cuts × ((y ≡ c.outer) ⊎ (y ≡ c.inner)))
      of true (inl k) rest = inr (c, mine, inl (sym (end_same cs c.outer y (λ d q. (once d c (sub d (inr q)) mine).0) k)))
      of true (inr k) rest = inr (c, mine, inr (sym (end_same cs c.inner y (λ d q. (once d c (sub d (inr q)) mine).1) k)))
      of false k rest = rest k

-- the loops that a split makes are there, where none is split again
pub loops_held : (cuts : List Split) (once : AreOnce cuts) (ls : List Loop) (cs : List Split) → ((d : Split) → In d cs → In d cuts) → AreHeld ls cs → (c : Split) → In c cs →
    ((l : Loop) × In l ls × (l.name ≡ c.outer)) × ((l : Loop) × In l ls × (l.name ≡ c.inner))
loops_held cuts once ls [] sub h c m = absurd m
loops_held cuts once ls (b ∷ cs) sub h c (inl e) =
    subst (λ (d : Split). ((l : Loop) × In l ls × (l.name ≡ d.outer)) × ((l : Loop) × In l ls × (l.name ≡ d.inner))) (sym e) (one h.0, two h.1)
  where
    one : IsHeld ls cs b.outer → (l : Loop) × In l ls × (l.name ≡ b.outer)
    one (inl k) = k
    one (inr (d, k, q)) = absurd ((once d b (sub d (inr k)) (sub b (inl refl))).0 q)

    two : IsHeld ls cs b.inner → (l : Loop) × In l ls × (l.name ≡ b.inner)
    two (inl k) = k
    two (inr (d, k, q)) = absurd ((once d b (sub d (inr k)) (sub b (inl refl))).1 q)
loops_held cuts once ls (b ∷ cs) sub h c (inr m) = loops_held cuts once ls cs (λ d k. sub d (inr k)) h.2 c m

-- a split of a variable is among those of the variables
in_cuts : (c : Split) (cs : List Split) (names : List (List ℕ)) → In c cs → is_among names c.whole ≡ true → In c (cuts_of cs names)
in_cuts c [] names m e = absurd m
in_cuts c (b ∷ cs) names m e =
    of (is_among names b.whole) refl m (λ k. in_cuts c cs (names ++ b.outer ∷ b.inner ∷ []) k (among_left names (b.outer ∷ b.inner ∷ []) c.whole e)) (λ k. in_cuts c cs names k e)
  where
    of : (v : Bool) → is_among names b.whole ≡ v → In c (b ∷ cs) → (In c cs → In c (cuts_of cs (names ++ b.outer ∷ b.inner ∷ []))) → (In c cs → In c (cuts_of cs names)) →
        In c (if v then b ∷ cuts_of cs (names ++ b.outer ∷ b.inner ∷ []) else cuts_of cs names)
    of true q (inl s) one two = inl s
    of true q (inr k) one two = inr (one k)
    of false q (inl s) one two = (let clash : true ≡ false = sym e ∙ ap (λ (d : Split). is_among names d.whole) s ∙ q in absurd (cc clash))
    of false q (inr k) one two = two k

pub in_all_cuts : (c : Split) (cs : List Split) (ys : List (List ℕ)) → In c cs → In c.whole ys → In c (cuts_by_variable cs ys)
in_all_cuts c cs [] m k = absurd k
in_all_cuts c cs (y ∷ ys) m (inl e) =
    in_left c (reverse (cuts_of cs (y ∷ []))) (cuts_by_variable cs ys) (in_reverse c (cuts_of cs (y ∷ [])) (in_cuts c cs (y ∷ []) m (names_in (y ∷ []) c.whole (inl e))))
in_all_cuts c cs (y ∷ ys) m (inr k) = in_right c (reverse (cuts_of cs (y ∷ []))) (cuts_by_variable cs ys) (in_all_cuts c cs ys m k)

pub all_kept : (b : BodyText) → b.missing ≡ [] → (d : ℕ) (ys : List (List ℕ)) → kept_from b d ys ≡ ys
all_kept b none d [] = refl
all_kept b none d (y ∷ ys) =
    ap (λ (v : Bool). if v then kept_from b (d + 1) ys else y ∷ kept_from b (d + 1) ys) (ap (λ (es : List ℕ). list_any (λ e. e == d) es) none)
    ∙ ap (λ (zs : List (List ℕ)). y ∷ zs) (all_kept b none (d + 1) ys)

-- ---- loops over the grid

hits_found : (y : List ℕ) (ls : List Loop) → 1 ≤ hits loop_name y ls → (l : Loop) × In l ls × (l.name ≡ y)
hits_found y [] h = absurd (omega (arith, h))
hits_found y (l ∷ ls) h = of (same_name l.name y) refl h (λ k. hits_found y ls k)
  where
    of : (b : Bool) → same_name l.name y ≡ b → 1 ≤ one_if b + hits loop_name y ls → (1 ≤ hits loop_name y ls → (m : Loop) × In m ls × (m.name ≡ y)) → (m : Loop) × In m (l ∷ ls) × (m.name ≡ y)
    of true e k rest = (l, inl refl, name_true l.name y e)
    of false e k rest = (let r = rest (omega (arith, k)) in (r.0, inr r.1, r.2))

pub parallel_found : (y : List ℕ) (ls : List Loop) → 1 ≤ hits loop_name y (parallel_loops ls) → (l : Loop) × In l ls × (l.name ≡ y)
parallel_found y ls h = (let fewer = hits_fewer is_parallel y ls in hits_found y ls (omega (arith, h, fewer)))

-- a loop that is not parallel has not the name of one that is
pub serial_none : (l : Loop) (ls : List Loop) → In l ls → is_parallel l ≡ false → hits loop_name l.name ls ≤ 1 → hits loop_name l.name (parallel_loops ls) ≡ 0
serial_none l [] m e few = absurd m
serial_none l (o ∷ ls) (inl s) e few =
    let here : is_parallel o ≡ false = ap is_parallel (sym s) ∙ e in
    let named : one_if (same_name o.name l.name) ≡ 1 = ap one_if (ap (λ (x : Loop). same_name o.name x.name) s ∙ name_refl o.name) in
    let fewer = hits_fewer is_parallel l.name ls in
    ap (λ (b : Bool). hits loop_name l.name (if b then o ∷ parallel_loops ls else parallel_loops ls)) here ∙ omega (arith, few, named, fewer)
serial_none l (o ∷ ls) (inr m) e few =
    let some = hits_some loop_name l ls m in
    let none : one_if (same_name o.name l.name) ≡ 0 = omega (arith, few, some) in
    let rest = serial_none l ls m e (omega (arith, few)) in
    of (is_parallel o) none rest
  where
    of : (b : Bool) → one_if (same_name o.name l.name) ≡ 0 → hits loop_name l.name (parallel_loops ls) ≡ 0 → hits loop_name l.name (if b then o ∷ parallel_loops ls else parallel_loops ls) ≡ 0
    of true none rest = omega (arith, none, rest)
    of false none rest = rest

pub parallel_some : (l : Loop) (ls : List Loop) → In l ls → is_parallel l ≡ true → 1 ≤ hits loop_name l.name (parallel_loops ls)
parallel_some l [] m e = absurd m
parallel_some l (o ∷ ls) (inl s) e =
    let here : is_parallel o ≡ true = ap is_parallel (sym s) ∙ e in
    let named : one_if (same_name o.name l.name) ≡ 1 = ap one_if (ap (λ (x : Loop). same_name o.name x.name) s ∙ name_refl o.name) in
    subst (λ (b : Bool). 1 ≤ hits loop_name l.name (if b then o ∷ parallel_loops ls else parallel_loops ls)) (sym here) (omega (arith, named))
parallel_some l (o ∷ ls) (inr m) e = of (is_parallel o) (parallel_some l ls m e)
  where
    of : (b : Bool) → 1 ≤ hits loop_name l.name (parallel_loops ls) → 1 ≤ hits loop_name l.name (if b then o ∷ parallel_loops ls else parallel_loops ls)
    of true rest = omega (arith, rest)
    of false rest = rest

-- no inner loop of a split is parallel
inner_serial : (ls : List Loop) (y : List ℕ) → list_any (λ l. is_parallel l && same_name l.name y) ls ≡ false → hits loop_name y (parallel_loops ls) ≡ 0
inner_serial [] y e = refl
inner_serial (l ∷ ls) y e = of (is_parallel l) (same_name l.name y) refl e (λ k. inner_serial ls y k)
  where
    of : (a b : Bool) → same_name l.name y ≡ b → ((a && b) || list_any (λ l. is_parallel l && same_name l.name y) ls) ≡ false →
        (list_any (λ l. is_parallel l && same_name l.name y) ls ≡ false → hits loop_name y (parallel_loops ls) ≡ 0) → hits loop_name y (if a then l ∷ parallel_loops ls else parallel_loops ls) ≡ 0
    of true true q k rest = absurd (cc k)
    of true false q k rest = (let named = ap one_if q in let more = rest k in omega (arith, named, more))
    of false b q k rest = rest k

pub inners_serial : (ls : List Loop) (cs : List Split) → KeepsInner ls cs → (c : Split) → In c cs → hits loop_name c.inner (parallel_loops ls) ≡ 0
inners_serial ls [] h c m = absurd m
inners_serial ls (b ∷ cs) h c (inl e) = subst (λ (d : Split). hits loop_name d.inner (parallel_loops ls) ≡ 0) (sym e) (inner_serial ls b.inner h.0)
inners_serial ls (b ∷ cs) h c (inr m) = inners_serial ls cs h.2 c m
