-- No loop of a dimension for which some update has no pure variable is parallel.
use Rattle.std.proofs.Common.{◌≡◌, ℕ, zero, suc, ◌+◌, Bool, true, false, ◌&&◌, ◌||◌, not, List, [], ◌∷◌, ◌++◌, map, Some, Ok, Err, refl, sym, ap, ◌∙◌, subst, arith}
use Rattle.std.specs.Prelude.{◌==◌, Result, if◌then◌else◌, slice_get}
use Rattle.std.specs.List.{AllByRecursion, list_any}
use Rattle.meaning.specs.Algorithm.{Change}
use Rattle.meaning.specs.Names.{same_name, is_among}
use Rattle.soundness.proofs.Refines.{eq_refl}
use Rattle.sched.specs.declared.error.Rule.{Rule}
use Rattle.sched.specs.declared.error.Rule.TheVariants as rule
use Rattle.sched.specs.declared.schedule.Split.{Split}
use Rattle.sched.specs.declared.schedule.Tile.{Tile}
use Rattle.sched.specs.declared.placing.Loop.{Loop}
use Rattle.sched.specs.declared.placing.Mark.{Mark}
use Rattle.sched.specs.declared.placing.Mark.TheVariants as mark
use Rattle.sched.specs.Schedule.{DirectiveText, compute_root, compute_at, store_at, fold, split, tile, reorder, unroll, vectorize, parallel}
use Rattle.sched.specs.Placing.{SubjectText, PlacedText, is_known, cut, breaks_split, split_in, has_double, loops_named, filled, all_known, any_reduction, reorder_in, is_marked}
use Rattle.sched.specs.Placing.{breaks_mark, breaks_parallel, is_scattered, mark_loop, marked, mark_in, parallel_in, and_next, x_split, y_split, tile_in, applied, starting, start, all_in, is_parallel}
use Rattle.sched.specs.Subjects.{lacks, scattered_from}
use Rattle.completeness.proofs.Halves.{all_cut, all_reordered, some_placed, let_through, let_in, or_second}

module _ (f : SubjectText) where
  -- a parallel loop walks a dimension for which each update has its variable
  abbrev pub IsApart : Loop → Type 0
  IsApart l = is_parallel l ≡ true → is_scattered f l ≡ false

  abbrev AreApart : PlacedText → Type 0
  AreApart p = AllByRecursion IsApart p.loops

  split_keeps : (s : Split) (p q : PlacedText) → split_in f s p ≡ Ok q → AreApart p → AreApart q
  split_keeps s p q e h =
      let a = let_through (not (is_known f p.loops s.whole)) rule.UnknownName (if breaks_split f p s then Err rule.BadSplit else Ok (cut s p)) q e in
      let c = let_through (breaks_split f p s) rule.BadSplit (Ok (cut s p)) q a.1 in
      subst AreApart (some_placed (cut s p) q c.1)
      (all_cut s IsApart IsApart (λ l k. k) (λ l. ((λ k. absurd (cc k)), (λ k. absurd (cc k)))) p.loops h)

  reorder_keeps : (names : List (List ℕ)) (p q : PlacedText) → reorder_in f names p ≡ Ok q → AreApart p → AreApart q
  reorder_keeps names p q e h =
      let done = record p { loops = filled names (loops_named p.loops names) p.loops } in
      let a = let_through (not (all_known f p.loops names)) rule.UnknownName (if any_reduction f names || has_double names then Err rule.BadReorder else Ok done) q e in
      let c = let_through (any_reduction f names || has_double names) rule.BadReorder (Ok done) q a.1 in
      subst AreApart (some_placed done q c.1) (all_reordered IsApart p.loops names h)

  abbrev with_mark : Mark → Loop → Loop
  with_mark m l = record { name = l.name; dimension = l.dimension; within = l.within; mark = Some m }

  -- where the mark makes the loop a parallel one, that is so
  abbrev MayMark : Mark → List ℕ → Loop → Type 0
  MayMark m x l = same_name l.name x ≡ true → IsApart (with_mark m l)

  marked_loops : (m : Mark) (x : List ℕ) (ls : List Loop) → AllByRecursion (MayMark m x) ls → AllByRecursion IsApart ls → AllByRecursion IsApart (map (mark_loop m x) ls)
  marked_loops m x [] may h = tt
  marked_loops m x (l ∷ ls) may h = (of (same_name l.name x) refl, marked_loops m x ls may.1 h.1)
    where
      of : (v : Bool) → same_name l.name x ≡ v → IsApart (if v then with_mark m l else l)
      of true e = may.0 e
      of false e = h.0

  unmarked : (m : Mark) (x : List ℕ) → ((l : Loop) → is_parallel (with_mark m l) ≡ false) → (ls : List Loop) → AllByRecursion (MayMark m x) ls
  unmarked m x none [] = tt
  unmarked m x none (l ∷ ls) = ((λ same k. let clash : true ≡ false = sym k ∙ none l in absurd (cc clash)), unmarked m x none ls)

  mark_keeps : (m : Mark) (x : List ℕ) → ((l : Loop) → is_parallel (with_mark m l) ≡ false) → (p q : PlacedText) → mark_in f m x p ≡ Ok q → AreApart p → AreApart q
  mark_keeps m x none p q e h =
      let a = let_through (not (is_known f p.loops x)) rule.UnknownName (if is_among f.reductions x || breaks_mark p.loops x then Err rule.BadMark else Ok (marked m x p)) q e in
      let c = let_through (is_among f.reductions x || breaks_mark p.loops x) rule.BadMark (Ok (marked m x p)) q a.1 in
      subst AreApart (some_placed (marked m x p) q c.1) (marked_loops m x p.loops (unmarked m x none p.loops) h)

  may_parallel : (x : List ℕ) (ls : List Loop) → breaks_parallel f ls x ≡ false → AllByRecursion (MayMark mark.Parallel x) ls
  may_parallel x [] e = tt
  may_parallel x (l ∷ ls) e =
      let parts = neither (same_name l.name x && (is_marked l || is_scattered f l)) (breaks_parallel f ls x) e in
      ((λ same k. apart (same_name l.name x) (is_marked l) (is_scattered f l) same parts.0), may_parallel x ls parts.1)
    where
      neither : (b d : Bool) → (b || d) ≡ false → (b ≡ false) × (d ≡ false)
      neither true d q = absurd (cc q)
      neither false d q = (refl, q)

      apart : (b d c : Bool) → b ≡ true → (b && (d || c)) ≡ false → c ≡ false
      apart false d c q k = absurd (cc q)
      apart true true c q k = absurd (cc k)
      apart true false c q k = k

  parallel_keeps : (x : List ℕ) (p q : PlacedText) → parallel_in f x p ≡ Ok q → AreApart p → AreApart q
  parallel_keeps x p q e h =
      let test = is_among f.reductions x || not f.is_root || breaks_parallel f p.loops x in
      let a = let_through (not (is_known f p.loops x)) rule.UnknownName (if test then Err rule.BadParallel else Ok (marked mark.Parallel x p)) q e in
      let c = let_through test rule.BadParallel (Ok (marked mark.Parallel x p)) q a.1 in
      let clear = or_second (is_among f.reductions x || not f.is_root) (breaks_parallel f p.loops x) c.0 in
      subst AreApart (some_placed (marked mark.Parallel x p) q c.1) (marked_loops mark.Parallel x p.loops (may_parallel x p.loops clear) h)

  next_keeps : (o : Result PlacedText Rule) (go : PlacedText → Result PlacedText Rule) (q : PlacedText) → ((p : PlacedText) → o ≡ Ok p → AreApart p) →
      ((p : PlacedText) → go p ≡ Ok q → AreApart p → AreApart q) → and_next o go ≡ Ok q → AreApart q
  next_keeps (Ok p) go q one two e = two p e (one p refl)
  next_keeps (Err r) go q one two e = absurd (cc e)

  tile_keeps : (t : Tile) (p q : PlacedText) → tile_in f t p ≡ Ok q → AreApart p → AreApart q
  tile_keeps t p q e h =
      let names = t.x_inner ∷ t.y_inner ∷ t.x_outer ∷ t.y_outer ∷ [] in
      next_keeps (and_next (split_in f (x_split t) p) (split_in f (y_split t))) (reorder_in f names) q
      (λ a k. next_keeps (split_in f (x_split t) p) (split_in f (y_split t)) a (λ c m. split_keeps (x_split t) p c m h) (λ c m g. split_keeps (y_split t) c a m g) k)
      (λ a k g. reorder_keeps names a q k g) e

  applied_keeps : (d : DirectiveText) (p q : PlacedText) → applied f d p ≡ Ok q → AreApart p → AreApart q
  applied_keeps compute_root p q e h = subst AreApart (some_placed p q e) h
  applied_keeps (compute_at k) p q e h = subst AreApart (let_in (is_among f.functions k.function) rule.UnknownName (record p { homes = p.homes ++ k ∷ [] }) q e) h
  applied_keeps (store_at k) p q e h = subst AreApart (let_in (is_among f.functions k.function) rule.UnknownName (record p { stores = p.stores ++ k ∷ [] }) q e) h
  applied_keeps (fold k) p q e h = subst AreApart (let_in (is_among f.variables k.dimension) rule.UnknownName (record p { folds = p.folds ++ k ∷ [] }) q e) h
  applied_keeps (split s) p q e h = split_keeps s p q e h
  applied_keeps (tile t) p q e h = tile_keeps t p q e h
  applied_keeps (reorder names) p q e h = reorder_keeps names p q e h
  applied_keeps (unroll x) p q e h = mark_keeps mark.Unrolled x (λ l. refl) p q e h
  applied_keeps (vectorize x) p q e h = mark_keeps mark.Vectorized x (λ l. refl) p q e h
  applied_keeps (parallel x) p q e h = parallel_keeps x p q e h

  directives_keep : (ds : List DirectiveText) (p q : PlacedText) → all_in f ds p ≡ Ok q → AreApart p → AreApart q
  directives_keep [] p q e h = subst AreApart (some_placed p q e) h
  directives_keep (d ∷ ds) p q e h = next_keeps (applied f d p) (all_in f ds) q (λ a k. applied_keeps d p a k h) (λ a k g. directives_keep ds a q k g) e

  starts : (d : ℕ) (xs : List (List ℕ)) → AllByRecursion IsApart (starting d xs)
  starts d [] = tt
  starts d (x ∷ xs) = ((λ k. absurd (cc k)), starts (d + 1) xs)

  -- so it is behind the directives
  pub apart : (ds : List DirectiveText) (p : PlacedText) → all_in f ds (start f) ≡ Ok p → AllByRecursion IsApart p.loops
  apart ds p e = directives_keep ds (start f) p e (starts 0 f.variables)

-- ---- dimensions

any_at : {A : Type 0} (p : A → Bool) (xs : List A) (i : ℕ) (x : A) → slice_get xs i ≡ Some x → p x ≡ true → list_any p xs ≡ true
any_at p [] i x at h = absurd (cc at)
any_at p (y ∷ xs) zero x at h = (let is : y ≡ x = cc at in ap (λ (b : Bool). b || list_any p xs) (ap p is ∙ h))
any_at p (y ∷ xs) (suc i) x at h = of (p y) (any_at p xs i x at h)
  where
    of : (b : Bool) → list_any p xs ≡ true → (b || list_any p xs) ≡ true
    of true e = refl
    of false e = e

-- the dimension at which an update lacks its variable is among them
pub scattered_there : (us : List Change) (d : ℕ) (xs : List (List ℕ)) (j : ℕ) (x : List ℕ) → slice_get xs j ≡ Some x → (i : ℕ) (u : Change) → slice_get us i ≡ Some u → lacks x (d + j) u ≡ true →
    list_any (λ e. e == d + j) (scattered_from us d xs) ≡ true
scattered_there us d [] j x at i u stands lacking = absurd (cc at)
scattered_there us d (y ∷ xs) zero x at i u stands lacking =
    let none : d + 0 ≡ d = omega arith in
    let is : y ≡ x = cc at in
    let there : list_any (lacks y d) us ≡ true = any_at (lacks y d) us i u stands ((λ k. lacks (is k) (sym none k) u) ∙ lacking) in
    let here : (d == d + 0) ≡ true = ap (λ (m : ℕ). d == m) none ∙ eq_refl d in
    ap (λ (b : Bool). list_any (λ e. e == d + 0) (if b then d ∷ scattered_from us (d + 1) xs else scattered_from us (d + 1) xs)) there
    ∙ ap (λ (b : Bool). b || list_any (λ e. e == d + 0) (scattered_from us (d + 1) xs)) here
scattered_there us d (y ∷ xs) (suc j) x at i u stands lacking =
    let next : (d + 1) + j ≡ d + suc j = omega arith in
    let rest = scattered_there us (d + 1) xs j x at i u stands (ap (λ (m : ℕ). lacks x m u) next ∙ lacking) in
    of (list_any (lacks y d) us) (ap (λ (m : ℕ). list_any (λ e. e == m) (scattered_from us (d + 1) xs)) (sym next) ∙ rest)
  where
    either : (b c : Bool) → c ≡ true → (b || c) ≡ true
    either true c e = refl
    either false c e = e

    of : (b : Bool) → list_any (λ e. e == d + suc j) (scattered_from us (d + 1) xs) ≡ true →
        list_any (λ e. e == d + suc j) (if b then d ∷ scattered_from us (d + 1) xs else scattered_from us (d + 1) xs) ≡ true
    of true e = either (d == d + suc j) (list_any (λ e. e == d + suc j) (scattered_from us (d + 1) xs)) e
    of false e = e
