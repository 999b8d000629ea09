-- The loops that splits make have names of their own, and a vectorised loop is the inner one of a split.
use Rattle.std.proofs.Common.{◌≡◌, ℕ, ◌+◌, ◌≤◌, Bool, true, false, ◌&&◌, ◌||◌, not, List, [], ◌∷◌, ◌++◌, map, Option, Some, None, Ok, Err, refl, sym, ap, ◌∙◌, subst, inl, inr, ◌⊎◌, arith}
use Rattle.std.specs.Prelude.{◌==◌, Result, if◌then◌else◌, nat_le, nat_lt}
use Rattle.std.specs.List.{AllByRecursion, flat_map}
use Rattle.std.proofs.lemmas.Bool.Decides.{nat_tests}
use Rattle.lin.proofs.TermLemmas.{all_weaker}
use Rattle.meaning.specs.Names.{same_name, is_among}
use Rattle.meaning.proofs.Cases.{name_same}
use Rattle.sched.specs.declared.error.Rule.{Rule}
use Rattle.sched.specs.declared.error.Rule.TheVariants as rule
use Rattle.sched.specs.declared.schedule.Split.{Split}
use Rattle.sched.specs.declared.schedule.Tile.{Tile}
use Rattle.sched.specs.declared.placing.Loop.{Loop}
use Rattle.sched.specs.declared.placing.Mark.{Mark}
use Rattle.sched.specs.declared.placing.Mark.TheVariants as mark
use Rattle.sched.specs.Schedule.{DirectiveText, compute_root, compute_at, store_at, fold, split, tile, reorder, unroll, vectorize, parallel}
use Rattle.sched.specs.Placing.{SubjectText, PlacedText, has_loop, is_known, cut_loop, cut, breaks_split, split_in, has_double, loop_named, with_next, loops_named, or_next, filled, all_known}
use Rattle.sched.specs.Placing.{any_reduction, reorder_in, is_marked, is_short, breaks_mark, breaks_parallel, mark_loop, marked, mark_in, parallel_in, and_next, x_split, y_split, tile_in}
use Rattle.sched.specs.Placing.{applied, starting, start, all_in, is_vectorized}
use Rattle.sched.proofs.Leading.{In, in_left, in_right}
use Rattle.sched.proofs.Rooting.{all_both, all_at, among_left, among_right, among_first, among_second}
use Rattle.sched.proofs.Numbering.{apart_names}
use Rattle.sched.proofs.Arranging.{loop_at}

-- ---- names of splits

-- one of the splits has this inner loop
abbrev pub IsInner : List Split → List ℕ → Type 0
IsInner cs x = (c : Split) × In c cs × (c.inner ≡ x)

-- the two are splits of two loops, and no inner loop of the one is a loop that the other makes
pub record IsOther (c d : Split) : Type 0 where
  pub whole : c.whole ≡ d.whole → ⊥
  pub inner : c.inner ≡ d.inner → ⊥
  pub outer : c.outer ≡ d.inner → ⊥
  pub inside : c.inner ≡ d.outer → ⊥

abbrev pub AreOthers : List Split → Type 0
AreOthers [] = Unit {0}
AreOthers (c ∷ cs) = (c.inner ≡ c.outer → ⊥) × AllByRecursion (IsOther c) cs × AreOthers cs

others_last : (cs : List Split) (s : Split) → AreOthers cs → AllByRecursion (λ c. IsOther c s) cs → (s.inner ≡ s.outer → ⊥) → AreOthers (cs ++ s ∷ [])
others_last [] s h k own = (own, tt, tt)
others_last (c ∷ cs) s h k own = (h.0, all_both (IsOther c) cs (s ∷ []) h.1 (k.0, tt), others_last cs s h.2 k.1 own)

-- two of them are the same, or others
pub same_or_other : (cs : List Split) → AreOthers cs → (c d : Split) → In c cs → In d cs → (c ≡ d) ⊎ (IsOther c d ⊎ IsOther d c)
same_or_other [] h c d m n = absurd m
same_or_other (e ∷ cs) h c d (inl p) (inl q) = inl (p ∙ sym q)
same_or_other (e ∷ cs) h c d (inl p) (inr n) = inr (inl (subst (λ (x : Split). IsOther x d) (sym p) (all_at (IsOther e) cs d h.1 n)))
same_or_other (e ∷ cs) h c d (inr m) (inl q) = inr (inr (subst (λ (x : Split). IsOther x c) (sym q) (all_at (IsOther e) cs c h.1 m)))
same_or_other (e ∷ cs) h c d (inr m) (inr n) = same_or_other cs h.2 c d m n

own_inner : (cs : List Split) → AreOthers cs → (c : Split) → In c cs → c.inner ≡ c.outer → ⊥
own_inner [] h c m = absurd m
own_inner (e ∷ cs) h c (inl p) = subst (λ (x : Split). x.inner ≡ x.outer → ⊥) (sym p) h.0
own_inner (e ∷ cs) h c (inr m) = own_inner cs h.2 c m

module _ (cs : List Split) (h : AreOthers cs) (c d : Split) (m : In c cs) (n : In d cs) where
  -- splits of one loop are the same, and so are those with one inner loop
  pub by_whole : c.whole ≡ d.whole → c ≡ d
  by_whole e = of (same_or_other cs h c d m n)
    where
      of : (c ≡ d) ⊎ (IsOther c d ⊎ IsOther d c) → c ≡ d
      of (inl same) = same
      of (inr (inl k)) = absurd (k.whole e)
      of (inr (inr k)) = absurd (k.whole (sym e))

  pub by_inner : c.inner ≡ d.inner → c ≡ d
  by_inner e = of (same_or_other cs h c d m n)
    where
      of : (c ≡ d) ⊎ (IsOther c d ⊎ IsOther d c) → c ≡ d
      of (inl same) = same
      of (inr (inl k)) = absurd (k.inner e)
      of (inr (inr k)) = absurd (k.inner (sym e))

  -- an inner loop is no outer one
  pub inner_outer : c.inner ≡ d.outer → ⊥
  inner_outer e = of (same_or_other cs h c d m n)
    where
      of : (c ≡ d) ⊎ (IsOther c d ⊎ IsOther d c) → ⊥
      of (inl same) = own_inner cs h d n (ap (λ (x : Split). x.inner) (sym same) ∙ e)
      of (inr (inl k)) = k.inside e
      of (inr (inr k)) = k.outer (sym e)

-- ---- names of loops

-- the loop's name is used up; it is the inner loop of a split where it has its factor; and it has one where it is vectorised
abbrev LoopIs : List Split → List (List ℕ) → Loop → Type 0
LoopIs cs used l = (is_among used l.name ≡ true) × ((n : ℕ) → l.within ≡ Some n → IsInner cs l.name) × (is_vectorized l ≡ true → (n : ℕ) × (l.within ≡ Some n))

-- the split's names are used up, and the loop that it splits is gone
abbrev CutIs : List Loop → List (List ℕ) → Split → Type 0
CutIs ls used c = (is_among used c.outer ≡ true) × (is_among used c.inner ≡ true) × (is_among used c.whole ≡ true) × AllByRecursion (λ l. c.whole ≡ l.name → ⊥) ls

pub record IsNamed (p : PlacedText) : Type 0 where
  loops : AllByRecursion (LoopIs p.cuts p.used) p.loops
  cuts : AllByRecursion (CutIs p.loops p.used) p.cuts
  pub apart : AreOthers p.cuts
  pub factors : AllByRecursion (λ c. c.factor ≤ 1024) p.cuts

-- a vectorised loop is the inner one of a split
pub lanes_inner : (p : PlacedText) → IsNamed p → (l : Loop) → In l p.loops → is_vectorized l ≡ true → IsInner p.cuts l.name
lanes_inner p h l m v = (let q = all_at (LoopIs p.cuts p.used) p.loops l h.loops m in let w = q.2 v in q.1 w.0 w.1)

-- ---- splits

module _ (s : Split) where
  abbrev inner_of : Loop → Loop
  inner_of l = record { name = s.inner; dimension = l.dimension; within = Some s.factor; mark = None }

  abbrev outer_of : Loop → Loop
  outer_of l = record { name = s.outer; dimension = l.dimension; within = None; mark = None }

  pub all_cut : (P Q : Loop → Type 0) → ((l : Loop) → P l → Q l) → ((l : Loop) → Q (inner_of l) × Q (outer_of l)) → (ls : List Loop) → AllByRecursion P ls → AllByRecursion Q (flat_map (cut_loop s) ls)
  all_cut P Q keep made [] a = tt
  all_cut P Q keep made (l ∷ ls) a = all_both Q (cut_loop s l) (flat_map (cut_loop s) ls) (of (same_name l.name s.whole)) (all_cut P Q keep made ls a.1)
    where
      of : (b : Bool) → AllByRecursion Q (if b then inner_of l ∷ outer_of l ∷ [] else l ∷ [])
      of true = ((made l).0, ((made l).1, tt))
      of false = (keep l a.0, tt)

  split_named : (p : PlacedText) → IsNamed p → has_loop p.loops s.whole ≡ true → is_among p.used s.outer ≡ false → is_among p.used s.inner ≡ false → (s.inner ≡ s.outer → ⊥) →
      s.factor ≤ 1024 → IsNamed (cut s p)
  split_named p h has no_outer no_inner differ few =
      let two : List (List ℕ) = s.outer ∷ s.inner ∷ [] in
      let loop = loop_at p.loops s.whole has in
      let is = all_at (LoopIs p.cuts p.used) p.loops loop.0 h.loops loop.1 in
      let whole : is_among p.used s.whole ≡ true = ap (is_among p.used) (sym loop.2) ∙ is.0 in
      let inner : is_among (p.used ++ two) s.inner ≡ true = among_right p.used two s.inner (among_second s.outer s.inner) in
      let outer : is_among (p.used ++ two) s.outer ≡ true = among_right p.used two s.outer (among_first s.outer (s.inner ∷ [])) in
      let apart : (x y : List ℕ) → is_among p.used x ≡ true → is_among p.used y ≡ false → x ≡ y → ⊥ = apart_names p.used in
      record {
        loops = all_cut (LoopIs p.cuts p.used) (LoopIs (p.cuts ++ s ∷ []) (p.used ++ two))
            (λ l q. (among_left p.used two l.name q.0, (λ n e. let w = q.1 n e in (w.0, in_left w.0 p.cuts (s ∷ []) w.1, w.2)), q.2))
            (λ l. ((inner, (λ n e. (s, in_right s p.cuts (s ∷ []) (inl refl), refl)), (λ v. absurd (cc v))), (outer, (λ n e. absurd (cc e)), (λ v. absurd (cc v))))) p.loops h.loops;
        cuts = all_both (CutIs (flat_map (cut_loop s) p.loops) (p.used ++ two)) p.cuts (s ∷ [])
            (all_weaker (CutIs p.loops p.used) (CutIs (flat_map (cut_loop s) p.loops) (p.used ++ two))
            (λ c q. (
              among_left p.used two c.outer q.0,
              among_left p.used two c.inner q.1,
              among_left p.used two c.whole q.2,
              all_cut (λ l. c.whole ≡ l.name → ⊥) (λ l. c.whole ≡ l.name → ⊥) (λ l k. k) (λ l. (apart c.whole s.inner q.2 no_inner, apart c.whole s.outer q.2 no_outer)) p.loops q.3,
            )) p.cuts h.cuts)
            ((outer, inner, among_left p.used two s.whole whole, gone p whole no_outer no_inner), tt);
        apart = others_last p.cuts s h.apart
            (all_weaker (CutIs p.loops p.used) (λ c. IsOther c s) (λ c q. record {
              whole = λ e. all_at (λ l. c.whole ≡ l.name → ⊥) p.loops loop.0 q.3 loop.1 (e ∙ sym loop.2);
              inner = apart c.inner s.inner q.1 no_inner;
              outer = apart c.outer s.inner q.0 no_inner;
              inside = apart c.inner s.outer q.1 no_outer;
            }) p.cuts h.cuts) differ;
        factors = all_both (λ c. c.factor ≤ 1024) p.cuts (s ∷ []) h.factors (few, tt);
      }
    where
      differs : (l : Loop) → same_name l.name s.whole ≡ false → s.whole ≡ l.name → ⊥
      differs l e q = (let clash : true ≡ false = sym (name_same l.name s.whole (sym q)) ∙ e in cc clash)

      gone_from : (p : PlacedText) → is_among p.used s.whole ≡ true → is_among p.used s.outer ≡ false → is_among p.used s.inner ≡ false → (ls : List Loop) →
          AllByRecursion (λ l. s.whole ≡ l.name → ⊥) (flat_map (cut_loop s) ls)
      gone_from p whole no_outer no_inner [] = tt
      gone_from p whole no_outer no_inner (l ∷ ls) =
          all_both (λ l. s.whole ≡ l.name → ⊥) (cut_loop s l) (flat_map (cut_loop s) ls) (of (same_name l.name s.whole) refl) (gone_from p whole no_outer no_inner ls)
        where
          of : (b : Bool) → same_name l.name s.whole ≡ b → AllByRecursion (λ l. s.whole ≡ l.name → ⊥) (if b then inner_of l ∷ outer_of l ∷ [] else l ∷ [])
          of true e = (apart_names p.used s.whole s.inner whole no_inner, (apart_names p.used s.whole s.outer whole no_outer, tt))
          of false e = (differs l e, tt)

      gone : (p : PlacedText) → is_among p.used s.whole ≡ true → is_among p.used s.outer ≡ false → is_among p.used s.inner ≡ false →
          AllByRecursion (λ l. s.whole ≡ l.name → ⊥) (flat_map (cut_loop s) p.loops)
      gone p whole no_outer no_inner = gone_from p whole no_outer no_inner p.loops

-- ---- reorder

all_filled : (P : Loop → Type 0) (names : List (List ℕ)) (next ls : List Loop) → AllByRecursion P next → AllByRecursion P ls → AllByRecursion P (filled names next ls)
all_filled P names next [] a b = tt
all_filled P names [] (l ∷ ls) a b = of (is_among names l.name) (all_filled P names [] ls tt b.1)
  where
    of : (v : Bool) → AllByRecursion P (filled names [] ls) → AllByRecursion P (if v then or_next l [] (λ others. filled names others ls) else l ∷ filled names [] ls)
    of true k = (b.0, k)
    of false k = (b.0, k)
all_filled P names (n ∷ ns) (l ∷ ls) a b = of (is_among names l.name) (all_filled P names ns ls a.1 b.1) (all_filled P names (n ∷ ns) ls a b.1)
  where
    of : (v : Bool) → AllByRecursion P (filled names ns ls) → AllByRecursion P (filled names (n ∷ ns) ls) →
        AllByRecursion P (if v then or_next l (n ∷ ns) (λ others. filled names others ls) else l ∷ filled names (n ∷ ns) ls)
    of true k m = (a.0, k)
    of false k m = (b.0, m)

found_loop : (P : Loop → Type 0) (ls : List Loop) (x : List ℕ) (rest : List Loop) → AllByRecursion P ls → AllByRecursion P rest → AllByRecursion P (with_next (loop_named ls x) rest)
found_loop P [] x rest a b = b
found_loop P (m ∷ ls) x rest a b = of (same_name m.name x) (found_loop P ls x rest a.1 b)
  where
    of : (v : Bool) → AllByRecursion P (with_next (loop_named ls x) rest) → AllByRecursion P (with_next (if v then Some m else loop_named ls x) rest)
    of true k = (a.0, b)
    of false k = k

all_named : (P : Loop → Type 0) (ls : List Loop) (names : List (List ℕ)) → AllByRecursion P ls → AllByRecursion P (loops_named ls names)
all_named P ls [] a = tt
all_named P ls (x ∷ xs) a = found_loop P ls x (loops_named ls xs) a (all_named P ls xs a)

pub all_reordered : (P : Loop → Type 0) (ls : List Loop) (names : List (List ℕ)) → AllByRecursion P ls → AllByRecursion P (filled names (loops_named ls names) ls)
all_reordered P ls names a = all_filled P names (loops_named ls names) ls (all_named P ls names a) a

reordered_named : (names : List (List ℕ)) (p : PlacedText) → IsNamed p → IsNamed (record p { loops = filled names (loops_named p.loops names) p.loops })
reordered_named names p h =
    let ms = filled names (loops_named p.loops names) p.loops in
    record {
      loops = all_reordered (LoopIs p.cuts p.used) p.loops names h.loops;
      cuts = all_weaker (CutIs p.loops p.used) (CutIs ms p.used) (λ c q. (q.0, q.1, q.2, all_reordered (λ l. c.whole ≡ l.name → ⊥) p.loops names q.3)) p.cuts h.cuts;
      apart = h.apart;
      factors = h.factors;
    }

-- ---- marks

abbrev with_mark : Mark → Loop → Loop
with_mark m l = record { name = l.name; dimension = l.dimension; within = l.within; mark = Some m }

-- where the mark makes the loop a vectorised one, that is the inner loop of a split
abbrev MayMark : Mark → List ℕ → Loop → Type 0
MayMark m x l = same_name l.name x ≡ true → is_vectorized (with_mark m l) ≡ true → (n : ℕ) × (l.within ≡ Some n)

module _ (m : Mark) (x : List ℕ) where
  marked_loops : (cs : List Split) (used : List (List ℕ)) (ls : List Loop) → AllByRecursion (MayMark m x) ls → AllByRecursion (LoopIs cs used) ls →
      AllByRecursion (LoopIs cs used) (map (mark_loop m x) ls)
  marked_loops cs used [] may a = tt
  marked_loops cs used (l ∷ ls) may a = (of (same_name l.name x) refl, marked_loops cs used ls may.1 a.1)
    where
      of : (v : Bool) → same_name l.name x ≡ v → LoopIs cs used (if v then with_mark m l else l)
      of true e = (a.0.0, a.0.1, may.0 e)
      of false e = a.0

  marked_gone : (y : List ℕ) (ls : List Loop) → AllByRecursion (λ l. y ≡ l.name → ⊥) ls → AllByRecursion (λ l. y ≡ l.name → ⊥) (map (mark_loop m x) ls)
  marked_gone y [] a = tt
  marked_gone y (l ∷ ls) a = (of (same_name l.name x), marked_gone y ls a.1)
    where
      of : (v : Bool) → y ≡ Loop.name (if v then with_mark m l else l) → ⊥
      of true = a.0
      of false = a.0

  marked_named : (p : PlacedText) → IsNamed p → AllByRecursion (MayMark m x) p.loops → IsNamed (marked m x p)
  marked_named p h may = record {
    loops = marked_loops p.cuts p.used p.loops may h.loops;
    cuts = all_weaker (CutIs p.loops p.used) (CutIs (map (mark_loop m x) p.loops) p.used) (λ c q. (q.0, q.1, q.2, marked_gone c.whole p.loops q.3)) p.cuts h.cuts;
    apart = h.apart;
    factors = h.factors;
  }

  short_marks : (ls : List Loop) → breaks_mark ls x ≡ false → AllByRecursion (MayMark m x) ls
  short_marks [] e = tt
  short_marks (l ∷ ls) e =
      let parts = neither (same_name l.name x && (is_marked l || not (is_short l))) (breaks_mark ls x) e in
      ((λ same v. of l.within refl (short (same_name l.name x) (is_marked l) (is_short l) same parts.0)), short_marks ls parts.1)
    where
      neither : (b d : Bool) → (b || d) ≡ false → (b ≡ false) × (d ≡ false)
      neither true d q = absurd (cc q)
      neither false d q = (refl, q)

      short : (b d c : Bool) → b ≡ true → (b && (d || not c)) ≡ false → c ≡ true
      short false d c q k = absurd (cc q)
      short true true c q k = absurd (cc k)
      short true false true q k = refl
      short true false false q k = absurd (cc k)

      of : (o : Option ℕ) → l.within ≡ o → elim o [ Some n ↦ nat_le n 64 | None ↦ false ] ≡ true → (n : ℕ) × (l.within ≡ Some n)
      of (Some n) q k = (n, q)
      of None q k = absurd (cc k)

parallel_marks : (x : List ℕ) (ls : List Loop) → AllByRecursion (MayMark mark.Parallel x) ls
parallel_marks x [] = tt
parallel_marks x (l ∷ ls) = ((λ same v. absurd (cc v)), parallel_marks x ls)

-- ---- directives

pub some_placed : (p q : PlacedText) → ◌≡◌ {A = Result PlacedText Rule} (Ok p) (Ok q) → p ≡ q
some_placed p q e = cc

pub let_through : (v : Bool) (r : Rule) (o : Result PlacedText Rule) (q : PlacedText) → (if v then Err r else o) ≡ Ok q → (v ≡ false) × (o ≡ Ok q)
let_through true r o q e = absurd (cc e)
let_through false r o q e = (refl, e)

pub let_in : (v : Bool) (r : Rule) (p q : PlacedText) → ◌≡◌ {A = Result PlacedText Rule} (if v then Ok p else Err r) (Ok q) → p ≡ q
let_in true r p q e = some_placed p q e
let_in false r p q e = absurd (cc e)

none_of : (a b c d e g : Bool) → (a || b || c || d || e || g) ≡ false → (a ≡ false) × (b ≡ false) × (c ≡ false) × (d ≡ false) × (g ≡ false)
none_of false false false false false g h = (refl, refl, refl, refl, h)
none_of false false false false true g h = absurd (cc h)
none_of true b c d e g h = absurd (cc h)
none_of false true c d e g h = absurd (cc h)
none_of false false true d e g h = absurd (cc h)
none_of false false false true e g h = absurd (cc h)

or_other : (a b : Bool) → not (a || b) ≡ false → b ≡ false → a ≡ true
or_other true b e f = refl
or_other false true e f = absurd (cc f)
or_other false false e f = absurd (cc e)

pub or_second : (a b : Bool) → (a || b) ≡ false → b ≡ false
or_second true b e = absurd (cc e)
or_second false b e = e

module _ (f : SubjectText) where
  split_keeps : (s : Split) (p q : PlacedText) → split_in f s p ≡ Ok q → IsNamed p → IsNamed q
  split_keeps s p q e h =
      let a = let_through (not (is_known f p.loops s.whole)) rule.UnknownName (if breaks_split f p s then Err rule.BadSplit else Ok (cut s p)) q e in
      let c = let_through (breaks_split f p s) rule.BadSplit (Ok (cut s p)) q a.1 in
      let tests = none_of (is_among f.reductions s.whole) (is_among p.used s.outer) (is_among p.used s.inner) (same_name s.outer s.inner) (s.factor == 0) (nat_lt 1024 s.factor) c.0 in
      let differ : s.inner ≡ s.outer → ⊥ = λ same. let clash : true ≡ false = sym (name_same s.outer s.inner (sym same)) ∙ tests.3 in cc clash in
      let small = tests.4 in
      let few : s.factor ≤ 1024 = grind (arith, nat_tests) in
      subst IsNamed (some_placed (cut s p) q c.1)
      (split_named s p h (or_other (has_loop p.loops s.whole) (is_among f.reductions s.whole) a.0 tests.0) tests.1 tests.2 differ few)

  reorder_keeps : (names : List (List ℕ)) (p q : PlacedText) → reorder_in f names p ≡ Ok q → IsNamed p → IsNamed q
  reorder_keeps names p q e h =
      let done = record p { loops = filled names (loops_named p.loops names) p.loops } in
      let a = let_through (not (all_known f p.loops names)) rule.UnknownName (if any_reduction f names || has_double names then Err rule.BadReorder else Ok done) q e in
      let c = let_through (any_reduction f names || has_double names) rule.BadReorder (Ok done) q a.1 in
      subst IsNamed (some_placed done q c.1) (reordered_named names p h)

  mark_keeps : (m : Mark) (x : List ℕ) (p q : PlacedText) → mark_in f m x p ≡ Ok q → IsNamed p → IsNamed q
  mark_keeps m x p q e h =
      let a = let_through (not (is_known f p.loops x)) rule.UnknownName (if is_among f.reductions x || breaks_mark p.loops x then Err rule.BadMark else Ok (marked m x p)) q e in
      let c = let_through (is_among f.reductions x || breaks_mark p.loops x) rule.BadMark (Ok (marked m x p)) q a.1 in
      subst IsNamed (some_placed (marked m x p) q c.1) (marked_named m x p h (short_marks m x p.loops (or_second (is_among f.reductions x) (breaks_mark p.loops x) c.0)))

  parallel_keeps : (x : List ℕ) (p q : PlacedText) → parallel_in f x p ≡ Ok q → IsNamed p → IsNamed q
  parallel_keeps x p q e h =
      let test = is_among f.reductions x || not f.is_root || breaks_parallel f p.loops x in
      let a = let_through (not (is_known f p.loops x)) rule.UnknownName (if test then Err rule.BadParallel else Ok (marked mark.Parallel x p)) q e in
      let c = let_through test rule.BadParallel (Ok (marked mark.Parallel x p)) q a.1 in
      subst IsNamed (some_placed (marked mark.Parallel x p) q c.1) (marked_named mark.Parallel x p h (parallel_marks x p.loops))

  next_keeps : (o : Result PlacedText Rule) (go : PlacedText → Result PlacedText Rule) (q : PlacedText) → ((p : PlacedText) → o ≡ Ok p → IsNamed p) →
      ((p : PlacedText) → go p ≡ Ok q → IsNamed p → IsNamed q) → and_next o go ≡ Ok q → IsNamed q
  next_keeps (Ok p) go q one two e = two p e (one p refl)
  next_keeps (Err r) go q one two e = absurd (cc e)

  tile_keeps : (t : Tile) (p q : PlacedText) → tile_in f t p ≡ Ok q → IsNamed p → IsNamed q
  tile_keeps t p q e h =
      let names = t.x_inner ∷ t.y_inner ∷ t.x_outer ∷ t.y_outer ∷ [] in
      next_keeps (and_next (split_in f (x_split t) p) (split_in f (y_split t))) (reorder_in f names) q
      (λ a k. next_keeps (split_in f (x_split t) p) (split_in f (y_split t)) a (λ c m. split_keeps (x_split t) p c m h) (λ c m g. split_keeps (y_split t) c a m g) k)
      (λ a k g. reorder_keeps names a q k g) e

  applied_keeps : (d : DirectiveText) (p q : PlacedText) → applied f d p ≡ Ok q → IsNamed p → IsNamed q
  applied_keeps compute_root p q e h = subst IsNamed (some_placed p q e) h
  applied_keeps (compute_at k) p q e h = subst IsNamed (let_in (is_among f.functions k.function) rule.UnknownName (record p { homes = p.homes ++ k ∷ [] }) q e) (others p h)
    where
      others : (p : PlacedText) → IsNamed p → IsNamed (record p { homes = p.homes ++ k ∷ [] })
      others p h = record { loops = h.loops; cuts = h.cuts; apart = h.apart; factors = h.factors }
  applied_keeps (store_at k) p q e h = subst IsNamed (let_in (is_among f.functions k.function) rule.UnknownName (record p { stores = p.stores ++ k ∷ [] }) q e) (others p h)
    where
      others : (p : PlacedText) → IsNamed p → IsNamed (record p { stores = p.stores ++ k ∷ [] })
      others p h = record { loops = h.loops; cuts = h.cuts; apart = h.apart; factors = h.factors }
  applied_keeps (fold k) p q e h = subst IsNamed (let_in (is_among f.variables k.dimension) rule.UnknownName (record p { folds = p.folds ++ k ∷ [] }) q e) (others p h)
    where
      others : (p : PlacedText) → IsNamed p → IsNamed (record p { folds = p.folds ++ k ∷ [] })
      others p h = record { loops = h.loops; cuts = h.cuts; apart = h.apart; factors = h.factors }
  applied_keeps (split s) p q e h = split_keeps s p q e h
  applied_keeps (tile t) p q e h = tile_keeps t p q e h
  applied_keeps (reorder names) p q e h = reorder_keeps names p q e h
  applied_keeps (unroll x) p q e h = mark_keeps mark.Unrolled x p q e h
  applied_keeps (vectorize x) p q e h = mark_keeps mark.Vectorized x p q e h
  applied_keeps (parallel x) p q e h = parallel_keeps x p q e h

  directives_keep : (ds : List DirectiveText) (p q : PlacedText) → all_in f ds p ≡ Ok q → IsNamed p → IsNamed q
  directives_keep [] p q e h = subst IsNamed (some_placed p q e) h
  directives_keep (d ∷ ds) p q e h = next_keeps (applied f d p) (all_in f ds) q (λ a k. applied_keeps d p a k h) (λ a k g. directives_keep ds a q k g) e

  starts : (d : ℕ) (xs used : List (List ℕ)) → AllByRecursion (λ x. is_among used x ≡ true) xs → AllByRecursion (LoopIs [] used) (starting d xs)
  starts d [] used a = tt
  starts d (x ∷ xs) used a = ((a.0, (λ n e. absurd (cc e)), (λ v. absurd (cc v))), starts (d + 1) xs used a.1)

  all_among : (xs ys : List (List ℕ)) → AllByRecursion (λ x. is_among (xs ++ ys) x ≡ true) xs
  all_among [] ys = tt
  all_among (x ∷ xs) ys = (among_first x (xs ++ ys), all_weaker (λ y. is_among (xs ++ ys) y ≡ true) (λ y. is_among (x ∷ (xs ++ ys)) y ≡ true) (λ y h. or_true (same_name x y) h) xs (all_among xs ys))
    where
      or_true : (b : Bool) → {d : Bool} → d ≡ true → (b || d) ≡ true
      or_true true k = refl
      or_true false k = k

  -- so it is behind the directives
  pub named : (ds : List DirectiveText) (p : PlacedText) → all_in f ds (start f) ≡ Ok p → IsNamed p
  named ds p e = directives_keep ds (start f) p e (record { loops = starts 0 f.variables (f.variables ++ f.reductions) (all_among f.variables f.reductions); cuts = tt; apart = tt; factors = tt })
