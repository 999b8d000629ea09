-- What directives make of a function's loops: each is at the end of the splits of one variable, and each split makes names that were not there.
use Rattle.std.proofs.Common.{◌≡◌, ℕ, suc, ◌+◌, ◌≤◌, Bool, true, false, not, ◌&&◌, ◌||◌, List, [], ◌∷◌, ◌++◌, length, map, slice_get, Option, Some, None, Result, Ok, Err, refl, sym, ap}
use Rattle.std.proofs.Common.{◌∙◌, subst, inl, inr, arith, append_assoc, length-append}
use Rattle.std.specs.Prelude.{◌⊎◌, ◌==◌, nat_lt, if◌then◌else◌}
use Rattle.std.specs.List.{AllByRecursion, flat_map}
use Rattle.std.proofs.lemmas.Bool.Decides.{nat_tests}
use Rattle.lin.proofs.TermLemmas.{all_weaker}
use Rattle.meaning.specs.Names.{same_name, is_among}
use Rattle.meaning.proofs.Cases.{name_same, same_name_is, name_differs}
use Rattle.sched.specs.declared.error.Rule.{Rule}
use Rattle.sched.specs.declared.error.Rule.TheVariants as rule
use Rattle.sched.specs.declared.placing.Loop.{Loop}
use Rattle.sched.specs.declared.placing.Mark.{Mark}
use Rattle.sched.specs.declared.placing.Mark.TheVariants as mark
use Rattle.sched.specs.declared.schedule.Split.{Split}
use Rattle.sched.specs.declared.schedule.Tile.{Tile}
use Rattle.sched.specs.Schedule.{DirectiveText, compute_root, compute_at, store_at, fold, split, tile, reorder, unroll, vectorize, parallel}
use Rattle.sched.specs.Placing.{SubjectText, PlacedText, has_loop, is_known, breaks_split, cut_loop, cut, split_in, has_double, loop_named, with_next, loops_named, or_next, filled}
use Rattle.sched.specs.Placing.{all_known, any_reduction, reorder_in, mark_loop, marked, breaks_mark, breaks_parallel, mark_in, parallel_in, and_next, x_split, y_split, tile_in, applied}
use Rattle.sched.specs.Placing.{starting, start, all_in}

-- ---- splits, one behind another

-- these names, and those that the splits make
abbrev pub behind : List (List ℕ) → List Split → List (List ℕ)
behind names [] = names
behind names (c ∷ cs) = behind (names ++ c.outer ∷ c.inner ∷ []) cs

-- each split is of a loop that is there, and makes two whose names are not used
abbrev pub AreMade : List (List ℕ) → List (List ℕ) → List Split → Type 0
AreMade names used [] = Unit {0}
AreMade names used (c ∷ cs) =
    (is_among names c.whole ≡ true) × (is_among used c.outer ≡ false) × (is_among used c.inner ≡ false) × (same_name c.outer c.inner ≡ false) × (c.factor ≤ 1024)
    × AreMade (names ++ c.outer ∷ c.inner ∷ []) (used ++ c.outer ∷ c.inner ∷ []) cs

behind_last : (names : List (List ℕ)) (cs : List Split) (s : Split) → behind names (cs ++ s ∷ []) ≡ behind names cs ++ s.outer ∷ s.inner ∷ []
behind_last names [] s = refl
behind_last names (c ∷ cs) s = behind_last (names ++ c.outer ∷ c.inner ∷ []) cs s

made_last : (names used : List (List ℕ)) (cs : List Split) (s : Split) → is_among (behind names cs) s.whole ≡ true → is_among (behind used cs) s.outer ≡ false →
    is_among (behind used cs) s.inner ≡ false → same_name s.outer s.inner ≡ false → s.factor ≤ 1024 → AreMade names used cs → AreMade names used (cs ++ s ∷ [])
made_last names used [] s whole outer inner differ few h = (whole, outer, inner, differ, few, tt)
made_last names used (c ∷ cs) s whole outer inner differ few h =
    (h.0, h.1, h.2, h.3, h.4, made_last (names ++ c.outer ∷ c.inner ∷ []) (used ++ c.outer ∷ c.inner ∷ []) cs s whole outer inner differ few h.5)

-- ---- the loops at the end

abbrev pub BothBy : Bool → Type 0 → Type 0 → Type 0
BothBy true a b = a
BothBy false a b = b

-- the splits make this loop of the loop x, and split it no more
abbrev pub IsEnd : List Split → List ℕ → List ℕ → Type 0
IsEnd [] x y = x ≡ y
IsEnd (c ∷ cs) x y = BothBy (same_name c.whole x) (IsEnd cs c.outer y ⊎ IsEnd cs c.inner y) (IsEnd cs x y)

end_other : (cs : List Split) (s : Split) (x y : List ℕ) → IsEnd cs x y → same_name s.whole y ≡ false → IsEnd (cs ++ s ∷ []) x y
end_other [] s x y h e = subst (λ b. BothBy b (IsEnd [] s.outer y ⊎ IsEnd [] s.inner y) (x ≡ y)) (sym (ap (same_name s.whole) h ∙ e)) h
end_other (c ∷ cs) s x y h e = of (same_name c.whole x) h (λ k. end_other cs s c.outer y k e) (λ k. end_other cs s c.inner y k e) (λ k. end_other cs s x y k e)
  where
    of : (b : Bool) → BothBy b (IsEnd cs c.outer y ⊎ IsEnd cs c.inner y) (IsEnd cs x y) → (IsEnd cs c.outer y → IsEnd (cs ++ s ∷ []) c.outer y) →
        (IsEnd cs c.inner y → IsEnd (cs ++ s ∷ []) c.inner y) → (IsEnd cs x y → IsEnd (cs ++ s ∷ []) x y) →
        BothBy b (IsEnd (cs ++ s ∷ []) c.outer y ⊎ IsEnd (cs ++ s ∷ []) c.inner y) (IsEnd (cs ++ s ∷ []) x y)
    of true (inl k) one two three = inl (one k)
    of true (inr k) one two three = inr (two k)
    of false k one two three = three k

end_half : (cs : List Split) (s : Split) (x y z : List ℕ) → IsEnd cs x y → y ≡ s.whole → (z ≡ s.outer) ⊎ (z ≡ s.inner) → IsEnd (cs ++ s ∷ []) x z
end_half [] s x y z h e half =
    let taken : same_name s.whole x ≡ true = name_same s.whole x (sym (h ∙ e)) in
    subst (λ b. BothBy b ((s.outer ≡ z) ⊎ (s.inner ≡ z)) (x ≡ z)) (sym taken) (of half)
  where
    of : (z ≡ s.outer) ⊎ (z ≡ s.inner) → (s.outer ≡ z) ⊎ (s.inner ≡ z)
    of (inl k) = inl (sym k)
    of (inr k) = inr (sym k)
end_half (c ∷ cs) s x y z h e half =
    of (same_name c.whole x) h (λ k. end_half cs s c.outer y z k e half) (λ k. end_half cs s c.inner y z k e half) (λ k. end_half cs s x y z k e half)
  where
    of : (b : Bool) → BothBy b (IsEnd cs c.outer y ⊎ IsEnd cs c.inner y) (IsEnd cs x y) → (IsEnd cs c.outer y → IsEnd (cs ++ s ∷ []) c.outer z) →
        (IsEnd cs c.inner y → IsEnd (cs ++ s ∷ []) c.inner z) → (IsEnd cs x y → IsEnd (cs ++ s ∷ []) x z) →
        BothBy b (IsEnd (cs ++ s ∷ []) c.outer z ⊎ IsEnd (cs ++ s ∷ []) c.inner z) (IsEnd (cs ++ s ∷ []) x z)
    of true (inl k) one two three = inl (one k)
    of true (inr k) one two three = inr (two k)
    of false k one two three = three k

-- ---- names

pub among_more : (xs ys : List (List ℕ)) (x : List ℕ) → is_among xs x ≡ true → is_among (xs ++ ys) x ≡ true
among_more [] ys x e = absurd (cc e)
among_more (y ∷ xs) ys x e = of (same_name y x) e (λ k. among_more xs ys x k)
  where
    of : (v : Bool) → (v || is_among xs x) ≡ true → (is_among xs x ≡ true → is_among (xs ++ ys) x ≡ true) → (v || is_among (xs ++ ys) x) ≡ true
    of true k rest = refl
    of false k rest = rest k

pub among_right : (xs ys : List (List ℕ)) (x : List ℕ) → is_among ys x ≡ true → is_among (xs ++ ys) x ≡ true
among_right [] ys x e = e
among_right (y ∷ xs) ys x e = of (same_name y x) (among_right xs ys x e)
  where
    of : (v : Bool) → is_among (xs ++ ys) x ≡ true → (v || is_among (xs ++ ys) x) ≡ true
    of true k = refl
    of false k = k

pub among_first : (x : List ℕ) (xs : List (List ℕ)) → is_among (x ∷ xs) x ≡ true
among_first x xs = let same = name_same x x refl in ap (λ v. v || is_among xs x) same

pub among_second : (y x : List ℕ) → is_among (y ∷ x ∷ []) x ≡ true
among_second y x = among_right (y ∷ []) (x ∷ []) x (among_first x [])

-- ---- loops

-- the loop is at the end of the splits of its dimension's variable, and its name is there
pub record IsLeaf (variables : List (List ℕ)) (cs : List Split) (l : Loop) : Type 0 where
  pub variable : List ℕ
  pub of : slice_get variables l.dimension ≡ Some variable
  pub end : IsEnd cs variable l.name
  pub there : is_among (behind variables cs) l.name ≡ true

pub record AreDirected (f : SubjectText) (p : PlacedText) : Type 0 where
  pub made : AreMade f.variables (f.variables ++ f.reductions) p.cuts
  pub used : p.used ≡ behind (f.variables ++ f.reductions) p.cuts
  pub leaves : AllByRecursion (IsLeaf f.variables p.cuts) p.loops
  pub single : has_double (map (λ l. l.name) p.loops) ≡ false
  pub known : AllByRecursion (λ l. is_among p.used l.name ≡ true) p.loops

-- ---- splits of loops

module _ (variables : List (List ℕ)) (cs : List Split) (s : Split) where
  leaf_other : (l : Loop) → IsLeaf variables cs l → same_name l.name s.whole ≡ false → IsLeaf variables (cs ++ s ∷ []) l
  leaf_other l h e = record {
    variable = h.variable;
    of = h.of;
    end = end_other cs s h.variable l.name h.end (name_differs s.whole l.name (λ same. let clash : true ≡ false = sym (name_same l.name s.whole (sym same)) ∙ e in cc clash));
    there = subst (λ (xs : List (List ℕ)). is_among xs l.name ≡ true) (sym (behind_last variables cs s)) (among_more (behind variables cs) (s.outer ∷ s.inner ∷ []) l.name h.there);
  }

  leaf_half : (l m : Loop) → IsLeaf variables cs l → l.name ≡ s.whole → m.dimension ≡ l.dimension → (m.name ≡ s.outer) ⊎ (m.name ≡ s.inner) → is_among (s.outer ∷ s.inner ∷ []) m.name ≡ true →
      IsLeaf variables (cs ++ s ∷ []) m
  leaf_half l m h e same half there = record {
    variable = h.variable;
    of = ap (slice_get variables) same ∙ h.of;
    end = end_half cs s h.variable l.name m.name h.end e half;
    there = subst (λ (xs : List (List ℕ)). is_among xs m.name ≡ true) (sym (behind_last variables cs s)) (among_right (behind variables cs) (s.outer ∷ s.inner ∷ []) m.name there);
  }

  abbrev inner_of : Loop → Loop
  inner_of l = record { name = s.inner; dimension = l.dimension; within = Some s.factor; mark = None }

  abbrev outer_of : Loop → Loop
  outer_of l = record { name = s.outer; dimension = l.dimension; within = None; mark = None }

  leaves_cut : (ls : List Loop) → AllByRecursion (IsLeaf variables cs) ls → AllByRecursion (IsLeaf variables (cs ++ s ∷ [])) (flat_map (cut_loop s) ls)
  leaves_cut [] a = tt
  leaves_cut (l ∷ ls) a = of (same_name l.name s.whole) refl (leaves_cut ls a.1)
    where
      of : (v : Bool) → same_name l.name s.whole ≡ v → AllByRecursion (IsLeaf variables (cs ++ s ∷ [])) (flat_map (cut_loop s) ls) →
          AllByRecursion (IsLeaf variables (cs ++ s ∷ [])) ((if v then inner_of l ∷ outer_of l ∷ [] else l ∷ []) ++ flat_map (cut_loop s) ls)
      of true e rest =
          let same = same_name_is l.name s.whole e in (
            leaf_half l (inner_of l) a.0 same refl (inr refl) (among_second s.outer s.inner),
            (leaf_half l (outer_of l) a.0 same refl (inl refl) (among_first s.outer (s.inner ∷ [])), rest),
          )
      of false e rest = (leaf_other l a.0 e, rest)

leaf_named : (variables : List (List ℕ)) (cs : List Split) (ls : List Loop) (x : List ℕ) → AllByRecursion (IsLeaf variables cs) ls → has_loop ls x ≡ true → is_among (behind variables cs) x ≡ true
leaf_named variables cs [] x a e = absurd (cc e)
leaf_named variables cs (l ∷ ls) x a e = of (same_name l.name x) refl e (λ k. leaf_named variables cs ls x a.1 k)
  where
    of : (v : Bool) → same_name l.name x ≡ v → (v || has_loop ls x) ≡ true → (has_loop ls x ≡ true → is_among (behind variables cs) x ≡ true) → is_among (behind variables cs) x ≡ true
    of true h k rest = subst (λ y. is_among (behind variables cs) y ≡ true) (same_name_is l.name x h) a.0.there
    of false h k rest = rest k

-- ---- reorder and marks

all_filled : (P : Loop → Type 0) (names : List (List ℕ)) (next ls : List Loop) → AllByRecursion P next → AllByRecursion P ls → AllByRecursion P (filled names next ls)
all_filled P names next [] a b = tt
all_filled P names [] (l ∷ ls) a b = of (is_among names l.name) (all_filled P names [] ls tt b.1)
  where
    of : (v : Bool) → AllByRecursion P (filled names [] ls) → AllByRecursion P (if v then or_next l [] (λ others. filled names others ls) else l ∷ filled names [] ls)
    of true k = (b.0, k)
    of false k = (b.0, k)
all_filled P names (n ∷ ns) (l ∷ ls) a b = of (is_among names l.name) (all_filled P names ns ls a.1 b.1) (all_filled P names (n ∷ ns) ls a b.1)
  where
    of : (v : Bool) → AllByRecursion P (filled names ns ls) → AllByRecursion P (filled names (n ∷ ns) ls) →
        AllByRecursion P (if v then or_next l (n ∷ ns) (λ others. filled names others ls) else l ∷ filled names (n ∷ ns) ls)
    of true k m = (a.0, k)
    of false k m = (b.0, m)

all_next : (P : Loop → Type 0) (o : Option Loop) (ls : List Loop) → ((l : Loop) → o ≡ Some l → P l) → AllByRecursion P ls → AllByRecursion P (with_next o ls)
all_next P (Some l) ls f a = (f l refl, a)
all_next P None ls f a = a

some_loop : (l m : Loop) → Some l ≡ Some m → l ≡ m
some_loop l m e = cc

found_loop : (P : Loop → Type 0) (ls : List Loop) (x : List ℕ) (l : Loop) → AllByRecursion P ls → loop_named ls x ≡ Some l → P l
found_loop P [] x l a e = absurd (cc e)
found_loop P (m ∷ ls) x l a e = of (same_name m.name x) e (λ k. found_loop P ls x l a.1 k)
  where
    of : (v : Bool) → (if v then Some m else loop_named ls x) ≡ Some l → (loop_named ls x ≡ Some l → P l) → P l
    of true k rest = subst P (some_loop m l k) a.0
    of false k rest = rest k

all_named : (P : Loop → Type 0) (ls : List Loop) (names : List (List ℕ)) → AllByRecursion P ls → AllByRecursion P (loops_named ls names)
all_named P ls [] a = tt
all_named P ls (x ∷ xs) a = all_next P (loop_named ls x) (loops_named ls xs) (λ l e. found_loop P ls x l a e) (all_named P ls xs a)

leaf_marked : (variables : List (List ℕ)) (cs : List Split) (m : Mark) (x : List ℕ) (l : Loop) → IsLeaf variables cs l → IsLeaf variables cs (mark_loop m x l)
leaf_marked variables cs m x l h = of (same_name l.name x)
  where
    of : (v : Bool) → IsLeaf variables cs (if v then record { name = l.name; dimension = l.dimension; within = l.within; mark = Some m } else l)
    of true = record { variable = h.variable; of = h.of; end = h.end; there = h.there }
    of false = h

leaves_marked : (variables : List (List ℕ)) (cs : List Split) (m : Mark) (x : List ℕ) (ls : List Loop) → AllByRecursion (IsLeaf variables cs) ls →
    AllByRecursion (IsLeaf variables cs) (map (mark_loop m x) ls)
leaves_marked variables cs m x [] a = tt
leaves_marked variables cs m x (l ∷ ls) a = (leaf_marked variables cs m x l a.0, leaves_marked variables cs m x ls a.1)

-- ---- directives

some_placed : (p q : PlacedText) → ◌≡◌ {A = Result PlacedText Rule} (Ok p) (Ok q) → p ≡ q
some_placed p q e = cc

let_through : (v : Bool) (r : Rule) (o : Result PlacedText Rule) (q : PlacedText) → (if v then Err r else o) ≡ Ok q → (v ≡ false) × (o ≡ Ok q)
let_through true r o q e = absurd (cc e)
let_through false r o q e = (refl, e)

let_in : (v : Bool) (r : Rule) (p q : PlacedText) → ◌≡◌ {A = Result PlacedText Rule} (if v then Ok p else Err r) (Ok q) → p ≡ q
let_in true r p q e = some_placed p q e
let_in false r p q e = absurd (cc e)

none_of : (a b c d e g : Bool) → (a || b || c || d || e || g) ≡ false → (a ≡ false) × (b ≡ false) × (c ≡ false) × (d ≡ false) × (e ≡ false) × (g ≡ false)
none_of false false false false false false h = (refl, refl, refl, refl, refl, refl)
none_of true b c d e g h = absurd (cc h)
none_of false true c d e g h = absurd (cc h)
none_of false false true d e g h = absurd (cc h)
none_of false false false true e g h = absurd (cc h)
none_of false false false false true g h = absurd (cc h)
none_of false false false false false true h = absurd (cc h)

not_false : (v : Bool) → not v ≡ false → v ≡ true
not_false true e = refl
not_false false e = absurd (cc e)

or_other : (a b : Bool) → (a || b) ≡ true → b ≡ false → a ≡ true
or_other true b e f = refl
or_other false b e f = absurd (let clash : true ≡ false = sym e ∙ f in cc clash)

-- ---- loops of names of their own

abbrev pub names_of : List Loop → List (List ℕ)
names_of ls = map (λ l. l.name) ls

or_parts : (a b : Bool) → (a || b) ≡ false → (a ≡ false) × (b ≡ false)
or_parts true b e = absurd (cc e)
or_parts false b e = (refl, e)

or_none : (a b : Bool) → a ≡ false → b ≡ false → (a || b) ≡ false
or_none a b e h = ap (λ v. v || b) e ∙ h

names_apart : (used : List (List ℕ)) (x y : List ℕ) → is_among used x ≡ true → is_among used y ≡ false → same_name x y ≡ false
names_apart used x y taken free = name_differs x y (λ same. let clash : true ≡ false = sym taken ∙ ap (is_among used) same ∙ free in cc clash)

not_used : (used : List (List ℕ)) (ls : List Loop) (x : List ℕ) → AllByRecursion (λ l. is_among used l.name ≡ true) ls → is_among used x ≡ false → is_among (names_of ls) x ≡ false
not_used used [] x a e = refl
not_used used (l ∷ ls) x a e = or_none (same_name l.name x) (is_among (names_of ls) x) (names_apart used l.name x a.0 e) (not_used used ls x a.1 e)

all_among : (ls : List Loop) → AllByRecursion (λ l. is_among (names_of ls) l.name ≡ true) ls
all_among [] = tt
all_among (l ∷ ls) = (
  among_first l.name (names_of ls),
  all_weaker (λ m. is_among (names_of ls) m.name ≡ true) (λ m. is_among (names_of (l ∷ ls)) m.name ≡ true)
      (λ m e. among_right (l.name ∷ []) (names_of ls) m.name e) ls (all_among ls),
)

-- ---- of splits

module _ (s : Split) where
  abbrev halves_of : Bool → Loop → List Loop
  halves_of v l =
      if v then record { name = s.inner; dimension = l.dimension; within = Some s.factor; mark = None } ∷ record { name = s.outer; dimension = l.dimension; within = None; mark = None } ∷ []
      else l ∷ []

  none_cut : (ls : List Loop) → is_among (names_of ls) s.whole ≡ false → flat_map (cut_loop s) ls ≡ ls
  none_cut [] e = refl
  none_cut (l ∷ ls) e =
      let k = or_parts (same_name l.name s.whole) (is_among (names_of ls) s.whole) e in
      ap (λ v. halves_of v l ++ flat_map (cut_loop s) ls) k.0 ∙ ap (λ ms. l ∷ ms) (none_cut ls k.1)

  among_cut : (ls : List Loop) (x : List ℕ) → is_among (names_of ls) x ≡ false → same_name s.inner x ≡ false → same_name s.outer x ≡ false → is_among (names_of (flat_map (cut_loop s) ls)) x ≡ false
  among_cut [] x e i o = refl
  among_cut (l ∷ ls) x e i o =
      let k = or_parts (same_name l.name x) (is_among (names_of ls) x) e in of (same_name l.name s.whole) k.0 (among_cut ls x k.1 i o)
    where
      of : (v : Bool) → same_name l.name x ≡ false → is_among (names_of (flat_map (cut_loop s) ls)) x ≡ false →
          is_among (names_of (halves_of v l ++ flat_map (cut_loop s) ls)) x ≡ false
      of true first rest =
          or_none (same_name s.inner x) (same_name s.outer x || is_among (names_of (flat_map (cut_loop s) ls)) x) i
          (or_none (same_name s.outer x) (is_among (names_of (flat_map (cut_loop s) ls)) x) o rest)
      of false first rest = or_none (same_name l.name x) (is_among (names_of (flat_map (cut_loop s) ls)) x) first rest

  module _ (used : List (List ℕ)) (outer : is_among used s.outer ≡ false) (inner : is_among used s.inner ≡ false) (differ : same_name s.outer s.inner ≡ false) where
    single_cut : (ls : List Loop) → has_double (names_of ls) ≡ false → AllByRecursion (λ l. is_among used l.name ≡ true) ls → has_double (names_of (flat_map (cut_loop s) ls)) ≡ false
    single_cut [] e a = refl
    single_cut (l ∷ ls) e a =
        let k = or_parts (is_among (names_of ls) l.name) (has_double (names_of ls)) e in of (same_name l.name s.whole) refl k.0 k.1 (single_cut ls k.1 a.1)
      where
        of : (v : Bool) → same_name l.name s.whole ≡ v → is_among (names_of ls) l.name ≡ false → has_double (names_of ls) ≡ false → has_double (names_of (flat_map (cut_loop s) ls)) ≡ false →
            has_double (names_of (halves_of v l ++ flat_map (cut_loop s) ls)) ≡ false
        of true h first single rest =
            let others = flat_map (cut_loop s) ls in
            let same : others ≡ ls = none_cut ls (subst (λ x. is_among (names_of ls) x ≡ false) (same_name_is l.name s.whole h) first) in
            let no_inner : is_among (names_of others) s.inner ≡ false = subst (λ ms. is_among (names_of ms) s.inner ≡ false) (sym same) (not_used used ls s.inner a.1 inner) in
            let no_outer : is_among (names_of others) s.outer ≡ false = subst (λ ms. is_among (names_of ms) s.outer ≡ false) (sym same) (not_used used ls s.outer a.1 outer) in
            or_none (same_name s.outer s.inner || is_among (names_of others) s.inner) (is_among (names_of others) s.outer || has_double (names_of others))
            (or_none (same_name s.outer s.inner) (is_among (names_of others) s.inner) differ no_inner) (or_none (is_among (names_of others) s.outer) (has_double (names_of others)) no_outer rest)
        of false h first single rest =
            or_none (is_among (names_of (flat_map (cut_loop s) ls)) l.name) (has_double (names_of (flat_map (cut_loop s) ls)))
            (among_cut ls l.name first (other s.inner inner) (other s.outer outer)) rest
          where
            other : (x : List ℕ) → is_among used x ≡ false → same_name x l.name ≡ false
            other x free = name_differs x l.name (λ same. let clash : true ≡ false = sym a.0 ∙ ap (is_among used) (sym same) ∙ free in cc clash)

  used_cut : (used : List (List ℕ)) (ls : List Loop) → AllByRecursion (λ l. is_among used l.name ≡ true) ls →
      AllByRecursion (λ l. is_among (used ++ s.outer ∷ s.inner ∷ []) l.name ≡ true) (flat_map (cut_loop s) ls)
  used_cut used [] a = tt
  used_cut used (l ∷ ls) a = of (same_name l.name s.whole) (used_cut used ls a.1)
    where
      of : (v : Bool) → AllByRecursion (λ m. is_among (used ++ s.outer ∷ s.inner ∷ []) m.name ≡ true) (flat_map (cut_loop s) ls) →
          AllByRecursion (λ m. is_among (used ++ s.outer ∷ s.inner ∷ []) m.name ≡ true) (halves_of v l ++ flat_map (cut_loop s) ls)
      of true rest = (
        among_right used (s.outer ∷ s.inner ∷ []) s.inner (among_second s.outer s.inner),
        (among_right used (s.outer ∷ s.inner ∷ []) s.outer (among_first s.outer (s.inner ∷ [])), rest),
      )
      of false rest = (among_more used (s.outer ∷ s.inner ∷ []) l.name a.0, rest)

-- ---- of marks

names_marked : (m : Mark) (x : List ℕ) (ls : List Loop) → names_of (map (mark_loop m x) ls) ≡ names_of ls
names_marked m x [] = refl
names_marked m x (l ∷ ls) = λ i. one (same_name l.name x) i ∷ names_marked m x ls i
  where
    one : (v : Bool) → Loop.name (if v then record { name = l.name; dimension = l.dimension; within = l.within; mark = Some m } else l) ≡ l.name
    one true = refl
    one false = refl

used_marked : (used : List (List ℕ)) (m : Mark) (x : List ℕ) (ls : List Loop) → AllByRecursion (λ l. is_among used l.name ≡ true) ls →
    AllByRecursion (λ l. is_among used l.name ≡ true) (map (mark_loop m x) ls)
used_marked used m x [] a = tt
used_marked used m x (l ∷ ls) a = (of (same_name l.name x), used_marked used m x ls a.1)
  where
    of : (v : Bool) → is_among used (Loop.name (if v then record { name = l.name; dimension = l.dimension; within = l.within; mark = Some m } else l)) ≡ true
    of true = a.0
    of false = a.0

-- ---- of reorder

-- how many loops have one of these names
places : List (List ℕ) → List Loop → ℕ
places names [] = 0
places names (l ∷ ls) = if is_among names l.name then suc (places names ls) else places names ls

no_places : (ls : List Loop) → places [] ls ≡ 0
unfolding places
no_places [] = refl
no_places (l ∷ ls) = no_places ls

same_places : (x : List ℕ) (xs : List (List ℕ)) (ls : List Loop) → is_among (names_of ls) x ≡ false → places (x ∷ xs) ls ≡ places xs ls
unfolding places
same_places x xs [] e = refl
same_places x xs (l ∷ ls) e =
    let k = or_parts (same_name l.name x) (is_among (names_of ls) x) e in
    let other : same_name x l.name ≡ false = name_differs x l.name (λ same. let clash : true ≡ false = sym (name_same l.name x (sym same)) ∙ k.0 in cc clash) in
    let rest = same_places x xs ls k.1 in
    ap (λ v. if v || is_among xs l.name then suc (places (x ∷ xs) ls) else places (x ∷ xs) ls) other ∙ ap (λ n. if is_among xs l.name then suc n else n) rest

more_places : (xs : List (List ℕ)) (l : Loop) (ls : List Loop) → places xs ls ≤ places xs (l ∷ ls)
unfolding places
more_places xs l ls = of (is_among xs l.name)
  where
    of : (v : Bool) → places xs ls ≤ (if v then suc (places xs ls) else places xs ls)
    of true = omega arith
    of false = omega arith

one_place : (x : List ℕ) (xs : List (List ℕ)) (ls : List Loop) → has_double (names_of ls) ≡ false → places (x ∷ xs) ls ≤ suc (places xs ls)
unfolding places
one_place x xs [] e = omega arith
one_place x xs (l ∷ ls) e =
    let k = or_parts (is_among (names_of ls) l.name) (has_double (names_of ls)) e in of (same_name x l.name) (is_among xs l.name) refl k.0 (one_place x xs ls k.1)
  where
    of : (a b : Bool) → same_name x l.name ≡ a → is_among (names_of ls) l.name ≡ false → places (x ∷ xs) ls ≤ suc (places xs ls) →
        (if a || b then suc (places (x ∷ xs) ls) else places (x ∷ xs) ls) ≤ suc (if b then suc (places xs ls) else places xs ls)
    of true true h first rest = omega (arith, rest)
    of true false h first rest =
        let same = same_places x xs ls (subst (λ y. is_among (names_of ls) y ≡ false) (sym (same_name_is x l.name h)) first) in omega (arith, same)
    of false true h first rest = omega (arith, rest)
    of false false h first rest = rest

few_places : (names : List (List ℕ)) (ls : List Loop) → has_double (names_of ls) ≡ false → places names ls ≤ length names
few_places [] ls e = let none = no_places ls in omega (arith, none)
few_places (x ∷ xs) ls e = let one = one_place x xs ls e in let rest = few_places xs ls e in omega (arith, one, rest)

-- what is not among the next ones, nor the name of a loop that stays, is not among all
not_filled : (names : List (List ℕ)) (next ls : List Loop) (x : List ℕ) → is_among (names_of next) x ≡ false →
    AllByRecursion (λ l. is_among names l.name ≡ false → same_name l.name x ≡ false) ls → places names ls ≤ length next → is_among (names_of (filled names next ls)) x ≡ false
unfolding places
not_filled names next [] x e a few = refl
not_filled names [] (l ∷ ls) x e a few = of (is_among names l.name) refl few (λ k. not_filled names [] ls x e a.1 k)
  where
    of : (v : Bool) → is_among names l.name ≡ v → (if v then suc (places names ls) else places names ls) ≤ 0 → (places names ls ≤ 0 → is_among (names_of (filled names [] ls)) x ≡ false) →
        is_among (names_of (if v then or_next l [] (λ others. filled names others ls) else l ∷ filled names [] ls)) x ≡ false
    of true h k rest = absurd (omega (arith, k))
    of false h k rest = or_none (same_name l.name x) (is_among (names_of (filled names [] ls)) x) (a.0 h) (rest k)
not_filled names (n ∷ ns) (l ∷ ls) x e a few =
    let m = or_parts (same_name n.name x) (is_among (names_of ns) x) e in
    of (is_among names l.name) refl few m.0 (λ k. not_filled names ns ls x m.1 a.1 k) (λ k. not_filled names (n ∷ ns) ls x e a.1 k)
  where
    of : (v : Bool) → is_among names l.name ≡ v → (if v then suc (places names ls) else places names ls) ≤ suc (length ns) → same_name n.name x ≡ false →
        (places names ls ≤ length ns → is_among (names_of (filled names ns ls)) x ≡ false) → (places names ls ≤ suc (length ns) → is_among (names_of (filled names (n ∷ ns) ls)) x ≡ false) →
        is_among (names_of (if v then or_next l (n ∷ ns) (λ others. filled names others ls) else l ∷ filled names (n ∷ ns) ls)) x ≡ false
    of true h k first one two = or_none (same_name n.name x) (is_among (names_of (filled names ns ls)) x) first (one (omega (arith, k)))
    of false h k first one two = or_none (same_name l.name x) (is_among (names_of (filled names (n ∷ ns) ls)) x) (a.0 h) (two k)

-- no loop has the name
others_differ : (ls : List Loop) (x : List ℕ) → is_among (names_of ls) x ≡ false → AllByRecursion (λ m. same_name m.name x ≡ false) ls
others_differ [] x e = tt
others_differ (m ∷ ls) x e = let k = or_parts (same_name m.name x) (is_among (names_of ls) x) e in (k.0, others_differ ls x k.1)

all_of : {A : Type 0} (P : A → Type 0) → ((x : A) → P x) → (xs : List A) → AllByRecursion P xs
all_of P f [] = tt
all_of P f (x ∷ xs) = (f x, all_of P f xs)

single_filled : (names : List (List ℕ)) (next ls : List Loop) → has_double (names_of next) ≡ false → AllByRecursion (λ l. is_among names l.name ≡ true) next → has_double (names_of ls) ≡ false →
    places names ls ≤ length next → has_double (names_of (filled names next ls)) ≡ false
unfolding places
single_filled names next [] d a e few = refl
single_filled names [] (l ∷ ls) d a e few =
    let k = or_parts (is_among (names_of ls) l.name) (has_double (names_of ls)) e in of (is_among names l.name) refl few k.0 (λ i. single_filled names [] ls d a k.1 i)
  where
    of : (v : Bool) → is_among names l.name ≡ v → (if v then suc (places names ls) else places names ls) ≤ 0 → is_among (names_of ls) l.name ≡ false →
        (places names ls ≤ 0 → has_double (names_of (filled names [] ls)) ≡ false) →
        has_double (names_of (if v then or_next l [] (λ others. filled names others ls) else l ∷ filled names [] ls)) ≡ false
    of true h k first rest = absurd (omega (arith, k))
    of false h k first rest =
        or_none (is_among (names_of (filled names [] ls)) l.name) (has_double (names_of (filled names [] ls)))
        (not_filled names [] ls l.name refl
        (all_weaker (λ m. same_name m.name l.name ≡ false) (λ m. is_among names m.name ≡ false → same_name m.name l.name ≡ false) (λ m i j. i) ls (others_differ ls l.name first)) k) (rest k)
single_filled names (n ∷ ns) (l ∷ ls) d a e few =
    let k = or_parts (is_among (names_of ls) l.name) (has_double (names_of ls)) e in
    let m = or_parts (is_among (names_of ns) n.name) (has_double (names_of ns)) d in
    of (is_among names l.name) refl few k.0 m.0 (λ i. single_filled names ns ls m.1 a.1 k.1 i) (λ i. single_filled names (n ∷ ns) ls d a k.1 i)
  where
    of : (v : Bool) → is_among names l.name ≡ v → (if v then suc (places names ls) else places names ls) ≤ suc (length ns) → is_among (names_of ls) l.name ≡ false →
        is_among (names_of ns) n.name ≡ false → (places names ls ≤ length ns → has_double (names_of (filled names ns ls)) ≡ false) →
        (places names ls ≤ suc (length ns) → has_double (names_of (filled names (n ∷ ns) ls)) ≡ false) →
        has_double (names_of (if v then or_next l (n ∷ ns) (λ others. filled names others ls) else l ∷ filled names (n ∷ ns) ls)) ≡ false
    of true h k first second one two =
        let fewer : places names ls ≤ length ns = omega (arith, k) in
        or_none (is_among (names_of (filled names ns ls)) n.name) (has_double (names_of (filled names ns ls)))
        (not_filled names ns ls n.name second
        (all_of (λ o. is_among names o.name ≡ false → same_name o.name n.name ≡ false) (λ o free. name_differs o.name n.name (λ same.
        let clash : true ≡ false = sym a.0 ∙ ap (is_among names) (sym same) ∙ free in cc clash)) ls) fewer) (one fewer)
    of false h k first second one two =
        or_none (is_among (names_of (filled names (n ∷ ns) ls)) l.name) (has_double (names_of (filled names (n ∷ ns) ls)))
        (not_filled names (n ∷ ns) ls l.name (not_used names (n ∷ ns) l.name a h)
        (all_weaker (λ o. same_name o.name l.name ≡ false) (λ o. is_among names o.name ≡ false → same_name o.name l.name ≡ false) (λ o i j. i) ls (others_differ ls l.name first)) k) (two k)

find_at : (ls : List Loop) (x : List ℕ) → has_loop ls x ≡ true → (m : Loop) × (loop_named ls x ≡ Some m) × (m.name ≡ x)
find_at [] x e = absurd (cc e)
find_at (l ∷ ls) x e = of (same_name l.name x) refl e (λ k. find_at ls x k)
  where
    of : (v : Bool) → same_name l.name x ≡ v → (v || has_loop ls x) ≡ true → (has_loop ls x ≡ true → (m : Loop) × (loop_named ls x ≡ Some m) × (m.name ≡ x)) →
        (m : Loop) × ((if v then Some l else loop_named ls x) ≡ Some m) × (m.name ≡ x)
    of true h k rest = (l, refl, same_name_is l.name x h)
    of false h k rest = rest k

-- the loops of these names have these names
named_names : (ls : List Loop) (names : List (List ℕ)) → AllByRecursion (λ x. has_loop ls x ≡ true) names → names_of (loops_named ls names) ≡ names
named_names ls [] a = refl
named_names ls (x ∷ xs) a =
    let m = find_at ls x a.0 in
    ap (λ o. names_of (with_next o (loops_named ls xs))) m.1 ∙ (λ i. m.2 i ∷ named_names ls xs a.1 i)

long_names : (ls : List Loop) → length (names_of ls) ≡ length ls
long_names [] = refl
long_names (l ∷ ls) = ap suc (long_names ls)

single_reordered : (ls : List Loop) (names : List (List ℕ)) → has_double (names_of ls) ≡ false → has_double names ≡ false → AllByRecursion (λ x. has_loop ls x ≡ true) names →
    has_double (names_of (filled names (loops_named ls names) ls)) ≡ false
single_reordered ls names e d a =
    let same = named_names ls names a in
    let next = loops_named ls names in
    let count : length next ≡ length names = sym (long_names next) ∙ ap (λ (l : List (List ℕ)). length l) same in
    let few = few_places names ls e in
    single_filled names next ls (subst (λ l. has_double l ≡ false) (sym same) d)
    (subst (λ l. AllByRecursion (λ m. is_among l m.name ≡ true) next) same (all_among next)) e (omega (arith, count, few))

loops_known : (f : SubjectText) (ls : List Loop) (names : List (List ℕ)) → all_known f ls names ≡ true → any_reduction f names ≡ false → AllByRecursion (λ x. has_loop ls x ≡ true) names
loops_known f ls [] e g = tt
loops_known f ls (x ∷ xs) e g =
    let a = both (is_known f ls x) (all_known f ls xs) e in
    let b = or_parts (is_among f.reductions x) (any_reduction f xs) g in
    (or_other (has_loop ls x) (is_among f.reductions x) a.0 b.0, loops_known f ls xs a.1 b.1)
  where
    both : (a b : Bool) → (a && b) ≡ true → (a ≡ true) × (b ≡ true)
    both true b e = (refl, e)
    both false b e = absurd (cc e)

module _ (f : SubjectText) where
  split_directs : (s : Split) (p q : PlacedText) → split_in f s p ≡ Ok q → AreDirected f p → AreDirected f q
  split_directs s p q e h =
      let a = let_through (not (is_known f p.loops s.whole)) rule.UnknownName (if breaks_split f p s then Err rule.BadSplit else Ok (cut s p)) q e in
      let c = let_through (breaks_split f p s) rule.BadSplit (Ok (cut s p)) q a.1 in
      let known = not_false (is_known f p.loops s.whole) a.0 in
      let tests = none_of (is_among f.reductions s.whole) (is_among p.used s.outer) (is_among p.used s.inner) (same_name s.outer s.inner) (s.factor == 0) (nat_lt 1024 s.factor) c.0 in
      let has = or_other (has_loop p.loops s.whole) (is_among f.reductions s.whole) known tests.0 in
      let most = tests.5 in
      let few : s.factor ≤ 1024 = grind (arith, nat_tests) in
      let at = leaf_named f.variables p.cuts p.loops s.whole h.leaves has in
      let outer = subst (λ (xs : List (List ℕ)). is_among xs s.outer ≡ false) h.used tests.1 in
      let inner = subst (λ (xs : List (List ℕ)). is_among xs s.inner ≡ false) h.used tests.2 in
      subst (AreDirected f) (some_placed (cut s p) q c.1) (record {
        made = made_last f.variables (f.variables ++ f.reductions) p.cuts s at outer inner tests.3 few h.made;
        used = ap (λ (xs : List (List ℕ)). xs ++ s.outer ∷ s.inner ∷ []) h.used ∙ sym (behind_last (f.variables ++ f.reductions) p.cuts s);
        leaves = leaves_cut f.variables p.cuts s p.loops h.leaves;
        single = single_cut s p.used tests.1 tests.2 tests.3 p.loops h.single h.known;
        known = used_cut s p.used p.loops h.known;
      })

  reorder_directs : (names : List (List ℕ)) (p q : PlacedText) → reorder_in f names p ≡ Ok q → AreDirected f p → AreDirected f q
  reorder_directs names p q e h =
      let done = record p { loops = filled names (loops_named p.loops names) p.loops } in
      let a = let_through (not (all_known f p.loops names)) rule.UnknownName (if any_reduction f names || has_double names then Err rule.BadReorder else Ok done) q e in
      let c = let_through (any_reduction f names || has_double names) rule.BadReorder (Ok done) q a.1 in
      let parts = or_parts (any_reduction f names) (has_double names) c.0 in
      let has = loops_known f p.loops names (not_false (all_known f p.loops names) a.0) parts.0 in
      subst (AreDirected f) (some_placed done q c.1) (record {
        made = h.made;
        used = h.used;
        single = single_reordered p.loops names h.single parts.1 has;
        known = all_filled (λ l. is_among p.used l.name ≡ true) names (loops_named p.loops names) p.loops (all_named (λ l. is_among p.used l.name ≡ true) p.loops names h.known) h.known;
        leaves = all_filled (IsLeaf f.variables p.cuts) names (loops_named p.loops names) p.loops (all_named (IsLeaf f.variables p.cuts) p.loops names h.leaves) h.leaves;
      })

  marked_directs : (m : Mark) (x : List ℕ) (p : PlacedText) → AreDirected f p → AreDirected f (marked m x p)
  marked_directs m x p h = record {
    made = h.made;
    used = h.used;
    leaves = leaves_marked f.variables p.cuts m x p.loops h.leaves;
    single = ap has_double (names_marked m x p.loops) ∙ h.single;
    known = used_marked p.used m x p.loops h.known;
  }

  mark_directs : (m : Mark) (x : List ℕ) (p q : PlacedText) → mark_in f m x p ≡ Ok q → AreDirected f p → AreDirected f q
  mark_directs m x p q e h =
      let a = let_through (not (is_known f p.loops x)) rule.UnknownName (if is_among f.reductions x || breaks_mark p.loops x then Err rule.BadMark else Ok (marked m x p)) q e in
      let c = let_through (is_among f.reductions x || breaks_mark p.loops x) rule.BadMark (Ok (marked m x p)) q a.1 in
      subst (AreDirected f) (some_placed (marked m x p) q c.1) (marked_directs m x p h)

  parallel_directs : (x : List ℕ) (p q : PlacedText) → parallel_in f x p ≡ Ok q → AreDirected f p → AreDirected f q
  parallel_directs x p q e h =
      let test = is_among f.reductions x || not f.is_root || breaks_parallel f p.loops x in
      let a = let_through (not (is_known f p.loops x)) rule.UnknownName (if test then Err rule.BadParallel else Ok (marked mark.Parallel x p)) q e in
      let c = let_through test rule.BadParallel (Ok (marked mark.Parallel x p)) q a.1 in
      subst (AreDirected f) (some_placed (marked mark.Parallel x p) q c.1) (marked_directs mark.Parallel x p h)

  next_directs : (o : Result PlacedText Rule) (go : PlacedText → Result PlacedText Rule) (q : PlacedText) → ((p : PlacedText) → o ≡ Ok p → AreDirected f p) →
      ((p : PlacedText) → go p ≡ Ok q → AreDirected f p → AreDirected f q) → and_next o go ≡ Ok q → AreDirected f q
  next_directs (Ok p) go q one two e = two p e (one p refl)
  next_directs (Err r) go q one two e = absurd (cc e)

  tile_directs : (t : Tile) (p q : PlacedText) → tile_in f t p ≡ Ok q → AreDirected f p → AreDirected f q
  tile_directs t p q e h =
      let names = t.x_inner ∷ t.y_inner ∷ t.x_outer ∷ t.y_outer ∷ [] in
      next_directs (and_next (split_in f (x_split t) p) (split_in f (y_split t))) (reorder_in f names) q
      (λ a k. next_directs (split_in f (x_split t) p) (split_in f (y_split t)) a (λ c m. split_directs (x_split t) p c m h) (λ c m g. split_directs (y_split t) c a m g) k)
      (λ a k g. reorder_directs names a q k g) e

  -- where a function is computed and stored changes nothing of this
  same_directs : (p q : PlacedText) → AreDirected f p → p.cuts ≡ q.cuts → p.used ≡ q.used → p.loops ≡ q.loops → AreDirected f q
  same_directs p q h cuts used loops = record {
    made = subst (AreMade f.variables (f.variables ++ f.reductions)) cuts h.made;
    used = sym used ∙ (h.used ∙ ap (behind (f.variables ++ f.reductions)) cuts);
    leaves = subst (λ (cs : List Split). AllByRecursion (IsLeaf f.variables cs) q.loops) cuts (subst (AllByRecursion (IsLeaf f.variables p.cuts)) loops h.leaves);
    single = subst (λ (ls : List Loop). has_double (names_of ls) ≡ false) loops h.single;
    known = subst (λ (xs : List (List ℕ)). AllByRecursion (λ l. is_among xs l.name ≡ true) q.loops) used (subst (AllByRecursion (λ l. is_among p.used l.name ≡ true)) loops h.known);
  }

  applied_directs : (d : DirectiveText) (p q : PlacedText) → applied f d p ≡ Ok q → AreDirected f p → AreDirected f q
  applied_directs compute_root p q e h = subst (AreDirected f) (some_placed p q e) h
  applied_directs (compute_at k) p q e h =
      let r = record p { homes = p.homes ++ k ∷ [] } in
      subst (AreDirected f) (let_in (is_among f.functions k.function) rule.UnknownName r q e) (same_directs p r h refl refl refl)
  applied_directs (store_at k) p q e h =
      let r = record p { stores = p.stores ++ k ∷ [] } in
      subst (AreDirected f) (let_in (is_among f.functions k.function) rule.UnknownName r q e) (same_directs p r h refl refl refl)
  applied_directs (fold k) p q e h =
      let r = record p { folds = p.folds ++ k ∷ [] } in
      subst (AreDirected f) (let_in (is_among f.variables k.dimension) rule.UnknownName r q e) (same_directs p r h refl refl refl)
  applied_directs (split s) p q e h = split_directs s p q e h
  applied_directs (tile t) p q e h = tile_directs t p q e h
  applied_directs (reorder names) p q e h = reorder_directs names p q e h
  applied_directs (unroll x) p q e h = mark_directs mark.Unrolled x p q e h
  applied_directs (vectorize x) p q e h = mark_directs mark.Vectorized x p q e h
  applied_directs (parallel x) p q e h = parallel_directs x p q e h

  all_directs : (ds : List DirectiveText) (p q : PlacedText) → all_in f ds p ≡ Ok q → AreDirected f p → AreDirected f q
  all_directs [] p q e h = subst (AreDirected f) (some_placed p q e) h
  all_directs (d ∷ ds) p q e h = next_directs (applied f d p) (all_in f ds) q (λ a k. applied_directs d p a k h) (λ a k g. all_directs ds a q k g) e

-- ---- before the first directive

get_behind : (before xs : List (List ℕ)) (x : List ℕ) → slice_get (before ++ x ∷ xs) (length before) ≡ Some x
get_behind [] xs x = refl
get_behind (y ∷ before) xs x = get_behind before xs x

start_leaves : (before xs : List (List ℕ)) → AllByRecursion (IsLeaf (before ++ xs) []) (starting (length before) xs)
start_leaves before [] = tt
start_leaves before (x ∷ xs) =
    let next : before ++ x ∷ xs ≡ (before ++ x ∷ []) ++ xs = sym (append_assoc before (x ∷ []) xs) in
    let count : length before + 1 ≡ length (before ++ x ∷ []) = sym (length-append before (x ∷ [])) in (
      record { variable = x; of = get_behind before xs x; end = refl; there = among_right before (x ∷ xs) x (among_first x xs) },
      subst (λ (n : ℕ). AllByRecursion (IsLeaf (before ++ x ∷ xs) []) (starting n xs)) (sym count)
          (subst (λ (l : List (List ℕ)). AllByRecursion (IsLeaf l []) (starting (length (before ++ x ∷ [])) xs)) (sym next) (start_leaves (before ++ x ∷ []) xs)),
    )

starting_names : (d : ℕ) (xs : List (List ℕ)) → names_of (starting d xs) ≡ xs
starting_names d [] = refl
starting_names d (x ∷ xs) = ap (λ l. x ∷ l) (starting_names (d + 1) xs)

-- whatever some directives make of the loops of variables that differ
pub directives_direct : (f : SubjectText) (ds : List DirectiveText) (p : PlacedText) → has_double f.variables ≡ false → all_in f ds (start f) ≡ Ok p → AreDirected f p
directives_direct f ds p single e =
    let first = starting 0 f.variables in
    let names = starting_names 0 f.variables in
    let all : AllByRecursion (λ l. is_among f.variables l.name ≡ true) first = subst (λ xs. AllByRecursion (λ l. is_among xs l.name ≡ true) first) names (all_among first) in
    all_directs f ds (start f) p e (record {
      made = tt;
      used = refl;
      leaves = start_leaves [] f.variables;
      single = ap has_double names ∙ single;
      known = all_weaker (λ l. is_among f.variables l.name ≡ true) (λ l. is_among (f.variables ++ f.reductions) l.name ≡ true) (λ l k. among_more f.variables f.reductions l.name k) first all;
    })
