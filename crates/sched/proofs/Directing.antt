-- What directives make of a function's loops: whatever they are, numbers for all names fit them.
use Rattle.std.proofs.Common.{◌≡◌, ℕ, suc, ◌<◌, ◌≤◌, Bool, true, false, not, ◌&&◌, ◌||◌, List, [], ◌∷◌, ◌++◌, length, map, Option, Some, None, Result, Ok, Err, refl, sym, ap, ◌∙◌, subst, inl, inr, arith}
use Rattle.std.specs.Prelude.{ℤ, ◌==◌, nat_lt, if◌then◌else◌}
use Rattle.std.specs.List.{AllByRecursion}
use Rattle.std.proofs.lemmas.Bool.Decides.{nat_tests}
use Rattle.lin.proofs.TermLemmas.{all_weaker}
use Rattle.meaning.specs.Names.{same_name, is_among}
use Rattle.meaning.proofs.Cases.{name_same, same_name_is}
use Rattle.sched.specs.declared.schedule.Split.{Split}
use Rattle.sched.specs.declared.schedule.Tile.{Tile}
use Rattle.sched.specs.declared.placing.Loop.{Loop}
use Rattle.sched.specs.declared.placing.Mark.{Mark}
use Rattle.sched.specs.declared.placing.Mark.TheVariants as mark
use Rattle.sched.specs.declared.error.Rule.{Rule}
use Rattle.sched.specs.declared.error.Rule.TheVariants as rule
use Rattle.sched.specs.declared.numbers.Extent.{Extent}
use Rattle.sched.specs.declared.numbers.Numbers.{Numbers}
use Rattle.sched.specs.Schedule.{DirectiveText, compute_root, compute_at, store_at, fold, split, tile, reorder, unroll, vectorize, parallel}
use Rattle.sched.specs.Placing.{SubjectText, PlacedText, has_loop, is_known, breaks_split, cut, split_in, has_double, loop_named, with_next, loops_named, or_next, filled, all_known, any_reduction, reorder_in, breaks_mark, mark_loop, marked, mark_in, breaks_parallel, parallel_in, and_next, x_split, y_split, tile_in, applied, all_in}
use Rattle.sched.proofs.Leading.{In}
use Rattle.sched.proofs.Rooting.{IsHeld, AreHeld}
use Rattle.sched.proofs.Arranging.{LoopFits, IsGone, IsArranged, loop_at, split_arranges}

-- ---- other loops of the same names

held_like : (ls ms : List Loop) → ((l : Loop) → In l ls → (m : Loop) × In m ms × (m.name ≡ l.name)) → (cs : List Split) (x : List ℕ) → IsHeld ls cs x → IsHeld ms cs x
held_like ls ms f cs x (inl h) = let m = f h.0 h.1 in inl (m.0, m.1, m.2 ∙ h.2)
held_like ls ms f cs x (inr h) = inr h

all_held_like : (ls ms : List Loop) → ((l : Loop) → In l ls → (m : Loop) × In m ms × (m.name ≡ l.name)) → (cs : List Split) → AreHeld ls cs → AreHeld ms cs
all_held_like ls ms f [] h = tt
all_held_like ls ms f (c ∷ cs) h = (held_like ls ms f cs c.outer h.0, held_like ls ms f cs c.inner h.1, all_held_like ls ms f cs h.2)

module _ (xs first : List (List ℕ)) (region : List Extent) (given : List ℕ → ℤ) (ls : List Loop) (cs : List Split) (used : List (List ℕ)) (h : IsArranged xs first region given ls cs used) where
  rearranged : (ms : List Loop) → AllByRecursion (LoopFits h.rs h.w h.dim used) ms → AllByRecursion (IsGone ms) cs → ((l : Loop) → In l ls → (m : Loop) × In m ms × (m.name ≡ l.name)) →
      IsArranged xs first region given ms cs used
  rearranged ms fit gone f = record {
    rs = h.rs;
    w = h.w;
    b = h.b;
    dim = h.dim;
    numbers = h.numbers;
    loops = fit;
    cuts = h.cuts;
    apart = h.apart;
    gone = gone;
    held = all_held_like ls ms f cs h.held;
    variables = all_weaker (IsHeld ls cs) (IsHeld ms cs) (λ x k. held_like ls ms f cs x k) xs h.variables;
    dimensions = h.dimensions;
    kept = h.kept;
    used_first = h.used_first;
    used_numbers = h.used_numbers;
    used_variables = h.used_variables;
    others = h.others;
  }

-- ---- reorder

all_filled : (P : Loop → Type 0) (names : List (List ℕ)) (next ls : List Loop) → AllByRecursion P next → AllByRecursion P ls → AllByRecursion P (filled names next ls)
all_filled P names next [] a b = tt
all_filled P names [] (l ∷ ls) a b = of (is_among names l.name) (all_filled P names [] ls tt b.1)
  where
    of : (v : Bool) → AllByRecursion P (filled names [] ls) → AllByRecursion P (if v then or_next l [] (λ others. filled names others ls) else l ∷ filled names [] ls)
    of true k = (b.0, k)
    of false k = (b.0, k)
all_filled P names (n ∷ ns) (l ∷ ls) a b = of (is_among names l.name) (all_filled P names ns ls a.1 b.1) (all_filled P names (n ∷ ns) ls a b.1)
  where
    of : (v : Bool) → AllByRecursion P (filled names ns ls) → AllByRecursion P (filled names (n ∷ ns) ls) →
        AllByRecursion P (if v then or_next l (n ∷ ns) (λ others. filled names others ls) else l ∷ filled names (n ∷ ns) ls)
    of true k m = (a.0, k)
    of false k m = (b.0, m)

all_next : (P : Loop → Type 0) (o : Option Loop) (ls : List Loop) → ((l : Loop) → o ≡ Some l → P l) → AllByRecursion P ls → AllByRecursion P (with_next o ls)
all_next P (Some l) ls f a = (f l refl, a)
all_next P None ls f a = a

some_loop : (l m : Loop) → Some l ≡ Some m → l ≡ m
some_loop l m e = cc

found_loop : (P : Loop → Type 0) (ls : List Loop) (x : List ℕ) (l : Loop) → AllByRecursion P ls → loop_named ls x ≡ Some l → P l
found_loop P [] x l a e = absurd (cc e)
found_loop P (m ∷ ls) x l a e = of (same_name m.name x) e (λ k. found_loop P ls x l a.1 k)
  where
    of : (v : Bool) → (if v then Some m else loop_named ls x) ≡ Some l → (loop_named ls x ≡ Some l → P l) → P l
    of true k rest = subst P (some_loop m l k) a.0
    of false k rest = rest k

all_named : (P : Loop → Type 0) (ls : List Loop) (names : List (List ℕ)) → AllByRecursion P ls → AllByRecursion P (loops_named ls names)
all_named P ls [] a = tt
all_named P ls (x ∷ xs) a = all_next P (loop_named ls x) (loops_named ls xs) (λ l e. found_loop P ls x l a e) (all_named P ls xs a)

all_reordered : (P : Loop → Type 0) (ls : List Loop) (names : List (List ℕ)) → AllByRecursion P ls → AllByRecursion P (filled names (loops_named ls names) ls)
all_reordered P ls names a = all_filled P names (loops_named ls names) ls (all_named P ls names a) a

-- how many loops have one of these names
places : List (List ℕ) → List Loop → ℕ
places names [] = 0
places names (l ∷ ls) = if is_among names l.name then suc (places names ls) else places names ls

in_filled : (names : List (List ℕ)) (next ls : List Loop) (l : Loop) → In l ls → is_among names l.name ≡ false → In l (filled names next ls)
in_filled names next [] l m e = absurd m
in_filled names [] (x ∷ ls) l m e = of (is_among names x.name) m (λ k. in_filled names [] ls l k e)
  where
    of : (v : Bool) → In l (x ∷ ls) → (In l ls → In l (filled names [] ls)) → In l (if v then or_next x [] (λ others. filled names others ls) else x ∷ filled names [] ls)
    of true (inl same) rest = inl same
    of true (inr k) rest = inr (rest k)
    of false (inl same) rest = inl same
    of false (inr k) rest = inr (rest k)
in_filled names (n ∷ ns) (x ∷ ls) l m e = of (is_among names x.name) refl m (λ k. in_filled names ns ls l k e) (λ k. in_filled names (n ∷ ns) ls l k e)
  where
    of : (v : Bool) → is_among names x.name ≡ v → In l (x ∷ ls) → (In l ls → In l (filled names ns ls)) → (In l ls → In l (filled names (n ∷ ns) ls)) →
        In l (if v then or_next x (n ∷ ns) (λ others. filled names others ls) else x ∷ filled names (n ∷ ns) ls)
    of true t (inl same) one two = absurd (let clash : true ≡ false = sym t ∙ ap (λ (y : Loop). is_among names y.name) (sym same) ∙ e in cc clash)
    of true t (inr k) one two = inr (one k)
    of false t (inl same) one two = inl same
    of false t (inr k) one two = inr (two k)

in_next : (names : List (List ℕ)) (next ls : List Loop) (l : Loop) → In l next → length next ≤ places names ls → In l (filled names next ls)
unfolding places
in_next names [] ls l m le = absurd m
in_next names (n ∷ ns) [] l m le = absurd (omega (arith, le))
in_next names (n ∷ ns) (x ∷ ls) l m le = of (is_among names x.name) le m (λ k g. in_next names ns ls l k g) (λ g. in_next names (n ∷ ns) ls l m g)
  where
    of : (v : Bool) → suc (length ns) ≤ (if v then suc (places names ls) else places names ls) → In l (n ∷ ns) → (In l ns → length ns ≤ places names ls → In l (filled names ns ls)) →
        (suc (length ns) ≤ places names ls → In l (filled names (n ∷ ns) ls)) →
        In l (if v then or_next x (n ∷ ns) (λ others. filled names others ls) else x ∷ filled names (n ∷ ns) ls)
    of true g (inl same) one two = inl same
    of true g (inr k) one two = inr (one k (omega (arith, g)))
    of false g k one two = inr (two g)

places_grow : (x : List ℕ) (xs : List (List ℕ)) (ls : List Loop) → places xs ls ≤ places (x ∷ xs) ls
unfolding places
places_grow x xs [] = omega arith
places_grow x xs (l ∷ ls) = of (same_name x l.name) (is_among xs l.name) (places_grow x xs ls)
  where
    of : (u v : Bool) → places xs ls ≤ places (x ∷ xs) ls → (if v then suc (places xs ls) else places xs ls) ≤ (if u || v then suc (places (x ∷ xs) ls) else places (x ∷ xs) ls)
    of true true k = omega (arith, k)
    of true false k = omega (arith, k)
    of false true k = omega (arith, k)
    of false false k = k

places_more : (x : List ℕ) (xs : List (List ℕ)) (ls : List Loop) → has_loop ls x ≡ true → is_among xs x ≡ false → suc (places xs ls) ≤ places (x ∷ xs) ls
unfolding places
places_more x xs [] e f = absurd (cc e)
places_more x xs (l ∷ ls) e f = of (same_name l.name x) (same_name x l.name) (is_among xs l.name) refl refl refl e (places_grow x xs ls) (λ k. places_more x xs ls k f)
  where
    of : (t u v : Bool) → same_name l.name x ≡ t → same_name x l.name ≡ u → is_among xs l.name ≡ v → (t || has_loop ls x) ≡ true → places xs ls ≤ places (x ∷ xs) ls →
        (has_loop ls x ≡ true → suc (places xs ls) ≤ places (x ∷ xs) ls) →
        suc (if v then suc (places xs ls) else places xs ls) ≤ (if u || v then suc (places (x ∷ xs) ls) else places (x ∷ xs) ls)
    of true u true is back among g k rest = absurd (let same = same_name_is l.name x is in let clash : true ≡ false = sym among ∙ ap (is_among xs) same ∙ f in cc clash)
    of true true false is back among g k rest = omega (arith, k)
    of true false false is back among g k rest = absurd (let same = name_same x l.name (sym (same_name_is l.name x is)) in let clash : true ≡ false = sym same ∙ back in cc clash)
    of false true true is back among g k rest = let m = rest g in omega (arith, m)
    of false true false is back among g k rest = let m = rest g in omega (arith, m)
    of false false true is back among g k rest = let m = rest g in omega (arith, m)
    of false false false is back among g k rest = rest g

pub or_parts : (a b : Bool) → (a || b) ≡ false → (a ≡ false) × (b ≡ false)
or_parts true b e = absurd (cc e)
or_parts false b e = (refl, e)

many_places : (names : List (List ℕ)) (ls : List Loop) → has_double names ≡ false → AllByRecursion (λ x. has_loop ls x ≡ true) names → length names ≤ places names ls
many_places [] ls e a = omega arith
many_places (x ∷ xs) ls e a =
    let k = or_parts (is_among xs x) (has_double xs) e in
    let rest = many_places xs ls k.1 a.1 in
    let one = places_more x xs ls a.0 k.0 in
    omega (arith, rest, one)

few_next : (o : Option Loop) (ls : List Loop) → length (with_next o ls) ≤ suc (length ls)
few_next (Some l) ls = omega arith
few_next None ls = omega arith

few_named : (ls : List Loop) (names : List (List ℕ)) → length (loops_named ls names) ≤ length names
few_named ls [] = omega arith
few_named ls (x ∷ xs) = let a = few_next (loop_named ls x) (loops_named ls xs) in let b = few_named ls xs in omega (arith, a, b)

has_in : (ls : List Loop) (l : Loop) → In l ls → has_loop ls l.name ≡ true
has_in [] l m = absurd m
has_in (x ∷ ls) l (inl same) = let e = name_same x.name l.name (ap (λ (y : Loop). y.name) (sym same)) in ap (λ v. v || has_loop ls l.name) e
has_in (x ∷ ls) l (inr m) = of (same_name x.name l.name) (has_in ls l m)
  where
    of : (v : Bool) → has_loop ls l.name ≡ true → (v || has_loop ls l.name) ≡ true
    of true k = refl
    of false k = k

find_at : (ls : List Loop) (x : List ℕ) → has_loop ls x ≡ true → (m : Loop) × (loop_named ls x ≡ Some m) × (m.name ≡ x)
find_at [] x e = absurd (cc e)
find_at (l ∷ ls) x e = of (same_name l.name x) refl e (λ k. find_at ls x k)
  where
    of : (v : Bool) → same_name l.name x ≡ v → (v || has_loop ls x) ≡ true → (has_loop ls x ≡ true → (m : Loop) × (loop_named ls x ≡ Some m) × (m.name ≡ x)) →
        (m : Loop) × ((if v then Some l else loop_named ls x) ≡ Some m) × (m.name ≡ x)
    of true h k rest = (l, refl, same_name_is l.name x h)
    of false h k rest = rest k

in_with_next : (o : Option Loop) (ls : List Loop) (l : Loop) → In l ls → In l (with_next o ls)
in_with_next (Some m) ls l k = inr k
in_with_next None ls l k = k

in_named : (ls : List Loop) (names : List (List ℕ)) (x : List ℕ) → has_loop ls x ≡ true → is_among names x ≡ true → (m : Loop) × In m (loops_named ls names) × (m.name ≡ x)
in_named ls [] x has e = absurd (cc e)
in_named ls (y ∷ ys) x has e = of (same_name y x) refl e (λ k. in_named ls ys x has k)
  where
    of : (v : Bool) → same_name y x ≡ v → (v || is_among ys x) ≡ true → (is_among ys x ≡ true → (m : Loop) × In m (loops_named ls ys) × (m.name ≡ x)) →
        (m : Loop) × In m (with_next (loop_named ls y) (loops_named ls ys)) × (m.name ≡ x)
    of true h k rest =
        let same = same_name_is y x h in
        let m = find_at ls y (subst (λ z. has_loop ls z ≡ true) (sym same) has) in
        (m.0, subst (λ o. In m.0 (with_next o (loops_named ls ys))) (sym m.1) (inl refl), m.2 ∙ same)
    of false h k rest = let m = rest k in (m.0, in_with_next (loop_named ls y) (loops_named ls ys) m.0 m.1, m.2)

-- each loop's name is that of a loop behind a reorder
reordered : (ls : List Loop) (names : List (List ℕ)) → has_double names ≡ false → AllByRecursion (λ x. has_loop ls x ≡ true) names → (l : Loop) → In l ls →
    (m : Loop) × In m (filled names (loops_named ls names) ls) × (m.name ≡ l.name)
reordered ls names single known l k = of (is_among names l.name) refl
  where
    of : (v : Bool) → is_among names l.name ≡ v → (m : Loop) × In m (filled names (loops_named ls names) ls) × (m.name ≡ l.name)
    of true e =
        let m = in_named ls names l.name (has_in ls l k) e in
        let a = few_named ls names in
        let b = many_places names ls single known in
        (m.0, in_next names (loops_named ls names) ls m.0 m.1 (omega (arith, a, b)), m.2)
    of false e = (l, in_filled names (loops_named ls names) ls l k e, refl)

-- ---- marks

mark_name : (m : Mark) (x : List ℕ) (l : Loop) → (mark_loop m x l).name ≡ l.name
mark_name m x l = of (same_name l.name x)
  where
    of : (v : Bool) → Loop.name (if v then record { name = l.name; dimension = l.dimension; within = l.within; mark = Some m } else l) ≡ l.name
    of true = refl
    of false = refl

mark_fits : (rs : List Numbers) (w : List ℕ → ℤ) (dim : List ℕ → ℕ) (used : List (List ℕ)) (m : Mark) (x : List ℕ) (l : Loop) → LoopFits rs w dim used l → LoopFits rs w dim used (mark_loop m x l)
mark_fits rs w dim used m x l h = of (same_name l.name x)
  where
    of : (v : Bool) → LoopFits rs w dim used (if v then record { name = l.name; dimension = l.dimension; within = l.within; mark = Some m } else l)
    of true = record { is = record { dimension = h.is.dimension; low = h.is.low; last = h.is.last }; used_up = h.used_up; found = h.found }
    of false = h

all_marked : (P : Loop → Type 0) (m : Mark) (x : List ℕ) → ((l : Loop) → P l → P (mark_loop m x l)) → (ls : List Loop) → AllByRecursion P ls → AllByRecursion P (map (mark_loop m x) ls)
all_marked P m x f [] a = tt
all_marked P m x f (l ∷ ls) a = (f l a.0, all_marked P m x f ls a.1)

in_marked : (m : Mark) (x : List ℕ) (ls : List Loop) (l : Loop) → In l ls → (k : Loop) × In k (map (mark_loop m x) ls) × (k.name ≡ l.name)
in_marked m x [] l k = absurd k
in_marked m x (y ∷ ls) l (inl same) = (mark_loop m x y, inl refl, mark_name m x y ∙ ap (λ (z : Loop). z.name) (sym same))
in_marked m x (y ∷ ls) l (inr k) = let r = in_marked m x ls l k in (r.0, inr r.1, r.2)

-- ---- directives

some_placed : (p q : PlacedText) → ◌≡◌ {A = Result PlacedText Rule} (Ok p) (Ok q) → p ≡ q
some_placed p q e = cc

-- what a test lets through
let_through : (v : Bool) (r : Rule) (o : Result PlacedText Rule) (q : PlacedText) → (if v then Err r else o) ≡ Ok q → (v ≡ false) × (o ≡ Ok q)
let_through true r o q e = absurd (cc e)
let_through false r o q e = (refl, e)

let_in : (v : Bool) (r : Rule) (p q : PlacedText) → ◌≡◌ {A = Result PlacedText Rule} (if v then Ok p else Err r) (Ok q) → p ≡ q
let_in true r p q e = some_placed p q e
let_in false r p q e = absurd (cc e)

none_of : (a b c d e g : Bool) → (a || b || c || d || e || g) ≡ false → (a ≡ false) × (b ≡ false) × (c ≡ false) × (d ≡ false) × (e ≡ false)
none_of false false false false false g h = (refl, refl, refl, refl, refl)
none_of true b c d e g h = absurd (cc h)
none_of false true c d e g h = absurd (cc h)
none_of false false true d e g h = absurd (cc h)
none_of false false false true e g h = absurd (cc h)
none_of false false false false true g h = absurd (cc h)

not_false : (v : Bool) → not v ≡ false → v ≡ true
not_false true e = refl
not_false false e = absurd (cc e)

or_other : (a b : Bool) → (a || b) ≡ true → b ≡ false → a ≡ true
or_other true b e f = refl
or_other false b e f = absurd (let clash : true ≡ false = sym e ∙ f in cc clash)

loops_known : (f : SubjectText) (ls : List Loop) (names : List (List ℕ)) → all_known f ls names ≡ true → any_reduction f names ≡ false → AllByRecursion (λ x. has_loop ls x ≡ true) names
loops_known f ls [] e g = tt
loops_known f ls (x ∷ xs) e g =
    let a = both (is_known f ls x) (all_known f ls xs) e in
    let b = or_parts (is_among f.reductions x) (any_reduction f xs) g in
    (or_other (has_loop ls x) (is_among f.reductions x) a.0 b.0, loops_known f ls xs a.1 b.1)
  where
    both : (a b : Bool) → (a && b) ≡ true → (a ≡ true) × (b ≡ true)
    both true b e = (refl, e)
    both false b e = absurd (cc e)

module _ (f : SubjectText) (first : List (List ℕ)) (region : List Extent) (given : List ℕ → ℤ) where
  abbrev pub Arranged : PlacedText → Type 0
  Arranged p = IsArranged f.variables first region given p.loops p.cuts p.used

  split_keeps : (s : Split) (p q : PlacedText) → split_in f s p ≡ Ok q → Arranged p → Arranged q
  split_keeps s p q e h =
      let a = let_through (not (is_known f p.loops s.whole)) rule.UnknownName (if breaks_split f p s then Err rule.BadSplit else Ok (cut s p)) q e in
      let c = let_through (breaks_split f p s) rule.BadSplit (Ok (cut s p)) q a.1 in
      let known = not_false (is_known f p.loops s.whole) a.0 in
      let tests = none_of (is_among f.reductions s.whole) (is_among p.used s.outer) (is_among p.used s.inner) (same_name s.outer s.inner) (s.factor == 0) (nat_lt 1024 s.factor) c.0 in
      let loop = loop_at p.loops s.whole (or_other (has_loop p.loops s.whole) (is_among f.reductions s.whole) known tests.0) in
      let zero_not = tests.4 in
      let some : 0 < s.factor = grind (arith, nat_tests) in
      let differ : s.outer ≡ s.inner → ⊥ = λ same. let clash : true ≡ false = sym (name_same s.outer s.inner same) ∙ tests.3 in cc clash in
      subst Arranged (some_placed (cut s p) q c.1)
      (split_arranges f.variables first region given p.loops p.cuts p.used h s loop.0 loop.1 loop.2 tests.1 tests.2 differ some)

  reorder_keeps : (names : List (List ℕ)) (p q : PlacedText) → reorder_in f names p ≡ Ok q → Arranged p → Arranged q
  reorder_keeps names p q e h =
      let done = record p { loops = filled names (loops_named p.loops names) p.loops } in
      let a = let_through (not (all_known f p.loops names)) rule.UnknownName (if any_reduction f names || has_double names then Err rule.BadReorder else Ok done) q e in
      let c = let_through (any_reduction f names || has_double names) rule.BadReorder (Ok done) q a.1 in
      let tests = or_parts (any_reduction f names) (has_double names) c.0 in
      let known = loops_known f p.loops names (not_false (all_known f p.loops names) a.0) tests.0 in
      let ms = filled names (loops_named p.loops names) p.loops in
      subst Arranged (some_placed done q c.1)
      (rearranged f.variables first region given p.loops p.cuts p.used h ms (all_reordered (LoopFits h.rs h.w h.dim p.used) p.loops names h.loops)
      (all_weaker (IsGone p.loops) (IsGone ms) (λ c g. all_reordered (λ l. c.whole ≡ l.name → ⊥) p.loops names g) p.cuts h.gone) (reordered p.loops names tests.1 known))

  marked_keeps : (m : Mark) (x : List ℕ) (p : PlacedText) → Arranged p → Arranged (marked m x p)
  marked_keeps m x p h =
      let ms = map (mark_loop m x) p.loops in
      rearranged f.variables first region given p.loops p.cuts p.used h ms (all_marked (LoopFits h.rs h.w h.dim p.used) m x (λ l k. mark_fits h.rs h.w h.dim p.used m x l k) p.loops h.loops)
      (all_weaker (IsGone p.loops) (IsGone ms) (λ c g. all_marked (λ l. c.whole ≡ l.name → ⊥) m x (λ l ne e. ne (e ∙ mark_name m x l)) p.loops g) p.cuts h.gone) (in_marked m x p.loops)

  mark_keeps : (m : Mark) (x : List ℕ) (p q : PlacedText) → mark_in f m x p ≡ Ok q → Arranged p → Arranged q
  mark_keeps m x p q e h =
      let a = let_through (not (is_known f p.loops x)) rule.UnknownName (if is_among f.reductions x || breaks_mark p.loops x then Err rule.BadMark else Ok (marked m x p)) q e in
      let c = let_through (is_among f.reductions x || breaks_mark p.loops x) rule.BadMark (Ok (marked m x p)) q a.1 in
      subst Arranged (some_placed (marked m x p) q c.1) (marked_keeps m x p h)

  parallel_keeps : (x : List ℕ) (p q : PlacedText) → parallel_in f x p ≡ Ok q → Arranged p → Arranged q
  parallel_keeps x p q e h =
      let test = is_among f.reductions x || not f.is_root || breaks_parallel f p.loops x in
      let a = let_through (not (is_known f p.loops x)) rule.UnknownName (if test then Err rule.BadParallel else Ok (marked mark.Parallel x p)) q e in
      let c = let_through test rule.BadParallel (Ok (marked mark.Parallel x p)) q a.1 in
      subst Arranged (some_placed (marked mark.Parallel x p) q c.1) (marked_keeps mark.Parallel x p h)

  next_keeps : (o : Result PlacedText Rule) (go : PlacedText → Result PlacedText Rule) (q : PlacedText) → ((p : PlacedText) → o ≡ Ok p → Arranged p) →
      ((p : PlacedText) → go p ≡ Ok q → Arranged p → Arranged q) → and_next o go ≡ Ok q → Arranged q
  next_keeps (Ok p) go q one two e = two p e (one p refl)
  next_keeps (Err r) go q one two e = absurd (cc e)

  tile_keeps : (t : Tile) (p q : PlacedText) → tile_in f t p ≡ Ok q → Arranged p → Arranged q
  tile_keeps t p q e h =
      let names = t.x_inner ∷ t.y_inner ∷ t.x_outer ∷ t.y_outer ∷ [] in
      next_keeps (and_next (split_in f (x_split t) p) (split_in f (y_split t))) (reorder_in f names) q
      (λ a k. next_keeps (split_in f (x_split t) p) (split_in f (y_split t)) a (λ c m. split_keeps (x_split t) p c m h) (λ c m g. split_keeps (y_split t) c a m g) k)
      (λ a k g. reorder_keeps names a q k g) e

  applied_keeps : (d : DirectiveText) (p q : PlacedText) → applied f d p ≡ Ok q → Arranged p → Arranged q
  applied_keeps compute_root p q e h = subst Arranged (some_placed p q e) h
  applied_keeps (compute_at k) p q e h = subst Arranged (let_in (is_among f.functions k.function) rule.UnknownName (record p { homes = p.homes ++ k ∷ [] }) q e) h
  applied_keeps (store_at k) p q e h = subst Arranged (let_in (is_among f.functions k.function) rule.UnknownName (record p { stores = p.stores ++ k ∷ [] }) q e) h
  applied_keeps (fold k) p q e h = subst Arranged (let_in (is_among f.variables k.dimension) rule.UnknownName (record p { folds = p.folds ++ k ∷ [] }) q e) h
  applied_keeps (split s) p q e h = split_keeps s p q e h
  applied_keeps (tile t) p q e h = tile_keeps t p q e h
  applied_keeps (reorder names) p q e h = reorder_keeps names p q e h
  applied_keeps (unroll x) p q e h = mark_keeps mark.Unrolled x p q e h
  applied_keeps (vectorize x) p q e h = mark_keeps mark.Vectorized x p q e h
  applied_keeps (parallel x) p q e h = parallel_keeps x p q e h

  pub directives_keep : (ds : List DirectiveText) (p q : PlacedText) → all_in f ds p ≡ Ok q → Arranged p → Arranged q
  directives_keep [] p q e h = subst Arranged (some_placed p q e) h
  directives_keep (d ∷ ds) p q e h = next_keeps (applied f d p) (all_in f ds) q (λ a k. applied_keeps d p a k h) (λ a k g. directives_keep ds a q k g) e
