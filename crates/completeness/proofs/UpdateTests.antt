-- What the tests of nests of updates read: coordinates that are found by an expression, and the loops of reduction variables.
use Rattle.std.proofs.Common.{◌≡◌, ℕ, suc, ◌+◌, ◌≤◌, ◌^◌, Bool, true, false, ◌&&◌, ◌||◌, List, [], ◌∷◌, ◌++◌, length, map, Option, Some, None}
use Rattle.std.proofs.Common.{refl, sym, ap, ◌∙◌, subst, arith}
use Rattle.std.specs.Prelude.{ℤ, reverse, slice_get}
use Rattle.std.specs.List.{AllByRecursion, list_any}
use Rattle.std.specs.Int.RustNames.{unsigned_abs}
use Rattle.std.proofs.lemmas.Int.{ints}
use Rattle.std.proofs.lemmas.List.{reverse-append}
use Rattle.tree.specs.Term.{Term}
use Rattle.lin.specs.Forms.{Form, number}
use Rattle.lin.proofs.TermLemmas.{all_weaker}
use Rattle.plan.specs.Plan.{Index, At, Found, Coordinate}
use Rattle.meaning.specs.Algorithm.{Range}
use Rattle.meaning.specs.Conditions.{IsRange}
use Rattle.meaning.specs.Names.{same_name}
use Rattle.soundness.specs.Obligations.{Binder, Rules}
use Rattle.soundness.specs.Nests.Nest.{index_is, is_symbol}
use Rattle.soundness.specs.Nests.Tests.{is_whole, are_whole}
use Rattle.soundness.proofs.Refines.{name_refl}
use Rattle.rules.specs.Bounding.Scopes.{scope_of, shown_at_most}
use Rattle.sched.specs.declared.nest.Turning.{Turning}
use Rattle.sched.specs.Standing.{alone}
use Rattle.sched.specs.Skeleton.{span, range_turning}
use Rattle.sched.specs.Loading.{Loads}
use Rattle.blocks.specs.Bodies.{IsIndex}
use Rattle.completeness.proofs.GridScope.{number_limited}
use Rattle.completeness.proofs.SelfBounds.{form_self}
use Rattle.completeness.proofs.PlainTurns.{one_if, hits, turn_name, found_at}
use Rattle.completeness.proofs.PlainTests.{limited_loops, here_is}
use Rattle.completeness.proofs.PureNests.{all_back}
use Rattle.completeness.proofs.UpdateTurns.{range_name, hits_in, all_mapped}
use Rattle.std.proofs.Common.{◌≡◌, ℕ, ◌+◌, List, [], ◌∷◌, refl, ap}
use Rattle.lin.specs.Forms.{Form}
use Rattle.sched.specs.Skeleton.{span}
use Rattle.completeness.proofs.PlainTests.{limited_loops}
use Rattle.std.proofs.Common.{◌≡◌, ℕ, zero, suc, ◌≤◌, List, [], ◌∷◌, ◌++◌, length, take, drop}
use Rattle.std.proofs.Common.{Option, refl, ap, arith}
use Rattle.lin.specs.Forms.{Form}
use Rattle.plan.specs.Plan.{Coordinate}
use Rattle.sched.specs.Bodies.{other_lefts}
use Rattle.blocks.specs.Bodies.{AreCoordinates}

-- ---- coordinates

-- the coordinate is the symbol of the loop of this name
abbrev pub ReadsOne : ℕ → List Turning → Coordinate → List ℕ → Type 0
ReadsOne n ts c x = (i : ℕ) × (found_at ts x ≡ Some i) × (c.index ≡ At (alone (n + i)))

-- each is so, or found by an expression
abbrev pub ReadsIf : ℕ → List Turning → List Coordinate → List (Option (List ℕ)) → Type 0
ReadsIf n ts [] [] = Unit {0}
ReadsIf n ts [] (o ∷ os) = ⊥
ReadsIf n ts (c ∷ cs) [] = ⊥
ReadsIf n ts (c ∷ cs) (None ∷ os) = ((e : Term) × (c.index ≡ Found e)) × ReadsIf n ts cs os
ReadsIf n ts (c ∷ cs) (Some x ∷ os) = ReadsOne n ts c x × ReadsIf n ts cs os

found_is : (c : Coordinate) (e : Term) (s : ℕ) → c.index ≡ Found e → is_symbol s c ≡ false
found_is c e s q = ap (index_is s) q

module _ (n : ℕ) (ts : List Turning) (few : (y : List ℕ) → hits turn_name y ts ≤ 1) where
  module _ (j : ℕ) (t : Turning) (at : slice_get ts j ≡ Some t) where
    pub none_if : (cs : List Coordinate) (os : List (Option (List ℕ))) → ReadsIf n ts cs os → hits_in t.name os ≡ 0 → list_any (is_symbol (n + j)) cs ≡ false
    none_if [] [] r h = refl
    none_if [] (o ∷ os) r h = absurd r
    none_if (c ∷ cs) [] r h = absurd r
    none_if (c ∷ cs) (None ∷ os) r h = (let here = found_is c r.0.0 (n + j) r.0.1 in let rest = none_if cs os r.1 h in λ i. here i || rest i)
    none_if (c ∷ cs) (Some x ∷ os) r h = of (same_name x t.name) (here_is n ts few j t at c x r.0) h (λ e. none_if cs os r.1 e)
      where
        of : (b : Bool) → is_symbol (n + j) c ≡ b → one_if b + hits_in t.name os ≡ 0 → (hits_in t.name os ≡ 0 → list_any (is_symbol (n + j)) cs ≡ false) →
            list_any (is_symbol (n + j)) (c ∷ cs) ≡ false
        of true e k rest = absurd (omega (arith, k))
        of false e k rest = (let more = rest (omega (arith, k)) in λ i. e i || more i)

    pub some_if : (cs : List Coordinate) (os : List (Option (List ℕ))) → ReadsIf n ts cs os → 1 ≤ hits_in t.name os → list_any (is_symbol (n + j)) cs ≡ true
    some_if [] [] r h = absurd (omega (arith, h))
    some_if [] (o ∷ os) r h = absurd r
    some_if (c ∷ cs) [] r h = absurd r
    some_if (c ∷ cs) (None ∷ os) r h = (let rest = some_if cs os r.1 h in ap (λ (b : Bool). is_symbol (n + j) c || b) rest ∙ either (is_symbol (n + j) c))
      where
        either : (b : Bool) → (b || true) ≡ true
        either true = refl
        either false = refl
    some_if (c ∷ cs) (Some x ∷ os) r h = of (same_name x t.name) (here_is n ts few j t at c x r.0) h (λ e. some_if cs os r.1 e)
      where
        of : (b : Bool) → is_symbol (n + j) c ≡ b → 1 ≤ one_if b + hits_in t.name os → (1 ≤ hits_in t.name os → list_any (is_symbol (n + j)) cs ≡ true) →
            list_any (is_symbol (n + j)) (c ∷ cs) ≡ true
        of true e k rest = ap (λ (b : Bool). b || list_any (is_symbol (n + j)) cs) e
        of false e k rest = (let more = rest (omega (arith, k)) in λ i. e i || more i)

-- ---- the loops of a reduction

-- the turnings, coordinates and ranges of reduction variables
abbrev pub Along : ℕ → List Turning → List Turning → List Coordinate → List Range → Type 0
Along n all [] [] [] = Unit {0}
Along n all [] [] (d ∷ ds) = ⊥
Along n all [] (c ∷ cs) ds = ⊥
Along n all (t ∷ ts) [] ds = ⊥
Along n all (t ∷ ts) (c ∷ cs) [] = ⊥
Along n all (t ∷ ts) (c ∷ cs) (d ∷ ds) = (ReadsOne n all c t.name × (t.low ≡ d.low) × (t.last ≡ d.high)) × Along n all ts cs ds

along_joined : (n : ℕ) (all ts us : List Turning) (cs es : List Coordinate) (ds fs : List Range) → Along n all ts cs ds → Along n all us es fs → Along n all (ts ++ us) (cs ++ es) (ds ++ fs)
along_joined n all [] us [] es [] fs h k = k
along_joined n all [] us [] es (d ∷ ds) fs h k = absurd h
along_joined n all [] us (c ∷ cs) es ds fs h k = absurd h
along_joined n all (t ∷ ts) us [] es ds fs h k = absurd h
along_joined n all (t ∷ ts) us (c ∷ cs) es [] fs h k = absurd h
along_joined n all (t ∷ ts) us (c ∷ cs) es (d ∷ ds) fs h k = (h.0, along_joined n all ts us cs es ds fs h.1 k)

pub along_back : (n : ℕ) (all ts : List Turning) (cs : List Coordinate) (ds : List Range) → Along n all ts cs ds → Along n all (reverse ts) (reverse cs) (reverse ds)
along_back n all [] [] [] h = tt
along_back n all [] [] (d ∷ ds) h = absurd h
along_back n all [] (c ∷ cs) ds h = absurd h
along_back n all (t ∷ ts) [] ds h = absurd h
along_back n all (t ∷ ts) (c ∷ cs) [] h = absurd h
along_back n all (t ∷ ts) (c ∷ cs) (d ∷ ds) h =
    let one = reverse-append (t ∷ []) ts in
    let two = reverse-append (c ∷ []) cs in
    let three = reverse-append (d ∷ []) ds in
    let there = along_joined n all (reverse ts) (t ∷ []) (reverse cs) (c ∷ []) (reverse ds) (d ∷ []) (along_back n all ts cs ds h.1) (h.0, tt) in
    subst (λ (us : List Turning). Along n all us (reverse (c ∷ cs)) (reverse (d ∷ ds))) (sym one)
    (subst (λ (es : List Coordinate). Along n all (reverse ts ++ t ∷ []) es (reverse (d ∷ ds))) (sym two)
    (subst (λ (fs : List Range). Along n all (reverse ts ++ t ∷ []) (reverse cs ++ c ∷ []) fs) (sym three) there))

-- ends near enough for forms
pub record IsNearTurn (t : Turning) : Type 0 where
  pub near : unsigned_abs t.low ≤ 2 ^ 40
  pub last_near : unsigned_abs t.last ≤ 2 ^ 40

module _ (rules : Rules) (bound : rules.at_most ≡ shown_at_most) (bs : List Binder) where
  number_same : (y z : ℤ) → y ≡ z → unsigned_abs y ≤ 2 ^ 40 → rules.at_most bs (number y) (number z) ≡ true
  number_same y z e near = (λ i. bound i bs (number y) (number (sym e i))) ∙ form_self (scope_of bs) (number y) (number_limited y near)

  whole_one : (t : Turning) (d : Range) → IsNearTurn t → t.low ≡ d.low → t.last ≡ d.high → is_whole rules bs (span t.low t.last []) d ≡ true
  whole_one t d near low last =
      let low_near : unsigned_abs d.low ≤ 2 ^ 40 = subst (λ (z : ℤ). unsigned_abs z ≤ 2 ^ 40) low near.near in
      let high_near : unsigned_abs d.high ≤ 2 ^ 40 = subst (λ (z : ℤ). unsigned_abs z ≤ 2 ^ 40) last near.last_near in
      let a = number_same d.low t.low (sym low) low_near in
      let b = number_same t.last d.high last near.last_near in
      let c = number_same t.low d.low low near.near in
      let e = number_same d.high t.last (sym last) high_near in
      λ i. (((a i || false) && true) && ((b i || false) && true)) && (((c i || false) && true) && ((e i || false) && true))

module _ (lim : ℕ → List Form) (n : ℕ) (all : List Turning) (few : (y : List ℕ) → hits turn_name y all ≤ 1) (rules : Rules) (bound : rules.at_most ≡ shown_at_most) (bs : List Binder) where
  pub whole_all : (off : ℕ) (ts : List Turning) (cs : List Coordinate) (ds : List Range) → ((k : ℕ) (t : Turning) → slice_get ts k ≡ Some t → slice_get all (off + k) ≡ Some t) →
      ((k : ℕ) (t : Turning) → slice_get ts k ≡ Some t → lim (n + (off + k)) ≡ []) → AllByRecursion IsNearTurn ts → Along n all ts cs ds →
      are_whole rules bs (limited_loops lim (n + off) ts) cs ds ≡ true
  whole_all off [] [] [] stands bare near h = refl
  whole_all off [] [] (d ∷ ds) stands bare near h = absurd h
  whole_all off [] (c ∷ cs) ds stands bare near h = absurd h
  whole_all off (t ∷ ts) [] ds stands bare near h = absurd h
  whole_all off (t ∷ ts) (c ∷ cs) [] stands bare near h = absurd h
  whole_all off (t ∷ ts) (c ∷ cs) (d ∷ ds) stands bare near h =
      let none : off + 0 ≡ off = omega arith in
      let there : slice_get all off ≡ Some t = ap (slice_get all) (sym none) ∙ stands 0 t refl in
      let symbol : is_symbol (n + off) c ≡ true = here_is n all few off t there c t.name h.0.0 ∙ name_refl t.name in
      let free : lim (n + off) ≡ [] = ap (λ (k : ℕ). lim (n + k)) (sym none) ∙ bare 0 t refl in
      let one : is_whole rules bs (span t.low t.last (lim (n + off))) d ≡ true = ap (λ (fs : List Form). is_whole rules bs (span t.low t.last fs) d) free
      ∙ whole_one rules bound bs t d near.0 h.0.1 h.0.2 in
      let next : n + (off + 1) ≡ (n + off) + 1 = omega arith in
      let rest : are_whole rules bs (limited_loops lim ((n + off) + 1) ts) cs ds ≡ true = subst (λ (m : ℕ). are_whole rules bs (limited_loops lim m ts) cs ds ≡ true) next
      (whole_all (off + 1) ts cs ds (λ k u e. let place : off + suc k ≡ (off + 1) + k = omega arith in ap (slice_get all) (sym place) ∙ stands (suc k) u e)
      (λ k u e. let place : off + suc k ≡ (off + 1) + k = omega arith in ap (λ (m : ℕ). lim (n + m)) (sym place) ∙ bare (suc k) u e) near.1 h.1) in
      λ i. symbol i && (one i && rest i)

-- ---- coordinates as lines have them

pub none_index : (ms : Loads) (left : Option Term) (i : Index) → IsIndex ms None left i → (e : Term) × (i ≡ Found e)
none_index ms left (At g) h = absurd h
none_index ms left (Found e) h = (e, refl)

pub along_ranges : (n : ℕ) (ts : List Turning) (ds : List Range) (cs : List Coordinate) → ReadsIf n ts cs (map range_name ds) → Along n ts (map range_turning ds) cs ds
along_ranges n ts [] [] r = tt
along_ranges n ts [] (c ∷ cs) r = absurd r
along_ranges n ts (d ∷ ds) [] r = absurd r
along_ranges n ts (d ∷ ds) (c ∷ cs) r = ((r.0, refl, refl), along_ranges n ts ds cs r.1)

pub near_ranges : (ds : List Range) → AllByRecursion IsRange ds → AllByRecursion IsNearTurn (reverse (map range_turning ds))
near_ranges ds h = all_back IsNearTurn (map range_turning ds) (all_mapped range_turning IsNearTurn ds (all_weaker IsRange (λ d. IsNearTurn (range_turning d)) one ds h))
  where
    one : (d : Range) → IsRange d → IsNearTurn (range_turning d)
    one d is =
        let from = is.from in
        let rises = is.rises in
        let to = is.to in
        record { near = omega (arith, ints, from, rises, to); last_near = omega (arith, ints, from, rises, to) }

-- ---- the coordinates of a store, behind those of its variables

pub take_long : {A : Type 0} (m : ℕ) (xs : List A) → m ≤ length xs → length (take m xs) ≡ m
take_long zero xs h = refl
take_long (suc m) [] h = absurd (omega (arith, h))
take_long (suc m) (x ∷ xs) h = ap suc (take_long m xs (omega (arith, h)))

pub coordinates_long : (ms : Loads) (names : List (List ℕ)) (os : List (Option Form)) (lefts : List (Option Term)) (cs : List Coordinate) → AreCoordinates ms names os lefts cs → length cs ≡ length os
coordinates_long ms names [] lefts [] h = refl
coordinates_long ms names [] lefts (c ∷ cs) h = absurd h
coordinates_long ms [] (o ∷ os) lefts cs h = absurd h
coordinates_long ms (x ∷ names) (o ∷ os) lefts [] h = absurd h
coordinates_long ms (x ∷ names) (o ∷ os) lefts (c ∷ cs) h = ap suc (coordinates_long ms names os (other_lefts lefts) cs h.2)

pub parted_coordinates : (ms : Loads) (vs tail : List (Option Form)) (names : List (List ℕ)) (lefts : List (Option Term)) (cs : List Coordinate) → AreCoordinates ms names (vs ++ tail) lefts cs →
    (ns : List (List ℕ)) × (ls : List (Option Term)) × AreCoordinates ms ns tail ls (drop (length vs) cs)
parted_coordinates ms [] tail names lefts cs h = (names, lefts, h)
parted_coordinates ms (v ∷ vs) tail [] lefts cs h = absurd h
parted_coordinates ms (v ∷ vs) tail (x ∷ names) lefts [] h = absurd h
parted_coordinates ms (v ∷ vs) tail (x ∷ names) lefts (c ∷ cs) h = parted_coordinates ms vs tail names (other_lefts lefts) cs h.2
