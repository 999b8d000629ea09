-- The blocks of pieces make up a region, dimension by dimension.
use Rattle.std.proofs.Common.{◌≡◌, ℕ, zero, suc, ◌<◌, Bool, true, false, ◌||◌, List, [], ◌∷◌, ◌++◌, map, slice_get, Option, Some, None, refl, sym, ap, ◌∙◌, subst, inl, inr, arith, ℤ, pos}
use Rattle.std.proofs.Common.{◌≤ℤ◌}
use Rattle.std.specs.Prelude.{◌+ℤ◌, ◌-ℤ◌, ◌⊎◌, if◌then◌else◌}
use Rattle.std.specs.List.{AllByRecursion, list_any}
use Rattle.std.proofs.lemmas.Int.{ints}
use Rattle.std.proofs.lemmas.List.Elements.{recursion_from_All, All-from_recursion}
use Rattle.lin.specs.Forms.{Form, value_of}
use Rattle.lin.specs.Spans.{IsInSpan, IsInRegion}
use Rattle.lin.specs.declared.span.Span1.{Span1}
use Rattle.lin.proofs.TermLemmas.{all_weaker}
use Rattle.bounds.specs.Spans.{numbers}
use Rattle.plan.specs.Symbols.{clipped}
use Rattle.meaning.specs.Names.{same_name, is_among}
use Rattle.meaning.proofs.Cases.{name_same, same_name_is, name_differs}
use Rattle.sched.specs.declared.schedule.Split.{Split}
use Rattle.sched.specs.declared.placing.Loop.{Loop}
use Rattle.sched.specs.declared.numbers.Extent.{Extent}
use Rattle.sched.specs.declared.numbers.Numbers.{Numbers}
use Rattle.sched.specs.Placing.{has_double, is_parallel}
use Rattle.sched.specs.Numbers.{blocks, numbers_named, last_number, parallel_loops, grid_counts, or_one}
use Rattle.sched.specs.Visits.{IsInExtents, IsInGrid}
use Rattle.sched.proofs.Numbering.{with_two, with_first, with_second, with_other, apart_names, pos_clipped}
use Rattle.blocks.specs.Blocks.{raised, BlockText, PartText, Whole, Run, Scattered, LayText, block_span, part_of, dimension_by, dimension_of, owned_region}
use Rattle.lower.specs.Owning.{turn_named, IsTurn, block_of, place_of, EitherBy, Belongs, is_scattered, IsExtent}
use Rattle.lower.proofs.Dividing.{nearest, nearest_of_small, nearest_order, nearest_below}
use Rattle.lower.proofs.Blocking.{number_value, multiple_value, one_time, InRun, PartFits, IsSmall, CutFits, fall, block_first, block_last, few_numbers}
use Rattle.lower.proofs.Directed.{behind, AreMade, BothBy, IsEnd, among_more, among_right, among_first, among_second}

-- ---- spans

-- the numbers of a loop, as a span: those of the piece's are numbers that belong to it, and each of these is one of them
pub record SpanFits (v : ℕ → ℤ) (r : Numbers) (B : ℤ → Type 0) (scattered : Bool) (s : Span1) : Type 0 where
  pub inside : (z : ℤ) → IsInSpan s v z → (r.low ≤ℤ z) × (z ≤ℤ last_number r)
  pub owned : scattered ≡ false → (z : ℤ) → IsInSpan s v z → B z
  pub holds : (z : ℤ) → r.low ≤ℤ z → z ≤ℤ last_number r → B z → IsInSpan s v z

pub in_span : (s : Span1) (v : ℕ → ℤ) (z : ℤ) → AllByRecursion (λ f. value_of f v ≤ℤ z) s.lower → AllByRecursion (λ f. z ≤ℤ value_of f v) s.upper → IsInSpan s v z
in_span s v z a b = (All-from_recursion (λ (f : Form). value_of f v ≤ℤ z) s.lower a, All-from_recursion (λ (f : Form). z ≤ℤ value_of f v) s.upper b)

pub of_span : (s : Span1) (v : ℕ → ℤ) (z : ℤ) → IsInSpan s v z → AllByRecursion (λ f. value_of f v ≤ℤ z) s.lower × AllByRecursion (λ f. z ≤ℤ value_of f v) s.upper
of_span s v z h = (recursion_from_All (λ (f : Form). value_of f v ≤ℤ z) s.lower h.0, recursion_from_All (λ (f : Form). z ≤ℤ value_of f v) s.upper h.1)

pub in_numbers : (a b : ℤ) (v : ℕ → ℤ) (z : ℤ) → a ≤ℤ z → z ≤ℤ b → IsInSpan (numbers a b) v z
in_numbers a b v z low last =
    let first = number_value a v in
    let end = number_value b v in
    in_span (numbers a b) v z (omega (arith, ints, low, first), tt) (omega (arith, ints, last, end), tt)

pub of_numbers : (a b : ℤ) (v : ℕ → ℤ) (z : ℤ) → IsInSpan (numbers a b) v z → (a ≤ℤ z) × (z ≤ℤ b)
of_numbers a b v z h =
    let k = of_span (numbers a b) v z h in
    let low = k.0.0 in
    let last = k.1.0 in
    let first = number_value a v in
    let end = number_value b v in
    (omega (arith, ints, low, first), omega (arith, ints, last, end))

module _ (v : ℕ → ℤ) (b : BlockText) (some : pos 1 ≤ℤ b.length) where
  end_value : value_of (raised b.start (nearest (b.length -ℤ pos 1))) v ≡ nearest (b.length -ℤ pos 1) +ℤ value_of b.start v
  end_value = multiple_value (nearest (b.length -ℤ pos 1)) 1 b.start v ∙ ap (λ z. nearest (b.length -ℤ pos 1) +ℤ z) (one_time (value_of b.start v))

  of_block : (z : ℤ) → IsInSpan (block_span b.start b.length b.own_limits) v z → InRun b v z
  of_block z h =
      let k = of_span (block_span b.start b.length b.own_limits) v z h in
      let end = k.1.0 in
      let is = end_value in
      let below = nearest_below (b.length -ℤ pos 1) (omega (arith, ints, some)) in
      record { low = k.0.0; high = omega (arith, ints, end, is, below); limits = k.1.1 }

  in_block : (r : Numbers) → IsSmall r → r.low ≤ℤ value_of b.start v → (z : ℤ) → z ≤ℤ last_number r → InRun b v z → IsInSpan (block_span b.start b.length b.own_limits) v z
  in_block r small begins z last h =
      let low = h.low in
      let high = h.high in
      let is = end_value in
      let few = small.few in
      let y = z -ℤ value_of b.start v in
      let near : nearest y ≡ y = nearest_of_small y (omega (arith, ints, low)) (omega (arith, ints, last, begins, few)) in
      let order = nearest_order y (b.length -ℤ pos 1) (omega (arith, ints, high)) in
      in_span (block_span b.start b.length b.own_limits) v z (low, tt) (omega (arith, ints, is, near, order), h.limits)

pub dimension_fits : (l : LayText) (v : ℕ → ℤ) (x : List ℕ) (cs : List Split) (B : ℤ → Type 0) (p : PartText) → IsSmall (numbers_named l.numbers x) → PartFits v (numbers_named l.numbers x) B p →
    SpanFits v (numbers_named l.numbers x) B (is_scattered p) (dimension_by l x cs p).own
dimension_fits l v x cs B Whole small h = record {
  inside = (λ z k. of_numbers (numbers_named l.numbers x).low (last_number (numbers_named l.numbers x)) v z k);
  owned = (λ e z k. h z);
  holds = (λ z low last b. in_numbers (numbers_named l.numbers x).low (last_number (numbers_named l.numbers x)) v z low last);
}
dimension_fits l v x cs B Scattered small h = record {
  inside = (λ z k. of_numbers (numbers_named l.numbers x).low (last_number (numbers_named l.numbers x)) v z k);
  owned = (λ e z k. absurd (cc e));
  holds = (λ z low last b. in_numbers (numbers_named l.numbers x).low (last_number (numbers_named l.numbers x)) v z low last);
}
dimension_fits l v x cs B (Run b) small h = record {
  inside = (λ z k.
      let m = of_block v b h.some z k in
      let low = m.low in
      let begins = h.begins in
      (omega (arith, ints, low, begins), h.inside z m));
  owned = (λ e z k. h.owned z (of_block v b h.some z k));
  holds = (λ z low last k. in_block v b h.some (numbers_named l.numbers x) small h.begins z last (h.holds z low last k));
}

-- ---- regions

-- the variables' numbers are the region's
abbrev pub NumbersAre : List Numbers → List (List ℕ) → List Extent → Type 0
NumbersAre rs [] [] = Unit {0}
NumbersAre rs [] (e ∷ es) = ⊥
NumbersAre rs (x ∷ xs) [] = ⊥
NumbersAre rs (x ∷ xs) (e ∷ es) = (numbers_named rs x ≡ record { name = x; low = e.low; count = e.count }) × NumbersAre rs xs es

-- what belongs to the piece of each variable
abbrev pub AllBelong : List Numbers → (List ℕ → Option ℕ) → List Split → List (List ℕ) → List ℤ → Type 0
AllBelong rs turn cs [] [] = Unit {0}
AllBelong rs turn cs [] (z ∷ zs) = ⊥
AllBelong rs turn cs (x ∷ xs) [] = ⊥
AllBelong rs turn cs (x ∷ xs) (z ∷ zs) = Belongs rs turn cs x z × AllBelong rs turn cs xs zs

pub or_parts : (a b : Bool) → (a || b) ≡ false → (a ≡ false) × (b ≡ false)
or_parts true b e = absurd (cc e)
or_parts false b e = (refl, e)

pub all_small : (rs : List Numbers) (xs : List (List ℕ)) (es : List Extent) → NumbersAre rs xs es → AllByRecursion IsExtent es → AllByRecursion (λ x. IsSmall (numbers_named rs x)) xs
all_small rs [] es h a = tt
all_small rs (x ∷ xs) [] h a = absurd h
all_small rs (x ∷ xs) (e ∷ es) h a =
    (subst IsSmall (sym h.0) (record { from = a.0.from; to = a.0.to; few = a.0.few }), all_small rs xs es h.1 a.1)

module _ (l : LayText) (v : ℕ → ℤ) (turn : List ℕ → Option ℕ) (cs : List Split)
    (fits : (x : List ℕ) → IsSmall (numbers_named l.numbers x) → PartFits v (numbers_named l.numbers x) (Belongs l.numbers turn cs x) (part_of l x cs)) where
  one_fits : (x : List ℕ) → IsSmall (numbers_named l.numbers x) →
      SpanFits v (numbers_named l.numbers x) (Belongs l.numbers turn cs x) (is_scattered (part_of l x cs)) (dimension_of l cs x).own
  one_fits x small = dimension_fits l v x cs (Belongs l.numbers turn cs x) (part_of l x cs) small (fits x small)

  pub all_inside : (xs : List (List ℕ)) (es : List Extent) (q : List ℤ) → NumbersAre l.numbers xs es → AllByRecursion (λ x. IsSmall (numbers_named l.numbers x)) xs →
      IsInRegion (owned_region (map (dimension_of l cs) xs)) v q → IsInExtents es q
  all_inside [] [] [] n a h = tt
  all_inside [] [] (z ∷ zs) n a h = absurd h
  all_inside [] (e ∷ es) q n a h = absurd n
  all_inside (x ∷ xs) [] q n a h = absurd n
  all_inside (x ∷ xs) (e ∷ es) [] n a h = absurd h
  all_inside (x ∷ xs) (e ∷ es) (z ∷ zs) n a h =
      let k = (one_fits x a.0).inside z h.0 in
      let there : (e.low ≤ℤ z) × (z ≤ℤ (e.low +ℤ pos e.count -ℤ pos 1)) = subst (λ (r : Numbers). (r.low ≤ℤ z) × (z ≤ℤ last_number r)) n.0 k in
      let last = there.1 in
      (there.0, omega (arith, ints, last), all_inside xs es zs n.1 a.1 h.1)

  pub all_owned : (xs : List (List ℕ)) (q : List ℤ) → AllByRecursion (λ x. IsSmall (numbers_named l.numbers x)) xs → list_any (λ x. is_scattered (part_of l x cs)) xs ≡ false →
      IsInRegion (owned_region (map (dimension_of l cs) xs)) v q → AllBelong l.numbers turn cs xs q
  all_owned [] [] a e h = tt
  all_owned [] (z ∷ zs) a e h = absurd h
  all_owned (x ∷ xs) [] a e h = absurd h
  all_owned (x ∷ xs) (z ∷ zs) a e h =
      let k = or_parts (is_scattered (part_of l x cs)) (list_any (λ y. is_scattered (part_of l y cs)) xs) e in
      ((one_fits x a.0).owned k.0 z h.0, all_owned xs zs a.1 k.1 h.1)

  pub all_hold : (xs : List (List ℕ)) (es : List Extent) (q : List ℤ) → NumbersAre l.numbers xs es → AllByRecursion (λ x. IsSmall (numbers_named l.numbers x)) xs → IsInExtents es q →
      AllBelong l.numbers turn cs xs q → IsInRegion (owned_region (map (dimension_of l cs) xs)) v q
  all_hold [] [] [] n a h b = tt
  all_hold [] [] (z ∷ zs) n a h b = absurd h
  all_hold [] (e ∷ es) q n a h b = absurd n
  all_hold (x ∷ xs) [] q n a h b = absurd n
  all_hold (x ∷ xs) (e ∷ es) [] n a h b = absurd h
  all_hold (x ∷ xs) (e ∷ es) (z ∷ zs) n a h b =
      let high = h.1 in
      let there : ((numbers_named l.numbers x).low ≤ℤ z) × (z ≤ℤ last_number (numbers_named l.numbers x)) =
      subst (λ (r : Numbers). (r.low ≤ℤ z) × (z ≤ℤ last_number r)) (sym n.0) (h.0, omega (arith, ints, high)) in
      ((one_fits x a.0).holds z there.0 there.1 b.0, all_hold xs es zs n.1 a.1 h.2 b.1)

-- ---- each number belongs to a piece

-- the numbers of all loops at which a number of each variable's loop falls
abbrev pub falling : List Numbers → List Split → (List ℕ → ℤ) → List ℕ → ℤ
falling rs [] f = f
falling rs (c ∷ cs) f =
    falling rs cs (with_two c.outer (block_of c (numbers_named rs c.whole) (f c.whole)) c.inner (place_of c (numbers_named rs c.whole) (f c.whole)) f)

-- these turns are those of the numbers
abbrev pub AreTurns : List Numbers → (List ℕ → Option ℕ) → (List ℕ → ℤ) → Type 0
AreTurns rs turn f = (y : List ℕ) (n : ℕ) → turn y ≡ Some n → f y ≡ (numbers_named rs y).low +ℤ pos n

names_apart : (x y : List ℕ) → same_name x y ≡ false → y ≡ x → ⊥
names_apart x y e same = let clash : true ≡ false = sym (name_same x y (sym same)) ∙ e in cc clash

module _ (rs : List Numbers) (turn : List ℕ → Option ℕ) where
  turned : (x : List ℕ) (f : List ℕ → ℤ) → AreTurns rs turn f → IsTurn (numbers_named rs x) (turn x) (f x)
  turned x f h = of (turn x) refl
    where
      of : (o : Option ℕ) → turn x ≡ o → IsTurn (numbers_named rs x) o (f x)
      of None e = tt
      of (Some n) e = h x n e

  pub falling_belongs : (cs : List Split) (names used : List (List ℕ)) (f : List ℕ → ℤ) → AreMade names used cs → AreTurns rs turn (falling rs cs f) → (x : List ℕ) → is_among used x ≡ true →
      Belongs rs turn cs x (f x)
  falling_belongs [] names used f m h x there = turned x f h
  falling_belongs (c ∷ cs) names used f m h x there =
      let t = block_of c (numbers_named rs c.whole) (f c.whole) in
      let p = place_of c (numbers_named rs c.whole) (f c.whole) in
      let g = with_two c.outer t c.inner p f in
      let more = used ++ c.outer ∷ c.inner ∷ [] in
      let rest : (y : List ℕ) → is_among more y ≡ true → Belongs rs turn cs y (g y) =
      falling_belongs cs (names ++ c.outer ∷ c.inner ∷ []) more g m.5 h in
      let first : Belongs rs turn cs c.outer t =
      subst (Belongs rs turn cs c.outer) (with_first c.outer t c.inner p f) (rest c.outer (among_right used (c.outer ∷ c.inner ∷ []) c.outer (among_first c.outer (c.inner ∷ [])))) in
      let second : Belongs rs turn cs c.inner p =
      subst (Belongs rs turn cs c.inner) (with_second c.outer t c.inner p f (names_apart c.outer c.inner m.3))
      (rest c.inner (among_right used (c.outer ∷ c.inner ∷ []) c.inner (among_second c.outer c.inner))) in
      let other : Belongs rs turn cs x (f x) =
      subst (Belongs rs turn cs x) (with_other c.outer t c.inner p f x (apart_names used x c.outer there m.1) (apart_names used x c.inner there m.2))
      (rest x (among_more used (c.outer ∷ c.inner ∷ []) x there)) in
      of (same_name c.whole x) refl first second other
    where
      of : (b : Bool) → same_name c.whole x ≡ b → Belongs rs turn cs c.outer (block_of c (numbers_named rs c.whole) (f c.whole)) →
          Belongs rs turn cs c.inner (place_of c (numbers_named rs c.whole) (f c.whole)) → Belongs rs turn cs x (f x) →
          EitherBy b (Belongs rs turn cs c.outer (block_of c (numbers_named rs c.whole) (f x)) × Belongs rs turn cs c.inner (place_of c (numbers_named rs c.whole) (f x)))
          (Belongs rs turn cs x (f x))
      of false e one two three = three
      of true e one two three =
          let same : f c.whole ≡ f x = ap f (same_name_is c.whole x e) in (
            subst (λ z. Belongs rs turn cs c.outer (block_of c (numbers_named rs c.whole) z)) same one,
            subst (λ z. Belongs rs turn cs c.inner (place_of c (numbers_named rs c.whole) z)) same two,
          )

-- the name stands for one of its loop's numbers
pub record Ranges (rs : List Numbers) (f : List ℕ → ℤ) (x : List ℕ) : Type 0 where
  pub small : IsSmall (numbers_named rs x)
  pub low : (numbers_named rs x).low ≤ℤ f x
  pub last : f x ≤ℤ last_number (numbers_named rs x)

pub named_all : (P : List ℕ → Type 0) (names : List (List ℕ)) (x : List ℕ) → AllByRecursion P names → is_among names x ≡ true → P x
named_all P [] x a e = absurd (cc e)
named_all P (y ∷ ys) x a e = of (same_name y x) refl e (λ k. named_all P ys x a.1 k)
  where
    of : (v : Bool) → same_name y x ≡ v → (v || is_among ys x) ≡ true → (is_among ys x ≡ true → P x) → P x
    of true h k rest = subst P (same_name_is y x h) a.0
    of false h k rest = rest k

pub all_two : {A : Type 0} (P Q R : A → Type 0) → ((x : A) → P x → Q x → R x) → (xs : List A) → AllByRecursion P xs → AllByRecursion Q xs → AllByRecursion R xs
all_two P Q R f [] h k = tt
all_two P Q R f (x ∷ xs) h k = (f x h.0 k.0, all_two P Q R f xs h.1 k.1)

all_behind : {A : Type 0} (P : A → Type 0) (xs ys : List A) → AllByRecursion P xs → AllByRecursion P ys → AllByRecursion P (xs ++ ys)
all_behind P [] ys a b = b
all_behind P (x ∷ xs) ys a b = (a.0, all_behind P xs ys a.1 b)

module _ (rs : List Numbers) where
  ranges_on : (f g : List ℕ → ℤ) (x : List ℕ) → g x ≡ f x → Ranges rs f x → Ranges rs g x
  ranges_on f g x e h = record {
    small = h.small;
    low = subst (λ z. (numbers_named rs x).low ≤ℤ z) (sym e) h.low;
    last = subst (λ z. z ≤ℤ last_number (numbers_named rs x)) (sym e) h.last;
  }

  pub falling_ranges : (cs : List Split) (names used : List (List ℕ)) (f : List ℕ → ℤ) → AreMade names used cs → AllByRecursion (CutFits rs) cs →
      AllByRecursion (λ x. is_among used x ≡ true) names → AllByRecursion (Ranges rs f) names → AllByRecursion (Ranges rs (falling rs cs f)) (behind names cs)
  falling_ranges [] names used f m c u a = a
  falling_ranges (c ∷ cs) names used f m cut u a =
      let r = numbers_named rs c.whole in
      let t = block_of c r (f c.whole) in
      let p = place_of c r (f c.whole) in
      let g = with_two c.outer t c.inner p f in
      let h = named_all (Ranges rs f) names c.whole a m.0 in
      let fits = cut.0 in
      let few = h.small.few in
      let short = fits.few in
      let first = block_first c r fits.some (f c.whole) h.low in
      let end = block_last c r fits.some (f c.whole) h.low h.last in
      let place = fall c r fits.some (f c.whole) in
      let from = place.from in
      let below = place.below in
      let outer : Ranges rs g c.outer = record {
        small = subst IsSmall (sym fits.outer) (record { from = omega (arith, ints); to = omega (arith, ints); few = few_numbers r.count c.factor few });
        low = subst (λ (n : Numbers). n.low ≤ℤ g c.outer) (sym fits.outer) (subst (λ z. pos 0 ≤ℤ z) (sym (with_first c.outer t c.inner p f)) first);
        last = subst (λ (n : Numbers). g c.outer ≤ℤ last_number n) (sym fits.outer)
            (subst (λ z. z ≤ℤ (pos 0 +ℤ pos (blocks r.count c.factor) -ℤ pos 1)) (sym (with_first c.outer t c.inner p f)) (omega (arith, ints, end)));
      } in
      let is = with_second c.outer t c.inner p f (names_apart c.outer c.inner m.3) in
      let inner : Ranges rs g c.inner = record {
        small = subst IsSmall (sym fits.inner) (record { from = omega (arith, ints); to = omega (arith, ints); few = omega (arith, short) });
        low = subst (λ (n : Numbers). n.low ≤ℤ g c.inner) (sym fits.inner) (subst (λ z. pos 0 ≤ℤ z) (sym is) from);
        last = subst (λ (n : Numbers). g c.inner ≤ℤ last_number n) (sym fits.inner)
            (subst (λ z. z ≤ℤ (pos 0 +ℤ pos c.factor -ℤ pos 1)) (sym is) (omega (arith, ints, below)));
      } in
      let kept : AllByRecursion (Ranges rs g) names =
      all_two (λ x. is_among used x ≡ true) (Ranges rs f) (Ranges rs g)
      (λ x there k. ranges_on f g x (with_other c.outer t c.inner p f x (apart_names used x c.outer there m.1) (apart_names used x c.inner there m.2)) k) names u a in
      let more = used ++ c.outer ∷ c.inner ∷ [] in
      let used_more : AllByRecursion (λ x. is_among more x ≡ true) (names ++ c.outer ∷ c.inner ∷ []) =
      all_behind (λ x. is_among more x ≡ true) names (c.outer ∷ c.inner ∷ [])
      (all_weaker (λ x. is_among used x ≡ true) (λ x. is_among more x ≡ true) (λ x e. among_more used (c.outer ∷ c.inner ∷ []) x e) names u) (
        among_right used (c.outer ∷ c.inner ∷ []) c.outer (among_first c.outer (c.inner ∷ [])),
        (among_right used (c.outer ∷ c.inner ∷ []) c.inner (among_second c.outer c.inner), tt),
      ) in
      falling_ranges cs (names ++ c.outer ∷ c.inner ∷ []) more g m.5 cut.1 used_more (all_behind (Ranges rs g) names (c.outer ∷ c.inner ∷ []) kept (outer, (inner, tt)))

-- ---- the piece at which loops have these numbers

abbrev pub turns_at : List Numbers → (List ℕ → ℤ) → List Loop → List ℕ
turns_at rs f ls = map (λ l. clipped (f l.name -ℤ (numbers_named rs l.name).low)) ls

abbrev pub or_none : List ℕ → List ℕ
or_none [] = 0 ∷ []
or_none (n ∷ ns) = n ∷ ns

module _ (rs : List Numbers) (f : List ℕ → ℤ) where
  turn_below : (l : Loop) → Ranges rs f l.name → clipped (f l.name -ℤ (numbers_named rs l.name).low) < (numbers_named rs l.name).count
  turn_below l h =
      let low = h.low in
      let last = h.last in
      let is = pos_clipped (f l.name -ℤ (numbers_named rs l.name).low) (omega (arith, ints, low)) in
      omega (arith, ints, is, last)

  turns_fit : (ls : List Loop) → AllByRecursion (λ l. Ranges rs f l.name) ls → IsInGrid (grid_counts rs ls) (turns_at rs f ls)
  turns_fit [] a = tt
  turns_fit (l ∷ ls) a = (turn_below l a.0, turns_fit ls a.1)

  pub piece_fits : (ls : List Loop) → AllByRecursion (λ l. Ranges rs f l.name) ls → IsInGrid (or_one (grid_counts rs ls)) (or_none (turns_at rs f ls))
  piece_fits [] a = (omega arith, tt)
  piece_fits (l ∷ ls) a = turns_fit (l ∷ ls) a

  some_number : (n m : ℕ) → Some n ≡ Some m → n ≡ m
  some_number n m e = cc

  turns_are : (ls : List Loop) → AllByRecursion (λ l. Ranges rs f l.name) ls → AreTurns rs (turn_named ls (turns_at rs f ls)) f
  turns_are [] a y n e = absurd (cc e)
  turns_are (l ∷ ls) a y n e = of (same_name l.name y) refl e (λ k. turns_are ls a.1 y n k)
    where
      of : (b : Bool) → same_name l.name y ≡ b → (if b then Some (clipped (f l.name -ℤ (numbers_named rs l.name).low)) else turn_named ls (turns_at rs f ls) y) ≡ Some n →
          (turn_named ls (turns_at rs f ls) y ≡ Some n → f y ≡ (numbers_named rs y).low +ℤ pos n) → f y ≡ (numbers_named rs y).low +ℤ pos n
      of false h e rest = rest e
      of true h e rest =
          let k = a.0 in
          let low = k.low in
          let same = some_number (clipped (f l.name -ℤ (numbers_named rs l.name).low)) n e in
          let is = pos_clipped (f l.name -ℤ (numbers_named rs l.name).low) (omega (arith, ints, low)) in
          let number : pos (clipped (f l.name -ℤ (numbers_named rs l.name).low)) ≡ pos n = ap pos same in
          subst (λ (x : List ℕ). f x ≡ (numbers_named rs x).low +ℤ pos n) (same_name_is l.name y h) (omega (arith, ints, is, number))

  pub piece_turns : (ls : List Loop) → AllByRecursion (λ l. Ranges rs f l.name) ls → AreTurns rs (turn_named ls (or_none (turns_at rs f ls))) f
  piece_turns [] a y n e = absurd (cc e)
  piece_turns (l ∷ ls) a y n e = turns_are (l ∷ ls) a y n e

-- ---- a number belongs to one turn alone

module _ (rs : List Numbers) (s t : List ℕ → Option ℕ) where
  one_turn : (r : Numbers) (z : ℤ) (o p : Option ℕ) (n m : ℕ) → o ≡ Some n → p ≡ Some m → IsTurn r o z → IsTurn r p z → n ≡ m
  one_turn r z (Some a) (Some b) n m e g h k = (let first : a ≡ n = cc e in let second : b ≡ m = cc g in omega (arith, ints, first, second, h, k))
  one_turn r z (Some a) None n m e g h k = absurd (cc g)
  one_turn r z None p n m e g h k = absurd (cc e)

  pub end_same : (cs : List Split) (x y : List ℕ) (z : ℤ) (n m : ℕ) → IsEnd cs x y → Belongs rs s cs x z → Belongs rs t cs x z → s y ≡ Some n → t y ≡ Some m → n ≡ m
  end_same [] x y z n m e h k first second = one_turn (numbers_named rs x) z (s x) (t x) n m (ap s e ∙ first) (ap t e ∙ second) h k
  end_same (c ∷ cs) x y z n m e h k first second =
      let r = numbers_named rs c.whole in
      of (same_name c.whole x) e h k (λ i a b. end_same cs c.outer y (block_of c r z) n m i a b first second) (λ i a b. end_same cs c.inner y (place_of c r z) n m i a b first second)
      (λ i a b. end_same cs x y z n m i a b first second)
    where
      of : (b : Bool) → BothBy b (IsEnd cs c.outer y ⊎ IsEnd cs c.inner y) (IsEnd cs x y) →
          EitherBy b (Belongs rs s cs c.outer (block_of c (numbers_named rs c.whole) z) × Belongs rs s cs c.inner (place_of c (numbers_named rs c.whole) z)) (Belongs rs s cs x z) →
          EitherBy b (Belongs rs t cs c.outer (block_of c (numbers_named rs c.whole) z) × Belongs rs t cs c.inner (place_of c (numbers_named rs c.whole) z)) (Belongs rs t cs x z) →
          (IsEnd cs c.outer y → Belongs rs s cs c.outer (block_of c (numbers_named rs c.whole) z) → Belongs rs t cs c.outer (block_of c (numbers_named rs c.whole) z) → n ≡ m) →
          (IsEnd cs c.inner y → Belongs rs s cs c.inner (place_of c (numbers_named rs c.whole) z) → Belongs rs t cs c.inner (place_of c (numbers_named rs c.whole) z) → n ≡ m) →
          (IsEnd cs x y → Belongs rs s cs x z → Belongs rs t cs x z → n ≡ m) → n ≡ m
      of true (inl i) h k one two three = one i h.0 k.0
      of true (inr i) h k one two three = two i h.1 k.1
      of false i h k one two three = three i h k

  pub variable_same : (cs : List Split) (xs : List (List ℕ)) (q : List ℤ) (d : ℕ) (x y : List ℕ) (n m : ℕ) → AllBelong rs s cs xs q → AllBelong rs t cs xs q → slice_get xs d ≡ Some x →
      IsEnd cs x y → s y ≡ Some n → t y ≡ Some m → n ≡ m
  variable_same cs [] q d x y n m h k e i first second = absurd (cc e)
  variable_same cs (w ∷ xs) [] d x y n m h k e i first second = absurd h
  variable_same cs (w ∷ xs) (z ∷ q) zero x y n m h k e i first second =
      let same : w ≡ x = cc e in end_same cs w y z n m (subst (λ v. IsEnd cs v y) (sym same) i) h.0 k.0 first second
  variable_same cs (w ∷ xs) (z ∷ q) (suc d) x y n m h k e i first second = variable_same cs xs q d x y n m h.1 k.1 e i first second

-- ---- turns by their loops' names

abbrev pub names_of : List Loop → List (List ℕ)
names_of ls = map (λ l. l.name) ls

not_among_filtered : (ls : List Loop) (x : List ℕ) → is_among (names_of ls) x ≡ false → is_among (names_of (parallel_loops ls)) x ≡ false
not_among_filtered [] x e = refl
not_among_filtered (l ∷ ls) x e =
    let k = or_parts (same_name l.name x) (is_among (names_of ls) x) e in of (is_parallel l) k.0 (not_among_filtered ls x k.1)
  where
    of : (b : Bool) → same_name l.name x ≡ false → is_among (names_of (parallel_loops ls)) x ≡ false →
        is_among (names_of (if b then l ∷ parallel_loops ls else parallel_loops ls)) x ≡ false
    of true first rest = ap (λ v. v || is_among (names_of (parallel_loops ls)) x) first ∙ rest
    of false first rest = rest

pub single_filtered : (ls : List Loop) → has_double (names_of ls) ≡ false → has_double (names_of (parallel_loops ls)) ≡ false
single_filtered [] e = refl
single_filtered (l ∷ ls) e =
    let k = or_parts (is_among (names_of ls) l.name) (has_double (names_of ls)) e in of (is_parallel l) (not_among_filtered ls l.name k.0) (single_filtered ls k.1)
  where
    of : (b : Bool) → is_among (names_of (parallel_loops ls)) l.name ≡ false → has_double (names_of (parallel_loops ls)) ≡ false →
        has_double (names_of (if b then l ∷ parallel_loops ls else parallel_loops ls)) ≡ false
    of true first rest = ap (λ v. v || has_double (names_of (parallel_loops ls))) first ∙ rest
    of false first rest = rest

-- what is so of each loop and its turn
abbrev pub Zipped : (Loop → ℕ → Type 0) → List Loop → List ℕ → Type 0
Zipped P [] ns = Unit {0}
Zipped P (l ∷ ls) [] = ⊥
Zipped P (l ∷ ls) (n ∷ ns) = P l n × Zipped P ls ns

-- no loop has the name of the first
others_differ : (l : Loop) (ls : List Loop) → is_among (names_of ls) l.name ≡ false → AllByRecursion (λ m. same_name l.name m.name ≡ false) ls
others_differ l [] e = tt
others_differ l (m ∷ ls) e =
    let k = or_parts (same_name m.name l.name) (is_among (names_of ls) l.name) e in
    (name_differs l.name m.name (λ same. names_apart m.name l.name k.0 same), others_differ l ls k.1)

pub zipped : (P : Loop → ℕ → Type 0) (rs : List Numbers) (ls : List Loop) (ns : List ℕ) → IsInGrid (grid_counts rs ls) ns → has_double (names_of ls) ≡ false →
    AllByRecursion (λ l. (n : ℕ) → turn_named ls ns l.name ≡ Some n → P l n) ls → Zipped P ls ns
zipped P rs [] ns g e a = tt
zipped P rs (l ∷ ls) [] g e a = absurd g
zipped P rs (l ∷ ls) (n ∷ ns) g e a =
    let k = or_parts (is_among (names_of ls) l.name) (has_double (names_of ls)) e in
    let mine : turn_named (l ∷ ls) (n ∷ ns) l.name ≡ Some n = ap (λ (b : Bool). if b then Some n else turn_named ls ns l.name) (name_same l.name l.name refl) in (
      a.0 n mine,
      zipped P rs ls ns g.1 k.1
          (all_two (λ m. same_name l.name m.name ≡ false) (λ m. (i : ℕ) → turn_named (l ∷ ls) (n ∷ ns) m.name ≡ Some i → P m i) (λ m. (i : ℕ) → turn_named ls ns m.name ≡ Some i → P m i)
          (λ m other h i is. h i (ap (λ (b : Bool). if b then Some n else turn_named ls ns m.name) other ∙ is)) ls (others_differ l ls k.0) a.1),
    )

-- pieces of which each turn is that of the same name are one
pub one_piece : (rs : List Numbers) (ls : List Loop) (a b : List ℕ) → IsInGrid (grid_counts rs ls) a → IsInGrid (grid_counts rs ls) b → has_double (names_of ls) ≡ false →
    AllByRecursion (λ l. (n m : ℕ) → turn_named ls a l.name ≡ Some n → turn_named ls b l.name ≡ Some m → n ≡ m) ls → a ≡ b
one_piece rs [] [] [] g h e s = refl
one_piece rs [] [] (m ∷ b) g h e s = absurd h
one_piece rs [] (n ∷ a) b g h e s = absurd g
one_piece rs (l ∷ ls) [] b g h e s = absurd g
one_piece rs (l ∷ ls) (n ∷ a) [] g h e s = absurd h
one_piece rs (l ∷ ls) (n ∷ a) (m ∷ b) g h e s =
    let k = or_parts (is_among (names_of ls) l.name) (has_double (names_of ls)) e in
    let mine = name_same l.name l.name refl in
    let first : n ≡ m = s.0 n m (ap (λ (v : Bool). if v then Some n else turn_named ls a l.name) mine) (ap (λ (v : Bool). if v then Some m else turn_named ls b l.name) mine) in
    let rest : a ≡ b = one_piece rs ls a b g.1 h.1 k.1
    (all_two (λ o. same_name l.name o.name ≡ false) (λ o. (i j : ℕ) → turn_named (l ∷ ls) (n ∷ a) o.name ≡ Some i → turn_named (l ∷ ls) (m ∷ b) o.name ≡ Some j → i ≡ j)
    (λ o. (i j : ℕ) → turn_named ls a o.name ≡ Some i → turn_named ls b o.name ≡ Some j → i ≡ j)
    (λ o other f i j one two. f i j (ap (λ (v : Bool). if v then Some n else turn_named ls a o.name) other ∙ one) (ap (λ (v : Bool). if v then Some m else turn_named ls b o.name) other ∙ two))
    ls (others_differ l ls k.0) s.1) in
    λ i. first i ∷ rest i
