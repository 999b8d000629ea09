-- Pieces that stand one after another, and the need lines that are looked at for them.
use Rattle.std.proofs.Common.{◌≡◌, ℕ, zero, suc, ◌+◌, ◌<◌, ◌≤◌, ◌^◌, List, [], ◌∷◌, ◌++◌, length, map, take, drop, get_or, min, max, Option, Some, None, ap, refl, sym, ◌∙◌, subst, arith, inl, inr, Bor}
use Rattle.std.specs.Prelude.{All, Contains, MatchOption, ◌⊎◌, slice_get, slice_set}
use Rattle.std.specs.List.{AllByRecursion}
use Rattle.std.proofs.lemmas.List.{take_all, take_more}
use Rattle.std.proofs.lemmas.List.Elements.{recursion_from_All, All-from_recursion, Contains-append_left, Contains-append_right, Contains-append_cases}
use Rattle.lin.specs.declared.span.Span1.{Span1}
use Rattle.plan.specs.Plan.{Group, Plan}
use Rattle.plan.specs.Symbols.{points}
use Rattle.plan.specs.declared.certificate.cert.Need.{Need}
use Rattle.plan.specs.Certificate.Cells.{grid_symbols}
use Rattle.soundness.specs.Claims.{In}
use Rattle.headline.proofs.Members.{contains_of}
use Rattle.shares.specs.declared.blocks.Block.{Block}
use Rattle.shares.specs.declared.blocks.Walk.{Walk}
use Rattle.shares.specs.declared.gathered.GroupNeeds.{GroupNeeds}
use Rattle.shares.specs.declared.seats.Seat.{Seat}
use Rattle.shares.specs.Boxes.{IsLimited, IsSmall}
use Rattle.shares.specs.Filed.{AreLinesOf}
use Rattle.shares.specs.Shared.{IsLike, NeedIsShared}
use Rattle.shares.specs.Blocks.{AreHighs, AreLows, AreOf, AreThoseAt, AreThoseBetween, HaveLinesOf, IsBlockFrom, IsBlockOf, IsWalkFrom, LinesAreLimited, StandFor}
use Rattle.shares.specs.Corners.{IsBetween}
use Rattle.shares.specs.Outer.{AreOuterAt}
use Rattle.shares.proofs.Groups.{all_at_place, some_same}
use Rattle.shares.proofs.Repeating.{at_on, at_self, no_points_in}

-- ---- what holds of all

module _ {A : Type 0} where
  each_last : (P : A → Type 0) (xs : List A) (x : A) → AllByRecursion P xs → P x → AllByRecursion P (xs ++ x ∷ [])
  each_last P [] x h k = (k, tt)
  each_last P (y ∷ ys) x h k = (h.0, each_last P ys x h.1 k)

  pub all_last : (P : A → Type 0) (xs : List A) (x : A) → All P xs → P x → All P (xs ++ x ∷ [])
  all_last P xs x h k = All-from_recursion P (xs ++ x ∷ []) (each_last P xs x (recursion_from_All P xs h) k)

  pub all_none : (P : A → Type 0) → All P []
  all_none P k d less = absurd (omega (arith, less))

  -- of one place more
  pub all_more : (P Q : A → Type 0) → ((y : A) → P y → Q y) → (xs : List A) (k : ℕ) (x : A) → k < length xs → x ≡ get_or xs k x → All P (take k xs) → Q x → All Q (take (k + 1) xs)
  all_more P Q on xs k x less is h this =
      subst (All Q) (sym (take_more xs k x less ∙ ap (λ (y : A). take k xs ++ y ∷ []) (sym is)))
      (all_last Q (take k xs) x (λ i d within. on (get_or (take k xs) i d) (h i d within)) this)

  pub all_taken : (P : A → Type 0) (xs : List A) (k : ℕ) → length xs ≤ k → All P (take k xs) → All P xs
  all_taken P xs k long h = subst (All P) (take_all k xs long) h

  pub all_front : (P : A → Type 0) (xs : List A) (k : ℕ) → length xs ≤ k → All P (take k xs) → All P (take (length xs) xs)
  all_front P xs k long h = subst (All P) (sym (take_all (length xs) xs (omega arith))) (all_taken P xs k long h)

  pub front_fails : (P : A → Type 0) (xs : List A) (k : ℕ) (x s : A) → x ≡ get_or xs k x → slice_get xs 0 ≡ Some s → P s → (P x → ⊥) → 1 ≤ k
  front_fails P [] k x s is at h not = absurd (cc at)
  front_fails P (y ∷ ys) zero x s is at h not = let same : y ≡ s = cc at in absurd (not (subst P (sym same ∙ sym is) h))
  front_fails P (y ∷ ys) (suc k) x s is at h not = omega arith

  each_front : (P : A → Type 0) (xs : List A) (n : ℕ) → AllByRecursion P xs → AllByRecursion P (take n xs)
  each_front P [] zero h = tt
  each_front P [] (suc n) h = tt
  each_front P (x ∷ xs) zero h = tt
  each_front P (x ∷ xs) (suc n) h = (h.0, each_front P xs n h.1)

  each_behind : (P : A → Type 0) (xs : List A) (n : ℕ) → AllByRecursion P xs → AllByRecursion P (drop n xs)
  each_behind P [] zero h = tt
  each_behind P [] (suc n) h = tt
  each_behind P (x ∷ xs) zero h = h
  each_behind P (x ∷ xs) (suc n) h = each_behind P xs n h.1

  -- what holds of all holds of a part
  pub all_part : (P : A → Type 0) (xs : List A) (first w long : ℕ) → All P xs → All P (take long (take w (drop first xs)))
  all_part P xs first w long h =
      All-from_recursion P (take long (take w (drop first xs))) (each_front P (take w (drop first xs)) long (each_front P (drop first xs) w (each_behind P xs first (recursion_from_All P xs h))))

  pub window_long : (xs : List A) (first w : ℕ) → length (take w (drop first xs)) ≤ w
  window_long xs first w = front_long (drop first xs) w
    where
      front_long : (ys : List A) (n : ℕ) → length (take n ys) ≤ n
      front_long [] zero = omega arith
      front_long [] (suc n) = omega arith
      front_long (y ∷ ys) zero = omega arith
      front_long (y ∷ ys) (suc n) = let h = front_long ys n in omega (arith, h)

  -- the first of a window
  pub first_front : (xs : List A) (first w : ℕ) (d : A) → first < length xs → 1 ≤ w → slice_get (take w (drop first xs)) 0 ≡ Some (get_or xs first d)
  first_front [] first w d less some = absurd (omega (arith, less))
  first_front (x ∷ xs) zero zero d less some = absurd (omega (arith, some))
  first_front (x ∷ xs) zero (suc w) d less some = refl
  first_front (x ∷ xs) (suc f) w d less some = first_front xs f w d (omega (arith, less)) some

  pub holds_of : (P : A → Type 0) (xs : List A) (x : A) → All P xs → Contains xs x → P x
  holds_of P xs x every at = subst P at.2 (every at.0 x at.1)

  pub all_on : (P Q : A → Type 0) (xs : List A) → ((x : A) → P x → Q x) → All P xs → All Q xs
  all_on P Q xs on h k d less = on (get_or xs k d) (h k d less)

  pub get_of : (xs : List A) (i : ℕ) (v d : A) → slice_get xs i ≡ Some v → get_or xs i d ≡ v
  get_of [] i v d e = absurd (cc e)
  get_of (x ∷ xs) zero v d e = cc e
  get_of (x ∷ xs) (suc i) v d e = get_of xs i v d e

  get_past : (xs : List A) (i : ℕ) (d : A) → length xs ≤ i → get_or xs i d ≡ d
  get_past [] i d h = refl
  get_past (x ∷ xs) zero d h = absurd (omega (arith, h))
  get_past (x ∷ xs) (suc i) d h = get_past xs i d (omega (arith, h))

  none_past : (xs : List A) (i : ℕ) → slice_get xs i ≡ None → length xs ≤ i
  none_past [] i e = omega arith
  none_past (x ∷ xs) zero e = absurd (cc e)
  none_past (x ∷ xs) (suc i) e = let h = none_past xs i e in omega (arith, h)

  pub get_is : (xs : List A) (i : ℕ) (v : A) → slice_get xs i ≡ Some v → v ≡ get_or xs i v
  get_is xs i v e = sym (get_of xs i v v e)

  pub some_at : (xs : List A) (i : ℕ) → i < length xs → (x : A) × (slice_get xs i ≡ Some x)
  some_at [] i less = absurd (omega (arith, less))
  some_at (x ∷ xs) zero less = (x, refl)
  some_at (x ∷ xs) (suc i) less = some_at xs i (omega (arith, less))

  pub get_last : (xs : List A) (y : A) (Q : ℕ → A → Type 0) → ((i : ℕ) (v : A) → slice_get xs i ≡ Some v → Q i v) → Q (length xs) y → (i : ℕ) (v : A) → slice_get (xs ++ y ∷ []) i ≡ Some v → Q i v
  get_last [] y Q h this zero v e = subst (Q 0) (some_same y v e) this
  get_last [] y Q h this (suc i) v e = absurd (cc e)
  get_last (x ∷ xs) y Q h this zero v e = h 0 v e
  get_last (x ∷ xs) y Q h this (suc i) v e = get_last xs y (λ j w. Q (suc j) w) (λ j w at. h (suc j) w at) this i v e

  -- an element at a place of a window of a list
  in_front : (xs : List A) (w long k : ℕ) (x : A) → slice_get xs k ≡ Some x → k < long → long ≤ w → In x (take long (take w xs))
  in_front [] w long k x at less within = absurd (cc at)
  in_front (y ∷ ys) w zero k x at less within = absurd (omega (arith, less))
  in_front (y ∷ ys) zero (suc l) k x at less within = absurd (omega (arith, within))
  in_front (y ∷ ys) (suc w) (suc l) zero x at less within = inl (sym (some_same y x at))
  in_front (y ∷ ys) (suc w) (suc l) (suc k) x at less within = inr (in_front ys w l k x at (omega (arith, less)) (omega (arith, within)))

  in_window : (xs : List A) (first w long k : ℕ) (x : A) → slice_get xs k ≡ Some x → first ≤ k → k < first + long → long ≤ w → In x (take long (take w (drop first xs)))
  in_window [] first w long k x at from to within = absurd (cc at)
  in_window (y ∷ ys) zero w long k x at from to within = in_front (y ∷ ys) w long k x at (omega (arith, to)) within
  in_window (y ∷ ys) (suc f) w long zero x at from to within = absurd (omega (arith, from))
  in_window (y ∷ ys) (suc f) w long (suc k) x at from to within = in_window ys f w long k x at (omega (arith, from)) (omega (arith, to)) within

  pub of_window : (P : A → Type 0) (xs : List A) (first w long k : ℕ) (x : A) → All P (take long (take w (drop first xs))) → slice_get xs k ≡ Some x → first ≤ k → k < first + long → long ≤ w → P x
  of_window P xs first w long k x h at from to within =
      holds_of P (take long (take w (drop first xs))) x h (contains_of (take long (take w (drop first xs))) x (in_window xs first w long k x at from to within))

-- ---- the box of some pieces

pub small_at : (at : List ℕ) (i : ℕ) → IsSmall at → get_or at i 0 ≤ 2 ^ 20
small_at at i h = of (slice_get at i) refl
  where
    of : (o : Option ℕ) → slice_get at i ≡ o → get_or at i 0 ≤ 2 ^ 20
    of None e = let past = get_past at i 0 (none_past at i e) in omega (arith, past)
    of (Some v) e = let is = get_of at i v 0 e in let small = all_at_place (λ (x : ℕ). x ≤ 2 ^ 20) at i v e h in omega (arith, is, small)

module _ (xs : List Seat) (low high : List ℕ) (count : ℕ) where
  low_is : AreLows xs low → (k : ℕ) (d : Seat) → k < length xs → (i : ℕ) → get_or low i 0 ≤ get_or (get_or xs k d).at.items i 0
  low_is h k d less i = of (slice_get low i) refl
    where
      of : (o : Option ℕ) → slice_get low i ≡ o → get_or low i 0 ≤ get_or (get_or xs k d).at.items i 0
      of None e = let past = get_past low i 0 (none_past low i e) in omega (arith, past)
      of (Some v) e = let is = get_of low i v 0 e in let le = h i v e k d less in omega (arith, is, le)

  high_is : AreHighs xs high → length high ≡ count → All (λ x. length x.at.items ≤ count) xs → (k : ℕ) (d : Seat) → k < length xs → (i : ℕ) → get_or (get_or xs k d).at.items i 0 ≤ get_or high i 0
  high_is h long all k d less i = of (slice_get high i) refl
    where
      of : (o : Option ℕ) → slice_get high i ≡ o → get_or (get_or xs k d).at.items i 0 ≤ get_or high i 0
      of None e =
          let past = none_past high i e in
          let few = all k d less in
          let none = get_past (get_or xs k d).at.items i 0 (omega (arith, past, few, long)) in
          omega (arith, none)
      of (Some v) e = let is = get_of high i v 0 e in let le = h i v e k d less in omega (arith, is, le)

  pub all_between : AreLows xs low → AreHighs xs high → length high ≡ count → All (λ x. length x.at.items ≤ count) xs → All (λ x. IsBetween low high x.at.items) xs
  all_between h k long all n d less i = (low_is h n d less i, high_is k long all n d less i)

-- ---- lines of which those that name no point, or no more than another, are left out

only : (x m : Need) (k : ℕ) → k < length (x ∷ []) → get_or (x ∷ []) k m ≡ m → x ≡ m
only x m zero less e = e
only x m (suc k) less e = absurd (omega (arith, less))

pub those_self : (at : List ℕ) (ms ns : List Need) → ms ≡ ns → AreThoseAt at ms ns
those_self at ms ns e = record {
  among = λ m h. subst (λ (ks : List Need). Contains ks m) e h;
  left = λ n h. inl (n, subst (λ (ks : List Need). Contains ks n) (sym e) h, at_self at n);
}

pub those_kept : (at : List ℕ) (ms ns now : List Need) (n : Need) → AreOuterAt at now (ms ++ n ∷ []) → AreThoseAt at ms ns → AreThoseAt at now (ns ++ n ∷ [])
those_kept at ms ns now n more h = record {
  among = λ m has. elim (Contains-append_cases ms (n ∷ []) m (more.among m has)) [ inl a ↦ Contains-append_left ns (n ∷ []) m (h.among m a) | inr b ↦ Contains-append_right ns (n ∷ []) m b ];
  left = λ m has. elim (Contains-append_cases ns (n ∷ []) m has) [
    | inl a ↦ elim (h.left m a) [
      | inl one ↦
          let two = more.all one.0 (Contains-append_left ms (n ∷ []) one.0 one.1) in
          inl (two.0, two.1, at_on at m one.0 two.0 one.2 two.2)
      | inr e ↦ inr e
    ]
    | inr b ↦ inl (more.all m (Contains-append_right ms (n ∷ []) m b))
  ];
}

pub those_left : (at : List ℕ) (ms ns : List Need) (n : Need) → points (grid_symbols at) n.region ≡ [] → AreThoseAt at ms ns → AreThoseAt at ms (ns ++ n ∷ [])
those_left at ms ns n none h = record {
  among = λ m has. Contains-append_left ns (n ∷ []) m (h.among m has);
  left = λ m has. elim (Contains-append_cases ns (n ∷ []) m has) [
    | inl a ↦ h.left m a
    | inr b ↦ inr (subst (λ (y : Need). points (grid_symbols at) y.region ≡ []) (only n m b.0 b.1 b.2) none)
  ];
}

those_on : (at : List ℕ) (ks ms ns : List Need) → AreThoseAt at ks ms → AreThoseAt at ms ns → AreThoseAt at ks ns
those_on at ks ms ns h l = record {
  among = λ m has. l.among m (h.among m has);
  left = λ n has. elim (l.left n has) [
    | inl one ↦ elim (h.left one.0 one.1) [
      | inl two ↦ inl (two.0, two.1, at_on at n one.0 two.0 one.2 two.2)
      | inr e ↦ inr (no_points_in at n one.0 one.2 e)
    ]
    | inr e ↦ inr e
  ];
}

-- ---- lines within the limits

like_limited : (o : Option Group) (xs : List Span1) → MatchOption o ⊥ (λ g. IsLike xs (length g.grid)) → IsLimited xs
like_limited None xs h = absurd h
like_limited (Some g) xs h = h.0

pub shared_limited : (p : Plan) (n : Need) → NeedIsShared p n → IsLimited n.region
shared_limited p n h = like_limited (slice_get p.groups n.needed) n.region h

-- the line at a place of lines that are lent
pub lent_limited : (ls : List (Bor Need)) (k : ℕ) (d : Bor Need) → k < length ls → d ≡ get_or ls k d → LinesAreLimited (map (λ n. n.now) ls) → IsLimited d.now.region
lent_limited [] k d less is h = absurd (omega (arith, less))
lent_limited (x ∷ xs) zero d less is h = subst (λ (b : Bor Need). IsLimited b.now.region) (sym is) (h 0 x.now (omega arith))
lent_limited (x ∷ xs) (suc k) d less is h = lent_limited xs k d (omega (arith, less)) is (λ j e within. h (suc j) e (omega (arith, within)))

pub option_at : {A : Type 0} (P Q : A → Type 0) → ((x : A) → P x → Q x) → (o : Option A) → MatchOption o ⊥ P → MatchOption o ⊥ Q
option_at P Q on None h = absurd h
option_at P Q on (Some x) h = on x h

abbrev Limited : List (Bor Need) → Type 0
Limited ls = LinesAreLimited (map (λ (n : Bor Need). n.now) ls)

abbrev EachLimited : List (Bor Need) → Type 0
EachLimited ls = AllByRecursion (λ (n : Need). IsLimited n.region) (map (λ (n : Bor Need). n.now) ls)

each_limited : (ls : List (Bor Need)) → Limited ls → EachLimited ls
each_limited ls h = recursion_from_All (λ (n : Need). IsLimited n.region) (map (λ (n : Bor Need). n.now) ls) h

all_limited : (ls : List (Bor Need)) → EachLimited ls → Limited ls
all_limited ls h = All-from_recursion (λ (n : Need). IsLimited n.region) (map (λ (n : Bor Need). n.now) ls) h

drop_limited : (ls : List (Bor Need)) (k : ℕ) → EachLimited ls → EachLimited (drop k ls)
drop_limited [] zero h = tt
drop_limited [] (suc k) h = tt
drop_limited (x ∷ ls) zero h = h
drop_limited (x ∷ ls) (suc k) h = drop_limited ls k h.1

take_limited : (ls : List (Bor Need)) (k : ℕ) → EachLimited ls → EachLimited (take k ls)
take_limited [] zero h = tt
take_limited [] (suc k) h = tt
take_limited (x ∷ ls) zero h = tt
take_limited (x ∷ ls) (suc k) h = (h.0, take_limited ls k h.1)

-- some lines behind a place
pub limited_behind : (ls : List (Bor Need)) (k many : ℕ) → Limited ls → Limited (take many (drop k ls))
limited_behind ls k many h = all_limited (take many (drop k ls)) (take_limited (drop k ls) many (drop_limited ls k (each_limited ls h)))

set_limited : (ls : List (Bor Need)) (k : ℕ) (b : Bor Need) → EachLimited ls → IsLimited b.now.region → EachLimited (slice_set ls k b)
set_limited [] k b h this = tt
set_limited (x ∷ ls) zero b h this = (this, h.1)
set_limited (x ∷ ls) (suc k) b h this = (h.0, set_limited ls k b h.1 this)

-- a line in the place of another
pub limited_set : (ls : List (Bor Need)) (k : ℕ) (b : Bor Need) → Limited ls → IsLimited b.now.region → Limited (slice_set ls k b)
limited_set ls k b h this = all_limited (slice_set ls k b) (set_limited ls k b (each_limited ls h) this)

push_limited : (ls : List (Bor Need)) (b : Bor Need) → EachLimited ls → IsLimited b.now.region → EachLimited (ls ++ b ∷ [])
push_limited [] b h this = (this, tt)
push_limited (x ∷ ls) b h this = (h.0, push_limited ls b h.1 this)

-- one more
pub limited_last : (ls now : List (Bor Need)) (b : Bor Need) → now ≡ ls ++ b ∷ [] → Limited ls → IsLimited b.now.region → Limited now
limited_last ls now b e h this = subst Limited (sym e) (all_limited (ls ++ b ∷ []) (push_limited ls b (each_limited ls h) this))

pub limited_none : (ls : List (Bor Need)) → ls ≡ [] → Limited ls
limited_none ls e = subst Limited (sym e) (all_limited [] tt)

pub lines_limited : (p : Plan) (g : ℕ) (ns : List Need) → AreLinesOf p g ns → LinesAreLimited ns
lines_limited p g ns = all_on (λ n. (n.group ≡ g) × NeedIsShared p n) (λ n. IsLimited n.region) ns (λ n h. shared_limited p n h.1)

each_of : (P : Need → Type 0) (ns : List Need) → ((n : Need) → Contains ns n → P n) → AllByRecursion P ns
each_of P [] h = tt
each_of P (n ∷ ns) h = (h n (0, omega arith, refl), each_of P ns (λ m at. h m (Contains-append_right (n ∷ []) ns m at)))

limited_among : (ms ns : List Need) → ((m : Need) → Contains ms m → Contains ns m) → LinesAreLimited ns → LinesAreLimited ms
limited_among ms ns among h = All-from_recursion (λ n. IsLimited n.region) ms (each_of (λ n. IsLimited n.region) ms (λ n at. holds_of (λ n. IsLimited n.region) ns n h (among n at)))

-- ---- blocks

abbrev lines_in : List (Bor Need) → List Need
lines_in ls = map (λ (n : Bor Need). n.now) ls

module _ (seats : List Seat) (gathered : List GroupNeeds) (first : ℕ) where
  -- the lines of a group in a block of it
  pub block_of_group : (b : Block) (f : Seat) (y : GroupNeeds) → slice_get seats first ≡ Some f → slice_get gathered f.group ≡ Some y → IsBlockOf seats first (lines_in y.moving.items) b → IsBlockFrom seats gathered first b
  block_of_group b f y here lines h k from to s z at there =
      let both = h k s f from to at here in
      let same : y ≡ z = some_same y z (sym lines ∙ ap (slice_get gathered) (sym both.0) ∙ there) in
      subst (λ (x : GroupNeeds). AreThoseAt s.at.items (lines_in b.moving.items) (lines_in x.moving.items)) same both.1

  -- the lines of a block in one that lies in it
  pub block_within : (large b : Block) (f : Seat) → slice_get seats first ≡ Some f → b.end ≤ large.end → IsBlockOf seats first (lines_in large.moving.items) b → IsBlockFrom seats gathered first large → IsBlockFrom seats gathered first b
  block_within large b f here less h all k from to s z at there =
      let both = h k s f from to at here in
      those_on s.at.items (lines_in b.moving.items) (lines_in large.moving.items) (lines_in z.moving.items) both.1 (all k from (omega (arith, to, less)) s z at there)

  pub block_limited : (p : Plan) (groups : ℕ) (b : Block) (f : Seat) (y : GroupNeeds) → HaveLinesOf p groups gathered → slice_get seats first ≡ Some f → slice_get gathered f.group ≡ Some y → first < b.end → IsBlockFrom seats gathered first b → LinesAreLimited (lines_in b.moving.items)
  block_limited p groups b f y have here lines less h =
      let those = h first (omega arith) less f y here lines in
      limited_among (lines_in b.moving.items) (lines_in y.moving.items) those.among (lines_limited p f.group (lines_in y.moving.items) (have.each f.group y lines))

pub walk_limited : (p : Plan) (groups : ℕ) (seats : List Seat) (gathered : List GroupNeeds) (first : ℕ) (b : Block) → HaveLinesOf p groups gathered → first < length seats →
    ((s : Seat) → slice_get seats first ≡ Some s → s.group < length gathered) → first < b.end → IsBlockFrom seats gathered first b → LinesAreLimited (lines_in b.moving.items)
walk_limited p groups seats gathered first b have less within some h =
    let f = some_at seats first less in
    let y = some_at gathered f.0.group (within f.0 f.1) in
    block_limited seats gathered first p groups b f.0 y.0 have f.1 y.1 some h

pub block_later : (seats : List Seat) (gathered : List GroupNeeds) (first later : ℕ) (b : Block) → first ≤ later → IsBlockFrom seats gathered first b → IsBlockFrom seats gathered later b
block_later seats gathered first later b behind h k from to = h k (omega (arith, behind, from)) to

pub no_block : (seats : List Seat) (gathered : List GroupNeeds) (first : ℕ) (b : Block) → b.end ≡ 0 → IsBlockFrom seats gathered first b
no_block seats gathered first b none k from to = absurd (omega (arith, to, none))

pub walk_later : (seats : List Seat) (gathered : List GroupNeeds) (first later : ℕ) (w : Walk) → first ≤ later → IsWalkFrom seats gathered first w → IsWalkFrom seats gathered later w
walk_later seats gathered first later w behind h = record {
  large = block_later seats gathered first later w.large behind h.large;
  middle = block_later seats gathered first later w.middle behind h.middle;
  lesser = block_later seats gathered first later w.lesser behind h.lesser;
  small = block_later seats gathered first later w.small behind h.small;
}
