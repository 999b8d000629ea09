-- What holds of the shares of a plan's pieces by tests of their lists, which compute.
use Rattle.std.proofs.Common.{◌≡◌, ℕ, zero, suc, ◌+◌, ◌<◌, ◌≤◌, ◌^◌, List, [], ◌∷◌, length, map, Bool, true, false, Option, Some, None, refl, sym, ap, ◌∙◌, subst, inl, inr, arith}
use Rattle.std.specs.Prelude.{ℤ, pos, negsuc, ◌-◌, ◌&&◌, ◌||◌, ◌==◌, not, int_le, nat_le, nat_lt, Contains, MatchOption, slice_get}
use Rattle.std.specs.List.{list_all, range_with_len}
use Rattle.std.proofs.lemmas.Bool.{false≢true}
use Rattle.std.proofs.lemmas.Bool.Decides.{nat_tests}
use Rattle.std.proofs.lemmas.Int.{ints}
use Rattle.std.proofs.lemmas.List.Elements.{All-from_recursion}
use Rattle.meaning.specs.Image.Raster.{is_within}
use Rattle.plan.specs.Plan.{Group, Plan}
use Rattle.plan.specs.Lines.{certificate_line}
use Rattle.plan.specs.Semantics.Worked.{constants}
use Rattle.plan.specs.declared.certificate.cert.Need.{Need}
use Rattle.plan.specs.Certificate.Certificate.{Certificate}
use Rattle.plan.specs.Certificate.Cells.{Piece, cells, pieces, own_region, is_in_region, no_symbols}
use Rattle.soundness.specs.Obligations.{is_member}
use Rattle.soundness.proofs.Refines.{and_parts, eq_refl}
use Rattle.orders.specs.Work.{HasSoundLists}
use Rattle.soundness.specs.Outline.Refusals.Codes.{number_of}
use Rattle.soundness.specs.declared.outline.refusals.code.Flaw.{Flaw}
use Rattle.soundness.specs.declared.outline.refusals.code.K.{K}
use Rattle.soundness.specs.declared.outline.refusals.code.K.TheVariants.{K1, K2, K3, K4, K5, K6, K7, K8, K9, K10, K11, K12, K13, K14}
use Rattle.headline.specs.Numbers.{has_point, is_cell}
use Rattle.headline.specs.Work.{cells_fetched, of_piece}
use Rattle.headline.proofs.Members.{in_of, contains_of}
use Rattle.shares.specs.Boxes.{is_in_box}
use Rattle.shares.specs.Has.{HasShares, NeedsPieces, IsServed, fetched_before, needed_before}
use Rattle.shares.specs.FetchLines.{plan_fetch_lines}
use Rattle.shares.specs.Layout.{OwnIsInside, PieceIsInside, FetchesCells, PieceFetchesCells, own_list, fetched_list, needs_list, region_points}
use Rattle.shares.specs.Made.{IsFirstOwn, IsPieceOf, OwnCode, Overlaps, need_place}
use Rattle.shares.specs.Needed.{NeedIsInside, NeedsAreInside, need_grid, need_points}
use Rattle.shares.proofs.Firsts.{not_before}
use Rattle.shares.proofs.Having.{cells_within}
use Rattle.shares.proofs.Near.{plain_near}
use Rattle.shares.proofs.Owning.{piece_below}
use Rattle.audit.proofs.OfVerdict.Lists.{each, le_true, lt_true}
use Rattle.audit.proofs.OfVerdict.Listed.{is_rising, IsRising, rising_of, in_member, range_in, all_own, apart_of, all_rising, in_table_of, whole_of, is_owned, owner_of, owned_of, each_in, all_of, at_each}

module _ (p : Plan) (c : Certificate) where
  abbrev pub own_all : List ℕ
  own_all = all_own (own_list p c) 0 (length (pieces p))

  abbrev pub piece_is_inside : Piece → Bool
  piece_is_inside j = list_all (has_point (slice_get p.groups j.group)) (region_points (own_region c.own j.group) j)

  abbrev pub fetches_cells : Piece → Bool
  fetches_cells j = list_all (is_cell p) (cells_fetched p j)

  abbrev pub need_is_inside : Piece → Need → Bool
  need_is_inside j n = not (n.group == j.group) || list_all (is_in_box (need_grid p n)) (need_points j n)

  abbrev pub needs_pieces : Piece → Bool
  needs_pieces j = list_all (need_is_inside j) c.needs

  -- the pieces that a piece needs are earlier, and own what it fetches
  abbrev pub is_served : ℕ → Bool
  is_served n = list_all (λ k. nat_lt k n) (needs_list p c n) && list_all (is_owned (own_list p c) (needs_list p c n)) (fetched_list p n)

  pub inside_of : list_all piece_is_inside (pieces p) ≡ true → (n : ℕ) → OwnIsInside p c n
  inside_of h = at_each (PieceIsInside p c) piece_is_inside tt (λ j e. all_of (has_point (slice_get p.groups j.group)) (region_points (own_region c.own j.group) j) e) (pieces p) h

  pub cells_of : list_all fetches_cells (pieces p) ≡ true → (n : ℕ) → FetchesCells p n
  cells_of h = at_each (PieceFetchesCells p) fetches_cells tt (λ j e. all_of (is_cell p) (cells_fetched p j) e) (pieces p) h

  need_inside : (j : Piece) (n : Need) → need_is_inside j n ≡ true → NeedIsInside p j n
  need_inside j n h e = all_of (is_in_box (need_grid p n)) (need_points j n) (of (n.group == j.group) (list_all (is_in_box (need_grid p n)) (need_points j n)) (ap (λ g. g == j.group) e ∙ eq_refl j.group) h)
    where
      of : (v w : Bool) → v ≡ true → (not v || w) ≡ true → w ≡ true
      of true w k m = m
      of false w k m = absurd (cc k)

  pub needs_of : list_all needs_pieces (pieces p) ≡ true → (n : ℕ) → NeedsPieces p c n
  needs_of h = at_each (λ o. MatchOption o (Unit {0}) (λ j. NeedsAreInside p j c.needs)) needs_pieces tt
      (λ j e. All-from_recursion (NeedIsInside p j) c.needs (each (need_is_inside j) (NeedIsInside p j) (need_inside j) c.needs e)) (pieces p) h

  pub earlier_of : (n : ℕ) → is_served n ≡ true → (k : ℕ) → Contains (needs_list p c n) k → k < n
  earlier_of n h k m = lt_true k n (each_in (λ i. nat_lt i n) (needs_list p c n) k (and_parts (list_all (λ i. nat_lt i n) (needs_list p c n)) _ h).0 (in_of (needs_list p c n) k m))

  pub owned_where : (n : ℕ) → is_served n ≡ true → (x : ℕ) → Contains (fetched_list p n) x → (k : ℕ) × Contains (needs_list p c n) k × Contains (own_list p c k) x
  owned_where n h x m =
      let one = each_in (is_owned (own_list p c) (needs_list p c n)) (fetched_list p n) x (and_parts (list_all (λ i. nat_lt i n) (needs_list p c n)) _ h).1 (in_of (fetched_list p n) x m) in
      let k = owner_of (own_list p c) (needs_list p c n) x one in
      (k.0, contains_of (needs_list p c n) k.0 k.1, contains_of (own_list p c k.0) x k.2)

  -- the tests of the lists of all pieces
  pub record AreTested : Type 0 where
    pub plain : list_all (λ x. length x.lets == 0) (plan_fetch_lines p) ≡ true
    pub inside : list_all piece_is_inside (pieces p) ≡ true
    pub fetches : list_all fetches_cells (pieces p) ≡ true
    pub needs : list_all needs_pieces (pieces p) ≡ true
    pub own : own_all ≡ range_with_len 0 (length (cells p))
    pub served : list_all is_served (range_with_len 0 (length (pieces p))) ≡ true
    pub few_fetched : nat_le (fetched_before p (length (pieces p))) (2 ^ 26) ≡ true
    pub few_needed : nat_le (needed_before p c (length (pieces p))) (2 ^ 24) ≡ true

  pub lists_of : AreTested → HasSoundLists (length (pieces p)) (length (cells p)) (own_list p c) (fetched_list p) (needs_list p c)
  lists_of t =
      let n = length (pieces p) in
      let served : (k : ℕ) → k < n → is_served k ≡ true = λ k less. each_in is_served (range_with_len 0 n) k t.served (range_in k 0 n (omega arith) (omega (arith, less))) in
      record {
        in_table = in_table_of (own_list p c) n (length (cells p)) t.own;
        apart = apart_of (own_list p c) n (all_rising (own_list p c) n (length (cells p)) t.own);
        whole = whole_of (own_list p c) n (length (cells p)) t.own;
        earlier = λ k i less m. earlier_of k (served k less) i m;
        needed = λ k x less m. owned_where k (served k less) x m;
      }

  pub shares_of : AreTested → HasShares p c
  shares_of t = record {
    near = plain_near p t.plain;
    inside = inside_of t.inside;
    cells = cells_of t.fetches;
    pieces = needs_of t.needs;
    lists = λ a samples. lists_of t;
    few = record { fetched = le_true (fetched_before p (length (pieces p))) (2 ^ 26) t.few_fetched; needed = le_true (needed_before p c (length (pieces p))) (2 ^ 24) t.few_needed };
  }

  -- ---- what is wrong at own lines

  -- where all own cells rise no cell is owned twice
  none_twice : IsRising 0 own_all → (n : ℕ) → ¬ Overlaps p c n
  none_twice h n found =
      let less = piece_below p n found.0 found.1 in
      found.2 (λ j a b within la lb e. apart_of (own_list p c) (length (pieces p)) h found.0 j a b less within la lb e)

  pub none_overlaps : is_rising 0 own_all ≡ true → (n : ℕ) → ¬ Overlaps p c n
  none_overlaps h n = none_twice (rising_of 0 own_all h) n

  -- a cell that the test finds in no piece's list
  pub not_owned : (x : ℕ) → list_all (λ k. not (is_member x (own_list p c k))) (range_with_len 0 (length (pieces p))) ≡ true → (k : ℕ) → k < length (pieces p) → ¬ Contains (own_list p c k) x
  not_owned x h k less has =
      let none = each_in (λ i. not (is_member x (own_list p c i))) (range_with_len 0 (length (pieces p))) k h (range_in k 0 (length (pieces p)) (omega arith) (omega (arith, less))) in
      let some = in_member x (own_list p c k) (in_of (own_list p c k) x has) in
      absurd (false≢true (ap not (sym some) ∙ none))

  -- without cells that are owned twice codes at own lines are 10 or more
  pub from_ten : (n : ℕ) (k : K) → ¬ Overlaps p c n → OwnCode p c n k → 10 ≤ number_of k
  from_ten n K9 none h = absurd (none h)
  from_ten n K10 none h = omega arith
  from_ten n K11 none h = omega arith
  from_ten n K1 none h = absurd h
  from_ten n K2 none h = absurd h
  from_ten n K3 none h = absurd h
  from_ten n K4 none h = absurd h
  from_ten n K5 none h = absurd h
  from_ten n K6 none h = absurd h
  from_ten n K7 none h = absurd h
  from_ten n K8 none h = absurd h
  from_ten n K12 none h = absurd h
  from_ten n K13 none h = absurd h
  from_ten n K14 none h = absurd h

  -- a flaw at the first own line is the first, where no lower code is told there
  pub first_own : (groups : ℕ) (f : Flaw) → f.line ≡ certificate_line p + 1 → f.line < 2 ^ 32 - 1 → ((n : ℕ) (k : K) → OwnCode p c n k → number_of f.code ≤ number_of k) → IsFirstOwn p c groups f
  first_own groups f at less low g own = let line = own.3 in not_before g f (omega (arith, at, less, line)) (λ e. low own.0 g.code own.2)

  -- ---- what is wrong at need lines

  abbrev is_some : Option ℕ → Bool
  is_some None = false
  is_some (Some i) = true

  -- a piece of a group that has no need line is served without
  abbrev pub is_served_alone : ℕ → Bool
  is_served_alone k = of_piece (slice_get (pieces p) k) true (λ j. is_some (need_place c.needs j.group) || is_served k)

  served_alone : list_all is_served_alone (range_with_len 0 (length (pieces p))) ≡ true → (n piece : ℕ) → need_place c.needs n ≡ None → IsPieceOf p n piece → is_served piece ≡ true
  served_alone h n piece alone is =
      let less = piece_below p n piece is in
      of (slice_get (pieces p) piece) is (each_in is_served_alone (range_with_len 0 (length (pieces p))) piece h (range_in piece 0 (length (pieces p)) (omega arith) (omega (arith, less))))
    where
      rest : (v w : Bool) → v ≡ false → (v || w) ≡ true → w ≡ true
      rest true w e k = absurd (cc e)
      rest false w e k = k

      of : (o : Option Piece) → MatchOption o ⊥ (λ j. j.group ≡ n) → of_piece o true (λ j. is_some (need_place c.needs j.group) || is_served piece) ≡ true → is_served piece ≡ true
      of None m k = absurd m
      of (Some j) m k = rest (is_some (need_place c.needs j.group)) (is_served piece) (ap (λ g. is_some (need_place c.needs g)) m ∙ ap is_some alone) k

  -- the tests of the lists of pieces but for those that need others
  pub record AreTestedAlone : Type 0 where
    pub inside : list_all piece_is_inside (pieces p) ≡ true
    pub fetches : list_all fetches_cells (pieces p) ≡ true
    pub needs : list_all needs_pieces (pieces p) ≡ true
    pub own : own_all ≡ range_with_len 0 (length (cells p))
    pub served : list_all is_served_alone (range_with_len 0 (length (pieces p))) ≡ true

  -- then nothing is wrong at own lines
  pub none_own : AreTestedAlone → (n : ℕ) (k : K) → OwnCode p c n k → ⊥
  none_own t n K9 h = none_twice (all_rising (own_list p c) (length (pieces p)) (length (cells p)) t.own) n h
  none_own t n K10 (inl leaves) = leaves.2 (inside_of t.inside leaves.0)
  none_own t n K10 (inr gap) =
      let most = cells_within 0 p.groups (n + 1) in
      let high = gap.2 in
      let owner = whole_of (own_list p c) (length (pieces p)) (length (cells p)) t.own gap.0 (omega (arith, most, high)) in
      gap.3 owner.0 owner.1 owner.2
  none_own t n K11 h =
      let found = h.1 in
      let yes = served_alone t.served n found.0 h.0 found.1 in
      found.2 (record { cells = cells_of t.fetches found.0; pieces = needs_of t.needs found.0; earlier = earlier_of found.0 yes; owned = owned_where found.0 yes })
  none_own t n K1 h = h
  none_own t n K2 h = h
  none_own t n K3 h = h
  none_own t n K4 h = h
  none_own t n K5 h = h
  none_own t n K6 h = h
  none_own t n K7 h = h
  none_own t n K8 h = h
  none_own t n K12 h = h
  none_own t n K13 h = h
  none_own t n K14 h = h

  -- a fetched cell of which the test finds no owner among the needed pieces
  pub unserved_of : (n x : ℕ) → Contains (fetched_list p n) x → is_owned (own_list p c) (needs_list p c n) x ≡ false → ¬ IsServed p c n
  unserved_of n x has none served =
      let k = served.owned x has in
      absurd (false≢true (sym none ∙ owned_of (own_list p c) (needs_list p c n) x k.0 (in_of (needs_list p c n) k.0 k.1) (in_of (own_list p c k.0) x k.2)))

-- ---- plans of one group, and of two

pub of_one : (P : ℕ → Group → Type 0) (x : Group) → P 0 x → (n : ℕ) (g : Group) → slice_get (x ∷ []) n ≡ Some g → P n g
of_one P x h zero g e = let same : x ≡ g = cc e in subst (P 0) same h
of_one P x h (suc n) g e = absurd (cc e)

pub of_two : (P : ℕ → Group → Type 0) (x y : Group) → P 0 x → P 1 y → (n : ℕ) (g : Group) → slice_get (x ∷ y ∷ []) n ≡ Some g → P n g
of_two P x y h k zero g e = let same : x ≡ g = cc e in subst (P 0) same h
of_two P x y h k (suc zero) g e = let same : y ≡ g = cc e in subst (P 1) same k
of_two P x y h k (suc (suc n)) g e = absurd (cc e)

-- ---- regions from 0 on

-- the region from 0 to these numbers has all points within one more than these
pub whole_has : (ns : List ℕ) (at : List ℤ) → is_within (map suc ns) at ≡ true → is_in_region no_symbols (map (λ n. constants (pos 0) (pos n)) ns) at ≡ true
whole_has [] [] h = refl
whole_has [] (z ∷ zs) h = absurd (cc h)
whole_has (n ∷ ns) [] h = absurd (cc h)
whole_has (n ∷ ns) (negsuc x ∷ zs) h = absurd (cc h)
whole_has (n ∷ ns) (pos x ∷ zs) h =
    let k = and_parts (nat_lt x (suc n)) (is_within (map suc ns) zs) h in
    let less = lt_true x (suc n) k.0 in
    let low : int_le (pos 0) (pos x) ≡ true = grind (arith, nat_tests, ints) in
    let high : int_le (pos x) (pos (n + 0)) ≡ true = grind (arith, nat_tests, ints, less) in
    let rest = whole_has ns zs k.1 in
    λ i. ((low i && true) && (high i && true)) && rest i
