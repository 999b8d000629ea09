-- Lines of groups that pass a limit.
use Rattle.std.proofs.Common.{◌≡◌, ℕ, zero, suc, ◌+◌, ◌^◌, ◌<◌, ◌≤◌, List, [], ◌∷◌, take, map, length, Bool, false, Some, None, sym, arith, inl, inr}
use Rattle.std.specs.Prelude.{◌&&◌, nat_le, nat_lt, slice_get}
use Rattle.std.specs.List.{list_all}
use Rattle.std.proofs.lemmas.Bool.{false≢true}
use Rattle.std.proofs.lemmas.Bool.Decides.{nat_tests}
use Rattle.lin.specs.declared.span.Span1.{Span1}
use Rattle.meaning.specs.Algorithm.{Algorithm}
use Rattle.plan.specs.declared.stmt.Places.{Places}
use Rattle.plan.specs.declared.stmt.Places.TheVariants.{From, Folded}
use Rattle.plan.specs.Plan.{Index, At, Found, Coordinate, Statement, Seq, For, Let, First, Guard, Alloc, Fetch, Store, Publish, Group, Plan}
use Rattle.plan.specs.Lines.{group_line}
use Rattle.plan.specs.Certificate.Certificate.{Certificate}
use Rattle.plan.specs.Certificate.Cells.{piece_count}
use Rattle.headline.specs.Sound.{publishes}
use Rattle.soundness.specs.Origins.{Outline}
use Rattle.soundness.specs.Given.{outline_of}
use Rattle.soundness.specs.Outline.Flaws.{first_of, line_told}
use Rattle.soundness.specs.Outline.Forms.{is_listed, have_ends}
use Rattle.validation.specs.Told.{IsTold}
use Rattle.validation.specs.Stored.Sizes.{counted, is_small}
use Rattle.validation.specs.Stored.Stored.{index_is_small}
use Rattle.validation.specs.Groups.Sizes.{more, product, place_count, places_count, extent_of, cell_count, is_extent}
use Rattle.validation.specs.Groups.Lines.{Here, is_foldable, flaws_of_groups}
use Rattle.validation.specs.Groups.Wrong.{IndexIsLarge, FoldsNone, PassesLimit, PassesExtent, cells_of, pieces_of, GroupPassesLimit, PassesLimitAt}
use Rattle.validation.proofs.Told.{Tests, on_either, limits_are, limits_so, told_twice, told_again}
use Rattle.validation.proofs.Wide.{and_fails, fails_left, fails_right, any_fails, all_fail, past, is_past, unlisted_is, is_unlisted, span_unlisted_is, span_is_unlisted, region_unlisted_is, region_is_unlisted, large_is, is_large}
use Rattle.validation.proofs.GroupsTold.{tests, codes, head_tests, cells_at, pieces_at, lines_told}

-- ---- one line

fold_is : (x : Places) → is_foldable x ≡ false → FoldsNone x
fold_is (From form n) h = absurd (false≢true (sym h))
fold_is (Folded n) h = let k = past 1 n h in omega (arith, k)

is_fold : (x : Places) → FoldsNone x → is_foldable x ≡ false
is_fold (From form n) h = absurd h
is_fold (Folded n) h = is_past 1 n (omega (arith, h))

index_large_is : (x : Index) → index_is_small x ≡ false → IndexIsLarge x
index_large_is (At form) h = absurd (false≢true (sym h))
index_large_is (Found e) h = large_is e h

index_is_large : (x : Index) → IndexIsLarge x → index_is_small x ≡ false
index_is_large (At form) h = absurd h
index_is_large (Found e) h = is_large e h

-- numbers that are counted to the end of a u64
counted_past : (used places : ℕ) → 2 ^ 22 < more used (counted places) → 2 ^ 22 < used + places
counted_past used places h = omega (arith, h)

past_counted : (used places : ℕ) → 2 ^ 22 < used + places → 2 ^ 22 < more used (counted places)
past_counted used places h = omega (arith, h)

-- at most 256 together with the one that comes
from_256 : (n : ℕ) → nat_lt n 256 ≡ false → 256 ≤ n
from_256 n h = grind (arith, nat_tests, h)

is_from_256 : (n : ℕ) → 256 ≤ n → nat_lt n 256 ≡ false
is_from_256 n h = grind (arith, nat_tests, h)

abbrev roomy : Here → List Places → Bool
roomy here places = nat_le (more here.used (places_count places)) (2 ^ 22)

abbrev small : Coordinate → Bool
small x = index_is_small x.index

abbrev Large : Coordinate → Type 0
Large x = IndexIsLarge x.index

module _ (a : Algorithm) (p : Plan) (c : Certificate) (g : Group) (o : Outline) where
  abbrev limits : Statement → Here → Bool
  limits s here = (tests a p c g o s here).limits

  limit_is : (s : Statement) (here : Here) → limits s here ≡ false → PassesLimit s here
  limit_is (Seq all) here h = absurd (false≢true (sym h))
  limit_is (For i x kind body) here h = on_either (and_fails (is_listed x.lower && is_listed x.upper) (nat_lt here.bound 256) h) (λ e. inl (span_unlisted_is x e)) (λ e. inr (from_256 here.bound e))
  limit_is (Let i pick fs) here h = on_either (and_fails (is_listed fs) (nat_lt here.bound 256) h) (λ e. inl (unlisted_is fs e)) (λ e. inr (from_256 here.bound e))
  limit_is (First i s t) here h = absurd (false≢true (sym h))
  limit_is (Guard low high body) here h = absurd (false≢true (sym h))
  limit_is (Alloc b f places) here h = on_either (and_fails (list_all is_foldable places) (roomy here places && nat_lt here.held 256) h)
      (λ e. inl (any_fails is_foldable FoldsNone fold_is places e))
      (λ e. on_either (and_fails (roomy here places) (nat_lt here.held 256) e)
      (λ k. inr (inl (counted_past here.used (product (map place_count places)) (past (more here.used (places_count places)) (2 ^ 22) k))))
      (λ k. inr (inr (from_256 here.held k))))
  limit_is (Fetch b q region) here h = on_either (and_fails here.fetching (have_ends region) h) (λ e. inl e) (λ e. inr (region_unlisted_is region e))
  limit_is (Store b k at e) here h = on_either (and_fails (is_small e) (list_all small at) h) (λ q. inl (large_is e q)) (λ q. inr (any_fails small Large (λ x. index_large_is x.index) at q))
  limit_is (Publish k) here h = h

  is_limit : (s : Statement) (here : Here) → PassesLimit s here → limits s here ≡ false
  is_limit (Seq all) here h = absurd h
  is_limit (For i x kind body) here (inl h) = fails_left (is_listed x.lower && is_listed x.upper) (nat_lt here.bound 256) (span_is_unlisted x h)
  is_limit (For i x kind body) here (inr h) = fails_right (is_listed x.lower && is_listed x.upper) (nat_lt here.bound 256) (is_from_256 here.bound h)
  is_limit (Let i pick fs) here (inl h) = fails_left (is_listed fs) (nat_lt here.bound 256) (is_unlisted fs h)
  is_limit (Let i pick fs) here (inr h) = fails_right (is_listed fs) (nat_lt here.bound 256) (is_from_256 here.bound h)
  is_limit (First i s t) here h = absurd h
  is_limit (Guard low high body) here h = absurd h
  is_limit (Alloc b f places) here (inl h) = fails_left (list_all is_foldable places) (roomy here places && nat_lt here.held 256) (all_fail is_foldable FoldsNone is_fold places h)
  is_limit (Alloc b f places) here (inr (inl h)) = fails_right (list_all is_foldable places) (roomy here places && nat_lt here.held 256)
      (fails_left (roomy here places) (nat_lt here.held 256) (is_past (more here.used (places_count places)) (2 ^ 22) (past_counted here.used (product (map place_count places)) h)))
  is_limit (Alloc b f places) here (inr (inr h)) = fails_right (list_all is_foldable places) (roomy here places && nat_lt here.held 256)
      (fails_right (roomy here places) (nat_lt here.held 256) (is_from_256 here.held h))
  is_limit (Fetch b q region) here (inl h) = fails_left here.fetching (have_ends region) h
  is_limit (Fetch b q region) here (inr h) = fails_right here.fetching (have_ends region) (region_is_unlisted region h)
  is_limit (Store b k at e) here (inl h) = fails_left (is_small e) (list_all small at) (is_large e h)
  is_limit (Store b k at e) here (inr h) = fails_right (is_small e) (list_all small at) (all_fail small Large (λ x. index_is_large x.index) at h)
  is_limit (Publish k) here h = h

-- ---- a line `group`

extent_is : (x : Span1) → is_extent x ≡ false → PassesExtent x
extent_is x h = on_either (and_fails (is_listed x.lower) (is_listed x.upper && numbers) h)
    (λ e. inl (inl (unlisted_is x.lower e)))
    (λ e. on_either (and_fails (is_listed x.upper) numbers e)
    (λ k. inl (inr (unlisted_is x.upper k)))
    (λ k. on_either (and_fails (nat_le 1 (counted (extent_of x))) (nat_le (counted (extent_of x)) 8192) k)
    (λ q. inr (inl (let lt = past 1 (counted (extent_of x)) q in omega (arith, lt))))
    (λ q. inr (inr (let lt = past (counted (extent_of x)) 8192 q in omega (arith, lt))))))
  where
    numbers : Bool
    numbers = nat_le 1 (counted (extent_of x)) && nat_le (counted (extent_of x)) 8192

is_no_extent : (x : Span1) → PassesExtent x → is_extent x ≡ false
is_no_extent x (inl (inl h)) = fails_left (is_listed x.lower) (is_listed x.upper && (nat_le 1 (counted (extent_of x)) && nat_le (counted (extent_of x)) 8192)) (is_unlisted x.lower h)
is_no_extent x (inl (inr h)) = fails_right (is_listed x.lower) (is_listed x.upper && (nat_le 1 (counted (extent_of x)) && nat_le (counted (extent_of x)) 8192))
    (fails_left (is_listed x.upper) (nat_le 1 (counted (extent_of x)) && nat_le (counted (extent_of x)) 8192) (is_unlisted x.upper h))
is_no_extent x (inr (inl h)) = fails_right (is_listed x.lower) (is_listed x.upper && (nat_le 1 (counted (extent_of x)) && nat_le (counted (extent_of x)) 8192))
    (fails_right (is_listed x.upper) (nat_le 1 (counted (extent_of x)) && nat_le (counted (extent_of x)) 8192)
    (fails_left (nat_le 1 (counted (extent_of x))) (nat_le (counted (extent_of x)) 8192) (is_past 1 (counted (extent_of x)) (omega (arith, h)))))
is_no_extent x (inr (inr h)) = fails_right (is_listed x.lower) (is_listed x.upper && (nat_le 1 (counted (extent_of x)) && nat_le (counted (extent_of x)) 8192))
    (fails_right (is_listed x.upper) (nat_le 1 (counted (extent_of x)) && nat_le (counted (extent_of x)) 8192)
    (fails_right (nat_le 1 (counted (extent_of x))) (nat_le (counted (extent_of x)) 8192) (is_past (counted (extent_of x)) 8192 (omega (arith, h)))))

no_group : (x : Group) (e : None ≡ Some x) → ⊥
no_group x e = cc

-- what is counted group by group is counted at once
cells_are : (gs : List Group) (i cells : ℕ) (g : Group) → slice_get gs i ≡ Some g → cells_at gs i cells ≡ counted (cells + cells_of (take (suc i) gs))
cells_are [] i cells g at = absurd (no_group g at)
cells_are (x ∷ xs) zero cells g at = omega arith
cells_are (x ∷ xs) (suc i) cells g at = let e = cells_are xs i (more cells (cell_count x.region)) g at in omega (arith, e)

pieces_are : (gs : List Group) (i pieces : ℕ) (g : Group) → slice_get gs i ≡ Some g → pieces_at gs i pieces ≡ counted (pieces + pieces_of (take (suc i) gs))
pieces_are [] i pieces g at = absurd (no_group g at)
pieces_are (x ∷ xs) zero pieces g at = omega arith
pieces_are (x ∷ xs) (suc i) pieces g at = let e = pieces_are xs i (more pieces (counted (piece_count x.grid))) g at in omega (arith, e)

module _ (a : Algorithm) (p : Plan) (c : Certificate) where
  abbrev head : ℕ → Group → Tests
  head n g = head_tests a p c n g (cells_at p.groups n 0) (pieces_at p.groups n 0)

  abbrev line : ℕ → Group → Statement → Here → Tests
  line n g s here = tests a p c g (outline_of p c n g) s here

  abbrev cells : ℕ → Bool
  cells n = nat_le (cells_at p.groups n 0) (2 ^ 24)

  abbrev pieces : ℕ → Bool
  pieces n = nat_le (pieces_at p.groups n 0) (2 ^ 20)

  abbrev last : Group → Bool
  last g = publishes g.body && nat_le (length g.grid) 256

  head_is : (n : ℕ) (g : Group) → slice_get p.groups n ≡ Some g → (head n g).limits ≡ false → GroupPassesLimit p n g
  head_is n g at h = on_either (and_fails (list_all is_extent g.region) (cells n && (pieces n && last g)) h)
      (λ e. inl (any_fails is_extent PassesExtent extent_is g.region e))
      (λ e. on_either (and_fails (cells n) (pieces n && last g) e)
      (λ k. inr (inl (let lt = past (cells_at p.groups n 0) (2 ^ 24) k in let same = cells_are p.groups n 0 g at in omega (arith, lt, same))))
      (λ k. on_either (and_fails (pieces n) (last g) k)
      (λ q. inr (inr (inl (let lt = past (pieces_at p.groups n 0) (2 ^ 20) q in let same = pieces_are p.groups n 0 g at in omega (arith, lt, same)))))
      (λ q. on_either (and_fails (publishes g.body) (nat_le (length g.grid) 256) q)
      (λ r. inr (inr (inr (inl r)))) (λ r. inr (inr (inr (inr (past (length g.grid) 256 r))))))))

  is_head : (n : ℕ) (g : Group) → slice_get p.groups n ≡ Some g → GroupPassesLimit p n g → (head n g).limits ≡ false
  is_head n g at (inl h) = fails_left (list_all is_extent g.region) (cells n && (pieces n && last g)) (all_fail is_extent PassesExtent is_no_extent g.region h)
  is_head n g at (inr (inl h)) =
      let same = cells_are p.groups n 0 g at in
      fails_right (list_all is_extent g.region) (cells n && (pieces n && last g))
      (fails_left (cells n) (pieces n && last g) (is_past (cells_at p.groups n 0) (2 ^ 24) (omega (arith, h, same))))
  is_head n g at (inr (inr (inl h))) =
      let same = pieces_are p.groups n 0 g at in
      fails_right (list_all is_extent g.region) (cells n && (pieces n && last g))
      (fails_right (cells n) (pieces n && last g) (fails_left (pieces n) (last g) (is_past (pieces_at p.groups n 0) (2 ^ 20) (omega (arith, h, same)))))
  is_head n g at (inr (inr (inr (inl h)))) =
      fails_right (list_all is_extent g.region) (cells n && (pieces n && last g))
      (fails_right (cells n) (pieces n && last g) (fails_right (pieces n) (last g) (fails_left (publishes g.body) (nat_le (length g.grid) 256) h)))
  is_head n g at (inr (inr (inr (inr h)))) =
      fails_right (list_all is_extent g.region) (cells n && (pieces n && last g))
      (fails_right (cells n) (pieces n && last g) (fails_right (pieces n) (last g) (fails_right (publishes g.body) (nat_le (length g.grid) 256) (is_past (length g.grid) 256 h))))

  below : (n : ℕ) (g : Group) (s : Statement) (here : Here) → (line n g s here).code < 14
  below n g s here = let e = (codes a p c g (outline_of p c n g) s here).1 in omega (arith, e)

  abbrev Passes : ℕ → Group → Statement → Here → Type 0
  Passes n g s here = PassesLimit s here

  pub limits_told : IsTold 14 (PassesLimitAt p) (first_of (flaws_of_groups a p c))
  limits_told = lines_told a p c 14 (GroupPassesLimit p) Passes
      (λ l n g at h. let t = limits_are (head n g) (line_told (group_line p n)) l (omega arith) h in (told_twice (group_line p n) l t.0, head_is n g at t.1))
      (λ l n g s here h. let t = limits_are (line n g s here) here.line l (below n g s here) h in (t.0, limit_is a p c g (outline_of p c n g) s here t.1))
      (λ l n g at is h. limits_so (head n g) (line_told (group_line p n)) l (told_again (group_line p n) l is) (is_head n g at h))
      (λ l n g s here h. limits_so (line n g s here) here.line l h.0 (is_limit a p c g (outline_of p c n g) s here h.1))
