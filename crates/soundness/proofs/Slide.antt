-- A sliding window: rows of f over a fold, of which the first turn stores all that are needed and each later turn the new one.
use Rattle.std.proofs.Common.{◌≡◌, ℕ, zero, suc, ◌≤◌, ◌<◌, Bool, true, false, List, [], ◌∷◌, ◌++◌, Option, Some, None, refl, sym, ap, subst, inl, inr, arith}
use Rattle.std.specs.Prelude.{ℤ, pos, negsuc, ◌+ℤ◌, ◌-ℤ◌, ◌*ℤ◌, ◌≤ℤ◌, ◌<ℤ◌, IsSome, IsTrue, ◌==◌, if◌then◌else◌, ◌⊎◌, int_le, nat_lt, codes, flat_map}
use Rattle.std.specs.Int.{int_max, int_min}
use Rattle.std.proofs.lemmas.Bool.Decides.{nat_tests}
use Rattle.std.proofs.lemmas.Int.{ints, clamps, by_lt_z}
use Rattle.numeric.specs.declared.ty.Ty.TheVariants.{U8, I32}
use Rattle.numeric.specs.declared.op.Op.TheVariants.{Add}
use Rattle.numeric.specs.Wrap.{wrap}
use Rattle.numeric.proofs.Wraps.{wrap_of_value}
use Rattle.tree.specs.Term.{Term, Number, Name, Call, Binary, End, More}
use Rattle.meaning.specs.Image.Raster.{is_within}
use Rattle.meaning.specs.Names.{bound}
use Rattle.lin.specs.declared.span.Span1.{Span1}
use Rattle.plan.specs.declared.stmt.Kind.TheVariants.{Serial}
use Rattle.plan.specs.Plan.{Coordinate, Statement, Seq, For, First, Store, block}
use Rattle.plan.specs.Symbols.{Symbols, bind, InRegion, rising, turns, points}
use Rattle.plan.specs.Rooms.{Room, Straight, Wrapped, place}
use Rattle.plan.specs.Certificate.Cells.{grid_symbols}
use Rattle.plan.specs.Semantics.Actions.{Action, Put, stored, actions}
use Rattle.plan.specs.Semantics.Found.{EachRead}
use Rattle.plan.specs.Semantics.Worked.{plus, symbol, between, constants, is, loop, f_row, window_rows, new_rows, slide_value, slide_group, slide_plan, slide_certificate, slide_own}
use Rattle.soundness.specs.Origins.{Given, Plain, answer}
use Rattle.soundness.specs.Claims.{In, written, Fact, Scope, InForce, MayUse, IsMade, new_fact, handed_on, left, stable, keep, IsSoundAction, IsSound}
use Rattle.soundness.specs.Right.{at_start}
use Rattle.soundness.specs.Worked.{IsPieceSound, slide_algorithm, slide_given, SlideIsSound}
use Rattle.soundness.proofs.Folds.{Near, fold_has, straight_near}
use Rattle.soundness.proofs.Forms.{lies_region, region_lies, point_lies}
use Rattle.soundness.proofs.Rows.{itself, IsInputRead, IsNest, rows_fill, rows_have, rows_only, rows_sound}
use Rattle.soundness.proofs.Turns.{turns_within, turns_have, joined_some, below_has}
use Rattle.soundness.proofs.Windows.{Fills, fills_append, fills_loop, earlier_of, force_of, window_made, loop_sound, loop_hands_on, turns_rising, keep_has, stable_has, handed_has}
use Rattle.soundness.proofs.Written.{in_append_left, in_append_right, in_filter, append_nil, written_append, written_turns}

point_same : (a b c d : ℤ) → a ≡ c → b ≡ d → a ∷ b ∷ [] ≡ c ∷ d ∷ []
point_same a b c d e f = cc

small_wraps : (z : ℤ) → negsuc 0 ≤ℤ z → z ≤ℤ pos 8 → wrap I32 z ≡ z
small_wraps z h k = wrap_of_value I32 z (record { from = omega (arith, ints); to = omega (arith, ints) })

within_two : (x y : ℤ) → pos 0 ≤ℤ x → x ≤ℤ pos 3 → pos 0 ≤ℤ y → y ≤ℤ pos 7 → IsTrue (is_within (4 ∷ 8 ∷ []) (x ∷ y ∷ []))
within_two (pos a) (pos b) h1 h2 h3 h4 =
    let u : nat_lt a 4 ≡ true = grind (arith, nat_tests, ints) in
    let v : nat_lt b 8 ≡ true = grind (arith, nat_tests, ints) in
    rw u (rw v refl)
within_two (negsuc a) y h1 h2 h3 h4 = absurd (omega (arith, ints))
within_two (pos a) (negsuc b) h1 h2 h3 h4 = absurd (omega (arith, ints))

-- the form one symbol and a number comes to
abbrev near_at : ℤ → ℤ → ℤ
near_at k z = k +ℤ (pos 1 *ℤ z +ℤ pos 0)

abbrev names : List (List ℕ)
names = codes "x" ∷ codes "y" ∷ []

abbrev across : Span1
across = constants (pos 0) (pos 3)

abbrev own_rows : Span1
own_rows = between (plus (pos 0) (pos 4) 0) (plus (pos 3) (pos 4) 0)

abbrev at_of : ℕ → ℕ → List Coordinate
at_of i j = is (codes "x") (symbol j) ∷ is (codes "y") (symbol i) ∷ []

-- in[x, y] + 1
abbrev more : Term
more = Binary Add (Call (codes "in") (More (Name (codes "x")) (More (Name (codes "y")) End))) (Number U8 (pos 1))

abbrev fill : Statement
fill = First 1 (Seq (block (f_row 2 3 (window_rows 1) ∷ []))) (Seq (block (f_row 4 5 (new_rows 1) ∷ [])))

abbrev use_store : Statement
use_store = Store 0 0 (at_of 1 6) slide_value

abbrev use_row : Statement
use_row = loop 6 across (use_store ∷ [])

abbrev turn : Statement
turn = Seq (block (fill ∷ use_row ∷ []))

-- a row that is needed for row z
abbrev IsNeeded : ℤ → ℤ → Type 0
IsNeeded z y = (z ≤ℤ (y +ℤ pos 1)) × (pos 0 ≤ℤ y) × (y ≤ℤ (z +ℤ pos 1)) × (y ≤ℤ pos 7)

module _ (samples : List ℕ) (fold : ℕ) (s : Symbols) (enough : 3 ≤ fold) (from : pos 0 ≤ℤ s.value 0) (to : s.value 0 ≤ℤ pos 1) where
  abbrev given : Given
  given = slide_given samples fold

  abbrev low : ℤ
  low = pos 0 +ℤ (pos 4 *ℤ s.value 0 +ℤ pos 0)

  abbrev now : ℤ → Symbols
  now z = bind s 1 z (int_le z low)

  abbrev rs : List Room
  rs = Straight (pos 0) 4 ∷ Wrapped fold ∷ []

  abbrev out_rs : List Room
  out_rs = Straight (pos 0) 4 ∷ Straight low 4 ∷ []

  abbrev rooms : ℕ → Option (List Room)
  rooms b = if b == 1 then Some rs else if b == 0 then Some out_rs else None

  abbrev in_scope : ℤ → List Fact → Scope
  in_scope z facts = record { symbols = now z; rooms = rooms; facts = facts }

  needed_region : (z x y : ℤ) → pos 0 ≤ℤ x → x ≤ℤ pos 3 → IsNeeded z y → InRegion (now z) (across ∷ window_rows 1 ∷ []) (x ∷ y ∷ [])
  needed_region z x y a b n =
      let h : z ≤ℤ (y +ℤ pos 1) = n.0 in
      let k : y ≤ℤ (z +ℤ pos 1) = n.2 in
      let l : near_at (negsuc 0) z ≤ℤ y = omega (arith, ints) in
      let u : y ≤ℤ near_at (pos 1) z = omega (arith, ints) in
      lies_region (now z) (across ∷ window_rows 1 ∷ []) (x ∷ y ∷ []) (((a, tt), (b, tt)), (((n.1, (l, tt)), (n.3, (u, tt))), tt))

  at_needed : (z : ℤ) (P : List ℤ → Type 0) → ((x y : ℤ) → pos 0 ≤ℤ x → x ≤ℤ pos 3 → IsNeeded z y → P (x ∷ y ∷ [])) → (p : List ℤ) → InRegion (now z) (across ∷ window_rows 1 ∷ []) p → P p
  at_needed z P h [] i = absurd i
  at_needed z P h (x ∷ []) i = absurd i.1
  at_needed z P h (x ∷ y ∷ []) i =
      let k = region_lies (now z) (across ∷ window_rows 1 ∷ []) (x ∷ y ∷ []) i in
      let a : pos 0 ≤ℤ x = k.0.0.0 in
      let b : x ≤ℤ pos 3 = k.0.1.0 in
      let c : pos 0 ≤ℤ y = k.1.0.0.0 in
      let d : near_at (negsuc 0) z ≤ℤ y = k.1.0.0.1.0 in
      let e : y ≤ℤ pos 7 = k.1.0.1.0 in
      let f : y ≤ℤ near_at (pos 1) z = k.1.0.1.1.0 in
      h x y a b (omega (arith, ints), c, omega (arith, ints), e)
  at_needed z P h (x ∷ y ∷ w ∷ ws) i = absurd i.1.1

  -- each point of f's columns has a place
  has_place : (x y : ℤ) → pos 0 ≤ℤ x → x ≤ℤ pos 3 → IsSome (place rs (x ∷ y ∷ []))
  has_place x y a b = joined_some _ _ (below_has 4 (x -ℤ pos 0) (omega (arith, ints)) (omega (arith, ints))) (joined_some _ _ (fold_has fold y (omega arith)) refl)

  -- rows of f stored at symbols i and j, from the row yl to the row yh
  abbrev Nest : ℕ → ℕ → Span1 → Symbols → ℤ → ℤ → Type 0
  Nest i j ys t yl yh = IsNest given 1 i j (codes "f") names ys across Serial Serial (at_of i j) more t yl yh (pos 0) (pos 3)

  f_reads : (x y : ℤ) → pos 0 ≤ℤ x → x ≤ℤ pos 3 → pos 0 ≤ℤ y → y ≤ℤ pos 7 → EachRead (bound names (x ∷ y ∷ [])) (answer given Plain) (IsInputRead given) more
  f_reads x y a b c d = ((within_two x y a b c d, (tt, (tt, tt))), tt)

  nest_all : (z : ℤ) → Nest 2 3 (window_rows 1) (now z) (int_max (pos 0) (near_at (negsuc 0) z)) (int_min (pos 7) (near_at (pos 1) z))
  nest_all z = record {
    cell = λ y x c d. ap (λ p. Put 1 (codes "f") names p more) (point_same _ _ _ _ (itself x) (itself y));
    y_low = refl;
    y_high = refl;
    x_low = λ y c. refl;
    x_high = λ y c. refl;
    reads = λ x y h1 h2 h3 h4. f_reads x y h1 h2 (omega (arith, ints, clamps)) (omega (arith, ints, clamps));
  }

  nest_new : (z : ℤ) → pos 0 ≤ℤ z → Nest 4 5 (new_rows 1) (now z) (near_at (pos 1) z) (int_min (pos 7) (near_at (pos 1) z))
  nest_new z here = record {
    cell = λ y x c d. ap (λ p. Put 1 (codes "f") names p more) (point_same _ _ _ _ (itself x) (itself y));
    y_low = refl;
    y_high = refl;
    x_low = λ y c. refl;
    x_high = λ y c. refl;
    reads = λ x y h1 h2 h3 h4. f_reads x y h1 h2 (omega (arith, ints, clamps)) (omega (arith, ints, clamps));
  }

  -- two of the three rows that a turn needs lie within the fold
  rows_near : (z x y : ℤ) → IsNeeded z y → (q : List ℤ) → (v w : ℤ) → q ≡ v ∷ w ∷ [] → IsNeeded z w → Near rs (x ∷ y ∷ []) q
  rows_near z x y n q v w e m =
      let a : z ≤ℤ (y +ℤ pos 1) = n.0 in
      let b : y ≤ℤ (z +ℤ pos 1) = n.2 in
      let c : z ≤ℤ (w +ℤ pos 1) = m.0 in
      let d : w ≤ℤ (z +ℤ pos 1) = m.2 in
      subst (λ r. Near rs (x ∷ y ∷ []) r) (sym e) (omega (arith, ints), omega (arith, ints), tt)

  -- the first turn stores every row that it needs
  made_first : (z : ℤ) (facts : List Fact) → IsMade given 0 (actions given.outline.setting (f_row 2 3 (window_rows 1)) (now z)) (in_scope z facts)
  made_first z facts =
      let yl = int_max (pos 0) (near_at (negsuc 0) z) in
      let yh = int_min (pos 7) (near_at (pos 1) z) in
      window_made given 0 _ (in_scope z facts) rs refl refl (rows_fill given 1 2 3 (codes "f") names (window_rows 1) across Serial Serial (at_of 2 3) more (now z) yl yh (pos 0) (pos 3) (nest_all z) 1 (codes "f") (λ _. refl))
      (at_needed z _ (λ x y a b n.
      let n0 : z ≤ℤ (y +ℤ pos 1) = n.0 in
      let n1 : pos 0 ≤ℤ y = n.1 in
      let n2 : y ≤ℤ (z +ℤ pos 1) = n.2 in
      let n3 : y ≤ℤ pos 7 = n.3 in (
        has_place x y a b,
        inl (rows_have given 1 2 3 (codes "f") names (window_rows 1) across Serial Serial (at_of 2 3) more (now z) yl yh (pos 0) (pos 3) (nest_all z) x y a b (omega (arith, ints, clamps)) (omega (arith, ints, clamps))),
        λ q m.
            let r = rows_only given 1 2 3 (codes "f") names (window_rows 1) across Serial Serial (at_of 2 3) more (now z) yl yh (pos 0) (pos 3) (nest_all z) q m in
            let l : int_max (pos 0) (near_at (negsuc 0) z) ≤ℤ r.1 = r.5 in
            let h : r.1 ≤ℤ int_min (pos 7) (near_at (pos 1) z) = r.6 in
            rows_near z x y n q r.0 r.1 r.2 (omega (arith, ints, clamps), omega (arith, ints, clamps), omega (arith, ints, clamps), omega (arith, ints, clamps)),
      )))

  -- a later turn stores the new row, and finds the others where the turn before had them
  made_later : (w z : ℤ) (facts : List Fact) → w +ℤ pos 1 ≡ z → pos 0 ≤ℤ w → In (new_fact given (now w) 0) facts → IsMade given 0 (actions given.outline.setting (f_row 4 5 (new_rows 1)) (now z)) (in_scope z facts)
  made_later w z facts next here known =
      let nest = nest_new z (omega (arith, ints)) in
      let yh = int_min (pos 7) (near_at (pos 1) z) in
      window_made given 0 _ (in_scope z facts) rs refl refl (rows_fill given 1 4 5 (codes "f") names (new_rows 1) across Serial Serial (at_of 4 5) more (now z) (near_at (pos 1) z) yh (pos 0) (pos 3) nest 1 (codes "f") (λ _. refl))
      (at_needed z _ (λ x y a b n.
      let n0 : z ≤ℤ (y +ℤ pos 1) = n.0 in
      let n1 : pos 0 ≤ℤ y = n.1 in
      let n2 : y ≤ℤ (z +ℤ pos 1) = n.2 in
      let n3 : y ≤ℤ pos 7 = n.3 in (
        has_place x y a b,
        by_lt_z y (near_at (pos 1) z)
            (λ old. inr (earlier_of given facts (new_fact given (now w) 0) (x ∷ y ∷ []) 0 known (needed_region w x y a b (omega (arith, ints), n1, omega (arith, ints), n3)) refl))
            (λ new. inl (rows_have given 1 4 5 (codes "f") names (new_rows 1) across Serial Serial (at_of 4 5) more (now z) (near_at (pos 1) z) yh (pos 0) (pos 3) nest x y a b (omega (arith, ints, clamps)) (omega (arith, ints, clamps)))),
        λ q m.
            let r = rows_only given 1 4 5 (codes "f") names (new_rows 1) across Serial Serial (at_of 4 5) more (now z) (near_at (pos 1) z) yh (pos 0) (pos 3) nest q m in
            let l : near_at (pos 1) z ≤ℤ r.1 = r.5 in
            let h : r.1 ≤ℤ int_min (pos 7) (near_at (pos 1) z) = r.6 in
            rows_near z x y n q r.0 r.1 r.2 (omega (arith, ints, clamps), omega (arith, ints, clamps), omega (arith, ints, clamps), omega (arith, ints, clamps)),
      )))

  -- whether the turn is the first decides what is stored
  made_either : (v : Bool) (xs ys : List Action) (sc : Scope) → (v ≡ true → IsMade given 0 xs sc) → (v ≡ false → IsMade given 0 ys sc) → IsMade given 0 (if v then xs ++ [] else ys ++ []) sc
  made_either true xs ys sc h k = subst (λ todo. IsMade given 0 todo sc) (sym (append_nil xs)) (h refl)
  made_either false xs ys sc h k = subst (λ todo. IsMade given 0 todo sc) (sym (append_nil ys)) (k refl)

  -- what a turn finds: it is the first, or the turn before had its rows
  abbrev Handed : ℤ → List Fact → Type 0
  Handed z facts = (z ≡ low) ⊎ ((w : ℤ) × (w +ℤ pos 1 ≡ z) × (low ≤ℤ w) × In (new_fact given (now w) 0) facts)

  le_low : (z : ℤ) → int_le z low ≡ true → z ≤ℤ low
  le_low z e = grind (arith, ints)

  not_le_low : (z : ℤ) → int_le z low ≡ false → low <ℤ z
  not_le_low z e = grind (arith, ints)

  made_fill : (z : ℤ) (facts : List Fact) → low ≤ℤ z → Handed z facts → IsMade given 0 (actions given.outline.setting fill (now z)) (in_scope z facts)
  made_fill z facts here (inl e) = made_either (int_le z low) _ _ (in_scope z facts) (λ k. made_first z facts) (λ k. let l = not_le_low z k in absurd (omega (arith, ints)))
  made_fill z facts here (inr h) =
      let l : low ≤ℤ h.0 = h.2 in
      made_either (int_le z low) _ _ (in_scope z facts) (λ k. made_first z facts) (λ k. made_later h.0 z facts h.1 (omega (arith, ints)) h.3)

  sound_fill : (z : ℤ) (facts : List Fact) → pos 0 ≤ℤ z → IsSound given fill 8 (in_scope z facts)
  sound_fill z facts here = (
    λ k. (rows_sound given 1 2 3 (codes "f") names (window_rows 1) across Serial Serial (at_of 2 3) more (now z) (int_max (pos 0) (near_at (negsuc 0) z)) (int_min (pos 7) (near_at (pos 1) z)) (pos 0) (pos 3) (nest_all z) 9 rooms facts refl refl (λ x y a b c d. has_place x y a b), tt, tt),
    λ k. (rows_sound given 1 4 5 (codes "f") names (new_rows 1) across Serial Serial (at_of 4 5) more (now z) (near_at (pos 1) z) (int_min (pos 7) (near_at (pos 1) z)) (pos 0) (pos 3) (nest_new z here) 15 rooms facts refl refl (λ x y a b c d. has_place x y a b), tt, tt),
  )

  -- a row that is read lies among those that the turn needs
  abbrev above : ℤ → ℤ
  above y = int_max (int_min (y -ℤ pos 1) (pos 7)) (pos 0)

  abbrev below_it : ℤ → ℤ
  below_it y = int_max (int_min (y +ℤ pos 1) (pos 7)) (pos 0)

  reads_row : (z x y v : ℤ) (facts : List Fact) → In (new_fact given (now z) 0) facts → pos 0 ≤ℤ x → x ≤ℤ pos 3 → IsNeeded z v → y ≡ v → InForce given facts 0 (x ∷ y ∷ []) 0
  reads_row z x y v facts m a b n e =
      force_of given facts (new_fact given (now z) 0) 0 (x ∷ y ∷ []) 0 m refl
      (subst (λ w. InRegion (now z) (across ∷ window_rows 1 ∷ []) (x ∷ w ∷ [])) (sym e) (needed_region z x v a b n)) refl

  sound_cell : (z x : ℤ) (facts : List Fact) → pos 0 ≤ℤ z → z ≤ℤ pos 7 → In (new_fact given (now z) 0) facts → pos 0 ≤ℤ x → x ≤ℤ pos 3 →
      EachRead (bound names (x ∷ z ∷ [])) (answer given Plain) (MayUse given facts Plain) slide_value
  sound_cell z x facts lo hi m a b =
      let up = ap (λ v. int_max (int_min v (pos 7)) (pos 0)) (small_wraps (z -ℤ pos 1) (omega (arith, ints)) (omega (arith, ints))) in
      let down = ap (λ v. int_max (int_min v (pos 7)) (pos 0)) (small_wraps (z +ℤ pos 1) (omega (arith, ints)) (omega (arith, ints))) in (
        (
          (
            (reads_row z x _ (above z) facts m a b (omega (arith, ints, clamps), omega (arith, ints, clamps), omega (arith, ints, clamps), omega (arith, ints, clamps)) up, (tt, (((tt, tt), tt, tt), tt))),
            (reads_row z x z z facts m a b (omega (arith, ints), omega (arith, ints), omega (arith, ints), omega (arith, ints)) refl, (tt, (tt, tt))),
          ),
          (reads_row z x _ (below_it z) facts m a b (omega (arith, ints, clamps), omega (arith, ints, clamps), omega (arith, ints, clamps), omega (arith, ints, clamps)) down, (tt, (((tt, tt), tt, tt), tt))),
        ),
        tt,
      )

  sound_use : (z : ℤ) (facts : List Fact) → low ≤ℤ z → z <ℤ (low +ℤ pos 4) → In (new_fact given (now z) 0) facts → IsSound given use_row 21 (in_scope z facts)
  sound_use z facts lo hi m =
      loop_sound given 6 across Serial (Seq (block (use_store ∷ []))) 21 (in_scope z facts) (λ x n c.
      let w = turns_within (now z) across (pos 0) (pos 3) x refl refl n in (
        cell x (int_le x (pos 0)) w.0 w.1 (c ++ stable given (Seq (block (use_store ∷ []))) facts)
            (in_append_right (new_fact given (now z) 0) c (stable given (Seq (block (use_store ∷ []))) facts) (stable_has given (Seq (block (use_store ∷ []))) (new_fact given (now z) 0) facts m refl)),
        tt,
        tt,
      ))
    where
      cell : (x : ℤ) (d : Bool) → pos 0 ≤ℤ x → x ≤ℤ pos 3 → (facts : List Fact) → In (new_fact given (now z) 0) facts →
          IsSoundAction given (stored given.outline.setting 0 0 (at_of 1 6) slide_value (bind (now z) 6 x d)) (record { symbols = bind (now z) 6 x d; rooms = rooms; facts = facts })
      cell x d a b facts m =
          subst (λ act. IsSoundAction given act (record { symbols = bind (now z) 6 x d; rooms = rooms; facts = facts }))
          (ap (λ p. Put 0 (codes "out") names p slide_value) (sym (point_same _ _ _ _ (itself x) (itself z)))) (
            joined_some _ _ (below_has 4 (x -ℤ pos 0) (omega (arith, ints)) (omega (arith, ints)))
                (joined_some _ _ (below_has 4 (z -ℤ low) (omega (arith, ints)) (omega (arith, ints))) refl),
            sound_cell z x facts (omega (arith, ints)) (omega (arith, ints)) m a b,
          )

  -- what is known after the rows of a turn are stored
  abbrev filled : ℤ → List Fact → List Fact
  filled z facts = new_fact given (now z) 0 ∷ keep given fill (actions given.outline.setting fill (now z)) rooms facts

  sound_turn : (z : ℤ) (carried : List Fact) → low ≤ℤ z → z <ℤ (low +ℤ pos 4) → Handed z carried → IsSound given turn 8 (in_scope z (carried ++ []))
  sound_turn z carried lo hi h =
      let found : Handed z (carried ++ []) = more_found h in
      (sound_fill z (carried ++ []) (omega (arith, ints)), (made_fill z (carried ++ []) lo found, tt), (sound_use z (filled z (carried ++ [])) lo hi (inl refl), tt, tt))
    where
      more_found : Handed z carried → Handed z (carried ++ [])
      more_found (inl e) = inl e
      more_found (inr k) = inr (k.0, k.1, k.2, in_append_left _ carried [] k.3)

  -- what a turn claims is handed on to the next
  hands_on : (z : ℤ) (carried : List Fact) → low ≤ℤ z → Handed (z +ℤ pos 1) (handed_on given 1 turn (left given turn 8 (in_scope z (carried ++ []))))
  hands_on z carried lo =
      let mine = new_fact given (now z) 0 in
      inr (z, refl, lo, handed_has given 1 turn mine _ (keep_has given use_row (actions given.outline.setting use_row (now z)) rooms mine (filled z (carried ++ [])) (inl refl) refl) refl)

  rows_rising : turns s own_rows ≡ rising low 4
  rows_rising = turns_rising s own_rows low 4 refl four
    where
      four : ((pos 3 +ℤ (pos 4 *ℤ s.value 0 +ℤ pos 0)) +ℤ pos 1) -ℤ low ≡ pos 4
      four = omega (arith, ints)

  abbrev in_piece : Scope
  in_piece = record { symbols = s; rooms = rooms; facts = [] }

  sound_loop : IsSound given (For 1 own_rows Serial turn) 7 in_piece
  sound_loop =
      loop_hands_on given 1 own_rows Serial turn 7 in_piece Handed 4 low rows_rising (inl refl)
      (λ z c lo hi h. (sound_turn z c lo hi h, hands_on z c lo))

  -- the turns' actions, for the claim of all rows
  abbrev turn_actions : ℤ → List Action
  turn_actions z = actions given.outline.setting turn (now z)

  other : (f g : List ℕ) → (1 == 0) ≡ true → f ≡ g
  other f g e = absurd (cc e)

  fills_either : (v : Bool) (xs ys : List Action) → Fills 0 (codes "out") xs → Fills 0 (codes "out") ys → Fills 0 (codes "out") (if v then xs ++ [] else ys ++ [])
  fills_either true xs ys h k = fills_append 0 (codes "out") xs [] h tt
  fills_either false xs ys h k = fills_append 0 (codes "out") ys [] k tt

  turn_fills : (z : ℤ) → pos 0 ≤ℤ z → Fills 0 (codes "out") (turn_actions z)
  turn_fills z here =
      fills_append 0 (codes "out") (actions given.outline.setting fill (now z)) _
      (fills_either (int_le z low) _ _
      (rows_fill given 1 2 3 (codes "f") names (window_rows 1) across Serial Serial (at_of 2 3) more (now z) (int_max (pos 0) (near_at (negsuc 0) z)) (int_min (pos 7) (near_at (pos 1) z)) (pos 0) (pos 3) (nest_all z) 0 (codes "out") (other _ _))
      (rows_fill given 1 4 5 (codes "f") names (new_rows 1) across Serial Serial (at_of 4 5) more (now z) (near_at (pos 1) z) (int_min (pos 7) (near_at (pos 1) z)) (pos 0) (pos 3) (nest_new z here) 0 (codes "out") (other _ _)))
      (fills_append 0 (codes "out") (actions given.outline.setting use_row (now z)) [] (fills_loop given.outline.setting 0 (codes "out") 6 across Serial (Seq (block (use_store ∷ []))) (now z) (λ t. ((λ e. refl), tt))) tt)

  fills_rising : (n : ℕ) (z : ℤ) → pos 0 ≤ℤ z → Fills 0 (codes "out") (flat_map turn_actions (rising z n))
  fills_rising zero z h = tt
  fills_rising (suc n) z h = fills_append 0 (codes "out") (turn_actions z) _ (turn_fills z h) (fills_rising n (z +ℤ pos 1) (omega (arith, ints)))

  abbrev cell_actions : ℤ → ℤ → List Action
  cell_actions z x = actions given.outline.setting (Seq (block (use_store ∷ []))) (bind (now z) 6 x (int_le x (pos 0)))

  -- row z is stored in turn z
  turn_stores : (z x : ℤ) → pos 0 ≤ℤ x → x ≤ℤ pos 3 → In (x ∷ z ∷ []) (written 0 (turn_actions z))
  turn_stores z x a b =
      let P : List (List ℤ) → Type 0 = λ ps. In (x ∷ z ∷ []) ps in
      subst P (sym (written_append 0 (actions given.outline.setting fill (now z)) (actions given.outline.setting use_row (now z) ++ [])))
      (in_append_right _ (written 0 (actions given.outline.setting fill (now z))) _
      (subst P (sym (written_append 0 (actions given.outline.setting use_row (now z)) []))
      (in_append_left _ (written 0 (actions given.outline.setting use_row (now z))) []
      (written_turns 0 (x ∷ z ∷ []) (cell_actions z) x (turns (now z) across) (turns_have (now z) across (pos 0) (pos 3) x refl refl a b)
      (inl (point_same x z _ _ (sym (itself x)) (sym (itself z))))))))

  at_own : (P : List ℤ → Type 0) → ((x y : ℤ) → pos 0 ≤ℤ x → x ≤ℤ pos 3 → low ≤ℤ y → y ≤ℤ (pos 3 +ℤ (pos 4 *ℤ s.value 0 +ℤ pos 0)) → P (x ∷ y ∷ [])) → (p : List ℤ) → InRegion s slide_own p → P p
  at_own P h [] i = absurd i
  at_own P h (x ∷ []) i = absurd i.1
  at_own P h (x ∷ y ∷ []) i =
      let k = region_lies s slide_own (x ∷ y ∷ []) i in
      h x y k.0.0.0 k.0.1.0 k.1.0.0.0 k.1.0.1.0
  at_own P h (x ∷ y ∷ w ∷ ws) i = absurd i.1.1

  -- every own row is stored
  made_own : IsMade given 1 (actions given.outline.setting (For 1 own_rows Serial turn) s) in_piece
  made_own =
      window_made given 1 (actions given.outline.setting (For 1 own_rows Serial turn) s) in_piece out_rs refl refl
      (subst (λ zs. Fills 0 (codes "out") (flat_map turn_actions zs)) (sym rows_rising) (fills_rising 4 low (omega (arith, ints))))
      (at_own _ (λ x y a b c d. (
        joined_some _ _ (below_has 4 (x -ℤ pos 0) (omega (arith, ints)) (omega (arith, ints)))
            (joined_some _ _ (below_has 4 (y -ℤ low) (omega (arith, ints)) (omega (arith, ints))) refl),
        inl (written_turns 0 (x ∷ y ∷ []) turn_actions y (turns s own_rows) (turns_have s own_rows low (pos 3 +ℤ (pos 4 *ℤ s.value 0 +ℤ pos 0)) y refl refl c d) (turn_stores y x a b)),
        λ q m. straight_near out_rs (x ∷ y ∷ []) q tt,
      )))

  -- the whole piece is sound
  slide_sound : IsSound given (slide_group fold).body 5 (at_start s)
  slide_sound = (
    refl,
    tt,
    (
      refl,
      tt,
      (
        sound_loop,
        (made_own, tt),
        ((λ p m. inl (refl, lies_region s slide_own p (point_lies s slide_own p (in_filter _ p (points s slide_own) m)), refl)), tt, tt),
      ),
    ),
  )

differ : (b c : ℤ) → (b ≡ c → ⊥) → ◌≡◌ {A = List ℤ} (pos 0 ∷ b ∷ []) (pos 0 ∷ c ∷ []) → ⊥
differ b c h e = h (let k : b ≡ c = cc in k)

abbrev in_turn : ℕ → ℤ → Symbols
in_turn at z = bind (grid_symbols (at ∷ [])) 1 z (int_le z (pos 0 +ℤ (pos 4 *ℤ pos at +ℤ pos 0)))

-- over two rows the second turn of the first piece writes row 2 where row 0 lies, and the first turn of the second piece row 5
-- where row 3 lies
two_are_few : (samples : List ℕ) (at : ℕ) → at < 2 → IsPieceSound slide_algorithm samples (slide_plan 2) (slide_certificate 2) 0 (slide_group 2) (at ∷ []) → ⊥
two_are_few samples zero l h =
    let made = h.2.2.0.1.0.1.0 in
    differ (pos 0) (pos 2) (λ e. absurd (omega (arith, ints)))
    (made.clear (pos 0 ∷ pos 0 ∷ [])
    (lies_region (in_turn 0 (pos 1)) (across ∷ window_rows 1 ∷ []) (pos 0 ∷ pos 0 ∷ []) (((omega (arith, ints), tt), (omega (arith, ints), tt)), (((omega (arith, ints), (omega (arith, ints), tt)), (omega (arith, ints), (omega (arith, ints), tt))), tt)))
    (pos 0 ∷ pos 2 ∷ []) (inl refl) refl)
two_are_few samples (suc zero) l h =
    let made = h.2.2.0.0.1.0 in
    differ (pos 3) (pos 5) (λ e. absurd (omega (arith, ints)))
    (made.clear (pos 0 ∷ pos 3 ∷ [])
    (lies_region (in_turn 1 (pos 4)) (across ∷ window_rows 1 ∷ []) (pos 0 ∷ pos 3 ∷ []) (((omega (arith, ints), tt), (omega (arith, ints), tt)), (((omega (arith, ints), (omega (arith, ints), tt)), (omega (arith, ints), (omega (arith, ints), tt))), tt)))
    (pos 0 ∷ pos 5 ∷ []) (inr (inr (inr (inr (inr (inr (inr (inr (inl refl))))))))) refl)
two_are_few samples (suc (suc n)) l h = absurd (omega arith)

pub slide_is_sound : SlideIsSound
slide_is_sound = record {
  three_and_more = λ samples fold at enough piece. slide_sound samples fold (grid_symbols (at ∷ [])) enough (omega (arith, ints)) (omega (arith, ints));
  two_are_few = two_are_few;
}
