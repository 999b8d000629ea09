-- A variable's coordinate over the loops and lets of a nest: what the checker's moves ask of all steps and coordinates follows from what is so of each.
use Rattle.std.proofs.Common.{◌≡◌, ℕ, ◌+◌, ◌≤◌, ◌^◌, Bool, true, false, ◌||◌, List, [], ◌∷◌, map, Some, refl, sym, ap, ◌∙◌, subst, inl, inr, ◌⊎◌, arith}
use Rattle.std.specs.Prelude.{ℤ, pos, ◌+ℤ◌, ◌≤ℤ◌, ◌==◌, slice_get, if◌then◌else◌}
use Rattle.std.specs.List.{AllByRecursion, list_any}
use Rattle.std.specs.Int.RustNames.{unsigned_abs}
use Rattle.lin.specs.Forms.{Form, number, without, combined, same_form}
use Rattle.meaning.specs.Names.{same_name}
use Rattle.soundness.specs.Claims.{In}
use Rattle.soundness.specs.Obligations.{form_has}
use Rattle.soundness.proofs.Refines.{eq_refl, eq_true}
use Rattle.sched.specs.declared.nest.Turning.{Turning}
use Rattle.sched.specs.Standing.{alone}
use Rattle.completeness.proofs.PlainTurns.{one_if, hits, itself}
use Rattle.completeness.proofs.LoopMoves.{Item, is_lone, is_left, other_way}
use Rattle.completeness.proofs.SplitTests.{IsBelow, item_of}
use Rattle.completeness.proofs.BlockMoves.{Sums, hits_of, FitsTo, SumFits}
use Rattle.completeness.proofs.BlockCaps.{HaveNot}
use Rattle.completeness.proofs.BlockKept.{kept_back}
use Rattle.completeness.proofs.TailSteps.{Line, Loop, Block, Pair, is_loop}
use Rattle.completeness.proofs.TailLines.{in_kept, kept_is}
use Rattle.completeness.proofs.Courses.{Course, Plain, Opened, count, opened_by, rest_of, begin_of, line_has, opens, names, FitsCourse, IsApartFrom, IsTopped, LoopFits, IsStrange, OwnPair}
use Rattle.completeness.proofs.Courses.{IsShifted, OwnBlock, OwnLine, OpenerFits, CapsFit, AreInside, CourseFits, AllFits}

not_both : (b : Bool) → b ≡ true → b ≡ false → ⊥
not_both b e q = (let clash : true ≡ false = sym e ∙ q in cc clash)

one_only : (b : Bool) → (b || false) ≡ b
one_only true = refl
one_only false = refl

-- the symbols count with these factors; the loops and lets of the nest, from this symbol on; of which variable each loop is; what each is of; further upper forms, and what these keep at;
-- and which steps are kept
module _ (factor : ℕ → ℤ) (n : ℕ) (ts : List Turning) (owner : ℕ → List ℕ) (line : ℕ → Line) (lim tops : ℕ → List Form) (keep : ℕ → Bool) where
  abbrev pub all : List Item
  all = kept_back lim keep n ts

  -- the coordinate is a let's symbol while that is left, behind a guard
  pub record IsPairOpening (form : Form) (parts : List Item) : Type 0 where
    pub place : ℕ
    pub turning : Turning
    pub there : slice_get ts place ≡ Some turning
    pub last : ℤ
    pub line_is : line (n + place) ≡ Pair form last
    pub made : combined (number (pos 0)) (pos 1) form ≡ Some form
    pub last_made : combined (number (pos 0)) (pos 1) (number last) ≡ Some (number last)
    pub bare : (j : ℕ) → is_left (n + j) parts ≡ true → lim (n + j) ≡ []
    pub caps_fit : (cs : List Course) → CapsFit line lim tops factor cs all [] (λ us. number last ∷ [])
    pub fits_start : SumFits factor (alone (n + place)) []

  -- or the let of a shifted block and the symbol of the loop over its numbers
  pub record IsBlockOpening (form : Form) (parts : List Item) : Type 0 where
    pub place : ℕ
    pub turning : Turning
    pub there : slice_get ts place ≡ Some turning
    pub first : Form
    pub room : ℤ
    pub last : ℤ
    pub line_is : line (n + place) ≡ Block first room
    pub outer : Item
    pub inner : Item
    pub parts_are : parts ≡ outer ∷ inner ∷ []
    pub apart : (outer.symbol == inner.symbol) ≡ false
    pub start : Form
    pub caps : List Item → List Form
    pub caps_end : caps [] ≡ number last ∷ []
    pub shifted : (cs : List Course) → IsShifted line lim tops factor cs all (n + place) first room start (inner ∷ []) form parts caps
    pub caps_fit : (cs : List Course) → CapsFit line lim tops factor cs all (inner ∷ []) caps
    pub fits_start : SumFits factor start (inner ∷ [])
    pub in_order : (u v : Item) → In u parts → In v parts → is_lone u ≡ false → is_lone v ≡ false → is_left u.symbol (inner ∷ []) ≡ true → is_left v.symbol (inner ∷ []) ≡ false →
        (factor u.symbol +ℤ pos 1) ≤ℤ factor v.symbol
    pub has_start : (s : ℕ) → form_has s start ≡ ((n + place == s) || (inner.symbol == s))
    pub has_first : (s : ℕ) → form_has s first ≡ (outer.symbol == s)
    pub bare : (j : ℕ) → is_left (n + j) parts ≡ true → lim (n + j) ≡ []

  abbrev pub Opening : Form → List Item → Type 0
  Opening form parts = Unit {0} ⊎ (IsPairOpening form parts ⊎ IsBlockOpening form parts)

  -- the let at this place opens it
  abbrev pub opened_at : {form : Form} {parts : List Item} → Opening form parts → ℕ → Bool
  opened_at (inl u) j = false
  opened_at (inr (inl o)) j = o.place == j
  opened_at (inr (inr o)) j = o.place == j

  abbrev pub course_by : (form : Form) (parts : List Item) → Opening form parts → Course
  course_by form parts (inl u) = Plain form parts
  course_by form parts (inr (inl o)) = Opened (n + o.place) (alone (n + o.place)) [] form parts (λ us. number o.last ∷ [])
  course_by form parts (inr (inr o)) = Opened (n + o.place) o.start (o.inner ∷ []) form parts o.caps

  -- a variable's coordinate: its form with the lets put in, and the loops in that
  pub record IsSum (x : List ℕ) : Type 0 where
    pub form : Form
    pub parts : List Item
    pub fits : SumFits factor form parts
    pub own : (u : Item) → In u parts → (j : ℕ) × (t : Turning) × (slice_get ts j ≡ Some t) × (keep (n + j) ≡ true) × (is_loop (line (n + j)) ≡ true) × (u ≡ item_of (n + j) t)
    pub outer : (j : ℕ) → is_left (n + j) parts ≡ false → form_has (n + j) form ≡ false
    pub mine : (j : ℕ) (t : Turning) → slice_get ts j ≡ Some t → is_loop (line (n + j)) ≡ true → is_left (n + j) parts ≡ same_name x (owner j)
    pub topped : (j : ℕ) (t : Turning) (g : Form) (top : ℤ) → slice_get ts j ≡ Some t → lim (n + j) ≡ g ∷ [] → tops (n + j) ≡ number top ∷ [] → is_left (n + j) parts ≡ true →
        combined (without form (n + j)) (pos 1) g ≡ Some (number top)
    pub opening : Opening form parts
    pub opens : (j : ℕ) (t : Turning) → slice_get ts j ≡ Some t → is_loop (line (n + j)) ≡ false → opened_at opening j ≡ same_name x t.name

  abbrev pub course : (x : List ℕ) → IsSum x → Course
  course x k = course_by k.form k.parts k.opening

  abbrev pub AreSums : List (List ℕ) → Type 0
  AreSums [] = Unit {0}
  AreSums (x ∷ xs) = IsSum x × AreSums xs

  abbrev pub Each : ((x : List ℕ) → IsSum x → Type 0) → (xs : List (List ℕ)) → AreSums xs → Type 0
  Each P [] ks = Unit {0}
  Each P (x ∷ xs) ks = P x ks.0 × Each P xs ks.1

  abbrev pub courses : (xs : List (List ℕ)) → AreSums xs → List Course
  courses [] ks = []
  courses (x ∷ xs) ks = course x ks.0 ∷ courses xs ks.1

  abbrev pub sum_forms : (xs : List (List ℕ)) → AreSums xs → List Form
  sum_forms [] ks = []
  sum_forms (x ∷ xs) ks = begin_of (course x ks.0) ∷ sum_forms xs ks.1

  -- a further upper form of the loop at this place
  pub record IsLimitAt (j : ℕ) (t : Turning) (g : Form) : Type 0 where
    pub is : lim (n + j) ≡ g ∷ []
    pub top : ℤ
    pub tops_are : tops (n + j) ≡ number top ∷ []
    pub once : factor (n + j) ≡ pos 1
    pub turns : is_lone (item_of (n + j) t) ≡ false
    pub own : form_has (n + j) g ≡ false
    pub unlike : same_form g (number t.low) ≡ false
    pub wide : (i : ℕ) (u : Turning) → slice_get ts i ≡ Some u → form_has (n + i) g ≡ true → pos 2 ≤ℤ factor (n + i)
    pub below : IsBelow (n + j) g

  -- what is so of each loop and let
  pub record LinesFit (xs : List (List ℕ)) : Type 0 where
    pub limits : (j : ℕ) (t : Turning) → slice_get ts j ≡ Some t → ((lim (n + j) ≡ []) × (tops (n + j) ≡ [])) ⊎ ((g : Form) × IsLimitAt j t g)
    pub bare : (s i : ℕ) → HaveNot i (tops s)
    pub let_names : (p : ℕ) (t : Turning) → slice_get ts p ≡ Some t → (j : ℕ) (u : Turning) → slice_get ts j ≡ Some u → line_has (n + j) (line (n + p)) ≡ true →
        (is_loop (line (n + j)) ≡ true) × (owner j ≡ t.name)
    pub limit_names : (p : ℕ) (t : Turning) → slice_get ts p ≡ Some t → (j : ℕ) (u : Turning) → slice_get ts j ≡ Some u → list_any (form_has (n + j)) (lim (n + p)) ≡ true →
        is_loop (line (n + j)) ≡ true
    pub loops_once : (j : ℕ) (t : Turning) → slice_get ts j ≡ Some t → keep (n + j) ≡ true → is_loop (line (n + j)) ≡ true → hits itself (owner j) xs ≡ 1
    pub lets_once : (j : ℕ) (t : Turning) → slice_get ts j ≡ Some t → is_loop (line (n + j)) ≡ false → hits itself t.name xs ≡ 1
    pub near : (j : ℕ) (t : Turning) → slice_get ts j ≡ Some t → (unsigned_abs t.low ≤ 2 ^ 40) × (unsigned_abs t.last ≤ 2 ^ 40)

  same_place : (i j : ℕ) → (n + i == n + j) ≡ (i == j)
  same_place i j = of (n + i == n + j) (i == j) refl refl
    where
      of : (a b : Bool) → (n + i == n + j) ≡ a → (i == j) ≡ b → a ≡ b
      of true true e q = refl
      of false false e q = refl
      of true false e q = absurd (let sums = eq_true (n + i) (n + j) e in let differ : i ≡ j = omega (arith, sums) in not_both (i == j) (ap (λ (k : ℕ). i == k) (sym differ) ∙ eq_refl i) q)
      of false true e q = absurd (let is = eq_true i j q in not_both (n + i == n + j) (ap (λ (k : ℕ). n + i == n + k) (sym is) ∙ eq_refl (n + i)) e)

  -- a let's line alone has symbols
  has_let : (l : Line) (s : ℕ) → line_has s l ≡ true → is_loop l ≡ false
  has_let Loop s e = absurd (cc e)
  has_let (Block f z) s e = refl
  has_let (Pair f z) s e = refl

  rest_is : (form : Form) (parts : List Item) (o : Opening form parts) → rest_of (course_by form parts o) ≡ Sums form parts
  rest_is form parts (inl u) = refl
  rest_is form parts (inr (inl o)) = refl
  rest_is form parts (inr (inr o)) = refl

  module _ (xs : List (List ℕ)) (facts : LinesFit xs) where
    -- ---- of one loop

    module _ (j : ℕ) (t : Turning) (at : slice_get ts j ≡ Some t) (kept : keep (n + j) ≡ true) (loop : is_loop (line (n + j)) ≡ true) where
      abbrev one : Item
      one = item_of (n + j) t

      -- what it is in a coordinate
      fits_one : (x : List ℕ) (k : IsSum x) → FitsTo one (Sums k.form k.parts)
      fits_one x k = ((λ u m e. is u m e (k.own u m)), k.outer j)
        where
          is : (u : Item) → In u k.parts → (u.symbol == n + j) ≡ true →
              ((i : ℕ) × (v : Turning) × (slice_get ts i ≡ Some v) × (keep (n + i) ≡ true) × (is_loop (line (n + i)) ≡ true) × (u ≡ item_of (n + i) v)) → u ≡ one
          is u m e (i, v, there, kept_i, loop_i, same) =
              let symbols : n + i ≡ n + j = ap (λ (w : Item). w.symbol) (sym same) ∙ eq_true u.symbol (n + j) e in
              let place : i ≡ j = omega (arith, symbols) in
              let some : Some v ≡ Some t = sym there ∙ ap (slice_get ts) place ∙ at in
              let turn : v ≡ t = cc some in
              same ∙ (λ k. item_of (n + place k) (turn k))

      -- a let that has its symbol opens the coordinate that it is in
      opener_is : (x : List ℕ) (k : IsSum x) → is_left (n + j) k.parts ≡ true → (p : ℕ) (u : Turning) → slice_get ts p ≡ Some u → line_has (n + j) (line (n + p)) ≡ true → opened_at k.opening p ≡ true
      opener_is x k left p u there has =
          let r = facts.let_names p u there j t at has in
          let own : same_name x (owner j) ≡ true = sym (k.mine j t at loop) ∙ left in
          k.opens p u there (has_let (line (n + p)) (n + j) has) ∙ ap (same_name x) (sym r.1) ∙ own

      none_opens : (x : List ℕ) (k : IsSum x) → is_left (n + j) k.parts ≡ true → ((p : ℕ) → opened_at k.opening p ≡ false) → (w : Item) → In w all → opens line lim tops factor (n + j) w ≡ false
      none_opens x k left none w m = of (line_has (n + j) (line w.symbol)) refl
        where
          r : (p : ℕ) × (u : Turning) × (slice_get ts p ≡ Some u) × (keep (n + p) ≡ true) × (w ≡ item_of (n + p) u)
          r = kept_is line lim keep n ts w m

          of : (b : Bool) → line_has (n + j) (line w.symbol) ≡ b → line_has (n + j) (line w.symbol) ≡ false
          of false e = e
          of true e = absurd (not_both (opened_at k.opening r.0) (opener_is x k left r.0 r.1 r.2 (ap (λ (v : Item). line_has (n + j) (line v.symbol)) (sym r.4) ∙ e)) (none r.0))

      -- where one let opens the coordinate, it alone has the symbol, if it has it
      own_opens : (x : List ℕ) (k : IsSum x) → is_left (n + j) k.parts ≡ true → (place : ℕ) → ((p : ℕ) → opened_at k.opening p ≡ (place == p)) → line_has (n + j) (line (n + place)) ≡ true →
          (w : Item) →
          In w all → opens line lim tops factor (n + j) w ≡ (w.symbol == n + place)
      own_opens x k left place are has w m = of (w.symbol == n + place) refl
        where
          r : (p : ℕ) × (u : Turning) × (slice_get ts p ≡ Some u) × (keep (n + p) ≡ true) × (w ≡ item_of (n + p) u)
          r = kept_is line lim keep n ts w m

          by : (w.symbol == n + place) ≡ false → (b : Bool) → line_has (n + j) (line w.symbol) ≡ b → line_has (n + j) (line w.symbol) ≡ false
          by e false q = q
          by e true q =
              let opened = opener_is x k left r.0 r.1 r.2 (ap (λ (v : Item). line_has (n + j) (line v.symbol)) (sym r.4) ∙ q) in
              let place_is : place ≡ r.0 = eq_true place r.0 (sym (are r.0) ∙ opened) in
              absurd (not_both (w.symbol == n + place) ((λ i. (r.4 i).symbol == n + place_is i) ∙ eq_refl (n + r.0)) e)

          of : (b : Bool) → (w.symbol == n + place) ≡ b → line_has (n + j) (line w.symbol) ≡ b
          of true e = ap (λ (s : ℕ). line_has (n + j) (line s)) (eq_true w.symbol (n + place) e) ∙ has
          of false e = by e (line_has (n + j) (line w.symbol)) refl

      -- a let's symbol is another
      let_apart : (p : ℕ) → is_loop (line (n + p)) ≡ false → (n + p == n + j) ≡ false
      let_apart p not_loop = of (n + p == n + j) refl
        where
          of : (b : Bool) → (n + p == n + j) ≡ b → (n + p == n + j) ≡ false
          of false e = e
          of true e = absurd (not_both (is_loop (line (n + p))) (ap (λ (s : ℕ). is_loop (line s)) (eq_true (n + p) (n + j) e) ∙ loop) not_loop)

      fits_course : (cs : List Course) (x : List ℕ) (k : IsSum x) → FitsCourse line lim tops factor cs all one (course x k)
      fits_course cs x k = of k.opening refl
        where
          of : (o : Opening k.form k.parts) → k.opening ≡ o → FitsCourse line lim tops factor cs all one (course_by k.form k.parts o)
          of (inl u) e = (fits_one x k, λ left. none_opens x k left (λ p. ap (λ (o : Opening k.form k.parts). opened_at o p) e))
          of (inr (inl o)) e =
              let not_loop : is_loop (line (n + o.place)) ≡ false = ap is_loop o.line_is in
              let differs = let_apart o.place not_loop in
              (((λ u m q. absurd m), λ q. ap (λ (b : Bool). b || false) differs), fits_one x k, differs, by (is_left (n + j) k.parts) refl)
            where
              by : (b : Bool) → is_left (n + j) k.parts ≡ b → ((false ≡ is_left (n + j) k.parts) × (is_left (n + j) k.parts ≡ true → (w : Item) → In w all → opens line lim tops factor (n +
                  j) w ≡ false))
                  ⊎ ((false ≡ false) × ((w : Item) → In w all → opens line lim tops factor (n + j) w ≡ (w.symbol == n + o.place)))
              by false q = inl (sym q, λ r. absurd (not_both (is_left (n + j) k.parts) r q))
              by true q =
                  inr (refl, own_opens x k q o.place (λ p. ap (λ (o : Opening k.form k.parts). opened_at o p) e) (ap (line_has (n + j)) o.line_is ∙ has_part x k q))
                where
                  has_part : (x : List ℕ) (k : IsSum x) → is_left (n + j) k.parts ≡ true → form_has (n + j) k.form ≡ true
                  has_part x k left = by_item k.parts (λ u m. (k.fits.has u m).0) left
                    where
                      by_item : (us : List Item) → ((u : Item) → In u us → form_has u.symbol k.form ≡ true) → is_left (n + j) us ≡ true → form_has (n + j) k.form ≡ true
                      by_item [] h q = absurd (cc q)
                      by_item (u ∷ us) h q = which (u.symbol == n + j) refl q (λ r. by_item us (λ v m. h v (inr m)) r)
                        where
                          which : (b : Bool) → (u.symbol == n + j) ≡ b → (b || is_left (n + j) us) ≡ true → (is_left (n + j) us ≡ true → form_has (n + j) k.form ≡ true) → form_has (n + j)
                              k.form ≡ true
                          which true r q rest = ap (λ (s : ℕ). form_has s k.form) (sym (eq_true u.symbol (n + j) r)) ∙ h u (inl refl)
                          which false r q rest = rest q
          of (inr (inr o)) e =
              let not_loop : is_loop (line (n + o.place)) ≡ false = ap is_loop o.line_is in
              let differs = let_apart o.place not_loop in
              ((own_first, outer_first differs), fits_one x k, differs, by (o.outer.symbol == n + j) refl)
            where
              inner_there : In o.inner k.parts
              inner_there = subst (In o.inner) (sym o.parts_are) (inr (inl refl))

              own_first : (u : Item) → In u (o.inner ∷ []) → (u.symbol == n + j) ≡ true → u ≡ one
              own_first u (inl same) q = (fits_one x k).0 u (subst (λ (v : Item). In v k.parts) (sym same) inner_there) q
              own_first u (inr m) q = absurd m

              outer_first : (n + o.place == n + j) ≡ false → is_left (n + j) (o.inner ∷ []) ≡ false → form_has (n + j) o.start ≡ false
              outer_first differs q = o.has_start (n + j) ∙ (let away : (o.inner.symbol == n + j) ≡ false = sym (one_only (o.inner.symbol == n + j)) ∙ q in λ i. differs i || away i)

              parts_left : is_left (n + j) k.parts ≡ ((o.outer.symbol == n + j) || ((o.inner.symbol == n + j) || false))
              parts_left = ap (is_left (n + j)) o.parts_are

              no_line : (o.outer.symbol == n + j) ≡ false → line_has (n + j) (line (n + o.place)) ≡ false
              no_line q = ap (line_has (n + j)) o.line_is ∙ o.has_first (n + j) ∙ q

              none : is_left (n + j) k.parts ≡ true → (o.outer.symbol == n + j) ≡ false → (w : Item) → In w all → opens line lim tops factor (n + j) w ≡ false
              none left q w m = which (line_has (n + j) (line w.symbol)) refl
                where
                  r : (p : ℕ) × (u : Turning) × (slice_get ts p ≡ Some u) × (keep (n + p) ≡ true) × (w ≡ item_of (n + p) u)
                  r = kept_is line lim keep n ts w m

                  which : (b : Bool) → line_has (n + j) (line w.symbol) ≡ b → line_has (n + j) (line w.symbol) ≡ false
                  which false s = s
                  which true s =
                      let has : line_has (n + j) (line (n + r.0)) ≡ true = ap (λ (v : Item). line_has (n + j) (line v.symbol)) (sym r.4) ∙ s in
                      let opened = opener_is x k left r.0 r.1 r.2 has in
                      let place_is : o.place ≡ r.0 = eq_true o.place r.0 (ap (λ (o : Opening k.form k.parts). opened_at o r.0) (sym e) ∙ opened) in
                      absurd (not_both (line_has (n + j) (line (n + o.place))) (ap (λ (p : ℕ). line_has (n + j) (line (n + p))) place_is ∙ has) (no_line q))

              by : (b : Bool) → (o.outer.symbol == n + j) ≡ b →
                  ((is_left (n + j) (o.inner ∷ []) ≡ is_left (n + j) k.parts) × (is_left (n + j) k.parts ≡ true → (w : Item) → In w all → opens line lim tops factor (n + j) w ≡ false))
                  ⊎ ((is_left (n + j) (o.inner ∷ []) ≡ false) × ((w : Item) → In w all → opens line lim tops factor (n + j) w ≡ (w.symbol == n + o.place)))
              by false q = inl (sym (parts_left ∙ ap (λ (b : Bool). b || ((o.inner.symbol == n + j) || false)) q), λ left. none left q)
              by true q =
                  let left : is_left (n + j) k.parts ≡ true = parts_left ∙ ap (λ (b : Bool). b || ((o.inner.symbol == n + j) || false)) q in
                  let symbol : o.outer.symbol ≡ n + j = eq_true o.outer.symbol (n + j) q in
                  let away : (o.inner.symbol == n + j) ≡ false = ap (λ (s : ℕ). o.inner.symbol == s) (sym symbol) ∙ other_way o.outer.symbol o.inner.symbol o.apart in
                  inr (
                    ap (λ (b : Bool). b || false) away,
                    own_opens x k left o.place (λ p. ap (λ (o : Opening k.form k.parts). opened_at o p) e) (ap (line_has (n + j)) o.line_is ∙ o.has_first (n + j) ∙ q),
                  )

      fits_all : (cs : List Course) (ys : List (List ℕ)) (hs : AreSums ys) → AllByRecursion (FitsCourse line lim tops factor cs all one) (courses ys hs)
      fits_all cs [] hs = tt
      fits_all cs (y ∷ ys) hs = (fits_course cs y hs.0, fits_all cs ys hs.1)

      hits_are : (ys : List (List ℕ)) (hs : AreSums ys) → hits_of (n + j) (map rest_of (courses ys hs)) ≡ hits itself (owner j) ys
      hits_are [] hs = refl
      hits_are (y ∷ ys) hs =
          let rest = hits_are ys hs.1 in
          let here = hs.0.mine j t at loop in
          (λ i. hits_of (n + j) (rest_is hs.0.form hs.0.parts hs.0.opening i ∷ map rest_of (courses ys hs.1))) ∙ (λ i. one_if (here i) + rest i)

      -- what a further upper form comes to in its coordinate
      comes_all : (ys : List (List ℕ)) (hs : AreSums ys) (g : Form) (top : ℤ) → lim (n + j) ≡ g ∷ [] → tops (n + j) ≡ number top ∷ [] → (f : Form) (us : List Item) →
          In (Plain f us) (courses ys hs) → is_left (n + j) us ≡ true → combined (without f (n + j)) (pos 1) g ≡ Some (number top)
      comes_all [] hs g top is tops_are f us m left = absurd m
      comes_all (y ∷ ys) hs g top is tops_are f us (inr m) left = comes_all ys hs.1 g top is tops_are f us m left
      comes_all (y ∷ ys) hs g top is tops_are f us (inl e) left = of hs.0.opening e
        where
          of : (o : Opening hs.0.form hs.0.parts) → Plain f us ≡ course_by hs.0.form hs.0.parts o → combined (without f (n + j)) (pos 1) g ≡ Some (number top)
          of (inl u) e =
              let forms : f ≡ hs.0.form = cc e in
              let parts : us ≡ hs.0.parts = cc e in
              ap (λ (h : Form). combined (without h (n + j)) (pos 1) g) forms ∙ hs.0.topped j t g top at is tops_are (ap (is_left (n + j)) (sym parts) ∙ left)
          of (inr (inl o)) e = absurd (cc e)
          of (inr (inr o)) e = absurd (cc e)

      none_left : (parts : List Item) (g : Form) → lim (n + j) ≡ g ∷ [] → ((j : ℕ) → is_left (n + j) parts ≡ true → lim (n + j) ≡ []) → is_left (n + j) parts ≡ false
      none_left parts g is bare = of (is_left (n + j) parts) refl
        where
          of : (b : Bool) → is_left (n + j) parts ≡ b → is_left (n + j) parts ≡ false
          of false e = e
          of true e = (let clash : g ∷ [] ≡ [] = sym is ∙ bare j e in absurd (cc clash))

      apart_all : (cs : List Course) (g : Form) → lim (n + j) ≡ g ∷ [] → (ys : List (List ℕ)) (hs : AreSums ys) → AllByRecursion (IsApartFrom line lim tops factor cs all one) (courses ys hs)
      apart_all cs g is [] hs = tt
      apart_all cs g is (y ∷ ys) hs = (of hs.0.opening, apart_all cs g is ys hs.1)
        where
          of : (o : Opening hs.0.form hs.0.parts) → IsApartFrom line lim tops factor cs all one (course_by hs.0.form hs.0.parts o)
          of (inl u) = tt
          of (inr (inl o)) = (refl, none_left hs.0.parts g is o.bare)
          of (inr (inr o)) =
              let none = none_left hs.0.parts g is o.bare in
              (inner_away (o.outer.symbol == n + j) (o.inner.symbol == n + j) (sym (ap (is_left (n + j)) o.parts_are) ∙ none), none)
            where
              inner_away : (a b : Bool) → (a || (b || false)) ≡ false → (b || false) ≡ false
              inner_away true b e = absurd (cc e)
              inner_away false b e = e

      loop_fits : (ks : AreSums xs) → LoopFits line lim tops factor (courses xs ks) all one
      loop_fits ks = record {
        fits = fits_all (courses xs ks) xs ks;
        once = hits_are xs ks ∙ facts.loops_once j t at kept loop;
        near = (facts.near j t at).0;
        last_near = (facts.near j t at).1;
        limits = of (facts.limits j t at);
      }
        where
          of : ((lim (n + j) ≡ []) × (tops (n + j) ≡ [])) ⊎ ((g : Form) × IsLimitAt j t g) →
              ((lim (n + j) ≡ []) × (tops (n + j) ≡ [])) ⊎ ((g : Form) × IsTopped line lim tops factor (courses xs ks) all one g)
          of (inl k) = inl k
          of (inr (g, k)) = inr (
            g,
            record {
              is = k.is;
              top = k.top;
              tops_are = k.tops_are;
              once = k.once;
              turns = k.turns;
              own = k.own;
              unlike = k.unlike;
              wide = λ u m looping has. (let r = kept_is line lim keep n ts u m in
                  ap_wide u r.0 r.1 r.4 (k.wide r.0 r.1 r.2 (ap (λ (v : Item). form_has v.symbol g) (sym r.4) ∙ has)));
              comes = comes_all xs ks g k.top k.is k.tops_are;
              plain = apart_all (courses xs ks) g k.is xs ks;
            },
          )
            where
              ap_wide : (u : Item) (p : ℕ) (v : Turning) → u ≡ item_of (n + p) v → pos 2 ≤ℤ factor (n + p) → pos 2 ≤ℤ factor u.symbol
              ap_wide u p v is h = subst (λ (w : Item). pos 2 ≤ℤ factor w.symbol) (sym is) h

    -- ---- of one let

    module _ (p : ℕ) (t : Turning) (at : slice_get ts p ≡ Some t) (not_loop : is_loop (line (n + p)) ≡ false) where
      -- it is in the loops of no coordinate
      not_part : (x : List ℕ) (k : IsSum x) → is_left (n + p) k.parts ≡ false
      not_part x k = of (is_left (n + p) k.parts) refl
        where
          part : (us : List Item) → ((u : Item) → In u us → In u k.parts) → is_left (n + p) us ≡ true → ⊥
          part [] f q = cc q
          part (u ∷ us) f q = which (u.symbol == n + p) refl q (λ r. part us (λ v m. f v (inr m)) r)
            where
              which : (b : Bool) → (u.symbol == n + p) ≡ b → (b || is_left (n + p) us) ≡ true → (is_left (n + p) us ≡ true → ⊥) → ⊥
              which true r q rest =
                  let o = k.own u (f u (inl refl)) in
                  let symbols : n + o.0 ≡ n + p = ap (λ (w : Item). w.symbol) (sym o.5) ∙ eq_true u.symbol (n + p) r in
                  not_both (is_loop (line (n + p))) (ap (λ (m : ℕ). is_loop (line m)) (sym symbols) ∙ o.4) not_loop
              which false r q rest = rest q

          of : (b : Bool) → is_left (n + p) k.parts ≡ b → is_left (n + p) k.parts ≡ false
          of false e = e
          of true e = absurd (part k.parts (λ u m. m) e)

      strange_one : (cs : List Course) (x : List ℕ) (k : IsSum x) → IsStrange line lim tops factor cs all (n + p) (course x k)
      strange_one cs x k = of k.opening
        where
          away : is_left (n + p) k.parts ≡ false
          away = not_part x k

          of : (o : Opening k.form k.parts) → IsStrange line lim tops factor cs all (n + p) (course_by k.form k.parts o)
          of (inl u) = (away, k.outer p away)
          of (inr (inl o)) = (refl, away, one_only (n + o.place == n + p), k.outer p away)
          of (inr (inr o)) =
              let inner : (o.inner.symbol == n + p) ≡ false = second (o.outer.symbol == n + p) (o.inner.symbol == n + p) (sym (ap (is_left (n + p)) o.parts_are) ∙ away) in
              (ap (λ (b : Bool). b || false) inner, away, o.has_start (n + p) ∙ ap (λ (b : Bool). (n + o.place == n + p) || b) inner ∙ one_only (n + o.place == n + p), k.outer p away)
            where
              second : (a b : Bool) → (a || (b || false)) ≡ false → b ≡ false
              second true b e = absurd (cc e)
              second false b e = sym (one_only b) ∙ e

      strange_all : (cs : List Course) (ys : List (List ℕ)) (hs : AreSums ys) → AllByRecursion (IsStrange line lim tops factor cs all (n + p)) (courses ys hs)
      strange_all cs [] hs = tt
      strange_all cs (y ∷ ys) hs = (strange_one cs y hs.0, strange_all cs ys hs.1)

      opened_one : (x : List ℕ) (k : IsSum x) → opened_by (n + p) (course x k) ≡ same_name x t.name
      opened_one x k = of k.opening ∙ k.opens p t at not_loop
        where
          of : (o : Opening k.form k.parts) → opened_by (n + p) (course_by k.form k.parts o) ≡ opened_at o p
          of (inl u) = refl
          of (inr (inl o)) = same_place o.place p
          of (inr (inr o)) = same_place o.place p

      opened_all : (ys : List (List ℕ)) (hs : AreSums ys) → count (opened_by (n + p)) (courses ys hs) ≡ hits itself t.name ys
      opened_all [] hs = refl
      opened_all (y ∷ ys) hs = (let here = opened_one y hs.0 in let rest = opened_all ys hs.1 in λ i. one_if (here i) + rest i)

      no_line : (q : ℕ) (u : Turning) → slice_get ts q ≡ Some u → line_has (n + p) (line (n + q)) ≡ false
      no_line q u there = of (line_has (n + p) (line (n + q))) refl
        where
          of : (b : Bool) → line_has (n + p) (line (n + q)) ≡ b → line_has (n + p) (line (n + q)) ≡ false
          of false e = e
          of true e = absurd (not_both (is_loop (line (n + p))) (facts.let_names q u there p t at e).0 not_loop)

      no_limit : (q : ℕ) (u : Turning) → slice_get ts q ≡ Some u → list_any (form_has (n + p)) (lim (n + q)) ≡ false
      no_limit q u there = of (list_any (form_has (n + p)) (lim (n + q))) refl
        where
          of : (b : Bool) → list_any (form_has (n + p)) (lim (n + q)) ≡ b → list_any (form_has (n + p)) (lim (n + q)) ≡ false
          of false e = e
          of true e = absurd (not_both (is_loop (line (n + p))) (facts.limit_names q u there p t at e) not_loop)

      unnamed : (w : Item) → In w all → names line lim tops factor (n + p) w ≡ false
      unnamed w m =
          let r = kept_is line lim keep n ts w m in
          let first = no_line r.0 r.1 r.2 in
          let second = no_limit r.0 r.1 r.2 in
          ap (λ (v : Item). names line lim tops factor (n + p) v) r.4 ∙ (λ i. first i || (if is_loop (line (n + r.0)) then second i else false)) ∙ either (is_loop (line (n + r.0)))
        where
          either : (b : Bool) → (if b then false else false) ≡ false
          either true = refl
          either false = refl

      own_pairs : (cs : List Course) (f : Form) (z : ℤ) → line (n + p) ≡ Pair f z → (ys : List (List ℕ)) (hs : AreSums ys) → AllByRecursion (OwnPair line lim tops factor cs all (n + p) f z)
          (courses ys hs)
      own_pairs cs f z is [] hs = tt
      own_pairs cs f z is (y ∷ ys) hs = (of hs.0.opening, own_pairs cs f z is ys hs.1)
        where
          of : (o : Opening hs.0.form hs.0.parts) → OwnPair line lim tops factor cs all (n + p) f z (course_by hs.0.form hs.0.parts o)
          of (inl u) = tt
          of (inr (inl o)) = λ e.
              (let symbols : n + o.place ≡ n + p = eq_true (n + o.place) (n + p) e in
              let lines : Pair hs.0.form o.last ≡ Pair f z = sym o.line_is ∙ ap line symbols ∙ is in
              let forms : hs.0.form ≡ f = cc lines in
              let lasts : o.last ≡ z = cc lines in (
                ap alone symbols,
                refl,
                forms,
                (λ us. ap (λ (w : ℤ). number w ∷ []) lasts),
                subst (λ (h : Form). combined (number (pos 0)) (pos 1) h ≡ Some h) forms o.made,
                subst (λ (w : ℤ). combined (number (pos 0)) (pos 1) (number w) ≡ Some (number w)) lasts o.last_made,
              ))
          of (inr (inr o)) = λ e.
              (let symbols : n + o.place ≡ n + p = eq_true (n + o.place) (n + p) e in
              let lines : Block o.first o.room ≡ Pair f z = sym o.line_is ∙ ap line symbols ∙ is in
              absurd (cc lines))

      own_blocks : (cs : List Course) (f : Form) (z : ℤ) → line (n + p) ≡ Block f z → (ys : List (List ℕ)) (hs : AreSums ys) → AllByRecursion (OwnBlock line lim tops factor cs all (n + p) f
          z) (courses ys hs)
      own_blocks cs f z is [] hs = tt
      own_blocks cs f z is (y ∷ ys) hs = (of hs.0.opening, own_blocks cs f z is ys hs.1)
        where
          of : (o : Opening hs.0.form hs.0.parts) → OwnBlock line lim tops factor cs all (n + p) f z (course_by hs.0.form hs.0.parts o)
          of (inl u) = tt
          of (inr (inl o)) = λ e.
              (let symbols : n + o.place ≡ n + p = eq_true (n + o.place) (n + p) e in
              let lines : Pair hs.0.form o.last ≡ Block f z = sym o.line_is ∙ ap line symbols ∙ is in
              absurd (cc lines))
          of (inr (inr o)) = λ e.
              (let symbols : n + o.place ≡ n + p = eq_true (n + o.place) (n + p) e in
              let lines : Block o.first o.room ≡ Block f z = sym o.line_is ∙ ap line symbols ∙ is in
              let forms : o.first ≡ f = cc lines in
              let rooms : o.room ≡ z = cc lines in
              subst (λ (q : ℕ). IsShifted line lim tops factor cs all q f z o.start (o.inner ∷ []) hs.0.form hs.0.parts o.caps) symbols
              (subst (λ (h : Form). IsShifted line lim tops factor cs all (n + o.place) h z o.start (o.inner ∷ []) hs.0.form hs.0.parts o.caps) forms
              (subst (λ (w : ℤ). IsShifted line lim tops factor cs all (n + o.place) o.first w o.start (o.inner ∷ []) hs.0.form hs.0.parts o.caps) rooms (o.shifted cs))))

      opener_fits : (exact : Bool) → ((f : Form) (z : ℤ) → line (n + p) ≡ Block f z → exact ≡ false) → (ks : AreSums xs) → OpenerFits line lim tops factor (courses xs ks) all exact (item_of (n + p) t)
      opener_fits exact blocks ks = record {
        strange = strange_all (courses xs ks) xs ks;
        once = opened_all xs ks ∙ facts.lets_once p t at not_loop;
        unnamed = unnamed;
        own = own_line (line (n + p)) refl;
      }
        where
          own_line : (l : Line) → line (n + p) ≡ l → OwnLine line lim tops factor (courses xs ks) all exact (n + p) l
          own_line Loop e = tt
          own_line (Block f z) e = (own_blocks (courses xs ks) f z e xs ks, blocks f z e)
          own_line (Pair f z) e = own_pairs (courses xs ks) f z e xs ks

    -- ---- of each coordinate

    inside : (cs : List Course) (x : List ℕ) (k : IsSum x) → AreInside line lim tops factor cs all k.parts
    inside cs x k u m =
        let o = k.own u m in (
          subst (λ (v : Item). In v all) (sym o.5) (in_kept line lim keep n ts o.0 o.1 o.2 o.3),
          ap (λ (v : Item). is_loop (line v.symbol)) o.5 ∙ o.4,
        )

    course_fits : (cs : List Course) (x : List ℕ) (k : IsSum x) → CourseFits line lim tops factor cs all (course x k)
    course_fits cs x k = of k.opening
      where
        of : (o : Opening k.form k.parts) → CourseFits line lim tops factor cs all (course_by k.form k.parts o)
        of (inl u) = (k.fits, inside cs x k)
        of (inr (inl o)) = (o.fits_start, k.fits, (λ u m. absurd m), inside cs x k, o.caps_fit cs, λ u v mu mv lone_u lone_v left away. absurd (cc left))
        of (inr (inr o)) = (o.fits_start, k.fits, inner_inside, inside cs x k, o.caps_fit cs, o.in_order)
          where
            inner_inside : AreInside line lim tops factor cs all (o.inner ∷ [])
            inner_inside u (inl e) = inside cs x k u (subst (In u) (sym o.parts_are) (inr (inl e)))
            inner_inside u (inr m) = absurd m

    courses_fit : (cs : List Course) (ys : List (List ℕ)) (hs : AreSums ys) → AllByRecursion (CourseFits line lim tops factor cs all) (courses ys hs)
    courses_fit cs [] hs = tt
    courses_fit cs (y ∷ ys) hs = (course_fits cs y hs.0, courses_fit cs ys hs.1)

    -- all that the moves ask
    pub all_fit : (exact : Bool) → ((j : ℕ) (f : Form) (z : ℤ) → line (n + j) ≡ Block f z → exact ≡ false) → (ks : AreSums xs) → AllFits line lim tops factor (courses xs ks) all exact
    all_fit exact blocks ks = record {
      loops = λ u m looping.
          (let r = kept_is line lim keep n ts u m in
          subst (LoopFits line lim tops factor (courses xs ks) all) (sym r.4) (loop_fits r.0 r.1 r.2 r.3 (ap (λ (v : Item). is_loop (line v.symbol)) (sym r.4) ∙ looping) ks));
      lets = λ u m not_loop.
          (let r = kept_is line lim keep n ts u m in
          subst (OpenerFits line lim tops factor (courses xs ks) all exact) (sym r.4)
          (opener_fits r.0 r.1 r.2 (ap (λ (v : Item). is_loop (line v.symbol)) (sym r.4) ∙ not_loop) exact (blocks r.0) ks));
      courses = courses_fit (courses xs ks) xs ks;
      bare = facts.bare;
    }
