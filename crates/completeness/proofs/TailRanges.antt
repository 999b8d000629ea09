-- The loops of a reduction stand one behind another among the loops and lets of an update's nest, and run over its ranges, in order.
use Rattle.std.proofs.Common.{◌≡◌, ℕ, zero, suc, ◌+◌, ◌≤◌, Bool, true, false, List, [], ◌∷◌, ◌++◌, length, map, Some, None, refl, sym, ap, ◌∙◌, subst, inl, inr, ◌⊎◌, arith}
use Rattle.std.specs.Prelude.{if◌then◌else◌, filter, reverse, slice_get}
use Rattle.std.specs.List.{AllByRecursion}
use Rattle.lin.specs.Forms.{Form}
use Rattle.meaning.specs.Algorithm.{Range}
use Rattle.plan.specs.Plan.{Coordinate}
use Rattle.soundness.specs.Claims.{In}
use Rattle.soundness.specs.Obligations.{Binder, Rules}
use Rattle.soundness.specs.Nests.Nest.{Loop as NestLoop}
use Rattle.soundness.specs.Nests.Tests.{is_among as is_among_loops, are_whole as are_whole_loops, is_reduced}
use Rattle.rules.specs.Bounding.Scopes.{shown_at_most}
use Rattle.sched.specs.declared.nest.Turning.{Turning}
use Rattle.sched.specs.declared.numbers.Numbers.{Numbers}
use Rattle.sched.specs.declared.skeleton.Known.{Known}
use Rattle.sched.specs.declared.schedule.Split.{Split}
use Rattle.sched.specs.Skeleton.{span, range_turning}
use Rattle.tails.specs.Updates.{loops_in}
use Rattle.headline.proofs.Lists.{at_left, at_right}
use Rattle.completeness.proofs.Halves.{AreOthers}
use Rattle.completeness.proofs.Lanes.{AreOnce}
use Rattle.completeness.proofs.PlainTurns.{hits, turn_name}
use Rattle.completeness.proofs.PlainTests.{limited_loops}
use Rattle.completeness.proofs.UpdateTurns.{range_name}
use Rattle.completeness.proofs.UpdateTests.{ReadsIf, IsNearTurn, whole_all, along_back, along_ranges}
use Rattle.completeness.proofs.TailSteps.{Line, Loop, Block, Pair, is_loop}
use Rattle.completeness.proofs.TailLines.{line_turns, lines_of}
use Rattle.completeness.proofs.TailTurns.{Entry, let_of, Woven}

-- ---- where they stand

joined_twice : (xs ys zs : List Entry) → xs ++ (ys ++ zs) ≡ (xs ++ ys) ++ zs
joined_twice [] ys zs = refl
joined_twice (x ∷ xs) ys zs = ap (λ (es : List Entry). x ∷ es) (joined_twice xs ys zs)

module _ (cuts : List Split) (others : AreOthers cuts) (once : AreOnce cuts) (rs : List Numbers) (grid : List Known) (base : ℕ) where
  abbrev Wove : List Turning → List Entry → Type 0
  Wove us es = Woven cuts others once rs grid base us es

  record IsParted (us vs : List Turning) (es : List Entry) : Type 0 where
    before : List Entry
    behind : List Entry
    are : es ≡ before ++ behind
    first : Wove us before
    second : Wove vs behind

  woven_parts : (us vs : List Turning) (es : List Entry) → Wove (us ++ vs) es → IsParted us vs es
  woven_parts [] vs es w = record { before = []; behind = es; are = refl; first = refl; second = w }
  woven_parts (t ∷ us) vs es w =
      let r = woven_parts us vs w.2 w.6 in
      record {
        before = w.0 ∷ (w.1 ++ r.before);
        behind = r.behind;
        are = w.3 ∙ (let same = r.are in λ j. w.0 ∷ (w.1 ++ same j)) ∙ ap (λ (fs : List Entry). w.0 ∷ fs) (joined_twice w.1 r.before r.behind);
        first = (w.0, w.1, r.before, refl, w.4, w.5, r.first);
        second = r.second;
      }

  -- without lets behind them the entries are loops
  woven_bare : (us : List Turning) (es : List Entry) → ((j : ℕ) (t : Turning) → slice_get us j ≡ Some t → (d : Split) → In d cuts → t.name ≡ d.outer → ⊥) → Wove us es → map (λ (e : Entry).
      e.turning) es ≡ us
  woven_bare [] es none w = ap (map (λ (e : Entry). e.turning)) w
  woven_bare (t ∷ us) es none w = of w.1 w.3 w.5 (woven_bare us w.2 (λ j u at. none (suc j) u at) w.6)
    where
      of : (lets : List Entry) → es ≡ w.0 ∷ (lets ++ w.2) → ((k : ℕ) (e : Entry) → slice_get lets k ≡ Some e → (d : Split) × In d cuts × (e.turning ≡ let_of rs d) × (t.name ≡ d.outer)) →
          map (λ (e : Entry). e.turning) w.2 ≡ us → map (λ (e : Entry). e.turning) es ≡ t ∷ us
      of [] is each rest = ap (map (λ (e : Entry). e.turning)) is ∙ (let own = w.4 in λ j. own j ∷ rest j)
      of (l ∷ lets) is each rest = (let d = each 0 l refl in absurd (none 0 t refl d.0 d.1 d.3))

  -- one of these loops, or a let behind one
  abbrev pub IsFrom : List Turning → Turning → Type 0
  IsFrom us t = In t us ⊎ ((d : Split) × In d cuts × (t ≡ let_of rs d))

  woven_from : (us : List Turning) (es : List Entry) → Wove us es → (j : ℕ) (e : Entry) → slice_get es j ≡ Some e → IsFrom us e.turning
  woven_from [] es w j e at = (let clash : None ≡ Some e = sym (ap (λ (fs : List Entry). slice_get fs j) w) ∙ at in absurd (cc clash))
  woven_from (t ∷ us) es w j e at = by j (ap (λ (fs : List Entry). slice_get fs j) (sym w.3) ∙ at) (λ k f q. woven_from us w.2 w.6 k f q)
    where
      more : IsFrom us e.turning → IsFrom (t ∷ us) e.turning
      more (inl m) = inl (inr m)
      more (inr d) = inr d

      behind : (lets : List Entry) → ((k : ℕ) (f : Entry) → slice_get lets k ≡ Some f → (d : Split) × In d cuts × (f.turning ≡ let_of rs d) × (t.name ≡ d.outer)) → (k : ℕ) →
          slice_get (lets ++ w.2) k ≡ Some e → ((k : ℕ) (f : Entry) → slice_get w.2 k ≡ Some f → IsFrom us f.turning) → IsFrom (t ∷ us) e.turning
      behind [] each k q rest = more (rest k e q)
      behind (l ∷ lets) each zero q rest =
          let d = each 0 l refl in
          let same : l ≡ e = cc q in
          inr (d.0, d.1, ap (λ (f : Entry). f.turning) (sym same) ∙ d.2)
      behind (l ∷ lets) each (suc k) q rest = behind lets (λ i f r. each (suc i) f r) k q rest

      by : (j : ℕ) → slice_get (w.0 ∷ (w.1 ++ w.2)) j ≡ Some e → ((k : ℕ) (f : Entry) → slice_get w.2 k ≡ Some f → IsFrom us f.turning) → IsFrom (t ∷ us) e.turning
      by zero q rest = (let same : w.0 ≡ e = cc q in inl (inl (ap (λ (f : Entry). f.turning) (sym same) ∙ w.4)))
      by (suc k) q rest = behind w.1 w.5 k q rest

  pub record IsMiddle (firsts middle lasts : List Turning) (es : List Entry) : Type 0 where
    pub before : List Turning
    pub behind : List Turning
    pub are : map (λ (e : Entry). e.turning) es ≡ before ++ (middle ++ behind)
    pub entries : (j : ℕ) (t : Turning) → slice_get middle j ≡ Some t → (e : Entry) × (slice_get es (length before + j) ≡ Some e) × (e.turning ≡ t)
    pub earlier : (j : ℕ) (t : Turning) → slice_get before j ≡ Some t → (e : Entry) × (slice_get es j ≡ Some e) × (e.turning ≡ t) × IsFrom firsts t
    pub later : (j : ℕ) (t : Turning) → slice_get behind j ≡ Some t →
        (e : Entry) × (slice_get es (length before + (length middle + j)) ≡ Some e) × (e.turning ≡ t) × IsFrom lasts t

  mapped_more : (xs ys : List Entry) → map (λ (e : Entry). e.turning) (xs ++ ys) ≡ map (λ (e : Entry). e.turning) xs ++ map (λ (e : Entry). e.turning) ys
  mapped_more [] ys = refl
  mapped_more (x ∷ xs) ys = ap (λ (ts : List Turning). x.turning ∷ ts) (mapped_more xs ys)

  mapped_long : (xs : List Entry) → length (map (λ (e : Entry). e.turning) xs) ≡ length xs
  mapped_long [] = refl
  mapped_long (x ∷ xs) = ap suc (mapped_long xs)

  mapped_at : (xs : List Entry) (j : ℕ) (t : Turning) → slice_get (map (λ (e : Entry). e.turning) xs) j ≡ Some t → (e : Entry) × (slice_get xs j ≡ Some e) × (e.turning ≡ t)
  mapped_at [] j t at = absurd (cc at)
  mapped_at (x ∷ xs) zero t at = (x, refl, cc at)
  mapped_at (x ∷ xs) (suc j) t at = mapped_at xs j t at

  pub middle_of : (firsts middle lasts : List Turning) (es : List Entry) →
      ((j : ℕ) (t : Turning) → slice_get middle j ≡ Some t → (d : Split) → In d cuts → t.name ≡ d.outer → ⊥) → Wove (firsts ++ (middle ++ lasts)) es → IsMiddle firsts middle lasts es
  middle_of firsts middle lasts es none w =
      let one = woven_parts firsts (middle ++ lasts) es w in
      let two = woven_parts middle lasts one.behind one.second in
      let bare = woven_bare middle two.before none two.first in
      let all_are : es ≡ one.before ++ (two.before ++ two.behind) = one.are ∙ (let same = two.are in λ j. one.before ++ same j) in
      record {
        before = map (λ (e : Entry). e.turning) one.before;
        behind = map (λ (e : Entry). e.turning) two.behind;
        are = ap (map (λ (e : Entry). e.turning)) all_are ∙ mapped_more one.before (two.before ++ two.behind)
            ∙ (let more = mapped_more two.before two.behind in λ j. map (λ (e : Entry). e.turning) one.before ++ more j)
            ∙ (λ j. map (λ (e : Entry). e.turning) one.before ++ (bare j ++ map (λ (e : Entry). e.turning) two.behind));
        entries = λ j t at. (let e = mapped_at two.before j t (ap (λ (ts : List Turning). slice_get ts j) bare ∙ at) in
            let long = mapped_long one.before in
            (e.0, (λ i. slice_get (all_are i) (long i + j)) ∙ at_right one.before (two.before ++ two.behind) (length one.before + j) j refl ∙ at_left two.before two.behind j e.0 e.1, e.2));
        earlier = λ j t at. (let e = mapped_at one.before j t at in (
          e.0,
          ap (λ (fs : List Entry). slice_get fs j) all_are ∙ at_left one.before (two.before ++ two.behind) j e.0 e.1,
          e.2,
          subst (IsFrom firsts) e.2 (woven_from firsts one.before
              one.first j e.0 e.1),
        ));
        later = λ j t at. (let e = mapped_at two.behind j t at in
            let long = mapped_long one.before in
            let middle_long : length middle ≡ length two.before = ap length (sym bare) ∙ mapped_long two.before in (
              e.0,
              (λ i. slice_get (all_are i) (long i + (middle_long i + j)))
                  ∙ at_right one.before (two.before ++ two.behind) (length one.before + (length two.before + j)) (length two.before + j) refl
                  ∙ at_right two.before two.behind (length two.before + j) j refl ∙ e.1,
              e.2,
              subst (IsFrom lasts) e.2 (woven_from lasts two.behind two.second j e.0 e.1),
            ));
      }

-- ---- they alone are asked

module _ (line : ℕ → Line) (lim : ℕ → List Form) where
  abbrev loops_from : ℕ → List Turning → List NestLoop
  loops_from n ts = loops_in (lines_of line lim n ts)

  abbrev loop_at : ℕ → Turning → NestLoop
  loop_at s t = record { symbol = s; span = span t.low t.last (lim s) }

  loops_more : (n : ℕ) (xs ys : List Turning) → loops_from n (xs ++ ys) ≡ loops_from n xs ++ loops_from (n + length xs) ys
  loops_more n [] ys = (let none : n ≡ n + 0 = omega arith in ap (λ (m : ℕ). loops_from m ys) none)
  loops_more n (x ∷ xs) ys =
      let next : (n + 1) + length xs ≡ n + suc (length xs) = omega arith in
      of (line n) (loops_more (n + 1) xs ys ∙ ap (λ (m : ℕ). loops_from (n + 1) xs ++ loops_from m ys) next)
    where
      of : (l : Line) → loops_from (n + 1) (xs ++ ys) ≡ loops_from (n + 1) xs ++ loops_from (n + suc (length xs)) ys →
          loops_in (line_turns l n x (lim n) (lines_of line lim (n + 1) (xs ++ ys))) ≡ loops_in (line_turns l n x (lim n) (lines_of line lim (n + 1) xs)) ++ loops_from (n + suc (length xs)) ys
      of Loop h = ap (λ (ls : List NestLoop). loop_at n x ∷ ls) h
      of (Block f z) h = h
      of (Pair f z) h = h

  filter_more : (Q : NestLoop → Bool) (xs ys : List NestLoop) → filter Q (xs ++ ys) ≡ filter Q xs ++ filter Q ys
  filter_more Q [] ys = refl
  filter_more Q (x ∷ xs) ys = of (Q x) (filter_more Q xs ys)
    where
      of : (b : Bool) → filter Q (xs ++ ys) ≡ filter Q xs ++ filter Q ys → (if b then x ∷ filter Q (xs ++ ys) else filter Q (xs ++ ys)) ≡ (if b then x ∷ filter Q xs else filter Q xs) ++ filter Q ys
      of true h = ap (λ (ls : List NestLoop). x ∷ ls) h
      of false h = h

  module _ (Q : NestLoop → Bool) where
    none_asked : (n : ℕ) (ts : List Turning) → ((j : ℕ) (t : Turning) → slice_get ts j ≡ Some t → is_loop (line (n + j)) ≡ true → Q (loop_at (n + j) t) ≡ false) → filter Q (loops_from n ts) ≡ []
    none_asked n [] h = refl
    none_asked n (t ∷ ts) h =
        let none : n + 0 ≡ n = omega arith in
        let rest = none_asked (n + 1) ts (λ j u at. let next : n + suc j ≡ (n + 1) + j = omega arith in
        subst (λ (m : ℕ). is_loop (line m) ≡ true → Q (loop_at m u) ≡ false) next (h (suc j) u at)) in
        of (line n) (subst (λ (m : ℕ). is_loop (line m) ≡ true → Q (loop_at m t) ≡ false) none (h 0 t refl)) rest
      where
        of : (l : Line) → (is_loop l ≡ true → Q (loop_at n t) ≡ false) → filter Q (loops_from (n + 1) ts) ≡ [] → filter Q (loops_in (line_turns l n t (lim n) (lines_of line lim (n + 1) ts))) ≡ []
        of Loop here rest = (let no = here refl in λ j. if no j then loop_at n t ∷ filter Q (loops_from (n + 1) ts) else rest j)
        of (Block f z) here rest = rest
        of (Pair f z) here rest = rest

    all_asked : (n : ℕ) (ts : List Turning) → ((j : ℕ) (t : Turning) → slice_get ts j ≡ Some t → (line (n + j) ≡ Loop) × (Q (loop_at (n + j) t) ≡ true)) → filter Q (loops_from n ts) ≡
        limited_loops lim n ts
    all_asked n [] h = refl
    all_asked n (t ∷ ts) h =
        let none : n + 0 ≡ n = omega arith in
        let here = subst (λ (m : ℕ). (line m ≡ Loop) × (Q (loop_at m t) ≡ true)) none (h 0 t refl) in
        let rest = all_asked (n + 1) ts (λ j u at. let next : n + suc j ≡ (n + 1) + j = omega arith in
        subst (λ (m : ℕ). (line m ≡ Loop) × (Q (loop_at m u) ≡ true)) next (h (suc j) u at)) in
        ap (λ (l : Line). filter Q (loops_in (line_turns l n t (lim n) (lines_of line lim (n + 1) ts)))) here.0
        ∙ (let meant = here.1 in λ j. if meant j then loop_at n t ∷ rest j else rest j)

    -- of all loops those of the middle
    pub asked : (n : ℕ) (ts before middle behind : List Turning) → ts ≡ before ++ (middle ++ behind) →
        ((j : ℕ) (t : Turning) → slice_get middle j ≡ Some t → (line (n + (length before + j)) ≡ Loop) × (Q (loop_at (n + (length before + j)) t) ≡ true)) →
        ((j : ℕ) (t : Turning) → slice_get before j ≡ Some t → is_loop (line (n + j)) ≡ true → Q (loop_at (n + j) t) ≡ false) →
        ((j : ℕ) (t : Turning) → slice_get behind j ≡ Some t → is_loop (line (n + (length before + (length middle + j)))) ≡ true → Q (loop_at (n + (length before + (length middle + j))) t) ≡ false) →
        filter Q (loops_from n ts) ≡ limited_loops lim (n + length before) middle
    asked n ts before middle behind are meant first last =
        let m = n + length before in
        let one = loops_more n before (middle ++ behind) in
        let two = loops_more m middle behind in
        let none_first = none_asked n before first in
        let all_middle = all_asked m middle (λ j t at. let place : n + (length before + j) ≡ (n + length before) + j = omega arith in
        subst (λ (k : ℕ). (line k ≡ Loop) × (Q (loop_at k t) ≡ true)) place (meant j t at)) in
        let none_last = none_asked (m + length middle) behind (λ j t at. let place : n + (length before + (length middle + j)) ≡ ((n + length before) + length middle) + j = omega arith in
        subst (λ (k : ℕ). is_loop (line k) ≡ true → Q (loop_at k t) ≡ false) place (last j t at)) in
        ap (λ (us : List Turning). filter Q (loops_from n us)) are ∙ ap (filter Q) one ∙ filter_more Q (loops_from n before) (loops_from m (middle ++ behind))
        ∙ (λ j. none_first j ++ filter Q (two j)) ∙ filter_more Q (loops_from m middle) (loops_from (m + length middle) behind)
        ∙ (λ j. all_middle j ++ none_last j) ∙ no_more (limited_loops lim m middle)
      where
        no_more : (ys : List NestLoop) → ys ++ [] ≡ ys
        no_more [] = refl
        no_more (y ∷ ys) = ap (λ (zs : List NestLoop). y ∷ zs) (no_more ys)

  -- and these run over the ranges, in order
  pub reduced : (n : ℕ) (ts before behind : List Turning) (ds : List Range) (over : List Coordinate) (rules : Rules) → rules.at_most ≡ shown_at_most → (bs : List Binder) →
      ((y : List ℕ) → hits turn_name y ts ≤ 1) → ts ≡ before ++ (reverse (map range_turning ds) ++ behind) → ReadsIf n ts over (map range_name ds) →
      ((j : ℕ) (t : Turning) → slice_get (reverse (map range_turning ds)) j ≡ Some t → (line (n + (length before + j)) ≡ Loop) × (lim (n + (length before + j)) ≡ [])
      × (is_among_loops over (loop_at (n + (length before + j)) t) ≡ true)) →
      ((j : ℕ) (t : Turning) → slice_get before j ≡ Some t → is_loop (line (n + j)) ≡ true → is_among_loops over (loop_at (n + j) t) ≡ false) →
      ((j : ℕ) (t : Turning) → slice_get behind j ≡ Some t → is_loop (line (n + (length before + (length (reverse (map range_turning ds)) + j)))) ≡ true →
      is_among_loops over (loop_at (n + (length before + (length (reverse (map range_turning ds)) + j))) t) ≡ false) → AllByRecursion IsNearTurn (reverse (map range_turning ds)) →
      is_reduced rules bs (Some ds) over (loops_from n ts) ≡ true
  reduced n ts before behind ds over rules bound bs few are reads meant first last near =
      let middle = reverse (map range_turning ds) in
      ap (λ (us : List NestLoop). are_whole_loops rules bs us (reverse over) (reverse ds))
      (asked (is_among_loops over) n ts before middle behind are (λ j t at. let r = meant j t at in (r.0, r.2)) first last)
      ∙ whole_all lim n ts few rules bound bs (length before) middle (reverse over) (reverse ds)
      (λ j t at. ap (λ (us : List Turning). slice_get us (length before + j)) are ∙ at_right before (middle ++ behind) (length before + j) j refl ∙ at_left middle behind j t at)
      (λ j t at. (meant j t at).1) near (along_back n ts (map range_turning ds) over ds (along_ranges n ts ds over reads))
