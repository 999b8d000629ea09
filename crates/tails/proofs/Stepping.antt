-- Each point takes the steps of an update over split loops in their order.
use Rattle.std.proofs.Common.{◌≡◌, ℕ, suc, ◌+◌, ◌*◌, Bool, true, false, List, [], ◌∷◌, ◌++◌, map, length, refl, sym, ap, ◌∙◌, subst, inl, inr, append_assoc, arith}
use Rattle.std.specs.Prelude.{ℤ, pos, ◌+ℤ◌, ◌-ℤ◌, ◌≤ℤ◌, ◌<ℤ◌, ◌==◌, ◌&&◌, not, if◌then◌else◌, ◌⊎◌, IsTrue, int_le, filter, reverse, flat_map, unsigned_abs}
use Rattle.std.specs.List.{list_any, list_all}
use Rattle.std.proofs.lemmas.Int.{ints}
use Rattle.std.proofs.lemmas.List.{reverse-reverse, append-nil}
use Rattle.tree.specs.Term.{Term}
use Rattle.lin.specs.Forms.{Form}
use Rattle.lin.specs.declared.span.Span1.{Span1}
use Rattle.meaning.specs.Algorithm.{Range}
use Rattle.meaning.specs.Points.{AreRanges, IsIn}
use Rattle.meaning.specs.Reduction.{width, size, rank}
use Rattle.plan.specs.declared.stmt.Kind.{Kind}
use Rattle.plan.specs.declared.stmt.Pick.{Pick}
use Rattle.plan.specs.Plan.{Coordinate}
use Rattle.plan.specs.Symbols.{Symbols, bind, form_value, rising, largest, turns}
use Rattle.plan.specs.Semantics.Actions.{Action, Change, fixed, target}
use Rattle.soundness.specs.Origins.{Given, matches}
use Rattle.soundness.specs.Claims.{In}
use Rattle.soundness.specs.Obligations.{Binder, Ranged, Picked, Passed, Rules, picked}
use Rattle.soundness.specs.Nests.Nest.{Loop, is_symbol}
use Rattle.soundness.specs.Nests.Tests.{has_ends, is_among, is_whole, are_whole}
use Rattle.soundness.proofs.Forms.{is_not}
use Rattle.soundness.proofs.Refines.{and_parts, eq_refl, eq_true}
use Rattle.soundness.proofs.Sound.{or_left, or_right}
use Rattle.tails.specs.Steps.{Step, Turns, Named, Tested, binder, binds, Keeps}
use Rattle.tails.specs.Moves.{is_outer}
use Rattle.tails.specs.Maps.{visited, is_beyond, is_new, is_scoped, is_once}
use Rattle.tails.specs.Laws.{point_at, AreDistinct}
use Rattle.tails.specs.Turns.{done_at}
use Rattle.tails.specs.Apart.{is_apart}
use Rattle.tails.specs.Updates.{loops_in, reducing, pure_steps, forms_in, at_forms}
use Rattle.tails.proofs.Counting.{Takes, Passes, counted, takes_append, takes_turns, passes_turns}
use Rattle.tails.proofs.Distinct.{scoped_rest, keeps_more, once_is_distinct}
use Rattle.tails.proofs.Reducing.{never, symbol_value, meets, unmet, turns_same, visited_same, whole_turns, reverse_next, ranges_reverse, size_reverse, next_rank, no_way, whole_way, steps_first, steps_last}
use Rattle.tails.proofs.Taken.{Sure, sure_turns, sure_if, in_or}
use Rattle.tails.proofs.Values.{bind_beside, bind_here}

dec_eq : (m n : ℕ) → (m ≡ n) ⊎ (m ≡ n → ⊥)
dec_eq m n = of (m == n) refl
  where
    of : (v : Bool) → (m == n) ≡ v → (m ≡ n) ⊎ (m ≡ n → ⊥)
    of true e = inl (eq_true m n e)
    of false e = inr (λ same. never (sym e ∙ ap (λ j. m == j) (sym same) ∙ eq_refl m))

module _ (given : Given) (b c : ℕ) (f : List ℕ) (k : ℕ) (ds : List Range) (names : List (List ℕ)) (left over : List Coordinate) (e : Term) (act : Symbols → List Action) where
  -- the store at each turn, and what is counted
  pub record IsUpdate : Type 0 where
    pub own : (c == b) ≡ true
    pub turn : (s : Symbols) → act s ≡ Change c f (suc k) names (map (target s) left) (map (λ x. fixed (target s x)) over) e ∷ []
    pub ranges : AreRanges ds
    pub inside : (z : List ℤ) → IsIn ds z → IsTrue (given.in_domain f (suc k) z)
    pub step : (z : List ℤ) → IsIn ds z → given.step_at f (suc k) z ≡ given.steps f k + rank ds z

  abbrev fs : List Form
  fs = forms_in left

  module _ (is : IsUpdate) (rules : Rules) (bs : List Binder) (t : Symbols) (ordered : (x y : Form) → rules.at_most bs x y ≡ true → form_value x t ≤ℤ form_value y t) (all : List Step) (p : List ℤ) where
    -- the loops of the reduction
    abbrev apart_from : List Binder
    apart_from = map binder (reducing over all)

    abbrev T : ℕ → List Action → ℕ → Type 0
    T = Takes given b p

    abbrev base : ℕ
    base = given.steps f k

    -- the numbers of the point at the forms
    abbrev q : List ℤ
    q = at_forms left p

    missed : (s : Symbols) → matches (map (target s) left) p ≡ false → Passes given b p (act s)
    missed s h n = subst (λ xs. T n xs n) (sym (is.turn s)) (n, inr (none (c == b) (matches (map (target s) left) p) h, refl), refl)
      where
        none : (v w : Bool) → w ≡ false → (v && w) ≡ false
        none true w k = k
        none false w k = refl

    -- a point of another number of coordinates is not met
    strange : (length left ≡ length p → ⊥) → (steps : List Step) (s : Symbols) → Passes given b p (done_at act steps s)
    strange h [] s = missed s (unmet s left p (λ met. h met.0))
    strange h (Turns i x kind ∷ steps) s = each (turns s x) (λ z. strange h steps (bind s i z (int_le z (largest s x.lower))))
      where
        each : (zs : List ℤ) → ((z : ℤ) → Passes given b p (done_at act steps (bind s i z (int_le z (largest s x.lower))))) → Passes given b p (flat_map (λ z. done_at act steps (bind s i z (int_le z (largest s x.lower)))) zs)
        each [] rest = λ n. refl
        each (z ∷ zs) rest = λ n.
            takes_append given b p n n n (done_at act steps (bind s i z (int_le z (largest s x.lower)))) (flat_map (λ z. done_at act steps (bind s i z (int_le z (largest s x.lower)))) zs) (rest z n) (each zs rest n)
    strange h (Named i pick ls ∷ steps) s = strange h steps (bind s i (picked pick ls s) true)
    strange h (Tested low high ∷ steps) s = either (int_le (form_value low s) (form_value high s)) (strange h steps s)
      where
        either : (v : Bool) → Passes given b p (done_at act steps s) → Passes given b p (if v then done_at act steps s else [])
        either true g = g
        either false g = λ n. refl

    -- where the steps stand: those to come, apart into the pure ones and those of the reduction, and what is passed
    record Way (steps ps qs : List Step) (ls : List Loop) (rcs : List Coordinate) (rds : List Range) (pcs : List Coordinate) (pds : List Range) (vs : List ℤ) (s : Symbols) : Type 0 where
      pub scoped : is_scoped (map binder steps) ≡ true
      pub beyond : list_all (is_beyond (map binder all)) (map binder qs) ≡ true
      pub apart : list_all (is_apart apart_from) (map binder ps) ≡ true
      pub among : (j : ℕ) → list_any (binds j) apart_from ≡ false → list_any (binds j) (map binder qs) ≡ false
      pub stays : (u : Symbols) → Keeps (map binder steps) s u → Keeps (map binder all) t u
      pub passed : (u : Symbols) → Keeps (map binder steps) s u → map (λ x. fixed (target u x)) pcs ≡ vs
      pub distinct : AreDistinct (visited ps fs s)
      pub whole : are_whole rules bs ls rcs rds ≡ true
      pub ranges : AreRanges rds
      pub is_in : IsIn pds vs
      pub coordinates : reverse rcs ++ pcs ≡ over
      pub domain : reverse rds ++ pds ≡ ds

    -- where the pure steps visit the point all its steps of the passed number are done, and else none
    abbrev Done : List Range → List Range → List ℤ → List (List ℤ) → List Action → Type 0
    Done rds pds vs points todo =
        Sure (Passes given b p) (λ xs. T (base + rank pds vs * size rds) xs (base + (rank pds vs + 1) * size rds))
        (counted given b p (base + rank pds vs * size rds) (base + (rank pds vs + 1) * size rds)) q points todo

    abbrev Does : List Step → Type 0
    Does steps =
        (rcs : List Coordinate) (rds : List Range) (pcs : List Coordinate) (pds : List Range) (vs : List ℤ) (s : Symbols) →
        Way steps (pure_steps over steps) (reducing over steps) (filter (is_among over) (loops_in steps)) rcs rds pcs pds vs s → Done rds pds vs (visited (pure_steps over steps) fs s) (done_at act steps s)

    module _ (many : length left ≡ length p) (outer : list_all (is_outer apart_from) fs ≡ true) where
      does_store : Does []
      does_store [] [] pcs pds vs s w = ((λ m. elim m [ inl same ↦ met same | inr none ↦ absurd none ]), λ n. missed s (unmet s left p (λ both. n (inl (sym both.1)))))
        where
          cs : pcs ≡ over
          cs = w.coordinates

          qs : pds ≡ ds
          qs = w.domain

          values : map (λ x. fixed (target s x)) over ≡ vs
          values = subst (λ xs. map (λ x. fixed (target s x)) xs ≡ vs) cs (w.passed s (λ i h. refl))

          inside : IsIn ds vs
          inside = subst (λ xs. IsIn xs vs) qs w.is_in

          step : given.step_at f (suc k) vs ≡ base + rank pds vs * 1
          step = is.step vs inside ∙ ap (λ xs. base + rank xs vs) (sym qs) ∙ (let one : base + rank pds vs ≡ base + rank pds vs * 1 = omega arith in one)

          more : (base + rank pds vs * 1) + 1 ≡ base + (rank pds vs + 1) * 1
          more = omega arith

          met : q ≡ point_at fs s → T (base + rank pds vs * 1) (act s) (base + (rank pds vs + 1) * 1)
          met same =
              subst (λ xs. T (base + rank pds vs * 1) xs (base + (rank pds vs + 1) * 1)) (sym (is.turn s)) (
                (base + rank pds vs * 1) + 1,
                inl (
                  ap (λ v. v && matches (map (target s) left) p) is.own ∙ meets s left p many (sym same),
                  subst (λ zs. IsTrue (given.in_domain f (suc k) zs)) (sym values) (is.inside vs inside),
                  ap (given.step_at f (suc k)) values ∙ step,
                  refl,
                ),
                more,
              )
      does_store [] (d ∷ rds) pcs pds vs s w = never w.whole
      does_store (x ∷ rcs) rds pcs pds vs s w = never w.whole

      module _ (i : ℕ) (x : Span1) (kind : Kind) (steps : List Step) (rest : Does steps) where
        abbrev ps : List Step
        ps = pure_steps over steps

        abbrev rs : List Step
        rs = reducing over steps

        abbrev ls : List Loop
        ls = filter (is_among over) (loops_in steps)

        abbrev loop : Loop
        loop = record { symbol = i; span = x }

        abbrev at : Symbols → ℤ → Symbols
        at s z = bind s i z (int_le z (largest s x.lower))

        abbrev turn : Symbols → ℤ → List Action
        turn s z = done_at act steps (at s z)

        more : (s u : Symbols) (z : ℤ) → Keeps (map binder steps) (at s z) u → Keeps (map binder (Turns i x kind ∷ steps)) s u
        more s u z h = keeps_more (Ranged i x) (map binder steps) i s u z (int_le z (largest s x.lower)) (λ j. refl) h

        does_reduced : (rcs : List Coordinate) (rds : List Range) (pcs : List Coordinate) (pds : List Range) (vs : List ℤ) (s : Symbols) →
            Way (Turns i x kind ∷ steps) ps (Turns i x kind ∷ rs) (loop ∷ ls) rcs rds pcs pds vs s → Done rds pds vs (visited ps fs s) (flat_map (turn s) (turns s x))
        does_reduced [] rds pcs pds vs s w = never w.whole
        does_reduced (y ∷ rcs) [] pcs pds vs s w = never w.whole
        does_reduced (y ∷ rcs) (d ∷ rds) pcs pds vs s w = (takes, passes)
          where
            h : (is_symbol i y ≡ true) × ((is_whole rules bs x d && are_whole rules bs ls rcs rds) ≡ true)
            h = and_parts (is_symbol i y) (is_whole rules bs x d && are_whole rules bs ls rcs rds) w.whole

            g : (is_whole rules bs x d ≡ true) × (are_whole rules bs ls rcs rds ≡ true)
            g = and_parts (is_whole rules bs x d) (are_whole rules bs ls rcs rds) h.1

            rises : d.low ≤ℤ d.high
            rises = w.ranges.0

            n : ℕ
            n = width d

            rk : ℕ
            rk = rank pds vs

            m : ℕ
            m = size rds

            new : (is_new (map binder steps) (Ranged i x) ≡ true) × (is_scoped (map binder steps) ≡ true)
            new = and_parts (is_new (map binder steps) (Ranged i x)) (is_scoped (map binder steps))
                (and_parts (is_beyond (Ranged i x ∷ map binder steps) (Ranged i x)) (is_new (map binder steps) (Ranged i x) && is_scoped (map binder steps)) w.scoped).1

            beyond : (is_beyond (map binder all) (Ranged i x) ≡ true) × (list_all (is_beyond (map binder all)) (map binder rs) ≡ true)
            beyond = and_parts (is_beyond (map binder all) (Ranged i x)) (list_all (is_beyond (map binder all)) (map binder rs)) w.beyond

            ends : (has_ends x ≡ true) × ((list_all (is_outer (map binder all)) x.lower && list_all (is_outer (map binder all)) x.upper) ≡ true)
            ends = and_parts (has_ends x) (list_all (is_outer (map binder all)) x.lower && list_all (is_outer (map binder all)) x.upper) beyond.0

            outers : (list_all (is_outer (map binder all)) x.lower ≡ true) × (list_all (is_outer (map binder all)) x.upper ≡ true)
            outers = and_parts (list_all (is_outer (map binder all)) x.lower) (list_all (is_outer (map binder all)) x.upper) ends.1

            spin : turns s x ≡ rising d.low n
            spin = turns_same (map binder all) t s (w.stays s (λ j k. refl)) x outers.0 outers.1 ∙ whole_turns rules bs t ordered x d ends.0 g.0 rises

            same : (z : ℤ) → visited ps fs (at s z) ≡ visited ps fs s
            same z =
                visited_same apart_from ps fs s (at s z)
                (λ j k. bind_beside s i z (int_le z (largest s x.lower)) j (or_left (j == i) (list_any (binds j) (map binder rs)) (w.among j k))) w.apart outer

            way : (z : ℤ) → d.low ≤ℤ z → z <ℤ (d.low +ℤ pos n) → Way steps ps rs ls rcs rds (y ∷ pcs) (d ∷ pds) (z ∷ vs) (at s z)
            way z low high = record {
              scoped = new.1;
              beyond = beyond.1;
              apart = w.apart;
              among = λ j k. or_right (j == i) (list_any (binds j) (map binder rs)) (w.among j k);
              stays = λ u k. w.stays u (more s u z k);
              passed = λ u k.
                  let here : fixed (target u y) ≡ z = symbol_value u i y h.0 ∙ k i (is_not (list_any (binds i) (map binder steps)) new.0) ∙ bind_here s i z (int_le z (largest s x.lower)) in
                  let back = w.passed u (more s u z k) in
                  λ j. here j ∷ back j;
              distinct = subst AreDistinct (sym (same z)) w.distinct;
              whole = g.1;
              ranges = w.ranges.1;
              is_in = (low, omega (arith, ints, low, high, rises), w.is_in);
              coordinates = sym (append_assoc (reverse rcs) (y ∷ []) pcs) ∙ ap (λ xs. xs ++ pcs) (sym (reverse_next y rcs)) ∙ w.coordinates;
              domain = sym (append_assoc (reverse rds) (d ∷ []) pds) ∙ ap (λ xs. xs ++ pds) (sym (reverse_next d rds)) ∙ w.domain;
            }

            done : (z : ℤ) → d.low ≤ℤ z → z <ℤ (d.low +ℤ pos n) → Done rds (d ∷ pds) (z ∷ vs) (visited ps fs (at s z)) (turn s z)
            done z low high = rest rcs rds (y ∷ pcs) (d ∷ pds) (z ∷ vs) (at s z) (way z low high)

            begin : ℤ → ℕ
            begin z = base + (unsigned_abs (z -ℤ d.low) + n * rk) * m

            takes : In q (visited ps fs s) → T (base + rk * (n * m)) (flat_map (turn s) (turns s x)) (base + (rk + 1) * (n * m))
            takes visit =
                let all_turns = takes_turns given b p begin (turn s) n d.low
                (λ z low high. subst (T (begin z) (turn s z)) (ap (λ j. base + j * m) (sym (next_rank z d.low (n * rk) low))) ((done z low high).0 (subst (In q) (sym (same z)) visit))) in
                let first : begin d.low ≡ base + rk * (n * m) = ap (λ j. base + (j + n * rk) * m) (no_way d.low) ∙ steps_first base n rk m in
                let last : begin (d.low +ℤ pos n) ≡ base + (rk + 1) * (n * m) = ap (λ j. base + (j + n * rk) * m) (whole_way d.low n) ∙ steps_last base n rk m in
                subst (λ j. T j (flat_map (turn s) (turns s x)) (base + (rk + 1) * (n * m))) first
                (subst (λ j. T (begin d.low) (flat_map (turn s) (turns s x)) j) last (subst (λ zs. T (begin d.low) (flat_map (turn s) zs) (begin (d.low +ℤ pos n))) (sym spin) all_turns))

            passes : (In q (visited ps fs s) → ⊥) → Passes given b p (flat_map (turn s) (turns s x))
            passes none =
                subst (λ zs. Passes given b p (flat_map (turn s) zs)) (sym spin)
                (passes_turns given b p (turn s) n d.low (λ z low high. (done z low high).1 (λ visit. none (subst (In q) (same z) visit))))

        does_pure : (rcs : List Coordinate) (rds : List Range) (pcs : List Coordinate) (pds : List Range) (vs : List ℤ) (s : Symbols) →
            Way (Turns i x kind ∷ steps) (Turns i x kind ∷ ps) rs ls rcs rds pcs pds vs s → Done rds pds vs (visited (Turns i x kind ∷ ps) fs s) (flat_map (turn s) (turns s x))
        does_pure rcs rds pcs pds vs s w =
            let start = base + rank pds vs * size rds in
            let end = base + (rank pds vs + 1) * size rds in
            sure_turns (Passes given b p) (λ xs. T start xs end) (counted given b p start end) q (λ z. visited ps fs (at s z)) (turn s) (turns s x) w.distinct
            (λ z m distinct. rest rcs rds pcs pds vs (at s z) (record {
              scoped = scoped_rest (Ranged i x) (map binder steps) w.scoped;
              beyond = w.beyond;
              apart = (and_parts (is_apart apart_from (Ranged i x)) (list_all (is_apart apart_from) (map binder ps)) w.apart).1;
              among = w.among;
              stays = λ u k. w.stays u (more s u z k);
              passed = λ u k. w.passed u (more s u z k);
              distinct = distinct;
              whole = w.whole;
              ranges = w.ranges;
              is_in = w.is_in;
              coordinates = w.coordinates;
              domain = w.domain;
            }))

        does_loop : (v : Bool) (rcs : List Coordinate) (rds : List Range) (pcs : List Coordinate) (pds : List Range) (vs : List ℤ) (s : Symbols) →
            Way (Turns i x kind ∷ steps) (if not v then Turns i x kind ∷ ps else ps) (if v then Turns i x kind ∷ rs else rs) (if v then loop ∷ ls else ls) rcs rds pcs pds vs s →
            Done rds pds vs (visited (if not v then Turns i x kind ∷ ps else ps) fs s) (flat_map (turn s) (turns s x))
        does_loop true = does_reduced
        does_loop false = does_pure

      does_let : (i : ℕ) (pick : Pick) (ls : List Form) (steps : List Step) → Does steps → Does (Named i pick ls ∷ steps)
      does_let i pick ls steps rest rcs rds pcs pds vs s w =
          let z = picked pick ls s in
          let more : (u : Symbols) → Keeps (map binder steps) (bind s i z true) u → Keeps (map binder (Named i pick ls ∷ steps)) s u = λ u k. keeps_more (Picked i pick ls) (map binder steps) i s u z true (λ j. refl) k in
          rest rcs rds pcs pds vs (bind s i z true) (record {
            scoped = scoped_rest (Picked i pick ls) (map binder steps) w.scoped;
            beyond = w.beyond;
            apart = (and_parts (is_apart apart_from (Picked i pick ls)) (list_all (is_apart apart_from) (map binder (pure_steps over steps))) w.apart).1;
            among = w.among;
            stays = λ u k. w.stays u (more u k);
            passed = λ u k. w.passed u (more u k);
            distinct = w.distinct;
            whole = w.whole;
            ranges = w.ranges;
            is_in = w.is_in;
            coordinates = w.coordinates;
            domain = w.domain;
          })

      does_guard : (low high : Form) (steps : List Step) → Does steps → Does (Tested low high ∷ steps)
      does_guard low high steps rest rcs rds pcs pds vs s w =
          let start = base + rank pds vs * size rds in
          let end = base + (rank pds vs + 1) * size rds in
          sure_if (Passes given b p) (λ xs. T start xs end) (counted given b p start end) q (int_le (form_value low s) (form_value high s)) (visited (pure_steps over steps) fs s) (done_at act steps s)
          (λ v distinct. rest rcs rds pcs pds vs s (record {
            scoped = scoped_rest (Passed low high) (map binder steps) w.scoped;
            beyond = w.beyond;
            apart = (and_parts (is_apart apart_from (Passed low high)) (list_all (is_apart apart_from) (map binder (pure_steps over steps))) w.apart).1;
            among = w.among;
            stays = w.stays;
            passed = w.passed;
            distinct = distinct;
            whole = w.whole;
            ranges = w.ranges;
            is_in = w.is_in;
            coordinates = w.coordinates;
            domain = w.domain;
          })) w.distinct

      does : (steps : List Step) → Does steps
      does [] = does_store
      does (Turns i x kind ∷ steps) = λ rcs rds pcs pds vs s w. does_loop i x kind steps (does steps) (list_any (is_symbol i) over) rcs rds pcs pds vs s w
      does (Named i pick ls ∷ steps) = does_let i pick ls steps (does steps)
      does (Tested low high ∷ steps) = does_guard low high steps (does steps)

    -- what is tested of all steps
    pub record AreParted : Type 0 where
      pub scoped : is_scoped (map binder all) ≡ true
      pub beyond : list_all (is_beyond (map binder all)) apart_from ≡ true
      pub apart : list_all (is_apart apart_from) (map binder (pure_steps over all)) ≡ true
      pub outer : list_all (is_outer apart_from) fs ≡ true
      pub once : is_once (pure_steps over all) fs ≡ true
      pub whole : are_whole rules bs (filter (is_among over) (loops_in all)) (reverse over) (reverse ds) ≡ true

    all_done : AreParted → length left ≡ length p → (In q (visited (pure_steps over all) fs t) → T base (done_at act all t) (base + size ds)) × ((In q (visited (pure_steps over all) fs t) → ⊥) → Passes given b p (done_at act all t))
    all_done parted many =
        let way : Way all (pure_steps over all) (reducing over all) (filter (is_among over) (loops_in all)) (reverse over) (reverse ds) [] [] [] t = record {
          scoped = parted.scoped;
          beyond = parted.beyond;
          apart = parted.apart;
          among = λ j h. h;
          stays = λ u h. h;
          passed = λ u h. refl;
          distinct = once_is_distinct (pure_steps over all) fs t parted.once;
          whole = parted.whole;
          ranges = ranges_reverse ds is.ranges;
          is_in = tt;
          coordinates = append-nil (reverse (reverse over)) ∙ reverse-reverse over;
          domain = append-nil (reverse (reverse ds)) ∙ reverse-reverse ds;
        } in
        let first : base + 0 * size (reverse ds) ≡ base = omega arith in
        let last : base + (0 + 1) * size (reverse ds) ≡ base + size ds = (let one : base + (0 + 1) * size (reverse ds) ≡ base + size (reverse ds) = omega arith in one) ∙ ap (λ n. base + n) (size_reverse ds) in
        let done = does many parted.outer all (reverse over) (reverse ds) [] [] [] t way in (
          λ m. subst (λ n. T n (done_at act all t) (base + size ds)) first (subst (λ n. T (base + 0 * size (reverse ds)) (done_at act all t) n) last (done.0 m)),
          done.1,
        )

    -- a point that the pure steps visit takes all steps of the definition
    pub takes_all : AreParted → length left ≡ length p → In q (visited (pure_steps over all) fs t) → T base (done_at act all t) (base + size ds)
    takes_all parted many = (all_done parted many).0

    -- each point takes all steps or none
    pub takes_some : AreParted → (n : ℕ) × T base (done_at act all t) n
    takes_some parted = of (dec_eq (length left) (length p))
      where
        visit : length left ≡ length p → In q (visited (pure_steps over all) fs t) ⊎ (In q (visited (pure_steps over all) fs t) → ⊥) → (n : ℕ) × T base (done_at act all t) n
        visit many (inl m) = (base + size ds, (all_done parted many).0 m)
        visit many (inr m) = (base, (all_done parted many).1 m base)

        of : (length left ≡ length p) ⊎ (length left ≡ length p → ⊥) → (n : ℕ) × T base (done_at act all t) n
        of (inl many) = visit many (in_or q (visited (pure_steps over all) fs t))
        of (inr other) = (base, strange other all t base)
