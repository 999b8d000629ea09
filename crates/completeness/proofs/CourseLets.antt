-- What the let of a shifted block, and one behind a guard, come to in the coordinate that they open.
use Rattle.std.proofs.Common.{◌≡◌, ℕ, Bool, true, false, ◌&&◌, ◌||◌, not, List, [], ◌∷◌, Option, Some, None, refl, sym, ap, ◌∙◌, inl, inr, ◌⊎◌}
use Rattle.std.specs.Prelude.{ℤ, pos, ◌+ℤ◌, ◌==◌, if◌then◌else◌, option_and_then}
use Rattle.lin.specs.Forms.{Form, number, factor_of, without, combined}
use Rattle.lin.specs.declared.span.Span1.{Span1}
use Rattle.plan.specs.declared.stmt.Pick.TheVariants.{Min}
use Rattle.soundness.specs.Claims.{In}
use Rattle.soundness.specs.Obligations.{exactly, form_has}
use Rattle.soundness.proofs.Refines.{eq_refl, eq_true}
use Rattle.sched.specs.Standing.{alone}
use Rattle.tails.specs.Moves.{joined, single, only, not_naming, each_replaced, is_positive, are_blocks, over_turns, span_from, over_loop, expanded, below}
use Rattle.completeness.proofs.PureNests.{all_from}
use Rattle.completeness.proofs.LoopMoves.{Item, is_lone, is_left, One}
use Rattle.completeness.proofs.TailSteps.{Line, is_loop}
use Rattle.completeness.proofs.BlockMoves.{same_now, kept_factor, Sums, is_gone, now, form_at, begins_so, in_left, of_all}
use Rattle.completeness.proofs.BlockCaps.{capped, no_more}
use Rattle.completeness.proofs.BestPicks.{IsOne}
use Rattle.completeness.proofs.Courses.{Course, Opened, opens, span_at, FitsCourse, OwnPair, OwnBlock, IsShifted, OpenerFits, CourseFits, AllFits, Stands}
use Rattle.completeness.proofs.CourseMoves.{strange_at, form_has_at, not_gone}

-- a symbol alone, with a form put in by a loop of one turn
module _ (exact : Bool) (shows : Form → Form → Bool) (s : ℕ) (h : Form) (z : ℤ) (itself : combined (number (pos 0)) (pos 1) h ≡ Some h) (room : combined (number (pos 0)) (pos 1) (number z)
    ≡ Some (number z)) where
  here : (s == s) ≡ true
  here = eq_refl s

  abbrev x : Span1
  x = record { lower = h ∷ []; upper = h ∷ number z ∷ [] }

  own_factor : factor_of (alone s).terms s ≡ pos 1
  own_factor = λ j. (if here j then pos 1 else pos 0) +ℤ pos 0

  bare : without (alone s) s ≡ number (pos 0)
  bare = λ j. record { constant = pos 0; terms = if not (here j) then record { symbol = s; factor = pos 1 } ∷ [] else [] }

  blocks : are_blocks exact shows (alone s) (pos 1) (alone s ∷ []) ≡ true
  blocks = (λ j. ((((here j && true) && true) && true) && true) && (if exact then (((here j && true) && true) && true) || false else true)) ∙ both exact
    where
      both : (b : Bool) → (if b then true else true) ≡ true
      both true = refl
      both false = refl

  lows : each_replaced (alone s) s (pos 1) (h ∷ []) ≡ Some (h ∷ [])
  lows = ap (λ (f : Form). joined (single (combined f (pos 1) h)) (Some [])) bare ∙ ap (λ (o : Option Form). joined (single o) (Some [])) itself

  ups : each_replaced (alone s) s (pos 1) (h ∷ number z ∷ []) ≡ Some (h ∷ number z ∷ [])
  ups =
      ap (λ (f : Form). joined (single (combined f (pos 1) h)) (joined (single (combined f (pos 1) (number z))) (Some []))) bare
      ∙ (λ j. joined (single (itself j)) (joined (single (room j)) (Some [])))

  pub over_alone : over_loop exact shows s x (exactly (alone s)) ≡ Some x
  over_alone =
      let named : form_has s (alone s) ≡ true = λ j. here j || false in
      ap (λ (b : Bool). option_and_then (λ f. over_turns exact shows s x (exactly (alone s)) f (factor_of f.terms s)) (only (if b then alone s ∷ [] else []))) named
      ∙ ap (λ (n : ℤ). over_turns exact shows s x (exactly (alone s)) (alone s) n) own_factor
      ∙ ap (λ (fs : List Form). if are_blocks exact shows (alone s) (pos 1) fs then option_and_then (λ last.
      span_from (joined (each_replaced (alone s) s (pos 1) (h ∷ [])) (Some (not_naming s (alone s ∷ [])))) (joined (each_replaced last s (pos 1) (h ∷ number z ∷ [])) (Some (not_naming s
      (alone s ∷ [])))))
      (Some (alone s)) else None) (λ j. if named j then alone s ∷ [] else [])
      ∙ (λ j. if blocks j then span_from (joined (each_replaced (alone s) s (pos 1) (h ∷ [])) (Some (if not (named j) then alone s ∷ [] else [])))
      (joined (each_replaced (alone s) s (pos 1) (h ∷ number z ∷ [])) (Some (if not (named j) then alone s ∷ [] else []))) else None)
      ∙ (λ j. span_from (joined (lows j) (Some [])) (joined (ups j) (Some [])))

module _ (line : ℕ → Line) (lim tops : ℕ → List Form) (factor : ℕ → ℤ) (cs : List Course) (all : List Item) (exact : Bool) (fit : AllFits line lim tops factor cs all exact)
    (ts : List Item) (stands : Stands line lim tops factor cs all ts) (p : One) (h : IsOne ts p) (shows : Form → Form → Bool)
    (let_line : is_loop (line p.one.symbol) ≡ false) (opener : OpenerFits line lim tops factor cs all exact p.one) where
  abbrev s : ℕ
  s = p.one.symbol

  abbrev at : Course → Span1
  at c = span_at line lim tops factor ts c

  abbrev after : Course → Span1
  after c = span_at line lim tops factor p.others c

  -- the loops that wait for it are left
  module _ (r : ℕ) (f : Form) (us : List Item) (g : Form) (vs : List Item) (c : List Item → List Form) (m : In (Opened r f us g vs c) cs) (own : (r == s) ≡ true) where
    symbol_is : r ≡ s
    symbol_is = eq_true r s own

    course : CourseFits line lim tops factor cs all (Opened r f us g vs c)
    course = of_all (CourseFits line lim tops factor cs all) cs (Opened r f us g vs c) fit.courses m

    pub waiting : (u : Item) → In u vs → is_left u.symbol us ≡ false → is_left u.symbol ts ≡ true
    waiting u mu out =
        let inside = course.3 u mu in
        let k = of_all (FitsCourse line lim tops factor cs all u) cs (Opened r f us g vs c) (fit.loops u inside.0 inside.1).fits m in
        stands.stay u p.one inside.0 inside.1 h.among (of k.3)
      where
        of : {A : Type 0} → ((is_left u.symbol us ≡ is_left u.symbol vs) × A) ⊎ ((is_left u.symbol us ≡ false) × ((w : Item) → In w all → opens line lim tops factor u.symbol w ≡ (w.symbol == r))) →
            opens line lim tops factor u.symbol p.one ≡ true
        of (inl q) = (let clash : true ≡ false = sym (in_left u vs mu) ∙ sym q.0 ∙ out in absurd (cc clash))
        of (inr q) = q.1 p.one (stands.sub p.one h.among) ∙ ap (λ (i : ℕ). s == i) symbol_is ∙ eq_refl s

    pub shut : is_left r ts ≡ true
    shut = ap (λ (i : ℕ). is_left i ts) symbol_is ∙ h.there

    pub unshut : is_left r p.others ≡ false
    unshut = ap (λ (i : ℕ). is_left i p.others) symbol_is ∙ h.loose

    -- no loop has its symbol
    pub unlike : (u : Item) → is_loop (line u.symbol) ≡ true → (s == u.symbol) ≡ false
    unlike u loop = of (s == u.symbol) refl
      where
        of : (b : Bool) → (s == u.symbol) ≡ b → (s == u.symbol) ≡ false
        of true e = (let clash : true ≡ false = sym loop ∙ ap (λ (i : ℕ). is_loop (line i)) (sym (eq_true s u.symbol e)) ∙ let_line in absurd (cc clash))
        of false e = e

    opened_after : after (Opened r f us g vs c) ≡ capped (now factor p.others (Sums g vs)) (c p.others)
    opened_after = λ j. capped (now factor p.others (if unshut j then Sums f us else Sums g vs)) (if unshut j then [] else c p.others)

    shut_at : at (Opened r f us g vs c) ≡ capped (now factor ts (Sums f us)) []
    shut_at = λ j. capped (now factor ts (if shut j then Sums f us else Sums g vs)) (if shut j then [] else c ts)

    uncapped : (y : Span1) → capped y [] ≡ y
    uncapped y = ap (λ (ws : List Form). record { lower = y.lower; upper = ws }) (no_more y.upper)

    -- a let behind a guard is a loop of one turn
    pub pair_moves : (k : Form) (z : ℤ) → OwnPair line lim tops factor cs all s k z (Opened r f us g vs c) →
        over_loop exact shows s (record { lower = k ∷ []; upper = k ∷ number z ∷ [] }) (at (Opened r f us g vs c)) ≡ Some (after (Opened r f us g vs c))
    pair_moves k z pair =
        let q = pair own in
        let form = q.0 in
        let none = q.1 in
        let whole = q.2 in
        let kept = q.3 p.others in
        let before : at (Opened r f us g vs c) ≡ exactly (alone s) =
        shut_at ∙ uncapped (now factor ts (Sums f us)) ∙ (λ j. now factor ts (Sums (form j) (none j))) ∙ sym (begins_so factor ts (alone s) [] tt) in
        let all_left = all_from (λ u. is_left u.symbol p.others ≡ true) vs (λ u mu.
        h.same u.symbol (unlike u (course.3 u mu).1) ∙ waiting u mu (ap (is_left u.symbol) none)) in
        let behind : after (Opened r f us g vs c) ≡ record { lower = k ∷ []; upper = k ∷ number z ∷ [] } =
        opened_after ∙ (λ j. capped (sym (begins_so factor p.others g vs all_left) j) (kept j)) ∙ ap (λ (v : Form). capped (exactly v) (number z ∷ [])) whole in
        ap (over_loop exact shows s (record { lower = k ∷ []; upper = k ∷ number z ∷ [] })) before ∙ over_alone exact shows s k z q.4 q.5 ∙ (λ j. Some (sym behind j))

    -- that of a shifted block is the smaller of two
    pub block_moves : (k : Form) (z : ℤ) → OwnBlock line lim tops factor cs all s k z (Opened r f us g vs c) → ((u : Item) → In u us → is_lone u ≡ false → is_left u.symbol ts ≡ false) →
        span_from (expanded exact shows s (below exact shows Min (k ∷ number z ∷ [])) (at (Opened r f us g vs c)).lower) (expanded exact shows s (k ∷ number z ∷ []) (at (Opened r f us g vs c)).upper)
        ≡ Some (after (Opened r f us g vs c))
    block_moves k z block gone =
        let q : IsShifted line lim tops factor cs all s k z f us g vs c = block own in
        let low = q.puts (λ u. u.low) (λ u m. inl refl) ts gone waiting in
        let last = q.puts (λ u. u.last) (λ u m. inr refl) ts gone waiting in
        let cap = q.keeps ts gone waiting in
        let top = cap.1 in
        let one = expanded_low (form_at factor (λ u. u.low) ts g vs) low in
        let two = expanded_last (form_at factor (λ u. u.last) ts g vs) cap.0 last top in
        let is = shut_at ∙ uncapped (now factor ts (Sums f us)) in
        let strange = strange_at line lim tops factor cs all exact fit ts stands p h shows let_line opener (Opened r f us g vs c) m in
        let same = same_now factor p ts h.same (Sums g vs) strange.1 in
        let kept = (course.4.same ts p h strange.0).0 ∙ cap.2 in
        ap (λ (y : Span1). span_from (expanded exact shows s (k ∷ []) y.lower) (expanded exact shows s (k ∷ number z ∷ []) y.upper)) is
        ∙ (λ j. span_from (one j) (two j)) ∙ (λ j. Some (capped (same j) (sym kept j))) ∙ (λ j. Some (sym opened_after j))
      where
        none : is_left s us ≡ false
        none = (strange_at line lim tops factor cs all exact fit ts stands p h shows let_line opener (Opened r f us g vs c) m).0

        has : (e : Item → ℤ) → form_has s (form_at factor e ts f us) ≡ true
        has e =
            let strange = strange_at line lim tops factor cs all exact fit ts stands p h shows let_line opener (Opened r f us g vs c) m in
            form_has_at line lim tops factor cs all exact fit ts stands p h shows let_line opener e f us none ∙ strange.2 ∙ own

        counts : (e : Item → ℤ) → factor_of (form_at factor e ts f us).terms s ≡ pos 1
        counts e =
            kept_factor (λ i. not (is_gone ts us i)) s (not_gone line lim tops factor cs all exact fit ts stands p h shows let_line opener us none) f.terms ∙ (block own).counts

        expanded_low : (d : Form) → combined (without (form_at factor (λ u. u.low) ts f us) s) (pos 1) k ≡ Some d →
            expanded exact shows s (k ∷ []) (form_at factor (λ u. u.low) ts f us ∷ []) ≡ Some (d ∷ [])
        expanded_low d comes =
            let there = has (λ u. u.low) in
            let times = counts (λ u. u.low) in
            let low : Form = form_at factor (λ u. u.low) ts f us in
            (λ j. if there j then (if is_positive (times j) then joined (each_replaced low s (times j) (k ∷ [])) (Some []) else None) else joined (Some (low ∷ [])) (Some []))
            ∙ (λ j. joined (joined (single (comes j)) (Some [])) (Some []))

        expanded_last : (d e : Form) → combined (without (form_at factor (λ u. u.last) ts f us) s) (pos 1) k ≡ Some d →
            combined (without (form_at factor (λ u. u.last) ts f us) s) (pos 1) (number z) ≡ Some e →
            expanded exact shows s (k ∷ number z ∷ []) (form_at factor (λ u. u.last) ts f us ∷ []) ≡ Some (d ∷ e ∷ [])
        expanded_last d e comes tops_at =
            let there = has (λ u. u.last) in
            let times = counts (λ u. u.last) in
            let last : Form = form_at factor (λ u. u.last) ts f us in
            (λ j. if there j then (if is_positive (times j) then joined (each_replaced last s (times j) (k ∷ number z ∷ [])) (Some []) else None) else joined (Some (last ∷ [])) (Some []))
            ∙ (λ j. joined (joined (single (comes j)) (joined (single (tops_at j)) (Some []))) (Some []))
