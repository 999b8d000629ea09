-- Nests of functions whose loops are split once, with any tail, in any order: the steps are loops, lets of shifted blocks, and guards with lets behind them, and each name stands for its
-- loop's symbol, or for the first number of a block and the symbol of a loop over its numbers, kept within the split loop by a further upper form, or by a guard and a let.
use Rattle.std.proofs.Common.{◌≡◌, ℕ, zero, suc, ◌+◌, ◌≤◌, Bool, true, false, ◌||◌, ◌&&◌, List, [], ◌∷◌, ◌++◌, length, Option, Some, None, refl, sym, ap, ◌∙◌, subst, inl, inr, ◌⊎◌, arith}
use Rattle.std.proofs.Common.{◌<◌, not, append_assoc}
use Rattle.std.specs.Prelude.{ℤ, ◌-◌, ◌%◌, pos, negsuc, slice_get, ◌==◌, nat_lt, if◌then◌else◌}
use Rattle.std.specs.List.{AllByRecursion, list_any}
use Rattle.std.specs.Ordering.{int_eq}
use Rattle.std.proofs.lemmas.Bool.Decides.{nat_tests}
use Rattle.std.proofs.lemmas.Int.{ints}
use Rattle.std.proofs.lemmas.Nat.{mod_below}
use Rattle.lin.specs.Forms.{Form, number, combined, without}
use Rattle.lin.specs.declared.form.Multiple.{Multiple}
use Rattle.lin.proofs.TermLemmas.{all_weaker}
use Rattle.meaning.specs.Names.{same_name}
use Rattle.soundness.specs.Claims.{In}
use Rattle.soundness.proofs.Refines.{eq_refl, number_true, name_true}
use Rattle.plan.specs.declared.stmt.Kind.{Kind}
use Rattle.plan.specs.declared.stmt.Kind.TheVariants.{Serial, Unroll, Vector}
use Rattle.plan.specs.declared.stmt.Pick.TheVariants.{Min}
use Rattle.headline.proofs.Lists.{at_left, at_right, parted}
use Rattle.sched.specs.declared.schedule.Split.{Split}
use Rattle.sched.specs.declared.schedule.Tail.{Tail}
use Rattle.sched.specs.declared.schedule.Tail.TheVariants.{Guard, Roundup, Shift}
use Rattle.sched.specs.declared.numbers.Numbers.{Numbers}
use Rattle.sched.specs.declared.skeleton.Known.{Known}
use Rattle.sched.specs.declared.skeleton.Step.{Step}
use Rattle.sched.specs.declared.skeleton.Step.TheVariants.{Turns, Named, Tested}
use Rattle.sched.specs.declared.nest.Turning.{Turning}
pub use Rattle.sched.specs.Placing.{is_shifted}
use Rattle.sched.specs.Numbers.{numbers_named, last_number}
use Rattle.sched.specs.Standing.{◌>>=◌, StandingText, form_named, counted_from, alone, is_now, starts_at, name_smaller, room, begin_at, begin_over, begin, has_rest, is_half, overruns, is_overrun}
use Rattle.sched.specs.Standing.{is_bound, counted_once, innermost, keep_by_loop, keep_by_guard, keep_within, is_guarded, put_together, join_over, join, settle_some}
use Rattle.sched.specs.Skeleton.{span, enter, leave, inside, turn, turn_all}
use Rattle.sched.proofs.Standings.{Stands, found_all, found_more, stands_more, stands_last, all_more}
use Rattle.sched.proofs.Passing.{IsClosed}
use Rattle.blocks.proofs.Laying.{bound, same}
use Rattle.completeness.proofs.Standing.{Within}
use Rattle.completeness.proofs.Halves.{AreOthers, IsInner, by_whole, by_inner, inner_outer}
use Rattle.completeness.proofs.Lanes.{AreOnce, pass_closes}
use Rattle.completeness.proofs.BlockSums.{multiple, pair_is}
use Rattle.completeness.proofs.TailSteps.{Line, Loop, Block, Pair, is_loop, line_steps}

-- ---- splits

-- a guard keeps the numbers of the split loop within it
abbrev pub keeps_rest : List Numbers → Split → Bool
keeps_rest rs c = elim c.tail [ Guard ↦ has_rest c (numbers_named rs c.whole).count | Roundup ↦ false | Shift ↦ false ]

-- a split that keeps a rest is not shifted, and has blocks of two numbers or more
pub not_shifted : (rs : List Numbers) (c : Split) → keeps_rest rs c ≡ true → is_shifted c ≡ false
not_shifted rs c e = of c.tail e
  where
    of : (t : Tail) → (elim t [ Guard ↦ has_rest c (numbers_named rs c.whole).count | Roundup ↦ false | Shift ↦ false ]) ≡ true → ◌≡◌ {A = Bool} (elim t [
      | Guard ↦ false
      | Roundup ↦ false
      | Shift ↦ true
    ]) false
    of Guard e = refl
    of Roundup e = refl
    of Shift e = absurd (cc e)

pub wide_rest : (rs : List Numbers) (c : Split) → 0 < c.factor → keeps_rest rs c ≡ true → 2 ≤ c.factor
wide_rest rs c some e = of c.tail e
  where
    rest : (n k : ℕ) → 0 < k → ((k == 0) || not (n % k == 0)) ≡ true → 2 ≤ k
    rest n zero less q = absurd (omega (arith, less))
    rest n (suc zero) less q =
        let less_one = mod_below n 1 (omega arith) in
        let none : n % 1 ≡ 0 = omega (arith, less_one) in
        let clash : true ≡ false = sym q ∙ ap (λ (r : ℕ). (1 == 0) || not (r == 0)) none in
        absurd (cc clash)
    rest n (suc (suc k)) less q = omega arith

    of : (t : Tail) → (elim t [ Guard ↦ has_rest c (numbers_named rs c.whole).count | Roundup ↦ false | Shift ↦ false ]) ≡ true → 2 ≤ c.factor
    of Guard q = rest (numbers_named rs c.whole).count c.factor some q
    of Roundup q = absurd (cc q)
    of Shift q = absurd (cc q)

-- ---- entries

-- what takes a symbol: a loop with its further upper forms, or a let
pub record Entry : Type 0 where
  pub turning : Turning
  pub line : Line
  pub limits : List Form

-- a let has the name and the numbers of the loop that is split
abbrev pub let_of : List Numbers → Split → Turning
let_of rs c = record { name = c.whole; low = (numbers_named rs c.whole).low; last = last_number (numbers_named rs c.whole); kind = Serial }

abbrev pub entry_steps : ℕ → List Entry → List Step
entry_steps n [] = []
entry_steps n (e ∷ es) = line_steps e.line n e.turning e.limits (entry_steps (n + 1) es)

-- the second begin with the first
abbrev pub Extends : List Entry → List Entry → Type 0
Extends xs es = (j : ℕ) (e : Entry) → slice_get xs j ≡ Some e → slice_get es j ≡ Some e

extends_left : (xs ys es : List Entry) → Extends (xs ++ ys) es → Extends xs es
extends_left xs ys es h j e at = h j e (at_left xs ys j e at)

pub length_more : {A : Type 0} (xs ys : List A) → length (xs ++ ys) ≡ length xs + length ys
length_more [] ys = omega arith
length_more (x ∷ xs) ys = (let rest = length_more xs ys in omega (arith, rest))

first_behind : (xs : List Entry) (e : Entry) (ys : List Entry) → slice_get (xs ++ e ∷ ys) (length xs) ≡ Some e
first_behind xs e ys = (let none : length xs ≡ length xs + 0 = omega arith in at_right xs (e ∷ ys) (length xs) 0 none)

second_behind : (xs : List Entry) (e f : Entry) (ys : List Entry) → slice_get (xs ++ e ∷ f ∷ ys) (length xs + 1) ≡ Some f
second_behind xs e f ys = at_right xs (e ∷ f ∷ ys) (length xs + 1) 1 refl

line_more : (l : Line) (s : ℕ) (t : Turning) (fs : List Form) (rest more : List Step) → line_steps l s t fs (rest ++ more) ≡ line_steps l s t fs rest ++ more
line_more Loop s t fs rest more = refl
line_more (Block f z) s t fs rest more = refl
line_more (Pair f z) s t fs rest more = refl

pub steps_more : (n : ℕ) (xs ys : List Entry) → entry_steps n (xs ++ ys) ≡ entry_steps n xs ++ entry_steps (n + length xs) ys
steps_more n [] ys = (let none : n ≡ n + 0 = omega arith in ap (λ (k : ℕ). entry_steps k ys) none)
steps_more n (e ∷ xs) ys =
    let next : (n + 1) + length xs ≡ n + suc (length xs) = omega arith in
    ap (line_steps e.line n e.turning e.limits) (steps_more (n + 1) xs ys ∙ ap (λ (k : ℕ). entry_steps (n + 1) xs ++ entry_steps k ys) next)
    ∙ line_more e.line n e.turning e.limits (entry_steps (n + 1) xs) (entry_steps (n + suc (length xs)) ys)

-- ---- one split

pub record Opens (c : Split) (r : Numbers) (st new : StandingText) : Type 0 where
  pub outer : Form
  pub form : Form
  pub none : form_named st.starts c.whole ≡ None
  pub known : form_named st.known c.outer ≡ Some outer
  pub sum : combined (number r.low) (pos c.factor) outer ≡ Some form
  pub is : new ≡ begin_at c.tail c.whole form (room r c.factor) st

record Fills (c : Split) (st new : StandingText) : Type 0 where
  start : Form
  inner : Form
  form : Form
  first : form_named st.starts c.whole ≡ Some start
  second : form_named st.known c.inner ≡ Some inner
  sum : combined start (pos 1) inner ≡ Some form
  is : new ≡ is_now c.whole form st

-- a guarded split
record Keeps (w : Within) (c : Split) (last : ℤ) (st new : StandingText) : Type 0 where
  start : Form
  inner : Form
  form : Form
  first : form_named st.starts c.whole ≡ Some start
  second : form_named st.known c.inner ≡ Some inner
  none : form_named st.known c.whole ≡ None
  sum : combined start (pos 1) inner ≡ Some form
  is : keep_within w c.whole form last st (innermost st.bound form) ≡ Some new

module _ (rs : List Numbers) (c : Split) where
  abbrev r : Numbers
  r = numbers_named rs c.whole

  pub opened : (st new : StandingText) → begin c r st ≡ Some new → (new ≡ st) ⊎ Opens c r st new
  opened st new e = of (form_named st.starts c.whole) refl e
    where
      by : form_named st.starts c.whole ≡ None → (o : Option Form) → form_named st.known c.outer ≡ o → begin_over c r o st ≡ Some new → (new ≡ st) ⊎ Opens c r st new
      by none None k q = inl (sym (same st new q))
      by none (Some outer) k q =
          let b = bound (combined (number r.low) (pos c.factor) outer) (λ form. Some (begin_at c.tail c.whole form (room r c.factor) st)) new q in
          inr (record { outer = outer; form = b.value; none = none; known = k; sum = b.is; is = sym (same (begin_at c.tail c.whole b.value (room r c.factor) st) new b.comes) })

      of : (o : Option Form) → form_named st.starts c.whole ≡ o → (elim o [ Some form ↦ Some st | None ↦ begin_over c r (form_named st.known c.outer) st ]) ≡ Some new →
          (new ≡ st) ⊎ Opens c r st new
      of (Some form) k q = inl (sym (same st new q))
      of None k q = by k (form_named st.known c.outer) refl q

  kept : (w : Within) (st new : StandingText) → join w true c r st ≡ Some new → (new ≡ st) ⊎ Keeps w c (last_number r) st new
  kept w st new e = of (form_named st.known c.whole) refl e
    where
      by : form_named st.known c.whole ≡ None → (a b : Option Form) → form_named st.starts c.whole ≡ a → form_named st.known c.inner ≡ b → join_over w true c r a b st ≡ Some new →
          (new ≡ st) ⊎ Keeps w c (last_number r) st new
      by none None b k m q = inl (sym (same st new q))
      by none (Some start) None k m q = inl (sym (same st new q))
      by none (Some start) (Some inner) k m q =
          let b = bound (combined start (pos 1) inner) (λ form. put_together w true c r form st) new q in
          inr (record { start = start; inner = inner; form = b.value; first = k; second = m; none = none; sum = b.is; is = b.comes })

      of : (o : Option Form) → form_named st.known c.whole ≡ o →
          (elim o [ Some form ↦ Some st | None ↦ join_over w true c r (form_named st.starts c.whole) (form_named st.known c.inner) st ]) ≡ Some new →
          (new ≡ st) ⊎ Keeps w c (last_number r) st new
      of (Some form) k q = inl (sym (same st new q))
      of None k q = by k (form_named st.starts c.whole) (form_named st.known c.inner) refl refl q

  filled : (w : Within) (st new : StandingText) → join w false c r st ≡ Some new → (new ≡ st) ⊎ Fills c st new
  filled w st new e = of (form_named st.known c.whole) e
    where
      by : (a b : Option Form) → form_named st.starts c.whole ≡ a → form_named st.known c.inner ≡ b → join_over w false c r a b st ≡ Some new → (new ≡ st) ⊎ Fills c st new
      by None b k m q = inl (sym (same st new q))
      by (Some start) None k m q = inl (sym (same st new q))
      by (Some start) (Some inner) k m q =
          let b = bound (combined start (pos 1) inner) (λ form. put_together w false c r form st) new q in
          inr (record {
            start = start;
            inner = inner;
            form = b.value;
            first = k;
            second = m;
            sum = b.is;
            is = sym (same (is_now c.whole b.value st) new b.comes);
          })

      of : (o : Option Form) → (elim o [ Some form ↦ Some st | None ↦ join_over w false c r (form_named st.starts c.whole) (form_named st.known c.inner) st ]) ≡ Some new →
          (new ≡ st) ⊎ Fills c st new
      of (Some form) q = inl (sym (same st new q))
      of None q = by (form_named st.starts c.whole) (form_named st.known c.inner) refl refl q

  -- where the inner loop does not stand, nothing is put together
  pub unjoined : (w : Within) (guarded : Bool) (st new : StandingText) → form_named st.known c.inner ≡ None → join w guarded c r st ≡ Some new → new ≡ st
  unjoined w guarded st new none e = of (form_named st.known c.whole) e
    where
      over : (a : Option Form) → join_over w guarded c r a None st ≡ Some new → new ≡ st
      over None q = sym (same st new q)
      over (Some start) q = sym (same st new q)

      of : (o : Option Form) → (elim o [ Some form ↦ Some st | None ↦ join_over w guarded c r (form_named st.starts c.whole) (form_named st.known c.inner) st ]) ≡ Some new → new ≡ st
      of (Some form) q = sym (same st new q)
      of None q = over (form_named st.starts c.whole) (ap (λ (b : Option Form). join_over w guarded c r (form_named st.starts c.whole) b st) (sym none) ∙ q)

-- ---- what names stand for

-- the splits; the forms over the grid, and its symbols: those of the lets over it follow
module _ (cuts : List Split) (others : AreOthers cuts) (once : AreOnce cuts) (rs : List Numbers) (grid : List Known) (base : ℕ) where
  abbrev num : Split → Numbers
  num c = numbers_named rs c.whole

  -- a guard keeps the numbers of one of them just where its last block is not full
  guarded_is : (c : Split) → In c cuts → (all : List Split) → AllByRecursion (λ d. In d cuts) all → is_guarded rs all c ≡ keeps_rest rs c
  guarded_is c m all sub = of c.tail
    where
      none : (ds : List Split) → AllByRecursion (λ d. In d cuts) ds → list_any (λ d. is_half c d.whole && overruns rs d) ds ≡ false
      none [] k = refl
      none (d ∷ ds) k =
          let one = differs c.outer d.whole (once d c k.0 m).0 in
          let two = differs c.inner d.whole (once d c k.0 m).1 in
          let rest = none ds k.1 in
          λ j. ((one j || two j) && overruns rs d) || rest j
        where
          differs : (x y : List ℕ) → (y ≡ x → ⊥) → same_name x y ≡ false
          differs x y apart = by (same_name x y) refl
            where
              by : (b : Bool) → same_name x y ≡ b → same_name x y ≡ false
              by true e = absurd (apart (sym (name_true x y e)))
              by false e = e

      no_more : (b : Bool) → (b || false) ≡ b
      no_more true = refl
      no_more false = refl

      of : (t : Tail) → ◌≡◌ {A = Bool} (elim t [ Guard ↦ has_rest c (numbers_named rs c.whole).count || is_overrun rs all c | Roundup ↦ false | Shift ↦ false ])
          (elim t [ Guard ↦ has_rest c (numbers_named rs c.whole).count | Roundup ↦ false | Shift ↦ false ])
      of Guard = ap (λ (b : Bool). has_rest c (numbers_named rs c.whole).count || b) (none all sub) ∙ no_more (has_rest c (numbers_named rs c.whole).count)
      of Roundup = refl
      of Shift = refl

  -- the lets over the grid; and the entries of a nest, from this symbol on
  module _ (head : List Step) (n : ℕ) (es : List Entry) where
    -- over the grid, or the symbol of a loop of the nest
    abbrev pub Leaf : List ℕ → Form → Type 0
    Leaf y f = (form_named grid y ≡ Some f) ⊎ ((i : ℕ) × (e : Entry) × (slice_get es i ≡ Some e) × (is_loop e.line ≡ true) × (e.turning.name ≡ y) × (f ≡ alone (n + i)))

    -- the let of a shifted block, over the grid or in the nest
    abbrev pub LetAt : Split → Form → ℕ → Type 0
    LetAt c form s =
        ((j : ℕ) × (slice_get head j ≡ Some (Named (base + j) Min (form ∷ number (room (num c) c.factor) ∷ []))) × (s ≡ base + j))
        ⊎ ((i : ℕ) × (slice_get es i ≡ Some (record { turning = let_of rs c; line = Block form (room (num c) c.factor); limits = [] })) × (s ≡ n + i))

    -- where a block begins that begins at this form unless it is shifted
    abbrev pub IsBegun : Split → Form → Form → Type 0
    IsBegun c form f = ((is_shifted c ≡ false) × (f ≡ form)) ⊎ ((is_shifted c ≡ true) × (s : ℕ) × LetAt c form s × (f ≡ alone s))

    -- the first number of a block
    pub record IsStart (y : List ℕ) (f : Form) : Type 0 where
      pub split : Split
      pub there : In split cuts
      pub is : split.whole ≡ y
      pub outer : Form
      pub by_outer : Leaf split.outer outer
      pub form : Form
      pub begins : combined (number (num split).low) (pos split.factor) outer ≡ Some form
      pub begun : IsBegun split form f

    -- over the grid, or the symbol of an entry before this one
    abbrev pub LeafBefore : ℕ → List ℕ → Form → Type 0
    LeafBefore i y f =
        (form_named grid y ≡ Some f) ⊎ ((j : ℕ) × (e : Entry) × (slice_get es j ≡ Some e) × (is_loop e.line ≡ true) × (e.turning.name ≡ y) × (f ≡ alone (n + j)) × (j < i))

    -- what the symbol of a guarded split's inner loop is at most besides
    pub record IsLimit (i : ℕ) (c : Split) (f : Form) : Type 0 where
      pub outer : Form
      pub start : Form
      pub form : Form
      pub by_outer : LeafBefore i c.outer outer
      pub begins : combined (number (num c).low) (pos c.factor) outer ≡ Some start
      pub sum : combined start (pos 1) (alone (n + i)) ≡ Some form
      pub less : combined (number (last_number (num c))) (negsuc 0) (without form (n + i)) ≡ Some f

    -- both loops of a split, of which the outer one stands inside of the inner one, and their position
    pub record IsPair (c : Split) (form : Form) : Type 0 where
      pub outer_at : ℕ
      pub outer : Entry
      pub outer_there : slice_get es outer_at ≡ Some outer
      pub outer_loop : is_loop outer.line ≡ true
      pub outer_name : outer.turning.name ≡ c.outer
      pub inner_at : ℕ
      pub inner : Entry
      pub inner_there : slice_get es inner_at ≡ Some inner
      pub inner_loop : is_loop inner.line ≡ true
      pub inner_name : inner.turning.name ≡ c.inner
      pub before : inner_at < outer_at
      pub start : Form
      pub begins : combined (number (num c).low) (pos c.factor) (alone (n + outer_at)) ≡ Some start
      pub sum : combined start (pos 1) (alone (n + inner_at)) ≡ Some form

    -- how a position is kept within the split loop: by nothing, where nothing has to; by a further upper form of the inner loop; by a guard and the let behind it
    pub record IsLimited (c : Split) (form f : Form) : Type 0 where
      pub keeps : keeps_rest rs c ≡ true
      pub place : ℕ
      pub entry : Entry
      pub there : slice_get es place ≡ Some entry
      pub name : entry.turning.name ≡ c.inner
      pub limit : Form
      pub is_limit : IsLimit place c limit
      pub limits : entry.limits ≡ limit ∷ []
      pub is : f ≡ form

    pub record IsPaired (c : Split) (form f : Form) : Type 0 where
      pub keeps : keeps_rest rs c ≡ true
      pub pair : IsPair c form
      pub there : slice_get es (pair.outer_at + 1) ≡ Some (record { turning = let_of rs c; line = Pair form (last_number (num c)); limits = [] })
      pub is : f ≡ alone (n + (pair.outer_at + 1))

    abbrev pub Kept : Split → Form → Form → Type 0
    Kept c form f = ((keeps_rest rs c ≡ false) × (f ≡ form)) ⊎ (IsLimited c form f ⊎ IsPaired c form f)

    -- the first number of a block and the symbol of a loop over its numbers
    pub record IsWhole (y : List ℕ) (f : Form) : Type 0 where
      pub split : Split
      pub there : In split cuts
      pub is : split.whole ≡ y
      pub outer : Form
      pub by_outer : Leaf split.outer outer
      pub first : Form
      pub begins : combined (number (num split).low) (pos split.factor) outer ≡ Some first
      pub start : Form
      pub begun : IsBegun split first start
      pub inner : Form
      pub by_inner : Leaf split.inner inner
      pub form : Form
      pub sum : combined start (pos 1) inner ≡ Some form
      pub kept : Kept split form f

    abbrev pub Right : List ℕ → Form → Type 0
    Right y f = Leaf y f ⊎ IsWhole y f

    pub record AreRight (st : StandingText) : Type 0 where
      pub known : AllByRecursion (λ k. Right k.name k.form) st.known
      pub starts : AllByRecursion (λ k. IsStart k.name k.form) st.starts

    pub leaf_outer : (c : Split) → In c cuts → (f : Form) → Right c.outer f → Leaf c.outer f
    leaf_outer c m f (inl l) = l
    leaf_outer c m f (inr w) = absurd ((once w.split c w.there m).0 w.is)

    pub leaf_inner : (c : Split) → In c cuts → (f : Form) → Right c.inner f → Leaf c.inner f
    leaf_inner c m f (inl l) = l
    leaf_inner c m f (inr w) = absurd ((once w.split c w.there m).1 w.is)

    -- one more first number of a block
    pub start_right : (c : Split) → In c cuts → (st : StandingText) → AreRight st → (outer form f : Form) → form_named st.known c.outer ≡ Some outer →
        combined (number (num c).low) (pos c.factor) outer ≡ Some form → IsBegun c form f → AllByRecursion (λ k. IsStart k.name k.form) (st.starts ++ record { name = c.whole; form = f } ∷ [])
    start_right c m st h outer form f known sum begun =
        all_more (λ k. IsStart k.name k.form) st.starts (record { name = c.whole; form = f }) h.starts (record {
          split = c;
          there = m;
          is = refl;
          outer = outer;
          by_outer = leaf_outer c m outer (found_all Right st.known c.outer outer h.known known);
          form = form;
          begins = sum;
          begun = begun;
        })

    -- a position that is put together
    whole_right : (c : Split) → In c cuts → (st : StandingText) → AreRight st → (start inner form f : Form) → form_named st.starts c.whole ≡ Some start → form_named st.known c.inner ≡ Some inner →
        combined start (pos 1) inner ≡ Some form → Kept c form f → AllByRecursion (λ k. Right k.name k.form) (st.known ++ record { name = c.whole; form = f } ∷ [])
    whole_right c m st h start inner form f first second sum kept_so =
        let s = found_all IsStart st.starts c.whole start h.starts first in
        let is : s.split ≡ c = by_whole cuts others s.split c s.there m s.is in
        let leaf = leaf_inner c m inner (found_all Right st.known c.inner inner h.known second) in
        all_more (λ k. Right k.name k.form) st.known (record { name = c.whole; form = f }) h.known (inr (record {
          split = c;
          there = m;
          is = refl;
          outer = s.outer;
          by_outer = subst (λ (d : Split). Leaf d.outer s.outer) is s.by_outer;
          first = s.form;
          begins = subst (λ (d : Split). combined (number (num d).low) (pos d.factor) s.outer ≡ Some s.form) is s.begins;
          start = start;
          begun = subst (λ (d : Split). IsBegun d s.form start) is s.begun;
          inner = inner;
          by_inner = leaf;
          form = form;
          sum = sum;
          kept = kept_so;
        }))

    -- ---- what entries are

    module _ (ts : List Turning) where
      pub record IsTurn (j : ℕ) (e : Entry) : Type 0 where
        pub loop : is_loop e.line ≡ true
        pub place : ℕ
        pub there : slice_get ts place ≡ Some e.turning
        pub limits : (e.limits ≡ []) ⊎ ((c : Split) × In c cuts × (keeps_rest rs c ≡ true) × (e.turning.name ≡ c.inner) × (f : Form) × IsLimit j c f × (e.limits ≡ f ∷ []))
        pub line : e.line ≡ Loop

      -- the let behind the outer loop of a shifted split
      pub record IsBlock (j : ℕ) (e : Entry) (c : Split) : Type 0 where
        pub shifted : is_shifted c ≡ true
        pub outer_at : ℕ
        pub outer : Entry
        pub outer_there : slice_get es outer_at ≡ Some outer
        pub outer_loop : is_loop outer.line ≡ true
        pub outer_name : outer.turning.name ≡ c.outer
        pub behind : j ≡ outer_at + 1
        pub form : Form
        pub begins : combined (number (num c).low) (pos c.factor) (alone (n + outer_at)) ≡ Some form
        pub line : e.line ≡ Block form (room (num c) c.factor)

      pub record IsLet (j : ℕ) (e : Entry) : Type 0 where
        pub split : Split
        pub among : In split cuts
        pub turning : e.turning ≡ let_of rs split
        pub bare : e.limits ≡ []
        pub kind : IsBlock j e split
            ⊎ ((keeps_rest rs split ≡ true) × (form : Form) × (p : IsPair split form) × (j ≡ p.outer_at + 1) × (e.line ≡ Pair form (last_number (num split))))

      abbrev pub IsEntry : ℕ → Entry → Type 0
      IsEntry j e = IsTurn j e ⊎ IsLet j e

  -- loops, in order, and behind each the lets of splits of which it is the outer one
  abbrev pub Woven : List Turning → List Entry → Type 0
  Woven [] es = es ≡ []
  Woven (t ∷ us) es =
      (own : Entry) × (lets : List Entry) × (rest : List Entry) × (es ≡ own ∷ (lets ++ rest)) × (own.turning ≡ t)
      × ((k : ℕ) (e : Entry) → slice_get lets k ≡ Some e → (d : Split) × In d cuts × (e.turning ≡ let_of rs d) × (t.name ≡ d.outer)) × Woven us rest

  -- ---- loops, in order

  module _ (head : List Step) (n : ℕ) (ts : List Turning) (unique : (i j : ℕ) (t u : Turning) → slice_get ts i ≡ Some t → slice_get ts j ≡ Some u → t.name ≡ u.name → i ≡ j)
      (apart : (j : ℕ) (t : Turning) → slice_get ts j ≡ Some t → (c : Split) → In c cuts → t.name ≡ c.whole → ⊥)
      (off_grid : (j : ℕ) (t : Turning) → slice_get ts j ≡ Some t → form_named grid t.name ≡ None)
      (lanes : (j : ℕ) (t : Turning) → slice_get ts j ≡ Some t → t.kind ≡ Vector → IsInner cuts t.name) (inners : (c : Split) → In c cuts → form_named grid c.inner ≡ None)
      (some : (c : Split) → In c cuts → 0 < c.factor) (distinct : (c d : Split) → In c cuts → In d cuts → c.outer ≡ d.outer → c ≡ d)
      (outers : (c : Split) → In c cuts → (f : Form) → form_named grid c.outer ≡ Some f → (s : ℕ) × (f ≡ counted_from (pos 0) s) × (s < n)) where
    -- what is so before the loop of this place is entered, behind these entries
    pub record IsBefore (cs : List Split) (es0 : List Entry) (i : ℕ) (st : StandingText) : Type 0 where
      pub next : st.next ≡ n + length es0
      pub right : (es : List Entry) → Extends es0 es → AreRight head n es st
      pub entries : (es : List Entry) → Extends es0 es → (j : ℕ) (e : Entry) → slice_get es0 j ≡ Some e → IsEntry head n es ts j e
      pub once_each : (j k : ℕ) (e f : Entry) → slice_get es0 j ≡ Some e → slice_get es0 k ≡ Some f → e.turning.name ≡ f.turning.name → j ≡ k
      pub earlier : (j : ℕ) (e : Entry) → slice_get es0 j ≡ Some e → ((is_loop e.line ≡ true) × (k : ℕ) × (slice_get ts k ≡ Some e.turning) × (k < i))
          ⊎ ((is_loop e.line ≡ false) × (c : Split) × In c cuts × (e.turning ≡ let_of rs c) × (k : ℕ) × (u : Turning) × (slice_get ts k ≡ Some u) × (u.name ≡ c.outer) × (k < i))
      pub there : (k : ℕ) (u : Turning) → k < i → slice_get ts k ≡ Some u → (j : ℕ) × (e : Entry) × (slice_get es0 j ≡ Some e) × (is_loop e.line ≡ true) × (e.turning ≡ u)
      pub closed : AllByRecursion (IsClosed st) cs
      pub over : (y : List ℕ) → Stands grid y → Stands st.known y
      pub entered : (j : ℕ) (u : Turning) → j < i → slice_get ts j ≡ Some u → Stands st.known u.name

    module _ (cs : List Split) (sub : AllByRecursion (λ d. In d cuts) cs) (es0 : List Entry) (i : ℕ) (t : Turning) (at : slice_get ts i ≡ Some t) (st0 : StandingText)
        (before : IsBefore cs es0 i st0) where
      abbrev e0 : ℕ
      e0 = length es0

      abbrev m : ℕ
      m = n + e0

      abbrev bare : Entry
      bare = record { turning = t; line = Loop; limits = [] }

      -- the loop's entry is there, whatever is known of it besides
      abbrev HasTurn : List Entry → Type 0
      HasTurn es = (x : Entry) × (slice_get es e0 ≡ Some x) × (is_loop x.line ≡ true) × (x.turning ≡ t)

      -- no step so far
      record IsBare (st : StandingText) (own : Entry) (lets : List Entry) : Type 0 where
        own_is : own ≡ bare
        lets_are : lets ≡ []
        steps : st.steps ≡ []
        limits : st.limits ≡ []
        right : (es : List Entry) → Extends es0 es → HasTurn es → AreRight head n es st

      -- a split of which the loop is a half has made a step or a further upper form
      record IsDone (st : StandingText) (own : Entry) (lets : List Entry) : Type 0 where
        split : Split
        among : In split cuts
        half : (t.name ≡ split.outer) ⊎ (t.name ≡ split.inner)
        ended : ((is_shifted split ≡ true) × Stands st.starts split.whole) ⊎ ((keeps_rest rs split ≡ true) × Stands st.known split.whole)
        right : (es : List Entry) → Extends (es0 ++ own ∷ lets) es → AreRight head n es st
        first : (es : List Entry) → Extends (es0 ++ own ∷ lets) es → IsEntry head n es ts e0 own
        behind : (es : List Entry) → Extends (es0 ++ own ∷ lets) es → (j : ℕ) (e : Entry) → slice_get lets j ≡ Some e → IsEntry head n es ts (e0 + suc j) e
        few : (j : ℕ) (e : Entry) → slice_get lets j ≡ Some e → (j ≡ 0) × (is_loop e.line ≡ false) × (e.turning ≡ let_of rs split) × (t.name ≡ split.outer)

      -- what is so while splits are settled inside of the loop
      record IsNow (st : StandingText) (own : Entry) (lets : List Entry) : Type 0 where
        status : IsBare st own lets ⊎ IsDone st own lets
        turning : own.turning ≡ t
        loop : is_loop own.line ≡ true
        lead : Turns m (span t.low t.last st.limits) t.kind ∷ st.steps ≡ entry_steps m (own ∷ lets)
        next : st.next ≡ (m + 1) + length lets
        bound : is_bound st.bound m ≡ true
        more : (y : List ℕ) → Stands st0.known y → Stands st.known y
        begun : (y : List ℕ) → Stands st0.starts y → Stands st.starts y
        here : Stands st.known t.name
        fewer : (y : List ℕ) → Stands st.known y → (Stands st0.known y ⊎ (t.name ≡ y)) ⊎ ((c : Split) × In c cuts × (c.whole ≡ y))
        fewer_starts : (y : List ℕ) → Stands st.starts y → Stands st0.starts y ⊎ ((c : Split) × In c cuts × (c.whole ≡ y) × (t.name ≡ c.outer))

      abbrev Now : StandingText → Type 0
      Now st = (own : Entry) × (lets : List Entry) × IsNow st own lets

      right_of : (st : StandingText) (own : Entry) (lets : List Entry) → IsNow st own lets → (es : List Entry) → Extends (es0 ++ own ∷ lets) es → AreRight head n es st
      right_of st own lets h es ext = of h.status
        where
          of : IsBare st own lets ⊎ IsDone st own lets → AreRight head n es st
          of (inl b) = b.right es (extends_left es0 (own ∷ lets) es ext) (own, ext e0 own (first_behind es0 own lets), h.loop, h.turning)
          of (inr d) = d.right es ext

      -- two splits of which the loop is a half are the same
      half_is : (c d : Split) → In c cuts → In d cuts → (t.name ≡ c.outer) ⊎ (t.name ≡ c.inner) → (t.name ≡ d.outer) ⊎ (t.name ≡ d.inner) → c ≡ d
      half_is c d mc md (inl p) (inl q) = distinct c d mc md (sym p ∙ q)
      half_is c d mc md (inl p) (inr q) = absurd (inner_outer cuts others d c md mc (sym q ∙ p))
      half_is c d mc md (inr p) (inl q) = absurd (inner_outer cuts others c d mc md (sym p ∙ q))
      half_is c d mc md (inr p) (inr q) = by_inner cuts others c d mc md (sym p ∙ q)

      closed_here : (c : Split) → In c cs → IsClosed st0 c
      closed_here c mcs = each cs before.closed mcs
        where
          each : (ds : List Split) → AllByRecursion (IsClosed st0) ds → In c ds → IsClosed st0 c
          each [] k q = absurd q
          each (d ∷ ds) k (inl e) = subst (IsClosed st0) (sym e) k.0
          each (d ∷ ds) k (inr q) = each ds k.1 q

      -- ---- the symbols of loops

      -- a loop that is none of these is behind them
      leaf_parts : (own : Entry) (lets : List Entry) → ((j : ℕ) (e : Entry) → slice_get lets j ≡ Some e → is_loop e.line ≡ false) → (y : List ℕ) (f : Form) → Leaf head n (es0 ++ own ∷ lets) y f →
          (form_named grid y ≡ Some f)
          ⊎ (((j : ℕ) × (e : Entry) × (slice_get es0 j ≡ Some e) × (is_loop e.line ≡ true) × (e.turning.name ≡ y) × (f ≡ alone (n + j))) ⊎ ((own.turning.name ≡ y) × (f ≡ alone m)))
      leaf_parts own lets none y f (inl over) = inl over
      leaf_parts own lets none y f (inr (j, e, at_j, loop, name, is)) = of (parted es0 (own ∷ lets) j e at_j)
        where
          of : (slice_get es0 j ≡ Some e) ⊎ ((k : ℕ) × (j ≡ length es0 + k) × (slice_get (own ∷ lets) k ≡ Some e)) → (form_named grid y ≡ Some f)
              ⊎ (((j : ℕ) × (e : Entry) × (slice_get es0 j ≡ Some e) × (is_loop e.line ≡ true) × (e.turning.name ≡ y) × (f ≡ alone (n + j))) ⊎ ((own.turning.name ≡ y) × (f ≡ alone m)))
          of (inl k) = inr (inl (j, e, k, loop, name, is))
          of (inr (zero, place, k)) =
              let same_entry : own ≡ e = cc k in
              let here : j ≡ e0 = omega (arith, place) in
              inr (inr (ap (λ (x : Entry). x.turning.name) same_entry ∙ name, is ∙ ap (λ (q : ℕ). alone (n + q)) here))
          of (inr (suc k, place, q)) = (let clash : true ≡ false = sym loop ∙ none k e q in absurd (cc clash))

      -- of an earlier entry
      abbrev Early : List ℕ → Form → Type 0
      Early y f = (form_named grid y ≡ Some f) ⊎ ((j : ℕ) × (e : Entry) × (slice_get es0 j ≡ Some e) × (is_loop e.line ≡ true) × (e.turning.name ≡ y) × (f ≡ alone (n + j)))

      no_lets : (j : ℕ) (e : Entry) → slice_get [] j ≡ Some e → is_loop e.line ≡ false
      no_lets j e q = absurd (cc q)

      -- the loop's own name was not there
      not_early : (j : ℕ) (e : Entry) → slice_get es0 j ≡ Some e → is_loop e.line ≡ true → e.turning.name ≡ t.name → ⊥
      not_early j e at_j loop name = of (before.earlier j e at_j)
        where
          of : ((is_loop e.line ≡ true) × (k : ℕ) × (slice_get ts k ≡ Some e.turning) × (k < i))
              ⊎ ((is_loop e.line ≡ false) × (c : Split) × In c cuts × (e.turning ≡ let_of rs c) × (k : ℕ) × (u : Turning) × (slice_get ts k ≡ Some u) × (u.name ≡ c.outer) × (k < i)) → ⊥
          of (inl (l, k, at_k, less)) = (let place : k ≡ i = unique k i e.turning t at_k at name in omega (arith, place, less))
          of (inr k) = (let clash : true ≡ false = sym loop ∙ k.0 in cc clash)

      own_leaf : (y : List ℕ) (f : Form) → t.name ≡ y → Leaf head n (es0 ++ bare ∷ []) y f → f ≡ alone m
      own_leaf y f name leaf = of (leaf_parts bare [] no_lets y f leaf)
        where
          of : (form_named grid y ≡ Some f)
              ⊎ (((j : ℕ) × (e : Entry) × (slice_get es0 j ≡ Some e) × (is_loop e.line ≡ true) × (e.turning.name ≡ y) × (f ≡ alone (n + j))) ⊎ ((t.name ≡ y) × (f ≡ alone m))) → f ≡ alone m
          of (inl over) = (let clash : Some f ≡ None = sym over ∙ ap (form_named grid) (sym name) ∙ off_grid i t at in absurd (cc clash))
          of (inr (inl (j, e, at_j, loop, p, is))) = absurd (not_early j e at_j loop (p ∙ sym name))
          of (inr (inr k)) = k.1

      other_leaf : (y : List ℕ) (f : Form) → (t.name ≡ y → ⊥) → Leaf head n (es0 ++ bare ∷ []) y f → Early y f
      other_leaf y f differ leaf = of (leaf_parts bare [] no_lets y f leaf)
        where
          of : (form_named grid y ≡ Some f)
              ⊎ (((j : ℕ) × (e : Entry) × (slice_get es0 j ≡ Some e) × (is_loop e.line ≡ true) × (e.turning.name ≡ y) × (f ≡ alone (n + j))) ⊎ ((t.name ≡ y) × (f ≡ alone m))) → Early y f
          of (inl over) = inl over
          of (inr (inl k)) = inr k
          of (inr (inr k)) = absurd (differ k.0)

      short_place : {A : Type 0} (xs : List A) (j : ℕ) (x : A) → slice_get xs j ≡ Some x → j < length xs
      short_place [] j x e = absurd (cc e)
      short_place (y ∷ xs) zero x e = omega arith
      short_place (y ∷ xs) (suc j) x e = (let rest = short_place xs j x e in omega (arith, rest))

      early_before : (es : List Entry) → Extends es0 es → (y : List ℕ) (f : Form) → Early y f → LeafBefore head n es e0 y f
      early_before es ext y f (inl over) = inl over
      early_before es ext y f (inr (j, e, at_j, loop, name, is)) = inr (j, e, ext j e at_j, loop, name, is, short_place es0 j e at_j)

      -- with the loop alone behind the entries
      abbrev least : List Entry
      least = es0 ++ bare ∷ []

      least_right : (st : StandingText) (own : Entry) (lets : List Entry) → IsBare st own lets → AreRight head n least st
      least_right st own lets b = b.right least (λ j e q. at_left es0 (bare ∷ []) j e q) (bare, first_behind es0 bare [], refl, refl)

      -- ---- a block begins

      -- what stands before a split is begun, and behind it
      opens_name : (c : Split) → In c cuts → In c cs → (st : StandingText) (own : Entry) (lets : List Entry) → IsNow st own lets → form_named st.starts c.whole ≡ None → Stands st.known c.outer →
          t.name ≡ c.outer
      opens_name c mc mcs st own lets h none k = of (h.fewer c.outer k)
        where
          of : (Stands st0.known c.outer ⊎ (t.name ≡ c.outer)) ⊎ ((d : Split) × In d cuts × (d.whole ≡ c.outer)) → t.name ≡ c.outer
          of (inl (inr e)) = e
          of (inr (d, md, e)) = absurd ((once d c md mc).0 e)
          of (inl (inl q)) =
              let s = h.begun c.whole ((closed_here c mcs).begun q) in
              let clash : Some s.0 ≡ None = sym s.1 ∙ none in
              absurd (cc clash)

      plain_now : (c : Split) → In c cuts → is_shifted c ≡ false → (st new : StandingText) (own : Entry) (lets : List Entry) → IsNow st own lets → t.name ≡ c.outer → (outer form : Form) →
          form_named st.known c.outer ≡ Some outer → combined (number (num c).low) (pos c.factor) outer ≡ Some form → new ≡ starts_at c.whole form st → IsNow new own lets
      plain_now c mc plain st new own lets h name outer form known sum is =
          let k : Known = record { name = c.whole; form = form } in
          let all : (es : List Entry) → AreRight head n es st → AreRight head n es (starts_at c.whole form st) =
          λ es g. record { known = g.known; starts = start_right head n es c mc st g outer form form known sum (inl (plain, refl)) } in
          subst (λ (a : StandingText). IsNow a own lets) (sym is) (record {
            status = of h.status all;
            turning = h.turning;
            loop = h.loop;
            lead = h.lead;
            next = h.next;
            bound = h.bound;
            more = h.more;
            begun = λ y q. stands_more st.starts k y (h.begun y q);
            here = h.here;
            fewer = h.fewer;
            fewer_starts = λ y q. starts_more c mc form st h.fewer_starts name y q;
          })
        where
          of : IsBare st own lets ⊎ IsDone st own lets → ((es : List Entry) → AreRight head n es st → AreRight head n es (starts_at c.whole form st)) →
              IsBare (starts_at c.whole form st) own lets ⊎ IsDone (starts_at c.whole form st) own lets
          of (inl b) all = inl (record { own_is = b.own_is; lets_are = b.lets_are; steps = b.steps; limits = b.limits; right = λ es ext has. all es (b.right es ext has) })
          of (inr d) all = inr (record {
            split = d.split;
            among = d.among;
            half = d.half;
            ended = ends d.ended;
            right = λ es ext. all es (d.right es ext);
            first = d.first;
            behind = d.behind;
            few = d.few;
          })
            where
              ends : ((is_shifted d.split ≡ true) × Stands st.starts d.split.whole) ⊎ ((keeps_rest rs d.split ≡ true) × Stands st.known d.split.whole) →
                  ((is_shifted d.split ≡ true) × Stands (st.starts ++ record { name = c.whole; form = form } ∷ []) d.split.whole) ⊎ ((keeps_rest rs d.split ≡ true) × Stands st.known d.split.whole)
              ends (inl q) = inl (q.0, stands_more st.starts (record { name = c.whole; form = form }) d.split.whole q.1)
              ends (inr q) = inr q

          starts_more : (c : Split) → In c cuts → (form : Form) (st : StandingText) →
              ((y : List ℕ) → Stands st.starts y → Stands st0.starts y ⊎ ((c : Split) × In c cuts × (c.whole ≡ y) × (t.name ≡ c.outer))) → t.name ≡ c.outer → (y : List ℕ) →
              Stands (st.starts ++ record { name = c.whole; form = form } ∷ []) y → Stands st0.starts y ⊎ ((c : Split) × In c cuts × (c.whole ≡ y) × (t.name ≡ c.outer))
          starts_more c mc form st fewer name y q = by (found_more st.starts (record { name = c.whole; form = form }) y q.0 q.1)
            where
              by : (form_named st.starts y ≡ Some q.0) ⊎ ((c.whole ≡ y) × (form ≡ q.0)) → Stands st0.starts y ⊎ ((c : Split) × In c cuts × (c.whole ≡ y) × (t.name ≡ c.outer))
              by (inl e) = fewer y (q.0, e)
              by (inr e) = inr (c, mc, e.0, name)

      shift_now : (c : Split) → In c cuts → is_shifted c ≡ true → (st new : StandingText) (own : Entry) (lets : List Entry) → IsNow st own lets → t.name ≡ c.outer →
          form_named st.starts c.whole ≡ None → (outer form : Form) → form_named st.known c.outer ≡ Some outer → combined (number (num c).low) (pos c.factor) outer ≡ Some form →
          new ≡ starts_at c.whole (alone st.next) (name_smaller form (room (num c) c.factor) st) → Now new
      shift_now c mc shifted st new own lets h name none outer form known sum is = of h.status
        where
          k : Known
          k = record { name = c.whole; form = alone st.next }

          block : Entry
          block = record { turning = let_of rs c; line = Block form (room (num c) c.factor); limits = [] }

          of : IsBare st own lets ⊎ IsDone st own lets → Now new
          of (inr d) = absurd (never d.ended)
            where
              same_split : d.split ≡ c
              same_split = half_is d.split c d.among mc d.half (inl name)

              never : ((is_shifted d.split ≡ true) × Stands st.starts d.split.whole) ⊎ ((keeps_rest rs d.split ≡ true) × Stands st.known d.split.whole) → ⊥
              never (inl q) =
                  let s = subst (λ (e : Split). Stands st.starts e.whole) same_split q.1 in
                  let clash : Some s.0 ≡ None = sym s.1 ∙ none in
                  cc clash
              never (inr q) = (let clash : true ≡ false = sym shifted ∙ not_shifted rs c (subst (λ (e : Split). keeps_rest rs e ≡ true) same_split q.0) in cc clash)
          of (inl b) = (bare, block ∷ [], subst (λ (a : StandingText). IsNow a bare (block ∷ [])) (sym is) now)
            where
              next_is : st.next ≡ m + 1
              next_is = h.next ∙ (let long : length lets ≡ 0 = ap (λ (es : List Entry). length es) b.lets_are in omega (arith, long))

              place_is : st.next ≡ n + (e0 + 1)
              place_is = next_is ∙ omega arith

              outer_is : outer ≡ alone m
              outer_is =
                  own_leaf c.outer outer name (leaf_outer head n least c mc outer (found_all (Right head n least) st.known c.outer outer (least_right st own lets b).known known))

              first_so : (es : List Entry) → Extends (es0 ++ bare ∷ block ∷ []) es → slice_get es e0 ≡ Some bare
              first_so es ext = ext e0 bare (first_behind es0 bare (block ∷ []))

              second_so : (es : List Entry) → Extends (es0 ++ bare ∷ block ∷ []) es → slice_get es (e0 + 1) ≡ Some block
              second_so es ext = ext (e0 + 1) block (second_behind es0 bare block [])

              behind_so : (es : List Entry) → Extends (es0 ++ bare ∷ block ∷ []) es → (j : ℕ) (e : Entry) → slice_get (block ∷ []) j ≡ Some e → IsEntry head n es ts (e0 + suc j) e
              behind_so es ext zero e q =
                  let is_block : block ≡ e = cc q in
                  subst (IsEntry head n es ts (e0 + 1)) is_block (inr (record {
                    split = c;
                    among = mc;
                    turning = refl;
                    bare = refl;
                    kind = inl (record {
                      shifted = shifted;
                      outer_at = e0;
                      outer = bare;
                      outer_there = first_so es ext;
                      outer_loop = refl;
                      outer_name = name;
                      behind = refl;
                      form = form;
                      begins = ap (combined (number (num c).low) (pos c.factor)) (sym outer_is) ∙ sum;
                      line = refl;
                    });
                  }))
              behind_so es ext (suc j) e q = absurd (cc q)

              few_so : (j : ℕ) (e : Entry) → slice_get (block ∷ []) j ≡ Some e → (j ≡ 0) × (is_loop e.line ≡ false) × (e.turning ≡ let_of rs c) × (t.name ≡ c.outer)
              few_so zero e q = (let is_block : block ≡ e = cc q in (refl, ap (λ (x : Entry). is_loop x.line) (sym is_block), ap (λ (x : Entry). x.turning) (sym is_block), name))
              few_so (suc j) e q = absurd (cc q)

              now : IsNow (starts_at c.whole (alone st.next) (name_smaller form (room (num c) c.factor) st)) bare (block ∷ [])
              now = record {
                status = inr (record {
                  split = c;
                  among = mc;
                  half = inl name;
                  ended = inl (shifted, stands_last st.starts k);
                  right = λ es ext. (let g = b.right es (extends_left es0 (bare ∷ block ∷ []) es ext) (bare, first_so es ext, refl, refl) in
                      record {
                        known = g.known;
                        starts = start_right head n es c mc st g outer form (alone st.next) known sum (inr (
                          shifted,
                          st.next,
                          inr (
                            e0 + 1,
                            second_so es ext,
                            place_is,
                          ),
                          refl,
                        ));
                      });
                  first = λ es ext. inl (record { loop = refl; place = i; there = at; limits = inl refl; line = refl });
                  behind = behind_so;
                  few = few_so;
                });
                turning = refl;
                loop = refl;
                lead = (λ j. Turns m (span t.low t.last (b.limits j)) t.kind ∷ (b.steps j ++ Named (next_is j) Min (form ∷ number (room (num c) c.factor) ∷ []) ∷ []));
                next = ap (λ (q : ℕ). q + 1) next_is;
                bound = h.bound;
                more = h.more;
                begun = λ y q. stands_more st.starts k y (h.begun y q);
                here = h.here;
                fewer = h.fewer;
                fewer_starts = λ y q. by y q (found_more st.starts k y q.0 q.1);
              }
                where
                  by : (y : List ℕ) (q : Stands (st.starts ++ record { name = c.whole; form = alone st.next } ∷ []) y) → (form_named st.starts y ≡ Some q.0) ⊎ ((c.whole ≡ y) × (alone st.next ≡ q.0)) →
                      Stands st0.starts y ⊎ ((c : Split) × In c cuts × (c.whole ≡ y) × (t.name ≡ c.outer))
                  by y q (inl e) = h.fewer_starts y (q.0, e)
                  by y q (inr e) = inr (c, mc, e.0, name)

      opens_now : (c : Split) → In c cuts → In c cs → (st new : StandingText) → Now st → (new ≡ st) ⊎ Opens c (num c) st new → Now new
      opens_now c mc mcs st new (own, lets, h) (inl e) = (own, lets, subst (λ (a : StandingText). IsNow a own lets) (sym e) h)
      opens_now c mc mcs st new (own, lets, h) (inr o) = of c.tail refl o.is
        where
          name : t.name ≡ c.outer
          name = opens_name c mc mcs st own lets h o.none (o.outer, o.known)

          of : (tail : Tail) → c.tail ≡ tail → new ≡ begin_at tail c.whole o.form (room (num c) c.factor) st → Now new
          of Guard e q = (own, lets, plain_now c mc (ap (λ (x : Tail). elim x [ Guard ↦ false | Roundup ↦ false | Shift ↦ true ]) e) st new own lets h name o.outer o.form o.known o.sum q)
          of Roundup e q = (own, lets, plain_now c mc (ap (λ (x : Tail). elim x [ Guard ↦ false | Roundup ↦ false | Shift ↦ true ]) e) st new own lets h name o.outer o.form o.known o.sum q)
          of Shift e q = shift_now c mc (ap (λ (x : Tail). elim x [ Guard ↦ false | Roundup ↦ false | Shift ↦ true ]) e) st new own lets h name o.none o.outer o.form o.known o.sum q

      -- ---- a position is put together

      -- one more name
      fewer_more : (st : StandingText) (c : Split) → In c cuts → (form : Form) → ((y : List ℕ) → Stands st.known y → (Stands st0.known y ⊎ (t.name ≡ y)) ⊎ ((c : Split) × In c cuts × (c.whole ≡ y))) →
          (y : List ℕ) → Stands (st.known ++ record { name = c.whole; form = form } ∷ []) y → (Stands st0.known y ⊎ (t.name ≡ y)) ⊎ ((c : Split) × In c cuts × (c.whole ≡ y))
      fewer_more st c mc form fewer y k = of (found_more st.known (record { name = c.whole; form = form }) y k.0 k.1)
        where
          of : (form_named st.known y ≡ Some k.0) ⊎ ((c.whole ≡ y) × (form ≡ k.0)) → (Stands st0.known y ⊎ (t.name ≡ y)) ⊎ ((c : Split) × In c cuts × (c.whole ≡ y))
          of (inl e) = fewer y (k.0, e)
          of (inr e) = inr (c, mc, e.0)

      fills_now : (c : Split) → In c cuts → keeps_rest rs c ≡ false → (st new : StandingText) → Now st → (new ≡ st) ⊎ Fills c st new → Now new
      fills_now c mc free st new (own, lets, h) (inl e) = (own, lets, subst (λ (a : StandingText). IsNow a own lets) (sym e) h)
      fills_now c mc free st new (own, lets, h) (inr o) = (own, lets, subst (λ (a : StandingText). IsNow a own lets) (sym o.is) now)
        where
          k : Known
          k = record { name = c.whole; form = o.form }

          all : (es : List Entry) → AreRight head n es st → AreRight head n es (is_now c.whole o.form st)
          all es g = record { known = whole_right head n es c mc st g o.start o.inner o.form o.form o.first o.second o.sum (inl (free, refl)); starts = g.starts }

          of : IsBare st own lets ⊎ IsDone st own lets → IsBare (is_now c.whole o.form st) own lets ⊎ IsDone (is_now c.whole o.form st) own lets
          of (inl b) = inl (record { own_is = b.own_is; lets_are = b.lets_are; steps = b.steps; limits = b.limits; right = λ es ext has. all es (b.right es ext has) })
          of (inr d) = inr (record {
            split = d.split;
            among = d.among;
            half = d.half;
            ended = ends d.ended;
            right = λ es ext. all es (d.right es ext);
            first = d.first;
            behind = d.behind;
            few = d.few;
          })
            where
              ends : ((is_shifted d.split ≡ true) × Stands st.starts d.split.whole) ⊎ ((keeps_rest rs d.split ≡ true) × Stands st.known d.split.whole) →
                  ((is_shifted d.split ≡ true) × Stands st.starts d.split.whole) ⊎ ((keeps_rest rs d.split ≡ true) × Stands (st.known ++ record { name = c.whole; form = o.form } ∷ []) d.split.whole)
              ends (inl q) = inl q
              ends (inr q) = inr (q.0, stands_more st.known (record { name = c.whole; form = o.form }) d.split.whole q.1)

          now : IsNow (is_now c.whole o.form st) own lets
          now = record {
            status = of h.status;
            turning = h.turning;
            loop = h.loop;
            lead = h.lead;
            next = h.next;
            bound = h.bound;
            more = λ y q. stands_more st.known k y (h.more y q);
            begun = h.begun;
            here = stands_more st.known k t.name h.here;
            fewer = fewer_more st c mc o.form h.fewer;
            fewer_starts = h.fewer_starts;
          }

      -- ---- a guarded split

      module _ (w : Kind) (kind_is : t.kind ≡ w) (c : Split) (mc : In c cuts) (mcs : In c cs) (rests : keeps_rest rs c ≡ true) (st new : StandingText) (own : Entry) (lets : List Entry) (h :
          IsNow st own lets)
          (o : Keeps (inside w) c (last_number (num c)) st new) where
        abbrev last : ℤ
        last = last_number (num c)

        abbrev low : ℤ
        low = (num c).low

        plain : is_shifted c ≡ false
        plain = not_shifted rs c rests

        -- one of its loops is the one that is entered
        half : (t.name ≡ c.outer) ⊎ (t.name ≡ c.inner)
        half = of (h.fewer c.inner (o.inner, o.second))
          where
            of : (Stands st0.known c.inner ⊎ (t.name ≡ c.inner)) ⊎ ((d : Split) × In d cuts × (d.whole ≡ c.inner)) → (t.name ≡ c.outer) ⊎ (t.name ≡ c.inner)
            of (inl (inr e)) = inr e
            of (inr (d, md, e)) = absurd ((once d c md mc).1 e)
            of (inl (inl k)) = by (h.fewer_starts c.whole (o.start, o.first))
              where
                by : Stands st0.starts c.whole ⊎ ((d : Split) × In d cuts × (d.whole ≡ c.whole) × (t.name ≡ d.outer)) → (t.name ≡ c.outer) ⊎ (t.name ≡ c.inner)
                by (inl s) =
                    let whole = h.more c.whole ((closed_here c mcs).joined s k) in
                    let clash : Some whole.0 ≡ None = sym whole.1 ∙ o.none in
                    absurd (cc clash)
                by (inr (d, md, e, p)) = inl (p ∙ ap (λ (x : Split). x.outer) (by_whole cuts others d c md mc e))

        -- nothing was made before
        still_bare : IsBare st own lets
        still_bare = of h.status
          where
            of : IsBare st own lets ⊎ IsDone st own lets → IsBare st own lets
            of (inl b) = b
            of (inr d) = absurd (never d.ended)
              where
                same_split : d.split ≡ c
                same_split = half_is d.split c d.among mc d.half half

                never : ((is_shifted d.split ≡ true) × Stands st.starts d.split.whole) ⊎ ((keeps_rest rs d.split ≡ true) × Stands st.known d.split.whole) → ⊥
                never (inl q) = (let clash : true ≡ false = sym q.0 ∙ ap is_shifted same_split ∙ plain in cc clash)
                never (inr q) =
                    let s = subst (λ (e : Split). Stands st.known e.whole) same_split q.1 in
                    let clash : Some s.0 ≡ None = sym s.1 ∙ o.none in
                    cc clash

        here : AreRight head n least st
        here = least_right st own lets still_bare

        begun_here : IsStart head n least c.whole o.start
        begun_here = found_all (IsStart head n least) st.starts c.whole o.start here.starts o.first

        split_is : begun_here.split ≡ c
        split_is = by_whole cuts others begun_here.split c begun_here.there mc begun_here.is

        outer_leaf : Leaf head n least c.outer begun_here.outer
        outer_leaf = subst (λ (d : Split). Leaf head n least d.outer begun_here.outer) split_is begun_here.by_outer

        start_is : o.start ≡ begun_here.form
        start_is = of begun_here.begun
          where
            of : IsBegun head n least begun_here.split begun_here.form o.start → o.start ≡ begun_here.form
            of (inl q) = q.1
            of (inr q) = (let clash : true ≡ false = sym q.0 ∙ ap is_shifted split_is ∙ plain in absurd (cc clash))

        begins : combined (number low) (pos c.factor) begun_here.outer ≡ Some o.start
        begins =
            subst (λ (d : Split). combined (number (num d).low) (pos d.factor) begun_here.outer ≡ Some begun_here.form) split_is begun_here.begins ∙ ap (λ (f : Form). Some f) (sym start_is)

        inner_leaf : Leaf head n least c.inner o.inner
        inner_leaf = leaf_inner head n least c mc o.inner (found_all (Right head n least) st.known c.inner o.inner here.known o.second)

        halves_differ : c.inner ≡ c.outer → ⊥
        halves_differ e = inner_outer cuts others c c mc mc e

        next_is : st.next ≡ m + 1
        next_is = (let b = still_bare in h.next ∙ (let long : length lets ≡ 0 = ap (λ (es : List Entry). length es) b.lets_are in omega (arith, long)))

        right_with : (es : List Entry) → Extends es0 es → HasTurn es → (f : Form) → Kept head n es c o.form f → AreRight head n es (is_now c.whole f st)
        right_with es ext has f kept_so = (let g = still_bare.right es ext has in
            record { known = whole_right head n es c mc st g o.start o.inner o.form f o.first o.second o.sum kept_so; starts = g.starts })

        -- what is so besides
        made_now : (own' : Entry) (lets' : List Entry) (f : Form) (st' : StandingText) → st'.known ≡ st.known ++ record { name = c.whole; form = f } ∷ [] → st'.starts ≡ st.starts →
            st'.bound ≡ st.bound →
            own'.turning ≡ t → is_loop own'.line ≡ true → Turns m (span t.low t.last st'.limits) t.kind ∷ st'.steps ≡ entry_steps m (own' ∷ lets') → st'.next ≡ (m + 1) + length lets' →
            ((es : List Entry) → Extends (es0 ++ own' ∷ lets') es → AreRight head n es (is_now c.whole f st)) →
            ((es : List Entry) → Extends (es0 ++ own' ∷ lets') es → IsEntry head n es ts e0 own') →
            ((es : List Entry) → Extends (es0 ++ own' ∷ lets') es → (j : ℕ) (e : Entry) → slice_get lets' j ≡ Some e → IsEntry head n es ts (e0 + suc j) e) →
            ((j : ℕ) (e : Entry) → slice_get lets' j ≡ Some e → (j ≡ 0) × (is_loop e.line ≡ false) × (e.turning ≡ let_of rs c) × (t.name ≡ c.outer)) → IsNow st' own' lets'
        made_now own' lets' f st' known starts bound_is turning loop lead next_so right first behind few =
            let k : Known = record { name = c.whole; form = f } in
            record {
              status = inr (record {
                split = c;
                among = mc;
                half = half;
                ended = inr (rests, subst (λ (ks : List Known). Stands ks c.whole) (sym known) (stands_last st.known k));
                right = λ es ext. (let g = right es ext in record {
                  known = subst (λ (ks : List Known). AllByRecursion (λ k. Right head n es k.name k.form) ks) (sym known) g.known;
                  starts = subst (λ (ks : List Known). AllByRecursion (λ k. IsStart head n es k.name k.form) ks) (sym starts) g.starts;
                });
                first = first;
                behind = behind;
                few = few;
              });
              turning = turning;
              loop = loop;
              lead = lead;
              next = next_so;
              bound = ap (λ (bs : List ℕ). is_bound bs m) bound_is ∙ h.bound;
              more = λ y q. subst (λ (ks : List Known). Stands ks y) (sym known) (stands_more st.known k y (h.more y q));
              begun = λ y q. subst (λ (ks : List Known). Stands ks y) (sym starts) (h.begun y q);
              here = subst (λ (ks : List Known). Stands ks t.name) (sym known) (stands_more st.known k t.name h.here);
              fewer = λ y q. fewer_more st c mc f h.fewer y (subst (λ (ks : List Known). Stands ks y) known q);
              fewer_starts = λ y q. h.fewer_starts y (subst (λ (ks : List Known). Stands ks y) starts q);
            }

        position : (s k : ℕ) → (s == k) ≡ false → begun_here.outer ≡ counted_from (pos 0) s → o.inner ≡ alone k →
            o.form.terms ≡ (if nat_lt s k then multiple s (pos c.factor) ∷ multiple k (pos 1) ∷ [] else multiple k (pos 1) ∷ multiple s (pos c.factor) ∷ [])
        position s k differ outer_is inner_is =
            let begins_so = ap (combined (number low) (pos c.factor)) (sym outer_is) ∙ begins in
            let sum_so = ap (combined o.start (pos 1)) (sym inner_is) ∙ o.sum in
            let form = pair_is low c.factor s (some c mc) k o.start o.form differ begins_so sum_so in
            ap (λ (f : Form). f.terms) form.0

        -- ---- the inner loop is entered

        module _ (name : t.name ≡ c.inner) where
          early : Early c.outer begun_here.outer
          early = other_leaf c.outer begun_here.outer (λ e. halves_differ (sym name ∙ e)) outer_leaf

          inner_is : o.inner ≡ alone m
          inner_is = own_leaf c.inner o.inner name inner_leaf

          sum_so : combined o.start (pos 1) (alone m) ≡ Some o.form
          sum_so = ap (combined o.start (pos 1)) (sym inner_is) ∙ o.sum

          below_is : (s : ℕ) × (begun_here.outer ≡ counted_from (pos 0) s) × (s < m)
          below_is = of early
            where
              of : Early c.outer begun_here.outer → (s : ℕ) × (begun_here.outer ≡ counted_from (pos 0) s) × (s < m)
              of (inl over) = (let r = outers c mc begun_here.outer over in let less = r.2 in (r.0, r.1, omega (arith, less)))
              of (inr (j, e, at_j, loop, p, is)) = (let less = short_place es0 j e at_j in (n + j, is, omega (arith, less)))

          innermost_is : innermost st.bound o.form ≡ Some m
          innermost_is =
              let less = below_is.2 in
              let differ : (below_is.0 == m) ≡ false = grind (arith, nat_tests, less) in
              let first : nat_lt below_is.0 m ≡ true = grind (arith, nat_tests, less) in
              let terms : o.form.terms ≡ multiple below_is.0 (pos c.factor) ∷ multiple m (pos 1) ∷ [] =
              position below_is.0 m differ below_is.1 inner_is
              ∙ (λ j. if first j then multiple below_is.0 (pos c.factor) ∷ multiple m (pos 1) ∷ [] else multiple m (pos 1) ∷ multiple below_is.0 (pos c.factor) ∷ []) in
              let stands = h.bound in
              ap (λ (ms : List Multiple). elim (slice_get ms (length ms - 1)) [ Some t ↦ counted_once st.bound t | None ↦ None ]) terms
              ∙ (λ j. if stands j && true then Some m else None)

          by_loop : keep_by_loop c.whole o.form last m st ≡ Some new
          by_loop = of w ∙ ap (keep_within (inside w) c.whole o.form last st) (sym innermost_is) ∙ o.is
            where
              of : (k : Kind) → keep_by_loop c.whole o.form last m st ≡ keep_within (inside k) c.whole o.form last st (Some m)
              of Serial = refl
              of Unroll = refl
              of Vector = refl

          limited_now : Now new
          limited_now =
              let b = bound (combined (number last) (negsuc 0) (without o.form m)) (λ limit. Some (is_now c.whole o.form (record st { limits = st.limits ++ limit ∷ [] }))) new by_loop in
              let is : is_now c.whole o.form (record st { limits = st.limits ++ b.value ∷ [] }) ≡ new =
              same (is_now c.whole o.form (record st { limits = st.limits ++ b.value ∷ [] })) new b.comes in
              let own' : Entry = record { turning = t; line = Loop; limits = b.value ∷ [] } in
              (own', [], subst (λ (a : StandingText). IsNow a own' []) is (made b.value b.is))
            where
              made : (limit : Form) → combined (number last) (negsuc 0) (without o.form m) ≡ Some limit →
                  IsNow (is_now c.whole o.form (record st { limits = st.limits ++ limit ∷ [] })) (record { turning = t; line = Loop; limits = limit ∷ [] }) []
              made limit less =
                  let own' : Entry = record { turning = t; line = Loop; limits = limit ∷ [] } in
                  let b = still_bare in
                  let is_limit : (es : List Entry) → Extends es0 es → IsLimit head n es e0 c limit =
                  λ es ext. record {
                    outer = begun_here.outer;
                    start = o.start;
                    form = o.form;
                    by_outer = early_before es ext c.outer begun_here.outer early;
                    begins = begins;
                    sum = sum_so;
                    less = less;
                  } in
                  let there : (es : List Entry) → Extends (es0 ++ own' ∷ []) es → slice_get es e0 ≡ Some own' = λ es ext. ext e0 own' (first_behind es0 own' []) in
                  made_now own' [] o.form (is_now c.whole o.form (record st { limits = st.limits ++ limit ∷ [] })) refl refl refl refl refl
                  (λ j. Turns m (span t.low t.last (b.limits j ++ limit ∷ [])) t.kind ∷ b.steps j)
                  (next_is ∙ omega arith)
                  (λ es ext. right_with es (extends_left es0 (own' ∷ []) es ext) (own', there es ext, refl, refl) o.form (inr (inl (record {
                    keeps = rests;
                    place = e0;
                    entry = own';
                    there = there es ext;
                    name = name;
                    limit = limit;
                    is_limit = is_limit es (extends_left es0 (own' ∷ []) es ext);
                    limits = refl;
                    is = refl;
                  }))))
                  (λ es ext. inl (record {
                    loop = refl;
                    place = i;
                    there = at;
                    limits = inr (c, mc, rests, name, limit, is_limit es (extends_left es0 (own' ∷ []) es ext), refl);
                    line = refl;
                  }))
                  (λ es ext j e q. absurd (cc q)) (λ j e q. absurd (cc q))

        -- ---- the outer loop is entered

        module _ (name : t.name ≡ c.outer) where
          outer_is : begun_here.outer ≡ alone m
          outer_is = own_leaf c.outer begun_here.outer name outer_leaf

          inner_early : (j : ℕ) × (e : Entry) × (slice_get es0 j ≡ Some e) × (is_loop e.line ≡ true) × (e.turning.name ≡ c.inner) × (o.inner ≡ alone (n + j))
          inner_early = of (other_leaf c.inner o.inner (λ e. halves_differ (sym e ∙ name)) inner_leaf)
            where
              of : Early c.inner o.inner → (j : ℕ) × (e : Entry) × (slice_get es0 j ≡ Some e) × (is_loop e.line ≡ true) × (e.turning.name ≡ c.inner) × (o.inner ≡ alone (n + j))
              of (inl over) = (let clash : Some o.inner ≡ None = sym over ∙ inners c mc in absurd (cc clash))
              of (inr k) = k

          abbrev j0 : ℕ
          j0 = inner_early.0

          before_it : j0 < e0
          before_it = short_place es0 j0 inner_early.1 inner_early.2

          innermost_none : innermost st.bound o.form ≡ None
          innermost_none =
              let less = before_it in
              let differ : (m == n + j0) ≡ false = grind (arith, nat_tests, less) in
              let behind : nat_lt m (n + j0) ≡ false = grind (arith, nat_tests, less) in
              let terms : o.form.terms ≡ multiple (n + j0) (pos 1) ∷ multiple m (pos c.factor) ∷ [] =
              position m (n + j0) differ outer_is inner_early.5
              ∙ (λ j. if behind j then multiple m (pos c.factor) ∷ multiple (n + j0) (pos 1) ∷ [] else multiple (n + j0) (pos 1) ∷ multiple m (pos c.factor) ∷ []) in
              let wide = not_one c.factor (wide_rest rs c (some c mc) rests) in
              ap (λ (ms : List Multiple). elim (slice_get ms (length ms - 1)) [ Some t ↦ counted_once st.bound t | None ↦ None ]) terms
              ∙ (λ j. if is_bound st.bound m && wide j then Some m else None) ∙ none (is_bound st.bound m)
            where
              not_one : (q : ℕ) → 2 ≤ q → int_eq (pos q) (pos 1) ≡ false
              not_one q le = which (int_eq (pos q) (pos 1)) refl
                where
                  which : (b : Bool) → int_eq (pos q) (pos 1) ≡ b → int_eq (pos q) (pos 1) ≡ false
                  which true e = (let is = number_true (pos q) (pos 1) e in absurd (omega (arith, ints, is, le)))
                  which false e = e

              none : (b : Bool) → (if b && false then Some m else None) ≡ None
              none true = refl
              none false = refl

          comes : keep_within (inside w) c.whole o.form last st None ≡ Some new
          comes = ap (keep_within (inside w) c.whole o.form last st) (sym innermost_none) ∙ o.is

          abbrev pair_there : (es : List Entry) → Extends es0 es → (own' : Entry) → slice_get es e0 ≡ Some own' → own'.turning ≡ t → is_loop own'.line ≡ true → IsPair head n es c o.form
          pair_there es ext own' there turning loop = record {
            outer_at = e0;
            outer = own';
            outer_there = there;
            outer_loop = loop;
            outer_name = ap (λ (x : Turning). x.name) turning ∙ name;
            inner_at = j0;
            inner = inner_early.1;
            inner_there = ext j0 inner_early.1 inner_early.2;
            inner_loop = inner_early.3;
            inner_name = inner_early.4;
            before = before_it;
            start = o.start;
            begins = ap (combined (number low) (pos c.factor)) (sym outer_is) ∙ begins;
            sum = ap (combined o.start (pos 1)) (sym inner_early.5) ∙ o.sum;
          }

          abbrev pair : Entry
          pair = record { turning = let_of rs c; line = Pair o.form last; limits = [] }

          first_so : (es : List Entry) → Extends (es0 ++ bare ∷ pair ∷ []) es → slice_get es e0 ≡ Some bare
          first_so es ext = ext e0 bare (first_behind es0 bare (pair ∷ []))

          second_so : (es : List Entry) → Extends (es0 ++ bare ∷ pair ∷ []) es → slice_get es (e0 + 1) ≡ Some pair
          second_so es ext = ext (e0 + 1) pair (second_behind es0 bare pair [])

          abbrev both : (es : List Entry) → Extends (es0 ++ bare ∷ pair ∷ []) es → IsPair head n es c o.form
          both es ext = pair_there es (extends_left es0 (bare ∷ pair ∷ []) es ext) bare (first_so es ext) refl refl

          behind_so : (es : List Entry) → Extends (es0 ++ bare ∷ pair ∷ []) es → (j : ℕ) (e : Entry) → slice_get (pair ∷ []) j ≡ Some e → IsEntry head n es ts (e0 + suc j) e
          behind_so es ext zero e q =
              let is_pair : pair ≡ e = cc q in
              subst (IsEntry head n es ts (e0 + 1)) is_pair (inr (record { split = c; among = mc; turning = refl; bare = refl; kind = inr (rests, o.form, both es ext, refl, refl) }))
          behind_so es ext (suc j) e q = absurd (cc q)

          few_so : (j : ℕ) (e : Entry) → slice_get (pair ∷ []) j ≡ Some e → (j ≡ 0) × (is_loop e.line ≡ false) × (e.turning ≡ let_of rs c) × (t.name ≡ c.outer)
          few_so zero e q =
              let is_pair : pair ≡ e = cc q in
              (refl, ap (λ (x : Entry). is_loop x.line) (sym is_pair), ap (λ (x : Entry). x.turning) (sym is_pair), name)
          few_so (suc j) e q = absurd (cc q)

          guarded : new ≡ keep_by_guard c.whole o.form last st → Now new
          guarded is =
              let b = still_bare in
              let place_is : alone st.next ≡ alone (n + (e0 + 1)) = ap alone (next_is ∙ omega arith) in (
                bare,
                pair ∷ [],
                subst (λ (a : StandingText). IsNow a bare (pair ∷ [])) (sym is) (made_now bare (pair ∷ []) (alone st.next) (keep_by_guard c.whole o.form last st) refl refl refl refl refl
                    (λ j. Turns m (span t.low t.last (b.limits j)) t.kind ∷ ((b.steps j ++ Tested o.form (number last) ∷ []) ++ Named (next_is j) Min (o.form ∷ number last ∷ []) ∷ []))
                    (ap (λ (q : ℕ). q + 1) next_is)
                    (λ es ext. right_with es (extends_left es0 (bare ∷ pair ∷ []) es ext) (bare, first_so es ext, refl, refl) (alone st.next)
                    (inr (inr (record { keeps = rests; pair = both es ext; there = second_so es ext; is = place_is }))))
                    (λ es ext. inl (record { loop = refl; place = i; there = at; limits = inl refl; line = refl }))
                    behind_so few_so),
              )

          outer_now : Now new
          outer_now = of w kind_is comes
            where
              some_is : (a : StandingText) → Some a ≡ Some new → new ≡ a
              some_is a e = cc e

              of : (k : Kind) → t.kind ≡ k → keep_within (inside k) c.whole o.form last st None ≡ Some new → Now new
              of Serial is e = guarded (some_is (keep_by_guard c.whole o.form last st) e)
              of Unroll is e = guarded (some_is (keep_by_guard c.whole o.form last st) e)
              of Vector is e = (let d = lanes i t at is in absurd (inner_outer cuts others d.0 c d.1 mc (d.2 ∙ name)))

        keeps_now : Now new
        keeps_now = of half
          where
            of : (t.name ≡ c.outer) ⊎ (t.name ≡ c.inner) → Now new
            of (inl e) = outer_now e
            of (inr e) = limited_now e

      -- ---- all splits

      settled : (all : List Split) → AllByRecursion (λ d. In d cuts) all → (ds : List Split) → AllByRecursion (λ d. In d cuts × In d cs) ds → (st new : StandingText) → Now st →
          settle_some (inside t.kind) rs all ds st ≡ Some new → Now new
      settled all every [] among st new h e = subst Now (same st new e) h
      settled all every (c ∷ ds) among st new h e =
          let b = bound (begin c (num c) st) (λ begun. join (inside t.kind) (is_guarded rs all c) c (num c) begun >>= settle_some (inside t.kind) rs all ds) new e in
          let m = bound (join (inside t.kind) (is_guarded rs all c) c (num c) b.value) (settle_some (inside t.kind) rs all ds) new b.comes in
          let one = opens_now c among.0.0 among.0.1 st b.value h (opened rs c st b.value b.is) in
          let joined : join (inside t.kind) (keeps_rest rs c) c (num c) b.value ≡ Some m.value =
          ap (λ (g : Bool). join (inside t.kind) g c (num c) b.value) (sym (guarded_is c among.0.0 all every)) ∙ m.is in
          settled all every ds among.1 m.value new (of c among.0 b.value m.value one (keeps_rest rs c) refl joined) m.comes
        where
          of : (c : Split) → In c cuts × In c cs → (st mid : StandingText) → Now st → (g : Bool) → keeps_rest rs c ≡ g → join (inside t.kind) g c (num c) st ≡ Some mid → Now mid
          of c k st mid h false e q = fills_now c k.0 e st mid h (filled rs c (inside t.kind) st mid q)
          of c k st mid (own, lets, h) true e q = by (kept rs c (inside t.kind) st mid q)
            where
              by : (mid ≡ st) ⊎ Keeps (inside t.kind) c (last_number (num c)) st mid → Now mid
              by (inl same_state) = subst Now (sym same_state) (own, lets, h)
              by (inr o) = keeps_now t.kind refl c k.0 k.1 e st mid own lets h o

      -- ---- behind the loop

      -- no earlier entry has its name
      not_named : (j : ℕ) (e : Entry) → slice_get es0 j ≡ Some e → e.turning.name ≡ t.name → ⊥
      not_named j e at_j name = of (before.earlier j e at_j)
        where
          of : ((is_loop e.line ≡ true) × (k : ℕ) × (slice_get ts k ≡ Some e.turning) × (k < i))
              ⊎ ((is_loop e.line ≡ false) × (c : Split) × In c cuts × (e.turning ≡ let_of rs c) × (k : ℕ) × (u : Turning) × (slice_get ts k ≡ Some u) × (u.name ≡ c.outer) × (k < i)) → ⊥
          of (inl (l, k, at_k, less)) = (let place : k ≡ i = unique k i e.turning t at_k at name in omega (arith, place, less))
          of (inr k) = apart i t at k.1 k.2 (sym name ∙ ap (λ (x : Turning). x.name) k.3)

      -- nor that of a let behind it
      not_let : (d : Split) → In d cuts → t.name ≡ d.outer → (j : ℕ) (e : Entry) → slice_get es0 j ≡ Some e → e.turning.name ≡ d.whole → ⊥
      not_let d md outer j e at_j name = of (before.earlier j e at_j)
        where
          of : ((is_loop e.line ≡ true) × (k : ℕ) × (slice_get ts k ≡ Some e.turning) × (k < i))
              ⊎ ((is_loop e.line ≡ false) × (c : Split) × In c cuts × (e.turning ≡ let_of rs c) × (k : ℕ) × (u : Turning) × (slice_get ts k ≡ Some u) × (u.name ≡ c.outer) × (k < i)) → ⊥
          of (inl (l, k, at_k, less)) = apart k e.turning at_k d md name
          of (inr k) =
              let is : k.1 ≡ d = by_whole cuts others k.1 d k.2 md (sym (ap (λ (x : Turning). x.name) k.3) ∙ name) in
              let place : k.4 ≡ i = unique k.4 i k.5 t k.6 at (k.7 ∙ ap (λ (x : Split). x.outer) is ∙ sym outer) in
              let less = k.8 in
              omega (arith, place, less)

      module _ (st : StandingText) (own : Entry) (lets : List Entry) (h : IsNow st own lets) where
        abbrev next_entries : List Entry
        next_entries = es0 ++ own ∷ lets

        -- the loop's entry, and those of lets
        abbrev Place : ℕ → Entry → Type 0
        Place j e = (slice_get es0 j ≡ Some e) ⊎ (((j ≡ e0) × (own ≡ e)) ⊎ ((k : ℕ) × (j ≡ e0 + suc k) × (slice_get lets k ≡ Some e)))

        placed : (j : ℕ) (e : Entry) → slice_get next_entries j ≡ Some e → Place j e
        placed j e at_j = of (parted es0 (own ∷ lets) j e at_j)
          where
            of : (slice_get es0 j ≡ Some e) ⊎ ((k : ℕ) × (j ≡ length es0 + k) × (slice_get (own ∷ lets) k ≡ Some e)) → Place j e
            of (inl k) = inl k
            of (inr (zero, place, k)) = inr (inl (omega (arith, place), cc k))
            of (inr (suc k, place, q)) = inr (inr (k, place, q))

        let_facts : (k : ℕ) (e : Entry) → slice_get lets k ≡ Some e → (k ≡ 0) × (is_loop e.line ≡ false) × (d : Split) × In d cuts × (e.turning ≡ let_of rs d) × (t.name ≡ d.outer)
        let_facts k e q = of h.status
          where
            of : IsBare st own lets ⊎ IsDone st own lets → (k ≡ 0) × (is_loop e.line ≡ false) × (d : Split) × In d cuts × (e.turning ≡ let_of rs d) × (t.name ≡ d.outer)
            of (inl b) = (let none : slice_get [] k ≡ Some e = ap (λ (es : List Entry). slice_get es k) (sym b.lets_are) ∙ q in absurd (cc none))
            of (inr d) = (let f = d.few k e q in (f.0, f.1, d.split, d.among, f.2, f.3))

        entry_at : (es : List Entry) → Extends next_entries es → (j : ℕ) (e : Entry) → slice_get next_entries j ≡ Some e → IsEntry head n es ts j e
        entry_at es ext j e at_j = of (placed j e at_j)
          where
            of : Place j e → IsEntry head n es ts j e
            of (inl k) = before.entries es (extends_left es0 (own ∷ lets) es ext) j e k
            of (inr (inl (place, is))) = subst (λ (q : ℕ). IsEntry head n es ts q e) (sym place) (subst (IsEntry head n es ts e0) is (by h.status))
              where
                by : IsBare st own lets ⊎ IsDone st own lets → IsEntry head n es ts e0 own
                by (inl b) = subst (IsEntry head n es ts e0) (sym b.own_is) (inl (record { loop = refl; place = i; there = at; limits = inl refl; line = refl }))
                by (inr d) = d.first es ext
            of (inr (inr (k, place, q))) = subst (λ (q : ℕ). IsEntry head n es ts q e) (sym place) (by h.status)
              where
                by : IsBare st own lets ⊎ IsDone st own lets → IsEntry head n es ts (e0 + suc k) e
                by (inl b) = (let none : slice_get [] k ≡ Some e = ap (λ (es : List Entry). slice_get es k) (sym b.lets_are) ∙ q in absurd (cc none))
                by (inr d) = d.behind es ext k e q

        own_name : own.turning.name ≡ t.name
        own_name = ap (λ (x : Turning). x.name) h.turning

        once_so : (j k : ℕ) (e f : Entry) → slice_get next_entries j ≡ Some e → slice_get next_entries k ≡ Some f → e.turning.name ≡ f.turning.name → j ≡ k
        once_so j k e f at_j at_k names = of (placed j e at_j) (placed k f at_k)
          where
            own_let : (d : Split) → In d cuts → t.name ≡ d.whole → ⊥
            own_let d md p = apart i t at d md p

            of : Place j e → Place k f → j ≡ k
            of (inl a) (inl b) = before.once_each j k e f a b names
            of (inl a) (inr (inl (place, is))) = absurd (not_named j e a (names ∙ ap (λ (x : Entry). x.turning.name) (sym is) ∙ own_name))
            of (inl a) (inr (inr (q, place, r))) = (let l = let_facts q f r in absurd (not_let l.2 l.3 l.5 j e a (names ∙ ap (λ (x : Turning). x.name) l.4)))
            of (inr (inl (place, is))) (inl b) = absurd (not_named k f b (sym names ∙ ap (λ (x : Entry). x.turning.name) (sym is) ∙ own_name))
            of (inr (inl (place, is))) (inr (inl (place', is'))) = place ∙ sym place'
            of (inr (inl (place, is))) (inr (inr (q, place', r))) =
                let l = let_facts q f r in
                absurd (own_let l.2 l.3 (sym own_name ∙ ap (λ (x : Entry). x.turning.name) is ∙ names ∙ ap (λ (x : Turning). x.name) l.4))
            of (inr (inr (q, place, r))) (inl b) = (let l = let_facts q e r in absurd (not_let l.2 l.3 l.5 k f b (sym names ∙ ap (λ (x : Turning). x.name) l.4)))
            of (inr (inr (q, place, r))) (inr (inl (place', is'))) =
                let l = let_facts q e r in
                absurd (own_let l.2 l.3 (sym own_name ∙ ap (λ (x : Entry). x.turning.name) is' ∙ sym names ∙ ap (λ (x : Turning). x.name) l.4))
            of (inr (inr (q, place, r))) (inr (inr (q', place', r'))) =
                let one = (let_facts q e r).0 in
                let two = (let_facts q' f r').0 in
                omega (arith, place, place', one, two)

        earlier_so : (j : ℕ) (e : Entry) → slice_get next_entries j ≡ Some e → ((is_loop e.line ≡ true) × (k : ℕ) × (slice_get ts k ≡ Some e.turning) × (k < i + 1))
            ⊎ ((is_loop e.line ≡ false) × (c : Split) × In c cuts × (e.turning ≡ let_of rs c) × (k : ℕ) × (u : Turning) × (slice_get ts k ≡ Some u) × (u.name ≡ c.outer) × (k < i + 1))
        earlier_so j e at_j = of (placed j e at_j)
          where
            wider : ((is_loop e.line ≡ true) × (k : ℕ) × (slice_get ts k ≡ Some e.turning) × (k < i))
                ⊎ ((is_loop e.line ≡ false) × (c : Split) × In c cuts × (e.turning ≡ let_of rs c) × (k : ℕ) × (u : Turning) × (slice_get ts k ≡ Some u) × (u.name ≡ c.outer) × (k < i)) →
                ((is_loop e.line ≡ true) × (k : ℕ) × (slice_get ts k ≡ Some e.turning) × (k < i + 1))
                ⊎ ((is_loop e.line ≡ false) × (c : Split) × In c cuts × (e.turning ≡ let_of rs c) × (k : ℕ) × (u : Turning) × (slice_get ts k ≡ Some u) × (u.name ≡ c.outer) × (k < i + 1))
            wider (inl k) = (let less = k.3 in inl (k.0, k.1, k.2, omega (arith, less)))
            wider (inr k) = (let less = k.8 in inr (k.0, k.1, k.2, k.3, k.4, k.5, k.6, k.7, omega (arith, less)))

            of : Place j e → ((is_loop e.line ≡ true) × (k : ℕ) × (slice_get ts k ≡ Some e.turning) × (k < i + 1))
                ⊎ ((is_loop e.line ≡ false) × (c : Split) × In c cuts × (e.turning ≡ let_of rs c) × (k : ℕ) × (u : Turning) × (slice_get ts k ≡ Some u) × (u.name ≡ c.outer) × (k < i + 1))
            of (inl k) = wider (before.earlier j e k)
            of (inr (inl (place, is))) =
                inl (ap (λ (x : Entry). is_loop x.line) (sym is) ∙ h.loop, i, at ∙ ap (λ (x : Turning). Some x) (sym h.turning ∙ ap (λ (x : Entry). x.turning) is), omega arith)
            of (inr (inr (k, place, q))) = (let l = let_facts k e q in inr (l.1, l.2, l.3, l.4, i, t, at, l.5, omega arith))

        there_so : (k : ℕ) (u : Turning) → k < i + 1 → slice_get ts k ≡ Some u → (j : ℕ) × (e : Entry) × (slice_get next_entries j ≡ Some e) × (is_loop e.line ≡ true) × (e.turning ≡ u)
        there_so k u less at_k = of (nat_lt k i) refl
          where
            of : (b : Bool) → nat_lt k i ≡ b → (j : ℕ) × (e : Entry) × (slice_get next_entries j ≡ Some e) × (is_loop e.line ≡ true) × (e.turning ≡ u)
            of true q =
                let low : k < i = grind (arith, nat_tests, q) in
                let r = before.there k u low at_k in
                (r.0, r.1, at_left es0 (own ∷ lets) r.0 r.1 r.2, r.3, r.4)
            of false q =
                let place : k ≡ i = grind (arith, nat_tests, q, less) in
                let some_same : Some t ≡ Some u = sym at ∙ ap (slice_get ts) (sym place) ∙ at_k in
                let is : t ≡ u = cc some_same in
                (e0, own, first_behind es0 own lets, h.loop, h.turning ∙ is)

        entered_so : (j : ℕ) (u : Turning) → j < i + 1 → slice_get ts j ≡ Some u → Stands st.known u.name
        entered_so j u less at_j = of (nat_lt j i) refl
          where
            of : (b : Bool) → nat_lt j i ≡ b → Stands st.known u.name
            of true q = (let low : j < i = grind (arith, nat_tests, q) in h.more u.name (before.entered j u low at_j))
            of false q =
                let place : j ≡ i = grind (arith, nat_tests, q, less) in
                let some_same : Some t ≡ Some u = sym at ∙ ap (slice_get ts) (sym place) ∙ at_j in
                let is : t ≡ u = cc some_same in
                subst (λ (v : Turning). Stands st.known v.name) is h.here

        next_so : st.next ≡ n + length next_entries
        next_so = (let long = length_more es0 (own ∷ lets) in h.next ∙ omega (arith, long))

        later : (new : StandingText) → new.known ≡ st.known → new.starts ≡ st.starts → new.next ≡ st.next → AllByRecursion (IsClosed new) cs → IsBefore cs next_entries (i + 1) new
        later new known starts next closes = record {
          next = next ∙ next_so;
          right = λ es ext. (let g = right_of st own lets h es ext in record {
            known = subst (λ (ks : List Known). AllByRecursion (λ k. Right head n es k.name k.form) ks) (sym known) g.known;
            starts = subst (λ (ks : List Known). AllByRecursion (λ k. IsStart head n es k.name k.form) ks) (sym starts) g.starts;
          });
          entries = entry_at;
          once_each = once_so;
          earlier = earlier_so;
          there = there_so;
          closed = closes;
          over = λ y k. subst (λ (ks : List Known). Stands ks y) (sym known) (h.more y (before.over y k));
          entered = λ j u less q. subst (λ (ks : List Known). Stands ks u.name) (sym known) (entered_so j u less q);
        }

    -- ---- loops, one inside another

    module _ (cs : List Split) (sub : AllByRecursion (λ d. In d cuts) cs) where
      pub record IsTurned (es0 : List Entry) (i : ℕ) (us : List Turning) (st new : StandingText) : Type 0 where
        pub more : List Entry
        pub steps : new.steps ≡ st.steps ++ entry_steps (n + length es0) more
        pub after : IsBefore cs (es0 ++ more) (i + length us) new
        pub woven : Woven us more

      no_more : {A : Type 0} (xs : List A) → xs ≡ xs ++ []
      no_more [] = refl
      no_more (x ∷ xs) = ap (λ (ys : List _). x ∷ ys) (no_more xs)

      in_both : (ds : List Split) → ((d : Split) → In d ds → In d cs) → AllByRecursion (λ d. In d cuts) ds → AllByRecursion (λ d. In d cuts × In d cs) ds
      in_both [] f h = tt
      in_both (d ∷ ds) f h = ((h.0, f d (inl refl)), in_both ds (λ e m. f e (inr m)) h.1)

      bound_last : (bs : List ℕ) (m k : ℕ) → k ≡ m → is_bound (bs ++ k ∷ []) m ≡ true
      bound_last [] m k e = ap (λ (b : Bool). b || false) (ap (λ (q : ℕ). q == m) e ∙ eq_refl m)
      bound_last (x ∷ bs) m k e = of (x == m) (bound_last bs m k e)
        where
          of : (b : Bool) → is_bound (bs ++ k ∷ []) m ≡ true → (b || is_bound (bs ++ k ∷ []) m) ≡ true
          of true q = refl
          of false q = q

      entering : (es0 : List Entry) (i : ℕ) (t : Turning) (at : slice_get ts i ≡ Some t) (st : StandingText) (h : IsBefore cs es0 i st) → Now cs sub es0 i t at st h (enter t.name st)
      entering es0 i t at st h = (
        record { turning = t; line = Loop; limits = [] },
        [],
        record {
          status = inl (record {
            own_is = refl;
            lets_are = refl;
            steps = refl;
            limits = refl;
            right = λ es ext has. (let g = h.right es ext in record {
              known = all_more (λ k. Right head n es k.name k.form) st.known name g.known
                  (inl (inr (length es0, has.0, has.1, has.2, ap (λ (x : Turning). x.name) has.3, ap alone h.next)));
              starts = g.starts;
            });
          });
          turning = refl;
          loop = refl;
          lead = refl;
          next = (let is = h.next in omega (arith, is));
          bound = bound_last st.bound (n + length es0) st.next h.next;
          more = λ y k. stands_more st.known name y k;
          begun = λ y k. k;
          here = stands_last st.known name;
          fewer = λ y k. inl (fewer y k (found_more st.known name y k.0 k.1));
          fewer_starts = λ y k. inl k;
        },
      )
        where
          name : Known
          name = record { name = t.name; form = alone st.next }

          fewer : (y : List ℕ) (q : Stands (st.known ++ record { name = t.name; form = alone st.next } ∷ []) y) → (form_named st.known y ≡ Some q.0) ⊎ ((t.name ≡ y) × (alone st.next ≡ q.0)) →
              Stands st.known y ⊎ (t.name ≡ y)
          fewer y q (inl e) = inl (q.0, e)
          fewer y q (inr e) = inr e.0

      pub turned : (us : List Turning) (es0 : List Entry) (i : ℕ) → ((j : ℕ) (t : Turning) → slice_get us j ≡ Some t → slice_get ts (i + j) ≡ Some t) → (st new : StandingText) →
          IsBefore cs es0 i st → turn_all rs cs us st ≡ Some new → IsTurned es0 i us st new
      turned [] es0 i there st new h e =
          let none : i ≡ i + 0 = omega arith in
          subst (IsTurned es0 i [] st) (same st new e) (record {
            more = [];
            steps = no_more st.steps;
            after = subst (λ (k : ℕ). IsBefore cs (es0 ++ []) k st) none (subst (λ (es : List Entry). IsBefore cs es i st) (no_more es0) h);
            woven = refl;
          })
      turned (t ∷ us) es0 i there st new h e =
          let b = bound (turn rs cs t st) (turn_all rs cs us) new e in
          let m = bound (settle_some (inside t.kind) rs cs cs (enter t.name st)) (λ turned. Some (leave st.steps st.next t turned)) b.value b.is in
          let left : leave st.steps st.next t m.value ≡ b.value = same (leave st.steps st.next t m.value) b.value m.comes in
          let here : i + 0 ≡ i = omega arith in
          let at : slice_get ts i ≡ Some t = ap (slice_get ts) (sym here) ∙ there 0 t refl in
          let s = settled cs sub es0 i t at st h cs sub cs (in_both cs (λ d q. q) sub) (enter t.name st) m.value (entering es0 i t at st h) m.is in
          let own : Entry = s.0 in
          let lets : List Entry = s.1 in
          let closes : AllByRecursion (IsClosed (leave st.steps st.next t m.value)) cs =
          all_weaker (IsClosed m.value) (IsClosed (leave st.steps st.next t m.value)) (λ c k. record { begun = k.begun; joined = k.joined }) cs
          (pass_closes cuts others once t.kind rs cs cs sub (enter t.name st) m.value m.is) in
          let after : IsBefore cs (es0 ++ own ∷ lets) (i + 1) b.value =
          subst (IsBefore cs (es0 ++ own ∷ lets) (i + 1)) left (later cs sub es0 i t at st h m.value own lets s.2 (leave st.steps st.next t m.value) refl refl refl closes) in
          let rest = turned us (es0 ++ own ∷ lets) (i + 1) (λ j v q. let next_place : (i + 1) + j ≡ i + suc j = omega arith in ap (slice_get ts) next_place ∙ there (suc j) v q) b.value new
          after b.comes in
          let long = length_more es0 (own ∷ lets) in
          let place : n + length (es0 ++ own ∷ lets) ≡ (n + length es0) + suc (length lets) = omega (arith, long) in
          let count : (i + 1) + length us ≡ i + suc (length us) = omega arith in
          let lead : (leave st.steps st.next t m.value).steps ≡ st.steps ++ entry_steps (n + length es0) (own ∷ lets) =
          (λ j. st.steps ++ Turns (h.next j) (span t.low t.last m.value.limits) t.kind ∷ m.value.steps) ∙ ap (λ (ss : List Step). st.steps ++ ss) s.2.lead in
          record {
            more = (own ∷ lets) ++ rest.more;
            steps = rest.steps ∙ ap (λ (a : StandingText). a.steps ++ entry_steps (n + length (es0 ++ own ∷ lets)) rest.more) (sym left)
                ∙ (λ j. lead j ++ entry_steps (place j) rest.more)
                ∙ append_assoc st.steps (entry_steps (n + length es0) (own ∷ lets)) (entry_steps ((n + length es0) + suc (length lets)) rest.more)
                ∙ ap (λ (ss : List Step). st.steps ++ ss) (sym (steps_more (n + length es0) (own ∷ lets) rest.more));
            after = subst (λ (k : ℕ). IsBefore cs (es0 ++ ((own ∷ lets) ++ rest.more)) k new) count
                (subst (λ (es : List Entry). IsBefore cs es ((i + 1) + length us) new) (append_assoc es0 (own ∷ lets) rest.more) rest.after);
            woven = (own, lets, rest.more, refl, s.2.turning, (λ k e q. (let l = let_facts cs sub es0 i t at st h m.value own lets s.2 k e q in (l.2, l.3, l.4, l.5))), rest.woven);
          }
