-- Each step keeps the rule.
use Rattle.std.proofs.Common.{◌≡◌, ◌≢◌, ◌⊎◌, ℕ, zero, suc, ◌+◌, ◌-◌, ◌%◌, ◌^◌, ◌<◌, ◌≤◌, ℤ, Bool, true, false, cond, ◌||◌, List, [], ◌∷◌, ◌++◌, length, get_or, set, Option, Some, None, true≢false, refl, sym, ap, ◌∙◌, subst, inl, inr, ⊎_elim, arith, length-set, replicate}
use Rattle.std.specs.Prelude.{Contains}
use mathlib.Core.Logic.{dite}
use mathlib.Core.Option.{none, some, some-ne-none, some-injective}
use native.Mathlib.Decide.{ℕ_discrete, dec_lt}
use lib.ListN.{get_elem?}
use lib.Seq.{set-get_or}
use Rattle.atomic_table.specs.Table.{State, step, keeps, stepped, Allows, Splits, Joins}
use Rattle.atomic_table.proofs.Lists.{at_set, at_snoc}
use Rattle.board.specs.Layout.{Layout, pieces_of, own_of, own_cell, value_at}
use Rattle.board.specs.declared.view.View.{View}
use Rattle.board.specs.Words.{word_count, cell_place, counter, flag, cell, own_word, word_of}
use Rattle.board.specs.Views.{first_view, spent_view, drew, found_none, knowing, after_put, splitter, split_off, joined, Knows, IsIdle, IsWorking, next_after, seats_in}
use Rattle.board.specs.Rule.{IsSet, IsFinished, IsUntouched, IsBegun, Grounds, IsAtWork, IsDrawn, seats_of, Kept}
use Rattle.board.specs.Seats.{IsKnownCell}
use Rattle.board.specs.Steps.{Sat, Draws, Asks, Looks, Puts, Finishes}
use Rattle.std.proofs.lemmas.List.{length-replicate}
use Rattle.std.proofs.lemmas.List.Sums.{sum_by_push}
use Rattle.std.proofs.lemmas.List.Elements.{Contains-append_left, Contains-append_right, Contains-append_cases}
use Rattle.board.proofs.Parts.{IsParted}
use Rattle.board.proofs.Sums.{before_end, set_here, set_there, sum_at, sum_one, sum_two}
use Rattle.board.proofs.Words.{counter-draw, flag-draw, cell-draw, counter-finish, flag-finish, flag-finish_other, cell-finish, counter-put, flag-put, cell-put, cell-put_other}

off : {A : Type 0} {b : Bool} → b ≡ true → b ≡ false → A
off t f = absurd (true≢false (sym t ∙ f))

-- a seat that may draw, and one that may not
seats_in-drawing : (v : View) → v.spent ≡ false → v.none_left ≡ false → seats_in v ≡ v.allowance + 1
seats_in-drawing v active more = rw (active, more) refl

seats_in-done : (v : View) → v.spent ≡ false → v.none_left ≡ true → seats_in v ≡ v.allowance + 0
seats_in-done v active over = rw (active, over) refl

seats_in-spent : (v : View) → v.spent ≡ true → seats_in v ≡ 0
seats_in-spent v gone = rw gone refl

-- inside a list the default is not read
get_or-default : (xs : List ℕ) (i a b : ℕ) → i < length xs → get_or xs i a ≡ get_or xs i b
get_or-default [] i a b lt = absurd (omega arith)
get_or-default (x ∷ xs) zero a b lt = refl
get_or-default (x ∷ xs) (suc i) a b lt = get_or-default xs i a b (omega arith)

knows_head : (x : ℕ) (xs : List ℕ) → Contains (x ∷ xs) x
knows_head x xs = (0, omega arith, refl)

knows_tail : (x : ℕ) (xs : List ℕ) (y : ℕ) → Contains xs y → Contains (x ∷ xs) y
knows_tail x xs y c = (suc c.0, omega arith, c.2)

knows_at : (x : ℕ) (xs : List ℕ) (y k : ℕ) → k < length (x ∷ xs) → get_or (x ∷ xs) k y ≡ y → (x ≡ y) ⊎ Contains xs y
knows_at x xs y zero lt e = inl e
knows_at x xs y (suc k) lt e = inr (k, omega arith, e)

knows_cases : (x : ℕ) (xs : List ℕ) (y : ℕ) → Contains (x ∷ xs) y → (x ≡ y) ⊎ Contains xs y
knows_cases x xs y c = knows_at x xs y c.0 c.1 c.2

one_or_other : (a b : Bool) → (a || b) ≡ true → (a ≡ true) ⊎ (b ≡ true)
one_or_other true b e = inl refl
one_or_other false b e = inr e

neither : (a b : Bool) → (a || b) ≡ false → a ≡ false
neither true b e = e
neither false b e = refl

or_counts : (a b : Bool) (n : ℕ) → n + cond (a || b) 0 1 ≤ n + cond a 0 1
or_counts true b n = omega arith
or_counts false true n = omega arith
or_counts false false n = omega arith

-- a seat that is split off takes one of the first seat's allowance
split_counts : (b : Bool) (n : ℕ) → 0 < n → (n - 1 + cond b 0 1) + (0 + cond b 0 1) ≤ n + cond b 0 1
split_counts true n some_left = omega arith
split_counts false n some_left = omega arith

some_same : {A : Type 0} {a b : A} → Some a ≡ Some b → a ≡ b
some_same e = cc

abbrev stands_for : View → ℕ
stands_for v = v.seats

-- what was drawn stays drawn where a seat's new view has drawn all that its old one had
drawn_after : (views : List View) (id : ℕ) (v w : View) → get_elem? views id ≡ some v → w.spent ≡ false → ((j : ℕ) → Contains v.drawn j → Contains w.drawn j)
    → (j : ℕ) → IsDrawn views j → IsDrawn (set views id w) j
drawn_after views id v w at active more j (k, u, there, alive, has) = dite (ℕ_discrete k id)
    (λ is. let same : u ≡ v = some-injective u v (sym there ∙ ap (λ n. get_elem? views n) is ∙ at) in
    (id, w, set_here views id v w at, active, more j (subst (λ (x : View). Contains x.drawn j) same has)))
    (λ other. (k, u, set_there views id k u w other there, alive, has))

module _ (plan : Layout) (values : List ℤ) where
  abbrev Rule : State ℕ View → Type 0
  Rule s = Kept plan values s.words s.views

  abbrev Ground : List ℕ → View → Type 0
  Ground words v = Grounds plan values words v

  -- no two seats are at work on one piece
  abbrev Apart : List ℕ → List View → Type 0
  Apart words views = (one two : ℕ) (v w : View) (j : ℕ) → get_elem? views one ≡ some v → get_elem? views two ≡ some w → IsAtWork words v j → IsAtWork words w j → one ≡ two

  begun_stays : (words words' : List ℕ) (j puts : ℕ) → flag words' j ≡ flag words j → ((i : ℕ) → i < length (own_of plan j) → own_word plan words' j i ≡ own_word plan words j i)
      → IsBegun plan values words j puts → IsBegun plan values words' j puts
  begun_stays words words' j puts same same_cells b = record {
    unfinished = same ∙ b.unfinished;
    before = λ i l h. same_cells i h ∙ b.before i l h;
    after = λ i l h. same_cells i h ∙ b.after i l h;
  }

  -- what a view says stays true where set flags stay set, the counter does not fall, and the piece that the seat is at work on is left alone
  grounds_stay : (words words' : List ℕ) (u : View) → ((j : ℕ) → j < pieces_of plan → flag words j ≡ 1 → flag words' j ≡ 1) → counter words ≤ counter words'
      → (u.allowance ≡ 63 → u.none_left ≡ false → counter words' ≡ counter words)
      → ((j : ℕ) → u.last ≡ Some j → j < pieces_of plan → IsBegun plan values words j u.puts → IsBegun plan values words' j u.puts)
      → Ground words u → Ground words' u
  grounds_stay words words' u flags up order work g = record {
    known = λ j k. let p = g.known j k in (p.0, flags j p.0 p.1);
    last = λ j e. let p = g.last j e in let below = p.1 in (p.0, omega arith, ⊎_elim (λ (k : Knows u j). inl k) (λ (b : IsBegun plan values words j u.puts). inr (work j e p.0 b)) p.2);
    none_left = λ e. let p = g.none_left e in omega arith;
    in_order = λ a b. order a b ∙ g.in_order a b;
    itself = g.itself;
  }

  views_after : (words' : List ℕ) (views : List View) (id : ℕ) (w : View) → ((k : ℕ) (u : View) → k ≢ id → get_elem? views k ≡ some u → u.spent ≡ false → Ground words' u) → (w.spent ≡ false → Ground words' w)
      → (k : ℕ) (u : View) → get_elem? (set views id w) k ≡ some u → u.spent ≡ false → Ground words' u
  views_after words' views id w others mine k u e active = ⊎_elim
      (λ (t : (k ≡ id) × (w ≡ u)). subst (λ (x : View). x.spent ≡ false → Ground words' x) t.1 mine active)
      (λ (t : (k ≢ id) × (get_elem? views k ≡ some u)). others k u t.0 t.1 active)
      (at_set views id k w u e)

  apart_after : (words words' : List ℕ) (views : List View) (id : ℕ) (w : View) → ((k : ℕ) (u : View) (j : ℕ) → get_elem? views k ≡ some u → IsAtWork words' u j → IsAtWork words u j)
      → ((k : ℕ) (u : View) (j : ℕ) → k ≢ id → get_elem? views k ≡ some u → IsAtWork words' w j → IsAtWork words' u j → ⊥)
      → Apart words views → Apart words' (set views id w)
  apart_after words words' views id w back mine old one two v u j e d at_one at_two = ⊎_elim
      (λ (a : (one ≡ id) × (w ≡ v)). ⊎_elim
      (λ (b : (two ≡ id) × (w ≡ u)). a.0 ∙ sym b.0)
      (λ (b : (two ≢ id) × (get_elem? views two ≡ some u)). absurd (mine two u j b.0 b.1 (subst (λ (x : View). IsAtWork words' x j) (sym a.1) at_one) at_two))
      (at_set views id two w u d))
      (λ (a : (one ≢ id) × (get_elem? views one ≡ some v)). ⊎_elim
      (λ (b : (two ≡ id) × (w ≡ u)). absurd (mine one v j a.0 a.1 (subst (λ (x : View). IsAtWork words' x j) (sym b.1) at_two) at_one))
      (λ (b : (two ≢ id) × (get_elem? views two ≡ some u)). old one two v u j a.1 b.1 (back one v j a.1 at_one) (back two u j b.1 at_two))
      (at_set views id two w u d))
      (at_set views id one w v e)

  -- where a seat's new view has the same last piece, no other seat is at work on it
  same_work : (words : List ℕ) (views : List View) (id : ℕ) (v w : View) → get_elem? views id ≡ some v → v.spent ≡ false → w.last ≡ v.last → Apart words views
      → (k : ℕ) (u : View) (j : ℕ) → k ≢ id → get_elem? views k ≡ some u → IsAtWork words w j → IsAtWork words u j → ⊥
  same_work words views id v w at active same old k u j other there mine theirs = other (old k id u v j there at theirs (active, sym same ∙ mine.1, mine.2))

  -- what the rule says of the views, but for who has drawn which pieces
  record Held (words : List ℕ) (views : List View) : Type 0 where
    each_view : (seat : ℕ) (v : View) → get_elem? views seat ≡ some v → v.spent ≡ false → Ground words v
    apart : Apart words views
    seats_left : seats_of views ≤ 64
    draws_left : counter words + seats_of views ≤ pieces_of plan + 64

  held : (words : List ℕ) (views : List View) (id : ℕ) (v w : View) → Kept plan values words views → get_elem? views id ≡ some v → v.spent ≡ false → w.last ≡ v.last → seats_in w ≤ seats_in v → Ground words w
      → Held words (set views id w)
  held words views id v w r at active same count grounds =
      let total = sum_at seats_in views id v w at in
      let left = r.seats_left in
      let draws = r.draws_left in
      record {
        each_view = views_after words views id w (λ k u _ e a. r.each_view k u e a) (λ _. grounds);
        apart = apart_after words words views id w (λ k u j _ x. x) (same_work words views id v w at active same r.apart) r.apart;
        seats_left = omega arith;
        draws_left = omega arith;
      }

  -- a step that changes no word, after which the seat has drawn what it had drawn, and stands for as many
  still : (words : List ℕ) (views : List View) (id : ℕ) (v w : View) → Kept plan values words views → get_elem? views id ≡ some v → v.spent ≡ false → w.last ≡ v.last → seats_in w ≤ seats_in v → Ground words w
      → w.spent ≡ false → w.drawn ≡ v.drawn → w.seats ≡ v.seats → Kept plan values words (set views id w)
  still words views id v w r at active same count grounds alive drawn seats =
      let h = held words views id v w r at active same count grounds in
      let total = sum_at stands_for views id v w at in
      let most = r.whole in
      record {
        size = r.size;
        each_cell = r.each_cell;
        each_flag = r.each_flag;
        undrawn = r.undrawn;
        each_view = h.each_view;
        apart = h.apart;
        seats_left = h.seats_left;
        draws_left = h.draws_left;
        each_drawn = λ j lt below. drawn_after views id v w at alive (λ k c. subst (λ (ds : List ℕ). Contains ds k) (sym drawn) c) j (r.each_drawn j lt below);
        whole = omega (arith, total, most, seats);
      }

  unmoved : (s : State ℕ View) (i id : ℕ) (carried : List (ℕ × ℕ)) (w : View) → Kept plan values s.words (set s.views id w) → Rule (stepped s i (get_or s.words i 0) id carried w keeps)
  unmoved s i id carried w kept = subst (λ (ws : List ℕ). Kept plan values ws (set s.views id w)) (sym (set-get_or s.words i 0)) kept

  -- ask
  knowing_grounds : (words : List ℕ) (v : View) (j : ℕ) → j < pieces_of plan → flag words j ≡ 1 → Ground words v → Ground words (knowing v j)
  knowing_grounds words v j in_range is_set g = record {
    known = λ k c. ⊎_elim (λ (e : j ≡ k). subst (λ (n : ℕ). (n < pieces_of plan) × (flag words n ≡ 1)) e (in_range, is_set)) (λ (old : Contains v.known k). g.known k old) (knows_cases j v.known k c);
    last = λ k e. let p = g.last k e in (p.0, p.1, ⊎_elim (λ (old : Knows v k). inl (knows_tail j v.known k old)) (λ (b : IsBegun plan values words k v.puts). inr b) p.2);
    none_left = g.none_left;
    in_order = g.in_order;
    itself = g.itself;
  }

  -- a seat at work has not finished its piece
  working_begun : (words : List ℕ) (v : View) (j puts : ℕ) → Ground words v → IsWorking v j puts → IsBegun plan values words j puts
  working_begun words v j puts g at_work = ⊎_elim (λ (k : Knows v j). absurd (at_work.2 k)) (λ (b : IsBegun plan values words j v.puts). subst (λ (n : ℕ). IsBegun plan values words j n) at_work.1 b) (g.last j at_work.0).2

  pub asks : (slots id : ℕ) (me : Sat) (j : ℕ) → me.0.spent ≡ false → j < pieces_of plan → Allows Rule slots id me (1 + j) (λ n. n) (Asks plan values (step slots (1 + j) 0 0 none) me)
  asks slots id me j active in_range s r _ at _ =
      let g = r.each_view id me.0 at active in
      ⊎_elim
      (λ (unset : flag s.words j ≡ 0). (
        me.0,
        keeps,
        tt,
        unmoved s (1 + j) id me.1 me.0 (still s.words s.views id me.0 me.0 r at active refl (omega arith) g active refl refl),
        λ k e. let same : k ≡ j = omega arith in (
          inl (unset, refl),
          (λ knows. let one = (g.known k knows).1 in let here = ap (λ n. flag s.words n) same in absurd (omega arith)),
          (λ m puts w. w),
          λ _. (s.words, s.views, id, r, at, ap (λ n. flag s.words n) same ∙ unset),
        ),
      ))
      (λ (done : IsFinished plan values s.words j). (
        knowing me.0 j,
        keeps,
        tt,
        unmoved s (1 + j) id me.1 (knowing me.0 j) (still s.words s.views id me.0 (knowing me.0 j) r at active refl (omega arith) (knowing_grounds s.words me.0 j in_range done.0 g) active refl refl),
        λ k e. let same : j ≡ k = omega arith in (
          inr (done.0, ap (λ (n : ℕ). (knowing me.0 n, me.1)) same),
          (λ knows. done.0),
          (λ m puts w. (
            w.0,
            w.1,
            λ c. ⊎_elim
                (λ (is : j ≡ m). let b = (working_begun s.words me.0 m puts g w).unfinished in let set_here : flag s.words m ≡ 1 = ap (λ n. flag s.words n) (sym is) ∙ done.0 in absurd (omega arith))
                (λ (old : Contains me.0.known m). w.2 old)
                (knows_cases j me.0.known m c),
          )),
          λ zero. let one = done.0 in absurd (omega (arith, zero, one)),
        ),
      ))
      (r.each_flag j in_range)

  -- look
  known_set : (s : State ℕ View) (r : Rule s) (v : View) (j i : ℕ) → Ground s.words v → Knows v j → i < length (own_of plan j) → own_word plan s.words j i ≡ word_of (value_at values (own_cell plan j i))
  known_set s r v j i g knows inside =
      let k = g.known j knows in
      let one = k.1 in
      ⊎_elim (λ (unset : flag s.words j ≡ 0). absurd (omega arith)) (λ (done : IsFinished plan values s.words j). done.1 i inside inside) (r.each_flag j k.0)

  pub looks : (slots id : ℕ) (me : Sat) (j i c : ℕ) → me.0.spent ≡ false → Knows me.0 j → i < length (own_of plan j) → own_cell plan j i ≡ c
      → Allows Rule slots id me (1 + pieces_of plan + c) (λ n. n) (Looks plan values (step slots (1 + pieces_of plan + c) 0 0 none) me)
  looks slots id me j i c active knows inside is s r _ at _ =
      let g = r.each_view id me.0 at active in
      let found = subst (λ (n : ℕ). cell plan s.words n ≡ word_of (value_at values n)) is (known_set s r me.0 j i g knows inside) in (
        me.0,
        keeps,
        tt,
        unmoved s (1 + pieces_of plan + c) id me.1 me.0 (still s.words s.views id me.0 me.0 r at active refl (omega arith) g active refl refl),
        (refl, λ d e. let same : c ≡ d = omega arith in subst (λ (n : ℕ). cell plan s.words c ≡ word_of (value_at values n)) same found),
      )

  -- draw
  -- a piece that nobody drew is begun, with no put, once it is drawn
  fresh_begun : (words words' : List ℕ) (j : ℕ) → flag words' j ≡ flag words j → ((i : ℕ) → i < length (own_of plan j) → own_word plan words' j i ≡ own_word plan words j i)
      → IsUntouched plan values words j → IsBegun plan values words' j 0
  fresh_begun words words' j same same_cells none_done = record {
    unfinished = same ∙ none_done.0;
    before = λ i l h. absurd (omega arith);
    after = λ i l h. same_cells i h ∙ none_done.1 i (omega arith) h;
  }

  -- the counter goes up by one, and the seat has the view w
  counted : (words : List ℕ) (views : List View) (id : ℕ) (v w : View) → Kept plan values words views → get_elem? views id ≡ some v → v.spent ≡ false → v.none_left ≡ false
      → Ground (set words 0 (counter words + 1)) w
      → ((k : ℕ) (u : View) (j : ℕ) → k ≢ id → get_elem? views k ≡ some u → IsAtWork (set words 0 (counter words + 1)) w j → IsAtWork (set words 0 (counter words + 1)) u j → ⊥)
      → seats_of (set views id w) ≤ 64 → counter words + 1 + seats_of (set views id w) ≤ pieces_of plan + 64
      → ((j : ℕ) → j < pieces_of plan → j < counter words + 1 → IsDrawn (set views id w) j) → w.seats ≡ v.seats
      → Kept plan values (set words 0 (counter words + 1)) (set views id w)
  counted words views id v w r at active more grounds mine left draws drawn seats =
      let next : ℕ = counter words + 1 in
      let words' : List ℕ = set words 0 next in
      let size = r.size in
      let count : counter words' ≡ next = counter-draw plan words size next in
      let flags : (j : ℕ) → flag words' j ≡ flag words j = flag-draw plan words size next in
      let cells : (c : ℕ) → cell plan words' c ≡ cell plan words c = cell-draw plan words size next in
      record {
        size = length-set words 0 next ∙ size;
        each_cell = λ c h. subst (λ (n : ℕ). (n ≡ 0) ⊎ (n ≡ word_of (value_at values c))) (sym (cells c)) (r.each_cell c h);
        each_flag = λ j h. ⊎_elim
            (λ (unset : flag words j ≡ 0). inl (flags j ∙ unset))
            (λ (done : IsFinished plan values words j). inr (flags j ∙ done.0, λ i a b. cells (own_cell plan j i) ∙ done.1 i a b))
            (r.each_flag j h);
        undrawn = λ j h above. let u = r.undrawn j h (omega arith) in (flags j ∙ u.0, λ i a b. cells (own_cell plan j i) ∙ u.1 i a b);
        each_view = views_after words' views id w
            (λ k u other e a. grounds_stay words words' u (λ j _ one. flags j ∙ one) (omega arith)
            (λ all may. let two = sum_two seats_in views k id u v other e at in let a1 = seats_in-drawing u a may in let a2 = seats_in-drawing v active more in let most = r.seats_left in absurd (omega arith))
            (λ j _ _ b. begun_stays words words' j u.puts (flags j) (λ i _. cells (own_cell plan j i)) b)
            (r.each_view k u e a))
            (λ _. grounds);
        apart = apart_after words words' views id w (λ k u j _ x. (x.0, x.1, sym (flags j) ∙ x.2)) mine r.apart;
        seats_left = left;
        draws_left = omega arith;
        each_drawn = λ j lt below. drawn j lt (omega arith);
        whole = let total = sum_at stands_for views id v w at in let most = r.whole in omega (arith, total, most, seats);
      }

  -- the next piece comes after the last
  rises : (words : List ℕ) (v : View) (last : Option ℕ) → Ground words v → v.last ≡ last → next_after last ≤ counter words
  rises words v None g e = omega arith
  rises words v (Some j) g e = let p = (g.last j e).1 in omega arith

  draws_one : (words : List ℕ) (views : List View) (id : ℕ) (v : View) → Kept plan values words views → get_elem? views id ≡ some v → v.spent ≡ false → v.none_left ≡ false → counter words < pieces_of plan
      → Kept plan values (set words 0 (counter words + 1)) (set views id (drew v (counter words)))
  draws_one words views id v r at active more below =
      let n : ℕ = counter words in
      let next : ℕ = n + 1 in
      let words' : List ℕ = set words 0 next in
      let w : View = drew v n in
      let size = r.size in
      let count : counter words' ≡ next = counter-draw plan words size next in
      let flags : (j : ℕ) → flag words' j ≡ flag words j = flag-draw plan words size next in
      let cells : (c : ℕ) → cell plan words' c ≡ cell plan words c = cell-draw plan words size next in
      let g = r.each_view id v at active in
      let total = sum_at seats_in views id v w at in
      let left = r.seats_left in
      counted words views id v w r at active more
      (record {
        known = λ j k. let p = g.known j k in (p.0, flags j ∙ p.1);
        last = λ j e. let is : n ≡ j = some_same e in
            subst (λ (x : ℕ). (x < pieces_of plan) × (x < counter words') × (Knows w x ⊎ IsBegun plan values words' x 0)) is
            (below, omega arith, inr (fresh_begun words words' n (flags n) (λ i _. cells (own_cell plan n i)) (r.undrawn n below (omega arith))));
        none_left = λ e. off e more;
        in_order = λ _ _. count;
        itself = g.itself;
      })
      (λ k u j other e mine theirs. let is : n ≡ j = some_same mine.1 in let p = (r.each_view k u e theirs.0).last j theirs.1 in let q = p.1 in omega arith)
      (omega arith)
      (omega arith)
      (λ j lt upto. dite (ℕ_discrete j n)
      (λ is. (id, w, set_here views id v w at, active, subst (λ (m : ℕ). Contains (n ∷ v.drawn) m) (sym is) (knows_head n v.drawn)))
      (λ other. drawn_after views id v w at active (λ k c. knows_tail n v.drawn k c) j (r.each_drawn j lt (omega arith))))
      refl

  draws_none : (words : List ℕ) (views : List View) (id : ℕ) (v : View) → Kept plan values words views → get_elem? views id ≡ some v → v.spent ≡ false → v.none_left ≡ false → pieces_of plan ≤ counter words
      → Kept plan values (set words 0 (counter words + 1)) (set views id (found_none v))
  draws_none words views id v r at active more above =
      let n : ℕ = counter words in
      let next : ℕ = n + 1 in
      let words' : List ℕ = set words 0 next in
      let w : View = found_none v in
      let size = r.size in
      let count : counter words' ≡ next = counter-draw plan words size next in
      let flags : (j : ℕ) → flag words' j ≡ flag words j = flag-draw plan words size next in
      let cells : (c : ℕ) → cell plan words' c ≡ cell plan words c = cell-draw plan words size next in
      let g = r.each_view id v at active in
      let total = sum_at seats_in views id v w at in
      let before = seats_in-drawing v active more in
      let after = seats_in-done w active refl in
      let left = r.seats_left in
      let draws = r.draws_left in
      counted words views id v w r at active more
      (record {
        known = λ j k. let p = g.known j k in (p.0, flags j ∙ p.1);
        last = λ j e. let p = g.last j e in let q = p.1 in (p.0, omega arith, ⊎_elim (λ (k : Knows v j). inl k) (λ (b : IsBegun plan values words j v.puts). inr (begun_stays words words' j v.puts (flags j) (λ i _. cells (own_cell plan j i)) b)) p.2);
        none_left = λ _. omega arith;
        in_order = λ _ e. absurd (true≢false e);
        itself = g.itself;
      })
      (λ k u j other e mine theirs. same_work words views id v w at active refl r.apart k u j other e (mine.0, mine.1, sym (flags j) ∙ mine.2) (theirs.0, theirs.1, sym (flags j) ∙ theirs.2))
      (omega arith)
      (omega arith)
      (λ j lt _. drawn_after views id v w at active (λ k c. c) j (r.each_drawn j lt (omega arith)))
      refl

  pub draws : (slots id : ℕ) (me : Sat) → IsParted plan → me.0.spent ≡ false → me.0.none_left ≡ false
      → Allows Rule slots id me 0 (λ n. (n + 1) % 2 ^ 64) (Draws plan values (step slots 0 1 0 none) me)
  draws slots id me parted active more s r _ at _ =
      let n : ℕ = counter s.words in
      let few = parted.few_pieces in
      let most = r.draws_left in
      let fits : (n + 1) % 2 ^ 64 ≡ n + 1 = omega arith in
      let g = r.each_view id me.0 at active in
      dite (dec_lt n (pieces_of plan))
      (λ below. (
        drew me.0 n,
        keeps,
        tt,
        subst (λ (x : ℕ). Kept plan values (set s.words 0 x) (set s.views id (drew me.0 n))) (sym fits) (draws_one s.words s.views id me.0 r at active more below),
        (
          (λ _. (refl, rises s.words me.0 me.0.last g refl, (λ all. g.in_order all more), (λ k. let one = (g.known n k).1 in let unset = (r.undrawn n below (omega arith)).0 in omega arith), (s.words, s.views, id, r, at, refl))),
          λ above. absurd (omega arith),
        ),
      ))
      (λ not_below. let above : pieces_of plan ≤ n = omega arith in (
        found_none me.0,
        keeps,
        tt,
        subst (λ (x : ℕ). Kept plan values (set s.words 0 x) (set s.views id (found_none me.0))) (sym fits) (draws_none s.words s.views id me.0 r at active more above),
        ((λ below. absurd (omega arith)), λ _. (refl, (λ all. let p = g.in_order all more in omega arith), (s.words, s.views, id, r, at, above))),
      ))

  -- put
  module _ (parted : IsParted plan) (words : List ℕ) (views : List View) (id : ℕ) (v : View) (j puts : ℕ) (r : Kept plan values words views) (at : get_elem? views id ≡ some v) (active : v.spent ≡ false)
      (at_work : IsWorking v j puts) (inside : puts < length (own_of plan j)) where
    abbrev target : ℕ
    target = own_cell plan j puts

    abbrev written : ℕ
    written = word_of (value_at values target)

    abbrev put_words : List ℕ
    put_words = set words (1 + pieces_of plan + target) written

    put_grounds : Ground words v
    put_grounds = r.each_view id v at active

    put_begun : IsBegun plan values words j puts
    put_begun = working_begun words v j puts put_grounds at_work

    piece_in_range : j < pieces_of plan
    piece_in_range = (put_grounds.last j at_work.0).0

    flags_put : (k : ℕ) → k < pieces_of plan → flag put_words k ≡ flag words k
    flags_put k h = flag-put plan words r.size written target k h

    -- the cell holds its value, and every other is as before
    target_set : cell plan put_words target ≡ written
    target_set = cell-put plan words r.size written target (parted.in_range j puts inside)

    stays_set : (c : ℕ) → IsSet plan values words c → IsSet plan values put_words c
    stays_set c h = dite (ℕ_discrete c target)
        (λ is. subst (λ (n : ℕ). cell plan put_words n ≡ word_of (value_at values n)) (sym is) target_set)
        (λ other. cell-put_other plan words r.size written target c other ∙ h)

    elsewhere : (k i : ℕ) → i < length (own_of plan k) → (k ≡ j → i ≡ puts → ⊥) → own_word plan put_words k i ≡ own_word plan words k i
    elsewhere k i h apart = cell-put_other plan words r.size written target (own_cell plan k i) (λ e. let same = parted.once k i j puts h inside e in apart same.0 same.1)

    -- no other seat is at work on the piece
    alone : (k : ℕ) (u : View) (m : ℕ) → k ≢ id → get_elem? views k ≡ some u → u.spent ≡ false → u.last ≡ Some m → flag words m ≡ 0 → m ≢ j
    alone k u m other e a is unset same = other (r.apart k id u v m e at (a, is, unset) (active, at_work.0 ∙ ap (λ (n : ℕ). Some n) (sym same), unset))

    put_kept : Kept plan values put_words (set views id (after_put v))
    put_kept =
        let count : counter put_words ≡ counter words = counter-put plan words r.size written target in
        let total = sum_at seats_in views id v (after_put v) at in
        let left = r.seats_left in
        let draws = r.draws_left in
        let size = r.size in
        record {
          size = length-set words (1 + pieces_of plan + target) written ∙ size;
          each_cell = λ c h. dite (ℕ_discrete c target)
              (λ is. inr (subst (λ (n : ℕ). cell plan put_words n ≡ word_of (value_at values n)) (sym is) target_set))
              (λ other. subst (λ (n : ℕ). (n ≡ 0) ⊎ (n ≡ word_of (value_at values c))) (sym (cell-put_other plan words r.size written target c other)) (r.each_cell c h));
          each_flag = λ k h. ⊎_elim
              (λ (unset : flag words k ≡ 0). inl (flags_put k h ∙ unset))
              (λ (done : IsFinished plan values words k). inr (flags_put k h ∙ done.0, λ i a b. stays_set (own_cell plan k i) (done.1 i a b)))
              (r.each_flag k h);
          undrawn = λ k h above. let u = r.undrawn k h (omega arith) in let drawn = (put_grounds.last j at_work.0).1 in
              (flags_put k h ∙ u.0, λ i a b. elsewhere k i b (λ e _. omega arith) ∙ u.1 i a b);
          each_view = views_after put_words views id (after_put v)
              (λ k u other e a. grounds_stay words put_words u (λ m h one. flags_put m h ∙ one) (omega arith) (λ _ _. count)
              (λ m is h b. begun_stays words put_words m u.puts (flags_put m h) (λ i inner. elsewhere m i inner (λ same _. alone k u m other e a is b.unfinished same)) b)
              (r.each_view k u e a))
              (λ _. record {
                known = λ m k. let p = put_grounds.known m k in (p.0, flags_put m p.0 ∙ p.1);
                last = λ m e. let is : j ≡ m = some_same (sym at_work.0 ∙ e) in let drawn = (put_grounds.last j at_work.0).1 in
                    subst (λ (n : ℕ). (n < pieces_of plan) × (n < counter put_words) × (Knows v n ⊎ IsBegun plan values put_words n (v.puts + 1))) is (
                      piece_in_range,
                      omega arith,
                      inr (subst (λ (n : ℕ). IsBegun plan values put_words j (n + 1)) (sym at_work.1) record {
                        unfinished = flags_put j piece_in_range ∙ put_begun.unfinished;
                        before = λ i lt h. dite (ℕ_discrete i puts)
                            (λ same. subst (λ (n : ℕ). own_word plan put_words j n ≡ word_of (value_at values (own_cell plan j n))) (sym same) target_set)
                            (λ other. stays_set (own_cell plan j i) (put_begun.before i (omega arith) h));
                        after = λ i le h. elsewhere j i h (λ _ same. omega arith) ∙ put_begun.after i (omega arith) h;
                      }),
                    );
                none_left = λ e. let p = put_grounds.none_left e in omega arith;
                in_order = λ a b. count ∙ put_grounds.in_order a b;
                itself = put_grounds.itself;
              });
          apart = apart_after words put_words views id (after_put v)
              (λ k u m e x. let h = ((r.each_view k u e x.0).last m x.1).0 in (x.0, x.1, sym (flags_put m h) ∙ x.2))
              (λ k u m other e mine theirs. let h = ((r.each_view k u e theirs.0).last m theirs.1).0 in
              same_work words views id v (after_put v) at active refl r.apart k u m other e (mine.0, mine.1, sym (flags_put m h) ∙ mine.2) (theirs.0, theirs.1, sym (flags_put m h) ∙ theirs.2))
              r.apart;
          seats_left = omega arith;
          draws_left = omega arith;
          each_drawn = λ k lt below. drawn_after views id v (after_put v) at active (λ m c. c) k (r.each_drawn k lt (omega arith));
          whole = let sum = sum_at stands_for views id v (after_put v) at in let most = r.whole in omega (arith, sum, most);
        }

  pub puts_one : (slots id : ℕ) (me : Sat) (j puts c n : ℕ) → IsParted plan → me.0.spent ≡ false → IsWorking me.0 j puts → puts < length (own_of plan j) → own_cell plan j puts ≡ c → n ≡ word_of (value_at values c)
      → Allows Rule slots id me (1 + pieces_of plan + c) (λ _. n) (λ _. Puts plan values (step slots (1 + pieces_of plan + c) n 0 none) me n)
  puts_one slots id me j puts c n parted active at_work inside is right s r _ at _ = (
    after_put me.0,
    keeps,
    tt,
    subst (λ (x : ℕ × ℕ). Kept plan values (set s.words (1 + pieces_of plan + x.0) x.1) (set s.views id (after_put me.0))) (λ i. (is i, (ap (λ (d : ℕ). word_of (value_at values d)) is ∙ sym right) i))
        (put_kept parted s.words s.views id me.0 j puts r at active at_work inside),
    (
      refl,
      (
        s.words,
        s.views,
        id,
        r,
        at,
        ap (λ (d : ℕ). cell plan s.words d) (sym is) ∙ (working_begun s.words me.0 j puts (r.each_view id me.0 at active) at_work).after puts (omega arith) inside,
      ),
    ),
  )

  -- finish
  module _ (words : List ℕ) (views : List View) (id : ℕ) (v : View) (j : ℕ) (r : Kept plan values words views) (at : get_elem? views id ≡ some v) (active : v.spent ≡ false) (at_work : IsWorking v j (length (own_of plan j))) where
    abbrev done_words : List ℕ
    done_words = set words (1 + j) 1

    done_grounds : Ground words v
    done_grounds = r.each_view id v at active

    done_begun : IsBegun plan values words j (length (own_of plan j))
    done_begun = working_begun words v j (length (own_of plan j)) done_grounds at_work

    done_in_range : j < pieces_of plan
    done_in_range = (done_grounds.last j at_work.0).0

    cells_done : (c : ℕ) → cell plan done_words c ≡ cell plan words c
    cells_done c = cell-finish plan words r.size 1 j c done_in_range

    flag_done : flag done_words j ≡ 1
    flag_done = flag-finish plan words r.size 1 j done_in_range

    other_flags : (k : ℕ) → k ≢ j → flag done_words k ≡ flag words k
    other_flags k apart = flag-finish_other plan words r.size 1 j k apart

    stays_finished : (k : ℕ) → flag words k ≡ 1 → flag done_words k ≡ 1
    stays_finished k one = dite (ℕ_discrete k j) (λ is. ap (λ n. flag done_words n) is ∙ flag_done) (λ apart. other_flags k apart ∙ one)

    still_unfinished : (k : ℕ) → flag done_words k ≡ 0 → flag words k ≡ 0
    still_unfinished k unset = dite (ℕ_discrete k j) (λ is. let here = ap (λ n. flag done_words n) is ∙ flag_done in absurd (omega arith)) (λ apart. sym (other_flags k apart) ∙ unset)

    finish_kept : Kept plan values done_words (set views id (knowing v j))
    finish_kept =
        let count : counter done_words ≡ counter words = counter-finish plan words r.size 1 j in
        let total = sum_at seats_in views id v (knowing v j) at in
        let left = r.seats_left in
        let draws = r.draws_left in
        let size = r.size in
        let below = (done_grounds.last j at_work.0).1 in
        record {
          size = length-set words (1 + j) 1 ∙ size;
          each_cell = λ c h. subst (λ (n : ℕ). (n ≡ 0) ⊎ (n ≡ word_of (value_at values c))) (sym (cells_done c)) (r.each_cell c h);
          each_flag = λ k h. dite (ℕ_discrete k j)
              (λ is. inr (subst (λ (n : ℕ). IsFinished plan values done_words n) (sym is) (flag_done, λ i a b. cells_done (own_cell plan j i) ∙ done_begun.before i a b)))
              (λ apart. ⊎_elim
              (λ (unset : flag words k ≡ 0). inl (other_flags k apart ∙ unset))
              (λ (done : IsFinished plan values words k). inr (other_flags k apart ∙ done.0, λ i a b. cells_done (own_cell plan k i) ∙ done.1 i a b))
              (r.each_flag k h));
          undrawn = λ k h above. let u = r.undrawn k h (omega arith) in (other_flags k (λ e. omega arith) ∙ u.0, λ i a b. cells_done (own_cell plan k i) ∙ u.1 i a b);
          each_view = views_after done_words views id (knowing v j)
              (λ k u other e a. grounds_stay words done_words u (λ m _ one. stays_finished m one) (omega arith) (λ _ _. count)
              (λ m is _ b. begun_stays words done_words m u.puts
              (other_flags m (λ same. other (r.apart k id u v m e at (a, is, b.unfinished) (active, at_work.0 ∙ ap (λ (n : ℕ). Some n) (sym same), b.unfinished))))
              (λ i _. cells_done (own_cell plan m i)) b)
              (r.each_view k u e a))
              (λ _. record {
                known = λ m c. ⊎_elim
                    (λ (is : j ≡ m). subst (λ (n : ℕ). (n < pieces_of plan) × (flag done_words n ≡ 1)) is (done_in_range, flag_done))
                    (λ (old : Contains v.known m). let p = done_grounds.known m old in (p.0, stays_finished m p.1))
                    (knows_cases j v.known m c);
                last = λ m e. let is : j ≡ m = some_same (sym at_work.0 ∙ e) in
                    subst (λ (n : ℕ). (n < pieces_of plan) × (n < counter done_words) × (Knows (knowing v j) n ⊎ IsBegun plan values done_words n v.puts)) is (done_in_range, omega arith, inl (knows_head j v.known));
                none_left = λ e. let p = done_grounds.none_left e in omega arith;
                in_order = λ a b. count ∙ done_grounds.in_order a b;
                itself = done_grounds.itself;
              });
          apart = apart_after words done_words views id (knowing v j)
              (λ k u m e x. (x.0, x.1, still_unfinished m x.2))
              (λ k u m other e mine theirs. let is : j ≡ m = some_same (sym at_work.0 ∙ mine.1) in let here = ap (λ n. flag done_words n) (sym is) ∙ flag_done in let unset = mine.2 in omega arith)
              r.apart;
          seats_left = omega arith;
          draws_left = omega arith;
          each_drawn = λ k lt under. drawn_after views id v (knowing v j) at active (λ m c. c) k (r.each_drawn k lt (omega arith));
          whole = let sum = sum_at stands_for views id v (knowing v j) at in let most = r.whole in omega (arith, sum, most);
        }

  pub finishes : (slots id : ℕ) (me : Sat) (j : ℕ) → me.0.spent ≡ false → IsWorking me.0 j (length (own_of plan j)) → Allows Rule slots id me (1 + j) (λ _. 1) (λ _. Finishes (step slots (1 + j) 1 0 none) me 1)
  finishes slots id me j active at_work s r _ at _ = (
    knowing me.0 j,
    keeps,
    tt,
    finish_kept s.words s.views id me.0 j r at active at_work,
    λ k e. let same : j ≡ k = omega arith in ap (λ (n : ℕ). (knowing me.0 n, me.1)) same,
  )

  -- seat
  -- a seat whose last piece is finished is at work on none
  at_rest : (words : List ℕ) (v : View) (j : ℕ) → Ground words v → IsIdle v → IsAtWork words v j → ⊥
  at_rest words v j g idle w = let one = (g.known j (idle j w.1)).1 in let unset = w.2 in omega arith

  at_snoc_apart : (words : List ℕ) (views : List View) (w : View) → ((j : ℕ) → IsAtWork words w j → ⊥) → Apart words views → Apart words (views ++ w ∷ [])
  at_snoc_apart words views w rests old one two v u j e d at_one at_two = ⊎_elim
      (λ (a : get_elem? views one ≡ some v). ⊎_elim
      (λ (b : get_elem? views two ≡ some u). old one two v u j a b at_one at_two)
      (λ (b : w ≡ u). absurd (rests j (subst (λ (x : View). IsAtWork words x j) (sym b) at_two)))
      (at_snoc views w u two d))
      (λ (a : w ≡ v). absurd (rests j (subst (λ (x : View). IsAtWork words x j) (sym a) at_one)))
      (at_snoc views w v one e)

  pub splits : (id : ℕ) (v : View) → v.spent ≡ false → IsIdle v → 0 < v.allowance → Splits Rule id v (splitter v) (split_off v)
  splits id v active idle some_left s r at =
      let views : List View = set s.views id (splitter v) in
      let g = r.each_view id v at active in
      let total = sum_at seats_in s.views id v (splitter v) at in
      let sum = sum_by_push seats_in views (split_off v) in
      let most = sum_one seats_in s.views id v at in
      let left = r.seats_left in
      let draws = r.draws_left in
      let fewer : seats_in (splitter v) + seats_in (split_off v) ≤ seats_in v = rw active (split_counts v.none_left v.allowance some_left) in
      let own = g.itself in
      let ground : (n seats : ℕ) (drawn : List ℕ) → (n ≡ 63 → v.none_left ≡ false → ⊥) → n < seats → Ground s.words (record v { allowance = n; drawn = drawn; seats = seats }) = λ n seats drawn less itself. record {
        known = g.known;
        last = g.last;
        none_left = g.none_left;
        in_order = λ a b. absurd (less a b);
        itself = itself;
      } in
      let all = sum_at stands_for s.views id v (splitter v) at in
      let all_too = sum_by_push stands_for views (split_off v) in
      let whole = r.whole in
      record {
        size = r.size;
        each_cell = r.each_cell;
        each_flag = r.each_flag;
        undrawn = r.undrawn;
        each_view = λ k u e a. ⊎_elim
            (λ (old : get_elem? views k ≡ some u). views_after s.words s.views id (splitter v) (λ i x _. r.each_view i x)
            (λ _. ground (v.allowance - 1) (v.seats - 1) v.drawn (λ full more. let all_of_them = seats_in-drawing v active more in omega arith) (omega arith)) k u old a)
            (λ (new : split_off v ≡ u). subst (λ (x : View). Ground s.words x) new (ground 0 1 [] (λ none_left _. omega arith) (omega arith)))
            (at_snoc views (split_off v) u k e);
        apart = at_snoc_apart s.words views (split_off v) (λ j w. at_rest s.words v j g idle w)
            (apart_after s.words s.words s.views id (splitter v) (λ k u j _ x. x) (λ k u j _ _ w _. at_rest s.words v j g idle w) r.apart);
        seats_left = omega arith;
        draws_left = omega arith;
        each_drawn = λ j lt below.
            let h = drawn_after s.views id v (splitter v) at active (λ k c. c) j (r.each_drawn j lt below) in
            (h.0, h.1, before_end views (split_off v ∷ []) h.0 h.1 h.2, h.3, h.4);
        whole = omega (arith, all, all_too, whole, own);
      }

  -- join
  joined_grounds : (words : List ℕ) (v w : View) → IsIdle v → Ground words v → Ground words w → Ground words (joined v w)
  joined_grounds words v w idle g h = record {
    known = λ j k. ⊎_elim (λ (c : Contains v.known j). g.known j c) (λ (c : Contains w.known j). h.known j c) (Contains-append_cases v.known w.known j k);
    last = λ j e. let p = g.last j e in (p.0, p.1, inl (Contains-append_left v.known w.known j (idle j e)));
    none_left = λ e. ⊎_elim (λ (a : v.none_left ≡ true). g.none_left a) (λ (b : w.none_left ≡ true). h.none_left b) (one_or_other v.none_left w.none_left e);
    in_order = λ a b. g.in_order a (neither v.none_left w.none_left b);
    itself = let own = g.itself in omega (arith, own);
  }

  -- what either seat had drawn the joined one has
  drawn_joined : (views : List View) (id other : ℕ) (v w : View) (j : ℕ) → get_elem? views id ≡ some v → get_elem? views other ≡ some w → id ≢ other → v.spent ≡ false
      → IsDrawn views j → IsDrawn (set (set views id (joined v w)) other spent_view) j
  drawn_joined views id other v w j at there apart active (k, u, e, alive, has) =
      let both : List View = set views id (joined v w) in
      let here : get_elem? (set both other spent_view) id ≡ some (joined v w) = set_there both other id (joined v w) spent_view apart (set_here views id v (joined v w) at) in
      dite (ℕ_discrete k id)
      (λ is. let same : u ≡ v = some-injective u v (sym e ∙ ap (λ n. get_elem? views n) is ∙ at) in
      (id, joined v w, here, active, Contains-append_left v.drawn w.drawn j (subst (λ (x : View). Contains x.drawn j) same has)))
      (λ not_id. dite (ℕ_discrete k other)
      (λ is. let same : u ≡ w = some-injective u w (sym e ∙ ap (λ n. get_elem? views n) is ∙ there) in
      (id, joined v w, here, active, Contains-append_right v.drawn w.drawn j (subst (λ (x : View). Contains x.drawn j) same has)))
      (λ not_other. (k, u, set_there both other k u spent_view not_other (set_there views id k u (joined v w) not_id e), alive, has)))

  seats_in-joined : (v w : View) → v.spent ≡ false → seats_in (joined v w) ≤ seats_in v
  seats_in-joined v w active = rw active (or_counts v.none_left w.none_left v.allowance)

  pub joins : (id : ℕ) (v : View) (other : ℕ) (w : View) → v.spent ≡ false → w.spent ≡ false → IsIdle v → Joins Rule id v other w (joined v w) spent_view
  joins id v other w active active_too idle s r at apart there =
      let was : get_elem? s.views other ≡ some w = ⊎_elim
      (λ (t : (other ≡ id) × (joined v w ≡ w)). absurd (apart t.0))
      (λ (t : (other ≢ id) × (get_elem? s.views other ≡ some w)). t.1)
      (at_set s.views id other (joined v w) w there) in
      let views : List View = set s.views id (joined v w) in
      let g = r.each_view id v at active in
      let h = r.each_view other w was active_too in
      let one : Held s.words views = held s.words s.views id v (joined v w) r at active refl (seats_in-joined v w active) (joined_grounds s.words v w idle g h) in
      let here : get_elem? views id ≡ some (joined v w) = set_here s.views id v (joined v w) at in
      let all = sum_at stands_for s.views id v (joined v w) at in
      let all_too = sum_at stands_for views other w spent_view there in
      let whole = r.whole in
      let total = sum_at seats_in views other w spent_view there in
      let gone = seats_in-spent spent_view refl in
      let left = one.seats_left in
      let draws = one.draws_left in
      record {
        size = r.size;
        each_cell = r.each_cell;
        each_flag = r.each_flag;
        undrawn = r.undrawn;
        each_view = views_after s.words views other spent_view (λ k u _. one.each_view k u) (λ e. absurd (true≢false e));
        apart = apart_after s.words s.words views other spent_view (λ k u j _ x. x) (λ k u j _ _ x _. absurd (true≢false x.0)) one.apart;
        seats_left = omega arith;
        draws_left = omega arith;
        each_drawn = λ j lt below. drawn_joined s.views id other v w j at was (λ e. apart (sym e)) active (r.each_drawn j lt below);
        whole = omega (arith, all, all_too, whole);
      }

  -- open: all words are 0, and there is one view
  zero_in : (n i : ℕ) → get_or {A = ℕ} (replicate n 0) i 0 ≡ 0
  zero_in zero i = refl
  zero_in (suc n) zero = refl
  zero_in (suc n) (suc i) = zero_in n i

  zero_at : (i : ℕ) → get_or {A = ℕ} (replicate (word_count plan) 0) i 0 ≡ 0
  zero_at i = zero_in (word_count plan) i

  pub opens : Kept plan values (replicate (word_count plan) 0) (first_view ∷ [])
  opens =
      let words : List ℕ = replicate (word_count plan) 0 in
      let none_drawn : counter words ≡ 0 = zero_at 0 in
      record {
        size = length-replicate (word_count plan) 0;
        each_cell = λ c _. inl (zero_at (1 + pieces_of plan + c));
        each_flag = λ j _. inl (zero_at (1 + j));
        undrawn = λ j _ _. (zero_at (1 + j), λ i _ _. zero_at (1 + pieces_of plan + own_cell plan j i));
        each_view = λ k v e a. subst (λ (x : View). Ground words x) (only k v e) record {
          known = λ j c. absurd (none_known j c);
          last = λ j e. absurd (none_last e);
          none_left = λ e. absurd (true≢false (sym e));
          in_order = λ _ _. none_drawn;
          itself = omega arith;
        };
        apart = λ one two v w j e d _ _. alone one two v w e d;
        seats_left = omega arith;
        draws_left = omega arith;
        each_drawn = λ j _ below. absurd (omega (arith, below, none_drawn));
        whole = omega arith;
      }
    where
      only : (k : ℕ) (v : View) → get_elem? (first_view ∷ []) k ≡ some v → first_view ≡ v
      only zero v e = some-injective first_view v e
      only (suc k) v e = absurd (some-ne-none v (sym e))

      alone : (one two : ℕ) (v w : View) → get_elem? (first_view ∷ []) one ≡ some v → get_elem? (first_view ∷ []) two ≡ some w → one ≡ two
      alone zero zero v w e d = refl
      alone zero (suc two) v w e d = absurd (some-ne-none w (sym d))
      alone (suc one) two v w e d = absurd (some-ne-none v (sym e))

      none_known : (j : ℕ) → Knows first_view j → ⊥
      none_known j c = let lt = c.1 in omega arith

      none_last : {j : ℕ} → None ≡ Some j → ⊥
      none_last e = cc

  -- a known cell is one of the plan's
  pub known_cell_in_range : (v : View) (c : ℕ) → IsParted plan → IsKnownCell plan v c → c < plan.cells
  known_cell_in_range v c parted (j, knows, (i, inside, is)) =
      let same : own_cell plan j i ≡ c = get_or-default (own_of plan j) i 0 c inside ∙ is in
      subst (λ (n : ℕ). n < plan.cells) same (parted.in_range j i inside)

  -- the same, at a place that was computed
  pub looks_at : (slots id : ℕ) (me : Sat) (n c : ℕ) → n ≡ cell_place plan c → me.0.spent ≡ false → IsKnownCell plan me.0 c
      → Allows Rule slots id me n (λ x. x) (Looks plan values (step slots n 0 0 none) me)
  looks_at slots id me n c here active (j, knows, (i, inside, is)) =
      let P : ℕ → Type 0 = λ x. Allows Rule slots id me x (λ y. y) (Looks plan values (step slots x 0 0 none) me) in
      subst P (sym here) (looks slots id me j i c active knows inside (get_or-default (own_of plan j) i 0 c inside ∙ is))

  pub puts_at : (slots id : ℕ) (me : Sat) (n j puts word : ℕ) → IsParted plan → n ≡ cell_place plan (own_cell plan j puts) → me.0.spent ≡ false → IsWorking me.0 j puts → puts < length (own_of plan j)
      → word ≡ word_of (value_at values (own_cell plan j puts))
      → Allows Rule slots id me n (λ _. word) (λ _. Puts plan values (step slots n word 0 none) me word)
  puts_at slots id me n j puts word parted here active at_work inside right =
      let P : ℕ → Type 0 = λ x. Allows Rule slots id me x (λ _. word) (λ _. Puts plan values (step slots x word 0 none) me word) in
      subst P (sym here) (puts_one slots id me j puts (own_cell plan j puts) word parted active at_work inside refl right)
