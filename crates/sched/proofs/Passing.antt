-- Settling the splits at a place of a nest: the symbols that it names make each form come to what the loop of its name stands for.
use Rattle.std.proofs.Common.{◌≡◌, ℕ, ◌+◌, ◌<◌, ◌≤◌, Bool, true, false, List, [], ◌∷◌, ◌++◌, Option, Some, None, refl, sym, ap, ap₂, ◌∙◌, subst, inl, inr, append_assoc, append-nil, arith}
use Rattle.std.specs.Prelude.{ℤ, pos, ◌+ℤ◌, ◌*ℤ◌, ◌≤ℤ◌, ◌<ℤ◌, ◌⊎◌, int_lt, cond}
use Rattle.std.specs.List.{AllByRecursion}
use Rattle.std.specs.Int.{int_min}
use Rattle.std.proofs.lemmas.Int.{ints}
use Rattle.lin.specs.Forms.{Form, number, combined, IsCanonical}
use Rattle.lin.proofs.TermLemmas.{all_weaker}
use Rattle.plan.specs.declared.stmt.Pick.TheVariants.{Min}
use Rattle.plan.specs.Symbols.{Symbols, bind, form_value}
use Rattle.sched.specs.declared.schedule.Split.{Split}
use Rattle.sched.specs.declared.numbers.Numbers.{Numbers}
use Rattle.sched.specs.declared.skeleton.Step.{Step}
use Rattle.sched.specs.declared.skeleton.Step.TheVariants.{Named, Tested}
use Rattle.sched.specs.declared.skeleton.Known.{Known}
use Rattle.sched.specs.declared.skeleton.Within.{Within}
use Rattle.sched.specs.Numbers.{numbers_named, last_number}
use Rattle.sched.specs.Standing.{◌>>=◌, StandingText, form_named, alone, is_now, starts_at, name_smaller, test, room, begin, join, innermost, is_guarded, settle_some}
use Rattle.sched.specs.Visits.{picked}
use Rattle.sched.proofs.Leading.{Leads, leads_on, number_is}
use Rattle.sched.proofs.Told.{Keeps, keeps_on, bind_here, bind_keeps, IsTold, told_on, told_number, told_alone, told_sum, IsInnermost, IsLimit, limit_on, limit_of}
use Rattle.sched.proofs.Standings.{Stands, stands_not, found_all, stands_more, found_more, all_more, first_number, Begins, stood, waits, plainly, shifted, begins, Puts, freely, by_loop, by_guard, by_test, Joins, stays, puts, joins}

-- ---- what stands agrees with what loops stand for

-- the split's numbers fit each other: the position is the first number of the block and the number within it, and lies in the loop that was split
pub record IsCut (rs : List Numbers) (w b : List ℕ → ℤ) (c : Split) : Type 0 where
  pub some : 0 < c.factor
  pub start : b c.whole ≡ first_number c.tail (numbers_named rs c.whole) c.factor (w c.outer)
  pub whole : w c.whole ≡ b c.whole +ℤ w c.inner
  pub most : w c.whole ≤ℤ last_number (numbers_named rs c.whole)

-- whatever stands by what is there stands
pub record IsClosed (st : StandingText) (c : Split) : Type 0 where
  pub begun : Stands st.known c.outer → Stands st.starts c.whole
  pub joined : Stands st.starts c.whole → Stands st.known c.inner → Stands st.known c.whole

-- each form comes to what its name stands for
pub record Agrees (w b : List ℕ → ℤ) (s : Symbols) (st : StandingText) : Type 0 where
  pub known : AllByRecursion (λ k. IsTold st.next s (w k.name) k.form) st.known
  pub starts : AllByRecursion (λ k. IsTold st.next s (b k.name) k.form) st.starts

-- steps lead from one place to another, and to symbols of which so much is so
pub record Moved (st new : StandingText) (s : Symbols) (P : Symbols → Type 0) : Type 0 where
  pub end : Symbols
  pub steps : List Step
  pub are : new.steps ≡ st.steps ++ steps
  pub leads : Leads steps s end
  pub keeps : Keeps st.next s end
  pub more : st.next ≤ new.next
  pub there : P end

pub moved_on : (st mid new : StandingText) (s : Symbols) (P Q : Symbols → Type 0) → Moved st mid s P → ((t : Symbols) → P t → Moved mid new t Q) → Moved st new s Q
moved_on st mid new s P Q h go =
    let k = go h.end h.there in
    let first = h.more in
    let second = k.more in
    record {
      end = k.end;
      steps = h.steps ++ k.steps;
      are = k.are ∙ ap (λ (l : List Step). l ++ k.steps) h.are ∙ append_assoc st.steps h.steps k.steps;
      leads = leads_on h.steps k.steps s h.end k.end h.leads k.leads;
      keeps = keeps_on st.next mid.next s h.end k.end h.keeps k.keeps h.more;
      more = omega (arith, first, second);
      there = k.there;
    }

pub stay : (st new : StandingText) (s : Symbols) (P : Symbols → Type 0) → new.steps ≡ st.steps → st.next ≤ new.next → P s → Moved st new s P
stay st new s P same more h = record { end = s; steps = []; are = same ∙ sym (append-nil st.steps); leads = refl; keeps = (λ i lt. refl); more = more; there = h }

-- during a settling: base is the place before it, n the innermost loop's symbol, whose number is z, and forms are new that name it or a later symbol
pub record Passing (w b : List ℕ → ℤ) (base : StandingText) (n : ℕ) (z : ℤ) (bd : List ℕ) (N : Form → Type 0) (st : StandingText) (s : Symbols) : Type 0 where
  pub agrees : Agrees w b s st
  pub bound : st.bound ≡ bd
  pub here : s.value n ≡ z
  pub inside : n < st.next
  pub limits : AllByRecursion (IsLimit n z s) st.limits
  pub known : (x : List ℕ) (f : Form) → form_named st.known x ≡ Some f → Stands base.known x ⊎ N f
  pub starts : (x : List ℕ) (f : Form) → form_named st.starts x ≡ Some f → Stands base.starts x ⊎ N f
  pub more : (x : List ℕ) → Stands base.known x → Stands st.known x
  pub more_starts : (x : List ℕ) → Stands base.starts x → Stands st.starts x

pub min_first : (a b : ℤ) → a ≤ℤ b → int_min a b ≡ a
min_first a b h = of (int_lt b a) refl
  where
    of : (v : Bool) → int_lt b a ≡ v → cond v b a ≡ a
    of true e = absurd (let k : b <ℤ a = grind (ints, arith) in omega (arith, ints, h, k))
    of false e = refl

pub named_least : (s : Symbols) (form : Form) (y last : ℤ) → form_value form s ≡ y → picked Min (form ∷ number last ∷ []) s ≡ int_min y last
named_least s form y last e = ap₂ int_min e (number_is last s)

told_all : (v : List ℕ → ℤ) (n m : ℕ) (s t : Symbols) (ks : List Known) → Keeps n s t → n ≤ m → AllByRecursion (λ k. IsTold n s (v k.name) k.form) ks →
    AllByRecursion (λ k. IsTold m t (v k.name) k.form) ks
told_all v n m s t ks k le a = all_weaker (λ k. IsTold n s (v k.name) k.form) (λ k. IsTold m t (v k.name) k.form) (λ m' h. told_on n m s t (v m'.name) m'.form h k le) ks a

pub agrees_on : (w b : List ℕ → ℤ) (s t : Symbols) (st : StandingText) (m : ℕ) → Keeps st.next s t → st.next ≤ m → Agrees w b s st → Agrees w b t (record st { next = m })
agrees_on w b s t st m k le h = record { known = told_all w st.next m s t st.known k le h.known; starts = told_all b st.next m s t st.starts k le h.starts }

module _ (w b : List ℕ → ℤ) (base : StandingText) (n : ℕ) (z : ℤ) (bd : List ℕ) (N : Form → Type 0) where
  abbrev Pass : StandingText → Symbols → Type 0
  Pass st s = Passing w b base n z bd N st s

  with_steps : (st : StandingText) (s : Symbols) (steps : List Step) → Pass st s → Pass (record st { steps = steps }) s
  with_steps st s steps h = record {
    agrees = record {
      known = h.agrees.known;
      starts = h.agrees.starts;
    };
    bound = h.bound;
    here = h.here;
    inside = h.inside;
    limits = h.limits;
    known = h.known;
    starts = h.starts;
    more = h.more;
    more_starts = h.more_starts;
  }

  with_limit : (st : StandingText) (s : Symbols) (l : Form) → IsLimit n z s l → Pass st s → Pass (record st { limits = st.limits ++ l ∷ [] }) s
  with_limit st s l k h = record {
    agrees = record {
      known = h.agrees.known;
      starts = h.agrees.starts;
    };
    bound = h.bound;
    here = h.here;
    inside = h.inside;
    limits = limits_more st.limits h.limits;
    known = h.known;
    starts = h.starts;
    more = h.more;
    more_starts = h.more_starts;
  }
    where
      limits_more : (ls : List Form) → AllByRecursion (IsLimit n z s) ls → AllByRecursion (IsLimit n z s) (ls ++ l ∷ [])
      limits_more [] a = (k, tt)
      limits_more (m ∷ ms) a = (a.0, limits_more ms a.1)

  named_next : (st : StandingText) (s : Symbols) (y : ℤ) (form : Form) (least : ℤ) → Pass st s → Pass (name_smaller form least st) (bind s st.next y true)
  named_next st s y form least h =
      let keeps = bind_keeps s st.next y true in
      let lt = h.inside in
      record {
        agrees = record {
          known = told_all w st.next (st.next + 1) s (bind s st.next y true) st.known keeps (omega arith) h.agrees.known;
          starts = told_all b st.next (st.next + 1) s
              (bind s st.next y true) st.starts keeps (omega arith) h.agrees.starts;
        };
        bound = h.bound;
        here = keeps n h.inside ∙ h.here;
        inside = omega (arith, lt);
        limits = all_weaker (IsLimit n z s) (IsLimit n z (bind s st.next y true)) (λ l k. limit_on n st.next z s (bind s st.next y true) l keeps (omega (arith, lt)) k) st.limits h.limits;
        known = h.known;
        starts = h.starts;
        more = h.more;
        more_starts = h.more_starts;
      }

  put_now : (st : StandingText) (s : Symbols) (x : List ℕ) (form : Form) → IsTold st.next s (w x) form → N form → Pass st s → Pass (is_now x form st) s
  put_now st s x form told new h = record {
    agrees = record { known = all_more (λ k. IsTold st.next s (w k.name) k.form) st.known (record { name = x; form = form }) h.agrees.known told; starts = h.agrees.starts };
    bound = h.bound;
    here = h.here;
    inside = h.inside;
    limits = h.limits;
    known = (λ y f e. of y f (found_more st.known (record { name = x; form = form }) y f e));
    starts = h.starts;
    more = (λ y k. stands_more st.known (record { name = x; form = form }) y (h.more y k));
    more_starts = h.more_starts;
  }
    where
      of : (y : List ℕ) (f : Form) → (form_named st.known y ≡ Some f) ⊎ ((x ≡ y) × (form ≡ f)) → Stands base.known y ⊎ N f
      of y f (inl e) = h.known y f e
      of y f (inr e) = inr (subst N e.1 new)

  put_start : (st : StandingText) (s : Symbols) (x : List ℕ) (form : Form) → IsTold st.next s (b x) form → N form → Pass st s → Pass (starts_at x form st) s
  put_start st s x form told new h = record {
    agrees = record { known = h.agrees.known; starts = all_more (λ k. IsTold st.next s (b k.name) k.form) st.starts (record { name = x; form = form }) h.agrees.starts told };
    bound = h.bound;
    here = h.here;
    inside = h.inside;
    limits = h.limits;
    known = h.known;
    starts = (λ y f e. of y f (found_more st.starts (record { name = x; form = form }) y f e));
    more = h.more;
    more_starts = (λ y k. stands_more st.starts (record { name = x; form = form }) y (h.more_starts y k));
  }
    where
      of : (y : List ℕ) (f : Form) → (form_named st.starts y ≡ Some f) ⊎ ((x ≡ y) × (form ≡ f)) → Stands base.starts y ⊎ N f
      of y f (inl e) = h.starts y f e
      of y f (inr e) = inr (subst N e.1 new)

module _
    (rs : List Numbers) (w b : List ℕ → ℤ) (base : StandingText) (n : ℕ) (z : ℤ) (bd : List ℕ) (N : Form → Type 0)
    (first : (f g c : Form) (k : ℤ) → pos 0 <ℤ k → combined f k g ≡ Some c → AllByRecursion (λ t. pos 0 <ℤ t.factor) f.terms → AllByRecursion (λ t. pos 0 <ℤ t.factor) g.terms → N f → N c)
    (second : (f g c : Form) (k : ℤ) → pos 0 <ℤ k → combined f k g ≡ Some c → AllByRecursion (λ t. pos 0 <ℤ t.factor) f.terms → AllByRecursion (λ t. pos 0 <ℤ t.factor) g.terms → N g → N c)
    (later : (i : ℕ) → n ≤ i → N (alone i))
    (inner : (f : Form) (i : ℕ) → IsCanonical f.terms → N f → innermost bd f ≡ Some i → IsInnermost n f i) where
  abbrev Pass' : StandingText → Symbols → Type 0
  Pass' st s = Passing w b base n z bd N st s

  module _ (c : Split) (cut : IsCut rs w b c) (closed : IsClosed base c) (st new : StandingText) (s : Symbols) (h : Pass' st s) where
    abbrev r : Numbers
    r = numbers_named rs c.whole

    positive : pos 0 <ℤ pos c.factor
    positive = let some = cut.some in omega (arith, ints, some)

    -- the first number of the block
    start_told : (outer form : Form) → form_named st.known c.outer ≡ Some outer → combined (number r.low) (pos c.factor) outer ≡ Some form → IsTold st.next s (r.low +ℤ pos c.factor *ℤ w c.outer) form
    start_told outer form some sum =
        told_sum st.next s r.low (w c.outer) (number r.low) outer form (pos c.factor) positive sum (told_number st.next s r.low)
        (found_all (λ x f. IsTold st.next s (w x) f) st.known c.outer outer h.agrees.known some)

    start_new : (outer form : Form) → form_named st.starts c.whole ≡ None → form_named st.known c.outer ≡ Some outer → combined (number r.low) (pos c.factor) outer ≡ Some form → N form
    start_new outer form none some sum = of (h.known c.outer outer some)
      where
        of : Stands base.known c.outer ⊎ N outer → N form
        of (inl k) = absurd (stands_not st.starts c.whole none (h.more_starts c.whole (closed.begun k)))
        of (inr k) =
            second (number r.low) outer form (pos c.factor) positive sum tt
            (found_all (λ x f. IsTold st.next s (w x) f) st.known c.outer outer h.agrees.known some).positive k

    begin_moves : Begins c r st new → Moved st new s (Pass' new)
    begin_moves (stood k e) = stay st new s (Pass' new) (ap (λ (a : StandingText). a.steps) e) (let same = ap (λ (a : StandingText). a.next) e in omega (arith, same))
        (subst (λ (a : StandingText). Pass' a s) (sym e) h)
    begin_moves (waits k e) = stay st new s (Pass' new) (ap (λ (a : StandingText). a.steps) e) (let same = ap (λ (a : StandingText). a.next) e in omega (arith, same))
        (subst (λ (a : StandingText). Pass' a s) (sym e) h)
    begin_moves (plainly outer form none some sum is e) =
        let told = subst (λ y. IsTold st.next s y form) (sym (cut.start ∙ is (w c.outer))) (start_told outer form some sum) in
        let k = put_start w b base n z bd N st s c.whole form told (start_new outer form none some sum) h in
        subst (λ (a : StandingText). Moved st a s (Pass' a)) (sym e) (stay st (starts_at c.whole form st) s (Pass' (starts_at c.whole form st)) refl (omega arith) k)
    begin_moves (shifted outer form none some sum is e) =
        let y = picked Min (form ∷ number (room r c.factor) ∷ []) s in
        let t = bind s st.next y true in
        let mid = name_smaller form (room r c.factor) st in
        let value : y ≡ b c.whole = named_least s form (r.low +ℤ pos c.factor *ℤ w c.outer) (room r c.factor) (start_told outer form some sum).value ∙ sym (cut.start ∙ is (w c.outer)) in
        let lt = h.inside in
        let k = put_start w b base n z bd N mid t c.whole (alone st.next) (told_alone (st.next + 1) st.next t (b c.whole) (omega arith) (bind_here s st.next y true ∙ value))
        (later st.next (omega (arith, lt)))
        (named_next w b base n z bd N st s y form (room r c.factor) h) in
        subst (λ (a : StandingText). Moved st a s (Pass' a)) (sym e)
        (record { end = t; steps = Named st.next Min (form ∷ number (room r c.factor) ∷ []) ∷ []; are = refl; leads = refl; keeps = bind_keeps s st.next y true; more = omega arith; there = k })

    -- the position
    abbrev last : ℤ
    last = last_number r

    whole_told : (start inside form : Form) → form_named st.starts c.whole ≡ Some start → form_named st.known c.inner ≡ Some inside → combined start (pos 1) inside ≡ Some form →
        IsTold st.next s (w c.whole) form
    whole_told start inside form one two sum =
        let value : (b c.whole +ℤ pos 1 *ℤ w c.inner) ≡ w c.whole = (let k = cut.whole in omega (arith, ints, k)) in
        subst (λ y. IsTold st.next s y form) value
        (told_sum st.next s (b c.whole) (w c.inner) start inside form (pos 1) (omega (arith, ints)) sum
        (found_all (λ x f. IsTold st.next s (b x) f) st.starts c.whole start h.agrees.starts one)
        (found_all (λ x f. IsTold st.next s (w x) f) st.known c.inner inside h.agrees.known two))

    whole_new : (start inside form : Form) → form_named st.known c.whole ≡ None → form_named st.starts c.whole ≡ Some start → form_named st.known c.inner ≡ Some inside →
        combined start (pos 1) inside ≡ Some form → N form
    whole_new start inside form none one two sum = of (h.starts c.whole start one) (h.known c.inner inside two)
      where
        a : IsTold st.next s (b c.whole) start
        a = found_all (λ x f. IsTold st.next s (b x) f) st.starts c.whole start h.agrees.starts one

        d : IsTold st.next s (w c.inner) inside
        d = found_all (λ x f. IsTold st.next s (w x) f) st.known c.inner inside h.agrees.known two

        of : Stands base.starts c.whole ⊎ N start → Stands base.known c.inner ⊎ N inside → N form
        of (inl k) (inl m) = absurd (stands_not st.known c.whole none (h.more c.whole (closed.joined k m)))
        of (inr k) m = first start inside form (pos 1) (omega (arith, ints)) sum a.positive d.positive k
        of (inl k) (inr m) = second start inside form (pos 1) (omega (arith, ints)) sum a.positive d.positive m

    module _ (form : Form) (told : IsTold st.next s (w c.whole) form) (fresh : N form) where
      passes_test : form_value form s ≤ℤ form_value (number last) s
      passes_test = let k = told.value in let most = cut.most in let e = number_is last s in omega (arith, ints, k, most, e)

      puts_move : (guarded : Bool) → Puts guarded c.whole last form st new → Moved st new s (Pass' new)
      puts_move guarded (freely free e) =
          subst (λ (a : StandingText). Moved st a s (Pass' a)) (sym e)
          (stay st (is_now c.whole form st) s (Pass' (is_now c.whole form st)) refl (omega arith) (put_now w b base n z bd N st s c.whole form told fresh h))
      puts_move guarded (by_loop i limit innermost_at sum e) =
          let is = inner form i told.rising fresh (ap (λ l. innermost l form) (sym h.bound) ∙ innermost_at) in
          let l = subst (λ y. IsLimit n y s limit) h.here (limit_of n s form limit (w c.whole) last i told.value cut.most is sum) in
          let mid = record st { limits = st.limits ++ limit ∷ [] } in
          subst (λ (a : StandingText). Moved st a s (Pass' a)) (sym e)
          (stay st (is_now c.whole form mid) s (Pass' (is_now c.whole form mid)) refl (omega arith)
          (put_now w b base n z bd N mid s c.whole form told fresh (with_limit w b base n z bd N st s limit l h)))
      puts_move guarded (by_guard e) =
          let tested = test form last st in
          let y = picked Min (form ∷ number last ∷ []) s in
          let t = bind s st.next y true in
          let mid = name_smaller form last tested in
          let value : y ≡ w c.whole = named_least s form (w c.whole) last told.value ∙ min_first (w c.whole) last cut.most in
          let lt = h.inside in
          let k = put_now w b base n z bd N mid t c.whole (alone st.next) (told_alone (st.next + 1) st.next t (w c.whole) (omega arith) (bind_here s st.next y true ∙ value))
          (later st.next (omega (arith, lt)))
          (named_next w b base n z bd N tested s y form last (with_steps w b base n z bd N st s (st.steps ++ Tested form (number last) ∷ []) h)) in
          subst (λ (a : StandingText). Moved st a s (Pass' a)) (sym e)
          (record {
            end = t;
            steps = Tested form (number last) ∷ Named st.next Min (form ∷ number last ∷ []) ∷ [];
            are = append_assoc st.steps (Tested form (number last) ∷ []) (Named st.next Min (form ∷ number last ∷ []) ∷ []);
            leads = (passes_test, refl);
            keeps = bind_keeps s st.next y true;
            more = omega arith;
            there = k;
          })
      puts_move guarded (by_test e) =
          let tested = test form last st in
          subst (λ (a : StandingText). Moved st a s (Pass' a)) (sym e)
          (record {
            end = s;
            steps = Tested form (number last) ∷ [];
            are = refl;
            leads = (passes_test, refl);
            keeps = (λ i lt. refl);
            more = omega arith;
            there = put_now w b base n z bd N tested s c.whole form told fresh (with_steps w b base n z bd N st s (st.steps ++ Tested form (number last) ∷ []) h);
          })

    join_moves : (v : Within) (guarded : Bool) → Joins v guarded c r st new → Moved st new s (Pass' new)
    join_moves v guarded (stays e k) = stay st new s (Pass' new) (ap (λ (a : StandingText). a.steps) e) (let same = ap (λ (a : StandingText). a.next) e in omega (arith, same))
        (subst (λ (a : StandingText). Pass' a s) (sym e) h)
    join_moves v guarded (puts start inside form none one two sum k) = puts_move form (whole_told start inside form one two sum) (whole_new start inside form none one two sum) guarded k

  -- one split after another
  pub passes : (v : Within) (all cs : List Split) (st new : StandingText) (s : Symbols) → AllByRecursion (IsCut rs w b) cs → AllByRecursion (IsClosed base) cs →
      settle_some v rs all cs st ≡ Some new → Pass' st s → Moved st new s (Pass' new)
  passes v all [] st new s cuts closed e h = let same : new ≡ st = cc in stay st new s (Pass' new) (ap (λ (a : StandingText). a.steps) same)
      (let k = ap (λ (a : StandingText). a.next) same in omega (arith, k)) (subst (λ (a : StandingText). Pass' a s) (sym same) h)
  passes v all (c ∷ cs) st new s cuts closed e h = begun (begin c (numbers_named rs c.whole) st) refl e (λ after u d m. passes v all cs after new u cuts.1 closed.1 d m)
    where
      joined : (mid : StandingText) (o : Option StandingText) (t : Symbols) → join v (is_guarded rs all c) c (numbers_named rs c.whole) mid ≡ o → (o >>= settle_some v rs all cs) ≡ Some new →
          Pass' mid t →
          ((after : StandingText) (u : Symbols) → settle_some v rs all cs after ≡ Some new → Pass' after u → Moved after new u (Pass' new)) → Moved mid new t (Pass' new)
      joined mid None t j e k rest = absurd (cc e)
      joined mid (Some after) t j e k rest =
          moved_on mid after new t (Pass' after) (Pass' new)
          (join_moves c cuts.0 closed.0 mid after t k v (is_guarded rs all c) (joins c (numbers_named rs c.whole) mid after v (is_guarded rs all c) j))
          (λ u m. rest after u e m)

      begun : (o : Option StandingText) → begin c (numbers_named rs c.whole) st ≡ o →
          (o >>= λ mid. join v (is_guarded rs all c) c (numbers_named rs c.whole) mid >>= settle_some v rs all cs) ≡ Some new →
          ((after : StandingText) (u : Symbols) → settle_some v rs all cs after ≡ Some new → Pass' after u → Moved after new u (Pass' new)) → Moved st new s (Pass' new)
      begun None j e rest = absurd (cc e)
      begun (Some mid) j e rest =
          moved_on st mid new s (Pass' mid) (Pass' new)
          (begin_moves c cuts.0 closed.0 st mid s h (begins c (numbers_named rs c.whole) st mid j))
          (λ t k. joined mid (join v (is_guarded rs all c) c (numbers_named rs c.whole) mid) t refl e k rest)
