-- Settling the splits at a place of a nest, seen from what its steps lead to: each form keeps to what is so of the loop of its name.
use Rattle.std.proofs.Common.{◌≡◌, ℕ, ◌+◌, ◌<◌, ◌≤◌, Bool, true, false, List, [], ◌∷◌, ◌++◌, Some, None, refl, sym, ap, ◌∙◌, subst, inl, inr, append_assoc, append-nil, arith}
use Rattle.std.specs.Prelude.{ℤ, pos, ◌+ℤ◌, ◌*ℤ◌, ◌≤ℤ◌, ◌<ℤ◌, ◌⊎◌}
use Rattle.std.specs.List.{AllByRecursion}
use Rattle.std.proofs.lemmas.Int.{ints}
use Rattle.lin.specs.Forms.{Form, number, combined, IsCanonical}
use Rattle.lin.proofs.TermLemmas.{all_weaker}
use Rattle.plan.specs.declared.stmt.Pick.TheVariants.{Min}
use Rattle.plan.specs.Symbols.{Symbols, bind, form_value}
use Rattle.sched.specs.declared.schedule.Split.{Split}
use Rattle.sched.specs.declared.numbers.Numbers.{Numbers}
use Rattle.sched.specs.declared.skeleton.Step.{Step}
use Rattle.sched.specs.declared.skeleton.Step.TheVariants.{Named, Tested}
use Rattle.sched.specs.declared.skeleton.Known.{Known}
use Rattle.sched.specs.declared.skeleton.Within.{Within}
use Rattle.sched.specs.Numbers.{numbers_named, last_number}
use Rattle.sched.specs.Standing.{StandingText, form_named, alone, is_now, starts_at, name_smaller, test, room, innermost, is_guarded, settle_some}
use Rattle.sched.specs.Visits.{picked}
use Rattle.sched.proofs.Leading.{In, in_right, Leads, leads_apart, number_is}
use Rattle.sched.proofs.Told.{Keeps, keeps_on, kept_value, bind_here, bind_keeps, IsTold, told_on, told_number, told_alone, told_sum, IsInnermost, limit_value, limit_outer}
use Rattle.sched.proofs.Standings.{Stands, stands_not, found_all, stands_more, found_more, all_more, first_number, Begins, stood, waits, plainly, shifted, Puts, freely, by_loop, by_guard, by_test, Joins, stays, puts}
use Rattle.sched.proofs.Passing.{IsClosed, min_first, named_least}
use Rattle.sched.proofs.Closing.{next_of, settle_limits}

-- ---- what is so of forms

-- the form comes to a number of which so much is so
pub record IsSuch (n : ℕ) (s : Symbols) (V : ℤ → Type 0) (form : Form) : Type 0 where
  pub number : ℤ
  pub told : IsTold n s number form
  pub is : V number

pub such_on : (n m : ℕ) (s t : Symbols) (V : ℤ → Type 0) (f : Form) → IsSuch n s V f → Keeps n s t → n ≤ m → IsSuch m t V f
such_on n m s t V f h k le = record { number = h.number; told = told_on n m s t h.number f h.told k le; is = h.is }

-- what is so of the numbers of a split's loops is so of its blocks and of the positions in its loop
pub record CutKeeps (rs : List Numbers) (all : List Split) (P Q : List ℕ → ℤ → Type 0) (c : Split) : Type 0 where
  pub some : 0 < c.factor
  pub start : (z : ℤ) → P c.outer z → Q c.whole (first_number c.tail (numbers_named rs c.whole) c.factor z)
  pub free : (y z : ℤ) → is_guarded rs all c ≡ false → Q c.whole y → P c.inner z → P c.whole (y +ℤ z)
  pub tested : (y z : ℤ) → (y +ℤ z) ≤ℤ last_number (numbers_named rs c.whole) → Q c.whole y → P c.inner z → P c.whole (y +ℤ z)

-- ---- from one place to another

-- the steps of the later place go on from those of the earlier
abbrev pub Grows : StandingText → StandingText → Type 0
Grows st new = (steps : List Step) × (new.steps ≡ st.steps ++ steps)

-- whatever the steps from one place to another lead to, so much is so of it
abbrev pub Kept : StandingText → StandingText → Symbols → (Symbols → Type 0) → Type 0
Kept st new s R = (steps : List Step) (t : Symbols) → new.steps ≡ st.steps ++ steps → Leads steps s t → Keeps st.next s t × R t

pub same_rest : (xs ys zs : List Step) → xs ++ ys ≡ xs ++ zs → ys ≡ zs
same_rest [] ys zs e = e
same_rest (x ∷ xs) ys zs e = same_rest xs ys zs (let k : xs ++ ys ≡ xs ++ zs = cc in k)

pub kept_on : (st mid new : StandingText) (s : Symbols) (P R : Symbols → Type 0) → Grows st mid → Grows mid new → st.next ≤ mid.next → Kept st mid s P → ((t : Symbols) → P t → Kept mid new t R) →
    Kept st new s R
kept_on st mid new s P R g k le h later steps t e leads =
    let both : new.steps ≡ st.steps ++ (g.0 ++ k.0) = k.1 ∙ ap (λ (l : List Step). l ++ k.0) g.1 ∙ append_assoc st.steps g.0 k.0 in
    let parts = leads_apart g.0 k.0 s t (subst (λ (l : List Step). Leads l s t) (same_rest st.steps steps (g.0 ++ k.0) (sym e ∙ both)) leads) in
    let a = h g.0 parts.0 g.1 parts.1 in
    let b = later parts.0 a.1 k.0 t k.1 parts.2 in
    (keeps_on st.next mid.next s parts.0 t a.0 b.0 le, b.1)

-- where no steps are between, or these
pub no_steps : (st new : StandingText) (s : Symbols) (R : Symbols → Type 0) → new.steps ≡ st.steps → R s → Kept st new s R
no_steps st new s R same h steps t e leads =
    let none : [] ≡ steps = same_rest st.steps [] steps (append-nil st.steps ∙ sym same ∙ e) in
    let here : t ≡ s = subst (λ (l : List Step). Leads l s t) (sym none) leads in
    subst (λ u. Keeps st.next s u × R u) (sym here) ((λ i lt. refl), h)

these_steps : (st new : StandingText) (s : Symbols) (R : Symbols → Type 0) (xs : List Step) → new.steps ≡ st.steps ++ xs → ((t : Symbols) → Leads xs s t → Keeps st.next s t × R t) → Kept st new s R
these_steps st new s R xs same h steps t e leads = h t (subst (λ (l : List Step). Leads l s t) (sym (same_rest st.steps xs steps (sym same ∙ e))) leads)

pub grows_on : (st mid new : StandingText) → Grows st mid → Grows mid new → Grows st new
grows_on st mid new g k = (g.0 ++ k.0, k.1 ∙ ap (λ (l : List Step). l ++ k.0) g.1 ∙ append_assoc st.steps g.0 k.0)

pub grows_same : (st new : StandingText) → new ≡ st → Grows st new
grows_same st new e = ([], ap (λ (a : StandingText). a.steps) e ∙ sym (append-nil st.steps))

begin_grows : (c : Split) (r : Numbers) (st new : StandingText) → Begins c r st new → Grows st new
begin_grows c r st new (stood k e) = grows_same st new e
begin_grows c r st new (waits k e) = grows_same st new e
begin_grows c r st new (plainly outer form none some sum is e) = ([], ap (λ (a : StandingText). a.steps) e ∙ sym (append-nil st.steps))
begin_grows c r st new (shifted outer form none some sum is e) = (Named st.next Min (form ∷ number (room r c.factor) ∷ []) ∷ [], ap (λ (a : StandingText). a.steps) e)

put_grows : (guarded : Bool) (x : List ℕ) (last : ℤ) (form : Form) (st new : StandingText) → Puts guarded x last form st new → Grows st new
put_grows guarded x last form st new (freely free e) = ([], ap (λ (a : StandingText). a.steps) e ∙ sym (append-nil st.steps))
put_grows guarded x last form st new (by_loop i limit inner sum e) = ([], ap (λ (a : StandingText). a.steps) e ∙ sym (append-nil st.steps))
put_grows guarded x last form st new (by_guard e) = (
  Tested form (number last) ∷ Named st.next Min (form ∷ number last ∷ []) ∷ [],
  ap (λ (a : StandingText). a.steps) e
      ∙ append_assoc st.steps (Tested form (number last) ∷ []) (Named st.next Min (form ∷ number last ∷ []) ∷ []),
)
put_grows guarded x last form st new (by_test e) = (Tested form (number last) ∷ [], ap (λ (a : StandingText). a.steps) e)

join_grows : (v : Within) (guarded : Bool) (c : Split) (r : Numbers) (st new : StandingText) → Joins v guarded c r st new → Grows st new
join_grows v guarded c r st new (stays e k) = grows_same st new e
join_grows v guarded c r st new (puts start inner form none one two sum k) = put_grows guarded c.whole (last_number r) form st new k

pub settle_grows : (v : Within) (rs : List Numbers) (all cs : List Split) (st new : StandingText) → settle_some v rs all cs st ≡ Some new → Grows st new
settle_grows v rs all [] st new e = grows_same st new (let same : new ≡ st = cc in same)
settle_grows v rs all (c ∷ cs) st new e =
    let k = next_of v rs all c cs st new e in
    grows_on st k.joins new
    (grows_on st k.begins k.joins (begin_grows c (numbers_named rs c.whole) st k.begins k.begun) (join_grows v (is_guarded rs all c) c (numbers_named rs c.whole) k.begins k.joins k.joined))
    (settle_grows v rs all cs k.joins new k.rest)

-- ---- one place

-- as `Passing`, but that each form's number is so: base is the place before, n the innermost loop's symbol, and forms are new that name it or a later one;
-- outside is what symbols stood for at base
pub record Holding (P Q : List ℕ → ℤ → Type 0) (base : StandingText) (n : ℕ) (outside : Symbols) (z : ℤ) (bd : List ℕ) (N : Form → Type 0) (st : StandingText) (s : Symbols) : Type 0 where
  pub known : AllByRecursion (λ k. IsSuch st.next s (P k.name) k.form) st.known
  pub starts : AllByRecursion (λ k. IsSuch st.next s (Q k.name) k.form) st.starts
  pub bound : st.bound ≡ bd
  pub here : s.value n ≡ z
  pub same : Keeps n outside s
  pub inside : n < st.next
  pub new_known : (x : List ℕ) (f : Form) → form_named st.known x ≡ Some f → Stands base.known x ⊎ N f
  pub new_starts : (x : List ℕ) (f : Form) → form_named st.starts x ≡ Some f → Stands base.starts x ⊎ N f
  pub more : (x : List ℕ) → Stands base.known x → Stands st.known x
  pub more_starts : (x : List ℕ) → Stands base.starts x → Stands st.starts x

pub such_all : (V : List ℕ → ℤ → Type 0) (n m : ℕ) (s t : Symbols) (ks : List Known) → Keeps n s t → n ≤ m → AllByRecursion (λ k. IsSuch n s (V k.name) k.form) ks →
    AllByRecursion (λ k. IsSuch m t (V k.name) k.form) ks
such_all V n m s t ks k le a = all_weaker (λ k. IsSuch n s (V k.name) k.form) (λ k. IsSuch m t (V k.name) k.form) (λ m' h. such_on n m s t (V m'.name) m'.form h k le) ks a

module _ (P Q : List ℕ → ℤ → Type 0) (base : StandingText) (n : ℕ) (outside : Symbols) (z : ℤ) (bd : List ℕ) (N : Form → Type 0) where
  abbrev Hold : StandingText → Symbols → Type 0
  Hold st s = Holding P Q base n outside z bd N st s

  with_steps : (st : StandingText) (s : Symbols) (steps : List Step) → Hold st s → Hold (record st { steps = steps }) s
  with_steps st s steps h = record {
    known = h.known;
    starts = h.starts;
    bound = h.bound;
    here = h.here;
    same = h.same;
    inside = h.inside;
    new_known = h.new_known;
    new_starts = h.new_starts;
    more = h.more;
    more_starts = h.more_starts;
  }

  with_limit : (st : StandingText) (s : Symbols) (l : Form) → Hold st s → Hold (record st { limits = st.limits ++ l ∷ [] }) s
  with_limit st s l h = record {
    known = h.known;
    starts = h.starts;
    bound = h.bound;
    here = h.here;
    same = h.same;
    inside = h.inside;
    new_known = h.new_known;
    new_starts = h.new_starts;
    more = h.more;
    more_starts = h.more_starts;
  }

  named_next : (st : StandingText) (s : Symbols) (y : ℤ) (form : Form) (least : ℤ) → Hold st s → Hold (name_smaller form least st) (bind s st.next y true)
  named_next st s y form least h =
      let keeps = bind_keeps s st.next y true in
      let lt = h.inside in
      record {
        known = such_all P st.next (st.next + 1) s (bind s st.next y true) st.known keeps (omega arith) h.known;
        starts = such_all Q st.next (st.next + 1) s (bind s st.next y true) st.starts keeps (omega arith) h.starts;
        bound = h.bound;
        here = keeps n h.inside ∙ h.here;
        same = (λ i less. keeps i (omega (arith, less, lt)) ∙ h.same i less);
        inside = omega (arith, lt);
        new_known = h.new_known;
        new_starts = h.new_starts;
        more = h.more;
        more_starts = h.more_starts;
      }

  put_now : (st : StandingText) (s : Symbols) (x : List ℕ) (form : Form) → IsSuch st.next s (P x) form → N form → Hold st s → Hold (is_now x form st) s
  put_now st s x form such fresh h = record {
    known = all_more (λ k. IsSuch st.next s (P k.name) k.form) st.known (record { name = x; form = form }) h.known such;
    starts = h.starts;
    bound = h.bound;
    here = h.here;
    same = h.same;
    inside = h.inside;
    new_known = (λ y f e. of y f (found_more st.known (record { name = x; form = form }) y f e));
    new_starts = h.new_starts;
    more = (λ y k. stands_more st.known (record { name = x; form = form }) y (h.more y k));
    more_starts = h.more_starts;
  }
    where
      of : (y : List ℕ) (f : Form) → (form_named st.known y ≡ Some f) ⊎ ((x ≡ y) × (form ≡ f)) → Stands base.known y ⊎ N f
      of y f (inl e) = h.new_known y f e
      of y f (inr e) = inr (subst N e.1 fresh)

  put_start : (st : StandingText) (s : Symbols) (x : List ℕ) (form : Form) → IsSuch st.next s (Q x) form → N form → Hold st s → Hold (starts_at x form st) s
  put_start st s x form such fresh h = record {
    known = h.known;
    starts = all_more (λ k. IsSuch st.next s (Q k.name) k.form) st.starts (record { name = x; form = form }) h.starts such;
    bound = h.bound;
    here = h.here;
    same = h.same;
    inside = h.inside;
    new_known = h.new_known;
    new_starts = (λ y f e. of y f (found_more st.starts (record { name = x; form = form }) y f e));
    more = h.more;
    more_starts = (λ y k. stands_more st.starts (record { name = x; form = form }) y (h.more_starts y k));
  }
    where
      of : (y : List ℕ) (f : Form) → (form_named st.starts y ≡ Some f) ⊎ ((x ≡ y) × (form ≡ f)) → Stands base.starts y ⊎ N f
      of y f (inl e) = h.new_starts y f e
      of y f (inr e) = inr (subst N e.1 fresh)

-- ---- settling

module _
    (rs : List Numbers) (all : List Split) (P Q : List ℕ → ℤ → Type 0) (base : StandingText) (n : ℕ) (outside : Symbols) (z : ℤ) (bd : List ℕ) (N : Form → Type 0) (final : List Form)
    (first : (f g c : Form) (k : ℤ) → pos 0 <ℤ k → combined f k g ≡ Some c → AllByRecursion (λ t. pos 0 <ℤ t.factor) f.terms → AllByRecursion (λ t. pos 0 <ℤ t.factor) g.terms → N f → N c)
    (second : (f g c : Form) (k : ℤ) → pos 0 <ℤ k → combined f k g ≡ Some c → AllByRecursion (λ t. pos 0 <ℤ t.factor) f.terms → AllByRecursion (λ t. pos 0 <ℤ t.factor) g.terms → N g → N c)
    (later : (i : ℕ) → n ≤ i → N (alone i))
    (inner : (f : Form) (i : ℕ) → IsCanonical f.terms → N f → innermost bd f ≡ Some i → IsInnermost n f i × ((l : Form) → In l final → z ≤ℤ form_value l outside)) where
  abbrev Hold' : StandingText → Symbols → Type 0
  Hold' st s = Holding P Q base n outside z bd N st s

  module _ (c : Split) (cut : CutKeeps rs all P Q c) (closed : IsClosed base c) (st new : StandingText) (s : Symbols) (h : Hold' st s) where
    abbrev r : Numbers
    r = numbers_named rs c.whole

    positive : pos 0 <ℤ pos c.factor
    positive = let some = cut.some in omega (arith, ints, some)

    known_at : (x : List ℕ) (f : Form) → form_named st.known x ≡ Some f → IsSuch st.next s (P x) f
    known_at x f e = found_all (λ y g. IsSuch st.next s (P y) g) st.known x f h.known e

    starts_at' : (x : List ℕ) (f : Form) → form_named st.starts x ≡ Some f → IsSuch st.next s (Q x) f
    starts_at' x f e = found_all (λ y g. IsSuch st.next s (Q y) g) st.starts x f h.starts e

    start_new : (outer form : Form) → form_named st.starts c.whole ≡ None → form_named st.known c.outer ≡ Some outer → combined (number r.low) (pos c.factor) outer ≡ Some form → N form
    start_new outer form none some sum = of (h.new_known c.outer outer some)
      where
        of : Stands base.known c.outer ⊎ N outer → N form
        of (inl k) = absurd (stands_not st.starts c.whole none (h.more_starts c.whole (closed.begun k)))
        of (inr k) = second (number r.low) outer form (pos c.factor) positive sum tt (known_at c.outer outer some).told.positive k

    begin_keeps : Begins c r st new → Kept st new s (Hold' new)
    begin_keeps (stood k e) = no_steps st new s (Hold' new) (ap (λ (a : StandingText). a.steps) e) (subst (λ (a : StandingText). Hold' a s) (sym e) h)
    begin_keeps (waits k e) = no_steps st new s (Hold' new) (ap (λ (a : StandingText). a.steps) e) (subst (λ (a : StandingText). Hold' a s) (sym e) h)
    begin_keeps (plainly outer form none some sum is e) =
        let o = known_at c.outer outer some in
        let told = told_sum st.next s r.low o.number (number r.low) outer form (pos c.factor) positive sum (told_number st.next s r.low) o.told in
        let such : IsSuch st.next s (Q c.whole) form = record { number = r.low +ℤ pos c.factor *ℤ o.number; told = told; is = subst (Q c.whole) (is o.number) (cut.start o.number o.is) } in
        no_steps st new s (Hold' new) (ap (λ (a : StandingText). a.steps) e)
        (subst (λ (a : StandingText). Hold' a s) (sym e) (put_start P Q base n outside z bd N st s c.whole form such (start_new outer form none some sum) h))
    begin_keeps (shifted outer form none some sum is e) =
        let o = known_at c.outer outer some in
        let told = told_sum st.next s r.low o.number (number r.low) outer form (pos c.factor) positive sum (told_number st.next s r.low) o.told in
        let y = picked Min (form ∷ number (room r c.factor) ∷ []) s in
        let t = bind s st.next y true in
        let mid = name_smaller form (room r c.factor) st in
        let value : y ≡ first_number c.tail r c.factor o.number = named_least s form (r.low +ℤ pos c.factor *ℤ o.number) (room r c.factor) told.value ∙ sym (is o.number) in
        let lt = h.inside in
        let such : IsSuch (st.next + 1) t (Q c.whole) (alone st.next) =
        record {
          number = first_number c.tail r c.factor o.number;
          told = told_alone (st.next + 1) st.next t (first_number c.tail r c.factor o.number) (omega arith)
              (bind_here s st.next y true ∙ value);
          is = cut.start o.number o.is;
        } in
        let k = put_start P Q base n outside z bd N mid t c.whole (alone st.next) such (later st.next (omega (arith, lt))) (named_next P Q base n outside z bd N st s y form (room r c.factor) h) in
        these_steps st new s (Hold' new) (Named st.next Min (form ∷ number (room r c.factor) ∷ []) ∷ []) (ap (λ (a : StandingText). a.steps) e)
        (λ u leads. subst (λ v. Keeps st.next s v × Hold' new v) (sym leads) (bind_keeps s st.next y true, subst (λ (a : StandingText). Hold' a t) (sym e) k))

    -- the position
    module _ (start inside form : Form) (none : form_named st.known c.whole ≡ None) (one : form_named st.starts c.whole ≡ Some start) (two : form_named st.known c.inner ≡ Some inside)
        (sum : combined start (pos 1) inside ≡ Some form) where
      a : IsSuch st.next s (Q c.whole) start
      a = starts_at' c.whole start one

      d : IsSuch st.next s (P c.inner) inside
      d = known_at c.inner inside two

      told : IsTold st.next s (a.number +ℤ d.number) form
      told =
          let same : (a.number +ℤ pos 1 *ℤ d.number) ≡ (a.number +ℤ d.number) = omega (arith, ints) in
          subst (λ y. IsTold st.next s y form) same (told_sum st.next s a.number d.number start inside form (pos 1) (omega (arith, ints)) sum a.told d.told)

      fresh : N form
      fresh = of (h.new_starts c.whole start one) (h.new_known c.inner inside two)
        where
          of : Stands base.starts c.whole ⊎ N start → Stands base.known c.inner ⊎ N inside → N form
          of (inl k) (inl m) = absurd (stands_not st.known c.whole none (h.more c.whole (closed.joined k m)))
          of (inr k) m = first start inside form (pos 1) (omega (arith, ints)) sum a.told.positive d.told.positive k
          of (inl k) (inr m) = second start inside form (pos 1) (omega (arith, ints)) sum a.told.positive d.told.positive m

      -- the position is one of the loop's numbers
      such_by : (m : ℕ) (u : Symbols) (g : Form) → IsTold m u (a.number +ℤ d.number) g → (a.number +ℤ d.number) ≤ℤ last_number r → IsSuch m u (P c.whole) g
      such_by m u g k most = record { number = a.number +ℤ d.number; told = k; is = cut.tested a.number d.number most a.is d.is }

      puts_keep : Puts (is_guarded rs all c) c.whole (last_number r) form st new → ((l : Form) → In l new.limits → In l final) → Kept st new s (Hold' new)
      puts_keep (freely free e) bounds =
          let such : IsSuch st.next s (P c.whole) form = record { number = a.number +ℤ d.number; told = told; is = cut.free a.number d.number free a.is d.is } in
          no_steps st new s (Hold' new) (ap (λ (b : StandingText). b.steps) e) (subst (λ (b : StandingText). Hold' b s) (sym e) (put_now P Q base n outside z bd N st s c.whole form such fresh h))
      puts_keep (by_loop i limit innermost_at sum' e) bounds =
          let is = inner form i told.rising fresh (ap (λ l. innermost l form) (sym h.bound) ∙ innermost_at) in
          let there : In limit new.limits = subst (λ (b : StandingText). In limit b.limits) (sym e) (in_right limit st.limits (limit ∷ []) (inl refl)) in
          let most = is.1 limit (bounds limit there) in
          let kept = kept_value limit n outside s h.same (limit_outer n form limit (last_number r) i is.0 sum') in
          let value = limit_value n s form limit (last_number r) i is.0 sum' in
          let told_is = told.value in
          let here = h.here in
          let such = such_by st.next s form told (omega (arith, ints, most, kept, value, told_is, here)) in
          let mid = record st { limits = st.limits ++ limit ∷ [] } in
          no_steps st new s (Hold' new) (ap (λ (b : StandingText). b.steps) e)
          (subst (λ (b : StandingText). Hold' b s) (sym e) (put_now P Q base n outside z bd N mid s c.whole form such fresh (with_limit P Q base n outside z bd N st s limit h)))
      puts_keep (by_guard e) bounds =
          let tested = test form (last_number r) st in
          let y = picked Min (form ∷ number (last_number r) ∷ []) s in
          let t = bind s st.next y true in
          let mid = name_smaller form (last_number r) tested in
          let lt = h.inside in
          these_steps st new s (Hold' new) (Tested form (number (last_number r)) ∷ Named st.next Min (form ∷ number (last_number r) ∷ []) ∷ [])
          (ap (λ (b : StandingText). b.steps) e ∙ append_assoc st.steps (Tested form (number (last_number r)) ∷ []) (Named st.next Min (form ∷ number (last_number r) ∷ []) ∷ []))
          (λ u leads.
          let passes = leads.0 in
          let told_is = told.value in
          let end = number_is (last_number r) s in
          let most : (a.number +ℤ d.number) ≤ℤ last_number r = omega (arith, ints, passes, told_is, end) in
          let value : y ≡ a.number +ℤ d.number = named_least s form (a.number +ℤ d.number) (last_number r) told.value ∙ min_first (a.number +ℤ d.number) (last_number r) most in
          let such = such_by (st.next + 1) t (alone st.next) (told_alone (st.next + 1) st.next t (a.number +ℤ d.number) (omega arith) (bind_here s st.next y true ∙ value)) most in
          let k = put_now P Q base n outside z bd N mid t c.whole (alone st.next) such (later st.next (omega (arith, lt)))
          (named_next P Q base n outside z bd N tested s y form (last_number r) (with_steps P Q base n outside z bd N st s (st.steps ++ Tested form (number (last_number r)) ∷ []) h)) in
          subst (λ v. Keeps st.next s v × Hold' new v) (sym leads.1) (bind_keeps s st.next y true, subst (λ (b : StandingText). Hold' b t) (sym e) k))
      puts_keep (by_test e) bounds =
          let tested = test form (last_number r) st in
          these_steps st new s (Hold' new) (Tested form (number (last_number r)) ∷ []) (ap (λ (b : StandingText). b.steps) e)
          (λ u leads.
          let passes = leads.0 in
          let told_is = told.value in
          let end = number_is (last_number r) s in
          let such = such_by st.next s form told (omega (arith, ints, passes, told_is, end)) in
          let k = put_now P Q base n outside z bd N tested s c.whole form such fresh (with_steps P Q base n outside z bd N st s (st.steps ++ Tested form (number (last_number r)) ∷ []) h) in
          subst (λ v. Keeps st.next s v × Hold' new v) (sym leads.1) ((λ i lt. refl), subst (λ (b : StandingText). Hold' b s) (sym e) k))

    join_keeps : (v : Within) → Joins v (is_guarded rs all c) c r st new → ((l : Form) → In l new.limits → In l final) → Kept st new s (Hold' new)
    join_keeps v (stays e k) bounds = no_steps st new s (Hold' new) (ap (λ (b : StandingText). b.steps) e) (subst (λ (b : StandingText). Hold' b s) (sym e) h)
    join_keeps v (puts start inside form none one two sum k) bounds = puts_keep start inside form none one two sum k bounds

  -- one split after another
  pub keeps_all : (v : Within) (cs : List Split) (st new : StandingText) (s : Symbols) → AllByRecursion (CutKeeps rs all P Q) cs → AllByRecursion (IsClosed base) cs →
      settle_some v rs all cs st ≡ Some new → ((l : Form) → In l new.limits → In l final) → Hold' st s → Kept st new s (Hold' new)
  keeps_all v [] st new s cuts closed e bounds h = let same : new ≡ st = cc in no_steps st new s (Hold' new) (ap (λ (a : StandingText). a.steps) same)
      (subst (λ (a : StandingText). Hold' a s) (sym same) h)
  keeps_all v (c ∷ cs) st new s cuts closed e bounds h =
      let k = next_of v rs all c cs st new e in
      let rest = settle_grows v rs all cs k.joins new k.rest in
      let b = begin_grows c (numbers_named rs c.whole) st k.begins k.begun in
      let j = join_grows v (is_guarded rs all c) c (numbers_named rs c.whole) k.begins k.joins k.joined in
      kept_on st k.begins new s (Hold' k.begins) (Hold' new) b (grows_on k.begins k.joins new j rest) k.first.next (begin_keeps c cuts.0 closed.0 st k.begins s h k.begun)
      (λ t p. kept_on k.begins k.joins new t (Hold' k.joins) (Hold' new) j rest k.second.next
      (join_keeps c cuts.0 closed.0 k.begins k.joins t p v k.joined (λ l m. bounds l (settle_limits v rs all cs k.joins new k.rest l m)))
      (λ u q. keeps_all v cs k.joins new u cuts.1 closed.1 k.rest bounds q))
