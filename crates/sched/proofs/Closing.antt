-- Behind a settling of all splits, one pass over them in their order, whatever stands by what is there stands.
use Rattle.std.proofs.Common.{◌≡◌, ℕ, ◌≤◌, Bool, List, [], ◌∷◌, ◌++◌, Option, Some, None, refl, sym, subst, inl, inr, arith}
use Rattle.std.specs.Prelude.{◌⊎◌}
use Rattle.std.specs.List.{AllByRecursion}
use Rattle.lin.specs.Forms.{Form}
use Rattle.sched.specs.declared.schedule.Split.{Split}
use Rattle.sched.specs.declared.numbers.Numbers.{Numbers}
use Rattle.sched.specs.declared.skeleton.Known.{Known}
use Rattle.sched.specs.declared.skeleton.Within.{Within}
use Rattle.sched.specs.declared.skeleton.Within.TheVariants as within
use Rattle.sched.specs.Numbers.{numbers_named, last_number}
use Rattle.sched.specs.Standing.{◌>>=◌, StandingText, form_named, alone, is_now, starts_at, name_smaller, test, room, begin, join, is_guarded, settle_some}
use Rattle.sched.proofs.Leading.{In, in_left}
use Rattle.sched.proofs.Standings.{Stands, stands_not, stands_more, stands_last, found_more, Begins, stood, waits, plainly, shifted, begins, Puts, freely, by_loop, by_guard, by_test, Joins, stays, puts, joins}
use Rattle.sched.proofs.Passing.{IsClosed}

-- ---- what one split changes of the names that stand

-- other starts stand as before
pub record Begun (c : Split) (st new : StandingText) : Type 0 where
  pub known : new.known ≡ st.known
  pub more : (x : List ℕ) → Stands st.starts x → Stands new.starts x
  pub only : (x : List ℕ) → Stands new.starts x → Stands st.starts x ⊎ (c.whole ≡ x)
  pub here : Stands st.known c.outer → Stands new.starts c.whole
  pub next : st.next ≤ new.next
  pub limits : new.limits ≡ st.limits

only_more : (ks : List Known) (k : Known) (x : List ℕ) → Stands (ks ++ k ∷ []) x → Stands ks x ⊎ (k.name ≡ x)
only_more ks k x h = of (found_more ks k x h.0 h.1)
  where
    of : (form_named ks x ≡ Some h.0) ⊎ ((k.name ≡ x) × (k.form ≡ h.0)) → Stands ks x ⊎ (k.name ≡ x)
    of (inl e) = inl (h.0, e)
    of (inr e) = inr e.0

module _ (c : Split) (r : Numbers) (st new : StandingText) where
  begun_stood : new ≡ st → (Stands st.known c.outer → Stands st.starts c.whole) → Begun c st new
  begun_stood e k = subst (Begun c st) (sym e) (record { known = refl; more = (λ x h. h); only = (λ x h. inl h); here = k; next = omega arith; limits = refl })

  begun_starts : (form : Form) (mid : StandingText) → mid.starts ≡ st.starts → mid.known ≡ st.known → st.next ≤ mid.next → mid.limits ≡ st.limits → new ≡ starts_at c.whole form mid → Begun c st new
  begun_starts form mid same other le bounds e =
      let k : Known = record { name = c.whole; form = form } in
      subst (Begun c st) (sym e) (record {
        known = other;
        more = (λ x h. stands_more mid.starts k x (subst (λ (ks : List Known). Stands ks x) (sym same) h));
        only = (λ x h. subst (λ (ks : List Known). Stands ks x ⊎ (c.whole ≡ x)) same (only_more mid.starts k x h));
        here = (λ h. stands_last mid.starts k);
        next = le;
        limits = bounds;
      })

  begun : Begins c r st new → Begun c st new
  begun (stood k e) = begun_stood e (λ h. k)
  begun (waits k e) = begun_stood e (λ h. absurd (stands_not st.known c.outer k h))
  begun (plainly outer form none some sum is e) = begun_starts form st refl refl (omega arith) refl e
  begun (shifted outer form none some sum is e) = begun_starts (alone st.next) (name_smaller form (room r c.factor) st) refl refl (omega arith) refl e

-- other positions stand as before
pub record Joined (v : Within) (c : Split) (st new : StandingText) : Type 0 where
  pub starts : new.starts ≡ st.starts
  pub more : (x : List ℕ) → Stands st.known x → Stands new.known x
  pub only : (x : List ℕ) → Stands new.known x → Stands st.known x ⊎ (c.whole ≡ x)
  pub here : (v ≡ within.Grid → ⊥) → Stands st.starts c.whole → Stands st.known c.inner → Stands new.known c.whole
  pub next : st.next ≤ new.next
  pub limits : (l : Form) → In l st.limits → In l new.limits

module _ (v : Within) (guarded : Bool) (c : Split) (r : Numbers) (st new : StandingText) where
  joined_now : (form : Form) (mid : StandingText) → mid.starts ≡ st.starts → mid.known ≡ st.known → st.next ≤ mid.next → ((l : Form) → In l st.limits → In l mid.limits) →
      new ≡ is_now c.whole form mid → Joined v c st new
  joined_now form mid same other le bounds e =
      let k : Known = record { name = c.whole; form = form } in
      subst (Joined v c st) (sym e) (record {
        starts = same;
        more = (λ x h. stands_more mid.known k x (subst (λ (ks : List Known). Stands ks x) (sym other) h));
        only = (λ x h. subst (λ (ks : List Known). Stands ks x ⊎ (c.whole ≡ x)) other (only_more mid.known k x h));
        here = (λ g h m. stands_last mid.known k);
        next = le;
        limits = bounds;
      })

  joined_by : (form : Form) → Puts guarded c.whole (last_number r) form st new → Joined v c st new
  joined_by form (freely free e) = joined_now form st refl refl (omega arith) (λ l m. m) e
  joined_by form (by_loop s limit inner sum e) = joined_now form (record st { limits = st.limits ++ limit ∷ [] }) refl refl (omega arith) (λ l m. in_left l st.limits (limit ∷ []) m) e
  joined_by form (by_guard e) = joined_now (alone st.next) (name_smaller form (last_number r) (test form (last_number r) st)) refl refl (omega arith) (λ l m. m) e
  joined_by form (by_test e) = joined_now form (test form (last_number r) st) refl refl (omega arith) (λ l m. m) e

  joined : Joins v guarded c r st new → Joined v c st new
  joined (stays e k) = subst (Joined v c st) (sym e) (record { starts = refl; more = (λ x h. h); only = (λ x h. inl h); here = (λ g h m. of k g h m); next = omega arith; limits = (λ l m. m) })
    where
      of : (v ≡ within.Grid) ⊎ (Stands st.starts c.whole → Stands st.known c.inner → Stands st.known c.whole) → (v ≡ within.Grid → ⊥) → Stands st.starts c.whole → Stands st.known c.inner →
          Stands st.known c.whole
      of (inl k) g h m = absurd (g k)
      of (inr k) g h m = k h m
  joined (puts start inner form none one two sum k) = joined_by form k

-- ---- splits in order

-- d makes nothing that c waits for, and is another split
pub record IsApart (c d : Split) : Type 0 where
  pub whole : d.whole ≡ c.whole → ⊥
  pub outer : d.whole ≡ c.outer → ⊥
  pub inner : d.whole ≡ c.inner → ⊥

-- each is settled before those that make nothing for it
abbrev pub AreOrdered : List Split → Type 0
AreOrdered [] = Unit {0}
AreOrdered (c ∷ cs) = (c.whole ≡ c.outer → ⊥) × (c.whole ≡ c.inner → ⊥) × AllByRecursion (IsApart c) cs × AreOrdered cs

module _ (v : Within) (nest : v ≡ within.Grid → ⊥) (c : Split) (st mid new : StandingText) where
  closed_now : (c.whole ≡ c.outer → ⊥) → (c.whole ≡ c.inner → ⊥) → Begun c st mid → Joined v c mid new → IsClosed new c
  closed_now outside inside h k = record {
    begun = (λ a. first (k.only c.outer a));
    joined = (λ a m. second (subst (λ (ks : List Known). Stands ks c.whole) k.starts a) (k.only c.inner m));
  }
    where
      first : Stands mid.known c.outer ⊎ (c.whole ≡ c.outer) → Stands new.starts c.whole
      first (inl a) = subst (λ (ks : List Known). Stands ks c.whole) (sym k.starts) (h.here (subst (λ (ks : List Known). Stands ks c.outer) h.known a))
      first (inr e) = absurd (outside e)

      second : Stands mid.starts c.whole → Stands mid.known c.inner ⊎ (c.whole ≡ c.inner) → Stands new.known c.whole
      second a (inl m) = k.here nest a m
      second a (inr e) = absurd (inside e)

module _ (v : Within) (c d : Split) (apart : IsApart c d) (st mid new : StandingText) where
  closed_on : IsClosed st c → Begun d st mid → Joined v d mid new → IsClosed new c
  closed_on was h k = record {
    begun = (λ a. first (k.only c.outer a));
    joined = (λ a m. second (h.only c.whole (subst (λ (ks : List Known). Stands ks c.whole) k.starts a)) (k.only c.inner m));
  }
    where
      first : Stands mid.known c.outer ⊎ (d.whole ≡ c.outer) → Stands new.starts c.whole
      first (inl a) = subst (λ (ks : List Known). Stands ks c.whole) (sym k.starts) (h.more c.whole (was.begun (subst (λ (ks : List Known). Stands ks c.outer) h.known a)))
      first (inr e) = absurd (apart.outer e)

      second : Stands st.starts c.whole ⊎ (d.whole ≡ c.whole) → Stands mid.known c.inner ⊎ (d.whole ≡ c.inner) → Stands new.known c.whole
      second (inl a) (inl m) = k.more c.whole (subst (λ (ks : List Known). Stands ks c.whole) (sym h.known) (was.joined a (subst (λ (ks : List Known). Stands ks c.inner) h.known m)))
      second (inr e) m = absurd (apart.whole e)
      second (inl a) (inr e) = absurd (apart.inner e)

-- ---- a pass over all

some_text : (a b : StandingText) → Some a ≡ Some b → a ≡ b
some_text a b e = cc

-- one split, and those behind it
pub record Next (v : Within) (rs : List Numbers) (all : List Split) (c : Split) (cs : List Split) (st new : StandingText) : Type 0 where
  pub begins : StandingText
  pub joins : StandingText
  pub begun : Begins c (numbers_named rs c.whole) st begins
  pub joined : Joins v (is_guarded rs all c) c (numbers_named rs c.whole) begins joins
  pub first : Begun c st begins
  pub second : Joined v c begins joins
  pub rest : settle_some v rs all cs joins ≡ Some new

module _ (v : Within) (rs : List Numbers) (all : List Split) where
  pub next_of : (c : Split) (cs : List Split) (st new : StandingText) → settle_some v rs all (c ∷ cs) st ≡ Some new → Next v rs all c cs st new
  next_of c cs st new e = first (begin c (numbers_named rs c.whole) st) refl e
    where
      second : (mid : StandingText) (o : Option StandingText) → Begins c (numbers_named rs c.whole) st mid → join v (is_guarded rs all c) c (numbers_named rs c.whole) mid ≡ o →
          (o >>= settle_some v rs all cs) ≡ Some new → Next v rs all c cs st new
      second mid None b j e = absurd (cc e)
      second mid (Some after) b j e =
          let k = joins c (numbers_named rs c.whole) mid after v (is_guarded rs all c) j in
          record {
            begins = mid;
            joins = after;
            begun = b;
            joined = k;
            first = begun c (numbers_named rs c.whole) st mid b;
            second = joined v (is_guarded rs all c) c (numbers_named rs c.whole) mid after k;
            rest = e;
          }

      first : (o : Option StandingText) → begin c (numbers_named rs c.whole) st ≡ o →
          (o >>= λ mid. join v (is_guarded rs all c) c (numbers_named rs c.whole) mid >>= settle_some v rs all cs) ≡ Some new → Next v rs all c cs st new
      first None j e = absurd (cc e)
      first (Some mid) j e = second mid (join v (is_guarded rs all c) c (numbers_named rs c.whole) mid) (begins c (numbers_named rs c.whole) st mid j) refl e

  -- what stood stands, and symbols are numbered on
  pub settle_more : (cs : List Split) (st new : StandingText) → settle_some v rs all cs st ≡ Some new → (x : List ℕ) → Stands st.known x → Stands new.known x
  settle_more [] st new e x h = subst (λ (a : StandingText). Stands a.known x) (some_text st new e) h
  settle_more (c ∷ cs) st new e x h =
      let k = next_of c cs st new e in
      settle_more cs k.joins new k.rest x (k.second.more x (subst (λ (ks : List Known). Stands ks x) (sym k.first.known) h))

  pub settle_rises : (cs : List Split) (st new : StandingText) → settle_some v rs all cs st ≡ Some new → st.next ≤ new.next
  settle_rises [] st new e = subst (λ (a : StandingText). st.next ≤ a.next) (some_text st new e) (omega arith)
  settle_rises (c ∷ cs) st new e =
      let k = next_of c cs st new e in
      let a = k.first.next in
      let b = k.second.next in
      let d = settle_rises cs k.joins new k.rest in
      omega (arith, a, b, d)

  -- limits that were found stay
  pub settle_limits : (cs : List Split) (st new : StandingText) → settle_some v rs all cs st ≡ Some new → (l : Form) → In l st.limits → In l new.limits
  settle_limits [] st new e l h = subst (λ (a : StandingText). In l a.limits) (some_text st new e) h
  settle_limits (c ∷ cs) st new e l h =
      let k = next_of c cs st new e in
      settle_limits cs k.joins new k.rest l (k.second.limits l (subst (λ (ls : List Form). In l ls) (sym k.first.limits) h))

  stays_closed : (c : Split) (cs : List Split) (st new : StandingText) → settle_some v rs all cs st ≡ Some new → AllByRecursion (IsApart c) cs → IsClosed st c → IsClosed new c
  stays_closed c [] st new e apart h = subst (λ (a : StandingText). IsClosed a c) (some_text st new e) h
  stays_closed c (d ∷ cs) st new e apart h =
      let k = next_of d cs st new e in
      stays_closed c cs k.joins new k.rest apart.1 (closed_on v c d apart.0 st k.begins k.joins h k.first k.second)

  pub closes : (v ≡ within.Grid → ⊥) → (cs : List Split) (st new : StandingText) → settle_some v rs all cs st ≡ Some new → AreOrdered cs → AllByRecursion (IsClosed new) cs
  closes nest [] st new e order = tt
  closes nest (c ∷ cs) st new e order =
      let k = next_of c cs st new e in
      let here = closed_now v nest c st k.begins k.joins order.0 order.1 k.first k.second in
      (stays_closed c cs k.joins new k.rest order.2 here, closes nest cs k.joins new k.rest order.3)
