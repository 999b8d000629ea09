-- What stands at a place of a nest, found by its name; and what settling one split changes.
use Rattle.std.proofs.Common.{◌≡◌, ℕ, Bool, true, false, List, [], ◌∷◌, ◌++◌, Option, Some, None, refl, sym, ap, ◌∙◌, subst, inl, inr}
use Rattle.std.specs.Prelude.{ℤ, pos, negsuc, ◌+ℤ◌, ◌*ℤ◌, ◌⊎◌, if◌then◌else◌, find}
use Rattle.std.specs.List.{AllByRecursion}
use Rattle.std.specs.Int.{int_min}
use Rattle.std.specs.Option.{option_map}
use Rattle.lin.specs.Forms.{Form, number, combined, without}
use Rattle.meaning.specs.Names.{same_name}
use Rattle.meaning.proofs.Cases.{name_same, same_name_is}
use Rattle.sched.specs.declared.schedule.Split.{Split}
use Rattle.sched.specs.declared.schedule.Tail.{Tail}
use Rattle.sched.specs.declared.schedule.Tail.TheVariants as tails
use Rattle.sched.specs.declared.numbers.Numbers.{Numbers}
use Rattle.sched.specs.declared.skeleton.Known.{Known}
use Rattle.sched.specs.declared.skeleton.Within.{Within}
use Rattle.sched.specs.declared.skeleton.Within.TheVariants as within
use Rattle.sched.specs.Numbers.{last_number}
use Rattle.sched.specs.Standing.{◌>>=◌, StandingText, form_named, alone, is_now, starts_at, name_smaller, room, begin_at, begin_over, begin, innermost, keep_by_guard, keep_by_test, keep_within, put_together, join_over, join}

-- ---- names

-- a form stands under this name
abbrev pub Stands : List Known → List ℕ → Type 0
Stands ks x = (f : Form) × (form_named ks x ≡ Some f)

pub some_form : (f g : Form) → Some f ≡ Some g → f ≡ g
some_form f g e = cc

pub stands_not : (ks : List Known) (x : List ℕ) → form_named ks x ≡ None → Stands ks x → ⊥
stands_not ks x none h = let clash : None ≡ Some h.0 = sym none ∙ h.1 in cc clash

abbrev one_of : Bool → Known → Option Known → Option Form
one_of v k o = option_map (λ (m : Known). m.form) (if v then Some k else o)

-- what holds of all holds of what is found
pub found_all : (P : List ℕ → Form → Type 0) (ks : List Known) (x : List ℕ) (f : Form) → AllByRecursion (λ k. P k.name k.form) ks → form_named ks x ≡ Some f → P x f
found_all P [] x f a e = absurd (cc e)
found_all P (k ∷ ks) x f a e = of (same_name k.name x) refl e (λ d. found_all P ks x f a.1 d)
  where
    of : (v : Bool) → same_name k.name x ≡ v → one_of v k (find (λ m. same_name m.name x) ks) ≡ Some f → (form_named ks x ≡ Some f → P x f) → P x f
    of true h e rest = subst (λ y. P y f) (same_name_is k.name x h) (subst (P k.name) (some_form k.form f e) a.0)
    of false h e rest = rest e

-- one more behind
pub stands_more : (ks : List Known) (k : Known) (x : List ℕ) → Stands ks x → Stands (ks ++ k ∷ []) x
stands_more [] k x h = absurd (cc h.1)
stands_more (m ∷ ks) k x h = of (same_name m.name x) h.1 (λ e. stands_more ks k x (h.0, e))
  where
    of : (v : Bool) → one_of v m (find (λ m. same_name m.name x) ks) ≡ Some h.0 → (form_named ks x ≡ Some h.0 → Stands (ks ++ k ∷ []) x) →
        (f : Form) × (one_of v m (find (λ m. same_name m.name x) (ks ++ k ∷ [])) ≡ Some f)
    of true e rest = (m.form, refl)
    of false e rest = rest e

pub stands_last : (ks : List Known) (k : Known) → Stands (ks ++ k ∷ []) k.name
stands_last [] k = let same = name_same k.name k.name refl in (k.form, ap (λ v. one_of v k None) same)
stands_last (m ∷ ks) k = of (same_name m.name k.name) (stands_last ks k)
  where
    of : (v : Bool) → Stands (ks ++ k ∷ []) k.name → (f : Form) × (one_of v m (find (λ m. same_name m.name k.name) (ks ++ k ∷ [])) ≡ Some f)
    of true rest = (m.form, refl)
    of false rest = rest

-- it was there, or is the one behind
pub found_more : (ks : List Known) (k : Known) (x : List ℕ) (f : Form) → form_named (ks ++ k ∷ []) x ≡ Some f → (form_named ks x ≡ Some f) ⊎ ((k.name ≡ x) × (k.form ≡ f))
found_more [] k x f e = of (same_name k.name x) refl e
  where
    of : (v : Bool) → same_name k.name x ≡ v → one_of v k None ≡ Some f → (form_named [] x ≡ Some f) ⊎ ((k.name ≡ x) × (k.form ≡ f))
    of true h e = inr (same_name_is k.name x h, some_form k.form f e)
    of false h e = absurd (cc e)
found_more (m ∷ ks) k x f e = of (same_name m.name x) e (λ d. found_more ks k x f d)
  where
    of : (v : Bool) → one_of v m (find (λ m. same_name m.name x) (ks ++ k ∷ [])) ≡ Some f → (form_named (ks ++ k ∷ []) x ≡ Some f → (form_named ks x ≡ Some f) ⊎ ((k.name ≡ x) × (k.form ≡ f))) →
        (one_of v m (find (λ m. same_name m.name x) ks) ≡ Some f) ⊎ ((k.name ≡ x) × (k.form ≡ f))
    of true e rest = inl e
    of false e rest = rest e

pub all_more : (P : Known → Type 0) (ks : List Known) (k : Known) → AllByRecursion P ks → P k → AllByRecursion P (ks ++ k ∷ [])
all_more P [] k a h = (h, tt)
all_more P (m ∷ ks) k a h = (a.0, all_more P ks k a.1 h)

-- ---- the first number of a block

-- the first number of block z of n numbers
abbrev pub first_number : Tail → Numbers → ℕ → ℤ → ℤ
first_number tails.Shift r n z = int_min (r.low +ℤ pos n *ℤ z) (room r n)
first_number tails.Guard r n z = r.low +ℤ pos n *ℤ z
first_number tails.Roundup r n z = r.low +ℤ pos n *ℤ z

-- what begins a block
pub data Begins (c : Split) (r : Numbers) (st new : StandingText) : Type 0 where
  stood : Stands st.starts c.whole → new ≡ st → Begins c r st new
  waits : form_named st.known c.outer ≡ None → new ≡ st → Begins c r st new
  plainly : (outer form : Form) → form_named st.starts c.whole ≡ None → form_named st.known c.outer ≡ Some outer → combined (number r.low) (pos c.factor) outer ≡ Some form →
      ((z : ℤ) → first_number c.tail r c.factor z ≡ r.low +ℤ pos c.factor *ℤ z) → new ≡ starts_at c.whole form st → Begins c r st new
  shifted : (outer form : Form) → form_named st.starts c.whole ≡ None → form_named st.known c.outer ≡ Some outer → combined (number r.low) (pos c.factor) outer ≡ Some form →
      ((z : ℤ) → first_number c.tail r c.factor z ≡ int_min (r.low +ℤ pos c.factor *ℤ z) (room r c.factor)) →
      new ≡ starts_at c.whole (alone st.next) (name_smaller form (room r c.factor) st) → Begins c r st new

some_standing : (a b : StandingText) → Some a ≡ Some b → b ≡ a
some_standing a b e = cc

module _ (c : Split) (r : Numbers) (st new : StandingText) where
  by_tail : (outer form : Form) → form_named st.starts c.whole ≡ None → form_named st.known c.outer ≡ Some outer → combined (number r.low) (pos c.factor) outer ≡ Some form →
      (t : Tail) → c.tail ≡ t → Some (begin_at t c.whole form (room r c.factor) st) ≡ Some new → Begins c r st new
  by_tail outer form none some sum tails.Shift h e = shifted outer form none some sum (λ z. ap (λ t. first_number t r c.factor z) h) (some_standing _ new e)
  by_tail outer form none some sum tails.Guard h e = plainly outer form none some sum (λ z. ap (λ t. first_number t r c.factor z) h) (some_standing _ new e)
  by_tail outer form none some sum tails.Roundup h e = plainly outer form none some sum (λ z. ap (λ t. first_number t r c.factor z) h) (some_standing _ new e)

  by_sum : (outer : Form) → form_named st.starts c.whole ≡ None → form_named st.known c.outer ≡ Some outer → (o : Option Form) → combined (number r.low) (pos c.factor) outer ≡ o →
      (o >>= λ form. Some (begin_at c.tail c.whole form (room r c.factor) st)) ≡ Some new → Begins c r st new
  by_sum outer none some (Some form) h e = by_tail outer form none some h c.tail refl e
  by_sum outer none some None h e = absurd (cc e)

  by_outer : form_named st.starts c.whole ≡ None → (o : Option Form) → form_named st.known c.outer ≡ o → begin_over c r o st ≡ Some new → Begins c r st new
  by_outer none (Some outer) h e = by_sum outer none h (combined (number r.low) (pos c.factor) outer) refl e
  by_outer none None h e = waits h (some_standing st new e)

  pub begins : begin c r st ≡ Some new → Begins c r st new
  begins e = of (form_named st.starts c.whole) refl e
    where
      of : (o : Option Form) → form_named st.starts c.whole ≡ o → (elim o [ Some form ↦ Some st | None ↦ begin_over c r (form_named st.known c.outer) st ]) ≡ Some new → Begins c r st new
      of (Some form) h e = stood (form, h) (some_standing st new e)
      of None h e = by_outer h (form_named st.known c.outer) refl e

-- ---- the position

-- how the position of the split's loop is kept within it
pub data Puts (guarded : Bool) (x : List ℕ) (last : ℤ) (form : Form) (st new : StandingText) : Type 0 where
  freely : guarded ≡ false → new ≡ is_now x form st → Puts guarded x last form st new
  by_loop : (s : ℕ) (limit : Form) → innermost st.bound form ≡ Some s → combined (number last) (negsuc 0) (without form s) ≡ Some limit →
      new ≡ is_now x form (record st { limits = st.limits ++ limit ∷ [] }) → Puts guarded x last form st new
  by_guard : new ≡ keep_by_guard x form last st → Puts guarded x last form st new
  by_test : new ≡ keep_by_test x form last st → Puts guarded x last form st new

pub data Joins (v : Within) (guarded : Bool) (c : Split) (r : Numbers) (st new : StandingText) : Type 0 where
  stays : new ≡ st → (v ≡ within.Grid) ⊎ (Stands st.starts c.whole → Stands st.known c.inner → Stands st.known c.whole) → Joins v guarded c r st new
  puts : (start inner form : Form) → form_named st.known c.whole ≡ None → form_named st.starts c.whole ≡ Some start → form_named st.known c.inner ≡ Some inner →
      combined start (pos 1) inner ≡ Some form →
      Puts guarded c.whole (last_number r) form st new → Joins v guarded c r st new

module _ (c : Split) (r : Numbers) (st new : StandingText) where
  by_limit : (form : Form) (s : ℕ) → innermost st.bound form ≡ Some s → (o : Option Form) → combined (number (last_number r)) (negsuc 0) (without form s) ≡ o →
      (o >>= λ limit. Some (is_now c.whole form (record st { limits = st.limits ++ limit ∷ [] }))) ≡ Some new → Puts true c.whole (last_number r) form st new
  by_limit form s inner (Some limit) h e = by_loop s limit inner h (some_standing _ new e)
  by_limit form s inner None h e = absurd (cc e)

  kept : (v : Within) (form : Form) (o : Option ℕ) → innermost st.bound form ≡ o → keep_within v c.whole form (last_number r) st o ≡ Some new →
      (v ≡ within.Grid) × (new ≡ st) ⊎ Puts true c.whole (last_number r) form st new
  kept within.Grid form o h e = inl (refl, some_standing st new e)
  kept within.Nest form (Some s) h e = inr (by_limit form s h (combined (number (last_number r)) (negsuc 0) (without form s)) refl e)
  kept within.Nest form None h e = inr (by_guard (some_standing _ new e))
  kept within.Lanes form (Some s) h e = inr (by_limit form s h (combined (number (last_number r)) (negsuc 0) (without form s)) refl e)
  kept within.Lanes form None h e = inr (by_test (some_standing _ new e))

  put : (v : Within) (guarded : Bool) (form : Form) → put_together v guarded c r form st ≡ Some new → (v ≡ within.Grid) × (new ≡ st) ⊎ Puts guarded c.whole (last_number r) form st new
  put v false form e = inr (freely refl (some_standing _ new e))
  put v true form e = kept v form (innermost st.bound form) refl e

  by_parts : (v : Within) (guarded : Bool) (start inner : Form) → form_named st.known c.whole ≡ None → form_named st.starts c.whole ≡ Some start → form_named st.known c.inner ≡ Some inner →
      (o : Option Form) → combined start (pos 1) inner ≡ o → (o >>= λ form. put_together v guarded c r form st) ≡ Some new → Joins v guarded c r st new
  by_parts v guarded start inner none first second (Some form) h e = of (put v guarded form e)
    where
      of : (v ≡ within.Grid) × (new ≡ st) ⊎ Puts guarded c.whole (last_number r) form st new → Joins v guarded c r st new
      of (inl k) = stays k.1 (inl k.0)
      of (inr k) = puts start inner form none first second h k
  by_parts v guarded start inner none first second None h e = absurd (cc e)

  by_both : (v : Within) (guarded : Bool) → form_named st.known c.whole ≡ None → (a b : Option Form) → form_named st.starts c.whole ≡ a → form_named st.known c.inner ≡ b →
      join_over v guarded c r a b st ≡ Some new → Joins v guarded c r st new
  by_both v guarded none (Some start) (Some inner) first second e = by_parts v guarded start inner none first second (combined start (pos 1) inner) refl e
  by_both v guarded none (Some start) None first second e = stays (some_standing st new e) (inr (λ h k. absurd (stands_not st.known c.inner second k)))
  by_both v guarded none None b first second e = stays (some_standing st new e) (inr (λ h k. absurd (stands_not st.starts c.whole first h)))

  pub joins : (v : Within) (guarded : Bool) → join v guarded c r st ≡ Some new → Joins v guarded c r st new
  joins v guarded e = of (form_named st.known c.whole) refl e
    where
      of : (o : Option Form) → form_named st.known c.whole ≡ o →
          (elim o [ Some form ↦ Some st | None ↦ join_over v guarded c r (form_named st.starts c.whole) (form_named st.known c.inner) st ]) ≡ Some new → Joins v guarded c r st new
      of (Some form) h e = stays (some_standing st new e) (inr (λ first second. (form, h)))
      of None h e = by_both v guarded h (form_named st.starts c.whole) (form_named st.known c.inner) refl refl e
