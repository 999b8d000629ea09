-- The forms of parallel loops over the grid, and the turns that a grid point gives them.
use Rattle.std.proofs.Common.{◌≡◌, ℕ, suc, ◌+◌, ◌<◌, Bool, true, false, ◌&&◌, ◌||◌, List, [], ◌∷◌, ◌++◌, Option, Some, None, refl, sym, ap, ◌∙◌, subst, arith}
use Rattle.std.specs.Prelude.{ℤ, pos, ◌+ℤ◌, ◌*ℤ◌, if◌then◌else◌, find}
use Rattle.std.specs.List.{list_any}
use Rattle.std.specs.Option.{option_map}
use Rattle.std.proofs.lemmas.Int.{ints}
use Rattle.lin.specs.Forms.{Form, value_of}
use Rattle.plan.specs.Certificate.Cells.{grid_value}
use Rattle.plan.specs.declared.stmt.Kind.TheVariants.{Serial}
use Rattle.meaning.specs.Names.{same_name}
use Rattle.meaning.proofs.Cases.{same_name_is}
use Rattle.sched.specs.declared.schedule.Split.{Split}
use Rattle.sched.specs.declared.placing.Loop.{Loop}
use Rattle.sched.specs.declared.numbers.Extent.{Extent}
use Rattle.sched.specs.declared.numbers.Numbers.{Numbers}
use Rattle.sched.specs.declared.skeleton.Known.{Known}
use Rattle.sched.specs.Placing.{PlacedText, has_loop, is_parallel}
use Rattle.sched.specs.Numbers.{numbers_named, loop_numbers, parallel_loops, grid_counts, or_one, piece_counts}
use Rattle.sched.specs.Standing.{◌>>=◌, StandingText, form_named, counted_from, begin, join, is_guarded, settle_some, cuts_by_variable}
use Rattle.sched.specs.Skeleton.{BodyText, SkeletonText, nests_in, grid_forms, over_grid, skeleton_in}
use Rattle.sched.specs.Visits.{IsInGrid}
use Rattle.sched.proofs.Standings.{Begins, stood, waits, plainly, shifted, begins, Puts, freely, by_loop, by_guard, by_test, Joins, stays, puts, joins}
use Rattle.sched.proofs.Looping.{no_grid}
use Rattle.sched.proofs.Visiting.{skeleton_parts}
use Rattle.lower.specs.Owning.{turn_named}

-- ---- turns

-- what stands of a loop of this name over the grid: no form and no turn, or a form that comes to its turn's number
pub data Over (x : List ℕ) (r : Numbers) (g : List ℕ) (known : Option Form) (turn : Option ℕ) (has : Bool) : Type 0 where
  none : has ≡ false → turn ≡ None → Over x r g known turn has
  some : (f : Form) (n : ℕ) → has ≡ true → known ≡ Some f → turn ≡ Some n → value_of f (grid_value g) ≡ r.low +ℤ pos n → n < r.count → Over x r g known turn has

abbrev one_of : Bool → Known → Option Known → Option Form
one_of v k o = option_map (λ (m : Known). m.form) (if v then Some k else o)

module _ (x : List ℕ) (rs : List Numbers) (g : List ℕ) where
  over : (s : ℕ) (ls : List Loop) (gs : List ℕ) → IsInGrid (grid_counts rs ls) gs → ((i : ℕ) → grid_value g (s + i) ≡ grid_value gs i) →
      Over x (numbers_named rs x) g (form_named (grid_forms rs s ls) x) (turn_named ls gs x) (has_loop ls x)
  over s [] gs a h = none refl refl
  over s (l ∷ ls) [] a h = absurd a
  over s (l ∷ ls) (n ∷ gs) a h =
      of (same_name l.name x) refl (over (s + 1) ls gs a.1 (λ i. let next : s + 1 + i ≡ s + suc i = omega arith in ap (grid_value g) next ∙ h (suc i)))
    where
      of : (v : Bool) → same_name l.name x ≡ v → Over x (numbers_named rs x) g (form_named (grid_forms rs (s + 1) ls) x) (turn_named ls gs x) (has_loop ls x) →
          Over x (numbers_named rs x) g
          (one_of v (record { name = l.name; form = counted_from (numbers_named rs l.name).low s }) (find (λ k. same_name k.name x) (grid_forms rs (s + 1) ls)))
          (if v then Some n else turn_named ls gs x) (v || has_loop ls x)
      of false e rest = rest
      of true e rest =
          let here : s ≡ s + 0 = omega arith in
          let value : grid_value g s ≡ pos n = ap (grid_value g) here ∙ h 0 in
          let once : pos 1 *ℤ grid_value g s ≡ grid_value g s = omega (arith, ints) in
          let same : numbers_named rs l.name ≡ numbers_named rs x = ap (numbers_named rs) (same_name_is l.name x e) in
          let lows : (numbers_named rs l.name).low ≡ (numbers_named rs x).low = ap (λ (r : Numbers). r.low) same in
          let below : n < (numbers_named rs x).count = subst (λ (r : Numbers). n < r.count) same a.0 in
          some (counted_from (numbers_named rs l.name).low s) n refl refl refl (omega (arith, ints, value, once, lows)) below

  pub over_all : (ls : List Loop) → IsInGrid (or_one (grid_counts rs ls)) g →
      Over x (numbers_named rs x) g (form_named (grid_forms rs 0 ls) x) (turn_named ls g x) (has_loop ls x)
  over_all [] a = none refl refl
  over_all (l ∷ ls) a = over 0 (l ∷ ls) g a (λ i. let same : 0 + i ≡ i = omega arith in ap (grid_value g) same)

pub parallel_named : (ls : List Loop) (x : List ℕ) → list_any (λ one. is_parallel one && same_name one.name x) ls ≡ has_loop (parallel_loops ls) x
parallel_named [] x = refl
parallel_named (l ∷ ls) x = of (is_parallel l) (parallel_named ls x)
  where
    of : (b : Bool) → list_any (λ one. is_parallel one && same_name one.name x) ls ≡ has_loop (parallel_loops ls) x →
        ((b && same_name l.name x) || list_any (λ one. is_parallel one && same_name one.name x) ls) ≡ has_loop (if b then l ∷ parallel_loops ls else parallel_loops ls) x
    of true k = ap (λ b. same_name l.name x || b) k
    of false k = k

-- ---- forms stay

-- what a function takes
abbrev Taken : (A B : Type 0) → (A → B) → Type 0
Taken A B f = A

-- what loops, lets and guards stand in
abbrev Within : Type 0
Within = Taken _ _ join

-- the second of two that are not the same
abbrev second_of : (A : Type 0) (a b : A) → (a ≡ b → ⊥) → A
second_of A a b f = b

-- over the grid
abbrev at_grid : Within
at_grid = second_of _ _ _ (no_grid Serial)

form_more : (ks : List Known) (k : Known) (x : List ℕ) (f : Form) → form_named ks x ≡ Some f → form_named (ks ++ k ∷ []) x ≡ Some f
form_more [] k x f e = absurd (cc e)
form_more (m ∷ ks) k x f e = of (same_name m.name x) e (λ d. form_more ks k x f d)
  where
    of : (v : Bool) → one_of v m (find (λ m. same_name m.name x) ks) ≡ Some f → (form_named ks x ≡ Some f → form_named (ks ++ k ∷ []) x ≡ Some f) →
        one_of v m (find (λ m. same_name m.name x) (ks ++ k ∷ [])) ≡ Some f
    of true e rest = e
    of false e rest = rest e

module _ (x : List ℕ) (f : Form) where
  abbrev Has : StandingText → Type 0
  Has st = form_named st.known x ≡ Some f

  has_same : (st new same : StandingText) → new ≡ same → same.known ≡ st.known → Has st → Has new
  has_same st new same e k h = ap (λ (t : StandingText). form_named t.known x) e ∙ (ap (λ ks. form_named ks x) k ∙ h)

  has_one : (st new : StandingText) (m : Known) → new.known ≡ st.known ++ m ∷ [] → Has st → Has new
  has_one st new m e h = ap (λ ks. form_named ks x) e ∙ form_more st.known m x f h

  begun_has : (c : Split) (r : Numbers) (st new : StandingText) → Begins c r st new → Has st → Has new
  begun_has c r st new (stood s e) h = has_same st new st e refl h
  begun_has c r st new (waits n e) h = has_same st new st e refl h
  begun_has c r st new (plainly outer form a b d is e) h = has_same st new _ e refl h
  begun_has c r st new (shifted outer form a b d is e) h = has_same st new _ e refl h

  put_has : (g : Bool) (y : List ℕ) (last : ℤ) (form : Form) (st new : StandingText) → Puts g y last form st new → Has st → Has new
  put_has g y last form st new (freely a e) h = has_one st new (record { name = y; form = form }) (ap (λ (t : StandingText). t.known) e) h
  put_has g y last form st new (by_loop s limit a b e) h = has_one st new (record { name = y; form = form }) (ap (λ (t : StandingText). t.known) e) h
  put_has g y last form st new (by_guard e) h = has_one st new _ (ap (λ (t : StandingText). t.known) e) h
  put_has g y last form st new (by_test e) h = has_one st new (record { name = y; form = form }) (ap (λ (t : StandingText). t.known) e) h

  joined_has : (w : Within) (g : Bool) (c : Split) (r : Numbers) (st new : StandingText) → Joins w g c r st new → Has st → Has new
  joined_has w g c r st new (stays e k) h = has_same st new st e refl h
  joined_has w g c r st new (puts start inner form a b d is k) h = put_has g c.whole _ form st new k h

  settled_has : (w : Within) (rs : List Numbers) (all cs : List Split) (st new : StandingText) → settle_some w rs all cs st ≡ Some new → Has st → Has new
  settled_has w rs all [] st new e h = (let same : st ≡ new = cc e in ap (λ (t : StandingText). form_named t.known x) (sym same) ∙ h)
  settled_has w rs all (c ∷ cs) st new e h = one (begin c (numbers_named rs c.whole) st) refl e (λ end j k. settled_has w rs all cs end new j k)
    where
      two : (mid : StandingText) → Has mid → (o : Option StandingText) → join w (is_guarded rs all c) c (numbers_named rs c.whole) mid ≡ o → (o >>= settle_some w rs all cs) ≡ Some new →
          ((end : StandingText) → settle_some w rs all cs end ≡ Some new → Has end → Has new) → Has new
      two mid k (Some end) j e rest =
          rest end e (joined_has w (is_guarded rs all c) c (numbers_named rs c.whole) mid end (joins c (numbers_named rs c.whole) mid end w (is_guarded rs all c) j) k)
      two mid k None j e rest = absurd (cc e)

      one : (o : Option StandingText) → begin c (numbers_named rs c.whole) st ≡ o →
          (o >>= λ begun. join w (is_guarded rs all c) c (numbers_named rs c.whole) begun >>= settle_some w rs all cs) ≡ Some new →
          ((end : StandingText) → settle_some w rs all cs end ≡ Some new → Has end → Has new) → Has new
      one (Some mid) b e rest = two mid (begun_has c (numbers_named rs c.whole) st mid (begins c (numbers_named rs c.whole) st mid b) h)
          (join w (is_guarded rs all c) c (numbers_named rs c.whole) mid) refl e rest
      one None b e rest = absurd (cc e)

-- ---- the skeleton's forms

bind_some : {A B : Type 0} (o : Option A) (f : A → Option B) (b : B) → (o >>= f) ≡ Some b → (a : A) × (o ≡ Some a) × (f a ≡ Some b)
bind_some (Some a) f b e = (a, refl, e)
bind_some None f b e = absurd (cc e)

-- a parallel loop's form over the grid is the one that stands, and the grid has its count
pub record HasHead (p : PlacedText) (rs : List Numbers) (k : SkeletonText) : Type 0 where
  pub known : (x : List ℕ) (f : Form) → form_named (grid_forms rs 0 (parallel_loops p.loops)) x ≡ Some f → form_named k.known x ≡ Some f
  pub grid : k.grid ≡ piece_counts rs p.loops

some_skeleton : (a b : SkeletonText) → Some a ≡ Some b → a ≡ b
some_skeleton a b e = cc

pub head_of : (xs : List (List ℕ)) (bs : List BodyText) (p : PlacedText) (region : List Extent) (k : SkeletonText) → skeleton_in xs bs p region ≡ Some k → HasHead p (loop_numbers xs p.cuts region) k
head_of xs bs p region k e =
    let rs = loop_numbers xs p.cuts region in
    let cs = cuts_by_variable p.cuts xs in
    let parts = skeleton_parts xs bs p region k e in
    let head = parts.head in
    let rest : StandingText → Option SkeletonText = λ st. nests_in xs p rs st bs st.next >>= λ nests.
    Some (record { grid = piece_counts rs p.loops; head = st.steps; nests = nests; known = st.known; starts = st.starts }) in
    let first : rest head ≡ Some k = ap (λ (o : Option StandingText). o >>= rest) (sym parts.settled) ∙ e in
    let second = bind_some (nests_in xs p rs head bs head.next)
    (λ nests. Some (record { grid = piece_counts rs p.loops; head = head.steps; nests = nests; known = head.known; starts = head.starts })) k
    first in
    let same = some_skeleton (record { grid = piece_counts rs p.loops; head = head.steps; nests = second.0; known = head.known; starts = head.starts }) k second.2 in
    record {
      known = (λ x f has. ap (λ (s : SkeletonText). form_named s.known x) (sym same) ∙ settled_has x f at_grid rs cs cs (over_grid rs p) head parts.settled has);
      grid = parts.grid;
    }
