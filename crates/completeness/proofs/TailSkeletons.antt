-- Skeletons of functions whose loops are split once, with any tail, in any order: over the grid stand the lets of shifted blocks, and each nest is of loops, lets and guards.
use Rattle.std.proofs.Common.{◌≡◌, ℕ, zero, suc, ◌+◌, ◌≤◌, Bool, true, false, List, [], ◌∷◌, ◌++◌, length, Some, None, refl, sym, ap, ◌∙◌, subst, inl, inr, ◌⊎◌, arith}
use Rattle.std.proofs.Common.{◌<◌}
use Rattle.std.specs.Prelude.{pos, slice_get, reverse, if◌then◌else◌}
use Rattle.std.specs.List.{AllByRecursion}
use Rattle.lin.specs.Forms.{Form, number, combined}
use Rattle.lin.proofs.TermLemmas.{all_weaker}
use Rattle.soundness.specs.Claims.{In}
use Rattle.plan.specs.declared.stmt.Kind.TheVariants.{Serial, Vector}
use Rattle.plan.specs.declared.stmt.Pick.TheVariants.{Min}
use Rattle.headline.proofs.Lists.{at_left, at_right, parted}
use Rattle.sched.specs.declared.schedule.Split.{Split}
use Rattle.sched.specs.declared.schedule.Tail.{Tail}
use Rattle.sched.specs.declared.schedule.Tail.TheVariants.{Guard, Roundup, Shift}
use Rattle.sched.specs.declared.numbers.Numbers.{Numbers}
use Rattle.sched.specs.declared.numbers.Extent.{Extent}
use Rattle.sched.specs.declared.skeleton.Known.{Known}
use Rattle.sched.specs.declared.skeleton.Step.{Step}
use Rattle.sched.specs.declared.skeleton.Step.TheVariants.{Named}
use Rattle.sched.specs.declared.nest.Turning.{Turning}
use Rattle.sched.specs.Numbers.{numbers_named, loop_numbers, parallel_loops, piece_counts}
use Rattle.sched.specs.Placing.{PlacedText}
use Rattle.sched.specs.Standing.{◌>>=◌, StandingText, form_named, counted_from, alone, starts_at, name_smaller, room, begin_at, begin, is_guarded, join, settle_some, cuts_of, cuts_by_variable}
use Rattle.sched.specs.Skeleton.{BodyText, NestText, SkeletonText, inside, turn_all, is_missing, kept_from, nest_turns, variables_at, ranges_at, begun, nest_in, nest_of, nests_in}
use Rattle.sched.specs.Skeleton.{grid_forms, over_grid, skeleton_in}
use Rattle.sched.proofs.Standings.{Stands, stands_more, stands_last, Begins, stood, waits, plainly, shifted, begins}
use Rattle.sched.proofs.Passing.{IsClosed}
use Rattle.sched.proofs.Rooting.{all_both, all_by_variable}
use Rattle.blocks.proofs.Laying.{bound, same}
use Rattle.completeness.proofs.Standing.{Within, at_grid}
use Rattle.completeness.proofs.Halves.{AreOthers, IsInner}
use Rattle.completeness.proofs.Lanes.{AreOnce}
use Rattle.completeness.proofs.PlainTurns.{hits}
use Rattle.completeness.proofs.PureNests.{loop_name}
use Rattle.completeness.proofs.BlockTurns.{grid_named}
use Rattle.completeness.proofs.TailSteps.{is_loop}
use Rattle.std.specs.Prelude.{if◌then◌else◌}
use Rattle.std.specs.List.{find}
use Rattle.std.specs.Option.{option_map}
use Rattle.meaning.specs.Names.{same_name}
use Rattle.soundness.proofs.Refines.{name_refl}
use Rattle.completeness.proofs.TailTurns.{is_shifted, Entry, entry_steps, Extends, length_more, Opens, opened, unjoined, AreRight, IsStart, Right, start_right, IsEntry, IsTurned, turned, Woven}

-- ---- over the grid

form_more : (ks more : List Known) (y : List ℕ) (f : Form) → form_named ks y ≡ Some f → form_named (ks ++ more) y ≡ Some f
form_more [] more y f e = absurd (cc e)
form_more (k ∷ ks) more y f e = of (same_name k.name y) e (form_more ks more y f)
  where
    of : (b : Bool) → option_map (λ k. k.form) (if b then Some k else find (λ k. same_name k.name y) ks) ≡ Some f → (form_named ks y ≡ Some f → form_named (ks ++ more) y ≡ Some f) →
        option_map (λ k. k.form) (if b then Some k else find (λ k. same_name k.name y) (ks ++ more)) ≡ Some f
    of true q rest = q
    of false q rest = rest q

form_last : (ks : List Known) (y : List ℕ) (f : Form) → form_named ks y ≡ None → form_named (ks ++ record { name = y; form = f } ∷ []) y ≡ Some f
form_last [] y f e = ap (λ (b : Bool). option_map (λ (k : Known). k.form) (if b then Some (record { name = y; form = f }) else None)) (name_refl y)
form_last (k ∷ ks) y f e = of (same_name k.name y) e (form_last ks y f)
  where
    of : (b : Bool) → option_map (λ k. k.form) (if b then Some k else find (λ k. same_name k.name y) ks) ≡ None →
        (form_named ks y ≡ None → form_named (ks ++ record { name = y; form = f } ∷ []) y ≡ Some f) →
        option_map (λ k. k.form) (if b then Some k else find (λ k. same_name k.name y) (ks ++ record { name = y; form = f } ∷ [])) ≡ Some f
    of true q rest = absurd (cc q)
    of false q rest = rest q

module _ (cuts : List Split) (others : AreOthers cuts) (once : AreOnce cuts) (rs : List Numbers) (grid : List Known) (base : ℕ) where
  -- the let of a shifted block whose outer loop is over the grid
  pub record IsHead (s : ℕ) (step : Step) : Type 0 where
    pub split : Split
    pub among : In split cuts
    pub shifted : is_shifted split ≡ true
    pub outer : Form
    pub by_outer : form_named grid split.outer ≡ Some outer
    pub form : Form
    pub begins : combined (number (numbers_named rs split.whole).low) (pos split.factor) outer ≡ Some form
    pub is : step ≡ Named s Min (form ∷ number (room (numbers_named rs split.whole) split.factor) ∷ [])

  -- and its symbol is the first number of the split's block
  abbrev pub IsFirst : List Known → ℕ → Step → Type 0
  IsFirst starts j step = (r : IsHead (base + j) step) × (form_named starts r.split.whole ≡ Some (alone (base + j)))

  first_more : (starts more : List Known) (j : ℕ) (step : Step) → IsFirst starts j step → IsFirst (starts ++ more) j step
  first_more starts more j step (r, e) = (r, form_more starts more r.split.whole (alone (base + j)) e)

  -- the second begin with the first
  abbrev Leads : List Step → List Step → Type 0
  Leads ss head = (j : ℕ) (step : Step) → slice_get ss j ≡ Some step → slice_get head j ≡ Some step

  abbrev RightFor : StandingText → Type 0
  RightFor st = (head : List Step) → Leads st.steps head → (n : ℕ) (es : List Entry) → AreRight cuts others once rs grid base head n es st

  -- what is so while splits are settled over the grid
  record IsSo (st : StandingText) : Type 0 where
    next : st.next ≡ base + length st.steps
    known : st.known ≡ grid
    right : RightFor st
    heads : (j : ℕ) (step : Step) → slice_get st.steps j ≡ Some step → IsFirst st.starts j step

  opens_so : (c : Split) → In c cuts → (st new : StandingText) → IsSo st → (new ≡ st) ⊎ Opens c (numbers_named rs c.whole) st new → IsSo new × ((y : List ℕ) → Stands st.starts y → Stands new.starts y)
  opens_so c mc st new h (inl e) = (subst IsSo (sym e) h, (λ y k. subst (λ (a : StandingText). Stands a.starts y) (sym e) k))
  opens_so c mc st new h (inr o) = of c.tail refl o.is
    where
      r : Numbers
      r = numbers_named rs c.whole

      Made : StandingText → Type 0
      Made new = IsSo new × ((y : List ℕ) → Stands st.starts y → Stands new.starts y)

      plain : is_shifted c ≡ false → Made (starts_at c.whole o.form st)
      plain e = (
        record {
          next = h.next;
          known = h.known;
          right = λ head ext n es. (let g = h.right head ext n es in record {
            known = g.known;
            starts = start_right cuts others once rs grid base head n es c mc st g o.outer o.form o.form o.known o.sum (inl (e, refl));
          });
          heads = λ j one at. first_more st.starts (record { name = c.whole; form = o.form } ∷ []) j one (h.heads j one at);
        },
        (λ y k. stands_more st.starts (record { name = c.whole; form = o.form }) y k),
      )

      step : Step
      step = Named st.next Min (o.form ∷ number (room r c.factor) ∷ [])

      shift : is_shifted c ≡ true → Made (starts_at c.whole (alone st.next) (name_smaller o.form (room r c.factor) st))
      shift e = (
        record {
          next = (let is = h.next in let long = length_more st.steps (step ∷ []) in omega (arith, is, long));
          known = h.known;
          right = λ head ext n es. (let g = h.right head (λ j one at. ext j one (at_left st.steps (step ∷ []) j one at)) n es in record {
            known = g.known;
            starts = start_right cuts others once rs grid base head n es c mc st g o.outer o.form (alone st.next) o.known o.sum
                (inr (e, st.next, inl (length st.steps, ext (length st.steps) step last_there ∙ (λ j. Some (Named (h.next j) Min (o.form ∷ number (room r c.factor) ∷ []))), h.next), refl));
          });
          heads = λ j one at. by j one (parted st.steps (step ∷ []) j one at);
        },
        (λ y k. stands_more st.starts (record { name = c.whole; form = alone st.next }) y k),
      )
        where
          last_there : slice_get (st.steps ++ step ∷ []) (length st.steps) ≡ Some step
          last_there = (let none : length st.steps ≡ length st.steps + 0 = omega arith in at_right st.steps (step ∷ []) (length st.steps) 0 none)

          by : (j : ℕ) (one : Step) → (slice_get st.steps j ≡ Some one) ⊎ ((k : ℕ) × (j ≡ length st.steps + k) × (slice_get (step ∷ []) k ≡ Some one)) →
              IsFirst (st.starts ++ record { name = c.whole; form = alone st.next } ∷ []) j one
          by j one (inl k) = first_more st.starts (record { name = c.whole; form = alone st.next } ∷ []) j one (h.heads j one k)
          by j one (inr (zero, place, k)) =
              let is : step ≡ one = cc k in
              let so : st.next ≡ base + j = (let next = h.next in omega (arith, place, next)) in (
                record {
                  split = c;
                  among = mc;
                  shifted = e;
                  outer = o.outer;
                  by_outer = ap (λ (ks : List Known). form_named ks c.outer) (sym h.known) ∙ o.known;
                  form = o.form;
                  begins = o.sum;
                  is = sym is ∙ (λ i. Named (so i) Min (o.form ∷ number (room r c.factor) ∷ []));
                },
                form_last st.starts c.whole (alone st.next) o.none ∙ ap (λ (m : ℕ). Some (alone m)) so,
              )
          by j one (inr (suc k, place, q)) = absurd (cc q)

      of : (tail : Tail) → c.tail ≡ tail → new ≡ begin_at tail c.whole o.form (room r c.factor) st → Made new
      of Guard e q = subst Made (sym q) (plain (ap (λ (x : Tail). elim x [ Guard ↦ false | Roundup ↦ false | Shift ↦ true ]) e))
      of Roundup e q = subst Made (sym q) (plain (ap (λ (x : Tail). elim x [ Guard ↦ false | Roundup ↦ false | Shift ↦ true ]) e))
      of Shift e q = subst Made (sym q) (shift (ap (λ (x : Tail). elim x [ Guard ↦ false | Roundup ↦ false | Shift ↦ true ]) e))

  -- a split is begun as soon as its outer loop stands
  begun_after : (c : Split) (st new : StandingText) → begin c (numbers_named rs c.whole) st ≡ Some new → Stands st.known c.outer → Stands new.starts c.whole
  begun_after c st new e k = of (begins c (numbers_named rs c.whole) st new e)
    where
      of : Begins c (numbers_named rs c.whole) st new → Stands new.starts c.whole
      of (stood s is) = subst (λ (a : StandingText). Stands a.starts c.whole) (sym is) s
      of (waits none is) = (let clash : Some k.0 ≡ None = sym k.1 ∙ none in absurd (cc clash))
      of (plainly outer form none known sum first is) = subst (λ (a : StandingText). Stands a.starts c.whole) (sym is) (stands_last st.starts (record { name = c.whole; form = form }))
      of (shifted outer form none known sum first is) = subst (λ (a : StandingText). Stands a.starts c.whole) (sym is) (stands_last st.starts (record { name = c.whole; form = alone st.next }))

  -- over the grid no loop is put together, and each split whose outer loop is over the grid is begun
  settled_grid : (w : Within) (all cs : List Split) → AllByRecursion (λ d. In d cuts) cs → (st new : StandingText) → ((c : Split) → In c cuts → form_named grid c.inner ≡ None) → IsSo st →
      settle_some w rs all cs st ≡ Some new →
      IsSo new × ((y : List ℕ) → Stands st.starts y → Stands new.starts y) × AllByRecursion (λ c. Stands grid c.outer → Stands new.starts c.whole) cs
  settled_grid w all [] sub st new none h e = (subst IsSo (same st new e) h, (λ y k. subst (λ (a : StandingText). Stands a.starts y) (same st new e) k), tt)
  settled_grid w all (c ∷ cs) sub st new none h e =
      let r : Numbers = numbers_named rs c.whole in
      let b = bound (begin c r st) (λ begun. join w (is_guarded rs all c) c r begun >>= settle_some w rs all cs) new e in
      let m = bound (join w (is_guarded rs all c) c r b.value) (settle_some w rs all cs) new b.comes in
      let one = opens_so c sub.0 st b.value h (opened rs c st b.value b.is) in
      let still : m.value ≡ b.value = unjoined rs c w (is_guarded rs all c) b.value m.value (ap (λ (ks : List Known). form_named ks c.inner) one.0.known ∙ none c sub.0) m.is in
      let rest = settled_grid w all cs sub.1 m.value new none (subst IsSo (sym still) one.0) m.comes in
      let more : (y : List ℕ) → Stands b.value.starts y → Stands new.starts y = λ y k. rest.1 y (subst (λ (a : StandingText). Stands a.starts y) (sym still) k) in (
        rest.0,
        (λ y k. more y (one.1 y k)),
        ((λ k. more c.whole (begun_after c st b.value b.is (subst (λ (ks : List Known). Stands ks c.outer) (sym h.known) k))), rest.2),
      )

  -- where each split whose outer loop stands is begun, and no inner loop stands, nothing changes
  quiet : (w : Within) (all cs : List Split) (st new : StandingText) → AllByRecursion (λ c. (Stands st.known c.outer → Stands st.starts c.whole) × (form_named st.known c.inner ≡ None)) cs →
      settle_some w rs all cs st ≡ Some new → new ≡ st
  quiet w all [] st new h e = sym (same st new e)
  quiet w all (c ∷ cs) st new h e =
      let r : Numbers = numbers_named rs c.whole in
      let b = bound (begin c r st) (λ begun. join w (is_guarded rs all c) c r begun >>= settle_some w rs all cs) new e in
      let m = bound (join w (is_guarded rs all c) c r b.value) (settle_some w rs all cs) new b.comes in
      let first : b.value ≡ st = of c h.0.0 (opened rs c st b.value b.is) in
      let second : m.value ≡ b.value = unjoined rs c w (is_guarded rs all c) b.value m.value (ap (λ (a : StandingText). form_named a.known c.inner) first ∙ h.0.1) m.is in
      let both : m.value ≡ st = second ∙ first in
      quiet w all cs m.value new (subst (λ (a : StandingText). AllByRecursion (λ c. (Stands a.known c.outer → Stands a.starts c.whole) × (form_named a.known c.inner ≡ None)) cs) (sym both)
      h.1) m.comes
      ∙ both
    where
      of : (c : Split) {mid : StandingText} → (Stands st.known c.outer → Stands st.starts c.whole) → (mid ≡ st) ⊎ Opens c (numbers_named rs c.whole) st mid → mid ≡ st
      of c begun (inl k) = k
      of c begun (inr o) =
          let s = begun (o.outer, o.known) in
          let clash : Some s.0 ≡ None = sym s.1 ∙ o.none in
          absurd (cc clash)

-- ---- the splits of a definition are among all

all_parts : {A : Type 0} (P : A → Type 0) (xs ys : List A) → AllByRecursion P (xs ++ ys) → AllByRecursion P xs × AllByRecursion P ys
all_parts P [] ys h = (tt, h)
all_parts P (x ∷ xs) ys h = (let r = all_parts P xs ys h.1 in ((h.0, r.0), r.1))

pub kept_of_all : (P : Split → Type 0) (cs : List Split) (b : BodyText) (d : ℕ) (xs : List (List ℕ)) → AllByRecursion P (cuts_by_variable cs xs) → AllByRecursion P (cuts_by_variable cs
    (kept_from b d xs))
kept_of_all P cs b d [] h = tt
kept_of_all P cs b d (x ∷ xs) h =
    let parts = all_parts P (reverse (cuts_of cs (x ∷ []))) (cuts_by_variable cs xs) h in
    of (is_missing b d) parts.0 (kept_of_all P cs b (d + 1) xs parts.1)
  where
    of : (v : Bool) → AllByRecursion P (reverse (cuts_of cs (x ∷ []))) → AllByRecursion P (cuts_by_variable cs (kept_from b (d + 1) xs)) →
        AllByRecursion P (cuts_by_variable cs (if v then kept_from b (d + 1) xs else x ∷ kept_from b (d + 1) xs))
    of true here rest = rest
    of false here rest = all_both P (reverse (cuts_of cs (x ∷ []))) (cuts_by_variable cs (kept_from b (d + 1) xs)) here rest

-- ---- nests

-- what is asked of a nest's loops: each has a name of its own, which is that of no split loop and of no loop over the grid, and a vectorised one is the inner one of a split
pub record AreNamed (cuts : List Split) (grid : List Known) (ts : List Turning) : Type 0 where
  pub unique : (i j : ℕ) (t u : Turning) → slice_get ts i ≡ Some t → slice_get ts j ≡ Some u → t.name ≡ u.name → i ≡ j
  pub apart : (j : ℕ) (t : Turning) → slice_get ts j ≡ Some t → (c : Split) → In c cuts → t.name ≡ c.whole → ⊥
  pub off_grid : (j : ℕ) (t : Turning) → slice_get ts j ≡ Some t → form_named grid t.name ≡ None
  pub lanes : (j : ℕ) (t : Turning) → slice_get ts j ≡ Some t → t.kind ≡ Vector → IsInner cuts t.name

-- the nest of the definition of this number, behind the symbols of the grid and the lets over it
pub record IsTailNest (xs : List (List ℕ)) (bs : List BodyText) (p : PlacedText) (others : AreOthers p.cuts) (once : AreOnce p.cuts) (rs : List Numbers) (grid : List Known) (base : ℕ)
    (head : List Step) (d : ℕ) (w : NestText) : Type 0 where
  pub body : BodyText
  pub at : slice_get bs d ≡ Some body
  pub next : ℕ
  pub first : d ≡ 0 → next ≡ base + length head
  pub low : base + length head ≤ next
  pub entries : List Entry
  pub steps : w.steps ≡ entry_steps next entries
  pub each : (j : ℕ) (e : Entry) → slice_get entries j ≡ Some e → IsEntry p.cuts others once rs grid base head next entries (nest_turns body rs p.loops) j e
  pub once_each : (j k : ℕ) (e f : Entry) → slice_get entries j ≡ Some e → slice_get entries k ≡ Some f → e.turning.name ≡ f.turning.name → j ≡ k
  pub there : (k : ℕ) (u : Turning) → slice_get (nest_turns body rs p.loops) k ≡ Some u → (j : ℕ) × (e : Entry) × (slice_get entries j ≡ Some e) × (is_loop e.line ≡ true) × (e.turning ≡ u)
  pub woven : Woven p.cuts others once rs grid base (nest_turns body rs p.loops) entries
  pub known : List Known
  pub forms : w.at ≡ variables_at body 0 xs known ++ ranges_at body.ranges known
  pub right : AllByRecursion (λ k. Right p.cuts others once rs grid base head next entries k.name k.form) known
  pub closed : AllByRecursion (λ c. Stands known c.outer → Stands known c.inner → Stands known c.whole) (cuts_by_variable p.cuts (kept_from body 0 xs))
  pub over : (y : List ℕ) → Stands grid y → Stands known y
  pub entered : (j : ℕ) (u : Turning) → slice_get (nest_turns body rs p.loops) j ≡ Some u → Stands known u.name

module _ (xs : List (List ℕ)) (p : PlacedText) (others : AreOthers p.cuts) (once : AreOnce p.cuts) (rs : List Numbers) (grid : List Known) (base : ℕ)
    (inners : (c : Split) → In c p.cuts → form_named grid c.inner ≡ None) (some : (c : Split) → In c p.cuts → 0 < c.factor)
    (distinct : (c d : Split) → In c p.cuts → In d p.cuts → c.outer ≡ d.outer → c ≡ d)
    (outers : (c : Split) → In c p.cuts → (f : Form) → form_named grid c.outer ≡ Some f → (s : ℕ) × (f ≡ counted_from (pos 0) s) × (s < base)) (head : StandingText) (known : head.known ≡ grid)
    (begun_all : AllByRecursion (λ c. Stands grid c.outer → Stands head.starts c.whole) (cuts_by_variable p.cuts xs))
    (right : (n : ℕ) (es : List Entry) → AreRight p.cuts others once rs grid base head.steps n es head) where
  cuts_sub : (ys : List (List ℕ)) → AllByRecursion (λ d. In d p.cuts) (cuts_by_variable p.cuts ys)
  cuts_sub ys = all_by_variable (λ d. In d p.cuts) p.cuts ys (each p.cuts (λ d m. m))
    where
      each : (ds : List Split) → ((d : Split) → In d ds → In d p.cuts) → AllByRecursion (λ d. In d p.cuts) ds
      each [] f = tt
      each (d ∷ ds) f = (f d (inl refl), each ds (λ e m. f e (inr m)))

  abbrev outers_below : (next : ℕ) → base + length head.steps ≤ next → (c : Split) → In c p.cuts → (f : Form) → form_named grid c.outer ≡ Some f → (s : ℕ) × (f ≡ counted_from (pos 0) s) × (s < next)
  outers_below next least c m f e = (let r = outers c m f e in let less = r.2 in (r.0, r.1, omega (arith, less, least)))

  nest_tailed : (b : BodyText) (next : ℕ) (least : base + length head.steps ≤ next) (named : AreNamed p.cuts grid (nest_turns b rs p.loops)) (new : StandingText) →
      nest_in xs p rs b (begun next head) ≡ Some new →
      IsTurned p.cuts others once rs grid base head.steps next (nest_turns b rs p.loops) named.unique named.apart named.off_grid named.lanes inners some distinct (outers_below next least)
      (cuts_by_variable p.cuts (kept_from b 0 xs)) (cuts_sub (kept_from b 0 xs)) [] 0 (nest_turns b rs p.loops) (begun next head) new
  nest_tailed b next least named new e =
      let ts = nest_turns b rs p.loops in
      let cs = cuts_by_variable p.cuts (kept_from b 0 xs) in
      let sub = cuts_sub (kept_from b 0 xs) in
      let m = bound (settle_some (inside Serial) rs cs cs (begun next head)) (turn_all rs cs ts) new e in
      let begun_here = kept_of_all (λ c. Stands grid c.outer → Stands head.starts c.whole) p.cuts b 0 xs begun_all in
      let still : m.value ≡ begun next head = quiet p.cuts others once rs grid base (inside Serial) cs cs (begun next head) m.value (quiet_all cs sub begun_here) m.is in
      let none : next ≡ next + 0 = omega arith in
      turned p.cuts others once rs grid base head.steps next ts named.unique named.apart named.off_grid named.lanes inners some distinct (outers_below next least) cs sub ts [] 0
      (λ j t q. let zero_more : 0 + j ≡ j = omega arith in ap (slice_get ts) zero_more ∙ q) (begun next head) new (record {
        next = none;
        right = λ es ext. (let g = right next es in record { known = g.known; starts = g.starts });
        entries = λ es ext j e q. absurd (cc q);
        once_each = λ j k e f q r names. absurd (cc q);
        earlier = λ j e q. absurd (cc q);
        there = λ k u less q. absurd (omega (arith, less));
        closed = closes cs sub begun_here;
        over = λ y k. subst (λ (ks : List Known). Stands ks y) (sym known) k;
        entered = λ j u less q. absurd (omega (arith, less));
      }) (ap (turn_all rs cs ts) (sym still) ∙ m.comes)
    where
      quiet_all : (cs : List Split) → AllByRecursion (λ d. In d p.cuts) cs → AllByRecursion (λ c. Stands grid c.outer → Stands head.starts c.whole) cs →
          AllByRecursion (λ c. (Stands head.known c.outer → Stands head.starts c.whole) × (form_named head.known c.inner ≡ None)) cs
      quiet_all [] sub h = tt
      quiet_all (c ∷ cs) sub h = (
        ((λ k. h.0 (subst (λ (ks : List Known). Stands ks c.outer) known k)), ap (λ (ks : List Known). form_named ks c.inner) known ∙ inners c sub.0),
        quiet_all cs sub.1 h.1,
      )

      no_inner : (c : Split) → In c p.cuts → Stands head.known c.inner → ⊥
      no_inner c mc k = (let clash : Some k.0 ≡ None = sym k.1 ∙ ap (λ (ks : List Known). form_named ks c.inner) known ∙ inners c mc in cc clash)

      closes : (cs : List Split) → AllByRecursion (λ d. In d p.cuts) cs → AllByRecursion (λ c. Stands grid c.outer → Stands head.starts c.whole) cs → AllByRecursion (IsClosed (begun next head)) cs
      closes [] sub h = tt
      closes (c ∷ cs) sub h =
          (record { begun = λ k. h.0 (subst (λ (ks : List Known). Stands ks c.outer) known k); joined = λ s k. absurd (no_inner c sub.0 k) }, closes cs sub.1 h.1)

  abbrev Named' : List BodyText → Type 0
  Named' bs = (d : ℕ) (b : BodyText) → slice_get bs d ≡ Some b → AreNamed p.cuts grid (nest_turns b rs p.loops)

  nests_tailed : (all bs : List BodyText) (before : ℕ) → ((d : ℕ) → slice_get bs d ≡ slice_get all (before + d)) → Named' bs → (next : ℕ) → base + length head.steps ≤ next →
      (before ≡ 0 → next ≡ base + length head.steps) → (ns : List NestText) → nests_in xs p rs head bs next ≡ Some ns → (d : ℕ) (w : NestText) → slice_get ns d ≡ Some w →
      IsTailNest xs all p others once rs grid base head.steps (before + d) w
  nests_tailed all [] before there named next least first ns e d w at = absurd (none (subst (λ (l : List NestText). slice_get l d ≡ Some w) (sym (same [] ns e)) at))
    where
      none : None ≡ Some w → ⊥
      none q = cc
  nests_tailed all (b ∷ bs) before there named next least first ns e d w at =
      let m = bound (nest_in xs p rs b (begun next head)) (λ st. nests_in xs p rs head bs st.next >>= λ nests. Some (nest_of xs b st ∷ nests)) ns e in
      let r = bound (nests_in xs p rs head bs m.value.next) (λ nests. Some (nest_of xs b m.value ∷ nests)) ns m.comes in
      let t = nest_tailed b next least (named 0 b refl) m.value m.is in
      let up = t.after.next in
      by m.value r.value d (subst (λ (l : List NestText). slice_get l d ≡ Some w) (sym (same (nest_of xs b m.value ∷ r.value) ns r.comes)) at) t
      (λ j i. let place : (before + 1) + j ≡ before + suc j = omega arith in
      subst (λ (k : ℕ). IsTailNest xs all p others once rs grid base head.steps k w) place
      (nests_tailed all bs (before + 1) (λ d. let next_place : before + suc d ≡ (before + 1) + d = omega arith in there (suc d) ∙ ap (slice_get all) next_place) (λ d c q. named (suc d) c q)
      m.value.next
      (omega (arith, up, least)) (λ q. absurd (omega (arith, q))) r.value r.is j w i))
    where
      by : (st : StandingText) (rest : List NestText) (j : ℕ) → slice_get (nest_of xs b st ∷ rest) j ≡ Some w →
          IsTurned p.cuts others once rs grid base head.steps next (nest_turns b rs p.loops) (named 0 b refl).unique (named 0 b refl).apart (named 0 b refl).off_grid (named 0 b refl).lanes
          inners some distinct
          (outers_below next least) (cuts_by_variable p.cuts (kept_from b 0 xs)) (cuts_sub (kept_from b 0 xs)) [] 0 (nest_turns b rs p.loops) (begun next head) st →
          ((j : ℕ) → slice_get rest j ≡ Some w → IsTailNest xs all p others once rs grid base head.steps (before + suc j) w) → IsTailNest xs all p others once rs grid base head.steps (before + j) w
      by st rest zero i h later =
          let is : nest_of xs b st ≡ w = same (nest_of xs b st) w i in
          let none : next + 0 ≡ next = omega arith in
          let self : Extends h.more h.more = λ j e q. q in
          let less : (k : ℕ) (u : Turning) → slice_get (nest_turns b rs p.loops) k ≡ Some u → k < 0 + length (nest_turns b rs p.loops) =
          λ k u q. (let low = short_place (nest_turns b rs p.loops) k u q in omega (arith, low)) in
          subst (IsTailNest xs all p others once rs grid base head.steps (before + 0)) is (record {
            body = b;
            at = sym (there 0);
            next = next;
            first = λ q. first (omega (arith, q));
            low = least;
            entries = h.more;
            steps = h.steps ∙ ap (λ (k : ℕ). entry_steps k h.more) none;
            each = h.after.entries h.more self;
            once_each = h.after.once_each;
            there = λ k u q. h.after.there k u (less k u q) q;
            woven = h.woven;
            known = st.known;
            forms = refl;
            right = (h.after.right h.more self).known;
            closed = all_weaker (IsClosed st) (λ c. Stands st.known c.outer → Stands st.known c.inner → Stands st.known c.whole) (λ c k one two. k.joined (k.begun one) two)
                (cuts_by_variable p.cuts (kept_from b 0 xs)) h.after.closed;
            over = h.after.over;
            entered = λ k u q. h.after.entered k u (less k u q) q;
          })
        where
          short_place : {A : Type 0} (xs : List A) (j : ℕ) (x : A) → slice_get xs j ≡ Some x → j < length xs
          short_place [] j x e = absurd (cc e)
          short_place (y ∷ xs) zero x e = omega arith
          short_place (y ∷ xs) (suc j) x e = (let rest = short_place xs j x e in omega (arith, rest))
      by st rest (suc j) i h later = later j i

-- ---- skeletons

pub record AreTails (xs : List (List ℕ)) (bs : List BodyText) (p : PlacedText) (others : AreOthers p.cuts) (once : AreOnce p.cuts) (rs : List Numbers) (k : SkeletonText) : Type 0 where
  pub grid : k.grid ≡ piece_counts rs p.loops
  pub known : k.known ≡ grid_forms rs 0 (parallel_loops p.loops)
  pub heads : (j : ℕ) (step : Step) → slice_get k.head j ≡ Some step →
      IsHead p.cuts others once rs (grid_forms rs 0 (parallel_loops p.loops)) (length (piece_counts rs p.loops)) (length (piece_counts rs p.loops) + j) step
  pub firsts : (j : ℕ) (step : Step) → slice_get k.head j ≡ Some step →
      IsFirst p.cuts others once rs (grid_forms rs 0 (parallel_loops p.loops)) (length (piece_counts rs p.loops)) k.starts j step
  pub starts : (n : ℕ) (es : List Entry) → AllByRecursion
      (λ s. IsStart p.cuts others once rs (grid_forms rs 0 (parallel_loops p.loops)) (length (piece_counts rs p.loops)) k.head n es s.name s.form) k.starts
  pub begun : AllByRecursion (λ c. Stands (grid_forms rs 0 (parallel_loops p.loops)) c.outer → Stands k.starts c.whole) (cuts_by_variable p.cuts xs)
  pub nests : (d : ℕ) (w : NestText) → slice_get k.nests d ≡ Some w →
      IsTailNest xs bs p others once rs (grid_forms rs 0 (parallel_loops p.loops)) (length (piece_counts rs p.loops)) k.head d w

pub skeleton_tails : (xs : List (List ℕ)) (bs : List BodyText) (p : PlacedText) (region : List Extent) (k : SkeletonText) (others : AreOthers p.cuts) (once : AreOnce p.cuts) →
    ((y : List ℕ) → hits loop_name y (parallel_loops p.loops) ≤ 1) →
    ((c : Split) → In c p.cuts → form_named (grid_forms (loop_numbers xs p.cuts region) 0 (parallel_loops p.loops)) c.inner ≡ None) → ((c : Split) → In c p.cuts → 0 < c.factor) →
    ((c d : Split) → In c p.cuts → In d p.cuts → c.outer ≡ d.outer → c ≡ d) →
    ((c : Split) → In c p.cuts → (f : Form) → form_named (grid_forms (loop_numbers xs p.cuts region) 0 (parallel_loops p.loops)) c.outer ≡ Some f →
    (s : ℕ) × (f ≡ counted_from (pos 0) s) × (s < length (piece_counts (loop_numbers xs p.cuts region) p.loops))) →
    ((d : ℕ) (b : BodyText) → slice_get bs d ≡ Some b →
    AreNamed p.cuts (grid_forms (loop_numbers xs p.cuts region) 0 (parallel_loops p.loops)) (nest_turns b (loop_numbers xs p.cuts region) p.loops)) → skeleton_in xs bs p region ≡ Some k →
    AreTails xs bs p others once (loop_numbers xs p.cuts region) k
skeleton_tails xs bs p region k others once single none some distinct outers named e =
    let rs : List Numbers = loop_numbers xs p.cuts region in
    let cs : List Split = cuts_by_variable p.cuts xs in
    let grid : List ℕ = piece_counts rs p.loops in
    let names : List Known = grid_forms rs 0 (parallel_loops p.loops) in
    let b = bound (settle_some at_grid rs cs cs (over_grid rs p))
    (λ head. nests_in xs p rs head bs head.next >>= λ nests. Some (record { grid = grid; head = head.steps; nests = nests; known = head.known; starts = head.starts })) k e in
    let m = bound (nests_in xs p rs b.value bs b.value.next) (λ nests. Some (record { grid = grid; head = b.value.steps; nests = nests; known = b.value.known; starts = b.value.starts })) k b.comes in
    let zero_more : length grid ≡ length grid + 0 = omega arith in
    let first = settled_grid p.cuts others once rs names (length grid) at_grid cs cs (sub_of xs) (over_grid rs p) b.value none (record {
      next = zero_more;
      known = refl;
      right = λ head ext n es. record {
        known = all_weaker (λ k. form_named names k.name ≡ Some k.form) (λ k. Right p.cuts others once rs names (length grid) head n es k.name k.form) (λ k h. inl (inl h)) names
            (grid_named rs 0 (parallel_loops p.loops) single);
        starts = tt;
      };
      heads = λ j step q. absurd (cc q);
    }) b.is in
    let so = first.0 in
    let right : (n : ℕ) (es : List Entry) → AreRight p.cuts others once rs names (length grid) b.value.steps n es b.value = λ n es. so.right b.value.steps (λ j step q. q) n es in
    let least : length grid + length b.value.steps ≤ length grid + length b.value.steps = omega arith in
    let nests : nests_in xs p rs b.value bs (length grid + length b.value.steps) ≡ Some m.value = ap (nests_in xs p rs b.value bs) (sym so.next) ∙ m.is in
    subst (AreTails xs bs p others once rs) (same (record { grid = grid; head = b.value.steps; nests = m.value; known = b.value.known; starts = b.value.starts }) k m.comes) (record {
      grid = refl;
      known = so.known;
      heads = λ j step at. (so.heads j step at).0;
      firsts = so.heads;
      starts = λ n es. (right n es).starts;
      begun = first.2;
      nests = λ d w at. (let same_place : 0 + d ≡ d = omega arith in
          subst (λ (q : ℕ). IsTailNest xs bs p others once rs names (length grid) b.value.steps q w) same_place
          (nests_tailed xs p others once rs names (length grid) none some distinct outers b.value so.known first.2 right bs bs 0 (λ d. refl_place bs d) named
          (length grid + length b.value.steps) least (λ q. refl) m.value nests d w at));
    })
  where
    refl_place : {A : Type 0} (xs : List A) (d : ℕ) → slice_get xs d ≡ slice_get xs (0 + d)
    refl_place xs d = (let same_place : d ≡ 0 + d = omega arith in ap (slice_get xs) same_place)

    sub_of : (ys : List (List ℕ)) → AllByRecursion (λ d. In d p.cuts) (cuts_by_variable p.cuts ys)
    sub_of ys = all_by_variable (λ d. In d p.cuts) p.cuts ys (each p.cuts (λ d m. m))
      where
        each : (ds : List Split) → ((d : Split) → In d ds → In d p.cuts) → AllByRecursion (λ d. In d p.cuts) ds
        each [] f = tt
        each (d ∷ ds) f = (f d (inl refl), each ds (λ e m. f e (inr m)))

-- what stands over the grid are the forms of its loops
pub known_over : (xs : List (List ℕ)) (bs : List BodyText) (p : PlacedText) (region : List Extent) (k : SkeletonText) (others : AreOthers p.cuts) (once : AreOnce p.cuts) →
    ((y : List ℕ) → hits loop_name y (parallel_loops p.loops) ≤ 1) →
    ((c : Split) → In c p.cuts → form_named (grid_forms (loop_numbers xs p.cuts region) 0 (parallel_loops p.loops)) c.inner ≡ None) → skeleton_in xs bs p region ≡ Some k →
    k.known ≡ grid_forms (loop_numbers xs p.cuts region) 0 (parallel_loops p.loops)
known_over xs bs p region k others once single none e =
    let rs : List Numbers = loop_numbers xs p.cuts region in
    let cs : List Split = cuts_by_variable p.cuts xs in
    let grid : List ℕ = piece_counts rs p.loops in
    let names : List Known = grid_forms rs 0 (parallel_loops p.loops) in
    let b = bound (settle_some at_grid rs cs cs (over_grid rs p))
    (λ head. nests_in xs p rs head bs head.next >>= λ nests. Some (record { grid = grid; head = head.steps; nests = nests; known = head.known; starts = head.starts })) k e in
    let m = bound (nests_in xs p rs b.value bs b.value.next) (λ nests. Some (record { grid = grid; head = b.value.steps; nests = nests; known = b.value.known; starts = b.value.starts })) k b.comes in
    let zero_more : length grid ≡ length grid + 0 = omega arith in
    let first = settled_grid p.cuts others once rs names (length grid) at_grid cs cs (all_by_variable (λ d. In d p.cuts) p.cuts xs (each p.cuts (λ d m. m))) (over_grid rs p) b.value none (record {
      next = zero_more;
      known = refl;
      right = λ head ext n es. record {
        known = all_weaker (λ k. form_named names k.name ≡ Some k.form) (λ k. Right p.cuts others once rs names (length grid) head n es k.name k.form) (λ k h. inl (inl h)) names
            (grid_named rs 0 (parallel_loops p.loops) single);
        starts = tt;
      };
      heads = λ j step q. absurd (cc q);
    }) b.is in
    ap (λ (s : SkeletonText). s.known) (sym (same (record { grid = grid; head = b.value.steps; nests = m.value; known = b.value.known; starts = b.value.starts }) k m.comes)) ∙ first.0.known
  where
    each : (ds : List Split) → ((d : Split) → In d ds → In d p.cuts) → AllByRecursion (λ d. In d p.cuts) ds
    each [] f = tt
    each (d ∷ ds) f = (f d (inl refl), each ds (λ e m. f e (inr m)))
