-- Functions that are computed inside loops are stored ones, and each of their nests is one of a definition, wherever they are computed.
use Rattle.std.proofs.Common.{◌≡◌, ℕ, zero, suc, ◌+◌, Bool, true, false, List, [], ◌∷◌, ◌++◌, length, Option, Some, None, refl, sym, ap, ◌∙◌, subst, inl, inr, arith}
use Rattle.std.specs.Prelude.{if◌then◌else◌, slice_get}
use Rattle.std.specs.List.{AllByRecursion}
use Rattle.lin.specs.declared.scope.Binding.{Binding}
use Rattle.lin.specs.declared.span.Span1.{Span1}
use Rattle.meaning.specs.Algorithm.{Algorithm}
use Rattle.sched.specs.declared.schedule.Split.{Split}
use Rattle.sched.specs.Skeleton.{BodyText, NestText, nest_of as laid_nest}
use Rattle.sched.specs.Standing.{◌>>=◌, StandingText}
use Rattle.sched.specs.Stored.{FormulaText, StoredText}
use Rattle.sched.specs.Regions.{LaidText}
use Rattle.regions.specs.Regions.{bodies_from}
use Rattle.sched.specs.Fetches.{Entry}
use Rattle.sched.specs.Around.{bind_steps}
use Rattle.lower.specs.Groups.{is_same, rooted_if, rooted}
use Rattle.sched.specs.Placed.{LaterText, PlacedText}
use Rattle.regions.specs.Turned.{steps_of, known_of, nest_of, all_runs, add_nests, are_bounded}
use Rattle.sched.specs.Parted as parted
use Rattle.sched.specs.Parted.{FrameText, body_cuts, begun, nest_in}
use Rattle.blocks.specs.Parted.{frame_of, nest_over, nests_from, kept_region}
use Rattle.lower.specs.Parted.{parted_nests, nests_by, nests_over, nests_kept}
use Rattle.sched.specs.Settled.{turn_all}
use Rattle.lower.specs.Rounded.{LainText, lain_plainly, or_lain, lain_if, lain_behind, lain_named, lain_rounded, lain_over, lain_kept}
use Rattle.blocks.specs.Rounded.{BegunText, unnamed, calls_itself, is_plain, is_allowed}
use Rattle.blocks.specs.Rounded.{named_over}
use Rattle.regions.specs.Slid.{TrackText, new_region}
use Rattle.lower.specs.Slid.{sliding_at, Holds, HoldsBy, held_along, HasLater}
use Rattle.regions.specs.Demanded.{scope_at}
use Rattle.lower.specs.Computed.{IsComputed, AreComputedIf, AreFound, AreAllFound}
use Rattle.headline.proofs.Lists.{parted as parted_at}
use Rattle.shares.proofs.Groups.{push_each}
use Rattle.blocks.proofs.Laying.{bound, same}
use Rattle.completeness.proofs.Standing.{HasShape, Rises}
use Rattle.completeness.proofs.InnerRises.{loops_rise, nest_rises}
use Rattle.completeness.proofs.InnerLets.{AreNamed, lets_named}

-- ---- entries

-- it is one of these functions, with its definitions
pub record IsEntryOf (gs : List StoredText) (e : Entry) : Type 0 where
  pub place : ℕ
  pub at : slice_get gs place ≡ Some e.0
  pub defined : e.0.formulas ≡ Some e.2

further : (g : StoredText) (gs : List StoredText) (e : Entry) → IsEntryOf gs e → IsEntryOf (g ∷ gs) e
further g gs e h = record { place = suc h.place; at = h.at; defined = h.defined }

pub entry_of : (b : Bool) (gs : List StoredText) (ls : List (Option LaidText)) (k : ℕ) (e : Entry) → slice_get (rooted b gs ls) k ≡ Some e → IsEntryOf gs e
entry_of b [] ls k e at = absurd (cc at)
entry_of b (g ∷ gs) [] k e at = absurd (cc at)
entry_of b (g ∷ gs) (l ∷ ls) k e at = of (is_same g.subject.is_root b) g.formulas refl l k at (λ j q. further g gs e (entry_of b gs ls j e q))
  where
    if_first : (v : Bool) (fs : List FormulaText) → g.formulas ≡ Some fs → (x : LaidText) (j : ℕ) → slice_get (if v then (g, x, fs) ∷ rooted b gs ls else rooted b gs ls) j ≡ Some e →
        ((i : ℕ) → slice_get (rooted b gs ls) i ≡ Some e → IsEntryOf (g ∷ gs) e) → IsEntryOf (g ∷ gs) e
    if_first true fs h x zero q rest = subst (IsEntryOf (g ∷ gs)) (same (g, x, fs) e q) (record { place = 0; at = refl; defined = h })
    if_first true fs h x (suc j) q rest = rest j q
    if_first false fs h x j q rest = rest j q

    of : (v : Bool) (o : Option (List FormulaText)) → g.formulas ≡ o → (l : Option LaidText) (j : ℕ) → slice_get (rooted_if v g o l (rooted b gs ls)) j ≡ Some e →
        ((i : ℕ) → slice_get (rooted b gs ls) i ≡ Some e → IsEntryOf (g ∷ gs) e) → IsEntryOf (g ∷ gs) e
    of v (Some fs) h (Some x) j q rest = if_first v fs h x j q rest
    of v (Some fs) h None j q rest = rest j q
    of v None h l j q rest = rest j q

-- ---- nests

-- the nest of the definition at its place, whose steps bind symbols one by one
pub record IsNestAt (xs : List (List ℕ)) (bs : List BodyText) (d : ℕ) (n : NestText) : Type 0 where
  pub shape : HasShape xs bs d n
  pub from : ℕ
  pub to : ℕ
  pub rises : Rises from n.steps to

-- each is the nest of the definition at its place
abbrev pub HaveShapes : StoredText → List FormulaText → List NestText → Type 0
HaveShapes g fs ns = (d : ℕ) (n : NestText) → slice_get ns d ≡ Some n → IsNestAt g.subject.variables (bodies_from g.changes 0 g.subject.reductions fs) d n

-- what a function takes second
abbrev Second : (A B C : Type 0) → (A → B → C) → Type 0
Second A B C f = B

-- loops
abbrev Runs : Type 0
Runs = Second _ _ _ steps_of

-- what stands where these loops do
abbrev stands : List (List ℕ) → ℕ → Runs → StandingText
stands xs s rs = record { known = known_of s rs; starts = []; bound = []; next = s; steps = steps_of s rs; limits = [] }

-- what a function gives
abbrev Given : (A B : Type 0) → (A → B) → Type 0
Given A B f = B

-- the blocks of dimensions, where they are counted
abbrev Counts : Type 0
Counts = Given BegunText _ (λ (b : BegunText). b.blocks)

-- of some of these definitions, from the one with this number on
abbrev ShapesFrom : StoredText → List BodyText → ℕ → List NestText → Type 0
ShapesFrom g all k ns = (d : ℕ) (n : NestText) → slice_get ns d ≡ Some n → IsNestAt g.subject.variables all (k + d) n

-- these are the definitions from this number on
abbrev BodiesFrom : List BodyText → ℕ → List BodyText → Type 0
BodiesFrom all k bs = (j : ℕ) (b : BodyText) → slice_get bs j ≡ Some b → slice_get all (k + j) ≡ Some b

module _ (g : StoredText) (all : List BodyText) where
  first_body : (k : ℕ) (b : BodyText) (bs : List BodyText) → BodiesFrom all k (b ∷ bs) → slice_get all k ≡ Some b
  first_body k b bs there = let none : k + 0 ≡ k = omega arith in ap (slice_get all) (sym none) ∙ there 0 b refl

  other_bodies : (k : ℕ) (b : BodyText) (bs : List BodyText) → BodiesFrom all k (b ∷ bs) → BodiesFrom all (k + 1) bs
  other_bodies k b bs there j c at = (let next : (k + 1) + j ≡ k + suc j = omega arith in ap (slice_get all) next ∙ there (suc j) c at)

  -- where no loop is split
  whole_shapes : (region : List Span1) (s k : ℕ) (bs : List BodyText) (before ns : List NestText) → BodiesFrom all k bs → length before ≡ k →
      ((d : ℕ) (n : NestText) → slice_get before d ≡ Some n → IsNestAt g.subject.variables all d n) → add_nests g region s bs before ≡ Some ns →
      (d : ℕ) (n : NestText) → slice_get ns d ≡ Some n → IsNestAt g.subject.variables all d n
  whole_shapes region s k [] before ns there long h e d n at = h d n (ap (λ (ws : List NestText). slice_get ws d) (same before ns e) ∙ at)
  whole_shapes region s k (b ∷ bs) before ns there long h e d n at =
      let r = bound (all_runs region g.placed.loops b) (λ rs. add_nests g region s bs (before ++ nest_of g.subject.variables b s rs ∷ [])) ns e in
      let one : NestText = nest_of g.subject.variables b s r.value in
      let shape : HasShape g.subject.variables all (length before) one =
      record { body = b; standing = stands g.subject.variables s r.value; at = ap (slice_get all) long ∙ first_body k b bs there; is = refl } in
      let here : IsNestAt g.subject.variables all (length before) one = record { shape = shape; from = s; to = s + length r.value; rises = loops_rise s r.value } in
      let more : length (before ++ one ∷ []) ≡ k + 1 = one_more before one ∙ ap (λ (j : ℕ). j + 1) long in
      whole_shapes region s (k + 1) bs (before ++ one ∷ []) ns (other_bodies k b bs there) more (push_each (IsNestAt g.subject.variables all) before one h here) r.comes d n at
    where
      one_more : (xs : List NestText) (x : NestText) → length (xs ++ x ∷ []) ≡ length xs + 1
      one_more [] x = refl
      one_more (y ∷ xs) x = (let rest = one_more xs x in omega (arith, rest))

  -- where some are
  module _ (scope : List Binding) (region kept : List Span1) (blocks : Counts) where
    parted_shape : (k : ℕ) (b : BodyText) (n : NestText) → slice_get all k ≡ Some b → nest_over g scope region kept blocks k b ≡ Some n → IsNestAt g.subject.variables all k n
    parted_shape k b n at e =
        let f = bound (frame_of g scope region kept blocks k) (λ f. nest_in g region (length scope) f.0 f.1 b) n e in
        let frame : FrameText = f.value.0 in
        let r = bound (parted.all_runs g.subject.variables region frame g.placed.loops b)
        (λ rs. turn_all frame.numbers frame.reaches (body_cuts g b) rs (begun (length scope) f.value.1) >>= λ st. Some (laid_nest g.subject.variables b st)) n f.comes in
        let t = bound (turn_all frame.numbers frame.reaches (body_cuts g b) r.value (begun (length scope) f.value.1)) (λ st. Some (laid_nest g.subject.variables b st)) n r.comes in
        let shape : HasShape g.subject.variables all k n = record { body = b; standing = t.value; at = at; is = sym (same (laid_nest g.subject.variables b t.value) n t.comes) } in
        let up = nest_rises g scope region kept blocks k b n e in
        record { shape = shape; from = length scope; to = up.0; rises = up.1 }

    parted_from : (k : ℕ) (bs : List BodyText) (ns : List NestText) → BodiesFrom all k bs → nests_from g scope region kept blocks k bs ≡ Some ns → ShapesFrom g all k ns
    parted_from k [] ns there e d n at = absurd (no (ap (λ (ws : List NestText). slice_get ws d) (same [] ns e) ∙ at))
      where
        no : None ≡ Some n → ⊥
        no q = cc
    parted_from k (b ∷ bs) ns there e d n at =
        let o = bound (nest_over g scope region kept blocks k b) (λ n. nests_from g scope region kept blocks (k + 1) bs >>= λ ns. Some (n ∷ ns)) ns e in
        let r = bound (nests_from g scope region kept blocks (k + 1) bs) (λ ns. Some (o.value ∷ ns)) ns o.comes in
        let rest = parted_from (k + 1) bs r.value (other_bodies k b bs there) r.is in
        let here = parted_shape k b o.value (first_body k b bs there) o.is in
        subst (ShapesFrom g all k) (same (o.value ∷ r.value) ns r.comes) (of o.value r.value here rest) d n at
      where
        of : (n : NestText) (others : List NestText) → IsNestAt g.subject.variables all k n → ShapesFrom g all (k + 1) others → ShapesFrom g all k (n ∷ others)
        of n others here rest zero w at =
            let none : k ≡ k + 0 = omega arith in subst (λ (j : ℕ). IsNestAt g.subject.variables all j w) none (subst (IsNestAt g.subject.variables all k) (same n w at) here)
        of n others here rest (suc d) w at = (let next : (k + 1) + d ≡ k + suc d = omega arith in subst (λ (j : ℕ). IsNestAt g.subject.variables all j w) next (rest d w at))

module _ (g : StoredText) (fs : List FormulaText) where
  abbrev bodies : List BodyText
  bodies = bodies_from g.changes 0 g.subject.reductions fs

  all_bodies : BodiesFrom bodies 0 bodies
  all_bodies j b at = (let none : 0 + j ≡ j = omega arith in ap (slice_get bodies) none ∙ at)

  parted_have : (scope : List Binding) (region kept : List Span1) (blocks : Counts) (ns : List NestText) → parted_nests g fs scope region kept blocks ≡ Some ns → HaveShapes g fs ns
  parted_have scope region kept blocks ns e d n at =
      let none : 0 + d ≡ d = omega arith in
      subst (λ (j : ℕ). IsNestAt g.subject.variables bodies j n) none (parted_from g bodies scope region kept blocks 0 bodies ns all_bodies e d n at)

  by_cuts : (cs : List Split) (scope : List Binding) (region kept : List Span1) (ns : List NestText) → nests_by cs g fs scope region kept ≡ Some ns → HaveShapes g fs ns
  by_cuts [] scope region kept ns e = of (are_bounded scope region) e
    where
      none_there : (d : ℕ) (n : NestText) → slice_get [] d ≡ Some n → IsNestAt g.subject.variables bodies d n
      none_there d n at = absurd (cc at)

      of : (b : Bool) → (if b then add_nests g region (length scope) bodies [] else None) ≡ Some ns → HaveShapes g fs ns
      of true q = whole_shapes g bodies region (length scope) 0 bodies [] ns all_bodies refl none_there q
      of false q = absurd (cc q)
  by_cuts (c ∷ cs) scope region kept ns e = parted_have scope region kept [] ns e

  kept_have : (scope : List Binding) (region : List Span1) (o : Option (List Span1)) (ns : List NestText) → nests_kept g fs scope region o ≡ Some ns → HaveShapes g fs ns
  kept_have scope region o ns e = (let b = bound o (λ kept. nests_over g fs scope region kept) ns e in by_cuts g.placed.cuts scope region b.value ns b.comes)

  module _ (a : Algorithm) (scope : List Binding) (region kept : List Span1) (lain : LainText) where
    plainly_have : lain_plainly g fs scope region kept ≡ Some lain → HaveShapes g fs lain.nests
    plainly_have e =
        let made : List NestText → LainText = λ ns. record { begun = unnamed region; nests = ns } in
        let b = bound (nests_over g fs scope region kept) (λ ns. Some (made ns)) lain e in
        subst (λ (l : LainText). HaveShapes g fs l.nests) (same (made b.value) lain b.comes) (by_cuts g.placed.cuts scope region kept b.value b.is)

    behind_have : (b : BegunText) → lain_behind a g fs scope region kept b ≡ Some (Some lain) → HaveShapes g fs lain.nests
    behind_have b e =
        let n = bound (parted_nests g fs (bind_steps scope b.lets) b.region kept b.blocks) (λ ns. is_allowed a g fs (bind_steps scope b.lets) region b ns >>= λ v. Some (lain_if b ns v))
        (Some lain) e in
        let v = bound (is_allowed a g fs (bind_steps scope b.lets) region b n.value) (λ v. Some (lain_if b n.value v)) (Some lain) n.comes in
        of n.value (parted_have (bind_steps scope b.lets) b.region kept b.blocks n.value n.is) v.value (same (lain_if b n.value v.value) (Some lain) v.comes)
      where
        of : (ns : List NestText) → HaveShapes g fs ns → (v : Bool) → lain_if b ns v ≡ Some lain → HaveShapes g fs lain.nests
        of ns h true q = subst (λ (l : LainText). HaveShapes g fs l.nests) (same (record { begun = b; nests = ns }) lain q) h
        of ns h false q = absurd (cc q)

    either_have : (o : Option LainText) → (o ≡ Some lain → HaveShapes g fs lain.nests) → or_lain (lain_plainly g fs scope region kept) o ≡ Some lain → HaveShapes g fs lain.nests
    either_have None f e = plainly_have e
    either_have (Some l) f e = f e

    named_have : (o : Option BegunText) → lain_named a g fs scope region kept o ≡ Some lain → HaveShapes g fs lain.nests
    named_have None e = plainly_have e
    named_have (Some b) e =
        let w = bound (lain_behind a g fs scope region kept b) (or_lain (lain_plainly g fs scope region kept)) lain e in
        either_have w.value (λ q. behind_have b (w.is ∙ ap (λ (o : Option LainText). Some o) q)) w.comes

    rounded_have : (v : Bool) → (if v then lain_named a g fs scope region kept (named_over g scope region) else lain_plainly g fs scope region kept) ≡ Some lain → HaveShapes g fs lain.nests
    rounded_have true e = named_have (named_over g scope region) e
    rounded_have false e = plainly_have e

    over_have : (v : Bool) → (if v then lain_plainly g fs scope region kept else lain_rounded a g fs scope region kept) ≡ Some lain → HaveShapes g fs lain.nests
    over_have true e = plainly_have e
    over_have false e = rounded_have (calls_itself g fs) e

  lain_have : (a : Algorithm) (scope : List Binding) (region : List Span1) (o : Option (List Span1)) (lain : LainText) → lain_kept a g fs scope region o ≡ Some lain → HaveShapes g fs lain.nests
  lain_have a scope region o lain e = (let b = bound o (λ kept. lain_over a g fs scope region kept) lain e in over_have a scope region b.value lain (is_plain g fs) b.comes)

  -- ---- over what is new

  later_have : (kept : Option (List Span1)) (x : TrackText × ℕ) (scope : List Binding) (h : List Span1) (o : Option LaterText) → HasLater g fs kept x scope h o → (l : LaterText) → o ≡ Some l →
      HaveShapes g fs l.nests
  later_have kept x scope h None has l e = absurd (cc e)
  later_have kept x scope h (Some k) has l e =
      subst (λ (u : LaterText). HaveShapes g fs u.nests) (same k l e) (kept_have k.scope (new_region scope x.1 0 h) kept k.nests has.nested)

  no_later : (o : Option LaterText) (l : LaterText) → o ≡ None → o ≡ Some l → ⊥
  no_later o l e f = cc (e, f)

  by_have : (n : ℕ) (x : TrackText × ℕ) (scope : List Binding) (r : List Span1) (o : Option (List Span1)) (held : List Span1) (later : Option LaterText) → HoldsBy g fs n x scope r o held later →
      (l : LaterText) → later ≡ Some l → HaveShapes g fs l.nests
  by_have n x scope r None held later h l e = absurd (no_later later l h.none e)
  by_have n x scope r (Some k) held later h l e = later_have (kept_region n scope k) x scope k later h.turns l e

  holds_have : (es : List Entry) (n : ℕ) (scope : List Binding) (r : List Span1) (o : Option (TrackText × ℕ)) (held : List Span1) (later : Option LaterText) → Holds es g fs n scope r o held later →
      (l : LaterText) → later ≡ Some l → HaveShapes g fs l.nests
  holds_have es n scope r None held later h l e = absurd (no_later later l h.none e)
  holds_have es n scope r (Some x) held later h l e = by_have n x scope r (held_along es g fs scope r x) held later h l e

-- ---- functions inside loops

-- one of these functions, with its definitions, of which its nests are
pub record IsInner (gs : List StoredText) (i : PlacedText) : Type 0 where
  pub entry : Entry
  pub stored : IsEntryOf gs entry
  pub function : i.function ≡ entry.0
  pub formulas : i.formulas ≡ entry.2
  pub shapes : HaveShapes i.function i.formulas i.nests
  pub later : (l : LaterText) → i.later ≡ Some l → HaveShapes i.function i.formulas l.nests
  pub lets : AreNamed i.lets

module _ (a : Algorithm) (gs : List StoredText) (e : Entry) (es : List Entry) (among : (k : ℕ) (c : Entry) → slice_get es k ≡ Some c → IsEntryOf gs c) where
  inner_is : (before : List PlacedText) (c : Entry) → IsEntryOf gs c → (i : PlacedText) → IsComputed a e es before c i → IsInner gs i
  inner_is before c stored i h =
      let back : (ns : List NestText) → HaveShapes c.0 c.2 ns → HaveShapes i.function i.formulas ns =
      λ ns k. subst (λ (fs : List FormulaText). HaveShapes i.function fs ns) (sym h.formulas) (subst (λ (g : StoredText). HaveShapes g c.2 ns) (sym h.function) k) in
      let nests = lain_have c.0 c.2 a (scope_at e before i.home) i.region (kept_region (length (scope_at e before i.store)) (scope_at e before i.home) i.region) h.lain.lain h.lain.laid in
      record {
        entry = c;
        stored = stored;
        function = h.function;
        formulas = h.formulas;
        shapes = back i.nests (subst (HaveShapes c.0 c.2) (sym h.lain.nests) nests);
        later = λ l q. back l.nests (holds_have c.0 c.2 es (length (scope_at e before i.store)) (scope_at e before i.home) h.region (sliding_at e before c.0 i.home i.store h.region)
            i.region i.later h.holds l q);
        lets = subst AreNamed (sym h.lain.lets) (lets_named a c.0 c.2 (scope_at e before i.home) i.region (kept_region (length (scope_at e before i.store)) (scope_at e before i.home)
            i.region) h.lain.lain h.lain.laid);
      }

  these_are : (before : List PlacedText) (c : Entry) → IsEntryOf gs c → (js : List PlacedText) → AllByRecursion (IsComputed a e es before c) js → (k : ℕ) (i : PlacedText) → slice_get js k ≡
      Some i → IsInner gs i
  these_are before c stored [] h k i at = absurd (cc at)
  these_are before c stored (j ∷ js) h zero i at = subst (IsInner gs) (same j i at) (inner_is before c stored j h.0)
  these_are before c stored (j ∷ js) h (suc k) i at = these_are before c stored js h.1 k i at

  found_are : (before js : List PlacedText) (o : Option Entry) → ((c : Entry) → o ≡ Some c → IsEntryOf gs c) → AreComputedIf a e es before o js → (k : ℕ) (i : PlacedText) → slice_get js k ≡ Some i →
      IsInner gs i
  found_are before js None stored h k i at = absurd (no (ap (λ (xs : List PlacedText). slice_get xs k) (sym h) ∙ at))
    where
      no : None ≡ Some i → ⊥
      no q = cc
  found_are before js (Some c) stored h k i at = these_are before c (stored c refl) js h.each k i at

  all_are : (n : ℕ) (before all : List PlacedText) → AreFound a e es n before all → ((k : ℕ) (i : PlacedText) → slice_get before k ≡ Some i → IsInner gs i) → (k : ℕ) (i : PlacedText) →
      slice_get all k ≡ Some i → IsInner gs i
  all_are zero before all h so k i at = so k i (ap (λ (xs : List PlacedText). slice_get xs k) (sym h) ∙ at)
  all_are (suc n) before all h so k i at = all_are n (before ++ h.found) all h.others (λ j w q. elim (parted_at before h.found j w q) [
    | inl one ↦ so j w one
    | inr two ↦ found_are before h.found (slice_get es n) (among n) h.these two.0 w two.2
  ]) k i at

-- of the group of this number
pub inners_at : (a : Algorithm) (gs : List StoredText) (n : ℕ) (es others : List Entry) (placed : List (List PlacedText)) → ((k : ℕ) (c : Entry) → slice_get others k ≡ Some c → IsEntryOf gs c) →
    AreAllFound a n es others placed → (g : ℕ) (e : Entry) (js : List PlacedText) → slice_get es g ≡ Some e → slice_get placed g ≡ Some js → (k : ℕ) (i : PlacedText) → slice_get js k ≡ Some
    i → IsInner gs i
inners_at a gs n [] others placed among h g e js one at k i there = absurd (cc one)
inners_at a gs n (u ∷ es) others [] among h g e js one at k i there = absurd h
inners_at a gs n (u ∷ es) others (us ∷ placed) among h zero e js one at k i there =
    all_are a gs u others among n [] us h.0 (λ j w q. absurd (cc q)) k i (ap (λ (xs : List PlacedText). slice_get xs k) (same us js at) ∙ there)
inners_at a gs n (u ∷ es) others (us ∷ placed) among h (suc g) e js one at k i there = inners_at a gs n es others placed among h.1 g e js one at k i there
