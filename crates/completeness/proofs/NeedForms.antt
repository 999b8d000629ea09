-- The forms of need lines are within the limits of forms.
use Rattle.std.proofs.Common.{◌≡◌, ℕ, zero, suc, ◌+◌, ◌≤◌, ◌^◌, Bool, true, false, List, [], ◌∷◌, ◌++◌, length, Option, Some, None, refl, sym, ap, ◌∙◌, subst, arith}
use Rattle.std.specs.Prelude.{ℤ, pos, negsuc, ◌-ℤ◌, int_le, if◌then◌else◌, slice_get}
use Rattle.std.specs.List.{AllByRecursion}
use Rattle.std.specs.Int.RustNames.{unsigned_abs}
use Rattle.std.proofs.Math.Nat.{div-le_self}
use Rattle.std.proofs.lemmas.Int.{ints}
use Rattle.numeric.specs.Apply.{quotient}
use Rattle.lin.specs.Forms.{Form, number, is_within_limits, combined}
use Rattle.lin.specs.declared.form.Multiple.{Multiple}
use Rattle.lin.specs.declared.span.Span1.{Span1}
use Rattle.lin.proofs.Limits.{combined-means, within_limits-constant}
use Rattle.bounds.proofs.ListSound.{all-append}
use Rattle.meaning.specs.Algorithm.{Algorithm}
use Rattle.meaning.specs.Conditions.{IsAlgorithm}
use Rattle.plan.specs.declared.plan.Group.{Group as CodeGroup}
use Rattle.plan.specs.declared.certificate.cert.Claim.{Claim as CodeClaim}
use Rattle.plan.specs.declared.certificate.cert.Need.{Need}
use Rattle.sched.specs.Schedule.{Schedule}
use Rattle.sched.specs.Legal.{IsLegal}
use Rattle.sched.specs.declared.placing.Loop.{Loop}
use Rattle.sched.specs.declared.numbers.Extent.{Extent}
use Rattle.sched.specs.Placing.{is_parallel}
use Rattle.sched.specs.Standing.{◌>>=◌, alone}
use Rattle.lower.specs.declared.lowering.Lowered.{Lowered}
use Rattle.sched.specs.Stored.{StoredText}
use Rattle.lower.specs.Stored.{stored_functions, has_large}
use Rattle.sched.specs.Around.{grid_scope}
use Rattle.regions.specs.Faults.{are_whole}
use Rattle.lower.specs.Faults.{region_fault}
use Rattle.sched.specs.Regions.{LaidText}
use Rattle.lower.specs.Owning.{IsLaidBy}
use Rattle.sched.specs.Blocks.{difference}
use Rattle.blocks.specs.Bodies.{first_lines}
use Rattle.regions.specs.Taken.{sites_of}
use Rattle.regions.specs.Needs.{is_multiple, plus_part, plus_parts, divided, block_at, add_blocks, blocks_over, all_turns, or_all_turns, first_count, other_counts, length_at, low_at}
use Rattle.regions.specs.Needs.{turns_over}
use Rattle.regions.specs.Needs.{turns_found, turns_needed, loops_needed, or_one_piece, pieces_needed}
use Rattle.sched.specs.Fetches.{Entry}
use Rattle.blocks.specs.Fetches.{FetchText}
use Rattle.lower.specs.Fetches.{AreFetched, fetched_groups}
use Rattle.lower.specs.Groups.{HasBody, line_behind, HaveBodies, HasGroups}
use Rattle.blocks.proofs.Laying.{bound, same}
use Rattle.completeness.specs.Owed.{IsWithinSpan}
use Rattle.completeness.proofs.Bodies.{other_at, entry_at}
use Rattle.completeness.proofs.GridCounts.{IsShort, grid_few}
use Rattle.completeness.proofs.GridScope.{number_limited}
use Rattle.completeness.proofs.Output.{group_at}
use Rattle.completeness.proofs.Owned.{some_same, each}
use Rattle.completeness.proofs.Served.{ls as regions_found, ready as all_ready, roots, made_at}

abbrev IsWithin : Form → Type 0
IsWithin f = is_within_limits f ≡ true

-- ---- forms by a divisor

quotient_within : (z : ℤ) (n : ℕ) → unsigned_abs z ≤ 2 ^ 40 → unsigned_abs (quotient z (pos (suc n))) ≤ 2 ^ 40
quotient_within (pos m) n h = (let most = div-le_self m (suc n) in omega (arith, ints, most, h))
quotient_within (negsuc m) n h = (let most = div-le_self m (suc n) in omega (arith, ints, most, h))

parts_within : (n : ℤ) (f : Form) (ts : List Multiple) (g : Form) → IsWithin f → plus_parts n f ts ≡ Some g → IsWithin g
parts_within n f [] g h e = subst IsWithin (same f g e) h
parts_within n f (t ∷ ts) g h e = of (is_multiple n t) e (λ u k q. parts_within n u ts g k q)
  where
    of : (b : Bool) → (if b then (plus_part n f t >>= λ u. plus_parts n u ts) else None) ≡ Some g → ((u : Form) → IsWithin u → plus_parts n u ts ≡ Some g → IsWithin g) → IsWithin g
    of true q rest =
        let b = bound (plus_part n f t) (λ u. plus_parts n u ts) g q in
        rest b.value (combined-means f (quotient t.factor n) (alone t.symbol) b.value b.is).within b.comes
    of false q rest = absurd (cc q)

divided_within : (n : ℤ) (f g : Form) → IsWithin f → divided n f ≡ Some g → IsWithin g
divided_within (pos zero) f g h e = absurd (cc e)
divided_within (pos (suc n)) f g h e = of (int_le (pos (suc n)) (pos 0)) e
  where
    of : (b : Bool) → (if b then None else plus_parts (pos (suc n)) (number (quotient f.constant (pos (suc n)))) f.terms) ≡ Some g → IsWithin g
    of true q = absurd (cc q)
    of false q =
        parts_within (pos (suc n)) (number (quotient f.constant (pos (suc n)))) f.terms g
        (number_limited (quotient f.constant (pos (suc n))) (quotient_within f.constant n (within_limits-constant f h))) q
divided_within (negsuc n) f g h e = absurd (cc e)

block_within : (low n : ℤ) (f g : Form) → block_at low n f ≡ Some g → IsWithin g
block_within low n f g e =
    let b = bound (combined (number (difference (pos 0) low)) (pos 1) f) (divided n) g e in
    divided_within n b.value g (combined-means (number (difference (pos 0) low)) (pos 1) f b.value b.is).within b.comes

blocks_within : (low n : ℤ) (before fs bs : List Form) → AllByRecursion IsWithin before → add_blocks low n before fs ≡ Some bs → AllByRecursion IsWithin bs
blocks_within low n before [] bs h e = subst (AllByRecursion IsWithin) (same before bs e) h
blocks_within low n before (f ∷ fs) bs h e =
    let b = bound (block_at low n f) (λ b. add_blocks low n (before ++ b ∷ []) fs) bs e in
    blocks_within low n (before ++ b.value ∷ []) fs bs (all-append IsWithin before (b.value ∷ []) h (block_within low n f b.value b.is, tt)) b.comes

-- ---- turns

turns_within : (n : ℕ) → IsShort n → IsWithinSpan (all_turns n)
turns_within n h = ((number_limited (pos 0) (omega arith), tt), (number_limited (pos n -ℤ pos 1) (omega (arith, ints, h)), tt))

over_within : (low n : ℤ) (s t : Span1) → blocks_over low n s ≡ Some t → IsWithinSpan t
over_within low n s t e =
    let b = bound (add_blocks low n [] s.lower) (λ ls. add_blocks low n [] s.upper >>= λ us. Some (record { lower = ls; upper = us })) t e in
    let c = bound (add_blocks low n [] s.upper) (λ us. Some (record { lower = b.value; upper = us })) t b.comes in
    subst IsWithinSpan (same (record { lower = b.value; upper = c.value }) t c.comes) (blocks_within low n [] s.lower b.value tt b.is, blocks_within low n [] s.upper c.value tt c.is)

module _ (g : StoredText) (region : List Extent) (taken : List Span1) where
  needed_within : (l : Loop) (count : ℕ) → IsShort count → IsWithinSpan (turns_needed g region taken l count)
  needed_within l count short = of (turns_found g region taken l) refl
    where
      of : (o : Option Span1) → turns_found g region taken l ≡ o → IsWithinSpan (or_all_turns count o)
      of None e = turns_within count short
      of (Some s) e =
          let b = bound (length_at g l) (λ n. low_at region l >>= λ low. turns_over taken l.dimension low n) s e in
          let c = bound (low_at region l) (λ low. turns_over taken l.dimension low b.value) s b.comes in
          let d = bound (slice_get taken l.dimension) (λ x. blocks_over c.value b.value x) s c.comes in
          over_within c.value b.value d.value s d.comes

  first_short : (counts : List ℕ) → AllByRecursion IsShort counts → IsShort (first_count counts) × AllByRecursion IsShort (other_counts counts)
  first_short [] h = (omega arith, tt)
  first_short (n ∷ ns) h = h

  all_within : (ls : List Loop) (counts : List ℕ) → AllByRecursion IsShort counts → AllByRecursion IsWithinSpan (loops_needed g region taken ls counts)
  all_within [] counts h = tt
  all_within (l ∷ ls) counts h =
      let few = first_short counts h in
      of (is_parallel l) (all_within ls counts h) (needed_within l (first_count counts) few.0, all_within ls (other_counts counts) few.1)
    where
      of : (b : Bool) → AllByRecursion IsWithinSpan (loops_needed g region taken ls counts) →
          AllByRecursion IsWithinSpan (turns_needed g region taken l (first_count counts) ∷ loops_needed g region taken ls (other_counts counts)) →
          AllByRecursion IsWithinSpan (if b then turns_needed g region taken l (first_count counts) ∷ loops_needed g region taken ls (other_counts counts) else loops_needed g region taken ls counts)
      of true h k = k
      of false h k = h

or_one_within : (ss : List Span1) → AllByRecursion IsWithinSpan ss → AllByRecursion IsWithinSpan (or_one_piece ss)
or_one_within [] h = (((number_limited (pos 0) (omega arith), tt), (number_limited (pos 0) (omega arith), tt)), tt)
or_one_within (s ∷ ss) h = h

pub pieces_within : (g : StoredText) (region : List Extent) (counts : List ℕ) (taken : List Span1) → AllByRecursion IsShort counts → AllByRecursion IsWithinSpan (pieces_needed g region counts taken)
pieces_within g region counts taken short = or_one_within (loops_needed g region taken g.placed.loops counts) (all_within g region taken g.placed.loops counts short)

-- ---- need lines

abbrev IsGood : Need → Type 0
IsGood w = AllByRecursion IsWithinSpan w.region

module _ (a : Algorithm) (sch : Schedule) (l : Lowered) (well : IsAlgorithm a) (legal : IsLegal a sch) (small : has_large (stored_functions a sch) ≡ false)
    (kept : region_fault a (stored_functions a sch) ≡ None) (all : are_whole (stored_functions a sch) ≡ true) (groups : HasGroups a (stored_functions a sch) l) where
  abbrev gs : List StoredText
  gs = stored_functions a sch

  abbrev entries : List Entry
  entries = roots a sch l well legal small kept all groups

  -- the grid of each of the groups
  pub entry_short : (place : ℕ) (e : Entry) → slice_get entries place ≡ Some e → AllByRecursion IsShort e.1.skeleton.grid
  entry_short place e at =
      let entry = entry_at gs (regions_found a sch l well legal small kept all groups) all (all_ready a sch l well legal small kept all groups) place e at in
      let there = group_at gs l.plan.groups.items (each a sch l well legal small kept all groups) place e.0 entry.is in
      let me = made_at a sch l well legal small kept all groups place there.group there.at in
      let stored : me.stored ≡ e.0 = some_same me.stored e.0 (sym me.is ∙ entry.is) in
      let laid : me.laid ≡ e.1 = some_same me.laid e.1 (some_same (Some me.laid) (Some e.1) (sym me.found ∙ entry.laid)) in
      let by : IsLaidBy e.0 e.1.region e.1.skeleton =
      subst (λ (y : LaidText). IsLaidBy e.0 y.region y.skeleton) laid (subst (λ (y : StoredText). IsLaidBy y me.laid.region me.laid.skeleton) stored me.laid_by) in
      grid_few e.0 e.1.region e.1.skeleton by

  module _ (n first line : ℕ) (g : StoredText) (q : CodeGroup) (claims : List CodeClaim) (needs : List Need) (h : HasBody a entries n first line g q claims needs) where
    abbrev listed : List (ℕ × Entry)
    listed = fetched_groups h.formulas n 0 entries

    fetched_good : (d b own_line : ℕ) (ys : List (ℕ × Entry)) (ts : List FetchText) (ws : List Need) (cs : List CodeClaim) →
        AreFetched (sites_of a g h.formulas h.skeleton) (grid_scope h.skeleton.grid) n b own_line ys ts ws cs →
        ((j : ℕ) (x : ℕ × Entry) → slice_get ys j ≡ Some x → slice_get listed (d + j) ≡ Some x) → AllByRecursion IsGood ws
    fetched_good d b own_line [] [] [] [] is there = tt
    fetched_good d b own_line [] [] [] (w ∷ cs) is there = absurd is
    fetched_good d b own_line [] [] (w ∷ ws) cs is there = absurd is
    fetched_good d b own_line [] (f ∷ ts) ws cs is there = absurd is
    fetched_good d b own_line (x ∷ ys) [] ws cs is there = absurd is
    fetched_good d b own_line (x ∷ ys) (f ∷ ts) [] cs is there = absurd is
    fetched_good d b own_line (x ∷ ys) (f ∷ ts) (w ∷ ws) [] is there = absurd is
    fetched_good d b own_line (x ∷ ys) (f ∷ ts) (w ∷ ws) (v ∷ cs) is there =
        let other = other_at h.formulas n 0 entries (d + 0) x (there 0 x refl) in
        let short = entry_short other.place x.1 other.at in (
          subst (AllByRecursion IsWithinSpan) (sym is.0.pieces) (pieces_within x.1.0 x.1.1.region x.1.1.skeleton.grid f.region short),
          fetched_good (d + 1) (b + 1) (own_line + 2) ys ts ws cs is.2
              (λ j y e. let next : d + suc j ≡ (d + 1) + j = omega arith in ap (slice_get listed) (sym next) ∙ there (suc j) y e),
        )

    body_good : AllByRecursion IsGood needs
    body_good =
        let b = h.body in
        fetched_good 0 1 (line + first_lines h.skeleton) listed b.fetches needs b.fetched b.fetching (λ j x e. let none : 0 + j ≡ j = omega arith in ap (slice_get listed) none ∙ e)

  bodies_good : (n c line : ℕ) (hs : List StoredText) (qs : List CodeGroup) (claims : List CodeClaim) (needs : List Need) →
      HaveBodies a entries n c line hs qs claims needs → AllByRecursion IsGood needs
  bodies_good n c line [] [] claims needs h = subst (AllByRecursion IsGood) (sym h.1) tt
  bodies_good n c line [] (p ∷ qs) claims needs h = absurd h
  bodies_good n c line (g ∷ hs) [] claims needs h = absurd h
  bodies_good n c line (g ∷ hs) (p ∷ qs) claims needs h =
      let one = body_good n c line g p h.own_claims h.own_needs h.here in
      let rest = bodies_good (n + 1) (c + length h.own_claims) (line_behind line p) hs qs h.other_claims h.other_needs h.behind in
      subst (AllByRecursion IsGood) (sym h.needed) (all-append IsGood h.own_needs h.other_needs one rest)

  pub needs_good : AllByRecursion IsGood l.certificate.needs.items
  needs_good = bodies_good 0 0 4 gs l.plan.groups.items l.certificate.claims.items l.certificate.needs.items (groups.bodies all)
