-- What need lines say has a text: canonical forms, one to four of each.
use Rattle.std.proofs.Common.{◌≡◌, ℕ, ◌<◌, ◌≤◌, Bool, true, false, List, [], ◌∷◌, ◌++◌, Option, Some, None, refl, subst, arith}
use Rattle.std.specs.Prelude.{ℤ, pos, int_le, if◌then◌else◌, slice_get}
use Rattle.std.specs.List.{AllByRecursion}
use Rattle.numeric.specs.Apply.{quotient}
use Rattle.lin.specs.Forms.{Form, number, combined, is_within_limits}
use Rattle.lin.specs.declared.form.Multiple.{Multiple}
use Rattle.lin.specs.declared.span.Span1.{Span1}
use Rattle.lin.proofs.TermLemmas.{all_weaker}
use Rattle.bounds.proofs.ListSound.{all-append}
use Rattle.spelling.specs.Words.Fitting.{fits_region}
use Rattle.headline.proofs.Members.{got}
use Rattle.sched.specs.declared.placing.Loop.{Loop}
use Rattle.sched.specs.declared.numbers.Extent.{Extent}
use Rattle.sched.specs.Placing.{is_parallel}
use Rattle.sched.specs.Standing.{◌>>=◌, alone}
use Rattle.sched.specs.Stored.{StoredText}
use Rattle.sched.specs.Blocks.{difference}
use Rattle.regions.specs.Needs.{is_multiple, plus_part, plus_parts, divided, block_at, add_blocks, blocks_over, length_at, low_at, turns_over}
use Rattle.regions.specs.Needs.{turns_found, turns_needed, or_all_turns, loops_needed, first_count, other_counts, or_one_piece, pieces_needed}
use Rattle.blocks.proofs.Laying.{bound, same}
use Rattle.completeness.specs.Owed.{IsWithinSpan}
use Rattle.completeness.proofs.FetchTexts.{span_below}
use Rattle.completeness.proofs.GridCounts.{IsShort}
use Rattle.completeness.proofs.NeedEnds.{as_many}
use Rattle.completeness.proofs.NeedForms.{pieces_within}
use Rattle.completeness.proofs.Only.{SpanOnly}
use Rattle.completeness.proofs.Rising.{Rises, AllRise, combined_rises}
use Rattle.completeness.proofs.RisingSpans.{IsTextSpan}
use Rattle.completeness.proofs.Sited.{pieces_only}
use Rattle.completeness.proofs.TextForms.{AreOver, region_fits}

-- ---- blocks

parts_rise : (n : ℤ) (f : Form) (ts : List Multiple) (g : Form) → Rises f → plus_parts n f ts ≡ Some g → Rises g
parts_rise n f [] g h e = subst Rises (same f g e) h
parts_rise n f (t ∷ ts) g h e = of (is_multiple n t) e (λ u k q. parts_rise n u ts g k q)
  where
    of : (b : Bool) → (if b then (plus_part n f t >>= λ u. plus_parts n u ts) else None) ≡ Some g → ((u : Form) → Rises u → plus_parts n u ts ≡ Some g → Rises g) → Rises g
    of true q rest =
        let b = bound (plus_part n f t) (λ u. plus_parts n u ts) g q in
        rest b.value (combined_rises f (quotient t.factor n) (alone t.symbol) h b.value b.is) b.comes
    of false q rest = absurd (cc q)

divided_rises : (n : ℤ) (f g : Form) → divided n f ≡ Some g → Rises g
divided_rises n f g e = of (int_le n (pos 0)) e
  where
    of : (b : Bool) → (if b then None else plus_parts n (number (quotient f.constant n)) f.terms) ≡ Some g → Rises g
    of true q = absurd (cc q)
    of false q = parts_rise n (number (quotient f.constant n)) f.terms g tt q

block_rises : (low n : ℤ) (f g : Form) → block_at low n f ≡ Some g → Rises g
block_rises low n f g e = (let b = bound (combined (number (difference (pos 0) low)) (pos 1) f) (divided n) g e in divided_rises n b.value g b.comes)

blocks_rise : (low n : ℤ) (before fs bs : List Form) → AllRise before → add_blocks low n before fs ≡ Some bs → AllRise bs
blocks_rise low n before [] bs h e = subst AllRise (same before bs e) h
blocks_rise low n before (f ∷ fs) bs h e =
    let b = bound (block_at low n f) (λ b. add_blocks low n (before ++ b ∷ []) fs) bs e in
    blocks_rise low n (before ++ b.value ∷ []) fs bs (all-append Rises before (b.value ∷ []) h (block_rises low n f b.value b.is, tt)) b.comes

over_text : (low n : ℤ) (t s : Span1) → IsTextSpan t → blocks_over low n t ≡ Some s → IsTextSpan s
over_text low n t s h e =
    let b = bound (add_blocks low n [] t.lower) (λ ls. add_blocks low n [] t.upper >>= λ us. Some (record { lower = ls; upper = us })) s e in
    let c = bound (add_blocks low n [] t.upper) (λ us. Some (record { lower = b.value; upper = us })) s b.comes in
    let lower = as_many low n [] t.lower b.value b.is in
    let upper = as_many low n [] t.upper c.value c.is in
    let lower_some = h.lower_some in
    let lower_few = h.lower_few in
    let upper_some = h.upper_some in
    let upper_few = h.upper_few in
    subst IsTextSpan (same (record { lower = b.value; upper = c.value }) s c.comes) (record {
      rises = (blocks_rise low n [] t.lower b.value tt b.is, blocks_rise low n [] t.upper c.value tt c.is);
      lower_some = omega (arith, lower, lower_some);
      lower_few = omega (arith, lower, lower_few);
      upper_some = omega (arith, upper, upper_some);
      upper_few = omega (arith, upper, upper_few);
    })

-- ---- pieces

number_text : (low last : ℤ) → IsTextSpan (record { lower = number low ∷ []; upper = number last ∷ [] })
number_text low last = record { rises = ((tt, tt), (tt, tt)); lower_some = omega arith; lower_few = omega arith; upper_some = omega arith; upper_few = omega arith }

module _ (g : StoredText) (region : List Extent) (taken : List Span1) (texts : AllByRecursion IsTextSpan taken) where
  turn_text : (l : Loop) (count : ℕ) → IsTextSpan (turns_needed g region taken l count)
  turn_text l count = of (turns_found g region taken l) refl
    where
      of : (o : Option Span1) → turns_found g region taken l ≡ o → IsTextSpan (or_all_turns count o)
      of None e = number_text _ _
      of (Some s) e =
          let b = bound (length_at g l) (λ n. low_at region l >>= λ low. turns_over taken l.dimension low n) s e in
          let c = bound (low_at region l) (λ low. turns_over taken l.dimension low b.value) s b.comes in
          let d = bound (slice_get taken l.dimension) (λ t. blocks_over c.value b.value t) s c.comes in
          over_text c.value b.value d.value s (got IsTextSpan taken l.dimension d.value texts d.is) d.comes

  loops_text : (ls : List Loop) (counts : List ℕ) → AllByRecursion IsTextSpan (loops_needed g region taken ls counts)
  loops_text [] counts = tt
  loops_text (l ∷ ls) counts = of (is_parallel l) (loops_text ls (other_counts counts)) (loops_text ls counts)
    where
      of : (b : Bool) → AllByRecursion IsTextSpan (loops_needed g region taken ls (other_counts counts)) → AllByRecursion IsTextSpan (loops_needed g region taken ls counts) →
          AllByRecursion IsTextSpan (if b then turns_needed g region taken l (first_count counts) ∷ loops_needed g region taken ls (other_counts counts) else loops_needed g region taken ls counts)
      of true h k = (turn_text l (first_count counts), h)
      of false h k = k

  pieces_text : (counts : List ℕ) → AllByRecursion IsTextSpan (pieces_needed g region counts taken)
  pieces_text counts = of (loops_needed g region taken g.placed.loops counts) (loops_text g.placed.loops counts)
    where
      of : (o : List Span1) → AllByRecursion IsTextSpan o → AllByRecursion IsTextSpan (or_one_piece o)
      of [] h = (number_text (pos 0) (pos 0), tt)
      of (s ∷ ss) h = h

  -- the pieces that own what is taken, where that names few symbols
  pub needs_fit : (m : ℕ) → m ≤ 1000 → AllByRecursion (SpanOnly (λ s. s < m)) taken → (counts : List ℕ) → AllByRecursion IsShort counts →
      fits_region (pieces_needed g region counts taken) ≡ true
  needs_fit m le only counts short =
      let pieces = pieces_needed g region counts taken in
      let over = all_weaker (SpanOnly (λ s. s < m)) (λ s. AreOver s.lower × AreOver s.upper) (span_below m le) pieces (pieces_only (λ s. s < m) g region taken only counts) in
      let limits = all_weaker IsWithinSpan (λ (s : Span1). AllByRecursion (λ f. is_within_limits f ≡ true) s.lower × AllByRecursion (λ f. is_within_limits f ≡ true) s.upper) (λ s k. k) pieces
      (pieces_within g region counts taken short) in
      region_fits pieces (pieces_text counts) limits over
