-- A need line has a form on each side in each dimension.
use Rattle.std.proofs.Common.{◌≡◌, ℕ, zero, suc, ◌+◌, Bool, true, false, List, [], ◌∷◌, ◌++◌, length, Option, Some, None, refl, sym, ap, subst, arith}
use Rattle.std.specs.Prelude.{ℤ, if◌then◌else◌, slice_get}
use Rattle.std.proofs.lemmas.List.{length-append}
use Rattle.std.proofs.lemmas.Option.{slice_get_within}
use Rattle.lin.specs.Forms.{Form, number}
use Rattle.lin.specs.declared.span.Span1.{Span1}
use Rattle.sched.specs.declared.placing.Loop.{Loop}
use Rattle.sched.specs.declared.numbers.Extent.{Extent}
use Rattle.sched.specs.Placing.{is_parallel}
use Rattle.sched.specs.Standing.{◌>>=◌}
use Rattle.headline.specs.Numbers.{HasEnds, HaveEnds}
use Rattle.sched.specs.Stored.{StoredText}
use Rattle.regions.specs.Needs.{block_at, add_blocks, blocks_over, length_at, low_at, turns_over}
use Rattle.regions.specs.Needs.{turns_found, turns_needed, or_all_turns, loops_needed, first_count, other_counts, or_one_piece}
use Rattle.regions.specs.Needs.{pieces_needed}
use Rattle.blocks.proofs.Laying.{bound, same}
use Rattle.lower.proofs.Gridded.{IsBetween, AreBetween}

module _ (low n : ℤ) where
  pub as_many : (before fs bs : List Form) → add_blocks low n before fs ≡ Some bs → length bs ≡ length before + length fs
  as_many before [] bs e = (let one = ap length (sym (same before bs e)) in omega (arith, one))
  as_many before (f ∷ fs) bs e =
      let b = bound (block_at low n f) (λ b. add_blocks low n (before ++ b ∷ []) fs) bs e in
      let rest = as_many (before ++ b.value ∷ []) fs bs b.comes in
      let long = length-append before (b.value ∷ []) in
      omega (arith, rest, long)

  over_ends : (e : Extent) (t s : Span1) → IsBetween e t → blocks_over low n t ≡ Some s → HasEnds s
  over_ends e t s between over =
      let b = bound (add_blocks low n [] t.lower) (λ ls. add_blocks low n [] t.upper >>= λ us. Some (record { lower = ls; upper = us })) s over in
      let c = bound (add_blocks low n [] t.upper) (λ us. Some (record { lower = b.value; upper = us })) s b.comes in
      let lower = as_many [] t.lower b.value b.is in
      let upper = as_many [] t.upper c.value c.is in
      let some_lower = slice_get_within t.lower between.from.place (number between.low) between.from.at in
      let some_upper = slice_get_within t.upper between.to.place (number between.high) between.to.at in
      subst HasEnds (same (record { lower = b.value; upper = c.value }) s c.comes) (record { lower = omega (arith, lower, some_lower); upper = omega (arith, upper, some_upper) })

between_at : (es : List Extent) (ts : List Span1) → AreBetween es ts → (d : ℕ) (t : Span1) → slice_get ts d ≡ Some t → (e : Extent) × IsBetween e t
between_at [] [] h d t q = absurd (cc q)
between_at [] (u ∷ ts) h d t q = absurd h
between_at (e ∷ es) [] h d t q = absurd h
between_at (e ∷ es) (u ∷ ts) h zero t q = let one : u ≡ t = cc q in (e, subst (IsBetween e) one h.0)
between_at (e ∷ es) (u ∷ ts) h (suc d) t q = between_at es ts h.1 d t q

module _ (g : StoredText) (region : List Extent) (taken : List Span1) (between : AreBetween region taken) where
  turn_ends : (l : Loop) (count : ℕ) → HasEnds (turns_needed g region taken l count)
  turn_ends l count = of (turns_found g region taken l) refl
    where
      of : (o : Option Span1) → turns_found g region taken l ≡ o → HasEnds (or_all_turns count o)
      of None e = record { lower = omega arith; upper = omega arith }
      of (Some s) e =
          let b = bound (length_at g l) (λ n. low_at region l >>= λ low. turns_over taken l.dimension low n) s e in
          let c = bound (low_at region l) (λ low. turns_over taken l.dimension low b.value) s b.comes in
          let d = bound (slice_get taken l.dimension) (λ t. blocks_over c.value b.value t) s c.comes in
          let w = between_at region taken between l.dimension d.value d.is in
          over_ends c.value b.value w.0 d.value s w.1 d.comes

  loops_end : (ls : List Loop) (counts : List ℕ) → HaveEnds (loops_needed g region taken ls counts)
  loops_end [] counts = tt
  loops_end (l ∷ ls) counts = of (is_parallel l) (loops_end ls (other_counts counts)) (loops_end ls counts)
    where
      of : (b : Bool) → HaveEnds (loops_needed g region taken ls (other_counts counts)) → HaveEnds (loops_needed g region taken ls counts) →
          HaveEnds (if b then turns_needed g region taken l (first_count counts) ∷ loops_needed g region taken ls (other_counts counts) else loops_needed g region taken ls counts)
      of true h k = (turn_ends l (first_count counts), h)
      of false h k = k

  pub needs_end : (counts : List ℕ) → HaveEnds (pieces_needed g region counts taken)
  needs_end counts = of (loops_needed g region taken g.placed.loops counts) (loops_end g.placed.loops counts)
    where
      of : (o : List Span1) → HaveEnds o → HaveEnds (or_one_piece o)
      of [] h = (record { lower = omega arith; upper = omega arith }, tt)
      of (s ∷ ss) h = h
