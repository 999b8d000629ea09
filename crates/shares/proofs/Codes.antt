-- The lowest code at a group's own line.
use Rattle.std.proofs.Common.{◌≡◌, ℕ, ◌+◌, ◌-◌, ◌^◌, ◌<◌, ◌≤◌, List, length, min, get_or, arith, ap, refl, sym, ◌∙◌, subst, Option, Some, None, inl, inr}
use Rattle.std.specs.Prelude.{◌⊎◌, MatchOption, slice_get}
use Rattle.plan.specs.Plan.{Plan}
use Rattle.plan.specs.Certificate.Certificate.{Certificate}
use Rattle.plan.specs.Certificate.Cells.{first_cell, pieces}
use Rattle.orders.specs.Claimed.{IsClaimedBy}
use Rattle.soundness.specs.Outline.Refusals.Codes.{number_of}
use Rattle.soundness.specs.declared.outline.refusals.code.K.{K}
use Rattle.soundness.specs.declared.outline.refusals.code.K.TheVariants.{K1, K2, K3, K4, K5, K6, K7, K8, K9, K10, K11, K12, K13, K14}
use Rattle.shares.specs.Made.{HasGap, IsUnserved, Leaves, Overlaps, OwnCode, need_place}
use Rattle.shares.specs.Owned.{GroupIsInside, IsLowestCode, own_in}
use Rattle.shares.specs.Shared.{AreShared}
use Rattle.plan.specs.View.{plan_of, group_of}
use Rattle.plan.specs.Certificate.Certificate.{certificate_of}
use Rattle.shares.specs.declared.boxes.Side.{Side}
use Rattle.shares.specs.declared.grounds.Ground.{Ground}
use Rattle.shares.specs.declared.layout.Layout.{Layout}
use Rattle.shares.specs.Boxes.{point_count}
use Rattle.shares.specs.Layout.{IsLayout}
use Rattle.shares.proofs.Groups.{group_below, get_some, cells_next}
use Rattle.shares.proofs.Known.{cells_counted}
use Rattle.shares.proofs.Firsts.{from_nine}
use Rattle.shares.proofs.Owning.{all_apart, ends_of, piece_below}

module _ (p : Plan) (c : Certificate) (n : ℕ) where
  pub lowest_nine : Overlaps p c n → IsLowestCode p c n (Some K9)
  lowest_nine h = (h, λ k code. from_nine p c n k code)

  -- without an overlap no code is below 10
  from_ten : ¬ Overlaps p c n → (k : K) → OwnCode p c n k → 10 ≤ number_of k
  from_ten none K1 h = absurd h
  from_ten none K2 h = absurd h
  from_ten none K3 h = absurd h
  from_ten none K4 h = absurd h
  from_ten none K5 h = absurd h
  from_ten none K6 h = absurd h
  from_ten none K7 h = absurd h
  from_ten none K8 h = absurd h
  from_ten none K9 h = absurd (none h)
  from_ten none K10 h = omega arith
  from_ten none K11 h = omega arith
  from_ten none K12 h = absurd h
  from_ten none K13 h = absurd h
  from_ten none K14 h = absurd h

  pub lowest_ten : ¬ Overlaps p c n → Leaves p c n ⊎ HasGap p c n → IsLowestCode p c n (Some K10)
  lowest_ten none h = (h, from_ten none)

  -- all that is left is K11 of a group that needs no pieces
  module _ (apart : ¬ Overlaps p c n) (inside : ¬ Leaves p c n) (whole : ¬ HasGap p c n) where
    alone_left : (k : K) → OwnCode p c n k → (k ≡ K11) × (need_place c.needs n ≡ None) × IsUnserved p c n
    alone_left K1 h = absurd h
    alone_left K2 h = absurd h
    alone_left K3 h = absurd h
    alone_left K4 h = absurd h
    alone_left K5 h = absurd h
    alone_left K6 h = absurd h
    alone_left K7 h = absurd h
    alone_left K8 h = absurd h
    alone_left K9 h = absurd (apart h)
    alone_left K10 h = elim h [ inl leaves ↦ absurd (inside leaves) | inr gap ↦ absurd (whole gap) ]
    alone_left K11 h = (refl, h.0, h.1)
    alone_left K12 h = absurd h
    alone_left K13 h = absurd h
    alone_left K14 h = absurd h

    pub lowest_none : (i : ℕ) → need_place c.needs n ≡ Some i → IsLowestCode p c n None
    lowest_none i some k h = let left = alone_left k h in let e : None ≡ Some i = sym left.1 ∙ some in cc e

    pub lowest_alone : need_place c.needs n ≡ None → (code : Option K) → MatchOption code (¬ IsUnserved p c n) (λ k. (k ≡ K11) × IsUnserved p c n) → IsLowestCode p c n code
    lowest_alone alone None served = λ k h. served (alone_left k h).2
    lowest_alone alone (Some k) told = (
      subst (OwnCode p c n) (sym told.0) (alone, told.1),
      λ h code. let e = ap number_of told.0 in let f = ap number_of (alone_left h code).0 in omega (arith, e, f),
    )

pub none_overlaps : (p : Plan) (c : Certificate) → AreShared p c → (n : ℕ) (owners : List (Option ℕ)) → IsClaimedBy (own_in p c n) owners (length (pieces p)) → ¬ Overlaps p c n
none_overlaps p c shared n owners claimed h = h.2 (all_apart p c (ends_of p c shared) n owners claimed h.0 (piece_below p n h.0 h.1) h.1)

pub none_leaves : (p : Plan) (c : Certificate) (n : ℕ) → GroupIsInside p c n → ¬ Leaves p c n
none_leaves p c n inside h = h.2 (inside h.0 h.1)

-- a group's cells in the table
pub record HasRow (p : Plan) (n first most : ℕ) : Type 0 where
  pub from : first ≡ first_cell p.groups n
  pub to : first + most ≡ first_cell p.groups (n + 1)
  pub few : first + most ≤ 2 ^ 24

pub row_of : (x : Layout) (ready : IsLayout x) (n : ℕ) (d : Ground) → n < length x.grounds.items → d ≡ get_or x.grounds.items n d → (now : List Side) (most : ℕ) → now ≡ d.cells.sides.items → most ≡ min (point_count now) (2 ^ 64 - 1) →
    HasRow (plan_of x.plan.now) n d.cells.first most
row_of x ready n d here is now most sides m =
    let p : Plan = plan_of x.plan.now in
    let cert : Certificate = certificate_of x.cert.now in
    let all = ready.grounds.count in
    let less : n < length x.plan.now.groups.items = omega (arith, here, all) in
    let made = group_below x.plan.now.groups.items n less in
    let this = get_some x.grounds.items n d here ∙ ap (λ (y : Ground). Some y) (sym is) in
    let ground = ready.grounds.each n (group_of made.0) d made.1 this in
    let counted = cells_counted p cert n (group_of made.0) d ground now most sides m in
    let first = ground.first_cell in
    let next = cells_next p.groups n (group_of made.0) made.1 in
    record { from = first; to = omega (arith, counted.0, first, next); few = omega (arith, counted.1, first) }
