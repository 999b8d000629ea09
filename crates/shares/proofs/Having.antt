-- Where a fault is told, the pieces have no shares.
use Rattle.std.proofs.Common.{◌≡◌, ℕ, zero, suc, ◌+◌, ◌<◌, ◌≤◌, List, [], ◌∷◌, length, map, arith, refl, Option, Some, None, inl, inr, length-append}
use Rattle.std.specs.Prelude.{MatchOption, slice_get}
use Rattle.std.proofs.lemmas.List.{length-map}
use Rattle.numeric.specs.declared.ty.Ty.TheVariants.{U8}
use Rattle.meaning.specs.Algorithm.{Algorithm}
use Rattle.plan.specs.Plan.{Group, Plan}
use Rattle.plan.specs.Certificate.Certificate.{Certificate}
use Rattle.plan.specs.Certificate.Cells.{Piece, cell, cells, pieces, first_cell, cells_from, group_points}
use Rattle.orders.specs.Work.{HasSoundLists}
use Rattle.soundness.specs.declared.outline.refusals.code.K.{K}
use Rattle.soundness.specs.declared.outline.refusals.code.K.TheVariants.{K1, K2, K3, K4, K5, K6, K7, K8, K9, K10, K11, K12, K13, K14}
use Rattle.shares.specs.Layout.{own_list, fetched_list, needs_list}
use Rattle.shares.specs.Has.{HasShares, IsServed}
use Rattle.shares.specs.Made.{CodeMeans}
use Rattle.shares.specs.Laws.{FaultsHaveNoShares, WrongFetchesHaveNoShares}
use Rattle.shares.proofs.Groups.{get_within}
use Rattle.shares.specs.FetchLines.{FetchLine, LineIsNear, plan_fetch_lines}
use Rattle.shares.proofs.Groups.{all_at_place}
use Rattle.shares.proofs.Totals.{fetched_past, past_many}
use Rattle.shares.proofs.Prefixes.{needed_past}

-- any algorithm, since the lists of pieces don't depend on it
nothing : Algorithm
nothing = record { name = []; input = []; input_ty = U8; input_extents = []; functions = []; output = []; output_extents = [] }

piece_below : (p : Plan) (n piece : ℕ) (o : Option Piece) → slice_get (pieces p) piece ≡ o → MatchOption o ⊥ (λ j. j.group ≡ n) → piece < length (pieces p)
piece_below p n piece None e h = absurd h
piece_below p n piece (Some j) e h = get_within (pieces p) piece j e

pub cells_within : (k : ℕ) (gs : List Group) (n : ℕ) → first_cell gs n ≤ length (cells_from k gs)
cells_within k [] n = omega arith
cells_within k (g ∷ gs) zero = omega arith
cells_within k (g ∷ gs) (suc n) =
    let h = cells_within (k + 1) gs n in
    let long = length-append (map (cell k) (group_points g)) (cells_from (k + 1) gs) in
    let row = length-map (group_points g) (cell k) in
    omega (arith, h, long, row)

module _ (p : Plan) (c : Certificate) (has : HasShares p c) where
  abbrev Lists : Type 0
  Lists = HasSoundLists (length (pieces p)) (length (cells p)) (own_list p c) (fetched_list p) (needs_list p c)

  sound : Lists
  sound = has.lists nothing []

  pub served : (n : ℕ) → n < length (pieces p) → IsServed p c n
  served n less = record {
    cells = has.cells n;
    pieces = has.pieces n;
    earlier = λ k m. sound.earlier n k less m;
    owned = λ x m. sound.needed n x less m;
  }

  pub no_code : (n : ℕ) (k : K) → CodeMeans p c n k → ⊥
  no_code n K1 h = h
  no_code n K2 h = h
  no_code n K3 h = h
  no_code n K4 h = h
  no_code n K5 h = h
  no_code n K6 h = h
  no_code n K7 h = h
  no_code n K8 h = h
  no_code n K9 h =
      let less = piece_below p n h.0 (slice_get (pieces p) h.0) refl h.1 in
      h.2 (λ j a b within at_a at_b same. sound.apart h.0 j a b less within at_a at_b same)
  no_code n K10 h = elim h [
    | inl leaves ↦ leaves.2 (has.inside leaves.0)
    | inr gap ↦
        let most = cells_within 0 p.groups (n + 1) in
        let below = gap.2 in
        let owner = sound.whole gap.0 (omega (arith, most, below)) in
        gap.3 owner.0 owner.1 owner.2
  ]
  no_code n K11 h = h.2 (served h.0 (piece_below p n h.0 (slice_get (pieces p) h.0) refl h.1))
  no_code n K12 h = h
  no_code n K13 h = h
  no_code n K14 h = h

not_near : (p : Plan) (c : Certificate) → HasShares p c → (place : ℕ) (x : FetchLine) → slice_get (plan_fetch_lines p) place ≡ Some x → ¬ LineIsNear (pieces p) x → ⊥
not_near p c has place x at far = far (all_at_place (LineIsNear (pieces p)) (plan_fetch_lines p) place x at has.near)

pub none_shared : FaultsHaveNoShares
none_shared p c f told has = elim told [
  | inl means ↦ elim means.0 [
    | inl code ↦ no_code p c has code.0 f.code code.1
    | inr past ↦ elim past.1 [ inl line ↦ fetched_past p c line.0 line.1 has.few | inr line ↦ needed_past p c line.0 line.1 has.few ]
  ]
  | inr refused ↦ elim refused.1 [
    | inl far ↦ not_near p c has far.1.place far.0 far.1.stands far.1.far
    | inr past ↦ fetched_past p c past.0 past.1 has.few
  ]
]

-- so it is of a fetch line, whatever stands behind it
pub none_fetching : WrongFetchesHaveNoShares
none_fetching p c line wrong has = elim wrong [
  | inl far ↦ not_near p c has far.1.place far.0 far.1.stands far.1.far
  | inr past ↦ past_many p c past.0 past.1 has.few
]
