-- What is wrong at the own line of a group, by two certificates that say the same own region of it.
use Rattle.std.proofs.Common.{◌≡◌, ℕ, ◌+◌, ◌<◌, ◌≤◌, List, [], length, map, get_or, arith, ap, refl, sym, ◌∙◌, subst, Option, Some, None, inl, inr}
use Rattle.std.specs.Prelude.{All, IsTrue, Contains, MatchOption, slice_get, ◌⊎◌}
use Rattle.std.proofs.lemmas.List.Elements.{Contains-get_or}
use Rattle.std.proofs.lemmas.Bool.{cases_lt}
use Rattle.lin.specs.declared.span.Span1.{Span1}
use Rattle.plan.specs.Plan.{Group, Plan}
use Rattle.plan.specs.Certificate.Certificate.{Certificate}
use Rattle.plan.specs.Certificate.Cells.{Piece, Cell, cell, pieces, points_within, grid_symbols, own_region}
use Rattle.headline.specs.Numbers.{GroupsHaveEnds, cell_number, has_point}
use Rattle.headline.specs.Work.{of_piece, own_cells, group_own}
use Rattle.soundness.specs.declared.outline.refusals.code.K.{K}
use Rattle.soundness.specs.declared.outline.refusals.code.K.TheVariants.{K1, K2, K3, K4, K5, K6, K7, K8, K9, K10, K11, K12, K13, K14}
use Rattle.shares.specs.Faults.{IsApart}
use Rattle.shares.specs.Has.{IsServed}
use Rattle.shares.specs.Layout.{own_list, fetched_list, OwnIsInside, PieceIsInside, region_points}
use Rattle.shares.specs.Made.{HasGap, IsPieceOf, IsUnserved, Leaves, OwnCode, Overlaps, need_place}
use Rattle.shares.proofs.Alone.{served_alone, unserved_alone}
use Rattle.shares.proofs.Owning.{IsOf, cell_group, group_same, is_or_not, own_cell, piece_at}

module _ (p : Plan) (c d : Certificate) (ends : GroupsHaveEnds p) (n : ℕ) (same : own_region d.own n ≡ own_region c.own n) where
  region_same : (j : Piece) → j.group ≡ n → own_region d.own j.group ≡ own_region c.own j.group
  region_same j e = ap (own_region d.own) e ∙ same ∙ sym (ap (own_region c.own) e)

  cells_same : (j : Piece) → j.group ≡ n → (o : Option Group) → group_own o d j ≡ group_own o c j
  cells_same j e None = refl
  cells_same j e (Some g) = ap (λ (r : Option (List Span1)). map (cell j.group) (points_within g r (grid_symbols j.at))) (region_same j e)

  listed : (o : Option Piece) → MatchOption o ⊥ (λ j. j.group ≡ n) → of_piece o [] (λ j. map (cell_number p) (own_cells p d j)) ≡ of_piece o [] (λ j. map (cell_number p) (own_cells p c j))
  listed None h = absurd h
  listed (Some j) h = ap (map (cell_number p)) (cells_same j h (slice_get p.groups j.group))

  list_same : (i : ℕ) → IsPieceOf p n i → own_list p d i ≡ own_list p c i
  list_same i is = listed (slice_get (pieces p) i) is

  inside_by : (o : Option Piece) → MatchOption o ⊥ (λ j. j.group ≡ n) → PieceIsInside p c o → PieceIsInside p d o
  inside_by None h inside = inside
  inside_by (Some j) h inside =
      subst (λ (r : Option (List Span1)). All (λ q. IsTrue (has_point (slice_get p.groups j.group) q)) (region_points r j)) (sym (region_same j h)) inside

  leaves_on : Leaves p d n → Leaves p c n
  leaves_on h = (h.0, h.1, λ inside. h.2 (inside_by (slice_get (pieces p) h.0) h.1 inside))

  -- an own cell of a piece of another group is no own cell of one of this group
  others_apart : (i j x : ℕ) → j < length (pieces p) → IsPieceOf p n i → ¬ IsPieceOf p n j → Contains (own_list p d i) x → Contains (own_list p d j) x → ⊥
  others_apart i j x less is other mine theirs =
      let at = piece_at p j less in
      let e = group_same p d ends n at.0 x (own_cell p d ends n i x is mine) (own_cell p d ends at.0 j x at.1 theirs) in
      other (subst (λ (m : ℕ). IsPieceOf p m j) (sym e) at.1)

  apart_on : (i : ℕ) → IsPieceOf p n i → IsApart p c i → IsApart p d i
  apart_on i is apart j a b less a_in b_in equal = elim (is_or_not p n j) [
    | inl this ↦
        let one = list_same i is in
        let two = list_same j this in
        let at_a : a < length (own_list p c i) = (let e = ap length one in omega (arith, e, a_in)) in
        let at_b : b < length (own_list p c j) = (let e = ap length two in omega (arith, e, b_in)) in
        apart j a b less at_a at_b (ap (λ (xs : List ℕ). get_or xs a 0) (sym one) ∙ equal ∙ ap (λ (xs : List ℕ). get_or xs b 0) two)
    | inr other ↦
        absurd (others_apart i j (get_or (own_list p d i) a 0) less is other (Contains-get_or (own_list p d i) a 0 a_in)
        (subst (Contains (own_list p d j)) (sym equal) (Contains-get_or (own_list p d j) b 0 b_in)))
  ]

  overlaps_on : Overlaps p d n → Overlaps p c n
  overlaps_on h = (h.0, h.1, λ apart. h.2 (apart_on h.0 h.1 apart))

  gap_on : HasGap p d n → HasGap p c n
  gap_on h = (
    h.0,
    h.1,
    h.2,
    λ k less has. elim (is_or_not p n k) [
      | inl this ↦ h.3 k less (subst (λ (xs : List ℕ). Contains xs h.0) (sym (list_same k this)) has)
      | inr other ↦
          let at = piece_at p k less in
          let found : IsOf p c ends at.0 h.0 = own_cell p c ends at.0 k h.0 at.1 has in
          let e : at.0 ≡ n = sym found.2 ∙ cell_group p c ends n h.0 found.0 h.1 h.2 found.1 in
          other (subst (λ (m : ℕ). IsPieceOf p m k) e at.1)
    ],
  )

  module _ (alone : need_place d.needs n ≡ need_place c.needs n) where
    none_fetched : (i : ℕ) → need_place c.needs n ≡ None → IsPieceOf p n i → IsServed p c i → length (fetched_list p i) ≡ 0
    none_fetched i none is served = elim (cases_lt 0 (length (fetched_list p i))) [
      | inl some ↦ absurd (unserved_alone p c n none i is some served)
      | inr most ↦ omega (arith, most)
    ]

    unserved_on : need_place d.needs n ≡ None → IsUnserved p d n → IsUnserved p c n
    unserved_on none h = (
      h.0,
      h.1,
      λ served. h.2 (served_alone p d n none h.0 h.1 served.cells (none_fetched h.0 (sym alone ∙ none) h.1 served)),
    )

    -- what is wrong by the one is wrong by the other
    pub code_on : (k : K) → OwnCode p d n k → OwnCode p c n k
    code_on K1 h = absurd h
    code_on K2 h = absurd h
    code_on K3 h = absurd h
    code_on K4 h = absurd h
    code_on K5 h = absurd h
    code_on K6 h = absurd h
    code_on K7 h = absurd h
    code_on K8 h = absurd h
    code_on K9 h = overlaps_on h
    code_on K10 h = elim h [ inl leaves ↦ inl (leaves_on leaves) | inr gap ↦ inr (gap_on gap) ]
    code_on K11 h = (sym alone ∙ h.0, unserved_on h.0 h.1)
    code_on K12 h = absurd h
    code_on K13 h = absurd h
    code_on K14 h = absurd h
