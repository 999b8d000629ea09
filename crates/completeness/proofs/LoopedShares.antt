-- Of the shares of a plan whose pieces part its cells, only what they fetch and limits are told.
use Rattle.std.proofs.Common.{◌≡◌, ℕ, ◌+◌, refl, inl, inr, ◌⊎◌, arith}
use Rattle.std.specs.Prelude.{slice_get}
use Rattle.plan.specs.Plan.{Plan}
use Rattle.plan.specs.Certificate.Certificate.{Certificate}
use Rattle.plan.specs.Certificate.Cells.{pieces}
use Rattle.soundness.specs.declared.outline.refusals.code.K.{K}
use Rattle.soundness.specs.declared.outline.refusals.code.K.TheVariants.{K1, K2, K3, K4, K5, K6, K7, K8, K9, K10, K11, K12, K13, K14}
use Rattle.shares.specs.Made.{CodeMeans}
use Rattle.shares.proofs.Having.{cells_within}
use Rattle.completeness.specs.Parted.{ArePartedCells}
use Rattle.completeness.specs.Looped.{FetchesAndLimitsAreTold}
use Rattle.completeness.proofs.Shared.{piece_below}

module _ (p : Plan) (c : Certificate) (h : ArePartedCells p c) where
  code_is : (n : ℕ) (k : K) → CodeMeans p c n k → (k ≡ K11) ⊎ (k ≡ K14)
  code_is n K1 m = absurd m
  code_is n K2 m = absurd m
  code_is n K3 m = absurd m
  code_is n K4 m = absurd m
  code_is n K5 m = absurd m
  code_is n K6 m = absurd m
  code_is n K7 m = absurd m
  code_is n K8 m = absurd m
  code_is n K9 m =
      let less = piece_below p n m.0 (slice_get (pieces p) m.0) refl m.1 in
      absurd (m.2 (λ j a b within at_a at_b same. h.apart m.0 j a b less within at_a at_b same))
  code_is n K10 m = absurd (elim m [
    | inl leaves ↦ leaves.2 (h.inside leaves.0)
    | inr gap ↦
        let most = cells_within 0 p.groups (n + 1) in
        let below = gap.2 in
        let owner = h.whole gap.0 (omega (arith, most, below)) in
        gap.3 owner.0 owner.1 owner.2
  ])
  code_is n K11 m = inl refl
  code_is n K12 m = absurd m
  code_is n K13 m = absurd m
  code_is n K14 m = absurd m

pub told : FetchesAndLimitsAreTold
told a p c f parted is = elim is [
  | inl means ↦ elim means.0 [ inl code ↦ code_is p c parted code.0 f.code code.1 | inr past ↦ inr past.0 ]
  | inr refused ↦ inr refused.0
]
