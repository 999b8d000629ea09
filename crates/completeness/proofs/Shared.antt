-- A plan of whole functions has its shares, and then only limits are told of them.
use Rattle.std.proofs.Common.{◌≡◌, ℕ, ◌+◌, ◌<◌, true, false, length, Option, Some, None, refl, sym, ap, ◌∙◌, subst, inl, inr, arith}
use Rattle.std.specs.Prelude.{MatchOption, slice_get}
use Rattle.plan.specs.Plan.{Plan}
use Rattle.plan.specs.Certificate.Certificate.{Certificate, claim_of, certificate_of}
use Rattle.plan.specs.Certificate.Cells.{Piece, pieces}
use Rattle.plan.specs.declared.plan.Plan.{Plan as PlanMade}
use Rattle.plan.specs.View.{plan_of}
use Rattle.numeric.specs.declared.ty.Ty.{Ty}
use Rattle.numeric.specs.declared.ty.Ty.TheVariants.{U8}
use Rattle.meaning.specs.Algorithm.{Function, Algorithm}
use Rattle.meaning.specs.Conditions.{IsAlgorithm, IsOutput}
use Rattle.algo.specs.Parts.{output_type}
use Rattle.headline.specs.Head.{output_function}
use Rattle.sched.specs.Schedule.{Schedule}
use Rattle.sched.specs.Legal.{IsLegal}
use Rattle.headline.proofs.Regions.{at_in}
use Rattle.lower.specs.declared.lowering.Lowered.{Lowered}
use Rattle.lower.specs.Stored.{stored_functions, has_large}
use Rattle.regions.specs.Faults.{are_whole}
use Rattle.lower.specs.Faults.{region_fault}
use Rattle.lower.specs.Groups.{HasGroups}
use Rattle.lower.specs.Heads.{IsHeadOf}
use Rattle.soundness.specs.declared.outline.refusals.code.K.{K}
use Rattle.soundness.specs.declared.outline.refusals.code.K.TheVariants.{K1, K2, K3, K4, K5, K6, K7, K8, K9, K10, K11, K12, K13, K14}
use Rattle.shares.specs.Made.{CodeMeans}
use Rattle.shares.proofs.Groups.{get_within, all_at_place}
use Rattle.shares.proofs.Having.{cells_within}
use Rattle.completeness.specs.Parted.{HasOwnHead}
use Rattle.completeness.specs.Laws.{LinesAreKnown, Stands, WholePlansAreShared, OnlyLimitsAreTold, HeadsDoNotFail}
use Rattle.completeness.proofs.Listed.{parted_cells}
use Rattle.completeness.proofs.Owned.{parted}
use Rattle.completeness.proofs.Served.{served}
use Rattle.completeness.proofs.Output.{whole_output}
use Rattle.completeness.proofs.Gridded.{own_fits}
use Rattle.completeness.proofs.NeedLines.{need_known}
use Rattle.completeness.proofs.ClaimLines.{claim_known}
use Rattle.headline.proofs.Lists.{from_map}
use Rattle.validation.specs.Certificate.Certificate.{claim_is_known}
use Rattle.completeness.proofs.Lined.{lined}

same_output : (a : Algorithm) (o : Option Function) (ty : Ty) → output_function a ≡ o → MatchOption o ⊥ (IsOutput a.output_extents) → ty ≡ output_type a →
    MatchOption (output_function a) ⊥ (λ f. ty ≡ f.ty)
same_output a None ty e h is = absurd h
same_output a (Some f) ty e h is =
    let there : ty ≡ f.ty = is ∙ ap (λ (o : Option Function). elim o [ Some g ↦ g.ty | None ↦ U8 ]) e in
    subst (λ (o : Option Function). MatchOption o ⊥ (λ g. ty ≡ g.ty)) (sym e) there

pub own_head : (a : Algorithm) (p : PlanMade) → IsAlgorithm a → IsHeadOf a p → HasOwnHead a (plan_of p)
own_head a p well h = record {
  name = h.named;
  input = record { name = h.input.named; ty = h.input.ty; extents = h.input.extents };
  output = record { name = h.output.named; ty = same_output a (output_function a) p.output.ty refl well.output h.output.ty; extents = h.output.extents };
}

known_lines : (a : Algorithm) (s : Schedule) (l : Lowered) → IsAlgorithm a → IsLegal a s → has_large (stored_functions a s) ≡ false → region_fault a (stored_functions a s) ≡ None →
    are_whole (stored_functions a s) ≡ true → HasGroups a (stored_functions a s) l → LinesAreKnown a (plan_of l.plan) (certificate_of l.certificate)
known_lines a s l well legal small regions all groups = record {
  own_lines = lined a s l groups;
  own = own_fits a s l well legal small regions all groups;
  needs = λ i n at. need_known a s l well legal small regions all groups n (at_in l.certificate.needs.items i n at);
  claims = λ i k at.
      let x = from_map claim_of l.certificate.claims.items i k at in
      ap (claim_is_known a.functions (plan_of l.plan).groups) x.2 ∙ claim_known a s l well legal small regions all groups x.0 (at_in l.certificate.claims.items i x.0 x.1);
  windows = groups.windows all;
}

pub shared : WholePlansAreShared
shared a s l well legal small kept groups all inners =
    let regions = (kept all).0 in
    record {
      head = own_head a l.plan well groups.head;
      lines = known_lines a s l well legal small regions all groups;
      parted = parted_cells _ _ (parted a s l well legal small regions all groups inners);
      served = served a s l well legal small regions all groups inners;
      output = whole_output a s l well legal small regions all groups;
    }

pub piece_below : (p : Plan) (n piece : ℕ) (o : Option Piece) → slice_get (pieces p) piece ≡ o → MatchOption o ⊥ (λ j. j.group ≡ n) → piece < length (pieces p)
piece_below p n piece None e h = absurd h
piece_below p n piece (Some j) e h = get_within (pieces p) piece j e

module _ (a : Algorithm) (p : Plan) (c : Certificate) (h : Stands a p c) where
  no_code : (n : ℕ) (k : K) → CodeMeans p c n k → ⊥
  no_code n K1 m = m
  no_code n K2 m = m
  no_code n K3 m = m
  no_code n K4 m = m
  no_code n K5 m = m
  no_code n K6 m = m
  no_code n K7 m = m
  no_code n K8 m = m
  no_code n K9 m =
      let less = piece_below p n m.0 (slice_get (pieces p) m.0) refl m.1 in
      m.2 (λ j a b within at_a at_b same. h.parted.apart m.0 j a b less within at_a at_b same)
  no_code n K10 m = elim m [
    | inl leaves ↦ leaves.2 (h.parted.inside leaves.0)
    | inr gap ↦
        let most = cells_within 0 p.groups (n + 1) in
        let below = gap.2 in
        let owner = h.parted.whole gap.0 (omega (arith, most, below)) in
        gap.3 owner.0 owner.1 owner.2
  ]
  no_code n K11 m =
      let less = piece_below p n m.0 (slice_get (pieces p) m.0) refl m.1 in
      m.2 (record {
        cells = h.served.cells m.0;
        pieces = h.served.grid m.0;
        earlier = λ k w. h.served.earlier m.0 k less w;
        owned = λ x w. h.served.needed m.0 x less w;
      })
  no_code n K12 m = m
  no_code n K13 m = m
  no_code n K14 m = m

pub limits : OnlyLimitsAreTold
limits a p c f stands told = elim told [
  | inl means ↦ elim means.0 [ inl code ↦ absurd (no_code a p c stands code.0 f.code code.1) | inr past ↦ past.0 ]
  | inr refused ↦ refused.0
]

pub heads : HeadsDoNotFail
heads a p c line stands fails = elim fails [
  | inl name ↦ name.1 stands.head.name
  | inr rest ↦ elim rest [
    | inl input ↦ input.1 stands.head.input
    | inr output ↦ elim output.1 [
      | inl own ↦ own stands.head.output
      | inr none ↦
          let o = stands.output in
          all_at_place (λ g. ¬ (g.function ≡ a.output)) p.groups o.number o.group o.stands none o.function
    ]
  ]
]
