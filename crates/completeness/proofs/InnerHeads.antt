-- The head of whatever plan `lower` makes is the algorithm's, and some group is of the output's function.
use Rattle.std.proofs.Common.{◌≡◌, ℕ, zero, suc, Bool, true, false, ◌||◌, List, [], ◌∷◌, Some, ap, ◌∙◌, inl, inr}
use Rattle.std.specs.Prelude.{if◌then◌else◌, slice_get}
use Rattle.plan.specs.View.{group_of, plan_of}
use Rattle.soundness.proofs.Refines.{name_refl}
use Rattle.meaning.specs.Names.{same_name}
use Rattle.sched.specs.Subjects.{is_output, has_home}
use Rattle.sched.specs.Placing.{has_root}
use Rattle.headline.proofs.Lists.{at_map}
use Rattle.sched.specs.Stored.{StoredText}
use Rattle.lower.specs.Stored.{stored_functions}
use Rattle.lower.specs.Groups.{root_functions}
use Rattle.shares.proofs.Groups.{all_at_place}
use Rattle.completeness.specs.Inside.{HeadsStand}
use Rattle.completeness.proofs.Laid.{stored_is}
use Rattle.completeness.proofs.Output.{group_at, output_is, named_is, or_first}
use Rattle.completeness.proofs.Shared.{own_head}

root_at : (gs : List StoredText) (n : ℕ) (g : StoredText) → slice_get gs n ≡ Some g → g.subject.is_root ≡ true → (k : ℕ) × (slice_get (root_functions gs) k ≡ Some g)
root_at [] n g at root = absurd (cc at)
root_at (u ∷ gs) zero g at root =
    let same : u ≡ g = cc at in
    (0, ap (λ (b : Bool). slice_get (if b then u ∷ root_functions gs else root_functions gs) 0) (ap (λ (v : StoredText). v.subject.is_root) same ∙ root) ∙ at)
root_at (u ∷ gs) (suc n) g at root = of u.subject.is_root (root_at gs n g at root)
  where
    of : (b : Bool) → (k : ℕ) × (slice_get (root_functions gs) k ≡ Some g) → (k : ℕ) × (slice_get (if b then u ∷ root_functions gs else root_functions gs) k ≡ Some g)
    of true h = (suc h.0, h.1)
    of false h = h

pub heads : HeadsStand
heads a s l well legal groups line fails =
    let head = own_head a l.plan well groups.head in
    elim fails [
      | inl name ↦ name.1 head.name
      | inr rest ↦ elim rest [
        | inl input ↦ input.1 head.input
        | inr output ↦ elim output.1 [
          | inl own ↦ own head.output
          | inr none ↦
              let o = output_is a well in
              let named = named_is a.functions a.output o.0 o.1 in
              let output = ap (same_name a.output) named.is ∙ name_refl a.output in
              let root = or_first (is_output a o.0.name) (has_root s o.0.name) output in
              let stored = or_first (is_output a o.0.name || has_root s o.0.name) (has_home s o.0.name) root in
              let n = stored_is a s named.place o.0 named.at stored in
              let r = root_at (stored_functions a s) n.0 _ n.1 root in
              let g = group_at (root_functions (stored_functions a s)) l.plan.groups.items groups.each r.0 _ r.1 in
              all_at_place (λ h. ¬ (h.function ≡ a.output)) (plan_of l.plan).groups r.0 (group_of g.group) (at_map group_of l.plan.groups.items r.0 g.group g.at) none (g.is.named ∙ named.is)
        ]
      ]
    ]
