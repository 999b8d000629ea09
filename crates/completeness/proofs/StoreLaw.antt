-- Of functions whose loops are split once, with any tail, in any order, all that their stores owe is shown, and all that their lines do, where their indices are
-- simple.
use Rattle.std.proofs.Common.{◌≡◌, true, sym, subst, inr}
use Rattle.plan.specs.Plan.{Group}
use Rattle.plan.specs.View.{group_of, plan_of}
use Rattle.plan.specs.Lines.{body_line}
use Rattle.plan.specs.Certificate.Certificate.{certificate_of}
use Rattle.soundness.specs.Given.{outline_of}
use Rattle.soundness.specs.Obligations.{obligations}
use Rattle.soundness.specs.Shown.{Nests, all_shown, start}
use Rattle.soundness.specs.Binders.View.{grid_binders}
use Rattle.rules.specs.Bounding.Rules.{rules_of}
use Rattle.headline.proofs.Lists.{from_map}
use Rattle.completeness.specs.Laws.{IsStore}
use Rattle.completeness.specs.Owed.{IsNameTest, NameTestsHold}
use Rattle.completeness.specs.Filled.{StoreLinesOweShown, NearBlockedGroupsOweShown}
use Rattle.completeness.proofs.Left.{lines_paired, all_names}
use Rattle.completeness.proofs.StoreNames.{shown as names_shown}
use Rattle.completeness.proofs.StoreBounds.{Shows}
use Rattle.completeness.proofs.TailHeld.{tailed_held}
use Rattle.completeness.proofs.BlockStores.{group_at, StoresAreShown, blocked_either}

pub store_lines_owed : StoreLinesOweShown
store_lines_owed a s l well legal small regions groups all free told grids few n g at u stands split_once fs defined r laid simple early =
    let p = plan_of l.plan in
    let c = certificate_of l.certificate in
    let o = outline_of p c n g in
    let rules = rules_of a p c n in
    let x = from_map group_of l.plan.groups.items n g at in
    let h = tailed_held a s l well legal small (regions all).0 all groups n x.0 x.1 u stands split_once.once split_once.inners fs defined r laid (inr simple) in
    let at_group = group_at a s l well legal small (regions all).0 all groups told free grids few n x.0 x.1 u stands split_once.once split_once.inners fs defined r laid
    h.1 h.2 h.0 in
    let shown = subst (λ (y : Group). StoresAreShown a s l well legal small (regions all).0 all groups told free grids few n y) (sym x.2) (at_group.all_shown early) in
    let names = names_shown a s l well legal small regions groups all told n g at free in
    lines_paired o rules (λ t line k. IsStore t → (tests : Nests) → NameTestsHold rules tests (obligations o rules t line k))
    (λ t line k. IsStore t → (tests : Nests) → Shows o rules tests (λ w. IsNameTest w.wanted → ⊥) (obligations o rules t line k))
    (λ t line k. IsStore t → (tests : Nests) → all_shown rules tests (obligations o rules t line k) ≡ true)
    (λ t line k h q is tests. all_names o rules tests (obligations o rules t line k) (h is tests) (q is tests)) g.body (body_line p n) (start (grid_binders g.grid)) names shown

pub near_blocked_owed : NearBlockedGroupsOweShown
near_blocked_owed a s l well legal small regions groups all free told grids few near n g at u stands split_once fs defined r laid close =
    let x = from_map group_of l.plan.groups.items n g at in
    let h = tailed_held a s l well legal small (regions all).0 all groups n x.0 x.1 u stands split_once.once split_once.inners fs defined r laid close in
    blocked_either a s l well legal small regions groups all free told grids few near n g at u stands split_once fs defined r laid h.1 h.2 h.0
