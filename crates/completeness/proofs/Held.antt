-- The claims of a group are of known functions, and stand at lines of the group.
use Rattle.std.proofs.Common.{◌≡◌, ℕ, ◌+◌, List, map, take, Some, None, refl, ap, arith}
use Rattle.std.specs.Prelude.{true, false, string_bytes, slice_get}
use Rattle.plan.specs.declared.plan.Group.{Group as CodeGroup}
use Rattle.plan.specs.declared.certificate.cert.Claim.{Claim as CodeClaim}
use Rattle.plan.specs.declared.certificate.cert.Need.{Need}
use Rattle.plan.specs.View.{group_of, plan_of, statement_of}
use Rattle.plan.specs.Lines.{lines, block_lines, groups_lines, group_line}
use Rattle.meaning.specs.Algorithm.{Function, Algorithm}
use Rattle.meaning.specs.Conditions.{IsAlgorithm, function_named}
use Rattle.soundness.specs.Outline.Flaws.{line_told}
use Rattle.headline.proofs.Lists.{at_map}
use Rattle.headline.proofs.Regions.{at_in}
use Rattle.sched.specs.Schedule.{Schedule}
use Rattle.sched.specs.Legal.{IsLegal}
use Rattle.validation.specs.declared.stored.lines.GroupLines.{GroupLines}
use Rattle.validation.specs.Groups.Lines.{lines_from}
use Rattle.validation.specs.Groups.Wrong.{IsOutside}
use Rattle.lower.specs.declared.lowering.Lowered.{Lowered}
use Rattle.sched.specs.Stored.{StoredText}
use Rattle.lower.specs.Stored.{stored_functions, has_large}
use Rattle.regions.specs.Faults.{are_whole}
use Rattle.lower.specs.Faults.{region_fault}
use Rattle.sched.specs.Fetches.{Entry}
use Rattle.lower.specs.Groups.{HasBody, HasGroups}
use Rattle.completeness.specs.Laws.{AreLinesTold}
use Rattle.completeness.proofs.Served.{roots}
use Rattle.completeness.proofs.ClaimLines.{of_group}
use Rattle.completeness.proofs.Unlike.{Numbered}
use Rattle.completeness.proofs.LinesTold.{not_outside}

module _ (a : Algorithm) (sch : Schedule) (l : Lowered) (well : IsAlgorithm a) (legal : IsLegal a sch) (small : has_large (stored_functions a sch) ≡ false)
    (kept : region_fault a (stored_functions a sch) ≡ None) (all : are_whole (stored_functions a sch) ≡ true) (groups : HasGroups a (stored_functions a sch) l)
    (told : AreLinesTold (plan_of l.plan)) where
  abbrev pub items : List CodeClaim
  items = l.certificate.claims.items

  abbrev pub entries : List Entry
  entries = roots a sch l well legal small kept all groups

  -- the lines of the group of this number
  abbrev pub group : ℕ → CodeGroup → GroupLines
  group n q = lines_from (line_told (group_line (plan_of l.plan) n)) (group_of q)

  -- the claim of this number is of this function, which is known, and stands at a line of the group
  pub record IsHeld (lines : GroupLines) (x : List ℕ) (k : ℕ) : Type 0 where
    pub claim : CodeClaim
    pub at : slice_get items k ≡ Some claim
    pub named : string_bytes claim.function ≡ x
    pub function : Function
    pub known : function_named a.functions x ≡ Some function
    pub inside : IsOutside lines claim.line → ⊥

  module _ (n first line : ℕ) (g : StoredText) (q : CodeGroup) (claims : List CodeClaim) (needs : List Need) (at : slice_get (stored_functions a sch) n ≡ Some g)
      (there : slice_get l.plan.groups.items n ≡ Some q) (h : HasBody a entries n first line g q claims needs) (numbered : Numbered a entries items first claims)
      (lined : line ≡ 4 + groups_lines (take n (map group_of l.plan.groups.items))) where
    pub held : (j : ℕ) (w : CodeClaim) → slice_get claims j ≡ Some w → IsHeld (group n q) (string_bytes w.function) (first + j)
    held j w stands =
        let s = of_group a sch l well legal small kept all groups n first line g q claims needs at there h w (at_in claims j w stands) in
        let low = s.stands.low in
        let less = s.stands.less in
        let many : lines (statement_of q.body) ≡ block_lines s.code = ap lines s.body in
        record {
          claim = w;
          at = numbered j w stands;
          named = refl;
          function = s.function;
          known = s.named;
          inside = not_outside (plan_of l.plan) n (group_of q) (at_map group_of l.plan.groups.items n q there) told w.line (omega (arith, low, lined)) (omega (arith, less, lined, many));
        }
