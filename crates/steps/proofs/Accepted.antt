-- What is known of a plan that the checker has accepted.
use Rattle.std.proofs.Common.{◌≡◌, ℕ, ◌^◌, ◌<◌, ◌≤◌, List, length, replicate, Option, Some, ℤ, sym, ap, ◌∙◌, subst, arith}
use Rattle.std.proofs.Props.{props}
use Rattle.std.proofs.Math.Logic.{∥∥₁_elim}
use Rattle.meaning.specs.Algorithm.{Algorithm}
use Rattle.plan.specs.Plan.{Plan}
use Rattle.plan.specs.Certificate.Certificate.{Certificate}
use Rattle.plan.specs.Certificate.Cells.{pieces}
use Rattle.headline.specs.Headline.{Headline}
use Rattle.checked_plan.specs.Ready.Ready.{Ready}
use Rattle.meaning.specs.Conditions.{IsAlgorithm}
use Rattle.meaning.specs.Functions.{AreSamples}
use Rattle.meaning.specs.Value.{output_value}
use Rattle.orders.specs.Crew.{Crew, Table, cell_at, go}
use Rattle.orders.specs.Work.{all_steps}
use Rattle.checked_plan.specs.Output.Cells.{HoldsOutput, number_of_point}
use Rattle.steps.specs.Complete.{IsComplete}
use Rattle.algo.specs.declared.inputs.Inputs.{Inputs}
use Rattle.algo.specs.View.{samples_of}
use Rattle.checked_plan.specs.declared.checked.Checked.{Checked}
use Rattle.checked_plan.specs.View.{algorithm_checked, plan_checked, certificate_checked}
use Rattle.steps.specs.Work.{work_on}

module _ (a : Algorithm) (p : Plan) (c : Certificate) where
  -- the plan's input has the extents of the algorithm's
  pub same_extents : ∥ Ready a p c ∥₁ → p.input.extents ≡ a.input_extents
  same_extents ready = ∥∥₁_elim ready (search props) (λ r. r.input.extents)

  -- the numbers of pieces are 32-bit numbers
  pub few : ∥ Ready a p c ∥₁ → length (pieces p) < 2 ^ 32
  few ready = ∥∥₁_elim ready (search props) (λ r. let most : length (pieces p) ≤ 2 ^ 20 = r.few_pieces in omega arith)

-- the lists of the pieces are as many as the work's pieces
pub listed : (x : Checked) (i : Inputs) (n : ℕ) → n < (work_on x i).pieces → n < length x.pieces.items
listed x i n h = ∥∥₁_elim x.lists (search props) (λ lists. subst (λ m. n < m) (sym (lists (samples_of i)).count) h)

-- after all steps of one worker all cells hold their values
pub completed : (x : Checked) (i : Inputs) (crew : Crew) → IsAlgorithm (algorithm_checked x) → AreSamples (algorithm_checked x) (samples_of i) →
    crew ≡ go (work_on x i) (replicate (all_steps (work_on x i)) 0) → IsComplete x i crew.table
completed x i crew w given e cell inside =
    let a = algorithm_checked x in
    let p = plan_checked x in
    let c = certificate_checked x in
    let samples = samples_of i in
    let order : List ℕ = replicate (all_steps (work_on x i)) 0 in
    ap (λ (v : Crew). cell_at v.table cell) e
    ∙ ∥∥₁_elim x.ready (search props) (λ r.
    let head : Headline a p c = r.headline in
    (head.every_order samples given order).1.all_set (head.one_worker samples given 0) cell inside)

-- what the cell of a point of the output holds
pub held : (x y : Checked) (i : Inputs) (table : Table) (at : List ℤ) (cell : ℕ) (value : Option ℤ) → x ≡ y →
    HoldsOutput (algorithm_checked x) (plan_checked x) at → cell ≡ number_of_point (algorithm_checked x) (plan_checked x) at →
    IsComplete y i table → AreSamples (algorithm_checked y) (samples_of i) → value ≡ cell_at table cell → value ≡ Some (output_value (algorithm_checked y) (samples_of i) at)
held x y i table at cell value e holds number complete given is =
    let H : Checked → Type 0 = λ z. HoldsOutput (algorithm_checked z) (plan_checked z) at in
    let N : Checked → ℕ = λ z. number_of_point (algorithm_checked z) (plan_checked z) at in
    let h : H y = subst H e holds in
    is ∙ ap (cell_at table) (number ∙ ap N e) ∙ complete (N y) h.inside ∙ ap Some (h.right (samples_of i) given)
