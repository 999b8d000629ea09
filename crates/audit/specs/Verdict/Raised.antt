-- What is shown of lines stays shown with greater folds, and an accepted plan stays accepted.
use Rattle.std.specs.Prelude.{◌≡◌, ℕ, ◌+◌, ◌≤◌, ◌^◌, Bool, true, [], Some, pos, slice_get}
use Rattle.std.specs.List.{list_all}
use Rattle.lin.specs.Forms.{Form}
use Rattle.meaning.specs.Algorithm.{Algorithm}
use Rattle.plan.specs.Plan.{Group, Plan}
use Rattle.plan.specs.Certificate.Certificate.{Certificate}
use Rattle.rules.specs.Bounding.Rules.{rules_of}
use Rattle.soundness.specs.Binders.View.{grid_binders}
use Rattle.soundness.specs.Obligations.{Binder, Rules}
use Rattle.tails.specs.Windows.Shown.{IsShown}
use Rattle.validation.specs.Groups.Lines.{flaws_of_groups}
use Rattle.audit.specs.Verdict.Accepted.{IsAccepted}
use Rattle.audit.specs.Verdict.Examples.Slide.{plan_of, slide, slides}
use Rattle.audit.specs.Verdict.Folds.{IsRaised, Rises, statement_passes, claims_pass, folds_within, is_near_binder, is_small_form, windows_within, IsLittle}

-- each binder of the group's grid and lines passes one test, each form of its spans and places, and of the certificate's claims and
-- windows, another
pub record HasForms (pass : Binder → Bool) (test : Form → Bool) (c : Certificate) (g : Group) : Type 0 where
  pub grid : list_all pass (grid_binders g.grid) ≡ true
  pub body : statement_passes pass test g.body ≡ true
  pub certificate : claims_pass test c ≡ true

-- no fold of the group, and of the windows, has more than so many places
pub record HasFolds (limit : ℕ) (c : Certificate) (g : Group) : Type 0 where
  pub body : folds_within limit g.body ≡ true
  pub windows : windows_within limit c ≡ true

-- by rules that rise on some forms under some binders up to a limit, where the group has no others: all that its lines owe is shown with greater folds up to
-- the limit where it is shown with the lesser ones
abbrev pub RaisedStayShown : Type 0
RaisedStayShown =
    (a : Algorithm) (p : Plan) (c : Certificate) (q : Plan) (d : Certificate) (rules : Rules) (limit : ℕ) (pass : Binder → Bool) (test : Form → Bool)
    (n : ℕ) (g h : Group) →
    IsRaised p c q d → slice_get p.groups n ≡ Some g → slice_get q.groups n ≡ Some h → Rises limit pass test rules → HasForms pass test c g →
    HasFolds limit d h →
    IsShown rules a p c n g → IsShown rules a q d n h

-- the checker's rules rise on forms whose constants are small, under binders whose constants are little together, up to 2^22 places
abbrev pub SmallFormsRise : Type 0
SmallFormsRise =
    (most : ℕ → ℕ) → IsLittle most → (a : Algorithm) (p : Plan) (c : Certificate) (n : ℕ) →
    Rises (2 ^ 22) (is_near_binder most) is_small_form (rules_of a p c n)

-- the group's binders and forms are such, and no greater fold has more places
pub record GroupHasSmallForms (c d : Certificate) (g h : Group) : Type 0 where
  pub most : ℕ → ℕ
  pub little : IsLittle most
  pub forms : HasForms (is_near_binder most) is_small_form c g
  pub folds : HasFolds (2 ^ 22) d h

-- those of each group are
abbrev pub HasSmallForms : Plan → Certificate → Plan → Certificate → Type 0
HasSmallForms p c q d = (n : ℕ) (g h : Group) → slice_get p.groups n ≡ Some g → slice_get q.groups n ≡ Some h → GroupHasSmallForms c d g h

-- an accepted plan whose forms have small constants stays accepted with greater folds, if its buffers still have few places
abbrev pub RaisedAreAccepted : Type 0
RaisedAreAccepted =
    (a : Algorithm) (p : Plan) (c : Certificate) (q : Plan) (d : Certificate) →
    IsRaised p c q d → IsAccepted a p c → HasSmallForms p c q d → flaws_of_groups a q d ≡ [] → IsAccepted a q d

-- so is the plan whose buffer slides, of which three rows are read in each turn, with any number of rows from three on, if the buffer has
-- not too many places
abbrev pub SlideStaysAccepted : Type 0
SlideStaysAccepted = (k : ℕ) → k ≤ 2 ^ 19 → IsAccepted slide (plan_of (3 + k) (pos 1)) (slides (3 + k))
