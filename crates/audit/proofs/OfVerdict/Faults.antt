-- A plan of which a fault is told is not accepted.
use Rattle.std.proofs.Common.{◌≡◌, ℕ, List, [], sym, ap, ◌∙◌, subst, inl, inr}
use Rattle.std.proofs.lemmas.List.Elements.{recursion_from_All}
use Rattle.meaning.specs.Algorithm.{Algorithm}
use Rattle.plan.specs.Plan.{Group, Plan}
use Rattle.plan.specs.Lines.{body_line}
use Rattle.plan.specs.Certificate.Certificate.{Certificate}
use Rattle.soundness.specs.Given.{outline_of}
use Rattle.soundness.specs.Obligations.{obligations}
use Rattle.soundness.specs.Shown.{start}
use Rattle.soundness.specs.Nests.Laws.{domains_of}
use Rattle.tails.specs.Windows.Nests.{slid_nests}
use Rattle.soundness.specs.declared.outline.refusals.code.Flaw.{Flaw as FlawHeld}
use Rattle.headline.specs.Head.{FailsHead}
use Rattle.headline.proofs.Members.{got}
use Rattle.soundness.specs.Outline.Flaws.{Flaw, first_of, told}
use Rattle.rules.specs.Bounding.Rules.{rules_of}
use Rattle.obligations.specs.Laws.{ShownIsNothingTold}
use Rattle.rules.specs.Widths.Widths.{first_told}
use Rattle.shares.specs.Has.{HasShares}
use Rattle.shares.specs.Made.{ErrorMeans}
use Rattle.shares.specs.declared.answer.SharesError.TheVariants.{Flaw as Told}
use Rattle.soundness.specs.Binders.View.{grid_binders}
use Rattle.audit.specs.Verdict.Clear.{GroupsAreApart}
use Rattle.audit.specs.Verdict.Accepted.{IsAccepted}
use Rattle.audit.specs.Verdict.Faults.{IsFirst, IsOfWidth, IsOfDebt, IsOfOutput, HasEachPoint, IsFault}
use Rattle.audit.specs.Verdict.Laws.{FaultsAreRefusals}

-- what lower crates have proved
pub record Laws : Type 0 where
  pub apart : GroupsAreApart
  pub silent : ShownIsNothingTold
  pub shares : (p : Plan) (c : Certificate) (f : FlawHeld) → ErrorMeans p c (Told f) → ¬ HasShares p c

-- no flaw is no first flaw
none_first : (flaws : List Flaw) (code line : ℕ) → flaws ≡ [] → IsFirst flaws code line → ⊥
none_first flaws code line none first = absurd (cc (sym (ap first_of none) ∙ first))

module _ (laws : Laws) (a : Algorithm) (p : Plan) (c : Certificate) (accepted : IsAccepted a p c) where
  head : (line : ℕ) → FailsHead a p line → ⊥
  head line (inl k) = k.1 accepted.head.name
  head line (inr (inl k)) = k.1 accepted.head.input
  head line (inr (inr (_, inl k))) = k accepted.head.output
  head line (inr (inr (_, inr k))) =
      let o = accepted.output in
      got (λ (g : Group). ¬ (g.function ≡ a.output)) p.groups o.number o.group (recursion_from_All (λ (g : Group). ¬ (g.function ≡ a.output)) p.groups k) o.stands o.function

  width : (code line : ℕ) → IsOfWidth a p c code line → ⊥
  width code line f = absurd (cc (sym (ap first_told (accepted.widths f.number f.group f.stands)) ∙ f.first))

  debt : (code line : ℕ) → IsOfDebt a p c code line → ⊥
  debt code line f =
      let rules = rules_of a p c f.number in
      let outline = outline_of p c f.number f.group in
      let nothing = laws.silent rules (slid_nests outline rules (domains_of a)) f.part
      (obligations outline rules f.group.body (body_line p f.number) (start (grid_binders f.group.grid))) (accepted.shown f.number f.group f.stands) in
      absurd (cc (sym (ap told nothing) ∙ f.first))

  output : (code line : ℕ) → IsOfOutput a p c code line → ⊥
  output code line f =
      let o = accepted.output in
      let same = (laws.apart a p c accepted.groups).distinct o.number f.number o.group f.group o.stands f.stands (o.function ∙ sym f.function) in
      f.lacks (subst (HasEachPoint a p c) same o.inside)

  no_fault : (code line : ℕ) → IsFault a p c code line → ⊥
  no_fault code line (inl f) = head line f.fails
  no_fault code line (inr (inl f)) = none_first _ code line accepted.groups f
  no_fault code line (inr (inr (inl f))) = width code line f
  no_fault code line (inr (inr (inr (inl f)))) = debt code line f
  no_fault code line (inr (inr (inr (inr (inl f))))) = none_first _ code line accepted.certificate f
  no_fault code line (inr (inr (inr (inr (inr (inl f)))))) = laws.shares p c f.flaw f.means accepted.shares
  no_fault code line (inr (inr (inr (inr (inr (inr (inl f))))))) = output code line f
  no_fault code line (inr (inr (inr (inr (inr (inr (inr f))))))) = none_first _ f.broken.code f.broken.line accepted.groups f.first

pub faults_refused : Laws → FaultsAreRefusals
faults_refused laws a p c code line f accepted = no_fault laws a p c accepted code line f
