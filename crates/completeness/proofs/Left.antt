-- Where what stores owe of places and what tests of nests say is shown, all that lines owe is.
use Rattle.std.proofs.Common.{ℕ, ◌+◌, ◌-◌, Bool, true, ◌&&◌, List, [], ◌∷◌, refl, inl, inr}
use Rattle.std.specs.Prelude.{◌≡◌, ◌⊎◌, Some, slice_get}
use Rattle.std.specs.List.{AllByRecursion, list_all}
use Rattle.meaning.specs.Algorithm.{Algorithm}
use Rattle.meaning.specs.Conditions.{IsAlgorithm}
use Rattle.plan.specs.Plan.{Group, Statement, Seq, For, Let, First, Guard, Alloc, Fetch, Store, Publish, Statements, Empty, Then}
use Rattle.plan.specs.Lines.{lines, body_line}
use Rattle.plan.specs.View.{plan_of}
use Rattle.plan.specs.Certificate.Certificate.{certificate_of}
use Rattle.soundness.specs.Origins.{Outline}
use Rattle.soundness.specs.Given.{outline_of}
use Rattle.soundness.specs.Obligations.{Known, Rules, Wanted, Named, Seated, Inside, Made, InTurn, Slid, Held, Obligation, within, onwards, in_block, in_loop, in_guard, claim_obligations, obligations}
use Rattle.soundness.specs.Shown.{Nests, is_shown, all_shown, start}
use Rattle.soundness.specs.Binders.View.{grid_binders}
use Rattle.rules.specs.Bounding.Rules.{rules_of}
use Rattle.sched.specs.Schedule.{Schedule}
use Rattle.sched.specs.Legal.{IsLegal}
use Rattle.lower.specs.declared.lowering.Lowered.{Lowered}
use Rattle.lower.specs.Stored.{stored_functions}
use Rattle.regions.specs.Faults.{are_whole}
use Rattle.lower.specs.Refused.{AreSmall, AreRegionsKept}
use Rattle.lower.specs.Groups.{AreGroupsMade}
use Rattle.completeness.specs.Laws.{IsFetch, IsStore, AreLinesTold, NamesNoLoad}
use Rattle.completeness.specs.Owed.{EachLine, EachOf, EachClaim, IsNameTest, NameTestsHold, TakePlain, AreGridsFew, AreClaimsNear}
use Rattle.completeness.specs.Nested.{SayYes, PlacesAndNestsAreLeft}
use Rattle.completeness.proofs.Joined.{all_weaker, left_by, claims_paired}
use Rattle.completeness.proofs.StoreNames.{lines_weaker, shown as names_shown}
use Rattle.completeness.proofs.ClaimedNests.{left as claims_owed}

module _ (O : Outline) (R : Rules) (nests : Nests) where
  abbrev So : (Wanted → Type 0) → List Obligation → Type 0
  So Q os = AllByRecursion (λ o. Q o.wanted → is_shown R nests o ≡ true) os

  -- a fact that is so where the one is and where it is not
  names_or_not : (P : Type 0) (w : Wanted) → (IsNameTest w → P) → ((IsNameTest w → ⊥) → P) → P
  names_or_not P (Named test) h k = h tt
  names_or_not P (Seated xs places) h k = k (λ x. x)
  names_or_not P (Inside xs ys) h k = k (λ x. x)
  names_or_not P (Made c from places a) h k = k (λ x. x)
  names_or_not P (InTurn c a) h k = k (λ x. x)
  names_or_not P (Slid w c places a) h k = k (λ x. x)
  names_or_not P (Held w bs c places a) h k = k (λ x. x)

  pub all_names : (os : List Obligation) → So IsNameTest os → So (λ w. IsNameTest w → ⊥) os → all_shown R nests os ≡ true
  all_names [] h k = refl
  all_names (o ∷ os) h k =
      (let here = names_or_not (is_shown R nests o ≡ true) o.wanted h.0 k.0 in let rest = all_names os h.1 k.1 in λ i. here i && rest i)

-- ---- line by line

module _ (O : Outline) (R : Rules) (P Q S : Statement → ℕ → Known → Type 0) (w : (s : Statement) (line : ℕ) (known : Known) → P s line known → Q s line known → S s line known) where
  mutual
    pub lines_paired : (s : Statement) (line : ℕ) (known : Known) → EachLine O R P s line known → EachLine O R Q s line known → EachLine O R S s line known
    lines_paired (Seq all) line known h k = block_paired all line (in_block O R known) h k
    lines_paired (For i x kind body) line known h k = lines_paired body (line + 1) (in_loop O R i x body known) h k
    lines_paired (Let i pick forms) line known h k = w (Let i pick forms) line known h k
    lines_paired (First i a b) line known h k =
        (lines_paired a (line + 1) (in_block O R known) h.0 k.0, lines_paired b (line + 2 + lines a) (in_block O R known) h.1 k.1)
    lines_paired (Guard low high body) line known h k = lines_paired body (line + 1) (in_guard O R low high known) h k
    lines_paired (Alloc b x seats) line known h k = w (Alloc b x seats) line known h k
    lines_paired (Fetch b x region) line known h k = w (Fetch b x region) line known h k
    lines_paired (Store b d at e) line known h k = w (Store b d at e) line known h k
    lines_paired (Publish c) line known h k = w (Publish c) line known h k

    block_paired : (all : Statements) (line : ℕ) (known : Known) → EachOf O R P all line known → EachOf O R Q all line known → EachOf O R S all line known
    block_paired Empty line known h k = tt
    block_paired (Then a rest) line known h k =
        let next = O.named (line + lines a - 1) in
        (lines_paired a line (within O R a next known) h.0 k.0, block_paired rest (line + lines a) (onwards O R a next known) h.1 k.1)

-- where each store shows what it owes or what it owes is met otherwise, and the tests of nests say yes, all that a group's body owes is met
pub rest_met : (a : Algorithm) (s : Schedule) (l : Lowered) → IsAlgorithm a → IsLegal a s → AreSmall a s → AreRegionsKept a s → AreGroupsMade a s l → are_whole (stored_functions a s) ≡ true →
    AreGridsFew (plan_of l.plan) → AreClaimsNear (certificate_of l.certificate) → AreLinesTold (plan_of l.plan) → (n : ℕ) (g : Group) → slice_get (plan_of l.plan).groups n ≡ Some g →
    NamesNoLoad a →
    let p = plan_of l.plan in let c = certificate_of l.certificate in let o = outline_of p c n g in let r = rules_of a p c n in
    (nests : Nests) → TakePlain a p c n g nests → (met : Obligation → Bool) → ((x : Obligation) → is_shown r nests x ≡ true → met x ≡ true) →
    EachLine o r (λ t line k. IsStore t → So o r nests (λ w. IsNameTest w → ⊥) (obligations o r t line k) ⊎ (list_all met (obligations o r t line k) ≡ true)) g.body (body_line p n)
    (start (grid_binders g.grid)) →
    EachClaim o r (λ kept begin last k t m. ¬ IsFetch t → SayYes o r nests k t m) [] g.body (body_line p n) (start (grid_binders g.grid)) →
    list_all met (obligations o r g.body (body_line p n) (start (grid_binders g.grid))) ≡ true
rest_met a s l well legal small regions groups all grids near lined n g at free nests takes met shown_met stores claims =
    let p = plan_of l.plan in
    let c = certificate_of l.certificate in
    let o = outline_of p c n g in
    let r = rules_of a p c n in
    let known = start (grid_binders g.grid) in
    let names = names_shown a s l well legal small regions groups all lined n g at free in
    let claimed = claims_owed a s l well legal small regions groups all near n g at in
    let all_stores = lines_paired o r (λ t line k. IsStore t → (tests : Nests) → NameTestsHold r tests (obligations o r t line k))
    (λ t line k. IsStore t → So o r nests (λ w. IsNameTest w → ⊥) (obligations o r t line k) ⊎ (list_all met (obligations o r t line k) ≡ true))
    (λ t line k. IsStore t → list_all met (obligations o r t line k) ≡ true)
    (λ t line k h q is. elim (q is) [
      | inl so ↦ all_weaker (is_shown r nests) met shown_met (obligations o r t line k) (all_names o r nests (obligations o r t line k) (h is nests) so)
      | inr other ↦ other
    ]) g.body (body_line p n) known names stores in
    let all_claims = claims_paired o r
    (λ kept begin last k t m. (IsFetch t → ⊥) → (tests : Nests) → SayYes o r tests k t m → all_shown r tests (claim_obligations o r kept begin last k t m) ≡ true)
    (λ kept begin last k t m. (IsFetch t → ⊥) → SayYes o r nests k t m)
    (λ kept begin last k t m. (IsFetch t → ⊥) → list_all met (claim_obligations o r kept begin last k t m) ≡ true)
    (λ kept begin last k t m h q none. all_weaker (is_shown r nests) met shown_met (claim_obligations o r kept begin last k t m) (h none nests (q none))) [] g.body (body_line p n) known
    claimed claims in
    left_by a s l well legal small regions groups all grids near n g at nests takes met shown_met all_stores all_claims

pub rest_left : PlacesAndNestsAreLeft
rest_left a s l well legal small regions groups all asked n g at free nests takes stores claims =
    let p = plan_of l.plan in
    let c = certificate_of l.certificate in
    let o = outline_of p c n g in
    let r = rules_of a p c n in
    let each = lines_weaker o r (λ t line k. IsStore t → So o r nests (λ w. IsNameTest w → ⊥) (obligations o r t line k))
    (λ t line k. IsStore t → So o r nests (λ w. IsNameTest w → ⊥) (obligations o r t line k) ⊎ (list_all (is_shown r nests) (obligations o r t line k) ≡ true))
    (λ t line k h is. inl (h is)) g.body (body_line p n) (start (grid_binders g.grid)) stores in
    rest_met a s l well legal small regions groups all asked.0 asked.1 asked.2 n g at free nests takes (is_shown r nests) (λ x h. h) each claims
