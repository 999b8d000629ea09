-- What the claims of nests owe the checker.
use Rattle.std.specs.Prelude.{◌≡◌, ℕ, true, Option, Some, List, []}
use Rattle.std.specs.List.{AllByRecursion}
use Rattle.plan.specs.declared.stmt.Places.{Places}
use Rattle.plan.specs.Plan.{Statement, Group, Plan}
use Rattle.plan.specs.Lines.{body_line}
use Rattle.plan.specs.Certificate.Certificate.{Certificate}
use Rattle.meaning.specs.Algorithm.{Algorithm}
use Rattle.soundness.specs.Origins.{Outline}
use Rattle.soundness.specs.Given.{outline_of}
use Rattle.soundness.specs.Claims.{updates}
use Rattle.soundness.specs.Obligations.{Binder, Known, Rules, places_of, goes_on, claim_obligations, obligations}
use Rattle.soundness.specs.Shown.{Nests, is_shown, all_shown, start}
use Rattle.soundness.specs.Binders.View.{grid_binders}
use Rattle.soundness.specs.Nests.Laws.{domains_of}
use Rattle.tails.specs.Nests.{split_nests}
use Rattle.rules.specs.Bounding.Rules.{rules_of}
use Rattle.completeness.specs.Laws.{IsFetch, IsStore, AreLinesTold, NamesNoLoad}
use Rattle.completeness.specs.Owed.{EachLine, EachClaim, IsNameTest, TakePlain, OfWholePlans, AreGridsFew, AreClaimsNear}

-- the tests of nests say yes to the statement: that it makes this claim in the places that its buffer has there, and, where it changes that by
-- updates alone, that it does their steps in their order
abbrev pub SayYes : Outline → Rules → Nests → Known → Statement → ℕ → Type 0
SayYes outline rules nests known s c =
    ((places : List Places) → places_of known.buffers (outline.claim c).buffer ≡ Some places →
    nests.is_made known.binders c (goes_on outline rules s c) places s ≡ true)
    × (updates outline.setting s (outline.claim c).buffer (outline.claim c).function ≡ true → nests.is_in_turn known.binders c s ≡ true)

-- all that the claims of statements that are no lines `fetch` owe is shown where the tests of nests say yes
abbrev pub LeavesTests : Algorithm → Plan → Certificate → ℕ → Group → Type 0
LeavesTests a p c n g =
    let outline = outline_of p c n g in
    let rules = rules_of a p c n in
    EachClaim outline rules (λ kept begin last known s k. ¬ IsFetch s → (nests : Nests) → SayYes outline rules nests known s k →
    all_shown rules nests (claim_obligations outline rules kept begin last known s k) ≡ true) [] g.body (body_line p n) (start (grid_binders g.grid))

-- a nest's claim owes besides that the nest stores in the claim's buffer alone, which is in scope and of the claim's function (K6); and of an
-- update, that a claim of the definition before is in force there, in whose region that of the claim lies
abbrev pub NestTestsAreLeft : Type 0
NestTestsAreLeft = OfWholePlans LeavesTests (λ p c. AreClaimsNear c)

-- where by these tests of nests all that its lines `store` owe but tests of names is shown, and they say yes to the nests, all that a group's body owes is
abbrev pub LeavesPlacesAndNests : Algorithm → Plan → Certificate → ℕ → Group → Type 0
LeavesPlacesAndNests a p c n g =
    let outline = outline_of p c n g in
    let rules = rules_of a p c n in
    let known = start (grid_binders g.grid) in
    NamesNoLoad a → (nests : Nests) → TakePlain a p c n g nests →
    EachLine outline rules (λ s line k. IsStore s → AllByRecursion (λ o. ¬ IsNameTest o.wanted → is_shown rules nests o ≡ true) (obligations outline rules s line k)) g.body
    (body_line p n) known →
    EachClaim outline rules (λ kept begin last k s m. ¬ IsFetch s → SayYes outline rules nests k s m) [] g.body (body_line p n) known →
    all_shown rules nests (obligations outline rules g.body (body_line p n) known) ≡ true

-- so all that lines owe is shown where what stores owe of places and regions is (K4, K5), and the tests of nests say yes (K6, K7)
abbrev pub PlacesAndNestsAreLeft : Type 0
PlacesAndNestsAreLeft = OfWholePlans LeavesPlacesAndNests (λ p c. AreGridsFew p × AreClaimsNear c × AreLinesTold p)

-- ---- nests of split loops

-- the tests of nests say yes to what those of plain and of split nests do, as the checker's do
abbrev pub TakeSplit : Algorithm → Plan → Certificate → ℕ → Group → Nests → Type 0
TakeSplit a p c n g nests =
    let split = split_nests (outline_of p c n g) (rules_of a p c n) (domains_of a) in
    ((bs : List Binder) (m : ℕ) (from : Option ℕ) (places : List Places) (t : Statement) →
    split.is_made bs m from places t ≡ true → nests.is_made bs m from places t ≡ true)
    × ((bs : List Binder) (m : ℕ) (t : Statement) → split.is_in_turn bs m t ≡ true → nests.is_in_turn bs m t ≡ true)
