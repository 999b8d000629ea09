-- What the lines of a plan owe the checker, one kind of line after another.
use Rattle.std.specs.Prelude.{◌≡◌, ℕ, ◌+◌, ◌-◌, ◌<◌, ◌≤◌, ◌^◌, true, not, Some, length, slice_get, List, [], ◌∷◌, Option}
use Rattle.std.specs.List.{AllByRecursion}
use Rattle.std.specs.Int.RustNames.{unsigned_abs}
use Rattle.lin.specs.Forms.{Form, is_within_limits}
use Rattle.lin.specs.declared.span.Span1.{Span1}
use Rattle.meaning.specs.Algorithm.{Algorithm}
use Rattle.meaning.specs.Conditions.{IsAlgorithm}
use Rattle.plan.specs.declared.stmt.Places.{Places}
use Rattle.plan.specs.declared.certificate.cert.Window.{Window}
use Rattle.plan.specs.Plan.{Statement, Seq, For, Let, First, Guard, Statements, Empty, Then, Group, Plan}
use Rattle.plan.specs.Lines.{lines, body_line}
use Rattle.plan.specs.View.{plan_of}
use Rattle.plan.specs.Certificate.Certificate.{Claim, Certificate, certificate_of}
use Rattle.soundness.specs.Origins.{Outline}
use Rattle.soundness.specs.Given.{outline_of}
use Rattle.soundness.specs.Obligations.{Binder, Known, Rules, Undefined, Wanted, Named, Obligation, has_symbol, obligation, without, in_block, in_loop, in_guard, within, onwards}
use Rattle.soundness.specs.Obligations.{kept_of, claim_obligations, obligations}
use Rattle.soundness.specs.Shown.{Nests, is_shown, all_shown, start}
use Rattle.soundness.specs.Nests.Laws.{domains_of}
use Rattle.soundness.specs.Nests.Tests.{plain_nests}
use Rattle.soundness.specs.Binders.View.{grid_binders}
use Rattle.rules.specs.Bounding.Rules.{rules_of}
use Rattle.rules.specs.Bounding.Scopes.{most_symbols}
use Rattle.sched.specs.Schedule.{Schedule}
use Rattle.sched.specs.Legal.{IsLegal}
use Rattle.lower.specs.declared.lowering.Lowered.{Lowered}
use Rattle.lower.specs.Stored.{stored_functions}
use Rattle.regions.specs.Faults.{are_whole}
use Rattle.lower.specs.Refused.{AreSmall, AreRegionsKept}
use Rattle.lower.specs.Groups.{AreGroupsMade}
use Rattle.completeness.specs.Laws.{NamesNoLoad, AreLinesTold, IsStep, IsAlloc, IsFetch, IsPublish, IsStore}

-- ---- line by line

-- this is so of each statement that is one line, at its line and with what the checker knows there, where that is what is known before the first
module _ (outline : Outline) (rules : Rules) (P : Statement → ℕ → Known → Type 0) where
  abbrev mutual
    pub EachLine : Statement → ℕ → Known → Type 0
    EachLine (Seq all) line known = EachOf all line (in_block outline rules known)
    EachLine (For i x kind body) line known = EachLine body (line + 1) (in_loop outline rules i x body known)
    EachLine (First i a b) line known = EachLine a (line + 1) (in_block outline rules known) × EachLine b (line + 2 + lines a) (in_block outline rules known)
    EachLine (Guard low high body) line known = EachLine body (line + 1) (in_guard outline rules low high known)
    EachLine s line known = P s line known

    pub EachOf : Statements → ℕ → Known → Type 0
    EachOf Empty line known = Unit {0}
    EachOf (Then a rest) line known =
        let last = line + lines a - 1 in
        EachLine a line (within outline rules a (outline.named last) known) × EachOf rest (line + lines a) (onwards outline rules a (outline.named last) known)

-- what a statement owes by itself: a loop that its symbol is not in scope, a line all that it asks for, and what else stands around statements nothing
abbrev pub own_obligations : Outline → Rules → Statement → ℕ → Known → List Obligation
own_obligations outline rules (Seq all) line known = []
own_obligations outline rules (For i x kind body) line known = obligation outline rules Undefined line known (Named (not (has_symbol outline rules i x known))) ∷ []
own_obligations outline rules (First i a b) line known = []
own_obligations outline rules (Guard low high body) line known = []
own_obligations outline rules s line known = obligations outline rules s line known

-- this is so of each loop and of each statement that is one line, at its line and with what the checker knows before it
module _ (outline : Outline) (rules : Rules) (P : Statement → ℕ → Known → Type 0) where
  abbrev mutual
    pub EachOwn : Statement → ℕ → Known → Type 0
    EachOwn (Seq all) line known = OwnOf all line (in_block outline rules known)
    EachOwn (For i x kind body) line known = P (For i x kind body) line known × EachOwn body (line + 1) (in_loop outline rules i x body known)
    EachOwn (First i a b) line known = EachOwn a (line + 1) (in_block outline rules known) × EachOwn b (line + 2 + lines a) (in_block outline rules known)
    EachOwn (Guard low high body) line known = EachOwn body (line + 1) (in_guard outline rules low high known)
    EachOwn s line known = P s line known

    pub OwnOf : Statements → ℕ → Known → Type 0
    OwnOf Empty line known = Unit {0}
    OwnOf (Then a rest) line known =
        let last = line + lines a - 1 in
        EachOwn a line (within outline rules a (outline.named last) known) × OwnOf rest (line + lines a) (onwards outline rules a (outline.named last) known)

-- what the loops and lines of this kind in a group's body owe by themselves is shown by the checker's rules, whatever its tests of nests are
abbrev pub OwnShown : (Statement → Type 0) → Algorithm → Plan → Certificate → ℕ → Group → Type 0
OwnShown IsOne a p c n g =
    EachOwn (outline_of p c n g) (rules_of a p c n)
    (λ s line known. IsOne s → (nests : Nests) → all_shown (rules_of a p c n) nests (own_obligations (outline_of p c n g) (rules_of a p c n) s line known) ≡ true)
    g.body (body_line p n) (start (grid_binders g.grid))

-- all that the lines of this kind in a group's body owe is shown by the checker's rules, whatever its tests of nests are
abbrev pub OweShown : (Statement → Type 0) → Algorithm → Plan → Certificate → ℕ → Group → Type 0
OweShown IsOne a p c n g =
    EachLine (outline_of p c n g) (rules_of a p c n)
    (λ s line known. IsOne s → (nests : Nests) → all_shown (rules_of a p c n) nests (obligations (outline_of p c n g) (rules_of a p c n) s line known) ≡ true)
    g.body (body_line p n) (start (grid_binders g.grid))

-- ---- tests of names

-- a test of names alone
abbrev pub IsNameTest : Wanted → Type 0
IsNameTest (Named test) = Unit {0}
IsNameTest _ = ⊥

-- of these each test of names alone says yes
abbrev pub NameTestsHold : Rules → Nests → List Obligation → Type 0
NameTestsHold rules nests os = AllByRecursion (λ o. IsNameTest o.wanted → is_shown rules nests o ≡ true) os

-- of what each store in a group's body owes: its buffer and those of what it loads are in scope, the claims by which it loads are in force and of their
-- functions' last definitions, or of the definition before where an update loads its own function, and an update stands in the nest of its claim; no name of
-- the algorithm reads as a load
abbrev pub StoreNamesHold : Algorithm → Plan → Certificate → ℕ → Group → Type 0
StoreNamesHold a p c n g =
    EachLine (outline_of p c n g) (rules_of a p c n)
    (λ s line known. IsStore s → (nests : Nests) → NameTestsHold (rules_of a p c n) nests (obligations (outline_of p c n g) (rules_of a p c n) s line known))
    g.body (body_line p n) (start (grid_binders g.grid))

-- ---- claim by claim

-- this is so of each claim that the last line of a statement names: where these windows are kept, of the line at which the statement begins, its last
-- one, and what the checker knows before it
module _ (outline : Outline) (rules : Rules) (P : List Window → ℕ → ℕ → Known → Statement → ℕ → Type 0) where
  abbrev mutual
    pub EachClaim : List Window → Statement → ℕ → Known → Type 0
    EachClaim kept (Seq all) line known = ClaimsOf kept all line (in_block outline rules known)
    EachClaim kept (For i x kind body) line known = EachClaim (kept_of outline rules i body (line + 1)) body (line + 1) (in_loop outline rules i x body known)
    EachClaim kept (First i a b) line known =
        EachClaim [] a (line + 1) (in_block outline rules known) × EachClaim [] b (line + 2 + lines a) (in_block outline rules known)
    EachClaim kept (Guard low high body) line known = EachClaim [] body (line + 1) (in_guard outline rules low high known)
    EachClaim kept s line known = Unit {0}

    pub ClaimsOf : List Window → Statements → ℕ → Known → Type 0
    ClaimsOf kept Empty line known = Unit {0}
    ClaimsOf kept (Then a rest) line known =
        let last = line + lines a - 1 in
        EachClaim [] a line (within outline rules a (outline.named last) known)
        × AllByRecursion (λ c. P kept line last known a c) (outline.named last)
        × ClaimsOf (without (outline.named last) kept) rest (line + lines a) (onwards outline rules a (outline.named last) known)

-- the tests of nests say yes to what those of plain nests do, as the checker's do
abbrev pub TakePlain : Algorithm → Plan → Certificate → ℕ → Group → Nests → Type 0
TakePlain a p c n g nests =
    (bs : List Binder) (m : ℕ) (from : Option ℕ) (places : List Places) (t : Statement) →
    (plain_nests (outline_of p c n g) (rules_of a p c n) (domains_of a)).is_made bs m from places t ≡ true → nests.is_made bs m from places t ≡ true

-- all that the claims of statements of this kind owe is shown, where the tests of nests say yes to plain nests
abbrev pub ClaimsOweShown : (Statement → Type 0) → Algorithm → Plan → Certificate → ℕ → Group → Type 0
ClaimsOweShown IsOne a p c n g =
    EachClaim (outline_of p c n g) (rules_of a p c n) (λ kept begin last known s k. IsOne s → (nests : Nests) → TakePlain a p c n g nests →
    all_shown (rules_of a p c n) nests (claim_obligations (outline_of p c n g) (rules_of a p c n) kept begin last known s k) ≡ true)
    [] g.body (body_line p n) (start (grid_binders g.grid))

-- ---- all that a statement owes

-- what a statement owes is what its loops and lines owe by themselves and what its claims do: where that is shown, all is
abbrev pub StatementsOweTheirOwn : Type 0
StatementsOweTheirOwn =
    (outline : Outline) (rules : Rules) (nests : Nests) (s : Statement) (line : ℕ) (known : Known) →
    EachOwn outline rules (λ t here k. all_shown rules nests (own_obligations outline rules t here k) ≡ true) s line known →
    EachClaim outline rules (λ kept begin last k t c. all_shown rules nests (claim_obligations outline rules kept begin last k t c) ≡ true) [] s line known →
    all_shown rules nests (obligations outline rules s line known) ≡ true

-- where by these tests of nests all that its lines `store` owe is shown, and all that the claims of statements that are no lines `fetch` do, all that a group's
-- body owes is
abbrev pub LeavesStoresAndNests : Algorithm → Plan → Certificate → ℕ → Group → Type 0
LeavesStoresAndNests a p c n g =
    let outline = outline_of p c n g in
    let rules = rules_of a p c n in
    let known = start (grid_binders g.grid) in
    (nests : Nests) → TakePlain a p c n g nests →
    EachLine outline rules (λ s line k. IsStore s → all_shown rules nests (obligations outline rules s line k) ≡ true) g.body (body_line p n) known →
    EachClaim outline rules (λ kept begin last k s m. ¬ IsFetch s → all_shown rules nests (claim_obligations outline rules kept begin last k s m) ≡ true) [] g.body
    (body_line p n) known → all_shown rules nests (obligations outline rules g.body (body_line p n) known) ≡ true

-- ---- plans of whole functions

-- of the plan that is made of a schedule under which each stored function is a root function that is computed at no loop, whatever the loops: where this
-- is so of a plan and its certificate, that is so of each group
abbrev pub OfWholePlans : (Algorithm → Plan → Certificate → ℕ → Group → Type 0) → (Plan → Certificate → Type 0) → Type 0
OfWholePlans IsSo Asked =
    (a : Algorithm) (s : Schedule) (l : Lowered) → IsAlgorithm a → IsLegal a s → AreSmall a s → AreRegionsKept a s → AreGroupsMade a s l
    → are_whole (stored_functions a s) ≡ true → Asked (plan_of l.plan) (certificate_of l.certificate)
    → (n : ℕ) (g : Group) → slice_get (plan_of l.plan).groups n ≡ Some g → IsSo a (plan_of l.plan) (certificate_of l.certificate) n g

-- each grid has at most as many symbols as the checker takes of a group
abbrev pub AreGridsFew : Plan → Type 0
AreGridsFew p = (n : ℕ) (g : Group) → slice_get p.groups n ≡ Some g → length g.grid ≤ most_symbols

-- each symbol that a loop or a let of the statement binds is before this one
abbrev mutual
  pub BindBelow : ℕ → Statement → Type 0
  BindBelow n (Seq all) = AllBindBelow n all
  BindBelow n (For i x kind body) = (i < n) × BindBelow n body
  BindBelow n (Let i pick forms) = i < n
  BindBelow n (First i a b) = BindBelow n a × BindBelow n b
  BindBelow n (Guard low high body) = BindBelow n body
  BindBelow n _ = Unit {0}

  pub AllBindBelow : ℕ → Statements → Type 0
  AllBindBelow n Empty = Unit {0}
  AllBindBelow n (Then a rest) = BindBelow n a × AllBindBelow n rest

-- no group has more symbols than the checker takes
abbrev pub AreSymbolsFew : Plan → Type 0
AreSymbolsFew p = (n : ℕ) (g : Group) → slice_get p.groups n ≡ Some g → BindBelow most_symbols g.body

-- a form is within the limits of forms, and its number within half of theirs
abbrev pub IsNearForm : Form → Type 0
IsNearForm f = (is_within_limits f ≡ true) × (unsigned_abs f.constant ≤ 2 ^ 39)

abbrev pub IsNearSpan : Span1 → Type 0
IsNearSpan x = AllByRecursion IsNearForm x.lower × AllByRecursion IsNearForm x.upper

-- a span's forms are within the limits of forms
abbrev pub IsWithinSpan : Span1 → Type 0
IsWithinSpan x = AllByRecursion (λ f. is_within_limits f ≡ true) x.lower × AllByRecursion (λ f. is_within_limits f ≡ true) x.upper

-- each form of a claim's region is within the limits of forms, and of a claim of a piece's own buffer, which is the first, it is near: under `roundup`, splits inside of
-- splits may have claims that go farther than forms do
abbrev pub AreClaimsNear : Certificate → Type 0
AreClaimsNear c =
    (i : ℕ) (k : Claim) → slice_get c.claims i ≡ Some k → AllByRecursion IsWithinSpan k.region × (k.buffer ≡ 0 → AllByRecursion IsNearSpan k.region)

-- a line `alloc` owes that its buffer is not in scope (K2)
abbrev pub AllocLinesOweShown : Type 0
AllocLinesOweShown = OfWholePlans (OweShown IsAlloc) (λ p c. Unit {0})

-- a line `fetch` owes that each point of its region has a place in its buffer (K4)
abbrev pub FetchLinesOweShown : Type 0
FetchLinesOweShown = OfWholePlans (OweShown IsFetch) (λ p c. AreGridsFew p)

-- a line `publish` owes that its claim is in force there and of its function's last definition, and that the own region lies in the claim's (K5)
abbrev pub PublishLinesOweShown : Type 0
PublishLinesOweShown = OfWholePlans (OweShown IsPublish) (λ p c. AreClaimsNear c)

-- a loop or a let owes that its symbol is not in scope: that it is no loop's, let's or grid's around it, and stands in no form of these, in no place of a
-- buffer in scope, and in no region of a claim in force or of an update under way (K2)
abbrev pub StepsOweShown : Type 0
StepsOweShown = OfWholePlans (OwnShown IsStep) (λ p c. Unit {0})

-- a claim of a line `fetch` owes that it is made there: at each point of its region, of its function, as its last definition leaves it (K6)
abbrev pub FetchClaimsOweShown : Type 0
FetchClaimsOweShown = OfWholePlans (ClaimsOweShown IsFetch) (λ p c. AreGridsFew p × AreClaimsNear c)

-- so all that lines owe is shown where that of stores and of the claims of nests is
abbrev pub StoresAndNestsAreLeft : Type 0
StoresAndNestsAreLeft = OfWholePlans LeavesStoresAndNests (λ p c. AreGridsFew p × AreClaimsNear c)

-- a line `store` owes, of names alone, that its buffer and those of what it loads are in scope (K4), and that the claims by which it loads are in force (K5)
abbrev pub StoreNamesAreShown : Type 0
StoreNamesAreShown = OfWholePlans (λ a p c n g. NamesNoLoad a → StoreNamesHold a p c n g) (λ p c. AreLinesTold p)
