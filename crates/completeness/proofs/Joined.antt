-- All that a statement owes is what its loops and lines owe by themselves, and what its claims do.
use Rattle.std.proofs.Common.{ℕ, ◌+◌, ◌-◌, Bool, true, false, ◌&&◌, not, List, [], ◌∷◌, ◌++◌, refl}
use Rattle.std.specs.Prelude.{◌≡◌, flat_map, Some, slice_get}
use Rattle.std.specs.List.{AllByRecursion, list_all}
use Rattle.plan.specs.declared.certificate.cert.Window.{Window}
use Rattle.plan.specs.Plan.{Statement, Seq, For, Let, First, Guard, Alloc, Fetch, Store, Publish, Statements, Empty, Then, Group, Plan}
use Rattle.plan.specs.Lines.{lines, body_line}
use Rattle.plan.specs.View.{plan_of}
use Rattle.plan.specs.Certificate.Certificate.{Certificate, certificate_of}
use Rattle.meaning.specs.Algorithm.{Algorithm}
use Rattle.soundness.specs.Origins.{Outline}
use Rattle.soundness.specs.Given.{outline_of}
use Rattle.soundness.specs.Obligations.{Known, Rules, Obligation, Undefined, Named, has_symbol, obligation, without, kept_of, within, onwards, in_block, in_loop, in_guard}
use Rattle.soundness.specs.Obligations.{claim_obligations, turn_obligations, block_obligations, obligations}
use Rattle.soundness.specs.Shown.{Nests, is_shown, all_shown, start}
use Rattle.soundness.specs.Binders.View.{grid_binders}
use Rattle.soundness.proofs.Refines.{and_parts}
use Rattle.meaning.specs.Conditions.{IsAlgorithm}
use Rattle.sched.specs.Schedule.{Schedule}
use Rattle.sched.specs.Legal.{IsLegal}
use Rattle.lower.specs.declared.lowering.Lowered.{Lowered}
use Rattle.lower.specs.Stored.{stored_functions}
use Rattle.regions.specs.Faults.{are_whole}
use Rattle.lower.specs.Refused.{AreSmall, AreRegionsKept}
use Rattle.lower.specs.Groups.{AreGroupsMade}
use Rattle.rules.specs.Bounding.Rules.{rules_of}
use Rattle.completeness.specs.Laws.{IsStep, IsAlloc, IsFetch, IsPublish, IsStore}
use Rattle.completeness.specs.Owed.{EachLine, EachOf, EachOwn, OwnOf, EachClaim, ClaimsOf, own_obligations, TakePlain}
use Rattle.completeness.specs.Owed.{AreGridsFew, AreClaimsNear, StatementsOweTheirOwn, StoresAndNestsAreLeft}
use Rattle.completeness.proofs.AllocShown.{shown as allocs_shown}
use Rattle.completeness.proofs.FetchSeats.{shown as fetches_shown}
use Rattle.completeness.proofs.PublishShown.{shown as publish_shown}
use Rattle.completeness.proofs.StepsShown.{shown as steps_shown}
use Rattle.completeness.proofs.FetchClaims.{all_made}

-- ---- lists

joined : {A : Type 0} (f : A → Bool) (xs ys : List A) → list_all f xs ≡ true → list_all f ys ≡ true → list_all f (xs ++ ys) ≡ true
joined f [] ys h k = k
joined f (x ∷ xs) ys h k = of (f x) h (λ e. joined f xs ys e k)
  where
    of : (b : Bool) → (b && list_all f xs) ≡ true → (list_all f xs ≡ true → list_all f (xs ++ ys) ≡ true) → (b && list_all f (xs ++ ys)) ≡ true
    of true e rest = rest e
    of false e rest = absurd (cc e)

flattened : {A B : Type 0} (f : B → Bool) (g : A → List B) (xs : List A) → AllByRecursion (λ x. list_all f (g x) ≡ true) xs → list_all f (flat_map g xs) ≡ true
flattened f g [] h = refl
flattened f g (x ∷ xs) h = joined f (g x) (flat_map g xs) h.0 (flattened f g xs h.1)

paired : {A : Type 0} (P Q R : A → Type 0) → ((x : A) → P x → Q x → R x) → (xs : List A) → AllByRecursion P xs → AllByRecursion Q xs → AllByRecursion R xs
paired P Q R w [] h k = tt
paired P Q R w (x ∷ xs) h k = (w x h.0 k.0, paired P Q R w xs h.1 k.1)

-- ---- statements

-- what is so of all that loops and lines owe by themselves, and claims do, is so of all that a statement owes
module _ (outline : Outline) (rules : Rules) (met : Obligation → Bool) where
  abbrev pub OwnMet : Statement → ℕ → Known → Type 0
  OwnMet s line known = list_all met (own_obligations outline rules s line known) ≡ true

  abbrev pub ClaimMet : List Window → ℕ → ℕ → Known → Statement → ℕ → Type 0
  ClaimMet kept begin last known s c = list_all met (claim_obligations outline rules kept begin last known s c) ≡ true

  mutual
    each_met : (kept : List Window) (s : Statement) (line : ℕ) (known : Known) → EachOwn outline rules OwnMet s line known → EachClaim outline rules ClaimMet kept s line known →
        list_all met (turn_obligations outline rules kept s line known) ≡ true
    each_met kept (Seq all) line known h k = all_met kept all line (in_block outline rules known) h k
    each_met kept (For i x kind body) line known h k =
        joined met (obligation outline rules Undefined line known (Named (not (has_symbol outline rules i x known))) ∷ [])
        (turn_obligations outline rules (kept_of outline rules i body (line + 1)) body (line + 1) (in_loop outline rules i x body known)) h.0
        (each_met (kept_of outline rules i body (line + 1)) body (line + 1) (in_loop outline rules i x body known) h.1 k)
    each_met kept (Let i pick fs) line known h k = h
    each_met kept (First i a b) line known h k =
        joined met (turn_obligations outline rules [] a (line + 1) (in_block outline rules known))
        (turn_obligations outline rules [] b (line + 2 + lines a) (in_block outline rules known)) (each_met [] a (line + 1) (in_block outline rules known) h.0 k.0)
        (each_met [] b (line + 2 + lines a) (in_block outline rules known) h.1 k.1)
    each_met kept (Guard low high body) line known h k = each_met [] body (line + 1) (in_guard outline rules low high known) h k
    each_met kept (Alloc b x places) line known h k = h
    each_met kept (Fetch b g region) line known h k = h
    each_met kept (Store b d at e) line known h k = h
    each_met kept (Publish c) line known h k = h

    all_met : (kept : List Window) (all : Statements) (line : ℕ) (known : Known) → OwnOf outline rules OwnMet all line known → ClaimsOf outline rules ClaimMet kept all line known →
        list_all met (block_obligations outline rules kept all line known) ≡ true
    all_met kept Empty line known h k = refl
    all_met kept (Then a rest) line known h k =
        let next = outline.named (line + lines a - 1) in
        let first = turn_obligations outline rules [] a line (within outline rules a next known) in
        let claims = flat_map (claim_obligations outline rules kept line (line + lines a - 1) known a) next in
        let others = block_obligations outline rules (without next kept) rest (line + lines a) (onwards outline rules a next known) in
        joined met first (claims ++ others) (each_met [] a line (within outline rules a next known) h.0 k.0)
        (joined met claims others
        (flattened met (claim_obligations outline rules kept line (line + lines a - 1) known a) next k.1)
        (all_met (without next kept) rest (line + lines a) (onwards outline rules a next known) h.1 k.2))

pub owed : StatementsOweTheirOwn
owed outline rules nests s line known h k = each_met outline rules (is_shown rules nests) [] s line known h k

-- ---- kinds of statements

-- what is shown is met
pub all_weaker : (f g : Obligation → Bool) → ((o : Obligation) → f o ≡ true → g o ≡ true) → (os : List Obligation) → list_all f os ≡ true → list_all g os ≡ true
all_weaker f g w [] h = refl
all_weaker f g w (o ∷ os) h =
    let parts = and_parts (f o) (list_all f os) h in
    let here = w o parts.0 in
    let rest = all_weaker f g w os parts.1 in
    λ i. here i && rest i

module _ (outline : Outline) (rules : Rules) (nests : Nests) (met : Obligation → Bool) (shown_met : (o : Obligation) → is_shown rules nests o ≡ true → met o ≡ true) where
  weaker : (os : List Obligation) → all_shown rules nests os ≡ true → list_all met os ≡ true
  weaker os h = all_weaker (is_shown rules nests) met shown_met os h

  abbrev Owed : (Statement → Type 0) → Statement → ℕ → Known → Type 0
  Owed IsOne s line known = IsOne s → (tests : Nests) → all_shown rules tests (obligations outline rules s line known) ≡ true

  abbrev StepOwed : Statement → ℕ → Known → Type 0
  StepOwed s line known = IsStep s → (tests : Nests) → all_shown rules tests (own_obligations outline rules s line known) ≡ true

  abbrev pub StoreOwed : Statement → ℕ → Known → Type 0
  StoreOwed s line known = IsStore s → list_all met (obligations outline rules s line known) ≡ true

  mutual
    own_met : (s : Statement) (line : ℕ) (known : Known) → EachOwn outline rules StepOwed s line known → EachLine outline rules (Owed IsAlloc) s line known →
        EachLine outline rules (Owed IsFetch) s line known → EachLine outline rules (Owed IsPublish) s line known → EachLine outline rules StoreOwed s line known →
        EachOwn outline rules (OwnMet outline rules met) s line known
    own_met (Seq all) line known t a f p s = all_own all line (in_block outline rules known) t a f p s
    own_met (For i x kind body) line known t a f p s = (
      weaker (own_obligations outline rules (For i x kind body) line known) (t.0 tt nests),
      own_met body (line + 1) (in_loop outline rules
          i x body known) t.1 a f p s,
    )
    own_met (Let i pick fs) line known t a f p s = weaker (own_obligations outline rules (Let i pick fs) line known) (t tt nests)
    own_met (First i b c) line known t a f p s = (
      own_met b (line + 1) (in_block outline rules known) t.0 a.0 f.0 p.0 s.0,
      own_met c (line + 2 + lines b) (in_block outline rules known) t.1 a.1 f.1 p.1 s.1,
    )
    own_met (Guard low high body) line known t a f p s = own_met body (line + 1) (in_guard outline rules low high known) t a f p s
    own_met (Alloc b x places) line known t a f p s = weaker (obligations outline rules (Alloc b x places) line known) (a tt nests)
    own_met (Fetch b g region) line known t a f p s = weaker (obligations outline rules (Fetch b g region) line known) (f tt nests)
    own_met (Store b d at e) line known t a f p s = s tt
    own_met (Publish c) line known t a f p s = weaker (obligations outline rules (Publish c) line known) (p tt nests)

    all_own : (all : Statements) (line : ℕ) (known : Known) → OwnOf outline rules StepOwed all line known → EachOf outline rules (Owed IsAlloc) all line known →
        EachOf outline rules (Owed IsFetch) all line known → EachOf outline rules (Owed IsPublish) all line known → EachOf outline rules StoreOwed all line known →
        OwnOf outline rules (OwnMet outline rules met) all line known
    all_own Empty line known t a f p s = tt
    all_own (Then b rest) line known t a f p s =
        let next = outline.named (line + lines b - 1) in
        (own_met b line (within outline rules b next known) t.0 a.0 f.0 p.0 s.0, all_own rest (line + lines b) (onwards outline rules b next known) t.1 a.1 f.1 p.1 s.1)

module _ (outline : Outline) (rules : Rules) (P Q R : List Window → ℕ → ℕ → Known → Statement → ℕ → Type 0)
    (w : (kept : List Window) (begin last : ℕ) (known : Known) (s : Statement) (c : ℕ) → P kept begin last known s c → Q kept begin last known s c → R kept begin last known s c) where
  mutual
    pub claims_paired : (kept : List Window) (s : Statement) (line : ℕ) (known : Known) → EachClaim outline rules P kept s line known → EachClaim outline rules Q kept s line known →
        EachClaim outline rules R kept s line known
    claims_paired kept (Seq all) line known h k = all_paired kept all line (in_block outline rules known) h k
    claims_paired kept (For i x kind body) line known h k =
        claims_paired (kept_of outline rules i body (line + 1)) body (line + 1) (in_loop outline rules i x body known) h k
    claims_paired kept (Let i pick fs) line known h k = tt
    claims_paired kept (First i a b) line known h k = (
      claims_paired [] a (line + 1) (in_block outline rules known) h.0 k.0,
      claims_paired [] b (line + 2 + lines a) (in_block outline rules known) h.1 k.1,
    )
    claims_paired kept (Guard low high body) line known h k = claims_paired [] body (line + 1) (in_guard outline rules low high known) h k
    claims_paired kept (Alloc b x places) line known h k = tt
    claims_paired kept (Fetch b g region) line known h k = tt
    claims_paired kept (Store b d at e) line known h k = tt
    claims_paired kept (Publish c) line known h k = tt

    all_paired : (kept : List Window) (all : Statements) (line : ℕ) (known : Known) → ClaimsOf outline rules P kept all line known → ClaimsOf outline rules Q kept all line known →
        ClaimsOf outline rules R kept all line known
    all_paired kept Empty line known h k = tt
    all_paired kept (Then a rest) line known h k =
        let last = line + lines a - 1 in
        let next = outline.named last in (
          claims_paired [] a line (within outline rules a next known) h.0 k.0,
          paired (λ c. P kept line last known a c) (λ c. Q kept line last known a c) (λ c. R kept line last known a c) (λ c p q. w kept line last known a c p q) next h.1 k.1,
          all_paired (without next kept) rest (line + lines a) (onwards outline rules a next known) h.2 k.2,
        )

-- ---- groups

module _ (a : Algorithm) (p : Plan) (c : Certificate) (n : ℕ) (g : Group) (nests : Nests) (takes : TakePlain a p c n g nests) (met : Obligation → Bool)
    (shown_met : (o : Obligation) → is_shown (rules_of a p c n) nests o ≡ true → met o ≡ true) where
  abbrev O : Outline
  O = outline_of p c n g

  abbrev R : Rules
  R = rules_of a p c n

  either_way : (kept : List Window) (begin last : ℕ) (known : Known) (s : Statement) (m : ℕ) →
      (IsFetch s → (tests : Nests) → TakePlain a p c n g tests → all_shown R tests (claim_obligations O R kept begin last known s m) ≡ true) →
      ((IsFetch s → ⊥) → ClaimMet O R met kept begin last known s m) → ClaimMet O R met kept begin last known s m
  either_way kept begin last known (Seq all) m f k = k (λ x. x)
  either_way kept begin last known (For i x kind body) m f k = k (λ x. x)
  either_way kept begin last known (Let i pick fs) m f k = k (λ x. x)
  either_way kept begin last known (First i b d) m f k = k (λ x. x)
  either_way kept begin last known (Guard low high body) m f k = k (λ x. x)
  either_way kept begin last known (Alloc b x places) m f k = k (λ x. x)
  either_way kept begin last known (Fetch b h region) m f k = weaker O R nests met shown_met (claim_obligations O R kept begin last known (Fetch b h region) m) (f tt nests takes)
  either_way kept begin last known (Store b d at e) m f k = k (λ x. x)
  either_way kept begin last known (Publish d) m f k = k (λ x. x)

-- all that a group's body owes is met, where all that is shown is, and what its stores and the claims of its nests owe is
pub left_by : (a : Algorithm) (s : Schedule) (l : Lowered) → IsAlgorithm a → IsLegal a s → AreSmall a s → AreRegionsKept a s → AreGroupsMade a s l → are_whole (stored_functions a s) ≡ true →
    AreGridsFew (plan_of l.plan) → AreClaimsNear (certificate_of l.certificate) → (n : ℕ) (g : Group) → slice_get (plan_of l.plan).groups n ≡ Some g →
    let p = plan_of l.plan in let c = certificate_of l.certificate in let o = outline_of p c n g in let r = rules_of a p c n in
    (nests : Nests) → TakePlain a p c n g nests → (met : Obligation → Bool) → ((x : Obligation) → is_shown r nests x ≡ true → met x ≡ true) →
    EachLine o r (λ t line k. IsStore t → list_all met (obligations o r t line k) ≡ true) g.body (body_line p n) (start (grid_binders g.grid)) →
    EachClaim o r (λ kept begin last k t m. ¬ IsFetch t → list_all met (claim_obligations o r kept begin last k t m) ≡ true) [] g.body (body_line p n) (start (grid_binders g.grid)) →
    list_all met (obligations o r g.body (body_line p n) (start (grid_binders g.grid))) ≡ true
left_by a s l well legal small regions groups all grids near n g at nests takes met shown_met stores claims =
    let p = plan_of l.plan in
    let c = certificate_of l.certificate in
    let o = outline_of p c n g in
    let r = rules_of a p c n in
    let known = start (grid_binders g.grid) in
    let own = own_met o r nests met shown_met g.body (body_line p n) known (steps_shown a s l well legal small regions groups all tt n g at)
    (allocs_shown a s l well legal small regions groups all tt n g at) (fetches_shown a s l well legal small regions groups all grids n g at)
    (publish_shown a s l well legal small regions groups all near n g at) stores in
    let made = claims_paired o r
    (λ kept begin last k t m. IsFetch t → (tests : Nests) → TakePlain a p c n g tests → all_shown r tests (claim_obligations o r kept begin last k t m) ≡ true)
    (λ kept begin last k t m. (IsFetch t → ⊥) → ClaimMet o r met kept begin last k t m) (ClaimMet o r met) (either_way a p c n g nests takes met shown_met) [] g.body (body_line p n) known
    (all_made a s l well legal small regions groups all (grids, near) n g at) claims in
    each_met o r met [] g.body (body_line p n) known own made

pub left : StoresAndNestsAreLeft
left a s l well legal small regions groups all asked n g at nests takes stores claims =
    left_by a s l well legal small regions groups all asked.0 asked.1 n g at nests takes (is_shown (rules_of a (plan_of l.plan) (certificate_of l.certificate) n) nests) (λ o h. h) stores claims
