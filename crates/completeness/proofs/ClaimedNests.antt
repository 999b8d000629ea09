-- What the claim of a nest owes is shown where the tests of nests say yes.
use Rattle.std.proofs.Common.{◌≡◌, ℕ, zero, suc, ◌+◌, ◌*◌, ◌<◌, ◌≤◌, Bool, true, false, ◌&&◌, ◌||◌, List, [], ◌∷◌, ◌++◌, length, map}
use Rattle.std.proofs.Common.{Option, Some, None, refl, sym, ap, ◌∙◌, subst, inl, inr, ◌⊎◌, arith}
use Rattle.std.specs.Prelude.{◌==◌, if◌then◌else◌, slice_get, filter}
use Rattle.std.specs.List.{AllByRecursion, list_any}
use Rattle.std.proofs.lemmas.Bool.Decides.{nat_tests}
use Rattle.lin.specs.Forms.{Form}
use Rattle.lin.specs.declared.span.Span1.{Span1}
use Rattle.plan.specs.declared.plan.Group.{Group as CodeGroup}
use Rattle.plan.specs.declared.stmt.Pick.{Pick}
use Rattle.plan.specs.declared.stmt.Places.{Places}
use Rattle.plan.specs.declared.certificate.cert.Claim.{Claim as CodeClaim}
use Rattle.plan.specs.declared.certificate.cert.Need.{Need}
use Rattle.plan.specs.declared.certificate.cert.Window.{Window}
use Rattle.plan.specs.Plan.{Coordinate, Statement, Alloc, Fetch, Store, Publish, Statements, Empty, Then, Group, Plan, block}
use Rattle.plan.specs.View.{group_of, plan_of, statement_of}
use Rattle.plan.specs.Lines.{lines, block_lines, body_line}
use Rattle.plan.specs.Certificate.Certificate.{Claim, Certificate, certificate_of, claim_of}
use Rattle.plan.specs.Semantics.Setting.{allocated, function_in}
use Rattle.tree.specs.Term.{Term}
use Rattle.meaning.specs.Algorithm.{Algorithm}
use Rattle.meaning.specs.Conditions.{IsAlgorithm}
use Rattle.meaning.specs.Names.{same_name}
use Rattle.soundness.specs.Claims.{In, is_update, updates, block_updates, writes, block_writes}
use Rattle.soundness.specs.Origins.{Outline}
use Rattle.soundness.specs.Given.{claim_or_none, named_from, outline_of}
use Rattle.soundness.specs.Obligations.{Binder, Picked, Known, Rules, Code, NotMade, Inside, Obligation, obligation, is_member, is_next, places_of, region_of, follows, made}
use Rattle.soundness.specs.Obligations.{claim_obligations, earlier_obligations}
use Rattle.soundness.specs.Shown.{Nests, are_within, shows, all_shown, start}
use Rattle.soundness.specs.Binders.View.{grid_binders}
use Rattle.soundness.proofs.Refines.{and_parts, eq_refl, eq_true, name_refl}
use Rattle.rules.specs.Bounding.Rules.{rules_of}
use Rattle.rules.specs.Bounding.Scopes.{scope_of}
use Rattle.headline.proofs.Lists.{at_map, from_map}
use Rattle.headline.proofs.Regions.{at_in}
use Rattle.sched.specs.Schedule.{Schedule}
use Rattle.sched.specs.Legal.{IsLegal}
use Rattle.sched.specs.declared.skeleton.Step.{Step}
use Rattle.sched.specs.declared.skeleton.Step.TheVariants.{Turns, Named, Tested}
use Rattle.sched.specs.Runs.{lines_to}
use Rattle.sched.specs.Skeleton.{NestText, SkeletonText}
use Rattle.lower.specs.declared.lowering.Lowered.{Lowered}
use Rattle.sched.specs.Stored.{FormulaText, StoredText}
use Rattle.lower.specs.Stored.{stored_functions, has_large}
use Rattle.regions.specs.Faults.{are_whole}
use Rattle.lower.specs.Faults.{region_fault}
use Rattle.regions.specs.Regions.{bodies_from}
use Rattle.sched.specs.Around.{grid_scope}
use Rattle.regions.specs.Taken.{sites_of}
use Rattle.blocks.specs.Blocks.{dimensions_of, claimed_region, own_places}
use Rattle.blocks.specs.Bodies.{step_lines, first_lines}
use Rattle.lower.specs.Bodies.{last_claim}
use Rattle.sched.specs.Fetches.{Entry}
use Rattle.blocks.specs.Fetches.{Claims, with_fetches}
use Rattle.lower.specs.Fetches.{fetched_groups, loads_from}
use Rattle.lower.specs.Groups.{HasBody, HasGroups}
use Rattle.completeness.specs.Laws.{IsFetch}
use Rattle.completeness.specs.Owed.{EachClaim, ClaimsOf, IsNearSpan, AreClaimsNear}
use Rattle.completeness.specs.Nested.{SayYes, LeavesTests, NestTestsAreLeft}
use Rattle.completeness.proofs.Standing.{NamesOwn, names_own}
use Rattle.completeness.proofs.Served.{roots, made_at}
use Rattle.completeness.proofs.Spots.{own_allotted}
use Rattle.completeness.proofs.Scoped.{own_grid}
use Rattle.completeness.proofs.Unlike.{get_second}
use Rattle.completeness.proofs.Counts.{fetches_claim}
use Rattle.completeness.proofs.OwnClaimed.{Among, all_above, all_below, more_among}
use Rattle.completeness.proofs.NamedClaims.{member_named, in_either, body_lines, fetched_range, nests_range, alone_body}
use Rattle.completeness.proofs.NestWalk.{down, fetched_at, own_region, IsHere, Holds, Before, IsFree, LetsFirst, lets_around, Lone, Evens, all_even}
use Rattle.completeness.proofs.NestWalk.{Fits, From, Holding, nests_each, lets_each, lead_around, alloc_each, fetches_each}

-- ---- lists

and_true : (b : Bool) → (b && true) ≡ b
and_true true = refl
and_true false = refl

any_member : (f : ℕ → Bool) (xs : List ℕ) (j : ℕ) → is_member j xs ≡ true → f j ≡ true → list_any f xs ≡ true
any_member f [] j m h = absurd (cc m)
any_member f (x ∷ xs) j m h = of (x == j) refl m (λ q. any_member f xs j q h)
  where
    either : (s : Bool) → (s || true) ≡ true
    either true = refl
    either false = refl

    of : (t : Bool) → (x == j) ≡ t → (t || is_member j xs) ≡ true → (is_member j xs ≡ true → list_any f xs ≡ true) → list_any f (x ∷ xs) ≡ true
    of true e q rest = ap (λ (s : Bool). s || list_any f xs) (ap f (eq_true x j e) ∙ h)
    of false e q rest = ap (λ (s : Bool). f x || s) (rest q) ∙ either (f x)

among_self : (xs : List Form) → Among xs xs
among_self [] = tt
among_self (x ∷ xs) = (inl refl, more_among xs xs x (among_self xs))

named_has : (m : ℕ) (cs : List Claim) (j : ℕ) (v : Claim) (line : ℕ) → slice_get cs j ≡ Some v → v.line ≡ line → is_member (m + j) (named_from m cs line) ≡ true
named_has m [] j v line at is = absurd (cc at)
named_has m (c ∷ cs) zero v line at is =
    let one : c ≡ v = cc at in
    let here : c.line ≡ line = ap (λ (k : Claim). k.line) one ∙ is in
    let test : (c.line == line) ≡ true = grind (arith, nat_tests) in
    let same : (m == m + 0) ≡ true = grind (arith, nat_tests) in
    ap (λ (b : Bool). is_member (m + 0) (if b then m ∷ named_from (suc m) cs line else named_from (suc m) cs line)) test
    ∙ ap (λ (b : Bool). b || is_member (m + 0) (named_from (suc m) cs line)) same
named_has m (c ∷ cs) (suc j) v line at is = of (c.line == line)
    (let next : suc m + j ≡ m + suc j = omega arith in ap (λ (i : ℕ). is_member i (named_from (suc m) cs line)) (sym next) ∙ named_has (suc m) cs j v line at is)
  where
    either : (b : Bool) → (b || true) ≡ true
    either true = refl
    either false = refl

    of : (b : Bool) → is_member (m + suc j) (named_from (suc m) cs line) ≡ true → is_member (m + suc j) (if b then m ∷ named_from (suc m) cs line else named_from (suc m) cs line) ≡ true
    of true rest = ap (λ (b : Bool). (m == m + suc j) || b) rest ∙ either (m == m + suc j)
    of false rest = rest

-- ---- what the claim of a nest owes

module _ (O : Outline) (d : ℕ) (at : List Coordinate) (e : Term) (b : ℕ) (f : List ℕ) where
  down_writes : (ts : List Step) → block_writes O.setting (down 0 d at e ts) b f ≡ writes O.setting (Store 0 d at e) b f
  down_writes [] = and_true (writes O.setting (Store 0 d at e) b f)
  down_writes (Turns i x kind ∷ ts) = and_true (block_writes O.setting (down 0 d at e ts) b f) ∙ down_writes ts
  down_writes (Named i pick fs ∷ ts) = down_writes ts
  down_writes (Tested low high ∷ ts) = and_true (block_writes O.setting (down 0 d at e ts) b f) ∙ down_writes ts

  pub down_updates : (ts : List Step) → block_updates O.setting (down 0 d at e ts) b f ≡ updates O.setting (Store 0 d at e) b f
  down_updates [] = and_true (updates O.setting (Store 0 d at e) b f)
  down_updates (Turns i x kind ∷ ts) = and_true (block_updates O.setting (down 0 d at e ts) b f) ∙ down_updates ts
  down_updates (Named i pick fs ∷ ts) = down_updates ts
  down_updates (Tested low high ∷ ts) = and_true (block_updates O.setting (down 0 d at e ts) b f) ∙ down_updates ts

module _ (O : Outline) (R : Rules) (nests : Nests) (d c : ℕ) (at : List Coordinate) (e : Term) (buffered : (O.claim c).buffer ≡ 0) (defined : (O.claim c).definition ≡ d)
    (named : same_name (O.setting.buffer_function 0) (O.claim c).function ≡ true) (ts : List Step) (s : Statement) (comes : Then s Empty ≡ down 0 d at e ts) where
  abbrev b : ℕ
  b = (O.claim c).buffer

  abbrev f : List ℕ
  f = (O.claim c).function

  writing : writes O.setting s b f ≡ true
  writing =
      sym (and_true (writes O.setting s b f)) ∙ ap (λ (code : Statements). block_writes O.setting code b f) comes ∙ down_writes O d at e b f ts
      ∙ ap (λ (t : Bool). if 0 == b then t else true) named ∙ either (0 == b)
    where
      either : (t : Bool) → (if t then true else true) ≡ true
      either true = refl
      either false = refl

  pub updating : updates O.setting s b f ≡ is_update d
  updating =
      sym (and_true (updates O.setting s b f)) ∙ ap (λ (code : Statements). block_updates O.setting code b f) comes ∙ down_updates O d at e b f ts
      ∙ ap (λ (k : ℕ). if 0 == k then same_name (O.setting.buffer_function 0) f && is_update d else true) buffered
      ∙ ap (λ (t : Bool). t && is_update d) named

  if_shown : (u : Bool) (os : List Obligation) → (u ≡ true → all_shown R nests os ≡ true) → all_shown R nests (if u then os else []) ≡ true
  if_shown true os h = h refl
  if_shown false os h = refl

  inside_shown : (code : Code) (line : ℕ) (known : Known) (own : List ℕ) →
      ((k : ℕ) → is_member k own ≡ true → follows O R k c ≡ true → are_within R known.binders (region_of O R c) (region_of O R k) ≡ true) →
      all_shown R nests (map (λ k. obligation O R code line known (Inside (region_of O R c) (region_of O R k))) (filter (λ k. follows O R k c) own)) ≡ true
  inside_shown code line known [] h = refl
  inside_shown code line known (x ∷ own) h =
      of (follows O R x c) refl (inside_shown code line known own (λ k m. h k (ap (λ (t : Bool). (x == k) || t) m ∙ either (x == k))))
    where
      either : (t : Bool) → (t || true) ≡ true
      either true = refl
      either false = refl

      of : (t : Bool) → follows O R x c ≡ t →
          all_shown R nests (map (λ k. obligation O R code line known (Inside (region_of O R c) (region_of O R k))) (filter (λ k. follows O R k c) own)) ≡ true →
          all_shown R nests (map (λ k. obligation O R code line known (Inside (region_of O R c) (region_of O R k)))
          (if t then x ∷ filter (λ k. follows O R k c) own else filter (λ k. follows O R k c) own)) ≡ true
      of true q rest = (let here = h x (ap (λ (t : Bool). t || is_member x own) (eq_refl x)) q in λ i. here i && rest i)
      of false q rest = rest

  pub claim_shown : (places : List Places) (begin last : ℕ) (known : Known) → places_of known.buffers b ≡ Some places → SayYes O R nests known s c →
      (is_update d ≡ true → list_any (λ k. follows O R k c) known.own ≡ true) →
      ((k : ℕ) → is_member k known.own ≡ true → follows O R k c ≡ true → are_within R known.binders (region_of O R c) (region_of O R k) ≡ true) →
      all_shown R nests (claim_obligations O R [] begin last known s c) ≡ true
  claim_shown places begin last known held agrees before within =
      let making : shows R nests known.binders (made O R (places_of known.buffers b) c s) ≡ true =
      ap (λ (o : Option (List Places)). shows R nests known.binders (made O R o c s)) held ∙ agrees.0 places held in
      let earlier : all_shown R nests (earlier_obligations O R begin last known s c) ≡ true =
      if_shown (updates O.setting s b f) _ (λ u.
      let one = before (sym updating ∙ u) in
      let two = agrees.1 u in
      let three = inside_shown NotMade (R.claim_line c) known known.own within in
      λ i. one i && (two i && three i)) in
      λ i. writing i && (making i && earlier i)

-- ---- groups

module _ (a : Algorithm) (sch : Schedule) (l : Lowered) (well : IsAlgorithm a) (legal : IsLegal a sch) (small : has_large (stored_functions a sch) ≡ false)
    (kept : region_fault a (stored_functions a sch) ≡ None) (all : are_whole (stored_functions a sch) ≡ true) (groups : HasGroups a (stored_functions a sch) l) where
  abbrev entries : List Entry
  entries = roots a sch l well legal small kept all groups

  abbrev stored : List StoredText
  stored = stored_functions a sch

  abbrev made_groups : List CodeGroup
  made_groups = l.plan.groups.items

  abbrev items : List CodeClaim
  items = l.certificate.claims.items

  abbrev plan : Plan
  plan = plan_of l.plan

  abbrev cert : Certificate
  cert = certificate_of l.certificate

  claim_at : (j : ℕ) (v : CodeClaim) → slice_get items j ≡ Some v → slice_get cert.claims j ≡ Some (claim_of v)
  claim_at j v e = at_map claim_of items j v e

  module _ (n first line : ℕ) (g : StoredText) (p : CodeGroup) (claims : List CodeClaim) (needs : List Need) (at : slice_get stored n ≡ Some g) (there : slice_get made_groups n ≡ Some p)
      (h : HasBody a entries n first line g p claims needs) (lined : body_line plan n ≡ line + 1)
      (placed : (j : ℕ) (v : CodeClaim) → slice_get claims j ≡ Some v → slice_get items (first + j) ≡ Some v)
      (alone_here : (j : ℕ) (w : CodeClaim) → slice_get items j ≡ Some w → line < w.line → w.line < line + (lines (statement_of p.body) + 1) → In w claims) where
    abbrev k : SkeletonText
    k = h.skeleton

    abbrev fs : List FormulaText
    fs = h.formulas

    abbrev claim : ℕ
    claim = last_claim first h.body.fetches k

    abbrev rest : List Statement
    rest = h.body.nests ++ Publish claim ∷ []

    abbrev places : List Places
    places = own_places (dimensions_of g h.extents k)

    abbrev region : List Span1
    region = claimed_region (dimensions_of g h.extents k)

    abbrev code : Statements
    code = lines_to k.head (block (Alloc 0 g.subject.name places ∷ with_fetches h.body.fetches rest))

    abbrev O : Outline
    O = outline_of plan cert n (group_of p)

    abbrev R : Rules
    R = rules_of a plan cert n

    abbrev nests_line : ℕ
    nests_line = line + first_lines k + 2 * length h.body.fetches

    abbrev end : ℕ
    end = line + (lines (statement_of p.body) + 1)

    pub named_claims : (j at_line : ℕ) → is_member j (O.named at_line) ≡ true → (w : CodeClaim) × (slice_get items j ≡ Some w) × (w.line ≡ at_line)
    named_claims j at_line m =
        let r = member_named 0 cert.claims at_line j m in
        let x = from_map claim_of items r.place r.claim r.at in
        let number = r.numbered in
        let is : r.place ≡ j = omega (arith, number) in
        (x.0, sym (ap (slice_get items) is) ∙ x.1, ap (λ (c : Claim). c.line) (sym x.2) ∙ r.stands)

    claim_names : (j : ℕ) (v : CodeClaim) → slice_get items j ≡ Some v → is_member j (O.named v.line) ≡ true
    claim_names j v e = (let none : 0 + j ≡ j = omega arith in sym (ap (λ (i : ℕ). is_member i (O.named v.line)) none) ∙ named_has 0 cert.claims j (claim_of v) v.line (claim_at j v e) refl)

    names : NamesOwn k
    names = names_own g.subject.variables (bodies_from g.changes 0 g.subject.reductions fs) g.placed h.extents k h.laid

    -- the piece's own buffer is the function's
    pub own_buffer : O.setting.buffer_function 0 ≡ g.subject.name
    own_buffer =
        let w = own_allotted k.head g.subject.name places (block (with_fetches h.body.fetches rest)) names.lets in
        ap (λ (s : Statement). function_in (allocated s 0)) h.body.with.is ∙ ap function_in w.is ∙ w.named

    -- ---- the claim of a nest

    -- any binders
    abbrev Any : List Binder → Type 0
    Any bs = Unit {0}

    pub claim_is : (c : ℕ) (v : CodeClaim) → slice_get items c ≡ Some v → O.claim c ≡ claim_of v
    claim_is c v e = ap claim_or_none (claim_at c v e)

    -- a claim of the group's lines that the piece's own buffer has is over its region
    own_over : (w : CodeClaim) → w.buffer ≡ 0 → In w h.body.fetched ⊎ In w h.body.own → w.region ≡ region
    own_over w none (inl m) =
        let x = fetched_at (sites_of a g fs k) (grid_scope k.grid) n 1 (line + first_lines k) (fetched_groups fs n 0 entries) h.body.fetches needs h.body.fetched h.body.fetching w m in
        let some = x.buffer in
        absurd (omega (arith, some, none))
    own_over w none (inr m) = own_region g fs region _ _ _ 0 k.nests h.body.nests h.body.own h.body.nested w m

    pub named_over : (c at_line : ℕ) → is_member c (O.named at_line) ≡ true → line < at_line → at_line < end → (O.claim c).buffer ≡ 0 → (O.claim c).region ≡ region
    named_over c at_line m low less none =
        let w = named_claims c at_line m in
        let stands : w.0.line ≡ at_line = w.2 in
        let is = claim_is c w.0 w.1 in
        let buffer : w.0.buffer ≡ 0 = sym (ap (λ (x : Claim). x.buffer) is) ∙ none in
        ap (λ (x : Claim). x.region) is
        ∙ own_over w.0 buffer (in_either w.0 h.body.fetched h.body.own (subst (In w.0) h.body.claimed (alone_here c w.0 w.1 (omega (arith, stands, low)) (omega (arith, stands, less)))))

    abbrev Shown : List Window → ℕ → ℕ → Known → Statement → ℕ → Type 0
    Shown windows begin last known s c = (IsFetch s → ⊥) → (nests : Nests) → SayYes O R nests known s c → all_shown R nests (claim_obligations O R windows begin last known s c) ≡ true

    pub near_shown : AreClaimsNear cert → (d c : ℕ) (v : CodeClaim) (at_line : ℕ) → slice_get items c ≡ Some v → Claims at_line 0 g.subject.name d region v → (places_at : List Coordinate) (e : Term) →
        (ts : List Step) (s : Statement) → Then s Empty ≡ down 0 d places_at e ts → (known : Known) → ((j : ℕ) → is_member j known.own ≡ true → IsHere items line end j) → Holds places known →
        Before items g.subject.name region d known → (begin last : ℕ) → Shown [] begin last known s c
    near_shown near d c v at_line found says places_at e ts s comes known own holds before begin last not_fetch nests agrees =
        let is = claim_is c v found in
        let buffered : (O.claim c).buffer ≡ 0 = ap (λ (x : Claim). x.buffer) is ∙ says.buffered in
        let name : (O.claim c).function ≡ g.subject.name = ap (λ (x : Claim). x.function) is ∙ says.named in
        let defined : (O.claim c).definition ≡ d = ap (λ (x : Claim). x.definition) is ∙ says.defined in
        let over : (O.claim c).region ≡ region = ap (λ (x : Claim). x.region) is ∙ says.over in
        let named : same_name (O.setting.buffer_function 0) (O.claim c).function ≡ true = (λ i. same_name (own_buffer i) (name i)) ∙ name_refl g.subject.name in
        let held : places_of known.buffers (O.claim c).buffer ≡ Some places = ap (places_of known.buffers) buffered ∙ holds in
        let told : AllByRecursion IsNearSpan region = subst (AllByRecursion IsNearSpan) says.over ((near c (claim_of v) (claim_at c v found)).1 says.buffered) in
        claim_shown O R nests d c places_at e buffered defined named ts s comes places begin last known held agrees (before_shown d buffered name defined before)
        (λ j m follow. (let w = own j m in
        let other = claim_is j w.claim w.at in
        let parts = and_parts _ _ follow in
        let same : (O.claim j).buffer ≡ (O.claim c).buffer = eq_true (O.claim j).buffer (O.claim c).buffer (and_parts _ _ parts.0).0 in
        let first_buffer : w.claim.buffer ≡ 0 = sym (ap (λ (x : Claim). x.buffer) other) ∙ same ∙ buffered in
        let there_over : (O.claim j).region ≡ region = ap (λ (x : Claim). x.region) other ∙ own_over w.claim first_buffer (in_either w.claim h.body.fetched h.body.own
        (subst (In w.claim) h.body.claimed (alone_here j w.claim w.at w.low w.less))) in
        (λ i. are_within R known.binders (over i) (there_over i)) ∙ all_within known.binders region told))
      where
        before_shown : (d : ℕ) → (O.claim c).buffer ≡ 0 → (O.claim c).function ≡ g.subject.name → (O.claim c).definition ≡ d → Before items g.subject.name region d known → is_update d ≡ true →
            list_any (λ j. follows O R j c) known.own ≡ true
        before_shown zero buffered name defined before update = absurd (cc update)
        before_shown (suc e) buffered name defined before update =
            let x = before e refl in
            let other = claim_is x.number x.claim x.at in
            let one : (O.claim x.number).buffer ≡ 0 = ap (λ (x : Claim). x.buffer) other ∙ x.claims.buffered in
            let two : (O.claim x.number).function ≡ g.subject.name = ap (λ (x : Claim). x.function) other ∙ x.claims.named in
            let three : (O.claim x.number).definition ≡ e = ap (λ (x : Claim). x.definition) other ∙ x.claims.defined in
            let names : same_name (O.claim x.number).function (O.claim c).function ≡ true = (λ i. same_name (two i) (name i)) ∙ name_refl g.subject.name in
            let next : is_next (O.claim x.number).definition (O.claim c).definition ≡ true = (λ i. is_next (three i) (defined i)) ∙ eq_refl e in
            let buffers : ((O.claim x.number).buffer == (O.claim c).buffer) ≡ true = (λ i. one i == buffered i) in
            any_member (λ j. follows O R j c) known.own x.number x.among (λ i. buffers i && names i && next i)

        all_within : (bs : List Binder) (xs : List Span1) → AllByRecursion IsNearSpan xs → are_within R bs xs xs ≡ true
        all_within bs [] near = refl
        all_within bs (x ∷ xs) near =
            let low = all_below (scope_of bs) x.lower x.lower (among_self x.lower) near.0.0 in
            let high = all_above (scope_of bs) x.upper x.upper (among_self x.upper) near.0.1 in
            let rest = all_within bs xs near.1 in
            λ i. (low i && high i) && rest i

    -- ---- the body

    -- so of each nest's claim
    module _ (P : List Window → ℕ → ℕ → Known → Statement → ℕ → Type 0)
        (fetched : (kept : List Window) (begin last : ℕ) (known : Known) (b h : ℕ) (r : List Span1) (c : ℕ) → P kept begin last known (Fetch b h r) c)
        (B : List Binder → Type 0) (L : ℕ → Pick → List Form → Type 0) (bind : (i : ℕ) (pick : Pick) (fs : List Form) (bs : List Binder) → L i pick fs → B bs → B (Picked i pick fs ∷ bs))
        (fits : Fits O R P fetched B L bind items named_claims line end places g.subject.name region g refl fs claim k.nests)
        (lets : AllByRecursion (λ w. LetsFirst L w.steps) k.nests) (bound : B (lets_around k.head (grid_binders k.grid))) where
      count : lines (statement_of p.body) ≡ step_lines k.head + (1 + (2 * length h.body.fetches + (block_lines (block h.body.nests) + 1)))
      count = body_lines a entries items n first line g p claims needs h

      -- the claims of the group's lines are those of what is fetched, and of the nests
      either_of : (j : ℕ) (w : CodeClaim) → slice_get items j ≡ Some w → line < w.line → w.line < end → In w h.body.fetched ⊎ In w h.body.own
      either_of j w e low less = in_either w h.body.fetched h.body.own (subst (In w) h.body.claimed (alone_here j w e low less))

      own_from : (w : CodeClaim) → In w h.body.own → nests_line ≤ w.line
      own_from w m = (nests_range g fs region _ _ nests_line 0 k.nests h.body.nests h.body.own h.body.nested w m).0

      head_free : (at_line : ℕ) → line < at_line → at_line < line + first_lines k → IsFree O at_line
      head_free at_line low less j m =
          let w = named_claims j at_line m in
          let stands : w.0.line ≡ at_line = w.2 in
          let all_lines = count in
          of w.0 stands (either_of j w.0 w.1 (omega (arith, stands, low)) (omega (arith, stands, less, all_lines)))
        where
          of : (w : CodeClaim) → w.line ≡ at_line → In w h.body.fetched ⊎ In w h.body.own → ⊥
          of w stands (inl m) =
              let x = fetched_at (sites_of a g fs k) (grid_scope k.grid) n 1 (line + first_lines k) (fetched_groups fs n 0 entries) h.body.fetches needs h.body.fetched h.body.fetching w m in
              let place = x.at in
              omega (arith, place, stands, less)
          of w stands (inr m) = (let from = own_from w m in omega (arith, from, stands, less))

      even_free : (i : ℕ) → i < length h.body.fetches → IsFree O ((line + first_lines k) + 2 * i)
      even_free i less j m =
          let w = named_claims j ((line + first_lines k) + 2 * i) m in
          let stands : w.0.line ≡ (line + first_lines k) + 2 * i = w.2 in
          let all_lines = count in
          of w.0 stands (either_of j w.0 w.1 (omega (arith, stands)) (omega (arith, stands, less, all_lines)))
        where
          of : (w : CodeClaim) → w.line ≡ (line + first_lines k) + 2 * i → In w h.body.fetched ⊎ In w h.body.own → ⊥
          of w stands (inl m) =
              let x = fetched_at (sites_of a g fs k) (grid_scope k.grid) n 1 (line + first_lines k) (fetched_groups fs n 0 entries) h.body.fetches needs h.body.fetched h.body.fetching w m in
              let place = x.at in
              omega (arith, place, stands)
          of w stands (inr m) = (let from = own_from w m in omega (arith, from, stands, less))

      lone : Lone items end nests_line h.body.own
      lone j w e low less = of (either_of j w e (omega (arith, low)) less)
        where
          of : In w h.body.fetched ⊎ In w h.body.own → In w h.body.own
          of (inl m) =
              let r = (fetched_range (sites_of a g fs k) (grid_scope k.grid) n 1 (line + first_lines k) (fetched_groups fs n 0 entries) h.body.fetches needs h.body.fetched h.body.fetching w m).1 in
              absurd (omega (arith, r, low))
          of (inr m) = m

      own_placed : (j : ℕ) (v : CodeClaim) → slice_get h.body.own j ≡ Some v → slice_get items ((first + length h.body.fetches) + j) ≡ Some v
      own_placed j v e =
          let many = fetches_claim (sites_of a g fs k) (grid_scope k.grid) n 1 (line + first_lines k) (fetched_groups fs n 0 entries) h.body.fetches needs h.body.fetched h.body.fetching in
          let next : first + (length h.body.fetched + j) ≡ (first + length h.body.fetches) + j = omega (arith, many) in
          sym (ap (slice_get items) next)
          ∙ placed (length h.body.fetched + j) v
          (ap (λ (ws : List CodeClaim). slice_get ws (length h.body.fetched + j)) h.body.claimed ∙ get_second a entries items h.body.fetched h.body.own j ∙ e)

      pub body_around : EachClaim O R P [] (statement_of p.body) (body_line plan n) (start (grid_binders p.grid.items))
      body_around =
          let b = h.body in
          let all_lines = count in
          let nests : Holding O R P fetched B L bind items named_claims line end places g.subject.name region nests_line (block rest) =
          λ known knows holds. nests_each O R P fetched B L bind items named_claims line end places g.subject.name region g refl fs claim k.nests fits (loads_from first b.fetches)
          (first + length b.fetches) nests_line 0 k.nests b.nests b.own b.nested lets (λ j w e. let none : 0 + j ≡ j = omega arith in ap (slice_get k.nests) none ∙ e)
          (omega arith) (omega (arith, all_lines)) lone own_placed claim_names known knows holds (λ e q. absurd (omega (arith, q))) in
          let evens : Evens O (line + first_lines k) b.fetches = all_even O b.fetches (line + first_lines k) even_free in
          let fetches : Holding O R P fetched B L bind items named_claims line end places g.subject.name region (line + first_lines k) (block (with_fetches b.fetches rest)) =
          fetches_each O R P fetched B L bind items named_claims line end places g.subject.name region (sites_of a g fs k) (grid_scope k.grid) n 1 (line + first_lines k) nests_line
          (fetched_groups fs n 0 entries) b.fetches needs b.fetched b.fetching (omega arith) (omega arith) (omega (arith, all_lines)) refl evens rest nests in
          let second : line + first_lines k ≡ ((line + 1) + step_lines k.head) + 1 = omega arith in
          let inner : From O R P fetched B L bind items named_claims line end places g.subject.name region ((line + 1) + step_lines k.head)
          (block (Alloc 0 g.subject.name places ∷ with_fetches b.fetches rest)) =
          alloc_each O R P fetched B L bind items named_claims line end places g.subject.name region g.subject.name (block (with_fetches b.fetches rest)) ((line + 1) + step_lines k.head)
          (omega arith) (omega (arith, all_lines)) (head_free ((line + 1) + step_lines k.head) (omega arith) (omega arith))
          (subst (λ (m : ℕ). Holding O R P fetched B L bind items named_claims line end places g.subject.name region m (block (with_fetches b.fetches rest))) second fetches) in
          let shown : ClaimsOf O R P [] code (line + 1) (start (grid_binders k.grid)) =
          lets_each O R P fetched B L bind items named_claims line end places g.subject.name region k.head (block (Alloc 0 g.subject.name places ∷ with_fetches b.fetches rest)) (line + 1)
          ((line + 1) + step_lines k.head) names.lets refl (λ m low less. head_free m (omega (arith, low)) (omega (arith, less))) inner (start (grid_binders k.grid)) (λ j m. absurd (cc m)) bound in
          subst (λ (s : Statement). EachClaim O R P [] s (body_line plan n) (start (grid_binders p.grid.items))) (sym b.with.is)
          (subst (λ (m : ℕ). ClaimsOf O R P [] code m (start (grid_binders p.grid.items))) (sym lined)
          (subst (λ (counts : List ℕ). ClaimsOf O R P [] code (line + 1) (start (grid_binders counts)))
          (sym (own_grid a sch l well legal small kept all groups n first line g p claims needs at there h)) shown))

    -- so where each let of the head keeps what is so of the binders
    pub body_each : (P : List Window → ℕ → ℕ → Known → Statement → ℕ → Type 0)
        (fetched : (kept : List Window) (begin last : ℕ) (known : Known) (b h : ℕ) (r : List Span1) (c : ℕ) → P kept begin last known (Fetch b h r) c)
        (B : List Binder → Type 0) (L : ℕ → Pick → List Form → Type 0) (bind : (i : ℕ) (pick : Pick) (fs : List Form) (bs : List Binder) → L i pick fs → B bs → B (Picked i pick fs ∷ bs)) →
        Fits O R P fetched B L bind items named_claims line end places g.subject.name region g refl fs claim k.nests → LetsFirst L k.head → AllByRecursion (λ w. LetsFirst L w.steps) k.nests →
        B (grid_binders k.grid) → EachClaim O R P [] (statement_of p.body) (body_line plan n) (start (grid_binders p.grid.items))
    body_each P fetched B L bind fits head lets bound =
        body_around P fetched B L bind fits lets
        (lead_around O R P fetched B L bind items named_claims line end places g.subject.name region k.head names.lets head (grid_binders k.grid) bound)

    -- ---- where the tests say yes

    pub tests_left : AreClaimsNear cert → EachClaim O R Shown [] (statement_of p.body) (body_line plan n) (start (grid_binders p.grid.items))
    tests_left near =
        body_each Shown (λ windows begin last known b h r c not_fetch. absurd (not_fetch tt)) Any (λ i pick fs. Unit {0}) (λ i pick fs bs x y. tt)
        (λ ms d w v at_line there says places_at e stores ts part s comes known knows holds before begin last c found.
        near_shown near d c v at_line found says places_at e ts s comes known knows.own holds before begin last)
        (any_lets k.head) (all_lets k.nests) tt
      where
        any_lets : (ts : List Step) → LetsFirst (λ i pick fs. Unit {0}) ts
        any_lets [] = tt
        any_lets (Turns i x kind ∷ ts) = tt
        any_lets (Named i pick forms ∷ ts) = (tt, any_lets ts)
        any_lets (Tested low high ∷ ts) = tt

        all_lets : (ns : List NestText) → AllByRecursion (λ w. LetsFirst (λ i pick fs. Unit {0}) w.steps) ns
        all_lets [] = tt
        all_lets (w ∷ ns) = (any_lets w.steps, all_lets ns)

  -- the group of this number, with its body and what stands alone in its lines
  module _ (near : AreClaimsNear cert) where
    tests_at : (n : ℕ) (q : CodeGroup) → slice_get made_groups n ≡ Some q → LeavesTests a plan cert n (group_of q)
    tests_at n q there =
        let me = made_at a sch l well legal small kept all groups n q there in
        let r = alone_body a entries items 0 0 4 stored made_groups items l.certificate.needs.items (groups.bodies all)
        (λ j v e. let none : 0 + j ≡ j = omega arith in ap (slice_get items) none ∙ e) n me.stored q me.is there in
        let b = r.placed in
        let counted : 0 + n ≡ n = omega arith in
        let body = subst (λ (i : ℕ). HasBody a entries i b.first_claim b.line me.stored q b.claims b.needs) counted b.body in
        let lined = b.lined in
        let begins : body_line plan n ≡ b.line + 1 = omega (arith, lined) in
        let own : (j : ℕ) (w : CodeClaim) → slice_get items j ≡ Some w → b.line < w.line → w.line < b.line + (lines (statement_of q.body) + 1) → In w b.claims =
        λ j w e low less. let x = r.alone j w e (omega (arith, lined, low)) (omega (arith, lined, less)) in at_in b.claims x.0 w x.2 in
        tests_left n b.first_claim b.line me.stored q b.claims b.needs me.is there body begins b.numbered own near

pub left : NestTestsAreLeft
left a s l well legal small regions groups all near n g at =
    let x = from_map group_of l.plan.groups.items n g at in
    subst (λ (u : Group). LeavesTests a (plan_of l.plan) (certificate_of l.certificate) n u) (sym x.2)
    (tests_at a s l well legal small (regions all).0 all groups near n x.0 x.1)
