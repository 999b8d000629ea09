-- The claims that a line of a group names are the group's own.
use Rattle.std.proofs.Common.{◌≡◌, ℕ, zero, suc, ◌+◌, ◌-◌, ◌*◌, ◌<◌, ◌≤◌, Bool, true, false, ◌||◌, List, [], ◌∷◌, ◌++◌, length, map, take, Some, refl, sym, ap, ◌∙◌, subst, inl, inr, ◌⊎◌, arith}
use Rattle.std.specs.Prelude.{◌==◌, if◌then◌else◌, slice_get}
use Rattle.std.proofs.lemmas.Bool.Decides.{nat_tests}
use Rattle.lin.specs.declared.span.Span1.{Span1}
use Rattle.lin.specs.declared.scope.Binding.{Binding}
use Rattle.plan.specs.declared.plan.Group.{Group as CodeGroup}
use Rattle.plan.specs.declared.certificate.cert.Claim.{Claim as CodeClaim}
use Rattle.plan.specs.declared.certificate.cert.Need.{Need}
use Rattle.plan.specs.Plan.{Statement, Seq, For, Let, First, Guard, Alloc, Fetch, Store, Publish, Statements, Empty, Then, block}
use Rattle.plan.specs.View.{group_of, statement_of}
use Rattle.plan.specs.Lines.{lines, block_lines, groups_lines}
use Rattle.plan.specs.Certificate.Certificate.{Claim}
use Rattle.meaning.specs.Algorithm.{Algorithm}
use Rattle.soundness.specs.Claims.{In}
use Rattle.soundness.specs.Given.{named_from}
use Rattle.soundness.specs.Obligations.{is_member}
use Rattle.headline.proofs.Regions.{at_in}
use Rattle.sched.specs.declared.skeleton.Step.{Step}
use Rattle.sched.specs.declared.skeleton.Step.TheVariants.{Turns, Named, Tested}
use Rattle.sched.specs.Runs.{lines_to}
use Rattle.sched.specs.Skeleton.{NestText}
use Rattle.sched.specs.Stored.{FormulaText, StoredText}
use Rattle.regions.specs.Regions.{bodies_from}
use Rattle.sched.specs.Around.{grid_scope}
use Rattle.regions.specs.Taken.{sites_of}
use Rattle.sched.specs.Loading.{Loads}
use Rattle.blocks.specs.Blocks.{dimensions_of, own_places}
use Rattle.blocks.specs.Bodies.{step_lines, first_lines, IsStore, AreNests}
use Rattle.lower.specs.Bodies.{last_claim}
use Rattle.sched.specs.Fetches.{Entry}
use Rattle.blocks.specs.Fetches.{FetchText, with_fetches}
use Rattle.lower.specs.Fetches.{Calls, AreFetched, fetched_groups}
use Rattle.lower.specs.Groups.{HasBody, HaveBodies, line_behind}
use Rattle.completeness.proofs.Standing.{AreLets, names_own}
use Rattle.completeness.proofs.Unlike.{Numbered, PlacedBody, first_numbered, second_numbered}

-- ---- named claims

-- the claim of a number that a line names stands there
pub record IsNamedAt (m : ℕ) (cs : List Claim) (line j : ℕ) : Type 0 where
  pub place : ℕ
  pub numbered : j ≡ m + place
  pub claim : Claim
  pub at : slice_get cs place ≡ Some claim
  pub stands : claim.line ≡ line

pub member_named : (m : ℕ) (cs : List Claim) (line j : ℕ) → is_member j (named_from m cs line) ≡ true → IsNamedAt m cs line j
member_named m [] line j h = absurd (cc h)
member_named m (c ∷ cs) line j h = of (c.line == line) refl h (λ q. member_named (suc m) cs line j q)
  where
    later : IsNamedAt (suc m) cs line j → IsNamedAt m (c ∷ cs) line j
    later r = (let e = r.numbered in record { place = suc r.place; numbered = omega (arith, e); claim = r.claim; at = r.at; stands = r.stands })

    of : (b : Bool) → (c.line == line) ≡ b → is_member j (if b then m ∷ named_from (suc m) cs line else named_from (suc m) cs line) ≡ true →
        (is_member j (named_from (suc m) cs line) ≡ true → IsNamedAt (suc m) cs line j) → IsNamedAt m (c ∷ cs) line j
    of true e k rest = first (m == j) refl k
      where
        first : (t : Bool) → (m == j) ≡ t → (t || is_member j (named_from (suc m) cs line)) ≡ true → IsNamedAt m (c ∷ cs) line j
        first true i q = record { place = 0; numbered = (let same : m ≡ j = grind (arith, nat_tests, i) in omega (arith, same)); claim = c; at = refl; stands = grind (arith, nat_tests, e) }
        first false i q = later (rest q)
    of false e k rest = later (rest k)

-- ---- at which lines a group's claims stand

pub in_either : {A : Type 0} (x : A) (xs ys : List A) → In x (xs ++ ys) → In x xs ⊎ In x ys
in_either x [] ys h = inr h
in_either x (y ∷ xs) ys (inl e) = inl (inl e)
in_either x (y ∷ xs) ys (inr h) = elim (in_either x xs ys h) [ inl k ↦ inl (inr k) | inr k ↦ inr k ]

both_lines : (xs ys : List Statement) → block_lines (block (xs ++ ys)) ≡ block_lines (block xs) + block_lines (block ys)
both_lines [] ys = omega arith
both_lines (a ∷ xs) ys = (let rest = both_lines xs ys in omega (arith, rest))

lets_lines : (ss : List Step) (inner : Statements) → AreLets ss → block_lines (lines_to ss inner) ≡ step_lines ss + block_lines inner
lets_lines [] inner h = omega arith
lets_lines (Turns i span kind ∷ ss) inner h = absurd h
lets_lines (Named i pick fs ∷ ss) inner h = let rest = lets_lines ss inner h in omega (arith, rest)
lets_lines (Tested low high ∷ ss) inner h = absurd h

fetches_lines : (fs : List FetchText) (rest : List Statement) → block_lines (block (with_fetches fs rest)) ≡ 2 * length fs + block_lines (block rest)
fetches_lines [] rest = omega arith
fetches_lines (f ∷ fs) rest = let more = fetches_lines fs rest in omega (arith, more)

pub fetched_range : (calls : Calls) (grid : List Binding) (n b line : ℕ) (xs : List (ℕ × Entry)) (fs : List FetchText) (ws : List Need) (cs : List CodeClaim) →
    AreFetched calls grid n b line xs fs ws cs → (w : CodeClaim) → In w cs → (line < w.line) × (w.line < line + 2 * length fs)
fetched_range calls grid n b line [] [] [] [] h w m = absurd m
fetched_range calls grid n b line [] [] [] (c ∷ cs) h w m = absurd h
fetched_range calls grid n b line [] [] (v ∷ ws) cs h w m = absurd h
fetched_range calls grid n b line [] (f ∷ fs) ws cs h w m = absurd h
fetched_range calls grid n b line (x ∷ xs) [] ws cs h w m = absurd h
fetched_range calls grid n b line (x ∷ xs) (f ∷ fs) [] cs h w m = absurd h
fetched_range calls grid n b line (x ∷ xs) (f ∷ fs) (v ∷ ws) [] h w m = absurd h
fetched_range calls grid n b line (x ∷ xs) (f ∷ fs) (v ∷ ws) (c ∷ cs) h w (inl e) =
    let after : w.line ≡ line + 1 = ap (λ (c : CodeClaim). c.line) e ∙ h.0.claimed.after in
    (omega (arith, after), omega (arith, after))
fetched_range calls grid n b line (x ∷ xs) (f ∷ fs) (v ∷ ws) (c ∷ cs) h w (inr m) =
    let rest = fetched_range calls grid n (b + 1) (line + 2) xs fs ws cs h.2 w m in
    let low = rest.0 in
    let less = rest.1 in
    (omega (arith, low), omega (arith, less))

some_store : (g : StoredText) (fs : List FormulaText) (ls : Loads) (d : ℕ) (w : NestText) (s : Statement) → IsStore g fs ls d w s → (ts : List Step) → 1 ≤ block_lines (lines_to ts (Then s Empty))
some_store g fs ls d w (Store b k at e) is [] = omega arith
some_store g fs ls d w (Seq xs) is [] = absurd is
some_store g fs ls d w (For j x kind body) is [] = absurd is
some_store g fs ls d w (Let j pick forms) is [] = absurd is
some_store g fs ls d w (First j x y) is [] = absurd is
some_store g fs ls d w (Guard low high body) is [] = absurd is
some_store g fs ls d w (Alloc b x places) is [] = absurd is
some_store g fs ls d w (Fetch b x region) is [] = absurd is
some_store g fs ls d w (Publish x) is [] = absurd is
some_store g fs ls d w s is (Turns i x kind ∷ ts) = omega arith
some_store g fs ls d w s is (Named i pick forms ∷ ts) = omega arith
some_store g fs ls d w s is (Tested low high ∷ ts) = omega arith

pub nests_range : (g : StoredText) (fs : List FormulaText) (r : List Span1) (ms : Loads) (m line d : ℕ) (ns : List NestText) (xs : List Statement) (cs : List CodeClaim) →
    AreNests g fs r ms m line d ns xs cs → (w : CodeClaim) → In w cs → (line ≤ w.line) × (w.line < line + block_lines (block xs))
nests_range g fs r ms m line d [] xs cs is w among = absurd (subst (In w) is.1 among)
nests_range g fs r ms m line d (n ∷ ns) xs [] is w among = absurd is
nests_range g fs r ms m line d (n ∷ ns) xs (v ∷ cs) is w (inl e) =
    let nest = is.here.nest in
    let after : w.line ≡ (line + block_lines (block is.first)) - 1 = ap (λ (c : CodeClaim). c.line) e ∙ is.here.claims.after in
    let some : 1 ≤ block_lines (block is.first) = subst (λ (code : Statements). 1 ≤ block_lines code) (sym nest.comes) (some_store g fs ms d n nest.store nest.stores n.steps) in
    let all : block_lines (block xs) ≡ block_lines (block is.first) + block_lines (block is.others) = ap (λ (ys : List Statement). block_lines (block ys)) is.are ∙ both_lines is.first is.others in
    (omega (arith, after, some), omega (arith, after, some, all))
nests_range g fs r ms m line d (n ∷ ns) xs (v ∷ cs) is w (inr among) =
    let rest = nests_range g fs r (ms ++ (g.subject.name, m) ∷ []) (m + 1) (line + block_lines (block is.first)) (d + 1) ns is.others cs is.behind w among in
    let low = rest.0 in
    let less = rest.1 in
    let all : block_lines (block xs) ≡ block_lines (block is.first) + block_lines (block is.others) = ap (λ (ys : List Statement). block_lines (block ys)) is.are ∙ both_lines is.first is.others in
    (omega (arith, low), omega (arith, less, all))

module _ (a : Algorithm) (all : List Entry) (full : List CodeClaim) where
  -- how many lines a body has
  pub body_lines : (n c line : ℕ) (g : StoredText) (p : CodeGroup) (claims : List CodeClaim) (needs : List Need) (h : HasBody a all n c line g p claims needs) →
      lines (statement_of p.body) ≡ step_lines h.skeleton.head + (1 + (2 * length h.body.fetches + (block_lines (block h.body.nests) + 1)))
  body_lines n c line g p claims needs h =
      let b = h.body in
      let k = h.skeleton in
      let lets = (names_own g.subject.variables (bodies_from g.changes 0 g.subject.reductions h.formulas) g.placed h.extents k h.laid).lets in
      let rest = b.nests ++ Publish (last_claim c b.fetches k) ∷ [] in
      let inner = block (Alloc 0 g.subject.name (own_places (dimensions_of g h.extents k)) ∷ with_fetches b.fetches rest) in
      let nests : block_lines (block rest) ≡ block_lines (block b.nests) + 1 = (let m = both_lines b.nests (Publish (last_claim c b.fetches k) ∷ []) in omega (arith, m)) in
      ap lines b.with.is ∙ lets_lines k.head inner lets
      ∙ ap (λ (m : ℕ). step_lines k.head + (1 + m)) (fetches_lines b.fetches rest ∙ ap (λ (m : ℕ). 2 * length b.fetches + m) nests)

  body_range : (n c line : ℕ) (g : StoredText) (p : CodeGroup) (claims : List CodeClaim) (needs : List Need) → HasBody a all n c line g p claims needs → (w : CodeClaim) → In w claims →
      (line < w.line) × (w.line < line + (lines (statement_of p.body) + 1))
  body_range n c line g p claims needs h w m = of (body_lines n c line g p claims needs h) (in_either w h.body.fetched h.body.own (subst (In w) h.body.claimed m))
    where
      of : lines (statement_of p.body) ≡ step_lines h.skeleton.head + (1 + (2 * length h.body.fetches + (block_lines (block h.body.nests) + 1))) →
          In w h.body.fetched ⊎ In w h.body.own → (line < w.line) × (w.line < line + (lines (statement_of p.body) + 1))
      of count (inl x) =
          let b = h.body in
          let r = fetched_range (sites_of a g h.formulas h.skeleton) (grid_scope h.skeleton.grid) n 1 (line + first_lines h.skeleton) (fetched_groups h.formulas n 0 all) b.fetches needs b.fetched
          b.fetching w x in
          let low = r.0 in
          let less = r.1 in
          (omega (arith, low), omega (arith, less, count))
      of count (inr x) =
          let b = h.body in
          let r = nests_range g h.formulas _ _ _ (line + first_lines h.skeleton + 2 * length b.fetches) 0 h.skeleton.nests b.nests b.own b.nested w x in
          let low = r.0 in
          let less = r.1 in
          (omega (arith, low), omega (arith, less, count))

  suffix_low : (n c line : ℕ) (gs : List StoredText) (ps : List CodeGroup) (claims : List CodeClaim) (needs : List Need) → HaveBodies a all n c line gs ps claims needs →
      (w : CodeClaim) → In w claims → line < w.line
  suffix_low n c line [] [] claims needs h w m = absurd (subst (In w) h.0 m)
  suffix_low n c line [] (p ∷ ps) claims needs h w m = absurd h
  suffix_low n c line (g ∷ gs) [] claims needs h w m = absurd h
  suffix_low n c line (g ∷ gs) (p ∷ ps) claims needs h w m = of (in_either w h.own_claims h.other_claims (subst (In w) h.claimed m))
      (λ x. suffix_low (n + 1) (c + length h.own_claims) (line_behind line p) gs ps h.other_claims h.other_needs h.behind w x)
    where
      of : In w h.own_claims ⊎ In w h.other_claims → (In w h.other_claims → line_behind line p < w.line) → line < w.line
      of (inl x) rest = (body_range n c line g p h.own_claims h.own_needs h.here w x).0
      of (inr x) rest = (let later = rest x in omega (arith, later))

  -- a group's body with its claims, and that no other claims stand at its lines
  pub record AloneBody (n before : ℕ) (g : StoredText) (p : CodeGroup) (c : ℕ) (claims : List CodeClaim) : Type 0 where
    pub placed : PlacedBody a all full n before g p
    pub alone : (j : ℕ) (w : CodeClaim) → slice_get claims j ≡ Some w → before < w.line → w.line < before + (lines (statement_of p.body) + 1) →
        (i : ℕ) × (c + j ≡ placed.first_claim + i) × (slice_get placed.claims i ≡ Some w)

  split_at : {A : Type 0} (xs ys : List A) (j : ℕ) (x : A) → slice_get (xs ++ ys) j ≡ Some x → (slice_get xs j ≡ Some x) ⊎ ((i : ℕ) × (j ≡ length xs + i) × (slice_get ys i ≡ Some x))
  split_at [] ys j x e = inr (j, omega arith, e)
  split_at (y ∷ xs) ys zero x e = inl e
  split_at (y ∷ xs) ys (suc j) x e = of (split_at xs ys j x e)
    where
      of : (slice_get xs j ≡ Some x) ⊎ ((i : ℕ) × (j ≡ length xs + i) × (slice_get ys i ≡ Some x)) →
          (slice_get (y ∷ xs) (suc j) ≡ Some x) ⊎ ((i : ℕ) × (suc j ≡ length (y ∷ xs) + i) × (slice_get ys i ≡ Some x))
      of (inl k) = inl k
      of (inr k) = (let e = k.1 in inr (k.0, omega (arith, e), k.2))

  pub alone_body : (n c line : ℕ) (gs : List StoredText) (ps : List CodeGroup) (claims : List CodeClaim) (needs : List Need) → HaveBodies a all n c line gs ps claims needs →
      Numbered a all full c claims → (i : ℕ) (g : StoredText) (p : CodeGroup) → slice_get gs i ≡ Some g → slice_get ps i ≡ Some p →
      AloneBody (n + i) (line + groups_lines (take i (map group_of ps))) g p c claims
  alone_body n c line [] ps claims needs h m i g p at there = absurd (cc at)
  alone_body n c line (u ∷ gs) [] claims needs h m i g p at there = absurd h
  alone_body n c line (u ∷ gs) (q ∷ ps) claims needs h m zero g p at there =
      let one : u ≡ g = cc at in
      let two : q ≡ p = cc there in
      let none : n ≡ n + 0 = omega arith in
      let before : line ≡ line + 0 = omega arith in
      subst (λ (m : ℕ). AloneBody m (line + 0) g p c claims) none
      (subst (λ (w : StoredText). AloneBody n (line + 0) w p c claims) one (subst (λ (w : CodeGroup). AloneBody n (line + 0) u w c claims) two (record {
        placed = record {
          first_claim = c;
          line = line;
          lined = before;
          claims = h.own_claims;
          needs = h.own_needs;
          body = h.here;
          numbered = first_numbered a all full c claims h.own_claims h.other_claims h.claimed m;
        };
        alone = λ j w stands low less. here j w low less (split_at h.own_claims h.other_claims j w (ap (λ (ws : List CodeClaim). slice_get ws j) (sym h.claimed) ∙ stands));
      })))
    where
      here : (j : ℕ) (w : CodeClaim) → line + 0 < w.line → w.line < (line + 0) + (lines (statement_of q.body) + 1) →
          (slice_get h.own_claims j ≡ Some w) ⊎ ((i : ℕ) × (j ≡ length h.own_claims + i) × (slice_get h.other_claims i ≡ Some w)) →
          (i : ℕ) × (c + j ≡ c + i) × (slice_get h.own_claims i ≡ Some w)
      here j w low less (inl k) = (j, refl, k)
      here j w low less (inr k) =
          let later = suffix_low (n + 1) (c + length h.own_claims) (line_behind line q) gs ps h.other_claims h.other_needs h.behind w (at_in h.other_claims k.0 w k.2) in
          absurd (omega (arith, later, less))
  alone_body n c line (u ∷ gs) (q ∷ ps) claims needs h m (suc i) g p at there =
      let next : (n + 1) + i ≡ n + suc i = omega arith in
      let behind : line_behind line q + groups_lines (take i (map group_of ps)) ≡ line + groups_lines (take (suc i) (map group_of (q ∷ ps))) = omega arith in
      let rest = alone_body (n + 1) (c + length h.own_claims) (line_behind line q) gs ps h.other_claims h.other_needs h.behind
      (second_numbered a all full c claims h.own_claims h.other_claims h.claimed m) i g p at there in
      let here : AloneBody ((n + 1) + i) (line_behind line q + groups_lines (take i (map group_of ps))) g p c claims = record {
        placed = rest.placed;
        alone = λ j w stands low less. passed j w low (split_at h.own_claims h.other_claims j w (ap (λ (ws : List CodeClaim). slice_get ws j) (sym h.claimed) ∙ stands))
            rest.placed.first_claim rest.placed.claims (λ k e. rest.alone k w e low less);
      } in
      subst (λ (b : ℕ). AloneBody (n + suc i) b g p c claims) behind (subst (λ (m : ℕ). AloneBody m (line_behind line q + groups_lines (take i (map group_of ps))) g p c claims) next here)
    where
      passed : (j : ℕ) (w : CodeClaim) → line_behind line q + groups_lines (take i (map group_of ps)) < w.line →
          (slice_get h.own_claims j ≡ Some w) ⊎ ((k : ℕ) × (j ≡ length h.own_claims + k) × (slice_get h.other_claims k ≡ Some w)) → (first : ℕ) (own : List CodeClaim) →
          ((k : ℕ) → slice_get h.other_claims k ≡ Some w → (i : ℕ) × ((c + length h.own_claims) + k ≡ first + i) × (slice_get own i ≡ Some w)) →
          (i : ℕ) × (c + j ≡ first + i) × (slice_get own i ≡ Some w)
      passed j w low (inl k) first own rest =
          let range = (body_range n c line u q h.own_claims h.own_needs h.here w (at_in h.own_claims j w k)).1 in
          absurd (omega (arith, range, low))
      passed j w low (inr k) first own rest =
          let r = rest k.0 k.2 in
          let e = k.1 in
          let f = r.1 in
          (r.0, omega (arith, e, f), r.2)
