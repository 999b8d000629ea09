-- What is known of a piece's claims, need lines and loads while its body is made.
-- What crates below need of it stands there: `sched`.
use Rattle.std.proofs.Common.{◌≡◌, ℕ, ◌+◌, ◌-◌, List, [], ◌∷◌, ◌++◌, length, map, refl, sym, ap, subst, ◌∙◌, arith}
use Rattle.std.specs.Prelude.{string_bytes}
use Rattle.std.proofs.lemmas.List.{append_assoc, append-nil, map-append}
use Rattle.lin.specs.declared.span.Span1.{Span1}
use Rattle.plan.specs.declared.certificate.cert.Claim.{Claim}
use Rattle.plan.specs.declared.stmt.Stmt.{Stmt}
use Rattle.plan.specs.Plan.{Statement, Seq, For, Let, First, Guard, Alloc, Fetch, Store, Publish, Statements, Empty, Then, block}
use Rattle.plan.specs.Lines.{lines, block_lines}
use Rattle.plan.specs.View.{statement_of}
use Rattle.plan.specs.Lists.{list_statements}
use Rattle.sched.specs.declared.skeleton.Step.{Step}
use Rattle.sched.specs.declared.skeleton.Step.TheVariants.{Turns, Named, Tested}
use Rattle.sched.specs.Runs.{lines_to}
use Rattle.sched.specs.Skeleton.{NestText}
use Rattle.blocks.specs.declared.group.Body.{Body}
use Rattle.sched.specs.Stored.{FormulaText, StoredText}
use Rattle.sched.specs.Loading.{Loads}
use Rattle.blocks.specs.Loading.{load_of}
use Rattle.blocks.specs.Fetches.{Claims}
use Rattle.blocks.specs.Bodies.{IsStore, step_lines, IsNest, AreNests}
use Rattle.blocks.specs.Making.{AddsClaim, NestsMade}

-- some behind others, and more behind these
pub behind_more : {A : Type 0} (old one new xs ys : List A) → one ≡ old ++ xs → new ≡ one ++ ys → new ≡ old ++ (xs ++ ys)
behind_more old one new xs ys e h = h ∙ (ap (λ l. l ++ ys) e ∙ append_assoc old xs ys)

-- ---- one more claim

pub claim_added : (line b d : ℕ) (x : List ℕ) (r : List Span1) (old new : List Claim) (claim : Claim) → claim.line ≡ line → claim.buffer ≡ b → string_bytes claim.function ≡ x
    → claim.definition ≡ d → claim.region ≡ r
    → new ≡ old ++ claim ∷ [] → AddsClaim line b x d r old new
claim_added line b d x r old new claim after buffered named defined over added =
    record { claim = claim; claims = record { after = after; buffered = buffered; named = named; defined = defined; over = over }; added = added }

-- ---- lines

pub lines_append : (xs ys : List Statement) → block_lines (block (xs ++ ys)) ≡ block_lines (block xs) + block_lines (block ys)
lines_append [] ys = omega arith
lines_append (x ∷ xs) ys =
    let rest = lines_append xs ys in
    omega (arith, rest)

pub lines_stepped : (steps : List Step) (inner : Statements) → block_lines (lines_to steps inner) ≡ step_lines steps + block_lines inner
lines_stepped [] inner = omega arith
lines_stepped (Turns i x kind ∷ steps) inner = let rest = lines_stepped steps inner in omega (arith, rest)
lines_stepped (Named i pick forms ∷ steps) inner = let rest = lines_stepped steps inner in omega (arith, rest)
lines_stepped (Tested low high ∷ steps) inner = let rest = lines_stepped steps inner in omega (arith, rest)

store_lines : (g : StoredText) (fs : List FormulaText) (ls : Loads) (d : ℕ) (n : NestText) (s : Statement) → IsStore g fs ls d n s → lines s ≡ 1
store_lines g fs ls d n (Store b k cs e) h = refl
store_lines g fs ls d n (Seq all) h = absurd h
store_lines g fs ls d n (For i x kind body) h = absurd h
store_lines g fs ls d n (Let i pick forms) h = absurd h
store_lines g fs ls d n (First i a b) h = absurd h
store_lines g fs ls d n (Guard low high body) h = absurd h
store_lines g fs ls d n (Alloc b f places) h = absurd h
store_lines g fs ls d n (Fetch b h region) is = absurd is
store_lines g fs ls d n (Publish c) h = absurd h

-- a nest takes the lines of its steps, and one for the store
nest_lines : (g : StoredText) (fs : List FormulaText) (ls : Loads) (d : ℕ) (n : NestText) (xs : List Statement) → IsNest g fs ls d n xs → block_lines (block xs) ≡ step_lines n.steps + 1
nest_lines g fs ls d n xs h =
    let one : lines h.store ≡ 1 = store_lines g fs ls d n h.store h.stores in
    let all : block_lines (block xs) ≡ step_lines n.steps + block_lines (Then h.store Empty) = ap block_lines h.comes ∙ lines_stepped n.steps (Then h.store Empty) in
    omega (arith, one, all)

-- ---- nests

module _ (g : StoredText) (fs : List FormulaText) (r : List Span1) (d : ℕ) where
  pub nests_none : (xs : List Statement) (b : Body) → xs ≡ [] → NestsMade g fs r d [] xs b b
  nests_none xs b e =
      let line : b.line ≡ b.line + block_lines (block xs) = rw e (omega arith) in
      record { claims = []; nested = (e, refl); claimed = sym (append-nil b.claims.items); counted = omega arith; lined = line; needed = refl; held = refl }

  -- a nest and its claim, before those of the later definitions
  pub nests_made : (n : NestText) (ns : List NestText) (j c k : ℕ) (xs ys zs : List Stmt) (old one new : Body) → IsNest g fs (map load_of old.loads.items) d n (list_statements xs)
      → AddsClaim k 0 g.subject.name d r old.claims.items one.claims.items → one.next_claim ≡ old.next_claim + 1 → c ≡ old.next_claim
      → map load_of one.loads.items ≡ map load_of old.loads.items ++ (g.subject.name, c) ∷ [] → one.needs.items ≡ old.needs.items → one.windows.items ≡ old.windows.items
      → NestsMade g fs r j ns (list_statements ys) one new
      → j ≡ d + 1 → zs ≡ xs ++ ys → one.line ≡ old.line + (step_lines n.steps + 1) → k ≡ one.line - 1 → NestsMade g fs r d (n ∷ ns) (list_statements zs) old new
  nests_made n ns j c k xs ys zs old one new here a next number loads kept held rest i e lined after =
      let x = g.subject.name in
      let m = block_lines (block (list_statements xs)) in
      let long : m ≡ step_lines n.steps + 1 = nest_lines g fs (map load_of old.loads.items) d n (list_statements xs) here in
      let line : one.line ≡ old.line + m = omega (arith, lined, long) in
      let at : k ≡ (old.line + m) - 1 = omega (arith, after, line) in
      let known : map load_of one.loads.items ≡ map load_of old.loads.items ++ (x, old.next_claim) ∷ [] =
      loads ∙ ap (λ (q : ℕ). map load_of old.loads.items ++ (x, q) ∷ []) number in
      let by_loads : AreNests g fs r (map load_of old.loads.items ++ (x, old.next_claim) ∷ []) one.next_claim one.line j ns (list_statements ys) rest.claims =
      subst (λ (l : Loads). AreNests g fs r l one.next_claim one.line j ns (list_statements ys) rest.claims) known rest.nested in
      let by_number : AreNests g fs r (map load_of old.loads.items ++ (x, old.next_claim) ∷ []) (old.next_claim + 1) one.line j ns (list_statements ys) rest.claims =
      subst (λ (q : ℕ). AreNests g fs r (map load_of old.loads.items ++ (x, old.next_claim) ∷ []) q one.line j ns (list_statements ys) rest.claims) next by_loads in
      let by_line : AreNests g fs r (map load_of old.loads.items ++ (x, old.next_claim) ∷ []) (old.next_claim + 1) (old.line + m) j ns (list_statements ys) rest.claims =
      subst (λ (q : ℕ). AreNests g fs r (map load_of old.loads.items ++ (x, old.next_claim) ∷ []) (old.next_claim + 1) q j ns (list_statements ys) rest.claims) line by_number in
      let later : AreNests g fs r (map load_of old.loads.items ++ (x, old.next_claim) ∷ []) (old.next_claim + 1) (old.line + m) (d + 1) ns (list_statements ys) rest.claims =
      subst (λ (q : ℕ). AreNests g fs r (map load_of old.loads.items ++ (x, old.next_claim) ∷ []) (old.next_claim + 1) (old.line + m) q ns (list_statements ys) rest.claims) i by_line in
      let count : new.next_claim ≡ one.next_claim + length ns = rest.counted in
      let claims : Claims ((old.line + m) - 1) 0 x d r a.claim = subst (λ (q : ℕ). Claims q 0 x d r a.claim) at a.claims in
      let all : list_statements zs ≡ list_statements xs ++ list_statements ys = ap list_statements e ∙ map-append statement_of xs ys in
      let others : new.line ≡ one.line + block_lines (block (list_statements ys)) = rest.lined in
      let sum : block_lines (block (list_statements zs)) ≡ m + block_lines (block (list_statements ys)) =
      ap (λ (l : List Statement). block_lines (block l)) all ∙ lines_append (list_statements xs) (list_statements ys) in
      record {
        claims = a.claim ∷ rest.claims;
        nested = record { first = list_statements xs; others = list_statements ys; are = all; here = record { nest = here; claims = claims }; behind = later };
        claimed = behind_more old.claims.items one.claims.items new.claims.items (a.claim ∷ []) rest.claims a.added rest.claimed;
        counted = omega (arith, next, count);
        lined = omega (arith, line, others, sum);
        needed = rest.needed ∙ kept;
        held = rest.held ∙ held;
      }
