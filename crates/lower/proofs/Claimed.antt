-- What is known of a piece's claims, need lines and loads while its body is made.
-- What crates below need of it stands there: `sched`, `blocks`.
use Rattle.std.proofs.Common.{◌≡◌, ℕ, ◌+◌, ◌-◌, ◌*◌, ◌<◌, Bool, List, [], ◌∷◌, ◌++◌, length, map, Option, Some, None, refl, sym, ap, subst, ◌∙◌, arith}
use Rattle.std.proofs.lemmas.List.{append-nil, length-append, map-append}
use Rattle.plan.specs.declared.certificate.cert.Claim.{Claim}
use Rattle.plan.specs.declared.certificate.cert.Need.{Need}
use Rattle.plan.specs.declared.plan.Group.{Group}
use Rattle.plan.specs.declared.stmt.Places.{Places}
use Rattle.plan.specs.Plan.{Statement, Alloc, Publish, block}
use Rattle.plan.specs.Lines.{lines, block_lines}
use Rattle.plan.specs.View.{statement_of}
use Rattle.sched.specs.Skeleton.{SkeletonText}
use Rattle.blocks.specs.declared.group.Body.{Body}
use Rattle.sched.specs.declared.roots.Root.{Root}
use Rattle.blocks.specs.declared.loading.Load.{Load}
use Rattle.lower.specs.declared.parties.Party.{Party}
use Rattle.blocks.specs.declared.whole.Fetch.{Fetch as CodeFetch}
use Rattle.sched.specs.Stored.{FormulaText, StoredText}
use Rattle.sched.specs.Loading.{Loads}
use Rattle.blocks.specs.Loading.{load_of}
use Rattle.sched.specs.Fetches.{Entry}
use Rattle.blocks.specs.Fetches.{FetchText, Claims, last_number, with_fetches, fetch_seen}
use Rattle.lower.specs.Fetches.{is_fetched, fetched_if, fetched_groups, Calls, IsTaken, AreFetched, loads_from}
use Rattle.blocks.specs.Blocks.{dimensions_of, claimed_region, own_places}
use Rattle.blocks.specs.Bodies.{step_lines, AreNests, IsBodyWith, first_lines}
use Rattle.lower.specs.Bodies.{last_claim}
use Rattle.meaning.specs.Algorithm.{Algorithm}
use Rattle.lin.specs.declared.scope.Binding.{Binding}
use Rattle.sched.specs.Around.{grid_scope}
use Rattle.regions.specs.Taken.{sites_of}
use Rattle.regions.specs.Needs.{pieces_needed}
use Rattle.lower.proofs.Cuts.{taken_lies}
use Rattle.blocks.specs.Making.{AddsClaim, with_first, NestsMade}
use Rattle.lower.specs.Making.{IsBegun, FetchMade, MayMake, FetchesMade, BodyMade, GroupMade}
use Rattle.lower.specs.Groups.{line_behind, party_of, AreBodies, BodiesMade}
use Rattle.sched.specs.Groups.{root_of}
use Rattle.blocks.proofs.Claimed.{behind_more, lines_append, lines_stepped}

-- ---- what is fetched

pub fetch_made : (n h b k : ℕ) (e : Entry) (f : FetchText) (need : Need) (load : Load) (old new : Body) (one : List Load)
    → AddsClaim k b e.0.subject.name (last_number e.2) f.region old.claims.items new.claims.items
    → f.buffer ≡ b → f.function ≡ e.0.subject.name → f.group ≡ h → need.group ≡ n → need.needed ≡ h → need.region ≡ pieces_needed e.0 e.1.region e.1.skeleton.grid f.region
    → new.needs.items ≡ old.needs.items ++ need ∷ []
    → one ≡ old.loads.items → new.loads.items ≡ one ++ load ∷ [] → load.function.now ≡ f.function → load.claim ≡ old.next_claim
    → new.next_claim ≡ old.next_claim + 1 → old.next_buffer ≡ b → new.next_buffer ≡ b + 1 → new.line ≡ old.line + 2 → k ≡ new.line - 1
    → new.windows.items ≡ old.windows.items → FetchMade n h e f old new
fetch_made n h b k e f need load old new one a buffered named grouped needing needed pieces needs loads pushed function number next is_next numbered lined after held =
    let at : k ≡ old.line + 1 = omega (arith, lined, after) in
    record {
      need = need;
      claim = a.claim;
      is = record {
        buffered = buffered ∙ sym is_next;
        named = named;
        grouped = grouped;
        needing = needing;
        needed = needed;
        pieces = pieces;
        claimed = subst (λ (l : ℕ). Claims l old.next_buffer e.0.subject.name (last_number e.2) f.region a.claim) at
            (subst (λ (q : ℕ). Claims k q e.0.subject.name (last_number e.2) f.region a.claim) (sym is_next) a.claims);
      };
      needed = needs;
      claimed = a.added;
      loaded = ap (map load_of) (pushed ∙ ap (λ (l : List Load). l ++ load ∷ []) loads) ∙ (map-append load_of old.loads.items (load ∷ []) ∙ (λ i. map load_of old.loads.items ++
          (function i, number i) ∷ []));
      counted = next;
      numbered = numbered ∙ ap (λ (q : ℕ). q + 1) (sym is_next);
      lined = lined;
      held = held;
    }

pub fetches_none : (s : Calls) (u : List Binding) (us : List FormulaText) (n h : ℕ) (rs : List Root) (fs : List CodeFetch) (b : Body) → length rs < 1 → fs ≡ []
    → FetchesMade s u n (fetched_groups us n h (map root_of rs)) (map fetch_seen fs) b b
fetches_none s u us n h [] [] b none nothing =
    record {
      needs = [];
      claims = [];
      fetched = tt;
      needed = sym (append-nil b.needs.items);
      claimed = sym (append-nil b.claims.items);
      loaded = sym (append-nil (map load_of b.loads.items));
      counted = omega arith;
      lined = omega arith;
      held = refl;
    }
fetches_none s u us n h [] (f ∷ fs) b none nothing = absurd cc
fetches_none s u us n h (r ∷ rs) fs b none nothing = absurd (omega (arith, none))

fetches_skipped : (s : Calls) (u : List Binding) (n : ℕ) (xs : List (ℕ × Entry)) (fs : List FetchText) (old one new : Body) → one ≡ old → FetchesMade s u n xs fs one new
    → FetchesMade s u n xs fs old new
fetches_skipped s u n xs fs old one new e m = subst (λ (b : Body). FetchesMade s u n xs fs b new) e m

fetches_put : (s : Calls) (u : List Binding) (n h : ℕ) (e : Entry) (f : FetchText) (xs : List (ℕ × Entry)) (fs : List FetchText) (old one new : Body) → FetchMade n h e f old one
    → IsTaken s u e.0.subject.name e.1.region f.region f.places → FetchesMade s u n xs fs one new
    → FetchesMade s u n ((h, e) ∷ xs) (f ∷ fs) old new
fetches_put s u n h e f xs fs old one new m taken rest =
    let by_line : AreFetched s u n one.next_buffer (old.line + 2) xs fs rest.needs rest.claims =
    subst (λ (l : ℕ). AreFetched s u n one.next_buffer l xs fs rest.needs rest.claims) m.lined rest.fetched in
    let behind : AreFetched s u n (old.next_buffer + 1) (old.line + 2) xs fs rest.needs rest.claims =
    subst (λ (b : ℕ). AreFetched s u n b (old.line + 2) xs fs rest.needs rest.claims) m.numbered by_line in
    let loads : map load_of new.loads.items ≡ map load_of one.loads.items ++ loads_from (old.next_claim + 1) fs =
    rest.loaded ∙ ap (λ (c : ℕ). map load_of one.loads.items ++ loads_from c fs) m.counted in
    let number : one.next_claim ≡ old.next_claim + 1 = m.counted in
    let count : new.next_claim ≡ one.next_claim + length fs = rest.counted in
    let line : one.line ≡ old.line + 2 = m.lined in
    let lines_of : new.line ≡ one.line + 2 * length fs = rest.lined in
    record {
      needs = m.need ∷ rest.needs;
      claims = m.claim ∷ rest.claims;
      fetched = (m.is, record { taken = taken; inside = taken_lies s u e.0.subject.name e.1.region f.region f.places taken }, behind);
      needed = behind_more old.needs.items one.needs.items new.needs.items (m.need ∷ []) rest.needs m.needed rest.needed;
      claimed = behind_more old.claims.items one.claims.items new.claims.items (m.claim ∷ []) rest.claims m.claimed rest.claimed;
      loaded = behind_more (map load_of old.loads.items) (map load_of one.loads.items) (map load_of new.loads.items) ((f.function, old.next_claim) ∷ []) (loads_from
          (old.next_claim + 1) fs) m.loaded loads;
      counted = omega (arith, number, count);
      lined = omega (arith, line, lines_of);
      held = rest.held ∙ m.held;
    }

-- what is fetched of one function, if anything, and then of the others
pub fetches_first : (s : Calls) (u : List Binding) (us : List FormulaText) (n h m : ℕ) (e : Entry) (es : List Entry) (o : Option FetchText) (fs gs : List FetchText) (old one new : Body)
    → MayMake s u n (is_fetched us n h e) h e o old one
    → FetchesMade s u n (fetched_groups us n m es) fs one new → m ≡ h + 1 → gs ≡ with_first o fs → FetchesMade s u n (fetched_groups us n h (e ∷ es)) gs old new
fetches_first s u us n h m e es None fs gs old one new may rest next is =
    let others : FetchesMade s u n (fetched_groups us n (h + 1) es) fs old new =
    subst (λ (q : ℕ). FetchesMade s u n (fetched_groups us n q es) fs old new) next (fetches_skipped s u n (fetched_groups us n m es) fs old one new may.1 rest) in
    subst (λ (l : List FetchText). FetchesMade s u n (fetched_groups us n h (e ∷ es)) l old new) (sym is)
    (subst (λ (b : Bool). FetchesMade s u n (fetched_if b h e (fetched_groups us n (h + 1) es)) fs old new) (sym may.0) others)
fetches_first s u us n h m e es (Some f) fs gs old one new may rest next is =
    let others : FetchesMade s u n (fetched_groups us n (h + 1) es) fs one new = subst (λ (q : ℕ). FetchesMade s u n (fetched_groups us n q es) fs one new) next rest in
    subst (λ (l : List FetchText). FetchesMade s u n (fetched_groups us n h (e ∷ es)) l old new) (sym is)
    (subst (λ (b : Bool). FetchesMade s u n (fetched_if b h e (fetched_groups us n (h + 1) es)) (f ∷ fs) old new) (sym may.0)
    (fetches_put s u n h e f (fetched_groups us n (h + 1) es) fs old one new may.1 may.2 others))

fetches_long : (fs : List FetchText) (xs : List Statement) → block_lines (block (with_fetches fs xs)) ≡ 2 * length fs + block_lines (block xs)
fetches_long [] xs = omega arith
fetches_long (f ∷ fs) xs = let rest = fetches_long fs xs in omega (arith, rest)

pub body_long : (g : StoredText) (k : SkeletonText) (places : List Places) (fetches : List FetchText) (nests : List Statement) (p : ℕ) (b : Statement)
    → IsBodyWith g k places fetches nests p b
    → lines b ≡ step_lines k.head + (1 + (2 * length fetches + (block_lines (block nests) + 1)))
body_long g k places fetches nests p b with =
    let last = nests ++ Publish p ∷ [] in
    let inner = Alloc 0 g.subject.name places ∷ with_fetches fetches last in
    let all : lines b ≡ step_lines k.head + block_lines (block inner) = ap lines with.is ∙ lines_stepped k.head (block inner) in
    let middle : block_lines (block (with_fetches fetches last)) ≡ 2 * length fetches + block_lines (block last) = fetches_long fetches last in
    let end : block_lines (block last) ≡ block_lines (block nests) + 1 = lines_append nests (Publish p ∷ []) in
    omega (arith, all, middle, end)

-- ---- the body

module _ (a : Algorithm) (all : List Entry) (n c line : ℕ) (e : Entry) where
  -- the calls of a group's own function, and the symbols of its grid
  abbrev calls : Calls
  calls = sites_of a e.0 e.2 e.1.skeleton

  abbrev symbols : List Binding
  symbols = grid_scope e.1.skeleton.grid

  pub whole_made : (begin one two : Body) (fetches : List FetchText) (nests : List Statement) (p : ℕ) (b : Statement) (old new : List Claim) (before behind : List Need)
      → IsBegun c (line + first_lines e.1.skeleton) begin → FetchesMade calls symbols n (fetched_groups e.2 n 0 all) fetches begin one
      → NestsMade e.0 e.2 (claimed_region (dimensions_of e.0 e.1.region e.1.skeleton)) 0 e.1.skeleton.nests nests one
      two
      → p ≡ two.next_claim - 1
      → new ≡ old ++ two.claims.items → behind ≡ before ++ two.needs.items → IsBodyWith e.0 e.1.skeleton (own_places (dimensions_of e.0 e.1.region e.1.skeleton)) fetches nests p b
      → BodyMade a all n c line two.line e old new before behind b
  whole_made begin one two fetches nests p b old new before behind begun f m published claims needs with =
      let k = e.1.skeleton in
      let ds = dimensions_of e.0 e.1.region k in
      let r = claimed_region ds in
      let loads : map load_of one.loads.items ≡ loads_from c fetches =
      f.loaded ∙ (λ i. map load_of (begun.loads i) ++ loads_from (begun.next_claim i) fetches) in
      let first : one.next_claim ≡ c + length fetches = f.counted ∙ ap (λ (q : ℕ). q + length fetches) begun.next_claim in
      let count : two.next_claim ≡ one.next_claim + length k.nests = m.counted in
      let last : p ≡ last_claim c fetches k = omega (arith, published, first, count) in
      let here : one.line ≡ line + first_lines k + 2 * length fetches = f.lined ∙ ap (λ (q : ℕ). q + 2 * length fetches) begun.next_line in
      let by_line : AreFetched calls symbols n begin.next_buffer (line + first_lines k) (fetched_groups e.2 n 0 all) fetches f.needs f.claims =
      subst (λ (q : ℕ). AreFetched calls symbols n begin.next_buffer q (fetched_groups e.2 n 0 all) fetches f.needs f.claims) begun.next_line f.fetched in
      let fetched : AreFetched calls symbols n 1 (line + first_lines k) (fetched_groups e.2 n 0 all) fetches f.needs f.claims =
      subst (λ (q : ℕ). AreFetched calls symbols n q (line + first_lines k) (fetched_groups e.2 n 0 all) fetches f.needs f.claims) begun.next_buffer by_line in
      let lines_of : two.needs.items ≡ f.needs = m.needed ∙ (f.needed ∙ ap (λ (l : List Need). l ++ f.needs) begun.needs) in
      let fetching : AreFetched calls symbols n 1 (line + first_lines k) (fetched_groups e.2 n 0 all) fetches two.needs.items f.claims =
      subst (λ (l : List Need). AreFetched calls symbols n 1 (line + first_lines k) (fetched_groups e.2 n 0 all) fetches l f.claims) (sym lines_of) fetched in
      let own : one.claims.items ≡ f.claims = f.claimed ∙ ap (λ (l : List Claim). l ++ f.claims) begun.claims in
      let by_loads : AreNests e.0 e.2 r (loads_from c fetches) one.next_claim one.line 0 k.nests nests m.claims =
      subst (λ (l : Loads). AreNests e.0 e.2 r l one.next_claim one.line 0 k.nests nests m.claims) loads m.nested in
      let by_number : AreNests e.0 e.2 r (loads_from c fetches) (c + length fetches) one.line 0 k.nests nests m.claims =
      subst (λ (q : ℕ). AreNests e.0 e.2 r (loads_from c fetches) q one.line 0 k.nests nests m.claims) first by_loads in
      let nested : AreNests e.0 e.2 r (loads_from c fetches) (c + length fetches) (line + first_lines k + 2 * length fetches) 0 k.nests nests m.claims =
      subst (λ (q : ℕ). AreNests e.0 e.2 r (loads_from c fetches) (c + length fetches) q 0 k.nests nests m.claims) here by_number in
      let body_lines : lines b ≡ step_lines k.head + (1 + (2 * length fetches + (block_lines (block nests) + 1))) = body_long e.0 k (own_places ds) fetches nests p b with in
      let behind_nests : two.line ≡ one.line + block_lines (block nests) = m.lined in
      let ends : two.line ≡ line + lines b = omega (arith, here, behind_nests, body_lines) in
      record {
        claims = two.claims.items;
        needs = two.needs.items;
        claimed = claims;
        needed = needs;
        ends = ends;
        is = record {
          fetches = fetches;
          fetched = f.claims;
          own = m.claims;
          claimed = m.claimed ∙ ap (λ (l : List Claim). l ++ m.claims) own;
          fetching = fetching;
          nests = nests;
          nested = nested;
          with = subst (λ (q : ℕ). IsBodyWith e.0 k (own_places ds) fetches nests q b) last with;
        };
      }

  pub done : (last next : ℕ) (old new : List Claim) (before behind : List Need) (p b : Statement) (A : Type 0) → p ≡ b → next ≡ last + 1
      → (A → BodyMade a all n c line last e old new before behind b) → A
      → (q : ℕ) × (next ≡ q + 1) × BodyMade a all n c line q e old new before behind p
  done last next old new before behind p b A is e_next f x = (last, e_next, subst (BodyMade a all n c line last e old new before behind) (sym is) (f x))

-- ---- the bodies of groups

pub bodies_none : (a : Algorithm) (all : List Entry) (n c line : ℕ) (qs : List Party) (ps : List Group) (old : List Claim) (before : List Need) → length qs < 1
    → BodiesMade a all n c line (map party_of qs) ps old old before before
bodies_none a all n c line [] ps old before none =
    record { claims = []; needs = []; claimed = sym (append-nil old); needed = sym (append-nil before); are = (refl, refl) }
bodies_none a all n c line (q ∷ qs) ps old before none = absurd (omega (arith, none))

-- the first of some groups, and the others
pub bodies_first : (a : Algorithm) (all : List Entry) (n m c k line next : ℕ) (e : Entry) (es : List Entry) (p : Group) (ps qs : List Group) (old one new : List Claim) (before mid behind : List Need)
    → GroupMade a all n c line next e old one before mid p → BodiesMade a all m k next es ps one new mid behind → m ≡ n + 1 → length old ≡ c → k ≡ length one → qs ≡ p ∷ ps
    → BodiesMade a all n c line (e ∷ es) qs old new before behind
bodies_first a all n m c k line next e es p ps qs old one new before mid behind made rest is_next counted is all_groups =
    let first = made.2 in
    let ends : made.0 ≡ line + lines (statement_of p.body) = first.ends in
    let by_one : next ≡ made.0 + 1 = made.1 in
    let there : next ≡ line_behind line p = omega (arith, ends, by_one) in
    let long : length one ≡ length old + length first.claims = ap length first.claimed ∙ length-append old first.claims in
    let number : k ≡ c + length first.claims = is ∙ (long ∙ ap (λ (q : ℕ). q + length first.claims) counted) in
    let by_line : AreBodies a all m k (line_behind line p) es ps rest.claims rest.needs = subst (λ (q : ℕ). AreBodies a all m k q es ps rest.claims rest.needs) there rest.are in
    let numbered : AreBodies a all (n + 1) k (line_behind line p) es ps rest.claims rest.needs =
    subst (λ (q : ℕ). AreBodies a all q k (line_behind line p) es ps rest.claims rest.needs) is_next by_line in
    let others : AreBodies a all (n + 1) (c + length first.claims) (line_behind line p) es ps rest.claims rest.needs =
    subst (λ (q : ℕ). AreBodies a all (n + 1) q (line_behind line p) es ps rest.claims rest.needs) number numbered in
    let both : AreBodies a all n c line (e ∷ es) (p ∷ ps) (first.claims ++ rest.claims) (first.needs ++ rest.needs) =
    record {
      own_claims = first.claims;
      own_needs = first.needs;
      other_claims = rest.claims;
      other_needs = rest.needs;
      claimed = refl;
      needed = refl;
      here = first.is;
      behind = others;
    } in
    record {
      claims = first.claims ++ rest.claims;
      needs = first.needs ++ rest.needs;
      claimed = behind_more old one new first.claims rest.claims first.claimed rest.claimed;
      needed = behind_more before mid behind first.needs rest.needs first.needed rest.needed;
      are = subst (λ (l : List Group). AreBodies a all n c line (e ∷ es) l (first.claims ++ rest.claims) (first.needs ++ rest.needs)) (sym all_groups) both;
    }

-- where none are before them, these are all lines
pub bodies_all : (a : Algorithm) (all : List Entry) (n c line : ℕ) (es : List Entry) (ps : List Group) (old new : List Claim) (before behind : List Need) → old ≡ [] → before ≡ []
    → BodiesMade a all n c line es ps old new before behind → AreBodies a all n c line es ps new behind
bodies_all a all n c line es ps old new before behind none no_needs m =
    let claims : new ≡ m.claims = m.claimed ∙ ap (λ (l : List Claim). l ++ m.claims) none in
    let needs : behind ≡ m.needs = m.needed ∙ ap (λ (l : List Need). l ++ m.needs) no_needs in
    subst (λ (l : List Claim). AreBodies a all n c line es ps l behind) (sym claims) (subst (λ (l : List Need). AreBodies a all n c line es ps m.claims l) (sym needs) m.are)
