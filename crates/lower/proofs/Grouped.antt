-- Groups in whose loops functions are computed, as they are made one after another.
-- What crates below need of it stands there: `blocks`.
use Rattle.std.proofs.Common.{◌≡◌, ℕ, ◌+◌, ◌-◌, ◌*◌, ◌<◌, true, false, List, [], ◌∷◌, ◌++◌, length, map, Option, Some, None, Result, Ok, Err, refl, sym, ap, subst, ◌∙◌, arith}
use Rattle.std.specs.Global.{Vec}
use Rattle.std.proofs.lemmas.List.{append_assoc, append-nil, length-append, length-map, map-append}
use Rattle.lin.specs.declared.span.Span1.{Span1}
use Rattle.meaning.specs.Algorithm.{Algorithm}
use Rattle.plan.specs.declared.certificate.cert.Cert.{Cert}
use Rattle.plan.specs.declared.certificate.cert.Claim.{Claim as CodeClaim}
use Rattle.plan.specs.declared.certificate.cert.Need.{Need}
use Rattle.plan.specs.declared.certificate.cert.Window.{Window}
use Rattle.plan.specs.declared.plan.Group.{Group}
use Rattle.plan.specs.Certificate.Certificate.{Claim, claim_of}
use Rattle.plan.specs.Plan.{Statement}
use Rattle.plan.specs.Lines.{lines}
use Rattle.plan.specs.View.{statement_of}
use Rattle.sched.specs.Skeleton.{SkeletonText}
use Rattle.sched.specs.declared.roots.Root.{Root}
use Rattle.blocks.specs.declared.group.Body.{Body}
use Rattle.sched.specs.declared.hosts.Inner.{Inner}
use Rattle.lower.specs.declared.parties.Party.{Party}
use Rattle.blocks.specs.declared.whole.Fetch.{Fetch as CodeFetch}
use Rattle.blocks.specs.Loading.{load_of}
use Rattle.sched.specs.Fetches.{Entry}
use Rattle.blocks.specs.Fetches.{FetchText, fetch_seen}
use Rattle.lower.specs.Fetches.{loads_from}
use Rattle.blocks.specs.Blocks.{dimensions_of, claimed_region, own_places}
use Rattle.blocks.specs.Bodies.{first_lines, IsBodyWith}
use Rattle.lower.specs.Making.{IsBegun, FetchMade, GroupMade}
use Rattle.blocks.specs.Making.{with_first}
use Rattle.sched.specs.Placed.{PlacedText, SoFar, inner_seen}
use Rattle.blocks.specs.Placed.{seat_of, so_far, group_owner, nests_over_grid, HasSome, begun}
use Rattle.lower.specs.Placed.{numbered, picked, AreFetchedBy, with_fetched, MayFetch, FetchesBy}
use Rattle.lower.specs.Computed.{AreFound, AreAllFound, AreFoundIf, AreFoundIn}
use Rattle.sched.specs.Groups.{root_of}
use Rattle.lower.specs.Groups.{party_of, inners_of, placed_of, line_behind, AreBodiesBy, MixedMade, GroupBy, GroupsBy, IsKnown, AreKnown, AreFoundOf, AreAllFoundIf, all_known, inside_of}
use Rattle.lower.specs.Groups.{inside_at, placed_in}
use Rattle.lower.specs.Homes.{AreAtHome, AreAllAtHome}

-- ---- lists

-- some behind others, and more behind these
behind_more : {A : Type 0} (old one new xs ys : List A) → one ≡ old ++ xs → new ≡ one ++ ys → new ≡ old ++ (xs ++ ys)
behind_more old one new xs ys e h = h ∙ (ap (λ l. l ++ ys) e ∙ append_assoc old xs ys)

-- ---- what is fetched

pub fetched_none : (n h : ℕ) (rs : List Root) (fs : List CodeFetch) (b : Body) → length rs < 1 → fs ≡ [] → FetchesBy n (numbered h (map root_of rs)) (map fetch_seen fs) b b
fetched_none n h [] [] b none nothing =
    let line : b.line ≡ b.line + 2 * 0 = omega arith in
    let buffer : b.next_buffer ≡ b.next_buffer + 0 = omega arith in
    let claim : b.next_claim ≡ b.next_claim + 0 = omega arith in
    record {
      called = [];
      needs = [];
      claims = [];
      fetched = tt;
      state = λ i. record {
        line = line i;
        symbol = b.next_symbol;
        buffer = buffer i;
        claim = claim i;
        loads = sym (append-nil (map load_of b.loads.items)) i;
        seats = map seat_of b.seats.items;
        needs = sym (append-nil b.needs.items) i;
        claims = sym (append-nil (map claim_of b.claims.items)) i;
        windows = b.windows.items;
      };
    }
fetched_none n h [] (f ∷ fs) b none nothing = absurd cc
fetched_none n h (r ∷ rs) fs b none nothing = absurd (omega (arith, none))

fetched_put : (n h : ℕ) (e : Entry) (f : FetchText) (xs : List (ℕ × Entry)) (fs : List FetchText) (old one new : Body) → FetchMade n h e f old one → one.next_symbol ≡ old.next_symbol
    → one.seats.items ≡ old.seats.items → FetchesBy n xs fs one new → FetchesBy n ((h, e) ∷ xs) (f ∷ fs) old new
fetched_put n h e f xs fs old one new m symbols seats rest =
    let next_line : one.line ≡ old.line + 2 = m.lined in
    let next_buffer : one.next_buffer ≡ old.next_buffer + 1 = m.numbered in
    let next_claim : one.next_claim ≡ old.next_claim + 1 = m.counted in
    let line : one.line + 2 * length fs ≡ old.line + 2 * length (f ∷ fs) = omega (arith, next_line) in
    let buffer : one.next_buffer + length fs ≡ old.next_buffer + length (f ∷ fs) = omega (arith, next_buffer) in
    let claim : one.next_claim + length fs ≡ old.next_claim + length (f ∷ fs) = omega (arith, next_claim) in
    let ls = map load_of old.loads.items in
    let loads : map load_of one.loads.items ++ loads_from one.next_claim fs ≡ ls ++ loads_from old.next_claim (f ∷ fs) =
    (λ i. m.loaded i ++ loads_from (next_claim i) fs) ∙ append_assoc ls ((f.function, old.next_claim) ∷ []) (loads_from (old.next_claim + 1) fs) in
    let needs : one.needs.items ++ rest.needs ≡ old.needs.items ++ (m.need ∷ rest.needs) =
    ap (λ (l : List Need). l ++ rest.needs) m.needed ∙ append_assoc old.needs.items (m.need ∷ []) rest.needs in
    let cs = map claim_of old.claims.items in
    let told : map claim_of one.claims.items ≡ cs ++ claim_of m.claim ∷ [] = ap (map claim_of) m.claimed ∙ map-append claim_of old.claims.items (m.claim ∷ []) in
    let claims : map claim_of one.claims.items ++ map claim_of rest.claims ≡ cs ++ (claim_of m.claim ∷ map claim_of rest.claims) =
    ap (λ (l : List Claim). l ++ map claim_of rest.claims) told ∙ append_assoc cs (claim_of m.claim ∷ []) (map claim_of rest.claims) in
    let by_line : AreFetchedBy n one.next_buffer (old.line + 2) (picked rest.called xs) fs rest.needs rest.claims =
    subst (λ (l : ℕ). AreFetchedBy n one.next_buffer l (picked rest.called xs) fs rest.needs rest.claims) next_line rest.fetched in
    let behind : AreFetchedBy n (old.next_buffer + 1) (old.line + 2) (picked rest.called xs) fs rest.needs rest.claims =
    subst (λ (b : ℕ). AreFetchedBy n b (old.line + 2) (picked rest.called xs) fs rest.needs rest.claims) next_buffer by_line in
    record {
      called = true ∷ rest.called;
      needs = m.need ∷ rest.needs;
      claims = m.claim ∷ rest.claims;
      fetched = (m.is, behind);
      state = rest.state ∙ (λ i. record {
        line = line i;
        symbol = symbols i;
        buffer = buffer i;
        claim = claim i;
        loads = loads i;
        seats = map seat_of (seats i);
        needs = needs i;
        claims = claims i;
        windows = m.held i;
      });
    }

fetched_skipped : (n h : ℕ) (e : Entry) (xs : List (ℕ × Entry)) (fs : List FetchText) (old new : Body) → FetchesBy n xs fs old new → FetchesBy n ((h, e) ∷ xs) fs old new
fetched_skipped n h e xs fs old new m = record { called = false ∷ m.called; needs = m.needs; claims = m.claims; fetched = m.fetched; state = m.state }

-- what is fetched of one function, if anything, and then of the others
pub fetched_first : (n h m : ℕ) (e : Entry) (es : List Entry) (o : Option FetchText) (fs gs : List FetchText) (old one new : Body) → MayFetch n h e o old one
    → FetchesBy n (numbered m es) fs one new → m ≡ h + 1 → gs ≡ with_first o fs → FetchesBy n (numbered h (e ∷ es)) gs old new
fetched_first n h m e es None fs gs old one new may rest next is =
    let others : FetchesBy n (numbered (h + 1) es) fs one new = subst (λ (q : ℕ). FetchesBy n (numbered q es) fs one new) next rest in
    let begun : FetchesBy n (numbered (h + 1) es) fs old new = subst (λ (b : Body). FetchesBy n (numbered (h + 1) es) fs b new) may others in
    subst (λ (l : List FetchText). FetchesBy n (numbered h (e ∷ es)) l old new) (sym is) (fetched_skipped n h e (numbered (h + 1) es) fs old new begun)
fetched_first n h m e es (Some f) fs gs old one new may rest next is =
    let others : FetchesBy n (numbered (h + 1) es) fs one new = subst (λ (q : ℕ). FetchesBy n (numbered q es) fs one new) next rest in
    subst (λ (l : List FetchText). FetchesBy n (numbered h (e ∷ es)) l old new) (sym is) (fetched_put n h e f (numbered (h + 1) es) fs old one new may.0 may.1 may.2 others)

-- ---- a group

begun_is : (c line : ℕ) (k : SkeletonText) (b : Body) → IsBegun c (line + first_lines k) b → b.next_symbol ≡ length k.grid + length k.head → b.seats.items ≡ [] → so_far b ≡ begun c line k
begun_is c line k b is symbols seats = λ i. record {
  line = is.next_line i;
  symbol = symbols i;
  buffer = is.next_buffer i;
  claim = is.next_claim i;
  loads = map load_of (is.loads i);
  seats = map seat_of (seats i);
  needs = is.needs i;
  claims = map claim_of (is.claims i);
  windows = is.windows i;
}

module _ (all : List Entry) (n c line : ℕ) (is : List PlacedText) (e : Entry) where
  abbrev region : List Span1
  region = claimed_region (dimensions_of e.0 e.1.region e.1.skeleton)

  pub mixed_made : (begin one two : Body) (fetches : List FetchText) (nests : List Statement) (p : ℕ) (b : Statement) (old new : Cert) → IsBegun c (line + first_lines e.1.skeleton) begin
      → begin.next_symbol ≡ length e.1.skeleton.grid + length e.1.skeleton.head → begin.seats.items ≡ [] → FetchesBy n (numbered 0 all) fetches begin one
      → nests_over_grid is (group_owner e region) e.1.skeleton (so_far one) ≡ Some (nests, so_far two) → p ≡ two.next_claim - 1 → new.claims.items ≡ old.claims.items ++ two.claims.items
      → new.needs.items ≡ old.needs.items ++ two.needs.items → new.windows.items ≡ old.windows.items ++ two.windows.items
      → IsBodyWith e.0 e.1.skeleton (own_places (dimensions_of e.0 e.1.region e.1.skeleton)) fetches nests p b → MixedMade all n c line (two.line + 1) is e old new b
  mixed_made begin one two fetches nests p b old new first symbols seats f made published claims needs windows with =
      let k = e.1.skeleton in
      let xs = picked f.called (numbered 0 all) in
      let state : so_far one ≡ with_fetched fetches f.needs f.claims (begun c line k) = f.state ∙ ap (with_fetched fetches f.needs f.claims) (begun_is c line k begin first symbols seats) in
      let by_line : AreFetchedBy n begin.next_buffer (line + first_lines k) xs fetches f.needs f.claims =
      subst (λ (q : ℕ). AreFetchedBy n begin.next_buffer q xs fetches f.needs f.claims) first.next_line f.fetched in
      record {
        claims = two.claims.items;
        needs = two.needs.items;
        windows = two.windows.items;
        claimed = claims;
        needed = needs;
        held = windows;
        made = record {
          called = f.called;
          fetches = fetches;
          lines_of = f.needs;
          fetched = f.claims;
          fetching = subst (λ (q : ℕ). AreFetchedBy n q (line + first_lines k) xs fetches f.needs f.claims) first.next_buffer by_line;
          nests = nests;
          done = so_far two;
          made = subst (λ (s : SoFar). nests_over_grid is (group_owner e region) k s ≡ Some (nests, so_far two)) state made;
          with = subst (λ (q : ℕ). IsBodyWith e.0 k (own_places (dimensions_of e.0 e.1.region k)) fetches nests q b) published with;
          claimed = refl;
          needed = refl;
          held = refl;
          behind = refl;
        };
      }

-- whether functions are computed inside its loops or not
pub group_by : (a : Algorithm) (all : List Entry) (n c line next : ℕ) (inners : List Inner) (e : Entry) (p : Group) (old new : Cert)
    → (inners ≡ [] → GroupMade a all n c line next e old.claims.items new.claims.items old.needs.items new.needs.items p) → (inners ≡ [] → new.windows.items ≡ old.windows.items)
    → (HasSome (map inner_seen inners) → MixedMade all n c line next (map inner_seen inners) e old new (statement_of p.body))
    → GroupBy a all n c line next (map inner_seen inners) e p old new
group_by a all n c line next [] e p old new whole windows mixed =
    let made = whole refl in
    let body = made.2 in
    let last : made.0 ≡ line + lines (statement_of p.body) = body.ends in
    let one : next ≡ made.0 + 1 = made.1 in
    let there : next ≡ line_behind line p = omega (arith, last, one) in
    record {
      claims = body.claims;
      needs = body.needs;
      windows = [];
      claimed = body.claimed;
      needed = body.needed;
      held = windows refl ∙ sym (append-nil old.windows.items);
      made = (body.is, there, refl);
    }
group_by a all n c line next (i ∷ is) e p old new whole windows mixed =
    let made = mixed tt in
    record {
      claims = made.claims;
      needs = made.needs;
      windows = made.windows;
      claimed = made.claimed;
      needed = made.needed;
      held = made.held;
      made = made.made;
    }

-- the same of a root function with those that are computed inside its loops
pub of_party : (a : Algorithm) (all : List Entry) (n c line next : ℕ) (q : Party) (v : Vec Inner) (inners : List Inner) (p : Group) (old new : Cert) → q.inners ≡ Ok v → inners ≡ v.items
    → GroupBy a all n c line next (map inner_seen inners) (root_of q.root) p old new → GroupBy a all n c line next (placed_of q) (party_of q) p old new
of_party a all n c line next q v inners p old new e h made =
    let is : map inner_seen inners ≡ placed_of q = ap (map inner_seen) h ∙ sym (ap inners_of e) in
    subst (λ (l : List PlacedText). GroupBy a all n c line next l (root_of q.root) p old new) is made

-- ---- groups

pub groups_none : (a : Algorithm) (all : List Entry) (n c line : ℕ) (qs : List Party) (ps : List Group) (old : Cert) → length qs < 1 → ps ≡ []
    → GroupsBy a all n c line (map placed_of qs) (map party_of qs) ps old old
groups_none a all n c line [] [] old none nothing =
    record {
      claims = [];
      needs = [];
      windows = [];
      claimed = sym (append-nil old.claims.items);
      needed = sym (append-nil old.needs.items);
      held = sym (append-nil old.windows.items);
      are = (refl, refl, refl);
    }
groups_none a all n c line [] (p ∷ ps) old none nothing = absurd cc
groups_none a all n c line (q ∷ qs) ps old none nothing = absurd (omega (arith, none))

-- the first of some groups, and the others
pub groups_first : (a : Algorithm) (all : List Entry) (n m c k line next : ℕ) (is : List PlacedText) (others : List (List PlacedText)) (e : Entry) (es : List Entry) (p : Group) (ps qs : List Group)
    (old one new : Cert) → GroupBy a all n c line next is e p old one → GroupsBy a all m k next others es ps one new → m ≡ n + 1 → length old.claims.items ≡ c
    → k ≡ length one.claims.items → qs ≡ p ∷ ps → GroupsBy a all n c line (is ∷ others) (e ∷ es) qs old new
groups_first a all n m c k line next is others e es p ps qs old one new first rest is_next counted number all_groups =
    let long : length one.claims.items ≡ length old.claims.items + length first.claims = ap length first.claimed ∙ length-append old.claims.items first.claims in
    let at : k ≡ c + length first.claims = number ∙ (long ∙ ap (λ (q : ℕ). q + length first.claims) counted) in
    let numbered : AreBodiesBy a all (n + 1) k next others es ps rest.claims rest.needs rest.windows =
    subst (λ (q : ℕ). AreBodiesBy a all q k next others es ps rest.claims rest.needs rest.windows) is_next rest.are in
    let behind : AreBodiesBy a all (n + 1) (c + length first.claims) next others es ps rest.claims rest.needs rest.windows =
    subst (λ (q : ℕ). AreBodiesBy a all (n + 1) q next others es ps rest.claims rest.needs rest.windows) at numbered in
    let claims = first.claims ++ rest.claims in
    let needs = first.needs ++ rest.needs in
    let windows = first.windows ++ rest.windows in
    let both : AreBodiesBy a all n c line (is ∷ others) (e ∷ es) (p ∷ ps) claims needs windows =
    record {
      next = next;
      own_claims = first.claims;
      own_needs = first.needs;
      own_windows = first.windows;
      other_claims = rest.claims;
      other_needs = rest.needs;
      other_windows = rest.windows;
      claimed = refl;
      needed = refl;
      held = refl;
      here = first.made;
      behind = behind;
    } in
    record {
      claims = claims;
      needs = needs;
      windows = windows;
      claimed = behind_more old.claims.items one.claims.items new.claims.items first.claims rest.claims first.claimed rest.claimed;
      needed = behind_more old.needs.items one.needs.items new.needs.items first.needs rest.needs first.needed rest.needed;
      held = behind_more old.windows.items one.windows.items new.windows.items first.windows rest.windows first.held rest.held;
      are = subst (λ (l : List Group). AreBodiesBy a all n c line (is ∷ others) (e ∷ es) l claims needs windows) (sym all_groups) both;
    }

-- where none are before them, these are all
pub groups_all : (a : Algorithm) (all : List Entry) (n c line : ℕ) (placed : List (List PlacedText)) (es : List Entry) (ps : List Group) (old new : Cert) → old.claims.items ≡ []
    → old.needs.items ≡ [] → old.windows.items ≡ [] → GroupsBy a all n c line placed es ps old new
    → AreBodiesBy a all n c line placed es ps new.claims.items new.needs.items new.windows.items
groups_all a all n c line placed es ps old new no_claims no_needs no_windows m =
    let claims : new.claims.items ≡ m.claims = m.claimed ∙ ap (λ (l : List CodeClaim). l ++ m.claims) no_claims in
    let needs : new.needs.items ≡ m.needs = m.needed ∙ ap (λ (l : List Need). l ++ m.needs) no_needs in
    let windows : new.windows.items ≡ m.windows = m.held ∙ ap (λ (l : List Window). l ++ m.windows) no_windows in
    subst (λ (l : List CodeClaim). AreBodiesBy a all n c line placed es ps l new.needs.items new.windows.items) (sym claims)
    (subst (λ (l : List Need). AreBodiesBy a all n c line placed es ps m.claims l new.windows.items) (sym needs)
    (subst (λ (l : List Window). AreBodiesBy a all n c line placed es ps m.claims m.needs l) (sym windows) m.are))

-- ---- where functions are computed

pub first_at_home : (es : List Entry) (q : Party) (qs all : List Party) → AreAtHome (party_of q) es (placed_of q) → AreAllAtHome (map party_of qs) es (map placed_of qs) → all ≡ q ∷ qs
    → AreAllAtHome (map party_of all) es (map placed_of all)
first_at_home es q qs all first others h = subst (λ (l : List Party). AreAllAtHome (map party_of l) es (map placed_of l)) (sym h) (first, others)

pub at_home_among : (es fs : List Entry) (qs : List Party) → es ≡ fs → AreAllAtHome (map party_of qs) es (map placed_of qs) → AreAllAtHome (map party_of qs) fs (map placed_of qs)
at_home_among es fs qs e h = subst (λ (l : List Entry). AreAllAtHome (map party_of qs) l (map placed_of qs)) e h

pub first_found : (a : Algorithm) (n : ℕ) (es : List Entry) (q : Party) (qs all : List Party) → AreFoundIf a (party_of q) es n [] q.inners → AreFoundOf a n es qs → all ≡ q ∷ qs
    → AreFoundOf a n es all
first_found a n es q qs all first others h = subst (λ (l : List Party). AreFoundOf a n es l) (sym h) (first, others)

pub found_among : (a : Algorithm) (functions : List Root) (es : List Entry) (qs : List Party) → map root_of functions ≡ es
    → AreFoundOf a (length functions) (map root_of functions) qs → AreFoundOf a (length es) es qs
found_among a functions es qs e h =
    let as_many : length functions ≡ length es = sym (length-map functions root_of) ∙ ap length e in
    subst (λ (n : ℕ). AreFoundOf a n es qs) as_many (subst (λ (l : List Entry). AreFoundOf a (length functions) l qs) e h)

pub is_known : (q : Party) (v : Vec Inner) → q.inners ≡ Ok v → IsKnown q.inners
is_known q v e = subst (λ (r : Result (Vec Inner) (List ℕ)). IsKnown r) (sym e) tt

known_found : (a : Algorithm) (e : Entry) (es : List Entry) (n : ℕ) (is : List PlacedText) (r : Result (Vec Inner) (List ℕ)) → AreFoundIf a e es n is r → IsKnown r
    → AreFound a e es n is (inners_of r)
known_found a e es n is (Err x) h k = absurd k
known_found a e es n is (Ok v) h k = h

pub all_found : (a : Algorithm) (n : ℕ) (es : List Entry) (qs : List Party) → AreFoundOf a n es qs → AreKnown qs → AreAllFound a n (map party_of qs) es (map placed_of qs)
all_found a n es [] h k = tt
all_found a n es (q ∷ qs) h k = (known_found a (party_of q) es n [] q.inners h.0 k.0, all_found a n es qs h.1 k.1)

-- the same where a bound may be missing
found_inside : (a : Algorithm) (e : Entry) (es : List Entry) (n : ℕ) (is : List PlacedText) (r : Result (Vec Inner) (List ℕ)) → AreFoundIf a e es n is r → AreFoundIn a e es n is (inside_of r)
found_inside a e es n is (Err x) h = h
found_inside a e es n is (Ok v) h = h

pub all_inside : (a : Algorithm) (n : ℕ) (es : List Entry) (qs : List Party) → AreFoundOf a n es qs → AreAllFoundIf a n (map party_of qs) es (map inside_at qs)
all_inside a n es [] h = tt
all_inside a n es (q ∷ qs) h = (found_inside a (party_of q) es n [] q.inners h.0, all_inside a n es qs h.1)

placed_so : (r : Result (Vec Inner) (List ℕ)) → placed_in (inside_of r) ≡ inners_of r
placed_so (Err x) = refl
placed_so (Ok v) = refl

pub placed_all : (qs : List Party) → map placed_in (map inside_at qs) ≡ map placed_of qs
placed_all [] = refl
placed_all (q ∷ qs) = λ i. placed_so q.inners i ∷ placed_all qs i

known_so : (r : Result (Vec Inner) (List ℕ)) → IsKnown r → inside_of r ≡ Ok (inners_of r)
known_so (Err x) k = absurd k
known_so (Ok v) k = refl

pub known_inside : (qs : List Party) → AreKnown qs → map inside_at qs ≡ all_known (map placed_of qs)
known_inside [] k = refl
known_inside (q ∷ qs) k = λ i. known_so q.inners k.0 i ∷ known_inside qs k.1 i
