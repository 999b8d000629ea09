-- At which places of which nests functions are computed, part by part.
-- What crates below need of it stands there: `regions`.
use Rattle.std.proofs.Common.{◌≡◌, ℕ, zero, suc, ◌+◌, Bool, true, false, List, [], ◌∷◌, ◌++◌, map, Option, Some, None, Result, Ok, Err, refl, sym, ap, subst, ◌∙◌}
use Rattle.std.specs.Prelude.{slice_get, if◌then◌else◌, IfOk, IfSome}
use Rattle.std.specs.Option.{option_map}
use Rattle.std.proofs.lemmas.Option.{slice_get-map}
use Rattle.std.proofs.lemmas.List.{map-append}
use Rattle.meaning.specs.Names.{same_name}
use Rattle.meaning.proofs.Cases.{same_name_is}
use Rattle.sched.specs.declared.schedule.Home.{Home}
use Rattle.sched.specs.declared.skeleton.Step.{Step}
use Rattle.sched.specs.Skeleton.{NestText}
use Rattle.sched.specs.Standing.{◌>>=◌}
use Rattle.sched.specs.declared.roots.Root.{Root}
use Rattle.sched.specs.declared.hosts.Inner.{Inner}
use Rattle.sched.specs.declared.hosts.Host.{Host}
use Rattle.sched.specs.declared.hosts.Host.TheVariants.{Own, Inner as Inside, Later as Anew}
use Rattle.sched.specs.declared.hosts.Spot.{Spot}
use Rattle.sched.specs.Stored.{FormulaText, formula_of, stored_of}
use Rattle.sched.specs.Fetches.{Entry}
use Rattle.sched.specs.Groups.{root_of}
use Rattle.regions.specs.Uses.{first_home}
use Rattle.sched.specs.Placed.{PlacedText, spot, inner_seen}
use Rattle.regions.specs.Homes.{HostText, with_nests, host_at, turn_number, depth_inside, is_over_grid, spot_inside, spot_in, store_spot}
use Rattle.lower.specs.Homes.{IsAtHome, AreAt, AreAtHome, put_before}
use Rattle.blocks.proofs.Renames.{bound}

-- ---- functions at home

pub named_so : (x y p q : List ℕ) (b : Bool) → b ≡ true → b ≡ same_name p q → p ≡ x → q ≡ y → x ≡ y
named_so x y p q b test is first second = sym first ∙ (same_name_is p q (sym is ∙ test) ∙ second)

seen_at : (e : Entry) (functions : List Root) (is : List PlacedText) (n : ℕ) (r : Root) (home : Home) (h : Host) (t : HostText) (d : ℕ) (s : Spot) (i : Inner) → slice_get functions n ≡ Some r
    → first_home (root_of r).0.placed.homes ≡ Some home → host_at e is h ≡ Some t → t.function.subject.name ≡ home.function → Some s ≡ spot_in h t d home.turn
    → s.host ≡ h → i.root ≡ r → i.home ≡ s → i.store ≡ store_spot t (root_of r).0.placed.stores s → IsAtHome e (map root_of functions) is (inner_seen i)
seen_at e functions is n r home h t d s i among homes hosted named at same root is_home store =
    let host : i.home.host ≡ h = ap (λ (q : Spot). q.host) is_home ∙ same in
    record {
      number = n;
      entry = root_of r;
      among = slice_get-map root_of functions n ∙ ap (option_map root_of) among;
      function = ap (λ (q : Root). stored_of q.stored.now) root;
      formulas = ap (λ (q : Root). map formula_of q.formulas.now) root;
      home = home;
      homes = homes;
      host = t;
      hosted = ap (host_at e is) host ∙ hosted;
      named = named;
      definition = d;
      at = (λ j. spot_in (host j) t d home.turn) ∙ (sym at ∙ ap (λ (q : Spot). Some q) (sym is_home));
      stored = store ∙ ap (store_spot t (root_of r).0.placed.stores) (sym is_home);
    }

turned_host : (h : Host) (d : ℕ) (f : List Step → ℕ → ℕ) (o : Option ℕ) (steps : List Step) (s : Spot) → Some s ≡ (o >>= λ k. Some (spot h d (f steps k))) → s.host ≡ h
turned_host h d f None steps s e = absurd cc
turned_host h d f (Some k) steps s e = ap (λ (q : Option Spot). elim q [ Some p ↦ p.host | None ↦ h ]) e

nested_host : (h : Host) (t : HostText) (d : ℕ) (x : List ℕ) (f : FormulaText) (o : Option NestText) (s : Spot)
    → Some s ≡ (o >>= λ n. turn_number f x t.function.placed.loops >>= λ k. Some (spot h d (depth_inside (k + 1) n.steps))) → s.host ≡ h
nested_host h t d x f None s e = absurd cc
nested_host h t d x f (Some n) s e = turned_host h d (λ steps k. depth_inside (k + 1) steps) (turn_number f x t.function.placed.loops) n.steps s e

defined_host : (h : Host) (t : HostText) (d : ℕ) (x : List ℕ) (o : Option FormulaText) (s : Spot)
    → Some s ≡ (o >>= λ f. slice_get t.nests d >>= λ n. turn_number f x t.function.placed.loops >>= λ k. Some (spot h d (depth_inside (k + 1) n.steps))) → s.host ≡ h
defined_host h t d x None s e = absurd cc
defined_host h t d x (Some f) s e = nested_host h t d x f (slice_get t.nests d) s e

gridded_host : (h : Host) (t : HostText) (d : ℕ) (x : List ℕ) (b : Bool) (s : Spot)
    → Some s ≡ (if b then Some (record { host = h; definition = None; depth = 0 }) else spot_inside h t d x) → s.host ≡ h
gridded_host h t d x true s e = ap (λ (q : Option Spot). elim q [ Some p ↦ p.host | None ↦ h ]) e
gridded_host h t d x false s e = defined_host h t d x (slice_get t.formulas d) s e

pub at_home : (e : Entry) (functions : List Root) (is : List PlacedText) (n : ℕ) (r : Root) (home : Home) (h : Host) (t : HostText) (d : ℕ) (s : Spot) (o : Option Inner)
    → slice_get functions n ≡ Some r → first_home (root_of r).0.placed.homes ≡ Some home → host_at e is h ≡ Some t → t.function.subject.name ≡ home.function
    → Some s ≡ spot_in h t d home.turn → IfSome o (λ i. i.root ≡ r) → IfSome o (λ i. i.home ≡ s)
    → IfSome o (λ i. i.store ≡ store_spot t (root_of r).0.placed.stores s) → IfSome o (λ i. IsAtHome e (map root_of functions) is (inner_seen i))
at_home e functions is n r home h t d s None among homes hosted named at root there store = tt
at_home e functions is n r home h t d s (Some i) among homes hosted named at root there store =
    seen_at e functions is n r home h t d s i among homes hosted named at (gridded_host h t d home.turn (is_over_grid t.function.placed.loops home.turn) s at) root there store

pub each_at_home : {E : Type 0} (e : Entry) (functions : List Root) (is : List PlacedText) (n : ℕ) (r : Root) (home : Home) (h : Host) (t : HostText) (d : ℕ) (s : Spot)
    (o : Result (Option Inner) E) → slice_get functions n ≡ Some r → first_home (root_of r).0.placed.homes ≡ Some home → host_at e is h ≡ Some t
    → t.function.subject.name ≡ home.function → Some s ≡ spot_in h t d home.turn → IfOk o (λ v. IfSome v (λ i. i.root ≡ r)) → IfOk o (λ v. IfSome v (λ i. i.home ≡ s))
    → IfOk o (λ v. IfSome v (λ i. i.store ≡ store_spot t (root_of r).0.placed.stores s)) → IfOk o (λ v. IfSome v (λ i. IsAtHome e (map root_of functions) is (inner_seen i)))
each_at_home e functions is n r home h t d s (Ok v) among homes hosted named at root there store = at_home e functions is n r home h t d s v among homes hosted named at root there store
each_at_home e functions is n r home h t d s (Err x) among homes hosted named at root there store = tt

pub put_at : (e : Entry) (es : List Entry) (is : List PlacedText) (o : Option Inner) (xs all : List Inner) → IfSome o (λ i. IsAtHome e es is (inner_seen i)) → AreAt e es is (map inner_seen xs)
    → all ≡ put_before o xs → AreAt e es is (map inner_seen all)
put_at e es is None xs all first others h = subst (λ (l : List Inner). AreAt e es is (map inner_seen l)) (sym h) others
put_at e es is (Some i) xs all first others h = subst (λ (l : List Inner). AreAt e es is (map inner_seen l)) (sym h) (first, others)

both_at : (e : Entry) (es : List Entry) (is xs ys : List PlacedText) → AreAt e es is xs → AreAt e es is ys → AreAt e es is (xs ++ ys)
both_at e es is [] ys h k = k
both_at e es is (x ∷ xs) ys h k = (h.0, both_at e es is xs ys h.1 k)

pub appended : (e : Entry) (es : List Entry) (is : List PlacedText) (xs ys all : List Inner) → AreAt e es is (map inner_seen xs) → AreAt e es is (map inner_seen ys) → all ≡ xs ++ ys
    → AreAt e es is (map inner_seen all)
appended e es is xs ys all h k z =
    subst (λ (l : List PlacedText). AreAt e es is l) (sym (ap (map inner_seen) z ∙ map-append inner_seen xs ys)) (both_at e es is (map inner_seen xs) (map inner_seen ys) h k)

-- ---- where more are computed there

slice_behind : {A : Type 0} (xs ys : List A) (n : ℕ) (x : A) → slice_get xs n ≡ Some x → slice_get (xs ++ ys) n ≡ Some x
slice_behind [] ys n x e = absurd cc
slice_behind (z ∷ xs) ys zero x e = e
slice_behind (z ∷ xs) ys (suc n) x e = slice_behind xs ys n x e

found_behind : {B : Type 0} (o p : Option PlacedText) (g : PlacedText → Option B) (r : B) → ((i : PlacedText) → o ≡ Some i → p ≡ Some i) → (o >>= g) ≡ Some r → (p >>= g) ≡ Some r
found_behind None p g r f e = absurd cc
found_behind (Some i) p g r f e = bound p g i (Some r) (f i refl) e

host_behind : (e : Entry) (is js : List PlacedText) (h : Host) (t : HostText) → host_at e is h ≡ Some t → host_at e (is ++ js) h ≡ Some t
host_behind e is js Own t is_so = is_so
host_behind e is js (Inside n) t is_so = found_behind (slice_get is n) (slice_get (is ++ js) n) (λ i. Some (with_nests i i.nests)) t (slice_behind is js n) is_so
host_behind e is js (Anew n) t is_so =
    found_behind (slice_get is n) (slice_get (is ++ js) n) (λ i. i.later >>= λ l. Some (with_nests i l.nests)) t (slice_behind is js n) is_so

home_behind : (e : Entry) (es : List Entry) (is js : List PlacedText) (i : PlacedText) → IsAtHome e es is i → IsAtHome e es (is ++ js) i
home_behind e es is js i h = record {
  number = h.number;
  entry = h.entry;
  among = h.among;
  function = h.function;
  formulas = h.formulas;
  home = h.home;
  homes = h.homes;
  host = h.host;
  hosted = host_behind e is js i.home.host h.host h.hosted;
  named = h.named;
  definition = h.definition;
  at = h.at;
  stored = h.stored;
}

homes_behind : (e : Entry) (es : List Entry) (is js xs : List PlacedText) → AreAt e es is xs → AreAt e es (is ++ js) xs
homes_behind e es is js [] h = tt
homes_behind e es is js (x ∷ xs) h = (home_behind e es is js x h.0, homes_behind e es is js xs h.1)

pub more_at_home : (e : Entry) (es : List Entry) (xs ys all : List Inner) → AreAtHome e es (map inner_seen xs) → AreAt e es (map inner_seen xs) (map inner_seen ys) → all ≡ xs ++ ys
    → AreAtHome e es (map inner_seen all)
more_at_home e es xs ys all h k z =
    let is = map inner_seen xs in
    let js = map inner_seen ys in
    let is_all : map inner_seen all ≡ is ++ js = ap (map inner_seen) z ∙ map-append inner_seen xs ys in
    subst (λ (l : List PlacedText). AreAtHome e es l) (sym is_all) (both_at e es (is ++ js) is js (homes_behind e es is js is h) (homes_behind e es is js js k))
