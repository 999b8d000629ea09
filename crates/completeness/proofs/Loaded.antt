-- What the definitions of a stored function call, and is a stored function, is loaded by a claim where it is called.
use Rattle.std.proofs.Common.{◌≡◌, ℕ, zero, suc, ◌+◌, Bool, true, false, ◌||◌, List, [], ◌∷◌, ◌++◌, Option, Some, None, refl, sym, ap, ◌∙◌, subst, inl, inr, ◌⊎◌, arith}
use Rattle.std.specs.Prelude.{if◌then◌else◌, string_bytes, slice_get}
use Rattle.std.specs.List.{AllByRecursion, flat_map}
use Rattle.lin.specs.declared.scope.Binding.{Binding}
use Rattle.plan.specs.declared.certificate.cert.Claim.{Claim as CodeClaim}
use Rattle.plan.specs.declared.certificate.cert.Need.{Need}
use Rattle.tree.specs.Term.{Term}
use Rattle.meaning.specs.Names.{same_name}
use Rattle.soundness.proofs.Refines.{name_refl}
use Rattle.algo.specs.Scoping.Standing.{Written, calls_of}
use Rattle.sched.specs.Stored.{FormulaText, calls_left, calls_in, are_calls_of}
use Rattle.regions.specs.Stored.{some_calls}
use Rattle.sched.specs.Loading.{Loads, last_of}
use Rattle.sched.specs.Fetches.{Entry}
use Rattle.blocks.specs.Fetches.{FetchText}
use Rattle.lower.specs.Fetches.{Calls, is_fetched, fetched_if, fetched_groups, AreFetched, loads_from}

-- ---- loads by name

-- one of the loads is of this function
abbrev pub Names : Loads → List ℕ → Type 0
Names [] x = ⊥
Names (m ∷ ms) x = (m.0 ≡ x) ⊎ Names ms x

pub names_first : (xs ys : Loads) (x : List ℕ) → Names xs x → Names (xs ++ ys) x
names_first [] ys x h = absurd h
names_first (m ∷ xs) ys x (inl e) = inl e
names_first (m ∷ xs) ys x (inr h) = inr (names_first xs ys x h)

pub names_last : (xs : Loads) (x : List ℕ) (k : ℕ) → Names (xs ++ (x, k) ∷ []) x
names_last [] x k = inl refl
names_last (m ∷ xs) x k = inr (names_last xs x k)

abbrev IsThere : Option ℕ → Type 0
IsThere None = ⊥
IsThere (Some k) = Unit {0}

there_stays : (ms : Loads) (o : Option ℕ) (x : List ℕ) → IsThere o → IsThere (last_of o ms x)
there_stays [] o x h = h
there_stays (m ∷ ms) o x h = there_stays ms (if same_name m.0 x then Some m.1 else o) x (of (same_name m.0 x))
  where
    of : (b : Bool) → IsThere (if b then Some m.1 else o)
    of true = tt
    of false = h

last_there : (ms : Loads) (o : Option ℕ) (x : List ℕ) → Names ms x → IsThere (last_of o ms x)
last_there [] o x h = absurd h
last_there (m ∷ ms) o x (inl e) = there_stays ms (if same_name m.0 x then Some m.1 else o) x (of (same_name m.0 x) (ap (λ (y : List ℕ). same_name y x) e ∙ name_refl x))
  where
    of : (b : Bool) → b ≡ true → IsThere (if b then Some m.1 else o)
    of true q = tt
    of false q = absurd (cc q)
last_there (m ∷ ms) o x (inr h) = last_there ms (if same_name m.0 x then Some m.1 else o) x h

-- a function that none is of is not loaded
pub not_named : (ms : Loads) (x : List ℕ) → last_of None ms x ≡ None → Names ms x → ⊥
not_named ms x e h = subst IsThere e (last_there ms None x h)

-- ---- what is fetched

module _ (us : List FormulaText) (n : ℕ) where
  pub fetched_there : (from : ℕ) (es : List Entry) (j : ℕ) (e : Entry) → slice_get es j ≡ Some e → is_fetched us n (from + j) e ≡ true →
      (i : ℕ) × (slice_get (fetched_groups us n from es) i ≡ Some (from + j, e))
  fetched_there from [] j e at h = absurd (cc at)
  fetched_there from (u ∷ es) zero e at h =
      let same : u ≡ e = cc at in
      let here : from + 0 ≡ from = omega arith in
      let test : is_fetched us n from u ≡ true = (λ t. is_fetched us n (sym here t) (same t)) ∙ h in
      (0, ap (λ (b : Bool). slice_get (fetched_if b from u (fetched_groups us n (from + 1) es)) 0) test ∙ (λ t. Some (sym here t, same t)))
  fetched_there from (u ∷ es) (suc j) e at h =
      let next : (from + 1) + j ≡ from + suc j = omega arith in
      let w = fetched_there (from + 1) es j e at (ap (λ (m : ℕ). is_fetched us n m e) next ∙ h) in
      of (is_fetched us n from u) w.0 (w.1 ∙ ap (λ (m : ℕ). Some (m, e)) next)
    where
      of : (b : Bool) (i : ℕ) → slice_get (fetched_groups us n (from + 1) es) i ≡ Some (from + suc j, e) →
          (i : ℕ) × (slice_get (fetched_if b from u (fetched_groups us n (from + 1) es)) i ≡ Some (from + suc j, e))
      of true i q = (suc i, q)
      of false i q = (i, q)

module _ (calls : Calls) (grid : List Binding) (n : ℕ) where
  pub fetched_named : (b line : ℕ) (xs : List (ℕ × Entry)) (fs : List FetchText) (ws : List Need) (cs : List CodeClaim) → AreFetched calls grid n b line xs fs ws cs → (c i : ℕ) (x : ℕ × Entry) →
      slice_get xs i ≡ Some x → Names (loads_from c fs) x.1.0.subject.name
  fetched_named b line [] [] [] [] h c i x at = absurd (cc at)
  fetched_named b line [] [] [] (w ∷ cs) h c i x at = absurd h
  fetched_named b line [] [] (w ∷ ws) cs h c i x at = absurd h
  fetched_named b line [] (f ∷ fs) ws cs h c i x at = absurd h
  fetched_named b line (y ∷ xs) [] ws cs h c i x at = absurd h
  fetched_named b line (y ∷ xs) (f ∷ fs) [] cs h c i x at = absurd h
  fetched_named b line (y ∷ xs) (f ∷ fs) (w ∷ ws) [] h c i x at = absurd h
  fetched_named b line (y ∷ xs) (f ∷ fs) (w ∷ ws) (k ∷ cs) h c zero x at = inl (h.0.named ∙ (let same : y ≡ x = cc at in ap (λ (z : ℕ × Entry). z.1.0.subject.name) same))
  fetched_named b line (y ∷ xs) (f ∷ fs) (w ∷ ws) (k ∷ cs) h c (suc i) x at = inr (fetched_named (b + 1) (line + 2) xs fs ws cs h.2 (c + 1) i x at)

  -- what is so of each claim, by the name of its function and its number, is so of each load
  module _ (H : List ℕ → ℕ → Type 0) where
    pub fetched_so : (b line : ℕ) (xs : List (ℕ × Entry)) (fs : List FetchText) (ws : List Need) (cs : List CodeClaim) → AreFetched calls grid n b line xs fs ws cs → (c : ℕ) →
        ((j : ℕ) (w : CodeClaim) → slice_get cs j ≡ Some w → H (string_bytes w.function) (c + j)) → AllByRecursion (λ m. H m.0 m.1) (loads_from c fs)
    fetched_so b line [] [] [] [] h c so = tt
    fetched_so b line [] [] [] (k ∷ cs) h c so = absurd h
    fetched_so b line [] [] (w ∷ ws) cs h c so = absurd h
    fetched_so b line [] (f ∷ fs) ws cs h c so = absurd h
    fetched_so b line (x ∷ xs) [] ws cs h c so = absurd h
    fetched_so b line (x ∷ xs) (f ∷ fs) [] cs h c so = absurd h
    fetched_so b line (x ∷ xs) (f ∷ fs) (w ∷ ws) [] h c so = absurd h
    fetched_so b line (x ∷ xs) (f ∷ fs) (w ∷ ws) (k ∷ cs) h c so =
        let none : c + 0 ≡ c = omega arith in
        let named : string_bytes k.function ≡ f.function = h.0.claimed.named ∙ sym h.0.named in (
          subst (λ (m : ℕ). H f.function m) none (subst (λ (x : List ℕ). H x (c + 0)) named (so 0 k refl)),
          fetched_so (b + 1) (line + 2) xs fs ws cs h.2 (c + 1) (λ j v at. let next : c + suc j ≡ (c + 1) + j = omega arith in subst (H (string_bytes v.function)) next (so (suc j) v at)),
        )

-- ---- what a definition calls, all of them call

or_left : (b d : Bool) → b ≡ true → (b || d) ≡ true
or_left true d q = refl
or_left false d q = absurd (cc q)

or_right : (b d : Bool) → d ≡ true → (b || d) ≡ true
or_right true d q = refl
or_right false d q = q

calls_first : (x : List ℕ) (cs ds : List Written) → are_calls_of x cs ≡ true → are_calls_of x (cs ++ ds) ≡ true
calls_first x [] ds h = absurd (cc h)
calls_first x (c ∷ cs) ds h = of (same_name c.name x) h (calls_first x cs ds)
  where
    of : (b : Bool) → (b || are_calls_of x cs) ≡ true → (are_calls_of x cs ≡ true → are_calls_of x (cs ++ ds) ≡ true) → (b || are_calls_of x (cs ++ ds)) ≡ true
    of true q rest = refl
    of false q rest = rest q

calls_second : (x : List ℕ) (cs ds : List Written) → are_calls_of x ds ≡ true → are_calls_of x (cs ++ ds) ≡ true
calls_second x [] ds h = h
calls_second x (c ∷ cs) ds h = or_right (same_name c.name x) (are_calls_of x (cs ++ ds)) (calls_second x cs ds h)

pub some_of : (x : List ℕ) (fs : List FormulaText) (d : ℕ) (u : FormulaText) → slice_get fs d ≡ Some u → are_calls_of x (calls_in u) ≡ true → some_calls x fs ≡ true
some_of x [] d u at h = absurd (cc at)
some_of x (f ∷ fs) zero u at h = (let same : f ≡ u = cc at in or_left (are_calls_of x (calls_in f)) (some_calls x fs) (ap (λ (w : FormulaText). are_calls_of x (calls_in w)) same ∙ h))
some_of x (f ∷ fs) (suc d) u at h = or_right (are_calls_of x (calls_in f)) (some_calls x fs) (some_of x fs d u at h)

pub value_calls : (x : List ℕ) (u : FormulaText) → are_calls_of x (calls_of u.value) ≡ true → are_calls_of x (calls_in u) ≡ true
value_calls x u h = calls_second x (flat_map calls_left u.at) (calls_of u.value) h

pub left_calls : (x : List ℕ) (u : FormulaText) (j : ℕ) (e : Term) → slice_get u.at j ≡ Some (Some e) → are_calls_of x (calls_of e) ≡ true → are_calls_of x (calls_in u) ≡ true
left_calls x u j e at h = calls_first x (flat_map calls_left u.at) (calls_of u.value) (among u.at j at)
  where
    among : (os : List (Option Term)) (j : ℕ) → slice_get os j ≡ Some (Some e) → are_calls_of x (flat_map calls_left os) ≡ true
    among [] j q = absurd (cc q)
    among (o ∷ os) zero q =
        (let same : o ≡ Some e = cc q in calls_first x (calls_left o) (flat_map calls_left os) (ap (λ (p : Option Term). are_calls_of x (calls_left p)) same ∙ h))
    among (o ∷ os) (suc j) q = calls_second x (calls_left o) (flat_map calls_left os) (among os j q)
